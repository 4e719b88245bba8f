-- The last writes of entries, key by key.
use Rattle.std.proofs.Common.{◌≡◌, ◌⊎◌, inl, inr, ℕ, zero, suc, ◌+◌, ◌<◌, ◌≤◌, Bool, true, false, cond, List, [], ◌∷◌, ◌++◌, length, get_or, Option, Some, None, sym, ◌∙◌, ap, subst, refl, arith}
use Rattle.std.specs.Prelude.{slice_get, map, ◌==◌, ◌&&◌, option_map}
use Rattle.std.specs.List.{All, AllPairs, AllByRecursion, find}
use Rattle.std.specs.List.Sorted.{IsStrictlySortedBy}
use Rattle.std.specs.declared.cmp.Ordering.{Ordering}
use Rattle.std.specs.declared.cmp.Ordering.TheVariants.{Less, Equal, Greater}
use Rattle.std.specs.Ordering.{is_gt, ordering_reverse}
use Rattle.std.proofs.lemmas.Bool.{cases_lt, cases_eq, eqb-true, eq-eqb, and_parts, and_from}
use Rattle.std.proofs.lemmas.Cmp.{upto, tied_itself}
use Rattle.std.proofs.lemmas.List.Quantifiers.{all_pairs_push}
use Rattle.std.proofs.lemmas.List.{length_push, get_or_append_left, get_or_push}
use Rattle.std.proofs.lemmas.Map.Keys.{sorted_head, sorted_tail}
use Rattle.std.proofs.lemmas.Option.{slice_get_within, get_or_from_slice_get, slice_get-get_or}
use Rattle.odb_codec.specs.Image.{IsStorable}
use Rattle.odb_model.specs.declared.entry.Entry.{Entry}
use Rattle.odb_model.specs.declared.write.Write.{Write}
use Rattle.odb_model.specs.State.{table_key_cmp, table_key_of}
use Rattle.odb_model.specs.Transaction.{table_keys}
use Rattle.odb_model.specs.Storable.{IsNarrow as IsNarrowWrite}
use Rattle.odb_model.specs.Width.{width_of_change}
use Rattle.odb_values.specs.Key.{width_of_all}
use Rattle.odb_model.proofs.Replay.{table_key_cmp_total, table_key_cmp_exact}
use Rattle.odb_bank.specs.History.{Key, is_key, write_to}
use Rattle.odb_bank.specs.Records.{Record}
use Rattle.odb_bank.specs.declared.latest.Addition.{Addition}
use Rattle.odb_bank.specs.Additions.{record_of, record_of_write, IsAddition, last_key, IsNarrow}
use Rattle.odb_bank.specs.Latest.{IsLatest, IsUnwritten, HasKey, AreLatest}
use Rattle.odb_bank.specs.LeastAbove.{IsBehind, IsAbove, IsFirstAbove, IsLeastAt, IsLeast}
use Rattle.odb_bank.proofs.Keys.{key_true, key_same}
use Rattle.odb_bank.proofs.Choice.{last_or_before}
use Rattle.odb_bank.proofs.Items.{snoc_at}

-- writes in order
by_all : (P : Key → Type 0) (ws : List Write) → AllByRecursion P (table_keys ws) → (j : ℕ) (c : Write) → slice_get ws j ≡ Some c → P (table_key_of c)
by_all P [] all j c is = absurd (cc is)
by_all P (w ∷ ws) all zero c is = let same : w ≡ c = cc is in subst (λ (x : Write). P (table_key_of x)) same all.0
by_all P (w ∷ ws) all (suc j) c is = by_all P ws all.1 j c is

pub sorted_pairs : (ws : List Write) → IsStrictlySortedBy table_key_cmp (table_keys ws) → (i j : ℕ) (a c : Write) → i < j → slice_get ws i ≡ Some a → slice_get ws j ≡ Some c → table_key_cmp (table_key_of a) (table_key_of c) ≡ Less
sorted_pairs [] up i j a c low one other = absurd (cc one)
sorted_pairs (w ∷ ws) up zero zero a c low one other = absurd (omega arith)
sorted_pairs (w ∷ ws) up zero (suc j) a c low one other =
    let same : w ≡ a = cc one in
    subst (λ (x : Write). table_key_cmp (table_key_of x) (table_key_of c) ≡ Less) same (by_all (λ k. table_key_cmp (table_key_of w) k ≡ Less) ws (sorted_head table_key_cmp (table_key_of w) (table_keys ws) up) j c other)
sorted_pairs (w ∷ ws) up (suc i) zero a c low one other = absurd (omega arith)
sorted_pairs (w ∷ ws) up (suc i) (suc j) a c low one other = sorted_pairs ws (sorted_tail table_key_cmp (table_key_of w) (table_keys ws) up) i j a c (omega arith) one other

-- orders
not_gt_less : (o : Ordering) → o ≡ Less → is_gt o ≡ false
not_gt_less o e = ap is_gt e

less_itself : (k : Key) → table_key_cmp k k ≡ Less → ⊥
less_itself k e = let tied = tied_itself table_key_cmp_total k in cc (e, tied)

-- what `find` finds of a key
same_write : (bank : ℕ) (key : Key) (w : Write) → ((w.bank == bank) && is_key (table_key_of w) key) ≡ true → (w.bank ≡ bank) × (table_key_of w ≡ key)
same_write bank key w is =
    let parts = and_parts (w.bank == bank) (is_key (table_key_of w) key) is in
    (eqb-true w.bank bank parts.0, key_true (table_key_of w) key parts.1)

is_write_of : (bank : ℕ) (key : Key) (w : Write) → w.bank ≡ bank → table_key_of w ≡ key → ((w.bank == bank) && is_key (table_key_of w) key) ≡ true
is_write_of bank key w one other = and_from (w.bank == bank) (is_key (table_key_of w) key) (eq-eqb w.bank bank one) (key_same (table_key_of w) key other)

-- no write of the key
none_written : (bank : ℕ) (key : Key) (ws : List Write) → ((m : ℕ) (x : Write) → slice_get ws m ≡ Some x → x.bank ≡ bank → table_key_of x ≡ key → ⊥) → write_to bank key ws ≡ None
none_written bank key [] none = refl
none_written bank key (w ∷ ws) none = go ((w.bank == bank) && is_key (table_key_of w) key) refl (none_written bank key ws (λ m x at. none (suc m) x at))
  where
    go : (b : Bool) → ((w.bank == bank) && is_key (table_key_of w) key) ≡ b → write_to bank key ws ≡ None → write_to bank key (w ∷ ws) ≡ None
    go true is rest = let both = same_write bank key w is in absurd (none zero w refl both.0 both.1)
    go false is rest = ap (λ (b : Bool). option_map (λ (x : Write). x.row) (cond b (Some w) (find (λ (x : Write). (x.bank == bank) && is_key (table_key_of x) key) ws))) is ∙ rest

-- the one write of the key
one_written : (bank : ℕ) (key : Key) (ws : List Write) → IsStrictlySortedBy table_key_cmp (table_keys ws) → (m : ℕ) (x : Write) → slice_get ws m ≡ Some x → x.bank ≡ bank → table_key_of x ≡ key → write_to bank key ws ≡ Some x.row
one_written bank key [] up m x at its of_key = absurd (cc at)
one_written bank key (w ∷ ws) up m x at its of_key =
    go ((w.bank == bank) && is_key (table_key_of w) key) refl m at (λ p here. one_written bank key ws (sorted_tail table_key_cmp (table_key_of w) (table_keys ws) up) p x here its of_key)
  where
    go : (b : Bool) → ((w.bank == bank) && is_key (table_key_of w) key) ≡ b → (p : ℕ) → slice_get (w ∷ ws) p ≡ Some x → ((q : ℕ) → slice_get ws q ≡ Some x → write_to bank key ws ≡ Some x.row) → write_to bank key (w ∷ ws) ≡ Some x.row
    go true is zero here rest =
        let same : w ≡ x = cc here in
        ap (λ (b : Bool). option_map (λ (y : Write). y.row) (cond b (Some w) (find (λ (y : Write). (y.bank == bank) && is_key (table_key_of y) key) ws))) is
        ∙ ap (λ (y : Write). Some y.row) same
    go true is (suc p) here rest =
        let both = same_write bank key w is in
        let less = by_all (λ k. table_key_cmp (table_key_of w) k ≡ Less) ws (sorted_head table_key_cmp (table_key_of w) (table_keys ws) up) p x here in
        let same : table_key_of w ≡ table_key_of x = both.1 ∙ sym of_key in
        absurd (less_itself (table_key_of x) (sym (ap (λ (k : Key). table_key_cmp k (table_key_of x)) same) ∙ less))
    go false is zero here rest =
        let same : w ≡ x = cc here in
        let yes = is_write_of bank key w (ap (λ (y : Write). y.bank) same ∙ its) (ap table_key_of same ∙ of_key) in
        absurd (cc (is, yes))
    go false is (suc p) here rest =
        ap (λ (b : Bool). option_map (λ (y : Write). y.row) (cond b (Some w) (find (λ (y : Write). (y.bank == bank) && is_key (table_key_of y) key) ws))) is
        ∙ rest p here

-- the writes of an entry that can be stored ascend
pub ordered_at : (entries : List Entry) → All IsStorable entries → (k : ℕ) (f : Entry) → slice_get entries k ≡ Some f → IsStrictlySortedBy table_key_cmp (table_keys f.writes)
ordered_at entries all k f is =
    let storable : IsStorable f = subst IsStorable (get_or_from_slice_get entries k f f is) (all k f (slice_get_within entries k f is)) in
    let list = storable.writes in
    list.ascending

-- one write more
module _ (bank : ℕ) (above : Option Key) (writes : List Write) (n : ℕ) (w : Write) (here : slice_get writes n ≡ Some w) (so_far : IsFirstAbove bank above writes n None) where
  pub first_more : (IsAbove bank above w → ⊥) → IsFirstAbove bank above writes (n + 1) None
  first_more out k x low is over = elim (last_or_before n k low) [
    | inl last ↦ let same : x ≡ w = cc (ap (slice_get writes) last, is, here) in out (subst (IsAbove bank above) same over)
    | inr before ↦ so_far k x before is over
  ]

  pub first_found : (m : ℕ) → IsAbove bank above w → IsFirstAbove bank above writes m (Some n)
  first_found m over = (w, here, over, so_far)

pub first_none : (bank : ℕ) (above : Option Key) (writes : List Write) → IsFirstAbove bank above writes 0 None
first_none bank above writes k w low is over = absurd (omega arith)

-- one entry more
module _ (bank : ℕ) (above : Option Key) (entries : List Entry) (n : ℕ) (e : Entry) (here : slice_get entries n ≡ Some e) (up : IsStrictlySortedBy table_key_cmp (table_keys e.writes)) where
  at_last : (k : ℕ) (f : Entry) → k ≡ n → slice_get entries k ≡ Some f → f ≡ e
  at_last k f last is = cc (ap (slice_get entries) last, here, is)

  -- none of its writes is so
  module _ (none : IsFirstAbove bank above e.writes (length e.writes) None) where
    none_at : (k m : ℕ) (f : Entry) (x : Write) → k ≡ n → slice_get entries k ≡ Some f → slice_get f.writes m ≡ Some x → IsAbove bank above x → ⊥
    none_at k m f x last is at over =
        let its : slice_get e.writes m ≡ Some x = ap (λ (y : Entry). slice_get y.writes m) (sym (at_last k f last is)) ∙ at in
        none m x (slice_get_within e.writes m x its) its over

    pub least_stays : (best : Option (ℕ × ℕ)) → IsLeast bank above entries n best → IsLeast bank above entries (n + 1) best
    least_stays None so_far = λ k m f x low is at over. elim (last_or_before n k low) [
      | inl last ↦ none_at k m f x last is at over
      | inr before ↦ so_far k m f x before is at over
    ]
    least_stays (Some places) so_far =
        let best = so_far.2 in
        let wider : IsLeastAt bank above entries (n + 1) places so_far.0 so_far.1 = record {
          below = omega (arith, best.below);
          is_entry = best.is_entry;
          is_write = best.is_write;
          is_above = best.is_above;
          least = λ k m f x low is at over. elim (last_or_before n k low) [
            | inl last ↦ absurd (none_at k m f x last is at over)
            | inr before ↦ best.least k m f x before is at over
          ];
          last = λ k m f x behind low is at over same. elim (last_or_before n k low) [
            | inl last ↦ none_at k m f x last is at over
            | inr before ↦ best.last k m f x behind before is at over same
          ];
        } in
        (so_far.0, so_far.1, wider)

  -- this one is the first of them
  module _ (place : ℕ) (w : Write) (at : slice_get e.writes place ≡ Some w) (first : IsFirstAbove bank above e.writes (length e.writes) (Some place)) where
    same_first : first.0 ≡ w
    same_first = cc (first.1, at)

    over : IsAbove bank above w
    over = subst (IsAbove bank above) same_first first.2

    least_here : (m : ℕ) (x : Write) → slice_get e.writes m ≡ Some x → IsAbove bank above x → is_gt (table_key_cmp (table_key_of w) (table_key_of x)) ≡ false
    least_here m x is x_over = elim (cases_lt m place) [
      | inl before ↦ absurd (first.3 m x before is x_over)
      | inr from ↦ elim (cases_eq m place) [
        | inl same ↦
            let one : x ≡ w = cc (ap (slice_get e.writes) same, is, at) in
            ap (λ (y : Write). is_gt (table_key_cmp (table_key_of w) (table_key_of y))) one ∙ ap is_gt (tied_itself table_key_cmp_total (table_key_of w))
        | inr later ↦ not_gt_less (table_key_cmp (table_key_of w) (table_key_of x)) (sorted_pairs e.writes up place m w x (omega arith) at is)
      ]
    ]

    in_last : (k m : ℕ) (f : Entry) (x : Write) → k ≡ n → slice_get entries k ≡ Some f → slice_get f.writes m ≡ Some x → slice_get e.writes m ≡ Some x
    in_last k m f x last is there = ap (λ (y : Entry). slice_get y.writes m) (sym (at_last k f last is)) ∙ there

    pub least_first : IsLeast bank above entries n None → IsLeast bank above entries (n + 1) (Some (n, place))
    least_first none =
        let now : IsLeastAt bank above entries (n + 1) (n, place) e w = record {
          below = omega arith;
          is_entry = here;
          is_write = at;
          is_above = over;
          least = λ k m f x low is there x_over. elim (last_or_before n k low) [
            | inl last ↦ least_here m x (in_last k m f x last is there) x_over
            | inr before ↦ absurd (none k m f x before is there x_over)
          ];
          last = λ k m f x behind low is there x_over same. absurd (omega arith);
        } in
        (e, w, now)

    module _ (places : ℕ × ℕ) (f0 : Entry) (w0 : Write) (is_entry : slice_get entries places.0 ≡ Some f0) (is_write : slice_get f0.writes places.1 ≡ Some w0) (best : IsLeast bank above entries n (Some places)) where
      was : IsLeastAt bank above entries n places f0 w0
      was =
          let b = best.2 in
          let one : best.0 ≡ f0 = cc (b.is_entry, is_entry) in
          let other : best.1 ≡ w0 = cc (ap (λ (y : Entry). slice_get y.writes places.1) one, b.is_write, is_write) in
          subst (λ (y : Write). IsLeastAt bank above entries n places f0 y) other (subst (λ (y : Entry). IsLeastAt bank above entries n places y best.1) one best.2)

      -- the one before has a lesser key
      pub least_keeps : table_key_cmp (table_key_of w) (table_key_of w0) ≡ Greater → IsLeast bank above entries (n + 1) (Some places)
      least_keeps greater =
          let less : table_key_cmp (table_key_of w0) (table_key_of w) ≡ Less = table_key_cmp_total.antisymm (table_key_of w0) (table_key_of w) ∙ ap ordering_reverse greater in
          let now : IsLeastAt bank above entries (n + 1) places f0 w0 = record {
            below = omega (arith, was.below);
            is_entry = is_entry;
            is_write = is_write;
            is_above = was.is_above;
            least = λ k m f x low is there x_over. elim (last_or_before n k low) [
              | inl last ↦ upto table_key_cmp_total (table_key_of w0) (table_key_of w) (table_key_of x) (ap is_gt less) (least_here m x (in_last k m f x last is there) x_over)
              | inr before ↦ was.least k m f x before is there x_over
            ];
            last = λ k m f x behind low is there x_over same. elim (last_or_before n k low) [
              | inl last ↦
                  let not_less = least_here m x (in_last k m f x last is there) x_over in
                  let again : is_gt (table_key_cmp (table_key_of w) (table_key_of w0)) ≡ false = ap (λ (q : Key). is_gt (table_key_cmp (table_key_of w) q)) (sym same) ∙ not_less in
                  let gt = ap is_gt greater in
                  cc (again, gt)
              | inr before ↦ was.last k m f x behind before is there x_over same
            ];
          } in
          (f0, w0, now)

      -- or not
      pub least_takes : is_gt (table_key_cmp (table_key_of w) (table_key_of w0)) ≡ false → IsLeast bank above entries (n + 1) (Some (n, place))
      least_takes down =
          let now : IsLeastAt bank above entries (n + 1) (n, place) e w = record {
            below = omega arith;
            is_entry = here;
            is_write = at;
            is_above = over;
            least = λ k m f x low is there x_over. elim (last_or_before n k low) [
              | inl last ↦ least_here m x (in_last k m f x last is there) x_over
              | inr before ↦ upto table_key_cmp_total (table_key_of w) (table_key_of w0) (table_key_of x) down (was.least k m f x before is there x_over)
            ];
            last = λ k m f x behind low is there x_over same. absurd (omega arith);
          } in
          (e, w, now)

pub least_begins : (bank : ℕ) (above : Option Key) (entries : List Entry) → IsLeast bank above entries 0 None
least_begins bank above entries k m f x low is at over = absurd (omega arith)

-- The list so far, up to its last key
abbrev pub IsUpTo : Option Key → Key → Type 0
IsUpTo None key = ⊥
IsUpTo (Some last) key = is_gt (table_key_cmp key last) ≡ false

pub record IsGathering (bank : ℕ) (entries : List Entry) (last : Option Key) (records : List Record) : Type 0 where
  pub each : (k : ℕ) (r : Record) → slice_get records k ≡ Some r → IsLatest bank entries r
  pub low : (k : ℕ) (r : Record) → slice_get records k ≡ Some r → IsUpTo last r.key
  pub covered : (key : Key) → IsBehind last key ⊎ (IsUnwritten bank entries key ⊎ HasKey records key)
  pub ascending : AllPairs (λ a c. table_key_cmp a.key c.key ≡ Less) records

pub gathering_none : (bank : ℕ) (entries : List Entry) → IsGathering bank entries None []
gathering_none bank entries = record {
  each = λ k r is. absurd (cc is);
  low = λ k r is. absurd (cc is);
  covered = λ key. inl tt;
  ascending = λ i j d low within. absurd (omega arith);
}

-- a key below one that is below another
less_by : (a b c : Key) → is_gt (table_key_cmp a b) ≡ false → table_key_cmp b c ≡ Less → table_key_cmp a c ≡ Less
less_by a b c up less = go (table_key_cmp a b) refl
  where
    go : (o : Ordering) → table_key_cmp a b ≡ o → table_key_cmp a c ≡ Less
    go Less is = table_key_cmp_total.trans a b c is less
    go Equal is = table_key_cmp_total.congr a b c is ∙ less
    go Greater is = let gt = ap is_gt is in absurd (cc (up, gt))

behind_by : (last : Option Key) (a c : Key) → IsUpTo last a → IsBehind last c → table_key_cmp a c ≡ Less
behind_by None a c up behind = absurd up
behind_by (Some l) a c up behind = less_by a l c up behind

module _ (bank : ℕ) (entries : List Entry) (ordered : (k : ℕ) (f : Entry) → slice_get entries k ≡ Some f → IsStrictlySortedBy table_key_cmp (table_keys f.writes)) (last : Option Key) (records : List Record) (so_far : IsGathering bank entries last records) where
  -- there is none behind the last key
  unwritten_by : (key : Key) → ((k m : ℕ) (f : Entry) (x : Write) → slice_get entries k ≡ Some f → slice_get f.writes m ≡ Some x → x.bank ≡ bank → table_key_of x ≡ key → ⊥) → IsUnwritten bank entries key
  unwritten_by key none k e is = none_written bank key e.writes (λ m x at its of_key. none k m e x is at its of_key)

  pub gathered : IsLeast bank last entries (length entries) None → AreLatest bank entries records
  gathered none = record {
    each = so_far.each;
    all = λ key. elim (so_far.covered key) [
      | inr fine ↦ fine
      | inl behind ↦ inl (unwritten_by key (λ k m f x is at its of_key.
          none k m f x (slice_get_within entries k f is) is at (its, subst (IsBehind last) (sym of_key) behind)))
    ];
    ascending = so_far.ascending;
  }

  -- or there is
  module _ (places : ℕ × ℕ) (e : Entry) (w : Write) (best : IsLeastAt bank last entries (length entries) places e w) where
    behind : IsBehind last (table_key_of w)
    behind = let over = best.is_above in over.1

    latest_this : IsLatest bank entries (record_of_write e w)
    latest_this = let over = best.is_above in record {
      place = places.0;
      entry = e;
      is_entry = best.is_entry;
      stamped = refl;
      writes = one_written bank (table_key_of w) e.writes (ordered places.0 e best.is_entry) places.1 w best.is_write over.0 refl;
      none_after = λ k later after is. none_written bank (table_key_of w) later.writes (λ m x at its of_key.
          best.last k m later x after (slice_get_within entries k later is) is at (its, subst (IsBehind last) (sym of_key) behind) of_key);
    }

    there : HasKey (records ++ record_of_write e w ∷ []) (table_key_of w)
    there = (length records, record_of_write e w, at_end records, refl)
      where
        at_end : (xs : List Record) → slice_get (xs ++ record_of_write e w ∷ []) (length xs) ≡ Some (record_of_write e w)
        at_end [] = refl
        at_end (x ∷ xs) = at_end xs

    kept_there : (q : Key) → HasKey records q → HasKey (records ++ record_of_write e w ∷ []) q
    kept_there q has = (has.0, has.1, still records has.0 has.1 has.2, has.3)
      where
        still : (xs : List Record) (k : ℕ) (x : Record) → slice_get xs k ≡ Some x → slice_get (xs ++ record_of_write e w ∷ []) k ≡ Some x
        still [] k x is = absurd (cc is)
        still (y ∷ xs) zero x is = is
        still (y ∷ xs) (suc k) x is = still xs k x is

    -- a key behind the last one
    by_order : (q : Key) → IsBehind last q → (o : Ordering) → table_key_cmp (table_key_of w) q ≡ o
        → IsBehind (Some (table_key_of w)) q ⊎ (IsUnwritten bank entries q ⊎ HasKey (records ++ record_of_write e w ∷ []) q)
    by_order q q_behind Less is = inl is
    by_order q q_behind Equal is = inr (inr (subst (HasKey (records ++ record_of_write e w ∷ [])) (table_key_cmp_exact (table_key_of w) q is) there))
    by_order q q_behind Greater is = inr (inl (unwritten_by q (λ k m f x at_entry at its of_key.
        let up = best.least k m f x (slice_get_within entries k f at_entry) at_entry at (its, subst (IsBehind last) (sym of_key) q_behind) in
        let gt = ap (λ (p : Key). is_gt (table_key_cmp (table_key_of w) p)) of_key ∙ ap is_gt is in
        cc (up, gt))))

    pub gathering_more : IsGathering bank entries (Some (table_key_of w)) (records ++ record_of_write e w ∷ [])
    gathering_more = record {
      each = λ k x is. elim (snoc_at records (record_of_write e w) x k is) [
        | inl before ↦ so_far.each k x before
        | inr this ↦ subst (IsLatest bank entries) this.1 latest_this
      ];
      low = λ k x is. elim (snoc_at records (record_of_write e w) x k is) [
        | inl before ↦ ap is_gt (behind_by last x.key (table_key_of w) (so_far.low k x before) behind)
        | inr this ↦ ap (λ (y : Record). is_gt (table_key_cmp y.key (table_key_of w))) (sym this.1) ∙ ap is_gt (tied_itself table_key_cmp_total (table_key_of w))
      ];
      covered = λ q. elim (so_far.covered q) [
        | inl q_behind ↦ by_order q q_behind (table_key_cmp (table_key_of w) q) refl
        | inr (inl unwritten) ↦ inr (inl unwritten)
        | inr (inr has) ↦ inr (inr (kept_there q has))
      ];
      ascending = all_pairs_push (λ a c. table_key_cmp a.key c.key ≡ Less) records (record_of_write e w) so_far.ascending
          (λ k d low. let is = slice_get-get_or records k d low in behind_by last (get_or records k d).key (table_key_of w) (so_far.low k (get_or records k d) is) behind);
    }

-- one addition more
last_of : (found : List Addition) (a : Addition) → last_key (found ++ a ∷ []) ≡ Some a.key
last_of found a = ap (option_map (λ (x : Addition). x.key)) (ap (λ (n : ℕ). slice_get (found ++ a ∷ []) n) (omega (arith, length_push found a)) ∙ at_end found)
  where
    at_end : (xs : List Addition) → slice_get (xs ++ a ∷ []) (length xs) ≡ Some a
    at_end [] = refl
    at_end (x ∷ xs) = at_end xs

records_more : (found : List Addition) (a : Addition) → map record_of (found ++ a ∷ []) ≡ map record_of found ++ record_of a ∷ []
records_more [] a = refl
records_more (x ∷ xs) a = let rest = records_more xs a in ap (λ (l : List Record). record_of x ∷ l) rest

all_more : (found : List Addition) (a : Addition) → All IsNarrow found → IsNarrow a → All IsNarrow (found ++ a ∷ [])
all_more found a all one k d low = elim (cases_lt k (length found)) [
  | inl before ↦ subst IsNarrow (sym (get_or_append_left found (a ∷ []) d k before)) (all k d before)
  | inr from ↦ let last : length found ≡ k = omega (arith, low, length_push found a) in subst IsNarrow (sym (get_or_push found a d k last)) one
]

abbrev pub Gathers : ℕ → List Entry → List Addition → Type 0
Gathers bank entries found = IsGathering bank entries (last_key found) (map record_of found) × All IsNarrow found

module _ (bank : ℕ) (entries : List Entry) (storable : All IsStorable entries) (found : List Addition) (places : ℕ × ℕ) (f : Entry) (there : slice_get entries places.0 ≡ Some f)
    (best : IsLeast bank (last_key found) entries (length entries) (Some places)) (a : Addition) (is : IsAddition f places.1 a) (so_far : IsGathering bank entries (last_key found) (map record_of found)) (narrow : All IsNarrow found) where
  entry_same : best.0 ≡ f
  entry_same = let at = best.2 in let one = at.is_entry in cc (one, there)

  write_same : best.1 ≡ is.0
  write_same = let at = best.2 in let one = ap (λ (x : Entry). slice_get x.writes places.1) (sym entry_same) ∙ at.is_write in let other = is.1 in cc (one, other)

  best_at : IsLeastAt bank (last_key found) entries (length entries) places f is.0
  best_at = subst (λ (w : Write). IsLeastAt bank (last_key found) entries (length entries) places f w) write_same
      (subst (λ (e : Entry). IsLeastAt bank (last_key found) entries (length entries) places e best.1) entry_same best.2)

  key_of : a.key ≡ table_key_of is.0
  key_of = ap (λ (r : Record). r.key) is.2

  gathers_more : IsGathering bank entries (last_key (found ++ a ∷ [])) (map record_of (found ++ a ∷ []))
  gathers_more =
      let more = gathering_more bank entries (ordered_at entries storable) (last_key found) (map record_of found) so_far places f is.0 best_at in
      let last : last_key (found ++ a ∷ []) ≡ Some (table_key_of is.0) = last_of found a ∙ ap Some key_of in
      let records : map record_of (found ++ a ∷ []) ≡ map record_of found ++ record_of_write f is.0 ∷ [] = records_more found a ∙ ap (λ (r : Record). map record_of found ++ r ∷ []) is.2 in
      subst (λ (o : Option Key). IsGathering bank entries o (map record_of (found ++ a ∷ []))) (sym last)
      (subst (IsGathering bank entries (Some (table_key_of is.0))) (sym records) more)

  fits : IsNarrow a
  fits =
      let of_entry : IsStorable f = subst IsStorable (get_or_from_slice_get entries places.0 f f there) (storable places.0 f (slice_get_within entries places.0 f there)) in
      let list = of_entry.writes in
      let w : IsNarrowWrite is.0 = subst IsNarrowWrite (get_or_from_slice_get f.writes places.1 is.0 is.0 is.1) (list.narrow places.1 is.0 (slice_get_within f.writes places.1 is.0 is.1)) in
      subst (λ (r : Record). width_of_all r.key.key + width_of_change r.row ≤ 1006) (sym is.2) w

  narrow_more : All IsNarrow (found ++ a ∷ [])
  narrow_more = all_more found a narrow fits

  pub gathering_with : (items : List Addition) → items ≡ found ++ a ∷ [] → Gathers bank entries items
  gathering_with items same = subst (Gathers bank entries) (sym same) (gathers_more, narrow_more)

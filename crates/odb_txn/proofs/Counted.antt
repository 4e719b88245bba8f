-- How the keys that a transaction has written count, and so what its statements mean where its
-- intentions are laid over rows.
use Rattle.std.proofs.Common.{◌≡◌, ℕ, ◌+◌, ◌≤◌, Bool, true, false, ◌||◌, cond, List, [], ◌∷◌, ◌++◌, map, length, take, nat_lt, is_some, refl, sym, ap, subst, ◌∙◌, arith, Option, Some, None, length-append}
use Rattle.std.specs.List.{All, AllByRecursion, list_any, flat_map}
use Rattle.std.specs.List.Sorted.{IsStrictlySortedBy}
use Rattle.std.specs.declared.cmp.Ordering.{Ordering}
use Rattle.std.specs.declared.cmp.Ordering.TheVariants.{Less, Equal, Greater}
use Rattle.std.specs.Ordering.{is_eq, eq_by_cmp, match_ordering}
use Rattle.std.specs.FinMap.{FinMap, empty, get, insert, contains_key, len, len-entries, len-empty, len-insert, get-empty, get-insert, same_map}
use Rattle.std.proofs.lemmas.List.{length-map, map-append}
use Rattle.std.proofs.lemmas.List.Elements.{All-map, All-tail}
use Rattle.std.proofs.lemmas.Map.Keys.{sorted_head, sorted_tail}
use Rattle.std.proofs.Math.Seq.{take-length}
use Rattle.odb_model.specs.declared.write.Write.{Write}
use Rattle.odb_model.specs.declared.entry.Entry.{Entry}
use Rattle.odb_model.specs.declared.outcome.Outcome.{Outcome}
use Rattle.odb_model.specs.declared.reply.Reply.{Reply}
use Rattle.odb_model.specs.declared.reply.Reply.TheVariants.{TooManyWrites, Done}
use Rattle.odb_model.specs.declared.statement.Statement.{Statement}
use Rattle.odb_model.specs.declared.statement.Statement.TheVariants.{Select, Insert, Update, Delete}
use Rattle.odb_model.specs.declared.table_key.TableKey.{TableKey}
use Rattle.odb_model.specs.declared.intention.Intention.{Intention}
use Rattle.odb_model.specs.State.{State, table_key_cmp, table_key_of, after_writes, replay}
use Rattle.odb_model.specs.Table.{Table}
use Rattle.odb_model.specs.Dictionary.{table_of}
use Rattle.odb_model.specs.Binding.{binding_refusal, first_refusal}
use Rattle.odb_model.specs.Meaning.{Meaning, KeySet, meaning, refused, refused_or, done, different, all_of, most_writes, executed, on_table, kept_rows, writes_of, tuples_refusal, update_refusal, update_writes, delete_writes}
use Rattle.odb_model.specs.Transaction.{Executed, table_keys, meaning_over, write_set_of}
use Rattle.odb_model.specs.Intentions.{intended_write, intentions_of}
use Rattle.odb_model.specs.Storable.{IsNarrow, AreStorable, HasKeys}
use Rattle.odb_model.proofs.Replay.{table_key_cmp_total, table_key_cmp_exact}
use Rattle.odb_model.proofs.Stored.{any_stored}
use Rattle.odb_rowsource.specs.Intentions.{laid_over, AreAscending, intention_of_write, put, put_all}
use Rattle.odb_rowsource.proofs.Intended.{Above}
use Rattle.odb_rowsource.proofs.Nexts.{flipped}
use Rattle.odb_rowsource.proofs.Kept.{intentions-state, intentions-put}
use Rattle.odb_txn.specs.Transaction.{Kept, IsKept, own_keys, writes_found_rows, own_with, CanBeKept, StandsFor}
use Rattle.odb_txn.proofs.Nets.{HasNarrowWrite, AreAscending-put_all, keys_of_intended}

-- a set of keys, by what it has

abbrev is_among : TableKey → List TableKey → Bool
is_among at keys = list_any (eq_by_cmp table_key_cmp at) keys

once_or_again : (b c : Bool) (o : Option (Unit {0})) → cond c (Some tt) (cond b (Some tt) o) ≡ cond (b || c) (Some tt) o
once_or_again true true o = refl
once_or_again true false o = refl
once_or_again false true o = refl
once_or_again false false o = refl

get-all_of : (keys : List TableKey) (found : KeySet) (at : TableKey) → get (all_of found keys) at ≡ cond (is_among at keys) (Some tt) (get found at)
get-all_of [] found at = refl
get-all_of (k ∷ keys) found at =
    get-all_of keys (insert found k tt) at
    ∙ ap (λ o. cond (is_among at keys) (Some tt) o) (get-insert table_key_cmp_total found k tt at)
    ∙ once_or_again (eq_by_cmp table_key_cmp at k) (is_among at keys) (get found at)

all_of-append : (xs ys : List TableKey) (found : KeySet) → all_of found (xs ++ ys) ≡ all_of (all_of found xs) ys
all_of-append [] ys found = refl
all_of-append (x ∷ xs) ys found = all_of-append xs ys (insert found x tt)

abbrev none_found : KeySet
none_found = empty

-- lists that have the same keys are counted alike
same_keys : (xs ys : List TableKey) → ((at : TableKey) → is_among at xs ≡ is_among at ys) → all_of none_found xs ≡ all_of none_found ys
same_keys xs ys same = same_map table_key_cmp_total table_key_cmp_exact (all_of none_found xs) (all_of none_found ys)
    (λ at. get-all_of xs none_found at ∙ ap (λ b. cond b (Some tt) (get none_found at)) (same at) ∙ sym (get-all_of ys none_found at))

-- with whatever keys behind them
abbrev CountAlike : List TableKey → List TableKey → Type 0
CountAlike xs ys = (more : List TableKey) → different (xs ++ more) ≡ different (ys ++ more)

count_alike : (xs ys : List TableKey) → ((at : TableKey) → is_among at xs ≡ is_among at ys) → CountAlike xs ys
count_alike xs ys same more =
    let as_set : all_of empty (xs ++ more) ≡ all_of empty (ys ++ more) =
    all_of-append xs more empty ∙ ap (λ found. all_of found more) (same_keys xs ys same) ∙ sym (all_of-append ys more empty) in
    sym (len-entries (all_of empty (xs ++ more))) ∙ ap len as_set ∙ len-entries (all_of empty (ys ++ more))

-- keys in ascending order are all different

abbrev IsAbove : TableKey → List TableKey → Type 0
IsAbove k keys = AllByRecursion (λ x. table_key_cmp k x ≡ Less) keys

abbrev AreNew : KeySet → List TableKey → Type 0
AreNew found keys = AllByRecursion (λ x. get found x ≡ None) keys

still_new : (k : TableKey) (keys : List TableKey) (found : KeySet) → IsAbove k keys → AreNew found keys → AreNew (insert found k tt) keys
still_new k [] found above new = tt
still_new k (x ∷ keys) found above new =
    let greater : table_key_cmp x k ≡ Greater = flipped k x Less above.0 in (
      get-insert table_key_cmp_total found k tt x ∙ ap (λ o. cond (is_eq o) (Some tt) (get found x)) greater ∙ new.0,
      still_new k keys found above.1 new.1,
    )

count_new : (keys : List TableKey) (found : KeySet) → IsStrictlySortedBy table_key_cmp keys → AreNew found keys → len (all_of found keys) ≡ len found + length keys
count_new [] found ascending new = omega arith
count_new (k ∷ keys) found ascending new =
    let one : len (insert found k tt) ≡ len found + 1 =
    len-insert table_key_cmp_total found k tt ∙ ap (λ o. cond (is_some o) (len found) (len found + 1)) new.0 in
    let later = count_new keys (insert found k tt) (sorted_tail table_key_cmp k keys ascending) (still_new k keys found (sorted_head table_key_cmp k keys ascending) new.1) in
    omega (arith, one, later)

all_new : (keys : List TableKey) → AreNew empty keys
all_new [] = tt
all_new (k ∷ keys) = (get-empty table_key_cmp k, all_new keys)

-- there are as many intentions as keys written
different-own : (own : List Intention) → AreAscending own → different (map (λ i. i.table_key) own) ≡ length own
different-own own ascending =
    let keys : List TableKey = map (λ i. i.table_key) own in
    let all : len (all_of empty keys) ≡ len (empty {X = Unit {0}} {R = table_key_cmp}) + length keys = count_new keys empty ascending (all_new keys) in
    omega (arith, all, len-empty table_key_cmp (Unit {0}), len-entries (all_of empty keys), length-map own (λ i. i.table_key))

-- what is put has its key, and no other is lost

either_first : (a b c : Bool) → (a || (b || c)) ≡ (b || (a || c))
either_first true true c = refl
either_first true false c = refl
either_first false true c = refl
either_first false false c = refl

once_more : (a b : Bool) → (a || b) ≡ (a || (a || b))
once_more true b = refl
once_more false b = refl

among-put : (own : List Intention) (w : Write) (b : Bool) (at : TableKey)
    → is_among at (map (λ i. i.table_key) (put own w b)) ≡ (eq_by_cmp table_key_cmp at (table_key_of w) || is_among at (map (λ i. i.table_key) own))
among-put [] w b at = refl
among-put (i ∷ own) w b at =
    let k : TableKey = table_key_of w in
    let keys : List TableKey = map (λ j. j.table_key) own in
    let later = among-put own w b at in
    elim (table_key_cmp k i.table_key) as (λ o. table_key_cmp k i.table_key ≡ o
    → is_among at (map (λ j. j.table_key) (match_ordering o (intention_of_write w b ∷ i ∷ own) (intention_of_write w i.was_there ∷ own) (i ∷ put own w b)))
    ≡ (eq_by_cmp table_key_cmp at k || (eq_by_cmp table_key_cmp at i.table_key || is_among at keys))) [
      | Less ↦ λ e. refl
      | Equal ↦ λ e.
          once_more (eq_by_cmp table_key_cmp at k) (is_among at keys)
          ∙ ap (λ x. eq_by_cmp table_key_cmp at k || (eq_by_cmp table_key_cmp at x || is_among at keys)) (table_key_cmp_exact k i.table_key e)
      | Greater ↦ λ e.
          ap (λ c. eq_by_cmp table_key_cmp at i.table_key || c) later
          ∙ either_first (eq_by_cmp table_key_cmp at i.table_key) (eq_by_cmp table_key_cmp at k) (is_among at keys)
    ] refl

among-append : (xs ys : List TableKey) (at : TableKey) → is_among at (xs ++ ys) ≡ (is_among at xs || is_among at ys)
among-append [] ys at = refl
among-append (x ∷ xs) ys at = ap (λ b. eq_by_cmp table_key_cmp at x || b) (among-append xs ys at) ∙ three (eq_by_cmp table_key_cmp at x) (is_among at xs) (is_among at ys)
  where
    three : (a b c : Bool) → (a || (b || c)) ≡ ((a || b) || c)
    three true b c = refl
    three false b c = refl

among-put_all : (ws : List Write) (own : List Intention) (there : TableKey → Bool) (at : TableKey)
    → is_among at (map (λ i. i.table_key) (put_all own ws there)) ≡ is_among at (map (λ i. i.table_key) own ++ table_keys ws)
among-put_all [] own there at = sym (among-append (map (λ i. i.table_key) own) [] at ∙ none (is_among at (map (λ i. i.table_key) own)))
  where
    none : (b : Bool) → (b || false) ≡ b
    none true = refl
    none false = refl
among-put_all (w ∷ ws) own there at =
    let k : TableKey = table_key_of w in
    let keys : List TableKey = map (λ i. i.table_key) own in
    among-put_all ws (put own w (there k)) there at
    ∙ among-append (map (λ i. i.table_key) (put own w (there k))) (table_keys ws) at
    ∙ ap (λ b. b || is_among at (table_keys ws)) (among-put own w (there k) at)
    ∙ swap (eq_by_cmp table_key_cmp at k) (is_among at keys) (is_among at (table_keys ws))
    ∙ sym (among-append keys (k ∷ table_keys ws) at)
  where
    swap : (a b c : Bool) → ((a || b) || c) ≡ (b || (a || c))
    swap true true c = refl
    swap true false c = refl
    swap false true c = refl
    swap false false c = refl

-- what a statement means depends on the keys written by their count alone

module _ (a b : List TableKey) (alike : CountAlike a b) where
  done_alike : (n : ℕ) (ws : List Write) → done a n ws ≡ done b n ws
  done_alike n ws = ap (λ k. cond (nat_lt most_writes k) (refused TooManyWrites) (record { reply = Done n; writes = ws })) (alike (map table_key_of ws))

  module _ (s : State) (format : ℕ) where
    executed_alike : (t : Table) (st : Statement) → executed t st s a format ≡ executed t st s b format
    executed_alike t (Select what table f) = refl
    executed_alike t (Insert table tuples) = ap (refused_or (tuples_refusal format t s tuples)) (done_alike (length tuples) (flat_map (writes_of t) tuples))
    executed_alike t (Update table sets f) =
        ap (refused_or (first_refusal (update_refusal format t sets) (kept_rows t f s))) (done_alike (length (kept_rows t f s)) (flat_map (update_writes t sets) (kept_rows t f s)))
    executed_alike t (Delete table f) = done_alike (length (kept_rows t f s)) (flat_map (delete_writes t) (kept_rows t f s))
    executed_alike t other = refl

    on_table_alike : (o : Option Table) (st : Statement) → on_table o st s a format ≡ on_table o st s b format
    on_table_alike None st = refl
    on_table_alike (Some t) st = ap (refused_or (binding_refusal t st)) (executed_alike t st)

    pub meaning_alike : (st : Statement) → meaning st s a format ≡ meaning st s b format
    meaning_alike (Select what table f) = on_table_alike (table_of s table) (Select what table f)
    meaning_alike (Insert table tuples) = on_table_alike (table_of s table) (Insert table tuples)
    meaning_alike (Update table sets f) = on_table_alike (table_of s table) (Update table sets f)
    meaning_alike (Delete table f) = on_table_alike (table_of s table) (Delete table f)
    meaning_alike other = refl

-- the keys of a transaction's intentions are those that it has written
own_alike : (h : List Entry) (t : List Executed) (format : ℕ) → CountAlike (map (λ i. i.table_key) (intentions_of h t format)) (table_keys (write_set_of h t format))
own_alike h t format =
    subst (λ (own : List Intention). CountAlike (map (λ i. i.table_key) own) (table_keys (write_set_of h t format))) (sym (intentions-put h t format))
    (count_alike (map (λ i. i.table_key) (put_all [] (write_set_of h t format) _)) (table_keys (write_set_of h t format)) (among-put_all (write_set_of h t format) [] _))

-- what is laid over the rows of the whole history
pub laid_now : (kept : Kept) (h : List Entry) (t : List Executed) (format : ℕ) → StandsFor kept h t format → laid_over (replay h) kept.own ≡ after_writes (replay h) (write_set_of h t format)
laid_now kept h t format stands =
    ap (laid_over (replay h)) stands.own
    ∙ subst (λ (front : List Entry). laid_over (replay front) (intentions_of h t format) ≡ after_writes (replay front) (write_set_of h t format)) (take-length h)
    (intentions-state h t format (length h))

-- a statement means the same as over all that the transaction has written
pub means_now : (kept : Kept) (h : List Entry) (t : List Executed) (st : Statement) (format : ℕ) → StandsFor kept h t format
    → meaning st (laid_over (replay h) kept.own) (own_keys kept) format ≡ meaning_over st (replay h) (write_set_of h t format) format
means_now kept h t st format stands =
    ap (λ s. meaning st s (own_keys kept) format) (laid_now kept h t format stands)
    ∙ ap (λ (own : List Intention). meaning st (after_writes (replay h) (write_set_of h t format)) (map (λ i. i.table_key) own) format) stands.own
    ∙ meaning_alike (map (λ i. i.table_key) (intentions_of h t format)) (table_keys (write_set_of h t format)) (own_alike h t format) (after_writes (replay h) (write_set_of h t format)) format st

All-behind : (P : Write → Type 0) (xs ys : List Write) → All P (xs ++ ys) → All P ys
All-behind P [] ys all = all
All-behind P (x ∷ xs) ys all = All-behind P xs ys (All-tail P x (xs ++ ys) all)

-- what a statement writes over a transaction's intentions can be kept
pub can_be_kept : (kept : Kept) (st : Statement) (s : State) (outcome : Outcome) → IsKept kept → HasKeys (laid_over s kept.own)
    → outcome.writes ≡ (meaning st (laid_over s kept.own) (own_keys kept) 1).writes → CanBeKept kept st outcome
can_be_kept kept st s outcome is keyed same =
    let ws : List Write = map intended_write kept.own in
    let keys : table_keys ws ≡ own_keys kept = keys_of_intended kept.own in
    let stored : AreStorable ws = record {
      few = subst (λ (n : ℕ). n ≤ 4096) (sym (ap different keys ∙ different-own kept.own is.intentions.ascending)) is.intentions.few;
      narrow = All-map IsNarrow intended_write kept.own is.narrow;
    } in
    let more : AreStorable (ws ++ outcome.writes) =
    subst (λ (vs : List Write). AreStorable (ws ++ vs))
    (ap (λ (ks : List TableKey). (meaning st (laid_over s kept.own) ks 1).writes) keys ∙ sym same)
    (any_stored (laid_over s kept.own) ws keyed stored st) in
    let there : TableKey → Bool = λ _. writes_found_rows st in
    let put : List Intention = put_all kept.own outcome.writes there in
    let counted : length put ≡ different (table_keys (ws ++ outcome.writes)) =
    sym (different-own put (AreAscending-put_all outcome.writes kept.own there is.intentions.ascending))
    ∙ sym (len-entries (all_of empty (map (λ i. i.table_key) put)))
    ∙ ap len (same_keys (map (λ i. i.table_key) put) (own_keys kept ++ table_keys outcome.writes) (among-put_all outcome.writes kept.own there))
    ∙ len-entries (all_of empty (own_keys kept ++ table_keys outcome.writes))
    ∙ ap different (ap (λ (ks : List TableKey). ks ++ table_keys outcome.writes) (sym keys) ∙ sym (map-append table_key_of ws outcome.writes)) in
    record {
      narrow = All-behind IsNarrow ws outcome.writes more.narrow;
      few = subst (λ (n : ℕ). n ≤ most_writes) (sym counted) more.few;
    }

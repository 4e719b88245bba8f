-- Rows of a table, and rows of a range.
use Rattle.std.proofs.Common.{◌≡◌, ℕ, Bool, true, false, ◌&&◌, ◌==◌, cond, List, [], ◌∷◌, map, refl, sym, ap, ◌∙◌, None}
use Rattle.std.specs.List.{filter}
use Rattle.std.specs.declared.cmp.Ordering.TheVariants.{Equal}
use Rattle.std.specs.FinMap.{FinMap, retain_keys, entries, entries_sorted, get-entries, get-retain_keys}
use Rattle.std.specs.FinMap.Entries.{same_entries, is_sorted-where_key, find-where_key}
use Rattle.odb_values.specs.declared.value.Value.{Value}
use Rattle.odb_values.specs.declared.range.Range.{Range}
use Rattle.odb_model.specs.declared.table_key.TableKey.{TableKey}
use Rattle.odb_model.specs.State.{table_key_cmp, State, is_in, part_in, rows_of}
use Rattle.odb_model.proofs.Replay.{table_key_cmp_total, table_key_cmp_exact}

module _ {A : Type 0} (p q : A → Bool) where
  both_one : (x : A) (a b : Bool) (ps qs : List A) → a ≡ p x → filter p qs ≡ ps → filter p (cond b (x ∷ qs) qs) ≡ cond (b && a) (x ∷ ps) ps
  both_one x true true ps qs e same = ap (λ c. cond c (x ∷ filter p qs) (filter p qs)) (sym e) ∙ ap (λ r. x ∷ r) same
  both_one x false true ps qs e same = ap (λ c. cond c (x ∷ filter p qs) (filter p qs)) (sym e) ∙ same
  both_one x a false ps qs e same = same

  -- two filters are one
  pub filter-filter : (xs : List A) → filter p (filter q xs) ≡ filter (λ x. q x && p x) xs
  filter-filter [] = refl
  filter-filter (x ∷ xs) = both_one x (p x) (q x) (filter (λ y. q y && p y) xs) (filter q xs) refl (filter-filter xs)

module _ {A B : Type 0} (f : A → B) (p : B → Bool) where
  one_mapped : (x : A) (b : Bool) (ps : List B) (qs : List A) → ps ≡ map f qs → cond b (f x ∷ ps) ps ≡ map f (cond b (x ∷ qs) qs)
  one_mapped x true ps qs same = ap (λ r. f x ∷ r) same
  one_mapped x false ps qs same = same

  pub filter-map : (xs : List A) → filter p (map f xs) ≡ map f (filter (λ x. p (f x)) xs)
  filter-map [] = refl
  filter-map (x ∷ xs) = one_mapped x (p (f x)) (filter p (map f xs)) (filter (λ y. p (f y)) xs) (filter-map xs)

module _ {A : Type 0} (p q : A → Bool) (same : (x : A) → p x ≡ q x) where
  pub filter-same : (xs : List A) → filter p xs ≡ filter q xs
  filter-same [] = refl
  filter-same (x ∷ xs) = ap (λ b. cond b (x ∷ filter p xs) (filter p xs)) (same x) ∙ ap (λ r. cond (q x) (x ∷ r) r) (filter-same xs)

-- the entries whose keys pass a test are a filter of all entries
pub entries-retain_keys : {X : Type 0} (s : FinMap table_key_cmp X) (p : TableKey → Bool) → entries (retain_keys s p) ≡ filter (λ e. p e.0) (entries s)
entries-retain_keys s p =
    let alike : (q x : TableKey) → table_key_cmp q x ≡ Equal → p x ≡ p q = λ q x tied. ap p (sym (table_key_cmp_exact q x tied)) in
    same_entries table_key_cmp table_key_cmp_total table_key_cmp_exact _ _ (entries_sorted (retain_keys s p)) (is_sorted-where_key table_key_cmp p (entries s) (entries_sorted s))
    (λ q. sym (get-entries (retain_keys s p) q) ∙ get-retain_keys s p q (alike q) ∙ ap (λ o. cond (p q) o None) (get-entries s q) ∙ sym (find-where_key table_key_cmp p q (alike q) (entries s)))

module _ (table : ℕ) (range : Range) (keep : TableKey × List Value → Bool)
    (covers : (e : TableKey × List Value) → ((table == e.0.table) && keep e) ≡ true → is_in range e.0 ≡ true) where
  abbrev pub both : TableKey × List Value → Bool
  both e = (table == e.0.table) && keep e

  narrowed : (a b : Bool) → (a ≡ true → b ≡ true) → (b && a) ≡ a
  narrowed true b h = ap (λ c. c && true) (h refl)
  narrowed false true h = refl
  narrowed false false h = refl

  -- the rows of a table that pass a test lie in a range that covers them
  pub rows_of-part : (s : State) → filter keep (rows_of table s) ≡ filter both (entries (part_in range s))
  rows_of-part s = ap (filter keep) (entries-retain_keys s (λ at. table == at.table))
      ∙ filter-filter keep (λ e. table == e.0.table) (entries s)
      ∙ sym (filter-same (λ e. is_in range e.0 && both e) both (λ e. narrowed (both e) (is_in range e.0) (covers e)) (entries s))
      ∙ sym (filter-filter both (λ e. is_in range e.0) (entries s))
      ∙ sym (ap (filter both) (entries-retain_keys s (is_in range)))

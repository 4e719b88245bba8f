-- What a statement makes of rows, one after another.
use Rattle.std.proofs.Common.{◌≡◌, ℕ, ◌+◌, ◌<◌, ◌≤◌, Bool, true, false, ◌||◌, cond, List, [], ◌∷◌, ◌++◌, length, take, drop, get_or, refl, sym, ap, subst, ◌∙◌, Option, Some, None, is_some}
use Rattle.std.specs.Option.{option_or}
use Rattle.std.specs.List.{flat_map}
use Rattle.std.specs.Ordering.{eq_by_cmp}
use Rattle.std.specs.FinMap.{empty, get, get-empty}
use Rattle.std.proofs.lemmas.List.{flat_map_more, take_all, drop_all}
use Rattle.odb_values.specs.declared.value.Value.{Value}
use Rattle.odb_model.specs.declared.write.Write.{Write}
use Rattle.odb_model.specs.declared.reply.Reply.{Reply}
use Rattle.odb_model.specs.declared.table_key.TableKey.{TableKey}
use Rattle.odb_model.specs.State.{State, table_key_cmp, table_key_of, changed, after_writes}
use Rattle.odb_model.specs.Table.{Table, key_of, row_of}
use Rattle.odb_model.specs.Fitting.{row_refusal}
use Rattle.odb_model.specs.Meaning.{put_of, writes_of, with_write, duplicate_refusal, tuples_refusal}
use Rattle.odb_model.proofs.Replay.{get-changed_at}
use Rattle.odb_plain.specs.Changes.{next_refusal, Joins}
use Rattle.odb_plain.proofs.Items.{drop-item, take-item}
use Rattle.odb_plain.proofs.Lists.{or_assoc}

pub after_writes-append : (s : State) (ws vs : List Write) → after_writes s (ws ++ vs) ≡ after_writes (after_writes s ws) vs
after_writes-append s [] vs = refl
after_writes-append s (w ∷ ws) vs = after_writes-append (with_write s w) ws vs

-- the writes of an item more
pub made-more : {X : Type 0} (f : X → List Write) (xs : List X) (i : ℕ) (x : X) (ws : List Write) (w : Write) → i < length xs → x ≡ get_or xs i x
    → ws ≡ flat_map f (take i xs) → f x ≡ w ∷ [] → ws ++ w ∷ [] ≡ flat_map f (take (i + 1) xs)
made-more f xs i x ws w within is made one =
    ap (λ l. l ++ w ∷ []) made ∙ ap (λ l. flat_map f (take i xs) ++ l) (sym one)
    ∙ flat_map_more f [] (take i xs) x ∙ ap (flat_map f) (sym (take-item xs i x within is))

-- the writes of all items
pub made-all : {X : Type 0} (f : X → List Write) (xs : List X) (i : ℕ) (ws : List Write) → length xs ≤ i → ws ≡ flat_map f (take i xs) → flat_map f xs ≡ ws
made-all f xs i ws done made = sym (made ∙ ap (flat_map f) (take_all i xs done))

-- a state has the rows that it has
pub joins-none : (s : State) → Joins s s empty
joins-none s q = sym (ap (λ o. is_some (get s q) || is_some o) (get-empty table_key_cmp q) ∙ alone (is_some (get s q)))
  where
    alone : (b : Bool) → (b || false) ≡ b
    alone true = refl
    alone false = refl

module _ (s rows others : State) (at : TableKey) (row : List Value) (joins : Joins s rows others) where
  one : (tied b : Bool) (o p : Option (List Value)) → is_some o ≡ (b || is_some p) → is_some (cond tied (Some row) o) ≡ (b || is_some (cond tied (Some row) p))
  one true true o p e = refl
  one true false o p e = refl
  one false b o p e = e

  -- a row that is put in both
  pub joins-put : Joins (changed s at (Some row)) rows (changed others at (Some row))
  joins-put q =
      ap is_some (get-changed_at s at (Some row) q)
      ∙ one (eq_by_cmp table_key_cmp q at) (is_some (get rows q)) (get s q) (get others q) (joins q)
      ∙ sym (ap (λ o. is_some (get rows q) || is_some o) (get-changed_at others at (Some row) q))

module _ (t : Table) (format : ℕ) where
  -- a tuple that is refused is the first
  pub next-refused : (s : State) (v : List Value) (rest : List (List Value)) (reply : Reply) → next_refusal format t s v ≡ Some reply → tuples_refusal format t s (v ∷ rest) ≡ Some reply
  next-refused s v rest reply e =
      sym (or_assoc (row_refusal format t (key_of t v) v) (duplicate_refusal s (put_of t v)) (tuples_refusal format t (with_write s (put_of t v)) rest))
      ∙ ap (λ o. option_or o (tuples_refusal format t (with_write s (put_of t v)) rest)) e

  -- one that isn't is put
  pub next-passed : (s : State) (v : List Value) (rest : List (List Value)) → next_refusal format t s v ≡ None → tuples_refusal format t s (v ∷ rest) ≡ tuples_refusal format t (with_write s (put_of t v)) rest
  next-passed s v rest e =
      sym (or_assoc (row_refusal format t (key_of t v) v) (duplicate_refusal s (put_of t v)) (tuples_refusal format t (with_write s (put_of t v)) rest))
      ∙ ap (λ o. option_or o (tuples_refusal format t (with_write s (put_of t v)) rest)) e

  pub put-is : (v : List Value) (w : Write) → writes_of t v ≡ w ∷ [] → put_of t v ≡ w
  put-is v w e = cc

  module _ (s : State) (tuples : List (List Value)) (all : Option Reply) (i : ℕ) (v : List Value) (within : i < length tuples) (is : v ≡ get_or tuples i v) (ws : List Write)
      (so : tuples_refusal format t (after_writes s ws) (drop i tuples) ≡ all) where
    pub tuples-passed : (w : Write) → next_refusal format t (after_writes s ws) v ≡ None → writes_of t v ≡ w ∷ [] → tuples_refusal format t (after_writes s (ws ++ w ∷ [])) (drop (i + 1) tuples) ≡ all
    tuples-passed w none one =
        ap (λ (u : State). tuples_refusal format t u (drop (i + 1) tuples)) (after_writes-append s ws (w ∷ []))
        ∙ ap (λ (x : Write). tuples_refusal format t (with_write (after_writes s ws) x) (drop (i + 1) tuples)) (sym (put-is v w one))
        ∙ sym (next-passed (after_writes s ws) v (drop (i + 1) tuples) none)
        ∙ ap (tuples_refusal format t (after_writes s ws)) (sym (drop-item tuples i v within is)) ∙ so

    pub tuples-refused : (reply : Reply) → next_refusal format t (after_writes s ws) v ≡ Some reply → all ≡ Some reply
    tuples-refused reply some =
        sym so ∙ ap (tuples_refusal format t (after_writes s ws)) (drop-item tuples i v within is) ∙ next-refused (after_writes s ws) v (drop (i + 1) tuples) reply some

  pub tuples-done : (s : State) (tuples : List (List Value)) (all : Option Reply) (i : ℕ) (ws : List Write) → length tuples ≤ i → tuples_refusal format t (after_writes s ws) (drop i tuples) ≡ all → all ≡ None
  tuples-done s tuples all i ws done so = sym so ∙ ap (tuples_refusal format t (after_writes s ws)) (drop_all i tuples done)

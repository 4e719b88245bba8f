-- An INSERT, tuple by tuple.
use Rattle.std.proofs.Common.{◌≡◌, ℕ, ◌+◌, ◌<◌, ◌||◌, List, [], ◌∷◌, ◌++◌, length, take, drop, get_or, refl, sym, ap, subst, ◌∙◌, Option, Some, None}
use Rattle.std.specs.Ordering.{eq_by_cmp}
use Rattle.std.proofs.lemmas.List.{take_more, drop_more}
use Rattle.odb_values.specs.declared.value.Value.{Value}
use Rattle.odb_values.specs.Value.{values_cmp}
use Rattle.odb_model.specs.declared.write.Write.{Write}
use Rattle.odb_model.specs.declared.reply.Reply.{Reply}
use Rattle.odb_model.specs.declared.table_key.TableKey.{TableKey}
use Rattle.odb_model.specs.State.{State, table_key_of, after_writes}
use Rattle.odb_model.specs.Table.{Table, key_of}
use Rattle.odb_model.specs.Meaning.{place_of, put_of, writes_of, tuples_refusal, inserted, refused, refused_or, done}
use Rattle.odb_exec.specs.declared.changes.Changes.{Changes}
use Rattle.odb_exec.specs.Rows.{is_among, tuple_refusal}
use Rattle.odb_exec.specs.Written.{IsUnwritten}
use Rattle.odb_exec.specs.Changes.{StandsFor}
use Rattle.odb_exec.proofs.Tuples.{puts, keys_of, puts-one, count-puts, put-unwritten, among-one, tuples-refused, tuples-passed, tuple-new}

module _ (t : Table) (format : ℕ) (s : State) (written : List TableKey) (tuples : List (List Value)) where
  -- the first i tuples are put, and the rest decides what refuses them all
  pub record IsInserted (i : ℕ) (earlier : List (List Value)) (changes : Changes) : Type 0 where
    pub refusal : tuples_refusal format t s tuples ≡ tuples_refusal format t (after_writes s (puts t (take i tuples))) (drop i tuples)
    pub changed : StandsFor written (puts t (take i tuples)) changes
    pub keys : (at : List Value) → is_among earlier at ≡ is_among (keys_of t (take i tuples)) at

  pub inserted-none : (earlier : List (List Value)) (changes : Changes) → earlier ≡ [] → StandsFor written [] changes → IsInserted 0 earlier changes
  inserted-none earlier changes e stands = record { refusal = refl; changed = stands; keys = λ at. ap (λ ks. is_among ks at) e }

  module _ (i : ℕ) (v : List Value) (within : i < length tuples) (is_at : v ≡ get_or tuples i v) (earlier : List (List Value)) (changes : Changes) (is : IsInserted i earlier changes) where
    front : take (i + 1) tuples ≡ take i tuples ++ v ∷ []
    front = take_more tuples i v within ∙ ap (λ x. take i tuples ++ x ∷ []) (sym is_at)

    rest : drop i tuples ≡ v ∷ drop (i + 1) tuples
    rest = drop_more tuples i v within ∙ ap (λ x. x ∷ drop (i + 1) tuples) (sym is_at)

    -- the next tuple is put
    pub inserted-one : (new : List (List Value)) (more : Changes) (w : Write) → tuple_refusal format t s earlier v ≡ None → writes_of t v ≡ w ∷ []
        → ((q : List Value) → is_among new q ≡ (eq_by_cmp values_cmp q (key_of t v) || is_among earlier q))
        → ((writes : List Write) → StandsFor written writes changes → IsUnwritten (table_key_of w) writes → StandsFor written (writes ++ w ∷ []) more)
        → IsInserted (i + 1) new more
    inserted-one new more w agreed one among add =
        let same : put_of t v ≡ w = cc in
        let at : place_of t v ≡ table_key_of w = ap table_key_of same in
        let un : IsUnwritten (table_key_of w) (puts t (take i tuples)) =
        subst (λ (k : TableKey). IsUnwritten k (puts t (take i tuples))) at (put-unwritten t (take i tuples) v (tuple-new t format s earlier (take i tuples) is.keys v agreed)) in
        let writes : puts t (take (i + 1) tuples) ≡ puts t (take i tuples) ++ w ∷ [] =
        ap (puts t) front ∙ puts-one t (take i tuples) v ∙ ap (λ (x : Write). puts t (take i tuples) ++ x ∷ []) same in
        record {
          refusal = is.refusal ∙ ap (tuples_refusal format t (after_writes s (puts t (take i tuples)))) rest
              ∙ tuples-passed t format s earlier (take i tuples) is.keys v (drop (i + 1) tuples) agreed
              ∙ ap (λ (ps : List (List Value)). tuples_refusal format t (after_writes s (puts t ps)) (drop (i + 1) tuples)) (sym front);
          changed = subst (λ (l : List Write). StandsFor written l more) (sym writes) (add (puts t (take i tuples)) is.changed un);
          keys = λ q. among q ∙ ap (λ b. eq_by_cmp values_cmp q (key_of t v) || b) (is.keys q) ∙ sym (among-one t (take i tuples) v q) ∙ ap (λ (ps : List (List Value)). is_among (keys_of t ps) q) (sym front);
        }

    -- the next tuple is refused: so is the statement
    pub inserted-refused : (reply : Reply) → tuple_refusal format t s earlier v ≡ Some reply → inserted t tuples s written format ≡ refused reply
    inserted-refused reply refuses =
        ap (λ (o : Option Reply). refused_or o (done written (length tuples) (puts t tuples)))
        (is.refusal ∙ ap (tuples_refusal format t (after_writes s (puts t (take i tuples)))) rest
        ∙ tuples-refused t format s earlier (take i tuples) is.keys v (drop (i + 1) tuples) reply refuses)

  all_taken : (xs : List (List Value)) → take (length xs) xs ≡ xs
  all_taken [] = refl
  all_taken (x ∷ xs) = ap (λ l. x ∷ l) (all_taken xs)

  none_left : (xs : List (List Value)) → drop (length xs) xs ≡ []
  none_left [] = refl
  none_left (x ∷ xs) = none_left xs

  -- all are put
  pub inserted-all : (earlier : List (List Value)) (changes : Changes) → IsInserted (length tuples) earlier changes
      → inserted t tuples s written format ≡ done written (length (puts t tuples)) (puts t tuples)
  inserted-all earlier changes is =
      ap (λ (o : Option Reply). refused_or o (done written (length tuples) (puts t tuples))) (is.refusal ∙ ap (tuples_refusal format t (after_writes s (puts t (take (length tuples) tuples)))) (none_left tuples))
      ∙ ap (λ n. done written n (puts t tuples)) (sym (count-puts t tuples))

  pub stands-all : (earlier : List (List Value)) (changes : Changes) → IsInserted (length tuples) earlier changes → StandsFor written (puts t tuples) changes
  stands-all earlier changes is = subst (λ (ps : List (List Value)). StandsFor written (puts t ps) changes) (all_taken tuples) is.changed

-- Tuples behind tuples that have been put.
use Rattle.std.proofs.Common.{◌≡◌, ℕ, suc, Bool, true, false, ◌||◌, List, [], ◌∷◌, ◌++◌, map, length, cond, refl, sym, ap, subst, ◌∙◌, Option, Some, None, is_some}
use Rattle.std.specs.Option.{option_or}
use Rattle.std.specs.List.{flat_map, list_any}
use Rattle.std.specs.Ordering.{eq_by_cmp, is_eq}
use Rattle.std.specs.FinMap.{get, insert, get-insert}
use Rattle.odb_values.specs.declared.value.Value.{Value}
use Rattle.std.specs.Cmp.{eq_by_cmp_equiv}
use Rattle.odb_values.specs.Value.{values_cmp}
use Rattle.odb_values.specs.ValueOrder.{values_cmp_total}
use Rattle.odb_model.specs.declared.write.Write.{Write}
use Rattle.odb_model.specs.declared.reply.Reply.{Reply}
use Rattle.odb_model.specs.declared.reply.Reply.TheVariants.{Duplicate}
use Rattle.odb_model.specs.State.{State, table_key_cmp, table_key_of, after_writes}
use Rattle.odb_model.specs.Table.{Table, key_of, row_of}
use Rattle.odb_model.specs.Binding.{refuse_if}
use Rattle.odb_model.specs.Fitting.{row_refusal}
use Rattle.odb_model.specs.Meaning.{place_of, put_of, writes_of, with_write, duplicate_refusal, tuples_refusal}
use Rattle.odb_model.proofs.Replay.{table_key_cmp_total}
use Rattle.odb_exec.specs.declared.rows.RowChange.{RowChange}
use Rattle.odb_exec.specs.Rows.{IsChangeOf, is_among, tuple_refusal}
use Rattle.odb_exec.specs.Written.{IsUnwritten}
use Rattle.odb_rowsource.proofs.Above.{same_table}

or_other : (a b c : Bool) → (a || (b || c)) ≡ ((b || a) || c)
or_other true true c = refl
or_other true false c = refl
or_other false true c = refl
or_other false false c = refl

put_there : (b : Bool) (row : List Value) (o : Option (List Value)) → is_some (cond b (Some row) o) ≡ (b || is_some o)
put_there true row o = refl
put_there false row o = refl

or_none : {A : Type 0} (a b : Option A) → option_or a b ≡ None → (a ≡ None) × (b ≡ None)
or_none None b e = (refl, e)
or_none (Some x) b e = cc

or_some : {A : Type 0} (a b c : Option A) (x : A) → option_or a b ≡ Some x → option_or a (option_or b c) ≡ Some x
or_some None None c x e = cc
or_some None (Some y) c x e = e
or_some (Some y) b c x e = e

module _ (t : Table) where
  -- the writes that put these tuples
  abbrev pub puts : List (List Value) → List Write
  puts passed = flat_map (writes_of t) passed

  abbrev pub keys_of : List (List Value) → List (List Value)
  keys_of passed = map (key_of t) passed

  same_place : (v p : List Value) → eq_by_cmp table_key_cmp (place_of t v) (place_of t p) ≡ eq_by_cmp values_cmp (key_of t v) (key_of t p)
  same_place v p = ap is_eq (same_table t.number (key_of t v) (key_of t p))

  -- whether a row is there after tuples are put
  there-after : (passed : List (List Value)) (s : State) (v : List Value)
      → is_some (get (after_writes s (puts passed)) (place_of t v)) ≡ (is_among (keys_of passed) (key_of t v) || is_some (get s (place_of t v)))
  there-after [] s v = refl
  there-after (p ∷ ps) s v =
      there-after ps (insert s (place_of t p) (row_of t p)) v
      ∙ ap (λ b. is_among (keys_of ps) (key_of t v) || b)
      (ap is_some (get-insert table_key_cmp_total s (place_of t p) (row_of t p) (place_of t v))
      ∙ put_there (eq_by_cmp table_key_cmp (place_of t v) (place_of t p)) (row_of t p) (get s (place_of t v))
      ∙ ap (λ b. b || is_some (get s (place_of t v))) (same_place v p))
      ∙ or_other (is_among (keys_of ps) (key_of t v)) (eq_by_cmp values_cmp (key_of t v) (key_of t p)) (is_some (get s (place_of t v)))

  after_writes-append : (ws vs : List Write) (s : State) → after_writes s (ws ++ vs) ≡ after_writes (after_writes s ws) vs
  after_writes-append [] vs s = refl
  after_writes-append (w ∷ ws) vs s = after_writes-append ws vs (after_writes s (w ∷ []))

  pub puts-one : (passed : List (List Value)) (v : List Value) → puts (passed ++ v ∷ []) ≡ puts passed ++ put_of t v ∷ []
  puts-one [] v = refl
  puts-one (p ∷ ps) v = ap (λ l. put_of t p ∷ l) (puts-one ps v)

  pub count-puts : (passed : List (List Value)) → length (puts passed) ≡ length passed
  count-puts [] = refl
  count-puts (p ∷ ps) = ap suc (count-puts ps)

  -- a key that isn't among those of the tuples isn't written by them
  pub put-unwritten : (passed : List (List Value)) (v : List Value) → is_among (keys_of passed) (key_of t v) ≡ false → IsUnwritten (place_of t v) (puts passed)
  put-unwritten [] v e = refl
  put-unwritten (p ∷ ps) v e =
      let parts = neither (eq_by_cmp values_cmp (key_of t v) (key_of t p)) (is_among (keys_of ps) (key_of t v)) e in
      ap (λ b. b || list_any (λ w. eq_by_cmp table_key_cmp (place_of t v) (table_key_of w)) (puts ps)) (same_place v p ∙ parts.0) ∙ put-unwritten ps v parts.1
    where
      neither : (a b : Bool) → (a || b) ≡ false → (a ≡ false) × (b ≡ false)
      neither true b e = cc
      neither false b e = (refl, e)

  -- one key more
  pub among-one : (passed : List (List Value)) (v at : List Value) → is_among (keys_of (passed ++ v ∷ [])) at ≡ (eq_by_cmp values_cmp at (key_of t v) || is_among (keys_of passed) at)
  among-one [] v at = refl
  among-one (p ∷ ps) v at = ap (λ b. eq_by_cmp values_cmp at (key_of t p) || b) (among-one ps v at) ∙ or_turned (eq_by_cmp values_cmp at (key_of t p)) (eq_by_cmp values_cmp at (key_of t v)) (is_among (keys_of ps) at)
    where
      or_turned : (a b c : Bool) → (a || (b || c)) ≡ (b || (a || c))
      or_turned true true c = refl
      or_turned true false c = refl
      or_turned false true c = refl
      or_turned false false c = refl

  module _ (format : ℕ) (s : State) (keys passed : List (List Value)) (same : (at : List Value) → is_among keys at ≡ is_among (keys_of passed) at) where
    -- what refuses a tuple behind those that have been put
    judged : (v : List Value) → tuple_refusal format t s keys v
        ≡ option_or (row_refusal format t (key_of t v) v) (duplicate_refusal (after_writes s (puts passed)) (put_of t v))
    judged v = ap (λ b. option_or (row_refusal format t (key_of t v) v) (refuse_if b Duplicate))
        (ap (λ b. b || is_some (get s (place_of t v))) (same (key_of t v)) ∙ sym (there-after passed s v))

    -- it is refused: so are all
    pub tuples-refused : (v : List Value) (rest : List (List Value)) (reply : Reply) → tuple_refusal format t s keys v ≡ Some reply
        → tuples_refusal format t (after_writes s (puts passed)) (v ∷ rest) ≡ Some reply
    tuples-refused v rest reply e =
        or_some (row_refusal format t (key_of t v) v) (duplicate_refusal (after_writes s (puts passed)) (put_of t v))
        (tuples_refusal format t (with_write (after_writes s (puts passed)) (put_of t v)) rest) reply (sym (judged v) ∙ e)

    -- it isn't: the rest decides
    pub tuples-passed : (v : List Value) (rest : List (List Value)) → tuple_refusal format t s keys v ≡ None
        → tuples_refusal format t (after_writes s (puts passed)) (v ∷ rest) ≡ tuples_refusal format t (after_writes s (puts (passed ++ v ∷ []))) rest
    tuples-passed v rest e =
        let parts = or_none (row_refusal format t (key_of t v) v) (duplicate_refusal (after_writes s (puts passed)) (put_of t v)) (sym (judged v) ∙ e) in
        let later : Option Reply = tuples_refusal format t (with_write (after_writes s (puts passed)) (put_of t v)) rest in
        ap (λ a. option_or a (option_or (duplicate_refusal (after_writes s (puts passed)) (put_of t v)) later)) parts.0
        ∙ ap (λ b. option_or b later) parts.1
        ∙ ap (λ (u : State). tuples_refusal format t u rest) (sym (ap (after_writes s) (puts-one passed v) ∙ after_writes-append (puts passed) (put_of t v ∷ []) s))

    -- its key isn't theirs
    pub tuple-new : (v : List Value) → tuple_refusal format t s keys v ≡ None → is_among (keys_of passed) (key_of t v) ≡ false
    tuple-new v e =
        let parts = or_none (row_refusal format t (key_of t v) v) (refuse_if (is_among keys (key_of t v) || is_some (get s (place_of t v))) Duplicate) e in
        sym (same (key_of t v)) ∙ no_duplicate (is_among keys (key_of t v)) (is_some (get s (place_of t v))) parts.1
      where
        no_duplicate : (a b : Bool) → refuse_if (a || b) Duplicate ≡ None → a ≡ false
        no_duplicate true b f = cc
        no_duplicate false b f = refl

or_cond : (a b : Bool) → cond a true b ≡ (a || b)
or_cond true b = refl
or_cond false b = refl

-- a key is put among others
pub put-among : (k key q : List Value) (b : Bool) → k ≡ key → cond (is_eq (values_cmp k q)) true b ≡ (eq_by_cmp values_cmp q key || b)
put-among k key q b e =
    ap (λ x. cond (is_eq (values_cmp x q)) true b) e ∙ ap (λ c. cond c true b) ((eq_by_cmp_equiv values_cmp_total).symm key q) ∙ or_cond (eq_by_cmp values_cmp q key) b

-- what refuses a tuple behind others, where nothing or something else refuses it already
behind_none : (o : Option Reply) (among there : Bool) → option_or o (refuse_if there Duplicate) ≡ None → option_or o (refuse_if (among || there) Duplicate) ≡ refuse_if among Duplicate
behind_none None true true e = refl
behind_none None true false e = refl
behind_none None false true e = e
behind_none None false false e = refl
behind_none (Some x) among there e = cc

behind_some : (o : Option Reply) (among there : Bool) (reply : Reply) → option_or o (refuse_if there Duplicate) ≡ Some reply → option_or o (refuse_if (among || there) Duplicate) ≡ Some reply
behind_some None true true reply e = e
behind_some None true false reply e = cc
behind_some None false there reply e = e
behind_some (Some x) among there reply e = e

module _ (t : Table) (format : ℕ) (s : State) (keys : List (List Value)) (v : List Value) where
  pub refused-behind : (reply : Reply) → tuple_refusal format t s [] v ≡ Some reply → tuple_refusal format t s keys v ≡ Some reply
  refused-behind reply e = behind_some (row_refusal format t (key_of t v) v) (is_among keys (key_of t v)) (is_some (get s (place_of t v))) reply e

  pub key-behind : (w : Write) → writes_of t v ≡ w ∷ [] → key_of t v ≡ w.key
  key-behind w one = let same : put_of t v ≡ w = cc in ap (λ (x : Write). x.key) same

  pub change-behind : (w : Write) (o : RowChange) → tuple_refusal format t s [] v ≡ None → writes_of t v ≡ w ∷ []
      → IsChangeOf (refuse_if (is_among keys w.key) Duplicate) (w ∷ []) o → IsChangeOf (tuple_refusal format t s keys v) (writes_of t v) o
  change-behind w o none one change =
      let refusal : tuple_refusal format t s keys v ≡ refuse_if (is_among keys w.key) Duplicate =
      behind_none (row_refusal format t (key_of t v) v) (is_among keys (key_of t v)) (is_some (get s (place_of t v))) none
      ∙ ap (λ (k : List Value). refuse_if (is_among keys k) Duplicate) (key-behind w one) in
      subst (λ (p : Option Reply). IsChangeOf p (writes_of t v) o) (sym refusal)
      (subst (λ (ws : List Write). IsChangeOf (refuse_if (is_among keys w.key) Duplicate) ws o) (sym one) change)

-- Writes that were laid over already change nothing more.
use Rattle.std.proofs.Common.{◌≡◌, ℕ, zero, suc, ◌+◌, ◌<◌, ◌≤◌, Bool, true, false, cond, List, [], ◌∷◌, ◌++◌, take, drop, length, reverse, arith, length-append, get_or, refl, sym, ap, ◌∙◌, ◌⊎◌, inl, inr, Option, None, Some, Result, Ok, Err}
use Rattle.std.proofs.lemmas.List.{take_more, reverse-append}
use Rattle.std.specs.Prelude.{OnErr, slice_get}
use Rattle.std.specs.Ordering.{eq_by_cmp}
use Rattle.std.specs.FinMap.{get, same_map}
use Rattle.odb_values.specs.declared.value.Value.{Value}
use Rattle.odb_model.specs.declared.write.Write.{Write}
use Rattle.odb_model.specs.declared.entry.Entry.{Entry}
use Rattle.odb_model.specs.declared.table_key.TableKey.{TableKey}
use Rattle.odb_model.specs.State.{State, table_key_cmp, table_key_of, changed, after_writes, replay_from}
use Rattle.odb_keytable.specs.Committed.{state_with, waiting_with}
use Rattle.odb_model.proofs.Replay.{replay_from-append, table_key_cmp_total, table_key_cmp_exact, get-changed_at}

-- the row at a table key after writes, where it was this one before
abbrev pub last_row : TableKey → List Write → Option (List Value) → Option (List Value)
last_row q [] o = o
last_row q (w ∷ ws) o = last_row q ws (cond (eq_by_cmp table_key_cmp q (table_key_of w)) w.row o)

pub get-after_writes : (s : State) (ws : List Write) (q : TableKey) → get (after_writes s ws) q ≡ last_row q ws (get s q)
get-after_writes s [] q = refl
get-after_writes s (w ∷ ws) q =
    get-after_writes (changed s (table_key_of w) w.row) ws q ∙ ap (last_row q ws) (get-changed_at s (table_key_of w) w.row q)

pub after_writes-append : (s : State) (ws vs : List Write) → after_writes s (ws ++ vs) ≡ after_writes (after_writes s ws) vs
after_writes-append s [] vs = refl
after_writes-append s (w ∷ ws) vs = after_writes-append (changed s (table_key_of w) w.row) ws vs

-- one write more
pub after_writes-item : (s : State) (ws : List Write) (i : ℕ) (w : Write) → i < length ws → w ≡ get_or ws i w
    → changed (after_writes s (take i ws)) (table_key_of w) w.row ≡ after_writes s (take (i + 1) ws)
after_writes-item s ws i w within is =
    sym (ap (after_writes s) (take_more ws i w within ∙ ap (λ v. take i ws ++ v ∷ []) (sym is)) ∙ after_writes-append s (take i ws) (w ∷ []))

module _ (q : TableKey) where
  -- either the writes settle the row at a table key, or none of them is to it
  settled : (ws : List Write) → ((o : Option (List Value)) → last_row q ws o ≡ last_row q ws None) ⊎ ((k : ℕ) (o : Option (List Value)) → last_row q (take k ws) o ≡ o)
  settled [] = inr (λ k o. none_taken k o) where
    none_taken : (k : ℕ) (o : Option (List Value)) → last_row q (take k []) o ≡ o
    none_taken zero o = refl
    none_taken (suc k) o = refl
  settled (w ∷ ws) = by (settled ws) (eq_by_cmp table_key_cmp q (table_key_of w)) refl where
    untouched : eq_by_cmp table_key_cmp q (table_key_of w) ≡ false → ((k : ℕ) (o : Option (List Value)) → last_row q (take k ws) o ≡ o) → (k : ℕ) (o : Option (List Value)) → last_row q (take k (w ∷ ws)) o ≡ o
    untouched e g zero o = refl
    untouched e g (suc k) o = ap (λ b. last_row q (take k ws) (cond b w.row o)) e ∙ g k o

    by : ((o : Option (List Value)) → last_row q ws o ≡ last_row q ws None) ⊎ ((k : ℕ) (o : Option (List Value)) → last_row q (take k ws) o ≡ o)
        → (b : Bool) → eq_by_cmp table_key_cmp q (table_key_of w) ≡ b
        → ((o : Option (List Value)) → last_row q (w ∷ ws) o ≡ last_row q (w ∷ ws) None) ⊎ ((k : ℕ) (o : Option (List Value)) → last_row q (take k (w ∷ ws)) o ≡ o)
    by (inl f) b e = inl (λ o. f (cond (eq_by_cmp table_key_cmp q (table_key_of w)) w.row o) ∙ sym (f (cond (eq_by_cmp table_key_cmp q (table_key_of w)) w.row None)))
    by (inr g) true e = inl (λ o. ap (λ b. last_row q ws (cond b w.row o)) e ∙ sym (ap (λ b. last_row q ws (cond b w.row None)) e))
    by (inr g) false e = inr (untouched e g)

  again : (ws : List Write) (k : ℕ) (o : Option (List Value)) → last_row q ws (last_row q (take k ws) o) ≡ last_row q ws o
  again ws k o = by (settled ws) where
    by : ((p : Option (List Value)) → last_row q ws p ≡ last_row q ws None) ⊎ ((j : ℕ) (p : Option (List Value)) → last_row q (take j ws) p ≡ p) → last_row q ws (last_row q (take k ws) o) ≡ last_row q ws o
    by (inl f) = f (last_row q (take k ws) o) ∙ sym (f o)
    by (inr g) = ap (last_row q ws) (g k o)

-- some of the writes and then all of them are all of them
pub after_writes-again : (s : State) (ws : List Write) (k : ℕ) → after_writes (after_writes s (take k ws)) ws ≡ after_writes s ws
after_writes-again s ws k = same_map table_key_cmp_total table_key_cmp_exact _ _ (λ q.
    get-after_writes (after_writes s (take k ws)) ws q ∙ ap (last_row q ws) (get-after_writes s (take k ws) q)
    ∙ again q ws k (get s q) ∙ sym (get-after_writes s ws q))

pub on_err : {A E : Type 0} (r : Result A E) (P : Type 0) → P → OnErr r P
on_err (Ok x) P p = tt
on_err (Err e) P p = p

-- the last write goes in first, where the writes are turned round
pub after_writes-popped : (s : State) (ws vs : List Write) (w : Write) → ws ≡ vs ++ w ∷ []
    → after_writes (changed s (table_key_of w) w.row) (reverse vs) ≡ after_writes s (reverse ws)
after_writes-popped s ws vs w e = sym (ap (λ xs. after_writes s (reverse xs)) e ∙ ap (after_writes s) (reverse-append vs (w ∷ [])))

-- an entry whose writes are begun has left those that wait
pub begun_first : (s : State) (begun : List Write) (waits rest : List Entry) (e : Entry) → Some e ≡ slice_get waits 0 → rest ≡ drop 1 waits → reverse begun ≡ e.writes
    → state_with s begun rest ≡ replay_from s waits
begun_first s begun [] rest e first left turned = cc
begun_first s begun (x ∷ waits) rest e first left turned =
    let one : e ≡ x = cc in
    ap (λ ws. replay_from (after_writes s ws) rest) (turned ∙ ap (λ (y : Entry). y.writes) one)
    ∙ ap (replay_from (after_writes s x.writes)) left

pub none_waits : (waits : List Entry) → None ≡ slice_get waits 0 → waits ≡ []
none_waits [] none = refl
none_waits (x ∷ waits) none = cc

-- one entry less waits, whatever is left of its writes
pub fewer_wait : (begun : List Write) (waits rest : List Entry) (e : Entry) → Some e ≡ slice_get waits 0 → rest ≡ drop 1 waits → waiting_with begun rest ≤ length waits
fewer_wait begun [] rest e first left = cc
fewer_wait [] (x ∷ waits) rest e first left = omega (arith, ap length left)
fewer_wait (w ∷ begun) (x ∷ waits) rest e first left = omega (arith, ap length left)

-- as many wait, where no more writes of an entry are left
pub no_more_wait : (begun left : List Write) (waits : List Entry) → length left ≤ length begun → waiting_with left waits ≤ waiting_with begun waits
no_more_wait [] [] waits le = omega arith
no_more_wait [] (w ∷ left) waits le = absurd (omega (arith, le))
no_more_wait (w ∷ begun) [] waits le = omega arith
no_more_wait (w ∷ begun) (x ∷ left) waits le = omega arith

-- one entry more
pub one_waits_more : (begun : List Write) (waits more : List Entry) (e : Entry) → more ≡ waits ++ e ∷ [] → waiting_with begun more ≡ waiting_with begun waits + 1
one_waits_more [] waits more e is = omega (arith, ap length is, length-append waits (e ∷ []))
one_waits_more (w ∷ begun) waits more e is = omega (arith, ap length is, length-append waits (e ∷ []))

pub waits_within : (begun : List Write) (waits : List Entry) → length waits ≤ waiting_with begun waits
waits_within [] waits = omega arith
waits_within (w ∷ begun) waits = omega arith

pub state_with_more : (s : State) (begun : List Write) (waits more : List Entry) (e : Entry) → more ≡ waits ++ e ∷ [] → state_with s begun more ≡ after_writes (state_with s begun waits) e.writes
state_with_more s begun waits more e is =
    let t : State = after_writes s (reverse begun) in
    ap (replay_from t) is ∙ replay_from-append t waits (e ∷ [])

-- where nothing waits the table is the state
pub nothing_waits : (s : State) (begun : List Write) (waits : List Entry) → waiting_with begun waits ≡ 0 → state_with s begun waits ≡ s
nothing_waits s [] [] none = refl
nothing_waits s [] (e ∷ waits) none = absurd (omega (arith, none))
nothing_waits s (w ∷ begun) waits none = absurd (omega (arith, none))

-- how many wait, by whether writes of an entry are left
pub waiting_none : (begun : List Write) (waits : List Entry) → length begun ≡ 0 → length waits ≡ waiting_with begun waits
waiting_none [] waits none = refl
waiting_none (w ∷ begun) waits none = absurd (omega (arith, none))

pub waiting_some : (begun : List Write) (waits : List Entry) → 0 < length begun → length waits + 1 ≡ waiting_with begun waits
waiting_some [] waits some = absurd (omega (arith, some))
waiting_some (w ∷ begun) waits some = refl

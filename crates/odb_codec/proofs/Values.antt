-- Values one after another.
use Rattle.std.proofs.Common.{◌≡◌, ℕ, true, false, eqb, zero, suc, ◌<◌, ◌≤◌, List, [], ◌∷◌, ◌++◌, length, Result, Ok, Err, refl, sym, ap, subst, ◌∙◌, append_assoc, arith}
use Rattle.std.proofs.lemmas.List.{append-nil, nil_from_length}
use Rattle.std.proofs.lemmas.Bool.{eqb-true, eqb-false}
use Rattle.odb_values.specs.declared.value.Value.{Value}
use Rattle.odb_codec.specs.declared.fault.ReadError.{ReadError}
use Rattle.odb_codec.specs.declared.fault.ReadError.TheVariants.{Memory, Fault}
use Rattle.odb_codec.specs.Reading.{Read, ◌>>=◌, behind_kind, as_one, value_at, values_upto, values_in}
use Rattle.odb_codec.specs.Reader.{Fails}
use Rattle.odb_codec.proofs.Steps.{bind_same}
use Rattle.odb_codec.proofs.Within.{Within, kind_within}

pub as_one_ok : (bytes : List ℕ) (r : Read Value) (x : Value × List ℕ) → as_one bytes r ≡ Ok x → r ≡ Ok x
as_one_ok bytes (Ok y) x e = e
as_one_ok bytes (Err left) x e = absurd cc

-- what is left behind a value is shorter by a byte at least
pub value_shrinks : (bytes : List ℕ) (x : Value × List ℕ) → value_at bytes ≡ Ok x → length x.1 < length bytes
unfolding value_at
value_shrinks [] x e = absurd cc
value_shrinks (kind ∷ bytes) x e =
    let one = as_one_ok (kind ∷ bytes) (behind_kind kind bytes) x e in
    let le : length x.1 ≤ length bytes = subst (λ (r : Read Value). Within (length bytes) r) one (kind_within kind bytes) in
    omega arith

-- as many values as bytes are enough
upto_enough : (m n : ℕ) (bytes : List ℕ) → length bytes ≤ m → length bytes ≤ n → values_upto m bytes ≡ values_upto n bytes
unfolding values_upto
upto_enough zero zero bytes p q = refl
upto_enough zero (suc n) [] p q = refl
upto_enough zero (suc n) (b ∷ bytes) p q = absurd (omega arith)
upto_enough (suc m) zero [] p q = refl
upto_enough (suc m) zero (b ∷ bytes) p q = absurd (omega arith)
upto_enough (suc m) (suc n) [] p q = refl
upto_enough (suc m) (suc n) (b ∷ bytes) p q =
    bind_same (value_at (b ∷ bytes)) _ _ (λ x e.
    let lt = value_shrinks (b ∷ bytes) x e in
    ap (λ (r : Result (List Value) ℕ). r >>= λ others. Ok (x.0 ∷ others)) (upto_enough m n x.1 (omega arith) (omega arith)))

pub values_in-nil : values_in [] ≡ Ok []
unfolding values_in values_upto
values_in-nil = refl

-- a value first, and then the others
abbrev pub values_step : List ℕ → Result (List Value) ℕ
values_step bytes = value_at bytes >>= λ first. values_in first.1 >>= λ others. Ok (first.0 ∷ others)

values_in-cons : (b : ℕ) (bytes : List ℕ) → values_in (b ∷ bytes) ≡ values_step (b ∷ bytes)
unfolding values_in values_upto
values_in-cons b bytes =
    bind_same (value_at (b ∷ bytes)) _ _ (λ x e.
    let lt = value_shrinks (b ∷ bytes) x e in
    ap (λ (r : Result (List Value) ℕ). r >>= λ others. Ok (x.0 ∷ others)) (upto_enough (length bytes) (length x.1) x.1 (omega arith) (omega arith)))

pub values_in_step : (bytes : List ℕ) → 0 < length bytes → values_in bytes ≡ values_step bytes
values_in_step [] lt = absurd (omega arith)
values_in_step (b ∷ bytes) lt = values_in-cons b bytes

pub some_left : (bytes : List ℕ) → false ≡ eqb (length bytes) 0 → 0 < length bytes
some_left bytes e =
    let some : length bytes ≡ 0 → ⊥ = eqb-false (length bytes) 0 (sym e) in
    omega arith

pub none_left : (bytes : List ℕ) → true ≡ eqb (length bytes) 0 → bytes ≡ []
none_left bytes e = nil_from_length bytes (eqb-true (length bytes) 0 (sym e))

-- the values that a loop has read, and those that it still reads
abbrev pub with_front : List Value → Result (List Value) ℕ → Result (List Value) ℕ
with_front front read = read >>= λ others. Ok (front ++ others)

regroup : (front : List Value) (v : Value) (read : Result (List Value) ℕ) → with_front front (read >>= λ others. Ok (v ∷ others)) ≡ with_front (front ++ v ∷ []) read
regroup front v (Ok others) = ap Ok (simp append_assoc)
regroup front v (Err left) = refl

pub values_go_on : (front : List Value) (bytes : List ℕ) (v : Value) (after : List ℕ) (total : Result (List Value) ℕ) → 0 < length bytes → value_at bytes ≡ Ok (v, after) → with_front front (values_in bytes) ≡ total → with_front (front ++ v ∷ []) (values_in after) ≡ total
values_go_on front bytes v after total lt h so_far =
    let one : with_front front (values_in bytes) ≡ with_front (front ++ v ∷ []) (values_in after) = rw (values_in_step bytes lt, h) (regroup front v (values_in after)) in
    sym one ∙ so_far

pub values_end : (e : ReadError) (front : List Value) (bytes : List ℕ) (total : Result (List Value) ℕ) → 0 < length bytes → Fails e (value_at bytes) → with_front front (values_in bytes) ≡ total → Fails e total
values_end Memory front bytes total lt h so_far = tt
values_end (Fault left) front bytes total lt h so_far =
    let one : with_front front (values_in bytes) ≡ Err left = rw (values_in_step bytes lt, h) refl in
    sym so_far ∙ one

pub values_done : (front : List Value) (bytes : List ℕ) (total : Result (List Value) ℕ) → bytes ≡ [] → with_front front (values_in bytes) ≡ total → total ≡ Ok front
values_done front bytes total none so_far =
    let one : with_front front (values_in bytes) ≡ Ok front = rw (none, values_in-nil) (ap Ok (append-nil front)) in
    sym so_far ∙ one

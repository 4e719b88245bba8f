-- The oldest of some reads.
use Rattle.std.proofs.Common.{◌≡◌, ℕ, ◌≤◌, min, List, [], ◌∷◌, refl, ap, sym, subst, Option, Some, None, All, arith}
use Rattle.std.proofs.lemmas.List.Elements.{All-nil, All-cons, All-head, All-tail, All-weaker}
use Rattle.std.proofs.lemmas.Option.{same_Some, none-some}
use Rattle.odb_model.specs.declared.outcome.Read.{Read}
use Rattle.odb_model.specs.Window.{least_with, oldest_number}

-- the lesser of two, where there are both
abbrev pub least_of : Option ℕ → Option ℕ → Option ℕ
least_of None o = o
least_of (Some n) o = least_with n o

least_of-more : (n : ℕ) (o p : Option ℕ) → least_of (Some n) (least_of o p) ≡ least_of (least_with n o) p
least_of-more n None p = refl
least_of-more n (Some m) None = refl
least_of-more n (Some m) (Some k) = ap Some (omega arith)

least_of-swap : (n : ℕ) (o p : Option ℕ) → least_of o (least_with n p) ≡ least_of (least_with n o) p
least_of-swap n None p = refl
least_of-swap n (Some m) None = ap Some (omega arith)
least_of-swap n (Some m) (Some k) = ap Some (omega arith)

-- a read more at the end of those that were looked at
pub oldest-step : (o : Option ℕ) (r : Read) (reads : List Read) → least_of (least_with r.number o) (oldest_number reads) ≡ least_of o (oldest_number (r ∷ reads))
oldest-step o r reads = sym (least_of-swap r.number o (oldest_number reads))

pub least_of-none : (o : Option ℕ) → least_of o None ≡ o
least_of-none None = refl
least_of-none (Some n) = refl

with_some : (n : ℕ) (o : Option ℕ) → least_with n o ≡ None → ⊥
with_some n None e = none-some n (sym e)
with_some n (Some m) e = none-some (min n m) (sym e)

-- without an oldest there is none
pub oldest-unread : (reads : List Read) → oldest_number reads ≡ None → reads ≡ []
oldest-unread [] e = refl
oldest-unread (r ∷ reads) e = absurd (with_some r.number (oldest_number reads) e)

-- the oldest is no later than any
pub oldest-least : (reads : List Read) (o : ℕ) → oldest_number reads ≡ Some o → All (λ r. o ≤ r.number) reads
oldest-least [] o e = All-nil (λ (r : Read). o ≤ r.number)
oldest-least (r ∷ reads) o e = by (oldest_number reads) refl e (λ m. oldest-least reads m)
  where
    by : (q : Option ℕ) → oldest_number reads ≡ q → least_with r.number q ≡ Some o
        → ((m : ℕ) → oldest_number reads ≡ Some m → All (λ r. m ≤ r.number) reads) → All (λ r. o ≤ r.number) (r ∷ reads)
    by None f g rest =
        let here : r.number ≡ o = same_Some r.number o g in
        All-cons (λ (r : Read). o ≤ r.number) r reads (omega arith)
        (subst (λ (rs : List Read). All (λ r. o ≤ r.number) rs) (sym (oldest-unread reads f)) (All-nil (λ (r : Read). o ≤ r.number)))
    by (Some m) f g rest =
        let here : min r.number m ≡ o = same_Some (min r.number m) o g in
        All-cons (λ (r : Read). o ≤ r.number) r reads (omega arith)
        (All-weaker (λ (r : Read). m ≤ r.number) (λ r. o ≤ r.number) (λ r below. omega arith) reads (rest m f))

-- it is one of them
pub oldest-above : (reads : List Read) (n o : ℕ) → All (λ r. n ≤ r.number) reads → oldest_number reads ≡ Some o → n ≤ o
oldest-above [] n o all e = absurd (none-some o e)
oldest-above (r ∷ reads) n o all e =
    by (oldest_number reads) refl e (λ m. oldest-above reads n m (All-tail (λ (r : Read). n ≤ r.number) r reads all))
  where
    head : n ≤ r.number
    head = All-head (λ (r : Read). n ≤ r.number) r reads all

    by : (q : Option ℕ) → oldest_number reads ≡ q → least_with r.number q ≡ Some o
        → ((m : ℕ) → oldest_number reads ≡ Some m → n ≤ m) → n ≤ o
    by None f g rest = let here : r.number ≡ o = same_Some r.number o g in omega (arith, head)
    by (Some m) f g rest =
        let here : min r.number m ≡ o = same_Some (min r.number m) o g in
        omega (arith, head, rest m f)

-- The longest suffix that has at most so many writes.
use Rattle.std.proofs.Common.{◌≡◌, ℕ, zero, suc, ◌+◌, ◌-◌, ◌<◌, ◌≤◌, max, Bool, true, false, nat_le, ◌⊎◌, inl, inr, ⊎_elim, List, [], ◌∷◌, ◌++◌, length, drop, refl, ap, sym, subst, if◌then◌else◌, arith}
use Rattle.std.proofs.lemmas.Bool.Decides.{leb_tells, nat_tests}
use Rattle.odb_model.specs.declared.entry.Entry.{Entry}
use Rattle.odb_model.specs.Window.{write_count, start_within}

pub order : (m n : ℕ) → (m < n) ⊎ (n ≤ m)
order m n = ⊎_elim (λ h. inr h.1) (λ h. inl h.1) (leb_tells n m)

test_within : (n m : ℕ) → n ≤ m → nat_le n m ≡ true
test_within n m within = grind (arith, nat_tests)

test_past : (n m : ℕ) → m < n → nat_le n m ≡ false
test_past n m past = grind (arith, nat_tests)

pub write_count-append : (a b : List Entry) → write_count (a ++ b) ≡ write_count a + write_count b
write_count-append [] b = omega arith
write_count-append (e ∷ a) b = omega (arith, write_count-append a b)

-- a list that has no more begins at once
pub start_within-whole : (m : ℕ) (h : List Entry) → write_count h ≤ m → start_within m h ≡ 0
start_within-whole m [] within = refl
start_within-whole m (e ∷ h) within =
    ap (λ (b : Bool). if b then 0 else start_within m h + 1) (test_within (write_count (e ∷ h)) m within)

-- one that has more begins behind its first entry
pub start_within-more : (m : ℕ) (e : Entry) (h : List Entry) → m < write_count (e ∷ h) → start_within m (e ∷ h) ≡ suc (start_within m h)
start_within-more m e h past =
    let step : start_within m (e ∷ h) ≡ start_within m h + 1 =
    ap (λ (b : Bool). if b then 0 else start_within m h + 1) (test_past (write_count (e ∷ h)) m past) in
    omega (arith, step)

pub start_within-length : (m : ℕ) (h : List Entry) → start_within m h ≤ length h
start_within-length m [] = omega arith
start_within-length m (e ∷ h) = ⊎_elim
    (λ (past : m < write_count (e ∷ h)). omega (arith, start_within-more m e h past, start_within-length m h))
    (λ (within : write_count (e ∷ h) ≤ m). omega (arith, start_within-whole m (e ∷ h) within))
    (order m (write_count (e ∷ h)))

-- the suffix has no more
pub start_within-fits : (m : ℕ) (h : List Entry) → write_count (drop (start_within m h) h) ≤ m
start_within-fits m [] = omega arith
start_within-fits m (e ∷ h) = ⊎_elim
    (λ (past : m < write_count (e ∷ h)).
    subst (λ n. write_count (drop n (e ∷ h)) ≤ m) (sym (start_within-more m e h past)) (start_within-fits m h))
    (λ (within : write_count (e ∷ h) ≤ m).
    subst (λ n. write_count (drop n (e ∷ h)) ≤ m) (sym (start_within-whole m (e ∷ h) within)) within)
    (order m (write_count (e ∷ h)))

-- each longer one has more
pub start_within-longest : (m : ℕ) (h : List Entry) (n : ℕ) → n < start_within m h → m < write_count (drop n h)
start_within-longest m [] n inside = omega arith
start_within-longest m (e ∷ h) zero inside = ⊎_elim
    (λ (past : m < write_count (e ∷ h)). past)
    (λ (within : write_count (e ∷ h) ≤ m). omega (arith, start_within-whole m (e ∷ h) within))
    (order m (write_count (e ∷ h)))
start_within-longest m (e ∷ h) (suc n) inside = ⊎_elim
    (λ (past : m < write_count (e ∷ h)).
    start_within-longest m h n (omega (arith, start_within-more m e h past)))
    (λ (within : write_count (e ∷ h) ≤ m). omega (arith, start_within-whole m (e ∷ h) within))
    (order m (write_count (e ∷ h)))

-- with more entries behind it, a list begins no earlier
pub start_within-append : (m : ℕ) (h more : List Entry) → start_within m h ≤ start_within m (h ++ more)
start_within-append m [] more = omega arith
start_within-append m (e ∷ h) more = ⊎_elim
    (λ (past : m < write_count (e ∷ h)).
    omega (
      arith,
      start_within-more m e h past,
      start_within-more m e (h ++ more) (omega (arith, write_count-append h more)),
      start_within-append m h more,
    ))
    (λ (within : write_count (e ∷ h) ≤ m). omega (arith, start_within-whole m (e ∷ h) within))
    (order m (write_count (e ∷ h)))

-- a suffix begins where the whole list does, or at its own first entry where that is later
pub start_within-drop : (m : ℕ) (h : List Entry) (n : ℕ) → n ≤ length h → n + start_within m (drop n h) ≡ max n (start_within m h)
start_within-drop m h zero inside = omega arith
start_within-drop m [] (suc n) inside = omega arith
start_within-drop m (e ∷ h) (suc n) inside =
    let here : n ≤ length h = omega arith in
    let rest = start_within-drop m h n here in
    ⊎_elim
    (λ (past : m < write_count (e ∷ h)). omega (arith, rest, start_within-more m e h past))
    (λ (within : write_count (e ∷ h) ≤ m).
    omega (arith, rest, start_within-whole m (e ∷ h) within, start_within-whole m h (omega arith)))
    (order m (write_count (e ∷ h)))

-- with one entry more: where that has no more by itself, the others are left its room
pub start_within-push : (m : ℕ) (h : List Entry) (e : Entry) → length e.writes ≤ m → start_within m (h ++ e ∷ []) ≡ start_within (m - length e.writes) h
start_within-push m [] e room = start_within-whole m (e ∷ []) (omega arith)
start_within-push m (a ∷ h) e room =
    let count = write_count-append h (e ∷ []) in
    ⊎_elim
    (λ (past : m - length e.writes < write_count (a ∷ h)).
    omega (
      arith,
      start_within-more m a (h ++ e ∷ []) (omega (arith, count)),
      start_within-more (m - length e.writes) a h past,
      start_within-push m h e room,
    ))
    (λ (within : write_count (a ∷ h) ≤ m - length e.writes).
    omega (
      arith,
      start_within-whole m (a ∷ (h ++ e ∷ [])) (omega (arith, count)),
      start_within-whole (m - length e.writes) (a ∷ h) within,
    ))
    (order (m - length e.writes) (write_count (a ∷ h)))

-- where it has more by itself, it is left out too
pub start_within-past : (m : ℕ) (h : List Entry) (e : Entry) → m < length e.writes → start_within m (h ++ e ∷ []) ≡ length h + 1
start_within-past m [] e past = omega (arith, start_within-more m e [] (omega arith))
start_within-past m (a ∷ h) e past =
    let count = write_count-append h (e ∷ []) in
    omega (arith, start_within-more m a (h ++ e ∷ []) (omega (arith, count)), start_within-past m h e past)

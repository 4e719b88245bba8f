-- Lists of lines, one part behind another.
use Rattle.std.proofs.Common.{◌≡◌, ℕ, zero, suc, ◌+◌, ◌-◌, ◌%◌, ◌==◌, ◌<◌, Bool, true, false, List, [], ◌∷◌, ◌++◌, length, map, flat_map, codes, sym, ◌∙◌, ap, refl, arith, append_assoc, add-zero, add-one, zero-add, if◌then◌else◌}
use Rattle.std.specs.List.{range_with_len}
use Rattle.std.proofs.lemmas.Bool.{eqb-true}
use Rattle.std.proofs.lemmas.List.{flat_map_more}
use Rattle.odb_generate.specs.declared.step.Step.{Step}
use Rattle.odb_generate.specs.declared.step.Step.TheVariants.{Turn, Clean}
use Rattle.odb_generate.specs.Script.{first_row, start_line, commit_line, less_line, more_line, in_turn, turn_lines, round_lines}
use Rattle.odb_generate.specs.Steps.{line_of, common_steps, steps_of, lines_left}

-- one number more
range_suc : (a n : ℕ) → range_with_len a (suc n) ≡ range_with_len a n ++ (a + n) ∷ []
range_suc a zero = ap (λ x. x ∷ []) (sym (add-zero a))
range_suc a (suc n) =
    let same : (a + 1) + n ≡ a + suc n = omega arith in
    ap (λ xs. a ∷ xs) (range_suc (a + 1) n ∙ ap (λ x. range_with_len (a + 1) n ++ x ∷ []) same)

range_more : (n : ℕ) → range_with_len 0 (n + 1) ≡ range_with_len 0 n ++ n ∷ []
range_more n = rw add-one (range_suc 0 n ∙ ap (λ x. range_with_len 0 n ++ x ∷ []) (zero-add n))

-- the next row is written behind those before it
pub rows_more : (before out : List ℕ) (k : ℕ) → out ≡ before ++ flat_map first_row (range_with_len 0 k) → out ++ first_row k ≡ before ++ flat_map first_row (range_with_len 0 (k + 1))
rows_more before out k written =
    ap (λ b. b ++ first_row k) written ∙ flat_map_more first_row before (range_with_len 0 k) k
    ∙ ap (λ xs. before ++ flat_map first_row xs) (sym (range_more k))

round_by : (r : ℕ) (b : Bool) → map (line_of r) (common_steps ++ (if b then Turn ∷ Clean ∷ [] else []))
    ≡ in_turn start_line ++ in_turn (less_line r) ++ in_turn (more_line r) ++ in_turn commit_line ++ codes "! LOG" ∷ [] ++ turn_lines 2 ++ turn_lines 3 ++ turn_lines 4
    ++ (if b then codes "! TURN" ∷ codes "! CLEAN" ∷ [] else [])
round_by r true = refl
round_by r false = refl

-- the lines of a round's steps are its lines
pub round_is : (r : ℕ) → map (line_of r) (steps_of r) ≡ round_lines r
round_is r = round_by r ((r % 10) == 0)

-- the lines of the first of some numbers stand before those of the others
joins : (f : ℕ → List (List ℕ)) (a k m : ℕ) (first last : List (List ℕ)) → k ≡ suc m → first ≡ f a → first ++ (flat_map f (range_with_len (a + 1) m) ++ last) ≡ flat_map f (range_with_len a k) ++ last
joins f a k m first last more is = rw (more, is) (sym (append_assoc (f a) (flat_map f (range_with_len (a + 1) m)) last))

-- a list without length
pub none_left : {A : Type 0} (xs : List A) (b : Bool) → b ≡ (length xs == 0) → b ≡ true → xs ≡ []
none_left [] b is empty = refl
none_left (x ∷ xs) b is empty = absurd (omega (arith, eqb-true (suc (length xs)) 0 (sym is ∙ empty)))

-- where the steps of a round are done, those of the next one come
pub goes_on : (r n : ℕ) (closing : Bool) (old new : List Step) → closing ≡ false → r < n → old ≡ [] → new ≡ steps_of (r + 1) → lines_left (r + 1) n closing new ≡ lines_left r n closing old
goes_on r n closing old new begun below empty steps =
    let more : n - r ≡ suc (n - (r + 1)) = omega arith in
    let lines : map (line_of (r + 1)) new ≡ round_lines (r + 1) = ap (map (line_of (r + 1))) steps ∙ round_is (r + 1) in
    let on = joins round_lines (r + 1) (n - r) (n - (r + 1)) (map (line_of (r + 1)) new) _ more lines in
    rw (begun, empty) on

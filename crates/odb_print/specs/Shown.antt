-- The text of a predicate, with how tightly it binds, and the parts in which it is written.
use Rattle.std.specs.Prelude.{◌≡◌, ℕ, Bool, if◌then◌else◌, List, ◌++◌, codes, flat_map, reverse, Result, IfOk, String, string_bytes}
use Rattle.std.specs.declared.alloc.AllocError.{AllocError}
use Rattle.odb_model.specs.declared.predicate.Compare.{Compare}
use Rattle.odb_model.specs.declared.predicate.Operand.{Operand}
use Rattle.odb_model.specs.declared.predicate.Predicate.{Predicate, fold-Predicate}
use Rattle.odb_model.specs.Canonical.{Shown, shown_step, compare_text, operand_text, predicate_text, within}

abbrev pub shown_of : Predicate → Shown
shown_of = fold-Predicate Shown shown_step

-- two operands with the sign of a comparison between them
abbrev pub test_text : Compare → Operand → Operand → List ℕ
test_text op left right = operand_text left ++ compare_text op ++ operand_text right

-- a column, and whether it is to be Null
abbrev pub null_text : List ℕ → Bool → List ℕ
null_text column negated = column ++ (if negated then codes " IS NOT NULL" else codes " IS NULL")

-- a word between two sides, each of which has to bind as tightly as its number at least
abbrev pub infix_text : ℕ → Predicate → List ℕ → ℕ → Predicate → List ℕ
infix_text least left word right_least right =
    within least (shown_of left) ++ word ++ within right_least (shown_of right)

-- the texts that stand behind left parts, the last first
abbrev pub text_behind : {A : Type 0} → List (String A) → List ℕ
text_behind texts = flat_map (λ text. string_bytes text) (reverse texts)

-- What is written, the text of a part, and what a function gives make these bytes behind what was
-- written before
abbrev pub Opens : {A : Type 0} → Result (String A) AllocError → String A → String A → Predicate
    → List ℕ → Type 0
Opens result old new part bytes =
    IfOk result (λ behind. string_bytes new ++ predicate_text part ++ string_bytes behind
    ≡ string_bytes old ++ bytes)

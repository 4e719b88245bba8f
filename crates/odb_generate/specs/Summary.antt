-- What `generate` says in the end of the replies to its script.
use Rattle.std.specs.Prelude.{ℕ, ℤ, Bool, true, false, List, [], ◌∷◌, ◌++◌, count_by, reverse, find, codes, Option, Some, None, option_and_then}
use Rattle.std.specs.Fmt.{decimal, signed_decimal}
use Rattle.odb_values.specs.declared.value.Value.{Value}
use Rattle.odb_values.specs.declared.value.Value.TheVariants.{Null, Int, Text}
use Rattle.odb_model.specs.declared.numbers.TheConstants.{LF}
use Rattle.odb_model.specs.declared.reply.Reply.{Reply}
use Rattle.odb_model.specs.declared.reply.Reply.TheVariants as reply
use Rattle.odb_generate.specs.declared.summary.Summary.{Summary}

-- what a reply counts as
pub data Kind : Type 0 where
  commit : Kind
  conflict : Kind
  other : Kind
  plain : Kind

-- COMMITTED and CONFLICT by themselves, and every other reply that is REFUSED or INDOUBT
abbrev pub kind_of : Reply → Kind
kind_of (reply.Committed k) = commit
kind_of (reply.Conflict j) = conflict
kind_of reply.Okay = plain
kind_of (reply.Rows rows) = plain
kind_of (reply.Done n) = plain
kind_of (reply.Ended p) = plain
kind_of (reply.Bodies file number) = plain
kind_of (reply.Gates file number) = plain
kind_of (reply.Mark file number) = plain
kind_of (reply.Logged number) = plain
kind_of (reply.Turned side first) = plain
kind_of reply.Cleaned = plain
kind_of (reply.Copying file left) = plain
kind_of (reply.Copied file mark) = plain
kind_of (reply.LogFirst number) = plain
kind_of (reply.Opened number) = plain
kind_of (reply.State state) = plain
kind_of _ = other

abbrev pub is_commit : Kind → Bool
is_commit commit = true
is_commit _ = false

abbrev pub is_conflict : Kind → Bool
is_conflict conflict = true
is_conflict _ = false

abbrev pub is_other : Kind → Bool
is_other other = true
is_other _ = false

abbrev pub is_rows : Reply → Bool
is_rows (reply.Rows rows) = true
is_rows _ = false

-- the number that a row of one value has
abbrev pub number_of : Value → Option ℤ
number_of (Int n) = Some n
number_of Null = None
number_of (Text t) = None

abbrev pub number_in_row : List Value → Option ℤ
number_in_row [] = None
number_in_row (v ∷ values) = number_of v

abbrev pub number_in_rows : List (List Value) → Option ℤ
number_in_rows [] = None
number_in_rows (row ∷ rows) = number_in_row row

abbrev pub number_told : Reply → Option ℤ
number_told (reply.Rows rows) = number_in_rows rows
number_told _ = None

-- of these replies: how many are of each kind, and the number that the last SELECT told, if it
-- told one
abbrev pub summary_of : List Reply → Summary
summary_of replies = record {
  committed = count_by (λ r. is_commit (kind_of r)) replies;
  conflicts = count_by (λ r. is_conflict (kind_of r)) replies;
  other = count_by (λ r. is_other (kind_of r)) replies;
  total = option_and_then number_told (find is_rows (reverse replies));
}

-- NULL where there is no number
abbrev pub total_text : Option ℤ → List ℕ
total_text None = codes "NULL"
total_text (Some n) = signed_decimal n

-- a word, a space, what is told, and LF
abbrev pub told_line : List ℕ → List ℕ → List ℕ
told_line word told = word ++ codes " " ++ told ++ LF ∷ []

-- the summary of so many rounds, behind which the history has this number
abbrev pub summary_text : ℕ → Summary → ℕ → List ℕ
summary_text rounds summary number =
    told_line (codes "ROUNDS") (decimal rounds)
    ++ told_line (codes "COMMITTED") (decimal summary.committed)
    ++ told_line (codes "CONFLICTS") (decimal summary.conflicts)
    ++ told_line (codes "OTHER") (decimal summary.other)
    ++ told_line (codes "TOTAL") (total_text summary.total)
    ++ told_line (codes "NUMBER") (decimal number)

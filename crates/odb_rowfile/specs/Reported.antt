-- Which rows are reported.
use Rattle.std.specs.Prelude.{◌≡◌, Bool, true, false}
use Rattle.odb_rowfile.specs.declared.running.Verdict.{Verdict}
use Rattle.odb_rowfile.specs.declared.running.Verdict.TheVariants.{Holds, Wrong}

-- A row is reported where it is wrong or compared nothing; one that has to be found wrong, where it
-- holds.
abbrev pub IsReported : Bool → Verdict → Type 0
IsReported false (Holds checks) = checks ≡ 0
IsReported false (Wrong line why) = Unit {0}
IsReported true (Holds checks) = Unit {0}
IsReported true (Wrong line why) = ⊥

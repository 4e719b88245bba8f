-- Runs of entries.
use Rattle.std.proofs.Common.{◌≡◌, ℕ, List, [], ◌∷◌, ◌++◌, Result, Ok, Err, refl, sym, ◌∙◌, ap, subst}
use Rattle.std.proofs.lemmas.List.{append-nil}
use Rattle.odb_model.specs.declared.entry.Entry.{Entry}
use Rattle.odb_transdb.specs.declared.error.TransdbError.{TransdbError}
use Rattle.odb_transdb.specs.declared.error.TransdbError.TheVariants.{NoDatabase, Damaged, Full, FaultBefore, InDoubt, NotClean, Held, Fault, NoMemory}
use Rattle.odb_transdb.specs.Runs.{run_upto, goes_on, IsRun, IsUndamaged}
use Rattle.odb_transdb.specs.Walking.{IsReadOf}

-- a run that has none yet
pub run_none : (most left : ℕ) (entries : List Entry) → entries ≡ [] → left ≡ most → IsRun most left entries
run_none most left entries none whole = subst (IsRun most left) (sym none) (record { starts = λ same. whole; all = λ rest. refl })

-- it is the run where nothing comes behind
pub run_all : (most left : ℕ) (entries : List Entry) → IsRun most left entries → run_upto most entries ≡ entries
run_all most left entries is = ap (run_upto most) (sym (append-nil entries)) ∙ is.all [] ∙ none entries
  where
    none : (es : List Entry) → es ++ goes_on most left es [] ≡ es
    none [] = refl
    none (x ∷ xs) = append-nil (x ∷ xs)

-- a refusal where no record is damaged
pub undamaged : {T U : Type 0} (P : List Entry → T → Type 0) (Q : U → Type 0) (read : Result (List Entry) ℕ) (all : List Entry) (e : TransdbError) → read ≡ Ok all → IsReadOf P read (Err e) → IsUndamaged Q (Err e)
undamaged P Q read all NoDatabase is told = told
undamaged P Q read all (Damaged at) is told = absurd (cc (told, is))
undamaged P Q read all (Full need room) is told = told
undamaged P Q read all NotClean is told = told
undamaged P Q read all (Held mark last) is told = told
undamaged P Q read all FaultBefore is told = told
undamaged P Q read all (InDoubt n) is told = told
undamaged P Q read all Fault is told = tt
undamaged P Q read all NoMemory is told = tt

-- what is known of it otherwise
pub undamaged_then : {T : Type 0} (P Q : T → Type 0) (r : Result T TransdbError) → ((x : T) → P x → Q x) → IsUndamaged P r → IsUndamaged Q r
undamaged_then P Q (Ok x) gives is = gives x is
undamaged_then P Q (Err NoDatabase) gives is = is
undamaged_then P Q (Err (Damaged at)) gives is = is
undamaged_then P Q (Err (Full need room)) gives is = is
undamaged_then P Q (Err NotClean) gives is = is
undamaged_then P Q (Err (Held mark last)) gives is = is
undamaged_then P Q (Err FaultBefore) gives is = is
undamaged_then P Q (Err (InDoubt n)) gives is = is
undamaged_then P Q (Err Fault) gives is = is
undamaged_then P Q (Err NoMemory) gives is = is

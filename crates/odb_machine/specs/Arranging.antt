-- What a definition's work asks of the copies. The rules are this project's own.
use Rattle.std.specs.Prelude.{ℕ, Bool, true, false, not, List, [], ◌∷◌, ◌++◌, Option, Some, None, if◌then◌else◌}
use Rattle.odb_model.specs.declared.reply.Reply.{Reply}
use Rattle.odb_model.specs.declared.reply.Reply.TheVariants.{NotHeld}
use Rattle.odb_model.specs.Binding.{refuse_if}
use Rattle.odb_model.specs.Shadows.{Standing, New, Offline}
use Rattle.odb_machine.specs.Copies.{Copy, Phase, Idle, Copied, Resting, copy_at, is_working, is_idle, is_copied, is_source}
use Rattle.odb_machine.specs.Log.{lacks_from}
use Rattle.odb_machine.specs.MachineState.{Machine, held_from, master_for}
use Rattle.odb_machine.specs.Refusals.{first_of, phase_refusal, if_there, wants}
use Rattle.odb_machine.specs.Plan.{Work, Nothing, Format, Blank, GoesOnline, GoesOffline, GetsReady, BecomesMaster, Drop}

-- SET SHADOW ONLINE wants a shadow that is copied, or an offline one that rests
abbrev pub may_go_online : Standing → Phase → Bool
may_go_online standing Copied = true
may_go_online Offline Resting = true
may_go_online standing phase = false

-- ALTER SHADOW TO MASTER and RESTORE want a copy that isn't new, and is idle or rests
abbrev pub may_be_master : Standing → Phase → Bool
may_be_master New phase = false
may_be_master standing Idle = true
may_be_master standing Resting = true
may_be_master standing phase = false

-- a working master isn't put aside
abbrev pub unless_working : Machine → Copy → Option Reply
unless_working m c = if is_working m.choices c then phase_refusal c else None

-- what the copy of a work is refused for by its phase, or by that of the working master
abbrev pub phase_refusals : Machine → Work → Copy → List (Option Reply)
phase_refusals m (GoesOnline file) c = wants (may_go_online c.standing) c ∷ []
phase_refusals m (GoesOffline file) c = wants is_idle c ∷ unless_working m c ∷ []
phase_refusals m (GetsReady file) c = wants is_copied c ∷ []
phase_refusals m (BecomesMaster file) c =
    wants (may_be_master c.standing) c
    ∷ if_there (wants (λ phase. not (is_source phase))) (master_for m c.bank) ∷ []
phase_refusals m (Drop file) c = unless_working m c ∷ []
phase_refusals m other c = []

-- the entries above the copy's mark aren't all held
abbrev pub uncovered : Machine → Copy → Option Reply
uncovered m c = refuse_if (lacks_from (held_from m) c.mark) (NotHeld c.mark (held_from m))

-- a copy that goes online, or becomes the master, wants the entries above its mark held
abbrev pub uncovered_refusals : Machine → Work → Copy → List (Option Reply)
uncovered_refusals m (GoesOnline file) c = uncovered m c ∷ []
uncovered_refusals m (BecomesMaster file) c = uncovered m c ∷ []
uncovered_refusals m other c = []

-- the file of the copy that a work is on, other than one that it makes
abbrev pub file_of : Work → Option ℕ
file_of Nothing = None
file_of (Format file) = None
file_of (Blank file bank) = None
file_of (GoesOnline file) = Some file
file_of (GoesOffline file) = Some file
file_of (GetsReady file) = Some file
file_of (BecomesMaster file) = Some file
file_of (Drop file) = Some file

abbrev pub copy_of_work : Machine → Option ℕ → Option Copy
copy_of_work m None = None
copy_of_work m (Some file) = copy_at m.copies file

-- what refuses a work: first a phase, then what isn't held
abbrev pub work_refusal : Machine → Work → Option Reply
work_refusal m work =
    if_there (λ c. first_of (phase_refusals m work c ++ uncovered_refusals m work c))
    (copy_of_work m (file_of work))

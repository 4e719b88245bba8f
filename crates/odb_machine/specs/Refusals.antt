-- What a control line is refused for by the machine alone: of each line its refusals, in their order.
-- The rules are this project's own.
use Rattle.std.specs.Prelude.{ℕ, ◌-◌, min, Bool, true, ◌&&◌, ◌||◌, not, nat_lt, List, [], ◌∷◌, length, Option, Some, None, if◌then◌else◌}
use Rattle.odb_model.specs.declared.phase.CopyPhase.TheVariants.{Idle as IdleName, Out as OutName}
use Rattle.odb_model.specs.declared.side.OtherSide.{OtherSide}
use Rattle.odb_model.specs.declared.side.OtherSide.TheVariants.{Live, Clean}
use Rattle.odb_model.specs.declared.entry.Entry.{Entry}
use Rattle.odb_model.specs.declared.control.Control.{Control}
use Rattle.odb_model.specs.declared.control.Control.TheVariants as control
use Rattle.odb_model.specs.declared.reply.Reply.{Reply}
use Rattle.odb_model.specs.declared.reply.Reply.TheVariants.{Halted, Phase as WrongPhase, NoFile, NotClean, Held as HeldReply, Needed}
use Rattle.odb_model.specs.Binding.{refuse_if, first_refusal}
use Rattle.odb_machine.specs.Sides.{active_first}
use Rattle.odb_machine.specs.Log.{Log, Out as LogOut, Held, lacks_from}
use Rattle.odb_model.specs.Shadows.{Standing, Master, New, Online, Offline}
use Rattle.odb_machine.specs.Copies.{Copy, Phase, Blank, Filling, name_of, copy_at, is_working, is_idle, has_bodies, has_gates, is_out}
use Rattle.odb_machine.specs.MachineState.{Machine, master_for}

-- the first of some refusals that comes
abbrev pub first_of : List (Option Reply) → Option Reply
first_of refusals = first_refusal (λ refusal. refusal) refusals

abbrev pub doubt_refusal : Option Entry → Option Reply
doubt_refusal None = None
doubt_refusal (Some e) = Some (Halted e.number)

-- while an entry is in doubt all lines but STATE and REOPEN are refused
abbrev pub halted : Machine → Option Reply
halted m = doubt_refusal m.in_doubt

-- the copy is at what the step doesn't take
abbrev pub phase_refusal : Copy → Option Reply
phase_refusal c = Some (WrongPhase c.file (name_of c.phase))

-- unless the copy is at this
abbrev pub wants : (Phase → Bool) → Copy → Option Reply
wants is_wanted c = if is_wanted c.phase then None else phase_refusal c

-- what is asked of the copy in a file; there has to be one
abbrev pub of_file : (Copy → Option Reply) → ℕ → Option Copy → Option Reply
of_file asked file None = Some (NoFile file)
of_file asked file (Some c) = asked c

abbrev pub on_copy : Machine → ℕ → (Copy → Option Reply) → Option Reply
on_copy m file asked = of_file asked file (copy_at m.copies file)

-- what is asked of a copy that there may be
abbrev pub if_there : (Copy → Option Reply) → Option Copy → Option Reply
if_there asked None = None
if_there asked (Some c) = asked c

-- COPY to a copy that is blank wants the working master idle; one that is being filled goes on
abbrev pub filling_refusal : Machine → Copy → Phase → Option Reply
filling_refusal m c Blank = if_there (wants is_idle) (master_for m c.bank)
filling_refusal m c (Filling left) = None
filling_refusal m c other = phase_refusal c

-- COPY is for a new copy alone
abbrev pub copying_refusal : Machine → Copy → Standing → Option Reply
copying_refusal m c New = filling_refusal m c c.phase
copying_refusal m c other = Some (NoFile c.file)

-- LOGDB is out
abbrev pub out_refusal : Log → Option Reply
out_refusal LogOut = Some (WrongPhase 1 OutName)
out_refusal other = None

-- NEWLOG is for a LOGDB that is out
abbrev pub in_refusal : Log → Option Reply
in_refusal LogOut = None
in_refusal other = Some (WrongPhase 1 IdleName)

-- TURN wants the other side clean
abbrev pub unclean_refusal : OtherSide → Option Reply
unclean_refusal Clean = None
unclean_refusal other = Some NotClean

-- the least of a number and the marks of some copies; copies that are out don't count
abbrev pub least_mark : (Copy → Bool) → ℕ → List Copy → ℕ
least_mark counts least [] = least
least_mark counts least (c ∷ copies) =
    least_mark counts (if counts c && not (is_out c.phase) then min c.mark least else least) copies

-- the next entry of a copy is no longer in LOGDB
abbrev pub lacks_next : Log → Copy → Bool
lacks_next (Held span) c = lacks_from span.first c.mark
lacks_next other c = true

-- CLEAN waits for working masters, for online shadows, and for those offline shadows whose next entry
-- LOGDB has no longer
abbrev pub is_waited_for : Machine → Copy → Standing → Bool
is_waited_for m c Online = true
is_waited_for m c Offline = is_working m.choices c || lacks_next m.log c
is_waited_for m c other = is_working m.choices c

-- the last entry that LOGDB has; in a database without one the history's
abbrev pub last_in : Log → ℕ → ℕ
last_in (Held span) number = span.last
last_in other number = number

-- the number up to which CLEAN may clear: the least of LOGDB's last and of those copies' marks
abbrev pub least_cleaned : Machine → ℕ
least_cleaned m =
    least_mark (λ c. is_waited_for m c c.standing) (last_in m.log (length m.history)) m.copies

-- DROPLOG waits for all masters, all working masters, and online and offline shadows
abbrev pub is_needed_by : Machine → Copy → Standing → Bool
is_needed_by m c Master = true
is_needed_by m c Online = true
is_needed_by m c Offline = true
is_needed_by m c other = is_working m.choices c

-- the number up to which DROPLOG may drop: the least of the history's number and of those marks
abbrev pub least_dropped : Machine → ℕ
least_dropped m = least_mark (λ c. is_needed_by m c c.standing) (length m.history) m.copies

-- CLEAN of a live side, whose last entry has this number
abbrev pub uncleared_refusal : OtherSide → ℕ → ℕ → Option Reply
uncleared_refusal Live least last = refuse_if (nat_lt least last) (HeldReply least last)
uncleared_refusal other least last = None

abbrev pub needed_refusal : Machine → ℕ → Option Reply
needed_refusal m number = refuse_if (nat_lt (least_dropped m) number) (Needed (least_dropped m))

-- The refusals of each control line, in their order: an entry is in doubt; there is no such copy; a
-- phase; the step's own. REOPEN and STATE have none
abbrev pub refusals : Machine → Control → List (Option Reply)
refusals m (control.Bodies file) = halted m ∷ on_copy m file (wants is_idle) ∷ []
refusals m (control.Gates file) = halted m ∷ on_copy m file (wants has_bodies) ∷ []
refusals m (control.Mark file) = halted m ∷ on_copy m file (wants has_gates) ∷ []
refusals m control.Log = halted m ∷ out_refusal m.log ∷ []
refusals m control.Turn = halted m ∷ unclean_refusal m.sides.other ∷ []
refusals m control.Clean =
    halted m ∷ out_refusal m.log
    ∷ uncleared_refusal m.sides.other (least_cleaned m) (active_first m.sides - 1) ∷ []
refusals m (control.Copy file) =
    halted m ∷ on_copy m file (λ c. copying_refusal m c c.standing) ∷ []
refusals m (control.DropLog number) =
    halted m ∷ out_refusal m.log ∷ needed_refusal m number ∷ []
refusals m control.NewLog = halted m ∷ in_refusal m.log ∷ []
refusals m control.Reopen = []
refusals m control.State = []

-- what refuses a control line
abbrev pub refusal : Machine → Control → Option Reply
refusal m line = first_of (refusals m line)

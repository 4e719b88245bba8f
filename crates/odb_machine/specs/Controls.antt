-- Control lines: each is refused by the first refusal that comes, or does its step.
use Rattle.std.specs.Prelude.{◌≡◌, ℕ, List, length, map, Option, Some, None}
use Rattle.odb_model.specs.declared.entry.Entry.{Entry}
use Rattle.odb_model.specs.declared.phase.LogSpan.{LogSpan}
use Rattle.odb_model.specs.declared.phase.CopyLine.{CopyLine}
use Rattle.odb_model.specs.declared.phase.StateReply.{StateReply}
use Rattle.odb_model.specs.declared.control.Control.{Control}
use Rattle.odb_model.specs.declared.control.Control.TheVariants as control
use Rattle.odb_model.specs.declared.reply.Reply.{Reply}
use Rattle.odb_model.specs.declared.reply.Reply.TheVariants.{Opened, State, Memory}
use Rattle.odb_machine.specs.Sides.{first_in}
use Rattle.odb_machine.specs.Log.{Log, Absent, Out as LogOut, Held}
use Rattle.odb_machine.specs.Copies.{Copy, Phase, Blank, Filling, Out, name_of, copy_at}
use Rattle.odb_machine.specs.Book.{Seen}
use Rattle.odb_machine.specs.MachineState.{Machine, IsSettled}
use Rattle.odb_machine.specs.First.{IsFirstMachine}
use Rattle.odb_machine.specs.Refusals.{refusal}
use Rattle.odb_machine.specs.Turning.{TakesBodies, OpensGates, RaisesMark}
use Rattle.odb_machine.specs.Clearing.{TurnsSides, CleansSide}
use Rattle.odb_machine.specs.Logging.{Logs, DropsLog, MakesLog}
use Rattle.odb_machine.specs.Copying.{CopiesOn}

-- the mark of a copy that is blank, being filled or out isn't told
abbrev pub mark_told : Phase → ℕ → Option ℕ
mark_told Blank mark = None
mark_told (Filling left) mark = None
mark_told Out mark = None
mark_told phase mark = Some mark

abbrev pub line_of_copy : Copy → CopyLine
line_of_copy c = record {
  file = c.file;
  bank = c.bank;
  mark = mark_told c.phase c.mark;
  phase = name_of c.phase;
}

abbrev pub log_told : Log → Option LogSpan
log_told Absent = None
log_told LogOut = None
log_told (Held span) = Some (record { first = span.first; last = span.last })

-- what STATE tells
abbrev pub state_of : Machine → StateReply
state_of m = record {
  number = length m.history;
  active = m.sides.active;
  other = m.sides.other;
  first = first_in m.sides;
  log = log_told m.log;
  copies = map line_of_copy m.copies;
}

-- REOPEN: the machine that an opening by the same choices finds. What was honest stays so. An opening
-- that is refused gets no reply here: it ends the run, with its status
abbrev pub Reopens : Machine → Seen → Reply → Machine → Type 0
Reopens m seen (Opened number) after =
    (h : List Entry) × IsSettled m m.in_doubt h × (number ≡ length h)
    × IsFirstMachine seen m.choices m.honest h after
Reopens m seen reply after = ⊥

-- there is a copy, and this is so of it
abbrev pub OnCopy : Option Copy → (Copy → Type 0) → Type 0
OnCopy None P = ⊥
OnCopy (Some c) P = P c

-- a control line's step, where nothing refuses it
abbrev pub Works : Machine → Seen → Control → Reply → Machine → Type 0
Works m seen (control.Bodies file) reply after =
    OnCopy (copy_at m.copies file) (λ c. TakesBodies m seen c reply after)
Works m seen (control.Gates file) reply after =
    OnCopy (copy_at m.copies file) (λ c. OpensGates m seen c c.phase reply after)
Works m seen (control.Mark file) reply after =
    OnCopy (copy_at m.copies file) (λ c. RaisesMark m seen c c.phase reply after)
Works m seen control.Log reply after = Logs m seen m.log reply after
Works m seen control.Turn reply after = TurnsSides m seen reply after
Works m seen control.Clean reply after = CleansSide m seen reply after
Works m seen (control.Copy file) reply after =
    OnCopy (copy_at m.copies file) (λ c. CopiesOn m seen c reply after)
Works m seen (control.DropLog number) reply after = DropsLog m seen number m.log reply after
Works m seen control.NewLog reply after = MakesLog m seen reply after
Works m seen control.Reopen reply after = Reopens m seen reply after
Works m seen control.State reply after = (reply ≡ State (state_of m)) × (after ≡ m)

abbrev pub WorksUnless :
    Option Reply → Machine → Seen → Control → Reply → Machine → Type 0
WorksUnless (Some why) m seen line reply after = (reply ≡ why) × (after ≡ m)
WorksUnless None m seen line reply after = Works m seen line reply after

-- A control line. Memory may run out in each but REOPEN, where that ends the run
abbrev pub Controls : Machine → Seen → Control → Reply → Machine → Type 0
Controls m seen control.Reopen Memory after = ⊥
Controls m seen line Memory after = after ≡ m
Controls m seen line reply after = WorksUnless (refusal m line) m seen line reply after

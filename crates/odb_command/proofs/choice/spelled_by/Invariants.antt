use Rattle.std.proofs.Common.{take}
use Rattle.odb_command.specs.Chosen.{Spell}
use Rattle.odb_command.proofs.Choices.{texts_of}
use Rattle.odb_command.proofs.choice.spelled_by.Given as goal

-- the words so far spell the choices so far
abbrev pub invariant-loop-word : goal.invariant-loop-word
invariant-loop-word l = Spell (texts_of (take l.word-index l.words)) l.choices.items

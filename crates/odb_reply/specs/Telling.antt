-- What the bytes of a reply tell of commits.
use Rattle.std.specs.Prelude.{◌≡◌, ℕ, List, ◌++◌}
use Rattle.odb_model.specs.declared.reply.Reply.{Reply}
use Rattle.odb_model.specs.declared.reply.Reply.TheVariants.{Committed}
use Rattle.odb_model.specs.Acknowledged.{Acknowledges}

-- a commit of which a front of the bytes tells is the reply itself
abbrev pub TellsAlone : List ℕ → Reply → Type 0
TellsAlone bytes reply =
    (front rest : List ℕ) (k : ℕ) → bytes ≡ front ++ rest → Acknowledges front k
    → reply ≡ Committed k

-- What a statement does to rows, as one fact.
use Rattle.std.specs.Prelude.{◌≡◌}
use Rattle.odb_model.specs.Meaning.{Meaning}
use Rattle.odb_exec.specs.declared.effect.Effect.{Effect}

-- it is just what the statement means
pub record IsEffectOf (meaning : Meaning) (effect : Effect) : Type 0 where
  pub reply : effect.reply ≡ meaning.reply
  pub writes : effect.writes ≡ meaning.writes

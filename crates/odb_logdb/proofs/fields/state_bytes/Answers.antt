use Rattle.std.proofs.Common.{ℕ, [], ◌∷◌, sym, ◌∙◌, ap, arith}
use Rattle.std.proofs.Math.Nat.{mod-eq_of_lt}
use Rattle.odb_logdb.proofs.fields.state_bytes.Goals as goal

pub returns : goal.returns
returns c = c.to_be_bytes.ensures ∙ ap (λ (n : ℕ). n ∷ []) (sym (mod-eq_of_lt (omega (arith, c.ranges.state.fits))))

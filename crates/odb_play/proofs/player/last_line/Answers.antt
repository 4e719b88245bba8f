use Rattle.std.proofs.Common.{ap, ◌∙◌, take}
use Rattle.std.proofs.lemmas.List.{take_min}
use Rattle.odb_play.proofs.player.last_line.Goals as goal

pub returns : goal.returns
returns c = ap (λ n. take n c.args.front.now) c.min.ensures ∙ take_min 65540 c.args.front.now

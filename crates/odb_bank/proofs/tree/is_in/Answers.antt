use Rattle.std.proofs.Common.{◌∙◌}
use Rattle.odb_bank.proofs.InRun.{found_in}
use Rattle.odb_bank.proofs.tree.is_in.Goals as goal

pub returns : goal.returns
returns c =
    c.is_ok.ensures.value ∙ found_in c.args.run.now c.args.slot c.binary_search.result c.requires c.binary_search.ensures.bound c.binary_search.ensures.position

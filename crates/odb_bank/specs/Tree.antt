-- What a tree keeps, in order.
use Rattle.std.specs.Prelude.{List, [], ◌∷◌, ◌++◌}
use Rattle.odb_bank.specs.declared.kept.Kept.{Kept}
use Rattle.odb_bank.specs.declared.tree.Node.{Node}
use Rattle.odb_bank.specs.declared.tree.Node.TheVariants.{Leaf, Fork}

abbrev pub items : Node → List Kept
items Leaf = []
items (Fork fork) = fork.value.0 ++ fork.value.1 ∷ fork.value.2

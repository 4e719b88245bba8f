-- What the kinds of values and columns are in the definitions.
use Rattle.odb_model.specs.Binding.{Kind as ModelKind, Number, Words}
use Rattle.odb_plain.specs.declared.kind.Kind.{Kind}
use Rattle.odb_plain.specs.declared.kind.Kind.TheVariants as kind

abbrev pub kind_in : Kind → ModelKind
kind_in kind.Number = Number
kind_in kind.Words = Words

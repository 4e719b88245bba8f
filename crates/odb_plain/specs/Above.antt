-- What the parts above a part of a predicate make of its truth.
use Rattle.odb_model.specs.declared.truth.Truth.{Truth}
use Rattle.odb_model.specs.declared.truth.Truth.TheVariants.{True, False, Unknown}
use Rattle.odb_plain.specs.declared.above.Above.{Above}

abbrev pub whole_truth : Above → Truth → Truth
whole_truth above True = above.at_true
whole_truth above False = above.at_false
whole_truth above Unknown = above.at_unknown

-- What stands above the left part of a bound predicate.
use Rattle.odb_eval.specs.declared.filter.Filter.{Filter}
use Rattle.odb_eval.specs.declared.filter.Filter.TheVariants as filter
use Rattle.odb_eval.specs.declared.joint.Joint.{Joint}
use Rattle.odb_eval.specs.declared.joint.Joint.TheVariants.{Not, And, Or}

-- the predicate whose left part is this one
abbrev pub under : Filter → Joint → Filter
under left Not = filter.Not left
under left (And right) = filter.And left right
under left (Or right) = filter.Or left right

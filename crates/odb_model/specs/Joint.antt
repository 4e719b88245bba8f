-- What stands above the left part of a predicate.
use Rattle.odb_model.specs.declared.predicate.Predicate.{Predicate}
use Rattle.odb_model.specs.declared.predicate.Predicate.TheVariants as predicate
use Rattle.odb_model.specs.declared.joint.Joint.{Joint}
use Rattle.odb_model.specs.declared.joint.Joint.TheVariants.{Not, And, Or}

-- the predicate whose left part is this one
abbrev pub under : Predicate → Joint → Predicate
under left Not = predicate.Not left
under left (And right) = predicate.And left right
under left (Or right) = predicate.Or left right

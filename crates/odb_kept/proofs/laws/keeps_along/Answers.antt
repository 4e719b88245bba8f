use Rattle.std.proofs.Common.{◌≢◌, []}
use Rattle.odb_kept.specs.Decided.{Answered, asks, after_of, text_of}
use Rattle.odb_kept.proofs.Running.{opened, goes_on, run_then}
use Rattle.odb_kept.proofs.laws.keeps_along.Goals as goal

audible : (a : Answered) → text_of a ≢ []
audible a none = cc

pub returns-clause-opens : goal.returns-clause-opens
returns-clause-opens c = λ entry first old new. opened asks after_of text_of entry first old new

pub returns-clause-goes_on : goal.returns-clause-goes_on
returns-clause-goes_on c = λ entry first m answers a old mid step new. goes_on asks after_of text_of entry first answers m a old mid step new audible

pub returns-clause-joins : goal.returns-clause-joins
returns-clause-joins c = λ entry first m last answers more old mid new. run_then asks after_of text_of entry first answers more m last old mid new audible

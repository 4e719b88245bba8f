use Rattle.std.proofs.Common.{◌≡◌, ◌+◌, ◌-◌, ◌*◌, ◌≤◌, arith}
use Rattle.std.proofs.lemmas.Nat.{div-add-mod'}
use Rattle.odb_transdb.proofs.Beginning.{begin_start, begin_kept}
use Rattle.odb_transdb.proofs.reading.begin_at.Goals as goal

pub returns-in-None : goal.returns-in-None
returns-in-None c = λ w can. begin_start c.args.log.now c.args.places.now c.args.from c.args.start c.args.first w c.requires.begin.0 c.requires.begin.1

pub returns-in-Some : goal.returns-in-Some
returns-in-Some c = λ w can.
    let log = c.args.log.now in
    let kept = c.min-kept.result in
    let before = c.saturating_sub-steps.result in
    let few : 64 * kept ≤ c.args.from - log.first = omega (arith, c.min-kept.ensures, c.saturating_sub-steps.ensures, div-add-mod' before 64, c.requires.begin.1) in
    let count : c.saturating_add.result ≡ log.first + 64 * kept = omega (arith, c.saturating_mul.ensures, c.saturating_add.ensures, few, c.requires.begin.1, c.in-Some.ensures.some.0, c.ranges.from.fits) in
    begin_kept log c.args.places.now c.args.from c.in-Some.at c.saturating_add.result kept w can c.in-Some.ensures.some.0 c.in-Some.ensures.some.1 few c.in-Some.ensures.some.2 count

use Rattle.std.proofs.Common.{◌≡◌, ℕ, ◌+◌, ◌^◌, ◌<◌, ◌≤◌, length, take, length-take, Option, Some, None, sym, subst, arith, rules}
use Rattle.std.specs.Prelude.{IfSome}
use Rattle.odb_device.specs.World.{File, file_of}
use Rattle.odb_device.specs.Images.{part}
use Rattle.odb_device.proofs.Time.{reads_then}
use Rattle.odb_transdb.specs.Header.{side_start, side_end, other_of}
use Rattle.odb_transdb.specs.Opening.{IsFirstOther}
use Rattle.odb_transdb.proofs.Headers.{lawful_is}
use Rattle.odb_transdb.proofs.Sides.{active_sides}
use Rattle.odb_transdb.proofs.Bare.{bare_more, bare_found, bare_all, other_start, side_long, side_small}
use Rattle.odb_transdb.proofs.opening.find_other.Given.{Over}
use Rattle.odb_transdb.proofs.opening.find_other.Goals as goal
use Rattle.odb_transdb.proofs.opening.find_other.Goals.{After-side_size, After-first_nonzero}

starts : (g : Over) (c : After-side_size g) → c.side_start-start.result ≡ side_start c.args.header.now (other_of c.args.header.now)
starts g c = other_start c.args.header.now c.other_side.result c.side_start-start.result c.other_side.ensures c.side_start-start.ensures

ends : (g : Over) (c : After-side_size g) → c.side_start-start.result + c.side_size.result ≡ side_end c.args.header.now (other_of c.args.header.now)
ends g c = omega (arith, starts g c, c.side_size.ensures)

long : (g : Over) (c : After-side_size g) → IfSome (file_of 0 (g.S.Outside.world c.args.store.now)) (λ f. c.side_start-start.result + c.side_size.result ≤ length f.bytes)
long g c =
    let h = c.args.header.now in
    subst (λ (n : ℕ). IfSome (file_of 0 (g.S.Outside.world c.args.store.now)) (λ f. n ≤ length f.bytes)) (sym (ends g c))
    (side_long h (other_of h) (file_of 0 (g.S.Outside.world c.args.store.now)) (active_sides h (lawful_is h c.requires.lawful).active).two c.requires.long)

abbrev Looked : ℕ → ℕ → Option ℕ → Option File → Type 0
Looked at n found o = IfSome o (λ f. at + n ≤ length f.bytes → IsFirstOther (part at n f.bytes) found)

-- what was read of a piece
looked : (g : Over) (c : After-first_nonzero g) (found : Option ℕ)
    → IfSome (file_of 0 (g.S.Outside.world c.loop-at.store)) (λ f. c.loop-at.at + length (take c.min-size.result c.loop-at.piece) ≤ length f.bytes → IsFirstOther (part c.loop-at.at (length (take c.min-size.result c.loop-at.piece)) f.bytes) found)
    → IfSome (file_of 0 (g.S.Outside.world c.loop-at.store)) (λ f. c.loop-at.at + c.min-size.result ≤ length f.bytes → IsFirstOther (part c.loop-at.at c.min-size.result f.bytes) found)
looked g c found told =
    let n = c.min-size.result in
    let whole : length c.loop-at.piece ≡ 65536 = search rules in
    let size : length (take n c.loop-at.piece) ≡ n = omega (arith, length-take n c.loop-at.piece, c.min-size.ensures) in
    subst (λ (k : ℕ). IfSome (file_of 0 (g.S.Outside.world c.loop-at.store)) (λ f. c.loop-at.at + k ≤ length f.bytes → IsFirstOther (part c.loop-at.at k f.bytes) found)) size told

pub returns-in-Some-clause-told : goal.returns-in-Some-clause-told
returns-in-Some-clause-told g c =
    let at = goal.at.returns-in-Some-clause-told g c in
    let a = at.After-side_size in
    let h = c.args.header.now in
    let start = c.side_start-start.result in
    let end = start + c.side_size.result in
    let mid = g.S.Outside.world c.loop-at.store in
    let told = subst (λ (found : Option ℕ). Looked c.loop-at.at (length (take c.min-size.result c.loop-at.piece)) found (file_of 0 mid)) c.in-Some.is c.in_ok-n.ensures.told in
    let lawful = lawful_is h c.requires.lawful in
    let small : end < 2 ^ 64 = omega (arith, ends g a, side_small h (other_of h) (active_sides h lawful.active).two lawful.high) in
    let within : c.loop-at.at + c.min-size.result ≤ end = omega (arith, c.min-size.ensures) in
    bare_found (g.S.Outside.world c.args.store.now) mid (g.S.Outside.world c.first_nonzero.new.store) start end c.loop-at.at c.min-size.result c.loop-at.invariant within (long g a) c.first_nonzero.ensures.run h (starts g a) (ends g a)
    small c.in-Some.n c.saturating_add.result c.saturating_add.ensures (looked g at.After-first_nonzero (Some c.in-Some.n) told)

pub loop-at-preserved : goal.loop-at-preserved
loop-at-preserved g c =
    let at = goal.at.loop-at-preserved g c in
    let a = at.After-side_size in
    let start = c.side_start-start.result in
    let end = start + c.side_size.result in
    let mid = g.S.Outside.world c.loop-at.store in
    let told = subst (λ (found : Option ℕ). Looked c.loop-at.at (length (take c.min-size.result c.loop-at.piece)) found (file_of 0 mid)) c.in_default.is c.in_ok-n.ensures.told in
    let within : c.loop-at.at + c.min-size.result ≤ end = omega (arith, c.min-size.ensures) in
    bare_more (g.S.Outside.world c.args.store.now) mid (g.S.Outside.world c.first_nonzero.new.store) start end c.loop-at.at c.min-size.result c.loop-at.invariant within (long g a) c.first_nonzero.ensures.run
    (looked g at.After-first_nonzero None told)

pub returns-clause-told : goal.returns-clause-told
returns-clause-told g c =
    let a = (goal.at.returns-clause-told g c).After-side_size in
    let start = c.side_start-start.result in
    bare_all (g.S.Outside.world c.args.store.now) (g.S.Outside.world c.loop-at.store) start (start + c.side_size.result) c.loop-at.at c.loop-at.invariant c.loop-at-test.false c.args.header.now (starts g a) (ends g a) (long g a)

pub returns-in_err-n-clause-run : goal.returns-in_err-n-clause-run
returns-in_err-n-clause-run g c = reads_then 0 (g.S.Outside.world c.args.store.now) (g.S.Outside.world c.loop-at.store) (g.S.Outside.world c.first_nonzero.new.store) c.loop-at.invariant.run c.first_nonzero.ensures.run

pub returns-in-Some-clause-run : goal.returns-in-Some-clause-run
returns-in-Some-clause-run g c = reads_then 0 (g.S.Outside.world c.args.store.now) (g.S.Outside.world c.loop-at.store) (g.S.Outside.world c.first_nonzero.new.store) c.loop-at.invariant.run c.first_nonzero.ensures.run

use Rattle.std.proofs.Common.{◌≡◌, ◌+◌, ◌≤◌, length, None, Some, Option, sym, subst, arith, List, ℕ}
use Rattle.std.specs.Prelude.{IfSome}
use Rattle.std.proofs.lemmas.Bool.{false≢true}
use Rattle.odb_device.specs.Images.{part}
use Rattle.odb_device.specs.World.{File, file_of}
use Rattle.odb_device.proofs.Time.{run_end}
use Rattle.odb_reclog.specs.Records.{HEAD, log_of, IsPlaceIn}
use Rattle.odb_reclog.specs.Reading.{head_at}
use Rattle.odb_reclog.specs.Standing.{Log}
use Rattle.odb_reclog.specs.contracts.log.RecLog.{the_view}
use Rattle.odb_reclog.proofs.Recorded.{IsRecordIn, IsAsked, Fits, IsInOrder, none_near_end, in_order, head_by_window, order_kept, record_found, next_found}
use Rattle.odb_device.proofs.Time.{reads_then}
use Rattle.odb_reclog.specs.Told.{OnlyReads}
use Rattle.odb_reclog.proofs.log.RecLog.records_by.Given.{Over}
use Rattle.odb_reclog.proofs.log.RecLog.records_by.Goals as goal
use Rattle.odb_reclog.proofs.log.RecLog.records_by.Goals.{After-self, After-end_from-next}
use Rattle.odb_reclog.specs.declared.head.Head.{Head}

-- the log by its fields
asked : (g : Over) (c : After-self g)
    → IsAsked (the_view c.self.inside) c.args.at (file_of c.self.inside.file (g.S.Outside.world c.args.store.now))
asked g c =
    subst (λ (l : Log). IsAsked l c.args.at (file_of l.file (g.S.Outside.world c.args.store.now))) (sym c.self.view_is)
    (record {
      stands = c.requires.readable.stands;
      reads = g.met.S.Store.reads_image c.args.store.now c.args.self.now.file;
      place = c.requires.readable.place;
      before = c.requires.readable.high;
    })

pub returns-then-self-at-lt-HEAD-clause-record : goal.returns-then-self-at-lt-HEAD-clause-record
returns-then-self-at-lt-HEAD-clause-record g c =
    let w = g.S.Outside.world c.args.store.now in
    subst (λ (l : Log). IsRecordIn l c.args.at None (file_of l.file w)) c.self.view_is
    (none_near_end (the_view c.self.inside) c.args.at (file_of c.self.inside.file w)
    (asked g (goal.at.returns-then-self-at-lt-HEAD-clause-record g c).After-self) c.if-self-at-lt-HEAD.true)

-- before the end of the list, whose head was read
order : (g : Over) (c : After-end_from-next g)
    → IsAsked (the_view c.self.inside) c.args.at (file_of c.self.inside.file (g.S.Outside.world c.args.store.now))
    → IfSome (file_of c.self.inside.file (g.S.Outside.world c.args.store.now)) (λ f. IsInOrder (the_view c.self.inside) c.args.at f.bytes)
order g c a =
    in_order (the_view c.self.inside) c.args.at (file_of c.self.inside.file (g.S.Outside.world c.args.store.now)) a
    (λ same. omega (arith, same, c.if-self-at-lt-HEAD.false))

head_read : (g : Over) (c : After-end_from-next g)
    → IsAsked (the_view c.self.inside) c.args.at (file_of c.self.inside.file (g.S.Outside.world c.args.store.now))
    → IfSome (file_of c.self.inside.file (g.S.Outside.world c.args.store.now)) (λ f. Some c.in-Some.head ≡ Some (head_at c.args.at f.bytes))
head_read g c a =
    let o = file_of c.self.inside.file (g.S.Outside.world c.args.store.now) in
    subst (λ (found : Option Head). IfSome o (λ f. found ≡ Some (head_at c.args.at f.bytes))) c.in-Some.is
    (head_by_window (the_view c.self.inside) c.args.at o c.in_ok-head.field-0 (order g c a) c.in_ok-head.ensures.head)

pub returns-then-not-is_in_order-clause-record : goal.returns-then-not-is_in_order-clause-record
returns-then-not-is_in_order-clause-record g c =
    let w = g.S.Outside.world c.args.store.now in
    let o = file_of c.self.inside.file w in
    let log = the_view c.self.inside in
    let head = c.in-Some.head in
    let at = goal.at.returns-then-not-is_in_order-clause-record g c in
    let a = asked g at.After-self in
    subst (λ (l : Log). IsRecordIn l c.args.at None (file_of l.file w)) c.self.view_is
    (order_kept log c.args.at o head c.end_from-next.result (order g at.After-end_from-next a)
    (head_read g at.After-end_from-next a) c.end_from-next.ensures
    (subst (λ (l : Log). Fits l head c.end_from-next.result → ⊥) (sym c.self.view_is)
    (λ fits. absurd (false≢true (c.if-not-is_in_order.ensures.1 fits)))))

pub returns-in-Some-2-clause-record : goal.returns-in-Some-2-clause-record
returns-in-Some-2-clause-record g c =
    let w = g.S.Outside.world c.args.store.now in
    let o = file_of c.self.inside.file w in
    let log = the_view c.self.inside in
    let head = c.in-Some.head in
    let at = goal.at.returns-in-Some-2-clause-record g c in
    let a = asked g at.After-self in
    let same = run_end c.self.inside.file (λ f. f ≡ o) w (g.S.Outside.world c.head.new.store) c.head.ensures.run in
    let bytes =
    subst (λ (p : Option File). IfSome p
    (λ f. c.args.at + HEAD + head.size ≤ length f.bytes
    → c.in_ok-payload.field-0 ≡ Some (part (c.args.at + HEAD) head.size f.bytes))) same c.in_ok-payload.ensures.bytes in
    let payload =
    subst (λ (p : Option (List ℕ)). IfSome o
    (λ f. c.args.at + HEAD + head.size ≤ length f.bytes → p ≡ Some (part (c.args.at + HEAD) head.size f.bytes))) c.in-Some-2.is
    bytes in
    subst (λ (l : Log). IsRecordIn l c.args.at
    (Some (record { number = head.number; payload = c.in-Some-2.payload; next = c.end_from-next.result })) (file_of l.file w))
    c.self.view_is
    (record_found log c.args.at o head c.in-Some-2.payload c.end_from-next.result (order g at.After-end_from-next a)
    (head_read g at.After-end_from-next a) payload c.end_from-next.ensures)

pub returns-in-Some-2-clause-next : goal.returns-in-Some-2-clause-next
returns-in-Some-2-clause-next g c =
    let w = g.S.Outside.world c.args.store.now in
    let o = file_of c.self.inside.file w in
    let log = the_view c.self.inside in
    let head = c.in-Some.head in
    let at = goal.at.returns-in-Some-2-clause-next g c in
    let a = asked g at.After-self in
    subst (λ (l : Log). IfSome (file_of l.file w) (λ f. IsPlaceIn l.start (log_of l.start l.end l.first f.bytes) c.end_from-next.result))
    c.self.view_is
    (next_found log c.args.at o head c.end_from-next.result (order g at.After-end_from-next a)
    (head_read g at.After-end_from-next a) c.end_from-next.ensures)

pub returns-in_err-payload-clause-run : goal.returns-in_err-payload-clause-run
returns-in_err-payload-clause-run g c =
    let w = g.S.Outside.world c.args.store.now in
    let now = g.S.Outside.world c.bytes.new.store in
    subst (λ (l : Log). OnlyReads l.file w now) c.self.view_is (reads_then c.self.inside.file w (g.S.Outside.world c.head.new.store) now c.head.ensures.run c.bytes.ensures.run)

pub returns-in-Some-2-clause-run : goal.returns-in-Some-2-clause-run
returns-in-Some-2-clause-run g c =
    let w = g.S.Outside.world c.args.store.now in
    let now = g.S.Outside.world c.bytes.new.store in
    subst (λ (l : Log). OnlyReads l.file w now) c.self.view_is (reads_then c.self.inside.file w (g.S.Outside.world c.head.new.store) now c.head.ensures.run c.bytes.ensures.run)

pub returns-in-None-clause-run : goal.returns-in-None-clause-run
returns-in-None-clause-run g c =
    let w = g.S.Outside.world c.args.store.now in
    let now = g.S.Outside.world c.bytes.new.store in
    subst (λ (l : Log). OnlyReads l.file w now) c.self.view_is (reads_then c.self.inside.file w (g.S.Outside.world c.head.new.store) now c.head.ensures.run c.bytes.ensures.run)

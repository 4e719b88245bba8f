use Rattle.std.proofs.Common.{◌≡◌, Option, None, Ok, ap, ◌∙◌, subst}
use Rattle.std.specs.Option.{option_map, option_copied}
use Rattle.std.proofs.lemmas.Result.{err_from_is_err_and}
use Rattle.odb_model.specs.declared.table_key.TableKey.{TableKey}
use Rattle.odb_model.specs.State.{table_key_of}
use Rattle.odb_codec.specs.Reading.{writes_at, write_at}
use Rattle.odb_codec.specs.Reader.{Fails}
use Rattle.odb_codec.proofs.Loop.{last_key, writes_go_on, writes_end, writes_done}
use Rattle.odb_codec.proofs.write.writes_at.Goals as goal

pub returns-in_err-write : goal.returns-in_err-write
returns-in_err-write c =
    let p = err_from_is_err_and c.from_residual-in_err-write.result c.from_residual-in_err-write.ensures.1 in
    let same : option_map table_key_of (option_copied c.last.result) ≡ last_key c.loop.writes.items =
    ap (option_map table_key_of) c.last.ensures.value ∙ ap last_key c.deref.ensures.value in
    let fails = subst (λ (b : Option TableKey). Fails c.in_err-write.field-0.0 (write_at b c.loop.rest.now)) same c.in_err-write.ensures in
    rw (p.1, p.2) (writes_end c.in_err-write.field-0.0 c.loop.writes.items c.args.count c.loop.counter c.loop.rest.now (writes_at None c.args.count c.args.bytes.now) c.loop-test.true fails c.loop.invariant)

pub loop-preserved : goal.loop-preserved
loop-preserved c =
    let same : option_map table_key_of (option_copied c.last.result) ≡ last_key c.loop.writes.items =
    ap (option_map table_key_of) c.last.ensures.value ∙ ap last_key c.deref.ensures.value in
    let read = subst (λ (b : Option TableKey). write_at b c.loop.rest.now ≡ Ok (c.in_ok-write.write, c.in_ok-write.after.now)) same c.in_ok-write.ensures in
    rw c.in_ok-push.ensures.items (writes_go_on c.loop.writes.items c.args.count c.loop.counter c.loop.rest.now c.in_ok-write.write c.in_ok-write.after.now (writes_at None c.args.count c.args.bytes.now) c.loop-test.true read c.loop.invariant)

pub returns : goal.returns
returns c = rw c.from_vec.ensures (writes_done c.loop.writes.items c.args.count c.loop.counter c.loop.rest.now (writes_at None c.args.count c.args.bytes.now) c.loop-test.false c.loop.invariant)

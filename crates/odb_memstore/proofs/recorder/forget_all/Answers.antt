use Rattle.std.proofs.Common.{◌<◌, false, length, get_or, ap, ◌∙◌, arith}
use Rattle.std.specs.Prelude.{slice_set}
use Rattle.std.proofs.lemmas.List.{get_or_default}
use Rattle.std.proofs.lemmas.List.Edits.{map_over_more}
use Rattle.odb_memstore.specs.declared.recorder.Call.TheVariants.{Look}
use Rattle.odb_memstore.specs.declared.recorder.Recorded.{Recorded}
use Rattle.odb_memstore.specs.Recording.{forgotten}
use Rattle.odb_memstore.proofs.recorder.forget_all.Goals as goal

pub loop-recorded-preserved : goal.loop-recorded-preserved
loop-recorded-preserved c =
    let at = c.loop-recorded.recorded-index in
    let before = c.loop-recorded.calls in
    let d : Recorded = record { call = Look 0; failed = false } in
    let read = get_or before at d in
    let within : at < length before = omega (arith, c.loop-recorded-test.true, c.loop-recorded.auto.calls) in
    ap (slice_set before at) c.without.ensures
    ∙ map_over_more (forgotten c.args.file) c.args.calls.now before at read c.loop-recorded-test.true c.loop-recorded.invariant (get_or_default before at d read within)

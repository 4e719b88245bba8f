use Rattle.std.proofs.Common.{◌≡◌, ◌∙◌, ap, sym, arith, List, Option, Some, None}
use Rattle.std.specs.Prelude.{option_map}
use Rattle.std.specs.Option.{option_copied}
use Rattle.odb_values.specs.declared.value.Value.{Value}
use Rattle.odb_model.specs.declared.intention.Intention.{Intention}
use Rattle.odb_model.specs.State.{State}
use Rattle.odb_rowsource.specs.declared.row_source.KeyedRow.{KeyedRow}
use Rattle.odb_rowsource.specs.RowSource.{next_in}
use Rattle.odb_rowsource.specs.Overlay.{first_of, overlaid}
use Rattle.odb_rowsource.proofs.Laid.{next-alone, next-first, next-behind, later-fewer}
use Rattle.odb_rowsource.proofs.overlay.show_over.Goals as goal

pub returns-in-Some-first_of-clause-row : goal.returns-in-Some-first_of-clause-row
returns-in-Some-first_of-clause-row g c =
    let last : Option (List Value) = option_copied c.loop-intention.last in
    let i : Intention = c.in-Some.intention.now in
    let first : first_of (next_in c.args.range.now last (g.R.RowSource.state c.args.base.now)) i ≡ Some (overlaid g.R.Shown.ShownRow.keyed c.in-Some-first_of.row) =
    ap (λ (s : State). first_of (next_in c.args.range.now last s) i) (sym c.loop-intention.invariant.0)
    ∙ ap (λ (r : Option KeyedRow). first_of r i) (sym c.in_ok-found.ensures.row) ∙ sym c.first_of.ensures ∙ ap (option_map (overlaid g.R.Shown.ShownRow.keyed)) c.in-Some-first_of.is in
    next-first (g.R.RowSource.state c.args.base.now) c.args.own.now.items c.in-Some.ensures.ascending c.args.range.now last i (sym c.in-Some.ensures.found) (overlaid g.R.Shown.ShownRow.keyed c.in-Some-first_of.row) first
    ∙ c.loop-intention.invariant.2

pub loop-intention-smaller : goal.loop-intention-smaller
loop-intention-smaller g c =
    later-fewer (g.R.RowSource.state c.args.base.now) c.args.own.now.items c.in-Some.ensures.ascending c.args.range.now (option_copied c.loop-intention.last) c.in-Some.intention.now (sym c.in-Some.ensures.found)

pub loop-intention-preserved : goal.loop-intention-preserved
loop-intention-preserved g c =
    let last : Option (List Value) = option_copied c.loop-intention.last in
    let i : Intention = c.in-Some.intention.now in
    let deleted : first_of (next_in c.args.range.now last (g.R.RowSource.state c.args.base.now)) i ≡ None =
    ap (λ (s : State). first_of (next_in c.args.range.now last s) i) (sym c.loop-intention.invariant.0)
    ∙ ap (λ (r : Option KeyedRow). first_of r i) (sym c.in_ok-found.ensures.row) ∙ sym c.first_of.ensures ∙ ap (option_map (overlaid g.R.Shown.ShownRow.keyed)) c.in-None.is in (
      c.show.ensures.state ∙ c.loop-intention.invariant.0,
      λ file. omega (arith, c.loop-intention.invariant.1 file, c.show.ensures.counts file),
      next-behind (g.R.RowSource.state c.args.base.now) c.args.own.now.items c.in-Some.ensures.ascending c.args.range.now last i (sym c.in-Some.ensures.found) deleted
          ∙ c.loop-intention.invariant.2,
    )

pub returns-clause-row : goal.returns-clause-row
returns-clause-row g c =
    let last : Option (List Value) = option_copied c.loop-intention.last in
    c.of_base.ensures ∙ c.in_ok-show.ensures.row
    ∙ ap (next_in c.args.range.now last) c.loop-intention.invariant.0
    ∙ next-alone (g.R.RowSource.state c.args.base.now) c.args.own.now.items c.in_default.ensures.ascending c.args.range.now last (sym c.in_default.ensures.found)
    ∙ c.loop-intention.invariant.2

use Rattle.std.proofs.Common.{◌≡◌, Result, Ok, Err, refl, sym, ◌∙◌, ap, subst}
use Rattle.std.specs.Prelude.{IfSome, option_map}
use Rattle.std.proofs.lemmas.Result.{err_from_is_err_and}
use Rattle.odb_device.specs.World.{file_of}
use Rattle.odb_device.specs.Images.{kept}
use Rattle.odb_transdb.specs.declared.error.TransdbError.{TransdbError}
use Rattle.odb_transdb.specs.declared.opening.OpenedTransdb.{OpenedTransdb}
use Rattle.odb_transdb.specs.declared.error.TransdbError.TheVariants.{Damaged, Fault}
use Rattle.odb_transdb.specs.Header.{header_of}
use Rattle.odb_transdb.specs.Opened.{Opened, holding, opened}
use Rattle.odb_transdb.specs.Answers.{IsFullAnswer, IsReadRefusal}
use Rattle.odb_transdb.proofs.Headers.{IsRead, header_takes}
use Rattle.odb_transdb.proofs.Pairs.{pair_run, open_run, open_gates, gates_kept, is_kept, found_kept, pair_refused, header_refused}
use Rattle.odb_transdb.proofs.Leaving.{refused_left, behind_kept}
use Rattle.odb_transdb.proofs.Gates.{gates_still, gates_synced}
use Rattle.odb_transdb.proofs.transdb.Transdb.open_with_entries.Given.{Over}
use Rattle.odb_transdb.proofs.transdb.Transdb.open_with_entries.Goals as goal
use Rattle.odb_transdb.proofs.transdb.Transdb.open_with_entries.Goals.{In_ok-pair, In-Some}

abbrev Holding : OpenedTransdb → Opened → Type 0
Holding found what = what ≡ holding found.transdb.header found.entries

pub returns-in_err-pair-clause-answer : goal.returns-in_err-pair-clause-answer
returns-in_err-pair-clause-answer g c =
    let o = file_of 0 (g.S.Outside.world c.args.store.now) in
    let e = c.in_err-pair.field-0.0 in
    let p = err_from_is_err_and c.from_residual.result c.from_residual.ensures.1 in
    subst (λ (r : Result OpenedTransdb TransdbError). IfSome o (λ f. IsFullAnswer r (opened f.bytes))) (sym (p.1 ∙ ap Err p.2)) (pair_refused Holding o e c.in_err-pair.ensures.found)

-- the pair was found, so all is on the disk
on_disk : (g : Over) (c : In_ok-pair g) → file_of 0 (g.S.Outside.world c.open_pair.new.store) ≡ option_map kept (file_of 0 (g.S.Outside.world c.args.store.now))
on_disk g c = c.in_ok-pair.ensures.kept (λ (e : Ok c.in_ok-pair.pair ≡ Err Fault). absurd (cc e))

-- and keeps this header
read : (g : Over) (c : In-Some g) → IsRead c.in-Some.header c.in_ok-pair.pair.value
read g c = header_takes c.in_ok-pair.pair.value c.in-Some.header (ap header_of (sym c.value.ensures.value) ∙ sym c.from_bytes.ensures ∙ c.in-Some.is)

pub open_sides-requires : goal.open_sides-requires
open_sides-requires g c =
    let at = goal.at.open_sides-requires g c in
    let is = read g at.In-Some in
    let disk = on_disk g at.In_ok-pair in
    let o = file_of 0 (g.S.Outside.world c.args.store.now) in
    let now = file_of 0 (g.S.Outside.world c.open_pair.new.store) in
    record {
      found = record {
        lawful = is.lawful;
        value = is.image;
        file = c.in_ok-pair.ensures.pair.0;
        settled = c.in_ok-pair.ensures.pair.1;
        tried = c.in_ok-pair.ensures.tried;
        kept = is_kept o now disk;
        stands = c.in_ok-pair.ensures.stands;
        found = found_kept c.in_ok-pair.pair.value o now disk c.in_ok-pair.ensures.found;
      };
    }

pub returns-in-None-clause-answer : goal.returns-in-None-clause-answer
returns-in-None-clause-answer g c =
    header_refused (file_of 0 (g.S.Outside.world c.args.store.now)) c.in_ok-pair.pair.value c.in_ok-pair.ensures.found (ap header_of (sym c.value.ensures.value) ∙ sym c.from_bytes.ensures ∙ c.in-None.is)

pub returns-in_err-pair-clause-leaves : goal.returns-in_err-pair-clause-leaves
returns-in_err-pair-clause-leaves g c =
    let w = g.S.Outside.world c.args.store.now in
    let mid = g.S.Outside.world c.open_pair.new.store in
    let run = c.open_pair.ensures.run in
    let p = err_from_is_err_and c.from_residual.result c.from_residual.ensures.1 in
    refused_left c.from_residual.result c.in_err-pair.field-0.0 w mid (p.1 ∙ ap Err p.2) (pair_run w mid run) (gates_still w mid run)
    (λ other. gates_kept (file_of 0 w) (file_of 0 mid) (c.open_pair.ensures.kept (λ same. other (cc (c.in_err-pair.was, same))))) (λ none. c.open_pair.ensures.kept (λ same. absurd (cc (c.in_err-pair.was, same, none))))

pub returns-in-Some-clause-leaves : goal.returns-in-Some-clause-leaves
returns-in-Some-clause-leaves g c =
    let w = g.S.Outside.world c.args.store.now in
    let mid = g.S.Outside.world c.open_pair.new.store in
    let now = g.S.Outside.world c.open_sides.new.store in
    let reads = g.met.S.Store.reads_image c.args.store.now 0 in
    let disk = on_disk g (goal.at.returns-in-Some-clause-leaves g c).In_ok-pair in
    let left = c.open_sides.ensures.leaves in
    record {
      run = open_run w mid now reads c.open_pair.ensures.run disk left.run;
      gates = gates_synced w mid now reads c.open_pair.ensures.run disk left.gates;
      closed = λ other. open_gates (file_of 0 w) (file_of 0 mid) (file_of 0 now) disk (left.closed other);
      nothing = λ none. absurd (subst (λ (r : Result OpenedTransdb TransdbError). IsReadRefusal r) none c.open_sides.ensures.fails.0);
      entries = behind_kept c.open_sides.result w mid now disk left.entries;
    }

pub returns-in-None-clause-leaves : goal.returns-in-None-clause-leaves
returns-in-None-clause-leaves g c =
    let w = g.S.Outside.world c.args.store.now in
    let mid = g.S.Outside.world c.open_pair.new.store in
    let run = c.open_pair.ensures.run in
    let disk = on_disk g (goal.at.returns-in-None-clause-leaves g c).In_ok-pair in
    refused_left _ (Damaged 0) w mid refl (pair_run w mid run) (gates_still w mid run) (λ other. gates_kept (file_of 0 w) (file_of 0 mid) disk) (λ none. absurd (cc none))

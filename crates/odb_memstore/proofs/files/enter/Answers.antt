use Rattle.std.proofs.Common.{◌≡◌, ◌≤◌, ◌∙◌, [], ◌∷◌, List, length, sym, ap, arith, length-append}
use Rattle.odb_memstore.specs.declared.files.Held.{Held}
use Rattle.odb_memstore.specs.Layout.{contents, held_length, place_of, start_of, length_of}
use Rattle.odb_memstore.proofs.Laid.{entered, place_within, place-entered, start-entered, length_of-entered, held_length-entered, contents-entered, contents-present, length_past}
use Rattle.odb_memstore.proofs.files.enter.Goals as goal

pub returns-then-spot-len : goal.returns-then-spot-len
returns-then-spot-len c =
    let held = c.args.held.now.items in
    let file = c.args.file in
    let place : c.spot_of-spot.result.place ≡ place_of held file = c.spot_of-spot.ensures.place ∙ ap (λ (l : List Held). place_of l file) c.deref.ensures.value in
    let start : c.spot_of-spot.result.start ≡ start_of held file = c.spot_of-spot.ensures.start ∙ ap (λ (l : List Held). start_of l file) c.deref.ensures.value in
    let len : c.spot_of-spot.result.len ≡ length_of held file = c.spot_of-spot.ensures.len ∙ ap (λ (l : List Held). length_of l file) c.deref.ensures.value in
    let past : length held ≤ place_of held file = omega (arith, place, c.args.held.now.ok.0) in
    let new : c.push_reserved.new.self.items ≡ entered held file = c.push_reserved.ensures.items in
    record {
      within = omega (arith, ap length new, length-append held (record { file = file; len = 0 } ∷ []), place, place_within held file);
      place = place ∙ sym (place-entered held file past) ∙ ap (λ (l : List Held). place_of l file) (sym new);
      start = start ∙ sym (start-entered held file past) ∙ ap (λ (l : List Held). start_of l file) (sym new);
      len = len ∙ length_past held file past ∙ sym (length_of-entered held file past) ∙ ap (λ (l : List Held). length_of l file) (sym new);
      end = omega (arith, c.spot_of-spot.ensures.within, ap held_length c.deref.ensures.value);
      files = λ bytes le. ap (λ (l : List Held). contents l bytes) new ∙ contents-entered held bytes file past;
      size = ap held_length new ∙ held_length-entered held file;
      capacity = c.push_reserved.ensures.capacity;
    }

pub returns-else-spot-len-clause-files : goal.returns-else-spot-len-clause-files
returns-else-spot-len-clause-files c =
    let place : c.spot_of-spot.result.place ≡ place_of c.args.held.now.items c.args.file = c.spot_of-spot.ensures.place ∙ ap (λ (l : List Held). place_of l c.args.file) c.deref.ensures.value in
    λ bytes le. contents-present c.args.held.now.items bytes c.args.file (omega (arith, place, c.args.held.now.ok.0))

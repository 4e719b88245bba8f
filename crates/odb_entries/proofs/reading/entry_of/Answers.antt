use Rattle.std.proofs.Common.{◌≡◌, ◌-◌, length, refl, sym, ◌∙◌, ap, arith, Ok, Err, ℕ}
use Rattle.odb_codec.specs.Image.{entry_image}
use Rattle.odb_codec.specs.Reading.{read_entry}
use Rattle.odb_codec.proofs.Entries.{entry_again}
use Rattle.odb_codec.proofs.Lengths.{length-entry_image}
use Rattle.odb_entries.proofs.reading.entry_of.Goals as goal

pub returns-in-Ok : goal.returns-in-Ok
returns-in-Ok c =
    let e = c.in-Ok.entry in
    let payload = c.args.payload.now in
    let number = c.args.number in
    let found = c.in-Ok.ensures.found in
    let image : payload ≡ entry_image e = sym c.as_slice.ensures ∙ found.2 in (
      ap (read_entry number) image ∙ entry_again number e found.1 ∙ ap (λ (n : ℕ). Ok (record e { number = n })) (sym found.0),
      found.0,
      omega (arith, length-entry_image e, ap (length {A = ℕ}) image),
    )

pub returns-in-Err-Malformed : goal.returns-in-Err-Malformed
returns-in-Err-Malformed c =
    let at = c.in-Err-Malformed.field-0-0 in
    let now = c.as_slice.result.now in
    let fault = c.decode_entry.ensures.malformed at (c.in-Err-Malformed.is ∙ ap Err c.in-Err-Malformed.field-0-is) in
    (refl, (length now - at, ap (read_entry c.args.number) (sym c.as_slice.ensures) ∙ fault.fault))

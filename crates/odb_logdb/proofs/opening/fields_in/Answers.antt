use Rattle.std.proofs.Common.{◌≡◌, ℕ, Bool, true, false, Some, None, sym, ◌∙◌, ap}
use Rattle.std.specs.Prelude.{if◌then◌else◌}
use Rattle.odb_extent.specs.Standing.{limit_of, fields_of}
use Rattle.odb_logdb.specs.Fields.{is_lawful, fields_in, lawful}
use Rattle.odb_logdb.proofs.opening.fields_in.Goals as goal

pub returns-then-is_lawful : goal.returns-then-is_lawful
returns-then-is_lawful c =
    let e = c.args.extents.now in
    let f = c.in_ok-fields.fields in
    let read : fields_in (fields_of e) ≡ Some f = ap fields_in (sym c.fields.ensures) ∙ sym c.from_bytes.ensures ∙ c.in_ok-fields.was in
    let passes : is_lawful (limit_of e) f ≡ true = ap (λ (n : ℕ). is_lawful n f) (sym c.limit.ensures.value) ∙ sym c.is_lawful.ensures ∙ c.if-is_lawful.true in
    sym (ap (lawful (limit_of e)) read ∙ ap (λ (b : Bool). if b then Some f else None) passes)

pub returns-else-is_lawful : goal.returns-else-is_lawful
returns-else-is_lawful c =
    let e = c.args.extents.now in
    let f = c.in_ok-fields.fields in
    let read : fields_in (fields_of e) ≡ Some f = ap fields_in (sym c.fields.ensures) ∙ sym c.from_bytes.ensures ∙ c.in_ok-fields.was in
    let fails : is_lawful (limit_of e) f ≡ false = ap (λ (n : ℕ). is_lawful n f) (sym c.limit.ensures.value) ∙ sym c.is_lawful.ensures ∙ c.if-is_lawful.false in
    sym (ap (lawful (limit_of e)) read ∙ ap (λ (b : Bool). if b then Some f else None) fails)

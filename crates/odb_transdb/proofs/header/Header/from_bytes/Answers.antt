use Rattle.std.proofs.Common.{◌≡◌, ℕ, List, refl, sym, ◌∙◌, ap, arith}
use Rattle.std.specs.Prelude.{◌==◌, slice_index}
use Rattle.std.specs.Int.{w16, w64, from_be_bytes}
use Rattle.byteorder.specs.Endian.{big_number}
use Rattle.odb_device.specs.Images.{part}
use Rattle.std.specs.Cmp.Lexicographic.{pointwise}
use Rattle.odb_transdb.specs.declared.header.Header.{Header}
use Rattle.odb_transdb.specs.Header.{header_of, with_state}
use Rattle.odb_transdb.proofs.Headers.{AreFields, found_some, found_unlawful, found_other}
use Rattle.odb_transdb.proofs.header.Header.from_bytes.Goals as goal
use Rattle.odb_transdb.proofs.header.Header.from_bytes.Goals.{After-is_lawful, else-is_lawful-via-then-is_lawful+else-eq, else-is_lawful-via-else-is_lawful}

pub returns-in_err-state_of : goal.returns-in_err-state_of
unfolding header_of
returns-in_err-state_of c =
    let none = sym c.state_of.ensures ∙ c.in_err-state_of.was in
    c.from_residual.ensures ∙ sym (ap (with_state c.args.bytes.now) none)

two_bytes : (bytes : List ℕ) → big_number 2 bytes ≡ from_be_bytes w16 bytes
two_bytes bytes = omega arith

eight_bytes : (bytes : List ℕ) → big_number 8 bytes ≡ from_be_bytes w64 bytes
eight_bytes bytes = omega arith

abbrev made : After-is_lawful → Header
made c = record {
  format = c.read_u16.result;
  side_kib = c.read_u16-2.result;
  active = slice_index c.args.bytes.now 4;
  other = c.in_ok-state_of.field-0;
  first0 = c.read_u64.result;
  first1 = c.read_u64-2.result;
}

are : (c : After-is_lawful) → AreFields c.args.bytes.now (made c)
are c = record {
  format = c.read_u16.ensures ∙ two_bytes (part 0 2 c.args.bytes.now);
  side = c.read_u16-2.ensures ∙ two_bytes (part 2 2 c.args.bytes.now);
  active = refl;
  state = sym c.state_of.ensures ∙ c.in_ok-state_of.was;
  first0 = c.read_u64.ensures ∙ eight_bytes (part 6 8 c.args.bytes.now);
  first1 = c.read_u64-2.ensures ∙ eight_bytes (part 14 8 c.args.bytes.now);
}

pub returns-then-eq : goal.returns-then-eq
returns-then-eq c =
    let a = (goal.at.returns-then-eq c).After-is_lawful in
    sym (found_some c.args.bytes.now (made a) (are a) (sym c.is_lawful.ensures ∙ c.if-is_lawful.true)
    (ap (λ (image : List ℕ). pointwise ◌==◌ image c.args.bytes.now) (sym c.image.ensures) ∙ sym c.eq.ensures ∙ c.if-eq.true))

pub returns-else-is_lawful : goal.returns-else-is_lawful
returns-else-is_lawful c =
    let a = (goal.at.returns-else-is_lawful c).After-is_lawful in
    elim c.else-is_lawful.branch [
      | else-is_lawful-via-then-is_lawful+else-eq w ↦
          sym (found_other c.args.bytes.now (made a) (are a) (sym c.is_lawful.ensures ∙ w.if-is_lawful.true)
          (ap (λ (image : List ℕ). pointwise ◌==◌ image c.args.bytes.now) (sym w.image.ensures) ∙ sym w.eq.ensures ∙ w.if-eq.false))
      | else-is_lawful-via-else-is_lawful w ↦ sym (found_unlawful c.args.bytes.now (made a) (are a) (sym c.is_lawful.ensures ∙ w.if-is_lawful.false))
    ]

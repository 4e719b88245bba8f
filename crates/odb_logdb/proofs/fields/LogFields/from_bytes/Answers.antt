use Rattle.std.proofs.Common.{List, ℕ, sym, ◌∙◌, ap}
use Rattle.std.specs.Prelude.{◌==◌, slice_index_or}
use Rattle.std.specs.Cmp.Lexicographic.{pointwise}
use Rattle.odb_logdb.specs.declared.fields.LogFields.{LogFields}
use Rattle.odb_logdb.proofs.HeadFields.{AreFields, state_at, found_some, found_none}
use Rattle.odb_logdb.proofs.fields.LogFields.from_bytes.Goals as goal

pub returns-then-eq : goal.returns-then-eq
returns-then-eq c =
    let f : LogFields = record { format = c.read_u16.result; state = slice_index_or c.args.bytes.now 2 0; first = c.read_u64.result; start = c.read_u64-2.result } in
    let are : AreFields c.args.bytes.now f = record { format = c.read_u16.ensures; state = state_at c.args.bytes.now; first = c.read_u64.ensures; start = c.read_u64-2.ensures } in
    sym (found_some c.args.bytes.now f are (ap (λ (image : List ℕ). pointwise ◌==◌ image c.args.bytes.now) (sym c.image.ensures) ∙ sym c.eq.ensures ∙ c.if-eq.true))

pub returns-else-eq : goal.returns-else-eq
returns-else-eq c =
    let f : LogFields = record { format = c.read_u16.result; state = slice_index_or c.args.bytes.now 2 0; first = c.read_u64.result; start = c.read_u64-2.result } in
    let are : AreFields c.args.bytes.now f = record { format = c.read_u16.ensures; state = state_at c.args.bytes.now; first = c.read_u64.ensures; start = c.read_u64-2.ensures } in
    sym (found_none c.args.bytes.now f are (ap (λ (image : List ℕ). pointwise ◌==◌ image c.args.bytes.now) (sym c.image.ensures) ∙ sym c.eq.ensures ∙ c.if-eq.false))

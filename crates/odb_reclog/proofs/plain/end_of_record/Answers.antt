use Rattle.std.proofs.Common.{◌+◌, ◌-◌, Some, None, ◌∙◌, ap, arith}
use Rattle.std.specs.Prelude.{if◌then◌else◌}
use Rattle.odb_reclog.specs.Reading.{is_record_head}
use Rattle.odb_reclog.specs.declared.head.Head.{Head}
use Rattle.odb_reclog.proofs.Heads.{head_of_part}
use Rattle.odb_reclog.proofs.plain.end_of_record.Goals as goal

pub returns-clause-next : goal.returns-clause-next
returns-clause-next c =
    let place = c.args.place in
    c.end_of_record.ensures.end
    ∙ ap (λ (h : Head). if is_record_head c.args.end c.args.number place h then Some (place + 13 + h.size) else None)
    (head_of_part place (place + 13 - place) c.args.bytes.now c.from_bytes.result (omega arith) c.from_bytes.ensures)

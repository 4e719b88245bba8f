use Rattle.std.proofs.Common.{◌*◌, refl}
use Rattle.odb_slots.specs.Views.{view_by}
use Rattle.odb_bank.specs.Spelled.{record_of_slot}
use Rattle.odb_bank.proofs.Lasting.{standing_in_order}
use Rattle.odb_open.specs.Files.{reading_of_view}
use Rattle.odb_open.proofs.ReadingFiles.{in_order, damaged}
use Rattle.odb_open.proofs.ReadingRows.{rows_are}
use Rattle.odb_open.proofs.laws.reads_as_opened.Goals as goal

pub returns-clause-order : goal.returns-clause-order
returns-clause-order c = λ asked limit mark bytes format low small order. in_order asked format low small bytes limit mark order

pub returns-clause-damage : goal.returns-clause-damage
returns-clause-damage c = λ asked at bytes format low small damage. damaged asked format low small bytes at damage

pub returns-clause-rows : goal.returns-clause-rows
returns-clause-rows c = λ mark slots view key. rows_are slots view key

pub returns-clause-standing : goal.returns-clause-standing
returns-clause-standing c = λ asked h mark bytes format low small more at.
    let order = standing_in_order h asked.bank mark asked.number bytes more at in
    (reading_of_view mark (1024 * order.0) (view_by record_of_slot (1024 * order.0) bytes), in_order asked format low small bytes order.0 mark order.1, refl)

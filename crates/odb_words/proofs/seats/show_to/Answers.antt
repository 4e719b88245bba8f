use Rattle.std.proofs.Common.{sym, ap, subst}
use mathlib.Core.List.{IsPrefix}
use Rattle.odb_words.specs.declared.view.SeatView.{SeatView}
use Rattle.odb_words.specs.Rule.{Fits}
use Rattle.odb_words.specs.Views.{is_view}
use Rattle.odb_words.specs.Moves.{heard}
use Rattle.odb_words.proofs.Moves.{plain_pen, plain_right, all_whole, all_still}
use Rattle.odb_words.proofs.seats.show_to.Goals as goal

pub hear-requires-clause-pen : goal.hear-requires-clause-pen
hear-requires-clause-pen c = plain_pen c.args.place.now.me.0.pen c.args.note.place.me.0.pen c.args.note.is_note.pen

pub hear-requires-clause-right : goal.hear-requires-clause-right
hear-requires-clause-right c = λ t. plain_right t c.args.place.now.me.0.right c.args.note.place.me.0.right c.args.note.is_note.right

pub returns-clause-shown : goal.returns-clause-shown
returns-clause-shown c =
    let v : SeatView = c.args.place.now.me.0 in
    let w : SeatView = c.args.note.place.me.0 in
    let is = ap (λ m. m.0) c.hear.ensures.after in
    let k = c.look.ensures.knows in
    let f : Fits k.0 k.1 (heard v w) = subst (Fits k.0 k.1) is k.2 in
    let all = all_whole k.0 k.1 (heard v w) f (all_still (is_view v.kind) v.pen w.pen c.requires.all) in
    subst (IsPrefix w.list) (sym all) f.shown

use Rattle.std.proofs.Common.{◌+◌, [], ◌∙◌, sym, ap, subst}
use mathlib.Core.List.{IsPrefix}
use Rattle.atomic_table.specs.Table.{Me}
use Rattle.odb_model.specs.declared.entry.Entry.{Entry}
use Rattle.odb_model.specs.State.{IsNumberedFrom}
use Rattle.odb_words.specs.declared.view.SeatView.{SeatView}
use Rattle.odb_words.specs.Rule.{Fits}
use Rattle.odb_words.specs.Moves.{met, settled}
use Rattle.odb_words.proofs.Lists.{both_begin, numbered_prefix}
use Rattle.odb_words.proofs.Moves.{plain_pen, plain_right}
use Rattle.odb_words.proofs.seats.meet_with.Goals as goal

pub take_in-requires-clause-pen : goal.take_in-requires-clause-pen
take_in-requires-clause-pen c = plain_pen c.args.place.now.me.0.pen c.args.note.place.me.0.pen c.args.note.is_note.pen

pub take_in-requires-clause-right : goal.take_in-requires-clause-right
take_in-requires-clause-right c = λ t. plain_right t c.args.place.now.me.0.right c.args.note.place.me.0.right c.args.note.is_note.right

pub returns-clause-own : goal.returns-clause-own
returns-clause-own c =
    let is = ap (λ m. m.0) c.take_in.ensures.after in
    let k = c.look.ensures.knows in
    let f = subst (Fits k.0 k.1) is k.2 in
    let after = ap (λ m. m.0.list) c.look.ensures.after ∙ ap (λ v. v.list) is in
    subst (IsPrefix c.args.place.now.me.0.list) (sym after) (both_begin k.0 _ _ f.begins f.shown).0

pub returns-clause-theirs : goal.returns-clause-theirs
returns-clause-theirs c =
    let is = ap (λ m. m.0) c.take_in.ensures.after in
    let k = c.look.ensures.knows in
    let f = subst (Fits k.0 k.1) is k.2 in
    let after = ap (λ m. m.0.list) c.look.ensures.after ∙ ap (λ v. v.list) is in
    subst (IsPrefix c.args.note.place.me.0.list) (sym after) (both_begin k.0 _ _ f.begins f.shown).1

pub returns-clause-numbered : goal.returns-clause-numbered
returns-clause-numbered c =
    let v : SeatView = met c.args.place.now.me.0 c.args.note.place.me.0 in
    let is = ap (λ m. m.0) c.take_in.ensures.after in
    let k = c.look.ensures.knows in
    let f : Fits k.0 k.1 v = subst (Fits k.0 k.1) is k.2 in
    let told : IsNumberedFrom (v.number + 1) k.0 = subst (λ (u : SeatView). IsNumberedFrom (u.number + 1) k.0) is k.4 in
    let mine : IsNumberedFrom (v.number + 1) v.list = numbered_prefix (v.number + 1) v.list k.0 f.begins told in
    let after = c.look.ensures.after ∙ ap (λ (u : SeatView). (settled u, [])) is in
    subst (λ (m : Me Entry SeatView). IsNumberedFrom (m.0.number + 1) m.0.list) (sym after) mine

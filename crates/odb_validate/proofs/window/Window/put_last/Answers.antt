use Rattle.std.proofs.Common.{◌+◌, List, [], ◌∷◌, ◌++◌, length, ap, arith}
use Rattle.odb_model.specs.declared.entry.Entry.{Entry}
use Rattle.odb_model.specs.Window.{write_count}
use Rattle.odb_validate.specs.Window.{Windowed, last_number, IsKept}
use Rattle.odb_validate.proofs.Kept.{IsKept-push}
use Rattle.odb_validate.proofs.window.Window.put_last.Goals as goal

pub invariant_of-self : goal.invariant_of-self
invariant_of-self c =
    let e : Entry = c.args.entry in
    let items : List Entry = c.self.inside.entries.items in
    let last = ap last_number c.self.view_is in
    let count = ap (λ (w : Windowed). write_count w.entries) c.self.view_is in
    let kept : IsKept c.self.inside.start e.number (items ++ e ∷ []) (c.self.inside.writes + length e.writes) =
    IsKept-push c.self.inside.start c.self.inside.last items c.self.inside.writes e c.self.invariant.0
    (omega (arith, last, c.requires.next)) (omega (arith, count, c.requires.room)) in
    (rw (c.push_back_reserved.ensures.items, c.len.ensures) kept, tt)

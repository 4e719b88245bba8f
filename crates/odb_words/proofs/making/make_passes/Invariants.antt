use Rattle.std.proofs.Common.{◌≡◌, ◌+◌, [], length, map}
use Rattle.std.specs.Prelude.{replicate, Some}
use Rattle.odb_words.specs.Seats.{IsSeat, IsMaking, name_of}
use Rattle.odb_words.specs.Passes.{SitFrom, list_in}
use Rattle.odb_words.proofs.making.make_passes.Given as goal

abbrev pub invariant-loop-session : goal.invariant-loop-session
invariant-loop-session l =
    IsSeat l.words.value.shared.table_id l.book
    × IsMaking (l.session + 18) l.book.me.0
    × (name_of l.book ≡ name_of l.fn.book)
    × (length l.passes.items + 1 ≡ l.session)
    × SitFrom (name_of l.fn.book) 1 l.passes.items
    × (map list_in l.passes.items ≡ replicate (length l.passes.items) (Some []))

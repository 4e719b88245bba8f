use Rattle.std.proofs.Common.{◌≡◌, ◌+◌, [], length, All}
use Rattle.odb_words.specs.Seats.{IsSeat, IsMaking, name_of, list_of}
use Rattle.odb_words.proofs.making.make_copies.Given as goal

abbrev pub invariant-loop-number : goal.invariant-loop-number
invariant-loop-number l =
    IsSeat l.words.value.shared.table_id l.book
    × IsMaking (l.number + 2) l.book.me.0
    × (name_of l.book ≡ name_of l.fn.book)
    × (length l.places.items ≡ l.number)
    × All (λ x. (name_of x.place ≡ name_of l.fn.book) × (list_of x.place ≡ [])) l.places.items

use Rattle.std.proofs.Common.{◌≡◌, ◌≤◌, length, sym, subst, arith}
use Rattle.odb_machine.specs.Book.{most_entries}
use Rattle.odb_machine.specs.Machine.{first_machine}
use Rattle.odb_model.specs.State.{replay}
use Rattle.odb_commit.specs.Parts.{Parts}
use Rattle.odb_commit.specs.Standing.{sides_of}
use Rattle.odb_system.specs.Held.{IsHeld, StandsFor, without_place}
use Rattle.odb_system.proofs.Holding.{first_book, book_first, held_first, rows_first, rows_keyed, none_waits}
use Rattle.odb_system.proofs.Simulates.{stands_first}
use Rattle.odb_system.proofs.system.System.start.Goals as goal

pub invariant_of-result : goal.invariant_of-result
invariant_of-result c =
    let h = c.args.entries in
    let db = c.args.transdb in
    let rows = c.in_ok-rows.rows in
    let few : length h ≤ most_entries = omega (arith, c.len-count.ensures, c.if-count-gt-MOST_ENTRIES.false) in
    let book : without_place c.new.result ≡ first_book (length h) db = book_first h db c.last.result c.new-window.result c.new.result c.requires.begins c.last.ensures c.new-window.ensures c.new.ensures in (
      subst (λ (b : Parts). IsHeld (record { book = b; sessions = c.in_ok-sessions.sessions.items; rows = rows.state })) (sym book)
          (held_first h c.in_ok-sessions.sessions.items db rows.state c.requires.begins few (rows_keyed h rows c.in_ok-rows.ensures.keyed c.in_ok-rows.ensures.rows) c.in_ok-sessions.ensures),
      none_waits h rows c.new.result c.in_ok-rows.ensures.rows,
    )

pub returns-clause-stands : goal.returns-clause-stands
returns-clause-stands c =
    let h = c.args.entries in
    let db = c.args.transdb in
    let rows = c.in_ok-rows.rows in
    let book : without_place c.new.result ≡ first_book (length h) db = book_first h db c.last.result c.new-window.result c.new.result c.requires.begins c.last.ensures c.new-window.ensures c.new.ensures in
    let are : rows.state ≡ replay h = rows_first h rows c.in_ok-rows.ensures.rows in
    subst (λ (b : Parts). StandsFor (record { book = b; sessions = c.in_ok-sessions.sessions.items; rows = rows.state }) (first_machine db.header.format (sides_of db.header) h)) (sym book)
    (stands_first h c.in_ok-sessions.sessions.items db rows.state c.requires.begins c.requires.settled are c.in_ok-sessions.ensures)

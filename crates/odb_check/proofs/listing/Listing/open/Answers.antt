use Rattle.std.proofs.Common.{◌∙◌, ap, length, string_bytes}
use Rattle.odb_model.specs.State.{State, rows_of}
use Rattle.odb_check.specs.Tables.{named}
use Rattle.odb_check.specs.Told.{capped}
use Rattle.odb_check.proofs.Listings.{opens_rows, opens_alone}
use Rattle.odb_check.proofs.listing.Listing.open.Goals as goal
use Rattle.odb_check.proofs.listing.Listing.open.Goals.{then-self+in-Some+in-Some-self-2, then-self+in-Some+in-None-1, then-self+in-None-1, else-self}

pub returns-clause-told : goal.returns-clause-told
returns-clause-told g c =
    let s : State = g.R.RowSource.state c.args.rows.now in
    let t = named c.args.name.now c.args.table in
    let counted = c.in_ok-count.ensures.count ∙ ap (λ n. capped (length (rows_of n s))) c.number.ensures in
    elim c.if-self.branch [
      | then-self+in-Some+in-Some-self-2 w ↦ opens_rows s t c.args.self.now c.if-self.self c.in_ok-count.count (string_bytes c.in_ok-line.line) w.if-self.true w.self-is counted c.in_ok-line.ensures
      | then-self+in-Some+in-None-1 w ↦ opens_rows s t c.args.self.now c.if-self.self c.in_ok-count.count (string_bytes c.in_ok-line.line) w.if-self.true w.self-is counted c.in_ok-line.ensures
      | then-self+in-None-1 w ↦ opens_rows s t c.args.self.now c.if-self.self c.in_ok-count.count (string_bytes c.in_ok-line.line) w.if-self.true w.self-is counted c.in_ok-line.ensures
      | else-self w ↦ opens_alone s t c.args.self.now c.if-self.self c.in_ok-count.count (string_bytes c.in_ok-line.line) w.if-self.false c.requires w.self-is counted c.in_ok-line.ensures
    ]

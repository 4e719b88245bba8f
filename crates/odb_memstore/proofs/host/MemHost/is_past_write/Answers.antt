use Rattle.std.proofs.Common.{◌≡◌, ℕ, ◌+◌, ◌∙◌, true, false, Bool, length, sym, ap, arith}
use Rattle.std.specs.Prelude.{◌||◌, nat_lt}
use Rattle.std.proofs.lemmas.Bool.{lt-ltb, le-ltb}
use Rattle.odb_memstore.specs.Host.{tape_of}
use Rattle.odb_memstore.specs.Recording.{is_full}
use Rattle.odb_memstore.specs.Calls.{is_past_write, total_with}
use Rattle.odb_memstore.proofs.Standings.{total_with_is}
use Rattle.odb_memstore.proofs.host.MemHost.is_past_write.Goals as goal
use Rattle.odb_memstore.proofs.host.MemHost.is_past_write.Goals.{After-total}

-- the lengths of all files after the write
total : (c : After-total) → total_with (tape_of c.self.inside) c.args.file (c.args.at + c.args.len) ≡ c.total.result + c.saturating_sub-more.result
total c =
    let h = c.self.inside in
    total_with_is (tape_of h) h.current.files c.args.file (c.args.at + c.args.len) (omega (arith, c.ranges.file.fits)) c.self.invariant.bytes
    ∙ omega (arith, c.total.ensures.total, c.saturating_sub-more.ensures, ap length c.bytes.ensures)

-- a place is left
left : (c : After-total) → is_full c.self.inside.recorder ≡ false
left c = sym c.is_full.ensures ∙ c.if-is_full.false

pub returns-then-total-more : goal.returns-then-total-more
returns-then-total-more c =
    let k = (goal.at.returns-then-total-more c).After-total in
    let h = c.self.inside in
    let n = h.pieces.items in
    let past : nat_lt h.room (total_with (tape_of h) c.args.file (c.args.at + c.args.len)) ≡ true = lt-ltb _ _ (omega (arith, total k, c.if-total-more.true)) in
    sym (ap (λ (b : Bool). b || nat_lt h.room (total_with (tape_of h) c.args.file (c.args.at + c.args.len)) || nat_lt h.room (length n + c.args.len)) (left k)
    ∙ ap (λ (b : Bool). b || nat_lt h.room (length n + c.args.len)) past)
    ∙ ap (is_past_write c.args.file c.args.at c.args.len) c.self.view_is

pub returns : goal.returns
returns c =
    let k = (goal.at.returns c).After-total in
    let h = c.self.inside in
    let n = h.pieces.items in
    let within : nat_lt h.room (total_with (tape_of h) c.args.file (c.args.at + c.args.len)) ≡ false = le-ltb _ _ (omega (arith, total k, c.if-total-more.false)) in
    ap (λ (m : ℕ). nat_lt h.room (m + c.args.len)) (c.len.ensures ∙ h.pieces.ok.0)
    ∙ sym (ap (λ (b : Bool). b || nat_lt h.room (total_with (tape_of h) c.args.file (c.args.at + c.args.len)) || nat_lt h.room (length n + c.args.len)) (left k)
    ∙ ap (λ (b : Bool). b || nat_lt h.room (length n + c.args.len)) within)
    ∙ ap (is_past_write c.args.file c.args.at c.args.len) c.self.view_is

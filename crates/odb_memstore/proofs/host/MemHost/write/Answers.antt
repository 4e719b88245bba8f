use Rattle.std.proofs.Common.{◌≡◌, ℕ, ◌+◌, ◌≤◌, ◌∙◌, ◌++◌, true, false, Bool, List, length, sym, ap, subst, arith}
use Rattle.std.specs.Prelude.{◌||◌, nat_lt, vec_capacity}
use Rattle.std.proofs.lemmas.Bool.{or_parts, ltb-false, not-true, not-false}
use Rattle.odb_memstore.specs.declared.recorder.Call.TheVariants.{Write}
use Rattle.odb_memstore.specs.Host.{tape_of}
use Rattle.odb_memstore.specs.Tape.{Tape}
use Rattle.odb_memstore.specs.Recording.{Recording, is_full, is_listed, fails, asked, noted}
use Rattle.odb_memstore.specs.Calls.{is_past_write, total_with}
use Rattle.odb_memstore.specs.Standing.{Stands}
use Rattle.odb_memstore.proofs.Standings.{total_with_is, asked_noted, stands_failed, stands_past, stands_written}
use Rattle.odb_memstore.proofs.host.MemHost.write.Goals as goal
use Rattle.odb_memstore.proofs.host.MemHost.write.Goals.{After-ask}

-- a place and room are left
within : (c : After-ask) → ((is_full c.self.inside.recorder || nat_lt c.self.inside.room (total_with (tape_of c.self.inside) c.args.file (c.args.at + length c.args.bytes.now))) ≡ false)
    × (nat_lt c.self.inside.room (length c.self.inside.pieces.items + length c.args.bytes.now) ≡ false)
within c = or_parts _ _ (ap (is_past_write c.args.file c.args.at (length c.args.bytes.now)) c.self.view_is ∙ sym c.is_past_write.ensures ∙ c.if-is_past_write.false)

left : (c : After-ask) → is_full c.self.inside.recorder ≡ false
left c = (or_parts _ _ (within c).0).0

-- what the call makes of the record
next : (c : After-ask) → record (tape_of c.self.inside) { recording = c.ask.new.self; pieces = c.add.new.to.items }
    ≡ record (tape_of c.self.inside) { recording = noted (Write c.args.file c.args.at (length c.self.inside.pieces.items) (length c.args.bytes.now)) c.self.inside.recorder; pieces = c.self.inside.pieces.items ++ c.args.bytes.now }
next c =
    let tape = tape_of c.self.inside in
    let from : c.len-from.result ≡ length c.self.inside.pieces.items = omega (arith, c.len-from.ensures, c.self.inside.pieces.ok.0) in
    let r = c.ask.ensures.next ∙ ap (λ (n : ℕ). asked (Write c.args.file c.args.at n (length c.args.bytes.now)) c.self.inside.recorder) from
    ∙ asked_noted (Write c.args.file c.args.at (length c.self.inside.pieces.items) (length c.args.bytes.now)) c.self.inside.recorder (left c) in
    ap (λ (q : Recording). let t : Tape = record tape { recording = q; pieces = c.add.new.to.items } in t) r
    ∙ ap (λ (l : List ℕ). let t : Tape = record tape { recording = noted (Write c.args.file c.args.at (length c.self.inside.pieces.items) (length c.args.bytes.now)) c.self.inside.recorder; pieces = l } in t) c.add.ensures.bytes

pub invariant_of-self : goal.invariant_of-self
invariant_of-self c =
    let h = c.self.inside in
    subst (λ (r : Recording). Stands h.current (vec_capacity h.pieces) (vec_capacity h.said) (record (tape_of h) { recording = r })) (sym c.note_past_write.ensures)
    (stands_past h.current (vec_capacity h.pieces) (vec_capacity h.said) (tape_of h) c.self.invariant c.args.file)

pub invariant_of-self-then-not-ask : goal.invariant_of-self-then-not-ask
invariant_of-self-then-not-ask c =
    let k = (goal.at.invariant_of-self-then-not-ask c).After-ask in
    let h = c.self.inside in
    let listed : is_listed h.recorder ≡ true =
    ap (λ (b : Bool). b || is_listed h.recorder) (sym (left k)) ∙ not-false (fails h.recorder) (sym c.ask.ensures.goes_on ∙ c.if-not-ask.true) in
    subst (Stands h.current (vec_capacity c.add.new.to) (vec_capacity h.said)) (sym (next k))
    (stands_failed h.current (vec_capacity h.pieces) (vec_capacity h.said) (tape_of h) c.self.invariant c.args.file c.args.at c.args.bytes.now c.requires (left k) (vec_capacity c.add.new.to) c.add.ensures.capacity listed)

pub write-requires-clause-room : goal.write-requires-clause-room
write-requires-clause-room c =
    let k = (goal.at.write-requires-clause-room c).After-ask in
    let h = c.self.inside in
    let end = c.args.at + length c.args.bytes.now in
    let room : total_with (tape_of h) c.args.file end ≤ h.room = ltb-false h.room (total_with (tape_of h) c.args.file end) (or_parts (is_full h.recorder) (nat_lt h.room (total_with (tape_of h) c.args.file end)) (within k).0).1 in
    omega (arith, room, total_with_is (tape_of h) h.current.files c.args.file end (omega (arith, c.ranges.file.fits)) c.self.invariant.bytes, c.self.invariant.room)

pub invariant_of-self-2 : goal.invariant_of-self-2
invariant_of-self-2 c =
    let k = (goal.at.invariant_of-self-2 c).After-ask in
    let h = c.self.inside in
    let unlisted : is_listed h.recorder ≡ false =
    ap (λ (b : Bool). b || is_listed h.recorder) (sym (left k)) ∙ not-true (fails h.recorder) (sym c.ask.ensures.goes_on ∙ c.if-not-ask.false) in
    subst (Stands c.write.new.self (vec_capacity c.add.new.to) (vec_capacity h.said)) (sym (next k))
    (stands_written h.current (vec_capacity h.pieces) (vec_capacity h.said) (tape_of h) c.self.invariant c.args.file c.args.at c.args.bytes.now c.requires (left k) c.write.new.self (vec_capacity c.add.new.to) c.add.ensures.capacity unlisted
    c.write.ensures.files c.write.ensures.space.places c.write.ensures.space.room)

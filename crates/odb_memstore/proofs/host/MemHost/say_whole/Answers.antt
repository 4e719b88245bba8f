use Rattle.std.proofs.Common.{◌≡◌, ℕ, ◌∙◌, Bool, true, false, List, [], ◌++◌, length, sym, ap, subst, arith}
use Rattle.std.specs.Prelude.{if◌then◌else◌, ◌||◌, vec_capacity}
use Rattle.std.proofs.lemmas.Bool.{not-true, not-false}
use Rattle.std.proofs.lemmas.List.{append-nil}
use Rattle.odb_memstore.specs.declared.recorder.Call.TheVariants.{Say}
use Rattle.odb_memstore.specs.Host.{tape_of}
use Rattle.odb_memstore.specs.Tape.{Tape}
use Rattle.odb_memstore.specs.Recording.{Recording, is_full, is_listed, fails, noted}
use Rattle.odb_memstore.specs.Standing.{Stands}
use Rattle.odb_memstore.proofs.Standings.{asked_noted, stands_said}
use Rattle.odb_memstore.proofs.host.MemHost.say_whole.Goals as goal
use Rattle.odb_memstore.proofs.host.MemHost.say_whole.Goals.{After-ask}

-- a place is left
left : (c : After-ask) → is_full c.self.inside.recorder ≡ false
left c = sym c.is_full.ensures ∙ c.if-is_full.false

-- what the call makes of the record
next : (c : After-ask) → c.ask.new.self ≡ noted (Say (length c.args.bytes.now)) c.self.inside.recorder
next c = c.ask.ensures.next ∙ asked_noted (Say (length c.args.bytes.now)) c.self.inside.recorder (left c)

-- whether the call is listed
listed : (c : After-ask) (b : Bool) → fails c.self.inside.recorder ≡ b → is_listed c.self.inside.recorder ≡ b
listed c b is = ap (λ (full : Bool). full || is_listed c.self.inside.recorder) (sym (left c)) ∙ is

pub invariant_of-self-then-not-ask : goal.invariant_of-self-then-not-ask
invariant_of-self-then-not-ask c =
    let k = (goal.at.invariant_of-self-then-not-ask c).After-ask in
    let h = c.self.inside in
    let n = length c.args.bytes.now in
    let tape = tape_of h in
    let fail = listed k true (not-false (fails h.recorder) (sym c.ask.ensures.goes_on ∙ c.if-not-ask.true)) in
    let is : record tape { recording = noted (Say n) h.recorder; said = h.said.items ++ [] } ≡ record tape { recording = c.ask.new.self } =
    ap (λ (l : List ℕ). let t : Tape = record tape { recording = noted (Say n) h.recorder; said = l } in t) (append-nil h.said.items)
    ∙ ap (λ (r : Recording). let t : Tape = record tape { recording = r } in t) (sym (next k)) in
    subst (Stands h.current (vec_capacity h.pieces) (vec_capacity h.said)) is
    (stands_said h.current (vec_capacity h.pieces) (vec_capacity h.said) tape c.self.invariant (left k) n [] (vec_capacity h.said) (omega arith) (ap (λ (b : Bool). if b then 0 else n) fail))

pub invariant_of-self-2 : goal.invariant_of-self-2
invariant_of-self-2 c =
    let k = (goal.at.invariant_of-self-2 c).After-ask in
    let h = c.self.inside in
    let n = length c.args.bytes.now in
    let tape = tape_of h in
    let ok = listed k false (not-true (fails h.recorder) (sym c.ask.ensures.goes_on ∙ c.if-not-ask.false)) in
    let is : record tape { recording = noted (Say n) h.recorder; said = h.said.items ++ c.args.bytes.now } ≡ record tape { recording = c.ask.new.self; said = c.add.new.to.items } =
    ap (λ (l : List ℕ). let t : Tape = record tape { recording = noted (Say n) h.recorder; said = l } in t) (sym c.add.ensures.bytes)
    ∙ ap (λ (r : Recording). let t : Tape = record tape { recording = r; said = c.add.new.to.items } in t) (sym (next k)) in
    subst (Stands h.current (vec_capacity h.pieces) (vec_capacity c.add.new.to)) is
    (stands_said h.current (vec_capacity h.pieces) (vec_capacity h.said) tape c.self.invariant (left k) n c.args.bytes.now (vec_capacity c.add.new.to) c.add.ensures.capacity (ap (λ (b : Bool). if b then 0 else n) ok))

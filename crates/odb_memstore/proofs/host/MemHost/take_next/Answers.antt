use Rattle.std.proofs.Common.{◌≡◌, ℕ, ◌+◌, ◌≤◌, ◌∙◌, false, List, length, drop, sym, ap, subst, arith, length-drop}
use Rattle.std.specs.Prelude.{vec_capacity}
use Rattle.std.proofs.lemmas.Bool.{or_parts, not-true}
use Rattle.odb_memstore.specs.declared.recorder.Call.TheVariants.{Take}
use Rattle.odb_memstore.specs.Host.{tape_of}
use Rattle.odb_memstore.specs.Recording.{Recording, is_full, is_listed, fails}
use Rattle.odb_memstore.specs.Standing.{Stands}
use Rattle.odb_memstore.proofs.Standings.{asked_noted, stands_asked, stands_taken}
use Rattle.odb_memstore.proofs.host.MemHost.take_next.Goals as goal

pub invariant_of-self : goal.invariant_of-self
invariant_of-self c =
    let h = c.self.inside in
    let tape = tape_of h in
    subst (λ (r : Recording). Stands h.current (vec_capacity h.pieces) (vec_capacity h.said) (record tape { recording = r })) (sym c.ask.ensures.next)
    (stands_asked h.current (vec_capacity h.pieces) (vec_capacity h.said) tape c.self.invariant Take tt)

pub invariant_of-self-2 : goal.invariant_of-self-2
invariant_of-self-2 c =
    let h = c.self.inside in
    let tape = tape_of h in
    let left : is_full h.recorder ≡ false = (or_parts (is_full h.recorder) (is_listed h.recorder) (not-true (fails h.recorder) (sym c.ask.ensures.goes_on ∙ c.if-not-ask.false))).0 in
    let n = h.taken + c.copy_from-n.result in
    let within : n ≤ length h.input.items = omega (arith, c.copy_from-n.ensures, c.self.invariant.whole.taken, length-drop h.taken h.input.items, ap (λ (l : List ℕ). length (drop h.taken l)) c.deref.ensures.value, ap length c.deref.ensures.value) in
    subst (λ (r : Recording). Stands h.current (vec_capacity h.pieces) (vec_capacity h.said) (record tape { recording = r; taken = n; has_ended = c.if-n-eq0.self })) (sym (c.ask.ensures.next ∙ asked_noted Take h.recorder left))
    (stands_taken h.current (vec_capacity h.pieces) (vec_capacity h.said) tape c.self.invariant left n c.if-n-eq0.self within)

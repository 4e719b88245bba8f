use Rattle.std.proofs.Common.{◌≡◌, [], ◌∷◌, ◌++◌, Bool, cond, List, sym, ◌∙◌, ap}
use Rattle.std.specs.Prelude.{not}
use Rattle.std.proofs.lemmas.List.{append-nil}
use Rattle.odb_bank.specs.declared.kept.Kept.{Kept}
use Rattle.odb_bank.specs.Closing.{is_closing}
use Rattle.odb_bank.specs.Tree.{items}
use Rattle.odb_bank.proofs.InOrder.{push_parts, on_ok_then}
use Rattle.odb_bank.proofs.tree.Tree.+push_staying.Goals as goal
use Rattle.odb_bank.proofs.tree.Tree.+push_staying.Goals.{then-is_staying+in_ok-push-in-Fork, else-is_staying}

pub returns-after-is_staying : goal.returns-after-is_staying
returns-after-is_staying t c =
    let v = c.in-Fork.fork.value in
    let whole : v.0 ++ v.1 ∷ v.2 ≡ c.args.self.now = sym (ap items c.in-Fork.is) ∙ c.self.view_is in
    let d = c.deref-node.result.now in
    let all : d.0 ++ d.1 ∷ d.2 ≡ c.args.self.now = ap (λ (p : List Kept × Kept × List Kept). p.0 ++ p.1 ∷ p.2) c.deref-node.ensures ∙ whole in
    let first = c.in_ok-push_staying-in-Fork.ensures in
    let before = c.push_staying.new.staying.items in
    let middle : c.if-is_staying.staying.items ≡ before ++ cond (not (is_closing c.args.mark c.args.whole.now d.1)) (d.1.slot ∷ []) [] = elim c.if-is_staying.branch [
      | then-is_staying+in_ok-push-in-Fork w ↦
          ap (λ s. s.items) w.staying-is ∙ w.in_ok-push-in-Fork.ensures.items ∙ ap (λ (b : Bool). before ++ cond b (d.1.slot ∷ []) []) (sym (sym c.is_staying.ensures ∙ w.if-is_staying.true))
      | else-is_staying w ↦
          ap (λ s. s.items) w.staying-is ∙ sym (append-nil before) ∙ ap (λ (b : Bool). before ++ cond b (d.1.slot ∷ []) []) (sym (sym c.is_staying.ensures ∙ w.if-is_staying.false))
    ] in
    on_ok_then c.push_staying-in-Fork.result
    (λ last. push_parts (λ (it : Kept). not (is_closing c.args.mark c.args.whole.now it)) d.0 d.1 d.2 c.args.self.now all c.args.staying.now.items before c.if-is_staying.staying.items c.push_staying-in-Fork.new.staying.items first middle last)
    c.push_staying-in-Fork.ensures

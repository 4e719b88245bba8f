use Rattle.std.proofs.Common.{◌≡◌, ◌∷◌, ◌++◌, List, sym, ◌∙◌, ap, subst}
use Rattle.std.specs.declared.cmp.Ordering.TheVariants.{Less, Greater}
use Rattle.odb_model.specs.State.{table_key_cmp}
use Rattle.odb_bank.specs.declared.kept.Kept.{Kept}
use Rattle.odb_bank.specs.History.{Key}
use Rattle.odb_bank.specs.Order.{IsInOrder}
use Rattle.odb_bank.specs.Tree.{items}
use Rattle.std.specs.List.{list_any}
use Rattle.odb_bank.specs.Closing.{is_older}
use Rattle.odb_bank.proofs.Searches.{any_before, any_behind, older_key}
use Rattle.odb_bank.proofs.tree.Tree.+has_older.Goals as goal

pub returns-in-Less : goal.returns-in-Less
returns-in-Less t c =
    let v = c.in-Fork.fork.value in
    let whole : v.0 ++ v.1 ∷ v.2 ≡ c.args.self.now = sym (ap items c.in-Fork.is) ∙ c.self.view_is in
    let order : IsInOrder (v.0 ++ v.1 ∷ v.2) = subst IsInOrder (ap items c.in-Fork.is) c.self.invariant in
    let d = c.deref-node.result.now in
    let node : d ≡ v = c.deref-node.ensures in
    let key : Key = c.args.it.now.at in
    let less : table_key_cmp key v.1.at ≡ Less = ap (λ (p : List Kept × Kept × List Kept). table_key_cmp key p.1.at) (sym node) ∙ sym c.in-Less.ensures in
    c.has_older.ensures ∙ ap (λ (p : List Kept × Kept × List Kept). list_any (λ (other : Kept). is_older other c.args.it.now) p.0) node ∙ any_before (λ (other : Kept). is_older other c.args.it.now) key (older_key c.args.it.now) v.0 v.1 v.2 order less ∙ ap (list_any (λ (other : Kept). is_older other c.args.it.now)) whole

pub returns-in-Greater : goal.returns-in-Greater
returns-in-Greater t c =
    let v = c.in-Fork.fork.value in
    let whole : v.0 ++ v.1 ∷ v.2 ≡ c.args.self.now = sym (ap items c.in-Fork.is) ∙ c.self.view_is in
    let order : IsInOrder (v.0 ++ v.1 ∷ v.2) = subst IsInOrder (ap items c.in-Fork.is) c.self.invariant in
    let d = c.deref-node.result.now in
    let node : d ≡ v = c.deref-node.ensures in
    let key : Key = c.args.it.now.at in
    let more : table_key_cmp key v.1.at ≡ Greater = ap (λ (p : List Kept × Kept × List Kept). table_key_cmp key p.1.at) (sym node) ∙ sym c.in-Greater.ensures in
    c.has_older-in-Greater.ensures ∙ ap (λ (p : List Kept × Kept × List Kept). list_any (λ (other : Kept). is_older other c.args.it.now) p.2) node ∙ any_behind (λ (other : Kept). is_older other c.args.it.now) key (older_key c.args.it.now) v.0 v.1 v.2 order more ∙ ap (list_any (λ (other : Kept). is_older other c.args.it.now)) whole

use Rattle.std.proofs.Common.{◌≡◌, ◌∷◌, ◌++◌, List, Option, sym, ◌∙◌, ap, subst}
use Rattle.std.specs.Option.{option_copied}
use Rattle.std.specs.declared.cmp.Ordering.TheVariants.{Less, Greater}
use Rattle.odb_model.specs.State.{table_key_cmp}
use Rattle.odb_bank.specs.declared.kept.Kept.{Kept}
use Rattle.odb_bank.specs.History.{Key}
use Rattle.odb_bank.specs.Order.{IsInOrder}
use Rattle.odb_bank.specs.Tree.{items}
use Rattle.odb_bank.specs.Best.{best_in, better_of}
use Rattle.odb_bank.proofs.Searches.{best_before, best_behind, best_parts}
use Rattle.odb_bank.proofs.tree.Tree.+best.Goals as goal

pub returns-in-Less : goal.returns-in-Less
returns-in-Less t c =
    let v = c.in-Fork.fork.value in
    let whole : v.0 ++ v.1 ∷ v.2 ≡ c.args.self.now = sym (ap items c.in-Fork.is) ∙ c.self.view_is in
    let order : IsInOrder (v.0 ++ v.1 ∷ v.2) = subst IsInOrder (ap items c.in-Fork.is) c.self.invariant in
    let d = c.deref-node.result.now in
    let node : d ≡ v = c.deref-node.ensures in
    let key : Key = record { table = c.args.table; key = c.args.key.now } in
    let so_far = option_copied c.args.so_far in
    let less : table_key_cmp key v.1.at ≡ Less = ap (λ (p : List Kept × Kept × List Kept). table_key_cmp key p.1.at) (sym node) ∙ sym c.in-Less.ensures in
    c.best.ensures ∙ ap (λ (p : List Kept × Kept × List Kept). best_in key so_far p.0) node ∙ best_before key so_far v.0 v.1 v.2 order less ∙ ap (best_in key so_far) whole

pub returns-in-Greater : goal.returns-in-Greater
returns-in-Greater t c =
    let v = c.in-Fork.fork.value in
    let whole : v.0 ++ v.1 ∷ v.2 ≡ c.args.self.now = sym (ap items c.in-Fork.is) ∙ c.self.view_is in
    let order : IsInOrder (v.0 ++ v.1 ∷ v.2) = subst IsInOrder (ap items c.in-Fork.is) c.self.invariant in
    let d = c.deref-node.result.now in
    let node : d ≡ v = c.deref-node.ensures in
    let key : Key = record { table = c.args.table; key = c.args.key.now } in
    let so_far = option_copied c.args.so_far in
    let more : table_key_cmp key v.1.at ≡ Greater = ap (λ (p : List Kept × Kept × List Kept). table_key_cmp key p.1.at) (sym node) ∙ sym c.in-Greater.ensures in
    c.best-in-Greater.ensures ∙ ap (λ (p : List Kept × Kept × List Kept). best_in key so_far p.2) node ∙ best_behind key so_far v.0 v.1 v.2 order more ∙ ap (best_in key so_far) whole

pub returns-in-Equal : goal.returns-in-Equal
returns-in-Equal t c =
    let v = c.in-Fork.fork.value in
    let whole : v.0 ++ v.1 ∷ v.2 ≡ c.args.self.now = sym (ap items c.in-Fork.is) ∙ c.self.view_is in
    let order : IsInOrder (v.0 ++ v.1 ∷ v.2) = subst IsInOrder (ap items c.in-Fork.is) c.self.invariant in
    let d = c.deref-node.result.now in
    let node : d ≡ v = c.deref-node.ensures in
    let key : Key = record { table = c.args.table; key = c.args.key.now } in
    let so_far = option_copied c.args.so_far in
    let front : option_copied c.best-front.result ≡ best_in key so_far d.0 = c.best-front.ensures in
    let middle : option_copied c.better_of-middle.result ≡ better_of key (best_in key so_far d.0) d.1 = c.better_of-middle.ensures ∙ ap (λ (o : Option Kept). better_of key o d.1) front in
    c.best-in-Equal.ensures ∙ ap (λ (o : Option Kept). best_in key o d.2) middle
    ∙ ap (λ (p : List Kept × Kept × List Kept). best_in key (better_of key (best_in key so_far p.0) p.1) p.2) node
    ∙ sym (best_parts key so_far v.0 v.1 v.2) ∙ ap (best_in key so_far) whole

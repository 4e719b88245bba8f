-- The test of keys.
use Rattle.std.proofs.Common.{◌≡◌, true, false, sym, ◌∙◌, ap}
use Rattle.std.specs.declared.cmp.Ordering.{Ordering}
use Rattle.std.specs.declared.cmp.Ordering.TheVariants.{Less, Equal, Greater}
use Rattle.std.specs.Ordering.{is_eq}
use Rattle.std.proofs.lemmas.Cmp.{tied_itself}
use Rattle.odb_model.specs.State.{table_key_cmp}
use Rattle.odb_model.proofs.Replay.{table_key_cmp_total, table_key_cmp_exact}
use Rattle.odb_bank.specs.History.{Key, is_key}

tied : (o : Ordering) → is_eq o ≡ true → o ≡ Equal
tied Less e = cc
tied Equal e = cc
tied Greater e = cc

pub key_true : (a b : Key) → is_key a b ≡ true → a ≡ b
key_true a b e = table_key_cmp_exact a b (tied (table_key_cmp a b) e)

pub key_same : (a b : Key) → a ≡ b → is_key a b ≡ true
key_same a b same = ap (λ (k : Key). is_key a k) (sym same) ∙ ap is_eq (tied_itself table_key_cmp_total a)

pub key_false : (a b : Key) → is_key a b ≡ false → a ≡ b → ⊥
key_false a b e same = let other = key_same a b same in cc (e, other)

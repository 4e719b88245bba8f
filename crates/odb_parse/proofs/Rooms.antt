-- A reader with room for a NOT or a parenthesis chooses by what stands next.
use Rattle.std.proofs.Common.{◌≡◌, ℕ, zero, suc, ◌-◌, List, refl, ap, ◌∙◌, arith}
use Rattle.odb_model.specs.declared.keyword.Keyword.TheVariants as k
use Rattle.odb_model.specs.declared.sign.Sign.TheVariants as s
use Rattle.odb_model.specs.declared.predicate.Predicate.{Predicate}
use Rattle.odb_parse.specs.declared.kind.Kind.{Kind}
use Rattle.odb_parse.specs.declared.kind.Kind.TheVariants as kind
use Rattle.odb_parse.specs.Codes.{Item}
use Rattle.odb_parse.specs.Items.{kind_in}
use Rattle.odb_parse.specs.Reading.{Reader}
use Rattle.odb_parse.specs.Predicates.{negation, conjunction, predicate, negation_by, single_test}

pub negation_some : (room : ℕ) (items : List Item) → (room ≡ 0 → ⊥)
    → negation room items ≡ negation_by (negation (room - 1)) (predicate (room - 1)) (kind_in items) items
unfolding negation predicate conjunction
negation_some zero items some = absurd (some refl)
negation_some (suc room) items some =
    let is : room ≡ suc room - 1 = omega arith in
    ap (λ r. negation_by (negation r) (predicate r) (kind_in items) items) is

pub negation_opens : (room : ℕ) (items : List Item) → (room ≡ 0 → ⊥) → kind_in items ≡ kind.Symbol s.Open
    → negation room items ≡ negation_by (negation (room - 1)) (predicate (room - 1)) (kind.Symbol s.Open) items
negation_opens room items some opens = negation_some room items some ∙ ap (λ k. negation_by (negation (room - 1)) (predicate (room - 1)) k items) opens

by_default : (item whole : Reader Predicate) (now : Kind) → (now ≡ kind.Word k.Not → ⊥) → (now ≡ kind.Symbol s.Open → ⊥)
    → (items : List Item) → negation_by item whole now items ≡ single_test items
by_default item whole (kind.Word k.Not) negation opens items = absurd (negation refl)
by_default item whole (kind.Symbol s.Open) negation opens items = absurd (opens refl)
by_default item whole _ negation opens items = refl

pub no_tests : (room : ℕ) (items : List Item) → (room ≡ 0 → ⊥) → (kind_in items ≡ kind.Word k.Not → ⊥)
    → (kind_in items ≡ kind.Symbol s.Open → ⊥) → negation room items ≡ single_test items
no_tests room items some negated opens =
    negation_some room items some ∙ by_default (negation (room - 1)) (predicate (room - 1)) (kind_in items) negated opens items

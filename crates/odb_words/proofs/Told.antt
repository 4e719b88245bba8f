-- What the rule says.
use Rattle.std.proofs.Common.{◌≡◌, ℕ, ◌+◌, List, [], ◌∷◌, length, sym, ap, ◌∙◌, subst, arith}
use mathlib.Core.Logic.{dite}
use mathlib.Core.List.{IsPrefix}
use native.Mathlib.Decide.{ℕ_discrete}
use Rattle.odb_model.specs.declared.entry.Entry.{Entry}
use Rattle.odb_words.specs.declared.view.Kind.{Kind}
use Rattle.odb_words.specs.Views.{by_session, has_rank, pens, rights, ranks}
use Rattle.odb_words.specs.Steps.{OnePen, OneRight, OneOfEach, ViewRules, BookAlone, OneOpening, ListsNumbered}
use Rattle.odb_words.proofs.Appends.{pen_yes, right_yes}
use Rattle.odb_words.proofs.Changes.{below_one}
use Rattle.odb_words.proofs.Lists.{terms_le, prefix_length, nothing, numbered_prefix}

pub one_pen : OnePen
one_pen key s r i j v w at there a b = dite (ℕ_discrete i j) (λ is. is) (λ not. absurd (omega (arith, terms_le pens s.views j i w v not there at, r.pen, pen_yes v a, pen_yes w b)))

pub one_right : OneRight
one_right key s r n p i j v w at there a b = dite (ℕ_discrete i j) (λ is. is) (λ not. absurd (omega (arith, terms_le (rights n) s.views j i w v not there at, r.right n p, below_one r.made (18 + n), right_yes n v.right a, right_yes n w.right b)))

pub one_of_each : OneOfEach
one_of_each key s r rank i j v w at there a b = dite (ℕ_discrete i j) (λ is. is) (λ not. absurd (omega (arith, terms_le (ranks rank) s.views j i w v not there at, r.once rank, below_one r.made rank, a, b)))

pub view_rules : ViewRules
view_rules key s r i j v w at view there =
    let is = (r.fits i v at).whole view in
    let f = r.fits j w there in
    (r.count ∙ ap (λ l. (key.number + length l) ∷ []) (sym is), subst (IsPrefix w.list) (sym is) f.begins, (λ p. f.writes p ∙ sym is), (λ n e. (f.own n e).0 ∙ sym (f.own n e).1 ∙ sym (ap (by_session n) is)))

pub book_alone : BookAlone
book_alone key s r le i v at =
    let f = r.fits i v at in
    let book : v.kind ≡ Kind.Book = f.alone le in
    let none : r.log ≡ [] = r.unmade le in
    let here : i ≡ 0 = one_of_each key s r 0 i 0 v r.first.0 at r.first.1 (ap (has_rank 0) book) (ap (has_rank 0) r.first.2) in
    let empty : v.list ≡ [] = nothing v.list (omega (arith, prefix_length v.list r.log f.begins, ap length none)) in
    (here, book, empty, r.count ∙ ap (λ (l : List Entry). (key.number + length l) ∷ []) none ∙ ap (λ (n : ℕ). n ∷ []) (omega arith))

pub one_opening : OneOpening
one_opening key s r i v at live = r.opened i v at live

pub lists_numbered : ListsNumbered
lists_numbered key s r i v at = numbered_prefix (key.number + 1) v.list r.log (r.fits i v at).begins r.numbered

-- The views of a table where one of them changes, or one more comes.
use Rattle.std.proofs.Common.{◌≡◌, ℕ, zero, suc, ◌+◌, ◌<◌, ◌≤◌, ◌≢◌, List, [], ◌∷◌, ◌++◌, set, sym, refl, ap, ◌∙◌, subst, ⊎_elim, arith, true, false, cond, lt-ltb, le-ltb}
use mathlib.Core.Logic.{dite}
use mathlib.Core.Option.{some, some-injective, some-ne-none}
use native.Mathlib.Decide.{dec_le}
use lib.ListN.{get_elem?}
use Rattle.atomic_table.specs.Table.{State}
use Rattle.atomic_table.proofs.Lists.{at_set, at_snoc}
use Rattle.odb_model.specs.declared.entry.Entry.{Entry}
use Rattle.odb_words.specs.declared.opening.Opening.{Opening}
use Rattle.odb_words.specs.declared.view.Kind.{Kind}
use Rattle.odb_words.specs.declared.view.SeatView.{SeatView}
use Rattle.odb_words.specs.Views.{total, has_rank, ranks, pens, rights, below}
use Rattle.odb_words.specs.Rule.{Fits, IsOpened, HasBookFirst, IsRuled}
use Rattle.odb_words.proofs.Lists.{total-append, total-set}

abbrev pub St : Type 0
St = State Entry SeatView

-- what holds of all views holds of all where one view changes, or one more comes
pub all_set : (P : SeatView → Type 0) (vs : List SeatView) (i : ℕ) (a : SeatView) → ((j : ℕ) (u : SeatView) → get_elem? vs j ≡ some u → P u) → P a → (j : ℕ) (u : SeatView) → get_elem? (set vs i a) j ≡ some u → P u
all_set P vs i a others mine j u e = ⊎_elim (λ (x : (j ≡ i) × (a ≡ u)). subst P x.1 mine) (λ (x : (j ≢ i) × (get_elem? vs j ≡ some u)). others j u x.1) (at_set vs i j a u e)

pub all_else : (P : SeatView → Type 0) (vs : List SeatView) (i : ℕ) (a : SeatView) → ((j : ℕ) (u : SeatView) → j ≢ i → get_elem? vs j ≡ some u → P u) → P a → (j : ℕ) (u : SeatView) → get_elem? (set vs i a) j ≡ some u → P u
all_else P vs i a others mine j u e = ⊎_elim (λ (x : (j ≡ i) × (a ≡ u)). subst P x.1 mine) (λ (x : (j ≢ i) × (get_elem? vs j ≡ some u)). others j u x.0 x.1) (at_set vs i j a u e)

pub all_snoc : (P : SeatView → Type 0) (vs : List SeatView) (a : SeatView) → ((j : ℕ) (u : SeatView) → get_elem? vs j ≡ some u → P u) → P a → (j : ℕ) (u : SeatView) → get_elem? (vs ++ a ∷ []) j ≡ some u → P u
all_snoc P vs a others mine j u e = ⊎_elim (λ (x : get_elem? vs j ≡ some u). others j u x) (λ (x : a ≡ u). subst P x mine) (at_snoc vs a u j e)

pub total_split : (g : SeatView → ℕ) (vs : List SeatView) (i : ℕ) (v l n : SeatView) → get_elem? vs i ≡ some v → g l + g n ≡ g v → total g (set vs i l ++ n ∷ []) ≡ total g vs
total_split g vs i v l n at e = omega (arith, total-append g (set vs i l) (n ∷ []), total-set g vs i v l at, e)

pub total_more : (g : SeatView → ℕ) (vs : List SeatView) (i : ℕ) (v l n : SeatView) → get_elem? vs i ≡ some v → g l ≡ g v → total g (set vs i l ++ n ∷ []) ≡ total g vs + g n
total_more g vs i v l n at e = omega (arith, total-append g (set vs i l) (n ∷ []), total-set g vs i v l at, e)

pub total_join : (g : SeatView → ℕ) (vs : List SeatView) (i k : ℕ) (v w b z : SeatView) → get_elem? vs i ≡ some v → get_elem? (set vs i b) k ≡ some w → g b ≡ g v + g w → g z ≡ 0 → total g (set (set vs i b) k z) ≡ total g vs
total_join g vs i k v w b z at there e none-left = omega (arith, total-set g vs i v b at, total-set g (set vs i b) k w z there, e, none-left)

pub total_same : (g : SeatView → ℕ) (vs : List SeatView) (i : ℕ) (v w : SeatView) → get_elem? vs i ≡ some v → g w ≡ g v → total g (set vs i w) ≡ total g vs
total_same g vs i v w at e = omega (arith, total-set g vs i v w at, e)

pub below_yes : (m r : ℕ) → r < m → below m r ≡ 1
below_yes m r h = ap (λ b. cond b 1 0) (lt-ltb r m h)

pub below_no : (m r : ℕ) → m ≤ r → below m r ≡ 0
below_no m r h = ap (λ b. cond b 1 0) (le-ltb r m h)

pub below_one : (m r : ℕ) → below m r ≤ 1
below_one m r = dite (dec_le m r) (λ le. omega (arith, below_no m r le)) (λ n. omega (arith, below_yes m r (omega arith)))

pub below_made : (m r : ℕ) → 1 ≤ below m r → r < m
below_made m r h = dite (dec_le m r) (λ le. absurd (omega (arith, below_no m r le))) (λ n. omega arith)

-- the Book stays the first view
pub first_set : (vs : List SeatView) (i : ℕ) (v w : SeatView) → get_elem? vs i ≡ some v → (v.kind ≡ Kind.Book → w.kind ≡ Kind.Book) → HasBookFirst vs → HasBookFirst (set vs i w)
first_set [] i v w at same f = absurd (some-ne-none f.0 (sym f.1))
first_set (x ∷ xs) zero v w at same f = (w, refl, same (ap (λ (u : SeatView). u.kind) (sym (some-injective x v at) ∙ some-injective x f.0 f.1) ∙ f.2))
first_set (x ∷ xs) (suc i) v w at same f = f

pub first_snoc : (vs : List SeatView) (n : SeatView) → HasBookFirst vs → HasBookFirst (vs ++ n ∷ [])
first_snoc [] n f = absurd (some-ne-none f.0 (sym f.1))
first_snoc (x ∷ xs) n f = f

-- the table with another list of views, of the same sums
pub kept : (key : Opening) (s : St) (r : IsRuled key s) (ws : List ℕ) (vs : List SeatView) → ws ≡ s.words
    → ((j : ℕ) (u : SeatView) → get_elem? vs j ≡ some u → Fits r.log r.made u) → ((j : ℕ) (u : SeatView) → get_elem? vs j ≡ some u → IsOpened key u)
    → HasBookFirst vs
    → ((k : ℕ) → total (ranks k) vs ≡ total (ranks k) s.views) → total pens vs ≡ total pens s.views → ((n : ℕ) → total (rights n) vs ≡ total (rights n) s.views)
    → IsRuled key (record { words = ws; homes = s.homes; views = vs })
kept key s r ws vs w f o h a b c = record { log = r.log; made = r.made; count = w ∙ r.count; numbered = r.numbered; fits = f; opened = o; first = h; once = λ k. a k ∙ r.once k; pen = b ∙ r.pen; right = λ n p. c n ∙ r.right n p; fresh = r.fresh; begun = r.begun; unmade = r.unmade }

-- where a seat other than the Book is there, or the Book has made one, the View is made
pub late_made : (log : List Entry) (made : ℕ) (v : SeatView) → Fits log made v → (v.kind ≡ Kind.Book → 1 < v.made) → 1 < made
late_made log made v f late = dite (dec_le made 1) (λ le. let b = f.alone le in omega (arith, late b, f.counts (ap (has_rank 0) b))) (λ n. omega arith)

pub note_made : (log : List Entry) (made : ℕ) (w : SeatView) → Fits log made w → w.kind ≡ Kind.Note → 1 < made
note_made log made w f note = dite (dec_le made 1) (λ le. absurd (omega (arith, ap (has_rank 0) (sym note ∙ f.alone le)))) (λ n. omega arith)

pub off : {A : Type 0} → false ≡ true → A
off e = absurd (cc e)

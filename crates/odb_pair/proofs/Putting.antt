-- What the parts of a put leave at each moment.
use Rattle.std.proofs.Common.{◌≡◌, true, false, ◌⊎◌, inl, inr, ℕ, List, refl, ◌∙◌, ap, subst, sym}
use Rattle.odb_device.specs.World.{World, file_of}
use Rattle.odb_device.specs.Images.{EachImage, TornFrom}
use Rattle.odb_device.specs.Moments.{Runs}
use Rattle.odb_device.proofs.Time.{joins, weakens}
use Rattle.odb_device.proofs.Torn.{each_weakens}
use Rattle.odb_pair.specs.Places.{holding, Holds}
use Rattle.odb_pair.specs.Standing.{PairState, StandsFor, HoldsKeptOr, RunsPair, after_put, with_tried}
use Rattle.odb_pair.proofs.Opens.{opens, opens_settled, stands_marked}
use Rattle.odb_pair.proofs.Beside.{run_at, run_then}

-- at each moment the value kept, the one tried last or the new one, and the file changes in its first
-- 1,024 bytes alone
abbrev pub Leaves : PairState → List ℕ → World → World → Type 0
Leaves pair value old new = RunsPair pair (HoldsKeptOr pair value) old new

-- a part of it, on a pair of the same file with the same value kept
leaves : (p q : PairState) (value : List ℕ) (old new : World) → q.file ≡ p.file → q.value ≡ p.value → (q.tried ≡ p.tried) ⊎ (q.tried ≡ value)
    → Runs q.file (EachImage (StandsFor q)) old new → Runs q.file (TornFrom 0 1024 (file_of q.file old)) old new → Leaves p value old new
leaves p q value old new file kept tried run beside = record {
  run = subst (λ (f : ℕ). Runs f (EachImage (HoldsKeptOr p value)) old new) file (weakens q.file (EachImage (StandsFor q)) (EachImage (HoldsKeptOr p value)) old new (λ o. each_weakens (StandsFor q) (HoldsKeptOr p value) o one) run);
  beside = run_at q.file p.file 0 0 1024 old new file refl beside;
}
  where
    one : (c : List ℕ) → StandsFor q c → HoldsKeptOr p value c
    one c h = elim (opens q c h) [
      | inl at_kept ↦ inl (inl (at_kept ∙ ap holding kept))
      | inr at_tried ↦ elim tried [
        | inl before ↦ inl (inr (at_tried ∙ ap holding before))
        | inr now ↦ inr (at_tried ∙ ap holding now)
      ]
    ]

leaves_then : (p : PairState) (value : List ℕ) (old mid new : World) → Leaves p value old mid → Leaves p value mid new → Leaves p value old new
leaves_then p value old mid new a b = record {
  run = joins p.file (EachImage (HoldsKeptOr p value)) old mid new a.run b.run;
  beside = run_then p.file 0 1024 old mid new a.beside b.beside;
}

-- what a part is to be known for, whatever it answered
abbrev Part : PairState → World → World → Type 0
Part k old new = RunsPair k (StandsFor k) old new

-- closing: `q` is the pair unsettled
pub leaves_closed : (p q : PairState) (value : List ℕ) (w w1 : World) → q ≡ record p { settled = false } → Part q w w1 → Leaves p value w w1
leaves_closed p q value w w1 unsettled close = leaves p q value w w1 (ap (λ (k : PairState). k.file) unsettled) (ap (λ (k : PairState). k.value) unsettled) (inl (ap (λ (k : PairState). k.tried) unsettled)) close.run close.beside

-- then filling: `r` is that pair with its other place closed
pub leaves_filled : (p q r : PairState) (value : List ℕ) (w w1 w2 : World) → q ≡ record p { settled = false } → Part q w w1 → r ≡ record q { closed = true } → Part r w1 w2 → Leaves p value w w2
leaves_filled p q r value w w1 w2 unsettled close closed fill =
    let same : r ≡ record p { settled = false; closed = true } = closed ∙ ap (λ (k : PairState). record k { closed = true }) unsettled in
    leaves_then p value w w1 w2 (leaves_closed p q value w w1 unsettled close)
    (leaves p r value w1 w2 (ap (λ (k : PairState). k.file) same) (ap (λ (k : PairState). k.value) same) (inl (ap (λ (k : PairState). k.tried) same)) fill.run fill.beside)

-- then opening
pub leaves_opened : (p q r : PairState) (value : List ℕ) (w w1 w2 w3 : World) → q ≡ record p { settled = false } → Part q w w1 → r ≡ record q { closed = true } → Part r w1 w2
    → RunsPair r (StandsFor (with_tried value r)) w2 w3 → Leaves p value w w3
leaves_opened p q r value w w1 w2 w3 unsettled close closed fill open_gate =
    let same : r ≡ record p { settled = false; closed = true } = closed ∙ ap (λ (k : PairState). record k { closed = true }) unsettled in
    leaves_then p value w w2 w3 (leaves_filled p q r value w w1 w2 unsettled close closed fill)
    (leaves p (record r { tried = value; closed = false }) value w2 w3 (ap (λ (k : PairState). k.file) same) (ap (λ (k : PairState). k.value) same) (inr refl) open_gate.run open_gate.beside)

-- at the end: `s` is the pair as `open_gate` left it
module _ (p q r s : PairState) (value : List ℕ) (w : World) (unsettled : q ≡ record p { settled = false }) (closed : r ≡ record q { closed = true }) (stands : EachImage (StandsFor s) (file_of r.file w)) where
  stands_still : EachImage (StandsFor s) (file_of p.file w)
  stands_still = subst (λ (f : ℕ). EachImage (StandsFor s) (file_of f w)) (ap (λ (k : PairState). k.file) closed ∙ ap (λ (k : PairState). k.file) unsettled) stands

  pub stands_settled : (k : PairState) → k ≡ s → EachImage (StandsFor (record k { settled = true })) (file_of p.file w)
  stands_settled k same =
      subst (λ (l : PairState). EachImage (StandsFor (record l { settled = true })) (file_of p.file w)) (sym same)
      (each_weakens (StandsFor s) (StandsFor (record s { settled = true })) (file_of p.file w) (λ i h. stands_marked s true i h) stands_still)

  pub holds_new : s ≡ record (after_put r value) { settled = false } → EachImage (Holds value) (file_of p.file w)
  holds_new counts =
      let kept : s.value ≡ value = ap (λ (k : PairState). k.value) counts in
      let tried : s.tried ≡ s.value = ap (λ (k : PairState). k.tried) counts ∙ sym kept in
      each_weakens (StandsFor s) (Holds value) (file_of p.file w) (λ i h. opens_settled s i tried h ∙ ap holding kept) stands_still

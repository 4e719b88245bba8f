-- What a growth leaves at each moment: the pair is settled, the extent behind the limit zeroed, and
-- the limit put.
use Rattle.std.proofs.Common.{◌≡◌, ◌⊎◌, inl, inr, ℕ, ◌+◌, ◌<◌, ◌≤◌, List, length, Option, Some, None, refl, sym, ◌∙◌, ap, subst, arith}
use Rattle.odb_device.specs.World.{File, World, file_of}
use Rattle.odb_device.specs.Images.{EachImage}
use Rattle.odb_device.specs.TornSets.{InRange, TornIn, TornInFrom}
use Rattle.odb_device.proofs.Frames.{frame, frame_holds}
use Rattle.odb_device.proofs.Time.{begins, joins, weakens, run_end}
use Rattle.odb_device.proofs.Torn.{each_weakens}
use Rattle.odb_device.proofs.TornSets.{from_none, from_in_widens, from_in_then, torn_in_each}
use Rattle.odb_device.proofs.Writing.{torn_in_run}
use Rattle.odb_pair.specs.Places.{holding as holding_value, Holds as PairHolds, opened as pair_opened}
use Rattle.odb_pair.specs.Standing.{PairState, StandsFor, HoldsKept as PairKept, HoldsKeptOr as PairKeptOr, RunsPair}
use Rattle.odb_pair.specs.Laws.{pair_asks, opened_looks}
use Rattle.odb_extent.specs.Opened.{content_end, limit_in, AddsZeros}
use Rattle.odb_extent.specs.Standing.{ExtentState, limit_of, fields_of, limit_tried, IsSound, IsFileOf, Stands, HoldsAt, HoldsKeptOr, IsBehindContent, IsBesideContent, WritesIn, RunsExtents}
use Rattle.odb_extent.proofs.Putting.{adds_none, adds_front, adds_as, IsValueOf, value_at, holds_at, kept_holds, pair_runs, pair_done, with_pair, Leaves, left_added}

pub runs_then : (e : ExtentState) (R : List ℕ → Type 0) (old mid new : World) → RunsExtents e R old mid → RunsExtents e R mid new → RunsExtents e R old new
runs_then e R old mid new a b =
    let f = e.pair.file in
    let P = IsBesideContent (limit_of e) in
    let end = content_end (limit_of e + 1) in
    let here = run_end f (TornInFrom P end (file_of f old)) old mid a.beside in
    record {
      run = joins f (EachImage R) old mid new a.run b.run;
      beside = joins f (TornInFrom P end (file_of f old)) old mid new a.beside
          (weakens f (TornInFrom P end (file_of f mid)) (TornInFrom P end (file_of f old)) mid new (λ o from. from_in_then P end (file_of f old) (file_of f mid) o here from) b.beside);
    }

-- where nothing is called
pub still_runs : (e : ExtentState) (R : List ℕ → Type 0) (w : World) → ((bytes : List ℕ) → IsFileOf e bytes → R bytes) → Stands e (file_of e.pair.file w) → RunsExtents e R w w
still_runs e R w gives stands =
    let f = e.pair.file in
    let P = IsBesideContent (limit_of e) in
    let end = content_end (limit_of e + 1) in
    record {
      run = begins f (EachImage R) w (each_weakens (IsFileOf e) R (file_of f w) gives stands);
      beside = begins f (TornInFrom P end (file_of f w)) w (from_none P end (file_of f w) (file_of f w) refl);
    }

pub each_both : (P Q : List ℕ → Type 0) (o : Option File) → EachImage P o → EachImage Q o → EachImage (λ image. P image × Q image) o
each_both P Q None p q = tt
each_both P Q (Some f) p q = λ image is. (p image is, q image is)

-- the pair after it was settled
pub record IsSettledPair (e : ExtentState) (p : PairState) : Type 0 where
  pub file : p.file ≡ e.pair.file
  pub kept : p.value ≡ e.pair.value
  pub tried : p.tried ≡ e.pair.value

-- what is torn behind the limit leaves the pair
behind_apart : (limit i : ℕ) → InRange 0 1024 i → IsBehindContent limit i → ⊥
behind_apart limit i here behind = omega (arith, here.1, behind.0)

pub behind_opens : (limit end : ℕ) (before image : List ℕ) → TornIn (IsBehindContent limit) end before image → 1024 ≤ length before → pair_opened image ≡ pair_opened before
behind_opens limit end before image t long = frame (InRange 0 1024) (IsBehindContent limit) 1024 end pair_opened before image opened_looks (behind_apart limit) long t

pub behind_stands : (p : PairState) (limit end : ℕ) (before image : List ℕ) → TornIn (IsBehindContent limit) end before image → StandsFor p before → StandsFor p image
behind_stands p limit end before image t h = frame_holds (InRange 0 1024) (IsBehindContent limit) 1024 end (StandsFor p) before image (pair_asks p) (behind_apart limit) h.long t h

module _ (e : ExtentState) (fields : List ℕ) (sound : IsSound e) where
  abbrev More : List ℕ → Type 0
  More = HoldsKeptOr e (limit_of e + 1) fields

  -- what is kept is one of what the images may hold
  kept_more : (bytes : List ℕ) → PairHolds e.pair.value bytes → More bytes
  kept_more bytes h = inl (inl (holds_at e e.pair.value bytes sound.low sound.high (adds_none (limit_of e) bytes) h))

  -- while the pair is settled
  pub settle_runs : (old new : World) → Stands e (file_of e.pair.file old) → RunsPair e.pair (PairKept e.pair) old new → RunsExtents e More old new
  settle_runs old new stands runs =
      pair_runs e e.pair (IsFileOf e) (PairKept e.pair) More old new
      (λ before image h t d. inl (kept_holds e image sound (adds_front (limit_of e) (limit_tried e) before image t h.added) d)) stands refl runs

  pub settle_stands : (p : PairState) (old new : World) → Leaves e p e.pair.value → Stands e (file_of e.pair.file old) → RunsPair e.pair (PairKept e.pair) old new → EachImage (StandsFor p) (file_of e.pair.file new)
      → Stands (with_pair e p) (file_of e.pair.file new)
  settle_stands p old new left stands runs each =
      pair_done e.pair.file e.pair (IsFileOf e) (PairKept e.pair) (StandsFor p) (IsFileOf (with_pair e p)) old new
      (λ before image h t s. record {
        pair = s;
        added = left_added e p e.pair.value left image (adds_front (limit_of e) (limit_tried e) before image t h.added) (adds_none (limit_of e) image);
      })
      stands refl runs each

  -- while the extent is zeroed
  module _ (p : PairState) (old new : World) (stands : EachImage (StandsFor p) (file_of e.pair.file old)) (wrote : WritesIn (IsBehindContent (limit_of e)) (content_end (limit_of e + 1)) e.pair.file old new) where
    abbrev P : ℕ → Type 0
    P = IsBehindContent (limit_of e)

    abbrev end : ℕ
    end = content_end (limit_of e + 1)

    pub zero_runs : EachImage (PairHolds e.pair.value) (file_of e.pair.file old) → RunsExtents e More old new
    zero_runs holds =
        let f = e.pair.file in
        record {
          run = torn_in_run P end (λ image. StandsFor p image × PairHolds e.pair.value image) More f old new
              (λ before image h t. kept_more image (behind_opens (limit_of e) end before image t h.0.long ∙ h.1))
              (each_both (StandsFor p) (PairHolds e.pair.value) (file_of f old) stands holds) wrote;
          beside = weakens f (TornInFrom P end (file_of f old)) (TornInFrom (IsBesideContent (limit_of e)) end (file_of f old)) old new
              (λ o from. from_in_widens P (IsBesideContent (limit_of e)) end end (file_of f old) o (λ i here. inr here) (omega arith) from) wrote;
        }

    pub zero_stands : EachImage (StandsFor p) (file_of e.pair.file new)
    zero_stands =
        let f = e.pair.file in
        torn_in_each P end (StandsFor p) (StandsFor p) (file_of f old) (file_of f new) (λ before image h t. behind_stands p (limit_of e) end before image t h) stands
        (run_end f (TornInFrom P end (file_of f old)) old new wrote)

  -- while the limit is put
  module _ (p : PairState) (settled : IsSettledPair e p) (value : List ℕ) (is : IsValueOf (limit_of e + 1) fields value) (old new : World)
      (zeros : EachImage (AddsZeros (limit_of e) (limit_of e + 1)) (file_of e.pair.file old)) (runs : RunsPair p (PairKeptOr p value) old new) where
    abbrev Zeros : List ℕ → Type 0
    Zeros = AddsZeros (limit_of e) (limit_of e + 1)

    pub raise_runs : limit_of e < e.most → RunsExtents e More old new
    raise_runs less = pair_runs e p Zeros (PairKeptOr p value) More old new
        (λ before image h t d. elim d [
          | inl (inl kept) ↦ kept_more image (kept ∙ ap holding_value settled.kept)
          | inl (inr tried) ↦ kept_more image (tried ∙ ap holding_value settled.tried)
          | inr given ↦ inr (value_at e (limit_of e + 1) fields value image is (omega arith) (omega arith) (adds_front (limit_of e) (limit_of e + 1) before image t h) given)
        ])
        zeros settled.file runs

    pub raise_holds : limit_of e < e.most → EachImage (PairHolds value) (file_of e.pair.file new) → EachImage (HoldsAt e (limit_of e + 1) fields) (file_of e.pair.file new)
    raise_holds less each = pair_done e.pair.file p Zeros (PairKeptOr p value) (PairHolds value) (HoldsAt e (limit_of e + 1) fields) old new
        (λ before image h t d. value_at e (limit_of e + 1) fields value image is (omega arith) (omega arith) (adds_front (limit_of e) (limit_of e + 1) before image t h) d)
        zeros settled.file runs each

    pub raise_stands : (q : PairState) → Leaves e q value → (q.tried ≡ e.pair.value) ⊎ (q.tried ≡ value) → EachImage (StandsFor q) (file_of e.pair.file new) → Stands (with_pair e q) (file_of e.pair.file new)
    raise_stands q left tried each = pair_done e.pair.file p Zeros (PairKeptOr p value) (StandsFor q) (IsFileOf (with_pair e q)) old new
        (λ before image h t s. record { pair = s; added = added image (adds_front (limit_of e) (limit_of e + 1) before image t h) })
        zeros settled.file runs each
      where
        added : (image : List ℕ) → Zeros image → AddsZeros (limit_in q.value) (limit_in q.tried) image
        added image h = elim tried [
          | inl none ↦ adds_as (limit_of e) (limit_of e) (limit_in q.value) (limit_in q.tried) image (ap limit_in (sym left.kept)) (ap limit_in (sym none)) (adds_none (limit_of e) image)
          | inr given ↦ adds_as (limit_of e) (limit_of e + 1) (limit_in q.value) (limit_in q.tried) image (ap limit_in (sym left.kept)) (sym (ap limit_in given ∙ is.limit_is)) h
        ]

-- after the extent was zeroed, whatever that answered
pub record IsZeroed (e : ExtentState) (p : PairState) (w now : World) : Type 0 where
  pub limit_settled : IsSettledPair e p
  pub runs : RunsExtents e (HoldsKeptOr e (limit_of e + 1) (fields_of e)) w now
  pub pair : EachImage (StandsFor p) (file_of e.pair.file now)

pub zeroed : (e : ExtentState) (p : PairState) (w mid now : World) (n file : ℕ) → IsSound e → Stands e (file_of e.pair.file w) → RunsPair e.pair (PairKept e.pair) w mid
    → EachImage (StandsFor p) (file_of e.pair.file mid) → (p.file ≡ e.pair.file) × (p.value ≡ e.pair.value) → p.tried ≡ e.pair.value → EachImage (PairHolds e.pair.value) (file_of e.pair.file mid)
    → n ≡ limit_of e → file ≡ p.file → WritesIn (IsBehindContent n) (content_end (n + 1)) file mid now → IsZeroed e p w now
zeroed e p w mid now n file sound stands settle pair same tried holds limit here wrote =
    let f = e.pair.file in
    let wrote_here : WritesIn (IsBehindContent (limit_of e)) (content_end (limit_of e + 1)) f mid now =
    subst (λ (k : ℕ). WritesIn (IsBehindContent (limit_of e)) (content_end (limit_of e + 1)) k mid now) (here ∙ same.0)
    (subst (λ (k : ℕ). WritesIn (IsBehindContent k) (content_end (k + 1)) file mid now) limit wrote) in
    record {
      limit_settled = record { file = same.0; kept = same.1; tried = tried };
      runs = runs_then e (HoldsKeptOr e (limit_of e + 1) (fields_of e)) w mid now (settle_runs e (fields_of e) sound w mid stands settle)
          (zero_runs e (fields_of e) sound p mid now pair wrote_here holds);
      pair = zero_stands e (fields_of e) sound p mid now pair wrote_here;
    }

-- the zeros by the names of the limit and the file kept
pub zeros_here : (e : ExtentState) (p : PairState) (now : World) (n file : ℕ) → n ≡ limit_of e → file ≡ p.file → p.file ≡ e.pair.file → EachImage (AddsZeros n (n + 1)) (file_of file now)
    → EachImage (AddsZeros (limit_of e) (limit_of e + 1)) (file_of e.pair.file now)
zeros_here e p now n file limit here same zeros =
    subst (λ (f : ℕ). EachImage (AddsZeros (limit_of e) (limit_of e + 1)) (file_of f now)) (here ∙ same)
    (subst (λ (k : ℕ). EachImage (AddsZeros k (k + 1)) (file_of file now)) limit zeros)

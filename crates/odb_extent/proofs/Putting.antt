-- What the pair's calls leave of an extent file.
use Rattle.std.proofs.Common.{◌≡◌, ◌⊎◌, inl, inr, ℕ, ◌+◌, ◌<◌, ◌≤◌, ◌^◌, List, length, Option, Result, Ok, Err, refl, sym, ◌∙◌, ap, subst, arith}
use Rattle.std.specs.Prelude.{OnErr}
use Rattle.odb_device.specs.World.{File, World, file_of}
use Rattle.odb_device.specs.Images.{EachImage, TornFrom}
use Rattle.odb_device.specs.Moments.{Runs}
use Rattle.odb_device.specs.TornSets.{InRange, TornIn}
use Rattle.odb_device.proofs.Torn.{each_weakens}
use Rattle.odb_device.proofs.Writing.{torn_in_run_with, torn_in_done, run_inside}
use Rattle.odb_pair.specs.Places.{Holds as PairHolds}
use Rattle.odb_pair.specs.Standing.{PairState, StandsFor, HoldsKept as PairKept, HoldsKeptOr as PairKeptOr, RunsPair, LeavesUnsettled, after_put}
use Rattle.odb_extent.specs.Opened.{content_end, value_with, limit_in, fields_in, AddsZeros}
use Rattle.odb_extent.specs.Standing.{ExtentState, limit_of, limit_tried, IsSound, IsFileOf, Stands, HoldsAt, HoldsKept, HoldsKeptOr, IsBesideContent, RunsExtents, Takes, LeavesTried}
use Rattle.odb_extent.proofs.Values.{opens_to, limit_back, fields_back}

-- a limit adds nothing to itself
pub adds_none : (n : ℕ) (bytes : List ℕ) → AddsZeros n n bytes
adds_none n bytes = record { long = λ less. absurd (omega arith); zero = λ i low high. absurd (omega arith) }

-- what is torn in front of the content leaves what a limit adds
pub adds_front : (from to : ℕ) (before image : List ℕ) → TornIn (InRange 0 1024) 1024 before image → AddsZeros from to before → AddsZeros from to image
adds_front from to before image t h = record {
  long = λ less. omega (arith, h.long less, t.no_shorter);
  zero = λ i low high.
      let less : from < to = omega arith in
      t.outside i (omega (arith, h.long less)) (λ p. omega (arith, p.1)) ∙ h.zero i low high;
}

-- by the name of another limit
pub adds_as : (from to a b : ℕ) (bytes : List ℕ) → from ≡ a → to ≡ b → AddsZeros from to bytes → AddsZeros a b bytes
adds_as from to a b bytes low high h = subst (λ (n : ℕ). AddsZeros a n bytes) high (subst (λ (n : ℕ). AddsZeros n to bytes) low h)

-- a value that the pair holds
pub holds_at : (e : ExtentState) (value bytes : List ℕ) → 1 ≤ limit_in value → limit_in value ≤ e.most → AddsZeros (limit_of e) (limit_in value) bytes → PairHolds value bytes
    → HoldsAt e (limit_in value) (fields_in value) bytes
holds_at e value bytes low high added pair = record { holds = opens_to e.most value bytes pair low high; added = added }

-- the value of this limit and these fields
pub record IsValueOf (limit : ℕ) (fields value : List ℕ) : Type 0 where
  pub limit_is : limit_in value ≡ limit
  pub fields_are : fields_in value ≡ fields

pub value_at : (e : ExtentState) (limit : ℕ) (fields value bytes : List ℕ) → IsValueOf limit fields value → 1 ≤ limit → limit ≤ e.most → AddsZeros (limit_of e) limit bytes → PairHolds value bytes
    → HoldsAt e limit fields bytes
value_at e limit fields value bytes is low high added pair =
    let here = holds_at e value bytes (omega (arith, is.limit_is)) (omega (arith, is.limit_is)) (adds_as (limit_of e) limit (limit_of e) (limit_in value) bytes refl (sym is.limit_is) added) pair in
    subst (λ (n : ℕ). HoldsAt e n fields bytes) is.limit_is (subst (λ (f : List ℕ). HoldsAt e (limit_in value) f bytes) is.fields_are here)

-- what the pair holds, the file holds
pub kept_holds : (e : ExtentState) (bytes : List ℕ) → IsSound e → AddsZeros (limit_of e) (limit_tried e) bytes → PairKept e.pair bytes → HoldsKept e bytes
kept_holds e bytes sound added pair =
    let low = sound.low in
    elim pair [
      | inl kept ↦ inl (holds_at e e.pair.value bytes sound.low sound.high (adds_none (limit_of e) bytes) kept)
      | inr tried ↦ inr (holds_at e e.pair.tried bytes (omega (arith, sound.low, sound.tried_low)) sound.tried_high added tried)
    ]

pub put_holds : (e : ExtentState) (limit : ℕ) (fields value bytes : List ℕ) → IsSound e → IsValueOf limit fields value → 1 ≤ limit → limit ≤ e.most
    → AddsZeros (limit_of e) (limit_tried e) bytes → AddsZeros (limit_of e) limit bytes → PairKeptOr e.pair value bytes → HoldsKeptOr e limit fields bytes
put_holds e limit fields value bytes sound is low high tried added pair =
    elim pair [
      | inl kept ↦ inl (kept_holds e bytes sound tried kept)
      | inr new ↦ inr (value_at e limit fields value bytes is low high added new)
    ]

-- at each moment of a call of the pair, whose bytes alone change
pub pair_runs : (e : ExtentState) (p : PairState) (Q D R : List ℕ → Type 0) (old new : World)
    → ((before image : List ℕ) → Q before → TornIn (InRange 0 1024) 1024 before image → D image → R image)
    → EachImage Q (file_of e.pair.file old) → p.file ≡ e.pair.file → RunsPair p D old new → RunsExtents e R old new
pair_runs e p Q D R old new step each same runs =
    let f = e.pair.file in
    let run : Runs f (EachImage D) old new = subst (λ (k : ℕ). Runs k (EachImage D) old new) same runs.run in
    let beside : Runs f (TornFrom 0 1024 (file_of f old)) old new = subst (λ (k : ℕ). Runs k (TornFrom 0 1024 (file_of k old)) old new) same runs.beside in
    record {
      run = torn_in_run_with (InRange 0 1024) 1024 Q D R f old new step each (run_inside (InRange 0 1024) 1024 f 0 1024 old new (λ i here. here) (omega arith) beside) run;
      beside = run_inside (IsBesideContent (limit_of e)) (content_end (limit_of e + 1)) f 0 1024 old new (λ i here. inl here.1) (omega arith) beside;
    }

-- and at its end
pub pair_done : (file : ℕ) (p : PairState) (Q D E R : List ℕ → Type 0) (old new : World)
    → ((before image : List ℕ) → Q before → TornIn (InRange 0 1024) 1024 before image → E image → R image)
    → EachImage Q (file_of file old) → p.file ≡ file → RunsPair p D old new → EachImage E (file_of file new) → EachImage R (file_of file new)
pair_done file p Q D E R old new step each same runs done =
    let beside : Runs file (TornFrom 0 1024 (file_of file old)) old new = subst (λ (k : ℕ). Runs k (TornFrom 0 1024 (file_of k old)) old new) same runs.beside in
    torn_in_done (InRange 0 1024) 1024 Q E R file old new step each (run_inside (InRange 0 1024) 1024 file 0 1024 old new (λ i here. here) (omega arith) beside) done

-- with this pair in place of its own
abbrev pub with_pair : ExtentState → PairState → ExtentState
with_pair e p = record { pair = p; most = e.most }

-- what a call of the pair that failed leaves, which tried this value or the one kept
pub record Leaves (e : ExtentState) (p : PairState) (value : List ℕ) : Type 0 where
  pub file : p.file ≡ e.pair.file
  pub kept : p.value ≡ e.pair.value
  pub tried : (p.tried ≡ e.pair.tried) ⊎ ((p.tried ≡ e.pair.value) ⊎ (p.tried ≡ value))

module _ (e : ExtentState) (p : PairState) (value : List ℕ) (left : Leaves e p value) where
  pub left_added : (bytes : List ℕ) → AddsZeros (limit_of e) (limit_tried e) bytes → AddsZeros (limit_of e) (limit_in value) bytes → AddsZeros (limit_in p.value) (limit_in p.tried) bytes
  left_added bytes before added =
      let kept : limit_of e ≡ limit_in p.value = ap limit_in (sym left.kept) in
      elim left.tried [
        | inl same ↦ adds_as (limit_of e) (limit_tried e) (limit_in p.value) (limit_in p.tried) bytes kept (ap limit_in (sym same)) before
        | inr (inl none) ↦ adds_as (limit_of e) (limit_of e) (limit_in p.value) (limit_in p.tried) bytes kept (ap limit_in (sym none)) (adds_none (limit_of e) bytes)
        | inr (inr given) ↦ adds_as (limit_of e) (limit_in value) (limit_in p.value) (limit_in p.tried) bytes kept (ap limit_in (sym given)) added
      ]

  pub left_sound : IsSound e → limit_of e ≤ limit_in value → limit_in value ≤ e.most → IsSound (with_pair e p)
  left_sound sound low high =
      let kept : limit_in p.value ≡ limit_of e = ap limit_in left.kept in
      record {
        low = omega (arith, kept, sound.low);
        high = omega (arith, kept, sound.high);
        most = sound.most;
        tried_low = elim left.tried [
          | inl same ↦ omega (arith, kept, ap limit_in same, sound.tried_low)
          | inr (inl none) ↦ omega (arith, kept, ap limit_in none)
          | inr (inr given) ↦ omega (arith, kept, ap limit_in given, low)
        ];
        tried_high = elim left.tried [
          | inl same ↦ omega (arith, ap limit_in same, sound.tried_high)
          | inr (inl none) ↦ omega (arith, ap limit_in none, sound.high)
          | inr (inr given) ↦ omega (arith, ap limit_in given, high)
        ];
      }

  pub left_tried : (limit : ℕ) (fields : List ℕ) → IsValueOf limit fields value → LeavesTried limit fields e (with_pair e p)
  left_tried limit fields is = record {
    file = left.file;
    most = refl;
    limit_is = ap limit_in left.kept;
    fields_are = ap fields_in left.kept;
    tried = elim left.tried [
      | inl same ↦ inl (ap limit_in same, ap fields_in same)
      | inr (inl none) ↦ inr (inl (ap limit_in none, ap fields_in none))
      | inr (inr given) ↦ inr (inr (ap limit_in given ∙ is.limit_is, ap fields_in given ∙ is.fields_are))
    ];
  }

-- where nothing but what was kept or tried before may be there
pub left_kept : (e : ExtentState) (p : PairState) (limit : ℕ) (fields : List ℕ) → Leaves e p e.pair.value → LeavesTried limit fields e (with_pair e p)
left_kept e p limit fields left = record {
  file = left.file;
  most = refl;
  limit_is = ap limit_in left.kept;
  fields_are = ap fields_in left.kept;
  tried = elim left.tried [
    | inl same ↦ inl (ap limit_in same, ap fields_in same)
    | inr (inl none) ↦ inr (inl (ap limit_in none, ap fields_in none))
    | inr (inr given) ↦ inr (inl (ap limit_in given, ap fields_in given))
  ];
}

-- where that call was of the pair as it stands in e
pub unsettled_leaves : (e : ExtentState) (p : PairState) (value : List ℕ) → p.file ≡ e.pair.file → LeavesUnsettled value e.pair p → Leaves e p value
unsettled_leaves e p value same left = record {
  file = same;
  kept = left.value;
  tried = elim left.tried [ inl before ↦ inl before | inr given ↦ inr (inr given) ];
}

-- what a put that succeeded leaves
module _ (e : ExtentState) (q p : PairState) (limit : ℕ) (fields value : List ℕ) (is : IsValueOf limit fields value) (put : p ≡ after_put q value) where
  kept_is : p.value ≡ value
  kept_is = ap (λ (k : PairState). k.value) put

  tried_is : p.tried ≡ value
  tried_is = ap (λ (k : PairState). k.tried) put

  limit_kept : limit_in p.value ≡ limit
  limit_kept = ap limit_in kept_is ∙ is.limit_is

  pub put_sound : 1 ≤ limit → limit ≤ e.most → e.most ≤ 4096 → IsSound (with_pair e p)
  put_sound low high most =
      let tried : limit_in p.tried ≡ limit = ap limit_in tried_is ∙ is.limit_is in
      record {
        low = omega (arith, limit_kept);
        high = omega (arith, limit_kept);
        most = most;
        tried_low = omega (arith, limit_kept, tried);
        tried_high = omega (arith, tried);
      }

  pub put_takes : p.file ≡ e.pair.file → Takes limit fields e (with_pair e p)
  put_takes same = record {
    file = same;
    most = refl;
    limit_is = limit_kept;
    fields_are = ap fields_in kept_is ∙ is.fields_are;
    settled = record { settled = ap (λ (k : PairState). k.settled) put; tried = tried_is ∙ sym kept_is };
  }

  pub put_added : (bytes : List ℕ) → AddsZeros (limit_in p.value) (limit_in p.tried) bytes
  put_added bytes = adds_as (limit_in p.value) (limit_in p.value) (limit_in p.value) (limit_in p.tried) bytes refl (ap limit_in (kept_is ∙ sym tried_is)) (adds_none (limit_in p.value) bytes)

-- a put of other fields under the limit kept
module _ (e : ExtentState) (fields value : List ℕ) (is : IsValueOf (limit_of e) fields value) (old new : World) (runs : RunsPair e.pair (PairKeptOr e.pair value) old new) where
  pub put_runs : IsSound e → Stands e (file_of e.pair.file old) → RunsExtents e (HoldsKeptOr e (limit_of e) fields) old new
  put_runs sound stands =
      pair_runs e e.pair (IsFileOf e) (PairKeptOr e.pair value) (HoldsKeptOr e (limit_of e) fields) old new
      (λ before image h t d.
      put_holds e (limit_of e) fields value image sound is sound.low sound.high (adds_front (limit_of e) (limit_tried e) before image t h.added) (adds_none (limit_of e) image) d)
      stands refl runs

  pub put_stands : (p : PairState) → Leaves e p value → Stands e (file_of e.pair.file old) → EachImage (StandsFor p) (file_of e.pair.file new) → Stands (with_pair e p) (file_of e.pair.file new)
  put_stands p left stands each =
      pair_done e.pair.file e.pair (IsFileOf e) (PairKeptOr e.pair value) (StandsFor p) (IsFileOf (with_pair e p)) old new
      (λ before image h t s. record {
        pair = s;
        added = left_added e p value left image (adds_front (limit_of e) (limit_tried e) before image t h.added)
            (adds_as (limit_of e) (limit_of e) (limit_of e) (limit_in value) image refl (sym is.limit_is) (adds_none (limit_of e) image));
      })
      stands refl runs each

  pub put_holding : IsSound e → EachImage (PairHolds value) (file_of e.pair.file new) → EachImage (HoldsAt e (limit_of e) fields) (file_of e.pair.file new)
  put_holding sound each =
      each_weakens (PairHolds value) (HoldsAt e (limit_of e) fields) (file_of e.pair.file new)
      (λ image h. value_at e (limit_of e) fields value image is sound.low sound.high (adds_none (limit_of e) image) h) each

-- bytes of the pair, with nothing tried, are those of the file
pub settled_stands : (e : ExtentState) (o : Option File) → e.pair.tried ≡ e.pair.value → EachImage (StandsFor e.pair) o → Stands e o
settled_stands e o same each = each_weakens (StandsFor e.pair) (IsFileOf e) o
    (λ image s. record { pair = s; added = adds_as (limit_of e) (limit_of e) (limit_of e) (limit_tried e) image refl (ap limit_in (sym same)) (adds_none (limit_of e) image) }) each

pub on_err_any : {T E : Type 0} (r : Result T E) (P : Type 0) → P → OnErr r P
on_err_any (Ok x) P here = tt
on_err_any (Err e) P here = here

pub made_value : (n limit : ℕ) (fields value : List ℕ) → value ≡ value_with n fields → n ≡ limit → n < 2 ^ 32 → length fields ≡ 36 → IsValueOf limit fields value
made_value n limit fields value is same small long = record {
  limit_is = ap limit_in is ∙ limit_back n fields small ∙ same;
  fields_are = ap fields_in is ∙ fields_back n fields long;
}

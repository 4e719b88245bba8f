-- The content of an extent file lies beside what this crate keeps: what the owner writes inside the
-- limit leaves the file one of these, and a call of this crate leaves what asks of the content.
use Rattle.std.proofs.Common.{inl, inr, ℕ, ◌+◌, ◌<◌, ◌≤◌, List, length, ◌∙◌, ap, arith}
use Rattle.odb_device.specs.World.{World, file_of}
use Rattle.odb_device.specs.Images.{EachImage}
use Rattle.odb_device.specs.Moments.{Runs}
use Rattle.odb_device.specs.TornSets.{InRange, TornIn}
use Rattle.odb_device.specs.Frames.{AsksOf}
use Rattle.odb_device.proofs.Frames.{frame, frame_holds}
use Rattle.odb_device.proofs.Writing.{torn_in_run_with}
use Rattle.odb_pair.specs.Places.{opened as pair_opened}
use Rattle.odb_pair.specs.Standing.{StandsFor}
use Rattle.odb_pair.specs.Laws.{pair_asks, opened_looks}
use Rattle.odb_extent.specs.Opened.{content_end, with_pair, AddsZeros}
use Rattle.odb_extent.specs.Standing.{ExtentState, limit_of, limit_tried, IsFileOf, HoldsAt, IsContent, IsBesideContent, RunsExtents}

-- writes inside the limit leave what a greater one adds
added_stays : (limit from to end : ℕ) (old new : List ℕ) → limit ≤ from → AddsZeros from to old
    → TornIn (IsContent limit) end old new → AddsZeros from to new
added_stays limit from to end old new low h t = record {
  long = λ less. omega (arith, h.long less, t.no_shorter);
  zero = λ i above below.
      let less : from < to = omega arith in
      t.outside i (omega (arith, h.long less)) (λ here. omega (arith, here.1)) ∙ h.zero i above below;
}

-- they leave the file one of these
pub stands_content : (e : ExtentState) (end : ℕ) (old new : List ℕ) → IsFileOf e old
    → TornIn (IsContent (limit_of e)) end old new → IsFileOf e new
stands_content e end old new h t = record {
  pair = frame_holds (InRange 0 1024) (IsContent (limit_of e)) 1024 end (StandsFor e.pair) old new
      (pair_asks e.pair) (λ i front here. omega (arith, front.1, here.0)) h.pair.long t h.pair;
  added = added_stays (limit_of e) (limit_of e) (limit_tried e) end old new (omega arith) h.added t;
}

-- and what it holds
pub holds_content : (e : ExtentState) (limit : ℕ) (fields : List ℕ) (end : ℕ) (old new : List ℕ)
    → 1024 ≤ length old → HoldsAt e limit fields old → TornIn (IsContent (limit_of e)) end old new
    → HoldsAt e limit fields new
holds_content e limit fields end old new long h t = record {
  holds = ap (with_pair e.most) (frame (InRange 0 1024) (IsContent (limit_of e)) 1024 end
      pair_opened old new opened_looks (λ i front here. omega (arith, front.1, here.0)) long t)
      ∙ h.holds;
  added = added_stays (limit_of e) (limit_of e) limit end old new (omega arith) h.added t;
}

-- what asks of the content alone is left by writes beside it
pub content_stays : (limit end : ℕ) (Q : List ℕ → Type 0) (old new : List ℕ)
    → AsksOf (IsContent limit) (content_end limit) Q → content_end limit ≤ length old
    → TornIn (IsBesideContent limit) end old new → Q old → Q new
content_stays limit end Q old new asks long t here =
    frame_holds (IsContent limit) (IsBesideContent limit) (content_end limit) end Q old new asks
    (λ i inside beside. elim beside [
      | inl front ↦ omega (arith, front, inside.0)
      | inr behind ↦ omega (arith, behind.0, inside.1)
    ])
    long t here

-- so at each moment of `grow` and `put_fields` it holds, beside what these promise
pub content_runs : (e : ExtentState) (Q R : List ℕ → Type 0) (old new : World)
    → AsksOf (IsContent (limit_of e)) (content_end (limit_of e)) Q
    → ((bytes : List ℕ) → Q bytes → content_end (limit_of e) ≤ length bytes)
    → EachImage Q (file_of e.pair.file old) → RunsExtents e R old new
    → Runs e.pair.file (EachImage (λ image. Q image × R image)) old new
content_runs e Q R old new asks long each runs =
    torn_in_run_with (IsBesideContent (limit_of e)) (content_end (limit_of e + 1)) Q R
    (λ image. Q image × R image) e.pair.file old new
    (λ before image q t r.
    (content_stays (limit_of e) (content_end (limit_of e + 1)) Q before image asks (long before q) t q, r))
    each runs.beside runs.run

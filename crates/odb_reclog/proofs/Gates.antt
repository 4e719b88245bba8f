-- What the calls that close a gate do to a file.
use Rattle.std.proofs.Common.{◌≡◌, ◌≢◌, ◌⊎◌, inl, inr, ℕ, ◌+◌, ◌-◌, ◌<◌, ◌≤◌, Bool, true, false, List, [], ◌∷◌, length, Option, Some, None, refl, sym, ◌∙◌, ap, subst, arith}
use Rattle.std.specs.Prelude.{slice_index, option_map, IfSome, IsTrue, ◌↔◌, ◌&&◌, ◌==◌, nat_lt, if◌then◌else◌}
use Rattle.std.proofs.lemmas.Bool.{cases_Bool}
use Rattle.std.proofs.lemmas.Bool.Decides.{nat_tests}
use Rattle.odb_device.specs.World.{File, World, file_of}
use Rattle.odb_device.specs.Images.{IsKept, Torn, TornFrom, overwritten, written, kept}
use Rattle.odb_device.specs.Moments.{Runs}
use Rattle.odb_device.proofs.Bytes.{image_kept, length-overwritten, overwritten-inside}
use Rattle.odb_device.proofs.Time.{joins, weakens, run_end}
use Rattle.odb_device.proofs.Torn.{torn_same, torn_overwritten}
use Rattle.odb_reclog.specs.Records.{OPEN, gate_at, log_of, end_of_list}
use Rattle.odb_reclog.specs.Moments.{KeepsLists}
use Rattle.odb_reclog.specs.Ends.{closed_at}
use Rattle.odb_reclog.proofs.Leading.{end_later}
use Rattle.odb_reclog.proofs.Closing.{closing_keeps}

-- a torn range within a greater one
pub torn_within : (at n from m : ℕ) (old new : List ℕ) → from ≤ at → at + n ≤ from + m → Torn at n old new → Torn from m old new
torn_within at n from m old new below above t = record {
  no_shorter = t.no_shorter;
  no_longer = omega (arith, t.no_longer);
  outside = λ i within out. t.outside i within (further i out);
}
  where
    further : (i : ℕ) → (i < from) ⊎ (from + m ≤ i) → (i < at) ⊎ (at + n ≤ i)
    further i (inl low) = inl (omega arith)
    further i (inr high) = inr (omega arith)

-- a file that stays keeps the lists of its images
pub keeps_same : (start end first at n : ℕ) (old new : Option File) → new ≡ old → KeepsLists start end first at n old new
keeps_same start end first at n None new is = is
keeps_same start end first at n (Some f) new is =
    subst (KeepsLists start end first at n (Some f)) (sym is) (λ image im. (image, im, torn_same at n image, refl))

-- what is known where a gate at the end of a list was found open
pub record EndsOpen (start end first place : ℕ) (bytes : List ℕ) : Type 0 where
  pub inside : place < end
  pub long : end ≤ length bytes
  pub ends : end_of_list start (log_of start end first bytes) ≡ place
  pub is_open : gate_at place bytes ≡ OPEN

pub ends_open : (start end first place : ℕ) (answer : Bool) (o : Option File) → place ≤ end → place ≢ end → answer ≡ true
    → IfSome o (λ f. end ≤ length f.bytes)
    → IfSome o (λ f. end_of_list start (log_of start end first f.bytes) ≡ place)
    → IfSome o (λ f. place < length f.bytes → IsTrue answer ↔ (gate_at place f.bytes ≡ OPEN))
    → IfSome o (λ f. EndsOpen start end first place f.bytes)
ends_open start end first place answer None below other yes_open long ends gate = tt
ends_open start end first place answer (Some f) below other yes_open long ends gate =
    record { inside = omega arith; long = long; ends = ends; is_open = (gate (omega arith)).0 yes_open }

torn_keeps : (start end first place : ℕ) (old new : Option File) → IsKept old → IfSome old (λ f. EndsOpen start end first place f.bytes)
    → TornFrom place 1 old new
    → KeepsLists start end first start (end - start) old new
torn_keeps start end first place None new is_kept e from = from
torn_keeps start end first place (Some f) None is_kept e from = tt
torn_keeps start end first place (Some f) (Some g) is_kept e from = λ image is.
    let b = from image is in
    let low : start ≤ place = omega (arith, end_later start (log_of start end first f.bytes), e.ends) in
    let same : b.0 ≡ f.bytes = image_kept f b.0 is_kept b.1 in
    let t : Torn place 1 f.bytes image = subst (λ (l : List ℕ). Torn place 1 l image) same b.2 in (
      b.0,
      b.1,
      torn_within place 1 start (end - start) b.0 image low (omega (arith, e.inside)) b.2,
      closing_keeps start end first place f.bytes image e.inside e.long e.ends e.is_open t ∙ ap (log_of start end first) (sym same),
    )

pub closing_run : (file start end first place : ℕ) (w w1 w2 : World) → Runs file (λ f. f ≡ file_of file w) w w1
    → Runs file (TornFrom place 1 (file_of file w1)) w1 w2 → IsKept (file_of file w)
    → IfSome (file_of file w) (λ f. EndsOpen start end first place f.bytes)
    → Runs file (KeepsLists start end first start (end - start) (file_of file w)) w w2
closing_run file start end first place w w1 w2 reads writes is_kept e =
    let same : file_of file w1 ≡ file_of file w = run_end file (λ f. f ≡ file_of file w) w w1 reads in
    joins file (KeepsLists start end first start (end - start) (file_of file w)) w w1 w2
    (weakens file (λ f. f ≡ file_of file w) (KeepsLists start end first start (end - start) (file_of file w)) w w1
    (λ o is. keeps_same start end first start (end - start) (file_of file w) o is) reads)
    (weakens file (TornFrom place 1 (file_of file w1)) (KeepsLists start end first start (end - start) (file_of file w)) w1 w2
    (λ o from. torn_keeps start end first place (file_of file w) o is_kept e (subst (λ f. TornFrom place 1 f o) same from)) writes)

gate_put : (place b : ℕ) (bytes : List ℕ) → gate_at place (overwritten place (b ∷ []) bytes) ≡ b
unfolding gate_at
gate_put place b bytes =
    let there : place ≡ place + 0 = omega arith in
    ap (slice_index (overwritten place (b ∷ []) bytes)) there ∙ overwritten-inside place (b ∷ []) bytes 0 (omega arith)

-- the gate at the end of a list is closed, and the list is as before
pub record HasClosed (start end first place : ℕ) (old new : List ℕ) : Type 0 where
  pub list : log_of start end first new ≡ log_of start end first old
  pub closed : place < end → gate_at place new ≢ OPEN
  pub long : length old ≤ length new

has_closed : (start end first place : ℕ) (bytes : List ℕ) → EndsOpen start end first place bytes
    → HasClosed start end first place bytes (overwritten place (0 ∷ []) bytes)
has_closed start end first place bytes e = record {
  list = closing_keeps start end first place bytes (overwritten place (0 ∷ []) bytes) e.inside e.long e.ends e.is_open
      (torn_overwritten place (0 ∷ []) bytes);
  closed = λ inside is_open. absurd (zero_not (sym (gate_put place 0 bytes) ∙ is_open));
  long = omega (arith, length-overwritten place (0 ∷ []) bytes);
}
  where
    zero_not : (◌≡◌ {A = ℕ} 0 165) → ⊥
    zero_not is = cc

-- what closing leaves
pub closed_has : (start end first place : ℕ) (f : File) → end ≤ length f.bytes → end_of_list start (log_of start end first f.bytes) ≡ place
    → HasClosed start end first place f.bytes (closed_at place end f).bytes
closed_has start end first place f long ends = elim (cases_Bool (nat_lt place end && gate_at place f.bytes == OPEN)) [
  | inl to_close ↦
      let inside : place < end = grind (arith, nat_tests) in
      let is_open : gate_at place f.bytes ≡ OPEN = grind (arith, nat_tests) in
      subst (λ (b : Bool). HasClosed start end first place f.bytes (kept (if b then written place (0 ∷ []) f else f)).bytes) (sym to_close)
      (has_closed start end first place f.bytes (record { inside = inside; long = long; ends = ends; is_open = is_open }))
  | inr not_to ↦
      let shut : place < end → gate_at place f.bytes ≢ OPEN = λ inside is_open. absurd (grind (arith, nat_tests)) in
      subst (λ (b : Bool). HasClosed start end first place f.bytes (kept (if b then written place (0 ∷ []) f else f)).bytes) (sym not_to)
      (record { list = refl; closed = shut; long = omega arith })
]

module _ (place end : ℕ) where
  -- of a file whose gate was open
  pub closes_open : (start first : ℕ) (old mid new : Option File) → mid ≡ old → new ≡ option_map (λ f. kept (written place (0 ∷ []) f)) mid
      → IfSome old (λ f. EndsOpen start end first place f.bytes)
      → new ≡ option_map (closed_at place end) old
  closes_open start first None mid new same puts e = puts ∙ ap (option_map (λ f. kept (written place (0 ∷ []) f))) same
  closes_open start first (Some f) mid new same puts e =
      let to_close : (nat_lt place end && gate_at place f.bytes == OPEN) ≡ true = grind (arith, nat_tests, e.inside, e.is_open) in
      puts ∙ ap (option_map (λ f. kept (written place (0 ∷ []) f))) same
      ∙ ap (λ (b : Bool). Some (kept (if b then written place (0 ∷ []) f else f))) (sym to_close)

  -- a sync before it makes no difference
  pub closes_kept : (old mid new : Option File) → mid ≡ option_map kept old → new ≡ option_map (closed_at place end) mid
      → new ≡ option_map (closed_at place end) old
  closes_kept None mid new is closes = closes ∙ ap (option_map (closed_at place end)) is
  closes_kept (Some f) mid new is closes = closes ∙ ap (option_map (closed_at place end)) is ∙ ap Some (once f)
    where
      same : (f : File) (b : Bool)
          → kept (if b then written place (0 ∷ []) (kept f) else kept f) ≡ kept (if b then written place (0 ∷ []) f else f)
      same f true = refl
      same f false = refl

      once : (f : File) → closed_at place end (kept f) ≡ closed_at place end f
      once f = same f (nat_lt place end && gate_at place f.bytes == OPEN)

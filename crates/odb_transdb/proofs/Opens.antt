-- What the parts of an opening leave.
use Rattle.std.proofs.Common.{◌≡◌, ◌≢◌, ◌⊎◌, inl, inr, ℕ, ◌+◌, ◌<◌, ◌≤◌, Bool, true, false, List, [], ◌∷◌, length, Option, Some, None, refl, sym, ◌∙◌, ap, subst, arith}
use Rattle.std.specs.Prelude.{is_some, IfSome, option_map, slice_index, nat_lt, ◌==◌, ◌&&◌, if◌then◌else◌}
use Rattle.std.proofs.lemmas.Bool.{false≢true, and_parts, ltb-true, eqb-true, ne_eqb, cases_eq, cases_lt}
use Rattle.odb_device.specs.World.{File, World, file_of}
use Rattle.odb_device.specs.Images.{ReadsImage, overwritten, written, kept}
use Rattle.odb_device.specs.Calls.{CallsOn, Stays}
use Rattle.odb_device.specs.Moments.{Runs}
use Rattle.odb_device.proofs.Bytes.{length-overwritten, overwritten-front, overwritten-inside, overwritten-after}
use Rattle.odb_device.proofs.Time.{begins, goes_on, joins, weakens}
use Rattle.odb_reclog.specs.Records.{OPEN, gate_at, log_of, end_of_list}
use Rattle.odb_reclog.specs.Standing.{Log, Stands as LogStands, list_of, list_in}
use Rattle.odb_reclog.specs.Ends.{closed_at}
use Rattle.odb_model.specs.declared.side.OtherSide.{OtherSide}
use Rattle.odb_model.specs.declared.side.OtherSide.TheVariants.{Live}
use Rattle.odb_transdb.specs.declared.header.Header.{Header}
use Rattle.odb_transdb.specs.Header.{side_start, first_on, active_first, other_of}
use Rattle.odb_transdb.specs.Opened.{damaged, side_list, side_entries, joined, with_entries, with_sides}
use Rattle.odb_transdb.specs.Standing.{IsOfSide}
use Rattle.odb_transdb.specs.Answers.{ClosesGates}
use Rattle.odb_transdb.specs.Opening.{GoesOn}
use Rattle.odb_transdb.proofs.Standing.{log_list}

-- a look at the length, and a walk behind it
pub look_then : (w mid now : World) → CallsOn 0 w mid → Stays 0 w mid → Runs 0 (λ f. f ≡ file_of 0 mid) mid now → Runs 0 (λ f. f ≡ file_of 0 w) w now
look_then w mid now call same run =
    joins 0 (λ f. f ≡ file_of 0 w) w mid now (goes_on 0 (λ f. f ≡ file_of 0 w) w w mid (begins 0 (λ f. f ≡ file_of 0 w) w refl) call same)
    (weakens 0 (λ f. f ≡ file_of 0 mid) (λ f. f ≡ file_of 0 w) mid now (λ o is. is ∙ same) run)

-- each byte stays, or was an open gate and is closed
abbrev Closes : List ℕ → List ℕ → Type 0
Closes old new = (length new ≡ length old) × ((i : ℕ) → (slice_index new i ≡ slice_index old i) ⊎ ((slice_index old i ≡ OPEN) × (slice_index new i ≡ 0)))

closes_none : (bytes : List ℕ) → Closes bytes bytes
closes_none bytes = (refl, λ i. inl refl)

closes_one : (place : ℕ) (bytes : List ℕ) → place < length bytes → slice_index bytes place ≡ OPEN → Closes bytes (overwritten place (0 ∷ []) bytes)
closes_one place bytes inside is_open = (omega (arith, length-overwritten place (0 ∷ []) bytes), each)
  where
    each : (i : ℕ) → (slice_index (overwritten place (0 ∷ []) bytes) i ≡ slice_index bytes i) ⊎ ((slice_index bytes i ≡ OPEN) × (slice_index (overwritten place (0 ∷ []) bytes) i ≡ 0))
    each i = elim (cases_eq i place) [
      | inl here ↦
          let there : place + 0 ≡ i = omega arith in
          let one : 0 < length {A = ℕ} (0 ∷ []) = omega arith in
          inr (ap (slice_index bytes) here ∙ is_open, ap (slice_index (overwritten place (0 ∷ []) bytes)) (sym there) ∙ overwritten-inside place (0 ∷ []) bytes 0 one)
      | inr other ↦ inl (elim (cases_lt i place) [
        | inl before ↦ overwritten-front place (0 ∷ []) bytes i before
        | inr behind ↦ overwritten-after place (0 ∷ []) bytes i (omega arith)
      ])
    ]

closes_both : (a b c : List ℕ) → Closes a b → Closes b c → Closes a c
closes_both a b c first second = (
  second.0 ∙ first.0,
  λ i. elim (second.1 i) [
    | inl same ↦ elim (first.1 i) [
      | inl also ↦ inl (same ∙ also)
      | inr shut ↦ inr (shut.0, same ∙ shut.1)
    ]
    | inr shut ↦ elim (first.1 i) [
      | inl also ↦ inr (sym also ∙ shut.0, shut.1)
      | inr before ↦ let wrong : 0 ≡ OPEN = sym before.1 ∙ shut.0 in absurd (omega arith)
    ]
  ],
)

closes_at : (place end : ℕ) (f : File) → end ≤ length f.bytes → Closes f.bytes (closed_at place end f).bytes
unfolding gate_at
closes_at place end f long = of_test (nat_lt place end && gate_at place f.bytes == OPEN) refl
  where
    of_test : (b : Bool) → (nat_lt place end && gate_at place f.bytes == OPEN) ≡ b → Closes f.bytes (closed_at place end f).bytes
    of_test false shut = subst (λ (b : Bool). Closes f.bytes (kept (if b then written place (0 ∷ []) f else f)).bytes) (sym shut) (closes_none f.bytes)
    of_test true is_open =
        let both = and_parts (nat_lt place end) (gate_at place f.bytes == OPEN) is_open in
        let low : place < end = ltb-true place end both.0 in
        subst (λ (b : Bool). Closes f.bytes (kept (if b then written place (0 ∷ []) f else f)).bytes) (sym is_open)
        (closes_one place f.bytes (omega arith) (eqb-true (gate_at place f.bytes) OPEN both.1))

pub gates_at : (place end : ℕ) (o now : Option File) → IfSome o (λ f. end ≤ length f.bytes) → now ≡ option_map (closed_at place end) o → ClosesGates o now
gates_at place end None now long is = tt
gates_at place end (Some f) now long is = subst (ClosesGates (Some f)) (sym is) (closes_at place end f long)

pub gates_none : (o now : Option File) → now ≡ o → ClosesGates o now
gates_none None now is = tt
gates_none (Some f) now is = subst (ClosesGates (Some f)) (sym is) (closes_none f.bytes)

pub gates_then : (a b c : Option File) → is_some b ≡ is_some a → ClosesGates a b → ClosesGates b c → ClosesGates a c
gates_then None b c told first second = tt
gates_then (Some f) None c told first second = absurd first
gates_then (Some f) (Some g) None told first second = absurd second
gates_then (Some f) (Some g) (Some h) told first second = closes_both f.bytes g.bytes h.bytes first second

-- where the list of an opened side ends
pub side_ends : (h : Header) (side : ℕ) (log : Log) (o now : Option File) → IsOfSide h side log → is_some now ≡ is_some o → ReadsImage now → LogStands log now → list_of log now ≡ list_in log.start log.end log.first o → IfSome o (λ f. GoesOn h side f.bytes log)
side_ends h side log None now is told reads stands same = tt
side_ends h side log (Some f) None is told reads stands same = absurd (false≢true told)
side_ends h side log (Some f) (Some g) is told reads stands same =
    let one = stands g.bytes reads in
    let list : log_of log.start log.end log.first g.bytes ≡ side_list h side f.bytes = same ∙ log_list h side log f.bytes is in
    record {
      place = ap (λ (p : ℕ). end_of_list p (side_list h side f.bytes)) (sym is.start) ∙ ap (end_of_list log.start) (sym list) ∙ one.place;
      number = ap (λ (n : ℕ). n + length (side_list h side f.bytes)) (sym is.first) ∙ ap (λ (l : List (List ℕ)). log.first + length l) (sym list) ∙ one.number;
    }

-- a Live side that ends elsewhere is damaged at its end
pub ends_wrong : (h : Header) (bytes : List ℕ) (log : Log) → h.other ≡ Live → GoesOn h (other_of h) bytes log → log.next ≢ active_first h → with_sides h h.other bytes ≡ damaged log.place
ends_wrong h bytes log live ends other =
    let list = side_list h (other_of h) bytes in
    let fails : (first_on h (other_of h) + length list == active_first h) ≡ false = ne_eqb (first_on h (other_of h) + length list) (active_first h) (λ same. other (sym ends.number ∙ same)) in
    ap (λ (o : OtherSide). with_sides h o bytes) live
    ∙ ap (λ (b : Bool). if b then with_entries h (joined (side_entries h (other_of h) bytes) (side_entries h h.active bytes)) else damaged (end_of_list (side_start h (other_of h)) list)) fails
    ∙ ap damaged ends.place

pub told_wrong : (h : Header) (o : Option File) (log : Log) (place : ℕ) → h.other ≡ Live → place ≡ log.place → IfSome o (λ f. GoesOn h (other_of h) f.bytes log) → log.next ≢ active_first h
    → IfSome o (λ f. with_sides h h.other f.bytes ≡ damaged place)
told_wrong h None log place live there ends other = tt
told_wrong h (Some f) log place live there ends other = ends_wrong h f.bytes log live ends other ∙ ap damaged (sym there)

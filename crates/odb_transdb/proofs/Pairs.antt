-- What the pair of TRANSDB's file decides.
use Rattle.std.proofs.Common.{◌≡◌, inl, inr, ℕ, List, length, Option, Some, None, Err, refl, sym, ◌∙◌, ap, subst, arith}
use Rattle.std.specs.Prelude.{is_some, option_map, IfSome}
use Rattle.std.proofs.lemmas.List.{same_lists, get_or_default}
use Rattle.odb_device.specs.World.{File, World, file_of}
use Rattle.odb_device.specs.Images.{IsImage, ReadsImage, IsKept, Torn, TornFrom, kept}
use Rattle.odb_device.specs.Moments.{Runs}
use Rattle.odb_device.proofs.Bytes.{image_kept}
use Rattle.odb_device.proofs.Time.{joins, weakens}
use Rattle.odb_device.proofs.Torn.{each_weakens}
use Rattle.odb_pair.specs.Places.{Opened as PairOpened, no_open_place, malformed, holding as holding_value, opened as pair_opened}
use Rattle.odb_transdb.specs.declared.header.Header.{Header}
use Rattle.odb_transdb.specs.declared.error.TransdbError.{TransdbError}
use Rattle.odb_transdb.specs.declared.error.TransdbError.TheVariants.{NoDatabase, Damaged, Full, FaultBefore, InDoubt, NotClean, Held, Fault, NoMemory}
use Rattle.odb_transdb.specs.Header.{header_of}
use Rattle.odb_transdb.specs.Opened.{Opened, damaged, with_header, with_pair, opened}
use Rattle.odb_transdb.specs.Answers.{IsAnswerBy, KeepsOpened, ClosesGates}
use Rattle.odb_transdb.specs.Opening.{IsPairFound}
use Rattle.odb_transdb.proofs.Opens.{gates_then}

-- bytes of which none may be others stay
torn_zero : (before image : List ℕ) → Torn 0 0 before image → image ≡ before
torn_zero before image torn =
    let long : length image ≡ length before = omega (arith, torn.no_shorter, torn.no_longer) in
    same_lists image before long (λ i d low. get_or_default image i d 0 low ∙ torn.outside i (omega arith) (inr (omega arith)) ∙ sym (get_or_default before i d 0 (omega arith)))

torn_opens : (o p : Option File) → TornFrom 0 0 o p → KeepsOpened o p
torn_opens None p torn = torn
torn_opens (Some f) p torn =
    each_weakens (λ image. (before : List ℕ) × IsImage f before × Torn 0 0 before image) (λ image. (before : List ℕ) × IsImage f before × (opened image ≡ opened before)) p
    (λ image b. (b.0, b.1, ap opened (torn_zero b.0 image b.2))) torn

pub pair_run : (w mid : World) → Runs 0 (TornFrom 0 0 (file_of 0 w)) w mid → Runs 0 (KeepsOpened (file_of 0 w)) w mid
pair_run w mid run = weakens 0 (TornFrom 0 0 (file_of 0 w)) (KeepsOpened (file_of 0 w)) w mid (λ p torn. torn_opens (file_of 0 w) p torn) run

-- what is on the disk opens to what was read
kept_opens : (o mid p : Option File) → ReadsImage o → mid ≡ option_map kept o → KeepsOpened mid p → KeepsOpened o p
kept_opens None mid p reads is keeps = subst (λ (x : Option File). KeepsOpened x p) is keeps
kept_opens (Some f) mid p reads is keeps =
    each_weakens (λ image. (before : List ℕ) × IsImage (kept f) before × (opened image ≡ opened before)) (λ image. (before : List ℕ) × IsImage f before × (opened image ≡ opened before)) p
    (λ image b. (f.bytes, reads, b.2 ∙ ap opened (image_kept (kept f) b.0 (refl, refl) b.1))) (subst (λ (x : Option File). KeepsOpened x p) is keeps)

pub open_run : (w mid now : World) → ReadsImage (file_of 0 w) → Runs 0 (TornFrom 0 0 (file_of 0 w)) w mid → file_of 0 mid ≡ option_map kept (file_of 0 w) → Runs 0 (KeepsOpened (file_of 0 mid)) mid now → Runs 0 (KeepsOpened (file_of 0 w)) w now
open_run w mid now reads first is second =
    let o = file_of 0 w in
    joins 0 (KeepsOpened o) w mid now (pair_run w mid first) (weakens 0 (KeepsOpened (file_of 0 mid)) (KeepsOpened o) mid now (λ p keeps. kept_opens o (file_of 0 mid) p reads is keeps) second)

pub gates_kept : (o now : Option File) → now ≡ option_map kept o → ClosesGates o now
gates_kept None now is = tt
gates_kept (Some f) now is = subst (ClosesGates (Some f)) (sym is) (refl, λ i. inl refl)

told_kept : (o now : Option File) → now ≡ option_map kept o → is_some now ≡ is_some o
told_kept None now is = ap is_some is
told_kept (Some f) now is = ap is_some is

pub open_gates : (o mid now : Option File) → mid ≡ option_map kept o → ClosesGates mid now → ClosesGates o now
open_gates o mid now is gates = gates_then o mid now (told_kept o mid is) (gates_kept o mid is) gates

-- all is on the disk, and the bytes are as they were
pub is_kept : (o now : Option File) → now ≡ option_map kept o → IsKept now
is_kept None now is = subst IsKept (sym is) tt
is_kept (Some f) now is = subst IsKept (sym is) (refl, refl)

pub found_kept : (value : List ℕ) (o now : Option File) → now ≡ option_map kept o → IfSome o (λ f. pair_opened f.bytes ≡ holding_value value) → IfSome now (λ f. pair_opened f.bytes ≡ holding_value value)
found_kept value None now is found = subst (λ (x : Option File). IfSome x (λ f. pair_opened f.bytes ≡ holding_value value)) (sym is) tt
found_kept value (Some f) now is found = subst (λ (x : Option File). IfSome x (λ f. pair_opened f.bytes ≡ holding_value value)) (sym is) found

by_pair : (bytes : List ℕ) (p : PairOpened) → pair_opened bytes ≡ p → opened bytes ≡ with_pair p bytes
unfolding opened
by_pair bytes p is = ap (λ (p : PairOpened). with_pair p bytes) is

-- no pair in order
pub pair_refused : {T : Type 0} (P : T → Opened → Type 0) (o : Option File) (e : TransdbError) → IfSome o (λ f. IsPairFound (Err e) (pair_opened f.bytes)) → IfSome o (λ f. IsAnswerBy P (Err e) (opened f.bytes))
pair_refused P None e found = tt
pair_refused P (Some f) e found = of_error e found
  where
    of_error : (e : TransdbError) → IsPairFound (Err e) (pair_opened f.bytes) → IsAnswerBy P (Err e) (opened f.bytes)
    of_error NoDatabase found = by_pair f.bytes no_open_place found
    of_error (Damaged at) found = by_pair f.bytes malformed found.1 ∙ ap damaged (sym found.0)
    of_error (Full need room) found = absurd found
    of_error NotClean found = absurd found
    of_error (Held mark last) found = absurd found
    of_error FaultBefore found = absurd found
    of_error (InDoubt number) found = absurd found
    of_error Fault found = tt
    of_error NoMemory found = absurd found

-- or one that keeps no lawful header
pub header_refused : (o : Option File) (value : List ℕ) → IfSome o (λ f. pair_opened f.bytes ≡ holding_value value) → header_of value ≡ None → IfSome o (λ f. opened f.bytes ≡ damaged 0)
header_refused None value found none = tt
header_refused (Some f) value found none = by_pair f.bytes (holding_value value) found ∙ ap (λ (o : Option Header). with_header o f.bytes) none

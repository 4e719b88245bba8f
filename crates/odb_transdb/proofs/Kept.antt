-- The places kept of a side's records.
use Rattle.std.proofs.Common.{◌≡◌, ◌⊎◌, ℕ, ◌+◌, ◌*◌, ◌<◌, ◌≤◌, List, [], ◌∷◌, ◌++◌, length, Option, Some, None, refl, sym, ◌∙◌, ap, subst, inl, inr, arith, length-append}
use Rattle.std.specs.Prelude.{IfSome, slice_index}
use Rattle.std.proofs.lemmas.Bool.{cases_lt}
use Rattle.std.proofs.lemmas.List.{take-append-le, take_all, get_or_append_left, get_or_push}
use Rattle.odb_device.specs.World.{File}
use Rattle.odb_device.specs.Images.{ReadsImage, TornFrom}
use Rattle.odb_device.proofs.Torn.{torn_each}
use Rattle.odb_reclog.specs.Records.{end_of_list}
use Rattle.odb_reclog.specs.Standing.{Log, StandsFor as LogStandsFor, Stands as LogStands, list_of, tail_of}
use Rattle.odb_reclog.proofs.Laws.{stands_beside as log_beside}
use Rattle.odb_transdb.specs.Kept.{AreSteps, AreKept, AreWithin}

-- no place yet
pub steps_none : (start : ℕ) (list : List (List ℕ)) → AreSteps start list []
steps_none start list = record { few = omega arith; each = λ k inside. absurd (omega arith) }

-- more records behind leave the places
pub steps_more : (start : ℕ) (list more : List (List ℕ)) (places : List ℕ) → AreSteps start list places → AreSteps start (list ++ more) places
steps_more start list more places are = record {
  few = omega (arith, are.few, length-append list more);
  each = λ k inside. are.each k inside ∙ ap (end_of_list start) (sym (take-append-le (64 * (k + 1)) list more (omega (arith, are.few))));
}

-- the next place
pub steps_push : (start : ℕ) (list : List (List ℕ)) (places : List ℕ) (place : ℕ) → AreSteps start list places → 64 * (length places + 1) ≡ length list → place ≡ end_of_list start list → AreSteps start list (places ++ place ∷ [])
steps_push start list places place are enough here = record {
  few = omega (arith, length-append places (place ∷ []));
  each = λ k inside. elim (cases_lt k (length places)) [
    | inl low ↦ get_or_append_left places (place ∷ []) 0 k low ∙ are.each k low
    | inr high ↦
        let last : length places ≡ k = omega (arith, length-append places (place ∷ [])) in
        get_or_push places place 0 k last ∙ here ∙ ap (end_of_list start) (sym (take_all (64 * (k + 1)) list (omega arith)))
  ];
}

-- what keeping a place where it is the next to be kept leaves
abbrev pub KeepsNext : ℕ → ℕ → ℕ → List ℕ → List ℕ → Type 0
KeepsNext first number place old new = (new ≡ old) ⊎ ((new ≡ old ++ place ∷ []) × (first + 64 * (length old + 1) ≡ number))

pub kept_next : (first begin start number place : ℕ) (done : List (List ℕ)) (payload : List ℕ) (old new : List ℕ) → AreSteps start done old → begin ≡ first → number ≡ first + length (done ++ payload ∷ []) → place ≡ end_of_list start (done ++ payload ∷ [])
    → KeepsNext begin number place old new → AreSteps start (done ++ payload ∷ []) new
kept_next first begin start number place done payload old new are same count here (inl still) = subst (AreSteps start (done ++ payload ∷ [])) (sym still) (steps_more start done (payload ∷ []) old are)
kept_next first begin start number place done payload old new are same count here (inr more) =
    let list = done ++ payload ∷ [] in
    subst (AreSteps start list) (sym more.0) (steps_push start list old place (steps_more start done (payload ∷ []) old are) (omega (arith, same, count, more.1)) here)

pub kept_end : (log : Log) (list : List (List ℕ)) (old new : List ℕ) → AreSteps log.start list old → log.first + length list ≡ log.next → end_of_list log.start list ≡ log.place → KeepsNext log.first log.next log.place old new → AreSteps log.start list new
kept_end log list old new are count here (inl still) = subst (AreSteps log.start list) (sym still) are
kept_end log list old new are count here (inr more) = subst (AreSteps log.start list) (sym more.0) (steps_push log.start list old log.place are (omega (arith, count, more.1)) (sym here))

pub within_end : (log : Log) (old new : List ℕ) → AreWithin log old → log.start ≤ log.place → KeepsNext log.first log.next log.place old new → AreWithin log new
within_end log old new is low (inl still) = subst (AreWithin log) (sym still) is
within_end log old new is low (inr more) =
    let last : (k : ℕ) → k < length (old ++ log.place ∷ []) → length old ≤ k → slice_index (old ++ log.place ∷ []) k ≡ log.place =
    λ k inside high. get_or_push old log.place 0 k (omega (arith, length-append old (log.place ∷ []))) in
    subst (AreWithin log) (sym more.0)
    (record {
      few = omega (arith, more.1, length-append old (log.place ∷ []));
      low = λ k inside. elim (cases_lt k (length old)) [
        | inl before ↦ omega (arith, get_or_append_left old (log.place ∷ []) 0 k before, is.low k before)
        | inr high ↦ omega (arith, last k inside high, low)
      ];
      high = λ k inside. elim (cases_lt k (length old)) [
        | inl before ↦ omega (arith, get_or_append_left old (log.place ∷ []) 0 k before, is.high k before)
        | inr high ↦ omega (arith, last k inside high)
      ];
    })

-- of the same list
pub steps_same : (start now : ℕ) (list new : List (List ℕ)) (places : List ℕ) → now ≡ start → new ≡ list → AreSteps start list places → AreSteps now new places
steps_same start now list new places here same are =
    subst (λ (s : ℕ). AreSteps s new places) (sym here) (subst (λ (l : List (List ℕ)). AreSteps start l places) (sym same) are)

-- a log of another region of the file keeps its list, and so its places
pub kept_stays : (log : Log) (places : List ℕ) (at n : ℕ) (o now : Option File) → (at + n ≤ log.start) ⊎ (log.end ≤ at) → LogStands log o → TornFrom at n o now → ReadsImage now
    → IfSome o (λ f. AreKept log places (Some f)) → IfSome now (λ g. AreKept log places (Some g))
kept_stays log places at n o None beside stands torn reads kept = tt
kept_stays log places at n None (Some g) beside stands torn reads kept = absurd (cc torn)
kept_stays log places at n (Some f) (Some g) beside stands torn reads kept =
    let records = list_of log (Some f) in
    let between = tail_of log (Some f) in
    let each = torn_each (LogStandsFor log records between) (LogStandsFor log records between) at n (Some f) (Some g) (λ before image one t. log_beside log records between at n before image one t beside) stands torn in
    steps_same log.start log.start records (list_of log (Some g)) places refl (each g.bytes reads).list kept

-- of a file that is told, what follows from what is said of it
pub if_told_then : (P Q : File → Type 0) (o : Option File) → ((f : File) → P f → Q f) → IfSome o P → IfSome o Q
if_told_then P Q None gives is = tt
if_told_then P Q (Some f) gives is = gives f is

-- a log that goes on keeps them
pub within_later : (log new : Log) (places : List ℕ) → new.start ≡ log.start → new.first ≡ log.first → log.place ≤ new.place → log.next ≤ new.next → AreWithin log places → AreWithin new places
within_later log new places start first further later is = record {
  few = omega (arith, is.few);
  low = λ k inside. omega (arith, is.low k inside);
  high = λ k inside. omega (arith, is.high k inside);
}

pub within_none : (log : Log) → log.first ≤ log.next → AreWithin log []
within_none log least = record { few = omega arith; low = λ k inside. absurd (omega arith); high = λ k inside. absurd (omega arith) }

-- What bytes open to whose extents keep lawful fields.
use Rattle.std.proofs.Common.{◌≡◌, ◌⊎◌, inl, inr, ℕ, ◌+◌, ◌*◌, ◌-◌, ◌^◌, ◌<◌, ◌≤◌, Bool, true, false, List, [], ◌∷◌, length, Option, Some, None, refl, sym, ◌∙◌, ap, subst, arith}
use Rattle.std.specs.Prelude.{◌==◌, nat_lt, if◌then◌else◌}
use Rattle.std.proofs.lemmas.Bool.Decides.{nat_tests}
use Rattle.odb_device.specs.Images.{Torn}
use Rattle.odb_pair.specs.Laws.{opens_beside}
use Rattle.odb_extent.specs.Opened.{Opened as ExtentsOpened, no_open_place, malformed, holding as holding_extents, opened as extents_opened, with_pair, Holds as ExtentsHold, content_end}
use Rattle.odb_reclog.specs.Records.{payload_at, end_at, records_from, log_of}
use Rattle.odb_reclog.proofs.Records.{no_room}
use Rattle.odb_entries.specs.Listed.{entries_from, entries_at}
use Rattle.odb_logdb.specs.declared.fields.LogFields.{LogFields}
use Rattle.odb_logdb.specs.Fields.{LIVE, DIRTY, is_lawful, lawful, lawful_in}
use Rattle.odb_logdb.specs.Opened.{Opened, MOST, damaged, holding, records_start, with_entries, with_state, with_fields, with_extents, opened}
use Rattle.odb_logdb.specs.Opening.{list_start}

-- what lawful fields are
pub record IsLawful (limit : ℕ) (f : LogFields) : Type 0 where
  pub format : f.format ≡ 1
  pub low : LIVE ≤ f.state
  pub high : f.state ≤ DIRTY
  pub some : 1 ≤ f.first
  pub first : f.first ≤ 2 ^ 63
  pub start : f.start ≤ 1048576 * limit

pub lawful_is : (limit : ℕ) (f : LogFields) → is_lawful limit f ≡ true → IsLawful limit f
lawful_is limit f is = record {
  format = grind (arith, nat_tests);
  low = grind (arith, nat_tests);
  high = grind (arith, nat_tests);
  some = grind (arith, nat_tests);
  first = grind (arith, nat_tests);
  start = grind (arith, nat_tests);
}

pub lawful_some : (limit : ℕ) (o : Option LogFields) (f : LogFields) → lawful limit o ≡ Some f → IsLawful limit f
lawful_some limit None f is = absurd (cc is)
lawful_some limit (Some g) f is = of_test (is_lawful limit g) refl
  where
    of_test : (b : Bool) → is_lawful limit g ≡ b → IsLawful limit f
    of_test false fails = let none : None ≡ Some f = sym (ap (λ (b : Bool). if b then Some g else None) fails) ∙ is in absurd (cc none)
    of_test true passes =
        let some : Some g ≡ Some f = sym (ap (λ (b : Bool). if b then Some g else None) passes) ∙ is in
        let same : g ≡ f = cc some in
        subst (IsLawful limit) same (lawful_is limit g passes)

-- a list begins in the content
pub low_start : (limit : ℕ) (f : LogFields) → 1024 ≤ list_start limit f
low_start limit f = of_test (f.state == DIRTY) refl
  where
    of_test : (b : Bool) → (f.state == DIRTY) ≡ b → 1024 ≤ list_start limit f
    of_test true is = let start : list_start limit f ≡ content_end limit = ap (λ (b : Bool). if b then content_end limit else records_start f) is in omega arith
    of_test false is = let start : list_start limit f ≡ records_start f = ap (λ (b : Bool). if b then content_end limit else records_start f) is in omega arith

pub high_start : (limit : ℕ) (f : LogFields) → IsLawful limit f → list_start limit f ≤ content_end limit
high_start limit f l = of_test (f.state == DIRTY) refl
  where
    of_test : (b : Bool) → (f.state == DIRTY) ≡ b → list_start limit f ≤ content_end limit
    of_test true is = let start : list_start limit f ≡ content_end limit = ap (λ (b : Bool). if b then content_end limit else records_start f) is in omega arith
    of_test false is = let start : list_start limit f ≡ records_start f = ap (λ (b : Bool). if b then content_end limit else records_start f) is in omega (arith, l.start)

-- a region without room has no record
pub none_listed : (end first : ℕ) (bytes : List ℕ) → log_of end end first bytes ≡ []
none_listed end first bytes =
    ap (λ (b : Bool). if b then payload_at end bytes ∷ records_from (end - end) end (first + 1) (end_at end bytes) bytes else []) (no_room end first end bytes (omega arith))

by_extents : (bytes : List ℕ) (o : ExtentsOpened) → extents_opened MOST bytes ≡ o → opened bytes ≡ with_extents o bytes
unfolding opened
by_extents bytes o is = ap (λ (o : ExtentsOpened). with_extents o bytes) is

-- a pair that keeps none
pub opens_refused : (bytes : List ℕ) → (extents_opened MOST bytes ≡ no_open_place) ⊎ (extents_opened MOST bytes ≡ malformed) → opened bytes ≡ damaged 0
opens_refused bytes (inl none) = by_extents bytes no_open_place none
opens_refused bytes (inr wrong) = by_extents bytes malformed wrong

module _ (limit : ℕ) (fields : List ℕ) (bytes : List ℕ) (holds : ExtentsHold MOST limit fields bytes) where
  by_fields : (o : Option LogFields) → lawful_in limit fields ≡ o → opened bytes ≡ with_fields limit o bytes
  by_fields o is = by_extents bytes (holding_extents limit fields) holds ∙ ap (λ (o : Option LogFields). with_fields limit o bytes) is

  pub opens_none : lawful_in limit fields ≡ None → opened bytes ≡ damaged 0
  opens_none is = by_fields None is

  module _ (f : LogFields) (is : lawful_in limit fields ≡ Some f) where
    pub opens_short : length bytes < content_end limit → opened bytes ≡ damaged (length bytes)
    opens_short short =
        let fails : nat_lt (length bytes) (content_end limit) ≡ true = grind (arith, nat_tests) in
        by_fields (Some f) is ∙ ap (λ (b : Bool). if b then damaged (length bytes) else with_state limit f bytes) fails

    by_state : content_end limit ≤ length bytes → opened bytes ≡ with_state limit f bytes
    by_state long =
        let fits : nat_lt (length bytes) (content_end limit) ≡ false = grind (arith, nat_tests) in
        by_fields (Some f) is ∙ ap (λ (b : Bool). if b then damaged (length bytes) else with_state limit f bytes) fits

    -- the entries of the list
    pub opens_list : content_end limit ≤ length bytes → opened bytes ≡ with_entries f.first (entries_at (list_start limit f) (content_end limit) f.first bytes)
    opens_list long = by_state long ∙ of_test (f.state == DIRTY) refl
      where
        by_test : Bool → Opened
        by_test b = if b then holding f.first [] else with_entries f.first (entries_at (records_start f) (content_end limit) f.first bytes)

        by_start : Bool → Opened
        by_start b = with_entries f.first (entries_at (if b then content_end limit else records_start f) (content_end limit) f.first bytes)

        of_test : (b : Bool) → (f.state == DIRTY) ≡ b → with_state limit f bytes ≡ with_entries f.first (entries_at (list_start limit f) (content_end limit) f.first bytes)
        of_test true dirty =
            ap by_test dirty ∙ sym (ap (λ (l : List (List ℕ)). with_entries f.first (entries_from f.first (content_end limit) l)) (none_listed (content_end limit) f.first bytes)) ∙ sym (ap by_start dirty)
        of_test false live = ap by_test live ∙ sym (ap by_start live)

-- what changes behind the pair leaves what the extents hold
pub holds_beside : (limit : ℕ) (fields : List ℕ) (at n : ℕ) (before image : List ℕ) → 1024 ≤ length before → Torn at n before image → 1024 ≤ at → ExtentsHold MOST limit fields before → ExtentsHold MOST limit fields image
holds_beside limit fields at n before image long torn far holds = ap (with_pair MOST) (opens_beside at n before image long torn far) ∙ holds

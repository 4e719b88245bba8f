-- A new file stands for each history that has nothing for it.
use Rattle.std.proofs.Common.{◌≡◌, ◌≢◌, inl, inr, ℕ, ◌^◌, ◌<◌, ◌≤◌, List, Option, Some, None, ◌∙◌, refl, arith}
use Rattle.std.proofs.lemmas.Bool.{cases_lt}
use Rattle.odb_device.specs.World.{File}
use Rattle.odb_device.specs.Images.{EachImage}
use Rattle.odb_device.proofs.Torn.{each_weakens}
use Rattle.odb_slots.specs.Slots.{OPEN, slot_place, gate_at}
use Rattle.odb_slots.specs.Views.{spelled, view_by}
use Rattle.odb_slots.proofs.Places.{view_past, view_at, behind_closed}
use Rattle.odb_bank.specs.History.{History, WritesNoneTo}
use Rattle.odb_bank.specs.Records.{Record}
use Rattle.odb_bank.specs.Spelled.{record_of_slot}
use Rattle.odb_bank.specs.Files.{StandsAt, IsNewFile}

module _ (bank mark : ℕ) (small : mark < 2 ^ 64) (bytes : List ℕ) (is : IsNewFile bank mark bytes) where
  closed : (n : ℕ) → n < 1024 → gate_at n bytes ≢ OPEN
  unfolding gate_at
  closed n low e = let zero = is.zero (slot_place n) (omega arith) (omega arith) in cc (zero, e)

  nothing : (n : ℕ) → view_by record_of_slot 1024 bytes n ≡ None
  nothing n = elim (cases_lt n 1024) [
    | inr past ↦ view_past record_of_slot (λ m body one other. refl) 1024 n bytes past
    | inl low ↦ view_at record_of_slot (λ m body one other. refl) 1024 n bytes low ∙ behind_closed (gate_at n bytes) (spelled record_of_slot n bytes) (closed n low)
  ]

  no_record : (n : ℕ) (r : Record) → view_by record_of_slot 1024 bytes n ≡ Some r → ⊥
  no_record n r here = let none = nothing n in cc (none, here)

  new_stands : (h : History) → mark ≤ h.count → WritesNoneTo h mark → StandsAt bank h mark bytes
  new_stands h within none = record {
    small = small;
    within = within;
    limit = 1;
    holds = is.holds;
    stands = record {
      long = omega (arith, is.long);
      spells = λ n low bad. closed n low bad.0;
      stands = record {
        truthful = λ n r here. absurd (no_record n r here);
        complete = λ key j last. let never = none key j last.from last.to in let writes = last.writes.1 in absurd (cc (never, writes));
      };
    };
  }

pub all_new_stand : (bank mark : ℕ) → mark < 2 ^ 64 → (file : Option File) (h : History) → mark ≤ h.count → WritesNoneTo h mark → EachImage (IsNewFile bank mark) file → EachImage (StandsAt bank h mark) file
all_new_stand bank mark small file h within none each = each_weakens (IsNewFile bank mark) (StandsAt bank h mark) file (λ bytes is. new_stands bank mark small bytes is h within none) each

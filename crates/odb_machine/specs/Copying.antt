-- COPY to a new copy, once nothing refuses it: the first makes the file, further ones copy records.
use Rattle.std.specs.Prelude.{◌≡◌, ◌⊎◌, ℕ, ◌-◌, ◌<◌, Bool, true, false, ◌&&◌, min, Option, Some, None}
use Rattle.odb_model.specs.declared.reply.Reply.{Reply}
use Rattle.odb_model.specs.declared.reply.Reply.TheVariants as reply
use Rattle.odb_machine.specs.Versions.{Records, IsPartOf, copied_records, key_count}
use Rattle.odb_machine.specs.Copies.{Copy, Phase, Source, Blank, Filling, Copied, with_phase, rest_of}
use Rattle.odb_machine.specs.Book.{Seen, is_told}
use Rattle.odb_machine.specs.MachineState.{Machine, put_copy, with_honest, master_for}
use Rattle.odb_machine.specs.Turning.{showing}

-- one COPY copies at most so many records
abbrev pub most_copied : ℕ
most_copied = 256

-- how many are left behind it
abbrev pub left_after : ℕ → ℕ
left_after left = left - min most_copied left

-- the records that a source has for a copy: of each key the newest, deletion marks among them
abbrev pub to_copy : Copy → Records
to_copy source = copied_records source.records

-- the new copy, made with its source's mark, none of whose records is copied yet
abbrev pub begun : Copy → Copy → Copy
begun source c = record c {
  phase = Filling (key_count (to_copy source));
  mark = source.mark;
  records = to_copy source;
}

-- the source takes no turn until all is copied
abbrev pub after_begun : Machine → Copy → Copy → Machine
after_begun m source c = put_copy (put_copy m (with_phase source Source)) (begun source c)

-- What is found where a step reads records again: all of them, where the store tells the file; else
-- those that are no longer in order are gone
abbrev pub FindsAgain : Bool → Records → Records → Type 0
FindsAgain true records now = now ≡ records
FindsAgain false records now = IsPartOf now records

-- the machine whose source shows these records
abbrev pub with_source : Machine → Copy → Records → Machine
with_source m source found = put_copy m (showing source found)

-- all is copied: the file is complete to its source's mark, and is honest where its source is and the
-- store tells it
abbrev pub after_copied : Machine → Seen → Copy → Copy → Records → Machine
after_copied m seen source c got =
    with_honest (put_copy (put_copy m (with_phase source (rest_of m.choices source)))
    (with_phase (showing c got) Copied)) c.file (is_told seen c.file && m.honest source.file)

-- COPY of the next records, of which so many are left, from a source that shows what it has
abbrev pub FillsOn : Machine → Seen → Copy → Copy → ℕ → Records → Reply → Machine → Type 0
FillsOn m seen source c left got (reply.Copying file more) after =
    (0 < left_after left) × (file ≡ c.file) × (more ≡ left_after left)
    × (after ≡ put_copy m (with_phase c (Filling more)))
FillsOn m seen source c left got (reply.Copied file mark) after =
    (left_after left ≡ 0) × (file ≡ c.file) × (mark ≡ c.mark)
    × (after ≡ after_copied m seen source c got)
FillsOn m seen source c left got other after = ⊥

-- a fault of the source comes before anything is written; one of the copy's file perhaps behind the
-- records of this step
abbrev pub FaultsFilling : Machine → Copy → Copy → ℕ → ℕ → Machine → Type 0
FaultsFilling m source c left f after =
    ((f ≡ source.file) × (after ≡ m))
    ⊎ (((f ≡ c.file) × (after ≡ m))
    ⊎ ((f ≡ c.file) × (after ≡ put_copy m (with_phase c (Filling (left_after left))))))

-- The source shows its records, and where it isn't told perhaps fewer. So may the copy get fewer, and
-- show fewer of these: its file is read once all is copied
pub record FillsFrom
    (m : Machine) (seen : Seen) (source c : Copy) (left : ℕ) (answer : Reply) (after : Machine) :
    Type 0 where
  pub found : Records
  pub got : Records
  pub shows : FindsAgain (is_told seen source.file) source.records found
  pub gets : FindsAgain (is_told seen source.file && is_told seen c.file) c.records got
  pub fills :
      FillsOn (with_source m source found) seen (showing source found) c left got answer after

pub record FaultsFrom
    (m : Machine) (seen : Seen) (source c : Copy) (left f : ℕ) (after : Machine) : Type 0 where
  pub found : Records
  pub shows : FindsAgain (is_told seen source.file) source.records found
  pub rose : seen.rose f ≡ true
  pub faults : FaultsFilling (with_source m source found) source c left f after

-- COPY by what the copy is at: a blank one is made, one that is being filled goes on. One of no other
-- phase comes here
abbrev pub Fills : Machine → Seen → Copy → Copy → Phase → Reply → Machine → Type 0
Fills m seen source c Blank (reply.Copying file left) after =
    (file ≡ c.file) × (left ≡ key_count (to_copy source)) × (after ≡ after_begun m source c)
Fills m seen source c Blank (reply.Fault f) after =
    (f ≡ c.file) × (seen.rose f ≡ true) × (after ≡ m)
Fills m seen source c (Filling left) (reply.Fault f) after =
    FaultsFrom m seen source c left f after
Fills m seen source c (Filling left) answer after =
    FillsFrom m seen source c left answer after
Fills m seen source c phase answer after = ⊥

abbrev pub FillsBy : Machine → Seen → Option Copy → Copy → Reply → Machine → Type 0
FillsBy m seen None c answer after = ⊥
FillsBy m seen (Some source) c answer after = Fills m seen source c c.phase answer after

-- COPY to a new copy, from the working master of its databank
abbrev pub CopiesOn : Machine → Seen → Copy → Reply → Machine → Type 0
CopiesOn m seen c answer after = FillsBy m seen (master_for m c.bank) c answer after

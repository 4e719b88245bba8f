-- The open records of a databank file in numbers: of each key the stamps of its records, and which of
-- them are stale.
use Rattle.std.specs.Prelude.{◌≡◌, ◌≢◌, ◌⊎◌, ℕ, ◌≤◌, Bool, ◌&&◌, not, nat_lt, nat_le, is_some, List, [], ◌∷◌, ◌++◌, length, sum_by, unwrap_or, Option, Some, None, if◌then◌else◌}
use Rattle.std.specs.List.{All, list_all}
use Rattle.std.specs.FinMap.{FinMap, empty, get, insert, entries}
use Rattle.odb_model.specs.declared.table_key.TableKey.{TableKey}
use Rattle.odb_model.specs.declared.write.Write.{Write}
use Rattle.odb_model.specs.State.{table_key_cmp}
use Rattle.odb_model.specs.Ordered.{with_item}

-- an open record of a key: the number of the entry that made it, whether it is a deletion mark, and
-- how many slots it takes, in format 1 always one
pub record Version : Type 0 where
  pub stamp : ℕ
  pub deletes : Bool
  pub slots : ℕ

abbrev pub version_of : ℕ → Write → Version
version_of number w = record { stamp = number; deletes = not (is_some w.row); slots = 1 }

-- per key its open records, in ascending order of their stamps
abbrev pub Records : Type 0
Records = FinMap table_key_cmp (List Version)

abbrev pub no_records : Records
no_records = empty

-- those of one key
abbrev pub versions_at : Records → TableKey → List Version
versions_at records at = unwrap_or (get records at) []

-- the one of the greatest stamp, among equal stamps the first
abbrev pub newest : Version → List Version → Version
newest best [] = best
newest best (v ∷ vs) = newest (if nat_lt best.stamp v.stamp then v else best) vs

-- the mark deletes, its entry isn't above the file's mark, and no older record of the key is there: so
-- nothing is lost where it goes
abbrev pub is_done : ℕ → Version → List Version → Bool
is_done mark v all =
    v.deletes && nat_le v.stamp mark && list_all (λ w. nat_le v.stamp w.stamp) all

abbrev pub unless_done : ℕ → Version → List Version → List Version
unless_done mark v all = if is_done mark v all then [] else v ∷ []

-- What stays of a key's records once the stale ones are closed: the newest alone, and not even that
-- where it is a deletion mark that is done
abbrev pub fresh : ℕ → List Version → List Version
fresh mark [] = []
fresh mark (v ∷ vs) = unless_done mark (newest v vs) (v ∷ vs)

-- the newest alone, also where it is a deletion mark
abbrev pub newest_alone : List Version → List Version
newest_alone [] = []
newest_alone (v ∷ vs) = newest v vs ∷ []

-- a key with these records; one without a record isn't told of
abbrev pub with_versions : Records → TableKey → List Version → Records
with_versions records at [] = records
with_versions records at (v ∷ vs) = insert records at (v ∷ vs)

-- each key's records changed so
abbrev pub changed_each :
    (List Version → List Version) → Records → List (TableKey × List Version) → Records
changed_each change so_far [] = so_far
changed_each change so_far (e ∷ es) =
    changed_each change (with_versions so_far e.0 (change e.1)) es

-- the records without the stale ones, where the file is complete to this mark
abbrev pub without_stale : ℕ → Records → Records
without_stale mark records = changed_each (fresh mark) no_records (entries records)

-- the records as a copy of the file gets them
abbrev pub copied_records : Records → Records
copied_records records = changed_each newest_alone no_records (entries records)

-- how many keys have a record
abbrev pub key_count : Records → ℕ
key_count records = length (entries records)

abbrev pub slots_of : List Version → ℕ
slots_of versions = sum_by (λ v. v.slots) versions

-- the slots that the records take
abbrev pub slots_in : Records → ℕ
slots_in records = sum_by (λ e. slots_of e.1) (entries records)

-- per key a record more, in the order of stamps and behind those of the same
abbrev pub with_records : Records → List (TableKey × Version) → Records
with_records records [] = records
with_records records (e ∷ es) =
    with_records (insert records e.0 (with_item (λ v. v.stamp) e.1 (versions_at records e.0))) es

-- these records with one more, in the order of stamps, at any place among those of the same
abbrev pub IsWith : Option Version → List Version → List Version → Type 0
IsWith None old new = new ≡ old
IsWith (Some v) old new =
    (front : List Version) × (rest : List Version) × (old ≡ front ++ rest)
    × (new ≡ front ++ v ∷ rest) × All (λ w. w.stamp ≤ v.stamp) front
    × All (λ w. v.stamp ≤ w.stamp) rest

-- some of these records, in their order
abbrev pub AreSome : List Version → List Version → Type 0
AreSome [] all = Unit {0}
AreSome (v ∷ vs) [] = ⊥
AreSome (v ∷ vs) (w ∷ all) = ((v ≡ w) × AreSome vs all) ⊎ AreSome (v ∷ vs) all

-- each key that is told of has a record
abbrev pub HaveVersions : Records → Type 0
HaveVersions records = All (λ e. e.1 ≢ []) (entries records)

-- each key has some of the records that it has there, or none
pub record IsPartOf (part whole : Records) : Type 0 where
  pub some : HaveVersions part
  pub each : (at : TableKey) → AreSome (versions_at part at) (versions_at whole at)

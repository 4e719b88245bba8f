-- The places kept are places of the lists, behind records that are entries.
use Rattle.std.proofs.Common.{◌≡◌, ℕ, ◌+◌, ◌*◌, ◌≤◌, List, [], ◌++◌, length, take, drop, Option, Some, None, Result, Ok, Err, refl, sym, ◌∙◌, ap, arith}
use Rattle.std.specs.Prelude.{IfSome}
use Rattle.std.proofs.lemmas.List.{append-nil, take-append-drop, length-take-le}
use Rattle.odb_device.specs.World.{File}
use Rattle.odb_device.specs.Images.{ReadsImage}
use Rattle.odb_reclog.specs.Records.{log_of, end_of_list}
use Rattle.odb_reclog.specs.Standing.{Log, Stands as LogStands, list_of}
use Rattle.odb_model.specs.declared.entry.Entry.{Entry}
use Rattle.odb_model.specs.declared.side.OtherSide.{OtherSide}
use Rattle.odb_model.specs.declared.side.OtherSide.TheVariants.{Live, Dirty, Clean}
use Rattle.odb_transdb.specs.declared.header.Header.{Header}
use Rattle.odb_transdb.specs.Header.{side_start, other_of}
use Rattle.odb_transdb.specs.Opened.{side_list, side_entries, joined}
use Rattle.odb_transdb.specs.Kept.{AreSteps, AreKept, AreKeptIn, AreWithin}
use Rattle.odb_transdb.specs.Standing.{Db, IsOfSide, IsLiveBy, IsDb, HasPlaces, Stands}
use Rattle.odb_transdb.specs.Opening.{IsCounted}
use Rattle.odb_transdb.specs.Turning.{StandsSince}
use Rattle.odb_transdb.specs.Walking.{live_read, log_entries, IsBefore, ArePlaced}
use Rattle.odb_transdb.proofs.Entries.{read_front}
use Rattle.odb_transdb.proofs.Kept.{KeepsNext, kept_end, steps_same}
use Rattle.odb_transdb.proofs.Standing.{log_list}
use Rattle.odb_transdb.proofs.Walking.{end_later, end_then}
use Rattle.odb_transdb.proofs.Joining.{active_entries}
use Rattle.odb_transdb.proofs.Gathered.{own_of, since_read}

-- behind so many records of a list, all of which are entries
before_at : (log : Log) (bytes : List ℕ) (entries : List Entry) (m at : ℕ) → log_entries log bytes ≡ Ok entries → m ≤ length (log_of log.start log.end log.first bytes) → at ≡ end_of_list log.start (take m (log_of log.start log.end log.first bytes))
    → IsBefore log at (log.first + m) bytes
before_at log bytes entries m at read inside here =
    let list = log_of log.start log.end log.first bytes in
    record {
      done = take m list;
      rest = drop m list;
      all = take m entries;
      list_is = sym (take-append-drop m list);
      place = here;
      number_is = ap (λ (n : ℕ). log.first + n) (sym (length-take-le m list inside));
      read = read_front m log.first log.start list entries read;
    }

pub placed_of : (log : Log) (places : List ℕ) (f : File) (entries : List Entry) → LogStands log (Some f) → ReadsImage (Some f) → log_entries log f.bytes ≡ Ok entries → AreKept log places (Some f) → ArePlaced log places f.bytes
placed_of log places f entries stands reads read kept =
    let one = stands f.bytes reads in
    let list = log_of log.start log.end log.first f.bytes in
    record {
      each = λ k inside. before_at log f.bytes entries (64 * (k + 1)) _ read (omega (arith, kept.few)) (kept.each k inside);
      end = record {
        done = list;
        rest = [];
        all = entries;
        list_is = sym (append-nil list);
        place = sym one.place;
        number_is = sym one.number;
        read = read;
      };
    }

-- the places kept while a side was opened
pub kept_found : (h : Header) (side : ℕ) (log : Log) (payloads : List (List ℕ)) (places : List ℕ) (o : Option File) → IsOfSide h side log → AreSteps (side_start h side) payloads places → IfSome o (λ f. payloads ≡ side_list h side f.bytes) → AreKeptIn log places o
kept_found h side log payloads places None is are read = tt
kept_found h side log payloads places (Some f) is are read = steps_same (side_start h side) log.start payloads (list_of log (Some f)) places is.start (log_list h side log f.bytes is ∙ sym read) are

pub within_found : (h : Header) (side : ℕ) (log : Log) (payloads : List (List ℕ)) (places : List ℕ) → IsOfSide h side log → IsCounted h side log payloads → AreSteps (side_start h side) payloads places → AreWithin log places
within_found h side log payloads places is count are = record {
  few = omega (arith, is.first, count.number, are.few);
  low = λ k inside. let here = are.each k inside in omega (arith, is.start, here, end_later (side_start h side) (take (64 * (k + 1)) payloads));
  high = λ k inside.
      let m : ℕ = 64 * (k + 1) in
      let start : ℕ = side_start h side in
      let here = are.each k inside in
      let whole : end_of_list start payloads ≡ end_of_list (end_of_list start (take m payloads)) (drop m payloads) =
      ap (end_of_list start) (sym (take-append-drop m payloads)) ∙ end_then start (take m payloads) (drop m payloads) in
      omega (arith, here, whole, count.place, end_later (end_of_list start (take m payloads)) (drop m payloads));
}

-- said of the file and of the log in either order
pub told_live : (P : Log → File → Type 0) (live : Option Log) (o : Option File) → IfSome live (λ log. IfSome o (P log)) → IfSome o (λ f. IfSome live (λ log. P log f))
told_live P live None is = tt
told_live P None (Some f) is = tt
told_live P (Some log) (Some f) is = is

pub each_live : (P Q : Log → Type 0) (live : Option Log) → ((log : Log) → P log → Q log) → IfSome live P → IfSome live Q
each_live P Q None gives is = tt
each_live P Q (Some log) gives is = gives log is

pub has_places : (db : Db) (o : Option File) → AreKeptIn db.active db.places o → IfSome o (λ f. IfSome db.live (λ log. AreKept log db.live_places (Some f))) → IfSome o (λ f. HasPlaces db (Some f))
has_places db None active live = tt
has_places db (Some f) active live = (active, live)

-- with another list of places of the active side
abbrev pub with_places : Db → List ℕ → Db
with_places db places = record { header = db.header; pair = db.pair; active = db.active; live = db.live; places = places; live_places = db.live_places }

pub stands_kept : (db : Db) (new : List ℕ) (o : Option File) → ReadsImage o → KeepsNext db.active.first db.active.next db.active.place db.places new → Stands db o → Stands (with_places db new) o
stands_kept db new None reads keeps stands = record { lawful = stands.lawful; settled = stands.settled; value = stands.value; tried = stands.tried }
stands_kept db new (Some f) reads keeps stands =
    let one = stands.0 f.bytes reads in (
      stands.0,
      stands.1,
      λ image is. record { pair = (stands.2 image is).pair; holds = (stands.2 image is).holds },
      stands.3,
      record { lawful = stands.4.lawful; settled = stands.4.settled; value = stands.4.value; tried = stands.4.tried },
      (kept_end db.active (list_of db.active (Some f)) db.places new stands.5.0 one.number one.place keeps, stands.5.1),
    )

-- what both sides give is what each of them does
pub record Parts (first second : Result (List Entry) ℕ) (entries : List Entry) : Type 0 where
  pub front : List Entry
  pub rest : List Entry
  pub first_is : first ≡ Ok front
  pub second_is : second ≡ Ok rest
  pub both : entries ≡ front ++ rest

pub parts_of : (first second : Result (List Entry) ℕ) (entries : List Entry) → joined first second ≡ Ok entries → Parts first second entries
parts_of (Ok front) (Ok rest) entries is = let same : front ++ rest ≡ entries = cc is in record { front = front; rest = rest; first_is = refl; second_is = refl; both = sym same }
parts_of (Ok front) (Err at) entries is = absurd (cc is)
parts_of (Err at) second entries is = absurd (cc is)

module _ (db : Db) (is : IsDb db) (all : List Entry) where
  its_parts : (f : File) (since : StandsSince db all (Some f)) (reads : ReadsImage (Some f)) → Parts (live_read db.header db.header.other f.bytes) (side_entries db.header db.header.active f.bytes) (own_of db all is.lawful f since reads).entries
  its_parts f since reads = parts_of (live_read db.header db.header.other f.bytes) (side_entries db.header db.header.active f.bytes) _ (since_read db all is.lawful f since reads)

  pub active_placed : (o : Option File) → StandsSince db all o → ReadsImage o → IfSome o (λ f. ArePlaced db.active db.places f.bytes)
  active_placed None since reads = tt
  active_placed (Some f) since reads =
      let parts = its_parts f since reads in
      placed_of db.active db.places f parts.rest since.0 reads (active_entries db.header db.header.active db.active f.bytes is.active ∙ parts.second_is) since.3.0

  pub live_placed : (o : Option File) → StandsSince db all o → ReadsImage o → IfSome db.live (λ log. IfSome o (λ f. ArePlaced log db.live_places f.bytes))
  live_placed None since reads = none db.live
    where
      none : (l : Option Log) → IfSome l (λ log. Unit {0})
      none None = tt
      none (Some log) = tt
  live_placed (Some f) since reads = of_state db.header.other db.live refl is.live since.1 since.3.1
    where
      of_state : (s : OtherSide) (l : Option Log) → db.header.other ≡ s → IsLiveBy db.header s l db.active → IfSome l (λ log. LogStands log (Some f)) → IfSome l (λ log. AreKept log db.live_places (Some f)) → IfSome l (λ log. ArePlaced log db.live_places f.bytes)
      of_state s None same by stands kept = tt
      of_state Live (Some log) same by stands kept =
          let parts = its_parts f since reads in
          let read : side_entries db.header (other_of db.header) f.bytes ≡ Ok parts.front = ap (λ (o : OtherSide). live_read db.header o f.bytes) (sym same) ∙ parts.first_is in
          placed_of log db.live_places f parts.front stands reads (active_entries db.header (other_of db.header) log f.bytes by.0 ∙ read) kept
      of_state Dirty (Some log) same by stands kept = absurd by
      of_state Clean (Some log) same by stands kept = absurd by

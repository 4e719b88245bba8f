-- What the images of TRANSDB's file have, and what is left of it by writes inside the active side.
use Rattle.std.proofs.Common.{◌≡◌, ◌⊎◌, inl, inr, ℕ, zero, suc, ◌+◌, ◌≤◌, List, [], ◌∷◌, ◌++◌, length, Option, Some, None, Ok, refl, sym, ◌∙◌, ap, subst, arith}
use Rattle.std.specs.Prelude.{is_some, IfSome}
use Rattle.std.proofs.lemmas.Bool.{false≢true}
use Rattle.odb_device.specs.World.{File}
use Rattle.odb_device.specs.Images.{IsImage, EachImage, ReadsImage, Torn, TornFrom}
use Rattle.odb_device.proofs.Torn.{torn_each, each_weakens}
use Rattle.odb_pair.specs.Standing.{PairState, StandsFor as PairStandsFor}
use Rattle.odb_pair.specs.Laws.{stands_beside}
use Rattle.odb_reclog.specs.Records.{log_of}
use Rattle.odb_reclog.specs.Standing.{Log, StandsFor as LogStandsFor, Stands as LogStands, SameRegion, SameList, list_of, tail_of}
use Rattle.odb_reclog.specs.Moments.{KeepsLists, KeepsOrAdds}
use Rattle.odb_reclog.proofs.Files.{stands_each}
use Rattle.odb_reclog.proofs.Laws.{stands_beside as log_beside}
use Rattle.odb_codec.specs.Reading.{read_entry}
use Rattle.odb_model.specs.declared.entry.Entry.{Entry}
use Rattle.odb_model.specs.declared.side.OtherSide.{OtherSide}
use Rattle.odb_model.specs.declared.side.OtherSide.TheVariants.{Live, Dirty, Clean}
use Rattle.odb_transdb.specs.declared.header.Header.{Header}
use Rattle.odb_transdb.specs.Header.{side_start, side_end, first_on, active_first, other_of, first_held}
use Rattle.odb_transdb.specs.Opened.{holding, side_list, Holds, entries_of, entries_in}
use Rattle.odb_transdb.specs.Kept.{AreKept}
use Rattle.odb_transdb.specs.Standing.{Db, IsOfSide, IsLiveBy, IsDb, IsPlaced, IsSettled, HasPlaces, Stands}
use Rattle.odb_transdb.proofs.Headers.{IsLawful, lawful_is}
use Rattle.odb_transdb.proofs.Opened.{Has, has_holds, holds_has}
use Rattle.odb_transdb.proofs.Sides.{IsInside, active_sides, beside, has_kept, has_more}
use Rattle.odb_transdb.proofs.Kept.{steps_same, kept_stays, within_later}

-- the list of a log is that of its side
pub log_list : (h : Header) (side : ℕ) (log : Log) (bytes : List ℕ) → IsOfSide h side log → log_of log.start log.end log.first bytes ≡ side_list h side bytes
log_list h side log bytes is =
    ap (λ (n : ℕ). log_of n log.end log.first bytes) is.start ∙ ap (λ (n : ℕ). log_of (side_start h side) n log.first bytes) is.end
    ∙ ap (λ (n : ℕ). log_of (side_start h side) (side_end h side) n bytes) is.first

-- each image has the entries that a read gives
pub stands_has : (db : Db) (o : Option File) → Stands db o → EachImage (Has db.header (entries_in o)) o
stands_has db None stands = tt
stands_has db (Some f) stands = λ image is. holds_has db.header (entries_in (Some f)) image ((stands.2 image is).holds)

pub stands_pair : (db : Db) (o : Option File) → Stands db o → EachImage (PairStandsFor db.pair) o
stands_pair db None stands = tt
stands_pair db (Some f) stands = λ image is. (stands.2 image is).pair

pub stands_log : (db : Db) (o : Option File) → Stands db o → LogStands db.active o
stands_log db None stands = tt
stands_log db (Some f) stands = stands.0

pub stands_live : (db : Db) (o : Option File) → Stands db o → IfSome db.live (λ log. LogStands log o)
stands_live db None stands = of_live db.live
  where
    of_live : (l : Option Log) → IfSome l (λ log. LogStands log None)
    of_live None = tt
    of_live (Some log) = tt
stands_live db (Some f) stands = stands.1

pub stands_settled : (db : Db) (o : Option File) → Stands db o → IsSettled db
stands_settled db None stands = stands
stands_settled db (Some f) stands = stands.4

pub has_all : (h : Header) (entries : List Entry) (o : Option File) → EachImage (Has h entries) o → EachImage (Holds h entries) o
has_all h entries o each = each_weakens (Has h entries) (Holds h entries) o (λ image has. has_holds h entries image has) each

-- the entries that a read gives are those that each image has
pub entries_read : (h : Header) (entries : List Entry) (f : File) → ReadsImage (Some f) → EachImage (Has h entries) (Some f) → entries_in (Some f) ≡ entries
entries_read h entries f reads each = ap entries_of (has_holds h entries f.bytes (each f.bytes reads))

pub entries_same : (h : Header) (o now : Option File) → is_some now ≡ is_some o → ReadsImage now → EachImage (Has h (entries_in o)) now → entries_in now ≡ entries_in o
entries_same h None None told reads each = refl
entries_same h None (Some g) told reads each = absurd (false≢true (sym told))
entries_same h (Some f) None told reads each = absurd (false≢true told)
entries_same h (Some f) (Some g) told reads each = entries_read h (entries_in (Some f)) g reads each

-- all that stands, put together
pub stands_made : (db : Db) (entries : List Entry) (o : Option File) → ReadsImage o → LogStands db.active o → IfSome db.live (λ log. LogStands log o) → EachImage (PairStandsFor db.pair) o → EachImage (Has db.header entries) o
    → first_held db.header + length entries ≡ db.active.next → IsSettled db → IfSome o (λ f. HasPlaces db (Some f)) → Stands db o
stands_made db entries None reads active live pair has count settled places = settled
stands_made db entries (Some f) reads active live pair has count settled places =
    let same = entries_read db.header entries f reads has in (
      active,
      live,
      λ image is. record { pair = pair image is; holds = has_holds db.header entries image (has image is) ∙ ap (holding db.header) (sym same) },
      ap (λ (l : List Entry). first_held db.header + length l) same ∙ count,
      settled,
      places,
    )

-- a log of another region of the file still stands
pub log_stays : (log : Log) (at n : ℕ) (o now : Option File) → (at + n ≤ log.start) ⊎ (log.end ≤ at) → LogStands log o → TornFrom at n o now → ReadsImage now → LogStands log now
log_stays log at n o now beside stands torn reads =
    let records = list_of log o in
    let between = tail_of log o in
    stands_each log records between now reads
    (torn_each (LogStandsFor log records between) (LogStandsFor log records between) at n o now (λ before image one t. log_beside log records between at n before image one t beside) stands torn)

pub pair_stays : (pair : PairState) (at n : ℕ) (o now : Option File) → 1024 ≤ at → EachImage (PairStandsFor pair) o → TornFrom at n o now → EachImage (PairStandsFor pair) now
pair_stays pair at n o now far stands torn = torn_each (PairStandsFor pair) (PairStandsFor pair) at n o now (λ before image one t. stands_beside pair at n before image one t far) stands torn

-- what the calls of a log say, as changes of a range
pub keeps_torn : (start end first at n : ℕ) (o now : Option File) → KeepsLists start end first at n o now → TornFrom at n o now
keeps_torn start end first at n None now keeps = keeps
keeps_torn start end first at n (Some f) now keeps =
    each_weakens (λ image. (before : List ℕ) × IsImage f before × Torn at n before image × (log_of start end first image ≡ log_of start end first before))
    (λ image. (before : List ℕ) × IsImage f before × Torn at n before image) now (λ image b. (b.0, b.1, b.2)) keeps

pub adds_torn : (start end first : ℕ) (payload : List ℕ) (at n : ℕ) (o now : Option File) → KeepsOrAdds start end first payload at n o now → TornFrom at n o now
adds_torn start end first payload at n None now adds = adds
adds_torn start end first payload at n (Some f) now adds =
    each_weakens (λ image. (before : List ℕ) × IsImage f before × Torn at n before image
    × ((log_of start end first image ≡ log_of start end first before) ⊎ (log_of start end first image ≡ log_of start end first before ++ payload ∷ [])))
    (λ image. (before : List ℕ) × IsImage f before × Torn at n before image) now (λ image b. (b.0, b.1, b.2)) adds

-- the record with another log of the active side
abbrev pub with_active : Db → Log → Db
with_active db log = record { header = db.header; pair = db.pair; active = log; live = db.live; places = db.places; live_places = db.live_places }

pub settled_with : (db : Db) (log : Log) → IsSettled db → IsSettled (with_active db log)
settled_with db log is = record { lawful = is.lawful; settled = is.settled; value = is.value; tried = is.tried }

live_with : (h : Header) (o : OtherSide) (live : Option Log) (old new : Log) → new.first ≡ old.first → IsLiveBy h o live old → IsLiveBy h o live new
live_with h Live (Some log) old new same is = (is.0, is.1 ∙ sym same, is.2)
live_with h Live None old new same is = is
live_with h Dirty (Some log) old new same is = is
live_with h Dirty None old new same is = is
live_with h Clean (Some log) old new same is = is
live_with h Clean None old new same is = is

pub side_with : (h : Header) (side : ℕ) (old new : Log) → SameRegion old new → IsOfSide h side old → IsOfSide h side new
side_with h side old new same is = record { file = same.file ∙ is.file; start = same.start ∙ is.start; end = same.end ∙ is.end; first = same.first ∙ is.first }

pub is_db_with : (db : Db) (log : Log) → SameRegion db.active log → db.active.place ≤ log.place → db.active.next ≤ log.next → IsDb db → IsDb (with_active db log)
is_db_with db log same further later is = record {
  lawful = is.lawful;
  file = is.file;
  kept = is.kept;
  active = side_with db.header db.header.active db.active log same is.active;
  place = omega (arith, same.start, is.place);
  from = omega (arith, is.from);
  live = live_with db.header db.header.other db.live db.active log same.first is.live;
  places = within_later db.active log db.places same.start same.first further later is.places;
  live_places = is.live_places;
}

-- a lawful first number is 1 or more
pub some_first : (h : Header) (side : ℕ) → IsLawful h → 1 ≤ first_on h side
some_first h zero is = is.some0
some_first h (suc side) is = is.some1

pub is_placed : (db : Db) → IsDb db → IsPlaced db
is_placed db is = record { side = is.active; place = is.place; from = is.from; some = some_first db.header db.header.active (lawful_is db.header is.lawful) }

pub region_of : (old new : Log) → SameList old new → SameRegion old new
region_of old new same = record { file = same.file; start = same.start; end = same.end; first = same.first }

pub live_side : (h : Header) (o : OtherSide) (live : Option Log) (active : Log) → IsLiveBy h o live active → IfSome live (λ log. IsOfSide h (other_of h) log)
live_side h Live (Some log) active is = is.0
live_side h Live None active is = absurd is
live_side h Dirty (Some log) active is = absurd is
live_side h Dirty None active is = tt
live_side h Clean (Some log) active is = absurd is
live_side h Clean None active is = tt

-- the log of the other side stands through writes inside the active one
pub other_stays : (h : Header) (live : Option Log) (at n : ℕ) (o now : Option File) → h.active ≤ 1 → IsInside h h.active at n → IfSome live (λ log. IsOfSide h (other_of h) log) → IfSome live (λ log. LogStands log o) → TornFrom at n o now
    → ReadsImage now → IfSome live (λ log. LogStands log now)
other_stays h None at n o now active inside side stands torn reads = tt
other_stays h (Some log) at n o now active inside side stands torn reads = log_stays log at n o now (apart (beside h h.active (other_of h) at n (active_sides h active) inside)) stands torn reads
  where
    apart : (at + n ≤ side_start h (other_of h)) ⊎ (side_end h (other_of h) ≤ at) → (at + n ≤ log.start) ⊎ (log.end ≤ at)
    apart (inl low) = inl (omega (arith, side.start))
    apart (inr high) = inr (omega (arith, side.end))

pub other_kept : (h : Header) (live : Option Log) (places : List ℕ) (at n : ℕ) (o now : Option File) → h.active ≤ 1 → IsInside h h.active at n → IfSome live (λ log. IsOfSide h (other_of h) log) → IfSome live (λ log. LogStands log o) → TornFrom at n o now
    → ReadsImage now → IfSome o (λ f. IfSome live (λ log. AreKept log places (Some f))) → IfSome now (λ g. IfSome live (λ log. AreKept log places (Some g)))
other_kept h None places at n o now active inside side stands torn reads kept = none now
  where
    none : (p : Option File) → IfSome p (λ g. Unit {0})
    none None = tt
    none (Some g) = tt
other_kept h (Some log) places at n o now active inside side stands torn reads kept = kept_stays log places at n o now (apart (beside h h.active (other_of h) at n (active_sides h active) inside)) stands torn reads kept
  where
    apart : (at + n ≤ side_start h (other_of h)) ⊎ (side_end h (other_of h) ≤ at) → (at + n ≤ log.start) ⊎ (log.end ≤ at)
    apart (inl low) = inl (omega (arith, side.start))
    apart (inr high) = inr (omega (arith, side.end))

-- writes inside the active side
module _ (db : Db) (is : IsDb db) (at n : ℕ) (inside : IsInside db.header db.header.active at n) where
  pub low_active : db.header.active ≤ 1
  low_active = (lawful_is db.header is.lawful).active

  pub live_kept : (o now : Option File) → IfSome db.live (λ log. LogStands log o) → TornFrom at n o now → ReadsImage now → IfSome o (λ f. IfSome db.live (λ log. AreKept log db.live_places (Some f)))
      → IfSome now (λ g. IfSome db.live (λ log. AreKept log db.live_places (Some g)))
  live_kept o now stands torn reads kept = other_kept db.header db.live db.live_places at n o now low_active inside (live_side db.header db.header.other db.live db.active is.live) stands torn reads kept

  pub live_stays : (o now : Option File) → IfSome db.live (λ log. LogStands log o) → TornFrom at n o now → ReadsImage now → IfSome db.live (λ log. LogStands log now)
  live_stays o now stands torn reads = other_stays db.header db.live at n o now low_active inside (live_side db.header db.header.other db.live db.active is.live) stands torn reads

  -- the entries stay where the list stays
  pub keeps_has : (entries : List Entry) (o now : Option File) → KeepsLists db.active.start db.active.end db.active.first at n o now → EachImage (Has db.header entries) o → EachImage (Has db.header entries) now
  keeps_has entries None now keeps each = subst (EachImage (Has db.header entries)) (sym keeps) tt
  keeps_has entries (Some f) now keeps each =
      each_weakens (λ image. (before : List ℕ) × IsImage f before × Torn at n before image × (log_of db.active.start db.active.end db.active.first image ≡ log_of db.active.start db.active.end db.active.first before))
      (Has db.header entries) now
      (λ image b.
      has_kept db.header entries at n b.0 image low_active inside b.2
      (sym (log_list db.header db.header.active db.active image is.active) ∙ b.3 ∙ log_list db.header db.header.active db.active b.0 is.active) (each b.0 b.1))
      keeps

  -- or there is one more, where a payload is that entry's image
  pub adds_has : (payload : List ℕ) (e : Entry) (entries : List Entry) (o now : Option File) → LogStands db.active o → read_entry db.active.next payload ≡ Ok e
      → KeepsOrAdds db.active.start db.active.end db.active.first payload at n o now → EachImage (Has db.header entries) o
      → EachImage (λ image. Has db.header entries image ⊎ Has db.header (entries ++ e ∷ []) image) now
  adds_has payload e entries None now stands one adds each = subst (EachImage (λ image. Has db.header entries image ⊎ Has db.header (entries ++ e ∷ []) image)) (sym adds) tt
  adds_has payload e entries (Some f) now stands one adds each =
      each_weakens (λ image. (before : List ℕ) × IsImage f before × Torn at n before image
      × ((log_of db.active.start db.active.end db.active.first image ≡ log_of db.active.start db.active.end db.active.first before)
      ⊎ (log_of db.active.start db.active.end db.active.first image ≡ log_of db.active.start db.active.end db.active.first before ++ payload ∷ [])))
      (λ image. Has db.header entries image ⊎ Has db.header (entries ++ e ∷ []) image) now
      (λ image b. elim b.3 [
        | inl same ↦
            inl (has_kept db.header entries at n b.0 image low_active inside b.2
            (sym (log_list db.header db.header.active db.active image is.active) ∙ same ∙ log_list db.header db.header.active db.active b.0 is.active) (each b.0 b.1))
        | inr more ↦ inr (added b.0 image b.2 (stands b.0 b.1) (each b.0 b.1) more)
      ])
      adds
    where
      added : (before image : List ℕ) → Torn at n before image → LogStandsFor db.active (list_of db.active (Some f)) (tail_of db.active (Some f)) before → Has db.header entries before
          → log_of db.active.start db.active.end db.active.first image ≡ log_of db.active.start db.active.end db.active.first before ++ payload ∷ [] → Has db.header (entries ++ e ∷ []) image
      added before image torn log has more =
          let list = log_list db.header db.header.active db.active before is.active in
          let next : db.active.next ≡ active_first db.header + length (side_list db.header db.header.active before) =
          sym log.number ∙ ap (λ (l : List (List ℕ)). db.active.first + length l) (sym log.list ∙ list) ∙ ap (λ (k : ℕ). k + length (side_list db.header db.header.active before)) is.active.first in
          has_more db.header payload e entries at n before image low_active inside torn
          (sym (log_list db.header db.header.active db.active image is.active) ∙ more ∙ ap (λ (l : List (List ℕ)). l ++ payload ∷ []) list)
          (subst (λ (k : ℕ). read_entry k payload ≡ Ok e) next one) has

  -- and the places kept where the list stays
  keeps_places : (log : Log) (o now : Option File) → SameList db.active log → KeepsLists db.active.start db.active.end db.active.first at n o now → Stands db o → IfSome now (λ g. IfSome db.live (λ l. AreKept l db.live_places (Some g))) → ReadsImage now
      → IfSome now (λ g. HasPlaces (with_active db log) (Some g))
  keeps_places log o None same keeps stands live reads = tt
  keeps_places log None (Some g) same keeps stands live reads = absurd (cc keeps)
  keeps_places log (Some f) (Some g) same keeps stands live reads =
      let b = keeps g.bytes reads in
      let list : list_of log (Some g) ≡ list_of db.active (Some f) =
      ap (λ (s : ℕ). log_of s log.end log.first g.bytes) same.start ∙ ap (λ (e : ℕ). log_of db.active.start e log.first g.bytes) same.end ∙ ap (λ (n : ℕ). log_of db.active.start db.active.end n g.bytes) same.first
      ∙ b.3 ∙ (stands.0 b.0 b.1).list in
      (steps_same db.active.start log.start (list_of db.active (Some f)) (list_of log (Some g)) db.places same.start list stands.5.0, live)

  -- a call that leaves the list leaves all that stands
  pub keeps_stands : (log : Log) (o now : Option File) → Stands db o → KeepsLists db.active.start db.active.end db.active.first at n o now → is_some now ≡ is_some o → ReadsImage now → LogStands log now
      → SameList db.active log → Stands (with_active db log) now
  keeps_stands log None now stands keeps told reads active same = subst (Stands (with_active db log)) (sym keeps) (settled_with db log stands)
  keeps_stands log (Some f) now stands keeps told reads active same =
      let torn = keeps_torn db.active.start db.active.end db.active.first at n (Some f) now keeps in
      let far : 1024 ≤ at = omega (arith, inside.low) in
      stands_made (with_active db log) (entries_in (Some f)) now reads active (live_stays (Some f) now (stands_live db (Some f) stands) torn reads) (pair_stays db.pair at n (Some f) now far (stands_pair db (Some f) stands) torn)
      (keeps_has (entries_in (Some f)) (Some f) now keeps (stands_has db (Some f) stands)) (stands.3 ∙ sym same.next) (settled_with db log (stands_settled db (Some f) stands))
      (keeps_places log (Some f) now same keeps stands (live_kept (Some f) now (stands_live db (Some f) stands) torn reads stands.5.1) reads)

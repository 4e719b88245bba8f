-- What a turn of the sides leaves.
use Rattle.std.proofs.Common.{◌≡◌, inl, inr, ℕ, ◌+◌, ◌^◌, ◌<◌, ◌≤◌, Bool, true, false, List, [], length, Option, Some, None, refl, sym, ◌∙◌, ap, subst, arith}
use Rattle.std.specs.Prelude.{IfSome, IsTrue, if◌then◌else◌, ◌==◌, is_some}
use Rattle.std.proofs.lemmas.Bool.{false≢true}
use Rattle.std.proofs.lemmas.Bool.Decides.{nat_tests}
use Rattle.odb_device.specs.World.{File, Moment, World, file_of}
use Rattle.odb_device.specs.Images.{EachImage, ReadsImage, Torn, TornFrom}
use Rattle.odb_device.specs.Moments.{Runs}
use Rattle.odb_device.specs.Zeros.{AreZero}
use Rattle.odb_device.proofs.Torn.{each_weakens, torn_each}
use Rattle.odb_device.proofs.Time.{run_end}
use Rattle.odb_pair.specs.Places.{Holds as PairHolds}
use Rattle.odb_pair.specs.Standing.{PairState, StandsFor as PairStandsFor, HoldsKeptOr, RunsPair, LeavesUnsettled}
use Rattle.odb_reclog.specs.Standing.{Log, StandsFor as LogStandsFor, Stands as LogStands, list_of, tail_of, begun}
use Rattle.odb_reclog.proofs.Files.{stands_each}
use Rattle.odb_model.specs.declared.entry.Entry.{Entry}
use Rattle.odb_model.specs.declared.side.OtherSide.{OtherSide}
use Rattle.odb_model.specs.declared.side.OtherSide.TheVariants.{Live, Dirty, Clean}
use Rattle.odb_transdb.specs.declared.header.Header.{Header}
use Rattle.odb_transdb.specs.Header.{header_image, header_of, is_header, side_start, side_end, side_size, file_size, active_first, first_held, other_of, turned}
use Rattle.odb_transdb.specs.Opened.{entries_of, entries_in}
use Rattle.odb_transdb.specs.Standing.{Db, IsLiveBy, IsDb, IsSettled, HasPlaces, Stands}
use Rattle.odb_transdb.specs.Turning.{IsBeside, IsEnd, HoldsOneOf, HoldsBy, StandsEither, StandsSince, HasZeroOther, EndsHeld, IsOfTurn}
use Rattle.odb_transdb.proofs.Headers.{IsLawful, lawful_is, header_again}
use Rattle.odb_transdb.proofs.Opened.{IsSound}
use Rattle.odb_transdb.proofs.Sides.{active_sides, inside_file}
use Rattle.odb_transdb.proofs.Standing.{some_first}
use Rattle.odb_transdb.proofs.Contents.{IsContent, content_of, content_under, clean_zero, turned_active, turned_held, turned_content, active_list}
use Rattle.odb_transdb.proofs.Kept.{steps_none, if_told_then}
use Rattle.odb_transdb.proofs.Heading.{since_each, since_log, since_made, put_only, put_places, put_run, put_log, put_done, put_left, Given}
use Rattle.odb_transdb.proofs.Settling.{ends_alike, ends_held, settled_stands}

-- a header whose fields are in order is lawful
pub is_lawful : (h : Header) → IsLawful h → IsTrue (is_header h)
is_lawful h is = grind (arith, nat_tests, is.format, is.low, is.high, is.active, is.first0, is.first1, is.some0, is.some1)

record IsFirst (n : ℕ) : Type 0 where
  some : 1 ≤ n
  few : n ≤ 2 ^ 48 + 1

one_first : (b : Bool) (x y : ℕ) → IsFirst x → IsFirst y → IsFirst (if b then x else y)
one_first true x y first second = first
one_first false x y first second = second

pub turned_lawful : (h : Header) (n : ℕ) → IsLawful h → 1 ≤ n → n ≤ 2 ^ 48 + 1 → IsTrue (is_header (turned n h))
turned_lawful h n is some few =
    let next : IsFirst n = record { some = some; few = few } in
    let zero : IsFirst h.first0 = record { some = is.some0; few = is.first0 } in
    let one : IsFirst h.first1 = record { some = is.some1; few = is.first1 } in
    let first = one_first (h.active == 0) h.first0 n zero next in
    let second = one_first (h.active == 0) n h.first1 next one in
    is_lawful (turned n h)
    (record {
      format = is.format;
      low = is.low;
      high = is.high;
      active = (active_sides h is.active).two;
      first0 = first.few;
      first1 = second.few;
      some0 = first.some;
      some1 = second.some;
    })

-- what the bytes hold under the header's own image
pub record OwnContent (h : Header) (next : ℕ) (all : List Entry) (bytes : List ℕ) : Type 0 where
  pub entries : List Entry
  pub end : IsEnd h next all entries
  pub content : IsContent h entries bytes

same_image : (h k : Header) → IsTrue (is_header h) → header_of (header_image h) ≡ Some k → k ≡ h
same_image h k lawful is = let same : Some h ≡ Some k = sym (header_again h lawful) ∙ is in sym (cc same)

pub own_content : (h : Header) (next : ℕ) (all : List Entry) (bytes : List ℕ) → IsTrue (is_header h) → HoldsBy h next all (header_image h) bytes → OwnContent h next all bytes
own_content h next all bytes lawful by =
    let same = same_image h by.header lawful by.is in
    let content = content_of by.header by.entries bytes by.holds in
    record {
      entries = by.entries;
      end = subst (λ (k : Header). IsEnd k next all by.entries) same by.end;
      content = subst (λ (k : Header). IsContent k by.entries bytes) same content;
    }

-- what they would hold under a header that is lawful
pub by_content : (h k : Header) (next : ℕ) (all entries : List Entry) (bytes : List ℕ) → IsTrue (is_header k) → IsBeside next h k → IsEnd k next all entries → IsContent k entries bytes → HoldsBy h next all (header_image k) bytes
by_content h k next all entries bytes lawful beside end content = record {
  header = k;
  is = header_again k lawful;
  beside = beside;
  entries = entries;
  end = end;
  holds = content_under k entries bytes content;
}

pub whole_size : (h : Header) → IsLawful h → 0 < side_size h
whole_size h is = omega (arith, is.low)

module _ (db : Db) (is : IsDb db) (clean : db.header.other ≡ Clean) (few : db.active.next ≤ 2 ^ 48 + 1) where
  abbrev h : Header
  h = db.header

  abbrev n : ℕ
  n = db.active.next

  abbrev t : Header
  t = turned n h

  lawful : IsLawful h
  lawful = lawful_is h is.lawful

  some_next : 1 ≤ n
  some_next = omega (arith, is.from, some_first h h.active lawful)

  pub new_lawful : IsTrue (is_header t)
  new_lawful = turned_lawful h n lawful some_next few

  -- under the new header the same entries would be held
  given_one : (all : List Entry) (records : List (List ℕ)) (between bytes : List ℕ) → LogStandsFor db.active records between bytes → StandsEither db all bytes → HoldsBy t n all (header_image t) bytes
  given_one all records between bytes log one =
      let own = own_content h n all bytes is.lawful one.own in
      let held = turned_held h n lawful.active clean in
      let content = turned_content h n lawful.active bytes own.entries clean (whole_size h lawful) (active_list h db.active records between bytes is.active log) own.content in
      by_content t t n all own.entries bytes new_lawful (inl refl) (record { front = own.end.front; all_is = own.end.all_is; count = omega (arith, held, own.end.count) }) content

  given_each : (all : List Entry) (o : Option File) → StandsSince db all o → EachImage (λ bytes. StandsEither db all bytes × HoldsBy t n all (header_image t) bytes) o
  given_each all None since = tt
  given_each all (Some f) since = λ image here.
      (since.2 image here, given_one all (list_of db.active (Some f)) (tail_of db.active (Some f)) image (since.0 image here) (since.2 image here))

  -- the side that is begun is there, and zeros
  pub record IsFree (bytes : List ℕ) : Type 0 where
    pub long : file_size h ≤ length bytes
    pub zero : HasZeroOther h bytes

  free_each : (all : List Entry) (o : Option File) → StandsSince db all o → EachImage IsFree o
  free_each all o since =
      each_weakens (StandsEither db all) IsFree o
      (λ bytes one.
      let own = own_content h n all bytes is.lawful one.own in
      record { long = own.content.long; zero = clean_zero h bytes lawful.active own.content.long (subst (λ (s : OtherSide). IsSound h s bytes) clean own.content.sound) }) (since_each db all o since)

  free_front : (before image : List ℕ) → IsFree before → Torn 0 1024 before image → IsFree image
  free_front before image free torn = record {
    long = omega (arith, free.long, torn.no_shorter);
    zero = λ i from to.
        let inside : i < length before = omega (arith, free.long, to, inside_file h (other_of h) (active_sides h lawful.active).two) in
        torn.outside i inside (inr (omega arith)) ∙ free.zero i from to;
  }

  module _ (all : List Entry) (value : List ℕ) (value_is : value ≡ header_image t) (w now : World) (runs : RunsPair db.pair (HoldsKeptOr db.pair value) w now) (since : StandsSince db all (file_of 0 w)) where
    abbrev P : Header → Type 0
    P = IsOfTurn db

    given : EachImage (Given db all value w now is.file runs t) (file_of 0 w)
    given = subst (λ (v : List ℕ). EachImage (λ bytes. StandsEither db all bytes × HoldsBy t n all v bytes) (file_of 0 w)) (sym value_is) (given_each all (file_of 0 w) since)

    new_is : (k : Header) → header_of value ≡ Some k → k ≡ t
    new_is k found = same_image t k new_lawful (ap header_of (sym value_is) ∙ found)

    left_same : (k : Header) → IsBeside n h k → first_held k ≡ first_held h
    left_same k (inl same) = ap first_held same
    left_same k (inr (inl begun)) = ap first_held begun.1 ∙ turned_held h n lawful.active clean
    left_same k (inr (inr dirty)) = let wrong : Dirty ≡ Clean = sym dirty.0 ∙ clean in absurd (cc wrong)

    pub turn_run : Runs 0 (EachImage (HoldsOneOf P n all)) w now
    turn_run =
        put_run db all value w now is.file runs t P (λ k left beside. (inl left, left_same k beside))
        (λ k found. let same = new_is k found in (inr same, ap first_held same ∙ turned_held h n lawful.active clean)) given

    module _ (reads : ReadsImage (file_of 0 now)) (pair : PairState) (stands : EachImage (PairStandsFor pair) (file_of 0 now)) where
      -- broken off
      abbrev pub left_db : Db
      left_db = record { header = h; pair = pair; active = db.active; live = db.live; places = db.places; live_places = db.live_places }

      live_still : (o : OtherSide) (live : Option Log) → h.other ≡ o → IsLiveBy h o live db.active → IfSome live (λ log. LogStands log (file_of 0 now))
      live_still Clean None same by = tt
      live_still Clean (Some log) same by = absurd by
      live_still Dirty live same by = let wrong : Dirty ≡ Clean = sym same ∙ clean in absurd (cc wrong)
      live_still Live live same by = let wrong : Live ≡ Clean = sym same ∙ clean in absurd (cc wrong)

      pub left_since : LeavesUnsettled value db.pair pair → StandsSince left_db all (file_of 0 now)
      left_since left =
          since_made left_db all (file_of 0 now) (put_log db all value w now is.file runs t db.active h.active is.active reads (since_log db all (file_of 0 w) since)) (live_still h.other db.live refl is.live)
          (put_left db all value w now is.file runs t left_db given stands refl left.value left.tried (λ before here. here.0.own) (λ x was beside. beside)
          (λ x found. inr (inl (clean, new_is x found))))
          (put_places db all value w now is.file runs t is reads since)

      -- done
      module _ (log : Log) (log_is : log ≡ begun 0 (side_start t t.active) (side_end t t.active) (active_first t))
          (begins : (bytes : List ℕ) → side_end t t.active ≤ length bytes → AreZero (side_start t t.active) (side_end t t.active) bytes → LogStandsFor log [] [] bytes)
          (settled : pair.settled ≡ true) (kept : pair.value ≡ value) (tried : pair.tried ≡ value) (holds : EachImage (PairHolds value) (file_of 0 now)) where
        abbrev pub turned_db : Db
        turned_db = record { header = t; pair = pair; active = log; live = Some db.active; places = []; live_places = db.places }

        next_is : log.next ≡ n
        next_is = ap (λ (l : Log). l.next) log_is ∙ turned_active h n lawful.active

        begun_stands : LogStands log (file_of 0 now)
        begun_stands =
            stands_each log [] [] (file_of 0 now) reads
            (each_weakens IsFree (LogStandsFor log [] []) (file_of 0 now)
            (λ bytes free. begins bytes (omega (arith, free.long, inside_file h (other_of h) (active_sides h lawful.active).two)) free.zero)
            (torn_each IsFree IsFree 0 1024 (file_of 0 w) (file_of 0 now) (λ before image one torn. free_front before image one torn) (free_each all (file_of 0 w) since)
            (run_end 0 (TornFrom 0 1024 (file_of 0 w)) w now (put_only db all value w now is.file runs))))

        pub turned_since : StandsSince turned_db all (file_of 0 now)
        turned_since =
            since_made turned_db all (file_of 0 now) begun_stands (put_log db all value w now is.file runs t db.active h.active is.active reads (since_log db all (file_of 0 w) since))
            (put_done db all value w now is.file runs t turned_db given stands refl next_is (sym value_is) kept tried)
            (if_told_then (λ g. HasPlaces db (Some g)) (λ g. HasPlaces turned_db (Some g)) (file_of 0 now) (λ g has. (steps_none log.start (list_of log (Some g)), has.0)) (put_places db all value w now is.file runs t is reads since))

        turned_settled : IsSettled turned_db
        turned_settled = record { lawful = new_lawful; settled = settled; value = kept ∙ value_is; tried = tried ∙ sym kept }

        pair_holds : EachImage (PairHolds pair.value) (file_of 0 now)
        pair_holds = subst (λ (v : List ℕ). EachImage (PairHolds v) (file_of 0 now)) (sym kept) holds

        pub turned_stands : Stands turned_db (file_of 0 now)
        turned_stands = settled_stands turned_db all (file_of 0 now) reads turned_settled pair_holds turned_since

        -- a read gives the same entries as before
        turned_end : EndsHeld turned_db all (file_of 0 now)
        turned_end = ends_held turned_db all (file_of 0 now) reads turned_settled pair_holds turned_since

        pub turned_entries : ReadsImage (file_of 0 w) → entries_in (file_of 0 now) ≡ entries_in (file_of 0 w)
        turned_entries before = of_files (file_of 0 w) (file_of 0 now) told before at_first turned_end
          where
            told : is_some (file_of 0 now) ≡ is_some (file_of 0 w)
            told = turn_run.only.told now.time turn_run.only.later (omega arith)

            at_first : EachImage (HoldsOneOf P n all) (file_of 0 w)
            at_first = subst (λ (m : Moment). EachImage (HoldsOneOf P n all) (m.files 0)) (turn_run.only.past w.time (omega arith)) (turn_run.each w.time (omega arith) turn_run.only.later)

            of_files : (o p : Option File) → is_some p ≡ is_some o → ReadsImage o → EachImage (HoldsOneOf P n all) o → EndsHeld turned_db all p → entries_in p ≡ entries_in o
            of_files None None told before each end = refl
            of_files None (Some g) told before each end = absurd (false≢true (sym told))
            of_files (Some f) None told before each end = absurd (false≢true told)
            of_files (Some f) (Some g) told before each end =
                let one = each f.bytes before in
                ends_alike t one.0 n all (entries_in (Some g)) (entries_in (Some f)) (turned_held h n lawful.active clean ∙ sym one.1.1) (subst (λ (k : ℕ). IsEnd t k all (entries_in (Some g))) next_is end)
                (subst (IsEnd one.0 n all) (sym (ap entries_of one.2.holds)) one.2.end)

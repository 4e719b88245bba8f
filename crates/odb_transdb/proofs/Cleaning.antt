-- What a cleaning of the other side leaves.
use Rattle.std.proofs.Common.{◌≡◌, ◌≢◌, ◌⊎◌, inl, inr, ℕ, ◌+◌, ◌-◌, ◌≤◌, true, List, Option, Some, None, Ok, refl, sym, ◌∙◌, ap, subst, arith}
use Rattle.std.specs.Prelude.{IfSome, IsTrue, is_some}
use Rattle.odb_device.specs.World.{File, World, file_of}
use Rattle.odb_device.specs.Images.{EachImage, ReadsImage, Torn, TornFrom}
use Rattle.odb_device.specs.Moments.{Runs}
use Rattle.odb_device.proofs.Torn.{each_weakens, torn_each}
use Rattle.odb_device.proofs.Time.{run_end, weakens}
use Rattle.odb_pair.specs.Places.{Holds as PairHolds}
use Rattle.odb_pair.specs.Standing.{PairState, StandsFor as PairStandsFor, HoldsKeptOr, RunsPair, LeavesUnsettled}
use Rattle.odb_reclog.specs.Standing.{Log, Stands as LogStands}
use Rattle.odb_reclog.specs.Told.{TearsOnly}
use Rattle.odb_model.specs.declared.entry.Entry.{Entry}
use Rattle.odb_model.specs.declared.side.OtherSide.{OtherSide}
use Rattle.odb_model.specs.declared.side.OtherSide.TheVariants.{Live, Dirty, Clean}
use Rattle.odb_transdb.specs.declared.header.Header.{Header}
use Rattle.odb_transdb.specs.Header.{header_image, header_of, is_header, side_start, side_end, first_on, active_first, first_by, first_held, other_of, with_other}
use Rattle.odb_transdb.specs.Opened.{side_list, side_entries, entries_from, entries_in}
use Rattle.odb_transdb.specs.Kept.{AreKept}
use Rattle.odb_transdb.specs.Standing.{Db, IsOfSide, IsLiveBy, IsDb, HasPlaces, Stands}
use Rattle.odb_transdb.specs.Answers.{HoldsAll}
use Rattle.odb_transdb.specs.Turning.{IsBeside, HoldsOneOf, HoldsBy, StandsEither, StandsSince, HasZeroOther, IsOfClean, IsOfSettling}
use Rattle.odb_transdb.proofs.Headers.{lawful_is, header_again}
use Rattle.odb_transdb.proofs.Opened.{IsSound, read_by, Has}
use Rattle.odb_transdb.proofs.Sides.{IsInside, beside, other_sides, other_list, header_beside}
use Rattle.odb_transdb.proofs.Standing.{live_side, log_stays, pair_stays, stands_has, stands_pair, stands_log, stands_settled, has_all, entries_same, stands_made}
use Rattle.odb_transdb.proofs.Contents.{dirty_content, clean_content, end_of_end, first_same, lawful_other}
use Rattle.odb_transdb.proofs.Kept.{kept_stays, if_told_then}
use Rattle.odb_transdb.proofs.Heading.{since_each, since_log, since_live, since_made, put_places, put_run, put_log, put_done, put_left, Given}
use Rattle.odb_transdb.proofs.Settling.{settled_stands}
use Rattle.odb_transdb.proofs.Turning.{is_lawful, own_content, by_content}

-- the header with the state that it has
pub other_again : (h : Header) (s : OtherSide) → h.other ≡ s → with_other s h ≡ h
other_again h s is = ap (λ (o : OtherSide). with_other o h) (sym is)

pub other_lawful : (s : OtherSide) (h : Header) → IsTrue (is_header h) → IsTrue (is_header (with_other s h))
other_lawful s h is = is_lawful (with_other s h) (lawful_other s h (lawful_is h is))

-- an image is that of this header alone
pub image_of : (k x : Header) (value : List ℕ) → IsTrue (is_header k) → value ≡ header_image k → header_of value ≡ Some x → x ≡ k
image_of k x value lawful is found = let same : Some k ≡ Some x = sym (ap header_of is ∙ header_again k lawful) ∙ found in sym (cc same)

pub side_other : (s : OtherSide) (h : Header) (side : ℕ) (log : Log) → IsOfSide h side log → IsOfSide (with_other s h) side log
side_other s h side log is = record { file = is.file; start = is.start; end = is.end; first = is.first ∙ sym (first_same s h side) }

pub none_live : (h : Header) (s : OtherSide) (live : Option Log) (active : Log) → s ≢ Live → IsLiveBy h s live active → live ≡ None
none_live h Live live active other by = absurd (other refl)
none_live h Dirty (Some log) active other by = absurd by
none_live h Dirty None active other by = refl
none_live h Clean (Some log) active other by = absurd by
none_live h Clean None active other by = refl

-- the state of the value after a call of the pair
module _ (db : Db) (is : IsDb db) (all : List Entry) (value : List ℕ) (w now : World) (runs : RunsPair db.pair (HoldsKeptOr db.pair value) w now) (since : StandsSince db all (file_of 0 w)) (reads : ReadsImage (file_of 0 now)) (pair : PairState)
    (stands : EachImage (PairStandsFor pair) (file_of 0 now)) where
  abbrev h : Header
  h = db.header

  abbrev n : ℕ
  n = db.active.next

  active_log : LogStands db.active (file_of 0 now)
  active_log = put_log db all value w now is.file runs h db.active h.active is.active reads (since_log db all (file_of 0 w) since)

  -- a Live side's log stands on
  pub live_now : IfSome db.live (λ log. LogStands log (file_of 0 now))
  live_now = of_live db.live (live_side h h.other db.live db.active is.live) (since_live db all (file_of 0 w) since)
    where
      of_live : (l : Option Log) → IfSome l (λ log. IsOfSide h (other_of h) log) → IfSome l (λ log. LogStands log (file_of 0 w)) → IfSome l (λ log. LogStands log (file_of 0 now))
      of_live None side stands = tt
      of_live (Some log) side stands = put_log db all value w now is.file runs h log (other_of h) side reads stands

  -- where nothing is Live the places kept are those of the active side
  active_places : (made : Db) → made.active ≡ db.active → made.places ≡ db.places → made.live ≡ None → IfSome (file_of 0 now) (λ g. HasPlaces made (Some g))
  active_places made same kept none =
      if_told_then (λ g. HasPlaces db (Some g)) (λ g. HasPlaces made (Some g)) (file_of 0 now)
      (λ g has. (
        subst (λ (l : Log). AreKept l made.places (Some g)) (sym same) (subst (λ (p : List ℕ). AreKept db.active p (Some g)) (sym kept) has.0),
        subst (λ (l : Option Log). IfSome l (λ log. AreKept log made.live_places (Some g))) (sym none) tt,
      )) (put_places db all value w now is.file runs h is reads since)

  -- the header with a Dirty other side is put
  module _ (value_is : value ≡ header_image (with_other Dirty h)) (other : h.other ≢ Clean) where
    abbrev d : Header
    d = with_other Dirty h

    d_lawful : IsTrue (is_header d)
    d_lawful = other_lawful Dirty h is.lawful

    dirty_one : (bytes : List ℕ) → StandsEither db all bytes → HoldsBy d n all value bytes
    dirty_one bytes one =
        let own = own_content h n all bytes is.lawful one.own in
        let left = dirty_content h n own.entries bytes own.end.count own.content in
        subst (λ (v : List ℕ). HoldsBy d n all v bytes) (sym value_is)
        (by_content d d n all left.rest bytes d_lawful (inl refl) (end_of_end h d n all own.entries left.rest own.end left.end) left.content)

    dirty_given : EachImage (Given db all value w now is.file runs d) (file_of 0 w)
    dirty_given =
        each_weakens (StandsEither db all) (λ bytes. StandsEither db all bytes × HoldsBy d n all value bytes) (file_of 0 w) (λ bytes one. (one, dirty_one bytes one)) (since_each db all (file_of 0 w) since)

    pub dirty_run : Runs 0 (EachImage (HoldsOneOf (IsOfClean db) n all)) w now
    dirty_run = put_run db all value w now is.file runs d (IsOfClean db) (λ k left beside. inl left) (λ k found. inr (inl (image_of d k value d_lawful value_is found))) dirty_given

    abbrev pub dirty_db : List ℕ → Db
    dirty_db q = record { header = d; pair = pair; active = db.active; live = None; places = db.places; live_places = q }

    beside_dirty : (x : Header) → IsBeside n h x → IsBeside n d x
    beside_dirty x (inl same) = of_state h.other refl
      where
        of_state : (o : OtherSide) → h.other ≡ o → IsBeside n d x
        of_state Live live = inr (inr (refl, inl (same ∙ sym (other_again h Live live))))
        of_state Dirty dirty = inl (same ∙ sym (other_again h Dirty dirty))
        of_state Clean clean = absurd (other clean)
    beside_dirty x (inr (inl begun)) = absurd (other begun.0)
    beside_dirty x (inr (inr dirty)) = inr (inr (refl, dirty.1))

    pub dirty_left : (q : List ℕ) → LeavesUnsettled value db.pair pair → StandsSince (dirty_db q) all (file_of 0 now)
    dirty_left q left =
        since_made (dirty_db q) all (file_of 0 now) active_log tt
        (put_left db all value w now is.file runs d (dirty_db q) dirty_given stands refl left.value left.tried
        (λ before here. subst (λ (v : List ℕ). HoldsBy d n all v before) value_is here.1) (λ x was beside. beside_dirty x beside) (λ x found. inl (image_of d x value d_lawful value_is found)))
        (active_places (dirty_db q) refl refl refl)

    pub dirty_done : (q : List ℕ) → pair.value ≡ value → pair.tried ≡ value → StandsSince (dirty_db q) all (file_of 0 now)
    dirty_done q kept tried = since_made (dirty_db q) all (file_of 0 now) active_log tt (put_done db all value w now is.file runs d (dirty_db q) dirty_given stands refl refl (sym value_is) kept tried) (active_places (dirty_db q) refl refl refl)

    pub dirty_stands : (q : List ℕ) → pair.settled ≡ true → pair.value ≡ value → pair.tried ≡ value → EachImage (PairHolds value) (file_of 0 now) → Stands (dirty_db q) (file_of 0 now)
    dirty_stands q settled kept tried holds =
        settled_stands (dirty_db q) all (file_of 0 now) reads (record { lawful = d_lawful; settled = settled; value = kept ∙ value_is; tried = tried ∙ sym kept })
        (subst (λ (v : List ℕ). EachImage (PairHolds v) (file_of 0 now)) (sym kept) holds) (dirty_done q kept tried)

  -- and then the one with a Clean one, where that is zeros
  module _ (value_is : value ≡ header_image (with_other Clean h)) (dirty : h.other ≡ Dirty) (zeros : EachImage (HasZeroOther h) (file_of 0 w)) where
    abbrev k : Header
    k = with_other Clean h

    k_lawful : IsTrue (is_header k)
    k_lawful = other_lawful Clean h is.lawful

    clean_one : (bytes : List ℕ) → StandsEither db all bytes → HasZeroOther h bytes → HoldsBy k n all value bytes
    clean_one bytes one blank =
        let own = own_content h n all bytes is.lawful one.own in
        let low = (lawful_is h is.lawful).active in
        let held : first_held h ≡ active_first h = ap (first_by h) dirty in
        subst (λ (v : List ℕ). HoldsBy k n all v bytes) (sym value_is)
        (by_content k k n all own.entries bytes k_lawful (inl refl) (record { front = own.end.front; all_is = own.end.all_is; count = omega (arith, own.end.count, held, first_same Clean h h.active) })
        (clean_content h own.entries bytes low dirty blank own.content))

    clean_each : (o : Option File) → EachImage (StandsEither db all) o → EachImage (HasZeroOther h) o → EachImage (λ bytes. StandsEither db all bytes × HoldsBy k n all value bytes) o
    clean_each None each blank = tt
    clean_each (Some f) each blank = λ image here. (each image here, clean_one image (each image here) (blank image here))

    clean_given : EachImage (Given db all value w now is.file runs k) (file_of 0 w)
    clean_given = clean_each (file_of 0 w) (since_each db all (file_of 0 w) since) zeros

    pub clean_run : Runs 0 (EachImage (HoldsOneOf (IsOfClean db) n all)) w now
    clean_run = put_run db all value w now is.file runs k (IsOfClean db) (λ x left beside. inl left) (λ x found. inr (inr (image_of k x value k_lawful value_is found))) clean_given

    abbrev pub clean_db : Db
    clean_db = record { header = k; pair = pair; active = db.active; live = None; places = db.places; live_places = db.live_places }

    abbrev pub kept_db : Db
    kept_db = record { header = h; pair = pair; active = db.active; live = db.live; places = db.places; live_places = db.live_places }

    pub no_live : db.live ≡ None
    no_live = none_live h h.other db.live db.active (λ (live : h.other ≡ Live). let wrong : Dirty ≡ Live = sym dirty ∙ live in absurd (cc wrong)) is.live

    pub clean_left : LeavesUnsettled value db.pair pair → StandsSince kept_db all (file_of 0 now)
    clean_left left =
        since_made kept_db all (file_of 0 now) active_log (subst (λ (l : Option Log). IfSome l (λ log. LogStands log (file_of 0 now))) (sym no_live) tt)
        (put_left db all value w now is.file runs k kept_db clean_given stands refl left.value left.tried (λ before here. here.0.own) (λ x was beside. beside)
        (λ x found. inr (inr (dirty, inr (image_of k x value k_lawful value_is found)))))
        (put_places db all value w now is.file runs h is reads since)

    pub clean_done : pair.value ≡ value → pair.tried ≡ value → StandsSince clean_db all (file_of 0 now)
    clean_done kept tried = since_made clean_db all (file_of 0 now) active_log tt (put_done db all value w now is.file runs k clean_db clean_given stands refl refl (sym value_is) kept tried)
        (active_places clean_db refl refl refl)

    pub clean_stands : pair.settled ≡ true → pair.value ≡ value → pair.tried ≡ value → EachImage (PairHolds value) (file_of 0 now) → Stands clean_db (file_of 0 now)
    clean_stands settled kept tried holds =
        settled_stands clean_db all (file_of 0 now) reads (record { lawful = k_lawful; settled = settled; value = kept ∙ value_is; tried = tried ∙ sym kept })
        (subst (λ (v : List ℕ). EachImage (PairHolds v) (file_of 0 now)) (sym kept) holds) (clean_done kept tried)

  -- or the present one, once more
  module _ (value_is : value ≡ header_image h) where
    same_given : EachImage (Given db all value w now is.file runs h) (file_of 0 w)
    same_given =
        each_weakens (StandsEither db all) (λ bytes. StandsEither db all bytes × HoldsBy h n all value bytes) (file_of 0 w)
        (λ bytes one. (one, subst (λ (v : List ℕ). HoldsBy h n all v bytes) (sym value_is) one.own)) (since_each db all (file_of 0 w) since)

    pub same_run : Runs 0 (EachImage (HoldsOneOf (IsOfSettling db) n all)) w now
    same_run = put_run db all value w now is.file runs h (IsOfSettling db) (λ x left beside. inl left) (λ x found. inr (image_of h x value is.lawful value_is found)) same_given

    abbrev pub same_db : Db
    same_db = record { header = h; pair = pair; active = db.active; live = db.live; places = db.places; live_places = db.live_places }

    pub same_left : LeavesUnsettled value db.pair pair → StandsSince same_db all (file_of 0 now)
    same_left left =
        since_made same_db all (file_of 0 now) active_log live_now
        (put_left db all value w now is.file runs h same_db same_given stands refl left.value left.tried (λ before here. here.0.own) (λ x was beside. beside)
        (λ x found. inl (image_of h x value is.lawful value_is found)))
        (put_places db all value w now is.file runs h is reads since)

    pub same_done : pair.value ≡ value → pair.tried ≡ value → StandsSince same_db all (file_of 0 now)
    same_done kept tried = since_made same_db all (file_of 0 now) active_log live_now (put_done db all value w now is.file runs h same_db same_given stands refl refl (sym value_is) kept tried)
        (put_places db all value w now is.file runs h is reads since)

    pub same_stands : pair.settled ≡ true → pair.value ≡ value → pair.tried ≡ value → EachImage (PairHolds value) (file_of 0 now) → Stands same_db (file_of 0 now)
    same_stands settled kept tried holds =
        settled_stands same_db all (file_of 0 now) reads (record { lawful = is.lawful; settled = settled; value = kept ∙ value_is; tried = tried ∙ sym kept })
        (subst (λ (v : List ℕ). EachImage (PairHolds v) (file_of 0 now)) (sym kept) holds) (same_done kept tried)

-- a Dirty side is written, of which nothing is held
module _ (db : Db) (is : IsDb db) (dirty : db.header.other ≡ Dirty) where
  abbrev from : ℕ
  from = side_start db.header (other_of db.header)

  abbrev size : ℕ
  size = side_end db.header (other_of db.header) - side_start db.header (other_of db.header)

  low : db.header.active ≤ 1
  low = (lawful_is db.header is.lawful).active

  inside : IsInside db.header (other_of db.header) from size
  inside = record { low = omega arith; high = omega arith }

  dirty_has : (es : List Entry) (before image : List ℕ) → Has db.header es before → Torn from size before image → Has db.header es image
  dirty_has es before image has torn =
      let head = db.header in
      let list : side_list head head.active image ≡ side_list head head.active before = other_list head (other_of head) head.active from size before image (other_sides head low) inside torn has.order.has.long in
      let read : side_entries head head.active before ≡ Ok es = subst (λ (o : OtherSide). read_by head o before ≡ Ok es) dirty has.read in
      let now : read_by head Dirty image ≡ Ok es = ap (entries_from (first_on head head.active) (side_start head head.active)) list ∙ read in
      record {
        order = record {
          has = header_beside head (other_of head) head.active from size before image (other_sides head low) inside torn has.order.has.long has.order.has;
          sound = subst (λ (o : OtherSide). IsSound head o image) (sym dirty) tt;
        };
        read = subst (λ (o : OtherSide). read_by head o image ≡ Ok es) (sym dirty) now;
      }

  each_has : (o p : Option File) → Stands db o → TornFrom from size o p → EachImage (Has db.header (entries_in o)) p
  each_has o p stands torn = torn_each (Has db.header (entries_in o)) (Has db.header (entries_in o)) from size o p (λ before image has t. dirty_has (entries_in o) before image has t) (stands_has db o stands) torn

  module _ (w now : World) (stands : Stands db (file_of 0 w)) (run : TearsOnly 0 from size w now) where
    pub zeros_run : Runs 0 (HoldsAll db (entries_in (file_of 0 w))) w now
    zeros_run =
        weakens 0 (TornFrom from size (file_of 0 w)) (HoldsAll db (entries_in (file_of 0 w))) w now (λ p torn. has_all db.header (entries_in (file_of 0 w)) p (each_has (file_of 0 w) p stands torn)) run

    module _ (reads : ReadsImage (file_of 0 now)) where
      here : TornFrom from size (file_of 0 w) (file_of 0 now)
      here = run_end 0 (TornFrom from size (file_of 0 w)) w now run

      told : is_some (file_of 0 now) ≡ is_some (file_of 0 w)
      told = run.only.told now.time run.only.later (omega arith)

      pub zeros_entries : entries_in (file_of 0 now) ≡ entries_in (file_of 0 w)
      zeros_entries = entries_same db.header (file_of 0 w) (file_of 0 now) told reads (each_has (file_of 0 w) (file_of 0 now) stands here)

      pub zeros_stand : Stands db (file_of 0 now)
      zeros_stand = of_file (file_of 0 w) stands here
        where
          apart : (from + size ≤ db.active.start) ⊎ (db.active.end ≤ from)
          apart = elim (beside db.header (other_of db.header) db.header.active from size (other_sides db.header low) inside) [
            | inl below ↦ inl (omega (arith, below, is.active.start))
            | inr above ↦ inr (omega (arith, above, is.active.end))
          ]

          no_live : db.live ≡ None
          no_live = none_live db.header db.header.other db.live db.active (λ (live : db.header.other ≡ Live). let wrong : Dirty ≡ Live = sym dirty ∙ live in absurd (cc wrong)) is.live

          zeroed_places : (o p : Option File) → Stands db o → TornFrom from size o p → ReadsImage p → IfSome p (λ g. HasPlaces db (Some g))
          zeroed_places o None stands torn reads = tt
          zeroed_places None (Some g) stands torn reads = absurd (cc torn)
          zeroed_places (Some f) (Some g) stands torn reads = (
            kept_stays db.active db.places from size (Some f) (Some g) apart stands.0 torn reads stands.5.0,
            subst (λ (l : Option Log). IfSome l (λ log. AreKept log db.live_places (Some g))) (sym no_live) tt,
          )

          of_file : (o : Option File) → Stands db o → TornFrom from size o (file_of 0 now) → Stands db (file_of 0 now)
          of_file None stands torn = subst (Stands db) (sym torn) stands
          of_file (Some f) stands torn =
              stands_made db (entries_in (Some f)) (file_of 0 now) reads (log_stays db.active from size (Some f) (file_of 0 now) apart (stands_log db (Some f) stands) torn reads)
              (subst (λ (l : Option Log). IfSome l (λ log. LogStands log (file_of 0 now))) (sym no_live) tt) (pair_stays db.pair from size (Some f) (file_of 0 now) (omega arith) (stands_pair db (Some f) stands) torn)
              (each_has (Some f) (file_of 0 now) stands torn) stands.3 (stands_settled db (Some f) stands)
              (zeroed_places (Some f) (file_of 0 now) stands torn reads)

-- What a put of a header leaves of file 0, whatever it answers.
use Rattle.std.proofs.Common.{◌≡◌, ◌⊎◌, inl, inr, ℕ, List, Option, Some, None, sym, ◌∙◌, ap, subst, arith}
use Rattle.std.specs.Prelude.{IfSome}
use Rattle.odb_device.specs.World.{File, World, file_of}
use Rattle.odb_device.specs.Images.{EachImage, ReadsImage, Torn, TornFrom}
use Rattle.odb_device.specs.Moments.{Runs, WritesWithin}
use Rattle.odb_device.proofs.Torn.{each_weakens}
use Rattle.odb_device.proofs.Time.{run_end}
use Rattle.odb_pair.specs.Places.{Holds as PairHolds}
use Rattle.odb_pair.specs.Standing.{StandsFor as PairStandsFor, HoldsKeptOr, RunsPair}
use Rattle.odb_reclog.specs.Standing.{Log, Stands as LogStands}
use Rattle.odb_model.specs.declared.entry.Entry.{Entry}
use Rattle.odb_transdb.specs.declared.header.Header.{Header}
use Rattle.odb_transdb.specs.Header.{header_image, header_of, other_of}
use Rattle.odb_transdb.specs.Kept.{AreKept}
use Rattle.odb_transdb.specs.Standing.{Db, IsOfSide, IsDb, IsSettled, HasPlaces}
use Rattle.odb_transdb.specs.Turning.{IsLeft, IsBeside, HoldsEnd, HoldsOneOf, HoldsBy, StandsEither, StandsSince}
use Rattle.odb_transdb.proofs.Headers.{header_again}
use Rattle.odb_transdb.proofs.Kept.{kept_stays, if_told_then}
use Rattle.odb_transdb.proofs.Standing.{log_stays, live_side}
use Rattle.odb_transdb.proofs.Contents.{content_of, content_under, content_holds, content_front, low_of}

-- writes of the pair leave what the bytes would hold under a value
pub by_front : (h : Header) (next : ℕ) (all : List Entry) (value before image : List ℕ) → Torn 0 1024 before image → HoldsBy h next all value before → HoldsBy h next all value image
by_front h next all value before image torn is = record {
  header = is.header;
  is = is.is;
  beside = is.beside;
  entries = is.entries;
  end = is.end;
  holds = content_under is.header is.entries image (content_front is.header is.entries before image (low_of value is.header is.is).active torn (content_of is.header is.entries before is.holds));
}

-- bytes whose pair holds the value hold that
pub by_holds : (h : Header) (next : ℕ) (all : List Entry) (value bytes : List ℕ) (is : HoldsBy h next all value bytes) → PairHolds value bytes → HoldsEnd is.header next all bytes
by_holds h next all value bytes is pair = record {
  entries = is.entries;
  end = is.end;
  holds = content_holds is.header is.entries value bytes (content_of is.header is.entries bytes is.holds) pair is.is;
}

-- the same beside another header
pub by_beside : (h k : Header) (next : ℕ) (all : List Entry) (value bytes : List ℕ) → ((x : Header) → header_of value ≡ Some x → IsBeside next h x → IsBeside next k x) → HoldsBy h next all value bytes → HoldsBy k next all value bytes
by_beside h k next all value bytes step is = record {
  header = is.header;
  is = is.is;
  beside = step is.header is.is is.beside;
  entries = is.entries;
  end = is.end;
  holds = is.holds;
}

-- each image of now is one from before, but for the pair, and has what another clause says
front_with : (Q D R : List ℕ → Type 0) (o p : Option File) → ((before image : List ℕ) → Q before → Torn 0 1024 before image → D image → R image) → EachImage Q o → TornFrom 0 1024 o p → EachImage D p → EachImage R p
front_with Q D R None p step each torn done = subst (EachImage R) (sym torn) tt
front_with Q D R (Some f) None step each torn done = tt
front_with Q D R (Some f) (Some g) step each torn done = λ image is. let b = torn image is in step b.0 image (each b.0 b.1) b.2 (done image is)

pub since_each : (db : Db) (all : List Entry) (o : Option File) → StandsSince db all o → EachImage (StandsEither db all) o
since_each db all None since = tt
since_each db all (Some f) since = since.2

pub since_log : (db : Db) (all : List Entry) (o : Option File) → StandsSince db all o → LogStands db.active o
since_log db all None since = tt
since_log db all (Some f) since = since.0

pub since_live : (db : Db) (all : List Entry) (o : Option File) → StandsSince db all o → IfSome db.live (λ log. LogStands log o)
since_live db all None since = of_live db.live
  where
    of_live : (l : Option Log) → IfSome l (λ log. LogStands log None)
    of_live None = tt
    of_live (Some log) = tt
since_live db all (Some f) since = since.1

pub since_pair : (db : Db) (all : List Entry) (o : Option File) → StandsSince db all o → EachImage (PairStandsFor db.pair) o
since_pair db all o since = each_weakens (StandsEither db all) (PairStandsFor db.pair) o (λ image one. one.pair) (since_each db all o since)

-- the places kept, where the file is told
pub since_places : (db : Db) (all : List Entry) (o : Option File) → StandsSince db all o → IfSome o (λ f. HasPlaces db (Some f))
since_places db all None since = tt
since_places db all (Some f) since = since.3

pub since_made : (db : Db) (all : List Entry) (o : Option File) → LogStands db.active o → IfSome db.live (λ log. LogStands log o) → EachImage (StandsEither db all) o → IfSome o (λ f. HasPlaces db (Some f)) → StandsSince db all o
since_made db all None active live each places = tt
since_made db all (Some f) active live each places = (active, live, each, places)

-- a put of this value by the pair
module _ (db : Db) (all : List Entry) (value : List ℕ) (w now : World) (file : db.pair.file ≡ 0) (runs : RunsPair db.pair (HoldsKeptOr db.pair value) w now) where
  pub put_only : WritesWithin 0 0 1024 w now
  put_only = subst (λ (k : ℕ). Runs k (TornFrom 0 1024 (file_of k w)) w now) file runs.beside

  put_torn : TornFrom 0 1024 (file_of 0 w) (file_of 0 now)
  put_torn = run_end 0 (TornFrom 0 1024 (file_of 0 w)) w now put_only

  put_pair : Runs 0 (EachImage (HoldsKeptOr db.pair value)) w now
  put_pair = subst (λ (k : ℕ). Runs k (EachImage (HoldsKeptOr db.pair value)) w now) file runs.run

  -- what would be held under it, and beside which header
  module _ (to : Header) where
    abbrev pub Given : List ℕ → Type 0
    Given before = StandsEither db all before × HoldsBy to db.active.next all value before

    -- at each moment an end is held, under a header that was left or the new one
    pub put_run : (P : Header → Type 0) → ((k : Header) → IsLeft db k → IsBeside db.active.next db.header k → P k) → ((k : Header) → header_of value ≡ Some k → P k) → EachImage Given (file_of 0 w)
        → Runs 0 (EachImage (HoldsOneOf P db.active.next all)) w now
    put_run P left new given = record {
      only = put_only.only;
      each = λ k from to_time.
          front_with Given (HoldsKeptOr db.pair value) (HoldsOneOf P db.active.next all) (file_of 0 w) ((now.moment k).files 0) step given (put_only.each k from to_time) (put_pair.each k from to_time);
    }
      where
        next : ℕ
        next = db.active.next

        step : (before image : List ℕ) → Given before → Torn 0 1024 before image → HoldsKeptOr db.pair value image → HoldsOneOf P db.active.next all image
        step before image given torn (inl (inl kept)) =
            let by = by_front db.header db.active.next all db.pair.value before image torn given.0.kept in
            (by.header, left by.header (inl by.is) by.beside, by_holds db.header db.active.next all db.pair.value image by kept)
        step before image given torn (inl (inr tried)) =
            let by = by_front db.header db.active.next all db.pair.tried before image torn given.0.tried in
            (by.header, left by.header (inr by.is) by.beside, by_holds db.header db.active.next all db.pair.tried image by tried)
        step before image given torn (inr done) =
            let by = by_front to db.active.next all value before image torn given.1 in
            (by.header, new by.header by.is, by_holds to db.active.next all value image by done)

    -- the logs stand behind it
    pub put_log : (log : Log) (side : ℕ) → IsOfSide db.header side log → ReadsImage (file_of 0 now) → LogStands log (file_of 0 w) → LogStands log (file_of 0 now)
    put_log log side is reads stands = log_stays log 0 1024 (file_of 0 w) (file_of 0 now) (inl (omega (arith, is.start))) stands put_torn reads

    -- and the places kept of them are as before
    put_kept : (log : Log) (side : ℕ) (places : List ℕ) → IsOfSide db.header side log → ReadsImage (file_of 0 now) → LogStands log (file_of 0 w) → IfSome (file_of 0 w) (λ f. AreKept log places (Some f)) → IfSome (file_of 0 now) (λ g. AreKept log places (Some g))
    put_kept log side places is reads stands kept = kept_stays log places 0 1024 (file_of 0 w) (file_of 0 now) (inl (omega (arith, is.start))) stands put_torn reads kept

    pub put_places : IsDb db → ReadsImage (file_of 0 now) → StandsSince db all (file_of 0 w) → IfSome (file_of 0 now) (λ g. HasPlaces db (Some g))
    put_places is reads since =
        both (file_of 0 now)
        (put_kept db.active db.header.active db.places is.active reads (since_log db all (file_of 0 w) since) (if_told_then (λ f. HasPlaces db (Some f)) (λ f. AreKept db.active db.places (Some f)) (file_of 0 w) (λ f has. has.0) (since_places db all (file_of 0 w) since)))
        (live_part db.live (live_side db.header db.header.other db.live db.active is.live) (since_live db all (file_of 0 w) since)
        (if_told_then (λ f. HasPlaces db (Some f)) (λ f. IfSome db.live (λ log. AreKept log db.live_places (Some f))) (file_of 0 w) (λ f has. has.1) (since_places db all (file_of 0 w) since)))
      where
        both : (p : Option File) → IfSome p (λ g. AreKept db.active db.places (Some g)) → IfSome p (λ g. IfSome db.live (λ log. AreKept log db.live_places (Some g))) → IfSome p (λ g. HasPlaces db (Some g))
        both None active live = tt
        both (Some g) active live = (active, live)

        nothing : (p : Option File) → IfSome p (λ g. Unit {0})
        nothing None = tt
        nothing (Some g) = tt

        live_part : (l : Option Log) → IfSome l (λ log. IsOfSide db.header (other_of db.header) log) → IfSome l (λ log. LogStands log (file_of 0 w)) → IfSome (file_of 0 w) (λ f. IfSome l (λ log. AreKept log db.live_places (Some f)))
            → IfSome (file_of 0 now) (λ g. IfSome l (λ log. AreKept log db.live_places (Some g)))
        live_part None side stands kept = nothing (file_of 0 now)
        live_part (Some log) side stands kept = put_kept log (other_of db.header) db.live_places side reads stands kept

    -- and each image is one of the new state's, by what each value would give
    pub put_each : (made : Db) → EachImage Given (file_of 0 w) → EachImage (PairStandsFor made.pair) (file_of 0 now)
        → ((before : List ℕ) → Given before → HoldsBy made.header made.active.next all (header_image made.header) before)
        → ((before : List ℕ) → Given before → HoldsBy made.header made.active.next all made.pair.value before)
        → ((before : List ℕ) → Given before → HoldsBy made.header made.active.next all made.pair.tried before) → EachImage (StandsEither made all) (file_of 0 now)
    put_each made given pair own kept tried =
        front_with Given (PairStandsFor made.pair) (StandsEither made all) (file_of 0 w) (file_of 0 now)
        (λ before image here torn stands. record {
          pair = stands;
          own = by_front made.header made.active.next all (header_image made.header) before image torn (own before here);
          kept = by_front made.header made.active.next all made.pair.value before image torn (kept before here);
          tried = by_front made.header made.active.next all made.pair.tried before image torn (tried before here);
        })
        given put_torn pair

    put_value : (made : Db) (before : List ℕ) → made.header ≡ to → made.active.next ≡ db.active.next → (v : List ℕ) → v ≡ value → HoldsBy to db.active.next all value before → HoldsBy made.header made.active.next all v before
    put_value made before same next v is by =
        subst (λ (h : Header). HoldsBy h made.active.next all v before) (sym same)
        (subst (λ (n : ℕ). HoldsBy to n all v before) (sym next) (subst (λ (x : List ℕ). HoldsBy to db.active.next all x before) (sym is) by))

    -- done: the header is the new one, and no other is left
    pub put_done : (made : Db) → EachImage Given (file_of 0 w) → EachImage (PairStandsFor made.pair) (file_of 0 now) → made.header ≡ to → made.active.next ≡ db.active.next → header_image to ≡ value → made.pair.value ≡ value → made.pair.tried ≡ value
        → EachImage (StandsEither made all) (file_of 0 now)
    put_done made given pair same next image kept tried =
        put_each made given pair
        (λ before here. put_value made before same next (header_image made.header) (ap header_image same ∙ image) here.1)
        (λ before here. put_value made before same next made.pair.value kept here.1)
        (λ before here. put_value made before same next made.pair.tried tried here.1)

    -- or broken off: the value kept is left, and the one tried before or the new one
    pub put_left : (made : Db) → EachImage Given (file_of 0 w) → EachImage (PairStandsFor made.pair) (file_of 0 now) → made.active.next ≡ db.active.next → made.pair.value ≡ db.pair.value
        → (made.pair.tried ≡ db.pair.tried) ⊎ (made.pair.tried ≡ value)
        → ((before : List ℕ) → Given before → HoldsBy made.header db.active.next all (header_image made.header) before)
        → ((x : Header) → IsLeft db x → IsBeside db.active.next db.header x → IsBeside db.active.next made.header x)
        → ((x : Header) → header_of value ≡ Some x → IsBeside db.active.next made.header x) → EachImage (StandsEither made all) (file_of 0 now)
    put_left made given pair next kept tried own left new =
        put_each made given pair (λ before here. renumbered (header_image made.header) before (own before here))
        (λ before here.
        renumbered made.pair.value before
        (subst (λ (v : List ℕ). HoldsBy made.header db.active.next all v before) (sym kept)
        (by_beside db.header made.header db.active.next all db.pair.value before (λ x is beside. left x (inl is) beside) here.0.kept)))
        (λ before here. elim tried [
          | inl same ↦
              renumbered made.pair.tried before
              (subst (λ (v : List ℕ). HoldsBy made.header db.active.next all v before) (sym same)
              (by_beside db.header made.header db.active.next all db.pair.tried before (λ x is beside. left x (inr is) beside) here.0.tried))
          | inr given ↦
              renumbered made.pair.tried before
              (subst (λ (v : List ℕ). HoldsBy made.header db.active.next all v before) (sym given)
              (by_beside to made.header db.active.next all value before (λ x is beside. new x is) here.1))
        ])
      where
        renumbered : (v before : List ℕ) → HoldsBy made.header db.active.next all v before → HoldsBy made.header made.active.next all v before
        renumbered v before by = subst (λ (n : ℕ). HoldsBy made.header n all v before) (sym next) by

-- where the pair is settled, all that is left is the header
pub one_left : (db : Db) (k : Header) → IsSettled db → IsLeft db k → k ≡ db.header
one_left db k is (inl kept) = let same : Some db.header ≡ Some k = sym (ap header_of is.value ∙ header_again db.header is.lawful) ∙ kept in sym (cc same)
one_left db k is (inr tried) = let same : Some db.header ≡ Some k = sym (ap header_of (is.tried ∙ is.value) ∙ header_again db.header is.lawful) ∙ tried in sym (cc same)

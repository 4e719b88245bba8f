-- Parts of a cleaning and of a commit, one behind another.
use Rattle.std.proofs.Common.{◌≡◌, inl, inr, ℕ, List, ◌++◌, ◌-◌, Option, Some, None, Result, Ok, Err, refl, sym, ◌∙◌, ap, subst}
use Rattle.std.specs.Prelude.{IfSome, OnOk, OnErr, is_some}
use Rattle.std.proofs.lemmas.Bool.{false≢true}
use Rattle.odb_device.specs.World.{File, World, file_of}
use Rattle.odb_device.specs.Images.{EachImage, ReadsImage, TornFrom}
use Rattle.odb_device.specs.Moments.{Runs}
use Rattle.odb_device.proofs.Torn.{each_weakens, stays_from}
use Rattle.odb_device.proofs.Time.{begins, weakens}
use Rattle.odb_pair.specs.Places.{Holds as PairHolds}
use Rattle.odb_pair.specs.Standing.{StandsFor as PairStandsFor}
use Rattle.odb_reclog.specs.Standing.{Log}
use Rattle.odb_model.specs.declared.entry.Entry.{Entry}
use Rattle.odb_model.specs.declared.side.OtherSide.TheVariants.{Dirty, Clean}
use Rattle.odb_transdb.specs.declared.header.Header.{Header}
use Rattle.odb_transdb.specs.declared.error.TransdbError.{TransdbError}
use Rattle.odb_transdb.specs.declared.error.TransdbError.TheVariants.{Full}
use Rattle.odb_transdb.specs.Header.{with_other}
use Rattle.odb_transdb.specs.Opened.{Holds, entries_in}
use Rattle.odb_transdb.specs.Standing.{Db, IsSettled, Stands}
use Rattle.odb_transdb.specs.Worlds.{KeepsEntries, Forces}
use Rattle.odb_transdb.specs.Turning.{IsEnd, HoldsEnd, HoldsOneOf, StandsEither, StandsSince, EndsHeld, IsOfClean, IsOfSettling, RunsSettling, HasOther}
use Rattle.odb_transdb.proofs.Opened.{holds_has}
use Rattle.odb_transdb.proofs.Forcing.{still_holds}
use Rattle.odb_transdb.proofs.Heading.{by_holds, since_each, since_pair, one_left}
use Rattle.odb_transdb.proofs.Settling.{may_stand, since_widen, settled_stands}
use Rattle.odb_transdb.proofs.Turning.{own_content}

-- what is known of a told file, along a stretch
told_run : (Q R : List ℕ → Type 0) (mid now : World) → IfSome (file_of 0 mid) (λ f. (image : List ℕ) → Q image → R image) → Runs 0 (EachImage Q) mid now → Runs 0 (EachImage R) mid now
told_run Q R mid now step run = record {
  only = run.only;
  each = λ k from to. of_files (file_of 0 mid) ((now.moment k).files 0) (run.only.told k from to) step (run.each k from to);
}
  where
    of_files : (o p : Option File) → is_some p ≡ is_some o → IfSome o (λ f. (image : List ℕ) → Q image → R image) → EachImage Q p → EachImage R p
    of_files o None told step each = tt
    of_files None (Some g) told step each = absurd (false≢true (sym told))
    of_files (Some f) (Some g) told step each = λ image is. step image (each image is)

-- the last of the entries are those that a settled file gives
pub ends_of : (db : Db) (all : List Entry) (o : Option File) → ReadsImage o → Stands db o → StandsSince db all o → EndsHeld db all o
ends_of db all None reads stands since = tt
ends_of db all (Some f) reads stands since =
    let own = own_content db.header db.active.next all f.bytes stands.4.lawful (since.2 f.bytes reads).own in
    let has = holds_has db.header (entries_in (Some f)) f.bytes ((stands.2 f.bytes reads).holds) in
    let both : Ok own.entries ≡ Ok (entries_in (Some f)) = sym own.content.read ∙ has.read in
    let same : own.entries ≡ entries_in (Some f) = cc both in
    subst (IsEnd db.header db.active.next all) same own.end

-- and so of one that stands later with the same entries
pub since_again : (db : Db) (all : List Entry) (o p : Option File) → is_some p ≡ is_some o → EndsHeld db all o → entries_in p ≡ entries_in o → Stands db p → StandsSince db all p
since_again db all o None told end same stands = tt
since_again db all None (Some g) told end same stands = absurd (false≢true (sym told))
since_again db all (Some f) (Some g) told end same stands =
    since_widen db (entries_in (Some g)) all end.front (Some g) (end.all_is ∙ ap (λ (l : List Entry). end.front ++ l) (sym same)) (may_stand db (Some g) stands)

module _ (db d : Db) (dirty : HasOther Dirty db d) (all : List Entry) where
  next_same : d.active.next ≡ db.active.next
  next_same = ap (λ (l : Log). l.next) dirty.active

  -- while the side is zeroed
  pub zeros_along : (mid now : World) → EndsHeld d all (file_of 0 mid) → KeepsEntries d mid now → Runs 0 (EachImage (HoldsOneOf (IsOfClean db) db.active.next all)) mid now
  zeros_along mid now end run =
      told_run (Holds d.header (entries_in (file_of 0 mid))) (HoldsOneOf (IsOfClean db) db.active.next all) mid now (of_file (file_of 0 mid) end) run
    where
      of_file : (o : Option File) → EndsHeld d all o → IfSome o (λ f. (image : List ℕ) → Holds d.header (entries_in o) image → HoldsOneOf (IsOfClean db) db.active.next all image)
      of_file None end = tt
      of_file (Some f) end = λ image holds.
          (d.header, inr (inl dirty.header), record { entries = entries_in (Some f); end = subst (λ (n : ℕ). IsEnd d.header n all (entries_in (Some f))) next_same end; holds = holds })

  -- and while the last header is put
  pub clean_along : (mid now : World) → IsSettled d → Runs 0 (EachImage (HoldsOneOf (IsOfClean d) d.active.next all)) mid now → Runs 0 (EachImage (HoldsOneOf (IsOfClean db) db.active.next all)) mid now
  clean_along mid now settled run =
      weakens 0 (EachImage (HoldsOneOf (IsOfClean d) d.active.next all)) (EachImage (HoldsOneOf (IsOfClean db) db.active.next all)) mid now
      (λ o each. each_weakens (HoldsOneOf (IsOfClean d) d.active.next all) (HoldsOneOf (IsOfClean db) db.active.next all) o (λ image one. (one.0, of_header one.0 one.1, subst (λ (n : ℕ). HoldsEnd one.0 n all image) next_same one.2)) each) run
    where
      of_header : (k : Header) → IsOfClean d k → IsOfClean db k
      of_header k (inl left) = inr (inl (one_left d k settled left ∙ dirty.header))
      of_header k (inr (inl same)) = inr (inl (same ∙ ap (with_other Dirty) dirty.header))
      of_header k (inr (inr same)) = inr (inr (same ∙ ap (with_other Clean) dirty.header))

-- what is forced from where the pair was settled already
pub forces_same : (payload : List ℕ) (result : Result ℕ TransdbError) (old mid new : Db) (w m now : World) → mid ≡ old → m ≡ w → Forces payload result mid new m now → Forces payload result old new w now
forces_same payload result old mid new w m now same here forces =
    subst (λ (d : Db). Forces payload result d new w now) same (subst (λ (x : World). Forces payload result mid new x now) here forces)

-- a record that doesn't fit leaves all as it is
pub forces_full : (payload : List ℕ) (need room : ℕ) (db : Db) (w : World) → Stands db (file_of 0 w) → Forces payload (Err (Full need room)) db db w w
forces_full payload need room db w stands = record {
  entry = λ e one. record { run = still_holds db e w stands; added = tt };
  forced = tt;
  faulted = λ is. absurd (cc is);
  doubt = λ number is. absurd (cc is);
  only = begins 0 (TornFrom db.active.place (db.active.end - db.active.place) (file_of 0 w)) w (stays_from db.active.place (db.active.end - db.active.place) (file_of 0 w) (file_of 0 w) refl);
}

-- whatever a call answered
pub by_result : {T E : Type 0} (A B C : Type 0) (r : Result T E) → (A → C) → (B → C) → OnOk r A → OnErr r B → C
by_result A B C (Ok x) first second a b = first a
by_result A B C (Err e) first second a b = second b

pub err_with : {T E : Type 0} (A B : Type 0) (r : Result T E) → (A → B) → OnErr r A → OnErr r B
err_with A B (Ok x) gives a = tt
err_with A B (Err e) gives a = gives a

pub ok_with : {T E : Type 0} (A B C : Type 0) (r : Result T E) → (A → B → C) → OnOk r A → OnOk r B → OnOk r C
ok_with A B C (Ok x) gives a b = gives a b
ok_with A B C (Err e) gives a b = tt

-- where the pair is settled already nothing is done
module _ (db : Db) (all : List Entry) (w : World) (settled : IsSettled db) (holds : (bytes : List ℕ) → PairStandsFor db.pair bytes → PairHolds db.pair.value bytes) (since : StandsSince db all (file_of 0 w)) where
  each_holds : EachImage (HoldsOneOf (IsOfSettling db) db.active.next all) (file_of 0 w)
  each_holds =
      each_weakens (StandsEither db all) (HoldsOneOf (IsOfSettling db) db.active.next all) (file_of 0 w)
      (λ bytes one. (one.kept.header, inl (inl one.kept.is), by_holds db.header db.active.next all db.pair.value bytes one.kept (holds bytes one.pair))) (since_each db all (file_of 0 w) since)

  pub still_settled : RunsSettling all db db w w
  still_settled = record {
    run = begins 0 (EachImage (HoldsOneOf (IsOfSettling db) db.active.next all)) w each_holds;
    only = begins 0 (TornFrom 0 1024 (file_of 0 w)) w (stays_from 0 1024 (file_of 0 w) (file_of 0 w) refl);
    stands = since;
    sides = record { header = refl; active = refl; live = refl; places = refl; live_places = refl };
  }

  pub still_stands : ReadsImage (file_of 0 w) → Stands db (file_of 0 w)
  still_stands reads =
      settled_stands db all (file_of 0 w) reads settled (each_weakens (PairStandsFor db.pair) (PairHolds db.pair.value) (file_of 0 w) (λ bytes one. holds bytes one) (since_pair db all (file_of 0 w) since)) since

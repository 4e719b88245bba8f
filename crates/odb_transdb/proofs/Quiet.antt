-- What is held where nothing is done.
use Rattle.std.proofs.Common.{inl, inr, ℕ, List}
use Rattle.odb_device.specs.World.{World, file_of}
use Rattle.odb_device.specs.Images.{EachImage}
use Rattle.odb_device.proofs.Torn.{each_weakens}
use Rattle.odb_device.proofs.Time.{begins}
use Rattle.odb_pair.specs.Standing.{HoldsKept}
use Rattle.odb_pair.proofs.Opens.{opens}
use Rattle.odb_model.specs.declared.entry.Entry.{Entry}
use Rattle.odb_transdb.specs.Standing.{Db}
use Rattle.odb_transdb.specs.Turning.{IsLeft, HoldsOneOf, StandsEither, StandsSince, IsOfClean, RunsClean}
use Rattle.odb_transdb.proofs.Heading.{by_holds, since_each}

module _ (db : Db) (all : List Entry) where
  one_of : (bytes : List ℕ) → StandsEither db all bytes → HoldsKept db.pair bytes → HoldsOneOf (IsOfClean db) db.active.next all bytes
  one_of bytes one (inl kept) = (one.kept.header, inl (inl one.kept.is), by_holds db.header db.active.next all db.pair.value bytes one.kept kept)
  one_of bytes one (inr tried) = (one.tried.header, inl (inr one.tried.is), by_holds db.header db.active.next all db.pair.tried bytes one.tried tried)

  -- they hold the last of the entries, under a header that was left
  pub left_one : (bytes : List ℕ) → StandsEither db all bytes → HoldsOneOf (IsLeft db) db.active.next all bytes
  left_one bytes one = elim (opens db.pair bytes one.pair) as (λ _. HoldsOneOf (IsLeft db) db.active.next all bytes) [
    | inl kept ↦ (one.kept.header, inl one.kept.is, by_holds db.header db.active.next all db.pair.value bytes one.kept kept)
    | inr tried ↦ (one.tried.header, inr one.tried.is, by_holds db.header db.active.next all db.pair.tried bytes one.tried tried)
  ]

  pub still_clean : (w : World) → StandsSince db all (file_of 0 w) → RunsClean all db db w w
  still_clean w since = record {
    run = begins 0 (EachImage (HoldsOneOf (IsOfClean db) db.active.next all)) w
        (each_weakens (StandsEither db all) (HoldsOneOf (IsOfClean db) db.active.next all) (file_of 0 w) (λ bytes one. one_of bytes one (opens db.pair bytes one.pair)) (since_each db all (file_of 0 w) since));
    stands = since;
  }

use Rattle.std.proofs.Common.{◌≡◌, ℕ, ◌-◌, List, ap, ◌∙◌, subst}
use Rattle.odb_device.specs.World.{World, file_of}
use Rattle.odb_device.specs.Images.{EachImage}
use Rattle.odb_device.specs.Moments.{Runs}
use Rattle.odb_pair.specs.Places.{Holds as PairHolds}
use Rattle.odb_reclog.specs.Told.{TearsOnly}
use Rattle.odb_transdb.specs.Header.{header_image, file_size, new_header}
use Rattle.odb_transdb.specs.Steps.{IsBlank, PairComesLast}
use Rattle.odb_transdb.proofs.Creating.{made_holds, sides_moments, made_moments, any_run}
use Rattle.odb_transdb.proofs.transdb.Transdb.create.Given.{Over}
use Rattle.odb_transdb.proofs.transdb.Transdb.create.Goals as goal
use Rattle.odb_transdb.proofs.transdb.Transdb.create.Goals.{After-zero_range, After-format}

-- while the sides are zeroed
module _ (g : Over) (c : After-zero_range g) where
  sides : Runs 0 (PairComesLast (new_header c.args.side_kib) (file_of 0 (g.S.Outside.world c.args.store.now))) (g.S.Outside.world c.args.store.now) (g.S.Outside.world c.zero_range.new.store)
  sides =
      let w = g.S.Outside.world c.args.store.now in
      let mid = g.S.Outside.world c.zero_range.new.store in
      let end : c.file_size.result ≡ file_size (new_header c.args.side_kib) = c.file_size.ensures ∙ ap file_size c.new-header.ensures in
      sides_moments c.args.side_kib w mid (subst (λ (n : ℕ). TearsOnly 0 1024 (n - 1024) w mid) end c.zero_range.ensures.run)

-- and while the pair is made
module _ (g : Over) (c : After-format g) where
  abbrev w : World
  w = g.S.Outside.world c.args.store.now

  abbrev mid : World
  mid = g.S.Outside.world c.zero_range.new.store

  abbrev now : World
  now = g.S.Outside.world c.format.new.store

  end : c.file_size.result ≡ file_size (new_header c.args.side_kib)
  end = c.file_size.ensures ∙ ap file_size c.new-header.ensures

  blank : EachImage (IsBlank (file_size (new_header c.args.side_kib))) (file_of 0 mid)
  blank = subst (λ (n : ℕ). EachImage (IsBlank n) (file_of 0 mid)) end c.in_ok-zero_range.ensures.blank

  pair : Runs 0 (PairComesLast (new_header c.args.side_kib) (file_of 0 w)) w now
  pair = made_moments c.args.side_kib w mid now (subst (λ (n : ℕ). TearsOnly 0 1024 (n - 1024) w mid) end c.zero_range.ensures.run) blank c.format.ensures.run

pub returns-in_err-zero_range-clause-moments : goal.returns-in_err-zero_range-clause-moments
returns-in_err-zero_range-clause-moments g c = sides g (goal.at.returns-in_err-zero_range-clause-moments g c).After-zero_range

pub returns-in_err-zero_range-clause-run : goal.returns-in_err-zero_range-clause-run
returns-in_err-zero_range-clause-run g c = any_run _ _ _ (sides g (goal.at.returns-in_err-zero_range-clause-run g c).After-zero_range)

pub returns-in-Ok-clause-moments : goal.returns-in-Ok-clause-moments
returns-in-Ok-clause-moments g c = pair g (goal.at.returns-in-Ok-clause-moments g c).After-format

pub returns-in-Ok-clause-run : goal.returns-in-Ok-clause-run
returns-in-Ok-clause-run g c = any_run _ _ _ (pair g (goal.at.returns-in-Ok-clause-run g c).After-format)

pub returns-in-Err-clause-moments : goal.returns-in-Err-clause-moments
returns-in-Err-clause-moments g c = pair g (goal.at.returns-in-Err-clause-moments g c).After-format

pub returns-in-Err-clause-run : goal.returns-in-Err-clause-run
returns-in-Err-clause-run g c = any_run _ _ _ (pair g (goal.at.returns-in-Err-clause-run g c).After-format)

pub returns-in-Ok-clause-created : goal.returns-in-Ok-clause-created
returns-in-Ok-clause-created g c =
    let a = (goal.at.returns-in-Ok-clause-created g c).After-format in
    let kib = c.args.side_kib in
    let value : c.image.result ≡ header_image (new_header kib) = c.image.ensures ∙ ap header_image c.new-header.ensures in
    made_holds kib (mid g a) (now g a) c.requires.side.0 c.requires.side.1 (blank g a) c.format.ensures.run
    (subst (λ (v : List ℕ). EachImage (PairHolds v) (file_of 0 (now g a))) value c.in-Ok.ensures.holds)

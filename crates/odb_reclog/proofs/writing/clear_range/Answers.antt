use Rattle.std.proofs.Common.{◌≡◌, ◌+◌, ◌≤◌, ℕ, false, Some, length, take, length-take, subst, arith, rules}
use Rattle.odb_device.specs.World.{File, World, file_of}
use Rattle.odb_device.specs.Images.{TornFrom}
use Rattle.odb_device.specs.Moments.{Runs}
use Rattle.odb_device.specs.Zeros.{AreZero, ReadsZero}
use Rattle.odb_reclog.proofs.Clearing.{clearing_run, clearing_piece, clearing_sync}
use Rattle.odb_reclog.proofs.writing.clear_range.Given.{Over}
use Rattle.odb_reclog.proofs.writing.clear_range.Goals.{After-clear_piece, After-sync}
use Rattle.odb_reclog.proofs.writing.clear_range.Goals as goal

-- the piece of one round
module _ (g : Over) (c : After-clear_piece g) where
  abbrev mid : World
  mid = g.S.Outside.world c.loop-at.store

  abbrev now : World
  now = g.S.Outside.world c.clear_piece.new.store

  abbrev n : ℕ
  n = c.min-size.result

  long : length (take n c.loop-at.piece) ≡ n
  long =
      let whole : length c.loop-at.piece ≡ 65536 = search rules in
      omega (arith, length-take n c.loop-at.piece, c.min-size.ensures)

  within : c.loop-at.at + n ≤ c.args.to
  within = let below = c.loop-at.invariant.below in omega (arith, c.min-size.ensures)

  run : Runs c.args.file (TornFrom c.loop-at.at n (file_of c.args.file mid)) mid now
  run = subst (λ (k : ℕ). Runs c.args.file (TornFrom c.loop-at.at k (file_of c.args.file mid)) mid now) long c.clear_piece.ensures.run

  -- what the piece's call says, of a piece of so many bytes
  abbrev IsLeft : ℕ → Type 0
  IsLeft k = c.args.touched.now ≡ false → c.loop-at.touched ≡ false → (f : File) → file_of c.args.file mid ≡ Some f → c.loop-at.at + k ≤ length f.bytes → AreZero c.loop-at.at (c.loop-at.at + k) f.bytes → c.clear_piece.new.touched ≡ false

  abbrev IsZeroed : ℕ → Type 0
  IsZeroed k = (from : ℕ) → from ≤ c.loop-at.at → ReadsZero from c.loop-at.at (file_of c.args.file mid) → ReadsZero from (c.loop-at.at + k) (file_of c.args.file now)

pub returns-in_err-clear_piece-clause-run : goal.returns-in_err-clear_piece-clause-run
returns-in_err-clear_piece-clause-run g c =
    let a = (goal.at.returns-in_err-clear_piece-clause-run g c).After-clear_piece in
    clearing_run c.args.file c.args.from c.args.to c.args.touched.now (g.S.Outside.world c.args.store.now) (mid g a) (now g a) c.loop-at.touched c.clear_piece.new.touched c.loop-at.at (n g a) c.loop-at.invariant
    (within g a) (run g a)

pub loop-at-preserved : goal.loop-at-preserved
loop-at-preserved g c =
    let a = (goal.at.loop-at-preserved g c).After-clear_piece in
    clearing_piece c.args.file c.args.from c.args.to c.args.touched.now (g.S.Outside.world c.args.store.now) (mid g a) (now g a) c.loop-at.touched c.clear_piece.new.touched c.loop-at.at (n g a) c.loop-at.invariant
    (within g a) (run g a) c.clear_piece.ensures.untouched
    (subst (IsLeft g a) (long g a) c.clear_piece.ensures.unwritten) (subst (IsZeroed g a) (long g a) c.in_ok-clear_piece.ensures.zero)

pub returns-in_err-sync-clause-run : goal.returns-in_err-sync-clause-run
returns-in_err-sync-clause-run g c =
    let mid = g.S.Outside.world c.loop-at.store in
    clearing_sync c.args.file c.args.from c.args.to c.args.touched.now c.loop-at.touched (g.S.Outside.world c.args.store.now) mid (g.S.Outside.world c.sync.new.self) c.loop-at.at c.sync.result c.loop-at.invariant
    c.sync.ensures.call (g.met.S.Store.reads_image c.loop-at.store c.args.file) c.sync.ensures.kept c.sync.ensures.unsettled

pub returns-in_ok-sync-clause-run : goal.returns-in_ok-sync-clause-run
returns-in_ok-sync-clause-run g c =
    let mid = g.S.Outside.world c.loop-at.store in
    clearing_sync c.args.file c.args.from c.args.to c.args.touched.now c.loop-at.touched (g.S.Outside.world c.args.store.now) mid (g.S.Outside.world c.sync.new.self) c.loop-at.at c.sync.result c.loop-at.invariant
    c.sync.ensures.call (g.met.S.Store.reads_image c.loop-at.store c.args.file) c.sync.ensures.kept c.sync.ensures.unsettled

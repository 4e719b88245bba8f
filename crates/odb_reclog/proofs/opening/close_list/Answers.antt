use Rattle.std.proofs.Common.{false, refl, arith}
use Rattle.std.proofs.lemmas.Bool.{false≢true}
use Rattle.odb_device.specs.World.{file_of}
use Rattle.odb_reclog.specs.Standing.{Log, IsLog}
use Rattle.odb_reclog.proofs.Opens.{open_stands, open_list}
use Rattle.odb_reclog.proofs.opening.close_list.Given.{Over}
use Rattle.odb_reclog.proofs.opening.close_list.Goals as goal
use Rattle.odb_reclog.proofs.opening.close_list.Goals.{After-max}

-- the log that is answered
abbrev log : (g : Over) → After-max g → Log
log g c = record {
  file = c.args.region.file;
  start = c.args.region.start;
  end = c.args.region.end;
  first = c.args.region.first;
  place = c.args.found.place;
  next = c.args.found.number;
  clear_from = c.max.result;
  touched = false;
  has_body = false;
  in_doubt = false;
}

in_range : (g : Over) (c : After-max g) → IsLog (log g c)
in_range g c =
    let range = c.requires.range in
    record {
      start = range.start;
      end = range.end;
      most = c.requires.region.range;
      first = c.requires.region.first;
      next = range.number;
      clear_from = omega (arith, c.max.ensures);
      clear_to = omega (arith, c.max.ensures);
      body = λ has. absurd (false≢true has);
    }

pub returns-clause-opened : goal.returns-clause-opened
returns-clause-opened g c =
    let f = c.args.region.file in
    let old = file_of f (g.S.Outside.world c.args.store.now) in
    let new = file_of f (g.S.Outside.world c.close_end.new.store) in
    record {
      file = refl;
      start = refl;
      end = refl;
      first = refl;
      touched = refl;
      has_body = refl;
      in_doubt = refl;
      stands = open_stands (log g c) c.args.found (in_range g c) refl refl (omega (arith, c.max.ensures)) old new c.in_ok-close_end.ensures.closes c.requires.long c.requires.ends;
      list = open_list (log g c) c.args.found (in_range g c) refl refl (omega (arith, c.max.ensures)) old new c.in_ok-close_end.ensures.closes c.requires.long c.requires.ends;
      closes = c.in_ok-close_end.ensures.closes;
    }

use Rattle.std.proofs.Common.{◌≡◌, ◌+◌, ◌^◌, ◌≤◌, ℕ, None, sym, ap, subst, arith, ◌∙◌}
use Rattle.odb_device.specs.World.{World, file_of}
use Rattle.odb_machine.specs.Book.{most_entries}
use Rattle.odb_transdb.specs.Standing.{Db}
use Rattle.odb_transdb.specs.Turning.{MayStand}
use Rattle.odb_commit.specs.Parts.{Parts, count, IsAligned}
use Rattle.odb_commit.specs.Turned.{TurnsLog}
use Rattle.odb_commit.proofs.Turned.{aligned_turned}
use Rattle.odb_commit.proofs.book.Book.turn.Given as given
use Rattle.odb_commit.proofs.book.Book.turn.Goals as goal
use Rattle.odb_commit.proofs.book.Book.turn.Goals.{After-turn}

pub turn-requires-clause-usable : goal.turn-requires-clause-usable
turn-requires-clause-usable g c = ap (λ (p : Parts). p.transdb.active.in_doubt) c.self.view_is ∙ c.requires.aligned.usable c.requires.settled

pub turn-requires-clause-last : goal.turn-requires-clause-last
turn-requires-clause-last g c =
    let next = ap (λ (p : Parts). p.transdb.active.next) c.self.view_is in
    omega (arith, next, c.requires.aligned.ends c.requires.settled, c.requires.few)

pub turn-requires-clause-stands : goal.turn-requires-clause-stands
turn-requires-clause-stands g c =
    subst (λ (p : Parts). MayStand p.transdb (file_of 0 (g.S.Outside.world c.args.store.now))) (sym c.self.view_is) c.requires.stands

-- what the log did, as it was given
module _ (g : given.Over) (c : After-turn g) where
  abbrev w : World
  w = g.S.Outside.world c.args.store.now

  abbrev v : World
  v = g.S.Outside.world c.turn.new.store

  done : TurnsLog c.turn.result c.args.self.now.transdb c.turn.new.self w v
  done =
      subst (λ (p : Parts). TurnsLog c.turn.result p.transdb c.turn.new.self w v) c.self.view_is
      (record {
        answer = c.turn.ensures.answer;
        not_clean = λ is. let same = c.turn.ensures.not_clean is in (same.0, ap g.S.Outside.world same.1);
        run = c.turn.ensures.run;
        only = c.turn.ensures.only;
        turned = c.turn.ensures.turned;
        fault = c.turn.ensures.fault;
        unsettled = c.turn.ensures.unsettled;
        placed = c.turn.ensures.placed;
        cause = c.turn.ensures.cause;
      })

pub returns-clause-log : goal.returns-clause-log
returns-clause-log g c = done g (goal.at.returns-clause-log g c).After-turn

pub returns-clause-rest : goal.returns-clause-rest
returns-clause-rest g c = ap (λ (p : Parts). record p { transdb = c.turn.new.self }) c.self.view_is

pub returns-clause-aligned : goal.returns-clause-aligned
returns-clause-aligned g c =
    let a = (goal.at.returns-clause-aligned g c).After-turn in
    subst (λ (p : Parts). IsAligned (record p { transdb = c.turn.new.self })) (sym c.self.view_is)
    (aligned_turned c.args.self.now c.turn.result c.turn.new.self (w g a) (v g a) c.requires.aligned c.requires.settled (done g a))

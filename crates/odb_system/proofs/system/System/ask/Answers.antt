use Rattle.std.proofs.Common.{◌-◌, subst, sym}
use Rattle.odb_device.specs.World.{World}
use Rattle.odb_model.specs.declared.statement.Statement.{Statement}
use Rattle.odb_system.specs.Held.{Held, HeldRuns, HeldExecutes, HeldDefines, session_at}
use Rattle.odb_system.proofs.system.System.ask.Goals as goal

pub returns-in-Start : goal.returns-in-Start
returns-in-Start g c =
    let held : Held = c.args.self.now in
    let at = c.args.session - 1 in
    let w : World = g.H.Outside.world c.args.host.now in
    record { runs = subst (λ (st : Statement). HeldRuns held at st c.start_transaction.result c.start_transaction.new.self w w) (sym c.in-Start.is) (c.start_transaction.ensures w) }

pub returns-in-Commit : goal.returns-in-Commit
returns-in-Commit g c =
    let held : Held = c.args.self.now in
    let at = c.args.session - 1 in
    let w : World = g.H.Outside.world c.args.host.now in
    record { runs = subst (λ (st : Statement). HeldRuns held at st c.commit.result c.commit.new.self w (g.H.Outside.world c.commit.new.host)) (sym c.in-Commit.is) (c.commit.ensures) }

pub returns-in-Rollback : goal.returns-in-Rollback
returns-in-Rollback g c =
    let held : Held = c.args.self.now in
    let at = c.args.session - 1 in
    let w : World = g.H.Outside.world c.args.host.now in
    record { runs = subst (λ (st : Statement). HeldRuns held at st c.roll_back.result c.roll_back.new.self w w) (sym c.in-Rollback.is) (c.roll_back.ensures w) }

pub returns-in-Select : goal.returns-in-Select
returns-in-Select g c =
    let held : Held = c.args.self.now in
    let at = c.args.session - 1 in
    let w : World = g.H.Outside.world c.args.host.now in
    record { runs = subst (λ (st : Statement). HeldRuns held at st c.execute.result c.execute.new.self w w) (sym c.in-Select.is) ((subst (λ (st : Statement). HeldExecutes held at st (session_at held at) c.execute.result c.execute.new.self w w) c.in-Select.is (c.execute.ensures w))) }

pub returns-in-Insert : goal.returns-in-Insert
returns-in-Insert g c =
    let held : Held = c.args.self.now in
    let at = c.args.session - 1 in
    let w : World = g.H.Outside.world c.args.host.now in
    record { runs = subst (λ (st : Statement). HeldRuns held at st c.execute-in-Insert.result c.execute-in-Insert.new.self w w) (sym c.in-Insert.is) ((subst (λ (st : Statement). HeldExecutes held at st (session_at held at) c.execute-in-Insert.result c.execute-in-Insert.new.self w w) c.in-Insert.is (c.execute-in-Insert.ensures w))) }

pub returns-in-Update : goal.returns-in-Update
returns-in-Update g c =
    let held : Held = c.args.self.now in
    let at = c.args.session - 1 in
    let w : World = g.H.Outside.world c.args.host.now in
    record { runs = subst (λ (st : Statement). HeldRuns held at st c.execute-in-Update.result c.execute-in-Update.new.self w w) (sym c.in-Update.is) ((subst (λ (st : Statement). HeldExecutes held at st (session_at held at) c.execute-in-Update.result c.execute-in-Update.new.self w w) c.in-Update.is (c.execute-in-Update.ensures w))) }

pub returns-in-Delete : goal.returns-in-Delete
returns-in-Delete g c =
    let held : Held = c.args.self.now in
    let at = c.args.session - 1 in
    let w : World = g.H.Outside.world c.args.host.now in
    record { runs = subst (λ (st : Statement). HeldRuns held at st c.execute-in-Delete.result c.execute-in-Delete.new.self w w) (sym c.in-Delete.is) ((subst (λ (st : Statement). HeldExecutes held at st (session_at held at) c.execute-in-Delete.result c.execute-in-Delete.new.self w w) c.in-Delete.is (c.execute-in-Delete.ensures w))) }

pub returns-in-CreateTable : goal.returns-in-CreateTable
returns-in-CreateTable g c =
    let held : Held = c.args.self.now in
    let at = c.args.session - 1 in
    let w : World = g.H.Outside.world c.args.host.now in
    record { runs = subst (λ (st : Statement). HeldRuns held at st c.define.result c.define.new.self w (g.H.Outside.world c.define.new.host)) (sym c.in-CreateTable.is) ((subst (λ (st : Statement). HeldDefines held at st (session_at held at) c.define.result c.define.new.self w (g.H.Outside.world c.define.new.host)) c.in-CreateTable.is (c.define.ensures))) }

pub returns-in-DropTable : goal.returns-in-DropTable
returns-in-DropTable g c =
    let held : Held = c.args.self.now in
    let at = c.args.session - 1 in
    let w : World = g.H.Outside.world c.args.host.now in
    record { runs = subst (λ (st : Statement). HeldRuns held at st c.define-in-DropTable.result c.define-in-DropTable.new.self w (g.H.Outside.world c.define-in-DropTable.new.host)) (sym c.in-DropTable.is) ((subst (λ (st : Statement). HeldDefines held at st (session_at held at) c.define-in-DropTable.result c.define-in-DropTable.new.self w (g.H.Outside.world c.define-in-DropTable.new.host)) c.in-DropTable.is (c.define-in-DropTable.ensures))) }

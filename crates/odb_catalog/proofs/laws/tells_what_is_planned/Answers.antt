use Rattle.std.proofs.Common.{◌≡◌, List, IsTrue}
use Rattle.std.proofs.lemmas.List.Elements.{recursion_from_All}
use Rattle.odb_model.specs.declared.statement.Statement.{Statement}
use Rattle.odb_model.specs.declared.statement.Statement.TheVariants.{CreateTable, DropTable}
use Rattle.odb_model.specs.declared.statement.ColumnText.{ColumnText}
use Rattle.odb_model.specs.declared.write.Write.{Write}
use Rattle.odb_model.specs.State.{State, after_writes}
use Rattle.odb_model.specs.Dictionary.{has_name_form}
use Rattle.odb_model.specs.Definitions.{Plans, planned}
use Rattle.odb_catalog.specs.Telling.{HasDone, AreUsed}
use Rattle.odb_catalog.proofs.Telling.{HaveForms}
use Rattle.odb_catalog.proofs.Spelled.{TextOf, spelled_text}
use Rattle.odb_catalog.proofs.After.{created, dropped_tells, used_created, used_dropped}
use Rattle.odb_catalog.proofs.laws.tells_what_is_planned.Goals as goal

done : (st : Statement) (s : State) (writes : List Write) → TextOf st → planned st s ≡ Plans writes → HasDone st s (after_writes s writes)
done (CreateTable name columns key bank) s writes text is =
    let forms : HaveForms columns = recursion_from_All (λ (c : ColumnText). IsTrue (has_name_form c.name)) columns text.forms in
    created s name columns key bank writes text.form forms text.some is
done (DropTable name) s writes text is = dropped_tells s name writes is
done other s writes text is = cc

used : (st : Statement) (s : State) (writes : List Write) → HasDone st s (after_writes s writes) → AreUsed s → AreUsed (after_writes s writes)
used (CreateTable name columns key bank) s writes has before = used_created s (after_writes s writes) name columns key bank has before
used (DropTable name) s writes has before = used_dropped s (after_writes s writes) name has before
used other s writes has before = absurd has

pub returns-clause-done : goal.returns-clause-done
returns-clause-done c = λ st s writes spelled is. done st s writes (spelled_text st spelled) is

pub returns-clause-used : goal.returns-clause-used
returns-clause-used c = λ st s writes spelled is before. used st s writes (done st s writes (spelled_text st spelled) is) before

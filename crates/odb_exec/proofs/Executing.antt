-- A statement on the rows of a table of this name.
use Rattle.std.proofs.Common.{◌≡◌, ℕ, List, [], ◌∷◌, sym, ap, ◌∙◌, Option, Some, None}
use Rattle.odb_values.specs.declared.range.Range.{Range}
use Rattle.odb_model.specs.declared.reply.Reply.{Reply}
use Rattle.odb_model.specs.declared.reply.Reply.TheVariants.{NoTable}
use Rattle.odb_model.specs.declared.statement.Statement.{Statement}
use Rattle.odb_model.specs.declared.statement.Statement.TheVariants.{Select, Insert, Update, Delete}
use Rattle.odb_model.specs.declared.table_key.TableKey.{TableKey}
use Rattle.odb_model.specs.State.{State}
use Rattle.odb_model.specs.Table.{Table}
use Rattle.odb_model.specs.Dictionary.{table_of}
use Rattle.odb_model.specs.Binding.{binding_refusal}
use Rattle.odb_model.specs.Meaning.{Meaning, meaning, refused, refused_or, executed, on_table}
use Rattle.odb_model.specs.Reads.{reads, reads_on, table_reads, unless_refused, dictionary_row}
use Rattle.odb_plan.specs.declared.error.PlanError.{PlanError}
use Rattle.odb_plan.specs.declared.error.PlanError.TheVariants.{NoColumn, KindMismatch, KeyColumn, ColumnCount, NoMemory}
use Rattle.odb_plan.specs.Bound.{IsRefused}
use Rattle.odb_exec.specs.declared.effect.Effect.{Effect}
use Rattle.odb_exec.specs.Effect.{IsEffectOf}
use Rattle.odb_exec.specs.Outcome.{IsOutcomeOf, IsOnRows}
use Rattle.odb_exec.specs.Replies.{IsReplyTo}

-- the reply that tells why a statement isn't bound is the refusal
pub refused_as : (t : Table) (st : Statement) (error : PlanError) (reply : Reply) → IsReplyTo error reply → IsRefused t st error → binding_refusal t st ≡ Some reply
refused_as t st NoColumn reply told refuses = refuses ∙ ap Some (sym told)
refused_as t st KindMismatch reply told refuses = refuses ∙ ap Some (sym told)
refused_as t st KeyColumn reply told refuses = refuses ∙ ap Some (sym told)
refused_as t st ColumnCount reply told refuses = refuses ∙ ap Some (sym told)
refused_as t st NoMemory reply told refuses = absurd told

module _ (s : State) (written : List TableKey) (format : ℕ) where
  meant : (st : Statement) (name : List ℕ) → IsOnRows st name → meaning st s written format ≡ on_table (table_of s name) st s written format
  meant (Select what table f) name on = ap (λ n. on_table (table_of s n) (Select what table f) s written format) on
  meant (Insert table tuples) name on = ap (λ n. on_table (table_of s n) (Insert table tuples) s written format) on
  meant (Update table sets f) name on = ap (λ n. on_table (table_of s n) (Update table sets f) s written format) on
  meant (Delete table f) name on = ap (λ n. on_table (table_of s n) (Delete table f) s written format) on
  meant other name on = absurd on

  read : (st : Statement) (name : List ℕ) → IsOnRows st name → reads st s ≡ dictionary_row name ∷ reads_on (table_of s name) st
  read (Select what table f) name on = ap (λ n. dictionary_row n ∷ reads_on (table_of s n) (Select what table f)) on
  read (Insert table tuples) name on = ap (λ n. dictionary_row n ∷ reads_on (table_of s n) (Insert table tuples)) on
  read (Update table sets f) name on = ap (λ n. dictionary_row n ∷ reads_on (table_of s n) (Update table sets f)) on
  read (Delete table f) name on = ap (λ n. dictionary_row n ∷ reads_on (table_of s n) (Delete table f)) on
  read other name on = absurd on

  module _ (st : Statement) (name : List ℕ) (on : IsOnRows st name) (effect : Effect) (ranges : List Range) where
    abbrev AllOf : Type 0
    AllOf = IsOutcomeOf st s written format (record { reply = effect.reply; writes = effect.writes; reads = ranges })

    of_parts : (m : Meaning) (rest : List Range) → on_table (table_of s name) st s written format ≡ m → reads_on (table_of s name) st ≡ rest
        → IsEffectOf m effect → ranges ≡ dictionary_row name ∷ rest → AllOf
    of_parts m rest means reads_it is told = record {
      reply = is.reply ∙ ap (λ (x : Meaning). x.reply) (sym (meant st name on ∙ means));
      writes = is.writes ∙ ap (λ (x : Meaning). x.writes) (sym (meant st name on ∙ means));
      reads = told ∙ ap (λ l. dictionary_row name ∷ l) (sym reads_it) ∙ sym (read st name on);
    }

    -- the table isn't there
    pub without_table : table_of s name ≡ None → IsEffectOf (refused NoTable) effect → ranges ≡ dictionary_row name ∷ [] → AllOf
    without_table e is told = of_parts (refused NoTable) [] (ap (λ (o : Option Table). on_table o st s written format) e) (ap (λ (o : Option Table). reads_on o st) e) is told

    module _ (t : Table) (e : table_of s name ≡ Some t) where
      -- its binding is refused
      pub unbound : (reply : Reply) → binding_refusal t st ≡ Some reply → IsEffectOf (refused reply) effect → ranges ≡ dictionary_row name ∷ [] → AllOf
      unbound reply refuses is told =
          of_parts (refused reply) []
          (ap (λ (o : Option Table). on_table o st s written format) e ∙ ap (λ (o : Option Reply). refused_or o (executed t st s written format)) refuses)
          (ap (λ (o : Option Table). reads_on o st) e ∙ ap (λ (o : Option Reply). unless_refused o (table_reads t st)) refuses) is told

      -- it is executed
      pub bound_to : binding_refusal t st ≡ None → IsEffectOf (executed t st s written format) effect → ranges ≡ dictionary_row name ∷ table_reads t st → AllOf
      bound_to agreed is told =
          of_parts (executed t st s written format) (table_reads t st)
          (ap (λ (o : Option Table). on_table o st s written format) e ∙ ap (λ (o : Option Reply). refused_or o (executed t st s written format)) agreed)
          (ap (λ (o : Option Table). reads_on o st) e ∙ ap (λ (o : Option Reply). unless_refused o (table_reads t st)) agreed) is told

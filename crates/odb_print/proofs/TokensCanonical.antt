-- What some text spells, the statement's printed text spells.
use Rattle.std.proofs.Common.{ℕ, List, refl, arith}
use Rattle.odb_model.specs.declared.statement.Statement.{Statement}
use Rattle.odb_model.specs.Answer.{IsStatementText}
use Rattle.odb_model.specs.Canonical.{statement_text}
use Rattle.odb_print.proofs.Lexemes.{statement_lexemes}
use Rattle.odb_print.proofs.Canonical.{canonical_spells}
use Rattle.odb_print.proofs.TokensStatements.{statement_lexes}

pub canonical_is_text : (text : List ℕ) (st : Statement) → IsStatementText text st → IsStatementText (statement_text st) st
canonical_is_text text st is =
    let has = (statement_lexes is.lexemes st is.spells).has (statement_text st) 0 (omega arith) refl in
    record {
      lexemes = statement_lexemes st;
      to = has.to;
      has = has.lexemes;
      all = has.all;
      spells = canonical_spells is.lexemes st is.spells;
    }

-- A statement that some lexemes spell is spelled by its canonical lexemes.
use Rattle.std.proofs.Common.{List, [], ◌∷◌, Option}
use Rattle.odb_model.specs.declared.predicate.Predicate.{Predicate}
use Rattle.odb_model.specs.declared.statement.Statement.{Statement}
use Rattle.odb_model.specs.Lexeme.{Lexeme, Name}
use Rattle.odb_model.specs.Grammar.{IsFilter, IsStatement, Spells}
use Rattle.odb_print.proofs.Lexemes.{tuple_lexemes, assignment_lexemes, column_lexemes, filter_lexemes, statement_lexemes}
use Rattle.odb_print.proofs.CanonicalParts.{canonical_listed, canonical_name, canonical_tuple, canonical_assignment, canonical_column, canonical_what}
use Rattle.odb_print.proofs.CanonicalPredicates.{canonical_predicate}

canonical_filter : {ts : List Lexeme} {filter : Option Predicate} → IsFilter ts filter → IsFilter (filter_lexemes filter) filter
canonical_filter IsFilter.all = IsFilter.all
canonical_filter (IsFilter.where_ h) = IsFilter.where_ (canonical_predicate h)

pub canonical_statement : {ts : List Lexeme} {st : Statement} → IsStatement ts st → IsStatement (statement_lexemes st) st
canonical_statement IsStatement.start = IsStatement.start
canonical_statement IsStatement.commit = IsStatement.commit
canonical_statement IsStatement.rollback = IsStatement.rollback
canonical_statement (IsStatement.select what free filter) = IsStatement.select (canonical_what what) free (canonical_filter filter)
canonical_statement (IsStatement.insert free tuples) = IsStatement.insert free (canonical_listed tuple_lexemes canonical_tuple tuples)
canonical_statement (IsStatement.update free sets filter) =
    IsStatement.update free (canonical_listed assignment_lexemes canonical_assignment sets) (canonical_filter filter)
canonical_statement (IsStatement.delete free filter) = IsStatement.delete free (canonical_filter filter)
canonical_statement (IsStatement.create_databank free) = IsStatement.create_databank free
canonical_statement (IsStatement.create_table free columns key bank) =
    IsStatement.create_table free (canonical_listed column_lexemes canonical_column columns) (canonical_listed (λ n. Name n ∷ []) canonical_name key) bank
canonical_statement (IsStatement.drop_table free) = IsStatement.drop_table free
canonical_statement (IsStatement.create_shadow free bank) = IsStatement.create_shadow free bank
canonical_statement (IsStatement.shadow_online free) = IsStatement.shadow_online free
canonical_statement (IsStatement.shadow_offline free) = IsStatement.shadow_offline free
canonical_statement (IsStatement.shadow_master free) = IsStatement.shadow_master free
canonical_statement (IsStatement.drop_shadow free) = IsStatement.drop_shadow free
canonical_statement (IsStatement.create_backup free bank) = IsStatement.create_backup free bank
canonical_statement (IsStatement.backup_ready free) = IsStatement.backup_ready free
canonical_statement (IsStatement.drop_backup free) = IsStatement.drop_backup free
canonical_statement (IsStatement.restore bank free) = IsStatement.restore bank free

canonical_of : {ls : List Lexeme} {st : Statement} → Spells ls st → Spells (statement_lexemes st) st
canonical_of (Spells.bare h) = Spells.bare (canonical_statement h)
canonical_of (Spells.ended h) = Spells.bare (canonical_statement h)

pub canonical_spells : (ls : List Lexeme) (st : Statement) → Spells ls st → Spells (statement_lexemes st) st
canonical_spells ls st h = canonical_of h

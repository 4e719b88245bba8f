-- What the text of a definition has.
use Rattle.std.proofs.Common.{◌≡◌, ℕ, suc, ◌<◌, ◌≤◌, true, ◌&&◌, nat_lt, List, [], ◌∷◌, length, refl, IsTrue, arith}
use Rattle.std.specs.List.{All, list_all}
use Rattle.std.specs.Char.{is_ascii_alphabetic, to_ascii_uppercase}
use Rattle.std.proofs.lemmas.Bool.Decides.{nat_tests}
use Rattle.std.proofs.lemmas.List.Elements.{All-nil, All-cons}
use Rattle.odb_lex.specs.Bytes.{is_name_byte as goes_on}
use Rattle.odb_lex.specs.Token.{capitals}
use Rattle.odb_model.specs.declared.statement.ColumnText.{ColumnText}
use Rattle.odb_model.specs.declared.statement.Statement.{Statement}
use Rattle.odb_model.specs.declared.statement.Statement.TheVariants.{CreateTable}
use Rattle.odb_model.specs.Lexeme.{Lexeme, IsFree}
use Rattle.odb_model.specs.Grammar.{IsListed, IsNamed, IsColumn, IsStatement, Spells}
use Rattle.odb_model.specs.Dictionary.{is_capital, is_name_byte, has_name_form}
use Rattle.odb_model.specs.Definitions.{IsSpelled}
use Rattle.odb_model.proofs.Covering.{and_true, both_true}
use Rattle.odb_catalog.specs.Planning.{IsTableText}

-- a letter that is in capitals
capital : (b : ℕ) → is_ascii_alphabetic b ≡ true → to_ascii_uppercase b ≡ b → is_capital b ≡ true
capital b letter large = grind (arith, nat_tests)

-- a byte of a name in capitals
name_byte : (b : ℕ) → goes_on b ≡ true → to_ascii_uppercase b ≡ b → is_name_byte b ≡ true
name_byte b goes large = grind (arith, nat_tests)

name_bytes : (bytes : List ℕ) → list_all goes_on bytes ≡ true → capitals bytes ≡ bytes → list_all is_name_byte bytes ≡ true
name_bytes [] goes large = refl
name_bytes (b ∷ bytes) goes large =
    let parts = and_true (goes_on b) (list_all goes_on bytes) goes in
    both_true (is_name_byte b) (list_all is_name_byte bytes) (name_byte b parts.0 (cc)) (name_bytes bytes parts.1 (cc))

short : (n : ℕ) → suc n ≤ 32 → nat_lt n 32 ≡ true
short n h = grind (arith, nat_tests)

-- a name of the text has its form
free_form : (name : List ℕ) → IsFree name → has_name_form name ≡ true
free_form [] free = let letter = free.form.letter in cc
free_form (b ∷ bytes) free =
    let rest = and_true (goes_on b) (list_all goes_on bytes) free.form.rest in
    let large = free.large in
    both_true (is_capital b && list_all is_name_byte bytes) (nat_lt (length bytes) 32)
    (both_true (is_capital b) (list_all is_name_byte bytes) (capital b free.form.letter (cc)) (name_bytes bytes rest.1 (cc)))
    (short (length bytes) free.form.short)

abbrev HasForm : ColumnText → Type 0
HasForm c = IsTrue (has_name_form c.name)

listed_forms : {ls : List Lexeme} {columns : List ColumnText} → IsListed IsColumn ls columns → All HasForm columns
listed_forms (IsListed.last (IsColumn.column {n} free kind said)) = All-cons HasForm _ [] (free_form n free) (All-nil HasForm)
listed_forms (IsListed.more {xs} (IsColumn.column {n} free kind said) rest) = All-cons HasForm _ xs (free_form n free) (listed_forms rest)

listed_some : {ls : List Lexeme} {key : List (List ℕ)} → IsListed IsNamed ls key → 0 < length key
listed_some (IsListed.last item) = omega arith
listed_some (IsListed.more item rest) = omega arith

abbrev pub TextOf : Statement → Type 0
TextOf (CreateTable name columns key bank) = IsTableText name columns key
TextOf other = Unit {0}

statement_text : {ls : List Lexeme} {st : Statement} → IsStatement ls st → TextOf st
statement_text (IsStatement.create_table {n} free columns key bank) = record { form = free_form n free; forms = listed_forms columns; some = listed_some key }
statement_text other = tt

spells_text : {ls : List Lexeme} {st : Statement} → Spells ls st → TextOf st
spells_text (Spells.bare is) = statement_text is
spells_text (Spells.ended is) = statement_text is

pub spelled_text : (st : Statement) → IsSpelled st → TextOf st
spelled_text st spelled = spells_text spelled.1

-- What a definition writes into the dictionary is typed.
use Rattle.std.proofs.Common.{◌≡◌, ℕ, suc, ◌+◌, ◌<◌, ◌≤◌, ◌^◌, pos, Bool, true, false, ◌&&◌, ◌||◌, not, cond, nat_lt, List, [], ◌∷◌, length, find, refl, subst, Option, Some, None, arith}
use Rattle.std.specs.Option.{option_map_or}
use Rattle.std.specs.List.{All, list_any, list_all, flat_map}
use Rattle.std.specs.Str.{IsAscii}
use Rattle.std.proofs.lemmas.Bool.Decides.{nat_tests}
use Rattle.std.proofs.lemmas.Option.{slice_get_within}
use Rattle.std.proofs.lemmas.Str.{IsUtf8-from_ascii}
use Rattle.std.proofs.lemmas.Str.Ascii.{IsAscii-nil, IsAscii-cons}
use Rattle.std.proofs.lemmas.List.Elements.{All-nil, All-cons, All-head, All-tail, All-append}
use Rattle.odb_values.specs.declared.value.Value.{Value}
use Rattle.odb_values.specs.declared.value.Value.TheVariants.{Int, Text}
use Rattle.odb_values.specs.Text.{IsText, is_plain}
use Rattle.odb_model.specs.declared.statement.ColumnText.{ColumnText}
use Rattle.odb_model.specs.State.{State}
use Rattle.odb_model.specs.Table.{is_named}
use Rattle.odb_model.specs.Dictionary.{is_capital, is_name_byte, has_name_form}
use Rattle.odb_model.specs.Databanks.{Databank, databanks, databank_named, next_number}
use Rattle.odb_model.specs.Definitions.{is_out_of_range, asked_kind, name_place, key_place, column_values, table_row}
use Rattle.odb_model.proofs.Covering.{and_true, both_true}
use Rattle.odb_codec.specs.Image.{IsTyped, AreTyped}
use Rattle.odb_catalog.specs.Telling.{AreUsed}
use Rattle.odb_catalog.proofs.Names.{inside_some, found_at}
use Rattle.odb_catalog.proofs.Numbers.{within, next_range}
use Rattle.odb_catalog.proofs.Telling.{HaveForms}

pub not_not : (b : Bool) → not b ≡ false → b ≡ true
not_not true e = refl
not_not false e = cc

pub small_typed : (n : ℕ) → n < 2 ^ 63 → IsTyped (Int (pos n))
small_typed n less = record { sfits = omega (arith, less) }

capital_small : (b : ℕ) → is_capital b ≡ true → b < 128
capital_small b e = grind (arith, nat_tests)

capital_plain : (b : ℕ) → is_capital b ≡ true → is_plain b ≡ true
capital_plain b e = grind (arith, nat_tests)

byte_small : (b : ℕ) → is_name_byte b ≡ true → b < 128
byte_small b e = grind (arith, nat_tests)

byte_plain : (b : ℕ) → is_name_byte b ≡ true → is_plain b ≡ true
byte_plain b e = grind (arith, nat_tests)

bytes_ascii : (bytes : List ℕ) → list_all is_name_byte bytes ≡ true → IsAscii bytes
bytes_ascii [] e = IsAscii-nil
bytes_ascii (b ∷ bytes) e = let parts = and_true (is_name_byte b) (list_all is_name_byte bytes) e in IsAscii-cons b bytes (byte_small b parts.0) (bytes_ascii bytes parts.1)

bytes_plain : (bytes : List ℕ) → list_all is_name_byte bytes ≡ true → list_all is_plain bytes ≡ true
bytes_plain [] e = refl
bytes_plain (b ∷ bytes) e =
    let parts = and_true (is_name_byte b) (list_all is_name_byte bytes) e in
    both_true (is_plain b) (list_all is_plain bytes) (byte_plain b parts.0) (bytes_plain bytes parts.1)

-- a name is a text
pub name_text : (name : List ℕ) → has_name_form name ≡ true → IsText name
name_text [] e = cc
name_text (b ∷ bytes) e =
    let parts = and_true (is_capital b && list_all is_name_byte bytes) (nat_lt (length bytes) 32) e in
    let both = and_true (is_capital b) (list_all is_name_byte bytes) parts.0 in
    record {
      utf8 = IsUtf8-from_ascii (b ∷ bytes) (IsAscii-cons b bytes (capital_small b both.0) (bytes_ascii bytes both.1));
      plain = both_true (is_plain b) (list_all is_plain bytes) (capital_plain b both.0) (bytes_plain bytes both.1);
      short = below (length bytes) parts.1;
    }
  where
    below : (n : ℕ) → nat_lt n 32 ≡ true → suc n ≤ 800
    below n f = grind (arith, nat_tests)

-- a kind is at most 200
kind_small : (o : Option ℕ) → is_out_of_range o ≡ false → asked_kind o ≤ 200
kind_small None e = omega arith
kind_small (Some n) e = range n e
  where
    range : (k : ℕ) → (nat_lt k 1 || nat_lt 200 k) ≡ false → k ≤ 200
    range k f = grind (arith, nat_tests)

-- a place in the key is one of it
place_small : (key : List (List ℕ)) (name : List ℕ) → key_place key name ≤ length key
place_small key name = by (name_place key name) (λ p is. slice_get_within key p name (found_at key name p is))
  where
    by : (o : Option ℕ) → ((p : ℕ) → o ≡ Some p → p < length key) → option_map_or (λ p. p + 1) o 0 ≤ length key
    by None less = omega arith
    by (Some p) less = let inside = less p refl in omega (arith, inside)

flag_small : (b : Bool) → cond b 1 0 ≤ 1
flag_small true = omega arith
flag_small false = omega arith

either_false : (a b : Bool) → (a || b) ≡ false → (a ≡ false) × (b ≡ false)
either_false true b e = cc
either_false false b e = (refl, e)

columns_typed : (key : List (List ℕ)) → length key ≤ 15 → (columns : List ColumnText) → HaveForms columns → list_any (λ c. is_out_of_range c.length) columns ≡ false → AreTyped (flat_map (column_values key) columns)
columns_typed key few [] forms ranges = All-nil IsTyped
columns_typed key few (c ∷ columns) forms ranges =
    let kind : Value = Int (pos (asked_kind c.length)) in
    let flag : Value = Int (pos (cond c.not_null 1 0)) in
    let place : Value = Int (pos (key_place key c.name)) in
    let parts = either_false (is_out_of_range c.length) (list_any (λ (d : ColumnText). is_out_of_range d.length) columns) ranges in
    let low = kind_small c.length parts.0 in
    let bit = flag_small c.not_null in
    let inside = place_small key c.name in
    All-append IsTyped (column_values key c) (flat_map (column_values key) columns)
    (All-cons IsTyped (Text c.name) (kind ∷ flag ∷ place ∷ []) (name_text c.name forms.0)
    (All-cons IsTyped kind (flag ∷ place ∷ []) (small_typed (asked_kind c.length) (omega (arith, low)))
    (All-cons IsTyped flag (place ∷ []) (small_typed (cond c.not_null 1 0) (omega (arith, bit)))
    (All-cons IsTyped place [] (small_typed (key_place key c.name) (omega (arith, inside, few))) (All-nil IsTyped)))))
    (columns_typed key few columns forms.1 parts.1)

-- the row of a table
pub table_typed : (number bank : ℕ) (columns : List ColumnText) (key : List (List ℕ)) → number < 2 ^ 32 → bank < 2 ^ 32 → length columns ≤ 15 → length key ≤ 15 → HaveForms columns
    → list_any (λ c. is_out_of_range c.length) columns ≡ false → AreTyped (table_row number bank columns key)
table_typed number bank columns key small low many few forms ranges =
    let behind : List Value = flat_map (column_values key) columns in
    All-cons IsTyped (Int (pos number)) (Int (pos bank) ∷ Int (pos (length columns)) ∷ behind) (small_typed number (omega (arith, small)))
    (All-cons IsTyped (Int (pos bank)) (Int (pos (length columns)) ∷ behind) (small_typed bank (omega (arith, low)))
    (All-cons IsTyped (Int (pos (length columns))) behind (small_typed (length columns) (omega (arith, many))) (columns_typed key few columns forms ranges)))

abbrev IsBelow : ℕ → Databank → Type 0
IsBelow next b = (b.number < next) × (b.file < next)

found_below : (next : ℕ) (test : Databank → Bool) (banks : List Databank) → All (IsBelow next) banks → (b : Databank) → find test banks ≡ Some b → b.number < next
found_below next test [] all b e = cc
found_below next test (d ∷ banks) all b e =
    elim (test d) as (λ t. cond t (Some d) (find test banks) ≡ Some b → b.number < next) [
      | true ↦ λ f. subst (λ (x : Databank). x.number < next) (inside_some d b f) (All-head (IsBelow next) d banks all).0
      | false ↦ λ f. found_below next test banks (All-tail (IsBelow next) d banks all) b f
    ] e

-- the number of a databank that is there has 32 bits
pub bank_small : (s : State) (name : List ℕ) (b : Databank) → AreUsed s → databank_named s name ≡ Some b → b.number < 2 ^ 32
bank_small s name b used found =
    let below = found_below (next_number s) (λ d. is_named name d.name) (databanks s) used.banks b found in
    let next = (within 16 (next_number s) (next_range s)).1 in
    omega (arith, below, next)

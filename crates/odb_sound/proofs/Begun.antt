-- A new database is sound.
use Rattle.std.proofs.Common.{◌≡◌, ℕ, ◌<◌, ◌≤◌, Bool, true, false, ◌==◌, cond, List, [], ◌∷◌, map, refl, sym, ap, subst, ◌∙◌, Option, Some, None, unwrap_or, codes, arith, lit<}
use Rattle.std.specs.Option.{option_and_then}
use Rattle.std.specs.List.{All, list_any, filter}
use Rattle.std.specs.FinMap.{empty, get, entries, get-empty}
use Rattle.std.proofs.lemmas.List.Elements.{All-nil, All-cons}
use Rattle.odb_values.specs.declared.value.Value.{Value}
use Rattle.odb_model.specs.declared.table_key.TableKey.{TableKey}
use Rattle.odb_model.specs.declared.write.Write.{Write}
use Rattle.odb_model.specs.declared.entry.Entry.{Entry}
use Rattle.odb_model.specs.State.{State, table_key_cmp, part_in, is_in}
use Rattle.odb_model.specs.Table.{Table, kv, is_named}
use Rattle.odb_model.specs.Dictionary.{table_of, table_in_row, in_dictionary, has_name_form}
use Rattle.odb_model.specs.Databanks.{Databank, sysdb, main, fixed_shadow, databank_in_row, databank_rows, databanks_told, that_count, databanks, in_row, number_in_row, next_number}
use Rattle.odb_machine.specs.Sides.{Sides}
use Rattle.odb_machine.specs.Machine.{first_machine}
use Rattle.odb_machine.specs.Book.{most_entries}
use Rattle.odb_model.proofs.Parts.{entries-retain_keys}
use Rattle.odb_model.proofs.Keys.{entries-empty}
use Rattle.odb_machine.proofs.Runs.{answered_first}
use Rattle.odb_codec.specs.Image.{HasImage}
use Rattle.odb_catalog.proofs.Names.{inside_some, same_names}
use Rattle.odb_sound.proofs.Kept.{OfWrite, of_replay}
use Rattle.odb_sound.proofs.Columns.{IsShape, table_shaped}
use Rattle.odb_sound.specs.Sound.{IsInOrder, IsKnown, IsSoundHistory, IsSound, numbers_differ}

-- the state of no entry
abbrev none_yet : State
none_yet = empty

nothing_at : (at : TableKey) → get none_yet at ≡ None
nothing_at at = get-empty table_key_cmp at

nothing_in : entries (part_in databank_rows none_yet) ≡ []
nothing_in = entries-retain_keys none_yet (is_in databank_rows) ∙ ap (filter (λ e. is_in databank_rows e.0)) (entries-empty (List Value))

abbrev fixed : List Databank
fixed = sysdb ∷ main ∷ []

first_main : unwrap_or (option_and_then (databank_in_row (codes "MAIN")) (get none_yet (in_row 1 (codes "MAIN")))) main ≡ main
first_main = ap (λ (o : Option (List Value)). unwrap_or (option_and_then (databank_in_row (codes "MAIN")) o) main) (nothing_at (in_row 1 (codes "MAIN")))

abbrev listed_by : Databank → List (TableKey × List Value) → List Databank
listed_by m rows = sysdb ∷ m ∷ that_count (sysdb.file ∷ fixed_shadow ∷ m.file ∷ []) (databanks_told rows)

first_banks : databanks none_yet ≡ fixed
first_banks = ap (λ m. listed_by m (entries (part_in databank_rows none_yet))) first_main ∙ ap (listed_by main) nothing_in

first_next : next_number none_yet ≡ 16
first_next = ap (λ (o : Option (List Value)). unwrap_or (option_and_then number_in_row o) 16) (nothing_at (in_row 5 (codes "NEXT")))

-- KV is the only table
record IsFixed (name : List ℕ) (t : Table) : Type 0 where
  pub named : name ≡ codes "KV"
  pub same : t ≡ kv

first_table : (name : List ℕ) (t : Table) → table_of none_yet name ≡ Some t → IsFixed name t
first_table name t e =
    by (is_named name (codes "KV")) (has_name_form name) refl
    (subst (λ (o : Option (List Value)). cond (is_named name (codes "KV")) (Some kv) (cond (has_name_form name) (option_and_then table_in_row o) None) ≡ Some t) (nothing_at (in_dictionary name)) e)
  where
    by : (a b : Bool) → is_named name (codes "KV") ≡ a → cond a (Some kv) (cond b (option_and_then table_in_row None) None) ≡ Some t → IsFixed name t
    by true b is f = record { named = same_names name (codes "KV") is; same = sym (inside_some kv t f) }
    by false true is f = cc
    by false false is f = cc

banks_used : All (λ b. (b.number < 16) × (b.file < 16)) fixed
banks_used =
    All-cons (λ (b : Databank). (b.number < 16) × (b.file < 16)) sysdb (main ∷ []) (lit< tt, lit< tt)
    (All-cons (λ (b : Databank). (b.number < 16) × (b.file < 16)) main [] (lit< tt, lit< tt) (All-nil (λ (b : Databank). (b.number < 16) × (b.file < 16))))

first_order : IsInOrder none_yet
first_order = record {
  rows = λ at row is there. let no : None ≡ Some row = sym (nothing_at at) ∙ there in cc;
  tables = λ m n t u p q same. (first_table m t p).named ∙ sym (first_table n u q).named;
  banks = subst (λ (bs : List Databank). numbers_differ (map (λ b. b.number) bs) ≡ true) (sym first_banks) refl;
  apart = λ name t p. subst (λ (x : Table). list_any (λ b. b.number == x.number) (databanks none_yet) ≡ false) (sym (first_table name t p).same)
      (ap (list_any (λ b. b.number == 5)) first_banks);
  files = subst (λ (bs : List Databank). numbers_differ (fixed_shadow ∷ map (λ b. b.file) bs) ≡ true) (sym first_banks) refl;
  used = record {
    tables = λ name t p. subst (λ (x : Table). x.number < next_number none_yet) (sym (first_table name t p).same) (subst (λ (n : ℕ). 5 < n) (sym first_next) (lit< tt));
    banks = subst (λ (bs : List Databank). All (λ b. (b.number < next_number none_yet) × (b.file < next_number none_yet)) bs) (sym first_banks)
        (subst (λ (n : ℕ). All (λ b. (b.number < n) × (b.file < n)) fixed) (sym first_next) banks_used);
  };
  in_banks = λ name t p. subst (λ (x : Table). list_any (λ b. b.number == x.bank) (databanks none_yet) ≡ true) (sym (first_table name t p).same)
      (ap (list_any (λ b. b.number == 4)) first_banks);
}

-- the databank of KV, and of the dictionary
abbrev first_bank : ℕ → ℕ
first_bank n = cond (n == 6) 2 4

least : (n : ℕ) → 0 ≤ n
least n = omega arith

begun : IsSoundHistory []
begun = record {
  few = least most_entries;
  images = All-nil HasImage;
  in_banks = tt;
  rising = tt;
  in_order = first_order;
  known = All-nil (λ (e : Entry). All (IsKnown none_yet) e.writes);
  one_bank = record {
    bank_of = first_bank;
    dictionary = refl;
    writes = All-nil (λ (e : Entry). All (λ (w : Write). w.bank ≡ first_bank w.table) e.writes);
    tables = λ name t p. ap (λ (x : Table). x.bank) (first_table name t p).same ∙ ap first_bank (sym (ap (λ (x : Table). x.number) (first_table name t p).same));
  };
  columns = λ name t p. table_shaped none_yet none_yet (of_replay (IsShape none_yet) [] (All-nil (λ (e : Entry). All (OfWrite (IsShape none_yet)) e.writes))) name t p;
}

pub begins_sound : (format : ℕ) (sides : Sides) → IsSound (first_machine format sides [])
begins_sound format sides = record { history = begun; doubted = begun; spelled = λ s. tt; answered = answered_first format sides [] tt }

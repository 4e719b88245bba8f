-- The entry of a definition that is planned fits a sound history.
use Rattle.std.proofs.Common.{◌≡◌, ℕ, ◌+◌, ◌<◌, ◌≤◌, pos, true, cond, not, nat_lt, List, [], ◌∷◌, length, refl, ap, subst, ◌∙◌, Option, Some, None, is_some, codes, arith, lit<, IsTrue}
use Rattle.std.specs.List.{All, list_all}
use Rattle.std.specs.Ordering.{is_eq}
use Rattle.std.specs.Cmp.{tied_itself}
use Rattle.std.specs.FinMap.{get}
use Rattle.std.proofs.lemmas.List.Elements.{All-nil, All-cons, recursion_from_All}
use Rattle.odb_values.specs.declared.value.Value.{Value}
use Rattle.odb_values.specs.declared.value.Value.TheVariants.{Int}
use Rattle.odb_model.specs.declared.write.Write.{Write}
use Rattle.odb_model.specs.declared.entry.Entry.{Entry}
use Rattle.odb_model.specs.declared.statement.ColumnText.{ColumnText}
use Rattle.odb_model.specs.declared.statement.Statement.{Statement}
use Rattle.odb_model.specs.declared.statement.Statement.TheVariants.{CreateTable, DropTable}
use Rattle.odb_model.specs.State.{State, changed, after_writes, replay}
use Rattle.odb_model.specs.Dictionary.{table_of, has_name_form, names_differ}
use Rattle.odb_model.specs.Databanks.{Databank, databank_named, in_row, next_number}
use Rattle.odb_model.specs.Definitions.{Plans, planned, IsSpelled, text_names, is_among, dictionary_write, number_write, table_row, created_in, dropped}
use Rattle.odb_model.specs.Storable.{IsStorableList}
use Rattle.odb_model.specs.Script.{IsSession}
use Rattle.odb_model.proofs.Replay.{table_key_cmp_total, get-changed_at}
use Rattle.odb_catalog.specs.Planning.{IsTableText}
use Rattle.odb_catalog.specs.Telling.{HasCreated, HasDropped}
use Rattle.odb_catalog.proofs.Telling.{HaveForms}
use Rattle.odb_catalog.proofs.Planned.{planned_in, planned_drop, form_of, none_of}
use Rattle.odb_catalog.proofs.After.{created, dropped_tells, or_first, at_most}
use Rattle.odb_catalog.proofs.Spelled.{TextOf, spelled_text}
use Rattle.odb_catalog.proofs.Widths.{creation_storable, drop_storable, key_short}
use Rattle.odb_catalog.proofs.Numbers.{within, next_range}
use Rattle.odb_codec.specs.Image.{IsTyped}
use Rattle.odb_sound.proofs.Told.{small_typed, table_typed, bank_small, not_not}
use Rattle.odb_sound.specs.Sound.{IsSoundHistory}
use Rattle.odb_sound.proofs.Ordered.{order_created, order_dropped}
use Rattle.odb_sound.proofs.Appended.{Fits, IsToldWrite, told_written, definition_fits, one_created, one_dropped, columns_created, columns_dropped}

more_than_none : (w : Write) (ws : List Write) → 0 < length (w ∷ ws)
more_than_none w ws = omega arith

module _ (h : List Entry) (sound : IsSoundHistory h) (e : Entry) (session : IsSession e.by) where
  created_fits : (name : List ℕ) (columns : List ColumnText) (key : List (List ℕ)) (bank : List ℕ) → IsTableText name columns key
      → created_in (replay h) (databank_named (replay h) bank) name columns key ≡ Plans e.writes → Fits h e (after_writes (replay h) e.writes)
  created_fits name columns key bank text is =
      let s : State = replay h in
      let there = planned_in s (databank_named s bank) name columns key e.writes is in
      let b : Databank = there.0 in
      let forms : HaveForms columns = recursion_from_All (λ (c : ColumnText). IsTrue (has_name_form c.name)) columns text.forms in
      let count = or_first (nat_lt 15 (length columns)) (not (names_differ key)) (none_of _ _ _ _ _ there.3).1 in
      let has : HasCreated name columns key bank s (after_writes s e.writes) = created s name columns key bank e.writes text.form forms text.some is in
      let row : Option (List Value) = Some (table_row (next_number s) b.number columns key) in
      let tests = none_of _ _ _ _ _ there.3 in
      let few : length key ≤ 15 = key_short columns key (not_not (names_differ (text_names columns)) (or_first (is_some (table_of s name)) _ tests.0).1) (not_not (names_differ key) count.1)
      (not_not (list_all (is_among (text_names columns)) key) tests.3) (at_most (length columns) count.0) in
      let next = (within 16 (next_number s) (next_range s)).1 in
      let typed = table_typed (next_number s) b.number columns key next (bank_small s bank b sound.in_order.used there.1) (at_most (length columns) count.0) few forms tests.2 in
      let new = All-cons IsTyped (Int (pos (next_number s + 1))) [] (small_typed (next_number s + 1) (omega (arith, next))) (All-nil IsTyped) in
      let told : All IsToldWrite e.writes =
      subst (All IsToldWrite) there.4
      (All-cons IsToldWrite (dictionary_write 2 name row) (number_write (next_number s) ∷ []) (told_written 2 name row (lit< tt) text.form typed)
      (All-cons IsToldWrite (number_write (next_number s)) [] (told_written 5 (codes "NEXT") (Some (Int (pos (next_number s + 1)) ∷ [])) (lit< tt) refl new) (All-nil IsToldWrite))) in
      let used = has.used in
      definition_fits h sound e session
      (subst (λ (ws : List Write). 0 < length ws) there.4 (more_than_none (dictionary_write 2 name row) (number_write (next_number s) ∷ [])))
      (subst IsStorableList there.4 (creation_storable (next_number s) b.number name columns key text.form forms (at_most (length columns) count.0)))
      told
      (order_created s (after_writes s e.writes) name columns key bank has sound.in_order b there.1)
      has.banks (omega (arith, used))
      (one_created h e (after_writes s e.writes) name columns key bank sound has told)
      (columns_created h e name columns key bank sound has told)

  dropped_fits : (name : List ℕ) → dropped (replay h) (table_of (replay h) name) name ≡ Plans e.writes → Fits h e (after_writes (replay h) e.writes)
  dropped_fits name is =
      let s : State = replay h in
      let there = planned_drop s (table_of s name) name e.writes is in
      let form : has_name_form name ≡ true = form_of s name there.0 there.1 there.2 in
      let has : HasDropped name s (after_writes s e.writes) = dropped_tells s name e.writes is in
      let gone : get (changed s (in_row 2 name) None) (in_row 2 name) ≡ None =
      get-changed_at s (in_row 2 name) None (in_row 2 name)
      ∙ ap (λ b. cond b None (get s (in_row 2 name))) (ap is_eq (tied_itself table_key_cmp_total (in_row 2 name))) in
      let own : get (after_writes s e.writes) (in_row 2 name) ≡ None =
      subst (λ (ws : List Write). get (after_writes s ws) (in_row 2 name) ≡ None) there.3 gone in
      let told : All IsToldWrite e.writes =
      subst (All IsToldWrite) there.3 (All-cons IsToldWrite (dictionary_write 2 name None) [] (told_written 2 name None (lit< tt) form tt) (All-nil IsToldWrite)) in
      let used = has.used in
      definition_fits h sound e session
      (subst (λ (ws : List Write). 0 < length ws) there.3 (more_than_none (dictionary_write 2 name None) []))
      (subst IsStorableList there.3 (drop_storable name form))
      told
      (order_dropped s (after_writes s e.writes) name has sound.in_order own)
      has.banks (omega (arith, used))
      (one_dropped h e (after_writes s e.writes) name sound has told)
      (columns_dropped h e name sound has told)

  by_text : (st : Statement) → TextOf st → planned st (replay h) ≡ Plans e.writes → Fits h e (after_writes (replay h) e.writes)
  by_text (CreateTable name columns key bank) text is = created_fits name columns key bank text is
  by_text (DropTable name) text is = dropped_fits name is
  by_text other text is = cc

  -- a definition that some text spells, and that is planned
  pub planned_fits : (st : Statement) → IsSpelled st → planned st (replay h) ≡ Plans e.writes → Fits h e (after_writes (replay h) e.writes)
  planned_fits st spelled is = by_text st (spelled_text st spelled) is

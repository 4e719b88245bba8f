use Rattle.std.proofs.Common.{◌≡◌, ◌∙◌, List, [], ◌∷◌, ◌++◌, ap, sym, append_assoc}
use Rattle.std.specs.FinMap.{empty}
use Rattle.std.specs.Vec.Iter.{into_iter_items}
use Rattle.std.proofs.lemmas.List.Elements.{All-nil, All-cons, All-append}
use Rattle.odb_model.specs.declared.entry.Entry.{Entry}
use Rattle.odb_model.specs.State.{State, after_writes, replay}
use Rattle.odb_model.specs.Storable.{HaveKeys}
use Rattle.odb_model.proofs.Replay.{replay_from-append}
use Rattle.odb_keytable.specs.Committed.{Committed}
use Rattle.odb_system.proofs.taking.rows_after.Goals as goal

abbrev IsKeyedEntry : Entry → Type 0
IsKeyedEntry e = HaveKeys e.writes

pub loop-entry-preserved : goal.loop-entry-preserved
loop-entry-preserved c =
    let e : Entry = c.in-Some.entry in
    let es : List Entry = c.loop-entry.yielded in
    let rest : List Entry = into_iter_items c.next.new.self in
    record {
      rows =
          c.in_ok-settle.ensures.ok
          ∙ ap (λ (s : State). record { state = s; waiting = 0 })
          (ap (λ (rows : Committed). rows.state) c.push.ensures
          ∙ (λ j. after_writes (c.loop-entry.invariant.rows j).state (c.in_ok-placed.ensures.placed j).writes)
          ∙ sym (replay_from-append empty es (e ∷ [])));
      keyed = All-append IsKeyedEntry es (e ∷ []) c.loop-entry.invariant.keyed (All-cons IsKeyedEntry e [] c.in_ok-placed.ensures.keyed (All-nil IsKeyedEntry));
      whole = append_assoc es (e ∷ []) rest ∙ ap (λ (xs : List Entry). es ++ xs) (sym c.in-Some.ensures.steps.0) ∙ c.loop-entry.invariant.whole;
    }

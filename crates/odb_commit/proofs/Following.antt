-- A book goes on standing for the book of the definitions.
use Rattle.std.proofs.Common.{◌≡◌, ℕ, ◌+◌, Bool, List, [], length, refl, sym, ap, ◌∙◌, Option, Some, None, option_map}
use Rattle.odb_device.specs.World.{World}
use Rattle.odb_model.specs.declared.entry.Entry.{Entry}
use Rattle.odb_model.specs.State.{IsHistory}
use Rattle.odb_model.specs.Width.{entry_width}
use Rattle.odb_machine.specs.Sides.{Sides, turned}
use Rattle.odb_transdb.specs.declared.header.Header.{Header}
use Rattle.odb_transdb.specs.Standing.{Db, IsPlaced, AreAlikePlaced, IsAdvanced}
use Rattle.odb_transdb.specs.Turning.{SameSides, IsTurned}
use Rattle.odb_validate.specs.Window.{reserve, push}
use Rattle.odb_validate.proofs.Windows.{IsWindow-begins, IsWindow-push}
use Rattle.odb_machine.specs.Book.{Book, with_entry, with_doubted}
use Rattle.odb_commit.specs.Parts.{Parts}
use Rattle.odb_commit.specs.Sealing.{IsStill}
use Rattle.odb_commit.specs.Standing.{sides_of, Fills, StandsFor}
use Rattle.odb_commit.proofs.Records.{history_grows, fills_more, fills_again, fills_same, fills_turned, sides_turned}

pub begins : (db : Db) (h : List Entry) (reserved : Bool) → IsHistory h → Fills db h
    → StandsFor (length h) (record { transdb = db; window = record { start = length h; entries = []; is_reserved = reserved }; halted = None }) (record { history = h; sides = sides_of db.header; in_doubt = None })
begins db h reserved numbered fills = record {
  numbered = numbered;
  window = IsWindow-begins h reserved;
  halted = refl;
  sides = refl;
  log = λ _. fills;
}

pub reserves : (since : ℕ) (kept : Parts) (b : Book) → StandsFor since kept b → StandsFor since (record kept { window = reserve kept.window }) b
reserves since kept b stands = record {
  numbered = stands.numbered;
  window = record { opened = stands.window.opened; start = stands.window.start; entries = stands.window.entries };
  halted = stands.halted;
  sides = stands.sides;
  log = stands.log;
}

sides_same : (b : Book) (kept new : Header) → b.sides ≡ sides_of kept → new ≡ kept → b.sides ≡ sides_of new
sides_same b kept new is same = is ∙ ap sides_of (sym same)

pub sealed : (since : ℕ) (kept : Parts) (b : Book) (e : Entry) (db : Db) → StandsFor since kept b → b.in_doubt ≡ None → e.number ≡ length b.history + 1
    → AreAlikePlaced kept.transdb db → IsAdvanced (13 + entry_width e) kept.transdb db → StandsFor since (record { transdb = db; window = push kept.window e; halted = None }) (with_entry b e)
sealed since kept b e db stands settled number alike on = record {
  numbered = history_grows b.history e stands.numbered number;
  window = IsWindow-push since b.history kept.window e stands.window;
  halted = ap (λ (d : Option Entry). option_map (λ x. x.number) d) (sym settled);
  sides = sides_same b kept.transdb.header db.header stands.sides alike.header;
  log = λ _. fills_more kept.transdb db b.history e (stands.log settled) alike on;
}

pub faulted : (since : ℕ) (kept : Parts) (b : Book) (db : Db) → StandsFor since kept b → AreAlikePlaced kept.transdb db
    → IsStill kept.transdb db → StandsFor since (record kept { transdb = db }) b
faulted since kept b db stands alike still = record {
  numbered = stands.numbered;
  window = stands.window;
  halted = stands.halted;
  sides = sides_same b kept.transdb.header db.header stands.sides alike.header;
  log = λ none. fills_again kept.transdb db b.history (stands.log none) alike still;
}

pub doubted : (since : ℕ) (kept : Parts) (b : Book) (e : Entry) (db : Db) → StandsFor since kept b → AreAlikePlaced kept.transdb db
    → StandsFor since (record kept { transdb = db; halted = Some e.number }) (with_doubted b e)
doubted since kept b e db stands alike = record {
  numbered = stands.numbered;
  window = stands.window;
  halted = refl;
  sides = sides_same b kept.transdb.header db.header stands.sides alike.header;
  log = λ none. cc;
}

pub turned_on : (since : ℕ) (kept : Parts) (b : Book) (db : Db) (after : World) → StandsFor since kept b → b.in_doubt ≡ None → IsTurned kept.transdb db after → IsPlaced db
    → StandsFor since (record kept { transdb = db }) (record b { sides = turned (length b.history + 1) b.sides })
turned_on since kept b db after stands settled is placed =
    let fills : Fills kept.transdb b.history = stands.log settled in
    record {
      numbered = stands.numbered;
      window = stands.window;
      halted = stands.halted;
      sides = (λ i. turned (fills.next i) (stands.sides i)) ∙ sym (sides_turned kept.transdb.active.next kept.transdb.header) ∙ ap sides_of (sym is.header);
      log = λ none. fills_turned kept.transdb db b.history after fills is placed;
    }

pub broken : (since : ℕ) (kept : Parts) (b : Book) (db : Db) → StandsFor since kept b → SameSides kept.transdb db → StandsFor since (record kept { transdb = db }) b
broken since kept b db stands same = record {
  numbered = stands.numbered;
  window = stands.window;
  halted = stands.halted;
  sides = sides_same b kept.transdb.header db.header stands.sides same.header;
  log = λ none. fills_same kept.transdb db b.history (stands.log none) same;
}

-- The invariant of a TRANSDB after its pair, its header or its sides were changed.
use Rattle.std.proofs.Common.{◌≡◌, ℕ, ◌+◌, ◌^◌, ◌≤◌, true, false, Some, List, [], sym, ◌∙◌, ap, arith}
use Rattle.odb_pair.specs.Standing.{PairState}
use Rattle.odb_reclog.specs.Standing.{Log, begun}
use Rattle.odb_model.specs.declared.side.OtherSide.TheVariants.{Clean}
use Rattle.odb_transdb.specs.declared.header.Header.{Header}
use Rattle.odb_transdb.specs.Header.{header_image, side_start, side_end, active_first, turned}
use Rattle.odb_transdb.specs.Standing.{Db, IsDb}
use Rattle.odb_transdb.proofs.Headers.{lawful_is}
use Rattle.odb_transdb.proofs.Contents.{turned_other, turned_active, turned_live}
use Rattle.odb_transdb.proofs.Turning.{new_lawful}
use Rattle.odb_transdb.proofs.Kept.{within_none}

-- what a settled pair keeps
abbrev pub KeepsHeader : Header → PairState → Type 0
KeepsHeader h pair = pair.settled ≡ true → (pair.value ≡ header_image h) × (pair.tried ≡ pair.value)

pub keeps_value : (h : Header) (value : List ℕ) (pair : PairState) → value ≡ header_image h → pair.value ≡ value → pair.tried ≡ value → KeepsHeader h pair
keeps_value h value pair is kept tried = λ settled. (kept ∙ is, tried ∙ sym kept)

module _ (db : Db) (is : IsDb db) (pair : PairState) (file : pair.file ≡ db.pair.file) where
  -- the sides are turned
  pub is_db_turned : (clean : db.header.other ≡ Clean) (few : db.active.next ≤ 2 ^ 48 + 1) (log : Log) → db.active.in_doubt ≡ false → KeepsHeader (turned db.active.next db.header) pair
      → log ≡ begun 0 (side_start (turned db.active.next db.header) (turned db.active.next db.header).active) (side_end (turned db.active.next db.header) (turned db.active.next db.header).active) (active_first (turned db.active.next db.header))
      → IsDb (record { header = turned db.active.next db.header; pair = pair; active = log; live = Some db.active; places = []; live_places = db.places })
  is_db_turned clean few log usable kept log_is =
      let t = turned db.active.next db.header in
      let low = (lawful_is db.header is.lawful).active in
      let first : log.first ≡ active_first t = ap (λ (l : Log). l.first) log_is in
      let next : log.next ≡ active_first t = ap (λ (l : Log). l.next) log_is in
      let there = turned_other db.header db.active.next low in
      record {
        lawful = new_lawful db is clean few;
        file = file ∙ is.file;
        kept = kept;
        active = record {
          file = ap (λ (l : Log). l.file) log_is;
          start = ap (λ (l : Log). l.start) log_is;
          end = ap (λ (l : Log). l.end) log_is;
          first = first;
        };
        place = omega (arith, ap (λ (l : Log). l.start) log_is, ap (λ (l : Log). l.place) log_is);
        from = omega (arith, next);
        live = (
          record {
            file = is.active.file;
            start = is.active.start ∙ ap (side_start db.header) (sym there);
            end = is.active.end ∙ ap (side_end db.header) (sym there);
            first = is.active.first ∙ sym (turned_live db.header db.active.next low);
          },
          sym (turned_active db.header db.active.next low) ∙ sym first,
          usable,
        );
        places = within_none log (omega (arith, first, next));
        live_places = is.places;
      }

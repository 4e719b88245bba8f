-- What a reading gives where the pair may be unsettled.
use Rattle.std.proofs.Common.{◌≡◌, ℕ, ◌-◌, ◌≤◌, List, ◌++◌, length, take, drop, Option, Some, None, Result, Ok, Err, sym, ◌∙◌, ap, arith, append_assoc}
use Rattle.std.specs.Prelude.{IfSome, IfOk, IsTrue}
use Rattle.std.proofs.lemmas.List.{take-append-drop, length-drop}
use Rattle.odb_device.specs.World.{File}
use Rattle.odb_device.specs.Images.{ReadsImage}
use Rattle.odb_model.specs.declared.entry.Entry.{Entry}
use Rattle.odb_transdb.specs.declared.error.TransdbError.{TransdbError}
use Rattle.odb_transdb.specs.Header.{is_header, first_held}
use Rattle.odb_transdb.specs.Standing.{Db}
use Rattle.odb_transdb.specs.Turning.{IsEnd, StandsSince, AreLast}
use Rattle.odb_transdb.specs.Walking.{sides_read, IsReadOf}
use Rattle.odb_transdb.proofs.Joining.{sides_by}
use Rattle.odb_transdb.proofs.Turning.{OwnContent, own_content}

module _ (db : Db) (all : List Entry) (lawful : IsTrue (is_header db.header)) where
  -- what the sides give, whichever header the pair counts
  pub own_of : (f : File) → StandsSince db all (Some f) → ReadsImage (Some f) → OwnContent db.header db.active.next all f.bytes
  own_of f since reads = own_content db.header db.active.next all f.bytes lawful (since.2 f.bytes reads).own

  pub since_read : (f : File) (since : StandsSince db all (Some f)) (reads : ReadsImage (Some f)) → sides_read db.header f.bytes ≡ Ok (own_of f since reads).entries
  since_read f since reads = sides_by db.header db.header.other f.bytes ∙ (own_of f since reads).content.read

  pub last_of : (from : ℕ) (entries : List Entry) → first_held db.header ≤ from → IsEnd db.header db.active.next all entries → AreLast from db.active.next all (drop (from - first_held db.header) entries)
  last_of from entries low end =
      let k : ℕ = from - first_held db.header in
      record {
        front = end.front ++ take k entries;
        all_is = end.all_is ∙ ap (λ (l : List Entry). end.front ++ l) (sym (take-append-drop k entries)) ∙ sym (append_assoc end.front (take k entries) (drop k entries));
        count = omega (arith, end.count, length-drop k entries);
      }

  module _ (from : ℕ) (low : first_held db.header ≤ from) (result : Result (List Entry) TransdbError) where
    given_read : (read : Result (List Entry) ℕ) (entries : List Entry) (r : Result (List Entry) TransdbError) → read ≡ Ok entries → IsEnd db.header db.active.next all entries
        → IsReadOf (λ found es. es ≡ drop (from - first_held db.header) found) read r → IfOk r (AreLast from db.active.next all)
    given_read read entries (Ok es) is end told =
        let same : told.0 ≡ entries = cc (told.1, is) in
        let all_of : es ≡ drop (from - first_held db.header) entries = told.2 ∙ ap (λ (l : List Entry). drop (from - first_held db.header) l) same in
        let last = last_of from entries low end in
        record { front = last.front; all_is = last.all_is ∙ ap (λ (l : List Entry). last.front ++ l) (sym all_of); count = omega (arith, last.count, ap (length {A = Entry}) all_of) }
    given_read read entries (Err e) is end told = tt

    pub given_last : (o : Option File) → StandsSince db all o → ReadsImage o → IfSome o (λ f. IsReadOf (λ found es. es ≡ drop (from - first_held db.header) found) (sides_read db.header f.bytes) result)
        → IfSome o (λ f. IfOk result (AreLast from db.active.next all))
    given_last None since reads told = tt
    given_last (Some f) since reads told =
        given_read (sides_read db.header f.bytes) (own_of f since reads).entries result (since_read f since reads) (own_of f since reads).end told

  -- a told file never refuses
  pub never_broken : (at : ℕ) (Q : File → Type 0) (o : Option File) → StandsSince db all o → ReadsImage o → IfSome o (λ f. sides_read db.header f.bytes ≡ Err at) → IfSome o Q
  never_broken at Q None since reads told = tt
  never_broken at Q (Some f) since reads told = absurd (cc (told, since_read f since reads))

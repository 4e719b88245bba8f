-- What a commit leaves: a record behind its gate, and then the gate.
use Rattle.std.proofs.Common.{◌≡◌, ◌⊎◌, inl, ℕ, ◌+◌, ◌-◌, ◌<◌, true, false, List, [], ◌∷◌, ◌++◌, length, Option, Some, None, Result, Ok, Err, sym, ◌∙◌, ap, subst, arith}
use Rattle.std.specs.Prelude.{IfSome, OnOk, OnErr, is_err}
use Rattle.std.proofs.lemmas.Bool.{false≢true}
use Rattle.odb_device.specs.World.{File, World, file_of}
use Rattle.odb_device.specs.Images.{EachImage, TornFrom}
use Rattle.odb_device.specs.Calls.{FileCountRose, IsOnePut}
use Rattle.odb_device.specs.Moments.{Runs, WritesWithin}
use Rattle.odb_device.proofs.Torn.{each_weakens}
use Rattle.odb_device.proofs.Time.{weakens, joins, run_end}
use Rattle.odb_reclog.specs.Records.{OPEN, payload_at, size_at, number_at}
use Rattle.odb_reclog.specs.Standing.{HasBody, HasItsBody, body_of}
use Rattle.odb_reclog.proofs.Pieces.{from_widens, from_then}
use Rattle.odb_codec.specs.Reading.{read_entry}
use Rattle.odb_codec.proofs.Entries.{entry_again}
use Rattle.odb_model.specs.declared.entry.Entry.{Entry}
use Rattle.odb_transdb.specs.declared.header.Header.{Header}
use Rattle.odb_transdb.specs.Opened.{Holds, entries_in}
use Rattle.odb_transdb.specs.Standing.{Db, IsSettledIn}
use Rattle.odb_transdb.specs.Answers.{IsEntryImage, HoldsAll, HoldsAllOrMore, HasRecord}
use Rattle.odb_transdb.specs.Worlds.{KeepsEntries, KeepsOrAddsEntry, WritesBehindGate, WritesFromGate, RewritesTail, RoseAtGate}
use Rattle.odb_transdb.specs.Steps.{IsWritten}

-- the entry that an entry's image is read as
pub entry_read : (number : ℕ) (payload : List ℕ) → IsEntryImage payload → (e : Entry) × (read_entry number payload ≡ Ok e)
entry_read number payload is = (record is.0 { number = number }, ap (read_entry number) is.2 ∙ entry_again number is.0 is.1)

-- each image that holds the entries holds them, or one more
pub keeps_or_adds : (db : Db) (e : Entry) (w now : World) → KeepsEntries db w now → KeepsOrAddsEntry db e w now
keeps_or_adds db e w now run =
    let es = entries_in (file_of 0 w) in
    weakens 0 (HoldsAll db es) (HoldsAllOrMore db es e) w now
    (λ o each. each_weakens (Holds db.header es) (λ image. Holds db.header es image ⊎ Holds db.header (es ++ e ∷ []) image) o (λ image holds. inl holds) each) run

-- what is written behind the gate, and then at it, is written from the gate on
module _ (db : Db) (room : db.active.place < db.active.end) where
  pub behind_gate : (w now : World) → WritesBehindGate db w now → WritesFromGate db w now
  behind_gate w now run =
      let at = db.active.place in
      let n = db.active.end - at in
      weakens 0 (TornFrom (at + 1) (db.active.end - (at + 1)) (file_of 0 w)) (TornFrom at n (file_of 0 w)) w now
      (λ o torn. from_widens (at + 1) (db.active.end - (at + 1)) at n (file_of 0 w) o (omega arith) (omega arith) torn) run

  pub from_gate : (mid : Db) (w m now : World) → mid.active.place ≡ db.active.place → WritesBehindGate db w m → WritesWithin 0 mid.active.place 1 m now → WritesFromGate db w now
  from_gate mid w m now same first second =
      let at = db.active.place in
      let n = db.active.end - at in
      let P = TornFrom at n (file_of 0 w) in
      let before = behind_gate w m first in
      joins 0 P w m now before
      (weakens 0 (TornFrom mid.active.place 1 (file_of 0 m)) P m now
      (λ o torn. from_then at n (file_of 0 w) (file_of 0 m) o (run_end 0 P w m before) (from_widens mid.active.place 1 at n (file_of 0 m) o (omega arith) (omega arith) torn)) second)

-- between the record and its gate
module _ (db mid : Db) (w m : World) (payload : List ℕ) (settled : IsSettledIn (file_of 0 w) (file_of 0 m) db mid) (reads : IfSome (file_of 0 m) (λ f. payload_at mid.active.place f.bytes ≡ payload)) where
  pub is_written : (e : Entry) → read_entry db.active.next payload ≡ Ok e → IsWritten mid e (file_of 0 m)
  is_written e one = of_file (file_of 0 m) reads
    where
      of_file : (o : Option File) → IfSome o (λ f. payload_at mid.active.place f.bytes ≡ payload) → IsWritten mid e o
      of_file None reads = tt
      of_file (Some f) reads =
          subst (λ (k : ℕ). read_entry k (payload_at mid.active.place f.bytes) ≡ Ok e) (sym settled.next)
          (subst (λ (l : List ℕ). read_entry db.active.next l ≡ Ok e) (sym reads) one)

  pub has_record : HasItsBody mid.active (file_of 0 m) → EachImage (HasRecord db payload) (file_of 0 m)
  has_record has = of_file (file_of 0 m) reads has
    where
      of_file : (o : Option File) → IfSome o (λ f. payload_at mid.active.place f.bytes ≡ payload) → HasItsBody mid.active o → EachImage (HasRecord db payload) o
      of_file None reads has = tt
      of_file (Some f) reads has =
          each_weakens (HasBody mid.active (body_of mid.active (Some f))) (HasRecord db payload) (Some f)
          (λ bytes body. record {
            size = ap (λ (p : ℕ). size_at p bytes) (sym settled.place) ∙ body.size ∙ ap length reads;
            number = ap (λ (p : ℕ). number_at p bytes) (sym settled.place) ∙ body.number ∙ settled.next;
            payload_is = ap (λ (p : ℕ). payload_at p bytes) (sym settled.place) ∙ body.payload ∙ reads;
          })
          has

  module _ (now : World) (first : Runs 0 (HoldsAll db (entries_in (file_of 0 w))) w m) where
    pub forced_run : (e : Entry) → Runs 0 (HoldsAllOrMore mid (entries_in (file_of 0 m)) e) m now → Runs 0 (HoldsAllOrMore db (entries_in (file_of 0 w)) e) w now
    forced_run e second =
        let es = entries_in (file_of 0 w) in
        joins 0 (HoldsAllOrMore db es e) w m now (keeps_or_adds db e w m first)
        (subst (λ (l : List Entry). Runs 0 (EachImage (λ image. Holds db.header l image ⊎ Holds db.header (l ++ e ∷ []) image)) m now) settled.entries
        (subst (λ (h : Header). Runs 0 (EachImage (λ image. Holds h (entries_in (file_of 0 m)) image ⊎ Holds h (entries_in (file_of 0 m) ++ e ∷ []) image)) m now) settled.header second))

    pub forced_entries : (e : Entry) → IfSome (file_of 0 now) (λ f. entries_in (Some f) ≡ entries_in (file_of 0 m) ++ e ∷ []) → IfSome (file_of 0 now) (λ f. entries_in (Some f) ≡ entries_in (file_of 0 w) ++ e ∷ [])
    forced_entries e more = subst (λ (l : List Entry). IfSome (file_of 0 now) (λ f. entries_in (Some f) ≡ l ++ e ∷ [])) settled.entries more

    pub forced_doubt : HasItsBody mid.active (file_of 0 m) → RewritesTail db w m → IsOnePut 0 mid.active.place (OPEN ∷ []) m now → WritesWithin 0 mid.active.place 1 m now → FileCountRose 0 m now → RoseAtGate db payload w now
    forced_doubt has tail gate only rose = record {
      mid = m;
      before = first;
      tail = tail;
      body = has_record has;
      gate = subst (λ (p : ℕ). IsOnePut 0 p (OPEN ∷ []) m now) settled.place gate;
      only = subst (λ (p : ℕ). WritesWithin 0 p 1 m now) settled.place only;
      rose = rose;
    }

-- a result that isn't an error
pub ok_of : {T E : Type 0} (A : Type 0) (r : Result T E) → is_err r ≡ false → OnOk r A → A
ok_of A (Ok x) is a = a
ok_of A (Err e) is a = absurd (false≢true (sym is))

-- or that is one
pub err_of : {T E : Type 0} (A : Type 0) (r : Result T E) → is_err r ≡ true → OnErr r A → A
err_of A (Ok x) is a = absurd (false≢true is)
err_of A (Err e) is a = a

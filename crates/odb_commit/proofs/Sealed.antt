-- What is left of a book where the record of an entry was forced.
use Rattle.std.proofs.Common.{◌≡◌, ◌⊎◌, inl, inr, ℕ, ◌+◌, ◌≤◌, List, length, Option, Some, None, Result, Ok, Err, refl, sym, ap, subst, ◌∙◌, arith}
use Rattle.std.specs.Prelude.{OnOk}
use Rattle.odb_device.specs.World.{World, file_of}
use Rattle.odb_reclog.specs.Standing.{Log}
use Rattle.odb_model.specs.declared.entry.Entry.{Entry}
use Rattle.odb_codec.specs.Reading.{read_entry}
use Rattle.odb_codec.proofs.Entries.{entry_again}
use Rattle.odb_transdb.specs.declared.header.Header.{Header}
use Rattle.odb_transdb.specs.declared.error.TransdbError.{TransdbError}
use Rattle.odb_transdb.specs.declared.error.TransdbError.TheVariants as t
use Rattle.odb_transdb.specs.Header.{first_on}
use Rattle.odb_transdb.specs.Standing.{Db, IsOfSide, IsPlaced, AreAlikePlaced, IsAdvanced, Stands, room_of}
use Rattle.odb_transdb.specs.Turning.{SameSides, StandsSince, BreaksOff as LogBreaksOff, SettlesFirst as LogSettlesFirst}
use Rattle.odb_transdb.specs.Answers.{IsForceAnswer, IsEntryImage}
use Rattle.odb_transdb.specs.Worlds.{PutsEntry, KeepsOrAddsEntry, AddsEntry, Forces as LogForces}
use Rattle.odb_validate.specs.Window.{Windowed, push, last_number}
use Rattle.odb_commit.specs.declared.error.CommitError.{CommitError}
use Rattle.odb_commit.specs.declared.error.CommitError.TheVariants as e
use Rattle.odb_commit.specs.Parts.{Parts, IsAligned, CanSeal}
use Rattle.odb_commit.specs.Sealing.{IsSealed, Forces, IsStill, BreaksOff, SettlesFirst, SealsLog}

-- a log that differs in the pair alone is placed alike
pub placed_same : (db d : Db) → SameSides db d → IsPlaced db → IsPlaced d
placed_same db d same placed = record {
  side = subst (λ (l : Log). IsOfSide d.header d.header.active l) (sym same.active) (subst (λ (h : Header). IsOfSide h h.active db.active) (sym same.header) placed.side);
  place = subst (λ (l : Log). l.start ≤ l.place) (sym same.active) placed.place;
  from = subst (λ (l : Log). first_on d.header d.header.active ≤ l.next) (sym same.active) (subst (λ (h : Header). first_on h h.active ≤ db.active.next) (sym same.header) placed.from);
  some = subst (λ (h : Header). 1 ≤ first_on h h.active) (sym same.header) placed.some;
}

placed_from : (db d new : Db) → SameSides db d → AreAlikePlaced db new → AreAlikePlaced d new
placed_from db d new same placed = record { header = placed.header ∙ sym same.header; before = placed_same db d same placed.before; after = placed.after }

advanced_from : (n : ℕ) (db d new : Db) → SameSides db d → IsAdvanced n d new → IsAdvanced n db new
advanced_from n db d new same on = record {
  header = on.header ∙ same.header;
  next = on.next ∙ ap (λ (l : Log). l.next + 1) same.active;
  place = on.place ∙ ap (λ (l : Log). l.place + n) same.active;
  usable = on.usable;
}

run_of : (db : Db) (entry : Entry) (result : Result ℕ TransdbError) (before after : World) → PutsEntry db entry result before after → KeepsOrAddsEntry db entry before after
run_of db entry result before after puts = puts.run

added_of : (db : Db) (entry : Entry) (result : Result ℕ TransdbError) (before after : World) → PutsEntry db entry result before after → OnOk result (AddsEntry entry before after)
added_of db entry result before after puts = puts.added

module _ (old : Parts) (entry : Entry) (image : List ℕ) (ready : CanSeal old entry image) where
  pub is_image : IsEntryImage image
  is_image = (entry, ready.lawful, ready.image_is)

  -- the image is read as the entry, at the number of the next record
  reads : (d : Db) → d.active ≡ old.transdb.active → read_entry d.active.next image ≡ Ok entry
  reads d same =
      ap (read_entry d.active.next) ready.image_is ∙ entry_again d.active.next entry ready.lawful
      ∙ ap (λ n. Ok (record entry { number = n })) (ap (λ (l : Log). l.next) same ∙ sym ready.next)

  -- there is room, so that the log isn't full
  pub not_full : (need room : ℕ) → IsForceAnswer (length image) old.transdb (Err (t.Full need room)) → ⊥
  not_full need room answer = let need_is = answer.0 in let room_is = answer.1 in let less = answer.2 in omega (arith, need_is, room_is, less, ready.room)

  -- what was forced, from a settled log whose sides are the same
  module _ (d new : Db) (same : d.active ≡ old.transdb.active) (placed : AreAlikePlaced d new) (before after : World) where
    forced-done : (number : ℕ) → LogForces image (Ok number) d new before after → Forces entry image (Ok number) d new before after
    forced-done number f = record {
      puts = record {
        run = run_of d entry (Ok number) before after (f.entry entry (reads d same));
        added = added_of d entry (Ok number) before after (f.entry entry (reads d same));
      };
      forced = f.forced;
      faulted = λ no. cc;
      doubted = λ n no. cc;
      only = f.only;
      placed = placed;
    }

    forced-faulted : LogForces image (Err t.FaultBefore) d new before after → Forces entry image (Err e.FaultBefore) d new before after
    forced-faulted f = record {
      puts = record { run = run_of d entry (Err t.FaultBefore) before after (f.entry entry (reads d same)); added = tt };
      forced = tt;
      faulted = λ is. f.faulted refl;
      doubted = λ n no. cc;
      only = f.only;
      placed = placed;
    }

    forced-doubted : (number : ℕ) → LogForces image (Err (t.InDoubt number)) d new before after → Forces entry image (Err (e.InDoubt number)) d new before after
    forced-doubted number f = record {
      puts = record { run = run_of d entry (Err (t.InDoubt number)) before after (f.entry entry (reads d same)); added = tt };
      forced = tt;
      faulted = λ no. cc;
      doubted = λ n is. f.doubt number refl;
      only = f.only;
      placed = placed;
    }

  -- where the pair is settled first
  module _ (new : Db) (before after : World) (placed : AreAlikePlaced old.transdb new) (all : List Entry) where
    settled-done : (number : ℕ) → LogSettlesFirst image all (Ok number) old.transdb new before after → SettlesFirst entry image all (Ok number) old.transdb new before after
    settled-done number s = record { mid = s.mid; settled = s.settled; settling = s.settling; rest = by s.rest }
      where
        by : (Stands s.settled (file_of 0 s.mid) × LogForces image (Ok number) s.settled new s.mid after) ⊎ LogBreaksOff (Ok number) s.settled new before s.mid after
            → (Stands s.settled (file_of 0 s.mid) × Forces entry image (Ok number) s.settled new s.mid after) ⊎ BreaksOff (Ok number) s.settled new before s.mid after
        by (inl f) = inl (f.0, forced-done s.settled new s.settling.sides.active (placed_from old.transdb s.settled new s.settling.sides placed) s.mid after number f.1)
        by (inr broke) = let wrong = broke.fault in absurd (cc wrong)

    settled-faulted : LogSettlesFirst image all (Err t.FaultBefore) old.transdb new before after → SettlesFirst entry image all (Err e.FaultBefore) old.transdb new before after
    settled-faulted s = record { mid = s.mid; settled = s.settled; settling = s.settling; rest = by s.rest }
      where
        by : (Stands s.settled (file_of 0 s.mid) × LogForces image (Err t.FaultBefore) s.settled new s.mid after) ⊎ LogBreaksOff (Err t.FaultBefore) s.settled new before s.mid after
            → (Stands s.settled (file_of 0 s.mid) × Forces entry image (Err e.FaultBefore) s.settled new s.mid after) ⊎ BreaksOff (Err e.FaultBefore) s.settled new before s.mid after
        by (inl f) = inl (f.0, forced-faulted s.settled new s.settling.sides.active (placed_from old.transdb s.settled new s.settling.sides placed) s.mid after f.1)
        by (inr broke) = inr (record { fault = refl; same = broke.same; nothing = broke.nothing; unsettled = broke.unsettled; rose = broke.rose })

    settled-doubted : (number : ℕ) → LogSettlesFirst image all (Err (t.InDoubt number)) old.transdb new before after → SettlesFirst entry image all (Err (e.InDoubt number)) old.transdb new before after
    settled-doubted number s = record { mid = s.mid; settled = s.settled; settling = s.settling; rest = by s.rest }
      where
        by : (Stands s.settled (file_of 0 s.mid) × LogForces image (Err (t.InDoubt number)) s.settled new s.mid after) ⊎ LogBreaksOff (Err (t.InDoubt number)) s.settled new before s.mid after
            → (Stands s.settled (file_of 0 s.mid) × Forces entry image (Err (e.InDoubt number)) s.settled new s.mid after) ⊎ BreaksOff (Err (e.InDoubt number)) s.settled new before s.mid after
        by (inl f) = inl (f.0, forced-doubted s.settled new s.settling.sides.active (placed_from old.transdb s.settled new s.settling.sides placed) s.mid after number f.1)
        by (inr broke) = let wrong = broke.fault in absurd (cc wrong)

    -- the next record
    on-done : (number : ℕ) → LogSettlesFirst image all (Ok number) old.transdb new before after → IsAdvanced (13 + length image) old.transdb new
    on-done number s = by s.rest
      where
        by : (Stands s.settled (file_of 0 s.mid) × LogForces image (Ok number) s.settled new s.mid after) ⊎ LogBreaksOff (Ok number) s.settled new before s.mid after
            → IsAdvanced (13 + length image) old.transdb new
        by (inl f) = advanced_from (13 + length image) old.transdb s.settled new s.settling.sides f.1.forced.advanced
        by (inr broke) = let wrong = broke.fault in absurd (cc wrong)

    still-faulted : LogSettlesFirst image all (Err t.FaultBefore) old.transdb new before after → IsStill old.transdb new
    still-faulted s = by s.rest
      where
        same : s.settled.active ≡ old.transdb.active
        same = s.settling.sides.active

        by : (Stands s.settled (file_of 0 s.mid) × LogForces image (Err t.FaultBefore) s.settled new s.mid after) ⊎ LogBreaksOff (Err t.FaultBefore) s.settled new before s.mid after
            → IsStill old.transdb new
        by (inl f) =
            let settles = (f.1.faulted refl).settles in
            record { next = settles.next ∙ ap (λ (l : Log). l.next) same; place = settles.place ∙ ap (λ (l : Log). l.place) same; usable = settles.usable }
        by (inr broke) = record {
          next = ap (λ (x : Db). x.active.next) broke.same ∙ ap (λ (l : Log). l.next) same;
          place = ap (λ (x : Db). x.active.place) broke.same ∙ ap (λ (l : Log). l.place) same;
          usable = ap (λ (x : Db). x.active.in_doubt) broke.same ∙ ap (λ (l : Log). l.in_doubt) same ∙ ready.usable;
        }

  -- all of it, by the answer
  module _ (new : Db) (before after : World) (placed : AreAlikePlaced old.transdb new) (all : List Entry) (since : StandsSince old.transdb all (file_of 0 before)) where
    abbrev Settled : Result ℕ TransdbError → Type 0
    Settled result = (xs : List Entry) → StandsSince old.transdb xs (file_of 0 before) → LogSettlesFirst image xs result old.transdb new before after

    abbrev Forced : Result ℕ TransdbError → Type 0
    Forced result = Stands old.transdb (file_of 0 before) → LogForces image result old.transdb new before after

    -- the entry is there
    pub seals-done : (number : ℕ) → Forced (Ok number) → Settled (Ok number) → SealsLog entry image (Ok number) old.transdb new before after
    seals-done number forces settles = record {
      forces = λ stands. forced-done old.transdb new refl placed before after number (forces stands);
      settles = λ xs so. settled-done new before after placed xs number (settles xs so);
      advanced = on-done new before after placed all number (settles all since);
      still = λ no. cc;
      placed = placed;
    }

    pub sealed-done : (number : ℕ) (window : Windowed) (halted : Option ℕ) → IsForceAnswer (length image) old.transdb (Ok number) → window ≡ push old.window entry → halted ≡ None
        → IsSealed entry (Ok number) old (record { transdb = new; window = window; halted = halted })
    sealed-done number window halted answer pushed none = (answer.1 ∙ sym ready.next, pushed, none)

    pub aligned-done : (number : ℕ) (window : Windowed) (halted : Option ℕ) → Settled (Ok number) → last_number window ≡ entry.number → IsAligned (record { transdb = new; window = window; halted = halted })
    aligned-done number window halted settles last =
        let on = on-done new before after placed all number (settles all since) in
        record { ends = λ _. omega (arith, last, ready.next, on.next); usable = λ _. on.usable }

    -- it isn't: the count rose before the record's gate was written
    pub seals-faulted : Forced (Err t.FaultBefore) → Settled (Err t.FaultBefore) → SealsLog entry image (Err e.FaultBefore) old.transdb new before after
    seals-faulted forces settles = record {
      forces = λ stands. forced-faulted old.transdb new refl placed before after (forces stands);
      settles = λ xs so. settled-faulted new before after placed xs (settles xs so);
      advanced = tt;
      still = λ is. still-faulted new before after placed all (settles all since);
      placed = placed;
    }

    pub aligned-faulted : (halted : Option ℕ) → Settled (Err t.FaultBefore) → IsAligned (record { transdb = new; window = old.window; halted = halted })
    aligned-faulted halted settles =
        let still = still-faulted new before after placed all (settles all since) in
        record { ends = λ _. omega (arith, ready.number, ready.next, still.next); usable = λ _. still.usable }

    -- it isn't known: the count rose from the gate's write on
    pub seals-doubted : (number : ℕ) → Forced (Err (t.InDoubt number)) → Settled (Err (t.InDoubt number)) → SealsLog entry image (Err (e.InDoubt number)) old.transdb new before after
    seals-doubted number forces settles = record {
      forces = λ stands. forced-doubted old.transdb new refl placed before after number (forces stands);
      settles = λ xs so. settled-doubted new before after placed xs number (settles xs so);
      advanced = tt;
      still = λ no. cc;
      placed = placed;
    }

-- A book judges as the book of the definitions that it stands for.
use Rattle.std.proofs.Common.{◌≡◌, ℕ, ◌+◌, ◌≤◌, Bool, true, false, nat_lt, nat_le, cond, List, [], ◌∷◌, length, refl, sym, ap, ◌∙◌, Option, Some, None, option_map, Ok, Err, All, if◌then◌else◌}
use Rattle.odb_model.specs.declared.entry.Entry.{Entry}
use Rattle.odb_model.specs.declared.write.Write.{Write}
use Rattle.odb_model.specs.State.{replay}
use Rattle.odb_model.specs.Transaction.{Executed, write_set_of, net, reads_of, first_conflict}
use Rattle.odb_model.specs.Intentions.{intended}
use Rattle.odb_model.specs.Width.{record_width}
use Rattle.odb_model.specs.Window.{window_start, oldest_number}
use Rattle.odb_machine.specs.Sides.{Sides, room_left}
use Rattle.odb_transdb.specs.Standing.{room_of as room_in}
use Rattle.odb_validate.specs.Validation.{by_age, validated}
use Rattle.odb_validate.proofs.Windows.{IsWindow-last, IsWindow-judges}
use Rattle.odb_txn.specs.Transaction.{Kept, StandsFor as TxnStandsFor}
use Rattle.odb_txn.proofs.Alike.{conflict_alike}
use Rattle.odb_txn.proofs.Stands.{stands_net}
use Rattle.odb_commit.specs.declared.error.CommitError.TheVariants as e
use Rattle.odb_machine.specs.Book.{Book, Verdict, by_net as net_verdict, by_conflict, unless_aged as age_verdict, by_doubt, verdict, next_entry, room_of, most_entries}
use Rattle.odb_commit.specs.Parts.{Parts, count, Preparation, Refuses, Ends, ToSeal, entry_after, sealing_of, by_writes, by_validation, by_halt, prepared}
use Rattle.odb_commit.specs.Standing.{StandsFor, sealing_in, preparation_of}
use Rattle.odb_commit.proofs.Records.{room_agrees}

-- how an entry is prepared, by the count of the history and the room
abbrev by_numbers : ℕ → ℕ → Entry → Preparation
by_numbers n room entry =
    if nat_le most_entries n then Refuses e.HistoryFull
    else if nat_lt room (record_width entry) then Refuses (e.Full (record_width entry) room)
    else ToSeal entry

module _ (since : ℕ) (kept : Parts) (b : Book) (stands : StandsFor since kept b) where
  counts : count kept ≡ length b.history
  counts = IsWindow-last since b.history kept.window stands.window

  module _ (settled : b.in_doubt ≡ None) where
    rooms : room_in kept.transdb ≡ room_of b
    rooms = room_agrees kept.transdb b.history (stands.log settled) ∙ ap (λ (s : Sides). room_left s b.history) (sym stands.sides)

    entries : (s : ℕ) (writes : List Write) → entry_after kept s writes ≡ next_entry b s writes
    entries s writes = λ i. record { number = counts i + 1; by = s; writes = writes }

    pub sealing_same : (s : ℕ) (writes : List Write) → sealing_of kept (entry_after kept s writes) ≡ sealing_in b s writes
    sealing_same s writes =
        ap (λ n. by_numbers n (room_in kept.transdb) (entry_after kept s writes)) counts
        ∙ ap (λ r. by_numbers (length b.history) r (entry_after kept s writes)) rooms
        ∙ ap (by_numbers (length b.history) (room_of b)) (entries s writes)

    net_same : (s : ℕ) (writes : List Write) → by_writes kept s writes ≡ preparation_of b s (net_verdict (length b.history) writes)
    net_same s [] = ap Ends counts
    net_same s (w ∷ ws) = sealing_same s (w ∷ ws)

    -- by the first conflict, where the net writes are those of the definitions if there is none
    conflict_same : (s : ℕ) (later : Option ℕ) (own ws : List Write) → (later ≡ None → own ≡ ws)
        → by_validation kept s own (Ok later) ≡ preparation_of b s (by_conflict later (length b.history) ws)
    conflict_same s (Some j) own ws same = refl
    conflict_same s None own ws same = ap (by_writes kept s) (same refl) ∙ net_same s ws

    age_same : (s : ℕ) (oldest : Option ℕ) (start : ℕ) (later : Option ℕ) (own ws : List Write) → (later ≡ None → own ≡ ws)
        → by_validation kept s own (by_age oldest start later) ≡ preparation_of b s (age_verdict oldest start (by_conflict later (length b.history) ws))
    age_same s None start later own ws same = conflict_same s later own ws same
    age_same s (Some o) start later own ws same =
        elim (nat_lt o start) as (λ (t : Bool). by_validation kept s own (cond t (Err (record { oldest = o; start = start })) (Ok later))
        ≡ preparation_of b s (cond t (Verdict.Aged o start) (by_conflict later (length b.history) ws))) [
          | true ↦ refl
          | false ↦ conflict_same s later own ws same
        ]

  module _ (txn : Kept) (t : List Executed) (format : ℕ) (is : TxnStandsFor txn b.history t format) (above : All (λ r. since ≤ r.number) txn.reads) where
    judged_same : b.in_doubt ≡ None
        → by_validation kept txn.session (intended txn.own) (validated kept.window.start kept.window.entries txn.reads)
        ≡ preparation_of b txn.session
        (age_verdict (oldest_number (reads_of b.history t format)) (window_start b.history)
        (by_conflict (first_conflict (reads_of b.history t format) b.history) (length b.history) (net (replay b.history) (write_set_of b.history t format))))
    judged_same settled =
        let rs = reads_of b.history t format in
        let later : first_conflict txn.reads b.history ≡ first_conflict rs b.history = conflict_alike txn.reads rs b.history is.reads in
        ap (by_validation kept txn.session (intended txn.own)) (IsWindow-judges since b.history kept.window txn.reads stands.numbered stands.window above)
        ∙ ap (λ q. by_validation kept txn.session (intended txn.own) (by_age q (window_start b.history) (first_conflict txn.reads b.history))) is.reads.oldest
        ∙ ap (λ c. by_validation kept txn.session (intended txn.own) (by_age (oldest_number rs) (window_start b.history) c)) later
        ∙ age_same settled txn.session (oldest_number rs) (window_start b.history) (first_conflict rs b.history) (intended txn.own) (net (replay b.history) (write_set_of b.history t format))
        (stands_net txn b.history t format stands.numbered is)

    pub prepared_same : prepared kept txn ≡ preparation_of b txn.session (verdict b t format)
    prepared_same = by b.in_doubt refl
      where
        rest : Verdict
        rest =
            age_verdict (oldest_number (reads_of b.history t format)) (window_start b.history)
            (by_conflict (first_conflict (reads_of b.history t format) b.history) (length b.history) (net (replay b.history) (write_set_of b.history t format)))

        other : Preparation
        other = by_validation kept txn.session (intended txn.own) (validated kept.window.start kept.window.entries txn.reads)

        halt : (d : Option Entry) → b.in_doubt ≡ d → by_halt kept.halted other ≡ by_halt (option_map (λ x. x.number) d) other
        halt d settled = ap (λ (h : Option ℕ). by_halt h other) (stands.halted ∙ ap (λ (o : Option Entry). option_map (λ x. x.number) o) settled)

        by : (d : Option Entry) → b.in_doubt ≡ d → prepared kept txn ≡ preparation_of b txn.session (by_doubt d rest)
        by (Some x) settled = halt (Some x) settled
        by None settled = halt None settled ∙ judged_same settled

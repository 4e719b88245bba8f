-- What is kept stands for the transaction whose statements were added.
use Rattle.std.proofs.Common.{◌≡◌, ℕ, ◌≤◌, Bool, cond, List, [], ◌∷◌, ◌++◌, map, take, length, is_some, refl, sym, ap, subst, ◌∙◌, append-nil, append_assoc, None}
use Rattle.std.specs.List.{All}
use Rattle.std.specs.FinMap.{get, entries}
use Rattle.std.proofs.lemmas.List.{take-append-le}
use Rattle.std.proofs.lemmas.List.Elements.{All-tail}
use Rattle.odb_model.specs.declared.write.Write.{Write}
use Rattle.odb_model.specs.declared.entry.Entry.{Entry}
use Rattle.odb_model.specs.declared.outcome.Outcome.{Outcome}
use Rattle.odb_model.specs.declared.outcome.Read.{Read}
use Rattle.odb_model.specs.declared.table_key.TableKey.{TableKey}
use Rattle.odb_model.specs.State.{State, IsHistory, after_writes, replay}
use Rattle.odb_model.specs.Meaning.{Meaning, different, most_writes}
use Rattle.odb_model.specs.Reads.{reads}
use Rattle.odb_model.specs.Transaction.{Executed, table_keys, meaning_over, open_state, open_meaning, write_set_with, write_set_from, write_set_of, last_writes, net, read_at, reads_from, reads_of, conflict}
use Rattle.odb_model.specs.Intentions.{writes_to, was_there_from, intention_of, intentions_of, intended}
use Rattle.odb_model.specs.Serial.{HasOpenReplies}
use Rattle.odb_model.specs.Storable.{IsNarrow, AreStorable}
use Rattle.odb_model.proofs.Longer.{write_set_from-more, reads_from-more}
use Rattle.odb_model.proofs.Intended.{intended_net}
use Rattle.odb_rowsource.specs.Intentions.{put_all}
use Rattle.odb_rowsource.proofs.Kept.{intentions-begin, intentions-grow, intentions-count}
use Rattle.odb_txn.specs.ReadSet.{JudgeAlike, keep_all}
use Rattle.odb_txn.specs.Transaction.{Kept, nothing_kept, writes_found_rows, own_with, kept_with, CanBeKept, IsNextOutcome, StandsFor}
use Rattle.odb_txn.proofs.Alike.{JudgeAlike-itself, JudgeAlike-more}
use Rattle.odb_txn.proofs.Told.{all_told}

pub stands_begin : (session : ℕ) (h : List Entry) (format : ℕ) → StandsFor (nothing_kept session) h [] format
stands_begin session h format = record { reads = JudgeAlike-itself []; own = sym (intentions-begin h format) }

module _ (h : List Entry) (a : Executed) (format : ℕ) where
  abbrev made : List Write → List Write
  made write_set = (open_meaning a.statement a.snapshot write_set h format).writes

  abbrev read_now : List Write → List Read
  read_now write_set = read_at a.snapshot (reads a.statement (open_state a.snapshot write_set h))

  write_set_from-append : (t : List Executed) (write_set : List Write)
      → write_set_from h write_set (t ++ a ∷ []) format ≡ write_set_from h write_set t format ++ made (write_set_from h write_set t format)
  write_set_from-append [] write_set = refl
  write_set_from-append (b ∷ t) write_set = write_set_from-append t (write_set_with h write_set b format)

  reads_from-append : (t : List Executed) (write_set : List Write)
      → reads_from h write_set (t ++ a ∷ []) format ≡ reads_from h write_set t format ++ read_now (write_set_from h write_set t format)
  reads_from-append [] write_set = append-nil (read_now write_set)
  reads_from-append (b ∷ t) write_set =
      let here : List Read = read_at b.snapshot (reads b.statement (open_state b.snapshot write_set h)) in
      let next : List Write = write_set_with h write_set b format in
      ap (λ rs. here ++ rs) (reads_from-append t next)
      ∙ sym (append_assoc here (reads_from h next t format) (read_now (write_set_from h next t format)))

module _ (kept : Kept) (h : List Entry) (t : List Executed) (a : Executed) (format : ℕ) (outcome : Outcome)
    (stands : StandsFor kept h t format) (next : IsNextOutcome h t a format outcome) where
  abbrev ws : List Write
  ws = write_set_of h t format

  -- the intentions with the statement's writes are the transaction's with the statement
  own_grow : own_with kept a.statement outcome ≡ intentions_of h (t ++ a ∷ []) format
  own_grow =
      let found : TableKey → Bool = λ _. writes_found_rows a.statement in
      ap (λ is. put_all is outcome.writes found) stands.own
      ∙ ap (λ vs. put_all (intentions_of h t format) vs found) next.writes
      ∙ sym (intentions-grow h t a format found
      (λ at e. all_told (open_state a.snapshot ws h) (table_keys ws) format at a.statement e))

  pub stands_grow : StandsFor (kept_with kept a.statement outcome a.snapshot) h (t ++ a ∷ []) format
  stands_grow = record {
    reads = subst (λ (all : List Read). JudgeAlike (keep_all kept.reads (read_at a.snapshot outcome.reads)) all)
        (ap (λ ranges. reads_of h t format ++ read_at a.snapshot ranges) next.reads ∙ sym (reads_from-append h a format t []))
        (JudgeAlike-more kept.reads (reads_of h t format) (read_at a.snapshot outcome.reads) stands.reads);
    own = own_grow;
  }

  All-behind : (P : Write → Type 0) (xs ys : List Write) → All P (xs ++ ys) → All P ys
  All-behind P [] ys all = all
  All-behind P (x ∷ xs) ys all = All-behind P xs ys (All-tail P x (xs ++ ys) all)

  pub fits : AreStorable (write_set_of h (t ++ a ∷ []) format) → CanBeKept kept a.statement outcome
  fits storable = record {
    narrow = subst (All IsNarrow) (sym next.writes)
        (All-behind IsNarrow ws (made h a format ws) (subst (All IsNarrow) (write_set_from-append h a format t []) storable.narrow));
    few =
        let count : length (own_with kept a.statement outcome) ≡ different (table_keys (write_set_of h (t ++ a ∷ []) format)) =
        ap length own_grow ∙ intentions-count h (t ++ a ∷ []) format in
        subst (λ (n : ℕ). n ≤ most_writes) (sym count) storable.few;
  }

-- a longer history tells the same of the rows that were there
was_there_from-more : (h g : List Entry) (write_set : List Write) (t : List Executed) (format : ℕ) (at : TableKey) → HasOpenReplies h write_set t format
    → was_there_from (h ++ g) write_set t format at ≡ was_there_from h write_set t format at
was_there_from-more h g write_set [] format at f = refl
was_there_from-more h g write_set (a ∷ t) format at f =
    let front : take a.snapshot (h ++ g) ≡ take a.snapshot h = take-append-le a.snapshot h g f.0 in
    let next : List Write = write_set_with h write_set a format in
    ap (λ (e : List Entry).
    let s : State = replay e in
    let meant : Meaning = meaning_over a.statement s write_set format in
    cond (writes_to at meant.writes) (is_some (get (after_writes s write_set) at)) (was_there_from (h ++ g) (write_set ++ meant.writes) t format at)) front
    ∙ ap (cond (writes_to at (open_meaning a.statement a.snapshot write_set h format).writes) (is_some (get (open_state a.snapshot write_set h) at)))
    (was_there_from-more h g next t format at f.2)

intentions-more : (h g : List Entry) (t : List Executed) (format : ℕ) → HasOpenReplies h [] t format → intentions_of (h ++ g) t format ≡ intentions_of h t format
intentions-more h g t format f =
    let told : was_there_from (h ++ g) [] t format ≡ was_there_from h [] t format = λ i at. was_there_from-more h g [] t format at f i in
    ap (λ ws. map (intention_of (h ++ g) t format) (entries (last_writes ws))) (write_set_from-more h g [] t format f)
    ∙ ap (λ (there : TableKey → Bool). map (λ (e : TableKey × Write). record { table_key = e.0; bank = e.1.bank; row = e.1.row; was_there = there e.0 }) (entries (last_writes (write_set_of h t format)))) told

pub stands_last : (kept : Kept) (h more : List Entry) (t : List Executed) (format : ℕ) → HasOpenReplies h [] t format → StandsFor kept h t format → StandsFor kept (h ++ more) t format
stands_last kept h more t format f stands = record {
  reads = subst (λ (all : List Read). JudgeAlike kept.reads all) (sym (reads_from-more h more [] t format f)) stands.reads;
  own = stands.own ∙ sym (intentions-more h more t format f);
}

pub stands_net : (kept : Kept) (h : List Entry) (t : List Executed) (format : ℕ) → IsHistory h → StandsFor kept h t format → conflict h t format ≡ None
    → intended kept.own ≡ net (replay h) (write_set_of h t format)
stands_net kept h t format numbered stands none = ap intended stands.own ∙ intended_net h t format numbered none

-- What a longer history keeps of a transaction's replies, reads and writes.
use Rattle.std.proofs.Common.{◌≡◌, ℕ, ◌+◌, ◌≤◌, false, List, [], ◌∷◌, ◌++◌, length, refl, sym, ap, subst, ◌∙◌, Some, arith, length-append}
use Rattle.std.specs.Prelude.{slice_get}
use Rattle.std.proofs.lemmas.List.{take-append-le}
use Rattle.odb_model.specs.declared.write.Write.{Write}
use Rattle.odb_model.specs.declared.entry.Entry.{Entry}
use Rattle.odb_model.specs.declared.reply.Reply.{Reply}
use Rattle.odb_model.specs.declared.statement.Statement.{Statement}
use Rattle.odb_model.specs.declared.table_key.TableKey.{TableKey}
use Rattle.odb_model.specs.declared.outcome.Read.{Read}
use Rattle.odb_model.specs.Reads.{reads}
use Rattle.odb_model.specs.State.{State, after_writes, replay, IsNumberedFrom}
use Rattle.odb_model.specs.Meaning.{Meaning, meaning}
use Rattle.odb_model.specs.Transaction.{Executed, meaning_over, open_state, open_meaning, open_reply, write_set_with, write_set_from, read_at, reads_from}
use Rattle.odb_model.specs.Session.{Session, Idle, Working}
use Rattle.odb_model.specs.Serial.{HasOpenReplies, SessionAnsweredFromSnapshots}
use Rattle.odb_model.proofs.Meant.{is_meant, are_meant}

pub not_meant : (r : Reply) (st : Statement) (s : State) (written : List TableKey) (format : ℕ) → is_meant r ≡ false → r ≡ (meaning st s written format).reply → ⊥
not_meant r st s written format other same = let meant = are_meant st s written format in cc

pub IsNumberedFrom-snoc : (n : ℕ) (h : List Entry) (e : Entry) → IsNumberedFrom n h → e.number ≡ n + length h → IsNumberedFrom n (h ++ e ∷ [])
IsNumberedFrom-snoc n [] e numbered next = (omega arith, tt)
IsNumberedFrom-snoc n (x ∷ h) e numbered next = (numbered.0, IsNumberedFrom-snoc (n + 1) h e numbered.1 (omega arith))

pub slice_get-snoc : (h : List Entry) (e : Entry) → slice_get (h ++ e ∷ []) (length h) ≡ Some e
slice_get-snoc [] e = refl
slice_get-snoc (x ∷ h) e = slice_get-snoc h e

-- a longer history has what the shorter one had
pub open_meaning-more : (st : Statement) (n : ℕ) (write_set : List Write) (h g : List Entry) (format : ℕ) → n ≤ length h → open_meaning st n write_set (h ++ g) format ≡ open_meaning st n write_set h format
open_meaning-more st n write_set h g format within = ap (λ front. meaning_over st (replay front) write_set format) (take-append-le n h g within)

pub write_set_with-more : (h g : List Entry) (write_set : List Write) (a : Executed) (format : ℕ) → a.snapshot ≤ length h → write_set_with (h ++ g) write_set a format ≡ write_set_with h write_set a format
write_set_with-more h g write_set a format within = ap (λ (meant : Meaning). write_set ++ meant.writes) (open_meaning-more a.statement a.snapshot write_set h g format within)

pub HasOpenReplies-more : (h g : List Entry) (write_set : List Write) (t : List Executed) (format : ℕ) → HasOpenReplies h write_set t format → HasOpenReplies (h ++ g) write_set t format
HasOpenReplies-more h g write_set [] format f = tt
HasOpenReplies-more h g write_set (a ∷ t) format f =
    let longer : a.snapshot ≤ length (h ++ g) = rw length-append (omega arith) in (
      longer,
      f.1 ∙ sym (ap (λ (meant : Meaning). meant.reply) (open_meaning-more a.statement a.snapshot write_set h g format f.0)),
      subst (λ (ws : List Write). HasOpenReplies (h ++ g) ws t format) (sym (write_set_with-more h g write_set a format f.0)) (HasOpenReplies-more h g (write_set_with h write_set a format) t format f.2),
    )

pub write_set_from-more : (h g : List Entry) (write_set : List Write) (t : List Executed) (format : ℕ) → HasOpenReplies h write_set t format → write_set_from (h ++ g) write_set t format ≡ write_set_from h write_set t format
write_set_from-more h g write_set [] format f = refl
write_set_from-more h g write_set (a ∷ t) format f =
    ap (λ ws. write_set_from (h ++ g) ws t format) (write_set_with-more h g write_set a format f.0) ∙ write_set_from-more h g (write_set_with h write_set a format) t format f.2

pub reads_from-more : (h g : List Entry) (write_set : List Write) (t : List Executed) (format : ℕ) → HasOpenReplies h write_set t format → reads_from (h ++ g) write_set t format ≡ reads_from h write_set t format
reads_from-more h g write_set [] format f = refl
reads_from-more h g write_set (a ∷ t) format f =
    let here : List Read = read_at a.snapshot (reads a.statement (open_state a.snapshot write_set h)) in
    ap (λ front. read_at a.snapshot (reads a.statement (after_writes (replay front) write_set)) ++ reads_from (h ++ g) (write_set_with (h ++ g) write_set a format) t format) (take-append-le a.snapshot h g f.0)
    ∙ ap (λ ws. here ++ reads_from (h ++ g) ws t format) (write_set_with-more h g write_set a format f.0)
    ∙ ap (λ rs. here ++ rs) (reads_from-more h g (write_set_with h write_set a format) t format f.2)

pub HasOpenReplies-snoc : (h : List Entry) (write_set : List Write) (t : List Executed) (a : Executed) (format : ℕ) → HasOpenReplies h write_set t format
    → a.snapshot ≤ length h → a.reply ≡ open_reply a.statement a.snapshot (write_set_from h write_set t format) h format → HasOpenReplies h write_set (t ++ a ∷ []) format
HasOpenReplies-snoc h write_set [] a format f within reply = (within, reply, tt)
HasOpenReplies-snoc h write_set (x ∷ t) a format f within reply =
    (f.0, f.1, HasOpenReplies-snoc h (write_set_with h write_set x format) t a format f.2 within reply)

pub session_more : (h g : List Entry) (o : Session) (format : ℕ) → SessionAnsweredFromSnapshots h o format → SessionAnsweredFromSnapshots (h ++ g) o format
session_more h g Idle format f = tt
session_more h g (Working t) format f = HasOpenReplies-more h g [] t format f

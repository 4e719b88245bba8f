-- A committed transaction answers as if it had run alone at its place in the history.
use Rattle.std.specs.Prelude.{◌≡◌, ◌≢◌, ℕ, ◌≤◌, List, [], ◌∷◌, length, take, slice_get, IsSomeAnd}
use Rattle.odb_model.specs.declared.write.Write.{Write}
use Rattle.odb_model.specs.declared.entry.Entry.{Entry}
use Rattle.odb_model.specs.State.{replay}
use Rattle.odb_model.specs.Transaction.{Executed, statements_of, replies_of, open_reply, write_set_with, SerialRun, alone}
use Rattle.odb_model.specs.Session.{Session, Idle, Working}

-- what the transaction's statements do, run alone after the first p entries
abbrev pub alone_at : List Executed → ℕ → List Entry → ℕ → SerialRun
alone_at t p h format = alone (statements_of t) (replay (take p h)) format

-- run alone after the first p entries the transaction gets its replies, and where it leaves writes,
-- they are the next entry's
pub record IsSerial (t : List Executed) (p : ℕ) (h : List Entry) (format : ℕ) : Type 0 where
  pub replies : (alone_at t p h format).replies ≡ replies_of t
  pub entry : (alone_at t p h format).net ≢ []
      → IsSomeAnd (slice_get h p) (λ e. e.writes ≡ (alone_at t p h format).net)

-- each reply is the one that the statement gets at its snapshot of the history, with the
-- transaction's writes laid over it, these at first
abbrev pub HasOpenReplies : List Entry → List Write → List Executed → ℕ → Type 0
HasOpenReplies h write_set [] format = Unit {0}
HasOpenReplies h write_set (a ∷ t) format =
    (a.snapshot ≤ length h)
    × (a.reply ≡ open_reply a.statement a.snapshot write_set h format)
    × HasOpenReplies h (write_set_with h write_set a format) t format

abbrev pub SessionAnsweredFromSnapshots : List Entry → Session → ℕ → Type 0
SessionAnsweredFromSnapshots h Idle format = Unit {0}
SessionAnsweredFromSnapshots h (Working t) format = HasOpenReplies h [] t format

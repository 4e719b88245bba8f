-- A transaction without a conflict answers as if it had run alone at the end of the history.
use Rattle.std.proofs.Common.{◌≡◌, ℕ, ◌+◌, ◌<◌, ◌≤◌, Bool, true, false, ◌&&◌, ◌||◌, cond, List, [], ◌∷◌, ◌++◌, map, take, drop, refl, sym, ap, subst, ◌∙◌, Option, Some, None, arith, lt-ltb, zero, suc}
use Rattle.std.specs.Prelude.{nat_lt, option_map}
use Rattle.std.specs.List.{find, list_any}
use Rattle.odb_values.specs.declared.range.Range.{Range}
use Rattle.odb_model.specs.declared.write.Write.{Write}
use Rattle.odb_model.specs.declared.entry.Entry.{Entry}
use Rattle.odb_model.specs.declared.outcome.Read.{Read}
use Rattle.odb_model.specs.declared.statement.Statement.{Statement}
use Rattle.odb_model.specs.State.{after_writes, replay, AgreeOn, writes_in, IsNumberedFrom, IsHistory}
use Rattle.odb_model.specs.Meaning.{Meaning}
use Rattle.odb_model.specs.Reads.{reads, IsLawful}
use Rattle.odb_model.specs.Transaction.{Executed, statements_of, replies_of, table_keys, meaning_over, open_state, open_meaning, write_set_with, write_set_from, alone_replies, alone_writes, read_at, reads_from, overwrites, first_conflict}
use Rattle.odb_model.specs.Serial.{HasOpenReplies}
use Rattle.odb_model.proofs.Replay.{any_writes_in, or_false, get-replay_take}
use Rattle.odb_model.proofs.Agree.{AgreeOn-cons, AgreeOn-after_writes, meaning-same}

none_or : {A : Type 0} (b : Bool) (x : A) (rest : Option A) → cond b (Some x) rest ≡ None → (b ≡ false) × (rest ≡ None)
none_or true x rest e = cc
none_or false x rest e = (refl, e)

pub false_or : (a b : Bool) → a ≡ false → b ≡ false → (a || b) ≡ false
false_or true b p q = cc
false_or false b p q = q

-- what finds nothing passes nothing
none_found : {A : Type 0} (p : A → Bool) (xs : List A) → find p xs ≡ None → list_any p xs ≡ false
none_found p [] e = refl
none_found p (x ∷ xs) e = let parts = none_or (p x) x (find p xs) e in false_or (p x) (list_any p xs) parts.0 (none_found p xs parts.1)

unmapped : (o : Option Entry) → option_map (λ e. e.number) o ≡ None → o ≡ None
unmapped None e = refl
unmapped (Some x) e = cc

pub no_conflict : (rs : List Read) (h : List Entry) → first_conflict rs h ≡ None → list_any (overwrites rs) h ≡ false
no_conflict rs h e = none_found (overwrites rs) h (unmapped (find (overwrites rs) h) e)

any_or : {A : Type 0} (p q : A → Bool) (xs : List A) → list_any (λ x. p x || q x) xs ≡ false → (list_any p xs ≡ false) × (list_any q xs ≡ false)
any_or p q [] e = (refl, refl)
any_or p q (x ∷ xs) e =
    let outer = or_false (p x || q x) (list_any (λ y. p y || q y) xs) e in
    let inner = or_false (p x) (q x) outer.0 in
    let more = any_or p q xs outer.1 in
    (false_or (p x) (list_any p xs) inner.0 more.0, false_or (q x) (list_any q xs) inner.1 more.1)

any_false_or : {A : Type 0} (p q : A → Bool) (xs : List A) → list_any p xs ≡ false → list_any q xs ≡ false → list_any (λ x. p x || q x) xs ≡ false
any_false_or p q [] e f = refl
any_false_or p q (x ∷ xs) e f =
    let here = or_false (p x) (list_any p xs) e in
    let there = or_false (q x) (list_any q xs) f in
    false_or (p x || q x) (list_any (λ y. p y || q y) xs) (false_or (p x) (q x) here.0 there.0) (any_false_or p q xs here.1 there.1)

never : (h : List Entry) → list_any (overwrites []) h ≡ false
never [] = refl
never (e ∷ h) = never h

-- whether an entry is later than a read and writes its range
abbrev overwrites_one : Read → Entry → Bool
overwrites_one r e = nat_lt r.number e.number && writes_in r.range e.writes

pub split_reads : (xs ys : List Read) (h : List Entry) → list_any (overwrites (xs ++ ys)) h ≡ false → (list_any (overwrites xs) h ≡ false) × (list_any (overwrites ys) h ≡ false)
split_reads [] ys h e = (never h, e)
split_reads (x ∷ xs) ys h e =
    let parts = any_or (overwrites_one x) (overwrites (xs ++ ys)) h e in
    let more = split_reads xs ys h parts.1 in
    (any_false_or (overwrites_one x) (overwrites xs) h parts.0 more.0, more.1)

and_later : (b w : Bool) → b ≡ true → (b && w) ≡ false → w ≡ false
and_later true w t e = e
and_later false w t e = cc

-- no entry of a history that begins after n writes the range
all_later : (range : Range) (n k : ℕ) (h : List Entry) → n ≤ k → IsNumberedFrom (k + 1) h → list_any (overwrites_one (record { range = range; number = n })) h ≡ false → any_writes_in range h ≡ false
all_later range n k [] below numbered e = refl
all_later range n k (x ∷ h) below numbered e =
    let parts = or_false (overwrites_one (record { range = range; number = n }) x) (list_any (overwrites_one (record { range = range; number = n })) h) e in
    let later : n < x.number = rw numbered.0 (omega arith) in
    let next : n ≤ k + 1 = omega arith in
    false_or (writes_in range x.writes) (any_writes_in range h) (and_later (nat_lt n x.number) (writes_in range x.writes) (lt-ltb n x.number later) parts.0)
    (all_later range n (k + 1) h next numbered.1 parts.1)

-- no entry after the n-th writes the range
later_none : (range : Range) (n m k : ℕ) (h : List Entry) → n ≡ k + m → IsNumberedFrom (k + 1) h → list_any (overwrites_one (record { range = range; number = n })) h ≡ false → any_writes_in range (drop m h) ≡ false
later_none range n zero k h e numbered none = all_later range n k h (omega arith) numbered none
later_none range n (suc m) k [] e numbered none = refl
later_none range n (suc m) k (x ∷ h) e numbered none =
    let parts = or_false (overwrites_one (record { range = range; number = n }) x) (list_any (overwrites_one (record { range = range; number = n })) h) none in
    let next : n ≡ k + 1 + m = omega arith in
    later_none range n m (k + 1) h next numbered.1 parts.1

-- where nothing overwrites these ranges, the state then and the state now agree on them
pub agree_then : (ranges : List Range) (n : ℕ) (h : List Entry) → IsHistory h
    → list_any (overwrites (map (λ range. record { range = range; number = n }) ranges)) h ≡ false → AgreeOn ranges (replay (take n h)) (replay h)
agree_then [] n h numbered none = λ q inside. cc
agree_then (range ∷ ranges) n h numbered none =
    let parts = any_or (overwrites_one (record { range = range; number = n })) (overwrites (map (λ r. record { range = r; number = n }) ranges)) h none in
    AgreeOn-cons range ranges (replay (take n h)) (replay h)
    (get-replay_take range h n (later_none range n n 0 h (omega arith) numbered parts.0))
    (agree_then ranges n h numbered parts.1)

-- the statement means now what it meant then
meaning_then : (st : Statement) (n : ℕ) (write_set : List Write) (h : List Entry) (format : ℕ) → IsHistory h
    → IsLawful (open_state n write_set h) → IsLawful (after_writes (replay h) write_set)
    → list_any (overwrites (read_at n (reads st (open_state n write_set h)))) h ≡ false
    → open_meaning st n write_set h format ≡ meaning_over st (replay h) write_set format
meaning_then st n write_set h format numbered then now none =
    let ranges : List Range = reads st (open_state n write_set h) in
    meaning-same st (open_state n write_set h) (after_writes (replay h) write_set) (table_keys write_set) format then now
    (AgreeOn-after_writes ranges (replay (take n h)) (replay h) write_set (agree_then ranges n h numbered none))

-- the states on which a transaction's statements run, at their snapshots and at the history's end, are lawful
pub RunsLawfully : List Entry → List Write → List Executed → ℕ → Type 0
RunsLawfully h write_set [] format = Unit {0}
RunsLawfully h write_set (a ∷ t) format =
    IsLawful (open_state a.snapshot write_set h) × IsLawful (after_writes (replay h) write_set)
    × RunsLawfully h (write_set_with h write_set a format) t format

-- as all states are
pub runs_lawfully : (h : List Entry) (write_set : List Write) (t : List Executed) (format : ℕ) → RunsLawfully h write_set t format
unfolding RunsLawfully
runs_lawfully h write_set [] format = tt
runs_lawfully h write_set (a ∷ t) format = (tt, tt, runs_lawfully h (write_set_with h write_set a format) t format)

-- what a transaction does alone at the end of a history that doesn't conflict with it
pub record DoesAlone (h : List Entry) (write_set : List Write) (t : List Executed) (format : ℕ) : Type 0 where
  pub replies : alone_replies (replay h) write_set (statements_of t) format ≡ replies_of t
  pub writes : alone_writes (replay h) write_set (statements_of t) format ≡ write_set_from h write_set t format

pub does_alone : (h : List Entry) (write_set : List Write) (t : List Executed) (format : ℕ) → IsHistory h → RunsLawfully h write_set t format → HasOpenReplies h write_set t format
    → list_any (overwrites (reads_from h write_set t format)) h ≡ false → DoesAlone h write_set t format
unfolding RunsLawfully
does_alone h write_set [] format numbered lawful open_replies none = record { replies = refl; writes = refl }
does_alone h write_set (a ∷ t) format numbered lawful open_replies none =
    let parts = split_reads (read_at a.snapshot (reads a.statement (open_state a.snapshot write_set h))) (reads_from h (write_set_with h write_set a format) t format) h none in
    let then : Meaning = open_meaning a.statement a.snapshot write_set h format in
    let same : then ≡ meaning_over a.statement (replay h) write_set format = meaning_then a.statement a.snapshot write_set h format numbered lawful.0 lawful.1 parts.0 in
    let more : DoesAlone h (write_set ++ then.writes) t format = does_alone h (write_set ++ then.writes) t format numbered lawful.2 open_replies.2 parts.1 in
    record {
      replies = subst (λ (meant : Meaning). (meant.reply ∷ alone_replies (replay h) (write_set ++ meant.writes) (statements_of t) format) ≡ (a.reply ∷ replies_of t)) same
          (ap (λ r. r ∷ alone_replies (replay h) (write_set ++ then.writes) (statements_of t) format) (sym open_replies.1) ∙ ap (λ rs. a.reply ∷ rs) more.replies);
      writes = subst (λ (meant : Meaning). alone_writes (replay h) (write_set ++ meant.writes) (statements_of t) format ≡ write_set_from h write_set (a ∷ t) format) same more.writes;
    }

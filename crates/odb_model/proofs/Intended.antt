-- What a transaction without a conflict intends is what its writes leave.
use Rattle.std.proofs.Common.{◌≡◌, ℕ, Bool, true, false, ◌&&◌, ◌||◌, cond, T, List, [], ◌∷◌, ◌++◌, map, take, is_some, refl, sym, ap, ◌∙◌, Option, Some, None}
use Rattle.std.specs.List.{AllByRecursion, filter, list_any}
use Rattle.std.specs.declared.cmp.Ordering.TheVariants.{Less, Equal, Greater}
use Rattle.std.specs.Ordering.{is_eq, eq_by_cmp, ordering_reverse}
use Rattle.std.specs.Cmp.{tied_itself}
use Rattle.std.specs.FinMap.{FinMap, empty, get, insert, find, entries, entries_sorted, get-empty, get-insert, get-entries}
use Rattle.std.specs.FinMap.Entries.{is_sorted, below_all}
use Rattle.std.proofs.lemmas.List.Elements.{recursion_from_All}
use Rattle.odb_values.specs.declared.value.Value.{Value}
use Rattle.odb_values.specs.declared.range.Range.{Range}
use Rattle.odb_model.specs.declared.write.Write.{Write}
use Rattle.odb_model.specs.declared.entry.Entry.{Entry}
use Rattle.odb_model.specs.declared.statement.Statement.{Statement}
use Rattle.odb_model.specs.declared.table_key.TableKey.{TableKey}
use Rattle.odb_model.specs.State.{State, table_key_cmp, table_key_of, changed, after_writes, replay, IsHistory, is_in_any}
use Rattle.odb_model.specs.Meaning.{meaning}
use Rattle.odb_model.specs.Reads.{reads}
use Rattle.odb_model.specs.Transaction.{Executed, table_keys, open_state, open_meaning, write_set_from, write_set_of, last_from, last_writes, is_there, net, read_at, reads_from, reads_of, overwrites, conflict}
use Rattle.odb_model.specs.declared.intention.Intention.{Intention}
use Rattle.odb_model.specs.Intentions.{writes_to, was_there_from, intention_of, intentions_of, intended_write, leaves_write, intended}
use Rattle.odb_model.proofs.Replay.{table_key_cmp_total, table_key_cmp_exact, or_false, get-changed_at}
use Rattle.odb_model.proofs.Parts.{entries-retain_keys}
use Rattle.odb_model.proofs.Written.{all_read}
use Rattle.odb_model.proofs.Own.{false_or, no_conflict, split_reads, agree_then}
use Rattle.odb_model.proofs.Keys.{all_above, All-last_writes}

-- table keys that tie are one
tied : (q at : TableKey) → eq_by_cmp table_key_cmp q at ≡ true → q ≡ at
tied q at e =
    elim (table_key_cmp q at) as (λ o. table_key_cmp q at ≡ o → is_eq o ≡ true → q ≡ at) [
      | Less ↦ λ p f. cc
      | Equal ↦ λ p f. table_key_cmp_exact q at p
      | Greater ↦ λ p f. cc
    ] refl e

-- what no write is to is as before
get-unwritten : (s : State) (ws : List Write) (at : TableKey) → writes_to at ws ≡ false → get (after_writes s ws) at ≡ get s at
get-unwritten s [] at none = refl
get-unwritten s (w ∷ ws) at none =
    let parts = or_false (eq_by_cmp table_key_cmp at (table_key_of w)) (writes_to at ws) none in
    get-unwritten (changed s (table_key_of w) w.row) ws at parts.1
    ∙ get-changed_at s (table_key_of w) w.row at ∙ ap (λ b. cond b w.row (get s at)) parts.0

last_unwritten : (ws : List Write) (m : FinMap table_key_cmp Write) (at : TableKey) → writes_to at ws ≡ false → get (last_from m ws) at ≡ get m at
last_unwritten [] m at none = refl
last_unwritten (w ∷ ws) m at none =
    let parts = or_false (eq_by_cmp table_key_cmp at (table_key_of w)) (writes_to at ws) none in
    last_unwritten ws (insert m (table_key_of w) w) at parts.1
    ∙ get-insert table_key_cmp_total m (table_key_of w) w at ∙ ap (λ b. cond b (Some w) (get m at)) parts.0

unwritten_both : (at : TableKey) (ws vs : List Write) → writes_to at ws ≡ false → writes_to at vs ≡ false → writes_to at (ws ++ vs) ≡ false
unwritten_both at [] vs e f = f
unwritten_both at (w ∷ ws) vs e f =
    let parts = or_false (eq_by_cmp table_key_cmp at (table_key_of w)) (writes_to at ws) e in
    false_or (eq_by_cmp table_key_cmp at (table_key_of w)) (writes_to at (ws ++ vs)) parts.0 (unwritten_both at ws vs parts.1 f)

nothing_there : (w : Write) → Some w ≡ None → ⊥
nothing_there w e = cc

-- the last write to a table key is one of the writes
is_written : (ws : List Write) (at : TableKey) (w : Write) → get (last_writes ws) at ≡ Some w → writes_to at ws ≡ true
is_written ws at w found =
    elim (writes_to at ws) as (λ b. writes_to at ws ≡ b → b ≡ true) [
      | true ↦ λ e. refl
      | false ↦ λ e. absurd (nothing_there w (sym found ∙ last_unwritten ws empty at e ∙ get-empty table_key_cmp at))
    ] refl

-- a write, if there is one, laid over a row
abbrev laid_over : Option Write → Option (List Value) → Option (List Value)
laid_over None row = row
laid_over (Some w) row = w.row

laid_over-cond : (b : Bool) (w : Write) (o : Option Write) (row : Option (List Value)) → cond b w.row (laid_over o row) ≡ laid_over (cond b (Some w) o) row
laid_over-cond true w o row = refl
laid_over-cond false w o row = refl

after_last_from : (s t : State) (m : FinMap table_key_cmp Write) (ws : List Write) (q : TableKey) → get t q ≡ laid_over (get m q) (get s q) → get (after_writes t ws) q ≡ laid_over (get (last_from m ws) q) (get s q)
after_last_from s t m [] q same = same
after_last_from s t m (w ∷ ws) q same =
    after_last_from s (changed t (table_key_of w) w.row) (insert m (table_key_of w) w) ws q
    (get-changed_at t (table_key_of w) w.row q ∙ ap (cond (eq_by_cmp table_key_cmp q (table_key_of w)) w.row) same
    ∙ laid_over-cond (eq_by_cmp table_key_cmp q (table_key_of w)) w (get m q) (get s q)
    ∙ ap (λ o. laid_over o (get s q)) (sym (get-insert table_key_cmp_total m (table_key_of w) w q)))

-- after writes a table key has the row of its last write
pub after_last : (s : State) (ws : List Write) (q : TableKey) (w : Write) → get (last_writes ws) q ≡ Some w → get (after_writes s ws) q ≡ w.row
after_last s ws q w e = after_last_from s s empty ws q (sym (ap (λ o. laid_over o (get s q)) (get-empty table_key_cmp q))) ∙ ap (λ o. laid_over o (get s q)) e

-- a statement reads each key that it writes
writes_read : (st : Statement) (s : State) (written : List TableKey) (format : ℕ) (at : TableKey) → writes_to at (meaning st s written format).writes ≡ true → is_in_any (reads st s) at ≡ true
writes_read st s written format at e = all_read s written format at st e

-- where nothing conflicts, a row was there before the first write just where it is there at the history's end
was_there_now : (h : List Entry) (write_set : List Write) (t : List Executed) (format : ℕ) (at : TableKey) → IsHistory h → list_any (overwrites (reads_from h write_set t format)) h ≡ false
    → writes_to at write_set ≡ false → writes_to at (write_set_from h write_set t format) ≡ true → was_there_from h write_set t format at ≡ is_some (get (replay h) at)
was_there_now h write_set [] format at numbered none before some = cc
was_there_now h write_set (a ∷ t) format at numbered none before some =
    let ranges : List Range = reads a.statement (open_state a.snapshot write_set h) in
    let made : List Write = (open_meaning a.statement a.snapshot write_set h format).writes in
    let parts = split_reads (read_at a.snapshot ranges) (reads_from h (write_set ++ made) t format) h none in
    elim (writes_to at made) as (λ b. writes_to at made ≡ b → cond b (is_some (get (open_state a.snapshot write_set h) at)) (was_there_from h (write_set ++ made) t format at) ≡ is_some (get (replay h) at)) [
      | true ↦ λ e. ap is_some (get-unwritten (replay (take a.snapshot h)) write_set at before
          ∙ agree_then ranges a.snapshot h numbered parts.0 at (writes_read a.statement (open_state a.snapshot write_set h) (table_keys write_set) format at e))
      | false ↦ λ e. was_there_now h (write_set ++ made) t format at numbered parts.1 (unwritten_both at write_set made before e) some
    ] refl

-- an entry of a list in order is found by its key
abbrev IsFoundIn : List (TableKey × Write) → TableKey × Write → Type 0
IsFoundIn es e = find table_key_cmp e.0 es ≡ Some e.1

found_behind : (e : TableKey × Write) (es fs : List (TableKey × Write)) → AllByRecursion (λ k. table_key_cmp e.0 k ≡ Less) (map (λ f. f.0) fs)
    → AllByRecursion (IsFoundIn es) fs → AllByRecursion (IsFoundIn (e ∷ es)) fs
found_behind e es [] above all = tt
found_behind e es (f ∷ fs) above all =
    let later : table_key_cmp f.0 e.0 ≡ Greater = table_key_cmp_total.antisymm f.0 e.0 ∙ ap ordering_reverse above.0 in
    (ap (λ o. cond (is_eq o) (Some e.1) (find table_key_cmp f.0 es)) later ∙ all.0, found_behind e es fs above.1 all.1)

both_T : (a b : Bool) → T (a && b) → T a × T b
both_T true b h = (tt, h)
both_T false b h = absurd h

found_all : (es : List (TableKey × Write)) → T (is_sorted table_key_cmp es) → AllByRecursion (IsFoundIn es) es
found_all [] h = tt
found_all (e ∷ es) h =
    let parts = both_T (below_all table_key_cmp e.0 es) (is_sorted table_key_cmp es) h in (
      ap (λ o. cond (is_eq o) (Some e.1) (find table_key_cmp e.0 es)) (tied_itself table_key_cmp_total e.0),
      found_behind e es es (all_above e.0 es parts.0) (found_all es parts.1),
    )

module _ (h : List Entry) (t : List Executed) (format : ℕ) (numbered : IsHistory h) (quiet : list_any (overwrites (reads_of h t format)) h ≡ false) where
  abbrev made : List Write
  made = write_set_of h t format

  -- the intention leaves a write just where one is net, and the same
  abbrev IsNet : TableKey × Write → Type 0
  IsNet e = (leaves_write (intention_of h t format e) ≡ is_there (replay h) made e.0) × (intended_write (intention_of h t format e) ≡ e.1)

  is_net : (e : TableKey × Write) → get (last_writes made) e.0 ≡ Some e.1 → table_key_of e.1 ≡ e.0 → IsNet e
  is_net e found keyed = (
    ap (λ b. b || is_some e.1.row) (was_there_now h [] t format e.0 numbered quiet refl (is_written made e.0 e.1 found))
        ∙ ap (λ o. is_some (get (replay h) e.0) || is_some o) (sym (after_last (replay h) made e.0 e.1 found)),
    λ i. record { bank = e.1.bank; table = (sym keyed i).table; key = (sym keyed i).key; row = e.1.row },
  )

  all_net : (es : List (TableKey × Write)) → AllByRecursion (λ e. get (last_writes made) e.0 ≡ Some e.1) es → AllByRecursion (λ e. (table_key_of e.1 ≡ e.0) × Unit {0}) es → AllByRecursion IsNet es
  all_net [] found keyed = tt
  all_net (e ∷ es) found keyed = (is_net e found.0 keyed.0.0, all_net es found.1 keyed.1)

  net_same : (es : List (TableKey × Write)) → AllByRecursion IsNet es → intended (map (intention_of h t format) es) ≡ map (λ e. e.1) (filter (λ e. is_there (replay h) made e.0) es)
  net_same [] all = refl
  net_same (e ∷ es) all =
      let rest = net_same es all.1 in
      let later : List Intention = filter leaves_write (map (intention_of h t format) es) in
      ap (λ b. map intended_write (cond b (intention_of h t format e ∷ later) later)) all.0.0
      ∙ elim (is_there (replay h) made e.0) as (λ b. map intended_write (cond b (intention_of h t format e ∷ later) later)
      ≡ map (λ x. x.1) (cond b (e ∷ filter (λ x. is_there (replay h) made x.0) es) (filter (λ x. is_there (replay h) made x.0) es))) [
        | true ↦ ap (λ w. w ∷ intended (map (intention_of h t format) es)) all.0.1 ∙ ap (λ ws. e.1 ∷ ws) rest
        | false ↦ rest
      ]

  found_in : (es fs : List (TableKey × Write)) → entries (last_writes made) ≡ es → AllByRecursion (IsFoundIn es) fs → AllByRecursion (λ e. get (last_writes made) e.0 ≡ Some e.1) fs
  found_in es [] same all = tt
  found_in es (f ∷ fs) same all = (get-entries (last_writes made) f.0 ∙ ap (find table_key_cmp f.0) same ∙ all.0, found_in es fs same all.1)

  all_intended : intended (intentions_of h t format) ≡ net (replay h) made
  all_intended =
      let es : List (TableKey × Write) = entries (last_writes made) in
      let found = found_in es es refl (found_all es (entries_sorted (last_writes made))) in
      let keyed = recursion_from_All (λ e. (table_key_of e.1 ≡ e.0) × Unit {0}) es (All-last_writes (λ w. Unit {0}) made (λ k d within. tt)) in
      net_same es (all_net es found keyed) ∙ sym (ap (map (λ e. e.1)) (entries-retain_keys (last_writes made) (is_there (replay h) made)))

pub intended_net : (h : List Entry) (t : List Executed) (format : ℕ) → IsHistory h → conflict h t format ≡ None → intended (intentions_of h t format) ≡ net (replay h) (write_set_of h t format)
intended_net h t format numbered none = all_intended h t format numbered (no_conflict (reads_of h t format) h none)

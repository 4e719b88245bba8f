-- A transaction's intentions are those that its writes give.
use Rattle.std.proofs.Common.{◌≡◌, ℕ, ◌+◌, ◌<◌, ◌≤◌, Bool, true, false, ◌&&◌, ◌||◌, cond, T, List, [], ◌∷◌, ◌++◌, map, take, length, get_or, is_some, refl, sym, ap, subst, ◌∙◌, arith, Option, Some, None}
use Rattle.std.specs.List.{All, AllByRecursion, filter, list_any}
use Rattle.std.specs.declared.cmp.Ordering.{Ordering}
use Rattle.std.specs.declared.cmp.Ordering.TheVariants.{Less, Equal, Greater}
use Rattle.std.specs.Ordering.{is_eq, eq_by_cmp, match_ordering}
use Rattle.std.specs.Cmp.{tied_itself}
use Rattle.std.specs.FinMap as finite
use Rattle.std.specs.FinMap.{FinMap, empty, get, insert, entries, entries_sorted, entries-insert, get-empty, get-insert, get-entries}
use Rattle.std.specs.FinMap.Entries.{is_sorted, below_all, by_order}
use Rattle.std.proofs.lemmas.List.{length-map}
use Rattle.std.proofs.lemmas.List.Elements.{All-nil, All-cons, recursion_from_All}
use Rattle.odb_values.specs.declared.value.Value.{Value}
use Rattle.odb_model.specs.declared.write.Write.{Write}
use Rattle.odb_model.specs.declared.entry.Entry.{Entry}
use Rattle.odb_model.specs.declared.table_key.TableKey.{TableKey}
use Rattle.odb_model.specs.declared.intention.Intention.{Intention}
use Rattle.odb_model.specs.State.{State, table_key_cmp, table_key_of, changed, after_writes, replay}
use Rattle.odb_model.specs.Meaning.{different}
use Rattle.odb_model.specs.Transaction.{Executed, table_keys, open_state, open_meaning, write_set_with, write_set_from, write_set_of, last_from, last_writes}
use Rattle.odb_model.specs.Intentions.{writes_to, was_there_from, intention_of, intentions_of, intended_write, leaves_write, intended}
use Rattle.odb_model.proofs.Replay.{table_key_cmp_total, table_key_cmp_exact, or_false}
use Rattle.odb_model.proofs.Keys.{entries-empty, length-last_writes, all_above, All-last_writes}
use Rattle.odb_rowsource.specs.Intentions.{laid_over, AreAscending, intention_of_write, put, put_all, Tells}
use Rattle.odb_rowsource.proofs.Intended.{AreAscending-none, AreAscending-put, laid_over-put}
use Rattle.odb_rowsource.proofs.Nexts.{found_none, tied_is}

abbrev Pairs : Type 0
Pairs = List (TableKey × Write)

below-none : (q : TableKey) (es : Pairs) → AllByRecursion (λ k. table_key_cmp q k ≡ Less) (map (λ e. e.0) es) → finite.find table_key_cmp q es ≡ None
below-none q [] all = refl
below-none q (e ∷ es) all = ap (λ o. cond (is_eq o) (Some e.1) (finite.find table_key_cmp q es)) all.0 ∙ below-none q es all.1

all-less : (a b : TableKey) (es : Pairs) → table_key_cmp a b ≡ Less → AllByRecursion (λ k. table_key_cmp b k ≡ Less) (map (λ e. e.0) es) → AllByRecursion (λ k. table_key_cmp a k ≡ Less) (map (λ e. e.0) es)
all-less a b [] less all = tt
all-less a b (e ∷ es) less all = (table_key_cmp_total.trans a b e.0 less all.0, all-less a b es less all.1)

both_T : (a b : Bool) → T (a && b) → T a × T b
both_T true b h = (tt, h)
both_T false b h = absurd h

-- an intention of a write at this table key
abbrev at_key : Write → Bool → TableKey → Intention
at_key w was_there q = record { table_key = q; bank = w.bank; row = w.row; was_there = was_there }

module _ (F : TableKey → Bool) where
  -- the intention of the last write to a table key, of which this is told
  abbrev pub by_key : TableKey × Write → Intention
  by_key e = at_key e.1 (F e.0) e.0

  put-by_key : (es : Pairs) (w : Write) (b : Bool) → T (is_sorted table_key_cmp es)
      → (finite.find table_key_cmp (table_key_of w) es ≡ None → b ≡ F (table_key_of w))
      → put (map by_key es) w b ≡ map by_key (finite.put table_key_cmp (table_key_of w) w es)
  put-by_key [] w b sorted told = ap (λ c. at_key w c (table_key_of w) ∷ []) (told refl)
  put-by_key (e ∷ es) w b sorted told =
      let k : TableKey = table_key_of w in
      let parts = both_T (below_all table_key_cmp e.0 es) (is_sorted table_key_cmp es) sorted in
      let later = put-by_key es w b parts.1 in
      elim (table_key_cmp k e.0) as (λ o. table_key_cmp k e.0 ≡ o
      → match_ordering o (at_key w b k ∷ by_key e ∷ map by_key es) (at_key w (F e.0) k ∷ map by_key es) (by_key e ∷ put (map by_key es) w b)
      ≡ map by_key (by_order o ((k, w) ∷ e ∷ es) ((e.0, w) ∷ es) (e ∷ finite.put table_key_cmp k w es))) [
        | Less ↦ λ c. ap (λ x. at_key w x k ∷ by_key e ∷ map by_key es)
            (told (ap (λ o. cond (is_eq o) (Some e.1) (finite.find table_key_cmp k es)) c ∙ below-none k es (all-less k e.0 es c (all_above e.0 es parts.0))))
        | Equal ↦ λ c. ap (λ q. at_key w (F e.0) q ∷ map by_key es) (table_key_cmp_exact k e.0 c)
        | Greater ↦ λ c. ap (λ is. by_key e ∷ is) (later (λ none. told (ap (λ o. cond (is_eq o) (Some e.1) (finite.find table_key_cmp k es)) c ∙ none)))
      ] refl

  first_or : (a b : Bool) → a ≡ true → (a || b) ≡ true
  first_or true b e = refl
  first_or false b e = cc

  second_or : (a b : Bool) → b ≡ true → (a || b) ≡ true
  second_or true b e = refl
  second_or false b e = e

  to_itself : (w : Write) → eq_by_cmp table_key_cmp (table_key_of w) (table_key_of w) ≡ true
  to_itself w = ap is_eq (tied_itself table_key_cmp_total (table_key_of w))

  put_all-by_key : (vs : List Write) (m : FinMap table_key_cmp Write) (there : TableKey → Bool)
      → ((at : TableKey) → writes_to at vs ≡ true → get m at ≡ None → there at ≡ F at)
      → put_all (map by_key (entries m)) vs there ≡ map by_key (entries (last_from m vs))
  put_all-by_key [] m there told = refl
  put_all-by_key (w ∷ vs) m there told =
      let k : TableKey = table_key_of w in
      ap (λ is. put_all is vs there)
      (put-by_key (entries m) w (there k) (entries_sorted m)
      (λ none. told k (first_or (eq_by_cmp table_key_cmp k k) (writes_to k vs) (to_itself w)) (get-entries m k ∙ none))
      ∙ ap (map by_key) (sym (entries-insert table_key_cmp_total m k w)))
      ∙ put_all-by_key vs (insert m k w) there (λ at e none.
      told at (second_or (eq_by_cmp table_key_cmp at k) (writes_to at vs) e)
      (found_none (eq_by_cmp table_key_cmp at k) w (get m at) (sym (get-insert table_key_cmp_total m k w at) ∙ none)).1)

last_from-append : (ws vs : List Write) (m : FinMap table_key_cmp Write) → last_from m (ws ++ vs) ≡ last_from (last_from m ws) vs
last_from-append [] vs m = refl
last_from-append (w ∷ ws) vs m = last_from-append ws vs (insert m (table_key_of w) w)

-- what is put one after another lies over a state as the writes do
laid_over-put_all : (s : State) (vs : List Write) (intentions : List Intention) (there : TableKey → Bool) → AreAscending intentions
    → laid_over s (put_all intentions vs there) ≡ after_writes (laid_over s intentions) vs
laid_over-put_all s [] intentions there h = refl
laid_over-put_all s (w ∷ vs) intentions there h =
    let k : TableKey = table_key_of w in
    laid_over-put_all s vs (put intentions w (there k)) there (AreAscending-put intentions w (there k) h)
    ∙ ap (λ t. after_writes t vs) (laid_over-put s intentions w (there k) h)

AreAscending-put_all : (vs : List Write) (intentions : List Intention) (there : TableKey → Bool) → AreAscending intentions → AreAscending (put_all intentions vs there)
AreAscending-put_all [] intentions there h = h
AreAscending-put_all (w ∷ vs) intentions there h =
    AreAscending-put_all vs (put intentions w (there (table_key_of w))) there (AreAscending-put intentions w (there (table_key_of w)) h)

-- a transaction's intentions are its writes put one after another
pub intentions-put : (h : List Entry) (t : List Executed) (format : ℕ) → intentions_of h t format ≡ put_all [] (write_set_of h t format) (was_there_from h [] t format)
intentions-put h t format =
    let F : TableKey → Bool = was_there_from h [] t format in
    sym (put_all-by_key F (write_set_of h t format) empty F (λ at e none. refl))
    ∙ ap (λ es. put_all (map (by_key F) es) (write_set_of h t format) F) (entries-empty Write)

pub intentions-begin : (h : List Entry) (format : ℕ) → intentions_of h [] format ≡ []
intentions-begin h format = ap (map (intention_of h [] format)) (entries-empty Write)

pub intentions-state : (h : List Entry) (t : List Executed) (format snapshot : ℕ)
    → laid_over (replay (take snapshot h)) (intentions_of h t format) ≡ open_state snapshot (write_set_of h t format) h
intentions-state h t format snapshot =
    ap (laid_over (replay (take snapshot h))) (intentions-put h t format)
    ∙ laid_over-put_all (replay (take snapshot h)) (write_set_of h t format) [] (was_there_from h [] t format) AreAscending-none

pub intentions-ascend : (h : List Entry) (t : List Executed) (format : ℕ) → AreAscending (intentions_of h t format)
intentions-ascend h t format =
    subst AreAscending (sym (intentions-put h t format)) (AreAscending-put_all (write_set_of h t format) [] (was_there_from h [] t format) AreAscending-none)

pub intentions-count : (h : List Entry) (t : List Executed) (format : ℕ) → length (intentions_of h t format) ≡ different (table_keys (write_set_of h t format))
intentions-count h t format =
    length-map (entries (last_writes (write_set_of h t format))) (intention_of h t format) ∙ length-last_writes (write_set_of h t format)

writes_to-parts : (at : TableKey) (ws vs : List Write) → writes_to at (ws ++ vs) ≡ false → (writes_to at ws ≡ false) × (writes_to at vs ≡ false)
writes_to-parts at [] vs e = (refl, e)
writes_to-parts at (w ∷ ws) vs e =
    let parts = or_false (eq_by_cmp table_key_cmp at (table_key_of w)) (writes_to at (ws ++ vs)) e in
    let more = writes_to-parts at ws vs parts.1 in
    (neither (eq_by_cmp table_key_cmp at (table_key_of w)) (writes_to at ws) parts.0 more.0, more.1)
  where
    neither : (a b : Bool) → a ≡ false → b ≡ false → (a || b) ≡ false
    neither true b e f = cc
    neither false b e f = f

unwritten_both : (at : TableKey) (ws vs : List Write) → writes_to at ws ≡ false → writes_to at vs ≡ false → writes_to at (ws ++ vs) ≡ false
unwritten_both at [] vs e f = f
unwritten_both at (w ∷ ws) vs e f =
    let parts = or_false (eq_by_cmp table_key_cmp at (table_key_of w)) (writes_to at ws) e in
    let more = unwritten_both at ws vs parts.1 f in
    neither (eq_by_cmp table_key_cmp at (table_key_of w)) (writes_to at (ws ++ vs)) parts.0 more
  where
    neither : (a b : Bool) → a ≡ false → b ≡ false → (a || b) ≡ false
    neither true b e f = cc
    neither false b e f = f

module _ (h : List Entry) (a : Executed) (format : ℕ) (at : TableKey) where
  abbrev made : List Write → Executed → List Write
  made write_set b = (open_meaning b.statement b.snapshot write_set h format).writes

  write_set_from-append : (t : List Executed) (write_set : List Write) → write_set_from h write_set (t ++ a ∷ []) format ≡ write_set_from h write_set t format ++ made (write_set_from h write_set t format) a
  write_set_from-append [] write_set = refl
  write_set_from-append (b ∷ t) write_set = write_set_from-append t (write_set_with h write_set b format)

  -- what no write of all is to, none of the first is to
  unwritten_first : (t : List Executed) (write_set : List Write) → writes_to at (write_set_from h write_set t format) ≡ false → writes_to at write_set ≡ false
  unwritten_first [] write_set e = e
  unwritten_first (b ∷ t) write_set e = (writes_to-parts at write_set (made write_set b) (unwritten_first t (write_set ++ made write_set b) e)).0

  -- of what was written before, a statement more tells nothing new
  told_before : (t : List Executed) (write_set : List Write) → writes_to at write_set ≡ false → writes_to at (write_set_from h write_set t format) ≡ true
      → was_there_from h write_set (t ++ a ∷ []) format at ≡ was_there_from h write_set t format at
  told_before [] write_set none some = let no : false ≡ true = sym none ∙ some in cc
  told_before (b ∷ t) write_set none some =
      let later = told_before t (write_set ++ made write_set b) in
      elim (writes_to at (made write_set b)) as (λ c. writes_to at (made write_set b) ≡ c
      → cond c (is_some (get (open_state b.snapshot write_set h) at)) (was_there_from h (write_set ++ made write_set b) (t ++ a ∷ []) format at)
      ≡ cond c (is_some (get (open_state b.snapshot write_set h) at)) (was_there_from h (write_set ++ made write_set b) t format at)) [
        | true ↦ λ e. refl
        | false ↦ λ e. later (unwritten_both at write_set (made write_set b) none e) some
      ] refl

  -- of what it writes first, it tells whether a row is there on the state on which it runs
  told_now : (t : List Executed) (write_set : List Write) → writes_to at (write_set_from h write_set t format) ≡ false
      → writes_to at (made (write_set_from h write_set t format) a) ≡ true
      → was_there_from h write_set (t ++ a ∷ []) format at ≡ is_some (get (open_state a.snapshot (write_set_from h write_set t format) h) at)
  told_now [] write_set none some =
      ap (λ c. cond c (is_some (get (open_state a.snapshot write_set h) at)) false) some
  told_now (b ∷ t) write_set none some =
      let later = told_now t (write_set ++ made write_set b) none some in
      let first = (writes_to-parts at write_set (made write_set b) (unwritten_first t (write_set ++ made write_set b) none)).1 in
      ap (λ c. cond c (is_some (get (open_state b.snapshot write_set h) at)) (was_there_from h (write_set ++ made write_set b) (t ++ a ∷ []) format at)) first
      ∙ later

some_or : (a b : Bool) → b ≡ true → (a || b) ≡ true
some_or true b e = refl
some_or false b e = e

is_first : (a b : Bool) → a ≡ true → (a || b) ≡ true
is_first true b e = refl
is_first false b e = cc

-- each write is to its own table key
all_written : (ws : List Write) → All (λ w. writes_to (table_key_of w) ws ≡ true) ws
all_written [] = All-nil (λ w. writes_to (table_key_of w) [] ≡ true)
all_written (w ∷ ws) =
    let later : All (λ v. writes_to (table_key_of v) ws ≡ true) ws = all_written ws in
    All-cons (λ v. writes_to (table_key_of v) (w ∷ ws) ≡ true) w ws
    (is_first (eq_by_cmp table_key_cmp (table_key_of w) (table_key_of w)) (writes_to (table_key_of w) ws) (ap is_eq (tied_itself table_key_cmp_total (table_key_of w))))
    (λ k d within.
    let v : Write = get_or ws k d in
    some_or (eq_by_cmp table_key_cmp (table_key_of v) (table_key_of w)) (writes_to (table_key_of v) ws) (later k d within))

unwritten-none : (ws : List Write) (m : FinMap table_key_cmp Write) (at : TableKey) → get (last_from m ws) at ≡ None → (get m at ≡ None) × (writes_to at ws ≡ false)
unwritten-none [] m at e = (e, refl)
unwritten-none (w ∷ ws) m at e =
    let more = unwritten-none ws (insert m (table_key_of w) w) at e in
    let parts = found_none (eq_by_cmp table_key_cmp at (table_key_of w)) w (get m at) (sym (get-insert table_key_cmp_total m (table_key_of w) w at) ∙ more.0) in
    (parts.1, neither (eq_by_cmp table_key_cmp at (table_key_of w)) (writes_to at ws) parts.0 more.1)
  where
    neither : (a b : Bool) → a ≡ false → b ≡ false → (a || b) ≡ false
    neither true b e f = cc
    neither false b e f = f

-- what is told of these table keys is the same
told_same : (F G : TableKey → Bool) (es : Pairs) → AllByRecursion (λ e. F e.0 ≡ G e.0) es → map (by_key F) es ≡ map (by_key G) es
told_same F G [] all = refl
told_same F G (e ∷ es) all = ap (λ b. at_key e.1 b e.0 ∷ map (by_key F) es) all.0 ∙ ap (λ is. by_key G e ∷ is) (told_same F G es all.1)

pub intentions-grow : (h : List Entry) (t : List Executed) (a : Executed) (format : ℕ) (was_there : TableKey → Bool)
    → Tells was_there (open_meaning a.statement a.snapshot (write_set_of h t format) h format).writes (open_state a.snapshot (write_set_of h t format) h)
    → intentions_of h (t ++ a ∷ []) format
    ≡ put_all (intentions_of h t format) (open_meaning a.statement a.snapshot (write_set_of h t format) h format).writes was_there
intentions-grow h t a format was_there tells =
    let ws : List Write = write_set_of h t format in
    let vs : List Write = (open_meaning a.statement a.snapshot ws h format).writes in
    let F : TableKey → Bool = was_there_from h [] (t ++ a ∷ []) format in
    let G : TableKey → Bool = was_there_from h [] t format in
    let any : TableKey = record { table = 0; key = [] } in
    let same : AllByRecursion (λ e. F e.0 ≡ G e.0) (entries (last_writes ws)) =
    recursion_from_All (λ (e : TableKey × Write). F e.0 ≡ G e.0) (entries (last_writes ws)) (λ k d within.
    let e : TableKey × Write = get_or (entries (last_writes ws)) k d in
    let at_its_key = All-last_writes (λ w. writes_to (table_key_of w) ws ≡ true) ws (all_written ws) k d within in
    told_before h a format e.0 t [] refl (subst (λ (q : TableKey). writes_to q ws ≡ true) at_its_key.0 at_its_key.1)) in
    ap (λ ms. map (by_key F) (entries (last_writes ms))) (write_set_from-append h a format any t [])
    ∙ ap (λ m. map (by_key F) (entries m)) (last_from-append ws vs empty)
    ∙ sym (put_all-by_key F vs (last_writes ws) was_there (λ at e none.
    tells at e ∙ sym (told_now h a format at t [] (unwritten-none ws empty at none).1 e)))
    ∙ ap (λ is. put_all is vs was_there) (told_same F G (entries (last_writes ws)) same)

-- a write more is no intention fewer
length-put : (intentions : List Intention) (w : Write) (b : Bool) → length intentions ≤ length (put intentions w b)
length-put [] w b = omega arith
length-put (i ∷ intentions) w b =
    let later = length-put intentions w b in
    elim (table_key_cmp (table_key_of w) i.table_key) as (λ o. length (i ∷ intentions)
    ≤ length (match_ordering o (intention_of_write w b ∷ i ∷ intentions) (intention_of_write w i.was_there ∷ intentions) (i ∷ put intentions w b))) [
      | Less ↦ omega arith
      | Equal ↦ omega arith
      | Greater ↦ omega arith
    ]

-- nor more than one more
pub length-put-more : (intentions : List Intention) (w : Write) (b : Bool) → length (put intentions w b) ≤ length intentions + 1
length-put-more [] w b = omega arith
length-put-more (i ∷ intentions) w b =
    let later = length-put-more intentions w b in
    elim (table_key_cmp (table_key_of w) i.table_key) as (λ o.
    length (match_ordering o (intention_of_write w b ∷ i ∷ intentions) (intention_of_write w i.was_there ∷ intentions) (i ∷ put intentions w b))
    ≤ length (i ∷ intentions) + 1) [
      | Less ↦ omega arith
      | Equal ↦ omega arith
      | Greater ↦ omega arith
    ]

pub length-put_all : (ws : List Write) (intentions : List Intention) (there : TableKey → Bool) → length intentions ≤ length (put_all intentions ws there)
length-put_all [] intentions there = omega arith
length-put_all (w ∷ ws) intentions there =
    let k : TableKey = table_key_of w in
    let here = length-put intentions w (there k) in
    let later = length-put_all ws (put intentions w (there k)) there in omega arith

pub put_all-append : (ws vs : List Write) (intentions : List Intention) (there : TableKey → Bool) → put_all intentions (ws ++ vs) there ≡ put_all (put_all intentions ws there) vs there
put_all-append [] vs intentions there = refl
put_all-append (w ∷ ws) vs intentions there = put_all-append ws vs (put intentions w (there (table_key_of w))) there

pub intended-append : (xs ys : List Intention) → intended (xs ++ ys) ≡ intended xs ++ intended ys
intended-append [] ys = refl
intended-append (x ∷ xs) ys = one (leaves_write x) (intended-append xs ys) where
  one : (b : Bool) → intended (xs ++ ys) ≡ intended xs ++ intended ys
      → map intended_write (cond b (x ∷ filter leaves_write (xs ++ ys)) (filter leaves_write (xs ++ ys))) ≡ map intended_write (cond b (x ∷ filter leaves_write xs) (filter leaves_write xs)) ++ intended ys
  one true e = ap (λ ws. intended_write x ∷ ws) e
  one false e = e

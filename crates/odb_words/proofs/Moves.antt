-- Loads, splits and joins keep the rule.
use Rattle.std.proofs.Common.{◌≡◌, ℕ, ◌+◌, ◌<◌, ◌≢◌, List, [], ◌∷◌, ◌++◌, length, set, sym, refl, ap, ◌∙◌, subst, ⊎_elim, arith, Bool, true, false, cond}
use Rattle.std.specs.Prelude.{Option, None, Some, slice_index, slice_set}
use mathlib.Core.Option.{some}
use mathlib.Core.List.{IsPrefix}
use lib.ListN.{get_elem?}
use Rattle.atomic_table.specs.Table.{Me, Step, keeps, Allows, Splits, Joins}
use Rattle.atomic_table.proofs.Lists.{at_set}
use Rattle.odb_model.specs.declared.entry.Entry.{Entry}
use Rattle.odb_model.specs.State.{IsNumberedFrom}
use Rattle.odb_words.specs.declared.opening.Opening.{Opening}
use Rattle.odb_words.specs.declared.view.Kind.{Kind}
use Rattle.odb_words.specs.declared.view.SeatView.{SeatView}
use Rattle.odb_words.specs.Views.{by_session, has_rank, is_view, is_spent, is_for, ranks, pens, rights, has_all}
use Rattle.odb_words.specs.Rule.{Fits, IsOpened, IsRuled}
use Rattle.odb_words.specs.Moves.{spent, note_of, without_pen, note_with_pen, without_right, note_with_right, longer, either_right, mine_of, met, heard, settled, Looked}
use Rattle.odb_words.proofs.Lists.{prefix_nil, prefix_shorter, prefix_whole, prefix_length, by_session-between, longer_cases, shorter_cases}
use Rattle.odb_words.proofs.Changes.{all_set, all_snoc, total_split, total_join, total_same, first_set, first_snoc, kept, late_made, note_made, off}

-- a load of the count
pub looks : (key : Opening) (slots id : ℕ) (me : Me Entry SeatView) (st : Step Entry) → Allows (IsRuled key) slots id me 0 (λ n. n) (Looked st me)
looks key slots id me st s r homes at lt =
    let v : SeatView = me.0 in
    let f = r.fits id v at in
    let w : SeatView = settled v in
    let fw : Fits r.log r.made w = record { begins = f.begins; shown = prefix_nil r.log; whole = f.whole; writes = f.writes; equal = refl; own = f.own; counts = f.counts; alone = f.alone } in (
      w,
      keeps,
      tt,
      kept key s r (slice_set s.words 0 (slice_index s.words 0)) (set s.views id w) (ap (λ ws. slice_set ws 0 (slice_index ws 0)) r.count ∙ sym r.count)
          (all_set (Fits r.log r.made) s.views id w r.fits fw)
          (all_set (IsOpened key) s.views id w r.opened (r.opened id v at))
          (first_set s.views id v w at (λ e. e) r.first)
          (λ k. total_same (ranks k) s.views id v w at refl)
          (total_same pens s.views id v w at refl)
          (λ n. total_same (rights n) s.views id v w at refl),
      (
        refl,
        refl,
        (
          r.log,
          r.made,
          f,
          λ live. (
            ap (λ ws. slice_index ws 0) r.count ∙ ap (λ n. n + length r.log) (sym ((r.opened id v at live).0)),
            subst (λ (n : ℕ). IsNumberedFrom (n + 1) r.log) (sym ((r.opened id v at live).0)) r.numbered,
          ),
        ),
      ),
    )

-- a view is cut in two
cuts : (key : Opening) (id : ℕ) (v l n : SeatView) → ((log : List Entry) (made : ℕ) → Fits log made v → Fits log made l × Fits log made n) → (IsOpened key v → IsOpened key l × IsOpened key n)
    → (v.kind ≡ Kind.Book → l.kind ≡ Kind.Book)
    → ((k : ℕ) → ranks k l + ranks k n ≡ ranks k v) → pens l + pens n ≡ pens v → ((t : ℕ) → rights t l + rights t n ≡ rights t v) → Splits (IsRuled key) id v l n
cuts key id v l n f o h a b c s r at =
    let both = f r.log r.made (r.fits id v at) in
    let told = o (r.opened id v at) in
    kept key s r s.words (set s.views id l ++ n ∷ []) refl
    (all_snoc (Fits r.log r.made) (set s.views id l) n (all_set (Fits r.log r.made) s.views id l r.fits both.0) both.1)
    (all_snoc (IsOpened key) (set s.views id l) n (all_set (IsOpened key) s.views id l r.opened told.0) told.1)
    (first_snoc (set s.views id l) n (first_set s.views id v l at h r.first))
    (λ k. total_split (ranks k) s.views id v l n at (a k))
    (total_split pens s.views id v l n at b)
    (λ t. total_split (rights t) s.views id v l n at (c t))

fits_note : (log : List Entry) (made : ℕ) (v : SeatView) → Fits log made v → (v.kind ≡ Kind.Book → 1 < v.made) → Fits log made (note_of v)
fits_note log made v f late = record { begins = f.begins; shown = prefix_nil log; whole = λ e. off e; writes = λ e. off e; equal = refl; own = λ s e. absurd (cc e); counts = λ e. absurd (omega (arith, e)); alone = λ le. absurd (omega (arith, le, late_made log made v f late)) }

pub notes : (key : Opening) (id : ℕ) (v : SeatView) → is_spent v.kind ≡ false → (v.kind ≡ Kind.Book → 1 < v.made) → Splits (IsRuled key) id v v (note_of v)
notes key id v live late = cuts key id v v (note_of v) (λ log made f. (f, fits_note log made v f late)) (λ o. (o, λ _. o live)) (λ e. e) (λ k. omega arith) (omega arith) (λ t. omega arith)

pub lends_pen : (key : Opening) (id : ℕ) (v : SeatView) → is_spent v.kind ≡ false → (v.kind ≡ Kind.Book → 1 < v.made) → Splits (IsRuled key) id v (without_pen v) (note_with_pen v)
lends_pen key id v live late =
    cuts key id v (without_pen v) (note_with_pen v)
    (λ log made f. (
      record { begins = f.begins; shown = f.shown; whole = f.whole; writes = λ e. off e; equal = f.equal; own = f.own; counts = f.counts; alone = f.alone },
      record { begins = f.begins; shown = prefix_nil log; whole = λ e. off e; writes = f.writes; equal = refl; own = λ s e. absurd (cc e); counts = λ e. absurd (omega (arith, e)); alone = λ le. absurd (omega (arith, le, late_made log made v f late)) },
    ))
    (λ o. (o, λ _. o live)) (λ e. e) (λ k. omega arith) (omega arith) (λ t. omega arith)

pub lends_right : (key : Opening) (id : ℕ) (v : SeatView) → is_spent v.kind ≡ false → (v.kind ≡ Kind.Book → 1 < v.made) → Splits (IsRuled key) id v (without_right v) (note_with_right v)
lends_right key id v live late =
    cuts key id v (without_right v) (note_with_right v)
    (λ log made f. (
      record { begins = f.begins; shown = f.shown; whole = f.whole; writes = f.writes; equal = f.equal; own = λ s e. absurd (cc e); counts = f.counts; alone = f.alone },
      record { begins = f.begins; shown = prefix_nil log; whole = λ e. off e; writes = λ e. off e; equal = refl; own = f.own; counts = λ e. absurd (omega (arith, e)); alone = λ le. absurd (omega (arith, le, late_made log made v f late)) },
    ))
    (λ o. (o, λ _. o live)) (λ e. e) (λ k. omega arith) (omega arith) (λ t. omega arith)

fits_spent : (log : List Entry) (made : ℕ) → 1 < made → Fits log made spent
fits_spent log made some_seat = record { begins = prefix_nil log; shown = prefix_nil log; whole = λ e. off e; writes = λ e. off e; equal = refl; own = λ s e. absurd (cc e); counts = λ e. absurd (omega (arith, e)); alone = λ le. absurd (omega (arith, le, some_seat)) }

-- two views are made one
joins : (key : Opening) (id : ℕ) (v : SeatView) (other : ℕ) (w b : SeatView) → w.kind ≡ Kind.Note → ((log : List Entry) (made : ℕ) → Fits log made v → Fits log made w → Fits log made b) → (IsOpened key v → IsOpened key b)
    → (v.kind ≡ Kind.Book → b.kind ≡ Kind.Book)
    → ((k : ℕ) → ranks k b ≡ ranks k v + ranks k w) → pens b ≡ pens v + pens w → ((t : ℕ) → rights t b ≡ rights t v + rights t w) → Joins (IsRuled key) id v other w b spent
joins key id v other w b note f o h p q t s r at apart there =
    let vs : List SeatView = s.views in
    let was : get_elem? vs other ≡ some w = ⊎_elim (λ (x : (other ≡ id) × (b ≡ w)). absurd (apart x.0)) (λ (x : (other ≢ id) × (get_elem? vs other ≡ some w)). x.1) (at_set vs id other b w there) in
    let more : 1 < r.made = note_made r.log r.made w (r.fits other w was) note in
    kept key s r s.words (set (set vs id b) other spent) refl
    (all_set (Fits r.log r.made) (set vs id b) other spent (all_set (Fits r.log r.made) vs id b r.fits (f r.log r.made (r.fits id v at) (r.fits other w was))) (fits_spent r.log r.made more))
    (all_set (IsOpened key) (set vs id b) other spent (all_set (IsOpened key) vs id b r.opened (o (r.opened id v at))) (λ e. absurd (cc e)))
    (first_set (set vs id b) other w spent there (λ e. absurd (omega (arith, ap (has_rank 0) (sym note ∙ e)))) (first_set vs id v b at h r.first))
    (λ k. total_join (ranks k) vs id other v w b spent at there (p k) refl)
    (total_join pens vs id other v w b spent at there q refl)
    (λ n. total_join (rights n) vs id other v w b spent at there (t n) refl)

met_own : (log lv lw mv mw : List Entry) (rv rw : Option ℕ) → IsPrefix lv log → IsPrefix lw log
    → ((s : ℕ) → rv ≡ Some s → (by_session s lv ≡ mv) × (by_session s log ≡ mv)) → ((s : ℕ) → rw ≡ Some s → (by_session s lw ≡ mw) × (by_session s log ≡ mw))
    → (s : ℕ) → either_right rv rw ≡ Some s → (by_session s (longer lv lw) ≡ mine_of rv mv mw) × (by_session s log ≡ mine_of rv mv mw)
met_own log lv lw mv mw None rw p q fv fw s e =
    (longer_cases (λ x. by_session s x ≡ mw) lv lw (λ lt. by_session-between s lw lv log mw (prefix_shorter lw lv log q p (omega arith)) p (fw s e).0 (fw s e).1) (λ le. (fw s e).0), (fw s e).1)
met_own log lv lw mv mw (Some t) rw p q fv fw s e =
    (longer_cases (λ x. by_session s x ≡ mv) lv lw (λ lt. (fv s e).0) (λ le. by_session-between s lv lw log mv (prefix_shorter lv lw log p q le) q (fv s e).0 (fv s e).1), (fv s e).1)

met_writes : (log lv lw : List Entry) (bv bw : Bool) → IsPrefix lv log → IsPrefix lw log → (bv ≡ true → lv ≡ log) → (bw ≡ true → lw ≡ log) → cond bv true bw ≡ true → longer lv lw ≡ log
met_writes log lv lw true bw p q fv fw e =
    longer_cases (λ x. x ≡ log) lv lw (λ lt. fv refl) (λ le. prefix_whole lw log q (omega (arith, ap length (fv refl), le)))
met_writes log lv lw false bw p q fv fw e =
    longer_cases (λ x. x ≡ log) lv lw (λ lt. absurd (omega (arith, ap length (fw e), prefix_length lv log p))) (λ le. fw e)

note_ranks : (v w : SeatView) → w.kind ≡ Kind.Note → (k : ℕ) → ranks k v ≡ ranks k v + ranks k w
note_ranks v w is k = omega (arith, ap (has_rank k) is)

-- the Book, a Copy or a Pass takes a Note in
pub meets : (key : Opening) (id : ℕ) (v : SeatView) (other : ℕ) (w : SeatView) → is_spent v.kind ≡ false → is_view v.kind ≡ false → w.kind ≡ Kind.Note
    → pens (met v w) ≡ pens v + pens w → ((t : ℕ) → rights t (met v w) ≡ rights t v + rights t w) → Joins (IsRuled key) id v other w (met v w) spent
meets key id v other w live apart note one each =
    joins key id v other w (met v w) note
    (λ log made f g.
    record {
      begins = longer_cases (λ x. IsPrefix x log) v.list w.list (λ lt. f.begins) (λ le. g.begins);
      shown = shorter_cases (λ x. IsPrefix x log) v.list w.list g.begins f.begins;
      whole = λ e. off (sym apart ∙ e);
      writes = met_writes log v.list w.list v.pen w.pen f.begins g.begins f.writes g.writes;
      equal = f.equal;
      own = met_own log v.list w.list v.mine w.mine v.right w.right f.begins g.begins f.own g.own;
      counts = f.counts;
      alone = f.alone;
    })
    (λ o. o) (λ e. e) (note_ranks v w note) one each

heard_own : (log lv lw mv mw : List Entry) (rv rw : Option ℕ) → lv ≡ log
    → ((s : ℕ) → rv ≡ Some s → (by_session s lv ≡ mv) × (by_session s log ≡ mv)) → ((s : ℕ) → rw ≡ Some s → (by_session s lw ≡ mw) × (by_session s log ≡ mw))
    → (s : ℕ) → either_right rv rw ≡ Some s → (by_session s lv ≡ mine_of rv mv mw) × (by_session s log ≡ mine_of rv mv mw)
heard_own log lv lw mv mw None rw is fv fw s e = (ap (by_session s) is ∙ (fw s e).1, (fw s e).1)
heard_own log lv lw mv mw (Some t) rw is fv fw s e = fv s e

heard_equal : (log lv lw cv tv : List Entry) (bw : Bool) → lv ≡ log → (bw ≡ true → lw ≡ log) → cv ≡ tv → cond bw lw cv ≡ cond bw lv tv
heard_equal log lv lw cv tv true is fw e = fw refl ∙ sym is
heard_equal log lv lw cv tv false is fw e = e

-- who has the whole list has the View's
pub all_whole : (log : List Entry) (made : ℕ) (v : SeatView) → Fits log made v → has_all v ≡ true → v.list ≡ log
all_whole log made v f e = go (is_view v.kind) refl e
  where
    go : (b : Bool) → is_view v.kind ≡ b → cond b true v.pen ≡ true → v.list ≡ log
    go true i p = f.whole i
    go false i p = f.writes p

-- a seat with the whole list takes a Note in, and keeps its own list
pub hears : (key : Opening) (id : ℕ) (v : SeatView) (other : ℕ) (w : SeatView) → is_spent v.kind ≡ false → has_all v ≡ true → w.kind ≡ Kind.Note
    → pens (heard v w) ≡ pens v + pens w → ((t : ℕ) → rights t (heard v w) ≡ rights t v + rights t w) → Joins (IsRuled key) id v other w (heard v w) spent
hears key id v other w live all note one each =
    joins key id v other w (heard v w) note
    (λ log made f g.
    let is = all_whole log made v f all in
    record {
      begins = f.begins;
      shown = g.begins;
      whole = f.whole;
      writes = λ e. is;
      equal = heard_equal log v.list w.list v.came v.there w.pen is g.writes f.equal;
      own = heard_own log v.list w.list v.mine w.mine v.right w.right is f.own g.own;
      counts = f.counts;
      alone = f.alone;
    })
    (λ o. o) (λ e. e) (note_ranks v w note) one each

-- what a Note brings that has neither pen nor right
pub plain_pen : (a b : Bool) → b ≡ false → ◌≡◌ {A = ℕ} (cond (cond a true b) 1 0) (cond a 1 0 + cond b 1 0)
plain_pen true true e = off (sym e)
plain_pen true false e = refl
plain_pen false b e = omega arith

pub plain_right : (t : ℕ) (a b : Option ℕ) → b ≡ None → is_for t (either_right a b) ≡ is_for t a + is_for t b
plain_right t None b e = omega arith
plain_right t (Some s) None e = omega arith
plain_right t (Some s) (Some u) e = absurd (cc e)

-- who has the whole list still has it with what a Note brings
pub all_still : (a p q : Bool) → cond a true p ≡ true → cond a true (cond p true q) ≡ true
all_still true p q e = refl
all_still false true q e = refl
all_still false false q e = off e

-- An append keeps the rule.
use Rattle.std.proofs.Common.{◌≡◌, ℕ, ◌+◌, ◌-◌, ◌<◌, ◌≢◌, List, [], ◌∷◌, ◌++◌, length, sym, refl, ap, ◌∙◌, subst, arith, length-append, true, false, cond, eqb, eq-eqb, ne_eqb}
use Rattle.std.specs.Prelude.{Option, Some, slice_index, slice_set}
use mathlib.Core.Option.{some, some-injective}
use mathlib.Core.List.{IsPrefix}
use lib.ListN.{get_elem?}
use prog.Atomic.{either}
use Rattle.atomic_table.specs.Table.{Me, step, keeps, Allows}
use Rattle.odb_model.specs.declared.entry.Entry.{Entry}
use Rattle.odb_words.specs.declared.opening.Opening.{Opening}
use Rattle.odb_words.specs.declared.view.Kind.{Kind}
use Rattle.odb_words.specs.declared.view.SeatView.{SeatView}
use Rattle.odb_words.specs.Views.{by_session, has_rank, is_view, is_spent, is_for, ranks, pens, rights}
use Rattle.odb_words.specs.Rule.{Fits, IsOpened, IsRuled}
use Rattle.odb_words.specs.Moves.{appended, Appended}
use Rattle.odb_words.proofs.Lists.{term_le, terms_le, append_nil, prefix_self, prefix_more, by_session-append, numbered_snoc}
use Rattle.odb_words.proofs.Changes.{all_set, all_else, total_same, below_one, below_made, first_set, off}

pub view_rank : (r : Kind) → is_view r ≡ true → has_rank 1 r ≡ 1
view_rank Kind.Book e = off e
view_rank Kind.View e = refl
view_rank (Kind.Copy i) e = off e
view_rank (Kind.Pass s) e = off e
view_rank Kind.Note e = off e
view_rank Kind.Spent e = off e

live_view : (r : Kind) → is_view r ≡ true → is_spent r ≡ false
live_view Kind.Book e = off e
live_view Kind.View e = refl
live_view (Kind.Copy i) e = off e
live_view (Kind.Pass s) e = off e
live_view Kind.Note e = off e
live_view Kind.Spent e = off e

pub right_yes : (s : ℕ) (r : Option ℕ) → r ≡ Some s → is_for s r ≡ 1
right_yes s r e = ap (is_for s) e ∙ ap (λ b. cond b 1 0) (eq-eqb s s refl)

pub pen_yes : (v : SeatView) → v.pen ≡ true → pens v ≡ 1
pen_yes v e = ap (λ b. cond b 1 0) e

by_other : (s : ℕ) (log : List Entry) (e : Entry) (m : List Entry) → s ≢ e.by → by_session s log ≡ m → by_session s (log ++ e ∷ []) ≡ m
by_other s log e m n is =
    by_session-append s log (e ∷ []) ∙ ap (λ l. by_session s log ++ l) (ap (λ b. cond b (e ∷ []) []) (ne_eqb e.by s (λ h. n (sym h)))) ∙ append_nil (by_session s log) ∙ is

by_own : (s : ℕ) (log : List Entry) (e : Entry) (m : List Entry) → s ≡ e.by → by_session s log ≡ m → by_session s (log ++ e ∷ []) ≡ m ++ e ∷ []
by_own s log e m is was = by_session-append s log (e ∷ []) ∙ ap (λ l. by_session s log ++ l) (ap (λ b. cond b (e ∷ []) []) (eq-eqb e.by s (sym is))) ∙ ap (λ l. l ++ e ∷ []) was

-- the view, with the pen and the right, appends
pub appends : (key : Opening) (slots id : ℕ) (me : Me Entry SeatView) (old : ℕ) (e : Entry) → is_view me.0.kind ≡ true → me.0.pen ≡ true → me.0.right ≡ Some e.by → 0 < e.by → old ≡ me.0.number + length me.0.list → e.number ≡ old + 1
    → Allows (IsRuled key) slots id me 0 (λ n. either (eqb n old) (old + 1) n) (Appended (step slots 0 old (old + 1) (some e)) me)
appends key slots id me old e view pen right some_session counts numbers s r homes at lt =
    let v : SeatView = me.0 in
    let w : SeatView = appended e v in
    let vs : List SeatView = s.views in
    let log' : List Entry = r.log ++ e ∷ [] in
    let f = r.fits id v at in
    let is : v.list ≡ r.log = f.whole view in
    let found : slice_index s.words 0 ≡ old = ap (λ ws. slice_index ws 0) r.count ∙ ap (λ n. n + length r.log) (sym ((r.opened id v at (live_view v.kind view)).0)) ∙ ap (λ l. v.number + length l) (sym is) ∙ sym counts in
    let here : old ≡ key.number + length r.log = counts ∙ ap (λ l. v.number + length l) is ∙ ap (λ n. n + length r.log) ((r.opened id v at (live_view v.kind view)).0) in
    let new : either (eqb (slice_index s.words 0) old) (old + 1) (slice_index s.words 0) ≡ old + 1 = ap (λ b. either b (old + 1) (slice_index s.words 0)) (eq-eqb (slice_index s.words 0) old found) in
    let one_view : has_rank 1 v.kind ≡ 1 = view_rank v.kind view in
    let one_pen : pens v ≡ 1 = pen_yes v pen in
    let one_right : rights e.by v ≡ 1 = right_yes e.by v.right right in
    let more_view : 1 < r.made = below_made r.made 1 (omega (arith, term_le (ranks 1) vs id v at, r.once 1, one_view)) in
    let more_right : 18 + e.by < r.made = below_made r.made (18 + e.by) (omega (arith, term_le (rights e.by) vs id v at, r.right e.by some_session, one_right)) in
    let others : (j : ℕ) (u : SeatView) → j ≢ id → get_elem? vs j ≡ some u → Fits log' r.made u
    = λ j u apart there.
    let g = r.fits j u there in
    let no_view : has_rank 1 u.kind ≡ 0 = omega (arith, terms_le (ranks 1) vs id j v u apart at there, r.once 1, below_one r.made 1, one_view) in
    let no_pen : pens u ≡ 0 = omega (arith, terms_le pens vs id j v u apart at there, r.pen, one_pen) in
    let no_right : rights e.by u ≡ 0 = omega (arith, terms_le (rights e.by) vs id j v u apart at there, r.right e.by some_session, below_one r.made (18 + e.by), one_right) in
    record {
      begins = prefix_more u.list r.log e g.begins;
      shown = prefix_more u.seen r.log e g.shown;
      whole = λ h. absurd (omega (arith, view_rank u.kind h, no_view));
      writes = λ h. absurd (omega (arith, pen_yes u h, no_pen));
      equal = g.equal;
      own = λ t h. ((g.own t h).0, by_other t r.log e u.mine (λ same. absurd (omega (arith, right_yes e.by u.right (h ∙ ap Some same), no_right))) (g.own t h).1);
      counts = g.counts;
      alone = g.alone;
    } in
    let same_session : (t : ℕ) → v.right ≡ Some t → t ≡ e.by = λ t h. cc (sym h ∙ right) in
    let mine : Fits log' r.made w
    = record {
      begins = subst (λ l. IsPrefix (l ++ e ∷ []) log') (sym is) (prefix_self log');
      shown = prefix_more v.seen r.log e f.shown;
      whole = λ h. ap (λ l. l ++ e ∷ []) is;
      writes = λ h. ap (λ l. l ++ e ∷ []) is;
      equal = f.equal;
      own = λ t h. (by_own t v.list e v.mine (same_session t h) (f.own t h).0, by_own t r.log e v.mine (same_session t h) (f.own t h).1);
      counts = f.counts;
      alone = f.alone;
    } in (
      w,
      keeps,
      tt,
      record {
        log = log';
        made = r.made;
        count = ap (λ ws. slice_set ws 0 (either (eqb (slice_index s.words 0) old) (old + 1) (slice_index s.words 0))) r.count ∙ ap (λ n. n ∷ []) (new ∙ omega (arith, here, length-append r.log (e ∷ [])));
        numbered = numbered_snoc (key.number + 1) r.log e r.numbered (omega (arith, numbers, here));
        fits = all_else (Fits log' r.made) vs id w others mine;
        opened = all_set (IsOpened key) vs id w r.opened (r.opened id v at);
        first = first_set vs id v w at (λ e. e) r.first;
        once = λ k. total_same (ranks k) vs id v w at refl ∙ r.once k;
        pen = total_same pens vs id v w at refl ∙ r.pen;
        right = λ n p. total_same (rights n) vs id v w at refl ∙ r.right n p;
        fresh = λ n p le. by_other n r.log e [] (λ same. absurd (omega (arith, same, more_right, le))) (r.fresh n p le);
        begun = r.begun;
        unmade = λ le. absurd (omega (arith, le, more_view));
      },
      (found, refl, λ x said. ap (λ y. appended y v) (some-injective e x said)),
    )

pub appends_at : (key : Opening) (slots id : ℕ) (me : Me Entry SeatView) (n : ℕ) (e : Entry) → is_view me.0.kind ≡ true → me.0.pen ≡ true → me.0.right ≡ Some e.by → 0 < e.by → n ≡ me.0.number + length me.0.list + 1 → e.number ≡ n
    → Allows (IsRuled key) slots id me 0 (λ k. either (eqb k (n - 1)) n k) (Appended (step slots 0 (n - 1) n (some e)) me)
appends_at key slots id me n e view pen right some_session counts numbers =
    let back : n - 1 + 1 ≡ n = omega (arith, counts) in
    let here : n - 1 ≡ me.0.number + length me.0.list = omega (arith, counts) in
    subst (λ (x : ℕ). Allows (IsRuled key) slots id me 0 (λ k. either (eqb k (n - 1)) x k) (Appended (step slots 0 (n - 1) x (some e)) me)) back (appends key slots id me (n - 1) e view pen right some_session here (omega (arith, numbers, counts)))

-- The making of seats keeps the rule.
use Rattle.std.proofs.Common.{◌≡◌, ℕ, zero, suc, ◌+◌, ◌-◌, ◌<◌, ◌≢◌, List, [], ◌∷◌, set, sym, refl, ap, ◌∙◌, subst, arith, true, false, cond, eqb, eq-eqb, ne_eqb, lt-ltb, le-ltb}
use Rattle.std.specs.Prelude.{None, Some, nat_lt}
use mathlib.Core.Logic.{dite}
use mathlib.Core.Option.{some, some-injective, some-ne-none}
use native.Mathlib.Decide.{ℕ_discrete, dec_le}
use lib.ListN.{get_elem?}
use Rattle.atomic_table.specs.Table.{opening, Splits}
use Rattle.odb_words.specs.declared.opening.Opening.{Opening}
use Rattle.odb_words.specs.declared.view.Kind.{Kind}
use Rattle.odb_words.specs.declared.view.SeatView.{SeatView}
use Rattle.odb_words.specs.Views.{has_rank, kind_at, right_at, is_view, is_spent, is_for, ranks, pens, rights, below}
use Rattle.odb_words.specs.Rule.{Fits, IsOpened, IsRuled}
use Rattle.odb_words.specs.Moves.{first_view, counted, made_next}
use Rattle.odb_words.proofs.Lists.{terms_le, prefix_nil}
use Rattle.odb_words.proofs.Changes.{all_set, all_else, all_snoc, total_split, total_more, below_yes, below_no, below_one, first_set, first_snoc, off}
use Rattle.odb_words.proofs.Appends.{view_rank}

rank_at : (m k : ℕ) → 0 < m → has_rank k (kind_at m) ≡ cond (eqb m k) 1 0
rank_at m k some_seat = dite (dec_le 2 m)
    (λ two. dite (dec_le 19 m)
    (λ big. ap (λ b. has_rank k (cond b Kind.View (cond (nat_lt m 19) (Kind.Copy (m - 2)) (Kind.Pass (m - 18))))) (le-ltb m 2 two) ∙ ap (λ b. has_rank k (cond b (Kind.Copy (m - 2)) (Kind.Pass (m - 18)))) (le-ltb m 19 big) ∙ ap (λ (n : ℕ). cond (eqb n k) 1 0) (omega arith))
    (λ few. ap (λ b. has_rank k (cond b Kind.View (cond (nat_lt m 19) (Kind.Copy (m - 2)) (Kind.Pass (m - 18))))) (le-ltb m 2 two) ∙ ap (λ b. has_rank k (cond b (Kind.Copy (m - 2)) (Kind.Pass (m - 18)))) (lt-ltb m 19 (omega arith)) ∙ ap (λ (n : ℕ). cond (eqb n k) 1 0) (omega arith)))
    (λ one. ap (λ b. has_rank k (cond b Kind.View (cond (nat_lt m 19) (Kind.Copy (m - 2)) (Kind.Pass (m - 18))))) (lt-ltb m 2 (omega arith)) ∙ ap (λ (n : ℕ). cond (eqb n k) 1 0) (omega arith))

right_at_is : (m n : ℕ) → 0 < n → is_for n (right_at m) ≡ cond (eqb m (18 + n)) 1 0
right_at_is m n some_session = dite (dec_le 19 m)
    (λ big. ap (λ b. is_for n (cond b None (Some (m - 18)))) (le-ltb m 19 big) ∙ dite (ℕ_discrete m (18 + n))
    (λ is. ap (λ b. cond b 1 0) (eq-eqb (m - 18) n (omega arith) ∙ sym (eq-eqb m (18 + n) is)))
    (λ not. ap (λ b. cond b 1 0) (ne_eqb (m - 18) n (λ h. not (omega arith)) ∙ sym (ne_eqb m (18 + n) not))))
    (λ few. ap (λ b. is_for n (cond b None (Some (m - 18)))) (lt-ltb m 19 (omega arith)) ∙ sym (ap (λ b. cond b 1 0) (ne_eqb m (18 + n) (λ h. few (omega arith)))))

below_more : (m k : ℕ) → below (m + 1) k ≡ below m k + cond (eqb m k) 1 0
below_more m k = dite (ℕ_discrete m k)
    (λ is. omega (arith, below_yes (m + 1) k (omega arith), below_no m k (omega arith), here is))
    (λ not. dite (dec_le m k)
    (λ le. omega (arith, below_no (m + 1) k (omega arith), below_no m k le, away not))
    (λ gt. omega (arith, below_yes (m + 1) k (omega arith), below_yes m k (omega arith), away not)))
  where
    here : m ≡ k → ◌≡◌ {A = ℕ} (cond (eqb m k) 1 0) 1
    here is = ap (λ b. cond b 1 0) (eq-eqb m k is)

    away : m ≢ k → ◌≡◌ {A = ℕ} (cond (eqb m k) 1 0) 0
    away not = ap (λ b. cond b 1 0) (ne_eqb m k not)

view_first : (m : ℕ) → 0 < m → is_view (kind_at m) ≡ true → m ≡ 1
view_first m some_seat e = dite (ℕ_discrete m 1) (λ is. is) (λ not. absurd (omega (arith, sym (view_rank (kind_at m) e) ∙ rank_at m 1 some_seat, away not)))
  where
    away : m ≢ 1 → ◌≡◌ {A = ℕ} (cond (eqb m 1) 1 0) 0
    away not = ap (λ b. cond b 1 0) (ne_eqb m 1 not)

right_first : (m s : ℕ) → right_at m ≡ Some s → (0 < s) × (m ≡ 18 + s)
right_first m s e = dite (dec_le 19 m)
    (λ big. let is : m - 18 ≡ s = cc (sym (ap (λ b. cond b None (Some (m - 18))) (le-ltb m 19 big)) ∙ e) in (omega arith, omega arith))
    (λ few. absurd (cc (sym (ap (λ b. cond b None (Some (m - 18))) (lt-ltb m 19 (omega arith))) ∙ e)))

-- the book makes the next seat
pub makes : (key : Opening) (id : ℕ) (v : SeatView) → v.kind ≡ Kind.Book → Splits (IsRuled key) id v (counted v) (made_next v)
makes key id v book s r at =
    let vs : List SeatView = s.views in
    let f = r.fits id v at in
    let one : has_rank 0 v.kind ≡ 1 = ap (has_rank 0) book in
    let more : v.made + 1 ≡ r.made + 1 = omega (arith, f.counts one) in
    let m : v.made ≡ r.made = f.counts one in
    let live : is_spent v.kind ≡ false = ap is_spent book in
    let some_seat : 0 < v.made = omega (arith, m, r.begun) in
    let n : SeatView = made_next v in
    let others : (j : ℕ) (u : SeatView) → j ≢ id → get_elem? vs j ≡ some u → Fits r.log (r.made + 1) u
    = λ j u apart there.
    let g = r.fits j u there in
    let no_book : has_rank 0 u.kind ≡ 0 = omega (arith, terms_le (ranks 0) vs id j v u apart at there, r.once 0, below_one r.made 0, one) in
    record { begins = g.begins; shown = g.shown; whole = g.whole; writes = g.writes; equal = g.equal; own = g.own; counts = λ h. absurd (omega (arith, h, no_book)); alone = λ le. absurd (omega (arith, le, r.begun)) } in
    let left : Fits r.log (r.made + 1) (counted v) = record { begins = f.begins; shown = f.shown; whole = f.whole; writes = f.writes; equal = f.equal; own = f.own; counts = λ h. more; alone = λ le. absurd (omega (arith, le, r.begun)) } in
    let new : Fits r.log (r.made + 1) n
    = record {
      begins = prefix_nil r.log;
      shown = prefix_nil r.log;
      whole = λ h. sym (r.unmade (omega (arith, view_first v.made some_seat h, m)));
      writes = λ h. off h;
      equal = refl;
      own = λ t h. let w = right_first v.made t h in (refl, r.fresh t w.0 (omega (arith, w.1, m)));
      counts = λ h. absurd (omega (arith, h, rank_at v.made 0 some_seat, ne_zero v.made some_seat));
      alone = λ le. absurd (omega (arith, le, r.begun));
    } in record {
      log = r.log;
      made = r.made + 1;
      count = r.count;
      numbered = r.numbered;
      fits = all_snoc (Fits r.log (r.made + 1)) (set vs id (counted v)) n (all_else (Fits r.log (r.made + 1)) vs id (counted v) others left) new;
      opened = all_snoc (IsOpened key) (set vs id (counted v)) n (all_set (IsOpened key) vs id (counted v) r.opened (r.opened id v at)) (λ _. r.opened id v at live);
      first = first_snoc (set vs id (counted v)) n (first_set vs id v (counted v) at (λ e. e) r.first);
      once = λ k. total_more (ranks k) vs id v (counted v) n at refl ∙ omega (arith, r.once k, rank_at v.made k some_seat, ap {B = ℕ} (λ (x : ℕ). cond (eqb x k) 1 0) m, below_more r.made k);
      pen = total_split pens vs id v (counted v) n at (omega arith) ∙ r.pen;
      right = λ k p. total_more (rights k) vs id v (counted v) n at refl ∙ omega (arith, r.right k p, right_at_is v.made k p, ap {B = ℕ} (λ (x : ℕ). cond (eqb x (18 + k)) 1 0) m, below_more r.made (18 + k));
      fresh = λ k p le. r.fresh k p (omega arith);
      begun = omega arith;
      unmade = λ le. r.unmade (omega arith);
    }
  where
    ne_zero : (x : ℕ) → 0 < x → ◌≡◌ {A = ℕ} (cond (eqb x 0) 1 0) 0
    ne_zero x h = ap (λ b. cond b 1 0) (ne_eqb x 0 (λ e. omega arith))

-- the table at the start
pub begins : (key : Opening) → IsRuled key (opening (key.number ∷ []) [] (first_view key))
begins key =
    record {
      log = [];
      made = 1;
      count = ap (λ n. n ∷ []) (omega arith);
      numbered = tt;
      fits = λ j u e. alone (Fits [] 1) j u first e;
      opened = λ j u e. alone (IsOpened key) j u (λ _. (refl, refl)) e;
      first = (first_view key, refl, refl);
      once = λ k. omega (arith, below_more 0 k, below_no 0 k (omega arith));
      pen = refl;
      right = λ n p. sym (below_no 1 (18 + n) (omega arith));
      fresh = λ n p le. refl;
      begun = omega arith;
      unmade = λ _. refl;
    }
  where
    alone : (P : SeatView → Type 0) (j : ℕ) (u : SeatView) → P (first_view key) → get_elem? (first_view key ∷ []) j ≡ some u → P u
    alone P zero u p e = subst P (some-injective (first_view key) u e) p
    alone P (suc j) u p e = absurd (some-ne-none u (sym e))

    first : Fits [] 1 (first_view key)
    first = record { begins = prefix_nil []; shown = prefix_nil []; whole = λ e. off e; writes = λ _. refl; equal = refl; own = λ t e. absurd (cc e); counts = λ _. refl; alone = λ _. refl }

pub copy_at : (m : ℕ) → m < 17 → kind_at (m + 2) ≡ Kind.Copy m
copy_at m h = ap (λ b. cond b Kind.View (cond (nat_lt (m + 2) 19) (Kind.Copy (m + 2 - 2)) (Kind.Pass (m + 2 - 18)))) (le-ltb (m + 2) 2 (omega arith)) ∙ ap (λ b. cond b (Kind.Copy (m + 2 - 2)) (Kind.Pass (m + 2 - 18))) (lt-ltb (m + 2) 19 (omega arith)) ∙ ap (λ (n : ℕ). Kind.Copy n) (omega arith)

pub copy_right : (m : ℕ) → m < 17 → right_at (m + 2) ≡ None
copy_right m h = ap (λ b. cond b None (Some (m + 2 - 18))) (lt-ltb (m + 2) 19 (omega arith))

pub pass_at : (s : ℕ) → 0 < s → kind_at (s + 18) ≡ Kind.Pass s
pass_at s h = ap (λ b. cond b Kind.View (cond (nat_lt (s + 18) 19) (Kind.Copy (s + 18 - 2)) (Kind.Pass (s + 18 - 18)))) (le-ltb (s + 18) 2 (omega arith)) ∙ ap (λ b. cond b (Kind.Copy (s + 18 - 2)) (Kind.Pass (s + 18 - 18))) (le-ltb (s + 18) 19 (omega arith)) ∙ ap (λ (n : ℕ). Kind.Pass n) (omega arith)

pub pass_right : (s : ℕ) → 0 < s → right_at (s + 18) ≡ Some s
pass_right s h = ap (λ b. cond b None (Some (s + 18 - 18))) (le-ltb (s + 18) 19 (omega arith)) ∙ ap (λ (n : ℕ). Some n) (omega arith)

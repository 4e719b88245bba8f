-- The parts of a turn's beginning, one after another.
use Rattle.std.proofs.Common.{◌≡◌, ◌⊎◌, inl, inr, ℕ, ◌+◌, ◌*◌, ◌<◌, ◌≤◌, List, ◌++◌, length, Option, Some, None, sym, ◌∙◌, ap, subst, refl, arith}
use Rattle.std.specs.Prelude.{map, max, is_some}
use Rattle.std.specs.List.{All}
use Rattle.std.specs.List.Sorted.{IsPermutation}
use Rattle.std.proofs.lemmas.Bool.{cases_lt}
use Rattle.std.proofs.lemmas.List.{length-map}
use Rattle.odb_device.specs.World.{File, World, file_of}
use Rattle.odb_device.specs.Images.{EachImage}
use Rattle.odb_device.specs.Calls.{FileCountRose}
use Rattle.odb_device.specs.Moments.{ChangesOnly, Runs}
use Rattle.odb_device.proofs.Time.{begins, joins, changes_then, rose_behind}
use Rattle.odb_extent.specs.Standing.{limit_of}
use Rattle.odb_slots.specs.Sets.{IsOneOf}
use Rattle.odb_model.specs.declared.entry.Entry.{Entry}
use Rattle.odb_model.specs.State.{IsNumberedFrom}
use Rattle.odb_bank.specs.declared.begin.Plan.{Plan}
use Rattle.odb_bank.specs.declared.kept.Gate.TheVariants.{Doubtful}
use Rattle.odb_bank.specs.declared.kept.Kept.{Kept}
use Rattle.odb_bank.specs.declared.phase.Phase.TheVariants.{Idle}
use Rattle.odb_bank.specs.Additions.{record_of}
use Rattle.odb_bank.specs.Bank.{BankState, file_number, slot_limit, StandsFor, StandsByMark}
use Rattle.odb_bank.specs.Begun.{AreConsecutive, IsNext, IsPlanned, IsReady, AreTaken, HasGrown, HasRun, HasItsGate, IsFilled, IsStillIdle, with_kept, SameOpen, KeepsTold, ClosesTold}
use Rattle.odb_bank.specs.Closing.{staying_of, ClosesJust, HasRoomFor}
use Rattle.odb_bank.specs.Files.{StandsAt}
use Rattle.odb_bank.specs.Filling.{AreKeptFor, AreOf}
use Rattle.odb_bank.specs.Gates.{with_gate}
use Rattle.odb_bank.specs.History.{History}
use Rattle.odb_bank.specs.Known.{Known}
use Rattle.odb_bank.specs.Latest.{AreLatest}
use Rattle.odb_bank.specs.Room.{AreFree}
use Rattle.odb_bank.proofs.Numbers.{numbered_next}

-- at each moment of a call the file stands for the history, complete to the bank's mark
abbrev pub RunsStanding : History → BankState → World → World → Type 0
RunsStanding h b w now = Runs (file_number b) (EachImage (StandsAt b.bank h b.mark)) w now

-- what a part of a turn's beginning leaves
pub record IsPart (old new : BankState) (w now : World) : Type 0 where
  pub file : file_number new ≡ file_number old
  pub bank : new.bank ≡ old.bank
  pub mark : new.mark ≡ old.mark
  pub only : ChangesOnly (file_number old) w now
  pub run : (h : History) → StandsFor h old (file_of (file_number old) w) → RunsStanding h old w now
  pub history : (h : History) → StandsFor h old (file_of (file_number old) w) → StandsFor h new (file_of (file_number old) now)

pub part_closed : (old new : BankState) (w now : World) (slots : List Kept) → new ≡ with_kept old slots → ChangesOnly (file_number old) w now
    → ((h : History) → StandsFor h old (file_of (file_number old) w) → RunsStanding h old w now)
    → ((h : History) → StandsFor h old (file_of (file_number old) w) → StandsFor h new (file_of (file_number old) now))
    → IsPart old new w now
part_closed old new w now slots is only run history = record {
  file = ap file_number is;
  bank = ap (λ (x : BankState). x.bank) is;
  mark = ap (λ (x : BankState). x.mark) is;
  only = only;
  run = run;
  history = history;
}

pub part_room : (old new : BankState) (w now : World) → HasGrown old new → ChangesOnly (file_number old) w now
    → ((h : History) → StandsFor h old (file_of (file_number old) w) → RunsStanding h old w now)
    → ((h : History) → StandsFor h old (file_of (file_number old) w) → StandsFor h new (file_of (file_number old) now))
    → IsPart old new w now
part_room old new w now grown only run history = record { file = grown.file; bank = grown.bank; mark = grown.mark; only = only; run = run; history = history }

-- what comes behind it, in the words of the bank as it was before it
module _ (a c : BankState) (w m n : World) (one : IsPart a c w m) where
  pub at_file : (P : Option File → Type 0) → P (file_of (file_number a) m) → P (file_of (file_number c) m)
  at_file P has = subst (λ (k : ℕ). P (file_of k m)) (sym one.file) has

  pub from_file : (P : Option File → Type 0) → P (file_of (file_number c) n) → P (file_of (file_number a) n)
  from_file P has = subst (λ (k : ℕ). P (file_of k n)) one.file has

  pub then_only : ChangesOnly (file_number c) m n → ChangesOnly (file_number a) w n
  then_only more = changes_then (file_number a) w m n one.only (subst (λ (k : ℕ). ChangesOnly k m n) one.file more)

  pub then_run : (h : History) → (StandsFor h c (file_of (file_number c) m) → RunsStanding h c m n) → StandsFor h a (file_of (file_number a) w) → RunsStanding h a w n
  then_run h more stands = joins (file_number a) (EachImage (StandsAt a.bank h a.mark)) w m n (one.run h stands) third
    where
      first : Runs (file_number c) (EachImage (StandsAt c.bank h c.mark)) m n
      first = more (at_file (StandsFor h c) (one.history h stands))

      second : Runs (file_number c) (EachImage (StandsAt a.bank h a.mark)) m n
      second = subst (λ (k : ℕ). Runs (file_number c) (EachImage (StandsAt a.bank h k)) m n) one.mark (subst (λ (k : ℕ). Runs (file_number c) (EachImage (StandsAt k h c.mark)) m n) one.bank first)

      third : Runs (file_number a) (EachImage (StandsAt a.bank h a.mark)) m n
      third = subst (λ (k : ℕ). Runs k (EachImage (StandsAt a.bank h a.mark)) m n) one.file second

  pub then_history : (h : History) (d : BankState) → (StandsFor h c (file_of (file_number c) m) → StandsFor h d (file_of (file_number c) n)) → StandsFor h a (file_of (file_number a) w) → StandsFor h d (file_of (file_number a) n)
  then_history h d more stands = from_file (StandsFor h d) (more (at_file (StandsFor h c) (one.history h stands)))

  pub then_rose : FileCountRose (file_number c) m n → FileCountRose (file_number a) w n
  then_rose rose = rose_behind (file_number a) (file_number a) w m n one.only (subst (λ (k : ℕ). FileCountRose k m n) one.file rose)

  pub then_part : (d : BankState) → IsPart c d m n → IsPart a d w n
  then_part d two = record {
    file = two.file ∙ one.file;
    bank = two.bank ∙ one.bank;
    mark = two.mark ∙ one.mark;
    only = then_only two.only;
    run = λ h stands. then_run h (two.run h) stands;
    history = λ h stands. then_history h d (two.history h) stands;
  }

  -- what is known of a told file
  told : is_some (file_of (file_number a) m) ≡ is_some (file_of (file_number a) w)
  told = let only = one.only in only.told m.time only.later (omega arith)

  just_then : (mark : ℕ) (known mid later : ℕ → Known) → ClosesJust mark known mid → SameOpen mid later → ClosesJust mark known later
  just_then mark known mid later just same n = elim (just n) [
    | inl closed ↦ inl (closed.0, (same n).1 ∙ closed.1)
    | inr stays ↦ inr (stays.0, (same n).0 ∙ stays.1, (same n).1 ∙ stays.2)
  ]

  closes_from : (d : BankState) (o p q : Option File) → is_some p ≡ is_some o → ClosesTold a c o p → KeepsTold c d p q → ClosesTold a d o q
  closes_from d None p q same closes keeps = tt
  closes_from d (Some f) p None same closes keeps = tt
  closes_from d (Some f) None (Some g) same closes keeps = absurd (cc same)
  closes_from d (Some f) (Some i) (Some g) same closes keeps = λ known is.
      let mid = closes known is in
      let end = keeps mid.0 mid.1 in
      (end.0, end.1, just_then a.mark known mid.0 end.0 mid.2 end.2)

  pub then_closes : (d : BankState) → ClosesTold a c (file_of (file_number a) w) (file_of (file_number a) m) → KeepsTold c d (file_of (file_number c) m) (file_of (file_number c) n) → ClosesTold a d (file_of (file_number a) w) (file_of (file_number a) n)
  then_closes d closes keeps = closes_from d (file_of (file_number a) w) (file_of (file_number a) m) (file_of (file_number a) n) told closes
      (subst (λ (k : ℕ). KeepsTold c d (file_of k m) (file_of k n)) one.file keeps)

-- no part yet
pub standing_now : (h : History) (b : BankState) (w : World) → b.phase ≡ Idle → StandsFor h b (file_of (file_number b) w) → RunsStanding h b w w
standing_now h b w idle stands = begins (file_number b) (EachImage (StandsAt b.bank h b.mark)) w (now (file_of (file_number b) w) stands)
  where
    at_mark : (image : List ℕ) → StandsByMark h b image → StandsAt b.bank h b.mark image
    at_mark image (inl at) = at
    at_mark image (inr raised) = let gates = raised.0 in absurd (cc (idle, gates))

    now : (o : Option File) → StandsFor h b o → EachImage (StandsAt b.bank h b.mark) o
    now None stands = tt
    now (Some f) stands = λ (image : List ℕ) at. at_mark image (stands.images image at)

-- the answers of a call that goes on from a plan
module _ (b : BankState) (entries : List Entry) (p : Plan) (plan : IsPlanned b entries p) where
  many : length (map record_of p.additions.items) ≡ length p.additions.items
  many = length-map p.additions.items record_of

  pub room_for : HasRoomFor b entries
  room_for = (map record_of p.additions.items, plan.latest, omega (arith, plan.fits, many))

  -- the stale slots are closed, or may be
  pub still_doubtful : (new : BankState) → b.phase ≡ Idle → new ≡ with_kept b (map (with_gate p.closing.items Doubtful) b.slots) → IsStillIdle b new
  still_doubtful new idle is = subst (IsStillIdle b) (sym is) (record {
    phase_is = idle;
    mark = refl;
    reached = refl;
    run = refl;
    bank = refl;
    file = refl;
    slots = inr (ap (λ (l : List ℕ). map (with_gate l Doubtful) b.slots) plan.closing);
  })

  -- and extents are added
  module _ (c d : BankState) (closed : c ≡ with_kept b (staying_of b)) (idle : b.phase ≡ Idle) (grown : HasGrown c d) where
    pub idle_then : d.phase ≡ Idle
    idle_then = grown.phase ∙ ap (λ (x : BankState). x.phase) closed ∙ idle

    slots_then : d.slots ≡ staying_of b
    slots_then = grown.slots ∙ ap (λ (x : BankState). x.slots) closed

    mark_then : d.mark ≡ b.mark
    mark_then = grown.mark ∙ ap (λ (x : BankState). x.mark) closed

    bank_then : d.bank ≡ b.bank
    bank_then = grown.bank ∙ ap (λ (x : BankState). x.bank) closed

    file_then : file_number d ≡ file_number b
    file_then = grown.file ∙ ap file_number closed

    pub still_idle : IsStillIdle b d
    still_idle = record {
      phase_is = idle_then;
      mark = mark_then;
      reached = grown.reached ∙ ap (λ (x : BankState). x.reached) closed;
      run = grown.run ∙ ap (λ (x : BankState). x.run) closed;
      bank = bank_then;
      file = file_then;
      slots = inl slots_then;
    }

    pub gates_then : (P : Kept → Type 0) → All P c.slots → All P d.slots
    gates_then P all = subst (All P) (sym grown.slots) all

    pub taken : (h : History) → AreConsecutive entries → IsNext b entries → AreOf h b.bank entries → AreTaken h d entries p
    taken h consecutive next of_history = record {
      numbers = subst (λ (n : ℕ). IsNumberedFrom (n + 1) entries) (sym mark_then) (numbered_next b entries consecutive next);
      of_history = subst (λ (n : ℕ). AreOf h n entries) (sym bank_then) of_history;
      latest = subst (λ (n : ℕ). AreLatest n entries (map record_of p.additions.items)) (sym bank_then) plan.latest;
      reached = plan.reached ∙ ap (λ (n : ℕ). n + length entries) (sym mark_then);
    }

    module _ (limit : ℕ) (exact : limit_of d.extents ≡ max (limit_of c.extents) limit) where
      pub ready : All (λ n. n < 1024 * limit) p.run.items → IsReady d p
      ready inside = record {
        free = subst (λ (l : List Kept). AreFree (map (λ (it : Kept). it.slot) l) (length p.additions.items) p.run.items) (sym slots_then) plan.free;
        inside = λ k x low. omega (arith, inside k x low, exact);
        items = plan.items;
        keeps = plan.keeps;
        reached = omega (arith, plan.reached, mark_then);
      }

      pub filled : (e : BankState) → (limit ≡ 0) ⊎ ((n : ℕ) × IsOneOf p.run.items n × (1024 * limit ≤ n + 1024)) → HasRun d p.kept.items p.run.items p.reached e → All (HasItsGate e.run) e.slots → IsFilled entries p.reached b e
      filled e last run gates = subst (IsFilled entries p.reached b) (sym run.is) (record {
        phase_is = refl;
        reached = refl;
        mark = mark_then;
        bank = bank_then;
        file = file_then;
        gates = subst (λ (x : BankState). All (HasItsGate x.run) x.slots) run.is gates;
        records = map record_of p.additions.items;
        latest = plan.latest;
        added = p.kept.items;
        slots = subst (λ (l : List Kept). IsPermutation (l ++ p.kept.items) e.slots) slots_then run.slots;
        keeps = subst (AreKeptFor p.run.items (map record_of p.additions.items) p.kept.items) (sym many) plan.keeps;
        free = subst (λ (n : ℕ). AreFree (map (λ (it : Kept). it.slot) (staying_of b)) n p.run.items) (sym many) plan.free;
        grown = go last (cases_lt (limit_of b.extents) limit);
      })
        where
          was : limit_of c.extents ≡ limit_of b.extents
          was = ap (λ (x : BankState). limit_of x.extents) closed

          go : (limit ≡ 0) ⊎ ((n : ℕ) × IsOneOf p.run.items n × (1024 * limit ≤ n + 1024)) → (limit_of b.extents < limit) ⊎ (limit ≤ limit_of b.extents)
              → (limit_of d.extents ≡ limit_of b.extents) ⊎ ((n : ℕ) × IsOneOf p.run.items n × (slot_limit d ≤ n + 1024))
          go top (inr fits) = inl (omega (arith, exact, was, fits))
          go (inl none) (inl more) = inl (omega (arith, none, more))
          go (inr there) (inl more) = inr (there.0, there.1, omega (arith, exact, was, more, there.2))

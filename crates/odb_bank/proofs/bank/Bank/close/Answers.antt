use Rattle.std.proofs.Common.{◌≡◌, ℕ, ◌^◌, List, length, sym, ◌∙◌, ap, subst, refl, arith}
use Rattle.std.specs.Prelude.{map, slice_index}
use Rattle.std.specs.List.{All}
use Rattle.odb_device.specs.World.{file_of}
use Rattle.odb_device.specs.Images.{EachImage}
use Rattle.odb_device.specs.Moments.{Runs}
use Rattle.odb_device.specs.TornSets.{TornInFrom}
use Rattle.odb_device.proofs.Time.{run_end}
use Rattle.odb_slots.specs.Sets.{GatesOf, IsOneOf, HaveGates}
use Rattle.odb_slots.specs.Tearing.{TearsGates}
use Rattle.odb_bank.specs.declared.kept.Gate.TheVariants.{Open, Doubtful}
use Rattle.odb_bank.specs.declared.kept.Kept.{Kept}
use Rattle.odb_bank.specs.declared.phase.Phase.TheVariants.{Idle}
use Rattle.odb_bank.specs.History.{History}
use Rattle.odb_bank.specs.Files.{StandsAt}
use Rattle.odb_bank.specs.Bank.{BankState, file_number, Stands, StandsFor}
use Rattle.odb_bank.specs.Begun.{with_kept, ClosesTold}
use Rattle.odb_bank.specs.Closing.{closing_of, staying_of}
use Rattle.odb_bank.specs.Gates.{with_gate}
use Rattle.odb_bank.proofs.ClosingTurn.{closed_low, close_doubts, close_shuts, history_doubt, history_shut, close_run, marked_idle, kept_is, sound_doubt, sound_shut, closes_told, stays_known}
use Rattle.odb_bank.proofs.bank.Bank.close.Goals as goal

pub close_stale-requires : goal.close_stale-requires
close_stale-requires g c = λ i low.
    let v : BankState = record {
      extents = c.self.inside.extents;
      bank = c.self.inside.bank;
      mark = c.self.inside.mark;
      reached = c.self.inside.reached;
      phase = c.self.inside.phase;
      run = c.self.inside.run.items;
      slots = c.self.inside.slots;
    } in
    let idle : v.phase ≡ Idle = subst (λ (b : BankState). b.phase ≡ Idle) (sym c.self.view_is) c.requires.idle in
    let closing : c.args.closing.now ≡ closing_of v = subst (λ (b : BankState). c.args.closing.now ≡ closing_of b) (sym c.self.view_is) c.requires.closing in
    let n = slice_index c.args.closing.now i in
    let one : IsOneOf (closing_of v) n = subst (λ (l : List ℕ). IsOneOf l n) closing (i, low, refl) in
    let inside = closed_low v c.self.inside.file c.self.invariant idle n one in
    omega (arith, inside, c.self.invariant.high)

pub invariant_of-self-in-Err : goal.invariant_of-self-in-Err
invariant_of-self-in-Err g c =
    let v : BankState = record {
      extents = c.self.inside.extents;
      bank = c.self.inside.bank;
      mark = c.self.inside.mark;
      reached = c.self.inside.reached;
      phase = c.self.inside.phase;
      run = c.self.inside.run.items;
      slots = c.self.inside.slots;
    } in
    let w = g.S.Outside.world c.args.store.now in
    let now = g.S.Outside.world c.close_stale.new.store in
    let idle : v.phase ≡ Idle = subst (λ (b : BankState). b.phase ≡ Idle) (sym c.self.view_is) c.requires.idle in
    let closing : c.args.closing.now ≡ closing_of v = subst (λ (b : BankState). c.args.closing.now ≡ closing_of b) (sym c.self.view_is) c.requires.closing in
    let one : List Kept = c.note.new.self in
    let first : one ≡ map (with_gate (closing_of v) Doubtful) v.slots =
    c.note.ensures
    ∙ ap (λ (r : List ℕ). map (with_gate r Doubtful) v.slots) closing in
    let slots : List Kept = one in
    sound_doubt v c.self.inside.file c.self.invariant idle slots first

pub invariant_of-self : goal.invariant_of-self
invariant_of-self g c =
    let v : BankState = record {
      extents = c.self.inside.extents;
      bank = c.self.inside.bank;
      mark = c.self.inside.mark;
      reached = c.self.inside.reached;
      phase = c.self.inside.phase;
      run = c.self.inside.run.items;
      slots = c.self.inside.slots;
    } in
    let w = g.S.Outside.world c.args.store.now in
    let now = g.S.Outside.world c.close_stale.new.store in
    let idle : v.phase ≡ Idle = subst (λ (b : BankState). b.phase ≡ Idle) (sym c.self.view_is) c.requires.idle in
    let closing : c.args.closing.now ≡ closing_of v = subst (λ (b : BankState). c.args.closing.now ≡ closing_of b) (sym c.self.view_is) c.requires.closing in
    let one : List Kept = c.note.new.self in
    let first : one ≡ map (with_gate (closing_of v) Doubtful) v.slots =
    c.note.ensures
    ∙ ap (λ (r : List ℕ). map (with_gate r Doubtful) v.slots) closing in
    let slots : List Kept = one in
    let stays = c.keep_known.ensures ∙ kept_is v c.self.inside.file c.self.invariant idle slots first in
    sound_shut v c.self.inside.file c.self.invariant idle c.keep_known.new.slots stays

pub returns-in-Err-clause-run : goal.returns-in-Err-clause-run
returns-in-Err-clause-run g c =
    let v : BankState = record {
      extents = c.self.inside.extents;
      bank = c.self.inside.bank;
      mark = c.self.inside.mark;
      reached = c.self.inside.reached;
      phase = c.self.inside.phase;
      run = c.self.inside.run.items;
      slots = c.self.inside.slots;
    } in
    let w = g.S.Outside.world c.args.store.now in
    let now = g.S.Outside.world c.close_stale.new.store in
    let idle : v.phase ≡ Idle = subst (λ (b : BankState). b.phase ≡ Idle) (sym c.self.view_is) c.requires.idle in
    let closing : c.args.closing.now ≡ closing_of v = subst (λ (b : BankState). c.args.closing.now ≡ closing_of b) (sym c.self.view_is) c.requires.closing in
    let of_file = subst (λ (l : List ℕ). TearsGates c.self.inside.file l w now) closing c.close_stale.ensures.run in
    let tears : TearsGates (file_number v) (closing_of v) w now = subst (λ (n : ℕ). TearsGates n (closing_of v) w now) (sym c.self.invariant.number) of_file in
    let marked = marked_idle v c.self.inside.file c.self.invariant idle c.limit-limit.ensures.holds (omega arith) in
    subst (λ (b : BankState). (h : History) → StandsFor h b (file_of (file_number b) w) → Runs (file_number b) (EachImage (StandsAt b.bank h b.mark)) w now) c.self.view_is
    (λ h stands. close_run v c.self.inside.file c.self.invariant idle (2 ^ 40) marked h (file_number v) w now stands tears)

pub returns-in-Ok-clause-run : goal.returns-in-Ok-clause-run
returns-in-Ok-clause-run g c =
    let v : BankState = record {
      extents = c.self.inside.extents;
      bank = c.self.inside.bank;
      mark = c.self.inside.mark;
      reached = c.self.inside.reached;
      phase = c.self.inside.phase;
      run = c.self.inside.run.items;
      slots = c.self.inside.slots;
    } in
    let w = g.S.Outside.world c.args.store.now in
    let now = g.S.Outside.world c.close_stale.new.store in
    let idle : v.phase ≡ Idle = subst (λ (b : BankState). b.phase ≡ Idle) (sym c.self.view_is) c.requires.idle in
    let closing : c.args.closing.now ≡ closing_of v = subst (λ (b : BankState). c.args.closing.now ≡ closing_of b) (sym c.self.view_is) c.requires.closing in
    let of_file = subst (λ (l : List ℕ). TearsGates c.self.inside.file l w now) closing c.close_stale.ensures.run in
    let tears : TearsGates (file_number v) (closing_of v) w now = subst (λ (n : ℕ). TearsGates n (closing_of v) w now) (sym c.self.invariant.number) of_file in
    let marked = marked_idle v c.self.inside.file c.self.invariant idle c.limit-limit.ensures.holds (omega arith) in
    subst (λ (b : BankState). (h : History) → StandsFor h b (file_of (file_number b) w) → Runs (file_number b) (EachImage (StandsAt b.bank h b.mark)) w now) c.self.view_is
    (λ h stands. close_run v c.self.inside.file c.self.invariant idle (2 ^ 40) marked h (file_number v) w now stands tears)

pub returns-in-Err-clause-stands : goal.returns-in-Err-clause-stands
returns-in-Err-clause-stands g c =
    let v : BankState = record {
      extents = c.self.inside.extents;
      bank = c.self.inside.bank;
      mark = c.self.inside.mark;
      reached = c.self.inside.reached;
      phase = c.self.inside.phase;
      run = c.self.inside.run.items;
      slots = c.self.inside.slots;
    } in
    let w = g.S.Outside.world c.args.store.now in
    let now = g.S.Outside.world c.close_stale.new.store in
    let idle : v.phase ≡ Idle = subst (λ (b : BankState). b.phase ≡ Idle) (sym c.self.view_is) c.requires.idle in
    let closing : c.args.closing.now ≡ closing_of v = subst (λ (b : BankState). c.args.closing.now ≡ closing_of b) (sym c.self.view_is) c.requires.closing in
    let one : List Kept = c.note.new.self in
    let first : one ≡ map (with_gate (closing_of v) Doubtful) v.slots =
    c.note.ensures
    ∙ ap (λ (r : List ℕ). map (with_gate r Doubtful) v.slots) closing in
    let slots : List Kept = one in
    let of_file = subst (λ (l : List ℕ). TearsGates c.self.inside.file l w now) closing c.close_stale.ensures.run in
    let tears : TearsGates (file_number v) (closing_of v) w now = subst (λ (n : ℕ). TearsGates n (closing_of v) w now) (sym c.self.invariant.number) of_file in
    let torn = run_end (file_number v) (TornInFrom (GatesOf (IsOneOf (closing_of v))) (2 ^ 40) (file_of (file_number v) w)) w now tears in
    let before : Stands v (file_of (file_number v) w) = subst (λ (b : BankState). Stands b (file_of (file_number b) w)) (sym c.self.view_is) c.requires.stands in
    subst (λ (b : BankState). Stands (with_kept v slots) (file_of (file_number b) now)) c.self.view_is
    (close_doubts v c.self.inside.file c.self.invariant idle (2 ^ 40) slots (file_of (file_number v) w) (file_of (file_number v) now) first before torn)

pub returns-in-Err-clause-history : goal.returns-in-Err-clause-history
returns-in-Err-clause-history g c =
    let v : BankState = record {
      extents = c.self.inside.extents;
      bank = c.self.inside.bank;
      mark = c.self.inside.mark;
      reached = c.self.inside.reached;
      phase = c.self.inside.phase;
      run = c.self.inside.run.items;
      slots = c.self.inside.slots;
    } in
    let w = g.S.Outside.world c.args.store.now in
    let now = g.S.Outside.world c.close_stale.new.store in
    let idle : v.phase ≡ Idle = subst (λ (b : BankState). b.phase ≡ Idle) (sym c.self.view_is) c.requires.idle in
    let closing : c.args.closing.now ≡ closing_of v = subst (λ (b : BankState). c.args.closing.now ≡ closing_of b) (sym c.self.view_is) c.requires.closing in
    let one : List Kept = c.note.new.self in
    let first : one ≡ map (with_gate (closing_of v) Doubtful) v.slots =
    c.note.ensures
    ∙ ap (λ (r : List ℕ). map (with_gate r Doubtful) v.slots) closing in
    let slots : List Kept = one in
    let of_file = subst (λ (l : List ℕ). TearsGates c.self.inside.file l w now) closing c.close_stale.ensures.run in
    let tears : TearsGates (file_number v) (closing_of v) w now = subst (λ (n : ℕ). TearsGates n (closing_of v) w now) (sym c.self.invariant.number) of_file in
    let torn = run_end (file_number v) (TornInFrom (GatesOf (IsOneOf (closing_of v))) (2 ^ 40) (file_of (file_number v) w)) w now tears in
    let marked = marked_idle v c.self.inside.file c.self.invariant idle c.limit-limit.ensures.holds (omega arith) in
    subst (λ (b : BankState). (h : History) → StandsFor h b (file_of (file_number b) w) → StandsFor h (with_kept v slots) (file_of (file_number b) now)) c.self.view_is
    (λ h stands. history_doubt v c.self.inside.file c.self.invariant idle (2 ^ 40) marked h slots (file_of (file_number v) w) (file_of (file_number v) now) first stands torn)

pub returns-in-Err-clause-broken : goal.returns-in-Err-clause-broken
returns-in-Err-clause-broken g c =
    let v : BankState = record {
      extents = c.self.inside.extents;
      bank = c.self.inside.bank;
      mark = c.self.inside.mark;
      reached = c.self.inside.reached;
      phase = c.self.inside.phase;
      run = c.self.inside.run.items;
      slots = c.self.inside.slots;
    } in
    let w = g.S.Outside.world c.args.store.now in
    let now = g.S.Outside.world c.close_stale.new.store in
    let idle : v.phase ≡ Idle = subst (λ (b : BankState). b.phase ≡ Idle) (sym c.self.view_is) c.requires.idle in
    let closing : c.args.closing.now ≡ closing_of v = subst (λ (b : BankState). c.args.closing.now ≡ closing_of b) (sym c.self.view_is) c.requires.closing in
    let one : List Kept = c.note.new.self in
    let first : one ≡ map (with_gate (closing_of v) Doubtful) v.slots =
    c.note.ensures
    ∙ ap (λ (r : List ℕ). map (with_gate r Doubtful) v.slots) closing in
    let slots : List Kept = one in
    subst (λ (b : BankState). with_kept v slots ≡ with_kept b (map (with_gate c.args.closing.now Doubtful) b.slots)) c.self.view_is
    (ap (with_kept v) (first ∙ ap (λ (r : List ℕ). map (with_gate r Doubtful) v.slots) (sym closing)))

pub returns-in-Ok-clause-stands : goal.returns-in-Ok-clause-stands
returns-in-Ok-clause-stands g c =
    let v : BankState = record {
      extents = c.self.inside.extents;
      bank = c.self.inside.bank;
      mark = c.self.inside.mark;
      reached = c.self.inside.reached;
      phase = c.self.inside.phase;
      run = c.self.inside.run.items;
      slots = c.self.inside.slots;
    } in
    let w = g.S.Outside.world c.args.store.now in
    let now = g.S.Outside.world c.close_stale.new.store in
    let idle : v.phase ≡ Idle = subst (λ (b : BankState). b.phase ≡ Idle) (sym c.self.view_is) c.requires.idle in
    let closing : c.args.closing.now ≡ closing_of v = subst (λ (b : BankState). c.args.closing.now ≡ closing_of b) (sym c.self.view_is) c.requires.closing in
    let one : List Kept = c.note.new.self in
    let first : one ≡ map (with_gate (closing_of v) Doubtful) v.slots =
    c.note.ensures
    ∙ ap (λ (r : List ℕ). map (with_gate r Doubtful) v.slots) closing in
    let slots : List Kept = one in
    let of_file = subst (λ (l : List ℕ). TearsGates c.self.inside.file l w now) closing c.close_stale.ensures.run in
    let tears : TearsGates (file_number v) (closing_of v) w now = subst (λ (n : ℕ). TearsGates n (closing_of v) w now) (sym c.self.invariant.number) of_file in
    let torn = run_end (file_number v) (TornInFrom (GatesOf (IsOneOf (closing_of v))) (2 ^ 40) (file_of (file_number v) w)) w now tears in
    let shuts = subst (λ (l : List ℕ). EachImage (HaveGates 0 l (length l)) (file_of c.self.inside.file now)) closing c.in-Ok.ensures.done in
    let done : EachImage (HaveGates 0 (closing_of v) (length (closing_of v))) (file_of (file_number v) now) =
    subst (λ (n : ℕ). EachImage (HaveGates 0 (closing_of v) (length (closing_of v))) (file_of n now)) (sym c.self.invariant.number) shuts in
    let stays = c.keep_known.ensures ∙ kept_is v c.self.inside.file c.self.invariant idle slots first in
    let left : List Kept = c.keep_known.new.slots in
    let before : Stands v (file_of (file_number v) w) = subst (λ (b : BankState). Stands b (file_of (file_number b) w)) (sym c.self.view_is) c.requires.stands in
    subst (λ (b : BankState). Stands (with_kept v left) (file_of (file_number b) now)) c.self.view_is
    (close_shuts v c.self.inside.file c.self.invariant idle (2 ^ 40) left (file_of (file_number v) w) (file_of (file_number v) now) stays before torn done)

pub returns-in-Ok-clause-history : goal.returns-in-Ok-clause-history
returns-in-Ok-clause-history g c =
    let v : BankState = record {
      extents = c.self.inside.extents;
      bank = c.self.inside.bank;
      mark = c.self.inside.mark;
      reached = c.self.inside.reached;
      phase = c.self.inside.phase;
      run = c.self.inside.run.items;
      slots = c.self.inside.slots;
    } in
    let w = g.S.Outside.world c.args.store.now in
    let now = g.S.Outside.world c.close_stale.new.store in
    let idle : v.phase ≡ Idle = subst (λ (b : BankState). b.phase ≡ Idle) (sym c.self.view_is) c.requires.idle in
    let closing : c.args.closing.now ≡ closing_of v = subst (λ (b : BankState). c.args.closing.now ≡ closing_of b) (sym c.self.view_is) c.requires.closing in
    let one : List Kept = c.note.new.self in
    let first : one ≡ map (with_gate (closing_of v) Doubtful) v.slots =
    c.note.ensures
    ∙ ap (λ (r : List ℕ). map (with_gate r Doubtful) v.slots) closing in
    let slots : List Kept = one in
    let of_file = subst (λ (l : List ℕ). TearsGates c.self.inside.file l w now) closing c.close_stale.ensures.run in
    let tears : TearsGates (file_number v) (closing_of v) w now = subst (λ (n : ℕ). TearsGates n (closing_of v) w now) (sym c.self.invariant.number) of_file in
    let torn = run_end (file_number v) (TornInFrom (GatesOf (IsOneOf (closing_of v))) (2 ^ 40) (file_of (file_number v) w)) w now tears in
    let shuts = subst (λ (l : List ℕ). EachImage (HaveGates 0 l (length l)) (file_of c.self.inside.file now)) closing c.in-Ok.ensures.done in
    let done : EachImage (HaveGates 0 (closing_of v) (length (closing_of v))) (file_of (file_number v) now) =
    subst (λ (n : ℕ). EachImage (HaveGates 0 (closing_of v) (length (closing_of v))) (file_of n now)) (sym c.self.invariant.number) shuts in
    let stays = c.keep_known.ensures ∙ kept_is v c.self.inside.file c.self.invariant idle slots first in
    let left : List Kept = c.keep_known.new.slots in
    let marked = marked_idle v c.self.inside.file c.self.invariant idle c.limit-limit.ensures.holds (omega arith) in
    subst (λ (b : BankState). (h : History) → StandsFor h b (file_of (file_number b) w) → StandsFor h (with_kept v left) (file_of (file_number b) now)) c.self.view_is
    (λ h stands. history_shut v c.self.inside.file c.self.invariant idle (2 ^ 40) marked h left (file_of (file_number v) w) (file_of (file_number v) now) stays stands torn done)

pub returns-in-Ok-clause-closed : goal.returns-in-Ok-clause-closed
returns-in-Ok-clause-closed g c =
    let v : BankState = record {
      extents = c.self.inside.extents;
      bank = c.self.inside.bank;
      mark = c.self.inside.mark;
      reached = c.self.inside.reached;
      phase = c.self.inside.phase;
      run = c.self.inside.run.items;
      slots = c.self.inside.slots;
    } in
    let w = g.S.Outside.world c.args.store.now in
    let now = g.S.Outside.world c.close_stale.new.store in
    let idle : v.phase ≡ Idle = subst (λ (b : BankState). b.phase ≡ Idle) (sym c.self.view_is) c.requires.idle in
    let closing : c.args.closing.now ≡ closing_of v = subst (λ (b : BankState). c.args.closing.now ≡ closing_of b) (sym c.self.view_is) c.requires.closing in
    let one : List Kept = c.note.new.self in
    let first : one ≡ map (with_gate (closing_of v) Doubtful) v.slots =
    c.note.ensures
    ∙ ap (λ (r : List ℕ). map (with_gate r Doubtful) v.slots) closing in
    let slots : List Kept = one in
    let stays = c.keep_known.ensures ∙ kept_is v c.self.inside.file c.self.invariant idle slots first in
    subst (λ (b : BankState). with_kept v c.keep_known.new.slots ≡ with_kept b (staying_of b)) c.self.view_is
    (ap (with_kept v) stays)

pub returns-in-Ok-clause-told : goal.returns-in-Ok-clause-told
returns-in-Ok-clause-told g c =
    let v : BankState = record {
      extents = c.self.inside.extents;
      bank = c.self.inside.bank;
      mark = c.self.inside.mark;
      reached = c.self.inside.reached;
      phase = c.self.inside.phase;
      run = c.self.inside.run.items;
      slots = c.self.inside.slots;
    } in
    let w = g.S.Outside.world c.args.store.now in
    let now = g.S.Outside.world c.close_stale.new.store in
    let idle : v.phase ≡ Idle = subst (λ (b : BankState). b.phase ≡ Idle) (sym c.self.view_is) c.requires.idle in
    let closing : c.args.closing.now ≡ closing_of v = subst (λ (b : BankState). c.args.closing.now ≡ closing_of b) (sym c.self.view_is) c.requires.closing in
    let one : List Kept = c.note.new.self in
    let first : one ≡ map (with_gate (closing_of v) Doubtful) v.slots =
    c.note.ensures
    ∙ ap (λ (r : List ℕ). map (with_gate r Doubtful) v.slots) closing in
    let slots : List Kept = one in
    let of_file = subst (λ (l : List ℕ). TearsGates c.self.inside.file l w now) closing c.close_stale.ensures.run in
    let tears : TearsGates (file_number v) (closing_of v) w now = subst (λ (n : ℕ). TearsGates n (closing_of v) w now) (sym c.self.invariant.number) of_file in
    let torn = run_end (file_number v) (TornInFrom (GatesOf (IsOneOf (closing_of v))) (2 ^ 40) (file_of (file_number v) w)) w now tears in
    let shuts = subst (λ (l : List ℕ). EachImage (HaveGates 0 l (length l)) (file_of c.self.inside.file now)) closing c.in-Ok.ensures.done in
    let done : EachImage (HaveGates 0 (closing_of v) (length (closing_of v))) (file_of (file_number v) now) =
    subst (λ (n : ℕ). EachImage (HaveGates 0 (closing_of v) (length (closing_of v))) (file_of n now)) (sym c.self.invariant.number) shuts in
    let stays = c.keep_known.ensures ∙ kept_is v c.self.inside.file c.self.invariant idle slots first in
    let left : List Kept = c.keep_known.new.slots in
    subst (λ (b : BankState). ClosesTold b (with_kept v left) (file_of (file_number b) w) (file_of (file_number b) now)) c.self.view_is
    (closes_told v c.self.inside.file c.self.invariant idle (2 ^ 40) left (file_of (file_number v) w) (file_of (file_number v) now) stays torn done)

pub returns-in-Ok-clause-gates : goal.returns-in-Ok-clause-gates
returns-in-Ok-clause-gates g c =
    let v : BankState = record {
      extents = c.self.inside.extents;
      bank = c.self.inside.bank;
      mark = c.self.inside.mark;
      reached = c.self.inside.reached;
      phase = c.self.inside.phase;
      run = c.self.inside.run.items;
      slots = c.self.inside.slots;
    } in
    let w = g.S.Outside.world c.args.store.now in
    let now = g.S.Outside.world c.close_stale.new.store in
    let idle : v.phase ≡ Idle = subst (λ (b : BankState). b.phase ≡ Idle) (sym c.self.view_is) c.requires.idle in
    let closing : c.args.closing.now ≡ closing_of v = subst (λ (b : BankState). c.args.closing.now ≡ closing_of b) (sym c.self.view_is) c.requires.closing in
    let one : List Kept = c.note.new.self in
    let first : one ≡ map (with_gate (closing_of v) Doubtful) v.slots =
    c.note.ensures
    ∙ ap (λ (r : List ℕ). map (with_gate r Doubtful) v.slots) closing in
    let slots : List Kept = one in
    let stays = c.keep_known.ensures ∙ kept_is v c.self.inside.file c.self.invariant idle slots first in
    subst (All (λ (it : Kept). it.gate ≡ Open)) (sym stays) (stays_known v c.self.inside.file c.self.invariant idle)

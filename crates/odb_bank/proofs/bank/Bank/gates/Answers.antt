use Rattle.std.proofs.Common.{◌≡◌, ℕ, ◌^◌, ◌<◌, List, length, sym, ◌∙◌, ap, subst, arith, rules}
use Rattle.std.specs.Prelude.{map}
use Rattle.std.specs.List.{AllPairs}
use Rattle.odb_device.specs.World.{file_of}
use Rattle.odb_device.specs.Images.{EachImage}
use Rattle.odb_device.specs.Moments.{Runs}
use Rattle.odb_device.specs.TornSets.{TornInFrom}
use Rattle.odb_device.proofs.Time.{run_end}
use Rattle.odb_slots.specs.Slots.{OPEN}
use Rattle.odb_slots.specs.Sets.{GatesOf, IsOneOf, HaveGates}
use Rattle.odb_slots.specs.Tearing.{TearsGates}
use Rattle.odb_bank.specs.declared.kept.Gate.TheVariants.{Open, Doubtful}
use Rattle.odb_bank.specs.declared.kept.Kept.{Kept}
use Rattle.odb_bank.specs.declared.phase.Phase.{Phase}
use Rattle.odb_bank.specs.declared.phase.Phase.TheVariants.{Bodies, Gates}
use Rattle.odb_bank.specs.History.{History}
use Rattle.odb_bank.specs.Bank.{BankState, file_number, Stands, StandsFor, StandsByMark, IsSound}
use Rattle.odb_bank.specs.Gates.{with_gate, noted_as}
use Rattle.odb_bank.proofs.GateFiles.{with_slots, again_with, gates_doubt, gates_open, history_doubts, history_opens, gates_run, marked_so, sound_doubted, sound_open}
use Rattle.odb_bank.proofs.bank.Bank.gates.Goals as goal

pub invariant_of-self : goal.invariant_of-self
invariant_of-self g c =
    let v : BankState = record {
      extents = c.self.inside.extents;
      bank = c.self.inside.bank;
      mark = c.self.inside.mark;
      reached = c.self.inside.reached;
      phase = c.self.inside.phase;
      run = c.self.inside.run.items;
      slots = c.self.inside.slots;
    } in
    let one : List Kept = c.note_run.new.self in
    let first : one ≡ map (with_gate v.run Doubtful) v.slots =
    c.note_run.ensures ∙ ap (λ (r : List ℕ). map (with_gate r Doubtful) v.slots) c.deref.ensures.value in
    let phase : ◌≡◌ {A = Phase} c.self.inside.phase Bodies = search rules in
    let both : List Kept = c.note_run-in-Ok.new.self in
    let second : both ≡ map (with_gate v.run Open) (map (with_gate v.run Doubtful) v.slots) =
    c.note_run-in-Ok.ensures ∙ ap (λ (r : List ℕ). map (with_gate r Open) one) c.deref-in-Ok.ensures.value ∙ ap (map (with_gate v.run Open)) first in
    let slots : List Kept = both in
    sound_open c.self.inside.file v c.self.invariant phase slots second

pub returns-in-Err-clause-run : goal.returns-in-Err-clause-run
returns-in-Err-clause-run g c =
    let v : BankState = record {
      extents = c.self.inside.extents;
      bank = c.self.inside.bank;
      mark = c.self.inside.mark;
      reached = c.self.inside.reached;
      phase = c.self.inside.phase;
      run = c.self.inside.run.items;
      slots = c.self.inside.slots;
    } in
    let w = g.S.Outside.world c.args.store.now in
    let now = g.S.Outside.world c.open_gates.new.store in
    let of_run = subst (λ (l : List ℕ). TearsGates c.self.inside.file l w now) c.as_slice.ensures.value c.open_gates.ensures.run in
    let tears : TearsGates (file_number v) v.run w now = subst (λ (n : ℕ). TearsGates n v.run w now) (sym c.self.invariant.number) of_run in
    subst (λ (b : BankState). (h : History) → b.phase ≡ Bodies → StandsFor h b (file_of (file_number b) w) → Runs (file_number b) (EachImage (StandsByMark h b)) w now) c.self.view_is
    (λ h phase stands.
    let marked = marked_so c.self.inside.file v c.self.invariant phase c.limit-limit.ensures.holds (omega arith) in
    gates_run v c.self.inside.file c.self.invariant phase (2 ^ 40) marked h (file_number v) w now stands tears)

pub returns-in-Err-clause-stands : goal.returns-in-Err-clause-stands
returns-in-Err-clause-stands g c =
    let v : BankState = record {
      extents = c.self.inside.extents;
      bank = c.self.inside.bank;
      mark = c.self.inside.mark;
      reached = c.self.inside.reached;
      phase = c.self.inside.phase;
      run = c.self.inside.run.items;
      slots = c.self.inside.slots;
    } in
    let one : List Kept = c.note_run.new.self in
    let first : one ≡ map (with_gate v.run Doubtful) v.slots =
    c.note_run.ensures ∙ ap (λ (r : List ℕ). map (with_gate r Doubtful) v.slots) c.deref.ensures.value in
    let phase : ◌≡◌ {A = Phase} c.self.inside.phase Bodies = search rules in
    let w = g.S.Outside.world c.args.store.now in
    let now = g.S.Outside.world c.open_gates.new.store in
    let of_run = subst (λ (l : List ℕ). TearsGates c.self.inside.file l w now) c.as_slice.ensures.value c.open_gates.ensures.run in
    let tears : TearsGates (file_number v) v.run w now = subst (λ (n : ℕ). TearsGates n v.run w now) (sym c.self.invariant.number) of_run in
    let torn = run_end (file_number v) (TornInFrom (GatesOf (IsOneOf v.run)) (2 ^ 40) (file_of (file_number v) w)) w now tears in
    let slots : List Kept = one in
    let before : Stands v (file_of (file_number v) w) = subst (λ (b : BankState). Stands b (file_of (file_number b) w)) (sym c.self.view_is) c.requires in
    subst (λ (b : BankState). Stands (with_slots v v.phase slots) (file_of (file_number b) now)) c.self.view_is
    (gates_doubt v c.self.inside.file c.self.invariant phase (2 ^ 40) v.phase slots (file_of (file_number v) w) (file_of (file_number v) now) first before torn)

pub returns-in-Err-clause-history : goal.returns-in-Err-clause-history
returns-in-Err-clause-history g c =
    let v : BankState = record {
      extents = c.self.inside.extents;
      bank = c.self.inside.bank;
      mark = c.self.inside.mark;
      reached = c.self.inside.reached;
      phase = c.self.inside.phase;
      run = c.self.inside.run.items;
      slots = c.self.inside.slots;
    } in
    let one : List Kept = c.note_run.new.self in
    let first : one ≡ map (with_gate v.run Doubtful) v.slots =
    c.note_run.ensures ∙ ap (λ (r : List ℕ). map (with_gate r Doubtful) v.slots) c.deref.ensures.value in
    let phase : ◌≡◌ {A = Phase} c.self.inside.phase Bodies = search rules in
    let w = g.S.Outside.world c.args.store.now in
    let now = g.S.Outside.world c.open_gates.new.store in
    let of_run = subst (λ (l : List ℕ). TearsGates c.self.inside.file l w now) c.as_slice.ensures.value c.open_gates.ensures.run in
    let tears : TearsGates (file_number v) v.run w now = subst (λ (n : ℕ). TearsGates n v.run w now) (sym c.self.invariant.number) of_run in
    let torn = run_end (file_number v) (TornInFrom (GatesOf (IsOneOf v.run)) (2 ^ 40) (file_of (file_number v) w)) w now tears in
    let slots : List Kept = one in
    subst (λ (b : BankState). (h : History) → StandsFor h b (file_of (file_number b) w) → StandsFor h (with_slots v v.phase slots) (file_of (file_number b) now)) c.self.view_is
    (λ h stands. subst (λ (p : Phase). StandsFor h (with_slots v p slots) (file_of (file_number v) now)) (sym phase)
    (history_doubts v c.self.inside.file c.self.invariant phase (2 ^ 40) (marked_so c.self.inside.file v c.self.invariant phase c.limit-limit.ensures.holds (omega arith)) h slots (file_of (file_number v) w) (file_of (file_number v) now) first stands torn))

pub returns-in-Ok-clause-run : goal.returns-in-Ok-clause-run
returns-in-Ok-clause-run g c =
    let v : BankState = record {
      extents = c.self.inside.extents;
      bank = c.self.inside.bank;
      mark = c.self.inside.mark;
      reached = c.self.inside.reached;
      phase = c.self.inside.phase;
      run = c.self.inside.run.items;
      slots = c.self.inside.slots;
    } in
    let w = g.S.Outside.world c.args.store.now in
    let now = g.S.Outside.world c.open_gates.new.store in
    let of_run = subst (λ (l : List ℕ). TearsGates c.self.inside.file l w now) c.as_slice.ensures.value c.open_gates.ensures.run in
    let tears : TearsGates (file_number v) v.run w now = subst (λ (n : ℕ). TearsGates n v.run w now) (sym c.self.invariant.number) of_run in
    subst (λ (b : BankState). (h : History) → b.phase ≡ Bodies → StandsFor h b (file_of (file_number b) w) → Runs (file_number b) (EachImage (StandsByMark h b)) w now) c.self.view_is
    (λ h phase stands.
    let marked = marked_so c.self.inside.file v c.self.invariant phase c.limit-limit.ensures.holds (omega arith) in
    gates_run v c.self.inside.file c.self.invariant phase (2 ^ 40) marked h (file_number v) w now stands tears)

pub returns-in-Ok-clause-stands : goal.returns-in-Ok-clause-stands
returns-in-Ok-clause-stands g c =
    let v : BankState = record {
      extents = c.self.inside.extents;
      bank = c.self.inside.bank;
      mark = c.self.inside.mark;
      reached = c.self.inside.reached;
      phase = c.self.inside.phase;
      run = c.self.inside.run.items;
      slots = c.self.inside.slots;
    } in
    let one : List Kept = c.note_run.new.self in
    let first : one ≡ map (with_gate v.run Doubtful) v.slots =
    c.note_run.ensures ∙ ap (λ (r : List ℕ). map (with_gate r Doubtful) v.slots) c.deref.ensures.value in
    let phase : ◌≡◌ {A = Phase} c.self.inside.phase Bodies = search rules in
    let both : List Kept = c.note_run-in-Ok.new.self in
    let second : both ≡ map (with_gate v.run Open) (map (with_gate v.run Doubtful) v.slots) =
    c.note_run-in-Ok.ensures ∙ ap (λ (r : List ℕ). map (with_gate r Open) one) c.deref-in-Ok.ensures.value ∙ ap (map (with_gate v.run Open)) first in
    let slots : List Kept = both in
    let w = g.S.Outside.world c.args.store.now in
    let now = g.S.Outside.world c.open_gates.new.store in
    let of_run = subst (λ (l : List ℕ). TearsGates c.self.inside.file l w now) c.as_slice.ensures.value c.open_gates.ensures.run in
    let tears : TearsGates (file_number v) v.run w now = subst (λ (n : ℕ). TearsGates n v.run w now) (sym c.self.invariant.number) of_run in
    let torn = run_end (file_number v) (TornInFrom (GatesOf (IsOneOf v.run)) (2 ^ 40) (file_of (file_number v) w)) w now tears in
    let opens = subst (λ (l : List ℕ). EachImage (HaveGates OPEN l (length l)) (file_of c.self.inside.file now)) c.as_slice.ensures.value c.in-Ok.ensures.done in
    let done : EachImage (HaveGates OPEN v.run (length v.run)) (file_of (file_number v) now) = subst (λ (n : ℕ). EachImage (HaveGates OPEN v.run (length v.run)) (file_of n now)) (sym c.self.invariant.number) opens in
    let before : Stands v (file_of (file_number v) w) = subst (λ (b : BankState). Stands b (file_of (file_number b) w)) (sym c.self.view_is) c.requires in
    subst (λ (b : BankState). Stands (with_slots v Gates slots) (file_of (file_number b) now)) c.self.view_is
    (gates_open v c.self.inside.file c.self.invariant phase (2 ^ 40) Gates slots (file_of (file_number v) w) (file_of (file_number v) now) second before torn done)

pub returns-in-Ok-clause-history : goal.returns-in-Ok-clause-history
returns-in-Ok-clause-history g c =
    let v : BankState = record {
      extents = c.self.inside.extents;
      bank = c.self.inside.bank;
      mark = c.self.inside.mark;
      reached = c.self.inside.reached;
      phase = c.self.inside.phase;
      run = c.self.inside.run.items;
      slots = c.self.inside.slots;
    } in
    let one : List Kept = c.note_run.new.self in
    let first : one ≡ map (with_gate v.run Doubtful) v.slots =
    c.note_run.ensures ∙ ap (λ (r : List ℕ). map (with_gate r Doubtful) v.slots) c.deref.ensures.value in
    let phase : ◌≡◌ {A = Phase} c.self.inside.phase Bodies = search rules in
    let both : List Kept = c.note_run-in-Ok.new.self in
    let second : both ≡ map (with_gate v.run Open) (map (with_gate v.run Doubtful) v.slots) =
    c.note_run-in-Ok.ensures ∙ ap (λ (r : List ℕ). map (with_gate r Open) one) c.deref-in-Ok.ensures.value ∙ ap (map (with_gate v.run Open)) first in
    let slots : List Kept = both in
    let w = g.S.Outside.world c.args.store.now in
    let now = g.S.Outside.world c.open_gates.new.store in
    let of_run = subst (λ (l : List ℕ). TearsGates c.self.inside.file l w now) c.as_slice.ensures.value c.open_gates.ensures.run in
    let tears : TearsGates (file_number v) v.run w now = subst (λ (n : ℕ). TearsGates n v.run w now) (sym c.self.invariant.number) of_run in
    let torn = run_end (file_number v) (TornInFrom (GatesOf (IsOneOf v.run)) (2 ^ 40) (file_of (file_number v) w)) w now tears in
    let opens = subst (λ (l : List ℕ). EachImage (HaveGates OPEN l (length l)) (file_of c.self.inside.file now)) c.as_slice.ensures.value c.in-Ok.ensures.done in
    let done : EachImage (HaveGates OPEN v.run (length v.run)) (file_of (file_number v) now) = subst (λ (n : ℕ). EachImage (HaveGates OPEN v.run (length v.run)) (file_of n now)) (sym c.self.invariant.number) opens in
    subst (λ (b : BankState). (h : History) → StandsFor h b (file_of (file_number b) w) → StandsFor h (with_slots v Gates slots) (file_of (file_number b) now)) c.self.view_is
    (λ h stands. history_opens v c.self.inside.file c.self.invariant phase (2 ^ 40) (marked_so c.self.inside.file v c.self.invariant phase c.limit-limit.ensures.holds (omega arith)) h slots (file_of (file_number v) w) (file_of (file_number v) now) second stands torn done)

pub returns-in-Ok-clause-opened : goal.returns-in-Ok-clause-opened
returns-in-Ok-clause-opened g c =
    let v : BankState = record {
      extents = c.self.inside.extents;
      bank = c.self.inside.bank;
      mark = c.self.inside.mark;
      reached = c.self.inside.reached;
      phase = c.self.inside.phase;
      run = c.self.inside.run.items;
      slots = c.self.inside.slots;
    } in
    let one : List Kept = c.note_run.new.self in
    let first : one ≡ map (with_gate v.run Doubtful) v.slots =
    c.note_run.ensures ∙ ap (λ (r : List ℕ). map (with_gate r Doubtful) v.slots) c.deref.ensures.value in
    let both : List Kept = c.note_run-in-Ok.new.self in
    let second : both ≡ map (with_gate v.run Open) (map (with_gate v.run Doubtful) v.slots) =
    c.note_run-in-Ok.ensures ∙ ap (λ (r : List ℕ). map (with_gate r Open) one) c.deref-in-Ok.ensures.value ∙ ap (map (with_gate v.run Open)) first in
    let slots : List Kept = both in
    subst (λ (b : BankState). with_slots v Gates slots ≡ noted_as Gates Open b) c.self.view_is
    (ap (with_slots v Gates) (second ∙ again_with v.run v.slots))

pub invariant_of-self-in-Err : goal.invariant_of-self-in-Err
invariant_of-self-in-Err g c =
    let v : BankState = record {
      extents = c.self.inside.extents;
      bank = c.self.inside.bank;
      mark = c.self.inside.mark;
      reached = c.self.inside.reached;
      phase = c.self.inside.phase;
      run = c.self.inside.run.items;
      slots = c.self.inside.slots;
    } in
    let one : List Kept = c.note_run.new.self in
    let first : one ≡ map (with_gate v.run Doubtful) v.slots =
    c.note_run.ensures ∙ ap (λ (r : List ℕ). map (with_gate r Doubtful) v.slots) c.deref.ensures.value in
    let phase : ◌≡◌ {A = Phase} c.self.inside.phase Bodies = search rules in
    let slots : List Kept = one in
    subst (λ (p : Phase). IsSound c.self.inside.file (with_slots v p slots)) (sym phase) (sound_doubted c.self.inside.file v c.self.invariant phase slots first)

pub note_run-requires : goal.note_run-requires
note_run-requires g c = subst (AllPairs (λ (a b : ℕ). a < b)) (sym c.deref.ensures.value) c.self.invariant.run_ascending

pub note_run-requires-in-Ok : goal.note_run-requires-in-Ok
note_run-requires-in-Ok g c = subst (AllPairs (λ (a b : ℕ). a < b)) (sym c.deref-in-Ok.ensures.value) c.self.invariant.run_ascending

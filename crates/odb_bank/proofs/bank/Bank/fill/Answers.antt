use Rattle.std.proofs.Common.{◌≡◌, ◌≢◌, ℕ, ◌^◌, ◌<◌, List, ◌++◌, length, sym, subst, refl, arith}
use Rattle.std.specs.Prelude.{map}
use Rattle.std.specs.List.{All, AllPairs}
use Rattle.std.specs.List.Sorted.{IsPermutation}
use Rattle.std.proofs.lemmas.List.Sorted.{All-permutation}
use Rattle.std.proofs.lemmas.List.{length-map}
use Rattle.odb_device.specs.World.{file_of}
use Rattle.odb_device.specs.Images.{EachImage}
use Rattle.odb_device.specs.Moments.{Runs}
use Rattle.odb_device.specs.Told.{IfTold}
use Rattle.odb_device.specs.TornSets.{TornInFrom}
use Rattle.odb_device.proofs.Time.{run_end}
use Rattle.odb_slots.specs.Bodies.{IsInGrammar}
use Rattle.odb_slots.specs.Sets.{BodiesOf, HasSlot, HasItems, HasRoom}
use Rattle.odb_slots.specs.Tearing.{TearsBodies}
use Rattle.odb_slots.specs.declared.item.SlotItem.{SlotItem}
use Rattle.odb_model.specs.declared.entry.Entry.{Entry}
use Rattle.odb_bank.specs.declared.kept.Gate.TheVariants.{Open}
use Rattle.odb_bank.specs.declared.kept.Kept.{Kept}
use Rattle.odb_bank.specs.declared.phase.Phase.TheVariants.{Idle}
use Rattle.odb_bank.specs.Additions.{record_of}
use Rattle.odb_bank.specs.History.{History}
use Rattle.odb_bank.specs.Files.{StandsAt}
use Rattle.odb_bank.specs.Bank.{BankState, file_number, slot_limit, Stands, StandsFor}
use Rattle.odb_bank.specs.Begun.{with_run, HasRun, HasItsGate, KeepsTold, IsReady, AreTaken}
use Rattle.odb_bank.proofs.ClosingTurn.{marked_idle}
use Rattle.odb_bank.proofs.FillingFiles.{low_by, items_below, items_apart, items_grammar, items_room, gates_filled, filled_sound, fill_fails, fill_stands, fill_told, fill_history_fails, fill_history, fill_run}
use Rattle.odb_bank.proofs.FillingTurn.{assigned_by, unused_by, distinct_ascending}
use Rattle.odb_bank.proofs.bank.Bank.fill.Goals as goal

pub put_bodies-requires-clause-below : goal.put_bodies-requires-clause-below
put_bodies-requires-clause-below g c =
    let v : BankState = record {
      extents = c.self.inside.extents;
      bank = c.self.inside.bank;
      mark = c.self.inside.mark;
      reached = c.self.inside.reached;
      phase = c.self.inside.phase;
      run = c.self.inside.run.items;
      slots = c.self.inside.slots;
    } in
    let p = c.args.plan in
    let w = g.S.Outside.world c.args.store.now in
    let idle : v.phase ≡ Idle = subst (λ (b : BankState). b.phase ≡ Idle) (sym c.self.view_is) c.requires.idle in
    let gates : All (λ (it : Kept). it.gate ≡ Open) v.slots = subst (λ (b : BankState). All (λ (it : Kept). it.gate ≡ Open) b.slots) (sym c.self.view_is) c.requires.gates in
    let plan : IsReady v p = subst (λ (b : BankState). IsReady b p) (sym c.self.view_is) c.requires.plan in
    let records = map record_of p.additions.items in
    let assigned = assigned_by p.run.items records p.items.items p.kept.items (length p.additions.items) plan.free.as_many (length-map p.additions.items record_of) plan.items plan.keeps in
    let distinct = distinct_ascending p.run.items plan.free.ascending in
    let unused = unused_by v.slots (length p.additions.items) p.run.items plan.free in
    let low = low_by p.run.items (slot_limit v) plan.inside in
    subst (All (λ (item : SlotItem). item.slot < 4194304)) (sym c.as_slice.ensures.value) (items_below v c.self.inside.file c.self.invariant idle gates p.run.items records p.items.items p.kept.items assigned distinct low unused)

pub put_bodies-requires-clause-apart : goal.put_bodies-requires-clause-apart
put_bodies-requires-clause-apart g c =
    let v : BankState = record {
      extents = c.self.inside.extents;
      bank = c.self.inside.bank;
      mark = c.self.inside.mark;
      reached = c.self.inside.reached;
      phase = c.self.inside.phase;
      run = c.self.inside.run.items;
      slots = c.self.inside.slots;
    } in
    let p = c.args.plan in
    let w = g.S.Outside.world c.args.store.now in
    let idle : v.phase ≡ Idle = subst (λ (b : BankState). b.phase ≡ Idle) (sym c.self.view_is) c.requires.idle in
    let gates : All (λ (it : Kept). it.gate ≡ Open) v.slots = subst (λ (b : BankState). All (λ (it : Kept). it.gate ≡ Open) b.slots) (sym c.self.view_is) c.requires.gates in
    let plan : IsReady v p = subst (λ (b : BankState). IsReady b p) (sym c.self.view_is) c.requires.plan in
    let records = map record_of p.additions.items in
    let assigned = assigned_by p.run.items records p.items.items p.kept.items (length p.additions.items) plan.free.as_many (length-map p.additions.items record_of) plan.items plan.keeps in
    let distinct = distinct_ascending p.run.items plan.free.ascending in
    let unused = unused_by v.slots (length p.additions.items) p.run.items plan.free in
    let low = low_by p.run.items (slot_limit v) plan.inside in
    subst (AllPairs (λ (a b : SlotItem). a.slot ≢ b.slot)) (sym c.as_slice.ensures.value) (items_apart v c.self.inside.file c.self.invariant idle gates p.run.items records p.items.items p.kept.items assigned distinct low unused)

pub put_bodies-requires-clause-grammar : goal.put_bodies-requires-clause-grammar
put_bodies-requires-clause-grammar g c =
    let v : BankState = record {
      extents = c.self.inside.extents;
      bank = c.self.inside.bank;
      mark = c.self.inside.mark;
      reached = c.self.inside.reached;
      phase = c.self.inside.phase;
      run = c.self.inside.run.items;
      slots = c.self.inside.slots;
    } in
    let p = c.args.plan in
    let w = g.S.Outside.world c.args.store.now in
    let idle : v.phase ≡ Idle = subst (λ (b : BankState). b.phase ≡ Idle) (sym c.self.view_is) c.requires.idle in
    let gates : All (λ (it : Kept). it.gate ≡ Open) v.slots = subst (λ (b : BankState). All (λ (it : Kept). it.gate ≡ Open) b.slots) (sym c.self.view_is) c.requires.gates in
    let plan : IsReady v p = subst (λ (b : BankState). IsReady b p) (sym c.self.view_is) c.requires.plan in
    let records = map record_of p.additions.items in
    let assigned = assigned_by p.run.items records p.items.items p.kept.items (length p.additions.items) plan.free.as_many (length-map p.additions.items record_of) plan.items plan.keeps in
    let distinct = distinct_ascending p.run.items plan.free.ascending in
    let unused = unused_by v.slots (length p.additions.items) p.run.items plan.free in
    let low = low_by p.run.items (slot_limit v) plan.inside in
    subst (All IsInGrammar) (sym c.as_slice.ensures.value) (items_grammar v c.self.inside.file c.self.invariant idle gates p.run.items records p.items.items p.kept.items assigned distinct low unused)

pub put_bodies-requires-clause-room : goal.put_bodies-requires-clause-room
put_bodies-requires-clause-room g c =
    let v : BankState = record {
      extents = c.self.inside.extents;
      bank = c.self.inside.bank;
      mark = c.self.inside.mark;
      reached = c.self.inside.reached;
      phase = c.self.inside.phase;
      run = c.self.inside.run.items;
      slots = c.self.inside.slots;
    } in
    let p = c.args.plan in
    let w = g.S.Outside.world c.args.store.now in
    let idle : v.phase ≡ Idle = subst (λ (b : BankState). b.phase ≡ Idle) (sym c.self.view_is) c.requires.idle in
    let gates : All (λ (it : Kept). it.gate ≡ Open) v.slots = subst (λ (b : BankState). All (λ (it : Kept). it.gate ≡ Open) b.slots) (sym c.self.view_is) c.requires.gates in
    let plan : IsReady v p = subst (λ (b : BankState). IsReady b p) (sym c.self.view_is) c.requires.plan in
    let records = map record_of p.additions.items in
    let assigned = assigned_by p.run.items records p.items.items p.kept.items (length p.additions.items) plan.free.as_many (length-map p.additions.items record_of) plan.items plan.keeps in
    let distinct = distinct_ascending p.run.items plan.free.ascending in
    let unused = unused_by v.slots (length p.additions.items) p.run.items plan.free in
    let low = low_by p.run.items (slot_limit v) plan.inside in
    let before : Stands v (file_of (file_number v) w) = subst (λ (b : BankState). Stands b (file_of (file_number b) w)) (sym c.self.view_is) c.requires.stands in
    let room = items_room v c.self.inside.file c.self.invariant idle gates p.run.items records p.items.items p.kept.items assigned distinct low unused (file_of (file_number v) w) (g.met.S.Store.reads_image c.args.store.now (file_number v)) before in
    let at : IfTold (file_number v) w (HasRoom p.items.items) = room in
    subst (λ (n : ℕ). IfTold n w (HasRoom c.as_slice.result.now)) c.self.invariant.number (subst (λ (l : List SlotItem). IfTold (file_number v) w (HasRoom l)) (sym c.as_slice.ensures.value) at)

pub invariant_of-self : goal.invariant_of-self
invariant_of-self g c =
    let v : BankState = record {
      extents = c.self.inside.extents;
      bank = c.self.inside.bank;
      mark = c.self.inside.mark;
      reached = c.self.inside.reached;
      phase = c.self.inside.phase;
      run = c.self.inside.run.items;
      slots = c.self.inside.slots;
    } in
    let p = c.args.plan in
    let w = g.S.Outside.world c.args.store.now in
    let idle : v.phase ≡ Idle = subst (λ (b : BankState). b.phase ≡ Idle) (sym c.self.view_is) c.requires.idle in
    let gates : All (λ (it : Kept). it.gate ≡ Open) v.slots = subst (λ (b : BankState). All (λ (it : Kept). it.gate ≡ Open) b.slots) (sym c.self.view_is) c.requires.gates in
    let plan : IsReady v p = subst (λ (b : BankState). IsReady b p) (sym c.self.view_is) c.requires.plan in
    let records = map record_of p.additions.items in
    let assigned = assigned_by p.run.items records p.items.items p.kept.items (length p.additions.items) plan.free.as_many (length-map p.additions.items record_of) plan.items plan.keeps in
    let distinct = distinct_ascending p.run.items plan.free.ascending in
    let unused = unused_by v.slots (length p.additions.items) p.run.items plan.free in
    let low = low_by p.run.items (slot_limit v) plan.inside in
    let slots : List Kept = c.put_all.new.slots in
    let same : IsPermutation (v.slots ++ p.kept.items) slots = c.put_all.ensures in
    filled_sound v c.self.inside.file c.self.invariant idle gates p.run.items records p.items.items p.kept.items assigned distinct low unused slots p.reached same plan.reached plan.free.ascending

pub returns-in-Ok-clause-run : goal.returns-in-Ok-clause-run
returns-in-Ok-clause-run g c =
    let v : BankState = record {
      extents = c.self.inside.extents;
      bank = c.self.inside.bank;
      mark = c.self.inside.mark;
      reached = c.self.inside.reached;
      phase = c.self.inside.phase;
      run = c.self.inside.run.items;
      slots = c.self.inside.slots;
    } in
    let p = c.args.plan in
    let w = g.S.Outside.world c.args.store.now in
    let idle : v.phase ≡ Idle = subst (λ (b : BankState). b.phase ≡ Idle) (sym c.self.view_is) c.requires.idle in
    let gates : All (λ (it : Kept). it.gate ≡ Open) v.slots = subst (λ (b : BankState). All (λ (it : Kept). it.gate ≡ Open) b.slots) (sym c.self.view_is) c.requires.gates in
    let plan : IsReady v p = subst (λ (b : BankState). IsReady b p) (sym c.self.view_is) c.requires.plan in
    let records = map record_of p.additions.items in
    let assigned = assigned_by p.run.items records p.items.items p.kept.items (length p.additions.items) plan.free.as_many (length-map p.additions.items record_of) plan.items plan.keeps in
    let distinct = distinct_ascending p.run.items plan.free.ascending in
    let unused = unused_by v.slots (length p.additions.items) p.run.items plan.free in
    let low = low_by p.run.items (slot_limit v) plan.inside in
    let now = g.S.Outside.world c.put_bodies.new.store in
    let of_file = subst (λ (l : List SlotItem). TearsBodies c.self.inside.file l w now) c.as_slice.ensures.value c.put_bodies.ensures.run in
    let tears : TearsBodies (file_number v) p.items.items w now = subst (λ (n : ℕ). TearsBodies n p.items.items w now) (sym c.self.invariant.number) of_file in
    let marked = marked_idle v c.self.inside.file c.self.invariant idle c.limit-limit.ensures.holds (omega arith) in
    subst (λ (b : BankState). (h : History) → StandsFor h b (file_of (file_number b) w) → Runs (file_number b) (EachImage (StandsAt b.bank h b.mark)) w now) c.self.view_is
    (λ h stands. fill_run v c.self.inside.file c.self.invariant idle gates p.run.items records p.items.items p.kept.items assigned distinct low unused (2 ^ 40) marked h (file_number v) w now stands tears)

pub returns-in-Err-clause-run : goal.returns-in-Err-clause-run
returns-in-Err-clause-run g c =
    let v : BankState = record {
      extents = c.self.inside.extents;
      bank = c.self.inside.bank;
      mark = c.self.inside.mark;
      reached = c.self.inside.reached;
      phase = c.self.inside.phase;
      run = c.self.inside.run.items;
      slots = c.self.inside.slots;
    } in
    let p = c.args.plan in
    let w = g.S.Outside.world c.args.store.now in
    let idle : v.phase ≡ Idle = subst (λ (b : BankState). b.phase ≡ Idle) (sym c.self.view_is) c.requires.idle in
    let gates : All (λ (it : Kept). it.gate ≡ Open) v.slots = subst (λ (b : BankState). All (λ (it : Kept). it.gate ≡ Open) b.slots) (sym c.self.view_is) c.requires.gates in
    let plan : IsReady v p = subst (λ (b : BankState). IsReady b p) (sym c.self.view_is) c.requires.plan in
    let records = map record_of p.additions.items in
    let assigned = assigned_by p.run.items records p.items.items p.kept.items (length p.additions.items) plan.free.as_many (length-map p.additions.items record_of) plan.items plan.keeps in
    let distinct = distinct_ascending p.run.items plan.free.ascending in
    let unused = unused_by v.slots (length p.additions.items) p.run.items plan.free in
    let low = low_by p.run.items (slot_limit v) plan.inside in
    let now = g.S.Outside.world c.put_bodies.new.store in
    let of_file = subst (λ (l : List SlotItem). TearsBodies c.self.inside.file l w now) c.as_slice.ensures.value c.put_bodies.ensures.run in
    let tears : TearsBodies (file_number v) p.items.items w now = subst (λ (n : ℕ). TearsBodies n p.items.items w now) (sym c.self.invariant.number) of_file in
    let marked = marked_idle v c.self.inside.file c.self.invariant idle c.limit-limit.ensures.holds (omega arith) in
    subst (λ (b : BankState). (h : History) → StandsFor h b (file_of (file_number b) w) → Runs (file_number b) (EachImage (StandsAt b.bank h b.mark)) w now) c.self.view_is
    (λ h stands. fill_run v c.self.inside.file c.self.invariant idle gates p.run.items records p.items.items p.kept.items assigned distinct low unused (2 ^ 40) marked h (file_number v) w now stands tears)

pub returns-in-Err-clause-stands : goal.returns-in-Err-clause-stands
returns-in-Err-clause-stands g c =
    let v : BankState = record {
      extents = c.self.inside.extents;
      bank = c.self.inside.bank;
      mark = c.self.inside.mark;
      reached = c.self.inside.reached;
      phase = c.self.inside.phase;
      run = c.self.inside.run.items;
      slots = c.self.inside.slots;
    } in
    let p = c.args.plan in
    let w = g.S.Outside.world c.args.store.now in
    let idle : v.phase ≡ Idle = subst (λ (b : BankState). b.phase ≡ Idle) (sym c.self.view_is) c.requires.idle in
    let gates : All (λ (it : Kept). it.gate ≡ Open) v.slots = subst (λ (b : BankState). All (λ (it : Kept). it.gate ≡ Open) b.slots) (sym c.self.view_is) c.requires.gates in
    let plan : IsReady v p = subst (λ (b : BankState). IsReady b p) (sym c.self.view_is) c.requires.plan in
    let records = map record_of p.additions.items in
    let assigned = assigned_by p.run.items records p.items.items p.kept.items (length p.additions.items) plan.free.as_many (length-map p.additions.items record_of) plan.items plan.keeps in
    let distinct = distinct_ascending p.run.items plan.free.ascending in
    let unused = unused_by v.slots (length p.additions.items) p.run.items plan.free in
    let low = low_by p.run.items (slot_limit v) plan.inside in
    let now = g.S.Outside.world c.put_bodies.new.store in
    let of_file = subst (λ (l : List SlotItem). TearsBodies c.self.inside.file l w now) c.as_slice.ensures.value c.put_bodies.ensures.run in
    let tears : TearsBodies (file_number v) p.items.items w now = subst (λ (n : ℕ). TearsBodies n p.items.items w now) (sym c.self.invariant.number) of_file in
    let torn = run_end (file_number v) (TornInFrom (BodiesOf (HasSlot p.items.items)) (2 ^ 40) (file_of (file_number v) w)) w now tears in
    let before : Stands v (file_of (file_number v) w) = subst (λ (b : BankState). Stands b (file_of (file_number b) w)) (sym c.self.view_is) c.requires.stands in
    subst (λ (b : BankState). Stands b (file_of (file_number b) now)) c.self.view_is
    (fill_fails v c.self.inside.file c.self.invariant idle gates p.run.items records p.items.items p.kept.items assigned distinct low unused (2 ^ 40) (file_of (file_number v) w) (file_of (file_number v) now) before torn)

pub returns-in-Err-clause-history : goal.returns-in-Err-clause-history
returns-in-Err-clause-history g c =
    let v : BankState = record {
      extents = c.self.inside.extents;
      bank = c.self.inside.bank;
      mark = c.self.inside.mark;
      reached = c.self.inside.reached;
      phase = c.self.inside.phase;
      run = c.self.inside.run.items;
      slots = c.self.inside.slots;
    } in
    let p = c.args.plan in
    let w = g.S.Outside.world c.args.store.now in
    let idle : v.phase ≡ Idle = subst (λ (b : BankState). b.phase ≡ Idle) (sym c.self.view_is) c.requires.idle in
    let gates : All (λ (it : Kept). it.gate ≡ Open) v.slots = subst (λ (b : BankState). All (λ (it : Kept). it.gate ≡ Open) b.slots) (sym c.self.view_is) c.requires.gates in
    let plan : IsReady v p = subst (λ (b : BankState). IsReady b p) (sym c.self.view_is) c.requires.plan in
    let records = map record_of p.additions.items in
    let assigned = assigned_by p.run.items records p.items.items p.kept.items (length p.additions.items) plan.free.as_many (length-map p.additions.items record_of) plan.items plan.keeps in
    let distinct = distinct_ascending p.run.items plan.free.ascending in
    let unused = unused_by v.slots (length p.additions.items) p.run.items plan.free in
    let low = low_by p.run.items (slot_limit v) plan.inside in
    let now = g.S.Outside.world c.put_bodies.new.store in
    let of_file = subst (λ (l : List SlotItem). TearsBodies c.self.inside.file l w now) c.as_slice.ensures.value c.put_bodies.ensures.run in
    let tears : TearsBodies (file_number v) p.items.items w now = subst (λ (n : ℕ). TearsBodies n p.items.items w now) (sym c.self.invariant.number) of_file in
    let torn = run_end (file_number v) (TornInFrom (BodiesOf (HasSlot p.items.items)) (2 ^ 40) (file_of (file_number v) w)) w now tears in
    let marked = marked_idle v c.self.inside.file c.self.invariant idle c.limit-limit.ensures.holds (omega arith) in
    subst (λ (b : BankState). (h : History) (entries : List Entry) → StandsFor h b (file_of (file_number b) w) → AreTaken h b entries p → StandsFor h b (file_of (file_number b) now)) c.self.view_is
    (λ h entries stands taken. fill_history_fails v c.self.inside.file c.self.invariant idle gates p.run.items records p.items.items p.kept.items assigned distinct low unused (2 ^ 40) marked h (file_of (file_number v) w) (file_of (file_number v) now) stands torn)

pub returns-in-Ok-clause-stands : goal.returns-in-Ok-clause-stands
returns-in-Ok-clause-stands g c =
    let v : BankState = record {
      extents = c.self.inside.extents;
      bank = c.self.inside.bank;
      mark = c.self.inside.mark;
      reached = c.self.inside.reached;
      phase = c.self.inside.phase;
      run = c.self.inside.run.items;
      slots = c.self.inside.slots;
    } in
    let p = c.args.plan in
    let w = g.S.Outside.world c.args.store.now in
    let idle : v.phase ≡ Idle = subst (λ (b : BankState). b.phase ≡ Idle) (sym c.self.view_is) c.requires.idle in
    let gates : All (λ (it : Kept). it.gate ≡ Open) v.slots = subst (λ (b : BankState). All (λ (it : Kept). it.gate ≡ Open) b.slots) (sym c.self.view_is) c.requires.gates in
    let plan : IsReady v p = subst (λ (b : BankState). IsReady b p) (sym c.self.view_is) c.requires.plan in
    let records = map record_of p.additions.items in
    let assigned = assigned_by p.run.items records p.items.items p.kept.items (length p.additions.items) plan.free.as_many (length-map p.additions.items record_of) plan.items plan.keeps in
    let distinct = distinct_ascending p.run.items plan.free.ascending in
    let unused = unused_by v.slots (length p.additions.items) p.run.items plan.free in
    let low = low_by p.run.items (slot_limit v) plan.inside in
    let now = g.S.Outside.world c.put_bodies.new.store in
    let of_file = subst (λ (l : List SlotItem). TearsBodies c.self.inside.file l w now) c.as_slice.ensures.value c.put_bodies.ensures.run in
    let tears : TearsBodies (file_number v) p.items.items w now = subst (λ (n : ℕ). TearsBodies n p.items.items w now) (sym c.self.invariant.number) of_file in
    let torn = run_end (file_number v) (TornInFrom (BodiesOf (HasSlot p.items.items)) (2 ^ 40) (file_of (file_number v) w)) w now tears in
    let before : Stands v (file_of (file_number v) w) = subst (λ (b : BankState). Stands b (file_of (file_number b) w)) (sym c.self.view_is) c.requires.stands in
    let slots : List Kept = c.put_all.new.slots in
    let same : IsPermutation (v.slots ++ p.kept.items) slots = c.put_all.ensures in
    let bodies = subst (λ (l : List SlotItem). EachImage (HasItems l) (file_of c.self.inside.file now)) c.as_slice.ensures.value c.in-Ok.ensures.done in
    let done : EachImage (HasItems p.items.items) (file_of (file_number v) now) = subst (λ (n : ℕ). EachImage (HasItems p.items.items) (file_of n now)) (sym c.self.invariant.number) bodies in
    subst (λ (b : BankState). Stands (with_run v slots p.run.items p.reached) (file_of (file_number b) now)) c.self.view_is
    (fill_stands v c.self.inside.file c.self.invariant idle gates p.run.items records p.items.items p.kept.items assigned distinct low unused (2 ^ 40) slots p.reached (file_of (file_number v) w) (file_of (file_number v) now) same before torn done)

pub returns-in-Ok-clause-history : goal.returns-in-Ok-clause-history
returns-in-Ok-clause-history g c =
    let v : BankState = record {
      extents = c.self.inside.extents;
      bank = c.self.inside.bank;
      mark = c.self.inside.mark;
      reached = c.self.inside.reached;
      phase = c.self.inside.phase;
      run = c.self.inside.run.items;
      slots = c.self.inside.slots;
    } in
    let p = c.args.plan in
    let w = g.S.Outside.world c.args.store.now in
    let idle : v.phase ≡ Idle = subst (λ (b : BankState). b.phase ≡ Idle) (sym c.self.view_is) c.requires.idle in
    let gates : All (λ (it : Kept). it.gate ≡ Open) v.slots = subst (λ (b : BankState). All (λ (it : Kept). it.gate ≡ Open) b.slots) (sym c.self.view_is) c.requires.gates in
    let plan : IsReady v p = subst (λ (b : BankState). IsReady b p) (sym c.self.view_is) c.requires.plan in
    let records = map record_of p.additions.items in
    let assigned = assigned_by p.run.items records p.items.items p.kept.items (length p.additions.items) plan.free.as_many (length-map p.additions.items record_of) plan.items plan.keeps in
    let distinct = distinct_ascending p.run.items plan.free.ascending in
    let unused = unused_by v.slots (length p.additions.items) p.run.items plan.free in
    let low = low_by p.run.items (slot_limit v) plan.inside in
    let now = g.S.Outside.world c.put_bodies.new.store in
    let of_file = subst (λ (l : List SlotItem). TearsBodies c.self.inside.file l w now) c.as_slice.ensures.value c.put_bodies.ensures.run in
    let tears : TearsBodies (file_number v) p.items.items w now = subst (λ (n : ℕ). TearsBodies n p.items.items w now) (sym c.self.invariant.number) of_file in
    let torn = run_end (file_number v) (TornInFrom (BodiesOf (HasSlot p.items.items)) (2 ^ 40) (file_of (file_number v) w)) w now tears in
    let marked = marked_idle v c.self.inside.file c.self.invariant idle c.limit-limit.ensures.holds (omega arith) in
    let slots : List Kept = c.put_all.new.slots in
    let same : IsPermutation (v.slots ++ p.kept.items) slots = c.put_all.ensures in
    let bodies = subst (λ (l : List SlotItem). EachImage (HasItems l) (file_of c.self.inside.file now)) c.as_slice.ensures.value c.in-Ok.ensures.done in
    let done : EachImage (HasItems p.items.items) (file_of (file_number v) now) = subst (λ (n : ℕ). EachImage (HasItems p.items.items) (file_of n now)) (sym c.self.invariant.number) bodies in
    subst (λ (b : BankState). (h : History) (entries : List Entry) → StandsFor h b (file_of (file_number b) w) → AreTaken h b entries p → StandsFor h (with_run v slots p.run.items p.reached) (file_of (file_number b) now)) c.self.view_is
    (λ h entries stands taken. subst (λ (n : ℕ). StandsFor h (with_run v slots p.run.items n) (file_of (file_number v) now)) (sym taken.reached)
    (fill_history v c.self.inside.file c.self.invariant idle gates p.run.items records p.items.items p.kept.items assigned distinct low unused (2 ^ 40) marked h entries taken.numbers taken.of_history taken.latest slots (file_of (file_number v) w) (file_of (file_number v) now) same stands torn done))

pub returns-in-Ok-clause-filled : goal.returns-in-Ok-clause-filled
returns-in-Ok-clause-filled g c =
    let v : BankState = record {
      extents = c.self.inside.extents;
      bank = c.self.inside.bank;
      mark = c.self.inside.mark;
      reached = c.self.inside.reached;
      phase = c.self.inside.phase;
      run = c.self.inside.run.items;
      slots = c.self.inside.slots;
    } in
    let p = c.args.plan in
    let w = g.S.Outside.world c.args.store.now in
    let idle : v.phase ≡ Idle = subst (λ (b : BankState). b.phase ≡ Idle) (sym c.self.view_is) c.requires.idle in
    let gates : All (λ (it : Kept). it.gate ≡ Open) v.slots = subst (λ (b : BankState). All (λ (it : Kept). it.gate ≡ Open) b.slots) (sym c.self.view_is) c.requires.gates in
    let plan : IsReady v p = subst (λ (b : BankState). IsReady b p) (sym c.self.view_is) c.requires.plan in
    let records = map record_of p.additions.items in
    let assigned = assigned_by p.run.items records p.items.items p.kept.items (length p.additions.items) plan.free.as_many (length-map p.additions.items record_of) plan.items plan.keeps in
    let distinct = distinct_ascending p.run.items plan.free.ascending in
    let unused = unused_by v.slots (length p.additions.items) p.run.items plan.free in
    let low = low_by p.run.items (slot_limit v) plan.inside in
    let slots : List Kept = c.put_all.new.slots in
    let same : IsPermutation (v.slots ++ p.kept.items) slots = c.put_all.ensures in
    subst (λ (b : BankState). HasRun b p.kept.items p.run.items p.reached (with_run v slots p.run.items p.reached)) c.self.view_is
    (record { slots = same; is = refl })

pub returns-in-Ok-clause-closed : goal.returns-in-Ok-clause-closed
returns-in-Ok-clause-closed g c =
    let v : BankState = record {
      extents = c.self.inside.extents;
      bank = c.self.inside.bank;
      mark = c.self.inside.mark;
      reached = c.self.inside.reached;
      phase = c.self.inside.phase;
      run = c.self.inside.run.items;
      slots = c.self.inside.slots;
    } in
    let p = c.args.plan in
    let w = g.S.Outside.world c.args.store.now in
    let idle : v.phase ≡ Idle = subst (λ (b : BankState). b.phase ≡ Idle) (sym c.self.view_is) c.requires.idle in
    let gates : All (λ (it : Kept). it.gate ≡ Open) v.slots = subst (λ (b : BankState). All (λ (it : Kept). it.gate ≡ Open) b.slots) (sym c.self.view_is) c.requires.gates in
    let plan : IsReady v p = subst (λ (b : BankState). IsReady b p) (sym c.self.view_is) c.requires.plan in
    let records = map record_of p.additions.items in
    let assigned = assigned_by p.run.items records p.items.items p.kept.items (length p.additions.items) plan.free.as_many (length-map p.additions.items record_of) plan.items plan.keeps in
    let distinct = distinct_ascending p.run.items plan.free.ascending in
    let unused = unused_by v.slots (length p.additions.items) p.run.items plan.free in
    let low = low_by p.run.items (slot_limit v) plan.inside in
    let slots : List Kept = c.put_all.new.slots in
    let same : IsPermutation (v.slots ++ p.kept.items) slots = c.put_all.ensures in
    All-permutation (HasItsGate p.run.items) (v.slots ++ p.kept.items) slots same (gates_filled v c.self.inside.file c.self.invariant idle gates p.run.items records p.items.items p.kept.items assigned distinct low unused)

pub returns-in-Ok-clause-told : goal.returns-in-Ok-clause-told
returns-in-Ok-clause-told g c =
    let v : BankState = record {
      extents = c.self.inside.extents;
      bank = c.self.inside.bank;
      mark = c.self.inside.mark;
      reached = c.self.inside.reached;
      phase = c.self.inside.phase;
      run = c.self.inside.run.items;
      slots = c.self.inside.slots;
    } in
    let p = c.args.plan in
    let w = g.S.Outside.world c.args.store.now in
    let idle : v.phase ≡ Idle = subst (λ (b : BankState). b.phase ≡ Idle) (sym c.self.view_is) c.requires.idle in
    let gates : All (λ (it : Kept). it.gate ≡ Open) v.slots = subst (λ (b : BankState). All (λ (it : Kept). it.gate ≡ Open) b.slots) (sym c.self.view_is) c.requires.gates in
    let plan : IsReady v p = subst (λ (b : BankState). IsReady b p) (sym c.self.view_is) c.requires.plan in
    let records = map record_of p.additions.items in
    let assigned = assigned_by p.run.items records p.items.items p.kept.items (length p.additions.items) plan.free.as_many (length-map p.additions.items record_of) plan.items plan.keeps in
    let distinct = distinct_ascending p.run.items plan.free.ascending in
    let unused = unused_by v.slots (length p.additions.items) p.run.items plan.free in
    let low = low_by p.run.items (slot_limit v) plan.inside in
    let now = g.S.Outside.world c.put_bodies.new.store in
    let of_file = subst (λ (l : List SlotItem). TearsBodies c.self.inside.file l w now) c.as_slice.ensures.value c.put_bodies.ensures.run in
    let tears : TearsBodies (file_number v) p.items.items w now = subst (λ (n : ℕ). TearsBodies n p.items.items w now) (sym c.self.invariant.number) of_file in
    let torn = run_end (file_number v) (TornInFrom (BodiesOf (HasSlot p.items.items)) (2 ^ 40) (file_of (file_number v) w)) w now tears in
    let slots : List Kept = c.put_all.new.slots in
    let same : IsPermutation (v.slots ++ p.kept.items) slots = c.put_all.ensures in
    let bodies = subst (λ (l : List SlotItem). EachImage (HasItems l) (file_of c.self.inside.file now)) c.as_slice.ensures.value c.in-Ok.ensures.done in
    let done : EachImage (HasItems p.items.items) (file_of (file_number v) now) = subst (λ (n : ℕ). EachImage (HasItems p.items.items) (file_of n now)) (sym c.self.invariant.number) bodies in
    subst (λ (b : BankState). KeepsTold b (with_run v slots p.run.items p.reached) (file_of (file_number b) w) (file_of (file_number b) now)) c.self.view_is
    (fill_told v c.self.inside.file c.self.invariant idle gates p.run.items records p.items.items p.kept.items assigned distinct low unused (2 ^ 40) slots p.reached (file_of (file_number v) w) (file_of (file_number v) now) same torn done)

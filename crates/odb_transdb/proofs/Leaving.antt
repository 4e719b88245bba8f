-- What the parts of an opening leave, from what the calls below them leave.
use Rattle.std.proofs.Common.{◌≡◌, ◌≢◌, inr, ℕ, ◌+◌, ◌<◌, ◌≤◌, false, List, [], length, Option, Some, None, Result, Ok, Err, refl, sym, ◌∙◌, ap, subst, arith}
use Rattle.std.specs.Prelude.{is_some, option_map, IfSome, IfOk}
use Rattle.std.proofs.lemmas.Bool.{false≢true}
use Rattle.odb_device.specs.World.{File, World, file_of}
use Rattle.odb_device.specs.Images.{IsImage, EachImage, ReadsImage, Torn, TornFrom, kept}
use Rattle.odb_device.specs.Zeros.{AreZero}
use Rattle.odb_device.specs.Calls.{Keeps}
use Rattle.odb_device.specs.Moments.{WritesWithin}
use Rattle.odb_device.proofs.Time.{weakens, run_end}
use Rattle.odb_device.proofs.Torn.{each_weakens}
use Rattle.odb_reclog.specs.Told.{IfTold, OnlyReads}
use Rattle.odb_reclog.specs.Records.{log_of, end_of_list}
use Rattle.odb_reclog.specs.Regions.{region, KeepsListFrom, TearsOpenEnd, IsOpened as IsRegionOpened}
use Rattle.odb_reclog.specs.Standing.{Log, Stands as LogStands, list_of, list_in}
use Rattle.odb_model.specs.declared.entry.Entry.{Entry}
use Rattle.odb_model.specs.declared.side.OtherSide.{OtherSide}
use Rattle.odb_model.specs.declared.side.OtherSide.TheVariants.{Live, Dirty, Clean}
use Rattle.odb_transdb.specs.declared.header.Header.{Header}
use Rattle.odb_transdb.specs.declared.error.TransdbError.{TransdbError}
use Rattle.odb_transdb.specs.declared.error.TransdbError.TheVariants.{NoDatabase, Fault}
use Rattle.odb_transdb.specs.Header.{side_start, side_end, first_on, first_by, active_first, other_of}
use Rattle.odb_transdb.specs.Opened.{side_list, entries_from, entries_in}
use Rattle.odb_transdb.specs.Opening.{IsLiveLog}
use Rattle.odb_transdb.specs.Standing.{Db, Stands, IsPlaced, IsOfSide, IsLiveBy}
use Rattle.odb_transdb.specs.Walking.{live_read}
use Rattle.odb_transdb.specs.Answers.{IsReadRefusal, KeepsOpened}
use Rattle.odb_transdb.specs.Worlds.{OpensAsBefore, OnlyClosesGates, HasClosedGates, SameEntries, HasClearTail, LeavesOpened}
use Rattle.odb_transdb.specs.Leaving.{LeavesSide, LeavesOther, IsSideOpened, IsLiveOpened}
use Rattle.odb_transdb.proofs.Standing.{log_list, stands_log}
use Rattle.odb_transdb.proofs.Opens.{side_ends, gates_none}

-- the payloads of an opened side are those of the file that is left, too
still_list : (h : Header) (side : ℕ) (log : Log) (payloads : List (List ℕ)) (o now : Option File) → IsOfSide h side log → is_some now ≡ is_some o → IfSome o (λ f. payloads ≡ side_list h side f.bytes)
    → list_of log now ≡ list_in log.start log.end log.first o → IfSome now (λ f. payloads ≡ side_list h side f.bytes)
still_list h side log payloads None None is told read same = tt
still_list h side log payloads None (Some g) is told read same = absurd (false≢true (sym told))
still_list h side log payloads (Some f) None is told read same = tt
still_list h side log payloads (Some f) (Some g) is told read same = read ∙ sym (log_list h side log f.bytes is) ∙ sym same ∙ log_list h side log g.bytes is

-- the log of a region that is a side
module _ (h : Header) (side start end first : ℕ) (is_start : start ≡ side_start h side) (is_end : end ≡ side_end h side) (is_first : first ≡ first_on h side) (w now : World) where
  at_side : (P : ℕ → ℕ → ℕ → Type 0) → P start end first → P (side_start h side) (side_end h side) (first_on h side)
  at_side P here = subst (λ (s : ℕ). P s (side_end h side) (first_on h side)) is_start (subst (λ (e : ℕ). P start e (first_on h side)) is_end (subst (λ (n : ℕ). P start end n) is_first here))

  pub side_left : {T : Type 0} (result : Result T TransdbError) → KeepsListFrom start (region 0 start end first) w now → TearsOpenEnd (region 0 start end first) w now → (result ≢ Err Fault → HasClosedGates w now)
      → LeavesSide h side result w now
  side_left result run gate closed = record {
    run = at_side (λ (s e n : ℕ). KeepsListFrom s (region 0 s e n) w now) run;
    gate = at_side (λ (s e n : ℕ). TearsOpenEnd (region 0 s e n) w now) gate;
    closed = closed;
  }

  pub side_opened : (log : Log) (payloads : List (List ℕ)) → IsRegionOpened (region 0 start end first) log w now → IfTold 0 w (λ bytes. payloads ≡ log_of start end first bytes)
      → (first + length payloads ≡ log.next) × (end_of_list start payloads ≡ log.place) → is_some (file_of 0 now) ≡ is_some (file_of 0 w) → ReadsImage (file_of 0 now) → IsSideOpened h side log payloads w now
  side_opened log payloads found told count still reads =
      let is : IsOfSide h side log = record { file = found.file; start = found.start ∙ is_start; end = found.end ∙ is_end; first = found.first ∙ is_first } in
      let same : list_of log (file_of 0 now) ≡ list_in log.start log.end log.first (file_of 0 w) =
      subst (λ (s : ℕ). list_of log (file_of 0 now) ≡ list_in s log.end log.first (file_of 0 w)) (sym found.start)
      (subst (λ (e : ℕ). list_of log (file_of 0 now) ≡ list_in start e log.first (file_of 0 w)) (sym found.end)
      (subst (λ (n : ℕ). list_of log (file_of 0 now) ≡ list_in start end n (file_of 0 w)) (sym found.first) found.list)) in
      let read : IfTold 0 w (λ bytes. payloads ≡ side_list h side bytes) = at_side (λ (s e n : ℕ). IfTold 0 w (λ bytes. payloads ≡ log_of s e n bytes)) told in
      record {
        stands = found.stands;
        of_side = is;
        usable = found.in_doubt;
        ends = side_ends h side log (file_of 0 w) (file_of 0 now) is still reads found.stands same;
        payloads_are = read;
        still = still_list h side log payloads (file_of 0 w) (file_of 0 now) is still read same;
        count = record { number = ap (λ (n : ℕ). n + length payloads) (sym is_first) ∙ count.0; place = ap (λ (s : ℕ). end_of_list s payloads) (sym is_start) ∙ count.1 };
      }

-- what a side's opening left is left where a later part refuses, too
pub left_then : {T U : Type 0} (h : Header) (side : ℕ) (first : Result T TransdbError) (result : Result U TransdbError) (w now : World) → (result ≢ Err Fault → first ≢ Err Fault) → LeavesSide h side first w now
    → LeavesSide h side result w now
left_then h side first result w now whole left = record { run = left.run; gate = left.gate; closed = λ other. left.closed (whole other) }

pub live_left : {T U : Type 0} (h : Header) (side : ℕ) (first : Result T TransdbError) (result : Result U TransdbError) (w now : World) → h.other ≡ Live → side ≡ other_of h → (result ≢ Err Fault → first ≢ Err Fault)
    → LeavesSide h side first w now → LeavesOther h result w now
live_left h side first result w now is at whole left =
    let there : LeavesSide h (other_of h) first w now = subst (λ (s : ℕ). LeavesSide h s first w now) at left in
    record { live = λ _. there.run; gate = λ _. there.gate; quiet = λ other. absurd (other is); closed = λ other. there.closed (whole other) }

pub none_left : {U : Type 0} (h : Header) (result : Result U TransdbError) (w now : World) → h.other ≢ Live → OnlyReads 0 w now → file_of 0 now ≡ file_of 0 w → LeavesOther h result w now
none_left h result w now other reads same = record {
  live = λ is. absurd (other is);
  gate = λ is. absurd (other is);
  quiet = λ _. reads;
  closed = λ _. gates_none (file_of 0 w) (file_of 0 now) same;
}

-- what a Live side holds
pub live_log : (h : Header) (log : Log) → h.other ≡ Live → IsOfSide h (other_of h) log → log.next ≡ active_first h → log.in_doubt ≡ false → IsLiveLog h (Some log)
live_log h log live is next usable = λ active first. subst (λ (s : OtherSide). IsLiveBy h s (Some log) active) (sym live) (is, next ∙ sym first, usable)

pub live_reads : (h : Header) (o : Option File) (payloads : List (List ℕ)) (items : List Entry) → h.other ≡ Live → IfSome o (λ f. payloads ≡ side_list h (other_of h) f.bytes)
    → entries_from (first_on h (other_of h)) (side_start h (other_of h)) payloads ≡ Ok items → IfSome o (λ f. live_read h h.other f.bytes ≡ Ok items)
live_reads h None payloads items live read found = tt
live_reads h (Some f) payloads items live read found =
    ap (λ (s : OtherSide). live_read h s f.bytes) live ∙ ap (entries_from (first_on h (other_of h)) (side_start h (other_of h))) (sym read) ∙ found

-- any other holds nothing
of_any : (o : Option File) (P : File → Type 0) → ((f : File) → P f) → IfSome o P
of_any None P each = tt
of_any (Some f) P each = each f

pub none_opened : (h : Header) (entries : List Entry) (w : World) → h.other ≢ Live → entries ≡ [] → IsLiveOpened h None entries w
none_opened h entries w other none = subst (λ (es : List Entry). IsLiveOpened h None es w) (sym none) (of_state h.other refl)
  where
    of_state : (s : OtherSide) → h.other ≡ s → IsLiveOpened h None [] w
    of_state Live is = absurd (other is)
    of_state Dirty is = record {
      log = λ active first. subst (λ (s : OtherSide). IsLiveBy h s None active) (sym is) tt;
      stands = tt;
      read = of_any (file_of 0 w) (λ f. live_read h h.other f.bytes ≡ Ok []) (λ f. ap (λ (s : OtherSide). live_read h s f.bytes) is);
      numbers = (tt, omega (arith, ap (first_by h) is));
    }
    of_state Clean is = record {
      log = λ active first. subst (λ (s : OtherSide). IsLiveBy h s None active) (sym is) tt;
      stands = tt;
      read = of_any (file_of 0 w) (λ f. live_read h h.other f.bytes ≡ Ok []) (λ f. ap (λ (s : OtherSide). live_read h s f.bytes) is);
      numbers = (tt, omega (arith, ap (first_by h) is));
    }

-- a look at the file leaves each image
same_opens : (o p : Option File) → p ≡ o → KeepsOpened o p
same_opens None p is = is
same_opens (Some f) p is = subst (KeepsOpened (Some f)) (sym is) (λ image one. (image, one, refl))

pub reads_opens : (w now : World) → OnlyReads 0 w now → OpensAsBefore w now
reads_opens w now reads = weakens 0 (λ f. f ≡ file_of 0 w) (KeepsOpened (file_of 0 w)) w now (λ o is. same_opens (file_of 0 w) o is) reads

-- a reading never finds that there is no database
pub never_none : (T : Type 0) (e : TransdbError) → IsReadRefusal {T = T} (Err e) → e ≡ NoDatabase → ⊥
never_none T e refusal is = subst (λ (x : TransdbError). IsReadRefusal {T = T} (Err x)) is refusal

-- an opening that refuses so
pub refused_left : {T : Type 0} (r : Result T TransdbError) (e : TransdbError) (w now : World) → r ≡ Err e → OpensAsBefore w now → OnlyClosesGates w now → (e ≢ Fault → HasClosedGates w now) → (e ≡ NoDatabase → Keeps 0 w now)
    → LeavesOpened r w now
refused_left {T = T} r e w now is run gates closed nothing = record {
  run = run;
  gates = gates;
  closed = λ other. closed (λ same. other (is ∙ ap Err same));
  nothing = λ none. nothing (cc (sym is ∙ none));
  entries = subst (λ (x : Result T TransdbError). IfOk x (λ _. SameEntries w now)) (sym is) tt;
}

-- one that is done
pub done_left : {T : Type 0} (x : T) (w now : World) → OpensAsBefore w now → OnlyClosesGates w now → HasClosedGates w now → SameEntries w now → LeavesOpened (Ok x) w now
done_left x w now run gates closed same = record { run = run; gates = gates; closed = λ _. closed; nothing = λ none. absurd (cc none); entries = same }

-- the same, handed on
pub opened_left : {T U : Type 0} (r : Result T TransdbError) (x : T) (y : U) (w now : World) → r ≡ Ok x → LeavesOpened r w now → LeavesOpened (Ok y) w now
opened_left {T = T} r x y w now is left =
    done_left y w now left.run left.gates (left.closed (λ same. absurd (cc (is, same)))) (subst (λ (o : Result T TransdbError). IfOk o (λ _. SameEntries w now)) is left.entries)

pub error_left : {T U : Type 0} (r : Result T TransdbError) (e : TransdbError) (w now : World) → r ≡ Err e → LeavesOpened r w now → LeavesOpened {T = U} (Err e) w now
error_left r e w now is left = refused_left (Err e) e w now refl left.run left.gates (λ other. left.closed (λ same. other (cc (is, same)))) (λ none. left.nothing (is ∙ ap Err none))

-- the entries of what is on the disk are those that were read
entries_kept : (o now : Option File) → now ≡ option_map kept o → entries_in now ≡ entries_in o
entries_kept None now is = ap entries_in is
entries_kept (Some f) now is = ap entries_in is

pub behind_kept : {T : Type 0} (r : Result T TransdbError) (w mid now : World) → file_of 0 mid ≡ option_map kept (file_of 0 w) → IfOk r (λ _. SameEntries mid now) → IfOk r (λ _. SameEntries w now)
behind_kept (Ok x) w mid now is same = same ∙ entries_kept (file_of 0 w) (file_of 0 mid) is
behind_kept (Err e) w mid now is same = tt

-- from where the list of a log ends all is zeros
abbrev IsClearIn : ℕ → ℕ → ℕ → List ℕ → Type 0
IsClearIn start end first image = AreZero (end_of_list start (log_of start end first image)) end image

clear_log : (log : Log) (from end : ℕ) (o : Option File) → log.place ≡ from → log.end ≡ end → LogStands log o → EachImage (AreZero from end) o → EachImage (IsClearIn log.start log.end log.first) o
clear_log log from end None at ends stands zeros = tt
clear_log log from end (Some f) at ends stands zeros = λ image is. λ i low high.
    let one = stands image is in
    let place : end_of_list log.start (log_of log.start log.end log.first image) ≡ log.place = ap (end_of_list log.start) one.list ∙ one.place in
    zeros image is i (omega (arith, place, at, low)) (omega (arith, ends, high))

-- what was zeros behind a body is so when nothing but its gate was written
zeros_kept : (log : Log) (o p : Option File) → LogStands log o → TornFrom log.place 1 o p → EachImage (AreZero log.clear_from log.end) p
zeros_kept log None p stands torn = subst (EachImage (AreZero log.clear_from log.end)) (sym torn) tt
zeros_kept log (Some f) p stands torn =
    each_weakens (λ image. (before : List ℕ) × IsImage f before × Torn log.place 1 before image) (AreZero log.clear_from log.end) p
    (λ image b. λ i from to.
    let one = stands b.0 b.1 in
    let inside : i < length b.0 = omega (arith, one.long, to) in
    let behind : log.place + 1 ≤ i = omega (arith, one.in_range.clear_from, from) in
    b.2.outside i inside (inr behind) ∙ one.clear i from to) torn

-- a record was put behind a clear tail: `mid` stood at its gate
pub clear_tail : (old mid new : Db) (m now : World) → IsPlaced old → IsPlaced mid → IsPlaced new → mid.header ≡ old.header → new.header ≡ old.header → Stands mid (file_of 0 m) → WritesWithin 0 mid.active.place 1 m now
    → Stands new (file_of 0 now) → new.active.place ≡ mid.active.clear_from → HasClearTail old now
clear_tail old mid new m now before between after same header ready only stands moved =
    let o = file_of 0 m in
    let p = file_of 0 now in
    let log = new.active in
    let side : IsOfSide old.header old.header.active log = subst (λ (h : Header). IsOfSide h h.active log) header after.side in
    let mid_side : IsOfSide old.header old.header.active mid.active = subst (λ (h : Header). IsOfSide h h.active mid.active) same between.side in
    let zeros = zeros_kept mid.active o p (stands_log mid o ready) (run_end 0 (TornFrom mid.active.place 1 o) m now only) in
    subst (λ (s : ℕ). EachImage (IsClearIn s old.active.end old.active.first) p) (side.start ∙ sym before.side.start)
    (subst (λ (e : ℕ). EachImage (IsClearIn log.start e old.active.first) p) (side.end ∙ sym before.side.end)
    (subst (λ (n : ℕ). EachImage (IsClearIn log.start log.end n) p) (side.first ∙ sym before.side.first)
    (clear_log log mid.active.clear_from mid.active.end p moved (side.end ∙ sym mid_side.end) (stands_log new p stands) zeros)))

-- From what is read of slots to the records of the file.
use Rattle.std.proofs.Common.{◌≡◌, inl, inr, ℕ, suc, ◌+◌, ◌-◌, ◌*◌, ◌/◌, ◌<◌, ◌≤◌, List, [], ◌∷◌, ◌++◌, length, take, drop, Option, Some, None, Result, Ok, Err, sym, ◌∙◌, ap, subst, refl, arith, length-take}
use Rattle.std.specs.Prelude.{slice_index, IfSome, ⊤}
use Rattle.std.proofs.lemmas.Bool.{cases_eq, eq-eqb}
use Rattle.std.proofs.lemmas.List.{drop-take, take-take, drop-drop}
use Rattle.std.proofs.lemmas.List.Elements.{All-push, All-weaker}
use Rattle.std.proofs.lemmas.List.Quantifiers.{all_pairs_push}
use Rattle.odb_device.specs.World.{File, World, file_of}
use Rattle.odb_device.specs.Images.{part}
use Rattle.odb_device.specs.Calls.{CallsOn, Stays, HasRead}
use Rattle.odb_device.specs.Told.{IfTold, OnlyReads}
use Rattle.odb_device.proofs.Bytes.{part_at}
use Rattle.odb_device.proofs.Time.{begins, goes_on, run_end, reads_then}
use Rattle.odb_slots.specs.Slots.{OPEN, slot_place, gate_at, body_at, behind}
use Rattle.odb_slots.specs.Bodies.{IsInGrammar, item_in}
use Rattle.odb_slots.specs.Views.{item_of, spelled, added, records_in, IsMalformed}
use Rattle.odb_slots.specs.Answers.{IsAnswer, IsSlotOf, IsItemOf, AreRecords, IsScanOf, IsPieceOf, AreItems}
use Rattle.odb_slots.specs.declared.error.SlotError.{SlotError}
use Rattle.odb_slots.specs.declared.error.SlotError.TheVariants.{Fault, Malformed, NoMemory}
use Rattle.odb_slots.specs.declared.item.SlotItem.{SlotItem}

-- one read
pub reads_one : (file : ℕ) (old new : World) → CallsOn file old new → Stays file old new → OnlyReads file old new
reads_one file old new call same = goes_on file (λ f. f ≡ file_of file old) old old new (begins file (λ f. f ≡ file_of file old) old refl) call same

-- a part of a part
part-part : (at m i n : ℕ) (bytes : List ℕ) → i + n ≤ m → part i n (part at m bytes) ≡ part (at + i) n bytes
part-part at m i n bytes within =
    let rest = m - i in
    let all : m ≡ i + rest = omega arith in
    ap (λ (k : ℕ). take n (drop i (take k (drop at bytes)))) all
    ∙ ap (take n) (drop-take i rest (drop at bytes) ∙ ap (take rest) (drop-drop i at bytes))
    ∙ take-take n rest (drop (at + i) bytes) (omega arith)

-- the bytes of a slot have its gate and its body
gate_read : (n : ℕ) (file bytes : List ℕ) → part (slot_place n) 1024 file ≡ bytes → slice_index bytes 0 ≡ gate_at n file
unfolding gate_at
gate_read n file bytes is =
    let there : slot_place n + 0 ≡ slot_place n = omega arith in
    sym (ap (λ (l : List ℕ). slice_index l 0) is) ∙ part_at (slot_place n) 1024 file 0 (omega arith) ∙ ap (slice_index file) there

body_read : (n : ℕ) (file bytes : List ℕ) → part (slot_place n) 1024 file ≡ bytes → part 1 1023 bytes ≡ body_at n file
unfolding body_at
body_read n file bytes is = sym (ap (part 1 1023) is) ∙ part-part (slot_place n) 1024 1 1023 file (omega arith)

answer_moves : (slot gate there : ℕ) (it other : Option SlotItem) (result : Result (Option SlotItem) SlotError) → gate ≡ there → it ≡ other
    → IsAnswer slot gate it result → IsAnswer slot there other result
answer_moves slot gate there it other result g i answer = subst (λ (o : Option SlotItem). IsAnswer slot there o result) i (subst (λ (k : ℕ). IsAnswer slot k it result) g answer)

-- what is answered of the bytes is answered of the file
pub answer_read : (n : ℕ) (file bytes : List ℕ) (result : Result (Option SlotItem) SlotError) → part (slot_place n) 1024 file ≡ bytes
    → IsAnswer n (slice_index bytes 0) (item_in n (part 1 1023 bytes)) result → IsSlotOf n result file
answer_read n file bytes result is answer =
    answer_moves n (slice_index bytes 0) (gate_at n file) (item_in n (part 1 1023 bytes)) (spelled item_of n file) result (gate_read n file bytes is) (ap (item_in n) (body_read n file bytes is)) answer

pub answer_told : (o : Option File) (n k : ℕ) (out : List ℕ) (result : Result (Option SlotItem) SlotError) → HasRead o (1024 + 1024 * n) k out → length out ≡ 1024
    → IfSome o (λ f. slot_place (n + 1) ≤ length f.bytes) → IsAnswer n (slice_index out 0) (item_in n (part 1 1023 out)) result → IfSome o (λ f. IsSlotOf n result f.bytes)
answer_told None n k out result read long room answer = tt
answer_told (Some f) n k out result read long room answer =
    let whole : k ≡ 1024 = omega (arith, read.0) in
    let all : take k out ≡ out = ap (λ (m : ℕ). take m out) (whole ∙ sym long) ∙ take_length out in
    let is : part (slot_place n) 1024 f.bytes ≡ out = ap (λ (m : ℕ). part (slot_place n) m f.bytes) (sym whole) ∙ sym read.1 ∙ all in
    answer_read n f.bytes out result is answer
  where
    take_length : (l : List ℕ) → take (length l) l ≡ l
    take_length [] = refl
    take_length (x ∷ l) = ap (λ (r : List ℕ). x ∷ r) (take_length l)

-- a read that gives less contradicts a file that is long enough
pub short_told : (o : Option File) (n k : ℕ) (out : List ℕ) (result : Result (Option SlotItem) SlotError) → HasRead o (1024 + 1024 * n) k out → length out ≡ 1024
    → IfSome o (λ f. slot_place (n + 1) ≤ length f.bytes) → k < 1024 → IfSome o (λ f. IsSlotOf n result f.bytes)
short_told None n k out result read long room short = tt
short_told (Some f) n k out result read long room short = absurd (omega (arith, read.0))

-- what is answered of a slot's bytes
pub open_some : (slot gate n : ℕ) (bytes : List ℕ) (item : SlotItem) (found : Option SlotItem) → gate ≡ OPEN → n ≡ 1023
    → found ≡ item_in slot (part 1 n bytes) → found ≡ Some item → IsAnswer slot gate (item_in slot (part 1 1023 bytes)) (Ok (Some item))
open_some slot gate n bytes item found is_open size is some =
    let it : item_in slot (part 1 1023 bytes) ≡ Some item = ap (λ (k : ℕ). item_in slot (part 1 k bytes)) (sym size) ∙ sym is ∙ some in
    (λ bad. some_none item (sym it ∙ bad.1), sym it ∙ opens gate (item_in slot (part 1 1023 bytes)) is_open)
  where
    some_none : (i : SlotItem) → ◌≡◌ {A = Option SlotItem} (Some i) None → ⊥
    some_none i e = cc

    opens : (k : ℕ) (o : Option SlotItem) → k ≡ OPEN → o ≡ behind k o
    opens k o e = rw (eq-eqb k OPEN e) refl

pub open_none : (slot gate n : ℕ) (bytes : List ℕ) (found : Option SlotItem) → gate ≡ OPEN → n ≡ 1023
    → found ≡ item_in slot (part 1 n bytes) → found ≡ None → IsAnswer slot gate (item_in slot (part 1 1023 bytes)) (Err (Malformed slot))
open_none slot gate n bytes found is_open size is none = (refl, (is_open, ap (λ (k : ℕ). item_in slot (part 1 k bytes)) (sym size) ∙ sym is ∙ none))

-- one slot more
pub records_more : (n : ℕ) (file bytes : List ℕ) (items : List SlotItem) (found : Option SlotItem) → part (slot_place n) 1024 file ≡ bytes
    → IsAnswer n (slice_index bytes 0) (item_in n (part 1 1023 bytes)) (Ok found) → AreRecords n file items → AreRecords (n + 1) file (added items found)
records_more n file bytes items found is answer so_far =
    let here = answer_read n file bytes (Ok found) is answer in
    let one : suc n ≡ n + 1 = omega arith in
    record {
      well_formed = λ m low bad. elim (cases_eq m n) [
        | inl last ↦ here.0 (subst (λ (k : ℕ). IsMalformed k file) last bad)
        | inr earlier ↦ so_far.well_formed m (omega arith) bad
      ];
      list = ap (λ (l : List SlotItem). added l found) so_far.list ∙ ap (added (records_in n file)) here.1 ∙ ap (λ (k : ℕ). records_in k file) one;
    }

pub piece_breaks : (n : ℕ) (file bytes : List ℕ) (items : List SlotItem) (e : SlotError) → part (slot_place n) 1024 file ≡ bytes
    → IsAnswer n (slice_index bytes 0) (item_in n (part 1 1023 bytes)) (Err e) → AreRecords n file items → IsPieceOf {T = ⊤} (n + 1) file items (Err e)
piece_breaks n file bytes items Fault is answer so_far = tt
piece_breaks n file bytes items NoMemory is answer so_far = tt
piece_breaks n file bytes items (Malformed at) is answer so_far =
    let here = answer_read n file bytes (Err (Malformed at)) is answer in
    record {
      inside = omega (arith, here.0);
      is = subst (λ (k : ℕ). IsMalformed k file) (sym here.0) here.1;
      least = λ m low bad. so_far.well_formed m (omega (arith, here.0)) bad;
    }

pub piece_widens : (n m : ℕ) (file : List ℕ) (items other : List SlotItem) (e : SlotError) → n ≤ m → IsPieceOf {T = ⊤} n file items (Err e) → IsPieceOf {T = ⊤} m file other (Err e)
piece_widens n m file items other Fault more is = tt
piece_widens n m file items other NoMemory more is = tt
piece_widens n m file items other (Malformed at) more is = record { inside = omega (arith, is.inside); is = is.is; least = is.least }

pub scan_breaks : (n m : ℕ) (file : List ℕ) (items : List SlotItem) (e : SlotError) → n ≤ m → IsPieceOf {T = ⊤} n file items (Err e) → IsScanOf m (Err e) file
scan_breaks n m file items Fault more is = tt
scan_breaks n m file items NoMemory more is = tt
scan_breaks n m file items (Malformed at) more is = record { inside = omega (arith, is.inside); is = is.is; least = is.least }

-- of whatever file
pub items_widen : (n m : ℕ) (items : List SlotItem) → n ≤ m → AreItems n items → AreItems m items
items_widen n m items more are = record {
  inside = All-weaker (λ (i : SlotItem). i.slot < n) (λ i. i.slot < m) (λ i low. omega arith) items are.inside;
  ascending = are.ascending;
  grammar = are.grammar;
}

pub items_pushed : (n : ℕ) (items : List SlotItem) (item : SlotItem) → AreItems n items → IsItemOf n item → AreItems (n + 1) (items ++ item ∷ [])
items_pushed n items item are is =
    let wide = items_widen n (n + 1) items (omega arith) are in
    record {
      inside = All-push (λ (i : SlotItem). i.slot < n + 1) items item wide.inside (omega (arith, is.is_at));
      ascending = all_pairs_push (λ (a b : SlotItem). a.slot < b.slot) items item are.ascending (λ k d low. omega (arith, are.inside k d low, is.is_at));
      grammar = All-push IsInGrammar items item are.grammar is.grammar;
    }

-- within a piece
pub record IsTaking (first : ℕ) (bytes : List ℕ) (before now : List SlotItem) (k : ℕ) : Type 0 where
  pub sound : AreItems (first + k) now
  pub records : (file : List ℕ) → part (slot_place first) (length bytes) file ≡ bytes → AreRecords first file before → AreRecords (first + k) file now

pub taking_begins : (first : ℕ) (bytes : List ℕ) (items : List SlotItem) → AreItems first items → IsTaking first bytes items items 0
taking_begins first bytes items are =
    let same : first ≡ first + 0 = omega arith in
    record {
      sound = subst (λ (n : ℕ). AreItems n items) same are;
      records = λ file is here. subst (λ (n : ℕ). AreRecords n file items) same here;
    }

pub slot_inside : (first k at n : ℕ) (file bytes : List ℕ) → part (slot_place first) (length bytes) file ≡ bytes → at ≡ 1024 * k → n ≡ 1024
    → at + 1024 ≤ length bytes → part (slot_place (first + k)) 1024 file ≡ part at n bytes
slot_inside first k at n file bytes is place size within =
    let there : slot_place first + at ≡ slot_place (first + k) = omega arith in
    ap (λ (p : ℕ). part p 1024 file) (sym there) ∙ sym (part-part (slot_place first) (length bytes) at 1024 file within) ∙ ap (part at 1024) is ∙ ap (λ (m : ℕ). part at m bytes) (sym size)

pub taking_more : (first k at n : ℕ) (bytes : List ℕ) (before now new : List SlotItem) → at ≡ 1024 * k → n ≡ 1024 → at + 1024 ≤ length bytes → IsTaking first bytes before now k
    → AreItems (first + k + 1) new
    → ((file : List ℕ) → part (slot_place (first + k)) 1024 file ≡ part at n bytes → AreRecords (first + k) file now → AreRecords (first + k + 1) file new)
    → IsTaking first bytes before new (k + 1)
taking_more first k at n bytes before now new place size within so_far sound more =
    let same : first + k + 1 ≡ first + (k + 1) = omega arith in
    record {
      sound = subst (λ (m : ℕ). AreItems m new) same sound;
      records = λ file is here. subst (λ (m : ℕ). AreRecords m file new) same (more file (slot_inside first k at n file bytes is place size within) (so_far.records file is here));
    }

-- a piece that was read
pub piece_told : (o : Option File) (number n m : ℕ) (out : List ℕ) (old new : List SlotItem) (result : Result ⊤ SlotError) → HasRead o (1024 + 65536 * number) n out
    → length out ≡ 65536 → m ≡ n
    → ((file : List ℕ) → part (slot_place (64 * number)) (length (take m out)) file ≡ take m out → AreRecords (64 * number) file old
    → IsPieceOf (64 * number + length (take m out) / 1024) file new result)
    → IfSome o (λ f. slot_place (64 * (number + 1)) ≤ length f.bytes → AreRecords (64 * number) f.bytes old → IsPieceOf (64 * (number + 1)) f.bytes new result)
piece_told None number n m out old new result read long same gives = tt
piece_told (Some f) number n m out old new result read long same gives = λ room here.
    let whole : n ≡ 65536 = omega (arith, read.0) in
    let size : length (take m out) ≡ 65536 = omega (arith, length-take m out) in
    let there : slot_place (64 * number) ≡ 1024 + 65536 * number = omega arith in
    let is : part (slot_place (64 * number)) (length (take m out)) f.bytes ≡ take m out =
    ap (λ (k : ℕ). part (slot_place (64 * number)) k f.bytes) (size ∙ sym whole) ∙ ap (λ (p : ℕ). part p n f.bytes) there ∙ sym read.1 ∙ ap (λ (k : ℕ). take k out) (sym same) in
    let to : 64 * number + length (take m out) / 1024 ≡ 64 * (number + 1) = omega arith in
    subst (λ (k : ℕ). IsPieceOf k f.bytes new result) to (gives f.bytes is here)

-- pieces one behind another
pub record IsScanning (file number : ℕ) (old now : World) (items : List SlotItem) : Type 0 where
  pub run : OnlyReads file old now
  pub sound : AreItems (64 * number) items
  pub records : IfTold file old (λ bytes. AreRecords (64 * number) bytes items)

none_yet : (bytes : List ℕ) → AreRecords 0 bytes []
none_yet bytes = record { well_formed = λ m low bad. absurd (omega arith); list = refl }

no_items : AreItems 0 []
no_items = record {
  inside = λ k d low. absurd (omega arith);
  ascending = λ i j d low within. absurd (omega arith);
  grammar = λ k d low. absurd (omega arith);
}

pub scanning_begins : (file : ℕ) (w : World) → IsScanning file 0 w w []
scanning_begins file w = record {
  run = begins file (λ f. f ≡ file_of file w) w refl;
  sound = no_items;
  records = told (file_of file w);
}
  where
    told : (o : Option File) → IfSome o (λ f. AreRecords 0 f.bytes [])
    told None = tt
    told (Some f) = none_yet f.bytes

told_more : (o : Option File) (number limit : ℕ) (old new : List SlotItem) → number < 16 * limit → IfSome o (λ f. slot_place (1024 * limit) ≤ length f.bytes)
    → IfSome o (λ f. AreRecords (64 * number) f.bytes old)
    → IfSome o (λ f. slot_place (64 * (number + 1)) ≤ length f.bytes → AreRecords (64 * number) f.bytes old → AreRecords (64 * (number + 1)) f.bytes new)
    → IfSome o (λ f. AreRecords (64 * (number + 1)) f.bytes new)
told_more None number limit old new low long here more = tt
told_more (Some f) number limit old new low long here more = more (omega arith) here

pub scanning_more : (file number limit : ℕ) (first old new : World) (before now : List SlotItem) → number < 16 * limit → IfTold file first (λ bytes. slot_place (1024 * limit) ≤ length bytes)
    → IsScanning file number first old before → OnlyReads file old new → AreItems (64 * (number + 1)) now
    → IfTold file old (λ bytes. slot_place (64 * (number + 1)) ≤ length bytes → AreRecords (64 * number) bytes before → AreRecords (64 * (number + 1)) bytes now)
    → IsScanning file (number + 1) first new now
scanning_more file number limit first old new before now low long so_far run sound more =
    let same : file_of file old ≡ file_of file first = run_end file (λ f. f ≡ file_of file first) first old so_far.run in
    record {
      run = reads_then file first old new so_far.run run;
      sound = sound;
      records = told_more (file_of file first) number limit before now low long so_far.records
          (subst (λ (o : Option File). IfSome o (λ f. slot_place (64 * (number + 1)) ≤ length f.bytes → AreRecords (64 * number) f.bytes before → AreRecords (64 * (number + 1)) f.bytes now)) same more);
    }

told_breaks : (o : Option File) (number limit : ℕ) (old now : List SlotItem) (e : SlotError) → number < 16 * limit → IfSome o (λ f. slot_place (1024 * limit) ≤ length f.bytes)
    → IfSome o (λ f. AreRecords (64 * number) f.bytes old)
    → IfSome o (λ f. slot_place (64 * (number + 1)) ≤ length f.bytes → AreRecords (64 * number) f.bytes old → IsPieceOf {T = ⊤} (64 * (number + 1)) f.bytes now (Err e))
    → IfSome o (λ f. IsScanOf (1024 * limit) (Err e) f.bytes)
told_breaks None number limit old now e low long here more = tt
told_breaks (Some f) number limit old now e low long here more = scan_breaks (64 * (number + 1)) (1024 * limit) f.bytes now e (omega arith) (more (omega arith) here)

pub scanning_breaks : (file number limit : ℕ) (first old : World) (before now : List SlotItem) (e : SlotError) → number < 16 * limit → IfTold file first (λ bytes. slot_place (1024 * limit) ≤ length bytes)
    → IsScanning file number first old before
    → IfTold file old (λ bytes. slot_place (64 * (number + 1)) ≤ length bytes → AreRecords (64 * number) bytes before → IsPieceOf {T = ⊤} (64 * (number + 1)) bytes now (Err e))
    → IfTold file first (IsScanOf (1024 * limit) (Err e))
scanning_breaks file number limit first old before now e low long so_far more =
    let same : file_of file old ≡ file_of file first = run_end file (λ f. f ≡ file_of file first) first old so_far.run in
    told_breaks (file_of file first) number limit before now e low long so_far.records
    (subst (λ (o : Option File). IfSome o (λ f. slot_place (64 * (number + 1)) ≤ length f.bytes → AreRecords (64 * number) f.bytes before → IsPieceOf {T = ⊤} (64 * (number + 1)) f.bytes now (Err e))) same more)

told_ends : (o : Option File) (number limit : ℕ) (items : List SlotItem) → 64 * number ≡ 1024 * limit → IfSome o (λ f. AreRecords (64 * number) f.bytes items) → IfSome o (λ f. IsScanOf (1024 * limit) (Ok items) f.bytes)
told_ends None number limit items all here = tt
told_ends (Some f) number limit items all here = subst (λ (n : ℕ). AreRecords n f.bytes items) all here

pub scanning_ends : (file number limit : ℕ) (first now : World) (items : List SlotItem) → 64 * number ≡ 1024 * limit → IsScanning file number first now items
    → IfTold file first (IsScanOf (1024 * limit) (Ok items))
scanning_ends file number limit first now items all so_far = told_ends (file_of file first) number limit items all so_far.records

-- What bytes that stand for a log are after a change.
use Rattle.std.proofs.Common.{◌≡◌, ◌≢◌, ◌⊎◌, inl, inr, ℕ, suc, ◌+◌, ◌-◌, ◌^◌, ◌<◌, ◌≤◌, Bool, true, false, List, [], ◌∷◌, ◌++◌, length, refl, sym, ◌∙◌, ap, subst, arith, length-append}
use Rattle.std.specs.Prelude.{slice_index}
use Rattle.std.specs.Int.{w32, w64, to_be_bytes, from_be_bytes}
use Rattle.std.proofs.lemmas.Nat.{from_be_bytes-to_be_bytes_4, from_be_bytes-to_be_bytes_8}
use Rattle.std.proofs.lemmas.Bool.{cases_lt, cases_eq, false≢true}
use Rattle.odb_device.specs.Images.{Torn, part, overwritten}
use Rattle.odb_device.proofs.Bytes.{part_same, part_at, length-overwritten, part-overwritten, part-overwritten_outside, part_inside, overwritten-inside}
use Rattle.odb_reclog.specs.Records.{OPEN, gate_at, size_at, number_at, payload_at, is_record, log_of, end_of_list}
use Rattle.odb_device.specs.Zeros.{AreZero}
use Rattle.odb_reclog.specs.Standing.{Log, IsLog, StandsFor, HasBody, tail_at, begun}
use Rattle.odb_reclog.proofs.Records.{SameOn, torn_outside, gate_same, size_same, number_same, payload_same, no_room, no_gate, records_same, RecordAt, Leads, list_leads, leads_list, leads_few, leads_same, leads_more, end_more}

-- a zero is no open gate
pub zero_gate : (place : ℕ) (bytes : List ℕ) → slice_index bytes place ≡ 0 → gate_at place bytes ≢ OPEN
unfolding gate_at
zero_gate place bytes is_zero is_open = let no : 0 ≡ OPEN = sym is_zero ∙ is_open in omega arith

-- the records of bytes that stand for a log lead to the next place
pub stands_leads : (log : Log) (records : List (List ℕ)) (between bytes : List ℕ) → StandsFor log records between bytes → Leads log.end log.start log.first records bytes
stands_leads log records between bytes stands =
    subst (λ (l : List (List ℕ)). Leads log.end log.start log.first l bytes) stands.list (list_leads (suc (log.end - log.start)) log.end log.first log.start bytes stands.long)

-- and records that lead to a closed gate are the list
pub leads_log : (start end first place : ℕ) (records : List (List ℕ)) (bytes : List ℕ) → Leads end start first records bytes → end_of_list start records ≡ place → place ≤ end
    → (place < end → gate_at place bytes ≢ OPEN) → log_of start end first bytes ≡ records
leads_log start end first place records bytes leads is within closed =
    let few = leads_few end start first records bytes leads in
    leads_list (suc (end - start)) end first start records bytes (omega arith) leads
    (subst (λ (p : ℕ). is_record end (first + length records) p bytes ≡ false) (sym is)
    (elim (cases_lt place end) [
      | inl room ↦ no_gate end (first + length records) place bytes (closed room)
      | inr none ↦ no_room end (first + length records) place bytes (omega arith)
    ]))

-- bytes that are the same up to the next gate, which is closed, have the same list
pub list_kept : (log : Log) (records : List (List ℕ)) (between before image : List ℕ) → StandsFor log records between before → SameOn log.start log.place before image
    → (log.place < log.end → gate_at log.place image ≢ OPEN) → log_of log.start log.end log.first image ≡ records
list_kept log records between before image stands same closed =
    leads_log log.start log.end log.first log.place records image
    (leads_same log.start log.place log.end log.start log.first records before image same (omega arith) (omega (arith, stands.place)) (stands_leads log records between before stands))
    stands.place stands.in_range.end closed

-- bytes that are the same in the region stand for the same log
pub stands_same : (log : Log) (records : List (List ℕ)) (between before image : List ℕ) → StandsFor log records between before → SameOn log.start log.end before image → StandsFor log records between image
stands_same log records between before image stands same = record {
  in_range = stands.in_range;
  long = same.longer;
  list = records_same log.start log.end before image same (suc (log.end - log.start)) log.first log.start (omega arith) ∙ stands.list;
  place = stands.place;
  number = stands.number;
  closed = λ room is_open. stands.closed room (sym (gate_same log.start log.end before image same log.place stands.in_range.start room) ∙ is_open);
  clear = λ i from to. same.bytes i (omega (arith, stands.in_range.start, stands.in_range.clear_from)) to ∙ stands.clear i from to;
  tail = λ e. same_tail ∙ stands.tail e;
}
  where
    same_tail : tail_at log image ≡ tail_at log before
    same_tail = elim (cases_lt (log.place + 1) log.clear_from) [
      | inl some ↦
          let within : log.place + 1 + (log.clear_from - (log.place + 1)) ≤ log.end = omega (arith, stands.in_range.clear_to) in
          part_same (log.place + 1) (log.clear_from - (log.place + 1)) image before (omega (arith, same.longer)) (omega (arith, same.long))
          (λ i few. same.bytes (log.place + 1 + i) (omega (arith, stands.in_range.start)) (omega arith))
      | inr none ↦
          let nothing : log.clear_from - (log.place + 1) ≡ 0 = omega arith in
          ap (λ (n : ℕ). part (log.place + 1) n image) nothing ∙ sym (ap (λ (n : ℕ). part (log.place + 1) n before) nothing)
    ]

-- a later end, up to which there are zeros
pub stands_extended : (log : Log) (end : ℕ) (records : List (List ℕ)) (between bytes : List ℕ) → log.end ≤ end → end ≤ 2 ^ 40 → StandsFor log records between bytes → end ≤ length bytes
    → AreZero log.end end bytes → StandsFor (record log { end = end }) records between bytes
stands_extended log end records between bytes later most stands long zeros =
    let is = stands.in_range in
    let shut : log.place < end → gate_at log.place bytes ≢ OPEN = λ room. elim (cases_lt log.place log.end) [
      | inl inside ↦ stands.closed inside
      | inr at_end ↦ zero_gate log.place bytes (zeros log.place at_end room)
    ] in
    record {
      in_range = record {
        start = is.start;
        end = omega (arith, is.end);
        most = most;
        first = is.first;
        next = is.next;
        clear_from = is.clear_from;
        clear_to = omega (arith, is.clear_to);
        body = λ e. omega (arith, is.body e);
      };
      long = long;
      list = leads_log log.start end log.first log.place records bytes (further records log.start log.first (stands_leads log records between bytes stands)) stands.place (omega (arith, is.end)) shut;
      place = stands.place;
      number = stands.number;
      closed = shut;
      clear = λ i from to. elim (cases_lt i log.end) [
        | inl inside ↦ stands.clear i from inside
        | inr behind ↦ zeros i behind to
      ];
      tail = stands.tail;
    }
  where
    further : (rest : List (List ℕ)) (place number : ℕ) → Leads log.end place number rest bytes → Leads end place number rest bytes
    further [] place number leads = tt
    further (payload ∷ rest) place number (here, leads) = (
      record { gate = here.gate; number_is = here.number_is; size = here.size; payload_is = here.payload_is; within = omega (arith, here.within) },
      further rest (place + 13 + length payload) (number + 1) leads,
    )

-- the log after writes behind the gate, up to before a byte
abbrev pub touched_log : Log → ℕ → Bool → Log
touched_log log to body = record log { clear_from = to; touched = true; has_body = body }

pub is_touched : (log : Log) (to : ℕ) (body : Bool) → IsLog log → log.place < to → to ≤ log.end → IsLog (touched_log log to body)
is_touched log to body is low high = record {
  start = is.start;
  end = is.end;
  most = is.most;
  first = is.first;
  next = is.next;
  clear_from = low;
  clear_to = omega arith;
  body = λ e. high;
}

-- bytes behind the closed gate don't count
module _ (log : Log) (at n : ℕ) (records : List (List ℕ)) (between before image : List ℕ) (low : log.place < at) (stands : StandsFor log records between before) (torn : Torn at n before image) where
  stays_shut : log.place < log.end → gate_at log.place image ≢ OPEN
  stays_shut room is_open =
      let gate = gate_same log.start (log.place + 1) before image (torn_outside log.start (log.place + 1) at n before image (omega (arith, stands.long)) torn (inl (omega arith))) log.place stands.in_range.start (omega arith) in
      stands.closed room (sym gate ∙ is_open)

  pub list_torn : log_of log.start log.end log.first image ≡ records
  list_torn = list_kept log records between before image stands (torn_outside log.start log.place at n before image (omega (arith, stands.long, stands.in_range.end)) torn (inl (omega arith))) stays_shut

  pub stands_torn : (to : ℕ) (body : Bool) (other : List ℕ) → IsLog (touched_log log to body) → log.clear_from ≤ to → at + n ≤ to → StandsFor (touched_log log to body) records other image
  stands_torn to body other is more within = record {
    in_range = is;
    long = omega (arith, stands.long, torn.no_shorter);
    list = list_torn;
    place = stands.place;
    number = stands.number;
    closed = stays_shut;
    clear = λ i from below. torn.outside i (omega (arith, stands.long)) (inr (omega arith)) ∙ stands.clear i (omega arith) below;
    tail = λ e. absurd (false≢true (sym e));
  }

-- the log whose tail is clear
abbrev pub cleared_log : Log → Log
cleared_log log = record log { clear_from = log.place + 1; touched = false; has_body = false }

pub is_cleared : (log : Log) → IsLog log → IsLog (cleared_log log)
is_cleared log is = record {
  start = is.start;
  end = is.end;
  most = is.most;
  first = is.first;
  next = is.next;
  clear_from = omega arith;
  clear_to = omega arith;
  body = λ e. absurd (false≢true e);
}

part_none : (at n : ℕ) (bytes : List ℕ) → n ≡ 0 → part at n bytes ≡ []
part_none at n bytes none = ap (λ (k : ℕ). part at k bytes) none

pub stands_cleared : (log : Log) (records : List (List ℕ)) (between bytes : List ℕ) → StandsFor log records between bytes → AreZero (log.place + 1) log.clear_from bytes → StandsFor (cleared_log log) records [] bytes
stands_cleared log records between bytes stands zeros = record {
  in_range = is_cleared log stands.in_range;
  long = stands.long;
  list = stands.list;
  place = stands.place;
  number = stands.number;
  closed = stands.closed;
  clear = λ i from to. elim (cases_lt i log.clear_from) [
    | inl inside ↦ zeros i from inside
    | inr behind ↦ stands.clear i behind to
  ];
  tail = λ e. part_none (log.place + 1) (log.place + 1 - (log.place + 1)) bytes (omega arith);
}

-- bytes whose tails are the same have zeros there, or none has
pub tail_zero : (log : Log) (a b : List ℕ) → tail_at log a ≡ tail_at log b → AreZero (log.place + 1) log.clear_from b → AreZero (log.place + 1) log.clear_from a
tail_zero log a b same zeros i from to =
    let n = log.clear_from - (log.place + 1) in
    let k = i - (log.place + 1) in
    let there : log.place + 1 + k ≡ i = omega arith in
    let few : k < n = omega arith in
    ap (slice_index a) (sym there) ∙ sym (part_at (log.place + 1) n a k few) ∙ ap (λ (l : List ℕ). slice_index l k) same
    ∙ part_at (log.place + 1) n b k few ∙ ap (slice_index b) there ∙ zeros i from to

-- no body is kept
pub stands_bodiless : (log : Log) (records : List (List ℕ)) (between bytes : List ℕ) → StandsFor log records between bytes → StandsFor (record log { has_body = false }) records between bytes
stands_bodiless log records between bytes stands =
    let is = stands.in_range in
    record {
      in_range = record {
        start = is.start;
        end = is.end;
        most = is.most;
        first = is.first;
        next = is.next;
        clear_from = is.clear_from;
        clear_to = is.clear_to;
        body = λ e. absurd (false≢true e);
      };
      long = stands.long;
      list = stands.list;
      place = stands.place;
      number = stands.number;
      closed = stands.closed;
      clear = stands.clear;
      tail = stands.tail;
    }

-- the log after a gate was opened
abbrev pub opened_log : Log → Log
opened_log log = record log { place = log.clear_from; next = log.next + 1; clear_from = log.clear_from + 1; touched = false; has_body = false; in_doubt = false }

-- a gate that is open, or perhaps not, before a body
module _ (log : Log) (records : List (List ℕ)) (between body before image : List ℕ) (stands : StandsFor log records between before) (has : HasBody log body before) (torn : Torn log.place 1 before image) where
  in_front : SameOn log.start log.place before image
  in_front = torn_outside log.start log.place log.place 1 before image (omega (arith, stands.long, stands.in_range.end)) torn (inl (omega arith))

  behind : SameOn (log.place + 1) log.end before image
  behind = torn_outside (log.place + 1) log.end log.place 1 before image stands.long torn (inr (omega arith))

  closed_list : gate_at log.place image ≢ OPEN → log_of log.start log.end log.first image ≡ records
  closed_list shut = list_kept log records between before image stands in_front (λ room. shut)

  its_record : gate_at log.place image ≡ OPEN → RecordAt log.end log.place log.next body image
  its_record is_open =
      let within = has.within in
      record {
        gate = is_open;
        number_is = number_same (log.place + 1) log.end before image behind log.place (omega arith) (omega arith) ∙ has.number;
        size = size_same (log.place + 1) log.end before image behind log.place (omega arith) (omega arith) ∙ has.size;
        payload_is = payload_same (log.place + 1) log.end before image behind log.place (omega arith) (omega (arith, has.size)) ∙ has.payload;
        within = within;
      }

  leads_on : gate_at log.place image ≡ OPEN → Leads log.end log.start log.first (records ++ body ∷ []) image
  leads_on is_open =
      let leads = leads_same log.start log.place log.end log.start log.first records before image in_front (omega arith) (omega (arith, stands.place)) (stands_leads log records between before stands) in
      leads_more log.end log.start log.first records body image leads
      (subst (λ (p : ℕ). RecordAt log.end p (log.first + length records) body image) (sym stands.place) (subst (λ (n : ℕ). RecordAt log.end log.place n body image) (sym stands.number) (its_record is_open)))

  end_is : end_of_list log.start (records ++ body ∷ []) ≡ log.clear_from
  end_is = omega (arith, end_more log.start records body, stands.place, has.behind)

  next_zero : (i : ℕ) → log.clear_from ≤ i → i < log.end → slice_index image i ≡ 0
  next_zero i from to = behind.bytes i (omega (arith, has.behind)) to ∙ stands.clear i from to

  pub opened_list : gate_at log.place image ≡ OPEN → log_of log.start log.end log.first image ≡ records ++ body ∷ []
  opened_list is_open = leads_log log.start log.end log.first log.clear_from (records ++ body ∷ []) image (leads_on is_open) end_is (omega (arith, has.behind, has.within)) (λ room. zero_gate log.clear_from image (next_zero log.clear_from (omega arith) room))

  -- each image has the list, or the list with this record more
  pub opening_list : (log_of log.start log.end log.first image ≡ records) ⊎ (log_of log.start log.end log.first image ≡ records ++ body ∷ [])
  opening_list = elim (cases_eq (gate_at log.place image) OPEN) [
    | inl is_open ↦ inr (opened_list is_open)
    | inr shut ↦ inl (closed_list shut)
  ]

  pub stands_opened : gate_at log.place image ≡ OPEN → StandsFor (opened_log log) (records ++ body ∷ []) [] image
  stands_opened is_open =
      let is = stands.in_range in
      let is_behind = has.behind in
      let within = has.within in
      record {
        in_range = record {
          start = omega (arith, is.start);
          end = omega arith;
          most = is.most;
          first = is.first;
          next = omega (arith, is.next);
          clear_from = omega arith;
          clear_to = omega arith;
          body = λ e. absurd (false≢true e);
        };
        long = behind.longer;
        list = opened_list is_open;
        place = end_is;
        number = omega (arith, length-append records (body ∷ []), stands.number);
        closed = λ room. zero_gate log.clear_from image (next_zero log.clear_from (omega arith) room);
        clear = λ i from to. next_zero i (omega arith) to;
        tail = λ e. part_none (log.clear_from + 1) (log.clear_from + 1 - (log.clear_from + 1)) image (omega arith);
      }

-- a body is written
pub body_written : (log : Log) (head payload bytes : List ℕ) → length head ≡ 12 → part 0 4 head ≡ to_be_bytes w32 (length payload) → part 4 8 head ≡ to_be_bytes w64 log.next
    → length payload < 2 ^ 32 → log.next < 2 ^ 64 → log.place + 13 + length payload ≤ log.end → log.clear_from ≡ log.place + 13 + length payload
    → HasBody log payload (overwritten (log.place + 13) payload (overwritten (log.place + 1) head bytes))
unfolding size_at number_at payload_at
body_written log head payload bytes long its_size its_number small fits within behind =
    let p = log.place in
    let first = overwritten (p + 1) head bytes in
    let whole = overwritten (p + 13) payload first in
    let long_first = length-overwritten (p + 1) head bytes in
    let size_part : part (p + 1) 4 whole ≡ part 0 4 head =
    part-overwritten_outside (p + 13) payload first (p + 1) 4 (omega arith) (inl (omega arith)) ∙ ap (λ (k : ℕ). part k 4 first) (add_zero p) ∙ part_inside (p + 1) 0 4 head bytes (omega arith) in
    let number_part : part (p + 5) 8 whole ≡ part 4 8 head =
    part-overwritten_outside (p + 13) payload first (p + 5) 8 (omega arith) (inl (omega arith)) ∙ ap (λ (k : ℕ). part k 8 first) (add_four p) ∙ part_inside (p + 1) 4 8 head bytes (omega arith) in
    let size : size_at p whole ≡ length payload = ap (from_be_bytes w32) (size_part ∙ its_size) ∙ from_be_bytes-to_be_bytes_4 (length payload) small in
    record {
      size = size;
      number = ap (from_be_bytes w64) (number_part ∙ its_number) ∙ from_be_bytes-to_be_bytes_8 log.next fits;
      payload = ap (λ (n : ℕ). part (p + 13) n whole) size ∙ part-overwritten (p + 13) payload first;
      within = within;
      behind = behind;
    }
  where
    add_zero : (p : ℕ) → p + 1 ≡ p + 1 + 0
    add_zero p = omega arith

    add_four : (p : ℕ) → p + 5 ≡ p + 1 + 4
    add_four p = omega arith

-- and a gate is opened
pub gate_written : (log : Log) (bytes : List ℕ) → gate_at log.place (overwritten log.place (OPEN ∷ []) bytes) ≡ OPEN
unfolding gate_at
gate_written log bytes =
    let there : log.place ≡ log.place + 0 = omega arith in
    let one : 0 < length (OPEN ∷ []) = omega arith in
    ap (slice_index (overwritten log.place (OPEN ∷ []) bytes)) there ∙ overwritten-inside log.place (OPEN ∷ []) bytes 0 one

-- a region of zeros, in which no record was written yet
pub stands_begun : (file start end first : ℕ) (bytes : List ℕ) → start < end → end ≤ 2 ^ 40 → first ≤ 2 ^ 63 → end ≤ length bytes → AreZero start end bytes → StandsFor (begun file start end first) [] [] bytes
stands_begun file start end first bytes some most low long zeros =
    let shut : gate_at start bytes ≢ OPEN = zero_gate start bytes (zeros start (omega arith) some) in
    record {
      in_range = record {
        start = omega arith;
        end = omega arith;
        most = most;
        first = low;
        next = omega arith;
        clear_from = omega arith;
        clear_to = omega arith;
        body = λ e. cc;
      };
      long = long;
      list = leads_log start end first start [] bytes tt refl (omega arith) (λ room. shut);
      place = refl;
      number = omega arith;
      closed = λ room. shut;
      clear = λ i from to. zeros i (omega arith) to;
      tail = λ e. part_none (start + 1) (start + 1 - (start + 1)) bytes (omega arith);
    }

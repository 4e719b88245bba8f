-- What `records` and `records_by` answer of a file that stands for its log.
use Rattle.std.proofs.Common.{◌≡◌, ◌≢◌, inl, inr, ℕ, suc, ◌+◌, ◌-◌, ◌<◌, ◌≤◌, List, length, Option, Some, None, sym, subst, arith}
use Rattle.std.specs.Prelude.{IfSome}
use Rattle.std.proofs.Math.Nat.{eq-or-lt_of_le}
use Rattle.odb_device.specs.World.{File}
use Rattle.odb_device.specs.Images.{ReadsImage, part}
use Rattle.odb_reclog.specs.Records.{OPEN, HEAD, size_at, number_at, payload_at, end_at, log_of, IsPlaceIn, record_in}
use Rattle.odb_reclog.specs.Reading.{head_at}
use Rattle.odb_reclog.specs.Standing.{Log, Stands}
use Rattle.odb_reclog.specs.declared.head.Head.{Head}
use Rattle.odb_reclog.specs.declared.record.LogRecord.{LogRecord}
use Rattle.odb_reclog.proofs.Leading.{record_in_end}
use Rattle.odb_reclog.proofs.Found.{ReadsRecord, reads_record}
use Rattle.odb_reclog.proofs.Records.{list_leads}

-- the answer at a place is that of the list
abbrev pub IsRecordIn : Log → ℕ → Option LogRecord → Option File → Type 0
IsRecordIn log at found o = IfSome o (λ f. found ≡ record_in log.start log.first (log_of log.start log.end log.first f.bytes) at)

-- before the end of the list a record in order is read
pub record IsInOrder (log : Log) (at : ℕ) (bytes : List ℕ) : Type 0 where
  pub reads : ReadsRecord log.start log.first at (log_of log.start log.end log.first bytes) bytes
  pub ends : end_at at bytes ≤ log.place
  pub high : log.first ≤ number_at at bytes
  pub low : number_at at bytes < log.next
  pub inside : log.place ≤ log.end
  pub long : log.end ≤ length bytes

-- a head is open, of a number of the list, and its record ends at `next` inside the list
abbrev pub Fits : Log → Head → ℕ → Type 0
Fits log head next = (head.gate ≡ OPEN) × (log.first ≤ head.number) × (head.number < log.next) × (next ≤ log.place)

-- a file that stands for a log, and a place of its list
pub record IsAsked (log : Log) (at : ℕ) (o : Option File) : Type 0 where
  pub stands : Stands log o
  pub reads : ReadsImage o
  pub place : IfSome o (λ f. IsPlaceIn log.start (log_of log.start log.end log.first f.bytes) at)
  pub before : at ≤ log.place

module _ (log : Log) (at : ℕ) where
  pub none_at_end : (o : Option File) → IsAsked log at o → at ≡ log.place → IsRecordIn log at None o
  none_at_end None asked here = tt
  none_at_end (Some f) asked here =
      let s = asked.stands f.bytes asked.reads in
      sym (record_in_end log.start log.first (log_of log.start log.end log.first f.bytes) at (omega (arith, s.place)))

  pub in_order : (o : Option File) → IsAsked log at o → at ≢ log.place → IfSome o (λ f. IsInOrder log at f.bytes)
  in_order None asked other = tt
  in_order (Some f) asked other =
      let s = asked.stands f.bytes asked.reads in
      let below = asked.before in
      let list = log_of log.start log.end log.first f.bytes in
      let leads = list_leads (suc (log.end - log.start)) log.end log.first log.start f.bytes s.long in
      let r = reads_record log.end log.start log.first at list f.bytes leads asked.place (omega (arith, s.place)) in
      record {
        reads = r;
        ends = omega (arith, r.within, s.place);
        high = r.high;
        low = omega (arith, r.low, s.number);
        inside = s.in_range.end;
        long = s.long;
      }

  -- where less than a head is left the list ends
  pub none_near_end : (o : Option File) → IsAsked log at o → log.place - at < HEAD → IsRecordIn log at None o
  none_near_end None asked near = tt
  none_near_end (Some f) asked near = elim (eq-or-lt_of_le asked.before) [
    | inl here ↦ none_at_end (Some f) asked here
    | inr under ↦ absurd (omega (arith, near, (in_order (Some f) asked (λ same. omega (arith, under, same))).ends))
  ]

  -- so the head is read, and is in order
  pub head_in_order : (o : Option File) (found : Option Head) → IfSome o (λ f. IsInOrder log at f.bytes)
      → IfSome o (λ f. at + 13 ≤ length f.bytes → found ≡ Some (head_at at f.bytes))
      → IfSome o (λ f. found ≡ Some (head_at at f.bytes))
  head_in_order None found order reads = tt
  head_in_order (Some f) found order reads = reads (omega (arith, order.ends, order.inside, order.long))

  -- also by a window on the region
  pub head_by_window : (o : Option File) (found : Option Head) → IfSome o (λ f. IsInOrder log at f.bytes)
      → IfSome o (λ f. log.end ≤ length f.bytes → found ≡ Some (head_at at f.bytes))
      → IfSome o (λ f. found ≡ Some (head_at at f.bytes))
  head_by_window None found order shows = tt
  head_by_window (Some f) found order shows = shows order.long

  pub head_there : (o : Option File) (found : Option Head) → IfSome o (λ f. found ≡ Some (head_at at f.bytes)) → found ≡ None
      → IsRecordIn log at None o
  head_there None found is none = tt
  head_there (Some f) found is none = absurd (cc (is, none))

  pub order_kept : (o : Option File) (head : Head) (next : ℕ) → IfSome o (λ f. IsInOrder log at f.bytes)
      → IfSome o (λ f. Some head ≡ Some (head_at at f.bytes)) → next ≡ at + HEAD + head.size → (Fits log head next → ⊥)
      → IsRecordIn log at None o
  order_kept None head next order is ends broken = tt
  order_kept (Some f) head next order is ends broken =
      let gate : head.gate ≡ OPEN = cc (is, order.reads.is_open) in
      let number : head.number ≡ number_at at f.bytes = cc is in
      let size : head.size ≡ size_at at f.bytes = cc is in
      absurd (broken (gate, omega (arith, number, order.high), omega (arith, number, order.low), omega (arith, ends, size, order.ends)))

  -- and so is the payload
  pub record_found : (o : Option File) (head : Head) (payload : List ℕ) (next : ℕ) → IfSome o (λ f. IsInOrder log at f.bytes)
      → IfSome o (λ f. Some head ≡ Some (head_at at f.bytes))
      → IfSome o (λ f. at + HEAD + head.size ≤ length f.bytes → Some payload ≡ Some (part (at + HEAD) head.size f.bytes))
      → next ≡ at + HEAD + head.size
      → IsRecordIn log at (Some (record { number = head.number; payload = payload; next = next })) o
  unfolding payload_at
  record_found None head payload next order is bytes ends = tt
  record_found (Some f) head payload next order is bytes ends =
      let number : head.number ≡ number_at at f.bytes = cc is in
      let size : head.size ≡ size_at at f.bytes = cc is in
      let same : Some payload ≡ Some (part (at + HEAD) head.size f.bytes) = bytes (omega (arith, order.ends, order.inside, order.long)) in
      let payload_is : payload ≡ payload_at at f.bytes = cc (same, size) in
      let next_is : next ≡ end_at at f.bytes = cc (ends, size) in
      cc (number, payload_is, next_is, order.reads.found)

  pub next_found : (o : Option File) (head : Head) (next : ℕ) → IfSome o (λ f. IsInOrder log at f.bytes)
      → IfSome o (λ f. Some head ≡ Some (head_at at f.bytes)) → next ≡ at + HEAD + head.size
      → IfSome o (λ f. IsPlaceIn log.start (log_of log.start log.end log.first f.bytes) next)
  next_found None head next order is ends = tt
  next_found (Some f) head next order is ends =
      let size : head.size ≡ size_at at f.bytes = cc is in
      let next_is : end_at at f.bytes ≡ next = cc (ends, size) in
      subst (IsPlaceIn log.start (log_of log.start log.end log.first f.bytes)) next_is order.reads.next

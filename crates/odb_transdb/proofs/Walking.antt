-- A walk over the records of a side.
use Rattle.std.proofs.Common.{◌≡◌, ◌≢◌, ◌⊎◌, inl, inr, ℕ, ◌+◌, ◌-◌, ◌<◌, ◌≤◌, max, Bool, true, false, List, [], ◌∷◌, ◌++◌, length, drop, Option, Some, None, Ok, Err, refl, sym, ◌∙◌, ap, subst, arith, append_assoc, length-append}
use Rattle.std.specs.Prelude.{◌==◌, if◌then◌else◌, IfSome}
use Rattle.std.proofs.lemmas.Bool.{cases_lt}
use Rattle.std.proofs.lemmas.Bool.Decides.{nat_tests}
use Rattle.std.proofs.lemmas.List.{append-nil, drop_all, drop-append-le}
use Rattle.std.proofs.lemmas.List.Sums.{sum_by-append}
use Rattle.odb_device.specs.World.{File, World, file_of}
use Rattle.odb_device.specs.Images.{ReadsImage}
use Rattle.odb_device.specs.Moments.{Runs}
use Rattle.odb_device.proofs.Time.{begins, joins, weakens, run_end}
use Rattle.odb_reclog.specs.Records.{HEAD, log_of, end_of_list, IsPlaceIn, record_in}
use Rattle.odb_reclog.specs.Standing.{Log, Stands as LogStands}
use Rattle.odb_reclog.specs.Windows.{Shows}
use Rattle.odb_reclog.specs.declared.record.LogRecord.{LogRecord}
use Rattle.odb_reclog.specs.declared.window.Window.{Window}
use Rattle.odb_reclog.proofs.Records.{end_more}
use Rattle.odb_codec.specs.Reading.{read_entry}
use Rattle.odb_model.specs.declared.entry.Entry.{Entry}
use Rattle.odb_model.specs.State.{IsNumberedFrom}
use Rattle.odb_model.specs.Width.{record_width}
use Rattle.odb_transdb.specs.declared.error.TransdbError.{TransdbError}
use Rattle.odb_transdb.specs.declared.error.TransdbError.TheVariants.{NoDatabase, Damaged, Full, FaultBefore, InDoubt, NotClean, Held, Fault, NoMemory}
use Rattle.odb_transdb.specs.Opened.{entries_from}
use Rattle.odb_transdb.specs.Walking.{IsReadOf, IsRecordOf, IsEntryOf, AddsPart, AddsSome, IsBefore, CanBegin}
use Rattle.odb_transdb.proofs.Entries.{read_more, read_fault, count_read}

-- the places of a list
pub end_later : (place : ℕ) (records : List (List ℕ)) → place ≤ end_of_list place records
end_later place [] = omega arith
end_later place (payload ∷ rest) = omega (arith, end_later (place + HEAD + length payload) rest)

pub end_then : (place : ℕ) (done rest : List (List ℕ)) → end_of_list place (done ++ rest) ≡ end_of_list (end_of_list place done) rest
end_then place [] rest = refl
end_then place (payload ∷ done) rest = end_then (place + HEAD + length payload) done rest

place_in : (place : ℕ) (done rest : List (List ℕ)) → IsPlaceIn place (done ++ rest) (end_of_list place done)
place_in place [] [] = refl
place_in place [] (payload ∷ rest) = inl refl
place_in place (first ∷ done) rest = inr (place_in (place + HEAD + length first) done rest)

record_there : (place number : ℕ) (done : List (List ℕ)) (payload : List ℕ) (rest : List (List ℕ))
    → record_in place number (done ++ payload ∷ rest) (end_of_list place done) ≡ Some (record { number = number + length done; payload = payload; next = end_of_list place done + HEAD + length payload })
record_there place number [] payload rest =
    let here : (place == place) ≡ true = grind (arith, nat_tests) in
    let same : number ≡ number + length {A = List ℕ} [] = omega arith in
    ap (λ (b : Bool). if b then Some (record { number = number; payload = payload; next = place + HEAD + length payload }) else record_in (place + HEAD + length payload) (number + 1) rest place) here
    ∙ ap (λ (n : ℕ). Some (record { number = n; payload = payload; next = place + HEAD + length payload })) same
record_there place number (first ∷ done) payload rest =
    let at = end_of_list (place + HEAD + length first) done in
    let low = end_later (place + HEAD + length first) done in
    let other : (at == place) ≡ false = grind (arith, nat_tests) in
    let count : number + 1 + length done ≡ number + length (first ∷ done) = omega arith in
    ap (λ (b : Bool). if b then Some (record { number = number; payload = first; next = place + HEAD + length first }) else record_in (place + HEAD + length first) (number + 1) (done ++ payload ∷ rest) at) other
    ∙ record_there (place + HEAD + length first) (number + 1) done payload rest
    ∙ ap (λ (n : ℕ). Some (record { number = n; payload = payload; next = at + HEAD + length payload })) count

-- the numbers of entries
pub numbered_then : (n : ℕ) (front rest : List Entry) → IsNumberedFrom n front → IsNumberedFrom (n + length front) rest → IsNumberedFrom n (front ++ rest)
numbered_then n [] rest is more = let same : n + length {A = Entry} [] ≡ n = omega arith in subst (λ (k : ℕ). IsNumberedFrom k rest) same more
numbered_then n (e ∷ front) rest is more =
    let same : n + length (e ∷ front) ≡ n + 1 + length front = omega arith in
    (is.0, numbered_then (n + 1) front rest is.1 (subst (λ (k : ℕ). IsNumberedFrom k rest) same more))

-- of the records up to a place, those are read that come from `from` on
pub record IsReadUpTo (from start first : ℕ) (list : List (List ℕ)) (base items : List Entry) (at number : ℕ) : Type 0 where
  pub done : List (List ℕ)
  pub rest : List (List ℕ)
  pub all : List Entry
  pub list_is : list ≡ done ++ rest
  pub place : at ≡ end_of_list start done
  pub number_is : number ≡ first + length done
  pub read : entries_from first start done ≡ Ok all
  pub items_are : items ≡ base ++ drop (from - first) all

module _ (from start first : ℕ) (list : List (List ℕ)) (base items : List Entry) (at number : ℕ) (so_far : IsReadUpTo from start first list base items at number) where
  pub at_place : IsPlaceIn start list at
  at_place = subst (IsPlaceIn start list) (sym so_far.place) (subst (λ (l : List (List ℕ)). IsPlaceIn start l (end_of_list start so_far.done)) (sym so_far.list_is) (place_in start so_far.done so_far.rest))

  -- the next record
  pub record Next : Type 0 where
    pub payload : List ℕ
    pub others : List (List ℕ)
    pub is : list ≡ so_far.done ++ payload ∷ others
    pub there : record_in start first list at ≡ Some (record { number = number; payload = payload; next = at + HEAD + length payload })

  pub next_of : at < end_of_list start list → Next
  next_of inside = of_rest so_far.rest so_far.list_is
    where
      of_rest : (rest : List (List ℕ)) → list ≡ so_far.done ++ rest → Next
      of_rest [] is =
          let ends : end_of_list start list ≡ end_of_list start so_far.done = ap (end_of_list start) is ∙ end_then start so_far.done [] in
          absurd (omega (arith, so_far.place))
      of_rest (payload ∷ others) is = record {
        payload = payload;
        others = others;
        is = is;
        there =
            ap (record_in start first list) so_far.place ∙ ap (λ (l : List (List ℕ)). record_in start first l (end_of_list start so_far.done)) is
            ∙ record_there start first so_far.done payload others
            ∙ ap (λ (n : ℕ). Some (record { number = n; payload = payload; next = end_of_list start so_far.done + HEAD + length payload })) (sym so_far.number_is)
            ∙ ap (λ (p : ℕ). Some (record { number = number; payload = payload; next = p + HEAD + length payload })) (sym so_far.place);
      }

  -- it is an entry
  pub read_next : (next : Next) (e : Entry) (added : List Entry) → read_entry number next.payload ≡ Ok e → added ≡ items ++ drop (from - number) (e ∷ []) → IsReadUpTo from start first list base added (at + HEAD + length next.payload) (number + 1)
  read_next next e added one items_now = record {
    done = so_far.done ++ next.payload ∷ [];
    rest = next.others;
    all = so_far.all ++ e ∷ [];
    list_is = next.is ∙ sym (append_assoc so_far.done (next.payload ∷ []) next.others);
    place = ap (λ (p : ℕ). p + HEAD + length next.payload) so_far.place ∙ sym (end_more start so_far.done next.payload);
    number_is = omega (arith, so_far.number_is, length-append so_far.done (next.payload ∷ []));
    read = read_more next.payload [] first start so_far.done so_far.all e so_far.read (subst (λ (n : ℕ). read_entry n next.payload ≡ Ok e) so_far.number_is one);
    items_are = items_now ∙ ap (λ (l : List Entry). l ++ drop (from - number) (e ∷ [])) so_far.items_are ∙ append_assoc base (drop (from - first) so_far.all) (drop (from - number) (e ∷ []))
        ∙ ap (λ (l : List Entry). base ++ l) both;
  }
    where
      count : length so_far.all ≡ length so_far.done
      count = count_read first start so_far.done so_far.all so_far.read

      both : drop (from - first) so_far.all ++ drop (from - number) (e ∷ []) ≡ drop (from - first) (so_far.all ++ e ∷ [])
      both = elim (cases_lt (length so_far.all) (from - first)) [
        | inr wanted ↦
            let none : from - number ≡ 0 = omega (arith, so_far.number_is, count) in
            ap (λ (n : ℕ). drop (from - first) so_far.all ++ drop n (e ∷ [])) none ∙ sym (drop-append-le (from - first) so_far.all (e ∷ []) wanted)
        | inl before ↦
            let some : 1 ≤ from - number = omega (arith, so_far.number_is, count) in
            let gone : drop (from - first) so_far.all ≡ [] = drop_all (from - first) so_far.all (omega arith) in
            let gone_too : drop (from - number) (e ∷ []) ≡ [] = drop_all (from - number) (e ∷ []) (omega arith) in
            let gone_all : drop (from - first) (so_far.all ++ e ∷ []) ≡ [] = drop_all (from - first) (so_far.all ++ e ∷ []) (omega (arith, length-append so_far.all (e ∷ []))) in
            ap (λ (l : List Entry). l ++ drop (from - number) (e ∷ [])) gone ∙ gone_too ∙ sym gone_all
      ]

  -- or it is none
  pub fault_next : (next : Next) (left : ℕ) → read_entry number next.payload ≡ Err left → entries_from first start list ≡ Err at
  fault_next next left one =
      ap (entries_from first start) next.is
      ∙ read_fault next.payload next.others first start so_far.done so_far.all left so_far.read (subst (λ (n : ℕ). read_entry n next.payload ≡ Err left) so_far.number_is one) ∙ ap Err (sym so_far.place)

  -- all of them are read
  pub read_whole : at ≡ end_of_list start list → (all : List Entry) × (entries_from first start list ≡ Ok all) × (items ≡ base ++ drop (from - first) all) × (number ≡ first + length list)
  read_whole ends = of_rest so_far.rest so_far.list_is
    where
      of_rest : (rest : List (List ℕ)) → list ≡ so_far.done ++ rest → (all : List Entry) × (entries_from first start list ≡ Ok all) × (items ≡ base ++ drop (from - first) all) × (number ≡ first + length list)
      of_rest [] is =
          let same : list ≡ so_far.done = is ∙ append-nil so_far.done in
          (so_far.all, ap (entries_from first start) same ∙ so_far.read, so_far.items_are, so_far.number_is ∙ ap (λ (l : List (List ℕ)). first + length l) (sym same))
      of_rest (payload ∷ others) is =
          let far : end_of_list start list ≡ end_of_list (end_of_list start so_far.done + HEAD + length payload) others = ap (end_of_list start) is ∙ end_then start so_far.done (payload ∷ others) in
          absurd (omega (arith, so_far.place, end_later (end_of_list start so_far.done + HEAD + length payload) others))

-- so far the walk over a log's records, from its first to before a place
pub record IsWalked (log : Log) (from : ℕ) (base : List Entry) (w now : World) (window : Window) (at number : ℕ) (items : List Entry) : Type 0 where
  pub run : Runs log.file (λ f. f ≡ file_of log.file w) w now
  pub shows : Shows window (file_of log.file w)
  pub low : log.start ≤ at
  pub high : (at ≡ log.start) ⊎ (at ≤ log.place)
  pub least : log.first ≤ number
  pub most : number ≤ max log.first log.next
  pub part : AddsPart from log.first number (at - log.start) base items
  pub told : IfSome (file_of log.file w) (λ f. IsReadUpTo from log.start log.first (log_of log.start log.end log.first f.bytes) base items at number)

-- it begins where none of those that it leaves is wanted
begun_told : (log : Log) (from : ℕ) (base : List Entry) (at number : ℕ) (bytes : List ℕ) → max from log.first ≡ max from number → IsBefore log at number bytes
    → IsReadUpTo from log.start log.first (log_of log.start log.end log.first bytes) base base at number
begun_told log from base at number bytes wanted before = record {
  done = before.done;
  rest = before.rest;
  all = before.all;
  list_is = before.list_is;
  place = before.place;
  number_is = before.number_is;
  read = before.read;
  items_are = sym (ap (λ (l : List Entry). base ++ l) (drop_all (from - log.first) before.all (omega (arith, wanted, before.number_is, count_read log.first log.start before.done before.all before.read))) ∙ append-nil base);
}

pub walked_begun : (log : Log) (from : ℕ) (base : List Entry) (w : World) (window : Window) (at number : ℕ) → CanBegin log from at number w → Shows window (file_of log.file w) → IsWalked log from base w w window at number base
walked_begun log from base w window at number can shows = record {
  run = begins log.file (λ f. f ≡ file_of log.file w) w refl;
  shows = shows;
  low = can.low;
  high = can.high;
  least = can.least;
  most = can.most;
  part = ([], sym (append-nil base), record { numbers = tt; count = omega (arith, can.wanted); width = λ low. let here = can.whole low in omega arith });
  told = of_file (file_of log.file w) can.told;
}
  where
    of_file : (o : Option File) → IfSome o (λ f. IsBefore log at number f.bytes) → IfSome o (λ f. IsReadUpTo from log.start log.first (log_of log.start log.end log.first f.bytes) base base at number)
    of_file None told = tt
    of_file (Some f) told = begun_told log from base at number f.bytes can.wanted told

-- one entry more, which is taken where its number is `from` or above
part_more : (from first number bytes at_bytes : ℕ) (old items added : List Entry) (e : Entry) → first ≤ number → AddsPart from first number bytes old items → e.number ≡ number → at_bytes ≡ bytes + record_width e
    → added ≡ items ++ drop (from - number) (e ∷ []) → AddsPart from first (number + 1) at_bytes old added
part_more from first number bytes at_bytes old items added e least part its_number wide items_now = elim (cases_lt number from) [
  | inl before ↦
      let gone : drop (from - number) (e ∷ []) ≡ [] = drop_all (from - number) (e ∷ []) (omega arith) in
      let same : added ≡ items = items_now ∙ ap (λ (l : List Entry). items ++ l) gone ∙ append-nil items in
      (part.0, same ∙ part.1, record { numbers = part.2.numbers; count = omega (arith, part.2.count); width = λ low. absurd (omega arith) })
  | inr wanted ↦
      let none : from - number ≡ 0 = omega arith in
      let more : added ≡ items ++ e ∷ [] = items_now ∙ ap (λ (n : ℕ). items ++ drop n (e ∷ [])) none in
      let next : max from first + length part.0 ≡ number = omega (arith, part.2.count) in (
        part.0 ++ e ∷ [],
        more ∙ ap (λ (l : List Entry). l ++ e ∷ []) part.1 ∙ append_assoc old part.0 (e ∷ []),
        record {
          numbers = numbered_then (max from first) part.0 (e ∷ []) part.2.numbers (its_number ∙ sym next, tt);
          count = omega (arith, part.2.count, length-append part.0 (e ∷ []));
          width = λ low. sum_by-append record_width part.0 (e ∷ []) ∙ omega (arith, part.2.width low, wide);
        },
      )
]

-- a refusal at a record that is there
module _ (from start first : ℕ) (list : List (List ℕ)) (base items : List Entry) (at number : ℕ) (so_far : IsReadUpTo from start first list base items at number) (next : Next from start first list base items at number so_far) {T : Type 0} (P : List Entry → T → Type 0) where
  pub record_refused : (e : TransdbError) → IsRecordOf (record_in start first list at) at number (Err e) → IsReadOf P (entries_from first start list) (Err e)
  record_refused NoDatabase told = told
  record_refused (Damaged place) told = absurd (told.1 (record { number = number; payload = next.payload; next = at + HEAD + length next.payload }) next.there refl)
  record_refused (Full need room) told = told
  record_refused NotClean told = told
  record_refused (Held mark last) told = told
  record_refused FaultBefore told = told
  record_refused (InDoubt n) told = told
  record_refused Fault told = tt
  record_refused NoMemory told = tt

  -- or at its payload
  pub entry_refused : (r : LogRecord) → record_in start first list at ≡ Some r → r.number ≡ number → (e : TransdbError) → IsEntryOf r.number r.payload at (Err e) → IsReadOf P (entries_from first start list) (Err e)
  entry_refused r there same NoDatabase told = absurd told
  entry_refused r there same (Damaged place) told =
      let payload : r.payload ≡ next.payload = cc (there, next.there) in
      let one : read_entry number next.payload ≡ Err told.1.0 = ap (λ (n : ℕ). read_entry n next.payload) (sym same) ∙ ap (read_entry r.number) (sym payload) ∙ told.1.1 in
      fault_next from start first list base items at number so_far next told.1.0 one ∙ ap Err (sym told.0)
  entry_refused r there same (Full need room) told = absurd told
  entry_refused r there same NotClean told = absurd told
  entry_refused r there same (Held mark last) told = absurd told
  entry_refused r there same FaultBefore told = absurd told
  entry_refused r there same (InDoubt n) told = absurd told
  entry_refused r there same Fault told = absurd told
  entry_refused r there same NoMemory told = tt

-- each turn of the walk
module _ (log : Log) (from : ℕ) (base : List Entry) (w mid : World) (window : Window) (at number : ℕ) (items : List Entry) (so_far : IsWalked log from base w mid window at number items) (stands : LogStands log (file_of log.file w))
    (reads : ReadsImage (file_of log.file w)) where
  -- the file is as before
  pub walked_file : file_of log.file mid ≡ file_of log.file w
  walked_file = run_end log.file (λ f. f ≡ file_of log.file w) w mid so_far.run

  -- those that were read so far
  pub walked_some : (new : List Entry) → new ≡ items → AddsSome from log.first log.next base new
  walked_some new is = (number, at - log.start, so_far.most, subst (AddsPart from log.first number (at - log.start) base) (sym is) so_far.part)

  -- the place is one of the list
  pub walked_place : IfSome (file_of log.file w) (λ f. IsPlaceIn log.start (log_of log.start log.end log.first f.bytes) at)
  walked_place = of_file (file_of log.file w) so_far.told
    where
      of_file : (o : Option File) → IfSome o (λ f. IsReadUpTo from log.start log.first (log_of log.start log.end log.first f.bytes) base items at number) → IfSome o (λ f. IsPlaceIn log.start (log_of log.start log.end log.first f.bytes) at)
      of_file None told = tt
      of_file (Some f) told = at_place from log.start log.first (log_of log.start log.end log.first f.bytes) base items at number told

  pub its_next : (f : File) → LogStands log (Some f) → ReadsImage (Some f) → at < log.place → (told : IsReadUpTo from log.start log.first (log_of log.start log.end log.first f.bytes) base items at number)
      → Next from log.start log.first (log_of log.start log.end log.first f.bytes) base items at number told
  its_next f stands reads inside told = next_of from log.start log.first (log_of log.start log.end log.first f.bytes) base items at number told (omega (arith, (stands f.bytes reads).place))

  pub refused_record : {T : Type 0} (P : List Entry → T → Type 0) (e : TransdbError) → at < log.place
      → IfSome (file_of log.file w) (λ f. IsRecordOf (record_in log.start log.first (log_of log.start log.end log.first f.bytes) at) at number (Err e))
      → IfSome (file_of log.file w) (λ f. IsReadOf P (entries_from log.first log.start (log_of log.start log.end log.first f.bytes)) (Err e))
  refused_record {T} P e inside refused = of_file (file_of log.file w) stands reads so_far.told refused
    where
      of_file : (o : Option File) → LogStands log o → ReadsImage o → IfSome o (λ f. IsReadUpTo from log.start log.first (log_of log.start log.end log.first f.bytes) base items at number)
          → IfSome o (λ f. IsRecordOf (record_in log.start log.first (log_of log.start log.end log.first f.bytes) at) at number (Err e))
          → IfSome o (λ f. IsReadOf P (entries_from log.first log.start (log_of log.start log.end log.first f.bytes)) (Err e))
      of_file None stands reads told refused = tt
      of_file (Some f) stands reads told refused =
          record_refused from log.start log.first (log_of log.start log.end log.first f.bytes) base items at number told (its_next f stands reads inside told) P e refused

  module _ (r : LogRecord) (inside : at < log.place) (there : IfSome (file_of log.file w) (λ f. IsRecordOf (record_in log.start log.first (log_of log.start log.end log.first f.bytes) at) at number (Ok r))) (its_number : r.number ≡ number) where
    pub refused_entry : {T : Type 0} (P : List Entry → T → Type 0) (e : TransdbError) → IsEntryOf r.number r.payload at (Err e)
        → IfSome (file_of log.file w) (λ f. IsReadOf P (entries_from log.first log.start (log_of log.start log.end log.first f.bytes)) (Err e))
    refused_entry {T} P e refused = of_file (file_of log.file w) stands reads so_far.told there
      where
        of_file : (o : Option File) → LogStands log o → ReadsImage o → IfSome o (λ f. IsReadUpTo from log.start log.first (log_of log.start log.end log.first f.bytes) base items at number)
            → IfSome o (λ f. IsRecordOf (record_in log.start log.first (log_of log.start log.end log.first f.bytes) at) at number (Ok r))
            → IfSome o (λ f. IsReadOf P (entries_from log.first log.start (log_of log.start log.end log.first f.bytes)) (Err e))
        of_file None stands reads told there = tt
        of_file (Some f) stands reads told there =
            entry_refused from log.start log.first (log_of log.start log.end log.first f.bytes) base items at number told (its_next f stands reads inside told) P r there.0 its_number e refused

    module _ (now : World) (shown : Window) (e : Entry) (added : List Entry) (low : number < log.next) (run : Runs log.file (λ f. f ≡ file_of log.file mid) mid now) (shows : Shows shown (file_of log.file mid)) (ends : r.next ≡ at + 13 + length r.payload) (last : r.next ≤ log.place)
        (is : IsEntryOf r.number r.payload at (Ok e)) (items_now : added ≡ items ++ drop (from - number) (e ∷ [])) where
      wide : r.next - log.start ≡ at - log.start + record_width e
      wide = omega (arith, is.2, so_far.low)

      told_more : (o : Option File) → LogStands log o → ReadsImage o → IfSome o (λ f. IsReadUpTo from log.start log.first (log_of log.start log.end log.first f.bytes) base items at number)
          → IfSome o (λ f. IsRecordOf (record_in log.start log.first (log_of log.start log.end log.first f.bytes) at) at number (Ok r))
          → IfSome o (λ f. IsReadUpTo from log.start log.first (log_of log.start log.end log.first f.bytes) base added r.next (number + 1))
      told_more None stands reads told there = tt
      told_more (Some f) stands reads told there =
          let list = log_of log.start log.end log.first f.bytes in
          let next = its_next f stands reads inside told in
          let payload : r.payload ≡ next.payload = cc (there.0, next.there) in
          let place : at + HEAD + length next.payload ≡ r.next = omega (arith, ends, ap (length {A = ℕ}) payload) in
          let one : read_entry number next.payload ≡ Ok e = ap (λ (n : ℕ). read_entry n next.payload) (sym its_number) ∙ ap (read_entry r.number) (sym payload) ∙ is.0 in
          subst (λ (p : ℕ). IsReadUpTo from log.start log.first list base added p (number + 1)) place (read_next from log.start log.first list base items at number told next e added one items_now)

      pub walked_more : IsWalked log from base w now shown r.next (number + 1) added
      walked_more = record {
        run = joins log.file (λ f. f ≡ file_of log.file w) w mid now so_far.run (weakens log.file (λ f. f ≡ file_of log.file mid) (λ f. f ≡ file_of log.file w) mid now (λ o is. is ∙ walked_file) run);
        shows = subst (Shows shown) walked_file shows;
        low = omega (arith, so_far.low);
        high = inr last;
        least = omega (arith, so_far.least);
        most = omega arith;
        part = part_more from log.first number (at - log.start) (r.next - log.start) base items added e so_far.least so_far.part (is.1 ∙ its_number) wide items_now;
        told = told_more (file_of log.file w) stands reads so_far.told there;
      }

  -- at its end
  module _ (over : log.place ≤ at) where
    at_end : (f : File) → LogStands log (Some f) → ReadsImage (Some f) → at ≡ end_of_list log.start (log_of log.start log.end log.first f.bytes)
    at_end f stands reads =
        let one = stands f.bytes reads in
        elim so_far.high [
          | inl first ↦ omega (arith, one.place, one.in_range.start)
          | inr low ↦ omega (arith, one.place)
        ]

    pub walked_all : IfSome (file_of log.file w) (λ f. IsReadOf {T = Unit {0}} (λ all _. items ≡ base ++ drop (from - log.first) all) (entries_from log.first log.start (log_of log.start log.end log.first f.bytes)) (Ok tt))
    walked_all = of_file (file_of log.file w) stands reads so_far.told
      where
        of_file : (o : Option File) → LogStands log o → ReadsImage o → IfSome o (λ f. IsReadUpTo from log.start log.first (log_of log.start log.end log.first f.bytes) base items at number)
            → IfSome o (λ f. IsReadOf {T = Unit {0}} (λ all _. items ≡ base ++ drop (from - log.first) all) (entries_from log.first log.start (log_of log.start log.end log.first f.bytes)) (Ok tt))
        of_file None stands reads told = tt
        of_file (Some f) stands reads told =
            let list = log_of log.start log.end log.first f.bytes in
            let all = read_whole from log.start log.first list base items at number told (at_end f stands reads) in
            (all.0, all.1, all.2)

    -- a told file never shows another number
    pub walked_number : IfSome (file_of log.file w) (λ f. number ≡ log.next)
    walked_number = of_file (file_of log.file w) stands reads so_far.told
      where
        of_file : (o : Option File) → LogStands log o → ReadsImage o → IfSome o (λ f. IsReadUpTo from log.start log.first (log_of log.start log.end log.first f.bytes) base items at number) → IfSome o (λ f. number ≡ log.next)
        of_file None stands reads told = tt
        of_file (Some f) stands reads told =
            let list = log_of log.start log.end log.first f.bytes in
            (read_whole from log.start log.first list base items at number told (at_end f stands reads)).3 ∙ (stands f.bytes reads).number

    pub walked_wrong : (Q : File → Type 0) → number ≢ log.next → IfSome (file_of log.file w) Q
    walked_wrong Q other = of_file (file_of log.file w) walked_number
      where
        of_file : (o : Option File) → IfSome o (λ f. number ≡ log.next) → IfSome o Q
        of_file None same = tt
        of_file (Some f) same = absurd (other same)

    pub walked_part : number ≡ log.next → AddsPart from log.first log.next (log.place - log.start) base items
    walked_part is =
        let bytes : at - log.start ≡ log.place - log.start = elim so_far.high [
          | inl first ↦ omega arith
          | inr low ↦ omega arith
        ] in
        subst (λ (n : ℕ). AddsPart from log.first n (log.place - log.start) base items) is (subst (λ (b : ℕ). AddsPart from log.first number b base items) bytes so_far.part)

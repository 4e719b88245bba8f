-- What an opening finds.
use Rattle.std.proofs.Common.{◌≡◌, ◌≢◌, inl, ℕ, ◌+◌, ◌≤◌, Bool, true, false, List, [], ◌∷◌, length, take, Option, Some, None, Result, Ok, Err, refl, sym, ◌∙◌, ap, subst, arith}
use Rattle.std.specs.Prelude.{◌==◌, IfSome, is_some, if◌then◌else◌}
use Rattle.std.proofs.lemmas.Bool.{false≢true, eqb-true, eqb-false}
use Rattle.std.proofs.lemmas.List.{take_all}
use Rattle.odb_device.specs.World.{File}
use Rattle.odb_device.specs.Images.{EachImage, ReadsImage}
use Rattle.odb_extent.specs.Opened.{content_end, limit_in, fields_in}
use Rattle.odb_extent.specs.Standing.{ExtentState, limit_of, fields_of, limit_tried, fields_tried, IsSound, IsSettled}
use Rattle.odb_reclog.specs.Records.{log_of}
use Rattle.odb_reclog.specs.Standing.{Log, Stands as LogStands}
use Rattle.odb_entries.specs.Listed.{entries_from, log_entries}
use Rattle.odb_entries.proofs.Entries.{count_read}
use Rattle.odb_model.specs.declared.entry.Entry.{Entry}
use Rattle.odb_logdb.specs.declared.fields.LogFields.{LogFields}
use Rattle.odb_logdb.specs.declared.error.LogdbError.{LogdbError}
use Rattle.odb_logdb.specs.declared.error.LogdbError.TheVariants.{Fault, LogFull, NotHeld, Damaged, NoMemory}
use Rattle.odb_logdb.specs.declared.state.ListState.{ListState}
use Rattle.odb_logdb.specs.declared.state.ListState.TheVariants.{Known, Dirty}
use Rattle.odb_logdb.specs.ListStates.{list_state}
use Rattle.odb_logdb.specs.Fields.{LIVE, DIRTY, lawful_in}
use Rattle.odb_logdb.specs.Opened.{Opened, MOST, holding, records_start, with_entries, opened, entries_of, entries_in}
use Rattle.odb_logdb.specs.Opening.{list_start, IsChecked}
use Rattle.odb_logdb.specs.Standing.{LogState, IsLogdb, IsInState, HoldsBy, StandsFor, StandsIn, Stands, next_by, count_of, held}
use Rattle.odb_logdb.specs.Answers.{IsOpenAnswer}
use Rattle.odb_logdb.proofs.Opened.{IsLawful, none_listed}
use Rattle.odb_logdb.proofs.Based.{IsBased, its_law, told, opens_based}

live_is : (n : ℕ) → LIVE ≤ n → n ≤ DIRTY → n ≢ DIRTY → n ≡ LIVE
live_is n low high other = omega (arith, other)

-- a log of the region
pub record IsOf (limit : ℕ) (f : LogFields) (log : Log) : Type 0 where
  pub file : log.file ≡ 1
  pub start : log.start ≡ list_start limit f
  pub end : log.end ≡ content_end limit
  pub first : log.first ≡ f.first

-- its list and its entries
module _ (limit : ℕ) (f : LogFields) (log : Log) (of : IsOf limit f log) where
  pub same_list : (bytes : List ℕ) → log_of log.start log.end log.first bytes ≡ log_of (list_start limit f) (content_end limit) f.first bytes
  same_list bytes =
      ap (λ (s : ℕ). log_of s log.end log.first bytes) of.start ∙ ap (λ (e : ℕ). log_of (list_start limit f) e log.first bytes) of.end
      ∙ ap (λ (n : ℕ). log_of (list_start limit f) (content_end limit) n bytes) of.first

  pub same_entries : (bytes : List ℕ) → log_entries log bytes ≡ entries_from f.first (list_start limit f) (log_of (list_start limit f) (content_end limit) f.first bytes)
  same_entries bytes =
      ap (entries_from log.first log.start) (same_list bytes)
      ∙ ap (λ (s : ℕ). entries_from log.first s (log_of (list_start limit f) (content_end limit) f.first bytes)) of.start
      ∙ ap (λ (n : ℕ). entries_from n (list_start limit f) (log_of (list_start limit f) (content_end limit) f.first bytes)) of.first

module _ (e : ExtentState) (f : LogFields) (is : lawful_in (limit_of e) (fields_of e) ≡ Some f) (log : Log) (of : IsOf (limit_of e) f log) (list : List (List ℕ)) where
  abbrev Based : List ℕ → Type 0
  Based = IsBased e f is list

  abbrev all_of : Result (List Entry) ℕ
  all_of = entries_from f.first (list_start (limit_of e) f) list

  read_list : (bytes : List ℕ) → Based bytes → log_entries log bytes ≡ all_of
  read_list bytes b = same_entries (limit_of e) f log of bytes ∙ ap (entries_from f.first (list_start (limit_of e) f)) b.list_is

  -- the refusals of the walk
  refused_by : (err : LogdbError) (read : Result (List Entry) ℕ) (bytes : List ℕ) → read ≡ all_of → opened bytes ≡ told e f is list → IsChecked {T = Unit {0}} read (Err err) → IsOpenAnswer (Err err) (opened bytes)
  refused_by Fault read bytes same opens checked = tt
  refused_by (LogFull need room) read bytes same opens checked = absurd checked
  refused_by (NotHeld first) read bytes same opens checked = absurd checked
  refused_by (Damaged at) read bytes same opens checked = opens ∙ ap (with_entries f.first) (sym same ∙ checked)
  refused_by NoMemory read bytes same opens checked = tt

  pub refused : (err : LogdbError) (o p : Option File) → is_some p ≡ is_some o → ReadsImage o → ReadsImage p → EachImage Based o → EachImage Based p
      → IfSome p (λ g. IsChecked {T = Unit {0}} (log_entries log g.bytes) (Err err)) → IfSome o (λ g. IsOpenAnswer (Err err) (opened g.bytes))
  refused err None p still reads reads_p based based_p checked = tt
  refused err (Some g) None still reads reads_p based based_p checked = absurd (false≢true still)
  refused err (Some g) (Some h) still reads reads_p based based_p checked =
      refused_by err (log_entries log h.bytes) g.bytes (read_list h.bytes (based_p h.bytes reads_p)) (opens_based e f is list g.bytes (based g.bytes reads)) checked

  pub same_shown : (o p : Option File) → is_some p ≡ is_some o → ReadsImage o → ReadsImage p → EachImage Based o → EachImage Based p → entries_in p ≡ entries_in o
  same_shown None None still reads reads_p based based_p = refl
  same_shown None (Some h) still reads reads_p based based_p = absurd (false≢true (sym still))
  same_shown (Some g) None still reads reads_p based based_p = absurd (false≢true still)
  same_shown (Some g) (Some h) still reads reads_p based based_p = ap entries_of (opens_based e f is list h.bytes (based_p h.bytes reads_p) ∙ sym (opens_based e f is list g.bytes (based g.bytes reads)))

  -- the log as it is opened
  abbrev pub made : LogState
  made = record { extents = e; fields = f; log = log; state = list_state f }

  by_number : (bytes : List ℕ) → Based bytes → log.first + length (log_of log.start log.end log.first bytes) ≡ log.next → f.first + length list ≡ log.next
  by_number bytes b number =
      ap (λ (n : ℕ). n + length list) (sym of.first) ∙ ap (λ (l : List (List ℕ)). log.first + length l) (sym (same_list (limit_of e) f log of bytes ∙ b.list_is)) ∙ number

  none_dirty : (bytes : List ℕ) → Based bytes → (f.state == DIRTY) ≡ true → list ≡ []
  none_dirty bytes b dirty =
      let start : list_start (limit_of e) f ≡ content_end (limit_of e) = ap (λ (b : Bool). if b then content_end (limit_of e) else records_start f) dirty in
      sym b.list_is ∙ ap (λ (s : ℕ). log_of s (content_end (limit_of e)) f.first bytes) start ∙ none_listed (content_end (limit_of e)) f.first bytes

  -- it has as many entries as it counts
  count_made : (all : List Entry) (bytes : List ℕ) → Based bytes → f.first + length list ≡ log.next → all_of ≡ Ok all → length all ≡ count_of made
  count_made all bytes b number read = of_test (f.state == DIRTY) refl
    where
      count : length all ≡ length list
      count = count_read f.first (list_start (limit_of e) f) list all read

      of_test : (d : Bool) → (f.state == DIRTY) ≡ d → length all ≡ count_of made
      of_test true dirty =
          let next : next_by made (list_state f) ≡ f.first = ap (λ (d : Bool). next_by made (if d then Dirty else Known)) dirty in
          omega (arith, count, ap (length {A = List ℕ}) (none_dirty bytes b dirty), next)
      of_test false live =
          let next : next_by made (list_state f) ≡ log.next = ap (λ (d : Bool). next_by made (if d then Dirty else Known)) live in
          omega (arith, count, next, number)

  -- what is in order
  pub its_number : (p : File) → LogStands log (Some p) → ReadsImage (Some p) → Based p.bytes → f.first + length list ≡ log.next
  its_number p stands reads b = by_number p.bytes b (stands p.bytes reads).number

  pub answered : (o p : Option File) → is_some p ≡ is_some o → ReadsImage o → ReadsImage p → EachImage Based o → EachImage Based p → LogStands log p
      → IfSome p (λ g. IsChecked {T = Unit {0}} (log_entries log g.bytes) (Ok tt)) → IfSome o (λ g. IsOpenAnswer (Ok made) (opened g.bytes))
  answered None p still reads reads_p based based_p stands checked = tt
  answered (Some g) None still reads reads_p based based_p stands checked = absurd (false≢true still)
  answered (Some g) (Some h) still reads reads_p based based_p stands checked =
      let b = based_p h.bytes reads_p in
      let read : all_of ≡ Ok checked.0 = sym (read_list h.bytes b) ∙ checked.1 in (
        checked.0,
        opens_based e f is list g.bytes (based g.bytes reads) ∙ ap (with_entries f.first) read,
        count_made checked.0 h.bytes b (its_number h stands reads_p b) read,
      )

  module _ (settled : IsSettled e) (p : File) (reads : ReadsImage (Some p)) (based : EachImage Based (Some p)) (stands : LogStands log (Some p)) (all : List Entry) (read : all_of ≡ Ok all) where
    opens_all : (image : List ℕ) → Based image → opened image ≡ holding f.first all
    opens_all image b = opens_based e f is list image b ∙ ap (with_entries f.first) read

    number_is : f.first + length list ≡ log.next
    number_is = its_number p stands reads (based p.bytes reads)

    count_is : length all ≡ count_of made
    count_is = count_made all p.bytes (based p.bytes reads) number_is read

    held_is : held made (Some p) ≡ all
    held_is = ap (λ (o : Opened). take (count_of made) (entries_of o)) (opens_all p.bytes (based p.bytes reads)) ∙ take_all (count_of made) all (omega (arith, count_is))

    none_all : (image : List ℕ) → Based image → (f.state == DIRTY) ≡ true → all ≡ []
    none_all image b dirty =
        let count : length all ≡ 0 = omega (arith, count_read f.first (list_start (limit_of e) f) list all read, ap (length {A = List ℕ}) (none_dirty image b dirty)) in
        empty_list all count
      where
        empty_list : (l : List Entry) → length l ≡ 0 → l ≡ []
        empty_list [] is = refl
        empty_list (x ∷ xs) is = absurd (omega (arith, is))

    alike : lawful_in (limit_of e) (fields_tried e) ≡ Some f
    alike = ap (λ (l : List ℕ). lawful_in (limit_of e) (fields_in l)) settled.tried ∙ is

    made_holds : (image : List ℕ) → Based image → HoldsBy made (list_state f) all image
    made_holds image b = of_test (f.state == DIRTY) refl
      where
        of_test : (d : Bool) → (f.state == DIRTY) ≡ d → HoldsBy made (list_state f) all image
        of_test true dirty =
            subst (λ (s : ListState). HoldsBy made s all image) (sym (ap (λ (d : Bool). if d then Dirty else Known) dirty))
            (record { holds = opens_all image b; none = none_all image b dirty; tried = inl alike })
        of_test false live =
            subst (λ (s : ListState). HoldsBy made s all image) (sym (ap (λ (d : Bool). if d then Dirty else Known) live)) (opens_all image b, read_list image b ∙ read)

    made_each : EachImage (StandsFor made (held made (Some p))) (Some p)
    made_each = λ image im.
        let b = based image im in
        subst (λ (l : List Entry). StandsFor made l image) (sym held_is) (record { extents = b.extents; long = b.long; holds = made_holds image b })

    pub made_stands : StandsIn made p
    made_stands = record {
      each = made_each;
      count = ap length held_is ∙ count_is;
      log = λ known. stands;
    }

  pub stands_all : IsSettled e → (p : Option File) → ReadsImage p → EachImage Based p → LogStands log p → (all : List Entry) → all_of ≡ Ok all → Stands made p
  stands_all settled None reads based stands all read = tt
  stands_all settled (Some p) reads based stands all read = made_stands settled p reads based stands all read

  pub stands_made : IsSettled e → (p : Option File) → ReadsImage p → EachImage Based p → LogStands log p → IfSome p (λ g. IsChecked {T = Unit {0}} (log_entries log g.bytes) (Ok tt)) → Stands made p
  stands_made settled None reads based stands checked = tt
  stands_made settled (Some p) reads based stands checked = made_stands settled p reads based stands checked.0 (sym (read_list p.bytes (based p.bytes reads)) ∙ checked.1)

  -- it is one of the log's values
  pub made_is : e.pair.file ≡ 1 → e.most ≡ MOST → 1 ≤ limit_of e → limit_of e ≤ e.most → IsSettled e → log.in_doubt ≡ false → IsLogdb made
  made_is file most low high settled usable = record {
    file = file;
    most = most;
    sound = settled_sound;
    fields = is;
    log_file = of.file;
    first = of.first;
    in_state = of_test (f.state == DIRTY) refl;
  }
    where
      tried_is : limit_tried e ≡ limit_of e
      tried_is = ap limit_in settled.tried

      settled_sound : IsSound e
      settled_sound = record { low = low; high = high; most = omega (arith, most); tried_low = omega (arith, tried_is); tried_high = omega (arith, tried_is, high) }

      law : IsLawful (limit_of e) f
      law = its_law e f is

      of_test : (d : Bool) → (f.state == DIRTY) ≡ d → IsInState made (list_state f)
      of_test true dirty = subst (IsInState made) (sym (ap (λ (d : Bool). if d then Dirty else Known) dirty)) (record { dirty = eqb-true f.state DIRTY dirty; limit = tried_is })
      of_test false live =
          let other : f.state ≢ DIRTY = eqb-false f.state DIRTY live in
          let start : list_start (limit_of e) f ≡ records_start f = ap (λ (b : Bool). if b then content_end (limit_of e) else records_start f) live in
          subst (IsInState made) (sym (ap (λ (d : Bool). if d then Dirty else Known) live)) (record {
            region = record { live = live_is f.state law.low law.high other; alike = ap fields_in settled.tried; start = of.start ∙ start; end = of.end };
            usable = usable;
          })

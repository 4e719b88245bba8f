-- What the images of a Live log hold, and what its parts keep.
use Rattle.std.proofs.Common.{◌≡◌, inl, inr, ℕ, ◌≤◌, Bool, true, false, List, length, Option, Some, None, Ok, refl, sym, ◌∙◌, ap, subst, arith}
use Rattle.std.specs.Prelude.{◌==◌, is_some, is_err, IfSome, OnOk, OnErr, Result, Err, if◌then◌else◌}
use Rattle.std.proofs.lemmas.Bool.{cases_lt, false≢true}
use Rattle.std.proofs.lemmas.Bool.Decides.{nat_tests}
use Rattle.odb_device.specs.World.{File, World, file_of}
use Rattle.odb_device.specs.Images.{EachImage, ReadsImage}
use Rattle.odb_device.specs.Moments.{Runs}
use Rattle.odb_device.proofs.Time.{weakens}
use Rattle.odb_device.proofs.Torn.{each_weakens}
use Rattle.odb_pair.proofs.Opens.{opens}
use Rattle.odb_extent.specs.Opened.{Holds as ExtentsHold, content_end}
use Rattle.odb_extent.specs.Standing.{ExtentState, limit_of, fields_of, limit_tried, IsFileOf, HoldsAt, HoldsKept}
use Rattle.odb_extent.proofs.Putting.{kept_holds}
use Rattle.odb_reclog.specs.Records.{log_of}
use Rattle.odb_reclog.specs.Standing.{Log, StandsFor as LogStandsFor, Stands as LogStands, list_of, tail_of}
use Rattle.odb_reclog.proofs.Standing.{stands_extended}
use Rattle.odb_reclog.proofs.Files.{stands_each}
use Rattle.odb_entries.specs.Listed.{entries_from, entries_at, log_entries}
use Rattle.odb_model.specs.declared.entry.Entry.{Entry}
use Rattle.odb_logdb.specs.declared.fields.LogFields.{LogFields}
use Rattle.odb_logdb.specs.Fields.{DIRTY, is_lawful, fields_in, lawful, lawful_in}
use Rattle.odb_logdb.specs.Opened.{MOST, Holds, records_start, with_entries}
use Rattle.odb_logdb.specs.Opening.{list_start}
use Rattle.odb_logdb.specs.Adding.{IsLive}
use Rattle.odb_logdb.proofs.Opened.{lawful_is, opens_list}

-- fields that are lawful in one limit are so in a greater one
pub lawful_more : (limit more : ℕ) (o : Option LogFields) (f : LogFields) → limit ≤ more → lawful limit o ≡ Some f → lawful more o ≡ Some f
lawful_more limit more None f low is = is
lawful_more limit more (Some g) f low is = of_test (is_lawful limit g) refl
  where
    of_test : (b : Bool) → is_lawful limit g ≡ b → lawful more (Some g) ≡ Some f
    of_test false fails = let none : None ≡ Some f = sym (ap (λ (b : Bool). if b then Some g else None) fails) ∙ is in absurd (cc none)
    of_test true passes =
        let some : Some g ≡ Some f = sym (ap (λ (b : Bool). if b then Some g else None) passes) ∙ is in
        let law = lawful_is limit g passes in
        let again : is_lawful more g ≡ true = grind (arith, nat_tests, law.format, law.low, law.high, law.some, law.first, law.start) in
        ap (λ (b : Bool). if b then Some g else None) again ∙ some

-- of a file that isn't told nothing is said, at any moment
none_each : (R : List ℕ → Type 0) (o : Option File) → is_some o ≡ false → EachImage R o
none_each R None none = tt
none_each R (Some g) none = absurd (false≢true (sym none))

run_none : (P R : List ℕ → Type 0) (w now : World) → is_some (file_of 1 w) ≡ false → Runs 1 (EachImage P) w now → Runs 1 (EachImage R) w now
run_none P R w now none run = record { only = run.only; each = λ k from to. none_each R ((now.moment k).files 1) (run.only.told k from to ∙ none) }

-- what holds where the file is told, whatever it is
pub by_file : (o : Option File) (Q : Type 0) → (o ≡ None → Q) → ((g : File) → o ≡ Some g → Q) → Q
by_file None Q none some = none refl
by_file (Some g) Q none some = some g refl

pub told_run : (P R : List ℕ → Type 0) (w now : World) → ((g : File) → file_of 1 w ≡ Some g → (image : List ℕ) → P image → R image) → Runs 1 (EachImage P) w now → Runs 1 (EachImage R) w now
told_run P R w now each run =
    by_file (file_of 1 w) (Runs 1 (EachImage R) w now)
    (λ none. run_none P R w now (ap is_some none) run)
    (λ g is. weakens 1 (EachImage P) (EachImage R) w now (λ o. each_weakens P R o (each g is)) run)

-- and at its end
pub told_each : (P R : List ℕ → Type 0) (o p : Option File) → is_some p ≡ is_some o → ((g : File) → o ≡ Some g → (image : List ℕ) → P image → R image) → EachImage P p → EachImage R p
told_each P R None p told each here = none_each R p told
told_each P R (Some g) p told each here = each_weakens P R p (each g refl) here

-- the log of the same region, in another state
pub live_like : (e : ExtentState) (f : LogFields) (log new : Log) → IsLive e f log → new.file ≡ log.file → new.start ≡ log.start → new.end ≡ log.end → new.first ≡ log.first → IsLive e f new
live_like e f log new live file start end first = record {
  file = live.file;
  most = live.most;
  sound = live.sound;
  fields = live.fields;
  alike = live.alike;
  live = live.live;
  log_file = file ∙ live.log_file;
  first = first ∙ live.first;
  start = start ∙ live.start;
  end = end ∙ live.end;
}

module _ (e : ExtentState) (f : LogFields) (log : Log) (live : IsLive e f log) where
  low_start : 1024 ≤ log.start
  low_start = omega (arith, live.start)

  its_start : (limit : ℕ) → list_start limit f ≡ log.start
  its_start limit = ap (λ (n : ℕ). if n == DIRTY then content_end limit else records_start f) live.live ∙ sym live.start

  module _ (records : List (List ℕ)) (between : List ℕ) (entries : List Entry) (bytes : List ℕ) (stands : LogStandsFor log records between bytes) (read : entries_from log.first log.start records ≡ Ok entries) where
    -- a greater limit that the file may keep adds nothing to the list
    pub holds_at : (limit : ℕ) → limit_of e ≤ limit → limit ≤ MOST → HoldsAt e limit (fields_of e) bytes → Holds f.first entries bytes
    holds_at limit low high h =
        let lawful_here : lawful_in limit (fields_of e) ≡ Some f = lawful_more (limit_of e) limit (fields_in (fields_of e)) f low live.fields in
        let long : content_end limit ≤ length bytes = elim (cases_lt (limit_of e) limit) [
          | inl less ↦ h.added.long less
          | inr same ↦ omega (arith, stands.long, live.end, same, low)
        ] in
        let further = stands_extended log (content_end limit) records between bytes (omega (arith, live.end, low)) (omega (arith, high)) stands long (λ i from to. h.added.zero i (omega (arith, from, live.end)) to) in
        let listing : entries_at (list_start limit f) (content_end limit) f.first bytes ≡ Ok entries =
        ap (λ (s : ℕ). entries_at s (content_end limit) f.first bytes) (its_start limit) ∙ ap (λ (n : ℕ). entries_at log.start (content_end limit) n bytes) (sym live.first)
        ∙ ap (entries_from log.first log.start) further.list ∙ read in
        opens_list limit (fields_of e) bytes (subst (λ (n : ℕ). ExtentsHold n limit (fields_of e) bytes) live.most h.holds) f lawful_here long ∙ ap (with_entries f.first) listing

    pub holds_either : HoldsKept e bytes → Holds f.first entries bytes
    holds_either h =
        let sound = live.sound in
        elim h [
          | inl kept ↦ holds_at (limit_of e) (omega arith) (omega (arith, sound.high, live.most)) kept
          | inr tried ↦ holds_at (limit_tried e) sound.tried_low (omega (arith, sound.tried_high, live.most)) (subst (λ (l : List ℕ). HoldsAt e (limit_tried e) l bytes) live.alike tried)
        ]

    pub holds_kept : IsFileOf e bytes → Holds f.first entries bytes
    holds_kept file = holds_either (kept_holds e bytes live.sound file.added (opens e.pair bytes file.pair))

-- an image of the file, and what its record log stands for there
pub record IsBoth (e : ExtentState) (log : Log) (records : List (List ℕ)) (between : List ℕ) (image : List ℕ) : Type 0 where
  pub extents : IsFileOf e image
  pub stands : LogStandsFor log records between image

pub both_holds : (e : ExtentState) (f : LogFields) (log : Log) → IsLive e f log → (records : List (List ℕ)) (between : List ℕ) (entries : List Entry) → entries_from log.first log.start records ≡ Ok entries
    → (image : List ℕ) → IsBoth e log records between image → Holds f.first entries image
both_holds e f log live records between entries read image b = holds_kept e f log live records between entries image b.stands read b.extents

pub list_some : (log : Log) (o : Option File) (g : File) → o ≡ Some g → list_of log o ≡ log_of log.start log.end log.first g.bytes
list_some log o g is = ap (list_of log) is

-- the entries of the list of a told file
pub list_read : (log : Log) (entries : List Entry) (o : Option File) → IfSome o (λ g. log_entries log g.bytes ≡ Ok entries) → (g : File) → o ≡ Some g → entries_from log.first log.start (list_of log o) ≡ Ok entries
list_read log entries o read g is =
    ap (entries_from log.first log.start) (list_some log o g is) ∙ subst (λ (x : Option File). IfSome x (λ g. log_entries log g.bytes ≡ Ok entries)) is read

-- and the other way, from a list that is the same
pub read_list : (log new : Log) (entries : List Entry) (o p : Option File) → is_some p ≡ is_some o → new.first ≡ log.first → new.start ≡ log.start → list_of new p ≡ list_of log o
    → IfSome o (λ g. log_entries log g.bytes ≡ Ok entries) → IfSome p (λ g. log_entries new g.bytes ≡ Ok entries)
read_list log new entries o None told first start same read = tt
read_list log new entries None (Some h) told first start same read = absurd (false≢true (sym told))
read_list log new entries (Some g) (Some h) told first start same read =
    ap (λ (n : ℕ). entries_from n new.start (list_of new (Some h))) first ∙ ap (λ (s : ℕ). entries_from log.first s (list_of new (Some h))) start
    ∙ ap (entries_from log.first log.start) same ∙ read

pub both_each : (e : ExtentState) (log : Log) (o : Option File) → EachImage (IsFileOf e) o → LogStands log o → EachImage (IsBoth e log (list_of log o) (tail_of log o)) o
both_each e log None extents stands = tt
both_each e log (Some g) extents stands = λ image im. record { extents = extents image im; stands = stands image im }

pub each_file : (e : ExtentState) (log : Log) (records : List (List ℕ)) (between : List ℕ) (o : Option File) → EachImage (IsBoth e log records between) o → EachImage (IsFileOf e) o
each_file e log records between o both = each_weakens (IsBoth e log records between) (IsFileOf e) o (λ image b. b.extents) both

pub each_log : (e : ExtentState) (log : Log) (records : List (List ℕ)) (between : List ℕ) (o : Option File) → ReadsImage o → EachImage (IsBoth e log records between) o → LogStands log o
each_log e log records between o reads both = stands_each log records between o reads (each_weakens (IsBoth e log records between) (LogStandsFor log records between) o (λ image b. b.stands) both)

-- its list is the one that it stands for
pub list_both : (e : ExtentState) (log : Log) (records : List (List ℕ)) (between : List ℕ) (h : File) → ReadsImage (Some h) → EachImage (IsBoth e log records between) (Some h) → list_of log (Some h) ≡ records
list_both e log records between h reads both = (both h.bytes reads).stands.list

-- a call that didn't fail, and one that did
pub ok_of : {T E : Type 0} (A : Type 0) (r : Result T E) → is_err r ≡ false → OnOk r A → A
ok_of A (Ok x) is a = a
ok_of A (Err e) is a = absurd (false≢true (sym is))

pub err_of : {T E : Type 0} (A : Type 0) (r : Result T E) → is_err r ≡ true → OnErr r A → A
err_of A (Ok x) is a = absurd (false≢true is)
err_of A (Err e) is a = a

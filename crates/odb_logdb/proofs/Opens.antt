-- An opening, from the worlds that its calls leave.
use Rattle.std.proofs.Common.{◌≡◌, ℕ, ◌-◌, ◌≤◌, List, length, Option, Some, None, Ok, Err, sym, ◌∙◌, ap, subst, arith}
use Rattle.std.specs.Prelude.{IfSome, is_some, if◌then◌else◌, ◌==◌}
use Rattle.odb_device.specs.World.{File, World, file_of}
use Rattle.odb_device.specs.Images.{EachImage, ReadsImage}
use Rattle.odb_device.specs.Moments.{Runs}
use Rattle.odb_extent.specs.Opened.{content_end, Holds as ExtentsHold, opened as extents_opened}
use Rattle.odb_extent.specs.Standing.{ExtentState, limit_of, fields_of}
use Rattle.odb_reclog.specs.Told.{IfTold, OnlyReads}
use Rattle.odb_reclog.specs.Standing.{Log, list_in}
use Rattle.odb_reclog.specs.Moments.{KeepsLists}
use Rattle.odb_reclog.specs.Regions.{region, KeepsListFrom, IsOpened as IsLogOpened}
use Rattle.odb_entries.specs.Listed.{log_entries}
use Rattle.odb_logdb.specs.declared.fields.LogFields.{LogFields}
use Rattle.odb_logdb.specs.declared.error.LogdbError.{LogdbError}
use Rattle.odb_logdb.specs.declared.error.LogdbError.TheVariants.{Fault, LogFull, NotHeld, Damaged, NoMemory}
use Rattle.odb_logdb.specs.Fields.{DIRTY, lawful_in}
use Rattle.odb_logdb.specs.Opened.{MOST, records_start, damaged, opened, entries_in}
use Rattle.odb_logdb.specs.Opening.{HasExtents, list_start, IsExtentsAnswer, IsLongAnswer, IsChecked}
use Rattle.odb_logdb.specs.Standing.{IsLogdb, Stands}
use Rattle.odb_logdb.specs.Answers.{IsOpenAnswer, KeepsOpened}
use Rattle.odb_logdb.proofs.Opened.{opens_refused, opens_none, opens_short}
use Rattle.odb_logdb.proofs.Based.{IsBased, based_first, list_leaves, list_based, walk_leaves, walked}
use Rattle.odb_logdb.proofs.Shown.{IsOf, refused, same_shown, made, answered, stands_made, made_is}

-- what the pair decides
pub pair_refused : (o : Option File) (err : LogdbError) → IfSome o (λ f. IsExtentsAnswer (Err err) (extents_opened MOST f.bytes)) → IfSome o (λ f. IsOpenAnswer (Err err) (opened f.bytes))
pair_refused None err found = tt
pair_refused (Some f) Fault found = tt
pair_refused (Some f) (LogFull need room) found = absurd found
pair_refused (Some f) (NotHeld first) found = absurd found
pair_refused (Some f) (Damaged at) found = opens_refused f.bytes found.1 ∙ ap damaged (sym found.0)
pair_refused (Some f) NoMemory found = absurd found

pub none_refused : (e : ExtentState) (o : Option File) → IfSome o (λ f. ExtentsHold MOST (limit_of e) (fields_of e) f.bytes) → lawful_in (limit_of e) (fields_of e) ≡ None → IfSome o (λ f. opened f.bytes ≡ damaged 0)
none_refused e None found none = tt
none_refused e (Some f) found none = opens_none (limit_of e) (fields_of e) f.bytes found none

-- and the file's length
pub length_refused : (e : ExtentState) (f : LogFields) (limit : ℕ) (o : Option File) (err : LogdbError) → lawful_in (limit_of e) (fields_of e) ≡ Some f → limit ≡ limit_of e
    → IfSome o (λ g. ExtentsHold MOST (limit_of e) (fields_of e) g.bytes) → IfSome o (λ g. IsLongAnswer {T = Unit {0}} limit (Err err) g.bytes) → IfSome o (λ g. IsOpenAnswer (Err err) (opened g.bytes))
length_refused e f limit None err is same found told = tt
length_refused e f limit (Some g) Fault is same found told = tt
length_refused e f limit (Some g) (LogFull need room) is same found told = absurd told
length_refused e f limit (Some g) (NotHeld first) is same found told = absurd told
length_refused e f limit (Some g) (Damaged at) is same found told =
    opens_short (limit_of e) (fields_of e) g.bytes found f is (omega (arith, told.1, ap content_end same)) ∙ ap damaged (sym told.0)
length_refused e f limit (Some g) NoMemory is same found told = absurd told

module _ (e : ExtentState) (f : LogFields) (w w1 w2 : World) (limit s t : ℕ) (is_limit : limit ≡ limit_of e) (is_t : t ≡ content_end limit) (is_s : s ≡ (if f.state == DIRTY then t else records_start f))
    (reads : ReadsImage (file_of 1 w)) (reads_2 : ReadsImage (file_of 1 w2)) (found : HasExtents e f w) (long : IfTold 1 w (λ bytes. content_end limit ≤ length bytes)) (look : OnlyReads 1 w w1) (run : KeepsListFrom s (region 1 s t f.first) w1 w2) where
  abbrev is : lawful_in (limit_of e) (fields_of e) ≡ Some f
  is = found.fields

  abbrev start : ℕ
  start = list_start (limit_of e) f

  abbrev end : ℕ
  end = content_end (limit_of e)

  end_is : t ≡ end
  end_is = is_t ∙ ap content_end is_limit

  start_is : s ≡ start
  start_is = is_s ∙ ap (λ (n : ℕ). if f.state == DIRTY then n else records_start f) end_is

  at_region : (P : ℕ → ℕ → Type 0) → P s t → P start end
  at_region P here = subst (λ (n : ℕ). P n end) start_is (subst (P s) end_is here)

  abbrev list : List (List ℕ)
  list = list_in start end f.first (file_of 1 w)

  based_at : EachImage (IsBased e f is list) (file_of 1 w)
  based_at = based_first e f is (file_of 1 w) found.kept found.stands found.found (subst (λ (n : ℕ). IfTold 1 w (λ bytes. content_end n ≤ length bytes)) is_limit long)

  run_at : Runs 1 (KeepsLists start end f.first start (end - start) (file_of 1 w1)) w1 w2
  run_at = at_region (λ (a b : ℕ). Runs 1 (KeepsLists a b f.first a (b - a) (file_of 1 w1)) w1 w2) run

  pub opened_leaves : Runs 1 (KeepsOpened (file_of 1 w)) w w2
  opened_leaves = list_leaves e f is w w1 reads look list based_at w2 run_at

  pub opened_based : EachImage (IsBased e f is list) (file_of 1 w2)
  opened_based = list_based e f is w w1 reads look list based_at w2 run_at

  opened_told : is_some (file_of 1 w2) ≡ is_some (file_of 1 w)
  opened_told = opened_leaves.only.told w2.time opened_leaves.only.later (omega arith)

  module _ (w3 : World) (walk : OnlyReads 1 w2 w3) (log : Log) (is_opened : IsLogOpened (region 1 s t f.first) log w1 w2) where
    pub of : IsOf (limit_of e) f log
    of = record { file = is_opened.file; start = is_opened.start ∙ start_is; end = is_opened.end ∙ end_is; first = is_opened.first }

    pub all_leaves : Runs 1 (KeepsOpened (file_of 1 w)) w w3
    all_leaves = walk_leaves e f is w w1 reads look list based_at w2 run_at w3 walk

    pub refused_at : (err : LogdbError) → IfTold 1 w2 (λ bytes. IsChecked {T = Unit {0}} (log_entries log bytes) (Err err)) → IfTold 1 w (λ bytes. IsOpenAnswer (Err err) (opened bytes))
    refused_at err checked = refused e f is log of list err (file_of 1 w) (file_of 1 w2) opened_told reads reads_2 based_at opened_based checked

    pub answered_at : IfTold 1 w2 (λ bytes. IsChecked {T = Unit {0}} (log_entries log bytes) (Ok tt)) → IfTold 1 w (λ bytes. IsOpenAnswer (Ok (made e f is log of list)) (opened bytes))
    answered_at checked = answered e f is log of list (file_of 1 w) (file_of 1 w2) opened_told reads reads_2 based_at opened_based is_opened.stands checked

    abbrev still : file_of 1 w3 ≡ file_of 1 w2
    still = walked e f is w w1 reads look list based_at w2 run_at w3 walk

    pub entries_still : entries_in (file_of 1 w3) ≡ entries_in (file_of 1 w)
    entries_still = ap entries_in still ∙ same_shown e f is log of list (file_of 1 w) (file_of 1 w2) opened_told reads reads_2 based_at opened_based

    pub stands_at : IfTold 1 w2 (λ bytes. IsChecked {T = Unit {0}} (log_entries log bytes) (Ok tt)) → Stands (made e f is log of list) (file_of 1 w3)
    stands_at checked = subst (Stands (made e f is log of list)) (sym still) (stands_made e f is log of list found.settled (file_of 1 w2) reads_2 opened_based is_opened.stands checked)

    pub made_at : 1 ≤ limit → limit ≤ e.most → IsLogdb (made e f is log of list)
    made_at low high = made_is e f is log of list found.file found.most (omega (arith, low, is_limit)) (omega (arith, high, is_limit)) found.settled is_opened.in_doubt

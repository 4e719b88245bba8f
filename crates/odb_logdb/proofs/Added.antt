-- Adding records, step by step.
use Rattle.std.proofs.Common.{◌≡◌, ◌⊎◌, inl, inr, ℕ, ◌+◌, ◌<◌, ◌≤◌, List, [], ◌∷◌, ◌++◌, length, take, drop, Option, Some, None, Result, Ok, Err, sym, ◌∙◌, ap, subst, append_assoc, get_or}
use Rattle.std.specs.Prelude.{IfSome}
use Rattle.std.proofs.lemmas.List.{take_all, append-nil, drop_more}
use Rattle.odb_device.specs.World.{File, World, file_of}
use Rattle.odb_device.specs.Images.{EachImage}
use Rattle.odb_device.specs.Moments.{Runs}
use Rattle.odb_device.specs.Told.{IfTold}
use Rattle.odb_device.proofs.Time.{begins, joins, weakens}
use Rattle.odb_device.proofs.Torn.{each_weakens}
use Rattle.odb_extent.specs.Opened.{content_end}
use Rattle.odb_extent.specs.Standing.{ExtentState, IsFileOf}
use Rattle.odb_reclog.specs.Records.{payload_at, end_of_list}
use Rattle.odb_reclog.specs.Standing.{Log, Stands as LogStands, HasItsBody, SameList, list_of, tail_of}
use Rattle.odb_reclog.specs.Regions.{CanOpen, IsWritten}
use Rattle.odb_codec.specs.Reading.{read_entry}
use Rattle.odb_entries.specs.Listed.{entries_from, log_entries}
use Rattle.odb_model.specs.declared.entry.Entry.{Entry}
use Rattle.odb_logdb.specs.declared.fields.LogFields.{LogFields}
use Rattle.odb_logdb.specs.declared.error.AddError.{AddError}
use Rattle.odb_logdb.specs.declared.error.AddError.TheVariants.{Fault, InDoubt, Full}
use Rattle.odb_logdb.specs.Opened.{MOST, Holds}
use Rattle.odb_logdb.specs.Adding.{MovesBy, IsHeld, IsDoubtful, KeepsHeld, HoldsThrough, HoldsOrOneMore, HoldsFront, IsBodyOf, AddsOne, OpensOne, LeavesBy, LeavesAfter, AddsAll}
use Rattle.odb_logdb.proofs.Held.{both_holds}

-- what is held, each image holds
pub holds_now : (e : ExtentState) (f : LogFields) (log : Log) (entries : List Entry) (w : World) → IsHeld e f log entries w → EachImage (Holds f.first entries) (file_of 1 w)
holds_now e f log entries w held = by_case (file_of 1 w) held.read held.extents held.stands
  where
    by_case : (o : Option File) → IfSome o (λ g. log_entries log g.bytes ≡ Ok entries) → EachImage (IsFileOf e) o → LogStands log o → EachImage (Holds f.first entries) o
    by_case None read extents stands = tt
    by_case (Some g) read extents stands = λ image im.
        both_holds e f log held.live (list_of log (Some g)) (tail_of log (Some g)) entries read image (record { extents = extents image im; stands = stands image im })

pub keeps_none : (e : ExtentState) (f : LogFields) (log : Log) (entries : List Entry) (w : World) → IsHeld e f log entries w → KeepsHeld e f log entries w w
keeps_none e f log entries w held = record { run = begins 1 (EachImage (Holds f.first entries)) w (holds_now e f log entries w held); held = held }

-- the entries that are held are those, or those and one more
or_more : (first : ℕ) (entries : List Entry) (one : Entry) (old new : World) → HoldsThrough first entries old new → Runs 1 (EachImage (HoldsOrOneMore first entries one)) old new
or_more first entries one old new run =
    weakens 1 (EachImage (Holds first entries)) (EachImage (HoldsOrOneMore first entries one)) old new (λ o. each_weakens (Holds first entries) (HoldsOrOneMore first entries one) o (λ image here. inl here)) run

pub adds_full : (e : ExtentState) (f : LogFields) (log : Log) (entries : List Entry) (one : Entry) (need room : ℕ) (w : World) → IsHeld e f log entries w → AddsOne {T = Unit {0}} e f log entries one (Err (Full need room)) w w
adds_full e f log entries one need room w held = record { run = or_more f.first entries one w w (keeps_none e f log entries w held).run; leaves = held }

pub adds_fault : (e : ExtentState) (f : LogFields) (log : Log) (entries : List Entry) (one : Entry) (w now : World) → KeepsHeld e f log entries w now → AddsOne {T = Unit {0}} e f log entries one (Err Fault) w now
adds_fault e f log entries one w now keeps = record { run = or_more f.first entries one w now keeps.run; leaves = keeps.held }

opened_runs : {T E : Type 0} (e d : ExtentState) (f : LogFields) (log new : Log) (entries : List Entry) (one : Entry) (result : Result T E) (w mid now : World) → KeepsHeld d f log entries w mid → OpensOne e f new entries one result mid now
    → Runs 1 (EachImage (HoldsOrOneMore f.first entries one)) w now
opened_runs e d f log new entries one result w mid now keeps opens =
    joins 1 (EachImage (HoldsOrOneMore f.first entries one)) w mid now (or_more f.first entries one w mid keeps.run) opens.run

pub adds_doubt : {T E : Type 0} (e : ExtentState) (f : LogFields) (log new : Log) (entries : List Entry) (one : Entry) (result : Result T E) (w mid now : World) → KeepsHeld e f log entries w mid → OpensOne e f new entries one result mid now
    → IsDoubtful e f new entries now → AddsOne {T = Unit {0}} e f new entries one (Err InDoubt) w now
adds_doubt e f log new entries one result w mid now keeps opens doubt = record { run = opened_runs e e f log new entries one result w mid now keeps opens; leaves = doubt }

pub adds_done : {T E : Type 0} (e : ExtentState) (f : LogFields) (log new : Log) (entries : List Entry) (one : Entry) (result : Result T E) (w mid now : World) → KeepsHeld e f log entries w mid → OpensOne e f new entries one result mid now
    → IsHeld e f new (entries ++ one ∷ []) now → AddsOne {T = Unit {0}} e f new entries one (Ok tt) w now
adds_done e f log new entries one result w mid now keeps opens held = record { run = opened_runs e e f log new entries one result w mid now keeps opens; leaves = held }

-- the body that was written is that of the entry
pub body_of_entry : (payload : List ℕ) (log new : Log) (one : Entry) (now : World) → log.file ≡ 1 → new.next ≡ log.next → IsWritten payload log new now → read_entry log.next payload ≡ Ok one → IsBodyOf new one now
body_of_entry payload log new one now file next is read =
    by_case (file_of 1 now) (subst (λ (k : ℕ). IfTold k now (λ bytes. payload_at new.place bytes ≡ payload)) file is.payload_is)
  where
    by_case : (o : Option File) → IfSome o (λ g. payload_at new.place g.bytes ≡ payload) → IfSome o (λ g. read_entry new.next (payload_at new.place g.bytes) ≡ Ok one)
    by_case None here = tt
    by_case (Some g) here = ap (λ (n : ℕ). read_entry n (payload_at new.place g.bytes)) next ∙ ap (read_entry log.next) here ∙ read

-- and its gate may be opened
pub can_open : (e : ExtentState) (f : LogFields) (payload : List ℕ) (log new : Log) (entries : List Entry) (now : World) → IsHeld e f new entries now → SameList log new → IsWritten payload log new now → CanOpen new now
can_open e f payload log new entries now held same is = record {
  usable = held.usable;
  written = is.has_body;
  stands = subst (λ (k : ℕ). LogStands new (file_of k now)) (sym held.live.log_file) held.stands;
  body = subst (λ (k : ℕ). HasItsBody new (file_of k now)) (sym same.file) is.body;
}

-- so many of the entries are added
pub record IsAdding (e : ExtentState) (f : LogFields) (log : Log) (entries given : List Entry) (k : ℕ) (old now : World) : Type 0 where
  pub run : Runs 1 (EachImage (HoldsFront f.first entries given)) old now
  pub held : IsHeld e f log (entries ++ take k given) now

-- a front of a list, and one of those with one more
front_of : (first : ℕ) (entries given : List Entry) (k : ℕ) (one : Entry) (image : List ℕ) → take (k + 1) given ≡ take k given ++ one ∷ [] → HoldsOrOneMore first (entries ++ take k given) one image → HoldsFront first entries given image
front_of first entries given k one image more (inl here) = record { count = k; holds = here }
front_of first entries given k one image more (inr here) = record {
  count = k + 1;
  holds = subst (λ (l : List Entry). Holds first l image) (append_assoc entries (take k given) (one ∷ []) ∙ ap (λ (l : List Entry). entries ++ l) (sym more)) here;
}

module _ {T : Type 0} (e d : ExtentState) (f : LogFields) (log new : Log) (entries given : List Entry) (k : ℕ) (one : Entry) (result : Result T AddError) (old mid now : World)
    (more : take (k + 1) given ≡ take k given ++ one ∷ []) (so_far : IsAdding d f log entries given k old mid) (adds : AddsOne e f new (entries ++ take k given) one result mid now) where
  pub adding_run : Runs 1 (EachImage (HoldsFront f.first entries given)) old now
  adding_run =
      let P = HoldsOrOneMore f.first (entries ++ take k given) one in
      let Q = HoldsFront f.first entries given in
      joins 1 (EachImage Q) old mid now so_far.run
      (weakens 1 (EachImage P) (EachImage Q) mid now (λ o. each_weakens P Q o (λ image here. front_of f.first entries given k one image more here)) adds.run)

  all_of : entries ++ take k given ++ one ∷ [] ≡ entries ++ take (k + 1) given
  all_of = append_assoc entries (take k given) (one ∷ []) ∙ ap (λ (l : List Entry). entries ++ l) (sym more)

pub adding_none : (e : ExtentState) (f : LogFields) (log : Log) (entries given : List Entry) (w : World) → IsHeld e f log entries w → IsAdding e f log entries given 0 w w
adding_none e f log entries given w held =
    let same : entries ++ take 0 given ≡ entries = append-nil entries in
    let here : IsHeld e f log (entries ++ take 0 given) w = subst (λ (l : List Entry). IsHeld e f log l w) (sym same) held in
    record {
      run = begins 1 (EachImage (HoldsFront f.first entries given)) w
          (each_weakens (Holds f.first (entries ++ take 0 given)) (HoldsFront f.first entries given) (file_of 1 w) (λ image holds. record { count = 0; holds = holds }) (holds_now e f log (entries ++ take 0 given) w here));
      held = here;
    }

pub adding_more : (e d : ExtentState) (f : LogFields) (log new : Log) (entries given : List Entry) (k : ℕ) (one : Entry) (done : Unit {0}) (old mid now : World) → take (k + 1) given ≡ take k given ++ one ∷ [] → IsAdding d f log entries given k old mid
    → AddsOne {T = Unit {0}} e f new (entries ++ take k given) one (Ok done) mid now → IsAdding e f new entries given (k + 1) old now
adding_more e d f log new entries given k one done old mid now more so_far adds = record {
  run = adding_run e d f log new entries given k one (Ok done) old mid now more so_far adds;
  held = subst (λ (l : List Entry). IsHeld e f new l now) (all_of e d f log new entries given k one (Ok done) old mid now more so_far adds) adds.leaves;
}

-- a step that failed
pub leaves_at : (e : ExtentState) (f : LogFields) (log : Log) (entries given : List Entry) (k : ℕ) (one : Entry) (err : AddError) (now : World) → LeavesBy {T = Unit {0}} e f log (entries ++ take k given) one (Err err) now
    → LeavesAfter {T = Unit {0}} e f log entries given k (Err err) now
leaves_at e f log entries given k one Fault now here = here
leaves_at e f log entries given k one InDoubt now here = here
leaves_at e f log entries given k one (Full need room) now here = here

pub adding_ends : (e d : ExtentState) (f : LogFields) (log new : Log) (entries given : List Entry) (k : ℕ) (one : Entry) (err : AddError) (old mid now : World) → take (k + 1) given ≡ take k given ++ one ∷ [] → IsAdding d f log entries given k old mid
    → AddsOne {T = Unit {0}} e f new (entries ++ take k given) one (Err err) mid now → AddsAll {T = Unit {0}} e f new entries given k (Err err) old now
adding_ends e d f log new entries given k one err old mid now more so_far adds = record {
  run = adding_run e d f log new entries given k one (Err err) old mid now more so_far adds;
  leaves = leaves_at e f new entries given k one err now adds.leaves;
}

-- all of them are
pub adding_all : (e : ExtentState) (f : LogFields) (log : Log) (entries given : List Entry) (k : ℕ) (old now : World) → length given ≤ k → IsAdding e f log entries given k old now → AddsAll {T = Unit {0}} e f log entries given k (Ok tt) old now
adding_all e f log entries given k old now enough adding = record {
  run = adding.run;
  leaves = (enough, subst (λ (l : List Entry). IsHeld e f log (entries ++ l) now) (take_all k given enough) adding.held);
}

-- extents are added until there is room
pub record IsMakingRoom (e0 : ExtentState) (log0 : Log) (w0 : World) (e : ExtentState) (log : Log) (w : World) : Type 0 where
  pub keeps : (f : LogFields) (entries : List Entry) → IsHeld e0 f log0 entries w0 → KeepsHeld e f log entries w0 w
  pub same : log ≡ record log0 { end = log.end }

-- records are added one by one
pub record IsAddingAll (payloads : List (List ℕ)) (k : ℕ) (e0 : ExtentState) (log0 : Log) (w0 : World) (e : ExtentState) (log : Log) (w : World) : Type 0 where
  pub adds : (f : LogFields) (entries given : List Entry) → IsHeld e0 f log0 entries w0 → entries_from log0.next 0 payloads ≡ Ok given → IsAdding e f log entries given k w0 w
  pub next : log.next ≡ log0.next + k
  pub place : log.place ≡ end_of_list log0.place (take k payloads)
  pub within : (k ≡ 0) ⊎ (log.place ≤ content_end MOST)

-- the item at a place begins the rest
pub item_next : (payloads : List (List ℕ)) (k : ℕ) (item payload : List ℕ) → k < length payloads → item ≡ get_or payloads k item → payload ≡ item → drop k payloads ≡ payload ∷ drop (k + 1) payloads
item_next payloads k item payload within is same =
    drop_more payloads k item within ∙ ap (λ (x : List ℕ). x ∷ drop (k + 1) payloads) (sym is ∙ sym same)

-- a step that failed left the place and the number
pub moved_none : (n : ℕ) (old new : Log) (err : AddError) → MovesBy {T = Unit {0}} n old new (Err err) → (new.next ≡ old.next) × (new.place ≡ old.place)
moved_none n old new Fault m = m
moved_none n old new InDoubt m = m
moved_none n old new (Full need room) m = (ap (λ (l : Log). l.next) m.0, ap (λ (l : Log). l.place) m.0)

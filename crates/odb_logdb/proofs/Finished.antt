-- A Dirty log, and what it is once it is made Live.
use Rattle.std.proofs.Common.{◌≡◌, ℕ, ◌+◌, ◌≤◌, List, [], length, take, Option, Some, None, Ok, Err, refl, sym, ◌∙◌, ap, subst, arith}
use Rattle.std.specs.Prelude.{is_some, IfSome}
use Rattle.std.proofs.lemmas.Bool.{false≢true}
use Rattle.odb_device.specs.World.{File, World, file_of}
use Rattle.odb_device.specs.Images.{IsImage, EachImage, ReadsImage}
use Rattle.odb_device.proofs.Torn.{each_weakens}
use Rattle.odb_extent.specs.Opened.{content_end, fields_in as extent_fields}
use Rattle.odb_extent.specs.Standing.{ExtentState, limit_of, fields_of}
use Rattle.odb_reclog.specs.Standing.{Log, StandsFor as LogStandsFor, begun}
use Rattle.odb_reclog.proofs.Standing.{stands_begun}
use Rattle.odb_reclog.proofs.Files.{stands_each}
use Rattle.odb_entries.specs.Listed.{entries_from, log_entries}
use Rattle.odb_model.specs.declared.entry.Entry.{Entry}
use Rattle.odb_logdb.specs.declared.fields.LogFields.{LogFields}
use Rattle.odb_logdb.specs.declared.state.ListState.{ListState}
use Rattle.odb_logdb.specs.declared.state.ListState.TheVariants.{Known, Dirty}
use Rattle.odb_logdb.specs.declared.error.LogdbError.TheVariants.{Fault}
use Rattle.odb_logdb.specs.Fields.{LIVE, fields_in, log_fields}
use Rattle.odb_logdb.specs.Opened.{Holds, opened, entries_of, entries_in}
use Rattle.odb_logdb.specs.Standing.{LogState, IsLogdb, IsDirty, IsInState, HoldsBy, HoldsNone, StandsFor, Stands, first_of, next_of, next_by, count_of, held}
use Rattle.odb_logdb.specs.Adding.{IsHeld}
use Rattle.odb_logdb.specs.Answers.{KeepsOpened}
use Rattle.odb_logdb.specs.Worlds.{OpensAsBefore}
use Rattle.odb_logdb.specs.Finishing.{HasZeros, IsDirtyImage, IsDirtyIn, HoldsNoneThrough, IsLiveIn}
use Rattle.odb_logdb.specs.Appending.{HoldsSome, IsReady, room_by}
use Rattle.odb_logdb.proofs.Opened.{IsLawful, lawful_some}
use Rattle.odb_logdb.proofs.Stood.{log_with}
use Rattle.odb_logdb.proofs.Dirty.{dirty_holds}
use Rattle.odb_logdb.proofs.Readied.{first_some}

-- what a Dirty log that stands is
images_of : (l : LogState) (o : Option File) → l.state ≡ Dirty → Stands l o → EachImage (IsDirtyImage l.extents l.fields) o
images_of l None dirty stands = tt
images_of l (Some g) dirty stands = λ image im.
    let s = stands.each image im in
    let none : HoldsNone l (held l (Some g)) image = subst (λ (x : ListState). HoldsBy l x (held l (Some g)) image) dirty s.holds in
    record { extents = s.extents; long = s.long; tried = none.tried }

pub dirty_of : (l : LogState) (w : World) → IsLogdb l → l.state ≡ Dirty → Stands l (file_of 1 w) → IsDirtyIn l.extents l.fields w
dirty_of l w is dirty stands =
    let d : IsDirty l = subst (IsInState l) dirty is.in_state in
    record {
      file = is.file;
      most = is.most;
      sound = is.sound;
      fields = is.fields;
      dirty = d.dirty;
      limit = d.limit;
      each = images_of l (file_of 1 w) dirty stands;
    }

none_held : (l : LogState) (o : Option File) → l.state ≡ Dirty → held l o ≡ []
none_held l o dirty =
    let none : count_of l ≡ 0 = let next : next_of l ≡ first_of l = ap (next_by l) dirty in omega arith in
    ap (λ (n : ℕ). take n (entries_in o)) none

-- and back
module _ (e : ExtentState) (f : LogFields) (log : Log) (w : World) (d : IsDirtyIn e f w) where
  abbrev still : LogState
  still = log_with e f log Dirty

  in_dirty : (o : Option File) → EachImage (IsDirtyImage e f) o → EachImage (Holds f.first []) o → Stands still o
  in_dirty None images holds = tt
  in_dirty (Some g) images holds =
      let none : held still (Some g) ≡ [] = none_held still (Some g) refl in
      record {
        each = λ image im.
            let i = images image im in
            subst (λ (l : List Entry). StandsFor still l image) (sym none) (record { extents = i.extents; long = i.long; holds = record { holds = holds image im; none = refl; tried = i.tried } });
        count = ap (length {A = Entry}) none ∙ zero_count;
        log = λ is. absurd (cc is);
      }
    where
      zero_count : 0 ≡ count_of still
      zero_count = omega arith

  pub dirty_stands_log : Stands still (file_of 1 w)
  dirty_stands_log = in_dirty (file_of 1 w) d.each (dirty_holds e f w d)

  pub dirty_is : log.file ≡ 1 → log.first ≡ f.first → IsLogdb still
  dirty_is file first = record {
    file = d.file;
    most = d.most;
    sound = d.sound;
    fields = d.fields;
    log_file = file;
    first = first;
    in_state = record { dirty = d.dirty; limit = d.limit };
  }

-- no image holds an entry, before or at any moment
opens_none : (first : ℕ) (o p : Option File) → is_some p ≡ is_some o → ReadsImage o → EachImage (Holds first []) o → EachImage (Holds first []) p → KeepsOpened o p
opens_none first None None told reads before now = refl
opens_none first None (Some h) told reads before now = absurd (false≢true (sym told))
opens_none first (Some g) p told reads before now =
    each_weakens (Holds first []) (λ image. (was : List ℕ) × IsImage g was × (opened image ≡ opened was)) p (λ image here. (g.bytes, reads, here ∙ sym (before g.bytes reads))) now

pub none_opens : (first : ℕ) (w now : World) → ReadsImage (file_of 1 w) → EachImage (Holds first []) (file_of 1 w) → HoldsNoneThrough first w now → OpensAsBefore w now
none_opens first w now reads before run = record {
  only = run.only;
  each = λ k from to. opens_none first (file_of 1 w) ((now.moment k).files 1) (run.only.told k from to) reads before (run.each k from to);
}

-- the log once it is Live
abbrev live_log : LogState → ExtentState → ℕ → LogState
live_log l e end = log_with e (log_fields LIVE l.fields.first) (begun 1 1024 end l.fields.first) Known

module _ (l : LogState) (w now : World) (is : IsLogdb l) (dirty : l.state ≡ Dirty) (reads : ReadsImage (file_of 1 w)) (stands : Stands l (file_of 1 w)) where
  d : IsDirtyIn l.extents l.fields w
  d = dirty_of l w is dirty stands

  next_dirty : next_of l ≡ first_of l
  next_dirty = ap (next_by l) dirty

  some_none : EachImage (HoldsSome (first_of l)) (file_of 1 w)
  some_none = each_weakens (Holds l.fields.first []) (HoldsSome (first_of l)) (file_of 1 w) (λ image here. ([], here)) (dirty_holds l.extents l.fields w d)

  counted_none : (o : Option File) → IfSome o (λ f. next_of l ≡ first_of l + length (held l (Some f)))
  counted_none None = tt
  counted_none (Some g) = omega (arith, next_dirty, ap (length {A = Entry}) (none_held l (Some g) dirty))

  no_entries : (o : Option File) → ReadsImage o → EachImage (Holds l.fields.first []) o → IfSome o (λ f. entries_in (Some f) ≡ [])
  no_entries None r holds = tt
  no_entries (Some g) r holds = ap entries_of (holds g.bytes r)

  -- a fault left it Dirty
  pub ready_dirty : (e : ExtentState) (p : Option File) → IsReady {T = Unit {0}} l (log_with e l.fields l.log l.state) (Err Fault) (file_of 1 w) p
  ready_dirty e p = record {
    some = first_some l is;
    first = refl;
    known = tt;
    next = λ other. ap (next_by (log_with e l.fields l.log l.state)) dirty ∙ sym next_dirty;
    room = λ other. ap (room_by (log_with e l.fields l.log l.state)) dirty ∙ sym (ap (room_by l) dirty);
    images = some_none;
    counted = counted_none (file_of 1 w);
    all = tt;
    number = tt;
    left = same (file_of 1 w);
  }
    where
      same : (o : Option File) → IfSome o (λ f. held (log_with e l.fields l.log l.state) p ≡ held l (Some f))
      same None = tt
      same (Some g) = none_held (log_with e l.fields l.log l.state) p dirty ∙ sym (none_held l (Some g) dirty)

  -- or it is Live
  pub ready_live : (e : ExtentState) (end : ℕ) (p : Option File) → IsReady {T = Unit {0}} l (log_with e (log_fields LIVE l.fields.first) (begun 1 1024 end l.fields.first) Known) (Ok tt) (file_of 1 w) p
  ready_live e end p =
      let new = log_with e (log_fields LIVE l.fields.first) (begun 1 1024 end l.fields.first) Known in
      record {
        some = first_some l is;
        first = refl;
        known = refl;
        next = λ other. sym next_dirty;
        room = λ other. sym (ap (room_by l) dirty);
        images = some_none;
        counted = counted_none (file_of 1 w);
        all = empty (file_of 1 w) (no_entries (file_of 1 w) reads (dirty_holds l.extents l.fields w d));
        number = number (file_of 1 w) (no_entries (file_of 1 w) reads (dirty_holds l.extents l.fields w d));
        left = tt;
      }
    where
      none_made : held (live_log l e end) p ≡ []
      none_made = let none : count_of (live_log l e end) ≡ 0 = omega arith in ap (λ (n : ℕ). take n (entries_in p)) none

      empty : (o : Option File) → IfSome o (λ f. entries_in (Some f) ≡ []) → IfSome o (λ f. held (live_log l e end) p ≡ entries_in (Some f))
      empty None here = tt
      empty (Some g) here = none_made ∙ sym here

      number : (o : Option File) → IfSome o (λ f. entries_in (Some f) ≡ []) → IfSome o (λ f. next_of (live_log l e end) ≡ first_of l + length (entries_in (Some f)))
      number None here = tt
      number (Some g) here = omega (arith, ap (length {A = Entry}) here)

-- a Live log over zeros
module _ (e : ExtentState) (first : ℕ) (w : World) (live : IsLiveIn e (log_fields LIVE first) w) (reads : ReadsImage (file_of 1 w)) (end : ℕ) (is_end : end ≡ content_end (limit_of e)) where
  abbrev log : Log
  log = begun 1 1024 end first

  law : IsLawful (limit_of e) (log_fields LIVE first)
  law = lawful_some (limit_of e) (fields_in (fields_of e)) (log_fields LIVE first) live.fields

  high : limit_of e ≤ 1024
  high = let sound = live.sound in omega (arith, sound.high, live.most)

  low : 1 ≤ limit_of e
  low = let sound = live.sound in sound.low

  begun_each : EachImage (LogStandsFor log [] []) (file_of 1 w)
  begun_each =
      each_weakens (HasZeros 1024 (content_end (limit_of e))) (LogStandsFor log [] []) (file_of 1 w)
      (λ image z.
      stands_begun 1 1024 end first image (omega (arith, is_end, low)) (omega (arith, is_end, high)) law.first (omega (arith, is_end, z.long)) (λ i from to. z.zero i from (omega (arith, to, is_end)))) live.zeros

  read_none : (o : Option File) → ReadsImage o → EachImage (LogStandsFor log [] []) o → IfSome o (λ g. log_entries log g.bytes ≡ Ok [])
  read_none None r each = tt
  read_none (Some g) r each = ap (entries_from first 1024) (each g.bytes r).list

  pub live_held : IsHeld e (log_fields LIVE first) log [] w
  live_held = record {
    live = record {
      file = live.file;
      most = live.most;
      sound = live.sound;
      fields = live.fields;
      alike = ap extent_fields live.settled.tried;
      live = refl;
      log_file = refl;
      first = refl;
      start = refl;
      end = is_end;
    };
    usable = refl;
    extents = live.each;
    stands = stands_each log [] [] (file_of 1 w) reads begun_each;
    read = read_none (file_of 1 w) reads begun_each;
  }

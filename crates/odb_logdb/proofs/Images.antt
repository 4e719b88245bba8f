-- What adding records to a list that is known leaves of the log.
use Rattle.std.proofs.Common.{◌≡◌, ℕ, ◌+◌, ◌-◌, ◌≤◌, List, ◌++◌, length, take, Some, Result, Ok, Err, sym, ◌∙◌, ap, subst}
use Rattle.std.specs.Prelude.{OnOk}
use Rattle.std.proofs.lemmas.List.{take_all}
use Rattle.odb_device.specs.World.{World, file_of}
use Rattle.odb_device.specs.Images.{EachImage, ReadsImage}
use Rattle.odb_device.specs.Moments.{Runs}
use Rattle.odb_extent.specs.Opened.{content_end}
use Rattle.odb_extent.specs.Standing.{ExtentState}
use Rattle.odb_reclog.specs.Standing.{Log}
use Rattle.odb_model.specs.declared.entry.Entry.{Entry}
use Rattle.odb_logdb.specs.declared.state.ListState.TheVariants.{Known, Unknown}
use Rattle.odb_logdb.specs.declared.error.AddError.{AddError}
use Rattle.odb_logdb.specs.declared.error.AddError.TheVariants.{Full}
use Rattle.odb_logdb.specs.declared.error.LogdbError.{LogdbError}
use Rattle.odb_logdb.specs.declared.error.LogdbError.TheVariants.{LogFull}
use Rattle.odb_logdb.specs.Opened.{MOST}
use Rattle.odb_logdb.specs.Standing.{LogState, IsLogdb, Stands, next_of, next_by, held}
use Rattle.odb_logdb.specs.Adding.{IsHeld, IsDoubtful, HoldsFront, AddsAll, MovesAll, IsFullAt as IsRecordFullAt}
use Rattle.odb_logdb.specs.Appending.{AddsImages, MovesImages, IsImageFullAt, room_of, room_by}
use Rattle.odb_logdb.proofs.Stood.{log_with, held_known_of, known_stands, known_held, unknown_stands, unknown_held}
use Rattle.odb_logdb.proofs.Readied.{if_map}

module _ (l : LogState) (w now : World) (is : IsLogdb l) (known : l.state ≡ Known) (reads : ReadsImage (file_of 1 w)) (reads_now : ReadsImage (file_of 1 now)) (stands : Stands l (file_of 1 w)) where
  pub known_here : IsHeld l.extents l.fields l.log (held l (file_of 1 w)) w
  known_here = held_known_of l w is known reads stands

  pub next_here : next_of l ≡ l.log.next
  next_here = ap (next_by l) known

  module _ (e : ExtentState) (log : Log) (given : List Entry) (count : ℕ) (run : Runs 1 (EachImage (HoldsFront l.fields.first (held l (file_of 1 w)) given)) w now) (r : Result (Unit {0}) LogdbError) (all : OnOk r (length given ≤ count)) where
    pub adds_known : IsHeld e l.fields log (held l (file_of 1 w) ++ take count given) now → AddsImages given r l (log_with e l.fields log Known) w now
    adds_known h =
        let new = log_with e l.fields log Known in
        let o = file_of 1 now in
        let more = held l (file_of 1 w) ++ take count given in
        record {
          run = run;
          stands = known_stands e l.fields log more now h reads_now;
          count = count;
          held_is = if_map o (λ g. held new (Some g) ≡ more) (λ _. held new o ≡ more) (λ g some here. ap (held new) some ∙ here) (known_held e l.fields log more now h reads_now);
          all = all;
        }

    pub adds_unknown : IsDoubtful e l.fields log (held l (file_of 1 w) ++ take count given) now → AddsImages given r l (log_with e l.fields log Unknown) w now
    adds_unknown d =
        let new = log_with e l.fields log Unknown in
        let o = file_of 1 now in
        let more = held l (file_of 1 w) ++ take count given in
        record {
          run = run;
          stands = unknown_stands e l.fields log more o d.live reads_now d.extents d.each;
          count = count;
          held_is = if_map o (λ g. held new (Some g) ≡ more) (λ _. held new o ≡ more) (λ g some here. ap (held new) some ∙ here) (unknown_held e l.fields log more o d.live reads_now d.each);
          all = all;
        }

-- all of them
pub adds_whole : (l : LogState) (w now : World) (is : IsLogdb l) (known : l.state ≡ Known) (reads : ReadsImage (file_of 1 w)) (reads_now : ReadsImage (file_of 1 now)) (stands : Stands l (file_of 1 w)) (e : ExtentState) (log : Log) (given : List Entry) (count : ℕ)
    → AddsAll {T = Unit {0}} e l.fields log (held l (file_of 1 w)) given count (Ok tt) w now → AddsImages {T = Unit {0}} given (Ok tt) l (log_with e l.fields log Known) w now
adds_whole l w now is known reads reads_now stands e log given count adds =
    let whole : given ≡ take count given = sym (take_all count given adds.leaves.0) in
    adds_known l w now is known reads reads_now stands e log given count adds.run (Ok tt) adds.leaves.0
    (subst (λ (x : List Entry). IsHeld e l.fields log (held l (file_of 1 w) ++ x) now) whole adds.leaves.1)

-- the place and the number of the next record
pub full_at : (images : List (List ℕ)) (count need room : ℕ) (l : LogState) → room_of l ≡ content_end MOST - l.log.place → IsRecordFullAt images count need room l.log → IsImageFullAt images count need room l
full_at images count need room l is full = record {
  image = full.payload;
  rest = full.rest;
  next = full.next;
  need_is = full.need_is;
  room_is = full.room_is ∙ sym is;
  less = full.less;
}

pub moves_to : (images : List (List ℕ)) (r : Result (Unit {0}) AddError) (s : Result (Unit {0}) LogdbError) (l new : LogState) → next_of l ≡ l.log.next → next_of new ≡ new.log.next → room_of new ≡ content_end MOST - new.log.place
    → MovesAll images r l.log new.log → ((n : ℕ) → OnOk r (n ≡ length images) → OnOk s (n ≡ length images)) → ((need room : ℕ) → s ≡ Err (LogFull need room) → r ≡ Err (Full need room)) → MovesImages images s l new
moves_to images r s l new next next_new room m all full = record {
  count = m.count;
  some = m.some;
  next = next_new ∙ m.next ∙ ap (λ (n : ℕ). n + m.count) (sym next);
  place = m.place;
  room_is = room;
  within = m.within;
  all = all m.count m.all;
  full = λ need left is. full_at images m.count need left new room (m.full need left (full need left is));
}

pub moves_full : (images : List (List ℕ)) (need room : ℕ) (l new : LogState) → l.state ≡ Known → new.state ≡ Known → MovesAll {T = Unit {0}} images (Err (Full need room)) l.log new.log → MovesImages {T = Unit {0}} images (Err (LogFull need room)) l new
moves_full images need room l new known known_new m =
    moves_to images (Err (Full need room)) (Err (LogFull need room)) l new (ap (next_by l) known) (ap (next_by new) known_new) (ap (room_by new) known_new) m (λ n here. tt) (λ n m is. cc is)

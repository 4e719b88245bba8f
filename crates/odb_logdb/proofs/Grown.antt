-- What an extent more leaves of a Live log.
use Rattle.std.proofs.Common.{◌≡◌, inl, inr, ℕ, ◌+◌, ◌<◌, ◌≤◌, List, length, Some, refl, sym, ◌∙◌, ap, subst, arith}
use Rattle.std.specs.Prelude.{is_some}
use Rattle.odb_device.specs.World.{File, World, file_of}
use Rattle.odb_device.specs.Images.{EachImage, ReadsImage}
use Rattle.odb_device.specs.Frames.{AsksOf}
use Rattle.odb_device.specs.Moments.{Runs}
use Rattle.odb_device.proofs.Time.{run_end}
use Rattle.odb_device.proofs.Torn.{each_weakens}
use Rattle.odb_extent.specs.Opened.{content_end, limit_in, fields_in}
use Rattle.odb_extent.specs.Standing.{ExtentState, limit_of, fields_of, limit_tried, fields_tried, IsSound, HoldsAt, HoldsKeptOr, IsContent, RunsExtents, Takes, LeavesTried, Stands as ExtentsStand}
use Rattle.odb_extent.specs.Laws.{content_runs}
use Rattle.odb_reclog.specs.Standing.{Log, StandsFor as LogStandsFor, list_of, tail_of}
use Rattle.odb_reclog.proofs.Records.{SameOn}
use Rattle.odb_reclog.proofs.Standing.{stands_same, stands_extended}
use Rattle.odb_extent.proofs.Growing.{each_both}
use Rattle.odb_reclog.proofs.Files.{stands_each, list_each}
use Rattle.odb_model.specs.declared.entry.Entry.{Entry}
use Rattle.odb_logdb.specs.declared.fields.LogFields.{LogFields}
use Rattle.odb_logdb.specs.Fields.{fields_in as log_fields_in, lawful_in}
use Rattle.odb_logdb.specs.Opened.{MOST, Holds}
use Rattle.odb_logdb.specs.Adding.{IsLive, IsHeld, KeepsHeld, HoldsThrough}
use Rattle.odb_logdb.proofs.Held.{lawful_more, told_run, holds_at, holds_either, list_read, read_list}

-- the record log asks of the content inside the limit alone
stands_asks : (e : ExtentState) (f : LogFields) (log : Log) → IsLive e f log → (records : List (List ℕ)) (between : List ℕ) → AsksOf (IsContent (limit_of e)) (content_end (limit_of e)) (LogStandsFor log records between)
stands_asks e f log live records between a b agree stands =
    let same : SameOn log.start log.end a b = record {
      long = omega (arith, agree.long, live.end);
      longer = omega (arith, agree.as_long, live.end);
      bytes = λ i from to. agree.same i (omega (arith, to, live.end)) (omega (arith, from, live.start), omega (arith, to, live.end));
    } in
    stands_same log records between a b stands same

-- fields that no crash changes
alike_left : (e new : ExtentState) (limit : ℕ) → fields_tried e ≡ fields_of e → LeavesTried limit (fields_of e) e new → fields_tried new ≡ fields_of new
alike_left e new limit alike left = elim left.tried [
  | inl before ↦ before.1 ∙ alike ∙ sym left.fields_are
  | inr other ↦ elim other [
    | inl kept ↦ kept.1 ∙ sym left.fields_are
    | inr tried ↦ tried.1 ∙ sym left.fields_are
  ]
]

low_left : (e new : ExtentState) (limit : ℕ) (fields : List ℕ) → IsSound e → limit_of e ≤ limit → LeavesTried limit fields e new → limit_of new ≤ limit_tried new
low_left e new limit fields sound low left = elim left.tried [
  | inl before ↦ omega (arith, before.0, left.limit_is, sound.tried_low)
  | inr other ↦ elim other [
    | inl kept ↦ omega (arith, kept.0, left.limit_is)
    | inr tried ↦ omega (arith, tried.0, left.limit_is, low)
  ]
]

high_left : (e new : ExtentState) (limit : ℕ) (fields : List ℕ) → IsSound e → limit ≤ e.most → LeavesTried limit fields e new → limit_tried new ≤ new.most
high_left e new limit fields sound high left = elim left.tried [
  | inl before ↦ omega (arith, before.0, left.most, sound.tried_high)
  | inr other ↦ elim other [
    | inl kept ↦ omega (arith, kept.0, left.most, sound.high)
    | inr tried ↦ omega (arith, tried.0, left.most, high)
  ]
]

pub sound_left : (e new : ExtentState) (limit : ℕ) (fields : List ℕ) → IsSound e → limit_of e ≤ limit → limit ≤ e.most → LeavesTried limit fields e new → IsSound new
sound_left e new limit fields sound low high left = record {
  low = omega (arith, left.limit_is, sound.low);
  high = omega (arith, left.limit_is, left.most, sound.high);
  most = omega (arith, left.most, sound.most);
  tried_low = low_left e new limit fields sound low left;
  tried_high = high_left e new limit fields sound high left;
}

pub sound_taken : (e new : ExtentState) (limit : ℕ) (fields : List ℕ) → IsSound e → 1 ≤ limit → limit ≤ e.most → Takes limit fields e new → IsSound new
sound_taken e new limit fields sound low high takes =
    let tried : limit_tried new ≡ limit_of new = ap limit_in takes.settled.tried in
    record {
      low = omega (arith, takes.limit_is, low);
      high = omega (arith, takes.limit_is, takes.most, high);
      most = omega (arith, takes.most, sound.most);
      tried_low = omega (arith, tried);
      tried_high = omega (arith, tried, takes.limit_is, takes.most, high);
    }

module _ (e : ExtentState) (f : LogFields) (log : Log) (entries : List Entry) (w now : World) (held : IsHeld e f log entries w) (less : limit_of e < MOST)
    (runs : RunsExtents e (HoldsKeptOr e (limit_of e + 1) (fields_of e)) w now) where
  abbrev records : List (List ℕ)
  records = list_of log (file_of 1 w)

  abbrev between : List ℕ
  between = tail_of log (file_of 1 w)

  abbrev Q : List ℕ → Type 0
  Q = LogStandsFor log records between

  abbrev R : List ℕ → Type 0
  R = HoldsKeptOr e (limit_of e + 1) (fields_of e)

  abbrev live : IsLive e f log
  live = held.live

  long_enough : (bytes : List ℕ) → Q bytes → content_end (limit_of e) ≤ length bytes
  long_enough bytes q = omega (arith, q.long, live.end)

  both : Runs 1 (EachImage (λ image. Q image × R image)) w now
  both =
      subst (λ (k : ℕ). Runs k (EachImage (λ image. Q image × R image)) w now) live.file
      (content_runs e Q R w now (stands_asks e f log live records between) long_enough (subst (λ (k : ℕ). EachImage Q (file_of k w)) (sym live.file) held.stands) runs)

  holds_through : (image : List ℕ) → (g : File) → file_of 1 w ≡ Some g → Q image × R image → Holds f.first entries image
  holds_through image g is here =
      let read = list_read log entries (file_of 1 w) held.read g is in
      let sound = live.sound in
      elim here.1 [
        | inl kept ↦ holds_either e f log live records between entries image here.0 read kept
        | inr more ↦ holds_at e f log live records between entries image here.0 read (limit_of e + 1) (omega arith) (omega (arith, less)) more
      ]

  pub grow_run : HoldsThrough f.first entries w now
  grow_run = told_run (λ image. Q image × R image) (Holds f.first entries) w now (λ g is image here. holds_through image g is here) both

  still : EachImage Q (file_of 1 now)
  still = each_weakens (λ image. Q image × R image) Q (file_of 1 now) (λ image here. here.0) (run_end 1 (EachImage (λ image. Q image × R image)) w now both)

  told : is_some (file_of 1 now) ≡ is_some (file_of 1 w)
  told = both.only.told now.time both.only.later (omega arith)

  -- where it failed, the record log is as before
  pub grow_left : (new : ExtentState) → ReadsImage (file_of 1 now) → ExtentsStand new (file_of e.pair.file now) → LeavesTried (limit_of e + 1) (fields_of e) e new → KeepsHeld new f log entries w now
  grow_left new reads stands left =
      let sound = live.sound in
      record {
        run = grow_run;
        held = record {
          live = record {
            file = left.file ∙ live.file;
            most = left.most ∙ live.most;
            sound = sound_left e new (limit_of e + 1) (fields_of e) sound (omega arith) (omega (arith, less, live.most)) left;
            fields = ap (λ (n : ℕ). lawful_in n (fields_of new)) left.limit_is ∙ ap (lawful_in (limit_of e)) left.fields_are ∙ live.fields;
            alike = alike_left e new (limit_of e + 1) live.alike left;
            live = live.live;
            log_file = live.log_file;
            first = live.first;
            start = live.start;
            end = live.end ∙ sym (ap content_end left.limit_is);
          };
          usable = held.usable;
          extents = subst (λ (k : ℕ). ExtentsStand new (file_of k now)) live.file stands;
          stands = stands_each log records between (file_of 1 now) reads still;
          read = read_list log log entries (file_of 1 w) (file_of 1 now) told refl refl (list_each log log between (file_of 1 w) (file_of 1 now) told reads still) held.read;
        };
      }

  -- and where it is done, it goes on to the end of the extent
  module _ (new : ExtentState) (end : ℕ) (is_end : end ≡ content_end (limit_of new)) (takes : Takes (limit_of e + 1) (fields_of e) e new) (added : EachImage (HoldsAt e (limit_of e + 1) (fields_of e)) (file_of e.pair.file now))
      (reads : ReadsImage (file_of 1 now)) (stands : ExtentsStand new (file_of e.pair.file now)) where
    abbrev pub longer : Log
    longer = record log { end = end }

    end_is : end ≡ content_end (limit_of e + 1)
    end_is = is_end ∙ ap content_end takes.limit_is

    further : (image : List ℕ) → Q image × HoldsAt e (limit_of e + 1) (fields_of e) image → LogStandsFor longer records between image
    further image here =
        stands_extended log end records between image (omega (arith, live.end, end_is)) (omega (arith, end_is, less)) here.0 (omega (arith, end_is, here.1.added.long (omega arith)))
        (λ i from to. here.1.added.zero i (omega (arith, from, live.end)) (omega (arith, to, end_is)))

    added_here : EachImage (HoldsAt e (limit_of e + 1) (fields_of e)) (file_of 1 now)
    added_here = subst (λ (k : ℕ). EachImage (HoldsAt e (limit_of e + 1) (fields_of e)) (file_of k now)) live.file added

    further_each : EachImage (LogStandsFor longer records between) (file_of 1 now)
    further_each =
        each_weakens (λ image. Q image × HoldsAt e (limit_of e + 1) (fields_of e) image) (LogStandsFor longer records between) (file_of 1 now) further
        (each_both Q (HoldsAt e (limit_of e + 1) (fields_of e)) (file_of 1 now) still added_here)

    longer_list : list_of longer (file_of 1 now) ≡ list_of log (file_of 1 w)
    longer_list = list_each log longer between (file_of 1 w) (file_of 1 now) told reads further_each

    pub grow_taken : KeepsHeld new f longer entries w now
    grow_taken =
        let sound = live.sound in
        record {
          run = grow_run;
          held = record {
            live = record {
              file = takes.file ∙ live.file;
              most = takes.most ∙ live.most;
              sound = sound_taken e new (limit_of e + 1) (fields_of e) sound (omega arith) (omega (arith, less, live.most)) takes;
              fields = ap (λ (n : ℕ). lawful_in n (fields_of new)) takes.limit_is ∙ ap (lawful_in (limit_of e + 1)) takes.fields_are ∙ lawful_more (limit_of e) (limit_of e + 1) (log_fields_in (fields_of e)) f (omega arith) live.fields;
              alike = ap fields_in takes.settled.tried;
              live = live.live;
              log_file = live.log_file;
              first = live.first;
              start = live.start;
              end = is_end;
            };
            usable = held.usable;
            extents = subst (λ (k : ℕ). ExtentsStand new (file_of k now)) live.file stands;
            stands = stands_each longer records between (file_of 1 now) reads further_each;
            read = read_list log longer entries (file_of 1 w) (file_of 1 now) told refl refl longer_list held.read;
          };
        }

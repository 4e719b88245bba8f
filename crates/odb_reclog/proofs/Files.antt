-- What a file stands for after writes behind the next gate, and at it.
use Rattle.std.proofs.Common.{◌≡◌, ◌⊎◌, inl, inr, ℕ, ◌+◌, ◌-◌, ◌<◌, ◌≤◌, max, Bool, List, [], ◌∷◌, ◌++◌, length, Option, Some, None, refl, sym, ◌∙◌, ap, subst, arith}
use Rattle.std.specs.Prelude.{is_some, option_map, IfSome}
use Rattle.std.proofs.lemmas.Bool.{false≢true}
use Rattle.odb_device.specs.World.{File, World, file_of}
use Rattle.odb_device.specs.Images.{IsImage, EachImage, ReadsImage, Torn, TornFrom, overwritten, written, kept}
use Rattle.odb_device.specs.Calls.{Puts}
use Rattle.odb_device.specs.Moments.{Runs}
use Rattle.odb_device.proofs.Time.{weakens, run_end}
use Rattle.odb_device.proofs.Bytes.{image_kept}
use Rattle.odb_device.proofs.Torn.{each_weakens, torn_each, torn_overwritten, puts_each}
use Rattle.odb_reclog.specs.Records.{OPEN, payload_at, log_of, end_of_list}
use Rattle.odb_reclog.specs.Standing.{Log, IsLog, StandsFor, Stands, HasBody, HasItsBody, list_of, tail_of, body_of}
use Rattle.odb_reclog.specs.Moments.{KeepsLists, KeepsOrAdds}
use Rattle.odb_reclog.proofs.Pieces.{torn_widens}
use Rattle.odb_reclog.proofs.Standing.{touched_log, list_torn, stands_torn, opened_log, opening_list, stands_opened, gate_written}

-- images that all stand for the same stand for what a read gives
pub stands_each : (log : Log) (records : List (List ℕ)) (between : List ℕ) (file : Option File) → ReadsImage file → EachImage (StandsFor log records between) file → Stands log file
stands_each log records between None reads each = tt
stands_each log records between (Some f) reads each = λ image is.
    let one = each image is in
    let read = each f.bytes reads in
    record {
      in_range = one.in_range;
      long = one.long;
      list = one.list ∙ sym read.list;
      place = ap (end_of_list log.start) read.list ∙ one.place;
      number = ap (λ (l : List (List ℕ)). log.first + length l) read.list ∙ one.number;
      closed = one.closed;
      clear = one.clear;
      tail = λ e. one.tail e ∙ sym (read.tail e);
    }

-- and its list is that of before
pub list_each : (log new : Log) (between : List ℕ) (file now : Option File) → is_some now ≡ is_some file → ReadsImage now → EachImage (StandsFor new (list_of log file) between) now → list_of new now ≡ list_of log file
list_each log new between None None told reads each = refl
list_each log new between None (Some g) told reads each = absurd (false≢true (sym told))
list_each log new between (Some f) None told reads each = absurd (false≢true told)
list_each log new between (Some f) (Some g) told reads each = (each g.bytes reads).list

-- each image keeps its list
pub keeps_lists : (log : Log) (at n : ℕ) (records : List (List ℕ)) (between : List ℕ) (file now : Option File) → log.place < at → at + n ≤ max log.end (log.place + 1) → EachImage (StandsFor log records between) file
    → TornFrom at n file now → KeepsLists log.start log.end log.first (log.place + 1) (log.end - (log.place + 1)) file now
keeps_lists log at n records between None now low high each torn = torn
keeps_lists log at n records between (Some f) now low high each torn =
    each_weakens (λ image. (before : List ℕ) × IsImage f before × Torn at n before image)
    (λ image. (before : List ℕ) × IsImage f before × Torn (log.place + 1) (log.end - (log.place + 1)) before image × (log_of log.start log.end log.first image ≡ log_of log.start log.end log.first before)) now
    (λ image b.
    let stands = each b.0 b.1 in (
      b.0,
      b.1,
      torn_widens at n (log.place + 1) (log.end - (log.place + 1)) b.0 image (omega arith) (omega arith) b.2,
      list_torn log at n records between b.0 image low stands b.2 ∙ sym stands.list,
    ))
    torn

-- each image keeps its list, or has the body's record more
pub keeps_or_adds : (log : Log) (records : List (List ℕ)) (between body : List ℕ) (file now : Option File) → EachImage (StandsFor log records between) file → EachImage (HasBody log body) file
    → TornFrom log.place 1 file now → KeepsOrAdds log.start log.end log.first body log.place 1 file now
keeps_or_adds log records between body None now each has torn = torn
keeps_or_adds log records between body (Some f) now each has torn =
    each_weakens (λ image. (before : List ℕ) × IsImage f before × Torn log.place 1 before image)
    (λ image. (before : List ℕ) × IsImage f before × Torn log.place 1 before image
    × ((log_of log.start log.end log.first image ≡ log_of log.start log.end log.first before) ⊎ (log_of log.start log.end log.first image ≡ log_of log.start log.end log.first before ++ body ∷ []))) now
    (λ image b.
    let stands = each b.0 b.1 in (
      b.0,
      b.1,
      b.2,
      elim (opening_list log records between body b.0 image stands (has b.0 b.1) b.2) [
        | inl kept ↦ inl (kept ∙ sym stands.list)
        | inr more ↦ inr (more ∙ ap (λ (l : List (List ℕ)). l ++ body ∷ []) (sym stands.list))
      ],
    ))
    torn

-- writes of n bytes behind the gate
module _ (log : Log) (n : ℕ) (w now : World) (stands : Stands log (file_of log.file w)) (run : Runs log.file (TornFrom (log.place + 1) n (file_of log.file w)) w now) where
  pub behind_run : log.place + 1 + n ≤ max log.end (log.place + 1) → Runs log.file (KeepsLists log.start log.end log.first (log.place + 1) (log.end - (log.place + 1)) (file_of log.file w)) w now
  behind_run within = weakens log.file (TornFrom (log.place + 1) n (file_of log.file w)) (KeepsLists log.start log.end log.first (log.place + 1) (log.end - (log.place + 1)) (file_of log.file w)) w now
      (λ o torn. keeps_lists log (log.place + 1) n (list_of log (file_of log.file w)) (tail_of log (file_of log.file w)) (file_of log.file w) o (omega arith) within stands torn) run

  module _ (reads : ReadsImage (file_of log.file now)) (to : ℕ) (body : Bool) (is : IsLog (touched_log log to body)) (more : log.clear_from ≤ to) (within : log.place + 1 + n ≤ to) where
    pub behind_each : (other : List ℕ) → EachImage (StandsFor (touched_log log to body) (list_of log (file_of log.file w)) other) (file_of log.file now)
    behind_each other =
        let records = list_of log (file_of log.file w) in
        let between = tail_of log (file_of log.file w) in
        torn_each (StandsFor log records between) (StandsFor (touched_log log to body) records other) (log.place + 1) n (file_of log.file w) (file_of log.file now)
        (λ before image one torn. stands_torn log (log.place + 1) n records between before image (omega arith) one torn to body other is more within) stands
        (run_end log.file (TornFrom (log.place + 1) n (file_of log.file w)) w now run)

    pub behind_stands : Stands (touched_log log to body) (file_of log.file now)
    behind_stands = stands_each (touched_log log to body) (list_of log (file_of log.file w)) [] (file_of log.file now) reads (behind_each [])

    pub behind_list : list_of (touched_log log to body) (file_of log.file now) ≡ list_of log (file_of log.file w)
    behind_list = list_each log (touched_log log to body) [] (file_of log.file w) (file_of log.file now) (run.only.told now.time run.only.later (omega arith)) reads (behind_each [])

each_both : (P Q : List ℕ → Type 0) (file : Option File) → EachImage P file → EachImage Q file → EachImage (λ image. P image × Q image) file
each_both P Q None a b = tt
each_both P Q (Some f) a b = λ image is. (a image is, b image is)

-- a body is on the disk
module _ (log : Log) (head payload : List ℕ) (file now : Option File) (is : now ≡ option_map (λ f. kept (written (log.place + 13) payload (written (log.place + 1) head f))) file)
    (body : (bytes : List ℕ) → HasBody log payload (overwritten (log.place + 13) payload (overwritten (log.place + 1) head bytes))) where
  pub has_body : HasItsBody log now
  has_body = subst (HasItsBody log) (sym is) (of_old file)
    where
      of_old : (o : Option File) → HasItsBody log (option_map (λ f. kept (written (log.place + 13) payload (written (log.place + 1) head f))) o)
      of_old None = tt
      of_old (Some f) =
          let now_is = kept (written (log.place + 13) payload (written (log.place + 1) head f)) in
          λ image one. subst (HasBody log (payload_at log.place now_is.bytes)) (sym (image_kept now_is image (refl, refl) one)) (subst (λ (p : List ℕ). HasBody log p now_is.bytes) (sym (body f.bytes).payload) (body f.bytes))

  pub reads_body : IfSome now (λ f. payload_at log.place f.bytes ≡ payload)
  reads_body = subst (λ (o : Option File). IfSome o (λ f. payload_at log.place f.bytes ≡ payload)) (sym is) (of_old file)
    where
      of_old : (o : Option File) → IfSome (option_map (λ f. kept (written (log.place + 13) payload (written (log.place + 1) head f))) o) (λ f. payload_at log.place f.bytes ≡ payload)
      of_old None = tt
      of_old (Some f) = (body f.bytes).payload

-- a gate is open on the disk
module _ (log : Log) (w now : World) (stands : Stands log (file_of log.file w)) (has : HasItsBody log (file_of log.file w)) where
  pub opening_run : Runs log.file (TornFrom log.place 1 (file_of log.file w)) w now → Runs log.file (KeepsOrAdds log.start log.end log.first (body_of log (file_of log.file w)) log.place 1 (file_of log.file w)) w now
  opening_run run =
      let file = file_of log.file w in
      weakens log.file (TornFrom log.place 1 file) (KeepsOrAdds log.start log.end log.first (body_of log file) log.place 1 file) w now
      (λ o torn. keeps_or_adds log (list_of log file) (tail_of log file) (body_of log file) file o stands has torn) run

  module _ (before : ReadsImage (file_of log.file w)) (after : ReadsImage (file_of log.file now)) (puts : Puts log.file log.place (OPEN ∷ []) w now) where
    opened_each : EachImage (StandsFor (opened_log log) (list_of log (file_of log.file w) ++ body_of log (file_of log.file w) ∷ []) []) (file_of log.file now)
    opened_each =
        let file = file_of log.file w in
        let records = list_of log file in
        let between = tail_of log file in
        let body = body_of log file in
        let One : List ℕ → Type 0 = λ image. StandsFor log records between image × HasBody log body image in
        puts_each One (StandsFor (opened_log log) (records ++ body ∷ []) []) log.place (OPEN ∷ []) file (file_of log.file now)
        (λ bytes one. stands_opened log records between body bytes (overwritten log.place (OPEN ∷ []) bytes) one.0 one.1 (torn_overwritten log.place (OPEN ∷ []) bytes) (gate_written log bytes))
        (each_both (StandsFor log records between) (HasBody log body) file stands has) before puts

    pub opened_stands : Stands (opened_log log) (file_of log.file now)
    opened_stands = stands_each (opened_log log) (list_of log (file_of log.file w) ++ body_of log (file_of log.file w) ∷ []) [] (file_of log.file now) after opened_each

    pub opened_reads : IfSome (file_of log.file now) (λ f. log_of log.start log.end log.first f.bytes ≡ list_of log (file_of log.file w) ++ body_of log (file_of log.file w) ∷ [])
    opened_reads = of_now (file_of log.file now) after opened_each
      where
        of_now : (o : Option File) → ReadsImage o → EachImage (StandsFor (opened_log log) (list_of log (file_of log.file w) ++ body_of log (file_of log.file w) ∷ []) []) o
            → IfSome o (λ f. log_of log.start log.end log.first f.bytes ≡ list_of log (file_of log.file w) ++ body_of log (file_of log.file w) ∷ [])
        of_now None reads each = tt
        of_now (Some f) reads each = (each f.bytes reads).list

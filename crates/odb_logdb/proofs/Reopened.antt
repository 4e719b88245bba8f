-- A list that is read again, where a record is in doubt.
use Rattle.std.proofs.Common.{◌≡◌, inl, inr, ℕ, ◌-◌, ◌<◌, List, [], ◌∷◌, ◌++◌, length, Option, Some, None, Ok, refl, sym, ◌∙◌, ap, subst, arith}
use Rattle.std.specs.Prelude.{is_some, IfSome}
use Rattle.std.proofs.lemmas.Bool.{false≢true}
use Rattle.std.proofs.lemmas.List.{same_lists, get_or_default}
use Rattle.odb_device.specs.World.{File, World, file_of}
use Rattle.odb_device.specs.Images.{IsImage, EachImage, ReadsImage}
use Rattle.odb_device.specs.TornSets.{TornIn, TornInFrom}
use Rattle.odb_device.specs.Moments.{Runs}
use Rattle.odb_device.proofs.Time.{weakens, run_end}
use Rattle.odb_device.proofs.Torn.{each_weakens}
use Rattle.odb_extent.specs.Standing.{ExtentState, IsFileOf}
use Rattle.odb_reclog.specs.Records.{OPEN, gate_at, log_of, end_of_list}
use Rattle.odb_reclog.specs.Ends.{IsOpenEnd}
use Rattle.odb_reclog.specs.Moments.{KeepsLists}
use Rattle.odb_reclog.specs.Regions.{region, KeepsListFrom, TearsOpenEnd, IsOpened as IsLogOpened}
use Rattle.odb_reclog.specs.Standing.{Log, StandsFor as LogStandsFor, list_of, list_in}
use Rattle.odb_entries.specs.Listed.{entries_from, log_entries}
use Rattle.odb_model.specs.declared.entry.Entry.{Entry}
use Rattle.odb_logdb.specs.declared.fields.LogFields.{LogFields}
use Rattle.odb_logdb.specs.Opened.{opened, entries_of, entries_in}
use Rattle.odb_logdb.specs.Standing.{behind_body, MayHaveOneMore}
use Rattle.odb_logdb.specs.Adding.{IsLive, IsHeld, IsDoubtful}
use Rattle.odb_logdb.specs.Answers.{KeepsOpened}
use Rattle.odb_logdb.specs.Worlds.{OpensAsBefore}
use Rattle.odb_logdb.proofs.Held.{by_file, live_like}

-- each image is one from before
abbrev pub HasFewer : Option File → Option File → Type 0
HasFewer None new = new ≡ None
HasFewer (Some old) new = EachImage (λ image. IsImage old image) new

-- where no place is torn the bytes stay
untorn : (P : ℕ → Type 0) (before image : List ℕ) → ((i : ℕ) → P i → ⊥) → TornIn P 0 before image → image ≡ before
untorn P before image none torn =
    let long : length image ≡ length before = omega (arith, torn.no_shorter, torn.no_longer) in
    same_lists image before long (λ i d low. get_or_default image i d 0 low ∙ torn.outside i (omega arith) (none i) ∙ sym (get_or_default before i d 0 (omega arith)))

from_untorn : (P : ℕ → Type 0) (o p : Option File) → ((i : ℕ) → P i → ⊥) → TornInFrom P 0 o p → HasFewer o p
from_untorn P None p none torn = torn
from_untorn P (Some g) p none torn =
    each_weakens (λ image. (before : List ℕ) × IsImage g before × TornIn P 0 before image) (λ image. IsImage g image) p
    (λ image b. subst (IsImage g) (sym (untorn P b.0 image none b.2)) b.1) torn

fewer_opens : (o p : Option File) → HasFewer o p → KeepsOpened o p
fewer_opens None p fewer = fewer
fewer_opens (Some g) p fewer = each_weakens (λ image. IsImage g image) (λ image. (before : List ℕ) × IsImage g before × (opened image ≡ opened before)) p (λ image im. (image, im, refl)) fewer

pub fewer_run : (w now : World) → Runs 1 (HasFewer (file_of 1 w)) w now → OpensAsBefore w now
fewer_run w now run = weakens 1 (HasFewer (file_of 1 w)) (KeepsOpened (file_of 1 w)) w now (λ p fewer. fewer_opens (file_of 1 w) p fewer) run

pub fewer_each : (P : List ℕ → Type 0) (o p : Option File) → EachImage P o → HasFewer o p → EachImage P p
fewer_each P None p each fewer = subst (EachImage P) (sym fewer) tt
fewer_each P (Some g) p each fewer = each_weakens (λ image. IsImage g image) P p (λ image im. each image im) fewer

-- no gate is open where a list ends that a record log stands behind
none_open : (log : Log) (records : List (List ℕ)) (between bytes : List ℕ) → LogStandsFor log records between bytes → (i : ℕ) → IsOpenEnd log.start log.end log.first bytes i → ⊥
none_open log records between bytes stands i is =
    let here : i ≡ log.place = sym is.ends ∙ ap (end_of_list log.start) stands.list ∙ stands.place in
    let inside : log.place < log.end = omega (arith, is.inside, here) in
    stands.closed inside (subst (λ (n : ℕ). gate_at n bytes ≡ OPEN) here is.is_open)

none_may : (log : Log) (entries : List Entry) (bytes : List ℕ) → MayHaveOneMore log entries bytes → (i : ℕ) → IsOpenEnd log.start log.end log.first bytes i → ⊥
none_may log entries bytes (inl here) i is = none_open log here.records here.between bytes here.stands i is
none_may log entries bytes (inr more) i is = none_open (behind_body log) (more.records ++ more.payload ∷ []) [] bytes more.stands i is

-- the entries of the list that bytes have
read_may : (log : Log) (entries : List Entry) (g : File) → MayHaveOneMore log entries g.bytes → entries_from log.first log.start (log_of log.start log.end log.first g.bytes) ≡ Ok (entries_in (Some g))
read_may log entries g (inl here) = ap (entries_from log.first log.start) here.stands.list ∙ here.read ∙ ap Ok (sym (ap entries_of here.holds))
read_may log entries g (inr more) = ap (entries_from log.first log.start) more.stands.list ∙ more.read_more ∙ ap Ok (sym (ap entries_of more.holds))

-- where no gate is open at the list's end, an opening writes nothing
pub fewer_by : (start end first : ℕ) (w now : World) → KeepsListFrom start (region 1 start end first) w now → TearsOpenEnd (region 1 start end first) w now
    → ((g : File) → file_of 1 w ≡ Some g → (i : ℕ) → IsOpenEnd start end first g.bytes i → ⊥) → Runs 1 (HasFewer (file_of 1 w)) w now
fewer_by start end first w now run gate none_open_end =
    by_file (file_of 1 w) (Runs 1 (HasFewer (file_of 1 w)) w now)
    (λ none.
    weakens 1 (KeepsLists start end first start (end - start) (file_of 1 w)) (HasFewer (file_of 1 w)) w now
    (λ p keeps. subst (λ (o : Option File). HasFewer o p) (sym none) (subst (λ (o : Option File). KeepsLists start end first start (end - start) o p) none keeps)) run)
    (λ g is.
    let P = IsOpenEnd start end first g.bytes in
    weakens 1 (TornInFrom P 0 (file_of 1 w)) (HasFewer (file_of 1 w)) w now
    (λ p torn. from_untorn P (file_of 1 w) p (none_open_end g is) torn)
    (subst (λ (o : Option File). IfSome o (λ g. Runs 1 (TornInFrom (IsOpenEnd start end first g.bytes) 0 (file_of 1 w)) w now)) is gate))

module _ (e : ExtentState) (f : LogFields) (log : Log) (entries : List Entry) (w now : World) (d : IsDoubtful e f log entries w) (reads : ReadsImage (file_of 1 w)) (start end first : ℕ)
    (is_start : start ≡ log.start) (is_end : end ≡ log.end) (is_first : first ≡ log.first) (run : KeepsListFrom start (region 1 start end first) w now) (gate : TearsOpenEnd (region 1 start end first) w now) where
  at_log : (P : ℕ → ℕ → ℕ → Type 0) → P start end first → P log.start log.end log.first
  at_log P here = subst (λ (n : ℕ). P log.start log.end n) is_first (subst (λ (n : ℕ). P log.start n first) is_end (subst (λ (n : ℕ). P n end first) is_start here))

  none_at : (o : Option File) → ReadsImage o → EachImage (MayHaveOneMore log entries) o → (g : File) → o ≡ Some g → (i : ℕ) → IsOpenEnd log.start log.end log.first g.bytes i → ⊥
  none_at None r may g is = absurd (cc is)
  none_at (Some h) r may g is =
      let same : h ≡ g = cc is in
      subst (λ (x : File). (i : ℕ) → IsOpenEnd log.start log.end log.first x.bytes i → ⊥) same (none_may log entries h.bytes (may h.bytes r))

  -- nothing is written
  pub fewer : Runs 1 (HasFewer (file_of 1 w)) w now
  fewer =
      fewer_by start end first w now run gate
      (λ g is i open_end. none_at (file_of 1 w) reads d.each g is i (at_log (λ s t n. IsOpenEnd s t n g.bytes i) open_end))

  fewer_end : HasFewer (file_of 1 w) (file_of 1 now)
  fewer_end = run_end 1 (HasFewer (file_of 1 w)) w now fewer

  told : is_some (file_of 1 now) ≡ is_some (file_of 1 w)
  told = fewer.only.told now.time fewer.only.later (omega arith)

  -- where it failed, all stands as before
  pub still_doubtful : IsDoubtful e f log entries now
  still_doubtful = record {
    live = d.live;
    extents = fewer_each (IsFileOf e) (file_of 1 w) (file_of 1 now) d.extents fewer_end;
    each = fewer_each (MayHaveOneMore log entries) (file_of 1 w) (file_of 1 now) d.each fewer_end;
  }

  module _ (new : Log) (is : IsLogOpened (region 1 start end first) new w now) where
    live_new : IsLive e f new
    live_new = live_like e f log new d.live (is.file ∙ sym d.live.log_file) (is.start ∙ is_start) (is.end ∙ is_end) (is.first ∙ is_first)

    list_here : list_of new (file_of 1 now) ≡ list_in log.start log.end log.first (file_of 1 w)
    list_here = at_log (λ s t n. list_of new (file_of 1 now) ≡ list_in s t n (file_of 1 w)) is.list

    by_list : (o p : Option File) → is_some p ≡ is_some o → ReadsImage o → EachImage (MayHaveOneMore log entries) o → list_of new p ≡ list_in log.start log.end log.first o → IfSome p (λ h. log_entries new h.bytes ≡ Ok (entries_in o))
    by_list None None here r may list = tt
    by_list None (Some h) here r may list = absurd (false≢true (sym here))
    by_list (Some g) None here r may list = tt
    by_list (Some g) (Some h) here r may list =
        ap (λ (n : ℕ). entries_from n new.start (list_of new (Some h))) (is.first ∙ is_first) ∙ ap (λ (s : ℕ). entries_from log.first s (list_of new (Some h))) (is.start ∙ is_start)
        ∙ ap (entries_from log.first log.start) list ∙ read_may log entries g (may g.bytes r)

    -- and with Ok the list is known
    pub reopened : IsHeld e f new (entries_in (file_of 1 w)) now
    reopened = record {
      live = live_new;
      usable = is.in_doubt;
      extents = fewer_each (IsFileOf e) (file_of 1 w) (file_of 1 now) d.extents fewer_end;
      stands = is.stands;
      read = by_list (file_of 1 w) (file_of 1 now) told reads d.each list_here;
    }

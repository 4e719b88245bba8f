-- The list up to the place of a record in doubt.
use Rattle.std.proofs.Common.{◌≡◌, inl, inr, ℕ, ◌+◌, ◌-◌, ◌≤◌, List, [], ◌∷◌, ◌++◌, length, take, drop, Option, Some, None, Result, Ok, sym, ◌∙◌, ap, subst, arith}
use Rattle.std.specs.Prelude.{is_some, IfSome, IfOk}
use Rattle.std.proofs.lemmas.Bool.{false≢true}
use Rattle.odb_device.specs.World.{File, World, file_of}
use Rattle.odb_device.specs.Images.{EachImage, ReadsImage}
use Rattle.odb_device.specs.Moments.{Runs}
use Rattle.odb_device.proofs.Time.{joins, weakens, run_end}
use Rattle.odb_extent.specs.Standing.{IsFileOf}
use Rattle.odb_reclog.specs.Records.{HEAD, log_of, end_of_list}
use Rattle.odb_reclog.specs.Ends.{IsOpenEnd}
use Rattle.odb_reclog.specs.Told.{OnlyReads}
use Rattle.odb_reclog.specs.Regions.{region, KeepsListFrom, TearsOpenEnd}
use Rattle.odb_reclog.specs.Standing.{Log}
use Rattle.odb_reclog.proofs.Records.{Leads, leads_few}
use Rattle.odb_reclog.proofs.Standing.{stands_leads, leads_log}
use Rattle.odb_entries.specs.Listed.{entries_from, log_entries}
use Rattle.odb_model.specs.declared.entry.Entry.{Entry}
use Rattle.odb_logdb.specs.declared.state.ListState.{ListState}
use Rattle.odb_logdb.specs.declared.state.ListState.TheVariants.{Unknown}
use Rattle.odb_logdb.specs.Standing.{LogState, IsLogdb, behind_body, MayHaveOneMore, StandsFor, Stands, first_of, next_of, count_of, held}
use Rattle.odb_logdb.specs.Adding.{IsDoubtful}
use Rattle.odb_logdb.specs.Worlds.{KeepsStanding}
use Rattle.odb_logdb.proofs.Stood.{log_with, doubtful_of, unknown_stands}
use Rattle.odb_logdb.proofs.Reopened.{HasFewer, fewer_by, fewer_each}
use Rattle.odb_logdb.proofs.Walked.{each_of, ok_map, whole_front}

-- the first of records that lead on
leads_front : (end place number : ℕ) (first rest : List (List ℕ)) (bytes : List ℕ) → Leads end place number (first ++ rest) bytes → Leads end place number first bytes
leads_front end place number [] rest bytes leads = tt
leads_front end place number (payload ∷ others) rest bytes (here, leads) = (here, leads_front end (place + HEAD + length payload) (number + 1) others rest bytes leads)

-- in a region that ends behind them
leads_nearer : (end near place number : ℕ) (records : List (List ℕ)) (bytes : List ℕ) → end_of_list place records ≤ near → Leads end place number records bytes → Leads near place number records bytes
leads_nearer end near place number [] bytes within leads = tt
leads_nearer end near place number (payload ∷ rest) bytes within (here, leads) =
    let few = leads_few end (place + HEAD + length payload) (number + 1) rest bytes leads in (
      record { gate = here.gate; number_is = here.number_is; size = here.size; payload_is = here.payload_is; within = omega (arith, few, within) },
      leads_nearer end near (place + HEAD + length payload) (number + 1) rest bytes within leads,
    )

-- the list of the region up to the record in doubt, and its entries
pub record IsFront (log : Log) (entries : List Entry) (bytes : List ℕ) : Type 0 where
  pub ends : end_of_list log.start (log_of log.start log.place log.first bytes) ≡ log.place
  pub read : entries_from log.first log.start (log_of log.start log.place log.first bytes) ≡ Ok entries

front_leads : (log : Log) (records : List (List ℕ)) (entries : List Entry) (bytes : List ℕ) → Leads log.end log.start log.first records bytes → end_of_list log.start records ≡ log.place → entries_from log.first log.start records ≡ Ok entries → IsFront log entries bytes
front_leads log records entries bytes leads ends read =
    let list : log_of log.start log.place log.first bytes ≡ records =
    leads_log log.start log.place log.first log.place records bytes (leads_nearer log.end log.place log.start log.first records bytes (omega (arith, ends)) leads) ends (omega arith) (λ room. absurd (omega (arith, room))) in
    record {
      ends = ap (end_of_list log.start) list ∙ ends;
      read = ap (entries_from log.first log.start) list ∙ read;
    }

pub front_may : (log : Log) (entries : List Entry) (bytes : List ℕ) → MayHaveOneMore log entries bytes → IsFront log entries bytes
front_may log entries bytes (inl here) = front_leads log here.records entries bytes (stands_leads log here.records here.between bytes here.stands) here.stands.place here.read
front_may log entries bytes (inr more) =
    front_leads log more.records entries bytes
    (leads_front log.end log.start log.first more.records (more.payload ∷ []) bytes (stands_leads (behind_body log) (more.records ++ more.payload ∷ []) [] bytes more.stands)) more.ends more.read

none_front : (log : Log) (entries : List Entry) (bytes : List ℕ) → IsFront log entries bytes → (i : ℕ) → IsOpenEnd log.start log.place log.first bytes i → ⊥
none_front log entries bytes front i is = omega (arith, is.ends, is.inside, front.ends)

module _ (l : LogState) (w now : World) (is : IsLogdb l) (unknown : l.state ≡ Unknown) (reads : ReadsImage (file_of 1 w)) (reads_now : ReadsImage (file_of 1 now)) (stands : Stands l (file_of 1 w)) (start end first : ℕ)
    (is_start : start ≡ l.log.start) (is_end : end ≡ l.log.place) (is_first : first ≡ l.log.first) (run : KeepsListFrom start (region 1 start end first) w now) (gate : TearsOpenEnd (region 1 start end first) w now) where
  doubt : IsDoubtful l.extents l.fields l.log (held l (file_of 1 w)) w
  doubt = doubtful_of l w is unknown stands

  at_log : (P : ℕ → ℕ → ℕ → Type 0) → P start end first → P l.log.start l.log.place l.log.first
  at_log P here = subst (λ (n : ℕ). P l.log.start l.log.place n) is_first (subst (λ (n : ℕ). P l.log.start n first) is_end (subst (λ (n : ℕ). P n end first) is_start here))

  none_at : (o : Option File) → ReadsImage o → EachImage (MayHaveOneMore l.log (held l (file_of 1 w))) o → (g : File) → o ≡ Some g → (i : ℕ) → IsOpenEnd l.log.start l.log.place l.log.first g.bytes i → ⊥
  none_at None r may g here = absurd (cc here)
  none_at (Some h) r may g here =
      let same : h ≡ g = cc here in
      subst (λ (x : File). (i : ℕ) → IsOpenEnd l.log.start l.log.place l.log.first x.bytes i → ⊥) same
      (none_front l.log (held l (file_of 1 w)) h.bytes (front_may l.log (held l (file_of 1 w)) h.bytes (may h.bytes r)))

  fewer : Runs 1 (HasFewer (file_of 1 w)) w now
  fewer =
      fewer_by start end first w now run gate
      (λ g some i open_end. none_at (file_of 1 w) reads doubt.each g some i (at_log (λ s t n. IsOpenEnd s t n g.bytes i) open_end))

  fewer_end : HasFewer (file_of 1 w) (file_of 1 now)
  fewer_end = run_end 1 (HasFewer (file_of 1 w)) w now fewer

  abbrev P : List ℕ → Type 0
  P = StandsFor l (held l (file_of 1 w))

  pub front_run : KeepsStanding l w now
  front_run = weakens 1 (HasFewer (file_of 1 w)) (EachImage P) w now (λ p few. fewer_each P (file_of 1 w) p (each_of l (file_of 1 w) stands) few) fewer

  may_now : EachImage (MayHaveOneMore l.log (held l (file_of 1 w))) (file_of 1 now)
  may_now = fewer_each (MayHaveOneMore l.log (held l (file_of 1 w))) (file_of 1 w) (file_of 1 now) doubt.each fewer_end

  pub front_stands : Stands l (file_of 1 now)
  front_stands =
      subst (λ (s : ListState). Stands (log_with l.extents l.fields l.log s) (file_of 1 now)) (sym unknown)
      (unknown_stands l.extents l.fields l.log (held l (file_of 1 w)) (file_of 1 now) doubt.live reads_now (fewer_each (IsFileOf l.extents) (file_of 1 w) (file_of 1 now) doubt.extents fewer_end) may_now)

  told : is_some (file_of 1 now) ≡ is_some (file_of 1 w)
  told = fewer.only.told now.time fewer.only.later (omega arith)

  count_front : (o : Option File) → Stands l o → IfSome o (λ _. length (held l o) ≡ count_of l)
  count_front None s = tt
  count_front (Some g) s = s.count

  by_front : {E : Type 0} (log : Log) (from : ℕ) (r : Result (List Entry) E) → log.start ≡ start → log.end ≡ end → log.first ≡ first → first_of l ≤ from → (o p : Option File) → is_some p ≡ is_some o → ReadsImage p → (entries : List Entry) → IfSome o (λ _. length entries ≡ count_of l)
      → EachImage (MayHaveOneMore l.log entries) p
      → IfSome p (λ h. (all : List Entry) → log_entries log h.bytes ≡ Ok all → IfOk r (λ es. es ≡ take (next_of l - from) (drop (from - first_of l) all)))
      → IfSome o (λ _. IfOk r (λ es. es ≡ drop (from - first_of l) entries))
  by_front log from r a b c low None p here reads entries count may gives = tt
  by_front log from r a b c low (Some g) None here reads entries count may gives = absurd (false≢true here)
  by_front log from r a b c low (Some g) (Some h) here reads entries count may gives =
      let front = front_may l.log entries h.bytes (may h.bytes reads) in
      let read : log_entries log h.bytes ≡ Ok entries =
      ap (λ (n : ℕ). entries_from n log.start (log_of log.start log.end n h.bytes)) (c ∙ is_first) ∙ ap (λ (n : ℕ). entries_from l.log.first n (log_of n log.end l.log.first h.bytes)) (a ∙ is_start)
      ∙ ap (λ (n : ℕ). entries_from l.log.first l.log.start (log_of l.log.start n l.log.first h.bytes)) (b ∙ is_end) ∙ front.read in
      ok_map r (λ es. es ≡ take (next_of l - from) (drop (from - first_of l) entries)) (λ es. es ≡ drop (from - first_of l) entries) (gives entries read) (λ es same. same ∙ whole_front l from entries low count)

  -- what the walk gives
  pub front_entries : {E : Type 0} (log : Log) (from : ℕ) (r : Result (List Entry) E) → log.start ≡ start → log.end ≡ end → log.first ≡ first → first_of l ≤ from
      → IfSome (file_of 1 now) (λ h. (all : List Entry) → log_entries log h.bytes ≡ Ok all → IfOk r (λ es. es ≡ take (next_of l - from) (drop (from - first_of l) all)))
      → IfSome (file_of 1 w) (λ _. IfOk r (λ es. es ≡ drop (from - first_of l) (held l (file_of 1 w))))
  front_entries log from r a b c low gives = by_front log from r a b c low (file_of 1 w) (file_of 1 now) told reads_now (held l (file_of 1 w)) (count_front (file_of 1 w) stands) may_now gives

  -- and behind it
  module _ (last : World) (walk : OnlyReads 1 now last) where
    pub walk_run : KeepsStanding l w last
    walk_run =
        joins 1 (EachImage P) w now last front_run
        (weakens 1 (λ p. p ≡ file_of 1 now) (EachImage P) now last (λ p same. subst (EachImage P) (sym same) (run_end 1 (EachImage P) w now front_run)) walk)

    pub walk_stands : Stands l (file_of 1 last)
    walk_stands = subst (Stands l) (sym (run_end 1 (λ p. p ≡ file_of 1 now) now last walk)) front_stands

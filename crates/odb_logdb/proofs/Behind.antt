-- What writes behind the gate of the next record, and at it, leave of a Live log.
use Rattle.std.proofs.Common.{◌≡◌, ◌⊎◌, inl, inr, ℕ, ◌+◌, ◌-◌, ◌<◌, ◌≤◌, true, false, List, [], ◌∷◌, ◌++◌, length, Option, Some, None, Result, Ok, Err, refl, sym, ◌∙◌, ap, subst, arith}
use Rattle.std.specs.Prelude.{is_some, IfSome, OnOk, OnErr}
use Rattle.std.proofs.lemmas.Bool.{cases_eq, false≢true}
use Rattle.odb_device.specs.World.{File, World, file_of}
use Rattle.odb_device.specs.Images.{IsImage, EachImage, ReadsImage, Torn}
use Rattle.odb_device.specs.Moments.{Runs}
use Rattle.odb_device.proofs.Time.{joins, weakens, run_end}
use Rattle.odb_device.proofs.Torn.{each_weakens}
use Rattle.odb_device.proofs.TornSets.{torn_inside}
use Rattle.odb_extent.specs.Standing.{ExtentState, limit_of, IsFileOf, IsContent}
use Rattle.odb_extent.specs.Laws.{stands_content}
use Rattle.odb_reclog.specs.Records.{OPEN, gate_at, payload_at, log_of}
use Rattle.odb_reclog.specs.Standing.{Log, IsLog, StandsFor as LogStandsFor, Stands as LogStands, HasBody, HasItsBody, SameList, SameRegion, list_of, tail_of, body_of, tail_at}
use Rattle.odb_reclog.specs.Moments.{KeepsLists, KeepsOrAdds}
use Rattle.odb_reclog.specs.Told.{IfTold}
use Rattle.odb_reclog.specs.Regions.{WritesBehind, IsWritten, IsAdded, KeepsOrAddsBody}
use Rattle.odb_reclog.proofs.Records.{torn_outside}
use Rattle.odb_reclog.proofs.Standing.{touched_log, is_touched, stands_torn, list_kept, stands_opened}
use Rattle.odb_codec.specs.Reading.{read_entry}
use Rattle.odb_entries.specs.Listed.{entries_from, log_entries}
use Rattle.odb_entries.proofs.Entries.{read_more}
use Rattle.odb_model.specs.declared.entry.Entry.{Entry}
use Rattle.odb_logdb.specs.declared.fields.LogFields.{LogFields}
use Rattle.odb_logdb.specs.Opened.{Holds}
use Rattle.odb_logdb.specs.Standing.{behind_body, MayHaveOneMore}
use Rattle.odb_logdb.specs.Adding.{IsLive, IsHeld, IsDoubtful, KeepsHeld, HoldsThrough, HoldsOrOneMore, IsBodyOf, OpensOne}
use Rattle.odb_logdb.proofs.Held.{by_file, IsBoth, live_like, both_each, both_holds, told_run, told_each, list_read, read_list, each_file}

-- what changes inside the region leaves the extents
content_torn : (e : ExtentState) (f : LogFields) (log : Log) → IsLive e f log → (at n : ℕ) (before image : List ℕ) → log.start ≤ at → at + n ≤ log.end → Torn at n before image → IsFileOf e before → IsFileOf e image
content_torn e f log live at n before image low high torn file =
    stands_content e log.end before image file
    (torn_inside (IsContent (limit_of e)) log.end at n before image (λ i here. (omega (arith, here.0, low, live.start), omega (arith, here.1, high, live.end))) (omega arith) torn)

-- what a file's images are, each one from before but for some of its bytes
abbrev pub KeepsBehind : Log → Option File → Option File → Type 0
KeepsBehind log = KeepsLists log.start log.end log.first (log.place + 1) (log.end - (log.place + 1))

module _ (e : ExtentState) (f : LogFields) (log : Log) (live : IsLive e f log) (room : log.place < log.end) where
  abbrev torn_log : Log
  torn_log = touched_log log log.end false

  live_torn : IsLive e f torn_log
  live_torn = live_like e f log torn_log live refl refl refl refl

  both_torn : (records : List (List ℕ)) (between before image : List ℕ) → IsBoth e log records between before → Torn (log.place + 1) (log.end - (log.place + 1)) before image → IsBoth e torn_log records [] image
  both_torn records between before image b torn =
      let is = b.stands.in_range in
      record {
        extents = content_torn e f log live (log.place + 1) (log.end - (log.place + 1)) before image (omega (arith, is.start)) (omega arith) torn b.extents;
        stands = stands_torn log (log.place + 1) (log.end - (log.place + 1)) records between before image (omega arith) b.stands torn log.end false [] (is_touched log log.end false is room (omega arith)) (omega (arith, is.clear_to)) (omega arith);
      }

  each_torn : (records : List (List ℕ)) (between : List ℕ) (o p : Option File) → EachImage (IsBoth e log records between) o → KeepsBehind log o p → EachImage (IsBoth e torn_log records []) p
  each_torn records between None p each keeps = subst (EachImage (IsBoth e torn_log records [])) (sym keeps) tt
  each_torn records between (Some g) p each keeps =
      each_weakens
      (λ image. (before : List ℕ) × IsImage g before × Torn (log.place + 1) (log.end - (log.place + 1)) before image × (log_of log.start log.end log.first image ≡ log_of log.start log.end log.first before))
      (IsBoth e torn_log records []) p (λ image b. both_torn records between b.0 image (each b.0 b.1) b.2) keeps

  module _ (entries : List Entry) (w now : World) (held : IsHeld e f log entries w) (run : Runs 1 (KeepsBehind log (file_of 1 w)) w now) where
    abbrev records : List (List ℕ)
    records = list_of log (file_of 1 w)

    torn_run : Runs 1 (EachImage (IsBoth e torn_log records [])) w now
    torn_run =
        weakens 1 (KeepsBehind log (file_of 1 w)) (EachImage (IsBoth e torn_log records [])) w now
        (λ p keeps. each_torn records (tail_of log (file_of 1 w)) (file_of 1 w) p (both_each e log (file_of 1 w) held.extents held.stands) keeps) run

    pub behind_run : HoldsThrough f.first entries w now
    behind_run =
        told_run (IsBoth e torn_log records []) (Holds f.first entries) w now
        (λ g is image b. both_holds e f torn_log live_torn records [] entries (list_read log entries (file_of 1 w) held.read g is) image b) torn_run

    pub behind_keeps : (new : Log) → SameList log new → LogStands new (file_of 1 now) → list_of new (file_of 1 now) ≡ records → KeepsHeld e f new entries w now
    behind_keeps new same stands list = record {
      run = behind_run;
      held = record {
        live = live_like e f log new live same.file same.start same.end same.first;
        usable = same.in_doubt ∙ held.usable;
        extents = each_file e torn_log records [] (file_of 1 now) (run_end 1 (EachImage (IsBoth e torn_log records [])) w now torn_run);
        stands = stands;
        read = read_list log new entries (file_of 1 w) (file_of 1 now) (torn_run.only.told now.time torn_run.only.later (omega arith)) same.first same.start list held.read;
      };
    }

-- from the words of the record log
pub behind_held : (e : ExtentState) (f : LogFields) (log new : Log) (entries : List Entry) (w now : World) → IsHeld e f log entries w → log.place < log.end → WritesBehind log new w now → KeepsHeld e f new entries w now
behind_held e f log new entries w now held room writes =
    let file : log.file ≡ 1 = held.live.log_file in
    let run : Runs 1 (KeepsBehind log (file_of 1 w)) w now = subst (λ (k : ℕ). Runs k (KeepsBehind log (file_of k w)) w now) file writes.run in
    behind_keeps e f log held.live room entries w now held run new writes.same
    (subst (λ (k : ℕ). LogStands new (file_of k now)) file writes.stands)
    (subst (λ (k : ℕ). list_of new (file_of k now) ≡ list_of log (file_of k w)) file writes.list)

-- one behind the other
pub keeps_then : (e d : ExtentState) (f : LogFields) (log new : Log) (entries : List Entry) (w mid now : World) → KeepsHeld e f log entries w mid → KeepsHeld d f new entries mid now → KeepsHeld d f new entries w now
keeps_then e d f log new entries w mid now first second = record {
  run = joins 1 (EachImage (Holds f.first entries)) w mid now first.run second.run;
  held = second.held;
}

-- the record log in doubt
abbrev pub doubtful : Log → Log
doubtful log = record log { in_doubt = true }

is_doubtful : (log : Log) → IsLog log → IsLog (doubtful log)
is_doubtful log is = record {
  start = is.start;
  end = is.end;
  most = is.most;
  first = is.first;
  next = is.next;
  clear_from = is.clear_from;
  clear_to = is.clear_to;
  body = is.body;
}

-- an image of the file, where the gate was to be opened
pub record IsOpening (e : ExtentState) (log : Log) (entries : List Entry) (one : Entry) (image : List ℕ) : Type 0 where
  pub extents : IsFileOf e image
  pub may : MayHaveOneMore (doubtful log) entries image
  pub holds : HoldsOrOneMore log.first entries one image

module _ (e : ExtentState) (f : LogFields) (log : Log) (live : IsLive e f log) (records : List (List ℕ)) (between payload : List ℕ) (entries : List Entry) (one : Entry) (before image : List ℕ)
    (b : IsBoth e log records between before) (has : HasBody log payload before) (torn : Torn log.place 1 before image)
    (read : entries_from log.first log.start records ≡ Ok entries) (more : entries_from log.first log.start (records ++ payload ∷ []) ≡ Ok (entries ++ one ∷ [])) where
  extents_still : IsFileOf e image
  extents_still = content_torn e f log live log.place 1 before image b.stands.in_range.start (omega (arith, has.within)) torn b.extents

  -- the gate is open
  opened_both : gate_at log.place image ≡ OPEN → IsBoth e (behind_body log) (records ++ payload ∷ []) [] image
  opened_both is_open = record { extents = extents_still; stands = stands_opened log records between payload before image b.stands has torn is_open }

  by_open : gate_at log.place image ≡ OPEN → IsOpening e log entries one image
  by_open is_open =
      let both = opened_both is_open in
      let holds : Holds log.first (entries ++ one ∷ []) image =
      subst (λ (n : ℕ). Holds n (entries ++ one ∷ []) image) (sym live.first) (both_holds e f (behind_body log) (live_like e f log (behind_body log) live refl refl refl refl) (records ++ payload ∷ []) [] (entries ++ one ∷ []) more image both) in
      record {
        extents = extents_still;
        may = inr (record { last = one; holds = holds; records = records; payload = payload; stands = both.stands; ends = b.stands.place; read = read; read_more = more });
        holds = inr holds;
      }

  -- or shut
  shut_stands : (gate_at log.place image ≡ OPEN → ⊥) → LogStandsFor (doubtful log) records (tail_at log image) image
  shut_stands shut =
      let stands = b.stands in
      record {
        in_range = is_doubtful log stands.in_range;
        long = omega (arith, stands.long, torn.no_shorter);
        list = list_kept log records between before image stands (torn_outside log.start log.place log.place 1 before image (omega (arith, stands.long, stands.in_range.end)) torn (inl (omega arith))) (λ room. shut);
        place = stands.place;
        number = stands.number;
        closed = λ room. shut;
        clear = λ i from to. torn.outside i (omega (arith, stands.long, to)) (inr (omega (arith, from, has.behind))) ∙ stands.clear i from to;
        tail = λ e. refl;
      }

  by_shut : (gate_at log.place image ≡ OPEN → ⊥) → IsOpening e log entries one image
  by_shut shut =
      let both : IsBoth e (doubtful log) records (tail_at log image) image = record { extents = extents_still; stands = shut_stands shut } in
      let holds : Holds log.first entries image =
      subst (λ (n : ℕ). Holds n entries image) (sym live.first) (both_holds e f (doubtful log) (live_like e f log (doubtful log) live refl refl refl refl) records (tail_at log image) entries read image both) in
      record {
        extents = extents_still;
        may = inl (record { holds = holds; records = records; between = tail_at log image; stands = both.stands; read = read });
        holds = inl holds;
      }

  pub opening : IsOpening e log entries one image
  opening = elim (cases_eq (gate_at log.place image) OPEN) [
    | inl is_open ↦ by_open is_open
    | inr shut ↦ by_shut shut
  ]

number_some : (log : Log) (o : Option File) (g : File) → o ≡ Some g → ReadsImage o → LogStands log o → log.first + length (list_of log o) ≡ log.next
number_some log None g is reads stands = absurd (cc is)
number_some log (Some h) g is reads stands = (stands h.bytes reads).number

body_some : (log : Log) (one : Entry) (o : Option File) (g : File) → o ≡ Some g → IfSome o (λ f. read_entry log.next (payload_at log.place f.bytes) ≡ Ok one) → read_entry log.next (body_of log o) ≡ Ok one
body_some log one None g is body = absurd (cc is)
body_some log one (Some h) g is body = body

-- an image from before, whose gate was written to
record IsAtGate (e : ExtentState) (log : Log) (records : List (List ℕ)) (between payload image : List ℕ) : Type 0 where
  before : List ℕ
  both : IsBoth e log records between before
  has : HasBody log payload before
  torn : Torn log.place 1 before image

each_gate : (e : ExtentState) (log : Log) (records : List (List ℕ)) (between payload : List ℕ) (o p : Option File) → EachImage (IsBoth e log records between) o → EachImage (HasBody log payload) o
    → KeepsOrAdds log.start log.end log.first payload log.place 1 o p → EachImage (IsAtGate e log records between payload) p
each_gate e log records between payload None p both has keeps = subst (EachImage (IsAtGate e log records between payload)) (sym keeps) tt
each_gate e log records between payload (Some g) p both has keeps =
    each_weakens
    (λ image. (before : List ℕ) × IsImage g before × Torn log.place 1 before image
    × ((log_of log.start log.end log.first image ≡ log_of log.start log.end log.first before) ⊎ (log_of log.start log.end log.first image ≡ log_of log.start log.end log.first before ++ payload ∷ [])))
    (IsAtGate e log records between payload) p
    (λ image b. record { before = b.0; both = both b.0 b.1; has = has b.0 b.1; torn = b.2 }) keeps

module _ (e : ExtentState) (f : LogFields) (log : Log) (entries : List Entry) (one : Entry) (w now : World) (held : IsHeld e f log entries w) (reads : ReadsImage (file_of 1 w))
    (has : HasItsBody log (file_of 1 w)) (is_body : IsBodyOf log one w) (run : Runs 1 (KeepsOrAdds log.start log.end log.first (body_of log (file_of 1 w)) log.place 1 (file_of 1 w)) w now) where
  abbrev list : List (List ℕ)
  list = list_of log (file_of 1 w)

  abbrev tail : List ℕ
  tail = tail_of log (file_of 1 w)

  abbrev body : List ℕ
  body = body_of log (file_of 1 w)

  abbrev AtGate : List ℕ → Type 0
  AtGate = IsAtGate e log list tail body

  gate_run : Runs 1 (EachImage AtGate) w now
  gate_run =
      weakens 1 (KeepsOrAdds log.start log.end log.first body log.place 1 (file_of 1 w)) (EachImage AtGate) w now
      (λ p keeps. each_gate e log list tail body (file_of 1 w) p (both_each e log (file_of 1 w) held.extents held.stands) has keeps) run

  list_more : (g : File) → file_of 1 w ≡ Some g → entries_from log.first log.start (list ++ body ∷ []) ≡ Ok (entries ++ one ∷ [])
  list_more g is =
      read_more body [] log.first log.start list entries one (list_read log entries (file_of 1 w) held.read g is)
      (subst (λ (n : ℕ). read_entry n body ≡ Ok one) (sym (number_some log (file_of 1 w) g is reads held.stands)) (body_some log one (file_of 1 w) g is is_body))

  at_gate : (g : File) → file_of 1 w ≡ Some g → (image : List ℕ) → AtGate image → IsOpening e log entries one image
  at_gate g is image a = opening e f log held.live list tail body entries one a.before image a.both a.has a.torn (list_read log entries (file_of 1 w) held.read g is) (list_more g is)

  pub opening_run : Runs 1 (EachImage (HoldsOrOneMore f.first entries one)) w now
  opening_run =
      told_run AtGate (HoldsOrOneMore f.first entries one) w now
      (λ g is image a. subst (λ (n : ℕ). HoldsOrOneMore n entries one image) held.live.first (at_gate g is image a).holds) gate_run

  told : is_some (file_of 1 now) ≡ is_some (file_of 1 w)
  told = gate_run.only.told now.time gate_run.only.later (omega arith)

  gate_end : EachImage AtGate (file_of 1 now)
  gate_end = run_end 1 (EachImage AtGate) w now gate_run

  extents_end : EachImage (IsFileOf e) (file_of 1 now)
  extents_end = told_each AtGate (IsFileOf e) (file_of 1 w) (file_of 1 now) told (λ g is image a. (at_gate g is image a).extents) gate_end

  pub opening_doubt : IsDoubtful e f (doubtful log) entries now
  opening_doubt = record {
    live = live_like e f log (doubtful log) held.live refl refl refl refl;
    extents = extents_end;
    each = told_each AtGate (MayHaveOneMore (doubtful log) entries) (file_of 1 w) (file_of 1 now) told (λ g is image a. (at_gate g is image a).may) gate_end;
  }

  module _ (new : Log) (same : SameRegion log new) where
    added_read : (p : Option File) → is_some p ≡ is_some (file_of 1 w) → IfSome p (λ h. log_of new.start new.end new.first h.bytes ≡ list ++ body ∷ []) → IfSome p (λ h. log_entries new h.bytes ≡ Ok (entries ++ one ∷ []))
    added_read None here is = tt
    added_read (Some h) here is =
        by_file (file_of 1 w) (log_entries new h.bytes ≡ Ok (entries ++ one ∷ []))
        (λ none. absurd (false≢true (sym (here ∙ ap is_some none))))
        (λ g some.
        ap (entries_from new.first new.start) is ∙ ap (λ (n : ℕ). entries_from n new.start (list ++ body ∷ [])) same.first
        ∙ ap (λ (s : ℕ). entries_from log.first s (list ++ body ∷ [])) same.start ∙ list_more g some)

    pub opening_held : new.in_doubt ≡ false → LogStands new (file_of 1 now) → IfSome (file_of 1 now) (λ h. log_of new.start new.end new.first h.bytes ≡ list ++ body ∷ []) → IsHeld e f new (entries ++ one ∷ []) now
    opening_held usable stands is = record {
      live = live_like e f log new held.live same.file same.start same.end same.first;
      usable = usable;
      extents = extents_end;
      stands = stands;
      read = added_read (file_of 1 now) told is;
    }

-- from the words of the record log
pub opens_one : {T E : Type 0} (e : ExtentState) (f : LogFields) (log new : Log) (entries : List Entry) (one : Entry) (result : Result T E) (w now : World) → IsHeld e f log entries w → ReadsImage (file_of 1 w)
    → HasItsBody log (file_of log.file w) → IsBodyOf log one w → KeepsOrAddsBody log w now → SameRegion log new → OnOk result (IsAdded log new w now) → OnErr result (new ≡ doubtful log) → OpensOne e f new entries one result w now
opens_one e f log new entries one result w now held reads has is_body keeps same ok err =
    let file : log.file ≡ 1 = held.live.log_file in
    let body : HasItsBody log (file_of 1 w) = subst (λ (k : ℕ). HasItsBody log (file_of k w)) file has in
    let run : Runs 1 (KeepsOrAdds log.start log.end log.first (body_of log (file_of 1 w)) log.place 1 (file_of 1 w)) w now =
    subst (λ (k : ℕ). Runs k (KeepsOrAdds log.start log.end log.first (body_of log (file_of k w)) log.place 1 (file_of k w)) w now) file keeps in
    record {
      run = opening_run e f log entries one w now held reads body is_body run;
      added = ok_map result (IsAdded log new w now) (IsHeld e f new (entries ++ one ∷ []) now)
          (λ added.
          opening_held e f log entries one w now held reads body is_body run new same added.usable (subst (λ (k : ℕ). LogStands new (file_of k now)) file added.stands)
          (subst (λ (k : ℕ). IfSome (file_of k now) (λ h. log_of new.start new.end new.first h.bytes ≡ list_of log (file_of k w) ++ body_of log (file_of k w) ∷ [])) file added.list)) ok;
      doubt = err_map result (new ≡ doubtful log) (IsDoubtful e f new entries now)
          (λ is. subst (λ (l : Log). IsDoubtful e f l entries now) (sym is) (opening_doubt e f log entries one w now held reads body is_body run)) err;
    }
  where
    ok_map : {T E : Type 0} (r : Result T E) (P Q : Type 0) → (P → Q) → OnOk r P → OnOk r Q
    ok_map (Ok x) P Q give here = give here
    ok_map (Err e) P Q give here = tt

    err_map : {T E : Type 0} (r : Result T E) (P Q : Type 0) → (P → Q) → OnErr r P → OnErr r Q
    err_map (Ok x) P Q give here = tt
    err_map (Err e) P Q give here = give here

-- what the calls of the record log ask for
pub stands_at_file : (e : ExtentState) (f : LogFields) (log : Log) (entries : List Entry) (w : World) → IsHeld e f log entries w → LogStands log (file_of log.file w)
stands_at_file e f log entries w held = subst (λ (k : ℕ). LogStands log (file_of k w)) (sym held.live.log_file) held.stands

pub same_then : (log mid new : Log) → SameList log mid → SameList mid new → SameList log new
same_then log mid new first second = record {
  file = second.file ∙ first.file;
  start = second.start ∙ first.start;
  end = second.end ∙ first.end;
  first = second.first ∙ first.first;
  place = second.place ∙ first.place;
  next = second.next ∙ first.next;
  in_doubt = second.in_doubt ∙ first.in_doubt;
}

pub written_from : (payload : List ℕ) (log mid new : Log) (now : World) → SameList log mid → IsWritten payload mid new now → IsWritten payload log new now
written_from payload log mid new now same is = record {
  has_body = is.has_body;
  body = subst (λ (k : ℕ). HasItsBody new (file_of k now)) same.file is.body;
  payload_is = subst (λ (k : ℕ). IfTold k now (λ bytes. payload_at new.place bytes ≡ payload)) same.file is.payload_is;
  behind = omega (arith, is.behind, same.place);
}

-- the same of another result that is as good
pub of_err : {T U E D : Type 0} (e : ExtentState) (f : LogFields) (new : Log) (entries : List Entry) (one : Entry) (r : Result T E) (x : E) (y : D) (w now : World) → r ≡ Err x → OpensOne e f new entries one r w now → OpensOne {T = U} e f new entries one (Err y) w now
of_err e f new entries one r x y w now is opens = record {
  run = opens.run;
  added = tt;
  doubt = subst (λ r. OnErr r (IsDoubtful e f new entries now)) is opens.doubt;
}

pub of_ok : {T U E D : Type 0} (e : ExtentState) (f : LogFields) (new : Log) (entries : List Entry) (one : Entry) (r : Result T E) (x : T) (y : U) (w now : World) → r ≡ Ok x → OpensOne e f new entries one r w now → OpensOne {E = D} e f new entries one (Ok y) w now
of_ok e f new entries one r x y w now is opens = record {
  run = opens.run;
  added = subst (λ r. OnOk r (IsHeld e f new (entries ++ one ∷ []) now)) is opens.added;
  doubt = tt;
}

-- What the steps of a commit leave.
use Rattle.std.proofs.Common.{◌≡◌, ◌⊎◌, inl, inr, ℕ, ◌+◌, ◌-◌, ◌≤◌, true, false, List, [], ◌∷◌, ◌++◌, length, Option, Some, None, Ok, refl, sym, ◌∙◌, ap, subst, arith, length-append}
use Rattle.std.specs.Prelude.{is_some, IfSome, IfOk, OnOk, OnErr, Result, Err}
use Rattle.odb_device.specs.World.{File, World, file_of}
use Rattle.odb_device.specs.Images.{EachImage, ReadsImage, TornFrom}
use Rattle.odb_device.specs.Moments.{Runs, WritesWithin}
use Rattle.odb_device.specs.Zeros.{AreZero}
use Rattle.odb_device.proofs.Torn.{each_weakens}
use Rattle.odb_device.proofs.Time.{begins, weakens, joins, run_end}
use Rattle.odb_reclog.specs.Records.{log_of, payload_at}
use Rattle.odb_reclog.specs.Standing.{Log, StandsFor as LogStandsFor, Stands as LogStands, SameRegion, SameList, IsClear, list_of, tail_of, body_of}
use Rattle.odb_reclog.specs.Regions.{WritesBehind, IsAdded}
use Rattle.odb_reclog.specs.Moments.{KeepsLists, KeepsOrAdds}
use Rattle.odb_reclog.proofs.Pieces.{from_then}
use Rattle.odb_codec.specs.Reading.{read_entry}
use Rattle.odb_model.specs.declared.entry.Entry.{Entry}
use Rattle.odb_transdb.specs.declared.header.Header.{Header}
use Rattle.odb_transdb.specs.Header.{active_first}
use Rattle.odb_transdb.specs.Opened.{side_list, Holds, entries_in}
use Rattle.odb_transdb.specs.Kept.{AreKept}
use Rattle.odb_transdb.specs.Standing.{Db, IsDb, HasPlaces, Stands, IsSettledIn}
use Rattle.odb_transdb.specs.Answers.{HoldsAll, HoldsAllOrMore}
use Rattle.odb_transdb.specs.Steps.{IsWritten}
use Rattle.odb_transdb.specs.Worlds.{KeepsOrAddsEntry, WritesBehindGate, RewritesTail}
use Rattle.odb_transdb.specs.Leaving.{MovesOn}
use Rattle.odb_transdb.proofs.Opened.{Has, has_holds}
use Rattle.odb_transdb.proofs.Sides.{IsInside, has_more}
use Rattle.odb_transdb.proofs.Kept.{steps_more, steps_same}
use Rattle.odb_transdb.proofs.Standing.{log_list, stands_has, stands_pair, stands_log, stands_live, has_all, entries_read, entries_same, stands_made, pair_stays, adds_torn, with_active, stands_settled, settled_with, is_db_with, side_with, region_of, low_active, live_kept, live_stays, keeps_torn, keeps_has, adds_has, keeps_stands}

-- where there is room for a record it lies inside the active side
abbrev pub HasRoom : Db → Type 0
HasRoom db = db.active.place + 13 ≤ db.active.end

place_inside : (db : Db) (f : File) → Stands db (Some f) → ReadsImage (Some f) → db.active.start ≤ db.active.place
place_inside db f stands reads = (stands.0 f.bytes reads).in_range.start

inside_behind : (db : Db) → IsDb db → HasRoom db → db.active.start ≤ db.active.place → IsInside db.header db.header.active (db.active.place + 1) (db.active.end - (db.active.place + 1))
inside_behind db is room low = record { low = omega (arith, is.active.start); high = omega (arith, is.active.end) }

inside_gate : (db : Db) → IsDb db → HasRoom db → db.active.start ≤ db.active.place → IsInside db.header db.header.active db.active.place 1
inside_gate db is room low = record { low = omega (arith, is.active.start); high = omega (arith, is.active.end) }

abbrev pub KeepsBehind : Log → Option File → Option File → Type 0
KeepsBehind log = KeepsLists log.start log.end log.first (log.place + 1) (log.end - (log.place + 1))

-- writes behind the gate
module _ (db : Db) (is : IsDb db) (room : HasRoom db) where
  behind_has : (o p : Option File) → Stands db o → ReadsImage o → KeepsBehind db.active o p → EachImage (Has db.header (entries_in o)) p
  behind_has None p stands reads keeps = subst (EachImage (Has db.header [])) (sym keeps) tt
  behind_has (Some f) p stands reads keeps =
      keeps_has db is (db.active.place + 1) (db.active.end - (db.active.place + 1)) (inside_behind db is room (place_inside db f stands reads)) (entries_in (Some f)) (Some f) p keeps (stands_has db (Some f) stands)

  behind_stands : (log : Log) (o p : Option File) → Stands db o → ReadsImage o → KeepsBehind db.active o p → is_some p ≡ is_some o → ReadsImage p → LogStands log p → SameList db.active log → Stands (with_active db log) p
  behind_stands log None p stands before keeps told reads active same = subst (Stands (with_active db log)) (sym keeps) (settled_with db log stands)
  behind_stands log (Some f) p stands before keeps told reads active same =
      keeps_stands db is (db.active.place + 1) (db.active.end - (db.active.place + 1)) (inside_behind db is room (place_inside db f stands before)) log (Some f) p stands keeps told reads active same

  module _ (w now : World) (stands : Stands db (file_of 0 w)) (before : ReadsImage (file_of 0 w)) (run : Runs 0 (KeepsBehind db.active (file_of 0 w)) w now) where
    pub behind_run : Runs 0 (HoldsAll db (entries_in (file_of 0 w))) w now
    behind_run =
        let o = file_of 0 w in
        weakens 0 (KeepsBehind db.active o) (HoldsAll db (entries_in o)) w now (λ p keeps. has_all db.header (entries_in o) p (behind_has o p stands before keeps)) run

    module _ (log : Log) (reads : ReadsImage (file_of 0 now)) (active : LogStands log (file_of 0 now)) (same : SameList db.active log) where
      pub behind_settled : db.active.in_doubt ≡ false → IsSettledIn (file_of 0 w) (file_of 0 now) db (with_active db log)
      behind_settled usable =
          let told = run.only.told now.time run.only.later (omega arith) in
          let keeps = run_end 0 (KeepsBehind db.active (file_of 0 w)) w now run in
          record {
            stands = behind_stands log (file_of 0 w) (file_of 0 now) stands before keeps told reads active same;
            entries = entries_same db.header (file_of 0 w) (file_of 0 now) told reads (behind_has (file_of 0 w) (file_of 0 now) stands before keeps);
            header = refl;
            next = same.next;
            place = same.place;
            usable = same.in_doubt ∙ usable;
          }

pub behind_db : (db : Db) (log : Log) → SameList db.active log → IsDb db → IsDb (with_active db log)
behind_db db log same is = is_db_with db log (region_of db.active log same) (omega (arith, same.place)) (omega (arith, same.next)) is

pub behind_room : (db : Db) (log : Log) → SameList db.active log → HasRoom db → HasRoom (with_active db log)
behind_room db log same room = omega (arith, same.end, same.place)

-- one part behind another, of which each settles
pub settled_then : (a b c : Option File) (x y z : Db) → IsSettledIn a b x y → IsSettledIn b c y z → IsSettledIn a c x z
settled_then a b c x y z first second = record {
  stands = second.stands;
  entries = second.entries ∙ first.entries;
  header = second.header ∙ first.header;
  next = second.next ∙ first.next;
  place = second.place ∙ first.place;
  usable = second.usable;
}

pub holds_then : (x y : Db) (w mid now : World) → IsSettledIn (file_of 0 w) (file_of 0 mid) x y → Runs 0 (HoldsAll x (entries_in (file_of 0 w))) w mid → Runs 0 (HoldsAll y (entries_in (file_of 0 mid))) mid now
    → Runs 0 (HoldsAll x (entries_in (file_of 0 w))) w now
holds_then x y w mid now settled first second =
    joins 0 (HoldsAll x (entries_in (file_of 0 w))) w mid now first
    (subst (λ (l : List Entry). Runs 0 (EachImage (Holds x.header l)) mid now) settled.entries (subst (λ (h : Header). Runs 0 (EachImage (Holds h (entries_in (file_of 0 mid)))) mid now) settled.header second))

-- where nothing is written the entries stay
pub still_holds : (db : Db) (e : Entry) (w : World) → Stands db (file_of 0 w) → KeepsOrAddsEntry db e w w
still_holds db e w stands =
    let o = file_of 0 w in
    let es = entries_in o in
    begins 0 (HoldsAllOrMore db es e) w (either db.header es (es ++ e ∷ []) o (has_all db.header es o (stands_has db o stands)))
  where
    either : (h : Header) (es more : List Entry) (o : Option File) → EachImage (Holds h es) o → EachImage (λ image. Holds h es image ⊎ Holds h more image) o
    either h es more o holds = each_weakens (Holds h es) (λ image. Holds h es image ⊎ Holds h more image) o (λ image one. inl one) holds

-- the gate isn't written in one part, nor in the next
pub gate_then : (db : Db) (w mid now : World) → WritesBehindGate db w mid → WritesBehindGate db mid now → WritesBehindGate db w now
gate_then db w mid now first second =
    let at = db.active.place + 1 in
    let n = db.active.end - at in
    let P = TornFrom at n (file_of 0 w) in
    joins 0 P w mid now first
    (weakens 0 (TornFrom at n (file_of 0 mid)) P mid now (λ o torn. from_then at n (file_of 0 w) (file_of 0 mid) o (run_end 0 P w mid first) torn) second)

gate_same : (db : Db) (log : Log) (w now : World) → SameList db.active log → WritesBehindGate (with_active db log) w now → WritesBehindGate db w now
gate_same db log w now same run =
    subst (λ (k : ℕ). WritesWithin 0 (k + 1) (db.active.end - (k + 1)) w now) same.place
    (subst (λ (k : ℕ). WritesWithin 0 (log.place + 1) (k - (log.place + 1)) w now) same.end run)

-- a state from which such calls are made
pub record IsReady (db : Db) (w : World) : Type 0 where
  pub is : IsDb db
  pub room : HasRoom db
  pub usable : db.active.in_doubt ≡ false
  pub stands : Stands db (file_of 0 w)
  pub reads : ReadsImage (file_of 0 w)

module _ (db : Db) (log : Log) (w now : World) (ready : IsReady db w) (left : WritesBehind db.active log w now) where
  its_run : Runs 0 (KeepsBehind db.active (file_of 0 w)) w now
  its_run = subst (λ (k : ℕ). Runs k (KeepsBehind db.active (file_of k w)) w now) ready.is.active.file left.run

  pub step_gate : WritesBehindGate db w now
  step_gate =
      let at = db.active.place + 1 in
      let n = db.active.end - at in
      weakens 0 (KeepsBehind db.active (file_of 0 w)) (TornFrom at n (file_of 0 w)) w now
      (λ o keeps. keeps_torn db.active.start db.active.end db.active.first at n (file_of 0 w) o keeps) its_run

  -- a clear tail is zeros on the disk
  step_cleared : IsClear log → EachImage (AreZero (db.active.place + 1) db.active.end) (file_of 0 now)
  step_cleared clear =
      let o = file_of db.active.file now in
      let from : log.clear_from ≤ db.active.place + 1 = omega (arith, clear, left.same.place) in
      subst (λ (k : ℕ). EachImage (AreZero (db.active.place + 1) db.active.end) (file_of k now)) ready.is.active.file
      (each_weakens (LogStandsFor log (list_of log o) (tail_of log o)) (AreZero (db.active.place + 1) db.active.end) o
      (λ image one. λ i low high. one.clear i (omega (arith, from, low)) (omega (arith, left.same.end, high))) left.stands)

  pub step_run : Runs 0 (HoldsAll db (entries_in (file_of 0 w))) w now
  step_run = behind_run db ready.is ready.room w now ready.stands ready.reads its_run

  module _ (reads : ReadsImage (file_of 0 now)) where
    pub step_settled : IsSettledIn (file_of 0 w) (file_of 0 now) db (with_active db log)
    step_settled =
        behind_settled db ready.is ready.room w now ready.stands ready.reads its_run log reads (subst (λ (k : ℕ). LogStands log (file_of k now)) ready.is.active.file left.stands) left.same ready.usable

    pub step_ready : IsReady (with_active db log) now
    step_ready = record {
      is = behind_db db log left.same ready.is;
      room = behind_room db log left.same ready.room;
      usable = step_settled.usable;
      stands = step_settled.stands;
      reads = reads;
    }

-- two such calls
module _ (db : Db) (first second : Log) (w mid now : World) (ready : IsReady db w) (one : WritesBehind db.active first w mid) (reads : ReadsImage (file_of 0 mid)) (two : WritesBehind first second mid now) where
  middle : IsReady (with_active db first) mid
  middle = step_ready db first w mid ready one reads

  second_gate : WritesBehindGate db mid now
  second_gate = gate_same db first mid now one.same (step_gate (with_active db first) second mid now middle two)

  pub steps_gate : WritesBehindGate db w now
  steps_gate = gate_then db w mid now (step_gate db first w mid ready one) second_gate

  pub steps_tail : IsClear first → RewritesTail db w now
  steps_tail clear = record {
    mid = mid;
    clears = step_gate db first w mid ready one;
    cleared = step_cleared db first w mid ready one clear;
    writes = second_gate;
  }

  pub steps_run : Runs 0 (HoldsAll db (entries_in (file_of 0 w))) w now
  steps_run = holds_then db (with_active db first) w mid now (step_settled db first w mid ready one reads) (step_run db first w mid ready one) (step_run (with_active db first) second mid now middle two)

  pub steps_settled : ReadsImage (file_of 0 now) → IsSettledIn (file_of 0 w) (file_of 0 now) db (with_active db second)
  steps_settled after =
      settled_then (file_of 0 w) (file_of 0 mid) (file_of 0 now) db (with_active db first) (with_active db second) (step_settled db first w mid ready one reads)
      (step_settled (with_active db first) second mid now middle two after)

-- the gate is opened, or perhaps not
abbrev pub OpensGate : Log → World → World → Type 0
OpensGate log w now = Runs 0 (KeepsOrAdds log.start log.end log.first (body_of log (file_of 0 w)) log.place 1 (file_of 0 w)) w now

module _ (db : Db) (is : IsDb db) (room : HasRoom db) (w now : World) (stands : Stands db (file_of 0 w)) (before : ReadsImage (file_of 0 w)) (run : OpensGate db.active w now) (e : Entry) (written : IsWritten db e (file_of 0 w)) where
  opens_has : (o p : Option File) → Stands db o → ReadsImage o → IsWritten db e o → KeepsOrAdds db.active.start db.active.end db.active.first (body_of db.active o) db.active.place 1 o p
      → EachImage (λ image. Has db.header (entries_in o) image ⊎ Has db.header (entries_in o ++ e ∷ []) image) p
  opens_has None p stands reads written adds = subst (EachImage (λ image. Has db.header [] image ⊎ Has db.header ([] ++ e ∷ []) image)) (sym adds) tt
  opens_has (Some f) p stands reads written adds =
      adds_has db is db.active.place 1 (inside_gate db is room (place_inside db f stands reads)) (payload_at db.active.place f.bytes) e (entries_in (Some f)) (Some f) p (stands_log db (Some f) stands) written adds (stands_has db (Some f) stands)

  pub gate_run : Runs 0 (HoldsAllOrMore db (entries_in (file_of 0 w)) e) w now
  gate_run =
      let o = file_of 0 w in
      weakens 0 (KeepsOrAdds db.active.start db.active.end db.active.first (body_of db.active o) db.active.place 1 o) (HoldsAllOrMore db (entries_in o) e) w now
      (λ p adds.
      each_weakens (λ image. Has db.header (entries_in o) image ⊎ Has db.header (entries_in o ++ e ∷ []) image)
      (λ image. Holds db.header (entries_in o) image ⊎ Holds db.header (entries_in o ++ e ∷ []) image) p
      (λ image has. elim has [
        | inl old ↦ inl (has_holds db.header (entries_in o) image old)
        | inr more ↦ inr (has_holds db.header (entries_in o ++ e ∷ []) image more)
      ])
      (opens_has o p stands before written adds)) run

  -- it is open
  module _ (log : Log) (reads : ReadsImage (file_of 0 now)) (active : LogStands log (file_of 0 now)) (same : SameRegion db.active log)
      (list : IfSome (file_of 0 now) (λ f. log_of log.start log.end log.first f.bytes ≡ list_of db.active (file_of 0 w) ++ body_of db.active (file_of 0 w) ∷ [])) (next : log.next ≡ db.active.next + 1) where
    list_by : (bytes : List ℕ) → log_of log.start log.end log.first bytes ≡ side_list db.header db.header.active bytes
    list_by bytes = log_list db.header db.header.active log bytes (side_with db.header db.header.active db.active log same is.active)

    open_has : (o p : Option File) → Stands db o → ReadsImage o → IsWritten db e o → LogStands log p → IfSome p (λ f. log_of log.start log.end log.first f.bytes ≡ list_of db.active o ++ body_of db.active o ∷ [])
        → TornFrom db.active.place 1 o p → EachImage (Has db.header (entries_in o ++ e ∷ [])) p
    open_has None p stands old_reads written active list torn = subst (EachImage (Has db.header ([] ++ e ∷ []))) (sym torn) tt
    open_has (Some f) None stands old_reads written active list torn = tt
    open_has (Some f) (Some g) stands old_reads written active list torn = λ image one.
        let b = torn image one in
        let inside = inside_gate db is room (place_inside db f stands old_reads) in
        let before = stands_log db (Some f) stands b.0 b.1 in
        let payload = payload_at db.active.place f.bytes in
        let its_list = log_list db.header db.header.active db.active b.0 is.active in
        let number : db.active.next ≡ active_first db.header + length (side_list db.header db.header.active b.0) =
        sym before.number ∙ ap (λ (l : List (List ℕ)). db.active.first + length l) (sym before.list ∙ its_list) ∙ ap (λ (k : ℕ). k + length (side_list db.header db.header.active b.0)) is.active.first in
        has_more db.header payload e (entries_in (Some f)) db.active.place 1 b.0 image (low_active db is db.active.place 1 inside) inside b.2
        (sym (list_by image) ∙ (active image one).list ∙ list ∙ ap (λ (l : List (List ℕ)). l ++ payload ∷ []) (sym before.list ∙ its_list))
        (subst (λ (k : ℕ). read_entry k payload ≡ Ok e) number written) (stands_has db (Some f) stands b.0 b.1)

    gate_torn : TornFrom db.active.place 1 (file_of 0 w) (file_of 0 now)
    gate_torn =
        adds_torn db.active.start db.active.end db.active.first (body_of db.active (file_of 0 w)) db.active.place 1 (file_of 0 w) (file_of 0 now)
        (run_end 0 (KeepsOrAdds db.active.start db.active.end db.active.first (body_of db.active (file_of 0 w)) db.active.place 1 (file_of 0 w)) w now run)

    gate_has : EachImage (Has db.header (entries_in (file_of 0 w) ++ e ∷ [])) (file_of 0 now)
    gate_has = open_has (file_of 0 w) (file_of 0 now) stands before written active list gate_torn

    pub gate_entries : IfSome (file_of 0 now) (λ f. entries_in (Some f) ≡ entries_in (file_of 0 w) ++ e ∷ [])
    gate_entries = of_now (file_of 0 now) reads gate_has
      where
        of_now : (p : Option File) → ReadsImage p → EachImage (Has db.header (entries_in (file_of 0 w) ++ e ∷ [])) p → IfSome p (λ f. entries_in (Some f) ≡ entries_in (file_of 0 w) ++ e ∷ [])
        of_now None reads has = tt
        of_now (Some g) reads has = entries_read db.header (entries_in (file_of 0 w) ++ e ∷ []) g reads has

    -- the places kept are those of a list with one more
    opened_places : (o p : Option File) → Stands db o → IfSome p (λ g. IfSome db.live (λ l. AreKept l db.live_places (Some g))) → IfSome p (λ g. log_of log.start log.end log.first g.bytes ≡ list_of db.active o ++ body_of db.active o ∷ [])
        → TornFrom db.active.place 1 o p → IfSome p (λ g. HasPlaces (with_active db log) (Some g))
    opened_places o None stands live list torn = tt
    opened_places None (Some g) stands live list torn = absurd (cc torn)
    opened_places (Some f) (Some g) stands live list torn =
        let old = list_of db.active (Some f) in
        let more = body_of db.active (Some f) ∷ [] in
        (steps_same db.active.start log.start (old ++ more) (list_of log (Some g)) db.places same.start list (steps_more db.active.start old more db.places stands.5.0), live)

    pub gate_stands : Stands (with_active db log) (file_of 0 now)
    gate_stands = of_old (file_of 0 w) stands before gate_torn gate_has list
      where
        of_old : (o : Option File) → Stands db o → ReadsImage o → TornFrom db.active.place 1 o (file_of 0 now) → EachImage (Has db.header (entries_in o ++ e ∷ [])) (file_of 0 now)
            → IfSome (file_of 0 now) (λ g. log_of log.start log.end log.first g.bytes ≡ list_of db.active o ++ body_of db.active o ∷ []) → Stands (with_active db log) (file_of 0 now)
        of_old None stands old_reads torn has list = subst (Stands (with_active db log)) (sym torn) (settled_with db log stands)
        of_old (Some f) stands old_reads torn has list =
            let inside = inside_gate db is room (place_inside db f stands old_reads) in
            let far : 1024 ≤ db.active.place = omega (arith, inside.low) in
            stands_made (with_active db log) (entries_in (Some f) ++ e ∷ []) (file_of 0 now) reads active
            (live_stays db is db.active.place 1 inside (Some f) (file_of 0 now) (stands_live db (Some f) stands) torn reads)
            (pair_stays db.pair db.active.place 1 (Some f) (file_of 0 now) far (stands_pair db (Some f) stands) torn) has
            (omega (arith, stands.3, next, length-append (entries_in (Some f)) (e ∷ []))) (settled_with db log (stands_settled db (Some f) stands))
            (opened_places (Some f) (file_of 0 now) stands (live_kept db is db.active.place 1 inside (Some f) (file_of 0 now) (stands_live db (Some f) stands) torn reads stands.5.1) list torn)

-- whatever it leaves, no other byte than the gate has changed
pub opening_only : (db : Db) (w now : World) → IsDb db
    → Runs db.active.file (KeepsOrAdds db.active.start db.active.end db.active.first (body_of db.active (file_of db.active.file w)) db.active.place 1 (file_of db.active.file w)) w now
    → Runs 0 (TornFrom db.active.place 1 (file_of 0 w)) w now
opening_only db w now is run =
    let file = db.active.file in
    let payload = body_of db.active (file_of file w) in
    subst (λ (k : ℕ). Runs k (TornFrom db.active.place 1 (file_of k w)) w now) is.active.file
    (weakens file (KeepsOrAdds db.active.start db.active.end db.active.first payload db.active.place 1 (file_of file w)) (TornFrom db.active.place 1 (file_of file w)) w now
    (λ p adds. adds_torn db.active.start db.active.end db.active.first payload db.active.place 1 (file_of file w) p adds) run)

-- what holds after Ok by a fact that holds then
pub ok_then : {T E : Type 0} (A B : Type 0) (r : Result T E) → (A → B) → OnOk r A → OnOk r B
ok_then A B (Ok x) gives a = gives a
ok_then A B (Err e) gives a = tt

-- what the log's call that opens a gate leaves
module _ (db : Db) (log : Log) (w now : World) (ready : IsReady db w) (run : Runs db.active.file (KeepsOrAdds db.active.start db.active.end db.active.first (body_of db.active (file_of db.active.file w)) db.active.place 1 (file_of db.active.file w)) w now)
    (e : Entry) (written : IsWritten db e (file_of 0 w)) where
  at_zero : OpensGate db.active w now
  at_zero = subst (λ (k : ℕ). Runs k (KeepsOrAdds db.active.start db.active.end db.active.first (body_of db.active (file_of k w)) db.active.place 1 (file_of k w)) w now) ready.is.active.file run

  pub opening_run : Runs 0 (HoldsAllOrMore db (entries_in (file_of 0 w)) e) w now
  opening_run = gate_run db ready.is ready.room w now ready.stands ready.reads at_zero e written

  abbrev pub HasList : ℕ → Type 0
  HasList k = IfSome (file_of k now) (λ f. log_of log.start log.end log.first f.bytes ≡ list_of db.active (file_of k w) ++ body_of db.active (file_of k w) ∷ [])

  module _ (reads : ReadsImage (file_of 0 now)) (same : SameRegion db.active log) (active : LogStands log (file_of db.active.file now)) (list : HasList db.active.file) (next : log.next ≡ db.active.next + 1) where
    pub opening_entries : IfSome (file_of 0 now) (λ f. entries_in (Some f) ≡ entries_in (file_of 0 w) ++ e ∷ [])
    opening_entries =
        gate_entries db ready.is ready.room w now ready.stands ready.reads at_zero e written log reads (subst (λ (k : ℕ). LogStands log (file_of k now)) ready.is.active.file active) same (subst HasList ready.is.active.file list) next

    pub opening_stands : Stands (with_active db log) (file_of 0 now)
    opening_stands =
        gate_stands db ready.is ready.room w now ready.stands ready.reads at_zero e written log reads (subst (λ (k : ℕ). LogStands log (file_of k now)) ready.is.active.file active) same (subst HasList ready.is.active.file list) next

-- where it goes on
pub moves_on : {E : Type 0} (r : Result ℕ E) (old new : Log) (w now : World) → IfOk r (λ n. n ≡ old.next) → OnOk r (IsAdded old new w now) → IfOk r (λ n. MovesOn n old new)
moves_on (Ok n) old new w now number added = record { number_is = number; next = added.next; place = added.place; usable = added.usable }
moves_on (Err e) old new w now number added = tt

-- the log goes on no earlier than before
pub gate_moves : {T E : Type 0} (old new : Log) (w now : World) (r : Result T E) → old.place ≤ old.clear_from → OnOk r (IsAdded old new w now) → OnErr r (new ≡ record old { in_doubt = true })
    → (old.place ≤ new.place) × (old.next ≤ new.next)
gate_moves old new w now (Ok x) behind added same = (omega (arith, added.place), omega (arith, added.next))
gate_moves old new w now (Err e) behind added same = (omega (arith, ap (λ (l : Log). l.place) same), omega (arith, ap (λ (l : Log). l.next) same))

pub gate_db : {T E : Type 0} (db : Db) (new : Log) (w now : World) (r : Result T E) → IsDb db → SameRegion db.active new → db.active.place ≤ db.active.clear_from → OnOk r (IsAdded db.active new w now)
    → OnErr r (new ≡ record db.active { in_doubt = true }) → IsDb (with_active db new)
gate_db db new w now r is same behind added err = let moves = gate_moves db.active new w now r behind added err in is_db_with db new same moves.0 moves.1 is

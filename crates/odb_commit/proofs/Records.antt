-- How the records of a history fill the log.
use Rattle.std.proofs.Common.{◌≡◌, ℕ, ◌+◌, ◌-◌, ◌≤◌, ◌==◌, Bool, true, false, List, [], ◌∷◌, ◌++◌, length, drop, refl, sym, ap, ◌∙◌, arith, length-append, add_comm}
use Rattle.std.specs.Prelude.{if◌then◌else◌}
use Rattle.std.proofs.lemmas.List.{drop-append-le, drop_all}
use Rattle.std.proofs.lemmas.List.Sums.{sum_by-append, sum_by-cons}
use Rattle.odb_device.specs.World.{World}
use Rattle.odb_reclog.specs.Standing.{Log}
use Rattle.odb_model.specs.declared.entry.Entry.{Entry}
use Rattle.odb_model.specs.State.{IsHistory}
use Rattle.odb_model.specs.declared.side.OtherSide.TheVariants.{Live}
use Rattle.odb_machine.specs.Sides.{Sides, room_left, active_first as first_of_active, turned as turned_sides}
use Rattle.odb_model.specs.Width.{entry_width, record_width, records_width}
use Rattle.odb_model.proofs.Longer.{IsNumberedFrom-snoc}
use Rattle.odb_transdb.specs.declared.header.Header.{Header}
use Rattle.odb_transdb.specs.Header.{side_size, side_start, active_first, turned}
use Rattle.odb_transdb.specs.Standing.{Db, IsPlaced, AreAlikePlaced, IsAdvanced, room_of}
use Rattle.odb_transdb.specs.Turning.{SameSides, IsTurned}
use Rattle.odb_commit.specs.Standing.{sides_of, Fills}
use Rattle.odb_commit.specs.Sealing.{IsStill}
use Rattle.odb_commit.proofs.Sealed.{placed_same}

-- the room of a log is what the records of the history leave of the active side
pub room_agrees : (db : Db) (h : List Entry) → Fills db h → room_of db ≡ room_left (sides_of db.header) h
room_agrees db h fills =
    let end : db.active.end ≡ db.active.start + side_size db.header = fills.placed.side.end ∙ ap (λ n. n + side_size db.header) (sym fills.placed.side.start) in
    let filled : records_width (drop (first_of_active (sides_of db.header) - 1) h) ≡ db.active.place - db.active.start = fills.filled in
    omega (arith, end, filled, fills.placed.place)

-- a history with its next entry is one
pub history_grows : (h : List Entry) (e : Entry) → IsHistory h → e.number ≡ length h + 1 → IsHistory (h ++ e ∷ [])
history_grows h e numbered next = IsNumberedFrom-snoc 1 h e numbered (next ∙ add_comm (length h) 1)

records_more : (k : ℕ) (h : List Entry) (e : Entry) → k ≤ length h → records_width (drop k (h ++ e ∷ [])) ≡ records_width (drop k h) + record_width e
records_more k h e within =
    ap records_width (drop-append-le k h (e ∷ []) within) ∙ sum_by-append record_width (drop k h) (e ∷ [])
    ∙ ap (λ n. records_width (drop k h) + n) (sum_by-cons record_width e [] ∙ omega arith)

-- both regions are the active side of one header
starts_same : (db new : Db) → AreAlikePlaced db new → new.active.start ≡ db.active.start
starts_same db new alike = alike.after.side.start ∙ ap (λ (h : Header). side_start h h.active) alike.header ∙ sym alike.before.side.start

-- behind the record of an entry the log goes on
pub fills_more : (db new : Db) (h : List Entry) (e : Entry) → Fills db h → AreAlikePlaced db new → IsAdvanced (13 + entry_width e) db new → Fills new (h ++ e ∷ [])
fills_more db new h e fills alike on =
    let start : new.active.start ≡ db.active.start = starts_same db new alike in
    let within : active_first db.header - 1 ≤ length h = omega (arith, fills.placed.from, fills.next) in
    record {
      next = omega (arith, length-append h (e ∷ []), fills.next, on.next);
      filled = ap (λ (x : Header). records_width (drop (active_first x - 1) (h ++ e ∷ []))) alike.header ∙ records_more (active_first db.header - 1) h e within
          ∙ omega (arith, fills.filled, fills.placed.place, on.place, start);
      placed = alike.after;
    }

-- and without one behind the same history
pub fills_again : (db new : Db) (h : List Entry) → Fills db h → AreAlikePlaced db new → IsStill db new → Fills new h
fills_again db new h fills alike still = record {
  next = fills.next ∙ sym still.next;
  filled = ap (λ (x : Header). records_width (drop (active_first x - 1) h)) alike.header ∙ fills.filled
      ∙ omega (arith, still.place, starts_same db new alike);
  placed = alike.after;
}

-- so where the pair alone is another
pub fills_same : (db new : Db) (h : List Entry) → Fills db h → SameSides db new → Fills new h
fills_same db new h fills same = record {
  next = fills.next ∙ sym (ap (λ (l : Log). l.next) same.active);
  filled = ap (λ (x : Header). records_width (drop (active_first x - 1) h)) same.header ∙ fills.filled ∙ sym (ap (λ (l : Log). l.place - l.start) same.active);
  placed = placed_same db new same fills.placed;
}

-- and behind a turn, where the active side has no record yet
pub fills_turned : (db new : Db) (h : List Entry) (after : World) → Fills db h → IsTurned db new after → IsPlaced new → Fills new h
fills_turned db new h after fills turned placed =
    let begins : new.active.next ≡ db.active.next = ap (λ (l : Log). l.next) turned.active in
    let first : active_first new.header ≡ db.active.next = sym placed.side.first ∙ ap (λ (l : Log). l.first) turned.active in
    let empty : new.active.place ≡ new.active.start = ap (λ (l : Log). l.place) turned.active ∙ sym (ap (λ (l : Log). l.start) turned.active) in
    let none : drop (active_first new.header - 1) h ≡ [] = drop_all (active_first new.header - 1) h (omega (arith, first, fills.next)) in
    record {
      next = fills.next ∙ sym begins;
      filled = ap records_width none ∙ omega (arith, empty);
      placed = placed;
    }

-- the sides that a turned header has
abbrev sides_if : Bool → ℕ → Header → Sides
sides_if c n h = record { side_size = side_size h; active = if c then 1 else 0; other = Live; first0 = if c then h.first0 else n; first1 = if c then n else h.first1 }

pub sides_turned : (n : ℕ) (h : Header) → sides_of (turned n h) ≡ turned_sides n (sides_of h)
sides_turned n h = by (h.active == 0)
  where
    by : (c : Bool) → sides_if c n h ≡ (if c then record (sides_of h) { active = 1; other = Live; first1 = n } else record (sides_of h) { active = 0; other = Live; first0 = n })
    by true = refl
    by false = refl

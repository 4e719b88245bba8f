-- From what a Live log is known to hold to its standing for the file, and back.
use Rattle.std.proofs.Common.{◌≡◌, inl, inr, ℕ, ◌+◌, ◌≤◌, false, List, [], ◌∷◌, ◌++◌, length, take, Option, Some, None, Ok, sym, ◌∙◌, ap, subst, arith, length-append}
use Rattle.std.specs.Prelude.{IfSome}
use Rattle.std.proofs.lemmas.List.{take_all, take-append-le}
use Rattle.odb_device.specs.World.{File, World, file_of}
use Rattle.odb_device.specs.Images.{EachImage, ReadsImage}
use Rattle.odb_extent.specs.Standing.{ExtentState, IsFileOf}
use Rattle.odb_reclog.specs.Records.{log_of}
use Rattle.odb_reclog.specs.Standing.{Log, Stands as LogStands}
use Rattle.odb_entries.specs.Listed.{entries_from, log_entries}
use Rattle.odb_entries.proofs.Entries.{count_read}
use Rattle.odb_model.specs.declared.entry.Entry.{Entry}
use Rattle.odb_logdb.specs.declared.fields.LogFields.{LogFields}
use Rattle.odb_logdb.specs.declared.state.ListState.{ListState}
use Rattle.odb_logdb.specs.declared.state.ListState.TheVariants.{Known, Unknown}
use Rattle.odb_logdb.specs.Opened.{Holds, entries_of, entries_in}
use Rattle.odb_logdb.specs.Standing.{LogState, IsLogdb, IsKnown, IsRegionOf, IsInState, MayHaveOneMore, HoldsBy, StandsFor, StandsIn, Stands, count_of, held}
use Rattle.odb_logdb.specs.Adding.{IsLive, IsHeld, IsDoubtful}
use Rattle.odb_logdb.proofs.Added.{holds_now}

-- a log's parts and its state
abbrev pub log_with : ExtentState → LogFields → Log → ListState → LogState
log_with e f log state = record { extents = e; fields = f; log = log; state = state }

-- what the region's facts say of its parts
pub live_of : (l : LogState) → IsLogdb l → IsRegionOf l → IsLive l.extents l.fields l.log
live_of l is region = record {
  file = is.file;
  most = is.most;
  sound = is.sound;
  fields = is.fields;
  alike = region.alike;
  live = region.live;
  log_file = is.log_file;
  first = is.first;
  start = region.start;
  end = region.end;
}

region_of : (e : ExtentState) (f : LogFields) (log : Log) (state : ListState) → IsLive e f log → IsRegionOf (log_with e f log state)
region_of e f log state live = record { live = live.live; alike = live.alike; start = live.start; end = live.end }

pub known_is : (e : ExtentState) (f : LogFields) (log : Log) → IsLive e f log → log.in_doubt ≡ false → IsLogdb (log_with e f log Known)
known_is e f log live usable = record {
  file = live.file;
  most = live.most;
  sound = live.sound;
  fields = live.fields;
  log_file = live.log_file;
  first = live.first;
  in_state = record { region = region_of e f log Known live; usable = usable };
}

pub unknown_is : (e : ExtentState) (f : LogFields) (log : Log) → IsLive e f log → IsLogdb (log_with e f log Unknown)
unknown_is e f log live = record {
  file = live.file;
  most = live.most;
  sound = live.sound;
  fields = live.fields;
  log_file = live.log_file;
  first = live.first;
  in_state = region_of e f log Unknown live;
}

-- the entries that bytes hold are those that are held
entries_hold : (first : ℕ) (entries : List Entry) (g : File) → Holds first entries g.bytes → entries_in (Some g) ≡ entries
entries_hold first entries g holds = ap entries_of holds

module _ (e : ExtentState) (f : LogFields) (log : Log) (entries : List Entry) (w : World) (h : IsHeld e f log entries w) (reads : ReadsImage (file_of 1 w)) where
  abbrev known : LogState
  known = log_with e f log Known

  count_known : (g : File) → ReadsImage (Some g) → LogStands log (Some g) → log_entries log g.bytes ≡ Ok entries → length entries ≡ count_of known
  count_known g r stands read =
      let number = (stands g.bytes r).number in
      omega (arith, count_read log.first log.start (log_of log.start log.end log.first g.bytes) entries read, number, h.live.first)

  held_known : (g : File) → ReadsImage (Some g) → EachImage (Holds f.first entries) (Some g) → LogStands log (Some g) → log_entries log g.bytes ≡ Ok entries → held known (Some g) ≡ entries
  held_known g r holds stands read =
      ap (take (count_of known)) (entries_hold f.first entries g (holds g.bytes r)) ∙ take_all (count_of known) entries (omega (arith, count_known g r stands read))

  in_known : (g : File) → ReadsImage (Some g) → EachImage (Holds f.first entries) (Some g) → EachImage (IsFileOf e) (Some g) → LogStands log (Some g) → log_entries log g.bytes ≡ Ok entries → StandsIn known g
  in_known g r holds extents stands read =
      let same = held_known g r holds stands read in
      record {
        each = λ image im.
            let s = stands image im in
            subst (λ (l : List Entry). StandsFor known l image) (sym same) (record {
              extents = extents image im;
              long = omega (arith, s.long, h.live.end);
              holds = (holds image im, ap (entries_from log.first log.start) s.list ∙ read);
            });
        count = ap length same ∙ count_known g r stands read;
        log = λ is. stands;
      }

  by_known : (o : Option File) → ReadsImage o → EachImage (Holds f.first entries) o → EachImage (IsFileOf e) o → LogStands log o → IfSome o (λ g. log_entries log g.bytes ≡ Ok entries) → Stands known o
  by_known None r holds extents stands read = tt
  by_known (Some g) r holds extents stands read = in_known g r holds extents stands read

  pub known_stands : Stands known (file_of 1 w)
  known_stands = by_known (file_of 1 w) reads (holds_now e f log entries w h) h.extents h.stands h.read

  by_held : (o : Option File) → ReadsImage o → EachImage (Holds f.first entries) o → LogStands log o → IfSome o (λ g. log_entries log g.bytes ≡ Ok entries) → IfSome o (λ g. held known (Some g) ≡ entries)
  by_held None r holds stands read = tt
  by_held (Some g) r holds stands read = held_known g r holds stands read

  pub known_held : IfSome (file_of 1 w) (λ g. held known (Some g) ≡ entries)
  known_held = by_held (file_of 1 w) reads (holds_now e f log entries w h) h.stands h.read

-- where a record may be there or not
pub count_may : (log : Log) (entries : List Entry) (bytes : List ℕ) → MayHaveOneMore log entries bytes → log.first + length entries ≡ log.next
count_may log entries bytes (inl here) = omega (arith, here.stands.number, count_read log.first log.start here.records entries here.read)
count_may log entries bytes (inr more) =
    omega (arith, more.stands.number, length-append more.records (more.payload ∷ []), count_read log.first log.start more.records entries more.read)

long_may : (log : Log) (entries : List Entry) (bytes : List ℕ) → MayHaveOneMore log entries bytes → log.end ≤ length bytes
long_may log entries bytes (inl here) = here.stands.long
long_may log entries bytes (inr more) = more.stands.long

-- either way the first of the entries are those that are held
front_may : (log : Log) (entries : List Entry) (g : File) (n : ℕ) → n ≡ length entries → MayHaveOneMore log entries g.bytes → take n (entries_in (Some g)) ≡ entries
front_may log entries g n is (inl here) = ap (take n) (entries_hold log.first entries g here.holds) ∙ take_all n entries (omega arith)
front_may log entries g n is (inr more) =
    ap (take n) (entries_hold log.first (entries ++ more.last ∷ []) g more.holds) ∙ take-append-le n entries (more.last ∷ []) (omega arith) ∙ take_all n entries (omega arith)

module _ (e : ExtentState) (f : LogFields) (log : Log) (entries : List Entry) where
  abbrev unknown : LogState
  unknown = log_with e f log Unknown

  module _ (live : IsLive e f log) (g : File) (r : ReadsImage (Some g)) (may : EachImage (MayHaveOneMore log entries) (Some g)) where
    count_unknown : length entries ≡ count_of unknown
    count_unknown = omega (arith, count_may log entries g.bytes (may g.bytes r), live.first)

    pub held_unknown : held unknown (Some g) ≡ entries
    held_unknown = front_may log entries g (count_of unknown) (sym count_unknown) (may g.bytes r)

    pub in_unknown : EachImage (IsFileOf e) (Some g) → StandsIn unknown g
    in_unknown extents = record {
      each = λ image im.
          subst (λ (l : List Entry). StandsFor unknown l image) (sym held_unknown) (record {
            extents = extents image im;
            long = omega (arith, long_may log entries image (may image im), live.end);
            holds = may image im;
          });
      count = ap length held_unknown ∙ count_unknown;
      log = λ is. absurd (cc is);
    }

  pub unknown_stands : (o : Option File) → IsLive e f log → ReadsImage o → EachImage (IsFileOf e) o → EachImage (MayHaveOneMore log entries) o → Stands unknown o
  unknown_stands None live r extents may = tt
  unknown_stands (Some g) live r extents may = in_unknown live g r may extents

  pub unknown_held : (o : Option File) → IsLive e f log → ReadsImage o → EachImage (MayHaveOneMore log entries) o → IfSome o (λ g. held unknown (Some g) ≡ entries)
  unknown_held None live r may = tt
  unknown_held (Some g) live r may = held_unknown live g r may

-- back from a log that stands
holds_at : (l : LogState) (state : ListState) (entries : List Entry) (bytes : List ℕ) → l.state ≡ state → HoldsBy l l.state entries bytes → HoldsBy l state entries bytes
holds_at l state entries bytes is here = subst (λ (s : ListState). HoldsBy l s entries bytes) is here

extents_of : (l : LogState) (o : Option File) → Stands l o → EachImage (IsFileOf l.extents) o
extents_of l None stands = tt
extents_of l (Some g) stands = λ image im. (stands.each image im).extents

log_of_known : (l : LogState) (o : Option File) → l.state ≡ Known → Stands l o → LogStands l.log o
log_of_known l None is stands = tt
log_of_known l (Some g) is stands = stands.log is

read_of_known : (l : LogState) (o : Option File) → l.state ≡ Known → ReadsImage o → Stands l o → IfSome o (λ g. log_entries l.log g.bytes ≡ Ok (held l o))
read_of_known l None is reads stands = tt
read_of_known l (Some g) is reads stands = (holds_at l Known (held l (Some g)) g.bytes is (stands.each g.bytes reads).holds).1

in_state : (l : LogState) (state : ListState) → l.state ≡ state → IsLogdb l → IsInState l state
in_state l state is logdb = subst (IsInState l) is logdb.in_state

pub held_known_of : (l : LogState) (w : World) → IsLogdb l → l.state ≡ Known → ReadsImage (file_of 1 w) → Stands l (file_of 1 w) → IsHeld l.extents l.fields l.log (held l (file_of 1 w)) w
held_known_of l w is known reads stands =
    let k : IsKnown l = in_state l Known known is in
    record {
      live = live_of l is k.region;
      usable = k.usable;
      extents = extents_of l (file_of 1 w) stands;
      stands = log_of_known l (file_of 1 w) known stands;
      read = read_of_known l (file_of 1 w) known reads stands;
    }

may_of : (l : LogState) (o : Option File) → l.state ≡ Unknown → Stands l o → EachImage (MayHaveOneMore l.log (held l o)) o
may_of l None is stands = tt
may_of l (Some g) is stands = λ image im. holds_at l Unknown (held l (Some g)) image is (stands.each image im).holds

pub doubtful_of : (l : LogState) (w : World) → IsLogdb l → l.state ≡ Unknown → Stands l (file_of 1 w) → IsDoubtful l.extents l.fields l.log (held l (file_of 1 w)) w
doubtful_of l w is unknown stands = record {
  live = live_of l is (in_state l Unknown unknown is);
  extents = extents_of l (file_of 1 w) stands;
  each = may_of l (file_of 1 w) unknown stands;
}

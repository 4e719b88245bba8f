-- What opening a log leaves of the file.
use Rattle.std.proofs.Common.{◌≡◌, ℕ, ◌+◌, ◌≤◌, List, length, Option, Some, None, refl, sym, ◌∙◌, ap, subst, arith}
use Rattle.std.specs.Prelude.{option_map, IfSome}
use Rattle.odb_device.specs.World.{File, World, file_of}
use Rattle.odb_device.specs.Images.{ReadsImage, Torn, kept}
use Rattle.odb_device.specs.Calls.{CallsOn, Keeps}
use Rattle.odb_device.specs.Moments.{Runs}
use Rattle.odb_device.proofs.Bytes.{image_kept}
use Rattle.odb_device.proofs.Time.{begins, goes_on, joins, weakens}
use Rattle.odb_device.proofs.Torn.{torn_same}
use Rattle.odb_reclog.specs.Records.{log_of, end_of_list}
use Rattle.odb_reclog.specs.Standing.{Log, IsLog, StandsFor, Stands, list_in, list_of, tail_at}
use Rattle.odb_reclog.specs.Moments.{KeepsLists}
use Rattle.odb_reclog.specs.Ends.{EndsAt, closed_at}
use Rattle.odb_reclog.specs.Regions.{IsOpened}
use Rattle.odb_reclog.specs.declared.region.Region.{Region}
use Rattle.odb_reclog.specs.declared.walk.ListEnd.{ListEnd}
use Rattle.odb_reclog.proofs.Gates.{HasClosed, keeps_same, closed_has, closes_kept}

module _ (start end first at n : ℕ) where
  -- what a sync leaves is what a read gives, which is one of the images before it
  pub keeps_kept : (old new : Option File) → ReadsImage old → new ≡ option_map kept old → KeepsLists start end first at n old new
  keeps_kept None new reads is = is
  keeps_kept (Some f) new reads is = subst (KeepsLists start end first at n (Some f)) (sym is) each
    where
      each : KeepsLists start end first at n (Some f) (Some (kept f))
      each image im =
          let same : f.bytes ≡ image = sym (image_kept (kept f) image (refl, refl) im) in
          (f.bytes, reads, subst (Torn at n f.bytes) same (torn_same at n f.bytes), ap (log_of start end first) (sym same))

  pub keeps_from : (old mid new : Option File) → ReadsImage old → mid ≡ option_map kept old → KeepsLists start end first at n mid new
      → KeepsLists start end first at n old new
  keeps_from None mid new reads is keeps = subst (λ (o : Option File). KeepsLists start end first at n o new) is keeps
  keeps_from (Some f) mid None reads is keeps = tt
  keeps_from (Some f) mid (Some g) reads is keeps = λ image im.
      let b = subst (λ (o : Option File). KeepsLists start end first at n o (Some g)) is keeps image im in
      let same : b.0 ≡ f.bytes = image_kept (kept f) b.0 (refl, refl) b.1 in
      (f.bytes, reads, subst (λ (l : List ℕ). Torn at n l image) same b.2, b.3 ∙ ap (log_of start end first) same)

  -- a sync and reads behind it
  pub settle_run : (file : ℕ) (w w1 w2 : World) → ReadsImage (file_of file w) → CallsOn file w w1 → Keeps file w w1
      → Runs file (λ f. f ≡ file_of file w1) w1 w2
      → Runs file (KeepsLists start end first at n (file_of file w)) w w2
  settle_run file w w1 w2 reads call is_kept run =
      let P = KeepsLists start end first at n (file_of file w) in
      let here = keeps_kept (file_of file w) (file_of file w1) reads is_kept in
      joins file P w w1 w2
      (goes_on file P w w w1 (begins file P w (keeps_same start end first at n (file_of file w) (file_of file w) refl)) call here)
      (weakens file (λ f. f ≡ file_of file w1) P w1 w2 (λ o is. subst P (sym is) here) run)

  -- and the gate's closing behind these
  pub open_run : (file : ℕ) (w w1 w2 : World) → ReadsImage (file_of file w)
      → Runs file (KeepsLists start end first at n (file_of file w)) w w1 → Keeps file w w1
      → Runs file (KeepsLists start end first at n (file_of file w1)) w1 w2
      → Runs file (KeepsLists start end first at n (file_of file w)) w w2
  open_run file w w1 w2 reads before is_kept run =
      let P = KeepsLists start end first at n (file_of file w) in
      joins file P w w1 w2 before
      (weakens file (KeepsLists start end first at n (file_of file w1)) P w1 w2
      (λ o keeps. keeps_from (file_of file w) (file_of file w1) o reads is_kept keeps) run)

-- the bytes that an opened log stands for
stands_bytes : (log : Log) (found : ListEnd) (old new : List ℕ) → IsLog log → log.place ≡ found.place → log.next ≡ found.number
    → log.end ≤ log.clear_from → log.end ≤ length old
    → EndsAt log.start log.end log.first found old → HasClosed log.start log.end log.first log.place old new
    → StandsFor log (log_of log.start log.end log.first new) (tail_at log new) new
stands_bytes log found old new in_range place next clear long ends closed = record {
  in_range = in_range;
  long = omega (arith, closed.long);
  list = refl;
  place = ap (end_of_list log.start) closed.list ∙ ends.place ∙ sym place;
  number = ap (λ (l : List (List ℕ)). log.first + length l) closed.list ∙ ends.number ∙ sym next;
  closed = closed.closed;
  clear = λ i from to. absurd (omega arith);
  tail = λ untouched. refl;
}

module _ (log : Log) (found : ListEnd) (in_range : IsLog log) (place : log.place ≡ found.place) (next : log.next ≡ found.number)
    (clear : log.end ≤ log.clear_from) where
  pub open_stands : (old new : Option File) → new ≡ option_map (closed_at log.place log.end) old
      → IfSome old (λ f. log.end ≤ length f.bytes)
      → IfSome old (λ f. EndsAt log.start log.end log.first found f.bytes) → Stands log new
  open_stands None new is long ends = subst (Stands log) (sym is) tt
  open_stands (Some f) new is long ends = subst (Stands log) (sym is) each
    where
      each : Stands log (Some (closed_at log.place log.end f))
      each image im =
          let g = closed_at log.place log.end f in
          let closed = closed_has log.start log.end log.first log.place f long (ends.place ∙ sym place) in
          subst (StandsFor log (log_of log.start log.end log.first g.bytes) (tail_at log g.bytes))
          (sym (image_kept g image (refl, refl) im))
          (stands_bytes log found f.bytes g.bytes in_range place next clear long ends closed)

  pub open_list : (old new : Option File) → new ≡ option_map (closed_at log.place log.end) old → IfSome old (λ f. log.end ≤ length f.bytes)
      → IfSome old (λ f. EndsAt log.start log.end log.first found f.bytes) → list_of log new ≡ list_in log.start log.end log.first old
  open_list None new is long ends = ap (list_of log) is
  open_list (Some f) new is long ends =
      ap (list_of log) is ∙ (closed_has log.start log.end log.first log.place f long (ends.place ∙ sym place)).list

-- a sync reads as the file did
list_kept : (start end first : ℕ) (old mid : Option File) → mid ≡ option_map kept old → list_in start end first mid ≡ list_in start end first old
list_kept start end first None mid is = ap (list_in start end first) is
list_kept start end first (Some f) mid is = ap (list_in start end first) is

-- what is opened behind a sync is what was there before it
pub opened_later : (r : Region) (log : Log) (old mid new : World) → Keeps r.file old mid → IsOpened r log mid new → IsOpened r log old new
opened_later r log old mid new is_kept opened = record {
  file = opened.file;
  start = opened.start;
  end = opened.end;
  first = opened.first;
  touched = opened.touched;
  has_body = opened.has_body;
  in_doubt = opened.in_doubt;
  stands = opened.stands;
  list = opened.list ∙ list_kept r.start r.end r.first (file_of r.file old) (file_of r.file mid) is_kept;
  closes = closes_kept log.place r.end (file_of r.file old) (file_of r.file mid) (file_of r.file new) is_kept opened.closes;
}

-- What stands where the pair is settled stands where it may be unsettled, and the other way.
use Rattle.std.proofs.Common.{◌≡◌, inl, ℕ, ◌+◌, List, [], ◌++◌, length, drop, Option, Some, None, refl, sym, ◌∙◌, ap, subst, arith, append_assoc, length-append}
use Rattle.std.proofs.Math.Seq.{drop-append_seam}
use Rattle.odb_device.specs.World.{File}
use Rattle.odb_device.specs.Images.{EachImage, ReadsImage}
use Rattle.odb_pair.specs.Places.{Holds as PairHolds}
use Rattle.odb_model.specs.declared.entry.Entry.{Entry}
use Rattle.odb_transdb.specs.declared.header.Header.{Header}
use Rattle.odb_transdb.specs.Header.{header_image, first_held}
use Rattle.odb_transdb.specs.Opened.{Holds, entries_of, entries_in}
use Rattle.odb_transdb.specs.Standing.{Db, IsSettled, Stands}
use Rattle.odb_transdb.specs.Turning.{IsEnd, HoldsBy, StandsEither, StandsSince, EndsHeld}
use Rattle.odb_transdb.proofs.Headers.{header_again}
use Rattle.odb_transdb.proofs.Opened.{holds_has}
use Rattle.odb_transdb.proofs.Contents.{content_of, content_under, content_holds, has_content}
use Rattle.odb_transdb.proofs.Heading.{one_left}

-- two ends of a list from the same number on are the same
pub ends_alike : (h k : Header) (next : ℕ) (all a b : List Entry) → first_held h ≡ first_held k → IsEnd h next all a → IsEnd k next all b → a ≡ b
ends_alike h k next all a b begin first second =
    let one : length all ≡ length first.front + length a = ap length first.all_is ∙ length-append first.front a in
    let two : length all ≡ length second.front + length b = ap length second.all_is ∙ length-append second.front b in
    let same : length first.front ≡ length second.front = omega (arith, begin, one, two, first.count, second.count) in
    sym (drop-append_seam first.front a) ∙ ap (drop (length first.front)) (sym first.all_is) ∙ ap (λ (n : ℕ). drop n all) same ∙ ap (drop (length second.front)) second.all_is
    ∙ drop-append_seam second.front b

pub ends_same : (h : Header) (next : ℕ) (all a b : List Entry) → IsEnd h next all a → IsEnd h next all b → a ≡ b
ends_same h next all a b first second = ends_alike h h next all a b refl first second

-- the ends of a list are ends of one with more in front
pub by_widen : (h : Header) (next : ℕ) (all more front : List Entry) (value bytes : List ℕ) → more ≡ front ++ all → HoldsBy h next all value bytes → HoldsBy h next more value bytes
by_widen h next all more front value bytes same is = record {
  header = is.header;
  is = is.is;
  beside = is.beside;
  entries = is.entries;
  end = record {
    front = front ++ is.end.front;
    all_is = same ∙ ap (λ (l : List Entry). front ++ l) is.end.all_is ∙ sym (append_assoc front is.end.front is.entries);
    count = is.end.count;
  };
  holds = is.holds;
}

pub since_widen : (db : Db) (all more front : List Entry) (o : Option File) → more ≡ front ++ all → StandsSince db all o → StandsSince db more o
since_widen db all more front None same since = tt
since_widen db all more front (Some f) same since = (
  since.0,
  since.1,
  λ image is.
      let one = since.2 image is in
      record {
        pair = one.pair;
        own = by_widen db.header db.active.next all more front (header_image db.header) image same one.own;
        kept = by_widen db.header db.active.next all more front db.pair.value image same one.kept;
        tried = by_widen db.header db.active.next all more front db.pair.tried image same one.tried;
      },
  since.3,
)

-- what each value would give where the pair is settled
settled_by : (db : Db) (es : List Entry) (bytes : List ℕ) → IsSettled db → Holds db.header es bytes → first_held db.header + length es ≡ db.active.next → HoldsBy db.header db.active.next es (header_image db.header) bytes
settled_by db es bytes is holds count = record {
  header = db.header;
  is = header_again db.header is.lawful;
  beside = inl refl;
  entries = es;
  end = record { front = []; all_is = refl; count = count };
  holds = content_under db.header es bytes (has_content db.header es bytes (holds_has db.header es bytes holds));
}

pub may_stand : (db : Db) (o : Option File) → Stands db o → StandsSince db (entries_in o) o
may_stand db None stands = tt
may_stand db (Some f) stands =
    let settled = stands.4 in
    let es = entries_in (Some f) in (
      stands.0,
      stands.1,
      λ image is.
          let one = stands.2 image is in
          let own = settled_by db es image settled one.holds stands.3 in
          let kept : HoldsBy db.header db.active.next es db.pair.value image = subst (λ (v : List ℕ). HoldsBy db.header db.active.next es v image) (sym settled.value) own in
          record {
            pair = one.pair;
            own = own;
            kept = kept;
            tried = subst (λ (v : List ℕ). HoldsBy db.header db.active.next es v image) (sym settled.tried) kept;
          },
      stands.5,
    )

-- what an image holds whose pair keeps the header
kept_entries : (db : Db) (all : List Entry) (bytes : List ℕ) → IsSettled db → PairHolds db.pair.value bytes → StandsEither db all bytes → (es : List Entry) × IsEnd db.header db.active.next all es × Holds db.header es bytes
kept_entries db all bytes settled pair one =
    let k = one.kept.header in
    let same : k ≡ db.header = one_left db k settled (inl one.kept.is) in
    let holds : Holds k one.kept.entries bytes = content_holds k one.kept.entries db.pair.value bytes (content_of k one.kept.entries bytes one.kept.holds) pair one.kept.is in (
      one.kept.entries,
      subst (λ (h : Header). IsEnd h db.active.next all one.kept.entries) same one.kept.end,
      subst (λ (h : Header). Holds h one.kept.entries bytes) same holds,
    )

-- the last of the entries are those that a read gives
pub ends_held : (db : Db) (all : List Entry) (o : Option File) → ReadsImage o → IsSettled db → EachImage (PairHolds db.pair.value) o → StandsSince db all o → EndsHeld db all o
ends_held db all None reads settled pair since = tt
ends_held db all (Some f) reads settled pair since =
    let read = kept_entries db all f.bytes settled (pair f.bytes reads) (since.2 f.bytes reads) in
    subst (IsEnd db.header db.active.next all) (sym (ap entries_of read.2)) read.1

pub settled_stands : (db : Db) (all : List Entry) (o : Option File) → ReadsImage o → IsSettled db → EachImage (PairHolds db.pair.value) o → StandsSince db all o → Stands db o
settled_stands db all None reads settled pair since = settled
settled_stands db all (Some f) reads settled pair since =
    let end = ends_held db all (Some f) reads settled pair since in
    let es = entries_in (Some f) in (
      since.0,
      since.1,
      λ image is.
          let one = kept_entries db all image settled (pair image is) (since.2 image is) in
          let same = ends_same db.header db.active.next all one.0 es one.1 end in
          record { pair = (since.2 image is).pair; holds = subst (λ (l : List Entry). Holds db.header l image) same one.2 },
      end.count,
      settled,
      since.3,
    )

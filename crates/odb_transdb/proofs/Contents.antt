-- What bytes would hold under a header, whatever their pair keeps.
use Rattle.std.proofs.Common.{◌≡◌, inl, inr, ℕ, zero, suc, ◌+◌, ◌-◌, ◌<◌, ◌≤◌, Bool, true, false, List, [], ◌∷◌, ◌++◌, length, Some, None, Result, Ok, refl, sym, ◌∙◌, ap, subst, arith, append_assoc, length-append}
use Rattle.std.specs.Prelude.{if◌then◌else◌, not, ◌==◌, nat_lt, position, slice_index}
use Rattle.std.specs.List.{position_or_len}
use Rattle.std.proofs.lemmas.Bool.{ltb-false, le-ltb}
use Rattle.std.proofs.lemmas.Bool.Decides.{nat_tests}
use Rattle.std.proofs.lemmas.List.Sums.{fails_before_first}
use Rattle.odb_device.specs.Images.{Torn, part}
use Rattle.odb_device.specs.Zeros.{AreZero}
use Rattle.odb_device.proofs.Bytes.{part_at, length-part}
use Rattle.odb_device.proofs.Torn.{torn_part}
use Rattle.odb_pair.specs.Places.{holding as holding_value, opened as pair_opened}
use Rattle.odb_reclog.specs.Records.{records_from}
use Rattle.odb_reclog.specs.Standing.{Log, StandsFor as LogStandsFor}
use Rattle.odb_reclog.proofs.Laws.{lists_beside}
use Rattle.odb_model.specs.declared.entry.Entry.{Entry}
use Rattle.odb_model.specs.declared.side.OtherSide.{OtherSide}
use Rattle.odb_model.specs.declared.side.OtherSide.TheVariants.{Live, Dirty, Clean}
use Rattle.odb_transdb.specs.declared.header.Header.{Header}
use Rattle.odb_transdb.specs.Header.{header_of, side_start, side_end, side_size, file_size, first_on, active_first, first_by, first_held, other_of, with_other, turned}
use Rattle.odb_transdb.specs.Opened.{damaged, holding, side_list, entries_from, side_entries, joined, with_entries, first_other, with_sides, with_header, Holds}
use Rattle.odb_transdb.specs.Standing.{IsOfSide}
use Rattle.odb_transdb.specs.Turning.{IsEnd, HasZeroOther}
use Rattle.odb_transdb.proofs.Headers.{IsLawful, lawful_is, header_takes}
use Rattle.odb_transdb.proofs.Opened.{read_by, IsSound, sound_sides, sides_told, Has, has_holds}
use Rattle.odb_transdb.proofs.Entries.{count_read}
use Rattle.odb_transdb.proofs.Sides.{inside_file, active_sides, SameSides, read_same, sound_same}
use Rattle.odb_transdb.proofs.Finds.{joined_parts}
use Rattle.odb_transdb.proofs.Standing.{log_list}
use Rattle.odb_transdb.proofs.Creating.{zero_list, zero_part}

-- the sides are there, the other one is as its state says, and the entries are these
pub record IsContent (h : Header) (entries : List Entry) (bytes : List ℕ) : Type 0 where
  pub long : file_size h ≤ length bytes
  pub sound : IsSound h h.other bytes
  pub read : read_by h h.other bytes ≡ Ok entries

pub content_of : (h : Header) (entries : List Entry) (bytes : List ℕ) → with_header (Some h) bytes ≡ holding h entries → IsContent h entries bytes
content_of h entries bytes e = of_test (nat_lt (length bytes) (file_size h)) refl
  where
    of_test : (b : Bool) → nat_lt (length bytes) (file_size h) ≡ b → IsContent h entries bytes
    of_test true short =
        let wrong : damaged (length bytes) ≡ holding h entries = sym (ap (λ (b : Bool). if b then damaged (length bytes) else with_sides h h.other bytes) short) ∙ e in
        absurd (cc wrong)
    of_test false enough =
        let right : with_sides h h.other bytes ≡ holding h entries = sym (ap (λ (b : Bool). if b then damaged (length bytes) else with_sides h h.other bytes) enough) ∙ e in
        let t = sides_told h h entries h.other bytes right in
        record { long = ltb-false _ _ enough; sound = t.sound; read = t.is }

pub content_under : (h : Header) (entries : List Entry) (bytes : List ℕ) → IsContent h entries bytes → with_header (Some h) bytes ≡ holding h entries
content_under h entries bytes is =
    let enough : nat_lt (length bytes) (file_size h) ≡ false = le-ltb _ _ is.long in
    ap (λ (b : Bool). if b then damaged (length bytes) else with_sides h h.other bytes) enough ∙ sound_sides h h.other bytes is.sound ∙ ap (with_entries h) is.read

-- with the header in the pair the bytes hold that
pub content_holds : (h : Header) (entries : List Entry) (value bytes : List ℕ) → IsContent h entries bytes → pair_opened bytes ≡ holding_value value → header_of value ≡ Some h → Holds h entries bytes
content_holds h entries value bytes is pair header =
    has_holds h entries bytes
    (record { order = record { has = record { value = value; pair = pair; header = header; long = is.long }; sound = is.sound }; read = is.read })

pub has_content : (h : Header) (entries : List Entry) (bytes : List ℕ) → Has h entries bytes → IsContent h entries bytes
has_content h entries bytes has = record { long = has.order.has.long; sound = has.order.sound; read = has.read }

pub low_of : (value : List ℕ) (h : Header) → header_of value ≡ Some h → IsLawful h
low_of value h is = lawful_is h (header_takes value h is).lawful

-- writes of the pair leave it
pub content_front : (h : Header) (entries : List Entry) (before image : List ℕ) → h.active ≤ 1 → Torn 0 1024 before image → IsContent h entries before → IsContent h entries image
content_front h entries before image low torn is =
    let sides = active_sides h low in
    let same : SameSides h h.other before image = record { active = list h.active low; other = list (other_of h) sides.two; clean = λ _. zeros } in
    record {
      long = omega (arith, is.long, torn.no_shorter);
      sound = sound_same h h.other before image same.other same.clean is.sound;
      read = read_same h h.other before image same ∙ is.read;
    }
  where
    list : (side : ℕ) → side ≤ 1 → side_list h side image ≡ side_list h side before
    list side few = lists_beside (side_start h side) (side_end h side) (first_on h side) 0 1024 before image (omega (arith, is.long, inside_file h side few)) torn (inl (omega arith))

    zeros : first_other h (other_of h) image ≡ first_other h (other_of h) before
    zeros =
        ap (position (λ b. not (b == 0)))
        (torn_part 0 1024 before image (side_start h (other_of h)) (side_size h) torn (omega (arith, is.long, inside_file h (other_of h) (active_sides h low).two)) (inr (omega arith)))

-- a part in which nothing but zeros is found is zeros
none_zero : (xs : List ℕ) → position (λ b. not (b == 0)) xs ≡ None → (k : ℕ) → k < length xs → slice_index xs k ≡ 0
none_zero xs none k low =
    let test : ℕ → Bool = λ (b : ℕ). not (b == 0) in
    let far : length xs ≤ position_or_len test xs = of_test (nat_lt (position_or_len test xs) (length xs)) refl in
    is_zero (slice_index xs k) (fails_before_first test xs k 0 (omega arith))
  where
    of_test : (b : Bool) → nat_lt (position_or_len (λ (b : ℕ). not (b == 0)) xs) (length xs) ≡ b → length xs ≤ position_or_len (λ (b : ℕ). not (b == 0)) xs
    of_test true found =
        let wrong : Some (position_or_len (λ (b : ℕ). not (b == 0)) xs) ≡ None = sym (ap (λ (b : Bool). if b then Some (position_or_len (λ (b : ℕ). not (b == 0)) xs) else None) found) ∙ none in
        absurd (cc wrong)
    of_test false end = ltb-false _ _ end

    is_zero : (b : ℕ) → not (b == 0) ≡ false → b ≡ 0
    is_zero b is = grind (arith, nat_tests)

-- so a Clean side is
pub clean_zero : (h : Header) (bytes : List ℕ) → h.active ≤ 1 → file_size h ≤ length bytes → first_other h (other_of h) bytes ≡ None → HasZeroOther h bytes
clean_zero h bytes low long none = λ i from to.
    let start = side_start h (other_of h) in
    let inside : start + side_size h ≤ length bytes = omega (arith, inside_file h (other_of h) (active_sides h low).two) in
    let k : ℕ = i - start in
    let few : k < length (part start (side_size h) bytes) = omega (arith, length-part start (side_size h) bytes inside) in
    let there : start + k ≡ i = omega arith in
    sym (ap (slice_index bytes) there) ∙ sym (part_at start (side_size h) bytes k (omega arith)) ∙ none_zero (part start (side_size h) bytes) none k few

pub zero_clean : (h : Header) (bytes : List ℕ) → h.active ≤ 1 → file_size h ≤ length bytes → HasZeroOther h bytes → first_other h (other_of h) bytes ≡ None
zero_clean h bytes low long zeros =
    let inside = inside_file h (other_of h) (active_sides h low).two in
    zero_part (side_start h (other_of h)) (side_size h) bytes (omega arith) (λ i from to. zeros i from (omega arith))

-- the header after a turn
module _ (h : Header) (n : ℕ) (low : h.active ≤ 1) where
  abbrev t : Header
  t = turned n h

  pub turned_other : other_of t ≡ h.active
  turned_other = of_active h.active low refl
    where
      of_active : (a : ℕ) → a ≤ 1 → h.active ≡ a → other_of t ≡ h.active
      of_active zero few is = ap (λ (x : ℕ). if (if x == 0 then 1 else 0) == 0 then 1 else 0) is ∙ sym is
      of_active (suc zero) few is = ap (λ (x : ℕ). if (if x == 0 then 1 else 0) == 0 then 1 else 0) is ∙ sym is
      of_active (suc (suc a)) few is = absurd (omega arith)

  pub turned_first : first_on t h.active ≡ first_on h h.active
  turned_first = of_active h.active low refl
    where
      of_active : (a : ℕ) → a ≤ 1 → h.active ≡ a → first_on t h.active ≡ first_on h h.active
      of_active zero few is = ap (first_on t) is ∙ ap (λ (x : ℕ). if x == 0 then h.first0 else n) is ∙ sym (ap (first_on h) is)
      of_active (suc zero) few is = ap (first_on t) is ∙ ap (λ (x : ℕ). if x == 0 then n else h.first1) is ∙ sym (ap (first_on h) is)
      of_active (suc (suc a)) few is = absurd (omega arith)

  pub turned_active : active_first t ≡ n
  turned_active = of_active h.active low refl
    where
      of_active : (a : ℕ) → a ≤ 1 → h.active ≡ a → active_first t ≡ n
      of_active zero few is = ap (λ (x : ℕ). first_on t (if x == 0 then 1 else 0)) is ∙ ap (λ (x : ℕ). if x == 0 then n else h.first1) is
      of_active (suc zero) few is = ap (λ (x : ℕ). first_on t (if x == 0 then 1 else 0)) is ∙ ap (λ (x : ℕ). if x == 0 then h.first0 else n) is
      of_active (suc (suc a)) few is = absurd (omega arith)

  pub turned_live : first_on t (other_of t) ≡ active_first h
  turned_live = ap (first_on t) turned_other ∙ turned_first

  pub turned_held : h.other ≡ Clean → first_held t ≡ first_held h
  turned_held clean = turned_live ∙ sym (ap (first_by h) clean)

  module _ (bytes : List ℕ) where
    turned_list : side_list t (other_of t) bytes ≡ side_list h h.active bytes
    turned_list = ap (λ (s : ℕ). side_list t s bytes) turned_other ∙ ap (λ (k : ℕ). records_from (suc (side_end h h.active - side_start h h.active)) (side_end h h.active) k (side_start h h.active) bytes) turned_first

    turned_front : side_entries t (other_of t) bytes ≡ side_entries h h.active bytes
    turned_front =
        ap (λ (s : ℕ). side_entries t s bytes) turned_other
        ∙ ap (λ (k : ℕ). entries_from k (side_start h h.active) (records_from (suc (side_end h h.active - side_start h h.active)) (side_end h h.active) k (side_start h h.active) bytes)) turned_first

    -- no record stands on the side that is begun
    turned_none : AreZero (side_start h (other_of h)) (side_end h (other_of h)) bytes → 0 < side_size h → side_entries t t.active bytes ≡ Ok []
    turned_none zeros some =
        ap (entries_from (active_first t) (side_start t t.active))
        (zero_list (side_end t t.active - side_start t t.active) (side_end t t.active) (active_first t) (side_start t t.active) bytes (zeros (side_start h (other_of h)) (omega arith) (omega arith)))

    -- the same entries are held
    pub turned_content : (entries : List Entry) → h.other ≡ Clean → 0 < side_size h → first_on h h.active + length (side_list h h.active bytes) ≡ n → IsContent h entries bytes → IsContent t entries bytes
    turned_content entries clean some count is =
        let none : first_other h (other_of h) bytes ≡ None = subst (λ (o : OtherSide). IsSound h o bytes) clean is.sound in
        let read : side_entries h h.active bytes ≡ Ok entries = subst (λ (o : OtherSide). read_by h o bytes ≡ Ok entries) clean is.read in
        let zeros = clean_zero h bytes low is.long none in
        record {
          long = is.long;
          sound = omega (arith, turned_live, turned_active, count, ap (length {A = List ℕ}) turned_list);
          read = ap (λ (r : Result (List Entry) ℕ). joined r (side_entries t t.active bytes)) (turned_front ∙ read)
              ∙ ap (joined (Ok entries)) (turned_none zeros some) ∙ ap Ok (append_none entries);
        }
      where
        append_none : (es : List Entry) → es ++ [] ≡ es
        append_none [] = refl
        append_none (e ∷ es) = ap (λ (l : List Entry). e ∷ l) (append_none es)

-- the count of an active side's list
pub active_list : (h : Header) (log : Log) (records : List (List ℕ)) (between bytes : List ℕ) → IsOfSide h h.active log → LogStandsFor log records between bytes
    → first_on h h.active + length (side_list h h.active bytes) ≡ log.next
active_list h log records between bytes side one =
    omega (arith, one.number, side.first, ap (length {A = List ℕ}) (sym one.list ∙ log_list h h.active log bytes side))

-- the state of the other side alone is another: the sides are the same
pub first_same : (s : OtherSide) (h : Header) (side : ℕ) → first_on (with_other s h) side ≡ first_on h side
first_same s h zero = refl
first_same s h (suc side) = refl

pub entries_same_other : (s : OtherSide) (h : Header) (side : ℕ) (bytes : List ℕ) → side_entries (with_other s h) side bytes ≡ side_entries h side bytes
entries_same_other s h zero bytes = refl
entries_same_other s h (suc side) bytes = refl

pub lawful_other : (s : OtherSide) (h : Header) → IsLawful h → IsLawful (with_other s h)
lawful_other s h is = record {
  format = is.format;
  low = is.low;
  high = is.high;
  active = is.active;
  first0 = is.first0;
  first1 = is.first1;
  some0 = is.some0;
  some1 = is.some1;
}

-- what is left when the other side isn't Live any longer
pub record LeavesActive (h : Header) (next : ℕ) (entries : List Entry) (bytes : List ℕ) : Type 0 where
  pub rest : List Entry
  pub end : IsEnd (with_other Dirty h) next entries rest
  pub content : IsContent (with_other Dirty h) rest bytes

active_end : (h : Header) (next : ℕ) (entries : List Entry) (bytes : List ℕ) → file_size h ≤ length bytes → active_first h + length entries ≡ next → side_entries h h.active bytes ≡ Ok entries → LeavesActive h next entries bytes
active_end h next entries bytes long count read = record {
  rest = entries;
  end = record { front = []; all_is = refl; count = omega (arith, count, first_same Dirty h h.active) };
  content = record { long = long; sound = tt; read = entries_same_other Dirty h h.active bytes ∙ read };
}

pub dirty_content : (h : Header) (next : ℕ) (entries : List Entry) (bytes : List ℕ) → first_held h + length entries ≡ next → IsContent h entries bytes → LeavesActive h next entries bytes
dirty_content h next entries bytes count is = of_state h.other refl
  where
    of_state : (o : OtherSide) → h.other ≡ o → LeavesActive h next entries bytes
    of_state Live live =
        let read : joined (side_entries h (other_of h) bytes) (side_entries h h.active bytes) ≡ Ok entries = subst (λ (o : OtherSide). read_by h o bytes ≡ Ok entries) live is.read in
        let sound : first_on h (other_of h) + length (side_list h (other_of h) bytes) ≡ active_first h = subst (λ (o : OtherSide). IsSound h o bytes) live is.sound in
        let held : first_held h ≡ first_on h (other_of h) = ap (first_by h) live in
        let parts = joined_parts (side_entries h (other_of h) bytes) (side_entries h h.active bytes) entries read in
        let few = count_read (first_on h (other_of h)) (side_start h (other_of h)) (side_list h (other_of h) bytes) parts.front parts.first in
        record {
          rest = parts.rest;
          end = record {
            front = parts.front;
            all_is = parts.both;
            count = omega (arith, count, held, sound, few, ap (length {A = Entry}) parts.both, length-append parts.front parts.rest, first_same Dirty h h.active);
          };
          content = record { long = is.long; sound = tt; read = entries_same_other Dirty h h.active bytes ∙ parts.second };
        }
    of_state Dirty dirty = active_end h next entries bytes is.long (omega (arith, count, ap (first_by h) dirty)) (subst (λ (o : OtherSide). read_by h o bytes ≡ Ok entries) dirty is.read)
    of_state Clean clean = active_end h next entries bytes is.long (omega (arith, count, ap (first_by h) clean)) (subst (λ (o : OtherSide). read_by h o bytes ≡ Ok entries) clean is.read)

-- a Dirty side that is zeros is Clean
pub clean_content : (h : Header) (entries : List Entry) (bytes : List ℕ) → h.active ≤ 1 → h.other ≡ Dirty → HasZeroOther h bytes → IsContent h entries bytes → IsContent (with_other Clean h) entries bytes
clean_content h entries bytes low dirty zeros is = record {
  long = is.long;
  sound = zero_clean h bytes low is.long zeros;
  read = entries_same_other Clean h h.active bytes ∙ subst (λ (o : OtherSide). read_by h o bytes ≡ Ok entries) dirty is.read;
}

-- an end of an end
pub end_of_end : (h k : Header) (next : ℕ) (all entries rest : List Entry) → IsEnd h next all entries → IsEnd k next entries rest → IsEnd k next all rest
end_of_end h k next all entries rest first second = record {
  front = first.front ++ second.front;
  all_is = first.all_is ∙ ap (λ (l : List Entry). first.front ++ l) second.all_is ∙ sym (append_assoc first.front second.front rest);
  count = second.count;
}

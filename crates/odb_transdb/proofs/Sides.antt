-- What changes inside one side leave of the rest.
use Rattle.std.proofs.Common.{◌≡◌, ◌⊎◌, inl, inr, ℕ, zero, suc, ◌+◌, ◌≤◌, List, [], ◌∷◌, ◌++◌, length, Option, Some, None, Result, Ok, Err, refl, sym, ◌∙◌, ap, arith, append_assoc}
use Rattle.std.specs.Prelude.{not, ◌==◌, position, if◌then◌else◌}
use Rattle.std.proofs.lemmas.Bool.{cases_eq}
use Rattle.odb_device.specs.Images.{Torn, part}
use Rattle.odb_device.proofs.Torn.{torn_part}
use Rattle.odb_pair.specs.Laws.{opens_beside}
use Rattle.odb_reclog.specs.Records.{end_of_list}
use Rattle.odb_reclog.proofs.Laws.{lists_beside}
use Rattle.odb_codec.specs.Reading.{read_entry}
use Rattle.odb_model.specs.declared.entry.Entry.{Entry}
use Rattle.odb_model.specs.declared.side.OtherSide.{OtherSide}
use Rattle.odb_model.specs.declared.side.OtherSide.TheVariants.{Live, Dirty, Clean}
use Rattle.odb_transdb.specs.declared.header.Header.{Header}
use Rattle.odb_transdb.specs.Header.{side_start, side_end, side_size, file_size, first_on, active_first, other_of}
use Rattle.odb_transdb.specs.Opened.{Opened, side_list, entries_from, side_entries, joined, with_entries, first_other, with_clean, with_sides, damaged, opened}
use Rattle.odb_transdb.proofs.Entries.{read_more}
use Rattle.odb_transdb.proofs.Opened.{HasHeader, by_sides, read_by, IsSound, Has}

-- n bytes from `at` on lie inside a side
pub record IsInside (h : Header) (side at n : ℕ) : Type 0 where
  pub low : side_start h side ≤ at
  pub high : at + n ≤ side_end h side

-- two sides, 0 and 1, of which one is changed
pub record AreSides (side other : ℕ) : Type 0 where
  pub one : side ≤ 1
  pub two : other ≤ 1
  pub apart : side + other ≡ 1

-- the changed bytes of one side lie beside the other
pub beside : (h : Header) (side other at n : ℕ) → AreSides side other → IsInside h side at n → (at + n ≤ side_start h other) ⊎ (side_end h other ≤ at)
beside h side other at n are inside = elim (cases_eq side 0) [
  | inl first ↦
      let second : other ≡ 1 = omega (arith, are.apart) in
      inl (omega (arith, inside.high, ap (side_end h) first, ap (side_start h) second))
  | inr later ↦
      let second : side ≡ 1 = omega (arith, are.one) in
      let first : other ≡ 0 = omega (arith, are.apart) in
      inr (omega (arith, inside.low, ap (side_start h) second, ap (side_end h) first))
]

pub inside_file : (h : Header) (side : ℕ) → side ≤ 1 → side_end h side ≤ file_size h
inside_file h side low = elim (cases_eq side 0) [
  | inl first ↦ omega (arith, ap (side_end h) first)
  | inr later ↦ let second : side ≡ 1 = omega arith in omega (arith, ap (side_end h) second)
]

module _ (h : Header) (side other at n : ℕ) (before image : List ℕ) (are : AreSides side other) (inside : IsInside h side at n) (torn : Torn at n before image) (long : file_size h ≤ length before) where
  pub other_list : side_list h other image ≡ side_list h other before
  other_list = lists_beside (side_start h other) (side_end h other) (first_on h other) at n before image (omega (arith, long, inside_file h other are.two)) torn (beside h side other at n are inside)

  pub other_zeros : first_other h other image ≡ first_other h other before
  other_zeros =
      let same : part (side_start h other) (side_size h) image ≡ part (side_start h other) (side_size h) before =
      torn_part at n before image (side_start h other) (side_size h) torn (omega (arith, long, inside_file h other are.two)) (flip (beside h side other at n are inside)) in
      ap (position (λ b. not (b == 0))) same
    where
      flip : (at + n ≤ side_start h other) ⊎ (side_end h other ≤ at) → (side_start h other + side_size h ≤ at) ⊎ (at + n ≤ side_start h other)
      flip (inl low) = inr low
      flip (inr high) = inl high

  pub header_beside : HasHeader h before → HasHeader h image
  header_beside has = record {
    value = has.value;
    pair = opens_beside at n before image (omega (arith, long)) torn (omega (arith, inside.low)) ∙ has.pair;
    header = has.header;
    long = omega (arith, long, torn.no_shorter);
  }

-- the active side and the other one
pub active_sides : (h : Header) → h.active ≤ 1 → AreSides h.active (other_of h)
active_sides h low = of_active h.active low refl
  where
    of_active : (a : ℕ) → a ≤ 1 → h.active ≡ a → AreSides h.active (other_of h)
    of_active zero low is = let other : other_of h ≡ 1 = ap (λ (a : ℕ). if a == 0 then 1 else 0) is in record { one = omega arith; two = omega arith; apart = omega arith }
    of_active (suc zero) low is = let other : other_of h ≡ 0 = ap (λ (a : ℕ). if a == 0 then 1 else 0) is in record { one = omega arith; two = omega arith; apart = omega arith }
    of_active (suc (suc a)) low is = absurd (omega arith)

pub other_sides : (h : Header) → h.active ≤ 1 → AreSides (other_of h) h.active
other_sides h low = let are = active_sides h low in record { one = are.two; two = are.one; apart = omega (arith, are.apart) }

-- what the sides tell depends on their lists, and on the bytes of a Clean one
pub record SameSides (h : Header) (o : OtherSide) (before image : List ℕ) : Type 0 where
  pub active : side_list h h.active image ≡ side_list h h.active before
  pub other : side_list h (other_of h) image ≡ side_list h (other_of h) before
  pub clean : o ≡ Clean → first_other h (other_of h) image ≡ first_other h (other_of h) before

module _ (h : Header) where
  abbrev active_read : List (List ℕ) → Result (List Entry) ℕ
  active_read list = entries_from (first_on h h.active) (side_start h h.active) list

  abbrev other_read : List (List ℕ) → Result (List Entry) ℕ
  other_read list = entries_from (first_on h (other_of h)) (side_start h (other_of h)) list

  abbrev live_told : List (List ℕ) → List (List ℕ) → Opened
  live_told live active =
      if first_on h (other_of h) + length live == active_first h
      then with_entries h (joined (other_read live) (active_read active))
      else damaged (end_of_list (side_start h (other_of h)) live)

  abbrev clean_told : Option ℕ → List (List ℕ) → Opened
  clean_told None active = with_entries h (active_read active)
  clean_told (Some n) active = damaged (side_start h (other_of h) + n)

  told_clean : (n : Option ℕ) (bytes : List ℕ) → with_clean h n bytes ≡ clean_told n (side_list h h.active bytes)
  told_clean None bytes = refl
  told_clean (Some n) bytes = refl

  pub sides_same : (o : OtherSide) (before image : List ℕ) → SameSides h o before image → with_sides h o image ≡ with_sides h o before
  sides_same Live before image same =
      ap (λ (l : List (List ℕ)). live_told l (side_list h h.active image)) same.other ∙ ap (live_told (side_list h (other_of h) before)) same.active
  sides_same Dirty before image same = ap (λ (l : List (List ℕ)). with_entries h (active_read l)) same.active
  sides_same Clean before image same =
      told_clean (first_other h (other_of h) image) image ∙ ap (λ (n : Option ℕ). clean_told n (side_list h h.active image)) (same.clean refl)
      ∙ ap (clean_told (first_other h (other_of h) before)) same.active ∙ sym (told_clean (first_other h (other_of h) before) before)

  pub read_same : (o : OtherSide) (before image : List ℕ) → SameSides h o before image → read_by h o image ≡ read_by h o before
  read_same Live before image same =
      ap (λ (l : List (List ℕ)). joined (other_read l) (active_read (side_list h h.active image))) same.other
      ∙ ap (λ (l : List (List ℕ)). joined (other_read (side_list h (other_of h) before)) (active_read l)) same.active
  read_same Dirty before image same = ap active_read same.active
  read_same Clean before image same = ap active_read same.active

  pub sound_same : (o : OtherSide) (before image : List ℕ) → (side_list h (other_of h) image ≡ side_list h (other_of h) before) → (o ≡ Clean → first_other h (other_of h) image ≡ first_other h (other_of h) before)
      → IsSound h o before → IsSound h o image
  sound_same Live before image other clean is = ap (λ (l : List (List ℕ)). first_on h (other_of h) + length l) other ∙ is
  sound_same Dirty before image other clean is = tt
  sound_same Clean before image other clean is = clean refl ∙ is

  -- changes inside the active side that leave its list
  module _ (at n : ℕ) (before image : List ℕ) (active : h.active ≤ 1) (inside : IsInside h h.active at n) (torn : Torn at n before image) (list : side_list h h.active image ≡ side_list h h.active before)
      (has : HasHeader h before) where
    pub active_same : SameSides h h.other before image
    active_same = record {
      active = list;
      other = other_list h h.active (other_of h) at n before image (active_sides h active) inside torn has.long;
      clean = λ _. other_zeros h h.active (other_of h) at n before image (active_sides h active) inside torn has.long;
    }

    pub active_header : HasHeader h image
    active_header = header_beside h h.active (other_of h) at n before image (active_sides h active) inside torn has.long has

    pub active_opens : opened image ≡ opened before
    active_opens = by_sides h image active_header ∙ sides_same h.other before image active_same ∙ sym (by_sides h before has)

  -- and inside the other one where that is Live
  module _ (at n : ℕ) (before image : List ℕ) (active : h.active ≤ 1) (inside : IsInside h (other_of h) at n) (torn : Torn at n before image) (list : side_list h (other_of h) image ≡ side_list h (other_of h) before)
      (live : h.other ≡ Live) (has : HasHeader h before) where
    pub live_same : SameSides h h.other before image
    live_same = record {
      active = other_list h (other_of h) h.active at n before image (other_sides h active) inside torn has.long;
      other = list;
      clean = λ is. let wrong : Live ≡ Clean = sym live ∙ is in absurd (cc wrong);
    }

    pub live_header : HasHeader h image
    live_header = header_beside h (other_of h) h.active at n before image (other_sides h active) inside torn has.long has

    pub live_opens : opened image ≡ opened before
    live_opens = by_sides h image live_header ∙ sides_same h.other before image live_same ∙ sym (by_sides h before has)

  -- entries stay where the active side's list stays
  pub has_kept : (entries : List Entry) (at n : ℕ) (before image : List ℕ) → h.active ≤ 1 → IsInside h h.active at n → Torn at n before image → side_list h h.active image ≡ side_list h h.active before
      → Has h entries before → Has h entries image
  has_kept entries at n before image active inside torn list has =
      let same = active_same at n before image active inside torn list has.order.has in
      record {
        order = record {
          has = active_header at n before image active inside torn list has.order.has;
          sound = sound_same h.other before image same.other same.clean has.order.sound;
        };
        read = read_same h.other before image same ∙ has.read;
      }

  -- one entry more behind them
  joined_more : (front : Result (List Entry) ℕ) (rest : List Entry) (entries : List Entry) (e : Entry) → joined front (Ok rest) ≡ Ok entries → joined front (Ok (rest ++ e ∷ [])) ≡ Ok (entries ++ e ∷ [])
  joined_more (Ok front) rest entries e is =
      let same : front ++ rest ≡ entries = cc is in ap Ok (sym (append_assoc front rest (e ∷ [])) ∙ ap (λ (l : List Entry). l ++ e ∷ []) same)
  joined_more (Err at) rest entries e is = absurd (cc is)

  active_more : (payload : List ℕ) (e : Entry) (before image : List ℕ) (entries : List Entry) → side_list h h.active image ≡ side_list h h.active before ++ payload ∷ [] → side_entries h h.active before ≡ Ok entries
      → read_entry (active_first h + length (side_list h h.active before)) payload ≡ Ok e → side_entries h h.active image ≡ Ok (entries ++ e ∷ [])
  active_more payload e before image entries list is one =
      ap active_read list ∙ read_more payload [] (active_first h) (side_start h h.active) (side_list h h.active before) entries e is one

  joined_active : (front rest : Result (List Entry) ℕ) (entries : List Entry) → joined front rest ≡ Ok entries → (last : List Entry) × (rest ≡ Ok last)
  joined_active (Ok front) (Ok rest) entries is = (rest, refl)
  joined_active (Ok front) (Err at) entries is = absurd (cc is)
  joined_active (Err at) rest entries is = absurd (cc is)

  read_more_by : (o : OtherSide) (payload : List ℕ) (e : Entry) (before image : List ℕ) (entries : List Entry) → side_list h (other_of h) image ≡ side_list h (other_of h) before
      → side_list h h.active image ≡ side_list h h.active before ++ payload ∷ [] → read_entry (active_first h + length (side_list h h.active before)) payload ≡ Ok e
      → read_by h o before ≡ Ok entries → read_by h o image ≡ Ok (entries ++ e ∷ [])
  read_more_by Live payload e before image entries other list one is =
      let last = joined_active (side_entries h (other_of h) before) (side_entries h h.active before) entries is in
      let more = active_more payload e before image last.0 list last.1 one in
      let front : side_entries h (other_of h) image ≡ side_entries h (other_of h) before = ap other_read other in
      ap (λ (r : Result (List Entry) ℕ). joined r (side_entries h h.active image)) front ∙ ap (joined (side_entries h (other_of h) before)) more
      ∙ joined_more (side_entries h (other_of h) before) last.0 entries e (ap (joined (side_entries h (other_of h) before)) (sym last.1) ∙ is)
  read_more_by Dirty payload e before image entries other list one is = active_more payload e before image entries list is one
  read_more_by Clean payload e before image entries other list one is = active_more payload e before image entries list is one

  pub has_more : (payload : List ℕ) (e : Entry) (entries : List Entry) (at n : ℕ) (before image : List ℕ) → h.active ≤ 1 → IsInside h h.active at n → Torn at n before image
      → side_list h h.active image ≡ side_list h h.active before ++ payload ∷ [] → read_entry (active_first h + length (side_list h h.active before)) payload ≡ Ok e
      → Has h entries before → Has h (entries ++ e ∷ []) image
  has_more payload e entries at n before image active inside torn list one has =
      let other = other_list h h.active (other_of h) at n before image (active_sides h active) inside torn has.order.has.long in
      record {
        order = record {
          has = header_beside h h.active (other_of h) at n before image (active_sides h active) inside torn has.order.has.long has.order.has;
          sound = sound_same h.other before image other (λ _. other_zeros h h.active (other_of h) at n before image (active_sides h active) inside torn has.order.has.long) has.order.sound;
        };
        read = read_more_by h.other payload e before image entries other list one has.read;
      }

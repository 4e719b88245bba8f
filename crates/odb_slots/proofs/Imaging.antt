-- The image of a body, put together, and read again.
use Rattle.std.proofs.Common.{◌≡◌, inl, inr, ℕ, zero, suc, ◌+◌, ◌-◌, ◌^◌, ◌<◌, ◌≤◌, Bool, true, ◌&&◌, List, [], ◌∷◌, ◌++◌, length, take, drop, replicate, Some, sym, ◌∙◌, ap, refl, append_assoc, arith, length-append}
use Rattle.std.specs.Prelude.{◌||◌, ◌==◌, if◌then◌else◌, None}
use Rattle.std.specs.Int.{w16, w32, w64, to_be_bytes, is_in_range}
use Rattle.std.proofs.lemmas.Bool.{and_from, le-leb, eq-eqb}
use Rattle.std.proofs.lemmas.List.{take_at, drop_at, take-append-drop, drop-replicate, length-replicate}
use Rattle.std.proofs.lemmas.Nat.{from_be_bytes-to_be_bytes_2, from_be_bytes-to_be_bytes_4, from_be_bytes-to_be_bytes_8}
use Rattle.std.proofs.Math.Seq.{drop-append-add}
use Rattle.odb_device.specs.Images.{part}
use Rattle.odb_slots.specs.Bodies.{IsKind, IsInGrammar, IsTyped, head_image, slot_image, head_in, is_head, are_zeros, item_by, item_with, item_in}
use Rattle.odb_slots.specs.declared.head.Head.{Head}
use Rattle.odb_slots.specs.declared.item.SlotItem.{SlotItem}

-- bytes that are put behind a front, with zeros behind them
pub put_more : (at n : ℕ) (front bytes old new : List ℕ) → at ≡ length front → n ≡ at + length bytes
    → old ≡ front ++ replicate (1023 - length front) 0 → take n new ≡ take at old ++ bytes → drop n new ≡ drop n old
    → new ≡ (front ++ bytes) ++ replicate (1023 - length (front ++ bytes)) 0
put_more at n front bytes old new long end is first rest =
    let zeros : List ℕ = replicate (1023 - length front) 0 in
    let to : n ≡ length front + length bytes = omega arith in
    let left : 1023 - length front - length bytes ≡ 1023 - length (front ++ bytes) = omega (arith, length-append front bytes) in
    let begins : take n new ≡ front ++ bytes = first ∙ ap (λ (l : List ℕ). take at l ++ bytes) is ∙ ap (λ (l : List ℕ). l ++ bytes) (take_at front zeros at (sym long)) in
    let ends : drop n new ≡ replicate (1023 - length (front ++ bytes)) 0 =
    rest ∙ ap (drop n) is ∙ ap (λ (k : ℕ). drop k (front ++ zeros)) to ∙ drop-append-add front zeros (length bytes)
    ∙ drop-replicate (length bytes) (1023 - length front) 0 ∙ ap (λ (k : ℕ). replicate k 0) left in
    sym (take-append-drop n new) ∙ ap (λ (l : List ℕ). l ++ drop n new) begins ∙ ap (λ (l : List ℕ). (front ++ bytes) ++ l) ends

glue : (kind : List ℕ) (t u s v k l r q key x row y z w : List ℕ) → t ≡ u → s ≡ v → k ≡ l → r ≡ q → key ≡ x → row ≡ y → z ≡ w
    → (((((((kind ++ t) ++ s) ++ k) ++ r) ++ key) ++ row) ++ z) ≡ (((((((kind ++ u) ++ v) ++ l) ++ q) ++ x) ++ y) ++ w)
glue kind t u s v k l r q key x row y z w a b c d e f g = cc

-- the seven that a body is put together of
module _ (item : SlotItem) (t s k r key row : List ℕ) (is_table : t ≡ to_be_bytes w32 item.table) (is_stamp : s ≡ to_be_bytes w64 item.stamp)
    (is_key_size : k ≡ to_be_bytes w16 (length key)) (is_row_size : r ≡ to_be_bytes w16 (length row)) (is_key : key ≡ item.key) (is_row : row ≡ item.row) where
  abbrev kind : List ℕ
  kind = item.kind ∷ []

  sizes : (length t ≡ 4) × (length s ≡ 8) × (length k ≡ 2) × (length r ≡ 2)
  sizes = (ap (λ (l : List ℕ). length l) is_table, ap (λ (l : List ℕ). length l) is_stamp, ap (λ (l : List ℕ). length l) is_key_size, ap (λ (l : List ℕ). length l) is_row_size)

  abbrev h5 : List ℕ
  h5 = (((kind ++ t) ++ s) ++ k) ++ r

  length_head : (length (kind ++ t) ≡ 5) × (length ((kind ++ t) ++ s) ≡ 13) × (length (((kind ++ t) ++ s) ++ k) ≡ 15) × (length h5 ≡ 17)
  length_head =
      let a : length (kind ++ t) ≡ 5 = omega (arith, sizes.0, length-append kind t) in
      let b : length ((kind ++ t) ++ s) ≡ 13 = omega (arith, a, sizes.1, length-append (kind ++ t) s) in
      let c : length (((kind ++ t) ++ s) ++ k) ≡ 15 = omega (arith, b, sizes.2, length-append ((kind ++ t) ++ s) k) in
      (a, b, c, omega (arith, c, sizes.3, length-append (((kind ++ t) ++ s) ++ k) r))

  whole : (body : List ℕ) → body ≡ ((h5 ++ key) ++ row) ++ replicate (1023 - length ((h5 ++ key) ++ row)) 0 → body ≡ slot_image item
  unfolding slot_image
  whole body is =
      let long_key : length key ≡ length item.key = ap (λ (l : List ℕ). length l) is_key in
      let long_row : length row ≡ length item.row = ap (λ (l : List ℕ). length l) is_row in
      let left : 1023 - length ((h5 ++ key) ++ row) ≡ 1006 - (length item.key + length item.row) =
      omega (arith, length_head.3, long_key, long_row, length-append (h5 ++ key) row, length-append h5 key) in
      is ∙ glue kind t (to_be_bytes w32 item.table) s (to_be_bytes w64 item.stamp) k (to_be_bytes w16 (length item.key)) r (to_be_bytes w16 (length item.row)) key item.key row item.row _ _
      is_table is_stamp (is_key_size ∙ ap (to_be_bytes w16) long_key) (is_row_size ∙ ap (to_be_bytes w16) long_row) is_key is_row (ap (λ (n : ℕ). replicate n 0) left)

  pub image_put : (b1 b2 b3 b4 b5 b6 b7 : List ℕ)
      → take 1 b1 ≡ kind → drop 1 b1 ≡ replicate 1022 0
      → take (1 + length t) b2 ≡ take 1 b1 ++ t → drop (1 + length t) b2 ≡ drop (1 + length t) b1
      → take (5 + length s) b3 ≡ take 5 b2 ++ s → drop (5 + length s) b3 ≡ drop (5 + length s) b2
      → take (13 + length k) b4 ≡ take 13 b3 ++ k → drop (13 + length k) b4 ≡ drop (13 + length k) b3
      → take (15 + length r) b5 ≡ take 15 b4 ++ r → drop (15 + length r) b5 ≡ drop (15 + length r) b4
      → take (17 + length key) b6 ≡ take 17 b5 ++ key → drop (17 + length key) b6 ≡ drop (17 + length key) b5
      → take (17 + length key + length row) b7 ≡ take (17 + length key) b6 ++ row
      → drop (17 + length key + length row) b7 ≡ drop (17 + length key + length row) b6
      → b7 ≡ slot_image item
  image_put b1 b2 b3 b4 b5 b6 b7 f1 r1 f2 r2 f3 r3 f4 r4 f5 r5 f6 r6 f7 r7 =
      let s1 : b1 ≡ kind ++ replicate (1023 - length kind) 0 = sym (take-append-drop 1 b1) ∙ ap (λ (l : List ℕ). l ++ drop 1 b1) f1 ∙ ap (λ (l : List ℕ). kind ++ l) r1 in
      let s2 = put_more 1 (1 + length t) kind t b1 b2 refl refl s1 f2 r2 in
      let s3 = put_more 5 (5 + length s) (kind ++ t) s b2 b3 (sym length_head.0) refl s2 f3 r3 in
      let s4 = put_more 13 (13 + length k) ((kind ++ t) ++ s) k b3 b4 (sym length_head.1) refl s3 f4 r4 in
      let s5 = put_more 15 (15 + length r) (((kind ++ t) ++ s) ++ k) r b4 b5 (sym length_head.2) refl s4 f5 r5 in
      let s6 = put_more 17 (17 + length key) h5 key b5 b6 (sym length_head.3) refl s5 f6 r6 in
      let s7 = put_more (17 + length key) (17 + length key + length row) (h5 ++ key) row b6 b7 (omega (arith, length_head.3, length-append h5 key)) refl s6 f7 r7 in
      whole b7 s7

pub length-slot_image : (item : SlotItem) → length item.key + length item.row ≤ 1006 → length (slot_image item) ≡ 1023
unfolding slot_image
length-slot_image item narrow =
    let zeros : List ℕ = replicate (1006 - (length item.key + length item.row)) 0 in
    let head : length (head_image item) ≡ 17 = refl in
    omega (
      arith,
      head,
      length-append (head_image item ++ item.key ++ item.row) zeros,
      length-append (head_image item ++ item.key) item.row,
      length-append (head_image item) item.key,
      length-replicate {A = ℕ} (1006 - (length item.key + length item.row)) 0,
    )

-- what the head of an image says
abbrev pub head_of : SlotItem → Head
head_of item = record { kind = item.kind; table = item.table; stamp = item.stamp; key = length item.key; row = length item.row }

abbrev head_from : ℕ → ℕ → ℕ → ℕ → ℕ → Head
head_from kind table stamp key row = record { kind = kind; table = table; stamp = stamp; key = key; row = row }

same_head : (kind table stamp key row t s k r : ℕ) → t ≡ table → s ≡ stamp → k ≡ key → r ≡ row
    → head_from kind t s k r ≡ head_from kind table stamp key row
same_head kind table stamp key row t s k r a b c d = cc

pub head_again : (item : SlotItem) → IsInGrammar item → IsTyped item → head_in (slot_image item) ≡ head_of item
unfolding slot_image head_in
head_again item fits typed =
    let key : length item.key < 2 ^ 16 = omega (arith, fits.narrow) in
    let row : length item.row < 2 ^ 16 = omega (arith, fits.narrow) in
    same_head item.kind item.table item.stamp (length item.key) (length item.row) _ _ _ _
    (from_be_bytes-to_be_bytes_4 item.table typed.table) (from_be_bytes-to_be_bytes_8 item.stamp typed.stamp)
    (from_be_bytes-to_be_bytes_2 (length item.key) key) (from_be_bytes-to_be_bytes_2 (length item.row) row)

range_passes : (low high n : ℕ) → low ≤ n → n ≤ high → is_in_range low high n ≡ true
range_passes low high n p q = and_from _ _ (le-leb low n p) (le-leb n high q)

-- its kind and its lengths pass the test
kind_passes : (item : SlotItem) → IsKind item → (item.kind == 1 || ((item.kind == 2) && (length item.row == 0))) ≡ true
kind_passes item (inl row) = rw (eq-eqb item.kind 1 row) refl
kind_passes item (inr mark) = rw (mark.0, mark.1) refl

pub head_passes : (item : SlotItem) → IsInGrammar item → is_head (head_of item) ≡ true
head_passes item fits =
    and_from _ _ (and_from _ _ (kind_passes item fits.kind) (range_passes 1 256 (length item.key) fits.some_key fits.short_key)) (le-leb _ _ fits.narrow)

zeros_pass : (n : ℕ) → are_zeros (replicate n 0) ≡ true
zeros_pass zero = refl
zeros_pass (suc n) = zeros_pass n

module _ (item : SlotItem) where
  abbrev zeros : List ℕ
  zeros = replicate (1006 - (length item.key + length item.row)) 0

  -- what stands behind the head
  image_behind : (n : ℕ) → drop (17 + n) (slot_image item) ≡ drop n (item.key ++ item.row ++ zeros)
  unfolding slot_image
  image_behind n = drop-append-add (head_image item) (item.key ++ item.row ++ zeros) n

  key_again : part 17 (length item.key) (slot_image item) ≡ item.key
  key_again =
      ap (take (length item.key)) (image_behind 0) ∙ ap (take (length item.key)) (append_assoc item.key item.row zeros) ∙ take_at item.key (item.row ++ zeros) (length item.key) refl

  row_again : part (17 + length item.key) (length item.row) (slot_image item) ≡ item.row
  row_again =
      ap (take (length item.row)) (image_behind (length item.key) ∙ ap (drop (length item.key)) (append_assoc item.key item.row zeros) ∙ drop_at item.key (item.row ++ zeros) (length item.key) refl)
      ∙ take_at item.row zeros (length item.row) refl

  rest_again : are_zeros (drop (17 + length item.key + length item.row) (slot_image item)) ≡ true
  rest_again =
      let there : 17 + length item.key + length item.row ≡ 17 + (length item.key + length item.row) = omega arith in
      ap (λ (n : ℕ). are_zeros (drop n (slot_image item))) there ∙ ap are_zeros (image_behind (length item.key + length item.row) ∙ drop_at (item.key ++ item.row) zeros (length item.key + length item.row) (length-append item.key item.row))
      ∙ zeros_pass (1006 - (length item.key + length item.row))

same_item : (item : SlotItem) (key row : List ℕ) → key ≡ item.key → row ≡ item.row
    → record item { key = key; row = row } ≡ item
same_item item key row k r = ap (λ (l : List ℕ). record item { key = l; row = row }) k ∙ ap (λ (l : List ℕ). record item { row = l }) r

-- the reading of an item's body gives back the item
pub item_again : (item : SlotItem) → IsInGrammar item → IsTyped item → item_in item.slot (slot_image item) ≡ Some item
item_again item fits typed =
    let test : (is_head (head_of item) && are_zeros (drop (17 + length item.key + length item.row) (slot_image item))) ≡ true = and_from _ _ (head_passes item fits) (rest_again item) in
    ap (λ (h : Head). item_with item.slot h (slot_image item)) (head_again item fits typed)
    ∙ ap (λ (b : Bool). if b then Some (item_by item.slot (head_of item) (slot_image item)) else None) test
    ∙ ap Some (same_item item (part 17 (length item.key) (slot_image item)) (part (17 + length item.key) (length item.row) (slot_image item)) (key_again item) (row_again item))

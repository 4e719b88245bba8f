-- Entries, keys and rows as a whole: what is read has the image that was read, and an image is read as what it is of.
use Rattle.std.proofs.Common.{◌≡◌, ℕ, ◌^◌, ◌<◌, ◌≤◌, true, cond, eqb, leb, List, [], ◌∷◌, ◌++◌, length, None, Ok, Err, refl, sym, ap, subst, ◌∙◌, append_assoc, arith}
use Rattle.std.specs.Int.{Width, w8, w16, to_be_bytes, is_in_range}
use Rattle.std.specs.List.{flat_map}
use Rattle.std.proofs.lemmas.Bool.{eqb-true, leb-true, le-leb}
use Rattle.std.proofs.lemmas.List.{append-nil, nil_from_length}
use Rattle.std.proofs.lemmas.List.Elements.{All-from_recursion, recursion_from_All}
use Rattle.odb_values.specs.declared.value.Value.{Value}
use Rattle.odb_model.specs.declared.entry.Entry.{Entry}
use Rattle.odb_codec.specs.Image.{values_image, write_image, entry_image, IsTyped, IsTypedWrite, KeyHasImage, RowHasImage, IsStorable, HasImage}
use Rattle.odb_model.specs.Width.{width_of_write}
use Rattle.odb_codec.specs.Reading.{◌>>=◌, number_at, number_between, values_in, is_key, writes_at, read_entry, read_key, read_row}
use Rattle.odb_codec.proofs.Steps.{IsBytes, bind_ok, guard_ok, Takes, Takes-then}
use Rattle.odb_codec.proofs.Numbers.{IsWide, wide8, wide16, number_takes, number_again}
use Rattle.odb_codec.proofs.Agree.{values_take, values_again, length-values_image}
use Rattle.odb_codec.proofs.Keys.{in_range, range_passes, IsKey-from_test, test_from-IsKey}
use Rattle.odb_codec.proofs.Order.{sorted_from_ascend, ascend_from_sorted}
use Rattle.odb_codec.proofs.Writes.{writes_take, writes_again}

between_takes : (low high : ℕ) (w : Width) (limit : ℕ) (wide : IsWide w limit) (bytes : List ℕ) (x : ℕ × List ℕ) → IsBytes bytes → number_between low high w bytes ≡ Ok x → Takes bytes (to_be_bytes w x.0) x.1 × (low ≤ x.0) × (x.0 ≤ high)
unfolding number_between
between_takes low high w limit wide bytes x fits e =
    let a = bind_ok (number_at w bytes) (λ n. cond (is_in_range low high n.0) (Ok n) (Err (length bytes))) x e in
    let t = number_takes w limit wide bytes a.0.0 a.0.1 fits a.1 in
    let g = guard_ok (is_in_range low high a.0.0) (length bytes) a.0 x a.2 in
    let range = in_range low high a.0.0 g.0 in
    subst (λ (y : ℕ × List ℕ). Takes bytes (to_be_bytes w y.0) y.1 × (low ≤ y.0) × (y.0 ≤ high)) g.1 (t.0, range.0, range.1)

between_again : (low high : ℕ) (w : Width) (limit : ℕ) (wide : IsWide w limit) (n : ℕ) (rest : List ℕ) → high < limit → low ≤ n → n ≤ high → number_between low high w (to_be_bytes w n ++ rest) ≡ Ok (n, rest)
unfolding number_between
between_again low high w limit wide n rest lt p q =
    rw (number_again w limit wide n rest (omega arith), range_passes low high n p q) refl

one_byte : (n : ℕ) → n ≤ 64 → to_be_bytes w8 n ≡ n ∷ []
one_byte n le = ap (λ (b : ℕ). b ∷ []) (omega arith)

pub entry_takes : (number : ℕ) (bytes : List ℕ) (entry : Entry) → IsBytes bytes → read_entry number bytes ≡ Ok entry → (entry.number ≡ number) × HasImage entry × (bytes ≡ entry_image entry)
unfolding read_entry entry_image
entry_takes number bytes entry fits e =
    let a = bind_ok (number_between 1 64 w8 bytes) (λ by. number_between 1 4096 w16 by.1 >>= λ count. writes_at None count.0 count.1 >>= λ writes. cond (eqb (length writes.1) 0) (Ok (record { number = number; by = by.0; writes = writes.0 })) (Err (length writes.1))) entry e in
    let b = bind_ok (number_between 1 4096 w16 a.0.1) (λ count. writes_at None count.0 count.1 >>= λ writes. cond (eqb (length writes.1) 0) (Ok (record { number = number; by = a.0.0; writes = writes.0 })) (Err (length writes.1))) entry a.2 in
    let w = bind_ok (writes_at None b.0.0 b.0.1) (λ writes. cond (eqb (length writes.1) 0) (Ok (record { number = number; by = a.0.0; writes = writes.0 })) (Err (length writes.1))) entry b.2 in
    let made : Entry = record { number = number; by = a.0.0; writes = w.0.0 } in
    let g = guard_ok (eqb (length w.0.1) 0) (length w.0.1) made entry w.2 in
    let by = between_takes 1 64 w8 (2 ^ 8) wide8 bytes a.0 fits a.1 in
    let count = between_takes 1 4096 w16 (2 ^ 16) wide16 a.0.1 b.0 by.0.rest_fits b.1 in
    let writes = writes_take None b.0.0 b.0.1 w.0 count.0.rest_fits w.1 in
    let nothing : w.0.1 ≡ [] = nil_from_length w.0.1 (eqb-true (length w.0.1) 0 g.0) in
    let two = Takes-then bytes (to_be_bytes w8 a.0.0) a.0.1 (to_be_bytes w16 b.0.0) b.0.1 by.0 count.0 in
    let three = Takes-then bytes (to_be_bytes w8 a.0.0 ++ to_be_bytes w16 b.0.0) b.0.1 (flat_map write_image w.0.0) w.0.1 two writes.takes in
    let whole : bytes ≡ entry_image made =
    three.parts
    ∙ ap (λ (r : List ℕ). (to_be_bytes w8 a.0.0 ++ to_be_bytes w16 b.0.0 ++ flat_map write_image w.0.0) ++ r) nothing
    ∙ append-nil (to_be_bytes w8 a.0.0 ++ to_be_bytes w16 b.0.0 ++ flat_map write_image w.0.0)
    ∙ ap (λ (f : List ℕ). f ++ to_be_bytes w16 b.0.0 ++ flat_map write_image w.0.0) (one_byte a.0.0 by.2)
    ∙ ap (λ (k : ℕ). (a.0.0 ∷ []) ++ to_be_bytes w16 k ++ flat_map write_image w.0.0) (sym writes.all) in
    let storable : IsStorable made = record {
      by = (by.1, by.2);
      some = omega (arith, writes.all, count.1);
      writes = record {
        few = omega (arith, writes.all, count.2);
        ascending = sorted_from_ascend None w.0.0 writes.ascend;
        narrow = All-from_recursion (λ w. width_of_write w ≤ 1006) w.0.0 writes.narrow;
      };
    } in
    subst (λ (y : Entry). (y.number ≡ number) × HasImage y × (bytes ≡ entry_image y)) g.1
    (refl, record { storable = storable; typed = All-from_recursion IsTypedWrite w.0.0 writes.typed }, whole)

pub entry_again : (number : ℕ) (e : Entry) → HasImage e → read_entry number (entry_image e) ≡ Ok (record e { number = number })
unfolding read_entry entry_image
entry_again number e has =
    let by = e.by in
    let count = to_be_bytes w16 (length e.writes) in
    let images = flat_map write_image e.writes in
    let regrouped : (e.by ∷ []) ++ count ++ images ≡ to_be_bytes w8 e.by ++ (count ++ (images ++ [])) =
    append_assoc (e.by ∷ []) count images
    ∙ ap (λ (f : List ℕ). f ++ (count ++ images)) (sym (one_byte e.by has.storable.by.1))
    ∙ ap (λ (r : List ℕ). to_be_bytes w8 e.by ++ (count ++ r)) (sym (append-nil images)) in
    ap (read_entry number) regrouped
    ∙ rw (
      between_again 1 64 w8 (2 ^ 8) wide8 e.by (count ++ (images ++ [])) (omega arith) has.storable.by.0 has.storable.by.1,
      between_again 1 4096 w16 (2 ^ 16) wide16 (length e.writes) (images ++ []) (omega arith) has.storable.some has.storable.writes.few,
      writes_again None e.writes [] (recursion_from_All IsTypedWrite e.writes has.typed) (recursion_from_All (λ w. width_of_write w ≤ 1006) e.writes has.storable.writes.narrow) (ascend_from_sorted e.writes has.storable.writes.ascending),
    ) refl

pub key_found : (bytes : List ℕ) (key : List Value) → IsBytes bytes → read_key bytes ≡ Ok key → KeyHasImage key × (bytes ≡ values_image key)
unfolding read_key
key_found bytes key fits e =
    let a = bind_ok (values_in bytes) (λ values. cond (is_key values) (Ok values) (Err (length bytes))) key e in
    let t = values_take bytes a.0 fits a.1 in
    let g = guard_ok (is_key a.0) (length bytes) a.0 key a.2 in
    subst (λ (y : List Value). KeyHasImage y × (bytes ≡ values_image y)) g.1
    (record { key = IsKey-from_test a.0 g.0; typed = All-from_recursion IsTyped a.0 t.1 }, t.0)

pub key_read : (key : List Value) → KeyHasImage key → read_key (values_image key) ≡ Ok key
unfolding read_key
key_read key has = rw (values_again key (recursion_from_All IsTyped key has.typed), test_from-IsKey key has.key) refl

pub row_found : (bytes : List ℕ) (row : List Value) → IsBytes bytes → read_row bytes ≡ Ok row → RowHasImage row × (bytes ≡ values_image row)
unfolding read_row
row_found bytes row fits e =
    let a = bind_ok (values_in bytes) (λ values. cond (leb (length bytes) 1006) (Ok values) (Err (length bytes))) row e in
    let t = values_take bytes a.0 fits a.1 in
    let g = guard_ok (leb (length bytes) 1006) (length bytes) a.0 row a.2 in
    let narrow = leb-true (length bytes) 1006 g.0 in
    subst (λ (y : List Value). RowHasImage y × (bytes ≡ values_image y)) g.1
    (record { narrow = omega (arith, narrow, ap length t.0, length-values_image a.0); typed = All-from_recursion IsTyped a.0 t.1 }, t.0)

pub row_read : (row : List Value) → RowHasImage row → read_row (values_image row) ≡ Ok row
unfolding read_row
row_read row has =
    let passes : leb (length (values_image row)) 1006 ≡ true = le-leb _ _ (omega (arith, has.narrow, length-values_image row)) in
    rw (values_again row (recursion_from_All IsTyped row has.typed), passes) refl

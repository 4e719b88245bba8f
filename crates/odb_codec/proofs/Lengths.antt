-- How long images are.
use Rattle.std.proofs.Common.{◌≡◌, ℕ, suc, ◌+◌, ◌≤◌, List, [], ◌∷◌, ◌++◌, length, Option, Some, None, refl, sym, ap, ◌∙◌, arith}
use Rattle.std.specs.Int.{w16, w32, to_be_bytes}
use Rattle.std.specs.List.{sum_by}
use Rattle.std.proofs.lemmas.List.{length-append}
use Rattle.std.proofs.lemmas.List.Concat.{length-flat_map}
use Rattle.std.proofs.lemmas.List.Sums.{sum_by-cons}
use Rattle.odb_values.specs.declared.value.Value.{Value}
use Rattle.odb_values.specs.declared.value.Value.TheVariants.{Null, Int, Text}
use Rattle.odb_values.specs.Value.{width_of}
use Rattle.odb_values.specs.Key.{width_of_all}
use Rattle.odb_model.specs.declared.write.Write.{Write}
use Rattle.odb_model.specs.declared.entry.Entry.{Entry}
use Rattle.odb_codec.specs.Image.{counted, values_image, change_image, write_image, entry_image}
use Rattle.odb_model.specs.Width.{width_of_change, width_of_write, change_width, write_width, entry_width}
use Rattle.odb_codec.proofs.Agree.{length-values_image}

value_has_width : (v : Value) → 1 ≤ width_of v
value_has_width Null = omega arith
value_has_width (Int n) = omega arith
value_has_width (Text t) = omega arith

-- there are no more values than bytes
pub few_values : (vs : List Value) → length vs ≤ width_of_all vs
few_values [] = omega arith
few_values (v ∷ vs) = omega (arith, sum_by-cons width_of v vs, value_has_width v, few_values vs)

length-counted : (bytes : List ℕ) → length (counted bytes) ≡ 2 + length bytes
unfolding counted
length-counted bytes = length-append (to_be_bytes w16 (length bytes)) bytes

-- the bytes of a row with its length, if there is one
abbrev pub len_of_row : Option (List Value) → ℕ
len_of_row None = 0
len_of_row (Some row) = 2 + width_of_all row

length-change_image : (row : Option (List Value)) → length (change_image row) ≡ 1 + len_of_row row
unfolding change_image
length-change_image None = refl
length-change_image (Some row) = ap suc (length-counted (values_image row) ∙ ap (λ n. 2 + n) (length-values_image row)) ∙ omega arith

pub length-write_image : (w : Write) → length (write_image w) ≡ 11 + width_of_all w.key + len_of_row w.row
unfolding write_image
length-write_image w =
    let b = to_be_bytes w32 w.bank in
    let t = to_be_bytes w32 w.table in
    let k = counted (values_image w.key) in
    let c = change_image w.row in
    omega (arith, length-append (b ++ t ++ k) c, length-append (b ++ t) k, length-append b t, length-counted (values_image w.key), length-values_image w.key, length-change_image w.row)

pub length_deleted : (w : Write) → w.row ≡ None → length (write_image w) ≡ 11 + width_of_all w.key
length_deleted w is = length-write_image w ∙ omega (arith, ap len_of_row is)

pub length_put : (w : Write) (row : List Value) → w.row ≡ Some row → length (write_image w) ≡ 13 + width_of_all w.key + width_of_all row
length_put w row is = length-write_image w ∙ omega (arith, ap len_of_row is)

-- a row that a narrow write puts has few values
pub few_in_row : (w : Write) (row : List Value) → w.row ≡ Some row → width_of_write w ≤ 1006 → length row ≤ 1006
few_in_row w row is narrow = omega (arith, narrow, ap width_of_change is, few_values row)

-- the image of an entry has the width of the entry
change_has_width : (row : Option (List Value)) → 1 + len_of_row row ≡ change_width row
change_has_width None = refl
change_has_width (Some row) = omega arith

write_has_width : (w : Write) → length (write_image w) ≡ write_width w
write_has_width w = omega (arith, length-write_image w, change_has_width w.row)

writes_have_width : (writes : List Write) → sum_by (λ w. length (write_image w)) writes ≡ sum_by write_width writes
writes_have_width [] = refl
writes_have_width (w ∷ writes) =
    sum_by-cons (λ (w : Write). length (write_image w)) w writes ∙ omega (arith, write_has_width w, writes_have_width writes) ∙ sym (sum_by-cons write_width w writes)

pub length-entry_image : (e : Entry) → length (entry_image e) ≡ entry_width e
unfolding entry_image
length-entry_image e = omega (arith, length-flat_map write_image e.writes, writes_have_width e.writes)

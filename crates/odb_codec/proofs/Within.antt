-- A reader leaves no more bytes than it was given, and names a place inside them where it is at fault.
use Rattle.std.proofs.Common.{◌≡◌, ℕ, zero, suc, ◌≤◌, Bool, true, false, cond, ltb, List, [], ◌∷◌, length, take, drop, Option, Some, None, Result, Ok, Err, arith}
use Rattle.std.specs.Int.{Width, w8, w16, w32, w64, byte_len}
use Rattle.std.proofs.lemmas.List.{length-drop, length-take}
use Rattle.odb_values.specs.declared.value.Value.{Value}
use Rattle.odb_values.specs.Key.{width_of_all}
use Rattle.odb_model.specs.declared.table_key.TableKey.{TableKey}
use Rattle.odb_model.specs.State.{table_key_of}
use Rattle.odb_codec.specs.Reading.{Read, ◌>>=◌, number_at, number_between, text_at, behind_kind, as_one, value_at, values_upto, values_in, in_front_of, image_at, is_key, is_above, key_at, row_at, change_at, write_at, writes_at, read_entry, read_key, read_row}

abbrev pub Within : {A : Type 0} → ℕ → Read A → Type 0
Within n (Ok x) = length x.1 ≤ n
Within n (Err left) = left ≤ n

pub Within-then : {A B : Type 0} (n : ℕ) (r : Read A) (f : A × List ℕ → Read B) → Within n r → ((x : A × List ℕ) → length x.1 ≤ n → Within n (f x)) → Within n (r >>= f)
Within-then n (Ok x) f h next = next x h
Within-then n (Err left) f h next = h

pub Within-more : {A : Type 0} (m n : ℕ) (r : Read A) → m ≤ n → Within m r → Within n r
Within-more m n (Ok x) le h = omega arith
Within-more m n (Err left) le h = omega arith

-- a test between a value and a fault
pub Within-test : {A : Type 0} (n : ℕ) (b : Bool) (r s : Read A) → Within n r → Within n s → Within n (cond b r s)
Within-test n true r s h k = h
Within-test n false r s h k = k

pub number_within : (w : Width) (bytes : List ℕ) → Within (length bytes) (number_at w bytes)
unfolding number_at
number_within w bytes =
    Within-test (length bytes) _ (Err (length bytes)) (Ok (_, drop (byte_len w) bytes)) (omega arith) (omega (arith, length-drop (byte_len w) bytes))

pub text_within : (bytes : List ℕ) → Within (length bytes) (text_at bytes)
unfolding text_at
text_within bytes =
    Within-then (length bytes) (number_at w16 bytes) _ (number_within w16 bytes) (λ n le.
    Within-test (length bytes) _ (Ok (take n.0 n.1, drop n.0 n.1)) (Err (length bytes)) (omega (arith, length-drop n.0 n.1)) (omega arith))

pub kind_within : (kind : ℕ) (bytes : List ℕ) → Within (length bytes) (behind_kind kind bytes)
unfolding behind_kind
kind_within zero bytes = omega arith
kind_within (suc zero) bytes = Within-then (length bytes) (number_at w64 bytes) _ (number_within w64 bytes) (λ n le. le)
kind_within (suc (suc zero)) bytes = Within-then (length bytes) (text_at bytes) _ (text_within bytes) (λ t le. le)
kind_within (suc (suc (suc kind))) bytes = omega arith

pub value_within : (bytes : List ℕ) → Within (length bytes) (value_at bytes)
unfolding value_at
value_within [] = omega arith
value_within (kind ∷ bytes) = one (behind_kind kind bytes) (kind_within kind bytes)
  where
    one : (r : Read Value) → Within (length bytes) r → Within (suc (length bytes)) (as_one (kind ∷ bytes) r)
    one (Ok x) h = omega arith
    one (Err left) h = omega arith

-- the same of a reader that takes all of the bytes
abbrev pub FaultWithin : {A : Type 0} → ℕ → Result A ℕ → Type 0
FaultWithin n (Ok x) = Unit {0}
FaultWithin n (Err left) = left ≤ n

FaultWithin-then : {A B : Type 0} (n : ℕ) (r : Read A) (f : A × List ℕ → Result B ℕ) → Within n r → ((x : A × List ℕ) → length x.1 ≤ n → FaultWithin n (f x)) → FaultWithin n (r >>= f)
FaultWithin-then n (Ok x) f h next = next x h
FaultWithin-then n (Err left) f h next = h

FaultWithin-after : {A B : Type 0} (n : ℕ) (r : Result A ℕ) (f : A → Result B ℕ) → FaultWithin n r → ((x : A) → FaultWithin n (f x)) → FaultWithin n (r >>= f)
FaultWithin-after n (Ok x) f h next = next x
FaultWithin-after n (Err left) f h next = h

FaultWithin-more : {A : Type 0} (m n : ℕ) (r : Result A ℕ) → m ≤ n → FaultWithin m r → FaultWithin n r
FaultWithin-more m n (Ok x) le h = tt
FaultWithin-more m n (Err left) le h = omega arith

FaultWithin-test : {A : Type 0} (n : ℕ) (b : Bool) (r s : Result A ℕ) → FaultWithin n r → FaultWithin n s → FaultWithin n (cond b r s)
FaultWithin-test n true r s h k = h
FaultWithin-test n false r s h k = k

-- the fault of a reader is inside the bytes
pub fault_inside : {A : Type 0} (n : ℕ) (r : Result A ℕ) (left : ℕ) → FaultWithin n r → r ≡ Err left → left ≤ n
fault_inside n (Ok x) left h e = absurd cc
fault_inside n (Err l) left h e =
    let same : l ≡ left = cc in
    omega arith

upto_within : (most : ℕ) (bytes : List ℕ) → FaultWithin (length bytes) (values_upto most bytes)
unfolding values_upto
upto_within zero [] = tt
upto_within (suc most) [] = tt
upto_within zero (b ∷ bytes) = omega arith
upto_within (suc most) (b ∷ bytes) =
    FaultWithin-then (length (b ∷ bytes)) (value_at (b ∷ bytes)) _ (value_within (b ∷ bytes)) (λ first le.
    FaultWithin-after (length (b ∷ bytes)) (values_upto most first.1) _ (FaultWithin-more (length first.1) (length (b ∷ bytes)) (values_upto most first.1) le (upto_within most first.1)) (λ others. tt))

pub values_within : (bytes : List ℕ) → FaultWithin (length bytes) (values_in bytes)
unfolding values_in
values_within bytes = upto_within (length bytes) bytes

pub image_within : (len : ℕ) (bytes : List ℕ) → Within (length bytes) (image_at len bytes)
unfolding image_at
image_within len bytes = parts (values_in (take len bytes)) (values_within (take len bytes))
  where
    parts : (r : Result (List Value) ℕ) → FaultWithin (length (take len bytes)) r → Within (length bytes) (in_front_of (length (drop len bytes)) r >>= λ values. cond (ltb (length bytes) len) (Err 0) (Ok (values, drop len bytes)))
    parts (Ok values) h = Within-test (length bytes) _ (Err 0) (Ok (values, drop len bytes)) (omega arith) (omega (arith, length-drop len bytes))
    parts (Err left) h = omega (arith, length-drop len bytes, length-take len bytes)

pub key_within : (before : Option TableKey) (table : ℕ) (bytes : List ℕ) → Within (length bytes) (key_at before table bytes)
unfolding key_at
key_within before table bytes =
    Within-then (length bytes) (number_at w16 bytes) _ (number_within w16 bytes) (λ len le.
    Within-then (length bytes) (image_at len.0 len.1) _ (Within-more (length len.1) (length bytes) (image_at len.0 len.1) le (image_within len.0 len.1)) (λ key less.
    let above : Within (length bytes) (cond (is_above before (record { table = table; key = key.0 })) (Ok key) (Err (length len.1))) =
    Within-test (length bytes) (is_above before (record { table = table; key = key.0 })) (Ok key) (Err (length len.1)) less le in
    Within-test (length bytes) (is_key key.0) (cond (is_above before (record { table = table; key = key.0 })) (Ok key) (Err (length len.1))) (Err (length bytes)) above (omega arith)))

row_within : (key_width : ℕ) (bytes : List ℕ) → Within (length bytes) (row_at key_width bytes)
unfolding row_at
row_within key_width bytes =
    Within-then (length bytes) (number_at w16 bytes) _ (number_within w16 bytes) (λ len le.
    Within-then (length bytes) (image_at len.0 len.1) _ (Within-more (length len.1) (length bytes) (image_at len.0 len.1) le (image_within len.0 len.1)) (λ row less.
    Within-test (length bytes) _ (Ok row) (Err (length bytes)) less (omega arith)))

change_within : (key_width : ℕ) (bytes : List ℕ) → Within (length bytes) (change_at key_width bytes)
unfolding change_at
change_within key_width [] = omega arith
change_within key_width (zero ∷ bytes) = omega arith
change_within key_width (suc zero ∷ bytes) =
    Within-then (suc (length bytes)) (row_at key_width bytes) _ (Within-more (length bytes) (suc (length bytes)) (row_at key_width bytes) (omega arith) (row_within key_width bytes)) (λ row le. le)
change_within key_width (suc (suc flag) ∷ bytes) = omega arith

write_within : (before : Option TableKey) (bytes : List ℕ) → Within (length bytes) (write_at before bytes)
unfolding write_at
write_within before bytes =
    Within-then (length bytes) (number_at w32 bytes) _ (number_within w32 bytes) (λ bank le.
    Within-then (length bytes) (number_at w32 bank.1) _ (Within-more (length bank.1) (length bytes) (number_at w32 bank.1) le (number_within w32 bank.1)) (λ table le.
    Within-then (length bytes) (key_at before table.0 table.1) _ (Within-more (length table.1) (length bytes) (key_at before table.0 table.1) le (key_within before table.0 table.1)) (λ key le.
    Within-then (length bytes) (change_at (width_of_all key.0) key.1) _ (Within-more (length key.1) (length bytes) (change_at (width_of_all key.0) key.1) le (change_within (width_of_all key.0) key.1)) (λ change le. le))))

writes_within : (before : Option TableKey) (count : ℕ) (bytes : List ℕ) → Within (length bytes) (writes_at before count bytes)
unfolding writes_at
writes_within before zero bytes = omega arith
writes_within before (suc count) bytes =
    Within-then (length bytes) (write_at before bytes) _ (write_within before bytes) (λ first le.
    Within-then (length bytes) (writes_at (Some (table_key_of first.0)) count first.1) _ (Within-more (length first.1) (length bytes) (writes_at (Some (table_key_of first.0)) count first.1) le (writes_within (Some (table_key_of first.0)) count first.1)) (λ others le. le))

between_within : (low high : ℕ) (w : Width) (bytes : List ℕ) → Within (length bytes) (number_between low high w bytes)
unfolding number_between
between_within low high w bytes =
    Within-then (length bytes) (number_at w bytes) _ (number_within w bytes) (λ n le.
    Within-test (length bytes) _ (Ok n) (Err (length bytes)) le (omega arith))

pub entry_within : (number : ℕ) (bytes : List ℕ) → FaultWithin (length bytes) (read_entry number bytes)
unfolding read_entry
entry_within number bytes =
    FaultWithin-then (length bytes) (number_between 1 64 w8 bytes) _ (between_within 1 64 w8 bytes) (λ by le.
    FaultWithin-then (length bytes) (number_between 1 4096 w16 by.1) _ (Within-more (length by.1) (length bytes) (number_between 1 4096 w16 by.1) le (between_within 1 4096 w16 by.1)) (λ count le.
    FaultWithin-then (length bytes) (writes_at None count.0 count.1) _ (Within-more (length count.1) (length bytes) (writes_at None count.0 count.1) le (writes_within None count.0 count.1)) (λ writes le.
    FaultWithin-test (length bytes) _ (Ok _) (Err (length writes.1)) tt le)))

pub key_fault_within : (bytes : List ℕ) → FaultWithin (length bytes) (read_key bytes)
unfolding read_key
key_fault_within bytes =
    FaultWithin-after (length bytes) (values_in bytes) _ (values_within bytes) (λ key.
    FaultWithin-test (length bytes) _ (Ok key) (Err (length bytes)) tt (omega arith))

pub row_fault_within : (bytes : List ℕ) → FaultWithin (length bytes) (read_row bytes)
unfolding read_row
row_fault_within bytes =
    FaultWithin-after (length bytes) (values_in bytes) _ (values_within bytes) (λ row.
    FaultWithin-test (length bytes) _ (Ok row) (Err (length bytes)) tt (omega arith))

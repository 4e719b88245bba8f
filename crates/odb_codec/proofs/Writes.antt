-- Writes: what is read has the image that was read, and an image is read as what it is of.
use Rattle.std.proofs.Common.{◌≡◌, ℕ, zero, suc, ◌^◌, ◌≤◌, true, List, [], ◌∷◌, ◌++◌, length, Option, Some, None, Ok, refl, ap, subst, ◌∙◌, append_assoc}
use Rattle.std.specs.Prelude.{IfSome}
use Rattle.std.specs.Int.{w32, to_be_bytes}
use Rattle.std.specs.List.{flat_map, AllByRecursion}
use Rattle.std.proofs.lemmas.List.Concat.{flat_map-cons}
use Rattle.std.proofs.lemmas.List.Elements.{All-from_recursion, recursion_from_All}
use Rattle.odb_values.specs.declared.value.Value.{Value}
use Rattle.odb_values.specs.Key.{width_of_all}
use Rattle.odb_model.specs.declared.write.Write.{Write}
use Rattle.odb_model.specs.declared.table_key.TableKey.{TableKey}
use Rattle.odb_model.specs.State.{table_key_of}
use Rattle.odb_codec.specs.Image.{counted, values_image, change_image, write_image, IsTyped, AreTyped, IsTypedWrite}
use Rattle.odb_model.specs.Width.{width_of_write}
use Rattle.odb_codec.specs.Reading.{◌>>=◌, number_at, is_above, key_at, change_at, write_at, writes_at}
use Rattle.odb_codec.proofs.Steps.{IsBytes, bind_ok, ok_is, Takes, Takes-then}
use Rattle.odb_codec.proofs.Numbers.{wide32, number_takes, number_again}
use Rattle.odb_codec.proofs.Images.{key_takes, key_again, change_takes, change_again}
use Rattle.odb_codec.proofs.Order.{AscendFrom}

row_typed : (row : Option (List Value)) → IfSome row (AllByRecursion IsTyped) → IfSome row AreTyped
row_typed None h = tt
row_typed (Some row) h = All-from_recursion IsTyped row h

row_by_recursion : (row : Option (List Value)) → IfSome row AreTyped → IfSome row (AllByRecursion IsTyped)
row_by_recursion None h = tt
row_by_recursion (Some row) h = recursion_from_All IsTyped row h

-- what a write is that was read
pub record IsWriteRead (before : Option TableKey) (bytes : List ℕ) (w : Write) (rest : List ℕ) : Type 0 where
  pub takes : Takes bytes (write_image w) rest
  pub typed : IsTypedWrite w
  pub narrow : width_of_write w ≤ 1006
  pub above : is_above before (table_key_of w) ≡ true

pub write_takes : (before : Option TableKey) (bytes : List ℕ) (x : Write × List ℕ) → IsBytes bytes → write_at before bytes ≡ Ok x → IsWriteRead before bytes x.0 x.1
unfolding write_at write_image
write_takes before bytes x fits e =
    let a = bind_ok (number_at w32 bytes) (λ bank. number_at w32 bank.1 >>= λ table. key_at before table.0 table.1 >>= λ key. change_at (width_of_all key.0) key.1 >>= λ change. Ok (record { bank = bank.0; table = table.0; key = key.0; row = change.0 }, change.1)) x e in
    let b = bind_ok (number_at w32 a.0.1) (λ table. key_at before table.0 table.1 >>= λ key. change_at (width_of_all key.0) key.1 >>= λ change. Ok (record { bank = a.0.0; table = table.0; key = key.0; row = change.0 }, change.1)) x a.2 in
    let k = bind_ok (key_at before b.0.0 b.0.1) (λ key. change_at (width_of_all key.0) key.1 >>= λ change. Ok (record { bank = a.0.0; table = b.0.0; key = key.0; row = change.0 }, change.1)) x b.2 in
    let r = bind_ok (change_at (width_of_all k.0.0) k.0.1) (λ change. Ok (record { bank = a.0.0; table = b.0.0; key = k.0.0; row = change.0 }, change.1)) x k.2 in
    let bank = number_takes w32 (2 ^ 32) wide32 bytes a.0.0 a.0.1 fits a.1 in
    let table = number_takes w32 (2 ^ 32) wide32 a.0.1 b.0.0 b.0.1 bank.0.rest_fits b.1 in
    let key = key_takes before b.0.0 b.0.1 k.0 table.0.rest_fits k.1 in
    let change = change_takes (width_of_all k.0.0) k.0.1 r.0 key.is_key.narrow key.takes.rest_fits r.1 in
    let two = Takes-then bytes (to_be_bytes w32 a.0.0) a.0.1 (to_be_bytes w32 b.0.0) b.0.1 bank.0 table.0 in
    let three = Takes-then bytes (to_be_bytes w32 a.0.0 ++ to_be_bytes w32 b.0.0) b.0.1 (counted (values_image k.0.0)) k.0.1 two key.takes in
    let four = Takes-then bytes (to_be_bytes w32 a.0.0 ++ to_be_bytes w32 b.0.0 ++ counted (values_image k.0.0)) k.0.1 (change_image r.0.0) r.0.1 three change.0 in
    let made : Write × List ℕ = (record { bank = a.0.0; table = b.0.0; key = k.0.0; row = r.0.0 }, r.0.1) in
    subst (λ (y : Write × List ℕ). IsWriteRead before bytes y.0 y.1) {x = made} (ok_is made x r.2) (record {
      takes = four;
      typed = record { bank = bank.1; table = table.1; key = key.is_key; key_values = All-from_recursion IsTyped k.0.0 key.typed; row_values = row_typed r.0.0 change.1 };
      narrow = change.2;
      above = key.above;
    })

regrouped : (b t k c rest : List ℕ) → (b ++ t ++ k ++ c) ++ rest ≡ b ++ (t ++ (k ++ (c ++ rest)))
regrouped b t k c rest = simp append_assoc

pub write_again : (before : Option TableKey) (w : Write) (rest : List ℕ) → IsTypedWrite w → width_of_write w ≤ 1006 → is_above before (table_key_of w) ≡ true → write_at before (write_image w ++ rest) ≡ Ok (w, rest)
unfolding write_at write_image
write_again before w rest typed narrow above =
    let b = to_be_bytes w32 w.bank in
    let t = to_be_bytes w32 w.table in
    let k = counted (values_image w.key) in
    let c = change_image w.row in
    ap (write_at before) (regrouped b t k c rest)
    ∙ rw (
      number_again w32 (2 ^ 32) wide32 w.bank (t ++ (k ++ (c ++ rest))) typed.bank,
      number_again w32 (2 ^ 32) wide32 w.table (k ++ (c ++ rest)) typed.table,
      key_again before w.table w.key (c ++ rest) typed.key (recursion_from_All IsTyped w.key typed.key_values) above,
      change_again (width_of_all w.key) w.row rest narrow (row_by_recursion w.row typed.row_values),
    ) refl

-- what writes are that were read
pub record AreWritesRead (before : Option TableKey) (bytes : List ℕ) (count : ℕ) (ws : List Write) (rest : List ℕ) : Type 0 where
  pub takes : Takes bytes (flat_map write_image ws) rest
  pub all : length ws ≡ count
  pub typed : AllByRecursion IsTypedWrite ws
  pub narrow : AllByRecursion (λ w. width_of_write w ≤ 1006) ws
  pub ascend : AscendFrom before ws

pub writes_take : (before : Option TableKey) (count : ℕ) (bytes : List ℕ) (x : List Write × List ℕ) → IsBytes bytes → writes_at before count bytes ≡ Ok x → AreWritesRead before bytes count x.0 x.1
unfolding writes_at
writes_take before zero bytes x fits e =
    subst (λ (y : List Write × List ℕ). AreWritesRead before bytes 0 y.0 y.1) (ok_is ([], bytes) x e)
    (record { takes = record { parts = refl; rest_fits = fits }; all = refl; typed = tt; narrow = tt; ascend = tt })
writes_take before (suc count) bytes x fits e =
    let a = bind_ok (write_at before bytes) (λ first. writes_at (Some (table_key_of first.0)) count first.1 >>= λ others. Ok (first.0 ∷ others.0, others.1)) x e in
    let b = bind_ok (writes_at (Some (table_key_of a.0.0)) count a.0.1) (λ others. Ok (a.0.0 ∷ others.0, others.1)) x a.2 in
    let first = write_takes before bytes a.0 fits a.1 in
    let others = writes_take (Some (table_key_of a.0.0)) count a.0.1 b.0 first.takes.rest_fits b.1 in
    let both = Takes-then bytes (write_image a.0.0) a.0.1 (flat_map write_image b.0.0) b.0.1 first.takes others.takes in
    let made : List Write × List ℕ = (a.0.0 ∷ b.0.0, b.0.1) in
    subst (λ (y : List Write × List ℕ). AreWritesRead before bytes (suc count) y.0 y.1) {x = made} (ok_is made x b.2) (record {
      takes = rw flat_map-cons both;
      all = ap suc others.all;
      typed = (first.typed, others.typed);
      narrow = (first.narrow, others.narrow);
      ascend = (first.above, others.ascend);
    })

pub writes_again : (before : Option TableKey) (ws : List Write) (rest : List ℕ) → AllByRecursion IsTypedWrite ws → AllByRecursion (λ w. width_of_write w ≤ 1006) ws → AscendFrom before ws → writes_at before (length ws) (flat_map write_image ws ++ rest) ≡ Ok (ws, rest)
unfolding writes_at
writes_again before [] rest typed narrow ascend = refl
writes_again before (w ∷ ws) rest typed narrow ascend =
    let parts : flat_map write_image (w ∷ ws) ++ rest ≡ write_image w ++ (flat_map write_image ws ++ rest) = ap (λ (x : List ℕ). x ++ rest) (flat_map-cons write_image w ws) ∙ append_assoc (write_image w) (flat_map write_image ws) rest in
    ap (writes_at before (suc (length ws))) parts
    ∙ rw (write_again before w (flat_map write_image ws ++ rest) typed.0 narrow.0 ascend.0, writes_again (Some (table_key_of w)) ws rest typed.1 narrow.1 ascend.1) refl

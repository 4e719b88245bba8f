-- Reading writes one after another, as a loop does.
use Rattle.std.proofs.Common.{◌≡◌, ℕ, suc, ◌-◌, ◌+◌, ◌≤◌, ◌<◌, List, [], ◌∷◌, ◌++◌, length, get_or, Option, Some, Ok, Err, refl, sym, ap, ◌∙◌, append_assoc, arith}
use Rattle.std.specs.Prelude.{slice_get}
use Rattle.std.specs.Option.{option_map}
use Rattle.std.proofs.lemmas.List.{append-nil, length_push, get_or_push}
use Rattle.std.proofs.lemmas.Option.{slice_get-get_or}
use Rattle.odb_model.specs.declared.write.Write.{Write}
use Rattle.odb_model.specs.declared.table_key.TableKey.{TableKey}
use Rattle.odb_model.specs.State.{table_key_of}
use Rattle.odb_codec.specs.declared.fault.ReadError.{ReadError}
use Rattle.odb_codec.specs.declared.fault.ReadError.TheVariants.{Memory, Fault}
use Rattle.odb_codec.specs.Reading.{Read, ◌>>=◌, write_at, writes_at}
use Rattle.odb_codec.specs.Reader.{Fails}

-- what was read before, and what is still read
abbrev pub with_front : List Write → Read (List Write) → Read (List Write)
with_front front read = read >>= λ x. Ok (front ++ x.0, x.1)

-- the place of the last write, if there is one
abbrev pub last_key : List Write → Option TableKey
last_key ws = option_map table_key_of (slice_get ws (length ws - 1))

last_key-push : (front : List Write) (w : Write) → last_key (front ++ w ∷ []) ≡ Some (table_key_of w)
last_key-push front w =
    let all : length (front ++ w ∷ []) ≡ length front + 1 = length_push front w in
    let at : length (front ++ w ∷ []) - 1 ≡ length front = omega arith in
    let got : slice_get (front ++ w ∷ []) (length front) ≡ Some (get_or (front ++ w ∷ []) (length front) w) = slice_get-get_or (front ++ w ∷ []) (length front) w (omega arith) in
    let one : slice_get (front ++ w ∷ []) (length front) ≡ Some w = got ∙ ap Some (get_or_push front w w (length front) refl) in
    ap (λ i. option_map table_key_of (slice_get (front ++ w ∷ []) i)) at ∙ ap (option_map table_key_of) one

regroup : (front : List Write) (w : Write) (read : Read (List Write)) → with_front front (read >>= λ others. Ok (w ∷ others.0, others.1)) ≡ with_front (front ++ w ∷ []) read
regroup front w (Ok x) = ap (λ (ws : List Write). Ok (ws, x.1)) (simp append_assoc)
regroup front w (Err left) = refl

pub writes_go_on : (front : List Write) (count i : ℕ) (bytes : List ℕ) (w : Write) (after : List ℕ) (total : Read (List Write)) → i < count → write_at (last_key front) bytes ≡ Ok (w, after)
    → with_front front (writes_at (last_key front) (count - i) bytes) ≡ total → with_front (front ++ w ∷ []) (writes_at (last_key (front ++ w ∷ [])) (count - (i + 1)) after) ≡ total
unfolding writes_at
writes_go_on front count i bytes w after total lt h so_far =
    let k : count - i ≡ suc (count - (i + 1)) = omega arith in
    let one : with_front front (writes_at (last_key front) (count - i) bytes) ≡ with_front (front ++ w ∷ []) (writes_at (Some (table_key_of w)) (count - (i + 1)) after) =
    rw (k, h) (regroup front w (writes_at (Some (table_key_of w)) (count - (i + 1)) after)) in
    let two : with_front (front ++ w ∷ []) (writes_at (last_key (front ++ w ∷ [])) (count - (i + 1)) after) ≡ with_front (front ++ w ∷ []) (writes_at (Some (table_key_of w)) (count - (i + 1)) after) =
    ap (λ (p : Option TableKey). with_front (front ++ w ∷ []) (writes_at p (count - (i + 1)) after)) (last_key-push front w) in
    two ∙ sym one ∙ so_far

pub writes_end : (e : ReadError) (front : List Write) (count i : ℕ) (bytes : List ℕ) (total : Read (List Write)) → i < count → Fails e (write_at (last_key front) bytes)
    → with_front front (writes_at (last_key front) (count - i) bytes) ≡ total → Fails e total
unfolding writes_at
writes_end Memory front count i bytes total lt h so_far = tt
writes_end (Fault left) front count i bytes total lt h so_far =
    let k : count - i ≡ suc (count - (i + 1)) = omega arith in
    let one : with_front front (writes_at (last_key front) (count - i) bytes) ≡ Err left = rw (k, h) refl in
    sym so_far ∙ one

pub writes_done : (front : List Write) (count i : ℕ) (bytes : List ℕ) (total : Read (List Write)) → count ≤ i → with_front front (writes_at (last_key front) (count - i) bytes) ≡ total → total ≡ Ok (front, bytes)
unfolding writes_at
writes_done front count i bytes total le so_far =
    let k : count - i ≡ 0 = omega arith in
    let one : with_front front (writes_at (last_key front) (count - i) bytes) ≡ Ok (front, bytes) = rw k (ap (λ (ws : List Write). Ok (ws, bytes)) (append-nil front)) in
    sym so_far ∙ one

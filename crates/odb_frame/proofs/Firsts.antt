-- What bytes begin with that begin with a length.
use Rattle.std.proofs.Common.{◌≡◌, inl, inr, ℕ, ◌^◌, ◌<◌, ◌≤◌, Bool, List, [], ◌∷◌, ◌++◌, length, take, drop, Option, Some, None, Result, Ok, Err, refl, sym, ◌∙◌, ap, arith, append_assoc, length-append}
use Rattle.std.specs.Prelude.{if◌then◌else◌, nat_lt}
use Rattle.std.proofs.lemmas.Bool.{le-ltb, lt-ltb}
use Rattle.std.proofs.lemmas.List.{append-nil, append_cancel_left, drop-append-le, drop_all}
use Rattle.std.proofs.Math.Seq.{take-append_seam}
use Rattle.byteorder.specs.Endian.{big_bytes, big_number}
use Rattle.byteorder.specs.Numbers.{big_number-reads_back, length-bytes_high_first}
use Rattle.odb_frame.specs.declared.error.FrameError.{FrameError}
use Rattle.odb_frame.specs.declared.error.FrameError.TheVariants.{TooLong, Cut, LinkFault, NoMemory}
use Rattle.odb_frame.specs.Frames.{most_body, frame, frames, AreShort, first_body, first_of, answer_of, IsAnswer, IsTelling, NeedsEnd}
use Rattle.odb_frame.specs.Frames.First.{Part, Whole, Long}

-- at least a length
pub first_long : (bytes : List ℕ) → 4 ≤ length bytes → first_of bytes ≡ first_body (big_number 4 bytes) (drop 4 bytes)
first_long [] long = absurd (omega arith)
first_long (b ∷ bytes) long = ap (λ (t : Bool). if t then Part else first_body (big_number 4 (b ∷ bytes)) (drop 4 (b ∷ bytes))) (le-ltb (length (b ∷ bytes)) 4 long)

-- less than a length, and some
pub first_short : (bytes : List ℕ) → 0 < length bytes → length bytes < 4 → first_of bytes ≡ Part
first_short [] some short = absurd (omega arith)
first_short (b ∷ bytes) some short = ap (λ (t : Bool). if t then Part else first_body (big_number 4 (b ∷ bytes)) (drop 4 (b ∷ bytes))) (lt-ltb (length (b ∷ bytes)) 4 short)

-- a length and what stands behind it
pub first_head : (size : ℕ) (rest : List ℕ) → size < 2 ^ 32 → first_of (big_bytes 4 size ++ rest) ≡ first_body size rest
first_head size rest less =
    let head : List ℕ = big_bytes 4 size in
    let long : length head ≡ 4 = length-bytes_high_first 4 size in
    let behind : drop 4 (head ++ rest) ≡ rest = drop-append-le 4 head rest (omega arith) ∙ ap (λ (l : List ℕ). l ++ rest) (drop_all 4 head (omega arith)) in
    first_long (head ++ rest) (omega (arith, long, length-append head rest))
    ∙ ap (λ (n : ℕ). first_body n (drop 4 (head ++ rest))) (big_number-reads_back 4 size rest (omega arith))
    ∙ ap (first_body size) behind

pub body_long : (size : ℕ) (rest : List ℕ) → most_body < size → first_body size rest ≡ Long size
body_long size rest long = ap (λ (t : Bool). if t then Long size else (if nat_lt (length rest) size then Part else Whole (take size rest))) (lt-ltb most_body size long)

body_short : (size : ℕ) (rest : List ℕ) → size ≤ most_body → first_body size rest ≡ (if nat_lt (length rest) size then Part else Whole (take size rest))
body_short size rest short = ap (λ (t : Bool). if t then Long size else (if nat_lt (length rest) size then Part else Whole (take size rest))) (le-ltb most_body size short)

pub body_part : (size : ℕ) (rest : List ℕ) → size ≤ most_body → length rest < size → first_body size rest ≡ Part
body_part size rest short less = body_short size rest short ∙ ap (λ (t : Bool). if t then Part else Whole (take size rest)) (lt-ltb (length rest) size less)

pub body_whole : (size : ℕ) (rest : List ℕ) → size ≤ most_body → size ≤ length rest → first_body size rest ≡ Whole (take size rest)
body_whole size rest short room = body_short size rest short ∙ ap (λ (t : Bool). if t then Part else Whole (take size rest)) (le-ltb (length rest) size room)

-- a frame and what stands behind it
frame_first : (body rest : List ℕ) → length body < 2 ^ 32 → first_of (frame body ++ rest) ≡ first_body (length body) (body ++ rest)
frame_first body rest less = ap first_of (append_assoc (big_bytes 4 (length body)) body rest) ∙ first_head (length body) (body ++ rest) less

pub back : (body rest : List ℕ) → length body ≤ most_body → first_of (frame body ++ rest) ≡ Whole body
back body rest short =
    frame_first body rest (omega arith)
    ∙ body_whole (length body) (body ++ rest) short (omega (arith, length-append body rest))
    ∙ ap Whole (take-append_seam body rest)

pub too_long : (body rest : List ℕ) → most_body < length body → length body < 2 ^ 32 → first_of (frame body ++ rest) ≡ Long (length body)
too_long body rest long less = frame_first body rest less ∙ body_long (length body) (body ++ rest) long

same_body : (x y : List ℕ) → Whole x ≡ Whole y → x ≡ y
same_body x y e = cc

some_bytes : (body rest : List ℕ) → frame body ++ rest ≡ [] → ⊥
some_bytes body rest e = omega (arith, ap length e, length-append (frame body) rest, length-append (big_bytes 4 (length body)) body, length-bytes_high_first 4 (length body))

-- frames behind one another are those of one list of bodies
pub told_apart : (a b : List (List ℕ)) → AreShort a → AreShort b → frames a ≡ frames b → a ≡ b
told_apart [] [] p q e = refl
told_apart [] (y ∷ b) p q e = absurd (some_bytes y (frames b) (sym e))
told_apart (x ∷ a) [] p q e = absurd (some_bytes x (frames a) e)
told_apart (x ∷ a) (y ∷ b) p q e =
    let same : x ≡ y = same_body x y (sym (back x (frames a) p.0) ∙ ap first_of e ∙ back y (frames b) q.0) in
    let rest : frames a ≡ frames b = append_cancel_left (frame x) (frames a) (frames b) (e ∙ ap (λ (l : List ℕ). frame l ++ frames b) (sym same)) in
    ap (λ (l : List ℕ). l ∷ a) same ∙ ap (λ (l : List (List ℕ)). y ∷ l) (told_apart a b p.1 q.1 rest)

-- what is answered of the bytes received is what the whole input begins with
pub first_is : (bytes rest : List ℕ) (result : Result (Option (List ℕ)) FrameError) → IsAnswer bytes result → IsTelling result → (NeedsEnd result → rest ≡ []) → answer_of (first_of (bytes ++ rest)) ≡ result
first_is bytes rest (Ok None) is telling ends =
    ap (λ (l : List ℕ). answer_of (first_of (l ++ rest))) is ∙ ap (λ (l : List ℕ). answer_of (first_of l)) (ends (inl refl))
first_is bytes rest (Ok (Some body)) is telling ends =
    ap (λ (l : List ℕ). answer_of (first_of (l ++ rest))) is.0 ∙ ap answer_of (back body rest is.1)
first_is bytes rest (Err (TooLong size)) is telling ends =
    ap (λ (l : List ℕ). answer_of (first_of (l ++ rest))) is.0 ∙ ap answer_of (first_head size rest is.2 ∙ body_long size rest is.1)
first_is bytes rest (Err Cut) is telling ends =
    ap (λ (l : List ℕ). answer_of (first_of (bytes ++ l))) (ends (inr refl)) ∙ ap (λ (l : List ℕ). answer_of (first_of l)) (append-nil bytes) ∙ ap answer_of is
first_is bytes rest (Err LinkFault) is telling ends = absurd (telling.0 refl)
first_is bytes rest (Err NoMemory) is telling ends = absurd (telling.1 refl)

-- A head that was read is that of the file's bytes.
use Rattle.std.proofs.Common.{◌≡◌, ℕ, ◌+◌, ◌-◌, ◌≤◌, List, length, take, drop, sym, ◌∙◌, ap, arith}
use Rattle.std.specs.Prelude.{slice_index, Option, Some, None, IfSome}
use Rattle.std.specs.Int.{w32, w64, from_be_bytes}
use Rattle.std.proofs.lemmas.List.{drop-take, take-take, take_all, drop-drop}
use Rattle.odb_device.specs.World.{File}
use Rattle.odb_device.specs.Images.{part}
use Rattle.odb_device.specs.Calls.{HasRead}
use Rattle.odb_device.proofs.Bytes.{part_at}
use Rattle.odb_reclog.specs.Records.{gate_at, size_at, number_at}
use Rattle.odb_reclog.specs.Reading.{head_at}
use Rattle.odb_reclog.specs.declared.head.Head.{Head}

-- a part of a part
pub part-part : (at m i n : ℕ) (bytes : List ℕ) → i + n ≤ m → part i n (part at m bytes) ≡ part (at + i) n bytes
part-part at m i n bytes within =
    let rest = m - i in
    let all : m ≡ i + rest = omega arith in
    ap (λ (k : ℕ). take n (drop i (take k (drop at bytes)))) all
    ∙ ap (take n) (drop-take i rest (drop at bytes) ∙ ap (take rest) (drop-drop i at bytes))
    ∙ take-take n rest (drop (at + i) bytes) (omega arith)

pub part-take : (n i m : ℕ) (bytes : List ℕ) → i + m ≤ n → part i m (take n bytes) ≡ part i m bytes
part-take n i m bytes within =
    let there : 0 + i ≡ i = omega arith in
    part-part 0 n i m bytes within ∙ ap (λ (k : ℕ). part k m bytes) there

gate_part : (place : ℕ) (bytes : List ℕ) → gate_at 0 (part place 13 bytes) ≡ gate_at place bytes
unfolding gate_at
gate_part place bytes =
    let there : place + 0 ≡ place = omega arith in
    part_at place 13 bytes 0 (omega arith) ∙ ap (slice_index bytes) there

size_part : (place : ℕ) (bytes : List ℕ) → size_at 0 (part place 13 bytes) ≡ size_at place bytes
unfolding size_at
size_part place bytes = ap (from_be_bytes w32) (part-part place 13 1 4 bytes (omega arith))

number_part : (place : ℕ) (bytes : List ℕ) → number_at 0 (part place 13 bytes) ≡ number_at place bytes
unfolding number_at
number_part place bytes = ap (from_be_bytes w64) (part-part place 13 5 8 bytes (omega arith))

pub head_part : (place : ℕ) (bytes : List ℕ) → head_at 0 (part place 13 bytes) ≡ head_at place bytes
head_part place bytes = cc (gate_part place bytes, size_part place bytes, number_part place bytes)

pub head_of_part : (place n : ℕ) (bytes : List ℕ) (head : Head) → n ≡ 13 → head ≡ head_at 0 (part place n bytes)
    → head ≡ head_at place bytes
head_of_part place n bytes head size is = is ∙ ap (λ (k : ℕ). head_at 0 (part place k bytes)) size ∙ head_part place bytes

-- of bytes that hold those of the file from a place on
part_shown : (from held place n : ℕ) (window bytes : List ℕ) → take held window ≡ part from held bytes → from ≤ place
    → place + n ≤ from + held → part (place - from) n window ≡ part place n bytes
part_shown from held place n window bytes shows below above =
    let k = place - from in
    let there : from + k ≡ place = omega arith in
    sym (part-take held k n window (omega arith)) ∙ ap (part k n) shows ∙ part-part from held k n bytes (omega arith)
    ∙ ap (λ (p : ℕ). part p n bytes) there

pub bytes_shown : (o : Option File) (from held place size n : ℕ) (window out : List ℕ) → n ≡ size → out ≡ part (place - from) n window
    → from ≤ place → place + size ≤ from + held → IfSome o (λ f. take held window ≡ part from held f.bytes)
    → IfSome o (λ f. place + size ≤ length f.bytes → Some out ≡ Some (part place size f.bytes))
bytes_shown None from held place size n window out whole is below above shows = tt
bytes_shown (Some f) from held place size n window out whole is below above shows = λ long.
    ap Some (is ∙ ap (λ (k : ℕ). part (place - from) k window) whole ∙ part_shown from held place size window f.bytes shows below above)

head_shown : (from held place : ℕ) (window bytes : List ℕ) → take held window ≡ part from held bytes → from ≤ place
    → place + 13 ≤ from + held → head_at 0 (part (place - from) 13 window) ≡ head_at place bytes
head_shown from held place window bytes shows below above =
    ap (head_at 0) (part_shown from held place 13 window bytes shows below above) ∙ head_part place bytes

pub shows_head : (o : Option File) (from held place n : ℕ) (window : List ℕ) (head : Head) → n ≡ 13
    → head ≡ head_at 0 (part (place - from) n window) → from ≤ place → place + 13 ≤ from + held
    → IfSome o (λ f. take held window ≡ part from held f.bytes) → IfSome o (λ f. head ≡ head_at place f.bytes)
shows_head None from held place n window head size is below above shows = tt
shows_head (Some f) from held place n window head size is below above shows =
    is ∙ ap (λ (k : ℕ). head_at 0 (part (place - from) k window)) size ∙ head_shown from held place window f.bytes shows below above

-- of thirteen bytes that were read at a place
pub head_read : (o : Option File) (at n : ℕ) (out : List ℕ) (head : Head) → n ≡ 13 → length out ≡ 13 → head ≡ head_at 0 out
    → HasRead o at n out
    → IfSome o (λ f. at + 13 ≤ length f.bytes → Some head ≡ Some (head_at at f.bytes))
head_read None at n out head whole size is read = tt
head_read (Some f) at n out head whole size is read = λ long.
    let all : out ≡ part at 13 f.bytes = sym (take_all n out (omega arith)) ∙ read.1 ∙ ap (λ (k : ℕ). part at k f.bytes) whole in
    ap Some (is ∙ ap (head_at 0) all ∙ head_part at f.bytes)

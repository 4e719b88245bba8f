use Rattle.std.proofs.Common.{◌≡◌, ℕ, ◌+◌, ◌≤◌, List, ◌++◌, rules, length, take, drop, sym, ap, ◌∙◌, subst, le_refl, drop_at, length-take-le}
use Rattle.std.proofs.Math.Seq.{take-add}
use Rattle.std.proofs.lemmas.List.{take-append-le}
use Rattle.std.proofs.lemmas.Slice.{take-put_mid_below}
use Rattle.std.proofs.KnownBytes.{Consumes-trans}
use Rattle.std.specs.Io.KnownBytes.{Consumes}
use borrow.Rule.Slice.PartMut.{put_mid, post_of}
use Rattle.odb_folder.proofs.streams.fill.Goals as goal

-- behind the first `from` bytes, the part read there begins with what was read
take-put_mid_read : (from room n : ℕ) (xs ys : List ℕ) → from ≤ length xs → n ≤ length ys
    → take (from + n) (put_mid from room xs ys) ≡ take from xs ++ take n ys
take-put_mid_read from room n xs ys within fits =
    let behind = drop_at (take from xs) (ys ++ post_of from room xs) from (length-take-le from xs within) in
    take-add from n (put_mid from room xs ys)
    ∙ ap (λ l. l ++ take n (drop from (put_mid from room xs ys))) (take-put_mid_below from room xs ys from (le_refl from) within)
    ∙ ap (λ l. take from xs ++ take n l) behind
    ∙ ap (λ l. take from xs ++ l) (take-append-le n ys (post_of from room xs) fits)

pub loop-filled-preserved : goal.loop-filled-preserved
loop-filled-preserved g c =
    let read = c.in_ok-n.ensures in
    let grown = take-put_mid_read c.loop-filled.filled _ c.in_ok-n.n c.loop-filled.out c.read_once.new.out c.loop-filled.invariant.0 read.bound in
    (search rules, subst (Consumes _ _) (sym grown) (Consumes-trans _ _ _ _ _ c.loop-filled.invariant.1 read.bytes.0))

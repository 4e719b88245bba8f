use Rattle.std.proofs.Common.{◌≡◌, ℕ, List, ◌++◌, replicate, ◌∙◌, ap, append-nil}
use Rattle.std.specs.Int.{w32, to_be_bytes}
use borrow.Rule.Slice.PartMut.{put_mid}
use Rattle.odb_extent.specs.Opened.{value_with}
use Rattle.odb_extent.proofs.limits.value_with.Goals as goal

-- zeros with the limit and the fields at their places
abbrev built : List ℕ → List ℕ → List ℕ
built limit fields = put_mid 4 36 (put_mid 0 4 (replicate 40 0) limit) fields

built_is : (n : ℕ) (limit fields given : List ℕ) → limit ≡ to_be_bytes w32 n → fields ≡ given → built limit fields ≡ value_with n given
unfolding value_with
built_is n limit fields given limit_is fields_are =
    ap (λ (l : List ℕ). built l fields) limit_is ∙ ap (λ (l : List ℕ). to_be_bytes w32 n ++ l) (append-nil fields ∙ fields_are)

pub returns : goal.returns
returns c = built_is c.args.limit c.copy_from_slice.new.self c.copy_from_slice-2.new.self c.args.fields.now (c.copy_from_slice.ensures.after ∙ c.to_be_bytes.ensures) c.copy_from_slice-2.ensures.after

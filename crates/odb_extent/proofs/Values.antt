-- The forty bytes of the pair: a limit and fields.
use Rattle.std.proofs.Common.{◌≡◌, ℕ, ◌<◌, ◌≤◌, ◌^◌, Bool, true, List, length, ◌∙◌, ap, arith}
use Rattle.std.specs.Prelude.{if◌then◌else◌}
use Rattle.std.specs.Int.{is_in_range}
use Rattle.std.proofs.lemmas.Bool.Decides.{nat_tests}
use Rattle.std.proofs.lemmas.List.{take_all}
use Rattle.std.proofs.lemmas.Nat.{from_be_bytes-to_be_bytes_4}
use Rattle.odb_pair.specs.Places.{Holds as PairHolds}
use Rattle.odb_extent.specs.Opened.{value_with, limit_in, fields_in, malformed, holding, with_pair, Holds}

pub limit_back : (n : ℕ) (fields : List ℕ) → n < 2 ^ 32 → limit_in (value_with n fields) ≡ n
unfolding limit_in value_with
limit_back n fields small = from_be_bytes-to_be_bytes_4 n small

pub fields_back : (n : ℕ) (fields : List ℕ) → length fields ≡ 36 → fields_in (value_with n fields) ≡ fields
unfolding fields_in value_with
fields_back n fields long = take_all 36 fields (omega arith)

-- what a file opens to whose pair holds a value with a lawful limit
pub opens_to : (most : ℕ) (value bytes : List ℕ) → PairHolds value bytes → 1 ≤ limit_in value → limit_in value ≤ most → Holds most (limit_in value) (fields_in value) bytes
opens_to most value bytes pair low high =
    let n = limit_in value in
    let lawful : is_in_range 1 most n ≡ true = grind (arith, nat_tests) in
    ap (with_pair most) pair ∙ ap (λ (b : Bool). if b then holding n (fields_in value) else malformed) lawful

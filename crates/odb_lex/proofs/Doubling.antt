-- Writing the pieces of a text between its quotes.
use Rattle.std.proofs.Common.{◌≡◌, ℕ, List, [], ◌∷◌, ◌++◌, refl, append_assoc}
use Rattle.odb_lex.specs.Quoted.{doubled}
use Rattle.odb_lex.proofs.Pieces.{HasNoQuote, doubled_none, doubled-append}

-- the first quote stands twice, and what follows it is doubled
doubled_first : (bs xs ys : List ℕ) → bs ≡ xs ++ 39 ∷ ys → HasNoQuote xs
    → doubled bs ≡ xs ++ 39 ∷ 39 ∷ doubled ys
doubled_first bs xs ys e none =
    let front : doubled xs ≡ xs = doubled_none xs none in
    let whole : doubled (xs ++ 39 ∷ ys) ≡ doubled xs ++ doubled (39 ∷ ys) = doubled-append xs (39 ∷ ys) in
    rw e (rw whole (rw front refl))

-- writing a piece and its quote twice leaves what stands behind it to be doubled
pub doubled_goes_on : (whole out rest piece after : List ℕ) → out ++ doubled rest ≡ whole
    → rest ≡ piece ++ 39 ∷ after → HasNoQuote piece
    → ((out ++ piece) ++ 39 ∷ 39 ∷ []) ++ doubled after ≡ whole
doubled_goes_on whole out rest piece after so_far e none =
    let first : doubled rest ≡ piece ++ 39 ∷ 39 ∷ doubled after = doubled_first rest piece after e none in
    let joined : out ++ (piece ++ 39 ∷ 39 ∷ doubled after) ≡ whole = rw first at so_far in
    simp append_assoc joined

-- A quoted text: a quote (39), the bytes of its value with each quote twice, and a quote.
use Rattle.std.specs.Prelude.{ℕ, ◌+◌, min, ◌==◌, nat_eq, nat_lt, if◌then◌else◌, List, [], ◌∷◌, ◌++◌, length, take, drop, codes, flat_map, Option, Some, None, Result, Ok, Err}
use Rattle.std.specs.List.{prefix_len, position_or_len, starts_with}
use Rattle.std.specs.Str.Lossy.{utf8_valid_len}
use Rattle.odb_values.specs.Text.{is_plain}
use Rattle.odb_lex.specs.declared.error.LexError.{LexError}
use Rattle.odb_lex.specs.declared.error.LexError.TheVariants.{BadCharacter, OpenText}

-- each quote twice
abbrev pub doubled : List ℕ → List ℕ
doubled value = flat_map (λ b. if b == 39 then 39 ∷ 39 ∷ [] else b ∷ []) value

-- a value between quotes, with each of its own quotes twice
abbrev pub in_quotes : List ℕ → List ℕ
in_quotes value = codes "'" ++ doubled value ++ codes "'"

-- the value that the bytes behind a first quote spell: up to a quote that isn't one of two, or to
-- their end
abbrev pub value_from : List ℕ → List ℕ
value_from [] = []
value_from (b ∷ []) = if b == 39 then [] else b ∷ []
value_from (b ∷ c ∷ bytes) =
    if b == 39 then (if c == 39 then 39 ∷ value_from bytes else [])
    else b ∷ value_from (c ∷ bytes)

-- how many bytes at the front of a value are right: at most `most`, none before the first control
-- byte but tab is wrong, and the longest front that is UTF-8 (RFC 3629)
abbrev pub right_len : ℕ → List ℕ → ℕ
right_len most value = min most (min (prefix_len is_plain value) (utf8_valid_len value))

-- Where a text ends, from the bytes from `place` on, which follow its first quote, at `first`. Its
-- value may have `most` bytes. The first wrong byte of the value is refused where it is spelled;
-- without one the text wants its last quote.
abbrev pub text_end : ℕ → ℕ → ℕ → List ℕ → Result ℕ LexError
text_end first most place bytes =
    let value = value_from bytes in
    let right = right_len most value in
    if nat_lt right (length value)
    then Err (BadCharacter (place + length (doubled (take right value))))
    else (if length (doubled value) == length bytes then Err (OpenText first)
    else Ok (place + length (doubled value) + 1))

-- where the first quote stands, or the length where there is none
abbrev pub quote_in : List ℕ → ℕ
quote_in bytes = position_or_len (λ b. b == 39) bytes

-- where it stands if another follows it
abbrev pub pair_in : List ℕ → Option ℕ
pair_in bytes =
    let at = quote_in bytes in
    if starts_with nat_eq (drop at bytes) (codes "''") then Some at else None

use Rattle.std.proofs.Common.{◌≡◌, ◌==◌, ◌<◌, Bool, List, [], ◌∷◌, slice_index, filter, find, None, sym, ap, ◌∙◌, length, ℕ, arith, refl}
use Rattle.std.specs.Char.{to_ascii_lowercase}
use Rattle.std.specs.Str.{str_eq_ignore_ascii_case}
use Rattle.odb_model.specs.declared.keyword.Keyword.{Keyword}
use Rattle.odb_model.specs.Lexeme.{word_text, keywords, keyword_of}
use Rattle.odb_model.proofs.Finds.{find_within, alike_begin}
use Rattle.odb_model.proofs.keyword.Keyword.of.Goals as goal

pub returns-in-empty : goal.returns-in-empty
unfolding keyword_of word_text
returns-in-empty c = nothing c.args.word.now c.in-empty.len_below where
  nothing : (word : List ℕ) → length word < 1 → None ≡ keyword_of word
  nothing [] none = refl
  nothing (b ∷ word) none = absurd (omega arith)

pub returns-in-len1-up : goal.returns-in-len1-up
unfolding keyword_of
returns-in-len1-up c =
    let is_word : Keyword → Bool = λ keyword. str_eq_ignore_ascii_case (word_text keyword) c.args.word.now in
    let begins : ℕ → Keyword → Bool = λ letter keyword. to_ascii_lowercase (slice_index (word_text keyword) 0) == letter in
    c.found.ensures ∙ ap (find is_word) c.beginning_with.ensures
    ∙ ap (λ letter. find is_word (filter (begins letter) keywords)) c.to_ascii_lowercase.ensures.value
    ∙ sym (find_within is_word (begins (to_ascii_lowercase (slice_index c.args.word.now 0))) (λ keyword same. alike_begin (word_text keyword) c.args.word.now c.in-len1-up.len_at_least same) keywords)

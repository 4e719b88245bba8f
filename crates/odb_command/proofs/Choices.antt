-- Choices, and the words that spell them.
use Rattle.std.proofs.Common.{◌≡◌, ℕ, ◌<◌, ◌+◌, zero, suc, List, [], ◌∷◌, ◌++◌, length, get_or, map, take, codes, sym, ◌∙◌, ap, refl, ap₂, arith, append_assoc, add-one, true, false, Option, Some, None, IfSome, IfNone}
use Rattle.std.specs.List.{All}
use Rattle.std.specs.Borrow.{Bor}
use Rattle.std.specs.Fmt.{decimal}
use Rattle.std.proofs.lemmas.Fmt.{decimal_injective}
use Rattle.std.proofs.lemmas.List.{take_more, map-append}
use Rattle.std.proofs.lemmas.List.Elements.{All-head, All-push}
use Rattle.std.proofs.lemmas.Str.Pattern.{IsSplitOnceResult, split_after, split_parts}
use Rattle.odb_command.specs.declared.choice.Choice.{Choice}
use Rattle.odb_command.specs.Chosen.{choice_text, IsWide, IsSpelled, AreNumbers, Spell, AreChoices, banks_differ}
use Rattle.odb_command.proofs.Numbers.{no_sign}

-- the text with what stands before and behind its sign apart
text_apart : (c : Choice) → choice_text c ≡ decimal c.bank ++ (61 ∷ decimal c.file)
text_apart c = append_assoc (decimal c.bank) (codes "=") (decimal c.file)

-- a word without the sign spells no choice
pub none_without : (word : List ℕ) (r : Option (Bor (List ℕ) × Bor (List ℕ))) → IsSplitOnceResult 61 word r → r ≡ None → (c : Choice) → IsSpelled word c → ⊥
none_without word None split is c (spelled, wide) = split_after 61 word (decimal c.bank) (decimal c.file) None split (omega arith) (spelled ∙ text_apart c) (no_sign c.bank wide.0)
none_without word (Some x) split is c (spelled, wide) = cc

-- the parts of a word that is split at its sign are the numbers of each choice that it spells
pub parts_spelled : (word : List ℕ) (x : Bor (List ℕ) × Bor (List ℕ)) → IsSplitOnceResult 61 word (Some x) → (c : Choice) → IsSpelled word c → AreNumbers x.0.now x.1.now c
parts_spelled word x split c (spelled, wide) =
    let parts = split_after 61 word (decimal c.bank) (decimal c.file) (Some x) split (omega arith) (spelled ∙ text_apart c) (no_sign c.bank wide.0) in
    (parts.0, parts.1, wide)

-- and the other way round
pub spelled_by_parts : (word : List ℕ) (x : Bor (List ℕ) × Bor (List ℕ)) → IsSplitOnceResult 61 word (Some x) → (c : Choice) → AreNumbers x.0.now x.1.now c → IsSpelled word c
spelled_by_parts word x split c (bank, file, wide) =
    let parts = split_parts 61 word (Some x) split (omega arith) in
    (parts.0 ∙ ap (λ b. b ++ (61 ∷ x.1.now)) bank ∙ ap (λ f. decimal c.bank ++ (61 ∷ f)) file ∙ sym (text_apart c), wide)

-- two lists without a sign are the same where they stand before the sign of the same text
same_front : (c : ℕ) (xs ys r s : List ℕ) → ((k : ℕ) → k < length xs → get_or xs k 0 ≡ c → ⊥) → ((k : ℕ) → k < length ys → get_or ys k 0 ≡ c → ⊥) → xs ++ (c ∷ r) ≡ ys ++ (c ∷ s)
    → (xs ≡ ys) × (r ≡ s)
same_front c [] [] r s a b e = (refl, cc)
same_front c [] (y ∷ ys) r s a b e = let first : y ≡ c = cc in absurd (b 0 (omega arith) first)
same_front c (x ∷ xs) [] r s a b e = let first : x ≡ c = cc in absurd (a 0 (omega arith) first)
same_front c (x ∷ xs) (y ∷ ys) r s a b e =
    let first : x ≡ y = cc in
    let more : xs ++ (c ∷ r) ≡ ys ++ (c ∷ s) = cc in
    let rest = same_front c xs ys r s (λ k within is. a (k + 1) (omega arith) (rw add-one is)) (λ k within is. b (k + 1) (omega arith) (rw add-one is)) more in
    (cc (first, rest.0), rest.1)

abbrev choice_with : ℕ → ℕ → Choice
choice_with bank file = record { bank = bank; file = file }

-- a word spells one choice at most
pub one_choice : (c d : Choice) → IsWide c → IsWide d → choice_text c ≡ choice_text d → c ≡ d
one_choice c d wide also same =
    let parts = same_front 61 (decimal c.bank) (decimal d.bank) (decimal c.file) (decimal d.file) (no_sign c.bank wide.0) (no_sign d.bank also.0) (sym (text_apart c) ∙ same ∙ text_apart d) in
    let bank : c.bank ≡ d.bank = decimal_injective c.bank d.bank (omega arith) (omega arith) parts.0 in
    let file : c.file ≡ d.file = decimal_injective c.file d.file (omega arith) (omega arith) parts.1 in
    ap₂ choice_with bank file

wide_tail : (c : Choice) (cs : List Choice) → All IsWide (c ∷ cs) → All IsWide cs
wide_tail c cs wide = λ k d within. wide (suc k) d (omega arith)

-- words spell one list of choices at most
pub one_list : (words : List (List ℕ)) (cs ds : List Choice) → Spell words cs → Spell words ds → cs ≡ ds
one_list words [] [] first second = refl
one_list words [] (d ∷ ds) first second = let left = first.0 in let right = second.0 in cc
one_list words (c ∷ cs) [] first second = let left = first.0 in let right = second.0 in cc
one_list [] (c ∷ cs) (d ∷ ds) first second = let left = first.0 in cc
one_list (w ∷ words) (c ∷ cs) (d ∷ ds) first second =
    let left : w ∷ words ≡ choice_text c ∷ map choice_text cs = first.0 in
    let right : w ∷ words ≡ choice_text d ∷ map choice_text ds = second.0 in
    let text : choice_text c ≡ choice_text d = cc in
    let left_rest : words ≡ map choice_text cs = cc in
    let right_rest : words ≡ map choice_text ds = cc in
    let same : c ≡ d = one_choice c d (All-head IsWide c cs first.1) (All-head IsWide d ds second.1) text in
    let rest : cs ≡ ds = one_list words cs ds (left_rest, wide_tail c cs first.1) (right_rest, wide_tail d ds second.1) in
    cc (same, rest)

-- what is found of the parts of a word is found of the word
pub found_of_parts : (word : List ℕ) (x : Bor (List ℕ) × Bor (List ℕ)) (r : Option Choice) → IsSplitOnceResult 61 word (Some x) → IfSome r (AreNumbers x.0.now x.1.now) → IfSome r (IsSpelled word)
found_of_parts word x None split found = tt
found_of_parts word x (Some c) split found = spelled_by_parts word x split c found

pub none_of_parts : (word : List ℕ) (x : Bor (List ℕ) × Bor (List ℕ)) (r : Option Choice) → IsSplitOnceResult 61 word (Some x) → IfNone r ((c : Choice) → AreNumbers x.0.now x.1.now c → ⊥) → IfNone r ((c : Choice) → IsSpelled word c → ⊥)
none_of_parts word x None split none = λ c spelled. none c (parts_spelled word x split c spelled)
none_of_parts word x (Some c) split none = tt

-- choices of which two are of one databank are not lawful
pub none_differing : (words : List (List ℕ)) (choices : List Choice) → Spell words choices → banks_differ choices ≡ false → (cs : List Choice) → AreChoices (Some words) cs → ⊥
none_differing words choices spell same cs are =
    let one : choices ≡ cs = one_list words choices cs spell are.0 in
    let differ : banks_differ cs ≡ true = are.1 in
    let not : banks_differ choices ≡ banks_differ cs = ap banks_differ one in
    cc

abbrev pub texts_of : List (Bor (List ℕ)) → List (List ℕ)
texts_of = map (λ w. w.now)

-- one word more, and the choice that it spells
pub spell_more : (ws : List (Bor (List ℕ))) (i : ℕ) (w : Bor (List ℕ)) (cs : List Choice) (c : Choice) → i < length ws → w ≡ get_or ws i w → Spell (texts_of (take i ws)) cs → IsSpelled w.now c
    → Spell (texts_of (take (i + 1) ws)) (cs ++ c ∷ [])
spell_more ws i w cs c within here spell spelled =
    let longer : take (i + 1) ws ≡ take i ws ++ w ∷ [] = take_more ws i w within ∙ ap (λ x. take i ws ++ x ∷ []) (sym here) in
    let texts : texts_of (take (i + 1) ws) ≡ texts_of (take i ws) ++ w.now ∷ [] = ap texts_of longer ∙ map-append (λ x. x.now) (take i ws) (w ∷ []) in
    let more : map choice_text (cs ++ c ∷ []) ≡ map choice_text cs ++ choice_text c ∷ [] = map-append choice_text cs (c ∷ []) in
    let both : texts_of (take i ws) ++ w.now ∷ [] ≡ map choice_text cs ++ choice_text c ∷ [] = ap₂ (λ xs x. xs ++ x ∷ []) spell.0 spelled.0 in
    (texts ∙ both ∙ sym more, All-push IsWide cs c spell.1 spelled.1)

-- words of which one spells no choice spell no list of them
pub none_with_word : (ws : List (Bor (List ℕ))) (i : ℕ) (d : Bor (List ℕ)) → i < length ws → ((c : Choice) → IsSpelled (get_or ws i d).now c → ⊥) → (cs : List Choice) → Spell (texts_of ws) cs → ⊥
none_with_word [] i d within none cs spell = absurd (omega arith)
none_with_word (v ∷ ws) zero d within none [] spell = let left = spell.0 in cc
none_with_word (v ∷ ws) zero d within none (c ∷ cs) spell =
    let left : v.now ∷ texts_of ws ≡ choice_text c ∷ map choice_text cs = spell.0 in
    let text : v.now ≡ choice_text c = cc in
    none c (text, All-head IsWide c cs spell.1)
none_with_word (v ∷ ws) (suc i) d within none [] spell = let left = spell.0 in cc
none_with_word (v ∷ ws) (suc i) d within none (c ∷ cs) spell =
    let left : v.now ∷ texts_of ws ≡ choice_text c ∷ map choice_text cs = spell.0 in
    let rest : texts_of ws ≡ map choice_text cs = cc in
    none_with_word ws i d (omega arith) none cs (rest, wide_tail c cs spell.1)

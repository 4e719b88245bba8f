-- Choices of files, as words spell them.
use Rattle.std.specs.Prelude.{◌≡◌, ℕ, ◌^◌, ◌<◌, ◌==◌, Bool, true, ◌&&◌, not, List, [], ◌∷◌, ◌++◌, map, codes, IsTrue, Option, Some, None}
use Rattle.std.specs.List.{All, list_any}
use Rattle.std.specs.Fmt.{decimal}
use Rattle.odb_command.specs.declared.choice.Choice.{Choice}

-- a databank and the file that is chosen for it, as decimals joined by `=`
abbrev pub choice_text : Choice → List ℕ
choice_text choice = decimal choice.bank ++ codes "=" ++ decimal choice.file

-- both numbers are below 2^32
abbrev pub IsWide : Choice → Type 0
IsWide choice = (choice.bank < 2 ^ 32) × (choice.file < 2 ^ 32)

-- the word spells the choice
abbrev pub IsSpelled : List ℕ → Choice → Type 0
IsSpelled word choice = (word ≡ choice_text choice) × IsWide choice

-- the two words are the numbers of the choice
abbrev pub AreNumbers : List ℕ → List ℕ → Choice → Type 0
AreNumbers bank file choice =
    (bank ≡ decimal choice.bank) × (file ≡ decimal choice.file) × IsWide choice

abbrev pub is_of_bank : ℕ → Choice → Bool
is_of_bank bank choice = choice.bank == bank

-- no two choices name one databank
abbrev pub banks_differ : List Choice → Bool
banks_differ [] = true
banks_differ (choice ∷ choices) =
    not (list_any (is_of_bank choice.bank) choices) && banks_differ choices

-- the words spell these choices
abbrev pub Spell : List (List ℕ) → List Choice → Type 0
Spell words choices = (words ≡ map choice_text choices) × All IsWide choices

-- lawful choices are spelled; where no word is given there are none
abbrev pub AreChoices : Option (List (List ℕ)) → List Choice → Type 0
AreChoices None choices = choices ≡ []
AreChoices (Some words) choices = Spell words choices × IsTrue (banks_differ choices)

-- What is read of matches.
use Rattle.std.proofs.Common.{inl, inr, ◌≢◌, ◌≡◌, ℕ, Bool, false, List, [], codes, sym, ◌∙◌, ap, subst, Option, Some, None, Result, Ok, Err, IfSome, IfNone, IfOk, option_map}
use Rattle.std.specs.Fmt.{decimal}
use Rattle.std.specs.Str.{bytes_eq}
use Rattle.std.proofs.lemmas.Slice.Eq.{bytes_eq-Decides}
use Rattle.clap.specs.Matches.{first_value, matched_of, raw_values}
use Rattle.clap.specs.Walk.{Row, Text, first_of, all_of, rows_of}
use Rattle.clap.specs.Simple.{App, subcommand_of}
use Rattle.clap.specs.Kinds.{Kinds, HasKind, IsAmong}
use Rattle.clap.specs.Values.{kind_of}
use Rattle.clap.specs.declared.error.Error.{Error}
use Rattle.clap.specs.declared.error.kind.ErrorKind.TheVariants.{OutOfMemory}
use Rattle.clap.specs.Faults.{fault_of}
use Rattle.clap.specs.declared.parser.matches.Found.{Found}
use Rattle.clap.proofs.WalkLemmas.{first_value-rows, raw_values-rows}
use Rattle.odb_command.specs.declared.choice.Choice.{Choice}
use Rattle.odb_command.specs.declared.command.Command.{Command}
use Rattle.odb_command.specs.declared.error.CommandError.{CommandError}
use Rattle.odb_command.specs.declared.error.CommandError.TheVariants.{Usage}
use Rattle.odb_command.specs.Numbers.{IsDecimalIn}
use Rattle.odb_command.specs.Chosen.{AreChoices}
use Rattle.odb_command.specs.Words.{optsql_words}
use Rattle.odb_command.specs.Command.{IsNumber, IsFlag, IsMeantBy, IsCommand, AskForNone}

-- the first value of an argument, as the rows have it
pub first_in_rows : (f : Found) (id : Text) (v : Option Text) → v ≡ first_value f id → first_of id (rows_of f) ≡ v
first_in_rows f id v is = sym (first_value-rows f id) ∙ sym is

pub all_in_rows : (f : Found) (id : Text) (v : Option (List Text)) → v ≡ option_map raw_values (matched_of f id) → all_of id (rows_of f) ≡ v
all_in_rows f id v is = sym (raw_values-rows f id) ∙ sym is

same_some : (a b : List ℕ) → Some a ≡ Some b → a ≡ b
same_some a b e = cc

pub flag_some : (given : Option Text) (v : Text) (b : Bool) → given ≡ Some v → b ≡ bytes_eq v (codes "true") → IsFlag given b
flag_some given v b is test =
    let decides = bytes_eq-Decides v (codes "true") in
    (λ t. is ∙ ap Some (decides.0 (sym test ∙ t)), λ same. test ∙ decides.1 (same_some v (codes "true") (sym is ∙ same)))

pub flag_none : (given : Option Text) → given ≡ None → IsFlag given false
flag_none given is = (λ t. cc, λ same. cc)

pub number_some : (given : Option Text) (word : Text) (least most : ℕ) (r : Option ℕ) → given ≡ Some word → IfSome r (IsDecimalIn least most word) → IfSome r (IsNumber least most given)
number_some given word least most None is found = tt
number_some given word least most (Some n) is found = (is ∙ ap Some found.0, found.1, found.2)

pub number_none : (given : Option Text) (word : Text) (least most : ℕ) (r : Option ℕ) → given ≡ Some word → IfNone r ((n : ℕ) → IsDecimalIn least most word n → ⊥) → IfNone r ((n : ℕ) → IsNumber least most given n → ⊥)
number_none given word least most None is none = λ n number. none n (same_some word (decimal n) (sym is ∙ number.0), number.1, number.2)
number_none given word least most (Some n) is none = tt

pub number_missing : (given : Option Text) (least most : ℕ) → given ≡ None → (n : ℕ) → IsNumber least most given n → ⊥
number_missing given least most is n number = let other = number.0 in cc

-- what is read of the choices that are given holds of those in the rows
pub choices_found : (given read : Option (List Text)) (r : Result (List Choice) CommandError) → given ≡ read → IfOk r (AreChoices read) → IfOk r (AreChoices given)
choices_found given read r is found = subst (λ (g : Option (List Text)). IfOk r (AreChoices g)) (sym is) found

pub choices_none : (given read : Option (List Text)) → given ≡ read → ((cs : List Choice) → AreChoices read cs → ⊥) → (cs : List Choice) → AreChoices given cs → ⊥
choices_none given read is none cs are = none cs (subst (λ (g : Option (List Text)). AreChoices g cs) is are)

-- what the matches ask for the words ask for, where `clap` takes them
pub asked_by_words : (words : List Text) (given : Option (Text × List Row)) (r : Result Command CommandError) → fault_of optsql_words words ≡ [] → given ≡ subcommand_of optsql_words words → IfOk r (IsMeantBy given) → IfOk r (IsCommand words)
asked_by_words words given (Ok command) taken is meant = record { taken = taken; meant = subst (λ (g : Option (Text × List Row)). IsMeantBy g command) is meant }
asked_by_words words given (Err e) taken is meant = tt

pub none_by_words : (words : List Text) (given : Option (Text × List Row)) → given ≡ subcommand_of optsql_words words → ((c : Command) → IsMeantBy given c → ⊥) → AskForNone words
none_by_words words given is none = λ command asked. none command (subst (λ (g : Option (Text × List Row)). IsMeantBy g command) (sym is) asked.meant)

pub none_chosen : (given : Option (List Text)) (cs : List Choice) → given ≡ None → cs ≡ [] → AreChoices given cs
none_chosen given cs is empty = subst (λ (g : Option (List Text)). AreChoices g cs) (sym is) empty

-- words that `clap` refuses, but not for memory, ask for none
pub none_refused : (app : App) (words : List Text) (e : Error) (r : CommandError) → app ≡ optsql_words → HasKind (fault_of app words) e → (r ≡ Usage → kind_of e ≢ OutOfMemory) → r ≡ Usage → AskForNone words
none_refused app words e r is kinds other usage = λ command asked. elim kinds as (λ k. ⊥) [
  | inl memory ↦ absurd (other usage memory)
  | inr among ↦ subst (λ (ks : Kinds). IsAmong (kind_of e) ks) (ap (λ (a : App). fault_of a words) is ∙ asked.taken) among
]

pub same_usage : {T : Type 0} (r : CommandError) → (let e : Result T CommandError = Err r in e) ≡ Err Usage → r ≡ Usage
same_usage r e = cc

-- Words ask for one command at most.
use Rattle.std.proofs.Common.{◌≡◌, ℕ, ◌<◌, ◌≤◌, ◌^◌, Bool, true, false, List, [], codes, length, sym, ◌∙◌, ap, subst, refl, arith, Option, Some, None}
use Rattle.std.specs.Fmt.{decimal}
use Rattle.clap.specs.Walk.{Row, Text, all_of, first_of}
use Rattle.clap.specs.Simple.{subcommand_of}
use Rattle.odb_command.specs.declared.choice.Choice.{Choice}
use Rattle.odb_command.specs.declared.command.Command.{Command}
use Rattle.odb_command.specs.declared.command.Command.TheVariants.{Create, Play, Check, Generate}
use Rattle.odb_command.specs.Chosen.{AreChoices}
use Rattle.odb_command.specs.Words.{optsql_words}
use Rattle.odb_command.specs.Command.{IsNumber, IsFlag, IsMeant, IsMeantBy, IsCommand}
use Rattle.odb_command.proofs.Numbers.{only_number}
use Rattle.odb_command.proofs.Choices.{one_list}

same_some : (a b : List ℕ) → Some a ≡ Some b → a ≡ b
same_some a b e = cc

one_number : (given : Option Text) (least most m n : ℕ) → most < 2 ^ 32 → IsNumber least most given m → IsNumber least most given n → m ≡ n
one_number given least most m n narrow f g = only_number m n (omega (arith, f.2)) (omega (arith, g.2)) (same_some (decimal m) (decimal n) (sym f.0 ∙ g.0))

one_flag : (given : Option Text) (a b : Bool) → IsFlag given a → IsFlag given b → a ≡ b
one_flag given true true f g = refl
one_flag given false false f g = refl
one_flag given true false f g = sym (g.1 (f.0 refl))
one_flag given false true f g = f.1 (g.0 refl)

one_choices : (given : Option (List Text)) (cs ds : List Choice) → AreChoices given cs → AreChoices given ds → cs ≡ ds
one_choices None cs ds f g = f ∙ sym g
one_choices (Some words) cs ds f g = one_list words cs ds f.0 g.0

-- two names of different lengths are no one name
apart : {A : Type 0} (name a b : Text) → (length a ≡ length b → ⊥) → name ≡ a → name ≡ b → A
apart name a b other f g = absurd (other (ap length (sym f ∙ g)))

module _ (name : Text) (rows : List Row) where
  create_play : {A : Type 0} → name ≡ codes "create" → name ≡ codes "play" → A
  create_play f g = apart name (codes "create") (codes "play") (λ e. let wrong : 6 ≡ 4 = e in omega (arith, wrong)) f g

  create_check : {A : Type 0} → name ≡ codes "create" → name ≡ codes "check" → A
  create_check f g = apart name (codes "create") (codes "check") (λ e. let wrong : 6 ≡ 5 = e in omega (arith, wrong)) f g

  create_generate : {A : Type 0} → name ≡ codes "create" → name ≡ codes "generate" → A
  create_generate f g = apart name (codes "create") (codes "generate") (λ e. let wrong : 6 ≡ 8 = e in omega (arith, wrong)) f g

  play_check : {A : Type 0} → name ≡ codes "play" → name ≡ codes "check" → A
  play_check f g = apart name (codes "play") (codes "check") (λ e. let wrong : 4 ≡ 5 = e in omega (arith, wrong)) f g

  play_generate : {A : Type 0} → name ≡ codes "play" → name ≡ codes "generate" → A
  play_generate f g = apart name (codes "play") (codes "generate") (λ e. let wrong : 4 ≡ 8 = e in omega (arith, wrong)) f g

  check_generate : {A : Type 0} → name ≡ codes "check" → name ≡ codes "generate" → A
  check_generate f g = apart name (codes "check") (codes "generate") (λ e. let wrong : 5 ≡ 8 = e in omega (arith, wrong)) f g

  one_meant : (c d : Command) → IsMeant name rows c → IsMeant name rows d → c ≡ d
  one_meant (Create m) (Create n) f g = ap Create (one_number (first_of (codes "side") rows) 64 16384 m n (omega arith) f.1 g.1)
  one_meant (Create m) (Play ds) f g = create_play f.0 g.0
  one_meant (Create m) (Check b ds) f g = create_check f.0 g.0
  one_meant (Create m) (Generate n) f g = create_generate f.0 g.0
  one_meant (Play cs) (Create n) f g = create_play g.0 f.0
  one_meant (Play cs) (Play ds) f g = ap Play (one_choices (all_of (codes "choice") rows) cs ds f.1 g.1)
  one_meant (Play cs) (Check b ds) f g = play_check f.0 g.0
  one_meant (Play cs) (Generate n) f g = play_generate f.0 g.0
  one_meant (Check a cs) (Create n) f g = create_check g.0 f.0
  one_meant (Check a cs) (Play ds) f g = play_check g.0 f.0
  one_meant (Check a cs) (Check b ds) f g =
      ap (λ (x : Bool). Check x cs) (one_flag (first_of (codes "rows") rows) a b f.1 g.1)
      ∙ ap (Check b) (one_choices (all_of (codes "choice") rows) cs ds f.2 g.2)
  one_meant (Check a cs) (Generate n) f g = check_generate f.0 g.0
  one_meant (Generate m) (Create n) f g = create_generate g.0 f.0
  one_meant (Generate m) (Play ds) f g = play_generate g.0 f.0
  one_meant (Generate m) (Check b ds) f g = check_generate g.0 f.0
  one_meant (Generate m) (Generate n) f g = ap Generate (one_number (first_of (codes "rounds") rows) 1 100000 m n (omega arith) f.1 g.1)

one_by : (entered : Option (Text × List Row)) (c d : Command) → IsMeantBy entered c → IsMeantBy entered d → c ≡ d
one_by None c d f g = absurd f
one_by (Some entered) c d f g = one_meant entered.0 entered.1 c d f g

pub one_command : (words : List (List ℕ)) (c d : Command) → IsCommand words c → IsCommand words d → c ≡ d
one_command words c d f g = one_by (subcommand_of optsql_words words) c d f.meant g.meant

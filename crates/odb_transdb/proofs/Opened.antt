-- What bytes hold, by the parts that decide it.
use Rattle.std.proofs.Common.{◌≡◌, ℕ, ◌+◌, ◌≤◌, Bool, true, false, List, length, Option, Some, None, Result, Ok, Err, refl, sym, ◌∙◌, ap, subst}
use Rattle.std.specs.Prelude.{if◌then◌else◌, nat_lt, ◌==◌}
use Rattle.std.proofs.lemmas.Bool.{eq-eqb, eqb-true, ltb-false, le-ltb}
use Rattle.odb_pair.specs.Places.{Opened as PairOpened, no_open_place, malformed, holding as holding_value, opened as pair_opened}
use Rattle.odb_reclog.specs.Records.{end_of_list}
use Rattle.odb_model.specs.declared.entry.Entry.{Entry}
use Rattle.odb_model.specs.declared.side.OtherSide.{OtherSide}
use Rattle.odb_model.specs.declared.side.OtherSide.TheVariants.{Live, Dirty, Clean}
use Rattle.odb_transdb.specs.declared.header.Header.{Header}
use Rattle.odb_transdb.specs.Header.{header_of, side_start, file_size, first_on, active_first, other_of}
use Rattle.odb_transdb.specs.Opened.{no_database, damaged, holding, side_list, side_entries, joined, with_entries, first_other, with_clean, with_sides, with_header, with_pair, opened}

-- the bytes keep this header in their pair, and are as long as its sides
pub record HasHeader (h : Header) (bytes : List ℕ) : Type 0 where
  pub value : List ℕ
  pub pair : pair_opened bytes ≡ holding_value value
  pub header : header_of value ≡ Some h
  pub long : file_size h ≤ length bytes

-- then the sides decide
pub by_sides : (h : Header) (bytes : List ℕ) → HasHeader h bytes → opened bytes ≡ with_sides h h.other bytes
unfolding opened
by_sides h bytes has =
    let enough : nat_lt (length bytes) (file_size h) ≡ false = le-ltb _ _ has.long in
    ap (λ (p : PairOpened). with_pair p bytes) has.pair ∙ ap (λ (o : Option Header). with_header o bytes) has.header
    ∙ ap (λ (b : Bool). if b then damaged (length bytes) else with_sides h h.other bytes) enough

-- all of the entries that the sides hold, by the state of the other side
abbrev pub read_by : Header → OtherSide → List ℕ → Result (List Entry) ℕ
read_by h Live bytes = joined (side_entries h (other_of h) bytes) (side_entries h h.active bytes)
read_by h Dirty bytes = side_entries h h.active bytes
read_by h Clean bytes = side_entries h h.active bytes

-- the other side is as its state says
abbrev pub IsSound : Header → OtherSide → List ℕ → Type 0
IsSound h Live bytes = first_on h (other_of h) + length (side_list h (other_of h) bytes) ≡ active_first h
IsSound h Dirty bytes = Unit {0}
IsSound h Clean bytes = first_other h (other_of h) bytes ≡ None

pub sound_sides : (h : Header) (o : OtherSide) (bytes : List ℕ) → IsSound h o bytes → with_sides h o bytes ≡ with_entries h (read_by h o bytes)
sound_sides h Live bytes is =
    ap (λ (b : Bool). if b then with_entries h (read_by h Live bytes) else damaged (end_of_list (side_start h (other_of h)) (side_list h (other_of h) bytes)))
    (eq-eqb (first_on h (other_of h) + length (side_list h (other_of h) bytes)) (active_first h) is)
sound_sides h Dirty bytes is = refl
sound_sides h Clean bytes is = ap (λ (n : Option ℕ). with_clean h n bytes) is

-- bytes that are in order hold what the sides' entries are
pub record IsInOrder (h : Header) (bytes : List ℕ) : Type 0 where
  pub has : HasHeader h bytes
  pub sound : IsSound h h.other bytes

pub opens_read : (h : Header) (bytes : List ℕ) → IsInOrder h bytes → opened bytes ≡ with_entries h (read_by h h.other bytes)
opens_read h bytes is = by_sides h bytes is.has ∙ sound_sides h h.other bytes is.sound

-- bytes that hold entries are in order, and the sides' entries are these
pub record Has (h : Header) (entries : List Entry) (bytes : List ℕ) : Type 0 where
  pub order : IsInOrder h bytes
  pub read : read_by h h.other bytes ≡ Ok entries

pub has_holds : (h : Header) (entries : List Entry) (bytes : List ℕ) → Has h entries bytes → opened bytes ≡ holding h entries
has_holds h entries bytes has = opens_read h bytes has.order ∙ ap (with_entries h) has.read

-- what the sides tell, where they hold entries
record Told (h made : Header) (entries : List Entry) (read : Result (List Entry) ℕ) : Type 0 where
  pub same : made ≡ h
  is : read ≡ Ok entries

told_read : (h made : Header) (entries : List Entry) (read : Result (List Entry) ℕ) → with_entries made read ≡ holding h entries → Told h made entries read
told_read h made entries (Ok found) e = record { same = cc e; is = cc e }
told_read h made entries (Err at) e = absurd (cc e)

pub record TellsSides (h made : Header) (entries : List Entry) (o : OtherSide) (bytes : List ℕ) : Type 0 where
  pub same : made ≡ h
  pub sound : IsSound made o bytes
  pub is : read_by made o bytes ≡ Ok entries

pub sides_told : (h made : Header) (entries : List Entry) (o : OtherSide) (bytes : List ℕ) → with_sides made o bytes ≡ holding h entries → TellsSides h made entries o bytes
sides_told h made entries Live bytes e = of_test (first_on made (other_of made) + length (side_list made (other_of made) bytes) == active_first made) refl
  where
    of_test : (b : Bool) → (first_on made (other_of made) + length (side_list made (other_of made) bytes) == active_first made) ≡ b → TellsSides h made entries Live bytes
    of_test false fails =
        let wrong : damaged (end_of_list (side_start made (other_of made)) (side_list made (other_of made) bytes)) ≡ holding h entries =
        sym (ap (λ (b : Bool). if b then with_entries made (read_by made Live bytes) else damaged (end_of_list (side_start made (other_of made)) (side_list made (other_of made) bytes))) fails) ∙ e in
        absurd (cc wrong)
    of_test true passes =
        let right : with_entries made (read_by made Live bytes) ≡ holding h entries =
        sym (ap (λ (b : Bool). if b then with_entries made (read_by made Live bytes) else damaged (end_of_list (side_start made (other_of made)) (side_list made (other_of made) bytes))) passes) ∙ e in
        let t = told_read h made entries (read_by made Live bytes) right in
        record { same = t.same; sound = eqb-true _ _ passes; is = t.is }
sides_told h made entries Dirty bytes e = let t = told_read h made entries (read_by made Dirty bytes) e in record { same = t.same; sound = tt; is = t.is }
sides_told h made entries Clean bytes e = of_first (first_other made (other_of made) bytes) refl
  where
    of_first : (n : Option ℕ) → first_other made (other_of made) bytes ≡ n → TellsSides h made entries Clean bytes
    of_first None none =
        let t = told_read h made entries (read_by made Clean bytes) (sym (ap (λ (n : Option ℕ). with_clean made n bytes) none) ∙ e) in
        record { same = t.same; sound = none; is = t.is }
    of_first (Some n) some =
        let wrong : damaged (side_start made (other_of made) + n) ≡ holding h entries = sym (ap (λ (n : Option ℕ). with_clean made n bytes) some) ∙ e in
        absurd (cc wrong)

header_told : (h : Header) (entries : List Entry) (bytes value : List ℕ) (o : Option Header) → pair_opened bytes ≡ holding_value value → header_of value ≡ o → with_header o bytes ≡ holding h entries → Has h entries bytes
header_told h entries bytes value None pair header e = absurd (cc e)
header_told h entries bytes value (Some made) pair header e = of_test (nat_lt (length bytes) (file_size made)) refl
  where
    of_test : (b : Bool) → nat_lt (length bytes) (file_size made) ≡ b → Has h entries bytes
    of_test true short =
        let wrong : damaged (length bytes) ≡ holding h entries = sym (ap (λ (b : Bool). if b then damaged (length bytes) else with_sides made made.other bytes) short) ∙ e in
        absurd (cc wrong)
    of_test false enough =
        let right : with_sides made made.other bytes ≡ holding h entries = sym (ap (λ (b : Bool). if b then damaged (length bytes) else with_sides made made.other bytes) enough) ∙ e in
        let t = sides_told h made entries made.other bytes right in
        subst (λ (x : Header). Has x entries bytes) t.same
        (record { order = record { has = record { value = value; pair = pair; header = header; long = ltb-false _ _ enough }; sound = t.sound }; read = t.is })

pub holds_has : (h : Header) (entries : List Entry) (bytes : List ℕ) → opened bytes ≡ holding h entries → Has h entries bytes
unfolding opened
holds_has h entries bytes e = of_pair (pair_opened bytes) refl
  where
    of_pair : (p : PairOpened) → pair_opened bytes ≡ p → Has h entries bytes
    of_pair no_open_place is = let wrong : no_database ≡ holding h entries = sym (ap (λ (p : PairOpened). with_pair p bytes) is) ∙ e in absurd (cc wrong)
    of_pair malformed is = let wrong : damaged 0 ≡ holding h entries = sym (ap (λ (p : PairOpened). with_pair p bytes) is) ∙ e in absurd (cc wrong)
    of_pair (holding_value value) is = header_told h entries bytes value (header_of value) is refl (sym (ap (λ (p : PairOpened). with_pair p bytes) is) ∙ e)

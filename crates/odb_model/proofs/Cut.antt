-- How lines grow as bytes come.
use Rattle.std.proofs.Common.{◌≡◌, ℕ, true, false, ◌==◌, cond, List, [], ◌∷◌, ◌++◌, map, refl, sym, ap, ◌∙◌}
use Rattle.std.specs.List.{list_any}
use Rattle.std.proofs.lemmas.List.{map-append}
use Rattle.odb_model.specs.Script.{onto_first, parts_of, front_of, last_of, without_cr, ended_lines, open_line}
use Rattle.odb_model.proofs.Replay.{or_false}

-- the parts that an LF ends, and the part after the last LF
abbrev pub Parts : Type 0
Parts = List (List ℕ) × List ℕ

abbrev pub cut : List ℕ → Parts
cut bytes = (front_of (parts_of bytes), last_of (parts_of bytes))

-- a byte in front of the first part
abbrev pub in_front : ℕ → List (List ℕ) → List ℕ → Parts
in_front b [] last = ([], b ∷ last)
in_front b (part ∷ parts) last = ((b ∷ part) ∷ parts, last)

-- what is left of a cut
abbrev cut_of : List (List ℕ) → Parts
cut_of parts = (front_of parts, last_of parts)

in_front_first : (b : ℕ) (part : List ℕ) (parts : List (List ℕ))
    → cut_of (onto_first b (part ∷ parts)) ≡ in_front b (front_of (part ∷ parts)) (last_of (part ∷ parts))
in_front_first b part [] = refl
in_front_first b part (next ∷ parts) = refl

-- there is always a part
some_part : (bytes : List ℕ) → (part : List ℕ) × (parts : List (List ℕ)) × (parts_of bytes ≡ part ∷ parts)
some_part [] = ([], [], refl)
some_part (b ∷ bytes) =
    let rest = some_part bytes in
    elim (b == 10) as (λ c. (part : List ℕ) × (parts : List (List ℕ)) × (cond c ([] ∷ parts_of bytes) (onto_first b (parts_of bytes)) ≡ part ∷ parts)) [
      | true ↦ ([], parts_of bytes, refl)
      | false ↦ (b ∷ rest.0, rest.1, ap (onto_first b) rest.2)
    ]

cut-other : (b : ℕ) (bytes : List ℕ) → (b == 10) ≡ false → cut (b ∷ bytes) ≡ in_front b (cut bytes).0 (cut bytes).1
cut-other b bytes other =
    let rest = some_part bytes in
    ap (λ c. cut_of (cond c ([] ∷ parts_of bytes) (onto_first b (parts_of bytes)))) other
    ∙ ap (λ parts. cut_of (onto_first b parts)) rest.2
    ∙ in_front_first b rest.0 rest.1
    ∙ sym (ap (λ parts. in_front b (front_of parts) (last_of parts)) rest.2)

-- an empty part in front
abbrev pub empty_first : Parts → Parts
empty_first c = ([] ∷ c.0, c.1)

cut-lf : (b : ℕ) (bytes : List ℕ) → (b == 10) ≡ true → cut (b ∷ bytes) ≡ empty_first (cut bytes)
cut-lf b bytes same =
    let rest = some_part bytes in
    ap (λ c. cut_of (cond c ([] ∷ parts_of bytes) (onto_first b (parts_of bytes)))) same
    ∙ ap (λ parts. cut_of ([] ∷ parts)) rest.2
    ∙ sym (ap (λ parts. empty_first (cut_of parts)) rest.2)

-- no byte is an LF
abbrev pub HasNoLf : List ℕ → Type 0
HasNoLf bytes = list_any (λ b. b == 10) bytes ≡ false

in_front-more : (b : ℕ) (parts : List (List ℕ)) (last more : List ℕ)
    → in_front b parts (last ++ more) ≡ ((in_front b parts last).0, (in_front b parts last).1 ++ more)
in_front-more b [] last more = refl
in_front-more b (part ∷ parts) last more = refl

in_front-end : (b : ℕ) (parts : List (List ℕ)) (last : List ℕ)
    → in_front b (parts ++ last ∷ []) [] ≡ ((in_front b parts last).0 ++ (in_front b parts last).1 ∷ [], [])
in_front-end b [] last = refl
in_front-end b (part ∷ parts) last = refl

plain_part : (bytes : List ℕ) → HasNoLf bytes → cut bytes ≡ ([], bytes)
plain_part [] none = refl
plain_part (b ∷ bytes) none =
    let parts = or_false (b == 10) (list_any (λ x. x == 10) bytes) none in
    cut-other b bytes parts.0 ∙ ap (λ c. in_front b c.0 c.1) (plain_part bytes parts.1)

-- bytes without an LF go onto the open line
cut-more : (bytes more : List ℕ) → HasNoLf more → cut (bytes ++ more) ≡ ((cut bytes).0, (cut bytes).1 ++ more)
cut-more [] more none = plain_part more none
cut-more (b ∷ bytes) more none =
    elim (b == 10) as (λ c. (b == 10) ≡ c → cut (b ∷ bytes ++ more) ≡ ((cut (b ∷ bytes)).0, (cut (b ∷ bytes)).1 ++ more)) [
      | true ↦ λ same. cut-lf b (bytes ++ more) same ∙ ap empty_first (cut-more bytes more none)
          ∙ sym (ap (λ c. (c.0, c.1 ++ more)) (cut-lf b bytes same))
      | false ↦ λ other. cut-other b (bytes ++ more) other ∙ ap (λ c. in_front b c.0 c.1) (cut-more bytes more none)
          ∙ in_front-more b (cut bytes).0 (cut bytes).1 more
          ∙ sym (ap (λ c. (c.0, c.1 ++ more)) (cut-other b bytes other))
    ] refl

-- an LF ends the open line
cut-ended : (bytes : List ℕ) → cut (bytes ++ 10 ∷ []) ≡ ((cut bytes).0 ++ (cut bytes).1 ∷ [], [])
cut-ended [] = refl
cut-ended (b ∷ bytes) =
    elim (b == 10) as (λ c. (b == 10) ≡ c → cut (b ∷ bytes ++ 10 ∷ []) ≡ ((cut (b ∷ bytes)).0 ++ (cut (b ∷ bytes)).1 ∷ [], [])) [
      | true ↦ λ same. cut-lf b (bytes ++ 10 ∷ []) same ∙ ap empty_first (cut-ended bytes)
          ∙ sym (ap (λ c. (c.0 ++ c.1 ∷ [], [])) (cut-lf b bytes same))
      | false ↦ λ other. cut-other b (bytes ++ 10 ∷ []) other ∙ ap (λ c. in_front b c.0 c.1) (cut-ended bytes)
          ∙ in_front-end b (cut bytes).0 (cut bytes).1
          ∙ sym (ap (λ c. (c.0 ++ c.1 ∷ [], [])) (cut-other b bytes other))
    ] refl

pub ended_lines-more : (bytes more : List ℕ) → HasNoLf more → ended_lines (bytes ++ more) ≡ ended_lines bytes
ended_lines-more bytes more none = ap (λ c. map without_cr c.0) (cut-more bytes more none)

pub open_line-more : (bytes more : List ℕ) → HasNoLf more → open_line (bytes ++ more) ≡ open_line bytes ++ more
open_line-more bytes more none = ap (λ c. c.1) (cut-more bytes more none)

pub ended_lines-ended : (bytes : List ℕ) → ended_lines (bytes ++ 10 ∷ []) ≡ ended_lines bytes ++ without_cr (open_line bytes) ∷ []
ended_lines-ended bytes = ap (λ c. map without_cr c.0) (cut-ended bytes) ∙ map-append without_cr (cut bytes).0 ((cut bytes).1 ∷ [])

pub open_line-ended : (bytes : List ℕ) → open_line (bytes ++ 10 ∷ []) ≡ []
open_line-ended bytes = ap (λ c. c.1) (cut-ended bytes)

-- a byte in front leaves an open line
last_none : (b : ℕ) (parts : List (List ℕ)) (last : List ℕ) → (in_front b parts last).1 ≡ [] → last ≡ []
last_none b [] last none = cc
last_none b (part ∷ parts) last none = none

in_front-append : (b : ℕ) (parts more : List (List ℕ)) (last end : List ℕ) → (in_front b parts last).1 ≡ []
    → (in_front b (parts ++ more) end).0 ≡ (in_front b parts last).0 ++ more
in_front-append b [] more last end none = cc
in_front-append b (part ∷ parts) more last end none = refl

-- bytes whose last line is ended have their own lines before those that follow
pub ended-append : (bytes more : List ℕ) → (cut bytes).1 ≡ [] → (cut (bytes ++ more)).0 ≡ (cut bytes).0 ++ (cut more).0
ended-append [] more none = refl
ended-append (b ∷ bytes) more none =
    elim (b == 10) as (λ c. (b == 10) ≡ c → (cut (b ∷ bytes ++ more)).0 ≡ (cut (b ∷ bytes)).0 ++ (cut more).0) [
      | true ↦ λ same.
          let ended : (cut bytes).1 ≡ [] = sym (ap (λ c. c.1) (cut-lf b bytes same)) ∙ none in
          ap (λ c. c.0) (cut-lf b (bytes ++ more) same) ∙ ap (λ parts. [] ∷ parts) (ended-append bytes more ended)
          ∙ sym (ap (λ c. c.0 ++ (cut more).0) (cut-lf b bytes same))
      | false ↦ λ other.
          let unended : (in_front b (cut bytes).0 (cut bytes).1).1 ≡ [] = sym (ap (λ c. c.1) (cut-other b bytes other)) ∙ none in
          ap (λ c. c.0) (cut-other b (bytes ++ more) other)
          ∙ ap (λ parts. (in_front b parts (cut (bytes ++ more)).1).0) (ended-append bytes more (last_none b (cut bytes).0 (cut bytes).1 unended))
          ∙ in_front-append b (cut bytes).0 (cut more).0 (cut bytes).1 (cut (bytes ++ more)).1 unended
          ∙ sym (ap (λ c. c.0 ++ (cut more).0) (cut-other b bytes other))
    ] refl

in_front-open : (b : ℕ) (parts more : List (List ℕ)) (last end : List ℕ) → (in_front b parts last).1 ≡ [] → (in_front b (parts ++ more) end).1 ≡ end
in_front-open b [] more last end none = cc
in_front-open b (part ∷ parts) more last end none = refl

-- and then what is open is open in what follows
pub open_line-append : (bytes more : List ℕ) → open_line bytes ≡ [] → open_line (bytes ++ more) ≡ open_line more
open_line-append [] more none = refl
open_line-append (b ∷ bytes) more none =
    elim (b == 10) as (λ c. (b == 10) ≡ c → (cut (b ∷ bytes ++ more)).1 ≡ (cut more).1) [
      | true ↦ λ same.
          let ended : (cut bytes).1 ≡ [] = sym (ap (λ c. c.1) (cut-lf b bytes same)) ∙ none in
          ap (λ c. c.1) (cut-lf b (bytes ++ more) same) ∙ open_line-append bytes more ended
      | false ↦ λ other.
          let unended : (in_front b (cut bytes).0 (cut bytes).1).1 ≡ [] = sym (ap (λ c. c.1) (cut-other b bytes other)) ∙ none in
          let ended : (cut bytes).1 ≡ [] = last_none b (cut bytes).0 (cut bytes).1 unended in
          ap (λ c. c.1) (cut-other b (bytes ++ more) other)
          ∙ ap (λ parts. (in_front b parts (cut (bytes ++ more)).1).1) (ended-append bytes more ended)
          ∙ in_front-open b (cut bytes).0 (cut more).0 (cut bytes).1 (cut (bytes ++ more)).1 unended
          ∙ open_line-append bytes more ended
    ] refl

in_front-front : (b : ℕ) (parts more : List (List ℕ)) (last end : List ℕ) → (rest : List (List ℕ)) × ((in_front b (parts ++ more) end).0 ≡ (in_front b parts last).0 ++ rest)
in_front-front b [] more last end = ((in_front b more end).0, refl)
in_front-front b (part ∷ parts) more last end = (more, refl)

-- the lines of a front are the first ones
pub ended-front : (bytes more : List ℕ) → (rest : List (List ℕ)) × ((cut (bytes ++ more)).0 ≡ (cut bytes).0 ++ rest)
ended-front [] more = ((cut more).0, refl)
ended-front (b ∷ bytes) more =
    let here = ended-front bytes more in
    elim (b == 10) as (λ c. (b == 10) ≡ c → (rest : List (List ℕ)) × ((cut (b ∷ bytes ++ more)).0 ≡ (cut (b ∷ bytes)).0 ++ rest)) [
      | true ↦ λ same. (
        here.0,
        ap (λ c. c.0) (cut-lf b (bytes ++ more) same) ∙ ap (λ parts. [] ∷ parts) here.1 ∙ sym (ap (λ c. c.0 ++ here.0) (cut-lf b bytes same)),
      )
      | false ↦ λ other.
          let step = in_front-front b (cut bytes).0 here.0 (cut bytes).1 (cut (bytes ++ more)).1 in (
            step.0,
            ap (λ c. c.0) (cut-other b (bytes ++ more) other) ∙ ap (λ parts. (in_front b parts (cut (bytes ++ more)).1).0) here.1 ∙ step.1
                ∙ sym (ap (λ c. c.0 ++ step.0) (cut-other b bytes other)),
          )
    ] refl

-- one line
pub ended-one : (line : List ℕ) → HasNoLf line → (cut (line ++ 10 ∷ [])).0 ≡ line ∷ []
ended-one line none = ap (λ c. c.0) (cut-ended line) ∙ ap (λ c. c.0 ++ c.1 ∷ []) (plain_part line none)

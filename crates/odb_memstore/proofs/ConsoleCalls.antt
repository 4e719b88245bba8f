-- What the calls of a console make of what a host in memory shows.
use Rattle.std.proofs.Common.{◌≡◌, inl, inr, ℕ, ◌+◌, ◌≤◌, Bool, true, false, List, [], ◌++◌, length, take, drop, Some, refl, sym, ◌∙◌, ap, subst, arith, length-take, length-drop}
use Rattle.std.specs.Prelude.{if◌then◌else◌, ◌==◌, ◌||◌, nat_lt}
use Rattle.std.proofs.lemmas.Bool.{or_parts, cases_Bool}
use Rattle.std.proofs.lemmas.List.{append-nil, take_min}
use Rattle.std.proofs.Math.Seq.{take-add}
use Rattle.odb_device.specs.World.{present}
use Rattle.odb_device.specs.Console.{Talks, Takes}
use Rattle.odb_device.proofs.Talking.{talks_at_once, grows_same}
use Rattle.odb_memstore.specs.declared.recorder.Call.TheVariants.{Take, Say}
use Rattle.odb_memstore.specs.Recording.{is_full, is_listed, fails, noted, refused}
use Rattle.odb_memstore.specs.Tape.{Tape, world_of}
use Rattle.odb_memstore.specs.Calls.{after_ask, after_refusal, next_input, after_take, is_past_say, after_say}
use Rattle.odb_memstore.specs.Standing.{IsWhole}
use Rattle.odb_memstore.proofs.Stepped.{Steps, none_refused, whole_after, talks}
use Rattle.odb_memstore.proofs.StoreCalls.{one_more_least}

refused_take : (tape : Tape) → Talks (world_of tape) (world_of (after_refusal Take tape))
refused_take tape = talks_at_once (world_of tape) (world_of (after_refusal Take tape)) (omega arith) (λ k le. refl) (λ k after to. absurd (omega arith)) (λ g. refl)
    (grows_same (present (world_of tape)).said (present (world_of tape)).said refl) (λ g. refl) (omega (arith, one_more_least tape.recording.refused.take)) (omega arith)

refused_say : (tape : Tape) (len : ℕ) → Talks (world_of tape) (world_of (after_refusal (Say len) tape))
refused_say tape len = talks_at_once (world_of tape) (world_of (after_refusal (Say len) tape)) (omega arith) (λ k le. refl) (λ k after to. absurd (omega arith)) (λ g. refl)
    (grows_same (present (world_of tape)).said (present (world_of tape)).said refl) (λ g. refl) (omega arith) (omega (arith, one_more_least tape.recording.refused.say))

-- a recorded `take`, after which so much is taken
module _ (tape : Tape) (whole : IsWhole tape) (left : is_full tape.recording ≡ false) (k : ℕ) (within : k ≤ length tape.input) (ended : Bool) where
  abbrev taking : Tape
  taking = record tape { recording = noted Take tape.recording; taken = k; has_ended = ended }

  take_steps : Steps tape taking Take (is_listed tape.recording) [] []
  take_steps = record { start = refl; calls = refl; refused = refl; none = none_refused tape whole left; pieces = sym (append-nil tape.pieces); said = sym (append-nil tape.said) }

  taking_whole : IsWhole taking
  taking_whole = whole_after tape taking Take (is_listed tape.recording) [] [] take_steps whole tt refl within

  taking_talks : Talks (world_of tape) (world_of taking)
  taking_talks = talks tape taking Take (is_listed tape.recording) [] [] take_steps whole (λ g. refl) taking_whole

module _ (tape : Tape) (whole : IsWhole tape) (most : ℕ) where
  abbrev taken_bytes : ℕ
  taken_bytes = length (next_input most tape)

  more : tape.taken + taken_bytes ≤ length tape.input
  more = omega (arith, length-take most (drop tape.taken tape.input), length-drop tape.taken tape.input, whole.taken)

  -- the same, whether it fails or not, and whether a place is left
  abbrev after : Bool → Bool → Tape
  after full listed = if full || listed then record tape { recording = if full then refused Take tape.recording else noted Take tape.recording }
      else record tape { recording = noted Take tape.recording; taken = tape.taken + taken_bytes; has_ended = (taken_bytes == 0) || tape.has_ended }

  -- what holds after each of the three
  cases : (P : Tape → Type 0) → P (after_refusal Take tape) → (is_full tape.recording ≡ false → P (after false true)) → (is_full tape.recording ≡ false → P (after false false)) → P (after_take most tape)
  cases P past fail done = elim (cases_Bool (is_full tape.recording)) [
    | inl full ↦ subst (λ (b : Bool). P (after b (is_listed tape.recording))) (sym full) past
    | inr left ↦ subst (λ (b : Bool). P (after b (is_listed tape.recording))) (sym left) (elim (is_listed tape.recording) as (λ b. P (after false b)) [
      | true ↦ fail left
      | false ↦ done left
    ])
  ]

  pub take_talks : Talks (world_of tape) (world_of (after_take most tape))
  take_talks = cases (λ t. Talks (world_of tape) (world_of t)) (refused_take tape) (λ left. taking_talks tape whole left tape.taken whole.taken tape.has_ended)
      (λ left. taking_talks tape whole left (tape.taken + taken_bytes) more ((taken_bytes == 0) || tape.has_ended))

  next_taken : take (tape.taken + taken_bytes) tape.input ≡ take tape.taken tape.input ++ next_input most tape
  next_taken =
      let rest : List ℕ = drop tape.taken tape.input in
      let same : take taken_bytes rest ≡ take most rest = ap (λ (n : ℕ). take n rest) (length-take most rest) ∙ take_min most rest in
      take-add tape.taken taken_bytes tape.input ∙ ap (λ (l : List ℕ). take tape.taken tape.input ++ l) same

  pub take_takes : fails tape.recording ≡ false → Takes (next_input most tape) (world_of tape) (world_of (after_take most tape))
  take_takes ok = ap (λ (b : Bool). (world_of (if b then after_ask Take tape else record tape { recording = noted Take tape.recording; taken = tape.taken + taken_bytes; has_ended = (taken_bytes == 0) || tape.has_ended })).talk.taken) ok
      ∙ ap Some next_taken

-- a `say` of these bytes
module _ (tape : Tape) (whole : IsWhole tape) (bytes : List ℕ) where
  -- within its place and room a place is left
  within_say : is_past_say (length bytes) tape ≡ false → is_full tape.recording ≡ false
  within_say room = (or_parts (is_full tape.recording) (nat_lt tape.room (length tape.said + length bytes)) room).0

  -- the same, whether it is past the room or not, and whether it is listed
  abbrev saying : Bool → Tape
  saying listed = record tape { recording = noted (Say (length bytes)) tape.recording; said = if listed then tape.said else tape.said ++ bytes }

  abbrev words : List ℕ
  words = if is_listed tape.recording then [] else bytes

  say_steps : is_full tape.recording ≡ false → Steps tape (saying (is_listed tape.recording)) (Say (length bytes)) (is_listed tape.recording) [] words
  say_steps left = record {
    start = refl;
    calls = refl;
    refused = refl;
    none = none_refused tape whole left;
    pieces = sym (append-nil tape.pieces);
    said = both (is_listed tape.recording);
  }
    where
      both : (b : Bool) → (if b then tape.said else tape.said ++ bytes) ≡ tape.said ++ (if b then [] else bytes)
      both true = sym (append-nil tape.said)
      both false = refl

  say_adds : (if is_listed tape.recording then 0 else length bytes) ≡ length words
  say_adds = both (is_listed tape.recording)
    where
      both : (b : Bool) → (if b then 0 else length bytes) ≡ length (if b then [] else bytes)
      both true = refl
      both false = refl

  saying_whole : is_full tape.recording ≡ false → IsWhole (saying (is_listed tape.recording))
  saying_whole left = whole_after tape (saying (is_listed tape.recording)) (Say (length bytes)) (is_listed tape.recording) [] words (say_steps left) whole tt say_adds whole.taken

  cases_say : (P : Tape → Type 0) → P (after_refusal (Say (length bytes)) tape) → (is_full tape.recording ≡ false → P (saying (is_listed tape.recording))) → P (after_say bytes tape)
  cases_say P past said =
      let Is : Bool → Type 0 = λ b. P (if b then after_refusal (Say (length bytes)) tape else saying (is_listed tape.recording)) in
      elim (cases_Bool (is_past_say (length bytes) tape)) [
        | inl out ↦ subst Is (sym out) past
        | inr room ↦ subst Is (sym room) (said (within_say room))
      ]

  pub say_talks : Talks (world_of tape) (world_of (after_say bytes tape))
  say_talks = cases_say (λ t. Talks (world_of tape) (world_of t)) (refused_say tape (length bytes))
      (λ left. talks tape (saying (is_listed tape.recording)) (Say (length bytes)) (is_listed tape.recording) [] words (say_steps left) whole (λ g. refl) (saying_whole left))

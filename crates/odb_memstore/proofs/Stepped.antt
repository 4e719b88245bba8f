-- What one call more on the record makes of what a host shows.
use Rattle.std.proofs.Common.{◌≡◌, ◌≢◌, inl, inr, ℕ, ◌+◌, ◌<◌, ◌≤◌, Bool, false, List, [], ◌∷◌, ◌++◌, length, take, Some, refl, sym, ◌∙◌, ap, subst, arith, length-append}
use Rattle.std.specs.Prelude.{if◌then◌else◌, ◌&&◌, option_map}
use Rattle.std.proofs.lemmas.Bool.{leb-false, cases_lt}
use Rattle.std.proofs.lemmas.List.{take-append-le, take_all, append-nil}
use Rattle.odb_device.specs.World.{File, present, file_of, faults_of}
use Rattle.odb_device.specs.Calls.{CallsOn}
use Rattle.odb_device.specs.Console.{Talks}
use Rattle.odb_device.proofs.Talking.{talks_at_once}
use Rattle.odb_memstore.specs.declared.recorder.Call.{Call}
use Rattle.odb_memstore.specs.declared.recorder.Recorded.{Recorded}
use Rattle.odb_memstore.specs.declared.recorder.Refused.{Refused}
use Rattle.odb_memstore.specs.Numbered.{bytes_of}
use Rattle.odb_memstore.specs.Recording.{is_full, is_on}
use Rattle.odb_memstore.specs.Replay.{settled, after_call, after_calls, said_in, said_by}
use Rattle.odb_memstore.specs.Tape.{Tape, time_of, file_at, file_now, faults_on, faults_at, moment_of, failures, is_take, is_say, world_of}
use Rattle.odb_memstore.specs.Standing.{HasPiece, HavePieces, IsWhole}
use Rattle.odb_memstore.proofs.Replays.{after_append, after_more, pieces_take, pieces_append, other_stays, said_by-append, said_by-take, failures-append, failure}

-- by now all calls on the record have come
pub all_calls : (tape : Tape) → take (time_of tape) tape.recording.calls ≡ tape.recording.calls
all_calls tape = take_all (time_of tape) tape.recording.calls (omega arith)

pub file_is : (tape : Tape) (file : ℕ) → file_now tape file ≡ after_calls tape.pieces file tape.recording.calls (settled (bytes_of tape.start file))
file_is tape file = ap (λ (l : List Recorded). after_calls tape.pieces file l (settled (bytes_of tape.start file))) (all_calls tape)

pub faults_now : (tape : Tape) (file : ℕ) → faults_of file (world_of tape) ≡ faults_on file tape.recording
faults_now tape file = omega (arith, ap (failures (is_on file)) (all_calls tape))

-- where a place is left no call of the store was refused
pub none_refused : (tape : Tape) → IsWhole tape → is_full tape.recording ≡ false → tape.recording.refused.store ≡ 0
none_refused tape whole left = elim (cases_lt 0 tape.recording.refused.store) [
  | inl some ↦ absurd (omega (arith, whole.refused some, leb-false tape.recording.places (length tape.recording.calls) left))
  | inr none ↦ omega arith
]

-- new is old with one call more, whether it failed, the piece that it wrote and the bytes that it said;
-- and no call of the store was refused
pub record Steps (old new : Tape) (call : Call) (failed : Bool) (piece words : List ℕ) : Type 0 where
  pub start : new.start ≡ old.start
  pub calls : new.recording.calls ≡ old.recording.calls ++ (record { call = call; failed = failed }) ∷ []
  pub refused : new.recording.refused ≡ old.recording.refused
  pub none : old.recording.refused.store ≡ 0
  pub pieces : new.pieces ≡ old.pieces ++ piece
  pub said : new.said ≡ old.said ++ words

pub said_now : (tape : Tape) → IsWhole tape → (present (world_of tape)).said ≡ Some tape.said
said_now tape whole =
    let calls = tape.recording.calls in
    let all : said_by (take (time_of tape) calls) ≡ length tape.said = ap said_by (all_calls tape) ∙ whole.said in
    ap Some (take_all (said_by (take (time_of tape) calls)) tape.said (omega (arith, all)))

module _ (old new : Tape) (call : Call) (failed : Bool) (piece words : List ℕ) (s : Steps old new call failed piece words) (whole : IsWhole old) where
  pub time : length new.recording.calls ≡ length old.recording.calls + 1
  time = omega (arith, ap length s.calls, length-append old.recording.calls (record { call = call; failed = failed } ∷ []))

  pub later : time_of new ≡ time_of old + 1
  later = omega (arith, time, ap (λ (r : Refused). r.store) s.refused)

  file_past : (k file : ℕ) → k ≤ length old.recording.calls → file_at new k file ≡ file_at old k file
  file_past k file le =
      let front : take k new.recording.calls ≡ take k old.recording.calls = ap (take k) s.calls ∙ take-append-le k old.recording.calls (record { call = call; failed = failed } ∷ []) le in
      ap (λ (l : List Recorded). after_calls new.pieces file l (settled (bytes_of new.start file))) front
      ∙ ap (λ (l : List ℕ). after_calls l file (take k old.recording.calls) (settled (bytes_of new.start file))) s.pieces
      ∙ ap (λ (l : List (ℕ × List ℕ)). after_calls (old.pieces ++ piece) file (take k old.recording.calls) (settled (bytes_of l file))) s.start
      ∙ after_more old.pieces piece file (take k old.recording.calls) (settled (bytes_of old.start file)) (pieces_take (length old.pieces) k old.recording.calls whole.pieces)

  said_past : (k : ℕ) → k ≤ length old.recording.calls → take (said_by (take k new.recording.calls)) new.said ≡ take (said_by (take k old.recording.calls)) old.said
  said_past k le =
      let front : take k new.recording.calls ≡ take k old.recording.calls = ap (take k) s.calls ∙ take-append-le k old.recording.calls (record { call = call; failed = failed } ∷ []) le in
      ap (λ (l : List Recorded). take (said_by l) new.said) front ∙ ap (take (said_by (take k old.recording.calls))) s.said
      ∙ take-append-le (said_by (take k old.recording.calls)) old.said words (omega (arith, said_by-take k old.recording.calls, whole.said))

  faults_past : (k file : ℕ) → k ≤ length old.recording.calls → faults_at new.recording k file ≡ faults_at old.recording k file
  faults_past k file le =
      let front : take k new.recording.calls ≡ take k old.recording.calls = ap (take k) s.calls ∙ take-append-le k old.recording.calls (record { call = call; failed = failed } ∷ []) le in
      omega (arith, ap (failures (is_on file)) front, time)

  pub moment_past : (k : ℕ) → k ≤ time_of old → moment_of new k ≡ moment_of old k
  moment_past k le =
      let few : k ≤ length old.recording.calls = omega (arith, s.none) in
      let same : (file : ℕ) → file_at new k file ≡ file_at old k file = λ file. file_past k file few in
      let heard : take (said_by (take k new.recording.calls)) new.said ≡ take (said_by (take k old.recording.calls)) old.said = said_past k few in
      let counted : (file : ℕ) → faults_at new.recording k file ≡ faults_at old.recording k file = λ file. faults_past k file few in
      λ i. record { files = λ file. Some (same file i); said = Some (heard i); faults = λ file. counted file i }

  pub file_after : (file : ℕ) → file_now new file ≡ after_call new.pieces file call failed (file_now old file)
  file_after file =
      let calls = old.recording.calls in
      let c : Recorded = record { call = call; failed = failed } in
      let all : take (time_of new) new.recording.calls ≡ calls ++ c ∷ [] = all_calls new ∙ s.calls in
      let before : take (time_of old) calls ≡ calls = all_calls old in
      let begin : settled (bytes_of new.start file) ≡ settled (bytes_of old.start file) = ap (λ (l : List (ℕ × List ℕ)). settled (bytes_of l file)) s.start in
      let same : after_calls new.pieces file calls (settled (bytes_of old.start file)) ≡ after_calls old.pieces file calls (settled (bytes_of old.start file)) =
      ap (λ (l : List ℕ). after_calls l file calls (settled (bytes_of old.start file))) s.pieces ∙ after_more old.pieces piece file calls (settled (bytes_of old.start file)) whole.pieces in
      ap (λ (l : List Recorded). after_calls new.pieces file l (settled (bytes_of new.start file))) all
      ∙ after_append new.pieces file calls c (settled (bytes_of new.start file))
      ∙ ap (λ (f : File). after_call new.pieces file call failed (after_calls new.pieces file calls f)) begin
      ∙ ap (after_call new.pieces file call failed) (same ∙ ap (λ (l : List Recorded). after_calls old.pieces file l (settled (bytes_of old.start file))) (sym before))

  pub other_now : (file : ℕ) → is_on file call ≡ false → file_of file (world_of new) ≡ file_of file (world_of old)
  other_now file other = ap Some (file_after file ∙ other_stays new.pieces file call failed (file_now old file) other)

  pub during : (k : ℕ) → time_of old < k → k ≤ time_of new → moment_of new k ≡ present (world_of new)
  during k after to = let last : k ≡ time_of new = omega (arith, later) in ap (moment_of new) last

  pub counts : (is : Call → Bool) → failures is new.recording.calls ≡ failures is old.recording.calls + failure is (record { call = call; failed = failed })
  counts is = ap (failures is) s.calls ∙ failures-append is old.recording.calls (record { call = call; failed = failed })

  pub whole_after : HasPiece (length new.pieces) call → said_in call failed ≡ length words → new.taken ≤ length new.input → IsWhole new
  whole_after piece_in adds taken = record {
    pieces = subst (HavePieces (length new.pieces)) (sym s.calls) (pieces_append (length old.pieces) (length new.pieces) old.recording.calls (record { call = call; failed = failed })
        (omega (arith, ap length s.pieces, length-append old.pieces piece)) whole.pieces piece_in);
    said = omega (arith, ap said_by s.calls, said_by-append old.recording.calls (record { call = call; failed = failed }), adds, whole.said, ap length s.said, length-append old.said words);
    taken = taken;
    refused = λ some. absurd (omega (arith, some, ap (λ (r : Refused). r.store) s.refused, s.none));
  }

  -- one call of the store on this file
  pub calls_on : (file : ℕ) → ((g : ℕ) → g ≢ file → is_on g call ≡ false) → words ≡ [] → IsWhole new → (world_of new).talk ≡ (world_of old).talk → CallsOn file (world_of old) (world_of new)
  calls_on file other silent next talk = record {
    later = omega (arith, later);
    past = moment_past;
    during = during;
    others = λ g differs. other_now g (other g differs);
    told = refl;
    said = said_now new next ∙ ap Some (s.said ∙ ap (λ (l : List ℕ). old.said ++ l) silent ∙ append-nil old.said) ∙ sym (said_now old whole);
    talk = talk;
    faults = λ g. omega (arith, faults_now old g, faults_now new g, counts (is_on g), ap (λ (r : Refused). r.store) s.refused);
  }

  -- one call of the console
  pub talks : ((g : ℕ) → is_on g call ≡ false) → IsWhole new → Talks (world_of old) (world_of new)
  talks other next = talks_at_once (world_of old) (world_of new) (omega (arith, later)) moment_past during (λ g. other_now g (other g))
      (words, said_now new next ∙ ap Some s.said ∙ sym (ap (option_map (λ (b : List ℕ). b ++ words)) (said_now old whole)))
      (λ g. omega (arith, faults_now old g, faults_now new g, counts (is_on g), ap (λ (r : Refused). r.store) s.refused, ap {B = ℕ} (λ (b : Bool). if b && failed then 1 else 0) (other g)))
      (omega (arith, counts is_take, ap (λ (r : Refused). r.take) s.refused))
      (omega (arith, counts is_say, ap (λ (r : Refused). r.say) s.refused))

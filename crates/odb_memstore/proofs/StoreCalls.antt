-- What the calls of a store make of what a host in memory shows.
use Rattle.std.proofs.Common.{◌≡◌, ◌≢◌, inl, inr, ℕ, ◌+◌, ◌^◌, ◌≤◌, Bool, true, false, List, [], ◌++◌, length, take, Some, refl, sym, ◌∙◌, ap, subst, arith, length-append}
use Rattle.std.specs.Prelude.{◌-◌, ◌^◌, min, if◌then◌else◌, ◌==◌, ◌&&◌, ◌||◌, not, nat_lt}
use Rattle.std.proofs.lemmas.Bool.{or_parts, false≢true, ne_eqb, eq-eqb, cases_Bool}
use Rattle.std.proofs.lemmas.Bool.Decides.{nat_tests}
use Rattle.std.proofs.lemmas.List.{append-nil, drop_at, take_all}
use Rattle.odb_device.specs.Images.{part, written, torn, kept}
use Rattle.odb_device.specs.Calls.{CallsOn, Stays, Writes, Tears, Keeps, Unsettles}
use Rattle.odb_device.proofs.OneCall.{tears_same}
use Rattle.odb_memstore.specs.declared.recorder.Call.{Call}
use Rattle.odb_memstore.specs.declared.recorder.Call.TheVariants.{Look, Write, Sync, Take, Say}
use Rattle.odb_memstore.specs.declared.recorder.Recorded.{Recorded}
use Rattle.odb_memstore.specs.declared.recorder.Refused.{Refused}
use Rattle.odb_memstore.specs.Recording.{is_full, is_listed, fails, noted, noted_as, refused, counted, one_more, is_on}
use Rattle.odb_memstore.specs.Replay.{after_call, said_in, said_by}
use Rattle.odb_memstore.specs.Tape.{Tape, time_of, file_now, moment_of, is_take, is_say, world_of, failures}
use Rattle.odb_memstore.specs.Calls.{after_ask, after_refusal, after_past_write, after_write, total_with, is_past_write, fails_to_write, file_after_write, file_after_sync}
use Rattle.odb_memstore.specs.Standing.{HasPiece, IsWhole}
use Rattle.odb_memstore.proofs.Stepped.{Steps, all_calls, file_is, faults_now, none_refused, file_after, whole_after, calls_on}
use Rattle.odb_memstore.proofs.Replays.{failures-append}

-- a call of the store, which is on this file alone
pub record IsStoreCall (call : Call) (file : ℕ) : Type 0 where
  pub here : is_on file call ≡ true
  pub elsewhere : (g : ℕ) → g ≢ file → is_on g call ≡ false
  pub no_take : is_take call ≡ false
  pub no_say : is_say call ≡ false

same_file : (file : ℕ) → (file == file) ≡ true
same_file file = eq-eqb file file refl

other_file : (file g : ℕ) → g ≢ file → (file == g) ≡ false
other_file file g differs = ne_eqb file g (λ e. differs (sym e))

pub look_on : (file : ℕ) → IsStoreCall (Look file) file
look_on file = record { here = same_file file; elsewhere = other_file file; no_take = refl; no_say = refl }

pub sync_on : (file : ℕ) → IsStoreCall (Sync file) file
sync_on file = record { here = same_file file; elsewhere = other_file file; no_take = refl; no_say = refl }

pub write_on : (file at from len : ℕ) → IsStoreCall (Write file at from len) file
write_on file at from len = record { here = same_file file; elsewhere = other_file file; no_take = refl; no_say = refl }

-- such a call says nothing, and is counted with those of the store
says_nothing : (call : Call) (failed : Bool) → is_say call ≡ false → said_in call failed ≡ 0
says_nothing (Look file) failed no_say = refl
says_nothing (Write file at from len) failed no_say = refl
says_nothing (Sync file) failed no_say = refl
says_nothing Take failed no_say = refl
says_nothing (Say len) failed no_say = absurd (false≢true (sym no_say))

counts_store : (call : Call) (r : Refused) → is_take call ≡ false → is_say call ≡ false → counted call r ≡ record r { store = one_more r.store }
counts_store (Look file) r no_take no_say = refl
counts_store (Write file at from len) r no_take no_say = refl
counts_store (Sync file) r no_take no_say = refl
counts_store Take r no_take no_say = absurd (false≢true (sym no_take))
counts_store (Say len) r no_take no_say = absurd (false≢true (sym no_say))

-- one more is more, or the end of the type
pub one_more_least : (n : ℕ) → n ≤ one_more n
one_more_least n = grind (arith, nat_tests)

pub one_more_most : (n : ℕ) → one_more n ≤ n + 1
one_more_most n = grind (arith, nat_tests)

module _ (tape : Tape) (call : Call) (file : ℕ) (on : IsStoreCall call file) where
  -- a call that isn't recorded
  refused_file : (g : ℕ) → file_now (after_refusal call tape) g ≡ file_now tape g
  refused_file g = file_is (after_refusal call tape) g ∙ sym (file_is tape g)

  pub refused_on : CallsOn file (world_of tape) (world_of (after_refusal call tape))
  refused_on =
      let r = tape.recording.refused in
      let counts = counts_store call r on.no_take on.no_say in
      let store : (counted call r).store ≡ one_more r.store = ap (λ (q : Refused). q.store) counts in
      record {
        later = omega (arith, store, one_more_least r.store);
        past = λ k le. refl;
        during = λ k after to.
            let last : k ≡ time_of (after_refusal call tape) = omega (arith, store, one_more_most r.store) in
            ap (moment_of tape) last;
        others = λ g differs. ap Some (refused_file g);
        told = refl;
        said = ap (λ (l : List Recorded). Some (take (said_by l) tape.said)) (all_calls (after_refusal call tape) ∙ sym (all_calls tape));
        talk = λ i. record {
          taken = (world_of tape).talk.taken;
          has_ended = tape.has_ended;
          take_faults = min (failures is_take tape.recording.calls + (counts i).take) (2 ^ 64 - 1);
          say_faults = min (failures is_say tape.recording.calls + (counts i).say) (2 ^ 64 - 1);
        };
        faults = λ g. omega (arith, faults_now tape g, faults_now (after_refusal call tape) g, store, one_more_least r.store);
      }

  -- a call that is recorded, with the piece that it writes, and whether it failed
  module _ (failed : Bool) (left : is_full tape.recording ≡ false) (whole : IsWhole tape) (piece : List ℕ) (has : HasPiece (length (tape.pieces ++ piece)) call) where
    abbrev pub with_call : Tape
    with_call = record tape { recording = noted_as failed call tape.recording; pieces = tape.pieces ++ piece }

    steps : Steps tape with_call call failed piece []
    steps = record { start = refl; calls = refl; refused = refl; none = none_refused tape whole left; pieces = refl; said = sym (append-nil tape.said) }

    pub whole_then : IsWhole with_call
    whole_then = whole_after tape with_call call failed piece [] steps whole has (says_nothing call failed on.no_say) whole.taken

    pub noted_on : CallsOn file (world_of tape) (world_of with_call)
    noted_on = calls_on tape with_call call failed piece [] steps whole file on.elsewhere refl whole_then
        (λ i. record {
          taken = (world_of tape).talk.taken;
          has_ended = tape.has_ended;
          take_faults = min (same is_take on.no_take i + tape.recording.refused.take) (2 ^ 64 - 1);
          say_faults = min (same is_say on.no_say i + tape.recording.refused.say) (2 ^ 64 - 1);
        })
      where
        same : (is : Call → Bool) → is call ≡ false → failures is with_call.recording.calls ≡ failures is tape.recording.calls
        same is none =
            failures-append is tape.recording.calls (record { call = call; failed = failed })
            ∙ omega (arith, ap {B = ℕ} (λ (b : Bool). if b && failed then 1 else 0) none)

    pub file_then : file_now with_call file ≡ after_call (tape.pieces ++ piece) file call failed (file_now tape file)
    file_then = file_after tape with_call call failed piece [] steps whole file

-- a call that needs no room
module _ (tape : Tape) (call : Call) (file : ℕ) (on : IsStoreCall call file) (bare : (n : ℕ) → HasPiece n call) (whole : IsWhole tape) where
  noted_is : (failed : Bool) → record tape { recording = noted_as failed call tape.recording } ≡ record tape { recording = noted_as failed call tape.recording; pieces = tape.pieces ++ [] }
  noted_is failed = ap (λ (l : List ℕ). let t : Tape = record tape { recording = noted_as failed call tape.recording; pieces = l } in t) (sym (append-nil tape.pieces))

  has_none : HasPiece (length (tape.pieces ++ [])) call
  has_none = bare (length (tape.pieces ++ []))

  -- where no place is left it is only counted
  abbrev either : Bool → Bool → Tape
  either failed full = record tape { recording = if full then refused call tape.recording else noted_as failed call tape.recording }

  pub either_on : (failed : Bool) → CallsOn file (world_of tape) (world_of (either failed (is_full tape.recording)))
  either_on failed = elim (cases_Bool (is_full tape.recording)) [
    | inl full ↦ subst (λ (b : Bool). CallsOn file (world_of tape) (world_of (either failed b))) (sym full) (refused_on tape call file on)
    | inr left ↦ subst (λ (b : Bool). CallsOn file (world_of tape) (world_of (either failed b))) (sym left)
        (subst (λ (t : Tape). CallsOn file (world_of tape) (world_of t)) (sym (noted_is failed)) (noted_on tape call file on failed left whole [] has_none))
  ]

  -- what it leaves of the file
  pub either_file : (failed : Bool) → file_now (either failed (is_full tape.recording)) file ≡ (if is_full tape.recording then file_now tape file else after_call (tape.pieces ++ []) file call failed (file_now tape file))
  either_file failed =
      let Is : Bool → Type 0 = λ b. file_now (either failed b) file ≡ (if b then file_now tape file else after_call (tape.pieces ++ []) file call failed (file_now tape file)) in
      elim (cases_Bool (is_full tape.recording)) [
        | inl full ↦ subst Is (sym full) (refused_file tape call file on file)
        | inr left ↦ subst Is (sym left) (ap (λ (t : Tape). file_now t file) (noted_is failed) ∙ file_then tape call file on failed left whole [] has_none)
      ]

  pub ask_on : CallsOn file (world_of tape) (world_of (after_ask call tape))
  ask_on = either_on (is_listed tape.recording)

  pub ask_file : file_now (after_ask call tape) file ≡ (if is_full tape.recording then file_now tape file else after_call (tape.pieces ++ []) file call (is_listed tape.recording) (file_now tape file))
  ask_file = either_file (is_listed tape.recording)

module _ (tape : Tape) (file : ℕ) (whole : IsWhole tape) where
  bare_look : (n : ℕ) → HasPiece n (Look file)
  bare_look n = tt

  bare_sync : (n : ℕ) → HasPiece n (Sync file)
  bare_sync n = tt

  pub look_call : CallsOn file (world_of tape) (world_of (after_ask (Look file) tape))
  look_call = ask_on tape (Look file) file (look_on file) bare_look whole

  pub look_same : file_now (after_ask (Look file) tape) file ≡ file_now tape file
  look_same = ask_file tape (Look file) file (look_on file) bare_look whole ∙ both (is_full tape.recording)
    where
      both : (b : Bool) → (if b then file_now tape file else file_now tape file) ≡ file_now tape file
      both true = refl
      both false = refl

  pub look_stays : Stays file (world_of tape) (world_of (after_ask (Look file) tape))
  look_stays = ap Some look_same

  pub sync_call : CallsOn file (world_of tape) (world_of (after_ask (Sync file) tape))
  sync_call = ask_on tape (Sync file) file (sync_on file) bare_sync whole

  sync_file : (full listed : Bool) → (if full then file_now tape file else (if file == file && not listed then kept (file_now tape file) else file_now tape file)) ≡ (if full || listed then file_now tape file else kept (file_now tape file))
  sync_file true listed = refl
  sync_file false true = ap (λ (b : Bool). if b && false then kept (file_now tape file) else file_now tape file) (same_file file)
  sync_file false false = ap (λ (b : Bool). if b && true then kept (file_now tape file) else file_now tape file) (same_file file)

  pub sync_leaves : file_now (after_ask (Sync file) tape) file ≡ file_after_sync file tape
  sync_leaves = ask_file tape (Sync file) file (sync_on file) bare_sync whole ∙ sync_file (is_full tape.recording) (is_listed tape.recording)

  pub sync_keeps : fails tape.recording ≡ false → Keeps file (world_of tape) (world_of (after_ask (Sync file) tape))
  sync_keeps ok = ap Some (sync_leaves ∙ ap (λ (b : Bool). if b then file_now tape file else kept (file_now tape file)) ok)

  pub sync_unsettles : fails tape.recording ≡ true → Unsettles file (world_of tape) (world_of (after_ask (Sync file) tape))
  sync_unsettles failed = ((file_now tape file).bytes, ap Some (sync_leaves ∙ ap (λ (b : Bool). if b then file_now tape file else kept (file_now tape file)) failed))

-- a write of these bytes
module _ (tape : Tape) (file at : ℕ) (bytes : List ℕ) (whole : IsWhole tape) (fits : at + length bytes ≤ 2 ^ 40) where
  abbrev call : Call
  call = Write file at (length tape.pieces) (length bytes)

  pub on : IsStoreCall call file
  on = write_on file at (length tape.pieces) (length bytes)

  pub has : HasPiece (length (tape.pieces ++ bytes)) call
  has = (omega (arith, length-append tape.pieces bytes), fits)

  -- the same, whether it is past the room or not
  abbrev after : Bool → Tape
  after past = if past then after_past_write file tape else record tape { recording = noted call tape.recording; pieces = tape.pieces ++ bytes }

  bare_write : (n : ℕ) → HasPiece n (Look file)
  bare_write n = tt

  -- a write past its place or room leaves the file
  past_file : file_now (after_past_write file tape) file ≡ file_now tape file
  past_file = either_file tape (Look file) file (look_on file) bare_write whole true ∙ both (is_full tape.recording)
    where
      both : (b : Bool) → (if b then file_now tape file else file_now tape file) ≡ file_now tape file
      both true = refl
      both false = refl

  -- within its place and room a place is left
  within : is_past_write file at (length bytes) tape ≡ false → is_full tape.recording ≡ false
  within room = (or_parts (is_full tape.recording) (nat_lt tape.room (total_with tape file (at + length bytes))) (or_parts (is_full tape.recording || nat_lt tape.room (total_with tape file (at + length bytes))) (nat_lt tape.room (length tape.pieces + length bytes)) room).0).0

  pub write_call : CallsOn file (world_of tape) (world_of (after_write file at bytes tape))
  write_call = elim (cases_Bool (is_past_write file at (length bytes) tape)) [
    | inl past ↦ subst (λ (b : Bool). CallsOn file (world_of tape) (world_of (after b))) (sym past) (either_on tape (Look file) file (look_on file) bare_write whole true)
    | inr room ↦ subst (λ (b : Bool). CallsOn file (world_of tape) (world_of (after b))) (sym room) (noted_on tape call file on (is_listed tape.recording) (within room) whole bytes has)
  ]

  -- the piece just written is the last
  pub last_piece : part (length tape.pieces) (length bytes) (tape.pieces ++ bytes) ≡ bytes
  last_piece = ap (take (length bytes)) (drop_at tape.pieces bytes (length tape.pieces) refl) ∙ take_all (length bytes) bytes (omega arith)

  written_file : (failed : Bool) → after_call (tape.pieces ++ bytes) file call failed (file_now tape file)
      ≡ (if failed then torn at (length bytes) (file_now tape file).bytes (file_now tape file) else written at bytes (file_now tape file))
  written_file failed =
      let f = file_now tape file in
      ap (λ (b : Bool). if b then (if failed then torn at (length bytes) f.bytes f else written at (part (length tape.pieces) (length bytes) (tape.pieces ++ bytes)) f) else f) (same_file file)
      ∙ ap (λ (l : List ℕ). if failed then torn at (length bytes) f.bytes f else written at l f) last_piece

  -- what it leaves of the file
  pub write_leaves : file_now (after_write file at bytes tape) file ≡ file_after_write file at bytes tape
  write_leaves =
      let f = file_now tape file in
      let Is : Bool → Type 0 = λ b. file_now (after b) file ≡ (if b then f else if is_listed tape.recording then torn at (length bytes) f.bytes f else written at bytes f) in
      elim (cases_Bool (is_past_write file at (length bytes) tape)) [
        | inl past ↦ subst Is (sym past) past_file
        | inr room ↦ subst Is (sym room) (file_then tape call file on (is_listed tape.recording) (within room) whole bytes has ∙ written_file (is_listed tape.recording))
      ]

  pub write_done : fails_to_write file at (length bytes) tape ≡ false → Writes file at bytes (world_of tape) (world_of (after_write file at bytes tape))
  write_done ok =
      let f = file_now tape file in
      let both = or_parts (is_past_write file at (length bytes) tape) (is_listed tape.recording) ok in
      ap Some (write_leaves
      ∙ ap (λ (b : Bool). if b then f else if is_listed tape.recording then torn at (length bytes) f.bytes f else written at bytes f) both.0
      ∙ ap (λ (b : Bool). if b then torn at (length bytes) f.bytes f else written at bytes f) both.1)

  pub write_tears : fails_to_write file at (length bytes) tape ≡ true → Tears file at (length bytes) (world_of tape) (world_of (after_write file at bytes tape))
  write_tears =
      let Is : Bool → Type 0 = λ b. (b || is_listed tape.recording) ≡ true → Tears file at (length bytes) (world_of tape) (world_of (after b)) in
      elim (cases_Bool (is_past_write file at (length bytes) tape)) [
        | inl past ↦ subst Is (sym past) (λ failed. inl (ap Some past_file))
        | inr room ↦ subst Is (sym room) (λ failed. tears_same file at (length bytes) (file_now tape file) (world_of tape) (world_of (after false)) refl
            (ap Some (file_then tape call file on (is_listed tape.recording) (within room) whole bytes has ∙ written_file (is_listed tape.recording)
            ∙ ap (λ (b : Bool). if b then torn at (length bytes) (file_now tape file).bytes (file_now tape file) else written at bytes (file_now tape file)) failed)))
      ]

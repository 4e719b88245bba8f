-- A front of a line tells the answer to the line.
use Rattle.std.proofs.Common.{◌≡◌, ◌≢◌, ℕ, ◌-◌, ◌<◌, false, List, [], length, take, drop, refl, sym, ap, ◌∙◌, subst, Option, arith, inl, inr}
use Rattle.std.specs.Prelude.{Ok, Err}
use Rattle.odb_model.specs.declared.event.Event.{Event}
use Rattle.odb_model.specs.declared.event.Event.TheVariants.{Session as OfSession, Control as Upkeep}
use Rattle.odb_model.specs.declared.reply.Head.{Head}
use Rattle.odb_model.specs.declared.reply.Head.TheVariants.{Session as HeadOf, Control, Unknown}
use Rattle.odb_model.specs.declared.reply.Reply.{Reply}
use Rattle.odb_system.specs.Held.{Held, StandsFor, IsAsked}
use Rattle.odb_device.specs.World.{File, World, present}
use Rattle.odb_device.specs.Counts.{Adds}
use Rattle.odb_device.specs.Console.{Says, BreaksOff}
use Rattle.odb_model.specs.Print.{reply_text}
use Rattle.std.proofs.lemmas.List.{take-append-drop, length-drop}
use Rattle.odb_device.specs.Console.{SaysOnly}
use Rattle.odb_device.specs.Moments.{Runs}
use Rattle.odb_device.proofs.Stretches.{steps_none}
use Rattle.odb_kept.specs.Kept.{KeptByEither}
use Rattle.odb_kept.proofs.Keeping.{either_before}
use Rattle.odb_reply.specs.Telling.{TellsAlone}
use Rattle.odb_system.specs.Kept.{IsKept, Rests, IsDoubtCaused, StepWrites, Stepped}
use Rattle.odb_play.specs.declared.player.Stop.TheVariants.{WriteFault as OutputFails, NoMemory as MemoryFails}
use Rattle.odb_play.specs.Part.{IsCaused}
use Rattle.odb_play.specs.Played.{Replies, LineEnds}
use Rattle.odb_play.proofs.Steps.{never_doubt}
use Rattle.odb_play.proofs.Parts.{line_untold, line_part, line_whole}
use Rattle.odb_model.specs.declared.reply.Reply.TheVariants.{Committed, Fault, InDoubt, Turned}
use Rattle.odb_machine.specs.Readings.{nothing_told}
use Rattle.odb_machine.specs.Book.{Seen}
use Rattle.odb_machine.specs.Machine.{Machine}
use Rattle.odb_model.specs.Script.{IsRequest, IsRefused, head_of}
use Rattle.odb_machine.specs.Play.{Answer, IsAnswer, text_of_answer}
use Rattle.odb_model.proofs.Fronts.{IsFrontOf}
use Rattle.odb_play.specs.declared.player.TheConstants.{FRONT}
use Rattle.odb_play.proofs.Fronts.{front_asks_nothing, front_refused}

longer_told : (front line : List ℕ) (m : Machine) (answer : Answer) → FRONT < length line → front ≡ take FRONT line → IsAnswer front m answer → IsAnswer line m answer
longer_told front line m answer long same (inl refusal) =
    inl (front_refused line FRONT (omega arith) long answer.head answer.reply (subst (λ (x : List ℕ). IsRefused x answer.head answer.reply) same refusal.0), refusal.1)
longer_told front line m answer long same (inr step) =
    absurd (front_asks_nothing line FRONT (omega arith) long step.0 (subst (λ (x : List ℕ). IsRequest x step.0) same step.1))

pub fronts_tell : (front line : List ℕ) (m : Machine) (answer : Answer) → IsFrontOf FRONT front line → IsAnswer front m answer → IsAnswer line m answer
fronts_tell front line m answer (inl same) is = subst (λ (x : List ℕ). IsAnswer x m answer) same is
fronts_tell front line m answer (inr longer) is = longer_told front line m answer longer.0 longer.1 is

-- a line that asks for a step asks for one that the system takes
pub asked : (line : List ℕ) (event : Event) → IsRequest line event → IsAsked event
asked line (OfSession s st) request = (request.1.there, (request.2.lexemes, request.2.spells))
asked line (Upkeep control) request = tt

-- the system stepped
pub replies_event : (line : List ℕ) (m : Machine) (event : Event) (reply : Reply) (held : Held) (old new : World) → IsRequest line event → Stepped m event reply held old new
    → Replies line m (head_of event) reply held old new
replies_event line m event reply held old new request stepped = record {
  answer = record { head = head_of event; reply = reply; seen = stepped.follows.seen; after = stepped.follows.after };
  answer_is = inr (event, request, refl, stepped.follows.step);
  cause = record {
    rose = stepped.follows.causes.rose_has;
    before_gate = stepped.follows.causes.before_has;
    from_gate = stepped.from_gate;
    doubt = stepped.doubt;
    writes = stepped.writes;
  };
  head_is = refl;
  reply_is = refl;
  stands = stepped.follows.stands;
  keeps = stepped.keeps;
  quiet = stepped.quiet;
  rests = stepped.rests;
}

-- nothing was seen
abbrev nothing_seen : Seen
nothing_seen = record { rose = λ file. false; rose_before_gate = false; rose_at_gate = false; reads = nothing_told }

-- a refused line is never answered by a commit or a fault
unwritten : (line : List ℕ) (m : Machine) (head : Head) (reply : Reply) (w : World) → IsRefused line head reply → StepWrites m head reply w w
unwritten line m Unknown (Committed k) w refusal = absurd refusal
unwritten line m Control (Committed k) w refusal = absurd refusal
unwritten line m (HeadOf s) (Committed k) w refusal = absurd refusal
unwritten line m Unknown (Fault f) w refusal = absurd refusal
unwritten line m Control (Fault f) w refusal = absurd refusal
unwritten line m (HeadOf s) (Fault f) w refusal = absurd refusal
unwritten line m Unknown (InDoubt k) w refusal = absurd refusal
unwritten line m Control (InDoubt k) w refusal = absurd refusal
unwritten line m (HeadOf s) (InDoubt k) w refusal = absurd refusal
unwritten line m Unknown (Turned side first) w refusal = absurd refusal
unwritten line m Control (Turned side first) w refusal = absurd refusal
unwritten line m (HeadOf s) (Turned side first) w refusal = absurd refusal
unwritten line m head reply w refusal = refl

-- no file's count rose, nothing is in doubt, and nothing was written
none_caused : (line : List ℕ) (m : Machine) (head : Head) (reply : Reply) (w : World) → IsRefused line head reply → IsCaused m (record { head = head; reply = reply; seen = nothing_seen; after = m }) w w
none_caused line m head reply w refusal = record { rose = λ file e. cc; before_gate = λ e. cc; from_gate = λ e. cc; doubt = no_doubt reply refusal; writes = unwritten line m head reply w refusal }
  where
    no_doubt : (r : Reply) → IsRefused line head r → IsDoubtCaused m r m w w
    no_doubt (InDoubt k) refused = absurd (never_doubt line head k refused)
    no_doubt r refused = tt

-- the line was refused
pub refused : (line : List ℕ) (m : Machine) (head : Head) (reply : Reply) (held : Held) (w : World) → IsRefused line head reply → StandsFor held m → Rests m (present w) → Replies line m head reply held w w
refused line m head reply held w refusal stands rests = record {
  answer = record { head = head; reply = reply; seen = nothing_seen; after = m };
  answer_is = inl (refusal, refl);
  cause = none_caused line m head reply w refusal;
  head_is = refl;
  reply_is = refl;
  stands = stands;
  keeps = steps_none (KeptByEither (IsKept m) (IsKept m)) w (either_before (IsKept m) (IsKept m) (present w) rests.keeps);
  quiet = (refl, refl);
  rests = rests;
}

-- a rest that is not said is not empty
some_left : (n : ℕ) (bytes : List ℕ) → n < length bytes → drop n bytes ≢ []
some_left n bytes within none =
    let count : length (drop n bytes) ≡ 0 = ap length none in
    let left : length (drop n bytes) ≡ length bytes - n = length-drop n bytes in
    omega arith

module _ (line : List ℕ) (m : Machine) (head : Head) (reply : Reply) (held : Held) (P : Option File → Type 0) (old mid : World) (resting : Rests m (present old))
    (replies : Replies line m head reply held old mid) (run : Runs 0 P old mid) where
  abbrev answer : Answer
  answer = replies.answer

  module _ (text : List ℕ) (new : World) (printed : text ≡ reply_text head reply) (tells : TellsAlone text reply) (says : SaysOnly text mid new) where
    whole : text ≡ text_of_answer answer
    whole = printed ∙ sym (ap (λ h. reply_text h answer.reply) replies.head_is ∙ ap (λ r. reply_text head r) replies.reply_is)

    alone : TellsAlone (text_of_answer answer) answer.reply
    alone = subst (λ (x : List ℕ). TellsAlone x answer.reply) whole (λ front rest k split t. replies.reply_is ∙ tells front rest k split t)

    says_text : SaysOnly (text_of_answer answer) mid new
    says_text = subst (λ (x : List ℕ). SaysOnly x mid new) whole says

    -- the answer was said
    pub answer_said : {T : Type 0} (done : T) → Says text mid new → LineEnds line m (Ok done) held old new
    answer_said done said = (
      answer,
      replies.answer_is,
      replies.stands,
      line_whole m answer P old mid resting run replies.cause replies.keeps replies.quiet replies.rests new says_text alone (subst (λ (x : List ℕ). Says x mid new) whole said),
    )

    -- its text broke off
    pub answer_breaks : (T : Type 0) → BreaksOff text mid new → LineEnds {T = T} line m (Err OutputFails) held old new
    answer_breaks T breaks =
        let n : ℕ = breaks.0 in (
          answer,
          replies.answer_is,
          line_part m answer P old mid resting run replies.cause replies.keeps replies.quiet replies.rests new says_text alone n (subst (λ (x : List ℕ). Says (take n x) mid new) whole breaks.2),
          record {
            front = take n text;
            rest = drop n text;
            text = sym whole ∙ sym (take-append-drop n text);
            unsaid = some_left n text breaks.1;
            said = subst (λ (o : Option (List ℕ)). Adds (take n text) o (present new).said) replies.quiet.0 breaks.2;
          },
        )

  -- it could not be printed
  pub answer_untold : (T : Type 0) → LineEnds {T = T} line m (Err MemoryFails) held old mid
  answer_untold T = (
    answer,
    replies.answer_is,
    line_untold m answer P old mid resting run replies.cause replies.keeps replies.quiet replies.rests,
    replies.quiet.0,
  )

-- No commit that was acknowledged is lost, nor one that was found: a law above the keeping of files.
use Rattle.std.proofs.Common.{◌≡◌, ◌≢◌, ◌⊎◌, inl, inr, ℕ, ◌≤◌, ◌||◌, ◌==◌, List, [], ◌∷◌, ◌++◌, length, take, drop, map, codes, Option, Some, None, refl, sym, ◌∙◌, ap, subst, arith, append_assoc, length-append}
use Rattle.std.specs.Prelude.{IsSome, IfSome, Contains}
use Rattle.std.specs.List.{list_any}
use Rattle.std.specs.Fmt.{decimal}
use Rattle.std.proofs.lemmas.List.{append-nil, append_cancel_left}
use Rattle.std.proofs.Math.Seq.{drop-append_seam, take-append_seam}
use Rattle.odb_device.specs.World.{File, World, present, file_of}
use Rattle.odb_device.specs.Counts.{Adds, Grows}
use Rattle.odb_device.specs.Moments.{AreImages}
use Rattle.odb_device.specs.Steps.{Steps}
use Rattle.odb_device.proofs.Talking.{adds_then}
use Rattle.odb_kept.specs.Running.{Begins, IsLawfulRun, AllTell}
use Rattle.odb_kept.proofs.Telling.{along_tells}
use Rattle.odb_model.specs.declared.entry.Entry.{Entry}
use Rattle.odb_model.specs.declared.reply.Head.{Head}
use Rattle.odb_model.specs.declared.reply.Head.TheVariants.{Session, Control, Unknown}
use Rattle.odb_model.specs.declared.reply.Reply.{Reply}
use Rattle.odb_model.specs.declared.reply.Reply.TheVariants.{Committed}
use Rattle.odb_machine.specs.Machine.{Machine, history_or_more}
use Rattle.odb_model.specs.Print.{head_text, reply_text}
use Rattle.odb_model.specs.Script.{without_cr}
use Rattle.odb_machine.specs.Play.{Answer, IsAnswer, IsRun, text_of_answer, said_by, machine_after}
use Rattle.odb_model.specs.Acknowledged.{Acknowledges}
use Rattle.odb_model.proofs.Replay.{or_false}
use Rattle.odb_model.proofs.Cut.{HasNoLf, cut, ended_lines-more}
use Rattle.odb_model.proofs.Decimal.{no_lf-decimal}
use Rattle.odb_model.proofs.Told.{Acknowledges-append, Acknowledges-nothing, reply-ended, no_lf-append}
use Rattle.odb_machine.proofs.Said.{said-ended}
use Rattle.odb_reply.specs.Telling.{TellsAlone}
use Rattle.odb_system.specs.Kept.{OpensBy, IsKept}
use Rattle.odb_play.specs.Crash.{OpensTo, HoldsCommits}
use Rattle.odb_play.specs.Part.{after_of, Along, TellAlone, IsHeard}
use Rattle.odb_play.proofs.Steps.{GoesOn, goes_none, goes_then, history_goes, history_within, answer_leaves, committed_within}
use Rattle.odb_play.proofs.Parts.{after_is, audible}

-- a run of answers is lawful, one answer after another

abbrev lawful : Machine → Answer → Type 0
lawful m answer = (line : List ℕ) × IsAnswer line m answer

lawful_run : (m : Machine) (lines : List (List ℕ)) (answers : List Answer) → IsRun m lines answers → IsLawfulRun lawful after_of m answers
lawful_run m [] [] run = tt
lawful_run m (line ∷ lines) (answer ∷ answers) run = ((line, run.0), lawful_run answer.after lines answers run.1)
lawful_run m [] (answer ∷ answers) run = absurd run
lawful_run m (line ∷ lines) [] run = absurd run

-- what an answer tells: its commit is in the history
abbrev tells : Answer → Machine → Type 0
tells answer m = (k : ℕ) → answer.reply ≡ Committed k → k ≤ length m.history

tells_now : (m : Machine) (answer : Answer) → lawful m answer → tells answer answer.after
tells_now m answer law k is = committed_within answer.seen answer.reply answer.after k (answer_leaves law.0 m answer law.1).1 is

tells_later : (answer : Answer) (m n : Machine) → GoesOn m n → tells answer m → tells answer n
tells_later answer m n goes told k is = omega (arith, told k is, goes.history)

-- what whole replies tell

alone_first : (xs ys : List Answer) → TellAlone (xs ++ ys) → TellAlone xs
alone_first [] ys alone = tt
alone_first (a ∷ xs) ys alone = (alone.0, alone_first xs ys alone.1)

alone_rest : (xs ys : List Answer) → TellAlone (xs ++ ys) → TellAlone ys
alone_rest [] ys alone = alone
alone_rest (a ∷ xs) ys alone = alone_rest xs ys alone.1

told_whole : (whole : List Answer) (n : Machine) (k : ℕ) → TellAlone whole → AllTell tells whole n → Acknowledges (said_by whole) k → k ≤ length n.history
told_whole [] n k alone all t = absurd (Acknowledges-nothing k t)
told_whole (a ∷ whole) n k alone all t =
    elim (Acknowledges-append (text_of_answer a) (said_by whole) k (reply-ended a.head a.reply) t) as (λ w. k ≤ length n.history) [
      | inl here ↦ all.0 k (alone.0 (text_of_answer a) [] k (sym (append-nil (text_of_answer a))) here)
      | inr rest ↦ told_whole whole n k alone.1 all.1 rest
    ]

-- a part of the next reply tells of nothing

none_of_map : (xs : List (List ℕ)) → map without_cr xs ≡ [] → xs ≡ []
none_of_map [] e = refl
none_of_map (x ∷ xs) e = cc

none_there : (line : List ℕ) → Contains [] line → ⊥
none_there line c = omega (arith, c.1)

untold : (part : List ℕ) (k : ℕ) → HasNoLf part → Acknowledges part k → ⊥
untold part k none t =
    let lines : (cut part).0 ≡ [] = none_of_map (cut part).0 (ended_lines-more [] part none) in
    none_there (decimal t.session ++ codes " COMMITTED " ++ decimal k) (subst (λ (x : List (List ℕ)). Contains x (decimal t.session ++ codes " COMMITTED " ++ decimal k)) lines t.line)

no_lf_first : (xs ys : List ℕ) → HasNoLf (xs ++ ys) → HasNoLf xs
no_lf_first [] ys none = refl
no_lf_first (x ∷ xs) ys none =
    let parts = or_false (x == 10) (list_any (λ y. y == 10) (xs ++ ys)) none in
    ap (λ c. c || list_any (λ y. y == 10) xs) parts.0 ∙ no_lf_first xs ys parts.1

-- a proper front of a line ends before its LF
proper_front : (line part more : List ℕ) → line ++ 10 ∷ [] ≡ part ++ more → more ≢ [] → (rest : List ℕ) × (line ≡ part ++ rest)
proper_front line [] more same some = (line, refl)
proper_front [] (p ∷ part) more same some = absurd (some (none_behind part more (let rest : [] ≡ part ++ more = cc in rest)))
  where
    none_behind : (xs ys : List ℕ) → [] ≡ xs ++ ys → ys ≡ []
    none_behind [] ys e = sym e
    none_behind (x ∷ xs) ys e = cc
proper_front (x ∷ line) (p ∷ part) more same some =
    let rest = proper_front line part more (let tail : line ++ 10 ∷ [] ≡ part ++ more = cc in tail) some in
    let first : x ≡ p = cc in
    (rest.0, ap (λ (y : ℕ). y ∷ line) first ∙ ap (λ (l : List ℕ). p ∷ l) rest.1)

no_lf_head : (head : Head) → HasNoLf (head_text head)
no_lf_head (Session s) = no_lf-decimal s
no_lf_head Control = refl
no_lf_head Unknown = refl

committed_front : (head : Head) (j : ℕ) (part more : List ℕ) → reply_text head (Committed j) ≡ part ++ more → more ≢ [] → HasNoLf part
committed_front head j part more same some =
    let words = codes "COMMITTED " ++ decimal j in
    let line = head_text head ++ codes " " ++ words in
    let none : HasNoLf line = no_lf-append (head_text head ++ codes " ") words (no_lf-append (head_text head) (codes " ") (no_lf_head head) refl) (no_lf-decimal j) in
    let ended : line ++ 10 ∷ [] ≡ part ++ more = same in
    let front = proper_front line part more ended some in
    no_lf_first part front.0 (subst HasNoLf front.1 none)

part_untold : (a : Answer) (part more : List ℕ) (k : ℕ) → text_of_answer a ≡ part ++ more → more ≢ [] → TellsAlone (text_of_answer a) a.reply → Acknowledges part k → ⊥
part_untold a part more k same some alone t =
    let is : a.reply ≡ Committed k = alone part more k same t in
    untold part k (committed_front a.head k part more (ap (λ (r : Reply). reply_text a.head r) (sym is) ∙ same) some) t

-- the replies that are wholly said are among those that tell of their own commits alone

covers : (whole rest told behind : List Answer) (tail : List ℕ) → whole ++ rest ≡ told ++ behind → said_by told ≡ said_by whole ++ tail
    → (more : List Answer) × (told ≡ whole ++ more) × (rest ≡ more ++ behind) × (said_by more ≡ tail)
covers [] rest told behind tail same text = (told, refl, same, text)
covers (w ∷ whole) rest [] behind tail same text = absurd (audible w (none_before (text_of_answer w) (said_by whole ++ tail) (text ∙ append_assoc (text_of_answer w) (said_by whole) tail)))
  where
    none_before : (xs ys : List ℕ) → [] ≡ xs ++ ys → xs ≡ []
    none_before [] ys e = refl
    none_before (x ∷ xs) ys e = cc
covers (w ∷ whole) rest (t ∷ told) behind tail same text =
    let first : w ≡ t = cc in
    let others : whole ++ rest ≡ told ++ behind = cc in
    let cancelled : said_by told ≡ said_by whole ++ tail =
    append_cancel_left (text_of_answer t) (said_by told) (said_by whole ++ tail)
    (text ∙ append_assoc (text_of_answer w) (said_by whole) tail ∙ ap (λ (x : Answer). text_of_answer x ++ (said_by whole ++ tail)) first) in
    let c = covers whole rest told behind tail others cancelled in
    (c.0, ap (λ (x : Answer). x ∷ told) (sym first) ∙ ap (λ (l : List Answer). w ∷ l) c.1, c.2, c.3)

-- what is said by a moment tells no more than what its whole replies tell
told_by : (whole rest : List Answer) (part : List ℕ) (told behind : List Answer) (tail : List ℕ) (n : Machine) (k : ℕ) → whole ++ rest ≡ told ++ behind → said_by told ≡ said_by whole ++ (part ++ tail)
    → Begins text_of_answer part rest → TellAlone told → AllTell tells whole n → Acknowledges (said_by whole ++ part) k → k ≤ length n.history
told_by whole rest part told behind tail n k same text begins alone all t =
    let c = covers whole rest told behind (part ++ tail) same text in
    let both : TellAlone (whole ++ c.0) = subst TellAlone c.1 alone in
    elim (Acknowledges-append (said_by whole) part k (said-ended whole) t) as (λ w. k ≤ length n.history) [
      | inl before ↦ told_whole whole n k (alone_first whole c.0 both) all before
      | inr here ↦ absurd (by_next c.0 c.3 (subst (Begins text_of_answer part) c.2 begins) (alone_rest whole c.0 both) here)
    ]
  where
    none_first : (xs ys : List ℕ) → [] ≡ xs ++ ys → xs ≡ []
    none_first [] ys e = refl
    none_first (x ∷ xs) ys e = cc

    by_next : (more : List Answer) → said_by more ≡ part ++ tail → Begins text_of_answer part (more ++ behind) → TellAlone more → Acknowledges part k → ⊥
    by_next [] texts starts only here = Acknowledges-nothing k (subst (λ (x : List ℕ). Acknowledges x k) (none_first part tail texts) here)
    by_next (a ∷ more) texts starts only here = part_untold a part starts.0 k starts.2 starts.1 only.0 here

-- the image that some machine of the run keeps holds the commits

open_to : (m : Machine) (es : List Entry) (image : List ℕ) → OpensBy m es image → OpensTo es image
open_to m es image opens = (opens.header, opens.holds, opens.first)

more_goes : (m last : Machine) → GoesOn m last → take (length (history_or_more m)) (history_or_more last) ≡ history_or_more m
more_goes m last goes = ap (take (length (history_or_more m))) goes.longer ∙ take_seam (history_or_more m) goes.more
  where
    take_seam : (xs ys : List Entry) → take (length xs) (xs ++ ys) ≡ xs
    take_seam xs ys = take-append_seam xs ys

holds_commits : (first n last : Machine) (said image : List ℕ) → GoesOn first n → GoesOn n last → ((k : ℕ) → Acknowledges said k → k ≤ length n.history) → IsKept n 0 image → HoldsCommits first last said image
holds_commits first n last said image before after told kept = elim (kept.log refl) as (λ w. HoldsCommits first last said image) [
  | inl now ↦ record {
    count = length n.history;
    within = omega (arith, after.history, history_within last);
    opens = subst (λ (es : List Entry). OpensTo es image) (sym (history_goes n last after)) (open_to n n.history image now);
    least = before.history;
    told = told;
  }
  | inr more ↦ record {
    count = length (history_or_more n);
    within = omega (arith, ap length after.longer, length-append (history_or_more n) after.more);
    opens = subst (λ (es : List Entry). OpensTo es image) (sym (more_goes n last after)) (open_to n (history_or_more n) image more);
    least = omega (arith, before.history, history_within n);
    told = λ k t. omega (arith, told k t, history_within n);
  }
]

-- with what is said since an earlier time
since : (Q : List ℕ → Type 0) (old now : Option (List ℕ)) (more : List ℕ) → Adds more old now → (IsSome old → Q more) → IfSome old (λ before. IfSome now (λ said. Q (drop (length before) said)))
since Q None now more adds here = tt
since Q (Some b) now more adds here =
    let told : IsSome (Some b) = refl in
    subst (λ (o : Option (List ℕ)). IfSome o (λ said. Q (drop (length b) said))) (sym adds) (subst Q (sym (drop-append_seam b more)) (here told))

some_same : (x y : List ℕ) → Some x ≡ Some y → x ≡ y
some_same x y e = cc

-- bytes that go on to others begin them
said_front : (old now last : Option (List ℕ)) (bytes whole : List ℕ) → IsSome old → Adds bytes old now → Grows now last → Adds whole old last → (more : List ℕ) × (whole ≡ bytes ++ more)
said_front None now last bytes whole told first grows all = cc
said_front (Some b) now last bytes whole told first grows all =
    let both : Some (b ++ whole) ≡ Some (b ++ (bytes ++ grows.0)) = sym all ∙ adds_then bytes grows.0 (Some b) now last first grows.1 in
    (grows.0, append_cancel_left b whole (bytes ++ grows.0) (some_same (b ++ whole) (b ++ (bytes ++ grows.0)) both))

told_here : (o : Option File) (P : Type 0) → IsSome o → IfSome o (λ f. P) → P
told_here None P told here = cc
told_here (Some f) P told here = here

module _ (first entry : Machine) (lines : List (List ℕ)) (answers : List Answer) (old new : World) (run : IsRun first lines answers) (told : IsSome (file_of 0 old))
    (steps : Steps (Along entry first answers (present old).said) old new) (heard : IsHeard answers old new) where
  abbrev last : Machine
  last = machine_after first answers

  abbrev Has : (List ℕ) → (ℕ → List ℕ) → Type 0
  Has said images = ((said ≡ []) × IsKept entry 0 (images 0)) ⊎ HoldsCommits first last said (images 0)

  pub loses_none : (k : ℕ) → old.time ≤ k → k ≤ new.time → (images : ℕ → List ℕ) → AreImages (new.moment k) images
      → IfSome (present old).said (λ before. IfSome (new.moment k).said (λ now. Has (drop (length before) now) images))
  loses_none k from to images are =
      let along = steps.each k from to in
      let here : IsSome ((new.moment k).files 0) = steps.told k 0 from to ∙ told in
      let found = along_tells IsKept after_of text_of_answer lawful GoesOn tells goes_none goes_then (λ m a law. (answer_leaves law.0 m a law.1).0) tells_now tells_later
      entry first answers (present old).said (new.moment k) images (lawful_run first lines answers run) along are in
      since (λ said. Has said images) (present old).said (new.moment k).said (said_by along.whole ++ along.part) along.said
      (λ console. elim found as (λ w. Has (said_by along.whole ++ along.part) images) [
        | inl e ↦ inl (ap (λ (xs : List Answer). said_by xs ++ along.part) e.0 ∙ e.1, told_here ((new.moment k).files 0) (IsKept entry 0 (images 0)) here (e.2 0))
        | inr n ↦ inr (holds_commits first n.0 last (said_by along.whole ++ along.part) (images 0) n.1 (subst (GoesOn n.0) (after_is first answers) n.2)
            (λ j t. told_now along.whole along.rest along.part n.0 j along.all along.begins along.said console n.3 t)
            (told_here ((new.moment k).files 0) (IsKept n.0 0 (images 0)) here (n.4 0)))
      ])
    where
      told_now : (whole rest : List Answer) (part : List ℕ) (n : Machine) (j : ℕ) → answers ≡ whole ++ rest → Begins text_of_answer part rest → Adds (said_by whole ++ part) (present old).said (new.moment k).said
          → IsSome (present old).said → AllTell tells whole n → Acknowledges (said_by whole ++ part) j → j ≤ length n.history
      told_now whole rest part n j all begins said console tell t =
          let more = said_front (present old).said (new.moment k).said (present new).said (said_by whole ++ part) heard.front console said (steps.said k from to).1 heard.says in
          let text : said_by heard.told ≡ said_by whole ++ (part ++ (more.0 ++ heard.rest)) =
          heard.text ∙ ap (λ (l : List ℕ). l ++ heard.rest) more.1 ∙ append_assoc (said_by whole ++ part) more.0 heard.rest ∙ append_assoc (said_by whole) part (more.0 ++ heard.rest) in
          told_by whole rest part heard.told heard.untold (more.0 ++ heard.rest) n j (sym all ∙ heard.all) text begins heard.alone tell t

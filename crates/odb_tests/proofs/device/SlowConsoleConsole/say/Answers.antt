use Rattle.std.proofs.Common.{◌≡◌, ℕ, ◌+◌, ◌-◌, Bool, List, ◌++◌, length, take, drop, Some, None, refl, sym, ◌∙◌, ap, subst, arith, rules, length-append}
use Rattle.std.proofs.lemmas.List.{take_all, take-append-drop, take-append-le}
use Rattle.std.proofs.Math.Seq.{take-append-add}
use Rattle.odb_device.specs.World.{World, Moment}
use Rattle.odb_device.specs.Console.{Talks}
use Rattle.odb_tests.proofs.device.SlowConsoleConsole.say.Goals as goal

-- the world of a console whose moments are the bytes said
abbrev told : List ℕ → Bool → ℕ → World
told said ended faults = record {
  time = length said;
  moment = λ k. record { files = λ _. None; said = Some (take k said); faults = λ _. 0 };
  talk = record { taken = None; has_ended = ended; take_faults = 0; say_faults = faults };
}

talks_more : (before piece : List ℕ) (ended : Bool) (faults : ℕ) → Talks (told before ended faults) (told (before ++ piece) ended faults)
talks_more before piece ended faults = record {
  later = omega (arith, length-append before piece);
  past = λ k le. ap (λ (l : List ℕ). let m : Moment = record { files = λ _. None; said = Some l; faults = λ _. 0 } in m) (take-append-le k before piece le);
  files = λ k g from to. refl;
  said = λ k from to.
      let more = k - length before in
      let there : length before + more ≡ k = omega arith in
      let front : take k (before ++ piece) ≡ before ++ take more piece = ap (λ (n : ℕ). take n (before ++ piece)) (sym there) ∙ take-append-add before piece more in
      let here : take (length before) before ≡ before = take_all (length before) before (omega arith) in
      let all : take (length (before ++ piece)) (before ++ piece) ≡ before ++ piece = take_all (length (before ++ piece)) (before ++ piece) (omega arith) in (
        (take more piece, ap Some (front ∙ ap (λ (l : List ℕ). l ++ take more piece) (sym here))),
        (drop k (before ++ piece), ap Some (all ∙ sym (take-append-drop k (before ++ piece)))),
      );
  faults = λ k from to g. refl;
  take_faults = omega arith;
  say_faults = omega arith;
}

pub returns-clause-call : goal.returns-clause-call
returns-clause-call c =
    let before = c.args.self.now.said.items in
    let piece = take c.min-n.result c.args.bytes.now in
    let ended = c.args.self.now.has_ended in
    let faults = c.args.self.now.faults in
    let is : c.extend_from_slice.new.self.items ≡ before ++ piece = search rules in
    subst (λ (l : List ℕ). Talks (told before ended faults) (told l ended faults)) (sym is) (talks_more before piece ended faults)

use Rattle.std.proofs.Common.{◌≡◌, ℕ, ◌+◌, ◌-◌, List, drop, Some, Result, Ok, sym, ◌∙◌, ap, subst, arith}
use Rattle.std.specs.Prelude.{map, IfSome}
use Rattle.std.specs.List.{AllByRecursion}
use Rattle.std.proofs.lemmas.Result.{err_from_is_err_and}
use Rattle.std.proofs.lemmas.List.Elements.{recursion_from_All}
use Rattle.odb_device.specs.World.{File, World, file_of}
use Rattle.odb_device.specs.Images.{ReadsImage}
use Rattle.odb_codec.specs.Image.{HasImage, entry_image}
use Rattle.odb_entries.specs.Listed.{entries_from}
use Rattle.odb_model.specs.declared.entry.Entry.{Entry}
use Rattle.odb_model.specs.State.{IsNumberedFrom}
use Rattle.odb_logdb.specs.declared.error.LogdbError.{LogdbError}
use Rattle.odb_logdb.specs.Standing.{LogState, next_of, held}
use Rattle.odb_logdb.specs.Appending.{AppendsThrough, CountsMore, IsReady, room_by}
use Rattle.odb_logdb.proofs.Held.{by_file}
use Rattle.odb_logdb.proofs.Lists.{images_read, read_drop}
use Rattle.odb_logdb.proofs.Readied.{some_of}
use Rattle.odb_logdb.proofs.Appended.{run_nothing, counts_nothing, run_none_more, counts_none, none_run, some_run, some_counts, number_then, next_then, none_told, full_behind, advances, some_given}
use Rattle.odb_logdb.proofs.logdb.Logdb.append_through.Given.{Over}
use Rattle.odb_logdb.proofs.logdb.Logdb.append_through.Goals as goal
use Rattle.odb_logdb.proofs.logdb.Logdb.append_through.Goals.{After-behind, After-add_images}

pub returns-in_err-images-clause-run : goal.returns-in_err-images-clause-run
returns-in_err-images-clause-run g c =
    let l = c.args.self.now in
    let w = g.S.Outside.world c.args.store.now in
    run_nothing l c.args.entries.now w (some_of l (file_of 1 w) c.next_number-next.ensures.first c.requires.stands)

pub returns-in_err-images-clause-held : goal.returns-in_err-images-clause-held
returns-in_err-images-clause-held g c =
    let l = c.args.self.now in
    let o = file_of 1 (g.S.Outside.world c.args.store.now) in
    let p = err_from_is_err_and c.from_residual.result c.from_residual.ensures.1 in
    subst (λ (r : Result (Unit {0}) LogdbError). IfSome o (λ _. CountsMore l c.args.entries.now r o (held l o))) (sym p.1) (counts_nothing l c.args.entries.now p.0 o)

pub returns-in_err-make_ready-clause-run : goal.returns-in_err-make_ready-clause-run
returns-in_err-make_ready-clause-run g c =
    let l = c.args.self.now in
    let w = g.S.Outside.world c.args.store.now in
    run_none_more l c.args.entries.now w (g.S.Outside.world c.make_ready.new.store) (some_of l (file_of 1 w) c.next_number-next.ensures.first c.requires.stands) c.make_ready.ensures.run

pub returns-in_err-make_ready-clause-held : goal.returns-in_err-make_ready-clause-held
returns-in_err-make_ready-clause-held g c =
    let l = c.args.self.now in
    let new = c.make_ready.new.self in
    let now = g.S.Outside.world c.make_ready.new.store in
    let o = file_of 1 (g.S.Outside.world c.args.store.now) in
    let q = file_of 1 now in
    let run = c.make_ready.ensures.run in
    let p = err_from_is_err_and c.from_residual-in_err-make_ready.result c.from_residual-in_err-make_ready.ensures.1 in
    subst (λ (r : Result (Unit {0}) LogdbError). IfSome q (λ _. CountsMore l c.args.entries.now r o (held new q))) (sym p.1)
    (counts_none l new c.args.entries.now p.0 o q (run.only.told now.time run.only.later (omega arith)) c.in_err-make_ready.ensures.ready.left)

-- what is given to be added
module _ (g : Over) (c : After-behind g) where
  abbrev l : LogState
  l = c.args.self.now

  abbrev ready : LogState
  ready = c.make_ready.new.self

  abbrev given : List Entry
  given = c.args.entries.now

  abbrev there : ℕ
  there = c.saturating_sub-there.result

  abbrev w : World
  w = g.S.Outside.world c.args.store.now

  abbrev mid : World
  mid = g.S.Outside.world c.make_ready.new.store

  images : c.behind.result.now ≡ drop there (map entry_image given)
  images = c.behind.ensures ∙ ap (drop there) (c.as_slice.ensures ∙ c.in_ok-images.ensures.images)

  all : AllByRecursion HasImage given
  all = recursion_from_All HasImage given c.in_ok-images.ensures.lawful

  is_there : there ≡ next_of ready - next_of l
  is_there = c.saturating_sub-there.ensures ∙ ap (λ (n : ℕ). n - c.next_number-next.result) c.next_number.ensures.next ∙ ap (λ (n : ℕ). next_of ready - n) c.next_number-next.ensures.next

  is_ready : IsReady {T = Unit {0}} l ready (Ok tt) (file_of 1 w) (file_of 1 mid)
  is_ready = c.in_ok-make_ready.ensures.ready

  reads : ReadsImage (file_of 1 w)
  reads = g.met.S.Store.reads_image c.args.store.now 1

  any : (some : List Entry) × (entries_from (next_of ready) 0 c.behind.result.now ≡ Ok some)
  any =
      let a = some_given (next_of ready) there given all in
      (a.0, subst (λ (x : List (List ℕ)). entries_from (next_of ready) 0 x ≡ Ok a.0) (sym images) a.1)

  -- where the file is told they are the entries that come later
  later : (h : File) → file_of 1 w ≡ Some h → entries_from (next_of ready) 0 c.behind.result.now ≡ Ok (drop there given)
  later h some =
      let number : next_of l + there ≡ next_of ready = number_then l ready there (file_of 1 w) (file_of 1 mid) h some is_ready is_there in
      let numbers : IsNumberedFrom (next_of l) given = subst (λ (n : ℕ). IsNumberedFrom n given) (next_then l ready (file_of 1 w) (file_of 1 mid) h some is_ready) c.requires.numbers in
      let read = read_drop there (next_of l) 0 0 (map entry_image given) given (images_read (next_of l) 0 given all numbers) in
      subst (λ (x : List (List ℕ)). entries_from (next_of ready) 0 x ≡ Ok (drop there given)) (sym images)
      (subst (λ (n : ℕ). entries_from n 0 (drop there (map entry_image given)) ≡ Ok (drop there given)) number read)

pub add_images-requires-clause-read : goal.add_images-requires-clause-read
add_images-requires-clause-read g c = any g (goal.at.add_images-requires-clause-read g c).After-behind

pub returns-clause-run : goal.returns-clause-run
returns-clause-run g c =
    let a = (goal.at.returns-clause-run g c).After-behind in
    let now = g.S.Outside.world c.add_images.new.store in
    let new = c.add_images.new.self in
    let r = c.add_images.result in
    by_file (file_of 1 (w g a)) (AppendsThrough (l g a) (given g a) (w g a) now)
    (λ none. none_run (l g a) (ready g a) new (given g a) (there g a) (w g a) (mid g a) now r (is_ready g a) c.make_ready.ensures.run (reads g a) (is_there g a) none (c.add_images.ensures.adds (any g a).0 (any g a).1).run)
    (λ h some. some_run (l g a) (ready g a) new (given g a) (there g a) (w g a) (mid g a) now r (is_ready g a) c.make_ready.ensures.run (reads g a) (is_there g a) h some (c.add_images.ensures.adds (drop (there g a) (given g a)) (later g a h some)))

pub returns-clause-stands : goal.returns-clause-stands
returns-clause-stands g c =
    let a = (goal.at.returns-clause-stands g c).After-behind in
    (c.add_images.ensures.adds (any g a).0 (any g a).1).stands

pub returns-clause-held : goal.returns-clause-held
returns-clause-held g c =
    let a = (goal.at.returns-clause-held g c).After-behind in
    let now = g.S.Outside.world c.add_images.new.store in
    let new = c.add_images.new.self in
    let r = c.add_images.result in
    let adds = c.add_images.ensures.adds (any g a).0 (any g a).1 in
    let run = c.make_ready.ensures.run in
    by_file (file_of 1 (w g a)) (IfSome (file_of 1 now) (λ _. CountsMore (l g a) (given g a) r (file_of 1 (w g a)) (held new (file_of 1 now))))
    (λ none. none_told (file_of 1 (w g a)) (file_of 1 now) (λ _. CountsMore (l g a) (given g a) r (file_of 1 (w g a)) (held new (file_of 1 now))) none
    (adds.run.only.told now.time adds.run.only.later (omega arith) ∙ run.only.told (mid g a).time run.only.later (omega arith)))
    (λ h some. some_counts (l g a) (ready g a) new (given g a) (there g a) (w g a) (mid g a) now r (is_ready g a) c.make_ready.ensures.run (reads g a) (is_there g a) h some (c.add_images.ensures.adds (drop (there g a) (given g a)) (later g a h some)))

pub returns-clause-moves : goal.returns-clause-moves
returns-clause-moves g c = λ other.
    let a = (goal.at.returns-clause-moves g c).After-behind in
    let ready_is = is_ready g a in
    let next = ready_is.next other in
    let none : there g a ≡ 0 = omega (arith, is_there g a, next) in
    advances (l g a) (ready g a) c.add_images.new.self (given g a) c.behind.result.now c.add_images.result (images g a ∙ ap (λ (n : ℕ). drop n (map entry_image (given g a))) none) next (ready_is.room other)
    (ap (room_by (ready g a)) ready_is.known) c.add_images.ensures.moves

pub returns-clause-full : goal.returns-clause-full
returns-clause-full g c = λ need room is.
    let a = (goal.at.returns-clause-full g c).After-behind in
    let m = c.add_images.ensures.moves in
    full_behind (given g a) c.behind.result.now (there g a) m.count need room c.add_images.new.self (images g a) (m.full need room is)

-- What adding entries leaves, from what its parts leave.
use Rattle.std.proofs.Common.{◌≡◌, ◌⊎◌, inl, inr, ℕ, zero, suc, ◌+◌, ◌-◌, ◌≤◌, List, [], ◌∷◌, ◌++◌, length, take, drop, Option, Some, None, Result, Ok, Err, refl, sym, ◌∙◌, ap, subst, arith, append_assoc, length-append}
use Rattle.std.specs.Prelude.{false, is_some, map, IfSome, OnOk}
use Rattle.std.specs.List.{AllByRecursion}
use Rattle.std.proofs.lemmas.Bool.{false≢true}
use Rattle.std.proofs.lemmas.List.{append-nil, drop-drop, length-drop, length-map, length-take, take-append-drop}
use Rattle.odb_device.specs.World.{File, World, file_of}
use Rattle.odb_device.specs.Images.{IsImage, EachImage, ReadsImage}
use Rattle.odb_device.specs.Moments.{Runs}
use Rattle.odb_device.proofs.Time.{begins, joins, weakens}
use Rattle.odb_device.proofs.Torn.{each_weakens}
use Rattle.odb_extent.specs.Opened.{content_end}
use Rattle.odb_reclog.specs.Records.{end_of_list}
use Rattle.odb_codec.specs.Image.{HasImage, entry_image}
use Rattle.odb_codec.proofs.Lengths.{length-entry_image}
use Rattle.odb_entries.specs.Listed.{entries_from}
use Rattle.odb_model.specs.declared.entry.Entry.{Entry}
use Rattle.odb_model.specs.Width.{records_width}
use Rattle.odb_logdb.specs.declared.error.LogdbError.{LogdbError}
use Rattle.odb_logdb.specs.declared.error.LogdbError.TheVariants.{Fault}
use Rattle.odb_logdb.specs.Opened.{MOST, Holds, opened, holding, entries_of, entries_in}
use Rattle.odb_logdb.specs.Standing.{LogState, first_of, next_of, count_of, held}
use Rattle.odb_logdb.specs.Adding.{HoldsFront}
use Rattle.odb_logdb.specs.Answers.{KeepsOpened}
use Rattle.odb_logdb.specs.Worlds.{OpensAsBefore}
use Rattle.odb_logdb.specs.Appending.{HoldsMore, AddsFront, AppendsThrough, CountsMore, IsFullAt, Advances, IsFull, HoldsSome, IsReady, AddsImages, IsImageFullAt, MovesImages, room_of}
use Rattle.odb_logdb.proofs.Based.{same_opened}
use Rattle.odb_logdb.proofs.Lists.{any_read, images_end}
use Rattle.odb_logdb.proofs.Readied.{if_map}

-- no entry more
holds_none_more : (l : LogState) (given : List Entry) (before image : List ℕ) → HoldsSome (first_of l) before → opened image ≡ opened before → HoldsMore l given before image
holds_none_more l given before image some same = record {
  entries = some.0;
  was = some.1;
  count = 0;
  holds = same ∙ some.1 ∙ ap (holding (first_of l)) (sym (append-nil some.0));
}

front_none : (l : LogState) (given : List Entry) (o p : Option File) → EachImage (HoldsSome (first_of l)) o → KeepsOpened o p → AddsFront l given o p
front_none l given None p some keeps = keeps
front_none l given (Some g) p some keeps =
    each_weakens (λ image. (before : List ℕ) × IsImage g before × (opened image ≡ opened before)) (λ image. (before : List ℕ) × IsImage g before × HoldsMore l given before image) p
    (λ image b. (b.0, b.1, holds_none_more l given b.0 image (some b.0 b.1) b.2)) keeps

pub run_none_more : (l : LogState) (given : List Entry) (w now : World) → EachImage (HoldsSome (first_of l)) (file_of 1 w) → OpensAsBefore w now → AppendsThrough l given w now
run_none_more l given w now some run =
    weakens 1 (KeepsOpened (file_of 1 w)) (AddsFront l given (file_of 1 w)) w now (λ p keeps. front_none l given (file_of 1 w) p some keeps) run

-- nothing is counted more
pub counts_none : (l new : LogState) (given : List Entry) (err : LogdbError) (o p : Option File) → is_some p ≡ is_some o → IfSome o (λ f. held new p ≡ held l (Some f)) → IfSome p (λ _. CountsMore {T = Unit {0}} l given (Err err) o (held new p))
counts_none l new given err o None told left = tt
counts_none l new given err None (Some h) told left = absurd (false≢true (sym told))
counts_none l new given err (Some g) (Some h) told left = record {
  doubt = [];
  was = inl refl;
  count = 0;
  held_is = left ∙ sym (append-nil (held l (Some g)));
  all = tt;
}

pub advances_none : (l new : LogState) (given : List Entry) → next_of new ≡ next_of l → room_of new ≡ room_of l → Advances {T = Unit {0}} given (Err Fault) l new
advances_none l new given next room = record {
  count = 0;
  some = omega arith;
  next = omega (arith, next);
  room = sym room ∙ none (room_of new);
  all = tt;
  full = λ need left is. absurd (cc is);
}
  where
    none : (n : ℕ) → n ≡ records_width (take 0 given) + n
    none n = omega arith

-- a front of entries behind others
take_behind : (k : ℕ) (front rest : List Entry) → take (length front + k) (front ++ rest) ≡ front ++ take k rest
take_behind k [] rest = let same : length {A = Entry} [] + k ≡ k = omega arith in ap (λ (n : ℕ). take n rest) same
take_behind k (x ∷ xs) rest =
    let same : length (x ∷ xs) + k ≡ suc (length xs + k) = omega arith in
    ap (λ (n : ℕ). take n (x ∷ xs ++ rest)) same ∙ ap (λ (l : List Entry). x ∷ l) (take_behind k xs rest)

-- where the list was made known, and entries were added to it
module _ (l ready new : LogState) (given : List Entry) (there : ℕ) (w mid now : World) (r : Result (Unit {0}) LogdbError)
    (is : IsReady {T = Unit {0}} l ready (Ok tt) (file_of 1 w) (file_of 1 mid)) (opens : OpensAsBefore w mid) (reads : ReadsImage (file_of 1 w))
    (is_there : there ≡ next_of ready - next_of l) where
  first_run : AppendsThrough l given w mid
  first_run = run_none_more l given w mid is.images opens

  told_mid : is_some (file_of 1 mid) ≡ is_some (file_of 1 w)
  told_mid = opens.only.told mid.time opens.only.later (omega arith)

  is_none : (o : Option File) → is_some o ≡ false → o ≡ None
  is_none None here = refl
  is_none (Some g) here = absurd (false≢true (sym here))

  -- of a file that isn't told
  pub none_run : {P : Option File → Type 0} → file_of 1 w ≡ None → Runs 1 P mid now → AppendsThrough l given w now
  none_run {P} none run =
      joins 1 (AddsFront l given (file_of 1 w)) w mid now first_run
      (record {
        only = run.only;
        each = λ k from to.
            subst (λ (o : Option File). AddsFront l given o ((now.moment k).files 1)) (sym none)
            (is_none ((now.moment k).files 1) (run.only.told k from to ∙ told_mid ∙ ap is_some none));
      })

  -- of one that is
  module _ (g : File) (some : file_of 1 w ≡ Some g) (adds : AddsImages (drop there given) r ready new mid now) where
    abbrev all : List Entry
    all = entries_in (Some g)

    at_g : (P : File → Type 0) → IfSome (file_of 1 w) P → P g
    at_g P here = subst (λ (o : Option File). IfSome o P) some here

    reads_g : IsImage g g.bytes
    reads_g = subst ReadsImage some reads

    its_held : held ready (file_of 1 mid) ≡ all
    its_held = at_g (λ f. held ready (file_of 1 mid) ≡ entries_in (Some f)) is.all

    number_ready : next_of ready ≡ first_of l + length all
    number_ready = at_g (λ f. next_of ready ≡ first_of l + length (entries_in (Some f))) is.number

    number_before : next_of l ≡ first_of l + length (held l (Some g))
    number_before = at_g (λ f. next_of l ≡ first_of l + length (held l (Some f))) is.counted

    count_is : count_of l ≡ length (held l (Some g))
    count_is = omega (arith, number_before)

    there_is : there ≡ length all - count_of l
    there_is = omega (arith, is_there, number_ready, number_before)

    holds_g : Holds (first_of l) all g.bytes
    holds_g =
        let some_g = subst (λ (o : Option File). EachImage (HoldsSome (first_of l)) o) some is.images in
        let h = some_g g.bytes reads_g in
        subst (λ (x : List Entry). Holds (first_of l) x g.bytes) (sym (ap entries_of h.1)) h.1

    more_at : (image : List ℕ) → HoldsFront (first_of ready) (held ready (file_of 1 mid)) (drop there given) image → HoldsMore l given g.bytes image
    more_at image front =
        let a : Holds (first_of l) (held ready (file_of 1 mid) ++ take front.count (drop there given)) image = subst (λ (n : ℕ). Holds n (held ready (file_of 1 mid) ++ take front.count (drop there given)) image) is.first front.holds in
        let b : Holds (first_of l) (all ++ take front.count (drop there given)) image = subst (λ (x : List Entry). Holds (first_of l) (x ++ take front.count (drop there given)) image) its_held a in
        record {
          entries = all;
          was = holds_g;
          count = front.count;
          holds = subst (λ (n : ℕ). Holds (first_of l) (all ++ take front.count (drop n given)) image) there_is b;
        }

    front_more : (p : Option File) → EachImage (HoldsFront (first_of ready) (held ready (file_of 1 mid)) (drop there given)) p → AddsFront l given (file_of 1 w) p
    front_more p each =
        subst (λ (o : Option File). AddsFront l given o p) (sym some)
        (each_weakens (HoldsFront (first_of ready) (held ready (file_of 1 mid)) (drop there given)) (λ image. (before : List ℕ) × IsImage g before × HoldsMore l given before image) p (λ image front. (g.bytes, reads_g, more_at image front)) each)

    pub some_run : AppendsThrough l given w now
    some_run =
        joins 1 (AddsFront l given (file_of 1 w)) w mid now first_run
        (weakens 1 (EachImage (HoldsFront (first_of ready) (held ready (file_of 1 mid)) (drop there given))) (AddsFront l given (file_of 1 w)) mid now front_more adds.run)

    -- what is counted
    doubt : List Entry
    doubt = drop (count_of l) all

    whole : held l (Some g) ++ drop (count_of l) all ≡ all
    whole = take-append-drop (count_of l) all

    length_doubt : length (drop (count_of l) all) ≡ there
    length_doubt = length-drop (count_of l) all ∙ sym there_is

    counts_here : held new (file_of 1 now) ≡ held ready (file_of 1 mid) ++ take adds.count (drop there given) → CountsMore l given r (Some g) (held new (file_of 1 now))
    counts_here is_held =
        let rest : List Entry = drop (length (drop (count_of l) all)) given in
        let same : drop there given ≡ drop (length (drop (count_of l) all)) given = ap (λ (n : ℕ). drop n given) (sym length_doubt) in
        record {
          doubt = drop (count_of l) all;
          was = inr (g.bytes, reads_g, subst (λ (x : List Entry). Holds (first_of l) x g.bytes) (sym whole) holds_g);
          count = length (drop (count_of l) all) + adds.count;
          held_is = is_held ∙ ap (λ (x : List Entry). x ++ take adds.count (drop there given)) (its_held ∙ sym whole) ∙ append_assoc (held l (Some g)) (drop (count_of l) all) (take adds.count (drop there given))
              ∙ ap (λ (x : List Entry). held l (Some g) ++ (drop (count_of l) all ++ take adds.count x)) same
              ∙ ap (λ (x : List Entry). held l (Some g) ++ x) (sym (take_behind adds.count (drop (count_of l) all) (drop (length (drop (count_of l) all)) given)));
          all = all_more r adds.all;
        }
      where
        all_more : (s : Result (Unit {0}) LogdbError) → OnOk s (length (drop there given) ≤ adds.count) → OnOk s (length (drop (count_of l) all ++ drop (length (drop (count_of l) all)) given) ≤ length (drop (count_of l) all) + adds.count)
        all_more (Ok x) enough =
            let n = length-append (drop (count_of l) all) (drop (length (drop (count_of l) all)) given) in
            let m : length (drop there given) ≡ length (drop (length (drop (count_of l) all)) given) = ap (λ (k : ℕ). length (drop k given)) (sym length_doubt) in
            omega (arith, n, m, enough)
        all_more (Err x) enough = tt

    pub some_counts : IfSome (file_of 1 now) (λ _. CountsMore l given r (file_of 1 w) (held new (file_of 1 now)))
    some_counts =
        subst (λ (o : Option File). IfSome (file_of 1 now) (λ _. CountsMore l given r o (held new (file_of 1 now)))) (sym some)
        (if_map (file_of 1 now) (λ _. held new (file_of 1 now) ≡ held ready (file_of 1 mid) ++ take adds.count (drop there given)) (λ _. CountsMore l given r (Some g) (held new (file_of 1 now))) (λ h here is_held. counts_here is_held) adds.held_is)

-- the entry behind so many images
map_next : (k : ℕ) (given : List Entry) (image : List ℕ) (rest : List (List ℕ)) → drop k (map entry_image given) ≡ image ∷ rest → (e : Entry) × (more : List Entry) × (drop k given ≡ e ∷ more) × (image ≡ entry_image e)
map_next zero [] image rest is = absurd (cc is)
map_next (suc k) [] image rest is = absurd (cc is)
map_next zero (e ∷ es) image rest is = (e, es, refl, cc is)
map_next (suc k) (e ∷ es) image rest is = map_next k es image rest is

full_of : (given : List Entry) (count need room : ℕ) (l : LogState) → IsImageFullAt (map entry_image given) count need room l → IsFullAt given count need room l
full_of given count need room l full =
    let n = map_next count given full.image full.rest full.next in
    record {
      entry = n.0;
      rest = n.1;
      next = n.2;
      need_is = omega (arith, full.need_is, ap (length {A = ℕ}) n.3, length-entry_image n.0);
      room_is = full.room_is;
      less = full.less;
    }

pub full_behind : (given : List Entry) (images : List (List ℕ)) (there count need room : ℕ) (l : LogState) → images ≡ drop there (map entry_image given) → IsImageFullAt images count need room l → IsFull given need room l
full_behind given images there count need room l is full = (
  there + count,
  full_of given (there + count) need room l (record {
    image = full.image;
    rest = full.rest;
    next = sym (drop-drop count there (map entry_image given)) ∙ ap (drop count) (sym is) ∙ full.next;
    need_is = full.need_is;
    room_is = full.room_is;
    less = full.less;
  }),
)

-- of whatever store, where no record was in doubt
pub advances : (l ready new : LogState) (given : List Entry) (images : List (List ℕ)) (r : Result (Unit {0}) LogdbError) → images ≡ map entry_image given → next_of ready ≡ next_of l → room_of ready ≡ room_of l → room_of ready ≡ content_end MOST - ready.log.place
    → MovesImages images r ready new → Advances given r l new
advances l ready new given images r is next room room_ready m =
    let images_map = map entry_image given in
    let long : length images ≡ length given = ap (length {A = List ℕ}) is ∙ length-map given entry_image in
    let end : new.log.place ≡ ready.log.place + records_width (take m.count given) = m.place ∙ ap (λ (x : List (List ℕ)). end_of_list ready.log.place (take m.count x)) is ∙ images_end m.count ready.log.place given in
    record {
      count = m.count;
      some = omega (arith, m.some, long);
      next = m.next ∙ ap (λ (n : ℕ). n + m.count) next;
      room = by_within m.within end;
      all = all_of r long m.all;
      full = λ need left here. full_of given m.count need left new (subst (λ (x : List (List ℕ)). IsImageFullAt x m.count need left new) is (m.full need left here));
    }
  where
    all_of : (s : Result (Unit {0}) LogdbError) → length images ≡ length given → OnOk s (m.count ≡ length images) → OnOk s (m.count ≡ length given)
    all_of (Ok x) long here = here ∙ long
    all_of (Err x) long here = tt

    none_wide : m.count ≡ 0 → records_width (take m.count given) ≡ 0
    none_wide none = ap (λ (n : ℕ). records_width (take n given)) none

    by_within : (m.count ≡ 0) ⊎ (new.log.place ≤ content_end MOST) → new.log.place ≡ ready.log.place + records_width (take m.count given) → room_of l ≡ records_width (take m.count given) + room_of new
    by_within (inl none) end = omega (arith, room, room_ready, m.room_is, end, none_wide none)
    by_within (inr within) end = omega (arith, room, room_ready, m.room_is, end, within)

-- the payloads are those of entries, whatever their number
pub some_given : (number there : ℕ) (given : List Entry) → AllByRecursion HasImage given → (any : List Entry) × (entries_from number 0 (drop there (map entry_image given)) ≡ Ok any)
some_given number zero given every = any_read number 0 given every
some_given number (suc k) [] every = ([], refl)
some_given number (suc k) (e ∷ es) every = some_given number k es every.1

-- nothing was done
same_left : (l : LogState) (o : Option File) → IfSome o (λ f. held l o ≡ held l (Some f))
same_left l None = tt
same_left l (Some g) = refl

pub run_nothing : (l : LogState) (given : List Entry) (w : World) → EachImage (HoldsSome (first_of l)) (file_of 1 w) → AppendsThrough l given w w
run_nothing l given w some = run_none_more l given w w some (begins 1 (KeepsOpened (file_of 1 w)) w (same_opened (file_of 1 w) (file_of 1 w) refl))

pub counts_nothing : (l : LogState) (given : List Entry) (err : LogdbError) (o : Option File) → IfSome o (λ _. CountsMore {T = Unit {0}} l given (Err err) o (held l o))
counts_nothing l given err o = counts_none l l given err o o refl (same_left l o)

-- of a file that isn't told nothing is said
pub none_told : (o p : Option File) (P : File → Type 0) → o ≡ None → is_some p ≡ is_some o → IfSome p P
none_told o None P none told = tt
none_told o (Some h) P none told = absurd (false≢true (sym (told ∙ ap is_some none)))

-- the entries continue the last number, where the file is told
pub next_then : (l ready : LogState) (o p : Option File) (g : File) → o ≡ Some g → IsReady {T = Unit {0}} l ready (Ok tt) o p → next_of l - 1 + 1 ≡ next_of l
next_then l ready o p g some is =
    let before : next_of l ≡ first_of l + length (held l (Some g)) = subst (λ (x : Option File). IfSome x (λ f. next_of l ≡ first_of l + length (held l (Some f)))) some is.counted in
    omega (arith, before, is.some)

-- the number of the next record, where the file is told
pub number_then : (l ready : LogState) (there : ℕ) (o p : Option File) (g : File) → o ≡ Some g → IsReady {T = Unit {0}} l ready (Ok tt) o p → there ≡ next_of ready - next_of l → next_of l + there ≡ next_of ready
number_then l ready there o p g some is is_there =
    let after : next_of ready ≡ first_of l + length (entries_in (Some g)) = subst (λ (x : Option File). IfSome x (λ f. next_of ready ≡ first_of l + length (entries_in (Some f)))) some is.number in
    let before : next_of l ≡ first_of l + length (held l (Some g)) = subst (λ (x : Option File). IfSome x (λ f. next_of l ≡ first_of l + length (held l (Some f)))) some is.counted in
    omega (arith, is_there, after, before, length-take (count_of l) (entries_in (Some g)))

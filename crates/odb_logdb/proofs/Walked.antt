-- What a reading gives.
use Rattle.std.proofs.Common.{◌≡◌, ℕ, zero, suc, ◌+◌, ◌-◌, ◌≤◌, max, List, [], ◌∷◌, ◌++◌, length, take, drop, Option, Some, None, Result, Ok, Err, sym, ◌∙◌, ap, subst, arith}
use Rattle.std.specs.Prelude.{IfSome, IfOk}
use Rattle.std.proofs.lemmas.List.{take_all, length-take, length-drop}
use Rattle.std.proofs.Math.Seq.{drop-nil}
use Rattle.odb_device.specs.World.{File, World, file_of}
use Rattle.odb_device.specs.Images.{EachImage, ReadsImage}
use Rattle.odb_device.proofs.Time.{begins, weakens, run_end}
use Rattle.odb_reclog.specs.Told.{OnlyReads}
use Rattle.odb_reclog.specs.Standing.{Log, Stands as LogStands}
use Rattle.odb_entries.specs.Listed.{log_entries}
use Rattle.odb_entries.specs.Walking.{IsReadOf, AddsSome}
use Rattle.odb_model.specs.declared.entry.Entry.{Entry}
use Rattle.odb_model.specs.State.{IsNumberedFrom}
use Rattle.odb_logdb.specs.declared.state.ListState.{ListState}
use Rattle.odb_logdb.specs.declared.state.ListState.TheVariants.{Known, Dirty}
use Rattle.odb_logdb.specs.Opened.{entries_in}
use Rattle.odb_logdb.specs.Standing.{LogState, HoldsBy, StandsFor, StandsIn, Stands, first_of, next_by, next_of, count_of, held}
use Rattle.odb_logdb.specs.Worlds.{KeepsStanding, AreFrom}

numbered_take : (k n : ℕ) (es : List Entry) → IsNumberedFrom n es → IsNumberedFrom n (take k es)
numbered_take zero n es is = tt
numbered_take (suc k) n [] is = tt
numbered_take (suc k) n (e ∷ es) is = (is.0, numbered_take k (n + 1) es is.1)

-- what the walk gave, cut behind the last number
pub numbers_front : (l : LogState) (from first next most : ℕ) (items es : List Entry) → first ≤ from → AddsSome from first next [] items → es ≡ take most items → most ≡ next_of l - from → AreFrom l from es
numbers_front l from first next most items es low some is most_is =
    let more = some.3.0 in
    let start : max from first ≡ from = omega arith in
    let all : es ≡ take most more = is ∙ ap (take most) some.3.1 in
    record {
      numbers = subst (IsNumberedFrom from) (sym all) (numbered_take most from more (subst (λ (n : ℕ). IsNumberedFrom n more) start some.3.2.numbers));
      count = omega (arith, ap (length {A = Entry}) all, length-take most more, most_is);
    }

pub told_front : (log : Log) (o : Option File) (from first next most : ℕ) (items es : List Entry) → es ≡ take most items → most ≡ next - from → log.first ≡ first
    → IfSome o (λ f. IsReadOf {T = Unit {0}} (λ all _. items ≡ [] ++ drop (from - log.first) all) (log_entries log f.bytes) (Ok tt))
    → IfSome o (λ f. (all : List Entry) → log_entries log f.bytes ≡ Ok all → es ≡ take (next - from) (drop (from - first) all))
told_front log None from first next most items es is most_is first_is told = tt
told_front log (Some f) from first next most items es is most_is first_is told = λ all read.
    let same : told.0 ≡ all = cc (told.1, read) in
    is ∙ ap (λ (n : ℕ). take n items) most_is ∙ ap (take (next - from)) (told.2 ∙ ap (λ (n : ℕ). drop (from - n) told.0) first_is ∙ ap (drop (from - first)) same)

pub told_wrong : (log : Log) (o : Option File) (at : ℕ) (P : List Entry → Type 0) → IfSome o (λ f. log_entries log f.bytes ≡ Err at) → IfSome o (λ f. (all : List Entry) → log_entries log f.bytes ≡ Ok all → P all)
told_wrong log None at P wrong = tt
told_wrong log (Some f) at P wrong = λ all read. let never : Ok all ≡ Err at = sym read ∙ wrong in absurd (cc never)

pub ok_map : {T E : Type 0} (r : Result T E) (P Q : T → Type 0) → IfOk r P → ((x : T) → P x → Q x) → IfOk r Q
ok_map (Ok x) P Q here give = give x here
ok_map (Err e) P Q here give = tt

-- a log that stands, through reads
pub each_of : (l : LogState) (o : Option File) → Stands l o → EachImage (StandsFor l (held l o)) o
each_of l None stands = tt
each_of l (Some g) stands = stands.each

pub still_standing : (l : LogState) (w now : World) → Stands l (file_of 1 w) → OnlyReads 1 w now → KeepsStanding l w now
still_standing l w now stands reads =
    let P = EachImage (StandsFor l (held l (file_of 1 w))) in
    weakens 1 (λ p. p ≡ file_of 1 w) P w now (λ p is. subst P (sym is) (each_of l (file_of 1 w) stands)) reads

pub stands_still : (l : LogState) (w now : World) → Stands l (file_of 1 w) → OnlyReads 1 w now → Stands l (file_of 1 now)
stands_still l w now stands reads = subst (Stands l) (sym (run_end 1 (λ p. p ≡ file_of 1 w) w now reads)) stands

pub quiet_standing : (l : LogState) (w : World) → Stands l (file_of 1 w) → KeepsStanding l w w
quiet_standing l w stands = begins 1 (EachImage (StandsFor l (held l (file_of 1 w)))) w (each_of l (file_of 1 w) stands)

-- where the list is known its log stands, and has the entries that are held
pub log_stands : (l : LogState) (o : Option File) → l.state ≡ Known → Stands l o → LogStands l.log o
log_stands l None known stands = tt
log_stands l (Some g) known stands = stands.log known

read_known : (l : LogState) (g : File) → l.state ≡ Known → ReadsImage (Some g) → StandsIn l g → log_entries l.log g.bytes ≡ Ok (held l (Some g))
read_known l g known reads stands = (subst (λ (s : ListState). HoldsBy l s (held l (Some g)) g.bytes) known (stands.each g.bytes reads).holds).1

-- a list of as many entries as are counted ends with the last number
pub whole_front : (l : LogState) (from : ℕ) (all : List Entry) → first_of l ≤ from → length all ≡ count_of l → take (next_of l - from) (drop (from - first_of l) all) ≡ drop (from - first_of l) all
whole_front l from all low count = take_all (next_of l - from) (drop (from - first_of l) all) (omega (arith, length-drop (from - first_of l) all))

pub entries_known : {E : Type 0} (l : LogState) (o : Option File) (from : ℕ) (r : Result (List Entry) E) → l.state ≡ Known → ReadsImage o → Stands l o → first_of l ≤ from
    → IfSome o (λ f. (all : List Entry) → log_entries l.log f.bytes ≡ Ok all → IfOk r (λ es. es ≡ take (next_of l - from) (drop (from - first_of l) all)))
    → IfSome o (λ _. IfOk r (λ es. es ≡ drop (from - first_of l) (held l o)))
entries_known l None from r known reads stands low told = tt
entries_known l (Some g) from r known reads stands low told =
    ok_map r (λ es. es ≡ take (next_of l - from) (drop (from - first_of l) (held l (Some g)))) (λ es. es ≡ drop (from - first_of l) (held l (Some g)))
    (told (held l (Some g)) (read_known l g known reads stands)) (λ es is. is ∙ whole_front l from (held l (Some g)) low stands.count)

-- a Dirty log holds none
pub held_dirty : (l : LogState) (o : Option File) → l.state ≡ Dirty → held l o ≡ []
held_dirty l o dirty =
    let none : count_of l ≡ 0 = let next : next_of l ≡ first_of l = ap (next_by l) dirty in omega arith in
    ap (λ (n : ℕ). take n (entries_in o)) none

pub dirty_front : (l : LogState) (o : Option File) (from : ℕ) (es : List Entry) → l.state ≡ Dirty → es ≡ [] → IfSome o (λ _. es ≡ drop (from - first_of l) (held l o))
dirty_front l None from es dirty none = tt
dirty_front l (Some g) from es dirty none =
    none ∙ sym (ap (drop (from - first_of l)) (held_dirty l (Some g) dirty) ∙ drop-nil (from - first_of l))

pub none_from : (l : LogState) (from : ℕ) (es : List Entry) → es ≡ [] → AreFrom l from es
none_from l from es none = record {
  numbers = subst (IsNumberedFrom from) (sym none) tt;
  count = omega (arith, ap (length {A = Entry}) none);
}

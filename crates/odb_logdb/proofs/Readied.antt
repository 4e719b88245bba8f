-- A list that is known, or made known, and what memory counts of it.
use Rattle.std.proofs.Common.{◌≡◌, inl, inr, ℕ, ◌+◌, ◌≤◌, List, [], ◌∷◌, ◌++◌, length, Option, Some, None, Ok, Err, refl, sym, ◌∙◌, ap, subst, arith}
use Rattle.std.specs.Prelude.{is_some, IfSome}
use Rattle.std.proofs.lemmas.Bool.{false≢true}
use Rattle.odb_device.specs.World.{File, World, file_of}
use Rattle.odb_device.specs.Images.{EachImage, ReadsImage}
use Rattle.odb_device.proofs.Torn.{each_weakens}
use Rattle.odb_extent.specs.Standing.{limit_of, fields_of}
use Rattle.odb_reclog.specs.Records.{log_of}
use Rattle.odb_reclog.specs.Standing.{Log, Stands as LogStands}
use Rattle.odb_entries.specs.Listed.{log_entries}
use Rattle.odb_entries.proofs.Entries.{count_read}
use Rattle.odb_model.specs.declared.entry.Entry.{Entry}
use Rattle.odb_logdb.specs.declared.state.ListState.{ListState}
use Rattle.odb_logdb.specs.declared.state.ListState.TheVariants.{Known, Unknown, Dirty}
use Rattle.odb_logdb.specs.declared.error.LogdbError.TheVariants.{Fault}
use Rattle.odb_logdb.specs.Fields.{fields_in}
use Rattle.odb_logdb.specs.Opened.{Holds, entries_of, entries_in}
use Rattle.odb_logdb.specs.Standing.{LogState, IsLogdb, MayHaveOneMore, HoldsBy, Stands, first_of, next_of, next_by, held}
use Rattle.odb_logdb.specs.Adding.{IsHeld, IsDoubtful}
use Rattle.odb_logdb.specs.Appending.{HoldsSome, IsReady}
use Rattle.odb_logdb.proofs.Opened.{lawful_some}
use Rattle.odb_logdb.proofs.Added.{holds_now}
use Rattle.odb_logdb.proofs.Stood.{log_with, held_known_of, doubtful_of, known_held, unknown_held, count_may}

-- the first number is 1 at least
pub first_some : (l : LogState) → IsLogdb l → 1 ≤ first_of l
first_some l is = (lawful_some (limit_of l.extents) (fields_in (fields_of l.extents)) l.fields is.fields).some

-- of a told file, what it reads counts
counted_known : (log : Log) (entries : List Entry) (o : Option File) → ReadsImage o → LogStands log o → IfSome o (λ g. log_entries log g.bytes ≡ Ok entries) → IfSome o (λ _. log.next ≡ log.first + length entries)
counted_known log entries None reads stands read = tt
counted_known log entries (Some g) reads stands read =
    let number = (stands g.bytes reads).number in
    omega (arith, number, count_read log.first log.start (log_of log.start log.end log.first g.bytes) entries read)

counted_doubt : (log : Log) (entries : List Entry) (o : Option File) → ReadsImage o → EachImage (MayHaveOneMore log entries) o → IfSome o (λ _. log.next ≡ log.first + length entries)
counted_doubt log entries None reads may = tt
counted_doubt log entries (Some g) reads may = sym (count_may log entries g.bytes (may g.bytes reads))

entries_now : (first : ℕ) (entries : List Entry) (o : Option File) → ReadsImage o → EachImage (Holds first entries) o → IfSome o (λ g. entries ≡ entries_in (Some g))
entries_now first entries None reads holds = tt
entries_now first entries (Some g) reads holds = sym (ap entries_of (holds g.bytes reads))

-- in words of a told file and of another that is told where it is
pub if_map : (o : Option File) (P Q : File → Type 0) → ((g : File) → o ≡ Some g → P g → Q g) → IfSome o P → IfSome o Q
if_map None P Q give here = tt
if_map (Some g) P Q give here = give g refl here

some_known : (first : ℕ) (entries : List Entry) (o : Option File) → EachImage (Holds first entries) o → EachImage (HoldsSome first) o
some_known first entries o holds = each_weakens (Holds first entries) (HoldsSome first) o (λ image here. (entries, here)) holds

one_may : (log : Log) (entries : List Entry) (bytes : List ℕ) → MayHaveOneMore log entries bytes → HoldsSome log.first bytes
one_may log entries bytes (inl here) = (entries, here.holds)
one_may log entries bytes (inr more) = (entries ++ more.last ∷ [], more.holds)

-- a list that is known
pub ready_known : (l : LogState) (w : World) → IsLogdb l → l.state ≡ Known → ReadsImage (file_of 1 w) → Stands l (file_of 1 w) → IsReady {T = Unit {0}} l l (Ok tt) (file_of 1 w) (file_of 1 w)
ready_known l w is known reads stands =
    let o = file_of 1 w in
    let h = held_known_of l w is known reads stands in
    let holds = holds_now l.extents l.fields l.log (held l o) w h in
    let next : next_of l ≡ l.log.next = ap (next_by l) known in
    let counted : IfSome o (λ _. next_of l ≡ first_of l + length (held l o)) =
    if_map o (λ _. l.log.next ≡ l.log.first + length (held l o)) (λ _. next_of l ≡ first_of l + length (held l o))
    (λ g some here. next ∙ here ∙ ap (λ (n : ℕ). n + length (held l o)) h.live.first) (counted_known l.log (held l o) o reads h.stands h.read) in
    let all : IfSome o (λ g. held l o ≡ entries_in (Some g)) = entries_now l.fields.first (held l o) o reads holds in
    record {
      some = first_some l is;
      first = refl;
      known = known;
      next = λ other. refl;
      room = λ other. refl;
      images = some_known l.fields.first (held l o) o holds;
      counted = if_map o (λ _. next_of l ≡ first_of l + length (held l o)) (λ f. next_of l ≡ first_of l + length (held l (Some f)))
          (λ g some here. subst (λ (x : Option File). next_of l ≡ first_of l + length (held l x)) some here) counted;
      all = all;
      number = if_two o (λ _. next_of l ≡ first_of l + length (held l o)) (λ g. held l o ≡ entries_in (Some g)) (λ g. next_of l ≡ first_of l + length (entries_in (Some g)))
          (λ g here same. here ∙ ap (λ (x : List Entry). first_of l + length x) same) counted all;
      left = tt;
    }
  where
    if_two : (o : Option File) (P Q R : File → Type 0) → ((g : File) → P g → Q g → R g) → IfSome o P → IfSome o Q → IfSome o R
    if_two None P Q R give here there = tt
    if_two (Some g) P Q R give here there = give g here there

-- a list that was read again
module _ (l : LogState) (w now : World) (is : IsLogdb l) (unknown : l.state ≡ Unknown) (reads : ReadsImage (file_of 1 w)) (reads_now : ReadsImage (file_of 1 now)) (stands : Stands l (file_of 1 w)) (told : is_some (file_of 1 now) ≡ is_some (file_of 1 w)) where
  abbrev o : Option File
  o = file_of 1 w

  abbrev p : Option File
  p = file_of 1 now

  doubt : IsDoubtful l.extents l.fields l.log (held l o) w
  doubt = doubtful_of l w is unknown stands

  images : EachImage (HoldsSome (first_of l)) o
  images = each_weakens (MayHaveOneMore l.log (held l o)) (HoldsSome (first_of l)) o (λ image may. subst (λ (n : ℕ). HoldsSome n image) is.first (one_may l.log (held l o) image may)) doubt.each

  counted : IfSome o (λ f. next_of l ≡ first_of l + length (held l (Some f)))
  counted =
      if_map o (λ _. l.log.next ≡ l.log.first + length (held l o)) (λ f. next_of l ≡ first_of l + length (held l (Some f)))
      (λ g some here. ap (next_by l) unknown ∙ here ∙ ap (λ (n : ℕ). n + length (held l o)) is.first ∙ ap (λ (x : Option File). first_of l + length (held l x)) some)
      (counted_doubt l.log (held l o) o reads doubt.each)

  -- what holds where the file is told now, held where it was told before
  by_told : (Q : Type 0) (a b : Option File) → is_some b ≡ is_some a → IfSome b (λ _. Q) → IfSome a (λ _. Q)
  by_told Q None b same here = tt
  by_told Q (Some g) None same here = absurd (false≢true same)
  by_told Q (Some g) (Some h) same here = here

  pub ready_again : (log : Log) → IsHeld l.extents l.fields log (entries_in o) now → IsReady {T = Unit {0}} l (log_with l.extents l.fields log Known) (Ok tt) o p
  ready_again log h =
      let new = log_with l.extents l.fields log Known in
      let all : IfSome p (λ _. held new p ≡ entries_in o) =
      if_map p (λ g. held new (Some g) ≡ entries_in o) (λ _. held new p ≡ entries_in o) (λ g some here. ap (held new) some ∙ here) (known_held l.extents l.fields log (entries_in o) now h reads_now) in
      record {
        some = first_some l is;
        first = refl;
        known = refl;
        next = λ other. absurd (other unknown);
        room = λ other. absurd (other unknown);
        images = images;
        counted = counted;
        all = if_map o (λ _. held new p ≡ entries_in o) (λ f. held new p ≡ entries_in (Some f)) (λ g some here. here ∙ ap entries_in some) (by_told (held new p ≡ entries_in o) o p told all);
        number = if_map o (λ _. log.next ≡ log.first + length (entries_in o)) (λ f. next_of new ≡ first_of l + length (entries_in (Some f)))
            (λ g some here. here ∙ ap (λ (n : ℕ). n + length (entries_in o)) h.live.first ∙ ap (λ (x : Option File). first_of l + length (entries_in x)) some)
            (by_told (log.next ≡ log.first + length (entries_in o)) o p told (counted_known log (entries_in o) p reads_now h.stands h.read));
        left = tt;
      }

  -- or couldn't be
  pub ready_left : IsDoubtful l.extents l.fields l.log (held l o) now → IsReady {T = Unit {0}} l l (Err Fault) o p
  ready_left d =
      let same : IfSome p (λ _. held l p ≡ held l o) =
      if_map p (λ g. held (log_with l.extents l.fields l.log Unknown) (Some g) ≡ held l o) (λ _. held l p ≡ held l o)
      (λ g some here. ap (held l) some ∙ subst (λ (s : ListState). held (log_with l.extents l.fields l.log s) (Some g) ≡ held l o) (sym unknown) here)
      (unknown_held l.extents l.fields l.log (held l o) p d.live reads_now d.each) in
      record {
        some = first_some l is;
        first = refl;
        known = tt;
        next = λ other. refl;
        room = λ other. refl;
        images = images;
        counted = counted;
        all = tt;
        number = tt;
        left = if_map o (λ _. held l p ≡ held l o) (λ f. held l p ≡ held l (Some f)) (λ g some here. here ∙ ap (held l) some) (by_told (held l p ≡ held l o) o p told same);
      }

-- a log that stands has images that hold something
holds_by : (l : LogState) (s : ListState) (entries : List Entry) (bytes : List ℕ) → l.log.first ≡ first_of l → HoldsBy l s entries bytes → HoldsSome (first_of l) bytes
holds_by l Known entries bytes first here = (entries, here.0)
holds_by l Unknown entries bytes first here = subst (λ (n : ℕ). HoldsSome n bytes) first (one_may l.log entries bytes here)
holds_by l Dirty entries bytes first here = (entries, here.holds)

pub some_of : (l : LogState) (o : Option File) → l.log.first ≡ first_of l → Stands l o → EachImage (HoldsSome (first_of l)) o
some_of l None first stands = tt
some_of l (Some g) first stands = λ image im. holds_by l l.state (held l (Some g)) image first (stands.each image im).holds

-- What a log stands for while its tail is cleared, and after it.
use Rattle.std.proofs.Common.{◌≡◌, inl, inr, ℕ, ◌+◌, ◌-◌, ◌<◌, ◌≤◌, Bool, true, false, List, [], length, Option, Some, None, refl, sym, ◌∙◌, ap, subst, arith}
use Rattle.std.specs.Prelude.{is_some, IfSome}
use Rattle.std.proofs.lemmas.Bool.{cases_Bool, false≢true}
use Rattle.odb_device.specs.World.{File, World, file_of}
use Rattle.odb_device.specs.Images.{EachImage, ReadsImage, TornFrom, IsKept}
use Rattle.odb_device.specs.Calls.{Stays}
use Rattle.odb_device.specs.Moments.{Runs}
use Rattle.odb_device.proofs.Bytes.{image_kept}
use Rattle.odb_device.proofs.Torn.{each_weakens}
use Rattle.odb_reclog.specs.Standing.{Log, IsLog, StandsFor, Stands, list_of, tail_of}
use Rattle.odb_reclog.specs.Moments.{KeepsLists}
use Rattle.odb_device.specs.Zeros.{AreZero, ReadsZero}
use Rattle.odb_reclog.proofs.Standing.{touched_log, cleared_log, stands_cleared, stands_bodiless, tail_zero}
use Rattle.odb_reclog.proofs.Files.{behind_run, behind_each, stands_each, list_each}

-- the log while its tail is cleared
abbrev pub half_log : Log → Bool → Log
half_log log touched = record log { touched = touched; has_body = false }

untold : (o : Option File) → is_some o ≡ false → o ≡ None
untold None none = refl
untold (Some f) none = absurd (false≢true (sym none))

-- images of which each is what a read gives, or has its tail, have zeros where that reads as zeros
cleared_images : (log : Log) (touched : Bool) (records : List (List ℕ)) (between : List ℕ) (now : Option File) → ReadsImage now → EachImage (StandsFor (half_log log touched) records between) now
    → ReadsZero (log.place + 1) log.clear_from now → (touched ≡ true → IsKept now) → EachImage (StandsFor (cleared_log log) records []) now
cleared_images log touched records between None reads each zero kept = tt
cleared_images log touched records between (Some g) reads each zero kept = λ image is.
    stands_cleared (half_log log touched) records between image (each image is)
    (elim (cases_Bool touched) [
      | inl was ↦ subst (AreZero (log.place + 1) log.clear_from) (sym (image_kept g image (kept was) is)) zero
      | inr not ↦ tail_zero log image g.bytes ((each image is).tail not ∙ sym ((each g.bytes reads).tail not)) zero
    ])

module _ (log : Log) (w now : World) (touched : Bool) (stands : Stands log (file_of log.file w)) (is : IsLog log) (some : log.place + 1 < log.clear_from)
    (run : Runs log.file (TornFrom (log.place + 1) (log.clear_from - (log.place + 1)) (file_of log.file w)) w now) where
  pub tail_run : Runs log.file (KeepsLists log.start log.end log.first (log.place + 1) (log.end - (log.place + 1)) (file_of log.file w)) w now
  tail_run = let high = is.clear_to in behind_run log (log.clear_from - (log.place + 1)) w now stands run (omega arith)

  told : is_some (file_of log.file now) ≡ is_some (file_of log.file w)
  told = run.only.told now.time run.only.later (omega arith)

  -- what reads as zeros isn't touched
  pub tail_untouched : ReadsImage (file_of log.file w) → (log.touched ≡ false → (f : File) → file_of log.file w ≡ Some f → log.clear_from ≤ length f.bytes → AreZero (log.place + 1) log.clear_from f.bytes → touched ≡ false)
      → log.touched ≡ false → IfSome (file_of log.file w) (λ f. AreZero (log.place + 1) log.end f.bytes → touched ≡ false)
  tail_untouched reads unwritten e = of_file (file_of log.file w) refl reads stands
    where
      of_file : (o : Option File) → file_of log.file w ≡ o → ReadsImage o → Stands log o → IfSome o (λ f. AreZero (log.place + 1) log.end f.bytes → touched ≡ false)
      of_file None is_none image each = tt
      of_file (Some f) is_f image each = λ all.
          let high = is.clear_to in
          let long = (each f.bytes image).long in
          unwritten e f is_f (omega arith) (λ i low below. all i low (omega arith))

  module _ (untouched : touched ≡ false → (log.touched ≡ false) × Stays log.file w now) where
    pub tail_unwritten : ReadsImage (file_of log.file w) → (log.touched ≡ false → (f : File) → file_of log.file w ≡ Some f → log.clear_from ≤ length f.bytes → AreZero (log.place + 1) log.clear_from f.bytes → touched ≡ false)
        → log.touched ≡ false → IfSome (file_of log.file w) (λ f. AreZero (log.place + 1) log.end f.bytes) → Stays log.file w now
    tail_unwritten reads unwritten e zeros = of_file (file_of log.file w) refl reads stands zeros
      where
        of_file : (o : Option File) → file_of log.file w ≡ o → ReadsImage o → Stands log o → IfSome o (λ f. AreZero (log.place + 1) log.end f.bytes) → Stays log.file w now
        of_file None is_none image each all = untold (file_of log.file now) (told ∙ ap is_some is_none) ∙ sym is_none
        of_file (Some f) is_f image each all =
            let high = is.clear_to in
            let long = (each f.bytes image).long in
            (untouched (unwritten e f is_f (omega arith) (λ i low below. all i low (omega arith)))).1

    module _ (reads : ReadsImage (file_of log.file now)) where
      half_each : EachImage (StandsFor (half_log log touched) (list_of log (file_of log.file w)) (tail_of log (file_of log.file w))) (file_of log.file now)
      half_each =
          let records = list_of log (file_of log.file w) in
          let between = tail_of log (file_of log.file w) in
          elim (cases_Bool touched) [
            | inl was ↦
                let high = is.clear_to in
                let of_touched : IsLog (touched_log log log.clear_from false) = record {
                  start = is.start;
                  end = is.end;
                  most = is.most;
                  first = is.first;
                  next = is.next;
                  clear_from = is.clear_from;
                  clear_to = is.clear_to;
                  body = λ e. absurd (false≢true e);
                } in
                subst (λ (b : Bool). EachImage (StandsFor (half_log log b) records between) (file_of log.file now)) (sym was)
                (behind_each log (log.clear_from - (log.place + 1)) w now stands run reads log.clear_from false of_touched (omega arith) (omega arith) between)
            | inr not ↦
                let stays = untouched not in
                subst (λ (b : Bool). EachImage (StandsFor (half_log log b) records between) (file_of log.file now)) (stays.0 ∙ sym not)
                (subst (EachImage (StandsFor (half_log log log.touched) records between)) (sym stays.1)
                (each_weakens (StandsFor log records between) (StandsFor (half_log log log.touched) records between) (file_of log.file w) (λ image one. stands_bodiless log records between image one) stands))
          ]

      pub half_stands : Stands (half_log log touched) (file_of log.file now)
      half_stands = stands_each (half_log log touched) (list_of log (file_of log.file w)) (tail_of log (file_of log.file w)) (file_of log.file now) reads half_each

      pub half_list : list_of (half_log log touched) (file_of log.file now) ≡ list_of log (file_of log.file w)
      half_list = list_each log (half_log log touched) (tail_of log (file_of log.file w)) (file_of log.file w) (file_of log.file now) told reads half_each

      module _ (zero : ReadsZero (log.place + 1) log.clear_from (file_of log.file now)) (kept : touched ≡ true → IsKept (file_of log.file now)) where
        cleared_each : EachImage (StandsFor (cleared_log log) (list_of log (file_of log.file w)) []) (file_of log.file now)
        cleared_each = cleared_images log touched (list_of log (file_of log.file w)) (tail_of log (file_of log.file w)) (file_of log.file now) reads half_each zero kept

        pub cleared_stands : Stands (cleared_log log) (file_of log.file now)
        cleared_stands = stands_each (cleared_log log) (list_of log (file_of log.file w)) [] (file_of log.file now) reads cleared_each

        pub cleared_list : list_of (cleared_log log) (file_of log.file now) ≡ list_of log (file_of log.file w)
        cleared_list = list_each log (cleared_log log) [] (file_of log.file w) (file_of log.file now) told reads cleared_each

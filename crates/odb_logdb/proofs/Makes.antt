-- A new log.
use Rattle.std.proofs.Common.{◌≡◌, ℕ, ◌^◌, ◌≤◌, Bool, true, [], ◌∷◌, Some, None, refl, sym, ◌∙◌, ap, subst, arith}
use Rattle.std.specs.Prelude.{if◌then◌else◌}
use Rattle.std.proofs.lemmas.Bool.Decides.{nat_tests}
use Rattle.odb_device.specs.World.{World, file_of}
use Rattle.odb_device.specs.Images.{EachImage, ReadsImage}
use Rattle.odb_device.proofs.Torn.{each_weakens}
use Rattle.odb_extent.specs.Opened.{content_end, limit_in}
use Rattle.odb_extent.specs.Standing.{ExtentState, limit_of, fields_of, limit_tried, IsNew, IsSound, IsSettled, new_file, Stands as ExtentsStand}
use Rattle.odb_reclog.specs.Standing.{begun}
use Rattle.odb_fields.proofs.Back.{found}
use Rattle.odb_logdb.specs.declared.fields.LogFields.{LogFields}
use Rattle.odb_logdb.specs.declared.state.ListState.TheVariants.{Known}
use Rattle.odb_logdb.specs.Fields.{LIVE, widths, fields_image, fields_in, of_numbers, is_lawful, lawful, lawful_in, log_fields}
use Rattle.odb_logdb.specs.Opened.{Holds}
use Rattle.odb_logdb.specs.Standing.{IsLogdb}
use Rattle.odb_logdb.specs.Adding.{IsHeld}
use Rattle.odb_logdb.specs.Finishing.{HasZeros, IsLiveIn}
use Rattle.odb_logdb.specs.Worlds.{IsNewLog}
use Rattle.odb_logdb.proofs.Added.{holds_now}
use Rattle.odb_logdb.proofs.Stood.{log_with, known_stands, known_is}
use Rattle.odb_logdb.proofs.Finished.{live_held}

module _ (first : ℕ) (low : 1 ≤ first) (high : first ≤ 2 ^ 63) where
  abbrev f : LogFields
  f = log_fields LIVE first

  fields_new : fields_in (fields_image f) ≡ Some f
  fields_new = ap of_numbers (found 36 widths (1 ∷ LIVE ∷ first ∷ 0 ∷ []) (omega arith, (omega arith, (omega arith, (omega arith, tt)))))

  lawful_new : lawful_in 1 (fields_image f) ≡ Some f
  lawful_new =
      let passes : is_lawful 1 f ≡ true = grind (arith, nat_tests) in
      ap (lawful 1) fields_new ∙ ap (λ (b : Bool). if b then Some f else None) passes

  module _ (e : ExtentState) (is_e : e ≡ new_file 1 1024 (fields_image f)) (limit : limit_of e ≡ 1) (fields : fields_of e ≡ fields_image f) where
    is : lawful_in (limit_of e) (fields_of e) ≡ Some f
    is = ap (λ (n : ℕ). lawful_in n (fields_of e)) limit ∙ ap (lawful_in 1) fields ∙ lawful_new

    settled_new : IsSettled e
    settled_new = subst IsSettled (sym is_e) (record { settled = refl; tried = refl })

    tried_new : limit_tried e ≡ limit_of e
    tried_new = ap limit_in settled_new.tried

    sound_new : IsSound e
    sound_new = record {
      low = omega (arith, limit);
      high = omega (arith, limit, ap (λ (x : ExtentState). x.most) is_e);
      most = omega (arith, ap (λ (x : ExtentState). x.most) is_e);
      tried_low = omega (arith, limit, tried_new);
      tried_high = omega (arith, limit, tried_new, ap (λ (x : ExtentState). x.most) is_e);
    }

    module _ (w : World) (stands : ExtentsStand e (file_of 1 w)) (new : EachImage (IsNew 1024 (fields_image f)) (file_of 1 w)) (reads : ReadsImage (file_of 1 w)) (end : ℕ) (is_end : end ≡ content_end 1) where
      new_live : IsLiveIn e f w
      new_live = record {
        file = ap (λ (x : ExtentState). x.pair.file) is_e;
        most = ap (λ (x : ExtentState). x.most) is_e;
        sound = sound_new;
        settled = settled_new;
        fields = is;
        each = stands;
        zeros = subst (λ (n : ℕ). EachImage (HasZeros 1024 (content_end n)) (file_of 1 w)) (sym limit)
            (each_weakens (IsNew 1024 (fields_image f)) (HasZeros 1024 (content_end 1)) (file_of 1 w) (λ image n. record { long = n.long; zero = n.zero }) new);
      }

      held_new : IsHeld e f (begun 1 1024 end first) [] w
      held_new = live_held e first w new_live reads end (is_end ∙ ap content_end (sym limit))

      pub new_holds : EachImage (Holds first []) (file_of 1 w)
      new_holds = holds_now e f (begun 1 1024 end first) [] w held_new

      pub new_made : IsNewLog first (log_with e f (begun 1 1024 end first) Known) w
      new_made = record {
        stands = known_stands e f (begun 1 1024 end first) [] w held_new reads;
        first_is = refl;
        known = refl;
        none = refl;
        place = refl;
      }

      pub new_is : IsLogdb (log_with e f (begun 1 1024 end first) Known)
      new_is = known_is e f (begun 1 1024 end first) held_new.live refl

-- What the calls leave of a file's images.
use Rattle.std.proofs.Common.{◌≡◌, ◌⊎◌, inl, inr, ℕ, ◌+◌, ◌-◌, ◌<◌, ◌≤◌, min, max, List, [], ◌∷◌, length, take, drop, Option, Some, None, sym, ◌∙◌, ap, refl, subst, arith, length-drop, length-take}
use Rattle.std.specs.Prelude.{slice_index, option_map, IfSome}
use Rattle.std.proofs.lemmas.Bool.{cases_lt}
use Rattle.std.proofs.lemmas.List.{get_or-take}
use Rattle.odb_device.specs.World.{File}
use Rattle.odb_device.specs.Images.{IsOutside, end_of, IsImage, EachImage, ReadsImage, Torn, TornFrom, part, overwritten, written, torn, kept, reading}
use Rattle.odb_device.proofs.Bytes.{part_same, part_at, length-overwritten, overwritten-before, overwritten-inside, overwritten-after, image_kept}

-- a range outside the torn one stays
pub torn_part : (at n : ℕ) (old new : List ℕ) (from m : ℕ) → Torn at n old new → from + m ≤ length old → (from + m ≤ at) ⊎ (at + n ≤ from) → part from m new ≡ part from m old
torn_part at n old new from m is within (inl low) = part_same from m new old (omega (arith, is.no_shorter)) within (λ i below. is.outside (from + i) (omega arith) (inl (omega arith)))
torn_part at n old new from m is within (inr high) = part_same from m new old (omega (arith, is.no_shorter)) within (λ i below. is.outside (from + i) (omega arith) (inr (omega arith)))

-- what is written is such a change
pub torn_overwritten : (at : ℕ) (bytes old : List ℕ) → Torn at (length bytes) old (overwritten at bytes old)
torn_overwritten at bytes old = record {
  no_shorter = omega (arith, length-overwritten at bytes old);
  no_longer = omega (arith, length-overwritten at bytes old);
  outside = λ i within out. elim out [
    | inl low ↦ overwritten-before at bytes old i low within
    | inr high ↦ overwritten-after at bytes old i high
  ];
}

end_at_least : (ranges : List (ℕ × ℕ)) (n : ℕ) → n ≤ end_of ranges n
end_at_least [] n = omega arith
end_at_least (r ∷ ranges) n = omega (arith, end_at_least ranges n)

module _ (synced : List ℕ) (ranges : List (ℕ × ℕ)) (at n : ℕ) (image : List ℕ) where
  -- the bytes of the last sync in the torn range
  abbrev lost : List ℕ
  lost = part at n synced

  abbrev whole : List ℕ
  whole = overwritten at lost image

  abbrev size : ℕ
  size = min (length image) (end_of ranges (length synced))

  -- an image from before, of which a torn write makes this one
  abbrev mended : List ℕ
  mended = take size whole

  length-lost : length lost ≤ n
  length-lost = omega (arith, length-take n (drop at synced))

  lost_reaches : (i : ℕ) → i < length synced → at ≤ i → i < at + n → i < at + length lost
  lost_reaches i within from to = omega (arith, length-take n (drop at synced), length-drop at synced)

  length-mended : length mended ≡ size
  length-mended = omega (arith, length-take size whole, length-overwritten at lost image)

  mended_at : (i : ℕ) → i < size → slice_index mended i ≡ slice_index whole i
  mended_at i low = get_or-take size whole i 0 low

  mended_outside : (i : ℕ) → i < size → (i < at) ⊎ (at + n ≤ i) → slice_index mended i ≡ slice_index image i
  mended_outside i low (inl below) = mended_at i low ∙ overwritten-before at lost image i below (omega arith)
  mended_outside i low (inr above) = mended_at i low ∙ overwritten-after at lost image i (omega (arith, length-lost))

  mended_inside : (i : ℕ) → i < size → i < length synced → at ≤ i → i < at + n → slice_index mended i ≡ slice_index synced i
  mended_inside i low within from to =
      let k = i - at in
      let there : at + k ≡ i = omega arith in
      let short : k < length lost = omega (arith, lost_reaches i within from to) in
      mended_at i low ∙ ap (slice_index whole) (sym there) ∙ overwritten-inside at lost image k short ∙ part_at at n synced k (omega arith) ∙ ap (slice_index synced) there

-- an image after a write is one from before, but for the range
pub torn_image : (file : File) (at n : ℕ) (now image : List ℕ) → IsImage (torn at n now file) image → (before : List ℕ) × IsImage file before × Torn at n before image
torn_image file at n now image is =
    let s = file.synced in
    let r = file.ranges in
    let long = length-mended s r at n image in
    let ends = end_at_least r (length s) in
    let short : length s ≤ length image = is.no_shorter in
    let no_longer : length image ≤ max (at + n) (end_of r (length s)) = is.no_longer in
    let before_is : IsImage file (mended s r at n image) = record {
      no_shorter = omega arith;
      no_longer = omega arith;
      outside = λ i within out. elim (cases_lt i at) [
        | inl below ↦ mended_outside s r at n image i (omega arith) (inl below) ∙ is.outside i within (inl below, out)
        | inr from ↦ elim (cases_lt i (at + n)) [
          | inl to ↦ mended_inside s r at n image i (omega arith) within from to
          | inr above ↦ mended_outside s r at n image i (omega arith) (inr above) ∙ is.outside i within (inr above, out)
        ]
      ];
    } in
    let torn_is : Torn at n (mended s r at n image) image = record {
      no_shorter = omega arith;
      no_longer = omega arith;
      outside = λ i within out. sym (mended_outside s r at n image i (omega arith) out);
    } in
    (mended s r at n image, before_is, torn_is)

-- what a read gives doesn't matter to a crash
same_images : (a b : File) (image : List ℕ) → a.synced ≡ b.synced → a.ranges ≡ b.ranges → IsImage a image → IsImage b image
same_images a b image synced ranges is =
    let ends : end_of a.ranges (length a.synced) ≡ end_of b.ranges (length b.synced) = cc in
    record {
      no_shorter = omega (arith, ap length synced, is.no_shorter);
      no_longer = omega (arith, ends, is.no_longer);
      outside = λ i within out. is.outside i (omega (arith, ap length synced)) (subst (λ (l : List (ℕ × ℕ)). IsOutside l i) (sym ranges) out) ∙ ap (λ (l : List ℕ). slice_index l i) synced;
    }

-- bytes that stay are a torn write of themselves
pub torn_same : (at n : ℕ) (bytes : List ℕ) → Torn at n bytes bytes
torn_same at n bytes = record { no_shorter = omega arith; no_longer = omega arith; outside = λ i within out. refl }

-- a call that left the file
pub stays_from : (at n : ℕ) (old new : Option File) → new ≡ old → TornFrom at n old new
stays_from at n None new e = e
stays_from at n (Some old) new e = subst (TornFrom at n (Some old)) (sym e) (λ image is. (image, is, torn_same at n image))

pub writes_from : (at : ℕ) (bytes : List ℕ) (old new : Option File) → new ≡ option_map (written at bytes) old → TornFrom at (length bytes) old new
writes_from at bytes None new e = e
writes_from at bytes (Some old) new e = subst (TornFrom at (length bytes) (Some old)) (sym e)
    (λ image is. torn_image old at (length bytes) [] image (same_images (written at bytes old) (torn at (length bytes) [] old) image refl refl is))

pub tears_from : (at n : ℕ) (old new : Option File) → (new ≡ old) ⊎ ((now : List ℕ) × (new ≡ option_map (torn at n now) old) × IfSome old (λ f. Torn at n f.bytes now)) → TornFrom at n old new
tears_from at n old new (inl e) = stays_from at n old new e
tears_from at n None new (inr e) = e.1
tears_from at n (Some old) new (inr e) = subst (TornFrom at n (Some old)) (sym e.1) (λ image is. torn_image old at n e.0 image is)

-- a sync that fails adds no image
pub unsettles_from : (at n : ℕ) (old mid new : Option File) → TornFrom at n old mid → (now : List ℕ) × (new ≡ option_map (reading now) mid) → TornFrom at n old new
unsettles_from at n None mid new from e = e.1 ∙ ap (option_map (reading e.0)) from
unsettles_from at n (Some old) None new from e = subst (TornFrom at n (Some old)) (sym e.1) tt
unsettles_from at n (Some old) (Some mid) new from e = subst (TornFrom at n (Some old)) (sym e.1)
    (λ image is. from image (same_images (reading e.0 mid) mid image refl refl is))

-- and one that succeeds leaves one of them
pub keeps_from : (at n : ℕ) (old mid new : Option File) → TornFrom at n old mid → ReadsImage mid → new ≡ option_map kept mid → TornFrom at n old new
keeps_from at n None mid new from reads e = e ∙ ap (option_map kept) from
keeps_from at n (Some old) None new from reads e = subst (TornFrom at n (Some old)) (sym e) tt
keeps_from at n (Some old) (Some mid) new from reads e = subst (TornFrom at n (Some old)) (sym e)
    (λ image is. subst (λ (l : List ℕ). (before : List ℕ) × IsImage old before × Torn at n before l) (sym (image_kept (kept mid) image (refl, refl) is)) (from mid.bytes reads))

-- a property of the images before gives one of the images after
pub torn_each : (P Q : List ℕ → Type 0) (at n : ℕ) (old new : Option File) → ((before image : List ℕ) → P before → Torn at n before image → Q image) → EachImage P old → TornFrom at n old new → EachImage Q new
torn_each P Q at n None new step each from = subst (EachImage Q) (sym from) tt
torn_each P Q at n (Some old) None step each from = tt
torn_each P Q at n (Some old) (Some new) step each from = λ image is. let b = from image is in step b.0 image (each b.0 b.1) b.2

-- and, once the write is on the disk, a property of the bytes
pub puts_each : (P Q : List ℕ → Type 0) (at : ℕ) (bytes : List ℕ) (old new : Option File) → ((before : List ℕ) → P before → Q (overwritten at bytes before)) → EachImage P old → ReadsImage old
    → new ≡ option_map (λ f. kept (written at bytes f)) old → EachImage Q new
puts_each P Q at bytes None new step each reads e = subst (EachImage Q) (sym e) tt
puts_each P Q at bytes (Some old) new step each reads e = subst (EachImage Q) (sym e)
    (λ image is. subst Q (sym (image_kept (kept (written at bytes old)) image (refl, refl) is)) (step old.bytes (each old.bytes reads)))

pub each_weakens : (P Q : List ℕ → Type 0) (o : Option File) → ((image : List ℕ) → P image → Q image) → EachImage P o → EachImage Q o
each_weakens P Q None gives each = tt
each_weakens P Q (Some f) gives each = λ image is. gives image (each image is)

-- the bytes that a read gives are one of the images, through each call
pub image_kept_bytes : (file : File) → IsImage (kept file) file.bytes
image_kept_bytes file = record { no_shorter = omega arith; no_longer = omega arith; outside = λ i within out. refl }

pub image_now_torn : (file : File) (at n : ℕ) → IsImage file file.bytes → IsImage (torn at n file.bytes file) file.bytes
image_now_torn file at n is = record { no_shorter = is.no_shorter; no_longer = omega (arith, is.no_longer); outside = λ i within out. is.outside i within out.1 }

pub image_written : (file : File) (at : ℕ) (bytes : List ℕ) → IsImage file file.bytes → IsImage (written at bytes file) (overwritten at bytes file.bytes)
image_written file at bytes is = record {
  no_shorter = omega (arith, is.no_shorter, length-overwritten at bytes file.bytes);
  no_longer = omega (arith, is.no_longer, length-overwritten at bytes file.bytes);
  outside = λ i within out. elim out.0 [
    | inl low ↦ overwritten-before at bytes file.bytes i low (omega (arith, is.no_shorter)) ∙ is.outside i within out.1
    | inr high ↦ overwritten-after at bytes file.bytes i high ∙ is.outside i within out.1
  ];
}

-- A Dirty log that is made Live.
use Rattle.std.proofs.Common.{◌≡◌, inl, inr, ℕ, ◌+◌, ◌-◌, ◌^◌, ◌<◌, ◌≤◌, Bool, true, List, [], ◌∷◌, length, Some, None, Result, Ok, Err, refl, sym, ◌∙◌, ap, subst, arith}
use Rattle.std.specs.Prelude.{◌==◌, OnOk, OnErr, if◌then◌else◌}
use Rattle.std.proofs.lemmas.Bool.Decides.{nat_tests}
use Rattle.odb_device.specs.World.{World, file_of}
use Rattle.odb_device.specs.Images.{EachImage, Torn, TornFrom}
use Rattle.odb_device.specs.Moments.{Runs, WritesWithin}
use Rattle.odb_device.specs.Zeros.{AreZero}
use Rattle.odb_device.proofs.Time.{joins, weakens, run_end}
use Rattle.odb_device.proofs.Torn.{each_weakens, torn_each}
use Rattle.odb_device.proofs.TornSets.{torn_inside}
use Rattle.odb_pair.proofs.Opens.{opens}
use Rattle.odb_extent.specs.Opened.{Holds as ExtentsHold, content_end, limit_in, fields_in as extent_fields}
use Rattle.odb_extent.specs.Standing.{ExtentState, limit_of, fields_of, limit_tried, fields_tried, IsFileOf, IsSettled, HoldsAt, HoldsKept, HoldsKeptOr, IsContent, RunsExtents, Takes, LeavesTried, Stands as ExtentsStand}
use Rattle.odb_extent.specs.Laws.{stands_content}
use Rattle.odb_extent.proofs.Putting.{kept_holds}
use Rattle.odb_extent.proofs.Growing.{each_both}
use Rattle.odb_fields.proofs.Back.{found}
use Rattle.odb_reclog.specs.Records.{payload_at, end_at, records_from, log_of}
use Rattle.odb_reclog.specs.Told.{TearsOnly}
use Rattle.odb_reclog.proofs.Records.{no_gate}
use Rattle.odb_reclog.proofs.Standing.{zero_gate}
use Rattle.odb_entries.specs.Listed.{entries_from, entries_at}
use Rattle.odb_logdb.specs.declared.fields.LogFields.{LogFields}
use Rattle.odb_logdb.specs.Fields.{LIVE, DIRTY, widths, fields_image, fields_in, of_numbers, is_lawful, lawful, lawful_in, log_fields}
use Rattle.odb_logdb.specs.Opened.{MOST, Holds, records_start, with_entries}
use Rattle.odb_logdb.specs.Opening.{list_start}
use Rattle.odb_logdb.specs.Finishing.{HasZeros, MayBeLiveBy, IsDirtyImage, IsDirtyIn, HoldsNoneThrough, IsLiveIn}
use Rattle.odb_logdb.proofs.Opened.{IsLawful, lawful_some, none_listed, opens_list}
use Rattle.odb_logdb.proofs.Grown.{sound_taken, sound_left}

-- fields that are lawful are read from their image
image_lawful : (limit : ℕ) (f : LogFields) → limit ≤ 1024 → IsLawful limit f → is_lawful limit f ≡ true → lawful_in limit (fields_image f) ≡ Some f
image_lawful limit f small law passes =
    let format : f.format < 2 ^ 16 = omega (arith, law.format) in
    let state : f.state < 2 ^ 8 = omega (arith, law.high) in
    let first : f.first < 2 ^ 64 = omega (arith, law.first) in
    let start : f.start < 2 ^ 64 = omega (arith, law.start, small) in
    let again : fields_in (fields_image f) ≡ Some f = ap of_numbers (found 36 widths (f.format ∷ f.state ∷ f.first ∷ f.start ∷ []) (format, (state, (first, (start, tt))))) in
    ap (lawful limit) again ∙ ap (λ (b : Bool). if b then Some f else None) passes

pub same_lawful : (limit : ℕ) (f : LogFields) → limit ≤ 1024 → IsLawful limit f → lawful_in limit (fields_image f) ≡ Some f
same_lawful limit f small law = image_lawful limit f small law (grind (arith, nat_tests, law.format, law.low, law.high, law.some, law.first, law.start))

live_law : (limit : ℕ) (f : LogFields) → IsLawful limit f → IsLawful limit (log_fields LIVE f.first)
live_law limit f law = record { format = refl; low = omega arith; high = omega arith; some = law.some; first = law.first; start = omega arith }

-- a Dirty log holds nothing
opens_dirty : (limit : ℕ) (fields bytes : List ℕ) (f : LogFields) → ExtentsHold MOST limit fields bytes → lawful_in limit fields ≡ Some f → f.state ≡ DIRTY → content_end limit ≤ length bytes → Holds f.first [] bytes
opens_dirty limit fields bytes f holds is dirty long =
    let start : list_start limit f ≡ content_end limit = ap (λ (n : ℕ). if n == DIRTY then content_end limit else records_start f) dirty in
    opens_list limit fields bytes holds f is long
    ∙ ap (λ (s : ℕ). with_entries f.first (entries_at s (content_end limit) f.first bytes)) start
    ∙ ap (λ (l : List (List ℕ)). with_entries f.first (entries_from f.first (content_end limit) l)) (none_listed (content_end limit) f.first bytes)

-- nor does a Live one over zeros
zero_listed : (end first : ℕ) (bytes : List ℕ) → 1024 < end → AreZero 1024 end bytes → log_of 1024 end first bytes ≡ []
zero_listed end first bytes some zeros =
    let shut = no_gate end first 1024 bytes (zero_gate 1024 bytes (zeros 1024 (omega arith) some)) in
    ap (λ (b : Bool). if b then payload_at 1024 bytes ∷ records_from (end - 1024) end (first + 1) (end_at 1024 bytes) bytes else []) shut

opens_live : (limit first : ℕ) (fields bytes : List ℕ) → 1 ≤ limit → ExtentsHold MOST limit fields bytes → lawful_in limit fields ≡ Some (log_fields LIVE first) → AreZero 1024 (content_end limit) bytes → content_end limit ≤ length bytes → Holds first [] bytes
opens_live limit first fields bytes low holds is zeros long =
    opens_list limit fields bytes holds (log_fields LIVE first) is long
    ∙ ap (λ (l : List (List ℕ)). with_entries first (entries_from first 1024 l)) (zero_listed (content_end limit) first bytes (omega arith) zeros)

module _ (e : ExtentState) (f : LogFields) (w : World) (d : IsDirtyIn e f w) where
  abbrev limit : ℕ
  limit = limit_of e

  small : limit ≤ 1024
  small = let sound = d.sound in omega (arith, sound.high, d.most)

  low : 1 ≤ limit
  low = let sound = d.sound in sound.low

  law : IsLawful limit f
  law = lawful_some limit (fields_in (fields_of e)) f d.fields

  at_most : (n : ℕ) (fields bytes : List ℕ) → HoldsAt e n fields bytes → ExtentsHold MOST n fields bytes
  at_most n fields bytes h = subst (λ (m : ℕ). ExtentsHold m n fields bytes) d.most h.holds

  -- what an image holds, by what its extents hold
  by_dirty : (fields bytes : List ℕ) → lawful_in limit fields ≡ Some f → content_end limit ≤ length bytes → HoldsAt e limit fields bytes → Holds f.first [] bytes
  by_dirty fields bytes is long h = opens_dirty limit fields bytes f (at_most limit fields bytes h) is d.dirty long

  by_live : (bytes : List ℕ) → AreZero 1024 (content_end limit) bytes → content_end limit ≤ length bytes → HoldsAt e limit (fields_image (log_fields LIVE f.first)) bytes → Holds f.first [] bytes
  by_live bytes zeros long h =
      opens_live limit f.first (fields_image (log_fields LIVE f.first)) bytes low (at_most limit (fields_image (log_fields LIVE f.first)) bytes h) (same_lawful limit (log_fields LIVE f.first) small (live_law limit f law)) zeros long

  by_tried : (bytes : List ℕ) → MayBeLiveBy e f bytes → content_end limit ≤ length bytes → HoldsAt e (limit_tried e) (fields_tried e) bytes → Holds f.first [] bytes
  by_tried bytes (inl same) long h = by_dirty (fields_tried e) bytes same long (subst (λ (n : ℕ). HoldsAt e n (fields_tried e) bytes) d.limit h)
  by_tried bytes (inr live) long h = by_live bytes live.1 long (subst (λ (l : List ℕ). HoldsAt e limit l bytes) live.0 (subst (λ (n : ℕ). HoldsAt e n (fields_tried e) bytes) d.limit h))

  by_kept : (bytes : List ℕ) → MayBeLiveBy e f bytes → content_end limit ≤ length bytes → HoldsKept e bytes → Holds f.first [] bytes
  by_kept bytes may long (inl kept) = by_dirty (fields_of e) bytes d.fields long kept
  by_kept bytes may long (inr tried) = by_tried bytes may long tried

  pub image_holds : (bytes : List ℕ) → IsDirtyImage e f bytes → Holds f.first [] bytes
  image_holds bytes i = by_kept bytes i.tried i.long (kept_holds e bytes d.sound i.extents.added (opens e.pair bytes i.extents.pair))

  pub dirty_holds : EachImage (Holds f.first []) (file_of 1 w)
  dirty_holds = each_weakens (IsDirtyImage e f) (Holds f.first []) (file_of 1 w) image_holds d.each

  -- what a put leaves of the content
  pub record HasContent (bytes : List ℕ) : Type 0 where
    pub long : content_end limit ≤ length bytes
    pub tried : MayBeLiveBy e f bytes

  zeros_beside : (before image : List ℕ) → content_end limit ≤ length before → Torn 0 1024 before image → AreZero 1024 (content_end limit) before → AreZero 1024 (content_end limit) image
  zeros_beside before image long torn zeros = λ i from to. torn.outside i (omega arith) (inr (omega arith)) ∙ zeros i from to

  may_beside : (before image : List ℕ) → content_end limit ≤ length before → Torn 0 1024 before image → MayBeLiveBy e f before → MayBeLiveBy e f image
  may_beside before image long torn (inl same) = inl same
  may_beside before image long torn (inr live) = inr (live.0, zeros_beside before image long torn live.1)

  content_beside : (before image : List ℕ) → IsDirtyImage e f before → Torn 0 1024 before image → HasContent image
  content_beside before image i torn = record {
    long = omega (arith, i.long, torn.no_shorter);
    tried = may_beside before image i.long torn i.tried;
  }

  -- a put of fields beside the limit
  module _ (now : World) (fields : List ℕ) (runs : RunsExtents e (HoldsKeptOr e limit fields) w now) (beside : WritesWithin e.pair.file 0 1024 w now) where
    abbrev Put : List ℕ → Type 0
    Put = HoldsKeptOr e limit fields

    run_here : Runs 1 (EachImage Put) w now
    run_here = subst (λ (k : ℕ). Runs k (EachImage Put) w now) d.file runs.run

    beside_here : Runs 1 (TornFrom 0 1024 (file_of 1 w)) w now
    beside_here = subst (λ (k : ℕ). Runs k (TornFrom 0 1024 (file_of k w)) w now) d.file beside

    content_run : Runs 1 (EachImage HasContent) w now
    content_run =
        weakens 1 (TornFrom 0 1024 (file_of 1 w)) (EachImage HasContent) w now
        (λ p torn. torn_each (IsDirtyImage e f) HasContent 0 1024 (file_of 1 w) p content_beside d.each torn) beside_here

    both_run : Runs 1 (EachImage (λ image. Put image × HasContent image)) w now
    both_run = record {
      only = run_here.only;
      each = λ k from to. each_both Put HasContent ((now.moment k).files 1) (run_here.each k from to) (content_run.each k from to);
    }

    pub put_run : ((image : List ℕ) → content_end limit ≤ length image → HasContent image → HoldsAt e limit fields image → Holds f.first [] image) → HoldsNoneThrough f.first w now
    put_run new =
        weakens 1 (EachImage (λ image. Put image × HasContent image)) (EachImage (Holds f.first [])) w now
        (λ p. each_weakens (λ image. Put image × HasContent image) (Holds f.first []) p
        (λ image here. by_case image here.1 here.0)) both_run
      where
        by_case : (image : List ℕ) → HasContent image → Put image → Holds f.first [] image
        by_case image c (inl kept) = by_kept image c.tried c.long kept
        by_case image c (inr put) = new image c.long c put

    content_end_now : EachImage HasContent (file_of 1 now)
    content_end_now = run_end 1 (EachImage HasContent) w now content_run

    pub zeros_now : EachImage (HasZeros 1024 (content_end limit)) (file_of 1 w) → EachImage (HasZeros 1024 (content_end limit)) (file_of 1 now)
    zeros_now zeros =
        torn_each (HasZeros 1024 (content_end limit)) (HasZeros 1024 (content_end limit)) 0 1024 (file_of 1 w) (file_of 1 now)
        (λ before image z torn. record { long = omega (arith, z.long, torn.no_shorter); zero = zeros_beside before image z.long torn z.zero }) zeros
        (run_end 1 (TornFrom 0 1024 (file_of 1 w)) w now beside_here)

-- the Dirty fields are put once more
module _ (e : ExtentState) (f : LogFields) (w now : World) (d : IsDirtyIn e f w) (image : List ℕ) (is_image : image ≡ fields_image f) (runs : RunsExtents e (HoldsKeptOr e (limit_of e) image) w now) (beside : WritesWithin e.pair.file 0 1024 w now) where
  law_here : IsLawful (limit_of e) f
  law_here = lawful_some (limit_of e) (fields_in (fields_of e)) f d.fields

  small_here : limit_of e ≤ 1024
  small_here = let sound = d.sound in omega (arith, sound.high, d.most)

  its_fields : lawful_in (limit_of e) image ≡ Some f
  its_fields = ap (lawful_in (limit_of e)) is_image ∙ same_lawful (limit_of e) f small_here law_here

  pub dirty_run : HoldsNoneThrough f.first w now
  dirty_run = put_run e f w d now image runs beside (λ bytes long c h. by_dirty e f w d image bytes its_fields long h)

  content_now : EachImage (HasContent e f w d) (file_of 1 now)
  content_now = content_end_now e f w d now image runs beside

  its_images : (new : ExtentState) → ExtentsStand new (file_of e.pair.file now) → limit_of new ≡ limit_of e → ((bytes : List ℕ) → MayBeLiveBy e f bytes → MayBeLiveBy new f bytes) → EachImage (IsDirtyImage new f) (file_of 1 now)
  its_images new stands same may =
      each_weakens (λ bytes. IsFileOf new bytes × HasContent e f w d bytes) (IsDirtyImage new f) (file_of 1 now)
      (λ bytes here. record { extents = here.0; long = omega (arith, here.1.long, ap content_end same); tried = may bytes here.1.tried })
      (each_both (IsFileOf new) (HasContent e f w d) (file_of 1 now) (subst (λ (k : ℕ). ExtentsStand new (file_of k now)) d.file stands) content_now)

  pub dirty_put : (new : ExtentState) → ExtentsStand new (file_of e.pair.file now) → Takes (limit_of e) image e new → IsDirtyIn new f now
  dirty_put new stands takes =
      let sound = d.sound in
      let fields : lawful_in (limit_of new) (fields_of new) ≡ Some f = ap (λ (n : ℕ). lawful_in n (fields_of new)) takes.limit_is ∙ ap (lawful_in (limit_of e)) takes.fields_are ∙ its_fields in
      record {
        file = takes.file ∙ d.file;
        most = takes.most ∙ d.most;
        sound = sound_taken e new (limit_of e) image sound sound.low sound.high takes;
        fields = fields;
        dirty = d.dirty;
        limit = ap limit_in takes.settled.tried;
        each = its_images new stands takes.limit_is (λ bytes may. inl (ap (λ (l : List ℕ). lawful_in (limit_of new) (extent_fields l)) takes.settled.tried ∙ fields));
      }

  may_left : (new : ExtentState) (bytes : List ℕ) → LeavesTried (limit_of e) image e new → MayBeLiveBy e f bytes → MayBeLiveBy new f bytes
  may_left new bytes left may = elim left.tried [
    | inl before ↦ elim may [
      | inl same ↦ inl (ap (λ (n : ℕ). lawful_in n (fields_tried new)) left.limit_is ∙ ap (lawful_in (limit_of e)) before.1 ∙ same)
      | inr live ↦ inr (before.1 ∙ live.0, subst (λ (n : ℕ). AreZero 1024 (content_end n) bytes) (sym left.limit_is) live.1)
    ]
    | inr other ↦ elim other [
      | inl kept ↦ inl (ap (λ (n : ℕ). lawful_in n (fields_tried new)) left.limit_is ∙ ap (lawful_in (limit_of e)) kept.1 ∙ d.fields)
      | inr tried ↦ inl (ap (λ (n : ℕ). lawful_in n (fields_tried new)) left.limit_is ∙ ap (lawful_in (limit_of e)) tried.1 ∙ its_fields)
    ]
  ]

  pub dirty_left : (new : ExtentState) → ExtentsStand new (file_of e.pair.file now) → LeavesTried (limit_of e) image e new → IsDirtyIn new f now
  dirty_left new stands left =
      let sound = d.sound in
      record {
        file = left.file ∙ d.file;
        most = left.most ∙ d.most;
        sound = sound_left e new (limit_of e) image sound (omega arith) sound.high left;
        fields = ap (λ (n : ℕ). lawful_in n (fields_of new)) left.limit_is ∙ ap (lawful_in (limit_of e)) left.fields_are ∙ d.fields;
        dirty = d.dirty;
        limit = limit_left e new d.limit left;
        each = its_images new stands left.limit_is (λ bytes may. may_left new bytes left may);
      }
    where
      limit_left : (e new : ExtentState) → limit_tried e ≡ limit_of e → LeavesTried (limit_of e) image e new → limit_tried new ≡ limit_of new
      limit_left e new same left = elim left.tried [
        | inl before ↦ before.0 ∙ same ∙ sym left.limit_is
        | inr other ↦ elim other [
          | inl kept ↦ kept.0 ∙ sym left.limit_is
          | inr tried ↦ tried.0 ∙ sym left.limit_is
        ]
      ]

-- the content is made zeros, while no crash leaves other fields
module _ (e : ExtentState) (f : LogFields) (w now : World) (d : IsDirtyIn e f w) (settled : IsSettled e) (end : ℕ) (is_end : end ≡ content_end (limit_of e)) (run : TearsOnly 1 1024 (end - 1024) w now) where
  tried_here : lawful_in (limit_of e) (fields_tried e) ≡ Some f
  tried_here = ap (λ (l : List ℕ). lawful_in (limit_of e) (extent_fields l)) settled.tried ∙ d.fields

  torn_image : (before image : List ℕ) → IsDirtyImage e f before → Torn 1024 (end - 1024) before image → IsDirtyImage e f image
  torn_image before image i torn = record {
    extents = stands_content e end before image i.extents
        (torn_inside (IsContent (limit_of e)) end 1024 (end - 1024) before image (λ k here. (here.0, omega (arith, here.1, is_end))) (omega (arith, is_end)) torn);
    long = omega (arith, i.long, torn.no_shorter);
    tried = inl tried_here;
  }

  zero_images : Runs 1 (EachImage (IsDirtyImage e f)) w now
  zero_images =
      weakens 1 (TornFrom 1024 (end - 1024) (file_of 1 w)) (EachImage (IsDirtyImage e f)) w now
      (λ p torn. torn_each (IsDirtyImage e f) (IsDirtyImage e f) 1024 (end - 1024) (file_of 1 w) p torn_image d.each torn) run

  pub zero_run : HoldsNoneThrough f.first w now
  zero_run = weakens 1 (EachImage (IsDirtyImage e f)) (EachImage (Holds f.first [])) w now (λ p. each_weakens (IsDirtyImage e f) (Holds f.first []) p (image_holds e f w d)) zero_images

  pub zero_dirty : IsDirtyIn e f now
  zero_dirty = record {
    file = d.file;
    most = d.most;
    sound = d.sound;
    fields = d.fields;
    dirty = d.dirty;
    limit = d.limit;
    each = run_end 1 (EachImage (IsDirtyImage e f)) w now zero_images;
  }

-- the fields of a Live log are put over zeros
module _ (e : ExtentState) (f : LogFields) (w now : World) (d : IsDirtyIn e f w) (settled : IsSettled e) (zeros : EachImage (HasZeros 1024 (content_end (limit_of e))) (file_of 1 w)) (image : List ℕ) (is_image : image ≡ fields_image (log_fields LIVE f.first))
    (runs : RunsExtents e (HoldsKeptOr e (limit_of e) image) w now) (beside : WritesWithin e.pair.file 0 1024 w now) where
  live_fields : lawful_in (limit_of e) image ≡ Some (log_fields LIVE f.first)
  live_fields =
      let sound = d.sound in
      ap (lawful_in (limit_of e)) is_image ∙ same_lawful (limit_of e) (log_fields LIVE f.first) (omega (arith, sound.high, d.most)) (live_law (limit_of e) f (lawful_some (limit_of e) (fields_in (fields_of e)) f d.fields))

  zeros_here : EachImage (HasZeros 1024 (content_end (limit_of e))) (file_of 1 now)
  zeros_here = zeros_now e f w d now image runs beside zeros

  -- each image has the zeros, at each moment
  zero_moments : Runs 1 (EachImage (HasZeros 1024 (content_end (limit_of e)))) w now
  zero_moments =
      weakens 1 (TornFrom 0 1024 (file_of 1 w)) (EachImage (HasZeros 1024 (content_end (limit_of e)))) w now
      (λ p torn. torn_each (HasZeros 1024 (content_end (limit_of e))) (HasZeros 1024 (content_end (limit_of e))) 0 1024 (file_of 1 w) p
      (λ before bytes z t. record { long = omega (arith, z.long, t.no_shorter); zero = λ i from to. t.outside i (omega (arith, z.long)) (inr (omega arith)) ∙ z.zero i from to }) zeros torn)
      (subst (λ (k : ℕ). Runs k (TornFrom 0 1024 (file_of k w)) w now) d.file beside)

  pub live_run : HoldsNoneThrough f.first w now
  live_run =
      let Z = HasZeros 1024 (content_end (limit_of e)) in
      let P = HoldsKeptOr e (limit_of e) image in
      let put : Runs 1 (EachImage P) w now = subst (λ (k : ℕ). Runs k (EachImage P) w now) d.file runs.run in
      let both : Runs 1 (EachImage (λ bytes. P bytes × Z bytes)) w now = record { only = put.only; each = λ k from to. each_both P Z ((now.moment k).files 1) (put.each k from to) (zero_moments.each k from to) } in
      weakens 1 (EachImage (λ bytes. P bytes × Z bytes)) (EachImage (Holds f.first [])) w now (λ p. each_weakens (λ bytes. P bytes × Z bytes) (Holds f.first []) p (λ bytes here. by_case bytes here.1 here.0)) both
    where
      by_case : (bytes : List ℕ) → HasZeros 1024 (content_end (limit_of e)) bytes → HoldsKeptOr e (limit_of e) image bytes → Holds f.first [] bytes
      by_case bytes z (inl kept) = by_kept e f w d bytes (inl (ap (λ (l : List ℕ). lawful_in (limit_of e) (extent_fields l)) settled.tried ∙ d.fields)) z.long kept
      by_case bytes z (inr new) = by_live e f w d bytes z.zero z.long (subst (λ (l : List ℕ). HoldsAt e (limit_of e) l bytes) is_image new)

  pub live_put : (new : ExtentState) → ExtentsStand new (file_of e.pair.file now) → Takes (limit_of e) image e new → IsLiveIn new (log_fields LIVE f.first) now
  live_put new stands takes =
      let sound = d.sound in
      record {
        file = takes.file ∙ d.file;
        most = takes.most ∙ d.most;
        sound = sound_taken e new (limit_of e) image sound sound.low sound.high takes;
        settled = takes.settled;
        fields = ap (λ (n : ℕ). lawful_in n (fields_of new)) takes.limit_is ∙ ap (lawful_in (limit_of e)) takes.fields_are ∙ live_fields;
        each = subst (λ (k : ℕ). ExtentsStand new (file_of k now)) d.file stands;
        zeros = subst (λ (n : ℕ). EachImage (HasZeros 1024 (content_end n)) (file_of 1 now)) (sym takes.limit_is) zeros_here;
      }

  may_be : (new : ExtentState) (bytes : List ℕ) → HasZeros 1024 (content_end (limit_of e)) bytes → LeavesTried (limit_of e) image e new → MayBeLiveBy new f bytes
  may_be new bytes z left = elim left.tried [
    | inl before ↦ inl (ap (λ (n : ℕ). lawful_in n (fields_tried new)) left.limit_is ∙ ap (lawful_in (limit_of e)) before.1 ∙ ap (λ (l : List ℕ). lawful_in (limit_of e) (extent_fields l)) settled.tried ∙ d.fields)
    | inr other ↦ elim other [
      | inl kept ↦ inl (ap (λ (n : ℕ). lawful_in n (fields_tried new)) left.limit_is ∙ ap (lawful_in (limit_of e)) kept.1 ∙ d.fields)
      | inr tried ↦ inr (tried.1 ∙ is_image, subst (λ (n : ℕ). AreZero 1024 (content_end n) bytes) (sym left.limit_is) z.zero)
    ]
  ]

  pub live_left : (new : ExtentState) → ExtentsStand new (file_of e.pair.file now) → LeavesTried (limit_of e) image e new → IsDirtyIn new f now
  live_left new stands left =
      let sound = d.sound in
      let Z = HasZeros 1024 (content_end (limit_of e)) in
      record {
        file = left.file ∙ d.file;
        most = left.most ∙ d.most;
        sound = sound_left e new (limit_of e) image sound (omega arith) sound.high left;
        fields = ap (λ (n : ℕ). lawful_in n (fields_of new)) left.limit_is ∙ ap (lawful_in (limit_of e)) left.fields_are ∙ d.fields;
        dirty = d.dirty;
        limit = same_limit e new d.limit left;
        each = each_weakens (λ bytes. IsFileOf new bytes × Z bytes) (IsDirtyImage new f) (file_of 1 now)
            (λ bytes here. record { extents = here.0; long = omega (arith, here.1.long, ap content_end left.limit_is); tried = may_be new bytes here.1 left })
            (each_both (IsFileOf new) Z (file_of 1 now) (subst (λ (k : ℕ). ExtentsStand new (file_of k now)) d.file stands) zeros_here);
      }
    where
      same_limit : (e new : ExtentState) → limit_tried e ≡ limit_of e → LeavesTried (limit_of e) image e new → limit_tried new ≡ limit_of new
      same_limit e new same left = elim left.tried [
        | inl before ↦ before.0 ∙ same ∙ sym left.limit_is
        | inr other ↦ elim other [
          | inl kept ↦ kept.0 ∙ sym left.limit_is
          | inr tried ↦ tried.0 ∙ sym left.limit_is
        ]
      ]

-- what the puts ask for
pub dirty_stands : (e : ExtentState) (f : LogFields) (w : World) → IsDirtyIn e f w → ExtentsStand e (file_of e.pair.file w)
dirty_stands e f w d =
    subst (λ (k : ℕ). ExtentsStand e (file_of k w)) (sym d.file) (each_weakens (IsDirtyImage e f) (IsFileOf e) (file_of 1 w) (λ bytes i. i.extents) d.each)

-- whatever a put answered
pub either : {T E : Type 0} (r : Result T E) (P Q X : Type 0) → OnOk r P → OnErr r Q → (P → X) → (Q → X) → X
either (Ok x) P Q X ok err done failed = done ok
either (Err x) P Q X ok err done failed = failed err

pub ok_map : {T E : Type 0} (r : Result T E) (P Q : Type 0) → (P → Q) → OnOk r P → OnOk r Q
ok_map (Ok x) P Q give here = give here
ok_map (Err x) P Q give here = tt

pub err_map : {T E : Type 0} (r : Result T E) (P Q : Type 0) → (P → Q) → OnErr r P → OnErr r Q
err_map (Ok x) P Q give here = tt
err_map (Err x) P Q give here = give here

-- one part behind another
pub none_then : (first : ℕ) (w mid now : World) → HoldsNoneThrough first w mid → HoldsNoneThrough first mid now → HoldsNoneThrough first w now
none_then first w mid now a b = joins 1 (EachImage (Holds first [])) w mid now a b

-- The state of an opening from step to step: what each image of the file is.
use Rattle.std.proofs.Common.{◌≡◌, inr, ℕ, ◌-◌, ◌≤◌, List, length, Option, Some, None, refl, sym, ◌∙◌, ap, subst, arith}
use Rattle.std.specs.Prelude.{IfSome, option_map}
use Rattle.std.proofs.lemmas.List.{same_lists, get_or_default}
use Rattle.odb_device.specs.World.{File, World, file_of}
use Rattle.odb_device.specs.Images.{IsImage, EachImage, ReadsImage, IsKept, Torn, TornFrom, kept}
use Rattle.odb_device.specs.Moments.{Runs}
use Rattle.odb_device.proofs.Bytes.{image_kept}
use Rattle.odb_device.proofs.Time.{joins, weakens, run_end}
use Rattle.odb_device.proofs.Torn.{each_weakens}
use Rattle.odb_device.proofs.TornSets.{torn_inside}
use Rattle.odb_extent.specs.Opened.{Holds as ExtentsHold, content_end}
use Rattle.odb_extent.specs.Standing.{ExtentState, limit_of, fields_of, IsFileOf, IsContent, Stands as ExtentsStand}
use Rattle.odb_extent.specs.Laws.{stands_content}
use Rattle.odb_reclog.specs.Records.{log_of}
use Rattle.odb_reclog.specs.Standing.{list_in}
use Rattle.odb_reclog.specs.Moments.{KeepsLists}
use Rattle.odb_entries.specs.Listed.{entries_from}
use Rattle.odb_logdb.specs.declared.fields.LogFields.{LogFields}
use Rattle.odb_logdb.specs.Fields.{fields_in, lawful_in}
use Rattle.odb_logdb.specs.Opened.{Opened, MOST, with_entries, opened, entries_in}
use Rattle.odb_logdb.specs.Opening.{list_start}
use Rattle.odb_logdb.specs.Answers.{KeepsOpened}
use Rattle.odb_logdb.proofs.Opened.{IsLawful, lawful_some, low_start, high_start, opens_list, holds_beside}

-- bytes of which none may be others stay
torn_zero : (before image : List ℕ) → Torn 0 0 before image → image ≡ before
torn_zero before image torn =
    let long : length image ≡ length before = omega (arith, torn.no_shorter, torn.no_longer) in
    same_lists image before long (λ i d low. get_or_default image i d 0 low ∙ torn.outside i (omega arith) (inr (omega arith)) ∙ sym (get_or_default before i d 0 (omega arith)))

torn_opens : (o p : Option File) → TornFrom 0 0 o p → KeepsOpened o p
torn_opens None p torn = torn
torn_opens (Some f) p torn =
    each_weakens (λ image. (before : List ℕ) × IsImage f before × Torn 0 0 before image) (λ image. (before : List ℕ) × IsImage f before × (opened image ≡ opened before)) p
    (λ image b. (b.0, b.1, ap opened (torn_zero b.0 image b.2))) torn

pub sync_run : (w mid : World) → Runs 1 (TornFrom 0 0 (file_of 1 w)) w mid → Runs 1 (KeepsOpened (file_of 1 w)) w mid
sync_run w mid run = weakens 1 (TornFrom 0 0 (file_of 1 w)) (KeepsOpened (file_of 1 w)) w mid (λ p torn. torn_opens (file_of 1 w) p torn) run

-- what is on the disk opens to what was read
kept_opens : (o mid p : Option File) → ReadsImage o → mid ≡ option_map kept o → KeepsOpened mid p → KeepsOpened o p
kept_opens None mid p reads is keeps = subst (λ (x : Option File). KeepsOpened x p) is keeps
kept_opens (Some f) mid p reads is keeps =
    each_weakens (λ image. (before : List ℕ) × IsImage (kept f) before × (opened image ≡ opened before)) (λ image. (before : List ℕ) × IsImage f before × (opened image ≡ opened before)) p
    (λ image b. (f.bytes, reads, b.2 ∙ ap opened (image_kept (kept f) b.0 (refl, refl) b.1))) (subst (λ (x : Option File). KeepsOpened x p) is keeps)

pub open_run : (w mid now : World) → ReadsImage (file_of 1 w) → Runs 1 (TornFrom 0 0 (file_of 1 w)) w mid → file_of 1 mid ≡ option_map kept (file_of 1 w) → Runs 1 (KeepsOpened (file_of 1 mid)) mid now → Runs 1 (KeepsOpened (file_of 1 w)) w now
open_run w mid now reads first is second =
    let o = file_of 1 w in
    joins 1 (KeepsOpened o) w mid now (sync_run w mid first) (weakens 1 (KeepsOpened (file_of 1 mid)) (KeepsOpened o) mid now (λ p keeps. kept_opens o (file_of 1 mid) p reads is keeps) second)

-- all is on the disk, and the bytes are as they were
pub is_kept : (o now : Option File) → now ≡ option_map kept o → IsKept now
is_kept None now is = subst IsKept (sym is) tt
is_kept (Some f) now is = subst IsKept (sym is) (refl, refl)

pub kept_told : (P : List ℕ → Type 0) (o now : Option File) → now ≡ option_map kept o → IfSome o (λ f. P f.bytes) → IfSome now (λ f. P f.bytes)
kept_told P None now is here = subst (λ (x : Option File). IfSome x (λ f. P f.bytes)) (sym is) tt
kept_told P (Some f) now is here = subst (λ (x : Option File). IfSome x (λ f. P f.bytes)) (sym is) here

pub told_kept : (P : List ℕ → Type 0) (o now : Option File) → now ≡ option_map kept o → IfSome now (λ f. P f.bytes) → IfSome o (λ f. P f.bytes)
told_kept P None now is here = tt
told_kept P (Some f) now is here = subst (λ (x : Option File). IfSome x (λ f. P f.bytes)) is here

pub entries_kept : (o now : Option File) → now ≡ option_map kept o → entries_in now ≡ entries_in o
entries_kept None now is = ap entries_in is
entries_kept (Some f) now is = ap entries_in is

-- what holds of any bytes
pub of_any : (o : Option File) (P : File → Type 0) → ((f : File) → P f) → IfSome o P
of_any None P each = tt
of_any (Some f) P each = each f

pub same_opened : (o p : Option File) → p ≡ o → KeepsOpened o p
same_opened None p is = is
same_opened (Some g) p is = subst (KeepsOpened (Some g)) (sym is) (λ image im. (image, im, refl))

module _ (e : ExtentState) (f : LogFields) (is : lawful_in (limit_of e) (fields_of e) ≡ Some f) where
  abbrev limit : ℕ
  limit = limit_of e

  abbrev start : ℕ
  start = list_start (limit_of e) f

  abbrev end : ℕ
  end = content_end (limit_of e)

  -- the bytes are those of the extents, as long as the limit, and have this list
  pub record IsBased (list : List (List ℕ)) (image : List ℕ) : Type 0 where
    pub extents : IsFileOf e image
    pub holds : ExtentsHold MOST limit (fields_of e) image
    pub long : end ≤ length image
    pub list_is : log_of start end f.first image ≡ list

  pub its_law : IsLawful limit f
  its_law = lawful_some limit (fields_in (fields_of e)) f is

  -- they open to its entries
  abbrev pub told : List (List ℕ) → Opened
  told list = with_entries f.first (entries_from f.first start list)

  pub opens_based : (list : List (List ℕ)) (image : List ℕ) → IsBased list image → opened image ≡ told list
  opens_based list image b = opens_list limit (fields_of e) image b.holds f is b.long ∙ ap told b.list_is

  pub based_first : (o : Option File) → IsKept o → ExtentsStand e o → IfSome o (λ g. ExtentsHold MOST limit (fields_of e) g.bytes) → IfSome o (λ g. end ≤ length g.bytes)
      → EachImage (IsBased (list_in start end f.first o)) o
  based_first None on_disk stands holds long = tt
  based_first (Some g) on_disk stands holds long = λ image im.
      let same : g.bytes ≡ image = sym (image_kept g image on_disk im) in
      record {
        extents = stands image im;
        holds = subst (ExtentsHold MOST limit (fields_of e)) same holds;
        long = subst (λ (l : List ℕ). end ≤ length l) same long;
        list_is = ap (log_of start end f.first) (sym same);
      }

  -- what changes inside the region and leaves the list
  torn_based : (list : List (List ℕ)) (before image : List ℕ) → IsBased list before → Torn start (end - start) before image → log_of start end f.first image ≡ log_of start end f.first before → IsBased list image
  torn_based list before image b torn same =
      let low : 1024 ≤ start = low_start limit f in
      let high : start ≤ end = high_start limit f its_law in
      record {
        extents = stands_content e end before image b.extents (torn_inside (IsContent limit) end start (end - start) before image (λ i here. (omega (arith, here.0), omega (arith, here.1))) (omega arith) torn);
        holds = holds_beside limit (fields_of e) start (end - start) before image (omega (arith, b.long)) torn low b.holds;
        long = omega (arith, b.long, torn.no_shorter);
        list_is = same ∙ b.list_is;
      }

  pub lists_based : (list : List (List ℕ)) (o p : Option File) → EachImage (IsBased list) o → KeepsLists start end f.first start (end - start) o p → EachImage (IsBased list) p
  lists_based list None p each keeps = subst (EachImage (IsBased list)) (sym keeps) tt
  lists_based list (Some g) p each keeps =
      each_weakens (λ image. (before : List ℕ) × IsImage g before × Torn start (end - start) before image × (log_of start end f.first image ≡ log_of start end f.first before)) (IsBased list) p
      (λ image b. torn_based list b.0 image (each b.0 b.1) b.2 b.3) keeps

  lists_opened : (list : List (List ℕ)) (o p : Option File) → ReadsImage o → EachImage (IsBased list) o → KeepsLists start end f.first start (end - start) o p → KeepsOpened o p
  lists_opened list None p reads each keeps = keeps
  lists_opened list (Some g) p reads each keeps =
      each_weakens (λ image. (before : List ℕ) × IsImage g before × Torn start (end - start) before image × (log_of start end f.first image ≡ log_of start end f.first before))
      (λ image. (before : List ℕ) × IsImage g before × (opened image ≡ opened before)) p
      (λ image b. (b.0, b.1, opens_based list image (torn_based list b.0 image (each b.0 b.1) b.2 b.3) ∙ sym (opens_based list b.0 (each b.0 b.1)))) keeps

  -- a look at the length, an opening of the list, and a walk over it
  module _ (w w1 : World) (reads : ReadsImage (file_of 1 w)) (look : Runs 1 (λ p. p ≡ file_of 1 w) w w1) where
    pub looked : file_of 1 w1 ≡ file_of 1 w
    looked = run_end 1 (λ p. p ≡ file_of 1 w) w w1 look

    pub look_leaves : Runs 1 (KeepsOpened (file_of 1 w)) w w1
    look_leaves = weakens 1 (λ p. p ≡ file_of 1 w) (KeepsOpened (file_of 1 w)) w w1 (λ p same. same_opened (file_of 1 w) p same) look

    module _ (list : List (List ℕ)) (based : EachImage (IsBased list) (file_of 1 w)) (w2 : World) (run : Runs 1 (KeepsLists start end f.first start (end - start) (file_of 1 w1)) w1 w2) where
      abbrev its : Option File → Option File → Type 0
      its o p = KeepsLists start end f.first start (end - start) o p

      pub list_leaves : Runs 1 (KeepsOpened (file_of 1 w)) w w2
      list_leaves =
          joins 1 (KeepsOpened (file_of 1 w)) w w1 w2 look_leaves
          (weakens 1 (its (file_of 1 w1)) (KeepsOpened (file_of 1 w)) w1 w2 (λ p keeps. lists_opened list (file_of 1 w) p reads based (subst (λ (o : Option File). its o p) looked keeps)) run)

      pub list_based : EachImage (IsBased list) (file_of 1 w2)
      list_based = lists_based list (file_of 1 w) (file_of 1 w2) based (subst (λ (o : Option File). its o (file_of 1 w2)) looked (run_end 1 (its (file_of 1 w1)) w1 w2 run))

      module _ (w3 : World) (walk : Runs 1 (λ p. p ≡ file_of 1 w2) w2 w3) where
        pub walked : file_of 1 w3 ≡ file_of 1 w2
        walked = run_end 1 (λ p. p ≡ file_of 1 w2) w2 w3 walk

        pub walk_leaves : Runs 1 (KeepsOpened (file_of 1 w)) w w3
        walk_leaves =
            joins 1 (KeepsOpened (file_of 1 w)) w w2 w3 list_leaves
            (weakens 1 (λ p. p ≡ file_of 1 w2) (KeepsOpened (file_of 1 w)) w2 w3 (λ p same. subst (KeepsOpened (file_of 1 w)) (sym same) (run_end 1 (KeepsOpened (file_of 1 w)) w w2 list_leaves)) walk)

        pub walk_based : EachImage (IsBased list) (file_of 1 w3)
        walk_based = subst (EachImage (IsBased list)) (sym walked) list_based

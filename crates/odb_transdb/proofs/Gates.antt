-- Which gates an opening may close, at each of its moments.
use Rattle.std.proofs.Common.{◌≡◌, ◌≢◌, ◌⊎◌, inl, inr, ℕ, ◌-◌, ◌<◌, ◌≤◌, List, length, Option, Some, None, refl, sym, ◌∙◌, ap, subst, arith}
use Rattle.std.specs.Prelude.{is_some, option_map, slice_index, IfSome}
use Rattle.std.proofs.lemmas.Bool.{false≢true}
use Rattle.odb_device.specs.World.{File, World, file_of}
use Rattle.odb_device.specs.Images.{IsImage, ReadsImage, IsKept, Torn, TornFrom, kept}
use Rattle.odb_device.specs.TornSets.{TornIn, TornInFrom}
use Rattle.odb_device.specs.Moments.{Runs}
use Rattle.odb_device.proofs.Bytes.{image_kept}
use Rattle.odb_device.proofs.Time.{joins, weakens, run_end}
use Rattle.odb_device.proofs.Torn.{each_weakens}
use Rattle.odb_device.proofs.TornSets.{from_none, from_in_widens, from_in_then}
use Rattle.odb_device.proofs.Writing.{run_inside}
use Rattle.odb_reclog.specs.Records.{gate_at, end_of_list}
use Rattle.odb_reclog.specs.Ends.{IsOpenEnd}
use Rattle.odb_model.specs.declared.side.OtherSide.{OtherSide}
use Rattle.odb_model.specs.declared.side.OtherSide.TheVariants.{Live, Dirty, Clean}
use Rattle.odb_transdb.specs.declared.header.Header.{Header}
use Rattle.odb_transdb.specs.Header.{side_start, side_end, file_size, first_on, other_of}
use Rattle.odb_transdb.specs.Opened.{side_list}
use Rattle.odb_transdb.specs.Answers.{IsListEnd}
use Rattle.odb_transdb.specs.Opening.{KeepsSide}
use Rattle.odb_transdb.specs.Worlds.{OnlyClosesGates, TearsSideEnd}
use Rattle.odb_transdb.proofs.Opened.{HasHeader}
use Rattle.odb_transdb.proofs.Sides.{IsInside, other_sides, other_list, beside, inside_file}
use Rattle.odb_transdb.proofs.Walking.{end_later}

-- of a told file
pub if_told : (o : Option File) (P : File → Type 0) → ((f : File) → o ≡ Some f → P f) → IfSome o P
if_told None P each = tt
if_told (Some f) P each = each f refl

told_at : (o : Option File) (P : File → Type 0) (f : File) → o ≡ Some f → IfSome o P → P f
told_at o P f is here = subst (λ (x : Option File). IfSome x P) is here

-- nothing is written
pub gates_still : (w now : World) → Runs 0 (TornFrom 0 0 (file_of 0 w)) w now → OnlyClosesGates w now
gates_still w now run =
    if_told (file_of 0 w) (λ f. Runs 0 (TornInFrom (IsListEnd f.bytes) 0 (file_of 0 w)) w now)
    (λ f is. run_inside (IsListEnd f.bytes) 0 0 0 0 w now (λ i range. absurd (omega (arith, range.0, range.1))) (omega arith) run)

pub gates_read : (w now : World) → Runs 0 (λ f. f ≡ file_of 0 w) w now → OnlyClosesGates w now
gates_read w now run =
    if_told (file_of 0 w) (λ f. Runs 0 (TornInFrom (IsListEnd f.bytes) 0 (file_of 0 w)) w now)
    (λ f is. weakens 0 (λ o. o ≡ file_of 0 w) (TornInFrom (IsListEnd f.bytes) 0 (file_of 0 w)) w now (λ o same. from_none (IsListEnd f.bytes) 0 (file_of 0 w) o same) run)

-- a sync comes first
pub gates_synced : (w mid now : World) → ReadsImage (file_of 0 w) → Runs 0 (TornFrom 0 0 (file_of 0 w)) w mid → file_of 0 mid ≡ option_map kept (file_of 0 w) → OnlyClosesGates mid now → OnlyClosesGates w now
gates_synced w mid now reads still is_kept gates =
    let o = file_of 0 w in
    if_told o (λ f. Runs 0 (TornInFrom (IsListEnd f.bytes) 0 o) w now)
    (λ f is.
    let P = IsListEnd f.bytes in
    let at_mid : file_of 0 mid ≡ Some (kept f) = is_kept ∙ ap (option_map kept) is in
    let first : Runs 0 (TornInFrom P 0 o) w mid = told_at o (λ f. Runs 0 (TornInFrom (IsListEnd f.bytes) 0 o) w mid) f is (gates_still w mid still) in
    let second : Runs 0 (TornInFrom P 0 (file_of 0 mid)) mid now = told_at (file_of 0 mid) (λ f. Runs 0 (TornInFrom (IsListEnd f.bytes) 0 (file_of 0 mid)) mid now) (kept f) at_mid gates in
    joins 0 (TornInFrom P 0 o) w mid now first
    (weakens 0 (TornInFrom P 0 (file_of 0 mid)) (TornInFrom P 0 o) mid now
    (λ p from.
    subst (λ (x : Option File). TornInFrom P 0 x p) (sym is)
    (of_kept P f p (subst ReadsImage is reads) (subst (λ (x : Option File). TornInFrom P 0 x p) at_mid from)))
    second))
  where
    of_kept : (P : ℕ → Type 0) (f : File) (p : Option File) → IsImage f f.bytes → TornInFrom P 0 (Some (kept f)) p → TornInFrom P 0 (Some f) p
    of_kept P f p reads from =
        each_weakens (λ image. (before : List ℕ) × IsImage (kept f) before × TornIn P 0 before image) (λ image. (before : List ℕ) × IsImage f before × TornIn P 0 before image) p
        (λ image b. (f.bytes, reads, subst (λ (l : List ℕ). TornIn P 0 l image) (image_kept (kept f) b.0 (refl, refl) b.1) b.2)) from

module _ (h : Header) (low : h.active ≤ 1) where
  abbrev IsEnd : ℕ → List ℕ → ℕ → Type 0
  IsEnd side = IsOpenEnd (side_start h side) (side_end h side) (first_on h side)

  abbrev IsHeld : ℕ → Type 0
  IsHeld side = (side ≡ h.active) ⊎ ((h.other ≡ Live) × (side ≡ other_of h))

  list_end : (side : ℕ) (bytes : List ℕ) (i : ℕ) → IsHeld side → HasHeader h bytes → IsEnd side bytes i → IsListEnd bytes i
  list_end side bytes i held has ends = record { value = has.value; header = h; side = side; pair = has.pair; lawful = has.header; long = has.long; held = held; ends = ends }

  -- what is told of the active side before the other one is opened holds behind it
  pub record SameActive (old new : List ℕ) : Type 0 where
    pub list : side_list h h.active new ≡ side_list h h.active old
    pub byte : (i : ℕ) → side_start h h.active ≤ i → i < side_end h h.active → slice_index new i ≡ slice_index old i

  same_end : (old new : List ℕ) → SameActive old new → (i : ℕ) → IsEnd h.active new i → IsEnd h.active old i
  unfolding gate_at
  same_end old new same i ends =
      let start = side_start h h.active in
      let later : start ≤ i = omega (arith, end_later start (side_list h h.active new), ends.ends) in
      record {
        ends = ap (end_of_list start) (sym same.list) ∙ ends.ends;
        inside = ends.inside;
        is_open = sym (same.byte i later ends.inside) ∙ ends.is_open;
      }

  active_beside : (old new : List ℕ) → file_size h ≤ length old → Torn (side_start h (other_of h)) (side_end h (other_of h) - side_start h (other_of h)) old new → SameActive old new
  active_beside old new long torn =
      let other = other_of h in
      let at = side_start h other in
      let n = side_end h other - at in
      let are = other_sides h low in
      let inside : IsInside h other at n = record { low = omega arith; high = omega arith } in
      let fits = inside_file h h.active low in
      record {
        list = other_list h other h.active at n old new are inside torn long;
        byte = λ i from to. torn.outside i (omega arith) (elim (beside h other h.active at n are inside) [
          | inl before ↦ inr (omega arith)
          | inr behind ↦ inl (omega arith)
        ]);
      }

  abbrev pub SameActiveOf : Option File → Option File → Type 0
  SameActiveOf o p = IfSome o (λ f. IfSome p (λ g. SameActive f.bytes g.bytes))

  pub active_live : (o p : Option File) → IsKept o → ReadsImage p → IfSome o (λ f. file_size h ≤ length f.bytes) → KeepsSide h (other_of h) o p → SameActiveOf o p
  active_live None p is_kept reads long keeps = tt
  active_live (Some f) None is_kept reads long keeps = tt
  active_live (Some f) (Some g) is_kept reads long keeps =
      let b = keeps g.bytes reads in
      let same : b.0 ≡ f.bytes = image_kept f b.0 is_kept b.1 in
      let torn : Torn (side_start h (other_of h)) (side_end h (other_of h) - side_start h (other_of h)) f.bytes g.bytes =
      subst (λ (l : List ℕ). Torn (side_start h (other_of h)) (side_end h (other_of h) - side_start h (other_of h)) l g.bytes) same b.2 in
      active_beside f.bytes g.bytes long torn

  pub active_quiet : (o p : Option File) → p ≡ o → SameActiveOf o p
  active_quiet None p same = tt
  active_quiet (Some f) p same = subst (λ (x : Option File). IfSome x (λ g. SameActive f.bytes g.bytes)) (sym same) (record { list = refl; byte = λ i from to. refl })

  -- the other side was opened, where it is Live
  module _ (w mid now : World) (has : IfSome (file_of 0 w) (λ f. HasHeader h f.bytes)) (same : file_of 0 mid ≡ file_of 0 w) (look : Runs 0 (λ f. f ≡ file_of 0 w) w mid) where
    gates_by : (side : ℕ) → IsHeld side → TearsSideEnd h side mid now → OnlyClosesGates w now
    gates_by side held gate =
        let o = file_of 0 w in
        if_told o (λ f. Runs 0 (TornInFrom (IsListEnd f.bytes) 0 o) w now)
        (λ f is.
        let P = IsListEnd f.bytes in
        let Q = IsEnd side f.bytes in
        let its : HasHeader h f.bytes = told_at o (λ f. HasHeader h f.bytes) f is has in
        let second : Runs 0 (TornInFrom Q 0 (file_of 0 mid)) mid now = told_at (file_of 0 mid) (λ f. Runs 0 (TornInFrom (IsEnd side f.bytes) 0 (file_of 0 mid)) mid now) f (same ∙ is) gate in
        joins 0 (TornInFrom P 0 o) w mid now (weakens 0 (λ p. p ≡ o) (TornInFrom P 0 o) w mid (λ p here. from_none P 0 o p here) look)
        (weakens 0 (TornInFrom Q 0 (file_of 0 mid)) (TornInFrom P 0 o) mid now
        (λ p from. from_in_widens Q P 0 0 o p (λ i ends. list_end side f.bytes i held its ends) (omega arith) (subst (λ (x : Option File). TornInFrom Q 0 x p) same from)) second))

    pub gates_live : (h.other ≡ Live → TearsSideEnd h (other_of h) mid now) → (h.other ≢ Live → Runs 0 (λ f. f ≡ file_of 0 mid) mid now) → OnlyClosesGates w now
    gates_live live quiet = of_state h.other refl
      where
        reads : (h.other ≢ Live) → OnlyClosesGates w now
        reads other = gates_read w now (joins 0 (λ f. f ≡ file_of 0 w) w mid now look (weakens 0 (λ f. f ≡ file_of 0 mid) (λ f. f ≡ file_of 0 w) mid now (λ o is. is ∙ same) (quiet other)))

        of_state : (o : OtherSide) → h.other ≡ o → OnlyClosesGates w now
        of_state Live is = gates_by (other_of h) (inr (is, refl)) (live is)
        of_state Dirty is = reads (λ e. let wrong : Dirty ≡ Live = sym is ∙ e in absurd (cc wrong))
        of_state Clean is = reads (λ e. let wrong : Clean ≡ Live = sym is ∙ e in absurd (cc wrong))

    pub active_same : IsKept (file_of 0 w) → ReadsImage (file_of 0 now) → (h.other ≡ Live → Runs 0 (KeepsSide h (other_of h) (file_of 0 mid)) mid now) → (h.other ≢ Live → Runs 0 (λ f. f ≡ file_of 0 mid) mid now)
        → SameActiveOf (file_of 0 w) (file_of 0 now)
    active_same is_kept reads live quiet = of_state h.other refl
      where
        long_of : (o : Option File) → IfSome o (λ f. HasHeader h f.bytes) → IfSome o (λ f. file_size h ≤ length f.bytes)
        long_of None has = tt
        long_of (Some f) has = has.long

        still : (h.other ≢ Live) → SameActiveOf (file_of 0 w) (file_of 0 now)
        still other = active_quiet (file_of 0 w) (file_of 0 now) (run_end 0 (λ f. f ≡ file_of 0 mid) mid now (quiet other) ∙ same)

        of_state : (o : OtherSide) → h.other ≡ o → SameActiveOf (file_of 0 w) (file_of 0 now)
        of_state Live is =
            active_live (file_of 0 w) (file_of 0 now) is_kept reads (long_of (file_of 0 w) has)
            (subst (λ (x : Option File). KeepsSide h (other_of h) x (file_of 0 now)) same (run_end 0 (KeepsSide h (other_of h) (file_of 0 mid)) mid now (live is)))
        of_state Dirty is = still (λ e. let wrong : Dirty ≡ Live = sym is ∙ e in absurd (cc wrong))
        of_state Clean is = still (λ e. let wrong : Clean ≡ Live = sym is ∙ e in absurd (cc wrong))

  -- and then the active one
  pub gates_active : (w mid now : World) → IfSome (file_of 0 w) (λ f. HasHeader h f.bytes) → is_some (file_of 0 mid) ≡ is_some (file_of 0 w) → SameActiveOf (file_of 0 w) (file_of 0 mid)
      → OnlyClosesGates w mid → TearsSideEnd h h.active mid now → OnlyClosesGates w now
  gates_active w mid now has told same gates gate =
      let o = file_of 0 w in
      if_told o (λ f. Runs 0 (TornInFrom (IsListEnd f.bytes) 0 o) w now)
      (λ f is.
      let P = IsListEnd f.bytes in
      let first : Runs 0 (TornInFrom P 0 o) w mid = told_at o (λ f. Runs 0 (TornInFrom (IsListEnd f.bytes) 0 o) w mid) f is gates in
      let its : HasHeader h f.bytes = told_at o (λ f. HasHeader h f.bytes) f is has in
      let beside = told_at o (λ f. IfSome (file_of 0 mid) (λ g. SameActive f.bytes g.bytes)) f is same in
      joins 0 (TornInFrom P 0 o) w mid now first
      (weakens 0 (TornInFrom P 0 (file_of 0 mid)) (TornInFrom P 0 o) mid now (λ p from. from_in_then P 0 o (file_of 0 mid) p (run_end 0 (TornInFrom P 0 o) w mid first) from)
      (second (file_of 0 mid) refl f its (told ∙ ap is_some is) beside)))
    where
      second : (m : Option File) → file_of 0 mid ≡ m → (f : File) → HasHeader h f.bytes → is_some (file_of 0 mid) ≡ is_some (Some f) → IfSome (file_of 0 mid) (λ g. SameActive f.bytes g.bytes)
          → Runs 0 (TornInFrom (IsListEnd f.bytes) 0 (file_of 0 mid)) mid now
      second None is f its told beside = absurd (false≢true (sym (ap is_some is) ∙ told))
      second (Some g) is f its told beside =
          let P = IsListEnd f.bytes in
          let Q = IsEnd h.active g.bytes in
          let one : SameActive f.bytes g.bytes = told_at (file_of 0 mid) (λ g. SameActive f.bytes g.bytes) g is beside in
          let run : Runs 0 (TornInFrom Q 0 (file_of 0 mid)) mid now = told_at (file_of 0 mid) (λ f. Runs 0 (TornInFrom (IsEnd h.active f.bytes) 0 (file_of 0 mid)) mid now) g is gate in
          weakens 0 (TornInFrom Q 0 (file_of 0 mid)) (TornInFrom P 0 (file_of 0 mid)) mid now
          (λ p from. from_in_widens Q P 0 0 (file_of 0 mid) p (λ i ends. list_end h.active f.bytes i (inl refl) its (same_end f.bytes g.bytes one i ends)) (omega arith) from) run

-- The state of an opening from step to step.
use Rattle.std.proofs.Common.{◌≡◌, ◌≢◌, ℕ, ◌-◌, ◌≤◌, List, Option, Some, None, refl, sym, ◌∙◌, ap, subst, arith}
use Rattle.std.specs.Prelude.{IfSome, IsTrue}
use Rattle.odb_device.specs.World.{File, World, file_of}
use Rattle.odb_device.specs.Images.{IsImage, EachImage, ReadsImage, IsKept, Torn}
use Rattle.odb_device.specs.Moments.{Runs}
use Rattle.odb_device.proofs.Bytes.{image_kept}
use Rattle.odb_device.proofs.Time.{joins, weakens, run_end}
use Rattle.odb_device.proofs.Torn.{each_weakens}
use Rattle.odb_pair.specs.Places.{Opened as PairOpened, holding as holding_value, opened as pair_opened}
use Rattle.odb_pair.specs.Standing.{PairState, StandsFor as PairStandsFor}
use Rattle.odb_pair.specs.Laws.{stands_beside}
use Rattle.odb_reclog.specs.Records.{log_of}
use Rattle.odb_reclog.specs.Standing.{Log, Stands as LogStands}
use Rattle.odb_model.specs.declared.side.OtherSide.{OtherSide}
use Rattle.odb_model.specs.declared.side.OtherSide.TheVariants.{Live, Dirty, Clean}
use Rattle.odb_transdb.specs.declared.header.Header.{Header}
use Rattle.odb_transdb.specs.Header.{header_image, header_of, is_header, side_start, side_end, first_on, other_of}
use Rattle.odb_transdb.specs.Opened.{Opened, side_list, first_other, with_header, with_pair, opened}
use Rattle.odb_transdb.specs.Standing.{IsLiveBy}
use Rattle.odb_transdb.specs.Answers.{KeepsOpened}
use Rattle.odb_transdb.specs.Opening.{IsChecked, KeepsSide}
use Rattle.odb_transdb.proofs.Headers.{lawful_is, header_again}
use Rattle.odb_transdb.proofs.Opened.{HasHeader}
use Rattle.odb_transdb.proofs.Standing.{live_side, other_stays, keeps_torn}
use Rattle.odb_transdb.proofs.Sides.{IsInside, active_sides, other_zeros, active_header, active_opens, live_header, live_opens}

-- the bytes are those of the pair, keep this header, open to this, and a Clean side is zeros
pub record IsBased (pair : PairState) (h : Header) (what : Opened) (image : List ℕ) : Type 0 where
  pub pair_is : PairStandsFor pair image
  pub has : HasHeader h image
  pub opens : opened image ≡ what
  pub clean : h.other ≡ Clean → first_other h (other_of h) image ≡ None

abbrev pub AreBased : PairState → Header → Option File → Option File → Type 0
AreBased pair h None now = now ≡ None
AreBased pair h (Some f) now = EachImage (IsBased pair h (opened f.bytes)) now

-- what the pair says
pub record IsOfPair (pair : PairState) (h : Header) : Type 0 where
  pub lawful : IsTrue (is_header h)
  pub value : pair.value ≡ header_image h

-- bytes whose pair was found open by their header
pub pair_opens : (pair : PairState) (h : Header) (bytes : List ℕ) → IsOfPair pair h → pair_opened bytes ≡ holding_value pair.value → opened bytes ≡ with_header (Some h) bytes
unfolding opened
pair_opens pair h bytes of found =
    ap (λ (p : PairOpened). with_pair p bytes) found ∙ ap (λ (v : List ℕ). with_header (header_of v) bytes) of.value
    ∙ ap (λ (o : Option Header). with_header o bytes) (header_again h of.lawful)

module _ (pair : PairState) (h : Header) (of : IsOfPair pair h) where
  pub low_side : h.active ≤ 1
  low_side = (lawful_is h of.lawful).active

  pub based_first : (o : Option File) → IsKept o → EachImage (PairStandsFor pair) o → IfSome o (λ f. pair_opened f.bytes ≡ holding_value pair.value) → IfSome o (λ f. IsChecked h f.bytes) → AreBased pair h o o
  based_first None kept stands found checked = refl
  based_first (Some f) kept stands found checked = λ image is.
      let same = image_kept f image kept is in
      record {
        pair_is = stands image is;
        has = subst (HasHeader h) (sym same) (record { value = pair.value; pair = found; header = ap header_of of.value ∙ header_again h of.lawful; long = checked.long });
        opens = ap opened same;
        clean = λ e. ap (first_other h (other_of h)) same ∙ checked.clean e;
      }

  pub has_first : (o : Option File) → ReadsImage o → AreBased pair h o o → IfSome o (λ f. HasHeader h f.bytes)
  has_first None reads based = tt
  has_first (Some f) reads based = (based f.bytes reads).has

  pub whole_side : (side : ℕ) → IsInside h side (side_start h side) (side_end h side - side_start h side)
  whole_side side = record { low = omega arith; high = omega arith }

  far : (side : ℕ) → 1024 ≤ side_start h side
  far side = omega arith

  based_live : h.other ≡ Live → (what : Opened) (before image : List ℕ) → IsBased pair h what before → Torn (side_start h (other_of h)) (side_end h (other_of h) - side_start h (other_of h)) before image
      → side_list h (other_of h) image ≡ side_list h (other_of h) before → IsBased pair h what image
  based_live live what before image based torn list =
      let at = side_start h (other_of h) in
      let n = side_end h (other_of h) - side_start h (other_of h) in
      let inside = whole_side (other_of h) in
      record {
        pair_is = stands_beside pair at n before image based.pair_is torn (far (other_of h));
        has = live_header h at n before image low_side inside torn list live based.has;
        opens = live_opens h at n before image low_side inside torn list live based.has ∙ based.opens;
        clean = λ e. let wrong : Live ≡ Clean = sym live ∙ e in absurd (cc wrong);
      }

  based_active : (what : Opened) (before image : List ℕ) → IsBased pair h what before → Torn (side_start h h.active) (side_end h h.active - side_start h h.active) before image → side_list h h.active image ≡ side_list h h.active before
      → IsBased pair h what image
  based_active what before image based torn list =
      let at = side_start h h.active in
      let n = side_end h h.active - side_start h h.active in
      let inside = whole_side h.active in
      record {
        pair_is = stands_beside pair at n before image based.pair_is torn (far h.active);
        has = active_header h at n before image low_side inside torn list based.has;
        opens = active_opens h at n before image low_side inside torn list based.has ∙ based.opens;
        clean = λ e. other_zeros h h.active (other_of h) at n before image (active_sides h low_side) inside torn based.has.long ∙ based.clean e;
      }

  -- a side's log is opened
  abbrev Steps : ℕ → Type 0
  Steps side = (what : Opened) (before image : List ℕ) → IsBased pair h what before → Torn (side_start h side) (side_end h side - side_start h side) before image → side_list h side image ≡ side_list h side before → IsBased pair h what image

  based_by : (side : ℕ) → Steps side → (o p q : Option File) → AreBased pair h o p → KeepsSide h side p q → AreBased pair h o q
  based_by side step None p q based keeps = subst (λ (x : Option File). KeepsSide h side x q) based keeps
  based_by side step (Some f) None q based keeps = subst (EachImage (IsBased pair h (opened f.bytes))) (sym keeps) tt
  based_by side step (Some f) (Some g) q based keeps =
      each_weakens (λ image. (before : List ℕ) × IsImage g before × Torn (side_start h side) (side_end h side - side_start h side) before image
      × (log_of (side_start h side) (side_end h side) (first_on h side) image ≡ log_of (side_start h side) (side_end h side) (first_on h side) before))
      (IsBased pair h (opened f.bytes)) q (λ image b. step (opened f.bytes) b.0 image (based b.0 b.1) b.2 b.3) keeps

  based_opens : (o p : Option File) → ReadsImage o → AreBased pair h o p → KeepsOpened o p
  based_opens None p reads based = based
  based_opens (Some f) p reads based = each_weakens (IsBased pair h (opened f.bytes)) (λ image. (before : List ℕ) × IsImage f before × (opened image ≡ opened before)) p (λ image one. (f.bytes, reads, one.opens)) based

  -- so far the opening
  pub record IsBegun (w now : World) : Type 0 where
    pub run : Runs 0 (KeepsOpened (file_of 0 w)) w now
    pub based : AreBased pair h (file_of 0 w) (file_of 0 now)

  pub begun_first : (w now : World) → ReadsImage (file_of 0 w) → IsKept (file_of 0 w) → EachImage (PairStandsFor pair) (file_of 0 w) → IfSome (file_of 0 w) (λ f. pair_opened f.bytes ≡ holding_value pair.value)
      → IfSome (file_of 0 w) (λ f. IsChecked h f.bytes) → Runs 0 (λ f. f ≡ file_of 0 w) w now → IsBegun w now
  begun_first w now reads kept stands found checked run =
      let o = file_of 0 w in
      let based = based_first o kept stands found checked in
      record {
        run = weakens 0 (λ f. f ≡ o) (KeepsOpened o) w now (λ p same. subst (KeepsOpened o) (sym same) (based_opens o o reads based)) run;
        based = subst (AreBased pair h o) (sym (run_end 0 (λ f. f ≡ o) w now run)) based;
      }

  module _ (w mid now : World) (reads : ReadsImage (file_of 0 w)) (so_far : IsBegun w mid) where
    begun_by : (side : ℕ) → Steps side → Runs 0 (KeepsSide h side (file_of 0 mid)) mid now → IsBegun w now
    begun_by side step run =
        let o = file_of 0 w in
        record {
          run = joins 0 (KeepsOpened o) w mid now so_far.run (weakens 0 (KeepsSide h side (file_of 0 mid)) (KeepsOpened o) mid now (λ p keeps. based_opens o p reads (based_by side step o (file_of 0 mid) p so_far.based keeps)) run);
          based = based_by side step o (file_of 0 mid) (file_of 0 now) so_far.based (run_end 0 (KeepsSide h side (file_of 0 mid)) mid now run);
        }

    -- nothing is written
    pub begun_look : Runs 0 (λ f. f ≡ file_of 0 mid) mid now → IsBegun w now
    begun_look run =
        let o = file_of 0 w in
        record {
          run = joins 0 (KeepsOpened o) w mid now so_far.run
              (weakens 0 (λ f. f ≡ file_of 0 mid) (KeepsOpened o) mid now (λ p same. based_opens o p reads (subst (AreBased pair h o) (sym same) so_far.based)) run);
          based = subst (AreBased pair h o) (sym (run_end 0 (λ f. f ≡ file_of 0 mid) mid now run)) so_far.based;
        }

    pub begun_live : (h.other ≡ Live → Runs 0 (KeepsSide h (other_of h) (file_of 0 mid)) mid now) → (h.other ≢ Live → Runs 0 (λ f. f ≡ file_of 0 mid) mid now) → IsBegun w now
    begun_live live quiet = of_state h.other refl
      where
        of_state : (o : OtherSide) → h.other ≡ o → IsBegun w now
        of_state Live is = begun_by (other_of h) (based_live is) (live is)
        of_state Dirty is = begun_look (quiet (λ e. let wrong : Dirty ≡ Live = sym is ∙ e in absurd (cc wrong)))
        of_state Clean is = begun_look (quiet (λ e. let wrong : Clean ≡ Live = sym is ∙ e in absurd (cc wrong)))

    pub begun_active : Runs 0 (KeepsSide h h.active (file_of 0 mid)) mid now → IsBegun w now
    begun_active run = begun_by h.active based_active run

-- the log of a Live side stands when the active side's is open
pub lives_on : (h : Header) (live : Option Log) (active : Log) (mid now : World) → h.active ≤ 1 → IsInside h h.active (side_start h h.active) (side_end h h.active - side_start h h.active) → IsLiveBy h h.other live active
    → IfSome live (λ log. LogStands log (file_of 0 mid)) → Runs 0 (KeepsSide h h.active (file_of 0 mid)) mid now → ReadsImage (file_of 0 now) → IfSome live (λ log. LogStands log (file_of 0 now))
lives_on h live active mid now low inside by lives run reads =
    let at = side_start h h.active in
    let n = side_end h h.active - side_start h h.active in
    let keeps = run_end 0 (KeepsSide h h.active (file_of 0 mid)) mid now run in
    other_stays h live at n (file_of 0 mid) (file_of 0 now) low inside (live_side h h.other live active by) lives (keeps_torn (side_start h h.active) (side_end h h.active) (first_on h h.active) at n (file_of 0 mid) (file_of 0 now) keeps) reads

-- What each step of a turn leaves of `AllStand`.
use Rattle.std.proofs.Common.{◌≡◌, ◌⊎◌, inl, inr, ℕ, ◌≤◌, List, Option, Some, None, sym, ◌∙◌, ap, subst, refl}
use Rattle.odb_bank.specs.History.{History}
use Rattle.odb_bank.specs.Records.{Record, View, IsWithin}
use Rattle.odb_bank.specs.Stands.{Stands}
use Rattle.odb_bank.specs.Changes.{IsStale, AddsRun}
use Rattle.odb_bank.proofs.Steps.{stands_same, stands_opening, stands_opened, stands_closing}
use Rattle.odb_slots.specs.Between.{NeedsItsBody, Between}
use Rattle.odb_slots.specs.Slots.{gate_at}
use Rattle.odb_slots.specs.Views.{Spelling, spelled, view_by, IsBad}
use Rattle.odb_bank.specs.Known.{Known, free, filled, held, either, Fits, sure, perhaps, sure_of, perhaps_of, behind_gate, IsFileOf, Become}
use Rattle.odb_bank.proofs.KnownSlots.{known_between}
use Rattle.odb_bank.specs.Turns.{AllStand, DoubtsStale, IsQuietBeside, Waits, HoldsRun}
use Rattle.odb_bank.specs.Files.{StandsIn}

-- an image of a file of which all this is known
pub stands_known : (spell : Spelling Record) → NeedsItsBody spell → (h : History) (a limit : ℕ) (known : ℕ → Known) (bytes : List ℕ) → AllStand h a known → IsFileOf spell limit known bytes
    → StandsIn spell h a limit bytes
stands_known spell own h a limit known bytes all is = record {
  long = is.long;
  spells = λ n low bad. never (known n) (gate_at n bytes) (spelled spell n bytes) (is.fits n low) bad;
  stands = all (view_by spell limit bytes) (known_between spell own limit known bytes is);
}
  where
    never : (k : Known) (gate : ℕ) (it : Option Record) → Fits k gate it → IsBad gate it → ⊥
    never free gate it shut bad = shut bad.0
    never (filled r) gate it is bad = is.0 bad.0
    never (held r) gate it is bad = let some = is.1 in let none = bad.1 in cc (some, none)
    never (either r) gate it is bad = let none = bad.1 in cc (is, none)

-- closing: with all that may be open it stands, and each slot in doubt is stale
pub all_closing : (h : History) (mark limit : ℕ) (known : ℕ → Known) → IsWithin limit (perhaps_of known) → DoubtsStale mark known → Stands h mark (perhaps_of known) → AllStand h mark known
all_closing h mark limit known within doubts stands view between = stands_closing h mark limit (sure_of known) (perhaps_of known) view within (λ n. go n (known n) refl) between stands
  where
    go : (n : ℕ) (k : Known) → known n ≡ k → (sure (known n) ≡ perhaps (known n)) ⊎ ((sure (known n) ≡ None) × ((r : Record) → perhaps (known n) ≡ Some r → IsStale mark (perhaps_of known) n r))
    go n free e = inl (ap sure e ∙ sym (ap perhaps e))
    go n (filled s) e = inl (ap sure e ∙ sym (ap perhaps e))
    go n (held s) e = inl (ap sure e ∙ sym (ap perhaps e))
    go n (either s) e = inr (ap sure e, λ r here. let same : s ≡ r = cc (ap perhaps e, here) in subst (IsStale mark (perhaps_of known) n) same (doubts n s e))

-- filling: neither what is open nor what may be changes
pub all_same : (h : History) (a : ℕ) (known later : ℕ → Known) → ((n : ℕ) → sure (later n) ≡ sure (known n)) → ((n : ℕ) → perhaps (later n) ≡ perhaps (known n)) → AllStand h a known → AllStand h a later
all_same h a known later lows highs all view between = all view (λ n. elim (between n) [ inl e ↦ inl (e ∙ lows n) | inr e ↦ inr (e ∙ highs n) ])

-- opening
module _ (h : History) (a reached : ℕ) (S : ℕ → Type 0) (known later : ℕ → Known) (to : Record → Known) (shows : (r : Record) → perhaps (to r) ≡ Some r) (hides : (r : Record) → (sure (to r) ≡ None) ⊎ (sure (to r) ≡ Some r))
    (quiet : IsQuietBeside S known) (run : HoldsRun h a reached S known) (become : Become S to known later) where
  -- the record of a slot of S, which isn't open for sure
  its : (n : ℕ) (r s : Record) → Waits (known n) r → behind_gate (known n) ≡ Some s → r ≡ s
  its n r s (inl e) is = cc (ap behind_gate e, is)
  its n r s (inr e) is = cc (ap behind_gate e, is)

  closed : (n : ℕ) (r : Record) → Waits (known n) r → sure (known n) ≡ None
  closed n r (inl e) = ap sure e
  closed n r (inr e) = ap sure e

  adds : AddsRun h a reached (sure_of known) (perhaps_of later)
  adds = record {
    within = run.within;
    each = λ n. elim (become n) [
      | inl other ↦ inl (ap perhaps other.1 ∙ quiet n other.0)
      | inr one ↦
          let r = run.each n one.0 in
          let t = one.1 in
          let same : r.0 ≡ t.0 = its n r.0 t.0 r.1 t.1 in
          inr (record { was_closed = closed n r.0 r.1; added = r.0; now = ap perhaps t.2 ∙ shows t.0 ∙ ap Some (sym same); of_run = r.2 })
    ];
    all = λ key j last above.
        let r = run.all key j last above in
        elim (become r.0) [
          | inl other ↦ absurd (other.0 r.2)
          | inr one ↦ let t = one.1 in let same : r.1 ≡ t.0 = its r.0 r.1 t.0 r.3 t.1 in (r.0, r.1, ap perhaps t.2 ∙ shows t.0 ∙ ap Some (sym same), r.4, r.5)
        ];
  }

  between_all : (view : View) → Between (sure_of later) (perhaps_of later) view → Between (sure_of known) (perhaps_of later) view
  between_all view between n = elim (between n) [
    | inr e ↦ inr e
    | inl e ↦ elim (become n) [
      | inl other ↦ inl (e ∙ ap sure other.1)
      | inr one ↦
          let r = run.each n one.0 in
          let t = one.1 in
          elim (hides t.0) [ inl none ↦ inl (e ∙ ap sure t.2 ∙ none ∙ sym (closed n r.0 r.1)) | inr some ↦ inr (e ∙ ap sure t.2 ∙ some ∙ sym (ap perhaps t.2 ∙ shows t.0)) ]
    ]
  ]

  -- complete to each mark up to the number reached, whichever gates are open
  pub all_opening : (mark : ℕ) → mark ≤ reached → Stands h mark (sure_of known) → AllStand h mark later
  all_opening mark low stands view between = stands_opening h a reached (sure_of known) (perhaps_of later) adds mark view low (between_all view between) stands

  -- and with all of them open to the number reached
  pub all_opened : a ≤ reached → ((n : ℕ) → perhaps (later n) ≡ sure (later n)) → Stands h a (sure_of known) → AllStand h reached later
  all_opened low settled stands view between = stands_same h reached (perhaps_of later) view
      (λ n. elim (between n) [ inl e ↦ e ∙ sym (settled n) | inr e ↦ e ])
      (stands_opened h a reached (sure_of known) (perhaps_of later) adds low stands)

-- The slots of a file lie in its content.
use Rattle.std.proofs.Common.{◌≡◌, ℕ, ◌+◌, ◌*◌, ◌<◌, List, Option, sym, subst, arith}
use Rattle.odb_device.specs.TornSets.{InRange}
use Rattle.odb_device.specs.Frames.{AgreeIn, AsksOf}
use Rattle.odb_device.proofs.Frames.{agree_less, looks_part}
use Rattle.odb_extent.specs.Opened.{content_end}
use Rattle.odb_extent.specs.Standing.{IsContent}
use Rattle.odb_slots.specs.Slots.{slot_place, gate_at, body_at}
use Rattle.odb_slots.specs.Sets.{GatesOf, BodiesOf}
use Rattle.odb_slots.specs.Views.{Spelling, spelled}
use Rattle.odb_slots.specs.Between.{NeedsItsBody}
use Rattle.odb_slots.proofs.Places.{spelled_same}
use Rattle.odb_bank.specs.Records.{Record}
use Rattle.odb_bank.specs.Known.{Known, Fits, IsFileOf}

gate_agrees : (limit n : ℕ) (a b : List ℕ) → n < 1024 * limit → AgreeIn (IsContent limit) (content_end limit) a b → gate_at n b ≡ gate_at n a
unfolding gate_at
gate_agrees limit n a b low agree = agree.same (slot_place n) (omega arith) (omega arith, omega arith)

body_agrees : (limit n : ℕ) (a b : List ℕ) → n < 1024 * limit → AgreeIn (IsContent limit) (content_end limit) a b → body_at n b ≡ body_at n a
unfolding body_at
body_agrees limit n a b low agree =
    looks_part (slot_place n + 1) 1023 a b
    (agree_less (IsContent limit) (InRange (slot_place n + 1) 1023) (content_end limit) (slot_place n + 1 + 1023) a b (λ i here. (omega (arith, here.0), omega (arith, here.1))) (omega arith) agree)

-- what is known of them asks of the content alone
pub known_asks : (spell : Spelling Record) → NeedsItsBody spell → (limit : ℕ) (known : ℕ → Known) → AsksOf (IsContent limit) (content_end limit) (IsFileOf spell (1024 * limit) known)
known_asks spell own limit known a b agree is = record {
  long = omega (arith, agree.as_long);
  fits = λ n low.
      let gate : gate_at n b ≡ gate_at n a = gate_agrees limit n a b low agree in
      let it : spelled spell n b ≡ spelled spell n a = spelled_same spell own n a b (body_agrees limit n a b low agree) in
      subst (λ (g : ℕ). Fits (known n) g (spelled spell n b)) (sym gate) (subst (λ (o : Option Record). Fits (known n) (gate_at n a) o) (sym it) (is.fits n low));
  beyond = is.beyond;
}

pub gates_lie : (limit : ℕ) (S : ℕ → Type 0) → ((n : ℕ) → S n → n < 1024 * limit) → (i : ℕ) → GatesOf S i → IsContent limit i
gates_lie limit S below i here = let low = below here.0 here.1 in (omega (arith, here.2), omega (arith, here.2))

pub bodies_lie : (limit : ℕ) (S : ℕ → Type 0) → ((n : ℕ) → S n → n < 1024 * limit) → (i : ℕ) → BodiesOf S i → IsContent limit i
bodies_lie limit S below i here = let low = below here.0 here.1 in let inside = here.2 in (omega (arith, inside.0), omega (arith, inside.1))

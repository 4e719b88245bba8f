-- What `prepare` finds, test by test.
use Rattle.std.proofs.Common.{◌≡◌, ◌≢◌, ℕ, ◌+◌, ◌<◌, ◌≤◌, true, false, cond, nat_lt, nat_le, List, [], ◌∷◌, length, None, refl, sym, ap, subst, ◌∙◌, arith}
use Rattle.std.proofs.lemmas.Bool.Decides.{nat_tests}
use Rattle.odb_model.specs.declared.entry.Entry.{Entry}
use Rattle.odb_model.specs.declared.write.Write.{Write}
use Rattle.odb_model.specs.Width.{record_width}
use Rattle.odb_codec.specs.Image.{HasImage, entry_image}
use Rattle.odb_codec.proofs.Lengths.{length-entry_image}
use Rattle.odb_transdb.specs.Standing.{room_of}
use Rattle.odb_validate.specs.Window.{reserve}
use Rattle.odb_commit.specs.declared.error.CommitError.TheVariants as e
use Rattle.odb_machine.specs.Book.{most_entries}
use Rattle.odb_commit.specs.Parts.{Parts, count, IsAligned, CanSeal, Preparation, Refuses, ToSeal, sealing_of, entry_after, by_writes}

at_least : (m n : ℕ) → m ≤ n → nat_le m n ≡ true
at_least m n h = grind (arith, nat_tests)

below : (m n : ℕ) → n < m → nat_le m n ≡ false
below m n h = grind (arith, nat_tests)

less : (m n : ℕ) → m < n → nat_lt m n ≡ true
less m n h = grind (arith, nat_tests)

not_less : (m n : ℕ) → n ≤ m → nat_lt m n ≡ false
not_less m n h = grind (arith, nat_tests)

-- the bytes of a record are those of the image and 13 more
pub record_bytes : (entry : Entry) (image : List ℕ) → image ≡ entry_image entry → 13 + length image ≡ record_width entry
record_bytes entry image is = ap (λ (bytes : List ℕ). 13 + length bytes) is ∙ ap (λ n. 13 + n) (length-entry_image entry)

module _ (b : Parts) (entry : Entry) where
  abbrev rest : Preparation
  rest = cond (nat_lt (room_of b.transdb) (record_width entry)) (Refuses (e.Full (record_width entry) (room_of b.transdb))) (ToSeal entry)

  pub history_full : most_entries ≤ count b → sealing_of b entry ≡ Refuses e.HistoryFull
  history_full full = ap (λ t. cond t (Refuses e.HistoryFull) rest) (at_least most_entries (count b) full)

  pub log_full : (need : ℕ) → count b < most_entries → need ≡ record_width entry → room_of b.transdb < need → sealing_of b entry ≡ Refuses (e.Full need (room_of b.transdb))
  log_full need few is full =
      ap (λ t. cond t (Refuses e.HistoryFull) rest) (below most_entries (count b) few)
      ∙ ap (λ t. cond t (Refuses (e.Full (record_width entry) (room_of b.transdb))) (ToSeal entry)) (less (room_of b.transdb) (record_width entry) (omega (arith, is, full)))
      ∙ ap (λ n. Refuses (e.Full n (room_of b.transdb))) (sym is)

  pub to_seal : (need : ℕ) → count b < most_entries → need ≡ record_width entry → need ≤ room_of b.transdb → sealing_of b entry ≡ ToSeal entry
  to_seal need few is fits =
      ap (λ t. cond t (Refuses e.HistoryFull) rest) (below most_entries (count b) few)
      ∙ ap (λ t. cond t (Refuses (e.Full (record_width entry) (room_of b.transdb))) (ToSeal entry)) (not_less (room_of b.transdb) (record_width entry) (omega (arith, is, fits)))

-- the entry is ready
pub can_seal : (b : Parts) (entry : Entry) (image : List ℕ) → b.halted ≡ None → IsAligned b → entry.number ≡ count b + 1 → HasImage entry → image ≡ entry_image entry → 13 + length image ≤ room_of b.transdb
    → CanSeal (record b { window = reserve b.window }) entry image
can_seal b entry image settled aligned number lawful is fits = record {
  settled = settled;
  usable = aligned.usable settled;
  place = refl;
  number = number;
  next = number ∙ aligned.ends settled;
  lawful = lawful;
  image_is = is;
  room = fits;
}

-- writes that are there leave an entry to seal
pub some_writes : (b : Parts) (s : ℕ) (writes : List Write) → writes ≢ [] → by_writes b s writes ≡ sealing_of b (entry_after b s writes)
some_writes b s [] some = absurd (some refl)
some_writes b s (w ∷ ws) some = refl

-- what an image was made of
abbrev numbered : ℕ → ℕ → List Write → Entry
numbered n s writes = record { number = n + 1; by = s; writes = writes }

module _ (b : Parts) (s : ℕ) (writes : List Write) (n : ℕ) (image : List ℕ) (len room : ℕ)
    (count_is : n ≡ count b) (few : n < most_entries) (image_is : image ≡ entry_image (numbered n s writes)) (len_is : len ≡ length image) (room_is : room ≡ room_of b.transdb) where
  entry_is : numbered n s writes ≡ entry_after b s writes
  entry_is = ap (λ k. numbered k s writes) count_is

  need_is : 13 + len ≡ record_width (entry_after b s writes)
  need_is = ap (λ k. 13 + k) len_is ∙ record_bytes (entry_after b s writes) image (image_is ∙ ap entry_image entry_is)

  few_is : count b < most_entries
  few_is = subst (λ k. k < most_entries) count_is few

  pub sealing_full : room < 13 + len → sealing_of b (entry_after b s writes) ≡ Refuses (e.Full (13 + len) room)
  sealing_full full =
      log_full b (entry_after b s writes) (13 + len) few_is need_is (subst (λ k. k < 13 + len) room_is full)
      ∙ ap (λ k. Refuses (e.Full (13 + len) k)) (sym room_is)

  pub sealing_ready : 13 + len ≤ room → sealing_of b (entry_after b s writes) ≡ ToSeal (numbered n s writes)
  sealing_ready fits =
      to_seal b (entry_after b s writes) (13 + len) few_is need_is (subst (λ k. 13 + len ≤ k) room_is fits)
      ∙ ap ToSeal (sym entry_is)

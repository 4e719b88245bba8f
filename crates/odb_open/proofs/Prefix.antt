-- By whatever choices a database may be opened, it opens to one prefix of the history.
use Rattle.std.proofs.Common.{◌≡◌, ℕ, zero, suc, ◌<◌, ◌≤◌, ◌^◌, Bool, true, false, ◌==◌, cond, List, [], ◌∷◌, map, length, get_or, take, Option, Some, None, refl, sym, ap, subst, ◌∙◌, arith, eq-eqb, eqb-true, inl, inr, ◌++◌}
use Rattle.std.specs.Prelude.{Contains}
use Rattle.std.specs.FinMap.{empty, get, same_map}
use Rattle.std.proofs.Math.Seq.{take-append_seam, take-length}
use Rattle.std.proofs.lemmas.List.Elements.{All-contains, Contains-get_or, recursion_from_All}
use Rattle.odb_values.specs.declared.value.Value.{Value}
use Rattle.odb_model.specs.declared.write.Write.{Write}
use Rattle.odb_model.specs.declared.entry.Entry.{Entry}
use Rattle.odb_model.specs.declared.table_key.TableKey.{TableKey}
use Rattle.odb_model.specs.State.{State, replay}
use Rattle.odb_model.specs.Databanks.{Databank, sysdb, databanks, next_number}
use Rattle.odb_model.proofs.Replay.{table_key_cmp_total, table_key_cmp_exact}
use Rattle.odb_machine.specs.Copies.{Choice}
use Rattle.odb_machine.specs.Readings.{Reading, Missing, Damaged, Holds, TransdbReading, last_number}
use Rattle.odb_machine.specs.MachineState.{Machine, IsSettled, with_doubt, history_or_more}
use Rattle.odb_machine.specs.Joined.{file_for}
use Rattle.odb_machine.specs.First.{asked_of}
use Rattle.odb_machine.specs.Opened.{FilesRead, rows_of_databank, dictionary_read, all_together, state_read}
use Rattle.odb_catalog.proofs.Numbers.{within, next_range}
use Rattle.odb_sound.specs.Sound.{IsSoundHistory, IsSound, is_bank}
use Rattle.odb_sound.proofs.Ordered.{SameDictionary, same_databanks}
use Rattle.odb_bank.specs.History.{history_of}
use Rattle.odb_bank.specs.Owned.{AreInOrder}
use Rattle.odb_bank.proofs.Replaying.{state_replays}
use Rattle.odb_open.specs.Files.{transdb_in}
use Rattle.odb_open.specs.Images.{Image, files_in}
use Rattle.odb_open.specs.Admissible.{IsReadable, IsAdmissible}
use Rattle.odb_open.specs.Opened.{opened_by, OpensTo}
use Rattle.odb_open.specs.Kept.{Keeps}
use Rattle.odb_open.specs.Leaves.{prefix_of}
use Rattle.odb_open.proofs.Together.{together}
use Rattle.odb_open.proofs.LateRows.{AreElsewhere, never_written, state_none, has_row, has_none}

clash : {A : Type 0} → true ≡ false → A
clash e = cc e

abbrev held_or : TransdbReading → Reading TransdbReading → TransdbReading
held_or t Missing = t
held_or t (Damaged at) = t
held_or t (Holds what) = what

not_same : (a b c : ℕ) → c ≡ b → (a == b) ≡ false → (c == a) ≡ false
not_same a b c same other = by (c == a) refl
  where
    by : (d : Bool) → (c == a) ≡ d → (c == a) ≡ false
    by true is = clash (sym (eq-eqb a b (sym (eqb-true c a is) ∙ same)) ∙ other)
    by false is = is

take_short : (n : ℕ) (h : List Entry) → length (take n h) ≤ n
take_short zero h = omega arith
take_short (suc n) [] = omega arith
take_short (suc n) (e ∷ h) = omega (arith, take_short n h)

module _ (choices : List Choice) (image : Image) (h : List Entry) (t : TransdbReading) (reads : transdb_in (image 0) ≡ Holds t) (format : t.format ≡ 1)
    (small : last_number t < 2 ^ 64) (sound : IsSoundHistory (take (last_number t) h)) (admissible : IsAdmissible choices image h) where
  abbrev p : List Entry
  p = take (last_number t) h

  abbrev files : FilesRead
  files = files_in image t

  abbrev rows : Databank → State
  rows = rows_of_databank files t choices

  same_transdb : admissible.transdb ≡ t
  same_transdb = ap (held_or t) (sym admissible.reads ∙ reads)

  readable : (b : Databank) → Contains (databanks (replay p)) b → IsReadable image t p b.number (file_for choices b)
  readable =
      subst (λ (r : TransdbReading). (b : Databank) → Contains (databanks (replay (take (last_number r) h))) b → IsReadable image r (take (last_number r) h) b.number (file_for choices b))
      same_transdb admissible.banks

  ordered : AreInOrder p
  ordered i e low = let has = sound.images i e low in let storable = has.storable in let writes = storable.writes in writes.ascending

  low_number : (b : Databank) → Contains (databanks (replay p)) b → b.number < 2 ^ 32
  low_number b there =
      let order = sound.in_order in
      let used = order.used in
      let below = All-contains (λ (d : Databank). (d.number < next_number (replay p)) × (d.file < next_number (replay p))) (databanks (replay p)) b used.banks there in
      let range = within 16 (next_number (replay p)) (next_range (replay p)) in
      omega (arith, below.0, range.1)

  module _ (q : TableKey) where
    abbrev n : ℕ
    n = let one = sound.one_bank in one.bank_of q.table

    abbrev whole : Option (List Value)
    whole = get (replay p) q

    -- a write to the key's table is in the databank of the table
    bank_is : (i : ℕ) (e : Entry) → i < length p → (j : ℕ) (w : Write) → j < length (get_or p i e).writes → (get_or (get_or p i e).writes j w).table ≡ q.table → (get_or (get_or p i e).writes j w).bank ≡ n
    bank_is i e low j w inside same = let one = sound.one_bank in one.writes i e low j w inside ∙ ap one.bank_of same

    has_by : (b : Databank) → Contains (databanks (replay p)) b → (c : Bool) → (b.number == n) ≡ c → get (rows b) q ≡ cond (b.number == n) whole None
    has_by b there true is =
        let file = readable b there in
        let later = file.later in
        has_row (asked_of t b.number) format (low_number b there) small p (take_short (last_number t) h) file.mark (image (file_for choices b)) file.stands _ later.entries q ordered
        (λ i e low j w inside same. bank_is i e low j w inside same ∙ sym (eqb-true b.number n is))
        ∙ sym (ap (λ (c : Bool). cond c whole None) is)
    has_by b there false is =
        let file = readable b there in
        let later = file.later in
        has_none (asked_of t b.number) format (low_number b there) small p (take_short (last_number t) h) file.mark (image (file_for choices b)) file.stands _ later.entries q
        (λ i e low j w inside same. not_same b.number n _ (bank_is i e low j w inside same) is)
        ∙ sym (ap (λ (c : Bool). cond c whole None) is)

    has : (b : Databank) → Contains (databanks (replay p)) b → get (rows b) q ≡ cond (b.number == n) whole None
    has b there = has_by b there (b.number == n) refl

    -- where no databank has the number, nothing writes to the table
    nothing : is_bank (replay p) n ≡ false → whole ≡ None
    nothing none =
        sym (state_replays n p q ordered (λ i e low j w inside same. bank_is i e low j w inside same))
        ∙ state_none (history_of n p) q (never_written n q p elsewhere) (length p)
      where
        elsewhere : AreElsewhere n q p
        elsewhere i e low j w inside same =
            let known = sound.known i e low j w inside in
            clash (sym (subst (λ (k : ℕ). is_bank (replay p) k ≡ true) (bank_is i e low j w inside same) known.bank) ∙ none)

  same_dictionary : SameDictionary (replay p) (dictionary_read files t choices)
  same_dictionary q same =
      let one = sound.one_bank in
      has q sysdb (0, omega arith, refl)
      ∙ ap (λ (c : Bool). cond c (get (replay p) q) None) (eq-eqb sysdb.number (one.bank_of q.table) (sym (ap one.bank_of same ∙ one.dictionary)))

  state_is : state_read files t choices ≡ replay p
  state_is =
      let one = sound.one_bank in
      ap (λ (banks : List Databank). all_together empty (map rows banks)) (same_databanks (replay p) (dictionary_read files t choices) same_dictionary)
      ∙ same_map table_key_cmp_total table_key_cmp_exact _ _ (λ q.
      together q rows (one.bank_of q.table) (get (replay p) q) (databanks (replay p))
      (recursion_from_All _ (databanks (replay p)) (λ i d low. has q (get_or (databanks (replay p)) i d) (Contains-get_or (databanks (replay p)) i d low)))
      (nothing q))

  pub opens_to_prefix : OpensTo image choices (prefix_of (last_number t) h)
  opens_to_prefix =
      ap (λ (r : Reading TransdbReading). opened_by r image choices) reads
      ∙ ap (λ (s : State). Some (record { number = last_number t; state = s })) state_is

-- the history that a machine's TRANSDB holds is sound, and begins all that the machine may have

settled_sound : (m : Machine) → IsSound m → (d : Option Entry) (g : List Entry) → m.in_doubt ≡ d → IsSettled m d g → IsSoundHistory g
settled_sound m sound None g is same = subst IsSoundHistory (sym same) sound.history
settled_sound m sound (Some e) g is (inl same) = subst IsSoundHistory (sym same) sound.history
settled_sound m sound (Some e) g is (inr more) =
    subst IsSoundHistory (sym more) (subst (λ (d : Option Entry). IsSoundHistory (with_doubt m.history d)) is sound.doubted)

settled_front : (m : Machine) (d : Option Entry) (g : List Entry) → IsSettled m d g → take (length g) (with_doubt m.history d) ≡ g
settled_front m None g same = ap (λ (h : List Entry). take (length g) h) (sym same) ∙ take-length g
settled_front m (Some e) g (inl same) = ap (λ (h : List Entry). take (length g) (h ++ e ∷ [])) (sym same) ∙ take-append_seam g (e ∷ [])
settled_front m (Some e) g (inr more) = ap (λ (h : List Entry). take (length g) h) (sym more) ∙ take-length g

module _ (m : Machine) (choices : List Choice) (image : Image) (t : TransdbReading) (sound : IsSound m) (format : m.format ≡ 1) (keeps : Keeps m image)
    (reads : transdb_in (image 0) ≡ Holds t) where
  abbrev all : List Entry
  all = history_or_more m

  pub kept_opens : IsAdmissible choices image all → OpensTo image choices (prefix_of (last_number t) all)
  kept_opens admissible =
      let file = keeps.files 0 in
      let kept = file.transdb refl in
      let same : kept.transdb ≡ t = ap (held_or t) (sym kept.reads ∙ reads) in
      let number : last_number t ≡ length kept.history = ap last_number (sym same) ∙ kept.number in
      let held : IsSoundHistory kept.history = settled_sound m sound m.in_doubt kept.history refl kept.settled in
      let front : take (last_number t) all ≡ kept.history =
      ap (λ (n : ℕ). take n all) number ∙ settled_front m m.in_doubt kept.history kept.settled in
      opens_to_prefix choices image all t reads (ap (λ (r : TransdbReading). r.format) (sym same) ∙ kept.format ∙ format)
      (omega (arith, number, held.few)) (subst IsSoundHistory (sym front) held) admissible

-- Adding the entries of payloads that were read.
use Rattle.std.proofs.Common.{◌≡◌, ℕ, ◌+◌, ◌≤◌, List, [], ◌∷◌, ◌++◌, length, Ok, Err, refl, sym, ◌∙◌, ap, subst, arith, append_assoc, length-append}
use Rattle.std.proofs.lemmas.List.{append-nil}
use Rattle.std.proofs.lemmas.List.Sums.{sum_by-append}
use Rattle.odb_reclog.specs.Records.{HEAD, end_of_list}
use Rattle.odb_reclog.proofs.Records.{end_more}
use Rattle.odb_codec.specs.Reading.{read_entry}
use Rattle.odb_model.specs.declared.entry.Entry.{Entry}
use Rattle.odb_model.specs.State.{IsNumberedFrom}
use Rattle.odb_model.specs.Width.{record_width, records_width}
use Rattle.odb_transdb.specs.declared.error.TransdbError.{TransdbError}
use Rattle.odb_transdb.specs.declared.error.TransdbError.TheVariants.{NoDatabase, Damaged, Full, FaultBefore, InDoubt, NotClean, Held, Fault, NoMemory}
use Rattle.odb_transdb.specs.Opened.{entries_from}
use Rattle.odb_transdb.specs.Walking.{IsReadOf, IsEntryOf}
use Rattle.odb_transdb.proofs.Entries.{read_more, read_fault}
use Rattle.odb_transdb.proofs.Walking.{end_later, end_then, numbered_then}

-- the entries of the first payloads were added
pub record IsAdded (first start : ℕ) (payloads done rest : List (List ℕ)) (base items : List Entry) (at number : ℕ) : Type 0 where
  pub list_is : payloads ≡ done ++ rest
  pub all : List Entry
  pub read : entries_from first start done ≡ Ok all
  pub items_are : items ≡ base ++ all
  pub numbered : IsNumberedFrom first all
  pub count : length all ≡ length done
  pub wide : start + records_width all ≡ at
  pub place : at ≡ end_of_list start done
  pub number_is : number ≡ first + length done

pub added_none : (first start at number : ℕ) (payloads rest : List (List ℕ)) (base : List Entry) → payloads ≡ rest → at ≡ start → number ≡ first → IsAdded first start payloads [] rest base base at number
added_none first start at number payloads rest base same here one = record {
  list_is = same;
  all = [];
  read = refl;
  items_are = sym (append-nil base);
  numbered = tt;
  count = refl;
  wide = omega arith;
  place = here;
  number_is = omega arith;
}

module _ (first start : ℕ) (payloads done rest : List (List ℕ)) (base items : List Entry) (at number : ℕ) (so_far : IsAdded first start payloads done rest base items at number) where
  -- the next payload
  module _ (payload : List ℕ) (others : List (List ℕ)) (next_is : rest ≡ payload ∷ others) where
    split : payloads ≡ done ++ payload ∷ others
    split = so_far.list_is ∙ ap (λ (l : List (List ℕ)). done ++ l) next_is

    -- its record ends no later than the list
    pub ends_within : at + 13 + length payload ≤ end_of_list start payloads
    ends_within =
        let far = ap (end_of_list start) split ∙ end_then start done (payload ∷ others) in
        omega (arith, far, so_far.place, end_later (end_of_list start done + HEAD + length payload) others)

    -- and its number comes no later
    pub counts_within : number + 1 ≤ first + length payloads
    counts_within = omega (arith, so_far.number_is, ap (length {A = List ℕ}) split, length-append done (payload ∷ others))

    -- it is an entry
    pub added_more : (e : Entry) (now : List Entry) (next : ℕ) → IsEntryOf number payload at (Ok e) → now ≡ items ++ e ∷ [] → next ≡ at + 13 + length payload
        → IsAdded first start payloads (done ++ payload ∷ []) others base now next (number + 1)
    added_more e now next is now_is next_at = record {
      list_is = split ∙ sym (append_assoc done (payload ∷ []) others);
      all = so_far.all ++ e ∷ [];
      read = read_more payload [] first start done so_far.all e so_far.read (subst (λ (n : ℕ). read_entry n payload ≡ Ok e) so_far.number_is is.0);
      items_are = now_is ∙ ap (λ (l : List Entry). l ++ e ∷ []) so_far.items_are ∙ append_assoc base so_far.all (e ∷ []);
      numbered = numbered_then first so_far.all (e ∷ []) so_far.numbered (omega (arith, is.1, so_far.number_is, so_far.count), tt);
      count = omega (arith, so_far.count, length-append so_far.all (e ∷ []), length-append done (payload ∷ []));
      wide = omega (arith, sum_by-append record_width so_far.all (e ∷ []), so_far.wide, is.2, next_at);
      place = omega (arith, next_at, so_far.place, end_more start done payload);
      number_is = omega (arith, so_far.number_is, length-append done (payload ∷ []));
    }

    -- or none
    pub added_fault : {T : Type 0} (P : List Entry → T → Type 0) (e : TransdbError) → IsEntryOf number payload at (Err e) → IsReadOf P (entries_from first start payloads) (Err e)
    added_fault P NoDatabase told = absurd told
    added_fault P (Damaged place) told =
        ap (entries_from first start) split
        ∙ read_fault payload others first start done so_far.all told.1.0 so_far.read (subst (λ (n : ℕ). read_entry n payload ≡ Err told.1.0) so_far.number_is told.1.1)
        ∙ ap Err (sym so_far.place ∙ sym told.0)
    added_fault P (Full need room) told = absurd told
    added_fault P NotClean told = absurd told
    added_fault P (Held mark last) told = absurd told
    added_fault P FaultBefore told = absurd told
    added_fault P (InDoubt n) told = absurd told
    added_fault P Fault told = absurd told
    added_fault P NoMemory told = tt

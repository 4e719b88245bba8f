-- The verdict by the age of the oldest read.
use Rattle.std.proofs.Common.{◌≡◌, ℕ, ◌+◌, ◌-◌, ◌<◌, ◌≤◌, Bool, true, false, nat_lt, List, [], drop, ap, sym, ◌∙◌, Option, Some, None, Ok, Err, if◌then◌else◌, arith}
use Rattle.std.proofs.lemmas.Bool.Decides.{nat_tests}
use Rattle.std.proofs.lemmas.List.Elements.{All-weaker}
use Rattle.odb_model.specs.declared.entry.Entry.{Entry}
use Rattle.odb_model.specs.declared.outcome.Read.{Read}
use Rattle.odb_model.specs.State.{IsNumberedFrom}
use Rattle.odb_model.specs.Transaction.{first_conflict}
use Rattle.odb_model.specs.Window.{oldest_number}
use Rattle.odb_validate.specs.Validation.{by_age, validated}
use Rattle.odb_validate.proofs.OldestReads.{oldest-unread, oldest-least}
use Rattle.odb_validate.proofs.Early.{first_conflict-early, first_conflict-unread}

pub by_age-below : (o n : ℕ) (c : Option ℕ) → o < n → by_age (Some o) n c ≡ Err (record { oldest = o; start = n })
by_age-below o n c below =
    ap (λ (b : Bool). if b then Err (record { oldest = o; start = n }) else Ok c) (test o n below)
  where
    test : (a b : ℕ) → a < b → nat_lt a b ≡ true
    test a b below = grind (arith, nat_tests)

pub by_age-above : (o n : ℕ) (c : Option ℕ) → n ≤ o → by_age (Some o) n c ≡ Ok c
by_age-above o n c above =
    ap (λ (b : Bool). if b then Err (record { oldest = o; start = n }) else Ok c) (test o n above)
  where
    test : (a b : ℕ) → b ≤ a → nat_lt a b ≡ false
    test a b above = grind (arith, nat_tests)

-- no read
pub validated-unread : (start : ℕ) (entries : List Entry) (reads : List Read) → oldest_number reads ≡ None → validated start entries reads ≡ Ok None
validated-unread start entries reads e =
    let unread : reads ≡ [] = oldest-unread reads e in
    ap (validated start entries) unread ∙ ap Ok (first_conflict-unread entries)

-- the oldest is too old
pub validated-below : (start : ℕ) (entries : List Entry) (reads : List Read) (o : ℕ) → oldest_number reads ≡ Some o → o < start → validated start entries reads ≡ Err (record { oldest = o; start = start })
validated-below start entries reads o e below =
    ap (λ q. by_age q start (first_conflict reads entries)) e ∙ by_age-below o start (first_conflict reads entries) below

-- it isn't, so that the entries up to it are skipped
pub validated-above : (start : ℕ) (entries : List Entry) (reads : List Read) (o : ℕ) → IsNumberedFrom (start + 1) entries → oldest_number reads ≡ Some o → start ≤ o → validated start entries reads ≡ Ok (first_conflict reads (drop (o - start) entries))
validated-above start entries reads o numbered e above =
    ap (λ q. by_age q start (first_conflict reads entries)) e
    ∙ by_age-above o start (first_conflict reads entries) above
    ∙ ap Ok (sym (first_conflict-early reads (o - start) start entries numbered
    (All-weaker (λ (r : Read). o ≤ r.number) (λ r. start + (o - start) ≤ r.number) (λ r f. omega arith) reads (oldest-least reads o e))))

-- The window of a history, as it grows, and what it answers.
use Rattle.std.proofs.Common.{◌≡◌, ℕ, ◌+◌, ◌<◌, ◌≤◌, max, Bool, ⊎_elim, List, [], ◌∷◌, ◌++◌, length, drop, refl, ap, sym, ◌∙◌, Option, Some, None, Ok, Err, All, length-append, length-drop, drop-drop, arith}
use Rattle.std.proofs.lemmas.List.{drop-append-le, drop_all}
use Rattle.std.proofs.lemmas.List.Elements.{All-weaker}
use Rattle.odb_model.specs.declared.entry.Entry.{Entry}
use Rattle.odb_model.specs.declared.outcome.Read.{Read}
use Rattle.odb_model.specs.State.{IsHistory}
use Rattle.odb_model.specs.Transaction.{first_conflict}
use Rattle.odb_model.specs.Window.{window_start, window_writes, oldest_number}
use Rattle.odb_validate.specs.Window.{Windowed, last_number, push, IsWindow}
use Rattle.odb_validate.specs.Validation.{by_age, validated}
use Rattle.odb_validate.proofs.Suffixes.{order, start_within-length, start_within-append, start_within-drop}
use Rattle.odb_validate.proofs.OldestReads.{oldest-unread, oldest-least, oldest-above}
use Rattle.odb_validate.proofs.Early.{first_conflict-early, first_conflict-unread}
use Rattle.odb_validate.proofs.Verdicts.{by_age-below, by_age-above}

-- the window of a history none of whose entries were pushed
pub IsWindow-begins : (h : List Entry) (reserved : Bool) → IsWindow (length h) h (record { start = length h; entries = []; is_reserved = reserved })
IsWindow-begins h reserved = record {
  opened = omega arith;
  start = omega (arith, start_within-length window_writes h);
  entries = sym (drop_all (length h) h (omega arith));
}

within : (since : ℕ) (h : List Entry) (w : Windowed) → IsWindow since h w → w.start ≤ length h
within since h w is = omega (arith, is.opened, is.start, start_within-length window_writes h)

pub IsWindow-last : (since : ℕ) (h : List Entry) (w : Windowed) → IsWindow since h w → last_number w ≡ length h
IsWindow-last since h w is =
    let inside : w.start ≤ length h = within since h w is in
    omega (arith, inside, ap length is.entries, length-drop w.start h)

pub IsWindow-push : (since : ℕ) (h : List Entry) (w : Windowed) (e : Entry) → IsWindow since h w → IsWindow since (h ++ e ∷ []) (push w e)
IsWindow-push since h w e is =
    let inside : w.start ≤ length h = within since h w is in
    let longer : length (h ++ e ∷ []) ≡ length h + 1 = length-append h (e ∷ []) in
    let gone : ℕ = window_start (w.entries ++ e ∷ []) in
    let rest : w.entries ++ e ∷ [] ≡ drop w.start (h ++ e ∷ []) =
    ap (λ (es : List Entry). es ++ e ∷ []) is.entries ∙ sym (drop-append-le w.start h (e ∷ []) inside) in
    let begins : w.start + gone ≡ max w.start (window_start (h ++ e ∷ [])) =
    ap (λ (es : List Entry). w.start + window_start es) rest
    ∙ start_within-drop window_writes (h ++ e ∷ []) w.start (omega (arith, inside, longer)) in
    record {
      opened = omega (arith, is.opened, longer);
      start = omega (arith, begins, is.start, start_within-append window_writes h (e ∷ []));
      entries = ap (drop gone) rest ∙ drop-drop gone w.start (h ++ e ∷ []);
    }

-- the verdict where the oldest read is known
judged-at : (since : ℕ) (h : List Entry) (w : Windowed) (reads : List Read) (o : ℕ) → IsHistory h → IsWindow since h w → All (λ r. o ≤ r.number) reads → since ≤ o → by_age (Some o) w.start (first_conflict reads w.entries) ≡ by_age (Some o) (window_start h) (first_conflict reads h)
judged-at since h w reads o history is least above = ⊎_elim
    (λ (below : o < w.start).
    let same : w.start ≡ window_start h = omega (arith, is.start) in
    by_age-below o w.start (first_conflict reads w.entries) below
    ∙ ap (λ n. Err (record { oldest = o; start = n })) same
    ∙ sym (by_age-below o (window_start h) (first_conflict reads h) (omega arith)))
    (λ (kept : w.start ≤ o).
    by_age-above o w.start (first_conflict reads w.entries) kept
    ∙ ap Ok (ap (first_conflict reads) is.entries
    ∙ first_conflict-early reads w.start 0 h history (All-weaker (λ (r : Read). o ≤ r.number) (λ r. 0 + w.start ≤ r.number) (λ r f. omega arith) reads least))
    ∙ sym (by_age-above o (window_start h) (first_conflict reads h) (omega (arith, is.start))))
    (order o w.start)

-- the window answers what the whole history does
pub IsWindow-judges : (since : ℕ) (h : List Entry) (w : Windowed) (reads : List Read) → IsHistory h → IsWindow since h w → All (λ r. since ≤ r.number) reads → validated w.start w.entries reads ≡ validated (window_start h) h reads
IsWindow-judges since h w reads history is above = by (oldest_number reads) refl
  where
    by : (q : Option ℕ) → oldest_number reads ≡ q → by_age q w.start (first_conflict reads w.entries) ≡ by_age q (window_start h) (first_conflict reads h)
    by None f =
        let unread : reads ≡ [] = oldest-unread reads f in
        let none : (es : List Entry) → first_conflict reads es ≡ None =
        λ es. ap (λ (rs : List Read). first_conflict rs es) unread ∙ first_conflict-unread es in
        ap Ok (none w.entries ∙ sym (none h))
    by (Some o) f = judged-at since h w reads o history is (oldest-least reads o f) (oldest-above reads since o above f)

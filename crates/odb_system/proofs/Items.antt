-- Entries and writes that are taken in one after another.
use Rattle.std.proofs.Common.{◌≡◌, ℕ, ◌+◌, ◌<◌, List, [], ◌∷◌, ◌++◌, take, length, get_or, sym, ap, subst, ◌∙◌}
use Rattle.std.specs.List.{All}
use Rattle.std.specs.FinMap.{empty}
use Rattle.std.proofs.lemmas.List.{take_more}
use Rattle.std.proofs.lemmas.List.Elements.{All-nil, All-cons, All-append}
use Rattle.odb_model.specs.declared.entry.Entry.{Entry}
use Rattle.odb_model.specs.State.{State, after_writes, replay}
use Rattle.odb_model.proofs.Replay.{replay_from-append}

-- the rows after one entry more
pub replay-item : (es : List Entry) (i : ℕ) (e : Entry) → i < length es → e ≡ get_or es i e → after_writes (replay (take i es)) e.writes ≡ replay (take (i + 1) es)
replay-item es i e within is =
    sym (ap replay (take_more es i e within ∙ ap (λ x. take i es ++ x ∷ []) (sym is)) ∙ replay_from-append empty (take i es) (e ∷ []))

-- what holds of the first items and of the next one holds of one more
pub all-item : {A : Type 0} (P : A → Type 0) (xs : List A) (i : ℕ) (x : A) → i < length xs → x ≡ get_or xs i x → P x → All P (take i xs) → All P (take (i + 1) xs)
all-item P xs i x within is p all =
    subst (All P) (sym (take_more xs i x within ∙ ap (λ y. take i xs ++ y ∷ []) (sym is))) (All-append P (take i xs) (x ∷ []) all (All-cons P x [] p (All-nil P)))

-- What the steps of a push make of a window.
use Rattle.std.proofs.Common.{◌≡◌, ℕ, suc, ◌+◌, ◌-◌, ◌<◌, ◌≤◌, Bool, false, List, [], ◌∷◌, ◌++◌, length, drop, refl, ap, sym, ◌∙◌, length-append, length-drop, arith}
use Rattle.std.proofs.lemmas.List.{drop-append-le, drop_all}
use Rattle.odb_model.specs.declared.entry.Entry.{Entry}
use Rattle.odb_model.specs.Window.{write_count, start_within, window_start, window_writes}
use Rattle.odb_validate.specs.Window.{Windowed, last_number, forget, put_last, push}
use Rattle.odb_validate.proofs.Suffixes.{start_within-whole, start_within-more, start_within-length, start_within-push, start_within-past}

-- windows with the same parts
pub same_windows : (v w : Windowed) → v.start ≡ w.start → v.entries ≡ w.entries → v.is_reserved ≡ w.is_reserved → v ≡ w
same_windows v w a b c = λ i. record { start = a i; entries = b i; is_reserved = c i }

-- where there are writes there is an entry
pub has_entry : (es : List Entry) (m : ℕ) → m < write_count es → 0 < length es
has_entry [] m more = omega arith
has_entry (e ∷ es) m more = omega arith

more-at : (es : List Entry) (m start : ℕ) (reserved : Bool) → m < write_count es → forget (record { start = start + 1; entries = drop 1 es; is_reserved = reserved }) (start_within m (drop 1 es)) ≡ forget (record { start = start; entries = es; is_reserved = reserved }) (start_within m es)
more-at [] m start reserved more = let none : ⊥ = omega arith in absurd none
more-at (e ∷ es) m start reserved more =
    let step : start_within m (e ∷ es) ≡ suc (start_within m es) = start_within-more m e es more in
    same_windows _ _ (omega (arith, step)) (ap (λ n. drop n (e ∷ es)) (sym step)) refl

-- the first entry goes
pub forget-more : (w : Windowed) (m : ℕ) → m < write_count w.entries → forget (forget w 1) (start_within m (forget w 1).entries) ≡ forget w (start_within m w.entries)
forget-more w m more = more-at w.entries m w.start w.is_reserved more

-- or none has to
pub forget-none : (w : Windowed) (m : ℕ) → write_count w.entries ≤ m → forget w (start_within m w.entries) ≡ w
forget-none w m within =
    let none : start_within m w.entries ≡ 0 = start_within-whole m w.entries within in
    same_windows _ _ (omega (arith, none)) (ap (λ n. drop n w.entries) none) refl

-- the numbers go on
pub last-forget : (w : Windowed) (m : ℕ) → last_number (forget w (start_within m w.entries)) ≡ last_number w
last-forget w m =
    omega (arith, start_within-length m w.entries, length-drop (start_within m w.entries) w.entries)

pub last-push : (w : Windowed) (e : Entry) → last_number (push w e) ≡ last_number w + 1
last-push w e =
    omega (arith, last-forget (put_last w e) window_writes, length-append w.entries (e ∷ []))

-- an entry that has room
pub push-room : (w : Windowed) (e : Entry) → length e.writes ≤ window_writes → put_last (forget w (start_within (window_writes - length e.writes) w.entries)) e ≡ push w e
push-room w e room =
    let n : ℕ = start_within (window_writes - length e.writes) w.entries in
    let same : window_start (w.entries ++ e ∷ []) ≡ n = start_within-push window_writes w.entries e room in
    same_windows _ _ (ap (λ k. w.start + k) (sym same))
    (sym (drop-append-le n w.entries (e ∷ []) (start_within-length (window_writes - length e.writes) w.entries))
    ∙ ap (λ k. drop k (w.entries ++ e ∷ [])) (sym same))
    refl

-- one that has none by itself
pub push-past : (w : Windowed) (e : Entry) → window_writes < length e.writes → e.number ≡ last_number w + 1 → (record { start = e.number; entries = []; is_reserved = false }) ≡ push w e
push-past w e past next =
    let all : window_start (w.entries ++ e ∷ []) ≡ length w.entries + 1 = start_within-past window_writes w.entries e past in
    same_windows _ _ (omega (arith, next, all))
    (sym (drop_all (window_start (w.entries ++ e ∷ [])) (w.entries ++ e ∷ []) (omega (arith, all, length-append w.entries (e ∷ [])))))
    refl

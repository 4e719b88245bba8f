-- Passes at the places of their sessions, where one place changes or one more comes.
use Rattle.std.proofs.Common.{◌≡◌, ℕ, zero, suc, ◌+◌, ◌<◌, List, [], ◌∷◌, ◌++◌, length, get_or, set, map, take, subst, sym, refl, ap, ◌∙◌, arith, false}
use Rattle.std.specs.Prelude.{◌-◌, ◌↔◌, Option, None, Some, is_some, IsNone, IfNone, IfSome, replicate, slice_get, option_map}
use Rattle.std.proofs.lemmas.List.{take_more, take_all, get_or-map, get_or-replicate, replicate_more, length-map, length-replicate, length-set, map-set, length_push, map_push}
use Rattle.std.proofs.lemmas.Option.{slice_get-map, slice_get-get_or}
use Rattle.odb_model.specs.declared.entry.Entry.{Entry}
use Rattle.odb_words.specs.declared.seats.Pass.{Pass}
use Rattle.odb_words.specs.Seats.{Name, name_of, list_of}
use Rattle.odb_words.specs.Passes.{SitsAt, SitFrom, list_in, HasNone, TakesFirst}

pub sits_at : (n : Name) (s : ℕ) (ps : List (Option Pass)) (i : ℕ) → SitFrom n s ps → i < length ps → SitsAt n (s + i) (get_or ps i None)
sits_at n s [] i sit lt = absurd (omega (arith, lt))
sits_at n s (p ∷ ps) zero sit lt = subst (λ (k : ℕ). SitsAt n k p) (omega arith) sit.0
sits_at n s (p ∷ ps) (suc i) sit lt = subst (λ (k : ℕ). SitsAt n k (get_or ps i None)) (omega arith) (sits_at n (s + 1) ps i sit.1 (omega (arith, lt)))

pub sits_set : (n : Name) (s : ℕ) (ps : List (Option Pass)) (i : ℕ) (p : Option Pass) → SitFrom n s ps → SitsAt n (s + i) p → SitFrom n s (set ps i p)
sits_set n s [] i p sit at = sit
sits_set n s (q ∷ ps) zero p sit at = (subst (λ (k : ℕ). SitsAt n k p) (omega arith) at, sit.1)
sits_set n s (q ∷ ps) (suc i) p sit at = (sit.0, sits_set n (s + 1) ps i p sit.1 (subst (λ (k : ℕ). SitsAt n k p) (omega arith) at))

pub sits_push : (n : Name) (s : ℕ) (ps : List (Option Pass)) (p : Option Pass) → SitFrom n s ps → SitsAt n (s + length ps) p → SitFrom n s (ps ++ p ∷ [])
sits_push n s [] p sit at = (subst (λ (k : ℕ). SitsAt n k p) (omega arith) at, tt)
sits_push n s (q ∷ ps) p sit at = (sit.0, sits_push n (s + 1) ps p sit.1 (subst (λ (k : ℕ). SitsAt n k p) (omega arith) at))

-- the places before the next one are free of passes
pub none_before : (ps : List (Option Pass)) (i : ℕ) → i < length ps → take i (map list_in ps) ≡ replicate i None → get_or ps i None ≡ None → take (i + 1) (map list_in ps) ≡ replicate (i + 1) None
none_before ps i lt is none =
    take_more (map list_in ps) i None (omega (arith, length-map ps list_in, lt))
    ∙ ap (λ (ys : List (Option (List Entry))). ys ++ get_or (map list_in ps) i None ∷ []) is
    ∙ ap (λ (y : Option (List Entry)). replicate i None ++ y ∷ []) (get_or-map list_in ps i None None lt ∙ ap list_in none)
    ∙ replicate_more i None

-- there is none where there is none before the end
pub none_at_all : (ps : List (Option Pass)) → take (length ps) (map list_in ps) ≡ replicate (length ps) None → map list_in ps ≡ replicate (length ps) None
none_at_all ps is = sym (take_all (length ps) (map list_in ps) (omega (arith, length-map ps list_in))) ∙ is

-- where there is none, none is at any place
pub none_there : (ps : List (Option Pass)) (n i : ℕ) → map list_in ps ≡ replicate n None → i < n → list_in (get_or ps i None) ≡ None
none_there ps n i is lt =
    let no : Option (List Entry) = None in
    let size : length ps ≡ n = omega (arith, length-map ps list_in, ap length is, length-replicate n no) in
    sym (get_or-map list_in ps i None None (omega (arith, size, lt))) ∙ ap (λ (xs : List (Option (List Entry))). get_or xs i None) is ∙ get_or-replicate n i None None lt

-- what taking the first pass out says of its name, its session and the lists
pub take_tells : (n : Name) (old new : List (Option Pass)) (pass : Pass) → SitFrom n 1 old → TakesFirst old new pass
    → (name_of pass.place ≡ n)
    × (take (pass.session - 1) (map list_in old) ≡ replicate (pass.session - 1) None)
    × (slice_get (map list_in old) (pass.session - 1) ≡ Some (Some (list_of pass.place)))
    × (map list_in new ≡ set (map list_in old) (pass.session - 1) None)
take_tells n old new pass sit t =
    let at : SitsAt n (1 + t.0) (Some pass) = subst (SitsAt n (1 + t.0)) t.2 (sits_at n 1 old t.0 sit t.1) in
    let place : t.0 ≡ pass.session - 1 = omega (arith, at.0) in (
      at.1,
      subst (λ (k : ℕ). take k (map list_in old) ≡ replicate k None) place t.3,
      subst (λ (k : ℕ). slice_get (map list_in old) k ≡ Some (Some (list_of pass.place))) place (slice_get-map list_in old t.0 ∙ ap (option_map list_in) (slice_get-get_or old t.0 None t.1 ∙ ap (λ (o : Option Pass). Some o) t.2)),
      subst (λ (k : ℕ). map list_in new ≡ set (map list_in old) k None) place (ap (map list_in) t.4 ∙ map-set list_in old t.0 None),
    )

-- the passes that are left stand where they stood
pub left_sit : (n : Name) (old new : List (Option Pass)) (pass : Pass) → SitFrom n 1 old → TakesFirst old new pass → SitFrom n 1 new
left_sit n old new pass sit t = subst (SitFrom n 1) (sym t.4) (sits_set n 1 old t.0 None sit tt)

pub left_size : (old new : List (Option Pass)) (pass : Pass) → TakesFirst old new pass → length new ≡ length old
left_size old new pass t = ap length t.4 ∙ length-set old t.0 None

-- none is taken exactly where none is there
pub none_exactly : (old new : List (Option Pass)) (r : Option Pass) → length old ≡ 64 → IfNone r (HasNone old) → IfSome r (TakesFirst old new) → IsNone r ↔ (map list_in old ≡ replicate 64 None)
none_exactly old new None size a b = ((λ _. a ∙ ap (λ (k : ℕ). replicate k None) size), (λ _. refl))
none_exactly old new (Some pass) size a b = ((λ e. absurd (cc e)), (λ is. absurd (cc (sym (ap list_in b.2) ∙ none_there old 64 b.0 is (omega (arith, b.1, size))))))

-- the next place, where this one was found free of a pass
pub none_step : (ps : List (Option Pass)) (i : ℕ) (x : Option Pass) → i < length ps → x ≡ get_or ps i x → is_some x ≡ false → take i (map list_in ps) ≡ replicate i None → take (i + 1) (map list_in ps) ≡ replicate (i + 1) None
none_step ps i None lt at empty is = none_before ps i lt is (sym at)
none_step ps i (Some pass) lt at empty is = absurd (cc empty)

-- what stays of the places, whether a pass was taken or not
pub after_take : (n : Name) (old new : List (Option Pass)) (r : Option Pass) → IfNone r (new ≡ old) → IfSome r (TakesFirst old new) → (length old ≡ 64) × SitFrom n 1 old → (length new ≡ 64) × SitFrom n 1 new
after_take n old new None a b inv = subst (λ (ps : List (Option Pass)). (length ps ≡ 64) × SitFrom n 1 ps) (sym a) inv
after_take n old new (Some pass) a b inv = (left_size old new pass b ∙ inv.0, left_sit n old new pass inv.1 b)

-- one more pass of an empty list
pub pushed : (n : Name) (old new : List (Option Pass)) (pass : Pass) (session : ℕ) → new ≡ old ++ Some pass ∷ [] → SitFrom n 1 old → map list_in old ≡ replicate (length old) (Some [])
    → length old + 1 ≡ session → pass.session ≡ session → name_of pass.place ≡ n → list_of pass.place ≡ []
    → (length new + 1 ≡ session + 1) × SitFrom n 1 new × (map list_in new ≡ replicate (length new) (Some []))
pushed n old new pass session push sit lists size own name empty =
    let more : length new ≡ length old + 1 = ap length push ∙ length_push old (Some pass) in (
      omega (arith, more, size),
      subst (SitFrom n 1) (sym push) (sits_push n 1 old (Some pass) sit (omega (arith, own, size), name)),
      ap (map list_in) push
          ∙ map_push list_in old (Some pass)
          ∙ ap (λ (ys : List (Option (List Entry))). ys ++ Some (list_of pass.place) ∷ []) lists
          ∙ ap (λ (l : List Entry). replicate (length old) (Some []) ++ Some l ∷ []) empty
          ∙ replicate_more (length old) (Some [])
          ∙ ap (λ (k : ℕ). replicate k (Some [])) (sym more),
    )

-- Putting images one behind another, as the code does.
use Rattle.std.proofs.Common.{◌≡◌, ℕ, ◌+◌, ◌<◌, ◌≤◌, List, [], ◌∷◌, ◌++◌, length, take, get_or, Option, Some, None, sym, ap, subst, ◌∙◌, append_assoc}
use Rattle.std.specs.Int.{w16, w32, to_be_bytes}
use Rattle.std.specs.List.{All, flat_map}
use Rattle.std.proofs.lemmas.List.{take_more, take_all, flat_map_more}
use Rattle.std.proofs.lemmas.List.Elements.{All-more}
use Rattle.odb_values.specs.declared.value.Value.{Value}
use Rattle.odb_values.specs.Key.{width_of_all}
use Rattle.odb_model.specs.declared.write.Write.{Write}
use Rattle.odb_model.specs.declared.entry.Entry.{Entry}
use Rattle.odb_codec.specs.Image.{counted, values_image, change_image, write_image, entry_image}
use Rattle.odb_codec.proofs.Agree.{length-values_image}

-- a loop puts the image of the next item
pub image_more : {X : Type 0} (f : X → List ℕ) (front old new : List ℕ) (xs : List X) (i : ℕ) (x : X) → i < length xs → x ≡ get_or xs i x → old ≡ front ++ flat_map f (take i xs) → new ≡ old ++ f x → new ≡ front ++ flat_map f (take (i + 1) xs)
image_more f front old new xs i x lt is so_far put =
    let next : take i xs ++ x ∷ [] ≡ take (i + 1) xs = ap (λ y. take i xs ++ y ∷ []) is ∙ sym (take_more xs i x lt) in
    put ∙ ap (λ (o : List ℕ). o ++ f x) so_far ∙ flat_map_more f front (take i xs) x ∙ ap (λ ys. front ++ flat_map f ys) next

pub all_more : {X : Type 0} (P : X → Type 0) (xs : List X) (i : ℕ) (x : X) → i < length xs → x ≡ get_or xs i x → All P (take i xs) → P x → All P (take (i + 1) xs)
all_more P xs i x lt is so_far here = All-more P xs i x lt so_far (subst P is here)

pub counted_put : (old mid new : List ℕ) (n : ℕ) (vs : List Value) → n ≡ width_of_all vs → mid ≡ old ++ to_be_bytes w16 n → new ≡ mid ++ values_image vs → new ≡ old ++ counted (values_image vs)
unfolding counted
counted_put old mid new n vs width first second =
    let len : n ≡ length (values_image vs) = width ∙ sym (length-values_image vs) in
    second ∙ ap (λ (m : List ℕ). m ++ values_image vs) (first ∙ ap (λ k. old ++ to_be_bytes w16 k) len) ∙ append_assoc old (to_be_bytes w16 (length (values_image vs))) (values_image vs)

gathered : (o b t k c : List ℕ) → (((o ++ b) ++ t) ++ k) ++ c ≡ o ++ (b ++ t ++ k ++ c)
gathered o b t k c = simp append_assoc

pub write_put : (w : Write) (o a b k new : List ℕ) → a ≡ o ++ to_be_bytes w32 w.bank → b ≡ a ++ to_be_bytes w32 w.table → k ≡ b ++ counted (values_image w.key) → new ≡ k ++ change_image w.row → new ≡ o ++ write_image w
unfolding write_image
write_put w o a b k new bank table key change =
    change
    ∙ ap (λ (x : List ℕ). x ++ change_image w.row) (key ∙ ap (λ (x : List ℕ). x ++ counted (values_image w.key)) (table ∙ ap (λ (x : List ℕ). x ++ to_be_bytes w32 w.table) bank))
    ∙ gathered o (to_be_bytes w32 w.bank) (to_be_bytes w32 w.table) (counted (values_image w.key)) (change_image w.row)

pub deletion_put : (row : Option (List Value)) (k new : List ℕ) → row ≡ None → new ≡ k ++ 0 ∷ [] → new ≡ k ++ change_image row
unfolding change_image
deletion_put row k new is put = put ∙ ap (λ (r : Option (List Value)). k ++ change_image r) (sym is)

pub row_put : (row : Option (List Value)) (vs : List Value) (k mid new : List ℕ) → row ≡ Some vs → mid ≡ k ++ 1 ∷ [] → new ≡ mid ++ counted (values_image vs) → new ≡ k ++ change_image row
unfolding change_image
row_put row vs k mid new is flag put =
    put
    ∙ ap (λ (x : List ℕ). x ++ counted (values_image vs)) flag
    ∙ append_assoc k (1 ∷ []) (counted (values_image vs))
    ∙ ap (λ (r : Option (List Value)). k ++ change_image r) (sym is)

pub entry_put : (e : Entry) (ws : List Write) (i : ℕ) (out : List ℕ) → ws ≡ e.writes → length ws ≤ i → out ≡ (e.by ∷ []) ++ to_be_bytes w16 (length ws) ++ flat_map write_image (take i ws) → out ≡ entry_image e
unfolding entry_image
entry_put e ws i out is all so_far =
    so_far
    ∙ ap (λ (xs : List Write). (e.by ∷ []) ++ to_be_bytes w16 (length ws) ++ flat_map write_image xs) (take_all i ws all)
    ∙ ap (λ (xs : List Write). (e.by ∷ []) ++ to_be_bytes w16 (length xs) ++ flat_map write_image xs) is

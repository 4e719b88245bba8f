-- Entries and their images, one by one.
use Rattle.std.proofs.Common.{◌≡◌, ℕ, zero, suc, ◌+◌, ◌<◌, List, [], ◌∷◌, ◌++◌, length, take, drop, Result, Ok, Err, refl, sym, ◌∙◌, ap, subst, arith, get_or}
use Rattle.std.specs.Prelude.{map, sum_by}
use Rattle.std.proofs.lemmas.List.{take_more}
use Rattle.std.specs.List.{AllByRecursion}
use Rattle.std.proofs.lemmas.List.Sums.{sum_by-cons}
use Rattle.odb_reclog.specs.Records.{HEAD, end_of_list}
use Rattle.odb_codec.specs.Reading.{read_entry}
use Rattle.odb_codec.specs.Image.{HasImage, entry_image, numbered}
use Rattle.odb_codec.proofs.Entries.{entry_again}
use Rattle.odb_codec.proofs.Lengths.{length-entry_image}
use Rattle.odb_entries.specs.Listed.{one_more, read_first, entries_from}
use Rattle.odb_model.specs.declared.entry.Entry.{Entry}
use Rattle.odb_model.specs.State.{IsNumberedFrom}
use Rattle.odb_model.specs.Width.{record_width, records_width}

-- a first payload that is an entry, and the entries of the rest
record Begins (first : Result Entry ℕ) (rest : Result (List Entry) ℕ) (entries : List Entry) : Type 0 where
  head : Entry
  tail : List Entry
  is : first ≡ Ok head
  others : rest ≡ Ok tail
  both : entries ≡ head ∷ tail

begins_read : (place : ℕ) (first : Result Entry ℕ) (rest : Result (List Entry) ℕ) (entries : List Entry) → read_first place first rest ≡ Ok entries → Begins first rest entries
begins_read place (Ok e) (Ok tail) entries is = let same : e ∷ tail ≡ entries = cc is in record { head = e; tail = tail; is = refl; others = refl; both = sym same }
begins_read place (Ok e) (Err at) entries is = absurd (cc is)
begins_read place (Err left) rest entries is = absurd (cc is)

-- those of a payload and of the rest
cons_read : (number place : ℕ) (payload : List ℕ) (rest : List (List ℕ)) (head : Entry) (tail : List Entry) → read_entry number payload ≡ Ok head → entries_from (number + 1) (place + HEAD + length payload) rest ≡ Ok tail
    → entries_from number place (payload ∷ rest) ≡ Ok (head ∷ tail)
cons_read number place payload rest head tail one more =
    ap (λ (r : Result Entry ℕ). read_first place r (entries_from (number + 1) (place + HEAD + length payload) rest)) one ∙ ap (one_more head) more

-- the place of the records doesn't matter to entries that are read
pub place_any : (number p q : ℕ) (payloads : List (List ℕ)) (entries : List Entry) → entries_from number p payloads ≡ Ok entries → entries_from number q payloads ≡ Ok entries
place_any number p q [] entries is = is
place_any number p q (payload ∷ rest) entries is =
    let b = begins_read p (read_entry number payload) (entries_from (number + 1) (p + HEAD + length payload) rest) entries is in
    cons_read number q payload rest b.head b.tail b.is (place_any (number + 1) (p + HEAD + length payload) (q + HEAD + length payload) rest b.tail b.others) ∙ ap Ok (sym b.both)

-- those behind the first so many
pub read_drop : (k number p q : ℕ) (payloads : List (List ℕ)) (entries : List Entry) → entries_from number p payloads ≡ Ok entries → entries_from (number + k) q (drop k payloads) ≡ Ok (drop k entries)
read_drop zero number p q payloads entries is =
    let same : number ≡ number + 0 = omega arith in
    subst (λ (n : ℕ). entries_from n q payloads ≡ Ok entries) same (place_any number p q payloads entries is)
read_drop (suc k) number p q [] entries is =
    let none : [] ≡ entries = cc is in
    ap (λ (l : List Entry). Ok (drop (suc k) l)) none
read_drop (suc k) number p q (payload ∷ rest) entries is =
    let b = begins_read p (read_entry number payload) (entries_from (number + 1) (p + HEAD + length payload) rest) entries is in
    let same : number + 1 + k ≡ number + suc k = omega arith in
    subst (λ (n : ℕ). entries_from n q (drop k rest) ≡ Ok (drop k b.tail)) same (read_drop k (number + 1) (p + HEAD + length payload) q rest b.tail b.others)
    ∙ ap (λ (l : List Entry). Ok (drop (suc k) l)) (sym b.both)

-- one item more
take_by_drop : {X : Type 0} (k : ℕ) (xs : List X) (x : X) (rest : List X) → drop k xs ≡ x ∷ rest → take (k + 1) xs ≡ take k xs ++ x ∷ []
take_by_drop zero xs x rest is = ap (take 1) is
take_by_drop (suc k) [] x rest is = absurd (cc is)
take_by_drop (suc k) (y ∷ ys) x rest is =
    let same : suc k + 1 ≡ suc (k + 1) = omega arith in
    ap (λ n. take n (y ∷ ys)) same ∙ ap (λ l. y ∷ l) (take_by_drop k ys x rest is)

pub record IsNext (number k : ℕ) (payload : List ℕ) (entries : List Entry) : Type 0 where
  pub one : Entry
  pub is : read_entry (number + k) payload ≡ Ok one
  pub more : take (k + 1) entries ≡ take k entries ++ one ∷ []

pub next_read : (k number p : ℕ) (payloads : List (List ℕ)) (entries : List Entry) (payload : List ℕ) (rest : List (List ℕ)) → entries_from number p payloads ≡ Ok entries → drop k payloads ≡ payload ∷ rest
    → IsNext number k payload entries
next_read k number p payloads entries payload rest is next =
    let here : entries_from (number + k) 0 (payload ∷ rest) ≡ Ok (drop k entries) = subst (λ (l : List (List ℕ)). entries_from (number + k) 0 l ≡ Ok (drop k entries)) next (read_drop k number p 0 payloads entries is) in
    let b = begins_read 0 (read_entry (number + k) payload) (entries_from (number + k + 1) (0 + HEAD + length payload) rest) (drop k entries) here in
    record { one = b.head; is = b.is; more = take_by_drop k entries b.head b.tail b.both }

-- where a list of records ends, with one record more
pub end_more : (k place : ℕ) (payloads : List (List ℕ)) (payload : List ℕ) (rest : List (List ℕ)) → drop k payloads ≡ payload ∷ rest → end_of_list place (take (k + 1) payloads) ≡ end_of_list place (take k payloads) + HEAD + length payload
end_more k place payloads payload rest next = ap (end_of_list place) (take_by_drop k payloads payload rest next) ∙ by_end place (take k payloads) payload
  where
    by_end : (place : ℕ) (done : List (List ℕ)) (payload : List ℕ) → end_of_list place (done ++ payload ∷ []) ≡ end_of_list place done + HEAD + length payload
    by_end place [] payload = refl
    by_end place (first ∷ others) payload = by_end (place + HEAD + length first) others payload

-- the images of numbered entries are read as they, and those of any as some
pub any_read : (number place : ℕ) (entries : List Entry) → AllByRecursion HasImage entries → (given : List Entry) × (entries_from number place (map entry_image entries) ≡ Ok given)
any_read number place [] all = ([], refl)
any_read number place (e ∷ es) all =
    let rest = any_read (number + 1) (place + HEAD + length (entry_image e)) es all.1 in
    (numbered number e ∷ rest.0, cons_read number place (entry_image e) (map entry_image es) (numbered number e) rest.0 (entry_again number e all.0) rest.1)

pub images_read : (number place : ℕ) (entries : List Entry) → AllByRecursion HasImage entries → IsNumberedFrom number entries → entries_from number place (map entry_image entries) ≡ Ok entries
images_read number place [] all is = refl
images_read number place (e ∷ es) all is =
    let same : numbered number e ≡ e = ap (λ (n : ℕ). numbered n e) (sym is.0) in
    cons_read number place (entry_image e) (map entry_image es) e es (entry_again number e all.0 ∙ ap Ok same) (images_read (number + 1) (place + HEAD + length (entry_image e)) es all.1 is.1)

-- and their records are as wide as the entries say
pub images_end : (k place : ℕ) (entries : List Entry) → end_of_list place (take k (map entry_image entries)) ≡ place + records_width (take k entries)
images_end zero place entries = omega arith
images_end (suc k) place [] = omega arith
images_end (suc k) place (e ∷ es) =
    let further : end_of_list (place + HEAD + length (entry_image e)) (take k (map entry_image es)) ≡ place + HEAD + length (entry_image e) + records_width (take k es) = images_end k (place + HEAD + length (entry_image e)) es in
    let wide : sum_by record_width (e ∷ take k es) ≡ record_width e + sum_by record_width (take k es) = sum_by-cons record_width e (take k es) in
    let step : place + HEAD + length (entry_image e) + records_width (take k es) ≡ place + records_width (e ∷ take k es) = omega (arith, wide, length-entry_image e) in
    further ∙ step

-- one image more
pub images_more : (entries : List Entry) (k : ℕ) (e : Entry) (images : List (List ℕ)) (image : List ℕ) → k < length entries → e ≡ get_or entries k e → images ≡ map entry_image (take k entries) → image ≡ entry_image e
    → images ++ image ∷ [] ≡ map entry_image (take (k + 1) entries)
images_more entries k e images image within is before one =
    let more : take (k + 1) entries ≡ take k entries ++ e ∷ [] = take_more entries k e within ∙ ap (λ (x : Entry). take k entries ++ x ∷ []) (sym is) in
    ap (λ (l : List (List ℕ)). l ++ image ∷ []) before ∙ ap (λ (x : List ℕ). map entry_image (take k entries) ++ x ∷ []) one ∙ sym (by_map (take k entries) e) ∙ ap (map entry_image) (sym more)
  where
    by_map : (es : List Entry) (e : Entry) → map entry_image (es ++ e ∷ []) ≡ map entry_image es ++ entry_image e ∷ []
    by_map [] e = refl
    by_map (x ∷ xs) e = ap (λ (l : List (List ℕ)). entry_image x ∷ l) (by_map xs e)

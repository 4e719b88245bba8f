-- What the payloads of a list are the images of.
use Rattle.std.proofs.Common.{◌≡◌, ℕ, zero, suc, ◌+◌, take, List, [], ◌∷◌, ◌++◌, length, Result, Ok, Err, refl, sym, ◌∙◌, ap, subst, arith}
use Rattle.odb_reclog.specs.Records.{HEAD, end_of_list}
use Rattle.odb_codec.specs.Reading.{read_entry}
use Rattle.odb_model.specs.declared.entry.Entry.{Entry}
use Rattle.odb_transdb.specs.Opened.{one_more, read_first, entries_from}

-- a first payload that is an entry, and the entries of the rest
record Begins (first : Result Entry ℕ) (rest : Result (List Entry) ℕ) (entries : List Entry) : Type 0 where
  head : Entry
  tail : List Entry
  is : first ≡ Ok head
  others : rest ≡ Ok tail
  both : entries ≡ head ∷ tail

begins_read : (place : ℕ) (first : Result Entry ℕ) (rest : Result (List Entry) ℕ) (entries : List Entry) → read_first place first rest ≡ Ok entries → Begins first rest entries
begins_read place (Ok e) (Ok tail) entries is = let same : e ∷ tail ≡ entries = cc is in record { head = e; tail = tail; is = refl; others = refl; both = sym same }
begins_read place (Ok e) (Err at) entries is = absurd (cc is)
begins_read place (Err left) rest entries is = absurd (cc is)

-- there are as many entries as payloads
pub count_read : (number place : ℕ) (payloads : List (List ℕ)) (entries : List Entry) → entries_from number place payloads ≡ Ok entries → length entries ≡ length payloads
count_read number place [] entries is = let same : entries ≡ [] = cc is in ap length same
count_read number place (payload ∷ rest) entries is =
    let b = begins_read place (read_entry number payload) (entries_from (number + 1) (place + HEAD + length payload) rest) entries is in
    let more = count_read (number + 1) (place + HEAD + length payload) rest b.tail b.others in
    omega (arith, ap length b.both)

-- a list that is read whole goes on, behind its front, with the entry that comes next
pub read_split : (payload : List ℕ) (rest : List (List ℕ)) (number place : ℕ) (done : List (List ℕ)) (front all : List Entry) (e : Entry) → entries_from number place done ≡ Ok front → read_entry (number + length done) payload ≡ Ok e
    → entries_from number place (done ++ payload ∷ rest) ≡ Ok all → (more : List Entry) × (all ≡ front ++ e ∷ more)
read_split payload rest number place [] front all e is one whole =
    let b = begins_read place (read_entry number payload) (entries_from (number + 1) (place + HEAD + length payload) rest) all whole in
    let none : front ≡ [] = cc is in
    let same : number + length {A = List ℕ} [] ≡ number = omega arith in
    let here : read_entry number payload ≡ Ok e = subst (λ (n : ℕ). read_entry n payload ≡ Ok e) same one in
    let head : b.head ≡ e = cc (b.is, here) in
    (b.tail, b.both ∙ ap (λ (x : Entry). x ∷ b.tail) head ∙ ap (λ (l : List Entry). l ++ e ∷ b.tail) (sym none))
read_split payload rest number place (first ∷ others) front all e is one whole =
    let next : ℕ = place + HEAD + length first in
    let b = begins_read place (read_entry number first) (entries_from (number + 1) next others) front is in
    let w = begins_read place (read_entry number first) (entries_from (number + 1) next (others ++ payload ∷ rest)) all whole in
    let count : number + length (first ∷ others) ≡ number + 1 + length others = omega arith in
    let deeper = read_split payload rest (number + 1) next others b.tail w.tail e b.others (subst (λ (n : ℕ). read_entry n payload ≡ Ok e) count one) w.others in
    let head : w.head ≡ b.head = cc (w.is, b.is) in
    (deeper.0, w.both ∙ ap (λ (x : Entry). x ∷ w.tail) head ∙ ap (λ (l : List Entry). b.head ∷ l) deeper.1 ∙ ap (λ (l : List Entry). l ++ e ∷ deeper.0) (sym b.both))

-- the first of them are the images of the first entries
pub read_front : (m number place : ℕ) (payloads : List (List ℕ)) (entries : List Entry) → entries_from number place payloads ≡ Ok entries → entries_from number place (take m payloads) ≡ Ok (take m entries)
read_front zero number place payloads entries is = refl
read_front (suc m) number place [] entries is = let none : entries ≡ [] = cc is in ap (λ (l : List Entry). Ok (take (suc m) l)) (sym none)
read_front (suc m) number place (payload ∷ rest) entries is =
    let next : ℕ = place + HEAD + length payload in
    let b = begins_read place (read_entry number payload) (entries_from (number + 1) next rest) entries is in
    let deeper = read_front m (number + 1) next rest b.tail b.others in
    ap (λ (r : Result Entry ℕ). read_first place r (entries_from (number + 1) next (take m rest))) b.is ∙ ap (one_more b.head) deeper ∙ ap (λ (l : List Entry). Ok (take (suc m) l)) (sym b.both)

-- one payload more
module _ (payload : List ℕ) (rest : List (List ℕ)) where
  pub read_more : (number place : ℕ) (done : List (List ℕ)) (entries : List Entry) (e : Entry) → entries_from number place done ≡ Ok entries → read_entry (number + length done) payload ≡ Ok e
      → entries_from number place (done ++ payload ∷ []) ≡ Ok (entries ++ e ∷ [])
  read_more number place [] entries e is one =
      let none : entries ≡ [] = cc is in
      let same : number + length {A = List ℕ} [] ≡ number = omega arith in
      ap (λ (r : Result Entry ℕ). read_first place r (Ok [])) (subst (λ (n : ℕ). read_entry n payload ≡ Ok e) same one) ∙ ap (λ (l : List Entry). Ok (l ++ e ∷ [])) (sym none)
  read_more number place (first ∷ others) entries e is one =
      let b = begins_read place (read_entry number first) (entries_from (number + 1) (place + HEAD + length first) others) entries is in
      let count : number + length (first ∷ others) ≡ number + 1 + length others = omega arith in
      let deeper = read_more (number + 1) (place + HEAD + length first) others b.tail e b.others (subst (λ (n : ℕ). read_entry n payload ≡ Ok e) count one) in
      ap (λ (r : Result Entry ℕ). read_first place r (entries_from (number + 1) (place + HEAD + length first) (others ++ payload ∷ []))) b.is
      ∙ ap (one_more b.head) deeper ∙ ap (λ (l : List Entry). Ok (l ++ e ∷ [])) (sym b.both)

  -- or one that is no image
  pub read_fault : (number place : ℕ) (done : List (List ℕ)) (entries : List Entry) (left : ℕ) → entries_from number place done ≡ Ok entries → read_entry (number + length done) payload ≡ Err left
      → entries_from number place (done ++ payload ∷ rest) ≡ Err (end_of_list place done)
  read_fault number place [] entries left is one =
      let same : number + length {A = List ℕ} [] ≡ number = omega arith in
      ap (λ (r : Result Entry ℕ). read_first place r (entries_from (number + 1) (place + HEAD + length payload) rest)) (subst (λ (n : ℕ). read_entry n payload ≡ Err left) same one)
  read_fault number place (first ∷ others) entries left is one =
      let b = begins_read place (read_entry number first) (entries_from (number + 1) (place + HEAD + length first) others) entries is in
      let count : number + length (first ∷ others) ≡ number + 1 + length others = omega arith in
      let deeper = read_fault (number + 1) (place + HEAD + length first) others b.tail left b.others (subst (λ (n : ℕ). read_entry n payload ≡ Err left) count one) in
      ap (λ (r : Result Entry ℕ). read_first place r (entries_from (number + 1) (place + HEAD + length first) (others ++ payload ∷ rest))) b.is ∙ ap (one_more b.head) deeper

-- How many different keys there are among writes.
use Rattle.std.proofs.Common.{◌≡◌, ℕ, ◌+◌, ◌<◌, ◌≤◌, Bool, true, false, cond, nat_lt, List, [], ◌∷◌, ◌++◌, map, length, refl, sym, ap, subst, ◌∙◌, arith}
use Rattle.std.specs.FinMap.{FinMap, empty, insert, entries, len, contains_key, len-empty, len-entries, len-insert}
use Rattle.std.specs.List.Sorted.{IsStrictlySortedBy}
use Rattle.std.proofs.lemmas.Bool.Decides.{nat_tests}
use Rattle.std.proofs.lemmas.List.{length-map, map-append, length-append}
use Rattle.odb_model.specs.declared.write.Write.{Write}
use Rattle.odb_model.specs.declared.table_key.TableKey.{TableKey}
use Rattle.odb_model.specs.State.{table_key_cmp, table_key_of}
use Rattle.odb_model.specs.Meaning.{all_of, different, most_writes}
use Rattle.odb_model.specs.Transaction.{last_from, last_writes, table_keys}
use Rattle.odb_model.proofs.Replay.{table_key_cmp_total}
use Rattle.odb_model.proofs.Keys.{length-last_writes}
use Rattle.odb_plain.specs.Net.{by_table_key}
use Rattle.odb_plain.proofs.Maps.{entries-from_ordered}

one_at_most : (b : Bool) (n : ℕ) → cond b n (n + 1) ≤ n + 1
one_at_most true n = omega arith
one_at_most false n = omega arith

length-all_of : (found : FinMap table_key_cmp (Unit {0})) (ps : List TableKey) → len (all_of found ps) ≤ len found + length ps
length-all_of found [] = omega arith
length-all_of found (p ∷ ps) =
    let rest : len (all_of (insert found p tt) ps) ≤ len (insert found p tt) + length ps = length-all_of (insert found p tt) ps in
    let one : len (insert found p tt) ≤ len found + 1 = subst (λ (n : ℕ). n ≤ len found + 1) (sym (len-insert table_key_cmp_total found p tt)) (one_at_most (contains_key found p) (len found)) in
    omega arith

-- there are no more different ones than there are
different-le : (ps : List TableKey) → different ps ≤ length ps
different-le ps =
    let all : len (all_of empty ps) ≤ len (empty {X = Unit {0}} {R = table_key_cmp}) + length ps = length-all_of empty ps in
    omega (arith, len-entries (all_of empty ps), len-empty table_key_cmp (Unit {0}))

not_above : (a b : ℕ) → b ≤ a → nat_lt a b ≡ false
not_above a b h = grind (arith, nat_tests)

-- where there are no more writes than keys allowed, there are not too many
pub few_enough : (write_set ws : List Write) → length write_set + length ws ≤ 4096 → nat_lt most_writes (different (table_keys write_set ++ map table_key_of ws)) ≡ false
few_enough write_set ws few =
    let most = different-le (table_keys write_set ++ map table_key_of ws) in
    not_above most_writes _ (omega (arith, length-append (table_keys write_set) (map table_key_of ws), length-map write_set table_key_of, length-map ws table_key_of))

last_from-append : (m : FinMap table_key_cmp Write) (ws vs : List Write) → last_from m (ws ++ vs) ≡ last_from (last_from m ws) vs
last_from-append m [] vs = refl
last_from-append m (w ∷ ws) vs = last_from-append (insert m (table_key_of w) w) ws vs

-- the last writes with some more, counted
pub length-more : (write_set ws : List Write) (es : List (TableKey × Write)) → IsStrictlySortedBy table_key_cmp (map (λ e. e.0) es) → by_table_key es ≡ last_from (last_writes write_set) ws
    → length es ≡ different (table_keys write_set ++ map table_key_of ws)
length-more write_set ws es ordered last =
    ap length (sym (entries-from_ordered es ordered) ∙ ap entries (last ∙ sym (last_from-append empty write_set ws)))
    ∙ length-last_writes (write_set ++ ws) ∙ ap different (map-append table_key_of write_set ws)

-- The range of a WHERE: which keys a statement with it reads. The rule is this project's own.
use Rattle.std.specs.Prelude.{ℕ, ◌==◌, ◌&&◌, Bool, true, false, List, [], ◌∷◌, ◌++◌, length, map, filter, find, Option, Some, None, option_map, slice_get, if◌then◌else◌}
use Rattle.std.specs.Ordering.{is_lt, is_gt}
use Rattle.odb_values.specs.declared.value.Value.{Value}
use Rattle.odb_values.specs.declared.edge.Edge.{Edge}
use Rattle.odb_values.specs.declared.edge.Edge.TheVariants.{Free, Closed, Beyond}
use Rattle.odb_values.specs.declared.range.Range.{Range}
use Rattle.odb_values.specs.Value.{is_null, value_cmp}
use Rattle.odb_model.specs.declared.predicate.Compare.{Compare}
use Rattle.odb_model.specs.declared.predicate.Compare.TheVariants.{Eq, Ne, Lt, Le, Gt, Ge}
use Rattle.odb_model.specs.declared.predicate.Operand.{Operand}
use Rattle.odb_model.specs.declared.predicate.Operand.TheVariants.{Column as ColumnOf, Literal}
use Rattle.odb_model.specs.declared.predicate.Predicate.{Predicate, fold-Predicate}
use Rattle.odb_model.specs.declared.predicate.Predicate.TheOpen.{Predicate-F}
use Rattle.odb_model.specs.Table.{Column, Table, column_place}

-- a comparison of a column, by its place, with a value that isn't Null
pub record ColumnTest : Type 0 where
  pub place : ℕ
  pub op : Compare
  pub value : Value

-- the comparison with its sides exchanged
abbrev pub flipped : Compare → Compare
flipped Eq = Eq
flipped Ne = Ne
flipped Lt = Gt
flipped Le = Ge
flipped Gt = Lt
flipped Ge = Le

abbrev pub test_at : Option ℕ → Compare → Value → List ColumnTest
test_at None op v = []
test_at (Some place) op v =
    if is_null v then [] else record { place = place; op = op; value = v } ∷ []

-- a comparison of a column with a literal, in either order of its sides
abbrev pub column_tests : List Column → Compare → Operand → Operand → List ColumnTest
column_tests columns op (ColumnOf name) (Literal v) = test_at (column_place columns name) op v
column_tests columns op (Literal v) (ColumnOf name) =
    test_at (column_place columns name) (flipped op) v
column_tests columns op left right = []

abbrev pub tests_step : List Column → Predicate-F (List ColumnTest) → List ColumnTest
tests_step columns (Predicate-F.Test op left right) = column_tests columns op left right
tests_step columns (Predicate-F.And a b) = a ++ b
tests_step columns other = []

-- the comparisons that are reached from the top through ANDs alone, in the order of the text. One
-- under OR or NOT gives none
abbrev pub tests_of : List Column → Option Predicate → List ColumnTest
tests_of columns None = []
tests_of columns (Some p) = fold-Predicate (List ColumnTest) (tests_step columns) p

abbrev pub is_equal : Compare → Bool
is_equal Eq = true
is_equal other = false

-- the first value that the column at a place has to be equal to
abbrev pub equal_to : List ColumnTest → ℕ → Option Value
equal_to tests place =
    option_map (λ test. test.value) (find (λ test. (test.place == place) && is_equal test.op) tests)

abbrev pub with_first : Option Value → List Value → List Value
with_first None values = []
with_first (Some v) values = v ∷ values

-- the values of the longest row of columns, from the first of these places on, that have to be equal
-- to one
abbrev pub prefix_of : List ColumnTest → List ℕ → List Value
prefix_of tests [] = []
prefix_of tests (place ∷ places) = with_first (equal_to tests place) (prefix_of tests places)

-- The tighter of two edges, where `inside a b` says that a lies further inside than b. At a tie it
-- is the one that leaves its value out
abbrev pub tighter : (Value → Value → Bool) → Edge → Edge → Edge
tighter inside Free e = e
tighter inside e Free = e
tighter inside (Closed a) (Closed b) = if inside b a then Closed b else Closed a
tighter inside (Closed a) (Beyond b) = if inside a b then Closed a else Beyond b
tighter inside (Beyond a) (Closed b) = if inside b a then Closed b else Beyond a
tighter inside (Beyond a) (Beyond b) = if inside b a then Beyond b else Beyond a

abbrev pub tightest : (Value → Value → Bool) → List Edge → Edge
tightest inside [] = Free
tightest inside (e ∷ edges) = tighter inside e (tightest inside edges)

-- the edge from below that a comparison gives
abbrev pub low_edge : Compare → Value → Edge
low_edge Gt v = Beyond v
low_edge Ge v = Closed v
low_edge other v = Free

-- the edge from above that it gives
abbrev pub high_edge : Compare → Value → Edge
high_edge Lt v = Beyond v
high_edge Le v = Closed v
high_edge other v = Free

-- the comparisons of the column at this place
abbrev pub tests_at : List ColumnTest → Option ℕ → List ColumnTest
tests_at tests None = []
tests_at tests (Some place) = filter (λ test. test.place == place) tests

abbrev pub lies_above : Value → Value → Bool
lies_above a b = is_gt (value_cmp a b)

abbrev pub lies_below : Value → Value → Bool
lies_below a b = is_lt (value_cmp a b)

abbrev pub low_of : List ColumnTest → Edge
low_of tests = tightest lies_above (map (λ test. low_edge test.op test.value) tests)

abbrev pub high_of : List ColumnTest → Edge
high_of tests = tightest lies_below (map (λ test. high_edge test.op test.value) tests)

-- the range whose prefix is the values that the leading key columns have to be equal to, and whose
-- edges are the tightest for the next key column
abbrev pub range_by : Table → List ColumnTest → Range
range_by t tests =
    let prefix : List Value = prefix_of tests t.key in
    let next : List ColumnTest = tests_at tests (slice_get t.key (length prefix)) in
    record { table = t.number; prefix = prefix; low = low_of next; high = high_of next }

-- Edges that contradict one another are kept as they are. Without WHERE it is the whole table
abbrev pub range_of : Table → Option Predicate → Range
range_of t filter_of = range_by t (tests_of t.columns filter_of)

-- Comparison of two values (ISO/IEC 9075:1992, 8.2). Two numbers are compared as whole numbers, and two
-- texts by = and <> character by character. It is unknown where one side is NULL, and of any other pair (no
-- query that fits its schema compares one in a database of the schema's domains). A cell's number and what is
-- added to it are added. That texts are not padded and sums do not overflow is this project's own, and so is
-- what any other pair gives.
use Rattle.std.specs.Prelude.{ℕ, ℤ, ◌+ℤ◌, Bool, true, false, not, nat_eq, List}
use Rattle.std.specs.Cmp.Lexicographic.{pointwise}
use Rattle.lint_tables.specs.declared.op.Op.{Op}
use Rattle.lint_tables.specs.declared.op.Op.TheVariants.{Eq, Ne, Lt, Le, Gt, Ge}
use Rattle.lint_tables.specs.Operators.{is_related}
use Rattle.lint_core.specs.declared.database.Value.{Value}
use Rattle.lint_core.specs.declared.database.Value.TheVariants.{Null, Int, Text}
use Rattle.lint_core.specs.declared.database.Truth.{Truth}
use Rattle.lint_core.specs.declared.database.Truth.TheVariants.{Unknown}
use Rattle.lint_core.specs.Truth.{truth_of, is_true}

-- as many characters, and at each place the same
abbrev pub is_same_text : List ℕ → List ℕ → Bool
is_same_text a b = pointwise nat_eq a b

abbrev pub compare_texts : Op → List ℕ → List ℕ → Truth
compare_texts Eq a b = truth_of (is_same_text a b)
compare_texts Ne a b = truth_of (not (is_same_text a b))
compare_texts Lt a b = Unknown
compare_texts Le a b = Unknown
compare_texts Gt a b = Unknown
compare_texts Ge a b = Unknown

abbrev pub compare : Op → Value → Value → Truth
compare op Null b = Unknown
compare op (Int a) Null = Unknown
compare op (Int a) (Int b) = truth_of (is_related op a b)
compare op (Int a) (Text b) = Unknown
compare op (Text a) Null = Unknown
compare op (Text a) (Int b) = Unknown
compare op (Text a) (Text b) = compare_texts op a b

-- a value with a number added: NULL stays, and so does a text
abbrev pub plus : Value → ℤ → Value
plus Null added = Null
plus (Int n) added = Int (n +ℤ added)
plus (Text text) added = Text text

abbrev pub is_null : Value → Bool
is_null Null = true
is_null (Int n) = false
is_null (Text text) = false

-- the same number or the same text; never so where one is NULL
abbrev pub are_equal : Value → Value → Bool
are_equal a b = is_true (compare Eq a b)

-- equal, or both NULL (ISO/IEC 9075:1992, 3.1)
abbrev pub are_not_distinct : Value → Value → Bool
are_not_distinct Null b = is_null b
are_not_distinct (Int a) b = are_equal (Int a) b
are_not_distinct (Text a) b = are_equal (Text a) b

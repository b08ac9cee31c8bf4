-- What the bounds and the tests of a comparison's formula say of two values, by the kinds of the terms.
use Rattle.std.proofs.Common.{◌≡◌, ◌∙◌, sym, ap₂, refl, ℕ, ℤ, pos, ◌+ℤ◌, ◌-ℤ◌, Bool, true, false, not, ◌&&◌, ◌||◌, List, [], ◌∷◌, if◌then◌else◌, arith}
use Rattle.std.proofs.lemmas.Int.{ints}
use Rattle.std.specs.Prelude.{Option, Some, None, int_lt}
use Rattle.std.specs.Option.{option_map_or}
use Rattle.std.specs.Ordering.{int_eq}
use Rattle.lint_tables.specs.declared.op.Op.{Op}
use Rattle.lint_tables.specs.declared.op.Op.TheVariants.{Eq, Ne, Lt, Le, Gt, Ge}
use Rattle.lint_tables.specs.Operators.{is_related, negation}
use Rattle.lint_tables.specs.Ways.{ways_of}
use Rattle.lint_core.specs.declared.condition.Term.{Term}
use Rattle.lint_core.specs.declared.database.Database.{Database}
use Rattle.lint_core.specs.declared.database.Value.{Value}
use Rattle.lint_core.specs.declared.database.Value.TheVariants.{Null, Int, Text}
use Rattle.lint_core.specs.declared.schema.Kind.{Kind}
use Rattle.lint_core.specs.declared.schema.Kind.TheVariants as kind
use Rattle.lint_core.specs.declared.schema.Table.{Table}
use Rattle.lint_core.specs.Comparison.{compare, plus, is_same_text}
use Rattle.lint_core.specs.Database.{Place}
use Rattle.lint_core.specs.Domain.{int_le}
use Rattle.lint_core.specs.Kind.{compares_both, is_text, is_equality}
use Rattle.lint_core.specs.Truth.{truth_of, is_true, is_false}
use Rattle.lint_core.proofs.Conditions.{true_of_test}
use Rattle.sort_formula.specs.declared.formula.Side.{Side}
use Rattle.sort_formula.specs.declared.formula.Atom.TheVariants as atom
use Rattle.sort_formula.specs.declared.formula.Formula.{Formula}
use Rattle.sort_formula.specs.declared.formula.Formula.TheVariants as f
use Rattle.sort_formula.specs.Holds.{holds, side_value, differ_by_at_most, are_texts}
use Rattle.lint_core.specs.declared.scope.Scope.{Scope}
use Rattle.sort_formula.specs.Sides.{side_of, added_to, ways_formula, texts_formula, nothing}
use Rattle.formula_laws.proofs.Cells.{may_be_number, may_be_text}
use Rattle.sort_formula.proofs.Holding.{holds_atom, holds_and, holds_or}

-- ---- two numbers

lt_is : (a p b q : ℤ) → int_le (a -ℤ b) (q -ℤ p -ℤ pos 1) ≡ int_lt (a +ℤ p) (b +ℤ q)
lt_is a p b q = grind (arith, ints)

le_is : (a p b q : ℤ) → int_le (a -ℤ b) (q -ℤ p -ℤ pos 0) ≡ not (int_lt (b +ℤ q) (a +ℤ p))
le_is a p b q = grind (arith, ints)

eq_is : (a p b q : ℤ) → (int_le (a -ℤ b) (q -ℤ p -ℤ pos 0) && (int_le (b -ℤ a) (p -ℤ q -ℤ pos 0) && true)) ≡ int_eq (a +ℤ p) (b +ℤ q)
eq_is a p b q = grind (arith, ints)

apart_is : (x y : ℤ) → (int_lt x y || (int_lt y x || false)) ≡ not (int_eq x y)
apart_is x y = grind (arith, ints)

ne_is : (a p b q : ℤ) → (int_le (a -ℤ b) (q -ℤ p -ℤ pos 1) || (int_le (b -ℤ a) (p -ℤ q -ℤ pos 1) || false)) ≡ not (int_eq (a +ℤ p) (b +ℤ q))
ne_is a p b q = ap₂ (λ c d. c || (d || false)) (lt_is a p b q) (lt_is b q a p) ∙ apart_is (a +ℤ p) (b +ℤ q)

-- the bounds of the operator, of two sides to which numbers are added
abbrev pub test : Op → Value → ℤ → Value → ℤ → Bool
test Eq v p w q = differ_by_at_most v w (q -ℤ p -ℤ pos 0) && (differ_by_at_most w v (p -ℤ q -ℤ pos 0) && true)
test Ne v p w q = differ_by_at_most v w (q -ℤ p -ℤ pos 1) || (differ_by_at_most w v (p -ℤ q -ℤ pos 1) || false)
test Lt v p w q = differ_by_at_most v w (q -ℤ p -ℤ pos 1)
test Le v p w q = differ_by_at_most v w (q -ℤ p -ℤ pos 0)
test Gt v p w q = differ_by_at_most w v (p -ℤ q -ℤ pos 1)
test Ge v p w q = differ_by_at_most w v (p -ℤ q -ℤ pos 0)

test_numbers : (op : Op) (a p b q : ℤ) → test op (Int a) p (Int b) q ≡ is_related op (a +ℤ p) (b +ℤ q)
test_numbers Eq a p b q = eq_is a p b q
test_numbers Ne a p b q = ne_is a p b q
test_numbers Lt a p b q = lt_is a p b q
test_numbers Le a p b q = le_is a p b q
test_numbers Gt a p b q = lt_is b q a p
test_numbers Ge a p b q = le_is b q a p

test_no_left : (op : Op) (p : ℤ) (w : Value) (q : ℤ) → may_be_number w ≡ true → test op Null p w q ≡ false
test_no_left Eq p w q number = refl
test_no_left Ne p Null q number = refl
test_no_left Ne p (Int b) q number = refl
test_no_left Ne p (Text text) q number = cc
test_no_left Lt p w q number = refl
test_no_left Le p w q number = refl
test_no_left Gt p Null q number = refl
test_no_left Gt p (Int b) q number = refl
test_no_left Gt p (Text text) q number = cc
test_no_left Ge p Null q number = refl
test_no_left Ge p (Int b) q number = refl
test_no_left Ge p (Text text) q number = cc

test_no_right : (op : Op) (a p q : ℤ) → test op (Int a) p Null q ≡ false
test_no_right Eq a p q = refl
test_no_right Ne a p q = refl
test_no_right Lt a p q = refl
test_no_right Le a p q = refl
test_no_right Gt a p q = refl
test_no_right Ge a p q = refl

-- the bounds say the comparison of two numbers, and nothing of NULL
pub numbers_compare : (op : Op) (v : Value) (p : ℤ) (w : Value) (q : ℤ) → may_be_number v ≡ true → may_be_number w ≡ true →
    test op v p w q ≡ is_true (compare op (plus v p) (plus w q))
numbers_compare op Null p w q left right = test_no_left op p w q right
numbers_compare op (Int a) p Null q left right = test_no_right op a p q
numbers_compare op (Int a) p (Int b) q left right = test_numbers op a p b q ∙ sym (true_of_test (is_related op (a +ℤ p) (b +ℤ q)))
numbers_compare op (Int a) p (Text text) q left right = cc
numbers_compare op (Text text) p w q left right = cc

-- ---- two texts

abbrev pub text_test : Op → Value → Value → Bool
text_test Eq v w = are_texts (λ same. same) v w
text_test Ne v w = are_texts not v w
text_test Lt v w = false
text_test Le v w = false
text_test Gt v w = false
text_test Ge v w = false

text_no_left : (op : Op) (w : Value) → text_test op Null w ≡ false
text_no_left Eq w = refl
text_no_left Ne w = refl
text_no_left Lt w = refl
text_no_left Le w = refl
text_no_left Gt w = refl
text_no_left Ge w = refl

text_no_right : (op : Op) (a : List ℕ) → text_test op (Text a) Null ≡ false
text_no_right Eq a = refl
text_no_right Ne a = refl
text_no_right Lt a = refl
text_no_right Le a = refl
text_no_right Gt a = refl
text_no_right Ge a = refl

text_both : (op : Op) (a b : List ℕ) → text_test op (Text a) (Text b) ≡ is_true (compare op (Text a) (Text b))
text_both Eq a b = sym (true_of_test (is_same_text a b))
text_both Ne a b = sym (true_of_test (not (is_same_text a b)))
text_both Lt a b = refl
text_both Le a b = refl
text_both Gt a b = refl
text_both Ge a b = refl

pub texts_compare : (op : Op) (v : Value) (p : ℤ) (w : Value) (q : ℤ) → may_be_text v ≡ true → may_be_text w ≡ true →
    text_test op v w ≡ is_true (compare op (plus v p) (plus w q))
texts_compare op Null p w q left right = text_no_left op w
texts_compare op (Int a) p w q left right = cc
texts_compare op (Text a) p Null q left right = text_no_right op a
texts_compare op (Text a) p (Int b) q left right = cc
texts_compare op (Text a) p (Text b) q left right = text_both op a b

pub right_null : (op : Op) (v : Value) → is_true (compare op v Null) ≡ false
right_null op Null = refl
right_null op (Int a) = refl
right_null op (Text a) = refl

-- ---- the negated operator

true_if_false : (b c : Bool) → c ≡ not b → is_true (truth_of c) ≡ is_false (truth_of b)
true_if_false true c opposite = rw opposite refl
true_if_false false c opposite = rw opposite refl

not_not : (b : Bool) → b ≡ not (not b)
not_not true = refl
not_not false = refl

related_negated : (op : Op) (a b : ℤ) → is_related (negation op) a b ≡ not (is_related op a b)
related_negated Eq a b = refl
related_negated Ne a b = not_not (int_eq a b)
related_negated Lt a b = refl
related_negated Le a b = not_not (int_lt b a)
related_negated Gt a b = refl
related_negated Ge a b = not_not (int_lt a b)

text_negated : (op : Op) (a b : List ℕ) → is_true (compare (negation op) (Text a) (Text b)) ≡ is_false (compare op (Text a) (Text b))
text_negated Eq a b = true_if_false (is_same_text a b) (not (is_same_text a b)) refl
text_negated Ne a b = true_if_false (not (is_same_text a b)) (is_same_text a b) (not_not (is_same_text a b))
text_negated Lt a b = refl
text_negated Le a b = refl
text_negated Gt a b = refl
text_negated Ge a b = refl

pub negated_compares : (op : Op) (v w : Value) → is_true (compare (negation op) v w) ≡ is_false (compare op v w)
negated_compares op Null w = refl
negated_compares op (Int a) Null = refl
negated_compares op (Int a) (Int b) = true_if_false (is_related op a b) (is_related (negation op) a b) (related_negated op a b)
negated_compares op (Int a) (Text b) = refl
negated_compares op (Text a) Null = refl
negated_compares op (Text a) (Int b) = refl
negated_compares op (Text a) (Text b) = text_negated op a b

equality_negated : (op : Op) → is_equality (negation op) ≡ is_equality op
equality_negated Eq = refl
equality_negated Ne = refl
equality_negated Lt = refl
equality_negated Le = refl
equality_negated Gt = refl
equality_negated Ge = refl

pub negation_compares : (op : Op) (a b : Option Kind) → compares_both (negation op) a b ≡ compares_both op a b
negation_compares op None b = refl
negation_compares op (Some a) None = refl
negation_compares op (Some a) (Some b) = rw (equality_negated op) refl

-- ---- terms by their kinds

-- what is known of a term of this kind: whether it is the term NULL, its value, and its side's
abbrev pub Says : Option Kind → Bool → Value → Value → ℤ → Type 0
Says None null v s added = Unit {0}
Says (Some kind.Null) null v s added = (null ≡ true) × (v ≡ Null)
Says (Some (kind.Number unit)) null v s added = (null ≡ false) × (may_be_number s ≡ true) × (v ≡ plus s added)
Says (Some kind.Text) null v s added = (null ≡ false) × (may_be_text s ≡ true) × (v ≡ plus s added)

module _ (db : Database) (rows : List Place) where
  abbrev chosen : Option Kind → Option Kind → Bool → Bool → Formula → Formula → Formula
  chosen ka kb na nb texts numbers = if na || nb then nothing else (if option_map_or is_text ka false || option_map_or is_text kb false then texts else numbers)

  no_left : (op : Op) (kb : Option Kind) (na nb : Bool) (v w : Value) (other : Formula) → na ≡ true → v ≡ Null →
      holds db (if na || nb then nothing else other) rows ≡ is_true (compare op v w)
  no_left op kb na nb v w other is_null null = rw (is_null, null) (holds_or db [] rows)

  or_true : (b : Bool) → (b || true) ≡ true
  or_true true = refl
  or_true false = refl

  no_right : (op : Op) (na nb : Bool) (v w : Value) (other : Formula) → nb ≡ true → w ≡ Null →
      holds db (if na || nb then nothing else other) rows ≡ is_true (compare op v w)
  no_right op na nb v w other is_null null = rw (is_null, or_true na, null, right_null op v) (holds_or db [] rows)

  pub by_kinds : (op : Op) (ka kb : Option Kind) (na nb : Bool) (v w s u : Value) (p q : ℤ) (texts numbers : Formula) →
      holds db texts rows ≡ text_test op s u → holds db numbers rows ≡ test op s p u q →
      Says ka na v s p → Says kb nb w u q → compares_both op ka kb ≡ true →
      holds db (chosen ka kb na nb texts numbers) rows ≡ is_true (compare op v w)
  by_kinds op None kb na nb v w s u p q texts numbers as_texts as_numbers left right fits = cc
  by_kinds op (Some ka) None na nb v w s u p q texts numbers as_texts as_numbers left right fits = cc
  by_kinds op (Some kind.Null) (Some kb) na nb v w s u p q texts numbers as_texts as_numbers left right fits =
      no_left op (Some kb) na nb v w (if option_map_or is_text (Some kb) false then texts else numbers) left.0 left.1
  by_kinds op (Some (kind.Number unit)) (Some kind.Null) na nb v w s u p q texts numbers as_texts as_numbers left right fits =
      no_right op na nb v w numbers right.0 right.1
  by_kinds op (Some (kind.Number unit)) (Some (kind.Number other)) na nb v w s u p q texts numbers as_texts as_numbers left right fits =
      rw (left.0, right.0, left.2, right.2) (as_numbers ∙ numbers_compare op s p u q left.1 right.1)
  by_kinds op (Some (kind.Number unit)) (Some kind.Text) na nb v w s u p q texts numbers as_texts as_numbers left right fits = cc
  by_kinds op (Some kind.Text) (Some kind.Null) na nb v w s u p q texts numbers as_texts as_numbers left right fits =
      no_right op na nb v w texts right.0 right.1
  by_kinds op (Some kind.Text) (Some (kind.Number other)) na nb v w s u p q texts numbers as_texts as_numbers left right fits = cc
  by_kinds op (Some kind.Text) (Some kind.Text) na nb v w s u p q texts numbers as_texts as_numbers left right fits =
      rw (left.0, right.0, left.2, right.2) (as_texts ∙ texts_compare op s p u q left.1 right.1)

  -- ---- the formulas of a comparison

  module _ (schema : List Table) (scope : Scope) where
    abbrev value_of : Term → Value
    value_of t = side_value db rows (side_of schema scope t)

    bound_is : (left right : Side) (most : ℤ) → holds db (f.Atom (atom.Le left right most)) rows ≡ differ_by_at_most (side_value db rows left) (side_value db rows right) most
    bound_is left right most = holds_atom db (atom.Le left right most) rows

    both_are : (left right : Side) (m n : ℤ) →
        holds db (f.And (f.Atom (atom.Le left right m) ∷ f.Atom (atom.Le right left n) ∷ [])) rows
        ≡ (differ_by_at_most (side_value db rows left) (side_value db rows right) m && (differ_by_at_most (side_value db rows right) (side_value db rows left) n && true))
    both_are left right m n =
        holds_and db (f.Atom (atom.Le left right m) ∷ f.Atom (atom.Le right left n) ∷ []) rows
        ∙ ap₂ (λ b c. b && (c && true)) (bound_is left right m) (bound_is right left n)

    one_is : (left right : Side) (m n : ℤ) →
        holds db (f.Or (f.Atom (atom.Le left right m) ∷ f.Atom (atom.Le right left n) ∷ [])) rows
        ≡ (differ_by_at_most (side_value db rows left) (side_value db rows right) m || (differ_by_at_most (side_value db rows right) (side_value db rows left) n || false))
    one_is left right m n =
        holds_or db (f.Atom (atom.Le left right m) ∷ f.Atom (atom.Le right left n) ∷ []) rows
        ∙ ap₂ (λ b c. b || (c || false)) (bound_is left right m) (bound_is right left n)

    pub ways_are : (op : Op) (a b : Term) →
        holds db (ways_formula schema scope a b (ways_of op)) rows ≡ test op (value_of a) (added_to schema scope a) (value_of b) (added_to schema scope b)
    ways_are Eq a b = both_are (side_of schema scope a) (side_of schema scope b) (added_to schema scope b -ℤ added_to schema scope a -ℤ pos 0) (added_to schema scope a -ℤ added_to schema scope b -ℤ pos 0)
    ways_are Ne a b = one_is (side_of schema scope a) (side_of schema scope b) (added_to schema scope b -ℤ added_to schema scope a -ℤ pos 1) (added_to schema scope a -ℤ added_to schema scope b -ℤ pos 1)
    ways_are Lt a b = bound_is (side_of schema scope a) (side_of schema scope b) (added_to schema scope b -ℤ added_to schema scope a -ℤ pos 1)
    ways_are Le a b = bound_is (side_of schema scope a) (side_of schema scope b) (added_to schema scope b -ℤ added_to schema scope a -ℤ pos 0)
    ways_are Gt a b = bound_is (side_of schema scope b) (side_of schema scope a) (added_to schema scope a -ℤ added_to schema scope b -ℤ pos 1)
    ways_are Ge a b = bound_is (side_of schema scope b) (side_of schema scope a) (added_to schema scope a -ℤ added_to schema scope b -ℤ pos 0)

    pub texts_are : (op : Op) (left right : Side) → holds db (texts_formula schema scope op left right) rows ≡ text_test op (side_value db rows left) (side_value db rows right)
    texts_are Eq left right = holds_atom db (atom.TextEq left right) rows
    texts_are Ne left right = holds_atom db (atom.TextNe left right) rows
    texts_are Lt left right = holds_or db [] rows
    texts_are Le left right = holds_or db [] rows
    texts_are Gt left right = holds_or db [] rows
    texts_are Ge left right = holds_or db [] rows

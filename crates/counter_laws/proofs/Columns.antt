-- What the formulas of a column say, where the variables have the rows of a binding: that it is NULL, that it differs
-- from a value, that it is not distinct from another.
use Rattle.std.proofs.Common.{◌≡◌, ◌∙◌, refl, sym, ap, ap₂, subst, ℕ, ℤ, pos, neg_ℤ, ◌-ℤ◌, Bool, true, false, ◌&&◌, ◌||◌, not, List, [], ◌∷◌, length, map, arith}
use Rattle.std.proofs.lemmas.Int.{ints}
use Rattle.std.specs.List.{list_all, list_any}
use Rattle.std.specs.Option.{option_map_or}
use Rattle.std.specs.Ordering.{int_eq}
use Rattle.std.specs.Prelude.{Option, Some, None, is_some}
use Rattle.lint_base.proofs.Lists.{and_true, or_false}
use Rattle.lint_core.specs.declared.condition.Term.{Term}
use Rattle.lint_core.specs.declared.condition.Term.TheVariants as term
use Rattle.lint_core.specs.declared.database.Database.{Database}
use Rattle.lint_core.specs.declared.database.Value.{Value}
use Rattle.lint_core.specs.declared.database.Value.TheVariants.{Null, Int, Text}
use Rattle.lint_core.specs.declared.schema.Kind.{Kind}
use Rattle.lint_core.specs.declared.schema.Kind.TheVariants as kind
use Rattle.lint_core.specs.declared.schema.Table.{Table}
use Rattle.lint_core.specs.declared.scope.Scope.{Scope}
use Rattle.lint_core.specs.Comparison.{plus, is_null, is_same_text, are_equal, are_not_distinct}
use Rattle.lint_core.specs.Condition.{term_value}
use Rattle.lint_core.specs.Database.{Place}
use Rattle.lint_core.specs.Domain.{int_le}
use Rattle.lint_core.specs.Fits.{term_kind, term_fits, is_plain}
use Rattle.lint_core.specs.Kind.{is_text, are_of_one_kind}
use Rattle.lint_core.specs.Meets.{is_of_domains}
use Rattle.lint_core.specs.Subqueries.{is_column}
use Rattle.sort_formula.specs.declared.formula.Atom.TheVariants as atom
use Rattle.sort_formula.specs.declared.formula.Formula.{Formula}
use Rattle.sort_formula.specs.declared.formula.Formula.TheVariants as f
use Rattle.sort_formula.specs.declared.formula.Side.{Side}
use Rattle.sort_formula.specs.Cells.{le, equal_cells}
use Rattle.sort_formula.specs.Counters.{not_distinct}
use Rattle.sort_formula.specs.Holds.{holds, side_value, differ_by_at_most, are_texts}
use Rattle.sort_formula.specs.Sides.{side_of, is_text_term, is_null_formula, not_null_formula}
use Rattle.sort_formula.proofs.Holding.{holds_and, holds_or}
use Rattle.truth_laws.proofs.Cells.{says}
use Rattle.truth_laws.proofs.Comparing.{Says}
use Rattle.truth_laws.proofs.Leaves.{TermStands, null_says}
use Rattle.truth_laws.proofs.Values.{is_of, equal_say}
use Rattle.counter_laws.proofs.Loosely.{truth_is}

-- ---- values

-- nothing is added
plain_sum : (v : Value) (added : ℤ) → int_eq added (pos 0) ≡ true → plus v added ≡ v
plain_sum Null added none = refl
plain_sum (Int n) added none = ap Int (grind (arith, ints))
plain_sum (Text text) added none = refl

pub null_distinct : (v : Value) → are_not_distinct v Null ≡ is_null v
null_distinct Null = refl
null_distinct (Int n) = refl
null_distinct (Text text) = refl

pub both_null_or_equal : (v w : Value) → ((is_null v && (is_null w && true)) || are_equal v w) ≡ are_not_distinct v w
both_null_or_equal Null w = or_false (is_null w && true) ∙ and_true (is_null w)
both_null_or_equal (Int n) w = refl
both_null_or_equal (Text text) w = refl

-- what is no number, and what is no text
pub text_differs : (v : Value) (n : ℤ) → is_of true v ≡ true → are_not_distinct v (Int n) ≡ false
text_differs Null n of = refl
text_differs (Int a) n of = cc
text_differs (Text text) n of = refl

pub number_differs : (v : Value) (text : List ℕ) → is_of false v ≡ true → are_not_distinct v (Text text) ≡ false
number_differs Null text of = refl
number_differs (Int a) text of = refl
number_differs (Text other) text of = cc

apart : (a n : ℤ) → (int_le (a -ℤ pos 0) (n -ℤ pos 1) || (int_le (pos 0 -ℤ a) (neg_ℤ n -ℤ pos 1) || false)) ≡ not (int_eq a n)
apart a n = grind (arith, ints)

pub number_is_other : (v : Value) (n : ℤ) → is_of false v ≡ true →
    (is_null v || (differ_by_at_most v (Int (pos 0)) (n -ℤ pos 1) || (differ_by_at_most (Int (pos 0)) v (neg_ℤ n -ℤ pos 1) || false))) ≡ not (are_not_distinct v (Int n))
number_is_other Null n of = refl
number_is_other (Int a) n of = apart a n ∙ ap not (sym (truth_is (int_eq a n)))
number_is_other (Text text) n of = cc

pub text_is_other : (v : Value) (text : List ℕ) → is_of true v ≡ true → (is_null v || (are_texts not v (Text text) || false)) ≡ not (are_not_distinct v (Text text))
text_is_other Null text of = refl
text_is_other (Int a) text of = cc
text_is_other (Text a) text of = or_false (not (is_same_text a text)) ∙ ap not (sym (truth_is (is_same_text a text)))

-- ---- the kind of a column's value

record IsSaid (text : Bool) (v s : Value) : Type 0 where
  pub same : v ≡ s
  pub of : is_of text s ≡ true

-- a column that fits, with nothing added
said : (k : Option Kind) (v s : Value) (added : ℤ) → is_some k ≡ true → int_eq added (pos 0) ≡ true → Says k false v s added → IsSaid (option_map_or is_text k false) v s
said None v s added there none say = cc
said (Some kind.Null) v s added there none say = cc say.0
said (Some (kind.Number unit)) v s added there none say = record { same = say.2 ∙ plain_sum s added none; of = say.1 }
said (Some kind.Text) v s added there none say = record { same = say.2 ∙ plain_sum s added none; of = say.1 }

module _ (schema : List Table) (db : Database) (domains : is_of_domains schema db ≡ true) (scope : Scope) (binding : List (List ℕ)) (rows : List Place) where
  abbrev value : Term → Value
  value = term_value db scope.tables binding

  abbrev at_side : Term → Value
  at_side t = side_value db rows (side_of schema scope t)

  pub record IsColumn (t : Term) : Type 0 where
    pub column : is_column t ≡ true
    pub plain : is_plain t ≡ true
    pub fits : term_fits schema scope.tables t ≡ true
    pub stands : TermStands schema db domains scope binding rows t
    pub lengths : map length scope.levels ≡ map length scope.tables

  column_said : (t : Term) → IsColumn t → IsSaid (is_text_term schema scope t) (value t) (at_side t)
  column_said (term.Cell level entry column added) is =
      let t = term.Cell level entry column added in
      said (term_kind schema scope.tables t) (value t) (at_side t) added is.fits is.plain (says schema db domains scope binding rows is.lengths t is.stands)
  column_said (term.Number n unit) is = cc is.column
  column_said (term.Text text) is = cc is.column
  column_said term.Null is = cc is.column

  pub value_same : (t : Term) → IsColumn t → value t ≡ at_side t
  value_same t is = (column_said t is).same

  pub value_of : (t : Term) → IsColumn t → is_of (is_text_term schema scope t) (at_side t) ≡ true
  value_of t is = (column_said t is).of

  pub null_is : (t : Term) → IsColumn t → holds db (is_null_formula schema scope t) rows ≡ is_null (value t)
  null_is t is = (null_says schema db domains scope binding rows t is.stands is.lengths is.fits).0

  pub not_null_is : (t : Term) → IsColumn t → holds db (not_null_formula schema scope t) rows ≡ not (is_null (value t))
  not_null_is t is = (null_says schema db domains scope binding rows t is.stands is.lengths is.fits).1

-- ---- two columns

-- of one kind, as columns that fit are
pub same_text : (a b : Option Kind) (v s w r : Value) (added more : ℤ) → Says a false v s added → Says b false w r more → are_of_one_kind a b ≡ true →
    option_map_or is_text b false ≡ option_map_or is_text a false
same_text None b v s w r added more left right one = cc
same_text (Some a) None v s w r added more left right one = cc
same_text (Some kind.Null) (Some b) v s w r added more left right one = cc left.0
same_text (Some (kind.Number unit)) (Some kind.Null) v s w r added more left right one = cc right.0
same_text (Some (kind.Number unit)) (Some (kind.Number other)) v s w r added more left right one = refl
same_text (Some (kind.Number unit)) (Some kind.Text) v s w r added more left right one = cc
same_text (Some kind.Text) (Some kind.Null) v s w r added more left right one = cc right.0
same_text (Some kind.Text) (Some (kind.Number other)) v s w r added more left right one = cc
same_text (Some kind.Text) (Some kind.Text) v s w r added more left right one = refl

one_cell : (text : Bool) (x y : Side) (test : Formula → Bool) → list_any test (equal_cells text x y) ≡ list_all test (equal_cells text x y)
one_cell true x y test = or_false (test (f.Atom (atom.TextEq x y))) ∙ sym (and_true (test (f.Atom (atom.TextEq x y))))
one_cell false x y test =
    let both = f.And (le x y (pos 0) ∷ le y x (pos 0) ∷ []) in
    or_false (test both) ∙ sym (and_true (test both))

module _ (schema : List Table) (db : Database) (domains : is_of_domains schema db ≡ true) (rows : List Place)
    (scope : Scope) (binding : List (List ℕ)) (other : Scope) (others : List (List ℕ)) (t u : Term)
    (is : IsColumn schema db domains scope binding rows t) (also : IsColumn schema db domains other others rows u)
    (same : is_text_term schema other u ≡ is_text_term schema scope t) where
  -- the two are not distinct
  pub distinct_says : holds db (not_distinct schema scope t other u) rows ≡ are_not_distinct (term_value db scope.tables binding t) (term_value db other.tables others u)
  distinct_says =
      let text = is_text_term schema scope t in
      let x = side_of schema scope t in
      let y = side_of schema other u in
      let xn = is_null_formula schema scope t in
      let yn = is_null_formula schema other u in
      let v = term_value db scope.tables binding t in
      let w = term_value db other.tables others u in
      let first : is_of text (side_value db rows x) ≡ true = value_of schema db domains scope binding rows t is in
      let second : is_of text (side_value db rows y) ≡ true = subst (λ text. is_of text (side_value db rows y) ≡ true) same (value_of schema db domains other others rows u also) in
      let nulls : holds db (f.And (xn ∷ yn ∷ [])) rows ≡ (is_null v && (is_null w && true)) =
      holds_and db (xn ∷ yn ∷ []) rows
      ∙ ap₂ (λ a b. a && (b && true)) (null_is schema db domains scope binding rows t is) (null_is schema db domains other others rows u also) in
      let equal : list_any (λ g. holds db g rows) (equal_cells text x y) ≡ are_equal v w =
      one_cell text x y (λ g. holds db g rows)
      ∙ (equal_say db rows text x y first second
      ∙ ap₂ are_equal (sym (value_same schema db domains scope binding rows t is)) (sym (value_same schema db domains other others rows u also))) in
      holds_or db (f.And (xn ∷ yn ∷ []) ∷ equal_cells text x y) rows ∙ (ap₂ (λ a b. a || b) nulls equal ∙ both_null_or_equal v w)

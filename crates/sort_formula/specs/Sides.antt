-- Comparisons of terms as formulas. A number term is a side and a number that is added to it: a cell and its
-- `plus`, or 0 and the literal. The bounds come from the operator's difference bounds. A comparison with NULL has
-- neither truth, so its formula is that of nothing.
use Rattle.std.specs.Prelude.{ℕ, ◌+◌, ℤ, pos, ◌-ℤ◌, Bool, true, false, ◌||◌, List, [], ◌∷◌, length, map, unwrap_or, if◌then◌else◌}
use Rattle.std.specs.List.{flat_map}
use Rattle.std.specs.Option.{option_map_or}
use Rattle.lint_tables.specs.declared.op.Op.{Op}
use Rattle.lint_tables.specs.declared.op.Op.TheVariants.{Eq, Ne, Lt, Le, Gt, Ge}
use Rattle.lint_tables.specs.declared.op.Way.{Way}
use Rattle.lint_tables.specs.declared.op.Ways.{Ways}
use Rattle.lint_tables.specs.Operators.{negation}
use Rattle.lint_tables.specs.Ways.{ways_of}
use Rattle.lint_core.specs.declared.condition.Term.{Term}
use Rattle.lint_core.specs.declared.condition.Term.TheVariants as term
use Rattle.lint_core.specs.declared.schema.Table.{Table}
use Rattle.lint_core.specs.declared.scope.Scope.{Scope}
use Rattle.lint_core.specs.Fits.{at_entry}
use Rattle.lint_core.specs.Database.{below}
use Rattle.lint_core.specs.Fits.{term_kind}
use Rattle.lint_core.specs.Kind.{is_text}
use Rattle.sort_formula.specs.declared.formula.Side.{Side}
use Rattle.sort_formula.specs.declared.formula.Side.TheVariants as side
use Rattle.sort_formula.specs.declared.formula.Atom.TheVariants as atom
use Rattle.sort_formula.specs.declared.formula.Formula.{Formula}
use Rattle.sort_formula.specs.declared.formula.Formula.TheVariants as f

-- And of nothing, Or of nothing
abbrev pub everything : Formula
everything = f.And []

abbrev pub nothing : Formula
nothing = f.Or []

-- so many variables from this number on
abbrev pub from_number : ℕ → ℕ → List ℕ
from_number first count = map (λ k. first + k) (below count)

-- one variable for each entry, in order
abbrev pub numbered_from : ℕ → List (List ℕ) → List (List ℕ)
numbered_from first [] = []
numbered_from first (level ∷ levels) = from_number first (length level) ∷ numbered_from (first + length level) levels

abbrev pub all_of : List (List ℕ) → List ℕ
all_of levels = flat_map (λ level. level) levels

-- the scope of the entries of these levels, one quantifier for each of them in order
abbrev pub scope_of : List (List ℕ) → Scope
scope_of tables = record { levels = numbered_from 0 tables; tables = tables; depth = length (all_of tables) }

module _ (schema : List Table) (scope : Scope) where
  abbrev pub side_of : Term → Side
  side_of (term.Cell level entry column added) = side.Cell (unwrap_or (at_entry scope.levels level entry) 0) column
  side_of (term.Number value unit) = side.Zero
  side_of (term.Text text) = side.Text text
  side_of term.Null = side.Zero

  -- what is added to a side
  abbrev pub added_to : Term → ℤ
  added_to (term.Cell level entry column added) = added
  added_to (term.Number value unit) = value
  added_to (term.Text text) = pos 0
  added_to term.Null = pos 0

  abbrev pub is_text_term : Term → Bool
  is_text_term t = option_map_or is_text (term_kind schema scope.tables t) false

  -- one bound: left minus right is at most minus `less`, the two changed where the way is swapped
  abbrev pub way_formula : Term → Term → Way → Formula
  way_formula a b way =
      if way.swapped
      then f.Atom (atom.Le (side_of b) (side_of a) (added_to a -ℤ added_to b -ℤ pos way.less))
      else f.Atom (atom.Le (side_of a) (side_of b) (added_to b -ℤ added_to a -ℤ pos way.less))

  -- one bound, or two of which all or one holds
  abbrev pub ways_formula : Term → Term → Ways → Formula
  ways_formula a b ways =
      option_map_or (λ two. (if ways.all then f.And else f.Or) (way_formula a b ways.one ∷ way_formula a b two ∷ [])) ways.two (way_formula a b ways.one)

  -- texts are compared by = and <> alone
  abbrev pub texts_formula : Op → Side → Side → Formula
  texts_formula Eq a b = f.Atom (atom.TextEq a b)
  texts_formula Ne a b = f.Atom (atom.TextNe a b)
  texts_formula Lt a b = nothing
  texts_formula Le a b = nothing
  texts_formula Gt a b = nothing
  texts_formula Ge a b = nothing

  abbrev pub values_formula : Op → Term → Term → Formula
  values_formula op a b = if is_text_term a || is_text_term b then texts_formula op (side_of a) (side_of b) else ways_formula a b (ways_of op)

  abbrev pub is_null_term : Term → Bool
  is_null_term (term.Cell level entry column added) = false
  is_null_term (term.Number value unit) = false
  is_null_term (term.Text text) = false
  is_null_term term.Null = true

  -- the formula that the comparison is true; for 'false', negate the operator first
  abbrev pub compare_formula : Op → Term → Term → Formula
  compare_formula op a b = if is_null_term a || is_null_term b then nothing else values_formula op a b

  abbrev pub compare_false_formula : Op → Term → Term → Formula
  compare_false_formula op a b = compare_formula (negation op) a b

  -- IS NULL and IS NOT NULL
  abbrev pub is_null_formula : Term → Formula
  is_null_formula (term.Cell level entry column added) = f.Atom (atom.IsNull (unwrap_or (at_entry scope.levels level entry) 0) column)
  is_null_formula (term.Number value unit) = nothing
  is_null_formula (term.Text text) = nothing
  is_null_formula term.Null = everything

  abbrev pub not_null_formula : Term → Formula
  not_null_formula (term.Cell level entry column added) = f.Atom (atom.NotNull (unwrap_or (at_entry scope.levels level entry) 0) column)
  not_null_formula (term.Number value unit) = everything
  not_null_formula (term.Text text) = everything
  not_null_formula term.Null = nothing

-- The two parts of the counter sentence of a needless join. Its body holds where the conjuncts without the entry hold,
-- and no row of the entry fits, or two do.
use Rattle.std.specs.Prelude.{ℕ, ◌+◌, ◌-◌, Bool, true, false, List, [], ◌∷◌, ◌++◌, map}
use Rattle.lint_core.specs.declared.query.Query.{Query}
use Rattle.lint_core.specs.declared.query.Question.{Question}
use Rattle.lint_core.specs.declared.query.Question.TheVariants.{NeedlessJoin}
use Rattle.lint_core.specs.declared.schema.Table.{Table}
use Rattle.lint_core.specs.Asked.{conjuncts_without}
use Rattle.sort_formula.specs.declared.formula.Atom.TheVariants as atom
use Rattle.sort_formula.specs.declared.formula.Formula.{Formula}
use Rattle.sort_formula.specs.declared.formula.Formula.TheVariants as f
use Rattle.sort_formula.specs.Counters.{count, join_scope, fits_at, table_of_entry}
use Rattle.sort_formula.specs.Negated.{negated}
use Rattle.sort_formula.specs.Translation.{is_true_formula}

abbrev pub is_join : Question → Bool
is_join (NeedlessJoin entry) = true
is_join question = false

module _ (schema : List Table) (query : Query) (entry : ℕ) where
  -- the conjuncts that do not name the entry
  abbrev pub without_formulas : List Formula
  without_formulas = map (λ c. is_true_formula schema c (join_scope schema query entry 0 (count schema query - 1))) (conjuncts_without entry query)

  -- no row of the entry fits
  abbrev pub no_row_formula : Formula
  no_row_formula = f.Forall (table_of_entry schema query entry) (negated (fits_at schema query entry (count schema query - 1) (count schema query)))

  -- two rows of the entry, behind those of the others, both fit and differ
  abbrev pub both_fit : Formula
  both_fit =
      f.And (
      fits_at schema query entry (count schema query - 1) (count schema query + 1)
      ∷ fits_at schema query entry (count schema query) (count schema query + 1)
      ∷ f.Atom (atom.Other (count schema query - 1) (count schema query)) ∷ []
      )

  -- two rows of the entry fit
  abbrev pub two_rows_formula : Formula
  two_rows_formula = f.Exists (table_of_entry schema query entry) (f.Exists (table_of_entry schema query entry) both_fit)

  abbrev pub no_row_body : Formula
  no_row_body = f.And (without_formulas ++ no_row_formula ∷ [])

  abbrev pub two_rows_body : Formula
  two_rows_body = f.And (without_formulas ++ two_rows_formula ∷ [])

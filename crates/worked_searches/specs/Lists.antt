-- Clauses over one row term with one number column.
use Rattle.std.specs.Prelude.{◌≤◌, ◌≡◌, pos, neg_ℤ, true, List, [], ◌∷◌, length}
use Rattle.lint_core.specs.declared.schema.Domain.TheVariants as domain
use Rattle.lint_core.specs.declared.schema.Unit.TheVariants as unit
use Rattle.ground_theory.specs.declared.literal.Clause.{Clause}
use Rattle.ground_theory.specs.declared.literal.Frame.{Frame}
use Rattle.case_split.specs.Fitting.{are_fit, have_few_ways}

-- a column of 16 bits
abbrev pub one_number : Frame
one_number = record { tables = 0 ∷ []; domains = (domain.Number (neg_ℤ (pos 32768)) (pos 32767) unit.Whole ∷ []) ∷ [] }

-- its literals can be judged, and its ways are few
pub record IsSearchable (clauses : List Clause) : Type 0 where
  pub fitting : are_fit one_number clauses ≡ true
  pub ways : have_few_ways clauses ≡ true
  pub count : length clauses ≤ 400000

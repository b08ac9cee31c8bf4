-- When a closing step of a certificate is right over literals: it is right in the branch whose facts are the literals in
-- their order and whose rows are the row terms. A certificate's steps look at a schema for domains alone, so a schema
-- with the frame's domains and nothing else stands in for it.
use Rattle.std.specs.Prelude.{ℕ, Bool, false, List, [], length, map}
use Rattle.std.specs.Option.{option_map_or}
use Rattle.lint_core.specs.declared.certificate.Step.{Step}
use Rattle.lint_core.specs.declared.schema.Column.{Column}
use Rattle.lint_core.specs.declared.schema.Domain.{Domain}
use Rattle.lint_core.specs.declared.schema.Table.{Table}
use Rattle.lint_core.specs.Database.{below}
use Rattle.sort_formula.specs.declared.formula.Formula.TheVariants as f
use Rattle.sort_formula.specs.Certificate.{children, are_closed}
use Rattle.sort_formula.specs.Facts.{Fact, Branch}
use Rattle.ground_theory.specs.declared.literal.Frame.{Frame}
use Rattle.ground_theory.specs.declared.literal.Literal.{Literal}

abbrev pub bare_column : Domain → Column
bare_column domain = record { name = []; domain = domain; not_null = false }

-- a table of these columns, without constraints
abbrev pub bare_table : List Domain → Table
bare_table domains = record { name = []; columns = map bare_column domains; keys = []; checks = []; foreign = [] }

abbrev pub bare_schema : Frame → List Table
bare_schema frame = map bare_table frame.domains

abbrev pub literal_fact : List ℕ → Literal → Fact
literal_fact rows literal = record { formula = f.Atom literal.atom; rows = rows }

-- the literals as facts, at the row terms as rows
abbrev pub literal_branch : Frame → List Literal → Branch
literal_branch frame literals = record { facts = map (literal_fact (below (length frame.tables))) literals; tables = frame.tables }

-- the step closes the branch
abbrev pub is_right_leaf : Frame → List Literal → Step → Bool
is_right_leaf frame literals step = option_map_or are_closed (children (bare_schema frame) (literal_branch frame literals) step) false

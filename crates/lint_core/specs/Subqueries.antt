-- The scalar subqueries of a condition, in the order of their right parentheses, and its NOT IN subqueries that
-- select a column, in the order of their left parentheses: at any depth, those inside other subqueries too.
use Rattle.std.specs.Prelude.{ℕ, Bool, true, false, ◌&&◌, List, [], ◌∷◌, ◌++◌, if◌then◌else◌}
use Rattle.std.specs.List.{flat_map}
use Rattle.lint_base.specs.declared.place.Span.{Span}
use Rattle.lint_core.specs.declared.condition.Term.{Term}
use Rattle.lint_core.specs.declared.condition.Term.TheVariants as term
use Rattle.lint_core.specs.declared.condition.Cond.{Cond}
use Rattle.lint_core.specs.declared.condition.Cond.TheOpen.{Cond-F, Block-F}
use Rattle.lint_core.specs.declared.condition.Block.{Block, out-Block}
use Rattle.lint_core.specs.Parts.{With, described}
use Rattle.lint_core.specs.Fits.{tables_of}

-- a subquery: the tables of each level that its condition sees, its own last, its condition and what it
-- selects. The place in the text is for a scalar subquery its own, from ( to ), and for NOT IN that of the
-- predicate
pub record Subquery : Type 0 where
  pub tables : List (List ℕ)
  pub cond : Cond
  pub item : Term
  pub place : Span

-- those of a condition, or of a block, by the tables of the levels outside
abbrev pub Listing : Type 0
Listing = List (List ℕ) → List Subquery

abbrev pub CondPart : Type 0
CondPart = With Cond Listing

abbrev pub BlockPart : Type 0
BlockPart = With Block Listing

abbrev pub subquery : List (List ℕ) → Block → Term → Span → Subquery
subquery tables block item place = record {
  tables = tables ++ tables_of (out-Block block).entries ∷ [];
  cond = (out-Block block).cond;
  item = item;
  place = place;
}

abbrev pub in_parts : List CondPart → Listing
in_parts parts tables = flat_map (λ (part : CondPart). part.meaning tables) parts

abbrev pub block_step : Block-F CondPart BlockPart → Listing
block_step block tables = block.cond.meaning (tables ++ tables_of block.entries ∷ [])

-- those inside a scalar subquery stand before it
abbrev pub scalar_step : Cond-F CondPart BlockPart → Listing
scalar_step Cond-F.True tables = []
scalar_step Cond-F.False tables = []
scalar_step (Cond-F.And parts) tables = in_parts parts tables
scalar_step (Cond-F.Or parts) tables = in_parts parts tables
scalar_step (Cond-F.Not part) tables = part.meaning tables
scalar_step (Cond-F.Compare op left right span) tables = []
scalar_step (Cond-F.IsNull t negated span) tables = []
scalar_step (Cond-F.Exists block span) tables = block.meaning tables
scalar_step (Cond-F.In t block item negated span) tables = block.meaning tables
scalar_step (Cond-F.Scalar op left block item span) tables =
    block.meaning tables ++ subquery tables block.itself item (out-Block block.itself).span ∷ []

abbrev pub is_column : Term → Bool
is_column (term.Cell level entry column added) = true
is_column (term.Number value unit) = false
is_column (term.Text text) = false
is_column term.Null = false

-- those inside a NOT IN subquery stand behind it
abbrev pub not_in_step : Cond-F CondPart BlockPart → Listing
not_in_step Cond-F.True tables = []
not_in_step Cond-F.False tables = []
not_in_step (Cond-F.And parts) tables = in_parts parts tables
not_in_step (Cond-F.Or parts) tables = in_parts parts tables
not_in_step (Cond-F.Not part) tables = part.meaning tables
not_in_step (Cond-F.Compare op left right span) tables = []
not_in_step (Cond-F.IsNull t negated span) tables = []
not_in_step (Cond-F.Exists block span) tables = block.meaning tables
not_in_step (Cond-F.In t block item negated span) tables =
    (if negated && is_column item then subquery tables block.itself item span ∷ [] else []) ++ block.meaning tables
not_in_step (Cond-F.Scalar op left block item span) tables = block.meaning tables

-- by the tables of the levels that the condition stands in
abbrev pub scalar_subqueries : Cond → Listing
scalar_subqueries cond = (described Listing Listing scalar_step block_step cond).meaning

abbrev pub not_in_subqueries : Cond → Listing
not_in_subqueries cond = (described Listing Listing not_in_step block_step cond).meaning

-- The scalar subqueries of a condition, in the order of their right parentheses, and its NOT IN subqueries that
-- select a column, in the order of their left parentheses, each with its whole block. Without the entries these
-- are the lists of lint_core, as the law `whole_subqueries_are_listed` says.
use Rattle.std.specs.Prelude.{ℕ, ◌&&◌, List, [], ◌∷◌, ◌++◌, if◌then◌else◌}
use Rattle.std.specs.List.{flat_map}
use Rattle.lint_base.specs.declared.place.Span.{Span}
use Rattle.lint_core.specs.declared.condition.Term.{Term}
use Rattle.lint_core.specs.declared.condition.Cond.{Cond}
use Rattle.lint_core.specs.declared.condition.Cond.TheOpen.{Cond-F, Block-F}
use Rattle.lint_core.specs.declared.condition.Block.{Block, out-Block}
use Rattle.lint_core.specs.Fits.{tables_of}
use Rattle.lint_core.specs.Parts.{With, described}
use Rattle.lint_core.specs.Subqueries.{Subquery, is_column}

-- a subquery: the tables of each level that its condition sees, its own last, its block, with the entries of FROM,
-- and what it selects. The place in the text is for a scalar subquery its own, from ( to ), and for NOT IN that of
-- the predicate
pub record WholeSubquery : Type 0 where
  pub tables : List (List ℕ)
  pub block : Block
  pub item : Term
  pub place : Span

-- as lint_core lists it: of the block the condition alone
abbrev pub without_entries : WholeSubquery → Subquery
without_entries s = record { tables = s.tables; cond = (out-Block s.block).cond; item = s.item; place = s.place }

-- those of a condition, or of a block, by the tables of the levels outside
abbrev pub Listing : Type 0
Listing = List (List ℕ) → List WholeSubquery

abbrev pub CondPart : Type 0
CondPart = With Cond Listing

abbrev pub BlockPart : Type 0
BlockPart = With Block Listing

abbrev pub whole : List (List ℕ) → Block → Term → Span → WholeSubquery
whole tables block item place = record {
  tables = tables ++ tables_of (out-Block block).entries ∷ [];
  block = block;
  item = item;
  place = place;
}

abbrev pub in_parts : List CondPart → Listing
in_parts parts tables = flat_map (λ (part : CondPart). part.meaning tables) parts

abbrev pub block_step : Block-F CondPart BlockPart → Listing
block_step block tables = block.cond.meaning (tables ++ tables_of block.entries ∷ [])

-- those of the parts, and those inside a subquery
abbrev pub inner_step : Cond-F CondPart BlockPart → Listing
inner_step Cond-F.True tables = []
inner_step Cond-F.False tables = []
inner_step (Cond-F.And parts) tables = in_parts parts tables
inner_step (Cond-F.Or parts) tables = in_parts parts tables
inner_step (Cond-F.Not part) tables = part.meaning tables
inner_step (Cond-F.Compare op left right span) tables = []
inner_step (Cond-F.IsNull t negated span) tables = []
inner_step (Cond-F.Exists block span) tables = block.meaning tables
inner_step (Cond-F.In t block item negated span) tables = block.meaning tables
inner_step (Cond-F.Scalar op left block item span) tables = block.meaning tables

-- those inside a scalar subquery stand before it
abbrev pub scalar_step : Cond-F CondPart BlockPart → Listing
scalar_step (Cond-F.Scalar op left block item span) tables =
    block.meaning tables ++ whole tables block.itself item (out-Block block.itself).span ∷ []
scalar_step layer tables = inner_step layer tables

-- those inside a NOT IN subquery stand behind it
abbrev pub not_in_step : Cond-F CondPart BlockPart → Listing
not_in_step (Cond-F.In t block item negated span) tables =
    (if negated && is_column item then whole tables block.itself item span ∷ [] else []) ++ block.meaning tables
not_in_step layer tables = inner_step layer tables

-- by the tables of the levels that the condition stands in
abbrev pub whole_scalars : Cond → Listing
whole_scalars cond = (described Listing Listing scalar_step block_step cond).meaning

abbrev pub whole_not_ins : Cond → Listing
whole_not_ins cond = (described Listing Listing not_in_step block_step cond).meaning

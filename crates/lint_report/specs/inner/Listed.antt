-- The places of the scalar subqueries, of the predicates, or of the NOT IN subqueries that select a column of a condition, layer by layer:
-- those of the lists in `Subqueries` and `Predicates` of lint_core.
use Rattle.std.specs.Prelude.{Bool, ◌&&◌, List, [], ◌∷◌, ◌++◌, if◌then◌else◌}
use Rattle.std.specs.List.{flat_map}
use Rattle.lint_base.specs.declared.place.Span.{Span}
use Rattle.lint_core.specs.declared.condition.Cond.{Cond, fold-Cond}
use Rattle.lint_core.specs.declared.condition.Cond.TheOpen.{Cond-F, Block-F}
use Rattle.lint_core.specs.declared.condition.Block.{Block, fold-Block}
use Rattle.lint_core.specs.declared.query.Query.{Query}
use Rattle.lint_core.specs.Asked.{main_condition, scalars_of, not_ins_of}
use Rattle.lint_core.specs.Predicates.{predicates}
use Rattle.lint_core.specs.Subqueries.{is_column}
use Rattle.lint_report.specs.declared.listing.Listed.{Listed}
use Rattle.lint_report.specs.declared.listing.Listed.TheVariants.{Scalars, Predicates, NotIns}
use Rattle.lint_report.specs.declared.listing.Places.{Places}
use Rattle.lint_report.specs.QuestionPlaces.{subquery_places}

-- a block's own place, and those in its condition
pub record Inside : Type 0 where
  pub place : Span
  pub within : List Span

abbrev pub of_predicate : Listed → Span → List Span
of_predicate Scalars span = []
of_predicate Predicates span = span ∷ []
of_predicate NotIns span = []

-- by whether it is a NOT IN that selects a column
abbrev pub of_in : Listed → Bool → Span → List Span
of_in Scalars counts span = []
of_in Predicates counts span = span ∷ []
of_in NotIns counts span = if counts then span ∷ [] else []

abbrev pub of_scalar : Listed → Span → Inside → List Span
of_scalar Scalars span block = block.within ++ block.place ∷ []
of_scalar Predicates span block = span ∷ []
of_scalar NotIns span block = block.within

abbrev pub places_step : Listed → Cond-F (List Span) Inside → List Span
places_step listed Cond-F.True = []
places_step listed Cond-F.False = []
places_step listed (Cond-F.And parts) = flat_map (λ part. part) parts
places_step listed (Cond-F.Or parts) = flat_map (λ part. part) parts
places_step listed (Cond-F.Not part) = part
places_step listed (Cond-F.Compare op left right span) = of_predicate listed span
places_step listed (Cond-F.IsNull t negated span) = of_predicate listed span
places_step listed (Cond-F.Exists block span) = of_predicate listed span ++ block.within
places_step listed (Cond-F.In t block item negated span) = of_in listed (negated && is_column item) span ++ block.within
places_step listed (Cond-F.Scalar op left block item span) = of_scalar listed span block

abbrev pub block_step : Block-F (List Span) Inside → Inside
block_step block = record { place = block.span; within = block.cond }

abbrev pub places : Listed → Cond → List Span
places listed = fold-Cond (List Span) Inside (places_step listed) block_step

abbrev pub inside : Listed → Block → Inside
inside listed = fold-Block (List Span) Inside (places_step listed) block_step

-- the places of a query's subqueries and predicates
abbrev pub places_of : Query → Places
places_of query = record {
  scalars = subquery_places (scalars_of query);
  predicates = predicates (main_condition query);
  not_ins = subquery_places (not_ins_of query);
}

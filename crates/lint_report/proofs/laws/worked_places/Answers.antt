-- the lists of the query's subqueries and predicates, part by part
use Rattle.std.proofs.Common.{◌≡◌, ◌∙◌, sym, ap, ap₂, true, false, List, [], ◌∷◌, ◌++◌}
use Rattle.std.specs.Prelude.{Some, option_map, slice_get}
use Rattle.lint_base.specs.declared.place.Span.{Span}
use Rattle.lint_tables.specs.declared.op.Op.TheVariants.{Eq}
use Rattle.lint_core.specs.declared.condition.Block.{Block, roll-Block, out-roll-Block}
use Rattle.lint_core.specs.declared.condition.Cond.{Cond}
use Rattle.lint_core.specs.declared.condition.Cond.TheOpen.{Cond-F, Block-F}
use Rattle.lint_core.specs.declared.condition.Cond.TheVariants as c
use Rattle.lint_core.specs.declared.condition.Entry.{Entry}
use Rattle.lint_core.specs.Asked.{main_condition, scalars_of, not_ins_of}
use Rattle.lint_core.specs.Predicates.{predicates}
use Rattle.lint_report.specs.declared.listing.Listed.{Listed}
use Rattle.lint_report.specs.declared.listing.Listed.TheVariants.{Scalars, Predicates, NotIns}
use Rattle.lint_report.specs.inner.Listed.{Inside, of_predicate, of_in, of_scalar, places}
use Rattle.lint_report.specs.QuestionPlaces.{subquery_places}
use Rattle.lint_report.specs.Worked.{from_to, main_column, inner_column, one_row, null_rows, two_conds, two_entries, placed}
use Rattle.lint_report.proofs.ListedPlaces.{places_out, places_and, places_in, places_scalar, inside_of, scalars_listed, predicates_listed, not_ins_listed}
use Rattle.lint_report.proofs.laws.worked_places.Goals as goal

module _ (listed : Listed) where
  of_one_row : inside_of listed (roll-Block one_row) ≡ record { place = from_to 45 62; within = [] }
  of_one_row =
      ap (λ (b : Block-F Cond Block). let inside : Inside = record { place = b.span; within = places listed b.cond } in inside) (out-roll-Block one_row)
      ∙ ap (λ (spans : List Span). let inside : Inside = record { place = from_to 45 62; within = spans } in inside) (places_out listed c.True Cond-F.True c.rolls-True)

  of_null_rows : places listed (c.IsNull inner_column false (from_to 99 108)) ≡ of_predicate listed (from_to 99 108)
  of_null_rows = places_out listed (c.IsNull inner_column false (from_to 99 108)) (Cond-F.IsNull inner_column false (from_to 99 108)) (c.rolls-IsNull inner_column false (from_to 99 108))

  first_places : places listed (c.Scalar Eq main_column (roll-Block one_row) inner_column (from_to 41 62)) ≡ of_scalar listed (from_to 41 62) (record { place = from_to 45 62; within = [] })
  first_places = places_scalar listed Eq main_column (roll-Block one_row) inner_column (from_to 41 62) ∙ ap (of_scalar listed (from_to 41 62)) of_one_row

  second_places : places listed (c.In main_column (roll-Block null_rows) inner_column true (from_to 67 109)) ≡ of_in listed true (from_to 67 109) ++ of_predicate listed (from_to 99 108)
  second_places =
      places_in listed main_column (roll-Block null_rows) inner_column true (from_to 67 109)
      ∙ ap (λ (spans : List Span). of_in listed true (from_to 67 109) ++ spans) (ap (λ (b : Block-F Cond Block). places listed b.cond) (out-roll-Block null_rows) ∙ of_null_rows)

  all_places : places listed (main_condition placed)
      ≡ of_scalar listed (from_to 41 62) (record { place = from_to 45 62; within = [] }) ++ ((of_in listed true (from_to 67 109) ++ of_predicate listed (from_to 99 108)) ++ [])
  all_places =
      ap (λ (b : Block-F Cond Block). places listed b.cond) (out-roll-Block two_entries)
      ∙ (places_and listed two_conds ∙ ap₂ (λ (x y : List Span). x ++ (y ++ [])) first_places second_places)

the_scalars : subquery_places (scalars_of placed) ≡ from_to 45 62 ∷ []
the_scalars = sym (scalars_listed placed) ∙ all_places Scalars

the_predicates : predicates (main_condition placed) ≡ from_to 41 62 ∷ from_to 67 109 ∷ from_to 99 108 ∷ []
the_predicates = sym (predicates_listed placed) ∙ all_places Predicates

the_not_ins : subquery_places (not_ins_of placed) ≡ from_to 67 109 ∷ []
the_not_ins = sym (not_ins_listed placed) ∙ all_places NotIns

pub returns-clause-one_row : goal.returns-clause-one_row
returns-clause-one_row c = ap (λ (spans : List Span). slice_get spans 0) the_scalars

pub returns-clause-empty : goal.returns-clause-empty
returns-clause-empty c = ap (λ (b : Block-F Cond Block). Some b.span) (out-roll-Block two_entries)

pub returns-clause-join : goal.returns-clause-join
returns-clause-join c = ap (λ (b : Block-F Cond Block). option_map (λ (e : Entry). e.span) (slice_get b.entries 0)) (out-roll-Block two_entries)

pub returns-clause-implied : goal.returns-clause-implied
returns-clause-implied c = ap (λ (spans : List Span). slice_get spans 0) the_predicates

pub returns-clause-implied_inside : goal.returns-clause-implied_inside
returns-clause-implied_inside c = ap (λ (spans : List Span). slice_get spans 2) the_predicates

pub returns-clause-impossible : goal.returns-clause-impossible
returns-clause-impossible c = ap (λ (spans : List Span). slice_get spans 1) the_predicates

pub returns-clause-same_row : goal.returns-clause-same_row
returns-clause-same_row c = ap (λ (b : Block-F Cond Block). option_map (λ (e : Entry). e.span) (slice_get b.entries 1)) (out-roll-Block two_entries)

pub returns-clause-null_in_not_in : goal.returns-clause-null_in_not_in
returns-clause-null_in_not_in c = ap (λ (spans : List Span). slice_get spans 0) the_not_ins

-- What is found of a counter, in the words of its contract.
use Rattle.std.proofs.Common.{◌≡◌, ◌∙◌, sym, ap, ap₂, ℕ, true, List, length}
use Rattle.std.specs.Prelude.{Option}
use Rattle.lint_core.specs.declared.database.Counter.{Counter}
use Rattle.lint_core.specs.declared.database.Points.{Points}
use Rattle.lint_core.specs.declared.database.Value.{Value}
use Rattle.lint_core.specs.declared.query.Query.{Query}
use Rattle.lint_core.specs.declared.query.Question.{Question}
use Rattle.lint_core.specs.declared.schema.Table.{Table}
use Rattle.sort_formula.specs.CounterPoints.{are_there, points_of}
use Rattle.sorted_skolem.specs.declared.term.RowTerm.{RowTerm}
use Rattle.ground_theory.specs.declared.literal.Assignment.{Assignment}
use Rattle.instantiate.specs.declared.problem.Problem.{Problem}
use Rattle.instantiate.specs.Cases.{IsDatabaseOf}
use Rattle.witness_db.specs.Leading.{IsCounterOf, leading_places}
use Rattle.witness_db.specs.inner.Fitting.{ArePoints, fitting_of, lead_of}
use Rattle.witness_db.proofs.Refuting.{lead_is}

module _ (schema : List Table) (query : Query) (question : Question) where
  -- of equal terms and places
  pub points_are : (terms others : List RowTerm) (places same : List (Option ℕ)) (points : Points) → terms ≡ others → places ≡ same →
      ArePoints query terms places (fitting_of schema query terms places question) question points → ArePoints query others same (fitting_of schema query others same question) question points
  points_are terms others places same points of_terms of_places are =
      are ∙ ap₂ (λ ts ps. points_of query question (leading_places ts ps (length (lead_of query question))) (fitting_of schema query ts ps question)) of_terms of_places

  pub is_counter : (given : Value) (problem : Problem) (choices : List (Option ℕ)) (a : Assignment) (found : Counter) (places : List (Option ℕ)) → IsDatabaseOf problem choices a found.database places →
      are_there query found.database question (fitting_of schema query problem.rows.terms places question) ≡ true →
      ArePoints query problem.rows.terms places (fitting_of schema query problem.rows.terms places question) question found.points → IsCounterOf schema query question given problem choices a found
  is_counter given problem choices a found places made there are = record {
    places = places;
    rows = made;
    fitting = fitting_of schema query problem.rows.terms places question;
    there = there;
    points =
        are
        ∙ ap (λ (lead : List ℕ). points_of query question (leading_places problem.rows.terms places (length lead)) (fitting_of schema query problem.rows.terms places question))
        (sym (lead_is schema query question given));
  }

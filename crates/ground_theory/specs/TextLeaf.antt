-- The Text leaf that a chain of equal facts makes. The chain names the facts, each taken either way; walking along it gives
-- the way.
use Rattle.std.specs.Prelude.{ℕ, Bool, false, not, nat_eq, List, [], ◌∷◌, Option, Some, None, slice_index_or, if◌then◌else◌}
use Rattle.lint_core.specs.declared.certificate.Step.{Step}
use Rattle.lint_core.specs.declared.certificate.Step.TheVariants as step
use Rattle.lint_core.specs.declared.certificate.TextEdge.{TextEdge}
use Rattle.lint_core.specs.declared.certificate.TextEdge.TheVariants as edge
use Rattle.lint_core.specs.Comparison.{is_same_text}
use Rattle.text_classes.specs.declared.facts.TextEnd.{TextEnd}
use Rattle.text_classes.specs.declared.facts.TextEnd.TheVariants as end
use Rattle.text_classes.specs.declared.facts.TextFact.{TextFact}
use Rattle.text_classes.specs.Paths.{fact_at}
use Rattle.ground_theory.specs.TextEdges.{fact_in}

abbrev pub is_same_end : TextEnd → TextEnd → Bool
is_same_end (end.Var n) (end.Var m) = nat_eq n m
is_same_end (end.Var n) (end.Text other) = false
is_same_end (end.Text text) (end.Var m) = false
is_same_end (end.Text text) (end.Text other) = is_same_text text other

abbrev pub back_of : TextEdge → TextEdge
back_of (edge.Fact fact) = edge.FactBack fact
back_of (edge.FactBack fact) = edge.Fact fact
back_of (edge.Same fact column) = edge.Back fact column
back_of (edge.Back fact column) = edge.Same fact column

abbrev pub text_origin_at : List TextEdge → ℕ → TextEdge
text_origin_at origins number = slice_index_or origins number (edge.Fact 0)

-- two texts, and not the same
abbrev pub are_apart : TextEnd → Option TextEnd → Bool
are_apart (end.Text text) (Some (end.Text other)) = not (is_same_text text other)
are_apart (end.Text text) (Some (end.Var n)) = false
are_apart (end.Text text) None = false
are_apart (end.Var n) other = false

module _ (origins : List TextEdge) (facts : List TextFact) where
  -- each fact from the side where the one before ends
  abbrev pub walk : TextEnd → List ℕ → List TextEdge
  walk from [] = []
  walk from (n ∷ ns) =
      if is_same_end from (fact_at facts n).left then text_origin_at origins n ∷ walk (fact_at facts n).right ns
      else back_of (text_origin_at origins n) ∷ walk (fact_at facts n).left ns

  -- where the walk ends; nowhere if a fact has no side where the one before ends
  abbrev pub end_of : TextEnd → List ℕ → Option TextEnd
  end_of from [] = Some from
  end_of from (n ∷ ns) =
      if is_same_end from (fact_at facts n).left then end_of (fact_at facts n).right ns
      else if is_same_end from (fact_at facts n).right then end_of (fact_at facts n).left ns else None

  -- the side of the first fact from which the walk leads to another text
  abbrev pub start_of : List ℕ → TextEnd
  start_of [] = end.Text []
  start_of (n ∷ ns) = if are_apart (fact_at facts n).left (end_of (fact_at facts n).left (n ∷ ns)) then (fact_at facts n).left else (fact_at facts n).right

  -- the leaf of a path
  abbrev pub text_leaf : Option ℕ → List ℕ → Step
  text_leaf (Some last) path = step.Text (Some (fact_in (text_origin_at origins last))) (walk (fact_at facts last).left path)
  text_leaf None path = step.Text None (walk (start_of path) path)

-- A limit that is passed.
use Rattle.std.proofs.Common.{◌≡◌, ◌∙◌, sym, ap, refl, subst, ℕ, ◌-◌, ◌^◌, ◌<◌, ◌≤◌, List, length}
use Rattle.std.proofs.lemmas.List.{length-map}
use Rattle.std.specs.Prelude.{min}
use Rattle.sort_formula.specs.declared.formula.Formula.{Formula}
use Rattle.sorted_skolem.specs.declared.term.RowTerm.{RowTerm}
use Rattle.sorted_skolem.specs.Graph.{IsAcyclic, IsOrder}
use Rattle.sorted_skolem.specs.Preorder.{outlines_of}
use Rattle.sorted_skolem.specs.Stops.{AreMany}
use Rattle.instantiate.specs.Ground.{clause_of, keys}
use Rattle.lint_engine.specs.JudgedBy.{rows_for, clauses_for}
use Rattle.lint_engine.specs.Limits.{HaveFewNodes, HasManyNodes, by_nodes, by_rows, by_clauses, counted}
use Rattle.lint_engine.specs.inner.Problems.{IsPassed}

module _ (ss : List Formula) (order : List ℕ) (acyclic : IsAcyclic ss) (is_order : IsOrder ss order) where
  pub passed_nodes : HasManyNodes ss → IsPassed ss 0 (2 ^ 64 - 1)
  passed_nodes many = record { acyclic = acyclic; order = order; is_order = is_order; too_large = by_nodes many refl refl }

  pub passed_rows : (count : ℕ) → HaveFewNodes ss → AreMany (rows_for ss order) count → IsPassed ss count 0
  passed_rows count nodes many = record { acyclic = acyclic; order = order; is_order = is_order; too_large = by_rows nodes many.many many.counted refl }

  pub passed_clauses : (terms : List RowTerm) (rows count : ℕ) → HaveFewNodes ss → terms ≡ rows_for ss order → length terms ≤ 512 → rows ≡ length terms →
      400000 < length (keys (outlines_of ss) order terms) → count ≡ min (length (keys (outlines_of ss) order terms)) (2 ^ 64 - 1) → IsPassed ss rows count
  passed_clauses terms rows count nodes are few many more is = record {
    acyclic = acyclic;
    order = order;
    is_order = is_order;
    too_large =
        by_clauses nodes (subst (λ (ts : List RowTerm). length ts ≤ 512) are few) (subst (λ n. 400000 < n) same more) (many ∙ ap length are) (is ∙ ap counted same);
  }
    where
      same : length (keys (outlines_of ss) order terms) ≡ length (clauses_for ss order)
      same =
          ap (λ (ts : List RowTerm). length (keys (outlines_of ss) order ts)) are
          ∙ sym (length-map (keys (outlines_of ss) order (rows_for ss order)) (clause_of (outlines_of ss) order (rows_for ss order)))

-- The problem that is made within the limits.
use Rattle.std.proofs.Common.{◌≡◌, sym, subst, ℕ, suc, ◌^◌, ◌<◌, ◌≤◌, true, List, [], length}
use Rattle.std.proofs.lemmas.Option.{slice_get_within, get_or_from_slice_get}
use Rattle.std.specs.Prelude.{All, Some, slice_get}
use Rattle.std.specs.List.{list_all}
use Rattle.lint_core.specs.declared.schema.Table.{Table}
use Rattle.lint_core.specs.Database.{below}
use Rattle.lint_core.specs.Schema.{is_schema}
use Rattle.sort_formula.specs.declared.formula.Formula.{Formula}
use Rattle.sort_formula.specs.Sentences.{formula_fits, is_sentence}
use Rattle.sorted_skolem.specs.Graph.{IsAcyclic}
use Rattle.instantiate.specs.declared.problem.Problem.{Problem}
use Rattle.instantiate.specs.Cases.{IsProblem}
use Rattle.lint_engine.specs.Limits.{HaveFewNodes}
use Rattle.lint_engine.specs.inner.Problems.{IsReady}

each_is : (ss : List Formula) → All (λ s. is_sentence s ≡ true) ss → (i : ℕ) (s : Formula) → slice_get ss i ≡ Some s → is_sentence s ≡ true
each_is ss all i s at = subst (λ (g : Formula). is_sentence g ≡ true) (get_or_from_slice_get ss i s s at) (all i s (slice_get_within ss i s at))

pub ready_from : (schema : List Table) (ss : List Formula) (problem : Problem) → is_schema schema ≡ true → IsProblem schema problem → problem.sentences ≡ ss → problem.numbers ≡ below (suc (length ss)) →
    length problem.clauses ≤ 400000 → length problem.rows.terms ≤ 512 → length ss < 2 ^ 31 → All (λ s. is_sentence s ≡ true) ss → list_all (λ s. formula_fits schema s []) ss ≡ true → HaveFewNodes ss → IsAcyclic ss →
    IsReady schema ss problem
ready_from schema ss problem right is same numbers clauses rows few closed fit nodes acyclic = record {
  grounded = record {
    right = right;
    problem_is = is;
    closed = each_is problem.sentences (subst (All (λ s. is_sentence s ≡ true)) (sym same) closed);
    fits = subst (λ (xs : List Formula). list_all (λ s. formula_fits schema s []) xs ≡ true) (sym same) fit;
    few_nodes = subst HaveFewNodes (sym same) nodes;
    few_rows = rows;
  };
  sentences_are = same;
  numbers_are = numbers;
  few_clauses = clauses;
  few_sentences = few;
  acyclic = acyclic;
}

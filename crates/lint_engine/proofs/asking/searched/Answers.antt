use Rattle.std.proofs.Common.{◌≤◌, List, length, sym, subst, true, ◌≡◌}
use Rattle.std.specs.Prelude.{IfOk}
use Rattle.ground_theory.specs.declared.literal.Clause.{Clause}
use Rattle.case_split.specs.Answers.{IsAnswer}
use Rattle.case_split.specs.Fitting.{are_fit, have_few_ways}
use Rattle.lint_engine.proofs.asking.searched.Goals as goal

pub search-requires : goal.search-requires
search-requires c =
    let schema = c.args.schema.now in
    let problem = c.args.problem.now in
    let same = sym c.as_slice.ensures in
    record {
      frame = c.problems_can_be_searched.ensures.frame schema problem c.requires.grounded;
      fitting = subst (λ (cs : List Clause). are_fit problem.frame cs ≡ true) same (c.problems_can_be_searched.ensures.fitting schema problem c.requires.grounded);
      count = subst (λ (cs : List Clause). length cs ≤ 400000) same c.requires.few;
      ways = subst (λ (cs : List Clause). have_few_ways cs ≡ true) same (c.problems_can_be_searched.ensures.ways schema problem c.requires.grounded);
    }

pub returns : goal.returns
returns c = subst (λ (cs : List Clause). IfOk c.search.result (IsAnswer cs c.args.problem.now.frame c.args.budget)) c.as_slice.ensures c.search.ensures

-- Where the sentences stand at their numbers, a tree that is closed under no choice gives steps that close all.
use Rattle.std.proofs.Common.{◌≡◌, ◌∙◌, sym, ap, refl, subst, ℕ, zero, suc, ◌+◌, ◌<◌, inl, inr, true, false, List, [], ◌∷◌, length, arith}
use Rattle.std.proofs.lemmas.Option.{same_Some, slice_get_within}
use Rattle.std.specs.Prelude.{Option, Some, slice_get}
use Rattle.std.specs.Option.{option_map_or}
use Rattle.lint_core.specs.declared.certificate.Step.{Step}
use Rattle.lint_core.specs.declared.schema.Table.{Table}
use Rattle.sort_formula.specs.declared.formula.Formula.{Formula}
use Rattle.sort_formula.specs.Certificate.{fact_of, first_branch, branches_after, are_closed, accepts}
use Rattle.sort_formula.specs.Sentences.{is_sentence}
use Rattle.sort_formula.specs.Facts.{Fact, Branch}
use Rattle.case_split.specs.declared.tree.CaseTree.{CaseTree}
use Rattle.case_split.specs.Trees.{is_closed}
use Rattle.ground_theory.specs.declared.literal.Frame.{Frame}
use Rattle.instantiate.specs.declared.problem.Problem.{Problem}
use Rattle.instantiate.specs.Cases.{IsProblem}
use Rattle.instantiate.specs.Ground.{domains_of}
use Rattle.instantiate.proofs.Hung.{hangs_together}
use Rattle.instantiate.specs.Hanging.{IsRoot, Hanging}
use Rattle.proof_cert.specs.inner.Known.{Pairs, IsIn, row_of, IsKnown, HasFact, Grounded}
use Rattle.proof_cert.proofs.Leaves.{closed_refutes}

module _ (schema : List Table) (problem : Problem) (hanging : Hanging problem) (same_domains : domains_of schema ≡ problem.frame.domains) (start : List Fact)
    (stand : (sentence : ℕ) (formula : Formula) → slice_get problem.sentences sentence ≡ Some formula → (n : ℕ) × (slice_get start n ≡ Some (fact_of [] formula))) where
  abbrev first : Branch
  first = record { facts = start; tables = [] }

  -- the roots of the sentences from a number on
  abbrev Rooted : ℕ → List Formula → Type 0
  Rooted i ss =
      (pairs : Pairs) × ((clause fact : ℕ) → IsIn pairs (clause, fact) → HasFact problem first (row_of []) clause fact)
      × ((sentence j clause : ℕ) → sentence ≡ i + j → j < length ss → IsRoot problem sentence clause → IsKnown pairs clause)

  rooted : (i : ℕ) (ss : List Formula) → ((j : ℕ) (f : Formula) → slice_get ss j ≡ Some f → slice_get problem.sentences (i + j) ≡ Some f) → Rooted i ss
  rooted i [] at = ([], (λ clause fact is. absurd is), λ sentence j clause same low root. absurd (omega arith))
  rooted i (f ∷ fs) at =
      let plain : i + 0 ≡ i = omega arith in
      let here : slice_get problem.sentences i ≡ Some f = subst (λ n. slice_get problem.sentences n ≡ Some f) plain (at 0 f refl) in
      let root = hanging.roots i f here in
      let fact = stand i f here in
      let rest = rooted (suc i) fs (λ j g there. let e : i + suc j ≡ suc i + j = omega arith in subst (λ n. slice_get problem.sentences n ≡ Some g) e (at (suc j) g there)) in
      let same : root.1.formula ≡ f = same_Some root.1.formula f (sym root.1.is_sentence ∙ here) in
      let has : HasFact problem first (row_of []) root.0 fact.0 = record {
        formula = root.1.formula;
        variables = [];
        named = [];
        stands = root.1.stands;
        is_fact = fact.1 ∙ ap (λ (g : Formula). Some (fact_of [] g)) (sym same);
        names = tt;
      } in (
        (root.0, fact.0) ∷ rest.0,
        (λ clause n is. elim is [
          | inl one ↦ subst (λ (p : ℕ × ℕ). HasFact problem first (row_of []) p.0 p.1) one has
          | inr later ↦ rest.1 clause n later
        ]),
        λ sentence j clause is low other. known_at i fs root.0 fact.0 rest sentence j clause is low (λ e. root.2 clause (subst (λ s. IsRoot problem s clause) e other)) other,
      )
    where
      known_at : (i : ℕ) (fs : List Formula) (root fact : ℕ) (rest : Rooted (suc i) fs) (sentence j clause : ℕ) → sentence ≡ i + j → j < suc (length fs) →
          (sentence ≡ i → clause ≡ root) → IsRoot problem sentence clause → IsKnown ((root, fact) ∷ rest.0) clause
      known_at i fs root fact rest sentence zero clause is low one other =
          let e : sentence ≡ i = omega arith in
          (fact, inl (ap (λ k. (k, fact)) (sym (one e))))
      known_at i fs root fact rest sentence (suc j) clause is low one other =
          let more = rest.2 sentence j clause (omega arith) (omega arith) other in
          (more.0, inr more.1)

  sentence_there : (sentence clause : ℕ) → IsRoot problem sentence clause → sentence < length problem.sentences
  sentence_there sentence clause root = slice_get_within problem.sentences sentence root.formula root.is_sentence

  -- the steps lead from the start to no branch
  pub tree_accepted : (tree : CaseTree) → is_closed problem.clauses problem.frame tree [] ≡ true → (steps : List Step) × (branches_after schema steps (first ∷ []) ≡ Some [])
  tree_accepted tree closed =
      let all = rooted 0 problem.sentences (λ j f at. let e : 0 + j ≡ j = omega arith in subst (λ n. slice_get problem.sentences n ≡ Some f) (sym e) at) in
      let grounded : Grounded problem first all.0 [] [] = record {
        is = all.1;
        tables = λ row named at. cc;
        made = λ row named maker table at is. cc;
        done = λ guard among. cc;
        roots = λ sentence clause root. all.2 sentence sentence clause (omega arith) (sentence_there sentence clause root) root;
      } in
      let steps = closed_refutes schema problem hanging same_domains tree [] closed first all.0 [] grounded in
      (steps.0, steps.1 [])

-- of a problem over a schema: steps that refute a sentence, where it and the axioms have the problem's sentences among them
pub problem_refuted : (schema : List Table) (problem : Problem) → IsProblem schema problem →
    ((sentence : ℕ) (formula : Formula) → slice_get problem.sentences sentence ≡ Some formula → is_sentence formula ≡ true) → (counter : Formula) →
    ((sentence : ℕ) (formula : Formula) → slice_get problem.sentences sentence ≡ Some formula → (n : ℕ) × (slice_get (first_branch schema counter).facts n ≡ Some (fact_of [] formula))) →
    (tree : CaseTree) → is_closed problem.clauses problem.frame tree [] ≡ true → (steps : List Step) × (accepts schema counter steps ≡ true)
problem_refuted schema problem is closed counter stand tree tree_closed =
    let hanging = hangs_together schema problem is closed in
    let steps = tree_accepted schema problem hanging (sym (ap (λ (f : Frame). f.domains) is.frame)) (first_branch schema counter).facts stand tree tree_closed in
    (steps.0, ap (λ (o : Option (List Branch)). option_map_or are_closed o false) steps.1)

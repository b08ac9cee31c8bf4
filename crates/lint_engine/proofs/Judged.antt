-- What is known of a problem within the limits, and of the steps and the database that come of it.
use Rattle.std.proofs.Common.{◌≡◌, ◌∙◌, sym, ap, refl, subst, ℕ, suc, ◌<◌, ◌≤◌, true, false, List, [], ◌∷◌, length, map, get_or, arith}
use Rattle.std.proofs.lemmas.List.{length-map}
use Rattle.std.proofs.lemmas.List.Elements.{Contains-append_right}
use Rattle.std.proofs.lemmas.Option.{same_Some, slice_get-map, slice_get-get_or, slice_get_within, get_or_from_slice_get}
use Rattle.std.specs.Prelude.{Option, Some, slice_get, All}
use Rattle.std.specs.List.{Contains}
use Rattle.std.specs.Option.{option_map, option_map_or}
use Rattle.lint_core.specs.declared.certificate.Step.{Step}
use Rattle.lint_core.specs.declared.database.Value.{Value}
use Rattle.lint_core.specs.declared.query.Query.{Query}
use Rattle.lint_core.specs.declared.query.Question.{Question}
use Rattle.lint_core.specs.declared.schema.Table.{Table}
use Rattle.lint_core.specs.Database.{below}
use Rattle.lint_core.proofs.Lists.{below_at}
use Rattle.sort_formula.specs.declared.formula.Formula.{Formula}
use Rattle.sort_formula.specs.Axioms.{Axiom, axioms}
use Rattle.sort_formula.specs.Certificate.{accepts, are_closed, fact_of, first_branch}
use Rattle.sort_formula.specs.Counters.{counter_sentence}
use Rattle.sort_formula.specs.Facts.{Branch, Fact}
use Rattle.sorted_skolem.specs.declared.term.RowTerm.{RowTerm}
use Rattle.sorted_skolem.specs.Graph.{IsOrder}
use Rattle.sorted_skolem.specs.Preorder.{outlines_of}
use Rattle.ground_theory.specs.declared.literal.Clause.{Clause}
use Rattle.ground_theory.specs.declared.literal.Frame.{Frame}
use Rattle.case_split.specs.Answers.{HasSpent}
use Rattle.instantiate.specs.declared.problem.Problem.{Problem}
use Rattle.instantiate.specs.Ground.{clauses_of, frame_of}
use Rattle.proof_cert.specs.Steps.{AreSteps}
use Rattle.lint_engine.specs.Asking.{InOrder, IsWithinLimits, IsSpent}
use Rattle.lint_engine.specs.JudgedBy.{sentences_for, rows_for, clauses_for, frame_for}
use Rattle.lint_engine.specs.Limits.{HaveFewNodes, AreFew}
use Rattle.lint_engine.specs.Settled.{with_axioms, HaveOrder, AreSpent, judged}
use Rattle.lint_engine.specs.inner.Problems.{IsReady}

abbrev said_by : Axiom → Formula
said_by a = a.sentence

-- ---- what the problem is made of

module _ (schema : List Table) (ss : List Formula) (problem : Problem) (ready : IsReady schema ss problem) where
  abbrev order : List ℕ
  order = problem.order.tables

  order_is : IsOrder ss order
  order_is = subst (λ (xs : List Formula). IsOrder xs order) ready.sentences_are ready.grounded.problem_is.order

  rows_are : problem.rows.terms ≡ rows_for ss order
  rows_are = ready.grounded.problem_is.terms ∙ ap (λ (xs : List Formula). rows_for xs order) ready.sentences_are

  clauses_are : problem.clauses ≡ clauses_for ss order
  clauses_are =
      ready.grounded.problem_is.clauses
      ∙ (ap (λ (ts : List RowTerm). clauses_of (outlines_of problem.sentences) order ts) rows_are
      ∙ ap (λ (xs : List Formula). clauses_of (outlines_of xs) order (rows_for ss order)) ready.sentences_are)

  frame_is : problem.frame ≡ frame_for schema ss order
  frame_is = ready.grounded.problem_is.frame ∙ ap (frame_of schema) rows_are

  are_few : AreFew ss order
  are_few = record {
    nodes = subst HaveFewNodes ready.sentences_are ready.grounded.few_nodes;
    rows = subst (λ (ts : List RowTerm). length ts ≤ 512) rows_are ready.grounded.few_rows;
    clauses = subst (λ (cs : List Clause). length cs ≤ 400000) clauses_are ready.few_clauses;
  }

-- ---- what comes of a problem whose first sentence this is

module _ (schema : List Table) (sentence : Formula) (problem : Problem) (ready : IsReady schema (with_axioms schema sentence) problem) where
  abbrev ss : List Formula
  ss = with_axioms schema sentence

  pub stands_first : slice_get problem.sentences 0 ≡ Some sentence
  stands_first = ap (λ (xs : List Formula). slice_get xs 0) ready.sentences_are

  -- each axiom is among the sentences
  pub axioms_stand : All (λ (x : Axiom). Contains problem.sentences x.sentence) (axioms schema)
  axioms_stand i d low =
      let xs = axioms schema in
      let x : Axiom = get_or xs i d in
      let at : slice_get (map said_by xs) i ≡ Some x.sentence = slice_get-map said_by xs i ∙ ap (option_map said_by) (slice_get-get_or xs i d low) in
      let among : Contains (map said_by xs) x.sentence = (i, slice_get_within (map said_by xs) i x.sentence at, get_or_from_slice_get (map said_by xs) i x.sentence x.sentence at) in
      subst (λ (ys : List Formula). Contains ys x.sentence) (sym ready.sentences_are)
      (Contains-append_right (sentence ∷ []) (map said_by xs) x.sentence among)

  -- ---- the facts of a certificate

  abbrev facts : List Fact
  facts = (first_branch schema sentence).facts

  facts_are : facts ≡ map (fact_of []) ss
  facts_are = ap (λ (fs : List Fact). fact_of [] sentence ∷ fs) (twice (axioms schema))
    where
      twice : (xs : List Axiom) → map (λ (a : Axiom). fact_of [] a.sentence) xs ≡ map (fact_of []) (map (λ (a : Axiom). a.sentence) xs)
      twice [] = refl
      twice (x ∷ xs) = ap (λ (fs : List Fact). fact_of [] x.sentence ∷ fs) (twice xs)

  fact_at : (sentence number : ℕ) (formula : Formula) → slice_get problem.sentences sentence ≡ Some formula → slice_get problem.numbers sentence ≡ Some number →
      slice_get facts number ≡ Some (fact_of [] formula)
  fact_at sentence number formula here numbered =
      let stands : slice_get ss sentence ≡ Some formula = ap (λ (xs : List Formula). slice_get xs sentence) (sym ready.sentences_are) ∙ here in
      let low : sentence < length ss = slice_get_within ss sentence formula stands in
      let same : sentence ≡ number =
      same_Some sentence number (sym (below_at (suc (length ss)) sentence (omega arith)) ∙ (ap (λ (ns : List ℕ). slice_get ns sentence) (sym ready.numbers_are) ∙ numbered)) in
      ap (λ (fs : List Fact). slice_get fs number) facts_are
      ∙ (slice_get-map (fact_of []) ss number
      ∙ ap (option_map (fact_of [])) (ap (slice_get ss) (sym same) ∙ stands))

  last_is : slice_get problem.numbers (length problem.sentences) ≡ Some (length facts)
  last_is =
      let many : length problem.sentences ≡ length ss = ap length ready.sentences_are in
      let so_many : length facts ≡ length ss = ap length facts_are ∙ length-map ss (fact_of []) in
      ap (λ (ns : List ℕ). slice_get ns (length problem.sentences)) ready.numbers_are
      ∙ (ap (slice_get (below (suc (length ss)))) many
      ∙ (below_at (suc (length ss)) (length ss) (omega arith) ∙ ap Some (sym so_many)))

  pub are_accepted : (steps : List Step) → AreSteps problem steps → accepts schema sentence steps ≡ true
  are_accepted steps close =
      ap (λ (o : Option (List Branch)). option_map_or are_closed o false)
      (close schema (sym (ap (λ (frame : Frame). frame.domains) ready.grounded.problem_is.frame)) facts (record { sentences = fact_at; as_many = last_is }))

-- ---- what is answered of a question

module _ (schema : List Table) (query : Query) (question : Question) (given : Value) (problem : Problem) (ready : IsReady schema (sentences_for schema query question given) problem) where
  abbrev own : List Formula
  own = sentences_for schema query question given

  pub limits : InOrder schema query question given (IsWithinLimits schema query question given)
  limits = record {
    acyclic = ready.acyclic;
    order = problem.order.tables;
    is_order = order_is schema own problem ready;
    so = are_few schema own problem ready;
  }

  pub spent : (budget tried : ℕ) → HasSpent problem.clauses problem.frame budget tried → InOrder schema query question given (IsSpent schema query question given budget tried)
  spent budget tried is = record {
    acyclic = ready.acyclic;
    order = problem.order.tables;
    is_order = order_is schema own problem ready;
    so = record {
      within = are_few schema own problem ready;
      spent =
          subst (λ (frame : Frame). HasSpent (clauses_for own problem.order.tables) frame budget tried) (frame_is schema own problem ready)
          (subst (λ (cs : List Clause). HasSpent cs problem.frame budget tried) (clauses_are schema own problem ready) is);
    };
  }

  abbrev first : Formula
  first = counter_sentence schema query question given

  pub counter_first : slice_get problem.sentences 0 ≡ Some first
  counter_first = stands_first schema first problem ready

  pub axioms_there : All (λ (x : Axiom). Contains problem.sentences x.sentence) (axioms schema)
  axioms_there = axioms_stand schema first problem ready

  pub accepted : (steps : List Step) → AreSteps problem steps → accepts schema first steps ≡ true
  accepted steps close = are_accepted schema first problem ready steps close

-- ---- what is answered of an Or

module _ (schema : List Table) (parts : List Formula) (problem : Problem) (ready : IsReady schema (judged schema parts) problem) where
  abbrev all : List Formula
  all = judged schema parts

  pub parts_limits : HaveOrder all (AreFew all)
  parts_limits = record {
    acyclic = ready.acyclic;
    order = problem.order.tables;
    is_order = order_is schema all problem ready;
    so = are_few schema all problem ready;
  }

  pub parts_spent : (budget tried : ℕ) → HasSpent problem.clauses problem.frame budget tried → HaveOrder all (AreSpent schema parts budget tried)
  parts_spent budget tried is = record {
    acyclic = ready.acyclic;
    order = problem.order.tables;
    is_order = order_is schema all problem ready;
    so = record {
      within = are_few schema all problem ready;
      spent =
          subst (λ (frame : Frame). HasSpent (clauses_for all problem.order.tables) frame budget tried) (frame_is schema all problem ready)
          (subst (λ (cs : List Clause). HasSpent cs problem.frame budget tried) (clauses_are schema all problem ready) is);
    };
  }

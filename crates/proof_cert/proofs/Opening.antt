-- The branches that a split makes of one.
use Rattle.std.proofs.Common.{◌≡◌, ◌∙◌, sym, ap, refl, subst, ℕ, suc, ◌+◌, List, [], ◌∷◌, ◌++◌, length, map, arith}
use Rattle.std.proofs.lemmas.List.{length-map, length-append}
use Rattle.std.proofs.lemmas.Option.{same_Some}
use Rattle.std.specs.Prelude.{Option, Some, None, slice_get, option_and_then}
use Rattle.lint_core.specs.declared.certificate.Step.{Step}
use Rattle.lint_core.specs.declared.certificate.Step.TheVariants as step
use Rattle.lint_core.specs.declared.schema.Table.{Table}
use Rattle.lint_base.proofs.Lists.{slice_get_front, slice_get_last, get_behind}
use Rattle.sort_formula.specs.declared.formula.Formula.{Formula, out-Formula}
use Rattle.sort_formula.specs.declared.formula.Formula.TheOpen.{Formula-F}
use Rattle.sort_formula.specs.Certificate.{fact_of, with_facts, with_parts, with_each_part, with_row, children, branches_after}
use Rattle.sort_formula.specs.Facts.{Fact, Branch}
use Rattle.ground_theory.specs.declared.literal.Literal.{Literal}
use Rattle.case_split.specs.declared.tree.CaseTree.{CaseTree}
use Rattle.instantiate.specs.declared.problem.Problem.{Problem}
use Rattle.instantiate.specs.Ground.{ways_in}
use Rattle.instantiate.specs.Hanging.{Hanging}
use Rattle.instantiate.proofs.Layers.{at_map}
use Rattle.proof_cert.specs.declared.path.Opened.{Opened}
use Rattle.proof_cert.specs.inner.Known.{HasFact}
use Rattle.proof_cert.specs.inner.Paths.{row_by, HasOpened, IsBranch}
use Rattle.proof_cert.specs.inner.Writing.{opening_steps, facts_in, rows_in}
use Rattle.proof_cert.proofs.Paths.{Extends, rows_grow, fact_moved, branch_split}
use Rattle.proof_cert.proofs.Refuting.{opened_is}

extends_facts : (b : Branch) (more : List Fact) → Extends b (with_facts b more)
extends_facts b more = record { facts = λ i x at. slice_get_front b.facts more i x at; tables = λ i table at. at }

abbrev pub with_way : Opened → ℕ → Opened
with_way o i = record o { way = i }

module _ (problem : Problem) (makers : List ℕ) (hanging : Hanging problem) (schema : List Table) (way : List Opened) (b : Branch) (o : Opened)
    (is : IsBranch problem makers b way o.first o.row) (has : HasFact problem b (row_by makers way) o.clause o.fact) (same : has.formula ≡ o.formula.now) where
  -- the branch of a way
  child : (c : Branch) → Extends b c → (i facts rows : ℕ) → length c.facts ≡ facts → length c.tables ≡ rows → HasOpened c (with_way o i) has.named (out-Formula has.formula) →
      IsBranch problem makers c (way ++ with_way o i ∷ []) facts rows
  child c more i facts rows count count' opened =
      branch_split makers problem b c more way (with_way o i) o.first o.row facts rows count count' is
      (record {
        has = fact_moved makers problem b c more way (way ++ with_way o i ∷ []) (rows_grow makers way (with_way o i ∷ [])) o.clause o.fact has;
        same = same;
        opened = opened;
      })

  -- a branch for each tree, from this way on
  abbrev pub AreOpen : ℕ → ℕ → ℕ → List CaseTree → List Branch → Type 0
  AreOpen facts rows i [] [] = Unit {0}
  AreOpen facts rows i [] (c ∷ cs) = ⊥
  AreOpen facts rows i (t ∷ ts) [] = ⊥
  AreOpen facts rows i (t ∷ ts) (c ∷ cs) = IsBranch problem makers c (way ++ with_way o i ∷ []) facts rows × AreOpen facts rows (suc i) ts cs

  pub record Opens (y : Formula-F Formula) (cases : List CaseTree) : Type 0 where
    pub branches : List Branch
    pub after : (rest : List Branch) → branches_after schema (opening_steps o.fact y) (b ∷ rest) ≡ Some (branches ++ rest)
    pub are : AreOpen (o.first + facts_in y) (o.row + rows_in y) 0 cases branches

  one_case : (facts rows : ℕ) (cases : List CaseTree) → length cases ≡ 1 → (c : Branch) → IsBranch problem makers c (way ++ with_way o 0 ∷ []) facts rows → AreOpen facts rows 0 cases (c ∷ [])
  one_case facts rows [] count c is_branch = absurd (omega arith)
  one_case facts rows (t ∷ []) count c is_branch = (is_branch, tt)
  one_case facts rows (t ∷ u ∷ ts) count c is_branch = absurd (omega arith)

  -- a step with one child
  one_child : (s : Step) (c : Branch) → children schema b s ≡ Some (c ∷ []) → (rest : List Branch) → branches_after schema (s ∷ []) (b ∷ rest) ≡ Some (c ∷ rest)
  one_child s c right rest = ap (option_and_then (λ bs. branches_after schema [] (bs ++ rest))) right

  plain : (y : Formula-F Formula) → out-Formula has.formula ≡ y → HasOpened b (with_way o 0) has.named y → opening_steps o.fact y ≡ [] → facts_in y ≡ 0 → rows_in y ≡ 0 →
      (cases : List CaseTree) → length cases ≡ 1 → Opens y cases
  plain y layer opened none facts rows cases count =
      let zero_facts = is.facts_are in
      let zero_rows = is.rows_are in
      record {
        branches = b ∷ [];
        after = λ rest. ap (λ (ss : List Step). branches_after schema ss (b ∷ rest)) none;
        are = one_case (o.first + facts_in y) (o.row + rows_in y) cases count b
            (child b (record { facts = λ i x at. at; tables = λ i table at. at }) 0 (o.first + facts_in y) (o.row + rows_in y) (omega arith) (omega arith)
            (subst (HasOpened b (with_way o 0) has.named) (sym layer) opened));
      }

  of_and : (gs : List Formula) → out-Formula has.formula ≡ Formula-F.And gs → (cases : List CaseTree) → length cases ≡ 1 → Opens (Formula-F.And gs) cases
  of_and gs layer cases count =
      let new : List Fact = map (fact_of has.named) gs in
      let c : Branch = with_facts b new in
      let right : children schema b (step.And o.fact) ≡ Some (c ∷ []) = opened_is schema problem hanging b o.fact has.named has.formula (Formula-F.And gs) with_parts has.is_fact layer in
      let size = is.facts_are in
      let long = length-append b.facts new in
      let as_many = length-map gs (fact_of has.named) in
      let rows = is.rows_are in
      let opened : HasOpened c (with_way o 0) has.named (Formula-F.And gs) =
      λ i g at.
      ap (λ n. slice_get (b.facts ++ new) (n + i)) (sym size) ∙ (get_behind b.facts new i ∙ at_map (fact_of has.named) gs i g at) in
      record {
        branches = c ∷ [];
        after = one_child (step.And o.fact) c right;
        are = one_case (o.first + length gs) (o.row + 0) cases count c
            (child c (extends_facts b new) 0 (o.first + length gs) (o.row + 0) (omega arith) (omega arith) (subst (HasOpened c (with_way o 0) has.named) (sym layer) opened));
      }

  of_exists : (table : ℕ) (body : Formula) → out-Formula has.formula ≡ Formula-F.Exists table body → (cases : List CaseTree) → length cases ≡ 1 → Opens (Formula-F.Exists table body) cases
  of_exists table body layer cases count =
      let new : Fact = fact_of (has.named ++ length b.tables ∷ []) body in
      let c : Branch = record { facts = b.facts ++ new ∷ []; tables = b.tables ++ table ∷ [] } in
      let right : children schema b (step.Ex o.fact) ≡ Some (c ∷ []) =
      opened_is schema problem hanging b o.fact has.named has.formula (Formula-F.Exists table body) with_row has.is_fact layer in
      let size = is.facts_are in
      let rows = is.rows_are in
      let long = length-append b.facts (new ∷ []) in
      let long' = length-append b.tables (table ∷ []) in
      let first : slice_get (b.facts ++ new ∷ []) o.first ≡ Some (fact_of (has.named ++ o.row ∷ []) body) =
      ap (slice_get (b.facts ++ new ∷ [])) (sym size) ∙ (slice_get_last b.facts new ∙ ap (λ r. Some (fact_of (has.named ++ r ∷ []) body)) rows) in
      let row : slice_get (b.tables ++ table ∷ []) o.row ≡ Some table = ap (slice_get (b.tables ++ table ∷ [])) (sym rows) ∙ slice_get_last b.tables table in
      record {
        branches = c ∷ [];
        after = one_child (step.Ex o.fact) c right;
        are = one_case (o.first + 1) (o.row + 1) cases count c
            (child c (record { facts = λ i x at. slice_get_front b.facts (new ∷ []) i x at; tables = λ i t at. slice_get_front b.tables (table ∷ []) i t at }) 0 (o.first + 1) (o.row + 1)
            (omega arith) (omega arith) (subst (HasOpened c (with_way o 0) has.named) (sym layer) (first, row)));
      }

  abbrev part_branch : Formula → Branch
  part_branch g = with_facts b (fact_of has.named g ∷ [])

  each_part : (gs : List Formula) → out-Formula has.formula ≡ Formula-F.Or gs → (i : ℕ) (later : List Formula) (ts : List CaseTree) → length ts ≡ length later →
      ((j : ℕ) (g : Formula) → slice_get later j ≡ Some g → slice_get gs (i + j) ≡ Some g) → AreOpen (o.first + 1) (o.row + 0) i ts (map part_branch later)
  each_part gs layer i [] [] count at = tt
  each_part gs layer i [] (t ∷ ts) count at = absurd (omega arith)
  each_part gs layer i (g ∷ later) [] count at = absurd (omega arith)
  each_part gs layer i (g ∷ later) (t ∷ ts) count at =
      let new : Fact = fact_of has.named g in
      let size = is.facts_are in
      let rows = is.rows_are in
      let long = length-append b.facts (new ∷ []) in
      let plain : i + 0 ≡ i = omega arith in
      let here : slice_get gs i ≡ Some g = subst (λ n. slice_get gs n ≡ Some g) plain (at 0 g refl) in
      let opened : HasOpened (part_branch g) (with_way o i) has.named (Formula-F.Or gs) =
      λ h there.
      ap (slice_get (b.facts ++ new ∷ [])) (sym size) ∙ (slice_get_last b.facts new ∙ ap (λ (f : Formula). Some (fact_of has.named f)) (same_Some g h (sym here ∙ there))) in (
        child (part_branch g) (extends_facts b (new ∷ [])) i (o.first + 1) (o.row + 0) (omega arith) (omega arith)
            (subst (HasOpened (part_branch g) (with_way o i) has.named) (sym layer) opened),
        each_part gs layer (suc i) later ts (omega arith)
            (λ j h there. let e : i + suc j ≡ suc i + j = omega arith in subst (λ n. slice_get gs n ≡ Some h) e (at (suc j) h there)),
      )

  of_or : (gs : List Formula) → out-Formula has.formula ≡ Formula-F.Or gs → (cases : List CaseTree) → length cases ≡ length gs → Opens (Formula-F.Or gs) cases
  of_or gs layer cases count =
      let right : children schema b (step.Or o.fact) ≡ Some (map part_branch gs) =
      opened_is schema problem hanging b o.fact has.named has.formula (Formula-F.Or gs) with_each_part has.is_fact layer in
      record {
        branches = map part_branch gs;
        after = λ rest. ap (option_and_then (λ bs. branches_after schema [] (bs ++ rest))) right;
        are = each_part gs layer 0 gs cases count (λ j g at. let e : j ≡ 0 + j = omega arith in subst (λ n. slice_get gs n ≡ Some g) e at);
      }

  pub opens : (y : Formula-F Formula) → out-Formula has.formula ≡ y → (cases : List CaseTree) → length cases ≡ length (ways_in has.variables y) → Opens y cases
  opens (Formula-F.Atom a) layer cases count = plain (Formula-F.Atom a) layer tt refl refl refl cases count
  opens (Formula-F.And gs) layer cases count = of_and gs layer cases count
  opens (Formula-F.Or gs) layer cases count = of_or gs layer cases (count ∙ length-map gs (λ (g : Formula). none_of g))
    where
      none_of : Formula → Option Literal
      none_of g = None
  opens (Formula-F.Exists table body) layer cases count = of_exists table body layer cases count
  opens (Formula-F.Forall table body) layer cases count = plain (Formula-F.Forall table body) layer tt refl refl refl cases count

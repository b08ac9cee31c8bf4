-- Trees that wait, one after the other.
use Rattle.std.proofs.Common.{◌≡◌, ◌∙◌, sym, ap, ap₂, refl, subst, ℕ, suc, ◌+◌, ◌<◌, true, List, [], ◌∷◌, ◌++◌, length, map, reverse, take, arith}
use Rattle.std.proofs.lemmas.List.{append_assoc, map-append, take_all, take-append-le, length-append, reverse-append, reverse-reverse}
use Rattle.std.proofs.lemmas.List.Sums.{sum_by-append}
use Rattle.std.specs.Prelude.{Result, Ok, Err, OnOk, Some, None, slice_get, sum, option_and_then}
use Rattle.lint_core.specs.declared.certificate.Step.{Step}
use Rattle.lint_core.specs.declared.schema.Table.{Table}
use Rattle.sort_formula.specs.Certificate.{branches_after}
use Rattle.sort_formula.specs.Facts.{Fact, Branch}
use Rattle.formula_laws.proofs.Composing.{after_append}
use Rattle.case_split.specs.declared.tree.CaseTree.{CaseTree}
use Rattle.case_split.specs.Trees.{is_closed}
use Rattle.proof_cert.specs.inner.Sizes.{size, size_of_all}
use Rattle.instantiate.specs.declared.problem.Problem.{Problem}
use Rattle.instantiate.specs.Ground.{domains_of}
use Rattle.proof_cert.specs.Steps.{AreSteps}
use Rattle.proof_cert.specs.declared.path.Opened.{Opened}
use Rattle.proof_cert.specs.declared.writing.Waiting.{Waiting}
use Rattle.proof_cert.specs.inner.Paths.{IsNew, AreStanding, IsBranch, last_of}
use Rattle.proof_cert.specs.inner.Writing.{Wait, wait_of, tree_of, waits, waits_of, way_to, IsClosedOn, IsReady, AreReady, AreNext, AreBranches, AreNextBranches, Written, IsWork}

module _ (problem : Problem) where
  -- more splits behind those that are looked at
  ready_more : (way more : List Opened) (w : Wait) → IsReady problem way w → IsReady problem (way ++ more) w
  ready_more way more w ready =
      let e : take w.above way ≡ take w.above (way ++ more) = sym (take-append-le w.above way more ready.within) in
      let low = ready.within in
      record {
        within = (let long = length-append way more in omega arith);
        is_new = subst (λ os. IsNew (length problem.clauses) os w.opened) e ready.is_new;
        standing = subst (λ os. AreStanding problem (os ++ last_of w.opened)) e ready.standing;
        closed = subst (λ os. IsClosedOn problem (os ++ last_of w.opened) w.tree) e ready.closed;
      }

  pub ready_front : (way more : List Opened) (ws : List Wait) → AreReady problem way ws → AreReady problem (way ++ more) ws
  ready_front way more [] ready = tt
  ready_front way more (w ∷ ws) ready =
      let e : take w.above way ≡ take w.above (way ++ more) = sym (take-append-le w.above way more ready.0.within) in
      (ready_more way more w ready.0, subst (λ os. AreReady problem os ws) e ready.1)

  pub ready_next : (way : List Opened) (next ws : List Wait) → AreNext problem way next → AreReady problem way ws → AreReady problem way (next ++ ws)
  ready_next way [] ws are ready = ready
  ready_next way (w ∷ next) ws are ready =
      let high = are.0 in
      let e : way ≡ take w.above way = sym (take_all w.above way (omega arith)) in
      (are.1, subst (λ os. AreReady problem os (next ++ ws)) e (ready_next way next ws are.2 ready))

module _ (problem : Problem) (makers : List ℕ) where
  pub branches_front : (way more : List Opened) (ws : List Wait) (bs : List Branch) → AreReady problem way ws → AreBranches problem makers way ws bs → AreBranches problem makers (way ++ more) ws bs
  branches_front way more [] [] ready are = tt
  branches_front way more [] (b ∷ bs) ready are = absurd are
  branches_front way more (w ∷ ws) [] ready are = absurd are
  branches_front way more (w ∷ ws) (b ∷ bs) ready are =
      let e : take w.above way ≡ take w.above (way ++ more) = sym (take-append-le w.above way more ready.0.within) in
      (subst (λ os. IsBranch problem makers b (os ++ last_of w.opened) w.facts w.rows) e are.0, subst (λ os. AreBranches problem makers os ws bs) e are.1)

  pub branches_next : (way : List Opened) (next ws : List Wait) (cs bs : List Branch) → AreNext problem way next → AreNextBranches problem makers way next cs → AreBranches problem makers way ws bs →
      AreBranches problem makers way (next ++ ws) (cs ++ bs)
  branches_next way [] ws [] bs are new old = old
  branches_next way [] ws (c ∷ cs) bs are new old = absurd new
  branches_next way (w ∷ next) ws [] bs are new old = absurd new
  branches_next way (w ∷ next) ws (c ∷ cs) bs are new old =
      let high = are.0 in
      let e : way ≡ take w.above way = sym (take_all w.above way (omega arith)) in
      (new.0, subst (λ os. AreBranches problem makers os (next ++ ws) (cs ++ bs)) e (branches_next way next ws cs bs are.2 new.1 old))

-- ---- the trees of a split

waits_last : (above : ℕ) (o : Opened) (facts rows way : ℕ) (ts : List CaseTree) (t : CaseTree) → waits above o facts rows way (ts ++ t ∷ []) ≡ waits above o facts rows way ts ++ waits above o facts rows (way + length ts) (t ∷ [])
waits_last above o facts rows way [] t = let e : way ≡ way + 0 = omega arith in ap (λ n. waits above o facts rows n (t ∷ [])) e
waits_last above o facts rows way (u ∷ ts) t =
    let e : suc way + length ts ≡ way + suc (length ts) = omega arith in
    ap (λ (ws : List Wait). record { tree = u; above = above; opened = Some (record o { way = way }); facts = facts; rows = rows } ∷ ws)
    (waits_last above o facts rows (suc way) ts t ∙ ap (λ n. waits above o facts rows (suc way) ts ++ waits above o facts rows n (t ∷ [])) e)

-- the last one is put on first
pub wait_step : (before : List Wait) (above : ℕ) (o : Opened) (facts rows : ℕ) (ts : List CaseTree) (t : CaseTree) →
    (before ++ waits above o facts rows (length ts) (t ∷ [])) ++ reverse (waits above o facts rows 0 ts) ≡ before ++ reverse (waits above o facts rows 0 (ts ++ t ∷ []))
wait_step before above o facts rows ts t =
    let plain : 0 + length ts ≡ length ts = omega arith in
    append_assoc before (waits above o facts rows (length ts) (t ∷ [])) (reverse (waits above o facts rows 0 ts))
    ∙ ap (λ ws. before ++ ws)
    (sym (ap reverse (waits_last above o facts rows 0 ts t ∙ ap (λ n. waits above o facts rows 0 ts ++ waits above o facts rows n (t ∷ [])) plain)
    ∙ reverse-append (waits above o facts rows 0 ts) (waits above o facts rows (length ts) (t ∷ []))))

-- ---- from tree to tree

pub size_append : (vs ws : List Wait) → size_of_all (map tree_of (vs ++ ws)) ≡ size_of_all (map tree_of vs) + size_of_all (map tree_of ws)
size_append vs ws =
    ap (λ ts. size_of_all ts) (map-append tree_of vs ws)
    ∙ (ap (λ (ns : List ℕ). sum ns) (map-append size (map tree_of vs) (map tree_of ws)) ∙ sum_by-append (λ n. n) (map size (map tree_of vs)) (map size (map tree_of ws)))

pub size_reverse : (ws : List Wait) → size_of_all (map tree_of (reverse ws)) ≡ size_of_all (map tree_of ws)
size_reverse [] = refl
size_reverse (w ∷ ws) =
    let split = ap (λ (vs : List Wait). size_of_all (map tree_of vs)) (reverse-append (w ∷ []) ws) in
    let two = size_append (reverse ws) (w ∷ []) in
    let rest = size_reverse ws in
    let whole = size_append (w ∷ []) ws in
    omega arith

module _ (problem : Problem) (makers : List ℕ) where
  -- the tree that is taken next
  taken : (before rest : List Waiting) (w : Waiting) → before ≡ rest ++ w ∷ [] → reverse (waits_of before) ≡ wait_of w ∷ reverse (waits_of rest)
  taken before rest w is = ap (λ (ws : List Waiting). reverse (waits_of ws)) is ∙ (ap reverse (map-append wait_of rest (w ∷ [])) ∙ reverse-append (waits_of rest) (wait_of w ∷ []))

  pub next_ready : (splits : List Opened) (before rest : List Waiting) (w : Waiting) (steps : List Step) → before ≡ rest ++ w ∷ [] → IsWork problem makers splits before steps → IsReady problem splits (wait_of w)
  next_ready splits before rest w steps is work = (subst (AreReady problem splits) (taken before rest w is) work.ready).0

  pub next_work : (splits : List Opened) (before rest after : List Waiting) (w : Waiting) (steps new : List Step) → before ≡ rest ++ w ∷ [] → IsWork problem makers splits before steps →
      Written problem makers (way_to splits (wait_of w)) w.facts w.rows w.tree.now steps new rest after → IsWork problem makers (way_to splits (wait_of w)) after new
  next_work splits before rest after w steps new is work written =
      let way : List Opened = way_to splits (wait_of w) in
      let ready = subst (AreReady problem splits) (taken before rest w is) work.ready in
      let later : AreReady problem way (reverse (waits_of rest)) = ready_front problem (take w.above splits) (last_of w.opened) (reverse (waits_of rest)) ready.1 in
      let order : reverse (waits_of after) ≡ written.next ++ reverse (waits_of rest) =
      ap reverse written.after_is ∙ (reverse-append (waits_of rest) (reverse written.next) ∙ ap (λ ws. ws ++ reverse (waits_of rest)) (reverse-reverse written.next)) in
      record {
        ready = subst (AreReady problem way) (sym order) (ready_next problem way written.next (reverse (waits_of rest)) written.is_written.ready later);
        leads = λ schema domains facts start.
            let led = work.leads schema domains facts start in
            go schema domains facts ready later order led.0 led.1
            (subst (λ ws. AreBranches problem makers splits ws led.0) (taken before rest w is) led.2);
      }
    where
      go : (schema : List Table) → domains_of schema ≡ problem.frame.domains → (facts : List Fact) → AreReady problem splits (wait_of w ∷ reverse (waits_of rest)) →
          AreReady problem (way_to splits (wait_of w)) (reverse (waits_of rest)) → reverse (waits_of after) ≡ written.next ++ reverse (waits_of rest) →
          (bs : List Branch) → branches_after schema steps (record { facts = facts; tables = [] } ∷ []) ≡ Some bs → AreBranches problem makers splits (wait_of w ∷ reverse (waits_of rest)) bs →
          (cs : List Branch) × (branches_after schema new (record { facts = facts; tables = [] } ∷ []) ≡ Some cs) × AreBranches problem makers (way_to splits (wait_of w)) (reverse (waits_of after)) cs
      go schema domains facts ready later order [] at are = absurd are
      go schema domains facts ready later order (b ∷ bs) at are =
          let led = written.is_written.leads schema domains b are.0 in
          let start : Branch = record { facts = facts; tables = [] } in (
            led.branches ++ bs,
            ap (λ (ss : List Step). branches_after schema ss (start ∷ [])) written.new_is
                ∙ (after_append schema steps written.steps (start ∷ []) ∙ (ap (option_and_then (branches_after schema written.steps)) at ∙ led.after bs)),
            subst (λ ws. AreBranches problem makers (way_to splits (wait_of w)) ws (led.branches ++ bs)) (sym order)
                (branches_next problem makers (way_to splits (wait_of w)) written.next (reverse (waits_of rest)) led.branches bs written.is_written.ready led.are
                (branches_front problem makers (take w.above splits) (last_of w.opened) (reverse (waits_of rest)) bs ready.1 are.1)),
          )

  pub next_less : (way : List Opened) (before rest after : List Waiting) (w : Waiting) (steps new : List Step) → before ≡ rest ++ w ∷ [] →
      Written problem makers way w.facts w.rows w.tree.now steps new rest after → size_of_all (map tree_of (waits_of after)) < size_of_all (map tree_of (waits_of before))
  next_less way before rest after w steps new is written =
      let one = ap (λ (ws : List Wait). size_of_all (map tree_of ws)) written.after_is in
      let two = size_append (waits_of rest) (reverse written.next) in
      let three = size_reverse written.next in
      let four = ap (λ (ws : List Waiting). size_of_all (map tree_of (waits_of ws))) is ∙ ap (λ (ws : List Wait). size_of_all (map tree_of ws)) (map-append wait_of rest (w ∷ [])) in
      let five = size_append (waits_of rest) (wait_of w ∷ []) in
      let less = written.is_written.less in
      omega arith

  pub first_work : (w : Waiting) → w.above ≡ 0 → w.opened ≡ None → w.rows ≡ 0 → ((count : ℕ) → slice_get problem.numbers (length problem.sentences) ≡ Some count → w.facts ≡ count) →
      is_closed problem.clauses problem.frame w.tree.now [] ≡ true → IsWork problem makers [] (w ∷ []) []
  first_work w above opened rows facts closed =
      let way : way_to [] (wait_of w) ≡ [] = ap₂ (λ n o. take n [] ++ last_of o) above opened in
      record {
        ready = (
          record {
            within = omega arith;
            is_new = subst (λ o. IsNew (length problem.clauses) (take w.above []) o) (sym opened) tt;
            standing = subst (AreStanding problem) (sym way) (λ place o at. cc);
            closed = subst (λ os. IsClosedOn problem os w.tree.now) (sym way) (record { guards = []; closed = closed; covers = λ g among. cc });
          },
          tt,
        );
        leads = λ schema domains start is. (
          record { facts = start; tables = [] } ∷ [],
          refl,
          (
            subst (λ os. IsBranch problem makers (record { facts = start; tables = [] }) os w.facts w.rows) (sym way)
                (record { facts_are = sym (facts (length start) is.as_many); rows_are = sym rows; sentences = is.sentences; splits = λ place o at. cc }),
            tt,
          ),
        );
      }

  pub last_work : (splits : List Opened) (waiting : List Waiting) (steps : List Step) → waiting ≡ [] → IsWork problem makers splits waiting steps → AreSteps problem steps
  last_work splits waiting steps none work schema domains facts start =
      let led = work.leads schema domains facts start in
      led.1 ∙ ap Some (no_branch led.0 (subst (λ (ws : List Waiting). AreBranches problem makers splits (reverse (waits_of ws)) led.0) none led.2))
    where
      no_branch : (bs : List Branch) → AreBranches problem makers splits [] bs → bs ≡ []
      no_branch [] are = refl
      no_branch (b ∷ bs) are = absurd are

-- what follows of an answer that is Ok
pub on_ok : {A E : Type 0} (r : Result A E) (P : Type 0) {Q : Type 0} → (P → Q) → OnOk r P → OnOk r Q
on_ok (Ok x) P then_q is = then_q is
on_ok (Err e) P then_q is = tt

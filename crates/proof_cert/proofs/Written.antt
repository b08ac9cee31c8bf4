-- What is written of a tree is right: of a leaf, of a split, and of a split that was made before.
use Rattle.std.proofs.Common.{◌≡◌, ◌∙◌, sym, ap, refl, subst, ℕ, zero, suc, ◌+◌, ◌≤◌, inl, inr, true, false, ◌&&◌, ◌||◌, List, [], ◌∷◌, ◌++◌, length, map, take, append-nil, arith}
use Rattle.std.proofs.lemmas.Bool.{and_parts, or_cases, or_left, or_right, eqb-true}
use Rattle.std.proofs.lemmas.List.{length-map, length-append, take_all}
use Rattle.std.proofs.lemmas.List.Folds.{list_any-append}
use Rattle.std.proofs.lemmas.List.Sums.{sum_by-cons}
use Rattle.std.proofs.lemmas.Option.{same_Some, slice_get_within, option_and_then_some}
use Rattle.std.specs.Prelude.{Option, Some, None, slice_get, nat_eq, option_and_then, unwrap_or}
use Rattle.std.specs.Option.{option_map_or}
use Rattle.lint_core.specs.declared.schema.Table.{Table}
use Rattle.lint_base.proofs.Lists.{slice_get_front}
use Rattle.sort_formula.specs.declared.formula.Formula.{Formula, out-Formula}
use Rattle.sort_formula.specs.declared.formula.Formula.TheOpen.{Formula-F}
use Rattle.sort_formula.specs.Certificate.{with_facts, branches_after}
use Rattle.sort_formula.specs.Facts.{Branch}
use Rattle.formula_laws.proofs.Composing.{after_append}
use Rattle.ground_theory.specs.declared.literal.Clause.{Clause}
use Rattle.ground_theory.specs.declared.literal.Conflict.{Conflict}
use Rattle.ground_theory.specs.declared.literal.Guard.{Guard}
use Rattle.ground_theory.specs.declared.literal.Literal.{Literal}
use Rattle.ground_theory.specs.Leaves.{is_right_leaf}
use Rattle.ground_theory.specs.Moving.{moved}
use Rattle.ground_theory.proofs.Moving.{passes}
use Rattle.case_split.specs.declared.tree.CaseTree.{CaseTree, fold-roll-CaseTree}
use Rattle.case_split.specs.declared.tree.CaseTree.TheOpen.{CaseTree-F}
use Rattle.case_split.specs.declared.tree.CaseTree.TheVariants as variant
use Rattle.case_split.specs.Trees.{is_same_guard, is_among, are_among, literal_at, literals_at, Meaning, ways_closed, split_closed, closed_step, is_closed}
use Rattle.proof_cert.specs.inner.Sizes.{size, size_step, size_of_all}
use Rattle.case_split.proofs.Closed.{same_guard, among_passes}
use Rattle.case_split.proofs.Refuting.{split_rolls, leaf_rolls, same_as_itself}
use Rattle.instantiate.specs.declared.problem.Problem.{Problem}
use Rattle.instantiate.specs.Ground.{ways_in}
use Rattle.instantiate.specs.Hanging.{StandsAt, Hanging, guards_at, at_way}
use Rattle.instantiate.proofs.Layers.{at_map}
use Rattle.proof_cert.specs.declared.path.Opened.{Opened}
use Rattle.proof_cert.specs.declared.reaching.Reached.{Reached}
use Rattle.proof_cert.specs.inner.Known.{HasFact}
use Rattle.proof_cert.specs.inner.Leaves.{at_number}
use Rattle.proof_cert.specs.inner.Paths.{opened_at, fact_at, row_at, Covers, IsNew, AreMakers, AreStanding, row_by, HasOpened, IsBranch}
use Rattle.proof_cert.specs.inner.Reaching.{said_steps, IsReached}
use Rattle.proof_cert.specs.inner.Writing.{tree_of, waits, opening_steps, facts_in, rows_in, IsClosedOn, AreNext, AreNextBranches, IsWritten}
use Rattle.proof_cert.proofs.Growing.{stands_one}
use Rattle.proof_cert.proofs.Leaves.{Says, fact_says, leaf_closes}
use Rattle.proof_cert.proofs.Opening.{with_way, AreOpen, opens}
use Rattle.proof_cert.proofs.Paths.{opened_in, opened_front, opened_last, front_or_last, row_made, branch_more}
use Rattle.proof_cert.proofs.Standing.{guards_there}

-- ---- trees from their parts

module _ (problem : Problem) where
  closed_split : (number : ℕ) (ts : List CaseTree) (guards : List Guard) → is_closed problem.clauses problem.frame (variant.Split number ts) guards ≡ true →
      closed_step problem.clauses problem.frame (CaseTree-F.Split number (map (is_closed problem.clauses problem.frame) ts)) guards ≡ true
  closed_split number ts guards closed =
      sym (ap (λ (m : Meaning problem.clauses problem.frame). m guards)
      (ap (is_closed problem.clauses problem.frame) (sym (split_rolls number ts))
      ∙ fold-roll-CaseTree (Meaning problem.clauses problem.frame) (closed_step problem.clauses problem.frame) (CaseTree-F.Split number ts)))
      ∙ closed

  closed_leaf : (conflict : Conflict) (chosen guards : List Guard) → is_closed problem.clauses problem.frame (variant.Leaf conflict chosen) guards ≡ true →
      closed_step problem.clauses problem.frame (CaseTree-F.Leaf conflict chosen) guards ≡ true
  closed_leaf conflict chosen guards closed =
      sym (ap (λ (m : Meaning problem.clauses problem.frame). m guards)
      (ap (is_closed problem.clauses problem.frame) (sym (leaf_rolls conflict chosen))
      ∙ fold-roll-CaseTree (Meaning problem.clauses problem.frame) (closed_step problem.clauses problem.frame) (CaseTree-F.Leaf conflict chosen)))
      ∙ closed

size_split : (number : ℕ) (ts : List CaseTree) → size (variant.Split number ts) ≡ 1 + size_of_all ts
size_split number ts = ap size (sym (split_rolls number ts)) ∙ fold-roll-CaseTree ℕ size_step (CaseTree-F.Split number ts)

size_leaf : (conflict : Conflict) (chosen : List Guard) → size (variant.Leaf conflict chosen) ≡ 1
size_leaf conflict chosen = ap size (sym (leaf_rolls conflict chosen)) ∙ fold-roll-CaseTree ℕ size_step (CaseTree-F.Leaf conflict chosen)

size_at : (ts : List CaseTree) (i : ℕ) (t : CaseTree) → slice_get ts i ≡ Some t → size t ≤ size_of_all ts
size_at [] i t at = cc
size_at (u ∷ ts) zero t at =
    let e : size u ≡ size t = ap size (same_Some u t at) in
    let all = sum_by-cons (λ n. n) (size u) (map size ts) in
    omega arith
size_at (u ∷ ts) (suc i) t at =
    let rest = size_at ts i t at in
    let all = sum_by-cons (λ n. n) (size u) (map size ts) in
    omega arith

-- ---- guards

covers_all : (way : List Opened) (guards those : List Guard) → Covers way guards → are_among guards those ≡ true → Covers way those
covers_all way guards those covers all g among = covers g (among_passes (is_among guards) those g all among)

-- one more choice is covered by one more split
covers_more : (way : List Opened) (guards : List Guard) (o : Opened) → Covers way guards → opened_at way o.clause ≡ None → Covers (way ++ o ∷ []) (guards ++ at_way o.clause o.way ∷ [])
covers_more way guards o covers new g among =
    elim (or_cases (is_among guards g) (is_same_guard g (at_way o.clause o.way) || false) (sym (list_any-append (is_same_guard g) guards (at_way o.clause o.way ∷ [])) ∙ among)) [
      | inl old ↦ let found = covers g old in (found.0, opened_front way (o ∷ []) g.clause found.0 found.1, found.2)
      | inr own ↦ elim (or_cases (is_same_guard g (at_way o.clause o.way)) false own) [
        | inl same ↦
            let e : g ≡ at_way o.clause o.way = same_guard g (at_way o.clause o.way) same in
            let clauses : g.clause ≡ o.clause = ap (λ (g : Guard). g.clause) e in
            let ways : g.way ≡ o.way = ap (λ (g : Guard). g.way) e in
            (o, subst (λ n. opened_at (way ++ o ∷ []) n ≡ Some o) (sym clauses) (opened_last way o new), sym ways)
        | inr never ↦ cc
      ]
    ]

-- a choice that was made before is covered
covers_again : (way : List Opened) (guards : List Guard) (o : Opened) (clause : ℕ) → Covers way guards → opened_at way clause ≡ Some o → Covers way (guards ++ at_way clause o.way ∷ [])
covers_again way guards o clause covers found g among =
    elim (or_cases (is_among guards g) (is_same_guard g (at_way clause o.way) || false) (sym (list_any-append (is_same_guard g) guards (at_way clause o.way ∷ [])) ∙ among)) [
      | inl old ↦ covers g old
      | inr own ↦ elim (or_cases (is_same_guard g (at_way clause o.way)) false own) [
        | inl same ↦
            let e : g ≡ at_way clause o.way = same_guard g (at_way clause o.way) same in
            let clauses : g.clause ≡ clause = ap (λ (g : Guard). g.clause) e in
            let ways : g.way ≡ o.way = ap (λ (g : Guard). g.way) e in
            (o, subst (λ n. opened_at way n ≡ Some o) (sym clauses) found, sym ways)
        | inr never ↦ cc
      ]
    ]

-- ---- what a closed split says

record IsSplit (problem : Problem) (way : List Opened) (clause : ℕ) (cases : List CaseTree) : Type 0 where
  guards : List Guard
  covers : Covers way guards
  c : Clause
  at : slice_get problem.clauses clause ≡ Some c
  own : are_among guards c.guards ≡ true
  count : length cases ≡ length c.ways
  ways : ways_closed problem.clauses problem.frame clause 0 (map (is_closed problem.clauses problem.frame) cases) guards ≡ true

split_is : (problem : Problem) (way : List Opened) (clause : ℕ) (cases : List CaseTree) → IsClosedOn problem way (variant.Split clause cases) → IsSplit problem way clause cases
split_is problem way clause cases closed =
    let ts : List (Meaning problem.clauses problem.frame) = map (is_closed problem.clauses problem.frame) cases in
    let c = passes (split_closed problem.clauses problem.frame clause ts closed.guards) (slice_get problem.clauses clause) (closed_split problem clause cases closed.guards closed.closed) in
    let first = and_parts (are_among closed.guards c.0.guards) (nat_eq (length ts) (length c.0.ways) && ways_closed problem.clauses problem.frame clause 0 ts closed.guards) c.2 in
    let second = and_parts (nat_eq (length ts) (length c.0.ways)) (ways_closed problem.clauses problem.frame clause 0 ts closed.guards) first.1 in
    record {
      guards = closed.guards;
      covers = closed.covers;
      c = c.0;
      at = c.1;
      own = first.0;
      count = sym (length-map cases (is_closed problem.clauses problem.frame)) ∙ eqb-true (length ts) (length c.0.ways) second.0;
      ways = second.1;
    }

way_closed : (problem : Problem) (clause i : ℕ) (ts : List CaseTree) (guards : List Guard) → ways_closed problem.clauses problem.frame clause i (map (is_closed problem.clauses problem.frame) ts) guards ≡ true →
    (j : ℕ) (t : CaseTree) → slice_get ts j ≡ Some t → is_closed problem.clauses problem.frame t (guards ++ at_way clause (i + j) ∷ []) ≡ true
way_closed problem clause i [] guards closed j t at = cc
way_closed problem clause i (u ∷ ts) guards closed zero t at =
    let both = and_parts (is_closed problem.clauses problem.frame u (guards ++ at_way clause i ∷ [])) (ways_closed problem.clauses problem.frame clause (suc i) (map (is_closed problem.clauses problem.frame) ts) guards) closed in
    let plain : i ≡ i + 0 = omega arith in
    subst (λ n. is_closed problem.clauses problem.frame t (guards ++ at_way clause n ∷ []) ≡ true) plain
    (subst (λ (v : CaseTree). is_closed problem.clauses problem.frame v (guards ++ at_way clause i ∷ []) ≡ true) (same_Some u t at) both.0)
way_closed problem clause i (u ∷ ts) guards closed (suc j) t at =
    let both = and_parts (is_closed problem.clauses problem.frame u (guards ++ at_way clause i ∷ [])) (ways_closed problem.clauses problem.frame clause (suc i) (map (is_closed problem.clauses problem.frame) ts) guards) closed in
    let e : suc i + j ≡ i + suc j = omega arith in
    subst (λ n. is_closed problem.clauses problem.frame t (guards ++ at_way clause n ∷ []) ≡ true) e (way_closed problem clause (suc i) ts guards both.1 j t at)

-- the guards of the clause are on the way
pub split_covers : (problem : Problem) (way : List Opened) (clause : ℕ) (cases : List CaseTree) → IsClosedOn problem way (variant.Split clause cases) → Covers way (guards_at problem clause)
split_covers problem way clause cases closed =
    let is = split_is problem way clause cases closed in
    covers_all way is.guards (guards_at problem clause) is.covers (subst (λ (gs : List Guard). are_among is.guards gs ≡ true) (sym (guards_there problem clause is.c is.at)) is.own)

-- ---- a split

module _ (problem : Problem) (makers : List ℕ) (hanging : Hanging problem) (way : List Opened) (standing : AreStanding problem way) where
  module _ (clause : ℕ) (cases : List CaseTree) (split : IsSplit problem way clause cases) (o : Opened) (of_clause : o.clause ≡ clause) (new : opened_at way o.clause ≡ None)
      (variables : List ℕ) (stands : StandsAt problem o.clause (out-Formula o.formula.now) variables) (facts rows : ℕ) where
    all_of : take (length way) way ≡ way
    all_of = take_all (length way) way (omega arith)

    standing_more : (i : ℕ) → AreStanding problem (way ++ with_way o i ∷ [])
    standing_more i place p at = elim (front_or_last way (with_way o i) place p at) [
      | inl front ↦ standing place p front
      | inr last ↦ subst (λ (q : Opened). (vs : List ℕ) × StandsAt problem q.clause (out-Formula q.formula.now) vs) last (variables, stands)
    ]

    closed_on : (i : ℕ) (t : CaseTree) → slice_get cases i ≡ Some t → IsClosedOn problem (way ++ with_way o i ∷ []) t
    closed_on i t at =
        let plain : 0 + i ≡ i = omega arith in
        record {
          guards = split.guards ++ at_way o.clause i ∷ [];
          closed = subst (λ n. is_closed problem.clauses problem.frame t (split.guards ++ at_way n i ∷ []) ≡ true) (sym of_clause)
              (subst (λ n. is_closed problem.clauses problem.frame t (split.guards ++ at_way clause n ∷ []) ≡ true) plain (way_closed problem clause 0 cases split.guards split.ways i t at));
          covers = covers_more way split.guards (with_way o i) split.covers new;
        }

    next_ready : (i : ℕ) (ts : List CaseTree) → ((j : ℕ) (t : CaseTree) → slice_get ts j ≡ Some t → slice_get cases (i + j) ≡ Some t) → AreNext problem way (waits (length way) o facts rows i ts)
    next_ready i [] at = tt
    next_ready i (t ∷ ts) at =
        let plain : i + 0 ≡ i = omega arith in
        let low = slice_get_within problem.clauses clause split.c split.at in (
          refl,
          record {
            within = omega arith;
            is_new = subst (λ os. IsNew (length problem.clauses) os (Some (with_way o i))) (sym all_of) (new, omega arith);
            standing = subst (λ (os : List Opened). AreStanding problem (os ++ with_way o i ∷ [])) (sym all_of) (standing_more i);
            closed = subst (λ (os : List Opened). IsClosedOn problem (os ++ with_way o i ∷ []) t) (sym all_of) (closed_on i t (subst (λ n. slice_get cases n ≡ Some t) plain (at 0 t refl)));
          },
          next_ready (suc i) ts (λ j u there. let e : i + suc j ≡ suc i + j = omega arith in subst (λ n. slice_get cases n ≡ Some u) e (at (suc j) u there)),
        )

    waits_trees : (i : ℕ) (ts : List CaseTree) → map tree_of (waits (length way) o facts rows i ts) ≡ ts
    waits_trees i [] = refl
    waits_trees i (t ∷ ts) = ap (λ us. t ∷ us) (waits_trees (suc i) ts)

  next_branches : (schema : List Table) (b : Branch) (o : Opened) (is : IsBranch problem makers b way o.first o.row) (has : HasFact problem b (row_by makers way) o.clause o.fact) (same : has.formula ≡ o.formula.now) →
      (facts rows i : ℕ) (ts : List CaseTree) (cs : List Branch) → AreOpen problem makers hanging schema way b o is has same facts rows i ts cs →
      AreNextBranches problem makers way (waits (length way) o facts rows i ts) cs
  next_branches schema b o is has same facts rows i [] [] are = tt
  next_branches schema b o is has same facts rows i [] (c ∷ cs) are = absurd are
  next_branches schema b o is has same facts rows i (t ∷ ts) [] are = absurd are
  next_branches schema b o is has same facts rows i (t ∷ ts) (c ∷ cs) are =
      let e : way ≡ take (length way) way = sym (take_all (length way) way (omega arith)) in
      (subst (λ (os : List Opened). IsBranch problem makers c (os ++ with_way o i ∷ []) facts rows) e are.0, next_branches schema b o is has same facts rows (suc i) ts cs are.1)

  pub split_written : (clause : ℕ) (cases : List CaseTree) → IsClosedOn problem way (variant.Split clause cases) → opened_at way clause ≡ None → (facts rows : ℕ) (r : Reached) →
      IsReached problem makers way facts clause r → (o : Opened) → o ≡ record { clause = clause; way = 0; formula = r.formula; fact = r.fact; first = facts + length (said_steps r.said); row = rows } →
      IsWritten problem makers way facts rows (variant.Split clause cases) (said_steps r.said ++ opening_steps r.fact (out-Formula r.formula.now))
      (waits (length way) o (facts + length (said_steps r.said) + facts_in (out-Formula r.formula.now)) (rows + rows_in (out-Formula r.formula.now)) 0 cases)
  split_written clause cases closed new facts rows r reached o own =
      subst (λ (p : Opened). IsWritten problem makers way facts rows (variant.Split clause cases) (said_steps r.said ++ opening_steps r.fact (out-Formula r.formula.now))
      (waits (length way) p (facts + length (said_steps r.said) + facts_in (out-Formula r.formula.now)) (rows + rows_in (out-Formula r.formula.now)) 0 cases)) (sym own) here
    where
      here : IsWritten problem makers way facts rows (variant.Split clause cases) (said_steps r.said ++ opening_steps r.fact (out-Formula r.formula.now))
          (waits (length way) (record { clause = clause; way = 0; formula = r.formula; fact = r.fact; first = facts + length (said_steps r.said); row = rows })
          (facts + length (said_steps r.said) + facts_in (out-Formula r.formula.now)) (rows + rows_in (out-Formula r.formula.now)) 0 cases)
      here =
          let y : Formula-F Formula = out-Formula r.formula.now in
          let first : ℕ = facts + length (said_steps r.said) in
          let p : Opened = record { clause = clause; way = 0; formula = r.formula; fact = r.fact; first = first; row = rows } in
          let split = split_is problem way clause cases closed in
          let trees = waits_trees clause cases split p refl new reached.variables reached.stands (first + facts_in y) (rows + rows_in y) 0 cases in
          let whole = size_split clause cases in
          let sizes = ap (λ (ts : List CaseTree). size_of_all ts) trees in
          record {
            ready = next_ready clause cases split p refl new reached.variables reached.stands (first + facts_in y) (rows + rows_in y) 0 cases
                (λ j t at. let e : j ≡ 0 + j = omega arith in subst (λ n. slice_get cases n ≡ Some t) e at);
            less = omega arith;
            leads = λ schema domains b is.
                let led = reached.leads schema b rows is in
                let b' : Branch = with_facts b led.more in
                let count = led.count in
                let long = length-append b.facts led.more in
                let size = is.facts_are in
                let is' : IsBranch problem makers b' way first rows =
                branch_more makers problem b b' (record { facts = λ i x at. slice_get_front b.facts led.more i x at; tables = λ i table at. at }) way facts rows first rows (omega arith) is.rows_are is in
                let listed = hanging.listed clause (out-Formula led.has.formula) led.has.variables led.has.stands in
                let one : split.c ≡ listed.0 = same_Some split.c listed.0 (sym split.at ∙ listed.1) in
                let layer : out-Formula led.has.formula ≡ y = ap out-Formula led.same in
                let as_many : length cases ≡ length (ways_in led.has.variables y) =
                split.count ∙ (ap (λ (c : Clause). length c.ways) one ∙ (ap (λ ws. length ws) listed.2 ∙ ap (λ z. length (ways_in led.has.variables z)) layer)) in
                let opened = opens problem makers hanging schema way b' p is' led.has led.same y layer cases as_many in
                record {
                  branches = opened.branches;
                  after = λ rest.
                      after_append schema (said_steps r.said) (opening_steps r.fact y) (b ∷ rest)
                      ∙ (ap (option_and_then (branches_after schema (opening_steps r.fact y))) (led.after rest) ∙ opened.after rest);
                  are = next_branches schema b' p is' led.has led.same (first + facts_in y) (rows + rows_in y) 0 cases opened.branches opened.are;
                };
          }

  -- ---- a split that was made before

  pub again_written : (clause : ℕ) (cases : List CaseTree) → IsClosedOn problem way (variant.Split clause cases) → (o : Opened) → opened_at way clause ≡ Some o → (facts rows : ℕ) (t : CaseTree) →
      slice_get cases o.way ≡ Some t →
      IsWritten problem makers way facts rows (variant.Split clause cases) [] (record { tree = t; above = length way; opened = None; facts = facts; rows = rows } ∷ [])
  again_written clause cases closed o found facts rows t at =
      let split = split_is problem way clause cases closed in
      let e : way ≡ take (length way) way ++ [] = sym (append-nil (take (length way) way) ∙ take_all (length way) way (omega arith)) in
      let plain : 0 + o.way ≡ o.way = omega arith in
      let here : IsClosedOn problem way t = record {
        guards = split.guards ++ at_way clause o.way ∷ [];
        closed = subst (λ n. is_closed problem.clauses problem.frame t (split.guards ++ at_way clause n ∷ []) ≡ true) plain (way_closed problem clause 0 cases split.guards split.ways o.way t at);
        covers = covers_again way split.guards o clause split.covers found;
      } in
      let whole = size_split clause cases in
      let part = size_at cases o.way t at in
      record {
        ready = (
          refl,
          record {
            within = omega arith;
            is_new = tt;
            standing = subst (AreStanding problem) e standing;
            closed = subst (λ os. IsClosedOn problem os t) e here;
          },
          tt,
        );
        less = omega arith;
        leads = λ schema domains b is. record {
          branches = b ∷ [];
          after = λ rest. refl;
          are = (subst (λ os. IsBranch problem makers b os facts rows) e is, tt);
        };
      }

  -- ---- a leaf

  module _ (are_makers : AreMakers problem makers) (conflict : Conflict) (chosen : List Guard) where
    abbrev fact : ℕ → ℕ
    fact = at_number (map (λ (g : Guard). fact_at way g.clause) chosen)

    abbrev rename : ℕ → ℕ
    rename = at_number (map (row_at way) makers)

    agrees : (v r : ℕ) → row_by makers way v ≡ Some r → rename v ≡ r
    agrees v r is =
        let made = row_made makers way v r is in
        ap (λ o. unwrap_or o 0) (at_map (row_at way) makers v made.0 made.1.1) ∙ (ap (λ (o : Option Opened). option_map_or (λ (o : Opened). o.row) o 0) made.1.2 ∙ made.1.3)

    fact_is : (i : ℕ) (g : Guard) (o : Opened) → slice_get chosen i ≡ Some g → opened_at way g.clause ≡ Some o → fact i ≡ o.fact
    fact_is i g o at found =
        ap (λ n. unwrap_or n 0) (at_map (λ (g : Guard). fact_at way g.clause) chosen i g at) ∙ ap (λ (o : Option Opened). option_map_or (λ (o : Opened). o.fact) o 0) found

    -- the literals are those of the choices
    literal_is : (gs : List Guard) (ls : List Literal) → literals_at problem.clauses problem.frame gs ≡ Some ls → (i : ℕ) (l : Literal) → slice_get ls i ≡ Some l →
        (g : Guard) × (slice_get gs i ≡ Some g) × (literal_at problem.clauses problem.frame g ≡ Some l)
    literal_is [] ls are i l at = absurd (none_there i l (subst (λ (ls : List Literal). slice_get ls i ≡ Some l) (sym (same_Some [] ls are)) at))
      where
        none_there : (i : ℕ) (l : Literal) → slice_get [] i ≡ Some l → ⊥
        none_there i l at = cc
    literal_is (g ∷ gs) ls are i l at =
        option_and_then_some (λ l. option_and_then (λ rest. Some (l ∷ rest)) (literals_at problem.clauses problem.frame gs)) (literal_at problem.clauses problem.frame g) ls are
        (λ m here more.
        option_and_then_some (λ rest. Some (m ∷ rest)) (literals_at problem.clauses problem.frame gs) ls more
        (λ rest there same.
        each i m rest here (literal_is gs rest there) (subst (λ (ls : List Literal). slice_get ls i ≡ Some l) (sym (same_Some (m ∷ rest) ls same)) at)))
      where
        each : (i : ℕ) (m : Literal) (rest : List Literal) → literal_at problem.clauses problem.frame g ≡ Some m →
            ((i : ℕ) (l : Literal) → slice_get rest i ≡ Some l → (h : Guard) × (slice_get gs i ≡ Some h) × (literal_at problem.clauses problem.frame h ≡ Some l)) → slice_get (m ∷ rest) i ≡ Some l →
            (h : Guard) × (slice_get (g ∷ gs) i ≡ Some h) × (literal_at problem.clauses problem.frame h ≡ Some l)
        each zero m rest here later at = (g, refl, here ∙ at)
        each (suc i) m rest here later at = later i l at

    tables : (b : Branch) (facts rows : ℕ) → IsBranch problem makers b way facts rows → (row named : ℕ) → row_by makers way row ≡ Some named →
        (table : ℕ) × (slice_get b.tables named ≡ Some table) × (slice_get problem.frame.tables row ≡ Some table)
    tables b facts rows is row named at =
        let made = row_made makers way row named at in
        let o : Opened = made.1.0 in
        let found = opened_in way made.0 o made.1.2 in
        let own = is.splits found.0 o found.1 in
        let maker = are_makers.is row made.0 made.1.1 in
        let stands : StandsAt problem o.clause (Formula-F.Exists maker.0 maker.1.body) maker.1.variables =
        subst (λ k. StandsAt problem k (Formula-F.Exists maker.0 maker.1.body) maker.1.variables) (sym found.2) maker.1.stands in
        let layer : out-Formula own.has.formula ≡ Formula-F.Exists maker.0 maker.1.body =
        stands_one problem o.clause (out-Formula own.has.formula) (Formula-F.Exists maker.0 maker.1.body) own.has.variables maker.1.variables own.has.stands stands in
        let came : HasOpened b o own.has.named (Formula-F.Exists maker.0 maker.1.body) = subst (HasOpened b o own.has.named) layer own.opened in
        (maker.0, ap (slice_get b.tables) (sym made.1.3) ∙ came.1, maker.1.in_frame)

    pub leaf_written : IsClosedOn problem way (variant.Leaf conflict chosen) → (facts rows : ℕ) →
        IsWritten problem makers way facts rows (variant.Leaf conflict chosen) (moved fact rename conflict.leaf ∷ []) []
    leaf_written closed facts rows =
        let step = closed_leaf problem conflict chosen closed.guards closed.closed in
        let parts = and_parts (are_among closed.guards chosen) (option_map_or (λ ls. is_right_leaf problem.frame ls conflict.leaf) (literals_at problem.clauses problem.frame chosen) false) step in
        let ls = passes (λ ls. is_right_leaf problem.frame ls conflict.leaf) (literals_at problem.clauses problem.frame chosen) parts.1 in
        let covers = covers_all way closed.guards chosen closed.covers parts.0 in
        let whole = size_leaf conflict chosen in
        record {
          ready = tt;
          less = omega arith;
          leads = λ schema domains b is.
              let closes = leaf_closes schema problem hanging domains b (row_by makers way) rename agrees (tables b facts rows is) conflict.leaf ls.0 ls.2 fact
              (λ i l at.
              let g = literal_is chosen ls.0 ls.1 i l at in
              let o = covers g.0 (is_there chosen i g.0 g.1) in
              let found = opened_in way g.0.clause o.0 o.1 in
              let own = is.splits found.0 o.0 found.1 in
              let has : HasFact problem b (row_by makers way) g.0.clause o.0.fact = subst (λ k. HasFact problem b (row_by makers way) k o.0.fact) found.2 own.has in
              subst (Says schema problem hanging domains b (row_by makers way) rename agrees (tables b facts rows is) l) (sym (fact_is i g.0 o.0 g.1 o.1))
              (fact_says schema problem hanging domains b (row_by makers way) rename agrees (tables b facts rows is) g.0 l g.2 o.0.fact has)) in
              record {
                branches = [];
                after = λ rest. ap (option_and_then (λ bs. branches_after schema [] (bs ++ rest))) closes;
                are = tt;
              };
        }
      where
        is_there : (gs : List Guard) (i : ℕ) (g : Guard) → slice_get gs i ≡ Some g → is_among gs g ≡ true
        is_there [] i g at = cc
        is_there (h ∷ gs) zero g at = or_left (is_same_guard g h) (is_among gs g) (subst (λ k. is_same_guard g k ≡ true) (sym (same_Some h g at)) (same_as_itself g))
        is_there (h ∷ gs) (suc i) g at = or_right (is_same_guard g h) (is_among gs g) (is_there gs i g at)

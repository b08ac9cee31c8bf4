-- What stands at a clause, by its guards and its rank.
use Rattle.std.proofs.Common.{◌≡◌, ◌∙◌, sym, ap, refl, subst, ℕ, zero, suc, ◌+◌, ◌<◌, inl, inr, true, false, List, [], ◌∷◌, ◌++◌, length, take, arith}
use Rattle.std.proofs.lemmas.Bool.{eqb-true}
use Rattle.std.proofs.lemmas.Bool.Decides.{nat_tests}
use Rattle.std.proofs.lemmas.Option.{same_Some, slice_get_within}
use Rattle.std.specs.Prelude.{Option, Some, None, slice_get, nat_eq}
use Rattle.std.specs.Option.{option_map_or}
use Rattle.sort_formula.specs.declared.formula.Formula.{Formula, out-Formula}
use Rattle.ground_theory.specs.declared.literal.Clause.{Clause}
use Rattle.ground_theory.specs.declared.literal.Guard.{Guard}
use Rattle.case_split.proofs.Places.{there}
use Rattle.sorted_skolem.proofs.Among.{among_at, at_among}
use Rattle.sorted_skolem.proofs.Parts.{root_of, at_root}
use Rattle.sorted_skolem.specs.Preorder.{Node, outlines_of, forall_tables}
use Rattle.instantiate.specs.declared.problem.Problem.{Problem}
use Rattle.instantiate.specs.Keys.{Key, stage_of}
use Rattle.instantiate.specs.Hanging.{keys_of_problem, StandsAt, IsRoot, HangsInside, Hangs, root, below, inside, AreParts, HasParts, HasWays, HasRow, Hanging, guards_at, at_way}
use Rattle.instantiate.proofs.Layers.{to_outline}
use Rattle.instantiate.proofs.Numbering.{key_of, stage_at, number_at, number_low}
use Rattle.proof_cert.specs.inner.Ranks.{slot_of, is_in_slot, count_in}
use Rattle.proof_cert.proofs.Ranking.{rank_is}

equal : (m n : ℕ) → m ≡ n → nat_eq m n ≡ true
equal m n same = grind (arith, nat_tests)

-- ---- slots

slot_above : (slot : ℕ) (c : Clause) (g : Guard) → c.guards ≡ g ∷ [] → g.clause + 1 ≡ slot → is_in_slot slot c ≡ true
slot_above slot c g are same = ap (λ gs. option_map_or (nat_eq slot) (slot_of gs) false) are ∙ equal slot (g.clause + 1) (sym same)

-- the clauses of a slot that isn't the first have one guard
above_slot : (n : ℕ) (guards : List Guard) → option_map_or (nat_eq (n + 1)) (slot_of guards) false ≡ true → (way : ℕ) × (guards ≡ at_way n way ∷ [])
above_slot n [] is = let e = eqb-true (n + 1) 0 is in absurd (omega arith)
above_slot n (g ∷ []) is =
    let e = eqb-true (n + 1) (g.clause + 1) is in
    let same : g.clause ≡ n = omega arith in
    (g.way, ap (λ k. at_way k g.way ∷ []) same)
above_slot n (g ∷ h ∷ gs) is = cc

no_slot : (guards : List Guard) → option_map_or (nat_eq 0) (slot_of guards) false ≡ true → guards ≡ []
no_slot [] is = refl
no_slot (g ∷ []) is = let e = eqb-true 0 (g.clause + 1) is in absurd (omega arith)
no_slot (g ∷ h ∷ gs) is = cc

module _ (problem : Problem) where
  pub guards_there : (clause : ℕ) (c : Clause) → slice_get problem.clauses clause ≡ Some c → guards_at problem clause ≡ c.guards
  guards_there clause c at = ap (λ o. option_map_or (λ (c : Clause). c.guards) o []) at

  -- a clause with a guard is there
  pub there_with : (clause : ℕ) (g : Guard) (gs : List Guard) → guards_at problem clause ≡ g ∷ gs → (c : Clause) × (slice_get problem.clauses clause ≡ Some c) × (c.guards ≡ g ∷ gs)
  there_with clause g gs are = by (slice_get problem.clauses clause) refl
    where
      by : (o : Option Clause) → slice_get problem.clauses clause ≡ o → (c : Clause) × (o ≡ Some c) × (c.guards ≡ g ∷ gs)
      by None is = let e : [] ≡ g ∷ gs = sym (ap (λ o. option_map_or (λ (c : Clause). c.guards) o []) is) ∙ are in cc
      by (Some c) is = (c, refl, sym (guards_there clause c is) ∙ are)

  -- ---- parts

  part_at : (guard : ℕ → Guard) (i : ℕ) (variables : List ℕ) (gs : List Formula) (cs : List ℕ) → AreParts problem guard i variables gs cs → (place c : ℕ) → slice_get cs place ≡ Some c →
      (g : Formula) × (slice_get gs place ≡ Some g) × StandsAt problem c (out-Formula g) variables × (guards_at problem c ≡ guard (i + place) ∷ [])
  part_at guard i variables [] [] are place c at = cc
  part_at guard i variables [] (d ∷ ds) are place c at = absurd are
  part_at guard i variables (g ∷ gs) [] are place c at = absurd are
  part_at guard i variables (g ∷ gs) (d ∷ ds) are zero c at =
      let same : d ≡ c = same_Some d c at in
      let plain : i ≡ i + 0 = omega arith in
      (g, refl, subst (λ c. StandsAt problem c (out-Formula g) variables) same are.0, ap (guards_at problem) (sym same) ∙ (are.1 ∙ ap (λ n. guard n ∷ []) plain))
  part_at guard i variables (g ∷ gs) (d ∷ ds) are (suc place) c at =
      let rest = part_at guard (suc i) variables gs ds are.2 place c at in
      let e : suc i + place ≡ i + suc place = omega arith in
      (rest.0, rest.1, rest.2, rest.3 ∙ ap (λ n. guard n ∷ []) e)

  -- a part of an And, by its rank
  pub part_of_and : (above way clause : ℕ) (variables : List ℕ) (gs : List Formula) → HasParts problem above variables gs → guards_at problem clause ≡ at_way above way ∷ [] →
      (g : Formula) × (slice_get gs (count_in (above + 1) (take clause problem.clauses)) ≡ Some g) × StandsAt problem clause (out-Formula g) variables
  part_of_and above way clause variables gs parts are =
      let at = parts.all clause way (record { guards = are }) in
      let part = part_at (λ number. at_way above 0) 0 variables gs parts.clauses parts.are at.0 clause at.1 in
      let rank : count_in (above + 1) (take clause problem.clauses) ≡ at.0 =
      rank_is (above + 1) problem.clauses parts.clauses parts.ascend
      (λ d x there is.
      let guard = above_slot above x.guards is in
      let place = parts.all d guard.0 (record { guards = guards_there d x there ∙ guard.1 }) in
      among_at parts.clauses place.0 d place.1)
      (λ d is.
      let place = at_among parts.clauses d is in
      let own = part_at (λ number. at_way above 0) 0 variables gs parts.clauses parts.are place.0 d place.1 in
      let c = there_with d (at_way above 0) [] own.3 in
      (c.0, c.1, slot_above (above + 1) c.0 (at_way above 0) c.2 refl))
      at.0 clause at.1 in
      (part.0, ap (slice_get gs) rank ∙ part.1, part.2)

  -- a part of an Or, by the way
  pub part_of_or : (above way clause : ℕ) (variables : List ℕ) (gs : List Formula) → HasWays problem above variables gs → guards_at problem clause ≡ at_way above way ∷ [] →
      (g : Formula) × (slice_get gs way ≡ Some g) × StandsAt problem clause (out-Formula g) variables
  part_of_or above way clause variables gs ways are =
      let part = part_at (at_way above) 0 variables gs ways.clauses ways.are way clause (ways.all clause way (record { guards = are })) in
      (part.0, part.1, part.2)

  -- what is inside an Exists
  pub part_of_exists : (above way clause table : ℕ) (variables : List ℕ) (body : Formula) (row : HasRow problem above table variables body) → guards_at problem clause ≡ at_way above way ∷ [] →
      StandsAt problem clause (out-Formula body) (variables ++ row.row ∷ [])
  part_of_exists above way clause table variables body row are =
      subst (λ c. StandsAt problem c (out-Formula body) (variables ++ row.row ∷ [])) (sym (row.all clause way (record { guards = are }))) row.stands

  -- ---- roots

  -- a later sentence has a later root
  root_order : (sentence clause other second : ℕ) → IsRoot problem sentence clause → IsRoot problem other second → sentence < other → clause < second
  root_order sentence clause other second one two less =
      let os : List (List Node) = outlines_of problem.sentences in
      let order : List ℕ = problem.order.tables in
      let k : Key = key_of sentence 0 [] in
      let l : Key = key_of other 0 [] in
      let at : slice_get (keys_of_problem problem) clause ≡ Some k = one.stands.is_key ∙ ap Some one.is_own in
      let to : slice_get (keys_of_problem problem) second ≡ Some l = two.stands.is_key ∙ ap Some two.is_own in
      let first : stage_at os order problem.rows.terms k ≡ 0 =
      ap (λ o. option_map_or (λ (x : Node). stage_of order (forall_tables x)) o 0) (to_outline problem.sentences sentence 0 one.formula (root_of one.formula) one.is_sentence (at_root one.formula)) in
      let later : stage_at os order problem.rows.terms l ≡ 0 =
      ap (λ o. option_map_or (λ (x : Node). stage_of order (forall_tables x)) o 0) (to_outline problem.sentences other 0 two.formula (root_of two.formula) two.is_sentence (at_root two.formula)) in
      let low = number_low os order problem.rows.terms k l (among_at (keys_of_problem problem) clause k at) (among_at (keys_of_problem problem) second l to) (inr (first ∙ sym later, inl less)) in
      let e = number_at os order problem.rows.terms clause k at in
      let f = number_at os order problem.rows.terms second l to in
      omega arith

  module _ (hanging : Hanging problem) where
    -- the roots of the sentences from a number on
    roots_from : (i : ℕ) (ss : List Formula) → ((j : ℕ) (f : Formula) → slice_get ss j ≡ Some f → slice_get problem.sentences (i + j) ≡ Some f) →
        (cs : List ℕ) × (length cs ≡ length ss) × ((j c : ℕ) → slice_get cs j ≡ Some c → IsRoot problem (i + j) c)
    roots_from i [] at = ([], refl, λ j c there. cc)
    roots_from i (f ∷ fs) at =
        let plain : i + 0 ≡ i = omega arith in
        let here = hanging.roots i f (subst (λ n. slice_get problem.sentences n ≡ Some f) plain (at 0 f refl)) in
        let rest = roots_from (suc i) fs (λ j g there. let e : i + suc j ≡ suc i + j = omega arith in subst (λ n. slice_get problem.sentences n ≡ Some g) e (at (suc j) g there)) in
        (here.0 ∷ rest.0, ap suc rest.1, λ j c there. each j c here.0 here.1 rest.0 rest.2 there)
      where
        each : (j c first : ℕ) → IsRoot problem i first → (cs : List ℕ) → ((j c : ℕ) → slice_get cs j ≡ Some c → IsRoot problem (suc i + j) c) → slice_get (first ∷ cs) j ≡ Some c → IsRoot problem (i + j) c
        each zero c first is cs rest there =
            let plain : i ≡ i + 0 = omega arith in
            subst (λ n. IsRoot problem n c) plain (subst (IsRoot problem i) (same_Some first c there) is)
        each (suc j) c first is cs rest there = let e : suc i + j ≡ i + suc j = omega arith in subst (λ n. IsRoot problem n c) e (rest j c there)

    -- the roots of all, each under the number of its sentence
    record Roots : Type 0 where
      numbers : List ℕ
      are : (sentence clause : ℕ) → slice_get numbers sentence ≡ Some clause → IsRoot problem sentence clause
      all : (sentence clause : ℕ) → IsRoot problem sentence clause → slice_get numbers sentence ≡ Some clause

    roots : Roots
    roots =
        let found = roots_from 0 problem.sentences (λ j f at. let e : j ≡ 0 + j = omega arith in subst (λ n. slice_get problem.sentences n ≡ Some f) e at) in
        let numbered : (j c : ℕ) → slice_get found.0 j ≡ Some c → IsRoot problem j c = λ j c at. let e : 0 + j ≡ j = omega arith in subst (λ n. IsRoot problem n c) e (found.2 j c at) in
        record {
          numbers = found.0;
          are = numbered;
          all = λ s d is.
              let low = slice_get_within problem.sentences s is.formula is.is_sentence in
              let count = found.1 in
              let own = there found.0 s (omega arith) in
              let one = (hanging.roots s is.formula is.is_sentence).2 in
              own.1 ∙ ap (λ c. Some c) (one own.0 (numbered s own.0 own.1) ∙ sym (one d is));
        }

    root_there : (clause : ℕ) (c : Clause) → slice_get problem.clauses clause ≡ Some c → c.guards ≡ [] → (sentence : ℕ) × IsRoot problem sentence clause
    root_there clause c at none = by (hanging.hangs clause c at)
      where
        empty : guards_at problem clause ≡ []
        empty = guards_there clause c at ∙ none

        by : Hangs problem clause → (sentence : ℕ) × IsRoot problem sentence clause
        by (root sentence is) = (sentence, is)
        by (below above way is) = let e : at_way above way ∷ [] ≡ [] = sym is.guards ∙ empty in cc
        by (inside above row maker is) = let e : at_way above 0 ∷ at_way maker 0 ∷ [] ≡ [] = sym is.guards ∙ empty in cc

    -- a clause without guards is the root of the sentence of its rank
    pub root_at : (clause : ℕ) (c : Clause) → slice_get problem.clauses clause ≡ Some c → c.guards ≡ [] → IsRoot problem (count_in 0 (take clause problem.clauses)) clause
    root_at clause c at none =
        let own = root_there clause c at none in
        let rank : count_in 0 (take clause problem.clauses) ≡ own.0 =
        rank_is 0 problem.clauses roots.numbers (λ i j c d less first second. root_order i c j d (roots.are i c first) (roots.are j d second) less)
        (λ d x at is.
        let root = root_there d x at (no_slot x.guards is) in
        among_at roots.numbers root.0 d (roots.all root.0 d root.1))
        (λ d is.
        let place = at_among roots.numbers d is in
        let root = roots.are place.0 d place.1 in
        let listed = hanging.listed d (out-Formula root.formula) [] root.stands in
        (listed.0, listed.1, ap (λ gs. option_map_or (nat_eq 0) (slot_of gs) false) (sym (guards_there d listed.0 listed.1) ∙ root.guards)))
        own.0 clause (roots.all own.0 clause own.1) in
        subst (λ n. IsRoot problem n clause) (sym rank) own.1

    -- a clause with two guards is inside a Forall
    pub inside_at : (clause : ℕ) (g h : Guard) → guards_at problem clause ≡ g ∷ h ∷ [] →
        (above : ℕ) × ((row : ℕ) × ((maker : ℕ) × HangsInside problem above row maker clause × (g ≡ at_way above 0) × (h ≡ at_way maker 0)))
    inside_at clause g h are = let c = there_with clause g (h ∷ []) are in by (hanging.hangs clause c.0 c.1)
      where
        by : Hangs problem clause → (above : ℕ) × ((row : ℕ) × ((maker : ℕ) × HangsInside problem above row maker clause × (g ≡ at_way above 0) × (h ≡ at_way maker 0)))
        by (root sentence is) = let e : [] ≡ g ∷ h ∷ [] = sym is.guards ∙ are in cc
        by (below above way is) = let e : at_way above way ∷ [] ≡ g ∷ h ∷ [] = sym is.guards ∙ are in cc
        by (inside above row maker is) =
            let e : g ∷ h ∷ [] ≡ at_way above 0 ∷ at_way maker 0 ∷ [] = sym are ∙ is.guards in
            let first : g ≡ at_way above 0 = same_Some g (at_way above 0) (ap (λ gs. slice_get gs 0) e) in
            let second : h ≡ at_way maker 0 = same_Some h (at_way maker 0) (ap (λ gs. slice_get gs 1) e) in
            (above, (row, (maker, is, first, second)))

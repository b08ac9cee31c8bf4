-- Below a closed tree a branch in which its choices are known can be refuted, step by step.
use Rattle.std.proofs.Common.{◌≡◌, ◌∙◌, sym, ap, refl, subst, ℕ, suc, ◌+◌, ◌⊎◌, inl, inr, Bool, true, false, ◌&&◌, List, [], ◌∷◌, ◌++◌, length, map, add-one, arith}
use Rattle.std.proofs.lemmas.Bool.{and_parts, eqb-true}
use Rattle.std.proofs.lemmas.Bool.Decides.{nat_tests}
use Rattle.std.proofs.lemmas.List.{append_assoc, length-map, length-append}
use Rattle.std.proofs.lemmas.Option.{same_Some}
use Rattle.std.specs.Prelude.{Option, Some, None, slice_get, nat_eq, option_and_then, if◌then◌else◌}
use Rattle.std.specs.Option.{option_map_or}
use Rattle.lint_core.specs.declared.certificate.Step.{Step}
use Rattle.lint_core.specs.declared.certificate.Step.TheVariants as step
use Rattle.lint_core.specs.declared.schema.Table.{Table}
use Rattle.sort_formula.specs.declared.formula.Atom.{Atom}
use Rattle.sort_formula.specs.declared.formula.Formula.{Formula, out-Formula}
use Rattle.sort_formula.specs.declared.formula.Formula.TheOpen.{Formula-F}
use Rattle.sort_formula.specs.Certificate.{fact_of, with_facts, with_parts, with_each_part, with_row, at_row, opened, children, branches_after}
use Rattle.sort_formula.specs.Facts.{Fact, Branch}
use Rattle.ground_theory.specs.declared.literal.Clause.{Clause}
use Rattle.ground_theory.specs.declared.literal.Conflict.{Conflict}
use Rattle.ground_theory.specs.declared.literal.Guard.{Guard}
use Rattle.ground_theory.specs.declared.literal.Literal.{Literal}
use Rattle.case_split.specs.declared.tree.CaseTree.{CaseTree, ind-CaseTree, roll-CaseTree, fold-roll-CaseTree, map-CaseTree}
use Rattle.case_split.specs.declared.tree.CaseTree.TheOpen.{CaseTree-F}
use Rattle.case_split.specs.Trees.{is_among, are_among, Meaning, ways_closed, split_closed, closed_step, is_closed}
use Rattle.lint_base.proofs.Lists.{slice_get_front}
use Rattle.formula_laws.proofs.Composing.{after_append}
use Rattle.case_split.proofs.Closed.{among_passes}
use Rattle.ground_theory.proofs.Moving.{passes}
use Rattle.instantiate.specs.declared.problem.Problem.{Problem}
use Rattle.instantiate.specs.Ground.{ways_in}
use Rattle.instantiate.specs.Hanging.{StandsAt, IsMaker, HangsBelow, Hangs, root, below, inside, AreParts, HasRow, Below, Hanging, guards_at, at_way}
use Rattle.proof_cert.specs.inner.Known.{Pairs, IsIn, row_of, Names, IsKnown, HasFact, IsDone, Grounded}
use Rattle.proof_cert.proofs.Growing.{get_middle, in_left, in_right, in_either, numbered_from, in_numbered, Grows, names_more, names_last, new_grows, new_row_is, named_either, stands_one, stands_variables, known_more, done_more, fact_more, grown, chosen_more}

module _ (schema : List Table) (problem : Problem) (hanging : Hanging problem) where
  -- steps that close the branch, whatever branches wait behind it
  abbrev pub Refuted : Branch → Type 0
  Refuted b = (steps : List Step) × ((rest : List Branch) → branches_after schema steps (b ∷ rest) ≡ Some rest)

  -- a right step with one child leaves that child to be refuted
  one_child : (b c : Branch) (s : Step) → children schema b s ≡ Some (c ∷ []) → Refuted c → Refuted b
  one_child b c s made refuted =
      (s ∷ refuted.0, λ rest. ap (option_and_then (λ bs. branches_after schema refuted.0 (bs ++ rest))) made ∙ refuted.1 rest)

  abbrev meaning : CaseTree → List Guard → Bool
  meaning = is_closed problem.clauses problem.frame

  abbrev Closes : CaseTree → Type 0
  Closes tree = (guards : List Guard) → meaning tree guards ≡ true → (b : Branch) (facts rows : Pairs) → Grounded problem b facts rows guards → Refuted b

  abbrev Part : Type 0
  Part = (t : CaseTree) × Closes t

  abbrev trees : List Part → List CaseTree
  trees parts = map (λ (part : Part). part.0) parts

  -- ---- a fact for a clause that is reached

  -- the branch may first take the row of a Forall
  abbrev Reached : Branch → Pairs → Pairs → List Guard → ℕ → Type 0
  Reached b facts rows guards clause =
      (c : Branch) × ((more : Pairs) × Grounded problem c more rows guards × IsKnown more clause × (Refuted c → Refuted b))

  pub opened_is : (b : Branch) (f : ℕ) (named : List ℕ) (g : Formula) (layer : Formula-F Formula) →
      (children_of : Branch → List ℕ → Formula-F Formula → Option (List Branch)) → slice_get b.facts f ≡ Some (fact_of named g) → out-Formula g ≡ layer →
      opened b f children_of ≡ children_of b named layer
  opened_is b f named g layer children_of at is =
      ap (option_and_then (λ (x : Fact). children_of b x.rows (out-Formula x.formula))) at ∙ ap (children_of b named) is

  among_all : (guards : List Guard) (those : List Guard) (g : Guard) → are_among guards those ≡ true → is_among those g ≡ true → is_among guards g ≡ true
  among_all guards those g all among = among_passes (is_among guards) those g all among

  first_among : (guards : List Guard) (g : Guard) (gs : List Guard) → are_among guards (g ∷ gs) ≡ true → is_among guards g ≡ true
  first_among guards g gs all = (and_parts (is_among guards g) (are_among guards gs) all).0

  second_among : (guards : List Guard) (g h : Guard) (gs : List Guard) → are_among guards (g ∷ h ∷ gs) ≡ true → is_among guards h ≡ true
  second_among guards g h gs all = first_among guards h gs (and_parts (is_among guards g) (are_among guards (h ∷ gs)) all).1

  pub at_row_is : (row table : ℕ) (body : Formula) (b : Branch) (named : List ℕ) → slice_get b.tables row ≡ Some table →
      at_row row b named (Formula-F.Forall table body) ≡ Some (with_facts b (fact_of (named ++ row ∷ []) body ∷ []) ∷ [])
  at_row_is row table body b named at =
      let test : option_map_or (nat_eq table) (slice_get b.tables row) false ≡ true = ap (λ o. option_map_or (nat_eq table) o false) at ∙ same_number table in
      ap (λ (t : Bool). if t then Some (with_facts b (fact_of (named ++ row ∷ []) body ∷ []) ∷ []) else None) test
    where
      same_number : (n : ℕ) → nat_eq n n ≡ true
      same_number n = grind (arith, nat_tests)

  reach : (b : Branch) (facts rows : Pairs) (guards : List Guard) → Grounded problem b facts rows guards → (clause : ℕ) → Hangs problem clause →
      are_among guards (guards_at problem clause) ≡ true → Reached b facts rows guards clause
  reach b facts rows guards grounded clause (root sentence is) among = (b, (facts, grounded, grounded.roots sentence clause is, λ refuted. refuted))
  reach b facts rows guards grounded clause (below above way is) among =
      let done = grounded.done (at_way above way) (first_among guards (at_way above way) [] (subst (λ (gs : List Guard). are_among guards gs ≡ true) is.guards among)) in
      (b, (facts, grounded, done.below clause is, λ refuted. refuted))
  reach b facts rows guards grounded clause (inside above row maker is) among =
      let both = subst (λ (gs : List Guard). are_among guards gs ≡ true) is.guards among in
      let first = grounded.done (at_way above 0) (first_among guards (at_way above 0) (at_way maker 0 ∷ []) both) in
      let second = grounded.done (at_way maker 0) (second_among guards (at_way above 0) (at_way maker 0) [] both) in
      let fact = grounded.is above first.known.0 first.known.1 in
      let named = second.made row is.table is.row_is in
      let table = grounded.tables row named.0 named.1 in
      let tables : slice_get b.tables named.0 ≡ Some is.table = table.1 ∙ (sym table.2 ∙ is.row_is.in_frame) in
      let layer : out-Formula fact.formula ≡ Formula-F.Forall is.table is.body =
      stands_one problem above (out-Formula fact.formula) (Formula-F.Forall is.table is.body) fact.variables is.variables fact.stands is.above_is in
      let variables : fact.variables ≡ is.variables =
      stands_variables problem above (out-Formula fact.formula) (Formula-F.Forall is.table is.body) fact.variables is.variables fact.stands is.above_is in
      let new : Fact = fact_of (fact.named ++ named.0 ∷ []) is.body in
      let c : Branch = with_facts b (new ∷ []) in
      let fresh : Pairs = (clause, length b.facts) ∷ [] in
      let has : HasFact problem c (row_of rows) clause (length b.facts) = record {
        formula = is.body;
        variables = is.variables ++ row ∷ [];
        named = fact.named ++ named.0 ∷ [];
        stands = is.clause_is;
        is_fact = get_middle b.facts new [];
        names = names_last (row_of rows) is.variables fact.named row named.0 (subst (λ vs. Names (row_of rows) vs fact.named) variables fact.names) named.1;
      } in
      let grounded' : Grounded problem c (fresh ++ facts) rows guards =
      grown problem b facts rows guards grounded (new ∷ []) fresh
      (λ k f known. elim known [
        | inl here ↦ subst (λ (p : ℕ × ℕ). HasFact problem c (row_of rows) p.0 p.1) here has
        | inr never ↦ absurd never
      ]) in
      let made : children schema b (step.All first.known.0 named.0) ≡ Some (c ∷ []) =
      opened_is b first.known.0 fact.named fact.formula (Formula-F.Forall is.table is.body) (at_row named.0) fact.is_fact layer
      ∙ at_row_is named.0 is.table is.body b fact.named tables in
      (c, (fresh ++ facts, grounded', (length b.facts, inl refl), λ refuted. one_child b c (step.All first.known.0 named.0) made refuted))

  -- ---- splits, by what stands at the clause

  length_one : (parts : List Part) (n : ℕ) → length (map meaning (trees parts)) ≡ n → n ≡ 1 → (part : Part) × (parts ≡ part ∷ [])
  length_one [] n count one = absurd (omega arith)
  length_one (part ∷ []) n count one = (part, refl)
  length_one (part ∷ next ∷ parts) n count one = absurd (omega arith)

  -- the one tree of a clause with one way
  one_way : (number : ℕ) (parts : List Part) (guards : List Guard) → length (map meaning (trees parts)) ≡ 1 →
      ways_closed problem.clauses problem.frame number 0 (map meaning (trees parts)) guards ≡ true →
      (b : Branch) (facts rows : Pairs) → Grounded problem b facts rows (guards ++ at_way number 0 ∷ []) → Refuted b
  one_way number parts guards count closed b facts rows grounded =
      let one = length_one parts 1 count refl in
      let closed' = subst (λ (ps : List Part). ways_closed problem.clauses problem.frame number 0 (map meaning (trees ps)) guards ≡ true) one.1 closed in
      one.0.1 (guards ++ at_way number 0 ∷ []) (and_parts (meaning one.0.0 (guards ++ at_way number 0 ∷ [])) true closed').0 b facts rows grounded

  -- no row is made where no Exists stands
  abbrev NoRow : ℕ → Type 0
  NoRow number = (row table : ℕ) → IsMaker problem row number table → ⊥

  no_row_done : (facts rows : Pairs) (number way : ℕ) → IsKnown facts number → NoRow number → ((clause : ℕ) → HangsBelow problem number way clause → IsKnown facts clause) →
      IsDone problem facts rows (at_way number way)
  no_row_done facts rows number way known none parts = record { known = known; below = parts; made = λ row table maker. absurd (none row table maker) }

  parts_known : (b : Branch) (rows : Pairs) (guard : ℕ → Guard) (i : ℕ) (variables named : List ℕ) (front : List Fact) (gs : List Formula) (cs : List ℕ) →
      AreParts problem guard i variables gs cs → Names (row_of rows) variables named → (clause fact : ℕ) → IsIn (numbered_from (length front) cs) (clause, fact) →
      HasFact problem (record { facts = front ++ map (fact_of named) gs; tables = b.tables }) (row_of rows) clause fact
  parts_known b rows guard i variables named front [] [] are names clause fact known = absurd known
  parts_known b rows guard i variables named front [] (c ∷ cs) are names clause fact known = absurd are
  parts_known b rows guard i variables named front (g ∷ gs) [] are names clause fact known = absurd are
  parts_known b rows guard i variables named front (g ∷ gs) (c ∷ cs) are names clause fact known =
      let whole : Branch = record { facts = front ++ map (fact_of named) (g ∷ gs); tables = b.tables } in
      let has : HasFact problem whole (row_of rows) c (length front) = record {
        formula = g;
        variables = variables;
        named = named;
        stands = are.0;
        is_fact = get_middle front (fact_of named g) (map (fact_of named) gs);
        names = names;
      } in
      elim known [
        | inl here ↦ subst (λ (p : ℕ × ℕ). HasFact problem whole (row_of rows) p.0 p.1) here has
        | inr later ↦
            let more : List Fact = front ++ fact_of named g ∷ [] in
            let count : suc (length front) ≡ length more = sym (length-append front (fact_of named g ∷ []) ∙ add-one (length front)) in
            let rest = parts_known b rows guard (suc i) variables named more gs cs are.2 names clause fact (subst (λ n. IsIn (numbered_from n cs) (clause, fact)) count later) in
            subst (λ (fs : List Fact). HasFact problem (record { facts = fs; tables = b.tables }) (row_of rows) clause fact) (append_assoc front (fact_of named g ∷ []) (map (fact_of named) gs)) rest
      ]

  module _ (number : ℕ) (parts : List Part) (guards : List Guard) (closed : ways_closed problem.clauses problem.frame number 0 (map meaning (trees parts)) guards ≡ true)
      (b : Branch) (facts rows : Pairs) (grounded : Grounded problem b facts rows guards) (f : ℕ) (known : IsIn facts (number, f)) (has : HasFact problem b (row_of rows) number f) where
    abbrev Counted : ℕ → Type 0
    Counted n = length (map meaning (trees parts)) ≡ n

    -- no step: the choice is done
    plain_split : Counted 1 → NoRow number → ((clause way : ℕ) → ¬ (HangsBelow problem number way clause)) → Refuted b
    plain_split count none nothing =
        one_way number parts guards count closed b facts rows
        (chosen_more problem b facts rows guards (at_way number 0) grounded
        (no_row_done facts rows number 0 (f, known) none (λ clause hangs. absurd (nothing clause 0 hangs))))

    of_atom : (a : Atom) → StandsAt problem number (Formula-F.Atom a) has.variables → Below problem number (Formula-F.Atom a) has.variables → Counted 1 → Refuted b
    of_atom a stands nothing count =
        plain_split count
        (λ row table maker.
        let same : Formula-F.Atom a ≡ Formula-F.Exists table maker.body = stands_one problem number (Formula-F.Atom a) (Formula-F.Exists table maker.body) has.variables maker.variables stands maker.stands in
        cc)
        nothing

    of_forall : (table : ℕ) (body : Formula) → StandsAt problem number (Formula-F.Forall table body) has.variables → Below problem number (Formula-F.Forall table body) has.variables → Counted 1 → Refuted b
    of_forall table body stands instances count =
        plain_split count
        (λ row second maker.
        let same : Formula-F.Forall table body ≡ Formula-F.Exists second maker.body = stands_one problem number (Formula-F.Forall table body) (Formula-F.Exists second maker.body) has.variables maker.variables stands maker.stands in
        cc)
        instances.none

    of_and : (gs : List Formula) → out-Formula has.formula ≡ Formula-F.And gs → StandsAt problem number (Formula-F.And gs) has.variables → Below problem number (Formula-F.And gs) has.variables → Counted 1 → Refuted b
    of_and gs is stands hung count =
        let new : Pairs = numbered_from (length b.facts) hung.clauses in
        let c : Branch = with_facts b (map (fact_of has.named) gs) in
        let made : children schema b (step.And f) ≡ Some (c ∷ []) = opened_is b f has.named has.formula (Formula-F.And gs) with_parts has.is_fact is in
        let grown' : Grounded problem c (new ++ facts) rows guards =
        grown problem b facts rows guards grounded (map (fact_of has.named) gs) new
        (parts_known b rows (λ i. at_way number 0) 0 has.variables has.named b.facts gs hung.clauses hung.are has.names) in
        let none : NoRow number =
        λ row table maker.
        let same : Formula-F.And gs ≡ Formula-F.Exists table maker.body = stands_one problem number (Formula-F.And gs) (Formula-F.Exists table maker.body) has.variables maker.variables stands maker.stands in
        cc in
        let done : IsDone problem (new ++ facts) rows (at_way number 0) =
        no_row_done (new ++ facts) rows number 0 (f, in_right new facts (number, f) known) none
        (λ clause hangs.
        let place = hung.all clause 0 hangs in
        let at = in_numbered (length b.facts) hung.clauses place.0 clause place.1 in
        (at.0, in_left new facts (clause, at.0) at.1)) in
        one_child b c (step.And f) made (one_way number parts guards count closed c (new ++ facts) rows (chosen_more problem c (new ++ facts) rows guards (at_way number 0) grown' done))

  module _ (number : ℕ) (guards : List Guard) (b : Branch) (facts rows : Pairs) (grounded : Grounded problem b facts rows guards)
      (f : ℕ) (known : IsIn facts (number, f)) (variables named : List ℕ) (names : Names (row_of rows) variables named) (none : NoRow number) where
    abbrev part_branch : Formula → Branch
    part_branch g = with_facts b (fact_of named g ∷ [])

    each_way : (i : ℕ) (parts : List Part) (gs : List Formula) (cs : List ℕ) → length (map meaning (trees parts)) ≡ length gs →
        AreParts problem (at_way number) i variables gs cs →
        ((clause way j : ℕ) → HangsBelow problem number way clause → way ≡ i + j → slice_get cs j ≡ Some clause) →
        ways_closed problem.clauses problem.frame number i (map meaning (trees parts)) guards ≡ true →
        (steps : List Step) × ((rest : List Branch) → branches_after schema steps (map part_branch gs ++ rest) ≡ Some rest)
    each_way i [] [] cs count are all closed = ([], λ rest. refl)
    each_way i [] (g ∷ gs) cs count are all closed = absurd (omega arith)
    each_way i (part ∷ parts) [] cs count are all closed = absurd (omega arith)
    each_way i (part ∷ parts) (g ∷ gs) [] count are all closed = absurd are
    each_way i (part ∷ parts) (g ∷ gs) (c ∷ cs) count are all closed =
        let now : List Guard = guards ++ at_way number i ∷ [] in
        let both = and_parts (meaning part.0 now) (ways_closed problem.clauses problem.frame number (suc i) (map meaning (trees parts)) guards) closed in
        let here : Branch = part_branch g in
        let new : Pairs = (c, length b.facts) ∷ [] in
        let fact : HasFact problem here (row_of rows) c (length b.facts) = record {
          formula = g;
          variables = variables;
          named = named;
          stands = are.0;
          is_fact = get_middle b.facts (fact_of named g) [];
          names = names;
        } in
        let more : Grounded problem here (new ++ facts) rows guards =
        grown problem b facts rows guards grounded (fact_of named g ∷ []) new
        (λ k n is. elim is [
          | inl same ↦ subst (λ (p : ℕ × ℕ). HasFact problem here (row_of rows) p.0 p.1) same fact
          | inr never ↦ absurd never
        ]) in
        let plain : i ≡ i + 0 = omega arith in
        let done : IsDone problem (new ++ facts) rows (at_way number i) =
        no_row_done (new ++ facts) rows number i (f, in_right new facts (number, f) known) none
        (λ clause hangs.
        let same : c ≡ clause = same_Some c clause (all clause i 0 hangs plain) in
        (length b.facts, inl (ap (λ k. (k, length b.facts)) same))) in
        let first = part.1 now both.0 here (new ++ facts) rows (chosen_more problem here (new ++ facts) rows guards (at_way number i) more done) in
        let later = each_way (suc i) parts gs cs (omega arith) are.2
        (λ clause way j hangs is. all clause way (suc j) hangs (let e : suc i + j ≡ i + suc j = omega arith in is ∙ e)) both.1 in (
          first.0 ++ later.0,
          λ rest.
              after_append schema first.0 later.0 (here ∷ (map part_branch gs ++ rest))
              ∙ (ap (option_and_then (branches_after schema later.0)) (first.1 (map part_branch gs ++ rest)) ∙ later.1 rest),
        )

  -- ---- Exists: its row, where it has none yet

  module _ (number : ℕ) (parts : List Part) (guards : List Guard) (closed : ways_closed problem.clauses problem.frame number 0 (map meaning (trees parts)) guards ≡ true)
      (b : Branch) (facts rows : Pairs) (grounded : Grounded problem b facts rows guards) (f : ℕ) (known : IsIn facts (number, f)) (has : HasFact problem b (row_of rows) number f)
      (table : ℕ) (body : Formula) (is : out-Formula has.formula ≡ Formula-F.Exists table body) (hung : HasRow problem number table has.variables body)
      (count : length (map meaning (trees parts)) ≡ 1) where
    old_row : (named : ℕ) → row_of rows hung.row ≡ Some named → Refuted b
    old_row named at =
        one_way number parts guards count closed b facts rows
        (chosen_more problem b facts rows guards (at_way number 0) grounded (grounded.made hung.row named number table at hung.is_maker))

    new_row : row_of rows hung.row ≡ None → Refuted b
    new_row none =
        let q : ℕ = length b.tables in
        let body_fact : Fact = fact_of (has.named ++ q ∷ []) body in
        let c : Branch = record { facts = b.facts ++ body_fact ∷ []; tables = b.tables ++ table ∷ [] } in
        let more : Pairs = (hung.row, q) ∷ rows in
        let new' : Pairs = (hung.clause, length b.facts) ∷ [] in
        let grows : Grows (row_of rows) (row_of more) = new_grows rows hung.row q none in
        let made : children schema b (step.Ex f) ≡ Some (c ∷ []) = opened_is b f has.named has.formula (Formula-F.Exists table body) with_row has.is_fact is in
        let at : row_of more hung.row ≡ Some q = new_row_is hung.row q rows in
        let fact : HasFact problem c (row_of more) hung.clause (length b.facts) = record {
          formula = body;
          variables = has.variables ++ hung.row ∷ [];
          named = has.named ++ q ∷ [];
          stands = hung.stands;
          is_fact = get_middle b.facts body_fact [];
          names = names_last (row_of more) has.variables has.named hung.row q (names_more (row_of rows) (row_of more) grows has.variables has.named has.names) at;
        } in
        let done : IsDone problem (new' ++ facts) more (at_way number 0) = record {
          known = (f, in_right new' facts (number, f) known);
          below = λ clause hangs. (length b.facts, inl (ap (λ k. (k, length b.facts)) (sym (hung.all clause 0 hangs))));
          made = λ row second maker. (q, ap (row_of more) (hung.only row second maker) ∙ at);
        } in
        let all : Grounded problem c (new' ++ facts) more guards = record {
          is = λ k n known. elim (in_either new' facts (k, n) known) [
            | inl fresh ↦ elim fresh [
              | inl same ↦ subst (λ (p : ℕ × ℕ). HasFact problem c (row_of more) p.0 p.1) same fact
              | inr never ↦ absurd never
            ]
            | inr old ↦ fact_more problem b (row_of rows) (row_of more) grows (body_fact ∷ []) (b.tables ++ table ∷ []) k n (grounded.is k n old)
          ];
          tables = λ row named is. elim (named_either hung.row q rows row named is) [
            | inl new ↦ (
              table,
              subst (λ n. slice_get (b.tables ++ table ∷ []) n ≡ Some table) new.1 (get_middle b.tables table []),
              subst (λ r. slice_get problem.frame.tables r ≡ Some table) new.0 hung.is_maker.in_frame,
            )
            | inr old ↦ let t = grounded.tables row named old in (t.0, slice_get_front b.tables (table ∷ []) named t.0 t.1, t.2)
          ];
          made = λ row named maker second is makes. elim (named_either hung.row q rows row named is) [
            | inl new ↦
                let same : number ≡ maker = hanging.one_maker hung.row number table maker second hung.is_maker (subst (λ r. IsMaker problem r maker second) (sym new.0) makes) in
                subst (λ k. IsDone problem (new' ++ facts) more (at_way k 0)) same done
            | inr old ↦ done_more problem new' facts rows more grows (at_way maker 0) (grounded.made row named maker second old makes)
          ];
          done = λ guard among. done_more problem new' facts rows more grows guard (grounded.done guard among);
          roots = λ sentence clause root. known_more problem new' facts clause (grounded.roots sentence clause root);
        } in
        one_child b c (step.Ex f) made (one_way number parts guards count closed c (new' ++ facts) more (chosen_more problem c (new' ++ facts) more guards (at_way number 0) all done))

  -- ---- a split whose clause is known

  by_layer : (number : ℕ) (parts : List Part) (guards : List Guard) → ways_closed problem.clauses problem.frame number 0 (map meaning (trees parts)) guards ≡ true →
      (b : Branch) (facts rows : Pairs) → Grounded problem b facts rows guards → (f : ℕ) → IsIn facts (number, f) → (has : HasFact problem b (row_of rows) number f) →
      (y : Formula-F Formula) → out-Formula has.formula ≡ y → StandsAt problem number y has.variables → Below problem number y has.variables → (vs : List ℕ) →
      length (map meaning (trees parts)) ≡ length (ways_in vs y) → Refuted b
  by_layer number parts guards closed b facts rows grounded f known has (Formula-F.Atom a) is stands hung vs count =
      of_atom number parts guards closed b facts rows grounded f known has a stands hung count
  by_layer number parts guards closed b facts rows grounded f known has (Formula-F.And gs) is stands hung vs count =
      of_and number parts guards closed b facts rows grounded f known has gs is stands hung count
  by_layer number parts guards closed b facts rows grounded f known has (Formula-F.Or gs) is stands hung vs count =
      let made : children schema b (step.Or f) ≡ Some (map (λ g. with_facts b (fact_of has.named g ∷ [])) gs) = opened_is b f has.named has.formula (Formula-F.Or gs) with_each_part has.is_fact is in
      let none : NoRow number =
      λ row table maker.
      let same : Formula-F.Or gs ≡ Formula-F.Exists table maker.body = stands_one problem number (Formula-F.Or gs) (Formula-F.Exists table maker.body) has.variables maker.variables stands maker.stands in
      cc in
      let as_many : length (map meaning (trees parts)) ≡ length gs = count ∙ length-map gs (λ (g : Formula). none_of g) in
      let ways = each_way number guards b facts rows grounded f known has.variables has.named has.names none 0 parts gs hung.clauses as_many hung.are
      (λ clause way j hangs is. let e : 0 + j ≡ j = omega arith in subst (λ n. slice_get hung.clauses n ≡ Some clause) (is ∙ e) (hung.all clause way hangs)) closed in
      (step.Or f ∷ ways.0, λ rest. ap (option_and_then (λ bs. branches_after schema ways.0 (bs ++ rest))) made ∙ ways.1 rest)
    where
      none_of : Formula → Option Literal
      none_of g = None
  by_layer number parts guards closed b facts rows grounded f known has (Formula-F.Exists table body) is stands hung vs count =
      elim (known_or_not (row_of rows hung.row)) [
        | inl old ↦ old_row number parts guards closed b facts rows grounded f known has table body is hung count old.0 old.1
        | inr none ↦ new_row number parts guards closed b facts rows grounded f known has table body is hung count none
      ]
    where
      known_or_not : (o : Option ℕ) → ((n : ℕ) × (o ≡ Some n)) ⊎ (o ≡ None)
      known_or_not None = inr refl
      known_or_not (Some n) = inl (n, refl)
  by_layer number parts guards closed b facts rows grounded f known has (Formula-F.Forall table body) is stands hung vs count =
      of_forall number parts guards closed b facts rows grounded f known has table body stands hung count

  split_closes : (number : ℕ) (parts : List Part) (guards : List Guard) → closed_step problem.clauses problem.frame (CaseTree-F.Split number (map meaning (trees parts))) guards ≡ true →
      (b : Branch) (facts rows : Pairs) → Grounded problem b facts rows guards → Refuted b
  split_closes number parts guards closed b facts rows grounded =
      let ts : List (Meaning problem.clauses problem.frame) = map meaning (trees parts) in
      let c = passes (split_closed problem.clauses problem.frame number ts guards) (slice_get problem.clauses number) closed in
      let first = and_parts (are_among guards c.0.guards) (nat_eq (length ts) (length c.0.ways) && ways_closed problem.clauses problem.frame number 0 ts guards) c.2 in
      let second = and_parts (nat_eq (length ts) (length c.0.ways)) (ways_closed problem.clauses problem.frame number 0 ts guards) first.1 in
      let stands = hanging.stands number c.0 c.1 in
      let among : are_among guards (guards_at problem number) ≡ true =
      subst (λ (gs : List Guard). are_among guards gs ≡ true) (sym (ap (λ o. option_map_or (λ (x : Clause). x.guards) o []) c.1)) first.0 in
      let reached = reach b facts rows guards grounded number (hanging.hangs number c.0 c.1) among in
      let there : Branch = reached.0 in
      let more : Pairs = reached.1.0 in
      let known = reached.1.2 in
      let has = reached.1.1.is number known.0 known.1 in
      let layer : out-Formula has.formula ≡ stands.0 = stands_one problem number (out-Formula has.formula) stands.0 has.variables stands.1.0 has.stands stands.1.1 in
      let count : length ts ≡ length (ways_in stands.1.0 stands.0) = eqb-true (length ts) (length c.0.ways) second.0 ∙ ap length stands.1.2 in
      let at_layer : StandsAt problem number stands.0 has.variables = subst (λ (y : Formula-F Formula). StandsAt problem number y has.variables) layer has.stands in
      reached.1.3 (by_layer number parts guards second.1 there more rows reached.1.1 known.0 known.1 has stands.0 layer at_layer
      (hanging.below number stands.0 has.variables at_layer) stands.1.0 count)

  module _ (leaves : (conflict : Conflict) (chosen guards : List Guard) → closed_step problem.clauses problem.frame (CaseTree-F.Leaf conflict chosen) guards ≡ true →
      (b : Branch) (facts rows : Pairs) → Grounded problem b facts rows guards → Refuted b) where
    at_layer : (y : CaseTree-F Part) (guards : List Guard) →
        closed_step problem.clauses problem.frame (map-CaseTree CaseTree (Meaning problem.clauses problem.frame) meaning (map-CaseTree Part CaseTree (λ e. e.0) y)) guards ≡ true →
        (b : Branch) (facts rows : Pairs) → Grounded problem b facts rows guards → Refuted b
    at_layer (CaseTree-F.Leaf conflict chosen) = leaves conflict chosen
    at_layer (CaseTree-F.Split number parts) = split_closes number parts

    rolled : (y : CaseTree-F Part) → Closes (roll-CaseTree (map-CaseTree Part CaseTree (λ e. e.0) y))
    rolled y guards closed =
        at_layer y guards
        (sym (ap (λ (m : Meaning problem.clauses problem.frame). m guards)
        (fold-roll-CaseTree (Meaning problem.clauses problem.frame) (closed_step problem.clauses problem.frame) (map-CaseTree Part CaseTree (λ e. e.0) y))) ∙ closed)

    -- a closed tree refutes each branch in which its choices are known
    pub refutes : (tree : CaseTree) → Closes tree
    refutes = ind-CaseTree Closes (λ x y is. subst (λ z. Closes (roll-CaseTree z)) is (rolled y))

-- What is asked of the sentences of a problem holds of what stands at each clause, with the tables of its row terms outside.
use Rattle.std.proofs.Common.{◌≡◌, ◌∙◌, sym, ap, ap₂, refl, subst, ℕ, zero, suc, ◌+◌, ◌<◌, ◌^◌, true, List, [], ◌∷◌, ◌++◌, length, arith}
use Rattle.std.proofs.lemmas.Bool.{and_parts}
use Rattle.std.proofs.lemmas.Option.{same_Some, slice_get_within}
use Rattle.std.specs.Prelude.{Some, slice_get, nat_lt}
use Rattle.std.specs.List.{list_all}
use Rattle.std.specs.Option.{option_map_or}
use Rattle.lint_base.proofs.Lists.{below_true}
use Rattle.lint_core.specs.declared.schema.Table.{Table}
use Rattle.sort_formula.specs.declared.formula.Formula.{Formula, out-Formula}
use Rattle.sort_formula.specs.declared.formula.Formula.TheOpen.{Formula-F}
use Rattle.sort_formula.specs.Nodes.{nodes}
use Rattle.sort_formula.specs.Sentences.{formula_fits, is_sentence}
use Rattle.sorted_skolem.specs.Preorder.{Node, outlines_of, node_at}
use Rattle.ground_theory.specs.declared.literal.Clause.{Clause}
use Rattle.ground_theory.specs.declared.literal.Frame.{Frame}
use Rattle.ground_theory.specs.declared.literal.Guard.{Guard}
use Rattle.ground_theory.specs.Forward.{guards_before}
use Rattle.case_split.proofs.Closed.{forward_at}
use Rattle.case_split.proofs.Places.{there}
use Rattle.instantiate.specs.declared.problem.Problem.{Problem}
use Rattle.instantiate.specs.Keys.{Key}
use Rattle.instantiate.specs.Ground.{variables_of}
use Rattle.instantiate.specs.Hanging.{StandsAt, AreParts, Hanging, Below, HangsBelow, guards_at, at_way, root, below, inside}
use Rattle.ground_laws.proofs.Parts.{IsFine, fine_out, fine_and, fine_or, fine_exists, fine_forall}

-- the rows are of these tables
abbrev pub HasTables : Frame → List ℕ → List ℕ → Type 0
HasTables frame [] [] = Unit {0}
HasTables frame [] (table ∷ tables) = ⊥
HasTables frame (row ∷ rows) [] = ⊥
HasTables frame (row ∷ rows) (table ∷ tables) = (slice_get frame.tables row ≡ Some table) × HasTables frame rows tables

has_last : (frame : Frame) (rows tables : List ℕ) (row table : ℕ) → HasTables frame rows tables → slice_get frame.tables row ≡ Some table → HasTables frame (rows ++ row ∷ []) (tables ++ table ∷ [])
has_last frame [] [] row table has at = (at, tt)
has_last frame [] (t ∷ ts) row table has at = absurd has
has_last frame (r ∷ rs) [] row table has at = absurd has
has_last frame (r ∷ rs) (t ∷ ts) row table has at = (has.0, has_last frame rs ts row table has.1 at)

module _ (schema : List Table) (problem : Problem) where
  pub record IsStanding (layer : Formula-F Formula) (rows : List ℕ) : Type 0 where
    pub tables : List ℕ
    pub has : HasTables problem.frame rows tables
    pub fine : IsFine schema layer tables

  -- what stands at a clause is one formula at one list of rows
  one_stands : (clause : ℕ) (y z : Formula-F Formula) (vs ws : List ℕ) → StandsAt problem clause y vs → StandsAt problem clause z ws → IsStanding y vs → IsStanding z ws
  one_stands clause y z vs ws one other is =
      let keys : one.key ≡ other.key = same_Some one.key other.key (sym one.is_key ∙ other.is_key) in
      let found : one.node ≡ other.node =
      same_Some one.node other.node
      (sym one.is_node ∙ (ap (λ (k : Key). node_at (outlines_of problem.sentences) k.sentence k.node) keys ∙ other.is_node)) in
      let layers : y ≡ z = sym one.is_layer ∙ (ap (λ (n : Node). n.layer) found ∙ other.is_layer) in
      let rows : vs ≡ ws = sym one.are_variables ∙ (ap₂ (λ (k : Key) (n : Node). variables_of problem.rows.terms k n) keys found ∙ other.are_variables) in
      subst (IsStanding z) rows (subst (λ layer. IsStanding layer vs) layers is)

  -- the part at a place
  part_at : (guard : ℕ → Guard) (i : ℕ) (vs : List ℕ) (gs : List Formula) (cs : List ℕ) → AreParts problem guard i vs gs cs → (place clause : ℕ) → slice_get cs place ≡ Some clause →
      (g : Formula) × (slice_get gs place ≡ Some g) × StandsAt problem clause (out-Formula g) vs
  part_at guard i vs [] [] are place clause at = cc
  part_at guard i vs [] (c ∷ cs) are place clause at = absurd are
  part_at guard i vs (g ∷ gs) [] are place clause at = absurd are
  part_at guard i vs (g ∷ gs) (c ∷ cs) are zero clause at = (g, refl, subst (λ k. StandsAt problem k (out-Formula g) vs) (same_Some c clause at) are.0)
  part_at guard i vs (g ∷ gs) (c ∷ cs) are (suc place) clause at = part_at guard (suc i) vs gs cs are.2 place clause at

  module _ (hanging : Hanging problem)
      (closed : (sentence : ℕ) (formula : Formula) → slice_get problem.sentences sentence ≡ Some formula → is_sentence formula ≡ true)
      (fits : (sentence : ℕ) (formula : Formula) → slice_get problem.sentences sentence ≡ Some formula → formula_fits schema formula [] ≡ true)
      (few : (sentence : ℕ) (formula : Formula) → slice_get problem.sentences sentence ≡ Some formula → nodes formula < 2 ^ 32) where
    -- below a clause
    stands_below : (above way clause : ℕ) (y : Formula-F Formula) (ws : List ℕ) → Below problem above y ws → HangsBelow problem above way clause → IsStanding y ws →
        (z : Formula-F Formula) (vs : List ℕ) → StandsAt problem clause z vs → IsStanding z vs
    stands_below above way clause (Formula-F.Atom a) ws hung is standing z vs stands = absurd (hung clause way is)
    stands_below above way clause (Formula-F.And gs) ws hung is standing z vs stands =
        let place = hung.all clause way is in
        let part = part_at (λ j. at_way above 0) 0 ws gs hung.clauses hung.are place.0 clause place.1 in
        one_stands clause (out-Formula part.0) z ws vs part.2 stands
        (record { tables = standing.tables; has = standing.has; fine = fine_and schema gs standing.tables standing.fine place.0 part.0 part.1 })
    stands_below above way clause (Formula-F.Or gs) ws hung is standing z vs stands =
        let part = part_at (at_way above) 0 ws gs hung.clauses hung.are way clause (hung.all clause way is) in
        one_stands clause (out-Formula part.0) z ws vs part.2 stands
        (record { tables = standing.tables; has = standing.has; fine = fine_or schema gs standing.tables standing.fine way part.0 part.1 })
    stands_below above way clause (Formula-F.Exists table body) ws hung is standing z vs stands =
        let own = subst (λ k. StandsAt problem k (out-Formula body) (ws ++ hung.row ∷ [])) (sym (hung.all clause way is)) hung.stands in
        one_stands clause (out-Formula body) z (ws ++ hung.row ∷ []) vs own stands (record {
          tables = standing.tables ++ table ∷ [];
          has = has_last problem.frame ws standing.tables hung.row table standing.has hung.is_maker.in_frame;
          fine = fine_exists schema table body standing.tables standing.fine;
        })
    stands_below above way clause (Formula-F.Forall table body) ws hung is standing z vs stands = absurd (hung.none clause way is)

    lower : (g : Guard) (gs : List Guard) (clause : ℕ) → list_all (λ (g : Guard). nat_lt g.clause clause) (g ∷ gs) ≡ true → g.clause < clause
    lower g gs clause earlier =
        below_true g.clause clause (and_parts (nat_lt g.clause clause) (list_all (λ (g : Guard). nat_lt g.clause clause) gs) earlier).0

    guards_earlier : (clause : ℕ) (c : Clause) (gs : List Guard) → slice_get problem.clauses clause ≡ Some c → guards_at problem clause ≡ gs → list_all (λ (g : Guard). nat_lt g.clause clause) gs ≡ true
    guards_earlier clause c gs at are =
        let same : 0 + clause ≡ clause = omega arith in
        let own : guards_at problem clause ≡ c.guards = ap (λ o. option_map_or (λ (x : Clause). x.guards) o []) at in
        subst (λ (gs : List Guard). list_all (λ (g : Guard). nat_lt g.clause clause) gs ≡ true) (sym own ∙ are)
        (subst (λ n. guards_before n c ≡ true) same (forward_at 0 problem.clauses clause c hanging.forward at))

    standing_below : (n clause : ℕ) → clause < n → (z : Formula-F Formula) (vs : List ℕ) → StandsAt problem clause z vs → IsStanding z vs
    standing_below zero clause low z vs stands = absurd (omega arith)
    standing_below (suc n) clause low z vs stands =
        let c = hanging.listed clause z vs stands in
        elim (hanging.hangs clause c.0 c.1) [
          | root sentence is ↦
              one_stands clause (out-Formula is.formula) z [] vs is.stands stands (record {
                tables = [];
                has = tt;
                fine = fine_out schema is.formula [] (closed sentence is.formula is.is_sentence) (fits sentence is.formula is.is_sentence) (few sentence is.formula is.is_sentence);
              })
          | below above way is ↦
              let less : above < clause = lower (at_way above way) [] clause (guards_earlier clause c.0 (at_way above way ∷ []) c.1 is.guards) in
              let within : clause < length problem.clauses = slice_get_within problem.clauses clause c.0 c.1 in
              let d = there problem.clauses above (omega arith) in
              let own = hanging.stands above d.0 d.1 in
              stands_below above way clause own.0 own.1.0 (hanging.below above own.0 own.1.0 own.1.1) is (standing_below n above (omega arith) own.0 own.1.0 own.1.1) z vs stands
          | inside above row maker is ↦
              let less : above < clause = lower (at_way above 0) (at_way maker 0 ∷ []) clause (guards_earlier clause c.0 (at_way above 0 ∷ at_way maker 0 ∷ []) c.1 is.guards) in
              let standing = standing_below n above (omega arith) (Formula-F.Forall is.table is.body) is.variables is.above_is in
              one_stands clause (out-Formula is.body) z (is.variables ++ row ∷ []) vs is.clause_is stands (record {
                tables = standing.tables ++ is.table ∷ [];
                has = has_last problem.frame is.variables standing.tables row is.table standing.has is.row_is.in_frame;
                fine = fine_forall schema is.table is.body standing.tables standing.fine;
              })
        ]

    pub standing_at : (clause : ℕ) (z : Formula-F Formula) (vs : List ℕ) → StandsAt problem clause z vs → IsStanding z vs
    standing_at clause z vs stands = standing_below (suc clause) clause (omega arith) z vs stands

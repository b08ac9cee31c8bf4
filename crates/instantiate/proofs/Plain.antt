-- What stands at the nodes under no Forall follows from how sentences are laid out.
use Rattle.std.proofs.Common.{◌≡◌, ◌∙◌, sym, ap, ap₂, refl, subst, ℕ, zero, suc, ◌+◌, inl, inr, true, false, List, [], ◌∷◌, ◌++◌, length, map, take, arith}
use Rattle.std.proofs.lemmas.List.{map-append}
use Rattle.std.proofs.lemmas.List.Sums.{sum_by-cons}
use Rattle.std.proofs.lemmas.Option.{same_Some}
use Rattle.std.specs.Prelude.{Some, slice_get, sum}
use Rattle.lint_core.specs.declared.schema.Table.{Table}
use Rattle.sort_formula.specs.declared.formula.Formula.{Formula, out-Formula}
use Rattle.sort_formula.specs.declared.formula.Formula.TheOpen.{Formula-F}
use Rattle.sort_formula.specs.Nodes.{nodes}
use Rattle.sorted_skolem.specs.declared.term.RowTerm.{RowTerm}
use Rattle.sorted_skolem.specs.Preorder.{Quantifier, Node, laid, outlines_of, node_at, exists_in, forall_in}
use Rattle.sorted_skolem.proofs.Among.{Among, at_among}
use Rattle.sorted_skolem.proofs.Parts.{Numbered, node_below, listed, with_quantifier, parts_in, parts_of, root_of}
use Rattle.sorted_skolem.proofs.RowTerms.{HasTerms, terms_there}
use Rattle.instantiate.specs.declared.problem.Problem.{Problem}
use Rattle.instantiate.specs.Cases.{IsProblem}
use Rattle.instantiate.specs.Ground.{variables_of}
use Rattle.instantiate.specs.Hanging.{IsMaker, at_way}
use Rattle.instantiate.specs.Keys.{Key}
use Rattle.instantiate.specs.Plain.{plain_row, StandsPlain, PlainBelow, PlainNodes}
use Rattle.instantiate.proofs.Flattening.{count_nodes}
use Rattle.instantiate.proofs.Hung.{Sits, all_terms, sits_clause, count_of, guards_are, maker_is, plain_sits, part_guards, root_sits}
use Rattle.instantiate.proofs.Layers.{along_last}
use Rattle.instantiate.proofs.Numbering.{key_of, number, at_number, term_at}

-- ---- the numbers of parts

nodes_before : (h : Formula) (hs : List Formula) (next count : ℕ) → count ≡ nodes h → next + count + sum (map nodes hs) ≡ next + sum (map nodes (h ∷ hs))
nodes_before h hs next count is =
    let more : sum (nodes h ∷ map nodes hs) ≡ nodes h + sum (map nodes hs) = sum_by-cons (λ k. k) (nodes h) (map nodes hs) in
    omega arith

-- an And has one way for all of its parts
part_listed : (node next : ℕ) (around : List Quantifier) (gs : List Formula) (k : ℕ) (g : Formula) → slice_get gs k ≡ Some g →
    Among (listed false node 0 next around gs) (next + sum (map nodes (take k gs)), node_below node 0 around g)
part_listed node next around [] k g at = cc
part_listed node next around (h ∷ gs) zero g at =
    let first : next ≡ next + 0 = omega arith in
    inl (ap₂ (λ (n : ℕ) (f : Formula). (n, node_below node 0 around f)) first (same_Some h g at))
part_listed node next around (h ∷ gs) (suc k) g at =
    let count : ℕ = length ((laid h).nodes next (Some (record { node = node; way = 0 })) around) in
    inr (subst (λ n. Among (listed false node 0 (next + count) around gs) (n, node_below node 0 around g))
    (nodes_before h (take k gs) next count (count_nodes h next (Some (record { node = node; way = 0 })) around))
    (part_listed node (next + count) around gs k g at))

-- an Or has one for each
way_listed : (node way next : ℕ) (around : List Quantifier) (gs : List Formula) (k : ℕ) (g : Formula) → slice_get gs k ≡ Some g →
    Among (listed true node way next around gs) (next + sum (map nodes (take k gs)), node_below node (way + k) around g)
way_listed node way next around [] k g at = cc
way_listed node way next around (h ∷ gs) zero g at =
    let first : next ≡ next + 0 = omega arith in
    let own : way ≡ way + 0 = omega arith in
    inl (ap₂ (λ (n : ℕ) (x : Node). (n, x)) first (ap₂ (λ w f. node_below node w around f) own (same_Some h g at)))
way_listed node way next around (h ∷ gs) (suc k) g at =
    let count : ℕ = length ((laid h).nodes next (Some (record { node = node; way = way })) around) in
    let later : suc way + k ≡ way + suc k = omega arith in
    inr (subst (λ w. Among (listed true node (suc way) (next + count) around gs) (next + sum (map nodes (h ∷ take k gs)), node_below node w around g)) later
    (subst (λ n. Among (listed true node (suc way) (next + count) around gs) (n, node_below node (suc way + k) around g))
    (nodes_before h (take k gs) next count (count_nodes h next (Some (record { node = node; way = way })) around))
    (way_listed node (suc way) (next + count) around gs k g at)))

-- ---- clauses

module _ (schema : List Table) (problem : Problem) (is_problem : IsProblem schema problem) where
  abbrev outlines : List (List Node)
  outlines = outlines_of problem.sentences

  abbrev order : List ℕ
  order = problem.order.tables

  abbrev terms : List RowTerm
  terms = problem.rows.terms

  abbrev num : Key → ℕ
  num k = number outlines order terms k

  abbrev rows_of_nodes : ℕ → List ℕ → List ℕ
  rows_of_nodes sentence around = map (plain_row terms sentence) around

  -- what is known of a node from what stands there
  record Own (sentence node clause : ℕ) (layer : Formula-F Formula) (around : List ℕ) (p : Node) : Type 0 where
    own : Sits schema problem is_problem (key_of sentence node []) p
    is_clause : num (key_of sentence node []) ≡ clause
    is_layer : p.layer ≡ layer
    variables : variables_of terms (key_of sentence node []) p ≡ rows_of_nodes sentence around

  own_of : (sentence node clause : ℕ) (layer : Formula-F Formula) (around : List ℕ) → (is : StandsPlain problem sentence node clause layer around) →
      Own sentence node clause layer around is.stands.node
  own_of sentence node clause layer around is =
      let p : Node = is.stands.node in
      let sits = sits_clause schema problem is_problem clause (key_of sentence node []) p (is.stands.is_key ∙ ap Some is.is_own)
      (subst (λ (k : Key). node_at outlines k.sentence k.node ≡ Some p) is.is_own is.stands.is_node) in
      record {
        own = sits.0;
        is_clause = sits.1;
        is_layer = is.stands.is_layer;
        variables = subst (λ (k : Key). variables_of terms k p ≡ rows_of_nodes sentence around) is.is_own is.stands.are_variables;
      }

  stands_plain : (sentence node : ℕ) (x : Node) (layer : Formula-F Formula) (around : List ℕ) → Sits schema problem is_problem (key_of sentence node []) x → x.layer ≡ layer →
      variables_of terms (key_of sentence node []) x ≡ rows_of_nodes sentence around → StandsPlain problem sentence node (num (key_of sentence node [])) layer around
  stands_plain sentence node x layer around sits is_layer are = record {
    stands = record {
      key = key_of sentence node [];
      node = x;
      is_key = at_number outlines order terms (key_of sentence node []) sits.listed_key;
      is_node = sits.stands;
      is_layer = is_layer;
      are_variables = are;
    };
    is_own = refl;
  }

  module _ (sentence node clause : ℕ) (layer : Formula-F Formula) (around : List ℕ) (is : StandsPlain problem sentence node clause layer around) where
    abbrev p : Node
    p = is.stands.node

    here : Own sentence node clause layer around p
    here = own_of sentence node clause layer around is

    below_it : (c : Numbered) (way : ℕ) (formula : Formula) (inside : List ℕ) → Among (parts_of node p) c → forall_in layer ≡ false → c.1.above ≡ Some (record { node = node; way = way }) →
        c.1.layer ≡ out-Formula formula → variables_of terms (key_of sentence c.0 []) c.1 ≡ rows_of_nodes sentence inside → PlainBelow problem sentence clause way c.0 formula inside
    below_it c way formula inside part plain above is_formula are =
        let same : forall_in p.layer ≡ false = ap forall_in here.is_layer ∙ plain in
        let sits = plain_sits schema problem is_problem (key_of sentence node []) p here.own c part same in
        record {
          clause = num (key_of sentence c.0 []);
          stands = stands_plain sentence c.0 c.1 (out-Formula formula) inside sits is_formula are;
          guards = part_guards schema problem is_problem (key_of sentence node []) p here.own c way part same above ∙ ap (λ n. at_way n way ∷ []) here.is_clause;
        }

  root_plain : (sentence : ℕ) (formula : Formula) → (is : slice_get problem.sentences sentence ≡ Some formula) →
      StandsPlain problem sentence 0 (num (key_of sentence 0 [])) (out-Formula formula) []
  root_plain sentence formula is =
      stands_plain sentence 0 (root_of formula) (out-Formula formula) [] (root_sits schema problem is_problem sentence formula is) refl refl

  row_plain : HasTerms outlines terms → (sentence node clause table : ℕ) (body : Formula) (around : List ℕ) →
      StandsPlain problem sentence node clause (Formula-F.Exists table body) around → IsMaker problem (plain_row terms sentence node) clause table
  row_plain has sentence node clause table body around is =
      let p : Node = is.stands.node in
      let known = own_of sentence node clause (Formula-F.Exists table body) around is in
      let t : RowTerm = record { sentence = sentence; node = node; rows = []; table = table } in
      let row = at_among terms t (has sentence node table [] p known.own.stands (ap exists_in known.is_layer) known.own.rows) in
      subst (λ r. IsMaker problem r clause table) (sym (term_at outlines order terms (all_terms schema problem is_problem).differ row.0 t row.1))
      (subst (λ n. IsMaker problem row.0 n table) known.is_clause (maker_is schema problem is_problem row.0 t table row.1 refl))

  body_plain : (sentence node clause table : ℕ) (body : Formula) (around : List ℕ) →
      StandsPlain problem sentence node clause (Formula-F.Exists table body) around → PlainBelow problem sentence clause 0 (suc node) body (around ++ node ∷ [])
  body_plain sentence node clause table body around is =
      let p : Node = is.stands.node in
      let known = own_of sentence node clause (Formula-F.Exists table body) around is in
      let c : Numbered = (suc node, node_below node 0 (with_quantifier p.around node table false) body) in
      let part : Among (parts_of node p) c = subst (λ y. Among (parts_in node p.around y) c) (sym known.is_layer) (inl refl) in
      below_it sentence node clause (Formula-F.Exists table body) around is c 0 body (around ++ node ∷ []) part refl refl refl
      (along_last terms sentence p.around [] [] [] (record { node = node; table = table; is_forall = false }) (count_of schema problem is_problem (key_of sentence node []) p known.own)
      ∙ (ap (λ vs. vs ++ plain_row terms sentence node ∷ []) known.variables
      ∙ sym (map-append (plain_row terms sentence) around (node ∷ []))))

  part_plain : (sentence node clause : ℕ) (parts : List Formula) (around : List ℕ) → StandsPlain problem sentence node clause (Formula-F.And parts) around →
      (k : ℕ) (formula : Formula) → slice_get parts k ≡ Some formula → PlainBelow problem sentence clause 0 (suc node + sum (map nodes (take k parts))) formula around
  part_plain sentence node clause parts around is k formula at =
      let p : Node = is.stands.node in
      let known = own_of sentence node clause (Formula-F.And parts) around is in
      let c : Numbered = (suc node + sum (map nodes (take k parts)), node_below node 0 p.around formula) in
      let part : Among (parts_of node p) c = subst (λ y. Among (parts_in node p.around y) c) (sym known.is_layer) (part_listed node (suc node) p.around parts k formula at) in
      below_it sentence node clause (Formula-F.And parts) around is c 0 formula around part refl refl refl known.variables

  way_plain : (sentence node clause : ℕ) (parts : List Formula) (around : List ℕ) → StandsPlain problem sentence node clause (Formula-F.Or parts) around →
      (k : ℕ) (formula : Formula) → slice_get parts k ≡ Some formula → PlainBelow problem sentence clause k (suc node + sum (map nodes (take k parts))) formula around
  way_plain sentence node clause parts around is k formula at =
      let p : Node = is.stands.node in
      let known = own_of sentence node clause (Formula-F.Or parts) around is in
      let own : 0 + k ≡ k = omega arith in
      let c : Numbered = (suc node + sum (map nodes (take k parts)), node_below node k p.around formula) in
      let part : Among (parts_of node p) c =
      subst (λ y. Among (parts_in node p.around y) c) (sym known.is_layer)
      (subst (λ w. Among (listed true node 0 (suc node) p.around parts) (suc node + sum (map nodes (take k parts)), node_below node w p.around formula)) own
      (way_listed node 0 (suc node) p.around parts k formula at)) in
      below_it sentence node clause (Formula-F.Or parts) around is c k formula around part refl refl refl known.variables

  pub plain_nodes : PlainNodes problem
  plain_nodes =
      let has : HasTerms outlines terms = subst (HasTerms outlines) (sym is_problem.terms) (terms_there problem.sentences order is_problem.order) in
      record {
        root = λ sentence formula is. (
          num (key_of sentence 0 []),
          root_plain sentence formula is,
          guards_are schema problem is_problem (key_of sentence 0 []) (root_of formula) (root_sits schema problem is_problem sentence formula is),
        );
        row = row_plain has;
        body = body_plain;
        part = part_plain;
        way = way_plain;
      }

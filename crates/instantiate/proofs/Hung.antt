-- A problem's clauses hang together: what stands at each, and below it, follows from how sentences are laid out, which row terms
-- there are and how keys are numbered.
use Rattle.std.proofs.Common.{◌≡◌, ◌∙◌, sym, ap, ap₂, refl, subst, ℕ, suc, ◌+◌, ◌-◌, ◌<◌, ◌≤◌, ◌⊎◌, inl, inr, Bool, true, false, ◌&&◌, List, [], ◌∷◌, ◌++◌, length, map, take, append-nil, arith}
use Rattle.std.proofs.lemmas.Bool.{and_from}
use Rattle.std.proofs.lemmas.Bool.Decides.{nat_tests}
use Rattle.std.proofs.lemmas.List.{length-map, take_all}
use Rattle.std.proofs.lemmas.Option.{same_Some}
use Rattle.std.specs.Prelude.{Option, Some, None, slice_get, nat_lt, option_and_then, unwrap_or, if◌then◌else◌}
use Rattle.std.specs.List.{list_all}
use Rattle.std.specs.Option.{option_map_or}
use Rattle.lint_base.proofs.Lists.{slice_get_last}
use Rattle.lint_core.specs.declared.schema.Table.{Table}
use Rattle.sort_formula.specs.declared.formula.Formula.{Formula, out-Formula}
use Rattle.sort_formula.specs.declared.formula.Formula.TheOpen.{Formula-F}
use Rattle.sort_formula.specs.Sentences.{is_sentence}
use Rattle.sort_formula.specs.Variables.{atom_is_below}
use Rattle.sorted_skolem.specs.declared.term.RowTerm.{RowTerm}
use Rattle.sorted_skolem.specs.Preorder.{Quantifier, Way, Node, laid, nodes_of, outlines_of, node_at, forall_tables, exists_in, forall_in, is_forall_node}
use Rattle.sorted_skolem.proofs.Among.{Among, among_right, among_at, at_among, order_one}
use Rattle.sorted_skolem.proofs.Parts.{Numbered, node_below, listed, with_quantifier, parts_in, parts_of, IsPart, root_of, at_root, at_parts, at_above, at_part, tables_around, bound_layer, bound_at}
use Rattle.sorted_skolem.proofs.Ordered.{once}
use Rattle.sorted_skolem.proofs.RowTerms.{AreRows, Differ, AreTerms, HasTerms, terms_are, terms_there}
use Rattle.ground_theory.specs.declared.literal.Clause.{Clause}
use Rattle.ground_theory.specs.declared.literal.Frame.{Frame}
use Rattle.ground_theory.specs.declared.literal.Guard.{Guard}
use Rattle.ground_theory.specs.Forward.{guards_before}
use Rattle.instantiate.specs.declared.problem.Problem.{Problem}
use Rattle.instantiate.specs.Keys.{Key, place_in, stage_of}
use Rattle.instantiate.specs.Ground.{keys, maker_of, rows_along, variables_of, ways_in, guard_of, present_guard, above_key, guards_below, guards_of, clause_at, clause_of}
use Rattle.instantiate.specs.Cases.{IsProblem}
use Rattle.instantiate.specs.Hanging.{StandsAt, guards_at, at_way, IsMaker, IsRoot, HangsBelow, Hangs, root, below, inside, AreParts, HasRow, Below, Hanging}
use Rattle.instantiate.proofs.Numbering.{key_of, stage_at, key_placed, placed_key, number, at_number, number_at, number_low, term_at, place_low, place_high, stage_within, stage_over, stage_more}
use Rattle.instantiate.proofs.Layers.{at_map, map_at, count_last, take_front, chosen, passed_by, tables_in, tables_last, rows_count, rows_last, no_rows, rows_parted, along_last, along_count, listed_around, tables_plain, forall_layer, exists_layer, listed_at, listed_ascend, atom_below, in_outline, to_outline, forward_from}

module _ (schema : List Table) (problem : Problem) (is_problem : IsProblem schema problem) where
  abbrev outlines : List (List Node)
  outlines = outlines_of problem.sentences

  abbrev order : List ℕ
  order = problem.order.tables

  abbrev terms : List RowTerm
  terms = problem.rows.terms

  abbrev ks : List Key
  ks = keys outlines order terms

  abbrev num : Key → ℕ
  num k = number outlines order terms k

  pub all_terms : AreTerms outlines order terms
  all_terms = subst (AreTerms outlines order) (sym is_problem.terms) (terms_are problem.sentences order is_problem.order)

  -- a node stands at the key, with the variables' rows
  pub record Sits (k : Key) (x : Node) : Type 0 where
    pub listed_key : Among ks k
    pub stands : node_at outlines k.sentence k.node ≡ Some x
    pub rows : AreRows terms (forall_tables x) k.rows

  sits : (k : Key) (x : Node) → node_at outlines k.sentence k.node ≡ Some x → AreRows terms (forall_tables x) k.rows → Sits k x
  sits k x stands rows = record {
    listed_key = placed_key outlines order terms all_terms.tables k (record { node = x; stands = stands; rows = rows });
    stands = stands;
    rows = rows;
  }

  sits_listed : (k : Key) → Among ks k → (x : Node) × Sits k x
  sits_listed k is = let placed = key_placed outlines order terms k is in (placed.node, record { listed_key = is; stands = placed.stands; rows = placed.rows })

  sits_at : (k : Key) (x : Node) → Among ks k → node_at outlines k.sentence k.node ≡ Some x → Sits k x
  sits_at k x is stands =
      let own = sits_listed k is in
      subst (Sits k) (same_Some own.0 x (sym own.1.stands ∙ stands)) own.1

  -- a key that stands at a place
  pub sits_clause : (clause : ℕ) (k : Key) (x : Node) → slice_get ks clause ≡ Some k → node_at outlines k.sentence k.node ≡ Some x → Sits k x × (num k ≡ clause)
  sits_clause clause k x at stands = (sits_at k x (among_at ks clause k at) stands, number_at outlines order terms clause k at)

  abbrev clause_for : Key → Node → Clause
  clause_for k x = clause_at outlines order terms k x

  clause_there : (clause : ℕ) (k : Key) (x : Node) → slice_get ks clause ≡ Some k → node_at outlines k.sentence k.node ≡ Some x → slice_get problem.clauses clause ≡ Some (clause_for k x)
  clause_there clause k x at stands =
      ap (λ cs. slice_get cs clause) is_problem.clauses
      ∙ (at_map (clause_of outlines order terms) ks clause k at ∙ ap (λ o. Some (option_map_or (clause_at outlines order terms k) o (record { guards = []; ways = [] }))) stands)

  key_there : (clause : ℕ) (c : Clause) → slice_get problem.clauses clause ≡ Some c → (k : Key) × (x : Node) × (slice_get ks clause ≡ Some k) × Sits k x × (num k ≡ clause)
  key_there clause c at =
      let found = map_at (clause_of outlines order terms) ks clause c (sym (ap (λ cs. slice_get cs clause) is_problem.clauses) ∙ at) in
      let own = sits_listed found.0 (among_at ks clause found.0 found.1) in
      (found.0, own.0, found.1, own.1, number_at outlines order terms clause found.0 found.1)

  abbrev standing : (k : Key) (x : Node) (layer : Formula-F Formula) (variables : List ℕ) → Sits k x → x.layer ≡ layer → variables_of terms k x ≡ variables → StandsAt problem (num k) layer variables
  standing k x layer variables own is_layer are =
      record { key = k; node = x; is_key = at_number outlines order terms k own.listed_key; is_node = own.stands; is_layer = is_layer; are_variables = are }

  pub count_of : (k : Key) (x : Node) → Sits k x → length k.rows ≡ length (tables_in x.around)
  count_of k x own = rows_count terms (tables_in x.around) k.rows own.rows

  -- ---- guards

  pub guards_are : (k : Key) (x : Node) → Sits k x → guards_at problem (num k) ≡ guards_of outlines order terms k x
  guards_are k x own = ap (λ o. option_map_or (λ (c : Clause). c.guards) o []) (clause_there (num k) k x (at_number outlines order terms k own.listed_key) own.stands)

  below_guards : (k : Key) (x p : Node) (way : Way) → x.above ≡ Some way → node_at outlines k.sentence way.node ≡ Some p → guards_of outlines order terms k x ≡ guards_below outlines order terms k way p
  below_guards k x p way above stands =
      ap (λ o. option_map_or (λ (w : Way). option_map_or (guards_below outlines order terms k w) (node_at outlines k.sentence w.node) []) o []) above
      ∙ ap (λ o. option_map_or (guards_below outlines order terms k way) o []) stands

  abbrev inside_guards : Key → Way → List Guard
  inside_guards k way =
      guard_of outlines order terms (above_key outlines order terms k way.node (length k.rows - 1)) way.way
      ∷ unwrap_or (option_and_then (λ row. Some (present_guard outlines order terms row)) (slice_get k.rows (length k.rows - 1))) []

  abbrev plain_guards : Key → Way → List Guard
  plain_guards k way = guard_of outlines order terms (above_key outlines order terms k way.node (length k.rows)) way.way ∷ []

  guards_plain : (k : Key) (x p : Node) (way : Way) → Sits k x → x.above ≡ Some way → node_at outlines k.sentence way.node ≡ Some p → is_forall_node p ≡ false →
      guards_at problem (num k) ≡ at_way (num (key_of k.sentence way.node k.rows)) way.way ∷ []
  guards_plain k x p way own above stands same =
      guards_are k x own
      ∙ (below_guards k x p way above stands
      ∙ (passed_by (is_forall_node p) (inside_guards k way) (plain_guards k way) same
      ∙ ap (λ rows. at_way (num (key_of k.sentence way.node rows)) way.way ∷ []) (take_all (length k.rows) k.rows (omega arith))))

  guards_inside : (sentence node : ℕ) (front : List ℕ) (row : ℕ) (t : RowTerm) (x p : Node) (way : Way) → Sits (key_of sentence node (front ++ row ∷ [])) x → x.above ≡ Some way →
      node_at outlines sentence way.node ≡ Some p → is_forall_node p ≡ true → slice_get terms row ≡ Some t →
      guards_at problem (num (key_of sentence node (front ++ row ∷ []))) ≡ at_way (num (key_of sentence way.node front)) way.way ∷ at_way (num (maker_of t)) 0 ∷ []
  guards_inside sentence node front row t x p way own above stands is_forall at =
      let k : Key = key_of sentence node (front ++ row ∷ []) in
      let last : slice_get k.rows (length k.rows - 1) ≡ Some row = ap (slice_get k.rows) (count_last front row) ∙ slice_get_last front row in
      let rest : take (length k.rows - 1) k.rows ≡ front = ap (λ n. take n k.rows) (count_last front row) ∙ take_front front (row ∷ []) in
      guards_are k x own
      ∙ (below_guards k x p way above stands
      ∙ (chosen (is_forall_node p) (inside_guards k way) (plain_guards k way) is_forall
      ∙ (ap₂ (λ rows o. at_way (num (key_of sentence way.node rows)) way.way ∷ unwrap_or (option_and_then (λ row. Some (present_guard outlines order terms row)) o) []) rest last
      ∙ ap (λ o. at_way (num (key_of sentence way.node front)) way.way ∷ option_map_or (λ term. guard_of outlines order terms (maker_of term) 0 ∷ []) o []) at)))

  -- ---- how a key hangs

  -- the key of a part at the same rows
  abbrev child : Key → ℕ → Key
  child a node = key_of a.sentence node a.rows

  data Up (k : Key) (x : Node) : Type 0 where
    first : (g : Formula) → slice_get problem.sentences k.sentence ≡ Some g → k ≡ key_of k.sentence 0 [] → x ≡ root_of g → Up k x
    plain : (a : Key) (p : Node) (way : ℕ) → Sits a p → Among (parts_of a.node p) (k.node, x) → forall_in p.layer ≡ false → k ≡ child a k.node → x.above ≡ Some (record { node = a.node; way = way }) →
        guards_at problem (num k) ≡ at_way (num a) way ∷ [] → a.node < k.node → Up k x
    under : (a : Key) (p : Node) (table : ℕ) (body : Formula) (row : ℕ) (t : RowTerm) → Sits a p → p.layer ≡ Formula-F.Forall table body → k ≡ key_of a.sentence (suc a.node) (a.rows ++ row ∷ []) →
        x ≡ node_below a.node 0 (with_quantifier p.around a.node table true) body → slice_get terms row ≡ Some t → t.table ≡ table →
        guards_at problem (num k) ≡ at_way (num a) 0 ∷ at_way (num (maker_of t)) 0 ∷ [] → Up k x

  under_forall : (a : Key) (p : Node) (table : ℕ) (body : Formula) (row : ℕ) (t : RowTerm) → Sits a p → p.layer ≡ Formula-F.Forall table body → slice_get terms row ≡ Some t →
      (x : Node) → x ≡ node_below a.node 0 (with_quantifier p.around a.node table true) body → Sits (key_of a.sentence (suc a.node) (a.rows ++ row ∷ [])) x →
      guards_at problem (num (key_of a.sentence (suc a.node) (a.rows ++ row ∷ []))) ≡ at_way (num a) 0 ∷ at_way (num (maker_of t)) 0 ∷ []
  under_forall a p table body row t above is_layer at x is own =
      guards_inside a.sentence (suc a.node) a.rows row t x p (record { node = a.node; way = 0 }) own (ap (λ (x : Node). x.above) is) above.stands (ap forall_in is_layer) at

  up_part : (k : Key) (x : Node) (g : Formula) → Sits k x → slice_get problem.sentences k.sentence ≡ Some g → (part : IsPart (nodes_of g) 0 k.node x) → (b : Bool) → forall_in part.above.layer ≡ b → Up k x
  up_part k x g own is part false same =
      let p : Node = part.above in
      let a : Key = key_of k.sentence part.way.node k.rows in
      let stands : node_at outlines k.sentence part.way.node ≡ Some p = to_outline problem.sentences k.sentence part.way.node g p is (at_part g k.node x part) in
      let above : Sits a p = sits a p stands (subst (λ ts. AreRows terms ts k.rows) (tables_plain part.way.node p.around p.layer (k.node, x) part.part same) own.rows) in
      plain a p part.way.way above part.part same refl part.is_above (guards_plain k x p part.way own part.is_above stands same) part.before
  up_part k x g own is part true same =
      let p : Node = part.above in
      let way : Way = part.way in
      let layer = forall_layer p.layer same in
      let q : Quantifier = record { node = way.node; table = layer.0; is_forall = true } in
      let stands : node_at outlines k.sentence way.node ≡ Some p = to_outline problem.sentences k.sentence way.node g p is (at_part g k.node x part) in
      elim (subst (λ y. Among (parts_in way.node p.around y) (k.node, x)) layer.2 part.part) [
        | inl here ↦
            let is_node : x ≡ node_below way.node 0 (with_quantifier p.around way.node layer.0 true) layer.1 = sym (ap (λ (c : Numbered). c.1) here) in
            let rows : AreRows terms (tables_in p.around ++ layer.0 ∷ []) k.rows =
            subst (λ ts. AreRows terms ts k.rows) (ap (λ (x : Node). tables_in x.around) is_node ∙ tables_last p.around q) own.rows in
            let parted = rows_parted terms (tables_in p.around) k.rows layer.0 rows in
            let a : Key = key_of k.sentence way.node parted.0 in
            let above : Sits a p = sits a p stands parted.3 in
            let same_key : k ≡ key_of k.sentence (suc way.node) (parted.0 ++ parted.1 ∷ []) = ap₂ (key_of k.sentence) (sym (ap (λ (c : Numbered). c.0) here)) parted.2 in
            let row = parted.4 in
            under a p layer.0 layer.1 parted.1 row.0 above layer.2 same_key is_node row.1 row.2
            (ap (λ k. guards_at problem (num k)) same_key ∙ under_forall a p layer.0 layer.1 parted.1 row.0 above layer.2 row.1 x is_node (subst (λ k. Sits k x) same_key own))
        | inr never ↦ absurd never
      ]

  up : (k : Key) (x : Node) → Sits k x → Up k x
  up k x own =
      let g = in_outline problem.sentences k.sentence k.node x own.stands in
      elim (at_above g.0 k.node x g.2) [
        | inl top ↦ first g.0 g.1 (ap₂ (key_of k.sentence) top.0 (no_rows terms k.rows (subst (λ (x : Node). AreRows terms (forall_tables x) k.rows) top.1 own.rows))) top.1
        | inr part ↦ up_part k x g.0 own g.1 part (forall_in part.above.layer) refl
      ]

  -- ---- variables

  variables_plain : (a : Key) (p : Node) (c : Numbered) → c.1.around ≡ p.around → variables_of terms (child a c.0) c.1 ≡ variables_of terms a p
  variables_plain a p c same = ap (rows_along terms a.sentence [] a.rows) same

  variables_under : (a : Key) (p : Node) (table row : ℕ) → Sits a p →
      rows_along terms a.sentence [] (a.rows ++ row ∷ []) (with_quantifier p.around a.node table true) ≡ variables_of terms a p ++ row ∷ []
  variables_under a p table row own = along_last terms a.sentence p.around [] a.rows (row ∷ []) (record { node = a.node; table = table; is_forall = true }) (count_of a p own)

  -- ---- makers

  term_sits : (row : ℕ) (t : RowTerm) → slice_get terms row ≡ Some t → (x : Node) × (body : Formula) × Sits (maker_of t) x × (x.layer ≡ Formula-F.Exists t.table body)
  term_sits row t at =
      let made = all_terms.made t (among_at terms row t at) in
      let layer = exists_layer made.asked.node.layer t.table made.asked.asks in
      (made.asked.node, layer.0, sits (maker_of t) made.asked.node made.asked.stands made.asked.rows, layer.1)

  in_frame : (row : ℕ) (t : RowTerm) → slice_get terms row ≡ Some t → slice_get problem.frame.tables row ≡ Some t.table
  in_frame row t at = ap (λ (f : Frame). slice_get f.tables row) is_problem.frame ∙ at_map (λ (t : RowTerm). t.table) terms row t at

  pub maker_is : (row : ℕ) (t : RowTerm) (table : ℕ) → slice_get terms row ≡ Some t → t.table ≡ table → IsMaker problem row (num (maker_of t)) table
  maker_is row t table at same =
      let own = term_sits row t at in
      subst (IsMaker problem row (num (maker_of t))) same (record {
        term = t;
        is_term = at;
        is_key = at_number outlines order terms (maker_of t) own.2.listed_key;
        is_number = refl;
        is_table = refl;
        body = own.1;
        variables = variables_of terms (maker_of t) own.0;
        stands = standing (maker_of t) own.0 (Formula-F.Exists t.table own.1) (variables_of terms (maker_of t) own.0) own.2 own.3 refl;
        in_frame = in_frame row t at;
      })

  -- ---- each clause hangs somewhere, and its guards are earlier

  hangs_by : (k : Key) (x : Node) → Sits k x → Up k x → Hangs problem (num k)
  hangs_by k x own (first g is same top) =
      root k.sentence (record {
        formula = g;
        is_sentence = is;
        stands = standing k x (out-Formula g) [] own (ap (λ (x : Node). x.layer) top) (ap (variables_of terms k) top);
        is_own = same;
        guards = guards_are k x own ∙ ap (guards_of outlines order terms k) top;
      })
  hangs_by k x own (plain a p way above part same is_child is_above guards before) = below (num a) way (record { guards = guards })
  hangs_by k x own (under a p table body row t above is_layer same top at of_table guards) =
      inside (num a) row (num (maker_of t)) (record {
        table = table;
        body = body;
        variables = variables_of terms a p;
        above_is = standing a p (Formula-F.Forall table body) (variables_of terms a p) above is_layer refl;
        clause_is = standing k x (out-Formula body) (variables_of terms a p ++ row ∷ []) own (ap (λ (x : Node). x.layer) top) (ap₂ (variables_of terms) same top ∙ variables_under a p table row above);
        row_is = maker_is row t table at of_table;
        guards = guards;
      })

  stage_is : (k : Key) (x : Node) → Sits k x → stage_at outlines order terms k ≡ stage_of order (forall_tables x)
  stage_is k x own = ap (λ o. option_map_or (λ (x : Node). stage_of order (forall_tables x)) o 0) own.stands

  lower : (m n : ℕ) → m < n → nat_lt m n ≡ true
  lower m n low = grind (arith, nat_tests)

  -- the key of a row among those of another is of an earlier stage
  maker_lower : (k : Key) (x : Node) (row : ℕ) (t : RowTerm) → Sits k x → slice_get terms row ≡ Some t → Among (forall_tables x) t.table → num (maker_of t) < num k
  maker_lower k x row t own at among =
      let made = all_terms.made t (among_at terms row t at) in
      let maker = sits (maker_of t) made.asked.node made.asked.stands made.asked.rows in
      let early : stage_of order (forall_tables made.asked.node) ≤ length made.before =
      stage_within order (forall_tables made.asked.node) (length made.before)
      (λ table is. subst (λ ts. place_in ts table ≤ length made.before) (sym made.parts) (place_low made.before (t.table ∷ made.after) table (made.ahead table is))) in
      let late : length made.before < place_in order t.table =
      subst (λ ts. length made.before < place_in ts t.table) (sym made.parts)
      (place_high made.before (t.table ∷ made.after) t.table (λ is. once problem.sentences order is_problem.order made.before (t.table ∷ made.after) t.table made.parts is (inl refl))) in
      let over : place_in order t.table ≤ stage_of order (forall_tables x) = stage_over order (forall_tables x) t.table among in
      let stage_one = stage_is (maker_of t) made.asked.node maker in
      let stage_two = stage_is k x own in
      let less : stage_at outlines order terms (maker_of t) < stage_at outlines order terms k = omega arith in
      number_low outlines order terms (maker_of t) k maker.listed_key own.listed_key (inl less)

  -- a key above, of the same sentence and no later stage, with a lesser node
  above_lower : (a k : Key) (p x : Node) → Sits a p → Sits k x → stage_of order (forall_tables p) ≤ stage_of order (forall_tables x) → a.sentence ≡ k.sentence → a.node < k.node → num a < num k
  above_lower a k p x above own stages sentences nodes =
      let stage_one = stage_is a p above in
      let stage_two = stage_is k x own in
      number_low outlines order terms a k above.listed_key own.listed_key
      (elim (either (stage_at outlines order terms a) (stage_at outlines order terms k) (omega arith)) [
        | inl less ↦ inl less
        | inr same ↦ inr (same, inr (sentences, inl nodes))
      ])
    where
      either : (m n : ℕ) → m ≤ n → (m < n) ⊎ (m ≡ n)
      either m n low = grind arith

  guards_lower : (k : Key) (x : Node) → Sits k x → Up k x → (c : Clause) → guards_at problem (num k) ≡ c.guards → guards_before (num k) c ≡ true
  guards_lower k x own (first g is same top) c are =
      let none : guards_at problem (num k) ≡ [] = guards_are k x own ∙ ap (guards_of outlines order terms k) top in
      subst (λ gs. list_all (λ (g : Guard). nat_lt g.clause (num k)) gs ≡ true) (sym none ∙ are) refl
  guards_lower k x own (plain a p way above part same is_child is_above guards before) c are =
      let tables : forall_tables x ≡ forall_tables p = tables_plain a.node p.around p.layer (k.node, x) part same in
      let stages : stage_of order (forall_tables x) ≡ stage_of order (forall_tables p) = ap (stage_of order) tables in
      let low = above_lower a k p x above own (omega arith) (sym (ap (λ (k : Key). k.sentence) is_child)) before in
      subst (λ gs. list_all (λ (g : Guard). nat_lt g.clause (num k)) gs ≡ true) (sym guards ∙ are) (and_from (nat_lt (num a) (num k)) true (lower (num a) (num k) low) refl)
  guards_lower k x own (under a p table body row t above is_layer same top at of_table guards) c are =
      let tables : forall_tables x ≡ forall_tables p ++ table ∷ [] =
      ap forall_tables top ∙ tables_last p.around (record { node = a.node; table = table; is_forall = true }) in
      let stages : stage_of order (forall_tables p) ≤ stage_of order (forall_tables x) =
      subst (λ ts. stage_of order (forall_tables p) ≤ stage_of order ts) (sym tables) (stage_more order (forall_tables p) (table ∷ [])) in
      let nodes : k.node ≡ suc a.node = ap (λ (k : Key). k.node) same in
      let low = above_lower a k p x above own stages (sym (ap (λ (k : Key). k.sentence) same)) (omega arith) in
      let among : Among (forall_tables x) t.table = subst (λ ts. Among ts t.table) (sym tables) (among_right (forall_tables p) (table ∷ []) t.table (inl (sym of_table))) in
      let low' = maker_lower k x row t own at among in
      subst (λ gs. list_all (λ (g : Guard). nat_lt g.clause (num k)) gs ≡ true) (sym guards ∙ are)
      (and_from (nat_lt (num a) (num k)) (nat_lt (num (maker_of t)) (num k) && true) (lower (num a) (num k) low)
      (and_from (nat_lt (num (maker_of t)) (num k)) true (lower (num (maker_of t)) (num k) low') refl))

  -- ---- what hangs below a clause

  -- what hangs by one guard below a key is one of the parts there
  record Hung (a : Key) (p : Node) (way clause : ℕ) : Type 0 where
    part : Numbered
    is_part : Among (parts_of a.node p) part
    is_above : part.1.above ≡ Some (record { node = a.node; way = way })
    is_plain : forall_in p.layer ≡ false
    is_clause : num (child a part.0) ≡ clause

  one_guard : (g h : Guard) → g ∷ [] ≡ h ∷ [] → g ≡ h
  one_guard g h same = same_Some g h (ap (λ gs. slice_get gs 0) same)

  one_key : (a b : Key) → Among ks a → Among ks b → num a ≡ num b → a ≡ b
  one_key a b is is' same = same_Some a b (sym (at_number outlines order terms a is) ∙ (ap (slice_get ks) same ∙ at_number outlines order terms b is'))

  hung_by : (a : Key) (p : Node) (way : ℕ) → Sits a p → (k : Key) (x : Node) → Sits k x → Up k x → guards_at problem (num k) ≡ at_way (num a) way ∷ [] → Hung a p way (num k)
  hung_by a p way above k x own (first g is same top) guards =
      let none : guards_at problem (num k) ≡ [] = guards_are k x own ∙ ap (guards_of outlines order terms k) top in
      let e : Some (at_way (num a) way) ≡ None = ap (λ gs. slice_get gs 0) (sym guards ∙ none) in
      cc
  hung_by a p way above k x own (plain b q w other part same is_child is_above guards' before) guards =
      let guard : at_way (num b) w ≡ at_way (num a) way = one_guard (at_way (num b) w) (at_way (num a) way) (sym guards' ∙ guards) in
      let keys_one : b ≡ a = one_key b a other.listed_key above.listed_key (ap (λ (g : Guard). g.clause) guard) in
      let nodes_one : q ≡ p = same_Some q p (sym other.stands ∙ (ap (λ (k : Key). node_at outlines k.sentence k.node) keys_one ∙ above.stands)) in
      record {
        part = (k.node, x);
        is_part = subst (λ (q : Node). Among (parts_of a.node q) (k.node, x)) nodes_one (subst (λ (b : Key). Among (parts_of b.node q) (k.node, x)) keys_one part);
        is_above = is_above ∙ ap₂ (λ n w. Some (record { node = n; way = w })) (ap (λ (k : Key). k.node) keys_one) (ap (λ (g : Guard). g.way) guard);
        is_plain = subst (λ (q : Node). forall_in q.layer ≡ false) nodes_one same;
        is_clause = ap num (sym (is_child ∙ ap (λ b. child b k.node) keys_one));
      }
  hung_by a p way above k x own (under b q table body row t other is_layer same top at of_table guards') guards =
      let e : Some (at_way (num (maker_of t)) 0) ≡ None = ap (λ gs. slice_get gs 1) (sym guards' ∙ guards) in
      cc

  hung : (a : Key) (p : Node) (way clause : ℕ) → Sits a p → HangsBelow problem (num a) way clause → Hung a p way clause
  hung a p way clause above is =
      let c = some_clause (slice_get problem.clauses clause) is.guards in
      let k = key_there clause c.0 c.1 in
      subst (Hung a p way) k.4 (hung_by a p way above k.0 k.1 k.3 (up k.0 k.1 k.3) (ap (guards_at problem) k.4 ∙ is.guards))
    where
      some_clause : (o : Option Clause) → option_map_or (λ (c : Clause). c.guards) o [] ≡ at_way (num a) way ∷ [] → (c : Clause) × (o ≡ Some c)
      some_clause None same = let e : None ≡ Some (at_way (num a) way) = ap (λ gs. slice_get gs 0) same in cc
      some_clause (Some c) same = (c, refl)

  module _ (a : Key) (p : Node) (own : Sits a p) where
    abbrev variables : List ℕ
    variables = variables_of terms a p

    part_stands : (c : Numbered) → Among (parts_of a.node p) c → node_at outlines a.sentence c.0 ≡ Some c.1
    part_stands c part =
        let g = in_outline problem.sentences a.sentence a.node p own.stands in
        to_outline problem.sentences a.sentence c.0 g.0 c.1 g.1 (at_parts g.0 a.node p c g.2 part)

    pub plain_sits : (c : Numbered) → Among (parts_of a.node p) c → forall_in p.layer ≡ false → Sits (child a c.0) c.1
    plain_sits c part same =
        sits (child a c.0) c.1 (part_stands c part) (subst (λ ts. AreRows terms ts a.rows) (sym (tables_plain a.node p.around p.layer c part same)) own.rows)

    pub part_guards : (c : Numbered) (way : ℕ) → Among (parts_of a.node p) c → forall_in p.layer ≡ false → c.1.above ≡ Some (record { node = a.node; way = way }) →
        guards_at problem (num (child a c.0)) ≡ at_way (num a) way ∷ []
    part_guards c way part same above = guards_plain (child a c.0) c.1 p (record { node = a.node; way = way }) (plain_sits c part same) above own.stands same

    abbrev clauses_of_parts : List Numbered → List ℕ
    clauses_of_parts cs = map (λ (c : Numbered). num (child a c.0)) cs

    -- a part at the rows of the node above it
    record IsPartClause (c : Numbered) : Type 0 where
      stands : StandsAt problem (num (child a c.0)) c.1.layer variables
      guards : (way : ℕ) → c.1.above ≡ Some (record { node = a.node; way = way }) → guards_at problem (num (child a c.0)) ≡ at_way (num a) way ∷ []

    are_parts : (is_or : Bool) (guard : ℕ → Guard) → ((i w : ℕ) → guard i ≡ at_way (num a) w → guard (suc i) ≡ at_way (num a) (if is_or then suc w else w)) →
        (i way next : ℕ) (gs : List Formula) → guard i ≡ at_way (num a) way → ((c : Numbered) → Among (listed is_or a.node way next p.around gs) c → IsPartClause c) →
        AreParts problem guard i variables gs (clauses_of_parts (listed is_or a.node way next p.around gs))
    are_parts is_or guard follows i way next [] same each = tt
    are_parts is_or guard follows i way next (g ∷ gs) same each =
        let here = each (next, node_below a.node way p.around g) (inl refl) in (
          here.stands,
          here.guards way refl ∙ ap (λ g. g ∷ []) (sym same),
          are_parts is_or guard follows (suc i) (if is_or then suc way else way) (next + length ((laid g).nodes next (Some (record { node = a.node; way = way })) p.around)) gs (follows i way same)
              (λ c is. each c (inr is)),
        )

    part_clause : (is_or : Bool) (gs : List Formula) → forall_in p.layer ≡ false → ((c : Numbered) → Among (listed is_or a.node 0 (suc a.node) p.around gs) c → Among (parts_of a.node p) c) →
        (c : Numbered) → Among (listed is_or a.node 0 (suc a.node) p.around gs) c → IsPartClause c
    part_clause is_or gs same leads c is = record {
      stands =
          standing (child a c.0) c.1 c.1.layer variables (plain_sits c (leads c is) same) refl (variables_plain a p c (listed_around is_or a.node 0 (suc a.node) p.around gs c is));
      guards = λ way above. part_guards c way (leads c is) same above;
    }

    -- the part of a quantifier
    abbrev inside_part : ℕ → Formula → Bool → Numbered
    inside_part table body is_forall = (suc a.node, node_below a.node 0 (with_quantifier p.around a.node table is_forall) body)

    below_exists : HasTerms outlines terms → (table : ℕ) (body : Formula) → p.layer ≡ Formula-F.Exists table body → HasRow problem (num a) table variables body
    below_exists has table body layer =
        let c : Numbered = inside_part table body false in
        let same : forall_in p.layer ≡ false = ap forall_in layer in
        let part : Among (parts_of a.node p) c = subst (λ y. Among (parts_in a.node p.around y) c) (sym layer) (inl refl) in
        let t : RowTerm = record { sentence = a.sentence; node = a.node; rows = a.rows; table = table } in
        let there : Among terms t = has a.sentence a.node table a.rows p own.stands (ap exists_in layer) own.rows in
        let row = at_among terms t there in
        let number_is = term_at outlines order terms all_terms.differ row.0 t row.1 in
        record {
          row = row.0;
          clause = num (child a (suc a.node));
          is_maker = maker_is row.0 t table row.1 refl;
          only = λ other second is.
              let key : maker_of is.term ≡ a = same_Some (maker_of is.term) a (sym is.is_key ∙ at_number outlines order terms a own.listed_key) in
              let one = ap (λ (k : Key). k.sentence) key in
              let two = ap (λ (k : Key). k.node) key in
              let three = ap (λ (k : Key). k.rows) key in
              order_one (Differ outlines) terms other row.0 is.term t all_terms.differ is.is_term row.1 (λ differ. differ one two three) (λ differ. differ (sym one) (sym two) (sym three));
          stands =
              standing (child a (suc a.node)) c.1 (out-Formula body) (variables ++ row.0 ∷ []) (plain_sits c part same) refl
              (ap (λ rows. rows_along terms a.sentence [] rows c.1.around) (sym (append-nil a.rows))
              ∙ (along_last terms a.sentence p.around [] a.rows [] (record { node = a.node; table = table; is_forall = false }) (count_of a p own) ∙ ap (λ n. variables ++ n ∷ []) number_is));
          guards = part_guards c 0 part same refl;
          all = λ other way is.
              let found = hung a p way other own is in
              elim (subst (λ y. Among (parts_in a.node p.around y) found.part) layer found.is_part) [
                | inl here ↦ sym found.is_clause ∙ ap (λ (c : Numbered). num (child a c.0)) (sym here)
                | inr never ↦ absurd never
              ];
        }

    at_instance : (table : ℕ) (body : Formula) → p.layer ≡ Formula-F.Forall table body → (row maker : ℕ) → IsMaker problem row maker table →
        (clause : ℕ) × StandsAt problem clause (out-Formula body) (variables ++ row ∷ []) × (guards_at problem clause ≡ at_way (num a) 0 ∷ at_way maker 0 ∷ [])
    at_instance table body layer row maker is =
        let c : Numbered = inside_part table body true in
        let part : Among (parts_of a.node p) c = subst (λ y. Among (parts_in a.node p.around y) c) (sym layer) (inl refl) in
        let k : Key = key_of a.sentence (suc a.node) (a.rows ++ row ∷ []) in
        let rows : AreRows terms (forall_tables c.1) k.rows =
        subst (λ ts. AreRows terms ts k.rows) (sym (tables_last p.around (record { node = a.node; table = table; is_forall = true })))
        (rows_last terms (tables_in p.around) a.rows table row own.rows (is.term, is.is_term, is.is_table)) in
        let here : Sits k c.1 = sits k c.1 (part_stands c part) rows in (
          num k,
          standing k c.1 (out-Formula body) (variables ++ row ∷ []) here refl (variables_under a p table row own),
          under_forall a p table body row is.term own layer is.is_term c.1 refl here ∙ ap (λ n. at_way (num a) 0 ∷ at_way n 0 ∷ []) is.is_number,
        )

    -- the clauses of an And's parts have ever greater numbers
    parts_ascend : (gs : List Formula) → p.layer ≡ Formula-F.And gs → (i j c d : ℕ) → i < j →
        slice_get (clauses_of_parts (listed false a.node 0 (suc a.node) p.around gs)) i ≡ Some c → slice_get (clauses_of_parts (listed false a.node 0 (suc a.node) p.around gs)) j ≡ Some d → c < d
    parts_ascend gs layer i j c d low at to =
        let parts : List Numbered = listed false a.node 0 (suc a.node) p.around gs in
        let same : forall_in p.layer ≡ false = ap forall_in layer in
        let first = map_at (λ (c : Numbered). num (child a c.0)) parts i c at in
        let second = map_at (λ (c : Numbered). num (child a c.0)) parts j d to in
        let is : Among (parts_of a.node p) first.0 = subst (λ y. Among (parts_in a.node p.around y) first.0) (sym layer) (among_at parts i first.0 first.1) in
        let is' : Among (parts_of a.node p) second.0 = subst (λ y. Among (parts_in a.node p.around y) second.0) (sym layer) (among_at parts j second.0 second.1) in
        let stages : stage_of order (forall_tables first.0.1) ≡ stage_of order (forall_tables second.0.1) =
        ap (stage_of order) (tables_plain a.node p.around p.layer first.0 is same ∙ sym (tables_plain a.node p.around p.layer second.0 is' same)) in
        let nodes : first.0.0 < second.0.0 = listed_ascend false a.node 0 (suc a.node) p.around gs i j first.0 second.0 low first.1 second.1 in
        let less = above_lower (child a first.0.0) (child a second.0.0) first.0.1 second.0.1 (plain_sits first.0 is same) (plain_sits second.0 is' same) (omega arith) refl nodes in
        let one = first.2 in
        let two = second.2 in
        omega arith

    below_layer : HasTerms outlines terms → (y : Formula-F Formula) → p.layer ≡ y → Below problem (num a) y variables
    below_layer has (Formula-F.Atom x) layer = λ clause way is.
        let found = hung a p way clause own is in
        absurd (subst (λ y. Among (parts_in a.node p.around y) found.part) layer found.is_part)
    below_layer has (Formula-F.And gs) layer =
        let same : forall_in p.layer ≡ false = ap forall_in layer in
        record {
          clauses = clauses_of_parts (listed false a.node 0 (suc a.node) p.around gs);
          are =
              are_parts false (λ i. at_way (num a) 0) (λ i w e. e) 0 0 (suc a.node) gs refl
              (part_clause false gs same (λ c is. subst (λ y. Among (parts_in a.node p.around y) c) (sym layer) is));
          all = λ clause way is.
              let found = hung a p way clause own is in
              let part = subst (λ y. Among (parts_in a.node p.around y) found.part) layer found.is_part in
              let at = at_among (listed false a.node 0 (suc a.node) p.around gs) found.part part in
              (at.0, at_map (λ (c : Numbered). num (child a c.0)) (listed false a.node 0 (suc a.node) p.around gs) at.0 found.part at.1 ∙ ap Some found.is_clause);
          ascend = parts_ascend gs layer;
        }
    below_layer has (Formula-F.Or gs) layer =
        let same : forall_in p.layer ≡ false = ap forall_in layer in
        record {
          clauses = clauses_of_parts (listed true a.node 0 (suc a.node) p.around gs);
          are =
              are_parts true (at_way (num a)) (λ i w e. ap (λ (g : Guard). at_way (num a) (suc g.way)) e) 0 0 (suc a.node) gs refl
              (part_clause true gs same (λ c is. subst (λ y. Among (parts_in a.node p.around y) c) (sym layer) is));
          all = λ clause way is.
              let found = hung a p way clause own is in
              let part = subst (λ y. Among (parts_in a.node p.around y) found.part) layer found.is_part in
              let at = listed_at a.node 0 (suc a.node) p.around gs found.part way part found.is_above in
              let place : at.0 ≡ way = let e = at.1 in omega arith in
              subst (λ i. slice_get (clauses_of_parts (listed true a.node 0 (suc a.node) p.around gs)) i ≡ Some clause) place
              (at_map (λ (c : Numbered). num (child a c.0)) (listed true a.node 0 (suc a.node) p.around gs) at.0 found.part at.2 ∙ ap Some found.is_clause);
        }
    below_layer has (Formula-F.Exists table body) layer = below_exists has table body layer
    below_layer has (Formula-F.Forall table body) layer = record {
      at_row = at_instance table body layer;
      none = λ clause way is.
          let found = hung a p way clause own is in
          let same : forall_in p.layer ≡ true = ap forall_in layer in
          let other : forall_in p.layer ≡ false = found.is_plain in
          cc;
    }

  -- ---- roots

  pub root_sits : (sentence : ℕ) (formula : Formula) → slice_get problem.sentences sentence ≡ Some formula → Sits (key_of sentence 0 []) (root_of formula)
  root_sits sentence formula is = sits (key_of sentence 0 []) (root_of formula) (to_outline problem.sentences sentence 0 formula (root_of formula) is (at_root formula)) tt

  abbrev root_at : (sentence : ℕ) (formula : Formula) → slice_get problem.sentences sentence ≡ Some formula → IsRoot problem sentence (num (key_of sentence 0 []))
  root_at sentence formula is =
      let k : Key = key_of sentence 0 [] in
      let own = root_sits sentence formula is in
      record { formula = formula; is_sentence = is; stands = standing k (root_of formula) (out-Formula formula) [] own refl refl; is_own = refl; guards = guards_are k (root_of formula) own }

  -- ---- the law

  -- where each variable of the sentences is bound
  pub hangs_together : ((sentence : ℕ) (formula : Formula) → slice_get problem.sentences sentence ≡ Some formula → is_sentence formula ≡ true) → Hanging problem
  hangs_together closed =
      let all_there : HasTerms outlines terms = subst (HasTerms outlines) (sym is_problem.terms) (terms_there problem.sentences order is_problem.order) in
      record {
        stands = λ clause c at.
            let k = key_there clause c at in
            let is : clause_for k.0 k.1 ≡ c = same_Some (clause_for k.0 k.1) c (sym (clause_there clause k.0 k.1 k.2 k.3.stands) ∙ at) in
            (k.1.layer, (variables_of terms k.0 k.1, record { key = k.0; node = k.1; is_key = k.2; is_node = k.3.stands; is_layer = refl; are_variables = refl }, sym (ap (λ (c : Clause). c.ways) is)));
        listed = λ clause layer variables stands.
            (clause_for stands.key stands.node, clause_there clause stands.key stands.node stands.is_key stands.is_node, ap₂ ways_in stands.are_variables stands.is_layer);
        hangs = λ clause c at. let k = key_there clause c at in subst (Hangs problem) k.4 (hangs_by k.0 k.1 k.3 (up k.0 k.1 k.3));
        below = λ clause layer variables stands.
            let own = sits_clause clause stands.key stands.node stands.is_key stands.is_node in
            subst (λ clause. Below problem clause layer variables) own.1
            (subst (Below problem (num stands.key) layer) stands.are_variables (below_layer stands.key stands.node own.0 all_there layer stands.is_layer));
        one_maker = λ row maker table other second is also.
            sym is.is_number ∙ (ap (λ (t : RowTerm). num (maker_of t)) (same_Some is.term also.term (sym is.is_term ∙ also.is_term)) ∙ also.is_number);
        makers = λ row term at. (num (maker_of term), maker_is row term term.table at refl);
        tables = in_frame;
        bound = λ clause a variables stands.
            let own = sits_clause clause stands.key stands.node stands.is_key stands.is_node in
            let g = in_outline problem.sentences stands.key.sentence stands.key.node stands.node stands.is_node in
            let around : List Quantifier = stands.node.around in
            let bound : bound_layer (Formula-F.Atom a) (tables_around around) ≡ true =
            subst (λ y. bound_layer y (tables_around around) ≡ true) stands.is_layer (bound_at g.0 (closed stands.key.sentence g.0 g.1) stands.key.node stands.node g.2) in
            let count : length (tables_around around) ≡ length variables =
            length-map around (λ (q : Quantifier). q.table)
            ∙ (sym (along_count terms stands.key.sentence around [] stands.key.rows (count_of stands.key stands.node own.0)) ∙ ap length stands.are_variables) in
            subst (λ n. atom_is_below n a ≡ true) count (atom_below (tables_around around) a bound);
        forward =
            forward_from 0 problem.clauses
            (λ i c at.
            let k = key_there i c at in
            let same : num k.0 ≡ 0 + i = let e = k.4 in omega arith in
            let guards : guards_at problem (num k.0) ≡ c.guards = ap (guards_at problem) k.4 ∙ ap (λ o. option_map_or (λ (c : Clause). c.guards) o []) at in
            subst (λ n. guards_before n c ≡ true) same (guards_lower k.0 k.1 k.3 (up k.0 k.1 k.3) c guards));
        roots = λ sentence formula is. (
          num (key_of sentence 0 []),
          root_at sentence formula is,
          λ other found. sym (number_at outlines order terms other (key_of sentence 0 []) (found.stands.is_key ∙ ap Some found.is_own)),
        );
      }

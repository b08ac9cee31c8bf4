-- The keys that the guards of a clause name are there, and the variables of an atom have their row terms.
use Rattle.std.proofs.Common.{◌≡◌, ◌∙◌, sym, ap, subst, ℕ, ◌+◌, ◌-◌, ◌<◌, ◌≤◌, inl, inr, true, false, List, [], ◌∷◌, ◌++◌, length, take, append-nil, arith}
use Rattle.std.proofs.lemmas.List.{length-map, length-append}
use Rattle.std.proofs.lemmas.Option.{same_Some}
use Rattle.std.specs.Prelude.{Some, None, slice_get}
use Rattle.sort_formula.specs.declared.formula.Atom.{Atom}
use Rattle.sort_formula.specs.declared.formula.Formula.{Formula}
use Rattle.sort_formula.specs.declared.formula.Formula.TheOpen.{Formula-F}
use Rattle.sort_formula.specs.Sentences.{is_sentence}
use Rattle.sort_formula.specs.Variables.{atom_is_below}
use Rattle.sorted_skolem.specs.declared.term.RowTerm.{RowTerm}
use Rattle.sorted_skolem.specs.Graph.{IsOrder}
use Rattle.sorted_skolem.specs.Preorder.{Quantifier, Way, Node, nodes_of, outlines_of, node_at, forall_tables, forall_in, is_forall_node}
use Rattle.sorted_skolem.specs.Terms.{row_terms}
use Rattle.sorted_skolem.proofs.Among.{Among, among_at}
use Rattle.sorted_skolem.proofs.Parts.{IsPart, node_below, with_quantifier, parts_in, at_above, at_part, tables_around, bound_layer, bound_at}
use Rattle.sorted_skolem.proofs.RowTerms.{AreRows, AreTerms, terms_are}
use Rattle.instantiate.specs.Keys.{Key, place_in, stage_of}
use Rattle.instantiate.specs.Ground.{keys, maker_of, variables_of}
use Rattle.instantiate.proofs.Numbering.{key_of, key_placed, placed_key, place_low, stage_within}
use Rattle.instantiate.proofs.Layers.{count_last, take_front, tables_in, tables_last, rows_count, rows_parted, along_count, tables_plain, forall_layer, atom_below, in_outline, to_outline}

module _ (sentences : List Formula) (order : List ℕ) (is_order : IsOrder sentences order) where
  abbrev pub outlines : List (List Node)
  outlines = outlines_of sentences

  abbrev pub terms : List RowTerm
  terms = row_terms outlines order

  abbrev pub ks : List Key
  ks = keys outlines order terms

  all_terms : AreTerms outlines order terms
  all_terms = terms_are sentences order is_order

  pub list_there : (k : Key) (x : Node) → node_at outlines k.sentence k.node ≡ Some x → AreRows terms (forall_tables x) k.rows → Among ks k
  list_there k x stands rows = placed_key outlines order terms all_terms.tables k (record { node = x; stands = stands; rows = rows })

  pub rows_of_key : (k : Key) (x : Node) → Among ks k → node_at outlines k.sentence k.node ≡ Some x → AreRows terms (forall_tables x) k.rows
  rows_of_key k x is stands =
      let placed = key_placed outlines order terms k is in
      subst (λ (y : Node). AreRows terms (forall_tables y) k.rows) (same_Some placed.node x (sym placed.stands ∙ stands)) placed.rows

  -- the stage of a key is there
  pub stage_low : (tables rows : List ℕ) → AreRows terms tables rows → stage_of order tables ≤ length order
  stage_low tables rows are = stage_within order tables (length order) (λ table is. within table (of_rows tables rows are table is))
    where
      within : (table : ℕ) → Among order table → place_in order table ≤ length order
      within table is = subst (λ ts. place_in ts table ≤ length order) (append-nil order) (place_low order [] table is)

      of_rows : (tables rows : List ℕ) → AreRows terms tables rows → (table : ℕ) → Among tables table → Among order table
      of_rows [] rows are table is = absurd is
      of_rows (t ∷ ts) [] are table is = absurd are
      of_rows (t ∷ ts) (row ∷ rows) are table is = elim is [ inl here ↦ subst (Among order) here (all_terms.tables t row are.0) | inr later ↦ of_rows ts rows are.1 table later ]

  -- the Exists that asks for a row is there
  pub maker_there : (row : ℕ) (t : RowTerm) → slice_get terms row ≡ Some t → Among ks (maker_of t)
  maker_there row t at =
      let made = all_terms.made t (among_at terms row t at) in
      list_there (maker_of t) made.asked.node made.asked.stands made.asked.rows

  -- a node that another stands above is a part of it
  record IsBelow (g : Formula) (k : Key) (x p : Node) (way : Way) : Type 0 where
    part : IsPart (nodes_of g) 0 k.node x
    is_way : part.way ≡ way
    is_above : part.above ≡ p

  below_is : (k : Key) (x p : Node) (way : Way) → node_at outlines k.sentence k.node ≡ Some x → x.above ≡ Some way → node_at outlines k.sentence way.node ≡ Some p →
      (g : Formula) × IsBelow g k x p way
  below_is k x p way stands above at =
      let g = in_outline sentences k.sentence k.node x stands in
      elim (at_above g.0 k.node x g.2) [
        | inl top ↦ let none : None ≡ Some way = sym (ap (λ (x : Node). x.above) top.1) ∙ above in cc
        | inr part ↦
            let is_way : part.way ≡ way = same_Some part.way way (sym part.is_above ∙ above) in
            let is : node_at outlines k.sentence part.way.node ≡ Some part.above = to_outline sentences k.sentence part.way.node g.0 part.above g.1 (at_part g.0 k.node x part) in (
              g.0,
              record {
                part = part;
                is_way = is_way;
                is_above = same_Some part.above p (sym is ∙ (ap (λ (w : Way). node_at outlines k.sentence w.node) is_way ∙ at));
              },
            )
      ]

  pub plain_above : (k : Key) (x p : Node) (way : Way) → Among ks k → node_at outlines k.sentence k.node ≡ Some x → x.above ≡ Some way → node_at outlines k.sentence way.node ≡ Some p →
      is_forall_node p ≡ false → Among ks (key_of k.sentence way.node k.rows)
  plain_above k x p way is stands above at same =
      let is_below = below_is k x p way stands above at in
      let part = is_below.1.part in
      let plain : forall_in part.above.layer ≡ false = ap (λ (p : Node). forall_in p.layer) is_below.1.is_above ∙ same in
      let tables : forall_tables x ≡ forall_tables p =
      tables_plain part.way.node part.above.around part.above.layer (k.node, x) part.part plain ∙ ap forall_tables is_below.1.is_above in
      list_there (key_of k.sentence way.node k.rows) p at (subst (λ ts. AreRows terms ts k.rows) tables (rows_of_key k x is stands))

  pub record HasLast (k : Key) (way : Way) : Type 0 where
    pub front : List ℕ
    pub row : ℕ
    pub parted : k.rows ≡ front ++ row ∷ []
    pub is_there : Among ks (key_of k.sentence way.node front)

  last_of : (k : Key) (x p : Node) (way : Way) → Among ks k → node_at outlines k.sentence k.node ≡ Some x → x.above ≡ Some way → node_at outlines k.sentence way.node ≡ Some p →
      is_forall_node p ≡ true → HasLast k way
  last_of k x p way is stands above at same =
      let is_below = below_is k x p way stands above at in
      let part = is_below.1.part in
      let a : Node = part.above in
      let layer = forall_layer a.layer (ap (λ (p : Node). forall_in p.layer) is_below.1.is_above ∙ same) in
      let q : Quantifier = record { node = part.way.node; table = layer.0; is_forall = true } in
      elim (subst (λ y. Among (parts_in part.way.node a.around y) (k.node, x)) layer.2 part.part) [
        | inl here ↦
            let is_node : x ≡ node_below part.way.node 0 (with_quantifier a.around part.way.node layer.0 true) layer.1 = sym (ap (λ (c : ℕ × Node). c.1) here) in
            let rows : AreRows terms (tables_in a.around ++ layer.0 ∷ []) k.rows =
            subst (λ ts. AreRows terms ts k.rows) (ap (λ (x : Node). tables_in x.around) is_node ∙ tables_last a.around q) (rows_of_key k x is stands) in
            let parted = rows_parted terms (tables_in a.around) k.rows layer.0 rows in
            record {
              front = parted.0;
              row = parted.1;
              parted = parted.2;
              is_there = list_there (key_of k.sentence way.node parted.0) p at (subst (λ (y : Node). AreRows terms (forall_tables y) parted.0) is_below.1.is_above parted.3);
            }
        | inr never ↦ absurd never
      ]

  pub record HasFront (k : Key) (way : Way) : Type 0 where
    pub some : 0 < length k.rows
    pub is_there : Among ks (key_of k.sentence way.node (take (length k.rows - 1) k.rows))

  pub inside_above : (k : Key) (x p : Node) (way : Way) → Among ks k → node_at outlines k.sentence k.node ≡ Some x → x.above ≡ Some way → node_at outlines k.sentence way.node ≡ Some p →
      is_forall_node p ≡ true → HasFront k way
  inside_above k x p way is stands above at same =
      let last = last_of k x p way is stands above at same in
      let size : length k.rows ≡ length last.front + 1 = ap length last.parted ∙ length-append last.front (last.row ∷ []) in
      let front : take (length k.rows - 1) k.rows ≡ last.front =
      ap (λ rows. take (length rows - 1) rows) last.parted ∙ (ap (λ n. take n (last.front ++ last.row ∷ [])) (count_last last.front last.row) ∙ take_front last.front (last.row ∷ [])) in
      record { some = omega arith; is_there = subst (λ rows. Among ks (key_of k.sentence way.node rows)) (sym front) last.is_there }

  -- the variables of an atom
  pub atom_closed : (k : Key) (x : Node) (a : Atom) → Among ks k → node_at outlines k.sentence k.node ≡ Some x →
      ((g : Formula) → slice_get sentences k.sentence ≡ Some g → is_sentence g ≡ true) → x.layer ≡ Formula-F.Atom a → atom_is_below (length (variables_of terms k x)) a ≡ true
  atom_closed k x a is stands closed layer =
      let g = in_outline sentences k.sentence k.node x stands in
      let bound : bound_layer (Formula-F.Atom a) (tables_around x.around) ≡ true =
      subst (λ z. bound_layer z (tables_around x.around) ≡ true) layer (bound_at g.0 (closed g.0 g.1) k.node x g.2) in
      let count : length (variables_of terms k x) ≡ length x.around =
      along_count terms k.sentence x.around [] k.rows (rows_count terms (tables_in x.around) k.rows (rows_of_key k x is stands)) in
      subst (λ n. atom_is_below n a ≡ true) (length-map x.around (λ (q : Quantifier). q.table) ∙ sym count) (atom_below (tables_around x.around) a bound)

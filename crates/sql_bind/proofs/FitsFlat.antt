-- A condition without subqueries binds to one without, and is shaped; and whether such a condition fits depends on
-- the columns of the tables alone.
use Rattle.std.proofs.Common.{◌≡◌, refl, sym, ap, ◌∙◌, subst, Bool, true, false, ◌&&◌, List, [], ◌∷◌, map, Ok}
use Rattle.std.proofs.lemmas.Bool.{and_parts, and_from, false≢true}
use Rattle.std.proofs.lemmas.List.Folds.{list_all-map}
use Rattle.std.specs.List.{list_all}
use Rattle.lint_base.specs.declared.place.Span.{Span}
use Rattle.lint_base.specs.declared.place.Fault.TheVariants.{TypeMismatch}
use Rattle.lint_tables.specs.declared.op.Op.{Op}
use Rattle.lint_tables.specs.declared.op.Op.TheVariants.{Eq, Ne, Lt, Le, Gt, Ge}
use Rattle.sql_tree.specs.declared.select.CondTree.{CondTree, ind-CondTree, roll-CondTree, map-CondTree, fold-roll-CondTree}
use Rattle.sql_tree.specs.declared.select.CondTree.TheOpen.{CondTree-F}
use Rattle.sql_tree.specs.declared.select.EntryTree.{EntryTree, fold-EntryTree}
use Rattle.sql_tree.specs.declared.select.SelectTree.{SelectTree, fold-SelectTree}
use Rattle.lint_core.specs.declared.condition.Term.{Term}
use Rattle.lint_core.specs.declared.condition.Cond.{Cond, roll-Cond, map-Cond, fold-roll-Cond}
use Rattle.lint_core.specs.declared.condition.Cond.TheOpen.{Cond-F}
use Rattle.lint_core.specs.declared.condition.Cond.TheVariants as bound
use Rattle.lint_core.specs.declared.condition.Block.{Block, fold-Block}
use Rattle.lint_core.specs.declared.schema.Table.{Table}
use Rattle.lint_core.specs.Fits.{is_flat, flat_step, term_fits}
use Rattle.sql_bind.specs.Bound.{and_then, all_bound}
use Rattle.sql_bind.specs.Names.{Level, level_tables}
use Rattle.sql_bind.specs.Terms.{bind_term, compares}
use Rattle.sql_bind.specs.Conditions.{CondMeaning, Value, matching, between, in_list, joined, tree_span, bind_values}
use Rattle.sql_bind.specs.Selects.{bind_cond}
use Rattle.sql_bind.specs.Shape.{EntryShape, cond_shaped, select_shaped}
use Rattle.sql_bind.specs.Shape as shape
use Rattle.sql_bind.proofs.FitsBound.{and_then_ok, same_ok, if_ok}
use Rattle.sql_bind.proofs.FitsConditions.{parts_pass, bound_roll, shaped_roll, of_cond}
use Rattle.sql_bind.proofs.FitsLists.{map-map}

-- bound forms without subqueries
abbrev pub block_flat : Block → Bool
block_flat = fold-Block Bool Bool flat_step (λ block. false)

pub flat_roll : (x : Cond-F Cond Block) (cond : Cond) → roll-Cond x ≡ cond → is_flat cond ≡ flat_step (map-Cond Cond Block Bool Bool is_flat block_flat x)
flat_roll x cond e = ap is_flat (sym e) ∙ fold-roll-Cond Bool Bool flat_step (λ block. false) x

pub flat_and : (conds : List Cond) → is_flat (bound.And conds) ≡ list_all is_flat conds
flat_and conds = flat_roll (Cond-F.And conds) (bound.And conds) (bound.rolls-And conds) ∙ list_all-map (λ part. part) is_flat conds

pub flat_or : (conds : List Cond) → is_flat (bound.Or conds) ≡ list_all is_flat conds
flat_or conds = flat_roll (Cond-F.Or conds) (bound.Or conds) (bound.rolls-Or conds) ∙ list_all-map (λ part. part) is_flat conds

pub flat_not : (cond : Cond) → is_flat (bound.Not cond) ≡ is_flat cond
flat_not cond = flat_roll (Cond-F.Not cond) (bound.Not cond) (bound.rolls-Not cond)

pub flat_compare : (op : Op) (left right : Term) (span : Span) → is_flat (bound.Compare op left right span) ≡ true
flat_compare op left right span = flat_roll (Cond-F.Compare op left right span) (bound.Compare op left right span) (bound.rolls-Compare op left right span)

pub flat_is_null : (t : Term) (negated : Bool) (span : Span) → is_flat (bound.IsNull t negated span) ≡ true
flat_is_null t negated span = flat_roll (Cond-F.IsNull t negated span) (bound.IsNull t negated span) (bound.rolls-IsNull t negated span)

between_flat : (negated : Bool) (a low high : Term) (first second : Span) → is_flat (between negated a low high first second) ≡ true
between_flat false a low high first second =
    flat_and (bound.Compare Ge a low first ∷ bound.Compare Le a high second ∷ []) ∙ and_from _ _ (flat_compare Ge a low first) (and_from _ _ (flat_compare Le a high second) refl)
between_flat true a low high first second =
    flat_or (bound.Compare Lt a low first ∷ bound.Compare Gt a high second ∷ []) ∙ and_from _ _ (flat_compare Lt a low first) (and_from _ _ (flat_compare Gt a high second) refl)

joined_flat : (join : List Cond → Cond) → ((conds : List Cond) → is_flat (join conds) ≡ list_all is_flat conds) → (conds : List Cond) → list_all is_flat conds ≡ true → is_flat (joined join conds) ≡ true
joined_flat join each [] all = each [] ∙ all
joined_flat join each (c ∷ []) all = (and_parts (is_flat c) true all).0
joined_flat join each (c ∷ next ∷ conds) all = each (c ∷ next ∷ conds) ∙ all

comparisons_flat : (op : Op) (a : Term) (values : List Value) → list_all is_flat (map (λ (v : Value). bound.Compare op a v.term v.span) values) ≡ true
comparisons_flat op a [] = refl
comparisons_flat op a (v ∷ values) = and_from _ _ (flat_compare op a v.term v.span) (comparisons_flat op a values)

in_list_flat : (negated : Bool) (a : Term) (values : List Value) → is_flat (in_list negated a values) ≡ true
in_list_flat false a values = joined_flat bound.Or flat_or (map (λ (v : Value). bound.Compare Eq a v.term v.span) values) (comparisons_flat Eq a values)
in_list_flat true a values = joined_flat bound.And flat_and (map (λ (v : Value). bound.Compare Ne a v.term v.span) values) (comparisons_flat Ne a values)

matched_flat : (goes : Bool) (at : Span) (pred cond : Cond) → matching goes at pred ≡ Ok cond → is_flat pred ≡ true → is_flat cond ≡ true
matched_flat goes at pred cond is flat = ap is_flat (sym (same_ok pred cond (if_ok goes (Ok pred) TypeMismatch at cond is).1)) ∙ flat

module _ (schema : List Table) where
  -- a tree without subqueries is shaped, and binds to a condition without
  pub record StaysFlat (tree : CondTree) : Type 0 where
    pub shaped : cond_shaped tree ≡ true
    pub bound : (levels : List Level) (cond : Cond) → bind_cond schema levels tree ≡ Ok cond → is_flat cond ≡ true

  abbrev pub Flat : CondTree → Type 0
  Flat tree = shape.is_flat tree ≡ true → StaysFlat tree

  abbrev FlatCond : Type 0
  FlatCond = (tree : CondTree) × Flat tree

  abbrev OtherEntry : Type 0
  OtherEntry = (tree : EntryTree) × Unit {0}

  abbrev OtherSelect : Type 0
  OtherSelect = (tree : SelectTree) × Unit {0}

  abbrev flat_part : CondTree-F FlatCond OtherEntry OtherSelect → CondTree-F CondTree EntryTree SelectTree
  flat_part = map-CondTree FlatCond OtherEntry OtherSelect CondTree EntryTree SelectTree (λ e. e.0) (λ e. e.0) (λ e. e.0)

  tree_roll : (x : CondTree-F CondTree EntryTree SelectTree) →
      shape.is_flat (roll-CondTree x) ≡ shape.flat_step (map-CondTree CondTree EntryTree SelectTree Bool Bool Bool shape.is_flat
      (fold-EntryTree Bool Bool Bool shape.flat_step (λ entry. false) (λ select. false)) (fold-SelectTree Bool Bool Bool shape.flat_step (λ entry. false) (λ select. false)) x)
  tree_roll x = fold-roll-CondTree Bool Bool Bool shape.flat_step (λ entry. false) (λ select. false) x

  -- the parts of an AND or an OR
  parts_shaped : (parts : List FlatCond) → list_all (λ part. part) (map shape.is_flat (map (λ e. e.0) parts)) ≡ true → list_all (λ part. part) (map cond_shaped (map (λ e. e.0) parts)) ≡ true
  parts_shaped [] flat = refl
  parts_shaped (part ∷ parts) flat =
      let both = and_parts (shape.is_flat part.0) _ flat in
      and_from _ _ (part.1 both.0).shaped (parts_shaped parts both.1)

  parts_flat : (levels : List Level) (parts : List FlatCond) (conds : List Cond) → list_all (λ part. part) (map shape.is_flat (map (λ e. e.0) parts)) ≡ true →
      all_bound (map (λ part. part levels) (map (of_cond schema) (map (λ e. e.0) parts))) ≡ Ok conds → list_all is_flat conds ≡ true
  parts_flat levels parts conds flat is =
      let whole : map (λ part. part levels) (map (of_cond schema) (map (λ e. e.0) parts)) ≡ map (λ (e : FlatCond). of_cond schema e.0 levels) parts =
      ap (map (λ part. part levels)) (map-map (of_cond schema) (λ (e : FlatCond). e.0) parts) ∙ map-map (λ (part : CondMeaning). part levels) (λ (e : FlatCond). of_cond schema e.0) parts in
      let flat_all : list_all (λ part. part) (map shape.is_flat (map (λ e. e.0) parts)) ≡ list_all (λ (e : FlatCond). shape.is_flat e.0) parts =
      ap (list_all (λ part. part)) (map-map shape.is_flat (λ (e : FlatCond). e.0) parts) ∙ list_all-map (λ part. part) (λ (e : FlatCond). shape.is_flat e.0) parts in
      parts_pass (λ (e : FlatCond). shape.is_flat e.0) (λ (e : FlatCond). of_cond schema e.0 levels) is_flat parts (λ e c f h. (e.1 f).bound levels c h) conds
      (sym flat_all ∙ flat) (ap all_bound (sym whole) ∙ is)

  at_layer : (y : CondTree-F FlatCond OtherEntry OtherSelect) → Flat (roll-CondTree (flat_part y))
  at_layer (CondTree-F.And parts) flat =
      let trees = map (λ (e : FlatCond). e.0) parts in
      let all = sym (tree_roll (CondTree-F.And trees)) ∙ flat in
      record {
        shaped = shaped_roll schema (CondTree-F.And trees) ∙ parts_shaped parts all;
        bound = λ levels cond is.
            let inner = and_then_ok (all_bound (map (λ part. part levels) (map (of_cond schema) trees))) (λ conds. Ok (bound.And conds)) cond (sym (bound_roll schema (CondTree-F.And trees) levels) ∙ is) in
            ap is_flat (sym (same_ok (bound.And inner.0) cond inner.2)) ∙ (flat_and inner.0 ∙ parts_flat levels parts inner.0 all inner.1);
      }
  at_layer (CondTree-F.Or parts) flat =
      let trees = map (λ (e : FlatCond). e.0) parts in
      let all = sym (tree_roll (CondTree-F.Or trees)) ∙ flat in
      record {
        shaped = shaped_roll schema (CondTree-F.Or trees) ∙ parts_shaped parts all;
        bound = λ levels cond is.
            let inner = and_then_ok (all_bound (map (λ part. part levels) (map (of_cond schema) trees))) (λ conds. Ok (bound.Or conds)) cond (sym (bound_roll schema (CondTree-F.Or trees) levels) ∙ is) in
            ap is_flat (sym (same_ok (bound.Or inner.0) cond inner.2)) ∙ (flat_or inner.0 ∙ parts_flat levels parts inner.0 all inner.1);
      }
  at_layer (CondTree-F.Not part) flat =
      let own = part.1 (sym (tree_roll (CondTree-F.Not part.0)) ∙ flat) in
      record {
        shaped = shaped_roll schema (CondTree-F.Not part.0) ∙ own.shaped;
        bound = λ levels cond is.
            let inner = and_then_ok (of_cond schema part.0 levels) (λ c. Ok (bound.Not c)) cond (sym (bound_roll schema (CondTree-F.Not part.0) levels) ∙ is) in
            ap is_flat (sym (same_ok (bound.Not inner.0) cond inner.2)) ∙ (flat_not inner.0 ∙ own.bound levels inner.0 inner.1);
      }
  at_layer (CondTree-F.Compare op left right span) flat =
      let x = CondTree-F.Compare op left right span in
      record {
        shaped = shaped_roll schema x;
        bound = λ levels cond is.
            let a = and_then_ok (bind_term schema levels left) (λ a. and_then (bind_term schema levels right) (λ b. matching (compares schema levels op a b) span (bound.Compare op a b span))) cond (sym (bound_roll schema x levels) ∙ is) in
            let b = and_then_ok (bind_term schema levels right) (λ b. matching (compares schema levels op a.0 b) span (bound.Compare op a.0 b span)) cond a.2 in
            matched_flat (compares schema levels op a.0 b.0) span (bound.Compare op a.0 b.0 span) cond b.2 (flat_compare op a.0 b.0 span);
      }
  at_layer (CondTree-F.Scalar op left select span) flat = absurd (false≢true (sym (tree_roll (CondTree-F.Scalar op left select.0 span)) ∙ flat))
  at_layer (CondTree-F.IsNull term negated span) flat =
      let x = CondTree-F.IsNull term negated span in
      record {
        shaped = shaped_roll schema x;
        bound = λ levels cond is.
            let a = and_then_ok (bind_term schema levels term) (λ a. matching (term_fits schema (level_tables levels) a) span (bound.IsNull a negated span)) cond (sym (bound_roll schema x levels) ∙ is) in
            matched_flat (term_fits schema (level_tables levels) a.0) span (bound.IsNull a.0 negated span) cond a.2 (flat_is_null a.0 negated span);
      }
  at_layer (CondTree-F.Between term low high negated span) flat =
      let x = CondTree-F.Between term low high negated span in
      let first : Span = record { from = (tree_span term).from; to = (tree_span low).to } in
      record {
        shaped = shaped_roll schema x;
        bound = λ levels cond is.
            let last = λ (a b c : Term). matching (compares schema levels Ge a b && compares schema levels Le a c) span (between negated a b c first (tree_span high)) in
            let a = and_then_ok (bind_term schema levels term) (λ a. and_then (bind_term schema levels low) (λ b. and_then (bind_term schema levels high) (last a b))) cond (sym (bound_roll schema x levels) ∙ is) in
            let b = and_then_ok (bind_term schema levels low) (λ b. and_then (bind_term schema levels high) (last a.0 b)) cond a.2 in
            let c = and_then_ok (bind_term schema levels high) (last a.0 b.0) cond b.2 in
            matched_flat (compares schema levels Ge a.0 b.0 && compares schema levels Le a.0 c.0) span (between negated a.0 b.0 c.0 first (tree_span high)) cond c.2
            (between_flat negated a.0 b.0 c.0 first (tree_span high));
      }
  at_layer (CondTree-F.InList term values negated span) flat =
      let x = CondTree-F.InList term values negated span in
      record {
        shaped = shaped_roll schema x;
        bound = λ levels cond is.
            let last = λ (a : Term) (vs : List Value). matching (term_fits schema (level_tables levels) a && list_all (λ (v : Value). compares schema levels Eq a v.term) vs) span (in_list negated a vs) in
            let a = and_then_ok (bind_term schema levels term) (λ a. and_then (bind_values schema levels values) (last a)) cond (sym (bound_roll schema x levels) ∙ is) in
            let vs = and_then_ok (bind_values schema levels values) (last a.0) cond a.2 in
            matched_flat (term_fits schema (level_tables levels) a.0 && list_all (λ (v : Value). compares schema levels Eq a.0 v.term) vs.0) span (in_list negated a.0 vs.0) cond vs.2 (in_list_flat negated a.0 vs.0);
      }
  at_layer (CondTree-F.InSelect term select negated span) flat = absurd (false≢true (sym (tree_roll (CondTree-F.InSelect term select.0 negated span)) ∙ flat))
  at_layer (CondTree-F.Exists select span) flat = absurd (false≢true (sym (tree_roll (CondTree-F.Exists select.0 span)) ∙ flat))

  pub flat_stays : (tree : CondTree) → Flat tree
  flat_stays = ind-CondTree Flat (λ entry. Unit {0}) (λ select. Unit {0}) (λ x y is. subst (λ z. Flat (roll-CondTree z)) is (at_layer y)) (λ x y is. tt) (λ x y is. tt)

-- What a condition and a SELECT bind to fits, by induction over their trees.
use Rattle.std.proofs.Common.{ℕ, suc, ◌≡◌, refl, sym, ap, ◌∙◌, subst, Bool, true, ◌&&◌, List, [], ◌∷◌, ◌++◌, length, map, Option, Some, None, Ok, nat_le, option_map, unwrap_or, arith}
use Rattle.std.proofs.lemmas.Bool.{and_parts, and_from}
use Rattle.std.proofs.lemmas.Option.{same_Some}
use Rattle.std.proofs.lemmas.List.Folds.{list_all-map}
use Rattle.std.specs.List.{list_all}
use Rattle.lint_base.proofs.Lists.{all_append}
use Rattle.lint_base.specs.declared.place.Span.{Span}
use Rattle.lint_tables.specs.declared.op.Op.{Op}
use Rattle.lint_tables.specs.declared.op.Op.TheVariants.{Eq, Le, Ge}
use Rattle.sql_tree.specs.declared.term.TermTree.{TermTree}
use Rattle.sql_tree.specs.declared.select.CondTree.{CondTree, ind-CondTree, roll-CondTree, map-CondTree, fold-roll-CondTree}
use Rattle.sql_tree.specs.declared.select.CondTree.TheOpen.{CondTree-F, EntryTree-F, SelectTree-F}
use Rattle.sql_tree.specs.declared.select.EntryTree.{EntryTree, fold-EntryTree, fold_out-EntryTree, map-EntryTree}
use Rattle.sql_tree.specs.declared.select.SelectTree.{SelectTree, ind-SelectTree, roll-SelectTree, map-SelectTree, fold-roll-SelectTree}
use Rattle.lint_core.specs.declared.condition.Term.{Term}
use Rattle.lint_core.specs.declared.condition.Cond.{Cond}
use Rattle.lint_core.specs.declared.condition.Cond.TheVariants.{And, Or, Not, Compare, IsNull, Exists, In, Scalar}
use Rattle.lint_core.specs.declared.condition.Block.{roll-Block}
use Rattle.lint_core.specs.declared.condition.Entry.{Entry}
use Rattle.lint_core.specs.declared.schema.Table.{Table}
use Rattle.lint_core.specs.Fits.{cond_fits, block_fits, block_meaning, term_kind, term_fits, is_plain, item_fits, tables_of}
use Rattle.lint_core.specs.Fits as fits
use Rattle.sql_bind.specs.Bound.{Bound, and_then, all_bound}
use Rattle.sql_bind.specs.Names.{Level, level_tables, whole_level}
use Rattle.sql_bind.specs.Terms.{bind_term, compares}
use Rattle.sql_bind.specs.Conditions.{BoundSelect, Selected, CondMeaning, EntryMeaning, SelectMeaning, Value, matching, between, in_list, tree_span, one_column, compares_selected, bind_values, cond_step}
use Rattle.sql_bind.specs.Selects.{bind_cond, bind_select, bind_entries, bind_items, bind_ons, bind_on, bind_optional, bind_filter, conjunction, own_levels, entry_step, select_step}
use Rattle.sql_bind.specs.Shape.{EntryShape, entries_shaped, item_shaped, cond_shaped, select_shaped}
use Rattle.sql_bind.specs.Shape as shape
use Rattle.sql_bind.proofs.FitsBound.{and_then_ok, same_ok}
use Rattle.sql_bind.proofs.FitsForms.{fits_and, fits_or, fits_not, fits_compare, fits_is_null, fits_exists, fits_in, fits_scalar, block_is, inner_level}
use Rattle.sql_bind.proofs.FitsItems.{is_there, entries_there, Part, items_fit}
use Rattle.sql_bind.proofs.FitsLists.{map-map}
use Rattle.sql_bind.proofs.FitsPredicates.{FitsAt, Fitting, fits_same, matched, between_fits, in_list_fits, conjunction_fits, subquery_fits}

-- conditions in a row
pub parts_pass : {Y A : Type 0} (shaped : Y → Bool) (meaning : Y → Bound A) (test : A → Bool) → (ys : List Y) → ((y : Y) (a : A) → shaped y ≡ true → meaning y ≡ Ok a → test a ≡ true) → (bound : List A) →
    list_all shaped ys ≡ true → all_bound (map meaning ys) ≡ Ok bound → list_all test bound ≡ true
unfolding all_bound
parts_pass shaped meaning test [] each bound shapes is = ap (list_all test) (sym (same_ok [] bound is))
parts_pass shaped meaning test (y ∷ ys) each bound shapes is =
    let both = and_parts (shaped y) (list_all shaped ys) shapes in
    let first = and_then_ok (meaning y) (λ a. and_then (all_bound (map meaning ys)) (λ rest. Ok (a ∷ rest))) bound is in
    let rest = and_then_ok (all_bound (map meaning ys)) (λ rest. Ok (first.0 ∷ rest)) bound first.2 in
    ap (list_all test) (sym (same_ok (first.0 ∷ rest.0) bound rest.2))
    ∙ and_from (test first.0) (list_all test rest.0) (each y first.0 both.0 first.1) (parts_pass shaped meaning test ys each rest.0 both.1 rest.1)

module _ (schema : List Table) where
  abbrev pub CondFits : CondTree → Type 0
  CondFits tree = (levels : List Level) (cond : Cond) → cond_shaped tree ≡ true → bind_cond schema levels tree ≡ Ok cond → FitsAt schema levels cond

  abbrev pub EntryFits : EntryTree → Type 0
  EntryFits entry = (tree : CondTree) → entry.on ≡ Some tree → CondFits tree

  abbrev pub SelectFits : SelectTree → Type 0
  SelectFits tree = (outer : List Level) (select : BoundSelect) → select_shaped tree ≡ true → bind_select schema outer tree ≡ Ok select → Fitting schema outer select

  abbrev FitCond : Type 0
  FitCond = (tree : CondTree) × CondFits tree

  abbrev FitEntry : Type 0
  FitEntry = (tree : EntryTree) × EntryFits tree

  abbrev FitSelect : Type 0
  FitSelect = (tree : SelectTree) × SelectFits tree

  abbrev cond_part : CondTree-F FitCond FitEntry FitSelect → CondTree-F CondTree EntryTree SelectTree
  cond_part = map-CondTree FitCond FitEntry FitSelect CondTree EntryTree SelectTree (λ e. e.0) (λ e. e.0) (λ e. e.0)

  abbrev entry_part : EntryTree-F FitCond FitEntry FitSelect → EntryTree-F CondTree EntryTree SelectTree
  entry_part = map-EntryTree FitCond FitEntry FitSelect CondTree EntryTree SelectTree (λ e. e.0) (λ e. e.0) (λ e. e.0)

  abbrev select_part : SelectTree-F FitCond FitEntry FitSelect → SelectTree-F CondTree EntryTree SelectTree
  select_part = map-SelectTree FitCond FitEntry FitSelect CondTree EntryTree SelectTree (λ e. e.0) (λ e. e.0) (λ e. e.0)

  abbrev entry_rolled : EntryTree-F CondTree EntryTree SelectTree → EntryTree
  entry_rolled z = record { table = z.table; alias = z.alias; on = z.on; first = z.first }

  -- what the parts bind to, and whether they are shaped
  abbrev pub of_cond : CondTree → CondMeaning
  of_cond tree levels = bind_cond schema levels tree

  abbrev pub of_entry : EntryTree → EntryMeaning
  of_entry = fold-EntryTree CondMeaning EntryMeaning SelectMeaning (cond_step schema) (entry_step schema) (select_step schema)

  abbrev pub of_select : SelectTree → SelectMeaning
  of_select tree outer = bind_select schema outer tree

  abbrev pub entry_shape : EntryTree → EntryShape
  entry_shape = fold-EntryTree Bool EntryShape Bool shape.cond_step shape.entry_step shape.select_step

  pub bound_roll : (x : CondTree-F CondTree EntryTree SelectTree) (levels : List Level) →
      bind_cond schema levels (roll-CondTree x) ≡ cond_step schema (map-CondTree CondTree EntryTree SelectTree CondMeaning EntryMeaning SelectMeaning of_cond of_entry of_select x) levels
  bound_roll x levels = ap (λ m. m levels) (fold-roll-CondTree CondMeaning EntryMeaning SelectMeaning (cond_step schema) (entry_step schema) (select_step schema) x)

  pub shaped_roll : (x : CondTree-F CondTree EntryTree SelectTree) → cond_shaped (roll-CondTree x) ≡ shape.cond_step (map-CondTree CondTree EntryTree SelectTree Bool EntryShape Bool cond_shaped entry_shape select_shaped x)
  shaped_roll x = fold-roll-CondTree Bool EntryShape Bool shape.cond_step shape.entry_step shape.select_step x

  select_bound_roll : (x : SelectTree-F CondTree EntryTree SelectTree) (outer : List Level) →
      bind_select schema outer (roll-SelectTree x) ≡ select_step schema (map-SelectTree CondTree EntryTree SelectTree CondMeaning EntryMeaning SelectMeaning of_cond of_entry of_select x) outer
  select_bound_roll x outer = ap (λ m. m outer) (fold-roll-SelectTree CondMeaning EntryMeaning SelectMeaning (cond_step schema) (entry_step schema) (select_step schema) x)

  select_shaped_roll : (x : SelectTree-F CondTree EntryTree SelectTree) →
      select_shaped (roll-SelectTree x) ≡ shape.select_step (map-SelectTree CondTree EntryTree SelectTree Bool EntryShape Bool cond_shaped entry_shape select_shaped x)
  select_shaped_roll x = fold-roll-SelectTree Bool EntryShape Bool shape.cond_step shape.entry_step shape.select_step x

  -- each of a list of parts
  parts_fit : (levels : List Level) (parts : List FitCond) (conds : List Cond) → list_all (λ part. part) (map cond_shaped (map (λ e. e.0) parts)) ≡ true →
      all_bound (map (λ part. part levels) (map of_cond (map (λ e. e.0) parts))) ≡ Ok conds → list_all (cond_fits schema (level_tables levels)) conds ≡ true
  parts_fit levels parts conds shapes is =
      let whole : map (λ part. part levels) (map of_cond (map (λ e. e.0) parts)) ≡ map (λ (e : FitCond). of_cond e.0 levels) parts =
      ap (map (λ part. part levels)) (map-map of_cond (λ (e : FitCond). e.0) parts) ∙ map-map (λ (part : CondMeaning). part levels) (λ (e : FitCond). of_cond e.0) parts in
      let shaped : list_all (λ part. part) (map cond_shaped (map (λ e. e.0) parts)) ≡ list_all (λ (e : FitCond). cond_shaped e.0) parts =
      ap (list_all (λ part. part)) (map-map cond_shaped (λ (e : FitCond). e.0) parts) ∙ list_all-map (λ part. part) (λ (e : FitCond). cond_shaped e.0) parts in
      parts_pass (λ (e : FitCond). cond_shaped e.0) (λ (e : FitCond). of_cond e.0 levels) (cond_fits schema (level_tables levels)) parts (λ e c s h. e.1 levels c s h) conds
      (sym shaped ∙ shapes) (ap all_bound (sym whole) ∙ is)

  -- a term beside a subquery, from what they bind to
  subquery_matched : (levels : List Level) (op : Op) (a item : Term) (s : BoundSelect) (span : Span) (made cond : Cond) → Fitting schema levels s → one_column s ≡ Ok item →
      cond_fits schema (level_tables levels) made ≡ fits.selected_fits schema (level_tables levels) op a (block_meaning schema s.block) item →
      matching (compares_selected schema levels op a s item) span made ≡ Ok cond → FitsAt schema levels cond
  subquery_matched levels op a item s span made cond fitting one form is =
      matched schema levels (compares_selected schema levels op a s item) span made cond is (λ goes. form ∙ subquery_fits schema levels op a s item fitting one goes)

  beside_fits : (levels : List Level) (op : Op) (left : TermTree) (select : FitSelect) (span : Span) (make : Term → BoundSelect → Term → Cond) (cond : Cond) → select_shaped select.0 ≡ true →
      ((a : Term) (s : BoundSelect) (item : Term) → cond_fits schema (level_tables levels) (make a s item) ≡ fits.selected_fits schema (level_tables levels) op a (block_meaning schema s.block) item) →
      and_then (bind_term schema levels left) (λ a. and_then (of_select select.0 levels) (λ s. and_then (one_column s) (λ item. matching (compares_selected schema levels op a s item) span (make a s item)))) ≡ Ok cond →
      FitsAt schema levels cond
  beside_fits levels op left select span make cond shaped form e =
      let a = and_then_ok (bind_term schema levels left) (λ a. and_then (of_select select.0 levels) (λ s. and_then (one_column s) (λ item. matching (compares_selected schema levels op a s item) span (make a s item)))) cond e in
      let s = and_then_ok (of_select select.0 levels) (λ s. and_then (one_column s) (λ item. matching (compares_selected schema levels op a.0 s item) span (make a.0 s item))) cond a.2 in
      let item = and_then_ok (one_column s.0) (λ item. matching (compares_selected schema levels op a.0 s.0 item) span (make a.0 s.0 item)) cond s.2 in
      subquery_matched levels op a.0 item.0 s.0 span (make a.0 s.0 item.0) cond (select.1 levels s.0 shaped s.1) item.1 (form a.0 s.0 item.0) item.2

  at_cond : (y : CondTree-F FitCond FitEntry FitSelect) → CondFits (roll-CondTree (cond_part y))
  at_cond (CondTree-F.And parts) levels cond shaped bound =
      let trees = map (λ (e : FitCond). e.0) parts in
      let e = sym (bound_roll (CondTree-F.And trees) levels) ∙ bound in
      let inner = and_then_ok (all_bound (map (λ part. part levels) (map of_cond trees))) (λ conds. Ok (And conds)) cond e in
      fits_same schema levels (And inner.0) cond inner.2 (fits_and schema (level_tables levels) inner.0 ∙ parts_fit levels parts inner.0 (sym (shaped_roll (CondTree-F.And trees)) ∙ shaped) inner.1)
  at_cond (CondTree-F.Or parts) levels cond shaped bound =
      let trees = map (λ (e : FitCond). e.0) parts in
      let e = sym (bound_roll (CondTree-F.Or trees) levels) ∙ bound in
      let inner = and_then_ok (all_bound (map (λ part. part levels) (map of_cond trees))) (λ conds. Ok (Or conds)) cond e in
      fits_same schema levels (Or inner.0) cond inner.2 (fits_or schema (level_tables levels) inner.0 ∙ parts_fit levels parts inner.0 (sym (shaped_roll (CondTree-F.Or trees)) ∙ shaped) inner.1)
  at_cond (CondTree-F.Not part) levels cond shaped bound =
      let e = sym (bound_roll (CondTree-F.Not part.0) levels) ∙ bound in
      let inner = and_then_ok (of_cond part.0 levels) (λ c. Ok (Not c)) cond e in
      fits_same schema levels (Not inner.0) cond inner.2 (fits_not schema (level_tables levels) inner.0 ∙ part.1 levels inner.0 (sym (shaped_roll (CondTree-F.Not part.0)) ∙ shaped) inner.1)
  at_cond (CondTree-F.Compare op left right span) levels cond shaped bound =
      let e = sym (bound_roll (CondTree-F.Compare op left right span) levels) ∙ bound in
      let a = and_then_ok (bind_term schema levels left) (λ a. and_then (bind_term schema levels right) (λ b. matching (compares schema levels op a b) span (Compare op a b span))) cond e in
      let b = and_then_ok (bind_term schema levels right) (λ b. matching (compares schema levels op a.0 b) span (Compare op a.0 b span)) cond a.2 in
      matched schema levels (compares schema levels op a.0 b.0) span (Compare op a.0 b.0 span) cond b.2 (λ goes. fits_compare schema (level_tables levels) op a.0 b.0 span ∙ goes)
  at_cond (CondTree-F.Scalar op left select span) levels cond shaped bound =
      let x = CondTree-F.Scalar op left select.0 span in
      beside_fits levels op left select span (λ a s item. Scalar op a s.block item span) cond (sym (shaped_roll x) ∙ shaped)
      (λ a s item. fits_scalar schema (level_tables levels) op a s.block item span) (sym (bound_roll x levels) ∙ bound)
  at_cond (CondTree-F.IsNull term negated span) levels cond shaped bound =
      let e = sym (bound_roll (CondTree-F.IsNull term negated span) levels) ∙ bound in
      let a = and_then_ok (bind_term schema levels term) (λ a. matching (term_fits schema (level_tables levels) a) span (IsNull a negated span)) cond e in
      matched schema levels (term_fits schema (level_tables levels) a.0) span (IsNull a.0 negated span) cond a.2 (λ goes. fits_is_null schema (level_tables levels) a.0 negated span ∙ goes)
  at_cond (CondTree-F.Between term low high negated span) levels cond shaped bound =
      let first : Span = record { from = (tree_span term).from; to = (tree_span low).to } in
      let last = λ (a b c : Term). matching (compares schema levels Ge a b && compares schema levels Le a c) span (between negated a b c first (tree_span high)) in
      let e = sym (bound_roll (CondTree-F.Between term low high negated span) levels) ∙ bound in
      let a = and_then_ok (bind_term schema levels term) (λ a. and_then (bind_term schema levels low) (λ b. and_then (bind_term schema levels high) (last a b))) cond e in
      let b = and_then_ok (bind_term schema levels low) (λ b. and_then (bind_term schema levels high) (last a.0 b)) cond a.2 in
      let c = and_then_ok (bind_term schema levels high) (last a.0 b.0) cond b.2 in
      matched schema levels (compares schema levels Ge a.0 b.0 && compares schema levels Le a.0 c.0) span (between negated a.0 b.0 c.0 first (tree_span high)) cond c.2
      (between_fits schema levels negated a.0 b.0 c.0 first (tree_span high))
  at_cond (CondTree-F.InList term values negated span) levels cond shaped bound =
      let all = λ (a : Term) (vs : List Value). list_all (λ (v : Value). compares schema levels Eq a v.term) vs in
      let last = λ (a : Term) (vs : List Value). matching (term_fits schema (level_tables levels) a && all a vs) span (in_list negated a vs) in
      let e = sym (bound_roll (CondTree-F.InList term values negated span) levels) ∙ bound in
      let a = and_then_ok (bind_term schema levels term) (λ a. and_then (bind_values schema levels values) (last a)) cond e in
      let vs = and_then_ok (bind_values schema levels values) (last a.0) cond a.2 in
      matched schema levels (term_fits schema (level_tables levels) a.0 && all a.0 vs.0) span (in_list negated a.0 vs.0) cond vs.2
      (λ goes. in_list_fits schema levels negated a.0 vs.0 (and_parts (term_fits schema (level_tables levels) a.0) (all a.0 vs.0) goes).1)
  at_cond (CondTree-F.InSelect term select negated span) levels cond shaped bound =
      let x = CondTree-F.InSelect term select.0 negated span in
      beside_fits levels Eq term select span (λ a s item. In a s.block item negated span) cond (sym (shaped_roll x) ∙ shaped)
      (λ a s item. fits_in schema (level_tables levels) a s.block item negated span) (sym (bound_roll x levels) ∙ bound)
  at_cond (CondTree-F.Exists select span) levels cond shaped bound =
      let e = sym (bound_roll (CondTree-F.Exists select.0 span) levels) ∙ bound in
      let s = and_then_ok (of_select select.0 levels) (λ s. Ok (Exists s.block span)) cond e in
      let good = select.1 levels s.0 (sym (shaped_roll (CondTree-F.Exists select.0 span)) ∙ shaped) s.1 in
      fits_same schema levels (Exists s.0.block span) cond s.2 (fits_exists schema (level_tables levels) s.0.block span ∙ good.fits)

  on_part : (y : EntryTree-F FitCond FitEntry FitSelect) → (entry_part y).on ≡ option_map (λ (e : FitCond). e.0) y.on
  on_part y = at_on y.on
    where
      at_on : (o : Option FitCond) → (entry_part (record { table = y.table; alias = y.alias; on = o; first = y.first })).on ≡ option_map (λ (e : FitCond). e.0) o
      at_on None = refl
      at_on (Some e) = refl

  filter_part : (y : SelectTree-F FitCond FitEntry FitSelect) → (select_part y).filter ≡ option_map (λ (e : FitCond). e.0) y.filter
  filter_part y = at_filter y.filter
    where
      at_filter : (o : Option FitCond) → (select_part (record { distinct = y.distinct; items = y.items; from = y.from; filter = o; span = y.span })).filter ≡ option_map (λ (e : FitCond). e.0) o
      at_filter None = refl
      at_filter (Some e) = refl

  -- a condition that may be left out
  optional_part : (o : Option FitCond) (tree : CondTree) → option_map (λ (e : FitCond). e.0) o ≡ Some tree → CondFits tree
  optional_part None tree e = absurd (cc)
  optional_part (Some e) tree f = subst CondFits (same_Some e.0 tree f) e.1

  at_entry : (y : EntryTree-F FitCond FitEntry FitSelect) → EntryFits (entry_rolled (entry_part y))
  at_entry y tree e = optional_part y.on tree (sym (on_part y) ∙ e)

  -- the conditions of an entry and of a WHERE, where there are any
  on_bound : (t : EntryTree) → (of_entry t).on ≡ option_map of_cond t.on
  on_bound t = ap (λ (m : EntryMeaning). m.on) (fold_out-EntryTree CondMeaning EntryMeaning SelectMeaning (cond_step schema) (entry_step schema) (select_step schema) t) ∙ at_on t.on
    where
      at_on : (o : Option CondTree) → (map-EntryTree CondTree EntryTree SelectTree CondMeaning EntryMeaning SelectMeaning of_cond of_entry of_select (record { table = t.table; alias = t.alias; on = o; first = t.first })).on ≡ option_map of_cond o
      at_on None = refl
      at_on (Some tree) = refl

  on_shaped : (t : EntryTree) → (entry_shape t).on ≡ unwrap_or (option_map cond_shaped t.on) true
  on_shaped t = ap (λ (m : EntryShape). m.on) (fold_out-EntryTree Bool EntryShape Bool shape.cond_step shape.entry_step shape.select_step t) ∙ at_on t.on
    where
      at_on : (o : Option CondTree) → unwrap_or (map-EntryTree CondTree EntryTree SelectTree Bool EntryShape Bool cond_shaped entry_shape select_shaped (record { table = t.table; alias = t.alias; on = o; first = t.first })).on true
          ≡ unwrap_or (option_map cond_shaped o) true
      at_on None = refl
      at_on (Some tree) = refl

  filter_bound : (x : SelectTree-F CondTree EntryTree SelectTree) →
      (map-SelectTree CondTree EntryTree SelectTree CondMeaning EntryMeaning SelectMeaning of_cond of_entry of_select x).filter ≡ option_map of_cond x.filter
  filter_bound x = at_filter x.filter
    where
      at_filter : (o : Option CondTree) → (map-SelectTree CondTree EntryTree SelectTree CondMeaning EntryMeaning SelectMeaning of_cond of_entry of_select
          (record { distinct = x.distinct; items = x.items; from = x.from; filter = o; span = x.span })).filter ≡ option_map of_cond o
      at_filter None = refl
      at_filter (Some tree) = refl

  filter_shaped : (x : SelectTree-F CondTree EntryTree SelectTree) →
      (map-SelectTree CondTree EntryTree SelectTree Bool EntryShape Bool cond_shaped entry_shape select_shaped x).filter ≡ option_map cond_shaped x.filter
  filter_shaped x = at_filter x.filter
    where
      at_filter : (o : Option CondTree) → (map-SelectTree CondTree EntryTree SelectTree Bool EntryShape Bool cond_shaped entry_shape select_shaped
          (record { distinct = x.distinct; items = x.items; from = x.from; filter = o; span = x.span })).filter ≡ option_map cond_shaped o
      at_filter None = refl
      at_filter (Some tree) = refl

  module _ (entries : List Entry) (outer : List Level) where
    abbrev AllFit : List Cond → Type 0
    AllFit conds = list_all (cond_fits schema (level_tables (own_levels schema entries outer))) conds ≡ true

    -- at a level that has all entries, whichever of them it sees
    optional_fits : (level : Level) → level.entries ≡ entries → (o : Option CondTree) → ((tree : CondTree) → o ≡ Some tree → CondFits tree) → (conds : List Cond) →
        unwrap_or (option_map cond_shaped o) true ≡ true → bind_optional schema entries outer (level ∷ outer) (option_map of_cond o) ≡ Ok conds → AllFit conds
    optional_fits level all None each conds shaped is = subst AllFit (same_ok [] conds is) refl
    optional_fits level all (Some tree) each conds shaped is =
        let cond = and_then_ok (of_cond tree (level ∷ outer)) (λ cond. Ok (cond ∷ [])) conds is in
        let fits : FitsAt schema (level ∷ outer) cond.0 = each tree refl (level ∷ outer) cond.0 shaped cond.1 in
        let own : cond_fits schema (level_tables (own_levels schema entries outer)) cond.0 ≡ true =
        ap (λ es. cond_fits schema (level_tables (whole_level es ∷ outer)) cond.0) (sym all) ∙ fits in
        subst AllFit (same_ok (cond.0 ∷ []) conds cond.2) (and_from _ true own refl)

    ons_fit : (number : ℕ) (parts : List FitEntry) (conds : List Cond) → entries_shaped number (map entry_shape (map (λ e. e.0) parts)) ≡ true →
        bind_ons schema entries outer number (map of_entry (map (λ e. e.0) parts)) ≡ Ok conds → AllFit conds
    unfolding bind_ons
    ons_fit number [] conds shaped is = subst AllFit (same_ok [] conds is) refl
    ons_fit number (part ∷ parts) conds shaped is =
        let later = map of_entry (map (λ (e : FitEntry). e.0) parts) in
        let shapes = and_parts _ (entries_shaped (suc number) (map entry_shape (map (λ e. e.0) parts))) shaped in
        let own_shape = and_parts (nat_le (entry_shape part.0).first number) (entry_shape part.0).on shapes.0 in
        let level : Level = record { entries = entries; first = (of_entry part.0).first; end = suc number } in
        let first = and_then_ok (bind_on schema entries outer number (of_entry part.0)) (λ cond. and_then (bind_ons schema entries outer (suc number) later) (λ conds. Ok (cond ++ conds))) conds is in
        let rest = and_then_ok (bind_ons schema entries outer (suc number) later) (λ conds. Ok (first.0 ++ conds)) conds first.2 in
        let here : AllFit first.0 = optional_fits level refl part.0.on part.1 first.0 (sym (on_shaped part.0) ∙ own_shape.1)
        (ap (bind_optional schema entries outer (level ∷ outer)) (sym (on_bound part.0)) ∙ first.1) in
        subst AllFit (same_ok (first.0 ++ rest.0) conds rest.2)
        (all_append (cond_fits schema (level_tables (own_levels schema entries outer))) first.0 rest.0 here (ons_fit (suc number) parts rest.0 shapes.1 rest.1))

    -- the block of these entries, with a condition that fits
    block_of : (cond : Cond) (span : Span) → nat_le (length entries) 16 ≡ true → list_all (is_there schema) entries ≡ true → FitsAt schema (own_levels schema entries outer) cond →
        block_fits schema (level_tables outer) (roll-Block (record { entries = entries; cond = cond; span = span })) ≡ true
    block_of cond span few there fits =
        block_is schema (level_tables outer) (roll-Block (record { entries = entries; cond = cond; span = span }))
        ∙ and_from _ _ (and_from _ _ few there) (ap (λ tables. cond_fits schema tables cond) (sym (inner_level (whole_level entries) outer)) ∙ fits)

  -- the steps of a SELECT
  abbrev filter_of : SelectTree-F FitCond FitEntry FitSelect → Option CondMeaning
  filter_of y = (map-SelectTree CondTree EntryTree SelectTree CondMeaning EntryMeaning SelectMeaning of_cond of_entry of_select (select_part y)).filter

  abbrev from_of : SelectTree-F FitCond FitEntry FitSelect → List EntryMeaning
  from_of y = map of_entry (map (λ (e : FitEntry). e.0) y.from)

  module _ (y : SelectTree-F FitCond FitEntry FitSelect) (outer : List Level) (entries : List Entry) where
    abbrev made : List Selected → List Cond → List Cond → BoundSelect
    made selected ons filters = record { selected = selected; block = roll-Block (record { entries = entries; cond = conjunction (ons ++ filters); span = y.span }) }

    abbrev with_ons : List Selected → List Cond → Bound BoundSelect
    with_ons selected ons = and_then (bind_filter schema entries outer (filter_of y)) (λ filters. Ok (made selected ons filters))

    abbrev with_items : List Selected → Bound BoundSelect
    with_items selected = and_then (bind_ons schema entries outer 0 (from_of y)) (with_ons selected)

    abbrev with_entries : Bound BoundSelect
    with_entries = and_then (bind_items schema entries outer 0 y.items) with_items

    made_fits : (selected : List Selected) (ons filters : List Cond) (select : BoundSelect) → (nat_le (length entries) 16 ≡ true) × (list_all (is_there schema) entries ≡ true) →
        Part schema entries outer 0 selected → AllFit entries outer ons → AllFit entries outer filters → ◌≡◌ {A = Bound BoundSelect} (Ok (made selected ons filters)) (Ok select) → Fitting schema outer select
    made_fits selected ons filters select there items on_fits filter_fits is =
        let all = all_append (cond_fits schema (level_tables (own_levels schema entries outer))) ons filters on_fits filter_fits in
        let cond_fit : FitsAt schema (own_levels schema entries outer) (conjunction (ons ++ filters)) = conjunction_fits schema (own_levels schema entries outer) (ons ++ filters) all in
        subst (Fitting schema outer) (same_ok (made selected ons filters) select is)
        (record { fits = block_of entries outer (conjunction (ons ++ filters)) y.span there.0 there.1 cond_fit; items = items })

  filter_each : (y : SelectTree-F FitCond FitEntry FitSelect) (tree : CondTree) → (select_part y).filter ≡ Some tree → CondFits tree
  filter_each y tree e = optional_part y.filter tree (sym (filter_part y) ∙ e)

  -- the condition of WHERE, where there is one
  where_fits : (y : SelectTree-F FitCond FitEntry FitSelect) (outer : List Level) (entries : List Entry) (filters : List Cond) →
      unwrap_or (map-SelectTree CondTree EntryTree SelectTree Bool EntryShape Bool cond_shaped entry_shape select_shaped (select_part y)).filter true ≡ true →
      bind_filter schema entries outer (filter_of y) ≡ Ok filters → AllFit entries outer filters
  where_fits y outer entries filters shaped is =
      let x = select_part y in
      optional_fits entries outer (whole_level entries) refl x.filter (filter_each y) filters (ap (λ o. unwrap_or o true) (sym (filter_shaped x)) ∙ shaped)
      (ap (bind_optional schema entries outer (own_levels schema entries outer)) (sym (filter_bound x)) ∙ is)

  at_select : (y : SelectTree-F FitCond FitEntry FitSelect) → SelectFits (roll-SelectTree (select_part y))
  at_select y outer select shaped bound =
      let x = select_part y in
      let from = from_of y in
      let e = sym (select_bound_roll x outer) ∙ bound in
      let shapes = and_parts (list_all item_shaped y.items && entries_shaped 0 (map entry_shape (map (λ (e : FitEntry). e.0) y.from))) _ (sym (select_shaped_roll x) ∙ shaped) in
      let row_shapes = and_parts (list_all item_shaped y.items) (entries_shaped 0 (map entry_shape (map (λ (e : FitEntry). e.0) y.from))) shapes.0 in
      let entries = and_then_ok (bind_entries schema [] from) (λ entries. with_entries y outer entries) select e in
      let selected = and_then_ok (bind_items schema entries.0 outer 0 y.items) (with_items y outer entries.0) select entries.2 in
      let ons = and_then_ok (bind_ons schema entries.0 outer 0 from) (with_ons y outer entries.0 selected.0) select selected.2 in
      let filters = and_then_ok (bind_filter schema entries.0 outer (filter_of y)) (λ filters. Ok (made y outer entries.0 selected.0 ons.0 filters)) select ons.2 in
      made_fits y outer entries.0 selected.0 ons.0 filters.0 select
      (entries_there schema [] from entries.0 refl refl entries.1)
      (items_fit schema entries.0 outer 0 y.items selected.0 (omega arith) row_shapes.0 selected.1)
      (ons_fit entries.0 outer 0 y.from ons.0 row_shapes.1 ons.1)
      (where_fits y outer entries.0 filters.0 shapes.1 filters.1)
      filters.2

  pub select_fits : (tree : SelectTree) → SelectFits tree
  select_fits = ind-SelectTree CondFits EntryFits SelectFits (λ x y is. subst (λ z. CondFits (roll-CondTree z)) is (at_cond y)) (λ x y is. subst (λ z. EntryFits (entry_rolled z)) is (at_entry y)) (λ x y is. subst (λ z. SelectFits (roll-SelectTree z)) is (at_select y))

  pub cond_bound_fits : (tree : CondTree) → CondFits tree
  cond_bound_fits = ind-CondTree CondFits EntryFits SelectFits (λ x y is. subst (λ z. CondFits (roll-CondTree z)) is (at_cond y)) (λ x y is. subst (λ z. EntryFits (entry_rolled z)) is (at_entry y)) (λ x y is. subst (λ z. SelectFits (roll-SelectTree z)) is (at_select y))

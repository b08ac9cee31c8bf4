-- Points that have the form of an asked question are those that some leading rows make.
use Rattle.std.proofs.Common.{◌≡◌, ◌∙◌, ◌<◌, refl, sym, ap, ap₂, subst, ℕ, true, ◌&&◌, not, List, [], ◌∷◌, ◌++◌, length, nat_lt, take, drop, arith}
use Rattle.std.proofs.Math.Seq.{drop-append_seam}
use Rattle.std.proofs.lemmas.List.{append-nil, length-map, take_all}
use Rattle.std.specs.List.{list_any}
use Rattle.std.specs.Option.{option_map_or}
use Rattle.std.specs.Prelude.{Option, Some, None, slice_get, unwrap_or, insert, remove}
use Rattle.lint_base.proofs.Lists.{both_left, both_right, below_true}
use Rattle.lint_core.specs.declared.condition.Entry.{Entry}
use Rattle.lint_core.specs.declared.database.Binding.{Binding}
use Rattle.lint_core.specs.declared.database.Database.{Database}
use Rattle.lint_core.specs.declared.database.Points.{Points}
use Rattle.lint_core.specs.declared.database.Points.TheVariants.{One, Two, Without}
use Rattle.lint_core.specs.declared.database.Value.{Value}
use Rattle.lint_core.specs.declared.query.Query.{Query}
use Rattle.lint_core.specs.declared.query.Question.{Question}
use Rattle.lint_core.specs.declared.query.Question.TheVariants.{OneRow, Empty, NeedlessDistinct, Constant, Duplicate, NeedlessJoin, Implied, Impossible, SameRow, NullInNotIn}
use Rattle.lint_core.specs.declared.schema.Table.{Table}
use Rattle.lint_core.specs.Asked.{main_entries, scalars_of, not_ins_of, conjuncts_without, is_asked, is_selected}
use Rattle.lint_core.specs.Database.{rows_of}
use Rattle.lint_core.specs.Fits.{tables_of}
use Rattle.lint_core.specs.Forms.{have_form, is_main_binding, is_inner_binding}
use Rattle.lint_core.specs.Naming.{has_scalar}
use Rattle.lint_core.specs.Points.{are_rows, is_binding, is_same_binding, main_rows, differ_in_last_level, differ_in_entry}
use Rattle.lint_core.specs.Question.{table_of}
use Rattle.lint_core.specs.Subqueries.{Subquery}
use Rattle.sort_formula.specs.CounterPoints.{are_there, binding_of, main_binding, points_of, second_binding}
use Rattle.sort_formula.specs.Counters.{counter, last_level, no_counter, selects_null, two_rows}
use Rattle.sort_formula.specs.Sides.{all_of}
use Rattle.formula_laws.proofs.InLevels.{levelled}
use Rattle.formula_laws.proofs.LeadRows.{as_many}
use Rattle.truth_laws.proofs.Fitting.{both_are}
use Rattle.truth_laws.proofs.Shapes.{binding_shape}
use Rattle.counter_laws.proofs.Back.{levels_before, outer_before, last_alone, rows_join, flat_rows, last_rows, one_level_of, others_are, entry_is, put_back, table_is, others_same}
use Rattle.counter_laws.proofs.Leading.{one_there}

abbrev with_levels : List (List ℕ) → Binding
with_levels levels = record { levels = levels }

module _ (schema : List Table) (query : Query) where
  -- the entry of a needless join is there
  pub entry_low : (entry : ℕ) → is_asked schema query (NeedlessJoin entry) ≡ true → entry < length (tables_of (main_entries query))
  entry_low entry asked =
      let many = nat_lt 1 (length (main_entries query)) in
      let there = nat_lt entry (length (main_entries query)) in
      let unselected = not (is_selected query entry) in
      let plain = not (list_any has_scalar (conjuncts_without entry query)) in
      let low : entry < length (main_entries query) =
      below_true entry (length (main_entries query)) (both_right many there (both_left (many && there) unselected (both_left (many && there && unselected) plain asked))) in
      subst (λ n. entry < n) (sym (length-map (main_entries query) (λ (e : Entry). e.table))) low

module _ (schema : List Table) (db : Database) (query : Query) (given : Value) where
  abbrev own : List ℕ
  own = tables_of (main_entries query)

  abbrev Leading : Question → Points → Type 0
  Leading question points =
      (places : List ℕ) × (fitting : Option (ℕ × ℕ)) × (are_rows db (counter schema query question given).lead places ≡ true)
      × (are_there query db question fitting ≡ true) × (points_of query question places fitting ≡ points)

  -- a binding of one level
  one_back : (tables : List ℕ) (one : Binding) → is_binding db (tables ∷ []) one.levels ≡ true →
      (are_rows db tables (all_of one.levels) ≡ true) × (binding_of (tables ∷ []) (all_of one.levels) ≡ one)
  one_back tables one is = (
    ap (λ ts. are_rows db ts (all_of one.levels)) (sym (append-nil tables)) ∙ flat_rows db (tables ∷ []) one.levels is,
    ap with_levels (levelled (tables ∷ []) one.levels (binding_shape db (tables ∷ []) one.levels is)),
  )

  two_back : (tables : List (List ℕ)) (one two : Binding) → (is_binding db tables one.levels && is_binding db tables two.levels && differ_in_last_level one.levels two.levels) ≡ true →
      (are_rows db (all_of tables ++ last_level tables) (all_of one.levels ++ last_level two.levels) ≡ true)
      × (binding_of tables (all_of one.levels ++ last_level two.levels) ≡ one)
      × (second_binding tables (all_of one.levels ++ last_level two.levels) ≡ two)
  two_back tables one two form =
      let first = is_binding db tables one.levels in
      let second = is_binding db tables two.levels in
      let differ = differ_in_last_level one.levels two.levels in
      let both = both_left (first && second) differ form in
      let is = both_left first second both in
      let also = both_right first second both in
      let here = flat_rows db tables one.levels is in
      let last = last_rows db tables two.levels also in
      let shape = binding_shape db tables one.levels is in
      let behind = last_level two.levels in
      let places = all_of one.levels ++ behind in
      let own_last : take (length (last_level tables)) (drop (length (all_of tables)) places) ≡ behind =
      ap (λ n. take (length (last_level tables)) (drop n places)) (sym (as_many db (all_of tables) (all_of one.levels) here))
      ∙ (ap (take (length (last_level tables))) (drop-append_seam (all_of one.levels) behind)
      ∙ take_all (length (last_level tables)) behind (omega (arith, as_many db (last_level tables) behind last))) in (
        rows_join db (all_of tables) (last_level tables) (all_of one.levels) behind here last,
        ap with_levels (levels_before tables one.levels behind shape),
        ap with_levels
            (ap₂ (λ (outer : List (List ℕ)) (level : List ℕ). outer ++ level ∷ []) (outer_before tables one.levels behind shape) own_last
            ∙ sym (last_alone one.levels two.levels (both_right (first && second) differ form))),
      )

  scalar_back : (sub : ℕ) (one two : Binding) → have_form db query (OneRow sub) (Two one two) ≡ true → Leading (OneRow sub) (Two one two)
  scalar_back sub one two form =
      let found = one_there (λ (s : Subquery). is_inner_binding db query one s && is_inner_binding db query two s && differ_in_last_level one.levels two.levels) (slice_get (scalars_of query) sub) form in
      let s = found.0 in
      let back = two_back s.tables one two found.2 in
      let places = all_of one.levels ++ last_level two.levels in (
        places,
        None,
        ap (λ o. are_rows db (option_map_or (two_rows schema) o no_counter).lead places) found.1 ∙ back.0,
        refl,
        ap (λ o. option_map_or (λ (s : Subquery). Two (binding_of s.tables places) (second_binding s.tables places)) o (One (binding_of [] places))) found.1 ∙ ap₂ Two back.1 back.2,
      )

  not_in_back : (sub : ℕ) (one : Binding) → have_form db query (NullInNotIn sub) (One one) ≡ true → Leading (NullInNotIn sub) (One one)
  not_in_back sub one form =
      let found = one_there (is_inner_binding db query one) (slice_get (not_ins_of query) sub) form in
      let s = found.0 in
      let places = all_of one.levels in (
        places,
        None,
        ap (λ o. are_rows db (option_map_or (selects_null schema) o no_counter).lead places) found.1 ∙ flat_rows db s.tables one.levels found.2,
        refl,
        ap (λ o. option_map_or (λ (s : Subquery). One (binding_of s.tables places)) o (One (binding_of [] places))) found.1
            ∙ ap (λ levels. One (with_levels levels)) (levelled s.tables one.levels (binding_shape db s.tables one.levels found.2)),
      )

  distinct_back : (one two : Binding) → have_form db query NeedlessDistinct (Two one two) ≡ true → Leading NeedlessDistinct (Two one two)
  distinct_back one two form =
      let first = is_main_binding db query one in
      let second = is_main_binding db query two in
      let both = both_left (first && second) (not (is_same_binding one.levels two.levels)) form in
      let here = one_back own one (both_left first second both) in
      let there = one_back own two (both_right first second both) in
      let places = all_of one.levels ++ all_of two.levels in
      let behind : drop (length own) places ≡ all_of two.levels =
      ap (λ n. drop n places) (sym (as_many db own (all_of one.levels) here.0)) ∙ drop-append_seam (all_of one.levels) (all_of two.levels) in (
        places,
        None,
        rows_join db own own (all_of one.levels) (all_of two.levels) here.0 there.0,
        refl,
        ap₂ Two (ap with_levels (levels_before (own ∷ []) one.levels (all_of two.levels) (binding_shape db (own ∷ []) one.levels (both_left first second both))))
            (ap (main_binding query) behind ∙ there.1),
      )

  main_back : (one : Binding) → is_main_binding db query one ≡ true → (are_rows db own (all_of one.levels) ≡ true) × (One (main_binding query (all_of one.levels)) ≡ One one)
  main_back one form = let back = one_back own one form in (back.0, ap One back.1)

  join_back : (entry : ℕ) → entry < length own → (one two : Binding) → have_form db query (NeedlessJoin entry) (Two one two) ≡ true → Leading (NeedlessJoin entry) (Two one two)
  join_back entry low one two form =
      let first = is_main_binding db query one in
      let second = is_main_binding db query two in
      let differ = differ_in_entry entry one.levels two.levels in
      let both = both_left (first && second) differ form in
      let here = one_level_of db own one.levels (both_left first second both) in
      let there = one_level_of db own two.levels (both_right first second both) in
      let rows = main_rows one.levels in
      let others = main_rows two.levels in
      let row = unwrap_or (slice_get rows entry) 0 in
      let other = unwrap_or (slice_get others entry) 0 in
      let table = table_is (main_entries query) entry in
      let same = others_same entry one.levels two.levels (both_right (first && second) differ form) in
      let low_row : nat_lt row (length (rows_of db (table_of db query entry))) ≡ true = ap (λ t. nat_lt row (length (rows_of db t))) table ∙ entry_is db own rows entry low here.1 in
      let low_other : nat_lt other (length (rows_of db (table_of db query entry))) ≡ true = ap (λ t. nat_lt other (length (rows_of db t))) table ∙ entry_is db own others entry low there.1 in (
        remove rows entry,
        Some (row, other),
        others_are db own rows entry here.1,
        both_are (nat_lt row (length (rows_of db (table_of db query entry)))) (nat_lt other (length (rows_of db (table_of db query entry)))) low_row low_other,
        ap₂ (λ levels more. Two (with_levels levels) (with_levels more))
            (ap (λ (ps : List ℕ). ps ∷ []) (put_back rows entry (omega (arith, low, as_many db own rows here.1))) ∙ sym here.0)
            (ap (λ (ps : List ℕ). insert ps entry other ∷ []) same ∙ (ap (λ (ps : List ℕ). ps ∷ []) (put_back others entry (omega (arith, low, as_many db own others there.1))) ∙ sym there.0)),
      )

  pub back : (question : Question) → is_asked schema query question ≡ true → (points : Points) → have_form db query question points ≡ true →
      (places : List ℕ) × (fitting : Option (ℕ × ℕ)) × (are_rows db (counter schema query question given).lead places ≡ true)
      × (are_there query db question fitting ≡ true) × (points_of query question places fitting ≡ points)
  back (OneRow sub) asked (Two one two) form = scalar_back sub one two form
  back Empty asked (One one) form = let m = main_back one form in (all_of one.levels, None, m.0, refl, m.1)
  back NeedlessDistinct asked (Two one two) form = distinct_back one two form
  back (Constant item) asked (One one) form = let m = main_back one form in (all_of one.levels, None, m.0, refl, m.1)
  back (Duplicate item other) asked (One one) form = let m = main_back one form in (all_of one.levels, None, m.0, refl, m.1)
  back (NeedlessJoin entry) asked (Without one) form = let m = one_back (remove own entry) one form in (all_of one.levels, None, m.0, refl, ap Without m.1)
  back (NeedlessJoin entry) asked (Two one two) form = join_back entry (entry_low schema query entry asked) one two form
  back (Implied predicate) asked (One one) form = let m = main_back one form in (all_of one.levels, None, m.0, refl, m.1)
  back (Impossible predicate) asked (One one) form = let m = main_back one form in (all_of one.levels, None, m.0, refl, m.1)
  back (SameRow entry other) asked (One one) form = let m = main_back one form in (all_of one.levels, None, m.0, refl, m.1)
  back (NullInNotIn sub) asked (One one) form = not_in_back sub one form
  back question asked points form = cc

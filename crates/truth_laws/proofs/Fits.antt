-- The formulas of a condition that fits the schema fit it too.
use Rattle.std.proofs.Common.{◌≡◌, ◌∙◌, sym, ap, refl, subst, ℕ, zero, suc, Bool, true, false, ◌&&◌, ◌||◌, nat_eq, List, [], ◌∷◌, ◌++◌, length, map, arith}
use Rattle.std.proofs.lemmas.Bool.{or_left, or_right}
use Rattle.std.proofs.lemmas.Bool.Decides.{nat_tests}
use Rattle.std.proofs.lemmas.List.Folds.{list_all-map}
use Rattle.std.specs.List.{list_all, list_any}
use Rattle.std.specs.Prelude.{Option, Some, None, nat_lt, nat_le, is_some}
use Rattle.lint_tables.specs.declared.op.Op.{Op}
use Rattle.lint_tables.specs.declared.op.Op.TheVariants.{Eq}
use Rattle.lint_core.specs.declared.condition.Entry.{Entry}
use Rattle.lint_core.specs.declared.condition.Term.{Term}
use Rattle.lint_core.specs.declared.condition.Term.TheVariants as term
use Rattle.lint_core.specs.declared.condition.Block.{Block, roll-Block, fold-Block, fold-roll-Block, map-Block}
use Rattle.lint_core.specs.declared.condition.Cond.{Cond, ind-Cond, roll-Cond, fold-Cond, fold-roll-Cond, map-Cond}
use Rattle.lint_core.specs.declared.condition.Cond.TheOpen.{Cond-F, Block-F}
use Rattle.lint_core.specs.declared.schema.Kind.{Kind}
use Rattle.lint_core.specs.declared.schema.Table.{Table}
use Rattle.lint_core.specs.Fits.{tables_of, at_entry, cell_kind, term_kind, term_fits, is_plain}
use Rattle.lint_core.specs.Fits as fitting
use Rattle.lint_core.specs.Kind.{compares_both}
use Rattle.lint_core.specs.Naming.{names, names_step, term_names}
use Rattle.sort_formula.specs.declared.formula.Formula.{Formula}
use Rattle.sort_formula.specs.declared.formula.Formula.TheVariants as f
use Rattle.sort_formula.specs.Negated.{negated}
use Rattle.sort_formula.specs.Sentences.{formula_fits}
use Rattle.lint_core.specs.declared.scope.Scope.{Scope}
use Rattle.sort_formula.specs.Sides.{compare_formula, compare_false_formula, is_null_formula, not_null_formula}
use Rattle.sort_formula.specs.Translation as translating
use Rattle.sort_formula.specs.Translation.{Both, swapped_if, inside, translation, translation_step}
use Rattle.sort_formula.proofs.Fitting.{fits_and, fits_or}
use Rattle.lint_base.proofs.Lists.{both_left, both_right}
use Rattle.truth_laws.proofs.Fitting.{both_are, IsOutside, compare_fits, compare_false_fits, null_fits, exist_fit, for_all_fit, negation_fits, nothing_fits, everything_fits, one_and, one_or}
use Rattle.truth_laws.proofs.Outside.{AreOutside, fewer, one_inside}

pub same_number : (n : ℕ) → nat_eq n n ≡ true
same_number n = grind (arith, nat_tests)

-- ---- the kind of a term one level inside

entry_stays : (tables : List (List ℕ)) (own : List ℕ) (level entry t : ℕ) → at_entry tables level entry ≡ Some t → at_entry (tables ++ own ∷ []) level entry ≡ Some t
entry_stays [] own level entry t at = cc
entry_stays (x ∷ tables) own zero entry t at = at
entry_stays (x ∷ tables) own (suc level) entry t at = entry_stays tables own level entry t at

pub first_there : (op : Op) (a b : Option Kind) → compares_both op a b ≡ true → is_some a ≡ true
first_there op None b compares = cc
first_there op (Some a) b compares = refl

module _ (schema : List Table) where
  cell_stays : (tables : List (List ℕ)) (own : List ℕ) (level entry column : ℕ) (plus : _) (table : Option ℕ) → at_entry tables level entry ≡ table → is_some (cell_kind schema table column plus) ≡ true →
      cell_kind schema (at_entry (tables ++ own ∷ []) level entry) column plus ≡ cell_kind schema (at_entry tables level entry) column plus
  cell_stays tables own level entry column plus None at there = cc
  cell_stays tables own level entry column plus (Some t) at there =
      ap (λ table. cell_kind schema table column plus) (entry_stays tables own level entry t at ∙ sym at)

  kind_stays : (tables : List (List ℕ)) (own : List ℕ) (t : Term) → is_some (term_kind schema tables t) ≡ true → term_kind schema (tables ++ own ∷ []) t ≡ term_kind schema tables t
  kind_stays tables own (term.Cell level entry column plus) there = cell_stays tables own level entry column plus (at_entry tables level entry) refl there
  kind_stays tables own (term.Number value unit) there = refl
  kind_stays tables own (term.Text text) there = refl
  kind_stays tables own term.Null there = refl

  -- what compares with a selected term compares with it inside
  pub compares_inside : (op : Op) (left item : Term) (tables : List (List ℕ)) (own : List ℕ) →
      compares_both op (term_kind schema tables left) (term_kind schema (tables ++ own ∷ []) item) ≡ true →
      compares_both op (term_kind schema (tables ++ own ∷ []) left) (term_kind schema (tables ++ own ∷ []) item) ≡ true
  compares_inside op left item tables own compares =
      let there = first_there op (term_kind schema tables left) (term_kind schema (tables ++ own ∷ []) item) compares in
      ap (λ k. compares_both op k (term_kind schema (tables ++ own ∷ []) item)) (kind_stays tables own left there) ∙ compares

  -- ---- conditions

  abbrev cond_fit : Cond → fitting.Meaning
  cond_fit = fold-Cond fitting.Meaning fitting.BlockMeaning (fitting.fits_step schema) (fitting.block_step schema)

  abbrev block_fit : Block → fitting.BlockMeaning
  block_fit = fold-Block fitting.Meaning fitting.BlockMeaning (fitting.fits_step schema) (fitting.block_step schema)

  abbrev block_translation : Block → translating.BlockMeaning
  block_translation = fold-Block translating.Meaning translating.BlockMeaning (translation_step schema) (translating.block_step schema)

  abbrev block_names : ℕ → Block → Bool
  block_names entry = fold-Block Bool Bool (names_step entry) (λ block. block.cond)

  abbrev BothFit : Both → List ℕ → Type 0
  BothFit both outside = (formula_fits schema both.true outside ≡ true) × (formula_fits schema both.false outside ≡ true)

  abbrev pub Fit : Cond → Type 0
  Fit cond = (scope : Scope) (outside : List ℕ) → cond_fit cond scope.tables ≡ true → AreOutside scope outside (λ entry. names entry cond) → BothFit (translation schema cond scope) outside

  -- the tables of a block's entries, and its condition inside
  abbrev InnerFits : translating.BlockMeaning → Scope → List ℕ → Type 0
  InnerFits block scope outside =
      (list_all (λ table. nat_lt table (length schema)) block.own ≡ true) × (formula_fits schema (block.cond (inside scope block.own)).true (outside ++ block.own) ≡ true)

  abbrev BlockFits : fitting.BlockMeaning → translating.BlockMeaning → (ℕ → Bool) → Type 0
  BlockFits one two named = (one.own ≡ two.own) × ((scope : Scope) (outside : List ℕ) → one.fits scope.tables ≡ true → AreOutside scope outside named → InnerFits two scope outside)

  abbrev FitBlock : Block → Type 0
  FitBlock block = BlockFits (block_fit block) (block_translation block) (λ entry. block_names entry block)

  abbrev FitCond : Type 0
  FitCond = (cond : Cond) × Fit cond

  abbrev FitBlocks : Type 0
  FitBlocks = (block : Block) × FitBlock block

  abbrev part_of : Cond-F FitCond FitBlocks → Cond-F Cond Block
  part_of = map-Cond FitCond FitBlocks Cond Block (λ e. e.0) (λ e. e.0)

  abbrev block_part_of : Block-F FitCond FitBlocks → Block-F Cond Block
  block_part_of = map-Block FitCond FitBlocks Cond Block (λ e. e.0) (λ e. e.0)

  abbrev layer_fit : Cond-F Cond Block → fitting.Meaning
  layer_fit layer = fitting.fits_step schema (map-Cond Cond Block fitting.Meaning fitting.BlockMeaning cond_fit block_fit layer)

  abbrev layer_translation : Cond-F Cond Block → translating.Meaning
  layer_translation layer = translation_step schema (map-Cond Cond Block translating.Meaning translating.BlockMeaning (translation schema) block_translation layer)

  abbrev layer_names : ℕ → Cond-F Cond Block → Bool
  layer_names entry layer = names_step entry (map-Cond Cond Block Bool Bool (names entry) (block_names entry) layer)

  abbrev conds : List FitCond → List Cond
  conds parts = map (λ (e : FitCond). e.0) parts

  -- ---- parts

  abbrev all_fit : List ℕ → List Formula → Bool
  all_fit outside gs = list_all (λ g. formula_fits schema g outside) gs

  abbrev trues : Scope → List FitCond → List Formula
  trues scope parts = map (λ (part : translating.Meaning). (part scope).true) (map (translation schema) (conds parts))

  abbrev falses : Scope → List FitCond → List Formula
  falses scope parts = map (λ (part : translating.Meaning). (part scope).false) (map (translation schema) (conds parts))

  abbrev any_names : List FitCond → ℕ → Bool
  any_names parts entry = list_any (λ part. part) (map (names entry) (conds parts))

  parts_fit : (parts : List FitCond) (scope : Scope) (outside : List ℕ) → list_all (λ (part : fitting.Meaning). part scope.tables) (map cond_fit (conds parts)) ≡ true →
      AreOutside scope outside (any_names parts) → (all_fit outside (trues scope parts) ≡ true) × (all_fit outside (falses scope parts) ≡ true)
  parts_fit [] scope outside fit are = (refl, refl)
  parts_fit (part ∷ parts) scope outside fit are =
      let first = cond_fit part.0 scope.tables in
      let others = list_all (λ (part : fitting.Meaning). part scope.tables) (map cond_fit (conds parts)) in
      let named = any_names (part ∷ parts) in
      let here = part.1 scope outside (both_left first others fit) (fewer scope outside named (λ entry. names entry part.0) (λ entry is. or_left (names entry part.0) (any_names parts entry) is) are) in
      let rest = parts_fit parts scope outside (both_right first others fit) (fewer scope outside named (any_names parts) (λ entry is. or_right (names entry part.0) (any_names parts entry) is) are) in (
        both_are (formula_fits schema (translation schema part.0 scope).true outside) (all_fit outside (trues scope parts)) here.0 rest.0,
        both_are (formula_fits schema (translation schema part.0 scope).false outside) (all_fit outside (falses scope parts)) here.1 rest.1,
      )

  term_outside : (scope : Scope) (outside : List ℕ) (named : ℕ → Bool) → AreOutside scope outside named → (t : Term) → ((entry : ℕ) → term_names entry t ≡ true → named entry ≡ true) → IsOutside schema outside scope t
  term_outside scope outside named are (term.Cell zero entry column plus) leads = are.main entry (leads entry (same_number entry))
  term_outside scope outside named are (term.Cell (suc level) entry column plus) leads = are.inner level entry
  term_outside scope outside named are (term.Number value unit) leads = tt
  term_outside scope outside named are (term.Text text) leads = tt
  term_outside scope outside named are term.Null leads = tt

  swapped : (b : Bool) (both : Both) (outside : List ℕ) → BothFit both outside → BothFit (swapped_if b both) outside
  swapped true both outside fit = (fit.1, fit.0)
  swapped false both outside fit = fit

  -- ---- subqueries

  -- the comparison with a selected term, inside
  module _ (op : Op) (left item : Term) (block : FitBlocks) (scope : Scope) (outside : List ℕ) (named : ℕ → Bool)
      (fit : fitting.selected_fits schema scope.tables op left (block_fit block.0) item ≡ true) (are : AreOutside scope outside named)
      (left_named : (entry : ℕ) → term_names entry left ≡ true → named entry ≡ true)
      (item_named : (entry : ℕ) → term_names entry item ≡ true → named entry ≡ true)
      (block_named : (entry : ℕ) → block_names entry block.0 ≡ true → named entry ≡ true) where
    abbrev own : List ℕ
    own = (block_translation block.0).own

    abbrev within : Scope
    within = inside scope own

    abbrev tables_fit : List (List ℕ) → Bool
    tables_fit inner = compares_both op (term_kind schema scope.tables left) (term_kind schema inner item)

    abbrev first_two : Bool
    first_two = (block_fit block.0).fits scope.tables && is_plain item

    abbrev compared : Bool
    compared = tables_fit (fitting.inner_tables scope.tables (block_fit block.0))

    selected_inner : InnerFits (block_translation block.0) scope outside
    selected_inner = block.1.1 scope outside (both_left ((block_fit block.0).fits scope.tables) (is_plain item) (both_left first_two compared fit)) (fewer scope outside named (λ entry. block_names entry block.0) block_named are)

    selected_compares : compares_both op (term_kind schema within.tables left) (term_kind schema within.tables item) ≡ true
    selected_compares =
        compares_inside op left item scope.tables own
        (ap (λ own. tables_fit (scope.tables ++ own ∷ [])) (sym block.1.0)
        ∙ both_right first_two compared fit)

    selected_true : formula_fits schema (compare_formula schema within op left item) (outside ++ own) ≡ true
    selected_true =
        let are_inside = one_inside scope outside own named are in
        compare_fits schema (outside ++ own) within op left item
        (term_outside within (outside ++ own) named are_inside left left_named) (term_outside within (outside ++ own) named are_inside item item_named) are_inside.lengths selected_compares

    selected_false : formula_fits schema (compare_false_formula schema within op left item) (outside ++ own) ≡ true
    selected_false =
        let are_inside = one_inside scope outside own named are in
        compare_false_fits schema (outside ++ own) within op left item
        (term_outside within (outside ++ own) named are_inside left left_named) (term_outside within (outside ++ own) named are_inside item item_named) are_inside.lengths selected_compares

    abbrev inner_true : Formula
    inner_true = translating.inner_true schema (block_translation block.0) scope

    scalar_fits : BothFit (translating.scalar_both schema op left (block_translation block.0) item scope) outside
    scalar_fits =
        let yes = compare_formula schema within op left item in
        let no = compare_false_formula schema within op left item in (
          exist_fit schema own outside (f.And (inner_true ∷ yes ∷ [])) selected_inner.0 (one_and schema (outside ++ own) inner_true yes selected_inner.1 selected_true),
          exist_fit schema own outside (f.And (inner_true ∷ no ∷ [])) selected_inner.0 (one_and schema (outside ++ own) inner_true no selected_inner.1 selected_false),
        )

    in_true : formula_fits schema (translating.exist_rows own (f.And (inner_true ∷ compare_formula schema within op left item ∷ []))) outside ≡ true
    in_true = scalar_fits.0

    in_false : formula_fits schema (translating.for_all_rows own (f.Or (negated inner_true ∷ compare_false_formula schema within op left item ∷ []))) outside ≡ true
    in_false =
        let no = compare_false_formula schema within op left item in
        for_all_fit schema own outside (f.Or (negated inner_true ∷ no ∷ [])) selected_inner.0
        (one_or schema (outside ++ own) (negated inner_true) no (negation_fits schema inner_true (outside ++ own) selected_inner.1) selected_false)

  exists_fits : (block : FitBlocks) (scope : Scope) (outside : List ℕ) → (block_fit block.0).fits scope.tables ≡ true → AreOutside scope outside (λ entry. block_names entry block.0) →
      BothFit (translating.exists_both schema (block_translation block.0) scope) outside
  exists_fits block scope outside fit are =
      let own = (block_translation block.0).own in
      let body = translating.inner_true schema (block_translation block.0) scope in
      let inner = block.1.1 scope outside fit are in
      (exist_fit schema own outside body inner.0 inner.1, for_all_fit schema own outside (negated body) inner.0 (negation_fits schema body (outside ++ own) inner.1))

  -- ---- layers

  at_layer : (y : Cond-F FitCond FitBlocks) (scope : Scope) (outside : List ℕ) → layer_fit (part_of y) scope.tables ≡ true → AreOutside scope outside (λ entry. layer_names entry (part_of y)) →
      BothFit (layer_translation (part_of y) scope) outside
  at_layer Cond-F.True scope outside fit are = (everything_fits schema outside, nothing_fits schema outside)
  at_layer Cond-F.False scope outside fit are = (nothing_fits schema outside, everything_fits schema outside)
  at_layer (Cond-F.And parts) scope outside fit are =
      let each = parts_fit parts scope outside fit are in
      (fits_and schema (trues scope parts) outside ∙ each.0, fits_or schema (falses scope parts) outside ∙ each.1)
  at_layer (Cond-F.Or parts) scope outside fit are =
      let each = parts_fit parts scope outside fit are in
      (fits_or schema (trues scope parts) outside ∙ each.0, fits_and schema (falses scope parts) outside ∙ each.1)
  at_layer (Cond-F.Not part) scope outside fit are = let both = part.1 scope outside fit are in (both.1, both.0)
  at_layer (Cond-F.Compare op left right span) scope outside fit are =
      let named = λ (entry : ℕ). term_names entry left || term_names entry right in
      let first = term_outside scope outside named are left (λ entry is. or_left (term_names entry left) (term_names entry right) is) in
      let second = term_outside scope outside named are right (λ entry is. or_right (term_names entry left) (term_names entry right) is) in
      (compare_fits schema outside scope op left right first second are.lengths fit, compare_false_fits schema outside scope op left right first second are.lengths fit)
  at_layer (Cond-F.IsNull t not_so span) scope outside fit are =
      let here = term_outside scope outside (λ entry. term_names entry t) are t (λ entry is. is) in
      swapped not_so (record { true = is_null_formula schema scope t; false = not_null_formula schema scope t }) outside (null_fits schema outside scope t here are.lengths fit)
  at_layer (Cond-F.Exists block span) scope outside fit are = exists_fits block scope outside fit are
  at_layer (Cond-F.In t block item not_so span) scope outside fit are =
      let named = λ (entry : ℕ). term_names entry t || term_names entry item || block_names entry block.0 in
      let left = λ (entry : ℕ) (is : term_names entry t ≡ true). or_left (term_names entry t || term_names entry item) (block_names entry block.0) (or_left (term_names entry t) (term_names entry item) is) in
      let second = λ (entry : ℕ) (is : term_names entry item ≡ true). or_left (term_names entry t || term_names entry item) (block_names entry block.0) (or_right (term_names entry t) (term_names entry item) is) in
      let third = λ (entry : ℕ) (is : block_names entry block.0 ≡ true). or_right (term_names entry t || term_names entry item) (block_names entry block.0) is in
      swapped not_so (translating.in_both schema t (block_translation block.0) item scope) outside
      (in_true Eq t item block scope outside named fit are left second third, in_false Eq t item block scope outside named fit are left second third)
  at_layer (Cond-F.Scalar op t block item span) scope outside fit are =
      let named = λ (entry : ℕ). term_names entry t || term_names entry item || block_names entry block.0 in
      let left = λ (entry : ℕ) (is : term_names entry t ≡ true). or_left (term_names entry t || term_names entry item) (block_names entry block.0) (or_left (term_names entry t) (term_names entry item) is) in
      let second = λ (entry : ℕ) (is : term_names entry item ≡ true). or_left (term_names entry t || term_names entry item) (block_names entry block.0) (or_right (term_names entry t) (term_names entry item) is) in
      let third = λ (entry : ℕ) (is : block_names entry block.0 ≡ true). or_right (term_names entry t || term_names entry item) (block_names entry block.0) is in
      scalar_fits op t item block scope outside named fit are left second third

  cond_rolled : (y : Cond-F FitCond FitBlocks) → Fit (roll-Cond (part_of y))
  cond_rolled y scope outside fit are =
      let translated = fold-roll-Cond translating.Meaning translating.BlockMeaning (translation_step schema) (translating.block_step schema) (part_of y) in
      let fitted = fold-roll-Cond fitting.Meaning fitting.BlockMeaning (fitting.fits_step schema) (fitting.block_step schema) (part_of y) in
      let named = λ (entry : ℕ). fold-roll-Cond Bool Bool (names_step entry) (λ block. block.cond) (part_of y) in
      subst (λ (m : translating.Meaning). BothFit (m scope) outside) (sym translated)
      (at_layer y scope outside (sym (ap (λ (m : fitting.Meaning). m scope.tables) fitted) ∙ fit)
      (fewer scope outside (λ entry. names entry (roll-Cond (part_of y))) (λ entry. layer_names entry (part_of y)) (λ entry is. named entry ∙ is) are))

  block_layer : (y : Block-F FitCond FitBlocks) (named : ℕ → Bool) → ((entry : ℕ) → names entry y.cond.0 ≡ true → named entry ≡ true) →
      BlockFits (fitting.block_step schema (map-Block Cond Block fitting.Meaning fitting.BlockMeaning cond_fit block_fit (block_part_of y)))
      (translating.block_step schema (map-Block Cond Block translating.Meaning translating.BlockMeaning (translation schema) block_translation (block_part_of y))) named
  block_layer y named leads = (
    refl,
    λ scope outside fit are.
        let own = tables_of y.entries in
        let few = nat_le (length y.entries) 16 in
        let there = list_all (λ (e : Entry). nat_lt e.table (length schema)) y.entries in
        let inner = cond_fit y.cond.0 (scope.tables ++ own ∷ []) in
        let front = both_left (few && there) inner fit in
        let within = fewer (inside scope own) (outside ++ own) named (λ entry. names entry y.cond.0) leads (one_inside scope outside own named are) in (
          list_all-map (λ table. nat_lt table (length schema)) (λ (e : Entry). e.table) y.entries ∙ both_right few there front,
          (y.cond.1 (inside scope own) (outside ++ own) (both_right (few && there) inner fit) within).0,
        ),
  )

  block_rolled : (y : Block-F FitCond FitBlocks) → FitBlock (roll-Block (block_part_of y))
  block_rolled y =
      let block = roll-Block (block_part_of y) in
      let translated = fold-roll-Block translating.Meaning translating.BlockMeaning (translation_step schema) (translating.block_step schema) (block_part_of y) in
      let fitted = fold-roll-Block fitting.Meaning fitting.BlockMeaning (fitting.fits_step schema) (fitting.block_step schema) (block_part_of y) in
      let named = λ (entry : ℕ). fold-roll-Block Bool Bool (names_step entry) (λ block. block.cond) (block_part_of y) in
      let layer = block_layer y (λ entry. block_names entry block) (λ entry is. named entry ∙ is) in
      subst (λ (one : fitting.BlockMeaning). BlockFits one (block_translation block) (λ entry. block_names entry block)) (sym fitted)
      (subst (λ (two : translating.BlockMeaning). BlockFits (fitting.block_step schema (map-Block Cond Block fitting.Meaning fitting.BlockMeaning cond_fit block_fit (block_part_of y))) two (λ entry. block_names entry block)) (sym translated) layer)

  pub cond_fits : (cond : Cond) → Fit cond
  cond_fits =
      ind-Cond Fit FitBlock
      (λ x y is. subst (λ z. Fit (roll-Cond z)) is (cond_rolled y))
      (λ x y is. subst (λ z. FitBlock (roll-Block z)) is (block_rolled y))

-- The formulas of a condition that fits hold alike at two standpoints with the same rows for what it names: by
-- induction over conditions and blocks.
use Rattle.std.proofs.Common.{◌≡◌, ◌∙◌, sym, ap, refl, subst, ℕ, Bool, true, false, ◌&&◌, ◌||◌, List, [], ◌∷◌, ◌++◌, length, map}
use Rattle.std.proofs.lemmas.Bool.{or_left, or_right}
use Rattle.std.specs.List.{list_all, list_any, AllByRecursion}
use Rattle.std.specs.Prelude.{nat_lt, nat_le}
use Rattle.lint_tables.specs.declared.op.Op.{Op}
use Rattle.lint_tables.specs.declared.op.Op.TheVariants.{Eq}
use Rattle.lint_tables.specs.Operators.{negation}
use Rattle.lint_core.specs.declared.condition.Entry.{Entry}
use Rattle.lint_core.specs.declared.condition.Term.{Term}
use Rattle.lint_core.specs.declared.condition.Block.{Block, roll-Block, fold-Block, fold-roll-Block, map-Block}
use Rattle.lint_core.specs.declared.condition.Cond.{Cond, ind-Cond, roll-Cond, fold-Cond, fold-roll-Cond, map-Cond}
use Rattle.lint_core.specs.declared.condition.Cond.TheOpen.{Cond-F, Block-F}
use Rattle.lint_core.specs.declared.database.Database.{Database}
use Rattle.lint_core.specs.declared.schema.Table.{Table}
use Rattle.lint_core.specs.Database.{Place}
use Rattle.lint_core.specs.Fits.{tables_of, term_kind, is_plain}
use Rattle.lint_core.specs.Fits as fitting
use Rattle.lint_core.specs.Kind.{compares_both}
use Rattle.sort_formula.specs.declared.formula.Formula.{Formula}
use Rattle.sort_formula.specs.declared.formula.Formula.TheVariants as f
use Rattle.sort_formula.specs.Negated.{negated}
use Rattle.lint_core.specs.declared.scope.Scope.{Scope}
use Rattle.sort_formula.specs.Sides.{compare_formula, is_null_formula, not_null_formula}
use Rattle.sort_formula.specs.Translation as translating
use Rattle.sort_formula.specs.Translation.{Both, swapped_if, inside, translation, translation_step}
use Rattle.lint_base.proofs.Lists.{both_left, both_right}
use Rattle.truth_laws.proofs.Fits.{compares_inside, first_there}
use Rattle.question_laws.specs.Alike.{HaveSameRows}
use Rattle.question_laws.specs.Named.{names_at, names_at_step, term_names_at}
use Rattle.question_laws.proofs.Alike.{Alike, of_negated, of_and, of_or, both_and, both_or, no_and, no_or, of_exist, of_for_all}
use Rattle.question_laws.proofs.Inside.{fewer, same_inside}
use Rattle.question_laws.proofs.Terms.{second_there, same_side, compare_alike, null_alike, not_null_alike}

module _ (schema : List Table) (db : Database) where
  abbrev cond_fit : Cond → fitting.Meaning
  cond_fit = fold-Cond fitting.Meaning fitting.BlockMeaning (fitting.fits_step schema) (fitting.block_step schema)

  abbrev block_fit : Block → fitting.BlockMeaning
  block_fit = fold-Block fitting.Meaning fitting.BlockMeaning (fitting.fits_step schema) (fitting.block_step schema)

  abbrev block_translation : Block → translating.BlockMeaning
  block_translation = fold-Block translating.Meaning translating.BlockMeaning (translation_step schema) (translating.block_step schema)

  abbrev block_names : ℕ → ℕ → Block → Bool
  block_names level entry = fold-Block Bool Bool (names_at_step level entry) (λ block. block.cond)

  abbrev pub BothAlike : Both → Both → List Place → List Place → Type 0
  BothAlike both too rows others = Alike db both.true too.true rows others × Alike db both.false too.false rows others

  abbrev pub ByRows : Cond → Type 0
  ByRows cond =
      (one other : Scope) (rows others : List Place) → cond_fit cond one.tables ≡ true → HaveSameRows one other rows others (λ level entry. names_at level entry cond)
      → BothAlike (translation schema cond one) (translation schema cond other) rows others

  -- the block's condition, with one row more for each of the block's entries
  abbrev InnerAlike : translating.BlockMeaning → Scope → Scope → List Place → List Place → Type 0
  InnerAlike block one other rows others =
      (places : List Place) → length places ≡ length block.own
      → Alike db (block.cond (inside one block.own)).true (block.cond (inside other block.own)).true (rows ++ places) (others ++ places)

  abbrev InnerByRows : fitting.BlockMeaning → translating.BlockMeaning → (ℕ → ℕ → Bool) → Type 0
  InnerByRows fit block named =
      (fit.own ≡ block.own)
      × ((one other : Scope) (rows others : List Place) → fit.fits one.tables ≡ true → HaveSameRows one other rows others named → InnerAlike block one other rows others)

  abbrev BlockByRows : Block → Type 0
  BlockByRows block = InnerByRows (block_fit block) (block_translation block) (λ level entry. block_names level entry block)

  abbrev SomeCond : Type 0
  SomeCond = (cond : Cond) × ByRows cond

  abbrev SomeBlock : Type 0
  SomeBlock = (block : Block) × BlockByRows block

  abbrev part_of : Cond-F SomeCond SomeBlock → Cond-F Cond Block
  part_of = map-Cond SomeCond SomeBlock Cond Block (λ e. e.0) (λ e. e.0)

  abbrev block_part_of : Block-F SomeCond SomeBlock → Block-F Cond Block
  block_part_of = map-Block SomeCond SomeBlock Cond Block (λ e. e.0) (λ e. e.0)

  abbrev layer_fit : Cond-F Cond Block → fitting.Meaning
  layer_fit layer = fitting.fits_step schema (map-Cond Cond Block fitting.Meaning fitting.BlockMeaning cond_fit block_fit layer)

  abbrev layer_translation : Cond-F Cond Block → translating.Meaning
  layer_translation layer = translation_step schema (map-Cond Cond Block translating.Meaning translating.BlockMeaning (translation schema) block_translation layer)

  abbrev layer_names : ℕ → ℕ → Cond-F Cond Block → Bool
  layer_names level entry layer = names_at_step level entry (map-Cond Cond Block Bool Bool (names_at level entry) (block_names level entry) layer)

  module _ (one other : Scope) (rows others : List Place) where
    -- ---- parts

    abbrev meanings : List SomeCond → List translating.Meaning
    meanings parts = map (translation schema) (map (λ (e : SomeCond). e.0) parts)

    abbrev trues : Scope → translating.Meaning → Formula
    trues scope part = (part scope).true

    abbrev falses : Scope → translating.Meaning → Formula
    falses scope part = (part scope).false

    abbrev any_names : List SomeCond → ℕ → ℕ → Bool
    any_names parts level entry = list_any (λ part. part) (map (names_at level entry) (map (λ (e : SomeCond). e.0) parts))

    abbrev EachAlike : (Scope → translating.Meaning → Formula) → List SomeCond → Type 0
    EachAlike gs parts = AllByRecursion (λ part. Alike db (gs one part) (gs other part) rows others) (meanings parts)

    parts_alike : (parts : List SomeCond) → list_all (λ (part : fitting.Meaning). part one.tables) (map cond_fit (map (λ (e : SomeCond). e.0) parts)) ≡ true →
        HaveSameRows one other rows others (any_names parts) → EachAlike trues parts × EachAlike falses parts
    parts_alike [] fit same = (tt, tt)
    parts_alike (part ∷ parts) fit same =
        let first = cond_fit part.0 one.tables in
        let rest = list_all (λ (part : fitting.Meaning). part one.tables) (map cond_fit (map (λ (e : SomeCond). e.0) parts)) in
        let named = any_names (part ∷ parts) in
        let here =
        part.1 one other rows others (both_left first rest fit)
        (fewer one other rows others named (λ level entry. names_at level entry part.0) (λ level entry is. or_left (names_at level entry part.0) (any_names parts level entry) is) same) in
        let later =
        parts_alike parts (both_right first rest fit)
        (fewer one other rows others named (any_names parts) (λ level entry is. or_right (names_at level entry part.0) (any_names parts level entry) is) same) in
        ((here.0, later.0), (here.1, later.1))

    swapped : (b : Bool) (both too : Both) → BothAlike both too rows others → BothAlike (swapped_if b both) (swapped_if b too) rows others
    swapped true both too alike = (alike.1, alike.0)
    swapped false both too alike = alike

    -- ---- subqueries

    exists_alike : (block : SomeBlock) → (block_fit block.0).fits one.tables ≡ true → HaveSameRows one other rows others (λ level entry. block_names level entry block.0) →
        BothAlike (translating.exists_both schema (block_translation block.0) one) (translating.exists_both schema (block_translation block.0) other) rows others
    exists_alike block fit same =
        let own = (block_translation block.0).own in
        let g = translating.inner_true schema (block_translation block.0) one in
        let h = translating.inner_true schema (block_translation block.0) other in
        let inner = block.1.1 one other rows others fit same in (
          of_exist db g h own rows others inner,
          of_for_all db (negated g) (negated h) own rows others (λ places long. of_negated db g h (rows ++ places) (others ++ places) (inner places long)),
        )

    abbrev subquery_names : Term → Term → Block → ℕ → ℕ → Bool
    subquery_names left item block level entry = term_names_at level entry left || term_names_at level entry item || block_names level entry block

    -- the comparison with a selected term, inside
    module _ (op : Op) (left item : Term) (block : SomeBlock) (fit : fitting.selected_fits schema one.tables op left (block_fit block.0) item ≡ true)
        (same : HaveSameRows one other rows others (subquery_names left item block.0)) where
      abbrev named : ℕ → ℕ → Bool
      named = subquery_names left item block.0

      abbrev either_names : ℕ → ℕ → Bool
      either_names level entry = term_names_at level entry left || term_names_at level entry item

      left_named : (level entry : ℕ) → term_names_at level entry left ≡ true → named level entry ≡ true
      left_named level entry is = or_left (either_names level entry) (block_names level entry block.0) (or_left (term_names_at level entry left) (term_names_at level entry item) is)

      item_named : (level entry : ℕ) → term_names_at level entry item ≡ true → named level entry ≡ true
      item_named level entry is = or_left (either_names level entry) (block_names level entry block.0) (or_right (term_names_at level entry left) (term_names_at level entry item) is)

      block_named : (level entry : ℕ) → block_names level entry block.0 ≡ true → named level entry ≡ true
      block_named level entry is = or_right (either_names level entry) (block_names level entry block.0) is

      abbrev own : List ℕ
      own = (block_translation block.0).own

      abbrev within : Scope
      within = inside one own

      abbrev within_too : Scope
      within_too = inside other own

      abbrev g : Formula
      g = translating.inner_true schema (block_translation block.0) one

      abbrev h : Formula
      h = translating.inner_true schema (block_translation block.0) other

      abbrev tables_fit : List (List ℕ) → Bool
      tables_fit inner = compares_both op (term_kind schema one.tables left) (term_kind schema inner item)

      abbrev first_two : Bool
      first_two = (block_fit block.0).fits one.tables && is_plain item

      abbrev compared : Bool
      compared = tables_fit (fitting.inner_tables one.tables (block_fit block.0))

      inner : InnerAlike (block_translation block.0) one other rows others
      inner =
          block.1.1 one other rows others (both_left ((block_fit block.0).fits one.tables) (is_plain item) (both_left first_two compared fit))
          (fewer one other rows others named (λ level entry. block_names level entry block.0) block_named same)

      compares : compares_both op (term_kind schema within.tables left) (term_kind schema within.tables item) ≡ true
      compares =
          compares_inside schema op left item one.tables own
          (ap (λ own. tables_fit (one.tables ++ own ∷ [])) (sym block.1.0) ∙ both_right first_two compared fit)

      -- the comparison with the selected term, by any operator
      comparison : (by : Op) (places : List Place) → length places ≡ length own →
          Alike db (compare_formula schema within by left item) (compare_formula schema within_too by left item) (rows ++ places) (others ++ places)
      comparison by places long =
          let same_in = same_inside one other rows others named same own places long in
          let kinds = λ (t : Term). term_kind schema within.tables t in
          let lefts =
          same_side schema db within within_too (rows ++ places) (others ++ places) named same_in left
          (first_there op (kinds left) (kinds item) compares) left_named in
          let rights =
          same_side schema db within within_too (rows ++ places) (others ++ places) named same_in item
          (second_there op (kinds left) (kinds item) compares) item_named in
          compare_alike schema db within within_too (rows ++ places) (others ++ places) left item lefts rights same_in.tables by

      some_alike : (by : Op) →
          Alike db (translating.exist_rows own (f.And (g ∷ compare_formula schema within by left item ∷ [])))
          (translating.exist_rows own (f.And (h ∷ compare_formula schema within_too by left item ∷ []))) rows others
      some_alike by =
          let yes = compare_formula schema within by left item in
          let yes_too = compare_formula schema within_too by left item in
          of_exist db (f.And (g ∷ yes ∷ [])) (f.And (h ∷ yes_too ∷ [])) own rows others
          (λ places long. both_and db g yes h yes_too (rows ++ places) (others ++ places) (inner places long) (comparison by places long))

      every_alike : (by : Op) →
          Alike db (translating.for_all_rows own (f.Or (negated g ∷ compare_formula schema within by left item ∷ [])))
          (translating.for_all_rows own (f.Or (negated h ∷ compare_formula schema within_too by left item ∷ []))) rows others
      every_alike by =
          let yes = compare_formula schema within by left item in
          let yes_too = compare_formula schema within_too by left item in
          of_for_all db (f.Or (negated g ∷ yes ∷ [])) (f.Or (negated h ∷ yes_too ∷ [])) own rows others
          (λ places long.
          both_or db (negated g) yes (negated h) yes_too (rows ++ places) (others ++ places)
          (of_negated db g h (rows ++ places) (others ++ places) (inner places long)) (comparison by places long))

    -- ---- layers

    at_layer : (y : Cond-F SomeCond SomeBlock) → layer_fit (part_of y) one.tables ≡ true → HaveSameRows one other rows others (λ level entry. layer_names level entry (part_of y)) →
        BothAlike (layer_translation (part_of y) one) (layer_translation (part_of y) other) rows others
    at_layer Cond-F.True fit same = (no_and db rows others, no_or db rows others)
    at_layer Cond-F.False fit same = (no_or db rows others, no_and db rows others)
    at_layer (Cond-F.And parts) fit same =
        let each = parts_alike parts fit same in (
          of_and db translating.Meaning (trues one) (trues other) rows others (meanings parts) each.0,
          of_or db translating.Meaning (falses one) (falses other) rows others (meanings parts) each.1,
        )
    at_layer (Cond-F.Or parts) fit same =
        let each = parts_alike parts fit same in (
          of_or db translating.Meaning (trues one) (trues other) rows others (meanings parts) each.0,
          of_and db translating.Meaning (falses one) (falses other) rows others (meanings parts) each.1,
        )
    at_layer (Cond-F.Not part) fit same = let both = part.1 one other rows others fit same in (both.1, both.0)
    at_layer (Cond-F.Compare op left right span) fit same =
        let named = λ (level entry : ℕ). term_names_at level entry left || term_names_at level entry right in
        let kinds = λ (t : Term). term_kind schema one.tables t in
        let lefts =
        same_side schema db one other rows others named same left (first_there op (kinds left) (kinds right) fit)
        (λ level entry is. or_left (term_names_at level entry left) (term_names_at level entry right) is) in
        let rights =
        same_side schema db one other rows others named same right (second_there op (kinds left) (kinds right) fit)
        (λ level entry is. or_right (term_names_at level entry left) (term_names_at level entry right) is) in
        let alike = compare_alike schema db one other rows others left right lefts rights same.tables in
        (alike op, alike (negation op))
    at_layer (Cond-F.IsNull t not_so span) fit same =
        let side = same_side schema db one other rows others (λ level entry. term_names_at level entry t) same t fit (λ level entry is. is) in
        swapped not_so (record { true = is_null_formula schema one t; false = not_null_formula schema one t })
        (record { true = is_null_formula schema other t; false = not_null_formula schema other t })
        (null_alike schema db one other rows others t side, not_null_alike schema db one other rows others t side)
    at_layer (Cond-F.Exists block span) fit same = exists_alike block fit same
    at_layer (Cond-F.In t block item not_so span) fit same =
        swapped not_so (translating.in_both schema t (block_translation block.0) item one) (translating.in_both schema t (block_translation block.0) item other)
        (some_alike Eq t item block fit same Eq, every_alike Eq t item block fit same (negation Eq))
    at_layer (Cond-F.Scalar op left block item span) fit same = (some_alike op left item block fit same op, some_alike op left item block fit same (negation op))

  cond_rolled : (y : Cond-F SomeCond SomeBlock) → ByRows (roll-Cond (part_of y))
  cond_rolled y one other rows others fit same =
      let translated = fold-roll-Cond translating.Meaning translating.BlockMeaning (translation_step schema) (translating.block_step schema) (part_of y) in
      let fitted = fold-roll-Cond fitting.Meaning fitting.BlockMeaning (fitting.fits_step schema) (fitting.block_step schema) (part_of y) in
      let named = λ (level entry : ℕ). fold-roll-Cond Bool Bool (names_at_step level entry) (λ block. block.cond) (part_of y) in
      subst (λ (m : translating.Meaning). BothAlike (m one) (m other) rows others) (sym translated)
      (at_layer one other rows others y (sym (ap (λ (m : fitting.Meaning). m one.tables) fitted) ∙ fit)
      (fewer one other rows others (λ level entry. names_at level entry (roll-Cond (part_of y))) (λ level entry. layer_names level entry (part_of y)) (λ level entry is. named level entry ∙ is) same))

  block_layer : (y : Block-F SomeCond SomeBlock) (named : ℕ → ℕ → Bool) → ((level entry : ℕ) → names_at level entry y.cond.0 ≡ true → named level entry ≡ true) →
      InnerByRows (fitting.block_step schema (map-Block Cond Block fitting.Meaning fitting.BlockMeaning cond_fit block_fit (block_part_of y)))
      (translating.block_step schema (map-Block Cond Block translating.Meaning translating.BlockMeaning (translation schema) block_translation (block_part_of y))) named
  block_layer y named leads = (
    refl,
    λ one other rows others fit same places long.
        let own = tables_of y.entries in
        let few = nat_le (length y.entries) 16 in
        let there = list_all (λ (e : Entry). nat_lt e.table (length schema)) y.entries in
        let inner = cond_fit y.cond.0 (one.tables ++ own ∷ []) in
        (y.cond.1 (inside one own) (inside other own) (rows ++ places) (others ++ places) (both_right (few && there) inner fit)
        (fewer (inside one own) (inside other own) (rows ++ places) (others ++ places) named (λ level entry. names_at level entry y.cond.0) leads
        (same_inside one other rows others named same own places long))).0,
  )

  block_rolled : (y : Block-F SomeCond SomeBlock) → BlockByRows (roll-Block (block_part_of y))
  block_rolled y =
      let block = roll-Block (block_part_of y) in
      let translated = fold-roll-Block translating.Meaning translating.BlockMeaning (translation_step schema) (translating.block_step schema) (block_part_of y) in
      let fitted = fold-roll-Block fitting.Meaning fitting.BlockMeaning (fitting.fits_step schema) (fitting.block_step schema) (block_part_of y) in
      let named = λ (level entry : ℕ). fold-roll-Block Bool Bool (names_at_step level entry) (λ block. block.cond) (block_part_of y) in
      let layer = block_layer y (λ level entry. block_names level entry block) (λ level entry is. named level entry ∙ is) in
      subst (λ (fit : fitting.BlockMeaning). InnerByRows fit (block_translation block) (λ level entry. block_names level entry block)) (sym fitted)
      (subst (λ (two : translating.BlockMeaning). InnerByRows (fitting.block_step schema (map-Block Cond Block fitting.Meaning fitting.BlockMeaning cond_fit block_fit (block_part_of y))) two (λ level entry. block_names level entry block)) (sym translated) layer)

  pub by_rows : (cond : Cond) → ByRows cond
  by_rows =
      ind-Cond ByRows BlockByRows
      (λ x y is. subst (λ z. ByRows (roll-Cond z)) is (cond_rolled y))
      (λ x y is. subst (λ z. BlockByRows (roll-Block z)) is (block_rolled y))

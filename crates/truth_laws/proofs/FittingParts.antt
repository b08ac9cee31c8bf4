-- What fits with a condition: its conjuncts, the condition with a predicate replaced, and the conditions of its
-- subqueries at their tables.
use Rattle.std.proofs.Common.{◌≡◌, ◌∙◌, sym, ap, refl, subst, ℕ, zero, suc, ◌-◌, Bool, true, false, ◌&&◌, List, [], ◌∷◌, ◌++◌, length, map, nat_le, nat_lt, if◌then◌else◌}
use Rattle.std.proofs.lemmas.List.Folds.{list_all-append}
use Rattle.std.specs.List.{list_all, flat_map}
use Rattle.lint_base.specs.declared.place.Span.{Span}
use Rattle.lint_tables.specs.declared.op.Op.{Op}
use Rattle.lint_tables.specs.declared.op.Op.TheVariants.{Eq}
use Rattle.lint_core.specs.declared.condition.Block.{Block, roll-Block}
use Rattle.lint_core.specs.declared.condition.Cond.{Cond, ind-Cond, roll-Cond, map-Cond}
use Rattle.lint_core.specs.declared.condition.Cond.TheVariants as c
use Rattle.lint_core.specs.declared.condition.Cond.TheOpen.{Cond-F}
use Rattle.lint_core.specs.declared.condition.Entry.{Entry}
use Rattle.lint_core.specs.declared.condition.Term.{Term}
use Rattle.lint_core.specs.declared.schema.Table.{Table}
use Rattle.lint_core.specs.Conjuncts.{conjuncts}
use Rattle.lint_core.specs.Fits.{cond_fits, tables_of, is_plain, term_kind, selected_fits}
use Rattle.lint_core.specs.Kind.{compares_both}
use Rattle.lint_core.specs.Predicates.{first_or, predicates, with_replaced}
use Rattle.lint_core.proofs.Parted.{conjuncts_true, conjuncts_false, conjuncts_and, conjuncts_or, conjuncts_not, conjuncts_compare, conjuncts_is_null, conjuncts_exists, conjuncts_in, conjuncts_scalar}
use Rattle.lint_core.proofs.Parted.{replaced_true, replaced_false, replaced_and, replaced_or, replaced_not, replaced_compare, replaced_is_null, replaced_exists, replaced_in_subquery, replaced_scalar}
use Rattle.lint_core.proofs.Parted.{replaced_among, block_replaced}
use Rattle.lint_base.proofs.Lists.{both_left, both_right, all_append}
use Rattle.truth_laws.proofs.Fitting.{both_are}
use Rattle.truth_laws.proofs.Layers.{block_fit, fits_and, fits_or, fits_not, fits_exists, fits_in, fits_scalar}

module _ (schema : List Table) where
  -- ---- a block that fits, and what compares with what it selects

  abbrev inner : List (List ℕ) → Block → List (List ℕ)
  inner tables block = tables ++ tables_of block.entries ∷ []

  abbrev entries_fit : Block → Bool
  entries_fit block = nat_le (length block.entries) 16 && list_all (λ (e : Entry). nat_lt e.table (length schema)) block.entries

  pub inner_fits : (block : Block) (tables : List (List ℕ)) → (block_fit schema block).fits tables ≡ true → cond_fits schema (inner tables block) block.cond ≡ true
  inner_fits block tables fit = both_right (entries_fit block) (cond_fits schema (inner tables block) block.cond) fit

  module _ (op : Op) (left : Term) (block : Block) (item : Term) (tables : List (List ℕ)) where
    abbrev compared : Bool
    compared = compares_both op (term_kind schema tables left) (term_kind schema (inner tables block) item)

    abbrev first_two : Bool
    first_two = (block_fit schema block).fits tables && is_plain item

    selected_block : selected_fits schema tables op left (block_fit schema block) item ≡ true → (block_fit schema block).fits tables ≡ true
    selected_block fit = both_left ((block_fit schema block).fits tables) (is_plain item) (both_left first_two compared fit)

    selected_inner : selected_fits schema tables op left (block_fit schema block) item ≡ true → cond_fits schema (inner tables block) block.cond ≡ true
    selected_inner fit = inner_fits block tables (selected_block fit)

  pub exists_inner : (tables : List (List ℕ)) (block : Block) (span : Span) → cond_fits schema tables (c.Exists block span) ≡ true → cond_fits schema (inner tables block) block.cond ≡ true
  exists_inner tables block span fit = inner_fits block tables (sym (fits_exists schema tables block span) ∙ fit)

  pub in_inner : (tables : List (List ℕ)) (t : Term) (block : Block) (item : Term) (negated : Bool) (span : Span) → cond_fits schema tables (c.In t block item negated span) ≡ true →
      cond_fits schema (inner tables block) block.cond ≡ true
  in_inner tables t block item negated span fit = selected_inner Eq t block item tables (sym (fits_in schema tables t block item negated span) ∙ fit)

  pub scalar_inner : (tables : List (List ℕ)) (op : Op) (left : Term) (block : Block) (item : Term) (span : Span) → cond_fits schema tables (c.Scalar op left block item span) ≡ true →
      cond_fits schema (inner tables block) block.cond ≡ true
  scalar_inner tables op left block item span fit = selected_inner op left block item tables (sym (fits_scalar schema tables op left block item span) ∙ fit)

  -- ---- conjuncts

  abbrev ConjunctsFit : Cond → Type 0
  ConjunctsFit cond = (tables : List (List ℕ)) → cond_fits schema tables cond ≡ true → list_all (cond_fits schema tables) (conjuncts cond) ≡ true

  abbrev Joined : Type 0
  Joined = (cond : Cond) × ConjunctsFit cond

  abbrev AnyBlock : Type 0
  AnyBlock = (block : Block) × Unit {0}

  abbrev joined_part : Cond-F Joined AnyBlock → Cond-F Cond Block
  joined_part = map-Cond Joined AnyBlock Cond Block (λ e. e.0) (λ e. e.0)

  abbrev joined : List Joined → List Cond
  joined parts = map (λ (e : Joined). e.0) parts

  one_conjunct : (cond : Cond) → conjuncts cond ≡ cond ∷ [] → ConjunctsFit cond
  one_conjunct cond is tables fit = subst (λ conds. list_all (cond_fits schema tables) conds ≡ true) (sym is) (both_are (cond_fits schema tables cond) true fit refl)

  parts_conjuncts : (parts : List Joined) (tables : List (List ℕ)) → list_all (cond_fits schema tables) (joined parts) ≡ true →
      list_all (cond_fits schema tables) (flat_map conjuncts (joined parts)) ≡ true
  parts_conjuncts [] tables fit = refl
  parts_conjuncts (part ∷ parts) tables fit =
      let here = cond_fits schema tables part.0 in
      let rest = list_all (cond_fits schema tables) (joined parts) in
      all_append (cond_fits schema tables) (conjuncts part.0) (flat_map conjuncts (joined parts)) (part.1 tables (both_left here rest fit)) (parts_conjuncts parts tables (both_right here rest fit))

  conjuncts_layer : (y : Cond-F Joined AnyBlock) → ConjunctsFit (roll-Cond (joined_part y))
  conjuncts_layer Cond-F.True = subst ConjunctsFit (sym c.rolls-True) (one_conjunct c.True conjuncts_true)
  conjuncts_layer Cond-F.False = subst ConjunctsFit (sym c.rolls-False) (one_conjunct c.False conjuncts_false)
  conjuncts_layer (Cond-F.And parts) =
      let conds = joined parts in
      subst ConjunctsFit (sym (c.rolls-And conds))
      (λ tables fit. subst (λ found. list_all (cond_fits schema tables) found ≡ true) (sym (conjuncts_and conds)) (parts_conjuncts parts tables (sym (fits_and schema tables conds) ∙ fit)))
  conjuncts_layer (Cond-F.Or parts) = let conds = joined parts in subst ConjunctsFit (sym (c.rolls-Or conds)) (one_conjunct (c.Or conds) (conjuncts_or conds))
  conjuncts_layer (Cond-F.Not part) = subst ConjunctsFit (sym (c.rolls-Not part.0)) (one_conjunct (c.Not part.0) (conjuncts_not part.0))
  conjuncts_layer (Cond-F.Compare op left right span) =
      subst ConjunctsFit (sym (c.rolls-Compare op left right span)) (one_conjunct (c.Compare op left right span) (conjuncts_compare op left right span))
  conjuncts_layer (Cond-F.IsNull t negated span) =
      subst ConjunctsFit (sym (c.rolls-IsNull t negated span)) (one_conjunct (c.IsNull t negated span) (conjuncts_is_null t negated span))
  conjuncts_layer (Cond-F.Exists block span) =
      subst ConjunctsFit (sym (c.rolls-Exists block.0 span)) (one_conjunct (c.Exists block.0 span) (conjuncts_exists block.0 span))
  conjuncts_layer (Cond-F.In t block item negated span) =
      subst ConjunctsFit (sym (c.rolls-In t block.0 item negated span)) (one_conjunct (c.In t block.0 item negated span) (conjuncts_in t block.0 item negated span))
  conjuncts_layer (Cond-F.Scalar op left block item span) =
      subst ConjunctsFit (sym (c.rolls-Scalar op left block.0 item span)) (one_conjunct (c.Scalar op left block.0 item span) (conjuncts_scalar op left block.0 item span))

  pub conjuncts_fit : (cond : Cond) → ConjunctsFit cond
  conjuncts_fit = ind-Cond ConjunctsFit (λ block. Unit {0}) (λ x y is. subst (λ z. ConjunctsFit (roll-Cond z)) is (conjuncts_layer y)) (λ x y is. tt)

  -- ---- the condition with a predicate replaced

  module _ (by : Cond) (by_fits : (tables : List (List ℕ)) → cond_fits schema tables by ≡ true) where
    abbrev ReplacedFit : Cond → Type 0
    ReplacedFit cond = (n : ℕ) (tables : List (List ℕ)) → cond_fits schema tables cond ≡ true → cond_fits schema tables (with_replaced by n cond) ≡ true

    abbrev ReplacedInside : Block → Type 0
    ReplacedInside block = ReplacedFit block.cond

    abbrev Changed : Type 0
    Changed = (cond : Cond) × ReplacedFit cond

    abbrev ChangedBlock : Type 0
    ChangedBlock = (block : Block) × ReplacedInside block

    abbrev changed_part : Cond-F Changed ChangedBlock → Cond-F Cond Block
    changed_part = map-Cond Changed ChangedBlock Cond Block (λ e. e.0) (λ e. e.0)

    abbrev changed : List Changed → List Cond
    changed parts = map (λ (e : Changed). e.0) parts

    among_fits : (tables : List (List ℕ)) (part : Cond) (others later : List Cond) (here : Bool) (found : Cond) →
        cond_fits schema tables part ≡ true → cond_fits schema tables found ≡ true → list_all (cond_fits schema tables) others ≡ true → list_all (cond_fits schema tables) later ≡ true →
        list_all (cond_fits schema tables) (if here then found ∷ others else part ∷ later) ≡ true
    among_fits tables part others later true found fit replaced rest changed = both_are (cond_fits schema tables found) (list_all (cond_fits schema tables) others) replaced rest
    among_fits tables part others later false found fit replaced rest changed = both_are (cond_fits schema tables part) (list_all (cond_fits schema tables) later) fit changed

    parts_replaced : (parts : List Changed) (n : ℕ) (tables : List (List ℕ)) → list_all (cond_fits schema tables) (changed parts) ≡ true →
        list_all (cond_fits schema tables) (replaced_among by (changed parts) n) ≡ true
    parts_replaced [] n tables fit = refl
    parts_replaced (part ∷ parts) n tables fit =
        let here = cond_fits schema tables part.0 in
        let rest = list_all (cond_fits schema tables) (changed parts) in
        let less = n - length (predicates part.0) in
        among_fits tables part.0 (changed parts) (replaced_among by (changed parts) less) (nat_lt n (length (predicates part.0))) (with_replaced by n part.0)
        (both_left here rest fit) (part.1 n tables (both_left here rest fit)) (both_right here rest fit) (parts_replaced parts less tables (both_right here rest fit))

    first_fits : (cond : Cond) (inside : ℕ → Cond) (n : ℕ) (tables : List (List ℕ)) → ((m : ℕ) → cond_fits schema tables (inside m) ≡ true) → with_replaced by n cond ≡ first_or by inside n →
        cond_fits schema tables (with_replaced by n cond) ≡ true
    first_fits cond inside zero tables fit is = ap (cond_fits schema tables) is ∙ by_fits tables
    first_fits cond inside (suc n) tables fit is = ap (cond_fits schema tables) is ∙ fit n

    block_replaced_fits : (block : Block) → ReplacedInside block → (m : ℕ) (tables : List (List ℕ)) → (block_fit schema block).fits tables ≡ true → (block_fit schema (block_replaced by m block)).fits tables ≡ true
    block_replaced_fits block inside m tables fit =
        both_are (entries_fit block) (cond_fits schema (inner tables block) (with_replaced by m block.cond))
        (both_left (entries_fit block) (cond_fits schema (inner tables block) block.cond) fit) (inside m (inner tables block) (inner_fits block tables fit))

    selected_replaced : (op : Op) (left : Term) (block : Block) (item : Term) (tables : List (List ℕ)) → ReplacedInside block → (m : ℕ) →
        selected_fits schema tables op left (block_fit schema block) item ≡ true → selected_fits schema tables op left (block_fit schema (block_replaced by m block)) item ≡ true
    selected_replaced op left block item tables inside m fit =
        let old = (block_fit schema block).fits tables in
        let new = (block_fit schema (block_replaced by m block)).fits tables in
        let two = both_left (old && is_plain item) (compared op left block item tables) fit in
        both_are (new && is_plain item) (compared op left block item tables)
        (both_are new (is_plain item) (block_replaced_fits block inside m tables (both_left old (is_plain item) two)) (both_right old (is_plain item) two))
        (both_right (old && is_plain item) (compared op left block item tables) fit)

    replaced_layer : (y : Cond-F Changed ChangedBlock) → ReplacedFit (roll-Cond (changed_part y))
    replaced_layer Cond-F.True = subst ReplacedFit (sym c.rolls-True) (λ n tables fit. ap (cond_fits schema tables) (replaced_true by n) ∙ fit)
    replaced_layer Cond-F.False = subst ReplacedFit (sym c.rolls-False) (λ n tables fit. ap (cond_fits schema tables) (replaced_false by n) ∙ fit)
    replaced_layer (Cond-F.And parts) =
        let conds = changed parts in
        subst ReplacedFit (sym (c.rolls-And conds))
        (λ n tables fit.
        ap (cond_fits schema tables) (replaced_and by n conds)
        ∙ (fits_and schema tables (replaced_among by conds n) ∙ parts_replaced parts n tables (sym (fits_and schema tables conds) ∙ fit)))
    replaced_layer (Cond-F.Or parts) =
        let conds = changed parts in
        subst ReplacedFit (sym (c.rolls-Or conds))
        (λ n tables fit.
        ap (cond_fits schema tables) (replaced_or by n conds)
        ∙ (fits_or schema tables (replaced_among by conds n) ∙ parts_replaced parts n tables (sym (fits_or schema tables conds) ∙ fit)))
    replaced_layer (Cond-F.Not part) =
        subst ReplacedFit (sym (c.rolls-Not part.0))
        (λ n tables fit.
        ap (cond_fits schema tables) (replaced_not by n part.0)
        ∙ (fits_not schema tables (with_replaced by n part.0) ∙ part.1 n tables (sym (fits_not schema tables part.0) ∙ fit)))
    replaced_layer (Cond-F.Compare op left right span) =
        let cond = c.Compare op left right span in
        subst ReplacedFit (sym (c.rolls-Compare op left right span)) (λ n tables fit. first_fits cond (λ m. cond) n tables (λ m. fit) (replaced_compare by n op left right span))
    replaced_layer (Cond-F.IsNull t negated span) =
        let cond = c.IsNull t negated span in
        subst ReplacedFit (sym (c.rolls-IsNull t negated span)) (λ n tables fit. first_fits cond (λ m. cond) n tables (λ m. fit) (replaced_is_null by n t negated span))
    replaced_layer (Cond-F.Exists block span) =
        subst ReplacedFit (sym (c.rolls-Exists block.0 span))
        (λ n tables fit.
        first_fits (c.Exists block.0 span) (λ m. c.Exists (block_replaced by m block.0) span) n tables
        (λ m. fits_exists schema tables (block_replaced by m block.0) span ∙ block_replaced_fits block.0 block.1 m tables (sym (fits_exists schema tables block.0 span) ∙ fit))
        (replaced_exists by n block.0 span))
    replaced_layer (Cond-F.In t block item negated span) =
        subst ReplacedFit (sym (c.rolls-In t block.0 item negated span))
        (λ n tables fit.
        first_fits (c.In t block.0 item negated span) (λ m. c.In t (block_replaced by m block.0) item negated span) n tables
        (λ m.
        fits_in schema tables t (block_replaced by m block.0) item negated span
        ∙ selected_replaced Eq t block.0 item tables block.1 m (sym (fits_in schema tables t block.0 item negated span) ∙ fit))
        (replaced_in_subquery by n t block.0 item negated span))
    replaced_layer (Cond-F.Scalar op left block item span) =
        let cond = c.Scalar op left block.0 item span in
        subst ReplacedFit (sym (c.rolls-Scalar op left block.0 item span)) (λ n tables fit. first_fits cond (λ m. cond) n tables (λ m. fit) (replaced_scalar by n op left block.0 item span))

    pub replaced_fits : (cond : Cond) → ReplacedFit cond
    replaced_fits =
        ind-Cond ReplacedFit ReplacedInside
        (λ x y is. subst (λ z. ReplacedFit (roll-Cond z)) is (replaced_layer y))
        (λ x y is. subst (λ z. ReplacedInside (roll-Block z)) is y.cond.1)

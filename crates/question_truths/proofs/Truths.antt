-- A condition whose scalar subqueries, at any depth, give at most one row has a truth at each existing binding: by
-- induction over conditions.
use Rattle.std.proofs.Common.{◌≡◌, sym, refl, subst, ℕ, true, false, List, [], ◌∷◌, ◌++◌, map}
use Rattle.std.specs.List.{AllByRecursion, flat_map}
use Rattle.std.specs.Prelude.{Ok, Err}
use Rattle.lint_base.specs.declared.place.Span.{Span}
use Rattle.lint_base.proofs.Lists.{every_then, every_parts}
use Rattle.lint_tables.specs.declared.op.Op.{Op}
use Rattle.lint_core.specs.declared.condition.Block.{Block, out-Block}
use Rattle.lint_core.specs.declared.condition.Cond.{Cond}
use Rattle.lint_core.specs.declared.condition.Term.{Term}
use Rattle.lint_core.specs.declared.database.Database.{Database}
use Rattle.lint_core.specs.declared.database.Truth.{Truth}
use Rattle.lint_core.specs.declared.database.Truth.TheVariants.{False, True}
use Rattle.lint_core.specs.declared.database.Value.{Value}
use Rattle.lint_core.specs.Comparison.{compare}
use Rattle.lint_core.specs.Condition.{BlockMeaning, Inner, truth, selected, exists_truth, in_truth, items_at, term_value, has_truth, scalar_value}
use Rattle.lint_core.specs.Database.{row_lists}
use Rattle.lint_core.specs.Evaluation.{Evaluated, and_then, map_ok, all_ok}
use Rattle.lint_core.specs.Fits.{tables_of}
use Rattle.lint_core.specs.Points.{is_binding, are_rows, are_same_rows}
use Rattle.lint_core.specs.Subqueries.{subquery, scalar_subqueries}
use Rattle.lint_core.specs.Truth.{is_true, not_of, negated_if, and_of, or_of}
use Rattle.lint_core.proofs.Conditions.{block_truth, block_truth_is, truth_true, truth_false, truth_and, truth_or, truth_not, truth_compare, truth_is_null, truth_exists, truth_in, truth_scalar}
use Rattle.lint_core.proofs.Parted.{scalars_and, scalars_or, scalars_not, scalars_exists, scalars_in, scalars_scalar}
use Rattle.question_truths.specs.AtMostOne.{GivesAtMostOneRow, ScalarsGiveAtMostOneRow}
use Rattle.question_truths.proofs.ByParts.{Kinds, by_parts}
use Rattle.question_truths.proofs.RowLists.{rows_are_there, no_two_are_same, binding_inside, differ_inside}
use Rattle.question_truths.proofs.Selected.{IsThere, mapped, first_there, each_selected, one_value}

-- what is made of a value that is there
compared : (f : Value → Truth) (g : List Inner → Evaluated Value) (inners : Evaluated (List Inner)) → IsThere Value (and_then g inners) → IsThere Truth (and_then (λ inners. map_ok f (g inners)) inners)
compared f g (Ok inners) there = mapped Value Truth f (g inners) there
compared f g (Err place) there = cc

module _ (db : Database) where
  abbrev pub HasTruth : Cond → Type 0
  HasTruth cond = (tables binding : List (List ℕ)) → is_binding db tables binding ≡ true → ScalarsGiveAtMostOneRow db tables cond → IsThere Truth (truth db cond tables binding)

  -- ---- parts

  parts_there : (parts : List Cond) → AllByRecursion HasTruth parts → (tables binding : List (List ℕ)) → is_binding db tables binding ≡ true →
      AllByRecursion (GivesAtMostOneRow db) (flat_map (λ part. scalar_subqueries part tables) parts) →
      IsThere (List Truth) (all_ok (map (λ part. truth db part tables binding) parts))
  parts_there [] each tables binding there one = ([], refl)
  parts_there (part ∷ parts) each tables binding there one =
      let here = scalar_subqueries part tables in
      let others = flat_map (λ part. scalar_subqueries part tables) parts in
      first_there Truth (truth db part tables binding) (map (λ part. truth db part tables binding) parts)
      (each.0 tables binding there (every_parts (GivesAtMostOneRow db) here others one).0)
      (parts_there parts each.1 tables binding there (every_parts (GivesAtMostOneRow db) here others one).1)

  -- ---- subqueries

  module _ (block : Block) (inside : HasTruth (out-Block block).cond) (tables binding : List (List ℕ)) (there : is_binding db tables binding ≡ true)
      (one : ScalarsGiveAtMostOneRow db (tables ++ tables_of (out-Block block).entries ∷ []) (out-Block block).cond) where
    abbrev own : List ℕ
    own = tables_of (out-Block block).entries

    abbrev cond : Cond
    cond = (out-Block block).cond

    -- a truth at each inner binding
    truths_inside : AllByRecursion (λ rows. IsThere Truth (truth db cond (tables ++ own ∷ []) (binding ++ rows ∷ []))) (row_lists db own)
    truths_inside =
        every_then (λ rows. are_rows db own rows ≡ true) (λ rows. IsThere Truth (truth db cond (tables ++ own ∷ []) (binding ++ rows ∷ [])))
        (λ rows known. inside (tables ++ own ∷ []) (binding ++ rows ∷ []) (binding_inside db tables binding own rows there known) one)
        (row_lists db own) (rows_are_there db own)

    selects : IsThere (List Inner) (selected ((block_truth db block).bindings tables binding))
    selects =
        subst (λ (b : BlockMeaning). IsThere (List Inner) (selected (b.bindings tables binding))) (sym (block_truth_is db block))
        (each_selected db own (truth db cond) tables binding (row_lists db own) truths_inside)

    -- its condition is not true at two of them
    not_at_both : (item : Term) (place : Span) → GivesAtMostOneRow db (subquery tables block item place) → (rows others : List ℕ) →
        are_rows db own rows ≡ true → are_rows db own others ≡ true → are_same_rows rows others ≡ false →
        has_truth is_true (truth db cond (tables ++ own ∷ []) (binding ++ rows ∷ [])) ≡ true → has_truth is_true (truth db cond (tables ++ own ∷ []) (binding ++ others ∷ [])) ≡ false
    not_at_both item place gives rows others known known_too differ =
        gives (binding ++ rows ∷ []) (binding ++ others ∷ []) (binding_inside db tables binding own rows there known) (binding_inside db tables binding own others there known_too) (differ_inside binding rows others differ)

    one_selected : (op : Op) (left item : Term) (place : Span) → GivesAtMostOneRow db (subquery tables block item place) →
        IsThere Truth (and_then (λ inners. map_ok (compare op (term_value db tables binding left)) (scalar_value (block_truth db block).place (items_at db item inners))) (selected ((block_truth db block).bindings tables binding)))
    one_selected op left item place gives =
        subst (λ (b : BlockMeaning). IsThere Truth (and_then (λ inners. map_ok (compare op (term_value db tables binding left)) (scalar_value b.place (items_at db item inners))) (selected (b.bindings tables binding)))) (sym (block_truth_is db block))
        (compared (compare op (term_value db tables binding left)) (λ inners. scalar_value (out-Block block).span (items_at db item inners)) _
        (one_value db own (truth db cond) tables binding (λ rows. are_rows db own rows ≡ true) (out-Block block).span item (not_at_both item place gives) (row_lists db own) (rows_are_there db own) truths_inside (no_two_are_same db own)))

  -- ---- conditions

  truths : Kinds HasTruth
  truths = record {
    when_true = λ tables binding there one. (True, truth_true db tables binding);
    when_false = λ tables binding there one. (False, truth_false db tables binding);
    when_and = λ parts each tables binding there one.
        subst (IsThere Truth) (sym (truth_and db parts tables binding))
        (mapped (List Truth) Truth and_of _ (parts_there parts each tables binding there (subst (AllByRecursion (GivesAtMostOneRow db)) (scalars_and tables parts) one)));
    when_or = λ parts each tables binding there one.
        subst (IsThere Truth) (sym (truth_or db parts tables binding))
        (mapped (List Truth) Truth or_of _ (parts_there parts each tables binding there (subst (AllByRecursion (GivesAtMostOneRow db)) (scalars_or tables parts) one)));
    when_not = λ part inside tables binding there one.
        subst (IsThere Truth) (sym (truth_not db part tables binding))
        (mapped Truth Truth not_of _ (inside tables binding there (subst (AllByRecursion (GivesAtMostOneRow db)) (scalars_not tables part) one)));
    when_compare = λ op left right span tables binding there one. (_, truth_compare db op left right span tables binding);
    when_is_null = λ t negated span tables binding there one. (_, truth_is_null db t negated span tables binding);
    when_exists = λ block span inside tables binding there one.
        subst (IsThere Truth) (sym (truth_exists db block span tables binding))
        (mapped (List Inner) Truth exists_truth _ (selects block inside tables binding there (subst (AllByRecursion (GivesAtMostOneRow db)) (scalars_exists tables block span) one)));
    when_in = λ t block item negated span inside tables binding there one.
        subst (IsThere Truth) (sym (truth_in db t block item negated span tables binding))
        (mapped (List Inner) Truth (λ inners. negated_if negated (in_truth (term_value db tables binding t) (items_at db item inners))) _
        (selects block inside tables binding there (subst (AllByRecursion (GivesAtMostOneRow db)) (scalars_in tables t block item negated span) one)));
    when_scalar = λ op left block item span inside tables binding there one.
        let own = tables ++ tables_of (out-Block block).entries ∷ [] in
        let all = subst (AllByRecursion (GivesAtMostOneRow db)) (scalars_scalar tables op left block item span) one in
        let itself = subquery tables block item (out-Block block).span in
        let before = scalar_subqueries (out-Block block).cond own in
        subst (IsThere Truth) (sym (truth_scalar db op left block item span tables binding))
        (one_selected block inside tables binding there (every_parts (GivesAtMostOneRow db) before (itself ∷ []) all).0 op left item (out-Block block).span (every_parts (GivesAtMostOneRow db) before (itself ∷ []) all).1.0);
  }

  pub has_truth_there : (cond : Cond) → HasTruth cond
  has_truth_there = by_parts HasTruth truths

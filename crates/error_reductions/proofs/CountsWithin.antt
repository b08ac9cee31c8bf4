-- The subqueries and predicates of a condition are no more than its conditions: of a query that fits at most 65,536.
use Rattle.std.proofs.Common.{◌≡◌, subst, ℕ, ◌+◌, ◌≤◌, Bool, true, false, ◌&&◌, List, [], ◌∷◌, map, length, arith}
use Rattle.std.proofs.lemmas.Bool.{and_parts, leb-true}
use Rattle.std.proofs.lemmas.List.Sums.{sum_by-cons}
use Rattle.std.specs.List.{list_all}
use Rattle.std.specs.Prelude.{sum, nat_le, if◌then◌else◌}
use Rattle.lint_core.specs.declared.condition.Block.{Block, roll-Block, fold-Block, fold-roll-Block, map-Block}
use Rattle.lint_core.specs.declared.condition.Cond.{Cond, ind-Cond, roll-Cond, fold-Cond, fold-roll-Cond, map-Cond}
use Rattle.lint_core.specs.declared.condition.Cond.TheOpen.{Cond-F, Block-F}
use Rattle.lint_core.specs.declared.query.Query.{Query}
use Rattle.lint_core.specs.declared.schema.Table.{Table}
use Rattle.lint_core.specs.Asked.{main_condition}
use Rattle.lint_core.specs.Fits.{count_conditions, count_step, query_fits, selection_fits_in, selection_fits, block_fits, item_fits, order_fits, main_tables}
use Rattle.lint_core.specs.Subqueries.{is_column}
use Rattle.lint_core.specs.inner.Counts.{scalars_step, count_scalars, not_ins_step, count_not_ins, predicates_step, count_predicates}

sum_first : (n : ℕ) (ns : List ℕ) → sum (n ∷ ns) ≡ n + sum ns
sum_first n ns = sum_by-cons (λ n. n) n ns

-- ---- what is counted by layers, each of which adds no more than a condition does

abbrev block_conditions : Block → ℕ
block_conditions = fold-Block ℕ ℕ count_step (λ block. block.cond)

module _ (step : Cond-F ℕ ℕ → ℕ) where
  abbrev counted : Cond → ℕ
  counted = fold-Cond ℕ ℕ step (λ block. block.cond)

  abbrev counted_block : Block → ℕ
  counted_block = fold-Block ℕ ℕ step (λ block. block.cond)

  abbrev Few : Cond → Type 0
  Few cond = counted cond ≤ count_conditions cond

  abbrev FewInside : Block → Type 0
  FewInside block = counted_block block ≤ block_conditions block

  abbrev FewCond : Type 0
  FewCond = (cond : Cond) × Few cond

  abbrev FewBlock : Type 0
  FewBlock = (block : Block) × FewInside block

  abbrev layer_of : Cond-F FewCond FewBlock → Cond-F Cond Block
  layer_of = map-Cond FewCond FewBlock Cond Block (λ e. e.0) (λ e. e.0)

  abbrev block_layer_of : Block-F FewCond FewBlock → Block-F Cond Block
  block_layer_of = map-Block FewCond FewBlock Cond Block (λ e. e.0) (λ e. e.0)

  abbrev counted_layer : Cond-F FewCond FewBlock → ℕ
  counted_layer y = step (map-Cond Cond Block ℕ ℕ counted counted_block (layer_of y))

  abbrev conditions_layer : Cond-F FewCond FewBlock → ℕ
  conditions_layer y = count_step (map-Cond Cond Block ℕ ℕ count_conditions block_conditions (layer_of y))

  abbrev conds : List FewCond → List Cond
  conds parts = map (λ (e : FewCond). e.0) parts

  few_parts : (parts : List FewCond) → sum (map counted (conds parts)) ≤ 1 + sum (map count_conditions (conds parts))
  few_parts [] = omega arith
  few_parts (part ∷ parts) =
      let here : counted part.0 ≤ count_conditions part.0 = part.1 in
      omega (arith, here, few_parts parts, sum_first (counted part.0) (map counted (conds parts)), sum_first (count_conditions part.0) (map count_conditions (conds parts)))

  module _ (at_layer : (y : Cond-F FewCond FewBlock) → counted_layer y ≤ conditions_layer y) where
    rolled : (y : Cond-F FewCond FewBlock) → Few (roll-Cond (layer_of y))
    rolled y =
        let one : counted (roll-Cond (layer_of y)) ≡ counted_layer y = fold-roll-Cond ℕ ℕ step (λ block. block.cond) (layer_of y) in
        let other : count_conditions (roll-Cond (layer_of y)) ≡ conditions_layer y = fold-roll-Cond ℕ ℕ count_step (λ block. block.cond) (layer_of y) in
        omega (arith, one, other, at_layer y)

    rolled_block : (y : Block-F FewCond FewBlock) → FewInside (roll-Block (block_layer_of y))
    rolled_block y =
        let one : counted_block (roll-Block (block_layer_of y)) ≡ counted y.cond.0 = fold-roll-Block ℕ ℕ step (λ block. block.cond) (block_layer_of y) in
        let other : block_conditions (roll-Block (block_layer_of y)) ≡ count_conditions y.cond.0 = fold-roll-Block ℕ ℕ count_step (λ block. block.cond) (block_layer_of y) in
        let inside : counted y.cond.0 ≤ count_conditions y.cond.0 = y.cond.1 in
        omega (arith, one, other, inside)

    few : (cond : Cond) → Few cond
    few =
        ind-Cond Few FewInside
        (λ x y is. subst (λ z. Few (roll-Cond z)) is (rolled y))
        (λ x y is. subst (λ z. FewInside (roll-Block z)) is (rolled_block y))

-- ---- the three counts

scalars_layer : (y : Cond-F (FewCond scalars_step) (FewBlock scalars_step)) → counted_layer scalars_step y ≤ conditions_layer scalars_step y
scalars_layer Cond-F.True = omega arith
scalars_layer Cond-F.False = omega arith
scalars_layer (Cond-F.And parts) = few_parts scalars_step parts
scalars_layer (Cond-F.Or parts) = few_parts scalars_step parts
scalars_layer (Cond-F.Not part) = omega (arith, part.1)
scalars_layer (Cond-F.Compare op left right span) = omega arith
scalars_layer (Cond-F.IsNull t negated span) = omega arith
scalars_layer (Cond-F.Exists block span) = omega (arith, block.1)
scalars_layer (Cond-F.In t block item negated span) = omega (arith, block.1)
scalars_layer (Cond-F.Scalar op left block item span) = omega (arith, block.1)

pub few_scalars : (cond : Cond) → count_scalars cond ≤ count_conditions cond
few_scalars = few scalars_step scalars_layer

one_at_most : (b : Bool) → (if b then 1 else 0) ≤ 1
one_at_most true = omega arith
one_at_most false = omega arith

not_ins_layer : (y : Cond-F (FewCond not_ins_step) (FewBlock not_ins_step)) → counted_layer not_ins_step y ≤ conditions_layer not_ins_step y
not_ins_layer Cond-F.True = omega arith
not_ins_layer Cond-F.False = omega arith
not_ins_layer (Cond-F.And parts) = few_parts not_ins_step parts
not_ins_layer (Cond-F.Or parts) = few_parts not_ins_step parts
not_ins_layer (Cond-F.Not part) = omega (arith, part.1)
not_ins_layer (Cond-F.Compare op left right span) = omega arith
not_ins_layer (Cond-F.IsNull t negated span) = omega arith
not_ins_layer (Cond-F.Exists block span) = omega (arith, block.1)
not_ins_layer (Cond-F.In t block item negated span) = omega (arith, block.1, one_at_most (negated && is_column item))
not_ins_layer (Cond-F.Scalar op left block item span) = omega (arith, block.1)

pub few_not_ins : (cond : Cond) → count_not_ins cond ≤ count_conditions cond
few_not_ins = few not_ins_step not_ins_layer

predicates_layer : (y : Cond-F (FewCond predicates_step) (FewBlock predicates_step)) → counted_layer predicates_step y ≤ conditions_layer predicates_step y
predicates_layer Cond-F.True = omega arith
predicates_layer Cond-F.False = omega arith
predicates_layer (Cond-F.And parts) = few_parts predicates_step parts
predicates_layer (Cond-F.Or parts) = few_parts predicates_step parts
predicates_layer (Cond-F.Not part) = omega (arith, part.1)
predicates_layer (Cond-F.Compare op left right span) = omega arith
predicates_layer (Cond-F.IsNull t negated span) = omega arith
predicates_layer (Cond-F.Exists block span) = omega (arith, block.1)
predicates_layer (Cond-F.In t block item negated span) = omega (arith, block.1)
predicates_layer (Cond-F.Scalar op left block item span) = omega arith

pub few_predicates : (cond : Cond) → count_predicates cond ≤ count_conditions cond
few_predicates = few predicates_step predicates_layer

-- ---- a query that fits

pub few_conditions : (schema : List Table) (query : Query) → query_fits schema query ≡ true → count_conditions (main_condition query) ≤ 65536
few_conditions schema query fits =
    leb-true (count_conditions (main_condition query)) 65536
    (and_parts (selection_fits schema query && block_fits schema [] query.block) (nat_le (count_conditions (main_condition query)) 65536) fits).1

few_selected : (schema : List Table) (tables : List (List ℕ)) (query : Query) → selection_fits_in schema tables query ≡ true → length query.items ≤ 256
unfolding selection_fits_in
few_selected schema tables query fits =
    let few = nat_le (length query.items) 256 in
    let items = list_all (item_fits schema tables) query.items in
    leb-true (length query.items) 256 (and_parts few items (and_parts (few && items) (list_all (order_fits schema tables) query.order) fits).0).0

pub few_items : (schema : List Table) (query : Query) → query_fits schema query ≡ true → length query.items ≤ 256
few_items schema query fits =
    let block = block_fits schema [] query.block in
    let size = nat_le (count_conditions (main_condition query)) 65536 in
    few_selected schema (main_tables query) query (and_parts (selection_fits schema query) block (and_parts (selection_fits schema query && block) size fits).0).0

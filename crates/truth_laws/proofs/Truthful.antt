-- The formulas of every condition say its truths: by induction over conditions and blocks.
use Rattle.std.proofs.Common.{◌≡◌, subst, sym, true, List}
use Rattle.lint_core.specs.declared.condition.Block.{Block, roll-Block, map-Block}
use Rattle.lint_core.specs.declared.condition.Cond.{Cond, ind-Cond, roll-Cond, map-Cond}
use Rattle.lint_core.specs.declared.condition.Cond.TheVariants as c
use Rattle.lint_core.specs.declared.condition.Cond.TheOpen.{Cond-F, Block-F}
use Rattle.lint_core.specs.declared.database.Database.{Database}
use Rattle.lint_core.specs.declared.schema.Table.{Table}
use Rattle.lint_core.specs.Meets.{is_of_domains}
use Rattle.truth_laws.proofs.Parts.{conds, of_true, of_false, of_and, of_or, of_not, of_compare, of_is_null}
use Rattle.truth_laws.proofs.Spoken.{Says}
use Rattle.truth_laws.proofs.Subqueries.{of_exists, of_in, of_scalar}

module _ (schema : List Table) (db : Database) (domains : is_of_domains schema db ≡ true) where
  abbrev SaysHere : Cond → Type 0
  SaysHere = Says schema db

  abbrev SaysBlock : Block → Type 0
  SaysBlock block = SaysHere block.cond

  abbrev SomeCond : Type 0
  SomeCond = (cond : Cond) × SaysHere cond

  abbrev SomeBlock : Type 0
  SomeBlock = (block : Block) × SaysBlock block

  abbrev part_of : Cond-F SomeCond SomeBlock → Cond-F Cond Block
  part_of = map-Cond SomeCond SomeBlock Cond Block (λ e. e.0) (λ e. e.0)

  abbrev block_part_of : Block-F SomeCond SomeBlock → Block-F Cond Block
  block_part_of = map-Block SomeCond SomeBlock Cond Block (λ e. e.0) (λ e. e.0)

  at_layer : (y : Cond-F SomeCond SomeBlock) → SaysHere (roll-Cond (part_of y))
  at_layer Cond-F.True = subst SaysHere (sym c.rolls-True) (of_true schema db)
  at_layer Cond-F.False = subst SaysHere (sym c.rolls-False) (of_false schema db)
  at_layer (Cond-F.And parts) = subst SaysHere (sym (c.rolls-And (conds schema db parts))) (of_and schema db parts)
  at_layer (Cond-F.Or parts) = subst SaysHere (sym (c.rolls-Or (conds schema db parts))) (of_or schema db parts)
  at_layer (Cond-F.Not part) = subst SaysHere (sym (c.rolls-Not part.0)) (of_not schema db part.0 part.1)
  at_layer (Cond-F.Compare op left right span) = subst SaysHere (sym (c.rolls-Compare op left right span)) (of_compare schema db domains op left right span)
  at_layer (Cond-F.IsNull t negated span) = subst SaysHere (sym (c.rolls-IsNull t negated span)) (of_is_null schema db domains t negated span)
  at_layer (Cond-F.Exists block span) = subst SaysHere (sym (c.rolls-Exists block.0 span)) (of_exists schema db domains block.0 span block.1)
  at_layer (Cond-F.In t block item negated span) =
      subst SaysHere (sym (c.rolls-In t block.0 item negated span)) (of_in schema db domains t block.0 item negated span block.1)
  at_layer (Cond-F.Scalar op left block item span) =
      subst SaysHere (sym (c.rolls-Scalar op left block.0 item span)) (of_scalar schema db domains op left block.0 item span block.1)

  at_block : (y : Block-F SomeCond SomeBlock) → SaysBlock (roll-Block (block_part_of y))
  at_block y = y.cond.1

  pub says : (cond : Cond) → SaysHere cond
  says =
      ind-Cond SaysHere SaysBlock
      (λ x y is. subst (λ z. SaysHere (roll-Cond z)) is (at_layer y))
      (λ x y is. subst (λ z. SaysBlock (roll-Block z)) is (at_block y))

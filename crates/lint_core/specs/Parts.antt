-- For definitions by layers that need each part itself beside what was made of it, to list it or to leave it as
-- it was. `described` gives both; `itself` is the part, put together again from its layers and equal to it.
use Rattle.lint_core.specs.declared.condition.Cond.{Cond, fold-Cond, roll-Cond, map-Cond}
use Rattle.lint_core.specs.declared.condition.Cond.TheOpen.{Cond-F, Block-F}
use Rattle.lint_core.specs.declared.condition.Block.{Block, roll-Block, map-Block}

pub record With (T A : Type 0) : Type 0 where
  pub itself : T
  pub meaning : A

module _ (A B : Type 0) where
  -- a condition, and a block, of such parts
  abbrev pub cond_itself : Cond-F (With Cond A) (With Block B) → Cond
  cond_itself layer = roll-Cond (map-Cond (With Cond A) (With Block B) Cond Block (λ part. part.itself) (λ block. block.itself) layer)

  abbrev pub block_itself : Block-F (With Cond A) (With Block B) → Block
  block_itself layer = roll-Block (map-Block (With Cond A) (With Block B) Cond Block (λ part. part.itself) (λ block. block.itself) layer)

  module _ (cond_step : Cond-F (With Cond A) (With Block B) → A) (block_step : Block-F (With Cond A) (With Block B) → B) where
    abbrev pub described : Cond → With Cond A
    described =
        fold-Cond (With Cond A) (With Block B)
        (λ layer. record { itself = cond_itself layer; meaning = cond_step layer })
        (λ layer. record { itself = block_itself layer; meaning = block_step layer })

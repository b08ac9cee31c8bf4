-- A condition with a predicate replaced, part by part: the number of the predicate among those that come, none once
-- it is replaced.
use Rattle.std.specs.Prelude.{ℕ, zero, suc, ◌-◌, Bool, true, false, List, [], ◌∷◌, length, Option, None, Some, nat_lt, if◌then◌else◌}
use Rattle.lint_core.specs.declared.condition.Cond.{Cond}
use Rattle.lint_core.specs.declared.condition.Block.{Block, out-Block, roll-Block}
use Rattle.lint_core.specs.Predicates.{predicates, with_replaced}

abbrev pub is_zero : Option ℕ → Bool
is_zero None = false
is_zero (Some zero) = true
is_zero (Some (suc n)) = false

-- what is left of the number after so many predicates
abbrev pub after : Option ℕ → ℕ → Option ℕ
after None count = None
after (Some n) count = if nat_lt n count then None else Some (n - count)

module _ (by : Cond) where
  abbrev pub replaced_at : Option ℕ → Cond → Cond
  replaced_at None c = c
  replaced_at (Some n) c = with_replaced by n c

  abbrev pub parts_at : Option ℕ → List Cond → List Cond
  parts_at left [] = []
  parts_at left (part ∷ parts) = replaced_at left part ∷ parts_at (after left (length (predicates part))) parts

  -- a predicate without predicates of its own inside
  abbrev pub alone_at : Option ℕ → Cond → Cond
  alone_at left c = if is_zero left then by else c

  abbrev pub block_at : Option ℕ → Block → Block
  block_at left block = roll-Block (record { entries = (out-Block block).entries; cond = replaced_at left (out-Block block).cond; span = (out-Block block).span })

  -- the block of a predicate, if it is not that predicate which is replaced
  abbrev pub around_at : Option ℕ → Block → Option Block
  around_at left block = if is_zero left then None else Some (block_at (after left 1) block)

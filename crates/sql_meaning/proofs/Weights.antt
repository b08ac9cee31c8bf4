-- A measure of conditions and blocks under which the evaluation ends: it goes down into parts, and through the
-- entries of a block.
use Rattle.std.proofs.Common.{◌≡◌, ◌∙◌, ◌+◌, ap, ℕ, Bool, List, length}
use Rattle.std.proofs.lemmas.List.Sums.{sum-map}
use Rattle.std.specs.List.{sum_by}
use Rattle.std.specs.Prelude.{sum}
use Rattle.lint_base.specs.declared.place.Span.{Span}
use Rattle.lint_core.specs.declared.condition.Block.{Block, fold-Block, fold_out-Block, out-Block}
use Rattle.lint_core.specs.declared.condition.Cond.TheOpen.{Cond-F, Block-F}
use Rattle.lint_core.specs.declared.condition.Cond.TheVariants as c
use Rattle.lint_core.specs.declared.condition.Cond.{Cond, fold-Cond, fold_out-Cond, map-Cond, out-Cond}
use Rattle.lint_core.specs.declared.condition.Term.{Term}
use Rattle.lint_tables.specs.declared.op.Op.{Op}

abbrev pub cond_step : Cond-F ℕ ℕ → ℕ
cond_step Cond-F.True = 1
cond_step Cond-F.False = 1
cond_step (Cond-F.And parts) = 2 + sum parts
cond_step (Cond-F.Or parts) = 2 + sum parts
cond_step (Cond-F.Not part) = 1 + part
cond_step (Cond-F.Compare op left right span) = 1
cond_step (Cond-F.IsNull term negated span) = 1
cond_step (Cond-F.Exists block span) = 2 + block
cond_step (Cond-F.In term block item negated span) = 2 + block
cond_step (Cond-F.Scalar op left block item span) = 2 + block

abbrev pub block_step : Block-F ℕ ℕ → ℕ
block_step block = 3 + length block.entries + block.cond

abbrev pub weight : Cond → ℕ
weight = fold-Cond ℕ ℕ cond_step block_step

abbrev pub block_weight : Block → ℕ
block_weight = fold-Block ℕ ℕ cond_step block_step

abbrev layer_weight : Cond-F Cond Block → ℕ
layer_weight layer = cond_step (map-Cond Cond Block ℕ ℕ weight block_weight layer)

weight_out : (cond : Cond) → weight cond ≡ layer_weight (out-Cond cond)
weight_out cond = fold_out-Cond ℕ ℕ cond_step block_step cond

pub weight_block : (block : Block) → block_weight block ≡ 3 + length (out-Block block).entries + weight (out-Block block).cond
weight_block block = fold_out-Block ℕ ℕ cond_step block_step block

pub weight_and : (parts : List Cond) → weight (c.And parts) ≡ 2 + sum_by weight parts
weight_and parts = weight_out (c.And parts) ∙ (ap layer_weight (c.outs-And parts) ∙ ap (λ n. 2 + n) (sum-map weight parts))

pub weight_or : (parts : List Cond) → weight (c.Or parts) ≡ 2 + sum_by weight parts
weight_or parts = weight_out (c.Or parts) ∙ (ap layer_weight (c.outs-Or parts) ∙ ap (λ n. 2 + n) (sum-map weight parts))

pub weight_not : (part : Cond) → weight (c.Not part) ≡ 1 + weight part
weight_not part = weight_out (c.Not part) ∙ ap layer_weight (c.outs-Not part)

pub weight_exists : (block : Block) (span : Span) → weight (c.Exists block span) ≡ 2 + block_weight block
weight_exists block span = weight_out (c.Exists block span) ∙ ap layer_weight (c.outs-Exists block span)

pub weight_in : (term : Term) (block : Block) (item : Term) (negated : Bool) (span : Span) → weight (c.In term block item negated span) ≡ 2 + block_weight block
weight_in term block item negated span = weight_out (c.In term block item negated span) ∙ ap layer_weight (c.outs-In term block item negated span)

pub weight_scalar : (op : Op) (left : Term) (block : Block) (item : Term) (span : Span) → weight (c.Scalar op left block item span) ≡ 2 + block_weight block
weight_scalar op left block item span = weight_out (c.Scalar op left block item span) ∙ ap layer_weight (c.outs-Scalar op left block item span)

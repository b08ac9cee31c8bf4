-- The numbers of a condition of each kind, by its parts.
use Rattle.std.proofs.Common.{◌≡◌, ◌∙◌, ◌⊎◌, inl, inr, ap, Bool, true, ◌&&◌, List}
use Rattle.std.proofs.lemmas.List.Folds.{list_all-map}
use Rattle.std.specs.List.{list_all}
use Rattle.lint_base.specs.declared.place.Span.{Span}
use Rattle.lint_tables.specs.declared.op.Op.{Op}
use Rattle.lint_core.specs.declared.condition.Block.{Block, out-Block, fold-Block, fold_out-Block}
use Rattle.lint_core.specs.declared.condition.Cond.{Cond, out-Cond, fold_out-Cond, map-Cond}
use Rattle.lint_core.specs.declared.condition.Cond.TheOpen.{Cond-F}
use Rattle.lint_core.specs.declared.condition.Cond.TheVariants as c
use Rattle.lint_core.specs.declared.condition.Term.{Term}
use Rattle.counter_forms.specs.SmallNumbers.{has_small_numbers, small_step, term_is_small}

-- those inside a subquery
abbrev pub block_small : Block → Bool
block_small block = has_small_numbers (out-Block block).cond

block_is : (block : Block) → fold-Block Bool Bool small_step (λ block. block.cond) block ≡ block_small block
block_is block = fold_out-Block Bool Bool small_step (λ block. block.cond) block

abbrev layer_small : Cond-F Cond Block → Bool
layer_small layer = small_step (map-Cond Cond Block Bool Bool has_small_numbers (fold-Block Bool Bool small_step (λ block. block.cond)) layer)

small_out : (cond : Cond) (layer : Cond-F Cond Block) → out-Cond cond ≡ layer → has_small_numbers cond ≡ layer_small layer
small_out cond layer is = fold_out-Cond Bool Bool small_step (λ block. block.cond) cond ∙ ap layer_small is

pub small_true : has_small_numbers c.True ≡ true
small_true = small_out c.True _ c.outs-True

pub small_false : has_small_numbers c.False ≡ true
small_false = small_out c.False _ c.outs-False

pub small_and : (parts : List Cond) → has_small_numbers (c.And parts) ≡ list_all has_small_numbers parts
small_and parts = small_out (c.And parts) _ (c.outs-And parts) ∙ list_all-map (λ part. part) has_small_numbers parts

pub small_or : (parts : List Cond) → has_small_numbers (c.Or parts) ≡ list_all has_small_numbers parts
small_or parts = small_out (c.Or parts) _ (c.outs-Or parts) ∙ list_all-map (λ part. part) has_small_numbers parts

pub small_not : (part : Cond) → has_small_numbers (c.Not part) ≡ has_small_numbers part
small_not part = small_out (c.Not part) _ (c.outs-Not part)

pub small_compare : (op : Op) (left right : Term) (span : Span) → has_small_numbers (c.Compare op left right span) ≡ (term_is_small left && term_is_small right)
small_compare op left right span = small_out (c.Compare op left right span) _ (c.outs-Compare op left right span)

pub small_exists : (block : Block) (span : Span) → has_small_numbers (c.Exists block span) ≡ block_small block
small_exists block span = small_out (c.Exists block span) _ (c.outs-Exists block span) ∙ block_is block

pub small_in : (t : Term) (block : Block) (item : Term) (negated : Bool) (span : Span) →
    has_small_numbers (c.In t block item negated span) ≡ (term_is_small t && term_is_small item && block_small block)
small_in t block item negated span =
    small_out (c.In t block item negated span) _ (c.outs-In t block item negated span) ∙ ap (λ b. term_is_small t && term_is_small item && b) (block_is block)

pub small_scalar : (op : Op) (left : Term) (block : Block) (item : Term) (span : Span) →
    has_small_numbers (c.Scalar op left block item span) ≡ (term_is_small left && term_is_small item && block_small block)
small_scalar op left block item span =
    small_out (c.Scalar op left block item span) _ (c.outs-Scalar op left block item span) ∙ ap (λ b. term_is_small left && term_is_small item && b) (block_is block)

pub small_parts : (cond : Cond) (parts : List Cond) → (cond ≡ c.And parts) ⊎ (cond ≡ c.Or parts) → has_small_numbers cond ≡ list_all has_small_numbers parts
small_parts cond parts (inl is_and) = ap has_small_numbers is_and ∙ small_and parts
small_parts cond parts (inr is_or) = ap has_small_numbers is_or ∙ small_or parts

-- What a condition of each kind means, by its parts.
use Rattle.std.proofs.Common.{◌≡◌, ◌∙◌, ap, refl, ℕ, Bool, true, false, List, [], ◌∷◌, map}
use Rattle.std.proofs.lemmas.Simd.{map-map}
use Rattle.std.specs.Prelude.{Ok, Err, ◌&&◌, if◌then◌else◌}
use Rattle.lint_base.specs.declared.place.Span.{Span}
use Rattle.lint_tables.specs.declared.op.Op.{Op}
use Rattle.lint_core.specs.declared.condition.Entry.{Entry}
use Rattle.lint_core.specs.declared.condition.Term.{Term}
use Rattle.lint_core.specs.declared.condition.Cond.{Cond, out-Cond, fold_out-Cond, map-Cond}
use Rattle.lint_core.specs.declared.condition.Cond.TheVariants as c
use Rattle.lint_core.specs.declared.condition.Cond.TheOpen.{Cond-F}
use Rattle.lint_core.specs.declared.condition.Block.{Block, fold-Block, fold_out-Block}
use Rattle.lint_core.specs.declared.database.Truth.{Truth}
use Rattle.lint_core.specs.declared.database.Truth.TheVariants.{False, Unknown, True}
use Rattle.lint_core.specs.declared.database.Database.{Database}
use Rattle.lint_core.specs.Condition.{truth, has_truth, Meaning, BlockMeaning, cond_step, block_step, inner_bindings, term_value, selected, exists_truth, in_truth, items_at, scalar_value}
use Rattle.lint_core.specs.Truth.{is_true, truth_of, not_of, negated_if, least, and_of, or_of}
use Rattle.lint_core.specs.Comparison.{compare, is_null}
use Rattle.lint_core.specs.Evaluation.{Evaluated, and_then, map_ok, all_ok, all_hold}
use Rattle.lint_core.specs.Question.{is_known_true}

pub true_of_test : (b : Bool) → is_true (truth_of b) ≡ b
true_of_test true = refl
true_of_test false = refl

pub least_true : (a b : Truth) → is_true (least a b) ≡ (is_true a && is_true b)
least_true False b = refl
least_true Unknown False = refl
least_true Unknown Unknown = refl
least_true Unknown True = refl
least_true True b = refl

module _ (db : Database) where
  -- the meaning of a block
  abbrev pub block_truth : Block → BlockMeaning
  block_truth = fold-Block Meaning BlockMeaning (cond_step db) (block_step db)

  -- what a condition means, by its outermost layer
  abbrev pub layer_truth : Cond-F Cond Block → Meaning
  layer_truth layer = cond_step db (map-Cond Cond Block Meaning BlockMeaning (truth db) block_truth layer)

  pub truth_out : (cond : Cond) → truth db cond ≡ layer_truth (out-Cond cond)
  truth_out cond = fold_out-Cond Meaning BlockMeaning (cond_step db) (block_step db) cond

  pub block_truth_is : (block : Block) → block_truth block ≡ record { place = block.span; bindings = inner_bindings db (map (λ (e : Entry). e.table) block.entries) (truth db block.cond) }
  block_truth_is block = fold_out-Block Meaning BlockMeaning (cond_step db) (block_step db) block

  pub truth_compare : (op : Op) (left right : Term) (span : Span) (tables binding : List (List ℕ)) →
      truth db (c.Compare op left right span) tables binding ≡ Ok (compare op (term_value db tables binding left) (term_value db tables binding right))
  truth_compare op left right span tables binding =
      ap (λ m. m tables binding) (truth_out (c.Compare op left right span) ∙ ap layer_truth (c.outs-Compare op left right span))

  pub truth_and : (parts : List Cond) (tables binding : List (List ℕ)) →
      truth db (c.And parts) tables binding ≡ map_ok and_of (all_ok (map (λ part. truth db part tables binding) parts))
  truth_and parts tables binding =
      ap (λ m. m tables binding) (truth_out (c.And parts) ∙ ap layer_truth (c.outs-And parts))
      ∙ ap (λ ts. map_ok and_of (all_ok ts)) (map-map (λ part. part tables binding) (truth db) parts)

  pub truth_or : (parts : List Cond) (tables binding : List (List ℕ)) →
      truth db (c.Or parts) tables binding ≡ map_ok or_of (all_ok (map (λ part. truth db part tables binding) parts))
  truth_or parts tables binding =
      ap (λ m. m tables binding) (truth_out (c.Or parts) ∙ ap layer_truth (c.outs-Or parts))
      ∙ ap (λ ts. map_ok or_of (all_ok ts)) (map-map (λ part. part tables binding) (truth db) parts)

  pub truth_true : (tables binding : List (List ℕ)) → truth db c.True tables binding ≡ Ok True
  truth_true tables binding = ap (λ m. m tables binding) (truth_out c.True ∙ ap layer_truth c.outs-True)

  pub truth_false : (tables binding : List (List ℕ)) → truth db c.False tables binding ≡ Ok False
  truth_false tables binding = ap (λ m. m tables binding) (truth_out c.False ∙ ap layer_truth c.outs-False)

  pub truth_not : (part : Cond) (tables binding : List (List ℕ)) →
      truth db (c.Not part) tables binding ≡ map_ok not_of (truth db part tables binding)
  truth_not part tables binding = ap (λ m. m tables binding) (truth_out (c.Not part) ∙ ap layer_truth (c.outs-Not part))

  pub truth_is_null : (term : Term) (negated : Bool) (span : Span) (tables binding : List (List ℕ)) →
      truth db (c.IsNull term negated span) tables binding ≡ Ok (negated_if negated (truth_of (is_null (term_value db tables binding term))))
  truth_is_null term negated span tables binding =
      ap (λ m. m tables binding) (truth_out (c.IsNull term negated span) ∙ ap layer_truth (c.outs-IsNull term negated span))

  pub truth_exists : (block : Block) (span : Span) (tables binding : List (List ℕ)) →
      truth db (c.Exists block span) tables binding ≡ map_ok exists_truth (selected ((block_truth block).bindings tables binding))
  truth_exists block span tables binding =
      ap (λ m. m tables binding) (truth_out (c.Exists block span) ∙ ap layer_truth (c.outs-Exists block span))

  pub truth_in : (term : Term) (block : Block) (item : Term) (negated : Bool) (span : Span) (tables binding : List (List ℕ)) →
      truth db (c.In term block item negated span) tables binding ≡ map_ok (λ inners. negated_if negated (in_truth (term_value db tables binding term) (items_at db item inners))) (selected ((block_truth block).bindings tables binding))
  truth_in term block item negated span tables binding =
      ap (λ m. m tables binding) (truth_out (c.In term block item negated span) ∙ ap layer_truth (c.outs-In term block item negated span))

  pub truth_scalar : (op : Op) (left : Term) (block : Block) (item : Term) (span : Span) (tables binding : List (List ℕ)) →
      truth db (c.Scalar op left block item span) tables binding ≡ and_then (λ inners. map_ok (compare op (term_value db tables binding left)) (scalar_value (block_truth block).place (items_at db item inners))) (selected ((block_truth block).bindings tables binding))
  truth_scalar op left block item span tables binding =
      ap (λ m. m tables binding) (truth_out (c.Scalar op left block item span) ∙ ap layer_truth (c.outs-Scalar op left block item span))

-- E1 is refuted at a binding of the entries at which the condition is true
pub known : (bound : Bool) (truth : Evaluated Truth) →
    is_known_true (if bound then all_hold (map_ok is_true truth ∷ []) else Ok false) ≡ (bound && has_truth is_true truth)
known false truth = refl
known true (Err place) = refl
known true (Ok truth) = at_truth (is_true truth)
  where
    at_truth : (b : Bool) → (b && true) ≡ b
    at_truth true = refl
    at_truth false = refl

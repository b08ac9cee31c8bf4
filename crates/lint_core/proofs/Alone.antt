-- Which of the conjuncts that do not name an entry have a scalar subquery.
use Rattle.std.proofs.Common.{◌≡◌, ◌∙◌, refl, sym, ap, subst, ℕ, Bool, true, false, ◌&&◌, ◌||◌, not, List, [], ◌∷◌, map}
use Rattle.std.proofs.lemmas.List.Elements.{filter-append}
use Rattle.std.proofs.lemmas.List.Folds.{list_any-append}
use Rattle.std.specs.List.{list_any, filter, flat_map}
use Rattle.lint_core.specs.declared.condition.Cond.{Cond, ind-Cond, roll-Cond, map-Cond}
use Rattle.lint_core.specs.declared.condition.Cond.TheOpen.{Cond-F}
use Rattle.lint_core.specs.declared.condition.Block.{Block}
use Rattle.lint_core.specs.declared.condition.Cond.TheVariants as cond
use Rattle.lint_core.specs.Conjuncts.{conjuncts}
use Rattle.lint_core.specs.Naming.{names, has_scalar}
use Rattle.lint_core.specs.inner.ScalarWithout.{has_scalar_without}
use Rattle.lint_core.proofs.Parted.{conjuncts_true, conjuncts_false, conjuncts_and, conjuncts_or, conjuncts_not, conjuncts_compare, conjuncts_is_null, conjuncts_exists, conjuncts_in, conjuncts_scalar}

module _ (entry : ℕ) where
  abbrev is_other : Cond → Bool
  is_other c = not (names entry c)

  without_parts : (parts : List Cond) → list_any has_scalar (filter is_other (flat_map conjuncts parts)) ≡ list_any (has_scalar_without entry) parts
  without_parts [] = refl
  without_parts (part ∷ parts) =
      ap (list_any has_scalar) (filter-append is_other (conjuncts part) (flat_map conjuncts parts))
      ∙ (list_any-append has_scalar (filter is_other (conjuncts part)) (filter is_other (flat_map conjuncts parts))
      ∙ ap (λ b. has_scalar_without entry part || b) (without_parts parts))

  pub without_and : (parts : List Cond) → has_scalar_without entry (cond.And parts) ≡ list_any (has_scalar_without entry) parts
  without_and parts = ap (λ cs. list_any has_scalar (filter is_other cs)) (conjuncts_and parts) ∙ without_parts parts

  one_alone : (unnamed scalar : Bool) (c : Cond) → is_other c ≡ unnamed → has_scalar c ≡ scalar → list_any has_scalar (filter is_other (c ∷ [])) ≡ (unnamed && scalar)
  one_alone true true c e f = simp (e, f) refl
  one_alone true false c e f = simp (e, f) refl
  one_alone false s c e f = simp e refl

  pub without_alone : (c : Cond) → conjuncts c ≡ c ∷ [] → has_scalar_without entry c ≡ (is_other c && has_scalar c)
  without_alone c alone = ap (λ cs. list_any has_scalar (filter is_other cs)) alone ∙ one_alone (is_other c) (has_scalar c) c refl refl

-- ---- what is no conjunction is one conjunct

abbrev IsAlone : Cond → Type 0
IsAlone c = conjuncts c ≡ c ∷ []

abbrev AloneIfNoAnd : Cond → Type 0
AloneIfNoAnd c = ((parts : List Cond) → c ≡ cond.And parts → ⊥) → IsAlone c

abbrev AnyCond : Type 0
AnyCond = (c : Cond) × AloneIfNoAnd c

abbrev AnyBlock : Type 0
AnyBlock = (block : Block) × Unit {0}

alone_layer : (y : Cond-F AnyCond AnyBlock) → AloneIfNoAnd (roll-Cond (map-Cond AnyCond AnyBlock Cond Block (λ e. e.0) (λ e. e.0) y))
alone_layer Cond-F.True never = subst IsAlone (sym cond.rolls-True) conjuncts_true
alone_layer Cond-F.False never = subst IsAlone (sym cond.rolls-False) conjuncts_false
alone_layer (Cond-F.And parts) never = absurd (never (map (λ (e : AnyCond). e.0) parts) (cond.rolls-And (map (λ (e : AnyCond). e.0) parts)))
alone_layer (Cond-F.Or parts) never = subst IsAlone (sym (cond.rolls-Or (map (λ (e : AnyCond). e.0) parts))) (conjuncts_or (map (λ (e : AnyCond). e.0) parts))
alone_layer (Cond-F.Not part) never = subst IsAlone (sym (cond.rolls-Not part.0)) (conjuncts_not part.0)
alone_layer (Cond-F.Compare op left right span) never = subst IsAlone (sym (cond.rolls-Compare op left right span)) (conjuncts_compare op left right span)
alone_layer (Cond-F.IsNull t negated span) never = subst IsAlone (sym (cond.rolls-IsNull t negated span)) (conjuncts_is_null t negated span)
alone_layer (Cond-F.Exists block span) never = subst IsAlone (sym (cond.rolls-Exists block.0 span)) (conjuncts_exists block.0 span)
alone_layer (Cond-F.In t block item negated span) never = subst IsAlone (sym (cond.rolls-In t block.0 item negated span)) (conjuncts_in t block.0 item negated span)
alone_layer (Cond-F.Scalar op left block item span) never = subst IsAlone (sym (cond.rolls-Scalar op left block.0 item span)) (conjuncts_scalar op left block.0 item span)

pub alone : (c : Cond) → AloneIfNoAnd c
alone = ind-Cond AloneIfNoAnd (λ block. Unit {0}) (λ x y is. subst (λ z. AloneIfNoAnd (roll-Cond z)) is (alone_layer y)) (λ x y is. tt)

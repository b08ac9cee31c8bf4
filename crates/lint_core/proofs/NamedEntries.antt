-- A conjunction, and a disjunction, names an entry, and has a scalar subquery, where one of its parts does.
use Rattle.std.proofs.Common.{◌≡◌, ◌∙◌, ◌⊎◌, inl, inr, ap, sym, ℕ, Bool, List}
use Rattle.std.specs.List.{list_any}
use Rattle.lint_core.specs.declared.condition.Cond.{Cond}
use Rattle.lint_core.specs.declared.condition.Cond.TheVariants as cond
use Rattle.lint_core.specs.declared.condition.Cond.TheOpen.{Cond-F}
use Rattle.lint_core.specs.declared.condition.Cond.TheFolds.{fold-roll-Cond}
use Rattle.lint_core.specs.Naming.{names_step, names, scalar_step, has_scalar}
use Rattle.lint_base.proofs.Lists.{any_map}

module _ (entry : ℕ) where
  names_and : (parts : List Cond) → names entry (cond.And parts) ≡ list_any (names entry) parts
  names_and parts =
      ap (names entry) (sym (cond.rolls-And parts))
      ∙ (fold-roll-Cond Bool Bool (names_step entry) (λ block. block.cond) (Cond-F.And parts) ∙ any_map (names entry) (λ part. part) parts)

  names_or : (parts : List Cond) → names entry (cond.Or parts) ≡ list_any (names entry) parts
  names_or parts =
      ap (names entry) (sym (cond.rolls-Or parts))
      ∙ (fold-roll-Cond Bool Bool (names_step entry) (λ block. block.cond) (Cond-F.Or parts) ∙ any_map (names entry) (λ part. part) parts)

  pub names_parts : (c : Cond) (parts : List Cond) → (c ≡ cond.And parts) ⊎ (c ≡ cond.Or parts) → names entry c ≡ list_any (names entry) parts
  names_parts c parts (inl is_and) = ap (names entry) is_and ∙ names_and parts
  names_parts c parts (inr is_or) = ap (names entry) is_or ∙ names_or parts

scalar_and : (parts : List Cond) → has_scalar (cond.And parts) ≡ list_any has_scalar parts
scalar_and parts =
    ap has_scalar (sym (cond.rolls-And parts))
    ∙ (fold-roll-Cond Bool Bool scalar_step (λ block. block.cond) (Cond-F.And parts) ∙ any_map has_scalar (λ part. part) parts)

scalar_or : (parts : List Cond) → has_scalar (cond.Or parts) ≡ list_any has_scalar parts
scalar_or parts =
    ap has_scalar (sym (cond.rolls-Or parts))
    ∙ (fold-roll-Cond Bool Bool scalar_step (λ block. block.cond) (Cond-F.Or parts) ∙ any_map has_scalar (λ part. part) parts)

pub scalar_parts : (c : Cond) (parts : List Cond) → (c ≡ cond.And parts) ⊎ (c ≡ cond.Or parts) → has_scalar c ≡ list_any has_scalar parts
scalar_parts c parts (inl is_and) = ap has_scalar is_and ∙ scalar_and parts
scalar_parts c parts (inr is_or) = ap has_scalar is_or ∙ scalar_or parts

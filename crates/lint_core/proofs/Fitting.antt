-- A conjunction, and a disjunction, fits, and has no subquery, where each of its parts does.
use Rattle.std.proofs.Common.{◌≡◌, ◌∙◌, ◌⊎◌, inl, inr, ap, sym, ℕ, Bool, false, List}
use Rattle.std.proofs.lemmas.List.Folds.{list_all-map}
use Rattle.std.specs.List.{list_all}
use Rattle.lint_core.specs.declared.condition.Cond.{Cond}
use Rattle.lint_core.specs.declared.condition.Cond.TheVariants as cond
use Rattle.lint_core.specs.declared.condition.Cond.TheOpen.{Cond-F}
use Rattle.lint_core.specs.declared.condition.Cond.TheFolds.{fold-roll-Cond}
use Rattle.lint_core.specs.declared.schema.Table.{Table}
use Rattle.lint_core.specs.Fits.{Meaning, BlockMeaning, fits_step, block_step, cond_fits, flat_step, is_flat}

module _ (schema : List Table) (tables : List (List ℕ)) where
  pub fits_and : (parts : List Cond) → cond_fits schema tables (cond.And parts) ≡ list_all (cond_fits schema tables) parts
  fits_and parts =
      ap (cond_fits schema tables) (sym (cond.rolls-And parts))
      ∙ (ap (λ m. m tables) (fold-roll-Cond Meaning BlockMeaning (fits_step schema) (block_step schema) (Cond-F.And parts))
      ∙ list_all-map (λ (m : Meaning). m tables) (λ c ts. cond_fits schema ts c) parts)

  pub fits_or : (parts : List Cond) → cond_fits schema tables (cond.Or parts) ≡ list_all (cond_fits schema tables) parts
  fits_or parts =
      ap (cond_fits schema tables) (sym (cond.rolls-Or parts))
      ∙ (ap (λ m. m tables) (fold-roll-Cond Meaning BlockMeaning (fits_step schema) (block_step schema) (Cond-F.Or parts))
      ∙ list_all-map (λ (m : Meaning). m tables) (λ c ts. cond_fits schema ts c) parts)

  pub fits_parts : (c : Cond) (parts : List Cond) → (c ≡ cond.And parts) ⊎ (c ≡ cond.Or parts) → cond_fits schema tables c ≡ list_all (cond_fits schema tables) parts
  fits_parts c parts (inl is_and) = ap (cond_fits schema tables) is_and ∙ fits_and parts
  fits_parts c parts (inr is_or) = ap (cond_fits schema tables) is_or ∙ fits_or parts

pub flat_and : (parts : List Cond) → is_flat (cond.And parts) ≡ list_all is_flat parts
flat_and parts = ap is_flat (sym (cond.rolls-And parts)) ∙ (fold-roll-Cond Bool Bool flat_step (λ block. false) (Cond-F.And parts) ∙ list_all-map (λ part. part) is_flat parts)

pub flat_or : (parts : List Cond) → is_flat (cond.Or parts) ≡ list_all is_flat parts
flat_or parts = ap is_flat (sym (cond.rolls-Or parts)) ∙ (fold-roll-Cond Bool Bool flat_step (λ block. false) (Cond-F.Or parts) ∙ list_all-map (λ part. part) is_flat parts)

pub flat_parts : (c : Cond) (parts : List Cond) → (c ≡ cond.And parts) ⊎ (c ≡ cond.Or parts) → is_flat c ≡ list_all is_flat parts
flat_parts c parts (inl is_and) = ap is_flat is_and ∙ flat_and parts
flat_parts c parts (inr is_or) = ap is_flat is_or ∙ flat_or parts

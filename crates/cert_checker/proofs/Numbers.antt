-- The number of the first wrong step, step by step.
use Rattle.std.proofs.Common.{◌≡◌, ◌∙◌, sym, ap, ap₂, refl, ℕ, suc, ◌+◌, ◌<◌, true, false, List, [], ◌∷◌, ◌++◌, length, drop, get_or, add-one, drop-cons}
use Rattle.std.specs.Prelude.{Option, Some, None, option_map}
use Rattle.std.specs.Option.{option_map_or}
use Rattle.std.proofs.lemmas.Option.{same_Some}
use Rattle.lint_core.specs.declared.certificate.Step.{Step}
use Rattle.lint_core.specs.declared.schema.Table.{Table}
use Rattle.sort_formula.specs.Certificate.{are_closed, children, first_wrong}
use Rattle.sort_formula.specs.Facts.{Branch}
use Rattle.cert_checker.specs.inner.Branches.{advanced}

module _ (schema : List Table) (number : ℕ) where
  abbrev goes_on : List Step → List Branch → Option (List Branch) → Option ℕ
  goes_on steps rest made = option_map_or (λ bs. first_wrong (suc number) schema steps (bs ++ rest)) made (Some number)

  made_right : (steps : List Step) (rest : List Branch) (made : Option (List Branch)) (bs : List Branch) → option_map (λ bs. bs ++ rest) made ≡ Some bs →
      goes_on steps rest made ≡ first_wrong (suc number) schema steps bs
  made_right steps rest (Some ms) bs is = ap (first_wrong (suc number) schema steps) (same_Some (ms ++ rest) bs is)
  made_right steps rest None bs is = cc

  made_wrong : (steps : List Step) (rest : List Branch) (made : Option (List Branch)) → option_map (λ bs. bs ++ rest) made ≡ None → goes_on steps rest made ≡ Some number
  made_wrong steps rest (Some ms) is = cc
  made_wrong steps rest None is = refl

  right_step : (s : Step) (steps : List Step) (now bs : List Branch) → advanced schema s now ≡ Some bs →
      first_wrong number schema (s ∷ steps) now ≡ first_wrong (suc number) schema steps bs
  right_step s steps [] bs is = cc
  right_step s steps (b ∷ now) bs is = made_right steps now (children schema b s) bs is

  wrong_step_is : (s : Step) (steps : List Step) (now : List Branch) → advanced schema s now ≡ None → first_wrong number schema (s ∷ steps) now ≡ Some number
  wrong_step_is s steps [] is = refl
  wrong_step_is s steps (b ∷ now) is = made_wrong steps now (children schema b s) is

  -- no step is left
  pub end_closed : (now : List Branch) → are_closed now ≡ true → first_wrong number schema [] now ≡ None
  end_closed [] closed = refl
  end_closed (b ∷ now) closed = cc

  pub end_open : (now : List Branch) → are_closed now ≡ false → first_wrong number schema [] now ≡ Some number
  end_open [] closed = cc
  end_open (b ∷ now) closed = refl

-- ---- the steps that are left

module _ (schema : List Table) (steps : List Step) (index : ℕ) (within : index < length steps) (s : Step) (item : s ≡ get_or steps index s) (now bs : List Branch) where
  next_step : drop index steps ≡ s ∷ drop (index + 1) steps
  next_step = drop-cons steps index s within ∙ ap₂ (λ (first : Step) n. first ∷ drop n steps) (sym item) (sym (add-one index))

  pub next_right : advanced schema s now ≡ Some bs →
      first_wrong ((index + 1) + 1) schema (drop (index + 1) steps) bs ≡ first_wrong (index + 1) schema (drop index steps) now
  next_right is =
      ap (λ n. first_wrong n schema (drop (index + 1) steps) bs) (add-one (index + 1))
      ∙ (sym (right_step schema (index + 1) s (drop (index + 1) steps) now bs is)
      ∙ sym (ap (λ left. first_wrong (index + 1) schema left now) next_step))

  pub next_wrong : advanced schema s now ≡ None → first_wrong (index + 1) schema (drop index steps) now ≡ Some (index + 1)
  next_wrong is = ap (λ left. first_wrong (index + 1) schema left now) next_step ∙ wrong_step_is schema (index + 1) s (drop (index + 1) steps) now is

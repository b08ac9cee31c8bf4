-- The literals of choices, clause by clause.
use Rattle.std.proofs.Common.{◌≡◌, ◌∙◌, sym, ap, refl, ℕ, ◌&&◌, List, [], ◌∷◌}
use Rattle.std.proofs.lemmas.List.Folds.{list_all-append}
use Rattle.std.specs.List.{list_all, zip}
use Rattle.std.specs.Prelude.{Option}
use Rattle.ground_theory.specs.declared.literal.Assignment.{Assignment}
use Rattle.ground_theory.specs.declared.literal.Clause.{Clause}
use Rattle.ground_theory.specs.declared.literal.Literal.{Literal}
use Rattle.ground_theory.specs.Assignments.{satisfies, satisfies_all}
use Rattle.case_split.specs.Choices.{Choices, literal_chosen, literals_of}

pub choices_satisfied : (a : Assignment) (cs : List Clause) (xs : Choices) →
    list_all (λ (pair : Clause × Option ℕ). satisfies_all a (literal_chosen pair.0 pair.1)) (zip cs xs) ≡ satisfies_all a (literals_of cs xs)
choices_satisfied a [] [] = refl
choices_satisfied a [] (x ∷ xs) = refl
choices_satisfied a (c ∷ cs) [] = refl
choices_satisfied a (c ∷ cs) (x ∷ xs) =
    ap (λ b. satisfies_all a (literal_chosen c x) && b) (choices_satisfied a cs xs) ∙
    sym (list_all-append (λ (l : Literal). satisfies a l.atom) (literal_chosen c x) (literals_of cs xs))

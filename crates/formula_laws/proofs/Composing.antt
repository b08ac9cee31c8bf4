-- Steps compose: those behind others act on the branches that these leave, and branches that wait stay as they are.
use Rattle.std.proofs.Common.{◌≡◌, ◌∙◌, sym, ap, refl, List, [], ◌∷◌, ◌++◌}
use Rattle.std.proofs.lemmas.List.{append_assoc}
use Rattle.std.proofs.lemmas.Option.{option_and_then_some, same_Some}
use Rattle.std.specs.Prelude.{Option, Some, None, option_and_then}
use Rattle.lint_core.specs.declared.certificate.Step.{Step}
use Rattle.lint_core.specs.declared.schema.Table.{Table}
use Rattle.sort_formula.specs.Certificate.{children, branches_after}
use Rattle.sort_formula.specs.Facts.{Branch}

module _ (schema : List Table) where
  children_append : (ys : List Step) (o : Option (List Branch)) (xs : List Step) (bs : List Branch) →
      ((cs : List Branch) → branches_after schema (xs ++ ys) (cs ++ bs) ≡ option_and_then (branches_after schema ys) (branches_after schema xs (cs ++ bs))) →
      option_and_then (λ cs. branches_after schema (xs ++ ys) (cs ++ bs)) o
      ≡ option_and_then (branches_after schema ys) (option_and_then (λ cs. branches_after schema xs (cs ++ bs)) o)
  children_append ys None xs bs each = refl
  children_append ys (Some cs) xs bs each = each cs

  pub after_append : (xs ys : List Step) (bs : List Branch) →
      branches_after schema (xs ++ ys) bs ≡ option_and_then (branches_after schema ys) (branches_after schema xs bs)
  after_append [] ys bs = refl
  after_append (s ∷ xs) ys [] = refl
  after_append (s ∷ xs) ys (b ∷ bs) = children_append ys (children schema b s) xs bs (λ cs. after_append xs ys (cs ++ bs))

  pub waiting_stay : (xs : List Step) (bs cs ds : List Branch) → branches_after schema xs bs ≡ Some cs →
      branches_after schema xs (bs ++ ds) ≡ Some (cs ++ ds)
  waiting_stay [] bs cs ds at = ap (λ (es : List Branch). Some (es ++ ds)) (same_Some bs cs at)
  waiting_stay (s ∷ xs) [] cs ds at = cc
  waiting_stay (s ∷ xs) (b ∷ bs) cs ds at =
      option_and_then_some (λ es. branches_after schema xs (es ++ bs)) (children schema b s) cs at
      (λ es made rest.
      ap (option_and_then (λ es. branches_after schema xs (es ++ (bs ++ ds)))) made
      ∙ (ap (branches_after schema xs) (sym (append_assoc es bs ds)) ∙ waiting_stay xs (es ++ bs) cs ds rest))

  pub before_others : (xs ys : List Step) (bs cs ds : List Branch) → branches_after schema xs bs ≡ Some cs →
      branches_after schema (xs ++ ys) (bs ++ ds) ≡ branches_after schema ys (cs ++ ds)
  before_others xs ys bs cs ds at =
      after_append xs ys (bs ++ ds) ∙ ap (option_and_then (branches_after schema ys)) (waiting_stay xs bs cs ds at)

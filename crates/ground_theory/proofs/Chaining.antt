-- The leaf of a path of facts about texts can be built.
use Rattle.std.proofs.Common.{◌≡◌, ◌∙◌, sym, subst, ℕ, ◌<◌, true, false, List, [], ◌∷◌, length, arith}
use Rattle.std.specs.Prelude.{Option, Some, None, MatchOption}
use Rattle.std.specs.List.{All, AllByRecursion}
use Rattle.std.proofs.lemmas.List.Elements.{All-from_recursion}
use Rattle.lint_core.specs.Comparison.{is_same_text}
use Rattle.sort_formula.specs.declared.formula.Side.TheVariants as side
use Rattle.text_classes.specs.declared.facts.TextEnd.{TextEnd}
use Rattle.text_classes.specs.declared.facts.TextEnd.TheVariants.{Text}
use Rattle.text_classes.specs.declared.facts.TextFact.{TextFact}
use Rattle.text_classes.specs.Paths.{fact_at, Leads, IsPath}
use Rattle.ground_theory.proofs.Moving.{same_self}

module _ (facts : List TextFact) where
  leads_listed : (from : TextEnd) (path : List ℕ) (to : TextEnd) → Leads facts from path to → AllByRecursion (λ n. n < length facts) path
  leads_listed from [] to led = tt
  leads_listed from (n ∷ ns) to led = (led.1, leads_listed led.0 ns to led.3)

  -- the facts of a path are there
  pub path_listed : (last : Option ℕ) (path : List ℕ) → IsPath facts last path → All (λ n. n < length facts) path
  path_listed (Some n) path is = All-from_recursion (λ n. n < length facts) path (leads_listed (fact_at facts n).left path (fact_at facts n).right is.2)
  path_listed None path is = All-from_recursion (λ n. n < length facts) path (leads_listed (Text is.0) path (Text is.1) is.3)

  -- so is the last one; without it the path has a fact
  pub last_listed : (last : Option ℕ) (path : List ℕ) → IsPath facts last path → MatchOption last (0 < length path) (λ n. n < length facts)
  last_listed (Some n) path is = is.0
  last_listed None (n ∷ ns) is = omega arith
  last_listed None [] is =
      let e : Text is.0 ≡ Text is.1 = is.3 in
      let one : is.0 ≡ is.1 = cc e in
      let yes : is_same_text is.0 is.1 ≡ true = subst (λ (t : List ℕ). is_same_text is.0 t ≡ true) one (same_self (side.Text is.0)) in
      let f : false ≡ true = sym is.2 ∙ yes in
      cc f

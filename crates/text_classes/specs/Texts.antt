-- When texts of the variables satisfy facts.
use Rattle.std.specs.Prelude.{◌≡◌, ◌<◌, ℕ, List, All, ⊤}
use Rattle.lint_core.specs.Comparison.{is_same_text}
use Rattle.text_classes.specs.declared.facts.TextEnd.{TextEnd}
use Rattle.text_classes.specs.declared.facts.TextEnd.TheVariants.{Var, Text}
use Rattle.text_classes.specs.declared.facts.TextFact.{TextFact}

abbrev pub text_of : (ℕ → List ℕ) → TextEnd → List ℕ
text_of texts (Var n) = texts n
text_of texts (Text text) = text

-- the two texts are the same exactly where the fact says so
abbrev pub Holds : (ℕ → List ℕ) → TextFact → Type 0
Holds texts f = is_same_text (text_of texts f.left) (text_of texts f.right) ≡ f.equal

abbrev pub Satisfies : (ℕ → List ℕ) → List TextFact → Type 0
Satisfies texts facts = All (Holds texts) facts

abbrev pub IsBelow : ℕ → TextEnd → Type 0
IsBelow vars (Var n) = n < vars
IsBelow vars (Text text) = ⊤

-- both ends are among the variables, or texts
pub record IsAmong (vars : ℕ) (f : TextFact) : Type 0 where
  pub left : IsBelow vars f.left
  pub right : IsBelow vars f.right

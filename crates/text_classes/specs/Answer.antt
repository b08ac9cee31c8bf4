-- What is said of each kind of answer.
use Rattle.std.specs.Prelude.{◌≡◌, ◌⊎◌, ◌<◌, ◌↔◌, ℕ, List, [], Option, length, slice_index_or, ⊤}
use Rattle.text_classes.specs.declared.facts.TextEnd.{TextEnd}
use Rattle.text_classes.specs.declared.facts.TextEnd.TheVariants.{Var}
use Rattle.text_classes.specs.declared.facts.TextFact.{TextFact}
use Rattle.text_classes.specs.declared.facts.Classed.{Classed}
use Rattle.text_classes.specs.declared.facts.Classed.TheVariants.{Labels, Path}
use Rattle.text_classes.specs.Texts.{text_of}
use Rattle.text_classes.specs.Paths.{fact_at, Leads}

-- the fact holds of the labels and the texts, where the answer is these
abbrev pub IfLabels : Classed → (List ℕ → List (List ℕ) → Type 0) → Type 0
IfLabels (Labels labels texts) P = P labels texts
IfLabels (Path last facts) P = ⊤

-- the fact holds of the path, where the answer is one
abbrev pub IfPath : Classed → (Option ℕ → List ℕ → Type 0) → Type 0
IfPath (Labels labels texts) P = ⊤
IfPath (Path last facts) P = P last facts

-- the label of each variable
abbrev pub label_in : List ℕ → ℕ → ℕ
label_in labels n = slice_index_or labels n 0

-- the text of each variable: that of its label
abbrev pub text_in : List ℕ → List (List ℕ) → ℕ → List ℕ
text_in labels texts n = slice_index_or texts (label_in labels n) []

-- no text is there twice
abbrev pub AreDistinct : List (List ℕ) → Type 0
AreDistinct texts = (i j : ℕ) → i < length texts → j < length texts → slice_index_or texts i [] ≡ slice_index_or texts j [] → i ≡ j

-- equal facts lead from the one to the other
abbrev pub AreJoined : List TextFact → TextEnd → TextEnd → Type 0
AreJoined facts a b = (path : List ℕ) × Leads facts a path b

-- one of the variables, or a side of a fact
abbrev pub IsEnd : ℕ → List TextFact → TextEnd → Type 0
IsEnd vars facts a =
    ((n : ℕ) × (n < vars) × (a ≡ Var n))
    ⊎ ((n : ℕ) × (n < length facts) × ((a ≡ (fact_at facts n).left) ⊎ (a ≡ (fact_at facts n).right)))

-- two of them have one text only where equal facts lead from the one to the other
abbrev pub IsPlain : ℕ → List TextFact → (ℕ → List ℕ) → Type 0
IsPlain vars facts texts =
    (a b : TextEnd) → IsEnd vars facts a → IsEnd vars facts b → text_of texts a ≡ text_of texts b → AreJoined facts a b

-- two variables have one label exactly where equal facts lead from the one to the other
abbrev pub AreClasses : ℕ → List TextFact → List ℕ → Type 0
AreClasses vars facts labels =
    (n m : ℕ) → n < vars → m < vars → (label_in labels n ≡ label_in labels m) ↔ AreJoined facts (Var n) (Var m)

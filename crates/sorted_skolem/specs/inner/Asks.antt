-- The Exists nodes of sentences in order, as the code meets them. Nothing here has to be believed: no public contract says it.
use Rattle.std.specs.Prelude.{ℕ, ◌+◌, List, [], ◌∷◌, ◌++◌}
use Rattle.sort_formula.specs.declared.formula.Formula.{Formula, fold-Formula}
use Rattle.sort_formula.specs.declared.formula.Formula.TheOpen.{Formula-F}
use Rattle.sorted_skolem.specs.declared.asks.Ask.{Ask}

-- how many nodes a formula has, and its Exists nodes, by the number of its own node and the tables of the Foralls around it
pub record Told : Type 0 where
  pub size : ℕ
  pub asks : ℕ → List ℕ → List Ask

abbrev pub sizes : List Told → ℕ
sizes [] = 0
sizes (part ∷ parts) = part.size + sizes parts

-- those of the parts, where the first has this number
abbrev pub parts_asks : ℕ → List ℕ → List Told → List Ask
parts_asks number foralls [] = []
parts_asks number foralls (part ∷ parts) = part.asks number foralls ++ parts_asks (number + part.size) foralls parts

module _ (sentence : ℕ) where
  abbrev pub told_step : Formula-F Told → Told
  told_step (Formula-F.Atom a) = record { size = 1; asks = λ number foralls. [] }
  told_step (Formula-F.And parts) = record { size = 1 + sizes parts; asks = λ number foralls. parts_asks (number + 1) foralls parts }
  told_step (Formula-F.Or parts) = record { size = 1 + sizes parts; asks = λ number foralls. parts_asks (number + 1) foralls parts }
  told_step (Formula-F.Exists table body) = record {
    size = 1 + body.size;
    asks = λ number foralls. record { sentence = sentence; node = number; table = table; foralls = foralls } ∷ body.asks (number + 1) foralls;
  }
  told_step (Formula-F.Forall table body) = record { size = 1 + body.size; asks = λ number foralls. body.asks (number + 1) (foralls ++ table ∷ []) }

  abbrev pub told : Formula → Told
  told = fold-Formula Told told_step

-- those of sentences, of which the first has this number
abbrev pub asks_from : ℕ → List Formula → List Ask
asks_from sentence [] = []
asks_from sentence (g ∷ gs) = (told sentence g).asks 0 [] ++ asks_from (sentence + 1) gs

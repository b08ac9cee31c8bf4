-- How many leaves and splits a tree has, and what it weighs: each counts twice, but those on the way down the first
-- trees count once.
use Rattle.std.specs.Prelude.{ℕ, ◌+◌, ◌*◌, List, [], ◌∷◌, map}
use Rattle.case_split.specs.declared.tree.CaseTree.{CaseTree, fold-CaseTree}
use Rattle.case_split.specs.declared.tree.CaseTree.TheOpen.{CaseTree-F}

abbrev pub Weight : Type 0
Weight = ℕ × ℕ

abbrev pub sizes : List Weight → ℕ
sizes [] = 0
sizes (w ∷ ws) = w.0 + sizes ws

abbrev pub weights : List Weight → ℕ
weights [] = 0
weights (w ∷ ws) = w.1 + 2 * sizes ws

-- the size, and what it weighs
abbrev pub weigh_step : CaseTree-F Weight → Weight
weigh_step (CaseTree-F.Leaf conflict chosen) = (1, 1)
weigh_step (CaseTree-F.Split clause cases) = (1 + sizes cases, 1 + weights cases)

abbrev pub weigh : CaseTree → Weight
weigh = fold-CaseTree Weight weigh_step

abbrev pub weight_of_all : List CaseTree → ℕ
weight_of_all trees = weights (map weigh trees)

abbrev pub size_of_all : List CaseTree → ℕ
size_of_all trees = sizes (map weigh trees)

-- How many leaves and splits a tree has, by which the rounds that write its steps are counted down.
use Rattle.std.specs.Prelude.{ℕ, ◌+◌, List, sum, map}
use Rattle.case_split.specs.declared.tree.CaseTree.{CaseTree, fold-CaseTree}
use Rattle.case_split.specs.declared.tree.CaseTree.TheOpen.{CaseTree-F}

abbrev pub size_step : CaseTree-F ℕ → ℕ
size_step (CaseTree-F.Leaf conflict chosen) = 1
size_step (CaseTree-F.Split clause cases) = 1 + sum cases

abbrev pub size : CaseTree → ℕ
size = fold-CaseTree ℕ size_step

abbrev pub size_of_all : List CaseTree → ℕ
size_of_all trees = sum (map size trees)

-- The tables of the quantifiers outside, which the code links from the inside out: the outermost first. Nothing
-- here has to be believed: no public contract says it.
use Rattle.std.specs.Prelude.{ℕ, List, [], ◌∷◌, ◌++◌}
use Rattle.sort_formula.specs.declared.outside.Outside.{Outside, fold-Outside}
use Rattle.sort_formula.specs.declared.outside.Outside.TheOpen.{Outside-F}

abbrev pub tables_step : Outside-F (List ℕ) → List ℕ
tables_step Outside-F.Nothing = []
tables_step (Outside-F.Quantifier table outer) = outer.now ++ table ∷ []

abbrev pub tables_outside : Outside → List ℕ
tables_outside = fold-Outside (List ℕ) tables_step

-- The conjuncts of a condition: the parts of a conjunction, with those that are conjunctions themselves opened
-- too; any other condition is one conjunct. An AND of nothing has none.
use Rattle.std.specs.Prelude.{List, [], ◌∷◌}
use Rattle.std.specs.List.{flat_map}
use Rattle.lint_core.specs.declared.condition.Cond.{Cond}
use Rattle.lint_core.specs.declared.condition.Cond.TheOpen.{Cond-F}
use Rattle.lint_core.specs.declared.condition.Block.{Block}
use Rattle.lint_core.specs.Parts.{With, described, cond_itself}

abbrev pub conjuncts_step : Cond-F (With Cond (List Cond)) (With Block (List Cond)) → List Cond
conjuncts_step (Cond-F.And parts) = flat_map (λ (part : With Cond (List Cond)). part.meaning) parts
conjuncts_step other = cond_itself (List Cond) (List Cond) other ∷ []

abbrev pub conjuncts : Cond → List Cond
conjuncts cond = (described (List Cond) (List Cond) conjuncts_step (λ block. []) cond).meaning

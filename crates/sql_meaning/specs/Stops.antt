-- What a call that evaluates answers: the value that is defined, or the place of the scalar subquery with two rows
-- that stands in for it. Want of memory may come instead of either.
use Rattle.std.specs.Prelude.{◌≡◌, Result, Ok, Err, ⊤}
use Rattle.lint_core.specs.Evaluation.{Evaluated}
use Rattle.sql_meaning.specs.declared.stop.TruthStop.{TruthStop}
use Rattle.sql_meaning.specs.declared.stop.TruthStop.TheVariants.{TwoRows, NoMemory}

abbrev pub Gives : {A : Type 0} → Evaluated A → Result A TruthStop → Type 0
Gives (Ok defined) (Ok answer) = answer ≡ defined
Gives (Ok defined) (Err (TwoRows span)) = ⊥
Gives (Ok defined) (Err NoMemory) = ⊤
Gives (Err place) (Ok answer) = ⊥
Gives (Err place) (Err (TwoRows span)) = span ≡ place
Gives (Err place) (Err NoMemory) = ⊤

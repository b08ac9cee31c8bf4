use Rattle.std.proofs.Common.{◌∙◌, sym, refl}
use Rattle.lint_base.proofs.Held.{first_holds}
use Rattle.lint_base.proofs.memory.start_of.Goals as goal

pub returns : goal.returns
returns c = let first = first_holds _ _ _ (sym c.in_ok-file.was ∙ c.index_of.ensures) in (first.0, refl, first.1)

pub returns-in_err-file : goal.returns-in_err-file
returns-in_err-file c = rw c.from_residual.ensures (first_holds _ _ _ (sym c.in_err-file.was ∙ c.index_of.ensures))

use Rattle.lint_engine.proofs.Fitting.{fits}
use Rattle.lint_engine.proofs.laws.databases_of_the_schema_fit.Goals as goal

pub returns : goal.returns
returns c = fits

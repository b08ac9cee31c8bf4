use Rattle.lint_engine.proofs.ConstantValue.{constant_value}
use Rattle.lint_engine.proofs.laws.constant_columns_have_a_value.Goals as goal

pub returns : goal.returns
returns c = constant_value

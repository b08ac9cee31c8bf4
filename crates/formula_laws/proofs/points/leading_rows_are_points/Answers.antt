use Rattle.formula_laws.proofs.LeadPoints.{formed}
use Rattle.formula_laws.proofs.points.leading_rows_are_points.Goals as goal

pub returns : goal.returns
returns c = λ schema db query given question asked places lead fitting there apart. formed schema db query given question asked places lead fitting there apart

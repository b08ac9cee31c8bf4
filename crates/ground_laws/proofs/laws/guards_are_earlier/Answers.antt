use Rattle.ground_laws.proofs.laws.guards_are_earlier.Goals as goal

pub returns : goal.returns
returns c = λ schema problem is closed. (c.clauses_hang_together.ensures schema problem is closed).forward

use Rattle.cert_checker.proofs.facts.Open.ends.Goals as goal

pub returns-in-Fact : goal.returns-in-Fact
returns-in-Fact c = rw c.in-Fact.is (c.equal_texts.ensures c.args.tables.now)

pub returns-in-FactBack : goal.returns-in-FactBack
returns-in-FactBack c = rw c.in-FactBack.is (c.equal_texts-in-FactBack.ensures c.args.tables.now)

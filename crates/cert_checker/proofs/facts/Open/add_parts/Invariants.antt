use Rattle.std.proofs.Common.{◌≡◌, ◌++◌, map, drop}
use Rattle.sort_formula.specs.Certificate.{fact_of}
use Rattle.cert_checker.proofs.facts.Open.add_parts.Given as goal

abbrev pub invariant-loop-part : goal.invariant-loop-part
invariant-loop-part l = record {
  facts : l.self.facts.items ++ map (fact_of l.whole.rows) (drop l.part-index l.parts) ≡ l.fn.self.facts.items ++ map (fact_of l.whole.rows) l.parts;
  tables : l.self.tables ≡ l.fn.self.tables;
}

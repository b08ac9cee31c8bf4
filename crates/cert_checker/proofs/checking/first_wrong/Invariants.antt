use Rattle.std.proofs.Common.{◌≡◌, ◌+◌, ◌∷◌, [], drop}
use Rattle.sort_formula.specs.Certificate.{first_wrong}
use Rattle.cert_checker.specs.inner.Branches.{IsRun, branches_of}
use Rattle.cert_checker.proofs.checking.first_wrong.Given as goal

abbrev pub invariant-loop-index : goal.invariant-loop-index
invariant-loop-index l = record {
  run : IsRun l.run;
  rest :
      first_wrong (l.index + 1) l.tables (drop l.index l.steps) (branches_of l.run)
      ≡ first_wrong 1 l.tables l.steps (record { facts = l.fn.facts.items; tables = [] } ∷ []);
}

use Rattle.std.proofs.Common.{◌≡◌, ◌∷◌, drop}
use Rattle.sort_formula.specs.Rings.{may_follow_round}
use Rattle.cert_checker.proofs.rings.may_follow_round.Given as goal

abbrev pub invariant-loop-edge : goal.invariant-loop-edge
invariant-loop-edge l = may_follow_round l.first (l.last ∷ drop l.edge-index l.others) ≡ may_follow_round l.first (l.first ∷ l.others)

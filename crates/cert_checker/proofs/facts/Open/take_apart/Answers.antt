use Rattle.std.proofs.Common.{◌∙◌, ◌^◌, ap}
use Rattle.std.specs.List.{list_all}
use Rattle.sort_formula.specs.Bounds.{is_within}
use Rattle.cert_checker.proofs.Moderate.{and_is_within}
use Rattle.cert_checker.proofs.facts.Open.take_apart.Goals as goal

pub add_parts-requires : goal.add_parts-requires
add_parts-requires c =
    ap (list_all (is_within (2 ^ 66))) c.as_slice.ensures
    ∙ and_is_within (2 ^ 66) c.formula.result.now c.in-And.parts c.in-And.is c.formula.ensures.moderate

use Rattle.std.proofs.Common.{◌≡◌, drop}
use Rattle.std.specs.List.{list_all}
use Rattle.sort_formula.specs.Variables.{is_numbered_from}
use Rattle.worked_meaning.proofs.placing.+numbered.Given as goal

-- all so far are numbered
abbrev pub invariant-are_numbered-loop-part : goal.invariant-are_numbered-loop-part
invariant-are_numbered-loop-part l =
    list_all (is_numbered_from l.outside) (drop l.part-index l.parts)
    ≡ list_all (is_numbered_from l.outside) l.parts

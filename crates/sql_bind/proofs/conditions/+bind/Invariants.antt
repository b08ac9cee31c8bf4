use Rattle.std.proofs.Common.{◌≡◌, ◌++◌, drop, map, Ok}
use Rattle.sql_bind.specs.Bound.{and_then, all_bound}
use Rattle.sql_bind.specs.Selects.{bind_cond, bind_ons}
use Rattle.sql_bind.specs.inner.Levels.{levels_seen}
use Rattle.sql_bind.specs.inner.Meanings.{entry_meaning}
use Rattle.sql_bind.proofs.conditions.+bind.Given as goal

-- those bound so far, and then the rest
abbrev pub invariant-bind_parts-loop-part : goal.invariant-bind_parts-loop-part
invariant-bind_parts-loop-part l =
    and_then (all_bound (map (bind_cond l.tables (levels_seen l.levels)) (drop l.part-index l.parts))) (λ more. Ok (l.conds ++ more))
    ≡ all_bound (map (bind_cond l.tables (levels_seen l.levels)) l.parts)

abbrev pub invariant-bind_ons-loop-number : goal.invariant-bind_ons-loop-number
invariant-bind_ons-loop-number l =
    and_then (bind_ons l.tables l.entries (levels_seen l.outer) l.number (map (entry_meaning l.tables) (drop l.number l.trees))) (λ more. Ok (l.conds ++ more))
    ≡ bind_ons l.tables l.entries (levels_seen l.outer) 0 (map (entry_meaning l.tables) l.trees)

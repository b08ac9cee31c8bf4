use Rattle.std.proofs.Common.{◌≡◌, ◌≤◌, drop}
use Rattle.sql_parse.specs.Refusals.{deep_from}
use Rattle.sql_parse.proofs.refusals.too_deep.Given as goal

-- the tokens that are left answer for all
abbrev pub invariant-loop-token : goal.invariant-loop-token
invariant-loop-token l = record { shallow : l.opened ≤ 32; same : deep_from l.opened (drop l.token-index l.tokens) ≡ deep_from 0 l.tokens }

use Rattle.std.proofs.Common.{◌≡◌, [], drop}
use Rattle.sql_bind.specs.Keys.{bind_names}
use Rattle.sql_bind.proofs.keys.bind_names.Given as goal

abbrev pub invariant-loop-name : goal.invariant-loop-name
invariant-loop-name l = bind_names l.columns l.places (drop l.name-index l.names) ≡ bind_names l.columns [] l.names

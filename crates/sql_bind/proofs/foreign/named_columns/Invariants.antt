use Rattle.std.proofs.Common.{◌≡◌, ◌++◌, drop}
use Rattle.std.specs.Option.{option_map}
use Rattle.sql_bind.specs.Schemas.{named_columns}
use Rattle.sql_bind.proofs.foreign.named_columns.Given as goal

abbrev pub invariant-loop-name : goal.invariant-loop-name
invariant-loop-name l = option_map (λ places. l.places ++ places) (named_columns l.columns (drop l.name-index l.names)) ≡ named_columns l.columns l.names

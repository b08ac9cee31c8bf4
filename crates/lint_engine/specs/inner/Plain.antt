-- Terms to which nothing is added, and values that may be there.
use Rattle.std.specs.Prelude.{Bool, Option, Some, None}
use Rattle.std.specs.Borrow.{Bor}
use Rattle.std.specs.List.{list_all}
use Rattle.lint_core.specs.declared.database.Value.{Value}
use Rattle.lint_core.specs.declared.database.Value.TheVariants.{Null}
use Rattle.lint_core.specs.declared.query.Item.{Item}
use Rattle.lint_core.specs.declared.query.Query.{Query}
use Rattle.lint_core.specs.Fits.{is_plain}

abbrev pub are_plain : Query → Bool
are_plain query = list_all (λ (item : Item). is_plain item.term) query.items

-- what is found, or NULL
abbrev pub value_seen : Option (Bor Value) → Value
value_seen (Some found) = found.now
value_seen None = Null

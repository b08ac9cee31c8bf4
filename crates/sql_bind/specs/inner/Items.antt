-- What an order key that is a number names.
use Rattle.std.specs.Prelude.{ℕ, ℤ, pos, ◌-◌, List, Option, None, if◌then◌else◌, int_le, nat_abs, slice_get}
use Rattle.sql_bind.specs.Conditions.{Selected}

-- the item of a number, from 1
abbrev pub item_at : List Selected → ℤ → Option Selected
item_at items number = if int_le (pos 1) number then slice_get items (nat_abs number - 1) else None

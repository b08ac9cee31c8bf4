-- What a reader of a part answers.
use Rattle.std.specs.Prelude.{◌≡◌, Option, Some, None, Result, Ok, Err, ⊤}
use Rattle.cert_format.specs.declared.fault.Unread.{Unread}
use Rattle.cert_format.specs.declared.fault.Unread.TheVariants as unread

-- the part that is there, or that none is there, unless memory ran out
abbrev pub Gives : {A : Type 0} → Option A → Result A Unread → Type 0
Gives found (Ok a) = found ≡ Some a
Gives found (Err unread.Shape) = found ≡ None
Gives found (Err unread.NoMemory) = ⊤

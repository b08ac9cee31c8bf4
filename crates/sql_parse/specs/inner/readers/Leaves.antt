-- What a function of the code reads that keeps nothing of it, or a part or none.
use Rattle.std.specs.Prelude.{◌≡◌, List, [], ◌∷◌, Option, Some, None, Result, Ok, Err}
use Rattle.std.specs.Borrow.{Bor}
use Rattle.sql_lex.specs.declared.token.Token.{Token}
use Rattle.sql_parse.specs.declared.front.ParseStop.{ParseStop}
use Rattle.sql_parse.specs.declared.front.ParseStop.TheVariants as stop
use Rattle.sql_parse.specs.inner.readers.Tokens.{Read, found}
use Rattle.sql_parse.specs.inner.readers.Gives.{Stops}

-- the tokens after what is read as this
abbrev pub Leaves : {A : Type 0} → A → Read A → Result (Bor (List Token)) ParseStop → Type 0
Leaves a read (Ok rest) = read ≡ found a rest.now
Leaves a read (Err e) = Stops read e

-- a part that is one or none
abbrev pub alone : {A : Type 0} → Option A → List A
alone (Some a) = a ∷ []
alone None = []

abbrev pub GivesAlone : {A : Type 0} → Read (List A) → Result (Option A × Bor (List Token)) ParseStop → Type 0
GivesAlone read (Ok x) = read ≡ found (alone x.0) x.1.now
GivesAlone read (Err e) = Stops read e

-- all tokens are read as this
abbrev pub GivesWhole : {A : Type 0} → Option A → Result A ParseStop → Type 0
GivesWhole whole (Ok a) = whole ≡ Some a
GivesWhole whole (Err (stop.Syntax left)) = whole ≡ None
GivesWhole whole (Err stop.NoMemory) = Unit {0}

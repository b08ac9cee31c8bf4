-- What a function of the code reads is what a reading gives: where it stops, nothing is read, unless memory ran out.
use Rattle.std.specs.Prelude.{◌≡◌, Bool, true, false, List, Option, Some, None, Result, Ok, Err}
use Rattle.std.specs.Borrow.{Bor}
use Rattle.sql_lex.specs.declared.token.Kind.{Kind}
use Rattle.sql_lex.specs.declared.token.Token.{Token}
use Rattle.sql_parse.specs.declared.front.Mark.{Mark}
use Rattle.sql_parse.specs.declared.front.Mark.TheVariants as mark
use Rattle.sql_parse.specs.declared.front.ParseStop.{ParseStop}
use Rattle.sql_parse.specs.declared.front.ParseStop.TheVariants as stop
use Rattle.sql_parse.specs.inner.readers.Tokens.{Read, found, is_word, is_open, is_close, is_comma, is_dot, is_star, is_semicolon, is_plus, is_name, at_head, expect}

abbrev pub Stops : {A : Type 0} → Read A → ParseStop → Type 0
Stops read (stop.Syntax left) = read ≡ None
Stops read stop.NoMemory = Unit {0}

abbrev pub Gives : {A : Type 0} → Read A → Result (A × Bor (List Token)) ParseStop → Type 0
Gives read (Ok x) = read ≡ found x.0 x.1.now
Gives read (Err e) = Stops read e

-- what a mark stands for
abbrev pub is_mark : Mark → Kind → Bool
is_mark (mark.Word place) = is_word place
is_mark mark.Open = is_open
is_mark mark.Close = is_close
is_mark mark.Comma = is_comma
is_mark mark.Dot = is_dot
is_mark mark.Star = is_star
is_mark mark.Semicolon = is_semicolon
is_mark mark.Plus = is_plus
is_mark mark.Name = is_name

-- a first token that is so
abbrev pub GivesToken : (Kind → Bool) → List Token → Result (Bor Token × Bor (List Token)) ParseStop → Type 0
GivesToken test tokens (Ok x) = expect test tokens ≡ found x.0.now x.1.now
GivesToken test tokens (Err e) = Stops (expect test tokens) e

abbrev pub GivesMaybe : (Kind → Bool) → List Token → Option (Bor Token × Bor (List Token)) → Type 0
GivesMaybe test tokens (Some x) = (at_head test tokens ≡ true) × (expect test tokens ≡ found x.0.now x.1.now)
GivesMaybe test tokens None = at_head test tokens ≡ false

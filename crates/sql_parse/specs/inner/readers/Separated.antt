-- What a function that reads parts asks of the reader of one part.
use Rattle.std.specs.Prelude.{◌≡◌, ◌<◌, ◌≤◌, suc, List, length, Result, IfOk}
use Rattle.std.specs.Borrow.{Bor}
use Rattle.sql_lex.specs.declared.token.Token.{Token}
use Rattle.sql_parse.specs.declared.front.ParseStop.{ParseStop}
use Rattle.sql_parse.specs.inner.readers.Tokens.{Read, found}
use Rattle.sql_parse.specs.inner.readers.Gives.{Gives}

-- a reading that takes a token
abbrev pub Shorter : {A : Type 0} → (List Token → Read A) → Type 0
Shorter {A} read = (tokens : List Token) (a : A) (rest : List Token) → read tokens ≡ found a rest → suc (length rest) ≤ length tokens

module _ {A : Type 0} (given : Bor (List Token) → Result (A × Bor (List Token)) ParseStop → Type 0) where
  -- a part that is read has a token
  abbrev pub TakesTokens : Type 0
  TakesTokens = (at : Bor (List Token)) (r : Result (A × Bor (List Token)) ParseStop) → given at r → IfOk r (λ x. length x.1.now < length at.now)

  -- it gives this reading
  abbrev pub AlwaysGives : (List Token → Read A) → Type 0
  AlwaysGives read = (at : Bor (List Token)) (r : Result (A × Bor (List Token)) ParseStop) → given at r → Gives (read at.now) r

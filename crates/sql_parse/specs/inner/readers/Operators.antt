-- The operator of a comparison at the front of tokens.
use Rattle.std.specs.Prelude.{◌≡◌, List, [], ◌∷◌, Option, Some, None}
use Rattle.std.specs.Borrow.{Bor}
use Rattle.lint_tables.specs.declared.op.Op.{Op}
use Rattle.sql_lex.specs.declared.token.Sign.TheVariants.{Compare as Operator}
use Rattle.sql_lex.specs.declared.token.Kind.{Kind}
use Rattle.sql_lex.specs.declared.token.Kind.TheVariants as kind
use Rattle.sql_lex.specs.declared.token.Token.{Token}

unfoldable pub operator_of : Kind → Option Op
operator_of (kind.Sign (Operator op)) = Some op
operator_of _ = None

-- the first token is this operator
pub record IsOperator (tokens : List Token) (op : Op) (rest : List Token) : Type 0 where
  pub token : Token
  pub whole : tokens ≡ token ∷ rest
  pub own : operator_of token.kind ≡ Some op

unfoldable pub first_operator : List Token → Option Op
first_operator [] = None
first_operator (t ∷ rest) = operator_of t.kind

-- the first token, if there is one, is no operator
pub record BeginsOtherwise (tokens : List Token) : Type 0 where
  pub other : first_operator tokens ≡ None

-- the operator at the front, and the tokens after it
abbrev pub GivesOperator : List Token → Option (Op × Bor (List Token)) → Type 0
GivesOperator tokens (Some x) = IsOperator tokens x.0 x.1.now
GivesOperator tokens None = BeginsOtherwise tokens

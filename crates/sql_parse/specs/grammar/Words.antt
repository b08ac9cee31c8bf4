-- Tokens by what they are and where they stand, and the place of a run of tokens.
use Rattle.std.specs.Prelude.{ℕ, pos, ◌≡◌, ◌⊎◌, List, [], ◌∷◌, false}
use Rattle.lint_base.specs.declared.place.Span.{Span}
use Rattle.sql_lex.specs.declared.token.Sign.{Sign}
use Rattle.sql_lex.specs.declared.token.Kind.TheVariants as kind
use Rattle.sql_lex.specs.declared.token.Token.{Token}

-- a reserved word, by its place in the list of the reserved words
abbrev pub word : ℕ → Span → Token
word place at = record { kind = kind.Reserved place; span = at }

-- a name that is recognised as a word in its place, as KEY or INTEGER: it stands without quotes
abbrev pub called : List ℕ → Span → Token
called text at = record { kind = kind.Name text false; span = at }

abbrev pub sign : Sign → Span → Token
sign s at = record { kind = kind.Sign s; span = at }

-- a number has no sign
abbrev pub number : ℕ → Span → Token
number value at = record { kind = kind.Number (pos value); span = at }

abbrev pub text : List ℕ → Span → Token
text characters at = record { kind = kind.Text characters; span = at }

-- [ word ]
abbrev pub MayBe : ℕ → List Token → Type 0
MayBe place tokens = (tokens ≡ []) ⊎ ((at : Span) × (tokens ≡ word place at ∷ []))

-- where the last token ends
abbrev pub end_of : ℕ → List Token → ℕ
end_of end [] = end
end_of end (token ∷ tokens) = end_of token.span.to tokens

-- from the first token to the last
abbrev pub span_of : List Token → Span
span_of [] = record { from = 0; to = 0 }
span_of (token ∷ tokens) = record { from = token.span.from; to = end_of token.span.to tokens }

-- the reserved words of the grammar, by their places in the list
abbrev pub ALL : ℕ
ALL = 0

abbrev pub AND : ℕ
AND = 1

abbrev pub AS : ℕ
AS = 3

abbrev pub BETWEEN : ℕ
BETWEEN = 4

abbrev pub BY : ℕ
BY = 5

abbrev pub CHECK : ℕ
CHECK = 7

abbrev pub CONSTRAINT : ℕ
CONSTRAINT = 8

abbrev pub CREATE : ℕ
CREATE = 9

abbrev pub CROSS : ℕ
CROSS = 10

abbrev pub DISTINCT : ℕ
DISTINCT = 11

abbrev pub EXISTS : ℕ
EXISTS = 13

abbrev pub FOREIGN : ℕ
FOREIGN = 14

abbrev pub FROM : ℕ
FROM = 15

abbrev pub IN : ℕ
IN = 19

abbrev pub INNER : ℕ
INNER = 20

abbrev pub IS : ℕ
IS = 22

abbrev pub JOIN : ℕ
JOIN = 23

abbrev pub NOT : ℕ
NOT = 27

abbrev pub NULL : ℕ
NULL = 28

abbrev pub ON : ℕ
ON = 29

abbrev pub OR : ℕ
OR = 30

abbrev pub ORDER : ℕ
ORDER = 31

abbrev pub PRIMARY : ℕ
PRIMARY = 33

abbrev pub REFERENCES : ℕ
REFERENCES = 34

abbrev pub SELECT : ℕ
SELECT = 36

abbrev pub TABLE : ℕ
TABLE = 38

abbrev pub UNIQUE : ℕ
UNIQUE = 40

abbrev pub WHERE : ℕ
WHERE = 42

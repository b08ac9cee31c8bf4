-- A query: a SELECT with its ORDER BY (ISO/IEC 9075:1992, 13.1).
use Rattle.std.specs.Prelude.{ℕ, pos, ◌≡◌, List, [], ◌∷◌, ◌++◌, codes}
use Rattle.lint_base.specs.declared.place.Span.{Span}
use Rattle.sql_lex.specs.declared.token.Token.{Token}
use Rattle.sql_tree.specs.declared.select.OrderTree.{OrderTree}
use Rattle.sql_tree.specs.declared.select.OrderTree.TheVariants.{Place, Column}
use Rattle.sql_tree.specs.declared.select.QueryTree.{QueryTree}
use Rattle.sql_parse.specs.grammar.Words.{word, called, number, span_of, BY, ORDER}
use Rattle.sql_parse.specs.grammar.Lists.{SpellsList}
use Rattle.sql_parse.specs.grammar.Terms.{SpellsBareColumn}
use Rattle.sql_parse.specs.grammar.Selects.{SpellsSelect}

-- [ ASC | DESC ], which leaves nothing
pub data SpellsDirection (tokens : List Token) : Type 0 where
  unsaid : tokens ≡ [] → SpellsDirection tokens
  ascending : (at : Span) → tokens ≡ called (codes "ASC") at ∷ [] → SpellsDirection tokens
  descending : (at : Span) → tokens ≡ called (codes "DESC") at ∷ [] → SpellsDirection tokens

-- key := ( column | number ) [ ASC | DESC ]
abbrev pub SpellsKey : OrderTree → List Token → Type 0
SpellsKey (Place value at) tokens = (n : ℕ) × (rest : List Token) × (value ≡ pos n) × (tokens ≡ number n at ∷ rest) × SpellsDirection rest
SpellsKey (Column term) tokens = (own : List Token) × (rest : List Token) × (tokens ≡ own ++ rest) × SpellsBareColumn term own × SpellsDirection rest

-- [ ORDER BY key { "," key } ]
pub data SpellsOrder (keys : List OrderTree) (tokens : List Token) : Type 0 where
  unordered : keys ≡ [] → tokens ≡ [] → SpellsOrder keys tokens
  ordered : (order_at by_at : Span) (listed : List Token) →
      tokens ≡ word ORDER order_at ∷ word BY by_at ∷ listed →
      SpellsList SpellsKey keys listed →
      SpellsOrder keys tokens

-- query := select [ ORDER BY key { "," key } ]: the place of the main SELECT runs over all tokens
pub record SpellsQuery (query : QueryTree) (tokens : List Token) : Type 0 where
  pub own : List Token
  pub rest : List Token
  pub whole : tokens ≡ own ++ rest
  pub main : SpellsSelect (span_of tokens) query.select own
  pub order : SpellsOrder query.order rest

-- Names: a word that is not reserved, or a delimited name (ISO/IEC 9075:1992, 5.2 and 5.4).
use Rattle.std.specs.Prelude.{◌≡◌, Bool, List, [], ◌∷◌, ◌++◌, Option, Some, None}
use Rattle.lint_base.specs.declared.place.Span.{Span}
use Rattle.sql_lex.specs.declared.token.Sign.TheVariants.{Open, Close}
use Rattle.sql_lex.specs.declared.token.Kind.TheVariants as kind
use Rattle.sql_lex.specs.declared.token.Token.{Token}
use Rattle.sql_tree.specs.declared.term.NameTree.{NameTree}
use Rattle.sql_parse.specs.grammar.Words.{sign, MayBe, AS}
use Rattle.sql_parse.specs.grammar.Lists.{SpellsList}

-- the token of a name, quoted or not
abbrev pub name_token : NameTree → Bool → Token
name_token name quoted = record { kind = kind.Name name.text quoted; span = name.span }

-- name
abbrev pub SpellsName : NameTree → List Token → Type 0
SpellsName name tokens = (quoted : Bool) × (tokens ≡ name_token name quoted ∷ [])

-- names := "(" name { "," name } ")"
pub record SpellsNames (names : List NameTree) (tokens : List Token) : Type 0 where
  pub open_at : Span
  pub listed : List Token
  pub close_at : Span
  pub whole : tokens ≡ sign Open open_at ∷ listed ++ sign Close close_at ∷ []
  pub names_listed : SpellsList SpellsName names listed

-- [ [ AS ] name ]
abbrev pub SpellsAlias : Option NameTree → List Token → Type 0
SpellsAlias None tokens = tokens ≡ []
SpellsAlias (Some name) tokens = (quoted : Bool) × (as_word : List Token) × (tokens ≡ as_word ++ name_token name quoted ∷ []) × MayBe AS as_word

-- What a SELECT begins with: ALL or DISTINCT, and its items; and the entries of FROM by themselves.
use Rattle.std.specs.Prelude.{◌≡◌, ◌⊎◌, Bool, List, [], ◌∷◌, ◌++◌, Option, Some, None}
use Rattle.lint_base.specs.declared.place.Span.{Span}
use Rattle.sql_lex.specs.declared.token.Sign.TheVariants.{Dot, Star as Asterisk}
use Rattle.sql_lex.specs.declared.token.Token.{Token}
use Rattle.sql_tree.specs.declared.term.NameTree.{NameTree}
use Rattle.sql_tree.specs.declared.select.ItemTree.{ItemTree}
use Rattle.sql_tree.specs.declared.select.ItemTree.TheVariants.{Star, StarOf, Term}
use Rattle.sql_parse.specs.grammar.Words.{word, sign, MayBe, ALL, DISTINCT}
use Rattle.sql_parse.specs.grammar.Lists.{SpellsList}
use Rattle.sql_parse.specs.grammar.Names.{name_token, SpellsAlias}
use Rattle.sql_parse.specs.grammar.Terms.{SpellsBareColumn, SpellsLiteral}

-- [ ALL | DISTINCT ]: the tree has the place of DISTINCT
abbrev pub SpellsQuantifier : Option Span → List Token → Type 0
SpellsQuantifier None tokens = MayBe ALL tokens
SpellsQuantifier (Some at) tokens = tokens ≡ word DISTINCT at ∷ []

-- item := name "." "*" | ( column | literal ) [ [ AS ] name ]
abbrev pub SpellsItem : ItemTree → List Token → Type 0
SpellsItem (Star at) tokens = ⊥
SpellsItem (StarOf table star) tokens = (quoted : Bool) × (dot : Span) × (tokens ≡ name_token table quoted ∷ sign Dot dot ∷ sign Asterisk star ∷ [])
SpellsItem (Term term alias) tokens =
    (own : List Token) × (rest : List Token) × (tokens ≡ own ++ rest) × (SpellsBareColumn term own ⊎ SpellsLiteral term own) × SpellsAlias alias rest

-- list := "*" | item { "," item }
pub data SpellsItems (items : List ItemTree) (tokens : List Token) : Type 0 where
  star : (at : Span) → items ≡ Star at ∷ [] → tokens ≡ sign Asterisk at ∷ [] → SpellsItems items tokens
  listed : SpellsList SpellsItem items tokens → SpellsItems items tokens

-- entry := name [ [ AS ] name ]
pub record SpellsEntry (table : NameTree) (alias : Option NameTree) (tokens : List Token) : Type 0 where
  pub quoted : Bool
  pub rest : List Token
  pub whole : tokens ≡ name_token table quoted ∷ rest
  pub visible : SpellsAlias alias rest

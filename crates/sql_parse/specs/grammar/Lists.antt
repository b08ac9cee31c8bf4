-- Parts with commas between them.
use Rattle.std.specs.Prelude.{◌≡◌, List, [], ◌∷◌, ◌++◌}
use Rattle.lint_base.specs.declared.place.Span.{Span}
use Rattle.sql_lex.specs.declared.token.Sign.TheVariants.{Comma}
use Rattle.sql_lex.specs.declared.token.Token.{Token}
use Rattle.sql_parse.specs.grammar.Words.{sign}

module _ {A : Type 0} (Spells : A → List Token → Type 0) where
  -- { "," part }
  abbrev pub SpellsMore : List A → List Token → Type 0
  SpellsMore [] tokens = tokens ≡ []
  SpellsMore (part ∷ parts) tokens =
      (comma : Span) × (own : List Token) × (rest : List Token) × (tokens ≡ sign Comma comma ∷ own ++ rest) × Spells part own × SpellsMore parts rest

  -- part { "," part }
  abbrev pub SpellsList : List A → List Token → Type 0
  SpellsList [] tokens = ⊥
  SpellsList (part ∷ parts) tokens = (own : List Token) × (rest : List Token) × (tokens ≡ own ++ rest) × Spells part own × SpellsMore parts rest

-- Where tokens end.
use Rattle.std.proofs.Common.{◌≡◌, ℕ, List, [], ◌∷◌, ◌++◌, length, refl, ap, ◌∙◌, arith}
use Rattle.sql_lex.specs.declared.token.Token.{Token}
use Rattle.sql_parse.specs.grammar.Words.{end_of}

end_of-last : (from : ℕ) (front : List Token) (last : Token) → end_of from (front ++ last ∷ []) ≡ last.span.to
end_of-last from [] last = refl
end_of-last from (t ∷ ts) last = end_of-last t.span.to ts last

pub end_some : (from : ℕ) (tokens front : List Token) (last : Token) → tokens ≡ front ++ last ∷ [] → end_of from tokens ≡ last.span.to
end_some from tokens front last e = ap (end_of from) e ∙ end_of-last from front last

pub end_none : (from : ℕ) (tokens : List Token) → length tokens ≡ 0 → end_of from tokens ≡ from
end_none from [] e = refl
end_none from (t ∷ ts) e = absurd (omega arith)

pub ruleset end_rules = (end_some, end_none)

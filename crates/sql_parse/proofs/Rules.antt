-- Which reading of a rule a word leads to.
use Rattle.std.proofs.Common.{◌≡◌, ℕ, false, List, ◌∷◌, refl, ap, ◌∙◌}
use Rattle.sql_lex.specs.declared.token.Token.{Token}
use Rattle.sql_tree.specs.declared.term.NameTree.{NameTree}
use Rattle.sql_parse.specs.grammar.Words.{CHECK, REFERENCES}
use Rattle.sql_parse.specs.inner.readers.Tokens.{is_word}
use Rattle.sql_parse.specs.inner.readers.Tables.{word_rule, column_rule_from, read_column_rule}

pub word_leads : (depth : ℕ) (column : NameTree) (tokens : List Token) (t : Token) (rest : List Token) → tokens ≡ t ∷ rest → is_word CHECK t.kind ≡ false → is_word REFERENCES t.kind ≡ false →
    read_column_rule depth column tokens ≡ word_rule depth column t.kind t.span rest
unfolding read_column_rule column_rule_from
word_leads depth column tokens t rest e check references = ap (read_column_rule depth column) e ∙ rw (check, references) refl

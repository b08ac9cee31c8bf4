-- Where a reading stopped, by how many tokens were left.
use Rattle.std.specs.Prelude.{ℕ, ◌-◌, List, length, slice_get}
use Rattle.std.specs.Option.{option_map_or}
use Rattle.lint_base.specs.declared.place.Span.{Span}
use Rattle.sql_lex.specs.declared.token.Token.{Token}
use Rattle.sql_parse.specs.grammar.Words.{end_of}

-- the empty place behind the last token, 0..0 where there is none
abbrev pub end_place : List Token → Span
end_place tokens = record { from = end_of 0 tokens; to = end_of 0 tokens }

-- the place of the token from which `left` tokens remain, or the empty one behind the last
abbrev pub stopped_at : List Token → ℕ → Span
stopped_at tokens left = option_map_or (λ t. t.span) (slice_get tokens (length tokens - left)) (end_place tokens)

-- What an iterator over pieces has still to give.
use Rattle.std.specs.Prelude.{List}
use Rattle.lint_base.specs.declared.place.Span.{Span}
use Rattle.sql_lex.specs.declared.pieces.Pieces.{Pieces}
use Rattle.sql_lex.specs.Pieces.{pieces_from}

-- the pieces of the text that it has not yet read
abbrev pub rest : Pieces → List Span
rest left = pieces_from left.at left.text.now

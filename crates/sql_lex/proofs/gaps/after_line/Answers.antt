use Rattle.std.proofs.Common.{◌+◌, false, sym, ap, ◌∙◌}
use Rattle.std.proofs.lemmas.List.{take_rest}
use Rattle.sql_lex.specs.inner.Lexing.{after_gap}
use Rattle.sql_lex.proofs.LexGaps.{line_none, line_next}
use Rattle.sql_lex.proofs.gaps.after_line.Goals as goal

pub returns-in-Some-clause-rest : goal.returns-in-Some-clause-rest
returns-in-Some-clause-rest c = ap (after_gap false) (take_rest c.args.text.now (c.in-Some.at + 1)) ∙ sym (line_next c.args.text.now c.in-Some.at c.in-Some.ensures)

pub returns-in-None-clause-rest : goal.returns-in-None-clause-rest
returns-in-None-clause-rest c = sym (line_none c.args.text.now c.in-None.ensures)

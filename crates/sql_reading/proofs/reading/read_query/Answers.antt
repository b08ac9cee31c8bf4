use Rattle.std.proofs.Common.{subst, sym}
use Rattle.std.proofs.lemmas.Result.{err_from_is_err_and}
use Rattle.sql_lex.specs.Tokens.{Spells}
use Rattle.sql_reading.specs.TextReading.{piece_text}
use Rattle.sql_reading.proofs.Shapes.{query_shape}
use Rattle.sql_reading.proofs.Texts.{query_parsed, query_read, query_bound}
use Rattle.sql_reading.proofs.reading.read_query.Goals as goal

pub returns-in_err-tree-clause-refused : goal.returns-in_err-tree-clause-refused
returns-in_err-tree-clause-refused c =
    let spelled = subst (Spells c.args.piece.from (piece_text c.args.text.now c.args.piece)) (sym c.as_slice.ensures.value) c.in_ok-tokens.ensures.tokens in
    let same = err_from_is_err_and c.from_residual-in_err-tree.result c.from_residual-in_err-tree.ensures.1 in
    rw (same.1, same.2) (query_parsed c.args.schema.now c.args.text.now c.args.piece c.as_slice.result.now c.in_err-tree.field-0.0 spelled c.in_err-tree.ensures.refused)

pub bind_query-requires : goal.bind_query-requires
bind_query-requires c = record { shaped = query_shape c.in_ok-tree.tree c.as_slice.result.now c.in_ok-tree.ensures.query.spelled }

pub returns-clause-read : goal.returns-clause-read
returns-clause-read c =
    let spelled = subst (Spells c.args.piece.from (piece_text c.args.text.now c.args.piece)) (sym c.as_slice.ensures.value) c.in_ok-tokens.ensures.tokens in
    query_read c.args.schema.now c.args.text.now c.args.piece c.as_slice.result.now c.in_ok-tree.tree spelled c.in_ok-tree.ensures.query c.bind_query.result c.bind_query.ensures.bound

pub returns-clause-refused : goal.returns-clause-refused
returns-clause-refused c =
    let spelled = subst (Spells c.args.piece.from (piece_text c.args.text.now c.args.piece)) (sym c.as_slice.ensures.value) c.in_ok-tokens.ensures.tokens in
    query_bound c.args.schema.now c.args.text.now c.args.piece c.as_slice.result.now c.in_ok-tree.tree spelled c.in_ok-tree.ensures.query c.bind_query.result c.bind_query.ensures.bound

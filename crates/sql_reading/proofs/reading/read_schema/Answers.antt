use Rattle.std.proofs.Common.{◌≡◌, true, length, slice_range, subst, sym}
use Rattle.std.proofs.lemmas.Result.{err_from_is_err_and}
use Rattle.sql_lex.specs.Tokens.{Spells}
use Rattle.sql_parse.specs.Refusals.{IsSchema}
use Rattle.sql_bind.specs.Shape.{schema_shaped}
use Rattle.sql_reading.proofs.Shapes.{schema_shape}
use Rattle.sql_reading.proofs.Texts.{schema_parsed, schema_bound}
use Rattle.sql_reading.proofs.reading.read_schema.Goals as goal

pub returns-in_err-trees-clause-refused : goal.returns-in_err-trees-clause-refused
returns-in_err-trees-clause-refused c =
    let spelled = subst (Spells 0 (slice_range c.args.text.now 0 (length c.args.text.now))) (sym c.as_slice.ensures.value) c.in_ok-tokens.ensures.tokens in
    let same = err_from_is_err_and c.from_residual-in_err-trees.result c.from_residual-in_err-trees.ensures.1 in
    rw (same.1, same.2) (schema_parsed c.args.text.now c.as_slice.result.now c.in_err-trees.field-0.0 spelled c.in_err-trees.ensures.refused)

pub bind_schema-requires : goal.bind_schema-requires
bind_schema-requires c =
    record { shaped = subst (λ trees. schema_shaped trees ≡ true) (sym c.as_slice-2.ensures.value) (schema_shape c.in_ok-trees.trees.items c.as_slice.result.now c.in_ok-trees.ensures.tables.spelled) }

pub returns-clause-refused : goal.returns-clause-refused
returns-clause-refused c =
    let spelled = subst (Spells 0 (slice_range c.args.text.now 0 (length c.args.text.now))) (sym c.as_slice.ensures.value) c.in_ok-tokens.ensures.tokens in
    let parsed = subst (IsSchema c.as_slice.result.now) (sym c.as_slice-2.ensures.value) c.in_ok-trees.ensures.tables in
    schema_bound c.args.text.now c.as_slice.result.now c.as_slice-2.result.now spelled parsed c.bind_schema.result c.bind_schema.ensures.bound

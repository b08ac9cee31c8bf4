-- What is bound makes a schema.
use Rattle.std.proofs.Common.{◌≡◌, true, false, List, Option, Some, None, Ok, refl, sym, ◌∙◌, true≢false}
use Rattle.std.specs.Prelude.{IsSome, IfNone}
use Rattle.sql_tree.specs.declared.schema.CreateTable.{CreateTable}
use Rattle.lint_core.specs.declared.schema.Table.{Table}
use Rattle.lint_core.specs.Schema.{is_schema}
use Rattle.sql_bind.specs.Shape.{schema_shaped}
use Rattle.sql_bind.specs.Schemas.{bind_schema}
use Rattle.sql_bind.proofs.FitsSchemas.{schema_bound_is}

pub schema_there : (trees : List CreateTable) (tables : List Table) (made : Option (List Table)) → schema_shaped trees ≡ true → bind_schema trees ≡ Ok tables → IfNone made (is_schema tables ≡ false) → IsSome made
schema_there trees tables None shaped is none = absurd (true≢false (sym (schema_bound_is trees tables shaped is) ∙ none))
schema_there trees tables (Some schema) shaped is none = refl

-- What the reading of a schema says of the grammar.
use Rattle.std.proofs.Common.{◌≡◌, ℕ, List, Some, None}
use Rattle.lint_base.specs.declared.place.Span.{Span}
use Rattle.lint_base.specs.declared.place.Fault.TheVariants.{Deep, Syntax}
use Rattle.lint_base.specs.declared.place.Refusal.{Refusal}
use Rattle.sql_lex.specs.declared.token.Token.{Token}
use Rattle.sql_tree.specs.declared.schema.CreateTable.{CreateTable}
use Rattle.sql_parse.specs.Refusals.{IsSchema, IsNoSchema, too_deep, deep, syntax}
use Rattle.sql_parse.specs.grammar.Schemas.{SpellsSchema}
use Rattle.sql_parse.specs.inner.readers.Schemas.{schema_of}
use Rattle.sql_parse.specs.inner.readers.Stopped.{stopped_at}
use Rattle.sql_parse.proofs.Places.{stopped_place}
use Rattle.sql_parse.proofs.Sound.{schema_sound}
use Rattle.sql_parse.proofs.Complete.{schema_complete}

pub is_schema : (tokens : List Token) (tables : List CreateTable) → too_deep tokens ≡ None → schema_of tokens ≡ Some tables → IsSchema tokens tables
is_schema tokens tables shallow read = record { shallow = shallow; spelled = schema_sound tables tokens read }

none_spelled : (tokens : List Token) → schema_of tokens ≡ None → (tables : List CreateTable) → SpellsSchema tables tokens → ⊥
none_spelled tokens none tables spelled =
    let read = schema_complete tables tokens spelled in
    cc

pub no_schema : (tokens : List Token) (refusal : Refusal) (left : ℕ) → too_deep tokens ≡ None → schema_of tokens ≡ None → refusal ≡ record { fault = Syntax; span = stopped_at tokens left; count = 0 } → IsNoSchema tokens refusal
no_schema tokens refusal left shallow none is = syntax (stopped_at tokens left) shallow (none_spelled tokens none) (stopped_place tokens left) is

pub deep_schema : (tokens : List Token) (refusal : Refusal) (at : Span) → too_deep tokens ≡ Some at → refusal ≡ record { fault = Deep; span = at; count = 0 } → IsNoSchema tokens refusal
deep_schema tokens refusal at found is = deep at found is

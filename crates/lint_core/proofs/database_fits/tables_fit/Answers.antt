use Rattle.std.proofs.Common.{◌≡◌, true, false, refl, ◌&&◌, List, [], ◌∷◌, length, arith, suc, ap}
use Rattle.lint_core.specs.declared.database.Row.{Row}
use Rattle.lint_core.specs.declared.schema.Table.{Table}
use Rattle.lint_core.specs.DatabaseFits.{tables_fit, rows_fit}
use Rattle.lint_core.proofs.database_fits.tables_fit.Goals as goal

unlike_lengths : (tables : List Table) (rows : List (List Row)) → (length tables ≡ length rows → ⊥) → false ≡ tables_fit tables rows
unlike_lengths [] [] unlike = absurd (unlike refl)
unlike_lengths [] (r ∷ rs) unlike = refl
unlike_lengths (t ∷ ts) [] unlike = refl
unlike_lengths (t ∷ ts) (r ∷ rs) unlike =
    elim (rows_fit t r) as (λ fit. false ≡ fit && tables_fit ts rs) [
      | true ↦ unlike_lengths ts rs (λ same. unlike (ap suc same))
      | false ↦ refl
    ]

pub returns-then-tables-rows : goal.returns-then-tables-rows
returns-then-tables-rows c = unlike_lengths c.args.tables.now c.args.rows.now (λ same. omega (arith, same, c.if-tables-rows.true))

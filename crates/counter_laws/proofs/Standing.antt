-- Where a scope stands for a binding: what follows for terms, for the tables of the variables and for negations.
use Rattle.std.proofs.Common.{◌≡◌, ◌∙◌, refl, ap, ℕ, suc, pos, true, false, not, List, [], length, map}
use Rattle.std.proofs.lemmas.List.{length-map}
use Rattle.std.proofs.lemmas.Option.{slice_get-map}
use Rattle.std.specs.Option.{option_map}
use Rattle.std.specs.Prelude.{Option, Some, None, slice_get, option_and_then, is_some}
use Rattle.lint_base.specs.declared.place.Span.{Span}
use Rattle.lint_core.specs.declared.condition.Cond.{Cond}
use Rattle.lint_core.specs.declared.condition.Cond.TheVariants as c
use Rattle.lint_core.specs.declared.condition.Term.{Term}
use Rattle.lint_core.specs.declared.condition.Term.TheVariants as term
use Rattle.lint_core.specs.declared.database.Database.{Database}
use Rattle.lint_core.specs.declared.schema.Table.{Table}
use Rattle.lint_core.specs.declared.scope.Scope.{Scope}
use Rattle.lint_core.specs.Database.{Place}
use Rattle.lint_core.specs.Fits.{at_entry, cond_fits}
use Rattle.lint_core.specs.Meets.{is_of_domains}
use Rattle.lint_core.specs.Naming.{names}
use Rattle.sort_formula.specs.Holds.{holds}
use Rattle.sort_formula.specs.Negated.{negated}
use Rattle.sort_formula.specs.Rows.{tables_of_rows}
use Rattle.sort_formula.specs.Sentences.{formula_fits}
use Rattle.sort_formula.specs.Standpoint.{IsRowOf, StandsFor}
use Rattle.sort_formula.specs.Translation.{is_true_formula}
use Rattle.formula_laws.proofs.Complements.{complements}
use Rattle.truth_laws.proofs.Fits as fit
use Rattle.truth_laws.proofs.Fitting.{IsOutside}
use Rattle.truth_laws.proofs.Inside.{place_for, same_entries, term_stands}
use Rattle.truth_laws.proofs.Layers.{names_is_null}
use Rattle.truth_laws.proofs.Leaves.{TermStands}
use Rattle.truth_laws.proofs.Outside.{IsTableOf, AreOutside}

-- ---- the tables of the variables

mapped : (rows : List Place) (variable : Option ℕ) (place : Option Place) → option_and_then (slice_get rows) variable ≡ place →
    option_and_then (slice_get (tables_of_rows rows)) variable ≡ option_map (λ (p : Place). p.table) place
mapped rows None place is = ap (option_map (λ (p : Place). p.table)) is
mapped rows (Some n) place is = slice_get-map (λ (p : Place). p.table) rows n ∙ ap (option_map (λ (p : Place). p.table)) is

table_of_place : (table row : Option ℕ) → is_some row ≡ is_some table → option_map (λ (p : Place). p.table) (place_for table row) ≡ table
table_of_place None row same = refl
table_of_place (Some table) None same = cc
table_of_place (Some table) (Some row) same = refl

nowhere : Span
nowhere = record { from = 0; to = 0 }

module _ (db : Database) (scope : Scope) (binding : List (List ℕ)) (rows : List Place) where
  is_table : map length binding ≡ map length scope.tables → (level entry : ℕ) → IsRowOf db scope binding rows level entry → IsTableOf scope (tables_of_rows rows) level entry
  is_table entries level entry is =
      mapped rows (at_entry scope.levels level entry) (place_for (at_entry scope.tables level entry) (at_entry binding level entry)) is
      ∙ table_of_place (at_entry scope.tables level entry) (at_entry binding level entry) (same_entries binding scope.tables entries level entry)

  pub outside : (cond : Cond) → StandsFor db scope binding rows cond → AreOutside scope (tables_of_rows rows) (λ entry. names entry cond)
  outside cond stands = record {
    lengths = stands.variables;
    depth = length-map rows (λ (p : Place). p.table) ∙ stands.depth;
    main = λ entry named. is_table stands.entries 0 entry (stands.main entry named);
    inner = λ level entry. is_table stands.entries (suc level) entry (stands.inner level entry);
  }

  abbrev pub StandsForAll : Type 0
  StandsForAll = (cond : Cond) → StandsFor db scope binding rows cond

  module _ (schema : List Table) (domains : is_of_domains schema db ≡ true) where
    pub term_here : StandsForAll → (t : Term) → TermStands schema db domains scope binding rows t
    term_here stands t =
        let cond = c.IsNull t false nowhere in
        term_stands schema db domains scope binding rows cond (stands cond) t (λ entry named. names_is_null entry t false nowhere ∙ named)

    pub row_here : StandsForAll → (level entry : ℕ) → IsRowOf db scope binding rows level entry
    row_here stands level entry = term_here stands (term.Cell level entry 0 (pos 0))

    pub term_outside : StandsForAll → (t : Term) → IsOutside schema (tables_of_rows rows) scope t
    term_outside stands (term.Cell level entry column added) = is_table (stands (c.And [])).entries level entry (row_here stands level entry)
    term_outside stands (term.Number n unit) = tt
    term_outside stands (term.Text text) = tt
    term_outside stands term.Null = tt

    pub true_fits : (cond : Cond) → cond_fits schema scope.tables cond ≡ true → StandsFor db scope binding rows cond → formula_fits schema (is_true_formula schema cond scope) (tables_of_rows rows) ≡ true
    true_fits cond fits stands = (fit.cond_fits schema cond scope (tables_of_rows rows) fits (outside cond stands)).0

    -- the negation of the formula of a condition holds where the formula does not
    pub not_true : (cond : Cond) → cond_fits schema scope.tables cond ≡ true → StandsFor db scope binding rows cond →
        holds db (negated (is_true_formula schema cond scope)) rows ≡ not (holds db (is_true_formula schema cond scope) rows)
    not_true cond fits stands = complements schema db domains (is_true_formula schema cond scope) rows (true_fits cond fits stands)

-- The axioms of the columns that are marked hold exactly where no row has a NULL in them.
use Rattle.std.proofs.Common.{◌≡◌, ◌∙◌, refl, sym, ap, ap₂, ℕ, suc, Bool, true, false, not, ◌&&◌, List, [], ◌∷◌, if◌then◌else◌}
use Rattle.std.proofs.lemmas.List.Folds.{list_all-map, list_all-append}
use Rattle.std.specs.List.{list_all}
use Rattle.std.specs.Option.{option_and_then}
use Rattle.std.specs.Prelude.{Option, Some, slice_get, unwrap_or, length}
use Rattle.lint_core.specs.declared.database.Database.{Database}
use Rattle.lint_core.specs.declared.database.Row.{Row}
use Rattle.lint_core.specs.declared.database.Value.{Value}
use Rattle.lint_core.specs.declared.database.Value.TheVariants.{Null}
use Rattle.lint_core.specs.declared.schema.Column.{Column}
use Rattle.lint_core.specs.declared.schema.Table.{Table}
use Rattle.lint_core.specs.Comparison.{is_null}
use Rattle.lint_core.specs.Database.{Place, below, rows_of, places_of}
use Rattle.lint_core.specs.Domain.{is_in_domain}
use Rattle.lint_core.specs.Meets.{values_meet, is_of_domains, no_nulls, value_in}
use Rattle.sort_formula.specs.declared.formula.Atom.TheVariants as atom
use Rattle.sort_formula.specs.declared.formula.Formula.TheVariants as f
use Rattle.sort_formula.specs.Axioms.{Axiom, not_null_axiom, not_null_axioms}
use Rattle.sort_formula.specs.Holds.{holds}
use Rattle.sort_formula.proofs.Holding.{holds_atom, holds_forall}
use Rattle.lint_base.proofs.Lists.{both_right, all_alike}
use Rattle.truth_laws.proofs.Tests.{all_where, all_both, all_true, all_places}
use Rattle.truth_laws.proofs.Values.{rows_are}

-- the value in a column of a row, NULL where there is none
abbrev value_of : Option Row → ℕ → Value
value_of row column = unwrap_or (option_and_then (λ (r : Row). slice_get r.values column) row) Null

-- of columns, the first of which has this number
abbrev no_nulls_from : ℕ → List Column → Row → Bool
no_nulls_from column [] row = true
no_nulls_from column (c ∷ cs) row = not (c.not_null && is_null (value_of (Some row) column)) && no_nulls_from (suc column) cs row

one_more : (column : ℕ) (cs : List Column) (v : Value) (vs : List Value) → no_nulls_from (suc column) cs (record { values = v ∷ vs }) ≡ no_nulls_from column cs (record { values = vs })
one_more column [] v vs = refl
one_more column (c ∷ cs) v vs = ap (λ b. not (c.not_null && is_null (unwrap_or (slice_get vs column) Null)) && b) (one_more (suc column) cs v vs)

from_first : (cs : List Column) (vs : List Value) → values_meet cs vs ≡ true → no_nulls_from 0 cs (record { values = vs }) ≡ no_nulls cs vs
from_first [] vs meet = refl
from_first (c ∷ cs) [] meet = cc
from_first (c ∷ cs) (v ∷ vs) meet =
    ap (λ b. not (c.not_null && is_null v) && b) (one_more 0 cs v vs ∙ from_first cs vs (both_right (is_in_domain c.domain v) (values_meet cs vs) meet))

module _ (schema : List Table) (db : Database) (number : ℕ) (table : Table) where
  abbrev says : Axiom → Bool
  says a = holds db a.sentence []

  one_holds : (column : ℕ) → says (not_null_axiom schema number table column) ≡ list_all (λ (row : Row). not (is_null (value_of (Some row) column))) (rows_of db number)
  one_holds column =
      holds_forall db number (f.Atom (atom.NotNull 0 column)) []
      ∙ (all_alike (λ place. not (is_null (value_in db place column))) (λ place. holds db (f.Atom (atom.NotNull 0 column)) (place ∷ []))
      (λ place. holds_atom db (atom.NotNull 0 column) (place ∷ [])) (places_of db number)
      ∙ (list_all-map (λ (place : Place). not (is_null (value_in db place column))) (λ row. record { table = number; row = row }) (below (length (rows_of db number)))
      ∙ all_places (λ row. not (is_null (value_of row column))) (rows_of db number)))

  column_holds : (marked : Bool) (column : ℕ) →
      list_all says (if marked then not_null_axiom schema number table column ∷ [] else []) ≡ list_all (λ (row : Row). not (marked && is_null (value_of (Some row) column))) (rows_of db number)
  column_holds true column = and_true (says (not_null_axiom schema number table column)) ∙ one_holds column
    where
      and_true : (b : Bool) → (b && true) ≡ b
      and_true true = refl
      and_true false = refl
  column_holds false column = sym (all_true (rows_of db number))

  from_hold : (column : ℕ) (cs : List Column) → list_all says (not_null_axioms schema number table column cs) ≡ list_all (no_nulls_from column cs) (rows_of db number)
  from_hold column [] = sym (all_true (rows_of db number))
  from_hold column (c ∷ cs) =
      list_all-append says (if c.not_null then not_null_axiom schema number table column ∷ [] else []) (not_null_axioms schema number table (suc column) cs)
      ∙ (ap₂ (λ a b. a && b) (column_holds c.not_null column) (from_hold (suc column) cs)
      ∙ all_both (λ (row : Row). not (c.not_null && is_null (value_of (Some row) column))) (no_nulls_from (suc column) cs) (rows_of db number))

  pub not_nulls_hold : is_of_domains schema db ≡ true → slice_get schema number ≡ Some table →
      list_all (λ (a : Axiom). holds db a.sentence []) (not_null_axioms schema number table 0 table.columns) ≡ list_all (λ (row : Row). no_nulls table.columns row.values) (rows_of db number)
  not_nulls_hold domains at =
      from_hold 0 table.columns
      ∙ all_where (λ (row : Row). values_meet table.columns row.values) (no_nulls_from 0 table.columns) (λ (row : Row). no_nulls table.columns row.values)
      (λ row. from_first table.columns row.values) (rows_of db number) (rows_are schema db domains number table at)

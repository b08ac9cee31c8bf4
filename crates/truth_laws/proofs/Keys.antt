-- The axiom of a key holds exactly where the key is met.
use Rattle.std.proofs.Common.{◌≡◌, ◌∙◌, refl, sym, ap, ap₂, ℕ, Bool, true, not, ◌&&◌, ◌||◌, List, [], ◌∷◌, map, length, arith}
use Rattle.std.proofs.lemmas.Bool.Decides.{nat_tests}
use Rattle.std.proofs.lemmas.List.Folds.{list_all-map, list_any-append}
use Rattle.std.specs.List.{list_any, list_all, flat_map}
use Rattle.std.specs.Prelude.{Some, slice_get, nat_lt, nat_eq}
use Rattle.lint_core.specs.declared.database.Database.{Database}
use Rattle.lint_core.specs.declared.schema.Key.{Key}
use Rattle.lint_core.specs.declared.schema.Table.{Table}
use Rattle.lint_core.specs.Comparison.{are_equal}
use Rattle.lint_core.specs.Database.{Place, places_of}
use Rattle.lint_core.specs.Meets.{is_of_domains, value_in, agree, key_met}
use Rattle.sort_formula.specs.declared.formula.Side.TheVariants as side
use Rattle.sort_formula.specs.declared.formula.Atom.TheVariants as atom
use Rattle.sort_formula.specs.declared.formula.Formula.{Formula}
use Rattle.sort_formula.specs.declared.formula.Formula.TheVariants as f
use Rattle.sort_formula.specs.Axioms.{Axiom, key_column, key_axiom, is_text_column}
use Rattle.sort_formula.specs.Cells.{different_cells}
use Rattle.sort_formula.specs.Holds.{holds}
use Rattle.sort_formula.proofs.Holding.{holds_atom, holds_or, holds_forall}
use Rattle.lint_base.proofs.Lists.{both_left, both_right, not_and}
use Rattle.truth_laws.proofs.Tests.{all_where, place_in, over_all}
use Rattle.truth_laws.proofs.Values.{cell_is, has_column, different_say}

same_number : (n : ℕ) → nat_eq n n ≡ true
same_number n = grind (arith, nat_tests)

module _ (schema : List Table) (db : Database) (domains : is_of_domains schema db ≡ true) (number : ℕ) (table : Table) (at : slice_get schema number ≡ Some table) where
  abbrev is_column : ℕ → Bool
  is_column column = nat_lt column (length table.columns)

  module _ (row other : ℕ) where
    abbrev both : List Place
    both = place_in db number row ∷ place_in db number other ∷ []

    abbrev says : Formula → Bool
    says g = holds db g both

    column_differs : (column : ℕ) → is_column column ≡ true → list_any says (key_column schema number table column) ≡ not (are_equal (value_in db (place_in db number row) column) (value_in db (place_in db number other) column))
    column_differs column low =
        let there = has_column table.columns column low in
        let text = is_text_column table column in
        ap₂ (λ a b. a || (b || list_any says (different_cells text (side.Cell 0 column) (side.Cell 1 column))))
        (holds_atom db (atom.IsNull 0 column) both) (holds_atom db (atom.IsNull 1 column) both)
        ∙ different_say db both text (side.Cell 0 column) (side.Cell 1 column)
        (cell_is schema db domains both 0 number column table refl at there)
        (cell_is schema db domains both 1 number column table refl at there)

    columns_differ : (columns : List ℕ) → list_all is_column columns ≡ true →
        list_any says (flat_map (key_column schema number table) columns) ≡ not (agree db (place_in db number row) columns (place_in db number other) columns)
    columns_differ [] all = refl
    columns_differ (column ∷ columns) all =
        let equal = are_equal (value_in db (place_in db number row) column) (value_in db (place_in db number other) column) in
        list_any-append says (key_column schema number table column) (flat_map (key_column schema number table) columns)
        ∙ (ap₂ (λ a b. a || b) (column_differs column (both_left (is_column column) (list_all is_column columns) all)) (columns_differ columns (both_right (is_column column) (list_all is_column columns) all))
        ∙ sym (not_and equal (agree db (place_in db number row) columns (place_in db number other) columns)))

    pair_holds : (columns : List ℕ) → list_all is_column columns ≡ true →
        says (f.Or (f.Atom (atom.Same 0 1) ∷ flat_map (key_column schema number table) columns)) ≡ (nat_eq row other || not (agree db (place_in db number row) columns (place_in db number other) columns))
    pair_holds columns all =
        holds_or db (f.Atom (atom.Same 0 1) ∷ flat_map (key_column schema number table) columns) both
        ∙ ap₂ (λ a b. a || b) (holds_atom db (atom.Same 0 1) both ∙ ap (λ b. b && nat_eq row other) (same_number number)) (columns_differ columns all)

  key_holds : (key : Key) → list_all is_column key.columns ≡ true → holds db (key_axiom schema number table key).sentence [] ≡ key_met db number key
  key_holds key all =
      let body = f.Or (f.Atom (atom.Same 0 1) ∷ flat_map (key_column schema number table) key.columns) in
      holds_forall db number (f.Forall number body) []
      ∙ over_all db number (λ place. holds db (f.Forall number body) (place ∷ []))
      (λ place. list_all (λ (other : Place). nat_eq place.row other.row || not (agree db place key.columns other key.columns)) (places_of db number))
      (λ row.
      holds_forall db number body (place_in db number row ∷ [])
      ∙ over_all db number (λ other. holds db body (place_in db number row ∷ other ∷ []))
      (λ (other : Place). nat_eq row other.row || not (agree db (place_in db number row) key.columns other key.columns)) (λ other. pair_holds row other key.columns all))

  pub keys_hold : (keys : List Key) → list_all (λ (k : Key). list_all (λ column. nat_lt column (length table.columns)) k.columns) keys ≡ true →
      list_all (λ (a : Axiom). holds db a.sentence []) (map (key_axiom schema number table) keys) ≡ list_all (key_met db number) keys
  keys_hold keys all =
      list_all-map (λ (a : Axiom). holds db a.sentence []) (key_axiom schema number table) keys
      ∙ all_where (λ (k : Key). list_all is_column k.columns) (λ k. holds db (key_axiom schema number table k).sentence []) (key_met db number) key_holds keys all

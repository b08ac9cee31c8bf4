-- The axiom of a foreign key holds exactly where the foreign key is met.
use Rattle.std.proofs.Common.{◌≡◌, ◌∙◌, refl, ap₂, subst, ℕ, suc, Bool, true, false, ◌&&◌, ◌||◌, List, [], ◌∷◌, ◌++◌, map, length, arith}
use Rattle.std.proofs.lemmas.Bool.Decides.{nat_tests}
use Rattle.std.proofs.lemmas.List.Folds.{list_all-append, list_any-append}
use Rattle.std.specs.List.{list_any, list_all, flat_map, zip}
use Rattle.std.specs.Prelude.{Option, Some, None, slice_get, nat_eq}
use Rattle.lint_core.specs.declared.database.Database.{Database}
use Rattle.lint_core.specs.declared.schema.ForeignKey.{ForeignKey}
use Rattle.lint_core.specs.declared.schema.Table.{Table}
use Rattle.lint_core.specs.Comparison.{are_equal, is_null}
use Rattle.lint_core.specs.Database.{Place, places_of}
use Rattle.lint_core.specs.Kind.{column_kind, are_of_one_kind}
use Rattle.lint_core.specs.Meets.{is_of_domains, value_in, agree, foreign_met}
use Rattle.lint_core.specs.Schema.{are_paired, are_columns_of, refers_to}
use Rattle.sort_formula.specs.declared.formula.Side.TheVariants as side
use Rattle.sort_formula.specs.declared.formula.Atom.TheVariants as atom
use Rattle.sort_formula.specs.declared.formula.Formula.{Formula}
use Rattle.sort_formula.specs.declared.formula.Formula.TheVariants as f
use Rattle.sort_formula.specs.Axioms.{Axiom, pair_equal, foreign_sentence, foreign_axioms, is_text_column}
use Rattle.sort_formula.specs.Holds.{holds, cell_value}
use Rattle.sort_formula.proofs.Holding.{holds_atom, holds_and, holds_or, holds_exists, holds_forall}
use Rattle.lint_base.proofs.Lists.{any_map, any_alike, both_left, both_right}
use Rattle.truth_laws.proofs.Tests.{place_in, over_all, over_some}
use Rattle.truth_laws.proofs.Values.{cell_is, is_of, one_kind, equal_say}

none_one : (n : ℕ) → nat_eq 0 (suc n) ≡ true → ⊥
none_one n same = grind (arith, nat_tests)

pub one_none : (n : ℕ) → nat_eq (suc n) 0 ≡ true → ⊥
one_none n same = grind (arith, nat_tests)

pub as_many : (m n : ℕ) → nat_eq (suc m) (suc n) ≡ true → nat_eq m n ≡ true
as_many m n same = grind (arith, nat_tests)

module _ (schema : List Table) (db : Database) (domains : is_of_domains schema db ≡ true) (number : ℕ) (table : Table) (at : slice_get schema number ≡ Some table) where
  module _ (other_number : ℕ) (target : Table) (at_other : slice_get schema other_number ≡ Some target) (row other : ℕ) where
    abbrev one : Place
    one = place_in db number row

    abbrev two : Place
    two = place_in db other_number other

    abbrev says : Formula → Bool
    says g = holds db g (one ∷ two ∷ [])

    abbrev go_together : (ℕ × ℕ) → Bool
    go_together pair = are_of_one_kind (column_kind table pair.0) (column_kind target pair.1)

    pair_says : (column of_target : ℕ) → go_together (column, of_target) ≡ true →
        list_all says (pair_equal schema number table (column, of_target)) ≡ are_equal (value_in db one column) (value_in db two of_target)
    pair_says column of_target same =
        let kinds = one_kind table target column of_target same in
        let rows = one ∷ two ∷ [] in
        equal_say db rows (is_text_column table column) (side.Cell 0 column) (side.Cell 1 of_target)
        (cell_is schema db domains rows 0 number column table refl at kinds.0)
        (subst (λ (text : Bool). is_of text (cell_value db rows 1 of_target) ≡ true) kinds.2 (cell_is schema db domains rows 1 other_number of_target target refl at_other kinds.1))

    pairs_say : (columns others : List ℕ) → nat_eq (length columns) (length others) ≡ true → list_all go_together (zip columns others) ≡ true →
        list_all says (flat_map (pair_equal schema number table) (zip columns others)) ≡ agree db one columns two others
    pairs_say [] [] many all = refl
    pairs_say [] (d ∷ ds) many all = absurd (none_one (length ds) many)
    pairs_say (c ∷ cs) [] many all = absurd (one_none (length cs) many)
    pairs_say (c ∷ cs) (d ∷ ds) many all =
        let here = go_together (c, d) in
        let rest = list_all go_together (zip cs ds) in
        list_all-append says (pair_equal schema number table (c, d)) (flat_map (pair_equal schema number table) (zip cs ds))
        ∙ ap₂ (λ a b. a && b) (pair_says c d (both_left here rest all)) (pairs_say cs ds (as_many (length cs) (length ds) many) (both_right here rest all))

  module _ (key : ForeignKey) (target : Table) (at_other : slice_get schema key.target ≡ Some target) (paired : are_paired table target key.columns key.target_columns ≡ true) where
    abbrev equal : Formula
    equal = f.And (flat_map (pair_equal schema number table) (zip key.columns key.target_columns))

    abbrev null_at : ℕ → Formula
    null_at column = f.Atom (atom.IsNull 0 column)

    abbrev parts : List Formula
    parts = map null_at key.columns ++ f.Exists key.target equal ∷ []

    target_says : (row other : ℕ) → holds db equal (place_in db number row ∷ place_in db key.target other ∷ []) ≡ agree db (place_in db number row) key.columns (place_in db key.target other) key.target_columns
    target_says row other =
        let many = nat_eq (length key.columns) (length key.target_columns) in
        let all = list_all (λ (pair : ℕ × ℕ). are_of_one_kind (column_kind table pair.0) (column_kind target pair.1)) (zip key.columns key.target_columns) in
        holds_and db (flat_map (pair_equal schema number table) (zip key.columns key.target_columns)) (place_in db number row ∷ place_in db key.target other ∷ [])
        ∙ pairs_say key.target target at_other row other key.columns key.target_columns (both_left many all paired) (both_right many all paired)

    nulls_say : (row : ℕ) → list_any (λ g. holds db g (place_in db number row ∷ [])) (map null_at key.columns) ≡ list_any (λ column. is_null (value_in db (place_in db number row) column)) key.columns
    nulls_say row =
        any_map null_at (λ g. holds db g (place_in db number row ∷ [])) key.columns
        ∙ any_alike (λ column. is_null (value_in db (place_in db number row) column)) (λ column. holds db (null_at column) (place_in db number row ∷ []))
        (λ column. holds_atom db (atom.IsNull 0 column) (place_in db number row ∷ [])) key.columns

    some_target : (row : ℕ) → holds db (f.Exists key.target equal) (place_in db number row ∷ []) ≡ list_any (λ (target : Place). agree db (place_in db number row) key.columns target key.target_columns) (places_of db key.target)
    some_target row =
        holds_exists db key.target equal (place_in db number row ∷ [])
        ∙ over_some db key.target (λ place. holds db equal (place_in db number row ∷ place ∷ []))
        (λ (target : Place). agree db (place_in db number row) key.columns target key.target_columns) (target_says row)

    or_false : (b : Bool) → (b || false) ≡ b
    or_false true = refl
    or_false false = refl

    row_holds : (row : ℕ) → holds db (f.Or parts) (place_in db number row ∷ [])
        ≡ (list_any (λ column. is_null (value_in db (place_in db number row) column)) key.columns || list_any (λ (target : Place). agree db (place_in db number row) key.columns target key.target_columns) (places_of db key.target))
    row_holds row =
        let says = λ (g : Formula). holds db g (place_in db number row ∷ []) in
        holds_or db parts (place_in db number row ∷ [])
        ∙ (list_any-append says (map null_at key.columns) (f.Exists key.target equal ∷ [])
        ∙ ap₂ (λ a b. a || b) (nulls_say row) (or_false (says (f.Exists key.target equal)) ∙ some_target row))

    sentence_holds : holds db (foreign_sentence schema number table key) [] ≡ foreign_met db number key
    sentence_holds =
        holds_forall db number (f.Or parts) []
        ∙ over_all db number (λ place. holds db (f.Or parts) (place ∷ []))
        (λ place.
        list_any (λ column. is_null (value_in db place column)) key.columns
        || list_any (λ (target : Place). agree db place key.columns target key.target_columns) (places_of db key.target)) row_holds

  key_holds : (key : ForeignKey) (target : Option Table) → slice_get schema key.target ≡ target → refers_to table key target ≡ true → holds db (foreign_sentence schema number table key) [] ≡ foreign_met db number key
  key_holds key None at_other refers = cc
  key_holds key (Some target) at_other refers =
      sentence_holds key target at_other (both_left (are_paired table target key.columns key.target_columns) (list_any (are_columns_of key.target_columns) target.keys) refers)

  abbrev refers : ForeignKey → Bool
  refers key = refers_to table key (slice_get schema key.target)

  pub foreign_keys_hold : (index : ℕ) (keys : List ForeignKey) → list_all (λ (k : ForeignKey). refers_to table k (slice_get schema k.target)) keys ≡ true →
      list_all (λ (a : Axiom). holds db a.sentence []) (foreign_axioms schema number table index keys) ≡ list_all (foreign_met db number) keys
  foreign_keys_hold index [] all = refl
  foreign_keys_hold index (key ∷ keys) all =
      ap₂ (λ a b. a && b)
      (key_holds key (slice_get schema key.target) refl (both_left (refers key) (list_all refers keys) all))
      (foreign_keys_hold (suc index) keys (both_right (refers key) (list_all refers keys) all))

-- Two standpoints that stand for one binding have the same rows; and what stands for a binding does so with more rows
-- behind.
use Rattle.std.proofs.Common.{◌≡◌, ◌∙◌, ◌+◌, sym, ap, ap₂, refl, ℕ, zero, suc, true, List, ◌++◌, length, map}
use Rattle.std.proofs.lemmas.List.{length-append, length-map}
use Rattle.std.specs.Prelude.{Option, Some, None, slice_get, option_and_then}
use Rattle.lint_core.specs.declared.condition.Cond.{Cond}
use Rattle.lint_core.specs.declared.database.Database.{Database}
use Rattle.lint_core.specs.Condition.{place_of}
use Rattle.lint_core.specs.Fits.{at_entry}
use Rattle.lint_core.specs.Database.{Place}
use Rattle.lint_core.specs.declared.scope.Scope.{Scope}
use Rattle.sort_formula.specs.Standpoint.{IsRowOf, StandsFor}
use Rattle.lint_base.proofs.Lists.{slice_get_front}
use Rattle.truth_laws.proofs.Cells.{variable_too}
use Rattle.question_laws.specs.Alike.{StandAlike}
use Rattle.question_laws.specs.Deeper.{deeper}
use Rattle.question_laws.specs.Named.{names_at}
use Rattle.question_laws.proofs.Naming.{main_names}

same_lengths : (xs ys : List (List ℕ)) → map length xs ≡ map length ys → length xs ≡ length ys
same_lengths xs ys same =
    let lengths : length (map length xs) ≡ length (map length ys) = ap length same in
    sym (length-map xs length) ∙ (lengths ∙ length-map ys length)

abbrev place_for : Option ℕ → Option ℕ → Option Place
place_for table row = option_and_then (λ table. option_and_then (λ row. Some (record { table = table; row = row })) row) table

module _ (db : Database) where
  -- an entry that is there has a place
  place_there : (tables binding : List (List ℕ)) → map length binding ≡ map length tables → (level entry table : ℕ) → at_entry tables level entry ≡ Some table →
      (place : Place) × (place_of db tables binding level entry ≡ Some place)
  place_there tables binding same level entry table at =
      let row = variable_too binding tables same level entry table at in
      (record { table = table; row = row.0 }, ap₂ place_for at row.1)

  row_of : (scope : Scope) (binding : List (List ℕ)) (rows : List Place) (cond : Cond) → StandsFor db scope binding rows cond → (level entry : ℕ) →
      names_at level entry cond ≡ true → IsRowOf db scope binding rows level entry
  row_of scope binding rows cond stands zero entry named = stands.main entry (sym (main_names entry cond) ∙ named)
  row_of scope binding rows cond stands (suc level) entry named = stands.inner level entry

  pub one_binding : (one other : Scope) (binding : List (List ℕ)) (rows others : List Place) (cond : Cond) → one.tables ≡ other.tables →
      StandsFor db one binding rows cond → StandsFor db other binding others cond → StandAlike one other rows others cond
  one_binding one other binding rows others cond tables stands stands_too = record {
    tables = tables;
    depth = stands.depth;
    other_depth = stands_too.depth;
    levels = same_lengths one.levels one.tables stands.variables;
    other_levels = same_lengths other.levels other.tables stands_too.variables;
    entries = λ level entry table at named.
        let place = place_there one.tables binding stands.entries level entry table at in
        record {
          row = place.0;
          in_one = row_of one binding rows cond stands level entry named ∙ place.1;
          in_other =
              row_of other binding others cond stands_too level entry named
              ∙ (ap (λ tables. place_of db tables binding level entry) (sym tables) ∙ place.1);
        };
  }

  -- ---- more rows behind

  module _ (scope : Scope) (binding : List (List ℕ)) (rows more : List Place) where
    pub row_deeper : (level entry : ℕ) (place : Place) → place_of db scope.tables binding level entry ≡ Some place →
        IsRowOf db scope binding rows level entry → IsRowOf db scope binding (rows ++ more) level entry
    row_deeper level entry place there is =
        behind (at_entry scope.levels level entry) (is ∙ there) ∙ sym there
      where
        behind : (variable : Option ℕ) → option_and_then (slice_get rows) variable ≡ Some place → option_and_then (slice_get (rows ++ more)) variable ≡ Some place
        behind None at = cc
        behind (Some variable) at = slice_get_front rows more variable place at

    each_deeper : map length scope.levels ≡ map length scope.tables → map length binding ≡ map length scope.tables → (level entry : ℕ) →
        IsRowOf db scope binding rows level entry → IsRowOf db scope binding (rows ++ more) level entry
    each_deeper variables entries level entry is = by_variable (at_entry scope.levels level entry) refl
      where
        by_variable : (variable : Option ℕ) → at_entry scope.levels level entry ≡ variable → IsRowOf db scope binding (rows ++ more) level entry
        by_variable None at = ap (option_and_then (slice_get (rows ++ more))) at ∙ (sym (ap (option_and_then (slice_get rows)) at) ∙ is)
        by_variable (Some variable) at =
            let table = variable_too scope.tables scope.levels (sym variables) level entry variable at in
            let place = place_there scope.tables binding entries level entry table.0 table.1 in
            row_deeper level entry place.0 place.1 is

    pub stands_deeper : (cond : Cond) → StandsFor db scope binding rows cond → StandsFor db (deeper (length more) scope) binding (rows ++ more) cond
    stands_deeper cond stands = record {
      depth = length-append rows more ∙ ap (λ n. n + length more) stands.depth;
      variables = stands.variables;
      entries = stands.entries;
      main = λ entry named. each_deeper stands.variables stands.entries 0 entry (stands.main entry named);
      inner = λ level entry. each_deeper stands.variables stands.entries (suc level) entry (stands.inner level entry);
    }

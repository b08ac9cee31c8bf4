-- The keys of the tables, as their declarations name them: what a foreign key may refer to, also where the target
-- stands later in the file. A rule that is itself refused names no key.
use Rattle.std.specs.Prelude.{ℕ, Bool, true, false, if◌then◌else◌, List, [], ◌∷◌, ◌++◌, take, Option, Some, None, option_and_then, nat_eq, Ok, Err}
use Rattle.std.specs.List.{list_any, filter, filter_map}
use Rattle.lint_base.specs.declared.place.Span.{Span}
use Rattle.lint_base.specs.declared.place.Fault.TheVariants.{UnknownColumn, DuplicateName}
use Rattle.sql_tree.specs.declared.term.NameTree.{NameTree}
use Rattle.sql_tree.specs.declared.schema.RuleTree.{RuleTree}
use Rattle.sql_tree.specs.declared.schema.RuleTree.TheVariants.{Unique, Primary}
use Rattle.lint_core.specs.declared.schema.Column.{Column}
use Rattle.sql_bind.specs.Bound.{Bound, refused, and_then}
use Rattle.sql_bind.specs.Names.{column_place}

abbrev pub first_of : {A : Type 0} → List A → Option A
first_of [] = None
first_of (a ∷ rest) = Some a

abbrev pub option_list : {A : Type 0} → Option A → List A
option_list None = []
option_list (Some a) = a ∷ []

abbrev pub if_bound : {A : Type 0} → Bound A → Option A
if_bound (Ok a) = Some a
if_bound (Err refusal) = None

abbrev pub is_primary : RuleTree → Bool
is_primary (Primary names at) = true
is_primary _ = false

-- the columns of a list of names, each of which is a column and stands once
module _ (columns : List Column) where
  abbrev pub new_place : List ℕ → Span → Option ℕ → Bound ℕ
  new_place earlier at None = refused UnknownColumn at
  new_place earlier at (Some place) = if list_any (nat_eq place) earlier then refused DuplicateName at else Ok place

  -- a name after these columns
  abbrev pub bind_name : List ℕ → NameTree → Bound ℕ
  bind_name earlier name = new_place earlier name.span (column_place columns name.text)

  -- the names after these
  unfoldable pub bind_names : List ℕ → List NameTree → Bound (List ℕ)
  bind_names earlier [] = Ok earlier
  bind_names earlier (name ∷ names) = and_then (bind_name earlier name) (λ place. bind_names (earlier ++ place ∷ []) names)

  abbrev pub good_names : List NameTree → Option (List ℕ)
  good_names names = if_bound (bind_names [] names)

  -- the columns of a rule that is a UNIQUE key, or a PRIMARY one, with good names
  abbrev pub unique_columns : RuleTree → Option (List ℕ)
  unique_columns (Unique names) = good_names names
  unique_columns _ = None

  abbrev pub primary_columns : RuleTree → Option (List ℕ)
  primary_columns (Primary names at) = good_names names
  primary_columns _ = None

  -- the first that is written, if its names are good
  abbrev pub primary_key : List RuleTree → Option (List ℕ)
  primary_key rules = option_and_then primary_columns (first_of (filter is_primary rules))

  -- the primary key, then the others in text order
  abbrev pub named_keys : List RuleTree → List (List ℕ)
  named_keys rules = option_list (primary_key rules) ++ filter_map unique_columns rules

abbrev pub is_key_rule : RuleTree → Bool
is_key_rule (Unique names) = true
is_key_rule (Primary names at) = true
is_key_rule _ = false

-- the first 1,000 keys; more are too many
abbrev pub key_rules : List RuleTree → List RuleTree
key_rules rules = take 1000 (filter is_key_rule rules)

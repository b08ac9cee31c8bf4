-- The columns of a key are columns of its table; and the keys that rules name, where there are at most 1,000.
use Rattle.std.proofs.Common.{ℕ, ◌≤◌, ◌≡◌, refl, sym, ap, ◌∙◌, subst, Bool, true, List, [], ◌∷◌, ◌++◌, length, Option, Some, None, Ok, nat_eq, nat_lt, option_and_then}
use Rattle.std.proofs.lemmas.List.{take_all}
use Rattle.std.specs.List.{list_all, list_any, filter, filter_map, cons_option}
use Rattle.std.specs.Str.{bytes_eq}
use Rattle.lint_base.specs.declared.place.Fault.TheVariants.{DuplicateName}
use Rattle.sql_tree.specs.declared.term.NameTree.{NameTree}
use Rattle.sql_tree.specs.declared.schema.RuleTree.{RuleTree}
use Rattle.sql_tree.specs.declared.schema.RuleTree.TheVariants.{NotNull, Unique, Primary, Check, Foreign}
use Rattle.lint_core.specs.declared.schema.Column.{Column}
use Rattle.sql_bind.specs.Names.{column_place}
use Rattle.sql_bind.specs.Keys.{first_of, option_list, new_place, bind_name, bind_names, good_names, primary_columns, unique_columns, primary_key, named_keys, is_primary, is_key_rule, key_rules}
use Rattle.sql_bind.proofs.FitsBound.{and_then_ok, same_ok, if_not}
use Rattle.sql_bind.proofs.FitsLists.{position_inside, all_push}

module _ (columns : List Column) where
  abbrev pub is_column : ℕ → Bool
  is_column place = nat_lt place (length columns)

  place_inside : (earlier : List ℕ) (name : NameTree) (o : Option ℕ) (place : ℕ) → column_place columns name.text ≡ o → new_place columns earlier name.span o ≡ Ok place → is_column place ≡ true
  place_inside earlier name None place at is = absurd (cc)
  place_inside earlier name (Some p) place at is =
      let passed = if_not (list_any (nat_eq p) earlier) (Ok p) DuplicateName name.span place is in
      ap is_column (sym (same_ok p place passed.1)) ∙ position_inside (λ (c : Column). bytes_eq c.name name.text) columns p at

  pub names_inside : (earlier : List ℕ) (names : List NameTree) (places : List ℕ) → list_all is_column earlier ≡ true → bind_names columns earlier names ≡ Ok places → list_all is_column places ≡ true
  unfolding bind_names
  names_inside earlier [] places inside is = subst (λ ps. list_all is_column ps ≡ true) (same_ok earlier places is) inside
  names_inside earlier (name ∷ names) places inside is =
      let place = and_then_ok (bind_name columns earlier name) (λ place. bind_names columns (earlier ++ place ∷ []) names) places is in
      names_inside (earlier ++ place.0 ∷ []) names places (all_push is_column earlier place.0 inside (place_inside earlier name (column_place columns name.text) place.0 refl place.1)) place.2

  -- rules that are no keys name none
  unique_kept : (rules : List RuleTree) → filter_map (unique_columns columns) (filter is_key_rule rules) ≡ filter_map (unique_columns columns) rules
  unique_kept [] = refl
  unique_kept (NotNull ∷ rules) = unique_kept rules
  unique_kept (Unique names ∷ rules) = ap (cons_option (good_names columns names)) (unique_kept rules)
  unique_kept (Primary names at ∷ rules) = unique_kept rules
  unique_kept (Check tree ∷ rules) = unique_kept rules
  unique_kept (Foreign own table target at ∷ rules) = unique_kept rules

  primary_kept : (rules : List RuleTree) → filter is_primary (filter is_key_rule rules) ≡ filter is_primary rules
  primary_kept [] = refl
  primary_kept (NotNull ∷ rules) = primary_kept rules
  primary_kept (Unique names ∷ rules) = primary_kept rules
  primary_kept (Primary names at ∷ rules) = ap (λ rest. Primary names at ∷ rest) (primary_kept rules)
  primary_kept (Check tree ∷ rules) = primary_kept rules
  primary_kept (Foreign own table target at ∷ rules) = primary_kept rules

  pub keys_kept : (rules : List RuleTree) → length (filter is_key_rule rules) ≤ 1000 → named_keys columns (key_rules rules) ≡ named_keys columns rules
  keys_kept rules few =
      ap (named_keys columns) (take_all 1000 (filter is_key_rule rules) few)
      ∙ (ap (λ primaries. option_list (option_and_then (primary_columns columns) (first_of primaries)) ++ filter_map (unique_columns columns) (filter is_key_rule rules)) (primary_kept rules)
      ∙ ap (λ rest. option_list (primary_key columns rules) ++ rest) (unique_kept rules))

-- The keys of a bound table are those that its rules name.
use Rattle.std.proofs.Common.{ℕ, ◌+◌, ◌≤◌, ◌≡◌, refl, sym, ap, ap₂, ◌∙◌, subst, List, [], ◌∷◌, ◌++◌, length, map, Option, Some, None, Ok, option_map, arith, append_assoc, append-nil, length-append}
use Rattle.std.proofs.lemmas.List.{map-append}
use Rattle.std.specs.List.{filter, filter_map, cons_option}
use Rattle.std.specs.Option.{option_or}
use Rattle.sql_tree.specs.declared.term.NameTree.{NameTree}
use Rattle.sql_tree.specs.declared.schema.RuleTree.{RuleTree}
use Rattle.sql_tree.specs.declared.schema.RuleTree.TheVariants.{NotNull, Unique, Primary, Check, Foreign}
use Rattle.sql_tree.specs.declared.schema.CreateTable.{CreateTable}
use Rattle.lint_core.specs.declared.schema.Key.{Key}
use Rattle.lint_core.specs.declared.schema.Table.{Table}
use Rattle.sql_bind.specs.Keys.{option_list, if_bound, good_names, unique_columns, primary_key, named_keys, is_key_rule, key_rules}
use Rattle.sql_bind.specs.Schemas.{Constraints, no_constraints, keys_of, bind_rule, bind_rules}
use Rattle.sql_bind.proofs.FitsBound.{and_then_ok, same_ok}
use Rattle.sql_bind.proofs.FitsKeys.{keys_kept}
use Rattle.sql_bind.proofs.FitsRules.{columns_of_key, with_unique, with_primary, with_check, with_foreign, unique_last, primary_first, unique_step, primary_step, check_step, foreign_step}

module _ (outlines : List Table) (trees : List CreateTable) (table : Table) (name : NameTree) (number : ℕ) where
  -- the keys at the end, from those at the start and the rules
  pub record Named (rules : List RuleTree) (c last : Constraints) : Type 0 where
    pub unique : map columns_of_key last.unique ≡ map columns_of_key c.unique ++ filter_map (unique_columns table.columns) rules
    pub primary : option_map columns_of_key last.primary ≡ option_or (option_map columns_of_key c.primary) (primary_key table.columns rules)
    pub count : length (keys_of last) ≡ length (keys_of c) + length (filter is_key_rule rules)

  none_named : (c : Constraints) → Named [] c c
  none_named c = record { unique = sym (append-nil (map columns_of_key c.unique)); primary = or_none (option_map columns_of_key c.primary); count = omega arith }
    where
      or_none : (o : Option (List ℕ)) → o ≡ option_or o None
      or_none None = refl
      or_none (Some columns) = refl

  rule_named : (c : Constraints) (rule : RuleTree) (next : Constraints) (rules : List RuleTree) (last : Constraints) → bind_rule outlines trees table name number c rule ≡ Ok next → Named rules next last → Named (rule ∷ rules) c last
  rule_named c NotNull next rules last is rest = subst (λ c. Named (NotNull ∷ rules) c last) (sym (same_ok c next is)) (record { unique = rest.unique; primary = rest.primary; count = rest.count })
  rule_named c (Unique names) next rules last is rest =
      let step = unique_step outlines trees table name number c names next is in
      let from_step : Named rules (with_unique c step.0) last = subst (λ c. Named rules c last) (sym step.3) rest in
      let named : good_names table.columns names ≡ Some step.0 = ap if_bound step.1 in
      let key : Key = record { columns = step.0 } in
      let others = filter_map (unique_columns table.columns) rules in
      record {
        unique =
            from_step.unique ∙ (ap (λ ks. ks ++ others) (map-append columns_of_key c.unique (key ∷ []))
            ∙ (append_assoc (map columns_of_key c.unique) (step.0 ∷ []) others ∙ ap (λ o. map columns_of_key c.unique ++ cons_option o others) (sym named)));
        primary = from_step.primary;
        count = omega (arith, from_step.count, ap length (unique_last c step.0), length-append (keys_of c) (key ∷ []));
      }
  rule_named c (Primary names at) next rules last is rest =
      let step = primary_step outlines trees table name number c names at next is in
      let from_step : Named rules (with_primary c step.0) last = subst (λ c. Named rules c last) (sym step.4) rest in
      let named : good_names table.columns names ≡ Some step.0 = ap if_bound step.1 in
      record {
        unique = from_step.unique;
        primary = from_step.primary ∙ (sym named ∙ ap (λ o. option_or (option_map columns_of_key o) (good_names table.columns names)) (sym step.3));
        count = omega (arith, from_step.count, ap length (primary_first c step.3));
      }
  rule_named c (Check tree) next rules last is rest =
      let step = check_step outlines trees table name number c tree next is in
      let from_step : Named rules (with_check c step.0) last = subst (λ c. Named rules c last) (sym step.3) rest in
      record { unique = from_step.unique; primary = from_step.primary; count = from_step.count }
  rule_named c (Foreign own target targets at) next rules last is rest =
      let step = foreign_step outlines trees table name number c own target targets at next is in
      let from_step : Named rules (with_foreign c step.0) last = subst (λ c. Named rules c last) (sym step.3) rest in
      record { unique = from_step.unique; primary = from_step.primary; count = from_step.count }

  rules_named : (c : Constraints) (rules : List RuleTree) (last : Constraints) → bind_rules outlines trees table name number c rules ≡ Ok last → Named rules c last
  unfolding bind_rules
  rules_named c [] last is = subst (Named [] c) (same_ok c last is) (none_named c)
  rules_named c (rule ∷ rules) last is =
      let next = and_then_ok (bind_rule outlines trees table name number c rule) (λ more. bind_rules outlines trees table name number more rules) last is in
      rule_named c rule next.0 rules last next.1 (rules_named next.0 rules last next.2)

  list_columns : (o : Option Key) → map columns_of_key (option_list o) ≡ option_list (option_map columns_of_key o)
  list_columns None = refl
  list_columns (Some key) = refl

  pub keys_named : (rules : List RuleTree) (last : Constraints) → length (keys_of last) ≤ 1000 → bind_rules outlines trees table name number no_constraints rules ≡ Ok last →
      named_keys table.columns (key_rules rules) ≡ map columns_of_key (keys_of last)
  keys_named rules last few is =
      let named : Named rules no_constraints last = rules_named no_constraints rules last is in
      let all : map columns_of_key (keys_of last) ≡ named_keys table.columns rules =
      map-append columns_of_key (option_list last.primary) last.unique ∙ ap₂ (λ a b. a ++ b) (list_columns last.primary ∙ ap option_list named.primary) named.unique in
      keys_kept table.columns rules (omega (arith, named.count)) ∙ sym all

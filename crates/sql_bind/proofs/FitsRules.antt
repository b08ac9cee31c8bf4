-- The constraints of a table: each of its rules adds one that is good, and the keys are those that the rules name.
use Rattle.std.proofs.Common.{ℕ, ◌<◌, ◌≤◌, ◌≡◌, refl, sym, ap, ◌∙◌, subst, Bool, true, false, ◌&&◌, List, [], ◌∷◌, ◌++◌, length, Option, Some, None, Ok, nat_eq, nat_le, nat_lt, is_some, slice_get, if◌then◌else◌, arith, leb-false, append_assoc, length-append}
use Rattle.std.proofs.lemmas.Bool.{and_parts, and_from}
use Rattle.std.specs.List.{list_all, list_any}
use Rattle.lint_base.specs.declared.place.Span.{Span}
use Rattle.lint_base.specs.declared.place.Fault.TheVariants.{DuplicateName, TypeMismatch, NotAKey}
use Rattle.sql_tree.specs.declared.term.NameTree.{NameTree}
use Rattle.sql_tree.specs.declared.select.CondTree.{CondTree}
use Rattle.sql_tree.specs.declared.schema.RuleTree.{RuleTree}
use Rattle.sql_tree.specs.declared.schema.RuleTree.TheVariants.{NotNull, Unique, Primary, Check, Foreign}
use Rattle.sql_tree.specs.declared.schema.CreateTable.{CreateTable}
use Rattle.lint_core.specs.declared.condition.Cond.{Cond}
use Rattle.lint_core.specs.declared.schema.Key.{Key}
use Rattle.lint_core.specs.declared.schema.ForeignKey.{ForeignKey}
use Rattle.lint_core.specs.declared.schema.Table.{Table}
use Rattle.lint_core.specs.Fits.{check_fits, count_conditions}
use Rattle.lint_core.specs.Schema.{are_columns_of, are_paired}
use Rattle.sql_bind.specs.Bound.{refused, too_many, and_then}
use Rattle.sql_bind.specs.Names.{table_place}
use Rattle.sql_bind.specs.Selects.{bind_cond}
use Rattle.sql_bind.specs.Shape.{rule_shaped}
use Rattle.sql_bind.specs.Keys.{option_list, bind_names, named_keys, key_rules}
use Rattle.sql_bind.specs.Schemas.{Constraints, keys_of, rules_at, target_columns, are_a_key, paired, with_table, with_target, bind_foreign, check_levels, bind_check, bind_rule, bind_rules}
use Rattle.sql_bind.proofs.FitsBound.{and_then_ok, same_ok, if_ok, if_not, limit_ok, limit_not}
use Rattle.sql_bind.proofs.FitsConditions.{cond_bound_fits}
use Rattle.sql_bind.proofs.FitsFlat.{flat_stays}
use Rattle.sql_bind.proofs.FitsKeys.{names_inside}
use Rattle.sql_bind.proofs.FitsLists.{all_push}

none_is : {A : Type 0} (o : Option A) → is_some o ≡ false → o ≡ None
none_is None e = refl
none_is (Some a) e = absurd (cc)

abbrev pub columns_of_key : Key → List ℕ
columns_of_key key = key.columns

-- the columns of a key are columns of its table
abbrev pub is_key : Table → Key → Bool
is_key table key = list_all (λ column. nat_lt column (length table.columns)) key.columns

-- the constraints with one more
abbrev pub with_unique : Constraints → List ℕ → Constraints
with_unique c columns = record { primary = c.primary; unique = c.unique ++ record { columns = columns } ∷ []; checks = c.checks; foreign = c.foreign }

abbrev pub with_primary : Constraints → List ℕ → Constraints
with_primary c columns = record { primary = Some (record { columns = columns }); unique = c.unique; checks = c.checks; foreign = c.foreign }

abbrev pub with_check : Constraints → Cond → Constraints
with_check c cond = record { primary = c.primary; unique = c.unique; checks = c.checks ++ cond ∷ []; foreign = c.foreign }

abbrev pub with_foreign : Constraints → ForeignKey → Constraints
with_foreign c foreign = record { primary = c.primary; unique = c.unique; checks = c.checks; foreign = c.foreign ++ foreign ∷ [] }

-- one more key of each sort
pub unique_last : (c : Constraints) (columns : List ℕ) → keys_of (with_unique c columns) ≡ keys_of c ++ record { columns = columns } ∷ []
unique_last c columns = sym (append_assoc (option_list c.primary) c.unique (record { columns = columns } ∷ []))

pub primary_first : (c : Constraints) → c.primary ≡ None → keys_of c ≡ c.unique
primary_first c none = ap (λ (o : Option Key). option_list o ++ c.unique) none

module _ (outlines : List Table) (trees : List CreateTable) (table : Table) (name : NameTree) (number : ℕ) where
  -- a foreign key that refers to a key that its target's rules name
  abbrev pub refers : ForeignKey → Option Table → Bool
  refers f None = false
  refers f (Some target) =
      are_paired table target f.columns f.target_columns
      && list_any (λ key. are_columns_of f.target_columns (record { columns = key })) (named_keys target.columns (key_rules (rules_at outlines trees f.target)))

  abbrev pub refers_well : ForeignKey → Bool
  refers_well f = refers f (slice_get outlines f.target)

  pub record Good (c : Constraints) : Type 0 where
    pub few_keys : length (keys_of c) ≤ 1000
    pub keys : list_all (is_key table) (keys_of c) ≡ true
    pub few_checks : length c.checks ≤ 1000
    pub checks : list_all (check_fits outlines number) c.checks ≡ true
    pub few_foreign : length c.foreign ≤ 1000
    pub foreign : list_all refers_well c.foreign ≡ true

  room_left : {A : Type 0} (list : List A) (x : A) → nat_le 1000 (length list) ≡ false → length (list ++ x ∷ []) ≤ 1000
  room_left list x room = omega (arith, leb-false 1000 (length list) room, length-append list (x ∷ []))

  -- what a rule of each sort adds
  pub unique_step : (c : Constraints) (names : List NameTree) (next : Constraints) → bind_rule outlines trees table name number c (Unique names) ≡ Ok next →
      (columns : List ℕ) × (bind_names table.columns [] names ≡ Ok columns) × (nat_le 1000 (length (keys_of c)) ≡ false) × (with_unique c columns ≡ next)
  unique_step c names next is =
      let room = limit_not (nat_le 1000 (length (keys_of c))) (and_then (bind_names table.columns [] names) (λ columns. Ok (with_unique c columns))) 1001 name.span next is in
      let columns = and_then_ok (bind_names table.columns [] names) (λ columns. Ok (with_unique c columns)) next room.1 in
      (columns.0, columns.1, room.0, same_ok (with_unique c columns.0) next columns.2)

  pub primary_step : (c : Constraints) (names : List NameTree) (at : Span) (next : Constraints) → bind_rule outlines trees table name number c (Primary names at) ≡ Ok next →
      (columns : List ℕ) × (bind_names table.columns [] names ≡ Ok columns) × (nat_le 1000 (length (keys_of c)) ≡ false) × (c.primary ≡ None) × (with_primary c columns ≡ next)
  primary_step c names at next is =
      let fresh = λ (columns : List ℕ). if is_some c.primary then refused DuplicateName at else Ok (with_primary c columns) in
      let room = limit_not (nat_le 1000 (length (keys_of c))) (and_then (bind_names table.columns [] names) fresh) 1001 name.span next is in
      let columns = and_then_ok (bind_names table.columns [] names) fresh next room.1 in
      let first = if_not (is_some c.primary) (Ok (with_primary c columns.0)) DuplicateName at next columns.2 in
      (columns.0, columns.1, room.0, none_is c.primary first.0, same_ok (with_primary c columns.0) next first.1)

  pub check_step : (c : Constraints) (tree : CondTree) (next : Constraints) → bind_rule outlines trees table name number c (Check tree) ≡ Ok next →
      (cond : Cond) × (bind_check outlines trees table name number tree ≡ Ok cond) × (nat_le 1000 (length c.checks) ≡ false) × (with_check c cond ≡ next)
  check_step c tree next is =
      let room = limit_not (nat_le 1000 (length c.checks)) (and_then (bind_check outlines trees table name number tree) (λ cond. Ok (with_check c cond))) 1001 name.span next is in
      let cond = and_then_ok (bind_check outlines trees table name number tree) (λ cond. Ok (with_check c cond)) next room.1 in
      (cond.0, cond.1, room.0, same_ok (with_check c cond.0) next cond.2)

  pub foreign_step : (c : Constraints) (own : List NameTree) (target : NameTree) (targets : List NameTree) (at : Span) (next : Constraints) →
      bind_rule outlines trees table name number c (Foreign own target targets at) ≡ Ok next →
      (f : ForeignKey) × (bind_foreign outlines trees table name own target targets at ≡ Ok f) × (nat_le 1000 (length c.foreign) ≡ false) × (with_foreign c f ≡ next)
  foreign_step c own target targets at next is =
      let bound = bind_foreign outlines trees table name own target targets at in
      let room = limit_not (nat_le 1000 (length c.foreign)) (and_then bound (λ f. Ok (with_foreign c f))) 1001 name.span next is in
      let f = and_then_ok bound (λ f. Ok (with_foreign c f)) next room.1 in
      (f.0, f.1, room.0, same_ok (with_foreign c f.0) next f.2)

  -- a CHECK that was bound
  check_good : (tree : CondTree) (cond : Cond) → rule_shaped (Check tree) ≡ true → bind_check outlines trees table name number tree ≡ Ok cond → check_fits outlines number cond ≡ true
  check_good tree cond flat is =
      let levels = check_levels outlines trees table name number in
      let limited = λ (c : Cond). if nat_le (count_conditions c) 65536 then Ok c else too_many 65537 name.span in
      let bound = and_then_ok (bind_cond outlines levels tree) limited cond is in
      let few = limit_ok (nat_le (count_conditions bound.0) 65536) (Ok bound.0) 65537 name.span cond bound.2 in
      let stays = flat_stays outlines tree flat in
      subst (λ c. check_fits outlines number c ≡ true) (same_ok bound.0 cond few.1)
      (and_from _ _ (and_from _ _ (stays.bound levels bound.0 bound.1) few.0) (cond_bound_fits outlines tree levels bound.0 stays.shaped bound.1))

  -- a foreign key that was bound
  paired_well : (target_number : ℕ) (target : Table) (columns : List ℕ) (at : Span) (o : Option (List ℕ)) (f : ForeignKey) → slice_get outlines target_number ≡ Some target →
      paired outlines trees table name target_number target columns at o ≡ Ok f → refers_well f ≡ true
  paired_well target_number target columns at None f there is = absurd (cc)
  paired_well target_number target columns at (Some targets) f there is =
      let made : ForeignKey = record { columns = columns; target = target_number; target_columns = targets } in
      let alike = if are_paired table target columns targets then Ok made else refused TypeMismatch at in
      let key = if_ok (are_a_key outlines trees target_number target columns targets) alike NotAKey at f is in
      let pairs = if_ok (are_paired table target columns targets) (Ok made) TypeMismatch at f key.1 in
      subst (λ f. refers_well f ≡ true) (same_ok made f pairs.1)
      (ap (refers made) there ∙ and_from _ _ pairs.0 (and_parts (nat_eq (length columns) (length targets)) _ key.0).1)

  table_well : (columns : List ℕ) (target_name : NameTree) (targets : List NameTree) (at : Span) (target_number : ℕ) (o : Option Table) (f : ForeignKey) → slice_get outlines target_number ≡ o →
      with_table outlines trees table name columns target_name targets at target_number o ≡ Ok f → refers_well f ≡ true
  table_well columns target_name targets at target_number None f there is = absurd (cc)
  table_well columns target_name targets at target_number (Some target) f there is =
      paired_well target_number target columns at (target_columns outlines trees target_number target targets) f there is

  target_well : (columns : List ℕ) (target_name : NameTree) (targets : List NameTree) (at : Span) (o : Option ℕ) (f : ForeignKey) →
      with_target outlines trees table name columns target_name targets at o ≡ Ok f → refers_well f ≡ true
  target_well columns target_name targets at None f is = absurd (cc)
  target_well columns target_name targets at (Some target_number) f is =
      table_well columns target_name targets at target_number (slice_get outlines target_number) f refl is

  foreign_good : (own : List NameTree) (target_name : NameTree) (targets : List NameTree) (at : Span) (f : ForeignKey) →
      bind_foreign outlines trees table name own target_name targets at ≡ Ok f → refers_well f ≡ true
  foreign_good own target_name targets at f is =
      let columns = and_then_ok (bind_names table.columns [] own) (λ columns. with_target outlines trees table name columns target_name targets at (table_place outlines target_name.text)) f is in
      target_well columns.0 target_name targets at (table_place outlines target_name.text) f columns.2

  key_good : (names : List NameTree) (columns : List ℕ) → bind_names table.columns [] names ≡ Ok columns → is_key table (record { columns = columns }) ≡ true
  key_good names columns is = names_inside table.columns [] names columns refl is

  -- each rule adds what is good
  rule_good : (c : Constraints) (rule : RuleTree) (next : Constraints) → rule_shaped rule ≡ true → Good c → bind_rule outlines trees table name number c rule ≡ Ok next → Good next
  rule_good c NotNull next shaped good is = subst Good (same_ok c next is) good
  rule_good c (Unique names) next shaped good is =
      let step = unique_step c names next is in
      let key : Key = record { columns = step.0 } in
      subst Good step.3 (record {
        few_keys = subst (λ (ks : List Key). length ks ≤ 1000) (sym (unique_last c step.0)) (room_left (keys_of c) key step.2);
        keys = subst (λ (ks : List Key). list_all (is_key table) ks ≡ true) (sym (unique_last c step.0)) (all_push (is_key table) (keys_of c) key good.keys (key_good names step.0 step.1));
        few_checks = good.few_checks;
        checks = good.checks;
        few_foreign = good.few_foreign;
        foreign = good.foreign;
      })
  rule_good c (Primary names at) next shaped good is =
      let step = primary_step c names at next is in
      let others : keys_of c ≡ c.unique = primary_first c step.3 in
      let room : length c.unique < 1000 = omega (arith, leb-false 1000 (length (keys_of c)) step.2, ap length others) in
      subst Good step.4 (record {
        few_keys = omega (arith, room);
        keys = and_from _ _ (key_good names step.0 step.1) (subst (λ (ks : List Key). list_all (is_key table) ks ≡ true) others good.keys);
        few_checks = good.few_checks;
        checks = good.checks;
        few_foreign = good.few_foreign;
        foreign = good.foreign;
      })
  rule_good c (Check tree) next shaped good is =
      let step = check_step c tree next is in
      subst Good step.3 (record {
        few_keys = good.few_keys;
        keys = good.keys;
        few_checks = room_left c.checks step.0 step.2;
        checks = all_push (check_fits outlines number) c.checks step.0 good.checks (check_good tree step.0 shaped step.1);
        few_foreign = good.few_foreign;
        foreign = good.foreign;
      })
  rule_good c (Foreign own target targets at) next shaped good is =
      let step = foreign_step c own target targets at next is in
      subst Good step.3 (record {
        few_keys = good.few_keys;
        keys = good.keys;
        few_checks = good.few_checks;
        checks = good.checks;
        few_foreign = room_left c.foreign step.0 step.2;
        foreign = all_push refers_well c.foreign step.0 good.foreign (foreign_good own target targets at step.0 step.1);
      })

  pub rules_good : (c : Constraints) (rules : List RuleTree) (last : Constraints) → list_all rule_shaped rules ≡ true → Good c → bind_rules outlines trees table name number c rules ≡ Ok last → Good last
  unfolding bind_rules
  rules_good c [] last shaped good is = subst Good (same_ok c last is) good
  rules_good c (rule ∷ rules) last shaped good is =
      let shapes = and_parts (rule_shaped rule) (list_all rule_shaped rules) shaped in
      let next = and_then_ok (bind_rule outlines trees table name number c rule) (λ more. bind_rules outlines trees table name number more rules) last is in
      rules_good next.0 rules last shapes.1 (rule_good c rule next.0 shapes.0 good next.1) next.2

-- The second pass, one rule and one table after the other.
use Rattle.std.proofs.Common.{◌≡◌, ℕ, suc, ◌+◌, ◌<◌, ◌≤◌, List, [], ◌∷◌, ◌++◌, length, drop, get_or, Option, Some, None, Result, Ok, Err, Bor, refl, sym, ap, subst, ◌∙◌, append_assoc, arith}
use Rattle.std.specs.Prelude.{slice_get}
use Rattle.std.specs.Result.{IsErrAnd}
use Rattle.std.proofs.lemmas.List.{append-nil, drop_all}
use Rattle.std.proofs.lemmas.Option.{slice_get_within, get_or_from_slice_get}
use Rattle.lint_base.specs.declared.place.Refusal.{Refusal}
use Rattle.lint_base.specs.declared.place.TextStop.{TextStop}
use Rattle.sql_tree.specs.declared.term.NameTree.{NameTree}
use Rattle.sql_tree.specs.declared.schema.RuleTree.{RuleTree}
use Rattle.sql_tree.specs.declared.schema.CreateTable.{CreateTable}
use Rattle.lint_core.specs.declared.schema.Table.{Table}
use Rattle.lint_core.specs.declared.condition.Cond.{Cond}
use Rattle.lint_core.specs.declared.condition.Entry.{Entry}
use Rattle.sql_tree.specs.declared.select.CondTree.{CondTree}
use Rattle.sql_bind.specs.declared.levels.Levels.{Levels}
use Rattle.sql_bind.specs.declared.levels.Levels.TheVariants as levels
use Rattle.sql_bind.specs.declared.levels.Levels.TheOpen.{Levels-F}
use Rattle.sql_bind.specs.declared.levels.Levels.TheFolds.{fold-roll-Levels}
use Rattle.sql_bind.specs.inner.Levels.{levels_step, levels_seen}
use Rattle.sql_bind.specs.Names.{Level, whole_level}
use Rattle.sql_bind.specs.Selects.{bind_cond}
use Rattle.sql_bind.proofs.LevelTables.{seen_inside}
use Rattle.sql_bind.specs.declared.keys.NamedKeys.{NamedKeys}
use Rattle.sql_bind.specs.Bound.{Bound, and_then, Gives}
use Rattle.sql_bind.specs.Columns.{rules_of}
use Rattle.sql_bind.specs.Schemas.{Constraints, rules_at, bind_rule, bind_rules, bind_tables, with_constraints, no_constraints}
use Rattle.sql_bind.specs.inner.Passes.{behind, keys_named, all_keys, bind_table}
use Rattle.sql_bind.proofs.Loops.{IsStep, drop_next, passes_on}

module _ (trees : List CreateTable) where
  pub keys_start : (none keys : List NamedKeys) → none ≡ [] → none ++ keys ≡ keys
  keys_start none keys e = ap (λ front. front ++ keys) e

  -- the keys of the tables so far, and those of the rest
  module _ (so_far : List NamedKeys) (tables : List Table) (whole : List NamedKeys) (i : ℕ) (invariant : so_far ++ all_keys trees i (drop i tables) ≡ whole) where
    pub keys_next : (table : Table) → i < length tables → table ≡ get_or tables i table → (rules : List RuleTree) (named : NamedKeys) (longer : List NamedKeys) → rules ≡ rules_at [] trees i → named ≡ keys_named table.columns rules → longer ≡ so_far ++ named ∷ [] →
        longer ++ all_keys trees (i + 1) (drop (i + 1) tables) ≡ whole
    unfolding all_keys
    keys_next table low is rules named longer ruled keyed last =
        let rest = drop (i + 1) tables in
        let next : suc i ≡ i + 1 = omega arith in
        ap (λ front. front ++ all_keys trees (i + 1) rest) last ∙ append_assoc so_far (named ∷ []) (all_keys trees (i + 1) rest)
        ∙ ap (λ n. so_far ++ n ∷ all_keys trees (i + 1) rest) (keyed ∙ ap (keys_named table.columns) ruled)
        ∙ ap (λ (n : ℕ). so_far ++ keys_named table.columns (rules_at [] trees i) ∷ all_keys trees n rest) (sym next)
        ∙ ap (λ ts. so_far ++ all_keys trees i ts) (sym (drop_next tables i table low is)) ∙ invariant

    pub keys_over : length tables ≤ i → so_far ≡ whole
    unfolding all_keys
    keys_over end = sym (append-nil so_far) ∙ ap (λ ts. so_far ++ all_keys trees i ts) (sym (drop_all i tables end)) ∙ invariant

module _ (outlines : List Table) (trees : List CreateTable) where
  module _ (table : Table) (name : NameTree) (number : ℕ) where
    abbrev pub rules_rest : Constraints → List (Bor RuleTree) → Bound Constraints
    rules_rest c rules = bind_rules outlines trees table name number c (behind rules)

    abbrev pub rule_step : Constraints → Bor RuleTree → Bound Constraints
    rule_step c rule = bind_rule outlines trees table name number c rule.now

    pub rule_steps : IsStep rules_rest rule_step
    unfolding bind_rules
    rule_steps c rule rules = refl

    pub rules_over : (c : Constraints) → rules_rest c [] ≡ Ok c
    unfolding bind_rules
    rules_over c = refl

  regrouped : (number : ℕ) (table : Table) (tree : CreateTable) (b : Bound Constraints) (rest : Bound (List Table)) →
      and_then b (λ c. and_then rest (λ bound. Ok (with_constraints outlines trees table tree.name c ∷ bound)))
      ≡ and_then (and_then b (λ c. Ok (with_constraints outlines trees table tree.name c))) (λ t. and_then rest (λ more. Ok (t ∷ more)))
  unfolding and_then
  regrouped number table tree (Ok c) rest = refl
  regrouped number table tree (Err refusal) rest = refl

  -- the tables after those so far
  abbrev pub tables_rest : List Table → ℕ → Bound (List Table)
  tables_rest so_far i = and_then (bind_tables outlines trees i (drop i outlines) (drop i trees)) (λ more. Ok (so_far ++ more))

  pub tables_start : (none : List Table) → none ≡ [] → tables_rest none 0 ≡ bind_tables outlines trees 0 outlines trees
  unfolding and_then
  tables_start none e = ap (λ front. tables_rest front 0) e ∙ go (bind_tables outlines trees 0 outlines trees)
    where
      go : (b : Bound (List Table)) → and_then b (λ more. Ok ([] ++ more)) ≡ b
      go (Ok tables) = refl
      go (Err refusal) = refl

  module _ (so_far : List Table) (i : ℕ) (whole : Bound (List Table)) (invariant : tables_rest so_far i ≡ whole) where
    pub tables_over : length trees ≤ i → whole ≡ Ok so_far
    unfolding bind_tables and_then
    tables_over end = sym invariant ∙ ap (λ ts. and_then (bind_tables outlines trees i (drop i outlines) ts) (λ more. Ok (so_far ++ more))) (drop_all i trees end) ∙ go (drop i outlines)
      where
        go : (tables : List Table) → and_then (bind_tables outlines trees i tables []) (λ more. Ok (so_far ++ more)) ≡ Ok so_far
        go [] = ap Ok (append-nil so_far)
        go (t ∷ ts) = ap Ok (append-nil so_far)

    pub tables_short : length outlines ≤ i → whole ≡ Ok so_far
    unfolding bind_tables and_then
    tables_short end = sym invariant ∙ ap (λ ts. and_then (bind_tables outlines trees i ts (drop i trees)) (λ more. Ok (so_far ++ more))) (drop_all i outlines end) ∙ ap Ok (append-nil so_far)

    module _ (tree : CreateTable) (table : Table) (low : i < length trees) (is : tree ≡ get_or trees i tree) (there : slice_get outlines i ≡ Some table) where
      rest : Bound (List Table)
      rest = bind_tables outlines trees (i + 1) (drop (i + 1) outlines) (drop (i + 1) trees)

      at_table : whole ≡ and_then (and_then (bind_table outlines trees i table tree) (λ t. and_then rest (λ more. Ok (t ∷ more)))) (λ more. Ok (so_far ++ more))
      unfolding bind_tables rest
      at_table =
          let next : suc i ≡ i + 1 = omega arith in
          let within : i < length outlines = slice_get_within outlines i table there in
          sym invariant
          ∙ ap (λ ts. and_then (bind_tables outlines trees i ts (drop i trees)) (λ more. Ok (so_far ++ more))) (drop_next outlines i table within (sym (get_or_from_slice_get outlines i table table there)))
          ∙ ap (λ ts. and_then (bind_tables outlines trees i (table ∷ drop (i + 1) outlines) ts) (λ more. Ok (so_far ++ more))) (drop_next trees i tree low is)
          ∙ ap (λ b. and_then b (λ more. Ok (so_far ++ more))) (regrouped i table tree (bind_rules outlines trees table tree.name i no_constraints (rules_of tree.elements)) (bind_tables outlines trees (suc i) (drop (i + 1) outlines) (drop (i + 1) trees)))
          ∙ ap (λ (n : ℕ). and_then (and_then (bind_table outlines trees i table tree) (λ t. and_then (bind_tables outlines trees n (drop (i + 1) outlines) (drop (i + 1) trees)) (λ more. Ok (t ∷ more)))) (λ more. Ok (so_far ++ more))) next

      pub tables_stop : (at : TextStop) (r : Result (List Table) TextStop) → Gives {A = Table} (bind_table outlines trees i table tree) (Err at) → IsErrAnd r (λ y. y ≡ at) → Gives whole r
      unfolding and_then
      tables_stop at r given e =
          passes_on (bind_table outlines trees i table tree) whole at r
          (λ refusal refused. at_table ∙ ap (λ b. and_then (and_then b (λ t. and_then rest (λ more. Ok (t ∷ more)))) (λ more. Ok (so_far ++ more))) refused) given e

      pub tables_next : (bound : Table) (longer : List Table) → bind_table outlines trees i table tree ≡ Ok bound → longer ≡ so_far ++ bound ∷ [] → tables_rest longer (i + 1) ≡ whole
      unfolding and_then rest
      tables_next bound longer e last =
          ap (λ front. tables_rest front (i + 1)) last ∙ sym (at_table ∙ ap (λ b. and_then (and_then b (λ t. and_then rest (λ more. Ok (t ∷ more)))) (λ more. Ok (so_far ++ more))) e ∙ go rest)
        where
          go : (b : Bound (List Table)) → and_then (and_then b (λ more. Ok (bound ∷ more))) (λ more. Ok (so_far ++ more)) ≡ and_then b (λ more. Ok ((so_far ++ bound ∷ []) ++ more))
          go (Ok more) = ap Ok (sym (append_assoc so_far (bound ∷ []) more))
          go (Err refusal) = refl

-- the level of a CHECK
pub over_one : (tables : List Table) (tree : CondTree) (entries : Bor (List Entry)) (outer : Bor Levels) (end : ℕ) (r : Result Cond TextStop) → outer.now ≡ levels.Outside → end ≡ length entries.now →
    Gives (bind_cond tables (levels_seen (levels.Inside entries 0 end outer)) tree) r → Gives (bind_cond tables (whole_level entries.now ∷ []) tree) r
over_one tables tree entries outer end r none size given =
    let level = seen_inside entries 0 end outer ∙ ap (λ (n : ℕ). record { entries = entries.now; first = 0; end = n } ∷ levels_seen outer.now) size ∙ ap (λ (around : Levels). whole_level entries.now ∷ levels_seen around) none ∙ ap (λ (rest : List Level). whole_level entries.now ∷ rest) outside in
    subst (λ seen. Gives (bind_cond tables seen tree) r) level given
  where
    outside : levels_seen levels.Outside ≡ []
    outside = ap levels_seen (sym levels.rolls-Outside) ∙ fold-roll-Levels (List Level) levels_step Levels-F.Outside

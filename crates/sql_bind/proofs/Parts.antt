-- A conjunction, and a disjunction, binds to what its parts bind to.
use Rattle.std.proofs.Common.{◌≡◌, ◌∙◌, ap, sym, refl, List, [], ◌∷◌, map, Ok}
use Rattle.lint_core.specs.declared.condition.Cond.{Cond}
use Rattle.lint_core.specs.declared.condition.Cond.TheVariants.{And, Or}
use Rattle.lint_core.specs.declared.schema.Table.{Table}
use Rattle.sql_tree.specs.declared.select.CondTree.{CondTree, fold-roll-CondTree}
use Rattle.sql_tree.specs.declared.select.CondTree.TheVariants as tree
use Rattle.sql_tree.specs.declared.select.CondTree.TheOpen.{CondTree-F}
use Rattle.sql_bind.specs.Bound.{Bound, and_then, all_bound}
use Rattle.sql_bind.specs.Names.{Level}
use Rattle.sql_bind.specs.Conditions.{CondMeaning, EntryMeaning, SelectMeaning, cond_step}
use Rattle.sql_bind.specs.Selects.{entry_step, select_step, bind_cond}
use Rattle.sql_bind.specs.inner.Meanings.{cond_meaning}

module _ (schema : List Table) (levels : List Level) where
  at_levels : (parts : List CondTree) → map (λ (part : CondMeaning). part levels) (map (cond_meaning schema) parts) ≡ map (bind_cond schema levels) parts
  at_levels [] = refl
  at_levels (part ∷ parts) = ap (λ more. bind_cond schema levels part ∷ more) (at_levels parts)

  pub and_bound : (parts : List CondTree) → bind_cond schema levels (tree.And parts) ≡ and_then (all_bound (map (bind_cond schema levels) parts)) (λ conds. Ok (And conds))
  and_bound parts =
      ap (λ t. cond_meaning schema t levels) (sym (tree.rolls-And parts))
      ∙ ap (λ m. m levels) (fold-roll-CondTree CondMeaning EntryMeaning SelectMeaning (cond_step schema) (entry_step schema) (select_step schema) (CondTree-F.And parts))
      ∙ ap (λ bounds. and_then (all_bound bounds) (λ conds. Ok (And conds))) (at_levels parts)

  pub or_bound : (parts : List CondTree) → bind_cond schema levels (tree.Or parts) ≡ and_then (all_bound (map (bind_cond schema levels) parts)) (λ conds. Ok (Or conds))
  or_bound parts =
      ap (λ t. cond_meaning schema t levels) (sym (tree.rolls-Or parts))
      ∙ ap (λ m. m levels) (fold-roll-CondTree CondMeaning EntryMeaning SelectMeaning (cond_step schema) (entry_step schema) (select_step schema) (CondTree-F.Or parts))
      ∙ ap (λ bounds. and_then (all_bound bounds) (λ conds. Ok (Or conds))) (at_levels parts)

  pub and_made : (t : CondTree) (parts items : List CondTree) (conds : List Cond) → t ≡ tree.And parts → items ≡ parts → all_bound (map (bind_cond schema levels) items) ≡ Ok conds → bind_cond schema levels t ≡ Ok (And conds)
  unfolding and_then
  and_made t parts items conds is same bound =
      ap (bind_cond schema levels) is ∙ and_bound parts
      ∙ ap (λ ps. and_then (all_bound (map (bind_cond schema levels) ps)) (λ conds. Ok (And conds))) (sym same)
      ∙ ap (λ b. and_then b (λ conds. Ok (And conds))) bound

  pub or_made : (t : CondTree) (parts items : List CondTree) (conds : List Cond) → t ≡ tree.Or parts → items ≡ parts → all_bound (map (bind_cond schema levels) items) ≡ Ok conds → bind_cond schema levels t ≡ Ok (Or conds)
  unfolding and_then
  or_made t parts items conds is same bound =
      ap (bind_cond schema levels) is ∙ or_bound parts
      ∙ ap (λ ps. and_then (all_bound (map (bind_cond schema levels) ps)) (λ conds. Ok (Or conds))) (sym same)
      ∙ ap (λ b. and_then b (λ conds. Ok (Or conds))) bound

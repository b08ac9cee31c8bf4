use Rattle.std.proofs.Common.{◌∙◌, sym, ap, List, ◌++◌}
use Rattle.std.specs.List.{flat_map}
use Rattle.sql_meaning.specs.Behind.{behind}
use Rattle.lint_core.specs.declared.condition.Cond.{Cond}
use Rattle.std.proofs.lemmas.Grind.{common_steps}
use Rattle.std.proofs.Common.{arith}
use Rattle.lint_core.specs.Conjuncts.{conjuncts}
use Rattle.lint_core.proofs.Parted.{conjuncts_and, conjuncts_other}
use Rattle.sql_meaning.proofs.conjunction.+conjuncts.Goals as goal

pub add_conjuncts-returns-in_ok-add_each-in-And : goal.add_conjuncts-returns-in_ok-add_each-in-And
add_conjuncts-returns-in_ok-add_each-in-And t c =
    let before = behind c.args.found.now.items in
    c.in_ok-add_each-in-And.ensures
    ∙ (ap (λ (parts : List Cond). before ++ flat_map conjuncts parts) c.as_slice.ensures
    ∙ ap (λ (conds : List Cond). before ++ conds) (sym (ap conjuncts c.in-And.is ∙ conjuncts_and c.in-And.parts)))

pub add_conjuncts-returns-in_ok-push-in_default : goal.add_conjuncts-returns-in_ok-push-in_default
add_conjuncts-returns-in_ok-push-in_default t c =
    let alone = conjuncts_other c.args.cond.now c.in_default.not-And in
    grind (arith, common_steps, alone)

use Rattle.std.proofs.Common.{◌≡◌, ◌∙◌, sym, ap, subst, List, length, IfOk}
use Rattle.std.specs.List.{flat_map}
use Rattle.lint_base.specs.declared.place.Span.{Span}
use Rattle.lint_core.specs.declared.condition.Cond.{Cond}
use Rattle.lint_core.specs.declared.condition.Cond.TheVariants as cond
use Rattle.lint_core.specs.Predicates.{predicates}
use Rattle.lint_core.proofs.Parted.{predicates_and, predicates_or}
use Rattle.sql_meaning.specs.Replacing.{constant}
use Rattle.sql_meaning.specs.inner.ReplacedParts.{after, replaced_at, parts_at, alone_at}
use Rattle.sql_meaning.proofs.ReplacedParts.{at_and, at_or, at_scalar}
use Rattle.sql_meaning.proofs.replacing.+replaced.Goals as goal

pub replace-returns-in-Ok-clause-cond : goal.replace-returns-in-Ok-clause-cond
replace-returns-in-Ok-clause-cond t c =
    let by = constant c.args.by in
    let left = c.args.left.now in
    ap cond.And (c.in-Ok.ensures.parts ∙ ap (λ (ps : List Cond). parts_at by left ps) c.as_slice.ensures)
    ∙ sym (ap (λ (x : Cond). replaced_at by left x) c.in-And.is ∙ at_and by left c.in-And.parts)

pub replace-returns-in-Ok-clause-left : goal.replace-returns-in-Ok-clause-left
replace-returns-in-Ok-clause-left t c =
    let left = c.args.left.now in
    c.in-Ok.ensures.left
    ∙ (ap (λ (ps : List Cond). after left (length (flat_map predicates ps))) c.as_slice.ensures
    ∙ sym (ap (λ (ps : List Span). after left (length ps)) (ap predicates c.in-And.is ∙ predicates_and c.in-And.parts)))

pub replace-returns-in-Ok-replace_each-clause-cond : goal.replace-returns-in-Ok-replace_each-clause-cond
replace-returns-in-Ok-replace_each-clause-cond t c =
    let by = constant c.args.by in
    let left = c.args.left.now in
    ap cond.Or (c.in-Ok-replace_each.ensures.parts ∙ ap (λ (ps : List Cond). parts_at by left ps) c.as_slice-in-Or.ensures)
    ∙ sym (ap (λ (x : Cond). replaced_at by left x) c.in-Or.is ∙ at_or by left c.in-Or.parts)

pub replace-returns-in-Ok-replace_each-clause-left : goal.replace-returns-in-Ok-replace_each-clause-left
replace-returns-in-Ok-replace_each-clause-left t c =
    let left = c.args.left.now in
    c.in-Ok-replace_each.ensures.left
    ∙ (ap (λ (ps : List Cond). after left (length (flat_map predicates ps))) c.as_slice-in-Or.ensures
    ∙ sym (ap (λ (ps : List Span). after left (length ps)) (ap predicates c.in-Or.is ∙ predicates_or c.in-Or.parts)))

pub replace-returns-in-Scalar-clause-cond : goal.replace-returns-in-Scalar-clause-cond
replace-returns-in-Scalar-clause-cond t c =
    let by = constant c.args.by in
    let left = c.args.left.now in
    let w = c.in-Scalar in
    let alone = ap (λ (x : Cond). replaced_at by left x) w.is ∙ (at_scalar by left w.op w.left w.block w.item w.span ∙ sym (ap (λ (x : Cond). alone_at by left x) w.is)) in
    subst (λ (x : Cond). IfOk c.replace_alone-in-Scalar.result (λ (r : Cond). r ≡ x)) (sym alone) c.replace_alone-in-Scalar.ensures.cond

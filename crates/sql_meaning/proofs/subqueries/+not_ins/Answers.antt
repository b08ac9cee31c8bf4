use Rattle.std.proofs.Common.{◌≡◌, ◌∙◌, sym, ap, subst, ℕ, List, Result, Ok, IfOk}
use Rattle.std.specs.List.{flat_map}
use Rattle.lint_core.specs.declared.condition.Cond.{Cond}
use Rattle.lint_core.specs.declared.condition.Cond.TheVariants as cond
use Rattle.lint_core.specs.declared.condition.Block.{Block}
use Rattle.sql_meaning.specs.declared.subqueries.Search.{Search}
use Rattle.sql_meaning.specs.Answered.{whole_of}
use Rattle.sql_meaning.specs.WholeSubqueries.{WholeSubquery, whole, whole_not_ins}
use Rattle.sql_meaning.specs.inner.Reached.{reached, item_at}
use Rattle.sql_meaning.proofs.Reached.{each_later, each_there}
use Rattle.sql_meaning.proofs.WholeSubqueries.{not_ins_and, not_ins_or}
use Rattle.sql_meaning.proofs.Sought.{not_in_found}
use Rattle.sql_meaning.proofs.subqueries.+not_ins.Goals as goal

pub seek_not_in-returns-in-And : goal.seek_not_in-returns-in-And
seek_not_in-returns-in-And t c =
    let tables = c.args.tables.now in
    let listed = λ (part : Cond). whole_not_ins part tables in
    let parted = ap listed c.in-And.is ∙ not_ins_and tables c.in-And.parts in
    let same = ap (λ (ps : List Cond). flat_map listed ps) c.as_slice.ensures in
    subst (λ (found : List WholeSubquery). IfOk c.seek_not_in_each.result (λ (s : Search). reached s ≡ item_at found c.args.number)) (same ∙ sym parted) c.seek_not_in_each.ensures

pub seek_not_in-returns-in-Or : goal.seek_not_in-returns-in-Or
seek_not_in-returns-in-Or t c =
    let tables = c.args.tables.now in
    let listed = λ (part : Cond). whole_not_ins part tables in
    let parted = ap listed c.in-Or.is ∙ not_ins_or tables c.in-Or.parts in
    let same = ap (λ (ps : List Cond). flat_map listed ps) c.as_slice-in-Or.ensures in
    subst (λ (found : List WholeSubquery). IfOk c.seek_not_in_each-in-Or.result (λ (s : Search). reached s ≡ item_at found c.args.number)) (same ∙ sym parted) c.seek_not_in_each-in-Or.ensures

pub seek_not_in_each-returns-in-Ok-Found : goal.seek_not_in_each-returns-in-Ok-Found
seek_not_in_each-returns-in-Ok-Found t c =
    let f = c.in-Ok-Found in
    each_there (λ (part : Cond). whole_not_ins part c.args.tables.now) c.args.parts.now c.loop-part.part-index c.loop-part.left c.part-item.result (whole_of f.subquery) _
    c.loop-part-test.true c.part-item.is c.loop-part.invariant (sym (ap reached f.field-0-is) ∙ f.ensures)

pub seek_not_in_each-loop-part-preserved : goal.seek_not_in_each-loop-part-preserved
seek_not_in_each-loop-part-preserved t c =
    let f = c.in-Ok-Left in
    each_later (λ (part : Cond). whole_not_ins part c.args.tables.now) c.args.parts.now c.loop-part.part-index c.loop-part.left f.more c.part-item.result _
    c.loop-part-test.true c.part-item.is c.loop-part.invariant (sym (ap reached f.field-0-is) ∙ f.ensures)

pub seek_not_in-returns-then-number-eq0 : goal.seek_not_in-returns-then-number-eq0
seek_not_in-returns-then-number-eq0 t c =
    let w = c.in-In in
    let tables = c.args.tables.now in
    let there = ap (λ (x : Cond). item_at (whole_not_ins x tables) c.args.number) w.is in
    let first = ap (λ (n : ℕ). item_at (whole_not_ins (cond.In w.term w.block w.item w.negated w.span) tables) n) c.if-number-eq0.true in
    let column = sym c.is_column.ensures ∙ c.if-not-is_column.false in
    let at = there ∙ (first ∙ not_in_found tables w.term w.block w.item w.negated w.span c.if-not-negated.false column) in
    let same = ap (λ (b : Block). let r : Result WholeSubquery ℕ = Ok (whole tables b w.item w.span) in r) c.get-then-number-eq0.ensures in
    subst (λ (r : Result WholeSubquery ℕ). IfOk c.found.result (λ (s : Search). reached s ≡ r)) (same ∙ sym at) c.found.ensures

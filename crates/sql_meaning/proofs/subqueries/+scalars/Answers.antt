use Rattle.std.proofs.Common.{◌≡◌, ◌∙◌, sym, ap, ap₂, subst, ℕ, ◌+◌, ◌-◌, List, Result, Ok, Err, IfOk, arith}
use Rattle.std.specs.List.{flat_map}
use Rattle.lint_core.specs.declared.condition.Cond.{Cond}
use Rattle.lint_core.specs.declared.condition.Block.{Block, out-Block}
use Rattle.sql_meaning.specs.declared.subqueries.Search.{Search}
use Rattle.sql_meaning.specs.Answered.{whole_of}
use Rattle.sql_meaning.specs.WholeSubqueries.{WholeSubquery, whole, whole_scalars}
use Rattle.sql_meaning.specs.inner.Reached.{reached, item_at}
use Rattle.sql_meaning.proofs.Reached.{each_later, each_there}
use Rattle.sql_meaning.proofs.WholeSubqueries.{scalars_and, scalars_or}
use Rattle.sql_meaning.proofs.Sought.{inside, scalar_inside, scalar_found, scalar_later}
use Rattle.sql_meaning.proofs.subqueries.+scalars.Goals as goal

pub seek_scalar-returns-in-And : goal.seek_scalar-returns-in-And
seek_scalar-returns-in-And t c =
    let tables = c.args.tables.now in
    let listed = λ (part : Cond). whole_scalars part tables in
    let parted = ap listed c.in-And.is ∙ scalars_and tables c.in-And.parts in
    let same = ap (λ (ps : List Cond). flat_map listed ps) c.as_slice.ensures in
    subst (λ (found : List WholeSubquery). IfOk c.seek_scalar_in_each.result (λ (s : Search). reached s ≡ item_at found c.args.number)) (same ∙ sym parted) c.seek_scalar_in_each.ensures

pub seek_scalar-returns-in-Or : goal.seek_scalar-returns-in-Or
seek_scalar-returns-in-Or t c =
    let tables = c.args.tables.now in
    let listed = λ (part : Cond). whole_scalars part tables in
    let parted = ap listed c.in-Or.is ∙ scalars_or tables c.in-Or.parts in
    let same = ap (λ (ps : List Cond). flat_map listed ps) c.as_slice-in-Or.ensures in
    subst (λ (found : List WholeSubquery). IfOk c.seek_scalar_in_each-in-Or.result (λ (s : Search). reached s ≡ item_at found c.args.number)) (same ∙ sym parted) c.seek_scalar_in_each-in-Or.ensures

pub seek_scalar_in_each-returns-in-Ok-Found : goal.seek_scalar_in_each-returns-in-Ok-Found
seek_scalar_in_each-returns-in-Ok-Found t c =
    let f = c.in-Ok-Found in
    each_there (λ (part : Cond). whole_scalars part c.args.tables.now) c.args.parts.now c.loop-part.part-index c.loop-part.left c.part-item.result (whole_of f.subquery) _
    c.loop-part-test.true c.part-item.is c.loop-part.invariant (sym (ap reached f.field-0-is) ∙ f.ensures)

pub seek_scalar_in_each-loop-part-preserved : goal.seek_scalar_in_each-loop-part-preserved
seek_scalar_in_each-loop-part-preserved t c =
    let f = c.in-Ok-Left in
    each_later (λ (part : Cond). whole_scalars part c.args.tables.now) c.args.parts.now c.loop-part.part-index c.loop-part.left f.more c.part-item.result _
    c.loop-part-test.true c.part-item.is c.loop-part.invariant (sym (ap reached f.field-0-is) ∙ f.ensures)

pub seek_scalar-returns-in-Ok-Left-eq0 : goal.seek_scalar-returns-in-Ok-Left-eq0
seek_scalar-returns-in-Ok-Left-eq0 t c =
    let w = c.in-Scalar in
    let tables = c.args.tables.now in
    let n = c.args.number in
    let there = ap (λ (x : Cond). item_at (whole_scalars x tables) n) w.is in
    let through = ap (λ (b : Block). item_at (inside tables w.op w.left b w.item w.span n) n) c.get-in-Scalar.ensures in
    let f = c.in-Ok-Left-eq0 in
    let zero_left = sym (ap (λ (m : ℕ). let r : Result WholeSubquery ℕ = Err m in r) f.field-0-0-test) ∙ (sym (ap reached f.field-0-is) ∙ (f.ensures ∙ through)) in
    let at = there ∙ scalar_found tables w.op w.left w.block w.item w.span n zero_left in
    let same = ap₂ (λ (a b : Block). let r : Result WholeSubquery ℕ = Ok (whole tables a w.item (out-Block b).span) in r) c.get-in-Ok-Left-eq0.ensures c.get-in-Ok-Left-eq0-2.ensures in
    subst (λ (r : Result WholeSubquery ℕ). IfOk c.found.result (λ (s : Search). reached s ≡ r)) (same ∙ sym at) c.found.ensures

pub seek_scalar-returns-in-Ok-Left : goal.seek_scalar-returns-in-Ok-Left
seek_scalar-returns-in-Ok-Left t c =
    let w = c.in-Scalar in
    let tables = c.args.tables.now in
    let n = c.args.number in
    let there = ap (λ (x : Cond). item_at (whole_scalars x tables) n) w.is in
    let through = ap (λ (b : Block). item_at (inside tables w.op w.left b w.item w.span n) n) c.get-in-Scalar.ensures in
    let f = c.in-Ok-Left in
    let less : f.more ≡ (f.more - 1) + 1 = omega arith in
    sym (there ∙ scalar_later tables w.op w.left w.block w.item w.span n f.more (f.more - 1) less (sym (ap reached f.field-0-is) ∙ (f.ensures ∙ through)))

pub seek_scalar-returns-in-Ok-Found : goal.seek_scalar-returns-in-Ok-Found
seek_scalar-returns-in-Ok-Found t c =
    let w = c.in-Scalar in
    let tables = c.args.tables.now in
    let n = c.args.number in
    let there = ap (λ (x : Cond). item_at (whole_scalars x tables) n) w.is in
    let through = ap (λ (b : Block). item_at (inside tables w.op w.left b w.item w.span n) n) c.get-in-Scalar.ensures in
    let f = c.in-Ok-Found in
    sym (there ∙ scalar_inside tables w.op w.left w.block w.item w.span n (whole_of f.subquery) (sym (ap reached f.field-0-is) ∙ (f.ensures ∙ through)))

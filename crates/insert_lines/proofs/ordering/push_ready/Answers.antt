use Rattle.std.proofs.Common.{◌≡◌, ◌∙◌, sym, ap, ◌<◌, true, false, length, arith}
use Rattle.std.proofs.lemmas.Result.{on_ok_weaker}
use Rattle.std.specs.List.{filter}
use Rattle.lint_core.specs.Database.{below}
use Rattle.insert_lines.specs.InsertOrder.{is_ready}
use Rattle.insert_lines.proofs.FirstFound.{first_written, none_found, none_written}
use Rattle.insert_lines.proofs.ordering.push_ready.Goals as goal

pub loop-number-preserved : goal.loop-number-preserved
loop-number-preserved c =
    let fails : is_ready c.args.tables.now c.loop-number.written c.loop-number.number ≡ false = cc in
    record { same = c.loop-number.invariant.same; none = none_found (is_ready c.args.tables.now c.loop-number.written) c.loop-number.number c.loop-number.invariant.none fails }

pub returns-then-is_ready : goal.returns-then-is_ready
returns-then-is_ready c =
    let passes : is_ready c.args.tables.now c.loop-number.written c.loop-number.number ≡ true = cc in
    let low : c.loop-number.number < length c.args.tables.now = grind (arith) in
    on_ok_weaker c.push.result (λ e. first_written (is_ready c.args.tables.now) (length c.args.tables.now) c.loop-number.number c.args.written.now c.loop-number.written c.push.new.self
    c.loop-number.invariant.same c.loop-number.invariant.none passes low e) c.push.ensures.ok

pub returns : goal.returns
returns c =
    let end : c.loop-number.number ≡ length c.args.tables.now = grind (arith) in
    let none = ap (λ k. filter (is_ready c.args.tables.now c.loop-number.written) (below k)) (sym end) ∙ c.loop-number.invariant.none in
    none_written (is_ready c.args.tables.now) (length c.args.tables.now) c.args.written.now c.loop-number.written c.loop-number.invariant.same none

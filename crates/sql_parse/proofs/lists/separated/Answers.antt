use Rattle.std.proofs.Common.{◌<◌, length, sym, subst, ◌∙◌, arith, Ok, Err}
use Rattle.std.proofs.lemmas.Result.{err_from_is_err_and}
use Rattle.sql_parse.specs.inner.readers.Gives.{Stops, is_mark}
use Rattle.sql_parse.proofs.Separated.{gathered_start, gathered_step, gathered_end, stops_later}
use Rattle.sql_parse.proofs.Shorter.{expect_shorter}
use Rattle.sql_parse.proofs.lists.separated.Goals as goal

pub loop-after-init : goal.loop-after-init
loop-after-init g c = λ read short gives.
    gathered_start (is_mark c.args.mark) read c.new-parts.result c.push.new.self c.args.tokens.now c.in_ok-first.rest.now c.in_ok-first.first
    (gives c.args.tokens _ c.in_ok-first.ensures) c.new-parts.ensures c.in_ok-push.ensures.ok

pub loop-after-preserved : goal.loop-after-preserved
loop-after-preserved g c = λ read short gives.
    gathered_step (is_mark c.args.mark) read short c.loop-after.parts c.push-in-Some.new.self c.loop-after.rest.now c.in-Some.after.now c.in_ok-other.after.now c.in-Some.field-0-0.now c.in_ok-other.other
    c.in-Some.ensures.0 c.in-Some.ensures.1 (gives c.in-Some.after _ c.in_ok-other.ensures) c.in_ok-push-2.ensures.ok
    ∙ c.loop-after.invariant read short gives

pub loop-after-smaller : goal.loop-after-smaller
loop-after-smaller g c =
    let mark_shorter = expect_shorter (is_mark c.args.mark) c.loop-after.rest.now c.in-Some.field-0-0.now c.in-Some.after.now c.in-Some.ensures.1 in
    let part_shorter : length c.in_ok-other.after.now < length c.in-Some.after.now = c.requires.shorter c.in-Some.after (Ok (c.in_ok-other.other, c.in_ok-other.after)) c.in_ok-other.ensures in
    omega arith

pub returns-in_err-other : goal.returns-in_err-other
returns-in_err-other g c = λ read short gives.
    let p = err_from_is_err_and c.from_residual-in_err-other.result c.from_residual-in_err-other.ensures.1 in
    let e = c.in_err-other.field-0.0 in
    rw (p.1, p.2)
    (subst (λ r. Stops r e) (c.loop-after.invariant read short gives)
    (stops_later (is_mark c.args.mark) read e c.loop-after.parts c.loop-after.rest.now c.in-Some.after.now c.in-Some.field-0-0.now c.in-Some.ensures.0 c.in-Some.ensures.1
    (gives c.in-Some.after (Err e) c.in_err-other.ensures)))

pub returns : goal.returns
returns g c = λ read short gives.
    sym (c.loop-after.invariant read short gives) ∙ gathered_end (is_mark c.args.mark) read c.loop-after.parts c.loop-after.rest.now c.in_default.ensures

use Rattle.std.proofs.Common.{◌≡◌, ◌∙◌, ap, ap₂, subst, ℕ, List, map}
use Rattle.std.specs.Prelude.{Option, IfOk}
use Rattle.lint_core.specs.declared.run.CheckRun.{CheckRun}
use Rattle.cert_checks.specs.Checks.{checks_of}
use Rattle.cert_checks.specs.inner.Alone.{alone_line, lacking_of, line_by}
use Rattle.cert_checks.proofs.Lines.{lines_are}
use Rattle.cert_checks.proofs.checks.check_all.Goals as goal

pub returns : goal.returns
returns c =
    let schema = c.args.schema.now in
    let queries = c.args.queries.now in
    let certs = c.args.certs.now in
    let all : List CheckRun = map (alone_line schema queries) certs in
    let lacking : List (Option ℕ) = lacking_of all 1 queries in
    let found_is : c.deref-3.result.now ≡ all = c.deref-3.ensures.value ∙ c.in_ok-found.ensures in
    let read_is : c.deref-2.result.now ≡ all = c.deref-2.ensures.value ∙ c.in_ok-found.ensures in
    let lacking_is : c.deref-4.result.now ≡ lacking =
    c.deref-4.ensures.value ∙ (c.in_ok-lacking.ensures ∙ ap (λ (found : List CheckRun). lacking_of found 1 queries) read_is) in
    let so : map (line_by c.deref-4.result.now) c.deref-3.result.now ≡ checks_of schema queries certs =
    ap₂ (λ (those : List (Option ℕ)) (found : List CheckRun). map (line_by those) found) lacking_is found_is
    ∙ lines_are c.wrong_steps_are_numbered.ensures.accepted schema queries certs in
    subst (λ (want : List CheckRun). IfOk c.lines.result (λ lines. lines ≡ want)) so c.lines.ensures

use Rattle.std.proofs.Common.{◌∙◌, sym, ap, ℕ, List, ◌++◌, codes, string_bytes}
use Rattle.std.proofs.lemmas.Result.{on_ok_weaker}
use Rattle.std.specs.Fmt.{decimal}
use Rattle.lint_report.specs.Text.{checked_text}
use Rattle.lint_report.proofs.checks.push_checked.Goals as goal

pub returns-in-Needs : goal.returns-in-Needs
unfolding checked_text
returns-in-Needs c =
    let text = ap (λ (n : ℕ). codes "needs question " ++ decimal n) c.from.ensures in
    let whole = text ∙ sym (ap checked_text c.in-Needs.is) in
    on_ok_weaker c.push_numbered-in-Needs.result (λ e. e ∙ ap (λ (t : List ℕ). string_bytes c.args.out.now ++ t) whole) c.push_numbered-in-Needs.ensures

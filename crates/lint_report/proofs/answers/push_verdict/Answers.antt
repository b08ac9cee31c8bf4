use Rattle.std.proofs.Common.{◌∙◌, sym, ap, ℕ, List, ◌++◌, codes, string_bytes, append_assoc}
use Rattle.std.proofs.lemmas.Result.{on_ok_weaker}
use Rattle.insert_lines.proofs.Appends.{then_two}
use Rattle.lint_core.specs.declared.run.Answer.{Answer}
use Rattle.lint_report.specs.Text.{tables_text, key_text, verdict_text}
use Rattle.lint_report.proofs.answers.push_verdict.Goals as goal

pub returns-in-CyclicNesting : goal.returns-in-CyclicNesting
unfolding verdict_text
returns-in-CyclicNesting c =
    let schema = c.args.schema.now in
    let text = ap (λ (tables : List ℕ). codes "cyclic nesting " ++ tables_text schema tables) c.as_slice-in-CyclicNesting.ensures in
    let whole = text ∙ sym (ap (λ (answer : Answer). verdict_text schema c.args.question answer) c.in-CyclicNesting.is) in
    on_ok_weaker c.push_cycle-in-CyclicNesting.result (λ e. e ∙ ap (λ (t : List ℕ). string_bytes c.args.out.now ++ t) whole) c.push_cycle-in-CyclicNesting.ensures

pub returns-in_ok-push_cycle-in-CyclicKeys : goal.returns-in_ok-push_cycle-in-CyclicKeys
unfolding verdict_text
returns-in_ok-push_cycle-in-CyclicKeys c =
    let schema = c.args.schema.now in
    let key = key_text schema c.in-CyclicKeys.key in
    let text = ap (λ (tables : List ℕ). codes "cyclic keys " ++ tables_text schema tables ++ key) c.as_slice.ensures in
    let whole = append_assoc (codes "cyclic keys ") (tables_text schema c.as_slice.result.now) key ∙ (text ∙ sym (ap (λ (answer : Answer). verdict_text schema c.args.question answer) c.in-CyclicKeys.is)) in
    on_ok_weaker c.push_key.result (λ e.
    then_two (string_bytes c.args.out.now) (string_bytes c.push_cycle.new.out) (string_bytes c.push_key.new.out) (codes "cyclic keys " ++ tables_text schema c.as_slice.result.now) key
    c.in_ok-push_cycle-in-CyclicKeys.ensures e
    ∙ ap (λ (t : List ℕ). string_bytes c.args.out.now ++ t) whole) c.push_key.ensures

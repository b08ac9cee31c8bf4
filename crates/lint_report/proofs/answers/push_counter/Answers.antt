use Rattle.std.proofs.Common.{codes, string_bytes}
use Rattle.insert_lines.specs.InsertText.{insert_lines}
use Rattle.insert_lines.proofs.Appends.{then_three}
use Rattle.lint_report.specs.Text.{at_line, counter_text}
use Rattle.lint_report.proofs.answers.push_counter.Goals as goal

pub returns : goal.returns
unfolding counter_text
returns c =
    then_three (string_bytes c.args.out.now) (string_bytes c.push_text.new.out) (string_bytes c.push_inserts.new.out) (string_bytes c.push_at.new.out)
    (codes "    database\n") (insert_lines (codes "    ") c.args.schema.now c.args.counter.now.database) (at_line c.args.counter.now.points)
    c.in_ok-push_text.ensures c.in_ok-push_inserts.ensures c.in_ok-push_at.ensures

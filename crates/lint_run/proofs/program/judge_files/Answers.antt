use Rattle.std.proofs.Common.{sym, subst}
use Rattle.cert_checks.specs.Named.{AreRead}
use Rattle.command_words.specs.Said.{asked_by}
use Rattle.lint_run.proofs.Entries.{are_read}
use Rattle.lint_run.proofs.program.judge_files.Goals as goal

pub checks_for-requires : goal.checks_for-requires
checks_for-requires g c =
    let queries = c.in-Ok-queries_at.queries in
    let were = c.in-Ok-queries_at.ensures.read in
    record { read = subst (AreRead c.in-Ok.schema) (sym c.as_slice.ensures) (are_read (asked_by c.args.command.task) c.in-Ok.schema 1 were.text queries were.right.right) }

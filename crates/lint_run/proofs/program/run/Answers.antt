use Rattle.std.proofs.Common.{subst}
use Rattle.std.specs.Prelude.{option_map}
use Rattle.command_words.specs.Said.{said}
use Rattle.lint_run.specs.KeepsItsWord.{KeepsItsWord}
use Rattle.lint_run.specs.Stops.{told}
use Rattle.lint_run.specs.Written.{sunk, EndsRight}
use Rattle.lint_run.proofs.program.run.Goals as goal

pub returns-clause-ends : goal.returns-clause-ends
returns-clause-ends g c =
    let files = g.H.Shelf.files c.args.shelf.now in
    let before = told g.H.Shelf.open_faults g.H.Shelf.read_faults g.H.Shelf.failed_path g.H.Shelf.opened_path g.H.Shelf.given c.args.shelf.now in
    let now = told g.H.Shelf.open_faults g.H.Shelf.read_faults g.H.Shelf.failed_path g.H.Shelf.opened_path g.H.Shelf.given c.judge_words-judged.new.shelf in
    let old = sunk g.K.Sink.faults g.K.Sink.contents c.args.out.now in
    let new = sunk g.K.Sink.faults g.K.Sink.contents c.written-outcome.new.out in
    subst (λ wanted. EndsRight files wanted before now old new c.written-outcome.result.run c.written-outcome.result.stop) c.command_of-command.ensures.says
    (c.written-outcome.ensures.ends files before now c.judge_words-judged.ensures.cause)

pub returns-clause-word : goal.returns-clause-word
returns-clause-word g c =
    let files = g.H.Shelf.files c.args.shelf.now in
    let before = told g.H.Shelf.open_faults g.H.Shelf.read_faults g.H.Shelf.failed_path g.H.Shelf.opened_path g.H.Shelf.given c.args.shelf.now in
    let now = told g.H.Shelf.open_faults g.H.Shelf.read_faults g.H.Shelf.failed_path g.H.Shelf.opened_path g.H.Shelf.given c.judge_words-judged.new.shelf in
    let old = sunk g.K.Sink.faults g.K.Sink.contents c.args.out.now in
    let new = sunk g.K.Sink.faults g.K.Sink.contents c.written-outcome.new.out in
    subst (λ wanted. KeepsItsWord wanted c.written-outcome.result.run) c.command_of-command.ensures.says
    (c.runs_keep_their_word.ensures files (option_map said c.command_of-command.result) before now old new c.written-outcome.result.run c.written-outcome.result.stop
    c.tables-tables.ensures.schema (c.written-outcome.ensures.ends files before now c.judge_words-judged.ensures.cause))

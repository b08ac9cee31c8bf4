use Rattle.std.proofs.Common.{◌≡◌, ◌+◌, None, length, slice_range, sym, subst, ◌∙◌, rules}
use Rattle.std.proofs.lemmas.List.{take_rest}
use Rattle.sql_lex.specs.declared.classes.Class.{Class as CodeClass}
use Rattle.sql_lex.specs.Classes.{Nothing, classes}
use Rattle.sql_lex.specs.Rest.{rest}
use Rattle.sql_lex.specs.inner.Runs.{to_come, after_run}
use Rattle.sql_lex.specs.inner.Seen.{class_seen}
use Rattle.sql_lex.proofs.PartLemmas.{last_piece, separated_piece, first_progress}
use Rattle.sql_lex.proofs.RunLemmas.{run_left}
use Rattle.sql_lex.proofs.pieces.PiecesIterator.next.Goals as goal

pub returns-then-is_some-clause-steps : goal.returns-then-is_some-clause-steps
returns-then-is_some-clause-steps c =
    let begun = c.loop-class in
    let given = c.args.self.now in
    let run = c.first_run-class.result in
    let text = begun.self.text.now in
    let behind = slice_range text run.len (length text) in
    let left = to_come None given.at (classes Nothing given.text.now) in
    let separates : after_run (class_seen run.class) run.len begun.solid begun.self.at behind ≡ left =
    run_left (class_seen run.class) run.len begun.solid begun.self.at text behind left (take_rest text run.len) (c.first_run-class.ensures.to_come begun.solid begun.self.at) begun.invariant in
    separated_piece begun.solid (begun.self.at + run.len) behind given.at given.text.now (sym c.is_some.ensures ∙ c.if-is_some.true)
    (subst (λ (class : CodeClass). after_run (class_seen class) run.len begun.solid begun.self.at behind ≡ left) c.in-Separator.is separates)

pub returns-then-is_some-clause-goes : goal.returns-then-is_some-clause-goes
returns-then-is_some-clause-goes c = first_progress _ rest c.args.self.now c.loop-class.solid _ (search rules) (returns-then-is_some-clause-steps c)

pub returns-clause-steps : goal.returns-clause-steps
returns-clause-steps c =
    let begun = c.loop-class in
    let given = c.args.self.now in
    last_piece begun.solid begun.self.at begun.self.text.now given.at given.text.now (search rules) begun.invariant

pub returns-clause-goes : goal.returns-clause-goes
returns-clause-goes c = first_progress _ rest c.args.self.now c.loop-class.solid c.loop-class.self (search rules) (returns-clause-steps c)

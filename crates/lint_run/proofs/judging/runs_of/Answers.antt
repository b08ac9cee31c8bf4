use Rattle.std.proofs.Common.{◌≡◌, ◌++◌, [], ◌∷◌, length, map, ap, sym, subst, length-append, arith}
use Rattle.std.proofs.lemmas.List.Elements.{All-rest}
use Rattle.command_words.specs.Said.{asked_by}
use Rattle.sql_lex.specs.Pieces.{pieces}
use Rattle.sql_lex.specs.Rest.{rest}
use Rattle.sql_lex.specs.Within.{IsWithin}
use Rattle.lint_run.specs.RightRun.{IsRightResult, AreRightFrom}
use Rattle.lint_run.proofs.Entries.{span_of, right_more, spans_more, few_runs}
use Rattle.lint_run.proofs.judging.runs_of.Goals as goal

pub overflow_add-number : goal.overflow_add-number
overflow_add-number c =
    let few = few_runs c.args.text.now c.loop-piece.runs (rest c.loop-piece.piece-iterator) c.loop-piece.invariant.spans in
    omega (arith, few, c.loop-piece.invariant.count, c.requires)

pub loop-piece-preserved : goal.loop-piece-preserved
loop-piece-preserved c =
    let before = c.loop-piece.invariant in
    let step = c.in-Some.ensures.steps in
    let own = c.in_ok-run.run' in
    let pushed = c.in_ok-push.ensures.ok in
    let asked = asked_by c.args.task in
    let right = subst (λ n. IsRightResult asked c.args.schema.now n c.args.text.now own own.result) before.count c.in_ok-run.ensures.right in
    record {
      spans = subst (λ runs. map span_of runs ++ rest c.next.new.self ≡ pieces c.args.text.now) (sym pushed)
          (spans_more c.loop-piece.runs own c.in-Some.piece (rest c.loop-piece.piece-iterator) (rest c.next.new.self) (pieces c.args.text.now) before.spans step c.in_ok-run.ensures.span);
      within = All-rest (IsWithin (length c.args.text.now)) c.in-Some.piece (rest c.next.new.self) (rest c.loop-piece.piece-iterator) step before.within;
      right = subst (λ runs. AreRightFrom asked c.args.schema.now 1 c.args.text.now runs) (sym pushed) (right_more asked c.args.schema.now 1 c.args.text.now c.loop-piece.runs own before.right right);
      count = omega (arith, before.count, ap length pushed, length-append c.loop-piece.runs (own ∷ []));
    }

use Rattle.std.proofs.Common.{◌∙◌, ap, [], ◌∷◌, ◌++◌}
use Rattle.cert_checker.proofs.Fronts.{next_is_run, next_branches}
use Rattle.cert_checker.proofs.run.Run.take_next.Goals as goal

pub returns-in_ok-push-in-Some-clause-run : goal.returns-in_ok-push-in-Some-clause-run
returns-in_ok-push-in-Some-clause-run c =
    next_is_run c.args.self.now.branch.facts.items c.args.self.now.branch.tables.items c.args.self.now.waiting.items c.pop.new.self.items c.in-Some.next
    c.in-Some.ensures.items c.requires.run c.push.new.self.items c.truncate-in-Some.new.self.items
    (c.in_ok-push-in-Some.ensures.items ∙ ap (λ xs. xs ++ c.in-Some.next.own ∷ []) c.truncate.ensures.items) c.truncate-in-Some.ensures.items

pub returns-in_ok-push-in-Some-clause-rest : goal.returns-in_ok-push-in-Some-clause-rest
returns-in_ok-push-in-Some-clause-rest c =
    rw c.requires.going
    (next_branches c.args.self.now.branch.facts.items c.args.self.now.branch.tables.items c.args.self.now.waiting.items c.pop.new.self.items c.in-Some.next
    c.in-Some.ensures.items c.requires.run c.push.new.self.items c.truncate-in-Some.new.self.items
    (c.in_ok-push-in-Some.ensures.items ∙ ap (λ xs. xs ++ c.in-Some.next.own ∷ []) c.truncate.ensures.items) c.truncate-in-Some.ensures.items)

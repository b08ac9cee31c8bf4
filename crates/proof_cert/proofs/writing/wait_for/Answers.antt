use Rattle.std.proofs.Common.{◌≡◌, ◌∙◌, sym, ap, ◌++◌, ◌∷◌, [], ◌+◌, ◌-◌, List, length, reverse, append-nil, arith}
use Rattle.std.proofs.lemmas.List.{map-append, length_push, nil_from_length}
use Rattle.case_split.specs.declared.tree.CaseTree.{CaseTree}
use Rattle.proof_cert.specs.declared.writing.Waiting.{Waiting}
use Rattle.proof_cert.specs.inner.Writing.{Wait, wait_of, waits, waits_of}
use Rattle.proof_cert.proofs.Worklist.{wait_step}
use Rattle.proof_cert.proofs.writing.wait_for.Goals as goal

pub loop-case-preserved : goal.loop-case-preserved
loop-case-preserved c =
    let inv = c.loop-case.invariant in
    let rest : List CaseTree = c.next.new.self.iter.rest.now in
    let t : CaseTree = c.in-Some.case.now in
    let o = c.args.opened in
    let all : c.loop-case.case-iterator.iter.rest.now ≡ rest ++ t ∷ [] = c.in-Some.ensures.steps in
    let count : length c.loop-case.case-iterator.iter.rest.now ≡ length rest + 1 = ap (λ (ts : List CaseTree). length ts) all ∙ length_push rest t in
    let before = inv.way in
    let way : c.loop-case.way - 1 ≡ length rest = omega arith in
    record {
      way = way;
      waiting =
          ap (λ (ws : List Waiting). waits_of ws ++ reverse (waits c.args.above o c.args.facts c.args.rows 0 rest)) c.in_ok-push.ensures.items
          ∙ (ap (λ (ws : List Wait). ws ++ reverse (waits c.args.above o c.args.facts c.args.rows 0 rest))
          (map-append wait_of c.loop-case.waiting.items _ ∙ ap (λ n. waits_of c.loop-case.waiting.items ++ waits c.args.above o c.args.facts c.args.rows n (t ∷ [])) way)
          ∙ (wait_step (waits_of c.loop-case.waiting.items) c.args.above o c.args.facts c.args.rows rest t
          ∙ (ap (λ (ts : List CaseTree). waits_of c.loop-case.waiting.items ++ reverse (waits c.args.above o c.args.facts c.args.rows 0 ts)) (sym all) ∙ inv.waiting)));
    }

pub returns : goal.returns
returns c =
    let inv = c.loop-case.invariant in
    let none : c.loop-case.case-iterator.iter.rest.now ≡ [] = nil_from_length c.loop-case.case-iterator.iter.rest.now c.in-None.ensures.steps.0 in
    sym (append-nil (waits_of c.loop-case.waiting.items))
    ∙ (ap (λ (ts : List CaseTree). waits_of c.loop-case.waiting.items ++ reverse (waits c.args.above c.args.opened c.args.facts c.args.rows 0 ts)) (sym none) ∙ inv.waiting)

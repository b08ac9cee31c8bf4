use Rattle.std.proofs.Common.{◌≡◌, ◌∙◌, sym, ap, subst, ◌++◌, ◌∷◌, List, [], map, append-nil, length}
use Rattle.std.specs.Prelude.{None}
use Rattle.case_split.specs.declared.tree.CaseTree.{CaseTree}
use Rattle.case_split.specs.declared.tree.CaseTree.TheVariants as variant
use Rattle.ground_theory.specs.declared.literal.Guard.{Guard}
use Rattle.ground_theory.specs.Moving.{moved}
use Rattle.proof_cert.specs.declared.path.Opened.{Opened}
use Rattle.proof_cert.specs.inner.Leaves.{at_number}
use Rattle.proof_cert.specs.inner.Paths.{fact_at, row_at}
use Rattle.proof_cert.specs.inner.Writing.{IsClosedOn, IsPassed, IsWritten, waits_of}
use Rattle.proof_cert.proofs.Paths.{long}
use Rattle.proof_cert.proofs.Written.{leaf_written, again_written}
use Rattle.proof_cert.proofs.Worklist.{on_ok}
use Rattle.proof_cert.proofs.writing.write_tree.Goals as goal

pub returns-in-Leaf : goal.returns-in-Leaf
returns-in-Leaf c =
    let source = c.args.source.now in
    let problem = source.problem.now in
    let way = c.args.path.now.splits.items in
    let conflict = c.in-Leaf.conflict in
    let chosen : List Guard = c.as_slice.result.now in
    let facts = c.args.at.now.facts in
    let rows = c.args.at.now.rows in
    let step = moved (at_number (map (λ (g : Guard). fact_at way g.clause) chosen)) (at_number (map (row_at way) source.makers)) conflict.leaf in
    let tree : c.args.at.now.tree.now ≡ variant.Leaf conflict chosen = c.in-Leaf.is ∙ ap (variant.Leaf conflict) (sym c.as_slice.ensures) in
    let closed : IsClosedOn problem way (variant.Leaf conflict chosen) = subst (IsClosedOn problem way) tree c.requires.closed in
    on_ok c.write_leaf.result (c.write_leaf.new.steps ≡ c.args.steps.now ++ step ∷ [])
    (λ written. record {
      steps = step ∷ [];
      next = [];
      new_is = written;
      after_is = sym (append-nil (waits_of c.args.waiting.now.items));
      is_written = subst (λ (t : CaseTree). IsWritten problem source.makers way facts rows t (step ∷ []) []) (sym tree)
          (leaf_written problem source.makers c.requires.source.hanging way c.requires.standing c.requires.source.makers conflict chosen closed facts rows);
    })
    c.write_leaf.ensures

pub returns-in-Some : goal.returns-in-Some
returns-in-Some c =
    let source = c.args.source.now in
    let problem = source.problem.now in
    let way = c.args.path.now.splits.items in
    let clause = c.in-Split.clause in
    let cases : List CaseTree = c.as_slice-in-Some.result.now in
    let facts = c.args.at.now.facts in
    let rows = c.args.at.now.rows in
    let made : Opened = c.in-Some.made in
    let tree : c.args.at.now.tree.now ≡ variant.Split clause cases = c.in-Split.is ∙ ap (variant.Split clause) (sym c.as_slice-in-Some.ensures) in
    let closed : IsClosedOn problem way (variant.Split clause cases) = subst (IsClosedOn problem way) tree c.requires.closed in
    let found = sym c.in-Some.ensures in
    let above : c.len.result ≡ length way = c.len.ensures ∙ long c.args.path.now.splits in
    on_ok c.go_on.result (IsPassed c.args.at.now c.len.result made.way cases c.args.waiting.now.items c.go_on.new.waiting.items)
    (λ (passed : IsPassed c.args.at.now c.len.result made.way cases c.args.waiting.now.items c.go_on.new.waiting.items). record {
      steps = [];
      next = record { tree = passed.tree; above = length way; opened = None; facts = facts; rows = rows } ∷ [];
      new_is = sym (append-nil c.args.steps.now);
      after_is = passed.next
          ∙ ap (λ n. waits_of c.args.waiting.now.items ++ record { tree = passed.tree; above = n; opened = None; facts = facts; rows = rows } ∷ []) above;
      is_written = subst
          (λ (t : CaseTree). IsWritten problem source.makers way facts rows t [] (record { tree = passed.tree; above = length way; opened = None; facts = facts; rows = rows } ∷ [])) (sym tree)
          (again_written problem source.makers c.requires.source.hanging way c.requires.standing clause cases closed made found facts rows passed.tree passed.is_tree);
    })
    c.go_on.ensures

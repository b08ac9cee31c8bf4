use Rattle.std.proofs.Common.{ℕ, List, length, sym, subst}
use Rattle.std.proofs.lemmas.Option.{MatchOption-at_some}
use Rattle.ground_theory.specs.declared.joining.Join.{Join}
use Rattle.ground_theory.specs.declared.sifting.Sifted.{Sifted}
use Rattle.ground_theory.specs.inner.Deciding.{AreClear, IsRowLeaf}
use Rattle.ground_theory.specs.inner.Joining.{AreJoined, AreSames}
use Rattle.ground_theory.specs.inner.Known.{AreJudged, AreSifted}
use Rattle.ground_theory.specs.inner.Numbering.{AreWithin}
use Rattle.ground_theory.proofs.Clashing.{row_leaf_right}
use Rattle.ground_theory.proofs.Entering.{sames_within, others_within}
use Rattle.ground_theory.proofs.Named.{firms_within, nulls_within}
use Rattle.ground_theory.proofs.judging.judge.Goals as goal

pub classes-requires : goal.classes-requires
classes-requires c =
    let sames = c.in_ok-sifted.sifted.sames.items in
    subst (AreSames (length c.as_slice.result.now)) (sym c.deref.ensures.value)
    (subst (λ (ts : List ℕ). AreSames (length ts) sames) (sym c.as_slice.ensures)
    (sames_within c.args.frame.now c.args.literals.now c.requires.fitting sames c.in_ok-sifted.ensures.sames))

pub row_clash-requires-clause-sames : goal.row_clash-requires-clause-sames
row_clash-requires-clause-sames c =
    let sames = c.in_ok-sifted.sifted.sames.items in
    subst (λ (ts : List ℕ). AreSames (length ts) sames) (sym c.as_slice.ensures)
    (sames_within c.args.frame.now c.args.literals.now c.requires.fitting sames c.in_ok-sifted.ensures.sames)

pub row_clash-requires-clause-others : goal.row_clash-requires-clause-others
row_clash-requires-clause-others c =
    let others = c.in_ok-sifted.sifted.others.items in
    subst (λ (ts : List ℕ). AreSames (length ts) others) (sym c.as_slice.ensures)
    (others_within c.args.frame.now c.args.literals.now c.requires.fitting others c.in_ok-sifted.ensures.others)

pub row_clash-requires-clause-nulls : goal.row_clash-requires-clause-nulls
row_clash-requires-clause-nulls c =
    let nulls = c.in_ok-sifted.sifted.nulls.items in
    subst (λ (ts : List ℕ). AreWithin (length ts) nulls) (sym c.as_slice.ensures)
    (nulls_within c.args.frame.now c.requires.frame c.args.literals.now c.requires.fitting nulls c.in_ok-sifted.ensures.nulls)

pub row_clash-requires-clause-firms : goal.row_clash-requires-clause-firms
row_clash-requires-clause-firms c =
    let firms = c.in_ok-sifted.sifted.firms.items in
    subst (λ (ts : List ℕ). AreWithin (length ts) firms) (sym c.as_slice.ensures)
    (firms_within c.args.frame.now c.requires.frame c.args.literals.now c.requires.fitting firms c.in_ok-sifted.ensures.firms)

pub returns-in-Some-clause-clash : goal.returns-in-Some-clause-clash
returns-in-Some-clause-clash c =
    let s : Sifted = c.in_ok-sifted.sifted in
    let labels = c.in_ok-joined.joined.labels.items in
    let joins = c.in_ok-joined.joined.joins.items in
    let said = c.in_ok-sifted.ensures in
    let judged : AreJudged c.args.frame.now c.args.literals.now = record { frame_is = c.requires.frame; fitting = c.requires.fitting; few = c.requires.count } in
    let sifted : AreSifted c.args.literals.now s = record { sames = said.sames; others = said.others; nulls = said.nulls; firms = said.firms; bounds = said.bounds } in
    let first = subst (λ (ts : List ℕ). AreJoined (length ts) c.deref.result.now labels joins) c.as_slice.ensures c.in_ok-joined.ensures in
    let joined = subst (λ (js : List Join). AreJoined (length c.args.frame.now.tables) js labels joins) c.deref.ensures.value first in
    row_leaf_right c.args.frame.now c.args.literals.now judged labels joins s sifted joined c.in-Some.leaf
    (MatchOption-at_some (AreClear labels s) (IsRowLeaf labels joins s) c.in-Some.leaf c.in-Some.is c.in_ok-leaf.ensures)

use Rattle.std.proofs.Common.{ℕ, List, length, subst, sym}
use Rattle.std.proofs.lemmas.Option.{MatchOption-at_some}
use Rattle.ground_theory.specs.declared.clashes.NullClash.{NullClash}
use Rattle.ground_theory.specs.declared.joining.Join.{Join}
use Rattle.ground_theory.specs.declared.numbering.Named.{Named}
use Rattle.ground_theory.specs.inner.Clashes.{AreFirm, IsNullClash, IsParted}
use Rattle.ground_theory.specs.inner.Joining.{AreSames}
use Rattle.ground_theory.specs.inner.Paths.{AreTied}
use Rattle.ground_theory.proofs.Tying.{joins_within, parted_tied, clash_tied}
use Rattle.ground_theory.proofs.judging.row_clash.Goals as goal

pub same_leaf-requires-clause-within : goal.same_leaf-requires-clause-within
same_leaf-requires-clause-within c =
    let joined = c.args.joined.now in
    subst (AreSames c.args.rows) (sym c.deref-in-Some.ensures.value)
    (joins_within c.args.rows c.args.sifted.now.sames.items joined.labels.items joined.joins.items c.requires.joined c.requires.sames)

pub same_leaf-requires-clause-tied : goal.same_leaf-requires-clause-tied
same_leaf-requires-clause-tied c =
    let joined = c.args.joined.now in
    let others = c.args.sifted.now.others.items in
    let other : Join = c.in-Some.other in
    let first = subst (λ (l : List ℕ). IsParted l c.deref-2.result.now other) c.deref.ensures.value c.in-Some.ensures in
    let parted = subst (λ (os : List Join). IsParted joined.labels.items os other) c.deref-2.ensures.value first in
    subst (λ (js : List Join). AreTied js other.row other.other) (sym c.deref-in-Some.ensures.value)
    (parted_tied c.args.rows c.args.sifted.now.sames.items joined.labels.items joined.joins.items c.requires.joined others other c.requires.others parted)

pub null_leaf-requires-clause-within : goal.null_leaf-requires-clause-within
null_leaf-requires-clause-within c =
    let joined = c.args.joined.now in
    subst (AreSames c.args.rows) (sym c.deref-in-Some-2.ensures.value)
    (joins_within c.args.rows c.args.sifted.now.sames.items joined.labels.items joined.joins.items c.requires.joined c.requires.sames)

pub null_leaf-requires-clause-tied : goal.null_leaf-requires-clause-tied
null_leaf-requires-clause-tied c =
    let joined = c.args.joined.now in
    let nulls = c.args.sifted.now.nulls.items in
    let firms = c.args.sifted.now.firms.items in
    let clash : NullClash = c.in-Some-2.clash in
    let is = MatchOption-at_some (AreFirm c.deref-3.result.now c.deref-4.result.now c.deref-5.result.now (length c.deref-5.result.now)) (IsNullClash c.deref-3.result.now c.deref-4.result.now c.deref-5.result.now) clash c.in-Some-2.is c.in_ok-clash.ensures in
    let first = subst (λ (l : List ℕ). IsNullClash l c.deref-4.result.now c.deref-5.result.now clash) c.deref-3.ensures.value is in
    let second = subst (λ (ns : List Named). IsNullClash joined.labels.items ns c.deref-5.result.now clash) c.deref-4.ensures.value first in
    let third = subst (λ (fs : List Named). IsNullClash joined.labels.items nulls fs clash) c.deref-5.ensures.value second in
    subst (λ (js : List Join). AreTied js clash.null.row clash.firm.row) (sym c.deref-in-Some-2.ensures.value)
    (clash_tied c.args.rows c.args.sifted.now.sames.items joined.labels.items joined.joins.items c.requires.joined nulls firms clash c.requires.nulls c.requires.firms third)

-- Rows of one label are tied by the joins.
use Rattle.std.proofs.Common.{subst, ℕ, ◌<◌, List, arith}
use Rattle.ground_theory.specs.declared.clashes.NullClash.{NullClash}
use Rattle.ground_theory.specs.declared.joining.Join.{Join}
use Rattle.ground_theory.specs.declared.numbering.Named.{Named}
use Rattle.ground_theory.specs.inner.Clashes.{IsNamedIn, IsNullClash, IsParted, LabelsWithin}
use Rattle.ground_theory.specs.inner.Joining.{AreJoined, AreSames, IsListed, join_at, label_at}
use Rattle.ground_theory.specs.inner.Numbering.{AreWithin}
use Rattle.ground_theory.specs.inner.Paths.{AreTied}
use Rattle.ground_theory.proofs.Placing.{one_place}

listed_within : (rows : ℕ) (sames : List Join) (j : Join) → AreSames rows sames → IsListed sames j → (j.row < rows) × (j.other < rows)
listed_within rows sames j within listed =
    let both = within listed.0 listed.1 in
    (subst (λ (j : Join). j.row < rows) listed.2 both.0, subst (λ (j : Join). j.other < rows) listed.2 both.1)

named_within : (rows : ℕ) (named : List Named) (x : Named) → AreWithin rows named → IsNamedIn named x → (x.row < rows) × (x.column < 64)
named_within rows named x within listed =
    let both = within listed.0 listed.1 in
    (subst (λ (x : Named). x.row < rows) listed.2 both.0, subst (λ (x : Named). x.column < 64) listed.2 both.1)

module _ (rows : ℕ) (sames : List Join) (labels : List ℕ) (joins : List Join) (joined : AreJoined rows sames labels joins) where
  pub joins_within : AreSames rows sames → AreSames rows joins
  joins_within within k h = listed_within rows sames (join_at joins k) within (joined.from k h)

  pub labels_within : LabelsWithin labels
  labels_within row h = (let count = joined.count in let low : row < rows = omega arith in let within = joined.within row low in omega arith)

  pub parted_rows : (others : List Join) (j : Join) → AreSames rows others → IsParted labels others j → (j.row < rows) × (j.other < rows)
  parted_rows others j within parted = listed_within rows others j within parted.0

  pub parted_tied : (others : List Join) (j : Join) → AreSames rows others → IsParted labels others j → AreTied joins j.row j.other
  parted_tied others j within parted mark alike =
      let both = listed_within rows others j within parted.0 in
      joined.tied mark alike j.row j.other both.0 both.1 parted.1

  module _ (nulls firms : List Named) (clash : NullClash) (nulls_in : AreWithin rows nulls) (firms_in : AreWithin rows firms) (is : IsNullClash labels nulls firms clash) where
    pub clash_rows : (clash.null.row < rows) × (clash.firm.row < rows)
    clash_rows = ((named_within rows nulls clash.null nulls_in is.null).0, (named_within rows firms clash.firm firms_in is.firm).0)

    pub clash_tied : AreTied joins clash.null.row clash.firm.row
    clash_tied mark alike =
        let null = named_within rows nulls clash.null nulls_in is.null in
        let firm = named_within rows firms clash.firm firms_in is.firm in
        let one = one_place (label_at labels clash.null.row) clash.null.column (label_at labels clash.firm.row) clash.firm.column null.1 firm.1 is.place in
        joined.tied mark alike clash.null.row clash.firm.row null.0 firm.0 one.0

-- The numbers of literals whose rows contradict nothing: what is asked of them is there, a ring of their bounds makes a right
-- leaf, and with numbers they are counted.
use Rattle.std.proofs.Common.{◌≡◌, sym, subst, ℕ, ℤ, ◌≤◌, ◌+◌, true, List, length, arith}
use Rattle.std.specs.Prelude.{Option}
use Rattle.lint_core.specs.declared.certificate.Step.{Step}
use Rattle.ground_theory.specs.declared.joining.Join.{Join}
use Rattle.ground_theory.specs.declared.joining.Joined.{Joined}
use Rattle.ground_theory.specs.declared.literal.Frame.{Frame}
use Rattle.ground_theory.specs.declared.literal.Literal.{Literal}
use Rattle.ground_theory.specs.declared.numbering.Cell.{Cell}
use Rattle.ground_theory.specs.declared.numbering.Named.{Named}
use Rattle.ground_theory.specs.declared.numbering.Numbering.{Numbering}
use Rattle.ground_theory.specs.declared.sifting.Bound.{Bound}
use Rattle.ground_theory.specs.declared.sifting.Sifted.{Sifted}
use Rattle.ground_theory.specs.Leaves.{is_right_leaf}
use Rattle.ground_theory.specs.inner.Clashes.{AreApart, AreFirm}
use Rattle.ground_theory.specs.inner.Counted.{AreNumbers, IsRingLeaf}
use Rattle.ground_theory.specs.inner.Deciding.{AreClear, IsReady, all_stated}
use Rattle.ground_theory.specs.inner.Joining.{AreJoined}
use Rattle.ground_theory.specs.inner.Known.{AreJudged, AreSifted, IsCounted}
use Rattle.ground_theory.specs.inner.Numbering.{AreWithin, IsNumbered}
use Rattle.ground_theory.specs.inner.Paths.{AreRooted}
use Rattle.ground_theory.specs.inner.Sifting.{gathered, firm_of, bound_of}
use Rattle.ground_theory.specs.inner.Sums.{AreFew, AreInRoom, AreKnown, HaveColumns, HaveRoom}
use Rattle.ground_theory.proofs.Entering.{fit, domains_there, joins_rooted, sames_within}
use Rattle.ground_theory.proofs.Facts.{domains_are_ranges}
use Rattle.ground_theory.proofs.Named.{columns_few, firms_within}
use Rattle.ground_theory.proofs.Preparing as ready
use Rattle.ground_theory.proofs.RingRight.{ring_right}
use Rattle.ground_theory.proofs.Tying.{joins_within}

module _ (frame : Frame) (literals : List Literal) (judged : AreJudged frame literals) (s : Sifted) (sifted : AreSifted literals s)
    (joined : Joined) (are : AreJoined (length frame.tables) s.sames.items joined.labels.items joined.joins.items) where
  abbrev labels : List ℕ
  labels = joined.labels.items

  abbrev joins : List Join
  joins = joined.joins.items

  pub labels_few : length labels ≤ 512
  labels_few = (let few = ready.rows_few frame judged.frame_is in let count : length labels ≡ length frame.tables = are.count in omega arith)

  pub firms_in : AreWithin (length labels) s.firms.items
  firms_in = subst (λ (n : ℕ). AreWithin n s.firms.items) (sym are.count) (firms_within frame judged.frame_is literals judged.fitting s.firms.items sifted.firms)

  rooted : AreRooted literals joins
  rooted = joins_rooted frame literals judged.fitting (length frame.tables) s.sames.items sifted.sames labels joins are

  joins_few : length joins ≤ 512
  joins_few = (let few : length joins ≤ length frame.tables = are.few in let rows = ready.rows_few frame judged.frame_is in omega arith)

  module _ (numbering : Numbering) (numbered : IsNumbered labels s.firms.items (length s.firms.items) numbering.places.items numbering.cells.items) where
    abbrev places : List (Option ℕ)
    places = numbering.places.items

    abbrev cells : List Cell
    cells = numbering.cells.items

    pub known : AreKnown (length labels) cells
    known = ready.are_known frame literals judged labels are.count s.firms.items sifted.firms places cells numbered

    pub count : length cells ≤ 32768
    count = ready.cells_few frame literals judged labels are.count s.firms.items sifted.firms places cells numbered

    pub few : AreFew places
    few = ready.are_few frame literals judged labels are.count s.firms.items sifted.firms places cells numbered

    pub room : AreInRoom places s.bounds.items
    room = subst (AreInRoom places) (sym sifted.bounds) (ready.bounds_room frame literals judged labels are.count s.firms.items sifted.firms places cells numbered)

    pub rows_room : HaveRoom places joins
    rows_room =
        ready.joins_room frame literals judged labels are.count s.firms.items sifted.firms places cells numbered joins
        (joins_within (length frame.tables) s.sames.items labels joins are (sames_within frame literals judged.fitting s.sames.items sifted.sames))

    pub narrow : HaveColumns frame
    narrow = columns_few frame judged.frame_is

    pub is_ready : IsReady (length cells + 1) (all_stated frame joined numbering s.bounds.items)
    is_ready =
        subst (λ (bs : List Bound). IsReady (length cells + 1) (all_stated frame joined numbering bs)) (sym sifted.bounds)
        (ready.listed_ready frame literals judged labels are.count s.firms.items sifted.firms places cells numbered joins rooted joins_few)

    pub ring_leaf_right : (leaf : Step) → IsRingLeaf (length cells + 1) cells (all_stated frame joined numbering s.bounds.items) leaf → is_right_leaf frame literals leaf ≡ true
    ring_leaf_right leaf is =
        let here = subst (λ (bs : List Bound). IsRingLeaf (length cells + 1) cells (all_stated frame joined numbering bs) leaf) sifted.bounds is in
        ring_right frame literals cells (all_stated frame joined numbering (gathered bound_of 0 literals))
        (ready.listed_right frame literals judged labels are.count s.firms.items sifted.firms places cells numbered joins rooted)
        (length cells + 1) leaf (fit frame literals judged.fitting) (domains_are_ranges frame (domains_there frame judged.frame_is)) (let c = count in omega arith) here

    pub counted : AreClear labels s → (values : List ℤ) → AreNumbers (length cells + 1) (all_stated frame joined numbering s.bounds.items) values → IsCounted frame literals joined numbering values
    counted clear values numbers = record {
      joined_are = subst (λ (js : List Join). AreJoined (length frame.tables) js labels joins) sifted.sames are;
      apart = subst (λ (js : List Join). AreApart labels js (length js)) sifted.others clear.apart;
      firm = subst (λ (ns : List Named). AreFirm labels ns (gathered firm_of 0 literals) (length (gathered firm_of 0 literals))) sifted.nulls
          (subst (λ (fs : List Named). AreFirm labels s.nulls.items fs (length fs)) sifted.firms clear.firm);
      numbered = subst (λ (fs : List Named). IsNumbered labels fs (length fs) places cells) sifted.firms numbered;
      numbers = subst (λ (bs : List Bound). AreNumbers (length cells + 1) (all_stated frame joined numbering bs) values) sifted.bounds numbers;
    }

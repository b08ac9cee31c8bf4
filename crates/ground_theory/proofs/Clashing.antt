-- The leaves of rows that contradict each other are right.
use Rattle.std.proofs.Common.{◌≡◌, ◌∙◌, ap, refl, subst, ℕ, ◌<◌, true, ◌&&◌, List, length, inl, inr}
use Rattle.std.specs.Prelude.{Some, slice_get, option_and_then}
use Rattle.std.specs.List.{Contains}
use Rattle.std.proofs.lemmas.Bool.{and_parts}
use Rattle.std.proofs.lemmas.List.Elements.{Contains-get_or}
use Rattle.lint_base.proofs.Lists.{all_at, below_true}
use Rattle.lint_core.specs.declared.certificate.Step.{Step}
use Rattle.lint_core.proofs.Lists.{below_at}
use Rattle.sort_formula.specs.declared.formula.Atom.{Atom}
use Rattle.sort_formula.specs.declared.formula.Atom.TheVariants as atom
use Rattle.sort_formula.specs.Chains.{says_not_null}
use Rattle.sort_formula.specs.Facts.{atom_of, atom_at}
use Rattle.ground_theory.specs.declared.clashes.NullClash.{NullClash}
use Rattle.ground_theory.specs.declared.joining.Join.{Join}
use Rattle.ground_theory.specs.declared.literal.Frame.{Frame}
use Rattle.ground_theory.specs.declared.literal.Literal.{Literal}
use Rattle.ground_theory.specs.declared.numbering.Named.{Named}
use Rattle.ground_theory.specs.declared.sifting.Sifted.{Sifted}
use Rattle.ground_theory.specs.Assignments.{domains_at}
use Rattle.ground_theory.specs.Fitting.{fits, all_fit, are_of_one_table, is_moderate}
use Rattle.ground_theory.specs.Judgeable.{is_named_right, can_be_judged}
use Rattle.ground_theory.specs.Leaves.{literal_branch, is_right_leaf}
use Rattle.ground_theory.specs.inner.Clashes.{IsNamedIn, IsNullClash, IsNullLeaf, IsParted, IsSameLeaf}
use Rattle.ground_theory.specs.inner.Deciding.{IsRowLeaf}
use Rattle.ground_theory.specs.inner.Joining.{AreJoined, IsListed, label_at}
use Rattle.ground_theory.specs.inner.Known.{AreJudged, AreSifted}
use Rattle.ground_theory.specs.inner.Paths.{AreRooted}
use Rattle.ground_theory.proofs.Entering.{fit, joins_rooted, other_from, rows_there}
use Rattle.ground_theory.proofs.Facts.{atom_is, ids, le_there, eq_there, ne_there}
use Rattle.ground_theory.proofs.Named.{cell_there, firm_there, null_there}
use Rattle.ground_theory.proofs.Placing.{one_place}
use Rattle.ground_theory.proofs.RowLeaves.{right_null, right_same}

listed_in : (joins : List Join) (j : Join) → IsListed joins j → Contains joins j
listed_in joins j is = subst (Contains joins) is.2 (Contains-get_or joins is.0 (record { fact = 0; row = 0; other = 0 }) is.1)

named_in : (named : List Named) (x : Named) → IsNamedIn named x → Contains named x
named_in named x is = subst (Contains named) is.2 (Contains-get_or named is.0 (record { fact = 0; row = 0; column = 0 }) is.1)

module _ (frame : Frame) (literals : List Literal) (judged : AreJudged frame literals) where
  all : all_fit frame literals ≡ true
  all = fit frame literals judged.fitting

  -- the atom of a literal stands in the branch
  atom_there : (k : ℕ) (l : Literal) → slice_get literals k ≡ Some l → atom_of (literal_branch frame literals) k ≡ Some l.atom
  atom_there k l at = go l.atom refl first.0 second.0
    where
      can : can_be_judged frame l ≡ true
      can = all_at (can_be_judged frame) literals k l judged.fitting at

      first : (is_named_right frame l.atom ≡ true) × ((fits frame l.atom && is_moderate l.atom) ≡ true)
      first = and_parts (is_named_right frame l.atom) (fits frame l.atom && is_moderate l.atom) can

      second : (fits frame l.atom ≡ true) × (is_moderate l.atom ≡ true)
      second = and_parts (fits frame l.atom) (is_moderate l.atom) first.1

      cell_at : (make : ℕ → ℕ → Atom) (row column : ℕ) → column < length (domains_at frame row) → option_and_then (λ r. Some (make r column)) (slice_get (ids frame) row) ≡ Some (make row column)
      cell_at make row column h = ap (option_and_then (λ r. Some (make r column))) (below_at (length frame.tables) row (cell_there frame judged.frame_is row column h).0)

      rows_at : (make : ℕ → ℕ → Atom) (row other : ℕ) → are_of_one_table frame row other ≡ true →
          option_and_then (λ r. option_and_then (λ s. Some (make r s)) (slice_get (ids frame) other)) (slice_get (ids frame) row) ≡ Some (make row other)
      rows_at make row other one =
          let low = rows_there frame row other one in
          ap (option_and_then (λ r. option_and_then (λ s. Some (make r s)) (slice_get (ids frame) other))) (below_at (length frame.tables) row low.0)
          ∙ ap (option_and_then (λ s. Some (make row s))) (below_at (length frame.tables) other low.1)

      from : (a : Atom) → l.atom ≡ a → atom_at (ids frame) a ≡ Some a → atom_of (literal_branch frame literals) k ≡ Some a
      from a is made = atom_is frame literals k l at ∙ (ap (atom_at (ids frame)) is ∙ made)

      go : (a : Atom) → l.atom ≡ a → is_named_right frame a ≡ true → fits frame a ≡ true → atom_of (literal_branch frame literals) k ≡ Some a
      go (atom.Le left right most) is named fitting = le_there frame literals k l at left right most is second.0
      go (atom.TextEq left right) is named fitting = eq_there frame literals k l at left right is second.0
      go (atom.TextNe left right) is named fitting = ne_there frame literals k l at left right is second.0
      go (atom.IsNull row column) is named fitting = from (atom.IsNull row column) is (cell_at atom.IsNull row column (below_true column (length (domains_at frame row)) named))
      go (atom.NotNull row column) is named fitting = from (atom.NotNull row column) is (cell_at atom.NotNull row column (below_true column (length (domains_at frame row)) named))
      go (atom.Same row other) is named fitting = from (atom.Same row other) is (rows_at atom.Same row other fitting)
      go (atom.Other row other) is named fitting = from (atom.Other row other) is (rows_at atom.Other row other named)

  module _ (labels : List ℕ) (joins : List Join) (s : Sifted) (sifted : AreSifted literals s) (joined : AreJoined (length frame.tables) s.sames.items labels joins) where
    rooted : AreRooted literals joins
    rooted = joins_rooted frame literals judged.fitting (length frame.tables) s.sames.items sifted.sames labels joins joined

    same_right : (j : Join) (leaf : Step) → IsParted labels s.others.items j → IsSameLeaf joins j leaf → is_right_leaf frame literals leaf ≡ true
    same_right j leaf parted is =
        let from = other_from frame literals judged.fitting j (subst (λ (js : List Join). Contains js j) sifted.others (listed_in s.others.items j parted.0)) in
        ap (is_right_leaf frame literals) is.1
        ∙ right_same frame literals all joins rooted j.fact j.row j.other is.0 (atom_there j.fact from.0 from.1 ∙ ap (λ (a : Atom). Some a) from.2) is.2

    null_right : (clash : NullClash) (leaf : Step) → IsNullClash labels s.nulls.items s.firms.items clash → IsNullLeaf joins clash leaf → is_right_leaf frame literals leaf ≡ true
    null_right clash leaf clashing is =
        let null = clash.null in
        let firm = clash.firm in
        let n = null_there frame judged.frame_is literals judged.fitting null (subst (λ (xs : List Named). Contains xs null) sifted.nulls (named_in s.nulls.items null clashing.null)) in
        let f = firm_there frame judged.frame_is literals judged.fitting firm (subst (λ (xs : List Named). Contains xs firm) sifted.firms (named_in s.firms.items firm clashing.firm)) in
        let narrow : null.column < 64 = (cell_there frame judged.frame_is null.row null.column n.there).1 in
        let narrow_too : firm.column < 64 = (cell_there frame judged.frame_is firm.row firm.column f.there).1 in
        let one = one_place (label_at labels null.row) null.column (label_at labels firm.row) firm.column narrow narrow_too clashing.place in
        let says : says_not_null firm.row null.column f.literal.atom ≡ true = ap (λ (c : ℕ). says_not_null firm.row c f.literal.atom) one.1 ∙ f.says in
        ap (is_right_leaf frame literals) is.1
        ∙ right_null frame literals all joins rooted null.fact firm.fact null.row null.column firm.row f.literal.atom is.0
        (atom_there null.fact n.literal n.listed ∙ ap (λ (a : Atom). Some a) n.is) (atom_there firm.fact f.literal f.listed) says is.2

    pub row_leaf_right : (leaf : Step) → IsRowLeaf labels joins s leaf → is_right_leaf frame literals leaf ≡ true
    row_leaf_right leaf is = elim is [
      | inl same ↦ same_right same.0 leaf same.1 same.2
      | inr null ↦ null_right null.0 leaf null.1 null.2
    ]

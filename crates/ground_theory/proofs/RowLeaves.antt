-- Null and Same leaves along a path of Sames are right.
use Rattle.std.proofs.Common.{◌≡◌, ◌∙◌, sym, ap, refl, ℕ, Bool, true, false, List, [], ◌∷◌, inl, inr}
use Rattle.std.specs.Prelude.{Option, Some, None, option_and_then, nat_eq, if◌then◌else◌}
use Rattle.std.specs.Option.{option_map_or}
use Rattle.lint_core.specs.declared.certificate.SameEdge.{SameEdge}
use Rattle.lint_core.specs.declared.certificate.Step.TheVariants as step
use Rattle.sort_formula.specs.declared.formula.Atom.{Atom}
use Rattle.sort_formula.specs.declared.formula.Atom.TheVariants as atom
use Rattle.sort_formula.specs.Certificate.{are_closed, closed_if}
use Rattle.sort_formula.specs.Chains.{turned, path_end, leads_to, says_not_null, is_null_clash, null_clash, is_same_clash, same_clash}
use Rattle.sort_formula.specs.Facts.{Branch, atom_of, same_rows_of}
use Rattle.ground_theory.specs.declared.joining.Join.{Join}
use Rattle.ground_theory.specs.declared.literal.Frame.{Frame}
use Rattle.ground_theory.specs.declared.literal.Literal.{Literal}
use Rattle.ground_theory.specs.Fitting.{fits, all_fit}
use Rattle.ground_theory.specs.Leaves.{literal_branch, is_right_leaf}
use Rattle.ground_theory.specs.inner.Joining.{join_at}
use Rattle.ground_theory.specs.inner.Paths.{IsJoinEdge, LeadsBy, AreRooted}
use Rattle.lint_base.proofs.Lists.{all_at}
use Rattle.ground_theory.proofs.Facts.{same_there}
use Rattle.ground_theory.proofs.Moving.{equal_self}

abbrev two : ℕ → ℕ → ℕ × ℕ
two a b = (a, b)

closes : (b : Bool) → b ≡ true → option_map_or are_closed (closed_if b) false ≡ true
closes true is = refl
closes false is = cc is

module _ (frame : Frame) (literals : List Literal) (all : all_fit frame literals ≡ true) (joins : List Join) (rooted : AreRooted literals joins) where
  abbrev branch : Branch
  branch = literal_branch frame literals

  -- the rows of an edge
  pair : (e : SameEdge) (from next : ℕ) → IsJoinEdge joins e from next → option_and_then (λ rows. Some (turned e.back rows)) (same_rows_of branch e.fact) ≡ Some (two from next)
  pair e from next edge =
      let j : Join = join_at joins edge.place in
      let root = rooted edge.place edge.listed in
      let l : Literal = root.0 in
      let fit : fits frame l.atom ≡ true = all_at (λ (l : Literal). fits frame l.atom) literals j.fact l all root.1 in
      let rows : same_rows_of branch e.fact ≡ Some (two j.row j.other) = ap (same_rows_of branch) edge.fact ∙ same_there frame literals j.fact l root.1 j.row j.other root.2 fit in
      ap (option_and_then (λ (rows : ℕ × ℕ). Some (turned e.back rows))) rows ∙ elim edge.ends [
        | inl w ↦ ap (λ (b : Bool). Some (turned b (two j.row j.other))) w.0 ∙ both j.row from j.other next (sym w.1) (sym w.2)
        | inr w ↦ ap (λ (b : Bool). Some (turned b (two j.row j.other))) w.0 ∙ both j.other from j.row next (sym w.1) (sym w.2)
      ]
    where
      both : (a b c d : ℕ) → a ≡ b → c ≡ d → Some (two a c) ≡ Some (two b d)
      both a b c d e f = ap (λ (x : ℕ). Some (two x c)) e ∙ ap (λ (x : ℕ). Some (two b x)) f

  -- where a path ends
  pub ends_at : (path : List SameEdge) (from to : ℕ) → LeadsBy joins from path to → path_end branch from path ≡ Some to
  ends_at [] from to led = ap Some led
  ends_at (e ∷ es) from to led =
      ap (option_and_then (λ (rows : ℕ × ℕ). if nat_eq from rows.0 then path_end branch rows.1 es else None)) (pair e from led.0 led.1)
      ∙ (ap (λ (b : Bool). if b then path_end branch led.0 es else None) (equal_self from) ∙ ends_at es led.0 to led.2)

  led_to : (path : List SameEdge) (from to : ℕ) (test : ℕ → Bool) → LeadsBy joins from path to → test to ≡ true → leads_to branch from path test ≡ true
  led_to path from to test led passes = ap (λ (o : Option ℕ). option_map_or test o false) (ends_at path from to led) ∙ passes

  -- two rows that are one and are not
  pub right_same : (fact row other : ℕ) (path : List SameEdge) → atom_of branch fact ≡ Some (atom.Other row other) → LeadsBy joins row path other →
      is_right_leaf frame literals (step.Same fact path) ≡ true
  right_same fact row other path there led =
      closes (is_same_clash branch fact path)
      (ap (λ (o : Option Atom). option_map_or (same_clash branch path) o false) there ∙ led_to path row other (nat_eq other) led (equal_self other))

  -- a cell that is NULL and is not
  pub right_null : (fact second row column end : ℕ) (other : Atom) (path : List SameEdge) → atom_of branch fact ≡ Some (atom.IsNull row column) → atom_of branch second ≡ Some other →
      says_not_null end column other ≡ true → LeadsBy joins row path end → is_right_leaf frame literals (step.Null fact second path) ≡ true
  right_null fact second row column end other path there there_too says led =
      closes (is_null_clash branch fact second path)
      (ap (λ (o : Option Atom). option_map_or (λ a. option_map_or (null_clash branch path a) (atom_of branch second) false) o false) there
      ∙ (ap (λ (o : Option Atom). option_map_or (null_clash branch path (atom.IsNull row column)) o false) there_too
      ∙ led_to path row end (λ e. says_not_null e column other) led says))

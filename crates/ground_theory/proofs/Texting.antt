-- The texts of literals to which numbers are found: what is asked of them is there, a path of their facts makes a right leaf, and
-- with texts all is found.
use Rattle.std.proofs.Common.{◌≡◌, ◌∙◌, sym, ap, refl, subst, ℕ, ℤ, ◌<◌, ◌≤◌, ◌+◌, ◌^◌, true, List, length, arith}
use Rattle.std.specs.Prelude.{Option, Some}
use Rattle.std.specs.List.{All, AllByRecursion}
use Rattle.std.proofs.lemmas.List.Elements.{All-from_recursion}
use Rattle.lint_core.specs.declared.certificate.TextEdge.{TextEdge}
use Rattle.sort_formula.specs.declared.formula.Side.{Side}
use Rattle.sort_formula.specs.declared.formula.Side.TheVariants as side
use Rattle.text_classes.specs.declared.facts.TextFact.{TextFact}
use Rattle.text_classes.specs.Answer.{text_in}
use Rattle.text_classes.specs.Paths.{IsPath}
use Rattle.text_classes.specs.Texts.{IsAmong, Satisfies}
use Rattle.ground_theory.specs.declared.assignment.Solution.{Solution}
use Rattle.ground_theory.specs.declared.joining.Join.{Join}
use Rattle.ground_theory.specs.declared.joining.Joined.{Joined}
use Rattle.ground_theory.specs.declared.literal.Frame.{Frame}
use Rattle.ground_theory.specs.declared.literal.Literal.{Literal}
use Rattle.ground_theory.specs.declared.numbering.Cell.{Cell}
use Rattle.ground_theory.specs.declared.numbering.Named.{Named}
use Rattle.ground_theory.specs.declared.numbering.Numbering.{Numbering}
use Rattle.ground_theory.specs.Fitting.{all_fit}
use Rattle.ground_theory.specs.Leaves.{is_right_leaf}
use Rattle.ground_theory.specs.TextEdges.{end_side, ends, IsTextSystem}
use Rattle.ground_theory.specs.TextLeaf.{text_leaf}
use Rattle.ground_theory.specs.inner.Counted.{AreNumbers}
use Rattle.ground_theory.specs.inner.Deciding.{all_stated}
use Rattle.ground_theory.specs.inner.Found.{IsFound, all_facts}
use Rattle.ground_theory.specs.inner.Known.{AreJudged, IsCounted, all_origins}
use Rattle.ground_theory.specs.inner.Numbering.{cell_at}
use Rattle.ground_theory.specs.inner.Paths.{AreRooted}
use Rattle.ground_theory.specs.inner.Sifting.{gathered, same_of, firm_of, bound_of}
use Rattle.ground_theory.specs.inner.Sums.{HaveColumns, HaveRoom}
use Rattle.ground_theory.specs.inner.TextSystem.{HaveTextRoom}
use Rattle.ground_theory.proofs.Entering.{fit, joins_rooted, sames_within}
use Rattle.ground_theory.proofs.Named.{columns_few}
use Rattle.ground_theory.proofs.Preparing as ready
use Rattle.ground_theory.proofs.SumLeaves.{zip_length}
use Rattle.ground_theory.proofs.TextLeaves.{paths_make_leaves}
use Rattle.ground_theory.proofs.TextStating.{text_system}
use Rattle.ground_theory.proofs.Tying.{joins_within}

module _ (frame : Frame) (literals : List Literal) (judged : AreJudged frame literals) (joined : Joined) (numbering : Numbering) (values : List ℤ)
    (counted : IsCounted frame literals joined numbering values) where
  abbrev labels : List ℕ
  labels = joined.labels.items

  abbrev joins : List Join
  joins = joined.joins.items

  abbrev places : List (Option ℕ)
  places = numbering.places.items

  abbrev cells : List Cell
  cells = numbering.cells.items

  abbrev firms : List Named
  firms = gathered firm_of 0 literals

  abbrev facts : List TextFact
  facts = all_facts frame literals joins numbering

  abbrev origins : List TextEdge
  origins = all_origins frame literals joins numbering

  abbrev sides : ℕ → Side
  sides n = side.Cell (cell_at cells n).row (cell_at cells n).column

  all : all_fit frame literals ≡ true
  all = fit frame literals judged.fitting

  rooted : AreRooted literals joins
  rooted = joins_rooted frame literals judged.fitting (length frame.tables) (gathered same_of 0 literals) refl labels joins counted.joined_are

  few : length joins ≤ 512
  few = (let f : length joins ≤ length frame.tables = counted.joined_are.few in let r = ready.rows_few frame judged.frame_is in omega arith)

  pub narrow : HaveColumns frame
  narrow = columns_few frame judged.frame_is

  pub cells_room : HaveTextRoom places literals
  cells_room = ready.texts_room frame literals judged labels counted.joined_are.count firms refl places cells counted.numbered

  pub rows_room : HaveRoom places joins
  rows_room =
      ready.joins_room frame literals judged labels counted.joined_are.count firms refl places cells counted.numbered joins
      (joins_within (length frame.tables) (gathered same_of 0 literals) labels joins counted.joined_are
      (sames_within frame literals judged.fitting (gathered same_of 0 literals) refl))

  pub facts_few : length facts < 2 ^ 32
  facts_few = ready.facts_few frame literals judged labels counted.joined_are.count firms refl places cells counted.numbered joins few

  system : IsTextSystem frame literals sides origins facts × AllByRecursion (IsAmong (length cells)) facts
  system = text_system frame literals all narrow labels counted.joined_are.count firms refl places cells counted.numbered joins rooted

  pub facts_among : All (IsAmong (length cells)) facts
  facts_among = All-from_recursion (IsAmong (length cells)) facts system.1

  pub beside : length origins ≡ length facts
  beside = zip_length (λ o (f : TextFact). ends frame literals f.equal o ≡ Some (end_side sides f.left, end_side sides f.right)) origins facts system.0

  pub path_right : (last : Option ℕ) (path : List ℕ) → IsPath facts last path → is_right_leaf frame literals (text_leaf origins facts last path) ≡ true
  path_right last path is = paths_make_leaves frame literals sides origins facts last path system.0 is

-- with texts all is found
pub found : (frame : Frame) (literals : List Literal) (joined : Joined) (s : Solution) (values : List ℤ) (labels : List ℕ) (texts : List (List ℕ)) → IsCounted frame literals joined s.numbering values →
    s.numbers.items ≡ values → s.labels.items ≡ labels → s.texts.items ≡ texts → length labels ≡ length s.numbering.cells.items → All (λ label. label < length texts) labels →
    Satisfies (text_in labels texts) (all_facts frame literals joined.joins.items s.numbering) → IsFound frame literals joined s
found frame literals joined s values labels texts counted values_are labels_are texts_are count listed satisfied = record {
  joined_are = counted.joined_are;
  apart = counted.apart;
  firm = counted.firm;
  numbered = counted.numbered;
  numbers = subst (AreNumbers (length s.numbering.cells.items + 1) (all_stated frame joined s.numbering (gathered bound_of 0 literals))) (sym values_are) counted.numbers;
  count = ap (λ (ls : List ℕ). length ls) labels_are ∙ count;
  listed = subst (λ (ls : List ℕ). All (λ label. label < length s.texts.items) ls) (sym labels_are)
      (subst (λ (ts : List (List ℕ)). All (λ label. label < length ts) labels) (sym texts_are) listed);
  texts = subst (λ (ls : List ℕ). Satisfies (text_in ls s.texts.items) (all_facts frame literals joined.joins.items s.numbering)) (sym labels_are)
      (subst (λ (ts : List (List ℕ)). Satisfies (text_in labels ts) (all_facts frame literals joined.joins.items s.numbering)) (sym texts_are) satisfied);
}

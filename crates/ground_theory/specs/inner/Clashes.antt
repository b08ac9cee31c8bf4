-- What rows of one class contradict.
use Rattle.std.specs.Prelude.{◌≡◌, ◌<◌, ◌+◌, ◌*◌, ℕ, List, length, Option, Some, None, slice_index_or}
use Rattle.lint_core.specs.declared.certificate.SameEdge.{SameEdge}
use Rattle.lint_core.specs.declared.certificate.Step.{Step}
use Rattle.lint_core.specs.declared.certificate.Step.TheVariants as step
use Rattle.ground_theory.specs.declared.clashes.NullClash.{NullClash}
use Rattle.ground_theory.specs.declared.joining.Join.{Join}
use Rattle.ground_theory.specs.declared.numbering.Named.{Named}
use Rattle.ground_theory.specs.inner.Joining.{label_at, join_at, IsListed}
use Rattle.ground_theory.specs.inner.Numbering.{named_at}
use Rattle.ground_theory.specs.inner.Paths.{LeadsBy}

-- the rows of each of the first literals are of two classes
abbrev pub AreApart : List ℕ → List Join → ℕ → Type 0
AreApart labels others upto = (k : ℕ) → k < upto → label_at labels (join_at others k).row ≡ label_at labels (join_at others k).other → ⊥

-- the literal is one of them, and its rows are of one class
abbrev pub IsParted : List ℕ → List Join → Join → Type 0
IsParted labels others j = IsListed others j × (label_at labels j.row ≡ label_at labels j.other)

abbrev pub LabelsWithin : List ℕ → Type 0
LabelsWithin labels = (row : ℕ) → row < length labels → label_at labels row < length labels

abbrev pub IsNamedIn : List Named → Named → Type 0
IsNamedIn named x = (k : ℕ) × (k < length named) × (named_at named k ≡ x)

-- the place of a cell of the class
abbrev pub class_place : List ℕ → Named → ℕ
class_place labels x = label_at labels x.row * 64 + x.column

abbrev pub held_at : List (Option Named) → ℕ → Option Named
held_at held place = slice_index_or held place None

-- the table has one of the first literals at each place of theirs
pub record AreNulls (labels : List ℕ) (nulls : List Named) (upto : ℕ) (held : List (Option Named)) : Type 0 where
  pub count : length held ≡ length labels * 64
  pub sound : (p : ℕ) (x : Named) → held_at held p ≡ Some x → IsNamedIn nulls x × (class_place labels x ≡ p)
  pub whole : (k : ℕ) → k < upto → (x : Named) × (held_at held (class_place labels (named_at nulls k)) ≡ Some x)

-- none of the first cells is NULL in a row of its class
abbrev pub AreFirm : List ℕ → List Named → List Named → ℕ → Type 0
AreFirm labels nulls firms upto =
    (i k : ℕ) → i < length nulls → k < upto → class_place labels (named_at nulls i) ≡ class_place labels (named_at firms k) → ⊥

pub record IsNullClash (labels : List ℕ) (nulls firms : List Named) (clash : NullClash) : Type 0 where
  pub null : IsNamedIn nulls clash.null
  pub firm : IsNamedIn firms clash.firm
  pub place : class_place labels clash.null ≡ class_place labels clash.firm

-- the leaf of a path between the rows
abbrev pub IsSameLeaf : List Join → Join → Step → Type 0
IsSameLeaf joins j leaf = (path : List SameEdge) × (leaf ≡ step.Same j.fact path) × LeadsBy joins j.row path j.other

abbrev pub IsNullLeaf : List Join → NullClash → Step → Type 0
IsNullLeaf joins clash leaf = (path : List SameEdge) × (leaf ≡ step.Null clash.null.fact clash.firm.fact path) × LeadsBy joins clash.null.row path clash.firm.row

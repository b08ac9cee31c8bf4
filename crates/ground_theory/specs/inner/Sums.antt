-- The bounds that literals ask for, each with the edge of a certificate that states it.
use Rattle.std.specs.Prelude.{◌≡◌, ◌<◌, ◌≤◌, ◌+◌, ◌*◌, ℕ, suc, ℤ, pos, neg_ℤ, nat_eq, List, [], ◌∷◌, ◌++◌, length, Option, Some, None, MatchOption, ⊤, slice_get, if◌then◌else◌}
use Rattle.std.specs.List.{All}
use Rattle.lint_core.specs.declared.certificate.SumEdge.{SumEdge}
use Rattle.lint_core.specs.declared.certificate.SumEdge.TheVariants as edge
use Rattle.lint_core.specs.declared.schema.Domain.{Domain}
use Rattle.lint_core.specs.declared.schema.Domain.TheVariants as domain
use Rattle.ground_theory.specs.declared.joining.Join.{Join}
use Rattle.ground_theory.specs.declared.literal.Frame.{Frame}
use Rattle.ground_theory.specs.declared.numbering.Cell.{Cell}
use Rattle.ground_theory.specs.declared.numbers.Stated.{Stated}
use Rattle.ground_theory.specs.declared.sifting.Bound.{Bound}
use Rattle.ground_theory.specs.Assignments.{domains_at}
use Rattle.ground_theory.specs.inner.Joining.{label_at}
use Rattle.ground_theory.specs.inner.Numbering.{place_at, number_at, cell_at}

-- what is told of each item, the first of which has this number
abbrev pub told : {A X : Type 0} → (ℕ → A → List X) → ℕ → List A → List X
told of number [] = []
told of number (x ∷ xs) = of number x ++ told of (suc number) xs

-- variables are below 2 ^ 15
abbrev pub AreFew : List (Option ℕ) → Type 0
AreFew places = (p n : ℕ) → place_at places p ≡ Some n → n < 32768

abbrev pub HasRoom : List (Option ℕ) → Cell → Type 0
HasRoom places cell = cell.row * 64 + cell.column < length places

-- the cell has its place in the table
abbrev pub IsInRoom : List (Option ℕ) → Option Cell → Type 0
IsInRoom places cell = MatchOption cell ⊤ (HasRoom places)

pub record BothInRoom (places : List (Option ℕ)) (b : Bound) : Type 0 where
  pub left : IsInRoom places b.left
  pub right : IsInRoom places b.right

abbrev pub AreInRoom : List (Option ℕ) → List Bound → Type 0
AreInRoom places bounds = All (BothInRoom places) bounds

abbrev pub AreKnown : ℕ → List Cell → Type 0
AreKnown rows cells = (n : ℕ) → n < length cells → (cell_at cells n).row < rows

-- the cells of both rows have their places
pub record HasBothRows (places : List (Option ℕ)) (j : Join) : Type 0 where
  pub row : j.row * 64 + 64 ≤ length places
  pub other : j.other * 64 + 64 ≤ length places

abbrev pub HaveRoom : List (Option ℕ) → List Join → Type 0
HaveRoom places joins = All (HasBothRows places) joins

-- no row term has more than 64 columns
abbrev pub HaveColumns : Frame → Type 0
HaveColumns frame = (row : ℕ) → length (domains_at frame row) ≤ 64

-- variable 0 is zero, and those of cells follow
abbrev pub after : Option ℕ → ℕ
after None = 0
after (Some n) = n + 1

abbrev pub variable_of : List (Option ℕ) → Option Cell → ℕ
variable_of places None = 0
variable_of places (Some cell) = after (number_at places cell.row cell.column)

abbrev pub bound_stated : List (Option ℕ) → ℕ → Bound → List Stated
bound_stated places number b =
    record { origin = edge.Fact b.fact; edge = record { left = variable_of places b.left; right = variable_of places b.right; most = b.most } } ∷ []

abbrev pub low_stated : Cell → ℕ → ℤ → Stated
low_stated cell variable least = record { origin = edge.Low cell.row cell.column; edge = record { left = 0; right = variable; most = neg_ℤ least } }

abbrev pub high_stated : Cell → ℕ → ℤ → Stated
high_stated cell variable greatest = record { origin = edge.High cell.row cell.column; edge = record { left = variable; right = 0; most = greatest } }

abbrev pub equal_stated : SumEdge → ℕ → ℕ → Stated
equal_stated origin left right = record { origin = origin; edge = record { left = left; right = right; most = pos 0 } }

-- both bounds of a number cell
abbrev pub ranges : Cell → ℕ → Option Domain → List Stated
ranges cell variable None = []
ranges cell variable (Some (domain.Text length)) = []
ranges cell variable (Some (domain.Number least greatest unit)) =
    low_stated cell variable least ∷ high_stated cell variable greatest ∷ []

-- of a cell in the row term that names its class
abbrev pub range_of : Frame → List ℕ → ℕ → Cell → List Stated
range_of frame labels number cell =
    if nat_eq (label_at labels cell.row) cell.row then ranges cell (number + 1) (slice_get (domains_at frame cell.row) cell.column) else []

-- both ways between two cells
abbrev pub same_between : Join → ℕ → Option ℕ → Option ℕ → List Stated
same_between j column (Some left) (Some right) =
    equal_stated (edge.Same j.fact column) (left + 1) (right + 1) ∷ equal_stated (edge.Back j.fact column) (right + 1) (left + 1) ∷ []
same_between j column (Some left) None = []
same_between j column None right = []

abbrev pub same_at : List (Option ℕ) → Join → ℕ → Domain → List Stated
same_at places j column (domain.Text length) = []
same_at places j column (domain.Number least greatest unit) = same_between j column (number_at places j.row column) (number_at places j.other column)

-- of each number column whose cells have variables
abbrev pub join_stated : Frame → List (Option ℕ) → ℕ → Join → List Stated
join_stated frame places number j = told (same_at places j) 0 (domains_at frame j.row)

-- The facts about texts that literals ask for, and the edges of a certificate that say them.
use Rattle.std.specs.Prelude.{◌<◌, ◌+◌, ◌*◌, ℕ, true, false, List, [], ◌∷◌, length, Option, Some, None, ⊤, unwrap_or}
use Rattle.std.specs.List.{All}
use Rattle.lint_core.specs.declared.certificate.TextEdge.{TextEdge}
use Rattle.lint_core.specs.declared.certificate.TextEdge.TheVariants as edge
use Rattle.lint_core.specs.declared.schema.Domain.{Domain}
use Rattle.lint_core.specs.declared.schema.Domain.TheVariants as domain
use Rattle.sort_formula.specs.declared.formula.Side.{Side}
use Rattle.sort_formula.specs.declared.formula.Side.TheVariants as side
use Rattle.sort_formula.specs.declared.formula.Atom.{Atom}
use Rattle.sort_formula.specs.declared.formula.Atom.TheVariants as atom
use Rattle.text_classes.specs.declared.facts.TextEnd.{TextEnd}
use Rattle.text_classes.specs.declared.facts.TextEnd.TheVariants as end
use Rattle.text_classes.specs.declared.facts.TextFact.{TextFact}
use Rattle.ground_theory.specs.declared.joining.Join.{Join}
use Rattle.ground_theory.specs.declared.literal.Frame.{Frame}
use Rattle.ground_theory.specs.declared.literal.Literal.{Literal}
use Rattle.ground_theory.specs.Assignments.{domains_at}
use Rattle.ground_theory.specs.inner.Numbering.{number_at}
use Rattle.ground_theory.specs.inner.Sums.{told}

module _ (places : List (Option ℕ)) where
  -- the cell of a side has its place in the table
  abbrev pub HasSideRoom : Side → Type 0
  HasSideRoom (side.Cell row column) = row * 64 + column < length places
  HasSideRoom side.Zero = ⊤
  HasSideRoom (side.Text text) = ⊤

  abbrev pub HasTextRoom : Atom → Type 0
  HasTextRoom (atom.TextEq left right) = HasSideRoom left × HasSideRoom right
  HasTextRoom (atom.TextNe left right) = HasSideRoom left × HasSideRoom right
  HasTextRoom (atom.Le left right most) = ⊤
  HasTextRoom (atom.IsNull row column) = ⊤
  HasTextRoom (atom.NotNull row column) = ⊤
  HasTextRoom (atom.Same row other) = ⊤
  HasTextRoom (atom.Other row other) = ⊤

  abbrev pub HaveTextRoom : List Literal → Type 0
  HaveTextRoom literals = All (λ (l : Literal). HasTextRoom l.atom) literals

  -- the variable of a cell, or a text
  abbrev pub end_at : Side → TextEnd
  end_at (side.Cell row column) = end.Var (unwrap_or (number_at places row column) 0)
  end_at side.Zero = end.Var 0
  end_at (side.Text text) = end.Text text

  -- what an atom says of texts
  abbrev pub said_fact : ℕ → Atom → List TextFact
  said_fact fact (atom.TextEq left right) = record { left = end_at left; right = end_at right; equal = true } ∷ []
  said_fact fact (atom.TextNe left right) = record { left = end_at left; right = end_at right; equal = false } ∷ []
  said_fact fact (atom.Le left right most) = []
  said_fact fact (atom.IsNull row column) = []
  said_fact fact (atom.NotNull row column) = []
  said_fact fact (atom.Same row other) = []
  said_fact fact (atom.Other row other) = []

abbrev pub said_origin : ℕ → Atom → List TextEdge
said_origin fact (atom.TextEq left right) = edge.Fact fact ∷ []
said_origin fact (atom.TextNe left right) = edge.Fact fact ∷ []
said_origin fact (atom.Le left right most) = []
said_origin fact (atom.IsNull row column) = []
said_origin fact (atom.NotNull row column) = []
said_origin fact (atom.Same row other) = []
said_origin fact (atom.Other row other) = []

-- two cells that have variables
abbrev pub same_fact : Option ℕ → Option ℕ → List TextFact
same_fact (Some left) (Some right) = record { left = end.Var left; right = end.Var right; equal = true } ∷ []
same_fact (Some left) None = []
same_fact None right = []

abbrev pub same_origin : ℕ → ℕ → Option ℕ → Option ℕ → List TextEdge
same_origin fact column (Some left) (Some right) = edge.Same fact column ∷ []
same_origin fact column (Some left) None = []
same_origin fact column None right = []

module _ (frame : Frame) (places : List (Option ℕ)) where
  abbrev pub fact_at_column : Join → ℕ → Domain → List TextFact
  fact_at_column j column (domain.Number least greatest unit) = []
  fact_at_column j column (domain.Text length) = same_fact (number_at places j.row column) (number_at places j.other column)

  abbrev pub origin_at_column : Join → ℕ → Domain → List TextEdge
  origin_at_column j column (domain.Number least greatest unit) = []
  origin_at_column j column (domain.Text length) = same_origin j.fact column (number_at places j.row column) (number_at places j.other column)

  -- of each text column whose cells have variables
  abbrev pub join_facts : ℕ → Join → List TextFact
  join_facts number j = told (fact_at_column j) 0 (domains_at frame j.row)

  abbrev pub join_origins : ℕ → Join → List TextEdge
  join_origins number j = told (origin_at_column j) 0 (domains_at frame j.row)

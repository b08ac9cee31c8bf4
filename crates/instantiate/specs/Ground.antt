-- The ground list. The clause of a node at row terms stands where the node above it, with the way that leads to this node,
-- is taken; below a Forall also only where the row is there, that is, where the Exists that asks for it is taken. Or
-- has a way for each part, an atom one with its literal, the others one.
use Rattle.std.specs.Prelude.{ℕ, suc, drop, ◌-◌, Bool, List, [], ◌∷◌, ◌++◌, length, map, take, Option, Some, None, slice_get, option_and_then, unwrap_or, if◌then◌else◌}
use Rattle.std.specs.Option.{option_map_or}
use Rattle.lint_core.specs.declared.schema.Column.{Column}
use Rattle.lint_core.specs.declared.schema.Domain.{Domain}
use Rattle.lint_core.specs.declared.schema.Table.{Table}
use Rattle.sort_formula.specs.declared.formula.Formula.{Formula}
use Rattle.sort_formula.specs.declared.formula.Formula.TheOpen.{Formula-F}
use Rattle.sort_formula.specs.Placed.{placed_atom}
use Rattle.sorted_skolem.specs.declared.term.RowTerm.{RowTerm}
use Rattle.sorted_skolem.specs.Preorder.{Quantifier, Way, Node, node_at, is_forall_node}
use Rattle.ground_theory.specs.declared.literal.Clause.{Clause}
use Rattle.ground_theory.specs.declared.literal.Frame.{Frame}
use Rattle.ground_theory.specs.declared.literal.Guard.{Guard}
use Rattle.ground_theory.specs.declared.literal.Literal.{Literal}
use Rattle.instantiate.specs.Keys.{Key, is_same_key, keys_of, number_of}

-- the key of the Exists that asks for a row
abbrev pub maker_of : RowTerm → Key
maker_of term = record { sentence = term.sentence; node = term.node; rows = term.rows }

abbrev pub is_term : Key → RowTerm → Bool
is_term key term = is_same_key key (maker_of term)

-- the number of the term that an Exists asks for at row terms; past the end where it asks for none
abbrev pub term_number : List RowTerm → Key → ℕ
term_number [] key = 0
term_number (t ∷ ts) key = if is_term key t then 0 else suc (term_number ts key)

module _ (terms : List RowTerm) (sentence : ℕ) where
  -- the row terms of the variables: of a Forall its row, of an Exists its own term at the rows outside it
  abbrev pub rows_along : List ℕ → List ℕ → List Quantifier → List ℕ
  rows_along outside rows [] = []
  rows_along outside rows (q ∷ qs) =
      if q.is_forall
      then take 1 rows ++ rows_along (outside ++ take 1 rows) (drop 1 rows) qs
      else term_number terms (record { sentence = sentence; node = q.node; rows = outside }) ∷ rows_along outside rows qs

-- the row term of each variable of a node at row terms
abbrev pub variables_of : List RowTerm → Key → Node → List ℕ
variables_of terms key node = rows_along terms key.sentence [] key.rows node.around

-- an atom has its literal; Or has a way for each part, the others one
abbrev pub ways_in : List ℕ → Formula-F Formula → List (Option Literal)
ways_in rows (Formula-F.Atom a) = Some (record { atom = placed_atom rows 0 a }) ∷ []
ways_in rows (Formula-F.And parts) = None ∷ []
ways_in rows (Formula-F.Or parts) = map (λ part. None) parts
ways_in rows (Formula-F.Exists table body) = None ∷ []
ways_in rows (Formula-F.Forall table body) = None ∷ []

module _ (outlines : List (List Node)) (order : List ℕ) (terms : List RowTerm) where
  abbrev pub keys : List Key
  keys = keys_of order terms outlines

  abbrev pub guard_of : Key → ℕ → Guard
  guard_of key way = record { clause = number_of keys key; way = way }

  -- that the row is there
  abbrev pub present_guard : ℕ → List Guard
  present_guard row = option_map_or (λ term. guard_of (maker_of term) 0 ∷ []) (slice_get terms row) []

  abbrev pub above_key : Key → ℕ → ℕ → Key
  above_key key node count = record { sentence = key.sentence; node = node; rows = take count key.rows }

  -- below a Forall, whose row is the last; below another node
  abbrev pub guards_below : Key → Way → Node → List Guard
  guards_below key way above =
      let count : ℕ = length key.rows - 1 in
      if is_forall_node above
      then guard_of (above_key key way.node count) way.way ∷ unwrap_or (option_and_then (λ row. Some (present_guard row)) (slice_get key.rows count)) []
      else guard_of (above_key key way.node (length key.rows)) way.way ∷ []

  abbrev pub guards_of : Key → Node → List Guard
  guards_of key node =
      option_map_or (λ (way : Way). option_map_or (guards_below key way) (node_at outlines key.sentence way.node) []) node.above []

  abbrev pub clause_at : Key → Node → Clause
  clause_at key node = record { guards = guards_of key node; ways = ways_in (variables_of terms key node) node.layer }

  abbrev pub clause_of : Key → Clause
  clause_of key = option_map_or (clause_at key) (node_at outlines key.sentence key.node) (record { guards = []; ways = [] })

  abbrev pub clauses_of : List Clause
  clauses_of = map clause_of keys

abbrev pub domains_of : List Table → List (List Domain)
domains_of schema = map (λ (t : Table). map (λ (c : Column). c.domain) t.columns) schema

-- the schema's domains, and the table of each row term
abbrev pub frame_of : List Table → List RowTerm → Frame
frame_of schema terms = record { tables = map (λ (t : RowTerm). t.table) terms; domains = domains_of schema }

-- The nodes of a sentence in preorder, counted from 0: each with the layer of the formula that stands there, the node above it with
-- the way that leads to it, and the quantifiers around it.
use Rattle.std.specs.Prelude.{ℕ, suc, ◌+◌, Bool, true, false, List, [], ◌∷◌, ◌++◌, length, map, Option, Some, None, slice_get, option_and_then, if◌then◌else◌}
use Rattle.std.specs.List.{filter}
use Rattle.sort_formula.specs.declared.formula.Formula.{Formula, fold-Formula, roll-Formula, map-Formula}
use Rattle.sort_formula.specs.declared.formula.Formula.TheOpen.{Formula-F}

-- a quantifier by its node; Forall, or else Exists
pub record Quantifier : Type 0 where
  pub node : ℕ
  pub table : ℕ
  pub is_forall : Bool

-- a node, and one of its ways
pub record Way : Type 0 where
  pub node : ℕ
  pub way : ℕ

pub record Node : Type 0 where
  -- what stands there: the outermost layer of the formula
  pub layer : Formula-F Formula
  -- none of the whole sentence
  pub above : Option Way
  -- the outermost first; so the variable of each is its place
  pub around : List Quantifier

-- the nodes of a formula, by the number of its own node, what is above it and the quantifiers around it
pub record Laid : Type 0 where
  pub formula : Formula
  pub nodes : ℕ → Option Way → List Quantifier → List Node

-- those of the parts one after the other; Or has a way for each part, And one for all
abbrev pub laid_parts : Bool → ℕ → ℕ → ℕ → List Quantifier → List Laid → List Node
laid_parts is_or number way next around [] = []
laid_parts is_or number way next around (part ∷ parts) =
    let own : List Node = part.nodes next (Some (record { node = number; way = way })) around in
    own ++ laid_parts is_or number (if is_or then suc way else way) (next + length own) around parts

abbrev pub laid_inside : Bool → ℕ → ℕ → List Quantifier → Laid → List Node
laid_inside is_forall table number around body =
    body.nodes (suc number) (Some (record { node = number; way = 0 }))
    (around ++ record { node = number; table = table; is_forall = is_forall } ∷ [])

abbrev pub below_step : Formula-F Laid → ℕ → List Quantifier → List Node
below_step (Formula-F.Atom a) number around = []
below_step (Formula-F.And parts) number around = laid_parts false number 0 (suc number) around parts
below_step (Formula-F.Or parts) number around = laid_parts true number 0 (suc number) around parts
below_step (Formula-F.Exists table body) number around = laid_inside false table number around body
below_step (Formula-F.Forall table body) number around = laid_inside true table number around body

-- a node of this layer, and the nodes below it
abbrev pub laid_at : Formula-F Formula → (ℕ → List Quantifier → List Node) → Laid
laid_at layer below = record {
  formula = roll-Formula layer;
  nodes = λ number above around. record { layer = layer; above = above; around = around } ∷ below number around;
}

abbrev pub laid_step : Formula-F Laid → Laid
laid_step parts = laid_at (map-Formula Laid Formula (λ (part : Laid). part.formula) parts) (below_step parts)

abbrev pub laid : Formula → Laid
laid = fold-Formula Laid laid_step

abbrev pub nodes_of : Formula → List Node
nodes_of sentence = (laid sentence).nodes 0 None []

abbrev pub outlines_of : List Formula → List (List Node)
outlines_of sentences = map nodes_of sentences

-- the node of a sentence, both by their numbers
abbrev pub node_at : List (List Node) → ℕ → ℕ → Option Node
node_at outlines sentence node = option_and_then (λ (nodes : List Node). slice_get nodes node) (slice_get outlines sentence)

-- the formula that stands at a node
abbrev pub formula_of : Node → Formula
formula_of node = roll-Formula node.layer

abbrev pub is_forall_of : Quantifier → Bool
is_forall_of q = q.is_forall

-- the tables of the Foralls around it
abbrev pub forall_tables : Node → List ℕ
forall_tables node = map (λ (q : Quantifier). q.table) (filter is_forall_of node.around)

abbrev pub exists_in : Formula-F Formula → Option ℕ
exists_in (Formula-F.Exists table body) = Some table
exists_in layer = None

-- the table over which it is an Exists, if it is one
abbrev pub exists_table : Node → Option ℕ
exists_table node = exists_in node.layer

abbrev pub forall_in : Formula-F Formula → Bool
forall_in (Formula-F.Forall table body) = true
forall_in layer = false

abbrev pub is_forall_node : Node → Bool
is_forall_node node = forall_in node.layer

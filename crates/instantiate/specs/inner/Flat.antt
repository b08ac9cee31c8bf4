-- The nodes of a sentence as the code lists them.
use Rattle.std.specs.Prelude.{ℕ, List, map, Option, Some, None}
use Rattle.sort_formula.specs.declared.formula.Formula.{out-Formula}
use Rattle.std.specs.List.{filter}
use Rattle.sorted_skolem.specs.Preorder.{Quantifier, Way, Node, is_forall_of}
use Rattle.instantiate.specs.declared.outline.Binder.{Binder}
use Rattle.instantiate.specs.declared.outline.Above.{Above}
use Rattle.instantiate.specs.declared.outline.FlatNode.{FlatNode}

abbrev pub quantifier_of : Binder → Quantifier
quantifier_of b = record { node = b.node; table = b.table; is_forall = b.is_forall }

abbrev pub way_above : Option Above → Option Way
way_above None = None
way_above (Some a) = Some (record { node = a.node; way = a.way })

-- the node that is listed so
abbrev pub node_of : FlatNode → Node
node_of n = record { layer = out-Formula n.formula.now; above = way_above n.above; around = map quantifier_of n.around }

-- the tables of the Foralls
abbrev pub tables_around : List Binder → List ℕ
tables_around around = map (λ (q : Quantifier). q.table) (filter is_forall_of (map quantifier_of around))

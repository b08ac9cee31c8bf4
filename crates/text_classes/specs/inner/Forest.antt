-- What holds of the search for the classes of nodes.
use Rattle.std.specs.Prelude.{◌≡◌, ◌⊎◌, ◌<◌, ◌≤◌, ◌+◌, ℕ, true, false, List, length, Option, Some, None, MatchOption, option_map, slice_index_or, sum_by, ⊤}
use Rattle.text_classes.specs.declared.graph.Link.{Link}
use Rattle.text_classes.specs.declared.forest.Visit.{Visit}
use Rattle.text_classes.specs.declared.forest.Forest.{Forest}
use Rattle.text_classes.specs.inner.Nodes.{link_at, other_end, IsWay, LeadsIn}

abbrev pub visit_at : List Visit → ℕ → Visit
visit_at order k = slice_index_or order k (record { node = 0; class = 0; back = None })

-- the place of the node in the order, if it was met
abbrev pub place_of : List (Option ℕ) → ℕ → Option ℕ
place_of places node = slice_index_or places node None

abbrev pub IsPlaced : List (Option ℕ) → ℕ → Type 0
IsPlaced places node = (k : ℕ) × (place_of places node ≡ Some k)

abbrev pub open_one : Option ℕ → ℕ
open_one None = 1
open_one (Some k) = 0

-- how many nodes were not met
abbrev pub open_count : List (Option ℕ) → ℕ
open_count places = sum_by open_one places

-- a node that was met before, in the same class
pub record IsBefore (order : List Visit) (places : List (Option ℕ)) (k node : ℕ) : Type 0 where
  pub place : ℕ
  pub is : place_of places node ≡ Some place
  pub before : place < k
  pub class : (visit_at order place).class ≡ (visit_at order k).class

-- the link back is an equal one of the node, and its other side was met before, in the same class
pub record IsBack (links : List Link) (order : List Visit) (places : List (Option ℕ)) (k n : ℕ) : Type 0 where
  pub way : IsWay links (length links) (visit_at order k).node n
  pub before : IsBefore order places k (other_end (link_at links n) (visit_at order k).node)

abbrev pub IsTied : List Link → List Visit → List (Option ℕ) → ℕ → Type 0
IsTied links order places k = MatchOption (visit_at order k).back ⊤ (IsBack links order places k)

-- the nodes that were met, each once, in classes that hang together
pub record IsForest (nodes : ℕ) (links : List Link) (order : List Visit) (places : List (Option ℕ)) (classes : ℕ) : Type 0 where
  pub count : length places ≡ nodes
  pub balance : open_count places + length order ≡ nodes
  pub placed : (node k : ℕ) → place_of places node ≡ Some k → (k < length order) × ((visit_at order k).node ≡ node)
  pub kept : (k : ℕ) → k < length order → place_of places (visit_at order k).node ≡ Some k
  pub within : (k : ℕ) → k < length order → (visit_at order k).node < nodes
  pub low : (node : ℕ) → node < classes → IsPlaced places node
  pub class : (k : ℕ) → k < length order → (visit_at order k).class < classes
  pub small : (k : ℕ) → k < length order → (visit_at order k).class ≤ (visit_at order k).node
  pub tied : (k : ℕ) → k < length order → IsTied links order places k
  pub roots : (j k : ℕ) → j < length order → k < length order → (visit_at order j).back ≡ None → (visit_at order k).back ≡ None → (visit_at order j).class ≡ (visit_at order k).class → j ≡ k

-- the class of a node that was met
abbrev pub class_of : List Visit → List (Option ℕ) → ℕ → Option ℕ
class_of order places node = option_map (λ k. (visit_at order k).class) (place_of places node)

-- the node stands in the order before the place
abbrev pub IsDone : List (Option ℕ) → ℕ → ℕ → Type 0
IsDone places done node = (k : ℕ) × (k < done) × (place_of places node ≡ Some k)

-- the sides of an equal link are of one class where one of them stands before the place
abbrev pub IsClosed : List Link → List Visit → List (Option ℕ) → ℕ → Type 0
IsClosed links order places done =
    (n : ℕ) → n < length links → (link_at links n).equal ≡ true
    → IsDone places done (link_at links n).left ⊎ IsDone places done (link_at links n).right
    → class_of order places (link_at links n).left ≡ class_of order places (link_at links n).right

-- from the place on all are of this class
abbrev pub IsLast : List Visit → ℕ → ℕ → Type 0
IsLast order done class = (k : ℕ) → done ≤ k → k < length order → (visit_at order k).class ≡ class

-- what holds while a class is filled: the nodes before the place are done
pub record IsFilling (nodes : ℕ) (links : List Link) (done class : ℕ) (s : Forest) : Type 0 where
  pub forest : IsForest nodes links s.order.items s.places.items s.classes
  pub closed : IsClosed links s.order.items s.places.items done
  pub last : IsLast s.order.items done class
  pub class_is : class < s.classes

-- the later state has what the earlier one had
pub record Extends (old new : Forest) : Type 0 where
  pub longer : length old.order.items ≤ length new.order.items
  pub order : (k : ℕ) → k < length old.order.items → visit_at new.order.items k ≡ visit_at old.order.items k
  pub placed : (node k : ℕ) → place_of old.places.items node ≡ Some k → place_of new.places.items node ≡ Some k
  pub classes : new.classes ≡ old.classes

-- every node was met, and the sides of an equal link are of one class
pub record IsGrown (nodes : ℕ) (links : List Link) (s : Forest) : Type 0 where
  pub forest : IsForest nodes links s.order.items s.places.items s.classes
  pub all : (node : ℕ) → node < nodes → IsPlaced s.places.items node
  pub same : (n : ℕ) → n < length links → (link_at links n).equal ≡ true
      → class_of s.order.items s.places.items (link_at links n).left ≡ class_of s.order.items s.places.items (link_at links n).right

-- the state of a search between two classes: the nodes below `root` were met
pub record IsBetween (nodes : ℕ) (links : List Link) (root : ℕ) (s : Forest) : Type 0 where
  pub forest : IsForest nodes links s.order.items s.places.items s.classes
  pub closed : IsClosed links s.order.items s.places.items (length s.order.items)
  pub below : (node : ℕ) → node < root → IsPlaced s.places.items node
  pub few : s.classes ≤ root

abbrev pub class_in : Forest → ℕ → Option ℕ
class_in s node = class_of s.order.items s.places.items node

-- the node stands in the order
abbrev pub IsMet : Forest → ℕ → Type 0
IsMet s node = (k : ℕ) × (k < length s.order.items) × (place_of s.places.items node ≡ Some k)

abbrev pub IsSound : List Link → Forest → Type 0
IsSound links s = IsForest (length s.places.items) links s.order.items s.places.items s.classes

-- the nodes below the number stand in the order, and no class has a number above that of a node of it
pub record IsIndexed (nodes : ℕ) (s : Forest) : Type 0 where
  pub met : (node : ℕ) → node < nodes → IsMet s node
  pub classes : (node class : ℕ) → class_in s node ≡ Some class → (class < s.classes) × (class ≤ node)

-- the sides of each link stand in the order
abbrev pub AreMet : List Link → Forest → Type 0
AreMet links s = (n : ℕ) → n < length links → IsMet s (link_at links n).left × IsMet s (link_at links n).right

-- the sides of the first unequal links are of two classes
abbrev pub AreApart : List Link → ℕ → Forest → Type 0
AreApart links count s =
    (n : ℕ) → n < count → (link_at links n).equal ≡ false → class_in s (link_at links n).left ≡ class_in s (link_at links n).right → ⊥

-- an unequal link's sides are of one class
pub record IsBroken (links : List Link) (s : Forest) (n : ℕ) : Type 0 where
  pub listed : n < length links
  pub unequal : (link_at links n).equal ≡ false
  pub same : class_in s (link_at links n).left ≡ class_in s (link_at links n).right

-- the first node of a class
pub record IsRoot (s : Forest) (class : Option ℕ) (node : ℕ) : Type 0 where
  pub place : ℕ
  pub listed : place < length s.order.items
  pub node_is : (visit_at s.order.items place).node ≡ node
  pub first : (visit_at s.order.items place).back ≡ None
  pub class_is : class ≡ Some (visit_at s.order.items place).class

-- the links lead from the node to the first one of its class
abbrev pub LeadsToRoot : List Link → Forest → ℕ → List ℕ → Type 0
LeadsToRoot links s node chain = (root : ℕ) × IsRoot s (class_in s node) root × LeadsIn links node chain root

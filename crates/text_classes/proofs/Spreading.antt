-- What the search does at a place, and where it starts a class.
use Rattle.std.proofs.Common.{◌≡◌, ◌∙◌, sym, ap, refl, subst, ℕ, ◌<◌, ◌≤◌, ◌+◌, List, [], ◌∷◌, ◌++◌, length, Some, None, slice_index_or, set, inl, inr, arith}
use Rattle.std.proofs.lemmas.Bool.{cases_eq}
use Rattle.std.proofs.lemmas.List.{length_push, get_or_read}
use Rattle.text_classes.specs.declared.graph.Link.{Link}
use Rattle.text_classes.specs.declared.forest.Visit.{Visit}
use Rattle.text_classes.specs.declared.forest.Forest.{Forest}
use Rattle.text_classes.specs.inner.Nodes.{link_at, other_end, AreWaysOf, AreWays, number_at}
use Rattle.text_classes.specs.inner.Forest.{visit_at, place_of, IsPlaced, class_in, IsFilling, Extends, IsBetween}
use Rattle.text_classes.proofs.Search.{forest_more, closed_more, placed_more, placed_now, each}
use Rattle.text_classes.proofs.Meeting.{closed_on, class_kept}

-- the numbers that are read of a node
pub read_numbers : (ways : List (List ℕ)) (node : ℕ) (list items : List ℕ) → list ≡ slice_index_or ways node list → items ≡ list → items ≡ slice_index_or ways node items
read_numbers ways node list items is same = subst (λ (ns : List ℕ). ns ≡ slice_index_or ways node ns) (sym same) is

-- `s` is the state at the start, and `t` the present one
module _ (links : List Link) (ways : List (List ℕ)) (place : ℕ) (s t : Forest) (listed : place < length s.order.items) (extends : Extends s t)
    (filling : IsFilling (length ways) links place (visit_at s.order.items place).class t) (all : AreWays links (length links) ways)
    (x : Visit) (x_is : x ≡ slice_index_or s.order.items place x) (numbers : List ℕ) (numbers_are : numbers ≡ slice_index_or ways x.node numbers) where
  pub same_visit : visit_at t.order.items place ≡ visit_at s.order.items place
  same_visit = extends.order place listed

  pub still_listed : place < length t.order.items
  still_listed = let h = extends.longer in omega arith

  x_here : x ≡ visit_at t.order.items place
  x_here = get_or_read s.order.items place x listed x_is _ ∙ sym same_visit

  node_within : x.node < length ways
  node_within =
      let h : (visit_at t.order.items place).node < length ways = filling.forest.within place still_listed in
      let e : x.node ≡ (visit_at t.order.items place).node = ap (λ (u : Visit). u.node) x_here in
      omega arith

  -- the numbers are those of the node's links
  pub ways_here : AreWaysOf links (length links) (visit_at t.order.items place).node numbers
  ways_here =
      let numbers_here : slice_index_or ways x.node [] ≡ numbers = sym (get_or_read ways x.node numbers node_within numbers_are []) in
      subst (λ (u : Visit). AreWaysOf links (length links) u.node numbers) x_here (subst (λ (ns : List ℕ). AreWaysOf links (length links) x.node ns) numbers_here (all x.node node_within))

  pub filling_here : IsFilling (length ways) links place (visit_at t.order.items place).class t
  filling_here = subst (λ (u : Visit). IsFilling (length ways) links place u.class t) (sym same_visit) filling

  -- where all of them were taken
  pub filled_on : ((k : ℕ) → k < length numbers → class_in t (other_end (link_at links (number_at numbers k)) (visit_at s.order.items place).node) ≡ Some (visit_at s.order.items place).class)
      → IsFilling (length ways) links (place + 1) (visit_at s.order.items place).class t
  filled_on met = record {
    forest = filling.forest;
    closed = closed_on (length ways) links place numbers t still_listed filling_here ways_here
        (λ k h. subst (λ (u : Visit). class_in t (other_end (link_at links (number_at numbers k)) u.node) ≡ Some u.class) (sym same_visit) (met k h));
    last = λ k from h. filling.last k (omega arith) h;
    class_is = filling.class_is;
  }

  -- one of them more
  pub met_more : (nodes : ℕ) (u : Forest) (i number : ℕ) → number ≡ number_at numbers i → Extends t u
      → class_in u (other_end (link_at links number) (visit_at t.order.items place).node) ≡ Some (visit_at t.order.items place).class
      → ((k : ℕ) → k < i → class_in t (other_end (link_at links (number_at numbers k)) (visit_at s.order.items place).node) ≡ Some (visit_at s.order.items place).class)
      → (k : ℕ) → k < i + 1 → class_in u (other_end (link_at links (number_at numbers k)) (visit_at s.order.items place).node) ≡ Some (visit_at s.order.items place).class
  met_more nodes u i number number_is more now met k h =
      elim (cases_eq k i) [
        | inl same ↦
            let here : number ≡ number_at numbers k = number_is ∙ ap (number_at numbers) (sym same) in
            subst (λ (n : ℕ). class_in u (other_end (link_at links n) (visit_at s.order.items place).node) ≡ Some (visit_at s.order.items place).class) here
            (subst (λ (v : Visit). class_in u (other_end (link_at links number) v.node) ≡ Some v.class) same_visit now)
        | inr other ↦ class_kept (length ways) links t u filling.forest more _ _ (met k (omega arith))
      ]

  -- what meeting said, of the number of nodes and the class as they were
  pub filling_next : (u : Forest) → IsFilling (length t.places.items) links place (visit_at t.order.items place).class u → IsFilling (length ways) links place (visit_at s.order.items place).class u
  filling_next u next =
      subst (λ (v : Visit). IsFilling (length ways) links place v.class u) same_visit
      (subst (λ (n : ℕ). IsFilling n links place (visit_at t.order.items place).class u) filling.forest.count next)

-- ---- a class is started

module _ (nodes : ℕ) (links : List Link) (root : ℕ) (s : Forest) (between : IsBetween nodes links root s) (listed : root < nodes) (fresh : place_of s.places.items root ≡ None)
    (t : Forest) (order_is : t.order.items ≡ s.order.items ++ (let v : Visit = record { node = root; class = s.classes; back = None } in v) ∷ [])
    (places_are : t.places.items ≡ set s.places.items root (Some (length s.order.items))) (classes_are : t.classes ≡ s.classes + 1) where
  abbrev first : Visit
  first = record { node = root; class = s.classes; back = None }

  below_now : (node : ℕ) → node < root + 1 → IsPlaced (set s.places.items root (Some (length s.order.items))) node
  below_now node h =
      elim (cases_eq node root) [
        | inl same ↦ subst (IsPlaced (set s.places.items root (Some (length s.order.items)))) (sym same) (placed_now nodes links s.order.items s.places.items s.classes between.forest root s.classes None listed fresh)
        | inr other ↦ placed_more nodes links s.order.items s.places.items s.classes between.forest root s.classes None listed fresh node (between.below node (omega arith))
      ]

  pub started_below : (node : ℕ) → node < root + 1 → IsPlaced t.places.items node
  started_below node h = rw places_are (below_now node h)

  pub started_few : t.classes ≤ root + 1
  started_few = let few : s.classes ≤ root = between.few in omega arith

  pub started : IsFilling nodes links (length s.order.items) s.classes t
  started =
      let few : s.classes ≤ root = between.few in
      let forest' = forest_more nodes links s.order.items s.places.items s.classes between.forest root s.classes None listed fresh (s.classes + 1) (omega arith)
      (λ node h. below_now node (omega arith)) (omega arith) few tt (λ none j h same. (let below : (visit_at s.order.items j).class < s.classes = between.forest.class j h in omega arith)) in
      record {
        forest = rw (order_is, places_are, classes_are) forest';
        closed = rw (order_is, places_are) (closed_more nodes links s.order.items s.places.items s.classes between.forest root s.classes None listed fresh (length s.order.items) (omega arith) between.closed);
        last = rw order_is (λ k from within. each s.order.items first (λ k (u : Visit). length s.order.items ≤ k → u.class ≡ s.classes) (λ k old from. absurd (omega arith)) (λ from. refl) k within from);
        class_is = omega arith;
      }

  pub started_early : length s.order.items ≤ length t.order.items
  started_early = rw order_is (let size = length_push s.order.items first in omega arith)

-- a node that was met before is passed
pub passed : (nodes : ℕ) (links : List Link) (root : ℕ) (s : Forest) → IsBetween nodes links root s → IsPlaced s.places.items root → IsBetween nodes links (root + 1) s
passed nodes links root s between placed = record {
  forest = between.forest;
  closed = between.closed;
  below = λ node h. elim (cases_eq node root) [
    | inl same ↦ subst (IsPlaced s.places.items) (sym same) placed
    | inr other ↦ between.below node (omega arith)
  ];
  few = (let h : s.classes ≤ root = between.few in omega arith);
}

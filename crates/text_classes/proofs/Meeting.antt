-- What meeting a node does.
use Rattle.std.proofs.Common.{◌≡◌, ◌≢◌, ◌∙◌, ◌⊎◌, sym, ap, refl, subst, ℕ, ◌<◌, ◌≤◌, ◌+◌, true, false, List, [], ◌∷◌, ◌++◌, length, Option, Some, None, is_some, slice_index_or, true≢false, set, inl, inr, arith}
use Rattle.std.proofs.lemmas.Bool.{cases_lt, cases_eq}
use Rattle.std.proofs.lemmas.List.{length_push, get_or_read}
use Rattle.text_classes.specs.declared.graph.Link.{Link}
use Rattle.text_classes.specs.declared.forest.Visit.{Visit}
use Rattle.text_classes.specs.declared.forest.Forest.{Forest}
use Rattle.text_classes.specs.inner.Nodes.{link_at, other_end, IsWay, AreWithin, AreWaysOf, number_at}
use Rattle.text_classes.specs.inner.Forest.{visit_at, place_of, IsPlaced, IsBack, IsForest, class_in, IsDone, IsClosed, IsFilling, Extends}
use Rattle.text_classes.proofs.Search.{unmet, place_kept, place_new, visit_kept, visit_new, other_back, other_side, other_class, sides_same, both_ends, class_place, class_at, forest_more, closed_more, last_more, placed_more}

-- the other side of a link is a node
pub other_within : (nodes : ℕ) (links : List Link) (node n : ℕ) → AreWithin nodes links → IsWay links (length links) node n → other_end (link_at links n) node < nodes
other_within nodes links node n within way =
    let both = within n way.listed in
    elim (both_ends (link_at links n) node way.side) [
      | inl forth ↦ (let is : (link_at links n).right ≡ other_end (link_at links n) node = forth.1 in let h = both.1 in omega arith)
      | inr turned ↦ (let is : (link_at links n).left ≡ other_end (link_at links n) node = turned.0 in let h = both.0 in omega arith)
    ]

module _ (links : List Link) (place number : ℕ) (s : Forest) (listed : place < length s.order.items)
    (filling : IsFilling (length s.places.items) links place (visit_at s.order.items place).class s)
    (way : IsWay links (length links) (visit_at s.order.items place).node number) (within : AreWithin (length s.places.items) links) where
  abbrev from : Visit
  from = visit_at s.order.items place

  abbrev next : ℕ
  next = other_end (link_at links number) from.node

  -- a node that was met is of the class
  pub met_before : IsPlaced s.places.items next → class_in s next ≡ Some from.class
  met_before placed =
      let here = class_at s.order.items s.places.items from.node place (filling.forest.kept place listed) in
      elim (cases_lt placed.0 place) [
        | inl before ↦
            let side = other_side (link_at links number) from.node next way.side refl in
            let done : IsDone s.places.items place next = (placed.0, before, placed.1) in
            let which : IsDone s.places.items place (link_at links number).left ⊎ IsDone s.places.items place (link_at links number).right =
            elim side [
              | inl left ↦ inl (subst (IsDone s.places.items place) (sym left) done)
              | inr right ↦ inr (subst (IsDone s.places.items place) (sym right) done)
            ] in
            other_class s.order.items s.places.items (link_at links number) from.node way.side (filling.closed number way.listed way.equal which) ∙ here
        | inr after ↦ class_at s.order.items s.places.items next placed.0 placed.1 ∙ ap Some (filling.last placed.0 after (filling.forest.placed next placed.0 placed.1).0)
      ]

  module _ (fresh : place_of s.places.items next ≡ None) (s' : Forest)
      (order_is : s'.order.items ≡ s.order.items ++ (let v : Visit = record { node = next; class = from.class; back = Some number } in v) ∷ [])
      (places_are : s'.places.items ≡ set s.places.items next (Some (length s.order.items))) (classes_are : s'.classes ≡ s.classes) where
    next_within : next < length s.places.items
    next_within = other_within (length s.places.items) links from.node number within way

    apart : from.node ≢ next
    apart = unmet s.places.items next from.node place fresh (filling.forest.kept place listed)

    abbrev order' : List Visit
    order' = s.order.items ++ (let v : Visit = record { node = next; class = from.class; back = Some number } in v) ∷ []

    abbrev places' : List (Option ℕ)
    places' = set s.places.items next (Some (length s.order.items))

    abbrev v' : Visit
    v' = record { node = next; class = from.class; back = Some number }

    v_is : visit_at order' (length s.order.items) ≡ v'
    v_is = visit_new s.order.items v'

    tie : IsBack links order' places' (length s.order.items) number
    tie =
        let back : other_end (link_at links number) next ≡ from.node = other_back (link_at links number) from.node next way.side refl apart in
        let kept = place_kept s.places.items next (length s.order.items) from.node place fresh (filling.forest.kept place listed) in
        record {
          way = subst (λ (u : Visit). IsWay links (length links) u.node number) (sym v_is) (record { listed = way.listed; equal = way.equal; side = other_side (link_at links number) from.node next way.side refl });
          before = record {
            place = place;
            is = subst (λ (u : Visit). place_of places' (other_end (link_at links number) u.node) ≡ Some place) (sym v_is) (ap (place_of places') back ∙ kept);
            before = listed;
            class = ap (λ (u : Visit). u.class) (visit_kept s.order.items v' place listed) ∙ sym (ap (λ (u : Visit). u.class) v_is);
          };
        }

    small : from.class ≤ next
    small =
        let class_is : from.class < s.classes = filling.class_is in
        elim (cases_lt next s.classes) [
          | inl low ↦ (let there = filling.forest.low next low in absurd (let same : None ≡ Some there.0 = sym fresh ∙ there.1 in cc same))
          | inr high ↦ omega arith
        ]

    new_forest : IsForest (length s.places.items) links order' places' s.classes
    new_forest =
        forest_more (length s.places.items) links s.order.items s.places.items s.classes filling.forest next from.class (Some number) next_within fresh
        s.classes (omega arith) (λ node h. placed_more (length s.places.items) links s.order.items s.places.items s.classes filling.forest next from.class (Some number) next_within fresh node (filling.forest.low node h))
        filling.class_is small tie (λ h. absurd (cc h))

    pub filled : IsFilling (length s.places.items) links place from.class s'
    filled = record {
      forest = rw (order_is, places_are, classes_are) new_forest;
      closed = rw (order_is, places_are) (closed_more (length s.places.items) links s.order.items s.places.items s.classes filling.forest next from.class (Some number) next_within fresh place (omega arith) filling.closed);
      last = rw order_is (last_more (length s.places.items) links s.order.items s.places.items s.classes filling.forest next from.class (Some number) next_within fresh place from.class refl filling.last);
      class_is = rw classes_are filling.class_is;
    }

    pub extended : Extends s s'
    extended = record {
      longer = rw order_is (let size = length_push s.order.items v' in omega arith);
      order = λ k old. rw order_is (visit_kept s.order.items v' k old);
      placed = λ node k is. rw places_are (place_kept s.places.items next (length s.order.items) node k fresh is);
      classes = classes_are;
    }

    pub met_now : class_in s' next ≡ Some from.class
    met_now =
        rw (order_is, places_are) (class_at order' places' next (length s.order.items) (place_new s.places.items next (length s.order.items) next_within) ∙ ap (λ (u : Visit). Some u.class) v_is)

pub extends_self : (s : Forest) → Extends s s
extends_self s = record { longer = omega arith; order = λ k h. refl; placed = λ node k h. h; classes = refl }

pub extends_both : (s t u : Forest) → Extends s t → Extends t u → Extends s u
extends_both s t u one two = record {
  longer = (let a = one.longer in let b = two.longer in omega arith);
  order = λ k h. two.order k (let a = one.longer in omega arith) ∙ one.order k h;
  placed = λ node k h. two.placed node k (one.placed node k h);
  classes = two.classes ∙ one.classes;
}

-- a node keeps its class
pub class_kept : (nodes : ℕ) (links : List Link) (s t : Forest) → IsForest nodes links s.order.items s.places.items s.classes → Extends s t → (node c : ℕ) → class_in s node ≡ Some c → class_in t node ≡ Some c
class_kept nodes links s t forest more node c is =
    let at = class_place s.order.items s.places.items node c is in
    class_at t.order.items t.places.items node at.0 (more.placed node at.0 at.1) ∙ ap (λ (u : Visit). Some u.class) (more.order at.0 (forest.placed node at.0 at.1).0) ∙ ap Some at.2

-- where every way of the node at the place was taken, the place is done
pub closed_on : (nodes : ℕ) (links : List Link) (place : ℕ) (numbers : List ℕ) (s : Forest) → place < length s.order.items → IsFilling nodes links place (visit_at s.order.items place).class s
    → AreWaysOf links (length links) (visit_at s.order.items place).node numbers
    → ((k : ℕ) → k < length numbers → class_in s (other_end (link_at links (number_at numbers k)) (visit_at s.order.items place).node) ≡ Some (visit_at s.order.items place).class)
    → IsClosed links s.order.items s.places.items (place + 1)
closed_on nodes links place numbers s listed filling ways met n within equal which =
    let at = visit_at s.order.items place in
    let here = class_at s.order.items s.places.items at.node place (filling.forest.kept place listed) in
    let whole : ((link_at links n).left ≡ at.node) ⊎ ((link_at links n).right ≡ at.node) → class_in s (link_at links n).left ≡ class_in s (link_at links n).right =
    λ side.
    let found = ways.whole n (record { listed = within; equal = equal; side = side }) in
    let there = met found.0 found.1 in
    let there' = subst (λ (m : ℕ). class_in s (other_end (link_at links m) at.node) ≡ Some at.class) found.2 there in
    sides_same s.order.items s.places.items (link_at links n) at.node at.class side here there' in
    let node_of : (node : ℕ) (k : ℕ) → place_of s.places.items node ≡ Some k → k ≡ place → node ≡ at.node = λ node k is same. sym (filling.forest.placed node k is).1 ∙ ap (λ (j : ℕ). (visit_at s.order.items j).node) same in
    elim which [
      | inl left ↦ elim (cases_eq left.0 place) [
        | inl same ↦ whole (inl (node_of _ left.0 left.2 same))
        | inr other ↦ filling.closed n within equal (inl (left.0, (let h = left.1 in omega arith), left.2))
      ]
      | inr right ↦ elim (cases_eq right.0 place) [
        | inl same ↦ whole (inr (node_of _ right.0 right.2 same))
        | inr other ↦ filling.closed n within equal (inr (right.0, (let h = right.1 in omega arith), right.2))
      ]
    ]

none_read : (places : List (Option ℕ)) (node : ℕ) (p : Option ℕ) → p ≡ slice_index_or places node p → is_some p ≡ false → place_of places node ≡ None
none_read places node None is none = sym is
none_read places node (Some k) is none = absurd (true≢false none)

pub some_read : (places : List (Option ℕ)) (node : ℕ) (p : Option ℕ) → node < length places → p ≡ slice_index_or places node p → is_some p ≡ true → IsPlaced places node
some_read places node None listed is some = absurd (true≢false (sym some))
some_read places node (Some k) listed is some = (k, sym (get_or_read places node (Some k) listed is None))

pub read_none : (places : List (Option ℕ)) (node : ℕ) (p : Option ℕ) → p ≡ slice_index_or places node p → is_some p ≡ false → place_of places node ≡ None
read_none = none_read

-- the same, as the code says it
module _ (links : List Link) (place number : ℕ) (s : Forest) (listed : place < length s.order.items)
    (filling : IsFilling (length s.places.items) links place (visit_at s.order.items place).class s)
    (way : IsWay links (length links) (visit_at s.order.items place).node number) (within : AreWithin (length s.places.items) links)
    (x : Visit) (x_is : x ≡ slice_index_or s.order.items place x) (next : ℕ) (next_is : next ≡ other_end (link_at links number) x.node) (p : Option ℕ) (p_is : p ≡ slice_index_or s.places.items next p) where
  abbrev next_end : ℕ
  next_end = other_end (link_at links number) (visit_at s.order.items place).node

  x_here : x ≡ visit_at s.order.items place
  x_here = get_or_read s.order.items place x listed x_is _

  next_here : next ≡ next_end
  next_here = next_is ∙ ap (λ (u : Visit). other_end (link_at links number) u.node) x_here

  pub next_listed : next < length s.places.items
  next_listed = let h = other_within (length s.places.items) links (visit_at s.order.items place).node number within way in let e : next ≡ next_end = next_here in omega arith

  -- it was met before
  pub meets_old : is_some p ≡ true → class_in s next_end ≡ Some (visit_at s.order.items place).class
  meets_old some = met_before links place number s listed filling way within (subst (IsPlaced s.places.items) next_here (some_read s.places.items next p next_listed p_is some))

  module _ (none : is_some p ≡ false) (s' : Forest)
      (order_is : s'.order.items ≡ s.order.items ++ (let v : Visit = record { node = next; class = x.class; back = Some number } in v) ∷ [])
      (places_are : s'.places.items ≡ set s.places.items next (Some (length s.order.items))) (classes_are : s'.classes ≡ s.classes) where
    fresh : place_of s.places.items next_end ≡ None
    fresh = subst (λ (j : ℕ). place_of s.places.items j ≡ None) next_here (none_read s.places.items next p p_is none)

    order_here : s'.order.items ≡ s.order.items ++ (let v : Visit = record { node = next_end; class = (visit_at s.order.items place).class; back = Some number } in v) ∷ []
    order_here = order_is ∙ (λ i. s.order.items ++ (let v : Visit = record { node = next_here i; class = (x_here i).class; back = Some number } in v) ∷ [])

    places_here : s'.places.items ≡ set s.places.items next_end (Some (length s.order.items))
    places_here = places_are ∙ ap (λ (j : ℕ). set s.places.items j (Some (length s.order.items))) next_here

    pub meets_filled : IsFilling (length s.places.items) links place (visit_at s.order.items place).class s'
    meets_filled = filled links place number s listed filling way within fresh s' order_here places_here classes_are

    pub meets_extended : Extends s s'
    meets_extended = extended links place number s listed filling way within fresh s' order_here places_here classes_are

    pub meets_new : class_in s' next_end ≡ Some (visit_at s.order.items place).class
    meets_new = met_now links place number s listed filling way within fresh s' order_here places_here classes_are

-- A node put at the end of the order keeps what holds of the search.
use Rattle.std.proofs.Common.{◌≡◌, ◌≢◌, ◌∙◌, ◌⊎◌, sym, ap, refl, subst, ℕ, zero, suc, ◌<◌, ◌≤◌, ◌+◌, List, [], ◌∷◌, ◌++◌, length, Option, Some, None, MatchOption, option_map, set, inl, inr, arith}
use Rattle.std.proofs.lemmas.List.{get_or_append_left, get_or_push, get_or-set_same, get_or-set_other, length-set, length_push}
use Rattle.std.proofs.lemmas.List.Sums.{sum_by-set}
use Rattle.std.proofs.lemmas.Bool.{cases_eq}
use Rattle.std.proofs.lemmas.Bool.Decides.{nat_tests}
use Rattle.text_classes.specs.declared.graph.Link.{Link}
use Rattle.std.specs.Prelude.{⊤}
use Rattle.text_classes.specs.declared.forest.Visit.{Visit}
use Rattle.text_classes.specs.inner.Nodes.{link_at, other_end, IsWay}
use Rattle.text_classes.specs.inner.Forest.{visit_at, place_of, IsPlaced, open_one, open_count, IsBefore, IsBack, IsForest, class_of, IsDone, IsClosed, IsLast}

-- a node that was met is one of the listed
pub placed_listed : (places : List (Option ℕ)) (node k : ℕ) → place_of places node ≡ Some k → node < length places
placed_listed [] node k some = absurd (cc some)
placed_listed (p ∷ ps) zero k some = omega arith
placed_listed (p ∷ ps) (suc node) k some = let rest : node < length ps = placed_listed ps node k some in omega arith

-- one node fewer is left
pub fewer_open : (places : List (Option ℕ)) (node k : ℕ) → node < length places → place_of places node ≡ None → open_count (set places node (Some k)) + 1 ≡ open_count places
fewer_open places node k listed none =
    let sums : open_count (set places node (Some k)) + open_one (place_of places node) ≡ open_count places + 0 = sum_by-set open_one places node (Some k) None listed in
    let one : open_one (place_of places node) ≡ 1 = ap open_one none in
    omega arith

-- the node is another than one that was met
pub unmet : (places : List (Option ℕ)) (new node k : ℕ) → place_of places new ≡ None → place_of places node ≡ Some k → node ≢ new
unmet places new node k none some same = let here : place_of places new ≡ Some k = subst (λ (v : ℕ). place_of places v ≡ Some k) same some in cc (none, here)

-- the places after one more
pub place_kept : (places : List (Option ℕ)) (new at node k : ℕ) → place_of places new ≡ None → place_of places node ≡ Some k → place_of (set places new (Some at)) node ≡ Some k
place_kept places new at node k none some = get_or-set_other places new node (Some at) None (unmet places new node k none some) ∙ some

pub place_new : (places : List (Option ℕ)) (new at : ℕ) → new < length places → place_of (set places new (Some at)) new ≡ Some at
place_new places new at listed = get_or-set_same places new (Some at) None listed

-- a node that is met now, or was before
pub place_back : (places : List (Option ℕ)) (new at node k : ℕ) → new < length places → place_of (set places new (Some at)) node ≡ Some k → ((node ≡ new) × (k ≡ at)) ⊎ (place_of places node ≡ Some k)
place_back places new at node k listed some =
    elim (cases_eq node new) [
      | inl same ↦
          let here : place_of (set places new (Some at)) new ≡ Some k = subst (λ (v : ℕ). place_of (set places new (Some at)) v ≡ Some k) same some in
          let there = place_new places new at listed in
          let which : k ≡ at = cc (here, there) in
          inl (same, which)
      | inr other ↦ inr (sym (get_or-set_other places new node (Some at) None other) ∙ some)
    ]

-- the order after one more
pub visit_kept : (order : List Visit) (v : Visit) (k : ℕ) → k < length order → visit_at (order ++ v ∷ []) k ≡ visit_at order k
visit_kept order v k listed = get_or_append_left order (v ∷ []) _ k listed

pub visit_new : (order : List Visit) (v : Visit) → visit_at (order ++ v ∷ []) (length order) ≡ v
visit_new order v = get_or_push order v _ (length order) refl

-- a place is an earlier one, or the new one
pub old_or_new : (order : List Visit) (v : Visit) (k : ℕ) → k < length (order ++ v ∷ []) → (k < length order) ⊎ (k ≡ length order)
old_or_new order v k listed =
    let count = length_push order v in
    elim (cases_eq k (length order)) [
      | inl same ↦ inr same
      | inr other ↦ inl (omega arith)
    ]

-- what holds of each earlier visit and of the new one
pub each : (order : List Visit) (v : Visit) (P : ℕ → Visit → Type 0) → ((k : ℕ) → k < length order → P k (visit_at order k)) → P (length order) v → (k : ℕ) → k < length (order ++ v ∷ []) → P k (visit_at (order ++ v ∷ []) k)
each order v P olds new k listed =
    elim (old_or_new order v k listed) [
      | inl old ↦ subst (P k) (sym (visit_kept order v k old)) (olds k old)
      | inr same ↦ subst (λ (j : ℕ). P j (visit_at (order ++ v ∷ []) j)) (sym same) (subst (P (length order)) (sym (visit_new order v)) new)
    ]

match_more : (P Q : ℕ → Type 0) (o : Option ℕ) → ((n : ℕ) → P n → Q n) → MatchOption o ⊤ P → MatchOption o ⊤ Q
match_more P Q None f h = h
match_more P Q (Some n) f h = f n h

-- ---- the two sides of a link

pub other_left : (l : Link) (a : ℕ) → l.left ≡ a → other_end l a ≡ l.right
other_left l a same = grind (arith, nat_tests)

pub other_right : (l : Link) (a : ℕ) → l.left ≢ a → other_end l a ≡ l.left
other_right l a apart = grind (arith, nat_tests)

-- a side and the other one
pub both_ends : (l : Link) (a : ℕ) → (l.left ≡ a) ⊎ (l.right ≡ a) → ((l.left ≡ a) × (l.right ≡ other_end l a)) ⊎ ((l.left ≡ other_end l a) × (l.right ≡ a))
both_ends l a (inl left) = inl (left, sym (other_left l a left))
both_ends l a (inr right) =
    elim (cases_eq l.left a) [
      | inl left ↦ inl (left, sym (other_left l a left))
      | inr apart ↦ inr (sym (other_right l a apart), right)
    ]

-- and back
pub other_back : (l : Link) (a b : ℕ) → (l.left ≡ a) ⊎ (l.right ≡ a) → b ≡ other_end l a → a ≢ b → other_end l b ≡ a
other_back l a b side is apart =
    elim (both_ends l a side) [
      | inl forth ↦ (let not_left : l.left ≢ b = λ h. apart (sym forth.0 ∙ h) in other_right l b not_left ∙ forth.0)
      | inr turned ↦ other_left l b (turned.0 ∙ sym is) ∙ turned.1
    ]

pub other_side : (l : Link) (a b : ℕ) → (l.left ≡ a) ⊎ (l.right ≡ a) → b ≡ other_end l a → (l.left ≡ b) ⊎ (l.right ≡ b)
other_side l a b side is =
    elim (both_ends l a side) [
      | inl forth ↦ inr (forth.1 ∙ sym is)
      | inr turned ↦ inl (turned.0 ∙ sym is)
    ]

-- ---- classes

some_of : (f : ℕ → ℕ) (o : Option ℕ) (c : ℕ) → option_map f o ≡ Some c → (k : ℕ) × (o ≡ Some k) × (f k ≡ c)
some_of f None c h = absurd (cc h)
some_of f (Some k) c h = (k, refl, cc h)

-- a node of a class stands at a place
pub class_place : (order : List Visit) (places : List (Option ℕ)) (node c : ℕ) → class_of order places node ≡ Some c → (k : ℕ) × (place_of places node ≡ Some k) × ((visit_at order k).class ≡ c)
class_place order places node c h = some_of (λ k. (visit_at order k).class) (place_of places node) c h

pub class_at : (order : List Visit) (places : List (Option ℕ)) (node k : ℕ) → place_of places node ≡ Some k → class_of order places node ≡ Some (visit_at order k).class
class_at order places node k h = ap (option_map (λ k. (visit_at order k).class)) h

-- the sides of a link of two classes that are one
pub sides_same : (order : List Visit) (places : List (Option ℕ)) (l : Link) (a c : ℕ) → (l.left ≡ a) ⊎ (l.right ≡ a) → class_of order places a ≡ Some c → class_of order places (other_end l a) ≡ Some c → class_of order places l.left ≡ class_of order places l.right
sides_same order places l a c side here there =
    elim (both_ends l a side) [
      | inl forth ↦ ap (class_of order places) forth.0 ∙ here ∙ sym there ∙ ap (class_of order places) (sym forth.1)
      | inr turned ↦ ap (class_of order places) turned.0 ∙ there ∙ sym here ∙ ap (class_of order places) (sym turned.1)
    ]

pub other_class : (order : List Visit) (places : List (Option ℕ)) (l : Link) (a : ℕ) → (l.left ≡ a) ⊎ (l.right ≡ a) → class_of order places l.left ≡ class_of order places l.right → class_of order places (other_end l a) ≡ class_of order places a
other_class order places l a side same =
    elim (both_ends l a side) [
      | inl forth ↦ ap (class_of order places) (sym forth.1) ∙ sym same ∙ ap (class_of order places) forth.0
      | inr turned ↦ ap (class_of order places) (sym turned.0) ∙ same ∙ ap (class_of order places) turned.1
    ]

-- ---- one node more

module _ (nodes : ℕ) (links : List Link) (order : List Visit) (places : List (Option ℕ)) (classes : ℕ) (forest : IsForest nodes links order places classes)
    (new class : ℕ) (back : Option ℕ) (listed : new < nodes) (fresh : place_of places new ≡ None) where
  abbrev visit : Visit
  visit = record { node = new; class = class; back = back }

  abbrev order' : List Visit
  order' = order ++ visit ∷ []

  abbrev places' : List (Option ℕ)
  places' = set places new (Some (length order))

  within : new < length places
  within = let count : length places ≡ nodes = forest.count in omega arith

  pub placed_more : (node : ℕ) → IsPlaced places node → IsPlaced places' node
  placed_more node placed = (placed.0, place_kept places new (length order) node placed.0 fresh placed.1)

  pub placed_now : IsPlaced places' new
  placed_now = (length order, place_new places new (length order) within)

  before_more : (k node : ℕ) → k < length order → IsBefore order places k node → IsBefore order' places' k node
  before_more k node old b =
      let early : b.place < length order = (let h : b.place < k = b.before in omega arith) in
      record {
        place = b.place;
        is = place_kept places new (length order) node b.place fresh b.is;
        before = b.before;
        class = ap (λ (u : Visit). u.class) (visit_kept order visit b.place early) ∙ b.class ∙ sym (ap (λ (u : Visit). u.class) (visit_kept order visit k old));
      }

  back_more : (k n : ℕ) → k < length order → IsBack links order places k n → IsBack links order' places' k n
  back_more k n old b =
      let same = visit_kept order visit k old in
      record {
        way = subst (λ (u : Visit). IsWay links (length links) u.node n) (sym same) b.way;
        before = subst (λ (u : Visit). IsBefore order' places' k (other_end (link_at links n) u.node)) (sym same) (before_more k _ old b.before);
      }

  placed_back : (node k : ℕ) → place_of places' node ≡ Some k → (k < length order') × ((visit_at order' k).node ≡ node)
  placed_back node k some =
      let count = length_push order visit in
      elim (place_back places new (length order) node k within some) [
        | inl now ↦ (
            let last : k < length order' = (let at : k ≡ length order = now.1 in omega arith) in
            (last, subst (λ (j : ℕ). (visit_at order' j).node ≡ node) (sym now.1) (ap (λ (u : Visit). u.node) (visit_new order visit) ∙ sym now.0)))
        | inr old ↦ (
            let was = forest.placed node k old in
            let more : k < length order' = (let h : k < length order = was.0 in omega arith) in
            (more, ap (λ (u : Visit). u.node) (visit_kept order visit k was.0) ∙ was.1))
      ]

  module _ (classes' : ℕ) (grows : classes ≤ classes') (low : (node : ℕ) → node < classes' → IsPlaced places' node) (within_classes : class < classes') (small : class ≤ new)
      (tie : MatchOption back ⊤ (IsBack links order' places' (length order))) (alone : back ≡ None → (j : ℕ) → j < length order → (visit_at order j).class ≡ class → ⊥) where
    one_root : (j k : ℕ) → j < length order' → k < length order' → (visit_at order' j).back ≡ None → (visit_at order' k).back ≡ None → (visit_at order' j).class ≡ (visit_at order' k).class → j ≡ k
    one_root j k jl kl jn kn same =
        elim (old_or_new order visit j jl) [
          | inl jold ↦ elim (old_or_new order visit k kl) [
            | inl kold ↦ (
                let js = visit_kept order visit j jold in
                let ks = visit_kept order visit k kold in
                forest.roots j k jold kold (ap (λ (u : Visit). u.back) (sym js) ∙ jn) (ap (λ (u : Visit). u.back) (sym ks) ∙ kn) (ap (λ (u : Visit). u.class) (sym js) ∙ same ∙ ap (λ (u : Visit). u.class) ks))
            | inr knew ↦ (
                let js = visit_kept order visit j jold in
                let ks : visit_at order' k ≡ visit = ap (visit_at order') knew ∙ visit_new order visit in
                absurd (alone (ap (λ (u : Visit). u.back) (sym ks) ∙ kn) j jold (ap (λ (u : Visit). u.class) (sym js) ∙ same ∙ ap (λ (u : Visit). u.class) ks)))
          ]
          | inr jnew ↦ elim (old_or_new order visit k kl) [
            | inl kold ↦ (
                let ks = visit_kept order visit k kold in
                let js : visit_at order' j ≡ visit = ap (visit_at order') jnew ∙ visit_new order visit in
                absurd (alone (ap (λ (u : Visit). u.back) (sym js) ∙ jn) k kold (ap (λ (u : Visit). u.class) (sym ks) ∙ sym same ∙ ap (λ (u : Visit). u.class) js)))
            | inr knew ↦ jnew ∙ sym knew
          ]
        ]

    pub forest_more : IsForest nodes links order' places' classes'
    forest_more = record {
      count = length-set places new (Some (length order)) ∙ forest.count;
      balance = (
          let fewer = fewer_open places new (length order) within fresh in
          let size = length_push order visit in
          let was : open_count places + length order ≡ nodes = forest.balance in
          omega arith);
      placed = placed_back;
      kept = each order visit (λ k (u : Visit). place_of places' u.node ≡ Some k) (λ k old. place_kept places new (length order) _ k fresh (forest.kept k old)) (place_new places new (length order) within);
      within = each order visit (λ k (u : Visit). u.node < nodes) forest.within listed;
      low = low;
      class = each order visit (λ k (u : Visit). u.class < classes') (λ k old. (let h = forest.class k old in omega arith)) within_classes;
      small = each order visit (λ k (u : Visit). u.class ≤ u.node) forest.small small;
      tied = each order visit (λ k (u : Visit). MatchOption u.back ⊤ (IsBack links order' places' k)) (λ k old. match_more (IsBack links order places k) (IsBack links order' places' k) (visit_at order k).back (λ n b. back_more k n old b) (forest.tied k old)) tie;
      roots = one_root;
    }

  -- a node keeps its class
  pub class_more : (node c : ℕ) → class_of order places node ≡ Some c → class_of order' places' node ≡ Some c
  class_more node c is =
      let at = class_place order places node c is in
      let early = (forest.placed node at.0 at.1).0 in
      class_at order' places' node at.0 (place_kept places new (length order) node at.0 fresh at.1) ∙ ap (λ (u : Visit). Some u.class) (visit_kept order visit at.0 early) ∙ ap Some at.2

  was_done : (done node : ℕ) → done ≤ length order → IsDone places' done node → IsDone places done node
  was_done done node early is =
      elim (place_back places new (length order) node is.0 within is.2) [
        | inl now ↦ absurd (let at : is.0 ≡ length order = now.1 in let h : is.0 < done = is.1 in omega arith)
        | inr old ↦ (is.0, is.1, old)
      ]

  -- what was closed stays so
  pub closed_more : (done : ℕ) → done ≤ length order → IsClosed links order places done → IsClosed links order' places' done
  closed_more done early closed n within equal which =
      elim which [
        | inl left ↦ (
            let was = was_done done _ early left in
            let same = closed n within equal (inl was) in
            let here = class_at order places _ was.0 was.2 in
            class_more _ _ here ∙ sym (class_more _ _ (sym same ∙ here)))
        | inr right ↦ (
            let was = was_done done _ early right in
            let same = closed n within equal (inr was) in
            let here = class_at order places _ was.0 was.2 in
            class_more _ _ (same ∙ here) ∙ sym (class_more _ _ here))
      ]

  pub last_more : (done c : ℕ) → class ≡ c → IsLast order done c → IsLast order' done c
  last_more done c is last k from listed = each order visit (λ k (u : Visit). done ≤ k → u.class ≡ c) (λ k old from. last k from old) (λ from. is) k listed from

-- Chains of links between nodes of one class.
use Rattle.std.proofs.Common.{◌≡◌, ◌∙◌, sym, ap, refl, subst, ℕ, zero, suc, ◌<◌, ◌+◌, List, [], ◌∷◌, ◌++◌, length, reverse, Option, Some, None, MatchOption, slice_index_or, inl, inr, arith}
use Rattle.std.specs.Prelude.{⊤}
use Rattle.std.proofs.lemmas.List.{reverse-append, get_or_read}
use Rattle.text_classes.specs.declared.graph.Link.{Link}
use Rattle.text_classes.specs.declared.forest.Visit.{Visit}
use Rattle.text_classes.specs.declared.forest.Forest.{Forest}
use Rattle.text_classes.specs.inner.Nodes.{link_at, other_end, IsWay, IsLinkStep, LeadsIn}
use Rattle.text_classes.specs.inner.Forest.{visit_at, place_of, IsPlaced, IsBack, IsForest, class_in, IsRoot, LeadsToRoot, IsGrown, IsIndexed}
use Rattle.text_classes.proofs.Search.{both_ends, class_place, class_at}

-- ---- chains

pub leads_append : (links : List Link) (a : ℕ) (xs : List ℕ) (b : ℕ) (ys : List ℕ) (c : ℕ) → LeadsIn links a xs b → LeadsIn links b ys c → LeadsIn links a (xs ++ ys) c
leads_append links a [] b ys c left right = subst (λ (v : ℕ). LeadsIn links v ys c) (sym left) right
leads_append links a (x ∷ xs) b ys c left right = (left.0, left.1, left.2, leads_append links left.0 xs b ys c left.3 right)

pub leads_push : (links : List Link) (a : ℕ) (ns : List ℕ) (b n c : ℕ) → LeadsIn links a ns b → n < length links → IsLinkStep (link_at links n) b c → LeadsIn links a (ns ++ n ∷ []) c
leads_push links a ns b n c leads listed step = leads_append links a ns b (n ∷ []) c leads (c, listed, step, refl)

step_back : (l : Link) (a b : ℕ) → IsLinkStep l a b → IsLinkStep l b a
step_back l a b step = record { equal = step.equal; ends = elim (step.ends) [ inl forth ↦ inr (forth.1, forth.0) | inr turned ↦ inl (turned.1, turned.0) ] }

pub leads_reverse : (links : List Link) (a : ℕ) (xs : List ℕ) (b : ℕ) → LeadsIn links a xs b → LeadsIn links b (reverse xs) a
leads_reverse links a [] b leads = sym leads
leads_reverse links a (x ∷ xs) b leads =
    let rest = leads_reverse links leads.0 xs b leads.3 in
    let last : LeadsIn links leads.0 (x ∷ []) a = (a, leads.1, step_back _ _ _ leads.2, refl) in
    subst (λ (ns : List ℕ). LeadsIn links b ns a) (sym (reverse-append (x ∷ []) xs)) (leads_append links b (reverse xs) leads.0 (x ∷ []) a rest last)

-- from a side to the other one
step_over : (links : List Link) (count a n : ℕ) → IsWay links count a n → IsLinkStep (link_at links n) a (other_end (link_at links n) a)
step_over links count a n way = record {
  equal = way.equal;
  ends = elim (both_ends (link_at links n) a way.side) [
    | inl forth ↦ inl (sym forth.0, sym forth.1)
    | inr turned ↦ inr (sym turned.1, sym turned.0)
  ];
}

-- ---- the links back

module _ (nodes : ℕ) (links : List Link) (s : Forest) (forest : IsForest nodes links s.order.items s.places.items s.classes) where
  pub back_of : (place n : ℕ) → place < length s.order.items → (visit_at s.order.items place).back ≡ Some n → IsBack links s.order.items s.places.items place n
  back_of place n listed is = subst (λ (o : Option ℕ). MatchOption o ⊤ (IsBack links s.order.items s.places.items place)) is (forest.tied place listed)

  -- one link back
  pub record Climbed (at place n : ℕ) : Type 0 where
    pub earlier : ℕ
    pub is : place_of s.places.items (other_end (link_at links n) at) ≡ Some earlier
    pub before : earlier < place
    pub listed : n < length links
    pub step : IsLinkStep (link_at links n) at (other_end (link_at links n) at)
    pub same : class_in s at ≡ class_in s (other_end (link_at links n) at)

  pub climbs : (at place n : ℕ) → place_of s.places.items at ≡ Some place → (visit_at s.order.items place).back ≡ Some n → Climbed at place n
  climbs at place n is back =
      let here = forest.placed at place is in
      let b = back_of place n here.0 back in
      let way : IsWay links (length links) at n = subst (λ (v : ℕ). IsWay links (length links) v n) here.1 b.way in
      let there : place_of s.places.items (other_end (link_at links n) at) ≡ Some b.before.place = subst (λ (v : ℕ). place_of s.places.items (other_end (link_at links n) v) ≡ Some b.before.place) here.1 b.before.is in
      record {
        earlier = b.before.place;
        is = there;
        before = b.before.before;
        listed = way.listed;
        step = step_over links (length links) at n way;
        same = class_at s.order.items s.places.items at place is ∙ ap Some (sym b.before.class) ∙ sym (class_at s.order.items s.places.items _ b.before.place there);
      }

  -- the same, as the code says it
  pub climbed : (at place n : ℕ) (x : Visit) → place_of s.places.items at ≡ Some place → x ≡ slice_index_or s.order.items place x → x.back ≡ Some n → Climbed at place n
  climbed at place n x is x_is back = climbs at place n is (ap (λ (u : Visit). u.back) (sym (get_or_read s.order.items place x (forest.placed at place is).0 x_is _)) ∙ back)

  -- a node without a link back is the first of its class
  pub at_root : (from at place : ℕ) → place_of s.places.items at ≡ Some place → (visit_at s.order.items place).back ≡ None → class_in s from ≡ class_in s at → IsRoot s (class_in s from) at
  at_root from at place is none same = record {
    place = place;
    listed = (forest.placed at place is).0;
    node_is = (forest.placed at place is).1;
    first = none;
    class_is = same ∙ class_at s.order.items s.places.items at place is;
  }

  pub rooted : (from at place : ℕ) (x : Visit) → place_of s.places.items at ≡ Some place → x ≡ slice_index_or s.order.items place x → x.back ≡ None → class_in s from ≡ class_in s at → IsRoot s (class_in s from) at
  rooted from at place x is x_is none same = at_root from at place is (ap (λ (u : Visit). u.back) (sym (get_or_read s.order.items place x (forest.placed at place is).0 x_is _)) ∙ none) same

  -- two first nodes of one class are one
  pub one_root : (class : Option ℕ) (a b : ℕ) → IsRoot s class a → IsRoot s class b → a ≡ b
  one_root class a b left right =
      let same : (visit_at s.order.items left.place).class ≡ (visit_at s.order.items right.place).class = (let both = sym left.class_is ∙ right.class_is in cc both) in
      let place = forest.roots left.place right.place left.listed right.listed left.first right.first same in
      sym left.node_is ∙ ap (λ (k : ℕ). (visit_at s.order.items k).node) place ∙ right.node_is

  -- from every node that was met links lead to the first one of its class
  climb_to : (fuel at place : ℕ) → place < fuel → place_of s.places.items at ≡ Some place → (o : Option ℕ) → (visit_at s.order.items place).back ≡ o → (chain : List ℕ) × LeadsToRoot links s at chain
  climb_to zero at place low is o back = absurd (omega arith)
  climb_to (suc fuel) at place low is None back = ([], (at, at_root at at place is back refl, refl))
  climb_to (suc fuel) at place low is (Some n) back =
      let up = climbs at place n is back in
      let rest = climb_to fuel (other_end (link_at links n) at) up.earlier (let h : up.earlier < place = up.before in omega arith) up.is (visit_at s.order.items up.earlier).back refl in
      (n ∷ rest.0, (rest.1.0, subst (λ (c : Option ℕ). IsRoot s c rest.1.0) (sym up.same) rest.1.1, (other_end (link_at links n) at, up.listed, up.step, rest.1.2)))

  pub to_root : (at : ℕ) → IsPlaced s.places.items at → (chain : List ℕ) × LeadsToRoot links s at chain
  to_root at placed = climb_to (placed.0 + 1) at placed.0 (omega arith) placed.1 (visit_at s.order.items placed.0).back refl

  -- there and back
  pub joined_by : (a b : ℕ) (there back : List ℕ) → class_in s a ≡ class_in s b → LeadsToRoot links s a there → LeadsToRoot links s b back → LeadsIn links a (there ++ reverse back) b
  joined_by a b there back same left right =
      let one = one_root (class_in s a) left.0 right.0 left.1 (subst (λ (c : Option ℕ). IsRoot s c right.0) (sym same) right.1) in
      leads_append links a there left.0 (reverse back) b left.2 (subst (λ (v : ℕ). LeadsIn links v (reverse back) b) (sym one) (leads_reverse links b back right.0 right.2))

  -- between two nodes of one class there is a chain
  pub joined : (a b : ℕ) → IsPlaced s.places.items a → IsPlaced s.places.items b → class_in s a ≡ class_in s b → (chain : List ℕ) × LeadsIn links a chain b
  joined a b pa pb same = let there = to_root a pa in let back = to_root b pb in (there.0 ++ reverse back.0, joined_by a b there.0 back.0 same there.1 back.1)

pub indexed : (nodes : ℕ) (links : List Link) (s : Forest) → IsGrown nodes links s → IsIndexed nodes s
indexed nodes links s grown = record {
  met = λ node h. (let placed = grown.all node h in (placed.0, (grown.forest.placed node placed.0 placed.1).0, placed.1));
  classes = λ node class is.
      let at = class_place s.order.items s.places.items node class is in
      let visit = grown.forest.placed node at.0 at.1 in
      let low = grown.forest.class at.0 visit.0 in
      let small = grown.forest.small at.0 visit.0 in
      let e = at.2 in
      let n = visit.1 in
      (omega arith, omega arith);
}

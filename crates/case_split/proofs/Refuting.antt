-- Trees that are closed under choices which no full case has.
use Rattle.std.proofs.Common.{◌≡◌, ◌∙◌, sym, ap, refl, subst, ℕ, suc, ◌+◌, ◌<◌, inl, inr, Bool, true, false, ◌&&◌, List, [], ◌∷◌, ◌++◌, length, map, take, arith}
use Rattle.std.proofs.lemmas.Bool.{and_parts, and_from, or_cases, or_left, or_right, eq-eqb}
use Rattle.std.proofs.lemmas.Bool.Decides.{nat_tests}
use Rattle.std.proofs.lemmas.List.{length-map}
use Rattle.std.proofs.lemmas.List.Folds.{list_any-append}
use Rattle.std.proofs.lemmas.Option.{slice_get_within}
use Rattle.std.specs.Prelude.{Some, slice_get, nat_lt, nat_eq}
use Rattle.std.specs.List.{list_all}
use Rattle.std.specs.Option.{option_map_or}
use Rattle.ground_theory.specs.declared.literal.Clause.{Clause}
use Rattle.ground_theory.specs.declared.literal.Conflict.{Conflict}
use Rattle.ground_theory.specs.declared.literal.Frame.{Frame}
use Rattle.ground_theory.specs.declared.literal.Guard.{Guard}
use Rattle.ground_theory.specs.declared.literal.Literal.{Literal}
use Rattle.ground_theory.specs.Assignments.{satisfies}
use Rattle.ground_theory.specs.Forward.{guards_before}
use Rattle.ground_theory.specs.Leaves.{is_right_leaf}
use Rattle.ground_theory.proofs.Moving.{passes}
use Rattle.ground_theory.proofs.Widened.{right_leaves_exclude}
use Rattle.case_split.specs.declared.tree.CaseTree.{CaseTree, ind-CaseTree, roll-CaseTree, fold-roll-CaseTree, map-CaseTree}
use Rattle.case_split.specs.declared.tree.CaseTree.TheOpen.{CaseTree-F}
use Rattle.case_split.specs.declared.tree.CaseTree.TheVariants as variant
use Rattle.case_split.specs.Choices.{Choices, is_chosen, is_reached, is_way}
use Rattle.case_split.specs.Cases.{IsFullCase}
use Rattle.case_split.specs.Trees.{is_same_guard, is_among, are_among, literals_at, Meaning, ways_closed, split_closed, closed_step, is_closed}
use Rattle.case_split.specs.inner.Entries.{Refutes}
use Rattle.case_split.proofs.Closed.{among_passes, all_among_pass, all_cited_pass, choice_at, reached_earlier, chosen_is, way_of, if_true}
use Rattle.case_split.proofs.Places.{there}

-- a tree from its parts
pub split_rolls : (number : ℕ) (ts : List CaseTree) → roll-CaseTree (CaseTree-F.Split number ts) ≡ variant.Split number ts
unfolding roll-CaseTree denote.Hole.Carrier.roll
split_rolls number ts = refl

pub leaf_rolls : (conflict : Conflict) (chosen : List Guard) → roll-CaseTree (CaseTree-F.Leaf conflict chosen) ≡ variant.Leaf conflict chosen
unfolding roll-CaseTree denote.Hole.Carrier.roll
leaf_rolls conflict chosen = refl

pub same_as_itself : (g : Guard) → is_same_guard g g ≡ true
same_as_itself g = and_from (nat_eq g.clause g.clause) (nat_eq g.way g.way) (eq-eqb g.clause g.clause refl) (eq-eqb g.way g.way refl)

pub all_then : {A : Type 0} (p q : A → Bool) → ((x : A) → p x ≡ true → q x ≡ true) → (xs : List A) → list_all p xs ≡ true → list_all q xs ≡ true
all_then p q more [] all = refl
all_then p q more (x ∷ xs) all =
    let parts = and_parts (p x) (list_all p xs) all in
    and_from (q x) (list_all q xs) (more x parts.0) (all_then p q more xs parts.1)

-- what is among the first is among the second
abbrev pub Within : List Guard → List Guard → Type 0
Within gs hs = (g : Guard) → is_among gs g ≡ true → is_among hs g ≡ true

pub within_behind : (gs hs : List Guard) (x : Guard) → Within gs hs → Within (x ∷ gs) (x ∷ hs)
within_behind gs hs x within g among = elim (or_cases (is_same_guard g x) (is_among gs g) among) [
  | inl here ↦ or_left (is_same_guard g x) (is_among hs g) here
  | inr later ↦ or_right (is_same_guard g x) (is_among hs g) (within g later)
]

pub within_next : (gs : List Guard) (x : Guard) → Within gs (x ∷ gs)
within_next gs x g among = or_right (is_same_guard g x) (is_among gs g) among

within_front : (gs hs : List Guard) (x : Guard) → Within gs hs → Within (gs ++ x ∷ []) (hs ++ x ∷ [])
within_front gs hs x within g among =
    list_any-append (is_same_guard g) hs (x ∷ []) ∙
    elim (or_cases (is_among gs g) (is_among (x ∷ []) g) (sym (list_any-append (is_same_guard g) gs (x ∷ [])) ∙ among)) [
      | inl old ↦ or_left (is_among hs g) (is_among (x ∷ []) g) (within g old)
      | inr new ↦ or_right (is_among hs g) (is_among (x ∷ []) g) new
    ]

within_turned : (gs : List Guard) (x : Guard) → Within (x ∷ gs) (gs ++ x ∷ [])
within_turned gs x g among =
    list_any-append (is_same_guard g) gs (x ∷ []) ∙
    elim (or_cases (is_same_guard g x) (is_among gs g) among) [
      | inl here ↦ or_right (is_among gs g) (is_among (x ∷ []) g) (or_left (is_same_guard g x) false here)
      | inr later ↦ or_left (is_among gs g) (is_among (x ∷ []) g) later
    ]

-- what passes of each guard among them passes of all
pub all_from_among : (p : Guard → Bool) (gs : List Guard) → ((g : Guard) → is_among gs g ≡ true → p g ≡ true) → list_all p gs ≡ true
all_from_among p [] each = refl
all_from_among p (g ∷ gs) each =
    and_from (p g) (list_all p gs) (each g (or_left (is_same_guard g g) (is_among gs g) (same_as_itself g)))
    (all_from_among p gs (λ h among. each h (or_right (is_same_guard h g) (is_among gs h) among)))

pub among_themselves : (gs : List Guard) → are_among gs gs ≡ true
among_themselves gs = all_from_among (is_among gs) gs (λ g among. among)

pub within_all : (p : Guard → Bool) (gs hs : List Guard) → Within gs hs → list_all p hs ≡ true → list_all p gs ≡ true
within_all p gs hs within all = all_from_among p gs (λ g among. among_passes p hs g all (within g among))

pub among_within : (gs hs those : List Guard) → Within gs hs → are_among gs those ≡ true → are_among hs those ≡ true
among_within gs hs those within among = all_then (is_among gs) (is_among hs) within those among

pub within_from : (gs hs : List Guard) → are_among hs gs ≡ true → Within gs hs
within_from gs hs all g among = among_passes (is_among hs) gs g all among

module _ (clauses : List Clause) (frame : Frame) where
  abbrev Grows : (List Guard → Bool) → Type 0
  Grows meaning = (gs hs : List Guard) → Within gs hs → meaning gs ≡ true → meaning hs ≡ true

  abbrev Part : Type 0
  Part = (t : CaseTree) × Grows (is_closed clauses frame t)

  abbrev trees : List Part → List CaseTree
  trees parts = map (λ (part : Part). part.0) parts

  ways_grow : (number way : ℕ) (parts : List Part) → Grows (ways_closed clauses frame number way (map (is_closed clauses frame) (trees parts)))
  ways_grow number way [] gs hs within closed = refl
  ways_grow number way (part ∷ parts) gs hs within closed =
      let g : Guard = record { clause = number; way = way } in
      let ts : List (Meaning clauses frame) = map (is_closed clauses frame) (trees parts) in
      let both = and_parts (is_closed clauses frame part.0 (gs ++ g ∷ [])) (ways_closed clauses frame number (suc way) ts gs) closed in
      and_from (is_closed clauses frame part.0 (hs ++ g ∷ [])) (ways_closed clauses frame number (suc way) ts hs)
      (part.1 (gs ++ g ∷ []) (hs ++ g ∷ []) (within_front gs hs g within) both.0) (ways_grow number (suc way) parts gs hs within both.1)

  split_grows : (number : ℕ) (parts : List Part) → Grows (closed_step clauses frame (CaseTree-F.Split number (map (is_closed clauses frame) (trees parts))))
  split_grows number parts gs hs within closed =
      let ts : List (Meaning clauses frame) = map (is_closed clauses frame) (trees parts) in
      let c = passes (split_closed clauses frame number ts gs) (slice_get clauses number) closed in
      let first = and_parts (are_among gs c.0.guards) (nat_eq (length ts) (length c.0.ways) && ways_closed clauses frame number 0 ts gs) c.2 in
      let second = and_parts (nat_eq (length ts) (length c.0.ways)) (ways_closed clauses frame number 0 ts gs) first.1 in
      ap (λ o. option_map_or (split_closed clauses frame number ts hs) o false) c.1 ∙
      and_from (are_among hs c.0.guards) (nat_eq (length ts) (length c.0.ways) && ways_closed clauses frame number 0 ts hs) (among_within gs hs c.0.guards within first.0)
      (and_from (nat_eq (length ts) (length c.0.ways)) (ways_closed clauses frame number 0 ts hs) second.0 (ways_grow number 0 parts gs hs within second.1))

  leaf_grows : (conflict : Conflict) (chosen : List Guard) → Grows (closed_step clauses frame (CaseTree-F.Leaf conflict chosen))
  leaf_grows conflict chosen gs hs within closed =
      let right = option_map_or (λ ls. is_right_leaf frame ls conflict.leaf) (literals_at clauses frame chosen) false in
      let parts = and_parts (are_among gs chosen) right closed in
      and_from (are_among hs chosen) right (among_within gs hs chosen within parts.0) parts.1

  at_layer : (y : CaseTree-F Part) → Grows (closed_step clauses frame (map-CaseTree CaseTree (Meaning clauses frame) (is_closed clauses frame) (map-CaseTree Part CaseTree (λ e. e.0) y)))
  at_layer (CaseTree-F.Leaf conflict chosen) = leaf_grows conflict chosen
  at_layer (CaseTree-F.Split number parts) = split_grows number parts

  -- a tree at its layer
  laid : (x : CaseTree-F CaseTree) (gs : List Guard) →
      is_closed clauses frame (roll-CaseTree x) gs ≡ closed_step clauses frame (map-CaseTree CaseTree (Meaning clauses frame) (is_closed clauses frame) x) gs
  laid x gs = ap (λ (m : Meaning clauses frame). m gs) (fold-roll-CaseTree (Meaning clauses frame) (closed_step clauses frame) x)

  rolled : (x : CaseTree-F CaseTree) → Grows (closed_step clauses frame (map-CaseTree CaseTree (Meaning clauses frame) (is_closed clauses frame) x)) →
      Grows (is_closed clauses frame (roll-CaseTree x))
  rolled x layer gs hs within closed = laid x hs ∙ layer gs hs within (sym (laid x gs) ∙ closed)

  pub grows : (t : CaseTree) → Grows (is_closed clauses frame t)
  grows = ind-CaseTree (λ t. Grows (is_closed clauses frame t)) (λ x y is. subst (λ z. Grows (is_closed clauses frame (roll-CaseTree z))) is (rolled (map-CaseTree Part CaseTree (λ e. e.0) y) (at_layer y)))

  -- a tree that is closed under choices is so under more
  pub refutes_more : (gs hs : List Guard) (t : CaseTree) → Within gs hs → Refutes clauses frame gs t → Refutes clauses frame hs t
  refutes_more gs hs t within refutes = record {
    closed = grows t gs hs within refutes.closed;
    excludes = λ full is has. refutes.excludes full is (within_all (is_chosen full) gs hs within has);
  }

  -- ---- leaves

  pub leaf_refutes : (gs chosen : List Guard) (conflict : Conflict) (ls : List Literal) → are_among gs chosen ≡ true → literals_at clauses frame chosen ≡ Some ls →
      is_right_leaf frame ls conflict.leaf ≡ true → Refutes clauses frame gs (roll-CaseTree (CaseTree-F.Leaf conflict chosen))
  leaf_refutes gs chosen conflict ls among at right = record {
    closed =
        laid (CaseTree-F.Leaf conflict chosen) gs ∙
        and_from (are_among gs chosen) (option_map_or (λ ls. is_right_leaf frame ls conflict.leaf) (literals_at clauses frame chosen) false) among
        (ap (λ o. option_map_or (λ ls. is_right_leaf frame ls conflict.leaf) o false) at ∙ right);
    excludes = λ full is has.
        let a = is.case.satisfied in
        let p : Literal → Bool = λ (l : Literal). satisfies a.assignment l.atom in
        let all : list_all p ls ≡ true = all_cited_pass clauses frame p full a.satisfied chosen ls at (all_among_pass (is_chosen full) gs chosen has among) in
        right_leaves_exclude frame ls conflict.leaf right (record { assignment = a.assignment; is = a.is; satisfied = all });
  }

  -- ---- splits

  -- a full case takes a way of a clause whose guards it has, where they name earlier clauses
  pub takes_way : (full : Choices) → IsFullCase clauses frame full → (k : ℕ) (c : Clause) → slice_get clauses k ≡ Some c → list_all (is_chosen full) c.guards ≡ true → guards_before k c ≡ true →
      (w : ℕ) × (slice_get full k ≡ Some (Some w)) × (nat_lt w (length c.ways) ≡ true)
  takes_way full is k c at reached before =
      let low : k < length full = subst (λ n. k < n) (sym is.full) (slice_get_within clauses k c at) in
      let x = there full k low in
      let earlier = reached_earlier full k c.guards reached before in
      let way = way_of c x.0 (if_true (is_reached (take k full) c) (is_way c x.0) _ earlier (choice_at [] clauses full k c x.0 is.case.legal at x.1)) in
      (way.0, x.1 ∙ ap Some way.1, way.2)

  all_closed : (number way : ℕ) (ts : List CaseTree) (gs : List Guard) →
      ((v w : ℕ) (t : CaseTree) → w ≡ way + v → slice_get ts v ≡ Some t → is_closed clauses frame t (gs ++ record { clause = number; way = w } ∷ []) ≡ true) →
      ways_closed clauses frame number way (map (is_closed clauses frame) ts) gs ≡ true
  all_closed number way [] gs each = refl
  all_closed number way (t ∷ ts) gs each =
      let same : way ≡ way + 0 = omega arith in
      and_from (is_closed clauses frame t (gs ++ record { clause = number; way = way } ∷ [])) (ways_closed clauses frame number (suc way) (map (is_closed clauses frame) ts) gs)
      (each 0 way t same refl) (all_closed number (suc way) ts gs (λ v w u is at. each (suc v) w u (omega arith) at))

  pub split_refutes : (gs : List Guard) (number : ℕ) (c : Clause) (ts : List CaseTree) → slice_get clauses number ≡ Some c → are_among gs c.guards ≡ true → guards_before number c ≡ true →
      length ts ≡ length c.ways → ((v : ℕ) (t : CaseTree) → slice_get ts v ≡ Some t → Refutes clauses frame (record { clause = number; way = v } ∷ gs) t) →
      Refutes clauses frame gs (roll-CaseTree (CaseTree-F.Split number ts))
  split_refutes gs number c ts at among before as_many each = record {
    closed =
        let ms : List (Meaning clauses frame) = map (is_closed clauses frame) ts in
        let count : length ms ≡ length ts = length-map ts (is_closed clauses frame) in
        laid (CaseTree-F.Split number ts) gs ∙
        (ap (λ o. option_map_or (split_closed clauses frame number ms gs) o false) at ∙
        and_from (are_among gs c.guards) (nat_eq (length ms) (length c.ways) && ways_closed clauses frame number 0 ms gs) among
        (and_from (nat_eq (length ms) (length c.ways)) (ways_closed clauses frame number 0 ms gs) (eq-eqb (length ms) (length c.ways) (count ∙ as_many))
        (all_closed number 0 ts gs
        (λ v w t is at.
        let same : w ≡ v = omega arith in
        subst (λ n. is_closed clauses frame t (gs ++ record { clause = number; way = n } ∷ []) ≡ true) (sym same)
        (grows t (record { clause = number; way = v } ∷ gs) (gs ++ record { clause = number; way = v } ∷ []) (within_turned gs (record { clause = number; way = v })) (each v t at).closed)))));
    excludes = λ full is has.
        let way = takes_way full is number c at (all_among_pass (is_chosen full) gs c.guards has among) before in
        let low : way.0 < length ts = grind (arith, nat_tests) in
        let t = there ts way.0 low in
        (each way.0 t.0 t.1).excludes full is
        (and_from (is_chosen full (record { clause = number; way = way.0 })) (list_all (is_chosen full) gs) (chosen_is full number way.0 way.0 way.1 refl) has);
  }

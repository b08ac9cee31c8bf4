-- Where a tree is closed under choices, no full case has them all: so where it is closed under none, there is no full case.
use Rattle.std.proofs.Common.{◌≡◌, ◌∙◌, sym, ap, ap₂, refl, subst, ℕ, zero, suc, ◌+◌, ◌<◌, inl, inr, Bool, true, false, ◌&&◌, List, [], ◌∷◌, ◌++◌, length, map, take, arith}
use Rattle.std.proofs.lemmas.Bool.{and_parts, and_from, or_cases, eqb-true}
use Rattle.std.proofs.lemmas.Bool.Decides.{nat_tests}
use Rattle.std.proofs.lemmas.List.{append_assoc, append-nil}
use Rattle.std.proofs.lemmas.List.Folds.{list_all-append}
use Rattle.std.proofs.lemmas.Option.{option_and_then_some, same_Some, slice_get_within}
use Rattle.std.specs.Prelude.{Option, Some, None, slice_get, nat_lt, nat_eq, option_and_then, if◌then◌else◌}
use Rattle.std.specs.List.{list_all}
use Rattle.std.specs.Option.{option_map_or}
use Rattle.ground_theory.specs.declared.literal.Clause.{Clause}
use Rattle.ground_theory.specs.declared.literal.Conflict.{Conflict}
use Rattle.ground_theory.specs.declared.literal.Frame.{Frame}
use Rattle.ground_theory.specs.declared.literal.Guard.{Guard}
use Rattle.ground_theory.specs.declared.literal.Literal.{Literal}
use Rattle.ground_theory.specs.Assignments.{satisfies}
use Rattle.ground_theory.specs.Leaves.{is_right_leaf}
use Rattle.case_split.specs.declared.tree.CaseTree.{CaseTree, ind-CaseTree, roll-CaseTree, fold-roll-CaseTree, map-CaseTree}
use Rattle.case_split.specs.declared.tree.CaseTree.TheOpen.{CaseTree-F}
use Rattle.case_split.specs.Choices.{Choices, takes, is_chosen, is_reached, is_way, is_choice, are_choices_behind, literal_of, literal_chosen, literals_of}
use Rattle.case_split.specs.Cases.{IsFullCase}
use Rattle.case_split.specs.Trees.{is_same_guard, is_among, are_among, literal_at, literals_at, Meaning, ways_closed, split_closed, closed_step, is_closed}
use Rattle.ground_theory.specs.Forward.{guards_before, are_forward, are_forward_from}
use Rattle.ground_theory.proofs.Moving.{passes}
use Rattle.ground_theory.proofs.Widened.{right_leaves_exclude}
use Rattle.case_split.proofs.Places.{there, take_at}

-- ---- guards

pub same_guard : (a b : Guard) → is_same_guard a b ≡ true → a ≡ b
same_guard a b same =
    let parts = and_parts (nat_eq a.clause b.clause) (nat_eq a.way b.way) same in
    ap₂ (λ clause way. record { clause = clause; way = way }) (eqb-true a.clause b.clause parts.0) (eqb-true a.way b.way parts.1)

-- what passes of all guards passes of one among them
pub among_passes : (p : Guard → Bool) (guards : List Guard) (g : Guard) → list_all p guards ≡ true → is_among guards g ≡ true → p g ≡ true
among_passes p [] g all among = cc
among_passes p (h ∷ hs) g all among =
    let parts = and_parts (p h) (list_all p hs) all in
    elim (or_cases (is_same_guard g h) (is_among hs g) among) [
      | inl here ↦ ap p (same_guard g h here) ∙ parts.0
      | inr later ↦ among_passes p hs g parts.1 later
    ]

pub all_among_pass : (p : Guard → Bool) (guards those : List Guard) → list_all p guards ≡ true → are_among guards those ≡ true → list_all p those ≡ true
all_among_pass p guards [] all among = refl
all_among_pass p guards (g ∷ gs) all among =
    let parts = and_parts (is_among guards g) (are_among guards gs) among in
    and_from (p g) (list_all p gs) (among_passes p guards g all parts.0) (all_among_pass p guards gs all parts.1)

-- ---- choices

pub choice_at : (earlier : Choices) (cs : List Clause) (xs : Choices) (k : ℕ) (c : Clause) (x : Option ℕ) → are_choices_behind earlier cs xs ≡ true →
    slice_get cs k ≡ Some c → slice_get xs k ≡ Some x → is_choice (earlier ++ take k xs) c x ≡ true
choice_at earlier [] xs k c x legal at chosen = cc
choice_at earlier (d ∷ ds) [] k c x legal at chosen = cc
choice_at earlier (d ∷ ds) (y ∷ ys) zero c x legal at chosen =
    let parts = and_parts (is_choice earlier d y) (are_choices_behind (earlier ++ y ∷ []) ds ys) legal in
    subst (λ (front : Choices). is_choice front c x ≡ true) (sym (append-nil earlier))
    (subst (λ (d : Clause). is_choice earlier d x ≡ true) (same_Some d c at) (subst (λ (y : Option ℕ). is_choice earlier d y ≡ true) (same_Some y x chosen) parts.0))
choice_at earlier (d ∷ ds) (y ∷ ys) (suc k) c x legal at chosen =
    let parts = and_parts (is_choice earlier d y) (are_choices_behind (earlier ++ y ∷ []) ds ys) legal in
    subst (λ (front : Choices). is_choice front c x ≡ true) (append_assoc earlier (y ∷ []) (take k ys)) (choice_at (earlier ++ y ∷ []) ds ys k c x parts.1 at chosen)

chosen_earlier : (full : Choices) (k : ℕ) (g : Guard) → is_chosen full g ≡ true → nat_lt g.clause k ≡ true → is_chosen (take k full) g ≡ true
chosen_earlier full k g chosen before =
    let low : g.clause < k = grind (arith, nat_tests) in
    ap (λ o. option_map_or (takes g.way) o false) (take_at full k g.clause low) ∙ chosen

pub reached_earlier : (full : Choices) (k : ℕ) (gs : List Guard) → list_all (is_chosen full) gs ≡ true → list_all (λ (g : Guard). nat_lt g.clause k) gs ≡ true →
    list_all (is_chosen (take k full)) gs ≡ true
reached_earlier full k [] chosen before = refl
reached_earlier full k (g ∷ gs) chosen before =
    let here = and_parts (is_chosen full g) (list_all (is_chosen full) gs) chosen in
    let low = and_parts (nat_lt g.clause k) (list_all (λ (g : Guard). nat_lt g.clause k) gs) before in
    and_from (is_chosen (take k full) g) (list_all (is_chosen (take k full)) gs) (chosen_earlier full k g here.0 low.0) (reached_earlier full k gs here.1 low.1)

pub forward_at : (n : ℕ) (cs : List Clause) (k : ℕ) (c : Clause) → are_forward_from n cs ≡ true → slice_get cs k ≡ Some c → guards_before (n + k) c ≡ true
forward_at n [] k c forward at = cc
forward_at n (d ∷ ds) zero c forward at =
    let parts = and_parts (guards_before n d) (are_forward_from (suc n) ds) forward in
    let same : n + 0 ≡ n = omega arith in
    subst (λ m. guards_before m c ≡ true) (sym same) (subst (λ (d : Clause). guards_before n d ≡ true) (same_Some d c at) parts.0)
forward_at n (d ∷ ds) (suc k) c forward at =
    let parts = and_parts (guards_before n d) (are_forward_from (suc n) ds) forward in
    let same : suc n + k ≡ n + suc k = omega arith in
    subst (λ m. guards_before m c ≡ true) same (forward_at (suc n) ds k c parts.1 at)

same_number : (v w : ℕ) → v ≡ w → nat_eq v w ≡ true
same_number v w same = grind (arith, nat_tests)

pub chosen_is : (full : Choices) (k v w : ℕ) → slice_get full k ≡ Some (Some w) → v ≡ w → is_chosen full (record { clause = k; way = v }) ≡ true
chosen_is full k v w at same = ap (λ o. option_map_or (takes v) o false) at ∙ same_number v w same

pub way_of : (c : Clause) (x : Option ℕ) → is_way c x ≡ true → (w : ℕ) × (x ≡ Some w) × (nat_lt w (length c.ways) ≡ true)
way_of c None is = cc
way_of c (Some w) is = (w, refl, is)

pub if_true : (b p q : Bool) → b ≡ true → (if b then p else q) ≡ true → p ≡ true
if_true true p q is h = h
if_true false p q is h = cc

module _ (clauses : List Clause) (frame : Frame) (forward : are_forward clauses ≡ true) where
  -- a full case takes a way of a clause whose guards it has
  pub way_taken : (full : Choices) → IsFullCase clauses frame full → (k : ℕ) (c : Clause) → slice_get clauses k ≡ Some c → list_all (is_chosen full) c.guards ≡ true →
      (w : ℕ) × (slice_get full k ≡ Some (Some w)) × (nat_lt w (length c.ways) ≡ true)
  way_taken full is k c at reached =
      let low : k < length full = subst (λ n. k < n) (sym is.full) (slice_get_within clauses k c at) in
      let x = there full k low in
      let same : 0 + k ≡ k = omega arith in
      let earlier = reached_earlier full k c.guards reached (subst (λ n. guards_before n c ≡ true) same (forward_at 0 clauses k c forward at)) in
      let way = way_of c x.0 (if_true (is_reached (take k full) c) (is_way c x.0) _ earlier (choice_at [] clauses full k c x.0 is.case.legal at x.1)) in
      (way.0, x.1 ∙ ap Some way.1, way.2)

-- ---- literals

module _ (p : Literal → Bool) where
  pub literal_passes : (cs : List Clause) (xs : Choices) (k : ℕ) (c : Clause) (w : ℕ) (l : Literal) → slice_get cs k ≡ Some c → slice_get xs k ≡ Some (Some w) →
      literal_of c w ≡ Some l → list_all p (literals_of cs xs) ≡ true → p l ≡ true
  literal_passes [] xs k c w l at chosen is all = cc
  literal_passes (d ∷ ds) [] k c w l at chosen is all = cc
  literal_passes (d ∷ ds) (y ∷ ys) zero c w l at chosen is all =
      let parts = and_parts (list_all p (literal_chosen d y)) (list_all p (literals_of ds ys)) (sym (list_all-append p (literal_chosen d y) (literals_of ds ys)) ∙ all) in
      let here : list_all p (literal_chosen c (Some w)) ≡ true =
      subst (λ (d : Clause). list_all p (literal_chosen d (Some w)) ≡ true) (same_Some d c at)
      (subst (λ (y : Option ℕ). list_all p (literal_chosen d y) ≡ true) (same_Some y (Some w) chosen) parts.0) in
      let one : list_all p (l ∷ []) ≡ true = subst (λ (o : Option Literal). list_all p (option_map_or (λ literal. literal ∷ []) o []) ≡ true) is here in
      (and_parts (p l) true one).0
  literal_passes (d ∷ ds) (y ∷ ys) (suc k) c w l at chosen is all =
      let parts = and_parts (list_all p (literal_chosen d y)) (list_all p (literals_of ds ys)) (sym (list_all-append p (literal_chosen d y) (literals_of ds ys)) ∙ all) in
      literal_passes ds ys k c w l at chosen is parts.1

module _ (clauses : List Clause) (frame : Frame) (p : Literal → Bool) (full : Choices) (all : list_all p (literals_of clauses full) ≡ true) where
  pub cited_passes : (g : Guard) (l : Literal) → literal_at clauses frame g ≡ Some l → is_chosen full g ≡ true → p l ≡ true
  cited_passes g l is chosen =
      option_and_then_some (λ clause. literal_of clause g.way) (slice_get clauses g.clause) l is
      (λ c at way.
      let x = passes (takes g.way) (slice_get full g.clause) chosen in
      let w = passes (nat_eq g.way) x.0 x.2 in
      let same : g.way ≡ w.0 = eqb-true g.way w.0 w.2 in
      literal_passes p clauses full g.clause c g.way l at (x.1 ∙ (ap Some w.1 ∙ ap (λ n. Some (Some n)) (sym same))) way all)

  pub all_cited_pass : (gs : List Guard) (ls : List Literal) → literals_at clauses frame gs ≡ Some ls → list_all (is_chosen full) gs ≡ true → list_all p ls ≡ true
  all_cited_pass [] ls is chosen = subst (λ (ls : List Literal). list_all p ls ≡ true) (same_Some [] ls is) refl
  all_cited_pass (g ∷ gs) ls is chosen =
      let parts = and_parts (is_chosen full g) (list_all (is_chosen full) gs) chosen in
      option_and_then_some (λ l. option_and_then (λ rest. Some (l ∷ rest)) (literals_at clauses frame gs)) (literal_at clauses frame g) ls is
      (λ l here more.
      option_and_then_some (λ rest. Some (l ∷ rest)) (literals_at clauses frame gs) ls more
      (λ rest there same.
      subst (λ (ls : List Literal). list_all p ls ≡ true) (same_Some (l ∷ rest) ls same)
      (and_from (p l) (list_all p rest) (cited_passes g l here parts.0) (all_cited_pass gs rest there parts.1))))

-- ---- trees

module _ (clauses : List Clause) (frame : Frame) where
  way_closed : (number way : ℕ) (ts : List (Meaning clauses frame)) (guards : List Guard) (i : ℕ) (t : Meaning clauses frame) →
      ways_closed clauses frame number way ts guards ≡ true → slice_get ts i ≡ Some t → t (guards ++ record { clause = number; way = way + i } ∷ []) ≡ true
  way_closed number way [] guards i t closed at = cc
  way_closed number way (u ∷ us) guards zero t closed at =
      let parts = and_parts (u (guards ++ record { clause = number; way = way } ∷ [])) (ways_closed clauses frame number (suc way) us guards) closed in
      let same : way ≡ way + 0 = omega arith in
      subst (λ n. t (guards ++ record { clause = number; way = n } ∷ []) ≡ true) same
      (subst (λ (u : Meaning clauses frame). u (guards ++ record { clause = number; way = way } ∷ []) ≡ true) (same_Some u t at) parts.0)
  way_closed number way (u ∷ us) guards (suc i) t closed at =
      let parts = and_parts (u (guards ++ record { clause = number; way = way } ∷ [])) (ways_closed clauses frame number (suc way) us guards) closed in
      let same : suc way + i ≡ way + suc i = omega arith in
      subst (λ n. t (guards ++ record { clause = number; way = n } ∷ []) ≡ true) same (way_closed number (suc way) us guards i t parts.1 at)

module _ (clauses : List Clause) (frame : Frame) (forward : are_forward clauses ≡ true) where
  abbrev Excludes : (List Guard → Bool) → Type 0
  Excludes meaning = (guards : List Guard) → meaning guards ≡ true → (full : Choices) → IsFullCase clauses frame full → list_all (is_chosen full) guards ≡ true → ⊥

  abbrev Closes : CaseTree → Type 0
  Closes tree = Excludes (is_closed clauses frame tree)

  abbrev Part : Type 0
  Part = (t : CaseTree) × Closes t

  abbrev trees : List Part → List CaseTree
  trees parts = map (λ (part : Part). part.0) parts

  leaf_closes : (conflict : Conflict) (chosen : List Guard) → Excludes (closed_step clauses frame (CaseTree-F.Leaf conflict chosen))
  leaf_closes conflict chosen guards closed full is has =
      let parts = and_parts (are_among guards chosen) (option_map_or (λ ls. is_right_leaf frame ls conflict.leaf) (literals_at clauses frame chosen) false) closed in
      let ls = passes (λ ls. is_right_leaf frame ls conflict.leaf) (literals_at clauses frame chosen) parts.1 in
      let a = is.case.satisfied in
      let p : Literal → Bool = λ (l : Literal). satisfies a.assignment l.atom in
      let all : list_all p ls.0 ≡ true = all_cited_pass clauses frame p full a.satisfied chosen ls.0 ls.1 (all_among_pass (is_chosen full) guards chosen has parts.0) in
      right_leaves_exclude frame ls.0 conflict.leaf ls.2 (record { assignment = a.assignment; is = a.is; satisfied = all })

  -- the part at a place of the trees
  part_at : (parts : List Part) (i : ℕ) → i < length (map (is_closed clauses frame) (trees parts)) →
      (t : CaseTree) × Closes t × (slice_get (map (is_closed clauses frame) (trees parts)) i ≡ Some (is_closed clauses frame t))
  part_at [] i low = absurd (omega arith)
  part_at (part ∷ parts) zero low = (part.0, part.1, refl)
  part_at (part ∷ parts) (suc i) low = part_at parts i (omega arith)

  split_closes : (number : ℕ) (parts : List Part) → Excludes (closed_step clauses frame (CaseTree-F.Split number (map (is_closed clauses frame) (trees parts))))
  split_closes number parts guards closed full is has =
      let ts : List (Meaning clauses frame) = map (is_closed clauses frame) (trees parts) in
      let c = passes (split_closed clauses frame number ts guards) (slice_get clauses number) closed in
      let first = and_parts (are_among guards c.0.guards) (nat_eq (length ts) (length c.0.ways) && ways_closed clauses frame number 0 ts guards) c.2 in
      let second = and_parts (nat_eq (length ts) (length c.0.ways)) (ways_closed clauses frame number 0 ts guards) first.1 in
      let way = way_taken clauses frame forward full is number c.0 c.1 (all_among_pass (is_chosen full) guards c.0.guards has first.0) in
      let low : way.0 < length ts = grind (arith, nat_tests) in
      let t = part_at parts way.0 low in
      let same : 0 + way.0 ≡ way.0 = omega arith in
      let added : Guard = record { clause = number; way = 0 + way.0 } in
      let here : is_chosen full added ≡ true = chosen_is full number (0 + way.0) way.0 way.1 same in
      t.1 (guards ++ added ∷ []) (way_closed clauses frame number 0 ts guards way.0 (is_closed clauses frame t.0) second.1 t.2) full is
      (list_all-append (is_chosen full) guards (added ∷ []) ∙ and_from (list_all (is_chosen full) guards) (is_chosen full added && true) has (and_from (is_chosen full added) true here refl))

  at_layer : (y : CaseTree-F Part) → Excludes (closed_step clauses frame (map-CaseTree CaseTree (Meaning clauses frame) (is_closed clauses frame) (map-CaseTree Part CaseTree (λ e. e.0) y)))
  at_layer (CaseTree-F.Leaf conflict chosen) = leaf_closes conflict chosen
  at_layer (CaseTree-F.Split number parts) = split_closes number parts

  rolled : (x : CaseTree-F CaseTree) → Excludes (closed_step clauses frame (map-CaseTree CaseTree (Meaning clauses frame) (is_closed clauses frame) x)) → Closes (roll-CaseTree x)
  rolled x layer guards closed = layer guards (sym (ap (λ (m : Meaning clauses frame). m guards) (fold-roll-CaseTree (Meaning clauses frame) (closed_step clauses frame) x)) ∙ closed)

  pub closes : (tree : CaseTree) → Closes tree
  closes = ind-CaseTree Closes (λ x y is. subst (λ z. Closes (roll-CaseTree z)) is (rolled (map-CaseTree Part CaseTree (λ e. e.0) y) (at_layer y)))

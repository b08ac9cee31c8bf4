-- The clauses of one more node, sentence or stage.
use Rattle.std.proofs.Common.{◌≡◌, ◌∙◌, sym, ap, ap₂, refl, subst, ℕ, ◌+◌, ◌<◌, ◌≤◌, Bool, true, false, List, [], ◌∷◌, ◌++◌, length, map, take, get_or, append-nil, append_assoc, arith}
use Rattle.std.proofs.lemmas.Bool.Decides.{nat_tests}
use Rattle.std.proofs.lemmas.List.{map-append, length-map, length-take, take_more}
use Rattle.std.proofs.lemmas.List.Concat.{flat_map-append}
use Rattle.std.proofs.lemmas.Option.{same_Some, slice_get_read, slice_get_within, get_or_from_slice_get}
use Rattle.std.specs.Prelude.{Some, slice_get, nat_eq, if◌then◌else◌}
use Rattle.std.specs.List.{flat_map}
use Rattle.sorted_skolem.specs.declared.term.RowTerm.{RowTerm}
use Rattle.sorted_skolem.specs.Preorder.{Node, forall_tables}
use Rattle.sorted_skolem.specs.Terms.{numbered, term_lists}
use Rattle.sorted_skolem.proofs.Among.{numbered_is, numbered_append}
use Rattle.ground_theory.specs.declared.literal.Clause.{Clause}
use Rattle.instantiate.specs.Keys.{Key, stage_of, keys_at}
use Rattle.instantiate.specs.declared.outline.FlatNode.{FlatNode}
use Rattle.instantiate.specs.inner.Flat.{node_of}
use Rattle.instantiate.specs.declared.listing.Listing.{Listing}
use Rattle.instantiate.specs.declared.spots.Spot.{Spot}
use Rattle.instantiate.specs.inner.Listings.{clauses_at, node_clauses, sentence_clauses, stage_clauses}
use Rattle.instantiate.specs.inner.Spots.{saturated, spot_of}
use Rattle.instantiate.proofs.Layers.{at_map}
use Rattle.instantiate.proofs.Numbering.{key_of}

module _ {A : Type 0} where
  numbered_more : (xs : List A) (x : A) → numbered (xs ++ x ∷ []) ≡ numbered xs ++ (length xs, x) ∷ []
  numbered_more xs x =
      let none : 0 + length xs ≡ length xs = omega arith in
      numbered_is (xs ++ x ∷ [])
      ∙ (numbered_append xs (x ∷ []) 0
      ∙ ap₂ (λ ps n. ps ++ (n, x) ∷ []) (sym (numbered_is xs)) none)

module _ {A B : Type 0} where
  flat_more : (f : ℕ × A → List B) (xs : List A) (x : A) → flat_map f (numbered (xs ++ x ∷ [])) ≡ flat_map f (numbered xs) ++ f (length xs, x)
  flat_more f xs x =
      ap (flat_map f) (numbered_more xs x)
      ∙ (flat_map-append f (numbered xs) ((length xs, x) ∷ [])
      ∙ ap (λ ys. flat_map f (numbered xs) ++ ys) (append-nil (f (length xs, x))))

module _ {A : Type 0} where
  -- the list as far as one more element
  pub taken : (xs : List A) (i : ℕ) (x : A) → slice_get xs i ≡ Some x → take (i + 1) xs ≡ take i xs ++ x ∷ []
  taken xs i x at =
      take_more xs i x (slice_get_within xs i x at) ∙ ap (λ y. take i xs ++ y ∷ []) (get_or_from_slice_get xs i x x at)

  pub taken_count : (xs : List A) (i : ℕ) → i < length xs → length (take i xs) ≡ i
  taken_count xs i low = let e = length-take i xs in omega arith

module _ (l : Listing) where
  abbrev keys_here : ℕ → ℕ → ℕ × Node → List Key
  keys_here stage sentence n = keys_at l.order.now l.terms.now stage sentence n

  sentence_added : (stage sentence : ℕ) (xs : List Node) (x : Node) → sentence_clauses l stage sentence (xs ++ x ∷ []) ≡ sentence_clauses l stage sentence xs ++ clauses_at l (keys_here stage sentence (length xs, x))
  sentence_added stage sentence xs x =
      ap (clauses_at l) (flat_more (keys_here stage sentence) xs x)
      ∙ map-append _ (flat_map (keys_here stage sentence) (numbered xs)) (keys_here stage sentence (length xs, x))

  -- the clauses of a node, where it has the stage
  abbrev own : Node → Spot
  own x = spot_of l.order.now l.terms.now x

  node_here : (stage sentence n : ℕ) (x : Node) → (own x).stage ≡ stage → clauses_at l (keys_here stage sentence (n, x)) ≡ node_clauses l sentence n (forall_tables x)
  node_here stage sentence n x is = by (nat_eq (stage_of l.order.now (forall_tables x)) stage) refl
    where
      by : (b : Bool) → nat_eq (stage_of l.order.now (forall_tables x)) stage ≡ b →
          clauses_at l (if b then map (key_of sentence n) (term_lists l.terms.now (forall_tables x)) else []) ≡ node_clauses l sentence n (forall_tables x)
      by true same = refl
      by false same = absurd (grind (arith, nat_tests))

  node_other : (stage sentence n : ℕ) (x : Node) → ((own x).stage ≡ stage → ⊥) → clauses_at l (keys_here stage sentence (n, x)) ≡ []
  node_other stage sentence n x never = by (nat_eq (stage_of l.order.now (forall_tables x)) stage) refl
    where
      by : (b : Bool) → nat_eq (stage_of l.order.now (forall_tables x)) stage ≡ b → clauses_at l (if b then map (key_of sentence n) (term_lists l.terms.now (forall_tables x)) else []) ≡ []
      by true same = absurd (never (grind (arith, nat_tests)))
      by false same = refl

  none_listed : (lists : List (List ℕ)) (sentence n : ℕ) → saturated (length lists) ≤ 0 → clauses_at l (map (key_of sentence n) lists) ≡ []
  none_listed [] sentence n low = refl
  none_listed (rows ∷ lists) sentence n low = absurd (omega arith)

  node_none : (stage sentence n : ℕ) (x : Node) → (own x).count ≤ 0 → clauses_at l (keys_here stage sentence (n, x)) ≡ []
  node_none stage sentence n x none = by (nat_eq (stage_of l.order.now (forall_tables x)) stage)
    where
      by : (b : Bool) → clauses_at l (if b then map (key_of sentence n) (term_lists l.terms.now (forall_tables x)) else []) ≡ []
      by true = none_listed (term_lists l.terms.now (forall_tables x)) sentence n none
      by false = refl

  module _ (stage sentence n : ℕ) (nodes : List Node) (x : Node) (at : slice_get nodes n ≡ Some x) where
    one_more : sentence_clauses l stage sentence (take (n + 1) nodes) ≡ sentence_clauses l stage sentence (take n nodes) ++ clauses_at l (keys_here stage sentence (n, x))
    one_more =
        ap (sentence_clauses l stage sentence) (taken nodes n x at)
        ∙ (sentence_added stage sentence (take n nodes) x
        ∙ ap (λ m. sentence_clauses l stage sentence (take n nodes) ++ clauses_at l (keys_here stage sentence (m, x))) (taken_count nodes n (slice_get_within nodes n x at)))

    -- with its clauses
    pub node_more : (before now after : List Clause) (spot : Spot) → spot ≡ own x → spot.stage ≡ stage → now ≡ before ++ sentence_clauses l stage sentence (take n nodes) →
        after ≡ now ++ node_clauses l sentence n spot.tables → after ≡ before ++ sentence_clauses l stage sentence (take (n + 1) nodes)
    node_more before now after spot is of_stage so_far added =
        added
        ∙ (ap₂ (λ cs ts. cs ++ node_clauses l sentence n ts) so_far (ap (λ (s : Spot). s.tables) is)
        ∙ (append_assoc before (sentence_clauses l stage sentence (take n nodes)) (node_clauses l sentence n (forall_tables x))
        ∙ ap (λ cs. before ++ cs)
        (ap (λ cs. sentence_clauses l stage sentence (take n nodes) ++ cs) (sym (node_here stage sentence n x (sym (ap (λ (s : Spot). s.stage) is) ∙ of_stage))) ∙ sym one_more)))

    without : clauses_at l (keys_here stage sentence (n, x)) ≡ [] → (before now : List Clause) → now ≡ before ++ sentence_clauses l stage sentence (take n nodes) → now ≡ before ++ sentence_clauses l stage sentence (take (n + 1) nodes)
    without none before now so_far =
        so_far
        ∙ ap (λ cs. before ++ cs) (sym (append-nil (sentence_clauses l stage sentence (take n nodes))) ∙ (ap (λ cs. sentence_clauses l stage sentence (take n nodes) ++ cs) (sym none) ∙ sym one_more))

    -- or without
    pub node_passed : (before now : List Clause) (spot : Spot) → spot ≡ own x → (spot.stage ≡ stage → ⊥) → now ≡ before ++ sentence_clauses l stage sentence (take n nodes) →
        now ≡ before ++ sentence_clauses l stage sentence (take (n + 1) nodes)
    node_passed before now spot is never so_far = without (node_other stage sentence n x (λ same. never (ap (λ (s : Spot). s.stage) is ∙ same))) before now so_far

    pub node_empty : (before now : List Clause) (spot : Spot) → spot ≡ own x → spot.count ≤ 0 → now ≡ before ++ sentence_clauses l stage sentence (take n nodes) →
        now ≡ before ++ sentence_clauses l stage sentence (take (n + 1) nodes)
    node_empty before now spot is none so_far = without (node_none stage sentence n x (subst (λ (s : Spot). s.count ≤ 0) is none)) before now so_far

  -- one more sentence
  pub sentence_more : (stage sentence : ℕ) (outlines : List (List Node)) (nodes : List Node) → slice_get outlines sentence ≡ Some nodes →
      stage_clauses l stage (take (sentence + 1) outlines) ≡ stage_clauses l stage (take sentence outlines) ++ sentence_clauses l stage sentence nodes
  sentence_more stage sentence outlines nodes at =
      let f : ℕ × List Node → List Key = λ s. flat_map (keys_here stage s.0) (numbered s.1) in
      ap (stage_clauses l stage) (taken outlines sentence nodes at)
      ∙ (ap (clauses_at l) (flat_more f (take sentence outlines) nodes)
      ∙ (map-append _ (flat_map f (numbered (take sentence outlines))) (f (length (take sentence outlines), nodes))
      ∙ ap (λ n. stage_clauses l stage (take sentence outlines) ++ sentence_clauses l stage n nodes) (taken_count outlines sentence (slice_get_within outlines sentence nodes at))))

-- ---- items as the code reads them

pub item_at : (nodes : List FlatNode) (n : ℕ) (node : FlatNode) → n < length nodes → node ≡ get_or nodes n node → slice_get (map node_of nodes) n ≡ Some (node_of node)
item_at nodes n node low is = at_map node_of nodes n node (slice_get_read nodes (length nodes) n node refl low is)

pub list_at : (outlines : List (List FlatNode)) (s : ℕ) (nodes : List FlatNode) → s < length outlines → nodes ≡ get_or outlines s nodes → slice_get (map (map node_of) outlines) s ≡ Some (map node_of nodes)
list_at outlines s nodes low is = at_map (map node_of) outlines s nodes (slice_get_read outlines (length outlines) s nodes refl low is)

pub spots_count : (order : List ℕ) (terms : List RowTerm) (nodes : List FlatNode) (spots : List Spot) → spots ≡ map (spot_of order terms) (map node_of nodes) → length spots ≡ length nodes
spots_count order terms nodes spots is = ap length is ∙ (length-map (map node_of nodes) (spot_of order terms) ∙ length-map nodes node_of)

pub spot_is : (order : List ℕ) (terms : List RowTerm) (nodes : List FlatNode) (spots : List Spot) (n : ℕ) (node : FlatNode) (spot : Spot) → spots ≡ map (spot_of order terms) (map node_of nodes) →
    n < length nodes → node ≡ get_or nodes n node → spot ≡ get_or spots n spot → spot ≡ spot_of order terms (node_of node)
spot_is order terms nodes spots n node spot are low is is' =
    let count = spots_count order terms nodes spots are in
    same_Some spot (spot_of order terms (node_of node))
    (sym (slice_get_read spots (length spots) n spot refl (omega arith) is')
    ∙ (ap (λ ss. slice_get ss n) are ∙ at_map (spot_of order terms) (map node_of nodes) n (node_of node) (item_at nodes n node low is)))

pub all_spots_count : (order : List ℕ) (terms : List RowTerm) (outlines : List (List FlatNode)) (all : List (List Spot)) → all ≡ map (map (spot_of order terms)) (map (map node_of) outlines) → length all ≡ length outlines
all_spots_count order terms outlines all is = ap length is ∙ (length-map (map (map node_of) outlines) (map (spot_of order terms)) ∙ length-map outlines (map node_of))

pub spots_are : (order : List ℕ) (terms : List RowTerm) (outlines : List (List FlatNode)) (all : List (List Spot)) (s : ℕ) (nodes : List FlatNode) (spots : List Spot) →
    all ≡ map (map (spot_of order terms)) (map (map node_of) outlines) → s < length outlines → nodes ≡ get_or outlines s nodes → spots ≡ get_or all s spots → spots ≡ map (spot_of order terms) (map node_of nodes)
spots_are order terms outlines all s nodes spots are low is is' =
    let count = all_spots_count order terms outlines all are in
    same_Some spots (map (spot_of order terms) (map node_of nodes))
    (sym (slice_get_read all (length all) s spots refl (omega arith) is')
    ∙ (ap (λ ss. slice_get ss s) are ∙ at_map (map (spot_of order terms)) (map (map node_of) outlines) s (map node_of nodes) (list_at outlines s nodes low is)))

-- those of one more sentence
pub sentences_added : (l : Listing) (stage sentence : ℕ) (outlines : List (List Node)) (nodes : List Node) (before now after : List Clause) → slice_get outlines sentence ≡ Some nodes →
    now ≡ before ++ stage_clauses l stage (take sentence outlines) → after ≡ now ++ sentence_clauses l stage sentence nodes → after ≡ before ++ stage_clauses l stage (take (sentence + 1) outlines)
sentences_added l stage sentence outlines nodes before now after at so_far added =
    added
    ∙ (ap (λ cs. cs ++ sentence_clauses l stage sentence nodes) so_far
    ∙ (append_assoc before (stage_clauses l stage (take sentence outlines)) (sentence_clauses l stage sentence nodes)
    ∙ ap (λ cs. before ++ cs) (sym (sentence_more l stage sentence outlines nodes at))))

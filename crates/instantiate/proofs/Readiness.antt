-- What the code counts is how many keys there are; and the bases and steps that it keeps give the number of each key.
use Rattle.std.proofs.Common.{◌≡◌, ◌∙◌, sym, ap, ap₂, refl, subst, ℕ, ◌+◌, ◌*◌, ◌-◌, ◌^◌, ◌<◌, ◌≤◌, Bool, true, false, List, [], ◌∷◌, ◌++◌, length, map, min, take, get_or, add-one, arith}
use Rattle.std.proofs.lemmas.List.{map-append, take-map, take_more}
use Rattle.std.proofs.lemmas.List.Sums.{sum_by-cons}
use Rattle.std.proofs.lemmas.Option.{slice_get_within, get_or_from_slice_get}
use Rattle.std.specs.Prelude.{Option, Some, None, slice_get, nat_eq, if◌then◌else◌, unwrap_or, option_and_then}
use Rattle.std.specs.List.{All, sum_by}
use Rattle.lint_core.specs.declared.schema.Column.{Column}
use Rattle.lint_core.specs.declared.schema.Domain.{Domain}
use Rattle.lint_core.specs.declared.schema.Table.{Table}
use Rattle.lint_core.specs.Database.{below}
use Rattle.sort_formula.specs.declared.formula.Formula.{Formula}
use Rattle.sort_formula.specs.Sentences.{is_sentence}
use Rattle.sorted_skolem.specs.declared.term.RowTerm.{RowTerm}
use Rattle.sorted_skolem.specs.Graph.{IsOrder}
use Rattle.sorted_skolem.specs.Preorder.{Node, outlines_of, node_at, forall_tables}
use Rattle.sorted_skolem.specs.Terms.{row_terms, term_lists}
use Rattle.sorted_skolem.proofs.Among.{among_at}
use Rattle.sorted_skolem.proofs.RowTerms.{AreRows}
use Rattle.instantiate.specs.Keys.{Key, number_of}
use Rattle.instantiate.specs.Ground.{keys, domains_of}
use Rattle.instantiate.specs.declared.listing.Listing.{Listing}
use Rattle.instantiate.specs.declared.spots.Spot.{Spot}
use Rattle.instantiate.specs.inner.Bases.{node_base, HaveBases}
use Rattle.instantiate.specs.inner.Listings.{IsListing, outlines_in, keys_for}
use Rattle.instantiate.specs.inner.Spots.{saturated, spot_of, size_at, sentence_size, stage_size, size_before}
use Rattle.instantiate.specs.inner.Steps.{step_of, index_along}
use Rattle.instantiate.proofs.AboveKeys.{stage_low}
use Rattle.instantiate.proofs.Layers.{at_map}
use Rattle.instantiate.proofs.Numbering.{key_of, key_placed}
use Rattle.instantiate.proofs.Positions.{stage_for, node_count, sentence_count, count_before, base_for, count_keys, key_stands, key_number}
use Rattle.instantiate.proofs.TermLists.{at_below, lists_at}

module _ {A : Type 0} where
  sums_alike : (f g : A → ℕ) → ((x : A) → saturated (f x) ≡ saturated (g x)) → (xs : List A) → saturated (sum_by f xs) ≡ saturated (sum_by g xs)
  sums_alike f g each [] = refl
  sums_alike f g each (x ∷ xs) =
      let one = sum_by-cons f x xs in
      let two = sum_by-cons g x xs in
      let here : min (f x) (2 ^ 64 - 1) ≡ min (g x) (2 ^ 64 - 1) = each x in
      let rest : min (sum_by f xs) (2 ^ 64 - 1) ≡ min (sum_by g xs) (2 ^ 64 - 1) = sums_alike f g each xs in
      ap saturated one ∙ (joined (f x) (g x) (sum_by f xs) (sum_by g xs) here rest ∙ ap saturated (sym two))
    where
      joined : (a b c d : ℕ) → min a (2 ^ 64 - 1) ≡ min b (2 ^ 64 - 1) → min c (2 ^ 64 - 1) ≡ min d (2 ^ 64 - 1) → min (a + c) (2 ^ 64 - 1) ≡ min (b + d) (2 ^ 64 - 1)
      joined a b c d same same' = omega arith

module _ {A B : Type 0} where
  sums_map : (f : B → ℕ) (h : A → B) (xs : List A) → sum_by f (map h xs) ≡ sum_by (λ x. f (h x)) xs
  sums_map f h [] = refl
  sums_map f h (x ∷ xs) = sum_by-cons f (h x) (map h xs) ∙ (ap (λ n. f (h x) + n) (sums_map f h xs) ∙ sym (sum_by-cons (λ x. f (h x)) x xs))

module _ (outlines : List (List Node)) (order : List ℕ) (terms : List RowTerm) where
  abbrev own : Node → Spot
  own x = spot_of order terms x

  size_is : (stage : ℕ) (x : Node) → size_at stage (own x) ≡ saturated (node_count outlines order terms stage x)
  size_is stage x = by (nat_eq (stage_for outlines order terms x) stage)
    where
      by : (b : Bool) → (if b then saturated (length (term_lists terms (forall_tables x))) else 0) ≡ saturated (if b then length (term_lists terms (forall_tables x)) else 0)
      by true = refl
      by false = refl

  saturated_once : (n : ℕ) → saturated (saturated n) ≡ saturated n
  saturated_once n = omega arith

  sentence_is : (stage : ℕ) (nodes : List Node) → saturated (sentence_size stage (map own nodes)) ≡ saturated (sentence_count outlines order terms stage nodes)
  sentence_is stage nodes =
      ap saturated (sums_map (size_at stage) own nodes)
      ∙ sums_alike (λ x. size_at stage (own x)) (node_count outlines order terms stage) (λ x. ap saturated (size_is stage x) ∙ saturated_once (node_count outlines order terms stage x)) nodes

  sentences_are : (stage : ℕ) (some : List (List Node)) → saturated (stage_size (map (map own) some) stage) ≡ saturated (sum_by (sentence_count outlines order terms stage) some)
  sentences_are stage some =
      ap saturated (sums_map (sentence_size stage) (map own) some)
      ∙ sums_alike (λ nodes. sentence_size stage (map own nodes)) (sentence_count outlines order terms stage) (sentence_is stage) some

  before_is : (stage : ℕ) → saturated (size_before (map (map own) outlines) stage) ≡ saturated (count_before outlines order terms stage)
  before_is stage = sums_alike (stage_size (map (map own) outlines)) (λ s. sum_by (sentence_count outlines order terms s) outlines) (λ s. sentences_are s outlines) (below stage)

  -- what is counted
  pub total_is : saturated (size_before (map (map own) outlines) (length order + 1)) ≡ saturated (length (keys outlines order terms))
  total_is = before_is (length order + 1) ∙ ap saturated (ap (count_before outlines order terms) (add-one (length order)) ∙ sym (count_keys outlines order terms))

  joined : (a b c a' b' c' : ℕ) → a' ≡ saturated a → saturated b' ≡ saturated b → saturated c' ≡ saturated c → saturated (a' + b' + c') ≡ saturated (a + b + c)
  joined a b c a' b' c' one two three = omega arith

  -- the base of a node that is kept
  kept : (bases : List (List ℕ)) (starts : List ℕ) → HaveBases starts (map (map own) outlines) bases → starts ≡ map (λ stage. saturated (size_before (map (map own) outlines) stage)) (below (length order + 1)) →
      (sentence node : ℕ) (nodes : List Node) (x : Node) → slice_get outlines sentence ≡ Some nodes → slice_get nodes node ≡ Some x → stage_for outlines order terms x ≤ length order →
      node_base bases sentence node ≡ Some (saturated (base_for outlines order terms sentence node nodes x))
  kept bases starts have is sentence node nodes x at there low =
      let stage : ℕ = stage_for outlines order terms x in
      let all : List (List Spot) = map (map own) outlines in
      let start : slice_get starts stage ≡ Some (saturated (size_before all stage)) =
      ap (λ ss. slice_get ss stage) is ∙ at_map (λ s. saturated (size_before all s)) (below (length order + 1)) stage stage (at_below (length order + 1) stage (omega arith)) in
      have.each sentence node (map own nodes) (own x) (at_map (map own) outlines sentence nodes at) (at_map own nodes node x there) (slice_get_within starts stage (saturated (size_before all stage)) start)
      ∙ ap Some
      (joined (count_before outlines order terms stage) (sum_by (sentence_count outlines order terms stage) (take sentence outlines)) (sentence_count outlines order terms stage (take node nodes))
      (get_or starts stage 0) (sum_by (sentence_size stage) (take sentence all)) (sentence_size stage (take node (map own nodes)))
      (get_or_from_slice_get starts stage (saturated (size_before all stage)) 0 start ∙ before_is stage)
      (ap (λ ss. saturated (sum_by (sentence_size stage) ss)) (take-map (map own) sentence outlines) ∙ sentences_are stage (take sentence outlines))
      (ap (λ ss. saturated (sentence_size stage ss)) (take-map own node nodes) ∙ sentence_is stage (take node nodes)))

parted : (outlines : List (List Node)) (sentence node : ℕ) (x : Node) → node_at outlines sentence node ≡ Some x → (nodes : List Node) × (slice_get outlines sentence ≡ Some nodes) × (slice_get nodes node ≡ Some x)
parted outlines sentence node x is = by (slice_get outlines sentence) refl is
  where
    by : (o : Option (List Node)) → slice_get outlines sentence ≡ o → option_and_then (λ (nodes : List Node). slice_get nodes node) o ≡ Some x → (nodes : List Node) × (slice_get outlines sentence ≡ Some nodes) × (slice_get nodes node ≡ Some x)
    by None same is = cc
    by (Some nodes) same is = (nodes, same, is)

module _ (sentences : List Formula) (order : List ℕ) (terms : List RowTerm) (is_order : IsOrder sentences order) (are : terms ≡ row_terms (outlines_of sentences) order) where
  abbrev outs : List (List Node)
  outs = outlines_of sentences

  numbers_are : (bases : List (List ℕ)) (starts : List ℕ) → HaveBases starts (map (map (spot_of order terms)) outs) bases →
      starts ≡ map (λ stage. saturated (size_before (map (map (spot_of order terms)) outs) stage)) (below (length order + 1)) → length (keys outs order terms) ≤ 400000 →
      (sentence node : ℕ) (rows : List ℕ) (place : ℕ) → slice_get (keys outs order terms) place ≡ Some (key_of sentence node rows) →
      number_of (keys outs order terms) (key_of sentence node rows) ≡ unwrap_or (node_base bases sentence node) 0 + index_along (map (step_of terms) (below (length terms))) 0 rows
  numbers_are bases starts have is few sentence node rows place at =
      let key : Key = key_of sentence node rows in
      let placed = key_placed outs order terms key (among_at (keys outs order terms) place key at) in
      let x : Node = placed.node in
      let there = parted outs sentence node x placed.stands in
      let own_rows = placed.rows in
      let low = stage_low sentences order is_order (forall_tables x) rows (subst (λ ts. AreRows ts (forall_tables x) rows) are own_rows) in
      let found = lists_at terms (forall_tables x) rows own_rows in
      let base : ℕ = base_for outs order terms sentence node there.0 x in
      let stands = slice_get_within (keys outs order terms) (base + found.place) key (key_stands outs order terms sentence node found.place there.0 x rows there.1 there.2 low found.is_place) in
      let is_base : node_base bases sentence node ≡ Some (saturated base) = kept outs order terms bases starts have is sentence node there.0 x there.1 there.2 low in
      let exact : saturated base ≡ base = omega arith in
      let index : index_along (map (step_of terms) (below (length terms))) 0 rows ≡ found.place = found.index 0 ∙ none (length (term_lists terms (forall_tables x))) found.place in
      key_number outs order terms sentence node found.place there.0 x rows there.1 there.2 low found.is_place
      ∙ sym (ap₂ (λ o n. unwrap_or o 0 + n) (is_base ∙ ap Some exact) index)
    where
      none : (count place : ℕ) → 0 * count + place ≡ place
      none count place = grind arith

-- the total is how many keys there are
pub is_total : (sentences : List Formula) (order : List ℕ) (terms : List RowTerm) (outlines : List (List Node)) (all : List (List Spot)) (total : ℕ) →
    outlines ≡ outlines_of sentences → all ≡ map (map (spot_of order terms)) outlines → total ≡ saturated (size_before all (length order + 1)) → total ≡ saturated (length (keys (outlines_of sentences) order terms))
is_total sentences order terms outlines all total nodes spots is =
    is
    ∙ (ap (λ ss. saturated (size_before ss (length order + 1))) (spots ∙ ap (map (map (spot_of order terms))) nodes)
    ∙ total_is (outlines_of sentences) order terms)

pub is_ready : (l : Listing) (next : List ℕ) → IsOrder l.sentences.now l.order.now → All (λ s. is_sentence s ≡ true) l.sentences.now → outlines_in l ≡ outlines_of l.sentences.now →
    l.terms.now ≡ row_terms (outlines_of l.sentences.now) l.order.now → length l.terms.now ≤ 512 → l.spots ≡ map (map (spot_of l.order.now l.terms.now)) (outlines_in l) →
    next ≡ map (λ stage. saturated (size_before l.spots stage)) (below (length l.order.now + 1)) → HaveBases next l.spots l.bases → l.steps ≡ map (step_of l.terms.now) (below (length l.terms.now)) →
    saturated (size_before l.spots (length l.order.now + 1)) ≤ 400000 → IsListing l
is_ready l next is_order closed nodes terms few spots starts have steps low = record {
  order = is_order;
  closed = closed;
  outlines = nodes;
  terms = terms;
  few_terms = few;
  few_keys = few_keys;
  spots = spots;
  numbers = λ sentence node rows has.
      let outs : List (List Node) = outlines_of l.sentences.now in
      let all : l.spots ≡ map (map (spot_of l.order.now l.terms.now)) outs = spots ∙ ap (map (map (spot_of l.order.now l.terms.now))) nodes in
      let have' : HaveBases next (map (map (spot_of l.order.now l.terms.now)) outs) l.bases = subst (λ ss. HaveBases next ss l.bases) all have in
      let starts' : next ≡ map (λ stage. saturated (size_before (map (map (spot_of l.order.now l.terms.now)) outs) stage)) (below (length l.order.now + 1)) =
      starts ∙ ap (λ ss. map (λ stage. saturated (size_before ss stage)) (below (length l.order.now + 1))) all in
      let key : Key = key_of sentence node rows in
      let fact = numbers_are l.sentences.now l.order.now l.terms.now is_order terms l.bases next have' starts' (subst (λ os. length (keys os l.order.now l.terms.now) ≤ 400000) nodes few_keys) sentence node rows has.0
      (subst (λ os. slice_get (keys os l.order.now l.terms.now) has.0 ≡ Some key) nodes has.1) in
      ap (λ os. number_of (keys os l.order.now l.terms.now) key) nodes
      ∙ (fact ∙ ap (λ ss. unwrap_or (node_base l.bases sentence node) 0 + index_along ss 0 rows) (sym steps));
}
  where
    few_keys : length (keys_for l) ≤ 400000
    few_keys =
        subst (λ os. length (keys os l.order.now l.terms.now) ≤ 400000) (sym nodes)
        (let t : saturated (size_before l.spots (length l.order.now + 1)) ≡ saturated (length (keys (outlines_of l.sentences.now) l.order.now l.terms.now)) = is_total l.sentences.now l.order.now l.terms.now (outlines_in l) l.spots (saturated (size_before l.spots (length l.order.now + 1))) nodes spots refl in omega arith)

-- ---- frames

pub domains_more : (tables : List Table) (i : ℕ) (t : Table) (before after : List (List Domain)) (own : List Domain) → i < length tables → t ≡ get_or tables i t → before ≡ domains_of (take i tables) → after ≡ before ++ own ∷ [] →
    own ≡ map (λ (c : Column). c.domain) t.columns → after ≡ domains_of (take (i + 1) tables)
domains_more tables i t before after own low is so_far added same =
    added
    ∙ (ap₂ (λ xs x. xs ++ x ∷ []) so_far same
    ∙ (sym (map-append (λ (t : Table). map (λ (c : Column). c.domain) t.columns) (take i tables) (t ∷ []))
    ∙ ap domains_of (ap (λ u. take i tables ++ u ∷ []) is ∙ sym (take_more tables i t low))))

-- The keys that are listed, in the words of the code.
use Rattle.std.proofs.Common.{◌≡◌, ◌∙◌, sym, ap, ap₂, refl, subst, ℕ, ◌+◌, ◌-◌, ◌<◌, true, false, List, length, min, take, ◌^◌, arith}
use Rattle.std.proofs.lemmas.Option.{slice_get_within, get_or_from_slice_get}
use Rattle.std.specs.Prelude.{Some, slice_get, unwrap_or}
use Rattle.sort_formula.specs.declared.formula.Atom.{Atom}
use Rattle.sort_formula.specs.declared.formula.Formula.{Formula}
use Rattle.sort_formula.specs.declared.formula.Formula.TheOpen.{Formula-F}
use Rattle.sort_formula.specs.Sentences.{is_sentence}
use Rattle.sorted_skolem.specs.declared.term.RowTerm.{RowTerm}
use Rattle.sorted_skolem.specs.Preorder.{Way, Node, outlines_of, node_at, forall_tables, is_forall_node}
use Rattle.sorted_skolem.specs.Terms.{term_lists}
use Rattle.sorted_skolem.proofs.Among.{Among, among_at, at_among}
use Rattle.sorted_skolem.proofs.RowTerms.{AreRows, lists_rows}
use Rattle.instantiate.specs.Keys.{Key, number_of}
use Rattle.instantiate.specs.Ground.{keys, maker_of, variables_of}
use Rattle.instantiate.specs.declared.listing.Listing.{Listing}
use Rattle.instantiate.specs.declared.rows.Step.{Step}
use Rattle.instantiate.specs.inner.Bases.{node_base}
use Rattle.instantiate.specs.inner.Listings.{HasKey, IsListing, IsClosedBy, outlines_in, keys_for}
use Rattle.instantiate.specs.inner.Steps.{index_along}
use Rattle.instantiate.proofs.AboveKeys.{ks, maker_there, plain_above, inside_above, HasFront, atom_closed, list_there}
use Rattle.instantiate.proofs.Numbering.{key_of, at_number}

module _ (l : Listing) (ready : IsListing l) where
  abbrev sentences : List Formula
  sentences = l.sentences.now

  abbrev order : List ℕ
  order = l.order.now

  ks_are : keys_for l ≡ ks sentences order ready.order
  ks_are = ap₂ (λ os ts. keys os order ts) ready.outlines ready.terms

  to_key : (k : Key) → Among (ks sentences order ready.order) k → HasKey l k
  to_key k is = at_among (keys_for l) k (subst (λ ks. Among ks k) (sym ks_are) is)

  from_key : (k : Key) → HasKey l k → Among (ks sentences order ready.order) k
  from_key k has = subst (λ ks. Among ks k) ks_are (among_at (keys_for l) has.0 k has.1)

  at_node : (sentence node : ℕ) (x : Node) → node_at (outlines_in l) sentence node ≡ Some x → node_at (outlines_of sentences) sentence node ≡ Some x
  at_node sentence node x at = subst (λ os. node_at os sentence node ≡ Some x) ready.outlines at

  -- the sum of base and index is the number, and low
  pub number_low : (sentence node : ℕ) (rows : List ℕ) → HasKey l (key_of sentence node rows) → unwrap_or (node_base l.bases sentence node) 0 + index_along l.steps 0 rows < 400000
  number_low sentence node rows has =
      let number = ready.numbers sentence node rows has in
      let low = slice_get_within (keys_for l) (number_of (keys_for l) (key_of sentence node rows)) (key_of sentence node rows)
      (at_number (outlines_in l) l.order.now l.terms.now (key_of sentence node rows) (among_at (keys_for l) has.0 (key_of sentence node rows) has.1)) in
      let few = ready.few_keys in
      omega arith

  pub maker_key : (row : ℕ) (t : RowTerm) → slice_get l.terms.now row ≡ Some t → HasKey l (maker_of t)
  maker_key row t at = to_key (maker_of t) (maker_there sentences order ready.order row t (subst (λ ts. slice_get ts row ≡ Some t) ready.terms at))

  pub plain_key : (k : Key) (x p : Node) (way : Way) → HasKey l k → node_at (outlines_in l) k.sentence k.node ≡ Some x → x.above ≡ Some way → node_at (outlines_in l) k.sentence way.node ≡ Some p →
      is_forall_node p ≡ false → HasKey l (key_of k.sentence way.node k.rows)
  plain_key k x p way has stands above at same =
      to_key (key_of k.sentence way.node k.rows)
      (plain_above sentences order ready.order k x p way (from_key k has) (at_node k.sentence k.node x stands) above (at_node k.sentence way.node p at) same)

  front : (k : Key) (x p : Node) (way : Way) → HasKey l k → node_at (outlines_in l) k.sentence k.node ≡ Some x → x.above ≡ Some way → node_at (outlines_in l) k.sentence way.node ≡ Some p →
      is_forall_node p ≡ true → HasFront sentences order ready.order k way
  front k x p way has stands above at same =
      inside_above sentences order ready.order k x p way (from_key k has) (at_node k.sentence k.node x stands) above (at_node k.sentence way.node p at) same

  pub some_rows : (k : Key) (x p : Node) (way : Way) → HasKey l k → node_at (outlines_in l) k.sentence k.node ≡ Some x → x.above ≡ Some way → node_at (outlines_in l) k.sentence way.node ≡ Some p →
      is_forall_node p ≡ true → 0 < length k.rows
  some_rows k x p way has stands above at same = (front k x p way has stands above at same).some

  pub inside_key : (k : Key) (x p : Node) (way : Way) → HasKey l k → node_at (outlines_in l) k.sentence k.node ≡ Some x → x.above ≡ Some way → node_at (outlines_in l) k.sentence way.node ≡ Some p →
      is_forall_node p ≡ true → HasKey l (key_of k.sentence way.node (take (length k.rows - 1) k.rows))
  inside_key k x p way has stands above at same =
      to_key (key_of k.sentence way.node (take (length k.rows - 1) k.rows)) (front k x p way has stands above at same).is_there

  pub list_key : (sentence node : ℕ) (x : Node) (i : ℕ) (rows : List ℕ) → node_at (outlines_in l) sentence node ≡ Some x → slice_get (term_lists l.terms.now (forall_tables x)) i ≡ Some rows →
      HasKey l (key_of sentence node rows)
  list_key sentence node x i rows stands at =
      to_key (key_of sentence node rows)
      (list_there sentences order ready.order (key_of sentence node rows) x (at_node sentence node x stands)
      (subst (λ ts. AreRows ts (forall_tables x) rows) ready.terms (lists_rows l.terms.now (forall_tables x) rows (among_at (term_lists l.terms.now (forall_tables x)) i rows at))))

  pub closed_key : (k : Key) (x : Node) → HasKey l k → node_at (outlines_in l) k.sentence k.node ≡ Some x → IsClosedBy (length (variables_of l.terms.now k x)) x.layer
  closed_key k x has stands = by x.layer refl
    where
      closed : (a : Atom) → x.layer ≡ Formula-F.Atom a → IsClosedBy (length (variables_of l.terms.now k x)) (Formula-F.Atom a)
      closed a layer =
          subst (λ ts. IsClosedBy (length (variables_of ts k x)) (Formula-F.Atom a)) (sym ready.terms)
          (atom_closed sentences order ready.order k x a (from_key k has) (at_node k.sentence k.node x stands)
          (λ g at. subst (λ h. is_sentence h ≡ true) (get_or_from_slice_get sentences k.sentence g g at) (ready.closed k.sentence g (slice_get_within sentences k.sentence g at))) layer)

      by : (z : Formula-F Formula) → x.layer ≡ z → IsClosedBy (length (variables_of l.terms.now k x)) z
      by (Formula-F.Atom a) is = closed a is
      by (Formula-F.And parts) is = tt
      by (Formula-F.Or parts) is = tt
      by (Formula-F.Exists table body) is = tt
      by (Formula-F.Forall table body) is = tt

  -- the sum that the code makes
  pub sum_is : (sentence node : ℕ) (rows : List ℕ) (bases : List (List ℕ)) (steps : List Step) (base index : ℕ) → HasKey l (key_of sentence node rows) → bases ≡ l.bases → steps ≡ l.steps →
      base ≡ unwrap_or (node_base bases sentence node) 0 → index ≡ min (index_along steps 0 rows) (2 ^ 64 - 1) → base + index ≡ number_of (keys_for l) (key_of sentence node rows)
  sum_is sentence node rows bases steps base index has is is' one two =
      let low = number_low sentence node rows has in
      let number = ready.numbers sentence node rows has in
      let first : base ≡ unwrap_or (node_base l.bases sentence node) 0 = one ∙ ap (λ bs. unwrap_or (node_base bs sentence node) 0) is in
      let second : index ≡ min (index_along l.steps 0 rows) (2 ^ 64 - 1) = two ∙ ap (λ ss. min (index_along ss 0 rows) (2 ^ 64 - 1)) is' in
      omega arith

  pub number_fits : (key : Key) → HasKey l key → number_of (keys_for l) key < 400000
  number_fits key has =
      let low = slice_get_within (keys_for l) (number_of (keys_for l) key) key (at_number (outlines_in l) l.order.now l.terms.now key (among_at (keys_for l) has.0 key has.1)) in
      let few = ready.few_keys in
      omega arith

-- The number of a key: behind the keys of the earlier stages, of the sentences and the nodes before, the place of its rows.
use Rattle.std.proofs.Common.{◌≡◌, ◌∙◌, sym, ap, ap₂, refl, subst, ℕ, zero, suc, ◌+◌, ◌≤◌, inl, inr, Bool, true, false, List, [], ◌∷◌, ◌++◌, length, map, take, arith}
use Rattle.std.proofs.lemmas.Bool.Decides.{nat_tests}
use Rattle.std.proofs.lemmas.List.{length-append, length-map, take-append-le}
use Rattle.std.proofs.Math.Seq.{take-length}
use Rattle.std.proofs.lemmas.List.Sums.{sum_by-cons}
use Rattle.std.proofs.lemmas.Option.{same_Some}
use Rattle.std.specs.Prelude.{Some, slice_get, nat_eq, if◌then◌else◌}
use Rattle.std.specs.List.{flat_map, sum_by}
use Rattle.lint_base.proofs.Lists.{slice_get_front, get_behind}
use Rattle.lint_core.specs.Database.{below}
use Rattle.sorted_skolem.specs.declared.term.RowTerm.{RowTerm}
use Rattle.sorted_skolem.specs.Preorder.{Node, forall_tables}
use Rattle.sorted_skolem.specs.Terms.{numbered, term_lists}
use Rattle.sorted_skolem.proofs.Among.{numbered_from, numbered_is}
use Rattle.instantiate.specs.Keys.{Key, stage_of, keys_at, keys_of_stage, number_of}
use Rattle.instantiate.specs.Ground.{keys}
use Rattle.instantiate.proofs.Numbering.{key_of, number_at}
use Rattle.instantiate.proofs.Layers.{at_map}
use Rattle.instantiate.proofs.TermLists.{at_below, length_below, last_or}

-- ---- lists

module _ {A B : Type 0} where
  -- an element of a piece stands behind the pieces before
  pub at_flat : (f : A → List B) (xs : List A) (i j : ℕ) (x : A) (y : B) → slice_get xs i ≡ Some x → slice_get (f x) j ≡ Some y →
      slice_get (flat_map f xs) (length (flat_map f (take i xs)) + j) ≡ Some y
  at_flat f [] i j x y one two = cc
  at_flat f (z ∷ zs) zero j x y one two =
      let same : 0 + j ≡ j = omega arith in
      subst (λ i. slice_get (f z ++ flat_map f zs) i ≡ Some y) (sym same)
      (slice_get_front (f z) (flat_map f zs) j y (subst (λ w. slice_get (f w) j ≡ Some y) (sym (same_Some z x one)) two))
  at_flat f (z ∷ zs) (suc i) j x y one two =
      let size = length-append (f z) (flat_map f (take i zs)) in
      let same : length (f z) + (length (flat_map f (take i zs)) + j) ≡ length (f z ++ flat_map f (take i zs)) + j = omega arith in
      subst (λ k. slice_get (f z ++ flat_map f zs) k ≡ Some y) same
      (get_behind (f z) (flat_map f zs) (length (flat_map f (take i zs)) + j) ∙ at_flat f zs i j x y one two)

  -- how many the pieces of numbered elements have
  sized_from : (f : ℕ × A → List B) (g : A → ℕ) → ((m : ℕ) (x : A) → length (f (m, x)) ≡ g x) → (k : ℕ) (xs : List A) → length (flat_map f (numbered_from k xs)) ≡ sum_by g xs
  sized_from f g each k [] = refl
  sized_from f g each k (x ∷ xs) =
      length-append (f (k, x)) (flat_map f (numbered_from (suc k) xs))
      ∙ (ap₂ (λ m n. m + n) (each k x) (sized_from f g each (suc k) xs) ∙ sym (sum_by-cons g x xs))

  pub sized : (f : ℕ × A → List B) (g : A → ℕ) → ((m : ℕ) (x : A) → length (f (m, x)) ≡ g x) → (xs : List A) → length (flat_map f (numbered xs)) ≡ sum_by g xs
  sized f g each xs = ap (λ ps. length (flat_map f ps)) (numbered_is xs) ∙ sized_from f g each 0 xs

module _ {A : Type 0} where
  at_numbered_from : (k : ℕ) (xs : List A) (i : ℕ) (x : A) → slice_get xs i ≡ Some x → slice_get (numbered_from k xs) i ≡ Some (k + i, x)
  at_numbered_from k [] i x at = cc
  at_numbered_from k (y ∷ ys) zero x at = let same : k ≡ k + 0 = omega arith in ap₂ (λ m z. Some (m, z)) same (same_Some y x at)
  at_numbered_from k (y ∷ ys) (suc i) x at =
      let same : suc k + i ≡ k + suc i = omega arith in at_numbered_from (suc k) ys i x at ∙ ap (λ m. Some (m, x)) same

  pub numbered_there : (xs : List A) (i : ℕ) (x : A) → slice_get xs i ≡ Some x → slice_get (numbered xs) i ≡ Some (i, x)
  numbered_there xs i x at =
      let same : 0 + i ≡ i = omega arith in
      ap (λ ps. slice_get ps i) (numbered_is xs) ∙ (at_numbered_from 0 xs i x at ∙ ap (λ m. Some (m, x)) same)

  take_numbered : (k : ℕ) (xs : List A) (i : ℕ) → take i (numbered_from k xs) ≡ numbered_from k (take i xs)
  take_numbered k [] zero = refl
  take_numbered k [] (suc i) = refl
  take_numbered k (x ∷ xs) zero = refl
  take_numbered k (x ∷ xs) (suc i) = ap (λ ps. (k, x) ∷ ps) (take_numbered (suc k) xs i)

  pub first_numbered : (xs : List A) (i : ℕ) → take i (numbered xs) ≡ numbered (take i xs)
  first_numbered xs i = ap (take i) (numbered_is xs) ∙ (take_numbered 0 xs i ∙ sym (numbered_is (take i xs)))

pub take_below : (n i : ℕ) → i ≤ n → take i (below n) ≡ below i
take_below zero zero low = refl
take_below zero (suc i) low = absurd (omega arith)
take_below (suc n) i low =
    elim (last_or (suc n) i (omega arith)) [
      | inl earlier ↦ take-append-le i (below n) (n ∷ []) (let e = length_below n in omega arith) ∙ take_below n i (omega arith)
      | inr same ↦
          let size : length (below (suc n)) ≡ i = length_below (suc n) ∙ sym same in
          subst (λ m. take m (below (suc n)) ≡ below m) (sym same) (ap (λ m. take m (below (suc n))) (sym (length_below (suc n))) ∙ take-length (below (suc n)))
    ]

-- ---- the place of a key

module _ (outlines : List (List Node)) (order : List ℕ) (terms : List RowTerm) where
  abbrev pub stage_for : Node → ℕ
  stage_for x = stage_of order (forall_tables x)

  -- how many keys of a stage a node has, those of a sentence, and those of all
  abbrev pub node_count : ℕ → Node → ℕ
  node_count stage x = if nat_eq (stage_for x) stage then length (term_lists terms (forall_tables x)) else 0

  abbrev pub sentence_count : ℕ → List Node → ℕ
  sentence_count stage nodes = sum_by (node_count stage) nodes

  abbrev pub count_before : ℕ → ℕ
  count_before stage = sum_by (λ s. sum_by (sentence_count s) outlines) (below stage)

  abbrev pub base_for : ℕ → ℕ → List Node → Node → ℕ
  base_for sentence node nodes x =
      count_before (stage_for x) + sum_by (sentence_count (stage_for x)) (take sentence outlines) + sentence_count (stage_for x) (take node nodes)

  length_at : (stage sentence m : ℕ) (x : Node) → length (keys_at order terms stage sentence (m, x)) ≡ node_count stage x
  length_at stage sentence m x = by (nat_eq (stage_for x) stage)
    where
      by : (b : Bool) → length (if b then map (key_of sentence m) (term_lists terms (forall_tables x)) else []) ≡ (if b then length (term_lists terms (forall_tables x)) else 0)
      by true = length-map (term_lists terms (forall_tables x)) (key_of sentence m)
      by false = refl

  length_sentence : (stage m : ℕ) (nodes : List Node) → length (flat_map (keys_at order terms stage m) (numbered nodes)) ≡ sentence_count stage nodes
  length_sentence stage m nodes = sized (keys_at order terms stage m) (node_count stage) (length_at stage m) nodes

  abbrev sentence_keys : ℕ → ℕ × List Node → List Key
  sentence_keys stage s = flat_map (keys_at order terms stage s.0) (numbered s.1)

  length_sentences : (stage : ℕ) (some : List (List Node)) → length (flat_map (sentence_keys stage) (numbered some)) ≡ sum_by (sentence_count stage) some
  length_sentences stage some = sized (sentence_keys stage) (sentence_count stage) (length_sentence stage) some

  length_stages : (stages : List ℕ) → length (flat_map (keys_of_stage order terms outlines) stages) ≡ sum_by (λ s. sum_by (sentence_count s) outlines) stages
  length_stages [] = refl
  length_stages (s ∷ stages) =
      length-append (keys_of_stage order terms outlines s) (flat_map (keys_of_stage order terms outlines) stages)
      ∙ (ap₂ (λ m n. m + n) (length_sentences s outlines) (length_stages stages) ∙ sym (sum_by-cons (λ s. sum_by (sentence_count s) outlines) s stages))

  -- how many keys there are
  pub count_keys : length (keys outlines order terms) ≡ count_before (suc (length order))
  count_keys = length_stages (below (suc (length order)))

  chosen_keys : (stage sentence m : ℕ) (x : Node) → stage_for x ≡ stage → keys_at order terms stage sentence (m, x) ≡ map (key_of sentence m) (term_lists terms (forall_tables x))
  chosen_keys stage sentence m x is = by (nat_eq (stage_for x) stage) refl
    where
      by : (b : Bool) → nat_eq (stage_for x) stage ≡ b → (if b then map (key_of sentence m) (term_lists terms (forall_tables x)) else []) ≡ map (key_of sentence m) (term_lists terms (forall_tables x))
      by true same = refl
      by false same = absurd (grind (arith, nat_tests))

  pub key_stands : (sentence node place : ℕ) (nodes : List Node) (x : Node) (rows : List ℕ) → slice_get outlines sentence ≡ Some nodes → slice_get nodes node ≡ Some x →
      stage_for x ≤ length order → slice_get (term_lists terms (forall_tables x)) place ≡ Some rows →
      slice_get (keys outlines order terms) (base_for sentence node nodes x + place) ≡ Some (key_of sentence node rows)
  key_stands sentence node place nodes x rows one two low at =
      let stage : ℕ = stage_for x in
      let own : slice_get (keys_at order terms stage sentence (node, x)) place ≡ Some (key_of sentence node rows) =
      ap (λ ks. slice_get ks place) (chosen_keys stage sentence node x refl) ∙ at_map (key_of sentence node) (term_lists terms (forall_tables x)) place rows at in
      let in_sentence = at_flat (keys_at order terms stage sentence) (numbered nodes) node place (node, x) (key_of sentence node rows) (numbered_there nodes node x two) own in
      let in_stage = at_flat (sentence_keys stage) (numbered outlines) sentence (length (flat_map (keys_at order terms stage sentence) (take node (numbered nodes))) + place) (sentence, nodes) (key_of sentence node rows)
      (numbered_there outlines sentence nodes one) in_sentence in
      let there = at_flat (keys_of_stage order terms outlines) (below (suc (length order))) stage
      (length (flat_map (sentence_keys stage) (take sentence (numbered outlines))) + (length (flat_map (keys_at order terms stage sentence) (take node (numbered nodes))) + place))
      stage (key_of sentence node rows) (at_below (suc (length order)) stage (omega arith)) in_stage in
      let before : length (flat_map (keys_of_stage order terms outlines) (take stage (below (suc (length order))))) ≡ count_before stage =
      ap (λ ss. length (flat_map (keys_of_stage order terms outlines) ss)) (take_below (suc (length order)) stage (omega arith)) ∙ length_stages (below stage) in
      let sentences : length (flat_map (sentence_keys stage) (take sentence (numbered outlines))) ≡ sum_by (sentence_count stage) (take sentence outlines) =
      ap (λ ss. length (flat_map (sentence_keys stage) ss)) (first_numbered outlines sentence) ∙ length_sentences stage (take sentence outlines) in
      let earlier : length (flat_map (keys_at order terms stage sentence) (take node (numbered nodes))) ≡ sentence_count stage (take node nodes) =
      ap (λ ns. length (flat_map (keys_at order terms stage sentence) ns)) (first_numbered nodes node) ∙ length_sentence stage sentence (take node nodes) in
      let whole : length (flat_map (keys_of_stage order terms outlines) (take stage (below (suc (length order)))))
      + (length (flat_map (sentence_keys stage) (take sentence (numbered outlines))) + (length (flat_map (keys_at order terms stage sentence) (take node (numbered nodes))) + place))
      ≡ base_for sentence node nodes x + place = omega arith in
      subst (λ i. slice_get (keys outlines order terms) i ≡ Some (key_of sentence node rows)) whole there

  -- the number of a key
  pub key_number : (sentence node place : ℕ) (nodes : List Node) (x : Node) (rows : List ℕ) → slice_get outlines sentence ≡ Some nodes → slice_get nodes node ≡ Some x →
      stage_for x ≤ length order → slice_get (term_lists terms (forall_tables x)) place ≡ Some rows →
      number_of (keys outlines order terms) (key_of sentence node rows) ≡ base_for sentence node nodes x + place
  key_number sentence node place nodes x rows one two low at =
      number_at outlines order terms (base_for sentence node nodes x + place) (key_of sentence node rows) (key_stands sentence node place nodes x rows one two low at)

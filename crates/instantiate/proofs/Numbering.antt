-- The keys of a ground list: one for each node and each list of rows of the Foralls around it. They stand in order, so each has one
-- number; and so has each row term.
use Rattle.std.proofs.Common.{◌≡◌, ◌∙◌, sym, ap, ap₂, refl, subst, ℕ, suc, ◌<◌, ◌≤◌, ◌⊎◌, inl, inr, Bool, true, false, ◌&&◌, List, [], ◌∷◌, ◌++◌, length, map, append-nil, arith}
use Rattle.std.proofs.lemmas.Bool.{and_parts, and_from, eqb-true}
use Rattle.std.proofs.lemmas.Bool.Decides.{nat_tests}
use Rattle.std.specs.Cmp.Lexicographic.{pointwise}
use Rattle.std.specs.Prelude.{Option, Some, None, slice_get, nat_eq, option_and_then, if◌then◌else◌}
use Rattle.std.specs.List.{flat_map}
use Rattle.std.specs.Option.{option_map_or}
use Rattle.lint_core.specs.Database.{below}
use Rattle.sorted_skolem.specs.declared.term.RowTerm.{RowTerm}
use Rattle.sorted_skolem.specs.Preorder.{Node, node_at, forall_tables}
use Rattle.sorted_skolem.specs.Terms.{numbered, term_lists}
use Rattle.sorted_skolem.proofs.Among.{Among, among_at, among_map, map_among, among_flat, flat_among, below_is, counted_among, numbered_is, numbered_at, at_numbered, InOrder, order_map, order_flat, order_counted, order_numbered, order_one, order_low}
use Rattle.sorted_skolem.proofs.RowTerms.{StandsLower, never_lower, AreRows, IsRowOf, lists_rows, rows_lists, order_lists, Differ}
use Rattle.instantiate.specs.Keys.{Key, is_same_key, place_in, stage_of, keys_at, keys_of_stage, number_of}
use Rattle.instantiate.specs.Ground.{maker_of, is_term, term_number, keys}

-- ---- stages

equal : (m n : ℕ) → m ≡ n → nat_eq m n ≡ true
equal m n same = grind (arith, nat_tests)

pub place_low : (xs ys : List ℕ) (table : ℕ) → Among xs table → place_in (xs ++ ys) table ≤ length xs
place_low [] ys table is = absurd is
place_low (x ∷ xs) ys table is = low (nat_eq x table) refl is (place_low xs ys table)
  where
    low : (b : Bool) → nat_eq x table ≡ b → (x ≡ table) ⊎ Among xs table → (Among xs table → place_in (xs ++ ys) table ≤ length xs) → (if b then 1 else suc (place_in (xs ++ ys) table)) ≤ suc (length xs)
    low true same is rest = omega arith
    low false same is rest = elim is [ inl here ↦ let e = equal x table here in cc | inr later ↦ let l = rest later in omega arith ]

pub place_high : (xs ys : List ℕ) (table : ℕ) → (Among xs table → ⊥) → length xs < place_in (xs ++ ys) table
place_high [] ys table never = first ys table
  where
    first : (ys : List ℕ) (table : ℕ) → 0 < place_in ys table
    first [] table = omega arith
    first (y ∷ ys) table = either (nat_eq y table)
      where
        either : (b : Bool) → 0 < (if b then 1 else suc (place_in ys table))
        either true = omega arith
        either false = omega arith
place_high (x ∷ xs) ys table never = high (nat_eq x table) refl (place_high xs ys table (λ is. never (inr is)))
  where
    high : (b : Bool) → nat_eq x table ≡ b → length xs < place_in (xs ++ ys) table → suc (length xs) < (if b then 1 else suc (place_in (xs ++ ys) table))
    high true same rest = absurd (never (inl (eqb-true x table same)))
    high false same rest = omega arith

pub stage_within : (order tables : List ℕ) (most : ℕ) → ((table : ℕ) → Among tables table → place_in order table ≤ most) → stage_of order tables ≤ most
stage_within order [] most low = omega arith
stage_within order (table ∷ tables) most low =
    let first = low table (inl refl) in
    let rest = stage_within order tables most (λ t is. low t (inr is)) in
    omega arith

pub stage_over : (order tables : List ℕ) (table : ℕ) → Among tables table → place_in order table ≤ stage_of order tables
stage_over order [] table is = absurd is
stage_over order (t ∷ ts) table is =
    elim is [
      | inl here ↦ let same : place_in order t ≡ place_in order table = ap (place_in order) here in omega arith
      | inr later ↦ let rest = stage_over order ts table later in omega arith
    ]

pub stage_more : (order xs ys : List ℕ) → stage_of order xs ≤ stage_of order (xs ++ ys)
stage_more order [] ys = omega arith
stage_more order (x ∷ xs) ys = let rest = stage_more order xs ys in omega arith

-- ---- keys

pub same_rows : (xs ys : List ℕ) → pointwise nat_eq xs ys ≡ true → xs ≡ ys
same_rows [] [] same = refl
same_rows [] (y ∷ ys) same = cc
same_rows (x ∷ xs) [] same = cc
same_rows (x ∷ xs) (y ∷ ys) same =
    let both = and_parts (nat_eq x y) (pointwise nat_eq xs ys) same in
    ap₂ (λ z zs. z ∷ zs) (eqb-true x y both.0) (same_rows xs ys both.1)

rows_itself : (xs : List ℕ) → pointwise nat_eq xs xs ≡ true
rows_itself [] = refl
rows_itself (x ∷ xs) = and_from (nat_eq x x) (pointwise nat_eq xs xs) (equal x x refl) (rows_itself xs)

abbrev pub key_of : ℕ → ℕ → List ℕ → Key
key_of sentence node rows = record { sentence = sentence; node = node; rows = rows }

same_key : (a b : Key) → is_same_key a b ≡ true → a ≡ b
same_key a b same =
    let first = and_parts (nat_eq a.sentence b.sentence) (nat_eq a.node b.node && pointwise nat_eq a.rows b.rows) same in
    let rest = and_parts (nat_eq a.node b.node) (pointwise nat_eq a.rows b.rows) first.1 in
    ap₂ (λ s n. key_of s n a.rows) (eqb-true a.sentence b.sentence first.0) (eqb-true a.node b.node rest.0)
    ∙ ap (key_of b.sentence b.node) (same_rows a.rows b.rows rest.1)

key_itself : (a b : Key) → a ≡ b → is_same_key a b ≡ true
key_itself a b same =
    subst (λ c. is_same_key a c ≡ true) same
    (and_from (nat_eq a.sentence a.sentence) (nat_eq a.node a.node && pointwise nat_eq a.rows a.rows) (equal a.sentence a.sentence refl)
    (and_from (nat_eq a.node a.node) (pointwise nat_eq a.rows a.rows) (equal a.node a.node refl) (rows_itself a.rows)))

number_found : (ks : List Key) (key : Key) → Among ks key → slice_get ks (number_of ks key) ≡ Some key
number_found [] key is = absurd is
number_found (k ∷ ks) key is = found (is_same_key k key) refl is (number_found ks key)
  where
    found : (b : Bool) → is_same_key k key ≡ b → (k ≡ key) ⊎ Among ks key → (Among ks key → slice_get ks (number_of ks key) ≡ Some key) → slice_get (k ∷ ks) (if b then 0 else suc (number_of ks key)) ≡ Some key
    found true same is rest = ap Some (same_key k key same)
    found false same is rest = elim is [ inl here ↦ let e = key_itself k key here in cc | inr later ↦ rest later ]

abbrev IsFound : List RowTerm → RowTerm → ℕ → Type 0
IsFound ts t number = (u : RowTerm) × (slice_get ts number ≡ Some u) × (maker_of t ≡ maker_of u)

term_found : (ts : List RowTerm) (t : RowTerm) → Among ts t → IsFound ts t (term_number ts (maker_of t))
term_found [] t is = absurd is
term_found (u ∷ us) t is = found (is_term (maker_of t) u) refl is (term_found us t)
  where
    found : (b : Bool) → is_term (maker_of t) u ≡ b → (u ≡ t) ⊎ Among us t → (Among us t → IsFound us t (term_number us (maker_of t))) →
        IsFound (u ∷ us) t (if b then 0 else suc (term_number us (maker_of t)))
    found true same is rest = (u, refl, same_key (maker_of t) (maker_of u) same)
    found false same is rest = elim is [ inl here ↦ let e = key_itself (maker_of t) (maker_of u) (ap maker_of (sym here)) in cc | inr later ↦ rest later ]

-- ---- the keys in order

module _ (outlines : List (List Node)) (order : List ℕ) (terms : List RowTerm) where
  -- a key of a node, at rows of the Foralls around it
  pub record IsPlaced (key : Key) : Type 0 where
    pub node : Node
    pub stands : node_at outlines key.sentence key.node ≡ Some node
    pub rows : AreRows terms (forall_tables node) key.rows

  abbrev pub stage_at : Key → ℕ
  stage_at key = option_map_or (λ (x : Node). stage_of order (forall_tables x)) (node_at outlines key.sentence key.node) 0

  -- by stage, sentence, node and rows
  abbrev pub StandsBefore : Key → Key → Type 0
  StandsBefore k l = StandsLower (stage_at k ∷ k.sentence ∷ k.node ∷ k.rows) (stage_at l ∷ l.sentence ∷ l.node ∷ l.rows)

  pub never_before : (k l : Key) → StandsBefore k l → StandsBefore l k → ⊥
  never_before k l = never_lower (stage_at k ∷ k.sentence ∷ k.node ∷ k.rows) (stage_at l ∷ l.sentence ∷ l.node ∷ l.rows)

  then_part : (test : Bool) (xs : List Key) (x : Key) → Among (if test then xs else []) x → (test ≡ true) × Among xs x
  then_part true xs x is = (refl, is)
  then_part false xs x is = absurd is

  abbrev node_keys : ℕ → (ℕ × Node) → List Key
  node_keys sentence n = map (key_of sentence n.0) (term_lists terms (forall_tables n.1))

  at_node : (stage sentence : ℕ) (n : ℕ × Node) (k : Key) → Among (keys_at order terms stage sentence n) k →
      (rows : List ℕ) × (key_of sentence n.0 rows ≡ k) × (stage_of order (forall_tables n.1) ≡ stage) × AreRows terms (forall_tables n.1) rows
  at_node stage sentence n k is =
      let part = then_part (nat_eq (stage_of order (forall_tables n.1)) stage) (node_keys sentence n) k is in
      let found = map_among (key_of sentence n.0) (term_lists terms (forall_tables n.1)) k part.1 in
      (found.0, found.2, eqb-true (stage_of order (forall_tables n.1)) stage part.0, lists_rows terms (forall_tables n.1) found.0 found.1)

  abbrev sentence_keys : ℕ → (ℕ × List Node) → List Key
  sentence_keys stage s = flat_map (keys_at order terms stage s.0) (numbered s.1)

  -- what is known of a key that stands at a stage
  record IsAt (stage sentence : ℕ) (k : Key) : Type 0 where
    placed : IsPlaced k
    of_sentence : k.sentence ≡ sentence
    of_stage : stage_at k ≡ stage

  at_sentence : (stage : ℕ) (s : ℕ × List Node) → Among (numbered outlines) s → (k : Key) → Among (sentence_keys stage s) k → IsAt stage s.0 k
  at_sentence stage s at k is =
      let n = flat_among (keys_at order terms stage s.0) (numbered s.1) k is in
      let own = at_node stage s.0 n.0 k n.2 in
      let stands : node_at outlines s.0 n.0.0 ≡ Some n.0.1 =
      ap (λ o. option_and_then (λ (nodes : List Node). slice_get nodes n.0.0) o) (at_numbered outlines s.0 s.1 at) ∙ at_numbered s.1 n.0.0 n.0.1 n.1 in
      subst (IsAt stage s.0) own.1 (record {
        placed = record { node = n.0.1; stands = stands; rows = own.3 };
        of_sentence = refl;
        of_stage = ap (λ o. option_map_or (λ (x : Node). stage_of order (forall_tables x)) o 0) stands ∙ own.2;
      })

  in_stage : (stage : ℕ) (k : Key) → Among (keys_of_stage order terms outlines stage) k → IsPlaced k × (stage_at k ≡ stage)
  in_stage stage k is =
      let s = flat_among (sentence_keys stage) (numbered outlines) k is in
      let own = at_sentence stage s.0 s.1 k s.2 in
      (own.placed, own.of_stage)

  -- each key is one of a node
  pub key_placed : (k : Key) → Among (keys outlines order terms) k → IsPlaced k
  key_placed k is =
      let stage = flat_among (keys_of_stage order terms outlines) (below (suc (length order))) k is in
      (in_stage stage.0 k stage.2).0

  -- and each of a node is there
  pub placed_key : ((table row : ℕ) → IsRowOf terms table row → Among order table) → (k : Key) → IsPlaced k → Among (keys outlines order terms) k
  placed_key known k placed =
      let x : Node = placed.node in
      let stage : ℕ = stage_of order (forall_tables x) in
      let low : stage ≤ length order = stage_within order (forall_tables x) (length order) (λ table is. within order table (of_rows (forall_tables x) k.rows placed.rows table is)) in
      let here : Among (keys_at order terms stage k.sentence (k.node, x)) k =
      subst (λ b. Among (if b then node_keys k.sentence (k.node, x) else []) k) (sym (equal stage stage refl))
      (among_map (key_of k.sentence k.node) (term_lists terms (forall_tables x)) k.rows (rows_lists terms (forall_tables x) k.rows placed.rows)) in
      let nodes = parted (slice_get outlines k.sentence) placed.stands in
      among_flat (keys_of_stage order terms outlines) (below (suc (length order))) stage k
      (subst (λ ns. Among ns stage) (sym (below_is (suc (length order)))) (counted_among 0 (suc (length order)) stage (omega arith) (omega arith)))
      (among_flat (sentence_keys stage) (numbered outlines) (k.sentence, nodes.0) k (numbered_at outlines k.sentence nodes.0 nodes.1)
      (among_flat (keys_at order terms stage k.sentence) (numbered nodes.0) (k.node, x) k (numbered_at nodes.0 k.node x nodes.2) here))
    where
      within : (order : List ℕ) (table : ℕ) → Among order table → place_in order table ≤ length order
      within order table is = subst (λ ts. place_in ts table ≤ length order) (append-nil order) (place_low order [] table is)

      of_rows : (tables rows : List ℕ) → AreRows terms tables rows → (table : ℕ) → Among tables table → Among order table
      of_rows [] rows are table is = absurd is
      of_rows (t ∷ ts) [] are table is = absurd are
      of_rows (t ∷ ts) (row ∷ rows) are table is = elim is [ inl here ↦ subst (Among order) here (known t row are.0) | inr later ↦ of_rows ts rows are.1 table later ]

      parted : (o : Option (List Node)) → option_and_then (λ (nodes : List Node). slice_get nodes k.node) o ≡ Some placed.node → (nodes : List Node) × (o ≡ Some nodes) × (slice_get nodes k.node ≡ Some placed.node)
      parted None is = cc
      parted (Some nodes) is = (nodes, refl, is)

  in_numbers : {A : Type 0} (xs : List A) → InOrder (λ (a b : ℕ × A). a.0 < b.0) (numbered xs)
  in_numbers {A} xs = subst (InOrder (λ (a b : ℕ × A). a.0 < b.0)) (sym (numbered_is xs)) (order_numbered 0 xs)

  order_of_sentence : (stage : ℕ) (s : ℕ × List Node) → Among (numbered outlines) s → InOrder StandsBefore (sentence_keys stage s)
  order_of_sentence stage s at =
      order_flat (λ (n m : ℕ × Node). n.0 < m.0) StandsBefore (keys_at order terms stage s.0) (numbered s.1) (λ n is. of_node n) apart (in_numbers s.1)
    where
      then_order : (test : Bool) (xs : List Key) → InOrder StandsBefore xs → InOrder StandsBefore (if test then xs else [])
      then_order true xs all = all
      then_order false xs all = tt

      of_node : (n : ℕ × Node) → InOrder StandsBefore (keys_at order terms stage s.0 n)
      of_node n =
          then_order (nat_eq (stage_of order (forall_tables n.1)) stage) (node_keys s.0 n)
          (order_map StandsLower StandsBefore (key_of s.0 n.0) (λ x y lower. inr (refl, inr (refl, inr (refl, lower)))) (term_lists terms (forall_tables n.1)) (order_lists terms (forall_tables n.1)))

      apart : (n m : ℕ × Node) → Among (numbered s.1) n → Among (numbered s.1) m → n.0 < m.0 → (k l : Key) → Among (keys_at order terms stage s.0 n) k → Among (keys_at order terms stage s.0 m) l → StandsBefore k l
      apart n m is is' low k l first second =
          let own = at_sentence stage s at k (among_flat (keys_at order terms stage s.0) (numbered s.1) n k is first) in
          let other = at_sentence stage s at l (among_flat (keys_at order terms stage s.0) (numbered s.1) m l is' second) in
          let node : n.0 ≡ k.node = ap (λ (k : Key). k.node) (at_node stage s.0 n k first).1 in
          let node' : m.0 ≡ l.node = ap (λ (k : Key). k.node) (at_node stage s.0 m l second).1 in
          let less : k.node < l.node = omega arith in
          inr (own.of_stage ∙ sym other.of_stage, inr (own.of_sentence ∙ sym other.of_sentence, inl less))

  -- the keys stand in order
  pub keys_order : InOrder StandsBefore (keys outlines order terms)
  keys_order =
      order_flat (λ a b. a < b) StandsBefore (keys_of_stage order terms outlines) (below (suc (length order)))
      (λ stage is. order_flat (λ (s r : ℕ × List Node). s.0 < r.0) StandsBefore (sentence_keys stage) (numbered outlines) (order_of_sentence stage) (apart stage) (in_numbers outlines))
      (λ stage later is is' low k l first second.
      let own : stage_at k ≡ stage = (in_stage stage k first).1 in
      let other : stage_at l ≡ later = (in_stage later l second).1 in
      let less : stage_at k < stage_at l = omega arith in
      inl less)
      (subst (InOrder (λ a b. a < b)) (sym (below_is (suc (length order)))) (order_counted 0 (suc (length order))))
    where
      apart : (stage : ℕ) (s r : ℕ × List Node) → Among (numbered outlines) s → Among (numbered outlines) r → s.0 < r.0 → (k l : Key) → Among (sentence_keys stage s) k → Among (sentence_keys stage r) l → StandsBefore k l
      apart stage s r is is' low k l first second =
          let own = at_sentence stage s is k first in
          let other = at_sentence stage r is' l second in
          let sentence : k.sentence ≡ s.0 = own.of_sentence in
          let sentence' : l.sentence ≡ r.0 = other.of_sentence in
          let less : k.sentence < l.sentence = omega arith in
          inr (own.of_stage ∙ sym other.of_stage, inl less)

  -- ---- numbers

  abbrev pub number : Key → ℕ
  number key = number_of (keys outlines order terms) key

  pub at_number : (k : Key) → Among (keys outlines order terms) k → slice_get (keys outlines order terms) (number k) ≡ Some k
  at_number k is = number_found (keys outlines order terms) k is

  -- the number of what stands at a place is that place
  pub number_at : (i : ℕ) (k : Key) → slice_get (keys outlines order terms) i ≡ Some k → number k ≡ i
  number_at i k at =
      order_one StandsBefore (keys outlines order terms) (number k) i k k keys_order (at_number k (among_at (keys outlines order terms) i k at)) at
      (λ is. never_before k k is is) (λ is. never_before k k is is)

  pub number_low : (k l : Key) → Among (keys outlines order terms) k → Among (keys outlines order terms) l → StandsBefore k l → number k < number l
  number_low k l is is' before = order_low StandsBefore (keys outlines order terms) (number k) (number l) k l keys_order (at_number k is) (at_number l is') before never_before

  -- so is the number of the term that a key asks for
  pub term_at : InOrder (Differ outlines) terms → (row : ℕ) (t : RowTerm) → slice_get terms row ≡ Some t → term_number terms (maker_of t) ≡ row
  term_at differ row t at =
      let found = term_found terms t (among_at terms row t at) in
      let one = ap (λ (k : Key). k.sentence) found.2 in
      let two = ap (λ (k : Key). k.node) found.2 in
      let three = ap (λ (k : Key). k.rows) found.2 in
      order_one (Differ outlines) terms (term_number terms (maker_of t)) row found.0 t differ found.1 at
      (λ other. other (sym one) (sym two) (sym three)) (λ other. other one two three)

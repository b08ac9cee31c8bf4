-- Nodes added to a list: a formula's own, and those below it.
use Rattle.std.proofs.Common.{◌≡◌, ◌∙◌, sym, ap, ap₂, subst, ℕ, zero, suc, ◌+◌, ◌<◌, ◌≤◌, Bool, true, false, List, [], ◌∷◌, ◌++◌, length, map, take, drop, get_or, append_assoc, add-one, arith, drop-cons}
use Rattle.std.proofs.lemmas.List.{map-append, length-append, length-map, take_more}
use Rattle.std.proofs.lemmas.List.Elements.{All-append}
use Rattle.std.proofs.lemmas.List.Sums.{sum_by-cons}
use Rattle.std.specs.Prelude.{Some, sum, if◌then◌else◌}
use Rattle.sort_formula.specs.declared.formula.Formula.{Formula, out-Formula}
use Rattle.sort_formula.specs.declared.formula.Formula.TheVariants as f
use Rattle.sort_formula.specs.Nodes.{nodes}
use Rattle.sort_formula.specs.Sentences.{is_sentence}
use Rattle.std.specs.List.{All}
use Rattle.sorted_skolem.specs.Preorder.{Quantifier, Node, laid, laid_parts, nodes_of, outlines_of}
use Rattle.instantiate.specs.declared.outline.Binder.{Binder}
use Rattle.instantiate.specs.declared.outline.FlatNode.{FlatNode}
use Rattle.instantiate.specs.inner.Flat.{node_of, quantifier_of, way_above}
use Rattle.instantiate.proofs.Flattening.{own, nodes_and, nodes_or, nodes_exists, nodes_forall, count_nodes, some_nodes}

module _ (before pushed : List FlatNode) (node : FlatNode) (around : List Binder) (same : node.around ≡ around) (is : pushed ≡ before ++ node ∷ []) where
  abbrev here : List Quantifier
  here = map quantifier_of around

  abbrev all_nodes : List Node
  all_nodes = (laid node.formula.now).nodes (length before) (way_above node.above) here

  one_more : length pushed ≡ suc (length before)
  one_more = let e = ap length is in let f = length-append before (node ∷ []) in omega arith

  then_inside : (inside : List Node) → all_nodes ≡ own (length before) (way_above node.above) here node.formula.now ∷ inside → map node_of pushed ++ inside ≡ map node_of before ++ all_nodes
  then_inside inside all =
      ap (λ ns. map node_of ns ++ inside) is
      ∙ (ap (λ ns. ns ++ inside) (map-append node_of before (node ∷ []))
      ∙ (append_assoc (map node_of before) (node_of node ∷ []) inside
      ∙ (ap (λ qs. map node_of before ++ record { layer = out-Formula node.formula.now; above = way_above node.above; around = map quantifier_of qs } ∷ inside) same
      ∙ ap (λ ns. map node_of before ++ ns) (sym all))))

  pub and_then : (number : ℕ) (slice parts : List Formula) → number ≡ length before → slice ≡ parts → node.formula.now ≡ f.And parts →
      map node_of pushed ++ laid_parts false number 0 (length pushed) here (map laid slice) ≡ map node_of before ++ all_nodes
  and_then number slice parts count whole form =
      ap₂ (λ n gs. map node_of pushed ++ laid_parts false n 0 (length pushed) here (map laid gs)) count whole
      ∙ (ap (λ n. map node_of pushed ++ laid_parts false (length before) 0 n here (map laid parts)) one_more
      ∙ then_inside (laid_parts false (length before) 0 (suc (length before)) here (map laid parts)) (nodes_and (length before) (way_above node.above) here node.formula.now parts form))

  pub or_then : (number : ℕ) (slice parts : List Formula) → number ≡ length before → slice ≡ parts → node.formula.now ≡ f.Or parts →
      map node_of pushed ++ laid_parts true number 0 (length pushed) here (map laid slice) ≡ map node_of before ++ all_nodes
  or_then number slice parts count whole form =
      ap₂ (λ n gs. map node_of pushed ++ laid_parts true n 0 (length pushed) here (map laid gs)) count whole
      ∙ (ap (λ n. map node_of pushed ++ laid_parts true (length before) 0 n here (map laid parts)) one_more
      ∙ then_inside (laid_parts true (length before) 0 (suc (length before)) here (map laid parts)) (nodes_or (length before) (way_above node.above) here node.formula.now parts form))

  abbrev quantified : Bool → ℕ → ℕ → ℕ → Formula → List Node
  quantified is_forall table number next body =
      (laid body).nodes next (Some (record { node = number; way = 0 })) (here ++ record { node = number; table = table; is_forall = is_forall } ∷ [])

  pub exists_then : (number table : ℕ) (inner body : Formula) → number ≡ length before → inner ≡ body → node.formula.now ≡ f.Exists table body →
      map node_of pushed ++ quantified false table number (length pushed) inner ≡ map node_of before ++ all_nodes
  exists_then number table inner body count whole form =
      ap₂ (λ n g. map node_of pushed ++ quantified false table n (length pushed) g) count whole
      ∙ (ap (λ n. map node_of pushed ++ quantified false table (length before) n body) one_more
      ∙ then_inside (quantified false table (length before) (suc (length before)) body) (nodes_exists (length before) (way_above node.above) here node.formula.now table body form))

  pub forall_then : (number table : ℕ) (inner body : Formula) → number ≡ length before → inner ≡ body → node.formula.now ≡ f.Forall table body →
      map node_of pushed ++ quantified true table number (length pushed) inner ≡ map node_of before ++ all_nodes
  forall_then number table inner body count whole form =
      ap₂ (λ n g. map node_of pushed ++ quantified true table n (length pushed) g) count whole
      ∙ (ap (λ n. map node_of pushed ++ quantified true table (length before) n body) one_more
      ∙ then_inside (quantified true table (length before) (suc (length before)) body) (nodes_forall (length before) (way_above node.above) here node.formula.now table body form))

-- ---- one more part

pub dropped : {A : Type 0} (xs : List A) (i : ℕ) (x : A) → i < length xs → x ≡ get_or xs i x → drop i xs ≡ x ∷ drop (i + 1) xs
dropped xs i x low is = drop-cons xs i x low ∙ ap₂ (λ y n. y ∷ drop n xs) (sym is) (sym (add-one i))

module _ (found made : List FlatNode) (is_or : Bool) (number way later i : ℕ) (around : List Quantifier) (parts : List Formula) (part : Formula)
    (low : i < length parts) (is : part ≡ get_or parts i part)
    (added : map node_of made ≡ map node_of found ++ (laid part).nodes (length found) (Some (record { node = number; way = way })) around)
    (next : later ≡ (if is_or then suc way else way)) where
  abbrev here' : List Node
  here' = (laid part).nodes (length found) (Some (record { node = number; way = way })) around

  pub longer : length made ≡ length found + nodes part
  longer =
      sym (length-map made node_of)
      ∙ (ap length added
      ∙ (length-append (map node_of found) here'
      ∙ ap₂ (λ m n. m + n) (length-map found node_of) (count_nodes part (length found) (Some (record { node = number; way = way })) around)))

  pub rest_room : sum (map nodes (drop i parts)) ≡ nodes part + sum (map nodes (drop (i + 1) parts))
  rest_room = ap (λ gs. sum (map nodes gs)) (dropped parts i part low is) ∙ sum_by-cons (λ k. k) (nodes part) (map nodes (drop (i + 1) parts))

  pub ways_more : way ≤ length found → later ≤ length made
  ways_more few =
      let size = longer in
      let some = some_nodes part in
      let most : (if is_or then suc way else way) ≤ suc way = by is_or in
      omega arith
    where
      by : (b : Bool) → (if b then suc way else way) ≤ suc way
      by true = omega arith
      by false = omega arith

  pub part_more : map node_of made ++ laid_parts is_or number later (length made) around (map laid (drop (i + 1) parts))
      ≡ map node_of found ++ laid_parts is_or number way (length found) around (map laid (drop i parts))
  part_more =
      let size : length made ≡ length found + length here' = longer ∙ ap (λ n. length found + n) (sym (count_nodes part (length found) (Some (record { node = number; way = way })) around)) in
      ap₂ (λ w n. map node_of made ++ laid_parts is_or number w n around (map laid (drop (i + 1) parts))) next size
      ∙ (ap (λ ns. ns ++ laid_parts is_or number (if is_or then suc way else way) (length found + length here') around (map laid (drop (i + 1) parts))) added
      ∙ (append_assoc (map node_of found) here' (laid_parts is_or number (if is_or then suc way else way) (length found + length here') around (map laid (drop (i + 1) parts)))
      ∙ ap (λ gs. map node_of found ++ laid_parts is_or number way (length found) around (map laid gs)) (sym (dropped parts i part low is))))

-- ---- one more sentence

pub outline_more : (all next : List (List FlatNode)) (sentences : List Formula) (i : ℕ) (g : Formula) (own : List FlatNode) → i < length sentences → g ≡ get_or sentences i g → next ≡ all ++ own ∷ [] →
    map node_of own ≡ nodes_of g → map (map node_of) all ≡ outlines_of (take i sentences) → map (map node_of) next ≡ outlines_of (take (i + 1) sentences)
outline_more all next sentences i g own low is pushed same so_far =
    ap (map (map node_of)) pushed
    ∙ (map-append (map node_of) all (own ∷ [])
    ∙ (ap₂ (λ xs x. xs ++ x ∷ []) so_far same
    ∙ (sym (map-append nodes_of (take i sentences) (g ∷ []))
    ∙ ap outlines_of (ap (λ h. take i sentences ++ h ∷ []) is ∙ sym (take_more sentences i g low)))))

pub closed_more : (sentences : List Formula) (i : ℕ) (g : Formula) → i < length sentences → g ≡ get_or sentences i g → is_sentence g ≡ true → All (λ s. is_sentence s ≡ true) (take i sentences) →
    All (λ s. is_sentence s ≡ true) (take (i + 1) sentences)
closed_more sentences i g low is closed all =
    subst (All (λ s. is_sentence s ≡ true)) (ap (λ h. take i sentences ++ h ∷ []) is ∙ sym (take_more sentences i g low))
    (All-append (λ s. is_sentence s ≡ true) (take i sentences) (g ∷ []) all one)
  where
    one : All (λ s. is_sentence s ≡ true) (g ∷ [])
    one zero d within = closed
    one (suc k) d within = absurd (omega arith)

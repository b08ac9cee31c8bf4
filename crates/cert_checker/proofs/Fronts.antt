-- Branches that wait stay what they are while both lists keep their fronts.
use Rattle.std.proofs.Common.{◌≡◌, ◌∙◌, sym, ap, ap₂, subst, refl, ℕ, ◌≤◌, List, [], ◌∷◌, ◌++◌, length, map, reverse, take, drop, arith}
use Rattle.std.proofs.lemmas.List.{take-append-drop, take-append-le, length-take-le, reverse-append, reverse-reverse, map-append, length-append, append-nil}
use Rattle.std.proofs.Math.Seq.{take-length}
use Rattle.sort_formula.specs.declared.formula.Formula.{Formula}
use Rattle.sort_formula.specs.Certificate.{fact_of, with_facts}
use Rattle.sort_formula.specs.Facts.{Fact, Branch}
use Rattle.cert_checker.specs.declared.run.Waiting.{Waiting}
use Rattle.cert_checker.specs.inner.Branches.{waiting_branch, waiting_branches, waits, AreFronts, AreFrontsOf}

abbrev pub branch : List Fact → List ℕ → Branch
branch facts tables = record { facts = facts; tables = tables }

pub fronts_of_longer : (n m more rows : ℕ) → n ≤ more → m ≤ rows → (ws : List Waiting) → AreFronts n m ws → AreFronts more rows ws
fronts_of_longer n m more rows facts_low rows_low [] fronts = tt
fronts_of_longer n m more rows facts_low rows_low (w ∷ ws) fronts =
    let first : w.facts ≤ n = fronts.0 in
    let second : w.rows ≤ m = fronts.1 in
    (omega arith, omega arith, fronts.2)

module _ (facts more : List Fact) (tables others : List ℕ) where
  each_stays : (n m : ℕ) → n ≤ length facts → m ≤ length tables → (ws : List Waiting) → AreFronts n m ws →
      map (waiting_branch (branch (facts ++ more) (tables ++ others))) ws ≡ map (waiting_branch (branch facts tables)) ws
  each_stays n m facts_low rows_low [] fronts = refl
  each_stays n m facts_low rows_low (w ∷ ws) fronts =
      let first : w.facts ≤ length facts = (let low : w.facts ≤ n = fronts.0 in omega arith) in
      let second : w.rows ≤ length tables = (let low : w.rows ≤ m = fronts.1 in omega arith) in
      ap₂ (λ (b : Branch) bs. b ∷ bs)
      (ap₂ (λ xs ys. branch (xs ++ w.own ∷ []) ys) (take-append-le w.facts facts more first) (take-append-le w.rows tables others second))
      (each_stays w.facts w.rows first second ws fronts.2)

  -- both lists grow
  pub fronts_stay : (ws : List Waiting) → AreFronts (length facts) (length tables) ws →
      map (waiting_branch (branch (facts ++ more) (tables ++ others))) ws ≡ map (waiting_branch (branch facts tables)) ws
  fronts_stay ws fronts = each_stays (length facts) (length tables) (omega arith) (omega arith) ws fronts

  pub fronts_grow : (ws : List Waiting) → AreFronts (length facts) (length tables) ws → AreFronts (length (facts ++ more)) (length (tables ++ others)) ws
  fronts_grow ws fronts =
      fronts_of_longer (length facts) (length tables) (length (facts ++ more)) (length (tables ++ others))
      (omega (arith, length-append facts more)) (omega (arith, length-append tables others)) ws fronts

-- both lists are cut back to the fronts of a branch that waits, and its fact is added
module _ (facts : List Fact) (tables : List ℕ) (w : Waiting) (ws : List Waiting) (fronts : AreFronts (length facts) (length tables) (w ∷ ws)) where
  facts_fit : length (take w.facts facts) ≡ w.facts
  facts_fit = length-take-le w.facts facts fronts.0

  rows_fit : length (take w.rows tables) ≡ w.rows
  rows_fit = length-take-le w.rows tables fronts.1

  inside : AreFronts (length (take w.facts facts)) (length (take w.rows tables)) ws
  inside = fronts_of_longer w.facts w.rows (length (take w.facts facts)) (length (take w.rows tables)) (omega (arith, facts_fit)) (omega (arith, rows_fit)) ws fronts.2

  whole_again : branch (take w.facts facts ++ drop w.facts facts) (take w.rows tables ++ drop w.rows tables) ≡ branch facts tables
  whole_again = ap₂ branch (take-append-drop w.facts facts) (take-append-drop w.rows tables)

  none_added : branch (take w.facts facts ++ w.own ∷ []) (take w.rows tables ++ []) ≡ waiting_branch (branch facts tables) w
  none_added = ap (branch (take w.facts facts ++ w.own ∷ [])) (append-nil (take w.rows tables))

  pub rest_stays : map (waiting_branch (waiting_branch (branch facts tables) w)) ws ≡ map (waiting_branch (branch facts tables)) ws
  rest_stays =
      sym (ap (λ b. map (waiting_branch b) ws) none_added)
      ∙ (fronts_stay (take w.facts facts) (w.own ∷ []) (take w.rows tables) [] ws inside
      ∙ (sym (fronts_stay (take w.facts facts) (drop w.facts facts) (take w.rows tables) (drop w.rows tables) ws inside)
      ∙ ap (λ b. map (waiting_branch b) ws) whole_again))

  pub rest_fronts : AreFronts (length (take w.facts facts ++ w.own ∷ [])) (length (take w.rows tables)) ws
  rest_fronts =
      fronts_of_longer (length (take w.facts facts)) (length (take w.rows tables)) (length (take w.facts facts ++ w.own ∷ [])) (length (take w.rows tables))
      (omega (arith, length-append (take w.facts facts) (w.own ∷ []))) (omega arith) ws inside

-- ---- a branch for each part

module _ (b : Branch) (rows : List ℕ) where
  pub parts_wait : (parts : List Formula) → map (waiting_branch b) (map (waits b rows) parts) ≡ map (λ part. with_facts b (fact_of rows part ∷ [])) parts
  parts_wait [] = refl
  parts_wait (part ∷ parts) =
      ap₂ (λ (first : Branch) rest. first ∷ rest)
      (ap₂ (λ xs ys. branch (xs ++ fact_of rows part ∷ []) ys) (take-length b.facts) (take-length b.tables)) (parts_wait parts)

  pub parts_are_fronts : (parts : List Formula) (ws : List Waiting) → AreFronts (length b.facts) (length b.tables) ws →
      AreFronts (length b.facts) (length b.tables) (map (waits b rows) parts ++ ws)
  parts_are_fronts [] ws fronts = fronts
  parts_are_fronts (part ∷ parts) ws fronts = (omega arith, omega arith, parts_are_fronts parts ws fronts)

  turned : (parts : List Formula) (ws : List Waiting) → reverse (ws ++ reverse (map (waits b rows) parts)) ≡ map (waits b rows) parts ++ reverse ws
  turned parts ws =
      reverse-append ws (reverse (map (waits b rows) parts)) ∙ ap (λ first. first ++ reverse ws) (reverse-reverse (map (waits b rows) parts))

  pub parts_first : (parts : List Formula) (ws : List Waiting) →
      waiting_branches b (ws ++ reverse (map (waits b rows) parts)) ≡ map (λ part. with_facts b (fact_of rows part ∷ [])) parts ++ waiting_branches b ws
  parts_first parts ws =
      ap (map (waiting_branch b)) (turned parts ws)
      ∙ (map-append (waiting_branch b) (map (waits b rows) parts) (reverse ws)
      ∙ ap (λ first. first ++ waiting_branches b ws) (parts_wait parts))

  pub parts_in_front : (parts : List Formula) (ws : List Waiting) → AreFrontsOf b ws → AreFrontsOf b (ws ++ reverse (map (waits b rows) parts))
  parts_in_front parts ws fronts =
      subst (AreFronts (length b.facts) (length b.tables)) (sym (turned parts ws)) (parts_are_fronts parts (reverse ws) fronts)

-- ---- the next branch

module _ (facts : List Fact) (tables : List ℕ) (waiting rest : List Waiting) (w : Waiting) (is : waiting ≡ rest ++ w ∷ [])
    (fronts : AreFrontsOf (branch facts tables) waiting) (new_facts : List Fact) (new_tables : List ℕ) (facts_are : new_facts ≡ take w.facts facts ++ w.own ∷ [])
    (tables_are : new_tables ≡ take w.rows tables) where
  next_first : reverse waiting ≡ w ∷ reverse rest
  next_first = ap reverse is ∙ reverse-append rest (w ∷ [])

  next_fronts : AreFronts (length facts) (length tables) (w ∷ reverse rest)
  next_fronts = subst (AreFronts (length facts) (length tables)) next_first fronts

  next_is : branch new_facts new_tables ≡ waiting_branch (branch facts tables) w
  next_is = ap₂ branch facts_are tables_are

  pub next_is_run : AreFrontsOf (branch new_facts new_tables) rest
  next_is_run = subst (λ (b : Branch). AreFrontsOf b rest) (sym next_is) (rest_fronts facts tables w (reverse rest) next_fronts)

  pub next_branches : branch new_facts new_tables ∷ waiting_branches (branch new_facts new_tables) rest ≡ waiting_branches (branch facts tables) waiting
  next_branches =
      ap (λ (b : Branch). b ∷ waiting_branches b rest) next_is
      ∙ (ap (λ bs. waiting_branch (branch facts tables) w ∷ bs) (rest_stays facts tables w (reverse rest) next_fronts)
      ∙ sym (ap (map (waiting_branch (branch facts tables))) next_first))

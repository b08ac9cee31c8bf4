-- What stands where in a counter sentence, as the code walks it.
use Rattle.std.proofs.Common.{◌≡◌, ◌∙◌, sym, ap, refl, ℕ, ◌+◌, ◌<◌, List, [], ◌∷◌, ◌++◌, length, map, get_or, drop, add-one, drop-cons, arith}
use Rattle.std.proofs.lemmas.List.Sums.{sum_by-cons}
use Rattle.std.specs.Prelude.{sum}
use Rattle.sort_formula.specs.declared.formula.Formula.{Formula, out-Formula, map-Formula, fold_out-Formula}
use Rattle.sort_formula.specs.declared.formula.Formula.TheOpen.{Formula-F}
use Rattle.sort_formula.specs.declared.formula.Formula.TheVariants as f
use Rattle.sort_formula.specs.Counters.{last_level, outer_levels}
use Rattle.sort_formula.specs.Nodes.{nodes, nodes_step}
use Rattle.sort_formula.specs.Translation.{exist_rows}

-- ---- levels

pub last_is : (xs : List (List ℕ)) (x : List ℕ) → last_level (xs ++ x ∷ []) ≡ x
last_is [] x = refl
last_is (y ∷ []) x = refl
last_is (y ∷ z ∷ xs) x = last_is (z ∷ xs) x

pub outer_is : (xs : List (List ℕ)) (x : List ℕ) → outer_levels (xs ++ x ∷ []) ≡ xs
outer_is [] x = refl
outer_is (y ∷ []) x = refl
outer_is (y ∷ z ∷ xs) x = ap (λ ls. y ∷ ls) (outer_is (z ∷ xs) x)

-- ---- inside quantifiers

one_body : (t u : ℕ) (g h : Formula) → f.Exists t g ≡ f.Exists u h → g ≡ h
one_body t u g h same = let e : Formula-F.Exists t g ≡ Formula-F.Exists u h = sym (f.outs-Exists t g) ∙ (ap out-Formula same ∙ f.outs-Exists u h) in cc

-- there is one more
pub next_is : (tables : List ℕ) (body : Formula) (i : ℕ) → i < length tables → exist_rows (drop i tables) body ≡ f.Exists (get_or tables i 0) (exist_rows (drop (i + 1) tables) body)
next_is tables body i low = ap (λ ts. exist_rows ts body) (drop-cons tables i 0 low) ∙ ap (λ n. f.Exists (get_or tables i 0) (exist_rows (drop n tables) body)) (sym (add-one i))

pub one_more : (tables : List ℕ) (body g inside : Formula) (i count table : ℕ) → g ≡ exist_rows (drop i tables) body → length tables ≡ count → i < count → g ≡ f.Exists table inside →
    inside ≡ exist_rows (drop (i + 1) tables) body
one_more tables body g inside i count table is size low same =
    one_body table (get_or tables i 0) inside (exist_rows (drop (i + 1) tables) body) (sym same ∙ (is ∙ next_is tables body i (omega arith)))

-- ---- how many nodes

nodes_out : (g : Formula) → nodes g ≡ nodes_step (map-Formula Formula ℕ nodes (out-Formula g))
nodes_out g = fold_out-Formula ℕ nodes_step g

nodes_and : (parts : List Formula) → nodes (f.And parts) ≡ 1 + sum (map nodes parts)
nodes_and parts = nodes_out (f.And parts) ∙ ap (λ layer. nodes_step (map-Formula Formula ℕ nodes layer)) (f.outs-And parts)

nodes_or : (parts : List Formula) → nodes (f.Or parts) ≡ 1 + sum (map nodes parts)
nodes_or parts = nodes_out (f.Or parts) ∙ ap (λ layer. nodes_step (map-Formula Formula ℕ nodes layer)) (f.outs-Or parts)

nodes_exists : (table : ℕ) (body : Formula) → nodes (f.Exists table body) ≡ 1 + nodes body
nodes_exists table body = nodes_out (f.Exists table body) ∙ ap (λ layer. nodes_step (map-Formula Formula ℕ nodes layer)) (f.outs-Exists table body)

nodes_rows : (tables : List ℕ) (body : Formula) → nodes (exist_rows tables body) ≡ length tables + nodes body
nodes_rows [] body = omega arith
nodes_rows (table ∷ tables) body =
    let own = nodes_exists table (exist_rows tables body) in
    let rest = nodes_rows tables body in
    omega arith

sum_last : (gs : List Formula) (g : Formula) → sum (map nodes (gs ++ g ∷ [])) ≡ sum (map nodes gs) + nodes g
sum_last [] g = let one : sum (nodes g ∷ []) ≡ nodes g + sum (map nodes []) = sum_by-cons (λ k. k) (nodes g) [] in omega arith
sum_last (h ∷ gs) g =
    let whole : sum (nodes h ∷ map nodes (gs ++ g ∷ [])) ≡ nodes h + sum (map nodes (gs ++ g ∷ [])) = sum_by-cons (λ k. k) (nodes h) (map nodes (gs ++ g ∷ [])) in
    let own : sum (nodes h ∷ map nodes gs) ≡ nodes h + sum (map nodes gs) = sum_by-cons (λ k. k) (nodes h) (map nodes gs) in
    let rest = sum_last gs g in
    omega arith

-- those before the last way of the last part
pub nodes_before : (tables : List ℕ) (others ways : List Formula) (way : Formula) →
    nodes (exist_rows tables (f.And (others ++ f.Or (ways ++ way ∷ []) ∷ []))) ≡ length tables + 2 + sum (map nodes others) + sum (map nodes ways) + nodes way
nodes_before tables others ways way =
    let a = nodes_rows tables (f.And (others ++ f.Or (ways ++ way ∷ []) ∷ [])) in
    let b = nodes_and (others ++ f.Or (ways ++ way ∷ []) ∷ []) in
    let c = sum_last others (f.Or (ways ++ way ∷ [])) in
    let d = nodes_or (ways ++ way ∷ []) in
    let e = sum_last ways way in
    omega arith

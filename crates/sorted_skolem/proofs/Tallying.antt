-- How many row terms a list of Exists nodes gives, up to the greatest number that is counted.
use Rattle.std.proofs.Common.{◌≡◌, ◌∙◌, sym, ap, ap₂, refl, subst, ℕ, zero, suc, ◌+◌, ◌-◌, ◌*◌, ◌^◌, ◌<◌, ◌≤◌, ◌⊎◌, inl, inr, min, not, Bool, true, false, cond, ◌||◌, List, [], ◌∷◌, ◌++◌, length, map, drop, append_assoc, append-nil, arith}
use Rattle.std.proofs.Math.ListN.{drop_of_length-le}
use Rattle.std.proofs.Math.Nat.{mul_assoc}
use Rattle.std.proofs.lemmas.Bool.{eqb-true}
use Rattle.std.proofs.lemmas.Bool.Decides.{nat_tests}
use Rattle.std.proofs.lemmas.List.{length-append, length-map}
use Rattle.std.proofs.lemmas.List.Elements.{filter-append}
use Rattle.std.proofs.lemmas.Grind.{flat_map-append}
use Rattle.std.specs.List.{filter, flat_map, list_any}
use Rattle.std.specs.Option.{option_map_or}
use Rattle.std.specs.Prelude.{Option, Some, None, slice_get, nat_eq, if◌then◌else◌}
use Rattle.lint_core.specs.Database.{below}
use Rattle.sort_formula.specs.declared.formula.Formula.{Formula}
use Rattle.sorted_skolem.specs.declared.asks.Ask.{Ask}
use Rattle.sorted_skolem.specs.declared.count.Tally.{Tally}
use Rattle.sorted_skolem.specs.declared.term.RowTerm.{RowTerm}
use Rattle.sorted_skolem.specs.Preorder.{Node, outlines_of, forall_tables, exists_table}
use Rattle.sorted_skolem.specs.Terms.{numbered, is_of_table, terms_of, term_lists, terms_at, terms_over, terms_along, row_terms}
use Rattle.sorted_skolem.specs.inner.Asks.{asks_from}
use Rattle.sorted_skolem.specs.inner.Listing.{terms_from, terms_where, terms_by, capped, tallied, lists_tallied, asks_tallied}
use Rattle.sorted_skolem.proofs.Among.{counted, below_is}
use Rattle.sorted_skolem.proofs.Steps.{drop_next}
use Rattle.sorted_skolem.proofs.Telling.{ask_where, ask_at, asks_of, asks_are}

-- ---- the terms of outlines are those of their Exists nodes

module _ {A B : Type 0} where
  flat_cong : (f g : A → List B) → ((x : A) → f x ≡ g x) → (xs : List A) → flat_map f xs ≡ flat_map g xs
  flat_cong f g same [] = refl
  flat_cong f g same (x ∷ xs) = ap₂ (λ a b. a ++ b) (same x) (flat_cong f g same xs)

module _ {A B C : Type 0} where
  flat_flat : (f : B → List C) (g : A → List B) (xs : List A) → flat_map f (flat_map g xs) ≡ flat_map (λ x. flat_map f (g x)) xs
  flat_flat f g [] = refl
  flat_flat f g (x ∷ xs) = flat_map-append f (g x) (flat_map g xs) ∙ ap (λ ys. flat_map f (g x) ++ ys) (flat_flat f g xs)

module _ (terms : List RowTerm) (table : ℕ) where
  of_node : (sentence number : ℕ) (foralls : List ℕ) (o : Option ℕ) → flat_map (terms_where terms table) (ask_where sentence number foralls o)
      ≡ (if option_map_or (nat_eq table) o false then map (λ (rows : List ℕ). record { sentence = sentence; node = number; rows = rows; table = table }) (term_lists terms foralls) else [])
  of_node sentence number foralls None = refl
  of_node sentence number foralls (Some other) =
      append-nil (if nat_eq table other then map (λ (rows : List ℕ). record { sentence = sentence; node = number; rows = rows; table = table }) (term_lists terms foralls) else [])

  of_nodes : (s : ℕ × List Node) → flat_map (terms_where terms table) (flat_map (ask_at s.0) (numbered s.1)) ≡ flat_map (terms_at terms table s.0) (numbered s.1)
  of_nodes s =
      flat_flat (terms_where terms table) (ask_at s.0) (numbered s.1)
      ∙ flat_cong (λ n. flat_map (terms_where terms table) (ask_at s.0 n)) (terms_at terms table s.0) (λ n. of_node s.0 n.0 (forall_tables n.1) (exists_table n.1)) (numbered s.1)

  pub terms_same : (outlines : List (List Node)) → flat_map (terms_where terms table) (asks_of outlines) ≡ terms_over outlines terms table
  terms_same outlines =
      flat_flat (terms_where terms table) (λ (s : ℕ × List Node). flat_map (ask_at s.0) (numbered s.1)) (numbered outlines)
      ∙ flat_cong (λ s. flat_map (terms_where terms table) (flat_map (ask_at s.0) (numbered s.1))) (λ s. flat_map (terms_at terms table s.0) (numbered s.1)) of_nodes (numbered outlines)

pub along_same : (outlines : List (List Node)) (terms : List RowTerm) (tables : List ℕ) → terms_by (asks_of outlines) terms tables ≡ terms_along outlines terms tables
along_same outlines terms [] = refl
along_same outlines terms (table ∷ tables) =
    ap (λ new. terms_by (asks_of outlines) (terms ++ new) tables) (terms_same terms table outlines) ∙ along_same outlines (terms ++ terms_over outlines terms table) tables

module _ (asks : List Ask) where
  pub by_last : (terms : List RowTerm) (tables : List ℕ) (table : ℕ) → terms_by asks terms (tables ++ table ∷ [])
      ≡ terms_by asks terms tables ++ flat_map (terms_where (terms_by asks terms tables) table) asks
  by_last terms [] table = refl
  by_last terms (t ∷ ts) table = by_last (terms ++ flat_map (terms_where terms t) asks) ts table

  pub by_more : (terms : List RowTerm) (tables : List ℕ) → length terms ≤ length (terms_by asks terms tables)
  by_more terms [] = omega arith
  by_more terms (t ∷ ts) =
      let new : List RowTerm = flat_map (terms_where terms t) asks in
      let size : length (terms ++ new) ≡ length terms + length new = length-append terms new in
      let rest : length (terms ++ new) ≤ length (terms_by asks (terms ++ new) ts) = by_more (terms ++ new) ts in
      omega arith

-- ---- how many terms a table has

-- of the terms so many are of the table
abbrev pub count_in : ℕ → List RowTerm → ℕ
count_in table [] = 0
count_in table (term ∷ terms) = (if nat_eq term.table table then 1 else 0) + count_in table terms

count_append : (table : ℕ) (xs ys : List RowTerm) → count_in table (xs ++ ys) ≡ count_in table xs + count_in table ys
count_append table [] ys = let none : count_in table ys ≡ 0 + count_in table ys = omega arith in none
count_append table (x ∷ xs) ys =
    let rest : count_in table (xs ++ ys) ≡ count_in table xs + count_in table ys = count_append table xs ys in
    let one : ℕ = if nat_eq x.table table then 1 else 0 in
    joined one (count_in table (xs ++ ys)) (count_in table xs) (count_in table ys) rest
  where
    joined : (one a b c : ℕ) → a ≡ b + c → one + a ≡ (one + b) + c
    joined one a b c e = omega arith

length_kept : (b : Bool) (n : ℕ) (ns : List ℕ) → length (cond b (n ∷ ns) ns) ≡ cond b 1 0 + length ns
length_kept true n ns = let one : suc (length ns) ≡ 1 + length ns = omega arith in one
length_kept false n ns = let none : length ns ≡ 0 + length ns = omega arith in none

rows_counted : (table : ℕ) (before terms : List RowTerm) → length (filter (is_of_table (before ++ terms) table) (counted (length before) (length terms))) ≡ count_in table terms
rows_counted table before [] = refl
rows_counted table before (t ∷ ts) =
    let whole : List RowTerm = before ++ t ∷ ts in
    let here : slice_get whole (length before) ≡ Some t = at_behind before t ts in
    let test : is_of_table whole table (length before) ≡ nat_eq t.table table = ap (λ o. option_map_or (λ (t : RowTerm). nat_eq t.table table) o false) here in
    let rest : length (filter (is_of_table whole table) (counted (suc (length before)) (length ts))) ≡ count_in table ts =
    subst (λ k. length (filter (is_of_table whole table) (counted k (length ts))) ≡ count_in table ts) (length_last before t)
    (subst (λ us. length (filter (is_of_table us table) (counted (length (before ++ t ∷ [])) (length ts))) ≡ count_in table ts) (append_assoc before (t ∷ []) ts)
    (rows_counted table (before ++ t ∷ []) ts)) in
    length_kept (is_of_table whole table (length before)) (length before) (filter (is_of_table whole table) (counted (suc (length before)) (length ts)))
    ∙ ap₂ (λ b n. cond b 1 0 + n) test rest
  where
    at_behind : (before : List RowTerm) (t : RowTerm) (ts : List RowTerm) → slice_get (before ++ t ∷ ts) (length before) ≡ Some t
    at_behind [] t ts = refl
    at_behind (x ∷ xs) t ts = at_behind xs t ts

    length_last : (before : List RowTerm) (t : RowTerm) → length (before ++ t ∷ []) ≡ suc (length before)
    length_last [] t = refl
    length_last (x ∷ xs) t = ap suc (length_last xs t)

pub terms_counted : (terms : List RowTerm) (table : ℕ) → length (terms_of terms table) ≡ count_in table terms
terms_counted terms table = ap (λ ns. length (filter (is_of_table terms table) ns)) (below_is (length terms)) ∙ rows_counted table [] terms

none_in : (table : ℕ) (terms : List RowTerm) → list_any (λ (t : RowTerm). nat_eq t.table table) terms ≡ false → count_in table terms ≡ 0
none_in table [] none = refl
none_in table (t ∷ ts) none = step (nat_eq t.table table) (count_in table ts) (list_any (λ (t : RowTerm). nat_eq t.table table) ts) none (none_in table ts)
  where
    step : (b : Bool) (n : ℕ) (some : Bool) → (b || some) ≡ false → (some ≡ false → n ≡ 0) → cond b 1 0 + n ≡ 0
    step true n some gone rest = cc
    step false n some gone rest = let none = rest gone in omega arith

no_elements : {A : Type 0} (xs : List A) → length xs ≡ 0 → xs ≡ []
no_elements [] none = refl
no_elements (x ∷ xs) none = absurd (omega arith)

none_led : (rows : List ℕ) → flat_map (λ (row : ℕ). map (λ (rest : List ℕ). row ∷ rest) []) rows ≡ []
none_led [] = refl
none_led (row ∷ rows) = none_led rows

-- where a table has no term there is no list
pub no_lists : (terms : List RowTerm) (tables : List ℕ) → list_any (λ table. not (list_any (λ (t : RowTerm). nat_eq t.table table) terms)) tables ≡ true → term_lists terms tables ≡ []
no_lists terms [] some = cc
no_lists terms (table ∷ tables) some = step (list_any (λ (t : RowTerm). nat_eq t.table table) terms) refl some (no_lists terms tables)
  where
    step : (b : Bool) → list_any (λ (t : RowTerm). nat_eq t.table table) terms ≡ b → (not b || list_any (λ table. not (list_any (λ (t : RowTerm). nat_eq t.table table) terms)) tables) ≡ true →
        (list_any (λ table. not (list_any (λ (t : RowTerm). nat_eq t.table table) terms)) tables ≡ true → term_lists terms tables ≡ []) → term_lists terms (table ∷ tables) ≡ []
    step true is later none = ap (λ lists. flat_map (λ (row : ℕ). map (λ (rest : List ℕ). row ∷ rest) lists) (terms_of terms table)) (none later) ∙ none_led (terms_of terms table)
    step false is later none =
        ap (flat_map (λ (row : ℕ). map (λ (rest : List ℕ). row ∷ rest) (term_lists terms tables)))
        (no_elements (terms_of terms table) (terms_counted terms table ∙ none_in table terms is))

-- ---- numbers that are the same as far as is counted

abbrev Same : ℕ → ℕ → ℕ → Type 0
Same most a b = min a most ≡ min b most

same_add : (most a b c d : ℕ) → Same most a b → Same most c d → Same most (a + c) (b + d)
same_add most a b c d one two = omega arith

settled : (most a b : ℕ) → Same most a b → (a ≡ b) ⊎ ((most ≤ a) × (most ≤ b))
settled most a b same = elim (order most a) [ inl high ↦ inr (high, omega arith) | inr low ↦ inl (omega arith) ]
  where
    order : (m n : ℕ) → (m ≤ n) ⊎ (n < m)
    order m n = grind arith

equal_first : (most a c d : ℕ) → most ≤ c → most ≤ d → Same most (a * c) (a * d)
equal_first most zero c d one two = omega arith
equal_first most (suc a) c d one two = omega arith

equal_second : (most a b c : ℕ) → most ≤ a → most ≤ b → Same most (a * c) (b * c)
equal_second most a b zero one two = omega arith
equal_second most a b (suc c) one two = omega arith

all_most : (most a b c d : ℕ) → suc most ≤ a → suc most ≤ b → suc most ≤ c → suc most ≤ d → Same (suc most) (a * c) (b * d)
all_most most a b zero d one two three four = absurd (omega arith)
all_most most a b (suc c) zero one two three four = absurd (omega arith)
all_most most a b (suc c) (suc d) one two three four = omega arith

same_mul : (most a b c d : ℕ) → Same most a b → Same most c d → Same most (a * c) (b * d)
same_mul zero a b c d one two = omega arith
same_mul (suc most) a b c d one two =
    elim (settled (suc most) a b one) [
      | inl first ↦
          elim (settled (suc most) c d two) [
            | inl second ↦ ap₂ (λ x y. min (x * y) (suc most)) first second
            | inr high ↦ subst (λ x. Same (suc most) (a * c) (x * d)) first (equal_first (suc most) a c d high.0 high.1)
          ]
      | inr high ↦
          elim (settled (suc most) c d two) [
            | inl second ↦ subst (λ x. Same (suc most) (a * c) (b * x)) second (equal_second (suc most) a b c high.0 high.1)
            | inr more ↦ all_most most a b c d high.0 high.1 more.0 more.1
          ]
    ]

-- ---- tallies

-- the tallies say how many terms each table has, as far as is counted
abbrev pub AreTallied : List Tally → List RowTerm → Type 0
AreTallied tallies terms = (table : ℕ) → capped (tallied tallies table) ≡ capped (length (terms_of terms table))

pub tallied_none : AreTallied [] []
tallied_none table = refl

length_led : (lists : List (List ℕ)) (rows : List ℕ) → length (flat_map (λ (row : ℕ). map (λ (rest : List ℕ). row ∷ rest) lists) rows) ≡ length rows * length lists
length_led lists [] = let none : 0 ≡ 0 * length lists = omega arith in none
length_led lists (row ∷ rows) =
    length-append (map (λ (rest : List ℕ). row ∷ rest) lists) (flat_map (λ (row : ℕ). map (λ (rest : List ℕ). row ∷ rest) lists) rows)
    ∙ (ap₂ (λ m n. m + n) (length-map lists (λ (rest : List ℕ). row ∷ rest)) (length_led lists rows) ∙ one_more (length rows) (length lists))
  where
    one_more : (m n : ℕ) → n + m * n ≡ suc m * n
    one_more m n = omega arith

module _ (tallies : List Tally) (terms : List RowTerm) (are : AreTallied tallies terms) where
  lists_same : (tables : List ℕ) → capped (lists_tallied tallies tables) ≡ capped (length (term_lists terms tables))
  lists_same [] = refl
  lists_same (table ∷ tables) =
      same_mul (2 ^ 64 - 1) (tallied tallies table) (length (terms_of terms table)) (lists_tallied tallies tables) (length (term_lists terms tables)) (are table) (lists_same tables)
      ∙ ap capped (sym (length_led (term_lists terms tables) (terms_of terms table)))

  ask_same : (table : ℕ) (ask : Ask) (b : Bool) →
      capped (cond b (lists_tallied tallies ask.foralls) 0)
      ≡ capped (length (cond b (map (λ (rows : List ℕ). (let t : RowTerm = record { sentence = ask.sentence; node = ask.node; rows = rows; table = table } in t)) (term_lists terms ask.foralls)) []))
  ask_same table ask true =
      lists_same ask.foralls
      ∙ ap capped (sym (length-map (term_lists terms ask.foralls) (λ (rows : List ℕ). (let t : RowTerm = record { sentence = ask.sentence; node = ask.node; rows = rows; table = table } in t))))
  ask_same table ask false = refl

  pub asks_same : (table : ℕ) (asks : List Ask) → capped (asks_tallied tallies table asks) ≡ capped (length (flat_map (terms_where terms table) asks))
  asks_same table [] = refl
  asks_same table (ask ∷ asks) =
      same_add (2 ^ 64 - 1) (if nat_eq table ask.table then lists_tallied tallies ask.foralls else 0) (length (terms_where terms table ask)) (asks_tallied tallies table asks)
      (length (flat_map (terms_where terms table) asks)) (ask_same table ask (nat_eq table ask.table)) (asks_same table asks)
      ∙ ap capped (sym (length-append (terms_where terms table ask) (flat_map (terms_where terms table) asks)))

tallied_last : (tallies : List Tally) (tally : Tally) (table : ℕ) → tallied (tallies ++ tally ∷ []) table ≡ tallied tallies table + (if nat_eq tally.table table then tally.count else 0)
tallied_last [] tally table = let same : (if nat_eq tally.table table then tally.count else 0) + 0 ≡ 0 + (if nat_eq tally.table table then tally.count else 0) = omega arith in same
tallied_last (t ∷ ts) tally table = joined (if nat_eq t.table table then t.count else 0) (tallied (ts ++ tally ∷ []) table) (tallied ts table) (if nat_eq tally.table table then tally.count else 0) (tallied_last ts tally table)
  where
    joined : (one a b c : ℕ) → a ≡ b + c → one + a ≡ (one + b) + c
    joined one a b c e = omega arith

none_both : (b : Bool) → ◌≡◌ {A = ℕ} 0 (cond b 0 0)
none_both true = refl
none_both false = refl

-- the terms of Exists nodes over a table are all of that table
count_map : (sentence node table other : ℕ) (lists : List (List ℕ)) →
    count_in other (map (λ (rows : List ℕ). (let t : RowTerm = record { sentence = sentence; node = node; rows = rows; table = table } in t)) lists) ≡ (if nat_eq table other then length lists else 0)
count_map sentence node table other [] = none_both (nat_eq table other)
count_map sentence node table other (list ∷ lists) = step (nat_eq table other) (count_map sentence node table other lists)
  where
    step : (b : Bool) → count_in other (map (λ (rows : List ℕ). (let t : RowTerm = record { sentence = sentence; node = node; rows = rows; table = table } in t)) lists) ≡ cond b (length lists) 0 →
        cond b 1 0 + count_in other (map (λ (rows : List ℕ). (let t : RowTerm = record { sentence = sentence; node = node; rows = rows; table = table } in t)) lists) ≡ cond b (suc (length lists)) 0
    step true rest = omega arith
    step false rest = omega arith

count_where : (terms : List RowTerm) (table other : ℕ) (asks : List Ask) →
    count_in other (flat_map (terms_where terms table) asks) ≡ (if nat_eq table other then length (flat_map (terms_where terms table) asks) else 0)
count_where terms table other [] = none_both (nat_eq table other)
count_where terms table other (ask ∷ asks) =
    let own : List RowTerm = terms_where terms table ask in
    let rest : List RowTerm = flat_map (terms_where terms table) asks in
    count_append other own rest
    ∙ (ap₂ (λ m n. m + n) (of_ask (nat_eq table ask.table)) (count_where terms table other asks) ∙ joined (nat_eq table other) (length own) (length rest) (length (own ++ rest)) (length-append own rest))
  where
    of_ask : (b : Bool) → count_in other (cond b (map (λ (rows : List ℕ). (let t : RowTerm = record { sentence = ask.sentence; node = ask.node; rows = rows; table = table } in t)) (term_lists terms ask.foralls)) [])
        ≡ cond (nat_eq table other) (length (cond b (map (λ (rows : List ℕ). (let t : RowTerm = record { sentence = ask.sentence; node = ask.node; rows = rows; table = table } in t)) (term_lists terms ask.foralls)) [])) 0
    of_ask true =
        count_map ask.sentence ask.node table other (term_lists terms ask.foralls)
        ∙ ap (λ n. cond (nat_eq table other) n 0)
        (sym (length-map (term_lists terms ask.foralls) (λ (rows : List ℕ). (let t : RowTerm = record { sentence = ask.sentence; node = ask.node; rows = rows; table = table } in t))))
    of_ask false = none_both (nat_eq table other)

    joined : (b : Bool) (m n whole : ℕ) → whole ≡ m + n → cond b m 0 + cond b n 0 ≡ cond b whole 0
    joined true m n whole e = sym e
    joined false m n whole e = omega arith

-- with the terms of one table more
pub tallied_more : (tallies : List Tally) (terms : List RowTerm) (asks : List Ask) (table count : ℕ) → AreTallied tallies terms →
    count ≡ capped (asks_tallied tallies table asks) → AreTallied (tallies ++ record { table = table; count = count } ∷ []) (terms ++ flat_map (terms_where terms table) asks)
tallied_more tallies terms asks table count are is other =
    let new : List RowTerm = flat_map (terms_where terms table) asks in
    let own : capped count ≡ capped (length new) = twice (asks_tallied tallies table asks) count is ∙ asks_same tallies terms are table asks in
    let sizes : length (terms_of (terms ++ new) other) ≡ length (terms_of terms other) + (if nat_eq table other then length new else 0) =
    terms_counted (terms ++ new) other ∙ (count_append other terms new ∙ ap₂ (λ m n. m + n) (sym (terms_counted terms other)) (count_where terms table other asks)) in
    ap capped (tallied_last tallies (record { table = table; count = count }) other)
    ∙ (same_add (2 ^ 64 - 1) (tallied tallies other) (length (terms_of terms other)) (if nat_eq table other then count else 0) (if nat_eq table other then length new else 0) (are other) (either_way (nat_eq table other) count (length new) own)
    ∙ ap capped (sym sizes))
  where
    twice : (n count : ℕ) → count ≡ capped n → capped count ≡ capped n
    twice n count is = omega arith

    either_way : (b : Bool) (m n : ℕ) → capped m ≡ capped n → capped (cond b m 0) ≡ capped (cond b n 0)
    either_way true m n same = same
    either_way false m n same = refl

-- the terms so far, and those of the table
pub total_more : (tallies : List Tally) (terms : List RowTerm) (asks : List Ask) (table total : ℕ) → AreTallied tallies terms → total ≡ capped (length terms) →
    capped (total + capped (asks_tallied tallies table asks)) ≡ capped (length (terms ++ flat_map (terms_where terms table) asks))
total_more tallies terms asks table total are is =
    let new : List RowTerm = flat_map (terms_where terms table) asks in
    joined (length terms) total (asks_tallied tallies table asks) (length new) is (asks_same tallies terms are table asks) ∙ ap capped (sym (length-append terms new))
  where
    joined : (n total a b : ℕ) → total ≡ capped n → capped a ≡ capped b → capped (total + capped a) ≡ capped (n + b)
    joined n total a b one two = omega arith

-- ---- one more in a loop

pub add_seen : (count own rest count' whole : ℕ) → capped (count + (own + rest)) ≡ whole → count' ≡ capped (count + own) → capped (count' + rest) ≡ whole
add_seen count own rest count' whole all is = omega arith

pub add_capped : (count own rest count' whole : ℕ) → capped (count + (own + rest)) ≡ whole → count' ≡ capped (count + capped own) → capped (count' + rest) ≡ whole
add_capped count own rest count' whole all is = omega arith

pub mul_seen : (count own rest count' whole : ℕ) → capped (count * (own * rest)) ≡ whole → count' ≡ capped (count * capped own) → capped (count' * rest) ≡ whole
mul_seen count own rest count' whole all is =
    let most : ℕ = 2 ^ 64 - 1 in
    let once : capped (capped own) ≡ capped own = twice own in
    let product : capped (count * capped own) ≡ capped (count * own) = same_mul most count count (capped own) own refl once in
    let seen : capped count' ≡ capped (count * own) = ap capped is ∙ (twice (count * capped own) ∙ product) in
    same_mul most count' (count * own) rest rest seen refl ∙ (ap capped (mul_assoc count own rest) ∙ all)
  where
    twice : (n : ℕ) → capped (capped n) ≡ capped n
    twice n = omega arith

-- what is left of a list, by its first
pub tallied_drop : (tallies : List Tally) (i : ℕ) (tally : Tally) (table : ℕ) → slice_get tallies i ≡ Some tally →
    tallied (drop i tallies) table ≡ (if nat_eq tally.table table then tally.count else 0) + tallied (drop (i + 1) tallies) table
tallied_drop tallies i tally table at = ap (λ ts. tallied ts table) (drop_next tallies i tally at)

pub lists_drop : (tallies : List Tally) (tables : List ℕ) (i table : ℕ) → slice_get tables i ≡ Some table →
    lists_tallied tallies (drop i tables) ≡ tallied tallies table * lists_tallied tallies (drop (i + 1) tables)
lists_drop tallies tables i table at = ap (lists_tallied tallies) (drop_next tables i table at)

pub asks_drop : (tallies : List Tally) (table : ℕ) (asks : List Ask) (i : ℕ) (ask : Ask) → slice_get asks i ≡ Some ask →
    asks_tallied tallies table (drop i asks) ≡ (if nat_eq table ask.table then lists_tallied tallies ask.foralls else 0) + asks_tallied tallies table (drop (i + 1) asks)
asks_drop tallies table asks i ask at = ap (asks_tallied tallies table) (drop_next asks i ask at)

pub by_drop : (asks : List Ask) (terms : List RowTerm) (tables : List ℕ) (i table : ℕ) → slice_get tables i ≡ Some table →
    terms_by asks terms (drop i tables) ≡ terms_by asks (terms ++ flat_map (terms_where terms table) asks) (drop (i + 1) tables)
by_drop asks terms tables i table at = ap (terms_by asks terms) (drop_next tables i table at)

-- of all tables, where none is left
pub by_end : (asks : List Ask) (terms : List RowTerm) (tables : List ℕ) (i : ℕ) → length tables ≤ i → terms_by asks terms (drop i tables) ≡ terms
by_end asks terms tables i high = ap (terms_by asks terms) (drop_of_length-le tables high)

-- the terms of the outlines
pub terms_are_by : (sentences : List Formula) (asks : List Ask) (order : List ℕ) → asks ≡ asks_from 0 sentences → terms_by asks [] order ≡ row_terms (outlines_of sentences) order
terms_are_by sentences asks order is = ap (λ all. terms_by all [] order) (is ∙ asks_are sentences) ∙ along_same (outlines_of sentences) [] order

-- ---- numbers of terms

pub rows_next : (terms : List RowTerm) (table n : ℕ) (term : RowTerm) → slice_get terms n ≡ Some term →
    filter (is_of_table terms table) (below (n + 1)) ≡ filter (is_of_table terms table) (below n) ++ (if nat_eq term.table table then n ∷ [] else [])
rows_next terms table n term at =
    let one : n + 1 ≡ suc n = omega arith in
    let test : is_of_table terms table n ≡ nat_eq term.table table = ap (λ o. option_map_or (λ (t : RowTerm). nat_eq t.table table) o false) at in
    ap (λ m. filter (is_of_table terms table) (below m)) one
    ∙ (filter-append (is_of_table terms table) (below n) (n ∷ [])
    ∙ ap (λ b. filter (is_of_table terms table) (below n) ++ cond b (n ∷ []) []) test)

-- the lists of the tables from one on
pub lists_next : (terms : List RowTerm) (tables : List ℕ) (i table : ℕ) → slice_get tables i ≡ Some table →
    term_lists terms (drop i tables) ≡ flat_map (λ (row : ℕ). map (λ (rest : List ℕ). row ∷ rest) (term_lists terms (drop (i + 1) tables))) (terms_of terms table)
lists_next terms tables i table at = ap (term_lists terms) (drop_next tables i table at)

pub terms_given : (terms : List RowTerm) (table : ℕ) (ask : Ask) → nat_eq table ask.table ≡ true → terms_where terms table ask ≡ terms_from terms ask
terms_given terms table ask is =
    ap (λ (b : Bool). cond b (map (λ (rows : List ℕ). (let t : RowTerm = record { sentence = ask.sentence; node = ask.node; rows = rows; table = table } in t)) (term_lists terms ask.foralls)) []) is
    ∙ ap (λ n. map (λ (rows : List ℕ). (let t : RowTerm = record { sentence = ask.sentence; node = ask.node; rows = rows; table = n } in t)) (term_lists terms ask.foralls)) (eqb-true table ask.table is)

pub terms_no : (terms : List RowTerm) (table : ℕ) (ask : Ask) → nat_eq table ask.table ≡ false → terms_where terms table ask ≡ []
terms_no terms table ask is =
    ap (λ (b : Bool). cond b (map (λ (rows : List ℕ). (let t : RowTerm = record { sentence = ask.sentence; node = ask.node; rows = rows; table = table } in t)) (term_lists terms ask.foralls)) []) is

pub same_tables : (m n : ℕ) → m ≡ n → nat_eq m n ≡ true
same_tables m n same = grind (arith, nat_tests)

pub other_tables : (m n : ℕ) → (m ≡ n → ⊥) → nat_eq m n ≡ false
other_tables m n other = grind (arith, nat_tests)

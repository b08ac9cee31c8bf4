-- A subquery with all its levels, a conjunct, and a condition with a predicate replaced have no more FROM entries than
-- the condition with the levels that it stands in.
use Rattle.std.proofs.Common.{◌≡◌, ◌∙◌, refl, ap, sym, subst, ℕ, zero, suc, ◌+◌, ◌-◌, ◌≤◌, Bool, true, false, ◌&&◌, List, [], ◌∷◌, ◌++◌, length, map, nat_lt, if◌then◌else◌, arith}
use Rattle.std.proofs.lemmas.List.{map-append}
use Rattle.std.proofs.lemmas.List.Sums.{sum_by-cons, sum_by-append}
use Rattle.std.specs.List.{AllByRecursion, flat_map}
use Rattle.std.specs.Prelude.{sum}
use Rattle.lint_base.specs.declared.place.Span.{Span}
use Rattle.lint_base.proofs.Lists.{every_append, every_then}
use Rattle.lint_core.specs.declared.condition.Block.{Block, out-Block}
use Rattle.lint_core.specs.declared.condition.Cond.{Cond}
use Rattle.lint_core.specs.declared.condition.Cond.TheVariants as c
use Rattle.lint_core.specs.declared.condition.Entry.{Entry}
use Rattle.lint_core.specs.declared.condition.Term.{Term}
use Rattle.lint_core.specs.Conjuncts.{conjuncts}
use Rattle.lint_core.specs.Fits.{tables_of}
use Rattle.lint_core.specs.Predicates.{predicates, with_replaced, first_or}
use Rattle.lint_core.specs.Subqueries.{Subquery, subquery, is_column, scalar_subqueries, not_in_subqueries}
use Rattle.lint_core.proofs.Parted.{conjuncts_true, conjuncts_false, conjuncts_and, conjuncts_or, conjuncts_not, conjuncts_compare, conjuncts_is_null, conjuncts_exists, conjuncts_in, conjuncts_scalar, scalars_true, scalars_false, scalars_and, scalars_or, scalars_not, scalars_compare, scalars_is_null, scalars_exists, scalars_in, scalars_scalar, not_ins_true, not_ins_false, not_ins_and, not_ins_or, not_ins_not, not_ins_compare, not_ins_is_null, not_ins_exists, not_ins_in, not_ins_scalar, replaced_among, block_replaced, replaced_true, replaced_false, replaced_and, replaced_or, replaced_not, replaced_compare, replaced_is_null, replaced_exists, replaced_in_subquery, replaced_scalar}
use Rattle.truth_formula.specs.Scopes.{count_entries}
use Rattle.question_truths.specs.Room.{entries_in}
use Rattle.question_truths.proofs.ByParts.{by_parts}
use Rattle.question_truths.proofs.Counts.{block_entries, entries_true, entries_false, entries_and, entries_or, entries_not, entries_compare, entries_is_null, entries_exists, entries_in_subquery, entries_scalar}

pub sum_first : (n : ℕ) (ns : List ℕ) → sum (n ∷ ns) ≡ n + sum ns
sum_first n ns = sum_by-cons (λ n. n) n ns

length_of : (entries : List Entry) → length (tables_of entries) ≡ length entries
length_of [] = refl
length_of (e ∷ entries) = ap suc (length_of entries)

-- one more level has its entries more
pub one_level_more : (tables : List (List ℕ)) (entries : List Entry) → entries_in (tables ++ tables_of entries ∷ []) ≡ entries_in tables + length entries
one_level_more tables entries =
    let both = ap sum (map-append length tables (tables_of entries ∷ [])) ∙ sum_by-append (λ n. n) (map length tables) (length (tables_of entries) ∷ []) in
    omega (arith, both, length_of entries)

-- ---- subqueries

abbrev pub Within : ℕ → Subquery → Type 0
Within most sub = entries_in sub.tables + count_entries sub.cond ≤ most

abbrev AllWithin : ℕ → List Subquery → Type 0
AllWithin most subs = AllByRecursion (Within most) subs

wider : (least most : ℕ) → least ≤ most → (subs : List Subquery) → AllWithin least subs → AllWithin most subs
wider least most less subs all = every_then (Within least) (Within most) (λ sub within. omega (arith, less, within)) subs all

abbrev BothWithin : ℕ → Cond → List (List ℕ) → Type 0
BothWithin most cond tables = AllWithin most (scalar_subqueries cond tables) × AllWithin most (not_in_subqueries cond tables)

abbrev pub RoomInside : Cond → Type 0
RoomInside cond = (tables : List (List ℕ)) → BothWithin (entries_in tables + count_entries cond) cond tables

parts_within : (parts : List Cond) → AllByRecursion RoomInside parts → (tables : List (List ℕ)) →
    AllWithin (entries_in tables + sum (map count_entries parts)) (flat_map (λ part. scalar_subqueries part tables) parts)
    × AllWithin (entries_in tables + sum (map count_entries parts)) (flat_map (λ part. not_in_subqueries part tables) parts)
parts_within [] each tables = (tt, tt)
parts_within (part ∷ parts) each tables =
    let outside = entries_in tables in
    let most = outside + sum (map count_entries (part ∷ parts)) in
    let both = sum_first (count_entries part) (map count_entries parts) in
    let one : outside + count_entries part ≤ most = omega (arith, both) in
    let others : outside + sum (map count_entries parts) ≤ most = omega (arith, both) in
    let here = each.0 tables in
    let later = parts_within parts each.1 tables in (
      every_append (Within most) (scalar_subqueries part tables) (flat_map (λ part. scalar_subqueries part tables) parts) (wider _ most one _ here.0) (wider _ most others _ later.0),
      every_append (Within most) (not_in_subqueries part tables) (flat_map (λ part. not_in_subqueries part tables) parts) (wider _ most one _ here.1) (wider _ most others _ later.1),
    )

one_if : (most : ℕ) (b : Bool) (sub : Subquery) → Within most sub → AllWithin most (if b then sub ∷ [] else [])
one_if most true sub within = (within, tt)
one_if most false sub within = tt

-- by what the lists and the number are
listed : (cond : Cond) (tables : List (List ℕ)) (n : ℕ) (scalars not_ins : List Subquery) → count_entries cond ≡ n → scalar_subqueries cond tables ≡ scalars → not_in_subqueries cond tables ≡ not_ins →
    AllWithin (entries_in tables + n) scalars × AllWithin (entries_in tables + n) not_ins → BothWithin (entries_in tables + count_entries cond) cond tables
listed cond tables n scalars not_ins count is is_too all =
    let less : entries_in tables + n ≤ entries_in tables + count_entries cond = omega (arith, count) in
    let most = entries_in tables + count_entries cond in
    (subst (AllWithin most) (sym is) (wider _ most less scalars all.0), subst (AllWithin most) (sym is_too) (wider _ most less not_ins all.1))

module _ (block : Block) (tables : List (List ℕ)) where
  abbrev own : List (List ℕ)
  own = tables ++ tables_of (out-Block block).entries ∷ []

  same_room : entries_in own + count_entries (out-Block block).cond ≤ entries_in tables + block_entries block
  same_room = omega (arith, one_level_more tables (out-Block block).entries)

  itself_within : (item : Term) (place : Span) → Within (entries_in tables + block_entries block) (subquery tables block item place)
  itself_within item place = same_room

  inside_within : RoomInside (out-Block block).cond → BothWithin (entries_in tables + block_entries block) (out-Block block).cond own
  inside_within inside =
      let most = entries_in tables + block_entries block in
      (wider _ most same_room _ (inside own).0, wider _ most same_room _ (inside own).1)

pub room_inside : (cond : Cond) → RoomInside cond
room_inside = by_parts RoomInside (record {
  when_true = λ tables. listed _ tables _ [] [] entries_true (scalars_true tables) (not_ins_true tables) (tt, tt);
  when_false = λ tables. listed _ tables _ [] [] entries_false (scalars_false tables) (not_ins_false tables) (tt, tt);
  when_and = λ parts each tables. listed _ tables _ _ _ (entries_and parts) (scalars_and tables parts) (not_ins_and tables parts) (parts_within parts each tables);
  when_or = λ parts each tables. listed _ tables _ _ _ (entries_or parts) (scalars_or tables parts) (not_ins_or tables parts) (parts_within parts each tables);
  when_not = λ part inside tables. listed _ tables _ _ _ (entries_not part) (scalars_not tables part) (not_ins_not tables part) (inside tables);
  when_compare = λ op left right span tables. listed _ tables _ [] [] (entries_compare op left right span) (scalars_compare tables op left right span) (not_ins_compare tables op left right span) (tt, tt);
  when_is_null = λ t negated span tables. listed _ tables _ [] [] (entries_is_null t negated span) (scalars_is_null tables t negated span) (not_ins_is_null tables t negated span) (tt, tt);
  when_exists = λ block span inside tables.
      listed _ tables _ _ _ (entries_exists block span) (scalars_exists tables block span) (not_ins_exists tables block span) (inside_within block tables inside);
  when_in = λ t block item negated span inside tables.
      let most = entries_in tables + block_entries block in
      let within = inside_within block tables inside in
      listed _ tables _ _ _ (entries_in_subquery t block item negated span) (scalars_in tables t block item negated span) (not_ins_in tables t block item negated span) (
        within.0,
        every_append (Within most) (if negated && is_column item then subquery tables block item span ∷ [] else []) (not_in_subqueries (out-Block block).cond (own block tables))
            (one_if most (negated && is_column item) (subquery tables block item span) (itself_within block tables item span)) within.1,
      );
  when_scalar = λ op left block item span inside tables.
      let most = entries_in tables + block_entries block in
      let within = inside_within block tables inside in
      let place = (out-Block block).span in
      listed _ tables _ _ _ (entries_scalar op left block item span) (scalars_scalar tables op left block item span) (not_ins_scalar tables op left block item span)
      (every_append (Within most) (scalar_subqueries (out-Block block).cond (own block tables)) (subquery tables block item place ∷ []) within.0 (itself_within block tables item place, tt), within.1);
})

-- ---- a predicate replaced

module _ (by : Cond) (none : count_entries by ≡ 0) where
  abbrev NoMore : Cond → Type 0
  NoMore cond = (n : ℕ) → count_entries (with_replaced by n cond) ≤ count_entries cond

  by_counts : (now was n m : ℕ) → now ≡ n → was ≡ m → n ≤ m → now ≤ was
  by_counts now was n m is is_too less = omega (arith, is, is_too, less)

  at_most : (most : ℕ) (inside : ℕ → Cond) → ((n : ℕ) → count_entries (inside n) ≤ most) → (n : ℕ) → count_entries (first_or by inside n) ≤ most
  at_most most inside less zero = omega (arith, none)
  at_most most inside less (suc n) = less n

  parts_no_more : (parts : List Cond) → AllByRecursion NoMore parts → (n : ℕ) → sum (map count_entries (replaced_among by parts n)) ≤ sum (map count_entries parts)
  parts_no_more [] each n = omega arith
  parts_no_more (part ∷ parts) each n =
      let further = n - length (predicates part) in
      let was = sum_first (count_entries part) (map count_entries parts) in
      elim (nat_lt n (length (predicates part))) as (λ b. sum (map count_entries (if b then with_replaced by n part ∷ parts else part ∷ replaced_among by parts further)) ≤ sum (map count_entries (part ∷ parts))) [
        | true ↦ omega (arith, was, sum_first (count_entries (with_replaced by n part)) (map count_entries parts), each.0 n)
        | false ↦ omega (arith, was, sum_first (count_entries part) (map count_entries (replaced_among by parts further)), parts_no_more parts each.1 further)
      ]

  alone : (cond : Cond) (n : ℕ) → with_replaced by n cond ≡ first_or by (λ m. cond) n → count_entries (with_replaced by n cond) ≤ count_entries cond
  alone cond n is = subst (λ x. count_entries x ≤ count_entries cond) (sym is) (at_most (count_entries cond) (λ m. cond) (λ m. omega arith) n)

  around : (outside : Block → Cond) → ((block : Block) → count_entries (outside block) ≡ block_entries block) → (block : Block) → NoMore (out-Block block).cond → (n : ℕ) →
      with_replaced by n (outside block) ≡ first_or by (λ m. outside (block_replaced by m block)) n → count_entries (with_replaced by n (outside block)) ≤ count_entries (outside block)
  around outside count block inside n is =
      subst (λ x. count_entries x ≤ count_entries (outside block)) (sym is)
      (at_most (count_entries (outside block)) (λ m. outside (block_replaced by m block)) (λ m. omega (arith, count block, count (block_replaced by m block), inside m)) n)

  pub no_more : (cond : Cond) → NoMore cond
  no_more = by_parts NoMore (record {
    when_true = λ n. by_counts _ _ _ _ (ap count_entries (replaced_true by n)) refl (omega arith);
    when_false = λ n. by_counts _ _ _ _ (ap count_entries (replaced_false by n)) refl (omega arith);
    when_and = λ parts each n. by_counts _ _ _ _ (ap count_entries (replaced_and by n parts) ∙ entries_and (replaced_among by parts n)) (entries_and parts) (parts_no_more parts each n);
    when_or = λ parts each n. by_counts _ _ _ _ (ap count_entries (replaced_or by n parts) ∙ entries_or (replaced_among by parts n)) (entries_or parts) (parts_no_more parts each n);
    when_not = λ part inside n. by_counts _ _ _ _ (ap count_entries (replaced_not by n part) ∙ entries_not (with_replaced by n part)) (entries_not part) (inside n);
    when_compare = λ op left right span n. alone (c.Compare op left right span) n (replaced_compare by n op left right span);
    when_is_null = λ t negated span n. alone (c.IsNull t negated span) n (replaced_is_null by n t negated span);
    when_exists = λ block span inside n. around (λ b. c.Exists b span) (λ b. entries_exists b span) block inside n (replaced_exists by n block span);
    when_in = λ t block item negated span inside n. around (λ b. c.In t b item negated span) (λ b. entries_in_subquery t b item negated span) block inside n (replaced_in_subquery by n t block item negated span);
    when_scalar = λ op left block item span inside n. alone (c.Scalar op left block item span) n (replaced_scalar by n op left block item span);
  })

-- ---- conjuncts

abbrev pub OfCond : Cond → Cond → Type 0
OfCond cond part = count_entries part ≤ count_entries cond

abbrev EachLess : Cond → Type 0
EachLess cond = AllByRecursion (OfCond cond) (conjuncts cond)

one_conjunct : (cond : Cond) → conjuncts cond ≡ cond ∷ [] → EachLess cond
one_conjunct cond one = subst (AllByRecursion (OfCond cond)) (sym one) (omega arith, tt)

each_part_less : (parts : List Cond) → AllByRecursion EachLess parts → AllByRecursion (λ part. count_entries part ≤ sum (map count_entries parts)) (flat_map conjuncts parts)
each_part_less [] each = tt
each_part_less (part ∷ parts) each =
    let both = sum_first (count_entries part) (map count_entries parts) in
    let most = sum (map count_entries (part ∷ parts)) in
    every_append (λ c. count_entries c ≤ most) (conjuncts part) (flat_map conjuncts parts)
    (every_then (OfCond part) (λ c. count_entries c ≤ most) (λ c less. omega (arith, both, less)) (conjuncts part) each.0)
    (every_then (λ c. count_entries c ≤ sum (map count_entries parts)) (λ c. count_entries c ≤ most) (λ c less. omega (arith, both, less)) (flat_map conjuncts parts) (each_part_less parts each.1))

pub conjuncts_less : (cond : Cond) → EachLess cond
conjuncts_less = by_parts EachLess (record {
  when_true = one_conjunct c.True conjuncts_true;
  when_false = one_conjunct c.False conjuncts_false;
  when_and = λ parts each.
      subst (AllByRecursion (OfCond (c.And parts))) (sym (conjuncts_and parts))
      (every_then (λ part. count_entries part ≤ sum (map count_entries parts)) (OfCond (c.And parts)) (λ part less. omega (arith, entries_and parts, less)) (flat_map conjuncts parts) (each_part_less parts each));
  when_or = λ parts each. one_conjunct (c.Or parts) (conjuncts_or parts);
  when_not = λ part inside. one_conjunct (c.Not part) (conjuncts_not part);
  when_compare = λ op left right span. one_conjunct (c.Compare op left right span) (conjuncts_compare op left right span);
  when_is_null = λ t negated span. one_conjunct (c.IsNull t negated span) (conjuncts_is_null t negated span);
  when_exists = λ block span inside. one_conjunct (c.Exists block span) (conjuncts_exists block span);
  when_in = λ t block item negated span inside. one_conjunct (c.In t block item negated span) (conjuncts_in t block item negated span);
  when_scalar = λ op left block item span inside. one_conjunct (c.Scalar op left block item span) (conjuncts_scalar op left block item span);
})

-- Levels and the last of them: of a subquery the last is its own.
use Rattle.std.proofs.Common.{◌≡◌, ◌∙◌, ◌+◌, ◌<◌, ap, sym, refl, subst, ℕ, Bool, true, false, ◌&&◌, List, [], ◌∷◌, ◌++◌, length, if◌then◌else◌, arith}
use Rattle.std.proofs.lemmas.List.{length-append}
use Rattle.std.specs.List.{AllByRecursion, flat_map}
use Rattle.lint_base.proofs.Lists.{every_append}
use Rattle.lint_core.specs.declared.condition.Block.{out-Block}
use Rattle.lint_core.specs.declared.condition.Cond.{Cond}
use Rattle.lint_core.specs.Fits.{tables_of}
use Rattle.lint_core.specs.Subqueries.{Subquery, subquery, is_column, scalar_subqueries, not_in_subqueries}
use Rattle.lint_core.proofs.Parted.{scalars_true, scalars_false, scalars_and, scalars_or, scalars_not, scalars_compare, scalars_is_null, scalars_exists, scalars_in, scalars_scalar, not_ins_true, not_ins_false, not_ins_and, not_ins_or, not_ins_not, not_ins_compare, not_ins_is_null, not_ins_exists, not_ins_in, not_ins_scalar}
use Rattle.sort_formula.specs.Counters.{outer_levels, last_level}
use Rattle.sort_formula.specs.Sides.{all_of}
use Rattle.question_truths.proofs.ByParts.{by_parts}

-- ---- the last level behind the others

pub split_last : (tables : List (List ℕ)) → 0 < length tables → outer_levels tables ++ last_level tables ∷ [] ≡ tables
split_last [] some = absurd (omega arith)
split_last (level ∷ []) some = refl
split_last (level ∷ next ∷ levels) some = ap (λ rest. level ∷ rest) (split_last (next ∷ levels) (omega arith))

all_with_last : (outer : List (List ℕ)) (own : List ℕ) → length (all_of (outer ++ own ∷ [])) ≡ length (all_of outer) + length own
all_with_last [] own = length-append own [] ∙ omega arith
all_with_last (level ∷ outer) own = omega (arith, length-append level (all_of (outer ++ own ∷ [])), length-append level (all_of outer), all_with_last outer own)

pub length_with_last : (tables : List (List ℕ)) → 0 < length tables → length (all_of tables) ≡ length (all_of (outer_levels tables)) + length (last_level tables)
length_with_last tables some = ap (λ levels. length (all_of levels)) (sym (split_last tables some)) ∙ all_with_last (outer_levels tables) (last_level tables)

-- ---- the levels of a subquery

abbrev pub HasLevel : Subquery → Type 0
HasLevel sub = 0 < length sub.tables

abbrev AllHave : List Subquery → Type 0
AllHave subs = AllByRecursion HasLevel subs

abbrev Inside : Cond → Type 0
Inside cond = (tables : List (List ℕ)) → AllHave (scalar_subqueries cond tables) × AllHave (not_in_subqueries cond tables)

parts_have : (parts : List Cond) → AllByRecursion Inside parts → (tables : List (List ℕ)) →
    AllHave (flat_map (λ part. scalar_subqueries part tables) parts) × AllHave (flat_map (λ part. not_in_subqueries part tables) parts)
parts_have [] each tables = (tt, tt)
parts_have (part ∷ parts) each tables =
    let here = each.0 tables in
    let later = parts_have parts each.1 tables in (
      every_append HasLevel (scalar_subqueries part tables) (flat_map (λ part. scalar_subqueries part tables) parts) here.0 later.0,
      every_append HasLevel (not_in_subqueries part tables) (flat_map (λ part. not_in_subqueries part tables) parts) here.1 later.1,
    )

some_level : (tables : List (List ℕ)) (own : List ℕ) → 0 < length (tables ++ own ∷ [])
some_level tables own = rw (length-append tables (own ∷ [])) (omega arith)

one_if : (b : Bool) (sub : Subquery) → HasLevel sub → AllHave (if b then sub ∷ [] else [])
one_if true sub has = (has, tt)
one_if false sub has = tt

-- both lists, by what they are
listed : (cond : Cond) (tables : List (List ℕ)) (scalars not_ins : List Subquery) → scalar_subqueries cond tables ≡ scalars → not_in_subqueries cond tables ≡ not_ins →
    AllHave scalars × AllHave not_ins → AllHave (scalar_subqueries cond tables) × AllHave (not_in_subqueries cond tables)
listed cond tables scalars not_ins is is_too all = (subst AllHave (sym is) all.0, subst AllHave (sym is_too) all.1)

pub have_levels : (cond : Cond) → Inside cond
have_levels = by_parts Inside (record {
  when_true = λ tables. listed _ tables [] [] (scalars_true tables) (not_ins_true tables) (tt, tt);
  when_false = λ tables. listed _ tables [] [] (scalars_false tables) (not_ins_false tables) (tt, tt);
  when_and = λ parts each tables. listed _ tables _ _ (scalars_and tables parts) (not_ins_and tables parts) (parts_have parts each tables);
  when_or = λ parts each tables. listed _ tables _ _ (scalars_or tables parts) (not_ins_or tables parts) (parts_have parts each tables);
  when_not = λ part inside tables. listed _ tables _ _ (scalars_not tables part) (not_ins_not tables part) (inside tables);
  when_compare = λ op left right span tables. listed _ tables [] [] (scalars_compare tables op left right span) (not_ins_compare tables op left right span) (tt, tt);
  when_is_null = λ t negated span tables. listed _ tables [] [] (scalars_is_null tables t negated span) (not_ins_is_null tables t negated span) (tt, tt);
  when_exists = λ block span inside tables. listed _ tables _ _ (scalars_exists tables block span) (not_ins_exists tables block span) (inside (tables ++ tables_of (out-Block block).entries ∷ []));
  when_in = λ t block item negated span inside tables.
      let own = tables ++ tables_of (out-Block block).entries ∷ [] in
      let within = inside own in
      listed _ tables _ _ (scalars_in tables t block item negated span) (not_ins_in tables t block item negated span) (
        within.0,
        every_append HasLevel (if negated && is_column item then subquery tables block item span ∷ [] else []) (not_in_subqueries (out-Block block).cond own)
            (one_if (negated && is_column item) (subquery tables block item span) (some_level tables (tables_of (out-Block block).entries))) within.1,
      );
  when_scalar = λ op left block item span inside tables.
      let own = tables ++ tables_of (out-Block block).entries ∷ [] in
      let within = inside own in
      listed _ tables _ _ (scalars_scalar tables op left block item span) (not_ins_scalar tables op left block item span) (
        every_append HasLevel (scalar_subqueries (out-Block block).cond own) (subquery tables block item (out-Block block).span ∷ []) within.0
            (some_level tables (tables_of (out-Block block).entries), tt),
        within.1,
      );
})

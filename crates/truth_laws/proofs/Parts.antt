-- AND, OR, NOT, a comparison and IS NULL: their formulas say their truths, where those of the parts do.
use Rattle.std.proofs.Common.{◌≡◌, ◌∙◌, ap, ap₂, subst, sym, refl, ℕ, Bool, true, false, not, ◌&&◌, ◌||◌, List, [], ◌∷◌, map}
use Rattle.std.proofs.lemmas.Bool.{or_left, or_right}
use Rattle.std.proofs.lemmas.List.Folds.{list_all-map}
use Rattle.std.specs.Prelude.{Ok, Err}
use Rattle.std.specs.List.{list_any, list_all}
use Rattle.lint_base.specs.declared.place.Span.{Span}
use Rattle.lint_tables.specs.declared.op.Op.{Op}
use Rattle.lint_core.specs.declared.condition.Cond.{Cond}
use Rattle.lint_core.specs.declared.condition.Cond.TheVariants as c
use Rattle.lint_core.specs.declared.condition.Term.{Term}
use Rattle.lint_core.specs.declared.database.Database.{Database}
use Rattle.lint_core.specs.declared.database.Truth.{Truth}
use Rattle.lint_core.specs.declared.database.Truth.TheVariants.{False, Unknown, True}
use Rattle.lint_core.specs.declared.schema.Table.{Table}
use Rattle.lint_core.specs.Comparison.{compare, is_null}
use Rattle.lint_core.specs.Condition.{truth, term_value}
use Rattle.lint_core.specs.Database.{Place}
use Rattle.lint_core.specs.Evaluation.{Evaluated, map_ok, all_ok}
use Rattle.lint_core.specs.Fits.{cond_fits}
use Rattle.lint_core.specs.Meets.{is_of_domains}
use Rattle.lint_core.specs.Naming.{names, term_names}
use Rattle.lint_core.specs.Truth.{is_true, is_false, truth_of, not_of, negated_if, least, and_of, or_of}
use Rattle.lint_core.proofs.Conditions.{truth_true, truth_false, truth_and, truth_or, truth_not, truth_compare, truth_is_null, least_true}
use Rattle.sort_formula.specs.declared.formula.Formula.{Formula}
use Rattle.sort_formula.specs.Holds.{holds}
use Rattle.lint_core.specs.declared.scope.Scope.{Scope}
use Rattle.sort_formula.specs.Sides.{everything, nothing, is_null_formula, not_null_formula}
use Rattle.sort_formula.specs.Standpoint.{StandsFor}
use Rattle.sort_formula.specs.Translation.{Both, translation, swapped_if, is_true_formula, is_false_formula}
use Rattle.sort_formula.proofs.Holding.{holds_and, holds_or}
use Rattle.lint_base.proofs.Lists.{any_map, both_left, both_right}
use Rattle.truth_laws.proofs.Inside.{term_stands, part_stands}
use Rattle.truth_laws.proofs.Layers.{translation_true, translation_false, translation_and, translation_or, translation_not, translation_compare, translation_is_null, fits_and, fits_or, fits_not, fits_compare, fits_is_null, names_and, names_or, names_not, names_compare, names_is_null}
use Rattle.truth_laws.proofs.Leaves.{compare_true, compare_false, null_says}
use Rattle.truth_laws.proofs.Spoken.{BothSay, Says}
use Rattle.truth_laws.proofs.Selecting.{or_is_true, or_is_false}

-- ---- truths

least_false : (a b : Truth) → is_false (least a b) ≡ (is_false a || is_false b)
least_false False b = refl
least_false Unknown False = refl
least_false Unknown Unknown = refl
least_false Unknown True = refl
least_false True b = refl

and_is_true : (truths : List Truth) → is_true (and_of truths) ≡ list_all is_true truths
and_is_true [] = refl
and_is_true (t ∷ truths) = least_true t (and_of truths) ∙ ap (λ b. is_true t && b) (and_is_true truths)

and_is_false : (truths : List Truth) → is_false (and_of truths) ≡ list_any is_false truths
and_is_false [] = refl
and_is_false (t ∷ truths) = least_false t (and_of truths) ∙ ap (λ b. is_false t || b) (and_is_false truths)

not_is_true : (t : Truth) → is_true (not_of t) ≡ is_false t
not_is_true False = refl
not_is_true Unknown = refl
not_is_true True = refl

not_is_false : (t : Truth) → is_false (not_of t) ≡ is_true t
not_is_false False = refl
not_is_false Unknown = refl
not_is_false True = refl

test_is_true : (b : Bool) → is_true (truth_of b) ≡ b
test_is_true true = refl
test_is_true false = refl

test_is_false : (b : Bool) → is_false (truth_of b) ≡ not b
test_is_false true = refl
test_is_false false = refl

-- a value that is known
abbrev pub given : {A : Type 0} → A → Evaluated A
given a = Ok a

-- the value, of which something is made
pub made : {A B : Type 0} (g : A → B) (e : Evaluated A) (b : B) → map_ok g e ≡ Ok b → (a : A) × (e ≡ Ok a) × (g a ≡ b)
made g (Ok a) b known = (a, refl, cc)
made g (Err place) b known = cc

-- of the first and of the others
first_and_others : {A : Type 0} (e : Evaluated A) (es : List (Evaluated A)) (xs : List A) → all_ok (e ∷ es) ≡ Ok xs →
    (x : A) × (others : List A) × (e ≡ Ok x) × (all_ok es ≡ Ok others) × (xs ≡ x ∷ others)
first_and_others (Err place) es xs known = cc
first_and_others {A = A} (Ok x) es xs known =
    elim (all_ok es) as (λ later. all_ok es ≡ later → map_ok (λ rest. x ∷ rest) later ≡ Ok xs → (y : A) × (others : List A) × (given x ≡ given y) × (all_ok es ≡ Ok others) × (xs ≡ y ∷ others)) [
      | Ok others ↦ λ is all. (x, others, refl, is, cc)
      | Err place ↦ λ is all. cc
    ]
    refl known

pub swapped : (schema : List Table) (db : Database) (negated : Bool) (both : Both) (rows : List Place) (t : Truth) → BothSay schema db both rows t → BothSay schema db (swapped_if negated both) rows (negated_if negated t)
swapped schema db true both rows t say = (say.1 ∙ sym (not_is_true t), say.0 ∙ sym (not_is_false t))
swapped schema db false both rows t say = say

module _ (schema : List Table) (db : Database) where
  -- from the formulas of a layer
  pub by_layer : (cond : Cond) (scope : Scope) (rows : List Place) (t : Truth) (both : Both) → translation schema cond scope ≡ both →
      BothSay schema db both rows t → BothSay schema db (translation schema cond scope) rows t
  by_layer cond scope rows t both is say = subst (λ both. BothSay schema db both rows t) (sym is) say

  ok_is : (a b : Truth) → given a ≡ given b → a ≡ b
  ok_is a b same = cc

  pub of_true : Says schema db c.True
  of_true scope fits binding rows stands t known =
      let is : True ≡ t = ok_is True t (sym (truth_true db scope.tables binding) ∙ known) in
      by_layer c.True scope rows t _ (translation_true schema scope) (subst (BothSay schema db (record { true = everything; false = nothing }) rows) is (holds_and db [] rows, holds_or db [] rows))

  pub of_false : Says schema db c.False
  of_false scope fits binding rows stands t known =
      let is : False ≡ t = ok_is False t (sym (truth_false db scope.tables binding) ∙ known) in
      by_layer c.False scope rows t _ (translation_false schema scope) (subst (BothSay schema db (record { true = nothing; false = everything }) rows) is (holds_or db [] rows, holds_and db [] rows))

  pub of_not : (part : Cond) → Says schema db part → Says schema db (c.Not part)
  of_not part says scope fits binding rows stands t known =
      let found = made not_of (truth db part scope.tables binding) t (sym (truth_not db part scope.tables binding) ∙ known) in
      let inner = part_stands db scope binding rows (c.Not part) part (λ entry named. names_not entry part ∙ named) stands in
      let say = says scope (sym (fits_not schema scope.tables part) ∙ fits) binding rows inner found.0 found.1 in
      by_layer (c.Not part) scope rows t _ (translation_not schema scope part)
      (say.1 ∙ (sym (not_is_true found.0) ∙ ap is_true found.2), say.0 ∙ (sym (not_is_false found.0) ∙ ap is_false found.2))

  -- ---- lists of parts

  abbrev pub Part : Type 0
  Part = (cond : Cond) × Says schema db cond

  abbrev pub conds : List Part → List Cond
  conds parts = map (λ (part : Part). part.0) parts

  module _ (scope : Scope) (binding : List (List ℕ)) (rows : List Place) where
    module _ (cond : Cond) (stands : StandsFor db scope binding rows cond) where
      -- each of the formulas holds where its part has that truth
      parts_say : (parts : List Part) → list_all (cond_fits schema scope.tables) (conds parts) ≡ true →
          ((entry : ℕ) → list_any (names entry) (conds parts) ≡ true → names entry cond ≡ true) →
          (truths : List Truth) → all_ok (map (λ part. truth db part scope.tables binding) (conds parts)) ≡ Ok truths →
          (map (λ part. holds db (is_true_formula schema part scope) rows) (conds parts) ≡ map is_true truths)
          × (map (λ part. holds db (is_false_formula schema part scope) rows) (conds parts) ≡ map is_false truths)
      parts_say [] fits named truths known =
          let none : [] ≡ truths = cc in
          (ap (map is_true) none, ap (map is_false) none)
      parts_say (part ∷ parts) fits named truths known =
          let split = first_and_others (truth db part.0 scope.tables binding) (map (λ part. truth db part scope.tables binding) (conds parts)) truths known in
          let here = cond_fits schema scope.tables part.0 in
          let rest = list_all (cond_fits schema scope.tables) (conds parts) in
          let inner = part_stands db scope binding rows cond part.0 (λ entry is. named entry (or_left (names entry part.0) (list_any (names entry) (conds parts)) is)) stands in
          let say = part.1 scope (both_left here rest fits) binding rows inner split.0 split.2 in
          let others = parts_say parts (both_right here rest fits) (λ entry is. named entry (or_right (names entry part.0) (list_any (names entry) (conds parts)) is)) split.1 split.3 in
          (ap₂ (λ (b : Bool) (bs : List Bool). b ∷ bs) say.0 others.0 ∙ ap (map is_true) (sym split.4), ap₂ (λ (b : Bool) (bs : List Bool). b ∷ bs) say.1 others.1 ∙ ap (map is_false) (sym split.4))

    all_hold : (gs : Cond → Formula) (parts : List Cond) (test : Truth → Bool) (truths : List Truth) →
        map (λ part. holds db (gs part) rows) parts ≡ map test truths → list_all (λ g. holds db g rows) (map gs parts) ≡ list_all test truths
    all_hold gs parts test truths same =
        list_all-map (λ g. holds db g rows) gs parts
        ∙ (sym (list_all-map (λ b. b) (λ part. holds db (gs part) rows) parts)
        ∙ (ap (list_all (λ b. b)) same ∙ list_all-map (λ b. b) test truths))

    any_holds : (gs : Cond → Formula) (parts : List Cond) (test : Truth → Bool) (truths : List Truth) →
        map (λ part. holds db (gs part) rows) parts ≡ map test truths → list_any (λ g. holds db g rows) (map gs parts) ≡ list_any test truths
    any_holds gs parts test truths same =
        any_map gs (λ g. holds db g rows) parts
        ∙ (sym (any_map (λ part. holds db (gs part) rows) (λ b. b) parts)
        ∙ (ap (list_any (λ b. b)) same ∙ any_map test (λ b. b) truths))

  pub of_and : (parts : List Part) → Says schema db (c.And (conds parts))
  of_and parts scope fits binding rows stands t known =
      let whole = c.And (conds parts) in
      let found = made and_of (all_ok (map (λ part. truth db part scope.tables binding) (conds parts))) t (sym (truth_and db (conds parts) scope.tables binding) ∙ known) in
      let say = parts_say scope binding rows whole stands parts (sym (fits_and schema scope.tables (conds parts)) ∙ fits) (λ entry named. names_and entry (conds parts) ∙ named) found.0 found.1 in
      by_layer whole scope rows t _ (translation_and schema scope (conds parts)) (
        holds_and db (map (λ part. is_true_formula schema part scope) (conds parts)) rows
            ∙ (all_hold scope binding rows (λ part. is_true_formula schema part scope) (conds parts) is_true found.0 say.0
            ∙ (sym (and_is_true found.0) ∙ ap is_true found.2)),
        holds_or db (map (λ part. is_false_formula schema part scope) (conds parts)) rows
            ∙ (any_holds scope binding rows (λ part. is_false_formula schema part scope) (conds parts) is_false found.0 say.1
            ∙ (sym (and_is_false found.0) ∙ ap is_false found.2)),
      )

  pub of_or : (parts : List Part) → Says schema db (c.Or (conds parts))
  of_or parts scope fits binding rows stands t known =
      let whole = c.Or (conds parts) in
      let found = made or_of (all_ok (map (λ part. truth db part scope.tables binding) (conds parts))) t (sym (truth_or db (conds parts) scope.tables binding) ∙ known) in
      let say = parts_say scope binding rows whole stands parts (sym (fits_or schema scope.tables (conds parts)) ∙ fits) (λ entry named. names_or entry (conds parts) ∙ named) found.0 found.1 in
      by_layer whole scope rows t _ (translation_or schema scope (conds parts)) (
        holds_or db (map (λ part. is_true_formula schema part scope) (conds parts)) rows
            ∙ (any_holds scope binding rows (λ part. is_true_formula schema part scope) (conds parts) is_true found.0 say.0
            ∙ (sym (or_is_true found.0) ∙ ap is_true found.2)),
        holds_and db (map (λ part. is_false_formula schema part scope) (conds parts)) rows
            ∙ (all_hold scope binding rows (λ part. is_false_formula schema part scope) (conds parts) is_false found.0 say.1
            ∙ (sym (or_is_false found.0) ∙ ap is_false found.2)),
      )

  -- ---- leaves

  module _ (domains : is_of_domains schema db ≡ true) where
    pub of_compare : (op : Op) (left right : Term) (span : Span) → Says schema db (c.Compare op left right span)
    of_compare op left right span scope fits binding rows stands t known =
        let whole = c.Compare op left right span in
        let is = ok_is (compare op (term_value db scope.tables binding left) (term_value db scope.tables binding right)) t (sym (truth_compare db op left right span scope.tables binding) ∙ known) in
        let left_stands = term_stands schema db domains scope binding rows whole stands left (λ entry named. names_compare entry op left right span ∙ or_left (term_names entry left) (term_names entry right) named) in
        let right_stands = term_stands schema db domains scope binding rows whole stands right (λ entry named. names_compare entry op left right span ∙ or_right (term_names entry left) (term_names entry right) named) in
        let both = sym (fits_compare schema scope.tables op left right span) ∙ fits in
        by_layer whole scope rows t _ (translation_compare schema scope op left right span) (
          compare_true schema db domains scope binding rows op left right left_stands right_stands stands.variables both ∙ ap is_true is,
          compare_false schema db domains scope binding rows op left right left_stands right_stands stands.variables both ∙ ap is_false is,
        )

    pub of_is_null : (u : Term) (negated : Bool) (span : Span) → Says schema db (c.IsNull u negated span)
    of_is_null u negated span scope fits binding rows stands t known =
        let whole = c.IsNull u negated span in
        let null = is_null (term_value db scope.tables binding u) in
        let is = ok_is (negated_if negated (truth_of null)) t (sym (truth_is_null db u negated span scope.tables binding) ∙ known) in
        let term_is = term_stands schema db domains scope binding rows whole stands u (λ entry named. names_is_null entry u negated span ∙ named) in
        let fit = sym (fits_is_null schema scope.tables u negated span) ∙ fits in
        let says = null_says schema db domains scope binding rows u term_is stands.variables fit in
        by_layer whole scope rows t _ (translation_is_null schema scope u negated span)
        (subst (BothSay schema db (swapped_if negated (record { true = is_null_formula schema scope u; false = not_null_formula schema scope u })) rows) is
        (swapped schema db negated (record { true = is_null_formula schema scope u; false = not_null_formula schema scope u }) rows (truth_of null)
        (says.0 ∙ sym (test_is_true null), says.1 ∙ sym (test_is_false null))))

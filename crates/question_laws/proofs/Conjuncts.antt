-- What a condition says is what its conjuncts say: of its formulas and of its truth, of what fits and what is named.
use Rattle.std.proofs.Common.{◌≡◌, ◌∙◌, sym, ap, ap₂, refl, subst, ℕ, Bool, ◌&&◌, ◌||◌, List, [], ◌∷◌, ◌++◌, map}
use Rattle.std.proofs.lemmas.List.{map-append}
use Rattle.std.proofs.lemmas.List.Folds.{list_all-append, list_any-append}
use Rattle.std.specs.List.{list_all, list_any, flat_map, AllByRecursion}
use Rattle.std.specs.Prelude.{Ok, Err}
use Rattle.lint_base.proofs.Lists.{and_true, or_false}
use Rattle.lint_core.specs.declared.condition.Block.{Block}
use Rattle.lint_core.specs.declared.condition.Cond.{Cond, ind-Cond, roll-Cond, fold-roll-Cond, map-Cond}
use Rattle.lint_core.specs.declared.condition.Cond.TheVariants as c
use Rattle.lint_core.specs.declared.condition.Cond.TheOpen.{Cond-F}
use Rattle.lint_core.specs.declared.database.Database.{Database}
use Rattle.lint_core.specs.declared.database.Truth.{Truth}
use Rattle.lint_core.specs.declared.database.Truth.TheVariants.{False, Unknown, True}
use Rattle.lint_core.specs.declared.schema.Table.{Table}
use Rattle.lint_core.specs.Condition.{truth}
use Rattle.lint_core.specs.Conjuncts.{conjuncts}
use Rattle.lint_core.specs.Database.{Place}
use Rattle.lint_core.specs.Evaluation.{Evaluated, and_then, map_ok, all_ok}
use Rattle.lint_core.specs.Fits as fits
use Rattle.lint_core.specs.Fits.{cond_fits}
use Rattle.lint_core.specs.Naming.{has_scalar, scalar_step}
use Rattle.lint_core.specs.Truth.{least, and_of}
use Rattle.lint_core.proofs.Conditions.{truth_and}
use Rattle.lint_core.proofs.Parted.{conjuncts_true, conjuncts_false, conjuncts_and, conjuncts_or, conjuncts_not, conjuncts_compare, conjuncts_is_null, conjuncts_exists, conjuncts_in, conjuncts_scalar}
use Rattle.sort_formula.specs.Holds.{holds}
use Rattle.lint_core.specs.declared.scope.Scope.{Scope}
use Rattle.sort_formula.specs.Translation.{Meaning, BlockMeaning, translation, translation_step, block_step, is_true_formula, is_false_formula}
use Rattle.sort_formula.proofs.Holding.{holds_and, holds_or}
use Rattle.question_laws.specs.Named.{names_at, names_at_step}

-- ---- by induction: of what is one conjunct, and of AND

module _ (P : Cond → Type 0) (alone : (cond : Cond) → conjuncts cond ≡ cond ∷ [] → P cond) (together : (parts : List Cond) → AllByRecursion P parts → P (c.And parts)) where
  abbrev Part : Type 0
  Part = (cond : Cond) × P cond

  abbrev SomeBlock : Type 0
  SomeBlock = (block : Block) × Unit {0}

  abbrev conds : List Part → List Cond
  conds parts = map (λ (e : Part). e.0) parts

  each : (parts : List Part) → AllByRecursion P (conds parts)
  each [] = tt
  each (part ∷ parts) = (part.1, each parts)

  at_layer : (y : Cond-F Part SomeBlock) → P (roll-Cond (map-Cond Part SomeBlock Cond Block (λ e. e.0) (λ e. e.0) y))
  at_layer Cond-F.True = subst P (sym c.rolls-True) (alone c.True conjuncts_true)
  at_layer Cond-F.False = subst P (sym c.rolls-False) (alone c.False conjuncts_false)
  at_layer (Cond-F.And parts) = subst P (sym (c.rolls-And (conds parts))) (together (conds parts) (each parts))
  at_layer (Cond-F.Or parts) = subst P (sym (c.rolls-Or (conds parts))) (alone (c.Or (conds parts)) (conjuncts_or (conds parts)))
  at_layer (Cond-F.Not part) = subst P (sym (c.rolls-Not part.0)) (alone (c.Not part.0) (conjuncts_not part.0))
  at_layer (Cond-F.Compare op left right span) = subst P (sym (c.rolls-Compare op left right span)) (alone (c.Compare op left right span) (conjuncts_compare op left right span))
  at_layer (Cond-F.IsNull t negated span) = subst P (sym (c.rolls-IsNull t negated span)) (alone (c.IsNull t negated span) (conjuncts_is_null t negated span))
  at_layer (Cond-F.Exists block span) = subst P (sym (c.rolls-Exists block.0 span)) (alone (c.Exists block.0 span) (conjuncts_exists block.0 span))
  at_layer (Cond-F.In t block item negated span) =
      subst P (sym (c.rolls-In t block.0 item negated span)) (alone (c.In t block.0 item negated span) (conjuncts_in t block.0 item negated span))
  at_layer (Cond-F.Scalar op left block item span) =
      subst P (sym (c.rolls-Scalar op left block.0 item span)) (alone (c.Scalar op left block.0 item span) (conjuncts_scalar op left block.0 item span))

  by_conjuncts : (cond : Cond) → P cond
  by_conjuncts = ind-Cond P (λ block. Unit {0}) (λ x y is. subst (λ z. P (roll-Cond z)) is (at_layer y)) (λ x y is. tt)

-- ---- tests

-- what holds of AND where it holds of each part
module _ (test : Cond → Bool) (of_and : (parts : List Cond) → test (c.And parts) ≡ list_all test parts) where
  abbrev OfAll : Cond → Type 0
  OfAll cond = test cond ≡ list_all test (conjuncts cond)

  all_together : (parts : List Cond) → AllByRecursion OfAll parts → list_all test parts ≡ list_all test (flat_map conjuncts parts)
  all_together [] each = refl
  all_together (part ∷ parts) each = ap₂ (λ a b. a && b) each.0 (all_together parts each.1) ∙ sym (list_all-append test (conjuncts part) (flat_map conjuncts parts))

  pub of_all : (cond : Cond) → OfAll cond
  of_all =
      by_conjuncts OfAll
      (λ cond alone. sym (ap (list_all test) alone ∙ and_true (test cond)))
      (λ parts each. of_and parts ∙ (all_together parts each ∙ sym (ap (list_all test) (conjuncts_and parts))))

-- and where it holds of some part
module _ (test : Cond → Bool) (of_and : (parts : List Cond) → test (c.And parts) ≡ list_any test parts) where
  abbrev OfSome : Cond → Type 0
  OfSome cond = test cond ≡ list_any test (conjuncts cond)

  some_together : (parts : List Cond) → AllByRecursion OfSome parts → list_any test parts ≡ list_any test (flat_map conjuncts parts)
  some_together [] each = refl
  some_together (part ∷ parts) each = ap₂ (λ a b. a || b) each.0 (some_together parts each.1) ∙ sym (list_any-append test (conjuncts part) (flat_map conjuncts parts))

  pub of_some : (cond : Cond) → OfSome cond
  of_some =
      by_conjuncts OfSome
      (λ cond alone. sym (ap (list_any test) alone ∙ or_false (test cond)))
      (λ parts each. of_and parts ∙ (some_together parts each ∙ sym (ap (list_any test) (conjuncts_and parts))))

-- ---- formulas

module _ (schema : List Table) (db : Database) (scope : Scope) (rows : List Place) where
  abbrev holds_true : Cond → Bool
  holds_true cond = holds db (is_true_formula schema cond scope) rows

  abbrev holds_false : Cond → Bool
  holds_false cond = holds db (is_false_formula schema cond scope) rows

  translation_and : (parts : List Cond) → translation schema (c.And parts) ≡ translation_step schema (Cond-F.And (map (translation schema) parts))
  translation_and parts =
      ap (translation schema) (sym (c.rolls-And parts)) ∙ fold-roll-Cond Meaning BlockMeaning (translation_step schema) (block_step schema) (Cond-F.And parts)

  true_of : (parts : List Cond) → list_all (λ g. holds db g rows) (map (λ (m : Meaning). (m scope).true) (map (translation schema) parts)) ≡ list_all holds_true parts
  true_of [] = refl
  true_of (part ∷ parts) = ap (λ b. holds_true part && b) (true_of parts)

  false_of : (parts : List Cond) → list_any (λ g. holds db g rows) (map (λ (m : Meaning). (m scope).false) (map (translation schema) parts)) ≡ list_any holds_false parts
  false_of [] = refl
  false_of (part ∷ parts) = ap (λ b. holds_false part || b) (false_of parts)

  pub all_true : (cond : Cond) → holds_true cond ≡ list_all holds_true (conjuncts cond)
  all_true =
      of_all holds_true
      (λ parts.
      ap (λ (m : Meaning). holds db (m scope).true rows) (translation_and parts)
      ∙ (holds_and db (map (λ (m : Meaning). (m scope).true) (map (translation schema) parts)) rows ∙ true_of parts))

  pub some_false : (cond : Cond) → holds_false cond ≡ list_any holds_false (conjuncts cond)
  some_false =
      of_some holds_false
      (λ parts.
      ap (λ (m : Meaning). holds db (m scope).false rows) (translation_and parts)
      ∙ (holds_or db (map (λ (m : Meaning). (m scope).false) (map (translation schema) parts)) rows ∙ false_of parts))

-- ---- whether it fits, what it names, whether it has a scalar subquery

module _ (schema : List Table) (tables : List (List ℕ)) where
  fit_of : (parts : List Cond) → list_all (λ (m : fits.Meaning). m tables) (map (λ cond ts. cond_fits schema ts cond) parts) ≡ list_all (cond_fits schema tables) parts
  fit_of [] = refl
  fit_of (part ∷ parts) = ap (λ b. cond_fits schema tables part && b) (fit_of parts)

  pub all_fit : (cond : Cond) → cond_fits schema tables cond ≡ list_all (cond_fits schema tables) (conjuncts cond)
  all_fit =
      of_all (cond_fits schema tables)
      (λ parts.
      ap (cond_fits schema tables) (sym (c.rolls-And parts))
      ∙ (ap (λ (m : fits.Meaning). m tables) (fold-roll-Cond fits.Meaning fits.BlockMeaning (fits.fits_step schema) (fits.block_step schema) (Cond-F.And parts)) ∙ fit_of parts))

any_part : (test : Cond → Bool) (parts : List Cond) → list_any (λ part. part) (map test parts) ≡ list_any test parts
any_part test [] = refl
any_part test (part ∷ parts) = ap (λ b. test part || b) (any_part test parts)

pub some_name : (level entry : ℕ) (cond : Cond) → names_at level entry cond ≡ list_any (names_at level entry) (conjuncts cond)
some_name level entry =
    of_some (names_at level entry)
    (λ parts.
    ap (names_at level entry) (sym (c.rolls-And parts))
    ∙ (fold-roll-Cond Bool Bool (names_at_step level entry) (λ block. block.cond) (Cond-F.And parts) ∙ any_part (names_at level entry) parts))

pub some_scalar : (cond : Cond) → has_scalar cond ≡ list_any has_scalar (conjuncts cond)
some_scalar =
    of_some has_scalar
    (λ parts.
    ap has_scalar (sym (c.rolls-And parts))
    ∙ (fold-roll-Cond Bool Bool scalar_step (λ block. block.cond) (Cond-F.And parts) ∙ any_part has_scalar parts))

-- ---- truths

-- the AND of truths that may be missing
abbrev strict_and : List (Evaluated Truth) → Evaluated Truth
strict_and truths = map_ok and_of (all_ok truths)

abbrev both : Evaluated Truth → Evaluated Truth → Evaluated Truth
both a b = and_then (λ first. map_ok (least first) b) a

least_true : (a : Truth) → least a True ≡ a
least_true False = refl
least_true Unknown = refl
least_true True = refl

least_assoc : (a b d : Truth) → least a (least b d) ≡ least (least a b) d
least_assoc False b d = refl
least_assoc Unknown False d = refl
least_assoc Unknown Unknown False = refl
least_assoc Unknown Unknown Unknown = refl
least_assoc Unknown Unknown True = refl
least_assoc Unknown True d = refl
least_assoc True b d = refl

one_and : (a : Evaluated Truth) → strict_and (a ∷ []) ≡ a
one_and (Ok a) = ap Ok (least_true a)
one_and (Err place) = refl

first_and : (a : Evaluated Truth) (rest : List (Evaluated Truth)) → strict_and (a ∷ rest) ≡ both a (strict_and rest)
first_and (Err place) rest = refl
first_and (Ok a) rest =
    elim (all_ok rest) as (λ later. map_ok and_of (map_ok (λ later. a ∷ later) later) ≡ map_ok (least a) (map_ok and_of later)) [
      | Ok later ↦ refl
      | Err place ↦ refl
    ]

both_true : (a : Evaluated Truth) → a ≡ both (Ok True) a
both_true (Ok a) = refl
both_true (Err place) = refl

both_assoc : (a b d : Evaluated Truth) → both a (both b d) ≡ both (both a b) d
both_assoc (Err place) b d = refl
both_assoc (Ok a) (Err place) d = refl
both_assoc (Ok a) (Ok b) (Err place) = refl
both_assoc (Ok a) (Ok b) (Ok d) = ap Ok (least_assoc a b d)

two_ands : (xs ys : List (Evaluated Truth)) → strict_and (xs ++ ys) ≡ both (strict_and xs) (strict_and ys)
two_ands [] ys = both_true (strict_and ys)
two_ands (x ∷ xs) ys =
    first_and x (xs ++ ys)
    ∙ (ap (both x) (two_ands xs ys)
    ∙ (both_assoc x (strict_and xs) (strict_and ys) ∙ sym (ap (λ a. both a (strict_and ys)) (first_and x xs))))

module _ (db : Database) (tables binding : List (List ℕ)) where
  abbrev truth_here : Cond → Evaluated Truth
  truth_here cond = truth db cond tables binding

  abbrev IsAnd : Cond → Type 0
  IsAnd cond = truth_here cond ≡ strict_and (map truth_here (conjuncts cond))

  truths_together : (parts : List Cond) → AllByRecursion IsAnd parts → strict_and (map truth_here parts) ≡ strict_and (map truth_here (flat_map conjuncts parts))
  truths_together [] each = refl
  truths_together (part ∷ parts) each =
      first_and (truth_here part) (map truth_here parts)
      ∙ (ap₂ both each.0 (truths_together parts each.1)
      ∙ (sym (two_ands (map truth_here (conjuncts part)) (map truth_here (flat_map conjuncts parts)))
      ∙ sym (ap strict_and (map-append truth_here (conjuncts part) (flat_map conjuncts parts)))))

  pub is_and : (cond : Cond) → IsAnd cond
  is_and =
      by_conjuncts IsAnd
      (λ cond alone. sym (ap (λ cs. strict_and (map truth_here cs)) alone ∙ one_and (truth_here cond)))
      (λ parts each. truth_and db parts tables binding ∙ (truths_together parts each ∙ sym (ap (λ cs. strict_and (map truth_here cs)) (conjuncts_and parts))))

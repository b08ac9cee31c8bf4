-- The counter sentence of E5: the other entries have rows at which no row of the entry fits, or two do.
use Rattle.std.proofs.Common.{◌≡◌, ◌∙◌, ◌+◌, ◌-◌, ◌<◌, ap, sym, refl, subst, ℕ, Bool, true, false, not, List, [], ◌∷◌, ◌++◌, map, length, arith}
use Rattle.std.proofs.lemmas.List.{append-nil, append_assoc, length-append}
use Rattle.std.proofs.lemmas.List.Edits.{length-insert, length-remove}
use Rattle.std.proofs.lemmas.Option.{slice_get-get_or, unwrap_or-slice_get}
use Rattle.std.specs.List.{AllByRecursion, list_all}
use Rattle.std.specs.Prelude.{Some, insert, remove, slice_get}
use Rattle.lint_base.proofs.Lists.{all_at, every_append, slice_get_front, slice_get_last}
use Rattle.lint_core.specs.declared.condition.Cond.{Cond}
use Rattle.lint_core.specs.declared.query.Query.{Query}
use Rattle.lint_core.specs.declared.schema.Table.{Table}
use Rattle.lint_core.specs.Asked.{conjuncts_with, conjuncts_without, main_condition}
use Rattle.lint_core.specs.Conjuncts.{conjuncts}
use Rattle.lint_core.specs.Fits.{cond_fits, main_tables}
use Rattle.lint_core.specs.Naming.{names}
use Rattle.sort_formula.specs.declared.formula.Atom.TheVariants as atom
use Rattle.sort_formula.specs.declared.formula.Formula.{Formula}
use Rattle.sort_formula.specs.declared.formula.Formula.TheVariants as f
use Rattle.sort_formula.specs.Counters.{count, fits_at, join_counter, join_scope, none_or_two, own, sentence_of, table_of_entry}
use Rattle.sort_formula.specs.Negated.{negated}
use Rattle.sort_formula.specs.Sides.{from_number}
use Rattle.sort_formula.specs.Translation.{is_true_formula}
use Rattle.truth_laws.proofs.FittingParts.{conjuncts_fit}
use Rattle.truth_laws.proofs.Outside.{AreOutside, length_from}
use Rattle.question_truths.specs.SubqueryFits.{tables_exist}
use Rattle.counter_forms.proofs.Edited.{edited_at}
use Rattle.counter_forms.proofs.Elements.{every_filtered, remove_passes}
use Rattle.counter_forms.proofs.Formed.{Formed, Plain, formed_and, formed_exists, formed_or, formed_other, formed_rows, plain_and, plain_condition, plain_forall, plain_is_formed, plain_not}
use Rattle.counter_forms.proofs.Outside.{level_outside}
use Rattle.counter_forms.proofs.Queries.{is_there, own_there}

clash : (b : Bool) → b ≡ true → not b ≡ true → ⊥
clash true is is_not = cc
clash false is is_not = cc

module _ (schema : List Table) (query : Query) (exist : tables_exist schema (main_tables query) ≡ true) (meant : cond_fits schema (main_tables query) (main_condition query) ≡ true)
    (entry : ℕ) (there : entry < length (own schema query)) where
  abbrev here : List ℕ
  here = own schema query

  abbrev n : ℕ
  n = count schema query

  abbrev table : ℕ
  table = table_of_entry schema query entry

  abbrev rest : List ℕ
  rest = remove here entry

  rest_long : length rest ≡ n - 1
  rest_long = omega (arith, length-remove here entry there)

  table_at : slice_get here entry ≡ Some table
  table_at = slice_get-get_or here entry 0 there ∙ ap Some (sym (unwrap_or-slice_get here entry 0))

  table_there : is_there schema table ≡ true
  table_there = all_at (is_there schema) here entry table (own_there schema query exist) table_at

  inserted_long : (variable : ℕ) → length (insert (from_number 0 (n - 1)) entry variable) ≡ n
  inserted_long variable =
      let many = length_from 0 (n - 1) in
      omega (arith, many, length-insert (from_number 0 (n - 1)) entry variable (omega (arith, many)))

  -- ---- the tables of the variables

  join_outside : (variable depth : ℕ) (outside more : List ℕ) (named : ℕ → Bool) → outside ≡ rest ++ more → length outside ≡ depth →
      ((e : ℕ) → named e ≡ true → e ≡ entry → slice_get outside variable ≡ slice_get here entry) → AreOutside (join_scope schema query entry variable depth) outside named
  join_outside variable depth outside more named is long at =
      level_outside here (insert (from_number 0 (n - 1)) entry variable) outside depth named (inserted_long variable) long
      (λ e name. edited_at here entry there outside more is variable e (at e name))

  abbrev fit_here : Cond → Bool
  fit_here = cond_fits schema (main_tables query)

  all_fit : list_all fit_here (conjuncts (main_condition query)) ≡ true
  all_fit = conjuncts_fit schema (main_condition query) (main_tables query) meant

  -- ---- the conjuncts that do not name the entry

  abbrev without : Cond → Formula
  without c = is_true_formula schema c (join_scope schema query entry 0 (n - 1))

  without_formed : AllByRecursion (Formed schema rest) (map without (conjuncts_without entry query))
  without_formed = every_filtered fit_here (λ c. not (names entry c)) without (Formed schema rest) each (conjuncts (main_condition query)) all_fit
    where
      each : (c : Cond) → fit_here c ≡ true → not (names entry c) ≡ true → Formed schema rest (without c)
      each c fits unnamed =
          plain_is_formed schema rest (without c)
          (plain_condition schema rest c (join_scope schema query entry 0 (n - 1)) fits
          (join_outside 0 (n - 1) rest [] (λ e. names e c) (sym (append-nil rest)) rest_long
          (λ e name same. absurd (clash (names entry c) (subst (λ k. names k c ≡ true) same name) unnamed))))

  -- ---- the conjuncts that name it

  fitting_plain : (variable depth : ℕ) (outside more : List ℕ) → outside ≡ rest ++ more → length outside ≡ depth → slice_get outside variable ≡ Some table →
      Plain schema outside (fits_at schema query entry variable depth)
  fitting_plain variable depth outside more is long at =
      let with_entry = λ (c : Cond). is_true_formula schema c (join_scope schema query entry variable depth) in
      plain_and schema outside (map with_entry (conjuncts_with entry query))
      (every_filtered fit_here (names entry) with_entry (Plain schema outside)
      (λ c fits named. plain_condition schema outside c (join_scope schema query entry variable depth) fits (join_outside variable depth outside more _ is long (λ e name same. at ∙ sym table_at)))
      (conjuncts (main_condition query)) all_fit)

  -- one row of the entry, and another
  abbrev one_more : List ℕ
  one_more = rest ++ table ∷ []

  abbrev two_more : List ℕ
  two_more = one_more ++ table ∷ []

  one_long : length one_more ≡ n
  one_long = omega (arith, rest_long, length-append rest (table ∷ []), there)

  two_long : length two_more ≡ n + 1
  two_long = omega (arith, one_long, length-append one_more (table ∷ []))

  two_is : two_more ≡ rest ++ table ∷ table ∷ []
  two_is = append_assoc rest (table ∷ []) (table ∷ [])

  first_at : slice_get one_more (n - 1) ≡ Some table
  first_at = ap (slice_get one_more) (sym rest_long) ∙ slice_get_last rest table

  first_at_too : slice_get two_more (n - 1) ≡ Some table
  first_at_too = slice_get_front one_more (table ∷ []) (n - 1) table first_at

  second_at : slice_get two_more n ≡ Some table
  second_at = ap (slice_get two_more) (sym one_long) ∙ slice_get_last one_more table

  none_formed : Formed schema rest (f.Forall table (negated (fits_at schema query entry (n - 1) n)))
  none_formed =
      let fitting = fits_at schema query entry (n - 1) n in
      plain_is_formed schema rest (f.Forall table (negated fitting))
      (plain_forall schema rest table (negated fitting) table_there
      (plain_not schema one_more fitting (fitting_plain (n - 1) n one_more (table ∷ []) refl one_long first_at)))

  abbrev both_fit : List Formula
  both_fit = fits_at schema query entry (n - 1) (n + 1) ∷ fits_at schema query entry n (n + 1) ∷ f.Atom (atom.Other (n - 1) n) ∷ []

  two_formed : Formed schema rest (f.Exists table (f.Exists table (f.And both_fit)))
  two_formed =
      formed_exists schema rest table (f.Exists table (f.And both_fit)) table_there
      (formed_exists schema one_more table (f.And both_fit) table_there
      (formed_and schema two_more both_fit (
        plain_is_formed schema two_more (fits_at schema query entry (n - 1) (n + 1)) (fitting_plain (n - 1) (n + 1) two_more (table ∷ table ∷ []) two_is two_long first_at_too),
        (
          plain_is_formed schema two_more (fits_at schema query entry n (n + 1)) (fitting_plain n (n + 1) two_more (table ∷ table ∷ []) two_is two_long second_at),
          (formed_other schema two_more (n - 1) n table first_at_too second_at, tt),
        ),
      )))

  pub join_formed : Formed schema [] (sentence_of (join_counter schema query entry))
  join_formed =
      let last = none_or_two schema query entry in
      let parts = map without (conjuncts_without entry query) ++ last ∷ [] in
      let last_formed = formed_or schema rest (f.Forall table (negated (fits_at schema query entry (n - 1) n)) ∷ f.Exists table (f.Exists table (f.And both_fit)) ∷ []) (none_formed, (two_formed, tt)) in
      formed_rows schema rest [] (f.And parts) (remove_passes (is_there schema) here entry (own_there schema query exist))
      (formed_and schema rest parts (every_append (Formed schema rest) (map without (conjuncts_without entry query)) (last ∷ []) without_formed (last_formed, tt)))

-- EXISTS says whether some row is selected, IN is the OR of its comparisons.
use Rattle.std.proofs.Common.{◌≡◌, ◌≢◌, ◌∙◌, sym, ap, refl, ℕ, Bool, true, false, not, ◌&&◌, List, [], ◌∷◌, map, if◌then◌else◌}
use Rattle.std.proofs.lemmas.Bool.{or_right}
use Rattle.std.specs.Prelude.{Ok, Err}
use Rattle.std.specs.List.{list_all, list_any}
use Rattle.lint_base.specs.declared.place.Span.{Span}
use Rattle.lint_tables.specs.declared.op.Op.{Op}
use Rattle.lint_tables.specs.declared.op.Op.TheVariants.{Eq, Ne}
use Rattle.lint_core.specs.declared.condition.Block.{Block}
use Rattle.lint_core.specs.declared.condition.Cond.TheVariants as c
use Rattle.lint_core.specs.declared.condition.Term.{Term}
use Rattle.lint_core.specs.declared.database.Database.{Database}
use Rattle.lint_core.specs.declared.database.Truth.{Truth}
use Rattle.lint_core.specs.declared.database.Truth.TheVariants.{False, Unknown, True}
use Rattle.lint_core.specs.declared.database.Value.{Value}
use Rattle.lint_core.specs.declared.database.Value.TheVariants.{Null, Int, Text}
use Rattle.lint_core.specs.Comparison.{compare, is_null, are_equal}
use Rattle.lint_core.specs.Condition.{BlockMeaning, Inner, has_truth, truth, term_value, selected, exists_truth, in_truth, items_at}
use Rattle.meaning_laws.specs.Connectives.{is_unknown, disjunction, HaveTruths}
use Rattle.lint_core.specs.Evaluation.{Evaluated, map_ok}
use Rattle.meaning_laws.specs.SubqueryValues.{inner_bindings_of, HasInnerTruths, Selects}
use Rattle.lint_core.specs.Truth.{truth_of, is_true, not_of, negated_if, greatest, and_of, or_of}
use Rattle.lint_core.proofs.Conditions.{block_truth_is, truth_compare, truth_exists, truth_in}
use Rattle.lint_base.proofs.Lists.{any_map}
use Rattle.lint_core.proofs.Conditions.{least_true}
use Rattle.meaning_laws.proofs.MeaningLaws.{map_ok_map_ok, not_or_of, and_of_truths, or_of_truths}

-- ---- EXISTS

never_unknown : (inners : Evaluated (List Inner)) → map_ok exists_truth inners ≢ Ok Unknown
never_unknown (Ok []) = λ e. cc
never_unknown (Ok (inner ∷ inners)) = λ e. cc
never_unknown (Err place) = λ e. cc

some_selected : (inners : List Inner) (truths : List Truth) → map (λ (inner : Inner). inner.truth) inners ≡ map Ok truths →
    (kept : List Inner) × (selected inners ≡ Ok kept) × (exists_truth kept ≡ truth_of (list_any is_true truths))
some_selected [] [] known = ([], refl, refl)
some_selected [] (t ∷ truths) known = cc
some_selected (inner ∷ inners) [] known = cc
some_selected (inner ∷ inners) (True ∷ truths) known =
    let here : inner.truth ≡ Ok True = cc in
    let later = some_selected inners truths cc in
    (inner ∷ later.0, rw (here, later.1) refl, refl)
some_selected (inner ∷ inners) (Unknown ∷ truths) known =
    let here : inner.truth ≡ Ok Unknown = cc in
    let later = some_selected inners truths cc in
    (later.0, rw (here, later.1) refl, later.2)
some_selected (inner ∷ inners) (False ∷ truths) known =
    let here : inner.truth ≡ Ok False = cc in
    let later = some_selected inners truths cc in
    (later.0, rw (here, later.1) refl, later.2)

-- ---- the OR of truths

unknown_or : (a b : Bool) → greatest Unknown (if a then True else (if b then Unknown else False)) ≡ (if a then True else Unknown)
unknown_or true b = refl
unknown_or false true = refl
unknown_or false false = refl

pub or_decided : (truths : List Truth) → or_of truths ≡ disjunction truths
or_decided [] = refl
or_decided (True ∷ truths) = refl
or_decided (Unknown ∷ truths) = ap (greatest Unknown) (or_decided truths) ∙ unknown_or (list_any is_true truths) (list_any is_unknown truths)
or_decided (False ∷ truths) = or_decided truths

and_true : (truths : List Truth) → is_true (and_of truths) ≡ list_all is_true truths
and_true [] = refl
and_true (t ∷ truths) = least_true t (and_of truths) ∙ ap (λ b. is_true t && b) (and_true truths)

-- ---- comparisons

not_truth : (b : Bool) → truth_of (not b) ≡ not_of (truth_of b)
not_truth true = refl
not_truth false = refl

ne_is_not_eq : (a b : Value) → compare Ne a b ≡ not_of (compare Eq a b)
ne_is_not_eq Null b = refl
ne_is_not_eq (Int a) Null = refl
ne_is_not_eq (Int a) (Int b) = not_truth _
ne_is_not_eq (Int a) (Text b) = refl
ne_is_not_eq (Text a) Null = refl
ne_is_not_eq (Text a) (Int b) = refl
ne_is_not_eq (Text a) (Text b) = not_truth _

with_null : (a : Value) → compare Eq a Null ≡ Unknown
with_null Null = refl
with_null (Int a) = refl
with_null (Text a) = refl

and_later : (a b : Bool) → b ≡ false → (a && b) ≡ false
and_later true b last = last
and_later false b last = refl

module _ (left : Value) where
  abbrev distinct : Value → Bool
  distinct value = is_true (compare Ne left value)

  each_not : (values : List Value) → map (compare Ne left) values ≡ map not_of (map (compare Eq left) values)
  each_not [] = refl
  each_not (value ∷ values) = rw (ne_is_not_eq left value, each_not values) refl

  pub differ : (values : List Value) → and_of (map (compare Ne left) values) ≡ not_of (in_truth left values)
  differ values = ap and_of (each_not values) ∙ sym (not_or_of (map (compare Eq left) values))

  each_distinct : (values : List Value) → list_all is_true (map (compare Ne left) values) ≡ list_all distinct values
  each_distinct [] = refl
  each_distinct (value ∷ values) = ap (λ b. distinct value && b) (each_distinct values)

  all_distinct : (values : List Value) → is_true (not_of (in_truth left values)) ≡ list_all distinct values
  all_distinct values = ap is_true (sym (differ values)) ∙ (and_true (map (compare Ne left) values) ∙ each_distinct values)

  not_all_distinct : (values : List Value) → list_any is_null values ≡ true → list_all distinct values ≡ false
  not_all_distinct [] null = cc
  not_all_distinct (Null ∷ values) null = rw (ne_is_not_eq left Null, with_null left) refl
  not_all_distinct (Int n ∷ values) null = and_later (distinct (Int n)) (list_all distinct values) (not_all_distinct values null)
  not_all_distinct (Text text ∷ values) null = and_later (distinct (Text text)) (list_all distinct values) (not_all_distinct values null)

  some_unknown : (values : List Value) → list_any is_null values ≡ true → list_any is_unknown (map (compare Eq left) values) ≡ true
  some_unknown [] null = cc
  some_unknown (Null ∷ values) null = rw (with_null left) refl
  some_unknown (Int n ∷ values) null = or_right (is_unknown (compare Eq left (Int n))) (list_any is_unknown (map (compare Eq left) values)) (some_unknown values null)
  some_unknown (Text text ∷ values) null = or_right (is_unknown (compare Eq left (Text text))) (list_any is_unknown (map (compare Eq left) values)) (some_unknown values null)

  unknown_with_null : (values : List Value) → list_any is_null values ≡ true → list_any (are_equal left) values ≡ false → in_truth left values ≡ Unknown
  unknown_with_null values null none =
      or_decided (map (compare Eq left) values)
      ∙ rw (any_map (compare Eq left) is_true values, none, some_unknown values null) refl

true_is : (t : Truth) → is_true t ≡ true → t ≡ True
true_is True is = refl
true_is Unknown is = cc
true_is False is = cc

-- what is made of values, where it is known
made_of : (f : List Value → Truth) (values : Evaluated (List Value)) (t : Truth) → map_ok f values ≡ Ok t → (known : List Value) × (values ≡ Ok known) × (f known ≡ t)
made_of f (Ok values) t made = (values, refl, cc)
made_of f (Err place) t made = cc

-- ---- conditions

module _ (db : Database) (tables binding : List (List ℕ)) where
  exists_is : (block : Block) (span : Span) → truth db (c.Exists block span) tables binding ≡ map_ok exists_truth (selected (inner_bindings_of db block tables binding))
  exists_is block span =
      truth_exists db block span tables binding
      ∙ ap (λ (m : BlockMeaning). map_ok exists_truth (selected (m.bindings tables binding))) (block_truth_is db block)

  pub exists_never_unknown : (block : Block) (span : Span) → truth db (c.Exists block span) tables binding ≢ Ok Unknown
  exists_never_unknown block span unknown = never_unknown (selected (inner_bindings_of db block tables binding)) (sym (exists_is block span) ∙ unknown)

  pub exists_some : (block : Block) (span : Span) (truths : List Truth) → HasInnerTruths db block tables binding truths →
      truth db (c.Exists block span) tables binding ≡ Ok (truth_of (list_any is_true truths))
  exists_some block span truths known =
      let some = some_selected (inner_bindings_of db block tables binding) truths known in
      exists_is block span ∙ (ap (map_ok exists_truth) some.1 ∙ ap Ok some.2)

  abbrev value_of : Term → Value
  value_of = term_value db tables binding

  module _ (left item : Term) (block : Block) (span : Span) where
    in_is : (negated : Bool) → truth db (c.In left block item negated span) tables binding
        ≡ map_ok (λ values. negated_if negated (in_truth (value_of left) values)) (map_ok (items_at db item) (selected (inner_bindings_of db block tables binding)))
    in_is negated =
        truth_in db left block item negated span tables binding
        ∙ (ap (λ (m : BlockMeaning). map_ok (λ inners. negated_if negated (in_truth (value_of left) (items_at db item inners))) (selected (m.bindings tables binding))) (block_truth_is db block)
        ∙ sym (map_ok_map_ok (items_at db item) (λ values. negated_if negated (in_truth (value_of left) values)) (selected (inner_bindings_of db block tables binding))))

    pub in_of : (negated : Bool) (values : List Value) → Selects db block item tables binding values →
        truth db (c.In left block item negated span) tables binding ≡ Ok (negated_if negated (in_truth (value_of left) values))
    in_of negated values selects = in_is negated ∙ ap (map_ok (λ values. negated_if negated (in_truth (value_of left) values))) selects

    pub in_known : (negated : Bool) (t : Truth) → truth db (c.In left block item negated span) tables binding ≡ Ok t →
        (values : List Value) × Selects db block item tables binding values × (negated_if negated (in_truth (value_of left) values) ≡ t)
    in_known negated t known = made_of (λ values. negated_if negated (in_truth (value_of left) values)) _ t (sym (in_is negated) ∙ known)

    pub in_decided : (values : List Value) → Selects db block item tables binding values →
        truth db (c.In left block item false span) tables binding ≡ Ok (disjunction (map (compare Eq (value_of left)) values))
    in_decided values selects = in_of false values selects ∙ ap Ok (or_decided (map (compare Eq (value_of left)) values))

    pub not_in_true : (values : List Value) → Selects db block item tables binding values → list_all (distinct (value_of left)) values ≡ true →
        truth db (c.In left block item true span) tables binding ≡ Ok True
    not_in_true values selects all = in_of true values selects ∙ ap Ok (true_is (not_of (in_truth (value_of left) values)) (all_distinct (value_of left) values ∙ all))

    pub not_in_only : truth db (c.In left block item true span) tables binding ≡ Ok True →
        (values : List Value) × Selects db block item tables binding values × (list_all (distinct (value_of left)) values ≡ true)
    not_in_only known =
        let found = in_known true True known in
        (found.0, found.1, sym (all_distinct (value_of left) found.0) ∙ ap is_true found.2)

    pub not_in_null : (values : List Value) → Selects db block item tables binding values → list_any is_null values ≡ true →
        truth db (c.In left block item true span) tables binding ≢ Ok True
    not_in_null values selects null known =
        let is : Ok (not_of (in_truth (value_of left) values)) ≡ Ok True = sym (in_of true values selects) ∙ known in
        let all : list_all (distinct (value_of left)) values ≡ true = sym (all_distinct (value_of left) values) ∙ ap (has_truth is_true) is in
        let none = not_all_distinct (value_of left) values null in
        cc

    pub not_in_unknown : (values : List Value) → Selects db block item tables binding values → list_any is_null values ≡ true → list_any (are_equal (value_of left)) values ≡ false →
        truth db (c.In left block item true span) tables binding ≡ Ok Unknown
    not_in_unknown values selects null none = in_of true values selects ∙ ap (λ t. Ok (not_of t)) (unknown_with_null (value_of left) values null none)

  abbrev listed : List (Term × Span) → List Value
  listed items = map (λ (item : Term × Span). value_of item.0) items

  compared : (op : Op) (left : Term) (items : List (Term × Span)) →
      HaveTruths db (map (λ (item : Term × Span). c.Compare op left item.0 item.1) items) tables binding (map (compare op (value_of left)) (listed items))
  compared op left [] = refl
  compared op left (item ∷ items) = rw (truth_compare db op left item.0 item.1 tables binding, compared op left items) refl

  pub in_list : (left : Term) (items : List (Term × Span)) →
      truth db (c.Or (map (λ (item : Term × Span). c.Compare Eq left item.0 item.1) items)) tables binding ≡ Ok (in_truth (value_of left) (listed items))
  in_list left items = or_of_truths db tables binding _ (map (compare Eq (value_of left)) (listed items)) (compared Eq left items)

  pub not_in_list : (left : Term) (items : List (Term × Span)) →
      truth db (c.And (map (λ (item : Term × Span). c.Compare Ne left item.0 item.1) items)) tables binding ≡ Ok (not_of (in_truth (value_of left) (listed items)))
  not_in_list left items =
      and_of_truths db tables binding _ (map (compare Ne (value_of left)) (listed items)) (compared Ne left items)
      ∙ ap Ok (differ (value_of left) (listed items))

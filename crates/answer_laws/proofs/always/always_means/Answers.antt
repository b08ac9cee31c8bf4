use Rattle.std.proofs.Common.{◌≡◌, ◌∙◌, refl, ℕ, Bool, true}
use Rattle.std.specs.Prelude.{List, Ok}
use Rattle.lint_core.specs.declared.condition.Cond.TheVariants.{True, False}
use Rattle.lint_core.specs.declared.database.Database.{Database}
use Rattle.lint_core.specs.declared.database.Points.{Points}
use Rattle.lint_core.specs.declared.database.Points.TheVariants.{One, Two, Without}
use Rattle.lint_core.specs.declared.database.Value.{Value}
use Rattle.lint_core.specs.declared.database.Value.TheVariants.{Null}
use Rattle.lint_core.specs.declared.query.Query.{Query}
use Rattle.lint_core.specs.declared.query.Question.{Question}
use Rattle.lint_core.specs.declared.query.Question.TheVariants.{OneRow, Empty, NeedlessDistinct, Constant, Duplicate, NeedlessJoin, Implied, Impossible, SameRow, NullInNotIn}
use Rattle.lint_core.specs.declared.schema.Table.{Table}
use Rattle.lint_core.specs.Asked.{is_asked}
use Rattle.lint_core.specs.Meets.{meets}
use Rattle.lint_core.specs.Question.{EarlierHold, HoldsAlways, HoldsIn, outcome}
use Rattle.lint_core.specs.QueryAnswer.{answer}
use Rattle.lint_core.proofs.Parted.{scalars_false, scalars_true}
use Rattle.answer_laws.proofs.HoldsAlways.{one_bag, find_a_row, find_no_two, have_one_row, gives_one, selects_no_null}
use Rattle.answer_laws.proofs.HoldsBack.{bag_back, finds_back, one_row_back, no_null_back}
use Rattle.answer_laws.proofs.OfEachRow.{constant_holds, duplicate_holds, empty_holds}
use Rattle.answer_laws.proofs.OneRow.{answered}
use Rattle.answer_laws.proofs.Replaced.{one_answer, together}
use Rattle.answer_laws.proofs.always.always_means.Goals as goal
use Rattle.answer_laws.specs.AlwaysMeans.{AlwaysMeans, AreAlike}
use Rattle.answer_laws.specs.Answers.{HasAnswer, with_predicate}

module _ (db : Database) (query : Query) (predicate : ℕ) (value : Value) (rows : List (List Value)) (known : answer db query ≡ Ok rows) where
  implied : HoldsIn db query (Implied predicate) value → AreAlike db query (with_predicate predicate True query) rows
  implied holds =
      let all = (together db query predicate True scalars_true (rows, known) (Implied predicate) value (λ one. refl) (λ one two. refl) (λ one. refl)).0 holds in
      (all, one_answer db query predicate True scalars_true (rows, known) all ∙ known)

  impossible : HoldsIn db query (Impossible predicate) value → AreAlike db query (with_predicate predicate False query) rows
  impossible holds =
      let all = (together db query predicate False scalars_false (rows, known) (Impossible predicate) value (λ one. refl) (λ one two. refl) (λ one. refl)).0 holds in
      (all, one_answer db query predicate False scalars_false (rows, known) all ∙ known)

module _
    (decides : (schema : List Table) (db : Database) (query : Query) (question : Question) (given : Value) (points : Points)
    → is_asked schema query question ≡ true → EarlierHold db query question → (refuted : Bool) × (outcome db query question given points ≡ Ok refuted))
    (schema : List Table) (query : Query) where
  means : (question : Question) (value : Value) → is_asked schema query question ≡ true → HoldsAlways schema query question value → AlwaysMeans schema query question value
  means (OneRow number) value asked always = λ sub at db meets. gives_one db query number value sub at (always db meets)
  means Empty value asked always = λ db meets rows known. (empty_holds db query value rows known).0 (always db meets)
  means NeedlessDistinct value asked always = λ db meets. one_bag db query value (always db meets)
  means (Constant item) value asked always = λ db meets rows known. (constant_holds db query item value rows known).0 (always db meets)
  means (Duplicate item other) value asked always = λ db meets rows known. (duplicate_holds db query item other value rows known).0 (always db meets)
  means (NeedlessJoin entry) value asked always = λ db meets rows known.
      let each = (answered db query).0 (rows, known) in (
        find_a_row db query entry value (λ one. decides schema db query (NeedlessJoin entry) value (Without one) asked (λ sub low. each sub)) (always db meets),
        find_no_two db query entry value (always db meets),
      )
  means (Implied predicate) value asked always = λ db meets rows known. implied db query predicate value rows known (always db meets)
  means (Impossible predicate) value asked always = λ db meets rows known. impossible db query predicate value rows known (always db meets)
  means (SameRow entry other) value asked always = λ db meets. have_one_row db query entry other value (always db meets)
  means (NullInNotIn number) value asked always = λ sub at db meets. selects_no_null db query number value sub at (always db meets)

-- where the query has an answer
module _ (schema : List Table) (query : Query) where
  back : (question : Question) (value : Value) → is_asked schema query question ≡ true → AlwaysMeans schema query question value →
      (db : Database) → meets schema db ≡ true → HasAnswer db query → HoldsIn db query question value
  back (OneRow number) value asked says db met has = of_value ((answered db query).0 has number)
    where
      of_value : HoldsIn db query (OneRow number) Null → HoldsIn db query (OneRow number) value
      of_value holds (One one) = refl
      of_value holds (Two one two) = holds (Two one two)
      of_value holds (Without one) = refl
  back Empty value asked says db met has = (empty_holds db query value has.0 has.1).1 (says db met has.0 has.1)
  back NeedlessDistinct value asked says db met has = bag_back db query value asked has.0 has.1 (says db met has.0 has.1)
  back (Constant item) value asked says db met has = (constant_holds db query item value has.0 has.1).1 (says db met has.0 has.1)
  back (Duplicate item other) value asked says db met has = (duplicate_holds db query item other value has.0 has.1).1 (says db met has.0 has.1)
  back (NeedlessJoin entry) value asked says db met has = let both = says db met has.0 has.1 in finds_back db query entry value both.0 both.1
  back (Implied predicate) value asked says db met has =
      (together db query predicate True scalars_true has (Implied predicate) value (λ one. refl) (λ one two. refl) (λ one. refl)).1 (says db met has.0 has.1).0
  back (Impossible predicate) value asked says db met has =
      (together db query predicate False scalars_false has (Impossible predicate) value (λ one. refl) (λ one two. refl) (λ one. refl)).1 (says db met has.0 has.1).0
  back (SameRow entry other) value asked says db met has = one_row_back db query entry other value (says db met)
  back (NullInNotIn number) value asked says db met has = no_null_back db query number value (λ sub at. says sub at db met)

pub returns-clause-means : goal.returns-clause-means
returns-clause-means c = means c.outcomes_are_decided_where_earlier_questions_hold.ensures

pub returns-clause-back : goal.returns-clause-back
returns-clause-back c = back

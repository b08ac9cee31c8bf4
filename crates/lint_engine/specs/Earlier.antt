-- What the answers to earlier questions of a query decide of a later one: that it is blocked, that it is moot, and with which
-- value a constant column is asked of. Earlier than each other question stand all E9 of the query, and earlier than what is
-- neither E9 nor E1 stands E1.
use Rattle.std.specs.Prelude.{ℕ, suc, Bool, true, false, ◌&&◌, not, List, [], ◌∷◌, Option, Some, None, is_some, option_and_then, find}
use Rattle.std.specs.Option.{option_map, option_map_or, option_or}
use Rattle.lint_core.specs.declared.database.Counter.{Counter}
use Rattle.lint_core.specs.declared.database.Database.{Database}
use Rattle.lint_core.specs.declared.database.Points.{Points}
use Rattle.lint_core.specs.declared.database.Points.TheVariants.{One, Two, Without}
use Rattle.lint_core.specs.declared.database.Value.{Value}
use Rattle.lint_core.specs.declared.database.Value.TheVariants.{Null}
use Rattle.lint_core.specs.declared.query.Query.{Query}
use Rattle.lint_core.specs.declared.query.Question.{Question}
use Rattle.lint_core.specs.declared.query.Question.TheVariants.{OneRow, Empty, Constant}
use Rattle.lint_core.specs.declared.run.Answer.{Answer}
use Rattle.lint_core.specs.declared.run.Answer.TheVariants.{Always, NotAlways, Blocked}
use Rattle.lint_core.specs.Question.{value_of_item}

-- a question with its number, from 1, and its answer
pub record Answered : Type 0 where
  pub number : ℕ
  pub question : Question
  pub answer : Answer

-- questions with their answers, numbered from this number
abbrev pub answered : ℕ → List Question → List Answer → List Answered
answered next [] answers = []
answered next (q ∷ qs) [] = []
answered next (q ∷ qs) (a ∷ answers) = record { number = next; question = q; answer = a } ∷ answered (suc next) qs answers

-- ---- questions and answers of a kind

abbrev pub is_one_row : Question → Bool
is_one_row (OneRow sub) = true
is_one_row question = false

abbrev pub is_empty : Question → Bool
is_empty Empty = true
is_empty question = false

abbrev pub is_constant : Question → Bool
is_constant (Constant item) = true
is_constant question = false

abbrev pub is_always : Answer → Bool
is_always (Always cert) = true
is_always answer = false

-- Always, NotAlways or Blocked
abbrev pub is_settled : Answer → Bool
is_settled (Always cert) = true
is_settled (NotAlways counters) = true
is_settled (Blocked by) = true
is_settled answer = false

-- ---- what they decide

-- an E9 that is answered other than Always
abbrev pub is_open_one_row : Answered → Bool
is_open_one_row x = is_one_row x.question && not (is_always x.answer)

-- E1, answered other than Always, NotAlways and Blocked
abbrev pub is_open_empty : Answered → Bool
is_open_empty x = is_empty x.question && not (is_settled x.answer)

-- E1, answered Always
abbrev pub is_always_empty : Answered → Bool
is_always_empty x = is_empty x.question && is_always x.answer

abbrev pub first_number : (Answered → Bool) → List Answered → Option ℕ
first_number test earlier = option_map (λ (x : Answered). x.number) (find test earlier)

-- the number of the question that blocks this one: the first such E9, or of a constant column such an E1
abbrev pub blocker : List Answered → Question → Option ℕ
blocker earlier (Constant item) = option_or (first_number is_open_one_row earlier) (first_number is_open_empty earlier)
blocker earlier question = first_number is_open_one_row earlier

-- the query is always empty, and this is neither E9 nor E1
abbrev pub is_moot : List Answered → Question → Bool
is_moot earlier (OneRow sub) = false
is_moot earlier Empty = false
is_moot earlier question = is_some (find is_always_empty earlier)

-- ---- the value of a constant column

abbrev pub counter_in : Answer → Option Counter
counter_in (NotAlways []) = None
counter_in (NotAlways (counter ∷ counters)) = Some counter
counter_in answer = None

-- E1's database, with the points at which the answer has a row there
abbrev pub empty_counter : List Answered → Option Counter
empty_counter earlier = option_and_then (λ (x : Answered). counter_in x.answer) (find (λ (x : Answered). is_empty x.question) earlier)

-- of an item (the points of E1 are one binding)
abbrev pub value_at : Database → Query → ℕ → Points → Value
value_at db query item (One binding) = value_of_item db query binding item
value_at db query item (Two one two) = Null
value_at db query item (Without binding) = Null

-- of a constant column its value there; else NULL
abbrev pub given_for : Query → List Answered → Question → Value
given_for query earlier (Constant item) = option_map_or (λ (c : Counter). value_at c.database query item c.points) (empty_counter earlier) Null
given_for query earlier question = Null

-- A subquery that a search reached, or how much of the number is left where there are too few.
use Rattle.std.specs.Prelude.{ℕ, zero, suc, List, [], ◌∷◌, Result, Ok, Err}
use Rattle.sql_meaning.specs.declared.subqueries.Search.{Search}
use Rattle.sql_meaning.specs.declared.subqueries.Search.TheVariants.{Found, Left}
use Rattle.sql_meaning.specs.Answered.{whole_of}
use Rattle.sql_meaning.specs.WholeSubqueries.{WholeSubquery}

abbrev pub reached : Search → Result WholeSubquery ℕ
reached (Found subquery) = Ok (whole_of subquery)
reached (Left number) = Err number

abbrev pub item_at : {A : Type 0} → List A → ℕ → Result A ℕ
item_at [] n = Err n
item_at (x ∷ xs) zero = Ok x
item_at (x ∷ xs) (suc n) = item_at xs n

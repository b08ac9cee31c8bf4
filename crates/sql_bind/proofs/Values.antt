-- The values of an IN list, one after the other.
use Rattle.std.proofs.Common.{◌≡◌, ◌∙◌, ap, sym, refl, List, [], ◌∷◌, ◌++◌, append_assoc, Ok, Err}
use Rattle.std.proofs.lemmas.List.{append-nil}
use Rattle.lint_base.specs.declared.place.Refusal.{Refusal}
use Rattle.sql_tree.specs.declared.term.TermTree.{TermTree}
use Rattle.lint_core.specs.declared.condition.Term.{Term}
use Rattle.lint_core.specs.declared.schema.Table.{Table}
use Rattle.sql_bind.specs.Bound.{Bound, and_then}
use Rattle.sql_bind.specs.Names.{Level}
use Rattle.sql_bind.specs.Terms.{bind_term}
use Rattle.sql_bind.specs.Conditions.{Value, bind_values, tree_span}

-- those bound so far, and then the rest
abbrev pub values_after : List Table → List Level → List Value → List TermTree → Bound (List Value)
values_after schema levels so_far rest = and_then (bind_values schema levels rest) (λ more. Ok (so_far ++ more))

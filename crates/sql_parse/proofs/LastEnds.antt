-- Where the last of the names of a reference ends.
use Rattle.std.proofs.Common.{◌≡◌, List, [], ◌∷◌, ◌++◌, refl, ap, ◌∙◌}
use Rattle.sql_tree.specs.declared.term.NameTree.{NameTree}
use Rattle.sql_parse.specs.grammar.Tables.{last_end}

pub last_end-front : (table : NameTree) (front : List NameTree) (name : NameTree) → last_end table (front ++ name ∷ []) ≡ name.span.to
last_end-front table [] name = refl
last_end-front table (first ∷ front) name = last_end-front first front name

pub last_end-is : (table : NameTree) (target front : List NameTree) (name : NameTree) → target ≡ front ++ name ∷ [] → last_end table target ≡ name.span.to
last_end-is table target front name e = ap (last_end table) e ∙ last_end-front table front name

pub ruleset last_end_rules = (last_end-is, last_end-front)

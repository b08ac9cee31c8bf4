use Rattle.std.proofs.Common.{◌≡◌, ℕ, List, length, drop}
use Rattle.sort_formula.specs.declared.formula.Formula.{Formula}
use Rattle.sort_formula.specs.Translation.{exist_rows}
use Rattle.witness_db.proofs.formulas.body_of.Given as goal

-- inside as many
abbrev pub invariant-loop : goal.invariant-loop
invariant-loop l =
    (tables : List ℕ) (body : Formula) → l.sentence ≡ exist_rows tables body → length tables ≡ l.count → l.formula ≡ exist_rows (drop l.counter tables) body

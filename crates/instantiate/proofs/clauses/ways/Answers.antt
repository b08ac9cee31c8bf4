use Rattle.std.proofs.Common.{◌∙◌, ◌++◌, ap, sym, length, List}
use Rattle.std.specs.Prelude.{Option, replicate}
use Rattle.sort_formula.specs.declared.formula.Formula.{Formula, out-Formula}
use Rattle.ground_theory.specs.declared.literal.Literal.{Literal}
use Rattle.instantiate.specs.Ground.{ways_in}
use Rattle.instantiate.proofs.Formed.{no_literal, ways_or, ways_other}
use Rattle.instantiate.proofs.clauses.ways.Goals as goal
use Rattle.instantiate.proofs.clauses.ways.Goals.{in-Atom+in_ok-add_literal-in-Atom, in-Or+in_ok-add_plain_ways-in-Or, in_default+in_ok-add_plain_ways-in_default}

pub returns : goal.returns
returns c =
    let made = ways_in c.args.variables.now (out-Formula c.args.formula.now) in
    elim c.match-formula.branch [
      | in-Atom+in_ok-add_literal-in-Atom w ↦
          w.ways-is ∙ (w.in_ok-add_literal-in-Atom.ensures ∙ ap (λ (ws : List (Option Literal)). ws ++ made) c.new-ways.ensures)
      | in-Or+in_ok-add_plain_ways-in-Or w ↦
          w.ways-is
          ∙ (w.in_ok-add_plain_ways-in-Or.ensures
          ∙ (ap (λ (ws : List (Option Literal)). ws ++ replicate (length w.as_slice.result.now) no_literal) c.new-ways.ensures
          ∙ (ap (λ (parts : List Formula). replicate (length parts) no_literal) w.as_slice.ensures
          ∙ sym (ways_or c.args.formula.now c.args.variables.now w.in-Or.parts w.in-Or.is))))
      | in_default+in_ok-add_plain_ways-in_default w ↦
          w.ways-is
          ∙ (w.in_ok-add_plain_ways-in_default.ensures
          ∙ (ap (λ (ws : List (Option Literal)). ws ++ replicate 1 no_literal) c.new-ways.ensures
          ∙ sym (ways_other c.args.formula.now c.args.variables.now w.in_default.not-Atom w.in_default.not-Or)))
    ]

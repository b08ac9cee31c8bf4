use Rattle.std.proofs.Common.{◌≡◌, ◌∙◌, ◌<◌, ◌+◌, ◌-◌, ◌^◌, ◌++◌, ◌∷◌, [], ap, map, min, arith, ℕ}
use Rattle.std.specs.Prelude.{sum}
use Rattle.sort_formula.specs.declared.formula.Formula.{Formula}
use Rattle.sort_formula.specs.declared.formula.Formula.TheVariants as f
use Rattle.sort_formula.specs.Nodes.{nodes}
use Rattle.witness_db.proofs.Walks.{nodes_before}
use Rattle.witness_db.proofs.formulas.last_way.Goals as goal

-- what is left of all nodes
left : (all count result before own n : ℕ) → all < 2 ^ 32 → all ≡ before + own → count ≡ min own (2 ^ 64 - 1) → n ≡ min all (2 ^ 64 - 1) → result ≡ n - count → result ≡ before
left all count result before own n few whole counted total is = omega arith

pub returns-in-Some-last_part-clause-number : goal.returns-in-Some-last_part-clause-number
returns-in-Some-last_part-clause-number c = λ tables others ways way is size.
    let body : Formula = f.And (others ++ f.Or (ways ++ way ∷ []) ∷ []) in
    let one : c.body_of-body.result.now ≡ body = c.body_of-body.ensures tables body (c.formula.ensures.formula ∙ is) size in
    let two : c.in-Some.part.now ≡ f.Or (ways ++ way ∷ []) = c.in-Some.ensures.and others (f.Or (ways ++ way ∷ [])) one in
    let three : c.in-Some-last_part.way.now ≡ way = c.in-Some-last_part.ensures.or ways way two in
    left (nodes c.args.sentence.now) c.nodes-own.result c.saturating_sub.result (c.args.count + 2 + sum (map nodes others) + sum (map nodes ways)) (nodes way) c.nodes-all.result
    c.requires
    (ap nodes is ∙ (nodes_before tables others ways way ∙ ap (λ n. n + 2 + sum (map nodes others) + sum (map nodes ways) + nodes way) size))
    (c.nodes-own.ensures ∙ ap (λ (g : Formula). min (nodes g) (2 ^ 64 - 1)) three)
    c.nodes-all.ensures
    c.saturating_sub.ensures

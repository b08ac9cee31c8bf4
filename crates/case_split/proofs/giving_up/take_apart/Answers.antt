use Rattle.std.proofs.Common.{◌≡◌, ◌∙◌, sym, ap, ◌<◌, length, ℕ, suc, ◌-◌, get_or, List, arith}
use Rattle.case_split.specs.declared.tree.CaseTree.{CaseTree}
use Rattle.case_split.specs.declared.tree.CaseTree.TheVariants as tree
use Rattle.case_split.specs.inner.Sizes.{size_of_all, weight_of_all}
use Rattle.case_split.proofs.Weights.{split_weighs, lighter_without, lighter_turned}
use Rattle.case_split.proofs.giving_up.take_apart.Goals as goal

pub returns-then-len-eq0 : goal.returns-then-len-eq0
returns-then-len-eq0 c =
    let xs : List CaseTree = c.args.cases.items in
    let l : ℕ = c.len-last.result - 1 in
    let count : c.args.cases.len ≡ length xs = c.args.cases.ok.0 in
    let size : suc l ≡ length xs = omega arith in
    let some : 0 < l = omega arith in
    let is : c.replace.result ≡ get_or xs l c.replace.result =
    c.replace.ensures.value ∙ (c.index_mut.ensures.value ∙ ap (get_or xs l) (sym c.replace.ensures.value)) in
    let lighter = lighter_without xs l c.replace.result c.replace.new.dest (size_of_all c.cases_of-below.result.items) size some is c.cases_of-below.ensures.size in
    let same : weight_of_all c.truncate.new.self.items ≡ _ = ap weight_of_all c.truncate.ensures.items in
    omega (arith, lighter, same)

pub returns : goal.returns
returns c =
    let xs : List CaseTree = c.args.cases.items in
    let below : List CaseTree = c.cases_of-below.result.items in
    let l : ℕ = c.len-last.result - 1 in
    let count : c.args.cases.len ≡ length xs = c.args.cases.ok.0 in
    let size : suc l ≡ length xs = omega arith in
    let some : 0 < l = omega arith in
    let is : c.replace.result ≡ get_or xs l c.replace.result =
    c.replace.ensures.value ∙ (c.index_mut.ensures.value ∙ ap (get_or xs l) (sym c.replace.ensures.value)) in
    let long : c.cases_of-below.result.len ≡ length below = c.cases_of-below.result.ok.0 in
    let there : 0 < length below = omega arith in
    let first : c.swap.new.y ≡ get_or below 0 c.swap.new.y =
    c.swap.ensures.y_after ∙ (c.index_mut-2.ensures.value ∙ ap (get_or below 0) (sym c.swap.ensures.y_after)) in
    lighter_turned xs below c.from_vec.result l c.replace.result c.swap.new.y c.replace.new.dest c.swap.new.x (tree.Split 0 c.from_vec.result)
    size some is c.cases_of-below.ensures.size there first c.from_vec.ensures (split_weighs 0 c.from_vec.result)

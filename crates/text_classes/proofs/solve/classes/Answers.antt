use Rattle.std.proofs.Common.{◌≡◌, ◌∙◌, ◌+◌, ◌<◌, ◌^◌, sym, ap, subst, ℕ, Some, None, length, List, All, arith, string_bytes}
use Rattle.text_classes.specs.Texts.{Satisfies}
use Rattle.text_classes.specs.Paths.{IsPath}
use Rattle.text_classes.specs.Answer.{text_in, AreDistinct, IsPlain, AreClasses}
use Rattle.text_classes.specs.inner.Forest.{IsIndexed}
use Rattle.text_classes.specs.inner.Fresh.{IsIn, held_at}
use Rattle.text_classes.proofs.Answering.{graph_of, grown_of, held_of, clash_of, each_of, none_of, ascii_of, all_met, all_indexed, vars_indexed, broken_path, clash_path, held_in, labels_listed, answer_distinct, answer_plain, answer_holds, answer_classes}
use Rattle.text_classes.proofs.solve.classes.Goals as goal

pub broken-requires-clause-met : goal.broken-requires-clause-met
broken-requires-clause-met c =
    let facts = c.args.facts.now in
    let texts = c.in_ok-graph.graph.texts.items in
    let links = c.as_slice-links.result.now in
    let s = c.in_ok-forest.forest in
    let graph = graph_of c.args.vars facts texts c.in_ok-graph.graph.links.items links c.in_ok-graph.ensures c.as_slice-links.ensures.value in
    let size : c.len.result ≡ length texts = omega arith in
    let grown = grown_of c.args.vars texts links s (length c.deref.result.now) c.len.result (ap length c.deref.ensures.value ∙ c.in_ok-ways.ensures.count) size c.in_ok-forest.ensures in
    all_met c.args.vars facts texts links graph s grown

pub returns-in-Some-clause-path : goal.returns-in-Some-clause-path
returns-in-Some-clause-path c =
    let facts = c.args.facts.now in
    let texts = c.in_ok-graph.graph.texts.items in
    let links = c.as_slice-links.result.now in
    let s = c.in_ok-forest.forest in
    let graph = graph_of c.args.vars facts texts c.in_ok-graph.graph.links.items links c.in_ok-graph.ensures c.as_slice-links.ensures.value in
    let size : c.len.result ≡ length texts = omega arith in
    let grown = grown_of c.args.vars texts links s (length c.deref.result.now) c.len.result (ap length c.deref.ensures.value ∙ c.in_ok-ways.ensures.count) size c.in_ok-forest.ensures in
    let b = c.in-Some.ensures in
    subst (λ (p : List ℕ). IsPath facts (Some c.in-Some.last) p) (sym c.from_vec.ensures) (broken_path c.args.vars facts texts links graph c.in-Some.last c.in_ok-path.path.items b.listed b.unequal c.in_ok-path.ensures)

pub hold-requires-clause-indexed : goal.hold-requires-clause-indexed
hold-requires-clause-indexed c =
    let facts = c.args.facts.now in
    let texts = c.in_ok-graph.graph.texts.items in
    let links = c.as_slice-links.result.now in
    let s = c.in_ok-forest.forest in
    let graph = graph_of c.args.vars facts texts c.in_ok-graph.graph.links.items links c.in_ok-graph.ensures c.as_slice-links.ensures.value in
    let size : c.len.result ≡ length texts = omega arith in
    let grown = grown_of c.args.vars texts links s (length c.deref.result.now) c.len.result (ap length c.deref.ensures.value ∙ c.in_ok-ways.ensures.count) size c.in_ok-forest.ensures in
    subst (λ (k : ℕ). IsIndexed (c.args.vars + k) s) (sym size) (all_indexed c.args.vars facts texts links graph s grown)

pub returns-in-Clash-clause-path : goal.returns-in-Clash-clause-path
returns-in-Clash-clause-path c =
    let facts = c.args.facts.now in
    let texts = c.in_ok-graph.graph.texts.items in
    let links = c.as_slice-links.result.now in
    let s = c.in_ok-forest.forest in
    let graph = graph_of c.args.vars facts texts c.in_ok-graph.graph.links.items links c.in_ok-graph.ensures c.as_slice-links.ensures.value in
    let size : c.len.result ≡ length texts = omega arith in
    let grown = grown_of c.args.vars texts links s (length c.deref.result.now) c.len.result (ap length c.deref.ensures.value ∙ c.in_ok-ways.ensures.count) size c.in_ok-forest.ensures in
    let clash = clash_of c.args.vars texts s c.len.result size c.in_ok-left.field-0 c.in-Clash.left c.in-Clash.right c.in-Clash.is c.in_ok-left.ensures in
    subst (λ (p : List ℕ). IsPath facts None p) (sym c.from_vec-in-Clash.ensures) (clash_path c.args.vars facts texts links graph c.in-Clash.left c.in-Clash.right c.in_ok-path-in-Clash.field-0.items clash.first clash.second clash.within c.in_ok-path-in-Clash.ensures)

pub texts-requires : goal.texts-requires
texts-requires c =
    let facts = c.args.facts.now in
    let texts = c.in_ok-graph.graph.texts.items in
    let links = c.as_slice-links.result.now in
    let s = c.in_ok-forest.forest in
    let graph = graph_of c.args.vars facts texts c.in_ok-graph.graph.links.items links c.in_ok-graph.ensures c.as_slice-links.ensures.value in
    let size : c.len.result ≡ length texts = omega arith in
    let grown = grown_of c.args.vars texts links s (length c.deref.result.now) c.len.result (ap length c.deref.ensures.value ∙ c.in_ok-ways.ensures.count) size c.in_ok-forest.ensures in
    let are = held_of c.args.vars texts s c.len.result size c.in_ok-left.field-0 c.in-Each.held c.in-Each.is c.in_ok-left.ensures in
    record { held = λ class. subst (λ (ts : List (List ℕ)). IsIn c.args.vars (length ts) (held_at c.deref-in-Each-3.result.now class)) (sym c.deref-in-Each-2.ensures.value) (rw c.deref-in-Each-3.ensures.value (held_in c.args.vars facts texts links graph s grown c.in-Each.held.items are class)) }

pub labels-requires : goal.labels-requires
labels-requires c =
    let facts = c.args.facts.now in
    let texts = c.in_ok-graph.graph.texts.items in
    let links = c.as_slice-links.result.now in
    let s = c.in_ok-forest.forest in
    let graph = graph_of c.args.vars facts texts c.in_ok-graph.graph.links.items links c.in_ok-graph.ensures c.as_slice-links.ensures.value in
    let size : c.len.result ≡ length texts = omega arith in
    let grown = grown_of c.args.vars texts links s (length c.deref.result.now) c.len.result (ap length c.deref.ensures.value ∙ c.in_ok-ways.ensures.count) size c.in_ok-forest.ensures in
    vars_indexed c.args.vars facts texts links graph s grown

pub returns-clause-listed : goal.returns-clause-listed
returns-clause-listed c =
    let facts = c.args.facts.now in
    let texts = c.in_ok-graph.graph.texts.items in
    let links = c.as_slice-links.result.now in
    let s = c.in_ok-forest.forest in
    let graph = graph_of c.args.vars facts texts c.in_ok-graph.graph.links.items links c.in_ok-graph.ensures c.as_slice-links.ensures.value in
    let size : c.len.result ≡ length texts = omega arith in
    let grown = grown_of c.args.vars texts links s (length c.deref.result.now) c.len.result (ap length c.deref.ensures.value ∙ c.in_ok-ways.ensures.count) size c.in_ok-forest.ensures in
    let held = c.in-Each.held.items in
    let are = held_of c.args.vars texts s c.len.result size c.in_ok-left.field-0 c.in-Each.held c.in-Each.is c.in_ok-left.ensures in
    let prefix = c.as_str.result.now in
    let bytes = string_bytes c.in_ok-prefix-in-Each.prefix in
    let none = none_of prefix bytes texts c.deref-in-Each.result.now c.deref-in-Each.ensures.value c.as_str.ensures.value c.in_ok-prefix-in-Each.ensures.none in
    let ascii = ascii_of prefix bytes c.as_str.ensures.value c.in_ok-prefix-in-Each.ensures.ascii in
    let answer = c.in_ok-texts-in-Each.texts.items in
    let each = each_of c.args.vars texts c.deref-in-Each-2.result.now held c.deref-in-Each-3.result.now prefix answer c.deref-in-Each-2.ensures.value c.deref-in-Each-3.ensures.value c.in_ok-texts-in-Each.ensures.count c.in_ok-texts-in-Each.ensures.each in
    let labels = c.in_ok-labels-in-Each.labels.items in
    let small : c.args.vars < 2 ^ 32 = omega arith in
    subst (λ (ls : List ℕ). All (λ label. label < length c.from_vec-in-Each-2.result) ls) (sym c.from_vec-in-Each.ensures) (subst (λ (ts : List (List ℕ)). All (λ label. label < length ts) labels) (sym c.from_vec-in-Each-2.ensures) (labels_listed c.args.vars facts texts links graph s grown held are labels c.in_ok-labels-in-Each.ensures.count c.in_ok-labels-in-Each.ensures.each prefix none ascii small c.requires.few answer each.0 each.1))

pub returns-clause-satisfied : goal.returns-clause-satisfied
returns-clause-satisfied c =
    let facts = c.args.facts.now in
    let texts = c.in_ok-graph.graph.texts.items in
    let links = c.as_slice-links.result.now in
    let s = c.in_ok-forest.forest in
    let graph = graph_of c.args.vars facts texts c.in_ok-graph.graph.links.items links c.in_ok-graph.ensures c.as_slice-links.ensures.value in
    let size : c.len.result ≡ length texts = omega arith in
    let grown = grown_of c.args.vars texts links s (length c.deref.result.now) c.len.result (ap length c.deref.ensures.value ∙ c.in_ok-ways.ensures.count) size c.in_ok-forest.ensures in
    let held = c.in-Each.held.items in
    let are = held_of c.args.vars texts s c.len.result size c.in_ok-left.field-0 c.in-Each.held c.in-Each.is c.in_ok-left.ensures in
    let prefix = c.as_str.result.now in
    let bytes = string_bytes c.in_ok-prefix-in-Each.prefix in
    let none = none_of prefix bytes texts c.deref-in-Each.result.now c.deref-in-Each.ensures.value c.as_str.ensures.value c.in_ok-prefix-in-Each.ensures.none in
    let ascii = ascii_of prefix bytes c.as_str.ensures.value c.in_ok-prefix-in-Each.ensures.ascii in
    let answer = c.in_ok-texts-in-Each.texts.items in
    let each = each_of c.args.vars texts c.deref-in-Each-2.result.now held c.deref-in-Each-3.result.now prefix answer c.deref-in-Each-2.ensures.value c.deref-in-Each-3.ensures.value c.in_ok-texts-in-Each.ensures.count c.in_ok-texts-in-Each.ensures.each in
    let labels = c.in_ok-labels-in-Each.labels.items in
    let small : c.args.vars < 2 ^ 32 = omega arith in
    subst (λ (ls : List ℕ). Satisfies (text_in ls c.from_vec-in-Each-2.result) facts) (sym c.from_vec-in-Each.ensures) (subst (λ (ts : List (List ℕ)). Satisfies (text_in labels ts) facts) (sym c.from_vec-in-Each-2.ensures) (answer_holds c.args.vars facts texts links graph s grown held are labels c.in_ok-labels-in-Each.ensures.count c.in_ok-labels-in-Each.ensures.each prefix none ascii small c.requires.few answer each.0 each.1 c.in_default.ensures))

pub returns-clause-classes : goal.returns-clause-classes
returns-clause-classes c =
    let facts = c.args.facts.now in
    let texts = c.in_ok-graph.graph.texts.items in
    let links = c.as_slice-links.result.now in
    let s = c.in_ok-forest.forest in
    let graph = graph_of c.args.vars facts texts c.in_ok-graph.graph.links.items links c.in_ok-graph.ensures c.as_slice-links.ensures.value in
    let size : c.len.result ≡ length texts = omega arith in
    let grown = grown_of c.args.vars texts links s (length c.deref.result.now) c.len.result (ap length c.deref.ensures.value ∙ c.in_ok-ways.ensures.count) size c.in_ok-forest.ensures in
    let held = c.in-Each.held.items in
    let are = held_of c.args.vars texts s c.len.result size c.in_ok-left.field-0 c.in-Each.held c.in-Each.is c.in_ok-left.ensures in
    let prefix = c.as_str.result.now in
    let bytes = string_bytes c.in_ok-prefix-in-Each.prefix in
    let none = none_of prefix bytes texts c.deref-in-Each.result.now c.deref-in-Each.ensures.value c.as_str.ensures.value c.in_ok-prefix-in-Each.ensures.none in
    let ascii = ascii_of prefix bytes c.as_str.ensures.value c.in_ok-prefix-in-Each.ensures.ascii in
    let answer = c.in_ok-texts-in-Each.texts.items in
    let each = each_of c.args.vars texts c.deref-in-Each-2.result.now held c.deref-in-Each-3.result.now prefix answer c.deref-in-Each-2.ensures.value c.deref-in-Each-3.ensures.value c.in_ok-texts-in-Each.ensures.count c.in_ok-texts-in-Each.ensures.each in
    let labels = c.in_ok-labels-in-Each.labels.items in
    let small : c.args.vars < 2 ^ 32 = omega arith in
    subst (λ (ls : List ℕ). AreClasses c.args.vars facts ls) (sym c.from_vec-in-Each.ensures) (answer_classes c.args.vars facts texts links graph s grown held are labels c.in_ok-labels-in-Each.ensures.count c.in_ok-labels-in-Each.ensures.each prefix none ascii small c.requires.few answer each.0 each.1 c.in_default.ensures)

pub returns-clause-distinct : goal.returns-clause-distinct
returns-clause-distinct c =
    let facts = c.args.facts.now in
    let texts = c.in_ok-graph.graph.texts.items in
    let links = c.as_slice-links.result.now in
    let s = c.in_ok-forest.forest in
    let graph = graph_of c.args.vars facts texts c.in_ok-graph.graph.links.items links c.in_ok-graph.ensures c.as_slice-links.ensures.value in
    let size : c.len.result ≡ length texts = omega arith in
    let grown = grown_of c.args.vars texts links s (length c.deref.result.now) c.len.result (ap length c.deref.ensures.value ∙ c.in_ok-ways.ensures.count) size c.in_ok-forest.ensures in
    let held = c.in-Each.held.items in
    let are = held_of c.args.vars texts s c.len.result size c.in_ok-left.field-0 c.in-Each.held c.in-Each.is c.in_ok-left.ensures in
    let prefix = c.as_str.result.now in
    let bytes = string_bytes c.in_ok-prefix-in-Each.prefix in
    let none = none_of prefix bytes texts c.deref-in-Each.result.now c.deref-in-Each.ensures.value c.as_str.ensures.value c.in_ok-prefix-in-Each.ensures.none in
    let ascii = ascii_of prefix bytes c.as_str.ensures.value c.in_ok-prefix-in-Each.ensures.ascii in
    let answer = c.in_ok-texts-in-Each.texts.items in
    let each = each_of c.args.vars texts c.deref-in-Each-2.result.now held c.deref-in-Each-3.result.now prefix answer c.deref-in-Each-2.ensures.value c.deref-in-Each-3.ensures.value c.in_ok-texts-in-Each.ensures.count c.in_ok-texts-in-Each.ensures.each in
    let labels = c.in_ok-labels-in-Each.labels.items in
    let small : c.args.vars < 2 ^ 32 = omega arith in
    subst (λ (ts : List (List ℕ)). AreDistinct ts) (sym c.from_vec-in-Each-2.ensures) (answer_distinct c.args.vars facts texts links graph s grown held are labels c.in_ok-labels-in-Each.ensures.count c.in_ok-labels-in-Each.ensures.each prefix none ascii small c.requires.few answer each.0 each.1)

pub returns-clause-plain : goal.returns-clause-plain
returns-clause-plain c =
    let facts = c.args.facts.now in
    let texts = c.in_ok-graph.graph.texts.items in
    let links = c.as_slice-links.result.now in
    let s = c.in_ok-forest.forest in
    let graph = graph_of c.args.vars facts texts c.in_ok-graph.graph.links.items links c.in_ok-graph.ensures c.as_slice-links.ensures.value in
    let size : c.len.result ≡ length texts = omega arith in
    let grown = grown_of c.args.vars texts links s (length c.deref.result.now) c.len.result (ap length c.deref.ensures.value ∙ c.in_ok-ways.ensures.count) size c.in_ok-forest.ensures in
    let held = c.in-Each.held.items in
    let are = held_of c.args.vars texts s c.len.result size c.in_ok-left.field-0 c.in-Each.held c.in-Each.is c.in_ok-left.ensures in
    let prefix = c.as_str.result.now in
    let bytes = string_bytes c.in_ok-prefix-in-Each.prefix in
    let none = none_of prefix bytes texts c.deref-in-Each.result.now c.deref-in-Each.ensures.value c.as_str.ensures.value c.in_ok-prefix-in-Each.ensures.none in
    let ascii = ascii_of prefix bytes c.as_str.ensures.value c.in_ok-prefix-in-Each.ensures.ascii in
    let answer = c.in_ok-texts-in-Each.texts.items in
    let each = each_of c.args.vars texts c.deref-in-Each-2.result.now held c.deref-in-Each-3.result.now prefix answer c.deref-in-Each-2.ensures.value c.deref-in-Each-3.ensures.value c.in_ok-texts-in-Each.ensures.count c.in_ok-texts-in-Each.ensures.each in
    let labels = c.in_ok-labels-in-Each.labels.items in
    let small : c.args.vars < 2 ^ 32 = omega arith in
    subst (λ (ls : List ℕ). IsPlain c.args.vars facts (text_in ls c.from_vec-in-Each-2.result)) (sym c.from_vec-in-Each.ensures) (subst (λ (ts : List (List ℕ)). IsPlain c.args.vars facts (text_in labels ts)) (sym c.from_vec-in-Each-2.ensures) (answer_plain c.args.vars facts texts links graph s grown held are labels c.in_ok-labels-in-Each.ensures.count c.in_ok-labels-in-Each.ensures.each prefix none ascii small c.requires.few answer each.0 each.1))

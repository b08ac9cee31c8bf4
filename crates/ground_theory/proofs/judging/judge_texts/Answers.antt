use Rattle.std.proofs.Common.{◌≡◌, ◌∙◌, ◌<◌, ◌^◌, ℕ, List, length, sym, ap, ap₂, subst}
use Rattle.std.specs.Prelude.{MatchOption}
use Rattle.std.specs.List.{All}
use Rattle.lint_core.specs.declared.certificate.TextEdge.{TextEdge}
use Rattle.text_classes.specs.declared.facts.Classed.{Classed}
use Rattle.text_classes.specs.declared.facts.TextFact.{TextFact}
use Rattle.text_classes.specs.Answer.{IfLabels, IfPath, text_in}
use Rattle.text_classes.specs.Paths.{IsPath}
use Rattle.text_classes.specs.Texts.{IsAmong, Satisfies}
use Rattle.lint_core.specs.declared.database.Value.{Value}
use Rattle.ground_theory.specs.declared.assignment.Solution.{Solution}
use Rattle.ground_theory.specs.declared.joining.Join.{Join}
use Rattle.ground_theory.specs.Judging.{Settles}
use Rattle.ground_theory.specs.Leaves.{is_right_leaf}
use Rattle.ground_theory.specs.TextLeaf.{text_leaf}
use Rattle.ground_theory.specs.inner.Filling.{class_cells}
use Rattle.ground_theory.specs.inner.Found.{IsFound, all_facts}
use Rattle.ground_theory.specs.inner.Known.{all_origins}
use Rattle.ground_theory.specs.inner.Sums.{told, HaveRoom}
use Rattle.ground_theory.proofs.Chaining.{path_listed, last_listed}
use Rattle.ground_theory.proofs.Settling.{settles, solved}
use Rattle.ground_theory.proofs.Texting as texts
use Rattle.ground_theory.proofs.judging.judge_texts.Goals as goal
use Rattle.ground_theory.proofs.judging.judge_texts.Goals.{After-into_vec-in-Labels-2}

pub all_texts-requires-clause-room : goal.all_texts-requires-clause-room
all_texts-requires-clause-room c =
    texts.cells_room c.args.frame.now c.args.literals.now c.requires.judged c.args.joined c.args.numbering c.args.numbers c.requires.counted

pub all_texts-requires-clause-joins : goal.all_texts-requires-clause-joins
all_texts-requires-clause-joins c =
    subst (HaveRoom c.args.numbering.places.items) (sym c.deref.ensures.value)
    (texts.rows_room c.args.frame.now c.args.literals.now c.requires.judged c.args.joined c.args.numbering c.args.numbers c.requires.counted)

pub all_texts-requires-clause-columns : goal.all_texts-requires-clause-columns
all_texts-requires-clause-columns c =
    texts.narrow c.args.frame.now c.args.literals.now c.requires.judged c.args.joined c.args.numbering c.args.numbers c.requires.counted

pub classes-requires-clause-variables : goal.classes-requires-clause-variables
classes-requires-clause-variables c =
    let among = texts.facts_among c.args.frame.now c.args.literals.now c.requires.judged c.args.joined c.args.numbering c.args.numbers c.requires.counted in
    let facts : c.deref-2.result.now ≡ all_facts c.args.frame.now c.args.literals.now c.args.joined.joins.items c.args.numbering =
    c.deref-2.ensures.value ∙ (c.in_ok-system.ensures.facts ∙ ap (λ (js : List Join). all_facts c.args.frame.now c.args.literals.now js c.args.numbering) c.deref.ensures.value) in
    let count : c.len-vars.result ≡ length c.args.numbering.cells.items = c.len-vars.ensures ∙ c.args.numbering.cells.ok.0 in
    subst (λ (n : ℕ). All (IsAmong n) c.deref-2.result.now) (sym count) (subst (All (IsAmong (length c.args.numbering.cells.items))) (sym facts) among)

pub classes-requires-clause-few : goal.classes-requires-clause-few
classes-requires-clause-few c =
    let few = texts.facts_few c.args.frame.now c.args.literals.now c.requires.judged c.args.joined c.args.numbering c.args.numbers c.requires.counted in
    let facts : c.deref-2.result.now ≡ all_facts c.args.frame.now c.args.literals.now c.args.joined.joins.items c.args.numbering =
    c.deref-2.ensures.value ∙ (c.in_ok-system.ensures.facts ∙ ap (λ (js : List Join). all_facts c.args.frame.now c.args.literals.now js c.args.numbering) c.deref.ensures.value) in
    subst (λ (fs : List TextFact). length fs < 2 ^ 32) (sym facts) few

pub chain_leaf-requires-clause-beside : goal.chain_leaf-requires-clause-beside
chain_leaf-requires-clause-beside c =
    let both = texts.beside c.args.frame.now c.args.literals.now c.requires.judged c.args.joined c.args.numbering c.args.numbers c.requires.counted in
    let facts : c.in_ok-system.system.facts.items ≡ all_facts c.args.frame.now c.args.literals.now c.args.joined.joins.items c.args.numbering =
    c.in_ok-system.ensures.facts ∙ ap (λ (js : List Join). all_facts c.args.frame.now c.args.literals.now js c.args.numbering) c.deref.ensures.value in
    let origins : c.in_ok-system.system.origins.items ≡ all_origins c.args.frame.now c.args.literals.now c.args.joined.joins.items c.args.numbering =
    c.in_ok-system.ensures.origins ∙ ap (λ (js : List Join). all_origins c.args.frame.now c.args.literals.now js c.args.numbering) c.deref.ensures.value in
    ap (λ (os : List TextEdge). length os) origins ∙ (both ∙ sym (ap (λ (fs : List TextFact). length fs) facts))

pub chain_leaf-requires-clause-numbers : goal.chain_leaf-requires-clause-numbers
chain_leaf-requires-clause-numbers c =
    let path = subst (λ (x : Classed). IfPath x (λ last path. IsPath c.deref-2.result.now last path)) c.in-Path.is c.in_ok-last.ensures.path in
    let here = subst (λ (fs : List TextFact). IsPath fs c.in-Path.last c.in-Path.facts) c.deref-2.ensures.value path in
    subst (All (λ n. n < length c.in_ok-system.system.facts.items)) (sym c.as_slice.ensures) (path_listed c.in_ok-system.system.facts.items c.in-Path.last c.in-Path.facts here)

pub chain_leaf-requires-clause-last : goal.chain_leaf-requires-clause-last
chain_leaf-requires-clause-last c =
    let path = subst (λ (x : Classed). IfPath x (λ last path. IsPath c.deref-2.result.now last path)) c.in-Path.is c.in_ok-last.ensures.path in
    let here = subst (λ (fs : List TextFact). IsPath fs c.in-Path.last c.in-Path.facts) c.deref-2.ensures.value path in
    subst (λ (ns : List ℕ). MatchOption c.in-Path.last (0 < length ns) (λ n. n < length c.in_ok-system.system.facts.items)) (sym c.as_slice.ensures)
    (last_listed c.in_ok-system.system.facts.items c.in-Path.last c.in-Path.facts here)

pub returns-in_ok-chain_leaf-in-Path-clause-clash : goal.returns-in_ok-chain_leaf-in-Path-clause-clash
returns-in_ok-chain_leaf-in-Path-clause-clash c =
    let facts : c.in_ok-system.system.facts.items ≡ all_facts c.args.frame.now c.args.literals.now c.args.joined.joins.items c.args.numbering =
    c.in_ok-system.ensures.facts ∙ ap (λ (js : List Join). all_facts c.args.frame.now c.args.literals.now js c.args.numbering) c.deref.ensures.value in
    let origins : c.in_ok-system.system.origins.items ≡ all_origins c.args.frame.now c.args.literals.now c.args.joined.joins.items c.args.numbering =
    c.in_ok-system.ensures.origins ∙ ap (λ (js : List Join). all_origins c.args.frame.now c.args.literals.now js c.args.numbering) c.deref.ensures.value in
    let path = subst (λ (x : Classed). IfPath x (λ last path. IsPath c.deref-2.result.now last path)) c.in-Path.is c.in_ok-last.ensures.path in
    let here = subst (λ (fs : List TextFact). IsPath fs c.in-Path.last c.in-Path.facts) (c.deref-2.ensures.value ∙ facts) path in
    let right = texts.path_right c.args.frame.now c.args.literals.now c.requires.judged c.args.joined c.args.numbering c.args.numbers c.requires.counted c.in-Path.last c.in-Path.facts here in
    let leaf : c.in_ok-chain_leaf-in-Path.field-0 ≡ text_leaf (all_origins c.args.frame.now c.args.literals.now c.args.joined.joins.items c.args.numbering) (all_facts c.args.frame.now c.args.literals.now c.args.joined.joins.items c.args.numbering) c.in-Path.last c.in-Path.facts =
    c.in_ok-chain_leaf-in-Path.ensures
    ∙ (ap (λ (os : List TextEdge). text_leaf os c.in_ok-system.system.facts.items c.in-Path.last c.as_slice.result.now) origins
    ∙ (ap (λ (fs : List TextFact). text_leaf (all_origins c.args.frame.now c.args.literals.now c.args.joined.joins.items c.args.numbering) fs c.in-Path.last c.as_slice.result.now) facts
    ∙ ap (text_leaf (all_origins c.args.frame.now c.args.literals.now c.args.joined.joins.items c.args.numbering) (all_facts c.args.frame.now c.args.literals.now c.args.joined.joins.items c.args.numbering) c.in-Path.last) c.as_slice.ensures)) in
    ap (is_right_leaf c.args.frame.now c.args.literals.now) leaf ∙ right

pub assignment-requires-clause-columns : goal.assignment-requires-clause-columns
assignment-requires-clause-columns c =
    texts.narrow c.args.frame.now c.args.literals.now c.requires.judged c.args.joined c.args.numbering c.args.numbers c.requires.counted

all_found : (c : After-into_vec-in-Labels-2) → IsFound c.args.frame.now c.args.literals.now c.args.joined
    (record { numbering = c.args.numbering; numbers = c.into_vec.result; labels = c.into_vec-in-Labels.result; texts = c.into_vec-in-Labels-2.result })
all_found c =
    let s : Solution = record { numbering = c.args.numbering; numbers = c.into_vec.result; labels = c.into_vec-in-Labels.result; texts = c.into_vec-in-Labels-2.result } in
    let facts : c.deref-2.result.now ≡ all_facts c.args.frame.now c.args.literals.now c.args.joined.joins.items c.args.numbering =
    c.deref-2.ensures.value ∙ (c.in_ok-system.ensures.facts ∙ ap (λ (js : List Join). all_facts c.args.frame.now c.args.literals.now js c.args.numbering) c.deref.ensures.value) in
    let count = subst (λ (x : Classed). IfLabels x (λ labels texts. length labels ≡ c.len-vars.result)) c.in-Labels.is c.in_ok-last.ensures.count in
    let listed = subst (λ (x : Classed). IfLabels x (λ labels texts. All (λ label. label < length texts) labels)) c.in-Labels.is c.in_ok-last.ensures.listed in
    let satisfied = subst (λ (x : Classed). IfLabels x (λ labels texts. Satisfies (text_in labels texts) c.deref-2.result.now)) c.in-Labels.is c.in_ok-last.ensures.satisfied in
    texts.found c.args.frame.now c.args.literals.now c.args.joined s c.args.numbers c.in-Labels.labels c.in-Labels.texts c.requires.counted
    c.into_vec.ensures c.into_vec-in-Labels.ensures c.into_vec-in-Labels-2.ensures (count ∙ (c.len-vars.ensures ∙ c.args.numbering.cells.ok.0)) listed
    (subst (Satisfies (text_in c.in-Labels.labels c.in-Labels.texts)) facts satisfied)

pub assignment-requires-clause-solution : goal.assignment-requires-clause-solution
assignment-requires-clause-solution c =
    let s : Solution = record { numbering = c.args.numbering; numbers = c.into_vec.result; labels = c.into_vec-in-Labels.result; texts = c.into_vec-in-Labels-2.result } in
    (solved c.args.frame.now c.args.literals.now c.args.joined s c.requires.judged.frame_is c.requires.judged.fitting
    (all_found (goal.at.assignment-requires-clause-solution c).After-into_vec-in-Labels-2)).0

pub returns-in_ok-assignment-in-Labels-clause-holds : goal.returns-in_ok-assignment-in-Labels-clause-holds
returns-in_ok-assignment-in-Labels-clause-holds c =
    let s : Solution = record { numbering = c.args.numbering; numbers = c.into_vec.result; labels = c.into_vec-in-Labels.result; texts = c.into_vec-in-Labels-2.result } in
    let is : c.in_ok-assignment-in-Labels.assignment ≡ record { same = c.args.joined.labels.items; cells = told (class_cells c.args.frame.now s) 0 c.args.joined.labels.items } =
    ap₂ (λ (same : List ℕ) (cells : List (List Value)). record { same = same; cells = cells }) c.in_ok-assignment-in-Labels.ensures.same c.in_ok-assignment-in-Labels.ensures.cells in
    subst (Settles c.args.frame.now c.args.literals.now) (sym is)
    (settles c.args.frame.now c.args.literals.now c.args.joined s c.requires.judged.frame_is c.requires.judged.fitting
    (all_found (goal.at.returns-in_ok-assignment-in-Labels-clause-holds c).After-into_vec-in-Labels-2))

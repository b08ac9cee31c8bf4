-- The answers, from the classes of nodes.
use Rattle.std.proofs.Common.{◌≡◌, ◌∙◌, sym, ap, refl, subst, ℕ, ◌<◌, ◌≤◌, ◌+◌, ◌-◌, ◌^◌, false, List, [], ◌∷◌, length, Option, Some, None, All, slice_index_or, inl, inr, arith}
use Rattle.std.proofs.Common.{Vec, Global}
use Rattle.std.proofs.lemmas.Bool.{cases_lt, cases_Bool}
use Rattle.std.proofs.lemmas.List.{get_or_default}
use Rattle.std.specs.Str.{IsAscii}
use Rattle.lint_core.specs.Comparison.{is_same_text}
use Rattle.text_classes.specs.declared.facts.TextEnd.{TextEnd}
use Rattle.text_classes.specs.declared.facts.TextEnd.TheVariants.{Var, Text}
use Rattle.text_classes.specs.declared.facts.TextFact.{TextFact}
use Rattle.text_classes.specs.declared.graph.Link.{Link}
use Rattle.text_classes.specs.declared.forest.Forest.{Forest}
use Rattle.text_classes.specs.declared.labels.Held.{Held}
use Rattle.text_classes.specs.declared.labels.Held.TheVariants.{Each, Clash}
use Rattle.text_classes.specs.Texts.{text_of, Holds, Satisfies}
use Rattle.text_classes.specs.Paths.{fact_at, IsStep, Leads, IsPath}
use Rattle.text_classes.specs.Answer.{label_in, text_in, AreDistinct, AreJoined, IsEnd, IsPlain, AreClasses}
use Rattle.text_classes.specs.inner.Nodes.{text_at, number_at, end_at, link_at, IsLink, IsGraph, LeadsIn}
use Rattle.text_classes.specs.inner.Forest.{class_in, IsGrown, IsIndexed, AreMet, AreApart, IsSound, IsForest, visit_at}
use Rattle.text_classes.specs.inner.Fresh.{held_at, held_text, IsHeld, AreHeld, AreClashing, NoneBegins, IsIn}
use Rattle.text_classes.proofs.Search.{placed_listed, class_at}
use Rattle.text_classes.proofs.Climbing.{indexed, joined}
use Rattle.text_classes.proofs.Reading.{end_var, end_text}
use Rattle.text_classes.proofs.Paths.{same_text_is, same_text_of, one_text}
use Rattle.text_classes.proofs.Prefixes.{fresh_other, fresh_apart}

-- ---- as the code says it

pub graph_of : (vars : ℕ) (facts : List TextFact) (texts : List (List ℕ)) (read links : List Link) → IsGraph vars facts texts read → links ≡ read → IsGraph vars facts texts links
graph_of vars facts texts read links graph is = subst (IsGraph vars facts texts) (sym is) graph

pub grown_of : (vars : ℕ) (texts : List (List ℕ)) (links : List Link) (s : Forest) (count size : ℕ) → count ≡ vars + size → size ≡ length texts → IsGrown count links s → IsGrown (vars + length texts) links s
grown_of vars texts links s count size is size_is grown = subst (λ (k : ℕ). IsGrown k links s) (is ∙ ap (λ (k : ℕ). vars + k) size_is) grown

pub held_of : (vars : ℕ) (texts : List (List ℕ)) (s : Forest) (size : ℕ) → size ≡ length texts → (h : Held) (held : Vec (Option ℕ) Global) → h ≡ Each held → IsHeld vars (vars + size) s h → AreHeld vars (vars + length texts) s held.items
held_of vars texts s size size_is h held is holds = subst (λ (k : ℕ). AreHeld vars (vars + k) s held.items) size_is (subst (IsHeld vars (vars + size) s) is holds)

pub each_of : (vars : ℕ) (texts now_texts : List (List ℕ)) (held now_held : List (Option ℕ)) (prefix : List ℕ) (answer : List (List ℕ)) → now_texts ≡ texts → now_held ≡ held → length answer ≡ length now_held
    → ((class : ℕ) → class < length now_held → text_at answer class ≡ held_text vars now_texts prefix class (held_at now_held class))
    → (length answer ≡ length held) × ((class : ℕ) → class < length held → text_at answer class ≡ held_text vars texts prefix class (held_at held class))
each_of vars texts now_texts held now_held prefix answer texts_are held_are count each = (
  count ∙ ap length held_are,
  subst (λ (h : List (Option ℕ)). (class : ℕ) → class < length h → text_at answer class ≡ held_text vars texts prefix class (held_at h class)) held_are
      (subst (λ (t : List (List ℕ)). (class : ℕ) → class < length now_held → text_at answer class ≡ held_text vars t prefix class (held_at now_held class)) texts_are each),
)

pub none_of : (prefix bytes : List ℕ) (texts now_texts : List (List ℕ)) → now_texts ≡ texts → prefix ≡ bytes → NoneBegins bytes now_texts → NoneBegins prefix texts
none_of prefix bytes texts now_texts texts_are is none = subst (λ (p : List ℕ). NoneBegins p texts) (sym is) (subst (NoneBegins bytes) texts_are none)

pub ascii_of : (prefix bytes : List ℕ) → prefix ≡ bytes → IsAscii bytes → IsAscii prefix
ascii_of prefix bytes is ascii = subst IsAscii (sym is) ascii

pub clash_of : (vars : ℕ) (texts : List (List ℕ)) (s : Forest) (size : ℕ) → size ≡ length texts → (h : Held) (left right : ℕ) → h ≡ Clash left right → IsHeld vars (vars + size) s h → AreClashing vars (vars + length texts) s left right
clash_of vars texts s size size_is h left right is holds = subst (λ (k : ℕ). AreClashing vars (vars + k) s left right) size_is (subst (IsHeld vars (vars + size) s) is holds)

module _ (vars : ℕ) (facts : List TextFact) (texts : List (List ℕ)) (links : List Link) (graph : IsGraph vars facts texts links) where
  link_is : (n : ℕ) → n < length links → IsLink vars texts (fact_at facts n) (link_at links n)
  link_is n h = graph.sides n (let c = graph.count in omega arith)

  -- a chain of links is one of facts
  pub leads_facts : (from : ℕ) (path : List ℕ) (to : ℕ) → LeadsIn links from path to → Leads facts (end_at vars texts from) path (end_at vars texts to)
  leads_facts from [] to leads = ap (end_at vars texts) leads
  leads_facts from (n ∷ ns) to leads =
      let link = link_is n leads.1 in
      let step = leads.2 in
      let fact_step : IsStep (fact_at facts n) (end_at vars texts from) (end_at vars texts leads.0) = record {
        equal = sym link.equal ∙ step.equal;
        ends = elim (step.ends) [
          | inl forth ↦ inl (ap (end_at vars texts) forth.0 ∙ link.left, ap (end_at vars texts) forth.1 ∙ link.right)
          | inr turned ↦ inr (ap (end_at vars texts) turned.0 ∙ link.right, ap (end_at vars texts) turned.1 ∙ link.left)
        ];
      } in
      (end_at vars texts leads.0, (let c = graph.count in let h = leads.1 in omega arith), fact_step, leads_facts leads.0 ns to leads.3)

  -- a chain between the sides of an unequal fact
  pub broken_path : (n : ℕ) (path : List ℕ) → n < length links → (link_at links n).equal ≡ false → LeadsIn links (link_at links n).left path (link_at links n).right → IsPath facts (Some n) path
  broken_path n path listed unequal leads =
      let link = link_is n listed in (
        let c = graph.count in omega arith,
        sym link.equal ∙ unequal,
        subst (λ (a : TextEnd). Leads facts a path (fact_at facts n).right) link.left (subst (λ (b : TextEnd). Leads facts (end_at vars texts (link_at links n).left) path b) link.right (leads_facts _ path _ leads)),
      )

  -- or between two texts
  pub clash_path : (left right : ℕ) (path : List ℕ) → vars ≤ left → left < right → right < vars + length texts → LeadsIn links left path right → IsPath facts None path
  clash_path left right path first second within leads =
      let a = text_at texts (left - vars) in
      let b = text_at texts (right - vars) in
      let apart : is_same_text a b ≡ false = elim (cases_Bool (is_same_text a b)) [
        | inl hit ↦ absurd (let same = graph.distinct (left - vars) (right - vars) (omega arith) (omega arith) (same_text_is a b hit) in omega arith)
        | inr miss ↦ miss
      ] in
      (a, b, apart, subst (λ (x : TextEnd). Leads facts x path (Text b)) (end_text vars texts left first) (subst (λ (y : TextEnd). Leads facts (end_at vars texts left) path y) (end_text vars texts right (omega arith)) (leads_facts left path right leads)))

  module _ (s : Forest) (grown : IsGrown (vars + length texts) links s) where
    pub all_indexed : IsIndexed (vars + length texts) s
    all_indexed = indexed (vars + length texts) links s grown

    pub vars_indexed : IsIndexed vars s
    vars_indexed = record { met = λ node h. all_indexed.met node (omega arith); classes = all_indexed.classes }

    pub all_met : AreMet links s
    all_met n h = let both = graph.within n h in (all_indexed.met _ both.0, all_indexed.met _ both.1)

    pub is_sound : IsSound links s
    is_sound = subst (λ (k : ℕ). IsForest k links s.order.items s.places.items s.classes) (sym grown.forest.count) grown.forest

    -- there are no more classes than nodes
    pub few_classes : s.classes ≤ vars + length texts
    few_classes = elim (cases_lt (vars + length texts) s.classes) [
      | inl more ↦
          let last = grown.forest.low (vars + length texts) more in
          let listed = placed_listed s.places.items (vars + length texts) last.0 last.1 in
          let count = grown.forest.count in
          absurd (omega arith)
      | inr few ↦ few
    ]

    class_is : (node : ℕ) → node < vars + length texts → (c : ℕ) × (class_in s node ≡ Some c)
    class_is node h = let met = all_indexed.met node h in ((visit_at s.order.items met.0).class, class_at s.order.items s.places.items node met.0 met.2)

    module _ (held : List (Option ℕ)) (are : AreHeld vars (vars + length texts) s held) where
      pub held_in : (class : ℕ) → IsIn vars (length texts) (held_at held class)
      held_in class = go (held_at held class) refl
        where
          go : (o : Option ℕ) → held_at held class ≡ o → IsIn vars (length texts) o
          go None is = tt
          go (Some node) is = let back = are.back class node is in (back.0, back.1)

      module _ (labels : List ℕ) (label_count : length labels ≡ vars) (label_each : (node : ℕ) → node < vars → class_in s node ≡ Some (number_at labels node))
          (prefix : List ℕ) (none : NoneBegins prefix texts) (ascii : IsAscii prefix) (small : vars < 2 ^ 32) (little : length facts < 2 ^ 32)
          (answer : List (List ℕ)) (answer_count : length answer ≡ length held) (answer_each : (class : ℕ) → class < length held → text_at answer class ≡ held_text vars texts prefix class (held_at held class)) where
        class_low : (c : ℕ) → c < length held → c < 2 ^ 64
        class_low c h = let a = few_classes in let b = are.count in let f = graph.few in omega arith

        -- two classes have different texts
        apart_by : (c d : ℕ) → c < length held → d < length held → (o p : Option ℕ) → held_at held c ≡ o → held_at held d ≡ p → held_text vars texts prefix c o ≡ held_text vars texts prefix d p → c ≡ d
        apart_by c d hc hd (Some v) (Some w) is_c is_d same =
            let bv = are.back c v is_c in
            let bw = are.back d w is_d in
            let v_above : vars ≤ v = bv.0 in
            let w_above : vars ≤ w = bw.0 in
            let v_below : v < vars + length texts = bv.1 in
            let w_below : w < vars + length texts = bw.1 in
            let place : v - vars ≡ w - vars = graph.distinct (v - vars) (w - vars) (omega arith) (omega arith) same in
            let one : v ≡ w = omega arith in
            let both : Some c ≡ Some d = sym bv.2 ∙ ap (class_in s) one ∙ bw.2 in
            cc both
        apart_by c d hc hd (Some v) None is_c is_d same =
            let bv = are.back c v is_c in
            let v_above : vars ≤ v = bv.0 in
            let v_below : v < vars + length texts = bv.1 in
            absurd (fresh_other prefix d (v - vars) texts none ascii (class_low d hd) (omega arith) same)
        apart_by c d hc hd None (Some w) is_c is_d same =
            let bw = are.back d w is_d in
            let w_above : vars ≤ w = bw.0 in
            let w_below : w < vars + length texts = bw.1 in
            absurd (fresh_other prefix c (w - vars) texts none ascii (class_low c hc) (omega arith) (sym same))
        apart_by c d hc hd None None is_c is_d same = fresh_apart prefix c d ascii (class_low c hc) (class_low d hd) same

        pub answer_distinct : AreDistinct answer
        answer_distinct c d hc hd same =
            let lc : c < length held = omega arith in
            let ld : d < length held = omega arith in
            apart_by c d lc ld (held_at held c) (held_at held d) refl refl (sym (answer_each c lc) ∙ same ∙ answer_each d ld)

        class_listed : (node c : ℕ) → class_in s node ≡ Some c → c < length answer
        class_listed node c is = let h = (all_indexed.classes node c is).0 in let k = are.count in omega arith

        pub labels_listed : All (λ label. label < length answer) labels
        labels_listed k d h =
            let e : slice_index_or labels k d ≡ number_at labels k = get_or_default labels k d 0 h in
            let l = class_listed k (number_at labels k) (label_each k (omega arith)) in
            omega arith

        -- the text of a node is that of its class
        node_text : (node c : ℕ) → node < vars + length texts → class_in s node ≡ Some c → text_of (text_in labels answer) (end_at vars texts node) ≡ text_at answer c
        node_text node c within is = elim (cases_lt node vars) [
          | inl below ↦
              let both : Some (number_at labels node) ≡ Some c = sym (label_each node below) ∙ is in
              let one : number_at labels node ≡ c = cc both in
              ap (text_of (text_in labels answer)) (end_var vars texts node below) ∙ ap (text_at answer) one
          | inr above ↦
              let c_listed : c < length held = (let h = class_listed node c is in omega arith) in
              ap (text_of (text_in labels answer)) (end_text vars texts node above) ∙ sym (answer_each c c_listed ∙ ap (held_text vars texts prefix c) (are.each node c above within is))
        ]

        -- two nodes have one text exactly where they are of one class
        same_class : (u v : ℕ) → u < vars + length texts → v < vars + length texts → text_of (text_in labels answer) (end_at vars texts u) ≡ text_of (text_in labels answer) (end_at vars texts v) → class_in s u ≡ class_in s v
        same_class u v hu hv same =
            let cu = class_is u hu in
            let cv = class_is v hv in
            let one = answer_distinct cu.0 cv.0 (class_listed u cu.0 cu.1) (class_listed v cv.0 cv.1) (sym (node_text u cu.0 hu cu.1) ∙ same ∙ node_text v cv.0 hv cv.1) in
            cu.1 ∙ ap Some one ∙ sym cv.1

        same_text : (u v : ℕ) → u < vars + length texts → v < vars + length texts → class_in s u ≡ class_in s v → text_of (text_in labels answer) (end_at vars texts u) ≡ text_of (text_in labels answer) (end_at vars texts v)
        same_text u v hu hv same =
            let cu = class_is u hu in
            node_text u cu.0 hu cu.1 ∙ sym (node_text v cu.0 hv (sym same ∙ cu.1))

        joins : (u v : ℕ) → u < vars + length texts → v < vars + length texts → class_in s u ≡ class_in s v → AreJoined facts (end_at vars texts u) (end_at vars texts v)
        joins u v hu hv same =
            let chain = joined (vars + length texts) links s grown.forest u v (grown.all u hu) (grown.all v hv) same in
            (chain.0, leads_facts u chain.0 v chain.1)

        -- an end is that of a node
        node_of : (a : TextEnd) → IsEnd vars facts a → (u : ℕ) × (u < vars + length texts) × (a ≡ end_at vars texts u)
        node_of a (inl var) = (var.0, (let h : var.0 < vars = var.1 in omega arith), var.2 ∙ sym (end_var vars texts var.0 var.1))
        node_of a (inr side) =
            let listed : side.0 < length links = (let h : side.0 < length facts = side.1 in let c = graph.count in omega arith) in
            let within = graph.within side.0 listed in
            let link = link_is side.0 listed in
            elim (side.2) [
              | inl left ↦ ((link_at links side.0).left, within.0, left ∙ sym link.left)
              | inr right ↦ ((link_at links side.0).right, within.1, right ∙ sym link.right)
            ]

        pub answer_plain : IsPlain vars facts (text_in labels answer)
        answer_plain a b ia ib same =
            let u = node_of a ia in
            let v = node_of b ib in
            let between = joins u.0 v.0 u.1 v.1 (same_class u.0 v.0 u.1 v.1 (ap (text_of (text_in labels answer)) (sym u.2) ∙ same ∙ ap (text_of (text_in labels answer)) v.2)) in
            subst (λ (x : TextEnd). AreJoined facts x b) (sym u.2) (subst (λ (y : TextEnd). AreJoined facts (end_at vars texts u.0) y) (sym v.2) between)

        module _ (unbroken : AreApart links (length links) s) where
          holds : (n : ℕ) → n < length links → Holds (text_in labels answer) (fact_at facts n)
          holds n h =
              let l = link_at links n in
              let f = fact_at facts n in
              let link = link_is n h in
              let within = graph.within n h in
              let left = ap (text_of (text_in labels answer)) link.left in
              let right = ap (text_of (text_in labels answer)) link.right in
              elim (cases_Bool l.equal) [
                | inl equal ↦
                    let same = sym left ∙ same_text l.left l.right within.0 within.1 (grown.same n h equal) ∙ right in
                    same_text_of _ _ same ∙ sym equal ∙ link.equal
                | inr unequal ↦ elim (cases_Bool (is_same_text (text_of (text_in labels answer) f.left) (text_of (text_in labels answer) f.right))) [
                  | inl hit ↦ absurd (unbroken n h unequal (same_class l.left l.right within.0 within.1 (left ∙ same_text_is _ _ hit ∙ sym right)))
                  | inr miss ↦ miss ∙ sym unequal ∙ link.equal
                ]
              ]

          pub answer_holds : Satisfies (text_in labels answer) facts
          answer_holds n d h = subst (Holds (text_in labels answer)) (get_or_default facts n _ d h) (holds n (let c = graph.count in omega arith))

          pub answer_classes : AreClasses vars facts labels
          answer_classes n m hn hm = (
            λ same.
                let cn : class_in s n ≡ class_in s m = label_each n hn ∙ ap Some same ∙ sym (label_each m hm) in
                let between = joins n m (omega arith) (omega arith) cn in
                subst (λ (x : TextEnd). AreJoined facts x (Var m)) (end_var vars texts n hn) (subst (λ (y : TextEnd). AreJoined facts (end_at vars texts n) y) (end_var vars texts m hm) between),
            λ joined.
                let same = one_text facts (text_in labels answer) answer_holds (Var n) joined.0 (Var m) joined.1 in
                answer_distinct (label_in labels n) (label_in labels m) (class_listed n _ (label_each n hn)) (class_listed m _ (label_each m hm)) same,
          )

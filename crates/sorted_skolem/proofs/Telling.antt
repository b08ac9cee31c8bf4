-- The Exists nodes that a walk meets are those of the outlines.
use Rattle.std.proofs.Common.{◌≡◌, ◌∙◌, sym, ap, ap₂, refl, subst, ℕ, suc, ◌+◌, ◌⊎◌, Bool, true, false, cond, inl, inr, List, [], ◌∷◌, ◌++◌, length, map, drop, append_assoc, arith}
use Rattle.std.proofs.lemmas.List.{map-append, length-append}
use Rattle.std.proofs.lemmas.List.Elements.{filter-append}
use Rattle.std.proofs.lemmas.Grind.{flat_map-append}
use Rattle.std.specs.List.{filter, flat_map}
use Rattle.std.specs.Prelude.{Option, Some, None, slice_get, option_and_then}
use Rattle.sort_formula.specs.declared.formula.Formula.{Formula, ind-Formula, roll-Formula, out-Formula, fold-roll-Formula, fold_out-Formula, map-Formula}
use Rattle.sort_formula.specs.declared.formula.Formula.TheVariants as f
use Rattle.sort_formula.specs.declared.formula.Formula.TheOpen.{Formula-F}
use Rattle.sorted_skolem.specs.declared.asks.Ask.{Ask}
use Rattle.sorted_skolem.specs.Graph.{Asks}
use Rattle.sorted_skolem.specs.Preorder.{Quantifier, Way, Node, Laid, laid, laid_step, laid_parts, nodes_of, outlines_of, node_at, is_forall_of, forall_tables, exists_table}
use Rattle.sorted_skolem.specs.Terms.{numbered}
use Rattle.sorted_skolem.specs.inner.Asks.{Told, sizes, parts_asks, told_step, told, asks_from}
use Rattle.sorted_skolem.proofs.Steps.{drop_next}
use Rattle.sorted_skolem.proofs.Among.{Among, among_flat, flat_among, numbered_from, numbered_is, numbered_append, numbered_at, at_numbered}

-- a node, where it is an Exists
abbrev pub ask_where : ℕ → ℕ → List ℕ → Option ℕ → List Ask
ask_where sentence number foralls None = []
ask_where sentence number foralls (Some table) = record { sentence = sentence; node = number; table = table; foralls = foralls } ∷ []

abbrev pub ask_at : ℕ → ℕ × Node → List Ask
ask_at sentence n = ask_where sentence n.0 (forall_tables n.1) (exists_table n.1)

-- the Exists nodes of outlines, in order
abbrev pub asks_of : List (List Node) → List Ask
asks_of outlines = flat_map (λ (s : ℕ × List Node). flat_map (ask_at s.0) (numbered s.1)) (numbered outlines)

abbrev foralls_in : List Quantifier → List ℕ
foralls_in around = map (λ (q : Quantifier). q.table) (filter is_forall_of around)

inside_exists : (around : List Quantifier) (node table : ℕ) → foralls_in (around ++ record { node = node; table = table; is_forall = false } ∷ []) ≡ foralls_in around
inside_exists [] node table = refl
inside_exists (q ∷ qs) node table = both q.is_forall (inside_exists qs node table)
  where
    both : (b : Bool) → foralls_in (qs ++ record { node = node; table = table; is_forall = false } ∷ []) ≡ foralls_in qs →
        map (λ (q : Quantifier). q.table) (cond b (q ∷ filter is_forall_of (qs ++ record { node = node; table = table; is_forall = false } ∷ [])) (filter is_forall_of (qs ++ record { node = node; table = table; is_forall = false } ∷ [])))
        ≡ map (λ (q : Quantifier). q.table) (cond b (q ∷ filter is_forall_of qs) (filter is_forall_of qs))
    both true rest = ap (λ ts. q.table ∷ ts) rest
    both false rest = rest

inside_forall : (around : List Quantifier) (node table : ℕ) → foralls_in (around ++ record { node = node; table = table; is_forall = true } ∷ []) ≡ foralls_in around ++ table ∷ []
inside_forall around node table =
    let q : Quantifier = record { node = node; table = table; is_forall = true } in
    ap (map (λ (q : Quantifier). q.table)) (filter-append is_forall_of around (q ∷ [])) ∙ map-append (λ (q : Quantifier). q.table) (filter is_forall_of around) (q ∷ [])

module _ (sentence : ℕ) where
  abbrev pub asks_on : ℕ → List Node → List Ask
  asks_on n nodes = flat_map (ask_at sentence) (numbered_from n nodes)

  asks_append : (n : ℕ) (xs ys : List Node) → asks_on n (xs ++ ys) ≡ asks_on n xs ++ asks_on (n + length xs) ys
  asks_append n xs ys =
      ap (flat_map (ask_at sentence)) (numbered_append xs ys n) ∙ flat_map-append (ask_at sentence) (numbered_from n xs) (numbered_from (n + length xs) ys)

  -- what is laid there is told so
  pub record IsTold (l : Laid) (t : Told) : Type 0 where
    pub size : (n : ℕ) (above : Option Way) (around : List Quantifier) → length (l.nodes n above around) ≡ t.size
    pub asks : (n : ℕ) (above : Option Way) (around : List Quantifier) → asks_on n (l.nodes n above around) ≡ t.asks n (foralls_in around)

  abbrev Part : Type 0
  Part = (g : Formula) × IsTold (laid g) (told sentence g)

  abbrev formulas : List Part → List Formula
  formulas parts = map (λ (part : Part). part.0) parts

  abbrev layer_of : Formula-F Part → Formula-F Formula
  layer_of y = map-Formula Part Formula (λ e. e.0) y

  abbrev laid_layer : Formula-F Formula → Formula-F Laid
  laid_layer z = map-Formula Formula Laid laid z

  abbrev told_layer : Formula-F Formula → Formula-F Told
  told_layer z = map-Formula Formula Told (told sentence) z

  size_parts : (is_or : Bool) (number way next : ℕ) (around : List Quantifier) (parts : List Part) →
      length (laid_parts is_or number way next around (map laid (formulas parts))) ≡ sizes (map (told sentence) (formulas parts))
  size_parts is_or number way next around [] = refl
  size_parts is_or number way next around (part ∷ parts) =
      let above : Option Way = Some (record { node = number; way = way }) in
      let own : List Node = (laid part.0).nodes next above around in
      let later : ℕ = cond is_or (suc way) way in
      let rest : List Node = laid_parts is_or number later (next + length own) around (map laid (formulas parts)) in
      length-append own rest ∙ ap₂ (λ a b. a + b) (part.1.size next above around) (size_parts is_or number later (next + length own) around parts)

  asks_parts : (is_or : Bool) (number way next : ℕ) (around : List Quantifier) (parts : List Part) →
      asks_on next (laid_parts is_or number way next around (map laid (formulas parts))) ≡ parts_asks next (foralls_in around) (map (told sentence) (formulas parts))
  asks_parts is_or number way next around [] = refl
  asks_parts is_or number way next around (part ∷ parts) =
      let above : Option Way = Some (record { node = number; way = way }) in
      let own : List Node = (laid part.0).nodes next above around in
      let later : ℕ = cond is_or (suc way) way in
      let rest : List Node = laid_parts is_or number later (next + length own) around (map laid (formulas parts)) in
      asks_append next own rest
      ∙ ap₂ (λ a b. a ++ b) (part.1.asks next above around)
      (asks_parts is_or number later (next + length own) around parts ∙ ap (λ n. parts_asks (next + n) (foralls_in around) (map (told sentence) (formulas parts))) (part.1.size next above around))

  told_below : (y : Formula-F Part) → IsTold (laid_step (laid_layer (layer_of y))) (told_step sentence (told_layer (layer_of y)))
  told_below (Formula-F.Atom a) = record { size = λ n above around. refl; asks = λ n above around. refl }
  told_below (Formula-F.And parts) = record {
    size = λ n above around. let rest = size_parts false n 0 (suc n) around parts in omega arith;
    asks = λ n above around. let one : suc n ≡ n + 1 = omega arith in asks_parts false n 0 (suc n) around parts ∙ ap (λ m. parts_asks m (foralls_in around) (map (told sentence) (formulas parts))) one;
  }
  told_below (Formula-F.Or parts) = record {
    size = λ n above around. let rest = size_parts true n 0 (suc n) around parts in omega arith;
    asks = λ n above around. let one : suc n ≡ n + 1 = omega arith in asks_parts true n 0 (suc n) around parts ∙ ap (λ m. parts_asks m (foralls_in around) (map (told sentence) (formulas parts))) one;
  }
  told_below (Formula-F.Exists table body) = record {
    size = λ n above around.
        let rest = body.1.size (suc n) (Some (record { node = n; way = 0 })) (around ++ record { node = n; table = table; is_forall = false } ∷ []) in omega arith;
    asks = λ n above around.
        let one : suc n ≡ n + 1 = omega arith in
        ap (λ (rest : List Ask). (let own : Ask = record { sentence = sentence; node = n; table = table; foralls = foralls_in around } in own) ∷ rest)
        (body.1.asks (suc n) (Some (record { node = n; way = 0 })) (around ++ record { node = n; table = table; is_forall = false } ∷ [])
        ∙ ap₂ (λ m ts. (told sentence body.0).asks m ts) one (inside_exists around n table));
  }
  told_below (Formula-F.Forall table body) = record {
    size = λ n above around.
        let rest = body.1.size (suc n) (Some (record { node = n; way = 0 })) (around ++ record { node = n; table = table; is_forall = true } ∷ []) in omega arith;
    asks = λ n above around.
        let one : suc n ≡ n + 1 = omega arith in
        body.1.asks (suc n) (Some (record { node = n; way = 0 })) (around ++ record { node = n; table = table; is_forall = true } ∷ [])
        ∙ ap₂ (λ m ts. (told sentence body.0).asks m ts) one (inside_forall around n table);
  }

  at_layer : (y : Formula-F Part) → IsTold (laid (roll-Formula (layer_of y))) (told sentence (roll-Formula (layer_of y)))
  at_layer y =
      let z : Formula-F Formula = layer_of y in
      subst (λ (l : Laid). IsTold l (told sentence (roll-Formula z))) (sym (fold-roll-Formula Laid laid_step z))
      (subst (λ (t : Told). IsTold (laid_step (laid_layer z)) t) (sym (fold-roll-Formula Told (told_step sentence) z)) (told_below y))

  pub is_told : (g : Formula) → IsTold (laid g) (told sentence g)
  is_told = ind-Formula (λ g. IsTold (laid g) (told sentence g)) (λ x y is. subst (λ z. IsTold (laid (roll-Formula z)) (told sentence (roll-Formula z))) is (at_layer y))

  pub asks_told : (g : Formula) → (told sentence g).asks 0 [] ≡ flat_map (ask_at sentence) (numbered (nodes_of g))
  asks_told g = sym ((is_told g).asks 0 None []) ∙ ap (flat_map (ask_at sentence)) (sym (numbered_is (nodes_of g)))

  pub size_told : (g : Formula) → length (nodes_of g) ≡ (told sentence g).size
  size_told g = (is_told g).size 0 None []

abbrev asks_in : ℕ × List Node → List Ask
asks_in s = flat_map (ask_at s.0) (numbered s.1)

from_told : (k : ℕ) (gs : List Formula) → asks_from k gs ≡ flat_map asks_in (numbered_from k (outlines_of gs))
from_told k [] = refl
from_told k (g ∷ gs) =
    let one : k + 1 ≡ suc k = omega arith in
    ap₂ (λ a b. a ++ b) (asks_told k g) (ap (λ n. asks_from n gs) one ∙ from_told (suc k) gs)

-- the walk meets those of the outlines
pub asks_are : (gs : List Formula) → asks_from 0 gs ≡ asks_of (outlines_of gs)
asks_are gs = from_told 0 gs ∙ ap (flat_map asks_in) (sym (numbered_is (outlines_of gs)))

-- ---- what asks

record Met (sentence : ℕ) (n : ℕ × Node) (a : Ask) : Type 0 where
  sentence_is : a.sentence ≡ sentence
  node_is : a.node ≡ n.0
  table_is : exists_table n.1 ≡ Some a.table
  foralls_are : forall_tables n.1 ≡ a.foralls

met_where : (sentence : ℕ) (n : ℕ × Node) (o : Option ℕ) → exists_table n.1 ≡ o → (a : Ask) → Among (ask_where sentence n.0 (forall_tables n.1) o) a → Met sentence n a
met_where sentence n None is a at = absurd at
met_where sentence n (Some table) is a at =
    elim at [
      | inl here ↦ subst (Met sentence n) here (record { sentence_is = refl; node_is = refl; table_is = is; foralls_are = refl })
      | inr never ↦ absurd never
    ]

pub asks_ask : (sentences : List Formula) (a : Ask) → Among (asks_of (outlines_of sentences)) a → Asks sentences a.sentence a.node a.table a.foralls
asks_ask sentences a is =
    let outlines : List (List Node) = outlines_of sentences in
    let s = flat_among asks_in (numbered outlines) a is in
    let n = flat_among (ask_at s.0.0) (numbered s.0.1) a s.2 in
    let met = met_where s.0.0 n.0 (exists_table n.0.1) refl a n.2 in
    record {
      found = n.0.1;
      stands =
          ap₂ (node_at outlines) met.sentence_is met.node_is
          ∙ (ap (λ o. option_and_then (λ (nodes : List Node). slice_get nodes n.0.0) o) (at_numbered outlines s.0.0 s.0.1 s.1) ∙ at_numbered s.0.1 n.0.0 n.0.1 n.1);
      asks = met.table_is;
      inside = met.foralls_are;
    }

pub ask_asks : (sentences : List Formula) (sentence node table : ℕ) (tables : List ℕ) → Asks sentences sentence node table tables →
    Among (asks_of (outlines_of sentences)) (record { sentence = sentence; node = node; table = table; foralls = tables })
ask_asks sentences sentence node table tables is =
    let outlines : List (List Node) = outlines_of sentences in
    let a : Ask = record { sentence = sentence; node = node; table = table; foralls = tables } in
    let found = parted outlines sentence node is.found (slice_get outlines sentence) is.stands in
    among_flat asks_in (numbered outlines) (sentence, found.0) a (numbered_at outlines sentence found.0 found.1)
    (among_flat (ask_at sentence) (numbered found.0) (node, is.found) a (numbered_at found.0 node is.found found.2)
    (subst (λ o. Among (ask_where sentence node (forall_tables is.found) o) a) (sym is.asks)
    (inl (ap (λ ts. record { sentence = sentence; node = node; table = table; foralls = ts }) is.inside))))
  where
    parted : (outlines : List (List Node)) (sentence node : ℕ) (x : Node) (o : Option (List Node)) → option_and_then (λ (nodes : List Node). slice_get nodes node) o ≡ Some x →
        (nodes : List Node) × (o ≡ Some nodes) × (slice_get nodes node ≡ Some x)
    parted outlines sentence node x None is = cc
    parted outlines sentence node x (Some nodes) is = (nodes, refl, is)

-- ---- a formula by its parts

module _ (sentence : ℕ) where
  abbrev told_of : Formula-F Formula → Told
  told_of layer = told_step sentence (map-Formula Formula Told (told sentence) layer)

  told_out : (g : Formula) → told sentence g ≡ told_of (out-Formula g)
  told_out g = fold_out-Formula Told (told_step sentence) g

  pub told_parts : (g : Formula) (parts : List Formula) → (g ≡ f.And parts) ⊎ (g ≡ f.Or parts) →
      ((told sentence g).size ≡ 1 + sizes (map (told sentence) parts))
      × ((number : ℕ) (foralls : List ℕ) → (told sentence g).asks number foralls ≡ parts_asks (number + 1) foralls (map (told sentence) parts))
  told_parts g parts (inl is) =
      let same : told sentence g ≡ told_of (Formula-F.And parts) = ap (told sentence) is ∙ (told_out (f.And parts) ∙ ap told_of (f.outs-And parts)) in
      (ap (λ (t : Told). t.size) same, λ number foralls. ap (λ (t : Told). t.asks number foralls) same)
  told_parts g parts (inr is) =
      let same : told sentence g ≡ told_of (Formula-F.Or parts) = ap (told sentence) is ∙ (told_out (f.Or parts) ∙ ap told_of (f.outs-Or parts)) in
      (ap (λ (t : Told). t.size) same, λ number foralls. ap (λ (t : Told). t.asks number foralls) same)

  pub size_forall : (table : ℕ) (body : Formula) → (told sentence (f.Forall table body)).size ≡ 1 + (told sentence body).size
  size_forall table body = ap (λ (t : Told). t.size) (told_out (f.Forall table body) ∙ ap told_of (f.outs-Forall table body))

  -- one part more
  pub next_asks : (number number' : ℕ) (foralls foralls' : List ℕ) (met met' whole : List Ask) (parts : List Formula) (i : ℕ) (part : Formula) → slice_get parts i ≡ Some part →
      met ++ parts_asks number foralls (map (told sentence) (drop i parts)) ≡ whole → met' ≡ met ++ (told sentence part).asks number foralls → number' ≡ number + (told sentence part).size → foralls' ≡ foralls →
      met' ++ parts_asks number' foralls' (map (told sentence) (drop (i + 1) parts)) ≡ whole
  next_asks number number' foralls foralls' met met' whole parts i part at all met_is number_is foralls_are =
      let rest : List Told = map (told sentence) (drop (i + 1) parts) in
      let own : List Ask = (told sentence part).asks number foralls in
      ap₂ (λ xs ys. xs ++ ys) met_is (ap₂ (λ n fs. parts_asks n fs rest) number_is foralls_are)
      ∙ (append_assoc met own (parts_asks (number + (told sentence part).size) foralls rest)
      ∙ (sym (ap (λ gs. met ++ parts_asks number foralls (map (told sentence) gs)) (drop_next parts i part at)) ∙ all))

  pub next_size : (number number' whole : ℕ) (parts : List Formula) (i : ℕ) (part : Formula) → slice_get parts i ≡ Some part →
      number + sizes (map (told sentence) (drop i parts)) ≡ whole → number' ≡ number + (told sentence part).size → number' + sizes (map (told sentence) (drop (i + 1) parts)) ≡ whole
  next_size number number' whole parts i part at all is =
      let parted : sizes (map (told sentence) (drop i parts)) ≡ (told sentence part).size + sizes (map (told sentence) (drop (i + 1) parts)) = ap (λ gs. sizes (map (told sentence) gs)) (drop_next parts i part at) in
      omega arith

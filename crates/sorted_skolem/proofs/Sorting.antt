-- The live tables in layers: first those to which no edge leads, then those to which edges lead from these alone, and so on.
use Rattle.std.proofs.Common.{◌≡◌, ◌∙◌, sym, ap, ap₂, refl, subst, ℕ, suc, ◌+◌, ◌<◌, ◌≤◌, ◌⊎◌, inl, inr, Bool, true, false, cond, ◌&&◌, List, [], ◌∷◌, ◌++◌, length, map, arith}
use Rattle.std.proofs.lemmas.Bool.{eqb-true, and_parts}
use Rattle.std.proofs.lemmas.Option.{same_Some}
use Rattle.std.specs.List.{filter, list_all, flat_map}
use Rattle.std.specs.Prelude.{Option, Some, None, nat_eq, ◌↔◌, find, option_map, is_none, is_some, IsSome, if◌then◌else◌}
use Rattle.sort_formula.specs.declared.formula.Formula.{Formula}
use Rattle.sorted_skolem.specs.declared.asks.Ask.{Ask}
use Rattle.sorted_skolem.specs.declared.edges.Edge.{Edge}
use Rattle.sorted_skolem.specs.Graph.{Asks, IsLive, asked, IsEdge, LeadsTo, IsClosed, HasPath, here, farther, HasDepth, AreOrdered, IsOrder}
use Rattle.sorted_skolem.specs.Preorder.{outlines_of}
use Rattle.sorted_skolem.specs.inner.Asks.{asks_from}
use Rattle.sorted_skolem.specs.inner.Waiting.{has, Rises, IsWanted, wanted, edges_at, source_of, HasEdge, LeadsOn, IsRound}
use Rattle.sorted_skolem.proofs.Among.{Among, among_left, among_right, among_either, among_at, at_among, among_filter, filter_among, among_map, map_among, among_flat, flat_among}
use Rattle.sorted_skolem.proofs.Ordered.{contains_among, among_contains}
use Rattle.sorted_skolem.proofs.Telling.{asks_of, asks_are, asks_ask, ask_asks}
use Rattle.sorted_skolem.proofs.Living.{has_among, among_has, all_has, has_all, equal_true, rises_filter}

-- what was found of the sentences
pub record AreKnown (sentences : List Formula) (live : List ℕ) (edges : List Edge) : Type 0 where
  pub live_is : (table : ℕ) → has live table ≡ true → IsLive sentences table
  pub is_live : (table : ℕ) → IsLive sentences table → has live table ≡ true
  pub edge_is : (from to : ℕ) → HasEdge edges from to → IsEdge sentences from to
  pub is_edge : (from to : ℕ) → IsEdge sentences from to → HasEdge edges from to

module _ (sentences : List Formula) where
  abbrev asks : List Ask
  asks = asks_of (outlines_of sentences)

  wanted_live : (table : ℕ) → IsWanted asks table → IsLive sentences table
  wanted_live t (wanted place table ask at is all) =
      subst (IsLive sentences) is
      (asked ask.sentence ask.node ask.table ask.foralls (asks_ask sentences ask (among_at asks place ask at))
      (λ k r to. wanted_live r (all r (among_has ask.foralls r (among_at ask.foralls k r to)))))

  live_wanted : (table : ℕ) → IsLive sentences table → IsWanted asks table
  live_wanted t (asked sentence node table tables is all) =
      let ask : Ask = record { sentence = sentence; node = node; table = table; foralls = tables } in
      let place = at_among asks ask (ask_asks sentences sentence node table tables is) in
      wanted place.0 table ask place.1 refl (λ from in'. let at = at_among tables from (has_among tables from in') in live_wanted from (all at.0 from at.1))

  module _ (live : List ℕ) (has_live : (table : ℕ) → (has live table ≡ true) ↔ IsWanted asks table) where
    abbrev live_edges : List Edge
    live_edges = flat_map (edges_at live) asks

    then_edges : (b : Bool) (es : List Edge) (e : Edge) → Among (if b then es else []) e → (b ≡ true) × Among es e
    then_edges true es e is = (refl, is)
    then_edges false es e is = absurd is

    edges_then : (b : Bool) (es : List Edge) (e : Edge) → b ≡ true → Among es e → Among (if b then es else []) e
    edges_then true es e says is = is
    edges_then false es e says is = cc

    edge_gives : (from to : ℕ) → HasEdge live_edges from to → IsEdge sentences from to
    edge_gives from to edge =
        let e : Edge = record { from = from; to = to } in
        let ask = flat_among (edges_at live) asks e (among_at live_edges edge.0 e edge.1) in
        let part = then_edges (list_all (has live) ask.0.foralls) (map (λ (from : ℕ). record { from = from; to = ask.0.table }) ask.0.foralls) e ask.2 in
        let found = map_among (λ (from : ℕ). record { from = from; to = ask.0.table }) ask.0.foralls e part.1 in
        let from_is : found.0 ≡ from = ap (λ (e : Edge). e.from) found.2 in
        let to_is : ask.0.table ≡ to = ap (λ (e : Edge). e.to) found.2 in
        let place = at_among ask.0.foralls from (subst (Among ask.0.foralls) from_is found.1) in (
          ask.0.sentence,
          record {
            node = ask.0.node;
            tables = ask.0.foralls;
            asks = subst (λ n. Asks sentences ask.0.sentence ask.0.node n ask.0.foralls) to_is (asks_ask sentences ask.0 ask.1);
            live = λ k r at. wanted_live r ((has_live r).0 (all_has live ask.0.foralls part.0 r (among_has ask.0.foralls r (among_at ask.0.foralls k r at))));
            place = place.0;
            is_from = place.1;
          },
        )

    gives_edge : (from to : ℕ) → IsEdge sentences from to → HasEdge live_edges from to
    gives_edge from to is =
        let gives = is.1 in
        let ask : Ask = record { sentence = is.0; node = gives.node; table = to; foralls = gives.tables } in
        let e : Edge = record { from = from; to = to } in
        at_among live_edges e
        (among_flat (edges_at live) asks ask e (ask_asks sentences is.0 gives.node to gives.tables gives.asks)
        (edges_then (list_all (has live) gives.tables) (map (λ (from : ℕ). record { from = from; to = to }) gives.tables) e
        (has_all live gives.tables (λ t in'. let at = at_among gives.tables t in' in (has_live t).1 (live_wanted t (gives.live at.0 t at.1))))
        (among_map (λ (from : ℕ). record { from = from; to = to }) gives.tables from (among_at gives.tables gives.place from gives.is_from))))

    pub known : AreKnown sentences live live_edges
    known = record {
      live_is = λ table is. wanted_live table ((has_live table).0 is);
      is_live = λ table is. (has_live table).1 (live_wanted table is);
      edge_is = edge_gives;
      is_edge = gives_edge;
    }

-- from what the calls answer
pub start_known : (sentences : List Formula) (asks : List Ask) (live : List ℕ) (edges : List Edge) → asks ≡ asks_from 0 sentences →
    ((table : ℕ) → (has live table ≡ true) ↔ IsWanted asks table) → edges ≡ flat_map (edges_at live) asks → AreKnown sentences live edges
start_known sentences asks live edges is has_live edges_are =
    let same : asks ≡ asks_of (outlines_of sentences) = is ∙ asks_are sentences in
    subst (AreKnown sentences live) (sym (edges_are ∙ ap (flat_map (edges_at live)) same))
    (known sentences live (subst (λ (as' : List Ask). (table : ℕ) → (has live table ≡ true) ↔ IsWanted as' table) same has_live))

-- ---- the edges of a table

module _ {A : Type 0} (test : A → Bool) where
  find_cond : (b : Bool) (y : A) (ys : List A) (x : A) → test y ≡ b → cond b (Some y) (find test ys) ≡ Some x → (find test ys ≡ Some x → Among ys x × (test x ≡ true)) → Among (y ∷ ys) x × (test x ≡ true)
  find_cond true y ys x says is rest = let same = same_Some y x is in (inl same, subst (λ z. test z ≡ true) same says)
  find_cond false y ys x says is rest = let found = rest is in (inr found.0, found.1)

  find_some : (xs : List A) (x : A) → find test xs ≡ Some x → Among xs x × (test x ≡ true)
  find_some [] x is = cc
  find_some (y ∷ ys) x is = find_cond (test y) y ys x refl is (find_some ys x)

  none_cond : (b : Bool) (y : A) (ys : List A) (x : A) → test y ≡ b → cond b (Some y) (find test ys) ≡ None → Among (y ∷ ys) x → test x ≡ true → (find test ys ≡ None → Among ys x → test x ≡ true → ⊥) → ⊥
  none_cond true y ys x says is at good rest = cc
  none_cond false y ys x says is at good rest = elim at [ inl first ↦ let same : test y ≡ test x = ap test first in cc | inr later ↦ rest is later good ]

  find_none : (xs : List A) (x : A) → find test xs ≡ None → Among xs x → test x ≡ true → ⊥
  find_none [] x is at good = absurd at
  find_none (y ∷ ys) x is at good = none_cond (test y) y ys x refl is at good (find_none ys x)

-- an edge leads to the table from one of these
pub record HasSource (edges : List Edge) (waiting : List ℕ) (table : ℕ) (from : ℕ) : Type 0 where
  pub edge : HasEdge edges from table
  pub waits : has waiting from ≡ true

module _ (edges : List Edge) (waiting : List ℕ) (table : ℕ) where
  abbrev test : Edge → Bool
  test e = nat_eq e.to table && has waiting e.from

  from_option : (o : Option Edge) (from : ℕ) → find test edges ≡ o → option_map (λ (e : Edge). e.from) o ≡ Some from → HasSource edges waiting table from
  from_option None from is some = cc
  from_option (Some e) from is some =
      let found = find_some test edges e is in
      let both = and_parts (nat_eq e.to table) (has waiting e.from) found.1 in
      let from_is : e.from ≡ from = same_Some e.from from some in
      let to_is : e.to ≡ table = eqb-true e.to table both.0 in
      let same : e ≡ (let other : Edge = record { from = from; to = table } in other) = ap₂ (λ a b. (let other : Edge = record { from = a; to = b } in other)) from_is to_is in
      record { edge = at_among edges (record { from = from; to = table }) (subst (Among edges) same found.0); waits = subst (λ n. has waiting n ≡ true) from_is both.1 }

  pub source_some : (from : ℕ) → source_of edges waiting table ≡ Some from → HasSource edges waiting table from
  source_some from is = from_option (find test edges) from refl is

  no_option : (o : Option Edge) (from : ℕ) → find test edges ≡ o → option_map (λ (e : Edge). e.from) o ≡ None → HasSource edges waiting table from → ⊥
  no_option (Some e) from is none source = cc
  no_option None from is none source =
      find_none test edges (record { from = from; to = table }) is (among_at edges source.edge.0 (record { from = from; to = table }) source.edge.1)
      (ap₂ (λ a b. a && b) (equal_true table table refl) source.waits)

  pub source_none : (from : ℕ) → source_of edges waiting table ≡ None → HasSource edges waiting table from → ⊥
  source_none from is source = no_option (find test edges) from refl is source

-- ---- a layer

pub record IsSorting (sentences : List Formula) (tables waiting : List ℕ) : Type 0 where
  pub depth : ℕ
  pub split : (table : ℕ) → IsLive sentences table → Among tables table ⊎ Among waiting table
  pub live : (table : ℕ) → Among tables table ⊎ Among waiting table → IsLive sentences table
  pub done : (table : ℕ) → Among tables table → (less : ℕ) × (less < depth) × HasDepth sentences less table
  pub ordered : AreOrdered sentences tables
  pub deep : (table : ℕ) → Among waiting table → HasPath sentences depth table
  pub rises : Rises waiting

module _ (sentences : List Formula) where
  pub sorting_none : (live : List ℕ) (edges : List Edge) → AreKnown sentences live edges → Rises live → IsSorting sentences [] live
  sorting_none live edges known rises = record {
    depth = 0;
    split = λ table is. inr (has_among live table (known.is_live table is));
    live = λ table is. elim is [ inl never ↦ absurd never | inr at ↦ known.live_is table (among_has live table at) ];
    done = λ table is. absurd is;
    ordered = tt;
    deep = λ table at. here table (known.live_is table (among_has live table at));
    rises = rises;
  }

  layer_ordered : (depth : ℕ) (layer : List ℕ) → Rises layer → ((table : ℕ) → Among layer table → HasDepth sentences depth table) → AreOrdered sentences layer
  layer_ordered depth [] rises all = tt
  layer_ordered depth (t ∷ []) rises all = (depth, all t (inl refl))
  layer_ordered depth (t ∷ u ∷ ts) rises all = (
    record {
      depth = depth;
      second = depth;
      first_is = all t (inl refl);
      second_is = all u (inr (inl refl));
      before = inr (refl, rises.0 u (among_has (u ∷ ts) u (inl refl)));
    },
    layer_ordered depth (u ∷ ts) rises.1 (λ table at. all table (inr at)),
  )

  behind_one : (depth t : ℕ) (layer : List ℕ) → (less : ℕ) × (less < depth) × HasDepth sentences less t → Rises layer → ((table : ℕ) → Among layer table → HasDepth sentences depth table) → AreOrdered sentences (t ∷ layer)
  behind_one depth t [] done rises all = (done.0, done.2)
  behind_one depth t (u ∷ us) done rises all = (
    record { depth = done.0; second = depth; first_is = done.2; second_is = all u (inl refl); before = inl done.1 },
    layer_ordered depth (u ∷ us) rises all,
  )

  behind_all : (depth : ℕ) (tables layer : List ℕ) → AreOrdered sentences tables → ((table : ℕ) → Among tables table → (less : ℕ) × (less < depth) × HasDepth sentences less table) → Rises layer →
      ((table : ℕ) → Among layer table → HasDepth sentences depth table) → AreOrdered sentences (tables ++ layer)
  behind_all depth [] layer ordered done rises all = layer_ordered depth layer rises all
  behind_all depth (t ∷ []) layer ordered done rises all = behind_one depth t layer (done t (inl refl)) rises all
  behind_all depth (t ∷ u ∷ ts) layer ordered done rises all = (ordered.0, behind_all depth (u ∷ ts) layer ordered.1 (λ table at. done table (inr at)) rises all)

  module _ (live : List ℕ) (edges : List Edge) (known : AreKnown sentences live edges) (tables waiting : List ℕ) (sorting : IsSorting sentences tables waiting) where
    abbrev is_ready : ℕ → Bool
    is_ready table = is_none (source_of edges waiting table)

    abbrev is_blocked : ℕ → Bool
    is_blocked table = is_some (source_of edges waiting table)

    none_from : (o : Option ℕ) → is_none o ≡ true → o ≡ None
    none_from None is = refl
    none_from (Some x) is = cc

    some_from : (o : Option ℕ) → is_some o ≡ true → (x : ℕ) × (o ≡ Some x)
    some_from None is = cc
    some_from (Some x) is = (x, refl)

    none_or_some : (o : Option ℕ) → (is_none o ≡ true) ⊎ (is_some o ≡ true)
    none_or_some None = inl refl
    none_or_some (Some x) = inr refl

    -- an edge to a table of the layer comes from a table before
    short : (table : ℕ) → source_of edges waiting table ≡ None → (count : ℕ) → HasPath sentences count table → count ≤ sorting.depth
    short table none c (here t is) = omega arith
    short t none c (farther count from to path edge) =
        let live_from : IsLive sentences from = (let gives = edge.1 in gives.live gives.place from gives.is_from) in
        elim (sorting.split from live_from) [
          | inl before ↦
              let done = sorting.done from before in
              let low : count ≤ done.0 = done.2.longest count path in
              let high : done.0 < sorting.depth = done.1 in
              omega arith
          | inr waits ↦ absurd (source_none edges waiting to from none (record { edge = known.is_edge from to edge; waits = among_has waiting from waits }))
        ]

    layer_deep : (table : ℕ) → Among (filter is_ready waiting) table → HasDepth sentences sorting.depth table
    layer_deep table at =
        let found = among_filter is_ready waiting table at in
        record { path = sorting.deep table found.0; longest = short table (none_from (source_of edges waiting table) found.1) }

    pub sorting_more : IsSorting sentences (tables ++ filter is_ready waiting) (filter is_blocked waiting)
    sorting_more =
        let layer : List ℕ = filter is_ready waiting in
        let rest : List ℕ = filter is_blocked waiting in
        record {
          depth = suc sorting.depth;
          split = λ table is.
              elim (sorting.split table is) [
                | inl before ↦ inl (among_left tables layer table before)
                | inr waits ↦
                    elim (none_or_some (source_of edges waiting table)) [
                      | inl none ↦ inl (among_right tables layer table (filter_among is_ready waiting table waits none))
                      | inr some ↦ inr (filter_among is_blocked waiting table waits some)
                    ]
              ];
          live = λ table is.
              elim is [
                | inl first ↦
                    elim (among_either tables layer table first) [
                      | inl before ↦ sorting.live table (inl before)
                      | inr new ↦ sorting.live table (inr (among_filter is_ready waiting table new).0)
                    ]
                | inr later ↦ sorting.live table (inr (among_filter is_blocked waiting table later).0)
              ];
          done = λ table at.
              elim (among_either tables layer table at) [
                | inl before ↦ let done = sorting.done table before in let low = done.1 in (done.0, omega arith, done.2)
                | inr new ↦ (sorting.depth, omega arith, layer_deep table new)
              ];
          ordered = behind_all sorting.depth tables layer sorting.ordered sorting.done (rises_filter is_ready waiting sorting.rises) layer_deep;
          deep = λ table at.
              let found = among_filter is_blocked waiting table at in
              let some = some_from (source_of edges waiting table) found.1 in
              let source = source_some edges waiting table some.0 some.1 in
              farther sorting.depth some.0 table (sorting.deep some.0 (has_among waiting some.0 source.waits)) (known.edge_is some.0 table source.edge);
          rises = rises_filter is_blocked waiting sorting.rises;
        }

    -- where the layer is empty, an edge leads to each table that waits
    pub all_blocked : filter is_ready waiting ≡ [] → (table : ℕ) → has waiting table ≡ true → IsSome (source_of edges waiting table)
    all_blocked empty table is =
        elim (none_or_some (source_of edges waiting table)) [
          | inl none ↦ absurd (subst (λ ts. Among ts table) empty (filter_among is_ready waiting table (has_among waiting table is) none))
          | inr some ↦ some
        ]

    pub rounds : (round : List ℕ) → IsRound edges round → IsClosed sentences round
    rounds [] is = is
    rounds (t ∷ ts) is = leads t t ts is
      where
        leads : (end table : ℕ) (ts : List ℕ) → LeadsOn edges end table ts → LeadsTo sentences end table ts
        leads end table [] edge = known.edge_is table end edge
        leads end table (next ∷ ts) all = (known.edge_is table next all.0, leads end next ts all.1)

  -- where none waits, the tables are in order
  pub sorted : (tables : List ℕ) → IsSorting sentences tables [] → IsOrder sentences tables
  sorted tables sorting = record {
    live = λ table. (
      λ at. sorting.live table (inl (contains_among tables table at)),
      λ is. elim (sorting.split table is) [ inl at ↦ among_contains tables table at | inr never ↦ absurd never ],
    );
    ordered = sorting.ordered;
  }

-- a table is in the layer, or it waits on
pub layer_fewer : (edges : List Edge) (waiting : List ℕ) (all : List ℕ) →
    length (filter (λ table. is_none (source_of edges waiting table)) all) + length (filter (λ table. is_some (source_of edges waiting table)) all) ≡ length all
layer_fewer edges waiting [] = refl
layer_fewer edges waiting (x ∷ xs) = step (source_of edges waiting x) (layer_fewer edges waiting xs)
  where
    step : (o : Option ℕ) → length (filter (λ table. is_none (source_of edges waiting table)) xs) + length (filter (λ table. is_some (source_of edges waiting table)) xs) ≡ length xs →
        length (cond (is_none o) (x ∷ filter (λ table. is_none (source_of edges waiting table)) xs) (filter (λ table. is_none (source_of edges waiting table)) xs))
        + length (cond (is_some o) (x ∷ filter (λ table. is_some (source_of edges waiting table)) xs) (filter (λ table. is_some (source_of edges waiting table)) xs)) ≡ suc (length xs)
    step None rest = omega arith
    step (Some from) rest = omega arith

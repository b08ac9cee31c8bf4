-- What holds while the facts are read, and of the links of each node.
use Rattle.std.proofs.Common.{◌≡◌, ◌≢◌, ◌∙◌, ◌⊎◌, sym, ap, refl, subst, ℕ, ◌<◌, ◌≤◌, ◌+◌, ◌-◌, true, false, cond, nat_lt, true≢false, List, [], ◌∷◌, ◌++◌, length, Some, None, slice_index_or, set, inl, inr, arith, encode_utf8_all, Bor}
use Rattle.std.specs.HashMap.{HashMap}
use Rattle.std.proofs.Common.{Vec}
use Rattle.std.specs.Str.{chars, bytes_eq}
use Rattle.std.proofs.lemmas.Bool.{cases_lt, cases_eq, cases_Bool, cond-true, cond-false}
use Rattle.std.proofs.lemmas.Bool.Decides.{nat_tests}
use Rattle.std.proofs.lemmas.Slice.Eq.{bytes_eq-Decides}
use Rattle.std.proofs.lemmas.List.{length_push, get_or_append_left, get_or_push, get_or-set_same, get_or-set_other, length-set, get_or_read}
use Rattle.text_classes.specs.declared.facts.TextEnd.TheVariants.{Var, Text}
use Rattle.text_classes.specs.declared.facts.TextFact.{TextFact}
use Rattle.text_classes.specs.declared.graph.Link.{Link}
use Rattle.text_classes.specs.Paths.{fact_at}
use Rattle.text_classes.specs.Answer.{AreDistinct}
use Rattle.text_classes.specs.inner.Nodes.{text_at, found_at, AreKept, IsLonger, end_at, link_at, AreWithin, IsLink, IsWay, AreWaysOf, AreWays, ways_at, number_at}

-- ---- the table of texts

-- a text that is not in the table is put behind the others
pub kept_more : {S : Type 0} (m m' : HashMap (Bor (List ℕ)) ℕ S) (texts : List (List ℕ)) (t bytes : List ℕ) → AreKept m texts → bytes ≡ encode_utf8_all t → chars bytes ≡ t → found_at m bytes ≡ None
    → ((q : List ℕ) → found_at m' q ≡ cond (bytes_eq bytes q) (Some (length texts)) (found_at m q)) → AreKept m' (texts ++ t ∷ [])
kept_more m m' texts t bytes kept bytes_is valid none update =
    let size = length_push texts t in
    let same : (k : ℕ) → k < length texts → text_at (texts ++ t ∷ []) k ≡ text_at texts k = λ k h. get_or_append_left texts (t ∷ []) [] k h in
    let new : text_at (texts ++ t ∷ []) (length texts) ≡ t = get_or_push texts t [] (length texts) refl in
    let which : (k : ℕ) → k < length (texts ++ t ∷ []) → (k < length texts) ⊎ (k ≡ length texts) =
    λ k h. elim (cases_eq k (length texts)) [ inl e ↦ inr e | inr other ↦ inl (omega arith) ] in
    record {
      valid = λ k h. elim (which k h) [
        | inl old ↦ rw (same k old) (kept.valid k old)
        | inr e ↦ subst (λ (x : List ℕ). chars (encode_utf8_all x) ≡ x) (sym (ap (text_at (texts ++ t ∷ [])) e ∙ new)) (ap chars (sym bytes_is) ∙ valid)
      ];
      found = λ k h. elim (which k h) [
        | inl old ↦
            let was = kept.found k old in
            let other : bytes_eq bytes (encode_utf8_all (text_at texts k)) ≡ false =
            elim (cases_Bool (bytes_eq bytes (encode_utf8_all (text_at texts k)))) [
              | inl hit ↦ (let e = (bytes_eq-Decides bytes (encode_utf8_all (text_at texts k))).0 hit in absurd (let again : None ≡ Some k = sym none ∙ ap (found_at m) e ∙ was in cc again))
              | inr miss ↦ miss
            ] in
            rw (same k old) (update (encode_utf8_all (text_at texts k)) ∙ cond-false (bytes_eq bytes (encode_utf8_all (text_at texts k))) (Some (length texts)) (found_at m (encode_utf8_all (text_at texts k))) other ∙ was)
        | inr e ↦
            let is : text_at (texts ++ t ∷ []) k ≡ t = ap (text_at (texts ++ t ∷ [])) e ∙ new in
            ap (λ (x : List ℕ). found_at m' (encode_utf8_all x)) is ∙ ap (found_at m') (sym bytes_is) ∙ update bytes ∙ cond-true (bytes_eq bytes bytes) (Some (length texts)) (found_at m bytes) ((bytes_eq-Decides bytes bytes).1 refl) ∙ ap Some (sym e)
      ];
      right = λ q k h. elim (cases_Bool (bytes_eq bytes q)) [
        | inl hit ↦
            let e : bytes ≡ q = (bytes_eq-Decides bytes q).0 hit in
            let at : Some (length texts) ≡ Some k = sym (update q ∙ cond-true (bytes_eq bytes q) (Some (length texts)) (found_at m q) hit) ∙ h in
            let place : length texts ≡ k = cc at in
            (omega arith, ap encode_utf8_all (ap (text_at (texts ++ t ∷ [])) (sym place) ∙ new) ∙ sym bytes_is ∙ e)
        | inr miss ↦
            let old : found_at m q ≡ Some k = sym (update q ∙ cond-false (bytes_eq bytes q) (Some (length texts)) (found_at m q) miss) ∙ h in
            let was = kept.right q k old in
            (let h : k < length texts = was.0 in omega arith, ap encode_utf8_all (same k was.0) ∙ was.1)
      ];
    }

-- the same, as the code says it
pub kept_code : {S : Type 0} (m m' : HashMap (Bor (List ℕ)) ℕ S) (texts texts' : List (List ℕ)) (t t' bytes : List ℕ) (place : ℕ) → AreKept m texts → bytes ≡ encode_utf8_all t → chars bytes ≡ t → found_at m bytes ≡ None
    → place ≡ length texts → t' ≡ t → texts' ≡ texts ++ t' ∷ [] → ((q : List ℕ) → found_at m' q ≡ cond (bytes_eq bytes q) (Some place) (found_at m q)) → AreKept m' texts'
kept_code m m' texts texts' t t' bytes place kept bytes_is valid none place_is same texts_are update =
    let texts_here : texts ++ t ∷ [] ≡ texts' = sym (texts_are ∙ ap (λ (x : List ℕ). texts ++ x ∷ []) same) in
    subst (AreKept m') texts_here (kept_more m m' texts t bytes kept bytes_is valid none (λ q. subst (λ (k : ℕ). found_at m' q ≡ cond (bytes_eq bytes q) (Some k) (found_at m q)) place_is (update q)))

-- the text that was found
pub found_text : {S : Type 0} (m : HashMap (Bor (List ℕ)) ℕ S) (texts : List (List ℕ)) (t bytes : List ℕ) (k : ℕ) → AreKept m texts → chars bytes ≡ t → found_at m bytes ≡ Some k → (k < length texts) × (text_at texts k ≡ t)
found_text m texts t bytes k kept valid found =
    let right = kept.right bytes k found in
    (right.0, sym (kept.valid k right.0) ∙ ap chars right.1 ∙ valid)

pub longer_push : (texts : List (List ℕ)) (t : List ℕ) → IsLonger texts (texts ++ t ∷ [])
longer_push texts t = let size = length_push texts t in record { texts = λ k h. get_or_append_left texts (t ∷ []) [] k h; least = omega arith; most = omega arith }

pub longer_self : (texts : List (List ℕ)) → IsLonger texts texts
longer_self texts = record { texts = λ k h. refl; least = omega arith; most = omega arith }

-- no text is there twice
pub distinct : {S : Type 0} (m : HashMap (Bor (List ℕ)) ℕ S) (texts : List (List ℕ)) → AreKept m texts → AreDistinct texts
distinct m texts kept i j il jl same = let both : Some i ≡ Some j = sym (kept.found i il) ∙ ap (λ (t : List ℕ). found_at m (encode_utf8_all t)) same ∙ kept.found j jl in cc both

-- ---- nodes

pub end_var : (vars : ℕ) (texts : List (List ℕ)) (node : ℕ) → node < vars → end_at vars texts node ≡ Var node
end_var vars texts node below = cond-true (nat_lt node vars) (Var node) (Text (text_at texts (node - vars))) (grind (arith, nat_tests))

pub end_text : (vars : ℕ) (texts : List (List ℕ)) (node : ℕ) → vars ≤ node → end_at vars texts node ≡ Text (text_at texts (node - vars))
end_text vars texts node above = cond-false (nat_lt node vars) (Var node) (Text (text_at texts (node - vars))) (grind (arith, nat_tests))

-- a node stands for the same side when there are more texts
pub end_kept : (vars : ℕ) (old new : List (List ℕ)) (node : ℕ) → IsLonger old new → node < vars + length old → end_at vars new node ≡ end_at vars old node
end_kept vars old new node longer within =
    elim (cases_lt node vars) [
      | inl below ↦ end_var vars new node below ∙ sym (end_var vars old node below)
      | inr above ↦ end_text vars new node above ∙ ap Text (longer.texts (node - vars) (omega arith)) ∙ sym (end_text vars old node above)
    ]

-- the node of a text
pub text_end : (vars : ℕ) (texts : List (List ℕ)) (place : ℕ) (t : List ℕ) → text_at texts place ≡ t → end_at vars texts (vars + place) ≡ Text t
text_end vars texts place t is = end_text vars texts (vars + place) (omega arith) ∙ ap (λ (k : ℕ). Text (text_at texts k)) (let e : vars + place - vars ≡ place = omega arith in e) ∙ ap Text is

pub link_kept : (vars : ℕ) (old new : List (List ℕ)) (f : TextFact) (l : Link) → IsLonger old new → l.left < vars + length old → l.right < vars + length old → IsLink vars old f l → IsLink vars new f l
link_kept vars old new f l longer left right is = record {
  left = end_kept vars old new l.left longer left ∙ is.left;
  right = end_kept vars old new l.right longer right ∙ is.right;
  equal = is.equal;
}

-- a fact's link is put behind the others
module _ (vars : ℕ) (facts : List TextFact) (t0 t1 t2 : List (List ℕ)) (links : List Link) (i left right : ℕ) (f : TextFact)
    (one : IsLonger t0 t1) (two : IsLonger t1 t2) (left_within : left < vars + length t1) (right_within : right < vars + length t2)
    (left_is : end_at vars t1 left ≡ f.left) (right_is : end_at vars t2 right ≡ f.right) (f_is : f ≡ fact_at facts i) (count : length links ≡ i)
    (within : AreWithin (vars + length t0) links) where
  abbrev link : Link
  link = record { left = left; right = right; equal = f.equal }

  abbrev links' : List Link
  links' = links ++ link ∷ []

  kept_at : (n : ℕ) → n < length links → link_at links' n ≡ link_at links n
  kept_at n h = get_or_append_left links (link ∷ []) _ n h

  new_at : link_at links' i ≡ link
  new_at = get_or_push links link _ i count

  left_now : left < vars + length t2
  left_now = let h = two.least in omega arith

  pub read_within : AreWithin (vars + length t2) links'
  read_within n h =
      let size = length_push links link in
      let a = one.least in
      let b = two.least in
      elim (cases_eq n i) [
        | inl new ↦ subst (λ (l : Link). (l.left < vars + length t2) × (l.right < vars + length t2)) (sym (ap (link_at links') new ∙ new_at)) (left_now, right_within)
        | inr other ↦
            let old : n < length links = omega arith in
            let was = within n old in
            subst (λ (l : Link). (l.left < vars + length t2) × (l.right < vars + length t2)) (sym (kept_at n old))
            (let h = was.0 in omega arith, let h = was.1 in omega arith)
      ]

  pub read_sides : ((n : ℕ) → n < i → IsLink vars t0 (fact_at facts n) (link_at links n)) → (n : ℕ) → n < i + 1 → IsLink vars t2 (fact_at facts n) (link_at links' n)
  read_sides sides n h =
      let a = one.least in
      let b = two.least in
      elim (cases_eq n i) [
        | inl new ↦
            subst (λ (k : ℕ). IsLink vars t2 (fact_at facts k) (link_at links' k)) (sym new)
            (subst (IsLink vars t2 (fact_at facts i)) (sym new_at)
            (subst (λ (g : TextFact). IsLink vars t2 g link) f_is (record { left = end_kept vars t1 t2 left two left_within ∙ left_is; right = right_is; equal = refl })))
        | inr other ↦
            let old : n < length links = omega arith in
            let was = within n old in
            let before : n < i = omega arith in
            let l = link_at links n in
            let lw : l.left < vars + length t0 = was.0 in
            let rw' : l.right < vars + length t0 = was.1 in
            subst (IsLink vars t2 (fact_at facts n)) (sym (kept_at n old))
            (link_kept vars t1 t2 (fact_at facts n) l two (omega arith) (omega arith) (link_kept vars t0 t1 (fact_at facts n) l one lw rw' (sides n before)))
      ]

-- ---- the links of each node

-- a number more
pub way_pushed : (links : List Link) (i count node : ℕ) (numbers : List ℕ) → count ≤ i + 1 → i ≤ count → AreWaysOf links count node numbers → IsWay links (i + 1) node i → AreWaysOf links (i + 1) node (numbers ++ i ∷ [])
way_pushed links i count node numbers most least ways way =
    let size = length_push numbers i in
    let same : (k : ℕ) → k < length numbers → number_at (numbers ++ i ∷ []) k ≡ number_at numbers k = λ k h. get_or_append_left numbers (i ∷ []) 0 k h in
    let new : number_at (numbers ++ i ∷ []) (length numbers) ≡ i = get_or_push numbers i 0 (length numbers) refl in
    record {
      sound = λ k h. elim (cases_eq k (length numbers)) [
        | inl e ↦ subst (IsWay links (i + 1) node) (sym (ap (number_at (numbers ++ i ∷ [])) e ∙ new)) way
        | inr other ↦
            let old : k < length numbers = omega arith in
            let was = ways.sound k old in
            subst (IsWay links (i + 1) node) (sym (same k old)) (record { listed = (let h = was.listed in omega arith); equal = was.equal; side = was.side })
      ];
      whole = λ n is. elim (cases_eq n i) [
        | inl e ↦ (length numbers, omega arith, new ∙ sym e)
        | inr other ↦
            let was = ways.whole n (record { listed = (let h : n < i + 1 = is.listed in omega arith); equal = is.equal; side = is.side }) in
            (was.0, (let h : was.0 < length numbers = was.1 in omega arith), same was.0 was.1 ∙ was.2)
      ];
    }

-- the link is none of the node's
pub way_passed : (links : List Link) (i node : ℕ) (numbers : List ℕ) → AreWaysOf links i node numbers → (IsWay links (i + 1) node i → ⊥) → AreWaysOf links (i + 1) node numbers
way_passed links i node numbers ways not = record {
  sound = λ k h. (let was = ways.sound k h in record { listed = (let l = was.listed in omega arith); equal = was.equal; side = was.side });
  whole = λ n is. elim (cases_eq n i) [
    | inl e ↦ absurd (not (subst (IsWay links (i + 1) node) e is))
    | inr other ↦ ways.whole n (record { listed = (let h : n < i + 1 = is.listed in omega arith); equal = is.equal; side = is.side })
  ];
}

-- an unequal fact's link is none of any node's
pub ways_passed : (links : List Link) (i : ℕ) (ways : List (List ℕ)) → AreWays links i ways → (link_at links i).equal ≡ false → AreWays links (i + 1) ways
ways_passed links i ways all unequal node h = way_passed links i node (ways_at ways node) (all node h) (λ way. true≢false (sym way.equal ∙ unequal))

-- the link of an equal fact is put at both its sides
pub ways_more : (links : List Link) (i : ℕ) (ways : List (List ℕ)) → AreWays links i ways → (link_at links i).equal ≡ true → (link_at links i).left < length ways → (link_at links i).right < length ways
    → (first second : List (List ℕ)) → first ≡ set ways (link_at links i).left (ways_at ways (link_at links i).left ++ i ∷ []) → second ≡ set first (link_at links i).right (ways_at first (link_at links i).right ++ i ∷ [])
    → (length second ≡ length ways) × AreWays links (i + 1) second
ways_more links i ways all equal left right first second first_is second_is =
    let l = link_at links i in
    let count_first : length first ≡ length ways = ap length first_is ∙ length-set ways l.left (ways_at ways l.left ++ i ∷ []) in
    let count : length second ≡ length ways = ap length second_is ∙ length-set first l.right (ways_at first l.right ++ i ∷ []) ∙ count_first in
    let at_left : ways_at first l.left ≡ ways_at ways l.left ++ i ∷ [] = ap (λ (w : List (List ℕ)). ways_at w l.left) first_is ∙ get_or-set_same ways l.left _ [] left in
    let first_other : (node : ℕ) → node ≢ l.left → ways_at first node ≡ ways_at ways node = λ node other. ap (λ (w : List (List ℕ)). ways_at w node) first_is ∙ get_or-set_other ways l.left node _ [] other in
    let at_right : ways_at second l.right ≡ ways_at first l.right ++ i ∷ [] = ap (λ (w : List (List ℕ)). ways_at w l.right) second_is ∙ get_or-set_same first l.right _ [] (omega arith) in
    let second_other : (node : ℕ) → node ≢ l.right → ways_at second node ≡ ways_at first node = λ node other. ap (λ (w : List (List ℕ)). ways_at w node) second_is ∙ get_or-set_other first l.right node _ [] other in
    let way_left : IsWay links (i + 1) l.left i = record { listed = omega arith; equal = equal; side = inl refl } in
    let way_right : IsWay links (i + 1) l.right i = record { listed = omega arith; equal = equal; side = inr refl } in
    let left_now : AreWaysOf links (i + 1) l.left (ways_at first l.left) = subst (AreWaysOf links (i + 1) l.left) (sym at_left) (way_pushed links i i l.left (ways_at ways l.left) (omega arith) (omega arith) (all l.left left) way_left) in (
      count,
      λ node h. elim (cases_eq node l.right) [
        | inl is_right ↦ subst (λ (v : ℕ). AreWaysOf links (i + 1) v (ways_at second v)) (sym is_right) (subst (AreWaysOf links (i + 1) l.right) (sym at_right) (elim (cases_eq l.right l.left) [
          | inl loop ↦ way_pushed links i (i + 1) l.right (ways_at first l.right) (omega arith) (omega arith) (subst (λ (v : ℕ). AreWaysOf links (i + 1) v (ways_at first v)) (sym loop) left_now) way_right
          | inr apart ↦ way_pushed links i i l.right (ways_at first l.right) (omega arith) (omega arith) (subst (AreWaysOf links i l.right) (sym (first_other l.right apart)) (all l.right right)) way_right
        ]))
        | inr not_right ↦ subst (AreWaysOf links (i + 1) node) (sym (second_other node not_right)) (elim (cases_eq node l.left) [
          | inl is_left ↦ subst (λ (v : ℕ). AreWaysOf links (i + 1) v (ways_at first v)) (sym is_left) left_now
          | inr not_left ↦ subst (AreWaysOf links (i + 1) node) (sym (first_other node not_left)) (way_passed links i node (ways_at ways node) (all node (omega arith)) (λ way. elim (way.side) [ inl e ↦ not_left (sym e) | inr e ↦ not_right (sym e) ]))
        ])
      ],
    )

-- the fact that is read
pub fact_read : (facts : List TextFact) (i : ℕ) (f : TextFact) → i < length facts → f ≡ slice_index_or facts i f → f ≡ fact_at facts i
fact_read facts i f listed is = get_or_read facts i f listed is _

pub ways_are : {A : Type 0} (links : List Link) (count nodes : ℕ) (v w : Vec (List ℕ) A) → v ≡ w → length w.items ≡ nodes → AreWays links count w.items → (length v.items ≡ nodes) × AreWays links count v.items
ways_are {A} links count nodes v w is size ways = (ap (λ (x : Vec (List ℕ) A). length x.items) is ∙ size, subst (λ (x : Vec (List ℕ) A). AreWays links count x.items) (sym is) ways)

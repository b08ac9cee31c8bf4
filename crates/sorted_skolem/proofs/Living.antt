-- Lists of tables: which tables they have, ascending lists, and the least set of wanted tables.
use Rattle.std.proofs.Common.{◌≡◌, ◌∙◌, sym, ap, ap₂, refl, subst, ℕ, suc, ◌+◌, ◌<◌, ◌≤◌, ◌⊎◌, inl, inr, Bool, true, false, cond, ◌&&◌, ◌||◌, List, [], ◌∷◌, ◌++◌, length, map, take, arith}
use Rattle.std.proofs.lemmas.Bool.{eqb-true}
use Rattle.std.proofs.lemmas.Bool.Decides.{nat_tests}
use Rattle.std.proofs.lemmas.Option.{same_Some, slice_get_within}
use Rattle.std.specs.List.{filter, list_all, insert, take_while, prefix_len}
use Rattle.std.specs.Prelude.{Some, slice_get, nat_eq, nat_lt}
use Rattle.lint_base.proofs.Lists.{both_left, both_right}
use Rattle.sorted_skolem.specs.declared.asks.Ask.{Ask}
use Rattle.sorted_skolem.specs.inner.Waiting.{has, Rises, inserted, lacking, IsWanted, wanted, AreSound, IsClosedAt, missing}
use Rattle.sorted_skolem.proofs.Among.{Among, among_left, among_right, among_filter, among_map, among_at}

pub either : (a b : Bool) → (a || b) ≡ true → (a ≡ true) ⊎ (b ≡ true)
either true b is = inl refl
either false b is = inr is

pub neither : (a b : Bool) → (a || b) ≡ false → (a ≡ false) × (b ≡ false)
neither true b is = cc
neither false b is = (refl, is)

pub true_or_false : (b : Bool) → (b ≡ true) ⊎ (b ≡ false)
true_or_false true = inl refl
true_or_false false = inr refl

pub has_among : (xs : List ℕ) (x : ℕ) → has xs x ≡ true → Among xs x
has_among [] x is = cc
has_among (y ∷ ys) x is = elim (either (nat_eq y x) (has ys x) is) [ inl here ↦ inl (eqb-true y x here) | inr later ↦ inr (has_among ys x later) ]

pub equal_true : (m n : ℕ) → m ≡ n → nat_eq m n ≡ true
equal_true m n same = grind (arith, nat_tests)

or_right : (a b : Bool) → b ≡ true → (a || b) ≡ true
or_right true b is = refl
or_right false b is = is

or_left : (a b : Bool) → a ≡ true → (a || b) ≡ true
or_left true b is = refl
or_left false b is = cc

pub among_has : (xs : List ℕ) (x : ℕ) → Among xs x → has xs x ≡ true
among_has [] x is = absurd is
among_has (y ∷ ys) x is = elim is [ inl here ↦ or_left (nat_eq y x) (has ys x) (equal_true y x here) | inr later ↦ or_right (nat_eq y x) (has ys x) (among_has ys x later) ]

-- all of these are there
pub all_has : (live ts : List ℕ) → list_all (has live) ts ≡ true → (t : ℕ) → has ts t ≡ true → has live t ≡ true
all_has live [] all t is = cc
all_has live (u ∷ us) all t is =
    elim (either (nat_eq u t) (has us t) is) [
      | inl here ↦ subst (λ n. has live n ≡ true) (eqb-true u t here) (both_left (has live u) (list_all (has live) us) all)
      | inr later ↦ all_has live us (both_right (has live u) (list_all (has live) us) all) t later
    ]

pub has_all : (live ts : List ℕ) → ((t : ℕ) → Among ts t → has live t ≡ true) → list_all (has live) ts ≡ true
has_all live [] all = refl
has_all live (u ∷ us) all = ap₂ (λ a b. a && b) (all u (inl refl)) (has_all live us (λ t is. all t (inr is)))

-- ---- one table more

among_cond : (b : Bool) (x t : ℕ) (xs ys : List ℕ) (u : ℕ) → Among (cond b (x ∷ ys) (t ∷ x ∷ xs)) u → (Among ys u → (t ≡ u) ⊎ Among xs u) → (t ≡ u) ⊎ Among (x ∷ xs) u
among_cond true x t xs ys u is rest = elim is [ inl here ↦ inr (inl here) | inr later ↦ elim (rest later) [ inl new ↦ inl new | inr old ↦ inr (inr old) ] ]
among_cond false x t xs ys u is rest = is

pub inserted_among : (xs : List ℕ) (t u : ℕ) → Among (inserted xs t) u → (t ≡ u) ⊎ Among xs u
inserted_among [] t u is = elim is [ inl here ↦ inl here | inr never ↦ absurd never ]
inserted_among (x ∷ xs) t u is = among_cond (nat_lt x t) x t xs (inserted xs t) u is (inserted_among xs t u)

cond_among : (b : Bool) (x t : ℕ) (xs ys : List ℕ) (u : ℕ) → (t ≡ u) ⊎ Among (x ∷ xs) u → ((t ≡ u) ⊎ Among xs u → Among ys u) → Among (cond b (x ∷ ys) (t ∷ x ∷ xs)) u
cond_among true x t xs ys u is rest =
    elim is [ inl new ↦ inr (rest (inl new)) | inr old ↦ elim old [ inl here ↦ inl here | inr later ↦ inr (rest (inr later)) ] ]
cond_among false x t xs ys u is rest = is

pub among_inserted : (xs : List ℕ) (t u : ℕ) → (t ≡ u) ⊎ Among xs u → Among (inserted xs t) u
among_inserted [] t u is = is
among_inserted (x ∷ xs) t u is = cond_among (nat_lt x t) x t xs (inserted xs t) u is (among_inserted xs t u)

less : (m n : ℕ) → nat_lt m n ≡ true → m < n
less m n is = grind (arith, nat_tests)

not_less : (m n : ℕ) → nat_lt m n ≡ false → nat_eq m n ≡ false → n < m
not_less m n is other = grind (arith, nat_tests)

rises_cond : (b : Bool) (x t : ℕ) (xs : List ℕ) → nat_lt x t ≡ b → nat_eq x t ≡ false → Rises (x ∷ xs) → Rises (inserted xs t) → Rises (cond b (x ∷ inserted xs t) (t ∷ x ∷ xs))
rises_cond true x t xs is other all rest = (
  λ u at. elim (inserted_among xs t u (has_among (inserted xs t) u at)) [ inl new ↦ subst (λ n. x < n) new (less x t is) | inr old ↦ all.0 u (among_has xs u old) ],
  rest,
)
rises_cond false x t xs is other all rest = (
  λ u at.
      let low : t < x = not_less x t is other in
      elim (either (nat_eq x u) (has xs u) at) [ inl here ↦ subst (λ n. t < n) (eqb-true x u here) low | inr later ↦ let more : x < u = all.0 u later in omega arith ],
  all,
)

pub rises_inserted : (xs : List ℕ) (t : ℕ) → Rises xs → has xs t ≡ false → Rises (inserted xs t)
rises_inserted [] t all new = (λ u at. cc, tt)
rises_inserted (x ∷ xs) t all new =
    let none = neither (nat_eq x t) (has xs t) new in
    rises_cond (nat_lt x t) x t xs refl none.0 all (rises_inserted xs t all.1 none.1)

rises_kept : (b : Bool) (x : ℕ) (ys zs : List ℕ) → ((u : ℕ) → has ys u ≡ true → x < u) → Rises ys → Rises (cond b (x ∷ ys) ys)
rises_kept true x ys zs low rest = (low, rest)
rises_kept false x ys zs low rest = rest

pub rises_filter : (test : ℕ → Bool) (xs : List ℕ) → Rises xs → Rises (filter test xs)
rises_filter test [] all = tt
rises_filter test (x ∷ xs) all =
    rises_kept (test x) x (filter test xs) [] (λ u at. all.0 u (among_has xs u (among_filter test xs u (has_among (filter test xs) u at)).0)) (rises_filter test xs all.1)

-- the place where a table is put
pub insert_is : (xs : List ℕ) (t : ℕ) → insert xs (length (take_while (λ other. nat_lt other t) xs)) t ≡ inserted xs t
insert_is [] t = refl
insert_is (x ∷ xs) t = placed (nat_lt x t) (insert_is xs t)
  where
    placed : (b : Bool) → insert xs (length (take_while (λ other. nat_lt other t) xs)) t ≡ inserted xs t →
        insert (x ∷ xs) (length (take (cond b (1 + prefix_len (λ other. nat_lt other t) xs) 0) (x ∷ xs))) t ≡ cond b (x ∷ inserted xs t) (t ∷ x ∷ xs)
    placed false rest = refl
    placed true rest =
        let one : 1 + prefix_len (λ other. nat_lt other t) xs ≡ suc (prefix_len (λ other. nat_lt other t) xs) = omega arith in
        ap (λ n. insert (x ∷ xs) (length (take n (x ∷ xs))) t) one ∙ ap (λ ys. x ∷ ys) rest

-- ---- how many are lacking

lacking_step : (a b : Bool) (m n : ℕ) → (a ≡ true → b ≡ true) → m ≤ n → cond b m (suc m) ≤ cond a n (suc n)
lacking_step true true m n leads low = low
lacking_step true false m n leads low = cc (leads refl)
lacking_step false true m n leads low = omega arith
lacking_step false false m n leads low = omega arith

pub lacking_more : (ts these more : List ℕ) → ((t : ℕ) → has these t ≡ true → has more t ≡ true) → lacking ts more ≤ lacking ts these
lacking_more [] these more leads = omega arith
lacking_more (t ∷ ts) these more leads = lacking_step (has these t) (has more t) (lacking ts more) (lacking ts these) (leads t) (lacking_more ts these more leads)

lacking_less : (a b : Bool) (m n : ℕ) → (a ≡ true → b ≡ true) → m < n → cond b m (suc m) < cond a n (suc n)
lacking_less true true m n leads low = low
lacking_less true false m n leads low = cc (leads refl)
lacking_less false true m n leads low = omega arith
lacking_less false false m n leads low = omega arith

lacking_here : (a b : Bool) (m n : ℕ) → a ≡ false → b ≡ true → m ≤ n → cond b m (suc m) < cond a n (suc n)
lacking_here true b m n gone there low = cc
lacking_here false true m n gone there low = omega arith
lacking_here false false m n gone there low = cc

-- of a list, where one that lacked is there
pub lacking_fewer : (ts these more : List ℕ) (t : ℕ) → ((t : ℕ) → has these t ≡ true → has more t ≡ true) → Among ts t → has these t ≡ false → has more t ≡ true → lacking ts more < lacking ts these
lacking_fewer [] these more t leads is gone there = absurd is
lacking_fewer (u ∷ us) these more t leads is gone there =
    elim is [
      | inl here ↦
          lacking_here (has these u) (has more u) (lacking us more) (lacking us these) (subst (λ n. has these n ≡ false) (sym here) gone) (subst (λ n. has more n ≡ true) (sym here) there)
          (lacking_more us these more leads)
      | inr later ↦ lacking_less (has these u) (has more u) (lacking us more) (lacking us these) (leads u) (lacking_fewer us these more t leads later gone there)
    ]

-- ---- wanted tables

module _ (asks : List Ask) where
  abbrev pub tables_of : List ℕ
  tables_of = map (λ (ask : Ask). ask.table) asks

  pub sound_none : AreSound asks []
  sound_none = record { rises = tt; wanted = λ table is. cc }

  pub sound_more : (live : List ℕ) (place : ℕ) (ask : Ask) → AreSound asks live → slice_get asks place ≡ Some ask → has live ask.table ≡ false → list_all (has live) ask.foralls ≡ true → AreSound asks (inserted live ask.table)
  sound_more live place ask sound at new all = record {
    rises = rises_inserted live ask.table sound.rises new;
    wanted = λ table is.
        elim (inserted_among live ask.table table (has_among (inserted live ask.table) table is)) [
          | inl here ↦ wanted place table ask at here (λ from in'. sound.wanted from (all_has live ask.foralls all from in'))
          | inr old ↦ sound.wanted table (among_has live table old)
        ];
  }

  pub missing_fewer : (live : List ℕ) (place : ℕ) (ask : Ask) → slice_get asks place ≡ Some ask → has live ask.table ≡ false → missing asks (inserted live ask.table) < missing asks live
  missing_fewer live place ask at new =
      lacking_fewer tables_of live (inserted live ask.table) ask.table
      (λ t is. among_has (inserted live ask.table) t (among_inserted live ask.table t (inr (has_among live t is))))
      (among_map (λ (ask : Ask). ask.table) asks ask (among_at asks place ask at)) new
      (among_has (inserted live ask.table) ask.table (among_inserted live ask.table ask.table (inl refl)))

  -- a closed set has each wanted table
  pub wanted_has : (live : List ℕ) → ((place : ℕ) → IsClosedAt asks live place) → (table : ℕ) → IsWanted asks table → has live table ≡ true
  wanted_has live closed t (wanted place table ask at is all) =
      subst (λ n. has live n ≡ true) is
      (closed place ask at (has_all live ask.foralls (λ from in'. wanted_has live closed from (all from (among_has ask.foralls from in')))))

  -- one more is closed where its table is there, or one of its Foralls is over another
  pub closed_next : (live : List ℕ) (i : ℕ) (ask : Ask) → slice_get asks i ≡ Some ask → (has live ask.table ≡ true) ⊎ (list_all (has live) ask.foralls ≡ false) →
      ((place : ℕ) → place < i → IsClosedAt asks live place) → (place : ℕ) → place < i + 1 → IsClosedAt asks live place
  closed_next live i ask at settled before place low =
      elim (last place i low) [
        | inl earlier ↦ before place earlier
        | inr same ↦ λ other to all.
            let one : ask ≡ other = same_Some ask other (sym at ∙ (ap (slice_get asks) (sym same) ∙ to)) in
            elim settled [
              | inl there ↦ subst (λ (a : Ask). has live a.table ≡ true) one there
              | inr missing ↦ (let e : list_all (has live) other.foralls ≡ false = subst (λ (a : Ask). list_all (has live) a.foralls ≡ false) one missing in cc)
            ]
      ]
    where
      last : (m n : ℕ) → m < n + 1 → (m < n) ⊎ (m ≡ n)
      last m n low = grind arith

  -- no Exists stands behind the last
  pub closed_all : (live : List ℕ) → ((place : ℕ) → place < length asks → IsClosedAt asks live place) → (place : ℕ) → IsClosedAt asks live place
  closed_all live all place ask at = all place (slice_get_within asks place ask at) ask at

pub lacking_pushed : (ts these : List ℕ) (t : ℕ) → has ts t ≡ true → has these t ≡ false → lacking ts (these ++ t ∷ []) < lacking ts these
lacking_pushed ts these t is gone =
    lacking_fewer ts these (these ++ t ∷ []) t (λ u at. among_has (these ++ t ∷ []) u (among_left these (t ∷ []) u (has_among these u at))) (has_among ts t is) gone
    (among_has (these ++ t ∷ []) t (among_right these (t ∷ []) t (inl refl)))

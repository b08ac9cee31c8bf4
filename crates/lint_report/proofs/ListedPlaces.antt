-- The places that a walk over a condition lists are those of its scalar subqueries, of its predicates, or of its NOT IN subqueries that select a
-- column, as lint_core lists them.
use Rattle.std.proofs.Common.{◌≡◌, ◌∙◌, ◌⊎◌, inl, inr, refl, sym, ap, ap₂, subst, Bool, true, false, ◌&&◌, ℕ, List, [], ◌∷◌, ◌++◌, map, if◌then◌else◌}
use Rattle.std.proofs.lemmas.List.{map-append}
use Rattle.std.proofs.lemmas.List.Folds.{flat_map-map}
use Rattle.std.specs.List.{flat_map}
use Rattle.lint_base.specs.declared.place.Span.{Span}
use Rattle.lint_tables.specs.declared.op.Op.{Op}
use Rattle.lint_core.specs.declared.condition.Term.{Term}
use Rattle.lint_core.specs.declared.condition.Cond.{Cond, ind-Cond, roll-Cond, fold-roll-Cond, map-Cond}
use Rattle.lint_core.specs.declared.condition.Cond.TheVariants as c
use Rattle.lint_core.specs.declared.condition.Cond.TheOpen.{Cond-F}
use Rattle.lint_core.specs.declared.condition.Block.{Block, out-Block, roll-Block, fold_out-Block}
use Rattle.lint_core.specs.declared.query.Query.{Query}
use Rattle.lint_core.specs.Asked.{main_condition, scalars_of, not_ins_of}
use Rattle.lint_core.specs.Fits.{main_tables, tables_of}
use Rattle.lint_core.specs.Predicates.{predicates}
use Rattle.lint_core.specs.Subqueries.{Subquery, subquery, is_column, scalar_subqueries, not_in_subqueries}
use Rattle.lint_core.proofs.Parted.{predicates_true, predicates_false, predicates_and, predicates_or, predicates_not, predicates_compare, predicates_is_null, predicates_exists, predicates_in, predicates_scalar, scalars_true, scalars_false, scalars_and, scalars_or, scalars_not, scalars_compare, scalars_is_null, scalars_exists, scalars_in, scalars_scalar, not_ins_true, not_ins_false, not_ins_and, not_ins_or, not_ins_not, not_ins_compare, not_ins_is_null, not_ins_exists, not_ins_in, not_ins_scalar}
use Rattle.lint_report.specs.declared.listing.Listed.{Listed}
use Rattle.lint_report.specs.declared.listing.Listed.TheVariants.{Scalars, Predicates, NotIns}
use Rattle.lint_report.specs.QuestionPlaces.{subquery_places}
use Rattle.lint_report.specs.inner.Listed.{Inside, of_predicate, of_in, of_scalar, places_step, block_step, places, inside}

-- ---- what is listed of each kind of condition

module _ (listed : Listed) where
  abbrev listed_layer : Cond-F Cond Block → Cond-F (List Span) Inside
  listed_layer = map-Cond Cond Block (List Span) Inside (places listed) (inside listed)

  pub places_out : (cond : Cond) (layer : Cond-F Cond Block) → roll-Cond layer ≡ cond → places listed cond ≡ places_step listed (listed_layer layer)
  places_out cond layer is = ap (places listed) (sym is) ∙ fold-roll-Cond (List Span) Inside (places_step listed) block_step layer

  abbrev pub inside_of : Block → Inside
  inside_of block = record { place = (out-Block block).span; within = places listed (out-Block block).cond }

  inside_is : (block : Block) → inside listed block ≡ inside_of block
  inside_is block = fold_out-Block (List Span) Inside (places_step listed) block_step block

  pub places_and : (parts : List Cond) → places listed (c.And parts) ≡ flat_map (places listed) parts
  places_and parts = places_out (c.And parts) (Cond-F.And parts) (c.rolls-And parts) ∙ flat_map-map (λ (part : List Span). part) (places listed) parts

  places_or : (parts : List Cond) → places listed (c.Or parts) ≡ flat_map (places listed) parts
  places_or parts = places_out (c.Or parts) (Cond-F.Or parts) (c.rolls-Or parts) ∙ flat_map-map (λ (part : List Span). part) (places listed) parts

  pub places_parts : (cond : Cond) (parts : List Cond) → (cond ≡ c.And parts) ⊎ (cond ≡ c.Or parts) → places listed cond ≡ flat_map (places listed) parts
  places_parts cond parts (inl is_and) = ap (places listed) is_and ∙ places_and parts
  places_parts cond parts (inr is_or) = ap (places listed) is_or ∙ places_or parts

  places_exists : (block : Block) (span : Span) → places listed (c.Exists block span) ≡ of_predicate listed span ++ places listed (out-Block block).cond
  places_exists block span =
      places_out (c.Exists block span) (Cond-F.Exists block span) (c.rolls-Exists block span)
      ∙ ap (λ (b : Inside). of_predicate listed span ++ b.within) (inside_is block)

  pub places_in : (t : Term) (block : Block) (item : Term) (negated : Bool) (span : Span) →
      places listed (c.In t block item negated span) ≡ of_in listed (negated && is_column item) span ++ places listed (out-Block block).cond
  places_in t block item negated span =
      places_out (c.In t block item negated span) (Cond-F.In t block item negated span) (c.rolls-In t block item negated span)
      ∙ ap (λ (b : Inside). of_in listed (negated && is_column item) span ++ b.within) (inside_is block)

  pub places_scalar : (op : Op) (left : Term) (block : Block) (item : Term) (span : Span) →
      places listed (c.Scalar op left block item span) ≡ of_scalar listed span (inside_of block)
  places_scalar op left block item span =
      places_out (c.Scalar op left block item span) (Cond-F.Scalar op left block item span) (c.rolls-Scalar op left block item span)
      ∙ ap (of_scalar listed span) (inside_is block)

-- ---- another list, by the tables of the levels outside, agrees where each kind of condition has it alike

module _ (listed : Listed) (spans : List (List ℕ) → Cond → List Span)
    (at_true : (tables : List (List ℕ)) → spans tables c.True ≡ [])
    (at_false : (tables : List (List ℕ)) → spans tables c.False ≡ [])
    (at_and : (tables : List (List ℕ)) (parts : List Cond) → spans tables (c.And parts) ≡ flat_map (spans tables) parts)
    (at_or : (tables : List (List ℕ)) (parts : List Cond) → spans tables (c.Or parts) ≡ flat_map (spans tables) parts)
    (at_not : (tables : List (List ℕ)) (part : Cond) → spans tables (c.Not part) ≡ spans tables part)
    (at_compare : (tables : List (List ℕ)) (op : Op) (left right : Term) (span : Span) → spans tables (c.Compare op left right span) ≡ of_predicate listed span)
    (at_is_null : (tables : List (List ℕ)) (t : Term) (negated : Bool) (span : Span) → spans tables (c.IsNull t negated span) ≡ of_predicate listed span)
    (at_exists : (tables : List (List ℕ)) (block : Block) (span : Span) →
    spans tables (c.Exists block span) ≡ of_predicate listed span ++ spans (tables ++ tables_of (out-Block block).entries ∷ []) (out-Block block).cond)
    (at_in : (tables : List (List ℕ)) (t : Term) (block : Block) (item : Term) (negated : Bool) (span : Span) →
    spans tables (c.In t block item negated span) ≡ of_in listed (negated && is_column item) span ++ spans (tables ++ tables_of (out-Block block).entries ∷ []) (out-Block block).cond)
    (at_scalar : (tables : List (List ℕ)) (op : Op) (left : Term) (block : Block) (item : Term) (span : Span) →
    spans tables (c.Scalar op left block item span)
    ≡ of_scalar listed span (record { place = (out-Block block).span; within = spans (tables ++ tables_of (out-Block block).entries ∷ []) (out-Block block).cond })) where
  abbrev Agrees : Cond → Type 0
  Agrees cond = (tables : List (List ℕ)) → spans tables cond ≡ places listed cond

  abbrev AgreesWithin : Block → Type 0
  AgreesWithin block = Agrees (out-Block block).cond

  abbrev Part : Type 0
  Part = (cond : Cond) × Agrees cond

  abbrev Within : Type 0
  Within = (block : Block) × AgreesWithin block

  abbrev layer_of : Cond-F Part Within → Cond-F Cond Block
  layer_of = map-Cond Part Within Cond Block (λ e. e.0) (λ e. e.0)

  parts_agree : (tables : List (List ℕ)) (parts : List Part) → flat_map (spans tables) (map (λ (e : Part). e.0) parts) ≡ flat_map (places listed) (map (λ (e : Part). e.0) parts)
  parts_agree tables [] = refl
  parts_agree tables (part ∷ parts) = ap₂ (λ (a b : List Span). a ++ b) (part.1 tables) (parts_agree tables parts)

  agree_layer : (y : Cond-F Part Within) → Agrees (roll-Cond (layer_of y))
  agree_layer Cond-F.True = subst Agrees (sym c.rolls-True) (λ tables. at_true tables ∙ sym (places_out listed c.True Cond-F.True c.rolls-True))
  agree_layer Cond-F.False = subst Agrees (sym c.rolls-False) (λ tables. at_false tables ∙ sym (places_out listed c.False Cond-F.False c.rolls-False))
  agree_layer (Cond-F.And parts) =
      let ps = map (λ (e : Part). e.0) parts in
      subst Agrees (sym (c.rolls-And ps)) (λ tables. at_and tables ps ∙ (parts_agree tables parts ∙ sym (places_and listed ps)))
  agree_layer (Cond-F.Or parts) =
      let ps = map (λ (e : Part). e.0) parts in
      subst Agrees (sym (c.rolls-Or ps)) (λ tables. at_or tables ps ∙ (parts_agree tables parts ∙ sym (places_or listed ps)))
  agree_layer (Cond-F.Not part) =
      subst Agrees (sym (c.rolls-Not part.0)) (λ tables. at_not tables part.0 ∙ (part.1 tables ∙ sym (places_out listed (c.Not part.0) (Cond-F.Not part.0) (c.rolls-Not part.0))))
  agree_layer (Cond-F.Compare op left right span) =
      subst Agrees (sym (c.rolls-Compare op left right span))
      (λ tables. at_compare tables op left right span ∙ sym (places_out listed (c.Compare op left right span) (Cond-F.Compare op left right span) (c.rolls-Compare op left right span)))
  agree_layer (Cond-F.IsNull t negated span) =
      subst Agrees (sym (c.rolls-IsNull t negated span))
      (λ tables. at_is_null tables t negated span ∙ sym (places_out listed (c.IsNull t negated span) (Cond-F.IsNull t negated span) (c.rolls-IsNull t negated span)))
  agree_layer (Cond-F.Exists block span) =
      subst Agrees (sym (c.rolls-Exists block.0 span))
      (λ tables. at_exists tables block.0 span ∙ (ap (λ (within : List Span). of_predicate listed span ++ within) (block.1 _) ∙ sym (places_exists listed block.0 span)))
  agree_layer (Cond-F.In t block item negated span) =
      subst Agrees (sym (c.rolls-In t block.0 item negated span))
      (λ tables. at_in tables t block.0 item negated span
      ∙ (ap (λ (within : List Span). of_in listed (negated && is_column item) span ++ within) (block.1 _) ∙ sym (places_in listed t block.0 item negated span)))
  agree_layer (Cond-F.Scalar op left block item span) =
      subst Agrees (sym (c.rolls-Scalar op left block.0 item span))
      (λ tables. at_scalar tables op left block.0 item span
      ∙ (ap (λ (within : List Span). of_scalar listed span (record { place = (out-Block block.0).span; within = within })) (block.1 _) ∙ sym (places_scalar listed op left block.0 item span)))

  agree : (cond : Cond) → Agrees cond
  agree = ind-Cond Agrees AgreesWithin (λ x y is. subst (λ z. Agrees (roll-Cond z)) is (agree_layer y)) (λ x y is. subst (λ z. AgreesWithin (roll-Block z)) is y.cond.1)

-- ---- the three lists

places_each : (f : Cond → List Subquery) (parts : List Cond) → subquery_places (flat_map f parts) ≡ flat_map (λ part. subquery_places (f part)) parts
places_each f [] = refl
places_each f (part ∷ parts) = map-append (λ (s : Subquery). s.place) (f part) (flat_map f parts) ∙ ap (λ (more : List Span). subquery_places (f part) ++ more) (places_each f parts)

predicates_agree : (cond : Cond) → predicates cond ≡ places Predicates cond
predicates_agree cond =
    agree Predicates (λ tables cond. predicates cond) (λ tables. predicates_true) (λ tables. predicates_false)
    (λ tables. predicates_and) (λ tables. predicates_or) (λ tables. predicates_not) (λ tables. predicates_compare) (λ tables. predicates_is_null)
    (λ tables. predicates_exists) (λ tables. predicates_in) (λ tables. predicates_scalar) cond []

abbrev scalar_places : List (List ℕ) → Cond → List Span
scalar_places tables cond = subquery_places (scalar_subqueries cond tables)

scalars_agree : (cond : Cond) (tables : List (List ℕ)) → scalar_places tables cond ≡ places Scalars cond
scalars_agree =
    agree Scalars scalar_places (λ tables. ap subquery_places (scalars_true tables)) (λ tables. ap subquery_places (scalars_false tables))
    (λ tables parts. ap subquery_places (scalars_and tables parts) ∙ places_each (λ part. scalar_subqueries part tables) parts)
    (λ tables parts. ap subquery_places (scalars_or tables parts) ∙ places_each (λ part. scalar_subqueries part tables) parts)
    (λ tables part. ap subquery_places (scalars_not tables part))
    (λ tables op left right span. ap subquery_places (scalars_compare tables op left right span))
    (λ tables t negated span. ap subquery_places (scalars_is_null tables t negated span))
    (λ tables block span. ap subquery_places (scalars_exists tables block span))
    (λ tables t block item negated span. ap subquery_places (scalars_in tables t block item negated span))
    (λ tables op left block item span.
    ap subquery_places (scalars_scalar tables op left block item span)
    ∙ map-append (λ (s : Subquery). s.place) (scalar_subqueries (out-Block block).cond (tables ++ tables_of (out-Block block).entries ∷ [])) (subquery tables block item (out-Block block).span ∷ []))

abbrev not_in_places : List (List ℕ) → Cond → List Span
not_in_places tables cond = subquery_places (not_in_subqueries cond tables)

one_place : (counts : Bool) (s : Subquery) → subquery_places (if counts then s ∷ [] else []) ≡ (if counts then s.place ∷ [] else [])
one_place true s = refl
one_place false s = refl

not_ins_agree : (cond : Cond) (tables : List (List ℕ)) → not_in_places tables cond ≡ places NotIns cond
not_ins_agree =
    agree NotIns not_in_places (λ tables. ap subquery_places (not_ins_true tables)) (λ tables. ap subquery_places (not_ins_false tables))
    (λ tables parts. ap subquery_places (not_ins_and tables parts) ∙ places_each (λ part. not_in_subqueries part tables) parts)
    (λ tables parts. ap subquery_places (not_ins_or tables parts) ∙ places_each (λ part. not_in_subqueries part tables) parts)
    (λ tables part. ap subquery_places (not_ins_not tables part))
    (λ tables op left right span. ap subquery_places (not_ins_compare tables op left right span))
    (λ tables t negated span. ap subquery_places (not_ins_is_null tables t negated span))
    (λ tables block span. ap subquery_places (not_ins_exists tables block span))
    (λ tables t block item negated span.
    let within = tables ++ tables_of (out-Block block).entries ∷ [] in
    let own = subquery tables block item span in
    ap subquery_places (not_ins_in tables t block item negated span)
    ∙ (map-append (λ (s : Subquery). s.place) (if negated && is_column item then own ∷ [] else []) (not_in_subqueries (out-Block block).cond within)
    ∙ ap (λ (first : List Span). first ++ not_in_places within (out-Block block).cond) (one_place (negated && is_column item) own)))
    (λ tables op left block item span. ap subquery_places (not_ins_scalar tables op left block item span))

-- of a query
pub scalars_listed : (query : Query) → places Scalars (main_condition query) ≡ subquery_places (scalars_of query)
scalars_listed query = sym (scalars_agree (main_condition query) (main_tables query))

pub predicates_listed : (query : Query) → places Predicates (main_condition query) ≡ predicates (main_condition query)
predicates_listed query = sym (predicates_agree (main_condition query))

pub not_ins_listed : (query : Query) → places NotIns (main_condition query) ≡ subquery_places (not_ins_of query)
not_ins_listed query = sym (not_ins_agree (main_condition query) (main_tables query))

pub ruleset all_listed = (scalars_listed, predicates_listed, not_ins_listed)

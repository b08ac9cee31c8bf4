-- Which conditions may be read where no subquery may stand, part by part.
use Rattle.std.proofs.Common.{◌≡◌, refl, ap, sym, ◌∙◌, Bool, true, false, ◌&&◌, List, [], ◌∷◌, map, ◌⊎◌, inl, inr}
use Rattle.std.specs.List.{list_all}
use Rattle.lint_base.proofs.Lists.{and_true, both_left, both_right}
use Rattle.lint_base.specs.declared.place.Span.{Span}
use Rattle.lint_tables.specs.declared.op.Op.{Op}
use Rattle.sql_tree.specs.declared.term.TermTree.{TermTree}
use Rattle.sql_tree.specs.declared.select.SelectTree.{SelectTree}
use Rattle.sql_tree.specs.declared.select.CondTree.{CondTree, fold-roll-CondTree}
use Rattle.sql_tree.specs.declared.select.CondTree.TheOpen.{CondTree-F}
use Rattle.sql_tree.specs.declared.select.CondTree.TheVariants.{And, Or, Not, Scalar, InSelect, Exists, rolls-And, rolls-Or, rolls-Not, rolls-Scalar, rolls-InSelect, rolls-Exists}
use Rattle.sql_parse.specs.grammar.Selects.{alone_or}
use Rattle.sql_parse.specs.grammar.Tables.{is_flat, is_flat_step}

all_flat : List CondTree → Bool
all_flat trees = list_all (λ part. part) (map is_flat trees)

-- where no subquery may stand the condition has none
abbrev pub MayRead : Bool → CondTree → Type 0
MayRead flat tree = (flat ≡ false) ⊎ (is_flat tree ≡ true)

pub MayReadAll : Bool → List CondTree → Type 0
MayReadAll flat trees = (flat ≡ false) ⊎ (all_flat trees ≡ true)

flat_and : (trees : List CondTree) → is_flat (And trees) ≡ all_flat trees
unfolding all_flat
flat_and trees = ap is_flat (sym (rolls-And trees)) ∙ fold-roll-CondTree Bool Bool Bool is_flat_step (λ entry. false) (λ select. false) (CondTree-F.And trees)

flat_or : (trees : List CondTree) → is_flat (Or trees) ≡ all_flat trees
unfolding all_flat
flat_or trees = ap is_flat (sym (rolls-Or trees)) ∙ fold-roll-CondTree Bool Bool Bool is_flat_step (λ entry. false) (λ select. false) (CondTree-F.Or trees)

flat_not : (tree : CondTree) → is_flat (Not tree) ≡ is_flat tree
flat_not tree = ap is_flat (sym (rolls-Not tree)) ∙ fold-roll-CondTree Bool Bool Bool is_flat_step (λ entry. false) (λ select. false) (CondTree-F.Not tree)

flat_exists : (select : SelectTree) (span : Span) → is_flat (Exists select span) ≡ false
flat_exists select span =
    ap is_flat (sym (rolls-Exists select span)) ∙ fold-roll-CondTree Bool Bool Bool is_flat_step (λ entry. false) (λ select. false) (CondTree-F.Exists select span)

flat_scalar : (op : Op) (left : TermTree) (select : SelectTree) (span : Span) → is_flat (Scalar op left select span) ≡ false
flat_scalar op left select span =
    ap is_flat (sym (rolls-Scalar op left select span)) ∙ fold-roll-CondTree Bool Bool Bool is_flat_step (λ entry. false) (λ select. false) (CondTree-F.Scalar op left select span)

flat_in : (term : TermTree) (select : SelectTree) (negated : Bool) (span : Span) → is_flat (InSelect term select negated span) ≡ false
flat_in term select negated span =
    ap is_flat (sym (rolls-InSelect term select negated span)) ∙ fold-roll-CondTree Bool Bool Bool is_flat_step (λ entry. false) (λ select. false) (CondTree-F.InSelect term select negated span)

all_alone : (join : List CondTree → CondTree) → ((trees : List CondTree) → is_flat (join trees) ≡ all_flat trees) → (parts : List CondTree) → is_flat (alone_or join parts) ≡ all_flat parts
unfolding all_flat
all_alone join e [] = e []
all_alone join e (part ∷ []) = sym (and_true (is_flat part))
all_alone join e (part ∷ next ∷ parts) = e (part ∷ next ∷ parts)

all_or : (flat : Bool) (join : List CondTree → CondTree) → ((trees : List CondTree) → is_flat (join trees) ≡ all_flat trees) → (parts : List CondTree) → MayRead flat (alone_or join parts) → MayReadAll flat parts
unfolding MayReadAll
all_or flat join e parts (inl f) = inl f
all_or flat join e parts (inr f) = inr (sym (all_alone join e parts) ∙ f)

-- the parts of what is joined
pub may_and : (flat : Bool) (parts : List CondTree) → MayRead flat (alone_or And parts) → MayReadAll flat parts
may_and flat parts m = all_or flat And flat_and parts m

pub may_or : (flat : Bool) (parts : List CondTree) → MayRead flat (alone_or Or parts) → MayReadAll flat parts
may_or flat parts m = all_or flat Or flat_or parts m

pub may_first : (flat : Bool) (part : CondTree) (parts : List CondTree) → MayReadAll flat (part ∷ parts) → MayRead flat part
unfolding MayReadAll all_flat
may_first flat part parts (inl f) = inl f
may_first flat part parts (inr f) = inr (both_left (is_flat part) (all_flat parts) f)

pub may_others : (flat : Bool) (part : CondTree) (parts : List CondTree) → MayReadAll flat (part ∷ parts) → MayReadAll flat parts
unfolding MayReadAll all_flat
may_others flat part parts (inl f) = inl f
may_others flat part parts (inr f) = inr (both_right (is_flat part) (all_flat parts) f)

pub may_not : (flat : Bool) (tree : CondTree) → MayRead flat (Not tree) → MayRead flat tree
may_not flat tree (inl f) = inl f
may_not flat tree (inr f) = inr (sym (flat_not tree) ∙ f)

-- a subquery stands only where one may
no_flat : (flat : Bool) (tree : CondTree) → is_flat tree ≡ false → MayRead flat tree → flat ≡ false
no_flat flat tree e (inl f) = f
no_flat flat tree e (inr f) = cc

pub may_exists : (flat : Bool) (select : SelectTree) (span : Span) → MayRead flat (Exists select span) → flat ≡ false
may_exists flat select span m = no_flat flat (Exists select span) (flat_exists select span) m

pub may_scalar : (flat : Bool) (op : Op) (left : TermTree) (select : SelectTree) (span : Span) → MayRead flat (Scalar op left select span) → flat ≡ false
may_scalar flat op left select span m = no_flat flat (Scalar op left select span) (flat_scalar op left select span) m

pub may_in : (flat : Bool) (term : TermTree) (select : SelectTree) (negated : Bool) (span : Span) → MayRead flat (InSelect term select negated span) → flat ≡ false
may_in flat term select negated span m = no_flat flat (InSelect term select negated span) (flat_in term select negated span) m

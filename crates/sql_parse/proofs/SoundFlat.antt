-- Which conditions have no subquery.
use Rattle.std.proofs.Common.{◌≡◌, refl, ap, sym, ◌∙◌, Bool, true, false, List, [], ◌∷◌, map}
use Rattle.std.specs.List.{list_all}
use Rattle.lint_base.specs.declared.place.Span.{Span}
use Rattle.lint_tables.specs.declared.op.Op.{Op}
use Rattle.sql_tree.specs.declared.term.TermTree.{TermTree}
use Rattle.sql_tree.specs.declared.select.CondTree.{CondTree, fold-roll-CondTree}
use Rattle.sql_tree.specs.declared.select.CondTree.TheOpen.{CondTree-F}
use Rattle.sql_tree.specs.declared.select.CondTree.TheVariants.{And, Or, Not, Compare, IsNull, Between, InList, rolls-And, rolls-Or, rolls-Not, rolls-Compare, rolls-IsNull, rolls-Between, rolls-InList}
use Rattle.sql_parse.specs.grammar.Selects.{alone_or}
use Rattle.sql_parse.specs.grammar.Tables.{is_flat, is_flat_step}

pub flat_compare : (op : Op) (left right : TermTree) (span : Span) → is_flat (Compare op left right span) ≡ true
flat_compare op left right span = ap is_flat (sym (rolls-Compare op left right span)) ∙ fold-roll-CondTree Bool Bool Bool is_flat_step (λ entry. false) (λ select. false) (CondTree-F.Compare op left right span)

pub flat_is_null : (term : TermTree) (negated : Bool) (span : Span) → is_flat (IsNull term negated span) ≡ true
flat_is_null term negated span = ap is_flat (sym (rolls-IsNull term negated span)) ∙ fold-roll-CondTree Bool Bool Bool is_flat_step (λ entry. false) (λ select. false) (CondTree-F.IsNull term negated span)

pub flat_between : (term low high : TermTree) (negated : Bool) (span : Span) → is_flat (Between term low high negated span) ≡ true
flat_between term low high negated span =
    ap is_flat (sym (rolls-Between term low high negated span)) ∙ fold-roll-CondTree Bool Bool Bool is_flat_step (λ entry. false) (λ select. false) (CondTree-F.Between term low high negated span)

pub flat_in_list : (term : TermTree) (values : List TermTree) (negated : Bool) (span : Span) → is_flat (InList term values negated span) ≡ true
flat_in_list term values negated span =
    ap is_flat (sym (rolls-InList term values negated span)) ∙ fold-roll-CondTree Bool Bool Bool is_flat_step (λ entry. false) (λ select. false) (CondTree-F.InList term values negated span)

pub flat_not : (part : CondTree) → is_flat (Not part) ≡ is_flat part
flat_not part = ap is_flat (sym (rolls-Not part)) ∙ fold-roll-CondTree Bool Bool Bool is_flat_step (λ entry. false) (λ select. false) (CondTree-F.Not part)

abbrev pub AllFlat : List CondTree → Type 0
AllFlat parts = list_all (λ part. part) (map is_flat parts) ≡ true

pub flat_and : (parts : List CondTree) → AllFlat parts → is_flat (And parts) ≡ true
flat_and parts h = ap is_flat (sym (rolls-And parts)) ∙ fold-roll-CondTree Bool Bool Bool is_flat_step (λ entry. false) (λ select. false) (CondTree-F.And parts) ∙ h

pub flat_or : (parts : List CondTree) → AllFlat parts → is_flat (Or parts) ≡ true
flat_or parts h = ap is_flat (sym (rolls-Or parts)) ∙ fold-roll-CondTree Bool Bool Bool is_flat_step (λ entry. false) (λ select. false) (CondTree-F.Or parts) ∙ h

pub more_flat : (part : CondTree) (parts : List CondTree) → is_flat part ≡ true → AllFlat parts → AllFlat (part ∷ parts)
more_flat part parts h t = rw (h, t) refl

first_flat : (part : CondTree) (parts : List CondTree) → AllFlat (part ∷ parts) → is_flat part ≡ true
first_flat part parts h = decided (is_flat part) refl h
  where
    decided : (b : Bool) → is_flat part ≡ b → list_all (λ other. other) (b ∷ map is_flat parts) ≡ true → b ≡ true
    decided true e t = refl
    decided false e t = t

-- parts that are joined, and one alone
pub flat_alone : (join : List CondTree → CondTree) → ((parts : List CondTree) → AllFlat parts → is_flat (join parts) ≡ true) → (parts : List CondTree) → AllFlat parts → is_flat (alone_or join parts) ≡ true
flat_alone join g [] h = g [] h
flat_alone join g (part ∷ []) h = first_flat part [] h
flat_alone join g (part ∷ next ∷ parts) h = g (part ∷ next ∷ parts) h

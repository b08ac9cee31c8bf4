-- Conditions and SELECTs are read whole: by induction over their derivations. What is nested is shorter than what
-- holds it, so that a depth of the number of tokens is enough.
use Rattle.std.proofs.Common.{ℕ, zero, suc, ◌+◌, ◌≤◌, ◌≡◌, refl, ap, ◌∙◌, Bool, true, false, List, [], ◌∷◌, ◌++◌, length, Option, Some, None, lit≤, arith, inl, inr}
use Rattle.std.proofs.lemmas.List.{append_assoc, length-append}
use Rattle.lint_base.specs.declared.place.Span.{Span}
use Rattle.lint_tables.specs.declared.op.Op.{Op}
use Rattle.sql_lex.specs.declared.token.Sign.TheVariants.{Open, Close, Comma, Compare as Operator}
use Rattle.sql_lex.specs.declared.token.Token.{Token}
use Rattle.sql_tree.specs.declared.term.NameTree.{NameTree}
use Rattle.sql_tree.specs.declared.term.TermTree.{TermTree}
use Rattle.sql_tree.specs.declared.select.ItemTree.{ItemTree}
use Rattle.sql_tree.specs.declared.select.EntryTree.{EntryTree}
use Rattle.sql_tree.specs.declared.select.SelectTree.{SelectTree, out-SelectTree, out-roll-SelectTree}
use Rattle.sql_tree.specs.declared.select.CondTree.{CondTree}
use Rattle.sql_tree.specs.declared.select.CondTree.TheVariants.{And, Or, Not, Exists, Scalar, InSelect}
use Rattle.sql_parse.specs.grammar.Words.{word, sign, span_of, MayBe, AND, CROSS, EXISTS, FROM, IN, INNER, JOIN, NOT, ON, OR, SELECT, WHERE}
use Rattle.sql_parse.specs.grammar.Terms.{SpellsTerm}
use Rattle.sql_parse.specs.grammar.Predicates.{SpellsPredicate, SpellsNot}
use Rattle.sql_parse.specs.grammar.Items.{SpellsQuantifier, SpellsItems, SpellsEntry}
use Rattle.sql_parse.specs.grammar.Selects as c
use Rattle.sql_parse.specs.grammar.Selects.{alone_or, select_tree, entry_tree, Level, Disjunction, Conjunction, Factor, Primary, SpellsCond, SpellsJoined, SpellsSubquery, SpellsSelect, SpellsWhere, SpellsGroups, SpellsGroup, SpellsJoins}
use Rattle.sql_parse.specs.inner.readers.Tokens.{Read, found, is_word, is_open, at_head}
use Rattle.sql_parse.specs.inner.readers.Predicates.{read_predicate}
use Rattle.sql_parse.specs.inner.readers.Selects.{Parts, placed, read_group, read_where, read_select, read_subquery, read_factor, read_conjunction, read_cond}
use Rattle.sql_parse.proofs.CompleteTokens.{kind_rank, place_rank, rank, no_comma, no_word}
use Rattle.sql_parse.proofs.CompleteLists.{Separated, separated_read, separated_last, separated_more}
use Rattle.sql_parse.proofs.CompletePredicates.{Heads, begun_heads, predicate_heads, predicate_read}
use Rattle.sql_parse.proofs.CompleteItems.{MayHave, items_quantified, items_read, entry_read}
use Rattle.sql_parse.proofs.CompleteFlat.{MayRead, MayReadAll, may_and, may_or, may_first, may_others, may_not, may_exists, may_scalar, may_in}
use Rattle.sql_parse.proofs.CompleteConditions.{level_rank, read_level, same_word, scalar_read, in_select_read, parenthesized_step, exists_step, predicate_primary, plain_step, negation_step, conjunction_step, disjunction_step}
use Rattle.sql_parse.proofs.CompleteFrom.{Joined, no_join_step, cross_step, inner_step, group_step, Grouped, last_group_step, more_groups_step, groups_step, everything_step, filtered_step, select_step, subquery_step}

-- what stands first
joins_rank : (first : ℕ) (entries : List EntryTree) (tokens : List Token) → SpellsJoins first entries tokens → (rest : List Token) → 6 ≤ rank rest → 5 ≤ rank (tokens ++ rest)
unfolding rank kind_rank place_rank
joins_rank first entries tokens (c.no_join e whole) rest h = rw whole (omega arith)
joins_rank first entries tokens (c.inner_join table alias tree others inner_word join_at own on_at condition more e whole (inl w) s t u) rest h = rw (whole, w) (lit≤ tt)
joins_rank first entries tokens (c.inner_join table alias tree others inner_word join_at own on_at condition more e whole (inr w) s t u) rest h = rw (whole, w.1) (lit≤ tt)
joins_rank first entries tokens (c.cross_join table alias others cross_at join_at own more e whole s t) rest h = rw whole (lit≤ tt)

where_rank : (filter : Option CondTree) (tokens : List Token) → SpellsWhere filter tokens → (rest : List Token) → 8 ≤ rank rest → 7 ≤ rank (tokens ++ rest)
unfolding rank kind_rank place_rank
where_rank filter tokens (c.everything e whole) rest h = rw whole (omega arith)
where_rank filter tokens (c.filtered tree where_at own e whole s) rest h = rw whole (lit≤ tt)

select_head : (span : Span) (select : SelectTree) (tokens : List Token) → SpellsSelect span select tokens → (rest : List Token) → at_head (is_word SELECT) (tokens ++ rest) ≡ true
unfolding at_head is_word
select_head span select tokens (c.select distinct items entries filter select_at quantifier listed from_at groups condition e whole s t u v) rest = rw whole refl

Begins : List Token → Type 0
Begins tokens = (open_at : Span) × (inside : List Token) × (tokens ≡ sign Open open_at ∷ inside) × ((rest : List Token) → at_head (is_word SELECT) (inside ++ rest) ≡ true)

subquery_begins : (select : SelectTree) (tokens : List Token) → SpellsSubquery select tokens → Begins tokens
unfolding Begins
subquery_begins select tokens (c.subquery open_at own close_at whole s) =
    (open_at, own ++ sign Close close_at ∷ [], whole, λ rest. rw (append_assoc own (sign Close close_at ∷ []) rest) (select_head (span_of tokens) select own s (sign Close close_at ∷ rest)))

subquery_open : (tokens : List Token) → Begins tokens → (rest : List Token) → at_head is_open (tokens ++ rest) ≡ true
unfolding Begins at_head is_open
subquery_open tokens b rest = rw b.2 refl

primary_head : (tree : CondTree) (tokens : List Token) → SpellsCond Primary tree tokens → (rest : List Token) → at_head (is_word NOT) (tokens ++ rest) ≡ false
unfolding Heads at_head is_word
primary_head tree tokens (c.parenthesized open_at own close_at whole s) rest = rw whole refl
primary_head tree tokens (c.exists select exists_at inner e whole s) rest = rw whole refl
primary_head tree tokens (c.scalar op left select own op_at inner e whole s t u) rest =
    (begun_heads (sign (Operator op) op_at ∷ inner) whole s rest).1
primary_head tree tokens (c.in_select term select negated own not_word in_at inner e whole s t u) rest =
    (begun_heads (not_word ++ word IN in_at ∷ inner) whole s rest).1
primary_head tree tokens (c.predicate s) rest = (predicate_heads tree tokens s rest).1

-- the reading of each kind of derivation
abbrev pub ReadsCond : Level → CondTree → List Token → Type 0
ReadsCond level tree tokens =
    (flat : Bool) (depth : ℕ) → MayRead flat tree → length tokens ≤ depth → (rest : List Token) → level_rank level ≤ rank rest →
    read_level flat (read_cond flat depth) level (tokens ++ rest) ≡ found tree rest

abbrev ReadsJoined : Level → ℕ → List CondTree → List Token → Type 0
ReadsJoined level joint parts tokens =
    level_rank level ≤ place_rank joint → (flat : Bool) (depth : ℕ) → MayReadAll flat parts → length tokens ≤ depth → (rest : List Token) → level_rank level ≤ rank rest → at_head (is_word joint) rest ≡ false →
    Separated (is_word joint) (read_level flat (read_cond flat depth) level) parts tokens rest

abbrev ReadsSubquery : SelectTree → List Token → Type 0
ReadsSubquery select tokens =
    (scalar : Bool) (depth : ℕ) → MayHave scalar (out-SelectTree select).distinct → length tokens ≤ depth → (rest : List Token) →
    read_subquery false (read_cond false depth) scalar (tokens ++ rest) ≡ found select rest

abbrev pub ReadsSelect : Span → SelectTree → List Token → Type 0
ReadsSelect span tree tokens =
    (parts : Parts) × (tree ≡ placed parts span)
    × ((scalar : Bool) (depth : ℕ) → MayHave scalar parts.0 → length tokens ≤ depth → (rest : List Token) → 8 ≤ rank rest → read_select false (read_cond false depth) scalar (tokens ++ rest) ≡ found parts rest)

abbrev ReadsWhere : Option CondTree → List Token → Type 0
ReadsWhere filter tokens = (depth : ℕ) → length tokens ≤ depth → (rest : List Token) → 8 ≤ rank rest → read_where false (read_cond false depth) (tokens ++ rest) ≡ found filter rest

abbrev ReadsGroups : ℕ → List EntryTree → List Token → Type 0
ReadsGroups first entries tokens = (depth : ℕ) → length tokens ≤ depth → (rest : List Token) → 7 ≤ rank rest → Grouped false (read_cond false depth) first entries tokens rest

abbrev ReadsGroup : ℕ → List EntryTree → List Token → Type 0
ReadsGroup first entries tokens = (depth : ℕ) → length tokens ≤ depth → (rest : List Token) → 6 ≤ rank rest → read_group false (read_cond false depth) first (tokens ++ rest) ≡ found entries rest

abbrev ReadsJoins : ℕ → List EntryTree → List Token → Type 0
ReadsJoins first entries tokens = (depth : ℕ) → length tokens ≤ depth → (rest : List Token) → 6 ≤ rank rest → Joined false (read_cond false depth) first entries tokens rest

-- a whole condition takes one step of the depth
pub whole_cond : (tree : CondTree) (tokens : List Token) → ReadsCond Disjunction tree tokens → (flat : Bool) (depth : ℕ) → MayRead flat tree → suc (length tokens) ≤ depth → (rest : List Token) → 4 ≤ rank rest →
    read_cond flat depth (tokens ++ rest) ≡ found tree rest
unfolding read_cond read_level level_rank
whole_cond tree tokens reads flat zero m l rest r = absurd (omega arith)
whole_cond tree tokens reads flat (suc depth) m l rest r = reads flat depth m (omega arith) rest r

no_and : (rest : List Token) → 3 ≤ rank rest → at_head (is_word AND) rest ≡ false
unfolding place_rank
no_and rest h = no_word AND rest h

no_or : (rest : List Token) → 4 ≤ rank rest → at_head (is_word OR) rest ≡ false
unfolding place_rank
no_or rest h = no_word OR rest h

disjunction_case : (tree : CondTree) (parts : List CondTree) (tokens : List Token) → tree ≡ alone_or Or parts → ReadsJoined Conjunction OR parts tokens → ReadsCond Disjunction tree tokens
unfolding read_level level_rank place_rank
disjunction_case tree parts tokens e joined flat depth m l rest r =
    let all : MayReadAll flat parts = may_or flat parts (rw e at m) in
    rw e (disjunction_step flat (read_cond flat depth) parts (tokens ++ rest) rest
    (separated_read (is_word OR) (read_conjunction flat (read_cond flat depth)) parts tokens rest (joined (lit≤ tt) flat depth all l rest (omega arith) (no_or rest r))))

conjunction_case : (tree : CondTree) (parts : List CondTree) (tokens : List Token) → tree ≡ alone_or And parts → ReadsJoined Factor AND parts tokens → ReadsCond Conjunction tree tokens
unfolding read_level level_rank place_rank
conjunction_case tree parts tokens e joined flat depth m l rest r =
    let all : MayReadAll flat parts = may_and flat parts (rw e at m) in
    rw e (conjunction_step flat (read_cond flat depth) parts (tokens ++ rest) rest
    (separated_read (is_word AND) (read_factor flat (read_cond flat depth)) parts tokens rest (joined (lit≤ tt) flat depth all l rest (omega arith) (no_and rest r))))

last_case : (level : Level) (joint : ℕ) (parts : List CondTree) (tokens : List Token) (part : CondTree) → parts ≡ part ∷ [] → ReadsCond level part tokens → ReadsJoined level joint parts tokens
last_case level joint parts tokens part e reads small flat depth m l rest r f =
    let first : MayRead flat part = may_first flat part [] (rw e at m) in
    rw e (separated_last (is_word joint) (read_level flat (read_cond flat depth) level) part tokens rest (reads flat depth first l rest r) f)

joint_rank : (level : Level) (joint : ℕ) (at : Span) (rest : List Token) → level_rank level ≤ place_rank joint → level_rank level ≤ rank (word joint at ∷ rest)
unfolding rank kind_rank
joint_rank level joint at rest h = h

joint_is : (joint : ℕ) (at : Span) → is_word joint (word joint at).kind ≡ true
unfolding is_word
joint_is joint at = same_word joint

more_case : (level : Level) (joint : ℕ) (parts : List CondTree) (tokens : List Token) (part : CondTree) (others : List CondTree) (own : List Token) (joint_at : Span) (more : List Token) →
    parts ≡ part ∷ others → tokens ≡ own ++ word joint joint_at ∷ more → ReadsCond level part own → ReadsJoined level joint others more → ReadsJoined level joint parts tokens
more_case level joint parts tokens part others own joint_at more e whole reads joined small flat depth m l rest r f =
    let all : MayReadAll flat (part ∷ others) = rw e at m in
    let fits : length (own ++ word joint joint_at ∷ more) ≤ depth = rw whole at l in
    let size = length-append own (word joint joint_at ∷ more) in
    rw (e, whole)
    (separated_more (is_word joint) (read_level flat (read_cond flat depth) level) (word joint joint_at) part others own more rest (joint_is joint joint_at)
    (reads flat depth (may_first flat part others all) (omega arith) (word joint joint_at ∷ more ++ rest) (joint_rank level joint joint_at (more ++ rest) small))
    (joined small flat depth (may_others flat part others all) (omega arith) rest r f))

plain_case : (tree : CondTree) (tokens : List Token) → SpellsCond Primary tree tokens → ReadsCond Primary tree tokens → ReadsCond Factor tree tokens
unfolding read_level level_rank
plain_case tree tokens s reads flat depth m l rest r = plain_step flat (read_cond flat depth) (tokens ++ rest) (primary_head tree tokens s rest) ∙ reads flat depth m l rest r

negation_case : (tree inner : CondTree) (not_at : Span) (tokens own : List Token) → tree ≡ Not inner → tokens ≡ word NOT not_at ∷ own → ReadsCond Primary inner own → ReadsCond Factor tree tokens
unfolding read_level level_rank
negation_case tree inner not_at tokens own e whole reads flat depth m l rest r =
    let fits : length (word NOT not_at ∷ own) ≤ depth = rw whole at l in
    let may : MayRead flat (Not inner) = rw e at m in
    rw (e, whole) (negation_step flat (read_cond flat depth) inner not_at own rest (reads flat depth (may_not flat inner may) (omega arith) rest r))

pub close_rank : (n : ℕ) → n ≤ 9 → (at : Span) (rest : List Token) → n ≤ rank (sign Close at ∷ rest)
unfolding rank kind_rank
close_rank n h at rest = h

parenthesized_case : (tree : CondTree) (open_at close_at : Span) (tokens own : List Token) → tokens ≡ sign Open open_at ∷ own ++ sign Close close_at ∷ [] →
    ReadsCond Disjunction tree own → ReadsCond Primary tree tokens
unfolding read_level level_rank
parenthesized_case tree open_at close_at tokens own whole reads flat depth m l rest r =
    let fits : length (sign Open open_at ∷ own ++ sign Close close_at ∷ []) ≤ depth = rw whole at l in
    let size = length-append own (sign Close close_at ∷ []) in
    rw whole (parenthesized_step flat (read_cond flat depth) tree open_at close_at own rest
    (whole_cond tree own reads flat depth m (omega arith) (sign Close close_at ∷ rest) (close_rank 4 (lit≤ tt) close_at rest)))

exists_case : (tree : CondTree) (select : SelectTree) (exists_at : Span) (tokens inner : List Token) → tree ≡ Exists select (span_of tokens) → tokens ≡ word EXISTS exists_at ∷ inner →
    ReadsSubquery select inner → ReadsCond Primary tree tokens
unfolding read_level level_rank
exists_case tree select exists_at tokens inner e whole reads flat depth m l rest r =
    let fits : length (word EXISTS exists_at ∷ inner) ≤ depth = rw whole at l in
    let may : MayRead flat (Exists select (span_of tokens)) = rw e at m in
    let full : flat ≡ false = may_exists flat select (span_of tokens) may in
    rw (full, e, whole) (exists_step false (read_cond false depth) select exists_at inner rest (reads false depth (inl refl) (omega arith) rest))

scalar_case : (tree : CondTree) (op : Op) (left : TermTree) (select : SelectTree) (tokens own : List Token) (op_at : Span) (inner : List Token) →
    tree ≡ Scalar op left select (span_of tokens) → tokens ≡ own ++ sign (Operator op) op_at ∷ inner →
    SpellsTerm left own → SpellsSubquery select inner → (out-SelectTree select).distinct ≡ None → ReadsSubquery select inner → ReadsCond Primary tree tokens
unfolding read_level level_rank
scalar_case tree op left select tokens own op_at inner e whole s t u reads flat depth m l rest r =
    let fits : length (own ++ sign (Operator op) op_at ∷ inner) ≤ depth = rw whole at l in
    let size = length-append own (sign (Operator op) op_at ∷ inner) in
    let may : MayRead flat (Scalar op left select (span_of tokens)) = rw e at m in
    let full : flat ≡ false = may_scalar flat op left select (span_of tokens) may in
    rw (full, e)
    (predicate_primary false (read_cond false depth) (tokens ++ rest) (begun_heads (sign (Operator op) op_at ∷ inner) whole s rest)
    ∙ scalar_read (read_subquery false (read_cond false depth)) op left select tokens own op_at inner rest whole s (subquery_open inner (subquery_begins select inner t) rest)
    (reads true depth (inr u) (omega arith) rest))

in_select_begun : (sub : Bool → List Token → Read SelectTree) (term : TermTree) (select : SelectTree) (negated : Bool) (tokens own not_word : List Token) (in_at : Span) (inner rest : List Token) →
    tokens ≡ own ++ (not_word ++ word IN in_at ∷ inner) → SpellsTerm term own → SpellsNot negated not_word → (b : Begins inner) → sub false (inner ++ rest) ≡ found select rest →
    read_predicate sub (tokens ++ rest) ≡ found (InSelect term select negated (span_of tokens)) rest
unfolding Begins
in_select_begun sub term select negated tokens own not_word in_at inner rest whole s n b e =
    in_select_read sub term select negated tokens own not_word in_at b.0 b.1 rest (whole ∙ ap (λ ts. own ++ (not_word ++ word IN in_at ∷ ts)) b.2) s n (b.3 rest) (rw b.2 at e)

in_select_case : (tree : CondTree) (term : TermTree) (select : SelectTree) (negated : Bool) (tokens own not_word : List Token) (in_at : Span) (inner : List Token) →
    tree ≡ InSelect term select negated (span_of tokens) → tokens ≡ own ++ (not_word ++ word IN in_at ∷ inner) →
    SpellsTerm term own → SpellsNot negated not_word → SpellsSubquery select inner → ReadsSubquery select inner → ReadsCond Primary tree tokens
unfolding read_level level_rank
in_select_case tree term select negated tokens own not_word in_at inner e whole s n t reads flat depth m l rest r =
    let fits : length (own ++ (not_word ++ word IN in_at ∷ inner)) ≤ depth = rw whole at l in
    let size = length-append own (not_word ++ word IN in_at ∷ inner) in
    let tail_size = length-append not_word (word IN in_at ∷ inner) in
    let may : MayRead flat (InSelect term select negated (span_of tokens)) = rw e at m in
    let full : flat ≡ false = may_in flat term select negated (span_of tokens) may in
    rw (full, e)
    (predicate_primary false (read_cond false depth) (tokens ++ rest) (begun_heads (not_word ++ word IN in_at ∷ inner) whole s rest)
    ∙ in_select_begun (read_subquery false (read_cond false depth)) term select negated tokens own not_word in_at inner rest whole s n (subquery_begins select inner t)
    (reads false depth (inl refl) (omega arith) rest))

predicate_case : (tree : CondTree) (tokens : List Token) → SpellsPredicate tree tokens → ReadsCond Primary tree tokens
unfolding read_level level_rank
predicate_case tree tokens s flat depth m l rest r =
    predicate_primary flat (read_cond flat depth) (tokens ++ rest) (predicate_heads tree tokens s rest) ∙ predicate_read (read_subquery flat (read_cond flat depth)) tree tokens s rest r

distinct_of : (parts : Parts) (span : Span) (select : SelectTree) → select ≡ placed parts span → (out-SelectTree select).distinct ≡ parts.0
distinct_of parts span select e = rw e (ap (λ layer. layer.distinct) (out-roll-SelectTree _))

subquery_case : (select : SelectTree) (open_at close_at : Span) (tokens own : List Token) → tokens ≡ sign Open open_at ∷ own ++ sign Close close_at ∷ [] →
    ReadsSelect (span_of tokens) select own → ReadsSubquery select tokens
subquery_case select open_at close_at tokens own whole reads scalar depth m l rest =
    let fits : length (sign Open open_at ∷ own ++ sign Close close_at ∷ []) ≤ depth = rw whole at l in
    let size = length-append own (sign Close close_at ∷ []) in
    let may : MayHave scalar reads.0.0 = rw (distinct_of reads.0 (span_of tokens) select reads.1) at m in
    rw reads.1 (subquery_step (read_cond false depth) scalar reads.0 tokens open_at close_at own rest whole
    (reads.2 scalar depth may (omega arith) (sign Close close_at ∷ rest) (close_rank 8 (lit≤ tt) close_at rest)))

no_where : (rest : List Token) → 8 ≤ rank rest → at_head (is_word WHERE) rest ≡ false
unfolding place_rank
no_where rest h = no_word WHERE rest h

everything_case : (filter : Option CondTree) (tokens : List Token) → filter ≡ None → tokens ≡ [] → ReadsWhere filter tokens
everything_case filter tokens e whole depth l rest r = rw (e, whole) (everything_step false (read_cond false depth) rest (no_where rest r))

filtered_case : (filter : Option CondTree) (tokens : List Token) (tree : CondTree) (where_at : Span) (own : List Token) → filter ≡ Some tree → tokens ≡ word WHERE where_at ∷ own →
    ReadsCond Disjunction tree own → ReadsWhere filter tokens
filtered_case filter tokens tree where_at own e whole reads depth l rest r =
    let fits : length (word WHERE where_at ∷ own) ≤ depth = rw whole at l in
    rw (e, whole) (filtered_step false (read_cond false depth) tree where_at own rest (whole_cond tree own reads false depth (inl refl) (omega arith) rest (omega arith)))

no_join_case : (first : ℕ) (entries : List EntryTree) (tokens : List Token) → entries ≡ [] → tokens ≡ [] → ReadsJoins first entries tokens
no_join_case first entries tokens e whole depth l rest r = rw (e, whole) (no_join_step false (read_cond false depth) first rest r)

cross_case : (first : ℕ) (entries : List EntryTree) (tokens : List Token) (table : NameTree) (alias : Option NameTree) (others : List EntryTree) (cross_at join_at : Span) (own more : List Token) →
    entries ≡ entry_tree table alias None first ∷ others → tokens ≡ word CROSS cross_at ∷ word JOIN join_at ∷ own ++ more →
    SpellsEntry table alias own → SpellsJoins first others more → ReadsJoins first others more → ReadsJoins first entries tokens
cross_case first entries tokens table alias others cross_at join_at own more e whole s t reads depth l rest r =
    let fits : length (word CROSS cross_at ∷ word JOIN join_at ∷ own ++ more) ≤ depth = rw whole at l in
    let size = length-append own more in
    rw (e, whole)
    (cross_step false (read_cond false depth) first table alias others cross_at join_at own more rest
    (entry_read table alias own s (more ++ rest) (joins_rank first others more t rest r))
    (reads depth (omega arith) rest r))

on_rank : (at : Span) (rest : List Token) → 5 ≤ rank (word ON at ∷ rest)
unfolding rank kind_rank place_rank
on_rank at rest = lit≤ tt

inner_size : (inner_word : List Token) (join_at : Span) (own : List Token) (on_at : Span) (condition more : List Token) →
    suc (suc (length condition + length more)) ≤ length (inner_word ++ (word JOIN join_at ∷ own ++ (word ON on_at ∷ condition ++ more)))
inner_size inner_word join_at own on_at condition more =
    let first = length-append inner_word (word JOIN join_at ∷ own ++ (word ON on_at ∷ condition ++ more)) in
    let second = length-append own (word ON on_at ∷ condition ++ more) in
    let third = length-append condition more in
    omega arith

inner_case : (first : ℕ) (entries : List EntryTree) (tokens : List Token) (table : NameTree) (alias : Option NameTree) (tree : CondTree) (others : List EntryTree) →
    (inner_word : List Token) (join_at : Span) (own : List Token) (on_at : Span) (condition more : List Token) →
    entries ≡ entry_tree table alias (Some tree) first ∷ others → tokens ≡ inner_word ++ (word JOIN join_at ∷ own ++ (word ON on_at ∷ condition ++ more)) →
    MayBe INNER inner_word → SpellsEntry table alias own → ReadsCond Disjunction tree condition → SpellsJoins first others more → ReadsJoins first others more → ReadsJoins first entries tokens
inner_case first entries tokens table alias tree others inner_word join_at own on_at condition more e whole w s cond_reads t reads depth l rest r =
    let fits : length (inner_word ++ (word JOIN join_at ∷ own ++ (word ON on_at ∷ condition ++ more))) ≤ depth = rw whole at l in
    let size = inner_size inner_word join_at own on_at condition more in
    let after : 5 ≤ rank (more ++ rest) = joins_rank first others more t rest r in
    rw (e, whole)
    (inner_step false (read_cond false depth) first table alias tree others inner_word join_at own on_at condition more rest w
    (entry_read table alias own s (word ON on_at ∷ condition ++ (more ++ rest)) (on_rank on_at (condition ++ (more ++ rest))))
    (whole_cond tree condition cond_reads false depth (inl refl) (omega arith) (more ++ rest) (omega arith))
    (reads depth (omega arith) rest r))

group_case : (first : ℕ) (entries : List EntryTree) (tokens : List Token) (table : NameTree) (alias : Option NameTree) (others : List EntryTree) (own more : List Token) →
    entries ≡ entry_tree table alias None first ∷ others → tokens ≡ own ++ more → SpellsEntry table alias own → SpellsJoins first others more → ReadsJoins first others more →
    ReadsGroup first entries tokens
group_case first entries tokens table alias others own more e whole s t reads depth l rest r =
    let fits : length (own ++ more) ≤ depth = rw whole at l in
    let size = length-append own more in
    rw (e, whole)
    (group_step false (read_cond false depth) first table alias others own more rest
    (entry_read table alias own s (more ++ rest) (joins_rank first others more t rest r)) (reads depth (omega arith) rest r))

last_group_case : (first : ℕ) (entries : List EntryTree) (tokens : List Token) → ReadsGroup first entries tokens → ReadsGroups first entries tokens
last_group_case first entries tokens reads depth l rest r = last_group_step false (read_cond false depth) first entries tokens rest (reads depth l rest (omega arith)) (no_comma rest r)

comma_rank : (at : Span) (rest : List Token) → 6 ≤ rank (sign Comma at ∷ rest)
unfolding rank kind_rank
comma_rank at rest = lit≤ tt

more_groups_case : (first : ℕ) (entries : List EntryTree) (tokens : List Token) (group others : List EntryTree) (own : List Token) (comma_at : Span) (more : List Token) →
    entries ≡ group ++ others → tokens ≡ own ++ sign Comma comma_at ∷ more → ReadsGroup first group own → ReadsGroups (first + length group) others more → ReadsGroups first entries tokens
more_groups_case first entries tokens group others own comma_at more e whole group_reads reads depth l rest r =
    let fits : length (own ++ sign Comma comma_at ∷ more) ≤ depth = rw whole at l in
    let size = length-append own (sign Comma comma_at ∷ more) in
    rw (e, whole)
    (more_groups_step false (read_cond false depth) first group others own comma_at more rest
    (group_reads depth (omega arith) (sign Comma comma_at ∷ more ++ rest) (comma_rank comma_at (more ++ rest)))
    (reads depth (omega arith) rest r))

from_rank : (at : Span) (rest : List Token) → 7 ≤ rank (word FROM at ∷ rest)
unfolding rank kind_rank place_rank
from_rank at rest = lit≤ tt

select_size : (select_at : Span) (quantifier listed : List Token) (from_at : Span) (groups condition : List Token) →
    suc (length groups + length condition) ≤ length (word SELECT select_at ∷ quantifier ++ (listed ++ (word FROM from_at ∷ groups ++ condition)))
select_size select_at quantifier listed from_at groups condition =
    let first = length-append quantifier (listed ++ (word FROM from_at ∷ groups ++ condition)) in
    let second = length-append listed (word FROM from_at ∷ groups ++ condition) in
    let third = length-append groups condition in
    omega arith

select_case : (span : Span) (tree : SelectTree) (tokens : List Token) (distinct : Option Span) (items : List ItemTree) (entries : List EntryTree) (filter : Option CondTree) →
    (select_at : Span) (quantifier listed : List Token) (from_at : Span) (groups condition : List Token) →
    tree ≡ select_tree distinct items entries filter span →
    tokens ≡ word SELECT select_at ∷ quantifier ++ (listed ++ (word FROM from_at ∷ groups ++ condition)) →
    SpellsQuantifier distinct quantifier → SpellsItems items listed → ReadsGroups 0 entries groups → SpellsWhere filter condition → ReadsWhere filter condition → ReadsSelect span tree tokens
select_case span tree tokens distinct items entries filter select_at quantifier listed from_at groups condition e whole q i groups_reads w where_reads = (
  (distinct, items, entries, filter),
  e,
  λ scalar depth m l rest r.
      let fits : length (word SELECT select_at ∷ quantifier ++ (listed ++ (word FROM from_at ∷ groups ++ condition))) ≤ depth = rw whole at l in
      let size = select_size select_at quantifier listed from_at groups condition in
      let tail : List Token = word FROM from_at ∷ groups ++ (condition ++ rest) in
      rw whole (select_step false (read_cond false depth) scalar distinct items entries filter select_at quantifier listed from_at groups condition rest
      (items_quantified scalar distinct quantifier q m items listed i tail)
      (items_read items listed i tail (from_rank from_at (groups ++ (condition ++ rest))))
      (groups_step false (read_cond false depth) entries groups (condition ++ rest) (groups_reads depth (omega arith) (condition ++ rest) (where_rank filter condition w rest r)))
      (where_reads depth (omega arith) rest r)),
)

mutual
  pub cond_reads : (level : Level) (tree : CondTree) (tokens : List Token) → SpellsCond level tree tokens → ReadsCond level tree tokens
  cond_reads Disjunction tree tokens (c.disjunction parts e s) = disjunction_case tree parts tokens e (joined_reads Conjunction OR parts tokens s)
  cond_reads Conjunction tree tokens (c.conjunction parts e s) = conjunction_case tree parts tokens e (joined_reads Factor AND parts tokens s)
  cond_reads Factor tree tokens (c.plain s) = plain_case tree tokens s (cond_reads Primary tree tokens s)
  cond_reads Factor tree tokens (c.negation inner not_at own e whole s) = negation_case tree inner not_at tokens own e whole (cond_reads Primary inner own s)
  cond_reads Primary tree tokens (c.parenthesized open_at own close_at whole s) = parenthesized_case tree open_at close_at tokens own whole (cond_reads Disjunction tree own s)
  cond_reads Primary tree tokens (c.exists select exists_at inner e whole s) = exists_case tree select exists_at tokens inner e whole (subquery_reads select inner s)
  cond_reads Primary tree tokens (c.scalar op left select own op_at inner e whole s t u) =
      scalar_case tree op left select tokens own op_at inner e whole s t u (subquery_reads select inner t)
  cond_reads Primary tree tokens (c.in_select term select negated own not_word in_at inner e whole s n t) =
      in_select_case tree term select negated tokens own not_word in_at inner e whole s n t (subquery_reads select inner t)
  cond_reads Primary tree tokens (c.predicate s) = predicate_case tree tokens s

  joined_reads : (level : Level) (joint : ℕ) (parts : List CondTree) (tokens : List Token) → SpellsJoined level joint parts tokens → ReadsJoined level joint parts tokens
  joined_reads level joint parts tokens (c.last part e s) = last_case level joint parts tokens part e (cond_reads level part tokens s)
  joined_reads level joint parts tokens (c.more part others own joint_at rest e whole s t) =
      more_case level joint parts tokens part others own joint_at rest e whole (cond_reads level part own s) (joined_reads level joint others rest t)

  subquery_reads : (select : SelectTree) (tokens : List Token) → SpellsSubquery select tokens → ReadsSubquery select tokens
  subquery_reads select tokens (c.subquery open_at own close_at whole s) = subquery_case select open_at close_at tokens own whole (select_reads (span_of tokens) select own s)

  pub select_reads : (span : Span) (tree : SelectTree) (tokens : List Token) → SpellsSelect span tree tokens → ReadsSelect span tree tokens
  select_reads span tree tokens (c.select distinct items entries filter select_at quantifier listed from_at groups condition e whole q i g w) =
      select_case span tree tokens distinct items entries filter select_at quantifier listed from_at groups condition e whole q i
      (groups_reads 0 entries groups g) w (where_reads filter condition w)

  where_reads : (filter : Option CondTree) (tokens : List Token) → SpellsWhere filter tokens → ReadsWhere filter tokens
  where_reads filter tokens (c.everything e whole) = everything_case filter tokens e whole
  where_reads filter tokens (c.filtered tree where_at own e whole s) = filtered_case filter tokens tree where_at own e whole (cond_reads Disjunction tree own s)

  groups_reads : (first : ℕ) (entries : List EntryTree) (tokens : List Token) → SpellsGroups first entries tokens → ReadsGroups first entries tokens
  groups_reads first entries tokens (c.last_group s) = last_group_case first entries tokens (group_reads first entries tokens s)
  groups_reads first entries tokens (c.more_groups group others own comma_at rest e whole s t) =
      more_groups_case first entries tokens group others own comma_at rest e whole (group_reads first group own s) (groups_reads (first + length group) others rest t)

  group_reads : (first : ℕ) (entries : List EntryTree) (tokens : List Token) → SpellsGroup first entries tokens → ReadsGroup first entries tokens
  group_reads first entries tokens (c.group table alias others own rest e whole s t) =
      group_case first entries tokens table alias others own rest e whole s t (joins_reads first others rest t)

  joins_reads : (first : ℕ) (entries : List EntryTree) (tokens : List Token) → SpellsJoins first entries tokens → ReadsJoins first entries tokens
  joins_reads first entries tokens (c.no_join e whole) = no_join_case first entries tokens e whole
  joins_reads first entries tokens (c.inner_join table alias tree others inner_word join_at own on_at condition rest e whole w s t u) =
      inner_case first entries tokens table alias tree others inner_word join_at own on_at condition rest e whole w s (cond_reads Disjunction tree condition t) u (joins_reads first others rest u)
  joins_reads first entries tokens (c.cross_join table alias others cross_at join_at own rest e whole s t) =
      cross_case first entries tokens table alias others cross_at join_at own rest e whole s t (joins_reads first others rest t)

-- a condition as it stands in others, and where no subquery may stand
pub cond_read : (tree : CondTree) (tokens : List Token) → SpellsCond Disjunction tree tokens → (flat : Bool) (depth : ℕ) → MayRead flat tree → suc (length tokens) ≤ depth → (rest : List Token) → 4 ≤ rank rest →
    read_cond flat depth (tokens ++ rest) ≡ found tree rest
cond_read tree tokens s flat depth m l rest r = whole_cond tree tokens (cond_reads Disjunction tree tokens s) flat depth m l rest r

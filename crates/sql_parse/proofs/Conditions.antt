-- The loops over the parts of a condition: where a part is not read, and where all are.
use Rattle.std.proofs.Common.{◌≡◌, ℕ, zero, suc, ◌-◌, ◌≢◌, Bool, true, false, List, refl, sym, ap, ◌∙◌, arith}
use Rattle.sql_lex.specs.declared.token.Token.{Token}
use Rattle.sql_tree.specs.declared.select.CondTree.{CondTree}
use Rattle.sql_tree.specs.declared.select.CondTree.TheVariants.{And, Or}
use Rattle.sql_parse.specs.declared.front.ParseStop.{ParseStop}
use Rattle.sql_parse.specs.declared.front.ParseStop.TheVariants as stops
use Rattle.sql_parse.specs.grammar.Words.{AND, OR}
use Rattle.sql_parse.specs.grammar.Selects.{alone_or}
use Rattle.sql_parse.specs.inner.readers.Tokens.{Read, found, and_then, is_word, at_head, expect, read_separated}
use Rattle.sql_parse.specs.inner.readers.Selects.{read_factor, read_conjunction, read_disjunction, read_cond}
use Rattle.sql_parse.specs.inner.readers.Gives.{Stops}
use Rattle.sql_parse.proofs.Separated.{gathered, gathered_end, stops_first, stops_later}

-- where the first is not read, what follows is not read
pub stops_then : {A B : Type 0} (stop : ParseStop) (first : Read A) (k : A → List Token → Read B) → Stops first stop → Stops (and_then first k) stop
unfolding and_then
stops_then stops.NoMemory first k e = tt
stops_then (stops.Syntax left) first k e = rw e refl

module _ (flat : Bool) (self : List Token → Read CondTree) where
  pub conjunction_first : (stop : ParseStop) (tokens : List Token) → Stops (read_factor flat self tokens) stop → Stops (read_conjunction flat self tokens) stop
  unfolding read_conjunction
  conjunction_first stop tokens e = stops_then stop (read_separated (is_word AND) (read_factor flat self) tokens) _ (stops_first (is_word AND) (read_factor flat self) stop tokens e)

  pub conjunction_later : (stop : ParseStop) (tokens : List Token) (so_far : List CondTree) (rest after : List Token) (t : Token)
      → gathered (is_word AND) (read_factor flat self) so_far rest ≡ read_separated (is_word AND) (read_factor flat self) tokens
      → at_head (is_word AND) rest ≡ true → expect (is_word AND) rest ≡ found t after → Stops (read_factor flat self after) stop → Stops (read_conjunction flat self tokens) stop
  unfolding read_conjunction
  conjunction_later stop tokens so_far rest after t same head e h =
      stops_then stop (read_separated (is_word AND) (read_factor flat self) tokens) _
      (rw (sym same) (stops_later (is_word AND) (read_factor flat self) stop so_far rest after t head e h))

  pub conjunction_ends : (tokens : List Token) (so_far : List CondTree) (rest : List Token)
      → gathered (is_word AND) (read_factor flat self) so_far rest ≡ read_separated (is_word AND) (read_factor flat self) tokens
      → at_head (is_word AND) rest ≡ false → read_conjunction flat self tokens ≡ found (alone_or And so_far) rest
  unfolding read_conjunction and_then
  conjunction_ends tokens so_far rest same head =
      ap (λ (f : Read (List CondTree)). and_then f (λ parts left. found (alone_or And parts) left)) (sym same ∙ gathered_end (is_word AND) (read_factor flat self) so_far rest head)

unfolded : (flat : Bool) (depth : ℕ) → depth ≢ 0 → (tokens : List Token) → read_cond flat depth tokens ≡ read_disjunction flat (read_cond flat (depth - 1)) tokens
unfolding read_cond
unfolded flat zero some tokens = absurd (some refl)
unfolded flat (suc depth) some tokens = let same : suc depth - 1 ≡ depth = omega arith in rw same refl

module _ (flat : Bool) (depth : ℕ) where
  -- the reading of what OR joins, at the depth below
  abbrev pub below : List Token → Read CondTree
  below = read_conjunction flat (read_cond flat (depth - 1))

  whole : depth ≢ 0 → (tokens : List Token) → read_cond flat depth tokens ≡ and_then (read_separated (is_word OR) below tokens) (λ parts rest. found (alone_or Or parts) rest)
  unfolding read_disjunction
  whole some tokens = unfolded flat depth some tokens

  pub condition_first : (stop : ParseStop) (tokens : List Token) → depth ≢ 0 → Stops (below tokens) stop → Stops (read_cond flat depth tokens) stop
  condition_first stop tokens some e =
      rw (whole some tokens) (stops_then stop (read_separated (is_word OR) below tokens) _ (stops_first (is_word OR) below stop tokens e))

  pub condition_later : (stop : ParseStop) (tokens : List Token) (so_far : List CondTree) (rest after : List Token) (t : Token) → depth ≢ 0
      → gathered (is_word OR) below so_far rest ≡ read_separated (is_word OR) below tokens
      → at_head (is_word OR) rest ≡ true → expect (is_word OR) rest ≡ found t after → Stops (below after) stop → Stops (read_cond flat depth tokens) stop
  condition_later stop tokens so_far rest after t some same head e h =
      rw (whole some tokens)
      (stops_then stop (read_separated (is_word OR) below tokens) _ (rw (sym same) (stops_later (is_word OR) below stop so_far rest after t head e h)))

  pub condition_ends : (tokens : List Token) (so_far : List CondTree) (rest : List Token) → depth ≢ 0
      → gathered (is_word OR) below so_far rest ≡ read_separated (is_word OR) below tokens
      → at_head (is_word OR) rest ≡ false → read_cond flat depth tokens ≡ found (alone_or Or so_far) rest
  unfolding and_then
  condition_ends tokens so_far rest some same head =
      whole some tokens
      ∙ ap (λ (f : Read (List CondTree)). and_then f (λ parts left. found (alone_or Or parts) left)) (sym same ∙ gathered_end (is_word OR) below so_far rest head)

pub ruleset condition_rules = (conjunction_first, conjunction_later, conjunction_ends, condition_first, condition_later, condition_ends)

-- The facts as links between nodes: the variables, and behind them the constant texts.
use Rattle.std.specs.Prelude.{◌≡◌, ◌⊎◌, ◌<◌, ◌≤◌, ◌+◌, ◌-◌, ◌*◌, ◌==◌, ℕ, true, false, nat_lt, if◌then◌else◌, List, [], ◌∷◌, length, Option, Some, slice_index_or, encode_utf8_all}
use Rattle.std.specs.Borrow.{Bor}
use Rattle.std.specs.HashMap as hash
use Rattle.std.specs.HashMap.{HashMap}
use Rattle.std.specs.Str.{chars, bytes_eq}
use Rattle.text_classes.specs.declared.facts.TextEnd.{TextEnd}
use Rattle.text_classes.specs.declared.facts.TextEnd.TheVariants.{Var, Text}
use Rattle.text_classes.specs.declared.facts.TextFact.{TextFact}
use Rattle.text_classes.specs.declared.graph.Link.{Link}
use Rattle.text_classes.specs.Paths.{fact_at}
use Rattle.text_classes.specs.Answer.{AreDistinct}

abbrev pub text_at : List (List ℕ) → ℕ → List ℕ
text_at texts place = slice_index_or texts place []

-- the place of the text with these bytes
abbrev pub found_at : {S : Type 0} → HashMap (Bor (List ℕ)) ℕ S → List ℕ → Option ℕ
found_at places bytes = hash.get_by (λ k. bytes_eq bytes k.now) places

-- the table has each text at its place, and nothing else
pub record AreKept {S : Type 0} (places : HashMap (Bor (List ℕ)) ℕ S) (texts : List (List ℕ)) : Type 0 where
  pub valid : (k : ℕ) → k < length texts → chars (encode_utf8_all (text_at texts k)) ≡ text_at texts k
  pub found : (k : ℕ) → k < length texts → found_at places (encode_utf8_all (text_at texts k)) ≡ Some k
  pub right : (bytes : List ℕ) (k : ℕ) → found_at places bytes ≡ Some k → (k < length texts) × (encode_utf8_all (text_at texts k) ≡ bytes)

-- the same texts, and at most one behind them
pub record IsLonger (old new : List (List ℕ)) : Type 0 where
  pub texts : (k : ℕ) → k < length old → text_at new k ≡ text_at old k
  pub least : length old ≤ length new
  pub most : length new ≤ length old + 1

-- the side of a fact that a node stands for
abbrev pub end_at : ℕ → List (List ℕ) → ℕ → TextEnd
end_at vars texts node = if nat_lt node vars then Var node else Text (text_at texts (node - vars))

-- the link of this number
abbrev pub link_at : List Link → ℕ → Link
link_at links number = slice_index_or links number (record { left = 0; right = 0; equal = false })

-- both nodes of each link are below the number
abbrev pub AreWithin : ℕ → List Link → Type 0
AreWithin nodes links = (n : ℕ) → n < length links → ((link_at links n).left < nodes) × ((link_at links n).right < nodes)

-- the link has the sides of the fact
pub record IsLink (vars : ℕ) (texts : List (List ℕ)) (f : TextFact) (l : Link) : Type 0 where
  pub left : end_at vars texts l.left ≡ f.left
  pub right : end_at vars texts l.right ≡ f.right
  pub equal : l.equal ≡ f.equal

-- these are the constant texts, each once, and the links, one for each fact
pub record IsGraph (vars : ℕ) (facts : List TextFact) (texts : List (List ℕ)) (links : List Link) : Type 0 where
  pub count : length links ≡ length facts
  pub sides : (n : ℕ) → n < length facts → IsLink vars texts (fact_at facts n) (link_at links n)
  pub within : AreWithin (vars + length texts) links
  pub distinct : AreDistinct texts
  pub few : length texts ≤ 2 * length facts

-- the link is one of the first so many, its fact is an equal one, and the node is one of its sides
pub record IsWay (links : List Link) (count node n : ℕ) : Type 0 where
  pub listed : n < count
  pub equal : (link_at links n).equal ≡ true
  pub side : ((link_at links n).left ≡ node) ⊎ ((link_at links n).right ≡ node)

abbrev pub number_at : List ℕ → ℕ → ℕ
number_at numbers k = slice_index_or numbers k 0

-- the numbers of all such links of the node
pub record AreWaysOf (links : List Link) (count node : ℕ) (numbers : List ℕ) : Type 0 where
  pub sound : (k : ℕ) → k < length numbers → IsWay links count node (number_at numbers k)
  pub whole : (n : ℕ) → IsWay links count node n → (k : ℕ) × (k < length numbers) × (number_at numbers k ≡ n)

abbrev pub ways_at : List (List ℕ) → ℕ → List ℕ
ways_at ways node = slice_index_or ways node []

-- of each node
abbrev pub AreWays : List Link → ℕ → List (List ℕ) → Type 0
AreWays links count ways = (node : ℕ) → node < length ways → AreWaysOf links count node (ways_at ways node)

-- the other side of a link
abbrev pub other_end : Link → ℕ → ℕ
other_end l node = if l.left == node then l.right else l.left

-- from the one side of an equal link to the other
pub record IsLinkStep (l : Link) (from next : ℕ) : Type 0 where
  pub equal : l.equal ≡ true
  pub ends : ((from ≡ l.left) × (next ≡ l.right)) ⊎ ((from ≡ l.right) × (next ≡ l.left))

-- the links lead from the one node to the other
abbrev pub LeadsIn : List Link → ℕ → List ℕ → ℕ → Type 0
LeadsIn links from [] to = from ≡ to
LeadsIn links from (n ∷ ns) to = (next : ℕ) × (n < length links) × IsLinkStep (link_at links n) from next × LeadsIn links next ns to

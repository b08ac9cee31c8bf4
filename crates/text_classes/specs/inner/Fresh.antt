-- Texts for the classes: the constant text that a class has, or a text of its own.
use Rattle.std.specs.Prelude.{◌≡◌, ◌<◌, ◌≤◌, ◌+◌, ◌-◌, ℕ, List, ◌++◌, length, take, Option, Some, None, slice_index_or, encode_utf8_all, ⊤}
use Rattle.std.specs.Str.{chars}
use Rattle.std.specs.Fmt.{decimal}
use Rattle.text_classes.specs.declared.forest.Forest.{Forest}
use Rattle.text_classes.specs.declared.labels.Held.{Held}
use Rattle.text_classes.specs.declared.labels.Held.TheVariants.{Each, Clash}
use Rattle.text_classes.specs.inner.Nodes.{text_at}
use Rattle.text_classes.specs.inner.Forest.{class_in}

-- the place is listed
abbrev pub IsListed : List ℕ → ℕ → Type 0
IsListed places k = (i : ℕ) × (i < length places) × (slice_index_or places i 0 ≡ k)

abbrev pub byte_at : List (List ℕ) → ℕ → ℕ → ℕ
byte_at texts k depth = slice_index_or (encode_utf8_all (text_at texts k)) depth 0

-- the text begins with these bytes
abbrev pub Begins : List ℕ → List ℕ → Type 0
Begins prefix text = take (length prefix) (encode_utf8_all text) ≡ prefix

-- no text begins with them
abbrev pub NoneBegins : List ℕ → List (List ℕ) → Type 0
NoneBegins prefix texts = (k : ℕ) → k < length texts → Begins prefix (text_at texts k) → ⊥

-- the listed places are those of texts
abbrev pub AreListed : List ℕ → List (List ℕ) → Type 0
AreListed places texts = (i : ℕ) → i < length places → slice_index_or places i 0 < length texts

-- those of the first places whose text has the byte there
pub record HasByte (texts : List (List ℕ)) (from : List ℕ) (count depth byte : ℕ) (found : List ℕ) : Type 0 where
  pub within : AreListed found texts
  pub whole : (i : ℕ) → i < count → byte_at texts (slice_index_or from i 0) depth ≡ byte → IsListed found (slice_index_or from i 0)

-- the node of the constant text of the class, if it has one
abbrev pub held_at : List (Option ℕ) → ℕ → Option ℕ
held_at held class = slice_index_or held class None

-- each constant text below the node is that of its class
pub record AreHeld (vars upto : ℕ) (s : Forest) (held : List (Option ℕ)) : Type 0 where
  pub count : length held ≡ s.classes
  pub each : (node class : ℕ) → vars ≤ node → node < upto → class_in s node ≡ Some class → held_at held class ≡ Some node
  pub back : (class node : ℕ) → held_at held class ≡ Some node → (vars ≤ node) × (node < upto) × (class_in s node ≡ Some class)

-- two constant texts of one class
pub record AreClashing (vars nodes : ℕ) (s : Forest) (left right : ℕ) : Type 0 where
  pub first : vars ≤ left
  pub second : left < right
  pub within : right < nodes
  pub same : class_in s left ≡ class_in s right

abbrev pub IsHeld : ℕ → ℕ → Forest → Held → Type 0
IsHeld vars nodes s (Each held) = AreHeld vars nodes s held.items
IsHeld vars nodes s (Clash left right) = AreClashing vars nodes s left right

-- a text of its own
abbrev pub fresh_text : List ℕ → ℕ → List ℕ
fresh_text prefix class = chars (prefix ++ decimal class)

abbrev pub held_text : ℕ → List (List ℕ) → List ℕ → ℕ → Option ℕ → List ℕ
held_text vars texts prefix class None = fresh_text prefix class
held_text vars texts prefix class (Some node) = text_at texts (node - vars)

-- where there is a node, it is that of a constant text
abbrev pub IsIn : ℕ → ℕ → Option ℕ → Type 0
IsIn vars count None = ⊤
IsIn vars count (Some node) = (vars ≤ node) × (node < vars + count)

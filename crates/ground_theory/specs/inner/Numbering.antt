-- Variables for cells. A table has room for 64 columns of each row term, and lists the variable of each cell that has one.
use Rattle.std.specs.Prelude.{◌≡◌, ◌⊎◌, ◌<◌, ◌+◌, ◌*◌, ℕ, List, length, Option, Some, None, slice_index_or, sum_by}
use Rattle.ground_theory.specs.declared.numbering.Cell.{Cell}
use Rattle.ground_theory.specs.declared.numbering.Named.{Named}

abbrev pub label_of : List ℕ → ℕ → ℕ
label_of labels row = slice_index_or labels row 0

abbrev pub place_at : List (Option ℕ) → ℕ → Option ℕ
place_at places place = slice_index_or places place None

-- the variable of the cell, if it has one
abbrev pub number_at : List (Option ℕ) → ℕ → ℕ → Option ℕ
number_at places row column = place_at places (row * 64 + column)

abbrev pub IsPlaced : List (Option ℕ) → ℕ → ℕ → Type 0
IsPlaced places row column = (n : ℕ) × (number_at places row column ≡ Some n)

abbrev pub cell_at : List Cell → ℕ → Cell
cell_at cells n = slice_index_or cells n (record { row = 0; column = 0 })

abbrev pub named_at : List Named → ℕ → Named
named_at named k = slice_index_or named k (record { fact = 0; row = 0; column = 0 })

abbrev pub AreWithin : ℕ → List Named → Type 0
AreWithin rows named = (k : ℕ) → k < length named → ((named_at named k).row < rows) × ((named_at named k).column < 64)

abbrev pub open_one : Option ℕ → ℕ
open_one None = 1
open_one (Some n) = 0

-- how many places have no variable
abbrev pub open_count : List (Option ℕ) → ℕ
open_count places = sum_by open_one places

-- the cell is within the table, and has the variable
pub record IsKept (rows : ℕ) (places : List (Option ℕ)) (cell : Cell) (n : ℕ) : Type 0 where
  pub row : cell.row < rows
  pub column : cell.column < 64
  pub number : number_at places cell.row cell.column ≡ Some n

-- each variable is that of its cell, and of no other
pub record IsNumbering (rows : ℕ) (places : List (Option ℕ)) (cells : List Cell) : Type 0 where
  pub count : length places ≡ rows * 64
  pub balance : open_count places + length cells ≡ rows * 64
  pub placed : (p n : ℕ) → place_at places p ≡ Some n → (n < length cells) × ((cell_at cells n).row * 64 + (cell_at cells n).column ≡ p)
  pub kept : (n : ℕ) → n < length cells → IsKept rows places (cell_at cells n) n

abbrev pub Keeps : List (Option ℕ) → List (Option ℕ) → Type 0
Keeps old new = (p n : ℕ) → place_at old p ≡ Some n → place_at new p ≡ Some n

-- the cell has a variable, and no other cell got one
pub record IsAdded (rows row column : ℕ) (places : List (Option ℕ)) (cells : List Cell) (places' : List (Option ℕ)) (cells' : List Cell) : Type 0 where
  pub numbering : IsNumbering rows places' cells'
  pub placed : IsPlaced places' row column
  pub keeps : Keeps places places'
  pub from : (n : ℕ) → n < length cells' → ((n < length cells) × (cell_at cells' n ≡ cell_at cells n)) ⊎ (cell_at cells' n ≡ record { row = row; column = column })

-- the cell is of the column, in a row term of the class
abbrev pub IsOfClass : List ℕ → ℕ → ℕ → Cell → Type 0
IsOfClass labels row column cell = (cell.column ≡ column) × (label_of labels row ≡ label_of labels cell.row)

-- the cells of the column in the first row terms of the class have variables, and no others got one
pub record IsClassAdded (labels : List ℕ) (row column upto : ℕ) (places : List (Option ℕ)) (cells : List Cell) (places' : List (Option ℕ)) (cells' : List Cell) : Type 0 where
  pub numbering : IsNumbering (length labels) places' cells'
  pub placed : (other : ℕ) → other < upto → label_of labels other ≡ label_of labels row → IsPlaced places' other column
  pub keeps : Keeps places places'
  pub from : (n : ℕ) → n < length cells' → ((n < length cells) × (cell_at cells' n ≡ cell_at cells n)) ⊎ IsOfClass labels row column (cell_at cells' n)

-- a literal names the cell in a row term of the class
pub record IsOfNamed (labels : List ℕ) (named : List Named) (cell : Cell) : Type 0 where
  pub place : ℕ
  pub listed : place < length named
  pub of : IsOfClass labels (named_at named place).row (named_at named place).column cell

-- the cells that the first of the literals name have variables in each row term of the class, and no others have
pub record IsNumbered (labels : List ℕ) (named : List Named) (upto : ℕ) (places : List (Option ℕ)) (cells : List Cell) : Type 0 where
  pub numbering : IsNumbering (length labels) places cells
  pub placed : (k : ℕ) → k < upto → (row : ℕ) → row < length labels → label_of labels row ≡ label_of labels (named_at named k).row → IsPlaced places row (named_at named k).column
  pub from : (n : ℕ) → n < length cells → IsOfNamed labels named (cell_at cells n)

-- The text of a card and of a closest reading by their tables: the numbers of the places, and the rows of values.
use Rattle.std.specs.Prelude.{ℕ, zero, suc, Bool, cond, List, [], ◌∷◌, ◌++◌, get_or, take, drop, eqb}
use Rattle.layout.specs.Words.{Bytes, ascii}
use Rattle.layout.specs.Output.{decimal, visits_text, card_head}

-- ` 3` for a variable that is on (2), ` (no 3)` for one that is off (1), nothing for one that is open
unfoldable pub item_text : ℕ → ℕ → Bytes
item_text n v = cond (eqb v 2) (ascii " " ++ decimal n) (cond (eqb v 1) (ascii " (no " ++ decimal n ++ ascii ")") [])

-- the values of the places from i on, by the table of numbers
unfoldable pub items_from : List ℕ → ℕ → List ℕ → Bytes
items_from numbers i [] = []
items_from numbers i (v ∷ vs) = item_text (get_or numbers i 0) v ++ items_from numbers (suc i) vs

-- a row
unfoldable pub row_text : List ℕ → List ℕ → Bytes
row_text numbers row = ascii "(line" ++ items_from numbers 1 row ++ ascii ")\n"

-- the first n rows, each of f bytes
unfoldable pub rows_text : ℕ → List ℕ → List ℕ → ℕ → Bytes
rows_text f numbers table zero = []
rows_text f numbers table (suc n) = row_text numbers (take f table) ++ rows_text f numbers (drop f table) n

unfoldable pub card_rows : Bool → ℕ → List ℕ → List ℕ → ℕ → ℕ → Bytes
card_rows p f numbers table n visits = card_head p ++ rows_text f numbers table n ++ visits_text visits ++ ascii "(end)\n"

-- a closest reading
unfoldable pub closest_row : List ℕ → List ℕ → ℕ → ℕ → ℕ → Bytes
closest_row numbers row differs lines visits =
    ascii "(closest (reading" ++ items_from numbers 1 row ++ ascii ") (differs " ++ decimal differs
    ++ ascii ") (lines " ++ decimal lines ++ ascii ") (visits " ++ decimal visits ++ ascii "))\n"

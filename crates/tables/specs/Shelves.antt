-- A shelf: constraints as codes in a ring of slots, each found by its last code. Rows are numbered from 1 as they are put in; the newest
-- row's number says which slots hold the rows that stand. Of each last code the shelf has the number of the newest row, and of each row
-- the number of the next older one with the same last code; a number that is not above `base` is that of no row that stands. What no row
-- has been written to has any content: a length is read as no more than the stride, and the numbers by last code are those below a mark.
use Rattle.std.specs.Prelude.{ℕ, zero, suc, ◌+◌, ◌-◌, ◌*◌, ◌%◌, ◌≤◌, ◌<◌, ◌≡◌, min, Bool, cond, ◌&&◌, List, [], ◌∷◌, ◌++◌, map, length, get_or, take, drop, eqb, ltb}
use Rattle.std.proofs.Math.Option.{Option}
use Rattle.qbf.specs.Formula.{paper, highest, Prefix}
use Rattle.qbf.specs.Learning.{Store, first}
use Rattle.tables.specs.Codes.{codes, last_code, all_are}

-- how many codes there are: two for each place that the highest limit allows
abbrev pub code_count : ℕ
code_count = suc highest.numbers * 2

-- ---- the cells: in each slot a row's length, then its codes
abbrev pub length_at : ℕ → List ℕ → ℕ → ℕ
length_at stride cells j = min (get_or cells (j * suc stride) 0) stride

abbrev pub row_at : ℕ → List ℕ → ℕ → List ℕ
row_at stride cells j = take (length_at stride cells j) (drop (suc (j * suc stride)) cells)

-- n rows, the first of them in the slot of the number after `base`
unfoldable pub ring_rows : ℕ → ℕ → List ℕ → ℕ → ℕ → List (List ℕ)
ring_rows stride slots cells base zero = []
ring_rows stride slots cells base (suc n) = ring_rows stride slots cells base n ++ (row_at stride cells ((base + n) % slots) ∷ [])

-- ---- the links: for each code the newest row that ends in it; the newest row's number; the mark, below which these numbers stand; for each
-- slot the next older row
abbrev pub newest_of : List ℕ → ℕ
newest_of links = get_or links code_count 0

abbrev pub mark_of : List ℕ → ℕ
mark_of links = get_or links (suc code_count) 0

abbrev pub head_of : List ℕ → ℕ → ℕ
head_of links c = cond (ltb c (mark_of links)) (get_or links c 0) 0

abbrev pub link_of : List ℕ → ℕ → ℕ
link_of links j = get_or links (suc (suc code_count) + j) 0

-- the number before that of the oldest row that stands
abbrev pub base_of : ℕ → List ℕ → ℕ
base_of slots links = newest_of links - slots

-- the rows that stand, the oldest first
abbrev pub shelf_rows : ℕ → ℕ → List ℕ → List ℕ → List (List ℕ)
shelf_rows stride slots cells links = ring_rows stride slots cells (base_of slots links) (newest_of links - base_of slots links)

abbrev pub ends_in : ℕ → List ℕ → Bool
ends_in c row = eqb (last_code row) c

-- how many rows there are up to the newest at which the test passes; 0 where it passes at none
abbrev pub later : Bool → ℕ → ℕ
later b zero = cond b 1 0
later b (suc n) = suc (suc n)

unfoldable pub newest : {A : Type 0} → (A → Bool) → List A → ℕ
newest f [] = 0
newest f (x ∷ xs) = later (f x) (newest f xs)

-- h is the number of that row, counted from `base`
abbrev pub Points : ℕ → ℕ → ℕ → Type 0
Points base zero h = h ≤ base
Points base (suc n) h = h ≡ base + suc n

pub record Shelf (stride slots : ℕ) (cells links : List ℕ) : Type 0 where
  pub room : length cells ≡ slots * suc stride
  pub linked : length links ≡ suc (suc code_count) + slots
  pub head : (c : ℕ) → c < code_count → Points (base_of slots links) (newest (ends_in c) (shelf_rows stride slots cells links)) (head_of links c)
  pub link : (i : ℕ) → i < length (shelf_rows stride slots cells links)
      → Points
      (base_of slots links)
      (newest (ends_in (last_code (get_or (shelf_rows stride slots cells links) i []))) (take i (shelf_rows stride slots cells links)))
      (link_of links ((base_of slots links + i) % slots))

-- ---- looking up
-- the oldest row that ends in c and whose codes all have the status w
abbrev pub first_match : ℕ → List ℕ → ℕ → List (List ℕ) → Option (List ℕ)
first_match c statuses w rows = first (λ row. ends_in c row && all_are statuses w row) rows

-- ---- the learned constraints on shelves
abbrev pub Entries : List ℕ → List ℕ → Type 0
Entries cells links = Shelf highest.numbers paper.constraints cells links

abbrev pub entries_of : List ℕ → List ℕ → List (List ℕ)
entries_of cells links = shelf_rows highest.numbers paper.constraints cells links

pub record Shelves (cs cl qs ql : List ℕ) : Type 0 where
  pub clauses : Entries cs cl
  pub cubes : Entries qs ql

-- they show a store
pub record StoreShown (D : Prefix) (st : Store) (cs cl qs ql : List ℕ) : Type 0 where
  pub clauses : entries_of cs cl ≡ map (codes D) st.clauses
  pub cubes : entries_of qs ql ≡ map (codes D) st.cubes

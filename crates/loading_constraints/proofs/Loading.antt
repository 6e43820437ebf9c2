-- What the loops that load have done after k rows.
use Prim.Native.Nat.{ℕ, suc, ◌+◌, ◌-◌, ◌≤◌, ◌<◌}
use native.Mathlib.Omega.{arith}
use native.Mathlib.Numerals.{add-one}
use mathlib.Core.Path.{◌≡◌, sym, ap, ◌∙◌}
use mathlib.Core.List.{List, [], ◌∷◌, ◌++◌, map, map-append}
use lib.IntN.{ℤ}
use lib.ListN.{length, drop, length-map}
use Rattle.qbf.specs.Formula.{paper, highest, Prefix}
use Rattle.qbf.specs.Learning.{push}
use Rattle.tables.specs.Views.{Places, row, rows}
use Rattle.tables.specs.Codes.{codes}
use Rattle.tables.specs.Shelves.{Entries, entries_of, newest_of, base_of, shelf_rows, ring_rows}
use Rattle.tables.proofs.Laws.{rows_length, rows_suc, rows_zero}
use Rattle.shelf.proofs.Ring.{ring_zero}

-- a row put behind others that leave room
push_room : {A : Type 0} (n : ℕ) (e : A) (es : List A) → length es < n → push n e es ≡ es ++ (e ∷ [])
push_room n e es h = let z : suc (length es) - n ≡ 0 = omega arith in ap (λ (k : ℕ). drop k es ++ (e ∷ [])) z

-- .. where they are the images of a list
push_map : {A B : Type 0} (f : A → B) (n : ℕ) (e : A) (es : List A) {r : List B} → r ≡ map f es → length es < n → push n (f e) r ≡ map f (es ++ (e ∷ []))
push_map f n e es {r} p h =
    ap (push n (f e)) p
    ∙ push_room n (f e) (map f es) (omega (arith, length-map es f))
    ∙ sym (map-append f es (e ∷ []))

-- a shelf with no newest row is empty
pub none_stand : (stride slots : ℕ) (cells links : List ℕ) → newest_of links ≡ 0 → shelf_rows stride slots cells links ≡ []
none_stand stride slots cells links h =
    let z : newest_of links - base_of slots links ≡ 0 = omega arith in
    ap (ring_rows stride slots cells (base_of slots links)) z ∙ ring_zero stride slots cells (base_of slots links)

-- the learned constraints: the first k rows of the table, of w cells each, stand on the shelf
pub record Loaded (w : ℕ) (f : List ℤ) (l places : List ℕ) (k : ℕ) (cells links : List ℕ) : Type 0 where
  pub shelf : Entries cells links
  pub newest : newest_of links ≡ k
  pub is : (D : Prefix) → Places D places → length D ≤ highest.numbers → entries_of cells links ≡ map (codes D) (rows w f l k)

-- no row yet, and an empty shelf
pub load_none : (w : ℕ) (f : List ℤ) (l places cells links : List ℕ) → Entries cells links → newest_of links ≡ 0 → Loaded w f l places 0 cells links
load_none w f l places cells links s e = record {
  shelf = s;
  newest = e;
  is = λ D p h. none_stand highest.numbers paper.constraints cells links e ∙ sym (ap (map (codes D)) (rows_zero w f l));
}

-- row k too
pub load_more : {w : ℕ} {f : List ℤ} {l places : List ℕ} {k : ℕ} {cells links : List ℕ} → Loaded w f l places k cells links
    → k < paper.constraints
    → (cells' links' : List ℕ) → Entries cells' links' → newest_of links' ≡ suc k
    → ((D : Prefix) → Places D places → length D ≤ highest.numbers
    → entries_of cells' links' ≡ push paper.constraints (codes D (row w f l k)) (entries_of cells links))
    → Loaded w f l places (k + 1) cells' links'
load_more {w} {f} {l} {places} {k} {cells} {links} inv low cells' links' s e h = record {
  shelf = s;
  newest = e ∙ sym (add-one k);
  is = λ D p few.
      h D p few
      ∙ push_map (codes D) paper.constraints (row w f l k) (rows w f l k) (inv.is D p few)
      (omega (arith, rows_length w f l k))
      ∙ ap (map (codes D)) (sym (rows_suc w f l k) ∙ ap (rows w f l) (sym (add-one k)));
}

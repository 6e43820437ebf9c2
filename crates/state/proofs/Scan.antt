-- The rows of a flat table, row by row: each fits, and each passes the test that a prefix gives.
use Prim.Native.Nat.{ℕ, zero, suc, ◌+◌, ◌-◌, ◌*◌, ◌≤◌, ◌<◌}
use native.Mathlib.Numerals.{add-one}
use native.Mathlib.Omega.{arith}
use mathlib.Core.Path.{◌≡◌, refl, sym, ap, ◌∙◌}
use mathlib.Core.Bool.{Bool, true, false, not, ◌&&◌}
use mathlib.Core.List.{List, [], ◌∷◌, ◌++◌}
use lib.ListN.{get_or, take, drop}
use lib.IntN.{ℤ}
use lib.Dec.{leb}
use borrow.Author.Tests.{le-leb, lt-leb, not-true, not-false}
use Rattle.qbf.specs.Formula.{all}
use Rattle.tables.specs.Views.{row, rows, rows_of}
use Rattle.tables.proofs.Laws.{rows_suc, rows_zero}
use Rattle.state.specs.Reading.{listing, at_most, entry_at, entries, rows_fit}
use Rattle.state.proofs.Listing.{listing_snoc}

module _ (w : ℕ) (flat : List ℤ) (sizes : List ℕ) where
  pub rows_listed : (n : ℕ) → rows w flat sizes n ≡ listing (row w flat sizes) 0 n
  rows_listed zero = rows_zero w flat sizes
  rows_listed (suc n) =
      let e : n ≡ 0 + n = omega arith in
      rows_suc w flat sizes n
      ∙ ap (λ (l : List (List ℤ)). l ++ (row w flat sizes n ∷ [])) (rows_listed n)
      ∙ ap (λ (k : ℕ). listing (row w flat sizes) 0 n ++ (row w flat sizes k ∷ [])) e
      ∙ sym (listing_snoc (row w flat sizes) 0 n)

  module _ (f : List ℤ → Bool) where
    -- k rows from i on
    abbrev pub rows_from : ℕ → ℕ → Bool
    rows_from i zero = true
    rows_from i (suc k) = leb (entry_at sizes i) w && (f (row w flat sizes i) && rows_from (suc i) k)

    rows_rest : (i k : ℕ) → rows_from i k ≡ (at_most w (listing (entry_at sizes) i k) && all f (listing (row w flat sizes) i k))
    rows_rest i zero = refl
    rows_rest i (suc k) =
        ap (λ (x : Bool). leb (entry_at sizes i) w && (f (row w flat sizes i) && x)) (rows_rest (suc i) k)
        ∙ shuffle (leb (entry_at sizes i) w) (f (row w flat sizes i)) (at_most w (listing (entry_at sizes) (suc i) k)) (all f (listing (row w flat sizes) (suc i) k))
      where
        shuffle : (s r A B : Bool) → (s && (r && (A && B))) ≡ ((s && A) && (r && B))
        shuffle false r A B = refl
        shuffle true true A B = refl
        shuffle true false true B = refl
        shuffle true false false B = refl

    abbrev pub table_ok : ℕ → Bool
    table_ok most = rows_fit w most sizes && all f (rows_of w flat sizes)

    table_rows : (most : ℕ) → get_or sizes 0 0 ≤ most → table_ok most ≡ rows_from 0 (get_or sizes 0 0)
    table_rows most h =
        ap (λ (x : Bool). x && at_most w (entries sizes) && all f (rows_of w flat sizes)) (le-leb (get_or sizes 0 0) most h)
        ∙ ap (λ (l : List (List ℤ)). at_most w (entries sizes) && all f l) (rows_listed (get_or sizes 0 0))
        ∙ sym (rows_rest 0 (get_or sizes 0 0))

-- ---- the loop along the rows; `shown` says which prefixes the lent tables show, and f is the test under one
pub record Scanning {P : Type 0} (shown : P → Type 0) (f : P → List ℤ → Bool) (w most : ℕ) (flat : List ℤ) (sizes : List ℕ) (count i : ℕ) : Type 0 where
  pub whole : count ≡ get_or sizes 0 0
  pub few : count ≤ most
  pub judged : (D : P) → shown D → table_ok w flat sizes (f D) most ≡ rows_from w flat sizes (f D) i (count - i)

module _ {P : Type 0} (shown : P → Type 0) (f : P → List ℤ → Bool) (w most : ℕ) (flat : List ℤ) (sizes : List ℕ) {count : ℕ} (whole : count ≡ get_or sizes 0 0) where
  pub scanning_none : count ≤ most → Scanning shown f w most flat sizes count 0
  scanning_none h =
      let e : get_or sizes 0 0 ≡ count - 0 = omega (arith, whole) in
      record { whole = whole; few = h; judged = λ D s. table_rows w flat sizes (f D) most (omega (arith, h, whole)) ∙ ap (rows_from w flat sizes (f D) 0) e }

-- the length of the next row, read as n
pub record SizeRead {P : Type 0} (shown : P → Type 0) (f : P → List ℤ → Bool) (w most : ℕ) (flat : List ℤ) (sizes : List ℕ) (count i n : ℕ) : Type 0 where
  pub scanning : Scanning shown f w most flat sizes count i
  pub more : i < count
  pub is : n ≡ entry_at sizes i

module _ {P : Type 0} {shown : P → Type 0} {f : P → List ℤ → Bool} {w most : ℕ} {flat : List ℤ} {sizes : List ℕ} {count i n : ℕ} (t : SizeRead shown f w most flat sizes count i n) where
  abbrev onward : P → ℕ → Bool
  onward D m = leb m w && (f D (take m (drop (i * w) flat)) && rows_from w flat sizes (f D) (suc i) (count - suc i))

  next : (D : P) → shown D → table_ok w flat sizes (f D) most ≡ onward D n
  next D s =
      let e : count - i ≡ suc (count - suc i) = omega (arith, t.more) in
      t.scanning.judged D s ∙ ap (rows_from w flat sizes (f D) i) e ∙ ap (onward D) (sym t.is)

  pub row_long : w < n → (D : P) → shown D → false ≡ table_ok w flat sizes (f D) most
  row_long h D s = sym (next D s ∙ ap (λ (x : Bool). x && (f D (take n (drop (i * w) flat)) && rows_from w flat sizes (f D) (suc i) (count - suc i))) (lt-leb n w h))

-- the row was tested with the answer r
pub record RowTested {P : Type 0} (shown : P → Type 0) (f : P → List ℤ → Bool) (w most : ℕ) (flat : List ℤ) (sizes : List ℕ) (count i n : ℕ) (lits : List ℤ) (r : Bool) : Type 0 where
  pub size_read : SizeRead shown f w most flat sizes count i n
  pub short : n ≤ w
  pub part : lits ≡ take n (drop (i * w) flat)
  pub said : (D : P) → shown D → r ≡ f D lits

module _ {P : Type 0} {shown : P → Type 0} {f : P → List ℤ → Bool} {w most : ℕ} {flat : List ℤ} {sizes : List ℕ} {count i n : ℕ} {lits : List ℤ} {r : Bool} (t : RowTested shown f w most flat sizes count i n lits r) where
  tested : (D : P) → shown D → table_ok w flat sizes (f D) most ≡ (r && rows_from w flat sizes (f D) (suc i) (count - suc i))
  tested D s =
      next t.size_read D s
      ∙ ap (λ (x : Bool). x && (f D (take n (drop (i * w) flat)) && rows_from w flat sizes (f D) (suc i) (count - suc i))) (le-leb n w t.short)
      ∙ ap (λ (x : Bool). x && rows_from w flat sizes (f D) (suc i) (count - suc i)) (ap (f D) (sym t.part) ∙ sym (t.said D s))

  pub row_bad : not r ≡ true → (D : P) → shown D → false ≡ table_ok w flat sizes (f D) most
  row_bad e D s = sym (tested D s ∙ ap (λ (x : Bool). x && rows_from w flat sizes (f D) (suc i) (count - suc i)) (not-true r e))

  pub row_more : not r ≡ false → Scanning shown f w most flat sizes count (i + 1)
  row_more e =
      rw add-one
      (record {
        whole = t.size_read.scanning.whole;
        few = t.size_read.scanning.few;
        judged = λ D s. tested D s ∙ ap (λ (x : Bool). x && rows_from w flat sizes (f D) (suc i) (count - suc i)) (not-false r e);
      })

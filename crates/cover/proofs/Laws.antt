-- The table of a card as a stack of lines: what the search starts and ends with, and what one line more or less makes of it.
use Prim.Native.Nat.{ℕ, zero, suc, ◌+◌, ◌*◌, ◌-◌, ◌/◌, ◌≤◌, ◌<◌, zero-le}
use native.Mathlib.Nat.{div-zero}
use native.Mathlib.Omega.{arith}
use mathlib.Core.Path.{◌≡◌, refl, sym, ap, ◌∙◌}
use mathlib.Core.Logic.{◌⊎◌, inl, inr}
use mathlib.Core.Bool.{true, false}
use mathlib.Core.List.{List, [], ◌∷◌, ◌++◌}
use lib.ListN.{length, take, drop}
use lib.Dec.{leb, leb→le}
use lib.Seq.{take_all, take-append-le}
use Rattle.qbf.specs.Formula.{Node}
use Rattle.qbf.specs.Card.{line_bytes, bytes_of, table_of, zero_table}
use Rattle.theory.proofs.Basics.{≡→T, le_or_lt}
use Rattle.cover.specs.Cover.{held, Covers}
use Rattle.cover.proofs.Count.{fits_count, no_row}
use Rattle.cover.proofs.Bytes.{Short, short_more, short_less, short_last, zeros_length, table_length, count_more, one_more, free_row, spliced, part_of, no_bytes}
use Rattle.theory.proofs.Cards.{line_length, bytes_length}

-- ---- by computation: two free variables, three lines, and tables that hold all, two or none of them
abbrev three : List Node
three = (false ∷ true ∷ []) ∷ (true ∷ false ∷ []) ∷ (true ∷ true ∷ []) ∷ []

all_three : table_of 2 7 (held 2 7 three) ≡ 1 ∷ 2 ∷ 2 ∷ 1 ∷ 2 ∷ 2 ∷ 0 ∷ []
all_three = refl

two_of_three : table_of 2 5 (held 2 5 three) ≡ 1 ∷ 2 ∷ 2 ∷ 1 ∷ 0 ∷ []
two_of_three = refl

no_line : table_of 2 1 (held 2 1 three) ≡ 0 ∷ []
no_line = refl

-- ---- where all lines fit
all_held : (f size : ℕ) (ls : List Node) → Short f ls → length ls * f ≤ size → table_of f size (held f size ls) ≡ table_of f size ls
all_held zero size ls h k =
    ap (λ (n : ℕ). table_of 0 size (take n ls)) (div-zero size)
    ∙ ap zero_table same
    ∙ ap (λ (l : List ℕ). l ++ zero_table (size - length ls * 0)) (sym (no_bytes ls h))
  where
    same : size - length {A = Node} [] * 0 ≡ size - length ls * 0
    same = omega arith
all_held (suc f) size ls h k = ap (table_of (suc f) size) (take_all (size / suc f) ls (fits_count (suc f) size (length ls) (omega arith) k))

-- What the search ends with: the card's table, where all lines fit.
pub covers_table : (f : ℕ) (table : List ℕ) (ls : List Node) → Covers f table ls → length ls * f ≤ length table → table ≡ table_of f (length table) ls
covers_table f table ls cov k = cov.bytes ∙ all_held f (length table) ls cov.short k

-- the same by the test that decides refusal 21
pub covers_fits : (f : ℕ) (table : List ℕ) (ls : List Node) → Covers f table ls → leb (length ls * f) (length table) ≡ true → table ≡ table_of f (length table) ls
covers_fits f table ls cov e = covers_table f table ls cov (leb→le (length ls * f) (length table) (≡→T (leb (length ls * f) (length table)) e))

pub table_covers : (f size : ℕ) (table : List ℕ) (ls : List Node) → Short f ls → length ls * f ≤ size → table ≡ table_of f size ls → Covers f table ls
table_covers f size table ls h k e = record { bytes = whole ∙ sym (all_held f (length table) ls h (omega (arith, long))); short = h }
  where
    long : length table ≡ size
    long = ap length e ∙ table_length f size ls h k

    whole : table ≡ table_of f (length table) ls
    whole = e ∙ ap (λ (n : ℕ). table_of f n ls) (sym long)

-- What the search starts with.
pub covers_none : (f size : ℕ) (table : List ℕ) → table ≡ zero_table size → Covers f table []
covers_none f size table e =
    let whole : size ≡ size - 0 * f = omega arith in
    table_covers f size table [] (λ s m. absurd m) (omega arith) (e ∙ ap zero_table whole)

-- ---- where a line does not fit
module _ (f : ℕ) (table : List ℕ) (ls : List Node) (s : Node) (full : length table / f ≤ length ls) where
  same_held : held f (length table) (ls ++ (s ∷ [])) ≡ held f (length table) ls
  same_held = take-append-le (length table / f) ls (s ∷ []) full

  pub full_more : length s ≤ f → Covers f table ls → Covers f table (ls ++ (s ∷ []))
  full_more h cov = record { bytes = cov.bytes ∙ ap (table_of f (length table)) (sym same_held); short = short_more f ls s cov.short h }

  pub full_less : Covers f table (ls ++ (s ∷ [])) → Covers f table ls
  full_less cov = record { bytes = cov.bytes ∙ ap (table_of f (length table)) same_held; short = short_less f ls s cov.short }

-- ---- where it fits
-- The row of a line: from a on, in k bytes.
module _ (f : ℕ) (table : List ℕ) (ls : List Node) (a k : ℕ) (start : a ≡ length ls * f) (wide : k ≡ f) (room : length ls * f + f ≤ length table) where
  abbrev rest : List ℕ
  rest = zero_table (length table - (length ls * f + f))

  pub free_part : Covers f table ls → take k (drop a table) ≡ zero_table f
  free_part cov =
      ap (λ (t : List ℕ). take k (drop a t)) (covers_table f table ls cov (omega arith) ∙ free_row f (length table) ls room)
      ∙ part_of (bytes_of f ls) (zero_table f) rest a k (bytes_length f ls cov.short ∙ sym start) (zeros_length f ∙ sym wide)

  pub row_pushed : (s : Node) (new row : List ℕ) → Covers f table ls → length s ≤ f → row ≡ line_bytes f s → new ≡ take a table ++ (row ++ drop k (drop a table)) → Covers f new (ls ++ (s ∷ []))
  row_pushed s new row cov h r e =
      table_covers f (length table) new (ls ++ (s ∷ [])) (short_more f ls s cov.short h) (omega (arith, count_more f ls s))
      (e
      ∙ ap (λ (t : List ℕ). take a t ++ (row ++ drop k (drop a t))) (covers_table f table ls cov (omega arith) ∙ free_row f (length table) ls room)
      ∙ spliced (bytes_of f ls) (zero_table f) rest row a k (bytes_length f ls cov.short ∙ sym start) (zeros_length f ∙ sym wide)
      ∙ ap (λ (l : List ℕ). bytes_of f ls ++ (l ++ rest)) r
      ∙ sym (one_more f (length table) ls s))

  pub row_popped : (s : Node) (new row : List ℕ) → Covers f table (ls ++ (s ∷ [])) → row ≡ zero_table f → new ≡ take a table ++ (row ++ drop k (drop a table)) → Covers f new ls
  row_popped s new row cov r e =
      table_covers f (length table) new ls short (omega arith)
      (e
      ∙ ap (λ (t : List ℕ). take a t ++ (row ++ drop k (drop a t))) (covers_table f table (ls ++ (s ∷ [])) cov (omega (arith, count_more f ls s)) ∙ one_more f (length table) ls s)
      ∙ spliced (bytes_of f ls) (line_bytes f s) rest row a k (bytes_length f ls short ∙ sym start) (line_length f s (short_last f ls s cov.short) ∙ sym wide)
      ∙ ap (λ (l : List ℕ). bytes_of f ls ++ (l ++ rest)) r
      ∙ sym (free_row f (length table) ls room))
    where
      short : Short f ls
      short = short_less f ls s cov.short

-- The line of the empty node has all places open: its zeros stand already.
pub covers_open : (f : ℕ) (table : List ℕ) (ls : List Node) → Covers f table ls → Covers f table (ls ++ ([] ∷ []))
covers_open f table ls cov = by (le_or_lt (length ls * f + f) (length table))
  where
    by : (length ls * f + f ≤ length table) ⊎ (length table < length ls * f + f) → Covers f table (ls ++ ([] ∷ []))
    by (inr full) = full_more f table ls [] (no_row f (length table) (length ls) full) zero-le cov
    by (inl room) =
        let wide : f ≡ f - 0 = omega arith in
        table_covers f (length table) table (ls ++ ([] ∷ [])) (short_more f ls [] cov.short zero-le) (omega (arith, count_more f ls []))
        (covers_table f table ls cov (omega arith)
        ∙ free_row f (length table) ls room
        ∙ ap (λ (n : ℕ). bytes_of f ls ++ (zero_table n ++ zero_table (length table - (length ls * f + f)))) wide
        ∙ sym (one_more f (length table) ls []))

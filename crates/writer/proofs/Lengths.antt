-- How long the texts are, by the lengths of their numbers and rows.
use Prim.Native.Nat.{ℕ, ◌+◌, ◌≤◌}
use mathlib.Core.Path.{◌≡◌}
use mathlib.Core.Bool.{Bool, true, false}
use mathlib.Core.List.{List, ◌++◌}
use native.Mathlib.Omega.{arith}
use lib.ListN.{length, length-append}
use Rattle.layout.specs.Words.{Bytes, ascii}
use Rattle.layout.specs.Output.{decimal, visits_text, card_head, refusal_text, overflow_text, query_text}
use Rattle.writer.specs.Rows.{items_from, rows_text, card_rows, closest_row}

-- ---- numbers in words
pub visits_length : (n : ℕ) → length (visits_text n) ≡ length (decimal n) + 10
unfolding visits_text
visits_length n = simp length-append (omega arith)

pub refusal_length : (n line : ℕ) → length (refusal_text n line) ≡ length (decimal n) + length (decimal line) + 12
unfolding refusal_text
refusal_length n line = simp length-append (omega arith)

pub overflow_length : (n line visits : ℕ) → length (overflow_text n line visits) ≡ length (decimal n) + length (decimal line) + length (decimal visits) + 22
unfolding overflow_text
overflow_length n line visits = simp length-append (omega arith)

pub query_length : (w : Bytes) (n : ℕ) → length (query_text w n) ≡ length w + length (decimal n) + 13
unfolding query_text
query_length w n = simp length-append (omega arith)

pub off_length : (n : ℕ) → length (ascii " (no " ++ decimal n ++ ascii ")") ≡ length (decimal n) + 6
off_length n = simp length-append (omega arith)

-- ---- a card
pub head_length : (p : Bool) → length (card_head p) ≤ 14
head_length true = omega arith
head_length false = omega arith

pub card_length : (p : Bool) (f : ℕ) (numbers table : List ℕ) (n visits : ℕ)
    → length (card_rows p f numbers table n visits) ≡ length (card_head p) + length (rows_text f numbers table n) + length (visits_text visits) + 6
unfolding card_rows
card_length p f numbers table n visits = simp length-append (omega arith)

-- ---- a closest reading
pub closest_length : (numbers row : List ℕ) (differs lines visits : ℕ)
    → length (closest_row numbers row differs lines visits) ≡ length (items_from numbers 1 row) + length (decimal differs) + length (decimal lines) + length (decimal visits) + 50
unfolding closest_row
closest_length numbers row differs lines visits = simp length-append (omega arith)

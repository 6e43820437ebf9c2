-- A row filled from its front: what the code's rows are made of.
use Prim.Native.Nat.{ℕ, suc, ◌+◌, ◌-◌, ◌/◌, ◌≤◌, ◌<◌, min}
use native.Mathlib.Numerals.{add-one}
use native.Mathlib.Omega.{arith}
use mathlib.Core.Path.{◌≡◌, sym, ap, ◌∙◌}
use mathlib.Core.Logic.{◌⊎◌, inl, inr}
use mathlib.Core.List.{[], ◌∷◌, ◌++◌, map, append_assoc, map-append}
use lib.ListN.{length, get_or, set, take, replicate, length-append, length-map, length-replicate, length-take}
use lib.Seq.{take-suc, take_all, set_at, length-take-le}
use Rattle.layout.specs.Words.{Bytes, ascii, newline, space}
use Rattle.layout.specs.Page.{page_columns, number_columns, flag_columns, most_lines, sign_of, head_row, line_row}
use Rattle.theory.proofs.Basics.{le_or_lt}
use Rattle.page.specs.Columns.{digit, columns}
use Rattle.page.proofs.Columns.{columns_aligned}

-- ---- numbers
-- five digits that were written, from the first on
pub record Five (n a b c d e : ℕ) : Type 0 where
  pub one : a ≡ digit (n / 10 / 10 / 10 / 10)
  pub two : b ≡ digit (n / 10 / 10 / 10)
  pub three : c ≡ digit (n / 10 / 10)
  pub four : d ≡ digit (n / 10)
  pub last : e ≡ digit n

pub five : (n : ℕ) {a b c d e : ℕ} → a ≡ digit (n / 10 / 10 / 10 / 10) → b ≡ digit (n / 10 / 10 / 10) → c ≡ digit (n / 10 / 10) → d ≡ digit (n / 10) → e ≡ digit n → Five n a b c d e
five n p q r s t = record { one = p; two = q; three = r; four = s; last = t }

module _ {n a b c d e : ℕ} (w : Five n a b c d e) where
  five_columns : a ∷ b ∷ c ∷ d ∷ e ∷ [] ≡ columns number_columns n
  five_columns = cc (w.one, w.two, w.three, w.four, w.last)

  pub head_made : 1 ≤ n → n ≤ most_lines → ascii "CARD" ++ (replicate 62 space ++ (a ∷ b ∷ c ∷ d ∷ e ∷ newline ∷ [])) ≡ head_row n
  head_made h k = ap (λ (l : Bytes). ascii "CARD" ++ (replicate 62 space ++ (l ++ (newline ∷ [])))) (five_columns ∙ columns_aligned n h k)

-- ---- flags
-- the signs of the first i flags, and blanks
abbrev signs : Bytes → ℕ → Bytes
signs line i = map sign_of (take i line) ++ (replicate (flag_columns - i) space ++ (newline ∷ []))

-- the row of the number n with the first i flags of a line
abbrev pub up_to : ℕ → Bytes → ℕ → Bytes
up_to n line i = columns number_columns n ++ (space ∷ space ∷ signs line i)

pub flags_none : {n a b c d e : ℕ} (w : Five n a b c d e) (line : Bytes) → a ∷ b ∷ c ∷ d ∷ e ∷ space ∷ space ∷ (replicate flag_columns space ++ (newline ∷ [])) ≡ up_to n line 0
flags_none w line = ap (λ (l : Bytes). l ++ (space ∷ space ∷ signs line 0)) (five_columns w)

module _ (n : ℕ) (line : Bytes) where
  signs_length : (i : ℕ) → i ≤ length line → length (map sign_of (take i line)) ≡ i
  signs_length i h = length-map (take i line) sign_of ∙ length-take-le i line h

  signs_next : (i v : ℕ) → i < length line → v ≡ sign_of (get_or line i 0) → map sign_of (take i line) ++ (v ∷ []) ≡ map sign_of (take (i + 1) line)
  signs_next i v h e =
      ap (λ (x : ℕ). map sign_of (take i line) ++ (x ∷ [])) e
      ∙ sym (ap (λ (k : ℕ). map sign_of (take k line)) (add-one i) ∙ ap (map sign_of) (take-suc line i 0 h) ∙ map-append sign_of (take i line) (get_or line i 0 ∷ []))

  tail_next : (i v : ℕ) → i < flag_columns → i < length line → v ≡ sign_of (get_or line i 0) → set (signs line i) i v ≡ signs line (i + 1)
  tail_next i v k h e =
      let z : flag_columns - i ≡ suc (flag_columns - (i + 1)) = omega arith in
      let left = replicate (flag_columns - (i + 1)) space ++ (newline ∷ []) in
      ap (λ (j : ℕ). set (map sign_of (take i line) ++ (replicate j space ++ (newline ∷ []))) i v) z
      ∙ set_at (map sign_of (take i line)) space left v i (signs_length i (omega arith))
      ∙ sym (append_assoc (map sign_of (take i line)) (v ∷ []) left)
      ∙ ap (λ (l : Bytes). l ++ left) (signs_next i v h e)

  pub flags_more : (row : Bytes) (i column v : ℕ) → column ≡ 7 + i → i < flag_columns → i < length line → v ≡ sign_of (get_or line i 0) → row ≡ up_to n line i
      → set row column v ≡ up_to n line (i + 1)
  flags_more row i column v c k h e r =
      let z : column ≡ suc (suc (suc (suc (suc (suc (suc i)))))) = omega arith in
      ap (λ (l : Bytes). set l column v) r
      ∙ ap (λ (j : ℕ). set (up_to n line i) j v) z
      ∙ ap (λ (l : Bytes). columns number_columns n ++ (space ∷ space ∷ l)) (tail_next i v k h e)

  -- the row with all flags, or as many as there are columns
  abbrev pub whole : Bytes
  whole = columns number_columns n ++ (space ∷ space ∷ (map sign_of (take flag_columns line) ++ (replicate (flag_columns - length line) space ++ (newline ∷ []))))

  pub whole_row : 1 ≤ n → n ≤ most_lines → whole ≡ line_row n line
  whole_row h k = ap (λ (l : Bytes). l ++ (space ∷ space ∷ (map sign_of (take flag_columns line) ++ (replicate (flag_columns - length line) space ++ (newline ∷ []))))) (columns_aligned n h k)

  pub flags_all : (row : Bytes) (i : ℕ) → i ≡ min (length line) flag_columns → row ≡ up_to n line i → row ≡ whole
  flags_all row i e r =
      let z : flag_columns - i ≡ flag_columns - length line = omega arith in
      r
      ∙ ap (λ (j : ℕ). columns number_columns n ++ (space ∷ space ∷ (map sign_of (take i line) ++ (replicate j space ++ (newline ∷ []))))) z
      ∙ ap (λ (l : Bytes). columns number_columns n ++ (space ∷ space ∷ (map sign_of l ++ (replicate (flag_columns - length line) space ++ (newline ∷ []))))) (same (le_or_lt (length line) flag_columns))
    where
      same : (length line ≤ flag_columns) ⊎ (flag_columns < length line) → take i line ≡ take flag_columns line
      same (inl h) = take_all i line (omega arith) ∙ sym (take_all flag_columns line h)
      same (inr h) = let z : i ≡ flag_columns = omega arith in ap (λ (j : ℕ). take j line) z

  -- "72 bytes"
  pub row_wide : 1 ≤ n → n ≤ most_lines → length (line_row n line) ≡ page_columns
  row_wide h k =
      ap length (sym (whole_row h k))
      ∙ omega (arith, length-append (map sign_of (take flag_columns line)) (replicate (flag_columns - length line) space ++ (newline ∷ [])), length-map (take flag_columns line) sign_of, length-take flag_columns line, length-append (replicate {A = ℕ} (flag_columns - length line) space) (newline ∷ []), length-replicate {A = ℕ} (flag_columns - length line) space)

-- The book of a session's input: its lines up to the first `(end)`, found one after another; and lines counted.
use Prim.Native.Nat.{ℕ, ◌+◌, ◌≤◌, ◌-◌}
use mathlib.Core.Path.{◌≡◌, refl, sym, ap, ◌∙◌}
use mathlib.Core.Bool.{Bool, true, false, cond}
use mathlib.Core.List.{List, [], ◌∷◌, ◌++◌, append_assoc}
use native.Mathlib.Omega.{arith}
use lib.Dec.{eqb}
use lib.ListN.{length, take, drop, length-append}
use lib.Seq.{take-append_seam, drop-append_seam}
use Rattle.std.specs.Prelude.{count_by, Some, None}
use Rattle.std.specs.Borrow.{Bor}
use Rattle.std.proofs.lemmas.List.Recursion.{is_count_by}
use Rattle.layout.specs.Words.{Bytes, newline, split, same}
use Rattle.layout.specs.Session.{end_line, Parted, onto, parted}
use Rattle.reader.specs.Pieces.{Cut}
use Rattle.reader.specs.Books.{count_of_lines, BookEnd}
use Rattle.reader.proofs.Texts.{split_some}

-- ---- the loop: some bytes are passed, and no line of them is `(end)`
pub record Seeking (s left : Bytes) : Type 0 where
  pub passed : Bytes
  pub whole : s ≡ passed ++ left
  pub book : (parted (split newline s)).book ≡ passed ++ (parted (split newline left)).book
  pub rest : (parted (split newline s)).rest ≡ (parted (split newline left)).rest

pub seek_first : (s : Bytes) → Seeking s s
seek_first s = record { passed = []; whole = refl; book = refl; rest = refl }

module _ {s left : Bytes} (k : Seeking s left) {l : Bytes} where
  -- what is left has no byte 10
  pub seek_over : Cut newline left l None → BookEnd s None
  unfolding parted
  seek_over p = k.rest ∙ ap (λ (ws : List Bytes). (parted ws).rest) p.is

  module _ {t : Bor Bytes} (p : Cut newline left l (Some t)) where
    -- what a whole line adds
    parts : {x : Bool} → x ≡ same l end_line → parted (split newline left) ≡ cond x (record { book = l ++ (newline ∷ []); count = 1; rest = split newline t.now }) (onto l (parted (split newline t.now)))
    unfolding parted
    parts {x} q = ap parted p.is ∙ by (split newline t.now) (split_some newline t.now)
      where
        by : (vs : List Bytes) → (w : Bytes) × (ws : List Bytes) × (vs ≡ w ∷ ws) → parted (l ∷ vs) ≡ cond x (record { book = l ++ (newline ∷ []); count = 1; rest = vs }) (onto l (parted vs))
        by [] (w, ws, z) = absurd (let y : ◌≡◌ {A = ℕ} 0 1 = cc in omega (arith, y))
        by (v ∷ vs) z = ap (λ (b : Bool). cond b (record { book = l ++ (newline ∷ []); count = 1; rest = v ∷ vs }) (onto l (parted (v ∷ vs)))) (sym q)

    -- the bytes passed with it
    with_line : Bytes
    with_line = k.passed ++ (l ++ (newline ∷ []))

    all : s ≡ with_line ++ t.now
    unfolding with_line
    all =
        k.whole ∙ ap (λ (u : Bytes). k.passed ++ u) (p.bytes ∙ sym (append_assoc l (newline ∷ []) t.now))
        ∙ sym (append_assoc k.passed (l ++ (newline ∷ [])) t.now)

    pub seek_found : {x : Bool} → x ≡ same l end_line → x ≡ true → BookEnd s (Some (length s - length t.now))
    unfolding with_line
    seek_found {x} q z = (
      omega arith,
      ap (λ (n : ℕ). take n s) count ∙ ap (take (length with_line)) all ∙ take-append_seam with_line t.now ∙ sym (k.book ∙ ap (λ (y : Parted). k.passed ++ y.book) is),
      ap (λ (n : ℕ). split newline (drop n s)) count ∙ ap (λ (u : Bytes). split newline (drop (length with_line) u)) all ∙ ap (split newline) (drop-append_seam with_line t.now)
          ∙ sym (k.rest ∙ ap (λ (y : Parted). y.rest) is),
      omega (arith, long, length-append k.passed (l ++ (newline ∷ [])), length-append l (newline ∷ [])),
    )
      where
        long : length s ≡ length with_line + length t.now
        long = ap length all ∙ length-append with_line t.now

        count : length s - length t.now ≡ length with_line
        count = omega (arith, long)

        is : parted (split newline left) ≡ record { book = l ++ (newline ∷ []); count = 1; rest = split newline t.now }
        is = parts (sym z ∙ q)

    pub seek_more : {x : Bool} → x ≡ same l end_line → x ≡ false → Seeking s t.now
    unfolding with_line
    seek_more {x} q z =
        record {
          passed = with_line;
          whole = all;
          book =
              k.book ∙ ap (λ (y : Parted). k.passed ++ y.book) is
              ∙ ap (λ (u : Bytes). k.passed ++ u) (sym (append_assoc l (newline ∷ []) (parted (split newline t.now)).book))
              ∙ sym (append_assoc k.passed (l ++ (newline ∷ [])) (parted (split newline t.now)).book);
          rest = k.rest ∙ ap (λ (y : Parted). y.rest) is;
        }
      where
        is : parted (split newline left) ≡ onto l (parted (split newline t.now))
        is = parts (sym z ∙ q)

-- ---- lines counted
pub count_is : (s : Bytes) → count_of_lines s ≡ count_by (λ b. eqb b newline) s
unfolding count_of_lines
count_is s = is_count_by count_of_lines (λ b. eqb b newline) refl (λ b t. one (eqb b newline) (count_of_lines t)) s
  where
    one : (t : Bool) (n : ℕ) → cond t 1 0 + n ≡ cond t (1 + n) n
    one true n = refl
    one false n = omega arith

-- ---- for callers
pub book_within : (s : Bytes) (r : ℕ) → BookEnd s (Some r) → r ≤ length s
book_within s r h = h.0

-- The bytes of lines, and of the table with one line more; a part of a table put back.
use Prim.Native.Nat.{ℕ, ◌+◌, ◌*◌, ◌-◌, ◌≤◌}
use native.Mathlib.Nat.{not-suc-le-zero}
use native.Mathlib.Numerals.{add-one}
use native.Mathlib.Omega.{arith}
use mathlib.Core.Path.{◌≡◌, refl, sym, ap, ◌∙◌, subst}
use mathlib.Core.Logic.{inl, inr}
use mathlib.Core.List.{List, [], ◌∷◌, ◌++◌, append_assoc, append-nil}
use lib.ListN.{length, take, drop, length-append, length-replicate, replicate-append-replicate}
use lib.Seq.{take_at, drop_at}
use Rattle.qbf.specs.Formula.{Node}
use Rattle.qbf.specs.Card.{Mem, line_bytes, bytes_of, table_of, zero_table}
use Rattle.theory.proofs.Cards.{bytes_length}

-- no line is longer than f
abbrev pub Short : ℕ → List Node → Type 0
Short f ls = (s : Node) → Mem s ls → length s ≤ f

pub zeros_length : (n : ℕ) → length (zero_table n) ≡ n
zeros_length n = length-replicate {A = ℕ} n 0

pub short_more : (f : ℕ) (ls : List Node) (s : Node) → Short f ls → length s ≤ f → Short f (ls ++ (s ∷ []))
short_more f [] s h k t (inl e) = subst (λ (x : Node). length x ≤ f) (sym e) k
short_more f [] s h k t (inr m) = absurd m
short_more f (x ∷ ls) s h k t (inl e) = h t (inl e)
short_more f (x ∷ ls) s h k t (inr m) = short_more f ls s (λ y n. h y (inr n)) k t m

pub short_less : (f : ℕ) (ls : List Node) (s : Node) → Short f (ls ++ (s ∷ [])) → Short f ls
short_less f [] s h t m = absurd m
short_less f (x ∷ ls) s h t (inl e) = h t (inl e)
short_less f (x ∷ ls) s h t (inr m) = short_less f ls s (λ y n. h y (inr n)) t m

pub short_last : (f : ℕ) (ls : List Node) (s : Node) → Short f (ls ++ (s ∷ [])) → length s ≤ f
short_last f [] s h = h s (inl refl)
short_last f (x ∷ ls) s h = short_last f ls s (λ y n. h y (inr n))

module _ (f : ℕ) where
  bytes_append : (ms ns : List Node) → bytes_of f (ms ++ ns) ≡ bytes_of f ms ++ bytes_of f ns
  bytes_append [] ns = refl
  bytes_append (s ∷ ms) ns = ap (λ (l : List ℕ). line_bytes f s ++ l) (bytes_append ms ns) ∙ sym (append_assoc (line_bytes f s) (bytes_of f ms) (bytes_of f ns))

  pub table_length : (size : ℕ) (ls : List Node) → Short f ls → length ls * f ≤ size → length (table_of f size ls) ≡ size
  table_length size ls h k = omega (arith, length-append (bytes_of f ls) (zero_table (size - length ls * f)), bytes_length f ls h, zeros_length (size - length ls * f))

  pub count_more : (ls : List Node) (s : Node) → length (ls ++ (s ∷ [])) * f ≡ length ls * f + f
  count_more ls s = ap (λ (n : ℕ). n * f) (length-append ls (s ∷ []) ∙ add-one (length ls)) ∙ omega arith

  -- the table of lines and one more, and the row where one more would stand
  pub one_more : (size : ℕ) (ls : List Node) (s : Node) → table_of f size (ls ++ (s ∷ [])) ≡ bytes_of f ls ++ (line_bytes f s ++ zero_table (size - (length ls * f + f)))
  one_more size ls s =
      ap (λ (n : ℕ). bytes_of f (ls ++ (s ∷ [])) ++ zero_table (size - n)) (count_more ls s)
      ∙ ap (λ (l : List ℕ). l ++ zero_table (size - (length ls * f + f))) (bytes_append ls (s ∷ []) ∙ ap (λ (l : List ℕ). bytes_of f ls ++ l) (append-nil (line_bytes f s)))
      ∙ append_assoc (bytes_of f ls) (line_bytes f s) (zero_table (size - (length ls * f + f)))

  pub free_row : (size : ℕ) (ls : List Node) → length ls * f + f ≤ size → table_of f size ls ≡ bytes_of f ls ++ (zero_table f ++ zero_table (size - (length ls * f + f)))
  free_row size ls h =
      let split : size - length ls * f ≡ f + (size - (length ls * f + f)) = omega arith in
      ap (λ (n : ℕ). bytes_of f ls ++ zero_table n) split
      ∙ ap (λ (l : List ℕ). bytes_of f ls ++ l) (sym (replicate-append-replicate {A = ℕ} f (size - (length ls * f + f)) 0))

-- ---- a part put back
pub spliced : (x y z w : List ℕ) (a k : ℕ) → length x ≡ a → length y ≡ k → take a (x ++ (y ++ z)) ++ (w ++ drop k (drop a (x ++ (y ++ z)))) ≡ x ++ (w ++ z)
spliced x y z w a k p q =
    ap (λ (l : List ℕ). take a (x ++ (y ++ z)) ++ (w ++ drop k l)) (drop_at x (y ++ z) a p)
    ∙ ap (λ (l : List ℕ). take a (x ++ (y ++ z)) ++ (w ++ l)) (drop_at y z k q)
    ∙ ap (λ (l : List ℕ). l ++ (w ++ z)) (take_at x (y ++ z) a p)

pub part_of : (x y z : List ℕ) (a k : ℕ) → length x ≡ a → length y ≡ k → take k (drop a (x ++ (y ++ z))) ≡ y
part_of x y z a k p q = ap (take k) (drop_at x (y ++ z) a p) ∙ take_at y z k q

-- with no free variable a line has no bytes
pub no_bytes : (ls : List Node) → Short 0 ls → bytes_of 0 ls ≡ []
no_bytes [] h = refl
no_bytes (s ∷ ls) h = ap (λ (l : List ℕ). line_bytes 0 s ++ l) (no_bytes ls (λ t m. h t (inr m))) ∙ append-nil (line_bytes 0 s) ∙ none s (h s (inl refl))
  where
    none : (s : Node) → length s ≤ 0 → line_bytes 0 s ≡ []
    none [] k = refl
    none (b ∷ s) k = absurd (not-suc-le-zero k)

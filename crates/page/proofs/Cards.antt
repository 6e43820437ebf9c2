-- The table that a card's call leaves can be printed: only its count of lines can be too large.
use Prim.Native.Nat.{ℕ, zero, suc, ◌*◌, ◌-◌, ◌≤◌}
use native.Mathlib.Omega.{arith}
use mathlib.Core.Path.{◌≡◌, refl, ap, ◌∙◌}
use mathlib.Core.Bool.{Bool, true, false, ◌||◌}
use mathlib.Core.List.{List, [], ◌∷◌, ◌++◌, map}
use lib.ListN.{length, take, replicate, length-append}
use lib.Seq.{take_at}
use lib.Dec.{ltb}
use borrow.Author.Tests.{le-ltb}
use Rattle.qbf.specs.Formula.{Node, Prefix, Clause, any}
use Rattle.qbf.specs.Truth.{Verdict, free_variables}
use Rattle.qbf.specs.Card.{Mem, byte_of, line_bytes, bytes_of, table_of}
use Rattle.qbf.specs.Demands.{CardShown}
use Rattle.layout.specs.Words.{Bytes}
use Rattle.layout.specs.Page.{most_lines, no_card}
use Rattle.theory.proofs.Basics.{or_false}
use Rattle.theory.proofs.Cards.{bytes_length}

any_both : (g : ℕ → Bool) (xs ys : Bytes) → any g xs ≡ false → any g ys ≡ false → any g (xs ++ ys) ≡ false
any_both g [] ys a b = b
any_both g (x ∷ xs) ys a b = any_cons (g x) (any g xs) a (any_both g xs ys)
  where
    any_cons : (u v : Bool) → (u || v) ≡ false → (v ≡ false → any g ys ≡ false → any g (xs ++ ys) ≡ false) → (u || any g (xs ++ ys)) ≡ false
    any_cons true v e ih = e
    any_cons false v e ih = ih e b

values_small : (s : Node) → any (ltb 2) (map byte_of s) ≡ false
values_small [] = refl
values_small (true ∷ s) = values_small s
values_small (false ∷ s) = values_small s

zeros_small : (n : ℕ) → any (ltb 2) (replicate n 0) ≡ false
zeros_small zero = refl
zeros_small (suc n) = zeros_small n

bytes_small : (f : ℕ) (ls : List Node) → any (ltb 2) (bytes_of f ls) ≡ false
bytes_small f [] = refl
bytes_small f (s ∷ ls) =
    any_both (ltb 2) (line_bytes f s) (bytes_of f ls) (any_both (ltb 2) (map byte_of s) (replicate (f - length s) 0) (values_small s) (zeros_small (f - length s))) (bytes_small f ls)

module _ (f size : ℕ) (ls : List Node) (short : (s : Node) → Mem s ls → length s ≤ f) (fits : length ls * f ≤ size) where
  pub table_printable : length ls ≤ most_lines → no_card (table_of f size ls) (length ls) f ≡ false
  table_printable h =
      or_false (ltb most_lines (length ls)) (ltb (length (table_of f size ls)) (length ls * f) || any (ltb 2) (take (length ls * f) (table_of f size ls))) (le-ltb most_lines (length ls) h)
      (or_false (ltb (length (table_of f size ls)) (length ls * f)) (any (ltb 2) (take (length ls * f) (table_of f size ls)))
      (le-ltb (length (table_of f size ls)) (length ls * f) (omega (arith, length-append (bytes_of f ls) (replicate (size - length ls * f) 0), bytes_length f ls short)))
      (ap (any (ltb 2)) (take_at (bytes_of f ls) (replicate (size - length ls * f) 0) (length ls * f) (bytes_length f ls short)) ∙ bytes_small f ls))

-- a card that is not refused, of at most 99,999 lines
pub card_printable : (p : Verdict) (D : Prefix) (R : List Clause) (size : ℕ) (ls : List Node) (tb : Bytes) → CardShown p D R size ls tb → length ls * free_variables D ≤ size
    → length ls ≤ most_lines → no_card tb (length ls) (free_variables D) ≡ false
card_printable p D R size ls tb c fits h =
    ap (λ (t : Bytes). no_card t (length ls) (free_variables D)) c.table ∙ table_printable (free_variables D) size ls (λ s m. ((c.right.topmost s).0 m).within) fits h

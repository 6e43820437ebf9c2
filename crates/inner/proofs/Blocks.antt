-- Four words at once: of a union what is read is as it was, since it stands before what is written; of a row what is not in another is gathered.
use Prim.Native.Nat.{ℕ, ◌+◌, ◌<◌}
use native.Mathlib.Omega.{arith}
use mathlib.Core.Path.{◌≡◌, refl, sym, ◌∙◌, subst}
use mathlib.Core.List.{List}
use lib.ListN.{get_or, set}
use lib.Seq.{get_or-set_other}
use lib.Bits.{bit_and, bit_or, bit_xor}
use Rattle.bitset.specs.Words.{rest}
use Rattle.bitset.proofs.Gathered.{gathered, gathered_more}
use Rattle.bitset.proofs.Outside.{rests}
use Rattle.bitset.proofs.Uniting.{Uniting, uniting_more}

-- a cell before the one that is written
unread : (l : List ℕ) (i j v : ℕ) → i < j → get_or l i 0 ≡ get_or (set l j v) i 0
unread l i j v h = sym (get_or-set_other l j i v 0 (λ e. omega (arith, e, h)))

module _ (t : List ℕ) (from to : ℕ) (by : List ℕ) where
  -- a word of the union of what the table holds, and what is new in it
  abbrev word : List ℕ → ℕ → ℕ
  word l i = bit_or (get_or l (from + i) 0) (get_or by i 0)

  abbrev more : List ℕ → ℕ → ℕ
  more l i = bit_xor (get_or l (from + i) 0) (word l i)

  pub as_far : {i j : ℕ} {l : List ℕ} {c n : ℕ} → i ≡ j → Uniting t from to by i l c n → Uniting t from to by j l c n
  as_far {l = l} {c} {n} e u = subst (λ (k : ℕ). Uniting t from to by k l c n) e u

  pub uniting_block : (j : ℕ) (l : List ℕ) (c n : ℕ) → from + (j + 1 + 1 + 1) < to → Uniting t from to by j l c n
      → Uniting t from to by (j + 1 + 1 + 1 + 1)
      (set (set (set (set l (to + j) (word l j)) (to + (j + 1)) (word l (j + 1))) (to + (j + 1 + 1)) (word l (j + 1 + 1))) (to + (j + 1 + 1 + 1)) (word l (j + 1 + 1 + 1)))
      (bit_and (bit_and (bit_and (bit_and c (word l j)) (word l (j + 1))) (word l (j + 1 + 1))) (word l (j + 1 + 1 + 1)))
      (bit_or (bit_or (bit_or (bit_or n (more l j)) (more l (j + 1))) (more l (j + 1 + 1))) (more l (j + 1 + 1 + 1)))
  uniting_block j l c n h u =
      let l1 : List ℕ = set l (to + j) (word l j) in
      let l2 : List ℕ = set l1 (to + (j + 1)) (word l (j + 1)) in
      let u1 = uniting_more t from to by j l c n _ _ (omega (arith, h)) u refl refl in
      let u2 = uniting_more t from to by (j + 1) l1 _ _ _ _ (omega (arith, h)) u1 (unread l (from + (j + 1)) (to + j) (word l j) (omega (arith, h))) refl in
      let u3 = uniting_more t from to by (j + 1 + 1) l2 _ _ _ _ (omega (arith, h)) u2
      (unread l (from + (j + 1 + 1)) (to + j) (word l j) (omega (arith, h)) ∙ unread l1 (from + (j + 1 + 1)) (to + (j + 1)) (word l (j + 1)) (omega (arith, h))) refl in
      uniting_more t from to by (j + 1 + 1 + 1) (set l2 (to + (j + 1 + 1)) (word l (j + 1 + 1))) _ _ _ _ h u3
      (unread l (from + (j + 1 + 1 + 1)) (to + j) (word l j) (omega (arith, h))
      ∙ unread l1 (from + (j + 1 + 1 + 1)) (to + (j + 1)) (word l (j + 1)) (omega (arith, h))
      ∙ unread l2 (from + (j + 1 + 1 + 1)) (to + (j + 1 + 1)) (word l (j + 1 + 1)) (omega (arith, h))) refl

module _ (a b : List ℕ) where
  -- what is in a word of the first row and not in that of the second
  abbrev out : ℕ → ℕ
  out i = rest (get_or a i 0) (get_or b i 0)

  pub gathered_block : (j w : ℕ) → w ≡ gathered bit_or 0 (rests a b) j
      → bit_or (bit_or (bit_or (bit_or w (out j)) (out (j + 1))) (out (j + 1 + 1))) (out (j + 1 + 1 + 1)) ≡ gathered bit_or 0 (rests a b) (j + 1 + 1 + 1 + 1)
  gathered_block j w e =
      let f : ℕ → ℕ = rests a b in
      gathered_more bit_or 0 f (j + 1 + 1 + 1) _ _ (gathered_more bit_or 0 f (j + 1 + 1) _ _ (gathered_more bit_or 0 f (j + 1) _ _ (gathered_more bit_or 0 f j _ _ e refl) refl) refl) refl

-- A part of a lent table: its length and its cells, and what writing a cell or a part leaves.
use Prim.Native.Nat.{ℕ, ◌+◌, ◌-◌, ◌≤◌, ◌<◌}
use native.Mathlib.Omega.{arith}
use mathlib.Core.Path.{◌≡◌, sym, ap, ◌∙◌}
use mathlib.Core.List.{List, ◌++◌}
use borrow.Rule.Slice.PartMut.{put_mid, post_of, take_put, drop_put}
use lib.ListN.{length, get_or, set, take, drop, length-drop, length-take}
use lib.Seq.{length-take-le, take-take, take_at, drop_at, drop-drop, get_or-take, get_or-drop, take-set-lt, take-set-le, drop-set-lt, drop-set-add}
use Rattle.std.proofs.lemmas.List.{drop-take}
use Rattle.state_parts.specs.Parts.{part}

module _ {A : Type 0} where
  -- ---- its length and its cells
  pub part_length : (from len : ℕ) (t : List A) → from + len ≤ length t → length (part from len t) ≡ len
  part_length from len t h = length-take-le len (drop from t) (simp length-drop (omega arith))

  -- a table that is too short leaves less
  pub part_most : (from len : ℕ) (t : List A) → length (part from len t) ≤ length t - from
  part_most from len t = omega (arith, length-take len (drop from t), length-drop from t)

  pub part_at : (from len : ℕ) (t : List A) (i : ℕ) (d : A) → i < len → get_or (part from len t) i d ≡ get_or t (from + i) d
  part_at from len t i d h = get_or-take len (drop from t) i d h ∙ get_or-drop from t i d

  -- ---- a cell that is written
  pub part_set : (from len : ℕ) (t : List A) (i : ℕ) (v : A) → i < len → part from len (set t (from + i) v) ≡ set (part from len t) i v
  part_set from len t i v h = ap (take len) (drop-set-add from t i v) ∙ take-set-lt len (drop from t) i v h

  pub part_set_before : (from len : ℕ) (t : List A) (i : ℕ) (v : A) → i < from → part from len (set t i v) ≡ part from len t
  part_set_before from len t i v h = ap (take len) (drop-set-lt from t i v h)

  pub part_set_after : (from len : ℕ) (t : List A) (i : ℕ) (v : A) → from + len ≤ i → part from len (set t i v) ≡ part from len t
  part_set_after from len t i v h =
      let e : i ≡ from + (i - from) = omega (arith, h) in
      ap (λ (j : ℕ). part from len (set t j v)) e ∙ ap (take len) (drop-set-add from t (i - from) v) ∙ take-set-le len (drop from t) (i - from) v (omega (arith, h))

  -- ---- a part of k cells from a on that is lent to be written: it is what was written, and the others stay
  pub put_here : (a k : ℕ) (t ys : List A) → a + k ≤ length t → length ys ≡ k → part a k (put_mid a k t ys) ≡ ys
  put_here a k t ys h l = ap (take k) (drop_at (take a t) (ys ++ post_of a k t) a (length-take-le a t (omega (arith, h)))) ∙ take_at ys (post_of a k t) k l

  pub put_before : (from len a k : ℕ) (t ys : List A) → from + len ≤ a → a ≤ length t → part from len (put_mid a k t ys) ≡ part from len t
  put_before from len a k t ys h g =
      sym (drop-take from len (put_mid a k t ys))
      ∙ ap (drop from) (sym (take-take (from + len) a (put_mid a k t ys) h) ∙ ap (take (from + len)) (take_put a k t ys g) ∙ take-take (from + len) a t h)
      ∙ drop-take from len t

  -- all that lies behind it, and so each part there
  pub put_behind : (from a k : ℕ) (t ys : List A) → a + k ≤ from → a + k ≤ length t → length ys ≡ k → drop from (put_mid a k t ys) ≡ drop from t
  put_behind from a k t ys i g l =
      ap (λ (j : ℕ). drop j (put_mid a k t ys)) q
      ∙ sym (drop-drop (from - (a + k)) (a + k) (put_mid a k t ys))
      ∙ ap (drop (from - (a + k))) behind
      ∙ drop-drop (from - (a + k)) (a + k) t
      ∙ ap (λ (j : ℕ). drop j t) (sym q)
    where
      q : from ≡ (a + k) + (from - (a + k))
      q = omega (arith, i)

      size : (a + k) - a ≡ k
      size = omega arith

      behind : drop (a + k) (put_mid a k t ys) ≡ drop (a + k) t
      behind =
          ap (λ (j : ℕ). drop (a + k) (put_mid a j t ys)) (sym size)
          ∙ drop_put a (a + k) t ys (omega arith) g (l ∙ sym size)

  pub put_after : (from len a k : ℕ) (t ys : List A) → a + k ≤ from → a + k ≤ length t → length ys ≡ k → part from len (put_mid a k t ys) ≡ part from len t
  put_after from len a k t ys i g l = ap (take len) (put_behind from a k t ys i g l)

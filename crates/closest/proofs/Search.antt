-- The search over the lines of a table, from the last to the first.
use Prim.Native.Nat.{ℕ, suc, ◌+◌, ◌*◌, ◌-◌, ◌≤◌, ◌<◌}
use native.Mathlib.Numerals.{add-one}
use native.Mathlib.Omega.{arith}
use mathlib.Core.Path.{◌≡◌, refl, sym, ap, ◌∙◌, subst, subst₂}
use mathlib.Core.Logic.{inl, inr}
use mathlib.Core.Bool.{Bool, true, false, cond}
use mathlib.Core.List.{List, [], ◌∷◌}
use mathlib.Core.Option.{Option, none, some}
use lib.ListN.{length, drop, length-take, length-drop}
use lib.Seq.{drop-drop}
use lib.Dec.{leb}
use borrow.Author.Tests.{le-leb}
use Rattle.qbf.specs.Formula.{Node}
use Rattle.qbf.specs.Closest.{distance, Found, nearest, on_line, nearer, closest_in}
use Rattle.closest.specs.Table.{line_in, lines_in, row_at, Best, SoFar}

module _ (f lines : ℕ) (table : List ℕ) (t : Node) where
  -- the lines from k on are line k and those after it
  lines_from : (k : ℕ) → k < lines → lines_in f (lines - k) (drop (k * f) table) ≡ line_in (row_at f table k) ∷ lines_in f (lines - (k + 1)) (drop ((k + 1) * f) table)
  unfolding lines_in
  lines_from k h =
      let n : lines - k ≡ suc (lines - (k + 1)) = omega arith in
      let m : k * f + f ≡ (k + 1) * f = sym (ap (λ (j : ℕ). j * f) (add-one k) ∙ omega arith) in
      ap (λ (j : ℕ). lines_in f j (drop (k * f) table)) n
      ∙ ap (λ (l : List ℕ). line_in (row_at f table k) ∷ lines_in f (lines - (k + 1)) l) (drop-drop f (k * f) table ∙ ap (λ (j : ℕ). drop j table) m)

  -- one line more, in front
  pub best_more : (k line number n : ℕ) → k < lines → n ≡ distance (line_in (row_at f table k)) t → n ≤ f → SoFar f lines table t (k + 1) line number
      → Best f lines table t k (cond (leb n number) k line) (cond (leb n number) n number)
  unfolding lines_in
  best_more k line number n h e s (inl (z, w)) =
      subst (λ (x : Bool). Best f lines table t k (cond x k line) (cond x n number)) (sym (le-leb n number (omega arith)))
      (record { within = h; small = s; is = ap (λ (l : List Node). closest_in l t) (lines_from k h) ∙ ap (λ (l : List Node). some (nearer (on_line (line_in (row_at f table k)) t) (closest_in l t))) nothing; far = e })
    where
      nothing : lines_in f (lines - (k + 1)) (drop ((k + 1) * f) table) ≡ []
      nothing = let q : lines - (k + 1) ≡ 0 = omega arith in ap (λ (j : ℕ). lines_in f j (drop ((k + 1) * f) table)) q
  best_more k line number n h e s (inr b) = by (leb n number) refl
    where
      here : closest_in (lines_in f (lines - k) (drop (k * f) table)) t ≡ some (cond (leb n number) (on_line (line_in (row_at f table k)) t) (on_line (line_in (row_at f table line)) t))
      here =
          ap (λ (l : List Node). closest_in l t) (lines_from k h)
          ∙ ap (λ (o : Option Found). some (nearer (on_line (line_in (row_at f table k)) t) o)) b.is
          ∙ sym (cc (e, b.far))

      by : (x : Bool) → leb n number ≡ x → Best f lines table t k (cond x k line) (cond x n number)
      by true q = record { within = h; small = s; is = here ∙ ap (λ (x : Bool). some (cond x (on_line (line_in (row_at f table k)) t) (on_line (line_in (row_at f table line)) t))) q; far = e }
      by false q = record { within = b.within; small = b.small; is = here ∙ ap (λ (x : Bool). some (cond x (on_line (line_in (row_at f table k)) t) (on_line (line_in (row_at f table line)) t))) q; far = b.far }

  -- the same, of the values that the code has
  pub best_next : (j k line number n line' number' : ℕ) (row : List ℕ) → j + 1 ≡ k → j < lines → row ≡ row_at f table j → n ≡ distance (line_in row) t → n ≤ f
      → SoFar f lines table t k line number → line' ≡ cond (leb n number) j line → number' ≡ cond (leb n number) n number → SoFar f lines table t j line' number'
  best_next j k line number n line' number' row z h r e s so p q =
      inr
      (subst₂ (λ (a b : ℕ). Best f lines table t j a b) (sym p) (sym q)
      (best_more j line number n h (e ∙ ap (λ (l : List ℕ). distance (line_in l) t) r) s (subst (λ (i : ℕ). SoFar f lines table t i line number) (sym z) so)))

  -- at the first line the search is done
  pub best_last : (k line number : ℕ) → k ≡ 0 → 0 < lines → SoFar f lines table t k line number → Best f lines table t 0 line number
  best_last k line number z h (inl (p, q)) = absurd (omega arith)
  best_last k line number z h (inr b) = subst (λ (i : ℕ). Best f lines table t i line number) z b

pub row_length : (f j : ℕ) (table : List ℕ) → j * f + f ≤ length table → length (row_at f table j) ≡ f
row_length f j table h = omega (arith, length-take f (drop (j * f) table), length-drop (j * f) table)

module _ (f lines : ℕ) (table : List ℕ) (t : Node) where
  -- a card with no line
  pub no_line : lines ≡ 0 → closest_in (lines_in f lines table) t ≡ none
  unfolding lines_in
  no_line z = ap (λ (n : ℕ). closest_in (lines_in f n table) t) z

  -- the search over all lines
  pub all_lines_lem : (line number : ℕ) → Best f lines table t 0 line number
      → closest_in (lines_in f lines table) t ≡ some (record { reading = nearest (line_in (row_at f table line)) t; number = number })
  all_lines_lem line number b =
      let n : lines ≡ lines - 0 = omega arith in
      let z : 0 ≡ 0 * f = omega arith in
      ap (λ (i : ℕ). closest_in (lines_in f i table) t) n
      ∙ ap (λ (i : ℕ). closest_in (lines_in f (lines - 0) (drop i table)) t) z
      ∙ b.is
      ∙ ap (λ (i : ℕ). some (record { reading = nearest (line_in (row_at f table line)) t; number = i })) (sym b.far)

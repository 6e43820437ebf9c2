-- The way down to the start node: the row before the first place, then a row and a mark for each place.
use Prim.Native.Nat.{ℕ, suc, ◌+◌, ◌-◌, ◌*◌, ◌≤◌, ◌<◌}
use native.Mathlib.Nat.{eq-or-lt_of_le}
use native.Mathlib.Omega.{arith}
use mathlib.Core.Path.{◌≡◌, refl, sym, ap, ◌∙◌, subst}
use mathlib.Core.Logic.{◌⊎◌, inl, inr}
use mathlib.Core.Bool.{Bool, true, false, ◌&&◌, ◌||◌}
use mathlib.Core.List.{List}
use mathlib.Core.Option.{some}
use lib.Dec.{eqb, leb, ltb}
use lib.ListN.{length, get_or, set, take}
use lib.Seq.{length-take-le, take-take}
use borrow.Author.Tests.{eq-eqb, le-leb, lt-leb, lt-ltb, le-ltb, ne_eqb}
use Rattle.bitset.specs.Rows.{Cleared, Inserted, Unites, member, width}
use Rattle.qbf.specs.Formula.{highest, Clause, Node, Prefix, value_at}
use Rattle.theory.proofs.Basics.{le_or_lt, value_some}
use Rattle.theory.proofs.Implicants.{value_take}
use Rattle.tables.specs.Codes.{code_at, sign, Statuses}
use Rattle.tables.specs.Shelves.{code_count}
use Rattle.tables.specs.Matrices.{RowLength}
use Rattle.tables.specs.Sets.{Descended}
use Rattle.clause_sets.proofs.Descending.{rows_agree, rows_start}
use Rattle.clause_sets.proofs.StepMarks.{marks_agree, marks_set, marks_start}
use Rattle.clause_sets.proofs.Unions.{unites_step}
use Rattle.inner.specs.Inner.{Inside}
use Rattle.loading_start.specs.Started.{FirstRow, StartShown}

-- ---- the row before the first place
-- the numbers from `count` up to i are in it
pub record RowUpTo (count wc i : ℕ) (sat₀ sat : List ℕ) : Type 0 where
  pub long : length sat ≡ length sat₀
  pub from : count ≤ i
  pub row : (j : ℕ) → j < wc * width → member sat 0 j ≡ (leb count j && ltb j i)

pub row_none : {count wc : ℕ} {start sat : List ℕ} → Cleared 0 wc start sat → RowUpTo count wc count sat sat
row_none {count} {wc} {start} {sat} c = record { long = refl; from = omega arith; row = λ j h. c.empty j h ∙ sym (by j (le_or_lt count j)) }
  where
    by : (j : ℕ) → (count ≤ j) ⊎ (j < count) → (leb count j && ltb j count) ≡ false
    by j (inl h) = rw (le-leb count j h, le-ltb j count h)
    by j (inr h) = rw (lt-leb count j h)

pub row_more : {count wc i : ℕ} {sat₀ sat after : List ℕ} → RowUpTo count wc i sat₀ sat → Inserted 0 i sat after → RowUpTo count wc (i + 1) sat₀ after
row_more {count} {wc} {i} {sat₀} {sat} {after} r put = record {
  long = put.long ∙ r.long;
  from = omega (arith, r.from);
  row = λ j h.
      put.members 0 j
      ∙ ap (λ (x : Bool). x || eqb (0 * width + j) (0 * width + i)) (r.row j h)
      ∙ by j (le_or_lt i j);
}
  where
    apart : (j : ℕ) → (j ≡ i → ⊥) → eqb (0 * width + j) (0 * width + i) ≡ false
    apart j h = ne_eqb (0 * width + j) (0 * width + i) (λ e. h (omega (arith, e)))

    low : (x : Bool) → ((x && true) || false) ≡ (x && true)
    low true = refl
    low false = refl

    high : (x : Bool) → ((x && false) || false) ≡ (x && false)
    high true = refl
    high false = refl

    at : (j : ℕ) → (i ≡ j) ⊎ (i < j) → ((leb count j && ltb j i) || eqb (0 * width + j) (0 * width + i)) ≡ (leb count j && ltb j (i + 1))
    at j (inl e) =
        rw (le-leb count j (omega (arith, e, r.from)), le-ltb j i (omega (arith, e)), lt-ltb j (i + 1) (omega (arith, e)), eq-eqb (0 * width + j) (0 * width + i) (omega (arith, e)))
    at j (inr h) = rw (le-ltb j i (omega (arith, h)), le-ltb j (i + 1) (omega (arith, h)), apart j (λ e. omega (arith, e, h))) (high (leb count j))

    by : (j : ℕ) → (i ≤ j) ⊎ (j < i) → ((leb count j && ltb j i) || eqb (0 * width + j) (0 * width + i)) ≡ (leb count j && ltb j (i + 1))
    by j (inl h) = at j (eq-or-lt_of_le h)
    by j (inr h) = rw (lt-ltb j i h, lt-ltb j (i + 1) (omega (arith, h)), apart j (λ e. omega (arith, e, h))) (low (leb count j))

pub row_end : {count wc i : ℕ} {start sat₀ sat : List ℕ} → RowUpTo count wc i sat₀ sat → length sat₀ ≡ length start → wc * width ≤ i
    → FirstRow count wc start sat
row_end {count} {wc} {i} r long h = record { long = r.long ∙ long; row = λ j m. r.row j m ∙ rw (lt-ltb j i (omega (arith, m, h))) (by (leb count j)) }
  where
    by : (x : Bool) → (x && true) ≡ x
    by true = refl
    by false = refl

-- ---- a place more
pub inside : {p code wc : ℕ} → 1 ≤ p → p ≤ highest.numbers → code < code_count → RowLength wc → Inside p code wc
inside inner within small words = record { inner = inner; within = within; small = small; words = words }

module _ {D : Prefix} {R : List Clause} {wc : ℕ} {sat marks : List ℕ} where
  -- a node with the same first values
  descended_agree : {s : Node} {k : ℕ} → Descended D s R wc sat marks k → (t : Node) → take k t ≡ take k s → Descended D t R wc sat marks k
  descended_agree g t same = record { rows = rows_agree g.rows t same; marked = marks_agree g.marked t same }

  -- before the first
  pub descended_none : (s : Node) {sat₀ : List ℕ} → FirstRow (length R) wc sat₀ sat → Descended D s R wc sat marks 0
  descended_none s f = record { rows = rows_start s sat f.row; marked = marks_start s marks }

  -- the place before the next one
  pub descended_next : {s : Node} {k : ℕ} → Descended D s R wc sat marks k → Descended D s R wc sat marks (k + 1 - 1)
  descended_next {s} {k} g = let z : k ≡ k + 1 - 1 = omega arith in subst (Descended D s R wc sat marks) z g

module _ {D : Prefix} {R : List Clause} {s : Node} {wc at : ℕ} {sets statuses : List ℕ} (shown : StartShown D R s wc at sets statuses)
    {p code : ℕ} (inner : 1 ≤ p) (low : p ≤ at) (coded : (s : Node) (b : Bool) → Statuses s statuses → value_at s p ≡ some b → code ≡ code_at p b)
    {sat sat' marks marks' : List ℕ} (known : Descended D s R wc sat marks (p - 1))
    {every new : Bool} (u : Unites ((p - 1) * wc) (p * wc) sets (code * 2 * wc) wc sat sat' every new)
    (put : marks' ≡ set marks p (sign new)) (room : p < length marks) where
  abbrev k : ℕ
  k = p - 1

  here : p ≡ suc k
  here = omega (arith, inner)

  -- the node of the first p places, and its last value
  abbrev t : Node
  t = take p s

  abbrev b : Bool
  b = get_or s k false

  value : value_at s p ≡ some b
  value = ap (value_at s) here ∙ value_some s k (omega (arith, shown.long, low, inner))

  one_of : (x : Bool) → eqb (sign x) 1 ≡ x
  one_of true = refl
  one_of false = refl

  pub descended_more : Descended D s R wc sat' marks' p
  descended_more =
      let first = descended_agree known t (take-take k p s (omega arith)) in
      let w =
      unites_step D t k b (length-take-le p s (omega (arith, shown.long, low)) ∙ here)
      (ap (value_at t) (sym here) ∙ value_take p s p (omega arith) ∙ value) shown.clauses (omega (arith, shown.inside, low, inner)) first.rows refl
      (ap (λ (n : ℕ). n * wc) here) (ap (λ (c : ℕ). c * 2 * wc) (coded s b shown.values value ∙ ap (λ (n : ℕ). code_at n b) here)) u
      in
      let marked =
      marks_set first.marked (sign new) (put ∙ ap (λ (n : ℕ). set marks n (sign new)) here) (omega (arith, here, room)) (one_of new ∙ w.mark)
      in
      descended_agree (subst (Descended D t R wc sat' marks') (sym here) (record { rows = w.rows; marked = marked })) s
      (sym (take-take p p s (omega arith)))

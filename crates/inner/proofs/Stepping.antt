-- The step to an inner node by its last value: the code of that value, the rows that it reads, the clause that dies, the row and the mark that
-- it leaves, and the cube.
use Prim.Native.Nat.{ℕ, suc, ◌+◌, ◌-◌, ◌*◌, ◌≤◌, ◌<◌}
use native.Mathlib.Nat.{mul-le-mul, suc-mul}
use native.Mathlib.Numerals.{add-one}
use native.Mathlib.Omega.{arith}
use mathlib.Core.Path.{◌≡◌, refl, sym, ap, ◌∙◌, subst}
use mathlib.Core.Bool.{Bool, true, false}
use mathlib.Core.List.{List, []}
use mathlib.Core.Option.{none, some}
use lib.ListN.{length, get_or, set, take, drop}
use lib.Seq.{get_or-set_other}
use lib.Dec.{eqb}
use Rattle.qbf.specs.Formula.{highest, Clause, Formula, Node, Prefix, all, satisfied, value_at}
use Rattle.qbf.specs.Learning.{Store, lowest_dead, implicant, reduce, reduced_found}
use Rattle.qbf.specs.Card.{Mem}
use Rattle.theory.proofs.Game.{Rising}
use Rattle.theory.proofs.WellFormed.{FormulaFacts, clauses_rising}
use Rattle.bitset.specs.Rows.{Unites, least_below, outside, some_below, width}
use Rattle.bitset.proofs.Below.{least, some_at, some_none}
use Rattle.tables.specs.Codes.{code_at, codes, sign, Statuses}
use Rattle.inner.specs.Formed.{Formed}
use Rattle.tables.specs.Shelves.{code_count}
use Rattle.tables.specs.Matrices.{MatrixShown, clause_row, dying_at, left_at, row_words}
use Rattle.tables.specs.Sets.{ClauseSets, Descended, MarkedSteps, RowsKept, dying_row, marked_from, satisfying_row}
use Rattle.clause_sets.proofs.Descending.{first_dies, none_dies}
use Rattle.clause_sets.proofs.StepMarks.{cube_marked, marks_set}
use Rattle.clause_sets.proofs.Unions.{unites_step}
use Rattle.inner.specs.Inner.{Entered, Inside, LastGiven}
use Rattle.inner.proofs.LastLiteral.{last_value}

-- the formula is well formed under the highest limits
abbrev pub formula_of : Prefix → List Clause → Formula
formula_of D R = record { limits = highest; prefix = D; clauses = R }

pub facts : {D : Prefix} {R : List Clause} {st : Store} → Formed D R st → FormulaFacts (formula_of D R)
facts h = record {
  limits_ok = refl;
  prefix_ok = h.prefix_ok;
  free_ok = h.free_ok;
  clauses_ok = h.clauses_ok;
}

-- the clauses are in place order
pub rising : {D : Prefix} {R : List Clause} {st : Store} → Formed D R st → (r : Clause) → Mem r R → Rising D 0 r
rising {D} {R} h = clauses_rising (formula_of D R) (facts h)

-- the value given last has that code
pub last_given : {s : Node} {t : List ℕ} {at code : ℕ} → Statuses s t → length s ≡ at → 1 ≤ at
    → ((s : Node) (b : Bool) → Statuses s t → value_at s at ≡ some b → code ≡ code_at at b) → LastGiven s at code
last_given {s} shown long inner is =
    let v = last_value s (omega (arith, long, inner)) in
    let e = ap (value_at s) (sym long) ∙ v.1 in
    record { long = long; value = v.0; last = e; coded = is s v.0 shown e }

-- ---- rows lie within their tables
module _ {at code wc : ℕ} (h : Inside at code wc) where
  twice : code * 2 + 2 ≤ code_count * 2
  twice = omega (arith, h.small)

  pub rows_room : at * wc + wc ≤ suc highest.numbers * row_words
  rows_room =
      let m : suc at * wc ≤ suc highest.numbers * row_words = mul-le-mul {n₁ = suc at} {m₁ = wc} {n₂ = suc highest.numbers} {m₂ = row_words} (omega (arith, h.within)) h.words.few in
      omega (arith, m, suc-mul at wc)

-- ---- the clause that dies, and its row
module _ {D : Prefix} {R : List Clause} {s : Node} {st : Store} {at code wc k : ℕ} {clauses sets sat marks : List ℕ} (given : LastGiven s at code)
    (shown : MatrixShown D R wc clauses sets) (formed : Formed D R st) (entered : Entered D s R wc sat marks k) where
  is : at ≡ suc k
  is = sym given.long ∙ entered.long

  last : value_at s (suc k) ≡ some given.value
  last = ap (value_at s) (sym is) ∙ given.last

  coded : code ≡ code_at (suc k) given.value
  coded = given.coded ∙ ap (λ (p : ℕ). code_at p given.value) is

  abbrev killing : ℕ → Bool
  killing = outside sets (dying_row wc code) sat ((at - 1) * wc)

  same : killing ≡ outside sets (dying_row wc (code_at (suc k) given.value)) sat (k * wc)
  same =
      let z : at - 1 ≡ k = omega (arith, is) in
      ap (λ (c : ℕ). outside sets (dying_row wc c) sat ((at - 1) * wc)) coded
      ∙ ap (λ (j : ℕ). outside sets (dying_row wc (code_at (suc k) given.value)) sat (j * wc)) z

  pub nothing_dies : {r : Bool} → r ≡ some_below killing (wc * width) → r ≡ false → reduced_found D false (lowest_dead D s R) ≡ none
  nothing_dies q e =
      ap (reduced_found D false)
      (none_dies D s k given.value entered.long last shown.by_code entered.inside entered.known.rows (rising formed) entered.alive
      (sym (ap (λ (f : ℕ → Bool). some_below f (wc * width)) same) ∙ sym q ∙ e))

  pub one_dies : {r : Bool} → r ≡ some_below killing (wc * width) → r ≡ true → {i : ℕ} → i ≡ least_below killing (wc * width)
      → (i < length R) × (reduced_found D false (lowest_dead D s R) ≡ some (reduce D false (get_or R i [])))
  one_dies q e {i} found =
      let w =
      first_dies D s k given.value entered.long last shown.by_code entered.inside entered.known.rows (rising formed) entered.alive
      (sym (ap (λ (f : ℕ → Bool). some_below f (wc * width)) same) ∙ sym q ∙ e) (found ∙ ap (λ (f : ℕ → Bool). least_below f (wc * width)) same) in
      (w.0, ap (reduced_found D false) w.1)

  -- by the least clause that dies, which is the limit where none does
  pub none_least : {i : ℕ} → i ≡ least_below killing (wc * width) → wc * width ≤ i → reduced_found D false (lowest_dead D s R) ≡ none
  none_least found h =
      nothing_dies refl (some_none killing (wc * width) (λ j p. (least killing (wc * width)).before j (omega (arith, found, h, p))))

  pub one_least : {i : ℕ} → i ≡ least_below killing (wc * width) → i < wc * width → (i < length R) × (reduced_found D false (lowest_dead D s R) ≡ some (reduce D false (get_or R i [])))
  one_least {i} found h =
      one_dies refl (some_at killing (wc * width) i h (ap killing found ∙ (least killing (wc * width)).at (omega (arith, found, h)))) found

-- ---- the node's row and mark
pub step_kept : {from at wc b₀ n : ℕ} {by sat sat' marks marks' : List ℕ} {every new : Bool} → Unites from (at * wc) by b₀ n sat sat' every new
    → (v : ℕ) → marks' ≡ set marks at v → RowsKept at wc sat sat' marks marks'
step_kept {at = at} {marks = marks} u v put = record {
  rows = λ f i h. u.kept.below f i h;
  marked = λ i h. ap (λ (xs : List ℕ). get_or xs i 0) put ∙ get_or-set_other marks at i v 0 (λ e. omega (arith, e, h));
}

module _ {D : Prefix} {R : List Clause} {s : Node} {at code wc k : ℕ} {sets sat sat' marks marks' : List ℕ} (given : LastGiven s at code)
    (shown : ClauseSets D R wc sets) (entered : Entered D s R wc sat marks k) {every new : Bool}
    (u : Unites ((at - 1) * wc) (at * wc) sets (satisfying_row wc code) wc sat sat' every new)
    (put : marks' ≡ set marks at (sign new)) (room : at < length marks) where
  here : at ≡ suc k
  here = sym given.long ∙ entered.long

  one_of : (b : Bool) → eqb (sign b) 1 ≡ b
  one_of true = refl
  one_of false = refl

  pub stepped : Descended D s R wc sat' marks' at × (every ≡ all (satisfied D s) R)
  stepped =
      let z : at - 1 ≡ k = omega (arith, here) in
      let w =
      unites_step D s k given.value entered.long (ap (value_at s) (sym here) ∙ given.last) shown entered.inside entered.known.rows (ap (λ (j : ℕ). j * wc) z) (ap (λ (j : ℕ). j * wc) here)
      (ap (satisfying_row wc) (given.coded ∙ ap (λ (p : ℕ). code_at p given.value) here)) u in
      let marked =
      marks_set entered.known.marked (sign new) (put ∙ ap (λ (j : ℕ). set marks j (sign new)) here) (omega (arith, here, room)) (one_of new ∙ w.mark) in (
        subst (Descended D s R wc sat' marks') (sym here) (record { rows = w.rows; marked = marked }),
        w.all_satisfied,
      )

-- ---- the cube of the marked places
pub steps_cube : {D : Prefix} {R : List Clause} {s : Node} {st : Store} {at : ℕ} {marks : List ℕ} → Formed D R st → length s ≡ at → MarkedSteps D s R marks at
    → all (satisfied D s) R ≡ true → marked_from 1 s marks ≡ codes D (implicant D s R [])
steps_cube {D} {R} {s} {st} {at} {marks} formed long m every =
    sym (cube_marked D R (rising formed) s marks (subst (MarkedSteps D s R marks) (sym long) m) every)

-- ---- the row of a clause
pub clause_part : (cells : List ℕ) (k n : ℕ) → n ≡ left_at cells k → take n (drop (k * clause_row + 1) cells) ≡ dying_at cells k
clause_part cells k n e =
    ap (λ (m : ℕ). take m (drop (k * clause_row + 1) cells)) e ∙ ap (λ (j : ℕ). take (left_at cells k) (drop j cells)) (add-one (k * clause_row))

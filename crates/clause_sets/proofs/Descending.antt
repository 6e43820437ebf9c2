-- One place further down: the row of the clauses satisfied, the first clause that dies, the test that all are satisfied, the mark of the place, and
-- the cube from the marks. Throughout, row j of `sat` is that of the first j places; a node t of k + 1 places has the value b at the last.
use Prim.Native.Nat.{ℕ, zero, suc, ◌*◌, ◌≤◌, ◌<◌}
use native.Mathlib.Nat.{eq-or-lt_of_le, zero-mul}
use native.Mathlib.Omega.{arith}
use mathlib.Core.Path.{◌≡◌, refl, sym, ap, ◌∙◌, subst}
use mathlib.Core.Logic.{◌⊎◌, inl, inr}
use mathlib.Core.Bool.{Bool, true, false, not, ◌&&◌, ◌||◌, true≢false}
use mathlib.Core.List.{List, [], ◌∷◌}
use mathlib.Core.Option.{none, some}
use lib.ListN.{length, get_or, take}
use lib.Seq.{length-take-le, take_all, take-append-le, take-suc, take-take}
use lib.Dec.{leb}
use borrow.Author.Tests.{le-leb, lt-leb}
use Rattle.qbf.specs.Formula.{Clause, Node, Prefix, ◌▹◌, all, any, dead, has, place, satisfied, value_at}
use Rattle.qbf.specs.Learning.{first, first_dead, lowest_dead, reduce}
use Rattle.qbf.specs.Card.{Mem}
use Rattle.theory.proofs.Dying.{lowest_inner}
use Rattle.theory.proofs.Basics.{and_false_right, le_or_lt, or_false_left, or_false_right, or_right, value_some, →any_false}
use Rattle.theory.proofs.Game.{Rising}
use Rattle.theory.proofs.Sets.{Found, found}
use Rattle.theory.proofs.Stepwise.{dead_step, ends_at, is_at, or_none, satisfied_step}
use Rattle.tables.specs.Codes.{code_at}
use Rattle.tables.specs.Sets.{ClauseSets, Satisfied, dying_row, newly, satisfying_row}
use Rattle.bitset.specs.Rows.{all_below, least_below, member, outside, some_below, width}
use Rattle.clause_sets.proofs.Coded.{ends_code, has_code_lem}
use Rattle.clause_sets.proofs.Indices.{Finds, Indexed, all_all, least_first, some_any}

mem_at : {A : Type 0} (xs : List A) (i : ℕ) (d : A) → i < length xs → Mem (get_or xs i d) xs
mem_at [] i d h = absurd (omega arith)
mem_at (x ∷ xs) zero d h = inl refl
mem_at (x ∷ xs) (suc i) d h = inr (mem_at xs i d (omega arith))

first_none : {A : Type 0} (f : A → Bool) (xs : List A) → any f xs ≡ false → first f xs ≡ none
first_none f [] e = refl
first_none f (x ∷ xs) e = rw (or_false_left (f x) (any f xs) e) (first_none f xs (or_false_right (f x) (any f xs) e))

-- ---- the rows of a node's first places
module _ {D : Prefix} {R : List Clause} {wc : ℕ} where
  -- no value is given yet: the row has the indices that are no clause's
  pub rows_start : (s : Node) (sat : List ℕ) → ((i : ℕ) → i < wc * width → member sat 0 i ≡ leb (length R) i) → Satisfied D s R wc sat 0
  rows_start s sat h = record { row = λ j l i m. by j l i m }
    where
      none_at : (p : ℕ) → value_at [] p ≡ none
      none_at zero = refl
      none_at (suc i) = refl

      unsatisfied : (r : Clause) → satisfied D [] r ≡ false
      unsatisfied r = →any_false (has D true []) r (λ l m. rw (none_at (place D l)))

      by : (j : ℕ) → j ≤ 0 → (i : ℕ) → i < wc * width → member sat (j * wc) i ≡ (satisfied D (take j s) (get_or R i []) || leb (length R) i)
      by zero l i m = rw (zero-mul wc, unsatisfied (get_or R i [])) (h i m)
      by (suc j) l i m = absurd (omega arith)

  -- a table with the same rows, and a node with the same first values
  pub rows_kept : {s : Node} {sat after : List ℕ} {k : ℕ} → Satisfied D s R wc sat k
      → ((j : ℕ) → j ≤ k → (i : ℕ) → i < wc * width → member after (j * wc) i ≡ member sat (j * wc) i) → Satisfied D s R wc after k
  rows_kept g same = record { row = λ j l i m. same j l i m ∙ g.row j l i m }

  pub rows_agree : {s : Node} {sat : List ℕ} {k : ℕ} → Satisfied D s R wc sat k → (t : Node) → take k t ≡ take k s → Satisfied D t R wc sat k
  rows_agree {s} {sat} {k} g t same = record {
    row = λ j l i m.
        let e : take j s ≡ take j t = sym (take-take j k s l) ∙ ap (take j) (sym same) ∙ take-take j k t l in
        g.row j l i m ∙ ap (λ (u : Node). satisfied D u (get_or R i []) || leb (length R) i) e;
  }

  -- one place below
  pub rows_below : {s : Node} {sat : List ℕ} {k : ℕ} → Satisfied D s R wc sat k → k ≤ length s → (b : Bool) → Satisfied D (s ▹ b) R wc sat k
  rows_below {s} {sat} {k} g h b = rows_agree g (s ▹ b) (take-append-le k s (b ∷ []) h)

-- ---- what a row says of a clause's index, and of one that is none's
module _ {D : Prefix} {R : List Clause} {wc : ℕ} {s : Node} {sat : List ℕ} {k : ℕ} (g : Satisfied D s R wc sat k)
    (j : ℕ) (low : j ≤ k) (i : ℕ) (small : i < wc * width) where
  row_clause : i < length R → member sat (j * wc) i ≡ satisfied D (take j s) (get_or R i [])
  row_clause h = g.row j low i small ∙ rw (lt-leb (length R) i h) (or_none (satisfied D (take j s) (get_or R i [])) refl)

  row_beyond : length R ≤ i → member sat (j * wc) i ≡ true
  row_beyond h = g.row j low i small ∙ or_right (satisfied D (take j s) (get_or R i [])) (leb (length R) i) (le-leb (length R) i h)

-- ---- all clauses are satisfied exactly where the row is full
pub row_full : {D : Prefix} {R : List Clause} {wc : ℕ} {s : Node} {sat : List ℕ} {k : ℕ} → Satisfied D s R wc sat k → length R ≤ wc * width
    → (j : ℕ) → j ≤ k → all_below (member sat (j * wc)) (wc * width) ≡ all (satisfied D (take j s)) R
row_full {D} {R} {wc} {s} {sat} {k} g room j low = all_all (satisfied D (take j s)) [] R (wc * width) (member sat (j * wc)) (record {
  room = room;
  within = λ i h. row_clause g j low i (omega (arith, h, room)) h;
  beyond = λ i h small. row_beyond g j low i small h;
})

-- ---- one place more
module _ (D : Prefix) (t : Node) (k : ℕ) (b : Bool) (long : length t ≡ suc k) (last : value_at t (suc k) ≡ some b) where
  pub above_length : length (take k t) ≡ k
  above_length = length-take-le k t (omega arith)

  -- the node is that of its first k places with b
  pub node_split : t ≡ take k t ▹ b
  node_split =
      let h : k < length t = omega arith in
      let v : value_at t (suc k) ≡ some (get_or t k false) = value_some t k h in
      let e : get_or t k false ≡ b = cc in
      sym (take_all (suc k) t (omega arith)) ∙ take-suc t k false h ∙ ap (λ (x : Bool). take k t ▹ x) e

  satisfied_last : (r : Clause) → satisfied D (take (suc k) t) r ≡ (satisfied D (take k t) r || any (is_at D (suc k) b) r)
  satisfied_last r =
      ap (λ (u : Node). satisfied D u r) (take_all (suc k) t (omega arith) ∙ node_split)
      ∙ satisfied_step D (take k t) b r
      ∙ ap (λ (n : ℕ). satisfied D (take k t) r || any (is_at D (suc n) b) r) above_length

  module _ {R : List Clause} {wc : ℕ} {sets : List ℕ} (shown : ClauseSets D R wc sets) (inside : suc k ≤ length D)
      {sat : List ℕ} (g : Satisfied D t R wc sat k) where
    -- the row of the node: that above, united with the clauses that the value satisfies
    pub rows_more : {after : List ℕ}
        → ((j : ℕ) → j ≤ k → (i : ℕ) → i < wc * width → member after (j * wc) i ≡ member sat (j * wc) i)
        → ((i : ℕ) → i < wc * width → member after (suc k * wc) i ≡ (member sat (k * wc) i || member sets (satisfying_row wc (code_at (suc k) b)) i))
        → Satisfied D t R wc after (suc k)
    rows_more {after} kept united = record { row = λ j l i m. by j (eq-or-lt_of_le l) i m }
      where
        swap : (x y z : Bool) → ((x || z) || y) ≡ ((x || y) || z)
        swap true y z = refl
        swap false true true = refl
        swap false true false = refl
        swap false false true = refl
        swap false false false = refl

        new : (i : ℕ) → i < wc * width → member after (suc k * wc) i ≡ (satisfied D (take (suc k) t) (get_or R i []) || leb (length R) i)
        new i m =
            united i m
            ∙ rw (g.row k (omega arith) i m, shown.satisfying (suc k) b (omega arith) inside i m)
            (rw (has_code_lem D (suc k) b (get_or R i []), satisfied_last (get_or R i []))
            (swap (satisfied D (take k t) (get_or R i [])) (any (is_at D (suc k) b) (get_or R i [])) (leb (length R) i)))

        by : (j : ℕ) → (j ≡ suc k) ⊎ (j < suc k) → (i : ℕ) → i < wc * width
            → member after (j * wc) i ≡ (satisfied D (take j t) (get_or R i []) || leb (length R) i)
        by j (inl e) i m = subst (λ (n : ℕ). member after (n * wc) i ≡ (satisfied D (take n t) (get_or R i []) || leb (length R) i)) (sym e) (new i m)
        by j (inr l) i m = kept j (omega arith) i m ∙ g.row j (omega arith) i m

    -- the place is marked where its value satisfied a clause that the row above has not
    pub step_new : {after : List ℕ} → Satisfied D t R wc after (suc k)
        → some_below (outside after (suc k * wc) sat (k * wc)) (wc * width) ≡ newly D t R k
    step_new {after} new =
        some_any (λ r. satisfied D (take (suc k) t) r && not (satisfied D (take k t) r)) [] R (wc * width) (outside after (suc k * wc) sat (k * wc)) (record {
          room = shown.room;
          within = λ i h.
              let small : i < wc * width = omega (arith, h, shown.room) in
              rw (row_clause new (suc k) (omega arith) i small h, row_clause g k (omega arith) i small h);
          beyond = λ i h small.
              rw (row_beyond g k (omega arith) i small h) (and_false_right (member after (suc k * wc) i) false refl);
        })

    -- ---- the clauses that die: the value can kill them, and they were not satisfied above
    module _ (up : (r : Clause) → Mem r R → Rising D 0 r) (alive : first_dead D (take k t) R ≡ none) where
      abbrev kills : ℕ → Bool
      kills = outside sets (dying_row wc (code_at (suc k) b)) sat (k * wc)

      dead_last : (r : Clause) → Mem r R → dead D t r ≡ (ends_at D (suc k) (not b) (reduce D false r) && not (satisfied D (take k t) r))
      dead_last r m =
          ap (λ (u : Node). dead D u r) node_split
          ∙ dead_step D R up (take k t) b alive r m
          ∙ ap (λ (n : ℕ). ends_at D (suc n) (not b) (reduce D false r) && not (satisfied D (take k t) r)) above_length

      killed : Indexed (dead D t) [] false R (wc * width) kills
      killed = record {
        room = shown.room;
        within = λ i h.
            let small : i < wc * width = omega (arith, h, shown.room) in
            rw (shown.dying (suc k) b (omega arith) inside i small, row_clause g k (omega arith) i small h)
            (rw (ends_code D (suc k) (not b) (omega arith) (reduce D false (get_or R i [])))
            (sym (dead_last (get_or R i []) (mem_at R i [] h))));
        beyond = λ i h small.
            rw (row_beyond g k (omega arith) i small h) (and_false_right (member sets (dying_row wc (code_at (suc k) b)) i) false refl);
      }

      -- whether there is one
      pub some_dead : some_below (outside sets (dying_row wc (code_at (suc k) b)) sat (k * wc)) (wc * width) ≡ any (dead D t) R
      some_dead = some_any (dead D t) [] R (wc * width) kills killed

      -- the least index is that of the first dead clause
      pub least_dead : Finds (dead D t) [] R (wc * width) (least_below (outside sets (dying_row wc (code_at (suc k) b)) sat (k * wc)) (wc * width))
      least_dead = least_first (dead D t) [] R (wc * width) kills killed

      -- all dead clauses end at the node's last place: the first is the lowest
      lowest : lowest_dead D t R ≡ first_dead D t R
      lowest = ap (λ (u : Node). lowest_dead D u R) node_split ∙ lowest_inner D R up (take k t) b alive ∙ ap (λ (u : Node). first_dead D u R) (sym node_split)

      -- where no index passes no clause is dead
      pub none_dies : some_below (outside sets (dying_row wc (code_at (suc k) b)) sat (k * wc)) (wc * width) ≡ false → lowest_dead D t R ≡ none
      none_dies e = lowest ∙ first_none (dead D t) R (sym some_dead ∙ e)

      -- where one does the lowest dead clause is that of the least
      pub first_dies : some_below (outside sets (dying_row wc (code_at (suc k) b)) sat (k * wc)) (wc * width) ≡ true
          → {i : ℕ} → i ≡ least_below (outside sets (dying_row wc (code_at (suc k) b)) sat (k * wc)) (wc * width)
          → (i < length R) × (lowest_dead D t R ≡ some (get_or R i []))
      first_dies e {i} is = let w = by (le_or_lt (wc * width) i) (subst (Finds (dead D t) [] R (wc * width)) (sym is) least_dead) in (w.0, lowest ∙ w.1)
        where
          by : (wc * width ≤ i) ⊎ (i < wc * width) → Finds (dead D t) [] R (wc * width) i → (i < length R) × (first_dead D t R ≡ some (get_or R i []))
          by (inl h) w = absurd (true≢false (sym e ∙ some_dead ∙ subst (Found (dead D t) R) (w.nothing h) (found (dead D t) R)))
          by (inr h) w = w.found h

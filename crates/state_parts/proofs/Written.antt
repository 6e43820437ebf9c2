-- The parts of the two tables: their lengths, and what is left when one of them is written.
use Prim.Native.Nat.{ℕ, ◌≤◌, ◌<◌}
use native.Mathlib.Omega.{arith}
use mathlib.Core.Path.{◌≡◌, refl, sym, ap, ◌∙◌}
use mathlib.Core.Bool.{true}
use mathlib.Core.List.{List}
use borrow.Rule.Slice.PartMut.{put_mid, take_put}
use lib.IntN.{ℤ}
use lib.ListN.{length, get_or}
use lib.Seq.{get_or-take}
use Rattle.qbf.specs.Formula.{Limits}
use Rattle.state.specs.State.{State}
use Rattle.state.specs.Reading.{own, state_of, roomy}
use Rattle.state.specs.Derived.{Roomy}
use Rattle.state.proofs.Rooms.{room_facts}
use Rattle.state_parts.specs.Parts.{limits_of, by_number, clause_count, cube_sizes, recorded, numbers_at, levels_at, kinds_at, clause_sizes_at, learned_clause_sizes_at, learned_cube_sizes_at, clause_cells, learned_cells, learned_cubes_at, parts_under, Whole, Exact}
use Rattle.state_parts.proofs.Cutting.{part_length, part_most, put_here, put_before, put_after}

-- equal parts are equal states
pub same_state : {ns ns' ls ls' ks ks' : List ℕ} {cs cs' : List ℤ} {css css' : List ℕ} {lcs lcs' : List ℤ} {lcss lcss' : List ℕ} {lqs lqs' : List ℤ} {lqss lqss' : List ℕ}
    → ns ≡ ns' → ls ≡ ls' → ks ≡ ks' → cs ≡ cs' → css ≡ css' → lcs ≡ lcs' → lcss ≡ lcss' → lqs ≡ lqs' → lqss ≡ lqss'
    → state_of ns ls ks cs css lcs lcss lqs lqss ≡ state_of ns' ls' ks' cs' css' lcs' lcss' lqs' lqss'
same_state a b c d e f g h i = cc

module _ (L : Limits) (cells : List ℕ) (literals : List ℤ) where
  -- ---- lengths
  pub whole_exact : Whole L cells literals → Exact L (parts_under L cells literals)
  whole_exact w =
      record {
        numbers_room = part_length numbers_at (by_number L) cells (omega (arith, w.cells_room));
        levels_room = part_length (levels_at L) (by_number L) cells (omega (arith, w.cells_room));
        kinds_room = part_length (kinds_at L) (by_number L) cells (omega (arith, w.cells_room));
        clauses_room = part_length 0 (clause_cells L) literals (omega (arith, w.literals_room));
        clause_sizes_room = part_length (clause_sizes_at L) (clause_count L) cells (omega (arith, w.cells_room));
        learned_clauses_room = part_length (clause_cells L) (learned_cells L) literals (omega (arith, w.literals_room));
        learned_clause_sizes_room = part_length (learned_clause_sizes_at L) (recorded L) cells (omega (arith, w.cells_room));
        learned_cubes_room = part_length (learned_cubes_at L) (learned_cells L) literals (omega (arith, w.literals_room));
        learned_cube_sizes_room = part_length (learned_cube_sizes_at L) (cube_sizes L) cells (omega (arith, w.cells_room));
      }

  -- a state whose parts have room is whole: what is short would be its last part
  pub roomy_whole : roomy L (parts_under L cells literals) ≡ true → Whole L cells literals
  roomy_whole e =
      let r : Roomy L (parts_under L cells literals) = room_facts L (parts_under L cells literals) e in
      record {
        cells_room = omega (arith, r.learned_cube_sizes_room, part_most (learned_cube_sizes_at L) (cube_sizes L) cells);
        literals_room =
            omega (
              arith,
              r.clauses_room,
              part_most 0 (clause_cells L) literals,
              r.learned_cubes_room,
              part_most (learned_cubes_at L) (learned_cells L) literals,
            );
      }

-- ---- one part is lent, from where it begins to where it ends, and is then ys; the others stay
module _ (L : Limits) (cells : List ℕ) (literals : List ℤ) (w : Whole L cells literals) where
  abbrev x : State
  x = parts_under L cells literals

  pub clauses_put : (ys : List ℤ) → length ys ≡ clause_cells L → parts_under L cells (put_mid 0 (clause_cells L) literals ys) ≡ state_of x.numbers x.levels x.kinds ys x.clause_sizes x.learned_clauses x.learned_clause_sizes x.learned_cubes x.learned_cube_sizes
  clauses_put ys long =
      same_state
      refl
      refl
      refl
      (put_here 0 (clause_cells L) literals ys (omega (arith, w.literals_room)) long)
      refl
      (put_after (clause_cells L) (learned_cells L) 0 (clause_cells L) literals ys (omega (arith, w.literals_room)) (omega (arith, w.literals_room)) long)
      refl
      (put_after (learned_cubes_at L) (learned_cells L) 0 (clause_cells L) literals ys (omega (arith, w.literals_room)) (omega (arith, w.literals_room)) long)
      refl

  pub clause_sizes_put : (ys : List ℕ) → length ys ≡ clause_count L → parts_under L (put_mid (clause_sizes_at L) (clause_count L) cells ys) literals ≡ state_of x.numbers x.levels x.kinds x.clauses ys x.learned_clauses x.learned_clause_sizes x.learned_cubes x.learned_cube_sizes
  clause_sizes_put ys long =
      same_state
      (put_before numbers_at (by_number L) (clause_sizes_at L) (clause_count L) cells ys (omega (arith, w.cells_room)) (omega (arith, w.cells_room)))
      (put_before (levels_at L) (by_number L) (clause_sizes_at L) (clause_count L) cells ys (omega (arith, w.cells_room)) (omega (arith, w.cells_room)))
      (put_before (kinds_at L) (by_number L) (clause_sizes_at L) (clause_count L) cells ys (omega (arith, w.cells_room)) (omega (arith, w.cells_room)))
      refl
      (put_here (clause_sizes_at L) (clause_count L) cells ys (omega (arith, w.cells_room)) long)
      refl
      (put_after (learned_clause_sizes_at L) (recorded L) (clause_sizes_at L) (clause_count L) cells ys (omega (arith, w.cells_room)) (omega (arith, w.cells_room)) long)
      refl
      (put_after (learned_cube_sizes_at L) (cube_sizes L) (clause_sizes_at L) (clause_count L) cells ys (omega (arith, w.cells_room)) (omega (arith, w.cells_room)) long)

  pub learned_clauses_put : (ys : List ℤ) → length ys ≡ learned_cells L → parts_under L cells (put_mid (clause_cells L) (learned_cells L) literals ys) ≡ state_of x.numbers x.levels x.kinds x.clauses x.clause_sizes ys x.learned_clause_sizes x.learned_cubes x.learned_cube_sizes
  learned_clauses_put ys long =
      same_state
      refl
      refl
      refl
      (put_before 0 (clause_cells L) (clause_cells L) (learned_cells L) literals ys (omega (arith, w.literals_room)) (omega (arith, w.literals_room)))
      refl
      (put_here (clause_cells L) (learned_cells L) literals ys (omega (arith, w.literals_room)) long)
      refl
      (put_after (learned_cubes_at L) (learned_cells L) (clause_cells L) (learned_cells L) literals ys (omega (arith, w.literals_room)) (omega (arith, w.literals_room)) long)
      refl

  pub learned_clause_sizes_put : (ys : List ℕ) → length ys ≡ recorded L → parts_under L (put_mid (learned_clause_sizes_at L) (recorded L) cells ys) literals ≡ state_of x.numbers x.levels x.kinds x.clauses x.clause_sizes x.learned_clauses ys x.learned_cubes x.learned_cube_sizes
  learned_clause_sizes_put ys long =
      same_state
      (put_before numbers_at (by_number L) (learned_clause_sizes_at L) (recorded L) cells ys (omega (arith, w.cells_room)) (omega (arith, w.cells_room)))
      (put_before (levels_at L) (by_number L) (learned_clause_sizes_at L) (recorded L) cells ys (omega (arith, w.cells_room)) (omega (arith, w.cells_room)))
      (put_before (kinds_at L) (by_number L) (learned_clause_sizes_at L) (recorded L) cells ys (omega (arith, w.cells_room)) (omega (arith, w.cells_room)))
      refl
      (put_before (clause_sizes_at L) (clause_count L) (learned_clause_sizes_at L) (recorded L) cells ys (omega (arith, w.cells_room)) (omega (arith, w.cells_room)))
      refl
      (put_here (learned_clause_sizes_at L) (recorded L) cells ys (omega (arith, w.cells_room)) long)
      refl
      (put_after (learned_cube_sizes_at L) (cube_sizes L) (learned_clause_sizes_at L) (recorded L) cells ys (omega (arith, w.cells_room)) (omega (arith, w.cells_room)) long)

  pub learned_cubes_put : (ys : List ℤ) → length ys ≡ learned_cells L → parts_under L cells (put_mid (learned_cubes_at L) (learned_cells L) literals ys) ≡ state_of x.numbers x.levels x.kinds x.clauses x.clause_sizes x.learned_clauses x.learned_clause_sizes ys x.learned_cube_sizes
  learned_cubes_put ys long =
      same_state
      refl
      refl
      refl
      (put_before 0 (clause_cells L) (learned_cubes_at L) (learned_cells L) literals ys (omega (arith, w.literals_room)) (omega (arith, w.literals_room)))
      refl
      (put_before (clause_cells L) (learned_cells L) (learned_cubes_at L) (learned_cells L) literals ys (omega (arith, w.literals_room)) (omega (arith, w.literals_room)))
      refl
      (put_here (learned_cubes_at L) (learned_cells L) literals ys (omega (arith, w.literals_room)) long)
      refl

  pub learned_cube_sizes_put : (ys : List ℕ) → length ys ≡ cube_sizes L → parts_under L (put_mid (learned_cube_sizes_at L) (cube_sizes L) cells ys) literals ≡ state_of x.numbers x.levels x.kinds x.clauses x.clause_sizes x.learned_clauses x.learned_clause_sizes x.learned_cubes ys
  learned_cube_sizes_put ys long =
      same_state
      (put_before numbers_at (by_number L) (learned_cube_sizes_at L) (cube_sizes L) cells ys (omega (arith, w.cells_room)) (omega (arith, w.cells_room)))
      (put_before (levels_at L) (by_number L) (learned_cube_sizes_at L) (cube_sizes L) cells ys (omega (arith, w.cells_room)) (omega (arith, w.cells_room)))
      (put_before (kinds_at L) (by_number L) (learned_cube_sizes_at L) (cube_sizes L) cells ys (omega (arith, w.cells_room)) (omega (arith, w.cells_room)))
      refl
      (put_before (clause_sizes_at L) (clause_count L) (learned_cube_sizes_at L) (cube_sizes L) cells ys (omega (arith, w.cells_room)) (omega (arith, w.cells_room)))
      refl
      (put_before (learned_clause_sizes_at L) (recorded L) (learned_cube_sizes_at L) (cube_sizes L) cells ys (omega (arith, w.cells_room)) (omega (arith, w.cells_room)))
      refl
      (put_here (learned_cube_sizes_at L) (cube_sizes L) cells ys (omega (arith, w.cells_room)) long)

-- ---- a part that begins behind the limits leaves them
module _ (cells : List ℕ) (a k : ℕ) (ys : List ℕ) (h : numbers_at ≤ a) (g : a ≤ length cells) where
  cell_put : (i : ℕ) → i < a → get_or (put_mid a k cells ys) i 0 ≡ get_or cells i 0
  cell_put i lt = sym (get_or-take a (put_mid a k cells ys) i 0 lt) ∙ ap (λ (t : List ℕ). get_or t i 0) (take_put a k cells ys g) ∙ get_or-take a cells i 0 lt

  pub limits_put : limits_of (put_mid a k cells ys) ≡ limits_of cells
  limits_put = ap (λ (n : ℕ). own n (get_or (put_mid a k cells ys) 1 0)) (cell_put 0 (omega (arith, h))) ∙ ap (own (get_or cells 0 0)) (cell_put 1 (omega (arith, h)))

-- parts of these lengths have room for what the limits allow
pub exact_roomy : (L : Limits) (x : State) → Exact L x → Roomy L x
exact_roomy L x e =
    record {
      numbers_room = omega (arith, e.numbers_room);
      levels_room = omega (arith, e.levels_room);
      kinds_room = omega (arith, e.kinds_room);
      clauses_room = omega (arith, e.clauses_room);
      clause_sizes_room = omega (arith, e.clause_sizes_room);
      learned_clauses_room = omega (arith, e.learned_clauses_room);
      learned_clause_sizes_room = omega (arith, e.learned_clause_sizes_room);
      learned_cubes_room = omega (arith, e.learned_cubes_room);
      learned_cube_sizes_room = omega (arith, e.learned_cube_sizes_room);
    }

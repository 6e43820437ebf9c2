-- Lent tables: whether each has room for what the limits allow.
use Prim.Native.Nat.{ℕ, suc, ◌+◌, ◌*◌, ◌≤◌}
use native.Mathlib.Omega.{arith}
use mathlib.Core.Path.{◌≡◌, sym, ap}
use mathlib.Core.Bool.{Bool, true, false, ◌&&◌}
use mathlib.Core.List.{List}
use lib.ListN.{length}
use lib.Dec.{leb}
use lib.IntN.{ℤ}
use borrow.Author.Tests.{le-leb, lt-leb, leb-true}
use Rattle.qbf.specs.Formula.{Limits}
use Rattle.theory.proofs.Basics.{and_left, and_right, and_both}
use Rattle.state.specs.State.{State}
use Rattle.state.specs.Reading.{prefix_roomy, rows_roomy, roomy}
use Rattle.state.specs.Derived.{Roomy}

-- ---- as it is tested: without the product, which may be too large for a number

module _ (n : ℕ) (ns ls ks : List ℕ) where
  pub numbers_short : length ns ≤ n → false ≡ prefix_roomy n ns ls ks
  numbers_short h = sym (ap (λ (q : Bool). q && leb (suc n) (length ls) && leb (suc n) (length ks)) (lt-leb (suc n) (length ns) (omega (arith, h))))

-- ---- what it says
pub rows_room : (stride capacity : ℕ) (flat : List ℤ) (sizes : List ℕ) → capacity * stride ≤ length flat → suc capacity ≤ length sizes → rows_roomy stride capacity flat sizes ≡ true
rows_room w most flat sizes h k = and_both (leb (most * w) (length flat)) (leb (suc most) (length sizes)) (le-leb (most * w) (length flat) h) (le-leb (suc most) (length sizes) k)

pub prefix_room : (n : ℕ) (ns ls ks : List ℕ) → suc n ≤ length ns → suc n ≤ length ls → suc n ≤ length ks → prefix_roomy n ns ls ks ≡ true
prefix_room n ns ls ks h i j =
    and_both (leb (suc n) (length ns) && leb (suc n) (length ls)) (leb (suc n) (length ks))
    (and_both (leb (suc n) (length ns)) (leb (suc n) (length ls)) (le-leb (suc n) (length ns) h) (le-leb (suc n) (length ls) i))
    (le-leb (suc n) (length ks) j)

module _ (L : Limits) (x : State) where
  abbrev p : Bool
  p = prefix_roomy L.numbers x.numbers x.levels x.kinds

  abbrev a : Bool
  a = rows_roomy L.literals L.clauses x.clauses x.clause_sizes

  abbrev b : Bool
  b = rows_roomy L.numbers L.constraints x.learned_clauses x.learned_clause_sizes

  abbrev c : Bool
  c = rows_roomy L.numbers L.constraints x.learned_cubes x.learned_cube_sizes

  abbrev d : Bool
  d = leb (suc L.constraints + L.constraints) (length x.learned_clause_sizes)

  pub room_is : Roomy L x → roomy L x ≡ true
  room_is r =
      and_both (p && a && b && c) d
      (and_both (p && a && b) c
      (and_both (p && a) b
      (and_both p a (prefix_room L.numbers x.numbers x.levels x.kinds r.numbers_room r.levels_room r.kinds_room) (rows_room L.literals L.clauses x.clauses x.clause_sizes r.clauses_room r.clause_sizes_room))
      (rows_room L.numbers L.constraints x.learned_clauses x.learned_clause_sizes r.learned_clauses_room (omega (arith, r.learned_clause_sizes_room))))
      (rows_room L.numbers L.constraints x.learned_cubes x.learned_cube_sizes r.learned_cubes_room r.learned_cube_sizes_room))
      (le-leb (suc L.constraints + L.constraints) (length x.learned_clause_sizes) r.learned_clause_sizes_room)

  pub room_facts : roomy L x ≡ true → Roomy L x
  room_facts e =
      record {
        numbers_room = leb-true (suc L.numbers) (length x.numbers) (and_left (leb (suc L.numbers) (length x.numbers)) (leb (suc L.numbers) (length x.levels)) two);
        levels_room = leb-true (suc L.numbers) (length x.levels) (and_right (leb (suc L.numbers) (length x.numbers)) (leb (suc L.numbers) (length x.levels)) two);
        kinds_room = leb-true (suc L.numbers) (length x.kinds) (and_right (leb (suc L.numbers) (length x.numbers) && leb (suc L.numbers) (length x.levels)) (leb (suc L.numbers) (length x.kinds)) prefix);
        clauses_room = flat L.literals L.clauses x.clauses x.clause_sizes (and_right p a pa);
        clause_sizes_room = sizes L.literals L.clauses x.clauses x.clause_sizes (and_right p a pa);
        learned_clauses_room = flat L.numbers L.constraints x.learned_clauses x.learned_clause_sizes (and_right (p && a) b pab);
        learned_clause_sizes_room = leb-true (suc L.constraints + L.constraints) (length x.learned_clause_sizes) (and_right (p && a && b && c) d e);
        learned_cubes_room = flat L.numbers L.constraints x.learned_cubes x.learned_cube_sizes (and_right (p && a && b) c pabc);
        learned_cube_sizes_room = sizes L.numbers L.constraints x.learned_cubes x.learned_cube_sizes (and_right (p && a && b) c pabc);
      }
    where
      pabc : (p && a && b && c) ≡ true
      pabc = and_left (p && a && b && c) d e

      pab : (p && a && b) ≡ true
      pab = and_left (p && a && b) c pabc

      pa : (p && a) ≡ true
      pa = and_left (p && a) b pab

      prefix : p ≡ true
      prefix = and_left p a pa

      two : (leb (suc L.numbers) (length x.numbers) && leb (suc L.numbers) (length x.levels)) ≡ true
      two = and_left (leb (suc L.numbers) (length x.numbers) && leb (suc L.numbers) (length x.levels)) (leb (suc L.numbers) (length x.kinds)) prefix

      flat : (w most : ℕ) (cells : List ℤ) (ns : List ℕ) → rows_roomy w most cells ns ≡ true → most * w ≤ length cells
      flat w most cells ns q = leb-true (most * w) (length cells) (and_left (leb (most * w) (length cells)) (leb (suc most) (length ns)) q)

      sizes : (w most : ℕ) (cells : List ℤ) (ns : List ℕ) → rows_roomy w most cells ns ≡ true → suc most ≤ length ns
      sizes w most cells ns q = leb-true (suc most) (length ns) (and_right (leb (most * w) (length cells)) (leb (suc most) (length ns)) q)

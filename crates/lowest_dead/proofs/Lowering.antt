-- The scan for the dead clause that reaches least far: the clauses between two dead ones change nothing.
use Prim.Native.Nat.{ℕ, zero, suc, ◌+◌, ◌-◌, ◌≤◌, ◌<◌}
use native.Mathlib.Omega.{arith}
use native.Mathlib.Numerals.{add-one}
use mathlib.Core.Path.{◌≡◌, refl, sym, ap, subst, ◌∙◌}
use mathlib.Core.Bool.{Bool, true, false, cond}
use mathlib.Core.List.{List, [], ◌∷◌}
use mathlib.Core.Option.{Option, none, some}
use borrow.Author.Tests.{le-leb, lt-leb, lt-ltb, le-ltb}
use mathlib.Core.Logic.{◌⊎◌, inl, inr}
use Rattle.theory.proofs.Basics.{le_or_lt}
use lib.Dec.{leb, ltb}
use lib.IntN.{ℤ}
use lib.ListN.{get_or}
use Rattle.std.specs.Prelude.{Some, None, IfSome, option_map}
use Rattle.std.specs.Prelude.{Option as Maybe}
use Rattle.qbf.specs.Formula.{Prefix, Clause, Node, dead}
use Rattle.qbf.specs.Learning.{reach, lower, lowest_dead}
use Rattle.theory.proofs.Lowest.{lowest_append}
use Rattle.tables.specs.Views.{Places, Kinds, Values, row, rows}
use Rattle.tables.proofs.Laws.{rows_suc, rows_zero}
use Rattle.dead_clauses.specs.Dead.{Alive, FirstDead}
use Rattle.lowest_dead.specs.Found.{clause_in, LowestIn, lower_of}
use Rattle.lowest_dead.specs.declared.Lowest.{Lowest}

-- ---- one clause more
module _ (D : Prefix) (s : Node) (w : ℕ) (flat : List ℤ) (sizes : List ℕ) where
  abbrev up_to : ℕ → List Clause
  up_to n = rows w flat sizes n

  one_more : (n : ℕ) (b : Bool) → dead D s (row w flat sizes n) ≡ b → lowest_dead D s (up_to (suc n)) ≡ lower D b (lowest_dead D s (up_to n)) (row w flat sizes n)
  one_more n b e =
      ap (lowest_dead D s) (rows_suc w flat sizes n)
      ∙ lowest_append D s none (up_to n) (row w flat sizes n ∷ [])
      ∙ ap (λ (x : Bool). lower D x (lowest_dead D s (up_to n)) (row w flat sizes n)) e

  -- clauses that are not dead
  skipped : (m k : ℕ) → ((j : ℕ) → m ≤ j → j < m + k → dead D s (row w flat sizes j) ≡ false) → lowest_dead D s (up_to (m + k)) ≡ lowest_dead D s (up_to m)
  skipped m zero h = ap (λ (n : ℕ). lowest_dead D s (up_to n)) (let e : m + 0 ≡ m = omega arith in e)
  skipped m (suc k) h =
      ap (λ (n : ℕ). lowest_dead D s (up_to n)) (let e : m + suc k ≡ suc (m + k) = omega arith in e)
      ∙ one_more (m + k) false (h (m + k) (omega arith) (omega arith))
      ∙ skipped m k (λ j a b. h j a (omega arith))

  pub skip : (m n : ℕ) → m ≤ n → ((j : ℕ) → m ≤ j → j < n → dead D s (row w flat sizes j) ≡ false) → lowest_dead D s (up_to n) ≡ lowest_dead D s (up_to m)
  skip m n h k =
      let e : m + (n - m) ≡ n = omega arith in
      ap (λ (i : ℕ). lowest_dead D s (up_to i)) (sym e) ∙ skipped m (n - m) (λ j a b. k j a (omega (arith, e)))

-- ---- the loop: `best` is the lowest dead clause before `from`
-- a dead clause by its index, and how far it reaches
abbrev pub Known : Prefix → ℕ → List ℤ → List ℕ → Maybe Lowest → Option Clause → Type 0
Known D w flat sizes None none = Unit {0}
Known D w flat sizes None (some c) = ⊥
Known D w flat sizes (Some best) none = ⊥
Known D w flat sizes (Some best) (some c) = (c ≡ row w flat sizes best.at) × (best.reach ≡ reach D c)

pub record Lowering (w : ℕ) (flat : List ℤ) (sizes places kinds values : List ℕ) (best : Maybe Lowest) (from : ℕ) : Type 0 where
  pub within : from ≤ get_or sizes 0 0
  pub bounded : IfSome best (λ b. b.at < get_or sizes 0 0)
  pub known : (D : Prefix) (s : Node) → Places D places → Kinds D kinds → Values D s values → Known D w flat sizes best (lowest_dead D s (rows w flat sizes from))

-- the dead clause k beside the lowest one before it
module _ (D : Prefix) (w : ℕ) (flat : List ℤ) (sizes : List ℕ) (k far : ℕ) (is : far ≡ reach D (row w flat sizes k)) where
  known_lower : (best : Maybe Lowest) (o : Option Clause) → Known D w flat sizes best o → Known D w flat sizes (Some (lower_of best (record { at = k; reach = far }))) (lower D true o (row w flat sizes k))
  known_lower None none e = (refl, is)
  known_lower None (some c) e = absurd e
  known_lower (Some best) none e = absurd e
  known_lower (Some best) (some c) (e, q) = by (le_or_lt best.reach far)
    where
      same : ltb (reach D (row w flat sizes k)) (reach D c) ≡ ltb far best.reach
      same = ap (λ (n : ℕ). ltb n (reach D c)) (sym is) ∙ ap (ltb far) (sym q)

      by : (best.reach ≤ far) ⊎ (far < best.reach)
          → Known D w flat sizes (Some (cond (leb best.reach far) best (record { at = k; reach = far }))) (cond (ltb (reach D (row w flat sizes k)) (reach D c)) (some (row w flat sizes k)) (some c))
      by (inl h) = simp (le-leb best.reach far h, same, le-ltb far best.reach h) (e, q)
      by (inr h) = simp (lt-leb best.reach far h, same, lt-ltb far best.reach h) (refl, is)

-- the lower of two clauses that stand
lower_within : {n : ℕ} (best : Maybe Lowest) (next : Lowest) → IfSome best (λ b. b.at < n) → next.at < n → (lower_of best next).at < n
lower_within None next h l = l
lower_within {n} (Some best) next h l = by (leb best.reach next.reach)
  where
    by : (b : Bool) → (cond b best next).at < n
    by true = h
    by false = l

module _ {w : ℕ} {flat : List ℤ} {sizes places kinds values : List ℕ} where
  pub lowering_start : Lowering w flat sizes places kinds values None 0
  lowering_start = record {
    within = omega arith;
    bounded = tt;
    known = λ D s p k v. subst (Known D w flat sizes None) (sym (ap (lowest_dead D s) (rows_zero w flat sizes))) tt;
  }

  module _ {best : Maybe Lowest} {from : ℕ} (inv : Lowering w flat sizes places kinds values best from) where
    pub lowering_more : {k far : ℕ} → FirstDead w flat sizes kinds values from k → ((D : Prefix) → Places D places → Kinds D kinds → far ≡ reach D (row w flat sizes k))
        → Lowering w flat sizes places kinds values (Some (lower_of best (record { at = k; reach = far }))) (k + 1)
    lowering_more {k} {far} f is = record {
      within = omega (arith, f.within);
      bounded = lower_within best (record { at = k; reach = far }) inv.bounded f.within;
      known = λ D s p q v.
          subst (Known D w flat sizes (Some (lower_of best (record { at = k; reach = far }))))
          (sym
          (ap (λ (m : ℕ). lowest_dead D s (rows w flat sizes m)) (add-one k)
          ∙ one_more D s w flat sizes k true (f.is_dead D s q v)
          ∙ ap (λ (o : Option Clause). lower D true o (row w flat sizes k)) (skip D s w flat sizes from k f.after (f.alive D s q v))))
          (known_lower D w flat sizes k far (is D p q) best (lowest_dead D s (rows w flat sizes from)) (inv.known D s p q v));
    }

    pub lowering_end : Alive w flat sizes kinds values from (get_or sizes 0 0) → LowestIn w flat sizes places kinds values (option_map (λ b. b.at) best)
    lowering_end h = record {
      within = bound best inv.bounded;
      is = λ D s p q v. found D best (lowest_dead D s (rows w flat sizes from)) (inv.known D s p q v) ∙ sym (skip D s w flat sizes from (get_or sizes 0 0) inv.within (h D s q v));
    }
      where
        bound : (best : Maybe Lowest) → IfSome best (λ b. b.at < get_or sizes 0 0) → IfSome (option_map (λ b. b.at) best) (λ k. k < get_or sizes 0 0)
        bound None h = h
        bound (Some b) h = h

        found : (D : Prefix) (best : Maybe Lowest) (o : Option Clause) → Known D w flat sizes best o → clause_in w flat sizes (option_map (λ b. b.at) best) ≡ o
        found D None none e = refl
        found D None (some c) e = absurd e
        found D (Some b) none e = absurd e
        found D (Some b) (some c) (e, q) = ap some (sym e)

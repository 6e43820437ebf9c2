-- What a scan that ends says of the dead clauses.
use Prim.Native.Nat.{ℕ, ◌+◌, ◌≤◌, ◌<◌}
use Rattle.std.proofs.Common.{◌≡◌, sym, ap, ◌∙◌, arith, true, false, List, ℤ, pos, length, get_or, Option, Some, None, is_some}
use mathlib.Core.Logic.{◌⊎◌, inl, inr}
use Rattle.theory.proofs.Basics.{le_or_lt}
use Rattle.qbf.specs.Formula.{Prefix, Node, any, dead}
use Rattle.tables.specs.Views.{Kinds, Values, row, rows_of}
use Rattle.tables.proofs.Lists.{all_each, all_fails}
use Rattle.lent_rows.proofs.Flat.{rows_some, rows_none}
use Rattle.dead_clauses.specs.Dead.{lost, Alive, NextDead}
use Rattle.dead_clauses.proofs.Lost.{lost_dead}

module _ (w : ℕ) (flat : List ℤ) (sizes kinds values : List ℕ) where
  -- ---- a row, by its literals
  module _ (k : ℕ) {e : List ℤ} (is : e ≡ row w flat sizes k) where
    pub alive_row : (i : ℕ) → i < length e → lost kinds values (get_or e i (pos 0)) ≡ false → (D : Prefix) (s : Node) → Kinds D kinds → Values D s values → dead D s (row w flat sizes k) ≡ false
    alive_row i l h D s ks vs = ap (dead D s) (sym is) ∙ sym (lost_dead D s ks vs e) ∙ all_fails (lost kinds values) (pos 0) e i l h

    pub dead_row : ((j : ℕ) → j < length e → lost kinds values (get_or e j (pos 0)) ≡ true) → (D : Prefix) (s : Node) → Kinds D kinds → Values D s values → dead D s (row w flat sizes k) ≡ true
    dead_row h D s ks vs = ap (dead D s) (sym is) ∙ sym (lost_dead D s ks vs e) ∙ all_each (lost kinds values) (pos 0) e h

  -- ---- a row more
  pub alive_more : (from k : ℕ) → Alive w flat sizes kinds values from k → ((D : Prefix) (s : Node) → Kinds D kinds → Values D s values → dead D s (row w flat sizes k) ≡ false) → Alive w flat sizes kinds values from (k + 1)
  alive_more from k h e D s ks vs j a b = by (le_or_lt k j)
    where
      by : (k ≤ j) ⊎ (j < k) → dead D s (row w flat sizes j) ≡ false
      by (inl c) = let same : j ≡ k = omega arith in ap (λ (n : ℕ). dead D s (row w flat sizes n)) same ∙ e D s ks vs
      by (inr c) = h D s ks vs j a c

  -- ---- a dead clause, by the index of the first
  pub some_dead : (o : Option ℕ) → NextDead w flat sizes kinds values 0 o → (D : Prefix) (s : Node) → Kinds D kinds → Values D s values → is_some o ≡ any (dead D s) (rows_of w flat sizes)
  some_dead None h D s ks vs = sym (rows_none (dead D s) w flat sizes (λ j l. h D s ks vs j (omega arith) l))
  some_dead (Some r) h D s ks vs = sym (rows_some (dead D s) w flat sizes r h.within (h.is_dead D s ks vs))

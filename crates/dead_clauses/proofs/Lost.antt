-- A literal that does not keep its clause from being dead, by the tables.
use Prim.Native.Nat.{ℕ}
use mathlib.Core.Path.{◌≡◌, refl}
use mathlib.Core.Bool.{Bool, true, false, cond, ◌&&◌, ◌||◌, beq}
use mathlib.Core.List.{List}
use mathlib.Core.Option.{Option, none, some}
use lib.Dec.{eqb}
use lib.IntN.{pos, negsuc}
use Rattle.qbf.specs.Formula.{is_forall, Prefix, Literal, Clause, Node, number_of, positive, place, quantifier_at, value_at, equals, is_open, has, all, dead}
use Rattle.tables.specs.Views.{value_code, Kinds, Values, signed}
use Rattle.tables.proofs.Laws.{kinds_dropped}
use Rattle.tables.proofs.Lists.{all_same}
use Rattle.dead_clauses.specs.Dead.{lost}

-- ---- what the tables show
cases : (l : Literal) (o : Option Bool) (b : Bool)
    → cond (eqb (signed l (value_code o)) 2) false (cond (eqb (signed l (value_code o)) 0) b true) ≡ (equals o (beq false (positive l)) || (is_open o && b))
cases (pos n) none b = refl
cases (pos n) (some true) b = refl
cases (pos n) (some false) b = refl
cases (negsuc n) none b = refl
cases (negsuc n) (some true) b = refl
cases (negsuc n) (some false) b = refl

module _ (D : Prefix) (s : Node) {ks vs : List ℕ} (kinds : Kinds D ks) (values : Values D s vs) where
  lost_is : (l : Literal) → lost ks vs l ≡ (has D false s l || (is_open (value_at s (place D l)) && is_forall (quantifier_at D (place D l))))
  lost_is l = rw (values.at (number_of l), kinds_dropped D ks kinds false l) (cases l (value_at s (place D l)) (is_forall (quantifier_at D (place D l))))

  pub lost_dead : (c : Clause) → all (lost ks vs) c ≡ dead D s c
  lost_dead c = all_same (lost ks vs) _ lost_is c

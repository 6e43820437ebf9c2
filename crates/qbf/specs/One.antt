-- Exactly one of some literals: the rules that `(one l1 .. ln)` stands for, as given. Paper 02, wish 10.
use Rattle.std.specs.Prelude.{ℕ, ◌+◌, ◌*◌, ◌-◌, ◌/◌, ◌≡◌, true, false, List, [], ◌∷◌, ◌++◌, neg_ℤ}
use Rattle.qbf.specs.Formula.{Prefix, Literal, Node, all, has}

-- "with both negated"
abbrev pub both_negated : Literal → Literal → List Literal
both_negated l m = neg_ℤ l ∷ neg_ℤ m ∷ []

-- one rule for each pair of l and a later literal
abbrev pub pairs_with : Literal → List Literal → List (List Literal)
pairs_with l [] = []
pairs_with l (m ∷ ms) = both_negated l m ∷ pairs_with l ms

-- "then one rule for each pair as given, first with second, first with third and so on"
abbrev pub pairs : List Literal → List (List Literal)
pairs [] = []
pairs (l ∷ ls) = pairs_with l ls ++ pairs ls

-- "It stands for the rule of all its literals, then one rule for each pair": their literals as given
abbrev pub one_forms : List Literal → List (List Literal)
one_forms ls = ls ∷ pairs ls

-- how many they are, for n literals
abbrev pub one_count : ℕ → ℕ
one_count n = 1 + n * (n - 1) / 2

-- ---- what they say: "one of the literals is true and every other is false"
pub record OneTrue (D : Prefix) (s : Node) (ls : List Literal) : Type 0 where
  pub before : List Literal
  pub it : Literal
  pub after : List Literal
  pub splits : ls ≡ before ++ (it ∷ after)
  pub true_one : has D true s it ≡ true
  pub others_false : all (has D false s) (before ++ after) ≡ true

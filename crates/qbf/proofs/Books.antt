-- The books of paper 01's bench table.
use mathlib.Core.List.{List, [], ◌∷◌, ◌++◌}
use Rattle.qbf.specs.Formula.{exists, forall, free, Literal, Formula}
use Rattle.qbf.proofs.Rows.{y, n, dec, opened}

unfoldable pub A_rules : List (List Literal)
A_rules = (y 3 ∷ y 4 ∷ n 1 ∷ []) ∷ (n 3 ∷ n 4 ∷ y 2 ∷ []) ∷ (y 1 ∷ y 2 ∷ []) ∷ []

unfoldable pub A : Formula
A = opened (dec free (1 ∷ 2 ∷ []) ++ dec exists (3 ∷ []) ++ dec forall (4 ∷ [])) A_rules

unfoldable pub A' : Formula
A' = opened (dec free (2 ∷ 1 ∷ []) ++ dec exists (3 ∷ []) ++ dec forall (4 ∷ [])) A_rules

unfoldable pub B : Formula
B = opened (dec free (1 ∷ []) ++ dec exists (2 ∷ [])) ((y 2 ∷ []) ∷ (n 2 ∷ []) ∷ [])

unfoldable pub C : Formula
C = opened (dec free (1 ∷ 2 ∷ []) ++ dec exists (3 ∷ []) ++ dec forall (4 ∷ [])) ((y 3 ∷ y 4 ∷ y 1 ∷ []) ∷ (n 3 ∷ n 4 ∷ y 2 ∷ []) ∷ [])

unfoldable pub D_rules : List (List Literal)
D_rules = (y 1 ∷ y 2 ∷ []) ∷ (n 1 ∷ n 2 ∷ []) ∷ []

unfoldable pub D : Formula
D = opened (dec forall (1 ∷ []) ++ dec exists (2 ∷ [])) D_rules

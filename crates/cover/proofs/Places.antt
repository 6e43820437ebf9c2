-- The bytes of the first places, by the statuses of their positive literals.
use Prim.Native.Nat.{ℕ, zero, suc, ◌≤◌, ◌<◌}
use native.Mathlib.Omega.{arith}
use mathlib.Core.Path.{◌≡◌, refl, sym, ap, ◌∙◌}
use mathlib.Core.Bool.{Bool, true, false}
use mathlib.Core.List.{List, [], ◌∷◌, ◌++◌, map}
use mathlib.Core.Option.{some}
use lib.ListN.{length, get_or, take}
use lib.Seq.{take-suc, take-length}
use Rattle.qbf.specs.Formula.{Node}
use Rattle.qbf.specs.Card.{byte_of}
use Rattle.theory.proofs.Basics.{value_some}
use Rattle.tables.specs.Codes.{code_at, status_of, Statuses}
use Rattle.cover.specs.Cover.{first_bytes}

-- by computation: place 1 is off and place 2 is on
placed : first_bytes (0 ∷ 0 ∷ 2 ∷ 1 ∷ 1 ∷ 2 ∷ []) 2 ≡ 1 ∷ 2 ∷ []
unfolding first_bytes
placed = refl

module _ (s : Node) (t : List ℕ) (shown : Statuses s t) where
  -- the status of a place's positive literal is the byte of its value
  byte_here : (i : ℕ) → i < length s → get_or t (code_at (suc i) true) 0 ≡ byte_of (get_or s i false)
  byte_here i h = shown.at (suc i) true ∙ ap (status_of true) (value_some s i h) ∙ code (get_or s i false)
    where
      code : (b : Bool) → status_of true (some b) ≡ byte_of b
      code true = refl
      code false = refl

  upto : (k : ℕ) → k ≤ length s → first_bytes t k ≡ map byte_of (take k s)
  unfolding first_bytes
  upto zero h = refl
  upto (suc k) h =
      ap (λ (xs : List ℕ). xs ++ (get_or t (code_at (suc k) true) 0 ∷ [])) (upto k (omega arith))
      ∙ ap (λ (v : ℕ). map byte_of (take k s) ++ (v ∷ [])) (byte_here k h)
      ∙ sym (ap (map byte_of) (take-suc s k false h) ∙ map_append (take k s) (get_or s k false ∷ []))
    where
      map_append : (xs ys : Node) → map byte_of (xs ++ ys) ≡ map byte_of xs ++ map byte_of ys
      map_append [] ys = refl
      map_append (x ∷ xs) ys = ap (λ (zs : List ℕ). byte_of x ∷ zs) (map_append xs ys)

  -- the bytes of the first places are those of the node
  pub first_bytes_lem : (k : ℕ) → length s ≡ k → first_bytes t k ≡ map byte_of s
  first_bytes_lem k z = upto k (omega arith) ∙ ap (λ (n : ℕ). map byte_of (take n s)) (sym z) ∙ ap (map byte_of) (take-length s)

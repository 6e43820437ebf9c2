-- A test of each element of a list, as the chains `all` and `any` make it.
use Prim.Native.Nat.{ℕ, ◌<◌}
use Rattle.std.proofs.Common.{arith, ◌≡◌, refl, sym, List, [], ◌∷◌, length, Bool, true, false}
use Rattle.std.specs.Bool.{MatchBool}
use Rattle.std.specs.List.{AllWithin, HoldsAt}
use Rattle.qbf.specs.Formula.{all, any}
use Rattle.tables.proofs.Lists.{all_each, all_fails, any_none, any_at}

module _ {A : Type 0} (p : A → Bool) (d : A) (xs : List A) where
  pub all_is : (r : Bool) → MatchBool r (AllWithin (λ x. p x ≡ true) xs 0 (length xs)) ((k : ℕ) × (k < length xs) × HoldsAt (λ x. p x ≡ false) xs k) → r ≡ all p xs
  all_is true h = sym (all_each p d xs (λ j l. h j d (omega arith) l))
  all_is false (k, l, h) = sym (all_fails p d xs k l (h d))

  pub any_is : (r : Bool) → MatchBool r ((k : ℕ) × (k < length xs) × HoldsAt (λ x. p x ≡ true) xs k) (AllWithin (λ x. p x ≡ false) xs 0 (length xs)) → r ≡ any p xs
  any_is true (k, l, h) = sym (any_at p d xs k l (h d))
  any_is false h = sym (any_none p d xs (λ j l. h j d (omega arith) l))

pub any_same : {A : Type 0} (f g : A → Bool) → ((x : A) → f x ≡ g x) → (xs : List A) → any f xs ≡ any g xs
any_same f g same [] = refl
any_same f g same (x ∷ xs) = rw (same x, any_same f g same xs)

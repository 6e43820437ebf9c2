-- What the tables say of a query's literals, one after the other, and of the numbers at the first places.
use Rattle.std.specs.Prelude.{ℕ, suc, ◌<◌, ◌≡◌, Bool, true, false, not, ◌||◌, List, [], ◌∷◌, get_or, set, eqb, ltb, Result, Ok, Err}
use Rattle.refusal.specs.declared.Refusal.{Refusal}
use Rattle.refusal.specs.declared.Refusal.TheVariants as refusal
use Rattle.qbf.specs.Formula.{Literal, number_of, positive}

-- a literal that a query may not have: negative, not declared, not free, or named before
unfoldable pub barred : List ℕ → ℕ → List ℕ → Literal → Bool
barred places free values l =
    not (positive l) || eqb (get_or places (number_of l) 0) 0 || ltb free (get_or places (number_of l) 0) || not (eqb (get_or values (number_of l) 0) 0)

-- the values with the variables of the literals at v
unfoldable pub named : ℕ → List ℕ → List Literal → List ℕ
named v values [] = values
named v values (l ∷ ls) = named v (set values (number_of l) v) ls

unfoldable pub any_barred : List ℕ → ℕ → ℕ → List ℕ → List Literal → Bool
any_barred places free v values [] = false
any_barred places free v values (l ∷ ls) = barred places free values l || any_barred places free v (set values (number_of l) v) ls

-- one literal
pub record Marked (places : List ℕ) (free v : ℕ) (values : List ℕ) (l : Literal) (ok : Bool) (after : List ℕ) : Type 0 where
  pub told : ok ≡ not (barred places free values l)
  pub shown : ok ≡ true → after ≡ set values (number_of l) v

-- all of them
pub record Named (places : List ℕ) (free v : ℕ) (values : List ℕ) (ls : List Literal) (ok : Bool) (after : List ℕ) : Type 0 where
  pub told : ok ≡ not (any_barred places free v values ls)
  pub shown : ok ≡ true → after ≡ named v values ls

-- .. or their refusal
abbrev pub MarkedAs : List ℕ → ℕ → ℕ → List ℕ → Literal → Result Unit Refusal → List ℕ → Type 0
MarkedAs places free v values l (Ok u) after = Marked places free v values l true after
MarkedAs places free v values l (Err r) after = (r ≡ refusal.NotFree) × Marked places free v values l false after

abbrev pub NamedAs : List ℕ → ℕ → ℕ → List ℕ → List Literal → Result Unit Refusal → List ℕ → Type 0
NamedAs places free v values ls (Ok u) after = Named places free v values ls true after
NamedAs places free v values ls (Err r) after = (r ≡ refusal.NotFree) × Named places free v values ls false after

-- the variable after i others is open
abbrev pub open_after : List ℕ → List ℕ → ℕ → Bool
open_after values ns i = eqb (get_or values (get_or ns (suc i) 0) 0) 0

-- none of the first places' variables is (true), or one of them (false)
abbrev pub FullBy : List ℕ → List ℕ → ℕ → Bool → Type 0
FullBy values ns free true = (i : ℕ) → i < free → open_after values ns i ≡ false
FullBy values ns free false = (i : ℕ) × (i < free) × (open_after values ns i ≡ true)

-- What a reading records, by place.
use Rattle.std.specs.Prelude.{ℕ, suc, ◌<◌, ◌≡◌, ◌⊎◌, List, ◌∷◌, get_or}
use Rattle.std.proofs.Math.Option.{none}
use Rattle.qbf.specs.Open.{Reading}
use Rattle.tables.specs.Views.{value_code}

-- the value of the variable after i others
abbrev pub value_after : List ℕ → List ℕ → ℕ → ℕ
value_after values ns i = get_or values (get_or ns (suc i) 0) 0

-- the cells 1 to k are the values of the first places, and the others as given
pub record Placed (values ns : List ℕ) (k : ℕ) (given after : List ℕ) : Type 0 where
  pub at : (i : ℕ) → i < k → get_or after (suc i) 0 ≡ value_after values ns i
  pub rest : (p : ℕ) → (p ≡ 0) ⊎ (k < p) → get_or after p 0 ≡ get_or given p 0

-- law `placed_reading`: so they show a reading that the values record, if the given ones are open
abbrev pub ShownByPlace : Reading → List ℕ → Type 0
ShownByPlace os t = (p : ℕ) → get_or t p 0 ≡ value_code (get_or (none ∷ os) p none)

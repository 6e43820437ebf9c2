-- A stored constraint.
use Rattle.std.specs.Prelude.{◌≡◌, List, ℕ, take, drop}
use Rattle.search_entry.specs.declared.bounds.Bounds.{Bounds}
use Rattle.search_entry.specs.declared.Source.TheVariants.{Learned}

-- the bounds are those of a stored row
pub record Stored (b : Bounds) (row cells : List ℕ) : Type 0 where
  pub source : b.source ≡ Learned
  pub part : take b.len (drop b.start cells) ≡ row

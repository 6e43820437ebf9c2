-- The first code of a list at which a test passes, as code gives it, or none.
use Rattle.std.specs.Prelude.{ℕ, ◌<◌, ◌≡◌, Bool, List, length, get_or, Option, Some, None}
use Rattle.tables.specs.Views.{index_of}

abbrev pub FirstWith : (ℕ → Bool) → List ℕ → Option ℕ → Type 0
FirstWith f cs None = index_of f cs ≡ length cs
FirstWith f cs (Some r) = (index_of f cs < length cs) × (r ≡ get_or cs (index_of f cs) 0)

-- The editions, and those that a reader takes.
use Rattle.std.specs.Prelude.{ℕ, ◌≡◌, true, false, Option, Some, None, Result, Ok, Err}
use Rattle.refusal.specs.declared.Refusal.{Refusal}
use Rattle.refusal.specs.declared.Refusal.TheVariants as refusal
use Rattle.editions.specs.Opening.{both, only}
use Rattle.editions.specs.Opening as text
use Rattle.edition_reader.specs.declared.Edition.{Edition}
use Rattle.edition_reader.specs.declared.Edition.TheVariants as edition
use Rattle.edition_opening.specs.declared.Editions.{Editions}
use Rattle.edition_opening.specs.declared.Editions.TheVariants.{First, Second, Both}

abbrev pub accepted : Editions → text.Editions
accepted First = only 1
accepted Second = only 2
accepted Both = both

abbrev pub number_of : Edition → ℕ
number_of edition.First = 1
number_of edition.Second = 2

-- 0 before the book's line
abbrev pub edition_of : Option Edition → ℕ
edition_of None = 0
edition_of (Some d) = number_of d

-- the edition of a number, where a reader takes it
abbrev pub EditionRead : text.Editions → ℕ → Result Edition Refusal → Type 0
EditionRead a n (Ok d) = (number_of d ≡ n) × (a n ≡ true)
EditionRead a n (Err q) = (q ≡ refusal.Edition) × (a n ≡ false)

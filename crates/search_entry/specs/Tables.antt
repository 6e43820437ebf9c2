-- The learned constraints of a search as the code has them.
use Rattle.shelf.specs.Standing.{Room}
use Rattle.search_entry.specs.declared.Learned.{Learned}

-- there is a number for one constraint more of each polarity
abbrev pub Numbered : Learned → Type 0
Numbered l = Room l.clauses × Room l.cubes

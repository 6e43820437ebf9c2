-- That the cells and the links of a shelf agree has one proof at most: a shelf keeps it as a ghost field.
use Rattle.std.specs.Prelude.{ℕ, zero, suc, List}
use Rattle.std.proofs.Props.{props}
use Rattle.qbf.specs.Formula.{paper, highest}
use Rattle.tables.specs.Shelves.{Points, Shelf, Entries}

Points-prop : (base n h : ℕ) → IsProp (Points base n h)
Points-prop base zero h = hlevel props
Points-prop base (suc n) h = hlevel props

pub Shelf-prop : (stride slots : ℕ) (cells links : List ℕ) → IsProp (Shelf stride slots cells links)
Shelf-prop stride slots cells links = hlevel (props, Points-prop)

-- the cells and the links of lent tables agree
abbrev pub Agree : ℕ → ℕ → List ℕ → List ℕ → Type 0
Agree stride slots cells links = Shelf stride slots cells links

pub Entries-prop : (cells links : List ℕ) → IsProp (Entries cells links)
Entries-prop cells links = Shelf-prop highest.numbers paper.constraints cells links

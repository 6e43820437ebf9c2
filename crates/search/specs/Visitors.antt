-- What the visitors ask, leave and say, of the tables as the code has them.
use Rattle.std.specs.Prelude.{ℕ, suc, ◌*◌, ◌<◌, Bool, List}
use Rattle.qbf.specs.Formula.{highest, forall}
use Rattle.tables.specs.Views.{quantifier_code}
use Rattle.search_entry.specs.declared.Matrix.{Matrix}
use Rattle.search_entry.specs.declared.Search.{Search}
use Rattle.node.specs.declared.position.Position.{Position}
use Rattle.node.specs.declared.answer.Answer.{Answer}
use Rattle.node.specs.Node.{NextKind}
use Rattle.search.specs.Search.{AskedAt, AskedOpen, AskedBelow, AsideKept, Left, SideVisited, Followed, Reached}

-- ---- what is asked: of a visit, of a node that branches, and of a side
abbrev pub MayVisit : Bool → Search → Position → Type 0
MayVisit start x p = AskedAt start x.learned.clauses.links.now x.learned.cubes.links.now p

abbrev pub MayBranch : Search → Position → Type 0
MayBranch x p = AskedOpen x.learned.clauses.links.now x.learned.cubes.links.now p

-- the visitor of a quantifier, by its code: it is that of the next variable
pub record MayTurn (kind : ℕ) (m : Matrix) (x : Search) (p : Position) : Type 0 where
  pub branch : MayBranch x p
  pub next : NextKind m.quantifiers p.at kind
  pub code : kind < suc (quantifier_code forall)

abbrev pub MayGoDown : Search → Position → Type 0
MayGoDown x p = AskedBelow x.learned.clauses.links.now x.learned.cubes.links.now p

-- ---- what is left: the rows and marks before the place k, and what the nodes above put aside
abbrev pub Leaves : ℕ → Position → Answer → Search → List ℕ → Search → List ℕ → Type 0
Leaves k p r x t y u =
    Left k p r x.learned.clauses.links.now x.learned.cubes.links.now x.statuses.now t x.trail.now.sat x.trail.now.marks
    y.learned.clauses.links.now y.learned.cubes.links.now y.statuses.now u y.trail.now.sat y.trail.now.marks
    × AsideKept (p.at * highest.numbers) x.aside.now y.aside.now

-- ---- what is said: of a node that branches, of a visit, and of a side
abbrev pub Follows : Position → Answer → Matrix → Search → List ℕ → Search → List ℕ → Type 0
Follows p r m x t y u =
    Followed p r m.rows m.sets m.quantifiers x.statuses.now x.learned.clauses.cells.now x.learned.clauses.links.now x.learned.cubes.cells.now x.learned.cubes.links.now t x.trail.now.sat x.trail.now.marks
    y.trail.now.cube y.learned.clauses.cells.now y.learned.clauses.links.now y.learned.cubes.cells.now y.learned.cubes.links.now u

abbrev pub Reaches : Bool → Position → Answer → Matrix → Search → List ℕ → Search → List ℕ → Type 0
Reaches start p r m x t y u =
    Reached start p r m.rows m.sets m.quantifiers x.statuses.now x.learned.clauses.cells.now x.learned.clauses.links.now x.learned.cubes.cells.now x.learned.cubes.links.now t x.trail.now.sat x.trail.now.marks
    y.trail.now.cube y.learned.clauses.cells.now y.learned.clauses.links.now y.learned.cubes.cells.now y.learned.cubes.links.now u

abbrev pub GoesDown : ℕ → Position → Answer → Matrix → Search → List ℕ → Search → List ℕ → Type 0
GoesDown value p r m x t y u =
    SideVisited value p r m.rows m.sets m.quantifiers x.statuses.now x.learned.clauses.cells.now x.learned.clauses.links.now x.learned.cubes.cells.now x.learned.cubes.links.now t x.trail.now.sat x.trail.now.marks
    y.trail.now.cube y.learned.clauses.cells.now y.learned.clauses.links.now y.learned.cubes.cells.now y.learned.cubes.links.now u

-- The visit of a node by the tables as the code has them; what the branch of an open one leaves and says, where steps 1 to 4 changed the trail alone.
use Prim.Native.Nat.{ℕ, suc}
use mathlib.Core.Path.{◌≡◌, subst}
use mathlib.Core.List.{List}
use Rattle.tables.specs.Sets.{RowsKept}
use Rattle.search_entry.specs.declared.Matrix.{Matrix}
use Rattle.search_entry.specs.declared.Trail.{Trail}
use Rattle.search_entry.specs.declared.Search.{Search}
use Rattle.node.specs.declared.position.Position.{Position}
use Rattle.node.specs.declared.answer.Answer.{Answer}
use Rattle.search.specs.Search.{Visited}
use Rattle.search.specs.Visitors.{Leaves, Follows}
use Rattle.search.proofs.Counts.{counts_as}
use Rattle.search.proofs.Keeping.{kept_open}

-- at an inner node
abbrev pub Arrives : Position → Answer → Matrix → Search → List ℕ → Search → List ℕ → Type 0
Arrives p r m x t y u =
    Visited p r m.rows m.sets m.quantifiers x.statuses.now x.learned.clauses.cells.now x.learned.clauses.links.now x.learned.cubes.cells.now x.learned.cubes.links.now t x.trail.now.sat x.trail.now.marks
    y.trail.now.cube y.learned.clauses.cells.now y.learned.clauses.links.now y.learned.cubes.cells.now y.learned.cubes.links.now u

-- an open node
module _ {p : Position} (x : Search) (t : Trail) {b r : Answer} {y : Search} (is : y ≡ record x { trail = record x.trail { now = t } }) (z : Search) (tb tb' : List ℕ) (same : b ≡ r) where
  pub open_left : RowsKept p.at p.words x.trail.now.sat t.sat x.trail.now.marks t.marks → Leaves (suc p.at) p b y tb z tb' → Leaves p.at p r x tb z tb'
  open_left rows h =
      let l = subst (λ (s : Search). Leaves (suc p.at) p b s tb z tb') is h in (
        record { counts = counts_as same l.0.counts; kept = kept_open rows l.0.kept },
        l.1,
      )

  pub open_followed : (m : Matrix) → Follows p b m y tb z tb' → Follows p r m (record x { trail = record x.trail { now = t } }) tb z tb'
  open_followed m h = subst (λ (a : Answer). Follows p a m (record x { trail = record x.trail { now = t } }) tb z tb') same (subst (λ (s : Search). Follows p b m s tb z tb') is h)

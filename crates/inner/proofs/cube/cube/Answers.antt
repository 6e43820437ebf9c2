-- `inner::cube::cube` meets its contract. The true literals of the marked places are the implicant; then its reduct.
use native.Mathlib.Omega.{arith}
use mathlib.Core.Path.{sym, ◌∙◌}
use lib.Seq.{take-take}
use mathlib.Core.List.{[]}
use Rattle.qbf.specs.Learning.{implicant}
use Rattle.inner.proofs.Stepping.{steps_cube}
use Rattle.inner.proofs.cube.cube.Goals as goal

pub returns : goal.returns
returns c = (
  omega (arith, c.marked_codes-n.ensures.0, c.reduced_len.ensures.0),
  λ D R s st shown quantified formed long marked every.
      sym (take-take c.reduced_len.result c.marked_codes-n.result c.marked_codes-n.new.up (omega (arith, c.reduced_len.ensures.0)))
      ∙ c.reduced_len.ensures.1 D (implicant D s R []) quantified (c.marked_codes-n.ensures.1 s shown long ∙ steps_cube formed long marked every),
)

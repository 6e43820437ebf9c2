-- `words_at` meets its contract: each place brings the bits of its two literals.
use native.Mathlib.Omega.{arith}
use Prim.Native.Nat.{◌+◌}
use mathlib.Core.Path.{ap, ◌∙◌}
use mathlib.Core.Bool.{true, false}
use Rattle.tables.specs.Codes.{code_at}
use Rattle.search.proofs.Words.{held_sign, failed_sign}
use Rattle.searching.proofs.StartWords.{to_none, to_more, to_all}
use Rattle.searching.proofs.words.words_at.Goals as goal

pub loop-i-init : goal.loop-i-init
loop-i-init c = λ s shown long. (to_none s true, to_none s false)

pub loop-i-preserved : goal.loop-i-preserved
loop-i-preserved c = λ s shown long.
    let w = c.loop-i.invariant s shown long in
    let place = c.loop-i.i + 1 in (
      to_more w.0 c.bit-held.ensures (λ b e. c.true_at-code.ensures.1 s b shown e ∙ ap (code_at place) (held_sign b)),
      to_more w.1 c.bit-failed.ensures (λ b e. c.opposite.ensures.there place b (c.true_at-code.ensures.1 s b shown e) ∙ ap (code_at place) (failed_sign b)),
    )

pub returns : goal.returns
returns c = λ s shown long.
    let w = c.loop-i.invariant s shown long in (to_all w.0 (omega (arith, long, c.loop-i-test.false)), to_all w.1 (omega (arith, long, c.loop-i-test.false)))

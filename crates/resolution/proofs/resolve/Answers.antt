-- `resolve` meets its contract: both are trimmed, united and reduced.
use Prim.Native.Nat.{suc, ◌≤◌}
use native.Mathlib.Omega.{arith}
use mathlib.Core.Path.{sym, ◌∙◌}
use lib.ListN.{length}
use lib.Seq.{length-take-le, take-take}
use Rattle.qbf.specs.Learning.{union, without}
use Rattle.resolution.proofs.Coded.{without_ordered}
use Rattle.resolution.proofs.resolve.Goals as goal

pub returns : goal.returns
returns c =
    let cells = c.unite-united.new.out in
    let united = c.unite-united.result in
    let within : united ≤ length cells = omega (arith, c.unite-united.ensures.0, c.trimmed.ensures.0, c.trimmed-2.ensures.0, c.requires) in
    let short : c.reduced_len.result ≤ united = omega (arith, c.reduced_len.ensures.0, length-take-le united cells within) in (
      omega arith,
      λ D e f q he hf oe of le lf.
          let p = suc c.args.at in
          let made =
          c.unite-united.ensures.1 D (without D p e) (without D p f) (without_ordered D p e oe) (without_ordered D p f of)
          (c.trimmed.ensures.1 D e he oe le) (c.trimmed-2.ensures.1 D f hf of lf) in
          sym (take-take c.reduced_len.result united cells short) ∙ c.reduced_len.ensures.1 D (union D (without D p e) (without D p f)) q made,
    )

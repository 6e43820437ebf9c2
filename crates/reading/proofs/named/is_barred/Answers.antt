-- `reading::named::is_barred`: the tests of one literal, in their order.
use mathlib.Core.Path.{ap, ◌∙◌}
use Prim.Native.Nat.{ℕ}
use mathlib.Core.Bool.{not}
use lib.Dec.{eqb}
use lib.ListN.{get_or}
use lib.IntN.{ℤ}
use Rattle.qbf.specs.Formula.{number_of}
use Rattle.literal.proofs.Signed.{back}
use Rattle.reading.proofs.Judging.{barred_negative, barred_undeclared, barred_bound, barred_again}
use Rattle.reading.proofs.named.is_barred.Goals as goal

pub returns-then-negative : goal.returns-then-negative
returns-then-negative c = barred_negative c.args.flags.places.now c.args.flags.free c.args.values.now c.ranges.lit c.if-negative.true

pub returns-then-place-eq0 : goal.returns-then-place-eq0
returns-then-place-eq0 c = let p = c.literal_place-place.ensures.0 ∙ ap (λ (z : ℤ). get_or c.args.flags.places.now (number_of z) 0) (back c.ranges.lit) in
    barred_undeclared c.args.flags.places.now c.args.flags.free c.args.values.now c.ranges.lit c.if-negative.false p c.if-place-eq0.true

pub returns-then-bound : goal.returns-then-bound
returns-then-bound c = let p = c.literal_place-place.ensures.0 ∙ ap (λ (z : ℤ). get_or c.args.flags.places.now (number_of z) 0) (back c.ranges.lit) in
    barred_bound c.args.flags.places.now c.args.flags.free c.args.values.now c.ranges.lit c.if-negative.false p c.if-place-eq0.false c.if-bound.true

pub returns : goal.returns
returns c = let p = c.literal_place-place.ensures.0 ∙ ap (λ (z : ℤ). get_or c.args.flags.places.now (number_of z) 0) (back c.ranges.lit) in
    let n = c.number_of.ensures ∙ ap number_of (back c.ranges.lit) in
    ap not (c.is_open.ensures ∙ ap (λ (k : ℕ). eqb (get_or c.args.values.now k 0) 0) n)
    ∙ barred_again c.args.flags.places.now c.args.flags.free c.args.values.now c.ranges.lit c.if-negative.false p c.if-place-eq0.false c.if-bound.false

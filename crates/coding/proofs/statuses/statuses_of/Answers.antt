-- `coding::statuses::statuses_of` meets its contract. The loop keeps the statuses at the node of the first places.
use Prim.Native.Nat.{◌+◌}
use mathlib.Core.Path.{refl, sym, ap, subst, ◌∙◌}
use native.Mathlib.Omega.{arith}
use lib.ListN.{length, take}
use Rattle.tables.specs.Codes.{Statuses}
use Rattle.tables.specs.Shelves.{code_count}
use Rattle.coding.proofs.Placewise.{statuses_root, value_by_number, statuses_next}
use Rattle.coding.proofs.Given.{given_length}
use Rattle.coding.proofs.statuses.statuses_of.Goals as goal

pub loop-i-init : goal.loop-i-init
loop-i-init c = (omega arith, c.requires, refl, λ D s n v o e h. statuses_root code_count)

pub loop-i-preserved : goal.loop-i-preserved
loop-i-preserved c = (
  omega arith,
  omega arith,
  ap length c.give.ensures.0 ∙ given_length (c.loop-i.i + 1) c.value_at-value.result c.loop-i.statuses ∙ c.loop-i.invariant.2,
  λ D s n v o e h.
      subst (Statuses (take (c.loop-i.i + 1) s)) (sym c.give.ensures.0)
      (statuses_next s c.loop-i.statuses c.loop-i.i c.value_at-value.result (c.loop-i.invariant.3 D s n v o e h) (omega arith) (omega (arith, c.loop-i.invariant.2))
      (c.value_at-value.ensures ∙ value_by_number D s c.args.numbers.now c.args.values.now n v o c.loop-i.i (omega arith) h)),
)

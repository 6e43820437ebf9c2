-- `search_calls::checked::checked` meets its contract.
use mathlib.Core.Path.{◌≡◌, refl, sym, subst}
use mathlib.Core.Bool.{true}
use lib.ListN.{take}
use Prim.Native.Nat.{◌+◌}
use Rattle.tables.specs.Views.{Places, Kinds}
use Rattle.state.specs.State.{State}
use Rattle.state.specs.Reading.{prefix_in, accepted}
use Rattle.state_parts.specs.Layout.{limits_in}
use Rattle.search_calls.proofs.Checks.{accepted_in, placed_in, kinded_in}
use Rattle.search_calls.proofs.checked.checked.Goals as goal

pub invariant_of-result : goal.invariant_of-result
invariant_of-result c = let l = c.args.layout in
    let same = sym c.parts.ensures in
    record {
      few_numbers = l.few_numbers;
      few_clauses = l.few_clauses;
      accepted = subst (λ (x : State). accepted (limits_in l) x ≡ true) same (accepted_in l c.args.cells.now c.args.literals.now c.requires);
      placed = subst (λ (x : State). Places (prefix_in x) (take (l.numbers + 1) c.args.places.now)) same (placed_in l c.args.cells.now c.args.literals.now c.requires refl);
      kinded = subst (λ (x : State). Kinds (prefix_in x) (take (l.numbers + 1) c.args.kinds.now)) same (kinded_in l c.args.cells.now c.args.literals.now c.requires refl);
    }

pub returns : goal.returns
returns c = record { numbers = refl; clauses = refl; state = c.parts.ensures }

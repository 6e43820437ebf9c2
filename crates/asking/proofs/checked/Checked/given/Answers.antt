-- `Checked::given` meets its contract: each row of a checked state lies within its table.
use native.Mathlib.Omega.{arith}
use Rattle.asking.proofs.Finding.{few_of, clauses_of, learned_of, cubes_of, narrow_of, held_standing}
use Rattle.asking.proofs.checked.Checked.given.Goals as goal

pub invariant_of-result : goal.invariant_of-result
invariant_of-result c = record { standing = held_standing (clauses_of c.args.self) }

pub invariant_of-result-2 : goal.invariant_of-result-2
invariant_of-result-2 c = record { standing = held_standing (learned_of c.args.self) }

pub invariant_of-result-3 : goal.invariant_of-result-3
invariant_of-result-3 c = record { standing = held_standing (cubes_of c.args.self) }

pub invariant_of-result-4 : goal.invariant_of-result-4
invariant_of-result-4 c = record {
  few = few_of c.args.self;
  short = omega arith;
  narrow = (narrow_of c.args.self, narrow_of c.args.self);
  clauses_held = clauses_of c.args.self;
  learned_held = (learned_of c.args.self, cubes_of c.args.self);
}

-- Learned constraints at the start node.
use Rattle.std.specs.Prelude.{Bool, ◌&&◌, leb, length}
use Rattle.qbf.specs.Formula.{Prefix, Node, all, has}
use Rattle.qbf.specs.Learning.{Polarity, Constraint, last_place}

-- "at the start node, if it is at most k": e is eligible, and its literals all have the truth value v
abbrev pub matching : Prefix → Polarity → Node → Constraint → Bool
matching D v s e = leb (last_place D e) (length s) && all (has D v s) e

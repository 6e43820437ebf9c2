-- Whether a constraint matches at the start node.
use Prim.Native.Nat.{ℕ}
use mathlib.Core.Path.{◌≡◌}
use mathlib.Core.Bool.{Bool, true, false}
use mathlib.Core.List.{List}
use lib.Dec.{eqb}
use Rattle.qbf.specs.Formula.{Prefix, Literal, Node, has}
use Rattle.tables.specs.Codes.{wanted}
use Rattle.tables.specs.Views.{Values, status}
use Rattle.tables.proofs.Laws.{status_true, status_false}

pub has_status : (D : Prefix) (s : Node) (vs : List ℕ) → Values D s vs → (v : Bool) (l : Literal) → eqb (status vs l) (wanted v) ≡ has D v s l
has_status D s vs shown true l = status_true D s vs shown l
has_status D s vs shown false l = status_false D s vs shown l

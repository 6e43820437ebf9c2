-- What the code's contract names, at the bytes of a card and of a reading, is the closest reading of the card's lines.
use Prim.Native.Nat.{ℕ}
use mathlib.Core.Path.{◌≡◌, ap, ◌∙◌}
use mathlib.Core.List.{List, map}
use lib.ListN.{length, length-map}
use Rattle.qbf.specs.Formula.{Node, Prefix, Clause}
use Rattle.qbf.specs.Truth.{Verdict, free_variables}
use Rattle.qbf.specs.Card.{byte_of, table_of}
use Rattle.qbf.specs.Closest.{closest_in}
use Rattle.qbf.specs.Demands.{CardRight}
use Rattle.closest.specs.Table.{values_in, lines_in}
use Rattle.closest.proofs.Bytes.{values_shown, lines_shown}

pub bytes_right : (p : Verdict) (D : Prefix) (R : List Clause) (size : ℕ) (ls : List Node) → CardRight p D R ls → (t : Node) → length t ≡ free_variables D
    → closest_in (lines_in (length (map byte_of t)) (length ls) (table_of (free_variables D) size ls)) (values_in (map byte_of t)) ≡ closest_in ls t
bytes_right p D R size ls c t n =
    ap (λ (f : ℕ). closest_in (lines_in f (length ls) (table_of (free_variables D) size ls)) (values_in (map byte_of t))) (length-map t byte_of ∙ n)
    ∙ ap (closest_in (lines_in (free_variables D) (length ls) (table_of (free_variables D) size ls))) (values_shown t)
    ∙ ap (λ (l : List Node). closest_in l t) (lines_shown (free_variables D) size ls (λ s m. ((c.topmost s).0 m).within))

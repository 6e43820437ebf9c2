-- The flags that a line's literals name, told apart by their signs.
use Rattle.std.specs.Prelude.{ℕ, ◌≡◌, true, false, List, ℤ, take}
use Rattle.qbf.specs.Formula.{Literal}
use Rattle.layout.specs.Session.{named}
use Rattle.reader.specs.Items.{Kept}
use Rattle.named.proofs.Standing.{deciding}
use Rattle.call_lines.specs.declared.asked.NamedFlags.{NamedFlags}

-- of n literals, as many as stand in the table: those that do not change no answer
pub record ToldApart (n : ℕ) (lits : List ℤ) (r : NamedFlags) : Type 0 where
  pub on : (ls : List Literal) → Kept n lits ls → take r.ons r.on ≡ named true (deciding ls)
  pub off : (ls : List Literal) → Kept n lits ls → take r.offs r.off ≡ named false (deciding ls)

-- `read_item` meets its contract: a word that is a number, or `(no` and a number with a closing bracket.
use mathlib.Core.Path.{sym, ap, ◌∙◌}
use native.Mathlib.Omega.{arith}
use lib.IntN.{pos}
use Rattle.layout.specs.Forms.{off}
use Rattle.reader.specs.Pieces.{size_left}
use Rattle.reader.specs.Numbers.{num_of}
use Rattle.reader.proofs.Narrowed.{narrowed_on, narrowed_off}
use Rattle.reader.proofs.Literals.{literal_alone, literal_on, literal_off, consed_none, item_read, behind_one, behind_two}
use Rattle.reader.proofs.item.read_item.Goals as goal

pub returns-in_err-left : goal.returns-in_err-left
returns-in_err-left c = rw c.from_residual.ensures (literal_alone c.cut.ensures c.args.signed c.in_err-left.was (sym c.is_no.ensures ∙ c.if-is_no.true))

pub returns-in_err-v : goal.returns-in_err-v
returns-in_err-v c = rw c.from_residual-in_err-v.ensures (literal_off c.cut.ensures c.args.signed c.in_ok-left.was c.cut-then-is_no.ensures (sym c.is_no.ensures ∙ c.if-is_no.true) (ap num_of (sym c.in_err-v.was) ∙ c.closed_number.ensures) ∙ consed_none off _)

pub returns-then-is_no : goal.returns-then-is_no
returns-then-is_no c = (
  omega (arith, c.cut.ensures.shorter, c.cut-then-is_no.ensures.shorter, ap size_left c.in_ok-left.was),
  item_read off _ _ c.off.type_inv (narrowed_off _ c.narrow.ensures c.off.ensures)
      (literal_off c.cut.ensures c.args.signed c.in_ok-left.was c.cut-then-is_no.ensures (sym c.is_no.ensures ∙ c.if-is_no.true) (ap num_of (sym c.in_ok-v.was) ∙ c.closed_number.ensures)),
  behind_two c.cut.ensures c.in_ok-left.was c.cut-then-is_no.ensures,
)

pub returns-in_err-v-2 : goal.returns-in_err-v-2
returns-in_err-v-2 c = rw c.from_residual-in_err-v-2.ensures (literal_on c.cut.ensures c.args.signed (sym c.is_no.ensures ∙ c.if-is_no.false) (ap num_of (sym c.in_err-v-2.was) ∙ c.read_number.ensures) ∙ consed_none pos _)

pub returns : goal.returns
returns c = (
  omega (arith, c.cut.ensures.shorter),
  item_read pos _ _ c.on.type_inv (narrowed_on _ c.narrow-2.ensures c.on.ensures)
      (literal_on c.cut.ensures c.args.signed (sym c.is_no.ensures ∙ c.if-is_no.false) (ap num_of (sym c.in_ok-v-2.was) ∙ c.read_number.ensures)),
  behind_one c.cut.ensures,
)

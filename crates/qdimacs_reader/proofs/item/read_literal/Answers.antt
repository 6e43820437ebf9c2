-- `read_literal`: `0`, then a minus and a number, or a number.
use mathlib.Core.Path.{sym, ◌∙◌}
use lib.IntN.{pos}
use Rattle.layout.specs.Forms.{off}
use Rattle.reader.proofs.Narrowed.{back16, narrowed_on, narrowed_off}
use Rattle.qdimacs_reader.proofs.Literals.{literal_zero, literal_on, literal_off}
use Rattle.qdimacs_reader.proofs.item.read_literal.Goals as goal

pub returns-then-is_zero : goal.returns-then-is_zero
returns-then-is_zero c = literal_zero _ _ (sym c.is_zero.ensures ∙ c.if-is_zero.true)

pub returns-in_err-v : goal.returns-in_err-v
returns-in_err-v c = let item = sym c.is_zero.ensures ∙ c.if-is_zero.false in
    let signed = sym c.is_off.ensures ∙ c.if-is_off.true in
    rw c.from_residual.ensures (literal_off c.args.signed c.args.w.now item signed c.in_err-v.ensures)

pub returns-then-is_off : goal.returns-then-is_off
returns-then-is_off c = let item = sym c.is_zero.ensures ∙ c.if-is_zero.false in
    let signed = sym c.is_off.ensures ∙ c.if-is_off.true in
    (off c.in_ok-v.v, literal_off c.args.signed c.args.w.now item signed c.in_ok-v.ensures, back16 c.off.type_inv ∙ narrowed_off _ c.narrow.ensures c.off.ensures)

pub returns-in_err-v-2 : goal.returns-in_err-v-2
returns-in_err-v-2 c = let item = sym c.is_zero.ensures ∙ c.if-is_zero.false in
    let plain = sym c.is_off.ensures ∙ c.if-is_off.false in
    rw c.from_residual-in_err-v-2.ensures (literal_on c.args.signed c.args.w.now item plain c.in_err-v-2.ensures)

pub returns : goal.returns
returns c = let item = sym c.is_zero.ensures ∙ c.if-is_zero.false in
    let plain = sym c.is_off.ensures ∙ c.if-is_off.false in
    (pos c.in_ok-v-2.v, literal_on c.args.signed c.args.w.now item plain c.in_ok-v-2.ensures, back16 c.on.type_inv ∙ narrowed_on _ c.narrow-2.ensures c.on.ensures)

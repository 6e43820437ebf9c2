-- `nearest_turn` meets its contract.
use mathlib.Core.Path.{subst}
use Rattle.std.specs.Prelude.{Result}
use Rattle.refusal.specs.declared.Refusal.{Refusal}
use Prim.Native.Nat.{ℕ}
use lib.ListN.{length}
use Rattle.answer_text.specs.Shown.{CardToldBy}
use Rattle.reading_answers.proofs.Served.{nearest_on, nearest_turned}
use Rattle.reading_answers.proofs.turn.nearest_turn.Goals as goal

pub put_nearest-length-requires : goal.put_nearest-length-requires
put_nearest-length-requires c = nearest_on c.args.names c.args.found c.requires

pub returns-clause-held : goal.returns-clause-held
returns-clause-held c = (c.put_nearest-length.ensures (nearest_on c.args.names c.args.found c.requires)).held

pub returns-clause-turned : goal.returns-clause-turned
returns-clause-turned c = λ h s t after.
    nearest_turned c.args.names c.args.found h c.args.line c.card_told-shown.result
    (subst (λ (p : Result ℕ Refusal). CardToldBy c.args.names.free p (length c.args.found.table.now) c.card_told-shown.result) c.card_found.ensures c.card_told-shown.ensures)
    (c.put_nearest-length.ensures (nearest_on c.args.names c.args.found h)).wrote s t after

-- `load` meets its contract.
use mathlib.Core.Path.{subst, sym}
use mathlib.Core.List.{◌++◌}
use Rattle.layout.specs.Words.{Bytes}
use Rattle.day_text.specs.Output.{at_text}
use Rattle.day_turns.specs.Turns.{Printed}
use Rattle.day_turns.proofs.Shows.{written}
use Rattle.day_turns.proofs.text.load.Goals as goal

pub returns : goal.returns
returns c = λ cards among total bs w.
    record {
      printed = subst (λ (t : Bytes). Printed (at_text c.args.t.place ++ t) c.tell_text.result c.tell_text.new.answer) (sym (c.open_at-opened.ensures.told cards total bs among w)) (written (at_text c.args.t.place ++ _) c.args.answer.now c.tell_text.new.answer c.tell_text.result c.tell_text.ensures);
      loads = c.open_at-opened.ensures.loads cards total bs among w;
    }

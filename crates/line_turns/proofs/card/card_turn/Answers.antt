-- `card_turn` meets its contract.
use Rattle.line_turns.proofs.Cards.{listed_on, card_turned}
use Rattle.line_turns.proofs.card.card_turn.Goals as goal

pub put_listed-length-requires : goal.put_listed-length-requires
put_listed-length-requires c = listed_on c.args.names c.args.filled c.args.listed c.requires

pub returns-clause-turned : goal.returns-clause-turned
returns-clause-turned c = λ h s t after.
    card_turned c.args.names c.args.filled c.args.listed h c.args.line c.card_told-shown.result c.card_told-shown.ensures (c.put_listed-length.ensures (listed_on c.args.names c.args.filled c.args.listed h)).wrote s t after

pub returns-clause-held : goal.returns-clause-held
returns-clause-held c = (c.put_listed-length.ensures (listed_on c.args.names c.args.filled c.args.listed c.requires)).held

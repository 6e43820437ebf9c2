-- `read_words` meets its contract: the call by the first word.
use Rattle.std.specs.Prelude.{Some, None}
use Rattle.reader.proofs.Calls.{call_none, rule_read, query_read, card_read, keep_card_read, forget_read, withdraw_read, one_read, closest_read, no_word}
use Rattle.reader.proofs.call.read_words.Goals as goal

pub returns-in_err-w : goal.returns-in_err-w
returns-in_err-w c = rw c.from_residual.ensures (no_word c.cut.ensures c.call_word.ensures c.in_err-w.was)

pub returns-in_err-n : goal.returns-in_err-n
returns-in_err-n c = rw c.from_residual-in_err-n.ensures (call_none c.cut.ensures c.call_word.ensures c.in_ok-w.was c.takes_signs.ensures c.read_items.result c.read_items.new.out c.read_items.ensures c.in_err-n.was)

pub returns-in-Rule : goal.returns-in-Rule
returns-in-Rule c = rule_read c.cut.ensures c.call_word.ensures c.in_ok-w.was c.takes_signs.ensures c.read_items.result c.read_items.new.out c.read_items.ensures c.in_ok-n.was c.in-Rule.is

pub returns-in-Query : goal.returns-in-Query
returns-in-Query c = query_read c.cut.ensures c.call_word.ensures c.in_ok-w.was c.takes_signs.ensures c.read_items.result c.read_items.new.out c.read_items.ensures c.in_ok-n.was c.in-Query.is

pub returns-in_err-card_size-in-Card : goal.returns-in_err-card_size-in-Card
returns-in_err-card_size-in-Card c = rw c.from_residual-in_err-card_size-in-Card.ensures (card_read c.cut.ensures c.call_word.ensures c.in_ok-w.was c.takes_signs.ensures c.read_items.result c.read_items.new.out c.read_items.ensures c.in_ok-n.was c.in-Card.is None c.in_err-card_size-in-Card.ensures)

pub returns-in_ok-card_size-in-Card : goal.returns-in_ok-card_size-in-Card
returns-in_ok-card_size-in-Card c = card_read c.cut.ensures c.call_word.ensures c.in_ok-w.was c.takes_signs.ensures c.read_items.result c.read_items.new.out c.read_items.ensures c.in_ok-n.was c.in-Card.is (Some c.in_ok-card_size-in-Card.field-0) c.in_ok-card_size-in-Card.ensures

pub returns-in_err-card_size-in-KeepCard : goal.returns-in_err-card_size-in-KeepCard
returns-in_err-card_size-in-KeepCard c = rw c.from_residual-in_err-card_size-in-KeepCard.ensures (keep_card_read c.cut.ensures c.call_word.ensures c.in_ok-w.was c.takes_signs.ensures c.read_items.result c.read_items.new.out c.read_items.ensures c.in_ok-n.was c.in-KeepCard.is None c.in_err-card_size-in-KeepCard.ensures)

pub returns-in_ok-card_size-in-KeepCard : goal.returns-in_ok-card_size-in-KeepCard
returns-in_ok-card_size-in-KeepCard c = keep_card_read c.cut.ensures c.call_word.ensures c.in_ok-w.was c.takes_signs.ensures c.read_items.result c.read_items.new.out c.read_items.ensures c.in_ok-n.was c.in-KeepCard.is (Some c.in_ok-card_size-in-KeepCard.field-0) c.in_ok-card_size-in-KeepCard.ensures

pub returns-in-Forget : goal.returns-in-Forget
returns-in-Forget c = forget_read c.cut.ensures c.call_word.ensures c.in_ok-w.was c.takes_signs.ensures c.read_items.result c.read_items.new.out c.read_items.ensures c.in_ok-n.was c.in-Forget.is c.then_some.ensures

pub returns-in-Withdraw : goal.returns-in-Withdraw
returns-in-Withdraw c = withdraw_read c.cut.ensures c.call_word.ensures c.in_ok-w.was c.takes_signs.ensures c.read_items.result c.read_items.new.out c.read_items.ensures c.in_ok-n.was c.in-Withdraw.is c.then_some-in-Withdraw.ensures

pub returns-in-One : goal.returns-in-One
returns-in-One c = one_read c.cut.ensures c.call_word.ensures c.in_ok-w.was c.takes_signs.ensures c.read_items.result c.read_items.new.out c.read_items.ensures c.in_ok-n.was c.in-One.is

pub returns-in-Closest : goal.returns-in-Closest
returns-in-Closest c = closest_read c.cut.ensures c.call_word.ensures c.in_ok-w.was c.takes_signs.ensures c.read_items.result c.read_items.new.out c.read_items.ensures c.in_ok-n.was c.in-Closest.is

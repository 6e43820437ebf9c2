-- `serve_call` meets its contract.
use native.Mathlib.Omega.{arith}
use Prim.Native.Nat.{ℕ, ◌≤◌}
use mathlib.Core.Bool.{true, false}
use mathlib.Core.Path.{subst, ◌∙◌}
use lib.ListN.{length, take, drop, length-take}
use Rattle.qbf.specs.Calls.{card_of, closest}
use Rattle.layout.specs.Program.{table_bytes}
use Rattle.layout.specs.Session.{named}
use Rattle.call_lines.specs.Small.{Small}
use Rattle.call_lines.proofs.Calls.{sized, forget_called, withdraw_called, rule_called, one_called, query_called, closest_called, called_rule, called_query, called_card, called_keep_card, called_forget, called_withdraw, called_one, called_closest}
use Rattle.call_lines.proofs.call.serve_call.Goals as goal

pub returns-in-Rule : goal.returns-in-Rule
returns-in-Rule c = record {
  held = c.serve_change.ensures.held;
  called = λ o h.
      called_rule c.args.spelled.lits.now c.args.spelled.ceiling c.args.spelled.call o h c.in-Rule.n c.in-Rule.is (λ ls k. rule_called c.in-Rule.n c.args.spelled.lits.now c.args.spelled.wide c.kept-k.result c.kept-k.ensures c.unsearched.ensures c.serve_change.ensures.turned ls k c.args.cards.now);
}

pub returns-in-Query : goal.returns-in-Query
returns-in-Query c = record {
  held = c.serve_query.ensures.held;
  called = λ o h.
      called_query c.args.spelled.lits.now c.args.spelled.ceiling c.args.spelled.call o h c.in-Query.n c.in-Query.is (λ ls k.
      query_called c.args.spelled.ceiling ls c.asked.result.on.now c.asked.result.off.now (c.asked.ensures.0 ∙ c.told_apart-flags.ensures.on ls k) (c.asked.ensures.1 ∙ c.told_apart-flags.ensures.off ls k) c.asked.ensures.2 c.serve_query.ensures.called c.args.cards.now);
}

pub returns-in-Card : goal.returns-in-Card
returns-in-Card c = record {
  held = c.serve_card.ensures.held;
  called = λ o h.
      let small : c.in-Card.size ≤ table_bytes = subst Small c.in-Card.is c.requires in
      called_card c.args.spelled.lits.now c.args.spelled.ceiling c.args.spelled.call o h c.in-Card.size c.in-Card.is
      (sized (card_of true c.args.spelled.ceiling) (length (take c.in-Card.size c.args.cards.now)) c.in-Card.size (omega (arith, small, length-take c.in-Card.size c.args.cards.now)) (c.serve_card.ensures.called c.args.at.shown c.args.cards.now (drop c.in-Card.size c.args.cards.now)));
}

pub returns-in-KeepCard : goal.returns-in-KeepCard
returns-in-KeepCard c = record {
  held = c.serve_card-in-KeepCard.ensures.held;
  called = λ o h.
      let small : c.in-KeepCard.size ≤ table_bytes = subst Small c.in-KeepCard.is c.requires in
      called_keep_card c.args.spelled.lits.now c.args.spelled.ceiling c.args.spelled.call o h c.in-KeepCard.size c.in-KeepCard.is
      (sized (card_of false c.args.spelled.ceiling) (length (take c.in-KeepCard.size c.args.cards.now)) c.in-KeepCard.size (omega (arith, small, length-take c.in-KeepCard.size c.args.cards.now)) (c.serve_card-in-KeepCard.ensures.called c.args.at.shown c.args.cards.now (drop c.in-KeepCard.size c.args.cards.now)));
}

pub returns-in-Forget : goal.returns-in-Forget
returns-in-Forget c = record {
  held = c.serve_change-in-Forget.ensures.held;
  called = λ o h.
      called_forget c.args.spelled.lits.now c.args.spelled.ceiling c.args.spelled.call o h c.in-Forget.is (forget_called c.unsearched-in-Forget.ensures c.serve_change-in-Forget.ensures.turned c.args.cards.now);
}

pub returns-in-Withdraw : goal.returns-in-Withdraw
returns-in-Withdraw c = record {
  held = c.serve_change-in-Withdraw.ensures.held;
  called = λ o h.
      called_withdraw c.args.spelled.lits.now c.args.spelled.ceiling c.args.spelled.call o h c.in-Withdraw.is (withdraw_called c.unsearched-in-Withdraw.ensures c.serve_change-in-Withdraw.ensures.turned c.args.cards.now);
}

pub returns-in-One : goal.returns-in-One
returns-in-One c = record {
  held = c.serve_change-in-One.ensures.held;
  called = λ o h.
      called_one c.args.spelled.lits.now c.args.spelled.ceiling c.args.spelled.call o h c.in-One.n c.in-One.is (λ ls k. one_called c.in-One.n c.args.spelled.lits.now c.args.spelled.wide c.kept-k-in-One.result c.kept-k-in-One.ensures c.unsearched-in-One.ensures c.serve_change-in-One.ensures.turned ls k c.args.cards.now);
}

pub returns-in-Closest : goal.returns-in-Closest
returns-in-Closest c = record {
  held = c.serve_closest.ensures.held;
  called = λ o h.
      let small : c.in-Closest.size ≤ table_bytes = subst Small c.in-Closest.is c.requires in
      called_closest c.args.spelled.lits.now c.args.spelled.ceiling c.args.spelled.call o h c.in-Closest.n c.in-Closest.size c.in-Closest.is (λ ls k.
      sized (λ (m : ℕ). closest c.args.spelled.ceiling m (named true ls) (named false ls)) (length (take c.in-Closest.size c.args.cards.now)) c.in-Closest.size (omega (arith, small, length-take c.in-Closest.size c.args.cards.now))
      (closest_called c.args.spelled.ceiling ls c.asked-in-Closest.result.on.now c.asked-in-Closest.result.off.now (c.asked-in-Closest.ensures.0 ∙ c.told_apart-flags-in-Closest.ensures.on ls k) (c.asked-in-Closest.ensures.1 ∙ c.told_apart-flags-in-Closest.ensures.off ls k) c.asked-in-Closest.ensures.2
      (length (take c.in-Closest.size c.args.cards.now)) c.args.at.shown c.args.cards.now (c.serve_closest.ensures.called c.args.at.shown c.args.cards.now (drop c.in-Closest.size c.args.cards.now))));
}

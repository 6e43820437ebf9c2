-- `call_word` meets its contract: the tests in the order of the code.
use mathlib.Core.Path.{sym, ◌∙◌}
use Rattle.reader.proofs.Calls.{call_1, call_2, call_3, call_4, call_5, call_6, call_7, call_8, call_9}
use Rattle.reader.proofs.call.call_word.Goals as goal

pub returns-then-same_word : goal.returns-then-same_word
returns-then-same_word c = let is_rule_lem = sym c.same_word.ensures ∙ c.if-same_word.true in
    call_1 _ is_rule_lem

pub returns-then-same_word-2 : goal.returns-then-same_word-2
returns-then-same_word-2 c = let not-rule = sym c.same_word.ensures ∙ c.if-same_word.false in
    let is-query = sym c.same_word-2.ensures ∙ c.if-same_word-2.true in
    call_2 _ not-rule is-query

pub returns-then-same_word-3 : goal.returns-then-same_word-3
returns-then-same_word-3 c = let not-rule = sym c.same_word.ensures ∙ c.if-same_word.false in
    let not-query = sym c.same_word-2.ensures ∙ c.if-same_word-2.false in
    let is-card = sym c.same_word-3.ensures ∙ c.if-same_word-3.true in
    call_3 _ not-rule not-query is-card

pub returns-then-same_word-4 : goal.returns-then-same_word-4
returns-then-same_word-4 c = let not-rule = sym c.same_word.ensures ∙ c.if-same_word.false in
    let not-query = sym c.same_word-2.ensures ∙ c.if-same_word-2.false in
    let not-card = sym c.same_word-3.ensures ∙ c.if-same_word-3.false in
    let is-keep-card = sym c.same_word-4.ensures ∙ c.if-same_word-4.true in
    call_4 _ not-rule not-query not-card is-keep-card

pub returns-then-same_word-5 : goal.returns-then-same_word-5
returns-then-same_word-5 c = let not-rule = sym c.same_word.ensures ∙ c.if-same_word.false in
    let not-query = sym c.same_word-2.ensures ∙ c.if-same_word-2.false in
    let not-card = sym c.same_word-3.ensures ∙ c.if-same_word-3.false in
    let not-keep-card = sym c.same_word-4.ensures ∙ c.if-same_word-4.false in
    let is-forget = sym c.same_word-5.ensures ∙ c.if-same_word-5.true in
    call_5 _ not-rule not-query not-card not-keep-card is-forget

pub returns-then-same_word-6 : goal.returns-then-same_word-6
returns-then-same_word-6 c = let not-rule = sym c.same_word.ensures ∙ c.if-same_word.false in
    let not-query = sym c.same_word-2.ensures ∙ c.if-same_word-2.false in
    let not-card = sym c.same_word-3.ensures ∙ c.if-same_word-3.false in
    let not-keep-card = sym c.same_word-4.ensures ∙ c.if-same_word-4.false in
    let not-forget = sym c.same_word-5.ensures ∙ c.if-same_word-5.false in
    let is-withdraw = sym c.same_word-6.ensures ∙ c.if-same_word-6.true in
    call_6 _ not-rule not-query not-card not-keep-card not-forget is-withdraw

pub returns-then-same_word-7 : goal.returns-then-same_word-7
returns-then-same_word-7 c = let not-rule = sym c.same_word.ensures ∙ c.if-same_word.false in
    let not-query = sym c.same_word-2.ensures ∙ c.if-same_word-2.false in
    let not-card = sym c.same_word-3.ensures ∙ c.if-same_word-3.false in
    let not-keep-card = sym c.same_word-4.ensures ∙ c.if-same_word-4.false in
    let not-forget = sym c.same_word-5.ensures ∙ c.if-same_word-5.false in
    let not-withdraw = sym c.same_word-6.ensures ∙ c.if-same_word-6.false in
    let is_one = sym c.same_word-7.ensures ∙ c.if-same_word-7.true in
    call_7 _ not-rule not-query not-card not-keep-card not-forget not-withdraw is_one

pub returns-then-same_word-8 : goal.returns-then-same_word-8
returns-then-same_word-8 c = let not-rule = sym c.same_word.ensures ∙ c.if-same_word.false in
    let not-query = sym c.same_word-2.ensures ∙ c.if-same_word-2.false in
    let not-card = sym c.same_word-3.ensures ∙ c.if-same_word-3.false in
    let not-keep-card = sym c.same_word-4.ensures ∙ c.if-same_word-4.false in
    let not-forget = sym c.same_word-5.ensures ∙ c.if-same_word-5.false in
    let not-withdraw = sym c.same_word-6.ensures ∙ c.if-same_word-6.false in
    let not-one = sym c.same_word-7.ensures ∙ c.if-same_word-7.false in
    let is-closest = sym c.same_word-8.ensures ∙ c.if-same_word-8.true in
    call_8 _ not-rule not-query not-card not-keep-card not-forget not-withdraw not-one is-closest

pub returns : goal.returns
returns c = let not-rule = sym c.same_word.ensures ∙ c.if-same_word.false in
    let not-query = sym c.same_word-2.ensures ∙ c.if-same_word-2.false in
    let not-card = sym c.same_word-3.ensures ∙ c.if-same_word-3.false in
    let not-keep-card = sym c.same_word-4.ensures ∙ c.if-same_word-4.false in
    let not-forget = sym c.same_word-5.ensures ∙ c.if-same_word-5.false in
    let not-withdraw = sym c.same_word-6.ensures ∙ c.if-same_word-6.false in
    let not-one = sym c.same_word-7.ensures ∙ c.if-same_word-7.false in
    let not-closest = sym c.same_word-8.ensures ∙ c.if-same_word-8.false in
    call_9 _ not-rule not-query not-card not-keep-card not-forget not-withdraw not-one not-closest

-- `word_of` meets its contract: the tests in the order of the code.
use mathlib.Core.Path.{sym, ◌∙◌}
use Rattle.reader.proofs.Keywords.{word_1, word_2, word_3, word_4, word_5, word_6, word_7}
use Rattle.reader.proofs.keyword.word_of.Goals as goal

pub returns-then-same_word : goal.returns-then-same_word
returns-then-same_word c = let is_book_lem = sym c.same_word.ensures ∙ c.if-same_word.true in
    word_1 _ is_book_lem

pub returns-then-same_word-2 : goal.returns-then-same_word-2
returns-then-same_word-2 c = let not-book = sym c.same_word.ensures ∙ c.if-same_word.false in
    let is-flags = sym c.same_word-2.ensures ∙ c.if-same_word-2.true in
    word_2 _ not-book is-flags

pub returns-then-same_word-3 : goal.returns-then-same_word-3
returns-then-same_word-3 c = let not-book = sym c.same_word.ensures ∙ c.if-same_word.false in
    let not-flags = sym c.same_word-2.ensures ∙ c.if-same_word-2.false in
    let is-exists = sym c.same_word-3.ensures ∙ c.if-same_word-3.true in
    word_3 _ not-book not-flags is-exists

pub returns-then-same_word-4 : goal.returns-then-same_word-4
returns-then-same_word-4 c = let not-book = sym c.same_word.ensures ∙ c.if-same_word.false in
    let not-flags = sym c.same_word-2.ensures ∙ c.if-same_word-2.false in
    let not_exists = sym c.same_word-3.ensures ∙ c.if-same_word-3.false in
    let is-forall = sym c.same_word-4.ensures ∙ c.if-same_word-4.true in
    word_4 _ not-book not-flags not_exists is-forall

pub returns-then-same_word-5 : goal.returns-then-same_word-5
returns-then-same_word-5 c = let not-book = sym c.same_word.ensures ∙ c.if-same_word.false in
    let not-flags = sym c.same_word-2.ensures ∙ c.if-same_word-2.false in
    let not_exists = sym c.same_word-3.ensures ∙ c.if-same_word-3.false in
    let not_forall = sym c.same_word-4.ensures ∙ c.if-same_word-4.false in
    let is_rule_lem = sym c.same_word-5.ensures ∙ c.if-same_word-5.true in
    word_5 _ not-book not-flags not_exists not_forall is_rule_lem

pub returns-then-same_word-6 : goal.returns-then-same_word-6
returns-then-same_word-6 c = let not-book = sym c.same_word.ensures ∙ c.if-same_word.false in
    let not-flags = sym c.same_word-2.ensures ∙ c.if-same_word-2.false in
    let not_exists = sym c.same_word-3.ensures ∙ c.if-same_word-3.false in
    let not_forall = sym c.same_word-4.ensures ∙ c.if-same_word-4.false in
    let not-rule = sym c.same_word-5.ensures ∙ c.if-same_word-5.false in
    let is-end = sym c.same_word-6.ensures ∙ c.if-same_word-6.true in
    word_6 _ not-book not-flags not_exists not_forall not-rule is-end

pub returns : goal.returns
returns c = let not-book = sym c.same_word.ensures ∙ c.if-same_word.false in
    let not-flags = sym c.same_word-2.ensures ∙ c.if-same_word-2.false in
    let not_exists = sym c.same_word-3.ensures ∙ c.if-same_word-3.false in
    let not_forall = sym c.same_word-4.ensures ∙ c.if-same_word-4.false in
    let not-rule = sym c.same_word-5.ensures ∙ c.if-same_word-5.false in
    let not_end = sym c.same_word-6.ensures ∙ c.if-same_word-6.false in
    word_7 _ not-book not-flags not_exists not_forall not-rule not_end

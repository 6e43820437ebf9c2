-- `word_of`: the tests in the order of the definition.
use mathlib.Core.Path.{sym, ◌∙◌}
use Rattle.qdimacs_reader.proofs.Lines.{word_1, word_2, word_3, word_4}
use Rattle.qdimacs_reader.proofs.line.word_of.Goals as goal

pub returns-then-same_word : goal.returns-then-same_word
returns-then-same_word c = let is-header = sym c.same_word.ensures ∙ c.if-same_word.true in
    word_1 _ is-header

pub returns-then-same_word-2 : goal.returns-then-same_word-2
returns-then-same_word-2 c = let not-header = sym c.same_word.ensures ∙ c.if-same_word.false in
    let is-exists = sym c.same_word-2.ensures ∙ c.if-same_word-2.true in
    word_2 _ not-header is-exists

pub returns-then-same_word-3 : goal.returns-then-same_word-3
returns-then-same_word-3 c = let not-header = sym c.same_word.ensures ∙ c.if-same_word.false in
    let not_exists = sym c.same_word-2.ensures ∙ c.if-same_word-2.false in
    let is-forall = sym c.same_word-3.ensures ∙ c.if-same_word-3.true in
    word_3 _ not-header not_exists is-forall

pub returns : goal.returns
returns c = let not-header = sym c.same_word.ensures ∙ c.if-same_word.false in
    let not_exists = sym c.same_word-2.ensures ∙ c.if-same_word-2.false in
    let not_forall = sym c.same_word-3.ensures ∙ c.if-same_word-3.false in
    word_4 _ not-header not_exists not_forall

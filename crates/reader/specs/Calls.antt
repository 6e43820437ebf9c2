-- A call's word, the size of a card's table, and what the answer of a line says of its call.
use Rattle.std.specs.Prelude.{ℕ, ◌≡◌, Bool, true, false, cond, List, [], ◌∷◌, ℤ}
use Rattle.std.specs.Prelude.{Option as Answer, Some, None}
use Rattle.std.proofs.Math.Option.{Option, none, some}
use Rattle.qbf.specs.Formula.{Literal}
use Rattle.qbf.specs.Ceiling.{highest_ceiling}
use Rattle.qbf.specs.Calls.{Call}
use Rattle.qbf.specs.Calls as call
use Rattle.layout.specs.Words.{Bytes, same, number}
use Rattle.layout.specs.Forms.{rule_word, one_word}
use Rattle.layout.specs.Program.{table_bytes}
use Rattle.layout.specs.Session.{query_word, card_word, keep_card_word, forget_word, withdraw_word, closest_word, rule_call, one_call, named, query_call, closest_call, card_call, alone}
use Rattle.reader.specs.Items.{Kept}
use Rattle.reader.specs.declared.call.CallWord.{CallWord}
use Rattle.reader.specs.declared.call.CallLine.{CallLine}
use Rattle.reader.specs.declared.call.CallWord.TheVariants as word
use Rattle.reader.specs.declared.call.CallLine.TheVariants as line

-- ---- words
unfoldable pub call_word_of : Bytes → Answer CallWord
call_word_of w =
    cond (same w rule_word) (Some word.Rule)
    (cond (same w query_word) (Some word.Query)
    (cond (same w card_word) (Some word.Card)
    (cond (same w keep_card_word) (Some word.KeepCard)
    (cond (same w forget_word) (Some word.Forget)
    (cond (same w withdraw_word) (Some word.Withdraw)
    (cond (same w one_word) (Some word.One)
    (cond (same w closest_word) (Some word.Closest)
    None)))))))

abbrev pub call_signs : CallWord → Bool
call_signs word.Rule = true
call_signs word.Query = true
call_signs word.Card = false
call_signs word.KeepCard = false
call_signs word.Forget = false
call_signs word.Withdraw = false
call_signs word.One = true
call_signs word.Closest = true

-- the call that a word and its items make
abbrev pub call_with : CallWord → List Literal → Option Call
call_with word.Rule ls = rule_call ls
call_with word.Query ls = query_call ls
call_with word.Card ls = card_call true ls
call_with word.KeepCard ls = card_call false ls
call_with word.Forget ls = alone call.forget ls
call_with word.Withdraw ls = alone call.withdraw ls
call_with word.One ls = one_call ls
call_with word.Closest ls = closest_call ls

-- ---- cards
-- the size that the words after `card` or `keep-card` give
abbrev pub card_size : List Bytes → Option ℕ
card_size [] = some table_bytes
card_size (w ∷ []) = number w
card_size (w ∷ v ∷ ws) = none

-- ---- calls
-- What the call of a line says under a ceiling. The literals of a rule or an exactly-one form, and those by which a query or a
-- closest reading names flags, stand in the table.
abbrev pub CallUnder : ℕ → Option Call → CallLine → List ℤ → Type 0
CallUnder c o (line.Rule n) out = (ls : List Literal) × (o ≡ some (call.rule ls)) × Kept n out ls
CallUnder c o (line.Query n) out = (ls : List Literal) × (o ≡ some (call.query c (named true ls) (named false ls))) × Kept n out ls
CallUnder c o (line.Card size) out = o ≡ some (call.card c size)
CallUnder c o (line.KeepCard size) out = o ≡ some (call.keep_card c size)
CallUnder c o line.Forget out = o ≡ some call.forget
CallUnder c o line.Withdraw out = o ≡ some call.withdraw
CallUnder c o (line.One n) out = (ls : List Literal) × (o ≡ some (call.one ls)) × Kept n out ls
CallUnder c o (line.Closest n size) out = (ls : List Literal) × (o ≡ some (call.closest c size (named true ls) (named false ls))) × Kept n out ls

-- .. and what an answer says of a line that may have none, under the highest
abbrev pub CallRead : Option Call → Answer CallLine → List ℤ → Type 0
CallRead o None out = o ≡ none
CallRead o (Some l) out = CallUnder highest_ceiling o l out

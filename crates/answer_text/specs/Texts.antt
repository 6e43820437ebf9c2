-- The text of an answer as code gives it.
use Rattle.std.specs.Prelude.{ℕ, zero, suc, Result, Ok, Err}
use Rattle.layout.specs.Words.{Bytes}
use Rattle.layout.specs.Output.{refusal_text, swap_word, keep_word, unsettled_word, query_text}
use Rattle.layout.specs.Session.{search_refusal_text}
use Rattle.refusal.specs.declared.Refusal.{Refusal}
use Rattle.refusal.specs.Refusal.{number_of}
use Rattle.replies.specs.declared.Ruling.{Ruling}
use Rattle.replies.specs.declared.Ruling.TheVariants.{Swap, Keep, Unsettled}

-- the text of a refusal on a line, or that of the call where there is none
abbrev pub change_text : Bytes → ℕ → ℕ → Bytes
change_text w zero line = w
change_text w (suc n) line = refusal_text (suc n) line

abbrev pub ruling_text : Result Ruling Refusal → ℕ → ℕ → Bytes
ruling_text (Ok Swap) visits line = query_text swap_word visits
ruling_text (Ok Keep) visits line = query_text keep_word visits
ruling_text (Ok Unsettled) visits line = query_text unsettled_word visits
ruling_text (Err r) visits line = search_refusal_text (number_of r) line visits

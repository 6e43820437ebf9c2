-- The card answered last, as the code holds it: numbers, and a table whose first bytes are the card's.
use Rattle.std.specs.Prelude.{ℕ, ◌≡◌, cond, [], take, eqb, Result}
use Rattle.std.proofs.Math.Option.{Option, none, some}
use Rattle.layout.specs.Words.{Bytes}
use Rattle.sessions.specs.Session.{Card}
use Rattle.serving.specs.Serves.{number}
use Rattle.replies.specs.Replies.{card_said}
use Rattle.refusal.specs.declared.Refusal.{Refusal}
use Rattle.answer_text.specs.declared.shown.Shown.{Shown}

-- the card that the numbers and the table tell, or none
abbrev pub card_in : Shown → Bytes → Option Card
card_in s t = cond (eqb s.refusal 0) (some (record { table = take s.size t; lines = s.lines; free = s.free })) none

abbrev pub no_card : Shown
no_card = record { refusal = 36; size = 0; lines = 0; free = 0 }

-- what the answer of a card in a table of m bytes tells of it, where f variables are free
pub record CardToldBy (f : ℕ) (p : Result ℕ Refusal) (m : ℕ) (r : Shown) : Type 0 where
  pub refusal : r.refusal ≡ number (card_said p 0 []).refusal
  pub size : r.size ≡ m
  pub lines : r.lines ≡ (card_said p 0 []).lines
  pub free : r.free ≡ f

-- Lines served one after another answer as the session's definition does.
use Prim.Native.Nat.{ℕ, suc}
use mathlib.Core.Path.{◌≡◌, refl, sym, ap, ◌∙◌}
use mathlib.Core.List.{List, [], ◌∷◌, ◌++◌}
use mathlib.Core.Option.{Option, none, some}
use lib.IntN.{ℤ}
use Rattle.qbf.specs.Calls.{State as Read}
use Rattle.layout.specs.Words.{Bytes, joined}
use Rattle.sessions.specs.Session.{Request, call, write, page, request_of, Card, Turn, turn_of, serve_lines}
use Rattle.state_parts.specs.Parts.{read_at}
use Rattle.card_answers.specs.Lines.{line_answer}
use Rattle.text_answers.specs.Text.{write_answer}
use Rattle.line_turns.specs.Line.{line_next, line_card}
use Rattle.session_lines.specs.Line.{RequestServedAt, ServedLinesAt}

-- on a state that reads, what is owed is the definition's turn
module _ (cells : List ℕ) (literals : List ℤ) (y : Read) (e : read_at cells literals ≡ some y) (z : Option Card) (n : ℕ) (t : Bytes) (cells' : List ℕ) (literals' : List ℤ) (z' : Option Card) where
  pub text_is : (q : Option Request) → RequestServedAt cells literals z q n t cells' literals' z' → t ≡ (turn_of y z n q).text
  text_is none h = h.0.text
  text_is (some (call c)) h = h.0.text ∙ ap (λ (o : Option Read). line_answer o n (some c)) e
  text_is (some (write size)) h = h.0 ∙ ap (λ (o : Option Read). write_answer o n size) e
  text_is (some (page k)) h = h.0

  pub next_is : (q : Option Request) → RequestServedAt cells literals z q n t cells' literals' z' → read_at cells' literals' ≡ some (turn_of y z n q).state
  next_is none h = h.0.next ∙ e
  next_is (some (call c)) h = h.0.next ∙ ap (λ (o : Option Read). line_next o (some c)) e
  next_is (some (write size)) h = (λ i. read_at (h.1 i) (h.2 i)) ∙ e
  next_is (some (page k)) h = (λ i. read_at (h.1 i) (h.2 i)) ∙ e

  pub card_is : (q : Option Request) → RequestServedAt cells literals z q n t cells' literals' z' → z' ≡ (turn_of y z n q).shown
  card_is none h = h.1
  card_is (some (call c)) h = h.1 ∙ ap (λ (o : Option Read). line_card o (some c) z) e
  card_is (some (write size)) h = h.3
  card_is (some (page k)) h = h.3

-- the last piece is empty: one line more is one turn more
abbrev after : ℕ → Turn → List Bytes → Bytes
after n u ls = u.text ++ serve_lines (suc n) u.state u.shown (ls ++ ([] ∷ []))

one_more : (n : ℕ) (y : Read) (z : Option Card) (l : Bytes) (ls : List Bytes) → serve_lines n y z (l ∷ (ls ++ ([] ∷ []))) ≡ after n (turn_of y z n (request_of l)) ls
unfolding serve_lines
one_more n y z [] [] = refl
one_more n y z [] (m ∷ ls) = refl
one_more n y z (b ∷ l) [] = refl
one_more n y z (b ∷ l) (m ∷ ls) = refl

no_line : (n : ℕ) (y : Read) (z : Option Card) → [] ≡ serve_lines n y z ([] ∷ [])
unfolding serve_lines
no_line n y z = refl

-- The lines from number n on, each served on the state and the card that the last one left: all that is printed is what the session prints. Each
-- line was ended by byte 10, so that the last piece of the input is empty.
pub served_session : (ls ts : List Bytes) (n : ℕ) (cells : List ℕ) (literals : List ℤ) (y : Read) (z : Option Card) → read_at cells literals ≡ some y → ServedLinesAt cells literals z n ls ts → joined ts ≡ serve_lines n y z (ls ++ ([] ∷ []))
served_session [] [] n cells literals y z e s = no_line n y z
served_session [] (t ∷ ts) n cells literals y z e s = absurd s
served_session (l ∷ ls) [] n cells literals y z e s = absurd s
served_session (l ∷ ls) (t ∷ ts) n cells literals y z e (cells', literals', z', h, s) =
    ap (λ (u : Bytes). u ++ joined ts) (text_is cells literals y e z n t cells' literals' z' (request_of l) h)
    ∙ ap (λ (u : Bytes). (turn_of y z n (request_of l)).text ++ u) (served_session ls ts (suc n) cells' literals' (turn_of y z n (request_of l)).state z' (next_is cells literals y e z n t cells' literals' z' (request_of l) h) s)
    ∙ ap (λ (w : Option Card). (turn_of y z n (request_of l)).text ++ serve_lines (suc n) (turn_of y z n (request_of l)).state w (ls ++ ([] ∷ []))) (card_is cells literals y e z n t cells' literals' z' (request_of l) h)
    ∙ sym (one_more n y z l ls)

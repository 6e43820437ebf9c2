-- The answer of a line: the shares, a line that is neither, or a place and behind it the answer there.
use Prim.Native.Nat.{ℕ, suc, ◌+◌}
use native.Mathlib.Omega.{arith}
use mathlib.Core.Path.{◌≡◌, refl, sym, ap, subst, ◌∙◌}
use mathlib.Core.Bool.{Bool, true, false, cond}
use mathlib.Core.List.{[], ◌∷◌, ◌++◌}
use mathlib.Core.Option.{Option, none, some}
use lib.ListN.{length, take, length-append}
use lib.Seq.{take-append-le}
use Rattle.layout.specs.Words.{Bytes, same}
use Rattle.layout.specs.Forms.{then}
use Rattle.layout.specs.Output.{refusal_text}
use Rattle.sessions.specs.Session.{Request, request_of}
use Rattle.days.specs.Day.{book_at}
use Rattle.day_text.specs.Lines.{At, Asked, at, shares, shares_line, at_of, asked_at, asked_of}
use Rattle.day_text.specs.Output.{at_text, shares_text}
use Rattle.day_text.specs.Program.{Served, answer_asked, answer_placed}
use Rattle.writer.specs.Wrote.{Wrote}
use Rattle.answer_text.proofs.Room.{within}
use Rattle.day_lines.specs.Served.{Told, LineServed, PlaceServed}

-- ---- what a line asks for
module _ (l : Bytes) where
  pub asks_shares : same l shares_line ≡ true → asked_of l ≡ some shares
  unfolding asked_of
  asks_shares e = ap (λ (o : Bool). cond o (some shares) (then (at_of l) asked_at)) e

  module _ (other : same l shares_line ≡ false) where
    asks_at : asked_of l ≡ then (at_of l) asked_at
    unfolding asked_of
    asks_at = ap (λ (o : Bool). cond o (some shares) (then (at_of l) asked_at)) other

    pub no_at : at_of l ≡ none → asked_of l ≡ none
    no_at e = asks_at ∙ ap (λ (a : Option At). then a asked_at) e

    module _ (a : At) (e : at_of l ≡ some a) where
      here : asked_of l ≡ asked_at a
      here = asks_at ∙ ap (λ (b : Option At). then b asked_at) e

      pub no_request : request_of a.call ≡ none → asked_of l ≡ none
      no_request q = here ∙ ap (λ (r : Option Request). then r (λ s. some (at a.place s))) q

      pub asks_place : (q : Request) → request_of a.call ≡ some q → asked_of l ≡ some (at a.place q)
      asks_place q r = here ∙ ap (λ (s : Option Request). then s (λ t. some (at a.place t))) r

-- ---- what is answered
module _ (n : ℕ) (z : Served) (l : Bytes) {d : Bytes} {r : ℕ} where
  told_as : (o : Option Asked) → asked_of l ≡ o → (z' : Served) → Told (answer_asked n z o) z' r d → LineServed n z (some l) z' r d
  told_as o e z' t = subst (λ (a : Option Asked). Told (answer_asked n z a) z' r d) (sym e) t

  pub line_refused : {d₀ : Bytes} → asked_of l ≡ none → (j : ℕ) → j ≡ 1 → Wrote d₀ 0 (refusal_text j n) d r → LineServed n z (some l) z r d
  line_refused e j g w = told_as none e z (record { within = within w; text = w.is ∙ ap (λ (i : ℕ). refusal_text i n) g; left = refl })

  pub line_shares : {d₀ : Bytes} → asked_of l ≡ some shares → Wrote d₀ 0 (shares_text z.day.total z.day.used) d r → LineServed n z (some l) z r d
  line_shares e w = told_as (some shares) e z (record { within = within w; text = w.is; left = refl })

-- the first bytes of two pieces
take_beyond : (a b : Bytes) (m : ℕ) → take (length a + m) (a ++ b) ≡ a ++ take m b
take_beyond [] b m = let e : length {A = ℕ} [] + m ≡ m = omega arith in ap (λ (j : ℕ). take j b) e
take_beyond (x ∷ a) b m = let e : length (x ∷ a) + m ≡ suc (length a + m) = omega arith in ap (λ (j : ℕ). take j (x ∷ (a ++ b))) e ∙ ap (λ (s : Bytes). x ∷ s) (take_beyond a b m)

-- behind the place, which has the first r bytes
module _ (n : ℕ) (z : Served) (l : Bytes) (a : At) (q : Request) (asked : request_of a.call ≡ some q) (asks : asked_of l ≡ some (at a.place q)) where
  abbrev k : ℕ
  k = a.place

  -- the answer there stands in the first m bytes of p
  pub line_placed : {d₀ d : Bytes} {r : ℕ} (w : Wrote d₀ 0 (at_text k) d r) (z' : Served) (m : ℕ) (p e : Bytes) → PlaceServed n z k (request_of a.call) z' m p → LineServed n z (some l) z' (r + m) (take r d ++ (p ++ e))
  line_placed {d₀} {d} {r} w z' m p e u =
      subst (λ (o : Option Asked). Told (answer_asked n z o) z' (r + m) (take r d ++ (p ++ e))) (sym asks)
      (record {
        within = omega (arith, long, t.within, length-append (take r d) (p ++ e), length-append p e);
        text = ap (λ (j : ℕ). take (j + m) (take r d ++ (p ++ e))) (sym long) ∙ take_beyond (take r d) (p ++ e) m ∙ ap (λ (s : Bytes). take r d ++ s) (take-append-le m p e t.within) ∙ ap (λ (s : Bytes). s ++ take m p) w.is ∙ ap (λ (s : Bytes). at_text k ++ s) t.text;
        left = t.left;
      })
    where
      t : Told (answer_placed (book_at z.day k) z n k q) z' m p
      t = subst (λ (o : Option Request). PlaceServed n z k o z' m p) asked u

      long : length (take r d) ≡ r
      long = let g : length (take r d) ≡ length (at_text k) = ap length w.is in omega (arith, g, w.next)

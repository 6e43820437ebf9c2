-- A text of a day that is held whole in a buffer, fed to the day's steps: where it ends, it is judged and the place lines go on behind it; where the input ends within it, it
-- is judged as it is.
use Prim.Native.Nat.{ℕ, suc, ◌+◌, ◌<◌}
use mathlib.Core.Path.{◌≡◌, sym, ap, subst, ◌∙◌}
use mathlib.Core.Bool.{Bool, true, false, cond}
use mathlib.Core.List.{List, [], ◌∷◌, ◌++◌, append_assoc}
use mathlib.Core.Option.{Option}
use native.Mathlib.Omega.{arith}
use native.Mathlib.Decide.{dec_lt}
use borrow.Author.Tests.{le-ltb, lt-ltb}
use lib.ListN.{length}
use Rattle.layout.specs.Words.{Bytes, newline, split, same}
use Rattle.layout.specs.Opening.{text_bytes}
use Rattle.layout.specs.Session.{end_line, Parted, onto, parted}
use Rattle.feeding.specs.Lines.{Step, after, fed, Part, begun, overlong, Answered, at_line}
use Rattle.feeding.proofs.Lines.{grown_by, grown_long, grown_short, whole_line, split_some, line_steps, fed_lines}
use Rattle.day_text.specs.Lines.{Place}
use Rattle.day_text.specs.Program.{Loading, kept, joined_parts, Phase, text, judged, on_text_line, serve_day}
use Rattle.day_text_laws.proofs.Texts.{joined_kept, line_kept, end_told}
use Rattle.day_feeding.specs.Steps.{Held, on_byte, at_end}
use Rattle.text_skip.specs.Fed.{inside}

-- a line that was read from its first byte on is kept as a text is
grown_kept : (l : Bytes) → grown_by (begun []) l ≡ kept l
grown_kept l = by (dec_lt text_bytes (length l))
  where
    by : Dec (text_bytes < length l) → grown_by (begun []) l ≡ kept l
    by (yes h) = grown_long [] l (omega arith) (omega (arith, h)) ∙ sym (ap (λ (t : Bool). cond t overlong (begun l)) (lt-ltb text_bytes (length l) h))
    by (no h) = grown_short [] l (omega (arith, h)) ∙ sym (ap (λ (t : Bool). cond t overlong (begun l)) (le-ltb text_bytes (length l) (omega (arith, h))))

module _ (z : Loading) (p : Option Place) where
  -- before a line of the text, whose bytes so far are t
  abbrev pub at_text_line : ℕ → Bytes → Held
  at_text_line n t = at_line n (text z p (kept t))

  -- the lines of the text and those behind it: the text is t and the book of these lines
  pub record TextFed (n : ℕ) (t : Bytes) (q : Parted) (r : Step Held) : Type 0 where
    pub ended : (l : Bytes) (ms : List Bytes) → q.rest ≡ l ∷ ms
        → r ≡ after (judged z p (kept (t ++ q.book))).text (line_steps serve_day (at_line (n + q.count) (judged z p (kept (t ++ q.book))).left) q.rest)
    pub begun : q.rest ≡ [] → (l : Part) × (u : Part) × (r ≡ record { text = []; held = inside z p (n + q.count) l u }) × (joined_parts u l ≡ kept (t ++ q.book))

  text_steps : (l : Bytes) (ls : List Bytes) (n : ℕ) (t : Bytes) → TextFed n t (parted (l ∷ ls)) (line_steps serve_day (at_text_line n t) (l ∷ ls))
  unfolding parted
  text_steps l [] n t =
      record {
        ended = λ m ms e. absurd (let y : ◌≡◌ {A = ℕ} 0 1 = cc in omega (arith, y));
        begun = λ e. let zero : n ≡ n + 0 = omega arith in (grown_by (begun []) l, kept t, ap (λ (k : ℕ). record { text = []; held = inside z p k (grown_by (begun []) l) (kept t) }) zero, ap (joined_parts (kept t)) (grown_kept l) ∙ joined_kept t l);
      }
  text_steps l (m ∷ ls) n t = rw (whole_line l, end_told l, line_kept t l) (by (same l end_line) (text_steps m ls (suc n) (t ++ (l ++ (newline ∷ [])))))
    where
      line : Bytes
      line = t ++ (l ++ (newline ∷ []))

      q : Parted
      q = parted (m ∷ ls)

      here : Bool → Answered Phase
      here u = on_text_line z p (kept (t ++ (l ++ (newline ∷ [])))) u

      same_text : t ++ (l ++ (newline ∷ [])) ++ q.book ≡ t ++ (l ++ (newline ∷ q.book))
      same_text = append_assoc t (l ++ (newline ∷ [])) q.book ∙ ap (λ (s : Bytes). t ++ s) (append_assoc l (newline ∷ []) q.book)

      by : (u : Bool) → TextFed (suc n) (t ++ (l ++ (newline ∷ []))) q (line_steps serve_day (at_text_line (suc n) (t ++ (l ++ (newline ∷ [])))) (m ∷ ls))
          → TextFed n t (cond u (record { book = l ++ (newline ∷ []); count = 1; rest = m ∷ ls }) (onto l q)) (after (here u).text (line_steps serve_day (at_line (suc n) (here u).left) (m ∷ ls)))
      by true go =
          record {
            ended = λ k ms e.
                let one : suc n ≡ n + 1 = omega arith in
                ap (λ (i : ℕ). after (judged z p (kept (t ++ (l ++ (newline ∷ []))))).text (line_steps serve_day (at_line i (judged z p (kept (t ++ (l ++ (newline ∷ []))))).left) (m ∷ ls))) one;
            begun = λ e. absurd (let y : ◌≡◌ {A = ℕ} 0 1 = cc in omega (arith, y));
          }
      by false go =
          record {
            ended = λ k ms e.
                let one : suc n + q.count ≡ n + suc q.count = omega arith in
                go.ended k ms e ∙ (λ i. after (judged z p (kept (same_text i))).text (line_steps serve_day (at_line (one i) (judged z p (kept (same_text i))).left) q.rest));
            begun = λ e.
                let one : suc n + q.count ≡ n + suc q.count = omega arith in
                let w = go.begun e in
                (w.0, w.1, w.2 ∙ ap (λ (k : ℕ). record { text = []; held = inside z p k w.0 w.1 }) one, w.3 ∙ ap kept same_text);
          }

  -- from the first byte of a line on, which is line n; the bytes of the text before it are t
  pub text_fed_from : (n : ℕ) (t s : Bytes) → TextFed n t (parted (split newline s)) (fed on_byte (at_text_line n t) s)
  text_fed_from n t s = by (split newline s) (split_some newline s) (fed_lines serve_day (at_text_line n t) s)
    where
      by : (ls : List Bytes) → (w : Bytes) × (ws : List Bytes) × (ls ≡ w ∷ ws) → fed on_byte (at_text_line n t) s ≡ line_steps serve_day (at_text_line n t) ls → TextFed n t (parted ls) (fed on_byte (at_text_line n t) s)
      by [] r e = absurd (let y : ◌≡◌ {A = ℕ} 0 1 = cc in omega (arith, y))
      by (w ∷ ws) r e = subst (TextFed n t (parted (w ∷ ws))) (sym e) (text_steps w ws n t)

  -- .. of its first line
  pub text_fed : (n : ℕ) (s : Bytes) → TextFed n [] (parted (split newline s)) (fed on_byte (at_text_line n []) s)
  text_fed n s = text_fed_from n [] s

  -- the input ends within it: it is judged as it is
  pub text_ended : (n : ℕ) (s : Bytes) → (parted (split newline s)).rest ≡ [] → (fed on_byte (at_text_line n []) s).text ++ at_end (fed on_byte (at_text_line n []) s).held ≡ (judged z p (kept (parted (split newline s)).book)).text
  text_ended n s e =
      let w = (text_fed n s).begun e in
      ap (λ (r : Step Held). r.text ++ at_end r.held) w.2 ∙ ap (λ (u : Part). (judged z p u).text) w.3

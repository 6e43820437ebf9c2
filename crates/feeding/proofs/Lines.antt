-- An input fed byte by byte: how it is cut into pieces changes nothing, its lines can be taken whole, and what is printed in all is the text of its lines.
use Prim.Native.Nat.{ℕ, suc, ◌+◌, ◌≤◌, ◌<◌}
use mathlib.Core.Path.{◌≡◌, refl, sym, ap, ◌∙◌}
use mathlib.Core.Bool.{Bool, true, false, cond}
use mathlib.Core.List.{List, [], ◌∷◌, ◌++◌, append_assoc, append-nil}
use mathlib.Core.Option.{Option, none, some}
use native.Mathlib.Omega.{arith}
use native.Mathlib.Decide.{dec_lt}
use borrow.Author.Tests.{le-ltb, lt-ltb}
use lib.Dec.{eqb, ltb}
use lib.ListN.{length, length-append}
use Rattle.layout.specs.Words.{Bytes, newline, on_first, split, joined}
use Rattle.layout.specs.Opening.{text_bytes}
use Rattle.feeding.specs.Lines.{Step, after, fed, Part, begun, overlong, grown, line_of, Answered, Service, Serving, at_line, answered, longer, on_line_byte, unended, last_line, as_line, lines_text}

-- ---- pieces
module _ {H : Type 0} (on : H → ℕ → Step H) where
  pub fed_append : (h : H) (s t : Bytes) → fed on h (s ++ t) ≡ after (fed on h s).text (fed on (fed on h s).held t)
  unfolding fed
  fed_append h [] t = refl
  fed_append h (b ∷ s) t =
      ap (after (on h b).text) (fed_append (on h b).held s t)
      ∙ (λ i. record { text = sym (append_assoc (on h b).text (fed on (on h b).held s).text (fed on (fed on (on h b).held s).held t).text) i; held = (fed on (fed on (on h b).held s).held t).held })

  -- what is printed and held after pieces one after another
  abbrev pub fed_pieces : H → List Bytes → Step H
  fed_pieces h [] = record { text = []; held = h }
  fed_pieces h (p ∷ ps) = after (fed on h p).text (fed_pieces (fed on h p).held ps)

  -- Every way of cutting an input into pieces prints the same, and leaves the same.
  pub every_cut : (h : H) (ps : List Bytes) → fed_pieces h ps ≡ fed on h (joined ps)
  unfolding fed
  every_cut h [] = refl
  every_cut h (p ∷ ps) = ap (after (fed on h p).text) (every_cut (fed on h p).held ps) ∙ sym (fed_append h p (joined ps))

-- ---- a line that is being read
abbrev pub grown_by : Part → Bytes → Part
grown_by p [] = p
grown_by p (b ∷ l) = grown_by (grown p b) l

pub overlong_stays : (l : Bytes) → grown_by overlong l ≡ overlong
unfolding grown
overlong_stays [] = refl
overlong_stays (b ∷ l) = overlong_stays l

pub grown_short : (l m : Bytes) → length l + length m ≤ text_bytes → grown_by (begun l) m ≡ begun (l ++ m)
unfolding grown
grown_short l [] h = ap begun (sym (append-nil l))
grown_short l (b ∷ m) h =
    ap (λ (t : Bool). grown_by (cond t (begun (l ++ (b ∷ []))) overlong) m) (lt-ltb (length l) text_bytes (omega (arith, h)))
    ∙ grown_short (l ++ (b ∷ [])) m (omega (arith, h, length-append l (b ∷ [])))
    ∙ ap begun (append_assoc l (b ∷ []) m)

pub grown_long : (l m : Bytes) → length l ≤ text_bytes → text_bytes < length l + length m → grown_by (begun l) m ≡ overlong
unfolding grown
grown_long l [] k h = absurd (omega (arith, k, h))
grown_long l (b ∷ m) k h = by (λ q. grown_long (l ++ (b ∷ [])) m (omega (arith, q, length-append l (b ∷ []))) (omega (arith, h, length-append l (b ∷ [])))) (dec_lt (length l) text_bytes)
  where
    by : (length l < text_bytes → grown_by (begun (l ++ (b ∷ []))) m ≡ overlong) → Dec (length l < text_bytes) → grown_by (cond (ltb (length l) text_bytes) (begun (l ++ (b ∷ []))) overlong) m ≡ overlong
    by go (yes q) = ap (λ (t : Bool). grown_by (cond t (begun (l ++ (b ∷ []))) overlong) m) (lt-ltb (length l) text_bytes q) ∙ go q
    by go (no q) = ap (λ (t : Bool). grown_by (cond t (begun (l ++ (b ∷ []))) overlong) m) (le-ltb (length l) text_bytes (omega (arith, q))) ∙ overlong_stays m

-- a line that was read from its first byte on
pub whole_line : (l : Bytes) → line_of (grown_by (begun []) l) ≡ as_line l
whole_line l = by (dec_lt text_bytes (length l))
  where
    by : Dec (text_bytes < length l) → line_of (grown_by (begun []) l) ≡ as_line l
    by (yes h) = ap line_of (grown_long [] l (omega arith) (omega (arith, h))) ∙ sym (ap (λ (t : Bool). cond t none (some l)) (lt-ltb text_bytes (length l) h))
    by (no h) = ap line_of (grown_short [] l (omega (arith, h))) ∙ sym (ap (λ (t : Bool). cond t none (some l)) (le-ltb text_bytes (length l) (omega (arith, h))))

-- ---- lines taken whole
pub split_some : (c : ℕ) (s : Bytes) → (w : Bytes) × (ws : List Bytes) × (split c s ≡ w ∷ ws)
unfolding split
split_some c [] = ([], [], refl)
split_some c (b ∷ s) = by (eqb b c) (split_some c s)
  where
    by : (t : Bool) → (w : Bytes) × (ws : List Bytes) × (split c s ≡ w ∷ ws) → (w : Bytes) × (ws : List Bytes) × (cond t ([] ∷ split c s) (on_first b (split c s)) ≡ w ∷ ws)
    by true r = ([], split c s, refl)
    by false r = (b ∷ r.0, r.1, ap (on_first b) r.2)

module _ {X : Type 0} (serve : Service X) where
  abbrev pub held : Serving X → Bytes → Serving X
  held h l = record { number = h.number; part = grown_by h.part l; left = h.left }

  abbrev pub served_as : Serving X → Bytes → Answered X
  served_as h l = serve h.number h.left (line_of (grown_by h.part l))

  -- the first of the lines goes on with what is held
  abbrev pub line_steps : Serving X → List Bytes → Step (Serving X)
  line_steps h [] = record { text = []; held = h }
  line_steps h (l ∷ []) = record { text = []; held = held h l }
  line_steps h (l ∷ m ∷ ls) = after (served_as h l).text (line_steps (at_line (suc h.number) (served_as h l).left) (m ∷ ls))

  pub line_more : (h : Serving X) (l : Bytes) (ws : List Bytes) → (w : Bytes) × (vs : List Bytes) × (ws ≡ w ∷ vs)
      → line_steps h (l ∷ ws) ≡ after (served_as h l).text (line_steps (at_line (suc h.number) (served_as h l).left) ws)
  line_more h l [] r = absurd (let z : ◌≡◌ {A = ℕ} 0 1 = cc in omega (arith, z))
  line_more h l (w ∷ ws) r = refl

  line_longer : (h : Serving X) (b : ℕ) (ws : List Bytes) → (w : Bytes) × (vs : List Bytes) × (ws ≡ w ∷ vs) → line_steps (longer h b) ws ≡ line_steps h (on_first b ws)
  line_longer h b [] r = absurd (let z : ◌≡◌ {A = ℕ} 0 1 = cc in omega (arith, z))
  line_longer h b (w ∷ []) r = refl
  line_longer h b (w ∷ v ∷ ws) r = refl

  pub fed_lines : (h : Serving X) (s : Bytes) → fed (on_line_byte serve) h s ≡ line_steps h (split newline s)
  unfolding fed split
  fed_lines h [] = refl
  fed_lines h (b ∷ s) = by (eqb b newline) (λ g. fed_lines g s)
    where
      step : Bool → Step (Serving X)
      step t = cond t (answered h.number (serve h.number h.left (line_of h.part))) (record { text = []; held = longer h b })

      by : (t : Bool) → ((g : Serving X) → fed (on_line_byte serve) g s ≡ line_steps g (split newline s))
          → after (step t).text (fed (on_line_byte serve) (step t).held s) ≡ line_steps h (cond t ([] ∷ split newline s) (on_first b (split newline s)))
      by true go = ap (after (served_as h []).text) (go (at_line (suc h.number) (served_as h []).left)) ∙ sym (line_more h [] (split newline s) (split_some newline s))
      by false go = go (longer h b) ∙ line_longer h b (split newline s) (split_some newline s)

  -- ---- the whole input
  pub last_one : (n : ℕ) (x : X) (b : ℕ) (l : Bytes) → unended serve n x (grown_by (begun []) (b ∷ l)) ≡ (serve n x none).text
  last_one n x b l = by (dec_lt text_bytes (length (b ∷ l)))
    where
      by : Dec (text_bytes < length (b ∷ l)) → unended serve n x (grown_by (begun []) (b ∷ l)) ≡ (serve n x none).text
      by (yes h) = ap (unended serve n x) (grown_long [] (b ∷ l) (omega arith) (omega (arith, h)))
      by (no h) = ap (unended serve n x) (grown_short [] (b ∷ l) (omega (arith, h)))

  pub lines_printed : (ls : List Bytes) (n : ℕ) (x : X) → (line_steps (at_line n x) ls).text ++ last_line serve (line_steps (at_line n x) ls).held ≡ lines_text serve n x ls
  unfolding lines_text
  lines_printed [] n x = refl
  lines_printed ([] ∷ []) n x = refl
  lines_printed ((b ∷ l) ∷ []) n x = last_one n x b l
  lines_printed (l ∷ m ∷ ls) n x =
      append_assoc (served_as (at_line n x) l).text (line_steps next (m ∷ ls)).text (last_line serve (line_steps next (m ∷ ls)).held)
      ∙ ap (λ (t : Bytes). (served_as (at_line n x) l).text ++ t) (lines_printed (m ∷ ls) (suc n) (served_as (at_line n x) l).left)
      ∙ ap (λ (o : Option Bytes). (serve n x o).text ++ lines_text serve (suc n) (serve n x o).left (m ∷ ls)) (whole_line l)
    where
      next : Serving X
      next = at_line (suc n) (served_as (at_line n x) l).left

-- A text that is skipped by `skip` is skipped as the day defines it.
use Prim.Native.Nat.{ℕ, suc, ◌+◌, ◌<◌}
use mathlib.Core.Path.{◌≡◌, refl, sym, ap, subst, ◌∙◌}
use mathlib.Core.Bool.{Bool, true, false, cond}
use mathlib.Core.List.{[], ◌∷◌, ◌++◌, append-nil}
use mathlib.Core.Option.{Option, none, some}
use native.Mathlib.Omega.{arith}
use borrow.Author.Tests.{ltb-true, lt-ltb}
use lib.Dec.{eqb, ltb}
use lib.ListN.{length, length-append}
use Rattle.layout.specs.Words.{Bytes, newline}
use Rattle.layout.specs.Opening.{text_bytes}
use Rattle.layout.specs.Session.{end_line}
use Rattle.feeding.specs.Lines.{Step, Part, begun, overlong, line_of, grown, at_line, after, fed, Answered, answered}
use Rattle.day_text.specs.Lines.{Place}
use Rattle.day_text.specs.Program.{Loading, Phase, kept, joined_parts, judged, with_line, ends_text, on_text_line}
use Rattle.day_feeding.specs.Steps.{Held, on_byte}
use Rattle.reader.specs.Books.{count_of_lines}
use Rattle.text_skip.specs.Skip.{seen_from, seen_of, next_seen, skip_from}
use Rattle.text_skip.specs.Fed.{Skips, inside, SkipFed}
use Rattle.text_skip.specs.declared.Skipped.{Skipped}
use Rattle.text_skip.specs.declared.Skipped.TheVariants as skipped
use Rattle.text_skip.proofs.Seen.{line_seen, part_seen}

-- ---- too long already
true_false : true ≡ false → ⊥
true_false e = subst truth e tt
  where
    truth : Bool → Type 0
    truth true = Unit {0}
    truth false = ⊥

kept_long : (s : Bytes) → text_bytes < length s → kept s ≡ overlong
kept_long s h = ap (λ (t : Bool). cond t overlong (begun s)) (lt-ltb text_bytes (length s) h)

long_kept : (s : Bytes) → kept s ≡ overlong → text_bytes < length s
long_kept s e = by (ltb text_bytes (length s)) refl e
  where
    is_long : Part → Bool
    is_long (begun l) = false
    is_long overlong = true

    by : (t : Bool) → ltb text_bytes (length s) ≡ t → cond t overlong (begun s) ≡ overlong → text_bytes < length s
    by true u e = ltb-true text_bytes (length s) u
    by false u e = absurd (true_false (sym (ap is_long e)))

-- what is kept of such a text changes nothing
line_long : (p t : Part) → joined_parts t p ≡ overlong → with_line t (line_of p) ≡ overlong
line_long (begun l) (begun s) e =
    let k = long_kept (s ++ l) e in
    kept_long (s ++ (l ++ (newline ∷ []))) (omega (arith, k, length-append s l, length-append s (l ++ (newline ∷ [])), length-append l (newline ∷ [])))
line_long overlong (begun s) e = refl
line_long (begun l) overlong e = refl
line_long overlong overlong e = refl

line_skips : (o : Option Place) (p t : Part) → Skips o p t → Skips o (begun []) (with_line t (line_of p))
line_skips none p t h = tt
line_skips (some k) p t h = ap (λ (u : Part). joined_parts u (begun [])) (line_long p t h)

byte_skips : (o : Option Place) (p t : Part) (b : ℕ) → Skips o p t → Skips o (grown p b) t
unfolding grown
byte_skips none p t b h = tt
byte_skips (some k) p overlong b h = refl
byte_skips (some k) overlong (begun s) b h = refl
byte_skips (some k) (begun l) (begun s) b h = by (ltb (length l) text_bytes)
  where
    by : (t : Bool) → joined_parts (begun s) (cond t (begun (l ++ (b ∷ []))) overlong) ≡ overlong
    by true = let k = long_kept (s ++ l) h in kept_long (s ++ (l ++ (b ∷ []))) (omega (arith, k, length-append s l, length-append s (l ++ (b ∷ [])), length-append l (b ∷ [])))
    by false = refl

same_judged : (z : Loading) (o : Option Place) (p t : Part) → Skips o p t → judged z o (with_line t (line_of p)) ≡ judged z o overlong
same_judged z none p t h = refl
same_judged z (some k) p t h = ap (judged z (some k)) (line_long p t h)

-- a byte that prints nothing, and what follows it
module _ (z : Loading) (o : Option Place) (h g : Held) (b : ℕ) (s : Bytes) (i : ℕ) (e : on_byte h b ≡ record { text = []; held = g }) (count : g.number ≡ h.number + cond (eqb b newline) 1 0) where
  first_byte : (a : Bytes) → fed on_byte h (b ∷ a) ≡ after [] (fed on_byte g a)
  unfolding fed
  first_byte a = ap (λ (r : Step Held). after r.text (fed on_byte r.held a)) e

  counted : (a : Bytes) → g.number + count_of_lines a ≡ h.number + count_of_lines (b ∷ a)
  unfolding count_of_lines
  counted a = omega (arith, count)

  more : (r : Skipped) → SkipFed z o g (i + 1) s r → SkipFed z o h i (b ∷ s) r
  more (skipped.Ended m) (a, c, is, size, r) =
      (b ∷ a, c, ap (λ (t : Bytes). b ∷ t) is, omega (arith, size), first_byte a ∙ ap (after []) r ∙ ap (λ (n : ℕ). record { text = (judged z o overlong).text; held = at_line n (judged z o overlong).left }) (counted a))
  more (skipped.Inside k) (p, t, r, seen, skips) = (p, t, first_byte s ∙ ap (after []) r ∙ ap (λ (n : ℕ). record { text = []; held = inside z o n p t }) (counted s), seen, skips)

-- ---- a byte of a text that is skipped
module _ (z : Loading) (o : Option Place) (n : ℕ) (p t : Part) (b : ℕ) where
  abbrev line : Part
  line = with_line t (line_of p)

  abbrev step : Bool → Bool → Step Held
  step x y = cond {A = Step Held} x (answered n (on_text_line z o line y)) (record { text = []; held = inside z o n (grown p b) t })

  stepped : (x y : Bool) → eqb b newline ≡ x → eqb (seen_of p) (length end_line) ≡ y → on_byte (inside z o n p t) b ≡ step x y
  stepped x y e u = ap (λ (v : Bool). step v (ends_text (line_of p))) e ∙ ap (step x) (sym (line_seen p) ∙ u)

  one_line : eqb b newline ≡ true → suc n ≡ n + cond (eqb b newline) 1 0
  one_line e = let c : ◌≡◌ {A = ℕ} (cond (eqb b newline) 1 0) 1 = ap (λ (x : Bool). cond x 1 0) e in omega (arith, c)

  no_line : eqb b newline ≡ false → n ≡ n + cond (eqb b newline) 1 0
  no_line e = let c : ◌≡◌ {A = ℕ} (cond (eqb b newline) 1 0) 0 = ap (λ (x : Bool). cond x 1 0) e in omega (arith, c)

  -- the line `(end)` ends here
  ends_here : (i : ℕ) (s : Bytes) → Skips o p t → eqb b newline ≡ true → eqb (seen_of p) (length end_line) ≡ true → SkipFed z o (inside z o n p t) i (b ∷ s) (skipped.Ended (i + 1))
  unfolding fed count_of_lines
  ends_here i s h e u =
      let c : suc n ≡ n + (cond (eqb b newline) 1 0 + 0) = omega (arith, one_line e) in (
        b ∷ [],
        s,
        refl,
        omega arith,
        ap (λ (r : Step Held). after r.text (fed on_byte r.held [])) (stepped true true e u)
            ∙ ap (λ (m : ℕ). record { text = (judged z o line).text ++ []; held = at_line m (judged z o line).left }) c
            ∙ ap (λ (x : Bytes). record { text = x; held = at_line (n + (cond (eqb b newline) 1 0 + 0)) (judged z o line).left }) (append-nil (judged z o line).text)
            ∙ ap (λ (r : Answered Phase). record { text = r.text; held = at_line (n + (cond (eqb b newline) 1 0 + 0)) r.left }) (same_judged z o p t h),
      )

pub skip_fed : (z : Loading) (o : Option Place) (s : Bytes) (i n : ℕ) (p t : Part) → Skips o p t → SkipFed z o (inside z o n p t) i s (skip_from i (seen_of p) s)
unfolding skip_from seen_from count_of_lines fed
skip_fed z o [] i n p t h = (p, t, (let e : n ≡ n + 0 = omega arith in ap (λ (m : ℕ). record { text = []; held = inside z o m p t }) e), refl, h)
skip_fed z o (b ∷ s) i n p t h =
    by (eqb b newline) refl (eqb (seen_of p) (length end_line)) refl (skip_fed z o s (i + 1) (suc n) (begun []) (line z o n p t b) (line_skips o p t h)) (skip_fed z o s (i + 1) n (grown p b) t (byte_skips o p t b h))
  where
    by : (x : Bool) → eqb b newline ≡ x → (y : Bool) → eqb (seen_of p) (length end_line) ≡ y
        → SkipFed z o (inside z o (suc n) (begun []) (line z o n p t b)) (i + 1) s (skip_from (i + 1) (seen_of (begun [])) s)
        → SkipFed z o (inside z o n (grown p b) t) (i + 1) s (skip_from (i + 1) (seen_of (grown p b)) s)
        → SkipFed z o (inside z o n p t) i (b ∷ s) (cond x (cond y (skipped.Ended (i + 1)) (skip_from (i + 1) 0 s)) (skip_from (i + 1) (next_seen (seen_of p) b) s))
    by true e true u next on = ends_here z o n p t b i s h e u
    by true e false u next on =
        more z o (inside z o n p t) (inside z o (suc n) (begun []) (line z o n p t b)) b s i (stepped z o n p t b true false e u) (one_line z o n p t b e) (skip_from (i + 1) 0 s) next
    by false e y u next on =
        more z o (inside z o n p t) (inside z o n (grown p b) t) b s i (stepped z o n p t b false y e u) (no_line z o n p t b e) (skip_from (i + 1) (next_seen (seen_of p) b) s)
        (subst (λ (k : ℕ). SkipFed z o (inside z o n (grown p b) t) (i + 1) s (skip_from (i + 1) k s)) (part_seen p b) on)

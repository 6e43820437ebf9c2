-- Lines fed to whatever serves them: a whole one, a last one that is not ended, one that is too long.
use Prim.Native.Nat.{ℕ, suc, ◌-◌}
use mathlib.Core.Path.{◌≡◌, sym, ap, ◌∙◌}
use mathlib.Core.Bool.{Bool, true, false, cond, ◌||◌}
use mathlib.Core.List.{[], ◌∷◌}
use mathlib.Core.Option.{Option, none}
use native.Mathlib.Omega.{arith}
use borrow.Author.Tests.{le-ltb, lt-ltb, eqb-true}
use lib.Dec.{eqb, ltb}
use lib.ListN.{length}
use Rattle.layout.specs.Words.{Bytes, newline, split}
use Rattle.layout.specs.Opening.{text_bytes}
use Rattle.feeding.specs.Lines.{after, fed, Part, overlong, line_of, Service, Serving, at_line, on_line_byte, unended, as_line}
use Rattle.buffered_lines.specs.Places.{part_in}
use Rattle.feeding.proofs.Lines.{grown_by, grown_long, overlong_stays, whole_line, split_some, held, line_steps, line_more, fed_lines, last_one}

-- what the service is told of a line, of which bytes before these were passed over or not
abbrev pub told_as : Bool → Bytes → Option Bytes
told_as passed l = cond passed none (as_line l)

line_told : (passed : Bool) (l : Bytes) → line_of (grown_by (part_in passed) l) ≡ told_as passed l
line_told true l = ap line_of (overlong_stays l)
line_told false l = whole_line l

module _ {X : Type 0} (serve : Service X) (n : ℕ) (x : X) where
  abbrev pub before : Bool → Serving X
  before passed = record { number = n; part = part_in passed; left = x }

  -- a whole line, and what stands behind it
  pub line_fed : (passed : Bool) (q l rest : Bytes) → split newline q ≡ l ∷ split newline rest
      → fed (on_line_byte serve) (before passed) q ≡ after (serve n x (told_as passed l)).text (fed (on_line_byte serve) (at_line (suc n) (serve n x (told_as passed l)).left) rest)
  line_fed passed q l rest e =
      fed_lines serve (before passed) q
      ∙ ap (line_steps serve (before passed)) e
      ∙ line_more serve (before passed) l (split newline rest) (split_some newline rest)
      ∙ ap (λ (o : Option Bytes). after (serve n x o).text (line_steps serve (at_line (suc n) (serve n x o).left) (split newline rest))) (line_told passed l)
      ∙ ap (after (serve n x (told_as passed l)).text) (sym (fed_lines serve (at_line (suc n) (serve n x (told_as passed l)).left) rest))

  -- no byte 10 is among the bytes
  pub part_fed : (passed : Bool) (q : Bytes) → split newline q ≡ q ∷ [] → fed (on_line_byte serve) (before passed) q ≡ record { text = []; held = held serve (before passed) q }
  part_fed passed q e = fed_lines serve (before passed) q ∙ ap (line_steps serve (before passed)) e

  -- a last line that is not ended is none
  abbrev pub last_text : Bool → Bytes
  last_text there = cond there (serve n x none).text []

  pub unended_told : (passed : Bool) (at to : ℕ) (q : Bytes) → length q ≡ to - at → unended serve n x (grown_by (part_in passed) q) ≡ last_text (passed || ltb at to)
  unended_told true at to q e = ap (unended serve n x) (overlong_stays q)
  unended_told false at to [] e = ap last_text (sym (le-ltb at to (omega (arith, e))))
  unended_told false at to (b ∷ q) e = last_one serve n x b q ∙ sym (ap last_text (lt-ltb at to (omega (arith, e))))

  -- a line that fills a buffer of one byte more than a text may have is too long
  pub long_fed : (passed : Bool) (q : Bytes) → split newline q ≡ q ∷ [] → cond passed true (eqb (length q) (suc text_bytes)) ≡ true → fed (on_line_byte serve) (before passed) q ≡ record { text = []; held = before true }
  long_fed passed q e long = part_fed passed q e ∙ ap (λ (p : Part). record { text = []; held = record { number = n; part = p; left = x } }) (grown passed long)
    where
      grown : (t : Bool) → cond t true (eqb (length q) (suc text_bytes)) ≡ true → grown_by (part_in t) q ≡ overlong
      grown true h = overlong_stays q
      grown false h = grown_long [] q (omega arith) (omega (arith, eqb-true (length q) (suc text_bytes) h))

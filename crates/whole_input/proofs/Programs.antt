-- The programs that read their input whole: what they print for what stands in their table is what they print for the whole input, whatever its
-- length and however the reads cut it. One byte more than a text may have is enough: every longer text is 9.
use Prim.Native.Nat.{ℕ, suc, ◌≤◌, ◌<◌}
use mathlib.Core.Path.{◌≡◌, sym, ap, ◌∙◌}
use mathlib.Core.Logic.{◌⊎◌, inl, inr}
use native.Mathlib.Omega.{arith}
use borrow.Author.Tests.{lt-ltb}
use lib.ListN.{length, take, length-take}
use lib.Seq.{take_all}
use Rattle.qbf.specs.Formula.{Limits}
use Rattle.theory.proofs.Basics.{le_or_lt}
use Rattle.layout.specs.Words.{Bytes}
use Rattle.layout.specs.Output.{refusal_text}
use Rattle.layout.specs.Opening.{text_bytes, refused}
use Rattle.layout.specs.Program.{opened_printed, opened_pages}
use Rattle.editions.specs.Opening.{Editions, both, only, open_editions}
use Rattle.editions.specs.Converting.{to_tagged, to_untagged}
use Rattle.editions.specs.Program.{card_program, pages_program}
use Rattle.edition_printer.specs.Printing.{tag_program, untag_program}
use Rattle.qdimacs_form.specs.Opening.{open_qdimacs}
use Rattle.qdimacs_printer.specs.Printing.{opened_text, qdimacs_program}
use Rattle.whole_input.specs.Filling.{Fills}
use Rattle.whole_input.proofs.Filling.{filled}

-- a program that prints one text for every input over 65,536 bytes
abbrev Long : (Bytes → Bytes) → Bytes → Type 0
Long program t = (s : Bytes) → text_bytes < length s → program s ≡ t

whole : (program : Bytes → Bytes) (t : Bytes) → Long program t → {text input d : Bytes} {r : ℕ} → length text ≡ suc text_bytes → Fills text 0 input d r → program (take r d) ≡ program input
whole program t long {text} {input} {d} {r} e f = ap program (filled f ∙ ap (λ (n : ℕ). take n input) e) ∙ by (le_or_lt (length input) (suc text_bytes))
  where
    by : (length input ≤ suc text_bytes) ⊎ (suc text_bytes < length input) → program (take (suc text_bytes) input) ≡ program input
    by (inl h) = ap program (take_all (suc text_bytes) input h)
    by (inr h) = long (take (suc text_bytes) input) (omega (arith, h, length-take (suc text_bytes) input)) ∙ sym (long input (omega (arith, h)))

-- ---- over 65,536 bytes
open_long : (a : Editions) (L : Limits) (s : Bytes) → text_bytes < length s → open_editions a L s ≡ refused 9 0
unfolding open_editions
open_long a L s h = rw (lt-ltb text_bytes (length s) h)

qdimacs_long : (L : Limits) (s : Bytes) → text_bytes < length s → open_qdimacs L s ≡ refused 9 0
unfolding open_qdimacs
qdimacs_long L s h = rw (lt-ltb text_bytes (length s) h)

-- ---- the programs
module _ (L : Limits) {text input d : Bytes} {r : ℕ} (room : length text ≡ suc text_bytes) (read : Fills text 0 input d r) where
  pub card_whole : (size : ℕ) → card_program L size (take r d) ≡ card_program L size input
  unfolding card_program
  card_whole size = whole (λ s. opened_printed size (open_editions both L s)) (refusal_text 9 0) (λ s h. ap (opened_printed size) (open_long both L s h)) room read

  pub pages_whole : (size : ℕ) → pages_program L size (take r d) ≡ pages_program L size input
  unfolding pages_program
  pages_whole size = whole (λ s. opened_pages size (open_editions both L s)) (refusal_text 9 0) (λ s h. ap (opened_pages size) (open_long both L s h)) room read

  pub qdimacs_whole : qdimacs_program L (take r d) ≡ qdimacs_program L input
  unfolding qdimacs_program
  qdimacs_whole = whole (λ s. opened_text (open_qdimacs L s)) (refusal_text 9 0) (λ s h. ap opened_text (qdimacs_long L s h)) room read

  pub tag_whole : tag_program L (take r d) ≡ tag_program L input
  unfolding tag_program to_tagged
  tag_whole = whole (tag_program L) (refusal_text 9 0) (λ s h. rw (open_long (only 1) L s h)) room read

  pub untag_whole : untag_program L (take r d) ≡ untag_program L input
  unfolding untag_program to_untagged
  untag_whole = whole (untag_program L) (refusal_text 9 0) (λ s h. rw (open_long (only 2) L s h)) room read

-- What is printed for a text, from the contract of the conversion, for tables that are whole and for others.
use Prim.Native.Nat.{ℕ}
use native.Mathlib.Omega.{arith}
use mathlib.Core.Path.{◌≡◌, ap, subst, ◌∙◌}
use mathlib.Core.List.{List}
use lib.IntN.{ℤ}
use lib.ListN.{length}
use Rattle.std.specs.Prelude.{Ok, Err}
use Rattle.qbf.specs.Formula.{Limits}
use Rattle.refusal.specs.Refusal.{number_of}
use Rattle.layout.specs.Words.{Bytes}
use Rattle.layout.specs.Output.{refusal_text}
use Rattle.layout.specs.Opening.{text_bytes}
use Rattle.editions.specs.Converting.{Converted, converted, refused}
use Rattle.writer.specs.Wrote.{Wrote}
use Rattle.opening.specs.declared.text.RefusedAt.{RefusedAt}
use Rattle.edition_reader.specs.declared.Edition.{Edition}
use Rattle.edition_reader.specs.declared.Edition.TheVariants.{First, Second}
use Rattle.edition_conversion.specs.Converted.{conversion, WrittenAs}
use Rattle.edition_conversion.specs.Converting.{WrittenUnder}
use Rattle.edition_printer.specs.Printing.{ConversionWritten, converted_text, converting_program, tag_program, untag_program}

-- a table at whose start a text stands, after one of its size
module _ (d₀ d₁ : Bytes) (same : length d₁ ≡ length d₀) where
  refusal_put : (c : Converted) (q : RefusedAt) → WrittenAs c (Err q) d₁ → {k : ℕ} → k ≡ number_of q.refusal → {d : Bytes} {r : ℕ} → Wrote d₁ 0 (refusal_text k q.line) d r → Wrote d₀ 0 (converted_text c) d r
  refusal_put (converted t) q h e w = absurd h
  refusal_put (refused k l) q h e {d} {r} w = subst (λ (t : Bytes). Wrote d₀ 0 t d r) (λ i. refusal_text ((e ∙ h.0) i) (h.1 i)) (record { size = w.size ∙ same; next = w.next; is = w.is })

  text_stands : (c : Converted) (n : ℕ) → WrittenAs c (Ok n) d₁ → Wrote d₀ 0 (converted_text c) d₁ n
  text_stands (converted t) n h = record { size = same; next = omega (arith, h.0); is = h.2 }
  text_stands (refused k l) n h = absurd h

-- ---- the programs, by what the conversion answers
program_is : (e : Edition) (L : Limits) (s : Bytes) (n : ℕ) → n ≡ text_bytes → converted_text (conversion e L n s) ≡ converting_program e L s
unfolding tag_program untag_program
program_is First L s n i = ap (λ (m : ℕ). converted_text (conversion First L m s)) i
program_is Second L s n i = ap (λ (m : ℕ). converted_text (conversion Second L m s)) i

module _ (e : Edition) (L : Limits) (cells : List ℕ) (literals : List ℤ) (s d₀ d₁ : Bytes) (room : length d₀ ≡ text_bytes) (same : length d₁ ≡ length d₀) where
  printed : {d : Bytes} {r : ℕ} → Wrote d₀ 0 (converted_text (conversion e L (length d₀) s)) d r → Wrote d₀ 0 (converting_program e L s) d r
  printed {d} {r} w = subst (λ (t : Bytes). Wrote d₀ 0 t d r) (program_is e L s (length d₀) room) w

  pub converted_printed : (n : ℕ) → WrittenUnder e L cells literals s (length d₀) (Ok n) d₁ → ConversionWritten e L cells literals s d₀ d₁ n
  converted_printed n told =
      record { whole = λ w. printed (text_stands d₀ d₁ same (conversion e L (length d₀) s) n (told.whole w)); short = λ w. absurd (told.short w) }

  pub refused_printed : (q : RefusedAt) → WrittenUnder e L cells literals s (length d₀) (Err q) d₁ → {k : ℕ} → k ≡ number_of q.refusal → {d : Bytes} {r : ℕ} → Wrote d₁ 0 (refusal_text k q.line) d r → ConversionWritten e L cells literals s d₀ d r
  refused_printed q told is w =
      record { whole = λ h. printed (refusal_put d₀ d₁ same (conversion e L (length d₀) s) q (told.whole h) is w); short = λ h. refusal_put d₀ d₁ same (refused 22 0) q (told.short h) is w }

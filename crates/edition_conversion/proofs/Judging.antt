-- What the functions answer, from what their callees do: the judgement by opening the text, and a tag that would be lost.
use Prim.Native.Nat.{ℕ, ◌≤◌}
use native.Mathlib.Omega.{arith}
use mathlib.Core.Path.{◌≡◌, refl, ap, subst}
use mathlib.Core.Bool.{Bool, true, false, cond}
use borrow.Author.Tests.{ltb-false}
use mathlib.Core.List.{List}
use mathlib.Core.Option.{Option, none, some}
use lib.IntN.{ℤ}
use lib.ListN.{length}
use lib.Dec.{ltb}
use Rattle.std.specs.Prelude.{Result, Ok, Err}
use Rattle.qbf.specs.Formula.{Limits}
use Rattle.layout.specs.Words.{Bytes}
use Rattle.layout.specs.Opening.{text_bytes, Opened, opened}
use Rattle.layout.specs.Opening as opening
use Rattle.refusal.specs.declared.Refusal.TheVariants.{TagLost}
use Rattle.opening.specs.declared.text.RefusedAt.{RefusedAt}
use Rattle.opening.specs.Opened.{AnsweredAt, OpenedAt}
use Rattle.state_parts.specs.Parts.{Whole}
use Rattle.editions.specs.Opening.{Editions, open_editions, read_editions}
use Rattle.editions.specs.Converting.{Converted, refused, unlost, after_opening}
use Rattle.edition_conversion.specs.Converted.{WrittenAs}
use Rattle.lent_texts.specs.Whole.{IfWhole}
use Rattle.lent_texts.proofs.Opened.{if_whole}

-- 0 is no refusal
abbrev refusals : Result (Unit {0}) RefusedAt → ℕ
refusals (Ok u) = 0
refusals (Err e) = 1

-- what a refused text is answered by, whatever the conversion of another would be
refusal_is : (o : Opened) (c : Converted) (e : RefusedAt) (cells : List ℕ) (literals : List ℤ) (d : Bytes) → AnsweredAt o (Err e) cells literals → WrittenAs (after_opening o c) (Err e) d
refusal_is (opening.refused n k) c e cells literals d h = (h.0, h.1)
refusal_is (opened b) c e cells literals d h = absurd h

module _ (a : Editions) (L : Limits) (s : Bytes) {cells : List ℕ} {literals : List ℤ} {cells' : List ℕ} {literals' : List ℤ} where
  pub judged_refused : (e : RefusedAt) → OpenedAt L (open_editions a L s) cells literals (Err e) cells' literals' → (c : Converted) (d : Bytes)
      → IfWhole L cells literals (WrittenAs (after_opening (open_editions a L s) c) (Err e) d) (WrittenAs (refused 22 0) (Err e) d)
  judged_refused e told c d =
      if_whole told (λ h. refusal_is (open_editions a L s) c e cells' literals' d h) (λ h. refusal_is (opening.refused 22 0) c e cells' literals' d h)

  module _ (told : OpenedAt L (open_editions a L s) cells literals (Ok tt) cells' literals') where
    pub judged_opened : (c : Converted) (r : Result ℕ RefusedAt) (d : Bytes) → WrittenAs c r d → IfWhole L cells literals (WrittenAs (after_opening (open_editions a L s) c) r d) (WrittenAs (refused 22 0) r d)
    judged_opened c r d w = if_whole told (by (open_editions a L s)) (λ h. absurd h)
      where
        by : (o : Opened) → AnsweredAt o (Ok tt) cells' literals' → WrittenAs (after_opening o c) r d
        by (opening.refused n k) h = absurd h
        by (opened b) h = w

    -- a longer text is refused, and tables that are too short refuse any
    pub judged_short : length s ≤ text_bytes
    unfolding open_editions
    judged_short = by (ltb text_bytes (length s)) refl
      where
        no_whole : ltb text_bytes (length s) ≡ true → Whole L cells literals → ⊥
        no_whole e w = subst (λ (o : Opened). AnsweredAt o (Ok tt) cells' literals') (ap (λ (b : Bool). cond b (opening.refused 9 0) (read_editions a L s)) e) (told.whole w)

        by : (b : Bool) → ltb text_bytes (length s) ≡ b → length s ≤ text_bytes
        by true e = absurd (omega (arith, ap refusals (told.short (no_whole e)).0))
        by false e = ltb-false text_bytes (length s) e

-- ---- a tag that would be lost
module _ {o : Option ℕ} (c : Converted) (d : Bytes) where
  pub lost_refused : {n : ℕ} → some n ≡ o → WrittenAs (unlost o c) (Err (record { refusal = TagLost; line = n })) d
  lost_refused {n} e = subst (λ (x : Option ℕ). WrittenAs (unlost x c) (Err (record { refusal = TagLost; line = n })) d) e (refl, refl)

  pub lost_none : (r : Result ℕ RefusedAt) → none ≡ o → WrittenAs c r d → WrittenAs (unlost o c) r d
  lost_none r e w = subst (λ (x : Option ℕ). WrittenAs (unlost x c) r d) e w

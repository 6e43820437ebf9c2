-- WISH 13 of the code, under any limits: "the two conversions, where not refused, undo each other". In each theorem r is what a conversion answers with its table:
-- `TaggedUnder` and `UntaggedUnder` are the `ensures`; the tables are whole.
use Prim.Native.Nat.{ℕ, zero, suc, ◌-◌, ◌≤◌}
use mathlib.Core.Path.{◌≡◌, refl, sym, ap, subst, ◌∙◌}
use mathlib.Core.Bool.{Bool, true, false, cond, ◌||◌}
use mathlib.Core.List.{List}
use mathlib.Core.Option.{Option, none, some}
use native.Mathlib.Omega.{arith}
use lib.IntN.{ℤ}
use lib.ListN.{length, take, replicate}
use lib.Seq.{take-append_seam}
use lib.Dec.{ltb}
use Rattle.std.specs.Prelude.{Result, Ok}
use Rattle.qbf.specs.Formula.{Limits}
use Rattle.layout.specs.Words.{Bytes, newline, split}
use Rattle.layout.specs.Opening.{text_bytes, Opened, opened}
use Rattle.layout.specs.Opening as opening
use Rattle.opening.specs.declared.text.RefusedAt.{RefusedAt}
use Rattle.opening.proofs.Apart.{NumberedText}
use Rattle.opening.specs.Opened.{OpenedAt}
use Rattle.state_parts.specs.Parts.{read_at, Whole}
use Rattle.editions.specs.Opening.{only, both, open_editions}
use Rattle.editions.specs.Converting.{Converted, converted, refused, lost_line, tagged_text, untagged_text, fitted, unlost, after_opening, to_tagged, to_untagged}
use Rattle.editions_laws.proofs.Converting.{tags_undone, untags_undone}
use Rattle.edition_opening.proofs.Apart.{edition_numbered}
use Rattle.edition_opening.proofs.Books.{tagged_alike, untagged_alike}
use Rattle.edition_conversion.specs.declared.Converted.{Converted as Answer}
use Rattle.edition_conversion.specs.Converted.{ConvertedAs, Numbered, refusal_of}
use Rattle.edition_conversion.specs.Converting.{TaggedUnder, UntaggedUnder}

-- ---- no refusal is 0
fitted_numbered : (size : ℕ) (t : Bytes) → Numbered (fitted size t)
fitted_numbered size t = by (ltb size (length t) || ltb text_bytes (length t))
  where
    by : (q : Bool) → Numbered (cond q (refused 31 0) (converted t))
    by true = tt
    by false = tt

unlost_numbered : (o : Option ℕ) (c : Converted) → Numbered c → Numbered (unlost o c)
unlost_numbered none c n = n
unlost_numbered (some k) c n = tt

judged_numbered : (o : Opened) (c : Converted) → NumberedText o → Numbered c → Numbered (after_opening o c)
judged_numbered (opening.refused zero k) c n m = absurd n
judged_numbered (opening.refused (suc j) k) c n m = tt
judged_numbered (opened b) c n m = m

pub tag_numbered : (L : Limits) (size : ℕ) (s : Bytes) → Numbered (to_tagged L size s)
unfolding to_tagged
tag_numbered L size s = judged_numbered (open_editions (only 1) L s) (fitted size (tagged_text s)) (edition_numbered (only 1) L s) (fitted_numbered size (tagged_text s))

pub untag_numbered : (L : Limits) (size : ℕ) (s : Bytes) → Numbered (to_untagged L size s)
unfolding to_untagged
untag_numbered L size s =
    judged_numbered (open_editions (only 2) L s) (unlost (lost_line (split newline s)) (fitted size (untagged_text s))) (edition_numbered (only 2) L s)
    (unlost_numbered (lost_line (split newline s)) (fitted size (untagged_text s)) (fitted_numbered size (untagged_text s)))

-- ---- what was converted stands in the first bytes
module _ {size : ℕ} {c : Converted} {r : Answer} {d : Bytes} (told : ConvertedAs size c r d) where
  stands : (t : Bytes) → c ≡ converted t → take r.length d ≡ t
  stands t e =
      let w = subst (λ (x : Converted). ConvertedAs size x r d) e told in
      ap (λ (n : ℕ). take n d) w.count ∙ ap (take (length t)) w.stands ∙ take-append_seam t (replicate (size - length t) 0)

  pub made : Numbered c → r.refusal ≡ 0 → c ≡ converted (take r.length d)
  made n h = by c refl n
    where
      by : (x : Converted) → c ≡ x → Numbered x → c ≡ converted (take r.length d)
      by (converted t) e m = e ∙ ap converted (sym (stands t e))
      by (refused zero k) e m = absurd m
      by (refused (suc j) k) e m = absurd (omega (arith, told.refusal, ap refusal_of e, h))

  unrefused : (t : Bytes) → c ≡ converted t → (r.refusal ≡ 0) × (take r.length d ≡ t)
  unrefused t e = (told.refusal ∙ ap refusal_of e, stands t e)

module _ (L : Limits) (few : L.clauses ≤ 65535) {cells : List ℕ} {literals : List ℤ} (w : Whole L cells literals) where
  module _ {cells' : List ℕ} {literals' : List ℤ} (v : Whole L cells' literals') (size size' : ℕ) (s : Bytes) {r q : Answer} {d e : Bytes} where
    -- tags in, then out
    pub tag_undone : TaggedUnder L cells literals s size r d → r.refusal ≡ 0 → length s ≤ size' → UntaggedUnder L cells' literals' (take r.length d) size' q e → (q.refusal ≡ 0) × (take q.length e ≡ s)
    tag_undone told h g back = unrefused (back.whole v) s (tags_undone L few size size' s (take r.length d) (made (told.whole w) (tag_numbered L size s) h) g)

    -- tags out, then in
    pub untag_undone : UntaggedUnder L cells literals s size r d → r.refusal ≡ 0 → length s ≤ size' → TaggedUnder L cells' literals' (take r.length d) size' q e → (q.refusal ≡ 0) × (take q.length e ≡ s)
    untag_undone told h g back = unrefused (back.whole v) s (untags_undone L few size size' s (take r.length d) (made (told.whole w) (untag_numbered L size s) h) g)

  -- ---- "finds equal rules, so cards agree whether or not a book is tagged": neither text is refused, and what the two open reads alike
  module _ (size : ℕ) (s : Bytes) (r : Answer) (d : Bytes) {o p : Result (Unit {0}) RefusedAt} {a b a' b' : List ℕ} {c e c' e' : List ℤ} (was : OpenedAt L (open_editions both L s) a c o a' c') (is : OpenedAt L (open_editions both L (take r.length d)) b e p b' e') (h : Whole L a c) (g : Whole L b e) where
    pub tag_alike : TaggedUnder L cells literals s size r d → r.refusal ≡ 0 → (o ≡ Ok tt) × (p ≡ Ok tt) × (read_at a' c' ≡ read_at b' e')
    tag_alike told z = tagged_alike L few size s (take r.length d) was is h g (made (told.whole w) (tag_numbered L size s) z)

    pub untag_alike : UntaggedUnder L cells literals s size r d → r.refusal ≡ 0 → (o ≡ Ok tt) × (p ≡ Ok tt) × (read_at a' c' ≡ read_at b' e')
    untag_alike told z = untagged_alike L few size s (take r.length d) was is h g (made (told.whole w) (untag_numbered L size s) z)

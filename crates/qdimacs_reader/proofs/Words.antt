-- Words of a line: empty pieces between spaces are passed over.
use Prim.Native.Nat.{◌≤◌, ◌-◌}
use mathlib.Core.Path.{◌≡◌, refl, ap, ◌∙◌}
use mathlib.Core.Bool.{false, not}
use mathlib.Core.List.{List, [], ◌∷◌}
use native.Mathlib.Omega.{arith}
use borrow.Author.Tests.{eq-eqb, ne_eqb, le-leb}
use lib.ListN.{length, get_or}
use lib.Dec.{eqb}
use Rattle.std.specs.Prelude.{Option as Answer, Some, None}
use Rattle.std.specs.Borrow.{Bor}
use Rattle.layout.specs.Words.{Bytes, space}
use Rattle.reader.specs.Pieces.{pieces, size_left, Cut}
use Rattle.qdimacs_form.specs.Lines.{filled, edged}
use Rattle.qdimacs_reader.specs.Words.{words, First, NextWord}

-- ---- the next word
-- the words of what is left are all the words
pub record Passed (line left : Answer (Bor Bytes)) : Type 0 where
  pub few : size_left left ≤ size_left line
  pub same : words line ≡ words left

nothing : filled [] ≡ []
unfolding filled
nothing = refl

empty : (w : Bytes) (ws : List Bytes) → length w ≡ 0 → filled (w ∷ ws) ≡ filled ws
unfolding filled
empty [] ws h = refl
empty (b ∷ w) ws h = absurd (omega (arith, h))

full : (w : Bytes) (ws : List Bytes) → (length w ≡ 0 → ⊥) → filled (w ∷ ws) ≡ w ∷ filled ws
unfolding filled
full [] ws h = absurd (h refl)
full (b ∷ w) ws h = refl

module _ {line left : Answer (Bor Bytes)} (p : Passed line left) where
  pub pass_over : left ≡ None → NextWord line None
  pass_over h = p.same ∙ ap words h ∙ nothing

  module _ {t : Bor Bytes} (here : left ≡ Some t) {w : Bytes} {more : Answer (Bor Bytes)} (q : Cut space t.now w more) where
    cut_words : words left ≡ filled (w ∷ pieces space more)
    cut_words = ap words here ∙ ap filled q.is

    pub pass_more : length w ≡ 0 → Passed line more
    pass_more h = record { few = omega (arith, p.few, ap size_left here, q.shorter); same = p.same ∙ cut_words ∙ empty w (pieces space more) h }

    pub pass_word : (length w ≡ 0 → ⊥) → {v : Bor Bytes} → w ≡ v.now → First line (record { word = v; left = more })
    pass_word h e = record { is = p.same ∙ cut_words ∙ full w (pieces space more) h ∙ ap (λ (u : Bytes). u ∷ words more) e; shorter = omega (arith, p.few, ap size_left here, q.shorter) }

-- ---- the edges of a line
module _ (l : Bytes) where
  pub edged_none : length l ≡ 0 → false ≡ edged l
  unfolding edged
  edged_none e = rw e

  module _ (some : length l ≡ 0 → ⊥) where
    pub edged_first : get_or l 0 0 ≡ space → false ≡ edged l
    unfolding edged
    edged_first e = rw (le-leb 1 (length l) (omega (arith, some)), eq-eqb (get_or l 0 0) space e)

    pub edged_last : (get_or l 0 0 ≡ space → ⊥) → not (eqb (get_or l (length l - 1) 0) space) ≡ edged l
    unfolding edged
    edged_last e = rw (le-leb 1 (length l) (omega (arith, some)), ne_eqb (get_or l 0 0) space e)

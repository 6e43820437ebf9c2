-- A text cut at its first space, as the code cuts it and as the definition does.
use Prim.Native.Nat.{ℕ}
use mathlib.Core.Path.{◌≡◌, refl, sym, ap, ◌∙◌}
use mathlib.Core.Bool.{Bool, true, false, cond}
use mathlib.Core.List.{List, [], ◌∷◌, ◌++◌}
use mathlib.Core.Option.{Option, none, some}
use native.Mathlib.Omega.{arith}
use lib.Dec.{eqb}
use Rattle.std.specs.Prelude.{Option as Answer, Some, None}
use Rattle.std.specs.Borrow.{Bor}
use Rattle.layout.specs.Words.{Bytes, space, on_first, split}
use Rattle.reader.specs.Pieces.{Cut, cut_bytes}
use Rattle.reader.proofs.Texts.{split_some}
use Rattle.day_text.specs.Lines.{longer_word, cut_of}
use Rattle.day_text.specs.Lines as day

-- a word has no space, and neither has what follows its first byte
module _ (b : ℕ) (w : Bytes) (alone : split space (b ∷ w) ≡ (b ∷ w) ∷ []) where
  record Inner : Type 0 where
    pub first : eqb b space ≡ false
    pub rest : split space w ≡ w ∷ []

  inner : Inner
  unfolding split
  inner = by (eqb b space) refl alone (split_some space w)
    where
      by : (t : Bool) → eqb b space ≡ t → cond t ([] ∷ split space w) (on_first b (split space w)) ≡ (b ∷ w) ∷ [] → (v : Bytes) × (vs : List Bytes) × (split space w ≡ v ∷ vs) → Inner
      by true e h r = absurd (let z : ◌≡◌ {A = ℕ} 0 1 = cc in omega (arith, z))
      by false e h (v, vs, g) =
          let k : (b ∷ v) ∷ vs ≡ (b ∷ w) ∷ [] = sym (ap (on_first b) g) ∙ h in
          let first : v ≡ w = cc in
          let others : ◌≡◌ {A = List Bytes} vs [] = cc in
          record { first = e; rest = g ∙ ap (λ (u : Bytes). u ∷ vs) first ∙ ap (λ (us : List Bytes). w ∷ us) others }

pub uncut : (w : Bytes) → split space w ≡ w ∷ [] → cut_of w ≡ none
unfolding cut_of
uncut [] e = refl
uncut (b ∷ w) e = rw ((inner b w e).first) (ap (longer_word b) (uncut w (inner b w e).rest))

pub cut_at : (w t : Bytes) → split space w ≡ w ∷ [] → cut_of (w ++ (space ∷ t)) ≡ some (record { word = w; left = t })
unfolding cut_of
cut_at [] t e = refl
cut_at (b ∷ w) t e = rw ((inner b w e).first) (ap (longer_word b) (cut_at w t (inner b w e).rest))

-- what the code's cut is
abbrev pub cut_answer : Bytes → Answer (Bor Bytes) → Option day.Cut
cut_answer w None = none
cut_answer w (Some t) = some (record { word = w; left = t.now })

pub cut_is : {s w : Bytes} {left : Answer (Bor Bytes)} → Cut space s w left → cut_of s ≡ cut_answer w left
cut_is {s} {w} {left} p = ap cut_of p.bytes ∙ by left p.alone
  where
    by : (r : Answer (Bor Bytes)) → split space w ≡ w ∷ [] → cut_of (cut_bytes space w r) ≡ cut_answer w r
    by None e = uncut w e
    by (Some t) e = cut_at w t.now e

-- The words of a QDIMACS line, from left to right: a space is passed over, a word is taken.
use Prim.Native.Nat.{ℕ}
use mathlib.Core.Path.{◌≡◌, refl, ap}
use mathlib.Core.Bool.{true}
use mathlib.Core.List.{[], ◌∷◌, ◌++◌}
use Rattle.layout.specs.Words.{Bytes, space, split}
use Rattle.booktext_laws.proofs.Lines.{lacks, split_first, split_only}
use Rattle.qdimacs_form.specs.Lines.{filled}

pub filled_space : (s : Bytes) → filled (split space (space ∷ s)) ≡ filled (split space s)
unfolding split filled
filled_space s = refl

pub filled_word : (b : ℕ) (w s : Bytes) → lacks space (b ∷ w) ≡ true → filled (split space ((b ∷ w) ++ (space ∷ s))) ≡ (b ∷ w) ∷ filled (split space s)
unfolding filled
filled_word b w s h = ap filled (split_first space (b ∷ w) s h)

pub filled_last : (b : ℕ) (w : Bytes) → lacks space (b ∷ w) ≡ true → filled (split space (b ∷ w)) ≡ (b ∷ w) ∷ []
unfolding filled
filled_last b w h = ap filled (split_only space (b ∷ w) h)

-- What a day prints beside the answers of its books. Every line ends with byte 10.
use Rattle.std.specs.Prelude.{ℕ, suc, cond, List, [], ◌∷◌, ◌++◌}
use Rattle.layout.specs.Words.{Bytes, ascii}
use Rattle.layout.specs.Output.{decimal, refusal_text}
use Rattle.layout.specs.Opening as opening
use Rattle.days.specs.Accounts.{overspent, allowance}

-- the place of the answer that follows: `(at 1)`
unfoldable pub at_text : ℕ → Bytes
at_text k = ascii "(at " ++ decimal k ++ ascii ")\n"

-- ---- loading
abbrev pub opened_text : Bytes
opened_text = ascii "(opened)\n"

-- "a refused text leaving its place without a book"
abbrev pub opening_text : opening.Opened → Bytes
opening_text (opening.refused n line) = refusal_text n line
opening_text (opening.opened b) = opened_text

-- ---- the shares
-- what a call at a place may still use, counted from 0 here: nothing where it would be refused, with 22
abbrev pub left_at : ℕ → List ℕ → ℕ → ℕ
left_at T us i = cond (overspent T us) 0 (allowance T us i)

-- `(place 1 (used 13) (left 0))`
unfoldable pub share_text : ℕ → ℕ → ℕ → Bytes
share_text k u a = ascii " (place " ++ decimal k ++ ascii " (used " ++ decimal u ++ ascii ") (left " ++ decimal a ++ ascii "))"

-- the places from i on, by what was used there
unfoldable pub shares_from : ℕ → List ℕ → ℕ → List ℕ → Bytes
shares_from T us i [] = []
shares_from T us i (v ∷ vs) = share_text (suc i) v (left_at T us i) ++ shares_from T us (suc i) vs

-- the total, and the visits used at each place
unfoldable pub shares_text : ℕ → List ℕ → Bytes
shares_text T us = ascii "(shares (total " ++ decimal T ++ ascii ")" ++ shares_from T us 0 us ++ ascii ")\n"

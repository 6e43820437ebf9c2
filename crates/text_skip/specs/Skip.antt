-- A text that is skipped "through the next line `(end)`", byte by byte: of the line that is being read only so much is kept as tells whether it is that line.
use Rattle.std.specs.Prelude.{ℕ, suc, ◌+◌, cond, ◌&&◌, [], ◌∷◌, length, get_or, ltb, eqb}
use Rattle.layout.specs.Words.{Bytes, newline}
use Rattle.layout.specs.Session.{end_line}
use Rattle.feeding.specs.Lines.{Part, begun, overlong}
use Rattle.text_skip.specs.declared.Skipped.{Skipped}
use Rattle.text_skip.specs.declared.Skipped.TheVariants as skipped

-- one more than the line has bytes: another line
abbrev pub other : ℕ
other = suc (length end_line)

-- how many bytes of a line are those of the line p, of which k came before
unfoldable pub seen_from : Bytes → ℕ → Bytes → ℕ
seen_from p k [] = k
seen_from [] k (b ∷ l) = other
seen_from (a ∷ p) k (b ∷ l) = cond (eqb b a) (seen_from p (suc k) l) other

-- .. of the line that is being read
abbrev pub seen_of : Part → ℕ
seen_of (begun l) = seen_from end_line 0 l
seen_of overlong = other

-- with a further byte
abbrev pub next_seen : ℕ → ℕ → ℕ
next_seen k b = cond (ltb k (length end_line) && eqb b (get_or end_line k 0)) (suc k) other

-- of the bytes behind i others: where the line `(end)` ends, or what is seen of the line that is being read
unfoldable pub skip_from : ℕ → ℕ → Bytes → Skipped
skip_from i k [] = skipped.Inside k
skip_from i k (b ∷ s) = cond (eqb b newline) (cond (eqb k (length end_line)) (skipped.Ended (i + 1)) (skip_from (i + 1) 0 s)) (skip_from (i + 1) (next_seen k b) s)

-- The pieces of a text, which is cut at its first byte c.
use Rattle.std.specs.Prelude.{Option as Answer, Some, None, ℕ, suc, ◌+◌, ◌≡◌, List, [], ◌∷◌, ◌++◌, length}
use Rattle.std.specs.Borrow.{Bor}
use Rattle.layout.specs.Words.{Bytes, split}

-- the pieces of what is left of a text, none where nothing is left
abbrev pub pieces : ℕ → Answer (Bor Bytes) → List Bytes
pieces c None = []
pieces c (Some s) = split c s.now

-- the bytes of a piece, and of what is left behind it
abbrev pub cut_bytes : ℕ → Bytes → Answer (Bor Bytes) → Bytes
cut_bytes c w None = w
cut_bytes c w (Some s) = w ++ (c ∷ s.now)

-- how long what is left is, with the byte before it
abbrev pub size_left : Answer (Bor Bytes) → ℕ
size_left None = 0
size_left (Some s) = suc (length s.now)

-- a text is its first piece and what is left behind it
pub record Cut (c : ℕ) (s w : Bytes) (left : Answer (Bor Bytes)) : Type 0 where
  pub is : split c s ≡ w ∷ pieces c left
  pub alone : split c w ≡ w ∷ []
  pub bytes : s ≡ cut_bytes c w left
  pub shorter : length w + size_left left ≡ length s

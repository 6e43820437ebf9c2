-- A text read line by line onto the two tables of a state: what its lines open, in whatever form they stand.
use Rattle.std.specs.Prelude.{ℕ, suc, ◌≡◌, ◌<◌, cond, List, [], ◌∷◌, length, ltb, ℤ, Option, Some, None, Result, Ok, Err}
use Rattle.std.specs.Borrow.{Bor}
use Rattle.std.proofs.Math.Option.{some}
use Rattle.qbf.specs.Runs.{fresh}
use Rattle.refusal.specs.declared.Refusal.{Refusal}
use Rattle.refusal.specs.declared.Refusal.TheVariants.{NotInLayout}
use Rattle.refusal.specs.Refusal.{number_of}
use Rattle.layout.specs.Words.{Bytes, newline, split}
use Rattle.layout.specs.Opening.{text_bytes, Opened, refused, opened}
use Rattle.state_parts.specs.Parts.{read_at}
use Rattle.opening.specs.declared.text.RefusedAt.{RefusedAt}

-- what the pieces from a number on open
abbrev pub Opens : Type 0
Opens = ℕ → List Bytes → Opened

-- .. read on what stands in the tables
abbrev pub OpensAt : Type 0 → Type 0
OpensAt R = R → List ℕ → List ℤ → Opens

abbrev pub StandsAt : Type 0 → Type 1
StandsAt R = R → List ℕ → List ℤ → Type 0

-- a whole line: another piece follows it
abbrev pub TakesAt : {R : Type 0} → StandsAt R → OpensAt R → R → List ℕ → List ℤ → Bytes → Result R Refusal → List ℕ → List ℤ → Type 0
TakesAt stands opens x cells literals l (Ok y) cells' literals' =
    stands y cells' literals' × ((n : ℕ) (m : Bytes) (ls : List Bytes) → opens x cells literals n (l ∷ m ∷ ls) ≡ opens y cells' literals' (suc n) (m ∷ ls))
TakesAt stands opens x cells literals l (Err r) cells' literals' = (n : ℕ) (m : Bytes) (ls : List Bytes) → opens x cells literals n (l ∷ m ∷ ls) ≡ refused (number_of r) n

-- what a text opens: the tables read as its formula with an empty store, or the refusal with its line
abbrev pub ReadAt : Opened → Result (Unit {0}) RefusedAt → List ℕ → List ℤ → Type 0
ReadAt (refused k n) (Ok u) cells literals = ⊥
ReadAt (refused k n) (Err r) cells literals = (number_of r.refusal ≡ k) × (r.line ≡ n)
ReadAt (opened b) (Ok u) cells literals = read_at cells literals ≡ some (fresh b)
ReadAt (opened b) (Err r) cells literals = ⊥

-- nothing stands after the last byte 10
abbrev pub EndsAt : Opens → List ℕ → List ℤ → Result (Unit {0}) Refusal → Type 0
EndsAt o cells literals (Ok u) = (n : ℕ) → ReadAt (o n ([] ∷ [])) (Ok u) cells literals
EndsAt o cells literals (Err r) = (n : ℕ) → o n ([] ∷ []) ≡ refused (number_of r) n

-- the line of a refusal
abbrev pub at_line : {T : Type 0} → ℕ → Result T Refusal → Result T RefusedAt
at_line n (Ok t) = Ok t
at_line n (Err r) = Err (record { refusal = r; line = n })

-- "text 9, then line by line"
abbrev pub within_text : Bytes → Opened → Opened
within_text s o = cond (ltb text_bytes (length s)) (refused 9 0) o

-- the next line of a text, and what is left of it then
abbrev pub NextLine : Bytes → Option (Result (Bor Bytes) Refusal) → Bytes → Type 0
NextLine s None t = s ≡ []
NextLine s (Some (Ok l)) t = (split newline s ≡ l.now ∷ split newline t) × (length t < length s)
NextLine s (Some (Err q)) t = (q ≡ NotInLayout) × (b : ℕ) × (l : Bytes) × (split newline s ≡ (b ∷ l) ∷ [])

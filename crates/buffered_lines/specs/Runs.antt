-- A program as a whole: reads, turns and prints one after another, until it is over.
use Rattle.std.specs.Prelude.{ℕ, ◌+◌, ◌≤◌, ◌≡◌, true, false, List, [], ◌∷◌, ◌++◌, length, take, drop}
use Rattle.layout.specs.Words.{Bytes}
use Rattle.feeding.specs.Lines.{Step}
use Rattle.buffered_lines.specs.Turns.{View, Turned}

-- Where the program waits, the next bytes of the input stand behind what it holds, any number of them; none only where the input has ended. What it
-- holds is as it was. Where it does not wait, nothing is read.
pub record Reading (v : View) (text input : Bytes) (got : ℕ) (text' input' : Bytes) : Type 0 where
  pub room : v.held + got ≤ length text'
  pub size : length text' ≡ length text
  pub kept : take v.held text' ≡ take v.held text
  pub more : v.waits ≡ true → (input ≡ take got (drop v.held text') ++ input') × (got ≡ 0 → input ≡ [])
  pub none : v.waits ≡ false → (got ≡ 0) × (text' ≡ text) × (input' ≡ input)

-- A program by steps, as turns of it are told: the numbers S that it keeps and the tables M that it is lent for good, what it holds by these, and what a turn owes.
pub record Program (S M H : Type 0) : Type 1 where
  pub view : S → View
  pub on : H → ℕ → Step H
  pub at_end : H → Bytes
  pub Shows : S → M → H → Type 0
  pub Quiet : H → Bytes → Type 0
  pub answer_bytes : ℕ

abbrev pub TurnOf : {S M H : Type 0} → Program S M H → S → ℕ → Bytes → M → Bytes → S → Bytes → M → Bytes → Type 0
TurnOf p s got text m d₀ s' text' m' d = Turned p.on p.at_end p.Quiet p.answer_bytes (p.view s) (p.Shows s m) got text d₀ (p.view s') (p.Shows s' m') text' d

-- a read, a turn, and what it printed
pub record Round {S M H : Type 0} (p : Program S M H) (s : S) (text : Bytes) (m : M) (input out : Bytes) : Type 0 where
  pub got : ℕ
  pub read : Bytes
  pub rest : Bytes
  pub reading : Reading (p.view s) text input got read rest
  pub lent : Bytes
  pub room : p.answer_bytes ≤ length lent
  pub next : S
  pub text' : Bytes
  pub tables : M
  pub answer : Bytes
  pub turned : TurnOf p s got read m lent next text' tables answer
  pub printed : out ≡ take (p.view next).length answer

-- what was printed, round by round, from an input that is still to be read
abbrev pub Ran : {S M H : Type 0} → Program S M H → S → Bytes → M → Bytes → List Bytes → Type 0
Ran p s text m input [] = (p.view s).over ≡ true
Ran p s text m input (out ∷ outs) = (x : Round p s text m input out) × Ran p x.next x.text' x.tables x.rest outs

-- What opening a text onto two lent tables answers in plain numbers.
use Rattle.std.specs.Prelude.{ℕ, ◌≡◌, false, List, ℤ, Result, Ok, Err}
use Rattle.std.proofs.Math.Option.{some}
use Rattle.qbf.specs.Formula.{Limits}
use Rattle.qbf.specs.Runs.{fresh}
use Rattle.refusal.specs.Refusal.{number_of}
use Rattle.layout.specs.Opening as text
use Rattle.state_parts.specs.Parts.{read_at, valid_at, Whole}
use Rattle.opening.specs.declared.text.RefusedAt.{RefusedAt}
use Rattle.book_calls.specs.declared.text.Opened.{Opened}

-- no refusal and no line; or the refusal's number with its line
abbrev pub ToldOf : Result (Unit {0}) RefusedAt → Opened → Type 0
ToldOf (Ok u) r = (r.refusal ≡ 0) × (r.line ≡ 0)
ToldOf (Err e) r = (r.refusal ≡ number_of e.refusal) × (r.line ≡ e.line)

-- the refusal with its line, and what is left is malformed; or no refusal, and the tables are read as the formula with an empty store
abbrev pub ToldAt : text.Opened → Opened → List ℕ → List ℤ → Type 0
ToldAt (text.refused k n) r cells literals = (r.refusal ≡ k) × (r.line ≡ n) × (valid_at cells literals ≡ false)
ToldAt (text.opened b) r cells literals = (r.refusal ≡ 0) × (r.line ≡ 0) × (read_at cells literals ≡ some (fresh b))

-- "A table of the state shorter than the limits ask is 22": before the text is looked at, and so at no line
pub record OpenedIn (L : Limits) (o : text.Opened) (cells : List ℕ) (literals : List ℤ) (r : Opened) (cells' : List ℕ) (literals' : List ℤ) : Type 0 where
  pub whole : Whole L cells literals → ToldAt o r cells' literals'
  pub short : (Whole L cells literals → ⊥) → (r.refusal ≡ 22) × (r.line ≡ 0) × (valid_at cells' literals' ≡ false)

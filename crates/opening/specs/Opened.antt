-- Opening a text onto two lent tables, under limits of its own. Paper 02, wish 8: "A book is opened with its own limits for numbers and rules, capped at
-- these". "A refused text opens no book": what it leaves is malformed, so that every call on it is 22.
use Rattle.std.specs.Prelude.{ℕ, ◌≡◌, Bool, true, false, List, ℤ, Option, Some, None, Result, Ok, Err}
use Rattle.std.proofs.Math.Option.{some}
use Rattle.qbf.specs.Formula.{Limits}
use Rattle.qbf.specs.Runs.{fresh}
use Rattle.refusal.specs.declared.Refusal.TheVariants as refusal
use Rattle.refusal.specs.Refusal.{number_of}
use Rattle.layout.specs.Opening.{Opened, refused, opened}
use Rattle.state_parts.specs.declared.limits.Layout.{Layout}
use Rattle.state_parts.specs.Layout.{limits_in}
use Rattle.state_parts.specs.Initial.{empty_under}
use Rattle.state_parts.specs.Parts.{read_at, valid_at, Whole}
use Rattle.opening.specs.declared.text.RefusedAt.{RefusedAt}

-- what a text opens: the tables read as its formula with an empty store; or the refusal with its line, and what is left is malformed
abbrev pub AnsweredAt : Opened → Result (Unit {0}) RefusedAt → List ℕ → List ℤ → Type 0
AnsweredAt (refused k n) (Ok u) cells literals = ⊥
AnsweredAt (refused k n) (Err r) cells literals = (number_of r.refusal ≡ k) × (r.line ≡ n) × (valid_at cells literals ≡ false)
AnsweredAt (opened b) (Ok u) cells literals = read_at cells literals ≡ some (fresh b)
AnsweredAt (opened b) (Err r) cells literals = ⊥

-- "A table of the state shorter than the limits ask is 22": before the text is looked at, and so at no line
pub record OpenedAt (L : Limits) (o : Opened) (cells : List ℕ) (literals : List ℤ) (r : Result (Unit {0}) RefusedAt) (cells' : List ℕ) (literals' : List ℤ) : Type 0 where
  pub whole : Whole L cells literals → AnsweredAt o r cells' literals'
  pub short : (Whole L cells literals → ⊥) → (r ≡ Err (record { refusal = refusal.Malformed; line = 0 })) × (valid_at cells' literals' ≡ false)

-- whether both tables hold every part
abbrev pub WholeTold : Limits → List ℕ → List ℤ → Bool → Type 0
WholeTold L cells literals true = Whole L cells literals
WholeTold L cells literals false = Whole L cells literals → ⊥

-- the empty state, or none where a table is too short
abbrev pub PreparedAt : Limits → List ℕ → List ℤ → Option Layout → List ℕ → Type 0
PreparedAt L cells literals None cells' = (Whole L cells literals → ⊥) × (valid_at cells' literals ≡ false)
PreparedAt L cells literals (Some l) cells' = Whole L cells literals × (limits_in l ≡ L) × (read_at cells' literals ≡ some (empty_under L))

-- what is left where a text is refused
abbrev pub ClosedFor : Result (Unit {0}) RefusedAt → List ℕ → List ℕ → Type 0
ClosedFor (Ok u) cells cells' = cells' ≡ cells
ClosedFor (Err r) cells cells' = (literals : List ℤ) → valid_at cells' literals ≡ false

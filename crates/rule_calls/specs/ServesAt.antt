-- What a call owes on a state in two lent tables: what `ServesBy` says, of the state read under its own limits.
use Rattle.std.specs.Prelude.{ℕ, ◌≡◌, List, [], ℤ, Result}
use Rattle.std.proofs.Math.Option.{some}
use Rattle.refusal.specs.declared.Refusal.{Refusal}
use Rattle.refusal.specs.Refusal.{fault_in}
use Rattle.qbf.specs.Calls.{Call}
use Rattle.qbf.specs.Demands.{AfterSearch, refusal_of}
use Rattle.serving.specs.Serves.{Said, said, said_of, out_of, next_of}
use Rattle.state_parts.specs.Parts.{read_at}

-- the call c on the state of two tables was answered by a and left them as given last
pub record ServesAt (cells : List ℕ) (literals : List ℤ) (c : Call) (a : Said) (cells' : List ℕ) (literals' : List ℤ) : Type 0 where
  pub answered : a ≡ said_of (out_of (read_at cells literals) c)
  pub next : read_at cells' literals' ≡ next_of (read_at cells literals) c
  -- "A refusal returns .. the state as given .. Only 21 differs", and 34: every cell of it
  pub kept : (n : ℕ) → refusal_of (out_of (read_at cells literals) c).reply ≡ some n → (AfterSearch n → ⊥) → (cells' ≡ cells) × (literals' ≡ literals)

-- the answer of a call without a search, in the paper's numbers
abbrev pub change_said : Result Unit Refusal → Said
change_said r = said (fault_in r) 0 0 0 []

-- What an answer in plain numbers says.
use Rattle.std.specs.Prelude.{ℕ, ◌≡◌, List, []}
use Rattle.std.proofs.Math.Option.{Option, none, some}
use Rattle.serving.specs.Serves.{Said, said, said_with, number, fault_of}
use Rattle.closest_call.specs.declared.Nearest.{Nearest}
use Rattle.closest_call.specs.Nearest.{nearest_said}
use Rattle.reply_numbers.specs.declared.Reply.{Reply}
use Rattle.reply_numbers.specs.declared.Closest.{Closest}

-- with the bytes of the card table; a refusal of 0 is none
abbrev pub reply_said : Reply → List ℕ → Said
reply_said r table = said (fault_of r.refusal) r.verdict r.lines r.visits table

-- a refused call returns no reading
abbrev pub unless_refused : Option ℕ → List ℕ → List ℕ
unless_refused none bytes = bytes
unless_refused (some n) bytes = []

-- with the bytes of the card table and those of the reading
abbrev pub closest_said : Closest → List ℕ → List ℕ → Said
closest_said r table bytes = said_with (fault_of r.refusal) 0 r.lines r.visits table (unless_refused (fault_of r.refusal) bytes) r.differs

-- the numbers of a closest reading
pub record ClosestTold (found : Nearest) (r : Closest) : Type 0 where
  pub refusal : r.refusal ≡ number (nearest_said found.told 0 0 [] []).refusal
  pub differs : r.differs ≡ (nearest_said found.told 0 0 [] []).differs
  pub lines : r.lines ≡ found.lines
  pub visits : r.visits ≡ found.visits

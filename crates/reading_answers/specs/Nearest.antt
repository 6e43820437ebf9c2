-- The card that a closest reading was found on, or its refusal; and the reading itself.
use Rattle.std.specs.Prelude.{ℕ, ◌≡◌, Result, Ok, Err, List, ℤ, length, take}
use Rattle.std.proofs.Math.Option.{Option}
use Rattle.qbf.specs.Calls.{closest, State as Read}
use Rattle.layout.specs.Words.{Bytes}
use Rattle.serving.specs.Serves.{said_of, out_of}
use Rattle.refusal.specs.declared.Refusal.{Refusal}
use Rattle.closest_call.specs.Nearest.{nearest_said}
use Rattle.closest_call.specs.declared.Nearest.{Nearest}
use Rattle.card_answers.specs.declared.names.Names.{Names}
use Rattle.card_answers.specs.Lines.{NamesRead}

-- "whose lines the table then holds" (paper 02, wish 9)
abbrev pub card_found : Result ℕ Refusal → ℕ → Result ℕ Refusal
card_found (Ok d) n = Ok n
card_found (Err r) n = Err r

-- what was found is what a closest reading asks for, on what was read: the reading stands first in the bytes
pub record NearestOn (m : Names) (n : Nearest) (reading : Bytes) : Type 0 where
  pub read : Option Read
  pub names : NamesRead read m
  pub ceiling : ℕ
  pub on : List ℤ
  pub off : List ℤ
  pub table : Bytes
  pub said : nearest_said n.told n.lines n.visits table (take m.free reading) ≡ said_of (out_of read (closest ceiling (length table) on off))

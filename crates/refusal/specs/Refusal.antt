-- The number of each refusal, "Refusals from the input" and "Refusals from the calls"; 0 is none.
use Rattle.std.specs.Prelude.{ℕ, Option, Some, None, Result, Ok, Err}
use Rattle.std.proofs.Math.Option.{none, some}
use Rattle.std.proofs.Math.Option as fault
use Rattle.refusal.specs.declared.Refusal.{Refusal}
use Rattle.refusal.specs.declared.Refusal.TheVariants as refusal

abbrev pub number_of : Refusal → ℕ
number_of refusal.NotInLayout = 1
number_of refusal.Edition = 2
number_of refusal.NumberRange = 3
number_of refusal.DeclaredTwice = 4
number_of refusal.Undeclared = 5
number_of refusal.Repeated = 6
number_of refusal.RuleLength = 7
number_of refusal.NotFree = 8
number_of refusal.TextTooLong = 9
number_of refusal.RulesFull = 20
number_of refusal.TooManyLines = 21
number_of refusal.Malformed = 22
number_of refusal.Miscounted = 30
number_of refusal.TableTooShort = 31
number_of refusal.NoRule = 32
number_of refusal.TooManyFree = 33
number_of refusal.Stopped = 34
number_of refusal.NoLine = 35
number_of refusal.NoPage = 36
number_of refusal.StoppedByShare = 37
number_of refusal.NoBook = 38
number_of refusal.TagRange = 39
number_of refusal.TagLost = 40

abbrev pub number_if : Option Refusal → ℕ
number_if None = 0
number_if (Some r) = number_of r

-- What refuses, as the definitions tell it: the number, or none.
abbrev pub fault_in : {T : Type 0} → Result T Refusal → fault.Option ℕ
fault_in (Ok t) = none
fault_in (Err r) = some (number_of r)

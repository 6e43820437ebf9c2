-- No two refusals have the same number.
use Prim.Native.Nat.{ℕ, zero, suc}
use mathlib.Core.Path.{◌≡◌, refl, sym, ap, ◌∙◌}
use mathlib.Core.List.{List, [], ◌∷◌}
use native.Mathlib.Omega.{arith}
use Rattle.refusal.specs.declared.Refusal.{Refusal}
use Rattle.refusal.specs.declared.Refusal.TheVariants as refusal
use Rattle.refusal.specs.Refusal.{number_of}

-- the refusal at a place of a list, and the last one behind it
abbrev nth : List Refusal → ℕ → Refusal
nth [] k = refusal.TagLost
nth (r ∷ rs) zero = r
nth (r ∷ rs) (suc k) = nth rs k

-- by their numbers; where none has that number, the one before it
abbrev by_number : List Refusal
by_number =
    refusal.NotInLayout ∷ refusal.NotInLayout ∷ refusal.Edition ∷ refusal.NumberRange ∷ refusal.DeclaredTwice ∷ refusal.Undeclared ∷ refusal.Repeated ∷ refusal.RuleLength ∷ refusal.NotFree ∷ refusal.TextTooLong ∷ refusal.TextTooLong ∷ refusal.TextTooLong ∷ refusal.TextTooLong ∷ refusal.TextTooLong ∷ refusal.TextTooLong ∷ refusal.TextTooLong ∷ refusal.TextTooLong ∷ refusal.TextTooLong ∷ refusal.TextTooLong ∷ refusal.TextTooLong ∷ refusal.RulesFull ∷ refusal.TooManyLines ∷ refusal.Malformed ∷ refusal.Malformed ∷ refusal.Malformed ∷ refusal.Malformed ∷ refusal.Malformed ∷ refusal.Malformed ∷ refusal.Malformed ∷ refusal.Malformed ∷ refusal.Miscounted ∷ refusal.TableTooShort ∷ refusal.NoRule ∷ refusal.TooManyFree ∷ refusal.Stopped ∷ refusal.NoLine ∷ refusal.NoPage ∷ refusal.StoppedByShare ∷ refusal.NoBook ∷ refusal.TagRange ∷ []

-- a number tells its refusal
named : (r : Refusal) → nth by_number (number_of r) ≡ r
named refusal.NotInLayout = refl
named refusal.Edition = refl
named refusal.NumberRange = refl
named refusal.DeclaredTwice = refl
named refusal.Undeclared = refl
named refusal.Repeated = refl
named refusal.RuleLength = refl
named refusal.NotFree = refl
named refusal.TextTooLong = refl
named refusal.RulesFull = refl
named refusal.TooManyLines = refl
named refusal.Malformed = refl
named refusal.Miscounted = refl
named refusal.TableTooShort = refl
named refusal.NoRule = refl
named refusal.TooManyFree = refl
named refusal.Stopped = refl
named refusal.NoLine = refl
named refusal.NoPage = refl
named refusal.StoppedByShare = refl
named refusal.NoBook = refl
named refusal.TagRange = refl
named refusal.TagLost = refl

pub number_apart : (r s : Refusal) → number_of r ≡ number_of s → r ≡ s
number_apart r s e = sym (named r) ∙ ap (nth by_number) e ∙ named s

-- 0 is none
pub number_some : (r : Refusal) → number_of r ≡ 0 → ⊥
number_some r e = let one : number_of r ≡ 1 = ap number_of (sym (named r) ∙ ap (nth by_number) e) in omega (arith, e, one)

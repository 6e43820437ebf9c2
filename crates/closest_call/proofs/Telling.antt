-- What is told of the closest reading of lines, by what the search over them found.
use Prim.Native.Nat.{ℕ, ◌≤◌}
use native.Mathlib.Omega.{arith}
use mathlib.Core.Path.{◌≡◌, refl, sym, ap, ◌∙◌, subst}
use mathlib.Core.List.{List, ◌++◌}
use mathlib.Core.Option.{Option, none, some}
use lib.ListN.{length, take, drop, length-append, length-drop}
use lib.Seq.{take_at}
use Rattle.qbf.specs.Card.{zero_table}
use Rattle.qbf.specs.Closest.{Found}
use Rattle.serving.specs.Serves.{Said, said, said_with}
use Rattle.closest.specs.Table.{answer_of, reading_after}
use Rattle.std.specs.Prelude.{Some, None}
use Rattle.std.specs.Prelude.{Option as Maybe}
use Rattle.closest_call.specs.Nearest.{nearest_said, returned, found_said}
use Rattle.std.specs.Prelude.{Result, Ok, Err}
use Rattle.refusal.specs.declared.Refusal.{Refusal}

abbrev number_in : Maybe ℕ → ℕ
number_in (Some d) = d
number_in None = 0

abbrev IsReading : Maybe ℕ → Type 0
IsReading (Some d) = Unit {0}
IsReading None = ⊥

pub found_told : (o : Option Found) {d : ℕ} (n k : ℕ) (tb old : List ℕ) {new : List ℕ} {a : Said} → Some d ≡ answer_of o → new ≡ reading_after o old → a ≡ said_with none 0 n k tb new d → a ≡ found_said o n k tb
found_told none n k tb old e is told = absurd (subst IsReading e tt)
found_told (some r) n k tb old e is told = told ∙ (λ i. said_with none 0 n k tb (is i) (ap number_in e i))

pub none_told : (o : Option Found) (n k : ℕ) (tb : List ℕ) {zeros : List ℕ} {a : Said} → None ≡ answer_of o → zeros ≡ zero_table (length tb) → a ≡ said (some 35) 0 0 k zeros → a ≡ found_said o n k tb
none_told none n k tb e z told = told ∙ ap (said (some 35) 0 0 k) z
none_told (some r) n k tb e z told = absurd (subst IsReading (sym e) tt)

-- the reading that is said is the one returned
pub said_returned : (q : Result ℕ Refusal) (n k : ℕ) (tb bytes : List ℕ) → (nearest_said q n k tb bytes).reading ≡ returned q bytes
said_returned (Ok d) n k tb bytes = refl
said_returned (Err m) n k tb bytes = refl

-- a part written over the front of a list, the rest kept
module _ (f : ℕ) (part old : List ℕ) (long : length (part ++ drop f old) ≡ length old) (fits : f ≤ length old) where
  part_long : length part ≡ f
  part_long = omega (arith, length-append part (drop f old), length-drop f old, long, fits)

  pub part_front : take f (part ++ drop f old) ≡ part
  part_front = take_at part (drop f old) f part_long

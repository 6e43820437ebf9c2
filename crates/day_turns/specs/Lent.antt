-- What the tables show that a day is lent.
use Rattle.std.specs.Prelude.{ℕ, ◌≡◌, List, length, replicate}
use Rattle.std.proofs.Math.Option.{Option, none}
use Rattle.qbf.specs.Formula.{Formula}
use Rattle.days.specs.Accounts.{books}
use Rattle.days.specs.Day.{loaded}
use Rattle.day_text.specs.Program.{Served}

-- ---- the tables that a day is lent, in whatever form
-- they are as long as the eight places ask; and what they show of a day
pub record Shown (M : Type 0) : Type 1 where
  pub Lent : M → Type 0
  pub Serves : M → Served → Type 0

-- the day of a total that has begun to be loaded, with the books that its texts gave so far
pub record Loads {M : Type 0} (T : Shown M) (m : M) (total : ℕ) (bs : List (Option Formula)) : Type 0 where
  pub lent : T.Lent m
  pub all : length bs ≡ books
  pub serves : T.Serves m (record { day = loaded total bs; shown = replicate books none })

-- What the code answers for a place: the visits that a call there may use, or a refusal. Paper 02, wish 12.
use Rattle.std.specs.Prelude.{ℕ, ◌-◌, Bool, true, false, cond, not, ◌||◌, List, leb, Result, Ok, Err}
use Rattle.refusal.specs.declared.Refusal.{Refusal}
use Rattle.refusal.specs.declared.Refusal.TheVariants.{NoBook, Malformed}
use Rattle.days.specs.Accounts.{overspent, allowance, charged}
use Rattle.days.specs.Day.{outside}

-- "a place without a book, or outside 1 to 8, is 38, before all else. Next, a state whose visits used and still owed together exceed T is 22."
-- The place has a book (true) or not.
abbrev pub share_of : ℕ → List ℕ → ℕ → Bool → Result ℕ Refusal
share_of T us place book = cond (not book || outside place) (Err NoBook) (cond (overspent T us) (Err Malformed) (Ok (allowance T us (place - 1))))

-- a share has room for so many visits
abbrev pub allows_of : Result ℕ Refusal → ℕ → Bool
allows_of (Ok m) v = leb v m
allows_of (Err n) v = false

-- the accounts after a call at a place with a book: its visits are charged where the place may use them
abbrev pub settled : ℕ → List ℕ → ℕ → ℕ → List ℕ
settled T us place v = cond (allows_of (share_of T us place true) v) (charged us (place - 1) v) us

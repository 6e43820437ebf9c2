-- The closest reading: the reading on a card that differs from a given full reading in the fewest flags. Paper 02, wish 9.
use Rattle.std.specs.Prelude.{ℕ, ◌+◌, ◌≤◌, ◌≡◌, ◌⊎◌, Bool, true, cond, List, [], ◌∷◌, ◌++◌, length, drop, leb}
use Rattle.std.specs.Bool.{beq}
use Rattle.std.proofs.Math.Option.{Option, none, some}
use Rattle.qbf.specs.Formula.{Node, Prefix, Clause}
use Rattle.qbf.specs.Truth.{Verdict, truth}
use Rattle.qbf.specs.Card.{Mem, lies_on, Before}

-- "differs from it in the fewest flags": one flag counts 1 where the values differ
abbrev pub differs : Bool → Bool → ℕ
differs a b = cond (beq a b) 0 1

-- The Hamming distance of a node to a full reading: the flags set in the node whose value the reading does not have. Of two full
-- readings it is the number of flags in which they differ.
abbrev pub distance : Node → Node → ℕ
distance [] t = 0
distance (a ∷ s) [] = 0
distance (a ∷ s) (b ∷ t) = differs a b + distance s t

-- A reading with its number.
pub record Found : Type 0 where
  pub reading : Node
  pub number : ℕ

-- The reading nearest to t on one line s: the line's set flags, and t's values elsewhere.
abbrev pub nearest : Node → Node → Node
nearest s t = s ++ drop (length s) t

abbrev pub on_line : Node → Node → Found
on_line s t = record { reading = nearest s t; number = distance s t }

-- "Among equals, the first": of an earlier line's reading and the later lines' one, the earlier where its number is no larger
abbrev pub nearer : Found → Option Found → Found
nearer a none = a
nearer a (some b) = cond (leb a.number b.number) a b

-- "Given a full reading, return a reading on the swap card that differs from it in the fewest flags, and that number": over the lines
-- of a card in order, of the first line with the least number. "a card with no line gives 35": none.
abbrev pub closest_in : List Node → Node → Option Found
closest_in [] t = none
closest_in (s ∷ ls) t = some (nearer (on_line s t) (closest_in ls t))

-- ---- what the answer owes
-- Of the readings that are On, r is the one that the wish asks for, the reading t given:
-- "a reading on the swap card that differs from it in the fewest flags, and that number. Every other reading on the card differs in at
-- least as many. Among equals, the first by off before on in place order is returned. A reading on the card returns itself with 0."
pub record IsClosest (On : Node → Type 0) (t : Node) (r : Found) : Type 0 where
  pub full : length r.reading ≡ length t
  pub on : On r.reading
  pub number : r.number ≡ distance r.reading t
  pub fewest : (u : Node) → length u ≡ length t → On u → r.number ≤ distance u t
  pub first : (u : Node) → length u ≡ length t → On u → distance u t ≡ r.number → (u ≡ r.reading) ⊎ Before r.reading u
  pub itself : On t → r ≡ record { reading = t; number = 0 }

-- the same of an answer: none where no reading is On
abbrev pub ClosestOwed : (Node → Type 0) → Node → Option Found → Type 0
ClosestOwed On t none = (u : Node) → length u ≡ length t → On u → ⊥
ClosestOwed On t (some r) = IsClosest On t r

-- a reading on a card with these lines
abbrev pub OnCard : List Node → Node → Type 0
OnCard ls u = (s : Node) × Mem s ls × (lies_on s u ≡ true)

-- a reading for which the quantified rules are true (p true), or are not
abbrev pub HasTruth : Verdict → Prefix → List Clause → Node → Type 0
HasTruth p D R u = truth D R u ≡ p

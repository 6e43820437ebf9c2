-- What a call owes for every state and argument: its answer, its next state and the card table are those of the
-- definitions' step. Every call's contract is `ServesBy`; the demands are theorems about lists of calls that meet it (Demands.antt).
use Rattle.std.specs.Prelude.{ℕ, zero, suc, ◌≡◌, List, [], ◌∷◌, map, length}
use Rattle.std.proofs.Math.Option.{Option, none, some}
use Rattle.qbf.specs.Calls.{Call, Reply, done, refused, swap, keep, unsettled, lines, card_refused, found, Answer, answer, refusal, State as Read, step}
use Rattle.qbf.specs.Card.{byte_of}
use Rattle.qbf.specs.Demands.{AfterSearch, refusal_of}

-- An answer as code gives it: the refusal, if there is one; keep 1, swap 2 or unsettled 3 (0 where the call is no query, or is refused); the
-- count of the lines; the visits; the bytes of the card table (none where the call makes no card); and of the closest reading its bytes in place
-- order, off 1 or on 2, with the number of variables in which it differs (none and 0 where no reading is returned).
pub record Said : Type 0 where
  pub refusal : Option ℕ
  pub verdict : ℕ
  pub lines : ℕ
  pub visits : ℕ
  pub table : List ℕ
  pub reading : List ℕ
  pub differs : ℕ

abbrev pub said_with : Option ℕ → ℕ → ℕ → ℕ → List ℕ → List ℕ → ℕ → Said
said_with r v n k tb s d = record { refusal = r; verdict = v; lines = n; visits = k; table = tb; reading = s; differs = d }

-- an answer without a reading
abbrev pub said : Option ℕ → ℕ → ℕ → ℕ → List ℕ → Said
said r v n k tb = said_with r v n k tb [] 0

abbrev pub said_reply : Reply → ℕ → Said
said_reply done k = said none 0 0 k []
said_reply (refused n) k = said (some n) 0 0 k []
said_reply swap k = said none 2 0 k []
said_reply keep k = said none 1 0 k []
said_reply unsettled k = said none 3 0 k []
said_reply (lines ls tb) k = said none 0 (length ls) k tb
said_reply (card_refused n tb) k = said (some n) 0 0 k tb
said_reply (found ls tb r) k = said_with none 0 (length ls) k tb (map byte_of r.reading) r.number

abbrev pub said_of : Answer → Said
said_of a = said_reply a.reply a.visits

-- A refusal as one number, as functions and the exported structs hand it on: 0 where there is none.
abbrev pub number : Option ℕ → ℕ
number none = 0
number (some n) = n

-- the refusal that such a number tells
abbrev pub fault_of : ℕ → Option ℕ
fault_of zero = none
fault_of (suc n) = some (suc n)

-- an answer whose refusal went through such a number; law `served_told`: no answer of a call is changed by it, for no refusal is 0
abbrev pub told : Said → Said
told a = said_with (fault_of (number a.refusal)) a.verdict a.lines a.visits a.table a.reading a.differs

-- ---- one call
-- A state that does not read is malformed: "22 the state is malformed". A state that reads is judged by the definitions' step.
abbrev pub out_of : Option Read → Call → Answer
out_of none c = answer (refusal 22 c) 0
out_of (some y) c = (step y c).out

abbrev pub next_of : Option Read → Call → Option Read
next_of none c = none
next_of (some y) c = some (step y c).state

-- How a state stands in tables, and how it is read, are parameters.
module _ {X : Type 0} (read : X → Option Read) where
  -- the call c on the state x was answered by a and left the state x'
  pub record ServesBy (x : X) (c : Call) (a : Said) (x' : X) : Type 0 where
    pub answered : a ≡ said_of (out_of (read x) c)
    pub next : read x' ≡ next_of (read x) c
    -- "A refusal returns .. the state as given .. Only 21 differs", and 34 and 35: every cell of it
    pub kept : (n : ℕ) → refusal_of (out_of (read x) c).reply ≡ some n → (AfterSearch n → ⊥) → x' ≡ x

  -- ---- a list of calls, each on the state that the last one returned
  abbrev pub ServedBy : X → List Call → List Said → Type 0
  ServedBy x [] [] = Unit {0}
  ServedBy x [] (a ∷ qs) = ⊥
  ServedBy x (c ∷ cs) [] = ⊥
  ServedBy x (c ∷ cs) (a ∷ qs) = (x' : X) × ServesBy x c a x' × ServedBy x' cs qs

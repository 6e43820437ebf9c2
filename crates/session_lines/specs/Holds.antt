-- "A page never shows lines that no longer hold": the card answered last is one of the rules that stand.
use Rattle.std.specs.Prelude.{ℕ, suc, ◌≡◌, List, [], ◌∷◌, length}
use Rattle.std.proofs.Math.Option.{Option, none, some}
use Rattle.qbf.specs.Formula.{Formula, Node}
use Rattle.qbf.specs.Truth.{Verdict, free_variables}
use Rattle.qbf.specs.Calls.{State}
use Rattle.qbf.specs.Demands.{CardShown}
use Rattle.layout.specs.Words.{Bytes}
use Rattle.sessions.specs.Session.{request_of, Card, turn_of}

-- a card or keep card: its lines are right for these rules (demand 2), the table's bytes are theirs, and so are the counts
pub record HeldBy (b : Formula) (z : Card) : Type 0 where
  pub verdict : Verdict
  pub size : ℕ
  pub them : List Node
  pub shown : CardShown verdict b.prefix b.clauses size them z.table
  pub lines : z.lines ≡ length them
  pub free : z.free ≡ free_variables b.prefix

-- no card holds, too
abbrev pub Holds : Formula → Option Card → Type 0
Holds b none = Unit {0}
Holds b (some z) = HeldBy b z

-- the state and the card after some lines, numbered from n on
pub record Left : Type 0 where
  pub state : State
  pub shown : Option Card

abbrev pub after : ℕ → State → Option Card → List Bytes → Left
after n x z [] = record { state = x; shown = z }
after n x z (l ∷ ls) =
    let t = turn_of x z n (request_of l) in
    after (suc n) t.state t.shown ls

-- Rows of computed tables: a state, calls on it, and what the two runs answer.
use Prim.Native.Nat.{ℕ}
use mathlib.Core.List.{List, map}
use lib.IntN.{pos, neg_ℤ}
use Rattle.qbf.specs.Formula.{Limits, paper, Quantifier, Prefix, Literal, Clause, Formula}
use Rattle.qbf.specs.Learning.{Store}
use Rattle.qbf.specs.Ceiling.{highest_ceiling}
use Rattle.qbf.specs.Calls.{Call, Reply, clause_of}
use Rattle.qbf.specs.Runs.{plain_run, learning_run, fresh}

-- a number is on, its negation off
unfoldable pub y : ℕ → Literal
y k = pos k

unfoldable pub n : ℕ → Literal
n k = neg_ℤ (pos k)

-- declarations of one kind
unfoldable pub dec : Quantifier → List ℕ → Prefix
dec κ ks = map (λ k. record { number = k; quantifier = κ }) ks

-- a formula under limits with its clauses as they are, or put into place order
unfoldable pub held : Limits → Prefix → List Clause → Formula
held L ds rs = record { limits = L; prefix = ds; clauses = rs }

unfoldable pub under : Limits → Prefix → List (List Literal) → Formula
under L ds rs = record { limits = L; prefix = ds; clauses = map (clause_of ds) rs }

unfoldable pub opened : Prefix → List (List Literal) → Formula
opened ds rs = under paper ds rs

-- calls under the highest ceiling, which no row's search needs
unfoldable pub query : List Literal → List Literal → Call
query on off = Call.query highest_ceiling on off

unfoldable pub card : ℕ → Call
card size = Call.card highest_ceiling size

unfoldable pub keep_card : ℕ → Call
keep_card size = Call.keep_card highest_ceiling size

unfoldable pub closest : ℕ → List Literal → List Literal → Call
closest size on off = Call.closest highest_ceiling size on off

-- calls on a freshly opened formula: the replies of both runs, and the visits of each
pub record Row : Type 0 where
  pub formula : Formula
  pub calls : List Call
  pub replies : List Reply
  pub learning : List ℕ
  pub plain : List ℕ

unfoldable pub row : Formula → List Call → List Reply → List ℕ → List ℕ → Row
row b cs rs ls ps = record { formula = b; calls = cs; replies = rs; learning = ls; plain = ps }

pub record Ran : Type 0 where
  pub plain_replies : List Reply
  pub learned_replies : List Reply
  pub learning : List ℕ
  pub plain : List ℕ

unfoldable pub ran : Row → Ran
ran r =
    let p = plain_run r.formula r.calls in
    let l = learning_run (fresh r.formula) r.calls in
    record { plain_replies = map (λ t. t.reply) p; learned_replies = map (λ t. t.reply) l; learning = map (λ t. t.visits) l; plain = map (λ t. t.visits) p }

unfoldable pub expected : Row → Ran
expected r = record { plain_replies = r.replies; learned_replies = r.replies; learning = r.learning; plain = r.plain }

-- calls on a given state, which no list of calls need reach: the replies and the visits of the learning run
pub record Given : Type 0 where
  pub formula : Formula
  pub store : Store
  pub calls : List Call
  pub replies : List Reply
  pub visits : List ℕ

unfoldable pub given : Formula → Store → List Call → List Reply → List ℕ → Given
given b st cs rs vs = record { formula = b; store = st; calls = cs; replies = rs; visits = vs }

pub record Gave : Type 0 where
  pub replies : List Reply
  pub visits : List ℕ

unfoldable pub gave : Given → Gave
gave r =
    let l = learning_run (record { formula = r.formula; store = r.store }) r.calls in
    record { replies = map (λ t. t.reply) l; visits = map (λ t. t.visits) l }

unfoldable pub wanted : Given → Gave
wanted r = record { replies = r.replies; visits = r.visits }

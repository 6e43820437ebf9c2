-- The records of the learned clauses under a search: how many clauses stood when each was stored. All clauses that one search learns have one
-- record, so that only their count matters: the code leaves the records alone while it searches, and writes them once.
use Rattle.std.specs.Prelude.{ℕ, zero, suc, ◌-◌, ◌≤◌, ◌≡◌, List, length}
use Rattle.qbf.specs.Formula.{paper, Prefix}
use Rattle.qbf.specs.Learning.{Store, push}
use Rattle.tables.specs.Shelves.{newest_of, StoreShown}

-- m records of n more, of which `most` may stand
unfoldable pub grown : ℕ → ℕ → ℕ → List ℕ → List ℕ
grown most n zero ks = ks
grown most n (suc m) ks = grown most n m (push most n ks)

-- the count of clauses during a search, and the records before it
pub record Ledger : Type 0 where
  pub clauses : ℕ
  pub before : List ℕ

-- the records when the newest learned clause has that number: those before the search were numbered first
abbrev pub records_at : Ledger → ℕ → List ℕ
records_at g m = grown paper.constraints g.clauses (m - length g.before) g.before

-- the shelves show a store, and the ledger its records
pub record StoreKept (D : Prefix) (g : Ledger) (st : Store) (cs cl qs ql : List ℕ) : Type 0 where
  pub shown : StoreShown D st cs cl qs ql
  pub since : length g.before ≤ newest_of cl
  pub records : st.records ≡ records_at g (newest_of cl)

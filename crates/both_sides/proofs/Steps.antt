-- Both sides of a node: what step 5 gives, by the verdicts of the two.
use Prim.Native.Nat.{ℕ, suc, ◌≤◌}
use native.Mathlib.Omega.{arith}
use mathlib.Core.Path.{◌≡◌, refl, sym, ap, subst, ◌∙◌}
use mathlib.Core.Bool.{Bool, true, false, cond}
use mathlib.Core.List.{List}
use lib.ListN.{length}
use Rattle.qbf.specs.Formula.{paper, Quantifier, Prefix, Clause, Node}
use Rattle.qbf.specs.Truth.{Outcome, DecidedNode, decided, mixed}
use Rattle.qbf.specs.Learning.{Polarity, Constraint, Store, constraints, push, mentions, resolvent, resolve, last_place, LearningResult}
use Rattle.qbf.specs.Calls.{in_order}
use Rattle.tables.specs.Codes.{codes}
use Rattle.tables.specs.Shelves.{entries_of, newest_of}
use Rattle.tables.specs.Records.{Ledger, StoreKept}
use Rattle.tables.proofs.Records.{ledger_joined}
use Rattle.node.specs.declared.Verdict.{Verdict}
use Rattle.node.specs.declared.Verdict.TheVariants.{Yes, No, Mixed}
use Rattle.node.specs.declared.answer.Answer.{Answer}
use Rattle.both_sides.specs.declared.both.Step.TheVariants as step
use Rattle.search_entry.specs.Entry.{entry_at}
use Rattle.search_entry.specs.declared.bounds.Bounds.{Bounds}
use Rattle.node.specs.Node.{bounds_of, stored_by, entry_of, mixed_of, rebound_of, is_of, Reads, Ended, onward_of, resolvent_of, Fits, Joined, Grown}
use Rattle.node.specs.Step.{alone}
use Rattle.both_sides.specs.Step.{step_of, joined_of, stored_of, JoinedSides, OfSide}

-- ---- the steps differ
on_mixed : step.On ≡ step.Mixed → ⊥
on_mixed e = let z : ◌≡◌ {A = ℕ} 0 1 = cc in omega arith

on_clauses : step.On ≡ step.Clauses → ⊥
on_clauses e = let z : ◌≡◌ {A = ℕ} 0 1 = cc in omega arith

on_cubes : step.On ≡ step.Cubes → ⊥
on_cubes e = let z : ◌≡◌ {A = ℕ} 0 1 = cc in omega arith

mixed_clauses : step.Mixed ≡ step.Clauses → ⊥
mixed_clauses e = let z : ◌≡◌ {A = ℕ} 0 1 = cc in omega arith

mixed_cubes : step.Mixed ≡ step.Cubes → ⊥
mixed_cubes e = let z : ◌≡◌ {A = ℕ} 0 1 = cc in omega arith

clauses_cubes : step.Clauses ≡ step.Cubes → ⊥
clauses_cubes e = let z : ◌≡◌ {A = ℕ} 0 1 = cc in omega arith

-- ---- constraints of one polarity
abbrev side_of : Polarity → Verdict
side_of true = Yes
side_of false = No

polar_of : (c : Polarity) {w : Verdict} → w ≡ side_of c → is_of true w ≡ c
polar_of true e = ap (is_of true) e
polar_of false e = ap (is_of true) e

reads : (D : Prefix) (c : Polarity) (cs : List ℕ) (e : Constraint) (o : Outcome Constraint) → o ≡ decided c e → cs ≡ codes D e → Reads D (side_of c) cs o
reads D true cs e o h k = (e, h, k)
reads D false cs e o h k = (e, h, k)

-- the learned constraints of that side
pub stored_by_lem : (c : Polarity) {w : Verdict} → w ≡ side_of c → (cs qs : List ℕ) → stored_by w cs qs ≡ cond c qs cs
stored_by_lem true e cs qs = ap (λ (v : Verdict). stored_by v cs qs) e
stored_by_lem false e cs qs = ap (λ (v : Verdict). stored_by v cs qs) e

-- the store with other constraints of one polarity, the clauses with their records
abbrev pub put : Polarity → List Constraint → List ℕ → Store → Store
put true es ks st = record { clauses = st.clauses; records = st.records; cubes = es }
put false es ks st = record { clauses = es; records = ks; cubes = st.cubes }

-- a clause that is stored has the count of clauses as its record
abbrev recorded_of : Prefix → List Clause → ℕ → Constraint → Store → List ℕ
recorded_of D R p e st = cond (mentions D p e) (push paper.constraints (length R) st.records) st.records

-- both sides of the polarity c, where the on side is not enough
module _ (D : Prefix) (R : List Clause) (s : Node) (st : Store) (k : ℕ) (e₀ e₁ : Constraint) (c : Polarity) where
  abbrev lone : LearningResult
  lone = record { outcome = decided c e₁; store = st; visits = k }

  abbrev same : LearningResult
  same = cond (mentions D (suc (length s)) e₁) (resolve paper D R s c e₀ e₁ st k) lone

  same_outcome : same.outcome ≡ decided c (joined_of D (suc (length s)) c e₀ e₁)
  same_outcome = by (mentions D (suc (length s)) e₁)
    where
      by : (m : Bool) → (cond m (resolve paper D R s c e₀ e₁ st k) lone).outcome ≡ decided c (cond m (resolvent D (suc (length s)) c e₀ e₁) e₁)
      by true = refl
      by false = refl

same_store : (D : Prefix) (R : List Clause) (s : Node) (st : Store) (k : ℕ) (e₀ e₁ : Constraint) (c : Polarity)
    → (same D R s st k e₀ e₁ c).store ≡ put c (stored_of D (suc (length s)) c e₀ e₁ (constraints c st)) (recorded_of D R (suc (length s)) e₁ st) st
same_store D R s st k e₀ e₁ c = by c (mentions D (suc (length s)) e₁)
  where
    by : (v : Polarity) (m : Bool)
        → (cond m (resolve paper D R s v e₀ e₁ st k) (lone D R s st k e₀ e₁ v)).store
        ≡ put v (cond m (push paper.constraints (resolvent D (suc (length s)) v e₀ e₁) (constraints v st)) (constraints v st)) (cond m (push paper.constraints (length R) st.records) st.records) st
    by true true = refl
    by true false = refl
    by false true = refl
    by false false = refl

module _ (D : Prefix) (R : List Clause) (κ : Quantifier) (s : Node) (st : Store) (k : ℕ) (cs₀ cs₁ : List ℕ) (a o : Outcome Constraint) where
  abbrev result : LearningResult
  result = onward_of D R κ s a o st k

  mixed_step : (v w : Verdict) {x : Bool} → x ≡ alone w κ → step_of v w x ≡ step.Mixed → Reads D v cs₀ a → Reads D w cs₁ o
      → (ds : List DecidedNode) × (result ≡ record { outcome = mixed ds; store = st; visits = k })
  mixed_step Yes Yes {x = true} h e p q = absurd (on_mixed e)
  mixed_step Yes Yes {x = false} h e p q = absurd (mixed_cubes (sym e))
  mixed_step Yes No {x = true} h e p q = absurd (on_mixed e)
  mixed_step Yes No {x = false} h e (e₀, p, z₀) (e₁, q, z₁) = rw (p, q, ← h) (_, refl)
  mixed_step Yes Mixed h e (e₀, p, z₀) (ds, q) = rw (p, q) (_, refl)
  mixed_step No Yes {x = true} h e p q = absurd (on_mixed e)
  mixed_step No Yes {x = false} h e (e₀, p, z₀) (e₁, q, z₁) = rw (p, q, ← h) (_, refl)
  mixed_step No No {x = true} h e p q = absurd (on_mixed e)
  mixed_step No No {x = false} h e p q = absurd (mixed_clauses (sym e))
  mixed_step No Mixed h e (e₀, p, z₀) (ds, q) = rw (p, q) (_, refl)
  mixed_step Mixed w h e (ds, p) q = rw p (_, refl)

  on_step : (v w : Verdict) {x : Bool} → x ≡ alone w κ → step_of v w x ≡ step.On → Reads D v cs₀ a → Reads D w cs₁ o
      → Reads D w cs₁ result.outcome × (st ≡ result.store)
  on_step Yes Yes {x = true} h e (e₀, p, z₀) (e₁, q, z₁) = rw (p, q, ← h) ((e₁, refl, z₁), refl)
  on_step Yes Yes {x = false} h e p q = absurd (on_cubes (sym e))
  on_step Yes No {x = true} h e (e₀, p, z₀) (e₁, q, z₁) = rw (p, q, ← h) ((e₁, refl, z₁), refl)
  on_step Yes No {x = false} h e p q = absurd (on_mixed (sym e))
  on_step Yes Mixed h e p q = absurd (on_mixed (sym e))
  on_step No Yes {x = true} h e (e₀, p, z₀) (e₁, q, z₁) = rw (p, q, ← h) ((e₁, refl, z₁), refl)
  on_step No Yes {x = false} h e p q = absurd (on_mixed (sym e))
  on_step No No {x = true} h e (e₀, p, z₀) (e₁, q, z₁) = rw (p, q, ← h) ((e₁, refl, z₁), refl)
  on_step No No {x = false} h e p q = absurd (on_clauses (sym e))
  on_step No Mixed h e p q = absurd (on_mixed (sym e))
  on_step Mixed w h e p q = absurd (on_mixed (sym e))

  -- both sides have the polarity c, and the codes of constraints
  pub record Same (c : Polarity) (w : Verdict) : Type 0 where
    pub first : Constraint
    pub second : Constraint
    pub side : w ≡ side_of c
    pub off : a ≡ decided c first
    pub on : o ≡ decided c second
    pub off_codes : cs₀ ≡ codes D first
    pub on_codes : cs₁ ≡ codes D second
    pub gives : result ≡ same D R s st k first second c

  pub cubes_step : (v w : Verdict) {x : Bool} → x ≡ alone w κ → step_of v w x ≡ step.Cubes → Reads D v cs₀ a → Reads D w cs₁ o → Same true w
  cubes_step Yes Yes {x = true} h e p q = absurd (on_cubes e)
  cubes_step Yes Yes {x = false} h e (e₀, p, z₀) (e₁, q, z₁) = record { first = e₀; second = e₁; side = refl; off = p; on = q; off_codes = z₀; on_codes = z₁; gives = rw (p, q, ← h) }
  cubes_step Yes No {x = true} h e p q = absurd (on_cubes e)
  cubes_step Yes No {x = false} h e p q = absurd (mixed_cubes e)
  cubes_step Yes Mixed h e p q = absurd (mixed_cubes e)
  cubes_step No Yes {x = true} h e p q = absurd (on_cubes e)
  cubes_step No Yes {x = false} h e p q = absurd (mixed_cubes e)
  cubes_step No No {x = true} h e p q = absurd (on_cubes e)
  cubes_step No No {x = false} h e p q = absurd (clauses_cubes e)
  cubes_step No Mixed h e p q = absurd (mixed_cubes e)
  cubes_step Mixed w h e p q = absurd (mixed_cubes e)

  pub clauses_step : (v w : Verdict) {x : Bool} → x ≡ alone w κ → step_of v w x ≡ step.Clauses → Reads D v cs₀ a → Reads D w cs₁ o → Same false w
  clauses_step Yes Yes {x = true} h e p q = absurd (on_clauses e)
  clauses_step Yes Yes {x = false} h e p q = absurd (clauses_cubes (sym e))
  clauses_step Yes No {x = true} h e p q = absurd (on_clauses e)
  clauses_step Yes No {x = false} h e p q = absurd (mixed_clauses e)
  clauses_step Yes Mixed h e p q = absurd (mixed_clauses e)
  clauses_step No Yes {x = true} h e p q = absurd (on_clauses e)
  clauses_step No Yes {x = false} h e p q = absurd (mixed_clauses e)
  clauses_step No No {x = true} h e p q = absurd (on_clauses e)
  clauses_step No No {x = false} h e (e₀, p, z₀) (e₁, q, z₁) = record { first = e₀; second = e₁; side = refl; off = p; on = q; off_codes = z₀; on_codes = z₁; gives = rw (p, q, ← h) }
  clauses_step No Mixed h e p q = absurd (mixed_clauses e)
  clauses_step Mixed w h e p q = absurd (mixed_clauses e)

  -- ---- the answer, where the store stays
  module _ (v : Verdict) (on : Answer) {x : Bool} (enough : x ≡ alone on.verdict κ) (p : Reads D v cs₀ a) (q : Reads D on.verdict cs₁ o) {g : Ledger} {cs cl qs ql : List ℕ} (shown : StoreKept D g st cs cl qs ql) where
    pub joined_mixed : step_of v on.verdict x ≡ step.Mixed → (cls up : List ℕ) → Joined D g result (mixed_of on) cls up cs cl qs ql
    joined_mixed e cls up =
        let m = mixed_step v on.verdict enough e p q in
        record { verdict = (m.0, ap (λ (r : LearningResult). r.outcome) m.1); stored = rw m.1 shown }

    pub joined_on : step_of v on.verdict x ≡ step.On → (cls up : List ℕ) → cs₁ ≡ entry_of on cls cs qs up → Joined D g result on cls up cs cl qs ql
    joined_on e cls up z =
        let m = on_step v on.verdict enough e p q in
        record { verdict = rw (← z) m.0; stored = rw (← m.1) shown }

  -- ---- the answer r, where both sides have the polarity c
  module _ (c : Polarity) (on : Answer) (both : Same c on.verdict) (at : ℕ) (long : length s ≡ at) where
    -- what the two outcomes say of the constraints
    pub same_short : Fits D (resolvent_of D (suc at) a o) → Fits D (resolvent D (suc at) c both.first both.second)
    same_short short = rw (both.off, both.on) at short

    pub off_ended : Ended D (suc at) a → (in_order D 0 both.first ≡ true) × (last_place D both.first ≤ suc at)
    off_ended h = rw both.off at h

    pub on_ended : Ended D (suc at) o → (in_order D 0 both.second ≡ true) × (last_place D both.second ≤ suc at)
    on_ended h = rw both.on at h

    -- the outcome and the store
    same_verdict : (w : Verdict) (up : List ℕ) {rows : List (List ℕ)} {n m : ℕ} → w ≡ on.verdict
        → JoinedSides D (suc at) c both.first both.second (constraints c st) up rows n m
        → Reads D w up result.outcome
    same_verdict w up v j = rw (v, both.side) (reads D c up (joined_of D (suc at) c both.first both.second) result.outcome (ap (λ (x : LearningResult). x.outcome) both.gives ∙ same_outcome D R s st k both.first both.second c ∙ rw long) j.up)

    same_stored : result.store ≡ put c (stored_of D (suc at) c both.first both.second (constraints c st)) (recorded_of D R (suc at) both.second st) st
    same_stored = ap (λ (x : LearningResult). x.store) both.gives ∙ same_store D R s st k both.first both.second c ∙ rw long

  -- the constraints are stored among the clauses, or among the cubes
  module _ (on r : Answer) (at : ℕ) (long : length s ≡ at) (cls up : List ℕ) {g : Ledger} {cs cl qs ql : List ℕ} (ruled : g.clauses ≡ length R) (shown : StoreKept D g st cs cl qs ql) (verdict : r.verdict ≡ on.verdict) where
    pub joined_clauses : (both : Same false on.verdict) (cs' cl' : List ℕ)
        → JoinedSides D (suc at) false both.first both.second st.clauses (entry_at (bounds_of r) cls cs' up) (entries_of cs' cl') (newest_of cl) (newest_of cl')
        → Joined D g result r cls up cs' cl' qs ql
    joined_clauses both cs' cl' j = record {
      verdict =
          subst (λ (x : List ℕ). Reads D r.verdict (entry_at (bounds_of r) cls x up) result.outcome)
          (sym (stored_by_lem false (verdict ∙ both.side) cs' qs))
          (same_verdict false on both at long r.verdict (entry_at (bounds_of r) cls cs' up) verdict j);
      stored =
          let w = ledger_joined g (newest_of cl) (mentions D (suc at) both.second) ruled shown.since shown.records j.numbered in
          rw (same_stored false on both at long) (record { shown = record { clauses = j.stored; cubes = shown.shown.cubes }; since = w.0; records = w.1 });
    }

    pub joined_cubes : (both : Same true on.verdict) (qs' ql' : List ℕ)
        → JoinedSides D (suc at) true both.first both.second st.cubes (entry_at (bounds_of r) cls qs' up) (entries_of qs' ql') (newest_of ql) (newest_of ql')
        → Joined D g result r cls up cs cl qs' ql'
    joined_cubes both qs' ql' j = record {
      verdict =
          subst (λ (x : List ℕ). Reads D r.verdict (entry_at (bounds_of r) cls x up) result.outcome)
          (sym (stored_by_lem true (verdict ∙ both.side) cs qs'))
          (same_verdict true on both at long r.verdict (entry_at (bounds_of r) cls qs' up) verdict j);
      stored = rw (same_stored true on both at long) (record { shown = record { clauses = shown.shown.clauses; cubes = j.stored }; since = shown.since; records = shown.records });
    }

  -- ---- what joining says of the two constraints, where both sides have the polarity c: their constraints of that polarity are after in `cells` and `links`
  module _ (c : Polarity) (on r : Answer) (at : ℕ) (long : length s ≡ at) (cls up : List ℕ) {g : Ledger} {cs cl qs ql : List ℕ} (ruled : g.clauses ≡ length R) (shown : StoreKept D g st cs cl qs ql)
      (both : Same c on.verdict) (codes_are : cs₁ ≡ entry_of on cls cs qs up) (off_ends : Ended D (suc at) a) (on_ends : Ended D (suc at) o) (fits : Fits D (resolvent_of D (suc at) a o)) (cells links : List ℕ)
      (join : (e f : Constraint) → cs₀ ≡ codes D e → entry_at (bounds_of on) cls (cond c qs cs) up ≡ codes D f → in_order D 0 e ≡ true → in_order D 0 f ≡ true → last_place D e ≤ suc at → last_place D f ≤ suc at
      → Fits D (resolvent D (suc at) (is_of true on.verdict) e f)
      → JoinedSides D (suc at) (is_of true on.verdict) e f (constraints c st) (entry_at (bounds_of r) cls cells up) (entries_of cells links) (newest_of (cond c ql cl)) (newest_of links)) where
    sides_joined : JoinedSides D (suc at) c both.first both.second (constraints c st) (entry_at (bounds_of r) cls cells up) (entries_of cells links) (newest_of (cond c ql cl)) (newest_of links)
    sides_joined =
        let fst = off_ended c on both at long off_ends in
        let snd = on_ended c on both at long on_ends in
        subst (λ (v : Bool). JoinedSides D (suc at) v both.first both.second (constraints c st) (entry_at (bounds_of r) cls cells up) (entries_of cells links) (newest_of (cond c ql cl)) (newest_of links))
        (polar_of c both.side)
        (join both.first both.second both.off_codes
        (sym (ap (λ (x : List ℕ). entry_at (bounds_of on) cls x up) (stored_by_lem c both.side cs qs)) ∙ sym codes_are ∙ both.on_codes)
        fst.0 snd.0 fst.1 snd.1
        (subst (λ (v : Bool). Fits D (resolvent D (suc at) v both.first both.second)) (sym (polar_of c both.side)) (same_short c on both at long fits)))

    pub onward_joined : r.verdict ≡ on.verdict → Joined D g result r cls up (cond c cs cells) (cond c cl links) (cond c cells qs) (cond c links ql)
    onward_joined verdict = by c both sides_joined
      where
        by : (v : Polarity) (same : Same v on.verdict)
            → JoinedSides D (suc at) v same.first same.second (constraints v st) (entry_at (bounds_of r) cls cells up) (entries_of cells links) (newest_of (cond v ql cl)) (newest_of links)
            → Joined D g result r cls up (cond v cs cells) (cond v cl links) (cond v cells qs) (cond v links ql)
        by true same j = joined_cubes on r at long cls up ruled shown verdict same cells links j
        by false same j = joined_clauses on r at long cls up ruled shown verdict same cells links j

pub side_same : (on : Answer) → OfSide on on
side_same on = record { counts = record { budget = refl; lines = refl }; verdict = refl }

pub side_at_lem : (on : Answer) (b : Bounds) → OfSide on (rebound_of on b)
side_at_lem on b = record { counts = record { budget = refl; lines = refl }; verdict = refl }

-- no row more
pub grown_none : (cl ql : List ℕ) → Grown cl ql cl ql
grown_none cl ql = record { clauses = omega arith; cubes = omega arith }

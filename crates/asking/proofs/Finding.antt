-- The search on the tables of a checked state, as the definitions have it: under the state's own limits, on its formula and its learned constraints.
use Prim.Native.Nat.{ℕ, ◌-◌, ◌≤◌}
use native.Mathlib.Omega.{arith}
use mathlib.Core.Path.{◌≡◌, refl, sym, ap, ◌∙◌, subst}
use mathlib.Core.Bool.{true}
use mathlib.Core.List.{List, []}
use lib.ListN.{length, get_or, drop}
use lib.Dec.{leb, eqb}
use lib.IntN.{ℤ}
use Rattle.std.specs.Prelude.{Some, None}
use Rattle.std.specs.Prelude.{Option as Maybe}
use Rattle.qbf.specs.Formula.{Limits, paper, highest, most_free, Quantifier, Prefix, Clause, Node, quantifiers}
use Rattle.qbf.specs.Truth.{free_variables}
use Rattle.qbf.specs.Learning.{Store, LearningResult, learning_search}
use Rattle.qbf.specs.Ceiling.{Attempt, finished, stopped, search_within}
use Rattle.theory.proofs.Rest.{Rest, rest_up}
use Rattle.theory.proofs.Stores.{ShapedStore}
use Rattle.theory.proofs.ShapedSearch.{shaped_visit}
use Rattle.theory.proofs.Ceiling.{Within, search_within_lem}
use Rattle.theory.proofs.WellFormed.{StateFacts, shaped_store, clauses_rising}
use Rattle.tables.specs.Views.{Numbers, Places, Kinds, Values, Standing}
use Rattle.lent_rows.specs.Held.{Held}
use Rattle.state.specs.Derived.{Quantified}
use Rattle.inner.specs.Formed.{Formed}
use Rattle.tables.specs.Records.{Ledger}
use Rattle.cover.specs.Cover.{Covers}
use Rattle.state.specs.State.{State}
use Rattle.state.specs.Reading.{own, record_at, records_of, prefix_in, formula_under, store_under, state_under, accepted}
use Rattle.state.proofs.Listing.{listing_length}
use Rattle.search_entry.specs.declared.Learned.{Learned}
use Rattle.searching.specs.declared.given.Given.{Given}
use Rattle.searching.specs.declared.task.Task.{Task}
use Rattle.searching.specs.declared.run.Found.{Found}
use Rattle.searching.specs.Run.{store_left, clauses_in, store_in, LeftOn, FoundBy, Ran}
use Rattle.asking.specs.declared.checked.Checked.{Checked}
use Rattle.asking.specs.Answered.{state_of, GivenOf}
use Rattle.search.proofs.Limits.{search_within_same}
use Rattle.asking.proofs.Accepting.{good, numbers_shown, quantified, numbers_low, clauses_held, learned_held, cubes_held, formed, free_small, free_within}
use Rattle.asking.proofs.Asking.{LeftAs, Here}

-- of its tables
module _ (n m : ℕ) (x : State) (acc : accepted (own n m) x ≡ true) (low : n ≤ highest.numbers) (few_clauses : m ≤ highest.clauses) where
  abbrev L : Limits
  L = own n m

  abbrev D : Prefix
  D = prefix_in x

  abbrev R : List Clause
  R = (formula_under L x).clauses

  abbrev st : Store
  st = store_under L x

  abbrev ks : List ℕ
  ks = records_of x.learned_clause_sizes

  abbrev led : Ledger
  led = record { clauses = length R; before = ks }

  -- what is learned is well formed, where the search ends and where it stops
  shaped : (k : ℕ) (qs : List Quantifier) (s : Node) → Rest D s qs → ShapedStore L D (store_left (search_within L D R k qs s st))
  shaped k qs s rest = by (search_within L D R k qs s st) within
    where
      good_state : StateFacts (state_under L x)
      good_state = good n m x acc low few_clauses

      one : 1 ≤ L.constraints
      one = omega arith

      within : Within (ShapedStore L D) k (learning_search L D R qs s st) (search_within L D R k qs s st)
      within =
          search_within_lem L D R (ShapedStore L D) (λ rs t. Rest D t rs) (λ κ rs t c h. rest_up D t c κ rs h)
          (λ rs t z h g. (shaped_visit L one D R (clauses_rising (formula_under L x) good_state.formula_ok) eqb rs t z h g).store_ok) k qs s st rest good_state.store_ok

      by : (t : Attempt) → Within (ShapedStore L D) k (learning_search L D R qs s st) t → ShapedStore L D (store_left t)
      by (finished q) w =
          subst (λ (r : LearningResult). ShapedStore L D r.store) (sym w.0)
          (shaped_visit L one D R (clauses_rising (formula_under L x) good_state.formula_ok) leb qs s st rest good_state.store_ok).store_ok
      by (stopped z) w = w.1

  module _ {g : Given} (numbers : g.numbers.now ≡ x.numbers) (clauses : clauses_in g ≡ R) (stored : store_in g ks ≡ st) (learned : get_or g.learned_clauses.sizes.now 0 0 ≡ get_or x.learned_clause_sizes 0 0)
      {k : Task} {r : Found} {table table' : List ℕ} (ran : Ran g k table r table') (s : Node) (ps : Places D k.places.now) (kinds : Kinds D k.kinds.now) (vs : Values D s k.values.now)
      (long : length s ≡ k.at) (frees : k.free ≡ free_variables D) (cov : Covers k.free table []) where
    abbrev qs : List Quantifier
    qs = drop k.at (quantifiers D)

    abbrev t : Attempt
    t = search_within L D R (k.budget - 1) qs s st

    found : FoundBy D led st t k r table'
    found =
        subst (λ (u : Attempt). FoundBy D led st u k r table') (sym (search_within_same L paper refl D R (k.budget - 1) qs s st))
        (subst (λ (z : Store). FoundBy D led z (search_within paper D R (k.budget - 1) qs s z) k r table') stored
        (subst (λ (S : List Clause). FoundBy D (record { clauses = length S; before = ks }) (store_in g ks) (search_within paper D S (k.budget - 1) qs s (store_in g ks)) k r table') clauses
        (ran.found D s ks
        (record {
          numbered = subst (Numbers D) (sym numbers) (numbers_shown n m x acc low few_clauses);
          placed = ps;
          kinded = kinds;
          valued = vs;
          formed =
              subst (λ (S : List Clause). Formed D S (store_in g ks)) (sym clauses) (subst (λ (z : Store). Formed D R z) (sym stored) (formed n m x acc low few_clauses));
          recorded = listing_length (record_at x.learned_clause_sizes) 0 (get_or x.learned_clause_sizes 0 0) ∙ sym learned;
          long = long;
          frees = frees;
        })
        cov)))

    left_as : (o : Maybe Learned) → LeftOn D led st (store_left t) o → LeftAs L x (store_left t) o
    left_as None h = h
    left_as (Some l) h = record { kept = h; formed = shaped_store L D (store_left t) (shaped (k.budget - 1) qs s (ap (λ (i : ℕ). drop i (quantifiers D)) long)) }

    pub here_found : Here n m x k.yes t k.free k.budget r.answer r.learned table'
    here_found = record { tried = found.tried; left = left_as r.learned found.left }

-- ---- of a checked state as the code has it
module _ (c : Checked) where
  pub frees_of : {r : ℕ} → ((D : Prefix) → Numbers D c.parts.variables.numbers.now → Quantified D c.parts.variables.levels.now c.parts.variables.kinds.now → r ≡ free_variables D)
      → (r ≡ free_variables (prefix_in (state_of c))) × (r ≤ most_free) × (r ≤ get_or c.parts.variables.numbers.now 0 0)
  frees_of f =
      let e = f (prefix_in (state_of c)) (numbers_shown c.numbers c.clauses (state_of c) c.accepted c.few_numbers c.few_clauses) (quantified c.numbers c.clauses (state_of c) c.accepted c.few_numbers c.few_clauses) in
      (e, free_small c.numbers c.clauses (state_of c) c.accepted c.few_numbers c.few_clauses e, free_within c.numbers c.clauses (state_of c) c.accepted c.few_numbers c.few_clauses e)

  pub few_of : get_or c.parts.variables.numbers.now 0 0 ≤ highest.numbers
  few_of = numbers_low c.numbers c.clauses (state_of c) c.accepted c.few_numbers c.few_clauses

  pub clauses_of : Held paper.literals highest.clauses c.parts.clauses.flat.now c.parts.clauses.sizes.now
  clauses_of = clauses_held c.numbers c.clauses (state_of c) c.accepted c.few_numbers c.few_clauses

  pub learned_of : Held c.numbers paper.constraints c.parts.learned_clauses.flat.now c.parts.learned_clauses.sizes.now
  learned_of = learned_held c.numbers c.clauses (state_of c) c.accepted c.few_numbers c.few_clauses

  pub cubes_of : Held c.numbers paper.constraints c.parts.learned_cubes.flat.now c.parts.learned_cubes.sizes.now
  cubes_of = cubes_held c.numbers c.clauses (state_of c) c.accepted c.few_numbers c.few_clauses

  pub narrow_of : c.numbers ≤ highest.numbers
  narrow_of = c.few_numbers

  pub search_of : {g : Given} → GivenOf c g → {k : Task} {r : Found} {table table' : List ℕ} → Ran g k table r table' → (s : Node)
      → Places (prefix_in (state_of c)) k.places.now → Kinds (prefix_in (state_of c)) k.kinds.now → Values (prefix_in (state_of c)) s k.values.now
      → length s ≡ k.at → k.free ≡ free_variables (prefix_in (state_of c)) → Covers k.free table []
      → Here c.numbers c.clauses (state_of c) k.yes
      (search_within (own c.numbers c.clauses) (prefix_in (state_of c)) (formula_under (own c.numbers c.clauses) (state_of c)).clauses (k.budget - 1) (drop k.at (quantifiers (prefix_in (state_of c)))) s (store_under (own c.numbers c.clauses) (state_of c)))
      k.free k.budget r.answer r.learned table'
  search_of gv ran s ps ks vs long frees cov =
      here_found c.numbers c.clauses (state_of c) c.accepted c.few_numbers c.few_clauses gv.numbers gv.clauses gv.stored gv.learned ran s ps ks vs long frees cov

-- rows that are held stand
pub held_standing : {w most : ℕ} {flat : List ℤ} {sizes : List ℕ} → Held w most flat sizes → Standing w flat sizes
held_standing h = record { counted = h.counted; inside = h.inside }

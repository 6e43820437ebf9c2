-- The search on the tables of a state: what its parts show, and what its result says of the learned constraints that are left.
use Prim.Native.Nat.{ℕ, suc, ◌-◌, ◌^◌, ◌≤◌, ◌<◌}
use native.Mathlib.Omega.{arith}
use mathlib.Core.Path.{◌≡◌, refl, sym, ap, ◌∙◌, subst}
use mathlib.Core.Bool.{Bool, true, false}
use mathlib.Core.List.{List, [], map}
use mathlib.Core.Option.{Option, none, some}
use lib.ListN.{length, get_or, drop}
use lib.Dec.{leb}
use Rattle.qbf.specs.Formula.{paper, highest, Quantifier, Prefix, Clause, Node, quantifiers}
use Rattle.qbf.specs.Truth.{Outcome, decided, free_variables}
use Rattle.qbf.specs.Learning.{Constraint, Store, leaf, first_dead}
use Rattle.qbf.specs.Ceiling.{highest_ceiling, Attempt, finished, stopped, settle_within, below_within, search_within}
use Rattle.qbf.specs.Calls.{numbers_are_ok, free_first}
use Rattle.theory.proofs.Basics.{and_left}
use Rattle.tables.specs.Views.{Numbers, Places, Kinds, Values, rows_of}
use Rattle.inner.specs.Formed.{Formed}
use Rattle.tables.specs.Codes.{codes, Statuses, Quantified}
use Rattle.tables.specs.Shelves.{entries_of, newest_of}
use Rattle.tables.specs.Records.{Ledger, StoreKept, records_at}
use Rattle.tables.proofs.Records.{ledger_start}
use Rattle.tables.proofs.Laws.{rows_length}
use Rattle.tables.specs.Matrices.{MatrixShown, RowLength, words_of}
use Rattle.tables.specs.Sets.{Descended}
use Rattle.lent_rows.specs.Held.{Held}
use Rattle.loading_start.specs.Started.{StartShown}
use Rattle.loading_clauses.proofs.Matrix.{matrix_words, row_length}
use Rattle.inner.specs.Inner.{Worded}
use Rattle.cover.specs.Cover.{Covers}
use Rattle.node.specs.Node.{entry_of, Reads}
use Rattle.node.specs.declared.Verdict.{Verdict}
use Rattle.node.specs.declared.Verdict.TheVariants.{Yes, No, Mixed}
use Rattle.node.specs.declared.position.Position.{Position}
use Rattle.node.specs.declared.answer.Answer.{Answer}
use Rattle.std.specs.Prelude.{Some, None}
use Rattle.std.specs.Prelude.{Option as Maybe}
use Rattle.search_entry.specs.declared.Learned.{Learned}
use Rattle.search.proofs.Visiting.{open_alive}
use Rattle.search.specs.Search.{Room, Counts, Followed, Says, Result}
use Rattle.search_start.specs.Start.{Starts, Concludes}
use Rattle.search_start.specs.declared.Start.{Start}
use Rattle.search_start.specs.declared.Start.TheVariants.{No as NoStart, Yes as YesStart, Open}
use Rattle.searching.specs.declared.given.Given.{Given}
use Rattle.searching.specs.declared.task.Task.{Task}
use Rattle.searching.specs.declared.run.Found.{Found}
use Rattle.searching.specs.Run.{Ends, store_left, clauses_in, store_in, clause_count, learned_count, ledger_of, Shown, ended_at, below_start, BelowBy, Below, Opened, OpenedOn, OpenedAs, LeftOn, FoundBy, Ran}

pub ended_few : {w : Verdict} {k n : ℕ} {r : Found} → r ≡ ended_at w k → k ≤ n → (r.answer.lines < 2 ^ 63) × (r.answer.budget ≤ n)
ended_few {w} {k} {n} {r} e h = (omega (arith, ap (λ (a : Found). a.answer.lines) e), omega (arith, h, ap (λ (a : Found). a.answer.budget) e))

-- where a search starts
abbrev pub start_at : (at free budget words : ℕ) → Bool → (held failed : ℕ) → free ≤ highest.numbers → RowLength words → Position
start_at at free budget words p held failed small long = record { at = at; free = free; budget = budget; lines = 0; words = words; yes = p; held = held; failed = failed; few = small; long = long }

pub room : {p : Bool} (cl ql : List ℕ) (at free budget words : ℕ) {held failed : ℕ} {small : free ≤ highest.numbers} {long : RowLength words} → at ≤ highest.numbers
    → newest_of cl ≤ paper.constraints → newest_of ql ≤ paper.constraints → budget ≤ suc highest_ceiling → Room cl ql (start_at at free budget words p held failed small long)
room cl ql at free budget words within learned cubes bounded =
    record { within = within; lines = omega (arith, bounded); clauses = omega (arith, learned, bounded); cubes = omega (arith, cubes, bounded) }

pub few_lines : {p : Bool} (cl ql : List ℕ) (at free budget words : ℕ) {held failed : ℕ} {small : free ≤ highest.numbers} {long : RowLength words} (r : Answer) (cl' ql' : List ℕ) → Counts cl ql (start_at at free budget words p held failed small long) r cl' ql' → budget ≤ suc highest_ceiling
    → (r.lines < 2 ^ 63) × (r.budget ≤ budget)
few_lines cl ql at free budget words r cl' ql' c bounded = (omega (arith, c.lines_fewer, bounded), omega (arith, c.lines_fewer, c.lines_more))

ends : (D : Prefix) (w : Verdict) (cs : List ℕ) (o : Outcome Constraint) → Reads D w cs o → Ends w o
ends D Yes cs o h = (h.0, h.1)
ends D No cs o h = (h.0, h.1)
ends D Mixed cs o h = h

-- numbers that are well formed
pub numbered : {D : Prefix} {R : List Clause} {st : Store} → Formed D R st → numbers_are_ok highest [] D ≡ true
numbered {D} {R} {st} form = and_left (numbers_are_ok highest [] D) (free_first (quantifiers D)) form.prefix_ok

-- the search below an open start node, from what the branch there gives
pub below_shown : {p : Bool} (rows sets : List ℕ) (count words : ℕ) (numbers quantifiers values statuses cs cl qs ql table sat marks : List ℕ) (at free budget : ℕ) (a : Answer)
    (up cs' cl' qs' ql' table' : List ℕ) {held failed : ℕ} {small : free ≤ highest.numbers} {fits : RowLength words}
    → at ≤ get_or numbers 0 0 → words ≡ words_of count
    → ((D : Prefix) (s : Node) → Numbers D numbers → Values D s values → numbers_are_ok highest [] D ≡ true → length s ≡ at → length s ≤ length D → Statuses s statuses)
    → ((D : Prefix) (R : List Clause) (s : Node) → StartShown D R s words at sets statuses → length R ≡ count → Descended D s R words sat marks (length s))
    → ((s : Node) → Statuses s statuses → length s ≡ at → Worded s true held × Worded s false failed)
    → Followed (start_at at free budget words p held failed small fits) a rows sets quantifiers statuses cs cl qs ql table sat marks up cs' cl' qs' ql' table'
    → Below p rows sets count numbers quantifiers values cs cl qs ql table at free budget a cs' cl' qs' ql' table'
below_shown {p} rows sets count words numbers quantifiers values statuses cs cl qs ql table sat marks at free budget a up cs' cl' qs' ql' table' {held} {failed} {small} {fits} within is coded known worded follow =
    record { by = shown }
  where
    shown : (D : Prefix) (R : List Clause) (s : Node) (g : Ledger) (st : Store)
        → Numbers D numbers → Values D s values → Quantified D quantifiers → MatrixShown D R (words_of count) rows sets → length R ≡ count → StoreKept D g st cs cl qs ql → g.clauses ≡ length R
        → Formed D R st → length s ≡ at → free ≡ free_variables D → Covers free table [] → first_dead D s R ≡ none
        → BelowBy p D g (below_start D R at budget s st) free budget a cs' cl' qs' ql' table'
    shown D R s g st ns vs qs_shown m counted stored ruled form long frees cov alive =
        by (below_start D R at budget s st) r.says
      where
        by : (t : Attempt) → Says D g [] t (start_at at free budget words p held failed small fits) a rows up cs' cl' qs' ql' table' → BelowBy p D g t free budget a cs' cl' qs' ql' table'
        by (finished o) h =
            record {
              tried = record { verdict = ends D a.verdict (entry_of a rows cs' qs' up) o.outcome h.verdict; visits = h.visited; left = h.left; covers = h.covers; lines = h.counted };
              stored = h.stored;
            }
        by (stopped z) h = record { tried = h.spent; stored = h.stored }

        inside : at ≤ length D
        inside = omega (arith, within, ns.count)

        statused : Statuses s statuses
        statused = coded D s ns vs (numbered form) long (omega (arith, inside, long))

        matrix : MatrixShown D R words rows sets
        matrix = matrix_words (sym is) m

        r : Result D g [] (below_start D R at budget s st) (start_at at free budget words p held failed small fits) a rows up cs' cl' qs' ql' table'
        r =
            follow.result D s [] R g st
            (record {
              shown = record { quantified = qs_shown; statused = statused; long = long; within = omega (arith, inside, long) };
              formed = form;
              matrix = matrix;
              stored = stored;
              ruled = ruled;
              frees = frees;
              covers = cov;
              counted = refl;
              trues = (worded s statused long).0;
              falses = (worded s statused long).1;
            })
            (record {
              alive = alive;
              known = known D R s (record { clauses = matrix.by_code; values = statused; long = long; inside = inside }) counted;
            })

-- ---- what the tables keep
module _ (x : Given) where
  pub few_numbers : get_or x.numbers.now 0 0 ≤ highest.numbers
  few_numbers = x.few

  pub few_at : {at : ℕ} → at ≤ get_or x.numbers.now 0 0 → at ≤ highest.numbers
  few_at {at} h = omega (arith, h, few_numbers)

  pub row_long : {words n : ℕ} → words ≡ words_of n → n ≡ get_or x.clauses.sizes.now 0 0 → RowLength words
  row_long {words} {n} e q = row_length e (omega (arith, q, x.clauses_held.few))

  pub clauses_held : {n : ℕ} → n ≡ get_or x.numbers.now 0 0 → Held x.clauses.width highest.clauses x.clauses.cells.now x.clauses.sizes.now × (x.clauses.width ≤ paper.literals) × (n ≤ highest.numbers)
  clauses_held {n} e = (x.clauses_held, x.short, omega (arith, e, few_numbers))

  pub learned_held : {n : ℕ} → n ≡ 0 → Held x.learned_clauses.width paper.constraints x.learned_clauses.cells.now x.learned_clauses.sizes.now × (x.learned_clauses.width ≤ highest.numbers) × (n ≡ 0)
  learned_held e = (x.learned_held.0, x.narrow.0, e)

  pub cubes_held : {n : ℕ} → n ≡ 0 → Held x.learned_cubes.width paper.constraints x.learned_cubes.cells.now x.learned_cubes.sizes.now × (x.learned_cubes.width ≤ highest.numbers) × (n ≡ 0)
  cubes_held e = (x.learned_held.1, x.narrow.1, e)

-- the count of the clauses, as it is read
pub below_as : {p : Bool} {rows sets : List ℕ} {n m : ℕ} {numbers quantifiers values cs cl qs ql table : List ℕ} {at free budget : ℕ} {r : Answer} {cs' cl' qs' ql' table' : List ℕ} → n ≡ m
    → Below p rows sets n numbers quantifiers values cs cl qs ql table at free budget r cs' cl' qs' ql' table'
    → Below p rows sets m numbers quantifiers values cs cl qs ql table at free budget r cs' cl' qs' ql' table'
below_as {p} {rows} {sets} {n} {m} {numbers} {quantifiers} {values} {cs} {cl} {qs} {ql} {table} {at} {free} {budget} {r} {cs'} {cl'} {qs'} {ql'} {table'} e h =
    subst (λ (i : ℕ). Below p rows sets i numbers quantifiers values cs cl qs ql table at free budget r cs' cl' qs' ql' table') e h

module _ (x : Given) (k : Task) where
  clauses_counted : length (clauses_in x) ≡ clause_count x
  clauses_counted = rows_length x.clauses.width x.clauses.cells.now x.clauses.sizes.now (clause_count x)

  few_variables : (D : Prefix) → Numbers D x.numbers.now → length D ≤ highest.numbers
  few_variables D ns = omega (arith, ns.count, few_numbers x)

  -- on the tables, from those that are derived of the clauses, and the learned constraints on shelves
  pub opened_shown : {last : ℕ} (rows sets quantifiers quantifiers' table : List ℕ) (r : Answer) (cs cl qs ql cs' cl' qs' ql' table' : List ℕ)
      → ((D : Prefix) → Numbers D x.numbers.now → Kinds D k.kinds.now → numbers_are_ok highest [] D ≡ true → Quantified D quantifiers)
      → quantifiers' ≡ quantifiers → last ≡ get_or x.numbers.now 0 0
      → ((D : Prefix) → Places D k.places.now → Quantified D quantifiers → length D ≤ last → MatrixShown D (clauses_in x) (words_of (clause_count x)) rows sets)
      → newest_of cl ≡ learned_count x
      → ((D : Prefix) → Places D k.places.now → length D ≤ highest.numbers → entries_of cs cl ≡ map (codes D) (rows_of x.learned_clauses.width x.learned_clauses.cells.now x.learned_clauses.sizes.now))
      → ((D : Prefix) → Places D k.places.now → length D ≤ highest.numbers → entries_of qs ql ≡ map (codes D) (rows_of x.learned_cubes.width x.learned_cubes.cells.now x.learned_cubes.sizes.now))
      → Below k.yes rows sets (clause_count x) x.numbers.now quantifiers' k.values.now cs cl qs ql table k.at k.free k.budget r cs' cl' qs' ql' table'
      → Opened x k table r cs' cl' qs' ql' table'
  opened_shown {last} rows sets quantifiers quantifiers' table r cs cl qs ql cs' cl' qs' ql' table' coded same all matrix newest loaded loaded_cubes below =
      record {
        found = λ D s ks h cov opened.
            let few = few_variables D h.numbered in
            let q = coded D h.numbered h.kinded (numbered h.formed) in
            let since : newest_of cl ≡ length ks = newest ∙ sym h.recorded in
            below.by D (clauses_in x) s (ledger_of x ks) (store_in x ks) h.numbered h.valued (subst (Quantified D) (sym same) q)
            (matrix D h.placed q (omega (arith, all, h.numbered.count))) clauses_counted
            (record {
              shown = record { clauses = loaded D h.placed few; cubes = loaded_cubes D h.placed few };
              since = omega (arith, since);
              records = sym (ap (records_at (ledger_of x ks)) since ∙ ledger_start (ledger_of x ks));
            })
            refl h.formed h.long h.frees cov (open_alive D (clauses_in x) leb s (store_in x ks) opened);
      }

  -- ---- the whole search
  module _ (table : List ℕ) where
    -- the start node's own visit is not made
    pub start_stopped : k.budget ≤ 1 → {r : Found} → r ≡ ended_at Mixed 0 → Ran x k table r table
    start_stopped less {r} q =
        subst (λ (z : Found). Ran x k table z table) (sym q)
        (record {
          found = λ D s ks h cov.
              subst
              (λ (n : ℕ). FoundBy D (ledger_of x ks) (store_in x ks) (search_within paper D (clauses_in x) n (drop k.at (quantifiers D)) s (store_in x ks)) k (ended_at Mixed 0) table)
              (sym spent)
              (record { tried = refl; left = refl });
        })
      where
        spent : k.budget - 1 ≡ 0
        spent = omega (arith, less)

    -- it is made
    module _ (made : 2 ≤ k.budget) where
      module _ (D : Prefix) (s : Node) (ks : List ℕ) where
        abbrev Comes : Attempt → Found → List ℕ → Type 0
        Comes t r table' = FoundBy D (ledger_of x ks) (store_in x ks) t k r table'

        abbrev rest : List Quantifier
        rest = drop k.at (quantifiers D)

        found_made : {r : Found} {table' : List ℕ} (o : Option (Outcome Constraint)) → leaf D (clauses_in x) leb s (store_in x ks) ≡ o
            → Comes (settle_within o (below_within paper D (clauses_in x) rest) (k.budget - 2) s (store_in x ks)) r table'
            → Comes (search_within paper D (clauses_in x) (k.budget - 1) rest s (store_in x ks)) r table'
        found_made {r} {table'} o e h =
            subst (λ (n : ℕ). Comes (search_within paper D (clauses_in x) n rest s (store_in x ks)) r table') (sym one_less)
            (subst (λ (z : Option (Outcome Constraint)). Comes (settle_within z (below_within paper D (clauses_in x) rest) (k.budget - 2) s (store_in x ks)) r table') (sym e) h)
          where
            one_less : k.budget - 1 ≡ suc (k.budget - 2)
            one_less = omega (arith, made)

      -- a start node that is decided
      decided_found : (w : Verdict) (b : Bool) → ((e : Constraint) → Ends w (decided b e))
          → ((D : Prefix) (s : Node) (ks : List ℕ) → Shown D s ks x k → (e : Constraint) × (leaf D (clauses_in x) leb s (store_in x ks) ≡ some (decided b e)))
          → {r : Found} → r ≡ ended_at w (k.budget - 1) → Ran x k table r table
      decided_found w b is start {r} q =
          subst (λ (z : Found). Ran x k table z table) (sym q)
          (record {
            found = λ D s ks h cov.
                let c = start D s ks h in
                found_made D s ks (some (decided b c.0)) c.1
                (record {
                  tried = record { verdict = is c.0; visits = omega (arith, made); left = omega (arith, made); covers = cov; lines = refl };
                  left = refl;
                });
          })

      module _ (l : Start)
          (start : (D : Prefix) (s : Node) → Places D k.places.now → Kinds D k.kinds.now → Values D s k.values.now → length s ≡ k.at
          → Concludes D s (clauses_in x) (rows_of x.learned_clauses.width x.learned_clauses.cells.now x.learned_clauses.sizes.now) (rows_of x.learned_cubes.width x.learned_cubes.cells.now x.learned_cubes.sizes.now) l) where
        -- the records decide nothing
        by_start : {m : Start} → l ≡ m → (D : Prefix) (s : Node) (ks : List ℕ) → Shown D s ks x k → Starts m (leaf D (clauses_in x) leb s (store_in x ks))
        by_start e D s ks h =
            subst (λ (m : Start). Starts m (leaf D (clauses_in x) leb s (store_in x ks))) e (start D s h.placed h.kinded h.valued h.long)

        pub start_no : l ≡ NoStart → {r : Found} → r ≡ ended_at No (k.budget - 1) → Ran x k table r table
        start_no e q = decided_found No false (λ c. (c, refl)) (by_start e) q

        pub start_yes : l ≡ YesStart → {r : Found} → r ≡ ended_at Yes (k.budget - 1) → Ran x k table r table
        start_yes e q = decided_found Yes true (λ c. (c, refl)) (by_start e) q

        -- one that is open
        pub start_open : l ≡ Open → (r : Found) (table' : List ℕ) → OpenedAs x k table r table' → Ran x k table r table'
        start_open e r table' h = record { found = λ D s ks shown cov. by r.learned refl h D s ks shown cov }
          where
            by : (o : Maybe Learned) → r.learned ≡ o → OpenedOn x k table r.answer o table' → (D : Prefix) (s : Node) (ks : List ℕ) → Shown D s ks x k → Covers k.free table []
                → FoundBy D (ledger_of x ks) (store_in x ks) (search_within paper D (clauses_in x) (k.budget - 1) (drop k.at (quantifiers D)) s (store_in x ks)) k r table'
            by None q h D s ks shown cov = absurd h
            by (Some d) q h D s ks shown cov =
                let none_yet = by_start e D s ks shown in
                let b = h.found D s ks shown cov none_yet in
                found_made D s ks none none_yet (record { tried = b.tried; left = subst (LeftOn D (ledger_of x ks) (store_in x ks) (store_left (below_start D (clauses_in x) k.at k.budget s (store_in x ks)))) (sym q) b.stored })

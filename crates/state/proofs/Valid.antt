-- A valid state: what its check tests part by part, and what its tables show of the state that is read.
use Prim.Native.Nat.{ℕ, zero, suc, ◌+◌, ◌*◌, ◌≤◌, ◌<◌}
use native.Mathlib.Omega.{arith}
use mathlib.Core.Path.{◌≡◌, refl, sym, ap, ◌∙◌}
use mathlib.Core.Bool.{Bool, true, false, cond, ◌&&◌, false≢true}
use mathlib.Core.List.{List, []}
use mathlib.Core.Option.{none, some}
use lib.ListN.{length, get_or}
use lib.Dec.{leb}
use lib.IntN.{ℤ}
use borrow.Author.Tests.{le-leb, leb-true}
use Rattle.qbf.specs.Formula.{Limits, paper, free, Prefix, Clause, quantifiers, quantifier_at, all}
use Rattle.qbf.specs.Learning.{Constraint}
use Rattle.qbf.specs.Calls.{well_formed, formula_is_ok, limits_are_ok, free_is_ok, prefix_is_ok, numbers_are_ok, free_first, clause_ok, clauses_are_ok, constraint_ok, store_is_ok, records_are_ok}
use Rattle.theory.proofs.Basics.{and_left, and_right, and_both, true_eqb}
use Rattle.theory.proofs.WellFormed.{facts_formula, formula_facts}
use Rattle.tables.specs.Views.{quantifier_code, Numbers, Places, Kinds, Table, rows_of}
use Rattle.tables.proofs.Laws.{rows_length}
use Rattle.state.specs.State.{State}
use Rattle.state.specs.Reading.{listing, at_most, quantifier_of, entry_at, entries, code_at, variable_at, prefix_of, levels_fit, prefix_fits, rows_fit, own, fits_under, record_at, records_of, prefix_in, store_under, state_under, read_under, well_formed_read, valid_under, roomy}
use Rattle.state.specs.Derived.{numbered, Placing, KindsFilled, Quantified, levels_are_ok, Shown, clauses_fine, constraints_fine, records_fine, rows_fine, CheckedUnder}
use Rattle.state.proofs.Listing.{listing_length, listing_at, listing_map, listing_all, listing_most}

-- ---- the prefix of three tables
module _ (ns ls ks : List ℕ) where
  prefix_length : length (prefix_of ns ls ks) ≡ get_or ns 0 0
  prefix_length = listing_length (variable_at ns ls ks) 0 (get_or ns 0 0)

  pub prefix_numbers : Numbers (prefix_of ns ls ks) ns
  prefix_numbers =
      record {
        count = sym prefix_length;
        at = λ i h.
            sym
            (ap (λ l. get_or l i 0) (listing_map (λ d. d.number) (variable_at ns ls ks) 0 (get_or ns 0 0))
            ∙ listing_at (entry_at ns) 0 (get_or ns 0 0) i 0 (omega (arith, h, prefix_length))
            ∙ ap (entry_at ns) (let e : 0 + i ≡ i = omega arith in e));
      }

  code_back : (k : ℕ) → k ≤ 2 → k ≡ quantifier_code (quantifier_of k)
  code_back zero h = refl
  code_back (suc zero) h = refl
  code_back (suc (suc n)) h = omega (arith, h)

  pub prefix_quantified : (L : Limits) → prefix_fits L ns ls ks ≡ true → Quantified (prefix_of ns ls ks) ls ks
  prefix_quantified L e = record { at = λ i h. code_back (code_at ls ks i) (small i (omega (arith, h, prefix_length))) ∙ ap quantifier_code (sym (read i (omega (arith, h, prefix_length)))) }
    where
      codes : at_most 2 (listing (code_at ls ks) 0 (get_or ns 0 0)) ≡ true
      codes =
          and_right
          (at_most L.numbers (listing (entry_at ls) 0 (get_or ns 0 0)))
          (at_most 2 (listing (code_at ls ks) 0 (get_or ns 0 0)))
          (and_left _ _ (and_right (leb (get_or ns 0 0) L.numbers) (levels_fit L ns ls ks) e))

      small : (i : ℕ) → i < get_or ns 0 0 → code_at ls ks i ≤ 2
      small i h =
          let q : 0 + i ≡ i = omega arith in
          leb-true (code_at ls ks i) 2 (ap (λ n. leb (code_at ls ks n) 2) (sym q) ∙ listing_all (λ m. leb m 2) (code_at ls ks) 0 (get_or ns 0 0) codes i h)

      read : (i : ℕ) → i < get_or ns 0 0 → quantifier_at (prefix_of ns ls ks) (suc i) ≡ quantifier_of (code_at ls ks i)
      read i h =
          ap (λ l. get_or l i free) (listing_map (λ d. d.quantifier) (variable_at ns ls ks) 0 (get_or ns 0 0))
          ∙ listing_at (λ j. quantifier_of (code_at ls ks j)) 0 (get_or ns 0 0) i free h
          ∙ ap (λ j. quantifier_of (code_at ls ks j)) (let e : 0 + i ≡ i = omega arith in e)

  module _ (L : Limits) {ok : Bool} {places kinds : List ℕ} (placed : Placing L ns ok places) where
    pub shown_bad : ok ≡ false → Shown L ns ls ks false places kinds
    shown_bad e =
        record {
          said = sym (ap (λ (q : Bool). q && levels_are_ok L ns ls ks) (sym (placed.said (prefix_of ns ls ks) prefix_numbers) ∙ e));
          places_shown = λ q. absurd (false≢true q);
          kinds_shown = λ q. absurd (false≢true q);
        }

    pub shown_end : ok ≡ true → {old : List ℕ} → length places ≡ length old → KindsFilled ns ls ks old kinds → {r : Bool} → r ≡ levels_are_ok L ns ls ks → Shown L ns ls ks r places kinds
    shown_end e long coded s =
        let D : Prefix = prefix_of ns ls ks in
        let P : Places D places = placed.shown e D prefix_numbers in
        let ok_numbers : numbers_are_ok L [] D ≡ true = and_right (leb (length D) L.numbers) (numbers_are_ok L [] D) (sym (placed.said D prefix_numbers) ∙ e) in
        record {
          said = s ∙ sym (ap (λ (q : Bool). q && levels_are_ok L ns ls ks) (sym (placed.said (prefix_of ns ls ks) prefix_numbers) ∙ e));
          places_shown = λ q. P;
          kinds_shown = λ q. coded.shown L D places prefix_numbers ok_numbers P long (prefix_quantified L (and_left (prefix_fits L ns ls ks) (free_first (quantifiers (prefix_of ns ls ks))) (sym s ∙ q)));
        }

-- ---- a flat table
pub rows_table : (stride capacity : ℕ) (flat : List ℤ) (sizes : List ℕ) → rows_fit stride capacity sizes ≡ true → length flat ≡ capacity * stride → suc capacity ≤ length sizes
    → Table stride capacity flat sizes
rows_table w most flat sizes e room counted =
    record {
      room = room;
      counted = counted;
      few = leb-true (get_or sizes 0 0) most (and_left (leb (get_or sizes 0 0) most) (at_most w (entries sizes)) e);
      short = λ k h.
          let q : 0 + k ≡ k = omega arith in
          leb-true (entry_at sizes k) w
          (ap (λ n. leb (entry_at sizes n) w) (sym q) ∙ listing_all (λ m. leb m w) (entry_at sizes) 0 (get_or sizes 0 0) (and_right (leb (get_or sizes 0 0) most) (at_most w (entries sizes)) e) k h);
    }

-- and back: rows that lie within their table fit it
pub table_rows : (stride capacity : ℕ) (flat : List ℤ) (sizes : List ℕ) → Table stride capacity flat sizes → rows_fit stride capacity sizes ≡ true
table_rows w most flat sizes t =
    and_both (leb (get_or sizes 0 0) most) (at_most w (entries sizes)) (le-leb (get_or sizes 0 0) most t.few)
    (listing_most w (entry_at sizes) 0 (get_or sizes 0 0) (λ j a b. t.short j (omega arith)))

-- ---- a state
-- what a test that passes says of a state under the limits L
pub record FactsUnder (L : Limits) (x : State) : Type 0 where
  pub read : read_under L x ≡ some (state_under L x)
  pub formed : well_formed (state_under L x) ≡ true
  pub prefix_fits_lem : prefix_fits L x.numbers x.levels x.kinds ≡ true
  pub clauses_fit : rows_fit L.literals L.clauses x.clause_sizes ≡ true
  pub learned_clauses_fit : rows_fit L.numbers L.constraints x.learned_clause_sizes ≡ true
  pub learned_cubes_fit : rows_fit L.numbers L.constraints x.learned_cube_sizes ≡ true

-- its limits: n numbers and m clauses
module _ (n m : ℕ) (x : State) where
  abbrev L : Limits
  L = own n m

  abbrev p : Bool
  p = prefix_fits L x.numbers x.levels x.kinds

  abbrev a : Bool
  a = rows_fit paper.literals m x.clause_sizes

  abbrev b : Bool
  b = rows_fit n paper.constraints x.learned_clause_sizes

  abbrev c : Bool
  c = rows_fit n paper.constraints x.learned_cube_sizes

  fits_read : fits_under L x ≡ true → read_under L x ≡ some (state_under L x)
  unfolding read_under
  fits_read e = ap (λ (q : Bool). cond q (some (state_under L x)) none) e

  valid_is : valid_under L x ≡ (fits_under L x && well_formed (state_under L x))
  unfolding valid_under read_under
  valid_is = by (fits_under L x)
    where
      by : (q : Bool) → well_formed_read (cond q (some (state_under L x)) none) ≡ (q && well_formed (state_under L x))
      by true = refl
      by false = refl

  pub facts_under : valid_under L x ≡ true → FactsUnder L x
  facts_under e =
      let f : fits_under L x ≡ true = and_left (fits_under L x) (well_formed (state_under L x)) (sym valid_is ∙ e) in
      let g : (p && a && b) ≡ true = and_left (p && a && b) c f in
      record {
        read = fits_read f;
        formed = and_right (fits_under L x) (well_formed (state_under L x)) (sym valid_is ∙ e);
        prefix_fits_lem = and_left p a (and_left (p && a) b g);
        clauses_fit = and_right p a (and_left (p && a) b g);
        learned_clauses_fit = and_right (p && a) b g;
        learned_cubes_fit = and_right (p && a && b) c f;
      }

  pub under_facts : p ≡ true → a ≡ true → b ≡ true → c ≡ true → well_formed (state_under L x) ≡ true → valid_under L x ≡ true
  under_facts h i j k f = valid_is ∙ and_both (fits_under L x) (well_formed (state_under L x)) (and_both (p && a && b) c (and_both (p && a) b (and_both p a h i) j) k) f

  -- ---- its check, part by part
  abbrev D : Prefix
  D = prefix_in x

  abbrev R : List Clause
  R = rows_of paper.literals x.clauses x.clause_sizes

  abbrev C₀ : List Constraint
  C₀ = rows_of n x.learned_clauses x.learned_clause_sizes

  abbrev C₁ : List Constraint
  C₁ = rows_of n x.learned_cubes x.learned_cube_sizes

  abbrev pub numbers_part : Bool
  numbers_part = numbered L D

  abbrev pub levels_part : Bool
  levels_part = levels_are_ok L x.numbers x.levels x.kinds

  abbrev pub clauses_part : Bool
  clauses_part = clauses_fine m D x.clauses x.clause_sizes

  abbrev pub learned_clauses_part : Bool
  learned_clauses_part = constraints_fine n D false x.learned_clauses x.learned_clause_sizes

  abbrev pub learned_cubes_part : Bool
  learned_cubes_part = constraints_fine n D true x.learned_cubes x.learned_cube_sizes

  abbrev pub records_part : Bool
  records_part = records_fine x.clause_sizes x.learned_clause_sizes

  -- each learned clause has a record
  recorded : records_are_ok (length R) (store_under L x) ≡ records_part
  recorded =
      ap (λ (q : Bool). q && at_most (length R) (records_of x.learned_clause_sizes)) (true_eqb (length (records_of x.learned_clause_sizes)) (length C₀) same)
      ∙ ap (λ (i : ℕ). at_most i (records_of x.learned_clause_sizes)) (rows_length paper.literals x.clauses x.clause_sizes (get_or x.clause_sizes 0 0))
    where
      same : length (records_of x.learned_clause_sizes) ≡ length C₀
      same =
          listing_length (record_at x.learned_clause_sizes) 0 (get_or x.learned_clause_sizes 0 0)
          ∙ sym (rows_length n x.learned_clauses x.learned_clause_sizes (get_or x.learned_clause_sizes 0 0))

  pub record Parts : Type 0 where
    pub limits_ok : limits_are_ok L ≡ true
    pub free_ok : free_is_ok D ≡ true
    pub numbers_ok : numbers_part ≡ true
    pub levels_ok : levels_part ≡ true
    pub clauses_ok : clauses_part ≡ true
    pub learned_clauses_ok : learned_clauses_part ≡ true
    pub learned_cubes_ok : learned_cubes_part ≡ true
    pub records_ok : records_part ≡ true

  counted : (w most : ℕ) (flat : List ℤ) (sizes : List ℕ) → rows_fit w most sizes ≡ true → leb (length (rows_of w flat sizes)) most ≡ true
  counted w most flat sizes e = ap (λ (i : ℕ). leb i most) (rows_length w flat sizes (get_or sizes 0 0)) ∙ and_left (leb (get_or sizes 0 0) most) (at_most w (entries sizes)) e

  pub parts_valid : Parts → valid_under L x ≡ true
  parts_valid q = under_facts h i j k (and_both (formula_is_ok (state_under L x).formula) (store_is_ok L D (store_under L x) && records_are_ok (length R) (store_under L x)) formula
      (and_both (store_is_ok L D (store_under L x)) (records_are_ok (length R) (store_under L x)) store (recorded ∙ q.records_ok)))
    where
      h : p ≡ true
      h = and_left p (free_first (quantifiers D)) q.levels_ok

      i : a ≡ true
      i = and_left a (all (clause_ok paper D) R) q.clauses_ok

      j : b ≡ true
      j = and_left b (all (constraint_ok D false) C₀) q.learned_clauses_ok

      k : c ≡ true
      k = and_left c (all (constraint_ok D true) C₁) q.learned_cubes_ok

      prefix : prefix_is_ok L D ≡ true
      prefix =
          and_both (numbers_are_ok L [] D) (free_first (quantifiers D)) (and_right (leb (length D) n) (numbers_are_ok L [] D) q.numbers_ok) (and_right p (free_first (quantifiers D)) q.levels_ok)

      clauses : clauses_are_ok L D R ≡ true
      clauses =
          and_both (leb (length R) m) (all (clause_ok paper D) R) (counted paper.literals m x.clauses x.clause_sizes i) (and_right a (all (clause_ok paper D) R) q.clauses_ok)

      formula : formula_is_ok (state_under L x).formula ≡ true
      formula =
          facts_formula (state_under L x).formula
          (record { limits_ok = q.limits_ok; free_ok = q.free_ok; prefix_ok = prefix; clauses_ok = clauses })

      store : store_is_ok L D (state_under L x).store ≡ true
      store =
          and_both
          (leb (length C₀) paper.constraints && leb (length C₁) paper.constraints && all (constraint_ok D false) C₀)
          (all (constraint_ok D true) C₁)
          (and_both
          (leb (length C₀) paper.constraints && leb (length C₁) paper.constraints)
          (all (constraint_ok D false) C₀)
          (and_both (leb (length C₀) paper.constraints) (leb (length C₁) paper.constraints) (counted n paper.constraints x.learned_clauses x.learned_clause_sizes j) (counted n paper.constraints x.learned_cubes x.learned_cube_sizes k))
          (and_right b (all (constraint_ok D false) C₀) q.learned_clauses_ok))
          (and_right c (all (constraint_ok D true) C₁) q.learned_cubes_ok)

  pub valid_parts : valid_under L x ≡ true → Parts
  valid_parts e =
      record {
        limits_ok = (formula_facts (state_under L x).formula formula).limits_ok;
        free_ok = (formula_facts (state_under L x).formula formula).free_ok;
        numbers_ok = and_both (leb (length D) n) (numbers_are_ok L [] D) few (and_left (numbers_are_ok L [] D) (free_first (quantifiers D)) prefix);
        levels_ok = and_both p (free_first (quantifiers D)) f.prefix_fits_lem (and_right (numbers_are_ok L [] D) (free_first (quantifiers D)) prefix);
        clauses_ok = and_both a (all (clause_ok paper D) R) f.clauses_fit (and_right (leb (length R) m) (all (clause_ok paper D) R) (formula_facts (state_under L x).formula formula).clauses_ok);
        learned_clauses_ok = and_both b (all (constraint_ok D false) C₀) f.learned_clauses_fit (and_right (leb (length C₀) paper.constraints && leb (length C₁) paper.constraints) (all (constraint_ok D false) C₀) (and_left (leb (length C₀) paper.constraints && leb (length C₁) paper.constraints && all (constraint_ok D false) C₀) (all (constraint_ok D true) C₁) store));
        learned_cubes_ok = and_both c (all (constraint_ok D true) C₁) f.learned_cubes_fit (and_right (leb (length C₀) paper.constraints && leb (length C₁) paper.constraints && all (constraint_ok D false) C₀) (all (constraint_ok D true) C₁) store);
        records_ok = sym recorded ∙ and_right (store_is_ok L D (store_under L x)) (records_are_ok (length R) (store_under L x)) kept;
      }
    where
      f : FactsUnder L x
      f = facts_under e

      formula : formula_is_ok (state_under L x).formula ≡ true
      formula = and_left (formula_is_ok (state_under L x).formula) (store_is_ok L D (store_under L x) && records_are_ok (length R) (store_under L x)) f.formed

      kept : (store_is_ok L D (store_under L x) && records_are_ok (length R) (store_under L x)) ≡ true
      kept = and_right (formula_is_ok (state_under L x).formula) (store_is_ok L D (store_under L x) && records_are_ok (length R) (store_under L x)) f.formed

      prefix : prefix_is_ok L D ≡ true
      prefix = (formula_facts (state_under L x).formula formula).prefix_ok

      store : store_is_ok L D (state_under L x).store ≡ true
      store = and_left (store_is_ok L D (store_under L x)) (records_are_ok (length R) (store_under L x)) kept

      few : leb (length D) n ≡ true
      few =
          ap (λ (i : ℕ). leb i n) (prefix_length x.numbers x.levels x.kinds)
          ∙ and_left (leb (get_or x.numbers 0 0) n) (levels_fit L x.numbers x.levels x.kinds) f.prefix_fits_lem

  -- two answers that are true of each other are one
  alike : (r q : Bool) → (q ≡ true → r ≡ true) → (r ≡ true → q ≡ true) → r ≡ q
  alike true q f g = sym (g refl)
  alike false true f g = f refl
  alike false false f g = refl

  abbrev rows_part : Bool
  rows_part = rows_fine n m D x

  -- the answer is the rows' where limits and prefix are well formed
  rows_valid : limits_are_ok L ≡ true → free_is_ok D ≡ true → (numbers_part && levels_part) ≡ true → {r : Bool} → r ≡ rows_part → r ≡ valid_under L x
  rows_valid low few h {r} s =
      alike r (valid_under L x)
      (λ v.
      s
      ∙ and_both (clauses_part && learned_clauses_part && learned_cubes_part) records_part
      (and_both (clauses_part && learned_clauses_part) learned_cubes_part (and_both clauses_part learned_clauses_part (valid_parts v).clauses_ok (valid_parts v).learned_clauses_ok) (valid_parts v).learned_cubes_ok)
      (valid_parts v).records_ok)
      (λ e.
      let w : (clauses_part && learned_clauses_part && learned_cubes_part) ≡ true = and_left (clauses_part && learned_clauses_part && learned_cubes_part) records_part (sym s ∙ e) in
      let g : (clauses_part && learned_clauses_part) ≡ true = and_left (clauses_part && learned_clauses_part) learned_cubes_part w in
      parts_valid
      (record {
        limits_ok = low;
        free_ok = few;
        numbers_ok = and_left numbers_part levels_part h;
        levels_ok = and_right numbers_part levels_part h;
        clauses_ok = and_left clauses_part learned_clauses_part g;
        learned_clauses_ok = and_right clauses_part learned_clauses_part g;
        learned_cubes_ok = and_right (clauses_part && learned_clauses_part) learned_cubes_part w;
        records_ok = and_right (clauses_part && learned_clauses_part && learned_cubes_part) records_part (sym s ∙ e);
      }))

  -- where the limits are too high
  pub checked_high : limits_are_ok L ≡ false → (places kinds : List ℕ) → CheckedUnder L x false places kinds
  checked_high e places kinds =
      record {
        said = both (roomy L x) (valid_under L x) (alike false (valid_under L x) (λ v. sym e ∙ (valid_parts v).limits_ok) (λ t. absurd (false≢true t)));
        placed = λ q. absurd (false≢true q);
        kinded = λ q. absurd (false≢true q);
      }
    where
      both : (q v : Bool) → false ≡ v → false ≡ (q && v)
      both true v h = h
      both false v h = refl

  -- from the prefix that was read: the check stops there, or goes on to the rows
  module _ {ok : Bool} {places kinds : List ℕ} (room : roomy L x ≡ true) (shown : Shown L x.numbers x.levels x.kinds ok places kinds) where
    valid_read : valid_under L x ≡ true → ok ≡ true
    valid_read v = shown.said ∙ and_both numbers_part levels_part (valid_parts v).numbers_ok (valid_parts v).levels_ok

    checked : {r : Bool} → r ≡ valid_under L x → CheckedUnder L x r places kinds
    checked e =
        record {
          said = e ∙ sym (ap (λ (q : Bool). q && valid_under L x) room);
          placed = λ v. shown.places_shown (valid_read (sym e ∙ v));
          kinded = λ v. shown.kinds_shown (valid_read (sym e ∙ v));
        }

    pub checked_bad : ok ≡ false → CheckedUnder L x false places kinds
    checked_bad e = checked (sym e ∙ alike ok (valid_under L x) valid_read (λ t. absurd (false≢true (sym e ∙ t))))

    -- what is said of the free variables is said of the prefix that was read
    free_said : ok ≡ true → {r : Bool} → ((D : Prefix) → Numbers D x.numbers → Quantified D x.levels x.kinds → r ≡ free_is_ok D) → r ≡ free_is_ok D
    free_said e f = f D (prefix_numbers x.numbers x.levels x.kinds) (prefix_quantified x.numbers x.levels x.kinds L (and_left p (free_first (quantifiers D)) (and_right numbers_part levels_part (sym shown.said ∙ e))))

    -- more free variables than there may be
    pub checked_crowded : ok ≡ true → ((D : Prefix) → Numbers D x.numbers → Quantified D x.levels x.kinds → false ≡ free_is_ok D) → CheckedUnder L x false places kinds
    checked_crowded e f = checked (alike false (valid_under L x) (λ v. free_said e f ∙ (valid_parts v).free_ok) (λ t. absurd (false≢true t)))

    pub checked_rows : limits_are_ok L ≡ true → ok ≡ true → ((D : Prefix) → Numbers D x.numbers → Quantified D x.levels x.kinds → true ≡ free_is_ok D) → {r : Bool} → ((D : Prefix) → Places D places → Kinds D kinds → r ≡ rows_fine n m D x) → CheckedUnder L x r places kinds
    checked_rows low e few f = checked (rows_valid low (sym (free_said e few)) (sym shown.said ∙ e) (f D (shown.places_shown e) (shown.kinds_shown e)))

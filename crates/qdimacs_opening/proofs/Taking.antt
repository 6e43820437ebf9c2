-- The lines of a QDIMACS text, each on what stands in the two tables.
use Prim.Native.Nat.{ℕ, zero, suc, ◌≤◌, ◌<◌}
use mathlib.Core.Path.{◌≡◌, refl, sym, ap, subst, ◌∙◌}
use mathlib.Core.Bool.{Bool, true, false, cond, not}
use mathlib.Core.List.{List, [], ◌∷◌, ◌++◌, map}
use mathlib.Core.Option.{Option, none, some}
use native.Mathlib.Omega.{arith}
use borrow.Author.Tests.{eq-eqb, ne_eqb}
use lib.IntN.{ℤ}
use lib.ListN.{length, take, length-map, length-take}
use lib.Seq.{take-length}
use lib.Dec.{eqb, ltb}
use Rattle.std.specs.Prelude.{Result, Ok, Err}
use Rattle.qbf.specs.Formula.{Limits, most_free, Quantifier, is_free, Prefix, quantifiers, Literal, number_of, Formula}
use Rattle.qbf.specs.Truth.{free_variables}
use Rattle.qbf.specs.Calls.{given, no_free, rule_fault, with_rule, ◌or_else◌}
use Rattle.theory.proofs.Basics.{and_left, and_right, and_both}
use Rattle.state.specs.Reading.{quantifier_of}
use Rattle.state_parts.specs.Layout.{limits_in}
use Rattle.state_parts.specs.Parts.{limits_of}
use Rattle.refusal.specs.declared.Refusal.{Refusal}
use Rattle.refusal.specs.declared.Refusal.TheVariants as refusal
use Rattle.refusal.specs.Refusal.{fault_in}
use Rattle.refusal.specs.Refusal as numbers
use Rattle.layout.specs.Forms.{block, clause as own_clause}
use Rattle.layout.specs.Opening.{rank, variable, declare_fault, with_block}
use Rattle.layout.specs.Opening as ours
use Rattle.opening.specs.declared.book.Book.{Book}
use Rattle.opening.specs.Standing.{formula_at, Standing}
use Rattle.opening.specs.Forms.{TookFormAt, BlockTookAt, RuleTookAt}
use Rattle.opening.specs.Forms as own
use Rattle.qdimacs_form.specs.Lines.{Line, group, clause}
use Rattle.qdimacs_form.specs.Opening.{completed, Reading, group_fault, whole, line_fault}
use Rattle.qdimacs_opening.specs.declared.head.Head.{Head}
use Rattle.qdimacs_opening.specs.declared.head.Part.TheVariants.{Clauses}
use Rattle.qdimacs_opening.specs.declared.problem.Problem.{Problem}
use Rattle.qdimacs_opening.specs.Stands.{counted, part_of, own_stage, freed, with_freed, reading_at, problem_stands, Grouped, CompletedAt}
use Rattle.qdimacs_opening.specs.Lines.{WholeAt, AdvancedAt, TookLineAt, GroupTookAt, ClauseTookAt}
use Rattle.qdimacs_opening.proofs.Freed.{rule_freed, rule_added}
use Rattle.qdimacs_opening.proofs.Counting.{group_cut, counted_part}

-- a line that is refused
pub refused_line : (s : Reading) (f : Line) {q : Refusal} (cells : List ℕ) (literals : List ℤ) → line_fault s f ≡ some (numbers.number_of q) → TookLineAt s f (Err q) cells literals
refused_line s f cells literals e = record { fault = e; advanced = tt }

-- ---- before the first clause the formula stands as it is
abbrev plain : Head → Formula → Reading
plain h b = record { stage = part_of h.part; variables = h.variables; clauses = h.clauses; formula = b }

module _ (p : Problem) {cells : List ℕ} {literals : List ℤ} (s : problem_stands p cells literals) where
  early : part_of p.head.part ≤ 1 → reading_at p cells literals ≡ plain p.head (formula_at cells literals)
  early h = ap (λ (k : ℕ). record { stage = part_of p.head.part; variables = p.head.variables; clauses = p.head.clauses; formula = with_freed k (formula_at cells literals) }) (s.early h)

  pub grouped : part_of p.head.part ≡ 1 → Grouped (limits_in p.layout) cells literals
  grouped e =
      record {
        stands = subst (λ (k : ℕ). Standing (limits_in p.layout) (own_stage k) cells literals) e s.stands;
        none_free = s.none_free (omega (arith, e));
      }

  pub block_standing : part_of p.head.part ≡ 1 → Standing (limits_in p.layout) 2 cells literals
  block_standing e = (grouped e).stands

  -- ---- the whole formula
  pub whole_same : part_of p.head.part ≡ 2 → WholeAt (reading_at p cells literals) p cells literals
  whole_same e =
      record {
        reading = λ i. record { stage = e i; variables = p.head.variables; clauses = p.head.clauses; formula = sym here i };
        stands = s;
      }
    where
      here : whole (reading_at p cells literals) ≡ with_freed p.head.crowd (formula_at cells literals)
      here = ap (λ (t : Bool). cond t (completed p.head.variables (with_freed p.head.crowd (formula_at cells literals))) (with_freed p.head.crowd (formula_at cells literals))) (ne_eqb (part_of p.head.part) 1 (λ q. omega (arith, q, e)))

  abbrev completed_problem : ℕ → Problem
  completed_problem k = record { head = record { part = Clauses; variables = p.head.variables; clauses = p.head.clauses; crowd = k }; layout = p.layout }

  pub whole_completed : part_of p.head.part ≡ 1 → {k : ℕ} {cells' : List ℕ} → CompletedAt (limits_in p.layout) p.head.variables (formula_at cells literals) k cells' literals → WholeAt (reading_at p cells literals) (completed_problem k) cells' literals
  whole_completed e {k} {cells'} c =
      record {
        reading = λ i. record { stage = 2; variables = p.head.variables; clauses = p.head.clauses; formula = (c.formula ∙ sym here) i };
        stands = record {
          stands = c.stands;
          few = s.few;
          none_free = λ h. absurd (omega (arith, h));
          early = λ h. absurd (omega (arith, h));
          crowded = λ h. ap (λ (b : Formula). ltb most_free (free_variables b.prefix)) c.formula ∙ c.crowded h;
        };
      }
    where
      here : whole (reading_at p cells literals) ≡ completed p.head.variables (formula_at cells literals)
      here =
          ap whole (early (omega (arith, e)))
          ∙ ap (λ (t : Bool). cond t (completed p.head.variables (formula_at cells literals)) (formula_at cells literals)) (eq-eqb (part_of p.head.part) 1 e)

-- ---- a quantifier line
none_free_block : (κ : Quantifier) → is_free κ ≡ false → (ns : List ℕ) → no_free (quantifiers (map (variable κ) ns)) ≡ true
none_free_block κ f [] = refl
none_free_block κ f (n ∷ ns) = and_both (not (is_free κ)) (no_free (quantifiers (map (variable κ) ns))) (ap not f) (none_free_block κ f ns)

pub none_free_more : (κ : Quantifier) → is_free κ ≡ false → (D : Prefix) (ns : List ℕ) → no_free (quantifiers D) ≡ true → no_free (quantifiers (D ++ map (variable κ) ns)) ≡ true
none_free_more κ f [] ns h = none_free_block κ f ns
none_free_more κ f (d ∷ D) ns h =
    and_both (not (is_free d.quantifier)) (no_free (quantifiers (D ++ map (variable κ) ns))) (and_left (not (is_free d.quantifier)) (no_free (quantifiers D)) h)
    (none_free_more κ f D ns (and_right (not (is_free d.quantifier)) (no_free (quantifiers D)) h))

-- a block of a quantifier may stand after others
block_rank_lem : (kind : ℕ) → 0 < kind → (b : Formula) (ns : List ℕ) → ours.line_fault 2 b (block (quantifier_of kind) ns) ≡ declare_fault b.limits (quantifier_of kind) b.prefix ns
block_rank_lem zero h b ns = absurd (omega (arith, h))
block_rank_lem (suc zero) h b ns = refl
block_rank_lem (suc (suc k)) h b ns = refl

block_stage : (kind : ℕ) → 0 < kind → (ns : List ℕ) → ours.stage_after (rank (block (quantifier_of kind) ns)) ≡ 2
block_stage zero h ns = absurd (omega (arith, h))
block_stage (suc zero) h ns = refl
block_stage (suc (suc k)) h ns = refl

kind_quantified : (kind : ℕ) → 0 < kind → is_free (quantifier_of kind) ≡ false
kind_quantified zero h = absurd (omega (arith, h))
kind_quantified (suc zero) h = refl
kind_quantified (suc (suc k)) h = refl

-- what a line of our own leaves stands under the same limits
same_standing : {L : Limits} {stage : ℕ} {cells : List ℕ} {literals : List ℤ} → Standing L stage cells literals → {M : Limits} {stage' : ℕ} {cells' : List ℕ} {literals' : List ℤ} → Standing M stage' cells' literals' → limits_of cells' ≡ limits_of cells
    → Standing L stage' cells' literals'
same_standing s t e = record { limits = e ∙ s.limits; read = t.read; reached = t.reached }

module _ (p : Problem) {cells : List ℕ} {literals : List ℤ} (s : problem_stands p cells literals) (kind : ℕ) (lits : List ℤ) where
  abbrev b : Formula
  b = formula_at cells literals

  abbrev κ : Quantifier
  κ = quantifier_of kind

  abbrev r : Reading
  r = plain p.head b

  abbrev Plainly : Result Problem Refusal → List ℕ → Type 0
  Plainly t cells' = GroupTookAt r kind lits t cells' literals

  module _ (e : part_of p.head.part ≡ 1) where
    told : {t : Result Problem Refusal} {cells' : List ℕ} → Plainly t cells' → GroupTookAt (reading_at p cells literals) kind lits t cells' literals
    told {t} {cells'} w = subst (λ (q : Reading). GroupTookAt q kind lits t cells' literals) (sym (early p s (omega (arith, e)))) w

    module _ (quantifies : 0 < kind) {n : ℕ} (is : n ≡ counted p.layout.numbers p.head.variables (map number_of lits)) (t : Result Book Refusal) {cells' : List ℕ} (took : BlockTookAt 2 b kind (take n lits) t cells' literals) where
      ms : List ℕ
      ms = map number_of (take n lits)

      own_took : TookFormAt 2 b (block κ ms) t cells' literals
      unfolding ms
      own_took = took (map number_of (take n lits)) refl (λ _. refl)

      counts : n ≡ counted b.limits.numbers p.head.variables (map number_of lits)
      counts = is ∙ ap (λ (L : Limits). counted L.numbers p.head.variables (map number_of lits)) (sym s.stands.limits)

      cut : ms ≡ take (counted b.limits.numbers p.head.variables (map number_of lits)) (map number_of lits)
      unfolding ms
      cut = map_take n lits ∙ ap (λ (k : ℕ). take k (map number_of lits)) counts
        where
          map_take : (k : ℕ) (ls : List ℤ) → map number_of (take k ls) ≡ take k (map number_of ls)
          map_take zero ls = refl
          map_take (suc k) [] = refl
          map_take (suc k) (l ∷ ls) = ap (λ (ns : List ℕ). number_of l ∷ ns) (map_take k ls)

      judged : group_fault b.limits p.head.variables κ b.prefix (map number_of lits) ≡ (fault_in t or_else given (not (eqb n (length lits))) 5)
      judged =
          group_cut b.limits p.head.variables κ (kind_quantified kind quantifies) b.prefix (map number_of lits)
          ∙ ap (λ (ns : List ℕ). declare_fault b.limits κ b.prefix ns or_else given (not (eqb (counted b.limits.numbers p.head.variables (map number_of lits)) (length (map number_of lits)))) 5) (sym cut)
          ∙ ap (λ (o : Option ℕ). o or_else given (not (eqb (counted b.limits.numbers p.head.variables (map number_of lits)) (length (map number_of lits)))) 5) (sym (block_rank_lem kind quantifies b ms) ∙ own_took.fault)
          ∙ ap (λ (k : ℕ). fault_in t or_else given (not (eqb k (length (map number_of lits)))) 5) (sym counts)
          ∙ ap (λ (k : ℕ). fault_in t or_else given (not (eqb n k)) 5) (length-map lits number_of)

      line_judged : (ns : List ℕ) → group_fault b.limits p.head.variables κ b.prefix (map number_of lits) ≡ group_fault b.limits p.head.variables κ b.prefix ns
          → line_fault r (group κ ns) ≡ (fault_in t or_else given (not (eqb n (length lits))) 5)
      line_judged ns q = ap (λ (c : Bool). given (not c) 1 or_else group_fault b.limits p.head.variables κ b.prefix ns) (eq-eqb (part_of p.head.part) 1 e) ∙ sym q ∙ judged

      -- the block is refused
      pub group_refused : {q : Refusal} → t ≡ Err q → GroupTookAt (reading_at p cells literals) kind lits (Err q) cells' literals
      group_refused {q} k = told (λ ns h z. refused_line r (group κ ns) cells' literals (line_judged ns h ∙ ap (λ (x : Result Book Refusal). fault_in x or_else given (not (eqb n (length lits))) 5) k))

      module _ (y : Book) (k : t ≡ Ok y) where
        -- it is not, and a number is left
        pub group_above : n < length lits → GroupTookAt (reading_at p cells literals) kind lits (Err refusal.Undeclared) cells' literals
        group_above less = told (λ ns h z.
            refused_line r (group κ ns) cells' literals
            (line_judged ns h ∙ ap (λ (x : Result Book Refusal). fault_in x or_else given (not (eqb n (length lits))) 5) k ∙ ap (λ (c : Bool). given (not c) 5) (ne_eqb n (length lits) (λ g. omega (arith, g, less)))))

        took_block : own.AdvancedAt b (block κ ms) y cells' literals
        took_block = let w : TookFormAt 2 b (block κ ms) (Ok y) cells' literals = subst (λ (x : Result Book Refusal). TookFormAt 2 b (block κ ms) x cells' literals) k own_took in w.advanced

        group_stands : problem_stands p cells' literals
        group_stands =
            record {
              stands =
                  subst (λ (j : ℕ). Standing (limits_in p.layout) (own_stage j) cells' literals) (sym e)
                  (subst (λ (j : ℕ). Standing (limits_in p.layout) j cells' literals) (took_block.stage ∙ block_stage kind quantifies ms)
                  (same_standing s.stands took_block.stands (ap (λ (c : Formula). c.limits) took_block.formula)));
              few = s.few;
              none_free = λ q. subst (λ (c : Formula). no_free (quantifiers c.prefix) ≡ true) (sym took_block.formula) (none_free_more κ (kind_quantified kind quantifies) b.prefix ms (s.none_free q));
              early = s.early;
              crowded = λ h. absurd (let z : p.head.crowd ≡ 0 = s.early (omega (arith, e)) in omega (arith, z, h));
            }

        pub group_taken : length lits ≤ n → GroupTookAt (reading_at p cells literals) kind lits (Ok p) cells' literals
        unfolding ms
        group_taken more = told (λ ns h z. record { fault = fine ns h; advanced = next ns (z (sym h ∙ judged ∙ sym (line_judged ns h) ∙ fine ns h)) })
          where
            whole_line : n ≡ length lits
            whole_line = let g = counted_part p.layout.numbers p.head.variables lits is in omega (arith, more, g, length-take n lits)

            fine : (ns : List ℕ) → group_fault b.limits p.head.variables κ b.prefix (map number_of lits) ≡ group_fault b.limits p.head.variables κ b.prefix ns → line_fault r (group κ ns) ≡ none
            fine ns h = line_judged ns h ∙ ap (λ (x : Result Book Refusal). fault_in x or_else given (not (eqb n (length lits))) 5) k ∙ ap (λ (c : Bool). given (not c) 5) (eq-eqb n (length lits) whole_line)

            next : (ns : List ℕ) → map number_of lits ≡ ns → AdvancedAt r (group κ ns) p cells' literals
            next ns same =
                record {
                  reading = early p group_stands (omega (arith, e)) ∙ (λ i. record { stage = e i; variables = p.head.variables; clauses = p.head.clauses; formula = read i });
                  stands = group_stands;
                }
              where
                all : ms ≡ ns
                all = ap (λ (j : ℕ). map number_of (take j lits)) whole_line ∙ ap (map number_of) (take-length lits) ∙ same

                read : formula_at cells' literals ≡ with_block κ b ns
                read = took_block.formula ∙ ap (with_block κ b) all

-- ---- a clause
module _ {s : Reading} (started : s.stage ≡ 0 → ⊥) {y : Problem} {cells : List ℕ} {literals : List ℤ} (w : WholeAt s y cells literals) (lits : List ℤ) where
  abbrev c : Formula
  c = formula_at cells literals

  is_clauses : part_of y.head.part ≡ 2
  is_clauses = ap (λ (q : Reading). q.stage) w.reading

  is_whole : with_freed y.head.crowd c ≡ whole s
  is_whole = ap (λ (q : Reading). q.formula) w.reading

  pub clause_standing : Standing (limits_in y.layout) 3 cells literals
  clause_standing = subst (λ (k : ℕ). Standing (limits_in y.layout) (own_stage k) cells literals) is_clauses w.stands.stands

  same_fault : (ls : List Literal) → rule_fault c ls ≡ rule_fault (whole s) ls
  same_fault ls = sym (rule_freed y.head.crowd c ls) ∙ ap (λ (b : Formula). rule_fault b ls) is_whole

  clause_fault : (ls : List Literal) → line_fault s (clause ls) ≡ rule_fault c ls
  clause_fault ls = ap (λ (t : Bool). given t 1 or_else rule_fault (whole s) ls) (ne_eqb s.stage 0 started) ∙ sym (same_fault ls)

  module _ (t : Result Book Refusal) {cells' : List ℕ} {literals' : List ℤ} (took : RuleTookAt 3 c lits t cells' literals') where
    own_line : (ls : List Literal) → rule_fault (whole s) lits ≡ rule_fault (whole s) ls → (rule_fault (whole s) ls ≡ none → lits ≡ ls) → TookFormAt 3 c (own_clause ls) t cells' literals'
    own_line ls p q = took ls (same_fault lits ∙ p ∙ sym (same_fault ls)) (λ z. q (sym (same_fault ls) ∙ z))

    pub clause_refused : {q : Refusal} → t ≡ Err q → ClauseTookAt s lits (Err q) cells' literals'
    clause_refused e ls p q = refused_line s (clause ls) cells' literals' (clause_fault ls ∙ (own_line ls p q).fault ∙ ap fault_in e)

    pub clause_taken : {v : Book} → t ≡ Ok v → ClauseTookAt s lits (Ok y) cells' literals'
    clause_taken {v} e ls p q =
        record {
          fault = clause_fault ls ∙ (own_line ls p q).fault ∙ ap fault_in e;
          advanced = record {
            reading = λ i. record {
              stage = is_clauses i;
              variables = (ap (λ (x : Reading). x.variables) w.reading) i;
              clauses = (ap (λ (x : Reading). x.clauses) w.reading) i;
              formula = added i;
            };
            stands = record {
              stands =
                  subst (λ (k : ℕ). Standing (limits_in y.layout) (own_stage k) cells' literals') (sym is_clauses)
                  (subst (λ (k : ℕ). Standing (limits_in y.layout) k cells' literals') a.stage (same_standing w.stands.stands a.stands (ap (λ (b : Formula). b.limits) a.formula)));
              few = w.stands.few;
              none_free = λ h. absurd (omega (arith, h, is_clauses));
              early = λ h. absurd (omega (arith, h, is_clauses));
              crowded = λ h. ap (λ (b : Formula). ltb most_free (free_variables (freed y.head.crowd b.prefix))) a.formula ∙ w.stands.crowded h;
            };
          };
        }
      where
        a : own.AdvancedAt c (own_clause ls) v cells' literals'
        a = let z : TookFormAt 3 c (own_clause ls) (Ok v) cells' literals' = subst (λ (x : Result Book Refusal). TookFormAt 3 c (own_clause ls) x cells' literals') e (own_line ls p q) in z.advanced

        added : with_freed y.head.crowd (formula_at cells' literals') ≡ with_rule none (whole s) ls
        added = ap (with_freed y.head.crowd) a.formula ∙ sym (rule_added y.head.crowd c ls) ∙ ap (λ (b : Formula). with_rule none b ls) is_whole

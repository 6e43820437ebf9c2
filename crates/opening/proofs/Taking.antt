-- The forms of a text's lines, each on what stands.
use Prim.Native.Nat.{ℕ, zero, suc, ◌≤◌, ◌<◌}
use native.Mathlib.Omega.{arith}
use mathlib.Core.Path.{◌≡◌, refl, sym, ap, subst, ◌∙◌}
use mathlib.Core.Bool.{Bool, true, false}
use mathlib.Core.List.{List, ◌++◌, map}
use mathlib.Core.Option.{Option, none, some}
use lib.IntN.{ℤ}
use lib.ListN.{get_or}
use Rattle.std.specs.Prelude.{Result, Ok, Err}
use Rattle.qbf.specs.Formula.{Limits, Quantifier, Prefix, quantifiers, Literal, Formula, number_of, all, is_free}
use Rattle.qbf.specs.Learning.{empty_store}
use Rattle.qbf.specs.Calls.{rule, answer, rule_reply, rule_fault, with_rule, store_after_rule, well_formed, guarded, State as Read}
use Rattle.qbf.specs.Runs.{fresh}
use Rattle.theory.proofs.Basics.{and_right}
use Rattle.refusal.specs.declared.Refusal.{Refusal}
use Rattle.refusal.specs.Refusal.{fault_in}
use Rattle.state.specs.Reading.{quantifier_of, roomy, valid_under}
use Rattle.state.proofs.SoundPrefix.{under_sound}
use Rattle.state_parts.specs.Layout.{limits_in}
use Rattle.state_parts.specs.Parts.{limits_of, state_at, read_at}
use Rattle.state_parts.proofs.Accepted.{valid_accepted, valid_whole}
use Rattle.declaring.specs.Declaring.{prefix_at, SoundAt}
use Rattle.serving.specs.Serves.{Said, said_of, out_of, next_of}
use Rattle.rule_calls.specs.ServesAt.{ServesAt, change_said}
use Rattle.layout.specs.Forms.{block, clause, end}
use Rattle.layout.specs.Opening.{rank, allowed, stage_after, declare_fault}
use Rattle.layout_laws.proofs.Blocks.{Before}
use Rattle.layout_laws.proofs.Opened.{allowed_is, fresh_formed}
use Rattle.opening.specs.Blocks.{block_rank, GrowableAt, GrownAt}
use Rattle.opening.specs.Stages.{rank_of, placed}
use Rattle.opening.specs.declared.book.Book.{Book}
use Rattle.opening.specs.Standing.{formula_at, Standing}
use Rattle.opening.specs.Forms.{BlockTookAt, RuleTookAt, TookFormAt}
use Rattle.opening.proofs.Laws.{standing_valid, misplaced, refused_form, taken_form}
use Rattle.opening.proofs.Blocks.{grown_read}

-- ---- a block
rank_is : (kind : ℕ) (ns : List ℕ) → block_rank kind ≡ rank (block (quantifier_of kind) ns)
rank_is zero ns = refl
rank_is (suc zero) ns = refl
rank_is (suc (suc k)) ns = refl

stage_is : (kind : ℕ) (ns : List ℕ) → 2 ≡ stage_after (rank (block (quantifier_of kind) ns))
stage_is zero ns = refl
stage_is (suc zero) ns = refl
stage_is (suc (suc k)) ns = refl

rank_most : (kind : ℕ) → block_rank kind ≤ 2
rank_most zero = omega arith
rank_most (suc k) = omega arith

module _ {L : Limits} {stage : ℕ} {cells : List ℕ} {literals : List ℤ} (s : Standing L stage cells literals) (kind : ℕ) {k : ℕ} (of : k ≡ block_rank kind) where
  abbrev b : Formula
  b = formula_at cells literals

  abbrev κ : Quantifier
  κ = quantifier_of kind

  pub block_misplaced : (lits : List ℤ) {q : Refusal} → Err q ≡ placed (allowed stage k) → BlockTookAt stage b kind lits (Err q) cells literals
  block_misplaced lits e ns p q = misplaced stage b (block κ ns) cells literals (e ∙ ap (λ (r : ℕ). placed (allowed stage r)) (of ∙ rank_is kind ns))

  module _ {u : Unit {0}} (a : Ok u ≡ placed (allowed stage k)) where
    stands_here : (stage ≤ block_rank kind) × (block_rank kind < 2 → stage ≡ block_rank kind)
    stands_here = allowed_is stage (block_rank kind) (by (allowed stage (block_rank kind)) (a ∙ ap (λ (r : ℕ). placed (allowed stage r)) of))
      where
        by : (t : Bool) → Ok u ≡ placed t → t ≡ true
        by true e = refl
        by false e = cc

    pub block_growable : kind ≤ 2 → GrowableAt L cells kind
    unfolding Before
    block_growable h = subst (λ (M : Limits). GrowableAt M cells kind) s.limits here
      where
        sound : SoundAt (limits_of cells) cells
        sound =
            under_sound (get_or cells 0 0) (get_or cells 1 0) (state_at cells literals)
            (and_right (roomy (limits_of cells) (state_at cells literals)) (valid_under (limits_of cells) (state_at cells literals)) (valid_accepted cells literals (standing_valid cells literals s)))

        before : (k : ℕ) → (stage ≤ block_rank k) × (block_rank k < 2 → stage ≡ block_rank k) → Before (quantifier_of k) (quantifiers (prefix_at (limits_of cells) cells))
        before zero p = subst (λ (E : Prefix). all is_free (quantifiers E) ≡ true) (sym (s.reached.no_variables p.0)) refl
        before (suc zero) p = tt
        before (suc (suc k)) p = tt

        here : GrowableAt (limits_of cells) cells kind
        here =
            record {
              room = omega (arith, (valid_whole cells literals (standing_valid cells literals s)).cells_room);
              sound = sound;
              few = s.reached.facts.free_ok;
              code = h;
              before = before kind stands_here;
            }

    placed_here : (ns : List ℕ) → Ok u ≡ placed (allowed stage (rank (block κ ns)))
    placed_here ns = a ∙ ap (λ (r : ℕ). placed (allowed stage r)) (of ∙ rank_is kind ns)

    module _ {lits : List ℤ} {r : Result (Unit {0}) Refusal} {cells' : List ℕ} (w : GrownAt L cells lits kind r cells') where
      own : GrownAt (limits_of cells) cells lits kind r cells'
      own = subst (λ (M : Limits). GrownAt M cells lits kind r cells') (sym s.limits) w

      pub block_refused : {q : Refusal} → r ≡ Err q → BlockTookAt stage b kind lits (Err q) cells' literals
      block_refused {q} e ns p z = refused_form stage b (block κ ns) (placed_here ns) cells' literals (sym p ∙ own.fault ∙ ap fault_in e)

      pub block_taken : {v : Unit {0}} → r ≡ Ok v → (y : Book) → limits_in y.layout ≡ L → rank_of y.stage ≡ 2 → BlockTookAt stage b kind lits (Ok y) cells' literals
      block_taken {v} e y under at ns p z =
          taken_form stage b (block κ ns) (placed_here ns) s.reached fine y (under ∙ sym s.limits) (at ∙ stage_is kind ns) cells' literals (reads ∙ ap (λ (ms : List ℕ). some (fresh (record { limits = b.limits; prefix = b.prefix ++ map (λ (n : ℕ). record { number = n; quantifier = κ }) ms; clauses = b.clauses }))) (z fine))
        where
          fine : declare_fault b.limits κ b.prefix ns ≡ none
          fine = sym p ∙ own.fault ∙ ap fault_in e

          grown : GrownAt (limits_of cells) cells lits kind (Ok v) cells'
          grown = subst (λ (t : Result (Unit {0}) Refusal). GrownAt (limits_of cells) cells lits kind t cells') e own

          reads : read_at cells' literals ≡ some (fresh (record { limits = b.limits; prefix = b.prefix ++ map (λ (n : ℕ). record { number = n; quantifier = κ }) (map number_of lits); clauses = b.clauses }))
          reads =
              grown_read s (s.reached.no_clauses (omega (arith, stands_here.0, rank_most kind))) grown.beside grown.sound grown.few
              ∙ ap (λ (E : Prefix). some (fresh (record { limits = b.limits; prefix = E; clauses = b.clauses }))) grown.prefix

-- ---- a rule
module _ {L : Limits} {stage : ℕ} {cells : List ℕ} {literals : List ℤ} (s : Standing L stage cells literals) (lits : List ℤ) where
  abbrev c : Formula
  c = formula_at cells literals

  pub rule_misplaced : {q : Refusal} → Err q ≡ placed (allowed stage 3) → RuleTookAt stage c lits (Err q) cells literals
  rule_misplaced e ls p q = misplaced stage c (clause ls) cells literals e

  module _ {u : Unit {0}} (a : Ok u ≡ placed (allowed stage 3)) (r : Result (Unit {0}) Refusal) {cells' : List ℕ} {literals' : List ℤ} (w : ServesAt cells literals (rule lits) (change_said r) cells' literals') where
    formed : well_formed (fresh c) ≡ true
    formed = fresh_formed c s.reached.facts

    fault_is : rule_fault c lits ≡ fault_in r
    fault_is = sym refused
      where
        reply : (o : Option ℕ) → (said_of (answer (rule_reply o) 0)).refusal ≡ o
        reply none = refl
        reply (some k) = refl

        refused : fault_in r ≡ rule_fault c lits
        refused =
            ap (λ (q : Said). q.refusal) w.answered ∙ ap (λ (o : Option Read). (said_of (out_of o (rule lits))).refusal) s.read
            ∙ ap (λ (u : Bool). (said_of (guarded u (fresh c) (rule lits)).out).refusal) formed ∙ reply (rule_fault c lits)

    pub rule_refused : {q : Refusal} → r ≡ Err q → RuleTookAt stage c lits (Err q) cells' literals'
    rule_refused e ls p q = refused_form stage c (clause ls) a cells' literals' (sym p ∙ fault_is ∙ ap fault_in e)

    pub rule_taken : {v : Unit {0}} → r ≡ Ok v → (y : Book) → limits_in y.layout ≡ L → rank_of y.stage ≡ 3 → RuleTookAt stage c lits (Ok y) cells' literals'
    rule_taken e y under at ls p q =
        taken_form stage c (clause ls) a s.reached (sym p ∙ fine) y (under ∙ sym s.limits) at cells' literals'
        (next_read ∙ ap (λ (ms : List Literal). some (fresh (with_rule none c ms))) (q (sym p ∙ fine)))
      where
        fine : rule_fault c lits ≡ none
        fine = fault_is ∙ ap fault_in e

        next_read : read_at cells' literals' ≡ some (fresh (with_rule none c lits))
        next_read =
            w.next ∙ ap (λ (o : Option Read). next_of o (rule lits)) s.read ∙ ap (λ (u : Bool). some (guarded u (fresh c) (rule lits)).state) formed
            ∙ ap (λ (o : Option ℕ). some (record { formula = with_rule o c lits; store = store_after_rule o empty_store })) fine

-- ---- the book's line and the end's change nothing
module _ {L : Limits} {stage : ℕ} {cells : List ℕ} {literals : List ℤ} (s : Standing L stage cells literals) where
  pub end_taken : {u : Unit {0}} → Ok u ≡ placed (allowed stage 4) → (y : Book) → limits_in y.layout ≡ L → rank_of y.stage ≡ 4 → TookFormAt stage (formula_at cells literals) end (Ok y) cells literals
  end_taken a y under at = taken_form stage (formula_at cells literals) end a s.reached refl y (under ∙ sym s.limits) at cells literals s.read

-- The lines of either edition, each on what stands.
use Prim.Native.Nat.{ℕ, ◌+◌, ◌≤◌, ◌<◌}
use mathlib.Core.Path.{◌≡◌, refl, sym, ap, subst, ◌∙◌}
use mathlib.Core.Bool.{Bool, true, false, not, ◌||◌, true≢false}
use mathlib.Core.List.{List, []}
use mathlib.Core.Option.{Option, none, some}
use native.Mathlib.Omega.{arith}
use borrow.Author.Tests.{eqb-true}
use lib.Dec.{eqb, leb, ltb}
use lib.IntN.{ℤ}
use lib.ListN.{length, get_or}
use Rattle.std.specs.Prelude.{Result, Ok, Err}
use Rattle.qbf.specs.Formula.{Limits, Formula, Literal}
use Rattle.qbf.specs.Learning.{empty_store}
use Rattle.qbf.specs.Calls.{State as Read, given, rule_fault, literal_fault, one as one_call, one_fault, with_one, answer, rule_reply, store_after_rule, well_formed, guarded, ◌or_else◌}
use Rattle.qbf.specs.Runs.{fresh}
use Rattle.tables.proofs.Laws.{rows_length}
use Rattle.refusal.specs.declared.Refusal.{Refusal}
use Rattle.refusal.specs.declared.Refusal.TheVariants as refusal
use Rattle.refusal.specs.Refusal.{number_of, fault_in}
use Rattle.state_parts.specs.Layout.{limits_in}
use Rattle.state_parts.specs.Parts.{limits_of, clause_sizes_at, clause_count, state_at, read_at}
use Rattle.state_parts.proofs.Cutting.{part_at}
use Rattle.serving.specs.Serves.{Said, said_of, out_of, next_of}
use Rattle.rule_calls.specs.ServesAt.{ServesAt, change_said}
use Rattle.layout.specs.Forms.{Form, book, clause}
use Rattle.layout.specs.Opening.{allowed, stage_after}
use Rattle.layout.specs.Opening as own
use Rattle.layout_laws.proofs.Opened.{Reached, fresh_formed}
use Rattle.reader.specs.Items.{narrow}
use Rattle.editions.specs.Lines.{Line, says, tagged, one}
use Rattle.editions.specs.Opening.{Editions, rank_of, tags_fit, said_fault, line_fault, with_line, edition_after}
use Rattle.editions_laws.proofs.Formed.{line_formed}
use Rattle.opening.specs.Stages as stage_ranks
use Rattle.opening.specs.Stages.{placed}
use Rattle.opening.specs.declared.book.Book.{Book}
use Rattle.opening.specs.Standing.{formula_at, Standing}
use Rattle.opening.specs.Forms.{TookFormAt, RuleTookAt}
use Rattle.opening.proofs.Laws.{formula_is, stands_by}
use Rattle.edition_opening.specs.declared.Editions.{Editions as Accepted}
use Rattle.edition_opening.specs.declared.Editions.TheVariants.{First, Second, Both}
use Rattle.edition_opening.specs.Editions.{accepted, edition_of, EditionRead}
use Rattle.edition_opening.specs.Lines.{out_of_range, kept_with, TookLineAt, TookOnAt, PlainTookAt, TaggedTookAt, OneTookAt, edition_stands}
use Rattle.edition_opening.specs.declared.book.EditionBook.{EditionBook}

-- ---- refusals
module _ (a : Editions) (e stage : ℕ) (b : Formula) (f : Line) where
  pub refused_line : {q : Refusal} (cells : List ℕ) (literals : List ℤ) → line_fault a e stage b f ≡ some (number_of q) → TookLineAt a e stage b f (Err q) cells literals
  refused_line cells literals k = record { fault = k; advanced = tt }

  -- a line that may not stand here
  pub misplaced : {q : Refusal} (cells : List ℕ) (literals : List ℤ) → Err q ≡ placed (allowed stage (rank_of f)) → TookLineAt a e stage b f (Err q) cells literals
  misplaced {q} cells literals g = by (allowed stage (rank_of f)) refl g
    where
      by : (t : Bool) → t ≡ allowed stage (rank_of f) → Err q ≡ placed t → TookLineAt a e stage b f (Err q) cells literals
      by true k g = cc
      by false k g = refused_line cells literals (ap (λ (x : Bool). given (not x) 1 or_else given (not (tags_fit e f)) 1 or_else said_fault a b f) (sym k) ∙ sym (ap fault_in g))

  -- a rule without the tag that its edition asks for, or with one
  pub untagged : (cells : List ℕ) (literals : List ℤ) → tags_fit e f ≡ false → TookLineAt a e stage b f (Err refusal.NotInLayout) cells literals
  untagged cells literals q = refused_line cells literals (ap (λ (x : Bool). given (not (allowed stage (rank_of f))) 1 or_else given (not x) 1 or_else said_fault a b f) q ∙ by (not (allowed stage (rank_of f))))
    where
      by : (x : Bool) → (given x 1 or_else given true 1 or_else said_fault a b f) ≡ some 1
      by true = refl
      by false = refl

  -- one that may stand, with or without its tag as it should be: its own faults
  pub placed_fault : {u : Unit {0}} → Ok u ≡ placed (allowed stage (rank_of f)) → tags_fit e f ≡ true → line_fault a e stage b f ≡ said_fault a b f
  placed_fault {u} q s = by (allowed stage (rank_of f)) refl q ∙ ap (λ (x : Bool). given (not x) 1 or_else said_fault a b f) s
    where
      by : (t : Bool) → t ≡ allowed stage (rank_of f) → Ok u ≡ placed t → line_fault a e stage b f ≡ (given (not (tags_fit e f)) 1 or_else said_fault a b f)
      by true k g = ap (λ (x : Bool). given (not x) 1 or_else given (not (tags_fit e f)) 1 or_else said_fault a b f) (sym k)
      by false k g = cc

  -- what stands with the line is opened as before
  pub taken_line : Reached stage b → line_fault a e stage b f ≡ none → (with_line b f).limits ≡ b.limits → (z : EditionBook) → limits_in z.book.layout ≡ b.limits → stage_ranks.rank_of z.book.stage ≡ stage_after (rank_of f)
      → edition_of z.edition ≡ edition_after e f → accepted z.accepts ≡ a → (cells : List ℕ) (literals : List ℤ) → read_at cells literals ≡ some (fresh (with_line b f)) → TookLineAt a e stage b f (Ok z) cells literals
  taken_line i k same z under at d c cells literals r =
      record {
        fault = k;
        advanced = record {
          formula = formula_is cells literals (with_line b f) r;
          stage = at;
          edition = d;
          accepts = c;
          stands =
              subst (λ (L : Limits). Standing L (stage_ranks.rank_of z.book.stage) cells literals) (same ∙ sym under)
              (subst (λ (n : ℕ). Standing (with_line b f).limits n cells literals) (sym at)
              (stands_by cells literals (with_line b f) (stage_after (rank_of f)) r (line_formed a e stage b f i k)));
        };
      }

-- ---- forms of the first edition
module _ (z : EditionBook) (b : Formula) (f : Form) where
  pub form_kept : (r : Result Book Refusal) (cells : List ℕ) (literals : List ℤ) → TookFormAt (stage_ranks.rank_of z.book.stage) b f r cells literals
      → line_fault (accepted z.accepts) (edition_of z.edition) (stage_ranks.rank_of z.book.stage) b (says f) ≡ own.line_fault (stage_ranks.rank_of z.book.stage) b f
      → edition_after (edition_of z.edition) (says f) ≡ edition_of z.edition → TookOnAt z b (says f) (kept_with z r) cells literals
  form_kept (Err q) cells literals w k s = record { fault = k ∙ w.fault; advanced = tt }
  form_kept (Ok y) cells literals w k s =
      record { fault = k ∙ w.fault; advanced = record { formula = w.advanced.formula; stage = w.advanced.stage; edition = sym s; accepts = refl; stands = w.advanced.stands } }

-- ---- the book's line
either : (a : Accepted) (e : ℕ) → accepted a e ≡ true → e ≤ 2
either First e q = omega (arith, eqb-true e 1 q)
either Second e q = omega (arith, eqb-true e 2 q)
either Both e q = by (eqb e 1) refl q
  where
    by : (t : Bool) → eqb e 1 ≡ t → (t || eqb e 2) ≡ true → e ≤ 2
    by true p r = omega (arith, eqb-true e 1 p)
    by false p r = omega (arith, eqb-true e 2 r)

narrow_small : (e : ℕ) → narrow e ≤ 2 → narrow e ≡ e
narrow_small e h = omega (arith, h)

far : (a : Accepted) (e : ℕ) → 2 < e → accepted a e ≡ false
far a e h = by (accepted a e) refl
  where
    by : (t : Bool) → accepted a e ≡ t → t ≡ false
    by true q = absurd (omega (arith, h, either a e q))
    by false q = refl

-- an edition is taken or not as it is narrowed
same_taken : (a : Accepted) (e : ℕ) → accepted a (narrow e) ≡ accepted a e
same_taken a e = by (accepted a (narrow e)) refl
  where
    by : (t : Bool) → accepted a (narrow e) ≡ t → accepted a (narrow e) ≡ accepted a e
    by true q = ap (accepted a) (narrow_small e (either a (narrow e) q))
    by false q = more (accepted a e) refl
      where
        more : (u : Bool) → accepted a e ≡ u → accepted a (narrow e) ≡ accepted a e
        more true p = absurd (true≢false (sym p ∙ ap (accepted a) (sym small) ∙ q))
          where
            small : narrow e ≡ e
            small = omega (arith, either a e p)
        more false p = q ∙ sym p

module _ (z : EditionBook) (cells : List ℕ) (literals : List ℤ) (s : edition_stands z cells literals) where
  abbrev b : Formula
  b = formula_at cells literals

  abbrev stage : ℕ
  stage = stage_ranks.rank_of z.book.stage

  abbrev a : Editions
  a = accepted z.accepts

  abbrev e : ℕ
  e = edition_of z.edition

  module _ {u : Unit {0}} (k : Ok u ≡ placed (allowed stage 0)) (n : ℕ) {m : ℕ} (p : m ≡ narrow n) where
    fault_is : line_fault a e stage b (says (book n)) ≡ given (not (a m)) 2
    fault_is = placed_fault a e stage b (says (book n)) k refl ∙ ap (λ (y : Bool). given (not y) 2) (sym (ap a p ∙ same_taken z.accepts n))

    pub book_refused : {q : Refusal} → EditionRead a m (Err q) → TookOnAt z b (says (book n)) (Err q) cells literals
    book_refused w =
        refused_line a e stage b (says (book n)) cells literals
        (fault_is ∙ ap (λ (y : Bool). given (not y) 2) w.1 ∙ ap (λ (r : Refusal). some (number_of r)) (sym w.0))

-- ---- rules
module _ (z : EditionBook) {cells : List ℕ} {literals : List ℤ} (s : edition_stands z cells literals) (lits : List ℤ) where
  abbrev c : Formula
  c = formula_at cells literals

  abbrev at_stage : ℕ
  at_stage = stage_ranks.rank_of z.book.stage

  abbrev ac : Editions
  ac = accepted z.accepts

  abbrev ed : ℕ
  ed = edition_of z.edition

  pub plain_unfit : eqb ed 1 ≡ false → PlainTookAt z c lits (Err refusal.NotInLayout) cells literals
  plain_unfit h ls p q = untagged ac ed at_stage c (says (clause ls)) cells literals h

  pub plain_taken : eqb ed 1 ≡ true → (r : Result Book Refusal) (cells' : List ℕ) (literals' : List ℤ) → RuleTookAt at_stage c lits r cells' literals' → PlainTookAt z c lits (kept_with z r) cells' literals'
  plain_taken h r cells' literals' w ls p q =
      form_kept z c (clause ls) r cells' literals' (w ls p q)
      (ap (λ (y : Bool). given (not (allowed at_stage 3)) 1 or_else given (not y) 1 or_else rule_fault c ls) h) refl

  module _ (k : ℕ) where
    pub tag_unfit : eqb ed 2 ≡ false → TaggedTookAt z c k lits (Err refusal.NotInLayout) cells literals
    tag_unfit h ls p q = untagged ac ed at_stage c (tagged k ls) cells literals h

    pub tag_misplaced : {q : Refusal} → Err q ≡ placed (allowed at_stage 3) → TaggedTookAt z c k lits (Err q) cells literals
    tag_misplaced e ls p q = misplaced ac ed at_stage c (tagged k ls) cells literals e

    module _ (h : eqb ed 2 ≡ true) {u : Unit {0}} (v : Ok u ≡ placed (allowed at_stage 3)) where
      full : Bool
      full = leb c.limits.clauses (length c.clauses)

      tag_fault_is : (ls : List Literal) → line_fault ac ed at_stage c (tagged k ls) ≡ (given full 20 or_else given (out_of_range k) 39 or_else rule_fault c ls)
      unfolding full out_of_range
      tag_fault_is ls = placed_fault ac ed at_stage c (tagged k ls) v h

      pub tag_refused : out_of_range k ≡ true → {r : Refusal} → some (number_of r) ≡ (given (leb c.limits.clauses (length c.clauses)) 20 or_else some 39) → TaggedTookAt z c k lits (Err r) cells literals
      unfolding full
      tag_refused o w ls p q =
          refused_line ac ed at_stage c (tagged k ls) cells literals
          (tag_fault_is ls ∙ ap (λ (y : Bool). given full 20 or_else given y 39 or_else rule_fault c ls) o ∙ sym w)

      pub tag_taken : out_of_range k ≡ false → (r : Result Book Refusal) (cells' : List ℕ) (literals' : List ℤ) → RuleTookAt at_stage c lits r cells' literals' → TaggedTookAt z c k lits (kept_with z r) cells' literals'
      unfolding full
      tag_taken o r cells' literals' w ls p q = by r (w ls p q)
        where
          own_fault : own.line_fault at_stage c (clause ls) ≡ rule_fault c ls
          own_fault = by (allowed at_stage 3) refl v
            where
              by : (t : Bool) → t ≡ allowed at_stage 3 → Ok u ≡ placed t → own.line_fault at_stage c (clause ls) ≡ rule_fault c ls
              by true k g = ap (λ (y : Bool). given (not y) 1 or_else rule_fault c ls) (sym k)
              by false k g = cc

          -- "after 20": the rule asks for it again
          twice : (y : Bool) → full ≡ y → (given y 20 or_else rule_fault c ls) ≡ rule_fault c ls
          twice true r = sym (ap (λ (z' : Bool). given z' 20 or_else given (eqb (length ls) 0 || ltb c.limits.literals (length ls)) 7 or_else literal_fault c.limits c.prefix [] ls) r)
          twice false r = refl

          judged : line_fault ac ed at_stage c (tagged k ls) ≡ own.line_fault at_stage c (clause ls)
          judged = tag_fault_is ls ∙ ap (λ (y : Bool). given full 20 or_else given y 39 or_else rule_fault c ls) o ∙ twice full refl ∙ sym own_fault

          by : (r : Result Book Refusal) → TookFormAt at_stage c (clause ls) r cells' literals' → TookOnAt z c (tagged k ls) (kept_with z r) cells' literals'
          by (Err q) w = record { fault = judged ∙ w.fault; advanced = tt }
          by (Ok y) w = record { fault = judged ∙ w.fault; advanced = record { formula = w.advanced.formula; stage = w.advanced.stage; edition = refl; accepts = refl; stands = w.advanced.stands } }

  -- ---- an exactly-one form
  pub one_misplaced : {q : Refusal} → Err q ≡ placed (allowed at_stage 3) → OneTookAt z c lits (Err q) cells literals
  one_misplaced e ls p q = misplaced ac ed at_stage c (one ls) cells literals e

  module _ {u : Unit {0}} (v : Ok u ≡ placed (allowed at_stage 3)) (r : Result (Unit {0}) Refusal) {cells' : List ℕ} {literals' : List ℤ} (w : ServesAt cells literals (one_call lits) (change_said r) cells' literals') where
    formed : well_formed (fresh c) ≡ true
    formed = fresh_formed c s.reached.facts

    one_fault_is : one_fault c lits ≡ fault_in r
    one_fault_is = sym refused
      where
        reply : (o : Option ℕ) → (said_of (answer (rule_reply o) 0)).refusal ≡ o
        reply none = refl
        reply (some k) = refl

        refused : fault_in r ≡ one_fault c lits
        refused =
            ap (λ (q : Said). q.refusal) w.answered ∙ ap (λ (o : Option Read). (said_of (out_of o (one_call lits))).refusal) s.read
            ∙ ap (λ (u : Bool). (said_of (guarded u (fresh c) (one_call lits)).out).refusal) formed ∙ reply (one_fault c lits)

    judged : (ls : List Literal) → one_fault c lits ≡ one_fault c ls → line_fault ac ed at_stage c (one ls) ≡ fault_in r
    judged ls p = placed_fault ac ed at_stage c (one ls) v refl ∙ sym p ∙ one_fault_is

    pub one_refused : {q : Refusal} → r ≡ Err q → OneTookAt z c lits (Err q) cells' literals'
    one_refused e ls p q = refused_line ac ed at_stage c (one ls) cells' literals' (judged ls p ∙ ap fault_in e)

    pub one_taken : {t : Unit {0}} → r ≡ Ok t → (y : EditionBook) → y.accepts ≡ z.accepts → y.edition ≡ z.edition → stage_ranks.rank_of y.book.stage ≡ 3 → limits_in y.book.layout ≡ limits_in z.book.layout
        → OneTookAt z c lits (Ok y) cells' literals'
    one_taken e y a d at under ls p q =
        taken_line ac ed at_stage c (one ls) s.reached (judged ls p ∙ ap fault_in e) refl y (under ∙ sym s.limits) at (ap edition_of d) (ap accepted a) cells' literals'
        (next_read ∙ ap (λ (ms : List Literal). some (fresh (with_one none c ms))) (q (sym p ∙ fine)))
      where
        fine : one_fault c lits ≡ none
        fine = one_fault_is ∙ ap fault_in e

        next_read : read_at cells' literals' ≡ some (fresh (with_one none c lits))
        next_read =
            w.next ∙ ap (λ (o : Option Read). next_of o (one_call lits)) s.read ∙ ap (λ (u : Bool). some (guarded u (fresh c) (one_call lits)).state) formed
            ∙ ap (λ (o : Option ℕ). some (record { formula = with_one o c lits; store = store_after_rule o empty_store })) fine

-- how many rules stand
pub rules_counted : {L : Limits} {stage : ℕ} {cells : List ℕ} {literals : List ℤ} → Standing L stage cells literals → {k : ℕ} → k ≡ clause_sizes_at L → {n : ℕ} → n ≡ get_or cells k 0 → n ≡ length (formula_at cells literals).clauses
rules_counted {L} {stage} {cells} {literals} s {k} e {n} h =
    h ∙ ap (λ (i : ℕ). get_or cells i 0) (e ∙ ap clause_sizes_at (sym s.limits) ∙ plain)
    ∙ sym (part_at (clause_sizes_at (limits_of cells)) (clause_count (limits_of cells)) cells 0 0 (omega arith))
    ∙ sym (rows_length (limits_of cells).literals (state_at cells literals).clauses (state_at cells literals).clause_sizes _)
  where
    plain : clause_sizes_at (limits_of cells) ≡ clause_sizes_at (limits_of cells) + 0
    plain = omega arith

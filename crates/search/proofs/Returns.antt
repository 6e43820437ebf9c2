-- What a visitor of an exists or forall variable returns, by what its two sides gave.
use Prim.Native.Nat.{ℕ, suc, ◌+◌, ◌-◌, ◌≤◌, ◌<◌, zero-le}
use native.Mathlib.Omega.{arith}
use native.Mathlib.Numerals.{add-one}
use mathlib.Core.Path.{◌≡◌, refl, sym, ap, ◌∙◌, subst}
use mathlib.Core.Logic.{inl, inr}
use mathlib.Core.Bool.{Bool, true, false, true≢false}
use mathlib.Core.List.{List, [], ◌∷◌, ◌++◌}
use lib.ListN.{length, drop}
use lib.Dec.{eqb}
use Rattle.qbf.specs.Formula.{paper, Quantifier, Prefix, Clause, Node, ◌▹◌, quantifiers, quantifier_at}
use Rattle.qbf.specs.Truth.{Outcome, DecidedNode, decided, mixed}
use Rattle.qbf.specs.Learning.{Constraint, Store, LearningResult, visit, below, branch}
use Rattle.qbf.specs.Ceiling.{Attempt, finished, stopped, visit_within, below_within}
use Rattle.theory.proofs.CeilingLaws.{off_stops}
use Rattle.theory.proofs.Visits.{on_visits}
use Rattle.theory.proofs.Verdict.{NoFree}
use Rattle.theory.proofs.Search.{Below}
use Rattle.theory.proofs.Unmixed.{Unmixed}
use Rattle.theory.proofs.WellFormed.{numbers_ok}
use Rattle.tables.specs.Views.{quantifier_code}
use Rattle.tables.specs.Records.{Ledger, StoreKept}
use Rattle.cover.specs.Cover.{Covers}
use Rattle.inner.specs.Formed.{Formed}
use Rattle.node.specs.Node.{bounds_of, entry_of, Reads, Ended, Shown, goes_up_of, onward_of, resolvent_of, Fits, new_lines, Joined}
use Rattle.both_sides.specs.Step.{OnwardIn}
use Rattle.search.specs.Search.{Kept, Task, Opened, Done, Halted, Result, SideVisited, branch_of}
use Rattle.node.specs.declared.Verdict.{Verdict}
use Rattle.node.specs.declared.Verdict.TheVariants.{Yes, No, Mixed}
use Rattle.node.specs.declared.position.Position.{Position}
use Rattle.node.specs.declared.answer.Answer.{Answer}
use Rattle.search.proofs.Counts as counts
use Rattle.search.proofs.Keeping.{kept_up, opened_at, opened_on}
use Rattle.inner.proofs.Stepping.{facts}
use Rattle.search.proofs.Branching.{goes_on, goes_up_within, goes_on_within, stops_within, Came, came, side_at_lem, formed_on, shaped_side, unmixed_side, unmixed_here, quantified, resolvent_fits, ended}

-- ---- what `up_or_aside` ensures
abbrev pub UpSays : Answer → ℕ → List ℕ → ℕ → Bool → Type 0
UpSays off kind codes at t =
    ((D : Prefix) (κ : Quantifier) (o : Outcome Constraint) → quantifier_code κ ≡ kind → Reads D off.verdict codes o → Ended D (suc at) o → 1 ≤ off.budget → t ≡ goes_up_of D κ (suc at) o)
    × (off.verdict ≡ Mixed → off.budget ≡ 0 → t ≡ true)

onward_visits : (D : Prefix) (R : List Clause) (κ : Quantifier) (s : Node) (a o : Outcome Constraint) (st : Store) (k : ℕ) → (onward_of D R κ s a o st k).visits ≡ k
onward_visits D R κ s (decided b e) o st k = on_visits paper D R κ s b e o st k
onward_visits D R κ s (mixed ds) o st k = refl

pub unmixed_lines : (y : Bool) (ks : List Quantifier) (o : Outcome Constraint) → Unmixed ks o → NoFree ks → new_lines y o ≡ []
unmixed_lines y ks (decided v e) h n = refl
unmixed_lines y ks (mixed ds) h n = absurd (h n)

-- ---- the on side was stopped: to the code it is Mixed without nodes, so nothing is joined
reads_mixed : (D : Prefix) (v : Verdict) (cs : List ℕ) (ds : List DecidedNode) → Reads D v cs (mixed ds) → v ≡ Mixed
reads_mixed D Yes cs ds (e, p, c) = absurd (never p)
  where
    never : {x : Constraint} → mixed ds ≡ decided true x → ⊥
    never {x} q = let z : ◌≡◌ {A = ℕ} 0 1 = cc in omega arith
reads_mixed D No cs ds (e, p, c) = absurd (never p)
  where
    never : {x : Constraint} → mixed ds ≡ decided false x → ⊥
    never {x} q = let z : ◌≡◌ {A = ℕ} 0 1 = cc in omega arith
reads_mixed D Mixed cs ds h = refl

mixed_reads : (D : Prefix) (v : Verdict) (cs : List ℕ) → v ≡ Mixed → Reads D v cs (mixed [])
mixed_reads D v cs e = subst (λ (x : Verdict). Reads D x cs (mixed [])) (sym e) ([], refl)

fits_mixed : (D : Prefix) (p : ℕ) (a : Outcome Constraint) → Fits D (resolvent_of D p a (mixed []))
fits_mixed D p (decided b e) = (zero-le, omega arith)
fits_mixed D p (mixed ds) = (zero-le, omega arith)

joined_mixed : (D : Prefix) (R : List Clause) (κ : Quantifier) (s : Node) (a : Outcome Constraint) (st : Store) (k : ℕ) {g : Ledger} {r : Answer} {cls up cs cl qs ql : List ℕ}
    → Joined D g (onward_of D R κ s a (mixed []) st k) r cls up cs cl qs ql → (r.verdict ≡ Mixed) × StoreKept D g st cs cl qs ql
joined_mixed D R κ s (decided b e) st k {r = r} j = (reads_mixed D r.verdict _ _ j.verdict, j.stored)
joined_mixed D R κ s (mixed ds) st k {r = r} j = (reads_mixed D r.verdict _ _ j.verdict, j.stored)

module _ {cls sets kd ss cs cl qs ql tb sat mk : List ℕ} (κ : Quantifier) (kind : ℕ) (code : quantifier_code κ ≡ kind) (p : Position)
    (q : Position) (eq : q ≡ counts.below p (p.budget - 1) p.lines) (off : Answer) {up₁ cs₁ cl₁ qs₁ ql₁ tb₁ : List ℕ}
    (offs : SideVisited 1 q off cls sets kd ss cs cl qs ql tb sat mk up₁ cs₁ cl₁ qs₁ ql₁ tb₁) (t : Bool) (ups : UpSays off kind (entry_of off cls cs₁ qs₁ up₁) p.at t) where
  module _ (D : Prefix) (s : Node) (ls : List Node) (R : List Clause) (g : Ledger) (st : Store) (task : Task D s ls R g st cls sets kd ss cs cl qs ql tb p.at p)
      (opened : Opened D s R p sat mk) (inside : p.at < length D) (is : quantifier_at D (suc p.at) ≡ κ) where
    abbrev below_here : List Quantifier
    below_here = drop (p.at + 1) (quantifiers D)

    abbrev side : Node → Store → LearningResult
    side = visit D R eqb (below paper D R below_here)

    abbrev pub tried : ℕ → Node → Store → Attempt
    tried = visit_within D R eqb (below_within paper D R below_here)

    abbrev pub off_r : LearningResult
    off_r = side (s ▹ false) st

    -- the branch of the full search
    abbrev pub whole_r : LearningResult
    whole_r = branch paper D R κ side s st

    at_side : (x : Position) (v l : ℕ) → x ≡ counts.below p v l → suc p.at ≡ x.at
    at_side x v l e = sym (add-one p.at) ∙ sym (ap (λ (y : Position). y.at) e)

    one_less : (p.budget - 1) - 1 ≡ p.budget - 2
    one_less = omega arith

    pub off_came : Came D R below_here (p.budget - 2) (s ▹ false) st g ls (counts.below p (p.budget - 1) p.lines) off cls up₁ cs₁ cl₁ qs₁ ql₁ tb₁
    off_came =
        came D R below_here (p.budget - 2) (s ▹ false) st
        (subst (λ (n : ℕ). Result D g ls (tried n (s ▹ false) st) (counts.below p (p.budget - 1) p.lines) off cls up₁ cs₁ cl₁ qs₁ ql₁ tb₁) one_less
        (side_at_lem D R (s ▹ false) st eq
        (offs.result D s false ls R g st p.at
        (subst (Task D s ls R g st cls sets kd ss cs cl qs ql tb p.at) (sym eq)
        (record { shown = task.shown; formed = task.formed; matrix = task.matrix; stored = task.stored; ruled = task.ruled; frees = task.frees; covers = task.covers; counted = task.counted; trues = task.trues; falses = task.falses }))
        (opened_at p q (p.budget - 1) p.lines eq opened) inside (at_side q (p.budget - 1) p.lines eq) refl)))

    ended_off : Ended D (suc p.at) off_r.outcome
    ended_off = ended D s false p.at off_r.outcome task.shown.long (shaped_side D R κ s p.at task.shown.long inside is false st task.formed)

    -- the off side came to its end
    module _ (end : tried (p.budget - 2) (s ▹ false) st ≡ finished off_r) (w : Done D g ls off_r (counts.below p (p.budget - 1) p.lines) off cls up₁ cs₁ cl₁ qs₁ ql₁ tb₁) where
      tested : t ≡ goes_up_of D κ (suc (length s)) off_r.outcome
      tested = ups.0 D κ off_r.outcome code w.verdict ended_off w.left ∙ ap (λ (i : ℕ). goes_up_of D κ (suc i) off_r.outcome) (sym task.shown.long)

      -- its result goes up
      up_ended : t ≡ true → Result D g ls (branch_of D R κ p s st) p off cls up₁ cs₁ cl₁ qs₁ ql₁ tb₁
      up_ended e =
          subst (λ (x : Attempt). Result D g ls x p off cls up₁ cs₁ cl₁ qs₁ ql₁ tb₁) (sym (goes_up_within D R κ tried (p.budget - 2) s st off_r end (sym tested ∙ e)))
          (record { says = record { verdict = w.verdict; stored = w.stored; visited = omega (arith, w.visited, w.left); left = w.left; covers = w.covers; counted = w.counted } })

      module _ {tbₐ : List ℕ} (l : ℕ) {ss₁ sat₁ mk₁ : List ℕ} (kept : Kept q.at q.words ss ss₁ tb tb₁ sat sat₁ mk mk₁) (q' : Position) (eq' : q' ≡ counts.below p off.budget l) (on : Answer)
          {up₂ cs₂ cl₂ qs₂ ql₂ tb₂ : List ℕ} (ons : SideVisited 2 q' on cls sets kd ss₁ cs₁ cl₁ qs₁ ql₁ tbₐ sat₁ mk₁ up₂ cs₂ cl₂ qs₂ ql₂ tb₂)
          (ls₁ : List Node) (cov : Covers p.free tbₐ ls₁) (cnt : l ≡ length ls₁) where
        abbrev pub on_r : LearningResult
        on_r = side (s ▹ true) off_r.store

        -- what the on side may make
        abbrev pub on_n : ℕ
        on_n = (p.budget - 2) - off_r.visits

        shown_on : Shown D s kd ss₁ p.at
        shown_on = subst (λ (x : List ℕ). Shown D s kd x p.at) (sym kept.statuses_restored) task.shown

        open_on : Opened D s R p sat₁ mk₁
        open_on = opened_on opened task.shown.long (kept_up p q (p.budget - 1) p.lines eq kept)

        formed_off : Formed D R off_r.store
        formed_off = formed_on D R κ s p.at task.shown.long inside is st task.formed

        remains : off.budget - 1 ≡ on_n
        remains = omega (arith, w.visited, w.left)

        pub on_came : Came D R below_here on_n (s ▹ true) off_r.store g ls₁ (counts.below p off.budget l) on cls up₂ cs₂ cl₂ qs₂ ql₂ tb₂
        on_came =
            came D R below_here on_n (s ▹ true) off_r.store
            (subst (λ (n : ℕ). Result D g ls₁ (tried n (s ▹ true) off_r.store) (counts.below p off.budget l) on cls up₂ cs₂ cl₂ qs₂ ql₂ tb₂) remains
            (side_at_lem D R (s ▹ true) off_r.store eq'
            (ons.result D s true ls₁ R g off_r.store p.at
            (subst (Task D s ls₁ R g off_r.store cls sets kd ss₁ cs₁ cl₁ qs₁ ql₁ tbₐ p.at) (sym eq')
            (record { shown = shown_on; formed = formed_off; matrix = task.matrix; stored = w.stored; ruled = task.ruled; frees = task.frees; covers = cov; counted = cnt; trues = task.trues; falses = task.falses }))
            (opened_at p q' off.budget l eq' open_on) inside (at_side q' off.budget l eq') refl)))

        module _ (saved : List ℕ) (aside : saved ≡ entry_of off cls cs₁ qs₁ up₁) (r : Answer) {cs₃ cl₃ qs₃ ql₃ : List ℕ}
            (fins : OnwardIn off.verdict kind p.at saved on kd cls up₂ cs₂ cl₂ qs₂ ql₂ r cs₃ cl₃ qs₃ ql₃) (unup : t ≡ false) where
          abbrev k : ℕ
          k = suc (off_r.visits + on_r.visits)

          off_reads : Reads D off.verdict saved off_r.outcome
          off_reads = subst (λ (x : List ℕ). Reads D off.verdict x off_r.outcome) (sym aside) w.verdict

          -- the on side was stopped
          pub on_halted : (z : Store) → tried on_n (s ▹ true) off_r.store ≡ stopped z → Halted D g z on cs₂ cl₂ qs₂ ql₂ → r.budget ≡ on.budget → (n : ℕ) {tb₃ : List ℕ}
              → Result D g ls (branch_of D R κ p s st) p (counts.answered r.verdict (bounds_of r) r.budget n) cls up₂ cs₃ cl₃ qs₃ ql₃ tb₃
          on_halted z e h same n {tb₃} =
              subst (λ (x : Attempt). Result D g ls x p (counts.answered r.verdict (bounds_of r) r.budget n) cls up₂ cs₃ cl₃ qs₃ ql₃ tb₃)
              (sym (stops_within D R κ tried (p.budget - 2) s st off_r end z (sym tested ∙ unup) e))
              (record { says = record { verdict = m.0; stored = m.1; spent = same ∙ h.spent } })
            where
              m : (r.verdict ≡ Mixed) × StoreKept D g z cs₃ cl₃ qs₃ ql₃
              m =
                  joined_mixed D R κ s off_r.outcome z k
                  (fins D R s κ off_r.outcome (mixed []) g z k task.shown.quantified task.shown.long code off_reads (mixed_reads D on.verdict _ h.verdict) ended_off tt
                  (fits_mixed D (suc p.at) off_r.outcome) task.ruled h.stored)

          -- the on side came to its end
          module _ (end₂ : tried on_n (s ▹ true) off_r.store ≡ finished on_r) (w₂ : Done D g ls₁ on_r (counts.below p off.budget l) on cls up₂ cs₂ cl₂ qs₂ ql₂ tb₂) where
            pub onward_is : whole_r ≡ onward_of D R κ s off_r.outcome on_r.outcome on_r.store k
            onward_is = goes_on D R κ side s st (sym tested ∙ unup)

            -- so did the branch
            pub both_end : branch_of D R κ p s st ≡ finished whole_r
            both_end = goes_on_within D R κ tried (p.budget - 2) s st off_r end on_r (sym tested ∙ unup) end₂ ∙ ap finished (sym onward_is)

            shaped_on : (b : Bool) → Ended D (suc p.at) (side (s ▹ b) off_r.store).outcome
            shaped_on b =
                ended D s b p.at (side (s ▹ b) off_r.store).outcome task.shown.long (shaped_side D R κ s p.at task.shown.long inside is b off_r.store formed_off)

            pub joined : Joined D g whole_r r cls up₂ cs₃ cl₃ qs₃ ql₃
            joined =
                subst (λ (x : LearningResult). Joined D g x r cls up₂ cs₃ cl₃ qs₃ ql₃) (sym onward_is)
                (fins D R s κ off_r.outcome on_r.outcome g on_r.store k task.shown.quantified task.shown.long code off_reads w₂.verdict ended_off (shaped_on true)
                (resolvent_fits D (suc p.at) (s ▹ false) (s ▹ true) off_r.outcome on_r.outcome (numbers_ok _ (facts task.formed))
                (shaped_side D R κ s p.at task.shown.long inside is false st task.formed) (shaped_side D R κ s p.at task.shown.long inside is true off_r.store formed_off))
                task.ruled w₂.stored)

            pub visits_both : r.budget ≡ on.budget → r.budget + whole_r.visits ≡ p.budget
            visits_both e =
                let v : whole_r.visits ≡ k = ap (λ (x : LearningResult). x.visits) onward_is ∙ onward_visits D R κ s off_r.outcome on_r.outcome on_r.store k in
                omega (arith, e, v, w.visited, w.left, w₂.visited)

    -- the off side's result goes up, and so does its stop
    pub up_result : t ≡ true → Result D g ls (branch_of D R κ p s st) p off cls up₁ cs₁ cl₁ qs₁ ql₁ tb₁
    up_result e = by off_came
      where
        by : Came D R below_here (p.budget - 2) (s ▹ false) st g ls (counts.below p (p.budget - 1) p.lines) off cls up₁ cs₁ cl₁ qs₁ ql₁ tb₁
            → Result D g ls (branch_of D R κ p s st) p off cls up₁ cs₁ cl₁ qs₁ ql₁ tb₁
        by (inl (end, w)) = up_ended end w e
        by (inr (z, x, h)) = subst (λ (y : Attempt). Result D g ls y p off cls up₁ cs₁ cl₁ qs₁ ql₁ tb₁) (sym (off_stops paper D R κ tried (p.budget - 2) s st z x)) (record { says = h })

    -- a side that does not go up came to its end
    pub off_ended : t ≡ false → (tried (p.budget - 2) (s ▹ false) st ≡ finished off_r) × Done D g ls off_r (counts.below p (p.budget - 1) p.lines) off cls up₁ cs₁ cl₁ qs₁ ql₁ tb₁
    off_ended e = by off_came
      where
        by : Came D R below_here (p.budget - 2) (s ▹ false) st g ls (counts.below p (p.budget - 1) p.lines) off cls up₁ cs₁ cl₁ qs₁ ql₁ tb₁
            → (tried (p.budget - 2) (s ▹ false) st ≡ finished off_r) × Done D g ls off_r (counts.below p (p.budget - 1) p.lines) off cls up₁ cs₁ cl₁ qs₁ ql₁ tb₁
        by (inl x) = x
        by (inr (z, x, h)) = absurd (true≢false (sym (ups.1 h.verdict h.spent) ∙ e))

  -- at an exists or forall variable no side is Mixed, so there are no new lines
  module _ (nofree : (qs : List Quantifier) → Below κ qs → NoFree (κ ∷ qs)) (nobelow : (qs : List Quantifier) → NoFree (κ ∷ qs) → NoFree qs)
      {ss₁ sat₁ mk₁ : List ℕ} (kept : Kept q.at q.words ss ss₁ tb tb₁ sat sat₁ mk mk₁) {tbₐ : List ℕ} (same : tbₐ ≡ tb₁) (l : ℕ) (lines : l ≡ off.lines)
      (q' : Position) (eq' : q' ≡ counts.below p off.budget l) (on : Answer) {up₂ cs₂ cl₂ qs₂ ql₂ tb₂ : List ℕ}
      (ons : SideVisited 2 q' on cls sets kd ss₁ cs₁ cl₁ qs₁ ql₁ tbₐ sat₁ mk₁ up₂ cs₂ cl₂ qs₂ ql₂ tb₂)
      (saved : List ℕ) (aside : saved ≡ entry_of off cls cs₁ qs₁ up₁) (r : Answer) {cs₃ cl₃ qs₃ ql₃ : List ℕ}
      (fins : OnwardIn off.verdict kind p.at saved on kd cls up₂ cs₂ cl₂ qs₂ ql₂ r cs₃ cl₃ qs₃ ql₃) (unup : t ≡ false)
      (visits : r.budget ≡ on.budget) {tb₃ : List ℕ} (same₃ : tb₃ ≡ tb₂) (n : ℕ) (lines₃ : n ≡ on.lines) where
    pub both_result : (D : Prefix) (s : Node) (ls : List Node) (R : List Clause) (g : Ledger) (st : Store) → Task D s ls R g st cls sets kd ss cs cl qs ql tb p.at p
        → Opened D s R p sat mk → p.at < length D → quantifier_at D (suc p.at) ≡ κ
        → Result D g ls (branch_of D R κ p s st) p (counts.answered r.verdict (bounds_of r) r.budget n) cls up₂ cs₃ cl₃ qs₃ ql₃ tb₃
    both_result D s ls R g st task opened inside is = by (on_came D s ls R g st task opened inside is end w l kept q' eq' on ons (ls ++ new_lines p.yes a) cov cnt)
      where
        a : Outcome Constraint
        a = (off_r D s ls R g st task opened inside is).outcome

        ks' : List Quantifier
        ks' = drop (p.at + 1) (quantifiers D)

        full : LearningResult
        full = whole_r D s ls R g st task opened inside is

        end : tried D s ls R g st task opened inside is (p.budget - 2) (s ▹ false) st ≡ finished (off_r D s ls R g st task opened inside is)
        end = (off_ended D s ls R g st task opened inside is unup).0

        w : Done D g ls (off_r D s ls R g st task opened inside is) (counts.below p (p.budget - 1) p.lines) off cls up₁ cs₁ cl₁ qs₁ ql₁ tb₁
        w = (off_ended D s ls R g st task opened inside is unup).1

        cov : Covers p.free tbₐ (ls ++ new_lines p.yes a)
        cov = subst (λ (x : List ℕ). Covers p.free x (ls ++ new_lines p.yes a)) (sym same) w.covers

        cnt : l ≡ length (ls ++ new_lines p.yes a)
        cnt = lines ∙ w.counted

        on_res : LearningResult
        on_res = on_r D s ls R g st task opened inside is end w l kept q' eq' on ons (ls ++ new_lines p.yes a) cov cnt

        nothing : NoFree (κ ∷ ks')
        nothing = nofree ks' (quantified D R κ s p.at task.shown.long inside is st task.formed)

        no_off : new_lines p.yes a ≡ []
        no_off = unmixed_lines p.yes ks' a (unmixed_side D R κ s p.at task.shown.long inside is false st task.formed) (nobelow ks' nothing)

        o : Outcome Constraint
        o = on_res.outcome

        no_on : new_lines p.yes o ≡ []
        no_on =
            unmixed_lines p.yes ks' o
            (unmixed_side D R κ s p.at task.shown.long inside is true (off_r D s ls R g st task opened inside is).store (formed_on D R κ s p.at task.shown.long inside is st task.formed)) (nobelow ks' nothing)

        no_here : new_lines p.yes full.outcome ≡ []
        no_here = unmixed_lines p.yes (κ ∷ ks') full.outcome (unmixed_here D R κ s p.at task.shown.long inside is st task.formed) nothing

        last : (xs : List Node) → xs ++ [] ≡ xs
        last [] = refl
        last (x ∷ xs) = ap {B = List Node} (λ ys. x ∷ ys) (last xs)

        lists : (ls ++ new_lines p.yes a) ++ new_lines p.yes o ≡ ls ++ new_lines p.yes full.outcome
        lists = (λ i. (ls ++ no_off i) ++ no_on i) ∙ last (ls ++ []) ∙ sym (λ i. ls ++ no_here i)

        by : Came D R ks' ((p.budget - 2) - (off_r D s ls R g st task opened inside is).visits) (s ▹ true) (off_r D s ls R g st task opened inside is).store g (ls ++ new_lines p.yes a) (counts.below p off.budget l) on cls up₂ cs₂ cl₂ qs₂ ql₂ tb₂
            → Result D g ls (branch_of D R κ p s st) p (counts.answered r.verdict (bounds_of r) r.budget n) cls up₂ cs₃ cl₃ qs₃ ql₃ tb₃
        by (inr (z, e, h)) = on_halted D s ls R g st task opened inside is end w l kept q' eq' on ons (ls ++ new_lines p.yes a) cov cnt saved aside r fins unup z e h visits n
        by (inl (end₂, w₂)) =
            subst (λ (x : Attempt). Result D g ls x p (counts.answered r.verdict (bounds_of r) r.budget n) cls up₂ cs₃ cl₃ qs₃ ql₃ tb₃)
            (sym (both_end D s ls R g st task opened inside is end w l kept q' eq' on ons (ls ++ new_lines p.yes a) cov cnt saved aside r fins unup end₂ w₂))
            (record {
              says = record {
                verdict = j.verdict;
                stored = j.stored;
                visited = visits_both D s ls R g st task opened inside is end w l kept q' eq' on ons (ls ++ new_lines p.yes a) cov cnt saved aside r fins unup end₂ w₂ visits;
                left = omega (arith, visits, w₂.left);
                covers = subst (λ (x : List ℕ). Covers p.free x (ls ++ new_lines p.yes full.outcome)) (sym same₃) (subst (Covers p.free tb₂) lists w₂.covers);
                counted = lines₃ ∙ w₂.counted ∙ ap length lists;
              };
            })
          where
            j : Joined D g full r cls up₂ cs₃ cl₃ qs₃ ql₃
            j = joined D s ls R g st task opened inside is end w l kept q' eq' on ons (ls ++ new_lines p.yes a) cov cnt saved aside r fins unup end₂ w₂

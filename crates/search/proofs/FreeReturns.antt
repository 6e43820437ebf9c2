-- What the visitor of a free variable returns: its lines are those of the two sides, and two are one line above.
use Prim.Native.Nat.{ℕ, suc, ◌+◌, ◌-◌, ◌<◌}
use native.Mathlib.Omega.{arith}
use mathlib.Core.Path.{◌≡◌, refl, sym, ap, ◌∙◌, subst}
use mathlib.Core.Logic.{inl, inr}
use mathlib.Core.Bool.{Bool, true, false, cond, not, ◌&&◌, beq, true≢false, false≢true}
use mathlib.Core.List.{List, [], ◌∷◌, ◌++◌, append-nil, append_assoc}
use lib.ListN.{length, drop, length-append}
use Rattle.qbf.specs.Formula.{paper, free, Prefix, Clause, Node, ◌▹◌, quantifiers, quantifier_at}
use Rattle.qbf.specs.Truth.{Outcome, decided, mixed, decided_nodes, select}
use Rattle.qbf.specs.Learning.{Constraint, Store, LearningResult, mentions, resolve}
use Rattle.qbf.specs.Ceiling.{Attempt, finished}
use Rattle.qbf.specs.Card.{byte_of}
use Rattle.theory.proofs.Laws.{select_append}
use Rattle.theory.proofs.WellFormed.{free_before}
use Rattle.tables.specs.Views.{quantifier_code}
use Rattle.tables.specs.Codes.{Statuses}
use Rattle.tables.specs.Records.{Ledger}
use Rattle.cover.specs.Cover.{Covers}
use Rattle.node.specs.Node.{is_of, bounds_of, entry_of, Reads, onward_of, new_lines, Joined, LineTask, settled_lines, SettledTo}
use Rattle.both_sides.specs.Step.{OnwardIn}
use Rattle.search.specs.Search.{Kept, Task, Opened, Done, Result, SideVisited, branch_of}
use Rattle.node.specs.declared.Verdict.{Verdict}
use Rattle.node.specs.declared.Verdict.TheVariants.{Yes, No, Mixed}
use Rattle.node.specs.declared.position.Position.{Position}
use Rattle.node.specs.declared.answer.Answer.{Answer}
use Rattle.search.proofs.Counts as counts
use Rattle.inner.proofs.Stepping.{facts}
use Rattle.inner.proofs.Frees.{free_at}
use Rattle.search.proofs.Branching.{Came, rest}
use Rattle.search.proofs.Returns.{UpSays, tried, off_r, on_r, whole_r, off_ended, on_came, on_halted, joined, onward_is, both_end, visits_both}

-- ---- the lines of both sides, of the verdict y
-- the outcome is a line by itself
abbrev line_alone : Bool → Outcome Constraint → Bool
line_alone y (decided v e) = beq y v
line_alone y (mixed ds) = false

pub reads_line : (D : Prefix) (y : Bool) (v : Verdict) (cs : List ℕ) (o : Outcome Constraint) → Reads D v cs o → is_of y v ≡ line_alone y o
reads_line D y Yes cs o (e, p, c) = by y ∙ ap (line_alone y) (sym p)
  where
    by : (b : Bool) → b ≡ beq b true
    by true = refl
    by false = refl
reads_line D y No cs o (e, p, c) = by y ∙ ap (line_alone y) (sym p)
  where
    by : (b : Bool) → not b ≡ beq b false
    by true = refl
    by false = refl
reads_line D y Mixed cs o (ds, p) = ap (line_alone y) (sym p)

-- such an outcome has no others; else it has those of its decided nodes
alone : (y : Bool) (o : Outcome Constraint) → line_alone y o ≡ true → new_lines y o ≡ []
alone y (decided v e) h = refl
alone y (mixed ds) h = absurd (false≢true h)

all_lines_lem : (y : Bool) (x : Node) (o : Outcome Constraint) → new_lines y o ++ cond (line_alone y o) (x ∷ []) [] ≡ select y (decided_nodes x o)
all_lines_lem y x (decided v e) = refl
all_lines_lem y x (mixed ds) = append-nil (select y ds)

module _ (D : Prefix) (R : List Clause) (s : Node) (st : Store) (k : ℕ) where
  abbrev here : Bool → Outcome Constraint → Outcome Constraint → List Node
  here y a o = new_lines y (onward_of D R free s a o st k).outcome

  -- two decided sides of one verdict give no line here
  alike : (y v : Bool) (e g : Constraint) → here y (decided v e) (decided v g) ≡ []
  alike y true e g = by (mentions D (suc (length s)) g)
    where
      by : (x : Bool) → new_lines y (cond x (resolve paper D R s true e g st k) (record { outcome = decided true g; store = st; visits = k })).outcome ≡ []
      by true = refl
      by false = refl
  alike y false e g = by (mentions D (suc (length s)) g)
    where
      by : (x : Bool) → new_lines y (cond x (resolve paper D R s false e g st k) (record { outcome = decided false g; store = st; visits = k })).outcome ≡ []
      by true = refl
      by false = refl

  -- two lines: the node is one itself
  two_lines : (y : Bool) (a o : Outcome Constraint) → line_alone y a ≡ true → line_alone y o ≡ true → here y a o ≡ []
  two_lines y (mixed ds) o h g = absurd (false≢true h)
  two_lines y (decided b e) (mixed ds) h g = absurd (false≢true g)
  two_lines y (decided b e) (decided c f) h g = by y b c h g
    where
      by : (y b c : Bool) → beq y b ≡ true → beq y c ≡ true → here y (decided b e) (decided c f) ≡ []
      by true true true h g = alike true true e f
      by true true false h g = absurd (false≢true g)
      by true false c h g = absurd (false≢true h)
      by false true c h g = absurd (false≢true h)
      by false false true h g = absurd (false≢true g)
      by false false false h g = alike false false e f

  -- else the lines of the off side, then those of the on side
  other_lines : (y : Bool) (a o : Outcome Constraint) → (line_alone y a && line_alone y o) ≡ false
      → here y a o ≡ select y (decided_nodes (s ▹ false) a) ++ select y (decided_nodes (s ▹ true) o)
  other_lines y (mixed ds) o h = select_append y ds (decided_nodes (s ▹ true) o)
  other_lines y (decided b e) (mixed ds) h = select_append y (decided_nodes (s ▹ false) (decided b e)) ds
  other_lines y (decided b e) (decided c f) h = by y b c h
    where
      by : (y b c : Bool) → (beq y b && beq y c) ≡ false
          → here y (decided b e) (decided c f) ≡ select y (decided_nodes (s ▹ false) (decided b e)) ++ select y (decided_nodes (s ▹ true) (decided c f))
      by true true true h = absurd (true≢false h)
      by true true false h = refl
      by true false true h = refl
      by true false false h = alike true false e f
      by false true true h = alike false true e f
      by false true false h = refl
      by false false true h = refl
      by false false false h = absurd (true≢false h)

  module _ (y : Bool) (ls : List Node) (a o : Outcome Constraint) where
    -- the lines before both sides are settled, by whether the off side is one
    abbrev pub unsettled : Bool → List Node
    unsettled v = ((ls ++ new_lines y a) ++ cond v ((s ▹ false) ∷ []) []) ++ new_lines y o

    -- by whether each side is a line: the list that is settled to is that of the branch, and so is its length
    pub record Settles (v w : Bool) : Type 0 where
      pub covers : (f : ℕ) (tb : List ℕ) → SettledTo v w s (unsettled v) f tb → Covers f tb (ls ++ here y a o)
      pub counts : settled_lines v w (length (unsettled v)) ≡ length (ls ++ here y a o)

    settled_list : (v w : Bool) → v ≡ line_alone y a → w ≡ line_alone y o → (v && w) ≡ false → unsettled v ++ cond w ((s ▹ true) ∷ []) [] ≡ ls ++ here y a o
    settled_list v w h g n =
        append_assoc ((ls ++ new_lines y a) ++ off) (new_lines y o) on
        ∙ ap (λ (x : List Node). x ++ (new_lines y o ++ on)) (append_assoc ls (new_lines y a) off)
        ∙ append_assoc ls (new_lines y a ++ off) (new_lines y o ++ on)
        ∙ ap (λ (x : List Node). ls ++ x) (whole ∙ sym (other_lines y a o ((λ i. sym h i && sym g i) ∙ n)))
      where
        off : List Node
        off = cond v ((s ▹ false) ∷ []) []

        on : List Node
        on = cond w ((s ▹ true) ∷ []) []

        whole : (new_lines y a ++ off) ++ (new_lines y o ++ on) ≡ select y (decided_nodes (s ▹ false) a) ++ select y (decided_nodes (s ▹ true) o)
        whole =
            (λ i. (new_lines y a ++ cond (h i) ((s ▹ false) ∷ []) []) ++ (new_lines y o ++ cond (g i) ((s ▹ true) ∷ []) []))
            ∙ (λ i. all_lines_lem y (s ▹ false) a i ++ all_lines_lem y (s ▹ true) o i)

    pub settles : (v w : Bool) → v ≡ line_alone y a → w ≡ line_alone y o → Settles v w
    settles v false h g =
        record { covers = λ f tb x. subst (Covers f tb) list x; counts = ap length list }
      where
        none : (b : Bool) → (b && false) ≡ false
        none true = refl
        none false = refl

        list : unsettled v ≡ ls ++ here y a o
        list = sym (append-nil (unsettled v)) ∙ settled_list v false h g (none v)
    settles false true h g =
        record { covers = λ f tb x. subst (Covers f tb) list x; counts = sym (length-append (unsettled false) ((s ▹ true) ∷ [])) ∙ ap length list }
      where
        list : unsettled false ++ ((s ▹ true) ∷ []) ≡ ls ++ here y a o
        list = settled_list false true h g refl
    settles true true h g =
        record {
          covers = λ f tb x. subst (λ (ms : List Node). Covers f tb (ls ++ ms)) (alone y a (sym h) ∙ sym here_none) (x (ls ++ new_lines y a) (s ▹ false) list);
          counts = omega (arith, ap length list, length-append (ls ++ new_lines y a) ((s ▹ false) ∷ []), ap (λ (ms : List Node). length (ls ++ ms)) (alone y a (sym h) ∙ sym here_none));
        }
      where
        here_none : here y a o ≡ []
        here_none = two_lines y a o (sym h) (sym g)

        list : unsettled true ≡ (ls ++ new_lines y a) ++ ((s ▹ false) ∷ [])
        list = ap (λ (ms : List Node). ((ls ++ new_lines y a) ++ ((s ▹ false) ∷ [])) ++ ms) (alone y o (sym g)) ∙ append-nil ((ls ++ new_lines y a) ++ ((s ▹ false) ∷ []))

-- ---- the visitor
module _ {cls sets kd ss cs cl qs ql tb sat mk : List ℕ} (kind : ℕ) (code : quantifier_code free ≡ kind) (p q : Position) (eq : q ≡ counts.below p (p.budget - 1) p.lines)
    (off : Answer) {up₁ cs₁ cl₁ qs₁ ql₁ tb₁ : List ℕ} (offs : SideVisited 1 q off cls sets kd ss cs cl qs ql tb sat mk up₁ cs₁ cl₁ qs₁ ql₁ tb₁) (t : Bool)
    (ups : UpSays off kind (entry_of off cls cs₁ qs₁ up₁) p.at t) {ss₁ sat₁ mk₁ : List ℕ} (kept : Kept q.at q.words ss ss₁ tb tb₁ sat sat₁ mk mk₁)
    (one : Bool) (one_is : one ≡ is_of p.yes off.verdict) {tbₐ : List ℕ} (l : ℕ) (counted : l ≡ cond one (off.lines + 1) off.lines)
    (lined : (s : Node) (b : Bool) (ls : List Node) → LineTask s ls ss₁ tb₁ p.at p.free off.lines → 1 ≡ byte_of b → Covers p.free tbₐ (ls ++ cond one ((s ▹ b) ∷ []) []))
    (q' : Position) (eq' : q' ≡ counts.below p off.budget l) (on : Answer) {up₂ cs₂ cl₂ qs₂ ql₂ tb₂ : List ℕ}
    (ons : SideVisited 2 q' on cls sets kd ss₁ cs₁ cl₁ qs₁ ql₁ tbₐ sat₁ mk₁ up₂ cs₂ cl₂ qs₂ ql₂ tb₂)
    (saved : List ℕ) (aside : saved ≡ entry_of off cls cs₁ qs₁ up₁) (r : Answer) {cs₃ cl₃ qs₃ ql₃ : List ℕ}
    (fins : OnwardIn off.verdict kind p.at saved on kd cls up₂ cs₂ cl₂ qs₂ ql₂ r cs₃ cl₃ qs₃ ql₃) (unup : t ≡ false) (visits : r.budget ≡ on.budget)
    {ss₂ : List ℕ} (same₂ : ss₂ ≡ ss₁) (two : Bool) (two_is : two ≡ is_of p.yes on.verdict) (tb₃ : List ℕ) (n : ℕ) (settled : n ≡ settled_lines one two on.lines)
    (settling : (s : Node) (ls : List Node) → LineTask s ls ss₂ tb₂ p.at p.free on.lines → SettledTo one two s ls p.free tb₃) where
  pub free_result : (D : Prefix) (s : Node) (ls : List Node) (R : List Clause) (g : Ledger) (st : Store) → Task D s ls R g st cls sets kd ss cs cl qs ql tb p.at p
      → Opened D s R p sat mk → p.at < length D → quantifier_at D (suc p.at) ≡ free
      → Result D g ls (branch_of D R free p s st) p (counts.answered r.verdict (bounds_of r) r.budget n) cls up₂ cs₃ cl₃ qs₃ ql₃ tb₃
  free_result D s ls R g st task opened inside is = by (on_came free kind code p q eq off offs t ups D s ls R g st task opened inside is end w l kept q' eq' on ons ls₁ cov cnt)
    where
      end : tried free kind code p q eq off offs t ups D s ls R g st task opened inside is (p.budget - 2) (s ▹ false) st ≡ finished (off_r free kind code p q eq off offs t ups D s ls R g st task opened inside is)
      end = (off_ended free kind code p q eq off offs t ups D s ls R g st task opened inside is unup).0

      w : Done D g ls (off_r free kind code p q eq off offs t ups D s ls R g st task opened inside is) (counts.below p (p.budget - 1) p.lines) off cls up₁ cs₁ cl₁ qs₁ ql₁ tb₁
      w = (off_ended free kind code p q eq off offs t ups D s ls R g st task opened inside is unup).1

      a : Outcome Constraint
      a = (off_r free kind code p q eq off offs t ups D s ls R g st task opened inside is).outcome

      full : LearningResult
      full = whole_r free kind code p q eq off offs t ups D s ls R g st task opened inside is

      -- the place is a free one
      among : p.at < p.free
      among =
          omega (
            arith,
            task.frees,
            task.shown.long,
            free_at (quantifiers D) (length s) (drop (p.at + 1) (quantifiers D)) (free_before _ (facts task.formed)) (rest D R free s p.at task.shown.long inside is),
          )

      line_task : (xs : List ℕ) → xs ≡ ss → (ys : List ℕ) (ms : List Node) (i : ℕ) → Covers p.free ys ms → i ≡ length ms → LineTask s ms xs ys p.at p.free i
      line_task xs e ys ms i c h =
          record { statused = subst (Statuses s) (sym e) task.shown.statused; long = task.shown.long; inside = among; covers = c; counted = h }

      ls₁ : List Node
      ls₁ = (ls ++ new_lines p.yes a) ++ cond one ((s ▹ false) ∷ []) []

      cov : Covers p.free tbₐ ls₁
      cov = lined s false (ls ++ new_lines p.yes a) (line_task ss₁ kept.statuses_restored tb₁ (ls ++ new_lines p.yes a) off.lines w.covers w.counted) refl

      cnt : l ≡ length ls₁
      cnt = counted ∙ one_more one ∙ sym (length-append (ls ++ new_lines p.yes a) (cond one ((s ▹ false) ∷ []) []))
        where
          one_more : (v : Bool) → cond v (off.lines + 1) off.lines ≡ length (ls ++ new_lines p.yes a) + length (cond v ((s ▹ false) ∷ []) [])
          one_more true = omega (arith, w.counted)
          one_more false = omega (arith, w.counted)

      on_res : LearningResult
      on_res = on_r free kind code p q eq off offs t ups D s ls R g st task opened inside is end w l kept q' eq' on ons ls₁ cov cnt

      o : Outcome Constraint
      o = on_res.outcome

      st' : Store
      st' = on_res.store

      k : ℕ
      k = suc ((off_r free kind code p q eq off offs t ups D s ls R g st task opened inside is).visits + on_res.visits)

      ls₂ : List Node
      ls₂ = unsettled D R s st' k p.yes ls a o one

      by : Came D R (drop (p.at + 1) (quantifiers D)) ((p.budget - 2) - (off_r free kind code p q eq off offs t ups D s ls R g st task opened inside is).visits) (s ▹ true) (off_r free kind code p q eq off offs t ups D s ls R g st task opened inside is).store g ls₁ (counts.below p off.budget l) on cls up₂ cs₂ cl₂ qs₂ ql₂ tb₂
          → Result D g ls (branch_of D R free p s st) p (counts.answered r.verdict (bounds_of r) r.budget n) cls up₂ cs₃ cl₃ qs₃ ql₃ tb₃
      by (inr (z, e, h)) = on_halted free kind code p q eq off offs t ups D s ls R g st task opened inside is end w l kept q' eq' on ons ls₁ cov cnt saved aside r fins unup z e h visits n
      by (inl (end₂, z)) =
          subst (λ (x : Attempt). Result D g ls x p (counts.answered r.verdict (bounds_of r) r.budget n) cls up₂ cs₃ cl₃ qs₃ ql₃ tb₃)
          (sym (both_end free kind code p q eq off offs t ups D s ls R g st task opened inside is end w l kept q' eq' on ons ls₁ cov cnt saved aside r fins unup end₂ z))
          (record {
            says = record {
              verdict = j.verdict;
              stored = j.stored;
              visited = visits_both free kind code p q eq off offs t ups D s ls R g st task opened inside is end w l kept q' eq' on ons ls₁ cov cnt saved aside r fins unup end₂ z visits;
              left = omega (arith, visits, z.left);
              covers = subst (λ (x : LearningResult). Covers p.free tb₃ (ls ++ new_lines p.yes x.outcome)) (sym whole) (s₂.covers p.free tb₃ (settling s ls₂ (line_task ss₂ (same₂ ∙ kept.statuses_restored) tb₂ ls₂ on.lines z.covers z.counted)));
              counted = settled ∙ ap (settled_lines one two) z.counted ∙ s₂.counts ∙ ap (λ (x : LearningResult). length (ls ++ new_lines p.yes x.outcome)) (sym whole);
            };
          })
        where
          j : Joined D g full r cls up₂ cs₃ cl₃ qs₃ ql₃
          j = joined free kind code p q eq off offs t ups D s ls R g st task opened inside is end w l kept q' eq' on ons ls₁ cov cnt saved aside r fins unup end₂ z

          whole : full ≡ onward_of D R free s a o st' k
          whole = onward_is free kind code p q eq off offs t ups D s ls R g st task opened inside is end w l kept q' eq' on ons ls₁ cov cnt saved aside r fins unup end₂ z

          s₂ : Settles D R s st' k p.yes ls a o one two
          s₂ =
              settles D R s st' k p.yes ls a o one two (one_is ∙ reads_line D p.yes off.verdict (entry_of off cls cs₁ qs₁ up₁) a w.verdict)
              (two_is ∙ reads_line D p.yes on.verdict (entry_of on cls cs₂ qs₂ up₂) o z.verdict)

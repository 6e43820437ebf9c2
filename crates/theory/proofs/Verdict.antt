-- The verdict by quantification, from who wins.
use mathlib.Core.Path.{◌≡◌, refl, sym, ap, ◌∙◌}
use mathlib.Core.Logic.{◌⊎◌, inl, inr}
use mathlib.Core.Bool.{Bool, true, false, cond, ◌&&◌, ◌||◌, true≢false}
use mathlib.Core.List.{List, [], ◌∷◌, ◌++◌}
use Rattle.qbf.specs.Formula.{Clause, Node, Prefix, Quantifier, ◌▹◌, exists, forall, free}
use Rattle.qbf.specs.Truth.{DecidedNode, Outcome, completions, decided, decided_nodes, mixed, outline, verdict_of}
use Rattle.theory.proofs.Basics.{or_cases, or_left, or_right, and_left, and_right, and_both}
use Rattle.theory.proofs.Game.{Win}

pub decided_outline : {X : Type 0} (s : Node) (o : Outcome X) → decided_nodes s (outline o) ≡ decided_nodes s o
decided_outline s (decided v x) = refl
decided_outline s (mixed ls) = refl

-- all completions are true, some completion is
abbrev pub every : {X : Type 0} → Outcome X → Bool
every (decided v x) = v
every (mixed ls) = false

abbrev pub some_one : {X : Type 0} → Outcome X → Bool
some_one (decided v x) = v
some_one (mixed ls) = true

abbrev pub NoFree : List Quantifier → Type 0
NoFree [] = Unit {0}
NoFree (free ∷ ks) = ⊥
NoFree (exists ∷ ks) = NoFree ks
NoFree (forall ∷ ks) = NoFree ks

module _ (D : Prefix) (R : List Clause) where
  pub consistent : (ks : List Quantifier) (s : Node) → completions false D R ks s ≡ true → completions true D R ks s ≡ true
  consistent [] s e = e
  consistent (free ∷ ks) s e = or_left (completions true D R ks (s ▹ false)) (completions true D R ks (s ▹ true)) (consistent ks (s ▹ false) (and_left (completions false D R ks (s ▹ false)) (completions false D R ks (s ▹ true)) e))
  consistent (exists ∷ ks) s e = by (or_cases (completions false D R ks (s ▹ false)) (completions false D R ks (s ▹ true)) e) (consistent ks (s ▹ false)) (consistent ks (s ▹ true))
    where
      by : (completions false D R ks (s ▹ false) ≡ true) ⊎ (completions false D R ks (s ▹ true) ≡ true)
          → (completions false D R ks (s ▹ false) ≡ true → completions true D R ks (s ▹ false) ≡ true) → (completions false D R ks (s ▹ true) ≡ true → completions true D R ks (s ▹ true) ≡ true)
          → (completions true D R ks (s ▹ false) || completions true D R ks (s ▹ true)) ≡ true
      by (inl h) a b = or_left (completions true D R ks (s ▹ false)) (completions true D R ks (s ▹ true)) (a h)
      by (inr h) a b = or_right (completions true D R ks (s ▹ false)) (completions true D R ks (s ▹ true)) (b h)
  consistent (forall ∷ ks) s e =
      and_both (completions true D R ks (s ▹ false)) (completions true D R ks (s ▹ true))
      (consistent ks (s ▹ false) (and_left (completions false D R ks (s ▹ false)) (completions false D R ks (s ▹ true)) e))
      (consistent ks (s ▹ true) (and_right (completions false D R ks (s ▹ false)) (completions false D R ks (s ▹ true)) e))

  pub without_free : (ks : List Quantifier) (s : Node) → NoFree ks → completions false D R ks s ≡ completions true D R ks s
  without_free [] s n = refl
  without_free (free ∷ ks) s n = absurd n
  without_free (exists ∷ ks) s n = λ i. without_free ks (s ▹ false) n i || without_free ks (s ▹ true) n i
  without_free (forall ∷ ks) s n = λ i. without_free ks (s ▹ false) n i && without_free ks (s ▹ true) n i

  pub never : (ks : List Quantifier) (s : Node) → completions true D R ks s ≡ false → completions false D R ks s ≡ false
  never ks s e = by (completions false D R ks s) (consistent ks s)
    where
      by : (b : Bool) → (b ≡ true → completions true D R ks s ≡ true) → b ≡ false
      by true h = absurd (true≢false (sym (h refl) ∙ e))
      by false h = refl

  pub verdict_win : (v : Bool) (ks : List Quantifier) (s : Node) → Win D R v ks s → verdict_of D R ks s ≡ decided v tt
  verdict_win true [] s w = ap (λ (b : Bool). cond b (decided true tt) (decided false tt)) w
  verdict_win false [] s w = ap (λ (b : Bool). cond b (decided true tt) (decided false tt)) w
  verdict_win true (κ ∷ ks) s w =
      ap (λ (b : Bool). cond b (decided true tt) (cond (completions true D R (κ ∷ ks) s) (mixed (decided_nodes (s ▹ false) (verdict_of D R ks (s ▹ false)) ++ decided_nodes (s ▹ true) (verdict_of D R ks (s ▹ true)))) (decided false tt))) w
  verdict_win false (κ ∷ ks) s w =
      ap (λ (b : Bool). cond b (decided true tt) (cond (completions true D R (κ ∷ ks) s) (mixed (decided_nodes (s ▹ false) (verdict_of D R ks (s ▹ false)) ++ decided_nodes (s ▹ true) (verdict_of D R ks (s ▹ true)))) (decided false tt))) (never (κ ∷ ks) s w)
      ∙ ap (λ (b : Bool). cond b (mixed (decided_nodes (s ▹ false) (verdict_of D R ks (s ▹ false)) ++ decided_nodes (s ▹ true) (verdict_of D R ks (s ▹ true)))) (decided false tt)) w

  pub verdict_mixed : (κ : Quantifier) (ks : List Quantifier) (s : Node) → completions false D R (κ ∷ ks) s ≡ false → completions true D R (κ ∷ ks) s ≡ true
      → verdict_of D R (κ ∷ ks) s ≡ mixed (decided_nodes (s ▹ false) (verdict_of D R ks (s ▹ false)) ++ decided_nodes (s ▹ true) (verdict_of D R ks (s ▹ true)))
  verdict_mixed κ ks s a b =
      ap (λ (c : Bool). cond c (decided true tt) (cond (completions true D R (κ ∷ ks) s) (mixed (decided_nodes (s ▹ false) (verdict_of D R ks (s ▹ false)) ++ decided_nodes (s ▹ true) (verdict_of D R ks (s ▹ true)))) (decided false tt))) a
      ∙ ap (λ (c : Bool). cond c (mixed (decided_nodes (s ▹ false) (verdict_of D R ks (s ▹ false)) ++ decided_nodes (s ▹ true) (verdict_of D R ks (s ▹ true)))) (decided false tt)) b

  -- what the outcome o at a node says: the verdict is o's, and so are the two quantified truths
  pub record Says {X : Type 0} (ks : List Quantifier) (s : Node) (o : Outcome X) : Type 0 where
    pub all_true : completions false D R ks s ≡ every o
    pub some_true : completions true D R ks s ≡ some_one o
    pub verdict : verdict_of D R ks s ≡ outline o

  pub says_win : {X : Type 0} (v : Bool) (x : X) (ks : List Quantifier) (s : Node) → Win D R v ks s → Says ks s (decided v x)
  says_win true x ks s w = record { all_true = w; some_true = consistent ks s w; verdict = verdict_win true ks s w }
  says_win false x ks s w = record { all_true = never ks s w; some_true = w; verdict = verdict_win false ks s w }

  -- a free node whose sides are neither both Yes nor both No
  pub says_mixed : {X : Type 0} (ks : List Quantifier) (s : Node) (a b : Outcome X) → Says ks (s ▹ false) a → Says ks (s ▹ true) b
      → (every a && every b) ≡ false → (some_one a || some_one b) ≡ true
      → Says {X = X} (free ∷ ks) s (mixed (decided_nodes (s ▹ false) a ++ decided_nodes (s ▹ true) b))
  says_mixed {X} ks s a b p q e f = record { all_true = none; some_true = one; verdict = verdict_mixed free ks s none one ∙ ls }
    where
      none : (completions false D R ks (s ▹ false) && completions false D R ks (s ▹ true)) ≡ false
      none = (λ i. p.all_true i && q.all_true i) ∙ e

      one : (completions true D R ks (s ▹ false) || completions true D R ks (s ▹ true)) ≡ true
      one = (λ i. p.some_true i || q.some_true i) ∙ f

      ls : ◌≡◌ {A = Outcome (Unit {0})} (mixed (decided_nodes (s ▹ false) (verdict_of D R ks (s ▹ false)) ++ decided_nodes (s ▹ true) (verdict_of D R ks (s ▹ true)))) (mixed (decided_nodes (s ▹ false) a ++ decided_nodes (s ▹ true) b))
      ls = λ i. mixed ((ap (decided_nodes (s ▹ false)) p.verdict ∙ decided_outline (s ▹ false) a) i ++ (ap (decided_nodes (s ▹ true)) q.verdict ∙ decided_outline (s ▹ true) b) i)

  pub mixed_free : {X : Type 0} (ks : List Quantifier) (s : Node) (ls : List DecidedNode) → NoFree ks → Says {X = X} ks s (mixed ls) → ⊥
  mixed_free ks s ls n h = true≢false (sym h.some_true ∙ sym (without_free ks s n) ∙ h.all_true)

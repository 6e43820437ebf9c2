-- The topmost decided nodes by truth: one induction, and what follows for either verdict.
use Prim.Native.Nat.{ℕ, zero, suc, ◌≤◌, ◌<◌, suc-le-suc, zero-le}
use native.Mathlib.Nat.{suc_inj, not-suc-le-zero, le_of_suc-le-suc}
use native.Mathlib.Omega.{arith}
use mathlib.Core.Path.{◌≡◌, refl, sym, ap, ◌∙◌, subst}
use mathlib.Core.Logic.{◌⊎◌, inl, inr}
use mathlib.Core.Bool.{Bool, true, false, cond, not, beq, true≢false, false≢true}
use mathlib.Core.List.{List, [], ◌∷◌, ◌++◌}
use lib.ListN.{length, take, drop}
use Rattle.qbf.specs.Formula.{Clause, Node, Prefix, Quantifier, ◌▹◌, exists, forall, free, quantifiers}
use Rattle.qbf.specs.Truth.{DecidedNode, Outcome, bound, completions, decided_nodes, free_count, has_verdict, select, truth, verdict_of}
use Rattle.qbf.specs.Card.{Before, IsLine, Mem, Rises, lies_on}
use Rattle.qbf.specs.Demands.{CardRight}
use Rattle.theory.proofs.Basics.{beq_refl, beq→≡}
use Rattle.theory.proofs.Game.{Win, win_down}
use Rattle.theory.proofs.Verdict.{NoFree, without_free, verdict_win, verdict_mixed, consistent}
use Rattle.theory.proofs.Stores.{mem_append}
use Rattle.theory.proofs.Search.{FreeFirst}

pub append_nil : (s : Node) → s ++ [] ≡ s
append_nil [] = refl
append_nil (x ∷ s) = ap {B = Node} (λ r. x ∷ r) (append_nil s)

pub append_path : (s : Node) (b : Bool) (u : Node) → (s ▹ b) ++ u ≡ s ++ (b ∷ u)
append_path [] b u = refl
append_path (x ∷ s) b u = ap {B = Node} (λ r. x ∷ r) (append_path s b u)

pub mem_left : {A : Type 0} (xs ys : List A) (x : A) → Mem x xs → Mem x (xs ++ ys)
mem_left [] ys x m = absurd m
mem_left (y ∷ xs) ys x (inl p) = inl p
mem_left (y ∷ xs) ys x (inr m) = inr (mem_left xs ys x m)

pub mem_right : {A : Type 0} (xs ys : List A) (x : A) → Mem x ys → Mem x (xs ++ ys)
mem_right [] ys x m = m
mem_right (y ∷ xs) ys x m = inr (mem_right xs ys x m)

-- ---- the order of nodes, and readings on lines
before_path : (s u w : Node) → Before u w → Before (s ++ u) (s ++ w)
before_path [] u w h = h
before_path (true ∷ s) u w h = before_path s u w h
before_path (false ∷ s) u w h = before_path s u w h

on_path : (s u w : Node) → lies_on (s ++ u) (s ++ w) ≡ lies_on u w
on_path [] u w = refl
on_path (true ∷ s) u w = on_path s u w
on_path (false ∷ s) u w = on_path s u w

-- of two nodes one before the other no reading lies on both
pub apart : (s u t : Node) → Before s u → lies_on s t ≡ true → lies_on u t ≡ true → ⊥
apart [] u t h p q = h
apart (b ∷ s) [] t h p q = h
apart (b ∷ s) (c ∷ u) [] h p q = false≢true p
apart (false ∷ s) (false ∷ u) (false ∷ t) h p q = apart s u t h p q
apart (false ∷ s) (false ∷ u) (true ∷ t) h p q = false≢true p
apart (false ∷ s) (true ∷ u) (false ∷ t) h p q = false≢true q
apart (false ∷ s) (true ∷ u) (true ∷ t) h p q = false≢true p
apart (true ∷ s) (false ∷ u) (x ∷ t) h p q = h
apart (true ∷ s) (true ∷ u) (false ∷ t) h p q = false≢true p
apart (true ∷ s) (true ∷ u) (true ∷ t) h p q = apart s u t h p q

abbrev pub mark : Node → Bool → DecidedNode
mark s v = record { node = s; verdict = v }

-- ---- selecting
pub select_mem : (p : Bool) (ds : List DecidedNode) (s : Node) → Mem s (select p ds) → Mem (mark s p) ds
select_mem p [] s m = m
select_mem p (d ∷ ds) s m = by (beq p d.verdict) refl m (select_mem p ds s)
  where
    by : (x : Bool) → beq p d.verdict ≡ x → Mem s (cond x (d.node ∷ select p ds) (select p ds)) → (Mem s (select p ds) → Mem (mark s p) ds) → Mem (mark s p) (d ∷ ds)
    by true e (inl q) ih = inl (λ i. record { node = q i; verdict = beq→≡ p d.verdict e i })
    by true e (inr n) ih = inr (ih n)
    by false e n ih = inr (ih n)

mem_select : (p : Bool) (ds : List DecidedNode) (s : Node) → Mem (mark s p) ds → Mem s (select p ds)
mem_select p [] s m = m
mem_select p (d ∷ ds) s m = by (beq p d.verdict) refl m (mem_select p ds s)
  where
    by : (x : Bool) → beq p d.verdict ≡ x → Mem (mark s p) (d ∷ ds) → (Mem (mark s p) ds → Mem s (select p ds)) → Mem s (cond x (d.node ∷ select p ds) (select p ds))
    by true e (inl q) ih = inl (ap (λ (a : DecidedNode). a.node) q)
    by true e (inr n) ih = inr (ih n)
    by false e (inl q) ih = absurd (true≢false (sym (beq_refl p) ∙ ap (λ (a : DecidedNode). beq p a.verdict) q ∙ e))
    by false e (inr n) ih = ih n

-- the nodes rise
abbrev pub RisesD : List DecidedNode → Type 0
RisesD [] = Unit {0}
RisesD (d ∷ ds) = ((e : DecidedNode) → Mem e ds → Before d.node e.node) × RisesD ds

select_rises : (p : Bool) (ds : List DecidedNode) → RisesD ds → Rises (select p ds)
select_rises p [] h = tt
select_rises p (d ∷ ds) h = by (beq p d.verdict) (select_rises p ds h.1)
  where
    by : (x : Bool) → Rises (select p ds) → Rises (cond x (d.node ∷ select p ds) (select p ds))
    by true ih = (λ t m. h.0 (mark t p) (select_mem p ds t m), ih)
    by false ih = ih

append_rises : (xs ys : List DecidedNode) → RisesD xs → RisesD ys → ((x y : DecidedNode) → Mem x xs → Mem y ys → Before x.node y.node) → RisesD (xs ++ ys)
append_rises [] ys h k c = k
append_rises (x ∷ xs) ys h k c = (λ e m. by e (mem_append xs ys e m), append_rises xs ys h.1 k (λ a b m n. c a b (inr m) n))
  where
    by : (e : DecidedNode) → Mem e xs ⊎ Mem e ys → Before x.node e.node
    by e (inl m) = h.0 e m
    by e (inr n) = c x e (inl refl) n

pub rises_single : (ls : List Node) → Rises ls → (t s s' : Node) → Mem s ls → Mem s' ls → lies_on s t ≡ true → lies_on s' t ≡ true → s ≡ s'
rises_single [] h t s s' m n p q = absurd m
rises_single (l ∷ ls) h t s s' (inl e) (inl f) p q = e ∙ sym f
rises_single (l ∷ ls) h t s s' (inl e) (inr n) p q = absurd (apart l s' t (h.0 s' n) (sym (ap (λ (x : Node). lies_on x t) e) ∙ p) q)
rises_single (l ∷ ls) h t s s' (inr m) (inl f) p q = absurd (apart l s t (h.0 s m) (sym (ap (λ (x : Node). lies_on x t) f) ∙ q) p)
rises_single (l ∷ ls) h t s s' (inr m) (inr n) p q = rises_single ls h.1 t s s' m n p q

module _ (D : Prefix) (R : List Clause) where
  abbrev pub tops : List Quantifier → Node → List DecidedNode
  tops ks s = decided_nodes s (verdict_of D R ks s)

  win→won : (p : Bool) (ks : List Quantifier) (s : Node) → Win D R p ks s → has_verdict p D R ks s ≡ true
  win→won p ks s w = ap (λ (x : Bool). beq x p) w ∙ beq_refl p

  won→win : (p : Bool) (ks : List Quantifier) (s : Node) → has_verdict p D R ks s ≡ true → Win D R p ks s
  won→win p ks s e = beq→≡ (completions (not p) D R ks s) p e

  not_both : (v p : Bool) (ks : List Quantifier) (s : Node) → Win D R v ks s → Win D R p ks s → v ≡ p
  not_both true true ks s a b = refl
  not_both true false ks s a b = absurd (true≢false (sym (consistent D R ks s a) ∙ b))
  not_both false true ks s a b = absurd (true≢false (sym (consistent D R ks s b) ∙ a))
  not_both false false ks s a b = refl

  -- THE induction: a node that is won, or a free node that is not, over its two sides
  module _ (P : List Quantifier → Node → List DecidedNode → Type 0)
      (leaf : (v : Bool) (ks : List Quantifier) (s : Node) → Win D R v ks s → P ks s (mark s v ∷ []))
      (fork : (ks : List Quantifier) (s : Node) → ((v : Bool) → Win D R v (free ∷ ks) s → ⊥) → P ks (s ▹ false) (tops ks (s ▹ false)) → P ks (s ▹ true) (tops ks (s ▹ true))
      → P (free ∷ ks) s (tops ks (s ▹ false) ++ tops ks (s ▹ true))) where
    at_win : (v : Bool) (ks : List Quantifier) (s : Node) → Win D R v ks s → P ks s (tops ks s)
    at_win v ks s w = subst (λ (o : Outcome (Unit {0})). P ks s (decided_nodes s o)) (sym (verdict_win D R v ks s w)) (leaf v ks s w)

    at_none : (ks : List Quantifier) (s : Node) → NoFree ks → P ks s (tops ks s)
    at_none ks s n = by (completions true D R ks s) refl
      where
        by : (x : Bool) → completions true D R ks s ≡ x → P ks s (tops ks s)
        by true e = at_win true ks s (without_free D R ks s n ∙ e)
        by false e = at_win false ks s e

    pub tops_ind : (ks : List Quantifier) (s : Node) → FreeFirst ks → P ks s (tops ks s)
    tops_ind [] s f = at_none [] s tt
    tops_ind (exists ∷ ks) s f = at_none (exists ∷ ks) s f.0
    tops_ind (forall ∷ ks) s f = at_none (forall ∷ ks) s f.0
    tops_ind (free ∷ ks) s f = by (completions false D R (free ∷ ks) s) refl (completions true D R (free ∷ ks) s) refl (tops_ind ks (s ▹ false) f.1) (tops_ind ks (s ▹ true) f.1)
      where
        by : (x : Bool) → completions false D R (free ∷ ks) s ≡ x → (y : Bool) → completions true D R (free ∷ ks) s ≡ y
            → P ks (s ▹ false) (tops ks (s ▹ false)) → P ks (s ▹ true) (tops ks (s ▹ true)) → P (free ∷ ks) s (tops (free ∷ ks) s)
        by true e y g a b = at_win true (free ∷ ks) s e
        by false e false g a b = at_win false (free ∷ ks) s g
        by false e true g a b = subst (λ (o : Outcome (Unit {0})). P (free ∷ ks) s (decided_nodes s o)) (sym (verdict_mixed D R free ks s e g)) (fork ks s open_node a b)
          where
            open_node : (v : Bool) → Win D R v (free ∷ ks) s → ⊥
            open_node true w = true≢false (sym w ∙ e)
            open_node false w = true≢false (sym g ∙ w)

  -- ---- the nodes are below s, and are lines
  -- from the node s down the path u, within the free variables: no node before the end has the verdict p, and the end has
  abbrev LinePath : Bool → List Quantifier → Node → Node → Type 0
  LinePath p ks s [] = has_verdict p D R ks s ≡ true
  LinePath p [] s (b ∷ u) = ⊥
  LinePath p (free ∷ ks) s (b ∷ u) = (has_verdict p D R (free ∷ ks) s ≡ false) × LinePath p ks (s ▹ b) u
  LinePath p (exists ∷ ks) s (b ∷ u) = ⊥
  LinePath p (forall ∷ ks) s (b ∷ u) = ⊥

  abbrev Line : Bool → List Quantifier → Node → Node → Type 0
  Line p ks s t = (u : Node) × (t ≡ s ++ u) × LinePath p ks s u

  won_not : (p : Bool) (ks : List Quantifier) (s : Node) → (Win D R p ks s → ⊥) → has_verdict p D R ks s ≡ false
  won_not p ks s h = by (has_verdict p D R ks s) refl
    where
      by : (x : Bool) → has_verdict p D R ks s ≡ x → x ≡ false
      by true e = absurd (h (won→win p ks s e))
      by false e = refl

  line_down : (p : Bool) (ks : List Quantifier) (s t : Node) → ((v : Bool) → Win D R v (free ∷ ks) s → ⊥) → (b : Bool) → Line p ks (s ▹ b) t → Line p (free ∷ ks) s t
  line_down p ks s t h b w = (b ∷ w.0, w.1 ∙ append_path s b w.0, (won_not p (free ∷ ks) s (h p), w.2))

  pub only_lines : (ks : List Quantifier) (s : Node) → FreeFirst ks → (d : DecidedNode) → Mem d (tops ks s) → Line d.verdict ks s d.node
  only_lines = tops_ind (λ ks s ds. (d : DecidedNode) → Mem d ds → Line d.verdict ks s d.node) one (λ ks s h a b d m. two ks s h a b d (mem_append (tops ks (s ▹ false)) (tops ks (s ▹ true)) d m))
    where
      one : (v : Bool) (ks : List Quantifier) (s : Node) → Win D R v ks s → (d : DecidedNode) → Mem d (mark s v ∷ []) → Line d.verdict ks s d.node
      one v ks s w d (inl e) = ([], ap (λ (a : DecidedNode). a.node) e ∙ sym (append_nil s), subst (λ (x : Bool). has_verdict x D R ks s ≡ true) (sym (ap (λ (a : DecidedNode). a.verdict) e)) (win→won v ks s w))
      one v ks s w d (inr m) = absurd m

      two : (ks : List Quantifier) (s : Node) → ((v : Bool) → Win D R v (free ∷ ks) s → ⊥) → ((d : DecidedNode) → Mem d (tops ks (s ▹ false)) → Line d.verdict ks (s ▹ false) d.node)
          → ((d : DecidedNode) → Mem d (tops ks (s ▹ true)) → Line d.verdict ks (s ▹ true) d.node) → (d : DecidedNode) → Mem d (tops ks (s ▹ false)) ⊎ Mem d (tops ks (s ▹ true)) → Line d.verdict (free ∷ ks) s d.node
      two ks s h a b d (inl m) = line_down d.verdict ks s d.node h false (a d m)
      two ks s h a b d (inr m) = line_down d.verdict ks s d.node h true (b d m)

  pub every_line : (ks : List Quantifier) (s : Node) → FreeFirst ks → (p : Bool) (u : Node) → LinePath p ks s u → Mem (mark (s ++ u) p) (tops ks s)
  every_line = tops_ind (λ ks s ds. (p : Bool) (u : Node) → LinePath p ks s u → Mem (mark (s ++ u) p) ds) one two
    where
      here : (v p : Bool) (ks : List Quantifier) (s : Node) → Win D R v ks s → has_verdict p D R ks s ≡ true → Mem (mark (s ++ []) p) (mark s v ∷ [])
      here v p ks s w e = inl (λ i. record { node = append_nil s i; verdict = not_both p v ks s (won→win p ks s e) w i })

      -- below a node that is won there is no line
      deeper : (v p : Bool) (ks : List Quantifier) (s : Node) (b : Bool) (u : Node) → Win D R v (free ∷ ks) s → has_verdict p D R (free ∷ ks) s ≡ false → LinePath p ks (s ▹ b) u → ⊥
      deeper v p ks s b u w e h = go (not_both_line v p ks (s ▹ b) u (win_down D R v ks s b w) h)
        where
          not_both_line : (v p : Bool) (ks : List Quantifier) (s : Node) (u : Node) → Win D R v ks s → LinePath p ks s u → v ≡ p
          not_both_line v p ks s [] a k = not_both v p ks s a (won→win p ks s k)
          not_both_line v p [] s (c ∷ u) a k = absurd k
          not_both_line v p (exists ∷ ks) s (c ∷ u) a k = absurd k
          not_both_line v p (forall ∷ ks) s (c ∷ u) a k = absurd k
          not_both_line v p (free ∷ ks) s (c ∷ u) a k = not_both_line v p ks (s ▹ c) u (win_down D R v ks s c a) k.1

          go : v ≡ p → ⊥
          go q = true≢false (sym (win→won p (free ∷ ks) s (subst (λ (x : Bool). Win D R x (free ∷ ks) s) q w)) ∙ e)

      one : (v : Bool) (ks : List Quantifier) (s : Node) → Win D R v ks s → (p : Bool) (u : Node) → LinePath p ks s u → Mem (mark (s ++ u) p) (mark s v ∷ [])
      one v ks s w p [] h = here v p ks s w h
      one v [] s w p (b ∷ u) h = absurd h
      one v (exists ∷ ks) s w p (b ∷ u) h = absurd h
      one v (forall ∷ ks) s w p (b ∷ u) h = absurd h
      one v (free ∷ ks) s w p (b ∷ u) h = absurd (deeper v p ks s b u w h.0 h.1)

      two : (ks : List Quantifier) (s : Node) → ((v : Bool) → Win D R v (free ∷ ks) s → ⊥) → ((p : Bool) (u : Node) → LinePath p ks (s ▹ false) u → Mem (mark ((s ▹ false) ++ u) p) (tops ks (s ▹ false)))
          → ((p : Bool) (u : Node) → LinePath p ks (s ▹ true) u → Mem (mark ((s ▹ true) ++ u) p) (tops ks (s ▹ true))) → (p : Bool) (u : Node) → LinePath p (free ∷ ks) s u → Mem (mark (s ++ u) p) (tops ks (s ▹ false) ++ tops ks (s ▹ true))
      two ks s h a b p [] k = absurd (h p (won→win p (free ∷ ks) s k))
      two ks s h a b p (false ∷ u) k = mem_left (tops ks (s ▹ false)) (tops ks (s ▹ true)) (mark (s ++ (false ∷ u)) p) (subst (λ (x : Node). Mem (mark x p) (tops ks (s ▹ false))) (append_path s false u) (a p u k.1))
      two ks s h a b p (true ∷ u) k = mem_right (tops ks (s ▹ false)) (tops ks (s ▹ true)) (mark (s ++ (true ∷ u)) p) (subst (λ (x : Node). Mem (mark x p) (tops ks (s ▹ true))) (append_path s true u) (b p u k.1))

  -- ---- the nodes rise
  pub tops_rise : (ks : List Quantifier) (s : Node) → FreeFirst ks → RisesD (tops ks s)
  tops_rise ks s f = tops_ind (λ ks s ds. FreeFirst ks → RisesD ds) (λ v ks s w f. (λ e m. absurd m, tt)) two ks s f f
    where
      two : (ks : List Quantifier) (s : Node) → ((v : Bool) → Win D R v (free ∷ ks) s → ⊥) → (FreeFirst ks → RisesD (tops ks (s ▹ false))) → (FreeFirst ks → RisesD (tops ks (s ▹ true)))
          → FreeFirst (free ∷ ks) → RisesD (tops ks (s ▹ false) ++ tops ks (s ▹ true))
      two ks s h a b f = append_rises (tops ks (s ▹ false)) (tops ks (s ▹ true)) (a f.1) (b f.1) cross
        where
          cross : (x y : DecidedNode) → Mem x (tops ks (s ▹ false)) → Mem y (tops ks (s ▹ true)) → Before x.node y.node
          cross x y m n =
              let u = only_lines ks (s ▹ false) f.1 x m in
              let w = only_lines ks (s ▹ true) f.1 y n in
              subst (λ (z : Node). Before z y.node) (sym (u.1 ∙ append_path s false u.0))
              (subst (λ (z : Node). Before (s ++ (false ∷ u.0)) z) (sym (w.1 ∙ append_path s true w.0))
              (before_path s (false ∷ u.0) (true ∷ w.0) tt))

  -- ---- a full reading lies on a node whose verdict is its truth
  pub win_reading : (v : Bool) (ks : List Quantifier) (s w : Node) → FreeFirst ks → length w ≡ free_count ks → Win D R v ks s → completions true D R (bound ks) (s ++ w) ≡ v
  win_reading v ks s w f e h = go v ks s w f e h
    where
      no_free_lem : (v : Bool) (ks : List Quantifier) (s w : Node) → NoFree ks → length w ≡ 0 → Win D R v ks s → completions true D R ks (s ++ w) ≡ v
      no_free_lem true ks s [] n e h = ap (completions true D R ks) (append_nil s) ∙ sym (without_free D R ks s n) ∙ h
      no_free_lem false ks s [] n e h = ap (completions true D R ks) (append_nil s) ∙ h
      no_free_lem v ks s (x ∷ w) n e h = absurd (omega (arith, e))

      go : (v : Bool) (ks : List Quantifier) (s w : Node) → FreeFirst ks → length w ≡ free_count ks → Win D R v ks s → completions true D R (bound ks) (s ++ w) ≡ v
      go v [] s w f e h = no_free_lem v [] s w tt e h
      go v (exists ∷ ks) s w f e h = no_free_lem v (exists ∷ ks) s w f.0 e h
      go v (forall ∷ ks) s w f e h = no_free_lem v (forall ∷ ks) s w f.0 e h
      go v (free ∷ ks) s [] f e h = absurd (omega (arith, e))
      go v (free ∷ ks) s (b ∷ w) f e h = ap (completions true D R (bound ks)) (sym (append_path s b w)) ∙ go v ks (s ▹ b) w f.1 (suc_inj e) (win_down D R v ks s b h)

  abbrev Hit : List Quantifier → Node → Node → List DecidedNode → Type 0
  Hit ks s w ds = (d : DecidedNode) × Mem d ds × (lies_on d.node (s ++ w) ≡ true) × (completions true D R (bound ks) (s ++ w) ≡ d.verdict)

  pub reading_hits : (ks : List Quantifier) (s : Node) → FreeFirst ks → (w : Node) → length w ≡ free_count ks → Hit ks s w (tops ks s)
  reading_hits ks s f w e = tops_ind (λ ks s ds. FreeFirst ks → (w : Node) → length w ≡ free_count ks → Hit ks s w ds) one two ks s f f w e
    where
      one : (v : Bool) (ks : List Quantifier) (s : Node) → Win D R v ks s → FreeFirst ks → (w : Node) → length w ≡ free_count ks → Hit ks s w (mark s v ∷ [])
      one v ks s h f w e = (mark s v, inl refl, sym (ap (λ (x : Node). lies_on x (s ++ w)) (append_nil s)) ∙ on_path s [] w, win_reading v ks s w f e h)

      two : (ks : List Quantifier) (s : Node) → ((v : Bool) → Win D R v (free ∷ ks) s → ⊥)
          → (FreeFirst ks → (w : Node) → length w ≡ free_count ks → Hit ks (s ▹ false) w (tops ks (s ▹ false))) → (FreeFirst ks → (w : Node) → length w ≡ free_count ks → Hit ks (s ▹ true) w (tops ks (s ▹ true)))
          → FreeFirst (free ∷ ks) → (w : Node) → length w ≡ free_count (free ∷ ks) → Hit (free ∷ ks) s w (tops ks (s ▹ false) ++ tops ks (s ▹ true))
      two ks s h a b f [] e = absurd (omega (arith, e))
      two ks s h a b f (false ∷ w) e =
          let k = a f.1 w (suc_inj e) in
          (k.0, mem_left (tops ks (s ▹ false)) (tops ks (s ▹ true)) k.0 k.1, sym (ap (lies_on k.0.node) (append_path s false w)) ∙ k.2, sym (ap (completions true D R (bound ks)) (append_path s false w)) ∙ k.3)
      two ks s h a b f (true ∷ w) e =
          let k = b f.1 w (suc_inj e) in
          (k.0, mem_right (tops ks (s ▹ false)) (tops ks (s ▹ true)) k.0 k.1, sym (ap (lies_on k.0.node) (append_path s true w)) ∙ k.2, sym (ap (completions true D R (bound ks)) (append_path s true w)) ∙ k.3)

  pub rises_d_single : (ds : List DecidedNode) → RisesD ds → (t : Node) (d e : DecidedNode) → Mem d ds → Mem e ds → lies_on d.node t ≡ true → lies_on e.node t ≡ true → d ≡ e
  rises_d_single [] h t d e m n p q = absurd m
  rises_d_single (l ∷ ls) h t d e (inl m) (inl n) p q = m ∙ sym n
  rises_d_single (l ∷ ls) h t d e (inl m) (inr n) p q = absurd (apart l.node e.node t (h.0 e n) (sym (ap (λ (x : DecidedNode). lies_on x.node t) m) ∙ p) q)
  rises_d_single (l ∷ ls) h t d e (inr m) (inl n) p q = absurd (apart l.node d.node t (h.0 d m) (sym (ap (λ (x : DecidedNode). lies_on x.node t) n) ∙ q) p)
  rises_d_single (l ∷ ls) h t d e (inr m) (inr n) p q = rises_d_single ls h.1 t d e m n p q

  -- ---- the paper's sentence of a line, and the path that the induction follows, say the same
  record OnPath (p : Bool) (ks : List Quantifier) (s u : Node) : Type 0 where
    within : length u ≤ free_count ks
    decided : has_verdict p D R (drop (length u) ks) (s ++ u) ≡ true
    topmost : (k : ℕ) → k < length u → has_verdict p D R (drop k ks) (s ++ take k u) ≡ false

  path→ : (p : Bool) (ks : List Quantifier) (s u : Node) → LinePath p ks s u → OnPath p ks s u
  path→ p ks s [] h = record { within = zero-le; decided = ap (has_verdict p D R ks) (append_nil s) ∙ h; topmost = λ k lt. absurd (not-suc-le-zero lt) }
  path→ p [] s (b ∷ u) h = absurd h
  path→ p (exists ∷ ks) s (b ∷ u) h = absurd h
  path→ p (forall ∷ ks) s (b ∷ u) h = absurd h
  path→ p (free ∷ ks) s (b ∷ u) h = by (path→ p ks (s ▹ b) u h.1)
    where
      by : OnPath p ks (s ▹ b) u → OnPath p (free ∷ ks) s (b ∷ u)
      by w = record { within = suc-le-suc w.within; decided = sym (ap (has_verdict p D R (drop (length u) ks)) (append_path s b u)) ∙ w.decided; topmost = above }
        where
          above : (k : ℕ) → k < suc (length u) → has_verdict p D R (drop k (free ∷ ks)) (s ++ take k (b ∷ u)) ≡ false
          above zero lt = ap (has_verdict p D R (free ∷ ks)) (append_nil s) ∙ h.0
          above (suc k) lt = sym (ap (has_verdict p D R (drop k ks)) (append_path s b (take k u))) ∙ w.topmost k (le_of_suc-le-suc lt)

  →path : (p : Bool) (ks : List Quantifier) (s u : Node) → OnPath p ks s u → LinePath p ks s u
  →path p ks s [] w = sym (ap (has_verdict p D R ks) (append_nil s)) ∙ w.decided
  →path p [] s (b ∷ u) w = absurd (not-suc-le-zero w.within)
  →path p (exists ∷ ks) s (b ∷ u) w = absurd (not-suc-le-zero w.within)
  →path p (forall ∷ ks) s (b ∷ u) w = absurd (not-suc-le-zero w.within)
  →path p (free ∷ ks) s (b ∷ u) w = (
    sym (ap (has_verdict p D R (free ∷ ks)) (append_nil s)) ∙ w.topmost zero (suc-le-suc zero-le),
    →path p ks (s ▹ b) u (record {
      within = le_of_suc-le-suc w.within;
      decided = ap (has_verdict p D R (drop (length u) ks)) (append_path s b u) ∙ w.decided;
      topmost = λ k lt. ap (has_verdict p D R (drop k ks)) (append_path s b (take k u)) ∙ w.topmost (suc k) (suc-le-suc lt);
    }),
  )

  path_line : (p : Bool) (s : Node) → LinePath p (quantifiers D) [] s → IsLine p D R s
  path_line p s h = let w = path→ p (quantifiers D) [] s h in record { within = w.within; decided = w.decided; topmost = w.topmost }

  line_path : (p : Bool) (s : Node) → IsLine p D R s → LinePath p (quantifiers D) [] s
  line_path p s w = →path p (quantifiers D) [] s (record { within = w.within; decided = w.decided; topmost = w.topmost })

  module _ (order : FreeFirst (quantifiers D)) where
    -- the lines of either card
    pub card_right : (p : Bool) → CardRight p D R (select p (tops (quantifiers D) []))
    card_right p =
        record {
          covers = λ t e. (λ q. lies t q (reading_hits (quantifiers D) [] order t e), λ w. back t e w (reading_hits (quantifiers D) [] order t e));
          topmost = λ s. (λ m. line s (only_lines (quantifiers D) [] order (mark s p) (select_mem p (tops (quantifiers D) []) s m)), λ h. mem_select p (tops (quantifiers D) []) s (every_line (quantifiers D) [] order p s (line_path p s h)));
          rises = select_rises p (tops (quantifiers D) []) rise;
          single = rises_single (select p (tops (quantifiers D) [])) (select_rises p (tops (quantifiers D) []) rise);
        }
      where
        rise : RisesD (tops (quantifiers D) [])
        rise = tops_rise (quantifiers D) [] order

        line : (s : Node) → Line p (quantifiers D) [] s → IsLine p D R s
        line s w = path_line p s (subst (LinePath p (quantifiers D) []) (sym w.1) w.2)

        lies : (t : Node) → truth D R t ≡ p → Hit (quantifiers D) [] t (tops (quantifiers D) []) → (s : Node) × Mem s (select p (tops (quantifiers D) [])) × (lies_on s t ≡ true)
        lies t q w = (w.0.node, mem_select p (tops (quantifiers D) []) w.0.node (subst (λ (x : Bool). Mem (mark w.0.node x) (tops (quantifiers D) [])) (sym w.3 ∙ q) w.1), w.2)

        back : (t : Node) → length t ≡ free_count (quantifiers D) → (s : Node) × Mem s (select p (tops (quantifiers D) [])) × (lies_on s t ≡ true) → Hit (quantifiers D) [] t (tops (quantifiers D) []) → truth D R t ≡ p
        back t e w h = h.3 ∙ ap (λ (d : DecidedNode). d.verdict) (rises_d_single (tops (quantifiers D) []) rise t h.0 (mark w.0 p) h.1 (select_mem p (tops (quantifiers D) []) w.0 w.1) h.2 w.2)

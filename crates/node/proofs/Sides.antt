-- One side at a node: whether its verdict is enough, whether its constraint names the next place, and whether it goes up.
use Prim.Native.Nat.{ℕ, ◌≤◌}
use native.Mathlib.Omega.{arith}
use mathlib.Core.Path.{◌≡◌, refl, sym, ap, ◌∙◌}
use mathlib.Core.Bool.{Bool, true, false, not, true≢false, false≢true}
use mathlib.Core.List.{List}
use lib.Dec.{eqb}
use Rattle.qbf.specs.Formula.{Quantifier, free, exists, forall, Prefix}
use Rattle.qbf.specs.Truth.{Outcome}
use Rattle.qbf.specs.Plain.{decides}
use Rattle.qbf.specs.Learning.{Constraint, last_place}
use Rattle.tables.specs.Views.{quantifier_code}
use Rattle.tables.specs.Codes.{codes}
use Rattle.theory.proofs.Basics.{eqb_true}
use Rattle.theory.proofs.Sets.{mentions_last}
use Rattle.theory.proofs.WellFormed.{rising→}
use Rattle.node.specs.declared.Verdict.{Verdict}
use Rattle.node.specs.declared.Verdict.TheVariants.{Yes, No, Mixed}
use Rattle.node.specs.Node.{is_mixed, Reads, Ended, goes_up_of}
use Rattle.node.specs.Step.{alone}

-- ---- one side is enough, by the code of the quantifier
code_yes : (κ : Quantifier) → eqb (quantifier_code κ) 1 ≡ decides true κ
code_yes free = refl
code_yes exists = refl
code_yes forall = refl

code_no : (κ : Quantifier) → eqb (quantifier_code κ) 2 ≡ decides false κ
code_no free = refl
code_no exists = refl
code_no forall = refl

module _ {v : Verdict} (κ : Quantifier) {kind : ℕ} (h : quantifier_code κ ≡ kind) where
  pub enough_yes : v ≡ Yes → eqb kind 1 ≡ alone v κ
  enough_yes e = rw (e, ← h) (code_yes κ)

-- ---- the off side goes up
-- a stop leaves no budget, and goes up
pub budget_left : (n : ℕ) → 1 ≤ n → eqb n 0 ≡ false
budget_left n h = by (eqb n 0) refl
  where
    by : (b : Bool) → eqb n 0 ≡ b → b ≡ false
    by false e = refl
    by true e = absurd (omega (arith, h, eqb_true n 0 e))

pub not_mixed : (v : Verdict) → is_mixed v ≡ false → v ≡ Mixed → ⊥
not_mixed v h e = true≢false (ap is_mixed (sym e) ∙ h)

module _ (D : Prefix) (κ : Quantifier) (p : ℕ) (cs : List ℕ) (o : Outcome Constraint) where
  -- Mixed does not go up
  pub up_mixed : (v : Verdict) → is_mixed v ≡ true → Reads D v cs o → false ≡ goes_up_of D κ p o
  up_mixed Yes h r = absurd (false≢true h)
  up_mixed No h r = absurd (false≢true h)
  up_mixed Mixed h (ds, r) = rw r

  -- m says whether the codes end at the place p, which no literal stands beyond
  pub up_lacking : (v : Verdict) → is_mixed v ≡ false → alone v κ ≡ false → {m : Bool} → ((e : Constraint) → cs ≡ codes D e → m ≡ eqb (last_place D e) p) → 1 ≤ p → Reads D v cs o → Ended D p o → not m ≡ goes_up_of D κ p o
  up_lacking Yes d h n z (e, r, k) w =
      let x = rw r at w in
      rw (r, h) (ap not (n e k ∙ sym (mentions_last D p e (rising→ D 0 e x.0) x.1 z)))
  up_lacking No d h n z (e, r, k) w =
      let x = rw r at w in
      rw (r, h) (ap not (n e k ∙ sym (mentions_last D p e (rising→ D 0 e x.0) x.1 z)))
  up_lacking Mixed d h n z r w = absurd (true≢false d)

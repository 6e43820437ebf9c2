-- A call that adds no rule and takes none back: the names of the state that it leaves are those of the state that it was made on.
use Prim.Native.Nat.{ℕ}
use mathlib.Core.Path.{◌≡◌, refl, ap, subst, ◌∙◌}
use mathlib.Core.Bool.{Bool, true, false}
use mathlib.Core.List.{List}
use mathlib.Core.Option.{Option}
use Rattle.qbf.specs.Formula.{Formula, Literal}
use Rattle.qbf.specs.Calls.{Call, card_of, closest, next_formula, guarded, step, State as Read, well_formed}
use Rattle.theory.proofs.Preserved.{step_formed}
use Rattle.serving.specs.Serves.{next_of}
use Rattle.card_answers.specs.declared.names.Names.{Names}
use Rattle.card_answers.specs.Names.{NamesOf}
use Rattle.card_answers.specs.Lines.{NamesRead}

same_formula : (b : Formula) (p : Bool) (top size : ℕ) → next_formula b (card_of p top size) ≡ b
same_formula b true top size = refl
same_formula b false top size = refl

-- a card
pub card_kept : (p : Bool) (top size : ℕ) (y : Read) → (step y (card_of p top size)).state.formula ≡ y.formula
card_kept p top size y = by (well_formed y)
  where
    by : (g : Bool) → (guarded g y (card_of p top size)).state.formula ≡ y.formula
    by true = same_formula y.formula p top size
    by false = refl

-- a closest reading
pub closest_kept : (top size : ℕ) (on off : List Literal) (y : Read) → (step y (closest top size on off)).state.formula ≡ y.formula
closest_kept top size on off y = by (well_formed y)
  where
    by : (g : Bool) → (guarded g y (closest top size on off)).state.formula ≡ y.formula
    by true = refl
    by false = refl

pub names_before : (c : Call) → ((y : Read) → (step y c).state.formula ≡ y.formula) → (o o' : Option Read) → o' ≡ next_of o c → (n : Names) → NamesRead o' n → NamesRead o n
names_before c kept o o' next n h y i g =
    subst (λ (b : Formula). NamesOf b.prefix n.numbers.now n.free) (kept y) (h (step y c).state (next ∙ ap (λ (q : Option Read). next_of q c) i) (step_formed y g c))

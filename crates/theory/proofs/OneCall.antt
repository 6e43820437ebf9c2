-- What the call `one` adds where it is accepted.
use Prim.Native.Nat.{ℕ}
use mathlib.Core.Path.{◌≡◌, refl, subst}
use mathlib.Core.Bool.{Bool, true, false}
use mathlib.Core.List.{List}
use mathlib.Core.Option.{Option, none, some}
use Rattle.qbf.specs.Formula.{Literal}
use Rattle.qbf.specs.Calls.{Reply, State, done, guarded, one, one_fault, refused, rule_reply, step, well_formed, with_one}
use Rattle.qbf.specs.OneAdds.{OneAdds}
use Rattle.theory.proofs.OneAdds.{one_adds}

not_done : (n : ℕ) → ◌≡◌ {A = Reply} (refused n) done → ⊥
not_done n q = subst is_refused_lem q tt
  where
    is_refused_lem : Reply → Type 0
    is_refused_lem (refused k) = Unit {0}
    is_refused_lem done = ⊥
    is_refused_lem Reply.swap = ⊥
    is_refused_lem Reply.keep = ⊥
    is_refused_lem Reply.unsettled = ⊥
    is_refused_lem (Reply.lines xs t) = ⊥
    is_refused_lem (Reply.card_refused k t) = ⊥
    is_refused_lem (Reply.found xs t r) = ⊥

-- on any state: where the answer is `done`, the state's formula has these rules more
pub call_adds : (x : State) (ls : List Literal) → (step x (one ls)).out.reply ≡ done → OneAdds x.formula (step x (one ls)).state.formula ls
call_adds x ls q = by (well_formed x) q
  where
    told : (o : Option ℕ) → one_fault x.formula ls ≡ o → rule_reply o ≡ done → OneAdds x.formula (with_one o x.formula ls) ls
    told none e r = one_adds x.formula ls e
    told (some n) e r = absurd (not_done n r)

    by : (g : Bool) → (guarded g x (one ls)).out.reply ≡ done → OneAdds x.formula (guarded g x (one ls)).state.formula ls
    by true r = told (one_fault x.formula ls) refl r
    by false r = absurd (not_done 22 r)

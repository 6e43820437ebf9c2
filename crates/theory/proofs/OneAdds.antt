-- What an exactly-one form adds where it is accepted.
use Prim.Native.Nat.{ℕ, ◌+◌, ◌≤◌}
use native.Mathlib.Omega.{arith}
use mathlib.Core.Path.{◌≡◌, refl, sym, ap, ◌∙◌}
use mathlib.Core.Logic.{◌↔◌}
use mathlib.Core.Bool.{true}
use mathlib.Core.List.{List, [], ◌++◌}
use mathlib.Core.Option.{none}
use lib.ListN.{length, length-append}
use borrow.Author.Tests.{ltb-false}
use Rattle.qbf.specs.Formula.{Formula, Literal, Node, all, satisfied}
use Rattle.qbf.specs.One.{OneTrue, one_count}
use Rattle.qbf.specs.Calls.{one_fault, one_rules, with_one}
use Rattle.qbf.specs.OneAdds.{OneAdds}
use Rattle.theory.proofs.OneCount.{rules_count}
use Rattle.theory.proofs.OneTruth.{all_append, all_parts, forms_exactly}
use Rattle.theory.proofs.OneHeld.{all_given, rules_forms, single}
use Rattle.theory.proofs.OneAdded.{one_as_rules, twenty}

module _ (b : Formula) (ls : List Literal) (e : one_fault b ls ≡ none) where
  pub one_exactly : (s : Node) → length b.prefix ≤ length s → (all (satisfied b.prefix s) (one_rules b.prefix ls) ≡ true) ↔ OneTrue b.prefix s ls
  one_exactly s h =
      let f = forms_exactly b.prefix s ls (all_given b.limits b.prefix s h ls (twenty b ls e).1) in
      let r = rules_forms b.prefix s ls (single b.limits b.prefix [] ls (twenty b ls e).1) in
      (λ a. f.0 (sym r ∙ a), λ o. r ∙ f.1 o)

  counted : length (b.clauses ++ one_rules b.prefix ls) ≡ length b.clauses + one_count (length ls)
  counted = length-append b.clauses (one_rules b.prefix ls) ∙ ap (λ (k : ℕ). length b.clauses + k) (rules_count b.prefix ls)

  pub one_adds : OneAdds b (with_one none b ls) ls
  one_adds =
      record {
        same_prefix = refl;
        added = refl;
        count = counted;
        fits = omega (arith, counted, ltb-false b.limits.clauses (length b.clauses + one_count (length ls)) (twenty b ls e).0);
        as_rules = one_as_rules b ls e;
        exactly = one_exactly;
        narrowed = λ s h. (
          λ a. let p = all_parts (satisfied b.prefix s) b.clauses (one_rules b.prefix ls) a in (p.0, (one_exactly s h).0 p.1),
          λ w. all_append (satisfied b.prefix s) b.clauses (one_rules b.prefix ls) w.0 ((one_exactly s h).1 w.1),
        );
      }

-- What a call owes on a state that is not valid, and on one that is.
use Prim.Native.Nat.{ℕ}
use mathlib.Core.Path.{◌≡◌, refl, sym, ap, subst, ◌∙◌}
use mathlib.Core.Bool.{Bool, true, false}
use mathlib.Core.Option.{Option, none, some}
use Rattle.qbf.specs.Calls.{Call, Answer, answer, refusal, guarded, well_formed, State as Read}
use Rattle.qbf.specs.Demands.{AfterSearch, refusal_of}
use Rattle.theory.proofs.AcceptedRule.{some_none}
use Rattle.state.specs.Reading.{well_formed_read}
use Rattle.serving.specs.Serves.{said_of, out_of, next_of, ServesBy}

-- no refusal, or one after a search: then the state may differ from the one given
abbrev pub Passes : Option ℕ → Type 0
Passes none = Unit {0}
Passes (some n) = AfterSearch n

pub after_search : (o : Option ℕ) → Passes o → (n : ℕ) → o ≡ some n → AfterSearch n
after_search none h n e = absurd (some_none (sym e))
after_search (some m) h n e = subst AfterSearch (number e) h
  where
    of : Option ℕ → ℕ
    of none = 0
    of (some k) = k

    number : some m ≡ some n → m ≡ n
    number q = ap of q

module _ (c : Call) where
  -- "22 the state is malformed"
  refused : (o : Option Read) → well_formed_read o ≡ false → out_of o c ≡ answer (refusal 22 c) 0
  refused none e = refl
  refused (some y) e = ap (λ (g : Bool). (guarded g y c).out) e

  stays : (o : Option Read) → well_formed_read o ≡ false → next_of o c ≡ o
  stays none e = refl
  stays (some y) e = ap (λ (g : Bool). some (guarded g y c).state) e

-- ---- however a state stands in tables, and is read
module _ {X : Type 0} (read : X → Option Read) (x : X) (c : Call) where
  pub malformed_read : well_formed_read (read x) ≡ false → ServesBy read x c (said_of (answer (refusal 22 c) 0)) x
  malformed_read e = record { answered = sym (ap said_of (refused c (read x) e)); next = sym (stays c (read x) e); kept = λ n q k. refl }

  module _ {y : Read} (is : read x ≡ some y) (formed : well_formed y ≡ true) where
    out_is : out_of (read x) c ≡ (guarded true y c).out
    out_is = ap (λ (o : Option Read). out_of o c) is ∙ ap (λ (g : Bool). (guarded g y c).out) formed

    next_is : next_of (read x) c ≡ some (guarded true y c).state
    next_is = ap (λ (o : Option Read). next_of o c) is ∙ ap (λ (g : Bool). some (guarded g y c).state) formed

    -- the next state reads as the definitions' next state, and the call is not refused, or after a search
    pub moved_on_read : (x' : X) → read x' ≡ some (guarded true y c).state → Passes (refusal_of (guarded true y c).out.reply) → ServesBy read x c (said_of (guarded true y c).out) x'
    moved_on_read x' r h =
        record {
          answered = sym (ap said_of out_is);
          next = r ∙ sym next_is;
          kept = λ n q k. absurd (k (after_search (refusal_of (guarded true y c).out.reply) h n (sym (ap (λ (a : Answer). refusal_of a.reply) out_is) ∙ q)));
        }

    -- refused: the state is as given, and so it is in the definitions
    pub unchanged_read : (guarded true y c).state ≡ y → ServesBy read x c (said_of (guarded true y c).out) x
    unchanged_read e = record { answered = sym (ap said_of out_is); next = is ∙ ap some (sym e) ∙ sym next_is; kept = λ n q k. refl }

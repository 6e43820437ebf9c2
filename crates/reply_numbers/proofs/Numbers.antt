-- Answers by their numbers: no call's refusal is 0, so that a number tells whether there is one.
use Prim.Native.Nat.{ℕ, zero, suc}
use mathlib.Core.Path.{◌≡◌, refl, sym, ap, subst, ◌∙◌}
use mathlib.Core.List.{List, []}
use mathlib.Core.Option.{Option, some}
use Rattle.qbf.specs.Calls.{Call, State as Read}
use Rattle.serving.specs.Serves.{Said, said, said_with, number, fault_of, told, ServesBy}
use Rattle.serving.proofs.Numbered.{served_told}
use Rattle.rule_calls.specs.ServesAt.{change_said}
use Rattle.std.specs.Prelude.{Result, Ok, Err}
use Rattle.refusal.specs.declared.Refusal.{Refusal}
use Rattle.refusal.specs.Refusal.{number_of}
use Rattle.replies.specs.declared.Ruling.{Ruling}
use Rattle.replies.specs.Replies.{ruling_said, card_said}
use Rattle.replies.proofs.Told.{card_said_lem}
use Rattle.theory.proofs.AcceptedRule.{some_none}
use Rattle.closest_call.specs.Nearest.{nearest_said, returned}
use Rattle.reply_numbers.specs.Answers.{unless_refused}

-- the same answer, as its numbers tell it
pub says_as : {X : Type 0} {read : X → Option Read} {x : X} {c : Call} {a b : Said} {y : X} → ServesBy read x c a y → b ≡ told a → ServesBy read x c b y
says_as {X} {read} {x} {c} {a} {b} {y} s p = subst (λ (r : Said). ServesBy read x c r y) (sym (p ∙ served_told s)) s

change_told : (c : Result Unit Refusal) → said (fault_of (number (change_said c).refusal)) 0 0 0 [] ≡ told (change_said c)
change_told (Ok u) = refl
change_told (Err r) = refl

pub change_numbers : (c : Result Unit Refusal) {n : ℕ} → n ≡ number (change_said c).refusal → said (fault_of n) 0 0 0 [] ≡ told (change_said c)
change_numbers c p = ap (λ (n : ℕ). said (fault_of n) 0 0 0 []) p ∙ change_told c

ruling_told : (r : Result Ruling Refusal) (k : ℕ) → said (fault_of (number (ruling_said r 0).refusal)) (ruling_said r 0).verdict 0 k [] ≡ told (ruling_said r k)
ruling_told (Ok q) k = refl
ruling_told (Err q) k = refl

pub ruling_numbers : (r : Result Ruling Refusal) {n v : ℕ} (k : ℕ) → n ≡ number (ruling_said r 0).refusal → v ≡ (ruling_said r 0).verdict → said (fault_of n) v 0 k [] ≡ told (ruling_said r k)
ruling_numbers r k p q = (λ i. said (fault_of (p i)) (q i) 0 k []) ∙ ruling_told r k

pub card_numbers : (r : Result ℕ Refusal) {n m : ℕ} (k : ℕ) (t : List ℕ) → n ≡ number (card_said r 0 []).refusal → m ≡ (card_said r 0 []).lines → said (fault_of n) 0 m k t ≡ told (card_said r k t)
card_numbers r k t p q = (λ i. said (fault_of (p i)) 0 (q i) k t) ∙ sym (ap told (card_said_lem r k t))

-- a closest reading, whose answer no number changes
nearest_told : (t : Result ℕ Refusal) (m k : ℕ) (tb bytes : List ℕ) → told (nearest_said t m k tb bytes) ≡ nearest_said t m k tb bytes
    → said_with (fault_of (number (nearest_said t 0 0 [] []).refusal)) 0 m k tb (unless_refused (fault_of (number (nearest_said t 0 0 [] []).refusal)) bytes) (nearest_said t 0 0 [] []).differs ≡ nearest_said t m k tb bytes
nearest_told (Ok d) m k tb bytes h = refl
nearest_told (Err r) m k tb bytes h = refused (number_of r) (ap (λ (a : Said). a.refusal) h)
  where
    refused : (n : ℕ) → fault_of n ≡ some n → said_with (fault_of n) 0 m k tb (unless_refused (fault_of n) bytes) 0 ≡ said (some n) 0 m k tb
    refused zero h = absurd (some_none (sym h))
    refused (suc n) h = refl

pub nearest_numbers : {X : Type 0} {read : X → Option Read} {x : X} {c : Call} {y : X} (t : Result ℕ Refusal) {n d m k : ℕ} (i j : ℕ) (tb bytes : List ℕ) → ServesBy read x c (nearest_said t i j tb bytes) y
    → n ≡ number (nearest_said t 0 0 [] []).refusal → d ≡ (nearest_said t 0 0 [] []).differs → m ≡ i → k ≡ j
    → ServesBy read x c (said_with (fault_of n) 0 m k tb (unless_refused (fault_of n) bytes) d) y
nearest_numbers {X} {read} {x} {c} {y} t i j tb bytes s p q u v =
    subst (λ (r : Said). ServesBy read x c r y)
    (sym ((λ l. said_with (fault_of (p l)) 0 (u l) (v l) tb (unless_refused (fault_of (p l)) bytes) (q l)) ∙ nearest_told t i j tb bytes (served_told s))) s

-- the reading that it returns
pub nearest_returned : {X : Type 0} {read : X → Option Read} {x : X} {c : Call} {y : X} (t : Result ℕ Refusal) {n : ℕ} (i j : ℕ) (tb bytes : List ℕ) → ServesBy read x c (nearest_said t i j tb bytes) y
    → n ≡ number (nearest_said t 0 0 [] []).refusal → returned t bytes ≡ unless_refused (fault_of n) bytes
nearest_returned t i j tb bytes s p = by t (served_told s) ∙ ap (λ (n : ℕ). unless_refused (fault_of n) bytes) (sym p)
  where
    by : (t : Result ℕ Refusal) → told (nearest_said t i j tb bytes) ≡ nearest_said t i j tb bytes → returned t bytes ≡ unless_refused (fault_of (number (nearest_said t 0 0 [] []).refusal)) bytes
    by (Ok d) h = refl
    by (Err r) h = refused (number_of r) (ap (λ (a : Said). a.refusal) h)
      where
        refused : (n : ℕ) → fault_of n ≡ some n → [] ≡ unless_refused (fault_of n) bytes
        refused zero h = absurd (some_none (sym h))
        refused (suc n) h = refl

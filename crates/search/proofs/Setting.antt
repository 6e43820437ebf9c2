-- What the nodes above put aside stays, and the row of a node is what it put there.
use Prim.Native.Nat.{ℕ, zero, suc, ◌+◌, ◌*◌, ◌≤◌}
use native.Mathlib.Omega.{arith}
use mathlib.Core.Path.{◌≡◌, refl, sym, ap, ◌∙◌, subst}
use mathlib.Core.List.{List, [], ◌∷◌}
use lib.ListN.{take, drop}
use lib.Seq.{take-take}
use Rattle.qbf.specs.Formula.{highest}
use Rattle.node.specs.declared.position.Position.{Position}
use Rattle.search.specs.Search.{AsideKept}
use Rattle.search.proofs.Counts.{below}

-- the rows of fewer places
pub aside_less : {m n : ℕ} {a a' : List ℕ} → m ≤ n → AsideKept n a a' → AsideKept m a a'
aside_less {m} {n} {a} {a'} h k = record { size = k.size; first = sym (take-take m n a' h) ∙ ap (take m) k.first ∙ take-take m n a h }

pub aside_then : {n : ℕ} {a b c : List ℕ} → AsideKept n a b → AsideKept n b c → AsideKept n a c
aside_then k l = record { size = l.size ∙ k.size; first = l.first ∙ k.first }

-- what a side keeps is the rows of its node's places too
pub aside_up : {a a' : List ℕ} (p q : Position) (v l : ℕ) → q ≡ below p v l → AsideKept (q.at * highest.numbers) a a' → AsideKept (suc p.at * highest.numbers) a a'
aside_up {a} {a'} p q v l e k =
    let z : q.at * highest.numbers ≡ suc p.at * highest.numbers = omega (arith, ap (λ (x : Position). x.at) e) in
    subst (λ (n : ℕ). AsideKept n a a') z k

-- a part of the first cells
part_take : (f n m : ℕ) (a : List ℕ) → f + n ≤ m → take n (drop f (take m a)) ≡ take n (drop f a)
part_take zero n m a h = take-take n m a (omega (arith, h))
part_take (suc f) n zero a h = absurd (omega (arith, h))
part_take (suc f) n (suc m) [] h = refl
part_take (suc f) n (suc m) (x ∷ a) h = part_take f n m a (omega (arith, h))

pub aside_row : {m : ℕ} {a a' : List ℕ} (f n : ℕ) → f + n ≤ m → AsideKept m a a' → take n (drop f a') ≡ take n (drop f a)
aside_row {m} {a} {a'} f n h k = sym (part_take f n m a' h) ∙ ap (λ (x : List ℕ). take n (drop f x)) k.first ∙ part_take f n m a h

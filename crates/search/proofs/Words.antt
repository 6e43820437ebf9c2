-- The words of a node's literals, one value longer; and a position where its last place has a value, which says what the position said.
use Prim.Native.Nat.{ℕ, zero, suc, ◌*◌, ◌≤◌, ◌<◌}
use native.Mathlib.Omega.{arith}
use mathlib.Core.Path.{◌≡◌, refl, sym, ap, ◌∙◌, subst}
use mathlib.Core.Logic.{◌⊎◌, inl, inr}
use mathlib.Core.Bool.{Bool, true, false, not, beq, false≢true}
use mathlib.Core.List.{List, []}
use lib.ListN.{length}
use mathlib.Core.Option.{Option, none, some}
use lib.Bits.{bit_and, bit_or}
use lib.Dec.{eqb}
use Rattle.qbf.specs.Formula.{highest, Prefix, Node, ◌▹◌, value_at}
use Rattle.qbf.specs.Ceiling.{Attempt, finished, stopped}
use Rattle.qbf.specs.Card.{byte_of}
use Rattle.theory.proofs.Basics.{le_or_lt, length-▹, value_low, value_top, value_high}
use Rattle.tables.specs.Codes.{code_at}
use Rattle.tables.specs.Records.{Ledger}
use Rattle.shelf.specs.Masks.{bit}
use Rattle.shelf.proofs.Masking.{within_more, within_new}
use Rattle.inner.specs.Inner.{Worded}
use Rattle.search.specs.Search.{given_at, AskedAt, AskedBelow, Counts, Kept, AsideKept, Result}
use Rattle.node.specs.declared.position.Position.{Position}
use Rattle.node.specs.declared.answer.Answer.{Answer}

-- ---- the words
abbrev value_or : Option Bool → Bool → Bool
value_or none d = d
value_or (some a) d = a

none_some : {b : Bool} → none ≡ some b → ⊥
none_some {b} e = let z : ◌≡◌ {A = ℕ} 0 1 = cc in omega arith

pub worded_below : (s : Node) (v b : Bool) (at : ℕ) {word : ℕ} → Worded s v word → suc (length s) ≡ at → Worded (s ▹ b) v (bit_or word (bit (code_at at (beq b v))))
worded_below s v b at {word} w next = record { has = λ q c e. by q c e (le_or_lt q (length s)) (le_or_lt q at) }
  where
    by : (q : ℕ) (c : Bool) → value_at (s ▹ b) q ≡ some c → (q ≤ length s) ⊎ (length s < q) → (q ≤ at) ⊎ (at < q)
        → bit_and (bit (code_at q (beq c v))) (bit_or word (bit (code_at at (beq b v)))) ≡ bit (code_at q (beq c v))
    by q c e (inl h) k = within_more word (bit (code_at at (beq b v))) (bit (code_at q (beq c v))) (w.has q c (sym (value_low s b q h) ∙ e))
    by q c e (inr h) (inr k) = absurd (none_some (sym (value_high (s ▹ b) q (omega (arith, k, next, length-▹ s b))) ∙ e))
    by q c e (inr h) (inl k) =
        let last : q ≡ suc (length s) = omega (arith, h, k, next) in
        let same : c ≡ b = ap (λ (o : Option Bool). value_or o c) (sym e ∙ ap (value_at (s ▹ b)) last ∙ value_top s b) in
        let code : code_at q (beq c v) ≡ code_at at (beq b v) = ap (λ (x : ℕ). code_at x (beq c v)) (last ∙ next) ∙ ap (λ (x : Bool). code_at at (beq x v)) same in
        subst (λ (x : ℕ). bit_and (bit x) (bit_or word (bit (code_at at (beq b v)))) ≡ bit x) (sym code) (within_new word (bit (code_at at (beq b v))))

-- a node without places has no literal
pub worded_none : (v : Bool) → Worded [] v 0
worded_none v = record { has = by }
  where
    by : (p : ℕ) (b : Bool) → value_at [] p ≡ some b → bit_and (bit (code_at p (beq b v))) 0 ≡ bit (code_at p (beq b v))
    by zero b e = absurd (none_some e)
    by (suc p) b e = absurd (none_some (sym (value_high [] (suc p) (omega arith)) ∙ e))

-- ---- the signs of the two literals that a value has
pub on_is : (b : Bool) (value : ℕ) → value ≡ byte_of b → eqb value 2 ≡ b
on_is true value e = ap (λ (x : ℕ). eqb x 2) e
on_is false value e = ap (λ (x : ℕ). eqb x 2) e

pub held_sign : (b : Bool) → b ≡ beq b true
held_sign true = refl
held_sign false = refl

pub failed_sign : (b : Bool) → not b ≡ beq b false
failed_sign true = refl
failed_sign false = refl

-- ---- the position
pub given_result : (value : ℕ) (p : Position) {D : Prefix} {g : Ledger} {ls : List Node} (t : Attempt) {r : Answer} {cls up cs cl qs ql tb : List ℕ}
    → Result D g ls t (given_at value p) r cls up cs cl qs ql tb → Result D g ls t p r cls up cs cl qs ql tb
given_result value p (finished o) x =
    let w = x.says in
    record { says = record { verdict = w.verdict; stored = w.stored; visited = w.visited; left = w.left; covers = w.covers; counted = w.counted } }
given_result value p (stopped z) x = record { says = x.says }

module _ (value : ℕ) (p q : Position) (is : q ≡ given_at value p) where
  -- what is asked of it
  pub given_asked : {cl ql : List ℕ} → AskedBelow cl ql p → AskedAt false cl ql q
  given_asked {cl} {ql} h =
      subst (AskedAt false cl ql) (sym is)
      (record {
        room = record { within = h.room.within; lines = h.room.lines; clauses = h.room.clauses; cubes = h.room.cubes };
        made = λ e. absurd (false≢true e);
        inner = λ e. h.inner;
      })

  -- and what it leaves
  pub given_counts : {r : Answer} {cl ql cl' ql' : List ℕ} → Counts cl ql q r cl' ql' → Counts cl ql p r cl' ql'
  given_counts {r} {cl} {ql} {cl'} {ql'} h =
      let c = subst (λ (x : Position). Counts cl ql x r cl' ql') is h in
      record { lines_more = c.lines_more; lines_fewer = c.lines_fewer; clauses = c.clauses; cubes = c.cubes }

  pub given_kept : {ss ss' t t' sat sat' mk mk' : List ℕ} → Kept q.at q.words ss ss' t t' sat sat' mk mk' → Kept p.at p.words ss ss' t t' sat sat' mk mk'
  given_kept {ss} {ss'} {t} {t'} {sat} {sat'} {mk} {mk'} h = subst (λ (x : Position). Kept x.at x.words ss ss' t t' sat sat' mk mk') is h

  pub given_aside : {a a' : List ℕ} → AsideKept (q.at * highest.numbers) a a' → AsideKept (p.at * highest.numbers) a a'
  given_aside {a} {a'} h = subst (λ (x : Position). AsideKept (x.at * highest.numbers) a a') is h

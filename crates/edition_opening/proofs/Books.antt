-- WISH 13 of the code, under any limits: "The new reader .. reads both and finds equal rules, so cards agree whether or not a book is tagged." A text and what it
-- is converted to: neither is refused, and what the two leave reads as the same state. o and p are what is answered for them: `OpenedAt` is the `ensures`.
use Prim.Native.Nat.{ℕ, ◌≤◌}
use mathlib.Core.Path.{◌≡◌, ◌∙◌}
use mathlib.Core.List.{List}
use lib.IntN.{ℤ}
use Rattle.std.specs.Prelude.{Result, Ok}
use Rattle.qbf.specs.Formula.{Limits}
use Rattle.layout.specs.Words.{Bytes}
use Rattle.state_parts.specs.Parts.{read_at, Whole}
use Rattle.opening.specs.declared.text.RefusedAt.{RefusedAt}
use Rattle.opening.specs.Opened.{OpenedAt}
use Rattle.opening.proofs.Closed.{opened_alike}
use Rattle.editions.specs.Opening.{both, open_editions}
use Rattle.editions.specs.Converting.{converted, to_tagged, to_untagged}
use Rattle.editions_laws.proofs.Converting.{same_tagged, same_untagged}
use Rattle.editions_laws.proofs.Readers.{equal_tagged, equal_untagged}

module _ (L : Limits) (few : L.clauses ≤ 65535) (size : ℕ) (s t : Bytes) {o p : Result (Unit {0}) RefusedAt} {a b a' b' : List ℕ} {c e c' e' : List ℤ} where
  module _ (was : OpenedAt L (open_editions both L s) a c o a' c') (is : OpenedAt L (open_editions both L t) b e p b' e') (h : Whole L a c) (g : Whole L b e) where
    pub tagged_alike : to_tagged L size s ≡ converted t → (o ≡ Ok tt) × (p ≡ Ok tt) × (read_at a' c' ≡ read_at b' e')
    tagged_alike q =
        let x = same_tagged L few size s t q in
        opened_alike x.0 (equal_tagged L few size s t q ∙ x.2) x.2 h was g is

    pub untagged_alike : to_untagged L size s ≡ converted t → (o ≡ Ok tt) × (p ≡ Ok tt) × (read_at a' c' ≡ read_at b' e')
    untagged_alike q =
        let x = same_untagged L few size s t q in
        opened_alike x.0 (equal_untagged L few size s t q ∙ x.2) x.2 h was g is

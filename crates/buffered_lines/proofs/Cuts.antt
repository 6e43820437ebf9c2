-- A text that was cut at a byte 10 begins with that line.
use Prim.Native.Nat.{suc, ◌+◌, ◌<◌}
use mathlib.Core.Path.{◌≡◌, sym, ap, subst, ◌∙◌}
use mathlib.Core.List.{◌∷◌}
use native.Mathlib.Omega.{arith}
use lib.ListN.{length, drop}
use Rattle.std.specs.Prelude.{Option as Answer, Some}
use Rattle.std.specs.Borrow.{Bor}
use Rattle.std.proofs.Math.Seq.{drop-append-add}
use Rattle.layout.specs.Words.{Bytes, newline, split}
use Rattle.reader.specs.Pieces.{Cut}

pub line_cut : (q l : Bytes) (left : Answer (Bor Bytes)) → Cut newline q l left → (m : Bor Bytes) → left ≡ Some m → (length l < length q) × (split newline q ≡ l ∷ split newline (drop (suc (length l)) q))
line_cut q l left p m e = (omega (arith, w.shorter), w.is ∙ ap (λ (u : Bytes). l ∷ split newline u) (sym rest))
  where
    w : Cut newline q l (Some m)
    w = subst (Cut newline q l) e p

    rest : drop (suc (length l)) q ≡ m.now
    rest = let one : suc (length l) ≡ length l + 1 = omega arith in (λ i. drop (one i) (w.bytes i)) ∙ drop-append-add l (newline ∷ m.now) 1

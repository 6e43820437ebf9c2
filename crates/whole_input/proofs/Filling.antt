-- What stands in the table in the end is the start of the input, as much of it as fits.
use Prim.Native.Nat.{ℕ, ◌+◌, ◌≤◌}
use mathlib.Core.Path.{◌≡◌, sym, ap, ◌∙◌}
use mathlib.Core.List.{◌++◌, append_assoc, append-nil}
use native.Mathlib.Omega.{arith}
use lib.ListN.{length, take, drop, length-take}
use lib.Seq.{take-add, take_all, take-append_seam}
use Rattle.layout.specs.Words.{Bytes}
use Rattle.whole_input.specs.Filling.{Fills, full, ended, more}

-- behind what is held comes what is still to be read
filled_from : {text input d : Bytes} {held r : ℕ} → Fills text held input d r → held ≤ length text → take r d ≡ take (length text) (take held text ++ input)
filled_from {text} {input} {d} {held} {r} (full h) g =
    sym (ap (λ (n : ℕ). take n (take held d ++ input)) all ∙ take-append_seam (take held d) input)
  where
    all : length d ≡ length (take held d)
    all = omega (arith, h, g, length-take held d)
filled_from {text} {input} {d} {held} {r} (ended x e) g =
    x.more.kept g
    ∙ sym (ap (take (length text)) (ap (λ (s : Bytes). take held text ++ s) (x.none e) ∙ append-nil (take held text)) ∙ take_all (length text) (take held text) (omega (arith, length-take held text)))
filled_from {text} {input} {d} {held} {r} (more x f) g =
    filled_from f (omega (arith, x.more.room g, x.more.size))
    ∙ ap (λ (n : ℕ). take n (take (held + x.got) x.after ++ x.rest)) x.more.size
    ∙ ap (λ (s : Bytes). take (length text) (s ++ x.rest)) (take-add held x.got x.after ∙ ap (λ (s : Bytes). s ++ take x.got (drop held x.after)) (x.more.kept g))
    ∙ ap (take (length text)) (append_assoc (take held text) (take x.got (drop held x.after)) x.rest ∙ ap (λ (s : Bytes). take held text ++ s) (sym x.next))

pub filled : {text input d : Bytes} {r : ℕ} → Fills text 0 input d r → take r d ≡ take (length text) input
filled f = filled_from f (omega arith)

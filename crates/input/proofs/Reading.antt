-- A read behind what is held, and all of them.
use Prim.Native.Nat.{ℕ, ◌-◌, ◌≤◌}
use mathlib.Core.Path.{◌≡◌}
use mathlib.Core.List.{List}
use native.Mathlib.Omega.{arith}
use borrow.Rule.Slice.PartMut.{mid_of, put_mid, same_len_mid, take_put}
use lib.ListN.{length, drop, length-take, length-drop}
use Rattle.io.specs.Counts.{IsPrefixLen}
use Rattle.input.specs.More.{More}

pub read_behind : (held : ℕ) (xs ys : List ℕ) {r : ℕ} → length ys ≡ length (mid_of held (length xs - held) xs) → r ≤ length ys → More held xs r (put_mid held (length xs - held) xs ys)
read_behind held xs ys {r} e h =
    record {
      size = same_len_mid held (length xs - held) xs ys e;
      room = λ g. omega (arith, g, h, e, length-take (length xs - held) (drop held xs), length-drop held xs);
      kept = λ g. take_put held (length xs - held) xs ys g;
    }

pub counts : (n : ℕ) (xs : List ℕ) → n ≤ length xs → IsPrefixLen n xs
counts n xs h = (h, omega (arith, h, length-take n xs))

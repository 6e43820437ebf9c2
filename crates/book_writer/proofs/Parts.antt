-- A text whose bytes are counted part by part: what is counted already, and what is still to come.
use Prim.Native.Nat.{ℕ, ◌+◌, ◌≤◌}
use mathlib.Core.Path.{◌≡◌, ap}
use mathlib.Core.List.{[], ◌++◌}
use native.Mathlib.Omega.{arith}
use lib.ListN.{length, length-append}
use Rattle.layout.specs.Words.{Bytes}
use Rattle.book_writer.specs.Tables.{Counted}

-- of all, n bytes are counted, no more than so many
pub record Counting (all rest : Bytes) (most n : ℕ) : Type 0 where
  pub whole : n + length rest ≡ length all
  pub few : n ≤ most

pub counting_none : {all : Bytes} (rest : Bytes) → all ≡ rest → Counting all rest 0 0
counting_none rest e = record { whole = omega (arith, ap length e); few = omega arith }

module _ {all rest : Bytes} {most n : ℕ} (w : Counting all rest most n) where
  pub counting_more : (part after : Bytes) {m r next : ℕ} → rest ≡ part ++ after → Counted part m r → most + m ≤ next → Counting all after next (n + r)
  counting_more part after e c h =
      record { whole = omega (arith, w.whole, c.is, ap length e, length-append part after); few = omega (arith, w.few, c.few, h) }

  pub counting_end : {m : ℕ} → rest ≡ [] → most ≤ m → Counted all m n
  counting_end e h = record { is = omega (arith, w.whole, ap length e); few = omega (arith, w.few, h) }

-- the last part
pub counting_last : {all rest part : Bytes} {most n m : ℕ} → Counting all rest most n → rest ≡ part → most + length part ≤ m → Counted all m (n + length part)
counting_last w e h = record { is = omega (arith, w.whole, ap length e); few = omega (arith, w.few, h) }

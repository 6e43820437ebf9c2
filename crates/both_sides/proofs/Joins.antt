-- Joining the constraints of two sides: the resolvent, and what is stored.
use Prim.Native.Nat.{ℕ, zero, suc, ◌≤◌, ◌<◌}
use native.Mathlib.Omega.{arith}
use mathlib.Core.Path.{◌≡◌, refl, sym, ap, subst, ◌∙◌}
use mathlib.Core.Bool.{Bool, true, false}
use mathlib.Core.List.{List, [], ◌∷◌, ◌++◌, map}
use lib.ListN.{length, take, drop, length-map}
use lib.Seq.{length-take-le}
use lib.Dec.{eqb}
use Rattle.qbf.specs.Formula.{paper, highest, Prefix}
use Rattle.qbf.specs.Learning.{Polarity, Constraint, push, mentions, resolvent, last_place}
use Rattle.qbf.specs.Calls.{in_order}
use Rattle.tables.specs.Codes.{code_of, codes, last_code}
use Rattle.tables.specs.Shelves.{code_count}
use Rattle.theory.proofs.Sets.{mentions_last}
use Rattle.theory.proofs.WellFormed.{rising→}
use Rattle.node.specs.Node.{Fits}
use Rattle.search_entry.specs.Entry.{table_of, entry_at}
use Rattle.search_entry.specs.declared.Source.{Source}
use Rattle.search_entry.specs.declared.bounds.Bounds.{Bounds}
use Rattle.resolution.specs.Stored.{Stored}
use Rattle.both_sides.specs.Step.{JoinedSides}

-- ---- one row more of a list of rows
map_drop : {A B : Type 0} (f : A → B) (n : ℕ) (l : List A) → map f (drop n l) ≡ drop n (map f l)
map_drop f zero l = refl
map_drop f (suc n) [] = refl
map_drop f (suc n) (x ∷ l) = map_drop f n l

map_append : {A B : Type 0} (f : A → B) (l m : List A) → map f (l ++ m) ≡ map f l ++ map f m
map_append f [] m = refl
map_append f (x ∷ l) m = ap {B = List _} (λ t. f x ∷ t) (map_append f l m)

-- one more, mapped
map_push : {A B : Type 0} (f : A → B) (n : ℕ) (e : A) (es : List A) → map f (push n e es) ≡ push n (f e) (map f es)
map_push f n e es = rw (map_append, map_drop, length-map)

-- ---- by whether the on side's constraint f ends at the next place, which no literal of it stands beyond
module _ (D : Prefix) (at : ℕ) (v : Polarity) (e f : Constraint) (ordered : in_order D 0 f ≡ true) (ends : last_place D f ≤ suc at) {b : Bool} (named : b ≡ eqb (last_place D f) (suc at)) where
  -- that is whether it names that place
  is_named : mentions D (suc at) f ≡ b
  is_named = mentions_last D (suc at) f (rising→ D 0 f ordered) ends (omega arith) ∙ sym named

  -- it does not: it goes up, and nothing is stored
  pub joined_lacking : b ≡ false → (es : List Constraint) {cs : List ℕ} {rows : List (List ℕ)} {n : ℕ} → cs ≡ codes D f → rows ≡ map (codes D) es → JoinedSides D (suc at) v e f es cs rows n n
  joined_lacking h es k s = record { up = rw (is_named, h) k; stored = rw (is_named, h) s; numbered = rw (is_named, h) refl }

  -- it does: the resolvent, the first m codes of an area, is stored, and its row goes up
  module _ (h : b ≡ true) (es : List Constraint) (up : List ℕ) (m : ℕ) (within : m ≤ length up) (made : take m up ≡ codes D (resolvent D (suc at) v e f)) (fits : Fits D (resolvent D (suc at) v e f)) where
    -- it has room
    made_short : m ≤ highest.numbers
    made_short = omega (arith, ap length made, length-map (resolvent D (suc at) v e f) (code_of D), length-take-le m up within, fits.0)

    made_low : last_code (take m up) < code_count
    made_low = subst (λ (cs : List ℕ). last_code cs < code_count) (sym made) fits.1

    pub joined_named : (r : Bounds) (cls cells area : List ℕ) {old new : List (List ℕ)} {n n' : ℕ} → old ≡ map (codes D) es
        → (m ≤ highest.numbers → last_code (take m up) < code_count → Stored r (take m up) cells × (new ≡ push paper.constraints (take m up) old) × (n' ≡ suc n))
        → JoinedSides D (suc at) v e f es (entry_at r cls cells area) new n n'
    joined_named r cls cells area {old = old} k s =
        let g = s made_short made_low in
        record {
          up = rw (is_named, h) (ap (λ (x : Source). take r.len (drop r.start (table_of x cls cells area))) g.0.source ∙ g.0.part ∙ made);
          stored = rw (is_named, h) (g.1 ∙ ap (λ (x : List ℕ). push paper.constraints x old) made ∙ ap (push paper.constraints (codes D (resolvent D (suc at) v e f))) k ∙ sym (map_push (codes D) paper.constraints (resolvent D (suc at) v e f) es));
          numbered = rw (is_named, h) g.2;
        }

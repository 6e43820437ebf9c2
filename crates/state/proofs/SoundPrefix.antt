-- For whoever builds a state: tables by place that show a well-formed prefix, and the state that they give.
use Prim.Native.Nat.{ℕ}
use native.Mathlib.Omega.{arith}
use mathlib.Core.Path.{◌≡◌, ap, ◌∙◌}
use mathlib.Core.Bool.{true}
use mathlib.Core.List.{List, []}
use lib.ListN.{length, get_or}
use lib.Dec.{leb}
use Rattle.qbf.specs.Formula.{Limits, Prefix}
use Rattle.qbf.specs.Calls.{limits_are_ok, free_is_ok, numbers_are_ok}
use Rattle.theory.proofs.Basics.{and_right}
use Rattle.state.specs.State.{State}
use Rattle.state.specs.Reading.{listing, variable_at, prefix_in, own, valid_under}
use Rattle.state.specs.Declare.{SoundUnder}
use Rattle.state.proofs.Fresh.{numbers_numbered}
use Rattle.state.proofs.Steps.{steps_ok, steps_from}
use Rattle.state.proofs.Valid.{clauses_part, learned_clauses_part, learned_cubes_part, records_part, parts_valid, valid_parts}

-- ---- tables
module _ (L : Limits) (ns ls ks : List ℕ) where
  pub none_sound : get_or ns 0 0 ≡ 0 → SoundUnder L ns ls ks
  none_sound e =
      record {
        numbers_ok = ap (λ (n : ℕ). numbers_are_ok L [] (listed n)) e;
        levels_ok = steps_ok L ns ls ks (omega (arith, e)) ∙ ap (steps_from L.numbers ls ks 0 0 0) e;
      }
    where
      listed : ℕ → Prefix
      listed n = listing (variable_at ns ls ks) 0 n

-- ---- states
-- the parts of a state under its own limits
pub under_sound : (n m : ℕ) (x : State) → valid_under (own n m) x ≡ true → SoundUnder (own n m) x.numbers x.levels x.kinds
under_sound n m x v =
    let p = valid_parts n m x v in
    record { numbers_ok = and_right (leb (length (prefix_in x)) n) (numbers_are_ok (own n m) [] (prefix_in x)) p.numbers_ok; levels_ok = p.levels_ok }

pub sound_under : (n m : ℕ) (x : State) → limits_are_ok (own n m) ≡ true → free_is_ok (prefix_in x) ≡ true → SoundUnder (own n m) x.numbers x.levels x.kinds → clauses_part n m x ≡ true → learned_clauses_part n m x ≡ true → learned_cubes_part n m x ≡ true → records_part n m x ≡ true → valid_under (own n m) x ≡ true
sound_under n m x low few s c l p r =
    parts_valid n m x
    (record {
      limits_ok = low;
      free_ok = few;
      numbers_ok = numbers_numbered (own n m) (prefix_in x) s.numbers_ok;
      levels_ok = s.levels_ok;
      clauses_ok = c;
      learned_clauses_ok = l;
      learned_cubes_ok = p;
      records_ok = r;
    })

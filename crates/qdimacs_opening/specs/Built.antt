-- The flags and then the groups, declared in the cells of a state whose prefix is made anew.
use Rattle.std.specs.Prelude.{ℕ, zero, suc, ◌≤◌, ◌≡◌, true, cond, List, [], ◌∷◌, ◌++◌, map, length, get_or, eqb, ltb}
use Rattle.qbf.specs.Formula.{Limits, most_free, exists, free, forall, Prefix, quantifiers}
use Rattle.qbf.specs.Calls.{no_free, free_first, free_is_ok, numbers_are_ok}
use Rattle.tables.specs.Views.{quantifier_code, Numbers, Places}
use Rattle.state.specs.Reading.{quantifier_of}
use Rattle.state.specs.Derived.{Quantified}
use Rattle.state_parts.specs.Parts.{clause_sizes_at}
use Rattle.declaring.specs.Declaring.{prefix_at, SoundAt, Beside}
use Rattle.layout.specs.Opening.{variable}
use Rattle.qdimacs_form.specs.Opening.{flags_up_to}

-- ---- what may be declared, and is
pub record Formed (L : Limits) (W : Prefix) : Type 0 where
  pub numbers_ok : numbers_are_ok L [] W ≡ true
  pub first : free_first (quantifiers W) ≡ true
  pub few : free_is_ok W ≡ true

-- these variables are declared, and what stands beside the tables by place is as it was at the start
pub record Built (L : Limits) (start : List ℕ) (P : Prefix) (cells : List ℕ) : Type 0 where
  pub room : clause_sizes_at L ≤ length cells
  pub sound : SoundAt L cells
  pub few : free_is_ok (prefix_at L cells) ≡ true
  pub prefix : prefix_at L cells ≡ P
  pub beside : Beside L start cells

-- ---- flags, by the places of the variables of the groups
abbrev pub flags_in : List ℕ → ℕ → List ℕ
flags_in places zero = []
flags_in places (suc v) = flags_in places v ++ cond (eqb (get_or places (suc v) 0) 0) (suc v ∷ []) []

abbrev pub flags_as : ℕ → List ℕ → ℕ → Prefix
flags_as kind places v = map (variable (quantifier_of kind)) (flags_in places v)

pub record FlagsReady (L : Limits) (cells places : List ℕ) (v kind : ℕ) : Type 0 where
  pub built : Built L cells [] cells
  pub formed : Formed L (flags_as kind places v)
  pub code : kind ≤ quantifier_code forall

-- ---- groups: the variables of D may stand after those of F
pub record GroupsReady (L : Limits) (start : List ℕ) (F D : Prefix) (cells ms mls mks : List ℕ) : Type 0 where
  pub built : Built L start F cells
  pub formed : Formed L (F ++ D)
  pub numbers : Numbers D ms
  pub quantified : Quantified D mls mks

-- ---- both
-- how many flags there are, where they are more than may be
abbrev pub crowd_for : ℕ → ℕ
crowd_for n = cond (ltb most_free n) n 0

-- so many flags stand as variables of exists
abbrev pub kind_for : ℕ → ℕ
kind_for zero = quantifier_code free
kind_for (suc k) = quantifier_code exists

pub record Regroupable (L : Limits) (D : Prefix) (cells ms mls mks places : List ℕ) (v : ℕ) : Type 0 where
  pub room : clause_sizes_at L ≤ length cells
  pub numbers : Numbers D ms
  pub quantified : Quantified D mls mks
  pub shown : Places D places
  pub numbers_ok : numbers_are_ok L [] D ≡ true
  pub none_free : no_free (quantifiers D) ≡ true
  pub few : v ≤ L.numbers

pub record Regrouped (L : Limits) (D : Prefix) (start : List ℕ) (v k : ℕ) (cells : List ℕ) : Type 0 where
  pub count : k ≡ crowd_for (length (flags_up_to D v))
  pub built : Built L start (map (variable (quantifier_of (kind_for k))) (flags_up_to D v) ++ D) cells

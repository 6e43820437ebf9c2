-- What the reading of a query's arguments says.
use Rattle.std.specs.Prelude.{ℕ, ◌<◌, ◌≡◌, Bool, true, false, List, [], ◌++◌, length, get_or, Result, Ok, Err}
use Rattle.std.proofs.Math.Option.{none, some}
use Rattle.refusal.specs.declared.Refusal.{Refusal}
use Rattle.refusal.specs.declared.Refusal.TheVariants as refusal
use Rattle.qbf.specs.Formula.{Limits, Prefix, Literal, Formula}
use Rattle.qbf.specs.Truth.{free_variables}
use Rattle.qbf.specs.Open.{reading_of, is_full}
use Rattle.qbf.specs.Calls.{prefix_is_ok, query_fault, start_node}
use Rattle.tables.specs.Views.{Numbers, Places, Recorded, Values}

-- The tables show the prefix D of the limits L, and the lent values are open.
pub record Ready (L : Limits) (D : Prefix) (free : ℕ) (ns places values : List ℕ) : Type 0 where
  pub good : prefix_is_ok L D ≡ true
  pub counted : free ≡ free_variables D
  pub numbered : Numbers D ns
  pub placed : Places D places
  pub wide : L.numbers < length values
  pub opened : (n : ℕ) → get_or values n 0 ≡ 0

-- of the numbers on and those off
pub record QueryRead (D : Prefix) (on off : List Literal) (ok full : Bool) (values : List ℕ) : Type 0 where
  -- refused with 8 exactly where the definition refuses
  pub fault : (b : Formula) → b.prefix ≡ D → ok ≡ false → query_fault b [] (on ++ off) ≡ some 8
  pub fine : (b : Formula) → b.prefix ≡ D → ok ≡ true → query_fault b [] (on ++ off) ≡ none
  -- the values are what the reading records; "the rest are open"
  pub recorded : ok ≡ true → Recorded D (reading_of on off D) values
  pub told : ok ≡ true → full ≡ is_full (reading_of on off D)
  -- those of a full reading are the start node's
  pub shown : ok ≡ true → full ≡ true → Values D (start_node on D) values

-- whether they name all, or their refusal
abbrev pub ReadAs : Prefix → List Literal → List Literal → Result Bool Refusal → List ℕ → Type 0
ReadAs D on off (Ok full) values = QueryRead D on off true full values
ReadAs D on off (Err r) values = (r ≡ refusal.NotFree) × QueryRead D on off false false values

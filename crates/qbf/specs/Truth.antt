-- Truth of a full reading by quantification, and the verdict of a node by the completions of its free variables.
-- Paper 01, "Book". Throughout, D is the prefix, R the clauses, ks the quantifiers of the places left, s a node.
use Rattle.std.specs.Prelude.{ℕ, suc, Bool, true, false, cond, not, ◌&&◌, ◌||◌, List, [], ◌∷◌, ◌++◌}
use Rattle.std.specs.Bool.{beq}
use Rattle.qbf.specs.Formula.{Quantifier, free, exists, forall, Prefix, quantifiers, Clause, Node, ◌▹◌, all, satisfied}

-- A verdict Yes or No as a Bool: true is Yes, false is No. The third verdict, Mixed, is a constructor of `Outcome`.
abbrev pub Verdict : Type 0
Verdict = Bool

-- a node with its verdict
pub record DecidedNode : Type 0 where
  pub node : Node
  pub verdict : Verdict

-- An outcome at a node: Yes or No, with a value of type X; or Mixed, with the topmost decided nodes below it.
pub data Outcome (X : Type 0) : Type 0 where
  decided : Verdict → X → Outcome X
  mixed : List DecidedNode → Outcome X

-- the topmost decided nodes from a node on, off before on
abbrev pub decided_nodes : {X : Type 0} → Node → Outcome X → List DecidedNode
decided_nodes s (decided v x) = record { node = s; verdict = v } ∷ []
decided_nodes s (mixed ds) = ds

-- those with the verdict p
abbrev pub select : Verdict → List DecidedNode → List Node
select p [] = []
select p (d ∷ ds) = cond (beq p d.verdict) (d.node ∷ select p ds) (select p ds)

-- an outcome without its value
abbrev pub outline : {X : Type 0} → Outcome X → Outcome (Unit {0})
outline (decided v x) = decided v tt
outline (mixed ds) = mixed ds

-- ---- truth
-- "exists means off or on does, forall means both do"; a free variable is read as the first argument says
abbrev pub one_side_enough : Bool → Quantifier → Bool
one_side_enough a free = a
one_side_enough a exists = true
one_side_enough a forall = false

abbrev pub combine : Bool → Bool → Bool → Bool
combine true x y = x || y
combine false x y = x && y

-- "with all values given, every rule has a true literal; exists means off or on does, forall means both do":
-- of some completion of the free variables left (true), or of all of them (false)
abbrev pub completions : Bool → Prefix → List Clause → List Quantifier → Node → Bool
completions a D R [] s = all (satisfied D s) R
completions a D R (κ ∷ ks) s = combine (one_side_enough a κ) (completions a D R ks (s ▹ false)) (completions a D R ks (s ▹ true))

abbrev pub some_completion : Prefix → List Clause → List Quantifier → Node → Bool
some_completion = completions true

abbrev pub all_completions : Prefix → List Clause → List Quantifier → Node → Bool
all_completions = completions false

-- the free variables, which come first: how many there are, and the quantifiers after them
abbrev pub free_count : List Quantifier → ℕ
free_count [] = 0
free_count (free ∷ ks) = suc (free_count ks)
free_count (exists ∷ ks) = 0
free_count (forall ∷ ks) = 0

abbrev pub bound : List Quantifier → List Quantifier
bound [] = []
bound (free ∷ ks) = bound ks
bound (exists ∷ ks) = exists ∷ ks
bound (forall ∷ ks) = forall ∷ ks

-- the paper's f
abbrev pub free_variables : Prefix → ℕ
free_variables D = free_count (quantifiers D)

-- the truth of a full reading t: no free variable is left
abbrev pub truth : Prefix → List Clause → Node → Bool
truth D R t = some_completion D R (bound (quantifiers D)) t

-- ---- verdicts
-- "A node among the flags is Yes if all completions of its flags are true, No if none is, otherwise Mixed."
abbrev pub verdict_of : Prefix → List Clause → List Quantifier → Node → Outcome (Unit {0})
verdict_of D R [] s = cond (all (satisfied D s) R) (decided true tt) (decided false tt)
verdict_of D R (κ ∷ ks) s =
    cond (all_completions D R (κ ∷ ks) s) (decided true tt)
    (cond (some_completion D R (κ ∷ ks) s)
    (mixed (decided_nodes (s ▹ false) (verdict_of D R ks (s ▹ false)) ++ decided_nodes (s ▹ true) (verdict_of D R ks (s ▹ true))))
    (decided false tt))

-- the node is Yes (p true: all completions are true), or No (p false: none is)
abbrev pub has_verdict : Verdict → Prefix → List Clause → List Quantifier → Node → Bool
has_verdict p D R ks s = beq (completions (not p) D R ks s) p

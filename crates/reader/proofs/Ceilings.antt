-- The call of a line with the size of its table and its ceiling, by the answers of the two items.
use Prim.Native.Nat.{ℕ}
use mathlib.Core.Path.{◌≡◌, refl, sym, ap, subst, ◌∙◌}
use mathlib.Core.Bool.{false}
use mathlib.Core.List.{List, [], ◌∷◌}
use mathlib.Core.Option.{Option, none, some}
use lib.IntN.{ℤ}
use Rattle.std.specs.Prelude.{Option as Answer, Some, None}
use Rattle.qbf.specs.Ceiling.{highest_ceiling}
use Rattle.qbf.specs.Calls.{Call}
use Rattle.layout.specs.Words.{Bytes, space, split, same}
use Rattle.layout.specs.Forms.{then}
use Rattle.layout.specs.Endings.{ended, ceiling_word, ceiling_number, bytes_word, bytes_number}
use Rattle.layout.specs.Session.{call_from, under, into, takes_given, sized_call, ceiled_call}
use Rattle.reader.specs.Calls.{CallUnder, CallRead}
use Rattle.reader.specs.Endings.{EndedRead}
use Rattle.reader.specs.Sized.{sized_line}
use Rattle.reader.specs.Ceilings.{limited_line, CeiledRead}
use Rattle.reader.specs.declared.call.CallLine.{CallLine}
use Rattle.reader.specs.declared.call.CallLine.TheVariants as line
use Rattle.reader.specs.declared.ceiling.CeiledLine.{CeiledLine}
use Rattle.reader.specs.declared.ending.Ending.{Ending}
use Rattle.reader.specs.Numbers.{num_of}
use Rattle.reader.proofs.Endings as ending

no_call : call_from [] ≡ none
unfolding call_from
no_call = refl

no_sized : sized_call [] ≡ none
unfolding sized_call ended call_from
no_sized = refl

-- a word that makes no call with any words makes none with the items
pub word_none : (w : Bytes) (ws : List Bytes) → same w ceiling_word ≡ false → same w bytes_word ≡ false → ((vs : List Bytes) → call_from (w ∷ vs) ≡ none) → ceiled_call (w ∷ ws) ≡ none
unfolding ceiled_call sized_call
word_none w ws h k f = ending.word_none ceiling_word ceiling_number under sized_call w ws h (λ vs. ending.word_none bytes_word bytes_number into call_from w vs k f)

given_none : (takes : ℕ → Call → Option Call) (g : Option ℕ) → takes_given takes g none ≡ none
given_none takes none = refl
given_none takes (some n) = refl

-- ---- the size of the table
into_line : (n : ℕ) (o : Option Call) (l : CallLine) (out : List ℤ) → CallUnder highest_ceiling o l out → CallRead (then o (into n)) (sized_line l n) out
into_line n o (line.Rule k) out h = ap (λ (x : Option Call). then x (into n)) h.1
into_line n o (line.Query k) out h = ap (λ (x : Option Call). then x (into n)) h.1
into_line n o (line.Card size) out h = ap (λ (x : Option Call). then x (into n)) h
into_line n o (line.KeepCard size) out h = ap (λ (x : Option Call). then x (into n)) h
into_line n o line.Forget out h = ap (λ (x : Option Call). then x (into n)) h
into_line n o line.Withdraw out h = ap (λ (x : Option Call). then x (into n)) h
into_line n o (line.One k) out h = ap (λ (x : Option Call). then x (into n)) h.1
into_line n o (line.Closest k size) out h = (h.0, ap (λ (x : Option Call). then x (into n)) h.1, h.2)

module _ (s : Bytes) where
  pub no_sized_call : EndedRead (ended bytes_word bytes_number (split space s)) None → sized_call (split space s) ≡ none
  unfolding sized_call
  no_sized_call h = ending.outside_form bytes_word s bytes_number into call_from no_call h

  module _ (z : Ending) (read : EndedRead (ended bytes_word bytes_number (split space s)) (Some z)) where
    pub sized_is : sized_call (split space s) ≡ takes_given into (num_of z.number) (call_from (split space z.words.now))
    unfolding sized_call
    sized_is = ending.ended_is bytes_word s bytes_number into call_from z read

    pub none_sized : call_from (split space z.words.now) ≡ none → sized_call (split space s) ≡ none
    none_sized h = sized_is ∙ ap (takes_given into (num_of z.number)) h ∙ given_none into (num_of z.number)

    -- without the item, and with it
    pub whole_read : z.number ≡ None → (l : CallLine) (out : List ℤ) → CallRead (call_from (split space z.words.now)) (Some l) out → CallRead (sized_call (split space s)) (Some l) out
    whole_read h l out c = subst (λ (o : Option Call). CallUnder highest_ceiling o l out) (sym (sized_is ∙ ap (λ (g : Answer ℕ). takes_given into (num_of g) (call_from (split space z.words.now))) h)) c

    pub sized_read : {n : ℕ} → z.number ≡ Some n → (l : CallLine) (out : List ℤ) → CallRead (call_from (split space z.words.now)) (Some l) out
        → {a : Answer CallLine} → a ≡ sized_line l n → CallRead (sized_call (split space s)) a out
    sized_read {n} h l out c {a} e =
        subst (λ (y : Answer CallLine). CallRead (sized_call (split space s)) y out) (sym e)
        (subst (λ (o : Option Call). CallRead o (sized_line l n) out) (sym (sized_is ∙ ap (λ (g : Answer ℕ). takes_given into (num_of g) (call_from (split space z.words.now))) h)) (into_line n (call_from (split space z.words.now)) l out c))

-- ---- the ceiling
under_line : (n : ℕ) (o : Option Call) (l : CallLine) (out : List ℤ) → CallUnder highest_ceiling o l out → CeiledRead (then o (under n)) (limited_line l n) out
under_line n o (line.Rule k) out h = ap (λ (x : Option Call). then x (under n)) h.1
under_line n o (line.Query k) out h = (h.0, ap (λ (x : Option Call). then x (under n)) h.1, h.2)
under_line n o (line.Card size) out h = ap (λ (x : Option Call). then x (under n)) h
under_line n o (line.KeepCard size) out h = ap (λ (x : Option Call). then x (under n)) h
under_line n o line.Forget out h = ap (λ (x : Option Call). then x (under n)) h
under_line n o line.Withdraw out h = ap (λ (x : Option Call). then x (under n)) h
under_line n o (line.One k) out h = ap (λ (x : Option Call). then x (under n)) h.1
under_line n o (line.Closest k size) out h = (h.0, ap (λ (x : Option Call). then x (under n)) h.1, h.2)

module _ (s : Bytes) where
  pub no_ceiled_call : EndedRead (ended ceiling_word ceiling_number (split space s)) None → ceiled_call (split space s) ≡ none
  unfolding ceiled_call
  no_ceiled_call h = ending.outside_form ceiling_word s ceiling_number under sized_call no_sized h

  module _ (z : Ending) (read : EndedRead (ended ceiling_word ceiling_number (split space s)) (Some z)) where
    pub ceiled_is : ceiled_call (split space s) ≡ takes_given under (num_of z.number) (sized_call (split space z.words.now))
    unfolding ceiled_call
    ceiled_is = ending.ended_is ceiling_word s ceiling_number under sized_call z read

    pub none_ceiled : sized_call (split space z.words.now) ≡ none → ceiled_call (split space s) ≡ none
    none_ceiled h = ceiled_is ∙ ap (takes_given under (num_of z.number)) h ∙ given_none under (num_of z.number)

    -- without the item, and with it
    pub unlimited_read : z.number ≡ None → (l : CallLine) (out : List ℤ) → CallRead (sized_call (split space z.words.now)) (Some l) out
        → {a : CeiledLine} → a ≡ record { line = l; ceiling = highest_ceiling } → CeiledRead (ceiled_call (split space s)) (Some a) out
    unlimited_read h l out c {a} e =
        subst (λ (y : CeiledLine). CeiledRead (ceiled_call (split space s)) (Some y) out) (sym e)
        (subst (λ (o : Option Call). CallUnder highest_ceiling o l out) (sym (ceiled_is ∙ ap (λ (g : Answer ℕ). takes_given under (num_of g) (sized_call (split space z.words.now))) h)) c)

    pub limited_read : {n : ℕ} → z.number ≡ Some n → (l : CallLine) (out : List ℤ) → CallRead (sized_call (split space z.words.now)) (Some l) out
        → {a : Answer CeiledLine} → a ≡ limited_line l n → CeiledRead (ceiled_call (split space s)) a out
    limited_read {n} h l out c {a} e =
        subst (λ (y : Answer CeiledLine). CeiledRead (ceiled_call (split space s)) y out) (sym e)
        (subst (λ (o : Option Call). CeiledRead o (limited_line l n) out) (sym (ceiled_is ∙ ap (λ (g : Answer ℕ). takes_given under (num_of g) (sized_call (split space z.words.now))) h)) (under_line n (sized_call (split space z.words.now)) l out c))

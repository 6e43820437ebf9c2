-- A request at a place, by the answer of the accounts.
use Prim.Native.Nat.{ℕ, ◌-◌}
use native.Mathlib.Omega.{arith}
use mathlib.Core.Path.{◌≡◌, refl, sym, ap, subst, ◌∙◌}
use mathlib.Core.Logic.{◌⊎◌, inl, inr}
use mathlib.Core.Bool.{Bool, true, false, cond}
use mathlib.Core.List.{List, []}
use mathlib.Core.Option.{Option, none, some}
use lib.IntN.{ℤ}
use lib.ListN.{get_or, set, take}
use lib.Seq.{set-get_or}
use Rattle.std.specs.Prelude.{Result, Ok, Err}
use Rattle.refusal.specs.declared.Refusal.{Refusal}
use Rattle.refusal.specs.Refusal.{number_of}
use Rattle.qbf.specs.Calls.{Call, rule, query, card, forget, withdraw, keep_card, one, closest, State as Read}
use Rattle.layout.specs.Words.{Bytes}
use Rattle.layout.specs.Output.{refusal_text}
use Rattle.sessions.specs.Session.{Request, Card, call, write, page}
use Rattle.feeding.specs.Lines.{Answered}
use Rattle.days.specs.Day.{outside, book_at, share_at}
use Rattle.day_text.specs.Program.{Served, answer_at, answer_placed}
use Rattle.shares.specs.Shares.{share_of}
use Rattle.state_parts.specs.Parts.{read_at}
use Rattle.serving_days.specs.Serves.{state_in}
use Rattle.writer.specs.Wrote.{Wrote}
use Rattle.answer_text.proofs.Room.{within}
use Rattle.answer_text.specs.Shown.{no_card}
use Rattle.places.specs.Rooms.{part_at}
use Rattle.places.specs.Day.{booked}
use Rattle.places.proofs.Places.{told}
use Rattle.day_lines.specs.declared.Kept.{Kept}
use Rattle.day_lines.specs.declared.asked.Kind.{Kind}
use Rattle.day_lines.specs.declared.asked.Kind.TheVariants as kind
use Rattle.day_lines.specs.Asked.{AskedIs, kind_call, kind_request}
use Rattle.day_lines.specs.Book.{BookServed, changed_at}
use Rattle.day_lines.specs.Served.{shown_in, served_in, without_card, Overspent, Told, PlaceServed}
use Rattle.day_lines.proofs.Shares.{Booked, AtShare, at_share}
use Rattle.day_lines.proofs.Shown.{shown_set}
use Rattle.day_lines.proofs.Tables.{here}
use Rattle.day_lines.proofs.Answers.{owed_write, owed_page, owed_call, over_text, over_lists, over_calls}

-- ---- one kind is no other
abbrev is_reads : Kind → Type 0
is_reads kind.Reads = Unit {0}
is_reads kind.Lists = ⊥
is_reads kind.Calls = ⊥

reads_lists : kind.Reads ≡ kind.Lists → ⊥
reads_lists e = subst is_reads e tt

reads_calls : kind.Reads ≡ kind.Calls → ⊥
reads_calls e = subst is_reads e tt

no_reads : (c : Call) → kind_call c ≡ kind.Reads → ⊥
no_reads (rule ls) e = subst is_reads (sym e) tt
no_reads (query n on off) e = subst is_reads (sym e) tt
no_reads (card n size) e = subst is_reads (sym e) tt
no_reads forget e = subst is_reads (sym e) tt
no_reads withdraw e = subst is_reads (sym e) tt
no_reads (keep_card n size) e = subst is_reads (sym e) tt
no_reads (one ls) e = subst is_reads (sym e) tt
no_reads (closest n size on off) e = subst is_reads (sym e) tt

module _ (s : Kept) (cells : List ℕ) (literals : List ℤ) (cards : List Bytes) (k : ℕ) where
  abbrev z : Served
  z = served_in s cells literals cards

  abbrev share : Result ℕ Refusal
  share = share_of s.accounts.total s.accounts.used k (booked s.accounts.books k)

  abbrev by : AtShare z.day k (booked s.accounts.books k) share
  by = at_share z.day k (booked s.accounts.books k) (told s.rooms s.accounts cells literals (record { place = k; call = forget }))

  -- ---- what the answer of the accounts says
  pub allowed : (m : ℕ) → share ≡ Ok m → (m ≡ share_at z.day k) × Booked z.day k (booked s.accounts.books k) false
  allowed m e = subst (AtShare z.day k (booked s.accounts.books k)) e by

  pub refused : (r : Refusal) → share ≡ Err r → ((number_of r ≡ 38) × (book_at z.day k ≡ none)) ⊎ ((number_of r ≡ 22) × Booked z.day k (booked s.accounts.books k) true)
  refused r e = subst (AtShare z.day k (booked s.accounts.books k)) e by

  pub overspent_here : (r : Refusal) → share ≡ Err r → number_of r ≡ 22 → Booked z.day k (booked s.accounts.books k) true
  overspent_here r e f = pick (refused r e)
    where
      pick : ((number_of r ≡ 38) × (book_at z.day k ≡ none)) ⊎ ((number_of r ≡ 22) × Booked z.day k (booked s.accounts.books k) true) → Booked z.day k (booked s.accounts.books k) true
      pick (inl (g, h)) = absurd (omega (arith, f, g))
      pick (inr (g, h)) = h

  pub no_book_here : (r : Refusal) → share ≡ Err r → (number_of r ≡ 22 → ⊥) → (number_of r ≡ 38) × (book_at z.day k ≡ none)
  no_book_here r e f = pick (refused r e)
    where
      pick : ((number_of r ≡ 38) × (book_at z.day k ≡ none)) ⊎ ((number_of r ≡ 22) × Booked z.day k (booked s.accounts.books k) true) → (number_of r ≡ 38) × (book_at z.day k ≡ none)
      pick (inl p) = p
      pick (inr (g, h)) = absurd (f g)

  -- ---- the place's book
  module _ (inside : outside k ≡ false) (stands : booked s.accounts.books k ≡ true) where
    abbrev own_at : Read
    own_at = state_in (read_at (part_at s.rooms.cells k cells) (part_at s.rooms.literals k literals))

    booked_at : book_at z.day k ≡ some own_at
    booked_at = ap (λ (t : Bool). cond t none (get_or z.day.places (k - 1) none)) inside ∙ here s cells literals cards k inside stands

  module _ (o : Bool) (b : Booked z.day k (booked s.accounts.books k) o) where
    abbrev own : Read
    own = state_in (read_at (part_at s.rooms.cells k cells) (part_at s.rooms.literals k literals))

    own_here : get_or z.day.places (k - 1) none ≡ some own
    own_here = here s cells literals cards k b.inside b.stands

    pub booked_here : book_at z.day k ≡ some own
    booked_here = ap (λ (t : Bool). cond t none (get_or z.day.places (k - 1) none)) b.inside ∙ own_here

    placed_as : (n : ℕ) (q : Request) → answer_at own z n k q ≡ answer_placed (book_at z.day k) z n k q
    placed_as n q = sym (ap (λ (x : Option Read). answer_placed x z n k q) booked_here)

    -- ---- and what it answers
    module _ (n m : ℕ) (q : Request) (s' : Kept) (cells' : List ℕ) (literals' : List ℤ) (cards' : List Bytes) (r : ℕ) (d : Bytes)
        (w : BookServed k n m (some q) s cells literals cards s' cells' literals' cards' r d) where
      abbrev left : Served
      left = served_in s' cells' literals' cards'

      told_by : (take r d ≡ (answer_at own z n k q).text) × (changed_at z k w.visits w.own w.lits w.card ≡ (answer_at own z n k q).left) → PlaceServed n z k (some q) left r d
      told_by (t, l) =
          subst (λ (a : Answered Served). Told a left r d) (placed_as n q) (record { within = w.within; text = t; left = w.left ∙ l })

  -- where it reads alone, whatever the accounts are
  module _ (o : Bool) (b : Booked z.day k (booked s.accounts.books k) o) (n m : ℕ) (s' : Kept) (cells' : List ℕ) (literals' : List ℤ) (cards' : List Bytes) (r : ℕ) (d : Bytes) where
    abbrev Serves : Request → Type 0
    Serves q = BookServed k n m (some q) s cells literals cards s' cells' literals' cards' r d → PlaceServed n z k (some q) (served_in s' cells' literals' cards') r d

    reads_write : (size : Option ℕ) → Serves (write size)
    reads_write size w =
        told_by o b n m (write size) s' cells' literals' cards' r d w
        (owed_write z k n m (part_at s.rooms.cells k cells) (part_at s.rooms.literals k literals) (take r d) w.own w.lits w.card w.visits (own_here o b) size w.served)

    reads_page : (p : ℕ) → Serves (page p)
    reads_page p w =
        told_by o b n m (page p) s' cells' literals' cards' r d w
        (owed_page z k n m (part_at s.rooms.cells k cells) (part_at s.rooms.literals k literals) (take r d) w.own w.lits w.card w.visits (own_here o b) p w.served)

    pub reads_here : (q : Request) → kind_request q ≡ kind.Reads → Serves q
    reads_here (call c) e w = absurd (no_reads c e)
    reads_here (write size) e w = reads_write size w
    reads_here (page p) e w = reads_page p w

  -- where the accounts stand
  module _ (b : Booked z.day k (booked s.accounts.books k) false) (n m : ℕ) (share : m ≡ share_at z.day k) (s' : Kept) (cells' : List ℕ) (literals' : List ℤ) (cards' : List Bytes) (r : ℕ) (d : Bytes) where
    pub served_here : (q : Request) → BookServed k n m (some q) s cells literals cards s' cells' literals' cards' r d → PlaceServed n z k (some q) (served_in s' cells' literals' cards') r d
    served_here (call c) w =
        told_by false b n m (call c) s' cells' literals' cards' r d w
        (owed_call z k n m (part_at s.rooms.cells k cells) (part_at s.rooms.literals k literals) (take r d) w.own w.lits w.card w.visits c b.inside b.over share (booked_here false b) w.served)
    served_here (write size) w = reads_write false b n m s' cells' literals' cards' r d size w
    served_here (page p) w = reads_page false b n m s' cells' literals' cards' r d p w

  -- ---- by what the line asks for
  module _ (q : Option Request) (κ : Kind) (asked : AskedIs q κ) (n : ℕ) where
    placed_for : {z' : Served} {r : ℕ} {d : Bytes} → PlaceServed n z k (some asked.0) z' r d → PlaceServed n z k q z' r d
    placed_for {z'} {r} {d} t = subst (λ (o : Option Request). PlaceServed n z k o z' r d) (sym asked.1) t

    book_for : {m : ℕ} {s' : Kept} {cells' : List ℕ} {literals' : List ℤ} {cards' : List Bytes} {r : ℕ} {d : Bytes} → BookServed k n m q s cells literals cards s' cells' literals' cards' r d
        → BookServed k n m (some asked.0) s cells literals cards s' cells' literals' cards' r d
    book_for {m} {s'} {cells'} {literals'} {cards'} {r} {d} w = subst (λ (o : Option Request). BookServed k n m o s cells literals cards s' cells' literals' cards' r d) asked.1 w

    pub asked_shared : (m : ℕ) → share ≡ Ok m → {s' : Kept} {cells' : List ℕ} {literals' : List ℤ} {cards' : List Bytes} {r : ℕ} {d : Bytes}
        → BookServed k n m q s cells literals cards s' cells' literals' cards' r d → PlaceServed n z k q (served_in s' cells' literals' cards') r d
    asked_shared m e {s'} {cells'} {literals'} {cards'} {r} {d} w =
        placed_for (served_here (allowed m e).1 n m (allowed m e).0 s' cells' literals' cards' r d asked.0 (book_for w))

    pub asked_nowhere : (g : Refusal) → share ≡ Err g → (number_of g ≡ 22 → ⊥) → (j : ℕ) → j ≡ number_of g → {d₀ d : Bytes} {r : ℕ} → Wrote d₀ 0 (refusal_text j n) d r → PlaceServed n z k q z r d
    asked_nowhere g e f j h {d₀} {d} {r} w =
        placed_for
        (subst (λ (x : Option Read). Told (answer_placed x z n k asked.0) z r d) (sym (no_book_here g e f).1)
        (record { within = within w; text = w.is ∙ ap (λ (i : ℕ). refusal_text i n) (h ∙ (no_book_here g e f).0); left = refl }))

    -- where the accounts do not stand
    module _ (over : Overspent s k) where
      b : Booked z.day k (booked s.accounts.books k) true
      b = record { inside = over.0; stands = over.1; over = over.2; state = own_at over.0 over.1; here = booked_at over.0 over.1 }

      pub asked_reads : κ ≡ kind.Reads → {s' : Kept} {cells' : List ℕ} {literals' : List ℤ} {cards' : List Bytes} {r : ℕ} {d : Bytes}
          → BookServed k n 0 q s cells literals cards s' cells' literals' cards' r d → PlaceServed n z k q (served_in s' cells' literals' cards') r d
      asked_reads e {s'} {cells'} {literals'} {cards'} {r} {d} w = placed_for (reads_here true b n 0 s' cells' literals' cards' r d asked.0 (sym asked.2 ∙ e) (book_for w))

      refused_22 : (c : Call) (z' : Served) → z' ≡ (answer_at b.state z n k (call c)).left → {d₀ d : Bytes} {r : ℕ} → Wrote d₀ 0 (refusal_text 22 n) d r → PlaceServed n z k (some (call c)) z' r d
      refused_22 c z' l {d₀} {d} {r} w =
          subst (λ (x : Option Read). Told (answer_placed x z n k (call c)) z' r d) (sym b.here)
          (record { within = within w; text = w.is ∙ over_text z k n b.state b.here b.over c; left = l })

      dropped : served_in (without_card s k) cells literals cards ≡ record { day = z.day; shown = set z.shown (k - 1) none }
      dropped =
          ap (λ (l : List (Option Card)). record { day = z.day; shown = l })
          (ap (shown_in (set s.shown (k - 1) no_card)) (sym (set-get_or cards (k - 1) [])) ∙ shown_set s.shown cards (k - 1) no_card (get_or cards (k - 1) []))

      lists : (r : Request) → kind_request r ≡ kind.Lists → {d₀ d : Bytes} {m : ℕ} → Wrote d₀ 0 (refusal_text 22 n) d m → PlaceServed n z k (some r) (served_in (without_card s k) cells literals cards) m d
      lists (call c) e w = refused_22 c (served_in (without_card s k) cells literals cards) (dropped ∙ over_lists z k n b.state b.here b.over c e) w
      lists (write size) e w = absurd (reads_lists e)
      lists (page p) e w = absurd (reads_lists e)

      calls : (r : Request) → kind_request r ≡ kind.Calls → {d₀ d : Bytes} {m : ℕ} → Wrote d₀ 0 (refusal_text 22 n) d m → PlaceServed n z k (some r) z m d
      calls (call c) e w = refused_22 c z (over_calls z k n b.state b.here b.over c e) w
      calls (write size) e w = absurd (reads_calls e)
      calls (page p) e w = absurd (reads_calls e)

      pub asked_lists : κ ≡ kind.Lists → (s' : Kept) → s' ≡ without_card s k → (j : ℕ) → j ≡ 22 → {d₀ d : Bytes} {r : ℕ} → Wrote d₀ 0 (refusal_text j n) d r → PlaceServed n z k q (served_in s' cells literals cards) r d
      asked_lists e s' f j g {d₀} {d} {r} w =
          subst (λ (x : Kept). PlaceServed n z k q (served_in x cells literals cards) r d) (sym f)
          (placed_for (lists asked.0 (sym asked.2 ∙ e) (subst (λ (i : ℕ). Wrote d₀ 0 (refusal_text i n) d r) g w)))

      pub asked_calls : κ ≡ kind.Calls → (j : ℕ) → j ≡ 22 → {d₀ d : Bytes} {r : ℕ} → Wrote d₀ 0 (refusal_text j n) d r → PlaceServed n z k q z r d
      asked_calls e j g {d₀} {d} {r} w = placed_for (calls asked.0 (sym asked.2 ∙ e) (subst (λ (i : ℕ). Wrote d₀ 0 (refusal_text i n) d r) g w))

-- A history that a trace of edition 1 is read into has grown by the steps that tell it.
use Prim.Native.Nat.{ℕ, ◌+◌, ◌*◌, ◌<◌}
use mathlib.Core.Path.{◌≡◌, refl, ap, ◌∙◌}
use mathlib.Core.Bool.{false}
use mathlib.Core.List.{List, [], ◌∷◌}
use mathlib.Core.Logic.{⊎_elim}
use native.Mathlib.Omega.{arith}
use lib.ListN.{length, length-append}
use Rattle.base.specs.Base.{joined}
use Rattle.base.proofs.Tests.{clash, split}
use Rattle.base.proofs.Searches.{joined_append, joined_one, joined-none}
use Rattle.rules.specs.History.{History, tx_count, op_count, current, write_of}
use Rattle.rules.specs.Records.{is_second, event_at}
use Rattle.rules.specs.Reading.{State, entered}
use Rattle.rules.specs.declared.Event.{Event}
use Rattle.rules.specs.declared.Event.TheVariants.{Open, Read, Write, Close}
use Rattle.demand1.specs.Rows.{kind, session, key, value, status, Passes, editionFirst, inPlace, in_first, valueLawful, withinLimit, newWrite, open_inside, read_outside, write_outside, close_outside, end_inside, written_0, status_above_2, open_128th, read_1025th, write_1025th, write_again, the_latest, of_its_session, Next, after_open, after_read, after_write, after_append, after_list, after_close, after_note, after_edition, Reaches, start, on, ReadInto, to_the_end, HasHistory}
use Rattle.demand1.proofs.Histories.{inside-current, outside_current}
use Rattle.demand1.proofs.Events.{Framed, passes_framed, open_event, read-event, write_event, close_event, at_least, below}
use Rattle.demand1.proofs.Steps.{inside}
use Rattle.demand1.proofs.Sessions.{begins-second}
use Rattle.demand1.proofs.Checks.{write_found}
use Rattle.writing.specs.Steps.{step_bytes}
use Rattle.writing.specs.Listing.{history_steps}
use Rattle.writing.proofs.Steps.{step-length}
use Rattle.writing.proofs.Rows.{Taken, open_taken, read_taken, write_taken, close_taken, taken_step}
use Rattle.writing.proofs.Grown.{Grown, grown_none, grown_step, counts, open_none}
use Rattle.writing.proofs.Told.{told}

-- told by itself
abbrev pub GrownSo : History → Type 0
GrownSo h = Grown (history_steps h) h

so : {es : List Event} {h : History} → Grown es h → GrownSo h
so g = rw (told g) g

-- a number that is not above 0
none : (n : ℕ) → (0 < n → ⊥) → n ≡ 0
none n d = omega arith

-- ── the records that pass ──

module _ (s : List ℕ) (first : is_second s ≡ false) (st : State) (p : Passes s st) where
  abbrev h : History
  h = st.history

  f : Framed s st.at
  f = passes_framed st p

  -- none says the edition: one that begins the trace would be edition 2's, and no other passes
  no_edition : kind s st.at ≡ 16 → ⊥
  no_edition k =
      ⊎_elim (λ l. p editionFirst (k, l))
      (λ g.
      let z : st.at ≡ 0 = omega arith in
      clash (begins-second s (omega (arith, f.sized.low, f.sized.there)) (rw z at k)) first)
      (split 0 st.at)

  -- each is a step that is taken, or a note
  pub data Stepped (x : State) : Type 0 where
    by_step : (e : Event) → Taken h e → event_at s st.at ≡ e → x.history ≡ entered h (current h) e → x.notes ≡ st.notes → Stepped x
    by_note : kind s st.at ≡ 6 → x.history ≡ h → x.notes ≡ st.notes + 1 → Stepped x

  pub stepped : {x : State} → Next s st x → Stepped x
  unfolding entered
  stepped (after_open k) =
      by_step (Open (session s st.at)) (open_taken (outside_current h (λ i. p inPlace (in_first first (open_inside k i)))) (below (tx_count h) 127 (λ l. p withinLimit (open_128th k l)))) (open_event f k) refl refl
  stepped (after_read k (the_latest _)) =
      let i = inside s st p first (read_outside k) in
      let c = inside-current h i in
      by_step (Read (key s st.at) (value s st.at)) (read_taken (omega (arith, c, i.0)) (below (op_count h) 1024 (λ l. p withinLimit (read_1025th k l)))) (read-event f k) (rw c) refl
  stepped (after_read k (of_its_session e _)) = absurd (clash e first)
  stepped (after_write k (the_latest _)) =
      let i = inside s st p first (write_outside k) in
      let c = inside-current h i in
      let x = key s st.at in
      let v = value s st.at in
      by_step (Write x v)
      (write_taken (omega (arith, c, i.0)) (below 0 v (λ l. p valueLawful (written_0 k (omega arith)))) (below (op_count h) 1024 (λ l. p withinLimit (write_1025th k l)))
      (none (write_of h x v) (λ l. p newWrite (write_again k (write_found h x v l)))))
      (write_event f k) (rw c) refl
  stepped (after_write k (of_its_session e _)) = absurd (clash e first)
  stepped (after_append k _) = absurd (clash (f.sized.append_second k) first)
  stepped (after_list k _) = absurd (clash (f.sized.list_second k) first)
  stepped (after_close k (the_latest _)) =
      let i = inside s st p first (close_outside k) in
      let c = inside-current h i in
      by_step (Close (status s st.at)) (close_taken (omega (arith, c, i.0)) (at_least (status s st.at) 2 (λ l. p valueLawful (status_above_2 k l)))) (close_event f k) (rw c) refl
  stepped (after_close k (of_its_session e _)) = absurd (clash e first)
  stepped (after_note k) = by_note k refl refl
  stepped (after_edition k) = absurd (no_edition k)

-- the history of a state that reading comes to
pub reached : {s : List ℕ} → is_second s ≡ false → {st : State} → Reaches s st → GrownSo st.history
reached first start = so grown_none
reached {s} first (on {st} {next} r p n) = by (reached first r) (stepped s first st p n)
  where
    by : GrownSo st.history → Stepped s first st p next → GrownSo next.history
    by g (by_step e t _ i _) = rw i (so (grown_step e g t))
    by g (by_note _ i _) = rw i g

-- .. and of a trace that is read, which ends outside a transaction
pub read_grown : {s : List ℕ} → is_second s ≡ false → {h : History} → HasHistory s h → GrownSo h × (current h ≡ 0)
read_grown {s} first x = of x.reads
  where
    of : {h : History} {notes : ℕ} → ReadInto s h notes → GrownSo h × (current h ≡ 0)
    of (to_the_end {st} l r p k e) = (reached first r, outside_current st.history (λ i. p inPlace (in_first first (end_inside k i))))

-- ── how long the steps are ──

pub grown_bytes : {es : List Event} {h : History} → Grown es h → length (joined step_bytes es) ≡ 16 * length es
grown_bytes grown_none = ap length (joined-none step_bytes)
grown_bytes (grown_step {es} e g t) =
    ap length (joined_append step_bytes es (e ∷ [])) ∙ length-append (joined step_bytes es) (joined step_bytes (e ∷ []))
    ∙ rw (joined_one step_bytes e) (omega (arith, step-length e (taken_step t), grown_bytes g, length-append es (e ∷ [])))

-- two for a transaction and one for an operation
pub listing-length : (s : List ℕ) → is_second s ≡ false → {h : History} → HasHistory s h
    → length (joined step_bytes (history_steps h)) ≡ 16 * (2 * tx_count h + op_count h)
listing-length s first {h} x =
    let r = read_grown first x in
    omega (arith, grown_bytes r.0, (counts r.0).steps, open_none h r.1)

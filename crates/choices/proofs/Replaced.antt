-- Which bytes the trace with the chosen outcomes has.
use Prim.Native.Nat.{ℕ, zero, suc, ◌+◌, ◌<◌}
use mathlib.Core.Path.{◌≡◌, refl, ap, ◌∙◌}
use mathlib.Core.Bool.{Bool, true, false, false≢true}
use mathlib.Core.List.{List}
use native.Mathlib.Omega.{arith}
use lib.Dec.{ltb}
use lib.ListN.{length, get_or, set, length-set}
use lib.Seq.{get_or-set_same, get_or-set_other}
use borrow.Author.Tests.{eqb-true, eq-eqb}
use Rattle.base.specs.Base.{◌or◌}
use Rattle.base.proofs.Tests.{ifso, or_left, or_right, or_on, pick_on, pick_off}
use Rattle.rules.specs.Records.{is_second, fields_at, event_at}
use Rattle.rules.specs.Reading.{State, event_in, met, refusal_no, is_end, after}
use Rattle.rules.proofs.Walking.{by_turn}
use Rattle.demand1.specs.Rows.{kind, status, Passes}
use Rattle.demand1.proofs.Events.{Framed, Shape, open_record, read_record, write_record, close_record, end_record, note_record, edition_record, append_record, list_record, passes_framed, shape, close_length, close_event}
use Rattle.demand1.proofs.Steps.{after_within}
use Rattle.choices.specs.Choices.{outcome_of, is_unanswered_close, chosen_at, chosen_from}
use Rattle.choices.proofs.Turns.{none-refuses}

-- ── a close with status 2 ──

module _ {s : List ℕ} {at : ℕ} (w : Framed s at) where
  pub unanswered_close : is_unanswered_close (event_at s at) ≡ true → (kind s at ≡ 4) × (status s at ≡ 2)
  unfolding is_unanswered_close
  unanswered_close t = go (shape w)
    where
      go : Shape s at → (kind s at ≡ 4) × (status s at ≡ 2)
      go (open_record k e) = absurd (false≢true (rw e at t))
      go (read_record k e) = absurd (false≢true (rw e at t))
      go (write_record k e) = absurd (false≢true (rw e at t))
      go (close_record k e) = (k, eqb-true (status s at) 2 (rw e at t))
      go (end_record k e) = absurd (false≢true (rw e at t))
      go (note_record k e) = absurd (false≢true (rw e at t))
      go (edition_record k e) = absurd (false≢true (rw e at t))
      go (append_record k e) = absurd (false≢true (rw e at t))
      go (list_record k e) = absurd (false≢true (rw e at t))

  pub close_unanswered : kind s at ≡ 4 → status s at ≡ 2 → is_unanswered_close (event_at s at) ≡ true
  unfolding is_unanswered_close
  close_unanswered k c = rw (close_event w k) (eq-eqb (status s at) 2 c)

-- its status lies within it
pub status_within : (s : List ℕ) (st : State) → Passes s st → is_unanswered_close (event_in s st) ≡ true → fields_at s st.at < (after s st).at
unfolding after
status_within s st p u = let w = passes_framed st p in omega (arith, close_length (is_second s) w.fits (unanswered_close w u).0)

-- ── the bytes with one status replaced ──

module _ (f : ℕ → Bool) (s : List ℕ) (st : State) where
  replacing : (b : List ℕ) → is_unanswered_close (event_in s st) ≡ true → chosen_at f s st b ≡ set b (fields_at s st.at) (outcome_of f (met s st))
  unfolding chosen_at
  replacing b t = pick_on (is_unanswered_close (event_in s st)) (set b (fields_at s st.at) (outcome_of f (met s st))) b t

  pub keeping : (b : List ℕ) → is_unanswered_close (event_in s st) ≡ false → chosen_at f s st b ≡ b
  unfolding chosen_at
  keeping b t = pick_off (is_unanswered_close (event_in s st)) (set b (fields_at s st.at) (outcome_of f (met s st))) b t

  at_length : (b : List ℕ) → length (chosen_at f s st b) ≡ length b
  at_length b =
      ifso (is_unanswered_close (event_in s st)) (λ t. ap length (replacing b t) ∙ length-set b (fields_at s st.at) (outcome_of f (met s st)))
      (λ t. ap length (keeping b t))

  pub at-status : (b : List ℕ) → is_unanswered_close (event_in s st) ≡ true → fields_at s st.at < length b
      → get_or (chosen_at f s st b) (fields_at s st.at) 0 ≡ outcome_of f (met s st)
  at-status b t l = rw (replacing b t) (get_or-set_same b (fields_at s st.at) (outcome_of f (met s st)) 0 l)

  pub at_other : (b : List ℕ) (i : ℕ) → (is_unanswered_close (event_in s st) ≡ true → i ≡ fields_at s st.at → ⊥)
      → get_or (chosen_at f s st b) i 0 ≡ get_or b i 0
  at_other b i d =
      ifso (is_unanswered_close (event_in s st))
      (λ t. rw (replacing b t) (get_or-set_other b (fields_at s st.at) i (outcome_of f (met s st)) 0 (d t))) (λ t. rw (keeping b t))

-- ── from a state on ──

module _ (f : ℕ → Bool) (s : List ℕ) where
  module _ (k : ℕ) (st : State) where
    abbrev rest : List ℕ
    rest = chosen_at f s st (chosen_from k f s (after s st))

    -- at a record that is refused, and at the end, nothing is left to replace
    stopped : ltb 0 (refusal_no s st) or is_end (event_in s st) ≡ true → chosen_from (suc k) f s st ≡ s
    unfolding chosen_from
    stopped t = pick_on (ltb 0 (refusal_no s st) or is_end (event_in s st)) s rest t

    pub from_refused : ltb 0 (refusal_no s st) ≡ true → chosen_from (suc k) f s st ≡ s
    from_refused t = stopped (or_left (ltb 0 (refusal_no s st)) (is_end (event_in s st)) t)

    pub from_end : is_end (event_in s st) ≡ true → chosen_from (suc k) f s st ≡ s
    from_end t = stopped (or_right (ltb 0 (refusal_no s st)) (is_end (event_in s st)) t)

    -- at any other, its own status and those behind it
    pub from_on : ltb 0 (refusal_no s st) ≡ false → is_end (event_in s st) ≡ false → chosen_from (suc k) f s st ≡ rest
    unfolding chosen_from
    from_on t e =
        pick_off (ltb 0 (refusal_no s st) or is_end (event_in s st)) s rest
        (or_on (ltb 0 (refusal_no s st)) (is_end (event_in s st)) t ∙ e)

  pub from_length : (k : ℕ) (st : State) → length (chosen_from k f s st) ≡ length s
  unfolding chosen_from
  from_length zero st = refl
  from_length (suc k) st =
      by_turn s st (λ t. ap length (from_refused k st t)) (λ t e. ap length (from_end k st e))
      (λ t e. ap length (from_on k st t e) ∙ at_length f s st (chosen_from k f s (after s st)) ∙ from_length k (after s st))

  -- a byte that stands before the next record's payload changes only as the status of the state's own
  pub from_before : (k : ℕ) (st : State) (i : ℕ) → i < st.at + 16 → (kind s st.at ≡ 4 → i ≡ fields_at s st.at → ⊥)
      → get_or (chosen_from k f s st) i 0 ≡ get_or s i 0
  unfolding chosen_from
  from_before zero st i l d = refl
  from_before (suc k) st i l d =
      by_turn s st (λ t. rw (from_refused k st t)) (λ t e. rw (from_end k st e))
      (λ t e.
      let p = none-refuses s st t in
      let far = (after_within s st p).0 in
      rw (from_on k st t e)
      (at_other f s st (chosen_from k f s (after s st)) i (λ u. d (unanswered_close (passes_framed st p) u).0)
      ∙ from_before k (after s st) i (omega arith) (λ _ q. omega arith)))

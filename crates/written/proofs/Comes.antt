-- Following a sequence comes as far as its steps pass, and ends as the document says.
use Prim.Native.Nat.{ℕ, zero, suc, ◌+◌, ◌*◌, ◌≤◌}
use mathlib.Core.Path.{◌≡◌, refl, ap, sym, ◌∙◌}
use mathlib.Core.List.{List, [], ◌∷◌}
use mathlib.Core.Logic.{⊎_elim}
use native.Mathlib.Omega.{arith}
use lib.ListN.{length}
use Rattle.base.proofs.Tests.{split}
use Rattle.base.proofs.Searches.{listed-step, listed_end}
use Rattle.rules.specs.History.{History, tx_count, current, empty}
use Rattle.rules.specs.Reading.{entered}
use Rattle.rules.specs.declared.Event.{Event}
use Rattle.demand1.specs.Rows.{Check, kindKnown, inPlace, number_of, Inside, FirstFailing, Misplaced, read_outside, write_outside, close_outside}
use Rattle.demand1.proofs.Histories.{inside-current, outside_current, inside_or_not}
use Rattle.demand1.proofs.Events.{ShapeOf, open_record, read_record, write_record, close_record, end_record, note_record, edition_record, append_record, list_record, shape_of, Kinded}
use Rattle.writing.specs.Steps.{step_at, step_count, steps_from, steps_in}
use Rattle.writing.specs.Writing.{write_no, Followed, bad, good, follow}
use Rattle.writing.proofs.Rows.{Taken, taken}
use Rattle.writing.proofs.Followed.{follow_bad, follow_on, follow-inside, follow_end}
use Rattle.written.specs.Steps.{HasStep, NoStep, kind_behind, session_behind, status_behind, key_behind, value_behind, StepFails, StepPasses, StepNext, open_step, read_step, write_step, close_step, Comes, at_start, one_more}
use Rattle.written.proofs.Checks.{step_kinded, step_high, step-none, step_refused}

module _ (s : List ℕ) (k : ℕ) (h : History) where
  abbrev event : Event
  event = step_at s (16 * k)

  -- ── a step that passes ──

  module _ (p : StepPasses s k h) where
    kinded : Kinded (kind_behind s k) (session_behind s k) (key_behind s k) (value_behind s k) (status_behind s k) (tx_count h) 0 0 (step_at s (16 * k))
    kinded = step_kinded s k h (p kindKnown)

    -- one that may not stand outside a transaction belongs to the latest
    latest : ((Inside h → ⊥) → Misplaced (kind_behind s k) h) → current h ≡ tx_count h
    latest m = inside-current h (⊎_elim (λ i. i) (λ o. absurd (p inPlace (m o))) (inside_or_not h))

    -- the history behind it
    next-is : {g : History} → StepNext s k h g → g ≡ entered h (current h) (step_at s (16 * k))
    unfolding entered
    next-is (open_step q) = rw (kinded.as_open q)
    next-is (read_step q) = rw (kinded.as_read q, latest (read_outside q))
    next-is (write_step q) = rw (kinded.as_write q, latest (write_outside q))
    next-is (close_step q) = rw (kinded.as_close q, latest (close_outside q))

    next : StepNext s k h (entered h (current h) (step_at s (16 * k)))
    next = by (shape_of kinded)
      where
        by : ShapeOf (kind_behind s k) (session_behind s k) (key_behind s k) (value_behind s k) (status_behind s k) (tx_count h) 0 (step_at s (16 * k))
            → StepNext s k h (entered h (current h) (step_at s (16 * k)))
        by (open_record q _) = rw (← next-is (open_step q)) (open_step q)
        by (read_record q _) = rw (← next-is (read_step q)) (read_step q)
        by (write_record q _) = rw (← next-is (write_step q)) (write_step q)
        by (close_record q _) = rw (← next-is (close_step q)) (close_step q)
        by (end_record q _) = absurd (omega (arith, step_high s k h (p kindKnown)))
        by (note_record q _) = absurd (omega (arith, step_high s k h (p kindKnown)))
        by (edition_record q _) = absurd (omega (arith, step_high s k h (p kindKnown)))
        by (append_record q _) = absurd (omega (arith, step_high s k h (p kindKnown)))
        by (list_record q _) = absurd (omega (arith, step_high s k h (p kindKnown)))

    is_taken : Taken h (step_at s (16 * k))
    is_taken = taken h (step_at s (16 * k)) ((step-none s k h).1 p)

  -- the steps from here on
  pub steps_here : HasStep s k → steps_from s k ≡ step_at s (16 * k) ∷ steps_from s (k + 1)
  unfolding steps_from
  steps_here l = listed-step (λ i. step_at s (16 * i) ∷ []) k (step_count s) (omega arith)

  pub steps-over : NoStep s k → steps_from s k ≡ []
  unfolding steps_from
  steps-over l = listed_end (λ i. step_at s (16 * i) ∷ []) k (step_count s) (omega arith)

-- ── all of them ──

module _ (s : List ℕ) where
  -- following goes on from where the steps have come
  pub comes-follow : {k : ℕ} {h : History} → Comes s k h → follow empty 1 (steps_in s) ≡ follow h (k + 1) (steps_from s k)
  comes-follow at_start = refl
  comes-follow (one_more {k} {h} {g} c l p n) =
      comes-follow c ∙ ap (follow h (k + 1)) (steps_here s k h l) ∙ follow_on h (k + 1) (step_at s (16 * k)) (steps_from s (k + 1)) (is_taken s k h p)
      ∙ ap (λ (x : History). follow x (k + 1 + 1) (steps_from s (k + 1))) (sym (next-is s k h p n))

  -- how a sequence ends
  pub data Ends : Followed → Type 0 where
    at_step : {k : ℕ} {h : History} {c : Check} → Comes s k h → HasStep s k → FirstFailing (StepFails s k h) c → Ends (bad (number_of c) (k + 1))
    inside : {k : ℕ} {h : History} → Comes s k h → NoStep s k → Inside h → Ends (bad 7 (k + 1))
    outside : {k : ℕ} {h : History} → Comes s k h → NoStep s k → (Inside h → ⊥) → Ends (good h)

  -- the steps are used up
  ends-over : (k : ℕ) (h : History) → NoStep s k → Comes s k h → Ends (follow h (k + 1) (steps_from s k))
  ends-over k h l c =
      rw (steps-over s k h l)
      (⊎_elim (λ i. rw (follow-inside h (k + 1) (omega (arith, inside-current h i, i.0))) (inside c l i))
      (λ o. rw (follow_end h (k + 1) (outside_current h o)) (outside c l o)) (inside_or_not h))

  -- a step is left: it is refused, or it is taken and the rest decides
  ends-step : (k : ℕ) (h : History) → HasStep s k → Comes s k h → (StepPasses s k h → Ends (follow (entered h (current h) (step_at s (16 * k))) (k + 1 + 1) (steps_from s (k + 1))))
      → Ends (follow h (k + 1) (steps_from s k))
  ends-step k h l c go =
      rw (steps_here s k h l)
      (⊎_elim
      (λ n.
      let r = (step_refused s k h (write_no h (step_at s (16 * k))) n).0 refl in
      rw (follow_bad h (k + 1) (step_at s (16 * k)) (steps_from s (k + 1)) n, ← r.1) (at_step c l r.2))
      (λ z.
      let p = (step-none s k h).0 (omega arith) in
      rw (follow_on h (k + 1) (step_at s (16 * k)) (steps_from s (k + 1)) (is_taken s k h p)) (go p))
      (split 0 (write_no h (step_at s (16 * k)))))

  -- from where it has come, with f for the steps that are left
  ends_from : (f k : ℕ) (h : History) → length s ≤ 16 * (k + f) → Comes s k h → Ends (follow h (k + 1) (steps_from s k))
  ends_from zero k h l c = ends-over k h (omega arith) c
  ends_from (suc f) k h l c =
      ⊎_elim (λ m. ends-step k h m c (λ p. ends_from f (k + 1) (entered h (current h) (step_at s (16 * k))) (omega arith) (one_more c m p (next s k h p))))
      (λ g. ends-over k h g c) (split (16 * k) (length s))

  pub ends : Ends (follow empty 1 (steps_in s))
  ends = ends_from (length s) 0 empty (omega arith) at_start

-- What writing comes to, by the definition's cases; each of the document's refusals is the definition's. And the numbers that the two tables have.
use Prim.Native.Nat.{ℕ, ◌+◌, ◌*◌, ◌<◌, ◌≤◌}
use mathlib.Core.Path.{◌≡◌, refl, ap, ◌∙◌}
use mathlib.Core.List.{List, ◌∷◌}
use mathlib.Core.Logic.{◌⊎◌, inl, inr, ⊎_elim}
use native.Mathlib.Omega.{arith}
use lib.ListN.{length}
use Rattle.rules.specs.Numbers.{over}
use Rattle.rules.specs.History.{History, empty}
use Rattle.demand1.specs.Rows.{Check, lengthField, lengthLow, bytesThere, serialFollows, kindKnown, lengthFits, editionFirst, editionIs2, inPlace, valueLawful, withinLimit, newWrite, oneSort, number_of, Refuses}
use Rattle.demand1.proofs.Histories.{inside-current, outside_current}
use Rattle.demand1.proofs.Refusals.{number_positive}
use Rattle.demand1.proofs.Lengths.{refused_numbers, not_15}
use Rattle.writing.specs.Filling.{refusing, answering, content, fill_of, into}
use Rattle.writing.specs.Steps.{step_at, steps_from, steps_in}
use Rattle.writing.specs.Writing.{write_no, bad, good, follow, trace_of, wrote, written}
use Rattle.writing.proofs.Filling.{into_short, into-fits}
use Rattle.writing.proofs.Followed.{follow_bad, follow-inside, follow_end}
use Rattle.writing.proofs.Sizes.{trace-length}
use Rattle.written.specs.Steps.{StepFails}
use Rattle.written.specs.Declined.{trace_length, WriteDeclines, bad_step, ends_inside, trace_short, ListDeclines, trace_refused, second_edition, steps_short}
use Rattle.written.specs.Rewrites.{RewriteDeclines, steps_declined, output_short, WholeDeclines, not_read, is_second_lem, too_short}
use Rattle.written.specs.Given.{GivenDeclines, no_serial, steps_bad}
use Rattle.written.proofs.Checks.{step_refused}
use Rattle.written.proofs.Comes.{steps_here, steps-over, comes-follow}

module _ (s : List ℕ) (n : ℕ) (o : List ℕ) where
  -- ── the definition's cases ──

  pub written_bad : {m p : ℕ} → follow empty 1 (steps_in s) ≡ bad m p → written s n o ≡ fill_of (refusing m p) o
  unfolding written wrote into
  written_bad e = rw e

  pub written_good : {h : History} → follow empty 1 (steps_in s) ≡ good h → written s n o ≡ into (content (trace_of n (steps_in s) h)) o
  unfolding written wrote
  written_good e = rw e

  long : {h : History} → follow empty 1 (steps_in s) ≡ good h → length (trace_of n (steps_in s) h) ≡ trace_length h
  long {h} e = trace-length n (steps_in s) 1 h e

  pub written_short : {h : History} → follow empty 1 (steps_in s) ≡ good h → length o < trace_length h → written s n o ≡ fill_of (refusing 16 (trace_length h)) o
  written_short {h} e l =
      written_good e ∙ into_short (trace_of n (steps_in s) h) o (omega (arith, long e)) ∙ ap (λ (x : ℕ). fill_of (refusing 16 x) o) (long e)

  pub written-fits : {h : History} → follow empty 1 (steps_in s) ≡ good h → trace_length h ≤ length o
      → written s n o ≡ fill_of (answering (length (trace_of n (steps_in s) h))) (over (trace_of n (steps_in s) h) o)
  written-fits {h} e l = written_good e ∙ into-fits (trace_of n (steps_in s) h) o (omega (arith, long e))

  -- ── the document's ──

  -- each refusal is the definition's
  pub declined_is : (m p : ℕ) → WriteDeclines s (length o) m p → written s n o ≡ fill_of (refusing m p) o
  declined_is m p (bad_step {k} {h} {c} x l f) = written_bad (comes-follow s x ∙ ap (follow h (k + 1)) (steps_here s k h l) ∙ refused)
    where
      no : write_no h (step_at s (16 * k)) ≡ number_of c
      no = (step_refused s k h (number_of c) (number_positive c)).1 (c, refl, f)

      refused : follow h (k + 1) (step_at s (16 * k) ∷ steps_from s (k + 1)) ≡ bad (number_of c) (k + 1)
      refused = follow_bad h (k + 1) (step_at s (16 * k)) (steps_from s (k + 1)) (omega (arith, no, number_positive c)) ∙ ap (λ (x : ℕ). bad x (k + 1)) no
  declined_is m p (ends_inside {k} {h} x l i) =
      written_bad (comes-follow s x ∙ ap (follow h (k + 1)) (steps-over s k h l) ∙ follow-inside h (k + 1) (omega (arith, inside-current h i, i.0)))
  declined_is m p (trace_short {k} {h} x l d short) =
      written_short (comes-follow s x ∙ ap (follow h (k + 1)) (steps-over s k h l) ∙ follow_end h (k + 1) (outside_current h d)) short

-- ── the numbers of the tables ──

-- "01's numbers 6 (any other kind) to 10": the checks before are of no step, and 17 neither
step_numbers : (s : List ℕ) (k : ℕ) (h : History) (c : Check) → StepFails s k h c → (6 ≤ number_of c) × (number_of c ≤ 10)
step_numbers s k h lengthField f = absurd f
step_numbers s k h lengthLow f = absurd f
step_numbers s k h bytesThere f = absurd f
step_numbers s k h serialFollows f = absurd f
step_numbers s k h kindKnown f = (omega arith, omega arith)
step_numbers s k h lengthFits f = absurd f
step_numbers s k h editionFirst f = absurd f
step_numbers s k h editionIs2 f = absurd f
step_numbers s k h inPlace f = (omega arith, omega arith)
step_numbers s k h valueLawful f = (omega arith, omega arith)
step_numbers s k h withinLimit f = (omega arith, omega arith)
step_numbers s k h newWrite f = (omega arith, omega arith)
step_numbers s k h oneSort f = absurd f

-- rows 6 to 10, and 16
pub write_numbers : {s : List ℕ} {o n p : ℕ} → WriteDeclines s o n p → ((6 ≤ n) × (n ≤ 10)) ⊎ (n ≡ 16)
write_numbers {s} (bad_step {k} {h} {c} x l f) = inl (step_numbers s k h c f.fails)
write_numbers (ends_inside x l i) = inl (omega arith, omega arith)
write_numbers (trace_short x l d short) = inr refl

-- "15 is no longer given"
pub write_never_15 : {s : List ℕ} {o n p : ℕ} → WriteDeclines s o n p → n ≡ 15 → ⊥
write_never_15 d = not_15 {low = 6} (omega arith) (⊎_elim inl (λ e. inr (omega arith)) (write_numbers d))

-- rows 2 to 11 and 17, and 16
abbrev pub TraceRows : ℕ → Type 0
TraceRows n = ((2 ≤ n) × (n ≤ 11)) ⊎ ((16 ≤ n) × (n ≤ 17))

pub refused_rows : {s : List ℕ} {n p : ℕ} → Refuses s n p → TraceRows n
refused_rows r = ⊎_elim inl (λ e. inr (omega arith, omega arith)) (refused_numbers r)

pub rows_never_15 : {n : ℕ} → TraceRows n → n ≡ 15 → ⊥
rows_never_15 m = not_15 {low = 2} (omega arith) (⊎_elim inl (λ q. inr q.0) m)

pub list_numbers : {s : List ℕ} {o n p : ℕ} → ListDeclines s o n p → TraceRows n
list_numbers (trace_refused r) = refused_rows r
list_numbers (second_edition t r) = inl (omega arith, omega arith)
list_numbers (steps_short first r l) = inr (omega arith, omega arith)

pub list_never_15 : {s : List ℕ} {o n p : ℕ} → ListDeclines s o n p → n ≡ 15 → ⊥
list_never_15 d = rows_never_15 (list_numbers d)

pub again_numbers : {s : List ℕ} {x o n p : ℕ} → RewriteDeclines s x o n p → TraceRows n
again_numbers (steps_declined d) = list_numbers d
again_numbers (output_short first r l short) = inr (omega arith, omega arith)

pub again_never_15 : {s : List ℕ} {x o n p : ℕ} → RewriteDeclines s x o n p → n ≡ 15 → ⊥
again_never_15 d = rows_never_15 (again_numbers d)

pub whole_numbers : {s : List ℕ} {o n p : ℕ} → WholeDeclines s o n p → TraceRows n
whole_numbers (not_read r) = refused_rows r
whole_numbers (is_second_lem t r) = inl (omega arith, omega arith)
whole_numbers (too_short first r l) = inr (omega arith, omega arith)

pub whole_never_15 : {s : List ℕ} {o n p : ℕ} → WholeDeclines s o n p → n ≡ 15 → ⊥
whole_never_15 d = rows_never_15 (whole_numbers d)

-- row 3, rows 6 to 10, and 16
pub given_numbers : {g : List ℕ} {o n p : ℕ} → GivenDeclines g o n p → ((3 ≤ n) × (n ≤ 10)) ⊎ (n ≡ 16)
given_numbers (no_serial l) = inl (omega arith, omega arith)
given_numbers (steps_bad l d) = ⊎_elim (λ m. inl (omega (arith, m.0), m.1)) (λ e. inr e) (write_numbers d)

pub given_never_15 : {g : List ℕ} {o n p : ℕ} → GivenDeclines g o n p → n ≡ 15 → ⊥
given_never_15 d = not_15 {low = 3} (omega arith) (⊎_elim inl (λ e. inr (omega arith)) (given_numbers d))

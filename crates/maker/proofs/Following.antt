-- Following the steps: one step, and the loop over them, of which what is left is the whole.
use Rattle.std.proofs.Common.{◌≡◌, ℕ, ◌+◌, ◌*◌, ◌<◌, ◌≤◌, Bool, true, false, ltb, List, sym, refl, ap, ◌∙◌, arith, ltb-false, le-ltb, lt-ltb}
use Rattle.std.specs.Prelude.{Result, Ok, Err}
use Rattle.base.specs.Base.{pick}
use Rattle.base.proofs.Tests.{ifso, pick_on, pick_off}
use Rattle.base.proofs.Rows.{fit_here, fit_past}
use Rattle.rules.specs.History.{History, tx_count, current, empty}
use Rattle.rules.specs.Records.{written_key}
use Rattle.rules.specs.Reading.{step_rows, entered}
use Rattle.rules.specs.Refusals.{cause_no, no_of, numbered, placed_at}
use Rattle.rules.specs.declared.Cause.{Cause}
use Rattle.rules.specs.declared.Cause.TheVariants.{Kind}
use Rattle.rules.specs.declared.Event.{Event}
use Rattle.rules.specs.declared.Event.TheVariants as E
use Rattle.rules.specs.declared.Refusal.{Refusal}
use Rattle.rules.proofs.Refusals.{cause-some, placed_ok, placed_err}
use Rattle.table.specs.Table.{history_of, Held, HoldsHistory}
use Rattle.steps.specs.declared.Next.{Next}
use Rattle.steps.specs.Steps.{goes, step_no, Takable, Took}
use Rattle.writing.specs.Steps.{step_count, step_at, steps_from, steps_in}
use Rattle.writing.specs.Writing.{is_no_step, write_rows, write_no, end_no, bad, good, follow}
use Rattle.writing.proofs.Rows.{taken}
use Rattle.writing.proofs.Followed.{follow_bad, follow_on}
use Rattle.maker.specs.Maker.{Entered, Ended, followed_as, FollowedInto}
use Rattle.writing.proofs.Steps.{steps-step, steps_end}

-- ── one step ──

-- the number that an answer has
number_in : {T : Type 0} → Result T ℕ → ℕ
number_in (Ok x) = 0
number_in (Err n) = n

number_is : {T : Type 0} (r : Result T Cause) → no_of r ≡ number_in (numbered r)
unfolding number_in
number_is (Ok x) = refl
number_is (Err c) = refl

module _ {r : Result Next Cause} {g2 g : List ℕ} {t : ℕ} {e : Event} (x : Took r g2 g t e) where
  took_number : no_of r ≡ step_no (history_of g) t e
  unfolding number_in
  took_number =
      number_is r ∙ ap number_in x.is
      ∙ ifso (ltb 0 (step_no (history_of g) t e)) (λ b. ap number_in (pick_on _ (Err (step_no (history_of g) t e)) (Ok (goes e)) b))
      (λ b. ap number_in (pick_off _ (Err (step_no (history_of g) t e)) (Ok (goes e)) b) ∙ zero (ltb-false 0 _ b))
    where
      zero : {n : ℕ} → n ≤ 0 → 0 ≡ n
      zero l = omega arith

  took_history : step_no (history_of g) t e ≡ 0 → history_of g2 ≡ entered (history_of g) t e
  took_history z = x.history ∙ pick_off _ (history_of g) (entered (history_of g) t e) (le-ltb 0 (step_no (history_of g) t e) (omega (arith, z)))

-- a step with a key of single values may be taken
pub single_takable : {h : History} (e : Event) → written_key e < 4294967296 → Takable h e
unfolding written_key
single_takable e l = record { narrow = omega arith; new_place = λ x v q m. absurd (omega (arith, rw q at l)) }

-- row 6 refuses, or leaves rows 7 to 10
pub entered-none : {g : List ℕ} {e : Event} → is_no_step e ≡ true → Held g → Entered (Err Kind) g g e
unfolding write_no write_rows
entered-none n h = record { is = fit_here _ 6 _ n; history = λ z. absurd (omega (arith, z)); held = h }

module _ {r : Result Next Cause} {m : Result Unit Cause} {g2 g : List ℕ} (q : no_of m ≡ no_of r) where
  pub entered-step : {e : Event} → is_no_step e ≡ false → Took r g2 g (current (history_of g)) e → Entered m g2 g e
  unfolding write_no write_rows step_no
  entered-step {e} n x =
      let s = q ∙ took_number x in
      record { is = fit_past (is_no_step e) 6 (step_rows (history_of g) (current (history_of g)) e) n s; history = λ z. took_history x (sym s ∙ z); held = x.held }

  -- the end record enters nothing
  pub ended_step : {n : ℕ} → n ≡ tx_count (history_of g) → Took r g2 g (current (history_of g)) (E.End n) → Ended m g2 g
  unfolding end_no step_no entered
  ended_step {n} e x =
      record {
        is = q ∙ took_number x ∙ rw e;
        history = x.history ∙ same _ (history_of g);
        held = x.held;
      }
    where
      same : (b : Bool) (h : History) → pick b h h ≡ h
      same b h = ifso b (λ t. pick_on b h h t) (λ t. pick_off b h h t)

-- ── a loop that has come to step k, with the table g ──

pub record Following (s g : List ℕ) (k : ℕ) : Type 0 where
  pub held : Held g
  pub within : k ≤ step_count s
  pub whole : follow empty 1 (steps_in s) ≡ follow (history_of g) (k + 1) (steps_from s k)

pub following_first : (s g : List ℕ) → HoldsHistory g empty → Following s g 0
following_first s g h = record { held = h.held; within = omega arith; whole = rw h.is }

module _ {s g : List ℕ} {k : ℕ} (x : Following s g k) where
  module _ (l : k < step_count s) {r : Result Unit Cause} {g2 : List ℕ} (y : Entered r g2 g (step_at s (16 * k))) where
    pub following_bad : {d : Refusal} → placed_at (k + 1) r ≡ Err d → FollowedInto (Err d) g2 s
    unfolding followed_as
    following_bad {d} p =
        let e = placed_err (k + 1) r p in
        let c = e.0 in
        let z = ap no_of (sym e.1) ∙ y.is in
        rw e.2
        record {
          is =
              x.whole ∙ ap (follow (history_of g) (k + 1)) (steps-step s k l)
              ∙ follow_bad (history_of g) (k + 1) (step_at s (16 * k)) (steps_from s (k + 1)) (omega (arith, z, cause-some c))
              ∙ ap (λ (n : ℕ). bad n (k + 1)) (sym z);
          held = y.held;
        }

    pub following_more : {u : Unit} → placed_at (k + 1) r ≡ Ok u → Following s g2 (k + 1)
    following_more p =
        let e = placed_ok (k + 1) r p in
        let z = ap no_of (sym e) ∙ y.is in
        record {
          held = y.held;
          within = omega arith;
          whole =
              x.whole ∙ ap (follow (history_of g) (k + 1)) (steps-step s k l)
              ∙ follow_on (history_of g) (k + 1) (step_at s (16 * k)) (steps_from s (k + 1)) (taken (history_of g) _ (sym z))
              ∙ ap (λ (h : History). follow h (k + 1 + 1) (steps_from s (k + 1))) (sym (y.history (ap no_of e)));
        }

  -- the end record, behind n steps
  module _ {n : ℕ} (q : n ≡ step_count s) (l : n ≤ k) where
    at_end : follow empty 1 (steps_in s) ≡ pick (ltb 0 (end_no (history_of g))) (bad (end_no (history_of g)) (k + 1)) (good (history_of g))
    unfolding follow
    at_end = x.whole ∙ ap (follow (history_of g) (k + 1)) (steps_end s k (rw q at l))

    pub following_end : {g2 : List ℕ} (r : Result Unit Cause) → Ended r g2 g → FollowedInto (placed_at (n + 1) r) g2 s
    unfolding followed_as
    following_end (Err c) y =
        let e : k + 1 ≡ n + 1 = omega (arith, x.within, q) in
        record {
          is =
              at_end ∙ pick_on _ (bad (end_no (history_of g)) (k + 1)) (good (history_of g)) (lt-ltb 0 (end_no (history_of g)) (omega (arith, y.is, cause-some c)))
              ∙ ap (λ (n : ℕ). bad n (k + 1)) (sym y.is) ∙ ap (bad (cause_no c)) e;
          held = y.held;
        }
    following_end (Ok u) y =
        record {
          is =
              at_end ∙ pick_off _ (bad (end_no (history_of g)) (k + 1)) (good (history_of g)) (le-ltb 0 (end_no (history_of g)) (omega (arith, y.is)))
              ∙ ap good (sym y.history);
          held = y.held;
        }

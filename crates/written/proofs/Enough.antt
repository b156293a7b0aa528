-- 1,279 steps are enough: no sequence of that many is written, so what stands behind them is not looked at.
use Prim.Native.Nat.{ℕ, ◌+◌, ◌*◌, ◌<◌, ◌≤◌}
use mathlib.Core.Path.{◌≡◌, refl, ap, sym, ◌∙◌}
use mathlib.Core.List.{List, [], ◌∷◌, ◌++◌}
use mathlib.Core.Logic.{⊎_elim}
use native.Mathlib.Omega.{arith}
use lib.ListN.{length, take, length-append}
use lib.Seq.{length-take-le}
use borrow.Author.Tests.{le-ltb}
use Rattle.base.specs.Base.{listed}
use Rattle.base.proofs.Tests.{split}
use Rattle.base.proofs.Searches.{listed_same, listed_split, singles_length}
use Rattle.rules.specs.History.{History, current, empty}
use Rattle.rules.specs.Reading.{entered}
use Rattle.rules.specs.declared.Event.{Event}
use Rattle.rules.proofs.Numbers.{le-take}
use Rattle.writing.specs.Steps.{step_of, step_at, step_count, steps_from, steps_in}
use Rattle.writing.specs.Filling.{Work, into}
use Rattle.writing.specs.Writing.{write_no, Followed, bad, good, follow, wrote, written}
use Rattle.writing.proofs.Rows.{taken}
use Rattle.writing.proofs.Grown.{Grown, grown_none, grown_step, counts}
use Rattle.writing.proofs.Followed.{follow_bad, follow_on, followed}

-- at most 127 opens, as many closes and 1,024 operations are taken
pub few_steps : {es : List Event} {h : History} → Grown es h → length es ≤ 1278
few_steps g = let c = counts g in omega (arith, c.steps, c.few_txs, c.few_ops)

-- so a sequence that is longer is refused before its end, whatever comes then
refused_early : {es : List Event} (h : History) (k : ℕ) (rest more : List Event) → Grown es h → 1279 ≤ length es + length rest → follow h k (rest ++ more) ≡ follow h k rest
refused_early h k [] more g l = absurd (omega (arith, few_steps g))
refused_early {es} h k (e ∷ rest) more g l =
    ⊎_elim (λ n. follow_bad h k e (rest ++ more) n ∙ sym (follow_bad h k e rest n))
    (λ z.
    let t = taken h e (omega arith) in
    follow_on h k e (rest ++ more) t
    ∙ refused_early (entered h (current h) e) (k + 1) rest more (grown_step e g t) (omega (arith, length-append es (e ∷ []))) ∙ sym (follow_on h k e rest t))
    (split 0 (write_no h e))

module _ (s : List ℕ) (n : ℕ) (long : 16 * n ≤ length s) where
  abbrev front : List ℕ
  front = take (16 * n) s

  front_length : length front ≡ 16 * n
  front_length = length-take-le (16 * n) s long

  -- a step of the front
  step_kept : (k : ℕ) → k < n → step_at front (16 * k) ≡ step_at s (16 * k)
  unfolding step_at step_of
  step_kept k l =
      rw (le-ltb (length front) (16 * k + 16) (omega (arith, front_length)), le-ltb (length s) (16 * k + 16) (omega arith), le-take 2 (16 * k) (16 * n) s (omega arith), le-take 2 (16 * k + 2) (16 * n) s (omega arith), le-take 4 (16 * k + 4) (16 * n) s (omega arith), le-take 8 (16 * k + 8) (16 * n) s (omega arith))

  -- the front's steps are the first of all
  steps-kept : steps_in s ≡ steps_in front ++ listed n (step_count s) (λ i. step_at s (16 * i) ∷ [])
  unfolding steps_from
  steps-kept =
      let c : step_count front ≡ n = omega (arith, front_length) in
      listed_split (λ i. step_at s (16 * i) ∷ []) n (step_count s) 0 (omega arith) (omega arith)
      ∙ ap (λ (x : List Event). x ++ listed n (step_count s) (λ i. step_at s (16 * i) ∷ []))
      (sym (ap (λ (m : ℕ). listed 0 m (λ i. step_at front (16 * i) ∷ [])) c
      ∙ listed_same (λ i. step_at front (16 * i) ∷ []) (λ i. step_at s (16 * i) ∷ []) n 0 (λ i a l. rw (step_kept i l))))

  front-count : length (steps_in front) ≡ n
  unfolding steps_from
  front-count = singles_length (λ i. step_at front (16 * i)) 0 (step_count front) ∙ omega (arith, front_length)

  -- what stands behind them is not looked at
  pub enough_made : 1279 ≤ n → (serial : ℕ) → wrote serial (steps_in s) (follow empty 1 (steps_in s)) ≡ wrote serial (steps_in front) (follow empty 1 (steps_in front))
  unfolding wrote
  enough_made l serial = ap (wrote serial (steps_in s)) same ∙ by (follow empty 1 (steps_in front)) refl
    where
      same : follow empty 1 (steps_in s) ≡ follow empty 1 (steps_in front)
      same =
          ap (follow empty 1) steps-kept
          ∙ refused_early empty 1 (steps_in front) (listed n (step_count s) (λ i. step_at s (16 * i) ∷ [])) grown_none (omega (arith, front-count))

      by : (f : Followed) → follow empty 1 (steps_in front) ≡ f → wrote serial (steps_in s) f ≡ wrote serial (steps_in front) f
      by (bad m p) e = refl
      by (good g) e = absurd (omega (arith, few_steps (followed empty 1 (steps_in front) grown_none e).0, front-count))

  -- .. whatever the buffer
  pub enough : 1279 ≤ n → (serial : ℕ) (o : List ℕ) → written s serial o ≡ written front serial o
  unfolding written
  enough l serial o = ap (λ (w : Work). into w o) (enough_made l serial)

-- The fields that a step does not use: 0 where steps are made, and so they are known by what they say.
use Prim.Native.Nat.{ℕ, zero, suc, ◌+◌, ◌*◌, ◌≤◌}
use mathlib.Core.Path.{◌≡◌, refl, ap, sym, ◌∙◌}
use mathlib.Core.Bool.{false, true≢false}
use mathlib.Core.List.{List, [], ◌∷◌, ◌++◌, append_assoc}
use native.Mathlib.Omega.{arith}
use native.Mathlib.Numerals.{add-one}
use lib.ListN.{length, take, length-append}
use lib.Seq.{take-length}
use Rattle.base.specs.Base.{listed, joined}
use Rattle.base.proofs.Searches.{listed_more, listed_end, joined_append, joined_one, joined-none}
use Rattle.rules.specs.Numbers.{bytes}
use Rattle.rules.specs.History.{History}
use Rattle.rules.specs.declared.Event.{Event}
use Rattle.rules.proofs.Numbers.{spelt, spelt_on}
use Rattle.writing.specs.Steps.{step_at, step_count, steps_from, steps_in, field_bytes, step_bytes}
use Rattle.writing.specs.Writing.{is_no_step}
use Rattle.written.specs.Steps.{HasStep, kind_behind, session_behind, key_behind, value_behind}
use Rattle.written.specs.Writes.{AllBytes}
use Rattle.written.specs.Lists.{UnusedZero, in_open, in_read, in_write, in_close}
use Rattle.writing.proofs.Grown.{Grown}
use Rattle.demand1.proofs.Events.{same_or}
use Rattle.written.proofs.Records.{Narrow, narrow_open, narrow_read, narrow_write, narrow_close, narrow_end}
use Rattle.written.proofs.Slim.{EachSlim}
use Rattle.written.proofs.StepBytes.{start, second_at, key-at, value-at, Fitting, fits_none, fits_more, fitting, bytes_16}
use Rattle.written.proofs.StepKinds.{open_kind, read-kind, write_kind, close_kind}

-- ── steps known by what they say ──

module _ (x : List ℕ) (b : AllBytes x) where
  -- the sixteen bytes of the step behind k others, by its fields
  sixteen : (k : ℕ) → 16 * k + 16 ≤ length x
      → take (16 * k + 16) x ≡ take (16 * k) x ++ field_bytes (kind_behind x k) (session_behind x k) (key_behind x k) (value_behind x k)
  unfolding field_bytes bytes
  sixteen k l =
      spelt_on x b (16 * k) 8 8 (bytes 2 (kind_behind x k) ++ bytes 2 (session_behind x k) ++ bytes 4 (key_behind x k)) l
      (spelt_on x b (16 * k) 4 4 (bytes 2 (kind_behind x k) ++ bytes 2 (session_behind x k)) (omega arith)
      (spelt_on x b (16 * k) 2 2 (bytes 2 (kind_behind x k)) (omega arith) (spelt 2 x (16 * k) b (omega arith))))

  -- .. which are its event's
  its_own : (k : ℕ) → 16 * k + 16 ≤ length x → UnusedZero x k
      → field_bytes (kind_behind x k) (session_behind x k) (key_behind x k) (value_behind x k) ≡ step_bytes (step_at x (16 * k))
  unfolding step_bytes
  its_own k l (in_open q a c) = rw (open_kind x (16 * k) l q, q, a, c)
  its_own k l (in_read q a) = rw (read-kind x (16 * k) l q, q, a)
  its_own k l (in_write q a) = rw (write_kind x (16 * k) l q, q, a)
  its_own k l (in_close q a c) = rw (close_kind x (16 * k) l q, q, a, c)

  abbrev first_steps : ℕ → List Event
  first_steps k = listed 0 k (λ i. step_at x (16 * i) ∷ [])

  -- the first k steps
  first-bytes : (unused : (k : ℕ) → HasStep x k → UnusedZero x k) (k : ℕ) → 16 * k ≤ length x → take (16 * k) x ≡ joined step_bytes (first_steps k)
  first-bytes u zero l = sym (ap (joined step_bytes) (listed_end (λ i. step_at x (16 * i) ∷ []) 0 0 (omega arith)) ∙ joined-none step_bytes)
  first-bytes u (suc k) l =
      let n : 16 * suc k ≡ 16 * k + 16 = omega arith in
      rw (n, ← add-one k, listed_more (λ i. step_at x (16 * i) ∷ []) k 0 (omega arith), joined_append step_bytes (first_steps k) (step_at x (16 * k) ∷ []), joined_one step_bytes (step_at x (16 * k)))
      (sixteen k (omega arith) ∙ rw (first-bytes u k (omega arith), its_own k (omega arith) (u k (omega arith))))

  -- all of them
  pub known_steps : (unused : (k : ℕ) → HasStep x k → UnusedZero x k) (n : ℕ) → length x ≡ 16 * n → x ≡ joined step_bytes (steps_in x)
  unfolding steps_from
  known_steps u n l =
      let c : step_count x ≡ n = omega arith in
      sym (take-length x) ∙ ap (λ (m : ℕ). take m x) l ∙ first-bytes u n (omega arith) ∙ ap (λ (m : ℕ). joined step_bytes (first_steps m)) (sym c)

-- ── steps that were put ──

-- one, behind what stands before it
unused_here : (front back : List ℕ) {e : Event} → Narrow e → is_no_step e ≡ false → (k : ℕ) → length front ≡ 16 * k → UnusedZero (front ++ (step_bytes e ++ back)) k
unfolding step_bytes is_no_step
unused_here front back (narrow_open {s} h) n k l =
    in_open (rw (← l) (start front back 1 s 0 0 (omega arith))) (rw (← l) (key-at front back 1 s 0 0 (omega arith))) (rw (← l) (value-at front back 1 s 0 0 (omega arith)))
unused_here front back (narrow_read {x} {v} h g) n k l =
    in_read (rw (← l) (start front back 2 0 x v (omega arith))) (rw (← l) (second_at front back 2 0 x v (omega arith)))
unused_here front back (narrow_write {x} {v} h g) n k l =
    in_write (rw (← l) (start front back 3 0 x v (omega arith))) (rw (← l) (second_at front back 3 0 x v (omega arith)))
unused_here front back (narrow_close {c} h) n k l =
    in_close (rw (← l) (start front back 4 c 0 0 (omega arith))) (rw (← l) (key-at front back 4 c 0 0 (omega arith))) (rw (← l) (value-at front back 4 c 0 0 (omega arith)))
unused_here front back (narrow_end h) n k l = absurd (true≢false n)

-- each of them
unused_from : {es : List Event} → Fitting es → (front : List ℕ) (j : ℕ) → length front ≡ 16 * j → (k : ℕ) → j ≤ k → HasStep (front ++ joined step_bytes es) k
    → UnusedZero (front ++ joined step_bytes es) k
unfolding joined
unused_from fits_none front j l k m a = absurd (omega (arith, length-append front []))
unused_from (fits_more {e} {es} w n f) front j l k m a =
    same_or k j (λ q. unused_here front (joined step_bytes es) w n k (omega arith))
    (λ d.
    let b = bytes_16 w n in
    let x : length (front ++ step_bytes e) ≡ 16 * (j + 1) = omega (arith, length-append front (step_bytes e)) in
    rw (← append_assoc front (step_bytes e) (joined step_bytes es))
    (unused_from f (front ++ step_bytes e) (j + 1) x k (omega arith) (rw (append_assoc front (step_bytes e) (joined step_bytes es)) a)))

pub unused_steps : {es : List Event} {h : History} → Grown es h → EachSlim es → (k : ℕ) → HasStep (joined step_bytes es) k → UnusedZero (joined step_bytes es) k
unused_steps g s k a = unused_from (fitting g s) [] 0 refl k (omega arith) a

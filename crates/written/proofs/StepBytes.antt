-- Steps that were put are read back.
use Prim.Native.Nat.{ℕ, ◌+◌, ◌*◌, ◌<◌, ◌≤◌}
use mathlib.Core.Path.{◌≡◌, refl, ap, ◌∙◌}
use mathlib.Core.Bool.{false, true≢false}
use mathlib.Core.List.{List, [], ◌∷◌, ◌++◌, append_assoc}
use native.Mathlib.Omega.{arith}
use lib.ListN.{length, length-append}
use Rattle.base.specs.Base.{joined}
use Rattle.base.proofs.Searches.{listed-step, listed_end}
use Rattle.rules.specs.Numbers.{le, bytes}
use Rattle.rules.specs.History.{History}
use Rattle.rules.specs.declared.Event.{Event}
use Rattle.rules.specs.declared.Event.TheVariants.{Open, Close}
use Rattle.rules.proofs.Numbers.{le-behind, le_bytes}
use Rattle.writing.specs.Steps.{step_at, step_count, steps_from, steps_in, field_bytes, step_bytes}
use Rattle.writing.specs.Writing.{is_no_step}
use Rattle.writing.proofs.Rows.{taken_step}
use Rattle.writing.proofs.Grown.{Grown, grown_none, grown_step}
use Rattle.written.proofs.StepKinds.{open_kind, read-kind, write_kind, close_kind}
use Rattle.written.proofs.Records.{Narrow, narrow_open, narrow_read, narrow_write, narrow_close, narrow_end}
use Rattle.written.proofs.Slim.{EachSlim, slim_front, slim_at, narrow}

-- ── one step ──

-- its fields
module _ (k c x v : ℕ) (back : List ℕ) where
  abbrev l : List ℕ
  l = field_bytes k c x v ++ back

  kind-field : k < 65536 → le 2 l 0 ≡ k
  unfolding field_bytes bytes
  kind-field h = le_bytes 2 k (bytes 2 c ++ bytes 4 x ++ bytes 8 v ++ back) h

  second-field : c < 65536 → le 2 l 2 ≡ c
  unfolding field_bytes bytes
  second-field h = le-behind 2 (bytes 2 k) (bytes 2 c ++ bytes 4 x ++ bytes 8 v ++ back) 0 ∙ le_bytes 2 c (bytes 4 x ++ bytes 8 v ++ back) h

  key-field : x < 4294967296 → le 4 l 4 ≡ x
  unfolding field_bytes bytes
  key-field h = le-behind 4 (bytes 2 k ++ bytes 2 c) (bytes 4 x ++ bytes 8 v ++ back) 0 ∙ le_bytes 4 x (bytes 8 v ++ back) h

  value-field : v < 18446744073709551616 → le 8 l 8 ≡ v
  unfolding field_bytes bytes
  value-field h = le-behind 8 (bytes 2 k ++ bytes 2 c ++ bytes 4 x) (bytes 8 v ++ back) 0 ∙ le_bytes 8 v back h

-- behind what stands before it
module _ (front : List ℕ) (back : List ℕ) where
  abbrev around : ℕ → ℕ → ℕ → ℕ → List ℕ
  around k c x v = front ++ (field_bytes k c x v ++ back)

  pub start : (k c x v : ℕ) → k < 65536 → le 2 (around k c x v) (length front) ≡ k
  start k c x v h =
      let z : length front ≡ length front + 0 = omega arith in
      ap (le 2 (around k c x v)) z ∙ le-behind 2 front (field_bytes k c x v ++ back) 0 ∙ kind-field k c x v back h

  pub second_at : (k c x v : ℕ) → c < 65536 → le 2 (around k c x v) (length front + 2) ≡ c
  second_at k c x v h = le-behind 2 front (field_bytes k c x v ++ back) 2 ∙ second-field k c x v back h

  pub key-at : (k c x v : ℕ) → x < 4294967296 → le 4 (around k c x v) (length front + 4) ≡ x
  key-at k c x v h = le-behind 4 front (field_bytes k c x v ++ back) 4 ∙ key-field k c x v back h

  pub value-at : (k c x v : ℕ) → v < 18446744073709551616 → le 8 (around k c x v) (length front + 8) ≡ v
  value-at k c x v h = le-behind 8 front (field_bytes k c x v ++ back) 8 ∙ value-field k c x v back h

  room : (k c x v : ℕ) → length front + 16 ≤ length (around k c x v)
  unfolding field_bytes bytes
  room k c x v = omega (arith, length-append front (field_bytes k c x v ++ back))

  step_back : {e : Event} → Narrow e → is_no_step e ≡ false → step_at (front ++ (step_bytes e ++ back)) (length front) ≡ e
  unfolding step_bytes is_no_step
  step_back (narrow_open {s} h) n =
      open_kind (around 1 s 0 0) (length front) (room 1 s 0 0) (start 1 s 0 0 (omega arith))
      ∙ ap Open (second_at 1 s 0 0 h)
  step_back (narrow_read {x} {v} h g) n =
      read-kind (around 2 0 x v) (length front) (room 2 0 x v) (start 2 0 x v (omega arith))
      ∙ rw (key-at 2 0 x v h, value-at 2 0 x v g)
  step_back (narrow_write {x} {v} h g) n =
      write_kind (around 3 0 x v) (length front) (room 3 0 x v) (start 3 0 x v (omega arith))
      ∙ rw (key-at 3 0 x v h, value-at 3 0 x v g)
  step_back (narrow_close {c} h) n =
      close_kind (around 4 c 0 0) (length front) (room 4 c 0 0) (start 4 c 0 0 (omega arith))
      ∙ ap Close (second_at 4 c 0 0 (omega arith))
  step_back (narrow_end h) n = absurd (true≢false n)

-- ── all of them ──

-- steps whose fields fit
pub data Fitting : List Event → Type 0 where
  fits_none : Fitting []
  fits_more : {e : Event} {es : List Event} → Narrow e → is_no_step e ≡ false → Fitting es → Fitting (e ∷ es)

fits_last : {es : List Event} {e : Event} → Fitting es → Narrow e → is_no_step e ≡ false → Fitting (es ++ (e ∷ []))
fits_last fits_none w n = fits_more w n fits_none
fits_last (fits_more v m f) w n = fits_more v m (fits_last f w n)

pub fitting : {es : List Event} {h : History} → Grown es h → EachSlim es → Fitting es
fitting grown_none s = fits_none
fitting (grown_step {es} e g t) s = fits_last (fitting g (slim_front es e s)) (narrow t (slim_at es e [] s)) (taken_step t)

pub bytes_16 : {e : Event} → Narrow e → is_no_step e ≡ false → length (step_bytes e) ≡ 16
unfolding step_bytes field_bytes bytes is_no_step
bytes_16 (narrow_open h) n = refl
bytes_16 (narrow_read h g) n = refl
bytes_16 (narrow_write h g) n = refl
bytes_16 (narrow_close h) n = refl
bytes_16 (narrow_end h) n = absurd (true≢false n)

from : {es : List Event} → Fitting es → (front : List ℕ) (k : ℕ) → length front ≡ 16 * k → steps_from (front ++ joined step_bytes es) k ≡ es
unfolding steps_from joined
from fits_none front k l = listed_end (λ i. step_at (front ++ []) (16 * i) ∷ []) k (step_count (front ++ [])) (omega (arith, length-append front []))
from (fits_more {e} {es} w n f) front k l =
    let s : List ℕ = front ++ (step_bytes e ++ joined step_bytes es) in
    let b = bytes_16 w n in
    let here : step_at s (16 * k) ≡ e = rw (← l) (step_back front (joined step_bytes es) w n) in
    let m : length (front ++ step_bytes e) ≡ 16 * (k + 1) = omega (arith, length-append front (step_bytes e)) in
    listed-step (λ i. step_at s (16 * i) ∷ []) k (step_count s) (omega (arith, length-append front (step_bytes e ++ joined step_bytes es), length-append (step_bytes e) (joined step_bytes es)))
    ∙ rw here (ap (λ (t : List Event). e ∷ t) (rw (← append_assoc front (step_bytes e) (joined step_bytes es)) (from f (front ++ step_bytes e) (k + 1) m)))

-- a grown history's steps, as bytes and back
pub steps_back : {es : List Event} {h : History} → Grown es h → EachSlim es → steps_in (joined step_bytes es) ≡ es
steps_back g s = from (fitting g s) [] 0 refl

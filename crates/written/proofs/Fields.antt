-- A record whose event is a step's has the step's kind and fields.
use Prim.Native.Nat.{ℕ, ◌*◌, ◌≤◌}
use mathlib.Core.Path.{◌≡◌, sym, ◌∙◌}
use mathlib.Core.List.{List}
use native.Mathlib.Omega.{arith}
use Rattle.rules.specs.History.{History, tx_count}
use Rattle.rules.specs.Records.{event_at}
use Rattle.rules.specs.declared.Event.{Event}
use Rattle.rules.specs.declared.Event.TheVariants.{Open, Read, Write, Close, End}
use Rattle.demand1.specs.Rows.{kind, session, key, value, status, end_number}
use Rattle.demand1.proofs.Events.{Framed, ShapeOf, open_record, read_record, write_record, close_record, end_record, note_record, edition_record, append_record, list_record, shape_of, open_event, read-event, write_event, close_event, end_event}
use Rattle.writing.specs.Steps.{step_at}
use Rattle.writing.specs.Writing.{item_of}
use Rattle.written.specs.Steps.{kind_behind, session_behind, status_behind, key_behind, value_behind, OtherKind}
use Rattle.written.specs.Writes.{IsStepRecord, an_open, a_read, a_write, a_close, IsEndRecord}
use Rattle.written.proofs.Checks.{is-other, step_kinded, step_high}
use Rattle.written.proofs.Records.{Narrow, narrow_open, narrow_read, narrow_write, narrow_close, narrow_end}

-- an event with fields that fit is none of another kind
kind_least : {e : Event} → Narrow e → 1 ≤ (item_of e).kind
unfolding item_of
kind_least (narrow_open l) = omega arith
kind_least (narrow_read l k) = omega arith
kind_least (narrow_write l k) = omega arith
kind_least (narrow_close l) = omega arith
kind_least (narrow_end l) = omega arith

module _ (b : List ℕ) (at : ℕ) (f : Framed b at) where
  pub step-fields : (s : List ℕ) (k : ℕ) (h : History) → Narrow (step_at s (16 * k)) → kind b at ≡ (item_of (step_at s (16 * k))).kind → event_at b at ≡ step_at s (16 * k) → IsStepRecord b at s k
  unfolding item_of
  step-fields s k h w q e = by (shape_of (step_kinded s k h known))
    where
      known : OtherKind s k → ⊥
      known o = let l = kind_least w in omega (arith, rw (is-other s k h o) at l)

      by : ShapeOf (kind_behind s k) (session_behind s k) (key_behind s k) (value_behind s k) (status_behind s k) (tx_count h) 0 (step_at s (16 * k)) → IsStepRecord b at s k
      by (open_record x i) =
          let m : kind b at ≡ 1 = q ∙ rw i in
          let z : Open (session b at) ≡ Open (session_behind s k) = sym (open_event f m) ∙ e ∙ i in
          let a : session b at ≡ session_behind s k = cc in
          an_open m x a
      by (read_record x i) =
          let m : kind b at ≡ 2 = q ∙ rw i in
          let z : Read (key b at) (value b at) ≡ Read (key_behind s k) (value_behind s k) = sym (read-event f m) ∙ e ∙ i in
          let a : key b at ≡ key_behind s k = cc in
          let c : value b at ≡ value_behind s k = cc in
          a_read m x a c
      by (write_record x i) =
          let m : kind b at ≡ 3 = q ∙ rw i in
          let z : Write (key b at) (value b at) ≡ Write (key_behind s k) (value_behind s k) = sym (write_event f m) ∙ e ∙ i in
          let a : key b at ≡ key_behind s k = cc in
          let c : value b at ≡ value_behind s k = cc in
          a_write m x a c
      by (close_record x i) =
          let m : kind b at ≡ 4 = q ∙ rw i in
          let z : Close (status b at) ≡ Close (status_behind s k) = sym (close_event f m) ∙ e ∙ i in
          let a : status b at ≡ status_behind s k = cc in
          a_close m x a
      by (end_record x i) = absurd (omega (arith, step_high s k h known))
      by (note_record x i) = absurd (omega (arith, step_high s k h known))
      by (edition_record x i) = absurd (omega (arith, step_high s k h known))
      by (append_record x i) = absurd (omega (arith, step_high s k h known))
      by (list_record x i) = absurd (omega (arith, step_high s k h known))

  pub end_fields : (n : ℕ) → kind b at ≡ 5 → event_at b at ≡ End n → IsEndRecord b at n
  end_fields n q e =
      let z : End (end_number b at) ≡ End n = sym (end_event f q) ∙ e in
      let a : end_number b at ≡ n = cc in
      record { ends = q; number = a }

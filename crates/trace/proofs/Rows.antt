-- A record's rows: 3 to 10, and 17 behind them.
use Rattle.std.proofs.Common.{◌≡◌, ℕ, ◌<◌, Bool, true, false, List, [], ◌∷◌, ◌++◌, sym, refl, ap, ◌∙◌, ⊎_elim, append_assoc, arith}
use Rattle.base.specs.Base.{pick, Row, row, first_fit}
use Rattle.base.proofs.Tests.{split}
use Rattle.base.proofs.Rows.{RowsCounted, fit_append, fit_behind}
use Rattle.rules.specs.History.{History}
use Rattle.rules.specs.Records.{is_second, event_at, frame_rows}
use Rattle.rules.specs.Reading.{step_rows, mixes, mix_rows, met, refusal_no}
use Rattle.rules.specs.declared.Event.{Event}
use Rattle.frame.proofs.Frames.{behind}
use Rattle.trace.specs.Turns.{state_at, met_at, no_at}

one_row : (b : Bool) (n : ℕ) → first_fit (row b n ∷ []) ≡ pick b n 0
unfolding first_fit pick
one_row true n = refl
one_row false n = refl

steps-counted : (h : History) (t : ℕ) (e : Event) → RowsCounted (step_rows h t e)
unfolding step_rows RowsCounted
steps-counted h t e = (omega arith, (omega arith, (omega arith, (omega arith, tt))))

module _ (s : List ℕ) (at serial : ℕ) (h : History) (notes : ℕ) where
  abbrev frame : List Row
  frame = frame_rows (is_second s) s at serial

  abbrev step : List Row
  step = step_rows h (met_at s at h) (event_at s at)

  abbrev mix : List Row
  mix = mix_rows h (event_at s at)

  refusal-rows : refusal_no s (state_at at serial h notes) ≡ first_fit ((frame ++ step) ++ mix)
  unfolding refusal_no met
  refusal-rows = refl

  -- one of rows 3 to 10 refuses
  pub refused_plain : 0 < no_at s at serial h → refusal_no s (state_at at serial h notes) ≡ no_at s at serial h
  unfolding no_at
  refused_plain p = refusal-rows ∙ fit_append (frame ++ step) mix p

  -- none does: row 17 decides
  module _ (z : no_at s at serial h ≡ 0) where
    frame-none : first_fit frame ≡ 0
    unfolding no_at
    frame-none = ⊎_elim (λ (l : 0 < first_fit frame). absurd (omega (arith, fit_append frame step l, z))) (λ g. omega arith) (split 0 (first_fit frame))

    step-none : first_fit step ≡ 0
    unfolding no_at
    step-none = sym (behind (is_second s) s at serial step frame-none) ∙ z

    pub refused_mixed : {b : Bool} → mixes h (event_at s at) ≡ b → refusal_no s (state_at at serial h notes) ≡ pick b 17 0
    unfolding mix_rows
    refused_mixed {b} e =
        refusal-rows ∙ ap first_fit (append_assoc frame step mix) ∙ behind (is_second s) s at serial (step ++ mix) frame-none
        ∙ fit_behind step mix (steps-counted h (met_at s at h) (event_at s at)) step-none ∙ rw e (one_row b 17)

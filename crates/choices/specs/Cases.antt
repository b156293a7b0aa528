-- Traces and what they are with the second transaction taken as committed and any other unanswered one as aborted. As in document 01's tables: a table and
-- one statement.
use Rattle.std.specs.Prelude.{ℕ, ◌≡◌, refl, Bool, List, [], ◌∷◌, ◌++◌, map, eqb}
use Rattle.rules.specs.Traces.{trace, whole, overlapping, edition, opens, closes, closes_of, ends, note, block, T, U, r, w, r_of, w_of}
use Rattle.rules.proofs.Edges.{as_they_should}
use Rattle.choices.specs.Choices.{outcome_of, is_unanswered_close, chosen_at, chosen_from, chosen_bytes}

abbrev second : ℕ → Bool
second t = eqb t 2

-- a trace, and the one with the chosen outcomes
pub record ChoiceCase : Type 0 where
  pub bytes : List ℕ
  pub out : List ℕ

abbrev choice_case : List ℕ → List ℕ → ChoiceCase
choice_case b o = record { bytes = b; out = o }

abbrev pub choice_table : List ChoiceCase
choice_table =
    -- none is unanswered, whatever else is 2
    choice_case [] []
    ∷ choice_case (whole 2 (T 2 (w 2 2 ∷ note (2 ∷ 2 ∷ []) ∷ []) ++ block 2 0 (r 2 2 ∷ []))) (whole 2 (T 2 (w 2 2 ∷ note (2 ∷ 2 ∷ []) ∷ []) ++ block 2 0 (r 2 2 ∷ [])))
    -- the second is chosen, the others are not
    ∷ choice_case (whole 4 (U 1 (w 1 5 ∷ []) ++ U 1 (w 1 6 ∷ []) ++ T 2 (r 1 6 ∷ []) ++ U 3 []))
    (whole 4 (block 1 0 (w 1 5 ∷ []) ++ block 1 1 (w 1 6 ∷ []) ++ T 2 (r 1 6 ∷ []) ++ block 3 0 []))
    -- a refused record, and what stands behind it
    ∷ choice_case (trace 0 (U 1 [] ++ closes 2 ∷ U 1 [] ++ ends 2 ∷ [])) (trace 0 (block 1 0 [] ++ closes 2 ∷ U 1 [] ++ ends 2 ∷ []))
    -- the end, and what stands behind it
    ∷ choice_case (trace 0 (U 1 [] ++ U 1 [] ++ ends 2 ∷ U 1 [])) (trace 0 (block 1 0 [] ++ block 1 1 [] ++ ends 2 ∷ U 1 []))
    -- one that is open still
    ∷ choice_case (trace 0 (U 1 [] ++ opens 2 ∷ [])) (trace 0 (block 1 0 [] ++ opens 2 ∷ []))
    -- edition 2, two that overlap: each gets its own outcome, whichever is closed first, and the sessions stay
    ∷ choice_case (overlapping 2 (opens 1 ∷ opens 2 ∷ w_of 1 1 5 ∷ w_of 2 1 6 ∷ closes_of 1 2 ∷ r_of 2 2 2 ∷ closes_of 2 2 ∷ []))
    (overlapping 2 (opens 1 ∷ opens 2 ∷ w_of 1 1 5 ∷ w_of 2 1 6 ∷ closes_of 1 0 ∷ r_of 2 2 2 ∷ closes_of 2 1 ∷ []))
    ∷ choice_case (overlapping 2 (opens 1 ∷ opens 2 ∷ closes_of 2 2 ∷ closes_of 1 2 ∷ []))
    (overlapping 2 (opens 1 ∷ opens 2 ∷ closes_of 2 1 ∷ closes_of 1 0 ∷ []))
    -- answered ones of session 2 and of session 514, whose two bytes are 2; then a close of a session with none open
    ∷ choice_case (trace 0 (edition 2 ∷ opens 2 ∷ opens 514 ∷ closes_of 2 1 ∷ closes_of 514 0 ∷ closes_of 2 2 ∷ ends 2 ∷ []))
    (trace 0 (edition 2 ∷ opens 2 ∷ opens 514 ∷ closes_of 2 1 ∷ closes_of 514 0 ∷ closes_of 2 2 ∷ ends 2 ∷ []))
    ∷ []

abbrev pub chosen_so : ChoiceCase → ChoiceCase
chosen_so c = choice_case c.bytes (chosen_bytes second c.bytes)

pub as_chosen : map chosen_so choice_table ≡ choice_table
unfolding as_they_should outcome_of is_unanswered_close chosen_at chosen_from chosen_bytes
as_chosen = refl

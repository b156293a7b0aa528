-- Inputs and what the programs print of them: a table and one statement each.
use Rattle.std.specs.Prelude.{ℕ, ◌≡◌, refl, true, false, List, [], ◌∷◌, ◌++◌, map}
use Rattle.rules.specs.Numbers.{bytes}
use Rattle.rules.specs.Traces.{trace, opens, w, closes, ends, note, edition, w_of, closes_of}
use Rattle.text.specs.Lines.{text, notes_line}
use Rattle.text.proofs.Cases.{as_printed}
use Rattle.moving.proofs.Cases.{as_moved}
use Rattle.telling.specs.Telling.{work_text, made_text, given_text, again_text, rewritten_text, moved_text, tallied_text, notes_text}

-- ── a serial and steps ──

pub record GivenText : Type 0 where
  pub bytes : List ℕ
  pub text : List ℕ

abbrev gives : List ℕ → List ℕ → GivenText
gives g t = record { bytes = g; text = t }

abbrev pub handed_table : List GivenText
handed_table =
    -- no serial
    gives (0 ∷ 0 ∷ 0 ∷ []) (text "refused 3 0\n")
    -- no steps; an open of session 7 and its close; the open alone; one byte
    ∷ gives (bytes 4 9) (trace 9 (ends 0 ∷ []))
    ∷ gives (bytes 4 9 ++ open_step ++ close_step) (trace 9 (opens 7 ∷ closes 1 ∷ ends 1 ∷ []))
    ∷ gives (bytes 4 9 ++ open_step) (text "refused 7 2\n")
    ∷ gives (bytes 4 9 ++ (1 ∷ [])) (text "refused 6 1\n")
    ∷ []
  where
    open_step : List ℕ
    open_step = bytes 2 1 ++ bytes 2 7 ++ bytes 4 0 ++ bytes 8 0

    close_step : List ℕ
    close_step = bytes 2 4 ++ bytes 2 1 ++ bytes 4 0 ++ bytes 8 0

abbrev pub given_now : GivenText → GivenText
given_now c = gives c.bytes (given_text c.bytes)

unfoldable pub as_handed : map given_now handed_table ≡ handed_table
unfolding as_printed as_moved work_text made_text given_text again_text rewritten_text moved_text tallied_text notes_text notes_line
as_handed = refl

-- ── a trace ──

-- what `rewrite`, `to_edition_1` and `to_edition_2` print of it, and the last on standard error
pub record TraceTexts : Type 0 where
  pub bytes : List ℕ
  pub again : List ℕ
  pub first : List ℕ
  pub second : List ℕ
  pub notes : List ℕ

abbrev texts : List ℕ → List ℕ → List ℕ → List ℕ → List ℕ → TraceTexts
texts s a x y n = record { bytes = s; again = a; first = x; second = y; notes = n }

-- T1 w1=5 with two notes; T1 w1=5, aborted, around T2 w1=6; an end inside a transaction
abbrev noteful : List ℕ
noteful = trace 5 (note (7 ∷ []) ∷ opens 1 ∷ note [] ∷ w 1 5 ∷ closes 1 ∷ ends 1 ∷ [])

abbrev around : List ℕ
around = trace 0 (edition 2 ∷ opens 1 ∷ opens 2 ∷ w_of 2 1 6 ∷ w_of 1 1 5 ∷ closes_of 2 1 ∷ closes_of 1 0 ∷ ends 2 ∷ [])

abbrev torn : List ℕ
torn = trace 0 (opens 1 ∷ ends 1 ∷ [])

abbrev pub trace_table : List TraceTexts
trace_table =
    texts noteful (trace 5 (opens 1 ∷ w 1 5 ∷ closes 1 ∷ ends 1 ∷ [])) noteful (trace 5 (edition 2 ∷ opens 1 ∷ w_of 1 1 5 ∷ closes_of 1 1 ∷ ends 1 ∷ []))
    (text "notes 2\n")
    ∷ texts around (text "refused 6 0\n") (trace 0 (opens 1 ∷ w 1 5 ∷ closes 0 ∷ opens 2 ∷ w 1 6 ∷ closes 1 ∷ ends 2 ∷ [])) around (text "notes 0\n")
    ∷ texts torn (text "refused 7 10\n") (text "refused 7 10\n") (text "refused 7 10\n") []
    ∷ []

abbrev pub texts_now : TraceTexts → TraceTexts
texts_now c = texts c.bytes (rewritten_text c.bytes) (moved_text false c.bytes) (moved_text true c.bytes) (notes_text c.bytes)

pub as_told : map texts_now trace_table ≡ trace_table
unfolding as_handed
as_told = refl

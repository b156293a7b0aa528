-- The lists in the buffers: the lines of their entries are those of the history.
use Prim.Native.Nat.{ℕ, ◌+◌, ◌*◌, ◌<◌}
use mathlib.Core.Path.{◌≡◌, refl, ◌∙◌}
use mathlib.Core.List.{List}
use native.Mathlib.Omega.{arith}
use lib.ListN.{length, get_or}
use Rattle.base.specs.Base.{joined}
use Rattle.rules.specs.Numbers.{le, over}
use Rattle.rules.specs.History.{History, origin_of}
use Rattle.rules.specs.Outcome.{Pair, findings, finding_bytes, finding_list, pairs, pair_bytes, pair_list}
use Rattle.text.specs.Lines.{pair_line}
use Rattle.text.specs.Answer.{finding_text, pair_text}
use Rattle.entries.specs.declared.Lines.TheVariants.{ReadLines, PairLines}
use Rattle.entries.specs.Entries.{pair_entry, entry_line, list_text}
use Rattle.entries.proofs.Entries.{byte_at, number_at, listed-joined}

-- ── the two lists ──

module _ (h : History) (b : List ℕ) where
  finding_line : (j : ℕ) → j < length (findings h) → entry_line ReadLines (over (finding_list h) b) j ≡ finding_text h (get_or (findings h) j 0)
  unfolding finding_list finding_bytes finding_text entry_line le
  finding_line j l =
      let i = get_or (findings h) j 0 in
      let byte = byte_at (finding_bytes h) 6 (λ i. refl) 0 (findings h) b j l in
      let number = number_at (finding_bytes h) 6 (λ i. refl) 0 (findings h) b j l in
      let n : le 2 (over (finding_list h) b) (6 * j + 2) ≡ i = number 2 (omega arith) ∙ omega arith in
      let w : le 2 (over (finding_list h) b) (6 * j + 4) ≡ origin_of h i = number 4 (omega arith) ∙ omega arith in
      rw (byte 0 (6 * j) (omega arith) (omega arith), byte 1 (6 * j + 1) refl (omega arith), n, w)

  pub findings_lines : list_text ReadLines (over (finding_list h) b) (length (findings h)) ≡ joined (finding_text h) (findings h)
  unfolding list_text
  findings_lines = listed-joined (finding_text h) 0 (findings h) (entry_line ReadLines (over (finding_list h) b)) finding_line

  module _ (level : ℕ) where
    -- no entry
    abbrev no_pair : Pair
    no_pair = record { one = 0; two = 0 }

    pair_line_lem : (j : ℕ) → j < length (pairs h level) → entry_line PairLines (over (pair_list h level) b) j ≡ pair_text h level (get_or (pairs h level) j no_pair)
    unfolding pair_list pair_bytes pair_text pair_line pair_entry entry_line
    pair_line_lem j l =
        let byte = byte_at (pair_bytes h level) 4 (λ p. refl) no_pair (pairs h level) b j l in
        rw (byte 0 (4 * j) (omega arith) (omega arith), byte 1 (4 * j + 1) refl (omega arith), byte 2 (4 * j + 2) refl (omega arith))

    pub pairs_lines : list_text PairLines (over (pair_list h level) b) (length (pairs h level)) ≡ joined (pair_text h level) (pairs h level)
    unfolding list_text
    pairs_lines = listed-joined (pair_text h level) no_pair (pairs h level) (entry_line PairLines (over (pair_list h level) b)) pair_line_lem

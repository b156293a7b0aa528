-- The worked traces and the numbers of specs/Cases.antt are printed as its tables say.
use Rattle.std.specs.Prelude.{◌≡◌, refl, [], ◌∷◌, map}
use Rattle.rules.proofs.Edges.{as_they_should}
use Rattle.text.specs.Lines.{text, decimal_by, decimal, field, fields, line, level_word, refused_line, rejected_line, accepted_line, read_line, pair_line, notes_line}
use Rattle.text.specs.Digits.{denoted_from, denoted}
use Rattle.text.specs.Answer.{finding_text, pair_text, block_text, reading_text, answer_text}
use Rattle.text.specs.Cases.{text_table, to_print, line_table}

-- `as_they_should` unfolds all that the outcome is computed with
unfoldable pub as_printed : map to_print text_table ≡ text_table
unfolding as_they_should decimal_by decimal field fields line level_word refused_line rejected_line accepted_line read_line pair_line finding_text pair_text block_text reading_text answer_text
as_printed = refl

pub as_spelt : line_table ≡ map text ("0" ∷ "9" ∷ "10" ∷ "1024" ∷ "refused 2 32768\n" ∷ "rc accepted 0 127\n" ∷ "tcc rejected 10 16256\n" ∷ "read 127 1024 6 1023\n" ∷ "notes 0\n" ∷ "notes 4094\n" ∷ [])
unfolding as_printed notes_line
as_spelt = refl

-- and read back
pub as_denoted : map (λ s. denoted (text s)) ("0" ∷ "9" ∷ "10" ∷ "1024" ∷ []) ≡ 0 ∷ 9 ∷ 10 ∷ 1024 ∷ []
unfolding denoted_from denoted
as_denoted = refl

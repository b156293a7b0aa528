-- The words of specs/WordCases.antt mean what its table says.
use Rattle.std.specs.Prelude.{◌≡◌, refl, map}
use Rattle.base.specs.Base.{◌and◌, ◌or◌, pick, some_of, first_of, some, first}
use Rattle.text.specs.Lines.{level_word}
use Rattle.text.specs.Digits.{denoted_from, denoted}
use Rattle.claims_rules.specs.Words.{is_same_word, is_word_of, level_named, is_other, is_short, number_named}
use Rattle.claims_rules.specs.WordCases.{word_table, now_meant}

pub as_meant : map now_meant word_table ≡ word_table
unfolding ◌and◌ ◌or◌ pick some_of first_of some first level_word denoted_from denoted is_same_word is_word_of level_named is_other is_short number_named
as_meant = refl

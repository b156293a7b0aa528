-- The cases of specs/Cases.antt are answered and told as its tables say.
use Rattle.std.specs.Prelude.{◌≡◌, refl, [], ◌∷◌, ◌++◌, map}
use Rattle.rules.proofs.Edges.{as_they_should}
use Rattle.theory.specs.Order.{place}
use Rattle.text.proofs.Cases.{as_printed}
use Rattle.deciding.proofs.Cases.{as_decided}
use Rattle.claims_rules.specs.Claims.{unclean, is_stray, is_missing, has_members, is_backwards, second_of, is_first, least_first, pair_reply, claimed_in, claimed_read, claimed}
use Rattle.claims_rules.specs.Lines.{reply_line}
use Rattle.claims_rules.specs.Numbers.{reply_no, reply_bytes, claimed_in_numbers}
use Rattle.claims_rules.specs.Cases.{claim_table, now_claimed, low, none, told_table, now_told, room, held_by}

-- this statement carries along what it unfolds
unfoldable pub as_claimed : map now_claimed claim_table ≡ claim_table
unfolding as_they_should place unclean is_stray is_missing has_members is_backwards second_of is_first least_first pair_reply claimed_in claimed_read claimed
as_claimed = refl

pub as_replied : map now_told told_table ≡ told_table
unfolding as_printed as_decided reply_line reply_no reply_bytes
as_replied = refl

pub as_held : map held_by (0 ∷ 3 ∷ 4 ∷ 11 ∷ 19 ∷ 20 ∷ 22 ∷ [])
    ≡ []
    ∷ room 3
    ∷ none
    ∷ (none ++ low 1 0 ++ room 3)
    ∷ (none ++ low 1 0 ++ none ++ none ++ room 3)
    ∷ (none ++ low 1 0 ++ none ++ none ++ none)
    ∷ (none ++ low 1 0 ++ none ++ none ++ none ++ room 2)
    ∷ []
unfolding as_claimed as_decided reply_no reply_bytes claimed_in_numbers
as_held = refl

use Rattle.std.proofs.Common.{◌≡◌, ◌∙◌, arith, rules}
use Rattle.moving.specs.Tally.{filled_of}
use Rattle.moving.proofs.Tally.{gives-second}
use Rattle.telling.proofs.Texts.{moved_does, told}
use Rattle.telling.proofs.edition_2_text.Goals as goal

pub text_of-requires : goal.text_of-requires
unfolding filled_of
text_of-requires c =
    let e : c.map-answer.result ≡ filled_of c.to_edition_2.result = search rules in
    (gives-second _ _ _ _ c.to_edition_2.ensures e).within

pub returns : goal.returns
unfolding filled_of
returns c =
    let text = c.text_of.ensures in
    let e : c.map-answer.result ≡ filled_of c.to_edition_2.result = search rules in
    (text.0 ∙ told (moved_does _ _) (omega arith) (gives-second _ _ _ _ c.to_edition_2.ensures e), text.1)

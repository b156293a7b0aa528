use native.Mathlib.Omega.{arith}
use Rattle.rules.specs.Records.{read_key, written_key, written_value}
use Rattle.frame.proofs.Frames.{own-place}
use borrow.Author.Rules.{rules}
use Rattle.frame.proofs.read_list.Goals as goal

pub returns : goal.returns
unfolding read_key written_key written_value
returns c =
    let a = c.args.at in
    record {
      is = rw (c.list_place.ensures, c.u16_at-2.ensures, c.u32_at.ensures, c.u16_at.ensures);
      sound = record { single = omega arith; narrow = omega arith; placed = λ l z. own-place a c.u16_at-2.result c.list_place.ensures z };
    }

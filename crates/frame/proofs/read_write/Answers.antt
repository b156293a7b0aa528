use native.Mathlib.Omega.{arith}
use Rattle.rules.specs.Records.{read_key, written_key, written_value}
use borrow.Author.Rules.{rules}
use Rattle.frame.proofs.read_write.Goals as goal

pub returns : goal.returns
unfolding read_key written_key written_value
returns c at =
    record {
      is = rw (c.u64_at.ensures, c.u32_at.ensures, c.session_in.ensures, c.fields_from-from.ensures);
      sound = record { single = omega arith; narrow = omega arith; placed = λ l. absurd (omega arith) };
    }

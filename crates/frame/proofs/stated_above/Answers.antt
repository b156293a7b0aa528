use mathlib.Core.Bool.{true}
use native.Mathlib.Omega.{arith}
use Rattle.base.specs.Base.{◌and◌, pick}
use Rattle.rules.specs.Records.{is_append, is_list_read, event_of, read_key, written_key}
use Rattle.frame.specs.Framing.{session_of}
use Rattle.frame.proofs.Frames.{of_kind, other-event}
use Rattle.frame.proofs.stated_above.Goals as goal

pub read_append-requires : goal.read_append-requires
read_append-requires c = omega (arith, (c.requires.1.append c.in-23.is).1)

pub read_list-requires : goal.read_list-requires
read_list-requires c = omega (arith, (c.requires.1.list c.in-24.is).1)

pub returns-in-23 : goal.returns-in-23
unfolding event_of is_append ◌and◌ pick session_of
returns-in-23 c = of_kind true c.args.at _ c.in-23.is (c.read_append.ensures _)

pub returns-in-24 : goal.returns-in-24
unfolding event_of is_append is_list_read ◌and◌ pick session_of
returns-in-24 c = of_kind true c.args.at _ c.in-24.is c.read_list.ensures

pub returns-in_default : goal.returns-in_default
unfolding session_of read_key written_key
returns-in_default c =
    let r = c.in_default.in_default-own.rest in
    record { is = rw (other-event _ c.args.at _ c.args.p.now c.requires.0 r.0.1 r.1); sound = record { single = omega arith; narrow = omega arith; placed = λ l. absurd (omega arith) } }

use mathlib.Core.Path.{refl}
use native.Mathlib.Omega.{arith}
use Rattle.base.specs.Base.{pick}
use Rattle.rules.specs.Records.{event_of, read_key, written_key}
use Rattle.frame.specs.Framing.{session_of, Above}
use Rattle.frame.proofs.Frames.{long_enough, leasts, of_kind, says_nothing, long_above, above_same}
use Rattle.frame.proofs.stated_of.Goals as goal

pub read_open-requires : goal.read_open-requires
unfolding event_of pick session_of read_key written_key
read_open-requires c = long_enough c.args.second c.args.p.now c.in-1.is c.requires (leasts c.args.second).opens

pub read_read-requires : goal.read_read-requires
unfolding event_of pick session_of read_key written_key
read_read-requires c = long_enough c.args.second c.args.p.now c.in-2.is c.requires (leasts c.args.second).reads

pub read_write-requires : goal.read_write-requires
unfolding event_of pick session_of read_key written_key
read_write-requires c = long_enough c.args.second c.args.p.now c.in-3.is c.requires (leasts c.args.second).writes

pub read_close-requires : goal.read_close-requires
unfolding event_of pick session_of read_key written_key
read_close-requires c = long_enough c.args.second c.args.p.now c.in-4.is c.requires (leasts c.args.second).closes

pub read_end-requires : goal.read_end-requires
unfolding event_of pick session_of read_key written_key
read_end-requires c = long_enough c.args.second c.args.p.now c.in-5.is c.requires (leasts c.args.second).ends

pub stated_above-requires : goal.stated_above-requires
stated_above-requires c =
    let r = c.in_default.in_default-own.rest in
    let u : Above c.args.kind = λ l m. omega (arith, r.1, r.0.1, r.0.0.1, r.0.0.0.1, r.0.0.0.0.1, r.0.0.0.0.0.1) in
    (u, long_above c.args.second _ _ u c.requires)

pub returns-in-1 : goal.returns-in-1
unfolding event_of pick session_of read_key written_key
returns-in-1 c = let a = c.args in says_nothing a.second a.at _ c.in-1.is c.read_open.ensures refl refl

pub returns-in-2 : goal.returns-in-2
unfolding event_of pick session_of read_key written_key
returns-in-2 c = let a = c.args in of_kind a.second a.at _ c.in-2.is (c.read_read.ensures _)

pub returns-in-3 : goal.returns-in-3
unfolding event_of pick session_of read_key written_key
returns-in-3 c = let a = c.args in of_kind a.second a.at _ c.in-3.is (c.read_write.ensures _)

pub returns-in-4 : goal.returns-in-4
unfolding event_of pick session_of read_key written_key
returns-in-4 c = let a = c.args in says_nothing a.second a.at _ c.in-4.is c.read_close.ensures refl refl

pub returns-in-5 : goal.returns-in-5
unfolding event_of pick session_of read_key written_key
returns-in-5 c = let a = c.args in says_nothing a.second a.at _ c.in-5.is c.read_end.ensures refl refl

pub returns-in-6 : goal.returns-in-6
unfolding event_of pick session_of read_key written_key
returns-in-6 c = let a = c.args in says_nothing a.second a.at _ c.in-6.is refl refl refl

pub returns-in_default : goal.returns-in_default
returns-in_default c =
    let r = c.in_default.in_default-own.rest in
    let u : Above c.args.kind = λ l m. omega (arith, r.1, r.0.1, r.0.0.1, r.0.0.0.1, r.0.0.0.0.1, r.0.0.0.0.0.1) in
    rw (← above_same c.args.second c.args.at c.args.kind c.args.p.now u (λ e. (c.requires.append e).0) (λ e. (c.requires.list e).0))
    c.stated_above.ensures
